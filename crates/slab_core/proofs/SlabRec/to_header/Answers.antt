use Rattle.slab_core.proofs.HeaderLemmas.{packed_by_shifts}
use Rattle.slab_core.proofs.SlabRec.to_header.Goals as goal

pub returns : goal.returns
returns c = rw (c.from.ensures, c.from-2.ensures, c.head_word.ensures) (packed_by_shifts c.args.self.now c.requires)
