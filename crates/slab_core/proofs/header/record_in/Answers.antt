use Rattle.slab_core.proofs.HeaderLemmas.{unpacked_by_shifts}
use Rattle.slab_core.proofs.header.record_in.Goals as goal

pub returns : goal.returns
returns c = unpacked_by_shifts c.args.class c.args.index c.args.word c.object_in.result c.object_in.ensures
