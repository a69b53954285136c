use Rattle.guard_laws.proofs.Covers.{named_blocks_are_covered}
use Rattle.guard_laws.proofs.laws.named_blocks_are_covered.Goals as goal

pub returns : goal.returns
returns c = named_blocks_are_covered
