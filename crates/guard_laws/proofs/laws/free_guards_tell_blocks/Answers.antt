use Rattle.guard_laws.proofs.Tells.{free_guards_tell_blocks}
use Rattle.guard_laws.proofs.laws.free_guards_tell_blocks.Goals as goal

pub returns : goal.returns
returns c = free_guards_tell_blocks
