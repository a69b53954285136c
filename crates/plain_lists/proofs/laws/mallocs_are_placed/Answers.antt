use Rattle.plain_lists.proofs.Placed.{mallocs_are_placed}
use Rattle.plain_lists.proofs.laws.mallocs_are_placed.Goals as goal

pub returns : goal.returns
returns c = mallocs_are_placed
