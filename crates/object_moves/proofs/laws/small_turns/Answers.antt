use Rattle.object_moves.proofs.Grants.{small_turns}
use Rattle.object_moves.proofs.laws.small_turns.Goals as goal

pub returns : goal.returns
returns c = small_turns
