use Rattle.object_moves.proofs.Posts.{posts_turn}
use Rattle.object_moves.proofs.laws.posts_turn.Goals as goal

pub returns : goal.returns
returns c = posts_turn
