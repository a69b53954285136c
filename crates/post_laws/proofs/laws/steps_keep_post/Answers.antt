use Rattle.post_laws.proofs.Keeps.{steps_keep_post}
use Rattle.post_laws.proofs.laws.steps_keep_post.Goals as goal

pub returns : goal.returns
returns c = steps_keep_post
