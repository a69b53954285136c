use Rattle.post_laws.proofs.Keeps.{runs_keep_post}
use Rattle.post_laws.proofs.laws.runs_keep_post.Goals as goal

pub returns : goal.returns
returns c = runs_keep_post
