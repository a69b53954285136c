use Rattle.post_laws.proofs.Premises.{returners_have_the_orphan}
use Rattle.post_laws.proofs.laws.returners_have_the_orphan.Goals as goal

pub returns : goal.returns
returns c = returners_have_the_orphan
