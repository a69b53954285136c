use Rattle.post_laws.proofs.Premises.{adopters_have_the_orphan}
use Rattle.post_laws.proofs.laws.adopters_have_the_orphan.Goals as goal

pub returns : goal.returns
returns c = adopters_have_the_orphan
