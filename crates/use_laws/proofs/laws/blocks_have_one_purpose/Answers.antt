use Rattle.use_laws.proofs.Bare.{blocks_have_one_purpose}
use Rattle.use_laws.proofs.laws.blocks_have_one_purpose.Goals as goal

pub returns : goal.returns
returns c = blocks_have_one_purpose
