use Rattle.run_laws.proofs.Texts.{texts_run_to_one}
use Rattle.run_laws.proofs.laws.texts_run_to_one.Goals as goal

pub returns : goal.returns
returns c = texts_run_to_one
