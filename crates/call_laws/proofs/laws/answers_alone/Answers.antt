use Rattle.call_laws.proofs.Turns.{answers_alone}
use Rattle.call_laws.proofs.laws.answers_alone.Goals as goal

pub returns : goal.returns
returns c = answers_alone
