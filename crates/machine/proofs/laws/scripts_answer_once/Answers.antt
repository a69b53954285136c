use Rattle.machine.proofs.Scripts.{scripts_answer_once}
use Rattle.machine.proofs.laws.scripts_answer_once.Goals as goal

pub returns : goal.returns
returns c = scripts_answer_once
