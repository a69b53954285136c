use Rattle.part_model.proofs.Answered.{moves_answer_once}
use Rattle.part_model.proofs.laws.moves_answer_once.Goals as goal

pub returns : goal.returns
returns c = moves_answer_once
