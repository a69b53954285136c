use Rattle.part_model.proofs.Changes.{apart_moves_commute}
use Rattle.part_model.proofs.laws.apart_moves_commute.Goals as goal

pub returns : goal.returns
returns c = apart_moves_commute
