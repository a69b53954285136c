use Rattle.part_model.proofs.Changes.{moves_keep_one_holder}
use Rattle.part_model.proofs.laws.moves_keep_one_holder.Goals as goal

pub returns : goal.returns
returns c = moves_keep_one_holder
