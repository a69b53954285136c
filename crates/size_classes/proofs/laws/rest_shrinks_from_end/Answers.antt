use Rattle.size_classes.proofs.Places.{rest_shrinks_from_end}
use Rattle.size_classes.proofs.laws.rest_shrinks_from_end.Goals as goal

pub returns : goal.returns
returns c = rest_shrinks_from_end
