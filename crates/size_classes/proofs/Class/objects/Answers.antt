use Rattle.std.proofs.Common.{ap, ◌/◌}
use Rattle.pool_types.specs.Geometry.{objects_bytes}
use Rattle.size_classes.specs.Classes.{class_objects}
use Rattle.size_classes.proofs.Class.objects.Goals as goal

pub returns-clause-exact : goal.returns-clause-exact
unfolding class_objects
returns-clause-exact c = ap (λ z. objects_bytes / z) c.size.ensures.exact
