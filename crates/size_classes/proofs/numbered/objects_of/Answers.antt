use Rattle.std.proofs.Common.{sym, ◌∙◌}
use Rattle.size_classes.proofs.Numbers.{no_objects}
use Rattle.size_classes.proofs.numbered.objects_of.Goals as goal

pub returns-in-None : goal.returns-in-None
returns-in-None c = sym (no_objects c.args.number (sym c.of_number.ensures ∙ c.in-None.is))
