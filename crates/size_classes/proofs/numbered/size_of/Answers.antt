use Rattle.std.proofs.Common.{sym, ◌∙◌}
use Rattle.size_classes.proofs.Numbers.{no_size}
use Rattle.size_classes.proofs.numbered.size_of.Goals as goal

pub returns-in-None : goal.returns-in-None
returns-in-None c = sym (no_size c.args.number (sym c.of_number.ensures ∙ c.in-None.is))
