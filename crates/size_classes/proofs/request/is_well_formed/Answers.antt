use Rattle.std.proofs.Common.{sym, ◌∙◌}
use Rattle.size_classes.proofs.Powers.{is_power_of_two-is}
use Rattle.size_classes.proofs.request.is_well_formed.Goals as goal

pub returns-then-size-gt0 : goal.returns-then-size-gt0
returns-then-size-gt0 c = (
  λ two. (c.if-size-gt0.true, (is_power_of_two-is c.args.alignment).0 (sym c.is_power_of_two.ensures ∙ two)),
  λ asked. c.is_power_of_two.ensures ∙ (is_power_of_two-is c.args.alignment).1 asked.1,
)
