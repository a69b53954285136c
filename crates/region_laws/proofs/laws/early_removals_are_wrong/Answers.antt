use Rattle.region_laws.proofs.Examples.{early_removals_are_wrong}
use Rattle.region_laws.proofs.laws.early_removals_are_wrong.Goals as goal

pub returns : goal.returns
returns c = early_removals_are_wrong c.named_region_stands.ensures
