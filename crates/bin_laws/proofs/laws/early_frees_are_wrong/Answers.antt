use Rattle.bin_laws.proofs.Examples.{early_frees_are_wrong}
use Rattle.bin_laws.proofs.laws.early_frees_are_wrong.Goals as goal

pub returns : goal.returns
returns c = early_frees_are_wrong
