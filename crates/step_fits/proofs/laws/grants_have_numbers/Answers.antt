use Rattle.step_fits.proofs.Follows.{grants_have_numbers}
use Rattle.step_fits.proofs.laws.grants_have_numbers.Goals as goal

pub returns : goal.returns
returns c = grants_have_numbers
