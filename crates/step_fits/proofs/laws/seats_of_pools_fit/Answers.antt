use Rattle.step_fits.proofs.Follows.{seats_of_pools_fit}
use Rattle.step_fits.proofs.laws.seats_of_pools_fit.Goals as goal

pub returns : goal.returns
returns c = seats_of_pools_fit
