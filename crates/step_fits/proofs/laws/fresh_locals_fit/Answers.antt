use Rattle.step_fits.proofs.Begun.{fresh_locals_fit}
use Rattle.step_fits.proofs.laws.fresh_locals_fit.Goals as goal

pub returns : goal.returns
returns c = fresh_locals_fit
