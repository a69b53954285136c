use Rattle.step_fits.proofs.Begun.{begins_keep_fits}
use Rattle.step_fits.proofs.laws.begins_keep_fits.Goals as goal

pub returns : goal.returns
returns c = begins_keep_fits
