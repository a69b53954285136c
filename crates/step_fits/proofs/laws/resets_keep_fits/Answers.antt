use Rattle.step_fits.proofs.Begun.{resets_keep_fits}
use Rattle.step_fits.proofs.laws.resets_keep_fits.Goals as goal

pub returns : goal.returns
returns c = resets_keep_fits
