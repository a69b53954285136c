use Rattle.step_fits.proofs.Turns.{turns_keep_fits}
use Rattle.step_fits.proofs.laws.turns_keep_fits.Goals as goal

pub returns : goal.returns
returns c = turns_keep_fits
