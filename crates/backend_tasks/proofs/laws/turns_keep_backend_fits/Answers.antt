use Rattle.backend_tasks.proofs.FitTurns.{turns_keep_backend_fits}
use Rattle.backend_tasks.proofs.laws.turns_keep_backend_fits.Goals as goal

pub returns : goal.returns
returns c = turns_keep_backend_fits
