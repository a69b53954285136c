use Rattle.backend_tasks.proofs.Begun.{begins_keep_backend_fits}
use Rattle.backend_tasks.proofs.laws.begins_keep_backend_fits.Goals as goal

pub returns : goal.returns
returns c = begins_keep_backend_fits
