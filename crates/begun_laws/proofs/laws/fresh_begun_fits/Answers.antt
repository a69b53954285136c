use Rattle.begun_laws.proofs.Steps.{fresh_begun_fits}
use Rattle.begun_laws.proofs.laws.fresh_begun_fits.Goals as goal

pub returns : goal.returns
returns c = fresh_begun_fits
