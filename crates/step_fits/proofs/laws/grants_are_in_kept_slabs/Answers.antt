use Rattle.step_fits.proofs.Follows.{grants_are_in_kept_slabs}
use Rattle.step_fits.proofs.laws.grants_are_in_kept_slabs.Goals as goal

pub returns : goal.returns
returns c = grants_are_in_kept_slabs
