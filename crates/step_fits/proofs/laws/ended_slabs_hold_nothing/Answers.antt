use Rattle.step_fits.proofs.Follows.{ended_slabs_hold_nothing}
use Rattle.step_fits.proofs.laws.ended_slabs_hold_nothing.Goals as goal

pub returns : goal.returns
returns c = ended_slabs_hold_nothing
