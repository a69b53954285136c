use Rattle.step_fits.proofs.Follows.{cached_slabs_have_room}
use Rattle.step_fits.proofs.laws.cached_slabs_have_room.Goals as goal

pub returns : goal.returns
returns c = cached_slabs_have_room
