use Rattle.cache_tasks.proofs.Rooms.{good_sweeps_have_room}
use Rattle.cache_tasks.proofs.laws.good_sweeps_have_room.Goals as goal

pub returns : goal.returns
returns c = good_sweeps_have_room
