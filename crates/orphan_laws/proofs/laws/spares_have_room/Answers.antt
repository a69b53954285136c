use Rattle.orphan_laws.proofs.Examples.{spares_have_room}
use Rattle.orphan_laws.proofs.laws.spares_have_room.Goals as goal

pub returns : goal.returns
returns c = spares_have_room
