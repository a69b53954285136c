use Rattle.seat_starts.proofs.Calls.{begins_are_here}
use Rattle.seat_starts.proofs.laws.begins_are_here.Goals as goal

pub returns : goal.returns
returns c = begins_are_here
