use Rattle.seat_starts.proofs.Calls.{answers_are_here}
use Rattle.seat_starts.proofs.laws.answers_are_here.Goals as goal

pub returns : goal.returns
returns c = answers_are_here
