use Rattle.seat_starts.proofs.Starts.{starts_tie}
use Rattle.seat_starts.proofs.laws.starts_tie.Goals as goal

pub returns : goal.returns
returns c = starts_tie
