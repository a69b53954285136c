use Rattle.seat_ties.proofs.Scans.{scans_say_on}
use Rattle.seat_ties.proofs.laws.scans_say_on.Goals as goal

pub returns : goal.returns
returns c = scans_say_on
