use Rattle.begun_laws.proofs.Hands.{tied_seats_hold}
use Rattle.begun_laws.proofs.laws.tied_seats_hold.Goals as goal

pub returns : goal.returns
returns c = tied_seats_hold
