-- A turn with mail, or with slabs that nobody keeps, is steps of the whole.
use Rattle.pool_words.specs.declared.words.Key.{Key}
use Rattle.pool_laws.specs.Wholes.{Whole, WholeGood}
use Rattle.step_local.specs.declared.frames.At.{At}
use Rattle.step_local.specs.declared.frames.Local.{Local}
use Rattle.seat_ties.specs.Turns.{IsNoReset}
use Rattle.mail_moves.specs.Laws.{MailTurnsAreSteps}
use Rattle.mail_moves.specs.Positions.{IsMailAt}
use Rattle.mail_moves.proofs.Adopts.{adopt_turn}
use Rattle.mail_moves.proofs.Boxes.{box_turn, mail_turn}
use Rattle.mail_moves.proofs.Joins.{back_turn}
use Rattle.mail_moves.proofs.Leaves.{leave_turn, spare_turn}
use Rattle.mail_moves.proofs.Stays.{LeadsOn}

turn_at : (k : Key) (w : Whole) (l : Local) (at : At) → WholeGood k w → IsNoReset l → IsMailAt at
    → LeadsOn k w (record l { at = at })
turn_at k w l (At.Mail at) good calm is = mail_turn k w l at
turn_at k w l (At.Mailbox at) good calm is = box_turn k w l at good
turn_at k w l (At.Adopt at) good calm is = adopt_turn k w l at good
turn_at k w l (At.Join e rest at) good calm is = back_turn k w l e rest at good calm
turn_at k w l (At.Spare at) good calm is = spare_turn k w l at
turn_at k w l (At.Leave e at) good calm is = leave_turn k w l e at good
turn_at k w l _ good calm is = absurd is

pub mail_turns_are_steps : MailTurnsAreSteps
mail_turns_are_steps k w l good tied calm word suits is = turn_at k w l l.at good calm is tied word suits
