-- The law of turns with mail and with slabs that nobody keeps.
use Rattle.seat_ties.specs.Left.{Turned}
use Rattle.mail_moves.specs.Positions.{IsAtMail}

abbrev pub MailTurnsAreSteps : Type 0
MailTurnsAreSteps = Turned IsAtMail
