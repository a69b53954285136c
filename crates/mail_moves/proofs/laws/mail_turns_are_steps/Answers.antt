use Rattle.mail_moves.proofs.Turns.{mail_turns_are_steps}
use Rattle.mail_moves.proofs.laws.mail_turns_are_steps.Goals as goal

pub returns : goal.returns
returns c = mail_turns_are_steps
