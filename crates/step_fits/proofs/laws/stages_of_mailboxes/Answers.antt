use Rattle.step_fits.proofs.Follows.{stages_of_mailboxes}
use Rattle.step_fits.proofs.laws.stages_of_mailboxes.Goals as goal

pub returns : goal.returns
returns c = stages_of_mailboxes
