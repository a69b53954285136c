use Rattle.use_laws.proofs.Stays.{other_steps_leave_the_shelf}
use Rattle.use_laws.proofs.laws.other_steps_leave_the_shelf.Goals as goal

pub returns : goal.returns
returns c = other_steps_leave_the_shelf
