use Rattle.bin_laws.proofs.Stays.{others_leave_locked_lists}
use Rattle.bin_laws.proofs.laws.others_leave_locked_lists.Goals as goal

pub returns : goal.returns
returns c = others_leave_locked_lists
