use Rattle.machine.proofs.Journals.{journals_tell_all}
use Rattle.machine.proofs.laws.journals_tell_all.Goals as goal

pub returns : goal.returns
returns c = journals_tell_all
