use Rattle.lock_laws.proofs.ListsInWords.{remove_keeps_list}
use Rattle.lock_laws.proofs.laws.remove_keeps_list.Goals as goal

pub returns : goal.returns
returns c = remove_keeps_list
