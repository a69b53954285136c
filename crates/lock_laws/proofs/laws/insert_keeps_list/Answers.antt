use Rattle.lock_laws.proofs.ListsInWords.{insert_keeps_list}
use Rattle.lock_laws.proofs.laws.insert_keeps_list.Goals as goal

pub returns : goal.returns
returns c = insert_keeps_list
