use Rattle.word_laws.proofs.Refuted.{stores_anywhere_are_wrong}
use Rattle.word_laws.proofs.laws.stores_anywhere_are_wrong.Goals as goal

pub returns : goal.returns
returns c = stores_anywhere_are_wrong
