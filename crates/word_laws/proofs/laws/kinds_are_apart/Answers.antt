use Rattle.word_laws.proofs.Placing.{kinds_are_apart}
use Rattle.word_laws.proofs.laws.kinds_are_apart.Goals as goal

pub returns : goal.returns
returns c = kinds_are_apart
