use Rattle.word_laws.proofs.Placing.{words_lie_in_row}
use Rattle.word_laws.proofs.laws.words_lie_in_row.Goals as goal

pub returns : goal.returns
returns c = words_lie_in_row
