use Rattle.word_laws.proofs.Placing.{new_rows_are_fresh}
use Rattle.word_laws.proofs.laws.new_rows_are_fresh.Goals as goal

pub returns : goal.returns
returns c = new_rows_are_fresh
