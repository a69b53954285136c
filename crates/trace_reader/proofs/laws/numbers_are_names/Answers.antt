use Rattle.trace_reader.proofs.NamesInTurn as lemmas
use Rattle.trace_reader.proofs.laws.numbers_are_names.Goals as goal

pub returns : goal.returns
returns c = lemmas.numbers_are_names
