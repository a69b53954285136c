use Rattle.trace_reader.proofs.NamesInTurn.{names_are_bound_in_turn}
use Rattle.trace_reader.proofs.laws.names_are_bound_in_turn.Goals as goal

pub returns : goal.returns
returns c = names_are_bound_in_turn
