use Rattle.put_moves.proofs.Puts.{puts_turn}
use Rattle.put_moves.proofs.laws.puts_turn.Goals as goal

pub returns : goal.returns
returns c = puts_turn
