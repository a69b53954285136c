use Rattle.call_laws.proofs.Turns.{turns_keep_calls}
use Rattle.call_laws.proofs.laws.turns_keep_calls.Goals as goal

pub returns : goal.returns
returns c = turns_keep_calls
