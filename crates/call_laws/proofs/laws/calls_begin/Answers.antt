use Rattle.call_laws.proofs.Turns.{calls_begin}
use Rattle.call_laws.proofs.laws.calls_begin.Goals as goal

pub returns : goal.returns
returns c = calls_begin
