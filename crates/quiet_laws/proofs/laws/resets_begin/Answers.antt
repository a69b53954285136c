use Rattle.quiet_laws.proofs.Begun.{resets_begin}
use Rattle.quiet_laws.proofs.laws.resets_begin.Goals as goal

pub returns : goal.returns
returns c = resets_begin
