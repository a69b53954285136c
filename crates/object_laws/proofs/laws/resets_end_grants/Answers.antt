use Rattle.object_laws.proofs.Named.{resets_end_grants}
use Rattle.object_laws.proofs.laws.resets_end_grants.Goals as goal

pub returns : goal.returns
returns c = resets_end_grants
