use Rattle.object_laws.proofs.Heads.{grant_ends_once}
use Rattle.object_laws.proofs.laws.grant_ends_once.Goals as goal

pub returns : goal.returns
returns c = grant_ends_once
