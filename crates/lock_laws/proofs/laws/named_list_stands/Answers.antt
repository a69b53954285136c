use Rattle.lock_laws.proofs.Examples.{named_list_stands}
use Rattle.lock_laws.proofs.laws.named_list_stands.Goals as goal

pub returns : goal.returns
returns c = named_list_stands
