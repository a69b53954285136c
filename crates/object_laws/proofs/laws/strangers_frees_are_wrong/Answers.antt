use Rattle.object_laws.proofs.Named.{strangers_frees_are_wrong}
use Rattle.object_laws.proofs.laws.strangers_frees_are_wrong.Goals as goal

pub returns : goal.returns
returns c = strangers_frees_are_wrong
