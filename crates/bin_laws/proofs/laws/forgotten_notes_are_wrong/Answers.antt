use Rattle.bin_laws.proofs.Examples.{forgotten_notes_are_wrong}
use Rattle.bin_laws.proofs.laws.forgotten_notes_are_wrong.Goals as goal

pub returns : goal.returns
returns c = forgotten_notes_are_wrong
