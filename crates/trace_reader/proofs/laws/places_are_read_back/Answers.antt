use Rattle.trace_reader.proofs.OneSlot as lemmas
use Rattle.trace_reader.proofs.laws.places_are_read_back.Goals as goal

pub returns : goal.returns
returns c = lemmas.places_are_read_back
