use Rattle.word_codes.proofs.Regions.{offsets_read_back}
use Rattle.word_codes.proofs.laws.offsets_read_back.Goals as goal

pub returns : goal.returns
returns c = offsets_read_back
