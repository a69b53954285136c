use Rattle.word_codes.proofs.Regions.{regions_read_back}
use Rattle.word_codes.proofs.laws.regions_read_back.Goals as goal

pub returns : goal.returns
returns c = regions_read_back
