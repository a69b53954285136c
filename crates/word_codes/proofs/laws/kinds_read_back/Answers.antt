use Rattle.word_codes.proofs.ReadBack.{kinds_read_back}
use Rattle.word_codes.proofs.laws.kinds_read_back.Goals as goal

pub returns : goal.returns
returns c = kinds_read_back
