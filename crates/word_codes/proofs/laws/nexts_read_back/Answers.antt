use Rattle.word_codes.proofs.ReadBack.{nexts_read_back}
use Rattle.word_codes.proofs.laws.nexts_read_back.Goals as goal

pub returns : goal.returns
returns c = nexts_read_back
