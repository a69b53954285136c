use Rattle.word_codes.proofs.ReadBack.{locks_read_back}
use Rattle.word_codes.proofs.laws.locks_read_back.Goals as goal

pub returns : goal.returns
returns c = locks_read_back
