use Rattle.word_codes.proofs.ReadBack.{marks_read_back}
use Rattle.word_codes.proofs.laws.marks_read_back.Goals as goal

pub returns : goal.returns
returns c = marks_read_back
