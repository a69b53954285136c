use Rattle.word_codes.proofs.ReadBack.{owns_read_back}
use Rattle.word_codes.proofs.laws.owns_read_back.Goals as goal

pub returns : goal.returns
returns c = owns_read_back
