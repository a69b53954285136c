use Rattle.word_codes.proofs.ReadBack.{publics_read_back}
use Rattle.word_codes.proofs.laws.publics_read_back.Goals as goal

pub returns : goal.returns
returns c = publics_read_back
