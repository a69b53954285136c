use Rattle.word_codes.proofs.ReadBack.{guards_read_back}
use Rattle.word_codes.proofs.laws.guards_read_back.Goals as goal

pub returns : goal.returns
returns c = guards_read_back
