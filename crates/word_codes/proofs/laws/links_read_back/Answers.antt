use Rattle.word_codes.proofs.ReadBack.{links_read_back}
use Rattle.word_codes.proofs.laws.links_read_back.Goals as goal

pub returns : goal.returns
returns c = links_read_back
