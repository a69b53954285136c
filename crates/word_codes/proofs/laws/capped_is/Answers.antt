use Rattle.word_codes.proofs.Sums.{capped_is}
use Rattle.word_codes.proofs.laws.capped_is.Goals as goal

pub returns : goal.returns
returns c = capped_is
