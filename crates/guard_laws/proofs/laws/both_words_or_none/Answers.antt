use Rattle.guard_laws.proofs.Tells.{both_words_or_none}
use Rattle.guard_laws.proofs.laws.both_words_or_none.Goals as goal

pub returns : goal.returns
returns c = both_words_or_none
