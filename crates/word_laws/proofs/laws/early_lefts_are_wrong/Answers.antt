use Rattle.word_laws.proofs.Refuted.{early_lefts_are_wrong}
use Rattle.word_laws.proofs.laws.early_lefts_are_wrong.Goals as goal

pub returns : goal.returns
returns c = early_lefts_are_wrong
