use Rattle.step_writes.proofs.Actions.{other_words_stand}
use Rattle.step_writes.proofs.laws.other_words_stand.Goals as goal

pub returns : goal.returns
returns c = other_words_stand
