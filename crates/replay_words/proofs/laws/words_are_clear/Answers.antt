use Rattle.replay_words.proofs.ClearWords.{words_are_clear}
use Rattle.replay_words.proofs.laws.words_are_clear.Goals as goal

pub returns : goal.returns
returns c = words_are_clear
