use Rattle.replay_words.proofs.FormLemmas.{forms_are_commands}
use Rattle.replay_words.proofs.laws.forms_are_commands.Goals as goal

pub returns : goal.returns
returns c = forms_are_commands
