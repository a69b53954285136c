use Rattle.word_laws.proofs.Moves.{actions_act_by_kind}
use Rattle.word_laws.proofs.laws.actions_act_by_kind.Goals as goal

pub returns : goal.returns
returns c = actions_act_by_kind
