use Rattle.poolreplay.proofs.TextLemmas.{texts_are_one}
use Rattle.poolreplay.proofs.laws.texts_are_one.Goals as goal

pub returns : goal.returns
returns c = texts_are_one
