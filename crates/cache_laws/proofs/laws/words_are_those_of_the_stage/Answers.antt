use Rattle.cache_laws.proofs.Keeps.{words_are_those_of_the_stage}
use Rattle.cache_laws.proofs.laws.words_are_those_of_the_stage.Goals as goal

pub returns : goal.returns
returns c = words_are_those_of_the_stage
