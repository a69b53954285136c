use Rattle.cache_laws.proofs.Keeps.{each_change_is_one_step_of_the_rules}
use Rattle.cache_laws.proofs.laws.each_change_is_one_step_of_the_rules.Goals as goal

pub returns : goal.returns
returns c = each_change_is_one_step_of_the_rules
