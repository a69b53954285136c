use Rattle.office_laws.proofs.Homes.{records_at_home_are_those_of_the_words}
use Rattle.office_laws.proofs.laws.records_at_home_are_those_of_the_words.Goals as goal

pub returns : goal.returns
returns c = records_at_home_are_those_of_the_words
