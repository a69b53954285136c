use Rattle.office_laws.proofs.Homes.{granules_are_outside_where_no_word_has_them}
use Rattle.office_laws.proofs.laws.granules_are_outside_where_no_word_has_them.Goals as goal

pub returns : goal.returns
returns c = granules_are_outside_where_no_word_has_them
