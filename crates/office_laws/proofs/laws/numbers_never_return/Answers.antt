use Rattle.office_laws.proofs.Examples.{numbers_never_return}
use Rattle.office_laws.proofs.laws.numbers_never_return.Goals as goal

pub returns : goal.returns
returns c = numbers_never_return
