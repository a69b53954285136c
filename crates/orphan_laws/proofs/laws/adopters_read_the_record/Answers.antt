use Rattle.orphan_laws.proofs.Examples.{adopters_read_the_record}
use Rattle.orphan_laws.proofs.laws.adopters_read_the_record.Goals as goal

pub returns : goal.returns
returns c = adopters_read_the_record
