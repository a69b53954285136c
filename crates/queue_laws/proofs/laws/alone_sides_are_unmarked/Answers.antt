use Rattle.queue_laws.proofs.Looks.{alone_sides_are_unmarked}
use Rattle.queue_laws.proofs.laws.alone_sides_are_unmarked.Goals as goal

pub returns : goal.returns
returns c = alone_sides_are_unmarked
