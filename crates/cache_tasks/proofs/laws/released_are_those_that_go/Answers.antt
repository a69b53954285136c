use Rattle.cache_tasks.proofs.Rooms.{released_are_those_that_go}
use Rattle.cache_tasks.proofs.laws.released_are_those_that_go.Goals as goal

pub returns : goal.returns
returns c = released_are_those_that_go
