-- The events of whole calls, one after another.
use Rattle.std.specs.Prelude.{List, [], ◌∷◌, ◌++◌, map}
use Rattle.pool_types.specs.declared.values.Request.{Request}
use Rattle.machine.specs.Events.{Event, Begins, Makes}
use Rattle.plain_lists.specs.Lists.{Lists}
use Rattle.plain_lists.specs.Whole.{whole}
use Rattle.plain_runs.specs.Steps.{steps_of}

-- the events of whole calls: each begins, and makes its steps
abbrev pub events_to : Lists → List Request → List Event
events_to lists [] = []
events_to lists (request ∷ requests) = Begins 0 request
    ∷ (map Makes (steps_of lists request) ++ events_to (whole lists request).lists requests)
