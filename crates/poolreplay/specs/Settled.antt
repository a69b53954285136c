-- Which run a report tells of: that of whole calls over the lists of a pool, one after another.
use Rattle.std.specs.Prelude.{◌≡◌, ℕ, List, [], map}
use Rattle.pool_types.specs.declared.values.Leak.{Leak}
use Rattle.pool_types.specs.declared.values.Request.TheVariants.{Malloc}
use Rattle.machine.specs.Events.{Event}
use Rattle.machine.specs.Runs.{requests_in, answers_in}
use Rattle.plain_lists.specs.Counts.{ArePlaced}
use Rattle.plain_lists.specs.Held.{leaks_at}
use Rattle.plain_lists.specs.Lists.{no_lists}
use Rattle.plain_lists.specs.Whole.{answers_to, lists_after}
use Rattle.plain_runs.specs.Journal.{events_to}

-- The events are settled by what they ask.
pub record Settled (events : List Event) (leaks : List Leak) : Type 0 where
  -- they are those of whole calls, and nothing else
  pub events_are : events ≡ events_to no_lists (requests_in events)
  -- so are the answers
  pub answered : answers_in events ≡ answers_to no_lists (requests_in events)
  -- where each call is a malloc, each object lies where the counts of earlier objects say
  pub placed : (sizes : List ℕ) → requests_in events ≡ map Malloc sizes → ArePlaced [] sizes (answers_in events)
  -- the leaks are those of the lists
  pub leaks_are : leaks ≡ leaks_at (lists_after no_lists (requests_in events))
