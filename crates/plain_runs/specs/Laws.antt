-- The laws of whole calls: they are a run of the partition machine, and what it holds at its end is what the lists
-- hold.
use Rattle.std.specs.Prelude.{◌≡◌, ◌-◌, ◌^◌, ◌<◌, List, All, length, Contains}
use Rattle.pool_types.specs.declared.values.Request.{Request}
use Rattle.pool_types.specs.declared.policy.RegionRec.{RegionRec}
use Rattle.part_model.specs.Totals.{totals_of}
use Rattle.pool_types.specs.Script.{Script, Gets, Puts}
use Rattle.machine.specs.States.{fixed_terms}
use Rattle.machine.specs.Callback.{raw_calls, HasAnswered, no_script}
use Rattle.machine.specs.Leaks.{AreLeaks}
use Rattle.machine.specs.Runs.{IsRun, AreCalls, EndAnswered, requests_in, answers_in, end_of}
use Rattle.plain_lists.specs.Lists.{no_lists, first_region}
use Rattle.plain_lists.specs.Whole.{IsServed, lists_after, answers_to}
use Rattle.plain_lists.specs.Held.{totals_at, leaks_at}
use Rattle.plain_runs.specs.Journal.{events_to}

-- Whole calls that are served, one after another, are a run of the partition machine. It has calls alone, and ends
-- with the last answer. Its requests are theirs and its answers are those of `whole`, a callback without scripts
-- answers so, and each region at its end is the one that it gives first.
pub record IsRunOf (requests : List Request) : Type 0 where
  pub run : IsRun fixed_terms (events_to no_lists requests)
  pub calls : AreCalls (events_to no_lists requests)
  pub ends : EndAnswered (events_to no_lists requests)
  pub asked : requests_in (events_to no_lists requests) ≡ requests
  pub answered : answers_in (events_to no_lists requests) ≡ answers_to no_lists requests
  pub raw : (after : Script) × HasAnswered Gets Puts no_script (raw_calls (events_to no_lists requests)) after
  pub regions : (region : RegionRec) → Contains (end_of (events_to no_lists requests)).regions region →
      region.region ≡ first_region

-- at the end of the run the totals and the objects held are those of the lists
pub record HoldsAtEnd (requests : List Request) : Type 0 where
  pub totals : totals_of (end_of (events_to no_lists requests)).held ≡ totals_at (lists_after no_lists requests)
  pub leaks : AreLeaks (end_of (events_to no_lists requests)) (leaks_at (lists_after no_lists requests))

-- so are all that are fewer than the numbers that grants have
abbrev pub WholeCallsRun : Type 0
WholeCallsRun = (requests : List Request) → All IsServed requests → length requests < 2 ^ 55 - 1 → IsRunOf requests

-- and so they hold at their end
abbrev pub WholeCallsHold : Type 0
WholeCallsHold = (requests : List Request) → All IsServed requests → length requests < 2 ^ 55 - 1 → HoldsAtEnd requests
