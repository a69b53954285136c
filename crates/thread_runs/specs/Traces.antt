-- A trace that was read, and what its pools are made with.
use Rattle.std.specs.Prelude.{◌≡◌, ℕ, ◌<◌, ◌≤◌, List, length, Option, Some, None, Ok, Err, slice_get}
use Rattle.atomic_driver.specs.declared.rule.Plan.{Plan}
use Rattle.pool_types.specs.Limits.{most_pools}
use Rattle.pool_types.specs.Policies.{Checks}
use Rattle.trace_calls.specs.Pools.{Judged, pool_limits, pool_policy}
use Rattle.trace_reader.specs.declared.acts.Act.{Act}
use Rattle.trace_reader.specs.declared.acts.Act.TheVariants as act
use Rattle.trace_reader.specs.declared.acts.Forms.TheVariants as forms
use Rattle.trace_reader.specs.declared.acts.TraceLine.{TraceLine}
use Rattle.trace_reader.specs.declared.trace.Trace.{Trace}
use Rattle.trace_reader.specs.Text.{ReadsTrace}
use Rattle.trace_runs.specs.Making.{options_of}

-- some bytes are read as this trace, whose calls are all made whole
abbrev pub IsRead : Trace → Type 0
IsRead trace = (bytes : List ℕ) × ReadsTrace forms.Threads bytes (Ok trace)

abbrev pub threads_in : Trace → ℕ
threads_in trace = length trace.names.items

-- the pool of a pool line and the thread of a call are among so many
abbrev pub IsAmong : ℕ → ℕ → Act → Type 0
IsAmong threads pools (act.Pool pool) = pool < pools
IsAmong threads pools (act.Call thread pool call) = thread < threads
IsAmong threads pools other = Unit {0}

-- the lines name pools and threads of the trace, and it has few pools
pub record IsWithin (trace : Trace) : Type 0 where
  pub few : length trace.pools.items ≤ most_pools
  pub each : (place : ℕ) (line : TraceLine) → slice_get trace.lines.items place ≡ Some line
      → IsAmong (threads_in trace) (length trace.pools.items) line.act

-- what the pool of this number is made with: a seat for each thread
abbrev pub plan_of : Trace → ℕ → Plan
plan_of trace pool = record {
  policy = pool_policy (options_of trace pool);
  limits = pool_limits pool (threads_in trace) (options_of trace pool);
}

-- how the making of the pool of this number is judged
abbrev pub IsJudged : Trace → ℕ → Judged → Type 0
IsJudged trace pool judged = Checks (plan_of trace pool).policy (plan_of trace pool).limits judged

-- what a pool is made with that is judged so; one that is refused is not made
abbrev pub plan_by : Trace → ℕ → Judged → Option Plan
plan_by trace pool (Ok done) = Some (plan_of trace pool)
plan_by trace pool (Err refusal) = None

-- the pool of this number is made so, or not made where that is refused
pub record IsMadeAs (trace : Trace) (pool : ℕ) (plan : Option Plan) : Type 0 where
  pub judged : Judged
  pub checks : IsJudged trace pool judged
  pub plan_is : plan ≡ plan_by trace pool judged

-- what stands at a place of a list, if something does
abbrev pub flat : {X : Type 0} → Option (Option X) → Option X
flat None = None
flat (Some x) = x

module _ {X : Type 0} (plan : Option X → Option Plan) (trace : Trace) where
  -- there is a slot for each pool of the trace, with the pool that was made so, or none
  pub record AreMadeAs (slots : List (Option X)) : Type 0 where
    pub count : length slots ≡ length trace.pools.items
    pub each : (pool : ℕ) → pool < length trace.pools.items → IsMadeAs trace pool (plan (flat (slice_get slots pool)))
