-- A line that makes a pool.
use Rattle.std.specs.Prelude.{◌≡◌, ℕ, List, [], ◌∷◌, ◌++◌, length, slice_index_or, Option, Some, None, Ok, Err}
use Rattle.pool_types.specs.Policies.{Checks}
use Rattle.trace_calls.specs.Pools.{Judged, pool_policy, pool_limits, made_entry}
use Rattle.trace_reader.specs.declared.acts.PoolOption.{PoolOption}
use Rattle.trace_reader.specs.declared.trace.Trace.{Trace}
use Rattle.run_report.specs.Books.{noted_some}
use Rattle.line_runs.specs.Pools.{Pool, first_pool}
use Rattle.trace_runs.specs.Scripts.{script_of}
use Rattle.trace_runs.specs.States.{State}

-- the options of the pool of this number
abbrev pub options_of : Trace → ℕ → List PoolOption
options_of trace pool = (slice_index_or trace.pools.items pool (record { items = [] })).items

-- the pool, where its making was judged so; a seat for each thread
abbrev pub slot_of : Trace → ℕ → Judged → Option Pool
slot_of trace pool (Ok done) = Some (first_pool (pool_policy (options_of trace pool))
    (pool_limits pool (length trace.names.items) (options_of trace pool)) (script_of pool trace.lines.items))
slot_of trace pool (Err refusal) = None

-- the next pool is made, where the checks of its making allow it
pub record Makes (trace : Trace) (line pool : ℕ) (old new : State) : Type 0 where
  pub judged : Judged
  pub checks : Checks (pool_policy (options_of trace pool))
      (pool_limits pool (length trace.names.items) (options_of trace pool)) judged
  pub pools : new.pools ≡ old.pools ++ slot_of trace pool judged ∷ []
  pub places : new.places ≡ old.places
  pub book : new.book ≡ noted_some old.book (made_entry line judged)
