-- A pool of a trace, and calls of it that begin.
use Rattle.std.specs.Prelude.{ℕ, zero, suc, List, [], ◌∷◌, ◌++◌, slice_set, slice_index_or, Result, Ok, Err}
use Rattle.pool_types.specs.declared.policy.Limits.{Limits}
use Rattle.pool_types.specs.declared.policy.Policy.{Policy}
use Rattle.pool_types.specs.declared.values.InCall.{InCall}
use Rattle.pool_types.specs.declared.values.Request.{Request}
use Rattle.pool_types.specs.Script.{Script}
use Rattle.step_core.specs.Machines.{Machine, first_machine}
use Rattle.step_core.specs.Turns.{begun_in}
use Rattle.trace_reader.specs.declared.acts.TraceCall.{TraceCall}

-- the machine, and by seat the call that was begun last
pub record Pool : Type 0 where
  pub machine : Machine Script
  pub calls : List TraceCall

-- of so many seats none began a call; `Exit` binds no name
abbrev pub no_calls : ℕ → List TraceCall
no_calls zero = []
no_calls (suc seats) = no_calls seats ++ TraceCall.Exit ∷ []

-- the call that the seat began last
abbrev pub call_of : List TraceCall → ℕ → TraceCall
call_of calls seat = slice_index_or calls seat TraceCall.Exit

-- a pool without a region, with all seats idle
unfoldable pub first_pool : Policy → Limits → Script → Pool
first_pool policy limits raw =
    record { machine = first_machine policy limits raw; calls = no_calls limits.seats }

-- a pool with this machine
abbrev pub with_machine : Pool → Machine Script → Pool
with_machine pool machine = record { machine = machine; calls = pool.calls }

abbrev pub with_call : Pool → ℕ → TraceCall → Result Unit InCall → Pool
with_call pool seat call (Ok done) = record { machine = pool.machine; calls = slice_set pool.calls seat call }
with_call pool seat call (Err refused) = pool

abbrev pub begun_by : Machine Script × Result Unit InCall → Pool → ℕ → TraceCall → Pool × Result Unit InCall
begun_by begun pool seat call = (with_call (with_machine pool begun.0) seat call begun.1, begun.1)

-- a call of a line that asks this begins at a seat
abbrev pub begun_pool : Pool → ℕ → TraceCall → Request → Pool × Result Unit InCall
begun_pool pool seat call request = begun_by (begun_in pool.machine seat request) pool seat call
