-- Which traces are plain: those that whole calls over lists serve.
use Rattle.std.specs.Prelude.{ℕ, ◌==◌, Bool, true, false, ◌&&◌, nat_le, List, [], ◌∷◌, length}
use Rattle.std.specs.List.{list_all}
use Rattle.arrayvec.specs.ArrayVec.{ArrayVec}
use Rattle.trace_reader.specs.declared.acts.Act.{Act}
use Rattle.trace_reader.specs.declared.acts.Act.TheVariants as act
use Rattle.trace_reader.specs.declared.acts.PoolOption.{PoolOption}
use Rattle.trace_reader.specs.declared.acts.PoolOption.TheVariants as option
use Rattle.trace_reader.specs.declared.acts.TraceCall.{TraceCall}
use Rattle.trace_reader.specs.declared.acts.TraceCall.TheVariants as call
use Rattle.trace_reader.specs.declared.acts.TraceLine.{TraceLine}
use Rattle.trace_reader.specs.declared.trace.Trace.{Trace}

-- a malloc of at most 8128 bytes, a free, or a question of a place
abbrev pub is_plain_call : TraceCall → Bool
is_plain_call (call.Malloc name size) = nat_le size 8128
is_plain_call (call.Free what) = true
is_plain_call (call.Msize what) = true
is_plain_call (call.Identify what) = true
is_plain_call (call.Aligned name size alignment) = false
is_plain_call (call.Realloc name what size) = false
is_plain_call (call.AlignedRealloc name what size alignment) = false
is_plain_call call.Exit = false

-- such a call, whole, by the first thread on the first pool
abbrev pub is_plain_act : Act → Bool
is_plain_act (act.Call thread pool call) = thread == 0 && (pool == 0 && is_plain_call call)
is_plain_act other = false

abbrev pub is_plain_line : TraceLine → Bool
is_plain_line line = is_plain_act line.act

-- the making of the first pool
abbrev pub is_first_pool : Act → Bool
is_first_pool (act.Pool pool) = pool == 0
is_first_pool other = false

-- the one option `fixed`
abbrev pub is_fixed_alone : List PoolOption → Bool
is_fixed_alone (option.Fixed ∷ []) = true
is_fixed_alone other = false

-- one pool, with that option
abbrev pub is_fixed_pool : List (ArrayVec PoolOption) → Bool
is_fixed_pool (options ∷ []) = is_fixed_alone options.items
is_fixed_pool other = false

abbrev pub has_none : {X : Type 0} → List X → Bool
has_none xs = length xs == 0

-- the lines behind the one that names the thread: none, or the pool's line and then plain calls
abbrev pub are_pool_lines : List (ArrayVec PoolOption) → List TraceLine → Bool
are_pool_lines pools [] = has_none pools
are_pool_lines pools (line ∷ lines) = is_first_pool line.act && (is_fixed_pool pools && list_all is_plain_line lines)

-- the first line names the one thread, or it is the pool's line and there is no thread
abbrev pub begins_plainly : ℕ → List (ArrayVec PoolOption) → Act → List TraceLine → Bool
begins_plainly threads pools act.Threads lines = threads == 1 && are_pool_lines pools lines
begins_plainly threads pools (act.Pool pool) lines =
    threads == 0 && (pool == 0 && (is_fixed_pool pools && has_none lines))
begins_plainly threads pools other lines = false

abbrev pub are_plain_lines : ℕ → List (ArrayVec PoolOption) → List TraceLine → Bool
are_plain_lines threads pools [] = threads == 0 && has_none pools
are_plain_lines threads pools (line ∷ lines) = begins_plainly threads pools line.act lines

-- The trace is plain: there is no line, or the line that names one thread, or the line `pool P0 fixed`; or the one, then
-- the other, and then mallocs of at most 8128 bytes, frees and questions, each whole, by that thread on that pool.
unfoldable pub is_plain : Trace → Bool
is_plain trace = are_plain_lines (length trace.names.items) trace.pools.items trace.lines.items
