-- What the callback of a pool answers.
use Rattle.std.specs.Prelude.{ℕ, ◌++◌, Bool, true, false, cond, eqb, List, [], ◌∷◌, Option, Some, None}
use Rattle.pool_types.specs.Script.{Script}
use Rattle.pool_types.specs.declared.values.Region.{Region}
use Rattle.trace_reader.specs.declared.acts.Act.{Act}
use Rattle.trace_reader.specs.declared.acts.Act.TheVariants as act
use Rattle.trace_reader.specs.declared.acts.TraceLine.{TraceLine}

-- what a line adds to the gets of a pool, if it does
abbrev pub get_of : ℕ → Act → Option (Option Region)
get_of pool (act.RawGet named base bytes) =
    cond (eqb named pool) (Some (Some (record { base = base; bytes = bytes }))) None
get_of pool (act.RawGetFail named) = cond (eqb named pool) (Some None) None
get_of pool other = None

-- what a line adds to the puts of a pool, if it does
abbrev pub put_of : ℕ → Act → Option Bool
put_of pool (act.RawPutOk named) = cond (eqb named pool) (Some true) None
put_of pool (act.RawPutFail named) = cond (eqb named pool) (Some false) None
put_of pool other = None

-- an entry, if there is one, and then these
abbrev pub entry_then : {E : Type 0} → Option E → List E → List E
entry_then None entries = entries
entry_then (Some entry) entries = entry ∷ entries

-- the gets of a pool, and its puts, in the order of the lines
abbrev pub gets_of : ℕ → List TraceLine → List (Option Region)
gets_of pool [] = []
gets_of pool (line ∷ lines) = entry_then (get_of pool line.act) (gets_of pool lines)

abbrev pub puts_of : ℕ → List TraceLine → List Bool
puts_of pool [] = []
puts_of pool (line ∷ lines) = entry_then (put_of pool line.act) (puts_of pool lines)

-- the callback of a pool: it answers as the lines say, wherever they stand
unfoldable pub script_of : ℕ → List TraceLine → Script
script_of pool lines = record { gets = gets_of pool lines; puts = puts_of pool lines; out = []; faults = 0 }
