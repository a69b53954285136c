-- Which thread binds which name, and which lines are a thread's.
use Rattle.std.specs.Prelude.{◌≡◌, ℕ, suc, ◌^◌, ◌<◌, List, [], ◌∷◌, length, map, Option, Some, None}
use Rattle.name_board.specs.declared.rule.Names.{Names}
use Rattle.trace_reader.specs.declared.acts.Act.{Act}
use Rattle.trace_reader.specs.declared.acts.Act.TheVariants as act
use Rattle.trace_reader.specs.declared.acts.TraceLine.{TraceLine}
use Rattle.trace_reader.specs.Acts.{bound_by}
use Rattle.trace_reader.specs.Served.{act_of, AreBoundInTurn}
use Rattle.thread_calls.specs.declared.calls.OwnCall.{OwnCall}
use Rattle.thread_calls.specs.Calls.{own_call}

abbrev pub binder_of : ℕ → Option ℕ → Option ℕ
binder_of thread None = None
binder_of thread (Some name) = Some thread

-- the thread whose line binds a name, if the line does
abbrev pub binder : Act → Option ℕ
binder (act.Call thread pool call) = binder_of thread (bound_by call)
binder (act.Begin thread pool call) = binder_of thread (bound_by call)
binder other = None

abbrev pub owner_then : Option ℕ → List ℕ → List ℕ
owner_then None owners = owners
owner_then (Some thread) owners = thread ∷ owners

-- which thread binds each of the names, in the order of the lines
abbrev pub owners_of : List TraceLine → List ℕ
owners_of [] = []
owners_of (line ∷ lines) = owner_then (binder line.act) (owners_of lines)

abbrev pub more_own : Option OwnCall → ℕ → ℕ
more_own None count = count
more_own (Some own) count = suc count

-- how many of the lines make a call of this thread
abbrev pub count_own : ℕ → List TraceLine → ℕ
count_own thread [] = 0
count_own thread (line ∷ lines) = more_own (own_call thread line.act) (count_own thread lines)

-- the lines bind their names in turn, and the board has an owner for each
pub record IsScript (names : Names) (lines : List TraceLine) : Type 0 where
  pub owners : names.owners.items ≡ owners_of lines
  pub turns : AreBoundInTurn 0 (map act_of lines)
  pub few : length lines < 2 ^ 32
