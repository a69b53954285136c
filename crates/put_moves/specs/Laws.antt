-- The laws of turns at the put of a block, and of those that empty the queue.
use Rattle.std.specs.Prelude.{⊤}
use Rattle.step_local.specs.declared.frames.At.{At}
use Rattle.step_local.specs.declared.frames.Local.{Local}
use Rattle.seat_ties.specs.Left.{Turned}

abbrev pub IsPut : At → Type 0
IsPut (At.Put at) = ⊤
IsPut _ = ⊥

abbrev pub IsDrain : At → Type 0
IsDrain (At.Drain at) = ⊤
IsDrain _ = ⊥

abbrev pub IsAtPut : Local → Type 0
IsAtPut l = IsPut l.at

abbrev pub IsAtDrain : Local → Type 0
IsAtDrain l = IsDrain l.at

-- a turn at the put of a block is steps of the whole
abbrev pub PutsTurn : Type 0
PutsTurn = Turned IsAtPut

-- so is one at the emptying of the queue
abbrev pub DrainsTurn : Type 0
DrainsTurn = Turned IsAtDrain
