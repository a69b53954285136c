-- A turn that leaves the seat without a lock.
use Rattle.std.proofs.Common.{◌≡◌, Bool, true, false, cond}
use Rattle.pool_types.specs.declared.values.Turn.{Turn}
use Rattle.step_local.specs.declared.frames.Local.{Local}
use Rattle.step_locks.specs.Holdings.{no_lock}
use Rattle.step_locks.specs.Positions.{holding_of}

abbrev pub IsFree : Local × Turn → Type 0
IsFree turn = holding_of turn.0 ≡ no_lock

pub either : (b : Bool) (x y : Local × Turn) → IsFree x → IsFree y → IsFree (cond b x y)
either true x y one other = one
either false x y one other = other
