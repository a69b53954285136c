-- A turn that leaves the seat without the office.
use Rattle.std.proofs.Common.{◌≡◌, Bool, true, false, cond}
use Rattle.pool_types.specs.declared.values.Turn.{Turn}
use Rattle.step_local.specs.declared.frames.Local.{Local}
use Rattle.step_runs.specs.Places.{away, carry_of}

-- the turn leaves the seat without the office
abbrev pub IsAway : Local × Turn → Type 0
IsAway turn = carry_of turn.0.at ≡ away

pub either : (b : Bool) (x y : Local × Turn) → IsAway x → IsAway y → IsAway (cond b x y)
either true x y one other = one
either false x y one other = other
