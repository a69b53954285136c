-- A turn that leaves the number of the seat's last grant as it is, and what a local keeps at its new position.
use Rattle.std.proofs.Common.{◌≡◌, ℕ, Bool, true, false, cond}
use Rattle.pool_types.specs.declared.values.Turn.{Turn}
use Rattle.step_local.specs.declared.frames.Local.{Local}
use Rattle.step_local.specs.declared.frames.Stage.{Stage}
use Rattle.step_numbers.specs.Positions.{is_getting, keeps_heap, may_grant_swept, CanGrant, StageFits, FitsAt}

-- the turn leaves this number, and what the new position asks
abbrev pub Fits : ℕ → Local × Turn → Type 0
Fits n turn = (turn.0.last ≡ n) × FitsAt turn.0 turn.0.at

pub either : {n : ℕ} (b : Bool) (x y : Local × Turn) → Fits n x → Fits n y → Fits n (cond b x y)
either true x y one other = one
either false x y one other = other

-- a heap that gives up nothing may come to grant; so may one after a cleanup of these
abbrev pub HeapFits : Local → Type 0
HeapFits l = keeps_heap l.call.stage ≡ true → CanGrant l

abbrev pub SweepFits : Local → Type 0
SweepFits l = may_grant_swept l.call.stage l.sweep.cleanup ≡ true → CanGrant l

pub never : {A : Type 0} → false ≡ true → A
never e = absurd (cc)

keeps_got : (stage : Stage) → is_getting stage ≡ true → keeps_heap stage ≡ true
keeps_got Stage.Getting e = e
keeps_got _ e = absurd (cc)

pub stage_of : (l : Local) → HeapFits l → StageFits l
stage_of l heap e = heap (keeps_got l.call.stage e)
