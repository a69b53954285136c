-- Two turns, one of which is made.
use Rattle.std.proofs.Common.{Bool, true, false, cond}
use Rattle.pool_types.specs.declared.values.Turn.{Turn}
use Rattle.step_local.specs.declared.frames.Local.{Local}
use Rattle.quiet_laws.specs.Resets.{GoesOn}

pub either : (l : Local) (b : Bool) (x y : Local × Turn) → GoesOn l x → GoesOn l y → GoesOn l (cond b x y)
either l true x y one other = one
either l false x y one other = other
