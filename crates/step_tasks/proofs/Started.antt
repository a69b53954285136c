-- A turn after which a job may begin.
use Rattle.std.proofs.Common.{Bool, true, false, cond}
use Rattle.pool_types.specs.declared.values.Turn.{Turn}
use Rattle.step_local.specs.declared.frames.Local.{Local}
use Rattle.step_tasks.specs.Lands.{Lands}

abbrev pub IsStarted : Local × Turn → Type 0
IsStarted turn = Lands turn.0

pub either : (b : Bool) (x y : Local × Turn) → IsStarted x → IsStarted y → IsStarted (cond b x y)
either true x y one other = one
either false x y one other = other
