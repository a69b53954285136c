use Rattle.std.proofs.Common.{◌≡◌, take}
use Rattle.step_core.specs.Endings.{all_kept}
use Rattle.step_core.proofs.endings.keeps_all.Given as goal

abbrev pub invariant-loop-one : goal.invariant-loop-one
invariant-loop-one g l = l.destroyed ≡ all_kept (take l.one-index l.one-items)
