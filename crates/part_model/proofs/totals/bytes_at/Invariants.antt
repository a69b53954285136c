use Rattle.std.proofs.Common.{◌≡◌, take, Some}
use Rattle.std.specs.Prelude.{if◌then◌else◌, sum_by}
use Rattle.part_model.specs.Totals.{is_at}
use Rattle.part_model.proofs.totals.bytes_at.Given as goal

abbrev pub invariant-loop-stretch : goal.invariant-loop-stretch
invariant-loop-stretch l = l.bytes ≡ sum_by (λ stretch. if is_at l.kind (Some stretch.holder) then stretch.range.bytes else 0) (take l.stretch-index l.stretches)
