-- None of the records before starts there.
use Rattle.std.proofs.Common.{◌≡◌, drop, true}
use Rattle.std.specs.Prelude.{◌==◌}
use Rattle.std.specs.List.{list_any}
use Rattle.pool_types.specs.declared.policy.RegionRec.{RegionRec}
use Rattle.regions.proofs.office.position_of_first.Given as goal

abbrev pub invariant-loop-position : goal.invariant-loop-position
invariant-loop-position l = list_any {X = RegionRec} (λ one. one.first == l.first) (drop l.position l.records) ≡ true
