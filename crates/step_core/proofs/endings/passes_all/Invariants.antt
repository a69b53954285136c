-- So many regions are left, there is room for them, and what is left leads to the end.
use Rattle.std.proofs.Common.{◌≡◌, ◌≤◌, ◌+◌, length}
use Rattle.pool_types.specs.Limits.{most_regions}
use Rattle.step_core.specs.Endings.{no_regions, count_of}
use Rattle.step_core.proofs.AllRegions.{LeadsTo}
use Rattle.step_core.proofs.endings.passes_all.Given as goal

abbrev pub invariant-loop : goal.invariant-loop
invariant-loop g l = record {
  count : length l.office.records + l.counter ≡ l.regions;
  room : count_of l.destroyed + length l.office.records ≤ most_regions;
  leads : LeadsTo g.R.Raw.out g.R.Raw.faults g.R.Raw.passed l.fn.office.records no_regions l.fn.office.raw
      l.office.records l.destroyed l.office.raw;
}
