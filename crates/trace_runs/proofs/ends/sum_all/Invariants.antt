-- what is left, beside what is counted, is all
use Rattle.std.proofs.Common.{◌≡◌, drop}
use Rattle.trace_runs.specs.Ending.{counts_summary, with_slots}
use Rattle.trace_runs.proofs.ends.sum_all.Given as goal

abbrev pub invariant-loop-slot : goal.invariant-loop-slot
invariant-loop-slot l =
    with_slots l.summary (drop l.slot-index l.pools) ≡ with_slots (counts_summary l.fn.counts) l.pools
