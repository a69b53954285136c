use Rattle.std.proofs.Common.{◌≡◌, take}
use Rattle.quiet_pool.proofs.pool.records_of.Given as goal

abbrev pub invariant-loop-one : goal.invariant-loop-one
invariant-loop-one g l = l.records.items ≡ take l.one-index l.one-items
