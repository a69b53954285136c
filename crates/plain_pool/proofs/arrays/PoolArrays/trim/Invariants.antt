use Rattle.std.proofs.Common.{◌≡◌, length}
use Rattle.plain_lists.specs.Lists.{Lists}
use Rattle.plain_pool.specs.Pool.{Has, AreStored}
use Rattle.plain_pool.proofs.TrimLemmas.{Trimming}
use Rattle.plain_pool.proofs.arrays.PoolArrays.trim.Given as goal

-- so many of the oldest slabs were put
abbrev pub invariant-loop : goal.invariant-loop
invariant-loop l = (lists : Lists) → Has l.fn.self lists → AreStored lists.stored lists.blocks → length lists.stored ≡ 33 → Trimming l.self lists l.counter
