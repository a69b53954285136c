use Rattle.std.proofs.Common.{◌≡◌, ◌-◌, ◌*◌, ◌++◌}
use Rattle.plain_lists.specs.Lists.{Lists}
use Rattle.plain_lists.specs.Held.{leaks_at, leaks_from}
use Rattle.plain_pool.specs.Pool.{Stands}
use Rattle.plain_pool.proofs.arrays.PoolArrays.leaks.Given as goal

-- the rooms before were added
abbrev pub invariant-loop-room : goal.invariant-loop-room
invariant-loop-room l = (lists : Lists) → Stands l.self lists → l.leaks.items ++ leaks_from (64 - l.room) (2 * l.room) lists.slabs ≡ leaks_at lists
