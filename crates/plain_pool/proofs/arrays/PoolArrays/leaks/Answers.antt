use Rattle.plain_lists.specs.Held.{leaks_at}
use Rattle.plain_pool.proofs.CallLemmas.{lists_kept}
use Rattle.plain_pool.proofs.LeakLemmas.{rooms_goes_on, rooms_end}
use Rattle.plain_pool.proofs.arrays.PoolArrays.leaks.Goals as goal

pub add_leaks-requires-clause-slabs : goal.add_leaks-requires-clause-slabs
add_leaks-requires-clause-slabs c = let (lists, stands) = c.requires in (lists.slabs, stands.arrays.slabs, lists_kept lists stands.good)

pub loop-room-preserved : goal.loop-room-preserved
loop-room-preserved c lists stands =
    rooms_goes_on lists.slabs c.loop-room.room c.loop-room.leaks.items c.add_leaks.new.leaks.items (leaks_at lists) c.loop-room-test.true (c.loop-room.invariant lists stands)
    (c.in_ok-add_leaks.ensures lists.slabs stands.arrays.slabs (lists_kept lists stands.good))

pub returns : goal.returns
returns c lists stands = rooms_end lists.slabs c.loop-room.room c.loop-room.leaks.items (leaks_at lists) c.loop-room-test.false (c.loop-room.invariant lists stands)
