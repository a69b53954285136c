use Rattle.std.proofs.Common.{◌≡◌, replicate, None}
use Rattle.plain_pool.proofs.slabs.empty_rooms.Given as goal

abbrev pub invariant-loop-room : goal.invariant-loop-room
invariant-loop-room l = l.rooms.items ≡ replicate l._room None
