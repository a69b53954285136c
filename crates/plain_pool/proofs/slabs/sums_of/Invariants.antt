use Rattle.std.proofs.Common.{◌≡◌, ◌*◌, ◌≤◌, ◌^◌, take}
use Rattle.std.specs.Prelude.{sum_by}
use Rattle.plain_pool.specs.Held.{room_head, room_rest, room_private, room_object}
use Rattle.plain_pool.proofs.slabs.sums_of.Given as goal

abbrev pub invariant-loop-room : goal.invariant-loop-room
invariant-loop-room l = record {
  head : l.sums.head ≡ sum_by room_head (take l.room-index l.rooms);
  rest : l.sums.rest ≡ sum_by room_rest (take l.room-index l.rooms);
  private : l.sums.private ≡ sum_by room_private (take l.room-index l.rooms);
  object : l.sums.object ≡ sum_by room_object (take l.room-index l.rooms);
  head_most : l.sums.head ≤ 2 ^ 45 * l.room-index;
  rest_most : l.sums.rest ≤ 2 ^ 45 * l.room-index;
  private_most : l.sums.private ≤ 2 ^ 45 * l.room-index;
  object_most : l.sums.object ≤ 2 ^ 45 * l.room-index;
}
