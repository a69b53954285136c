use Rattle.std.proofs.Common.{refl}
use Rattle.plain_pool.proofs.SlabCalls.{slabs_empty}
use Rattle.plain_pool.proofs.slabs.Slabs.new.Goals as goal

pub returns : goal.returns
returns c = slabs_empty 64 26 64 131072 c.in_ok-empty_rooms.field-0.items c.in_ok-new.field-0 c.in_ok-vec.field-0.items refl refl refl refl
    c.in_ok-empty_rooms.ensures c.in_ok-new.ensures (c.in_ok-vec.ensures.items_if_clones_equal (λ y h. h))
