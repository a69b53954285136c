-- How many bytes a room's slab has, by what has them.
use Rattle.std.specs.Prelude.{ℕ, ◌-◌, ◌*◌, ◌≤◌, List, Some, None}
use Rattle.std.specs.declared.option.Option.{Option}
use Rattle.size_classes.specs.Classes.{class_size, class_objects}
use Rattle.size_classes.specs.Layout.{head_bytes}
use Rattle.slab_core.specs.declared.SlabRec.{SlabRec}
use Rattle.plain_lists.specs.Lists.{OwnSlab, Block}
use Rattle.plain_lists.specs.Good.{slabs_on, blocks_on}

-- the bytes of the slab's head, of its rest, of its private objects, and of those that are held
abbrev pub room_head : Option SlabRec → ℕ
room_head (Some slab) = head_bytes slab.class
room_head None = 0

abbrev pub room_rest : Option SlabRec → ℕ
room_rest (Some slab) = (class_objects slab.class - slab.handed) * class_size slab.class
room_rest None = 0

abbrev pub room_private : Option SlabRec → ℕ
room_private (Some slab) = (slab.handed - slab.count) * class_size slab.class
room_private None = 0

abbrev pub room_object : Option SlabRec → ℕ
room_object (Some slab) = slab.count * class_size slab.class
room_object None = 0

-- the number under which an object is held, of which this is known
abbrev pub number_held : Option (Option ℕ) → Option ℕ
number_held (Some held) = held
number_held None = None

-- no granule is in two of these slabs, or in two of these blocks
abbrev pub AreSlabsApart : List OwnSlab → Type 0
AreSlabsApart slabs = (granule : ℕ) → slabs_on granule slabs ≤ 1

abbrev pub AreBlocksApart : List Block → Type 0
AreBlocksApart blocks = (granule : ℕ) → blocks_on granule blocks ≤ 1
