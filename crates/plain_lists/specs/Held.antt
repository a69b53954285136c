-- What the lists hold: the totals by holder, and each object.
use Prim.Native.Nat.{zero, suc}
use Rattle.std.specs.Prelude.{ℕ, ◌+◌, ◌-◌, ◌*◌, ◌==◌, List, [], ◌∷◌, ◌++◌, length, sum_by, find, Some, None}
use Rattle.std.specs.declared.option.Option.{Option}
use Rattle.pool_types.specs.declared.values.Leak.{Leak}
use Rattle.pool_types.specs.declared.values.Region.{Region}
use Rattle.part_model.specs.declared.totals.Totals.{Totals}
use Rattle.part_model.specs.Totals.{no_totals}
use Rattle.size_classes.specs.Classes.{class_size, class_objects}
use Rattle.size_classes.specs.Layout.{head_bytes}
use Rattle.plain_lists.specs.Lists.{OwnSlab, Block, Lists}
use Rattle.plain_lists.specs.Whole.{place_at, grant_of}

-- the bytes of a slab's head, of its rest, of its private objects, and of those that are held
abbrev pub slab_head : OwnSlab → ℕ
slab_head slab = head_bytes slab.class

abbrev pub slab_rest : OwnSlab → ℕ
slab_rest slab = (class_objects slab.class - length slab.objects) * class_size slab.class

abbrev pub slab_private : OwnSlab → ℕ
slab_private slab = length slab.private * class_size slab.class

abbrev pub slab_object : OwnSlab → ℕ
slab_object slab = (length slab.objects - length slab.private) * class_size slab.class

-- the bytes of a block
abbrev pub block_bytes : Block → ℕ
block_bytes block = 8192 * block.granules

-- the totals of the pool, where it has this region
abbrev pub totals_in : Option Region → Lists → Totals
totals_in None lists = no_totals
totals_in (Some region) lists = record no_totals {
  regions = 1;
  bytes = region.bytes;
  head = sum_by slab_head lists.slabs;
  rest = sum_by slab_rest lists.slabs;
  private = sum_by slab_private lists.slabs;
  object = sum_by slab_object lists.slabs;
  slab_cache = 16384 * length lists.stored;
  bin = sum_by block_bytes lists.blocks;
}

-- the totals of the pool
abbrev pub totals_at : Lists → Totals
totals_at lists = totals_in lists.region lists

-- an object of the slab that is held under the number, where it is held
abbrev pub leak_at : OwnSlab → ℕ → Option ℕ → List Leak
leak_at slab object (Some number) = record {
  place = place_at slab.index slab.class object;
  usable = class_size slab.class;
  grant = grant_of number;
} ∷ []
leak_at slab object None = []

-- The objects of a slab that are held, of those that these are from the given one on. A later object lies lower, so
-- it stands first.
abbrev pub leaks_of : OwnSlab → ℕ → List (Option ℕ) → List Leak
leaks_of slab object [] = []
leaks_of slab object (held ∷ more) = leaks_of slab (object + 1) more ++ leak_at slab object held

-- all objects of the slab that are held
abbrev pub slab_leaks : Option OwnSlab → List Leak
slab_leaks (Some slab) = leaks_of slab 0 slab.objects
slab_leaks None = []

-- the objects in so many slabs' room from the index on
unfoldable pub leaks_from : ℕ → ℕ → List OwnSlab → List Leak
leaks_from zero index slabs = []
leaks_from (suc rooms) index slabs =
    slab_leaks (find (λ slab. slab.index == index) slabs) ++ leaks_from rooms (index + 2) slabs

-- all objects of the pool that are held, by region and offset: the region has room for 64 slabs
abbrev pub leaks_at : Lists → List Leak
leaks_at lists = leaks_from 64 0 lists.slabs
