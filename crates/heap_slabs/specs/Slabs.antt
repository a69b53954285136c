-- The slabs that a heap keeps, and how a call changes them.
use Rattle.std.specs.Prelude.{◌≡◌, ℕ, ◌<◌, ◌^◌, Bool, true, cond, ◌&&◌, eqb, ltb, List, [], ◌∷◌, length}
use Rattle.std.specs.Prelude.{slice_index_or, slice_set, drop, replicate, Option, Some, None}
use Rattle.pool_types.specs.Geometry.{class_count}
use Rattle.index_lists.specs.Lists.{Lists, AreApart, IsIn, empty_lists, members, with_first, without}
use Rattle.heap_slabs.specs.declared.records.HeapSlab.{HeapSlab}
use Rattle.heap_slabs.specs.declared.slabs.Wanted.{Wanted}
use Rattle.heap_slabs.specs.Records.{has_object, is_unused, after_take, after_free, after_join}

-- by its first granule, the record of each slab that is kept
abbrev pub SlabRecords : Type 0
SlabRecords = List (Option HeapSlab)

-- by class, the slabs that are kept, the newest first; and their records
pub record Kept : Type 0 where
  pub classes : Lists
  pub records : SlabRecords

abbrev pub no_slabs : ℕ → Kept
no_slabs granules = record { classes = empty_lists class_count granules; records = replicate granules None }

-- the record of a slab, if it is kept
abbrev pub record_at : SlabRecords → ℕ → Option HeapSlab
record_at records slab = slice_index_or records slab None

-- each slab with a record stands in the list of its class, and what stands in a list has a record of that class
pub record AreKept (classes : Lists) (records : SlabRecords) : Type 0 where
  pub long : length records ≡ classes.indices
  pub few : classes.indices < 2 ^ 32
  pub apart : AreApart classes
  pub listed : (slab : ℕ) (kept : HeapSlab) → record_at records slab ≡ Some kept → (kept.slab ≡ slab)
      × IsIn classes kept.class slab
  pub recorded : (list slab : ℕ) → IsIn classes list slab → (kept : HeapSlab) × (record_at records slab ≡ Some kept)
      × (kept.class ≡ list)

abbrev pub add_by : Kept → HeapSlab → Option HeapSlab → Kept
add_by s added (Some there) = s
add_by s added None = cond (ltb added.class (length s.classes.lists) && ltb added.slab s.classes.indices)
    (record {
      classes = with_first s.classes added.class added.slab;
      records = slice_set s.records added.slab (Some added);
    }) s

-- the slab is the newest of its class; one that is there, or is no granule or of no class, is not added
abbrev pub after_add : Kept → HeapSlab → Kept
after_add s added = add_by s added (record_at s.records added.slab)

abbrev pub replace_by : Kept → HeapSlab → Option HeapSlab → Kept
replace_by s next None = s
replace_by s next (Some there) =
    cond (eqb there.class next.class) (record s { records = slice_set s.records next.slab (Some next) }) s

-- the slab's record is this one, where the slab is there and has this class
abbrev pub after_replace : Kept → HeapSlab → Kept
after_replace s next = replace_by s next (record_at s.records next.slab)

-- an object of a slab is taken, comes back, or is joined, if the slab is there
abbrev pub take_by : Kept → Option ℕ → Option HeapSlab → Kept
take_by s below None = s
take_by s below (Some kept) = after_replace s (after_take kept below)

abbrev pub after_take_of : Kept → ℕ → Option ℕ → Kept
after_take_of s slab below = take_by s below (record_at s.records slab)

abbrev pub free_by : Kept → ℕ → Option HeapSlab → Kept
free_by s unit None = s
free_by s unit (Some kept) = after_replace s (after_free kept unit)

abbrev pub after_free_of : Kept → ℕ → ℕ → Kept
after_free_of s slab unit = free_by s unit (record_at s.records slab)

abbrev pub join_by : Kept → ℕ → ℕ → Option HeapSlab → Kept
join_by s first joined None = s
join_by s first joined (Some kept) = after_replace s (after_join kept first joined)

abbrev pub after_join_of : Kept → ℕ → ℕ → ℕ → Kept
after_join_of s slab first joined = join_by s first joined (record_at s.records slab)

abbrev pub remove_by : Kept → ℕ → Option HeapSlab → Kept
remove_by s slab None = s
remove_by s slab (Some there) = record {
  classes = without s.classes there.class slab;
  records = slice_set s.records slab None;
}

-- the slab is gone; one that is not there changes nothing
abbrev pub after_remove : Kept → ℕ → Kept
after_remove s slab = remove_by s slab (record_at s.records slab)

abbrev pub suits : Wanted → HeapSlab → Bool
suits Wanted.WithObject kept = has_object kept
suits Wanted.Unused kept = is_unused kept
suits Wanted.Any kept = true

abbrev pub if_suits : Wanted → Option HeapSlab → Option HeapSlab → Option HeapSlab
if_suits wanted None later = later
if_suits wanted (Some kept) later = cond (suits wanted kept) (Some kept) later

-- the first of these slabs that is wanted
abbrev pub first_in : Wanted → SlabRecords → List ℕ → Option HeapSlab
first_in wanted records [] = None
first_in wanted records (slab ∷ rest) = if_suits wanted (record_at records slab) (first_in wanted records rest)

abbrev pub else_later : Option HeapSlab → Option HeapSlab → Option HeapSlab
else_later None later = later
else_later (Some kept) later = Some kept

-- the first slab that is wanted, list by list
abbrev pub first_among : Wanted → SlabRecords → List (List ℕ) → Option HeapSlab
first_among wanted records [] = None
first_among wanted records (list ∷ rest) = else_later (first_in wanted records list) (first_among wanted records rest)

-- the newest slab of a class that is wanted
abbrev pub first_of_class : Wanted → Kept → ℕ → Option HeapSlab
first_of_class wanted s class = first_in wanted s.records (members s.classes class)

-- the first slab that is wanted, from a class on, class by class
abbrev pub first_from : Wanted → Kept → ℕ → Option HeapSlab
first_from wanted s class = first_among wanted s.records (drop class s.classes.lists)
