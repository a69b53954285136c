-- What a heap keeps is in its range, whatever its calls make of it.
use Rattle.std.proofs.Common.{List, None, Option, Some, [], drop, eqb, length, ltb, subst, suc, sym, zero, ℕ}
use Rattle.std.proofs.Common.{◌&&◌, ◌+◌, ◌<◌, ◌∷◌}
use Rattle.std.specs.Prelude.{slice_set}
use Rattle.pool_types.specs.Geometry.{class_count}
use Rattle.pool_types.specs.Sums.{capped}
use Rattle.size_classes.specs.Classes.{class_objects}
use Rattle.pool_words.specs.declared.words.Key.{Key}
use Rattle.heap_slabs.specs.Records.{after_free, after_join, after_take, after_take_by, head_in, of_header}
use Rattle.heap_slabs.specs.Slabs.{Kept, SlabRecords, add_by, after_add, after_free_of, after_join_of}
use Rattle.heap_slabs.specs.Slabs.{after_remove, after_replace, after_take_of, else_later, first_among}
use Rattle.heap_slabs.specs.Slabs.{first_from, first_of_class, free_by, if_suits, join_by, record_at}
use Rattle.heap_slabs.specs.Slabs.{remove_by, replace_by, suits, take_by}
use Rattle.heap_slabs.specs.declared.records.HeapSlab.{HeapSlab}
use Rattle.heap_slabs.specs.declared.slabs.Wanted.{Wanted}
use Rattle.backend_bins.specs.Blocks.{fits}
use Rattle.step_local.specs.Answers.{head_of}
use Rattle.step_ranges.proofs.Numbers.{choose}
use Rattle.step_ranges.proofs.Resets.{object_within}
use Rattle.step_ranges.specs.Jobs.{RecordFits}
use Rattle.step_ranges.specs.Locals.{KeptFits}
use Rattle.step_ranges.specs.Ranges.{IsBelow, IsSlab, units_end}
use Rattle.std.proofs.lemmas.List.{get_or-set_other, get_or-set_same, set_past}
use Rattle.word_laws.proofs.CallerLemmas.{less_or, equal_or}
use Rattle.heap_slabs.specs.Slabs.{first_in}
use Rattle.heap_slabs.specs.Records.{begun}
use Rattle.index_lists.specs.Lists.{members}

module _ (k : Key) where
  abbrev pub AllKept : SlabRecords → Type 0
  AllKept records = (slab : ℕ) → KeptFits k (record_at records slab)

  suits_fits : (wanted : Wanted) (one later : Option HeapSlab) → KeptFits k one → KeptFits k later
      → KeptFits k (if_suits wanted one later)
  suits_fits wanted None later fits rest = rest
  suits_fits wanted (Some kept) later fits rest = choose (KeptFits k) (suits wanted kept) _ _ fits rest

  first_in_fits : (wanted : Wanted) (records : SlabRecords) (slabs : List ℕ) → AllKept records
      → KeptFits k (first_in wanted records slabs)
  first_in_fits wanted records [] all = tt
  first_in_fits wanted records (slab ∷ rest) all =
      suits_fits wanted (record_at records slab) (first_in wanted records rest) (all slab)
      (first_in_fits wanted records rest all)

  later_fits : (one later : Option HeapSlab) → KeptFits k one → KeptFits k later → KeptFits k (else_later one later)
  later_fits None later fits rest = rest
  later_fits (Some kept) later fits rest = fits

  among_fits : (wanted : Wanted) (records : SlabRecords) (lists : List (List ℕ)) → AllKept records
      → KeptFits k (first_among wanted records lists)
  among_fits wanted records [] all = tt
  among_fits wanted records (list ∷ rest) all =
      later_fits (first_in wanted records list) (first_among wanted records rest)
      (first_in_fits wanted records list all) (among_fits wanted records rest all)

  pub of_class_fits : (wanted : Wanted) (s : Kept) (class : ℕ) → AllKept s.records
      → KeptFits k (first_of_class wanted s class)
  of_class_fits wanted s class all = first_in_fits wanted s.records (members s.classes class) all

  pub from_fits : (wanted : Wanted) (s : Kept) (class : ℕ) → AllKept s.records
      → KeptFits k (first_from wanted s class)
  from_fits wanted s class all = among_fits wanted s.records (drop class s.classes.lists) all

  -- a record is put, or taken away
  set_fits : (records : SlabRecords) (slab : ℕ) (one : Option HeapSlab) → AllKept records → KeptFits k one
      → AllKept (slice_set records slab one)
  set_fits records slab one all fits other = equal_or other slab
      (λ same. subst (λ at. KeptFits k (record_at (slice_set records slab one) at)) (sym same)
      (less_or slab (length records)
      (λ low. subst (KeptFits k) (sym (get_or-set_same records slab one None low)) fits)
      (λ high. subst (λ there. KeptFits k (record_at there slab)) (sym (set_past records slab one high)) (all slab))))
      (λ differ. subst (KeptFits k) (sym (get_or-set_other records slab other one None differ)) (all other))

  add_by_fits : (s : Kept) (added : HeapSlab) (there : Option HeapSlab) → AllKept s.records → RecordFits k added
      → AllKept (add_by s added there).records
  add_by_fits s added (Some there) all fits = all
  add_by_fits s added None all fits = choose (λ (s : Kept). AllKept s.records)
      (ltb added.class (length s.classes.lists) && ltb added.slab s.classes.indices) _ _
      (set_fits s.records added.slab (Some added) all fits) all

  pub add_fits : (s : Kept) (added : HeapSlab) → AllKept s.records → RecordFits k added
      → AllKept (after_add s added).records
  add_fits s added all fits = add_by_fits s added (record_at s.records added.slab) all fits

  replace_by_fits : (s : Kept) (next : HeapSlab) (there : Option HeapSlab) → AllKept s.records → RecordFits k next
      → AllKept (replace_by s next there).records
  replace_by_fits s next None all fits = all
  replace_by_fits s next (Some there) all fits = choose (λ (s : Kept). AllKept s.records)
      (eqb there.class next.class) _ _ (set_fits s.records next.slab (Some next) all fits) all

  pub replace_fits : (s : Kept) (next : HeapSlab) → AllKept s.records → RecordFits k next
      → AllKept (after_replace s next).records
  replace_fits s next all fits = replace_by_fits s next (record_at s.records next.slab) all fits

  taken_by_fits : (s : HeapSlab) (count : ℕ) (below head : Option ℕ) → RecordFits k s → IsBelow (units_end k) below
      → RecordFits k (after_take_by s count below head)
  taken_by_fits s count below (Some unit) fits is =
      record { slab = fits.slab; class = fits.class; head = is }
  taken_by_fits s count below None fits is = choose (RecordFits k) (ltb s.handed (class_objects s.class)) _ _
      (record { slab = fits.slab; class = fits.class; head = fits.head }) fits

  pub take_fits : (s : Kept) (slab : ℕ) (below : Option ℕ) → AllKept s.records → IsBelow (units_end k) below
      → AllKept (after_take_of s slab below).records
  take_fits s slab below all is = by (record_at s.records slab) (all slab)
    where
      by : (there : Option HeapSlab) → KeptFits k there → AllKept (take_by s below there).records
      by None fits = all
      by (Some kept) fits = replace_fits s (after_take kept below) all
          (taken_by_fits kept (capped (kept.count + 1)) below kept.head fits is)

  pub free_fits_of : (kept : HeapSlab) (unit : ℕ) → RecordFits k kept → unit < units_end k
      → RecordFits k (after_free kept unit)
  free_fits_of kept unit fits is = record { slab = fits.slab; class = fits.class; head = is }

  pub free_kept : (s : Kept) (slab unit : ℕ) → AllKept s.records → unit < units_end k
      → AllKept (after_free_of s slab unit).records
  free_kept s slab unit all is = by (record_at s.records slab) (all slab)
    where
      by : (there : Option HeapSlab) → KeptFits k there → AllKept (free_by s unit there).records
      by None fits = all
      by (Some kept) fits = replace_fits s (after_free kept unit) all (free_fits_of kept unit fits is)

  pub join_kept : (s : Kept) (slab first count : ℕ) → AllKept s.records → first < units_end k
      → AllKept (after_join_of s slab first count).records
  join_kept s slab first count all is = by (record_at s.records slab) (all slab)
    where
      by : (there : Option HeapSlab) → KeptFits k there → AllKept (join_by s first count there).records
      by None fits = all
      by (Some kept) fits = replace_fits s (after_join kept first count) all
          (record { slab = fits.slab; class = fits.class; head = is })

  pub remove_kept : (s : Kept) (slab : ℕ) → AllKept s.records → AllKept (after_remove s slab).records
  remove_kept s slab all = by (record_at s.records slab)
    where
      by : (there : Option HeapSlab) → AllKept (remove_by s slab there).records
      by None = all
      by (Some there) = set_fits s.records slab None all tt

  pub begun_fits : (slab class : ℕ) → IsSlab k slab → class < class_count → RecordFits k (begun slab class)
  begun_fits slab class is low = record { slab = is; class = low; head = tt }

  head_in_fits : (slab class field : ℕ) → IsSlab k slab → class < class_count
      → IsBelow (units_end k) (head_in slab class field)
  head_in_fits slab class zero is low = tt
  head_in_fits slab class (suc object) is low = object_within k slab class object is low

  -- a header names no object out of its slab, whatever its number
  pub header_fits : (slab class word : ℕ) → IsSlab k slab → class < class_count
      → RecordFits k (of_header slab class word)
  unfolding of_header
  header_fits slab class word is low =
      record { slab = is; class = low; head = head_in_fits slab class _ is low }

  pub head_fits : (one : Option HeapSlab) → KeptFits k one → IsBelow (units_end k) (head_of one)
  head_fits None fits = tt
  head_fits (Some kept) fits = fits.head
