-- What a heap keeps stays kept, and what is found in it is kept.
use Rattle.std.proofs.Common.{◌≡◌, ℕ, ◌<◌, Bool, true, false, cond, eqb, ltb, ◌&&◌, inl, inr, List, [], ◌∷◌, length}
use Rattle.std.proofs.Common.{Option, Some, None, drop, set, refl, sym, ap, subst, arith, ◌∙◌}
use Rattle.std.proofs.lemmas.Bool.Decides.{nat_tests}
use Rattle.std.proofs.lemmas.Bool.{cases_eq, cases_lt}
use Rattle.std.proofs.lemmas.List.{get_or-set_same, get_or-set_other, get_or_past, length-set}
use Rattle.std.proofs.lemmas.Option.{same_Some}
use Rattle.pool_types.specs.Geometry.{class_count}
use Rattle.pool_words.specs.declared.words.Key.{Key}
use Rattle.index_lists.specs.Lists.{list_without, members, times, with_first}
use Rattle.index_lists.proofs.CallerLemmas.{times-here}
use Rattle.heap_slabs.specs.declared.records.HeapSlab.{HeapSlab}
use Rattle.heap_slabs.specs.declared.slabs.Wanted.{Wanted}
use Rattle.heap_slabs.specs.Records.{after_free, after_join, after_take}
use Rattle.heap_slabs.specs.Slabs.{Kept, SlabRecords, add_by, after_add, after_free_of, after_join_of, after_remove}
use Rattle.heap_slabs.specs.Slabs.{after_replace, after_take_of, else_later, first_among, first_from, first_in}
use Rattle.heap_slabs.specs.Slabs.{first_of_class, free_by, if_suits, join_by, record_at, remove_by, replace_by}
use Rattle.heap_slabs.specs.Slabs.{suits, take_by}
use Rattle.heap_slabs.proofs.Keeping.{kept_add, kept_remove, kept_replace, within}
use Rattle.slab_laws.specs.Heaps.{HeapFits}

-- one heap has this record of a slab, and else what it had
pub record Changed (k : Key) (s new : Kept) (e : ℕ) (x : Option HeapSlab) : Type 0 where
  pub fits : HeapFits k new
  pub here : record_at new.records e ≡ x
  pub others : (o : ℕ) → (o ≡ e → ⊥) → record_at new.records o ≡ record_at s.records o

pub replaced : (k : Key) (s : Kept) (next there : HeapSlab) → HeapFits k s → record_at s.records next.slab ≡ Some there
    → there.class ≡ next.class → Changed k s (after_replace s next) next.slab (Some next)
replaced k s next there fits is class =
    let by : replace_by s next (Some there) ≡ record s { records = set s.records next.slab (Some next) } =
    grind (arith, nat_tests) in
    let new : after_replace s next ≡ record s { records = set s.records next.slab (Some next) } =
    ap (replace_by s next) is ∙ by in
    subst (λ (x : Kept). Changed k s x next.slab (Some next)) (sym new) (record {
      fits = record {
        are = kept_replace s.classes s.records next there fits.are is class;
        room = fits.room;
        lists = fits.lists;
      };
      here = get_or-set_same s.records next.slab (Some next) None (within s.records next.slab there is);
      others = λ o ne. get_or-set_other s.records next.slab o (Some next) None ne;
    })

pub added : (k : Key) (s : Kept) (new : HeapSlab) → HeapFits k s → record_at s.records new.slab ≡ None
    → new.class < class_count → new.slab < k.span → Changed k s (after_add s new) new.slab (Some new)
added k s new fits is class place =
    let room = fits.room in
    let lists = fits.lists in
    let long = fits.are.long in
    let low : new.class < length s.classes.lists = omega arith in
    let below : new.slab < s.classes.indices = omega arith in
    let by : add_by s new None ≡ record {
      classes = with_first s.classes new.class new.slab;
      records = set s.records new.slab (Some new);
    } = grind (arith, nat_tests) in
    subst (λ (x : Kept). Changed k s x new.slab (Some new)) (sym (ap (add_by s new) is ∙ by)) (record {
      fits = record {
        are = kept_add s.classes s.records new fits.are low below is;
        room = fits.room;
        lists = length-set s.classes.lists new.class (new.slab ∷ members s.classes new.class) ∙ fits.lists;
      };
      here = get_or-set_same s.records new.slab (Some new) None (omega arith);
      others = λ o ne. get_or-set_other s.records new.slab o (Some new) None ne;
    })

-- whatever is written, a heap keeps slabs
replace-by : (k : Key) (s : Kept) (next : HeapSlab) (one : Option HeapSlab) → HeapFits k s
    → record_at s.records next.slab ≡ one → HeapFits k (replace_by s next one)
replace-by k s next None fits is = fits
replace-by k s next (Some there) fits is = by (eqb there.class next.class) refl
  where
    by : (b : Bool) → eqb there.class next.class ≡ b
        → HeapFits k (cond b (record s { records = set s.records next.slab (Some next) }) s)
    by true same = record {
      are = kept_replace s.classes s.records next there fits.are is (grind (arith, nat_tests));
      room = fits.room;
      lists = fits.lists;
    }
    by false other = fits

pub replace-fits : (k : Key) (s : Kept) (next : HeapSlab) → HeapFits k s → HeapFits k (after_replace s next)
replace-fits k s next fits = replace-by k s next (record_at s.records next.slab) fits refl

pub take-fits : (k : Key) (s : Kept) (slab : ℕ) (below : Option ℕ) → HeapFits k s
    → HeapFits k (after_take_of s slab below)
take-fits k s slab below fits = by (record_at s.records slab)
  where
    by : (one : Option HeapSlab) → HeapFits k (take_by s below one)
    by None = fits
    by (Some kept) = replace-fits k s (after_take kept below) fits

pub join-fits : (k : Key) (s : Kept) (slab first count : ℕ) → HeapFits k s
    → HeapFits k (after_join_of s slab first count)
join-fits k s slab first count fits = by (record_at s.records slab)
  where
    by : (one : Option HeapSlab) → HeapFits k (join_by s first count one)
    by None = fits
    by (Some kept) = replace-fits k s (after_join kept first count) fits

pub free-fits : (k : Key) (s : Kept) (slab unit : ℕ) → HeapFits k s → HeapFits k (after_free_of s slab unit)
free-fits k s slab unit fits = by (record_at s.records slab)
  where
    by : (one : Option HeapSlab) → HeapFits k (free_by s unit one)
    by None = fits
    by (Some kept) = replace-fits k s (after_free kept unit) fits

pub remove-fits : (k : Key) (s : Kept) (slab : ℕ) → HeapFits k s → HeapFits k (after_remove s slab)
remove-fits k s slab fits = by (record_at s.records slab) refl
  where
    by : (one : Option HeapSlab) → record_at s.records slab ≡ one → HeapFits k (remove_by s slab one)
    by None is = fits
    by (Some there) is = record {
      are = kept_remove s.classes s.records slab there fits.are is;
      room = fits.room;
      lists = length-set s.classes.lists there.class (list_without slab (members s.classes there.class)) ∙ fits.lists;
    }

-- a slab that was taken out is kept no more
pub removed-here : (k : Key) (s : Kept) (slab : ℕ) → record_at (after_remove s slab).records slab ≡ None
removed-here k s slab = by (record_at s.records slab) refl
  where
    by : (one : Option HeapSlab) → record_at s.records slab ≡ one → record_at (remove_by s slab one).records slab ≡ None
    by None is = is
    by (Some there) is = get_or-set_same s.records slab None None (within s.records slab there is)

pub add-fits : (k : Key) (s : Kept) (new : HeapSlab) → HeapFits k s → HeapFits k (after_add s new)
add-fits k s new fits = by (record_at s.records new.slab) refl
  where
    placed : (b : Bool) → (ltb new.class (length s.classes.lists) && ltb new.slab s.classes.indices) ≡ b
        → record_at s.records new.slab ≡ None
        → HeapFits k (cond b (record {
          classes = with_first s.classes new.class new.slab;
          records = set s.records new.slab (Some new);
        }) s)
    placed true both is = record {
      are = kept_add s.classes s.records new fits.are (grind (arith, nat_tests)) (grind (arith, nat_tests)) is;
      room = fits.room;
      lists = length-set s.classes.lists new.class (new.slab ∷ members s.classes new.class) ∙ fits.lists;
    }
    placed false out is = fits

    by : (one : Option HeapSlab) → record_at s.records new.slab ≡ one → HeapFits k (add_by s new one)
    by None is = placed (ltb new.class (length s.classes.lists) && ltb new.slab s.classes.indices) refl is
    by (Some there) is = fits

-- the record of a slab is of that slab, and of a class of the pool
pub slab-is : {k : Key} (s : Kept) (slab : ℕ) (kept : HeapSlab) → HeapFits k s → record_at s.records slab ≡ Some kept
    → kept.slab ≡ slab
slab-is s slab kept fits is = (fits.are.listed slab kept is).0

pub class-low : {k : Key} (s : Kept) (slab : ℕ) (kept : HeapSlab) → HeapFits k s
    → record_at s.records slab ≡ Some kept → kept.class < class_count
class-low s slab kept fits is = elim (cases_lt kept.class (length s.classes.lists)) [
  | inl low ↦ let lists = fits.lists in omega arith
  | inr past ↦
      let in' : 0 < times slab (members s.classes kept.class) = (fits.are.listed slab kept is).1 in
      let none : members s.classes kept.class ≡ [] = get_or_past s.classes.lists kept.class [] past in
      absurd (let zero : times slab (members s.classes kept.class) ≡ 0 = ap (times slab) none in omega arith)
]

-- an object that comes back, or that others gave back, leaves the slab where it was, in its class
pub record StaysKept (s : Kept) (slab class : ℕ) (kept : HeapSlab) : Type 0 where
  pub there : record_at s.records slab ≡ Some kept
  pub class' : kept.class ≡ class

replaced-stays : (k : Key) (s : Kept) (next there : HeapSlab) (e : ℕ) (kept : HeapSlab) → HeapFits k s
    → record_at s.records next.slab ≡ Some there → there.class ≡ next.class → record_at s.records e ≡ Some kept
    → (now : HeapSlab) × StaysKept (after_replace s next) e kept.class now
replaced-stays k s next there e kept fits is class at = elim (cases_eq e next.slab) [
  | inl same ↦
      let changed = replaced k s next there fits is class in
      let one : there ≡ kept = same_Some there kept (sym is ∙ ap (record_at s.records) (sym same) ∙ at) in (
        next,
        record {
          there = ap (record_at (after_replace s next).records) same ∙ changed.here;
          class' = sym class ∙ ap (λ (x : HeapSlab). x.class) one;
        },
      )
  | inr other ↦
      let changed = replaced k s next there fits is class in
      (kept, record { there = changed.others e other ∙ at; class' = refl })
]

pub join-stays : (k : Key) (s : Kept) (slab first count e : ℕ) (kept : HeapSlab) → HeapFits k s
    → record_at s.records e ≡ Some kept
    → (now : HeapSlab) × StaysKept (after_join_of s slab first count) e kept.class now
join-stays k s slab first count e kept fits at = by (record_at s.records slab) refl
  where
    by : (one : Option HeapSlab) → record_at s.records slab ≡ one
        → (now : HeapSlab) × StaysKept (join_by s first count one) e kept.class now
    by None is = (kept, record { there = at; class' = refl })
    by (Some there) is = replaced-stays k s (after_join there first count) there e kept fits
        (ap (record_at s.records) (slab-is s slab there fits is) ∙ is) refl at

pub free-stays : (k : Key) (s : Kept) (slab unit e : ℕ) (kept : HeapSlab) → HeapFits k s
    → record_at s.records e ≡ Some kept
    → (now : HeapSlab) × StaysKept (after_free_of s slab unit) e kept.class now
free-stays k s slab unit e kept fits at = by (record_at s.records slab) refl
  where
    by : (one : Option HeapSlab) → record_at s.records slab ≡ one
        → (now : HeapSlab) × StaysKept (free_by s unit one) e kept.class now
    by None is = (kept, record { there = at; class' = refl })
    by (Some there) is = replaced-stays k s (after_free there unit) there e kept fits
        (ap (record_at s.records) (slab-is s slab there fits is) ∙ is) refl at

-- the record of the slab to which an object came back
pub freed-here : (k : Key) (s : Kept) (slab unit : ℕ) (kept : HeapSlab) → HeapFits k s
    → record_at s.records slab ≡ Some kept
    → record_at (after_replace s (after_free kept unit)).records slab ≡ Some (after_free kept unit)
freed-here k s slab unit kept fits is =
    let same = slab-is s slab kept fits is in
    let changed = replaced k s (after_free kept unit) kept fits (ap (record_at s.records) same ∙ is) refl in
    ap (record_at (after_replace s (after_free kept unit)).records) (sym same) ∙ changed.here

-- a search finds a slab that stands in the list, and is wanted
pub record IsFound (wanted : Wanted) (s : Kept) (kept : HeapSlab) : Type 0 where
  pub there : record_at s.records kept.slab ≡ Some kept
  pub wanted' : suits wanted kept ≡ true

record Finds (wanted : Wanted) (records : SlabRecords) (xs : List ℕ) (kept : HeapSlab) (slab : ℕ) : Type 0 where
  in' : 0 < times slab xs
  there : record_at records slab ≡ Some kept
  wanted' : suits wanted kept ≡ true

finds-behind : (wanted : Wanted) (records : SlabRecords) (x : ℕ) (xs : List ℕ) (kept : HeapSlab)
    → (slab : ℕ) × Finds wanted records xs kept slab → (slab : ℕ) × Finds wanted records (x ∷ xs) kept slab
finds-behind wanted records x xs kept found = (
  found.0,
  record { in' = let in' = found.1.in' in omega arith; there = found.1.there; wanted' = found.1.wanted' },
)

finds-in : (wanted : Wanted) (records : SlabRecords) (xs : List ℕ) (kept : HeapSlab)
    → first_in wanted records xs ≡ Some kept → (slab : ℕ) × Finds wanted records xs kept slab
finds-in wanted records [] kept is = absurd (cc)
finds-in wanted records (x ∷ xs) kept is =
    by (record_at records x) refl is
    (λ rest. finds-behind wanted records x xs kept (finds-in wanted records xs kept rest))
  where
    suited : (there : HeapSlab) (b : Bool) → record_at records x ≡ Some there → suits wanted there ≡ b
        → cond b (Some there) (first_in wanted records xs) ≡ Some kept
        → (first_in wanted records xs ≡ Some kept → (slab : ℕ) × Finds wanted records (x ∷ xs) kept slab)
        → (slab : ℕ) × Finds wanted records (x ∷ xs) kept slab
    suited there true at so is behind =
        let same : there ≡ kept = same_Some there kept is in (
          x,
          record {
            in' = let one = times-here x xs in omega arith;
            there = at ∙ is;
            wanted' = ap (suits wanted) (sym same) ∙ so;
          },
        )
    suited there false at so is behind = behind is

    by : (one : Option HeapSlab) → record_at records x ≡ one
        → if_suits wanted one (first_in wanted records xs) ≡ Some kept
        → (first_in wanted records xs ≡ Some kept → (slab : ℕ) × Finds wanted records (x ∷ xs) kept slab)
        → (slab : ℕ) × Finds wanted records (x ∷ xs) kept slab
    by None at is behind = behind is
    by (Some there) at is behind = suited there (suits wanted there) at refl is behind

there-found : (k : Key) (wanted : Wanted) (s : Kept) (kept : HeapSlab) (slab : ℕ) → HeapFits k s
    → record_at s.records slab ≡ Some kept → suits wanted kept ≡ true → IsFound wanted s kept
there-found k wanted s kept slab fits is so = record {
  there = ap (record_at s.records) (slab-is s slab kept fits is) ∙ is;
  wanted' = so;
}

among-found : (k : Key) (wanted : Wanted) (s : Kept) (lists : List (List ℕ)) (kept : HeapSlab) → HeapFits k s
    → first_among wanted s.records lists ≡ Some kept → IsFound wanted s kept
among-found k wanted s [] kept fits is = absurd (cc)
among-found k wanted s (list ∷ lists) kept fits is =
    by (first_in wanted s.records list) refl is (λ rest. among-found k wanted s lists kept fits rest)
  where
    by : (one : Option HeapSlab) → first_in wanted s.records list ≡ one
        → else_later one (first_among wanted s.records lists) ≡ Some kept
        → (first_among wanted s.records lists ≡ Some kept → IsFound wanted s kept) → IsFound wanted s kept
    by None at is later = later is
    by (Some there) at is later =
        let found = finds-in wanted s.records list kept (at ∙ is) in
        there-found k wanted s kept found.0 fits found.1.there found.1.wanted'

pub from-found : (k : Key) (wanted : Wanted) (s : Kept) (class : ℕ) (kept : HeapSlab) → HeapFits k s
    → first_from wanted s class ≡ Some kept → IsFound wanted s kept
from-found k wanted s class kept fits is = among-found k wanted s (drop class s.classes.lists) kept fits is

pub class-found : (k : Key) (wanted : Wanted) (s : Kept) (class : ℕ) (kept : HeapSlab) → HeapFits k s
    → first_of_class wanted s class ≡ Some kept → IsFound wanted s kept × (kept.class ≡ class)
class-found k wanted s class kept fits is =
    let found = finds-in wanted s.records (members s.classes class) kept is in
    let stands = fits.are.recorded class found.0 found.1.in' in
    let same : stands.0 ≡ kept = same_Some stands.0 kept (sym stands.1 ∙ found.1.there) in (
      there-found k wanted s kept found.0 fits found.1.there found.1.wanted',
      ap (λ (x : HeapSlab). x.class) (sym same) ∙ stands.2,
    )
