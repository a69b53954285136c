-- A search through a list of slabs, place by place.
use Rattle.std.proofs.Common.{◌≡◌, ℕ, ◌+◌, ◌<◌, ◌≤◌, true, false, cond, List, [], ◌∷◌, length, slice_get, drop, Some}
use Rattle.std.proofs.Common.{None, zero, suc, refl, ap, arith, ◌∙◌}
use Rattle.std.proofs.Math.ListN.{drop_of_length-le}
use Rattle.std.proofs.Math.Seq.{drop-cons}
use Rattle.index_lists.specs.Lists.{Lists, members}
use Rattle.std.proofs.lemmas.Option.{same_Some}
use Rattle.heap_slabs.specs.declared.records.HeapSlab.{HeapSlab}
use Rattle.heap_slabs.specs.declared.slabs.Wanted.{Wanted}
use Rattle.heap_slabs.specs.Slabs.{SlabRecords, record_at, suits, first_in, first_among, else_later, if_suits}

-- what is left from a place on begins with what stands there
from_place : (xs : List ℕ) (place x : ℕ) → slice_get xs place ≡ Some x → drop place xs ≡ x ∷ drop (place + 1) xs
from_place [] place x is = absurd (cc)
from_place (y ∷ ys) zero x is = ap (λ v. v ∷ ys) (same_Some y x is)
from_place (y ∷ ys) (suc n) x is =
    from_place ys n x is ∙ ap (λ m. x ∷ drop m (y ∷ ys)) (let e : suc (n + 1) ≡ suc n + 1 = omega arith in e)

from_end : (xs : List ℕ) (place : ℕ) → slice_get xs place ≡ None → drop place xs ≡ []
from_end [] zero is = refl
from_end [] (suc n) is = refl
from_end (y ∷ ys) zero is = absurd (cc)
from_end (y ∷ ys) (suc n) is = from_end ys n is

-- the search goes by what stands at the place
pub found : (wanted : Wanted) (records : SlabRecords) (xs : List ℕ) (place x : ℕ) (kept : HeapSlab)
    → slice_get xs place ≡ Some x
    → record_at records x ≡ Some kept → suits wanted kept ≡ true → first_in wanted records (drop place xs) ≡ Some kept
found wanted records xs place x kept is there so =
    ap (first_in wanted records) (from_place xs place x is)
    ∙ ap (λ r. if_suits wanted r (first_in wanted records (drop (place + 1) xs))) there
    ∙ ap (λ b. cond b (Some kept) (first_in wanted records (drop (place + 1) xs))) so

pub passed : (wanted : Wanted) (records : SlabRecords) (xs : List ℕ) (place x : ℕ) (kept : HeapSlab)
    → slice_get xs place ≡ Some x
    → record_at records x ≡ Some kept → suits wanted kept ≡ false
    → first_in wanted records (drop place xs) ≡ first_in wanted records (drop (place + 1) xs)
passed wanted records xs place x kept is there so =
    ap (first_in wanted records) (from_place xs place x is)
    ∙ ap (λ r. if_suits wanted r (first_in wanted records (drop (place + 1) xs))) there
    ∙ ap (λ b. cond b (Some kept) (first_in wanted records (drop (place + 1) xs))) so

pub passed_none : (wanted : Wanted) (records : SlabRecords) (xs : List ℕ) (place x : ℕ) → slice_get xs place ≡ Some x
    → record_at records x ≡ None → first_in wanted records (drop place xs) ≡ first_in wanted records (drop (place + 1)
    xs)
passed_none wanted records xs place x is none =
    ap (first_in wanted records) (from_place xs place x is)
    ∙ ap (λ r. if_suits wanted r (first_in wanted records (drop (place + 1) xs))) none

-- nothing is left behind the last place
pub at_end : (wanted : Wanted) (records : SlabRecords) (xs : List ℕ) (place : ℕ) → slice_get xs place ≡ None
    → first_in wanted records (drop place xs) ≡ None
at_end wanted records xs place none = ap (first_in wanted records) (from_end xs place none)

pub past_end : (wanted : Wanted) (records : SlabRecords) (xs : List ℕ) (place : ℕ) → length xs ≤ place
    → first_in wanted records (drop place xs) ≡ None
past_end wanted records xs place past = ap (first_in wanted records) (drop_of_length-le xs past)

-- the search over lists goes by the list
from_list : (classes : Lists) (list : ℕ) → list < length classes.lists
    → drop list classes.lists ≡ members classes list ∷ drop (list + 1) classes.lists
from_list classes list l =
    drop-cons classes.lists list [] l ∙ ap (λ n. members classes list ∷ drop n classes.lists) (let e : suc list ≡ list
    + 1 = omega arith in e)

pub found_among : (wanted : Wanted) (records : SlabRecords) (classes : Lists) (list : ℕ) (kept : HeapSlab)
    → list < length classes.lists
    → first_in wanted records (members classes list) ≡ Some kept
    → first_among wanted records (drop list classes.lists) ≡ Some kept
found_among wanted records classes list kept l is =
    ap (first_among wanted records) (from_list classes list l)
    ∙ ap (λ r. else_later r (first_among wanted records (drop (list + 1) classes.lists))) is

pub passed_list : (wanted : Wanted) (records : SlabRecords) (classes : Lists) (list : ℕ) → list < length classes.lists
    → first_in wanted records (members classes list) ≡ None → first_among wanted records (drop list classes.lists) ≡
    first_among wanted records (drop (list + 1) classes.lists)
passed_list wanted records classes list l is =
    ap (first_among wanted records) (from_list classes list l)
    ∙ ap (λ r. else_later r (first_among wanted records (drop (list + 1) classes.lists))) is

pub past_lists : (wanted : Wanted) (records : SlabRecords) (classes : Lists) (list : ℕ) → length classes.lists ≤ list
    → first_among wanted records (drop list classes.lists) ≡ None
past_lists wanted records classes list past = ap (first_among wanted records) (drop_of_length-le classes.lists past)
