-- Lists read by `get_elem?` and by `slice_get`.
use Rattle.std.proofs.Common.{◌≡◌, ℕ, zero, suc, ◌+◌, ◌<◌, List, [], ◌∷◌, ◌++◌, length, map, take, drop, refl, sym}
use Rattle.std.proofs.Common.{ap, ◌∙◌, arith}
use Rattle.std.specs.Prelude.{Option, Some, None, slice_get, slice_index_or}
use mathlib.Core.Option as maybe
use mathlib.Core.Option.{some, none, some-injective, some-ne-none}
use lib.ListN.{get_elem?}

-- the same answer in the one form and in the other
abbrev pub elem_of : {A : Type 0} → Option A → maybe.Option A
elem_of None = none
elem_of (Some x) = some x

pub at_get : {A : Type 0} (xs : List A) (i : ℕ) → get_elem? xs i ≡ elem_of (slice_get xs i)
at_get [] zero = refl
at_get [] (suc i) = refl
at_get (x ∷ xs) zero = refl
at_get (x ∷ xs) (suc i) = at_get xs i

pub at_of : {A : Type 0} (xs : List A) (i : ℕ) (x : A) → slice_get xs i ≡ Some x → get_elem? xs i ≡ some x
at_of xs i x e = at_get xs i ∙ ap elem_of e

pub of_at : {A : Type 0} (xs : List A) (i : ℕ) (x : A) → get_elem? xs i ≡ some x → slice_get xs i ≡ Some x
of_at xs i x e = by (slice_get xs i) (sym (at_get xs i) ∙ e)
  where
    by : (one : Option _) → elem_of one ≡ some x → one ≡ Some x
    by None e = absurd (some-ne-none x (sym e))
    by (Some y) e = ap Some (some-injective y x e)

-- what is in a list of images is the image of what is in the list
pub record IsImage {A B : Type 0} (f : A → B) (xs : List A) (i : ℕ) (y : B) : Type 0 where
  pub one : A
  pub at : get_elem? xs i ≡ some one
  pub is : f one ≡ y

pub at_image : {A B : Type 0} (f : A → B) (xs : List A) (i : ℕ) (y : B) → get_elem? (map f xs) i ≡ some y
    → IsImage f xs i y
at_image f [] i y e = absurd (some-ne-none y (sym e))
at_image f (x ∷ xs) zero y e = record { one = x; at = refl; is = some-injective (f x) y e }
at_image f (x ∷ xs) (suc i) y e = let r = at_image f xs i y e in record { one = r.one; at = r.at; is = r.is }

-- what lies at an index, as the one form and the other find it
pub got_at : {A B : Type 0} (f : A → B) (xs : List A) (i : ℕ) (d : A) → i < length xs
    → slice_get (map f xs) i ≡ Some (f (slice_index_or xs i d))
got_at f [] i d low = absurd (omega arith)
got_at f (x ∷ xs) zero d low = refl
got_at f (x ∷ xs) (suc i) d low = got_at f xs i d (omega arith)

pub elem_at : {A : Type 0} (xs : List A) (i : ℕ) (d : A) → i < length xs → get_elem? xs i ≡ some (slice_index_or xs i d)
elem_at [] i d low = absurd (omega arith)
elem_at (x ∷ xs) zero d low = refl
elem_at (x ∷ xs) (suc i) d low = elem_at xs i d (omega arith)

none_at : {A : Type 0} (i m : ℕ) → get_elem? {A = A} [] i ≡ get_elem? [] m
none_at zero zero = refl
none_at zero (suc m) = refl
none_at (suc i) zero = refl
none_at (suc i) (suc m) = refl

pub at_drop : {A : Type 0} (xs : List A) (n i m : ℕ) → m ≡ n + i → get_elem? (drop n xs) i ≡ get_elem? xs m
at_drop xs zero i m e = ap (get_elem? xs) (omega arith)
at_drop [] (suc n) i m e = none_at i m
at_drop (x ∷ xs) (suc n) i zero e = absurd (omega arith)
at_drop (x ∷ xs) (suc n) i (suc m) e = at_drop xs n i m (omega arith)

take_front : {A : Type 0} (xs ys : List A) → take (length xs) (xs ++ ys) ≡ xs
take_front [] ys = refl
take_front (x ∷ xs) ys = ap (λ zs. x ∷ zs) (take_front xs ys)

-- a vector whose items were written through a slice has those of the slice
pub back_in : {A : Type 0} (n : ℕ) (old now : List A) → length now ≡ n → take n (now ++ drop (length now) old) ≡ now
back_in n old now e =
    ap (λ (m : ℕ). take m (now ++ drop (length now) old)) (sym e) ∙ take_front now (drop (length now) old)

-- lists of one length that have the same at each index
pub same_list : {A : Type 0} (xs ys : List A) → length xs ≡ length ys
    → ((i : ℕ) (x y : A) → get_elem? xs i ≡ some x → get_elem? ys i ≡ some y → x ≡ y) → xs ≡ ys
same_list [] [] len same = refl
same_list [] (y ∷ ys) len same = absurd (omega arith)
same_list (x ∷ xs) [] len same = absurd (omega arith)
same_list (x ∷ xs) (y ∷ ys) len same =
    let rest = same_list xs ys (omega arith) (λ i a b at at_b. same (suc i) a b at at_b) in
    let first = same 0 x y refl refl in
    λ j. first j ∷ rest j
