-- What holds at each place of two lists.
use Rattle.std.proofs.Common.{◌≡◌, ℕ, zero, suc, List, [], ◌∷◌, ◌++◌, length, refl, ap, arith}
use Rattle.std.specs.Prelude.{Option, Some, None, slice_get}

-- this holds at each place
abbrev pub AtEach : {X Y : Type 0} → (Option X → Option Y → Type 0) → List X → List Y → Type 0
AtEach P xs ys = (i : ℕ) → P (slice_get xs i) (slice_get ys i)

module _ {X Y : Type 0} (P : Option X → Option Y → Type 0) where
  -- one more on both sides
  pub each_more : (xs : List X) (ys : List Y) (x : X) (y : Y) → length xs ≡ length ys → P None None → AtEach P xs ys
      → P (Some x) (Some y) → AtEach P (xs ++ x ∷ []) (ys ++ y ∷ [])
  each_more [] [] x y len none all one zero = one
  each_more [] [] x y len none all one (suc i) = none
  each_more [] (b ∷ ys) x y len none all one i = absurd (omega arith)
  each_more (a ∷ xs) [] x y len none all one i = absurd (omega arith)
  each_more (a ∷ xs) (b ∷ ys) x y len none all one zero = all zero
  each_more (a ∷ xs) (b ∷ ys) x y len none all one (suc i) =
      each_more xs ys x y (omega arith) none (λ j. all (suc j)) one i

  -- the last on both sides
  pub each_last : (xs : List X) (ys : List Y) (x : X) (y : Y) → length xs ≡ length ys
      → AtEach P (xs ++ x ∷ []) (ys ++ y ∷ []) → P (Some x) (Some y)
  each_last [] [] x y len all = all zero
  each_last [] (b ∷ ys) x y len all = absurd (omega arith)
  each_last (a ∷ xs) [] x y len all = absurd (omega arith)
  each_last (a ∷ xs) (b ∷ ys) x y len all = each_last xs ys x y (omega arith) (λ j. all (suc j))

  -- and those before it
  pub each_front : (xs : List X) (ys : List Y) (x : X) (y : Y) → length xs ≡ length ys → P None None
      → AtEach P (xs ++ x ∷ []) (ys ++ y ∷ []) → AtEach P xs ys
  each_front [] [] x y len none all i = none
  each_front [] (b ∷ ys) x y len none all i = absurd (omega arith)
  each_front (a ∷ xs) [] x y len none all i = absurd (omega arith)
  each_front (a ∷ xs) (b ∷ ys) x y len none all zero = all zero
  each_front (a ∷ xs) (b ∷ ys) x y len none all (suc i) = each_front xs ys x y (omega arith) none (λ j. all (suc j)) i

  -- lists of which neither goes on alone
  pub same_length : ((x : X) → P (Some x) None → ⊥) → ((y : Y) → P None (Some y) → ⊥) → (xs : List X) (ys : List Y)
      → AtEach P xs ys → length xs ≡ length ys
  same_length left right [] [] all = refl
  same_length left right [] (y ∷ ys) all = absurd (right y (all zero))
  same_length left right (x ∷ xs) [] all = absurd (left x (all zero))
  same_length left right (x ∷ xs) (y ∷ ys) all = ap suc (same_length left right xs ys (λ j. all (suc j)))

pub no_items : {X : Type 0} (xs : List X) → length xs ≡ 0 → xs ≡ []
no_items [] is = refl
no_items (x ∷ xs) is = absurd (omega arith)
