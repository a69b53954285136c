-- Members of lists.
use Prim.Native.Nat.{zero, suc}
use Rattle.std.proofs.Common.{◌≡◌, ℕ, Bool, true, false, cond, ◌⊎◌, inl, inr, List, [], ◌∷◌, map, length, refl, sym, ap, ◌∙◌, subst, arith, take, drop}
use Rattle.std.specs.Prelude.{Contains, filter}
use Rattle.std.proofs.lemmas.Bool.{true≢false}

-- the first member, and the others
pub Contains-first : {X : Type 0} (x : X) (xs : List X) → Contains (x ∷ xs) x
Contains-first x xs = (0, omega arith, refl)

pub Contains-other : {X : Type 0} (y : X) (xs : List X) (x : X) → Contains xs x → Contains (y ∷ xs) x
Contains-other y xs x (k, below, is) = (suc k, omega arith, is)

pub Contains-cons : {X : Type 0} (y : X) (xs : List X) (x : X) → Contains (y ∷ xs) x → (y ≡ x) ⊎ Contains xs x
Contains-cons y xs x (zero, below, is) = inl is
Contains-cons y xs x (suc k, below, is) = inr (k, omega arith, is)

-- the empty list has none
pub Contains-none : {X : Type 0} (x : X) → Contains [] x → ⊥
Contains-none x (k, below, is) = omega arith

pub Contains-empty : {X : Type 0} (xs : List X) (x : X) → length xs ≡ 0 → Contains xs x → ⊥
Contains-empty xs x none (k, below, is) = omega (arith, none)

-- a list of one member
pub Contains-single : {X : Type 0} (y x : X) → Contains (y ∷ []) x → y ≡ x
Contains-single y x inside = elim (Contains-cons y [] x inside) [ inl is ↦ is | inr later ↦ absurd (Contains-none x later) ]

-- members of a list that was filtered
pub Contains-filter : {X : Type 0} (p : X → Bool) (xs : List X) (x : X) → Contains (filter p xs) x → Contains xs x × (p x ≡ true)
Contains-filter p [] x inside = absurd (Contains-none x inside)
Contains-filter p (y ∷ xs) x inside = go (p y) refl inside (λ later. Contains-filter p xs x later)
  where
    go : (b : Bool) → p y ≡ b → Contains (cond b (y ∷ filter p xs) (filter p xs)) x → (Contains (filter p xs) x → Contains xs x × (p x ≡ true)) → Contains (y ∷ xs) x × (p x ≡ true)
    go true is inside step = elim (Contains-cons y (filter p xs) x inside) [
      | inl same ↦ (subst (λ z. Contains (z ∷ xs) x) (sym same) (Contains-first x xs), subst (λ z. p z ≡ true) same is)
      | inr later ↦ (Contains-other y xs x (step later).0, (step later).1)
    ]
    go false is inside step = (Contains-other y xs x (step inside).0, (step inside).1)

pub Contains-filter_from : {X : Type 0} (p : X → Bool) (xs : List X) (x : X) → Contains xs x → p x ≡ true → Contains (filter p xs) x
Contains-filter_from p [] x inside passes = absurd (Contains-none x inside)
Contains-filter_from p (y ∷ xs) x inside passes = go (p y) refl (Contains-cons y xs x inside) (λ later. Contains-filter_from p xs x later passes)
  where
    go : (b : Bool) → p y ≡ b → (y ≡ x) ⊎ Contains xs x → (Contains xs x → Contains (filter p xs) x) → Contains (cond b (y ∷ filter p xs) (filter p xs)) x
    go true is (inl same) step = subst (λ z. Contains (z ∷ filter p xs) x) (sym same) (Contains-first x (filter p xs))
    go true is (inr later) step = Contains-other y (filter p xs) x (step later)
    go false is (inl same) step = absurd (true≢false (sym passes ∙ ap p (sym same) ∙ is))
    go false is (inr later) step = step later

-- members of a list that a function went over: each is what the function makes of a member
pub Contains-map : {X Y : Type 0} (f : X → Y) (xs : List X) (y : Y) → Contains (map f xs) y → (x : X) × Contains xs x × (f x ≡ y)
Contains-map f [] y inside = absurd (Contains-none y inside)
Contains-map {X} f (x ∷ xs) y inside = go (Contains-cons (f x) (map f xs) y inside) (λ later. Contains-map f xs y later)
  where
    go : (f x ≡ y) ⊎ Contains (map f xs) y → (Contains (map f xs) y → (z : X) × Contains xs z × (f z ≡ y)) → (z : X) × Contains (x ∷ xs) z × (f z ≡ y)
    go (inl is) step = (x, Contains-first x xs, is)
    go (inr later) step = let (z, inside, is) = step later in (z, Contains-other x xs z inside, is)

pub Contains-map_from : {X Y : Type 0} (f : X → Y) (xs : List X) (x : X) → Contains xs x → Contains (map f xs) (f x)
Contains-map_from f [] x inside = absurd (Contains-none x inside)
Contains-map_from f (z ∷ xs) x inside = go (Contains-cons z xs x inside) (λ later. Contains-map_from f xs x later)
  where
    go : (z ≡ x) ⊎ Contains xs x → (Contains xs x → Contains (map f xs) (f x)) → Contains (f z ∷ map f xs) (f x)
    go (inl is) step = subst (λ w. Contains (f w ∷ map f xs) (f x)) (sym is) (Contains-first (f x) (map f xs))
    go (inr later) step = Contains-other (f z) (map f xs) (f x) (step later)

-- members of the first so many, and of those behind
pub Contains-take : {X : Type 0} (n : ℕ) (xs : List X) (x : X) → Contains (take n xs) x → Contains xs x
Contains-take zero xs x inside = absurd (Contains-none x inside)
Contains-take (suc n) [] x inside = absurd (Contains-none x inside)
Contains-take (suc n) (y ∷ xs) x inside = go (Contains-cons y (take n xs) x inside) (λ later. Contains-take n xs x later)
  where
    go : (y ≡ x) ⊎ Contains (take n xs) x → (Contains (take n xs) x → Contains xs x) → Contains (y ∷ xs) x
    go (inl is) step = subst (λ z. Contains (z ∷ xs) x) (sym is) (Contains-first x xs)
    go (inr later) step = Contains-other y xs x (step later)

pub Contains-drop : {X : Type 0} (n : ℕ) (xs : List X) (x : X) → Contains (drop n xs) x → Contains xs x
Contains-drop zero xs x inside = inside
Contains-drop (suc n) [] x inside = inside
Contains-drop (suc n) (y ∷ xs) x inside = Contains-other y xs x (Contains-drop n xs x inside)
