-- How many members of a list pass a test.
use Prim.Native.Nat.{zero, suc}
use Rattle.std.proofs.Common.{◌≡◌, ℕ, ◌+◌, ◌<◌, ◌≤◌, Bool, true, false, cond, not, ◌||◌, ◌⊎◌, inl, inr, List, [], ◌∷◌, ◌++◌, map, length, take, drop, Some, None, refl, sym, ap, ◌∙◌, arith}
use Rattle.std.specs.Prelude.{Contains, filter, find}
use Rattle.std.specs.declared.option.Option.{Option}
use Rattle.list_laws.proofs.Members.{Contains-first, Contains-other, Contains-cons, Contains-none, Contains-empty}

-- one for a test that passes
abbrev pub one_if : Bool → ℕ
one_if true = 1
one_if false = 0

-- one member more
pub count-cons : {X : Type 0} (p : X → Bool) (x : X) (xs : List X) → length (filter p (x ∷ xs)) ≡ one_if (p x) + length (filter p xs)
count-cons p x xs = go (p x)
  where
    go : (b : Bool) → length (cond b (x ∷ filter p xs) (filter p xs)) ≡ one_if b + length (filter p xs)
    go true = omega arith
    go false = omega arith

-- of two lists
pub count-append : {X : Type 0} (p : X → Bool) (xs ys : List X) → length (filter p (xs ++ ys)) ≡ length (filter p xs) + length (filter p ys)
count-append p [] ys = omega arith
count-append p (x ∷ xs) ys =
    let first = count-cons p x (xs ++ ys) in let alone = count-cons p x xs in let rest = count-append p xs ys in omega (arith, first, alone, rest)

-- a member that passes is counted, and where none passes the count is 0
pub count-some : {X : Type 0} (p : X → Bool) (xs : List X) (x : X) → Contains xs x → p x ≡ true → 0 < length (filter p xs)
count-some p [] x inside passes = absurd (Contains-none x inside)
count-some p (y ∷ xs) x inside passes = go (Contains-cons y xs x inside) (λ later. count-some p xs x later passes)
  where
    go : (y ≡ x) ⊎ Contains xs x → (Contains xs x → 0 < length (filter p xs)) → 0 < length (filter p (y ∷ xs))
    go (inl same) step = let here : one_if (p y) ≡ 1 = ap one_if (ap p same ∙ passes) in let first = count-cons p y xs in omega (arith, here, first)
    go (inr later) step = let rest = step later in let first = count-cons p y xs in omega (arith, rest, first)

pub count-none : {X : Type 0} (p : X → Bool) (xs : List X) → ((x : X) → Contains xs x → p x ≡ false) → length (filter p xs) ≡ 0
count-none p [] none = refl
count-none p (y ∷ xs) none =
    let here : one_if (p y) ≡ 0 = ap one_if (none y (Contains-first y xs)) in
    let rest = count-none p xs (λ x inside. none x (Contains-other y xs x inside)) in
    let first = count-cons p y xs in omega (arith, here, rest, first)

-- a member that passes where none is counted
pub count-zero : {X : Type 0} (p : X → Bool) (xs : List X) → length (filter p xs) ≡ 0 → (x : X) → Contains xs x → p x ≡ false
count-zero p xs zero_is x inside = go (p x) refl
  where
    go : (b : Bool) → p x ≡ b → p x ≡ false
    go true is = absurd (let some = count-some p xs x inside is in omega (arith, some, zero_is))
    go false is = is

-- a test that passes more members counts more
pub count-more : {X : Type 0} (p q : X → Bool) (xs : List X) → ((x : X) → Contains xs x → p x ≡ true → q x ≡ true) → length (filter p xs) ≤ length (filter q xs)
count-more p q [] more = omega arith
count-more p q (y ∷ xs) more =
    let rest = count-more p q xs (λ x inside. more x (Contains-other y xs x inside)) in
    let one = count-cons p y xs in let other = count-cons q y xs in
    let here = below (p y) (q y) (more y (Contains-first y xs)) in omega (arith, rest, one, other, here)
  where
    below : (a b : Bool) → (a ≡ true → b ≡ true) → one_if a ≤ one_if b
    below true b passes = let e : one_if b ≡ 1 = ap one_if (passes refl) in omega (arith, e)
    below false b passes = omega arith

-- two tests that agree at each member count the same
pub count-same : {X : Type 0} (p q : X → Bool) (xs : List X) → ((x : X) → Contains xs x → p x ≡ q x) → length (filter p xs) ≡ length (filter q xs)
count-same p q [] same = refl
count-same p q (y ∷ xs) same =
    let rest = count-same p q xs (λ x inside. same x (Contains-other y xs x inside)) in
    let one = count-cons p y xs in let other = count-cons q y xs in
    let here : one_if (p y) ≡ one_if (q y) = ap one_if (same y (Contains-first y xs)) in omega (arith, rest, one, other, here)

-- a list that a function went over
pub count-map : {X Y : Type 0} (f : X → Y) (p : Y → Bool) (xs : List X) → length (filter p (map f xs)) ≡ length (filter (λ x. p (f x)) xs)
count-map f p [] = refl
count-map f p (x ∷ xs) =
    let rest = count-map f p xs in let one = count-cons p (f x) (map f xs) in let other = count-cons (λ y. p (f y)) x xs in omega (arith, rest, one, other)

-- the first so many and those behind are all
pub count-cut : {X : Type 0} (p : X → Bool) (n : ℕ) (xs : List X) → length (filter p (take n xs)) + length (filter p (drop n xs)) ≡ length (filter p xs)
count-cut p zero xs = omega arith
count-cut p (suc n) [] = omega arith
count-cut p (suc n) (x ∷ xs) =
    let rest = count-cut p n xs in let one = count-cons p x (take n xs) in let all = count-cons p x xs in omega (arith, rest, one, all)

-- those that pass another test and those that don't are all
pub count-split : {X : Type 0} (p q : X → Bool) (xs : List X) → length (filter p (filter q xs)) + length (filter p (filter (λ x. not (q x)) xs)) ≡ length (filter p xs)
count-split p q [] = refl
count-split p q (x ∷ xs) = go (q x) (count-split p q xs)
  where
    go : (b : Bool) → length (filter p (filter q xs)) + length (filter p (filter (λ y. not (q y)) xs)) ≡ length (filter p xs) →
        length (filter p (cond b (x ∷ filter q xs) (filter q xs))) + length (filter p (cond (not b) (x ∷ filter (λ y. not (q y)) xs) (filter (λ y. not (q y)) xs))) ≡ length (filter p (x ∷ xs))
    go true rest = let one = count-cons p x (filter q xs) in let all = count-cons p x xs in omega (arith, rest, one, all)
    go false rest = let one = count-cons p x (filter (λ y. not (q y)) xs) in let all = count-cons p x xs in omega (arith, rest, one, all)

-- where two tests pass no member both, those that pass one of them are those that pass the one and those that pass the other
pub count-either : {X : Type 0} (p q r : X → Bool) (xs : List X) → ((x : X) → Contains xs x → q x ≡ true → r x ≡ true → ⊥) →
    length (filter p (filter (λ x. q x || r x) xs)) ≡ length (filter p (filter q xs)) + length (filter p (filter r xs))
count-either p q r [] apart = refl
count-either p q r (x ∷ xs) apart = go (q x) (r x) (apart x (Contains-first x xs)) (count-either p q r xs (λ y inside. apart y (Contains-other x xs y inside)))
  where
    go : (a b : Bool) → (a ≡ true → b ≡ true → ⊥) → length (filter p (filter (λ x. q x || r x) xs)) ≡ length (filter p (filter q xs)) + length (filter p (filter r xs)) →
        length (filter p (cond (a || b) (x ∷ filter (λ x. q x || r x) xs) (filter (λ x. q x || r x) xs))) ≡ length (filter p (cond a (x ∷ filter q xs) (filter q xs))) + length (filter p (cond b (x ∷ filter r xs) (filter r xs)))
    go true true apart rest = absurd (apart refl refl)
    go true false apart rest = let one = count-cons p x (filter q xs) in let all = count-cons p x (filter (λ x. q x || r x) xs) in omega (arith, rest, one, all)
    go false true apart rest = let one = count-cons p x (filter r xs) in let all = count-cons p x (filter (λ x. q x || r x) xs) in omega (arith, rest, one, all)
    go false false apart rest = rest

-- how many of an optional member pass
abbrev pub count_in : {X : Type 0} → (X → Bool) → Option X → ℕ
count_in p (Some x) = one_if (p x)
count_in p None = 0

-- where one at most passes, what was found is all that passes
pub count-found : {X : Type 0} (p q : X → Bool) (xs : List X) → length (filter q xs) ≤ 1 → length (filter p (filter q xs)) ≡ count_in p (find q xs)
count-found p q [] few = refl
count-found p q (x ∷ xs) few = go (q x) (let first = count-cons q x xs in omega (arith, first, few)) (λ less. count-found p q xs less)
  where
    go : (b : Bool) → one_if b + length (filter q xs) ≤ 1 → (length (filter q xs) ≤ 1 → length (filter p (filter q xs)) ≡ count_in p (find q xs)) →
        length (filter p (cond b (x ∷ filter q xs) (filter q xs))) ≡ count_in p (cond b (Some x) (find q xs))
    go true few rest =
        let first = count-cons p x (filter q xs) in
        let none = count-none p (filter q xs) (λ y inside. absurd (Contains-empty (filter q xs) y (omega (arith, few)) inside)) in omega (arith, first, none)
    go false few rest = rest (omega (arith, few))

-- where one at most passes, two members that pass are one
pub count-only : {X : Type 0} (p : X → Bool) (xs : List X) (x y : X) → length (filter p xs) ≤ 1 → Contains xs x → Contains xs y → p x ≡ true → p y ≡ true → x ≡ y
count-only p [] x y few in_x in_y passes_x passes_y = absurd (Contains-none x in_x)
count-only {X} p (z ∷ xs) x y few in_x in_y passes_x passes_y =
    go (Contains-cons z xs x in_x) (Contains-cons z xs y in_y) (λ later_x later_y. count-only p xs x y less later_x later_y passes_x passes_y)
  where
    less : length (filter p xs) ≤ 1
    less = let first = count-cons p z xs in omega (arith, first, few)

    -- where the first member passes no later one does
    alone : (w : X) → z ≡ x ⊎ (z ≡ y) → Contains xs w → p w ≡ true → ⊥
    alone w first later passes =
        let some = count-some p xs w later passes in
        let cons = count-cons p z xs in
        let one : one_if (p z) ≡ 1 = elim first [ inl is ↦ ap one_if (ap p is ∙ passes_x) | inr is ↦ ap one_if (ap p is ∙ passes_y) ] in
        omega (arith, some, cons, one, few)

    go : (z ≡ x) ⊎ Contains xs x → (z ≡ y) ⊎ Contains xs y → (Contains xs x → Contains xs y → x ≡ y) → x ≡ y
    go (inl is_x) (inl is_y) rest = sym is_x ∙ is_y
    go (inl is_x) (inr later_y) rest = absurd (alone y (inl is_x) later_y passes_y)
    go (inr later_x) (inl is_y) rest = absurd (alone x (inr is_y) later_x passes_x)
    go (inr later_x) (inr later_y) rest = rest later_x later_y

-- what is counted is there
pub count-exists : {X : Type 0} (p : X → Bool) (xs : List X) → 0 < length (filter p xs) → (x : X) × Contains xs x × (p x ≡ true)
count-exists p [] some = absurd (omega arith)
count-exists {X} p (y ∷ xs) some = go (p y) refl (λ more. count-exists p xs more)
  where
    go : (b : Bool) → p y ≡ b → (0 < length (filter p xs) → (x : X) × Contains xs x × (p x ≡ true)) → (x : X) × Contains (y ∷ xs) x × (p x ≡ true)
    go true is rest = (y, Contains-first y xs, is)
    go false is rest =
        let cons = count-cons p y xs in
        let none = ap one_if is in
        let (x, inside, ok) = rest (omega (arith, cons, none, some)) in (x, Contains-other y xs x inside, ok)
