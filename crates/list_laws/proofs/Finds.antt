-- What is found in a list, and what is left of it.
use Rattle.std.proofs.Common.{◌≡◌, Bool, true, false, cond, ◌&&◌, ◌⊎◌, inl, inr, List, [], ◌∷◌, ◌≤◌, length, map, refl, sym, ap, subst, ◌∙◌, Some, None}
use Rattle.std.specs.Prelude.{Contains, filter, find}
use Rattle.std.specs.declared.option.Option.{Option}
use Rattle.std.proofs.lemmas.Bool.{true≢false}
use Rattle.list_laws.proofs.Members.{Contains-first, Contains-other, Contains-none, Contains-cons, Contains-filter}
use Rattle.list_laws.proofs.Counts.{count-only}

-- what is found passes and is a member; where nothing is found none passes
pub find-Some : {X : Type 0} (p : X → Bool) (xs : List X) (x : X) → find p xs ≡ Some x → Contains xs x × (p x ≡ true)
find-Some p [] x found = absurd (let e = found in cc)
find-Some p (y ∷ xs) x found = go (p y) refl found (λ later. find-Some p xs x later)
  where
    go : (b : Bool) → p y ≡ b → cond b (Some y) (find p xs) ≡ Some x → (find p xs ≡ Some x → Contains xs x × (p x ≡ true)) → Contains (y ∷ xs) x × (p x ≡ true)
    go true is found step = let same : y ≡ x = cc in (subst (λ z. Contains (z ∷ xs) x) (sym same) (Contains-first x xs), subst (λ z. p z ≡ true) same is)
    go false is found step = (Contains-other y xs x (step found).0, (step found).1)

pub find-None : {X : Type 0} (p : X → Bool) (xs : List X) → find p xs ≡ None → (x : X) → Contains xs x → p x ≡ false
find-None p [] none x inside = absurd (Contains-none x inside)
find-None p (y ∷ xs) none x inside = go (p y) refl none (Contains-cons y xs x inside) (λ later. find-None p xs later x)
  where
    go : (b : Bool) → p y ≡ b → cond b (Some y) (find p xs) ≡ None → (y ≡ x) ⊎ Contains xs x → (find p xs ≡ None → Contains xs x → p x ≡ false) → p x ≡ false
    go true is none here step = absurd (let e = none in cc)
    go false is none (inl same) step = subst (λ z. p z ≡ false) same is
    go false is none (inr later) step = step none later

-- where one at most passes, a member that passes is what is found
pub find-only : {X : Type 0} (p : X → Bool) (xs : List X) (x : X) → length (filter p xs) ≤ 1 → Contains xs x → p x ≡ true → find p xs ≡ Some x
find-only {X} p xs x few inside passes = go (find p xs) refl
  where
    go : (found : Option X) → find p xs ≡ found → found ≡ Some x
    go (Some y) is = let (among, ok) = find-Some p xs y is in ap Some (count-only p xs y x few among inside ok passes)
    go None none = absurd (let e : true ≡ false = sym passes ∙ find-None p xs none x inside in cc)

-- where no member passes nothing is found
pub find-nothing : {X : Type 0} (p : X → Bool) (xs : List X) → ((x : X) → Contains xs x → p x ≡ false) → find p xs ≡ None
find-nothing p [] none = refl
find-nothing p (x ∷ xs) none = go (p x) (none x (Contains-first x xs)) (find-nothing p xs (λ y inside. none y (Contains-other x xs y inside)))
  where
    go : (b : Bool) → b ≡ false → find p xs ≡ None → cond b (Some x) (find p xs) ≡ None
    go true is rest = absurd (true≢false is)
    go false is rest = rest

pub find-same : {X : Type 0} (p q : X → Bool) (xs : List X) → ((x : X) → Contains xs x → p x ≡ q x) → find p xs ≡ find q xs
find-same p q [] same = refl
find-same p q (x ∷ xs) same = go (p x) (q x) (same x (Contains-first x xs)) (find-same p q xs (λ y inside. same y (Contains-other x xs y inside)))
  where
    go : (a b : Bool) → a ≡ b → find p xs ≡ find q xs → cond a (Some x) (find p xs) ≡ cond b (Some x) (find q xs)
    go true true is rest = refl
    go false false is rest = rest
    go true false is rest = absurd (true≢false is)
    go false true is rest = absurd (true≢false (sym is))

pub filter-same : {X : Type 0} (p q : X → Bool) (xs : List X) → ((x : X) → Contains xs x → p x ≡ q x) → filter p xs ≡ filter q xs
filter-same p q [] same = refl
filter-same p q (x ∷ xs) same = go (p x) (q x) (same x (Contains-first x xs)) (filter-same p q xs (λ y inside. same y (Contains-other x xs y inside)))
  where
    go : (a b : Bool) → a ≡ b → filter p xs ≡ filter q xs → cond a (x ∷ filter p xs) (filter p xs) ≡ cond b (x ∷ filter q xs) (filter q xs)
    go true true is rest = ap (λ ys. x ∷ ys) rest
    go false false is rest = rest
    go true false is rest = absurd (true≢false is)
    go false true is rest = absurd (true≢false (sym is))

pub filter-each : {X : Type 0} (p : X → Bool) (xs : List X) → ((x : X) → Contains xs x → p x ≡ true) → filter p xs ≡ xs
filter-each p [] each = refl
filter-each p (x ∷ xs) each = go (p x) (each x (Contains-first x xs)) (filter-each p xs (λ y inside. each y (Contains-other x xs y inside)))
  where
    go : (b : Bool) → b ≡ true → filter p xs ≡ xs → cond b (x ∷ filter p xs) (filter p xs) ≡ x ∷ xs
    go true is rest = ap (λ ys. x ∷ ys) rest
    go false is rest = absurd (true≢false (sym is))

-- what is found in what is left, where all that passes is left
pub find-left : {X : Type 0} (p q : X → Bool) (xs : List X) → ((x : X) → Contains xs x → p x ≡ true → q x ≡ true) → find p (filter q xs) ≡ find p xs
find-left p q [] passes = refl
find-left p q (x ∷ xs) passes = go (q x) (p x) refl refl (passes x (Contains-first x xs)) (find-left p q xs (λ y inside. passes y (Contains-other x xs y inside)))
  where
    go : (b a : Bool) → q x ≡ b → p x ≡ a → (p x ≡ true → q x ≡ true) → find p (filter q xs) ≡ find p xs → find p (cond b (x ∷ filter q xs) (filter q xs)) ≡ cond a (Some x) (find p xs)
    go true true isb isa f rest = first (p x) isa
      where
        first : (c : Bool) → c ≡ true → cond c (Some x) (find p (filter q xs)) ≡ Some x
        first true is = refl
        first false is = absurd (true≢false (sym is))
    go true false isb isa f rest = later (p x) isa
      where
        later : (c : Bool) → c ≡ false → cond c (Some x) (find p (filter q xs)) ≡ find p xs
        later true is = absurd (true≢false is)
        later false is = rest
    go false true isb isa f rest = absurd (true≢false (sym (f isa) ∙ isb))
    go false false isb isa f rest = rest

-- nothing is found in what is left, where nothing that passes is left
pub find-gone : {X : Type 0} (p q : X → Bool) (xs : List X) → ((x : X) → Contains xs x → p x ≡ true → q x ≡ false) → find p (filter q xs) ≡ None
find-gone p q xs gone = find-nothing p (filter q xs) (λ x inside. let at = Contains-filter q xs x inside in go (p x) refl (gone x at.0) at.1)
  where
    go : {x : _} (b : Bool) → p x ≡ b → (p x ≡ true → q x ≡ false) → q x ≡ true → p x ≡ false
    go true is f left = absurd (true≢false (sym left ∙ f is))
    go false is f left = is

-- what is left of what was left
pub filter-twice : {X : Type 0} (p q : X → Bool) (xs : List X) → filter p (filter q xs) ≡ filter (λ x. q x && p x) xs
filter-twice p q [] = refl
filter-twice p q (x ∷ xs) = go (q x) (filter-twice p q xs)
  where
    go : (b : Bool) → filter p (filter q xs) ≡ filter (λ y. q y && p y) xs → filter p (cond b (x ∷ filter q xs) (filter q xs)) ≡ cond (b && p x) (x ∷ filter (λ y. q y && p y) xs) (filter (λ y. q y && p y) xs)
    go true rest = ap (λ ys. cond (p x) (x ∷ ys) ys) rest
    go false rest = rest

-- what is left of a list that a function went over
pub filter-map : {X Y : Type 0} (f : X → Y) (p : Y → Bool) (xs : List X) → filter p (map f xs) ≡ map f (filter (λ x. p (f x)) xs)
filter-map f p [] = refl
filter-map f p (x ∷ xs) = go (p (f x)) (filter-map f p xs)
  where
    go : (b : Bool) → filter p (map f xs) ≡ map f (filter (λ y. p (f y)) xs) → cond b (f x ∷ filter p (map f xs)) (filter p (map f xs)) ≡ map f (cond b (x ∷ filter (λ y. p (f y)) xs) (filter (λ y. p (f y)) xs))
    go true rest = ap (λ ys. f x ∷ ys) rest
    go false rest = rest
