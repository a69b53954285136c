-- Sums over the first numbers, over the members of lists, and over cells, of which there is one for each key.
use Prim.Native.Nat.{zero, suc}
use Rattle.std.proofs.Common.{◌≡◌, ℕ, ◌+◌, ◌-◌, ◌*◌, ◌<◌, ◌≤◌, ◌==◌, Bool, true, false, cond, ◌&&◌, ◌⊎◌, inl, inr, nat_le, nat_lt, List, [], ◌∷◌, length, get_or, set, Some, None, refl, sym, ◌∙◌, ap, arith, length-set}
use Rattle.std.specs.Prelude.{if◌then◌else◌, sum_by, slice_get, Contains, filter, find}
use Rattle.std.specs.declared.option.Option.{Option}
use Rattle.std.proofs.lemmas.Bool.{cases_eq, eq-eqb, ne_eqb}
use Rattle.std.proofs.lemmas.Bool.Decides.{nat_tests}
use Rattle.std.proofs.lemmas.List.{get_or-set_same, get_or-set_other}
use Rattle.std.proofs.lemmas.List.Sums.{sum_by-set, sum_by-cons}
use Rattle.list_laws.specs.Sums.{sum_below}
use Rattle.list_laws.proofs.Members.{Contains-first, Contains-other, Contains-cons, Contains-none}
use Rattle.list_laws.proofs.Counts.{one_if, count-cons, count-some, count-zero}
use Rattle.list_laws.proofs.Finds.{find-nothing}

-- functions that agree have one sum
pub sum_below-same : (f g : ℕ → ℕ) (n : ℕ) → ((k : ℕ) → k < n → f k ≡ g k) → sum_below f n ≡ sum_below g n
unfolding sum_below
sum_below-same f g zero same = refl
sum_below-same f g (suc n) same =
    let rest : sum_below f n ≡ sum_below g n = sum_below-same f g n (λ k below. same k (omega arith)) in
    let last : f n ≡ g n = same n (omega arith) in
    omega (arith, rest, last)

pub sum_below-add : (f g : ℕ → ℕ) (n : ℕ) → sum_below (λ k. f k + g k) n ≡ sum_below f n + sum_below g n
unfolding sum_below
sum_below-add f g zero = refl
sum_below-add f g (suc n) = let rest = sum_below-add f g n in omega (arith, rest)

pub sum_below-none : (f : ℕ → ℕ) (n : ℕ) → ((k : ℕ) → k < n → f k ≡ 0) → sum_below f n ≡ 0
unfolding sum_below
sum_below-none f zero none = refl
sum_below-none f (suc n) none =
    let rest : sum_below f n ≡ 0 = sum_below-none f n (λ k below. none k (omega arith)) in
    let last : f n ≡ 0 = none n (omega arith) in
    omega (arith, rest, last)

-- a value at one number alone
pub sum_below-one : (v at n : ℕ) → sum_below (λ k. if k == at then v else 0) n ≡ (if nat_lt at n then v else 0)
unfolding sum_below
sum_below-one v at zero = grind (arith, nat_tests)
sum_below-one v at (suc n) = let rest = sum_below-one v at n in grind (arith, nat_tests, rest)

-- ones at the numbers of a span
pub sum_below-span : (start bytes n : ℕ) → sum_below (λ k. if nat_le start k && nat_lt k (start + bytes) then 1 else 0) n + (start + bytes - n) ≡ bytes + (start - n)
unfolding sum_below
sum_below-span start bytes zero = omega arith
sum_below-span start bytes (suc n) = let rest = sum_below-span start bytes n in grind (arith, nat_tests, rest)

-- functions that agree on the members have one sum
pub sum_by-same : {X : Type 0} (f g : X → ℕ) (xs : List X) → ((x : X) → Contains xs x → f x ≡ g x) → sum_by f xs ≡ sum_by g xs
sum_by-same f g [] same = refl
sum_by-same f g (x ∷ xs) same =
    let first = same x (Contains-first x xs) in
    let rest = sum_by-same f g xs (λ y member. same y (Contains-other x xs y member)) in
    omega (arith, first, rest, sum_by-cons f x xs, sum_by-cons g x xs)

pub sum_by-none : {X : Type 0} (f : X → ℕ) (xs : List X) → ((x : X) → Contains xs x → f x ≡ 0) → sum_by f xs ≡ 0
sum_by-none f [] none = refl
sum_by-none f (x ∷ xs) none =
    let first = none x (Contains-first x xs) in
    let rest = sum_by-none f xs (λ y member. none y (Contains-other x xs y member)) in
    omega (arith, first, rest, sum_by-cons f x xs)

-- the one member that passes has all of the sum
pub sum_by-only : {X : Type 0} (p : X → Bool) (f : X → ℕ) (xs : List X) (x : X) → length (filter p xs) ≤ 1 → Contains xs x → p x ≡ true → sum_by (λ y. if p y then f y else 0) xs ≡ f x
sum_by-only p f [] x few member passes = absurd (Contains-none x member)
sum_by-only {X} p f (y ∷ ys) x few member passes = sum_by-cons (λ z. if p z then f z else 0) y ys ∙ go (p y) refl (Contains-cons y ys x member) (λ less later. sum_by-only p f ys x less later passes)
  where
    rest_none : p y ≡ true → sum_by (λ z. if p z then f z else 0) ys ≡ 0
    rest_none is =
        let cons = count-cons p y ys in
        let one = ap one_if is in
        let none : length (filter p ys) ≡ 0 = omega (arith, few, cons, one) in
        sum_by-none (λ z. if p z then f z else 0) ys (λ z inside. ap (λ (b : Bool). if b then f z else 0) (count-zero p ys none z inside))

    go : (b : Bool) → p y ≡ b → (y ≡ x) ⊎ Contains ys x → (length (filter p ys) ≤ 1 → Contains ys x → sum_by (λ z. if p z then f z else 0) ys ≡ f x) → (if p y then f y else 0) + sum_by (λ z. if p z then f z else 0) ys ≡ f x
    go true is (inl same) step =
        let first : (if p y then f y else 0) ≡ f y = ap (λ (b : Bool). if b then f y else 0) is in
        let rest = rest_none is in
        let at = ap f same in
        omega (arith, first, rest, at)
    go true is (inr later) step =
        let cons = count-cons p y ys in
        let one = ap one_if is in
        let some = count-some p ys x later passes in
        absurd (omega (arith, few, cons, one, some))
    go false is (inl same) step = absurd (let clash : true ≡ false = sym passes ∙ ap p (sym same) ∙ is in cc)
    go false is (inr later) step =
        let cons = count-cons p y ys in
        let first : (if p y then f y else 0) ≡ 0 = ap (λ (b : Bool). if b then f y else 0) is in
        let rest = step (omega (arith, few, cons)) later in
        omega (arith, first, rest)

-- sums of sums
pub sum_below-sum_by : {X : Type 0} (f : X → ℕ → ℕ) (xs : List X) (n : ℕ) → sum_below (λ o. sum_by (λ x. f x o) xs) n ≡ sum_by (λ x. sum_below (f x) n) xs
sum_below-sum_by f [] n = sum_below-none (λ o. 0) n (λ k below. refl)
sum_below-sum_by f (x ∷ xs) n =
    let conses = sum_below-same (λ o. sum_by (λ y. f y o) (x ∷ xs)) (λ o. f x o + sum_by (λ y. f y o) xs) n (λ o below. sum_by-cons (λ y. f y o) x xs) in
    let both = sum_below-add (f x) (λ o. sum_by (λ y. f y o) xs) n in
    let rest = sum_below-sum_by f xs n in
    let whole = sum_by-cons (λ y. sum_below (f y) n) x xs in
    omega (arith, conses, both, rest, whole)

-- a sum of no numbers, and of one more
pub sum_below-zero : (f : ℕ → ℕ) → sum_below f 0 ≡ 0
unfolding sum_below
sum_below-zero f = refl

pub sum_below-suc : (f : ℕ → ℕ) (n : ℕ) → sum_below f (suc n) ≡ sum_below f n + f n
unfolding sum_below
sum_below-suc f n = refl

-- the same number each time
pub sum_below-const : (f : ℕ → ℕ) (n c : ℕ) → ((k : ℕ) → k < n → f k ≡ c) → sum_below f n ≡ n * c
unfolding sum_below
sum_below-const f zero c all = let none : 0 * c ≡ 0 = grind arith in omega (arith, none)
sum_below-const f (suc n) c all =
    let rest = sum_below-const f n c (λ k below. all k (omega arith)) in
    let last = all n (omega arith) in
    let more : suc n * c ≡ n * c + c = grind arith in
    omega (arith, rest, last, more)

-- the first numbers, and those behind them
pub sum_below-split : (f : ℕ → ℕ) (a b : ℕ) → sum_below f (a + b) ≡ sum_below f a + sum_below (λ k. f (a + k)) b
unfolding sum_below
sum_below-split f a zero = let same : a + 0 ≡ a = omega arith in let whole = ap (sum_below f) same in omega (arith, whole)
sum_below-split f a (suc b) =
    let same : a + suc b ≡ suc (a + b) = omega arith in
    let whole : sum_below f (a + suc b) ≡ sum_below f (a + b) + f (a + b) = ap (sum_below f) same in
    let rest = sum_below-split f a b in
    omega (arith, whole, rest)

-- the first number, and the others
pub sum_below-front : (f : ℕ → ℕ) (n : ℕ) → sum_below f (suc n) ≡ f 0 + sum_below (λ k. f (suc k)) n
unfolding sum_below
sum_below-front f zero = omega arith
sum_below-front f (suc n) = let rest = sum_below-front f n in omega (arith, rest)

-- a function on a span of numbers, counted from its start
pub sum_below-shifted : (f : ℕ → ℕ) (start bytes n : ℕ) → start + bytes ≤ n → sum_below (λ o. if nat_le start o && nat_lt o (start + bytes) then f (o - start) else 0) n ≡ sum_below f bytes
sum_below-shifted f start bytes n most =
    let cut : start + (bytes + (n - (start + bytes))) ≡ n = omega arith in
    let g : ℕ → ℕ = λ o. if nat_le start o && nat_lt o (start + bytes) then f (o - start) else 0 in
    let one = sum_below-split (λ o. if nat_le start o && nat_lt o (start + bytes) then f (o - start) else 0) start (bytes + (n - (start + bytes))) in
    let two = sum_below-split (λ k. if nat_le start (start + k) && nat_lt (start + k) (start + bytes) then f (start + k - start) else 0) bytes (n - (start + bytes)) in
    let low = sum_below-none (λ o. if nat_le start o && nat_lt o (start + bytes) then f (o - start) else 0) start (λ k below. outside (nat_le start k && nat_lt k (start + bytes)) (f (k - start)) (before start bytes k below)) in
    let high = sum_below-none (λ k. if nat_le start (start + (bytes + k)) && nat_lt (start + (bytes + k)) (start + bytes) then f (start + (bytes + k) - start) else 0) (n - (start + bytes))
    (λ k below. outside (nat_le start (start + (bytes + k)) && nat_lt (start + (bytes + k)) (start + bytes)) (f (start + (bytes + k) - start)) (behind start bytes k)) in
    let inside = sum_below-same (λ k. if nat_le start (start + k) && nat_lt (start + k) (start + bytes) then f (start + k - start) else 0) f bytes (λ k below. within start bytes k below) in
    let whole = ap (λ m. sum_below (λ o. if nat_le start o && nat_lt o (start + bytes) then f (o - start) else 0) m) cut in
    omega (arith, one, two, low, high, inside, whole)
  where
    outside : (b : Bool) (v : ℕ) → b ≡ false → (if b then v else 0) ≡ 0
    outside b v is = ap (λ (x : Bool). if x then v else 0) is

    before : (start bytes k : ℕ) → k < start → (nat_le start k && nat_lt k (start + bytes)) ≡ false
    before start bytes k below = grind (arith, nat_tests)

    behind : (start bytes k : ℕ) → (nat_le start (start + (bytes + k)) && nat_lt (start + (bytes + k)) (start + bytes)) ≡ false
    behind start bytes k = grind (arith, nat_tests)

    tests : (start bytes k : ℕ) → k < bytes → (nat_le start (start + k) && nat_lt (start + k) (start + bytes)) ≡ true
    tests start bytes k below = grind (arith, nat_tests)

    within : (start bytes k : ℕ) → k < bytes → (if nat_le start (start + k) && nat_lt (start + k) (start + bytes) then f (start + k - start) else 0) ≡ f k
    within start bytes k below =
        ap (λ (x : Bool). if x then f (start + k - start) else 0) (tests start bytes k below) ∙ ap f (let same : start + k - start ≡ k = omega arith in same)

-- what a list has at the first numbers
pub sum_below-gets : {X : Type 0} (v : Option X → ℕ) (xs : List X) (n : ℕ) → length xs ≤ n → sum_below (λ k. v (slice_get xs k)) n ≡ (n - length xs) * v None + sum_by (λ x. v (Some x)) xs
sum_below-gets v [] n few = let all = sum_below-const (λ k. v None) n (v None) (λ k below. refl) in let same : (n - 0) * v None ≡ n * v None = ap (λ m. m * v None) (let e : n - 0 ≡ n = omega arith in e) in omega (arith, all, same)
sum_below-gets v (x ∷ xs) zero few = absurd (omega arith)
sum_below-gets v (x ∷ xs) (suc n) few =
    let front = sum_below-front (λ k. v (slice_get (x ∷ xs) k)) n in
    let rest = sum_below-gets v xs n (omega arith) in
    let same : (suc n - length (x ∷ xs)) * v None ≡ (n - length xs) * v None = ap (λ m. m * v None) (let e : suc n - length (x ∷ xs) ≡ n - length xs = omega arith in e) in
    let cons = sum_by-cons (λ y. v (Some y)) x xs in
    let first : v (slice_get (x ∷ xs) 0) ≡ v (Some x) = refl in
    omega (arith, front, rest, same, cons, first)

-- the cell of what was found
abbrev pub cell_of : {X A : Type 0} → (X → A) → A → Option X → A
cell_of made none (Some x) = made x
cell_of made none None = none

-- cells without anything
pub sum_by-empty_cells : {A : Type 0} (g : A → ℕ) (none : A) (cells : List A) → g none ≡ 0 → ((k : ℕ) → get_or cells k none ≡ none) → sum_by g cells ≡ 0
sum_by-empty_cells g none [] zero_is each = refl
sum_by-empty_cells g none (cell ∷ cells) zero_is each =
    let first = sum_by-cons g cell cells in let here = ap g (each 0) in let rest = sum_by-empty_cells g none cells zero_is (λ k. each (suc k)) in omega (arith, first, here, rest, zero_is)

pub sum_by-cells : {X A : Type 0} (g : A → ℕ) (none : A) (made : X → A) (key : X → ℕ) (xs : List X) (cells : List A) → g none ≡ 0 → ((x : X) → Contains xs x → key x < length cells)
    → ((k : ℕ) → get_or cells k none ≡ cell_of made none (find (λ x. key x == k) xs)) → ((k : ℕ) → length (filter (λ x. key x == k) xs) ≤ 1) → sum_by g cells ≡ sum_by (λ x. g (made x)) xs
sum_by-cells g none made key [] cells zero_is within each few = sum_by-empty_cells g none cells zero_is each
sum_by-cells g none made key (x ∷ xs) cells zero_is within each few =
    let rest = sum_by-cells g none made key xs (set cells (key x) none) zero_is
    (λ y inside. let w = within y (Contains-other x xs y inside) in let l = length-set cells (key x) none in omega (arith, w, l))
    (λ k. other k (cases_eq k (key x)))
    (λ k. let one = count-cons (λ y. key y == k) x xs in let f = few k in omega (arith, one, f)) in
    let moved = sum_by-set g cells (key x) none none (within x (Contains-first x xs)) in
    let here = ap g (each (key x) ∙ ap (λ b. cell_of made none (cond b (Some x) (find (λ y. key y == key x) xs))) (eq-eqb (key x) (key x) refl)) in
    let more = sum_by-cons (λ y. g (made y)) x xs in
    omega (arith, rest, moved, here, more, zero_is)
  where
    none_left : find (λ y. key y == key x) xs ≡ None
    none_left = find-nothing (λ y. key y == key x) xs (count-zero (λ y. key y == key x) xs
        (let one = count-cons (λ y. key y == key x) x xs in let here = ap one_if (eq-eqb (key x) (key x) refl) in let f = few (key x) in omega (arith, one, here, f)))

    other : (k : ℕ) → (k ≡ key x) ⊎ (k ≡ key x → ⊥) → get_or (set cells (key x) none) k none ≡ cell_of made none (find (λ y. key y == k) xs)
    other k (inl same) = ap (λ n. get_or (set cells (key x) none) n none) same ∙ get_or-set_same cells (key x) none none (within x (Contains-first x xs))
        ∙ sym (ap (λ n. cell_of made none (find (λ y. key y == n) xs)) same ∙ ap (cell_of made none) none_left)
    other k (inr differ) = get_or-set_other cells (key x) k none none differ ∙ each k ∙ ap (λ b. cell_of made none (cond b (Some x) (find (λ y. key y == k) xs))) (ne_eqb (key x) k (λ e. differ (sym e)))

-- a sum, so often
pub sum_by-times : {X : Type 0} (n : ℕ) (f : X → ℕ) (xs : List X) → n * sum_by f xs ≡ sum_by (λ x. n * f x) xs
sum_by-times n f [] = let none : n * 0 ≡ 0 = omega arith in none
sum_by-times n f (x ∷ xs) =
    let a = sum_by-cons f x xs in let b = sum_by-cons (λ y. n * f y) x xs in let rest = sum_by-times n f xs in
    let apart : n * (f x + sum_by f xs) ≡ n * f x + n * sum_by f xs = grind arith in ap (λ m. n * m) a ∙ apart ∙ ap (λ m. n * f x + m) rest ∙ sym b
