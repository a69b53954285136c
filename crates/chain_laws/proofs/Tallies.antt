-- How often an item stands in a list.
use Rattle.std.proofs.Common.{◌≡◌, ◌≢◌, ℕ, zero, suc, ◌+◌, ◌<◌, ◌≤◌, cond, List, [], ◌∷◌, ◌++◌, length, inl, inr, refl}
use Rattle.std.proofs.Common.{sym, ap, arith, ◌∙◌}
use Rattle.std.proofs.lemmas.Bool.Decides.{nat_tests}
use Rattle.std.proofs.lemmas.Bool.{cases_eq, eq-eqb, ne_eqb}
use Rattle.chain_laws.specs.Chains.{tally, without, IsOnce}
use Rattle.chain_laws.specs.Laws.{ListsBelowAreShort}

pub tally-here : (x : ℕ) (xs : List ℕ) → tally x (x ∷ xs) ≡ 1 + tally x xs
tally-here x xs = grind (arith, nat_tests)

pub tally-else : (x y : ℕ) (xs : List ℕ) → x ≢ y → tally x (y ∷ xs) ≡ tally x xs
tally-else x y xs differ = grind (arith, nat_tests)

pub tally-more : (x y : ℕ) (xs : List ℕ) → tally x xs ≤ tally x (y ∷ xs)
tally-more x y xs = omega arith

-- an item that is not in a list is not its first, and not behind it
pub tally-first : (x y : ℕ) (xs : List ℕ) → tally x (y ∷ xs) ≡ 0 → x ≢ y
tally-first x y xs none = grind (arith, nat_tests)

pub tally-rest : (x y : ℕ) (xs : List ℕ) → tally x (y ∷ xs) ≡ 0 → tally x xs ≡ 0
tally-rest x y xs none = let more = tally-more x y xs in omega arith

pub tally-append : (x : ℕ) (xs ys : List ℕ) → tally x (xs ++ ys) ≡ tally x xs + tally x ys
tally-append x [] ys = omega arith
tally-append x (z ∷ xs) ys = let rest = tally-append x xs ys in omega arith

-- where an item stands that is in a list
pub tally-split : (x : ℕ) (xs : List ℕ) → 0 < tally x xs → (front back : List ℕ) × (xs ≡ front ++ (x ∷ back))
tally-split x [] some = absurd (omega arith)
tally-split x (y ∷ ys) some = elim (cases_eq x y) [
  | inl same ↦ ([], ys, ap (λ v. v ∷ ys) (sym same))
  | inr differ ↦ let r = tally-split x ys (let e = tally-else x y ys differ in omega arith) in
      (y ∷ r.0, r.1, ap (λ v. y ∷ v) r.2)
]

-- of a list without an item
length-without : (x : ℕ) (xs : List ℕ) → length xs ≡ length (without x xs) + tally x xs
length-without x [] = refl
length-without x (y ∷ ys) = let rest = length-without x ys in elim (cases_eq x y) [
  | inl same ↦ grind (arith, nat_tests)
  | inr differ ↦ grind (arith, nat_tests)
]

tally-without : (x y : ℕ) (xs : List ℕ) → tally y (without x xs) ≤ tally y xs
tally-without x y [] = omega arith
tally-without x y (z ∷ zs) = let rest = tally-without x y zs in elim (cases_eq x z) [
  | inl same ↦ grind (arith, nat_tests)
  | inr differ ↦ grind (arith, nat_tests)
]

without-itself : (x : ℕ) (xs : List ℕ) → tally x (without x xs) ≡ 0
without-itself x [] = refl
without-itself x (y ∷ ys) = let rest = without-itself x ys in elim (cases_eq x y) [
  | inl same ↦ grind (arith, nat_tests)
  | inr differ ↦ grind (arith, nat_tests)
]

pub without-none : (x : ℕ) (xs : List ℕ) → tally x xs ≡ 0 → without x xs ≡ xs
without-none x [] none = refl
without-none x (y ∷ ys) none =
    let rest = without-none x ys (tally-rest x y ys none) in
    ap (λ b. cond b (without x ys) (y ∷ without x ys)) (ne_eqb x y (tally-first x y ys none)) ∙ ap (λ zs. y ∷ zs) rest

pub without-between : (x : ℕ) (front back : List ℕ) → tally x front ≡ 0 → tally x back ≡ 0
    → without x (front ++ (x ∷ back)) ≡ front ++ back
without-between x [] back before after =
    ap (λ b. cond b (without x back) (x ∷ without x back)) (eq-eqb x x refl) ∙ without-none x back after
without-between x (y ∷ front) back before after =
    let rest = without-between x front back (tally-rest x y front before) after in
    ap (λ b. cond b (without x (front ++ (x ∷ back))) (y ∷ without x (front ++ (x ∷ back))))
    (ne_eqb x y (tally-first x y front before)) ∙ ap (λ zs. y ∷ zs) rest

-- different items that are all among n are at most n
pub lists_among_are_short : (f : ℕ → ℕ) (n : ℕ) (xs : List ℕ) → IsOnce xs
    → ((x : ℕ) → 0 < tally x xs → (i : ℕ) × (i < n) × (x ≡ f i)) → length xs ≤ n
lists_among_are_short f zero [] once among = omega arith
lists_among_are_short f zero (x ∷ xs) once among =
    let here = tally-here x xs in let w = among x (omega arith) in absurd (omega arith)
lists_among_are_short f (suc n) xs once among =
    let rest = lists_among_are_short f n (without (f n) xs)
    (λ x. let o = once x in let l = tally-without (f n) x xs in omega arith)
    (λ x some. let w = among x (let l = tally-without (f n) x xs in omega arith) in
    (w.0, below x w.0 some w.1 w.2, w.2)) in
    let l = length-without (f n) xs in let o = once (f n) in omega arith
  where
    below : (x i : ℕ) → 0 < tally x (without (f n) xs) → i < suc n → x ≡ f i → i < n
    below x i some less e = elim (cases_eq i n) [
      | inl same ↦ let none = without-itself (f n) xs in let at : x ≡ f n = cc in
          let q = ap (λ y. tally y (without (f n) xs)) at in absurd (omega arith)
      | inr differ ↦ omega arith
    ]

pub lists_below_are_short : ListsBelowAreShort
lists_below_are_short xs n once below = lists_among_are_short (λ i. i) n xs once (λ x some. (x, below x some, refl))
