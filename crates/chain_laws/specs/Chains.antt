-- Chains: items that lead one to the next, up to an end of some value.
use Rattle.std.specs.Prelude.{◌≡◌, ℕ, zero, suc, ◌+◌, ◌≤◌, cond, eqb, List, [], ◌∷◌}

-- where a link leads: to an item, to an end of this value, or it is no link of a chain
pub data Link : Type 0 where
  Other : Link
  To : (item : ℕ) → Link
  Ends : (which : ℕ) → Link

-- from here the links lead through these items in this order, and then there
abbrev pub Leads : (ℕ → Link) → Link → List ℕ → Link → Type 0
Leads links here [] there = here ≡ there
Leads links here (x ∷ xs) there = (here ≡ To x) × Leads links (links x) xs there

-- from the head the links lead through these items to an end of this value
abbrev pub IsChain : (ℕ → Link) → Link → List ℕ → ℕ → Type 0
IsChain links head items end = Leads links head items (Ends end)

-- how often an item stands in a list
abbrev pub tally : ℕ → List ℕ → ℕ
tally x [] = 0
tally x (y ∷ ys) = cond (eqb x y) 1 0 + tally x ys

-- a list without an item
abbrev pub without : ℕ → List ℕ → List ℕ
without x [] = []
without x (y ∷ ys) = cond (eqb x y) (without x ys) (y ∷ without x ys)

-- no item stands in the list twice
abbrev pub IsOnce : List ℕ → Type 0
IsOnce xs = (x : ℕ) → tally x xs ≤ 1

-- the items that the links lead through from here, as far as the fuel goes
abbrev pub walk : ℕ → (ℕ → Link) → Link → List ℕ
walk zero links here = []
walk (suc fuel) links Other = []
walk (suc fuel) links (To x) = x ∷ walk fuel links (links x)
walk (suc fuel) links (Ends which) = []
