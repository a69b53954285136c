-- The links back of a list: written outside it, and where an item comes or leaves.
use Rattle.std.proofs.Common.{◌≡◌, ◌⊎◌, inl, inr, ℕ, ◌<◌, List, [], ◌∷◌, ◌++◌, refl, ap, arith, ◌∙◌}
use Rattle.word_laws.specs.Memory.{put}
use Rattle.word_laws.proofs.CallerLemmas.{put_here, put_else}
use Rattle.chain_laws.specs.Chains.{Link, tally}
use Rattle.chain_laws.specs.Chains.Link.{To}
use Rattle.chain_laws.proofs.CallerLemmas.{tally-here, tally-more, tally-first, tally-rest}
use Rattle.lock_laws.specs.Lists.{LeadsBack, last_of}

pub back-same : (previous other : ℕ → Link) (there : Link) (xs : List ℕ)
    → ((x : ℕ) → 0 < tally x xs → other x ≡ previous x) → LeadsBack previous there xs → LeadsBack other there xs
back-same previous other there [] same leads = tt
back-same previous other there (x ∷ xs) same (first, leads) = (
  same x (let h = tally-here x xs in omega arith) ∙ first,
  back-same previous other (To x) xs (λ y some. same y (let m = tally-more y x xs in omega arith)) leads,
)

pub back-apart : (previous : ℕ → Link) (there : Link) (xs : List ℕ) (x : ℕ) (link : Link) → tally x xs ≡ 0
    → LeadsBack previous there xs → LeadsBack (put previous x link) there xs
back-apart previous there xs x link none leads =
    back-same previous (put previous x link) there xs
    (λ y some. put_else previous x y link (λ same. absent y some same)) leads
  where
    absent : (y : ℕ) → 0 < tally y xs → x ≡ y → ⊥
    absent y some same = let e = ap (λ z. tally z xs) same in omega arith

-- what the link back of an item says
pub back-at : (previous : ℕ → Link) (there : Link) (front : List ℕ) (x : ℕ) (back : List ℕ)
    → LeadsBack previous there (front ++ (x ∷ back)) → previous x ≡ last_of there front
back-at previous there [] x back (first, leads) = first
back-at previous there (y ∷ front) x back (first, leads) = back-at previous (To y) front x back leads

-- the last item leaves
pub back-short : (previous : ℕ → Link) (there : Link) (front : List ℕ) (x : ℕ)
    → LeadsBack previous there (front ++ (x ∷ []))
    → LeadsBack previous there (front ++ [])
back-short previous there [] x leads = tt
back-short previous there (y ∷ front) x (first, leads) = (first, back-short previous (To y) front x leads)

-- the item behind one leads back past it
pub back-out : (previous : ℕ → Link) (there : Link) (front : List ℕ) (x y : ℕ) (rest : List ℕ) → tally y front ≡ 0
    → tally y rest ≡ 0 → LeadsBack previous there (front ++ (x ∷ (y ∷ rest)))
    → LeadsBack (put previous y (last_of there front)) there (front ++ (y ∷ rest))
back-out previous there [] x y rest before after (first, (second, leads)) =
    (put_here previous y y there refl, back-apart previous (To y) rest y there after leads)
back-out previous there (z ∷ front) x y rest before after (first, leads) = (
  put_else previous y z (last_of (To z) front) (tally-first y z front before) ∙ first,
  back-out previous (To z) front x y rest (tally-rest y z front before) after leads,
)

-- a list is empty, or has a last item
pub last_split : (xs : List ℕ) → (xs ≡ [])
    ⊎ ((front : List ℕ) × (x : ℕ) × (xs ≡ front ++ (x ∷ [])) × ((there : Link) → last_of there xs ≡ To x))
last_split [] = inl refl
last_split (x ∷ xs) = elim (last_split xs) [
  | inl none ↦ inr ([], x, ap (λ ys. x ∷ ys) none, λ there. ap (λ ys. last_of (To x) ys) none)
  | inr (front, y, is, last) ↦ inr (x ∷ front, y, ap (λ ys. x ∷ ys) is, λ there. last (To x))
]
