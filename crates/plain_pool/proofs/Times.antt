-- What stands in a list that a function went over.
use Rattle.std.proofs.Common.{◌≡◌, ℕ, ◌<◌, ◌⊎◌, inl, inr, List, [], ◌∷◌, map, sym, subst, arith}
use Rattle.std.specs.Prelude.{Contains}
use Rattle.std.proofs.lemmas.Bool.{cases_eq}
use Rattle.std.proofs.lemmas.Bool.Decides.{nat_tests}
use Rattle.index_lists.specs.Lists.{times}
use Rattle.index_lists.proofs.CallerLemmas.{times-here}
use Rattle.list_laws.proofs.Members.{Contains-first, Contains-other, Contains-none, Contains-cons}

-- what stands in a list that a function went over is what it makes of a member
pub times_map : {X : Type 0} (u : ℕ) (f : X → ℕ) (xs : List X) → 0 < times u (map f xs) → (x : X) × Contains xs x × (f x ≡ u)
times_map u f [] some = absurd (omega arith)
times_map {X} u f (x ∷ xs) some = elim (cases_eq u (f x)) [
  | inl same ↦ (x, Contains-first x xs, sym same)
  | inr differ ↦ let more = times_map u f xs (behind differ) in (more.0, Contains-other x xs more.0 more.1, more.2)
]
  where
    behind : (u ≡ f x → ⊥) → 0 < times u (map f xs)
    behind differ = grind (arith, nat_tests)

pub times_made : {X : Type 0} (f : X → ℕ) (xs : List X) (x : X) → Contains xs x → 0 < times (f x) (map f xs)
times_made f [] x inside = absurd (Contains-none x inside)
times_made f (y ∷ xs) x inside = go (Contains-cons y xs x inside) (λ later. times_made f xs x later)
  where
    go : (y ≡ x) ⊎ Contains xs x → (Contains xs x → 0 < times (f x) (map f xs)) → 0 < times (f x) (f y ∷ map f xs)
    go (inl same) step = subst (λ z. 0 < times (f x) (f z ∷ map f xs)) (sym same) (let h = times-here (f x) (map f xs) in omega (arith, h))
    go (inr later) step = let more = step later in omega (arith, more)
