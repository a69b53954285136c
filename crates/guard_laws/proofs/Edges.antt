-- Values of edges with one changed, and of indices with a range changed.
use Rattle.std.proofs.Common.{◌≡◌, ◌⊎◌, inl, inr, ℕ, ◌+◌, ◌<◌, ◌≤◌, refl, sym, subst, arith}
use Rattle.std.proofs.lemmas.Bool.Decides.{nat_tests}
use Rattle.guards.specs.declared.win.Side.{Side}
use Rattle.word_laws.proofs.CallerLemmas.{less_or, put-same, each, both}
use Rattle.guard_laws.specs.Blocks.{Edges, at_edge, set_edge, put_range}

abbrev pub IsAt : Side → ℕ → Side → ℕ → Type 0
IsAt e z k y = (e ≡ k) × (z ≡ y)

-- a fact of each edge
pub edge_each : {A : Type 0} (P : Side → ℕ → A → Type 0) (k : Side) (y : ℕ) (v : A) (f : Edges A)
    → ((e : Side) (z : ℕ) → (IsAt e z k y → ⊥) → P e z (at_edge f e z)) → P k y v
    → (e : Side) (z : ℕ) → P e z (at_edge (set_edge k y v f) e z)
edge_each P Side.Begin y v f others here Side.Begin z =
    each (P Side.Begin) f.begins y v (λ x ne. others Side.Begin x (λ w. ne w.1)) here z
edge_each P Side.Begin y v f others here Side.End z = others Side.End z (λ w. let q = w.0 in absurd (cc))
edge_each P Side.End y v f others here Side.Begin z = others Side.Begin z (λ w. let q = w.0 in absurd (cc))
edge_each P Side.End y v f others here Side.End z =
    each (P Side.End) f.ends y v (λ x ne. others Side.End x (λ w. ne w.1)) here z

-- the same of two, changed at one edge
pub edge_both : {A B : Type 0} (P : Side → ℕ → A → B → Type 0) (k : Side) (y : ℕ) (v : A) (w : B) (f : Edges A)
    (g : Edges B) → ((e : Side) (z : ℕ) → P e z (at_edge f e z) (at_edge g e z)) → P k y v w
    → (e : Side) (z : ℕ) → P e z (at_edge (set_edge k y v f) e z) (at_edge (set_edge k y w g) e z)
edge_both P Side.Begin y v w f g others here Side.Begin z =
    both (P Side.Begin) f.begins g.begins y v w (λ x _. others Side.Begin x) here z
edge_both P Side.Begin y v w f g others here Side.End z = others Side.End z
edge_both P Side.End y v w f g others here Side.Begin z = others Side.Begin z
edge_both P Side.End y v w f g others here Side.End z =
    both (P Side.End) f.ends g.ends y v w (λ x _. others Side.End x) here z

pub edge_here : {A : Type 0} (k : Side) (y : ℕ) (v : A) (f : Edges A) → at_edge (set_edge k y v f) k y ≡ v
edge_here Side.Begin y v f = put-same f.begins y v
edge_here Side.End y v f = put-same f.ends y v

pub edge_else : {A : Type 0} (k : Side) (y : ℕ) (v : A) (f : Edges A) (e : Side) (z : ℕ) → (IsAt e z k y → ⊥)
    → at_edge (set_edge k y v f) e z ≡ at_edge f e z
edge_else k y v f e z never = edge_each (λ e z w. (IsAt e z k y → ⊥) → w ≡ at_edge f e z) k y v f (λ _ _ _ _. refl)
    (λ n. absurd (n (refl, refl))) e z never

-- before a range, or behind it
abbrev pub IsOut : ℕ → ℕ → ℕ → Type 0
IsOut first length x = (x < first) ⊎ (first + length ≤ x)

pub range_in : {A : Type 0} (f : ℕ → A) (a n : ℕ) (v : A) (x : ℕ) → a ≤ x → x < a + n → put_range f a n v x ≡ v
range_in f a n v x low high = grind (arith, nat_tests)

pub range_out : {A : Type 0} (f : ℕ → A) (a n : ℕ) (v : A) (x : ℕ) → IsOut a n x → put_range f a n v x ≡ f x
range_out f a n v x out = grind (arith, nat_tests)

pub in_or : {P : Type 0} (a n x : ℕ) → (a ≤ x → x < a + n → P) → (IsOut a n x → P) → P
in_or a n x inside outside =
    less_or x a (λ low. outside (inl low)) (λ from. less_or x (a + n) (λ high. inside from high) (λ far. outside
    (inr far)))

pub range_each : {A : Type 0} (P : ℕ → A → Type 0) (f : ℕ → A) (a n : ℕ) (v : A)
    → ((x : ℕ) → IsOut a n x → P x (f x)) → ((x : ℕ) → a ≤ x → x < a + n → P x v)
    → (x : ℕ) → P x (put_range f a n v x)
range_each P f a n v others here x = in_or a n x
    (λ low high. subst (P x) (sym (range_in f a n v x low high)) (here x low high))
    (λ out. subst (P x) (sym (range_out f a n v x out)) (others x out))
