-- A function with one value changed.
use Rattle.std.proofs.Common.{◌≡◌, ◌≢◌, ℕ, refl, sym, subst}
use Rattle.word_laws.specs.Memory.{put}
use Rattle.word_laws.proofs.Rows.{equal_or}
use Rattle.word_laws.proofs.Puts.{put_here, put_else}

pub put-same : {A : Type 0} (f : ℕ → A) (i : ℕ) (a : A) → put f i a i ≡ a
put-same f i a = put_here f i i a refl

pub put-other : {A : Type 0} (f : ℕ → A) (i : ℕ) (a : A) (j : ℕ) → j ≢ i → put f i a j ≡ f j
put-other f i a j ne = put_else f i j a (λ e. ne (sym e))

-- a fact of each value
pub each : {A : Type 0} (P : ℕ → A → Type 0) (f : ℕ → A) (i : ℕ) (a : A) → ((j : ℕ) → j ≢ i → P j (f j)) → P i a
    → (j : ℕ) → P j (put f i a j)
each P f i a others here j = equal_or j i
    (λ e. subst (λ y. P y (put f i a y)) (sym e) (subst (P i) (sym (put-same f i a)) here))
    (λ ne. subst (P j) (sym (put-other f i a j ne)) (others j ne))

-- the same of two functions that change at one place
pub both : {A B : Type 0} (P : ℕ → A → B → Type 0) (f : ℕ → A) (h : ℕ → B) (i : ℕ) (a : A) (b : B)
    → ((j : ℕ) → j ≢ i → P j (f j) (h j)) → P i a b → (j : ℕ) → P j (put f i a j) (put h i b j)
both P f h i a b others here j = equal_or j i
    (λ e. subst (λ y. P y (put f i a y) (put h i b y)) (sym e)
    (subst (λ y. P i y (put h i b i)) (sym (put-same f i a)) (subst (P i a) (sym (put-same h i b)) here)))
    (λ ne. subst (λ y. P j y (put h i b j)) (sym (put-other f i a j ne))
    (subst (P j (f j)) (sym (put-other h i b j ne)) (others j ne)))
