-- What is read where a function's one value is changed, and elsewhere.
use Rattle.std.proofs.Common.{◌≡◌, ◌≢◌, ℕ, Bool, true, false, cond, eqb, refl, ap, ⊎_elim}
use Rattle.std.proofs.lemmas.Bool.Decides.{eqb_tells}
use Rattle.word_laws.specs.Memory.{put}

pub put_here : {A : Type 0} (f : ℕ → A) (i j : ℕ) (a : A) → i ≡ j → put f i a j ≡ a
put_here f i j a same = ⊎_elim
    (λ (z : (eqb i j ≡ true) × (i ≡ j)). ap (λ (b : Bool). cond b a (f j)) z.0)
    (λ (z : (eqb i j ≡ false) × (i ≢ j)). absurd (z.1 same))
    (eqb_tells i j)

pub put_else : {A : Type 0} (f : ℕ → A) (i j : ℕ) (a : A) → i ≢ j → put f i a j ≡ f j
put_else f i j a differ = ⊎_elim
    (λ (z : (eqb i j ≡ true) × (i ≡ j)). absurd (differ z.1))
    (λ (z : (eqb i j ≡ false) × (i ≢ j)). ap (λ (b : Bool). cond b a (f j)) z.0)
    (eqb_tells i j)

-- what is read of a function with one value changed is what is read of that function, with one value changed
pub read_put : {A B : Type 0} (read : A → B) (f : ℕ → A) (i : ℕ) (a : A) (j : ℕ)
    → read (put f i a j) ≡ put (λ x. read (f x)) i (read a) j
read_put read f i a j =
    elim (eqb i j) as (λ b. read (cond b a (f j)) ≡ cond b (read a) (read (f j))) [ true ↦ refl | false ↦ refl ]
