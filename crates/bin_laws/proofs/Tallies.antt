-- How often an item stands in a list without another.
use Rattle.std.proofs.Common.{◌≡◌, ◌≢◌, ℕ, ◌+◌, cond, eqb, List, [], ◌∷◌, refl, sym, ap, ◌∙◌}
use Rattle.word_laws.proofs.CallerLemmas.{equal_or, put_here, put_else}
use Rattle.chain_laws.specs.Chains.{tally, without}
use Rattle.chain_laws.proofs.CallerLemmas.{tally-else}

without_here : (x y : ℕ) (ys : List ℕ) → x ≡ y → without x (y ∷ ys) ≡ without x ys
without_here x y ys same = put_here (λ _. y ∷ without x ys) x y (without x ys) same

without_else : (x y : ℕ) (ys : List ℕ) → x ≢ y → without x (y ∷ ys) ≡ y ∷ without x ys
without_else x y ys ne = put_else (λ _. y ∷ without x ys) x y (without x ys) ne

pub tally-gone : (x : ℕ) (xs : List ℕ) → tally x (without x xs) ≡ 0
tally-gone x [] = refl
tally-gone x (y ∷ ys) = equal_or x y
    (λ same. ap (tally x) (without_here x y ys same) ∙ tally-gone x ys)
    (λ ne. ap (tally x) (without_else x y ys ne) ∙ tally-else x y (without x ys) ne ∙ tally-gone x ys)

pub tally-stays : (x y : ℕ) (xs : List ℕ) → y ≢ x → tally y (without x xs) ≡ tally y xs
tally-stays x y [] differ = refl
tally-stays x y (z ∷ zs) differ = equal_or x z
    (λ same. ap (tally y) (without_here x z zs same) ∙ tally-stays x y zs differ
    ∙ sym (tally-else y z zs (λ q. differ (q ∙ sym same))))
    (λ ne. ap (tally y) (without_else x z zs ne) ∙ ap (λ n. cond (eqb y z) 1 0 + n) (tally-stays x y zs differ))
