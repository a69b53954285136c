-- The seats of a new pool.
use Rattle.std.proofs.Common.{◌≡◌, ◌⊎◌, inl, inr, ℕ, zero, suc, ◌+◌, ◌<◌, ◌≤◌, arith, List, [], ◌∷◌, ◌++◌, length, refl, sym, ap, subst, ◌∙◌, length-append}
use Rattle.std.specs.Prelude.{Option, Some, None, slice_get}
use Rattle.std.proofs.lemmas.Bool.{cases_lt}
use Rattle.pool_words.specs.declared.words.Key.{Key}
use Rattle.step_local.specs.Frames.{made}
use Rattle.step_local.specs.declared.frames.Local.{Local}
use Rattle.step_core.specs.Machines.{made_locals}
use Rattle.machine_laws.proofs.Seats.{some_same}

-- what an element behind a list is
at_end : {X : Type 0} (xs : List X) (y x : X) (i : ℕ) → slice_get (xs ++ y ∷ []) i ≡ Some x →
    (slice_get xs i ≡ Some x) ⊎ ((i ≡ length xs) × (x ≡ y))
at_end [] y x zero there = inr (refl, sym (some_same y x there))
at_end [] y x (suc i) there = absurd (cc)
at_end (z ∷ xs) y x zero there = inl there
at_end (z ∷ xs) y x (suc i) there = by (at_end xs y x i there)
  where
    by : (slice_get xs i ≡ Some x) ⊎ ((i ≡ length xs) × (x ≡ y)) → (slice_get xs i ≡ Some x) ⊎ ((suc i ≡ suc (length xs)) × (x ≡ y))
    by (inl before) = inl before
    by (inr last) = inr (ap suc last.0, last.1)

length-made_locals : (k : Key) (seats : ℕ) → length (made_locals k seats) ≡ seats
length-made_locals k zero = refl
length-made_locals k (suc seats) = rw length-append (omega (arith, length-made_locals k seats))

-- each has nothing and no call
pub made_there : (k : Key) (seats seat : ℕ) (l : Local) → slice_get (made_locals k seats) seat ≡ Some l → l ≡ made k seat
made_there k zero seat l there = absurd (cc)
made_there k (suc seats) seat l there =
    by (made_there k seats seat l) (at_end (made_locals k seats) (made k seats) l seat there)
  where
    by : (slice_get (made_locals k seats) seat ≡ Some l → l ≡ made k seat)
        → (slice_get (made_locals k seats) seat ≡ Some l) ⊎ ((seat ≡ length (made_locals k seats)) × (l ≡ made k seats))
        → l ≡ made k seat
    by before_is (inl before) = before_is before
    by before_is (inr last) = last.1 ∙ ap (made k) (sym (length-made_locals k seats) ∙ sym last.0)
