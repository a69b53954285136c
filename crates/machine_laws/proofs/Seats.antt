-- Lists of seats of which one is changed, and where the office is among them.
use Rattle.std.proofs.Common.{◌≡◌, ◌⊎◌, inl, inr, ℕ, zero, suc, Bool, true, false, cond, eqb, List, [], ◌∷◌, refl, sym, ap, subst, ◌∙◌}
use Rattle.std.specs.Prelude.{Option, Some, None, slice_get, slice_set}
use Rattle.std.proofs.lemmas.Bool.Decides.{eqb_tells}
use Rattle.step_runs.specs.Places.{Carry, away, in_slot, in_hand, carry_of, HasDesk}
use Rattle.step_local.specs.declared.frames.Local.{Local}
use Rattle.machine_laws.specs.Laws.{home_at, desk_at, is_in_hand, is_out_with, is_out_by}

module _ {X : Type 0} where
  pub got_here : (xs : List X) (i : ℕ) (x y : X) → slice_get xs i ≡ Some x → slice_get (slice_set xs i y) i ≡ Some y
  got_here [] i x y there = absurd (cc)
  got_here (z ∷ xs) zero x y there = refl
  got_here (z ∷ xs) (suc i) x y there = got_here xs i x y there

  pub got_there : (xs : List X) (i j : ℕ) (y : X) → (i ≡ j → ⊥) → slice_get (slice_set xs i y) j ≡ slice_get xs j
  got_there [] i j y other = refl
  got_there (z ∷ xs) zero zero y other = absurd (other refl)
  got_there (z ∷ xs) zero (suc j) y other = refl
  got_there (z ∷ xs) (suc i) zero y other = refl
  got_there (z ∷ xs) (suc i) (suc j) y other = got_there xs i j y (λ e. other (ap suc e))

pub some_same : {X : Type 0} (a b : X) → Some a ≡ Some b → a ≡ b
some_same a b e = cc

-- a number is itself, or another
pub same_or : (a b : ℕ) → (a ≡ b) ⊎ (a ≡ b → ⊥)
same_or a b = by (eqb_tells a b)
  where
    by : ((eqb a b ≡ true) × (a ≡ b)) ⊎ ((eqb a b ≡ false) × (a ≡ b → ⊥)) → (a ≡ b) ⊎ (a ≡ b → ⊥)
    by (inl is) = inl is.1
    by (inr is_not) = inr is_not.1

module _ {D : Type 0} where
  -- its owner has the office, and nobody else
  pub owner_has : (seat : ℕ) (desk : D) → desk_at (Some seat) desk seat ≡ Some desk
  owner_has seat desk = by (eqb_tells seat seat)
    where
      by : ((eqb seat seat ≡ true) × (seat ≡ seat)) ⊎ ((eqb seat seat ≡ false) × (seat ≡ seat → ⊥))
          → desk_at (Some seat) desk seat ≡ Some desk
      by (inl is) = ap (λ b. cond b (Some desk) None) is.0
      by (inr is_not) = absurd (is_not.1 refl)

  pub others_have_none : (owner seat : ℕ) (desk : D) → (owner ≡ seat → ⊥) → desk_at (Some owner) desk seat ≡ None
  others_have_none owner seat desk other = by (eqb_tells owner seat)
    where
      by : ((eqb owner seat ≡ true) × (owner ≡ seat)) ⊎ ((eqb owner seat ≡ false) × (owner ≡ seat → ⊥))
          → desk_at (Some owner) desk seat ≡ None
      by (inl is) = absurd (other is.1)
      by (inr is_not) = ap (λ b. cond b (Some desk) None) is_not.0

  pub owns : (owner : Option ℕ) (desk one : D) (seat : ℕ) → desk_at owner desk seat ≡ Some one → owner ≡ Some seat
  owns None desk one seat has = absurd (cc)
  owns (Some owner) desk one seat has = by (same_or owner seat)
    where
      by : (owner ≡ seat) ⊎ (owner ≡ seat → ⊥) → Some owner ≡ Some seat
      by (inl is) = ap (λ s. Some s) is
      by (inr other) = let none : desk_at (Some owner) desk seat ≡ None = others_have_none owner seat desk other in absurd (cc)

  pub at_home : (owner : Option ℕ) (desk one : D) → home_at owner desk ≡ Some one → owner ≡ None
  at_home None desk one is = refl
  at_home (Some owner) desk one is = absurd (cc)

module _ (locals : List Local) (seat : ℕ) (l now : Local) (got : slice_get locals seat ≡ Some l) where
  -- where the owner has the office in hand, after one seat changed
  pub out_own : is_out_by (Some seat) (slice_set locals seat now) ≡ is_in_hand (carry_of now.at)
  out_own = ap is_out_with (got_here locals seat l now got)

  pub out_of : is_out_by (Some seat) locals ≡ is_in_hand (carry_of l.at)
  out_of = ap is_out_with got

  pub out_kept : (owner : Option ℕ) → carry_of now.at ≡ carry_of l.at →
      is_out_by owner (slice_set locals seat now) ≡ is_out_by owner locals
  out_kept None same = refl
  out_kept (Some owner) same = by (same_or owner seat)
    where
      by : (owner ≡ seat) ⊎ (owner ≡ seat → ⊥) →
          is_out_by (Some owner) (slice_set locals seat now) ≡ is_out_by (Some owner) locals
      by (inl is) = subst (λ t. is_out_by (Some t) (slice_set locals seat now) ≡ is_out_by (Some t) locals) (sym is)
          (out_own ∙ ap is_in_hand same ∙ sym out_of)
      by (inr other) = ap is_out_with (got_there locals seat owner now (λ e. other (sym e)))
