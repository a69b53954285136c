-- Heaps whose places are taken in, and get them again.
use Rattle.std.proofs.Common.{◌≡◌, ◌≢◌, ◌⊎◌, ℕ, zero, suc, ◌+◌, ◌<◌, ◌≤◌, List, [], ◌∷◌, ◌++◌, length, take}
use Rattle.std.proofs.Common.{drop, refl, sym, ap, ◌∙◌}
use Rattle.std.proofs.Common.{subst, inl, inr, ⊎_elim, arith}
use mathlib.Core.Option.{some, some-injective, some-ne-none}
use lib.ListN.{get_elem?}
use Rattle.pool_types.specs.declared.raw.Raw.{Ghosts}
use Rattle.pool_words.specs.declared.words.Key.{Key}
use Rattle.regions.specs.Offices.{Desk}
use Rattle.step_runs.specs.declared.entry.Entry.{Entry}
use Rattle.atomic_table.specs.Seated.{TableId}
use Rattle.atomic_driver.specs.declared.seat.DriverSeat.{DriverSeat}
use Rattle.atomic_driver.specs.Rule.{plain}
use Rattle.atomic_driver.specs.Seating.{others_of, IsFrom}
use Rattle.atomic_driver.specs.Steps.{own_of}
use Rattle.atomic_driver.proofs.CallerLemmas.{at_some}
use Rattle.atomic_table.proofs.Lists.{at_set, set_else}
use Rattle.std.proofs.lemmas.Bool.{cases_lt}
use Rattle.std.specs.Prelude.{slice_set}
use Rattle.quiet_pool.proofs.Lists.{at_drop}

-- from this one on the heaps are the same
abbrev pub AreSame : {R : Type 0} {raw : Ghosts R} → ℕ → List (DriverSeat R raw) → List (DriverSeat R raw) → Type 0
AreSame {R} {raw} from heaps now =
    (i : ℕ) (x : DriverSeat R raw) → from ≤ i → get_elem? now i ≡ some x → get_elem? heaps i ≡ some x

-- each heap below this one has the place with its entry
abbrev pub HaveBelow : {R : Type 0} {raw : Ghosts R} → ℕ → TableId → Key → List (Entry (Desk R))
    → List (DriverSeat R raw) → Type 0
HaveBelow {R} {raw} end table k entries heaps =
    (i : ℕ) (x : DriverSeat R raw) (e : Entry (Desk R)) → i < end → get_elem? heaps i ≡ some x
    → get_elem? entries i ≡ some e → (x.place.table_id ≡ table) × (x.place.me ≡ (plain (e ∷ []), []))

module _ {D : Type 0} where
  others_by : (es : List (Entry D)) (n : ℕ) → others_of (drop n es) ≡ drop (suc n) es
  others_by [] zero = refl
  others_by [] (suc n) = refl
  others_by (e ∷ es) zero = refl
  others_by (e ∷ es) (suc n) = others_by es n

  -- the entries behind the first one of those from an index on
  pub others_drop : (es : List (Entry D)) (n : ℕ) → others_of (drop n es) ≡ drop (n + 1) es
  others_drop es n =
      let next : suc n ≡ n + 1 = omega arith in
      others_by es n ∙ ap (λ (m : ℕ). drop m es) next

  pub own_drop : (k : Key) (es : List (Entry D)) (n : ℕ) (e : Entry D) → get_elem? es n ≡ some e
      → own_of k (drop n es) ≡ e
  own_drop k [] n e at = absurd (some-ne-none e (sym at))
  own_drop k (x ∷ es) zero e at = some-injective x e at
  own_drop k (x ∷ es) (suc n) e at = own_drop k es n e at

  -- the entries from an index on are those of seats in a row
  pub row_drop : (k : Key) (es : List (Entry D)) (n : ℕ) → IsFrom 0 es → n < length es
      → IsFrom (own_of k (drop n es)).seat (drop n es)
  row_drop k es n row low i e at =
      let p = at_some es n low in
      let own : (own_of k (drop n es)).seat ≡ p.0.seat = ap (λ (x : Entry D). x.seat) (own_drop k es n p.0 p.1) in
      let first = row n p.0 p.1 in
      let here = row (n + i) e (sym (at_drop es n i (n + i) refl) ∙ at) in
      omega arith

module _ {R : Type 0} {raw : Ghosts R} where
  -- one heap more has its place
  pub have_more : (n : ℕ) (table : TableId) (k : Key) (es : List (Entry (Desk R))) (heaps : List (DriverSeat R raw))
      (x : DriverSeat R raw) → HaveBelow n table k es heaps → x.place.table_id ≡ table
      → x.place.me ≡ (plain (own_of k (drop n es) ∷ []), []) → HaveBelow (n + 1) table k es (slice_set heaps n x)
  have_more n table k es heaps x have here me i y e low at at_e = ⊎_elim
      (λ (z : (i ≡ n) × (x ≡ y)).
      let own : own_of k (drop n es) ≡ e = own_drop k es n e (ap (get_elem? es) (sym z.0) ∙ at_e) in
      subst (λ (w : DriverSeat R raw). (w.place.table_id ≡ table) × (w.place.me ≡ (plain (e ∷ []), []))) z.1
      (here, me ∙ ap (λ (w : Entry (Desk R)). (plain (w ∷ []), [])) own))
      (λ (z : (i ≢ n) × (get_elem? heaps i ≡ some y)). have i y e (by (cases_lt i n) z.0) z.1 at_e)
      (at_set heaps n i x y at)
    where
      by : (i < n) ⊎ (n ≤ i) → i ≢ n → i < n
      by (inl less) differs = less
      by (inr more) differs = absurd (differs (omega arith))

  -- one heap less is as it was
  pub same_more : (n : ℕ) (heaps now : List (DriverSeat R raw)) (x : DriverSeat R raw) → AreSame n heaps now
      → AreSame (n + 1) heaps (slice_set now n x)
  same_more n heaps now x same i y high at =
      same i y (omega arith) (sym (set_else now n i x (λ (e : i ≡ n). omega arith)) ∙ at)

take_by : {A : Type 0} (xs : List A) (n : ℕ) (x : A) → get_elem? xs n ≡ some x
    → take (suc n) xs ≡ take n xs ++ x ∷ []
take_by [] n x at = absurd (some-ne-none x (sym at))
take_by (y ∷ ys) zero x at = ap (λ z. z ∷ []) (some-injective y x at)
take_by (y ∷ ys) (suc n) x at = ap (λ zs. y ∷ zs) (take_by ys n x at)

-- one element more is taken
pub take_more : {A : Type 0} (xs : List A) (n : ℕ) (x : A) → get_elem? xs n ≡ some x
    → take (n + 1) xs ≡ take n xs ++ x ∷ []
take_more xs n x at =
    let next : n + 1 ≡ suc n = omega arith in
    ap (λ (m : ℕ). take m xs) next ∙ take_by xs n x at
