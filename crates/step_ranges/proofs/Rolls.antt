-- What holds of each item of a list of bounded length.
use Rattle.std.proofs.Common.{All, List, None, Option, Some, [], arith, inl, inr, length, ltb, refl, subst}
use Rattle.std.proofs.Common.{sym, ℕ, ◌+◌, ◌-◌, ◌∙◌, ◌∷◌, ◌≡◌}
use Rattle.std.specs.Prelude.{slice_get, ⊤}
use Rattle.heap_slabs.specs.Rolls.{Rolled, after_push, newest_of, oldest_of, without_newest, without_oldest}
use Rattle.step_ranges.proofs.Numbers.{choose}
use Rattle.std.proofs.lemmas.List.Elements.{All-append, All-cons, All-drop, All-get_or, All-nil, All-take}
use Rattle.std.proofs.lemmas.Option.{slice_get_cases}

-- it holds of the item, if there is one
abbrev pub Holds : (ℕ → Type 0) → Option ℕ → Type 0
Holds P None = ⊤
Holds P (Some item) = P item

module _ (P : ℕ → Type 0) where
  pub got_holds : (items : List ℕ) (place : ℕ) → All P items → Holds P (slice_get items place)
  got_holds items place all = elim (slice_get_cases items place).1 [
    | inl some ↦ subst (Holds P) (sym some.2) (subst P some.3 (All-get_or P items place some.0 some.1 all))
    | inr none ↦ subst (Holds P) (sym none.1) tt
  ]

  pub newest_holds : (r : Rolled ℕ) → All P r.items → Holds P (newest_of r)
  newest_holds r all = got_holds r.items (length r.items - 1) all

  pub oldest_holds : (r : Rolled ℕ) → All P r.items → Holds P (oldest_of r)
  oldest_holds r all = got_holds r.items 0 all

  pub push_holds : (r : Rolled ℕ) (item : ℕ) → All P r.items → P item → All P (after_push r item).items
  push_holds r item all one = choose (λ (r : Rolled ℕ). All P r.items) (ltb (length r.items) r.room) _ _
      (All-append P r.items (item ∷ []) all (All-cons P item [] one (All-nil P))) all

  pub without_newest_holds : (r : Rolled ℕ) → All P r.items → All P (without_newest r).items
  without_newest_holds r all = All-take P (length r.items - 1) r.items all

  pub without_oldest_holds : (r : Rolled ℕ) → All P r.items → All P (without_oldest r).items
  without_oldest_holds r all = All-drop P 1 r.items all

  pub none_holds : (items : List ℕ) → items ≡ [] → All P items
  none_holds items none = subst (All P) (sym none) (All-nil P)

-- a list without a newest item has none
pub none_newest : (r : Rolled ℕ) → newest_of r ≡ None → r.items ≡ []
none_newest r none = by r.items none
  where
    by : (items : List ℕ) → slice_get items (length items - 1) ≡ None → items ≡ []
    by [] e = refl
    by (x ∷ xs) e = elim (slice_get_cases (x ∷ xs) (length (x ∷ xs) - 1)).1 [
      | inl some ↦ absurd (let bad = sym some.2 ∙ e in cc)
      | inr none ↦ absurd (let past = none.0 in
          let long : length (x ∷ xs) ≡ length xs + 1 = omega arith in omega arith)
    ]
