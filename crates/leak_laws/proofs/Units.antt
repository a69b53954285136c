-- The leaks of a row of units: each unit gives one at most, and all grants are at units of the row.
use Rattle.std.proofs.Common.{◌≡◌, ◌⊎◌, inl, inr, ℕ, zero, suc, ◌+◌, ◌*◌, ◌^◌, ◌<◌, ◌≤◌, List, [], ◌∷◌, ◌++◌}
use Rattle.std.proofs.Common.{sym, ap, subst, arith}
use Rattle.std.specs.Prelude.{Contains, option_to_list}
use Rattle.std.proofs.lemmas.List.Elements.{Contains-append_cases}
use Rattle.list_laws.proofs.Members.{Contains-first, Contains-none, Contains-other, Contains-single}
use Rattle.pool_types.specs.declared.values.Grant.{Grant}
use Rattle.pool_types.specs.declared.values.Leak.{Leak}
use Rattle.pool_types.specs.Sums.{capped}
use Rattle.pool_words.specs.declared.words.Word.{Word}
use Rattle.pool_words.specs.Words.{granule_units}
use Rattle.word_codes.specs.declared.kinds.Kind.{Kind}
use Rattle.word_codes.specs.declared.marks.Mark.{Mark}
use Rattle.word_codes.specs.declared.region_words.RegionWord.{RegionWord}
use Rattle.word_codes.specs.Marks.{mark_of}
use Rattle.word_codes.specs.RegionWords.{first_unit}
use Rattle.word_codes.proofs.CallerLemmas.{capped_is}
use Rattle.word_totals.specs.Leaking.{granule_leaks, leaks_at, leaks_in, leaks_of_region, unit_leaks}
use Rattle.word_totals.specs.Objects.{granule_kind, held_by}
use Rattle.word_totals.specs.Reading.{Still, load}
use Rattle.step_grants.specs.Grants.{IsAt}
use Rattle.leak_laws.specs.Laws.{AreOnce}

module _ (words : ℕ → ℕ) where
  -- a grant that a mark names at one of these units
  pub record IsBetween (low high : ℕ) (grant : Grant) : Type 0 where
    pub unit : ℕ
    pub from : low ≤ unit
    pub below : unit < high
    pub there : IsAt words grant unit

  pub record InRow (low high : ℕ) (leaks : List Leak) : Type 0 where
    pub each : (leak : Leak) → Contains leaks leak → IsBetween low high leak.grant
    pub once : AreOnce leaks

  module _ (one : (u v : ℕ) (grant : Grant) → IsAt words grant u → IsAt words grant v → u ≡ v) where
    -- two lists have no grant in common
    abbrev pub NoneShared : List Leak → List Leak → Type 0
    NoneShared xs ys = (x y : Leak) → Contains xs x → Contains ys y → y.grant ≡ x.grant → ⊥

    pub once_both : (xs ys : List Leak) → AreOnce xs → AreOnce ys → NoneShared xs ys → AreOnce (xs ++ ys)
    once_both [] ys first then' none = then'
    once_both (x ∷ xs) ys first then' none = (
      λ y inside same. by y same (Contains-append_cases xs ys y inside),
      once_both xs ys first.1 then' (λ z y has. none z y (Contains-other x xs z has)),
    )
      where
        by : (y : Leak) → y.grant ≡ x.grant → Contains xs y ⊎ Contains ys y → ⊥
        by y same (inl inside) = first.0 y inside same
        by y same (inr inside) = none x y (Contains-first x xs) inside same

    -- rows behind each other share no grant
    rows_apart : (low middle high : ℕ) (xs ys : List Leak) → InRow low middle xs → InRow middle high ys
        → NoneShared xs ys
    rows_apart low middle high xs ys first then' x y has there same =
        let a = first.each x has in
        let b = then'.each y there in
        let u : a.unit ≡ b.unit =
        one a.unit b.unit x.grant a.there (subst (λ (g : Grant). IsAt words g b.unit) same b.there) in
        let up = a.below in
        let from = b.from in
        omega arith

    wider : (low high under over : ℕ) (grant : Grant) → under ≤ low → high ≤ over → IsBetween low high grant
        → IsBetween under over grant
    wider low high under over grant down up is = record {
      unit = is.unit;
      from = let from = is.from in omega arith;
      below = let below = is.below in omega arith;
      there = is.there;
    }

    both_rows : (low middle high : ℕ) (xs ys : List Leak) → low ≤ middle → middle ≤ high → InRow low middle xs
        → InRow middle high ys → InRow low high (xs ++ ys)
    both_rows low middle high xs ys down up first then' = record {
      each = λ leak inside. by leak (Contains-append_cases xs ys leak inside);
      once = once_both xs ys first.once then'.once (rows_apart low middle high xs ys first then');
    }
      where
        by : (leak : Leak) → Contains xs leak ⊎ Contains ys leak → IsBetween low high leak.grant
        by leak (inl inside) = wider low middle low high leak.grant (omega arith) up (first.each leak inside)
        by leak (inr inside) = wider middle high low high leak.grant down (omega arith) (then'.each leak inside)

    none_row : (low high : ℕ) → InRow low high []
    none_row low high = record { each = λ leak inside. absurd (Contains-none leak inside); once = tt }

    module _ (s : Still) (loads : (u : ℕ) → load s (Word.Mark u) ≡ words u) where
      one_row : (region : RegionWord) (kind : Kind) (unit : ℕ) (mark : Mark) → mark_of (words unit) ≡ mark
          → InRow unit (unit + 1) (option_to_list (held_by s region kind unit mark))
      one_row region kind unit (Mark.Granted grant) is = record {
        each = λ leak inside. subst (λ (x : Leak). IsBetween unit (unit + 1) x.grant) (Contains-single _ leak inside)
            (record { unit = unit; from = omega arith; below = omega arith; there = is });
        once = (λ y inside. absurd (Contains-none y inside), tt);
      }
      one_row region kind unit Mark.Unmarked is = none_row unit (unit + 1)
      one_row region kind unit (Mark.Hand seat) is = none_row unit (unit + 1)
      one_row region kind unit (Mark.Link other) is = none_row unit (unit + 1)
      one_row region kind unit Mark.End is = none_row unit (unit + 1)
      one_row region kind unit Mark.EndUnusable is = none_row unit (unit + 1)

      at_unit : (region : RegionWord) (kind : Kind) (unit : ℕ) → InRow unit (unit + 1) (leaks_at s region kind unit)
      unfolding leaks_at
      at_unit region kind unit =
          one_row region kind unit (mark_of (load s (Word.Mark unit))) (ap mark_of (sym (loads unit)))

      next_is : (n : ℕ) → n < 2 ^ 32 → capped (n + 1) ≡ n + 1
      next_is n low = capped_is (n + 1) (omega arith)

      unit_row : (region : RegionWord) (kind : Kind) (left unit : ℕ) → unit + left < 2 ^ 32
          → InRow unit (unit + left) (unit_leaks s region kind left unit)
      unfolding unit_leaks
      unit_row region kind zero unit low = none_row unit (unit + 0)
      unit_row region kind (suc left) unit low =
          let e : unit + 1 + left ≡ unit + suc left = omega arith in
          subst (λ (high : ℕ). InRow unit high
          (leaks_at s region kind unit ++ unit_leaks s region kind left (capped (unit + 1)))) e
          (both_rows unit (unit + 1) (unit + 1 + left) (leaks_at s region kind unit)
          (unit_leaks s region kind left (capped (unit + 1))) (omega arith) (omega arith) (at_unit region kind unit)
          (subst (λ (n : ℕ). InRow (unit + 1) (unit + 1 + left) (unit_leaks s region kind left n))
          (sym (next_is unit (omega arith))) (unit_row region kind left (unit + 1) (omega arith))))

      in_granule : (region : RegionWord) (granule : ℕ) → granule < 2 ^ 15
          → InRow (granule * granule_units) ((granule + 1) * granule_units) (leaks_in s region granule)
      unfolding leaks_in
      in_granule region granule low =
          let first : first_unit granule ≡ granule * granule_units =
          capped_is (granule * granule_units) (omega arith) in
          let e : granule * granule_units + granule_units ≡ (granule + 1) * granule_units = omega arith in
          subst (λ (high : ℕ). InRow (granule * granule_units) high
          (unit_leaks s region (granule_kind s granule) granule_units (first_unit granule))) e
          (subst (λ (unit : ℕ). InRow (granule * granule_units) (granule * granule_units + granule_units)
          (unit_leaks s region (granule_kind s granule) granule_units unit)) (sym first)
          (unit_row region (granule_kind s granule) granule_units (granule * granule_units) (omega arith)))

      granule_row : (region : RegionWord) (left granule : ℕ) → granule + left ≤ 2 ^ 15
          → InRow (granule * granule_units) ((granule + left) * granule_units) (granule_leaks s region left granule)
      unfolding granule_leaks
      granule_row region zero granule low =
          none_row (granule * granule_units) ((granule + 0) * granule_units)
      granule_row region (suc left) granule low =
          let e : (granule + 1 + left) * granule_units ≡ (granule + suc left) * granule_units = omega arith in
          subst (λ (high : ℕ). InRow (granule * granule_units) high
          (leaks_in s region granule ++ granule_leaks s region left (capped (granule + 1)))) e
          (both_rows (granule * granule_units) ((granule + 1) * granule_units) ((granule + 1 + left) * granule_units)
          (leaks_in s region granule) (granule_leaks s region left (capped (granule + 1))) (omega arith) (omega arith)
          (in_granule region granule (omega arith))
          (subst (λ (n : ℕ). InRow ((granule + 1) * granule_units) ((granule + 1 + left) * granule_units)
          (granule_leaks s region left n)) (sym (next_is granule (omega arith)))
          (granule_row region left (granule + 1) (omega arith))))

      pub region_row : (region : RegionWord) → region.first < 2 ^ 14 → region.granules < 2 ^ 14
          → InRow (region.first * granule_units) ((region.first + region.granules) * granule_units)
          (leaks_of_region s region)
      unfolding leaks_of_region
      region_row region first granules = granule_row region region.granules region.first (omega arith)
