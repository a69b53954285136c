-- The causes of a refusal exclude each other, and no region comes where one holds: so each answer comes exactly where its cause holds.
use Rattle.std.proofs.Common.{◌≡◌, ℕ, ◌<◌, ◌≤◌, Bool, true, false, arith, ap, ◌∙◌, sym, refl, List, ◌⊎◌, inl, inr, length}
use Rattle.std.proofs.lemmas.Bool.{cases_lt}
use Rattle.pool_types.specs.declared.policy.RegionRec.{RegionRec}
use Rattle.regions.specs.declared.errors.ObtainError.{ObtainError}
use Rattle.regions.specs.declared.errors.ObtainError.TheVariants.{HasRegion, RegionsFull, SpanFull, RawFailed}
use Rattle.regions.specs.Gaps.{IsLongestGap}
use Rattle.regions.specs.Numbers.{IsNextNumber, is_slot_taken, is_full}
use Rattle.regions.specs.Obtaining.{IsFull, HasNumber, CanAsk, IsRefused, has_region}
use Rattle.regions.specs.Offices.{Desk}

no_lower : (records : List RegionRec) (counter one other : ℕ) → IsNextNumber records counter one → IsNextNumber records counter other → one < other → ⊥
no_lower records counter one other first second less = omega (arith, first.none all, second.none all)
  where
    any : (number : ℕ) (b : Bool) → is_slot_taken records number ≡ b → is_slot_taken records number ≡ true
    any number true is = is
    any number false is = let here : is_slot_taken records one ≡ true = second.least one first.from less in let free : is_slot_taken records one ≡ false = first.free number is in cc

    all : (number : ℕ) → is_slot_taken records number ≡ true
    all number = any number (is_slot_taken records number) refl

-- there is one next number
pub next_same : (records : List RegionRec) (counter one other : ℕ) → IsNextNumber records counter one → IsNextNumber records counter other → one ≡ other
next_same records counter one other first second = by_cases (cases_lt one other) (cases_lt other one)
  where
    by_cases : (one < other) ⊎ (other ≤ one) → (other < one) ⊎ (one ≤ other) → one ≡ other
    by_cases (inl less) more = absurd (no_lower records counter one other first second less)
    by_cases less (inl more) = absurd (no_lower records counter other one second first more)
    by_cases (inr more) (inr less) = omega arith

-- there is one length of the longest gaps
pub longest_same : (span : ℕ) (records : List RegionRec) (start count other many : ℕ) → IsLongestGap span records start count → IsLongestGap span records other many → count ≡ many
longest_same span records start count other many first second = omega (arith, first.longest other many second.gap, second.longest start count first.gap)

module _ {R : Type 0} (desk : Desk R) (granules : ℕ) where
  true_false : (b : Bool) → b ≡ true → b ≡ false → ⊥
  true_false b yes_is no_is = let same : true ≡ false = sym yes_is ∙ no_is in cc

  full_or_not : (count next number : ℕ) → IsFull desk count next → HasNumber desk number → ⊥
  full_or_not count next number full open_is =
      let same : next ≡ number = next_same desk.records desk.counter next number full.next_is open_is.next_is in
      true_false (is_full (length desk.records) number) (ap (λ out. is_full out number) (sym full.count) ∙ ap (λ n. is_full count n) (sym same) ∙ full.full) open_is.open_is

  -- a region can't come where a cause holds
  pub refused_or_not : (error : ObtainError) (number : ℕ) → IsRefused desk granules error → CanAsk desk granules number → ⊥
  refused_or_not HasRegion number has can = true_false (has_region desk) has can.numbered.may
  refused_or_not (RegionsFull count next) number full can = full_or_not count next number full can.numbered
  refused_or_not (SpanFull asked greatest) number short can =
      omega (arith, short.short, short.asked_is, can.enough, longest_same desk.limits.span desk.records short.start greatest can.start can.greatest short.longest can.longest)
  refused_or_not RawFailed number never can = never

  -- one cause holds, with its numbers
  pub one_cause : (error other : ObtainError) → IsRefused desk granules error → IsRefused desk granules other → error ≡ other
  one_cause HasRegion HasRegion first second = refl
  one_cause HasRegion (RegionsFull count next) first second = absurd (true_false (has_region desk) first second.may)
  one_cause HasRegion (SpanFull asked greatest) first second = absurd (true_false (has_region desk) first second.numbered.may)
  one_cause (RegionsFull count next) HasRegion first second = absurd (true_false (has_region desk) second first.may)
  one_cause (RegionsFull count next) (RegionsFull count' next') first second =
      let outs : count ≡ count' = first.count ∙ sym second.count in
      let nexts : next ≡ next' = next_same desk.records desk.counter next next' first.next_is second.next_is in cc
  one_cause (RegionsFull count next) (SpanFull asked greatest) first second = absurd (full_or_not count next second.number first second.numbered)
  one_cause (SpanFull asked greatest) HasRegion first second = absurd (true_false (has_region desk) second first.numbered.may)
  one_cause (SpanFull asked greatest) (RegionsFull count next) first second = absurd (full_or_not count next first.number second first.numbered)
  one_cause (SpanFull asked greatest) (SpanFull asked' greatest') first second =
      let askeds : asked ≡ asked' = first.asked_is ∙ sym second.asked_is in
      let greatests : greatest ≡ greatest' = longest_same desk.limits.span desk.records first.start greatest second.start greatest' first.longest second.longest in cc
  one_cause RawFailed other first second = absurd first
  one_cause error RawFailed first second = absurd second
