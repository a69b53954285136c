-- How many bytes of each region have a holder.
use Rattle.std.proofs.Common.{◌≡◌, ℕ, ◌+◌, ◌^◌, inl, inr, Bool, true, false, ◌&&◌, nat_le, nat_lt, refl, sym, ◌∙◌, ap, arith, subst, leb-true, ltb-true}
use Rattle.std.specs.Prelude.{Contains, if◌then◌else◌, List}
use Rattle.std.proofs.lemmas.Bool.{cases_Bool, and_parts, and_from, le-leb, lt-ltb}
use Rattle.pool_types.specs.declared.policy.RegionRec.{RegionRec}
use Rattle.part_model.specs.Holding.{Holding, lies_in}
use Rattle.part_model.specs.Totals.{has_holder, place_at, region_bytes}
use Rattle.part_model.proofs.CallerLemmas.{lies_in-parts, lies_in-is, same_region-is, same_region-parts, totals_sum}
use Rattle.machine.specs.States.{State}
use Rattle.machine.specs.Events.{no_progress, after_events}
use Rattle.machine.specs.Laws.{RunsSumToTheirRegions}
use Rattle.machine.proofs.Covers.{whole}
use Rattle.machine.proofs.Runs.{IsSound, IsSoundState, lies_in-number, sound_run, sound_nothing}
use Rattle.list_laws.specs.Sums.{sum_below}
use Rattle.list_laws.proofs.Sums.{sum_below-same, sum_below-none, sum_below-span}

-- two tests that tell the same
pub same_test : (x y : Bool) → (x ≡ true → y ≡ true) → (y ≡ true → x ≡ true) → x ≡ y
same_test true y to from = sym (to refl)
same_test false true to from = from refl
same_test false false to from = refl

-- an offset of a live region has a holder exactly where it is below the region's bytes
pub held_at_offset : (pool : ℕ) (held : Holding) (regions : List RegionRec) (next : ℕ) → IsSound pool held regions next → (region : RegionRec) → Contains regions region → (offset : ℕ) →
    has_holder (held (place_at pool region.number offset)) ≡ (nat_le 0 offset && nat_lt offset (0 + region.region.bytes))
held_at_offset pool held regions next sound region live offset =
    same_test (has_holder (held (place_at pool region.number offset))) (nat_le 0 offset && nat_lt offset (0 + region.region.bytes)) to from
  where
    to : has_holder (held (place_at pool region.number offset)) ≡ true → (nat_le 0 offset && nat_lt offset (0 + region.region.bytes)) ≡ true
    to holds =
        let found = sound.none (place_at pool region.number offset) holds in
        let is : found.0 ≡ region = sound.unique found.0 region found.1 live (sym (lies_in-number pool found.0 (place_at pool region.number offset) found.2)) in
        let lies = lies_in-parts (place_at pool region.number offset) (whole pool region) (subst (λ r. lies_in (place_at pool region.number offset) (whole pool r) ≡ true) is found.2) in
        and_from (nat_le 0 offset) (nat_lt offset (0 + region.region.bytes)) (le-leb 0 offset lies.from) (lt-ltb offset (0 + region.region.bytes) lies.below)

    from : (nat_le 0 offset && nat_lt offset (0 + region.region.bytes)) ≡ true → has_holder (held (place_at pool region.number offset)) ≡ true
    from tests =
        let both = and_parts (nat_le 0 offset) (nat_lt offset (0 + region.region.bytes)) tests in
        sound.some region live (place_at pool region.number offset)
        (lies_in-is (place_at pool region.number offset) (whole pool region) (same_region-is (place_at pool region.number offset) (whole pool region).place refl refl)
        (leb-true 0 offset both.0) (ltb-true offset (0 + region.region.bytes) both.1))

-- each live region has its bytes
pub live_bytes_are : (pool : ℕ) (held : Holding) (regions : List RegionRec) (next : ℕ) → IsSound pool held regions next → (region : RegionRec) → Contains regions region →
    region_bytes has_holder held pool region.number ≡ region.region.bytes
unfolding region_bytes
live_bytes_are pool held regions next sound region live =
    let same : sum_below (λ offset. if has_holder (held (place_at pool region.number offset)) then 1 else 0) (2 ^ 64)
    ≡ sum_below (λ offset. if nat_le 0 offset && nat_lt offset (0 + region.region.bytes) then 1 else 0) (2 ^ 64) =
    sum_below-same (λ offset. if has_holder (held (place_at pool region.number offset)) then 1 else 0)
    (λ offset. if nat_le 0 offset && nat_lt offset (0 + region.region.bytes) then 1 else 0) (2 ^ 64)
    (λ offset below. ap (λ (b : Bool). if b then 1 else 0) (held_at_offset pool held regions next sound region live offset)) in
    let span = sum_below-span 0 region.region.bytes (2 ^ 64) in
    let ends = (sound.fits region live).ends in
    same ∙ (omega (arith, span, ends))

-- no other region has one
pub other_bytes_are : (pool : ℕ) (held : Holding) (regions : List RegionRec) (next : ℕ) → IsSound pool held regions next → (other number : ℕ) →
    ((region : RegionRec) → Contains regions region → (other ≡ pool) × (number ≡ region.number) → ⊥) → region_bytes has_holder held other number ≡ 0
unfolding region_bytes
other_bytes_are pool held regions next sound other number none =
    sum_below-none (λ offset. if has_holder (held (place_at other number offset)) then 1 else 0) (2 ^ 64)
    (λ offset below. ap (λ (b : Bool). if b then 1 else 0) (nobody offset))
  where
    nobody : (offset : ℕ) → has_holder (held (place_at other number offset)) ≡ false
    nobody offset = elim (cases_Bool (has_holder (held (place_at other number offset)))) [
      | inl holds ↦ absurd (
          let found = sound.none (place_at other number offset) holds in
          none found.0 found.1 (same_region-parts (place_at other number offset) (whole pool found.0).place (lies_in-parts (place_at other number offset) (whole pool found.0) found.2).region))
      | inr no_holder ↦ no_holder
    ]

-- the sum of the totals is the bytes of the regions
pub runs_sum_to_their_regions : RunsSumToTheirRegions
runs_sum_to_their_regions terms events run =
    let sound : IsSoundState terms (after_events no_progress events).state = sound_run terms no_progress events run.1 (sound_nothing terms.limits.pool 0) in
    let state : State = (after_events no_progress events).state in
    let both = totals_sum (after_events no_progress events).state.held in
    record {
      sum = both.0 ∙ both.1;
      each = live_bytes_are terms.limits.pool (after_events no_progress events).state.held (after_events no_progress events).state.regions (after_events no_progress events).state.next sound;
      others = other_bytes_are terms.limits.pool (after_events no_progress events).state.held (after_events no_progress events).state.regions (after_events no_progress events).state.next sound;
    }
