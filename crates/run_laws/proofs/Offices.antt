-- What a sound office with a scripted callback comes to is one, and is sound.
use Rattle.std.proofs.Common.{◌≡◌, ℕ, ◌+◌, ◌-◌, ◌*◌, ◌/◌, ◌%◌, ◌<◌, ◌≤◌, Bool, true, false, arith, ap, ◌∙◌, sym, refl, List, [], ◌∷◌, ◌++◌, ◌⊎◌, inl, inr, get_or, subst, Some, None, Ok, Err}
use Rattle.std.specs.Prelude.{Option, Result, remove, max, if◌then◌else◌, ◌==◌}
use Rattle.std.proofs.lemmas.Bool.{cases_lt}
use Rattle.std.proofs.lemmas.Bool.Decides.{nat_tests}
use Rattle.std.proofs.lemmas.List.{get_or_default}
use Rattle.std.proofs.Math.Nat.{lt-div-mul-add}
use Rattle.std.proofs.lemmas.Option.{same_Some}
use Rattle.pool_types.specs.declared.policy.Limits.{Limits}
use Rattle.pool_types.specs.declared.policy.Policy.{Policy}
use Rattle.pool_types.specs.declared.policy.RegionRec.{RegionRec}
use Rattle.pool_types.specs.declared.values.Region.{Region}
use Rattle.pool_types.specs.Geometry.{granule_bytes, slab_granules}
use Rattle.pool_types.specs.Policies.{align_up, granularity_of, IsAllowed}
use Rattle.pool_types.specs.Script.{Script, Gets, Puts}
use Rattle.regions.specs.declared.errors.ObtainError.{ObtainError}
use Rattle.regions.specs.declared.errors.ObtainError.TheVariants.{HasRegion, RegionsFull, SpanFull, RawFailed}
use Rattle.regions.specs.Gaps.{IsGap, IsLongestGap}
use Rattle.regions.specs.Obtaining.{Obtains, Comes, Fails, Gives, IsRefused, bytes_for, starts_at}
use Rattle.regions.specs.Offices.{Desk, desk_of, IsSound, AreApart, regions_of}
use Rattle.regions.specs.Placing.{IsPlaced, IsRecord, parity_of, whole_granules}
use Rattle.regions.proofs.Exact.{next_same, longest_same, refused_or_not, one_cause}
use Rattle.regions.proofs.Growing.{grown}
use Rattle.regions.proofs.Shrinking.{shrunk}
use Rattle.step_depot.specs.Steps.{PutsBy, PutsIf}
use Rattle.line_runs.specs.Turning.{out_of, faults_of}
use Rattle.run_laws.proofs.Scripted.{gets_once, puts_once}

-- what is left out before the first granule
waste_once : (base waste other : ℕ) → waste < 8192 → other < 8192 → (base + waste) % 8192 ≡ 0 →
    (base + other) % 8192 ≡ 0 → waste ≡ other
waste_once base waste other low low' whole whole' = omega arith

-- the longest gap starts at one index
start_once : (span : ℕ) (records : List RegionRec) (start count start' count' : ℕ) → count ≡ count' →
    IsLongestGap span records start count → IsLongestGap span records start' count' → start ≡ start'
start_once span records start count start' count' same one other =
    let low : start ≤ start' = one.lowest start' (subst (λ n. IsGap span records start' n) (sym same) other.gap) in
    let high : start' ≤ start = other.lowest start (subst (λ n. IsGap span records start n) same one.gap) in
    omega arith

-- so many granules are placed at one index
placed_once : (span : ℕ) (records : List RegionRec) (parity whole first granules first' granules' : ℕ) →
    IsPlaced span records parity whole first granules → IsPlaced span records parity whole first' granules' →
    (first ≡ first') × (granules ≡ granules')
placed_once span records parity whole first granules first' granules' (inl one) (inl other) =
    (omega (arith, one.lowest first' other.fits, other.lowest first one.fits), one.all ∙ sym other.all)
placed_once span records parity whole first granules first' granules' (inl one) (inr other) =
    absurd (other.nowhere first one.fits)
placed_once span records parity whole first granules first' granules' (inr one) (inl other) =
    absurd (one.nowhere first' other.fits)
placed_once span records parity whole first granules first' granules' (inr one) (inr other) =
    let counts : one.count ≡ other.count =
    longest_same span records one.start one.count other.start other.count one.longest other.longest in
    let starts : one.start ≡ other.start =
    start_once span records one.start one.count other.start other.count counts one.longest other.longest in
    let firsts : first ≡ first' =
    omega (arith, starts, one.even_or_odd, other.even_or_odd, one.from, one.near, other.from, other.near) in
    (firsts, omega (arith, counts, starts, firsts, one.ends, other.ends))

same_record : (one other : RegionRec) → one.number ≡ other.number → one.first ≡ other.first →
    one.granules ≡ other.granules → one.waste ≡ other.waste → one.region ≡ other.region → one ≡ other
same_record one other number first granules waste region =
    ap (λ x. record one { number = x }) number
    ∙ ap (λ x. record one { number = other.number; first = x }) first
    ∙ ap (λ x. record one { number = other.number; first = other.first; granules = x }) granules
    ∙ ap (λ x. record other { waste = x; region = one.region }) waste
    ∙ ap (λ x. record other { region = x }) region

-- the record of a region that came
record_once : (span : ℕ) (records : List RegionRec) (one other : RegionRec) → one.number ≡ other.number →
    one.region ≡ other.region → IsRecord span records one → IsRecord span records other → one ≡ other
record_once span records one other number region is is' = same_record one other number places.0 places.1 wastes region
  where
    wastes : one.waste ≡ other.waste
    wastes = waste_once one.region.base one.waste other.waste is.aligned.least is'.aligned.least is.aligned.multiple
        (subst (λ (r : Region). (r.base + other.waste) % 8192 ≡ 0) (sym region) is'.aligned.multiple)

    in_one : IsPlaced span records ((one.region.base + other.waste) / granule_bytes % slab_granules)
        ((one.region.bytes - other.waste) / granule_bytes) other.first other.granules
    in_one = subst
        (λ (r : Region). IsPlaced span records ((r.base + other.waste) / granule_bytes % slab_granules)
        ((r.bytes - other.waste) / granule_bytes) other.first other.granules)
        (sym region) is'.placed

    behind : IsPlaced span records (parity_of one) (whole_granules one) other.first other.granules
    behind = subst
        (λ (w : ℕ). IsPlaced span records ((one.region.base + w) / granule_bytes % slab_granules)
        ((one.region.bytes - w) / granule_bytes) other.first other.granules)
        (sym wastes) in_one

    places : (one.first ≡ other.first) × (one.granules ≡ other.granules)
    places = placed_once span records (parity_of one) (whole_granules one) one.first one.granules other.first other.granules
        is.placed behind

-- no fewer bytes are asked for than a granule has
some_granularity : (n : ℕ) (b : Bool) → (n == 0) ≡ b → 0 < (if b then granule_bytes else n)
some_granularity n true is = omega arith
some_granularity n false is = grind (arith, nat_tests)

some_wanted : (fixed : Bool) (region more : ℕ) → 8192 ≤ region → 8192 ≤ (if fixed then region else max region more)
some_wanted true region more low = low
some_wanted false region more low = omega arith

up_least : (bytes granularity : ℕ) → 0 < granularity → bytes ≤ align_up bytes granularity
up_least bytes granularity some = omega (arith, lt-div-mul-add {a = bytes + (granularity - 1)} {b = granularity} some)

least_region : (policy : Policy) (limits : Limits) → IsAllowed policy limits → 8192 ≤ limits.region
least_region policy limits allowed = let is_in = allowed.limits_in.0.1 in grind (arith, nat_tests)

module _ (old : Desk Script) (sound : IsSound out_of old) (granules : ℕ) where
  least_bytes : 8192 ≤ bytes_for old granules
  least_bytes =
      let low : 8192 ≤ old.limits.region = least_region old.policy old.limits sound.allowed in
      let wanted = some_wanted old.policy.fixed old.limits.region ((granules + 2) * granule_bytes) low in
      let positive = some_granularity old.policy.granularity (old.policy.granularity == 0) refl in
      omega (
        arith,
        wanted,
        up_least
            (if old.policy.fixed then old.limits.region else max old.limits.region ((granules + 2) * granule_bytes))
            (granularity_of old.policy) positive,
      )

  comes_sound : (one : RegionRec) (new : Desk Script) → Comes out_of faults_of Gets old granules one new →
      IsSound out_of new
  comes_sound one new come = subst (λ (d : Desk Script). IsSound out_of d) (sym come.after)
      (grown out_of old one new.raw (bytes_for old granules) sound come.can.numbered least_bytes come.fresh come.is_record
      come.out_grows)

  fails_sound : (new : Desk Script) → Fails out_of faults_of Gets old granules new → IsSound out_of new
  fails_sound new failed = subst (λ (d : Desk Script). IsSound out_of d) (sym failed.after) (record {
    allowed = sound.allowed;
    regions = failed.out_stays ∙ sound.regions;
    most = sound.most;
    numbers = sound.numbers;
    each = sound.each;
    pairs = sound.pairs;
    before = sound.before;
    one = sound.one;
  })

  comes_once : (one other : RegionRec) (new new' : Desk Script) → Comes out_of faults_of Gets old granules one new →
      Comes out_of faults_of Gets old granules other new' → (one ≡ other) × (new ≡ new')
  comes_once one other new new' come come' =
      let given = gets_once old.raw (bytes_for old granules) (Some one.region) (Some other.region) new.raw new'.raw
      come.answered come'.answered in
      let region : one.region ≡ other.region = same_Some one.region other.region given.0 in
      let number : one.number ≡ other.number =
      next_same old.records old.counter one.number other.number come.can.numbered.next_is come'.can.numbered.next_is in
      let same : one ≡ other =
      record_once old.limits.span old.records one other number region come.is_record come'.is_record in (
        same,
        come.after ∙
            ap (λ (x : RegionRec). desk_of old.policy old.limits (old.records ++ x ∷ []) (x.number + 1) true new.raw) same ∙
            ap (λ (raw : Script). desk_of old.policy old.limits (old.records ++ other ∷ []) (other.number + 1) true raw) given.1 ∙
            sym come'.after,
      )

  fails_once : (new new' : Desk Script) → Fails out_of faults_of Gets old granules new →
      Fails out_of faults_of Gets old granules new' → new ≡ new'
  fails_once new new' failed failed' =
      let given = gets_once old.raw (bytes_for old granules) None None new.raw new'.raw failed.answered failed'.answered in
      failed.after ∙ ap (λ (raw : Script). record old { raw = raw }) given.1 ∙ sym failed'.after

  no_both : (one : RegionRec) (new new' : Desk Script) → Comes out_of faults_of Gets old granules one new →
      Fails out_of faults_of Gets old granules new' → ⊥
  no_both one new new' come failed =
      let given = gets_once old.raw (bytes_for old granules) (Some one.region) None new.raw new'.raw come.answered
      failed.answered in
      let wrong : Some one.region ≡ None = given.0 in cc

  -- a region came, or the callback gave none, or it was not asked
  abbrev IsCome : Result RegionRec ObtainError → Desk Script → Type 0
  IsCome result new = (one : RegionRec) × (result ≡ Ok one) × Comes out_of faults_of Gets old granules one new

  abbrev HasFailed : Result RegionRec ObtainError → Desk Script → Type 0
  HasFailed result new = (result ≡ Err RawFailed) × Fails out_of faults_of Gets old granules new

  abbrev IsBarred : Result RegionRec ObtainError → Desk Script → Type 0
  IsBarred result new = (error : ObtainError) × (result ≡ Err error) × IsRefused old granules error × (new ≡ old)

  abbrev Outcome : Result RegionRec ObtainError → Desk Script → Type 0
  Outcome result new = IsCome result new ⊎ (HasFailed result new ⊎ IsBarred result new)

  outcome : (result : Result RegionRec ObtainError) (new : Desk Script) →
      Obtains out_of faults_of Gets old granules result new → Outcome result new
  outcome (Ok one) new h = inl (one, refl, h)
  outcome (Err RawFailed) new h = inr (inl (refl, h))
  outcome (Err HasRegion) new h = inr (inr (HasRegion, refl, h.0, h.1))
  outcome (Err (RegionsFull count next)) new h = inr (inr (RegionsFull count next, refl, h.0, h.1))
  outcome (Err (SpanFull asked greatest)) new h = inr (inr (SpanFull asked greatest, refl, h.0, h.1))

  outcome_once : (result result' : Result RegionRec ObtainError) (new new' : Desk Script) → Outcome result new →
      Outcome result' new' → (result ≡ result') × (new ≡ new')
  outcome_once result result' new new' (inl (one, is, come)) (inl (other, is', come')) =
      let same = comes_once one other new new' come come' in
      (is ∙ ap (λ (x : RegionRec). Ok x) same.0 ∙ sym is', same.1)
  outcome_once result result' new new' (inl (one, is, come)) (inr (inl (is', failed))) =
      absurd (no_both one new new' come failed)
  outcome_once result result' new new' (inl (one, is, come)) (inr (inr (error, is', barred, kept))) =
      absurd (refused_or_not old granules error one.number barred come.can)
  outcome_once result result' new new' (inr (inl (is, failed))) (inl (other, is', come)) =
      absurd (no_both other new' new come failed)
  outcome_once result result' new new' (inr (inl (is, failed))) (inr (inl (is', failed'))) =
      (is ∙ sym is', fails_once new new' failed failed')
  outcome_once result result' new new' (inr (inl (is, failed))) (inr (inr (error, is', barred, kept))) =
      absurd (refused_or_not old granules error failed.number barred failed.can)
  outcome_once result result' new new' (inr (inr (error, is, barred, kept))) (inl (other, is', come)) =
      absurd (refused_or_not old granules error other.number barred come.can)
  outcome_once result result' new new' (inr (inr (error, is, barred, kept))) (inr (inl (is', failed))) =
      absurd (refused_or_not old granules error failed.number barred failed.can)
  outcome_once result result' new new' (inr (inr (error, is, barred, kept))) (inr (inr (error', is', barred', kept'))) =
      (is ∙ ap (λ (e : ObtainError). Err e) (one_cause old granules error error' barred barred') ∙ sym is', kept ∙ sym kept')

  outcome_sound : (result : Result RegionRec ObtainError) (new : Desk Script) → Outcome result new → IsSound out_of new
  outcome_sound result new (inl (one, is, come)) = comes_sound one new come
  outcome_sound result new (inr (inl (is, failed))) = fails_sound new failed
  outcome_sound result new (inr (inr (error, is, barred, kept))) = subst (λ (d : Desk Script). IsSound out_of d) (sym kept) sound

  -- what an office that is asked for granules comes to
  pub obtains_once : (result result' : Result RegionRec ObtainError) (new new' : Desk Script) →
      Obtains out_of faults_of Gets old granules result new → Obtains out_of faults_of Gets old granules result' new' →
      (result ≡ result') × (new ≡ new') × IsSound out_of new
  obtains_once result result' new new' h h' =
      let same = outcome_once result result' new new' (outcome result new h) (outcome result' new' h') in
      (same.0, same.1, outcome_sound result new (outcome result new h))

apart_firsts : (one other : RegionRec) → AreApart one other → one.first ≡ other.first → ⊥
apart_firsts one other apart same = elim apart.spans [ inl before ↦ omega arith | inr before ↦ omega arith ]

module _ (old : Desk Script) (sound : IsSound out_of old) (first : ℕ) where
  not_lower : (answer answer' : Bool) (new new' : Desk Script) (one : Gives out_of faults_of Puts old first answer new)
      (other : Gives out_of faults_of Puts old first answer' new') → one.position < other.position → ⊥
  not_lower answer answer' new new' one other less =
      apart_firsts (get_or old.records one.position one.one) (get_or old.records other.position one.one)
      (sound.pairs one.position other.position one.one less other.below)
      (ap (λ (x : RegionRec). x.first) one.there ∙ one.starts ∙ sym other.starts ∙
      sym (ap (λ (x : RegionRec). x.first)
      (get_or_default old.records other.position one.one other.one other.below ∙ other.there)))

  position_once : (answer answer' : Bool) (new new' : Desk Script) (one : Gives out_of faults_of Puts old first answer new)
      (other : Gives out_of faults_of Puts old first answer' new') → one.position ≡ other.position
  position_once answer answer' new new' one other =
      by (cases_lt one.position other.position) (cases_lt other.position one.position)
    where
      by : (one.position < other.position) ⊎ (other.position ≤ one.position) →
          (other.position < one.position) ⊎ (one.position ≤ other.position) → one.position ≡ other.position
      by (inl less) more = absurd (not_lower answer answer' new new' one other less)
      by (inr most) (inl less) = absurd (not_lower answer' answer new' new other one less)
      by (inr most) (inr least) = omega arith

  gives_sound : (answer : Bool) (new : Desk Script) (one : Gives out_of faults_of Puts old first answer new) →
      IsSound out_of (desk_of old.policy old.limits (remove old.records one.position) old.counter old.has_got new.raw)
  gives_sound answer new one = shrunk out_of old new.raw one.position one.one sound one.below one.there one.out_shrinks

  -- what an office that gives a region back comes to
  pub gives_once : (answer answer' : Bool) (new new' : Desk Script) → Gives out_of faults_of Puts old first answer new →
      Gives out_of faults_of Puts old first answer' new' → (new ≡ new') × IsSound out_of new
  gives_once answer answer' new new' one other = (
    one.after ∙
        ap (λ (p : ℕ). desk_of old.policy old.limits (remove old.records p) old.counter old.has_got new.raw) places ∙
        ap (λ (raw : Script). desk_of old.policy old.limits (remove old.records other.position) old.counter old.has_got raw) raws ∙
        sym other.after,
    subst (λ (d : Desk Script). IsSound out_of d) (sym one.after) (gives_sound answer new one),
  )
    where
      places : one.position ≡ other.position
      places = position_once answer answer' new new' one other

      ones : one.one ≡ other.one
      ones = sym one.there ∙ get_or_default old.records one.position one.one other.one one.below ∙
          ap (λ (p : ℕ). get_or old.records p other.one) places ∙ other.there

      outs : new.raw.out ≡ new'.raw.out
      outs =
          let here = gives_sound answer new one in
          let there = gives_sound answer' new' other in
          here.regions ∙ ap (λ (p : ℕ). regions_of (remove old.records p)) places ∙ sym there.regions

      raws : new.raw ≡ new'.raw
      raws = (puts_once old.raw one.one.region answer answer' new.raw new'.raw outs one.answered
          (subst (λ (r : RegionRec). Puts old.raw r.region answer' new'.raw) (sym ones) other.answered)).1

  puts_by_once : (b : Bool) (new new' : Desk Script) → PutsBy out_of faults_of Puts b old first new →
      PutsBy out_of faults_of Puts b old first new' → (new ≡ new') × IsSound out_of new
  puts_by_once true new new' (answer, gives) (answer', gives') = gives_once answer answer' new new' gives gives'
  puts_by_once false new new' kept kept' =
      (kept ∙ sym kept', subst (λ (d : Desk Script). IsSound out_of d) (sym kept) sound)

-- a region is passed to the callback, if one is
pub puts_if_once : (old : Desk Script) → IsSound out_of old → (gives : Option ℕ) (new new' : Desk Script) →
    PutsIf out_of faults_of Puts old gives new → PutsIf out_of faults_of Puts old gives new' →
    (new ≡ new') × IsSound out_of new
puts_if_once old sound None new new' kept kept' =
    (kept ∙ sym kept', subst (λ (d : Desk Script). IsSound out_of d) (sym kept) sound)
puts_if_once old sound (Some first) new new' h h' =
    puts_by_once old sound first (starts_at old first) new new' h h'
