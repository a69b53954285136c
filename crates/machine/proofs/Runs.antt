-- Laws of runs.
use Rattle.std.proofs.Common.{◌≡◌, ℕ, ◌+◌, ◌-◌, ◌*◌, ◌^◌, ◌<◌, ◌≤◌, inl, inr, List, [], ◌∷◌, ◌++◌, Some, None, Bool, true, false, ◌&&◌, ◌||◌, not, refl, sym, ◌∙◌, ap, arith, subst, filter}
use Rattle.std.specs.Prelude.{Contains, if◌then◌else◌, ◌==◌}
use Rattle.std.specs.List.{list_any}
use Rattle.std.proofs.lemmas.Bool.{cases_Bool, or_cases, or_left, or_right, and_from, not-true, not_from_false, and_parts, eqb-true, eq-eqb}
use Rattle.std.proofs.lemmas.List.Elements.{Contains-append_left, Contains-push, Contains-push_cases}
use Rattle.pool_types.specs.declared.values.Place.{Place}
use Rattle.pool_types.specs.declared.policy.RegionRec.{RegionRec}
use Rattle.part_model.specs.declared.holders.Holder.TheVariants.{Waste, Hand}
use Rattle.part_model.specs.declared.moves.Part.{Part}
use Rattle.part_model.specs.Holding.{Holding, lies_in, after_parts, AreApart, CanMoveAll}
use Rattle.part_model.specs.Totals.{has_holder}
use Rattle.part_model.proofs.CallerLemmas.{holders_of-is, lies_in-parts, same_region-parts}
use Rattle.list_laws.proofs.Members.{Contains-filter, Contains-filter_from}
use Rattle.machine.specs.States.{Terms, State}
use Rattle.machine.specs.Ranges.{Each}
use Rattle.machine.specs.Regions.{coming_parts, leaving_parts, front_range, granules_range, back_range, IsNewRegion}
use Rattle.machine.specs.Journal.{Turn, goes, regions_left, regions_after, next_after}
use Rattle.machine.specs.Events.{Event, Begins, Makes, Reset_begins, Reset_ends, Ends, Progress, no_progress, after_event, after_events}
use Rattle.machine.specs.Turns.{MayStep}
use Rattle.machine.specs.Runs.{MayHappen, IsRunFrom}
use Rattle.machine.specs.Laws.{RunsHaveOneHolder}
use Rattle.machine.proofs.Shapes.{Stays, each-three, each-map, region_move, RegionMove}
use Rattle.machine.proofs.Covers.{stays_held, Brings, Takes, brings_held, takes_held, lies_in_any-three, whole}

-- what the records of the live regions have in common
pub record IsFit (next : ℕ) (region : RegionRec) : Type 0 where
  pub below : region.number < next
  pub inside : region.waste + region.granules * 8192 ≤ region.region.bytes
  pub ends : region.region.bytes ≤ 2 ^ 64 - 1

-- the bytes that have a holder are those of the live regions, which have numbers of their own
pub record IsSound (pool : ℕ) (held : Holding) (regions : List RegionRec) (next : ℕ) : Type 0 where
  pub some : (region : RegionRec) → Contains regions region → (byte : Place) → lies_in byte (whole pool region) ≡ true → has_holder (held byte) ≡ true
  pub none : (byte : Place) → has_holder (held byte) ≡ true → (region : RegionRec) × Contains regions region × (lies_in byte (whole pool region) ≡ true)
  pub fits : (region : RegionRec) → Contains regions region → IsFit next region
  pub unique : (one other : RegionRec) → Contains regions one → Contains regions other → one.number ≡ other.number → one ≡ other

-- no part takes bytes out of the pool
pub none_leaves : (parts : List Part) → Each Brings parts → list_any (λ part. not (has_holder part.to)) parts ≡ false
none_leaves [] all = refl
none_leaves (part ∷ parts) (brings, all) = neither (has_holder part.to) brings (none_leaves parts all)
  where
    neither : (b : Bool) → b ≡ true → list_any (λ part. not (has_holder part.to)) parts ≡ false → (not b || list_any (λ part. not (has_holder part.to)) parts) ≡ false
    neither true is rest = rest
    neither false is rest = absurd (let e = is in cc)

-- so all regions stay
pub regions_stay : (regions : List RegionRec) (parts : List Part) → Each Brings parts → regions_left regions parts ≡ regions
regions_stay regions parts all = ap (λ (b : Bool). if b then filter (λ region. not (goes parts region)) regions else regions) (none_leaves parts all)

-- a move within the pool
pub sound_stays : (pool seat : ℕ) (held : Holding) (regions : List RegionRec) (next : ℕ) (parts : List Part) → Each Stays parts → AreApart parts → CanMoveAll seat held parts →
    IsSound pool held regions next → IsSound pool (after_parts held parts) (regions_left regions parts) next
sound_stays pool seat held regions next parts stays apart can sound =
    subst (λ rs. IsSound pool (after_parts held parts) rs next) (sym (regions_stay regions parts (each-map Stays Brings (λ part stay. stay.1) parts stays))) (record {
      some = λ region live byte inside. stays_held seat held parts byte stays apart can ∙ sound.some region live byte inside;
      none = λ byte holds. sound.none byte (sym (stays_held seat held parts byte stays apart can) ∙ holds);
      fits = sound.fits;
      unique = sound.unique;
    })

-- a region comes
pub sound_comes : (terms : Terms) (state : State) (seat : ℕ) (region : RegionRec) → IsNewRegion terms state region →
    IsSound terms.limits.pool state.held state.regions state.next →
    IsSound terms.limits.pool (after_parts state.held (coming_parts terms.limits.pool seat region)) (regions_left state.regions (coming_parts terms.limits.pool seat region) ++ region ∷ []) (region.number + 1)
sound_comes terms state seat region new sound =
    let pool : ℕ = terms.limits.pool in
    let parts : List Part = coming_parts terms.limits.pool seat region in
    let brings : Each Brings (coming_parts terms.limits.pool seat region) =
    each-three Brings (front_range terms.limits.pool region) (granules_range terms.limits.pool region) (back_range terms.limits.pool region) None (Some Waste) None (Some (Hand seat)) refl refl refl in
    let held_is : (byte : Place) → has_holder (after_parts state.held (coming_parts terms.limits.pool seat region) byte) ≡ (has_holder (state.held byte) || lies_in byte (whole terms.limits.pool region)) =
    λ byte. brings_held state.held (coming_parts terms.limits.pool seat region) byte brings
    ∙ ap (λ b. has_holder (state.held byte) || b) (lies_in_any-three terms.limits.pool region None (Some Waste) None (Some (Hand seat)) byte new.inside) in
    subst (λ rs. IsSound terms.limits.pool (after_parts state.held (coming_parts terms.limits.pool seat region)) (rs ++ region ∷ []) (region.number + 1)) (sym (regions_stay state.regions (coming_parts terms.limits.pool seat region) brings)) (record {
      some = λ one live byte inside. held_is byte ∙ elim (Contains-push_cases state.regions region one live) [
        | inl old ↦ or_left (has_holder (state.held byte)) (lies_in byte (whole terms.limits.pool region)) (sound.some one old byte inside)
        | inr is ↦ or_right (has_holder (state.held byte)) (lies_in byte (whole terms.limits.pool region)) (subst (λ r. lies_in byte (whole terms.limits.pool r) ≡ true) (sym is) inside)
      ];
      none = λ byte holds. elim (or_cases (has_holder (state.held byte)) (lies_in byte (whole terms.limits.pool region)) (sym (held_is byte) ∙ holds)) [
        | inl old ↦ let found = sound.none byte old in (found.0, Contains-append_left state.regions (region ∷ []) found.0 found.1, found.2)
        | inr inside ↦ (region, Contains-push state.regions region, inside)
      ];
      fits = λ one live. elim (Contains-push_cases state.regions region one live) [
        | inl old ↦ let fit = sound.fits one old in let unused = new.number.next_is.from in record { below = let below = fit.below in omega arith; inside = fit.inside; ends = fit.ends }
        | inr is ↦ subst (λ r. IsFit (region.number + 1) r) is (record { below = omega arith; inside = new.inside; ends = let ends = new.ends in omega arith })
      ];
      unique = λ one other live live_other same. elim (Contains-push_cases state.regions region one live) [
        | inl old ↦ elim (Contains-push_cases state.regions region other live_other) [
          | inl old_other ↦ sound.unique one other old old_other same
          | inr is ↦ absurd (not_new one old (same ∙ ap (λ (r : RegionRec). r.number) (sym is)))
        ]
        | inr is ↦ elim (Contains-push_cases state.regions region other live_other) [
          | inl old_other ↦ absurd (not_new other old_other (sym same ∙ ap (λ (r : RegionRec). r.number) (sym is)))
          | inr is_other ↦ sym is ∙ is_other
        ]
      ];
    })
  where
    not_new : (one : RegionRec) → Contains state.regions one → one.number ≡ region.number → ⊥
    not_new one old same = let fit = sound.fits one old in let below = fit.below in let unused = new.number.next_is.from in omega arith

-- the parts are of the region of this number
abbrev pub IsOfNumber : ℕ → Part → Type 0
IsOfNumber number part = part.range.place.region ≡ number

-- a region goes exactly where one of its parts is taken out
pub goes-is : (number : ℕ) (parts : List Part) (region : RegionRec) → Each (IsOfNumber number) parts →
    goes parts region ≡ (list_any (λ part. not (has_holder part.to)) parts && (number == region.number))
goes-is number [] region all = refl
goes-is number (part ∷ parts) region (of, all) =
    ap (λ n. (not (has_holder part.to) && (n == region.number)) || goes parts region) of
    ∙ ap (λ b. (not (has_holder part.to) && (number == region.number)) || b) (goes-is number parts region all)
    ∙ both (not (has_holder part.to)) (list_any (λ part. not (has_holder part.to)) parts) (number == region.number)
  where
    both : (x y z : Bool) → ((x && z) || (y && z)) ≡ ((x || y) && z)
    both true true true = refl
    both true true false = refl
    both true false true = refl
    both true false false = refl
    both false y z = refl

-- where all parts take bytes out and none does, there is no part
pub no_parts : (parts : List Part) → Each Takes parts → list_any (λ part. not (has_holder part.to)) parts ≡ false → parts ≡ []
no_parts [] all none = refl
no_parts (part ∷ parts) (takes, all) none =
    absurd (let some : (not (has_holder part.to) || list_any (λ p. not (has_holder p.to)) parts) ≡ true = or_left (not (has_holder part.to)) (list_any (λ p. not (has_holder p.to)) parts) (ap not takes) in let e : true ≡ false = sym some ∙ none in cc)

-- a byte of a region bears its number
pub lies_in-number : (pool : ℕ) (region : RegionRec) (byte : Place) → lies_in byte (whole pool region) ≡ true → byte.region ≡ region.number
lies_in-number pool region byte inside = (same_region-parts byte (whole pool region).place (lies_in-parts byte (whole pool region) inside).region).1

-- a region leaves, of which there is a part
pub sound_gone : (pool seat : ℕ) (held : Holding) (regions : List RegionRec) (next : ℕ) (region : RegionRec) → Contains regions region →
    list_any (λ part. not (has_holder part.to)) (leaving_parts pool seat region) ≡ true →
    IsSound pool held regions next →
    IsSound pool (after_parts held (leaving_parts pool seat region)) (filter (λ one. not (goes (leaving_parts pool seat region) one)) regions) next
sound_gone pool seat held regions next region live some_part_goes sound =
    let takes : Each Takes (leaving_parts pool seat region) =
    each-three Takes (front_range pool region) (granules_range pool region) (back_range pool region) (Some Waste) None (Some (Hand seat)) None refl refl refl in
    let of : Each (IsOfNumber region.number) (leaving_parts pool seat region) =
    each-three (IsOfNumber region.number) (front_range pool region) (granules_range pool region) (back_range pool region) (Some Waste) None (Some (Hand seat)) None refl refl refl in
    let held_is : (byte : Place) → has_holder (after_parts held (leaving_parts pool seat region) byte) ≡ (has_holder (held byte) && not (lies_in byte (whole pool region))) =
    λ byte. takes_held held (leaving_parts pool seat region) byte takes
    ∙ ap (λ b. has_holder (held byte) && not b) (lies_in_any-three pool region (Some Waste) None (Some (Hand seat)) None byte (sound.fits region live).inside) in
    let goes_is : (one : RegionRec) → goes (leaving_parts pool seat region) one ≡ (region.number == one.number) =
    λ one. goes-is region.number (leaving_parts pool seat region) one of ∙ ap (λ b. b && (region.number == one.number)) some_part_goes in
    record {
      some = λ one kept byte inside.
          let member = Contains-filter (λ r. not (goes (leaving_parts pool seat region) r)) regions one kept in
          held_is byte ∙ and_from (has_holder (held byte)) (not (lies_in byte (whole pool region))) (sound.some one member.0 byte inside)
          (not_from_false (lies_in byte (whole pool region)) (elsewhere one byte inside (sym (goes_is one) ∙ not-true (goes (leaving_parts pool seat region) one) member.1)));
      none = λ byte holds.
          let both = and_parts (has_holder (held byte)) (not (lies_in byte (whole pool region))) (sym (held_is byte) ∙ holds) in
          let found = sound.none byte both.0 in (
            found.0,
            Contains-filter_from (λ r. not (goes (leaving_parts pool seat region) r)) regions found.0 found.1
                (not_from_false (goes (leaving_parts pool seat region) found.0) (goes_is found.0 ∙ other found.0 byte found.1 found.2 (not-true (lies_in byte (whole pool region)) both.1))),
            found.2,
          );
      fits = λ one kept. sound.fits one (Contains-filter (λ r. not (goes (leaving_parts pool seat region) r)) regions one kept).0;
      unique = λ one two kept kept_two same.
          sound.unique one two (Contains-filter (λ r. not (goes (leaving_parts pool seat region) r)) regions one kept).0
          (Contains-filter (λ r. not (goes (leaving_parts pool seat region) r)) regions two kept_two).0 same;
    }
  where
    elsewhere : (one : RegionRec) (byte : Place) → lies_in byte (whole pool one) ≡ true → (region.number == one.number) ≡ false → lies_in byte (whole pool region) ≡ false
    elsewhere one byte inside differs = elim (cases_Bool (lies_in byte (whole pool region))) [
      | inl both ↦ absurd (let same : (region.number == one.number) ≡ true = eq-eqb region.number one.number (sym (lies_in-number pool region byte both) ∙ lies_in-number pool one byte inside) in let e : true ≡ false = sym same ∙ differs in cc)
      | inr outside ↦ outside
    ]

    other : (one : RegionRec) (byte : Place) → Contains regions one → lies_in byte (whole pool one) ≡ true → lies_in byte (whole pool region) ≡ false → (region.number == one.number) ≡ false
    other one byte member inside outside = elim (cases_Bool (region.number == one.number)) [
      | inl same ↦ absurd (let is : region ≡ one = sound.unique region one live member (eqb-true region.number one.number same) in
          let both : lies_in byte (whole pool region) ≡ true = subst (λ r. lies_in byte (whole pool r) ≡ true) (sym is) inside in let e : true ≡ false = sym both ∙ outside in cc)
      | inr differs ↦ differs
    ]

-- a region leaves
pub sound_leaves : (pool seat : ℕ) (held : Holding) (regions : List RegionRec) (next : ℕ) (region : RegionRec) → Contains regions region →
    IsSound pool held regions next → IsSound pool (after_parts held (leaving_parts pool seat region)) (regions_left regions (leaving_parts pool seat region)) next
sound_leaves pool seat held regions next region live sound =
    elim (cases_Bool (list_any (λ part. not (has_holder part.to)) (leaving_parts pool seat region))) [
      | inl some ↦ subst (λ (b : Bool). IsSound pool (after_parts held (leaving_parts pool seat region)) (if b then filter (λ one. not (goes (leaving_parts pool seat region) one)) regions else regions) next) (sym some)
          (sound_gone pool seat held regions next region live some sound)
      | inr none ↦
          let takes : Each Takes (leaving_parts pool seat region) =
          each-three Takes (front_range pool region) (granules_range pool region) (back_range pool region) (Some Waste) None (Some (Hand seat)) None refl refl refl in
          subst (λ ps. IsSound pool (after_parts held ps) (regions_left regions ps) next) (sym (no_parts (leaving_parts pool seat region) takes none)) sound
    ]

-- a step keeps it
pub sound_step : (terms : Terms) (progress : Progress) (turn : Turn) → MayStep terms progress turn →
    IsSound terms.limits.pool progress.state.held progress.state.regions progress.state.next →
    IsSound terms.limits.pool (after_parts progress.state.held turn.parts) (regions_after progress.state.regions turn.parts turn.region) (next_after progress.state.next turn.region)
sound_step terms progress turn may sound = by_kind (region_move terms progress.state turn.seat turn.parts turn.book turn.region may.lawful)
  where
    by_kind : RegionMove terms progress.state turn.seat turn.parts turn.region →
        IsSound terms.limits.pool (after_parts progress.state.held turn.parts) (regions_after progress.state.regions turn.parts turn.region) (next_after progress.state.next turn.region)
    by_kind (inl within) =
        subst (λ r. IsSound terms.limits.pool (after_parts progress.state.held turn.parts) (regions_after progress.state.regions turn.parts r) (next_after progress.state.next r)) (sym within.none)
        (sound_stays terms.limits.pool turn.seat progress.state.held progress.state.regions progress.state.next turn.parts within.each may.apart may.there sound)
    by_kind (inr (inl comes)) =
        subst (λ r. IsSound terms.limits.pool (after_parts progress.state.held turn.parts) (regions_after progress.state.regions turn.parts r) (next_after progress.state.next r)) (sym comes.is)
        (subst (λ ps. IsSound terms.limits.pool (after_parts progress.state.held ps) (regions_left progress.state.regions ps ++ comes.new_region ∷ []) (comes.new_region.number + 1)) (sym comes.parts_are)
        (sound_comes terms progress.state turn.seat comes.new_region comes.fits sound))
    by_kind (inr (inr leaves)) =
        subst (λ r. IsSound terms.limits.pool (after_parts progress.state.held turn.parts) (regions_after progress.state.regions turn.parts r) (next_after progress.state.next r)) (sym leaves.none)
        (subst (λ ps. IsSound terms.limits.pool (after_parts progress.state.held ps) (regions_left progress.state.regions ps) progress.state.next) (sym leaves.parts_are)
        (sound_leaves terms.limits.pool turn.seat progress.state.held progress.state.regions progress.state.next leaves.old_region leaves.live sound))

-- what holds of a state
abbrev pub IsSoundState : Terms → State → Type 0
IsSoundState terms state = IsSound terms.limits.pool state.held state.regions state.next

-- no region and no byte
pub sound_nothing : (pool next : ℕ) → IsSound pool (λ byte. None) [] next
sound_nothing pool next = record {
  some = λ region live byte inside. absurd (let below = live.1 in omega arith);
  none = λ byte holds. absurd (let e : false ≡ true = holds in cc);
  fits = λ region live. absurd (let below = live.1 in omega arith);
  unique = λ one other live live_other same. absurd (let below = live.1 in omega arith);
}

-- an event keeps it
pub sound_event : (terms : Terms) (progress : Progress) (event : Event) → MayHappen terms progress event → IsSoundState terms progress.state → IsSoundState terms (after_event progress event).state
sound_event terms progress (Begins seat request) may sound = sound
sound_event terms progress (Makes turn) may sound = sound_step terms progress turn may sound
sound_event terms progress Reset_begins may sound = sound
sound_event terms progress Reset_ends may sound = sound
sound_event terms progress (Ends farewells) may sound = sound_nothing terms.limits.pool progress.state.next

-- a run keeps it
pub sound_run : (terms : Terms) (progress : Progress) (events : List Event) → IsRunFrom terms progress events → IsSoundState terms progress.state → IsSoundState terms (after_events progress events).state
sound_run terms progress [] run sound = sound
sound_run terms progress (event ∷ events) (may, run) sound = sound_run terms (after_event progress event) events run (sound_event terms progress event may sound)

-- in a run each byte of each region has exactly one holder
pub runs_have_one_holder : RunsHaveOneHolder
runs_have_one_holder terms events run =
    let sound : IsSoundState terms (after_events no_progress events).state = sound_run terms no_progress events run.1 (sound_nothing terms.limits.pool 0) in
    record {
      one = λ region live byte inside.
          holders_of-is (after_events no_progress events).state.held byte ((after_events no_progress events).state.held byte) refl
          ∙ ap (λ (b : Bool). if b then 1 else 0) (sound.some region live byte inside);
      none = λ byte outside.
          let none : has_holder ((after_events no_progress events).state.held byte) ≡ false = elim (cases_Bool (has_holder ((after_events no_progress events).state.held byte))) [
            | inl holds ↦ absurd (let found = sound.none byte holds in outside found.0 found.1 found.2)
            | inr none ↦ none
          ] in
          holders_of-is (after_events no_progress events).state.held byte ((after_events no_progress events).state.held byte) refl
          ∙ ap (λ (b : Bool). if b then 1 else 0) none;
    }
