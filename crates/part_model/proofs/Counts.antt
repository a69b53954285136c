-- Counts of bytes: of a list of stretches, and after a part.
use Rattle.std.proofs.Common.{◌≡◌, ℕ, ◌+◌, ◌-◌, ◌<◌, ◌≤◌, ◌^◌, ◌==◌, ◌&&◌, ◌||◌, Bool, true, false, List, [], ◌∷◌, ◌++◌, Some, None, All, length, get_or, take, nat_le, nat_lt, refl, ◌∙◌, ap, arith}
use Rattle.std.specs.Prelude.{if◌then◌else◌, sum_by}
use Rattle.std.specs.declared.option.Option.{Option}
use Rattle.std.proofs.lemmas.Bool.Decides.{nat_tests}
use Rattle.std.proofs.lemmas.Bool.{and_parts, eqb-true}
use Rattle.std.proofs.lemmas.List.{take_more}
use Rattle.std.proofs.lemmas.List.Elements.{All-tail}
use Rattle.std.proofs.lemmas.List.Sums.{sum_by-cons, sum_by_more_le, sum_by-le-sum_by}
use Rattle.pool_types.specs.declared.values.Place.{Place}
use Rattle.part_model.specs.declared.holders.Holder.{Holder}
use Rattle.part_model.specs.declared.holders.HolderKind.{HolderKind}
use Rattle.part_model.specs.declared.holders.HolderKind.TheVariants.{Waste as OfWaste}
use Rattle.part_model.specs.declared.moves.Range.{Range}
use Rattle.part_model.specs.declared.stretches.Stretch.{Stretch}
use Rattle.part_model.specs.Holding.{lies_in, IsWhole}
use Rattle.part_model.specs.Stretches.{holder_at, cover, AreStretches, IsSound, IsOnce, has_region, stretch_bytes}
use Rattle.part_model.specs.Totals.{is_region, bytes_held, sum_regions, place_at, region_bytes, is_at, has_holder, is_live, regions_held}
use Rattle.part_model.proofs.Sums.{sum_regions-same, sum_regions-add, sum_regions-none, sum_regions-one}
use Rattle.list_laws.specs.Sums.{sum_below}
use Rattle.list_laws.proofs.Sums.{sum_below-same, sum_below-add, sum_below-none, sum_below-span}

-- the bytes of a range in a region
pub span_bytes : (pool region : ℕ) (range : Range) (passes : Bool) → IsWhole range →
    sum_below (λ offset. if lies_in (place_at pool region offset) range then (if passes then 1 else 0) else 0) (2 ^ 64)
    ≡ (if is_region pool region range then (if passes then range.bytes else 0) else 0)
span_bytes pool region range passes whole = by_tests (is_region pool region range) passes
  where
    nothing : (b : Bool) → ◌≡◌ {A = ℕ} (if b then 0 else 0) 0
    nothing true = refl
    nothing false = refl

    by_tests : (here passes : Bool) →
        sum_below (λ offset. if here && nat_le range.place.offset offset && nat_lt offset (range.place.offset + range.bytes) then (if passes then 1 else 0) else 0) (2 ^ 64)
        ≡ (if here then (if passes then range.bytes else 0) else 0)
    by_tests true true = let span = sum_below-span range.place.offset range.bytes (2 ^ 64) in let ends = whole.ends in omega (arith, span)
    by_tests true false =
        sum_below-none (λ offset. if nat_le range.place.offset offset && nat_lt offset (range.place.offset + range.bytes) then 0 else 0) (2 ^ 64)
        (λ offset below. nothing (nat_le range.place.offset offset && nat_lt offset (range.place.offset + range.bytes)))
    by_tests false passes = sum_below-none (λ offset. 0) (2 ^ 64) (λ offset below. refl)

-- a byte that no stretch has is with nobody
pub holder_at-none : (stretches : List Stretch) (byte : Place) → cover stretches byte ≡ 0 → holder_at stretches byte ≡ None
holder_at-none [] byte none = refl
holder_at-none (stretch ∷ stretches) byte none = go (lies_in byte stretch.range) none (holder_at-none stretches byte)
  where
    go : (b : Bool) → (if b then 1 else 0) + cover stretches byte ≡ 0 → (cover stretches byte ≡ 0 → holder_at stretches byte ≡ None) → (if b then Some stretch.holder else holder_at stretches byte) ≡ None
    go true none rest = absurd (omega arith)
    go false none rest = rest (omega arith)

-- the bytes of a region that the stretches have at holders that pass
abbrev pub stretches_in : (Option Holder → Bool) → ℕ → ℕ → List Stretch → ℕ
stretches_in test pool region [] = 0
stretches_in test pool region (stretch ∷ stretches) =
    (if is_region pool region stretch.range then (if test (Some stretch.holder) then stretch.range.bytes else 0) else 0) + stretches_in test pool region stretches

pub region_bytes-stretches : (test : Option Holder → Bool) → test None ≡ false → (stretches : List Stretch) → All IsSound stretches → IsOnce stretches → (pool region : ℕ) →
    region_bytes test (holder_at stretches) pool region ≡ stretches_in test pool region stretches
unfolding region_bytes
region_bytes-stretches test none [] sound once pool region =
    sum_below-none (λ offset. if test None then 1 else 0) (2 ^ 64) (λ offset below. ap (λ (b : Bool). if b then 1 else 0) none)
region_bytes-stretches test none (stretch ∷ stretches) sound once pool region =
    let first : IsSound stretch = sound 0 stretch (omega arith) in
    let span = span_bytes pool region stretch.range (test (Some stretch.holder)) first.whole in
    let rest = region_bytes-stretches test none stretches (All-tail IsSound stretch stretches sound) (λ byte. let all = once byte in omega arith) pool region in
    sum_below-same (λ offset. if test (holder_at (stretch ∷ stretches) (place_at pool region offset)) then 1 else 0)
    (λ offset. (if lies_in (place_at pool region offset) stretch.range then (if test (Some stretch.holder) then 1 else 0) else 0) + (if test (holder_at stretches (place_at pool region offset)) then 1 else 0)) (2 ^ 64)
    (λ offset below. split (lies_in (place_at pool region offset) stretch.range) (holder_at stretches (place_at pool region offset)) (λ inside. holder_at-none stretches (place_at pool region offset) (alone (place_at pool region offset) inside)))
    ∙ sum_below-add (λ offset. if lies_in (place_at pool region offset) stretch.range then (if test (Some stretch.holder) then 1 else 0) else 0) (λ offset. if test (holder_at stretches (place_at pool region offset)) then 1 else 0) (2 ^ 64)
    ∙ (let sum = rest in omega (arith, span, sum))
  where
    one_of : (b : Bool) (others : ℕ) → b ≡ true → (if b then 1 else 0) + others ≤ 1 → others ≡ 0
    one_of true others inside once = omega arith
    one_of false others inside once = absurd (let e = inside in cc)

    alone : (byte : Place) → lies_in byte stretch.range ≡ true → cover stretches byte ≡ 0
    alone byte inside = one_of (lies_in byte stretch.range) (cover stretches byte) inside (once byte)

    nobody : (holder : Option Holder) → holder ≡ None → ◌≡◌ {A = ℕ} (if test holder then 1 else 0) 0
    nobody holder e = ap (λ h. if test h then 1 else 0) e ∙ ap (λ (b : Bool). if b then 1 else 0) none

    split : (b : Bool) (holder : Option Holder) → (b ≡ true → holder ≡ None) →
        ◌≡◌ {A = ℕ} (if test (if b then Some stretch.holder else holder) then 1 else 0) ((if b then (if test (Some stretch.holder) then 1 else 0) else 0) + (if test holder then 1 else 0))
    split true holder e = let zero_is = nobody holder (e refl) in omega arith
    split false holder e = omega arith

-- over all regions
pub sum_regions-stretches : (test : Option Holder → Bool) (stretches : List Stretch) → All IsSound stretches →
    sum_regions (λ pool region. stretches_in test pool region stretches) ≡ sum_by (λ stretch. if test (Some stretch.holder) then stretch.range.bytes else 0) stretches
sum_regions-stretches test [] sound = sum_regions-none (λ pool region. 0) (λ pool region. refl)
sum_regions-stretches test (stretch ∷ stretches) sound =
    let first : IsSound stretch = sound 0 stretch (omega arith) in
    let one = sum_regions-one (if test (Some stretch.holder) then stretch.range.bytes else 0) stretch.range.place.pool stretch.range.place.region first.pool first.region in
    let rest = sum_regions-stretches test stretches (All-tail IsSound stretch stretches sound) in
    sum_regions-add (λ pool region. if is_region pool region stretch.range then (if test (Some stretch.holder) then stretch.range.bytes else 0) else 0) (λ pool region. stretches_in test pool region stretches)
    ∙ (let cons = sum_by-cons (λ (r : Stretch). if test (Some r.holder) then r.range.bytes else 0) stretch stretches in omega (arith, one, rest, cons))

-- what a partition's stretches have at holders that pass
pub bytes-stretches : (test : Option Holder → Bool) → test None ≡ false → (stretches : List Stretch) → AreStretches stretches →
    sum_regions (region_bytes test (holder_at stretches)) ≡ sum_by (λ stretch. if test (Some stretch.holder) then stretch.range.bytes else 0) stretches
bytes-stretches test none stretches are =
    sum_regions-same (region_bytes test (holder_at stretches)) (λ pool region. stretches_in test pool region stretches) (λ pool region in_pool in_region. region_bytes-stretches test none stretches are.sound are.once pool region)
    ∙ sum_regions-stretches test stretches are.sound

-- a kind has nobody's bytes not
pub is_at-none : (kind : HolderKind) → is_at kind None ≡ false
is_at-none OfWaste = refl
is_at-none kind = refl

-- a region is live exactly where a stretch is of it
pub is_live-stretches : (stretches : List Stretch) → AreStretches stretches → (pool region : ℕ) → is_live (holder_at stretches) pool region ≡ has_region stretches pool region
is_live-stretches stretches are pool region =
    ap (λ n. nat_lt 0 n) (region_bytes-stretches has_holder refl stretches are.sound are.once pool region) ∙ any stretches are.sound
  where
    later : (b : Bool) (bytes others : ℕ) (seen : Bool) → 0 < bytes → nat_lt 0 others ≡ seen → nat_lt 0 ((if b then bytes else 0) + others) ≡ (b || seen)
    later true bytes others seen some same = grind (arith, nat_tests)
    later false bytes others seen some same = ap (λ n. nat_lt 0 n) (let e : 0 + others ≡ others = omega arith in e) ∙ same

    any : (xs : List Stretch) → All IsSound xs → nat_lt 0 (stretches_in has_holder pool region xs) ≡ has_region xs pool region
    any [] sound = refl
    any (stretch ∷ xs) sound =
        let first : IsSound stretch = sound 0 stretch (omega arith) in
        later (is_region pool region stretch.range) stretch.range.bytes (stretches_in has_holder pool region xs) (has_region xs pool region) first.whole.some (any xs (All-tail IsSound stretch xs sound))

-- the regions that a list of stretches has
abbrev pub regions_of : List Stretch → ℕ
regions_of stretches = sum_regions (λ pool region. if has_region stretches pool region then 1 else 0)

pub regions_held-stretches : (stretches : List Stretch) → AreStretches stretches → regions_held (holder_at stretches) ≡ regions_of stretches
regions_held-stretches stretches are =
    sum_regions-same (λ pool region. if is_live (holder_at stretches) pool region then 1 else 0) (λ pool region. if has_region stretches pool region then 1 else 0)
    (λ pool region in_pool in_region. ap (λ (b : Bool). if b then 1 else 0) (is_live-stretches stretches are pool region))

pub has_region-append : (xs ys : List Stretch) (pool region : ℕ) → has_region (xs ++ ys) pool region ≡ (has_region xs pool region || has_region ys pool region)
has_region-append [] ys pool region = refl
has_region-append (x ∷ xs) ys pool region = joined (is_region pool region x.range) (has_region-append xs ys pool region)
  where
    joined : (b : Bool) → has_region (xs ++ ys) pool region ≡ (has_region xs pool region || has_region ys pool region) →
        (b || has_region (xs ++ ys) pool region) ≡ ((b || has_region xs pool region) || has_region ys pool region)
    joined true e = refl
    joined false e = e

-- one stretch more is one region more where its region has no stretch yet
pub regions_more : (stretches : List Stretch) (i : ℕ) (d : Stretch) (seen : Bool) → seen ≡ has_region (take i stretches) (get_or stretches i d).range.place.pool (get_or stretches i d).range.place.region →
    i < length stretches → All IsSound stretches → regions_of (take (i + 1) stretches) ≡ regions_of (take i stretches) + (if seen then 0 else 1)
regions_more stretches i d seen seen_is below all =
    let sound : IsSound (get_or stretches i d) = all i d below in
    sum_regions-same (λ pool region. if has_region (take (i + 1) stretches) pool region then 1 else 0)
    (λ pool region. (if has_region (take i stretches) pool region then 1 else 0) + (if is_region pool region (get_or stretches i d).range then added else 0))
    (λ pool region in_pool in_region.
    ap (λ xs. if has_region xs pool region then 1 else 0) (take_more stretches i d below)
    ∙ ap (λ (b : Bool). if b then 1 else 0) (has_region-append (take i stretches) (get_or stretches i d ∷ []) pool region)
    ∙ by_tests (is_region pool region (get_or stretches i d).range) (has_region (take i stretches) pool region) (λ here.
    let both = and_parts (pool == (get_or stretches i d).range.place.pool) (region == (get_or stretches i d).range.place.region) here in
    ap (λ p. if has_region (take i stretches) p region then 0 else 1) (eqb-true pool (get_or stretches i d).range.place.pool both.0)
    ∙ ap (λ r. if has_region (take i stretches) (get_or stretches i d).range.place.pool r then 0 else 1) (eqb-true region (get_or stretches i d).range.place.region both.1)))
    ∙ sum_regions-add (λ pool region. if has_region (take i stretches) pool region then 1 else 0) (λ pool region. if is_region pool region (get_or stretches i d).range then added else 0)
    ∙ (let one = sum_regions-one added (get_or stretches i d).range.place.pool (get_or stretches i d).range.place.region sound.pool sound.region in let same = ap {B = ℕ} (λ (b : Bool). if b then 0 else 1) seen_is in omega (arith, one, same))
  where
    added : ℕ
    added = if has_region (take i stretches) (get_or stretches i d).range.place.pool (get_or stretches i d).range.place.region then 0 else 1

    by_tests : (here seen : Bool) → (here ≡ true → ◌≡◌ {A = ℕ} (if seen then 0 else 1) added) → ◌≡◌ {A = ℕ} (if seen || (here || false) then 1 else 0) ((if seen then 1 else 0) + (if here then added else 0))
    by_tests true true same = let e = same refl in omega arith
    by_tests true false same = let e = same refl in omega arith
    by_tests false true same = omega arith
    by_tests false false same = omega arith

-- the bytes of the stretches of a kind, one more, are among all bytes
pub kind_fits : (kind : HolderKind) (stretches : List Stretch) (i : ℕ) (d : Stretch) → i < length stretches → is_at kind (Some (get_or stretches i d).holder) ≡ true →
    sum_by (λ stretch. if is_at kind (Some stretch.holder) then stretch.range.bytes else 0) (take i stretches) + (get_or stretches i d).range.bytes ≤ stretch_bytes stretches
kind_fits kind stretches i d below at =
    let bytes : Stretch → ℕ = λ stretch. if is_at kind (Some stretch.holder) then stretch.range.bytes else 0 in
    let here : bytes (get_or stretches i d) ≡ (get_or stretches i d).range.bytes = ap (λ (b : Bool). if b then (get_or stretches i d).range.bytes else 0) at in
    let part : sum_by bytes (take i stretches) + bytes (get_or stretches i d) ≤ sum_by bytes stretches = sum_by_more_le bytes stretches i d below in
    let all : sum_by bytes stretches ≤ stretch_bytes stretches = sum_by-le-sum_by bytes (λ stretch. stretch.range.bytes) stretches (λ stretch. at_most (is_at kind (Some stretch.holder)) stretch.range.bytes) in
    omega (arith, here, part, all)
  where
    at_most : (b : Bool) (n : ℕ) → (if b then n else 0) ≤ n
    at_most true n = omega arith
    at_most false n = omega arith

-- no stretch, no region
pub regions_of-none : regions_of [] ≡ 0
regions_of-none = sum_regions-none (λ pool region. 0) (λ pool region. refl)

-- where one more stretch's bytes don't fit, the whole doesn't
pub too_many : (stretches : List Stretch) (i : ℕ) (d : Stretch) (bytes : ℕ) → AreStretches stretches → i < length stretches → bytes ≡ stretch_bytes (take i stretches) →
    (bytes + (get_or stretches i d).range.bytes < 2 ^ 64 → ⊥) → bytes_held (holder_at stretches) ≤ 2 ^ 64 - 1 → ⊥
too_many stretches i d bytes are below so_far over few =
    let all = bytes-stretches has_holder refl stretches are in
    let more = sum_by_more_le (λ (stretch : Stretch). stretch.range.bytes) stretches i d below in
    over (omega (arith, all, more, so_far, few))
