-- The bytes that have a holder are those of the live regions.
use Rattle.std.proofs.Common.{◌≡◌, ℕ, ◌+◌, ◌-◌, ◌*◌, ◌≤◌, inl, inr, List, [], ◌∷◌, ◌++◌, Bool, true, false, ◌&&◌, ◌||◌, not, nat_le, nat_lt, refl, sym, ◌∙◌, ap, arith}
use Rattle.std.specs.Prelude.{if◌then◌else◌, ◌==◌}
use Rattle.std.specs.declared.option.Option.{Option}
use Rattle.std.proofs.lemmas.Bool.Decides.{nat_tests}
use Rattle.std.proofs.lemmas.Bool.{cases_Bool, eqb-true}
use Rattle.std.proofs.Math.Bool.{or-false, or_assoc}
use Rattle.pool_types.specs.declared.values.Place.{Place}
use Rattle.pool_types.specs.declared.policy.RegionRec.{RegionRec}
use Rattle.part_model.specs.declared.holders.Holder.{Holder}
use Rattle.part_model.specs.declared.moves.Range.{Range}
use Rattle.part_model.specs.declared.moves.Part.{Part}
use Rattle.part_model.specs.Holding.{Holding, same_region, lies_in, after_part, after_parts, AreApart, CanMoveAll}
use Rattle.part_model.specs.Totals.{has_holder}
use Rattle.part_model.proofs.CallerLemmas.{lies_in_any, after_part-inside, after_part-outside, can_move-after_part, lies_in-parts}
use Rattle.machine.specs.Ranges.{Each, part_of, region_range}
use Rattle.machine.specs.Regions.{some_part, front_range, granules_range, back_range}
use Rattle.machine.proofs.Shapes.{Stays}

-- a move within the pool leaves which bytes have a holder
pub stays_held : (seat : ℕ) (held : Holding) (parts : List Part) (byte : Place) → Each Stays parts → AreApart parts → CanMoveAll seat held parts →
    has_holder (after_parts held parts byte) ≡ has_holder (held byte)
stays_held seat held [] byte stays apart can = refl
stays_held seat held (part ∷ parts) byte (stay, stays) (first, apart) (can, can_rest) =
    stays_held seat (after_part held part) parts byte stays apart (can_move-after_part seat held part parts first can_rest)
    ∙ elim (cases_Bool (lies_in byte part.range)) [
      | inl inside ↦ ap has_holder (after_part-inside held part byte inside) ∙ stay.1 ∙ sym stay.0 ∙ sym (ap has_holder (can.there byte inside))
      | inr outside ↦ ap has_holder (after_part-outside held part byte outside)
    ]

-- the part brings bytes into the pool, or takes them out
abbrev pub Brings : Part → Type 0
Brings part = has_holder part.to ≡ true

abbrev pub Takes : Part → Type 0
Takes part = has_holder part.to ≡ false

-- which bytes have a holder after parts that bring, and after parts that take
pub brings_held : (held : Holding) (parts : List Part) (byte : Place) → Each Brings parts →
    has_holder (after_parts held parts byte) ≡ (has_holder (held byte) || lies_in_any byte parts)
brings_held held [] byte all = by_test (has_holder (held byte))
  where
    by_test : (b : Bool) → b ≡ (b || false)
    by_test true = refl
    by_test false = refl
brings_held held (part ∷ parts) byte (brings, all) =
    brings_held (after_part held part) parts byte all ∙ by_test (lies_in byte part.range) part.to brings
  where
    by_test : (b : Bool) (to : Option Holder) → has_holder to ≡ true →
        (has_holder (if b then to else held byte) || lies_in_any byte parts) ≡ (has_holder (held byte) || (b || lies_in_any byte parts))
    by_test false to some = refl
    by_test true to some = ap (λ x. x || lies_in_any byte parts) some ∙ any (has_holder (held byte))
      where
        any : (b : Bool) → true ≡ (b || true)
        any true = refl
        any false = refl

pub takes_held : (held : Holding) (parts : List Part) (byte : Place) → Each Takes parts →
    has_holder (after_parts held parts byte) ≡ (has_holder (held byte) && not (lies_in_any byte parts))
takes_held held [] byte all = by_test (has_holder (held byte))
  where
    by_test : (b : Bool) → b ≡ (b && true)
    by_test true = refl
    by_test false = refl
takes_held held (part ∷ parts) byte (takes, all) =
    takes_held (after_part held part) parts byte all ∙ by_test (lies_in byte part.range) part.to takes
  where
    by_test : (b : Bool) (to : Option Holder) → has_holder to ≡ false →
        (has_holder (if b then to else held byte) && not (lies_in_any byte parts)) ≡ (has_holder (held byte) && not (b || lies_in_any byte parts))
    by_test false to none = refl
    by_test true to none = ap (λ x. x && not (lies_in_any byte parts)) none ∙ nothing (has_holder (held byte))
      where
        nothing : (b : Bool) → false ≡ (b && false)
        nothing true = refl
        nothing false = refl

-- which bytes lie in a part that may be none, and in two lists of parts
pub lies_in_any-some_part : (range : Range) (from to : Option Holder) (byte : Place) → lies_in_any byte (some_part range from to) ≡ lies_in byte range
lies_in_any-some_part range from to byte =
    elim (cases_Bool (range.bytes == 0)) [
      | inl none ↦ ap (λ (b : Bool). lies_in_any byte (if b then [] else part_of range from to ∷ [])) none ∙ sym (empty (eqb-true range.bytes 0 none))
      | inr some ↦ ap (λ (b : Bool). lies_in_any byte (if b then [] else part_of range from to ∷ [])) some ∙ or-false (lies_in byte range)
    ]
  where
    empty : range.bytes ≡ 0 → lies_in byte range ≡ false
    empty none = elim (cases_Bool (lies_in byte range)) [
      | inl inside ↦ absurd (let lies = lies_in-parts byte range inside in let above = lies.from in let below = lies.below in omega arith)
      | inr outside ↦ outside
    ]

pub lies_in_any-append : (one other : List Part) (byte : Place) → lies_in_any byte (one ++ other) ≡ (lies_in_any byte one || lies_in_any byte other)
lies_in_any-append [] other byte = refl
lies_in_any-append (part ∷ parts) other byte = joined (lies_in byte part.range) (lies_in_any-append parts other byte)
  where
    joined : (b : Bool) → lies_in_any byte (parts ++ other) ≡ (lies_in_any byte parts || lies_in_any byte other) →
        (b || lies_in_any byte (parts ++ other)) ≡ ((b || lies_in_any byte parts) || lies_in_any byte other)
    joined true e = refl
    joined false e = e

-- all bytes of a region
abbrev pub whole : ℕ → RegionRec → Range
whole pool region = region_range pool region 0 region.region.bytes

-- the three ranges of a region are all its bytes
pub lies_in-three : (pool : ℕ) (region : RegionRec) (byte : Place) → region.waste + region.granules * 8192 ≤ region.region.bytes →
    (lies_in byte (front_range pool region) || (lies_in byte (granules_range pool region) || lies_in byte (back_range pool region))) ≡ lies_in byte (whole pool region)
lies_in-three pool region byte inside =
    go (same_region byte (region_range pool region 0 0).place) byte.offset region.waste (region.granules * 8192) region.region.bytes inside
  where
    go : (s : Bool) (o w g b : ℕ) → w + g ≤ b →
        ((s && nat_le 0 o && nat_lt o (0 + w)) || ((s && nat_le w o && nat_lt o (w + g)) || (s && nat_le (w + g) o && nat_lt o (w + g + (b - (w + g))))))
        ≡ (s && nat_le 0 o && nat_lt o (0 + b))
    go false o w g b le = refl
    go true o w g b le = grind (arith, nat_tests)

pub lies_in_any-three : (pool : ℕ) (region : RegionRec) (outer outer' inner inner' : Option Holder) (byte : Place) → region.waste + region.granules * 8192 ≤ region.region.bytes →
    lies_in_any byte (some_part (front_range pool region) outer outer' ++ some_part (granules_range pool region) inner inner' ++ some_part (back_range pool region) outer outer')
    ≡ lies_in byte (whole pool region)
lies_in_any-three pool region outer outer' inner inner' byte inside =
    lies_in_any-append (some_part (front_range pool region) outer outer' ++ some_part (granules_range pool region) inner inner') (some_part (back_range pool region) outer outer') byte
    ∙ ap (λ b. b || lies_in_any byte (some_part (back_range pool region) outer outer')) (lies_in_any-append (some_part (front_range pool region) outer outer') (some_part (granules_range pool region) inner inner') byte)
    ∙ ap (λ b. (lies_in_any byte (some_part (front_range pool region) outer outer') || lies_in_any byte (some_part (granules_range pool region) inner inner')) || b) (lies_in_any-some_part (back_range pool region) outer outer' byte)
    ∙ ap (λ b. (lies_in_any byte (some_part (front_range pool region) outer outer') || b) || lies_in byte (back_range pool region)) (lies_in_any-some_part (granules_range pool region) inner inner' byte)
    ∙ ap (λ b. (b || lies_in byte (granules_range pool region)) || lies_in byte (back_range pool region)) (lies_in_any-some_part (front_range pool region) outer outer' byte)
    ∙ or_assoc (lies_in byte (front_range pool region)) (lies_in byte (granules_range pool region)) (lies_in byte (back_range pool region))
    ∙ lies_in-three pool region byte inside
