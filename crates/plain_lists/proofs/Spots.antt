-- The object that is held and starts at a place.
use Rattle.std.proofs.Common.{◌≡◌, ℕ, ◌-◌, ◌*◌, ◌/◌, Bool, true, false, ◌==◌, ◌&&◌, Some, None, refl, sym, ap, ◌∙◌, subst}
use Rattle.std.specs.Prelude.{Contains, find, slice_get, if◌then◌else◌}
use Rattle.std.specs.declared.option.Option.{Option}
use Rattle.std.proofs.lemmas.Bool.{and_parts, eqb-true}
use Rattle.pool_types.specs.declared.values.Place.{Place}
use Rattle.plain_lists.specs.Lists.{OwnSlab, Lists, lies_on}
use Rattle.plain_lists.specs.Whole.{Spot, object_of, spot_held, spot_of, spot_in, spot_at}
use Rattle.plain_lists.specs.Good.{IsHeld}
use Rattle.list_laws.proofs.Finds.{find-Some}
use Rattle.plain_lists.proofs.Rooms.{Some-same}

-- The spot's slab is one of the lists, and holds the spot's object under the spot's number. The place is of the one region, in the slab,
-- and so many bytes into it that the object starts there.
pub record IsSpotAt (lists : Lists) (place : Place) (spot : Spot) : Type 0 where
  pub listed : Contains lists.slabs spot.slab
  pub held : IsHeld spot.slab spot.object spot.number
  pub pool_is : place.pool ≡ 0
  pub region_is : place.region ≡ 0
  pub on_slab : lies_on spot.slab.index 2 (place.offset / 8192) ≡ true
  pub object_is : object_of spot.slab.class (place.offset - 8192 * spot.slab.index) ≡ Some spot.object

-- the spot of an object of a slab
pub spot_held-Some : (slab : OwnSlab) (object : ℕ) (got : Option (Option ℕ)) → slice_get slab.objects object ≡ got → (spot : Spot) → spot_held slab object got ≡ Some spot →
    (spot.slab ≡ slab) × (spot.object ≡ object) × IsHeld spot.slab spot.object spot.number
spot_held-Some slab object (Some (Some number)) is spot found =
    subst (λ (s : Spot). (s.slab ≡ slab) × (s.object ≡ object) × IsHeld s.slab s.object s.number) (Some-same (record { slab = slab; object = object; number = number }) spot found) (refl, refl, is)
spot_held-Some slab object (Some None) is spot found = absurd (let e = found in cc)
spot_held-Some slab object None is spot found = absurd (let e = found in cc)

pub spot_of-Some : (slab : OwnSlab) (object : Option ℕ) (spot : Spot) → spot_of slab object ≡ Some spot → (spot.slab ≡ slab) × (object ≡ Some spot.object) × IsHeld spot.slab spot.object spot.number
spot_of-Some slab (Some object) spot found =
    let (slab_is, object_is, held) = spot_held-Some slab object (slice_get slab.objects object) refl spot found in (slab_is, ap Some (sym object_is), held)
spot_of-Some slab None spot found = absurd (let e = found in cc)

-- a spot at a place
pub spot_at-Some : (lists : Lists) (place : Place) (spot : Spot) → spot_at lists place ≡ Some spot → IsSpotAt lists place spot
spot_at-Some lists place spot found = go ((place.pool == 0) && (place.region == 0)) refl found
  where
    on : OwnSlab → Bool
    on slab = lies_on slab.index 2 (place.offset / 8192)

    at_slab : (place.pool ≡ 0) × (place.region ≡ 0) → (slab : Option OwnSlab) → find on lists.slabs ≡ slab → spot_in place.offset slab ≡ Some spot → IsSpotAt lists place spot
    at_slab zeros None none found = absurd (let e = found in cc)
    at_slab zeros (Some slab) is found =
        let (listed, on_slab) = find-Some on lists.slabs slab is in
        let (slab_is, object_is, held) = spot_of-Some slab (object_of slab.class (place.offset - 8192 * slab.index)) spot found in
        record {
          listed = subst (Contains lists.slabs) (sym slab_is) listed;
          held = held;
          pool_is = zeros.0;
          region_is = zeros.1;
          on_slab = ap on slab_is ∙ on_slab;
          object_is = ap (λ (s : OwnSlab). object_of s.class (place.offset - 8192 * s.index)) slab_is ∙ object_is;
        }

    go : (b : Bool) → ((place.pool == 0) && (place.region == 0)) ≡ b → (if b then spot_in place.offset (find on lists.slabs) else None) ≡ Some spot → IsSpotAt lists place spot
    go true zeros found =
        let both = and_parts (place.pool == 0) (place.region == 0) zeros in
        at_slab (eqb-true place.pool 0 both.0, eqb-true place.region 0 both.1) (find on lists.slabs) refl found
    go false other found = absurd (let e = found in cc)
