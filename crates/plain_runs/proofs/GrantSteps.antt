-- The step that grants an object, and the one that takes it back.
use Prim.Native.Nat.{zero, suc}
use Rattle.std.proofs.Common.{◌≡◌, ℕ, ◌+◌, ◌-◌, ◌*◌, ◌/◌, ◌<◌, ◌≤◌, true, List, [], ◌∷◌, length, Some, None, refl, sym, ◌∙◌, ap, arith, inl, inr, subst, length-set}
use Rattle.std.proofs.Math.Nat.{mul-le-mul_right}
use Rattle.std.specs.Prelude.{Contains, slice_get, slice_set}
use Rattle.std.specs.declared.option.Option.{Option}
use Rattle.std.proofs.lemmas.Option.{slice_get_past, slice_get_within}
use Rattle.pool_types.specs.declared.values.Region.{Region}
use Rattle.part_model.specs.declared.holders.Holder.{Holder}
use Rattle.part_model.specs.declared.holders.Holder.TheVariants.{Rest, Private, Object}
use Rattle.part_model.specs.declared.moves.Part.{Part}
use Rattle.part_model.specs.Lawful.{is_lawful_pair}
use Rattle.part_model.proofs.CallerLemmas.{lies_in-parts}
use Rattle.size_classes.specs.Classes.{class_size, class_objects}
use Rattle.size_classes.specs.Layout.{head_bytes}
use Rattle.machine.specs.States.{State, fixed_terms}
use Rattle.machine.specs.Ranges.{part_of, behind_object}
use Rattle.machine.specs.Journal.{after_turn}
use Rattle.machine.specs.Lawful.{IsLawful, IsHighestRest, rest_granted, private_granted, object_freed}
use Rattle.machine.proofs.CallerLemmas.{one_whole}
use Rattle.plain_lists.specs.Lists.{OwnSlab, given, next_object, taken_back}
use Rattle.plain_lists.specs.Whole.{grant_of, got}
use Rattle.plain_lists.specs.Good.{IsGoodSlab}
use Rattle.plain_lists.proofs.Slabs.{CanGive, given-private, given-next, next_object-private, next_object-next, private_listed, given_next, given_other}
use Rattle.list_laws.proofs.Gets.{slice_get-set_same, slice_get-set_other}
use Rattle.plain_runs.specs.Steps.{slab_of, grant_step, giver, free_step}
use Rattle.plain_runs.proofs.Layouts.{OfSlab, Layout, held_as, object_with, laid, IsLaid, Knows, some_bytes, object_with-has, slab_holder-behind}
use Rattle.plain_runs.proofs.Moves.{IsMade}
use Rattle.plain_runs.proofs.ObjectSteps.{with_objects, own_range, on_slab, held_by-in, object_there, moved_object, knows_changed, object_whole}
use Rattle.plain_runs.proofs.EndSteps.{handed_out}

-- the slab that gave, in its index, its class and its lists
pub given_form : (slab : OwnSlab) (number : ℕ) → given slab number ≡ with_objects slab (given slab number).objects (given slab number).private
given_form slab number = go slab.private refl
  where
    go : (private : List ℕ) → slab.private ≡ private → given slab number ≡ with_objects slab (given slab number).objects (given slab number).private
    go [] is = subst (λ (g : OwnSlab). g ≡ with_objects slab g.objects g.private) (sym (given-next slab number is)) refl
    go (object ∷ private) is = subst (λ (g : OwnSlab). g ≡ with_objects slab g.objects g.private) (sym (given-private slab number object private is)) refl

-- an object goes from one state to another, in one part
abbrev pub object_part : OwnSlab → ℕ → Option Holder → Option Holder → Part
object_part slab object from to = part_of (own_range slab object) from to

-- what lies behind the first object of the rest is no rest
pub highest_rest : (state : State) (layout : Layout) (region : Option Region) (granted : ℕ) (slab : OwnSlab) → IsLaid layout slab → Knows state layout region granted →
    IsHighestRest state (slab_of slab.index slab.class) (length slab.objects)
highest_rest state layout region granted slab laid_slab knows byte inside rest =
    let parts = lies_in-parts byte (behind_object (slab_of slab.index slab.class) (length slab.objects)) inside in
    let low = parts.from in
    let high = parts.below in
    let most : length slab.objects * class_size slab.class ≤ 16256 = some_bytes slab.class (length slab.objects) laid_slab.few in
    let behind : head_bytes slab.class ≤ byte.offset - 8192 * slab.index = behind_head laid_slab.few (omega arith) in
    let has = object_with-has slab.class (byte.offset - 8192 * slab.index) laid_slab.class_is behind (omega arith) in
    let out = handed_out slab (byte.offset - 8192 * slab.index) has laid_slab.few (omega arith) in
    let at = held_by-in layout byte (OfSlab slab) parts.region (laid_slab.whole (byte.offset / 8192) (on_slab slab.index (byte.offset / 8192) (omega arith) (omega arith))) in
    no_rest (slice_get slab.objects (object_with slab.class (byte.offset - 8192 * slab.index))) refl out
    (sym (slab_holder-behind slab (byte.offset - 8192 * slab.index) behind) ∙ sym at ∙ sym (knows.held_is byte) ∙ rest)
  where
    behind_head : length slab.objects ≤ class_objects slab.class → 16384 - length slab.objects * class_size slab.class ≤ byte.offset - 8192 * slab.index → head_bytes slab.class ≤ byte.offset - 8192 * slab.index
    behind_head few least =
        let more : length slab.objects * class_size slab.class ≤ class_objects slab.class * class_size slab.class = mul-le-mul_right (class_size slab.class) few in
        omega arith

    no_rest : (got : Option (Option ℕ)) → slice_get slab.objects (object_with slab.class (byte.offset - 8192 * slab.index)) ≡ got →
        object_with slab.class (byte.offset - 8192 * slab.index) < length slab.objects → held_as got ≡ Some Rest → ⊥
    no_rest None is out e =
        let there = slice_some slab.objects (object_with slab.class (byte.offset - 8192 * slab.index)) out in
        let clash : None ≡ Some there.0 = sym is ∙ there.1 in cc
      where
        slice_some : (xs : List (Option ℕ)) (i : ℕ) → i < length xs → (x : Option ℕ) × (slice_get xs i ≡ Some x)
        slice_some [] i below = absurd (omega arith)
        slice_some (x ∷ xs) zero below = (x, refl)
        slice_some (x ∷ xs) (suc i) below = slice_some xs i (omega arith)
    no_rest (Some None) is out e = absurd (cc)
    no_rest (Some (Some number)) is out e = absurd (cc)

-- the next object is there, and its grant is lawful
pub record CanGrant (state : State) (slab : OwnSlab) (number : ℕ) (from : Holder) : Type 0 where
  pub exists : next_object slab < class_objects slab.class
  pub is : held_as (slice_get slab.objects (next_object slab)) ≡ Some from
  pub lawful : IsLawful fixed_terms state 0 (object_part slab (next_object slab) (Some from) (Some (Object (grant_of number))) ∷ []) [] None
  pub pair : is_lawful_pair 0 (Some from) (Some (Object (grant_of number))) ≡ true

-- what of a slab's goodness a grant needs: its first private object came back, and what is given is then held
pub record GivesNext (slab : OwnSlab) (number : ℕ) : Type 0 where
  pub can : CanGive slab
  pub first : (object : ℕ) (private : List ℕ) → slab.private ≡ object ∷ private → slice_get slab.objects object ≡ Some None
  pub next : slice_get (given slab number).objects (next_object slab) ≡ Some (Some number)

pub good_gives : (slab : OwnSlab) (number : ℕ) → IsGoodSlab slab → CanGive slab → GivesNext slab number
good_gives slab number good can = record { can = can; first = λ object private is. (private_listed slab object private good is).0; next = given_next slab number good }

pub can_grant : (state : State) (layout : Layout) (region : Option Region) (granted : ℕ) (slab : OwnSlab) → IsLaid layout slab → GivesNext slab (granted + 1) → Knows state layout region granted →
    CanGrant state slab (granted + 1) (giver slab.private)
can_grant state layout region granted slab laid_slab giving knows = go slab.private refl
  where
    booked : Contains state.book (slab_of slab.index slab.class)
    booked = knows.booked slab.index slab (laid_slab.whole slab.index (on_slab slab.index slab.index (omega arith) (omega arith)))

    go : (private : List ℕ) → slab.private ≡ private → CanGrant state slab (granted + 1) (giver private)
    go [] is =
        let next : next_object slab ≡ length slab.objects = next_object-next slab is in
        let free : length slab.objects < class_objects slab.class = elim giving.can [ inl some ↦ absurd (let none : length slab.private ≡ 0 = ap length is in omega arith) | inr free ↦ free ] in
        let P : ℕ → ℕ → Type 0 = λ object last. IsLawful fixed_terms state 0 (object_part slab object (Some Rest) (Some (Object (grant_of (last + 1)))) ∷ []) [] None in
        record {
          exists = omega arith;
          is = ap (λ object. held_as (slice_get slab.objects object)) next ∙ ap held_as (slice_get_past slab.objects (length slab.objects) (omega arith));
          lawful = subst (λ object. P object granted) (sym next) (subst (λ last. P (length slab.objects) last) knows.last_is
              (rest_granted (slab_of slab.index slab.class) (length slab.objects) (booked, refl) free (highest_rest state layout region granted slab laid_slab knows)));
          pair = refl;
        }
    go (object ∷ private) is =
        let next : next_object slab ≡ object = next_object-private slab object private is in
        let listed = giving.first object private is in
        let below : object < length slab.objects = slice_get_within slab.objects object None listed in
        let few = laid_slab.few in
        let P : ℕ → ℕ → Type 0 = λ object last. IsLawful fixed_terms state 0 (object_part slab object (Some Private) (Some (Object (grant_of (last + 1)))) ∷ []) [] None in
        record {
          exists = omega arith;
          is = ap (λ object. held_as (slice_get slab.objects object)) next ∙ ap held_as listed;
          lawful = subst (λ object. P object granted) (sym next) (subst (λ last. P object last) knows.last_is
              (private_granted (slab_of slab.index slab.class) object (booked, refl) (omega arith)));
          pair = refl;
        }

-- an object is granted
pub record Granted (state : State) (layout : Layout) (region : Option Region) (granted : ℕ) (slab : OwnSlab) : Type 0 where
  pub made : IsMade state (grant_step slab (granted + 1)).parts [] None
  pub exists : next_object slab < class_objects slab.class
  pub knows : Knows (after_turn state (grant_step slab (granted + 1))) (laid layout slab.index 2 (OfSlab (given slab (granted + 1)))) region (granted + 1)

pub object_granted : (state : State) (layout : Layout) (region : Option Region) (granted : ℕ) (slab : OwnSlab) → IsLaid layout slab → GivesNext slab (granted + 1) →
    length (given slab (granted + 1)).objects ≤ class_objects slab.class → Knows state layout region granted → Granted state layout region granted slab
object_granted state layout region granted slab laid_slab giving few knows =
    let grants = can_grant state layout region granted slab laid_slab giving knows in
    let part : Part = object_part slab (next_object slab) (Some (giver slab.private)) (Some (Object (grant_of (granted + 1)))) in
    record {
      made = record {
        whole = one_whole (object_part slab (next_object slab) (Some (giver slab.private)) (Some (Object (grant_of (granted + 1))))) (object_whole slab (next_object slab) laid_slab.class_is laid_slab.inside grants.exists);
        apart = (tt, tt);
        there = (record { lawful = grants.pair; there = λ byte inside. knows.held_is byte ∙ object_there layout slab (next_object slab) laid_slab grants.exists byte inside ∙ grants.is }, tt);
        lawful = grants.lawful;
      };
      exists = grants.exists;
      knows = subst (λ (next : OwnSlab). Knows (after_turn state (grant_step slab (granted + 1))) (laid layout slab.index 2 (OfSlab next)) region (granted + 1)) (sym (given_form slab (granted + 1)))
          (knows_changed state layout region granted (granted + 1) slab (given slab (granted + 1)).objects (given slab (granted + 1)).private
          (object_part slab (next_object slab) (Some (giver slab.private)) (Some (Object (grant_of (granted + 1)))) ∷ []) (Some (got slab.index slab.class (next_object slab) (granted + 1)))
          laid_slab few
          (moved_object layout slab (given slab (granted + 1)).objects (given slab (granted + 1)).private (next_object slab) (Some (giver slab.private)) (Some (Object (grant_of (granted + 1)))) laid_slab grants.exists
          (ap held_as giving.next) (λ other differs. given_other slab (granted + 1) other differs))
          refl (ap (λ n. n + 1) knows.last_is) knows);
    }

-- an object comes back
pub record Freed (state : State) (layout : Layout) (region : Option Region) (granted : ℕ) (slab : OwnSlab) (object number : ℕ) : Type 0 where
  pub made : IsMade state (free_step slab object number).parts [] None
  pub knows : Knows (after_turn state (free_step slab object number)) (laid layout slab.index 2 (OfSlab (taken_back slab object))) region granted

pub object_back : (state : State) (layout : Layout) (region : Option Region) (granted : ℕ) (slab : OwnSlab) (object number : ℕ) → IsLaid layout slab → slice_get slab.objects object ≡ Some (Some number) →
    Knows state layout region granted → Freed state layout region granted slab object number
object_back state layout region granted slab object number laid_slab held knows =
    let below : object < length slab.objects = slice_get_within slab.objects object (Some number) held in
    let few = laid_slab.few in
    let exists : object < class_objects slab.class = omega arith in
    record {
      made = record {
        whole = one_whole (object_part slab object (Some (Object (grant_of number))) (Some Private)) (object_whole slab object laid_slab.class_is laid_slab.inside exists);
        apart = (tt, tt);
        there = (record { lawful = refl; there = λ byte inside. knows.held_is byte ∙ object_there layout slab object laid_slab exists byte inside ∙ ap held_as held }, tt);
        lawful = object_freed (slab_of slab.index slab.class) object (grant_of number)
            (knows.booked slab.index slab (laid_slab.whole slab.index (on_slab slab.index slab.index (omega arith) (omega arith))), refl) exists;
      };
      knows = knows_changed state layout region granted granted slab (slice_set slab.objects object None) (object ∷ slab.private) (object_part slab object (Some (Object (grant_of number))) (Some Private) ∷ []) None
          laid_slab (let same = length-set slab.objects object None in omega arith)
          (moved_object layout slab (slice_set slab.objects object None) (object ∷ slab.private) object (Some (Object (grant_of number))) (Some Private) laid_slab exists
          (ap held_as (slice_get-set_same slab.objects object None below)) (λ other differs. slice_get-set_other slab.objects object other None differs))
          refl knows.last_is knows;
    }
