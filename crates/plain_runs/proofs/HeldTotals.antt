-- The totals of the partition are those of the lists.
use Rattle.std.proofs.Common.{◌≡◌, ℕ, ◌+◌, ◌-◌, ◌*◌, ◌/◌, ◌^◌, ◌<◌, ◌≤◌, Bool, true, false, ◌&&◌, nat_le, nat_lt, List, [], ◌∷◌, length, Some, None, refl, sym, ◌∙◌, ap, arith, inl, inr, lit<, lit≤}
use Rattle.std.specs.Prelude.{if◌then◌else◌, sum_by, slice_get, ◌==◌, is_some}
use Rattle.std.specs.declared.option.Option.{Option}
use Rattle.std.proofs.lemmas.Bool.{cases_Bool, cases_lt, and_parts, and_from, eqb-true, lt-ltb, le-leb, le-ltb, false_from_ne_true}
use Rattle.std.proofs.lemmas.List.Sums.{sum_by-cons}
use Rattle.pool_types.specs.declared.values.Place.{Place}
use Rattle.pool_types.specs.declared.values.Grant.{Grant}
use Rattle.pool_types.specs.declared.values.Region.{Region}
use Rattle.part_model.specs.declared.holders.Holder.{Holder}
use Rattle.part_model.specs.declared.holders.Holder.TheVariants.{Head, Rest, Private, Object, SlabCache, Bin}
use Rattle.part_model.specs.declared.holders.HolderKind.TheVariants.{Waste as OfWaste, Head as OfHead, Rest as OfRest, Private as OfPrivate, Public as OfPublic, Object as OfObject, LargeHead as OfLargeHead, SlabCache as OfSlabCache, Cached as OfCached, Bin as OfBin, Queue as OfQueue, Hand as OfHand}
use Rattle.part_model.specs.declared.totals.Totals.{Totals}
use Rattle.part_model.specs.Holding.{Holding, same_region}
use Rattle.part_model.specs.Totals.{no_totals, is_at, has_holder, is_live, sum_regions, region_bytes, regions_held, place_at, totals_of}
use Rattle.part_model.proofs.CallerLemmas.{sum_regions-same, sum_regions-none, sum_regions-one}
use Rattle.size_classes.specs.Classes.{class_size, class_objects}
use Rattle.size_classes.specs.Layout.{head_bytes}
use Rattle.machine.specs.States.{State}
use Rattle.plain_lists.specs.Lists.{OwnSlab, Block, Lists, lies_on}
use Rattle.plain_lists.specs.Whole.{grant_of}
use Rattle.plain_lists.specs.Good.{has_granule}
use Rattle.plain_lists.specs.Held.{totals_in, totals_at, slab_head, slab_rest, slab_private, slab_object, block_bytes}
use Rattle.list_laws.proofs.Sums.{sum_below-same, sum_below-none, sum_by-same, sum_by-none, sum_below-const, sum_below-shifted}
use Rattle.list_laws.proofs.Counts.{count-none}
use Rattle.plain_runs.specs.Steps.{at_offset}
use Rattle.plain_runs.proofs.Layouts.{Use, Away, InBin, InCache, OfSlab, held_as, object_with, slab_holder, holder_in, slab_holder-head, slab_holder-behind}
use Rattle.plain_runs.proofs.Moves.{plain_no_slab}
use Rattle.plain_runs.proofs.ObjectSteps.{held_by-in, held_by-out}
use Rattle.plain_runs.proofs.LaidOut.{Holds, UseOf, none_has, slab_has, stored_has, block_has, use_of}
use Rattle.plain_runs.proofs.ByteCounts.{counted, slab_weight, lists_weight, region_weighs, all_weigh, other_region}

-- totals by their counts
abbrev pub totals_by : ℕ → ℕ → ℕ → ℕ → ℕ → ℕ → ℕ → ℕ → ℕ → ℕ → ℕ → ℕ → ℕ → ℕ → Totals
totals_by regions bytes waste head rest private public object large_head slab_cache cached bin queue hand = record { regions = regions; bytes = bytes; waste = waste; head = head; rest = rest; private = private; public = public; object = object; large_head = large_head; slab_cache = slab_cache; cached = cached; bin = bin; queue = queue; hand = hand }

pub totals_same : (one other : Totals) → one.regions ≡ other.regions → one.bytes ≡ other.bytes → one.waste ≡ other.waste → one.head ≡ other.head → one.rest ≡ other.rest → one.private ≡ other.private → one.public ≡ other.public → one.object ≡ other.object → one.large_head ≡ other.large_head → one.slab_cache ≡ other.slab_cache → one.cached ≡ other.cached → one.bin ≡ other.bin → one.queue ≡ other.queue → one.hand ≡ other.hand → one ≡ other
totals_same one other same_regions same_bytes same_waste same_head same_rest same_private same_public same_object same_large_head same_slab_cache same_cached same_bin same_queue same_hand =
    ap (λ n. totals_by n one.bytes one.waste one.head one.rest one.private one.public one.object one.large_head one.slab_cache one.cached one.bin one.queue one.hand) same_regions
    ∙ ap (λ n. totals_by other.regions n one.waste one.head one.rest one.private one.public one.object one.large_head one.slab_cache one.cached one.bin one.queue one.hand) same_bytes
    ∙ ap (λ n. totals_by other.regions other.bytes n one.head one.rest one.private one.public one.object one.large_head one.slab_cache one.cached one.bin one.queue one.hand) same_waste
    ∙ ap (λ n. totals_by other.regions other.bytes other.waste n one.rest one.private one.public one.object one.large_head one.slab_cache one.cached one.bin one.queue one.hand) same_head
    ∙ ap (λ n. totals_by other.regions other.bytes other.waste other.head n one.private one.public one.object one.large_head one.slab_cache one.cached one.bin one.queue one.hand) same_rest
    ∙ ap (λ n. totals_by other.regions other.bytes other.waste other.head other.rest n one.public one.object one.large_head one.slab_cache one.cached one.bin one.queue one.hand) same_private
    ∙ ap (λ n. totals_by other.regions other.bytes other.waste other.head other.rest other.private n one.object one.large_head one.slab_cache one.cached one.bin one.queue one.hand) same_public
    ∙ ap (λ n. totals_by other.regions other.bytes other.waste other.head other.rest other.private other.public n one.large_head one.slab_cache one.cached one.bin one.queue one.hand) same_object
    ∙ ap (λ n. totals_by other.regions other.bytes other.waste other.head other.rest other.private other.public other.object n one.slab_cache one.cached one.bin one.queue one.hand) same_large_head
    ∙ ap (λ n. totals_by other.regions other.bytes other.waste other.head other.rest other.private other.public other.object other.large_head n one.cached one.bin one.queue one.hand) same_slab_cache
    ∙ ap (λ n. totals_by other.regions other.bytes other.waste other.head other.rest other.private other.public other.object other.large_head other.slab_cache n one.bin one.queue one.hand) same_cached
    ∙ ap (λ n. totals_by other.regions other.bytes other.waste other.head other.rest other.private other.public other.object other.large_head other.slab_cache other.cached n one.queue one.hand) same_bin
    ∙ ap (λ n. totals_by other.regions other.bytes other.waste other.head other.rest other.private other.public other.object other.large_head other.slab_cache other.cached other.bin n one.hand) same_queue
    ∙ ap (λ n. totals_by other.regions other.bytes other.waste other.head other.rest other.private other.public other.object other.large_head other.slab_cache other.cached other.bin other.queue n) same_hand

-- all bytes that pass a test
pub test_weighs : (test : Option Holder → Bool) → test None ≡ false → ((one other : Grant) → test (Some (Object one)) ≡ test (Some (Object other))) → (state : State) (lists : Lists) → Holds state lists →
    sum_regions (region_bytes test state.held)
    ≡ lists_weight (counted test (Some Head)) (counted test (Some Rest)) (counted test (Some Private)) (counted test (Some (Object (grant_of 0)))) (counted test (Some (SlabCache 0))) (counted test (Some Bin)) lists
test_weighs test none same state lists holds = all_weigh test none state lists holds ∙ region_weighs test none same state lists holds

-- one weight of a slab
weight_none : (h a b c z : ℕ) → h * 0 + (a * 0 + (b * 0 + c * 0)) * z ≡ 0
weight_none h a b c z = grind arith

weight_head : (h a b c z : ℕ) → h * 1 + (a * 0 + (b * 0 + c * 0)) * z ≡ h
weight_head h a b c z = grind arith

weight_rest : (h a b c z : ℕ) → h * 0 + (a * 1 + (b * 0 + c * 0)) * z ≡ a * z
weight_rest h a b c z = grind arith

weight_private : (h a b c z : ℕ) → h * 0 + (a * 0 + (b * 1 + c * 0)) * z ≡ b * z
weight_private h a b c z = grind arith

weight_object : (h a b c z : ℕ) → h * 0 + (a * 0 + (b * 0 + c * 1)) * z ≡ c * z
weight_object h a b c z = grind arith

-- members of no weight
slabs_none : (slabs : List OwnSlab) → sum_by (slab_weight 0 0 0 0) slabs ≡ 0
slabs_none slabs = sum_by-none (slab_weight 0 0 0 0) slabs
    (λ slab member. weight_none (head_bytes slab.class) (class_objects slab.class - length slab.objects) (length slab.private) (length slab.objects - length slab.private) (class_size slab.class))

stored_none : (stored : List ℕ) → sum_by (λ index. 16384 * 0) stored ≡ 0
stored_none stored = sum_by-none (λ index. 16384 * 0) stored (λ index member. refl)

blocks_none : (blocks : List Block) → sum_by (λ (block : Block). 8192 * block.granules * 0) blocks ≡ 0
blocks_none blocks = sum_by-none (λ (block : Block). 8192 * block.granules * 0) blocks (λ block member. nothing (8192 * block.granules))
  where
    nothing : (n : ℕ) → n * 0 ≡ 0
    nothing n = omega arith

-- what lists weigh of which one weight is 1
weighs_none : (lists : Lists) → lists_weight 0 0 0 0 0 0 lists ≡ 0
weighs_none lists = omega (arith, slabs_none lists.slabs, stored_none lists.stored, blocks_none lists.blocks)

weighs_head : (lists : Lists) → lists_weight 1 0 0 0 0 0 lists ≡ sum_by slab_head lists.slabs
weighs_head lists =
    let slabs = sum_by-same (slab_weight 1 0 0 0) slab_head lists.slabs
    (λ slab member. weight_head (head_bytes slab.class) (class_objects slab.class - length slab.objects) (length slab.private) (length slab.objects - length slab.private) (class_size slab.class)) in
    omega (arith, slabs, stored_none lists.stored, blocks_none lists.blocks)

weighs_rest : (lists : Lists) → lists_weight 0 1 0 0 0 0 lists ≡ sum_by slab_rest lists.slabs
weighs_rest lists =
    let slabs = sum_by-same (slab_weight 0 1 0 0) slab_rest lists.slabs
    (λ slab member. weight_rest (head_bytes slab.class) (class_objects slab.class - length slab.objects) (length slab.private) (length slab.objects - length slab.private) (class_size slab.class)) in
    omega (arith, slabs, stored_none lists.stored, blocks_none lists.blocks)

weighs_private : (lists : Lists) → lists_weight 0 0 1 0 0 0 lists ≡ sum_by slab_private lists.slabs
weighs_private lists =
    let slabs = sum_by-same (slab_weight 0 0 1 0) slab_private lists.slabs
    (λ slab member. weight_private (head_bytes slab.class) (class_objects slab.class - length slab.objects) (length slab.private) (length slab.objects - length slab.private) (class_size slab.class)) in
    omega (arith, slabs, stored_none lists.stored, blocks_none lists.blocks)

weighs_object : (lists : Lists) → lists_weight 0 0 0 1 0 0 lists ≡ sum_by slab_object lists.slabs
weighs_object lists =
    let slabs = sum_by-same (slab_weight 0 0 0 1) slab_object lists.slabs
    (λ slab member. weight_object (head_bytes slab.class) (class_objects slab.class - length slab.objects) (length slab.private) (length slab.objects - length slab.private) (class_size slab.class)) in
    omega (arith, slabs, stored_none lists.stored, blocks_none lists.blocks)

weighs_cache : (lists : Lists) → lists_weight 0 0 0 0 1 0 lists ≡ 16384 * length lists.stored
weighs_cache lists = omega (arith, slabs_none lists.slabs, each lists.stored, blocks_none lists.blocks)
  where
    each : (stored : List ℕ) → sum_by (λ index. 16384 * 1) stored ≡ 16384 * length stored
    each [] = refl
    each (index ∷ stored) = let rest = each stored in let cons = sum_by-cons (λ index. 16384 * 1) index stored in omega (arith, rest, cons)

weighs_bin : (lists : Lists) → lists_weight 0 0 0 0 0 1 lists ≡ sum_by block_bytes lists.blocks
weighs_bin lists =
    let blocks = sum_by-same (λ (block : Block). 8192 * block.granules * 1) block_bytes lists.blocks (λ block member. one (8192 * block.granules)) in
    omega (arith, slabs_none lists.slabs, stored_none lists.stored, blocks)
  where
    one : (n : ℕ) → n * 1 ≡ n
    one n = omega arith

-- each byte of a slab has a holder
slab_has_holder : (slab : OwnSlab) (within : ℕ) → has_holder (slab_holder slab within) ≡ true
slab_has_holder slab within = elim (cases_lt within (head_bytes slab.class)) [
  | inl head ↦ ap has_holder (slab_holder-head slab within head)
  | inr behind ↦ ap has_holder (slab_holder-behind slab within behind) ∙ by_object (slice_get slab.objects (object_with slab.class within))
]
  where
    by_object : (got : Option (Option ℕ)) → has_holder (held_as got) ≡ true
    by_object None = refl
    by_object (Some None) = refl
    by_object (Some (Some number)) = refl

-- each byte of a granule of the region has one
region_byte : (state : State) (lists : Lists) (holds : Holds state lists) (o : ℕ) → has_granule lists.region (o / 8192) ≡ true → has_holder (state.held (at_offset o)) ≡ true
region_byte state lists holds o on = by_use (use_of lists holds.layout holds.good holds.lays (o / 8192))
  where
    at : (use' : Use) → holds.layout (o / 8192) ≡ use' → has_holder (state.held (at_offset o)) ≡ has_holder (holder_in use' o)
    at use' is = ap has_holder (holds.knows.held_is (at_offset o) ∙ held_by-in holds.layout (at_offset o) use' refl is)

    not_away : holds.layout (o / 8192) ≡ Away → ⊥
    not_away is =
        let one = holds.good.once (o / 8192) ∙ ap (λ (b : Bool). if b then 1 else 0) on in
        let slabs = count-none (λ (slab : OwnSlab). lies_on slab.index 2 (o / 8192)) lists.slabs
        (λ slab member. false_from_ne_true (lies_on slab.index 2 (o / 8192)) (λ here. plain_no_slab Away slab refl (sym is ∙ holds.lays.slabs_are slab member (o / 8192) here))) in
        let stored = count-none (λ index. lies_on index 2 (o / 8192)) lists.stored
        (λ index member. false_from_ne_true (lies_on index 2 (o / 8192)) (λ here. let clash : Away ≡ InCache = sym is ∙ holds.lays.stored_are index member (o / 8192) here in cc)) in
        let blocks = count-none (λ (block : Block). lies_on block.first block.granules (o / 8192)) lists.blocks
        (λ block member. false_from_ne_true (lies_on block.first block.granules (o / 8192)) (λ here. let clash : Away ≡ InBin = sym is ∙ holds.lays.blocks_are block member (o / 8192) here in cc)) in
        omega (arith, one, slabs, stored, blocks)

    by_use : UseOf lists holds.layout (o / 8192) → has_holder (state.held (at_offset o)) ≡ true
    by_use (none_has is) = absurd (not_away is)
    by_use (slab_has slab member here is) = at (OfSlab slab) is ∙ slab_has_holder slab (o - 8192 * slab.index)
    by_use (stored_has index member here is) = at InCache is
    by_use (block_has block member here is) = at InBin is

-- so all bytes of the region have one
region_held : (state : State) (lists : Lists) (holds : Holds state lists) → is_some lists.region ≡ true → region_bytes has_holder state.held 0 0 ≡ 1048576
unfolding region_bytes
region_held state lists holds there =
    sum_below-same (λ o. counted has_holder (state.held (at_offset o))) (λ o. if nat_le 0 o && nat_lt o (0 + 1048576) then 1 else 0) (2 ^ 64) (λ o below. at o)
    ∙ sum_below-shifted (λ k. 1) 0 1048576 (2 ^ 64) (lit≤ tt)
    ∙ sum_below-const (λ k. 1) 1048576 1 (λ k below. refl)
  where
    at : (o : ℕ) → counted has_holder (state.held (at_offset o)) ≡ (if nat_le 0 o && nat_lt o (0 + 1048576) then 1 else 0)
    at o = elim (cases_lt o 1048576) [
      | inl inside ↦
          let below : o / 8192 < 128 = omega arith in
          ap (λ (b : Bool). if b then 1 else 0)
          (region_byte state lists holds o (and_from (is_some lists.region) (nat_lt (o / 8192) 128) there (lt-ltb (o / 8192) 128 below))
          ∙ sym (and_from (nat_le 0 o) (nat_lt o (0 + 1048576)) (le-leb 0 o (omega arith)) (lt-ltb o (0 + 1048576) inside)))
      | inr outside ↦
          let past : 128 ≤ o / 8192 = omega arith in
          let none : holds.layout (o / 8192) ≡ Away = holds.lays.away (o / 8192) (no_granule lists.region (o / 8192) past) in
          ap (counted has_holder) (holds.knows.held_is (at_offset o) ∙ held_by-in holds.layout (at_offset o) Away refl none)
          ∙ sym (ap (λ (b : Bool). if b then 1 else 0) (no_byte (nat_le 0 o) (nat_lt o (0 + 1048576)) (le-ltb o (0 + 1048576) outside)))
    ]
      where
        no_granule : (region : Option Region) (g : ℕ) → 128 ≤ g → has_granule region g ≡ false
        no_granule None g past = refl
        no_granule (Some region) g past = le-ltb g 128 past

        no_byte : (a b : Bool) → b ≡ false → (a && b) ≡ false
        no_byte true b is = is
        no_byte false b is = refl

-- one region is live where it is there
regions_count : (state : State) (lists : Lists) (holds : Holds state lists) → is_some lists.region ≡ true → regions_held state.held ≡ 1
regions_count state lists holds there =
    sum_regions-same (λ p r. if is_live state.held p r then 1 else 0) (λ p r. if (p == 0) && (r == 0) then 1 else 0) (λ p r in_pool in_region. by_region p r ((p == 0) && (r == 0)) refl)
    ∙ sum_regions-one 1 0 0 (lit< tt) (lit< tt)
  where
    live : (n : ℕ) → n ≡ 1048576 → ◌≡◌ {A = ℕ} (if nat_lt 0 n then 1 else 0) 1
    live n is = ap {B = ℕ} (λ n. if nat_lt 0 n then 1 else 0) is

    by_region : (p r : ℕ) (b : Bool) → ((p == 0) && (r == 0)) ≡ b → ◌≡◌ {A = ℕ} (if is_live state.held p r then 1 else 0) (if b then 1 else 0)
    by_region p r true is =
        let both = and_parts (p == 0) (r == 0) is in
        live (region_bytes has_holder state.held p r) (ap (λ n. region_bytes has_holder state.held n r) (eqb-true p 0 both.0) ∙ ap (λ n. region_bytes has_holder state.held 0 n) (eqb-true r 0 both.1) ∙ region_held state lists holds there)
    by_region p r false is = ap {B = ℕ} (λ n. if nat_lt 0 n then 1 else 0) (other_region has_holder refl state lists holds p r is)

-- where no region is there, nothing is held
nothing_held : (state : State) (lists : Lists) (holds : Holds state lists) → lists.region ≡ None → (byte : Place) → state.held byte ≡ None
nothing_held state lists holds none byte = elim (cases_Bool (same_region byte (at_offset 0))) [
  | inl region ↦ holds.knows.held_is byte ∙ held_by-in holds.layout byte Away region (holds.lays.away (byte.offset / 8192) (ap (λ r. has_granule r (byte.offset / 8192)) none))
  | inr other ↦ holds.knows.held_is byte ∙ held_by-out holds.layout byte other
]

nothing_counted : (test : Option Holder → Bool) (held : Holding) (p r : ℕ) → test None ≡ false → ((byte : Place) → held byte ≡ None) → region_bytes test held p r ≡ 0
unfolding region_bytes
nothing_counted test held p r none nowhere =
    sum_below-none (λ o. counted test (held (place_at p r o))) (2 ^ 64) (λ k below. ap (counted test) (nowhere (place_at p r k)) ∙ ap (λ (b : Bool). if b then 1 else 0) none)

nothing_total : (held : Holding) → ((byte : Place) → held byte ≡ None) → totals_of held ≡ no_totals
nothing_total held nowhere =
    let none : (test : Option Holder → Bool) → test None ≡ false → sum_regions (region_bytes test held) ≡ 0 = λ test no. sum_regions-none (region_bytes test held) (λ p r. nothing_counted test held p r no nowhere) in
    totals_same (totals_of held) no_totals
    (sum_regions-none (λ p r. if is_live held p r then 1 else 0) (λ p r. ap {B = ℕ} (λ n. if nat_lt 0 n then 1 else 0) (nothing_counted has_holder held p r refl nowhere)))
    (none has_holder refl) (none (is_at OfWaste) refl) (none (is_at OfHead) refl) (none (is_at OfRest) refl) (none (is_at OfPrivate) refl) (none (is_at OfPublic) refl) (none (is_at OfObject) refl)
    (none (is_at OfLargeHead) refl) (none (is_at OfSlabCache) refl) (none (is_at OfCached) refl) (none (is_at OfBin) refl) (none (is_at OfQueue) refl) (none (is_at OfHand) refl)

-- the totals of the partition are those of the lists
pub totals_hold : (state : State) (lists : Lists) → Holds state lists → totals_of state.held ≡ totals_at lists
totals_hold state lists holds = go lists.region refl
  where
    go : (region : Option Region) → lists.region ≡ region → totals_of state.held ≡ totals_in region lists
    go None is = nothing_total state.held (nothing_held state lists holds is)
    go (Some region) is =
        let there : is_some lists.region ≡ true = ap is_some is in
        let first : 1048576 ≡ region.bytes = sym (ap (λ (r : Region). r.bytes) (holds.good.region_is region is)) in
        totals_same (totals_of state.held) (totals_in (Some region) lists)
        (regions_count state lists holds there)
        (all_weigh has_holder refl state lists holds ∙ region_held state lists holds there ∙ first)
        (test_weighs (is_at OfWaste) refl (λ one other. refl) state lists holds ∙ weighs_none lists)
        (test_weighs (is_at OfHead) refl (λ one other. refl) state lists holds ∙ weighs_head lists)
        (test_weighs (is_at OfRest) refl (λ one other. refl) state lists holds ∙ weighs_rest lists)
        (test_weighs (is_at OfPrivate) refl (λ one other. refl) state lists holds ∙ weighs_private lists)
        (test_weighs (is_at OfPublic) refl (λ one other. refl) state lists holds ∙ weighs_none lists)
        (test_weighs (is_at OfObject) refl (λ one other. refl) state lists holds ∙ weighs_object lists)
        (test_weighs (is_at OfLargeHead) refl (λ one other. refl) state lists holds ∙ weighs_none lists)
        (test_weighs (is_at OfSlabCache) refl (λ one other. refl) state lists holds ∙ weighs_cache lists)
        (test_weighs (is_at OfCached) refl (λ one other. refl) state lists holds ∙ weighs_none lists)
        (test_weighs (is_at OfBin) refl (λ one other. refl) state lists holds ∙ weighs_bin lists)
        (test_weighs (is_at OfQueue) refl (λ one other. refl) state lists holds ∙ weighs_none lists)
        (test_weighs (is_at OfHand) refl (λ one other. refl) state lists holds ∙ weighs_none lists)
