-- Sums over the arrays are sums over the lists.
use Rattle.std.proofs.Common.{◌≡◌, ℕ, ◌*◌, ◌/◌, ◌%◌, ◌<◌, ◌≤◌, ◌^◌, ◌==◌, ◌⊎◌, inl, inr, List, [], length, Some, None, refl, sym, ap, ◌∙◌, arith}
use Rattle.std.specs.Prelude.{Contains, find, sum_by}
use Rattle.std.specs.declared.option.Option.{Option}
use Rattle.std.proofs.lemmas.Bool.{cases_eq, eq-eqb, ne_eqb, eqb-true}
use Rattle.std.proofs.Math.Nat.{mul-le-mul_left}
use Rattle.size_classes.specs.Classes.{class_size, class_objects}
use Rattle.size_classes.proofs.CallerLemmas.{class_objects-fit, class_size-most}
use Rattle.slab_core.specs.declared.SlabRec.{SlabRec}
use Rattle.index_lists.specs.Lists.{Lists as IndexedLists}
use Rattle.plain_lists.specs.Lists.{OwnSlab, Block, Lists, lies_on}
use Rattle.plain_lists.specs.Backend.{granules_in}
use Rattle.pool_types.specs.declared.values.Region.{Region}
use Rattle.part_model.specs.declared.totals.Totals.{Totals}
use Rattle.plain_lists.specs.Held.{totals_at, totals_in, slab_head, slab_rest, slab_private, slab_object, block_bytes}
use Rattle.plain_lists.specs.Good.{AreGood}
use Rattle.list_laws.proofs.Counts.{count-more}
use Rattle.list_laws.proofs.Finds.{find-same}
use Rattle.plain_lists.proofs.Granules.{lies_on-true}
use Rattle.plain_lists.proofs.Beside.{beside_none, at_most_once}
use Rattle.list_laws.proofs.Sums.{cell_of, sum_by-cells, sum_by-same}
use Rattle.plain_pool.specs.declared.marks.Mark.{Mark}
use Rattle.plain_pool.specs.Bins.{BinsFit, begins_at}
use Rattle.plain_pool.specs.Slabs.{SlabsFit, AreKept, record_of, record_in}
use Rattle.plain_pool.specs.Held.{room_private, AreSlabsApart, AreBlocksApart}

-- the blocks' granules
pub granules_sum : (lists : IndexedLists) (begins ends : List ℕ) (blocks : List Block) → BinsFit lists begins ends blocks → AreBlocksApart blocks → sum_by (λ n. n) begins ≡ sum_by (λ (block : Block). block.granules) blocks
granules_sum lists begins ends blocks fit apart = sum_by-cells (λ n. n) 0 (λ (block : Block). block.granules) (λ (block : Block). block.first) blocks begins refl
    (λ block inside. let i = (fit.blocks_are.each block inside).inside in let s = (fit.blocks_are.each block inside).some in omega (arith, i, s, fit.begins_long))
    (λ k. fit.begins_are k ∙ ap granules_in (find-same (begins_at k) (λ (block : Block). block.first == k) blocks (λ block inside. turned k block.first (cases_eq k block.first))) ∙ cell (find (λ (block : Block). block.first == k) blocks))
    (λ k. let more = count-more (λ (block : Block). block.first == k) (λ (block : Block). lies_on block.first block.granules k) blocks
    (λ block inside passes. let e = eqb-true block.first k passes in let s = (fit.blocks_are.each block inside).some in lies_on-true block.first block.granules k (omega (arith, e)) (omega (arith, e, s))) in
    let one = apart k in omega (arith, more, one))
  where
    cell : (o : Option Block) → granules_in o ≡ cell_of (λ (block : Block). block.granules) 0 o
    cell (Some block) = refl
    cell None = refl

    turned : (a b : ℕ) → (a ≡ b) ⊎ (a ≡ b → ⊥) → (a == b) ≡ (b == a)
    turned a b (inl same) = eq-eqb a b same ∙ sym (eq-eqb b a (sym same))
    turned a b (inr differ) = ne_eqb a b differ ∙ sym (ne_eqb b a (λ e. differ (sym e)))

-- sums over rooms are sums over slabs
pub rooms_sum : (g : Option SlabRec → ℕ) (f : OwnSlab → ℕ) (rooms : List (Option SlabRec)) (classes : IndexedLists) (marks : List Mark) (slabs : List OwnSlab) → g None ≡ 0 → SlabsFit rooms classes marks slabs → AreKept slabs → AreSlabsApart slabs
    → ((slab : OwnSlab) → Contains slabs slab → g (Some (record_of slab)) ≡ f slab) → sum_by g rooms ≡ sum_by f slabs
rooms_sum g f rooms classes marks slabs zero_is fit kept apart same =
    sum_by-cells g None (λ slab. Some (record_of slab)) (λ (slab : OwnSlab). slab.index / 2) slabs rooms zero_is
    (λ slab inside. let i = kept.placed.inside slab inside in omega (arith, i, fit.rooms_long))
    (λ k. fit.recorded k ∙ ap record_in (find-same (λ (slab : OwnSlab). slab.index == 2 * k) (λ (slab : OwnSlab). slab.index / 2 == k) slabs (λ slab inside. halves slab.index k (kept.placed.even slab inside) (cases_eq slab.index (2 * k))))
    ∙ cell (find (λ (slab : OwnSlab). slab.index / 2 == k) slabs))
    (λ k. let more = count-more (λ (slab : OwnSlab). slab.index / 2 == k) (λ (slab : OwnSlab). lies_on slab.index 2 (2 * k)) slabs
    (λ slab inside passes. let e = eqb-true (slab.index / 2) k passes in let even = kept.placed.even slab inside in lies_on-true slab.index 2 (2 * k) (omega (arith, e, even)) (omega (arith, e, even))) in
    let one = apart (2 * k) in omega (arith, more, one))
    ∙ sum_by-same (λ slab. g (Some (record_of slab))) f slabs same
  where
    cell : (o : Option OwnSlab) → record_in o ≡ cell_of (λ slab. Some (record_of slab)) None o
    cell (Some slab) = refl
    cell None = refl

    halves : (index k : ℕ) → index % 2 ≡ 0 → (index ≡ 2 * k) ⊎ (index ≡ 2 * k → ⊥) → (index == 2 * k) ≡ (index / 2 == k)
    halves index k even (inl is) = eq-eqb index (2 * k) is ∙ sym (eq-eqb (index / 2) k (omega (arith, is)))
    halves index k even (inr differ) = ne_eqb index (2 * k) differ ∙ sym (ne_eqb (index / 2) k (λ e. differ (omega (arith, e, even))))

pub private_sum : (slab : OwnSlab) → length slab.private ≤ length slab.objects → room_private (Some (record_of slab)) ≡ slab_private slab
private_sum slab few = ap (λ n. n * class_size slab.class) (omega (arith, few))

-- the parts of good lists are apart
pub slabs_apart : (lists : Lists) → AreGood lists → AreSlabsApart lists.slabs
slabs_apart lists good granule = let once = at_most_once [] lists (beside_none lists good) granule in omega (arith, once)

pub blocks_apart : (lists : Lists) → AreGood lists → AreBlocksApart lists.blocks
blocks_apart lists good granule = let once = at_most_once [] lists (beside_none lists good) granule in omega (arith, once)

-- the bytes of objects are few
pub few_bytes : (count class : ℕ) → count < 2 ^ 32 → count * class_size class ≤ 2 ^ 45
few_bytes count class few = go count (class_size class) few (class_size-most class)
  where
    go : (n size : ℕ) → n < 2 ^ 32 → size ≤ 8128 → n * size ≤ 2 ^ 45
    go n size a b = let one = mul-le-mul_left n b in omega (arith, one, a)

-- a slab's objects leave a head
pub head_fits : (class : ℕ) → class_objects class * class_size class ≤ 16384
head_fits class = let fit = class_objects-fit class in omega (arith, fit)

-- the totals of a pool that has its region
pub totals_is : (lists : Lists) (region : Region) (bytes head rest private object cache bin : ℕ) → lists.region ≡ Some region → bytes ≡ region.bytes → head ≡ sum_by slab_head lists.slabs → rest ≡ sum_by slab_rest lists.slabs → private ≡ sum_by slab_private lists.slabs
    → object ≡ sum_by slab_object lists.slabs → cache ≡ 16384 * length lists.stored → bin ≡ sum_by block_bytes lists.blocks
    → ◌≡◌ {A = Totals} (record { regions = 1; bytes = bytes; waste = 0; head = head; rest = rest; private = private; public = 0; object = object; large_head = 0; slab_cache = cache; cached = 0; bin = bin; queue = 0; hand = 0 }) (totals_at lists)
totals_is lists region bytes head rest private object cache bin is a b c d e f g =
    ap (λ n. let t : Totals = record { regions = 1; bytes = n; waste = 0; head = head; rest = rest; private = private; public = 0; object = object; large_head = 0; slab_cache = cache; cached = 0; bin = bin; queue = 0; hand = 0 } in t) a
    ∙ ap (λ n. let t : Totals = record { regions = 1; bytes = region.bytes; waste = 0; head = n; rest = rest; private = private; public = 0; object = object; large_head = 0; slab_cache = cache; cached = 0; bin = bin; queue = 0; hand = 0 } in t) b
    ∙ ap (λ n. let t : Totals = record { regions = 1; bytes = region.bytes; waste = 0; head = sum_by slab_head lists.slabs; rest = n; private = private; public = 0; object = object; large_head = 0; slab_cache = cache; cached = 0; bin = bin; queue = 0; hand = 0 } in t) c
    ∙ ap (λ n. let t : Totals = record { regions = 1; bytes = region.bytes; waste = 0; head = sum_by slab_head lists.slabs; rest = sum_by slab_rest lists.slabs; private = n; public = 0; object = object; large_head = 0; slab_cache = cache; cached = 0; bin = bin; queue = 0; hand = 0 } in t) d
    ∙ ap (λ n. let t : Totals = record { regions = 1; bytes = region.bytes; waste = 0; head = sum_by slab_head lists.slabs; rest = sum_by slab_rest lists.slabs; private = sum_by slab_private lists.slabs; public = 0; object = n; large_head = 0; slab_cache = cache; cached = 0; bin = bin; queue = 0; hand = 0 } in t) e
    ∙ ap (λ n. let t : Totals = record { regions = 1; bytes = region.bytes; waste = 0; head = sum_by slab_head lists.slabs; rest = sum_by slab_rest lists.slabs; private = sum_by slab_private lists.slabs; public = 0; object = sum_by slab_object lists.slabs; large_head = 0; slab_cache = n; cached = 0; bin = bin; queue = 0; hand = 0 } in t) f
    ∙ ap (λ n. let t : Totals = record { regions = 1; bytes = region.bytes; waste = 0; head = sum_by slab_head lists.slabs; rest = sum_by slab_rest lists.slabs; private = sum_by slab_private lists.slabs; public = 0; object = sum_by slab_object lists.slabs; large_head = 0; slab_cache = 16384 * length lists.stored; cached = 0; bin = n; queue = 0; hand = 0 } in t) g
    ∙ sym (ap (λ o. totals_in o lists) is)
