-- How many bytes of the partition pass a test, by the lists.
use Prim.Native.Nat.{zero, suc}
use Rattle.std.proofs.Common.{◌≡◌, ℕ, ◌+◌, ◌-◌, ◌*◌, ◌/◌, ◌^◌, ◌<◌, ◌≤◌, Bool, true, false, ◌&&◌, nat_le, nat_lt, List, [], ◌∷◌, length, Some, None, refl, sym, ◌∙◌, ap, arith, lit<, zero-mul}
use Rattle.std.specs.Prelude.{if◌then◌else◌, sum_by, slice_get, Contains, ◌==◌}
use Rattle.std.specs.declared.option.Option.{Option}
use Rattle.std.proofs.lemmas.Bool.{and_parts, eqb-true}
use Rattle.std.proofs.lemmas.List.Sums.{sum_by-cons}
use Rattle.pool_types.specs.declared.values.Grant.{Grant}
use Rattle.part_model.specs.declared.holders.Holder.{Holder}
use Rattle.part_model.specs.declared.holders.Holder.TheVariants.{Head, Rest, Private, Object, SlabCache, Bin}
use Rattle.part_model.specs.Totals.{sum_regions, region_bytes, place_at}
use Rattle.part_model.proofs.CallerLemmas.{sum_regions-same, sum_regions-one}
use Rattle.size_classes.specs.Classes.{class_size, class_objects}
use Rattle.size_classes.specs.Layout.{head_bytes}
use Rattle.machine.specs.States.{State}
use Rattle.plain_lists.specs.Lists.{OwnSlab, Block, Lists, lies_on}
use Rattle.plain_lists.specs.Whole.{grant_of}
use Rattle.plain_lists.specs.Good.{IsGoodSlab, nones, slabs_on, stored_on, blocks_on}
use Rattle.plain_lists.proofs.Beside.{beside_none, at_most_once}
use Rattle.plain_lists.proofs.Within.{slab_within, stored_within, block_within}
use Rattle.plain_runs.specs.Steps.{at_offset}
use Rattle.plain_runs.proofs.Layouts.{Use, Away, InBin, InCache, OfSlab, held_as, slab_holder, holder_in, some_bytes, one_more, slab_holder-head, slab_holder-object}
use Rattle.plain_runs.proofs.Moves.{in_granules, plain_no_slab}
use Rattle.plain_runs.proofs.ObjectSteps.{held_by-in, held_by-out}
use Rattle.plain_runs.proofs.LaidOut.{Holds, UseOf, none_has, slab_has, stored_has, block_has, use_of}
use Rattle.list_laws.specs.Sums.{sum_below}
use Rattle.list_laws.proofs.Sums.{sum_below-same, sum_below-add, sum_below-none, sum_by-same, sum_by-none, sum_by-only, sum_below-sum_by, sum_below-zero, sum_below-suc, sum_below-const, sum_below-split, sum_below-shifted, sum_below-gets}

-- one where the holder passes the test
abbrev pub counted : (Option Holder → Bool) → Option Holder → ℕ
counted test holder = if test holder then 1 else 0

-- what an object counts of which this is known
abbrev pub object_count : (Option Holder → Bool) → Option (Option ℕ) → ℕ
object_count test got = counted test (held_as got)

-- an object's bytes all count the same
slab_part : (test : Option Holder → Bool) (slab : OwnSlab) (m : ℕ) → slab.class < 26 → m < class_objects slab.class → (start : ℕ) → start + class_size slab.class ≡ 16384 - m * class_size slab.class →
    16384 - (m + 1) * class_size slab.class ≡ start →
    sum_below (λ w. counted test (slab_holder slab w)) (16384 - m * class_size slab.class)
    ≡ sum_below (λ w. counted test (slab_holder slab w)) start + class_size slab.class * object_count test (slice_get slab.objects m)
slab_part test slab m exists below start ends is =
    ap (sum_below (λ w. counted test (slab_holder slab w))) (sym ends)
    ∙ sum_below-split (λ w. counted test (slab_holder slab w)) start (class_size slab.class)
    ∙ ap (λ n. sum_below (λ w. counted test (slab_holder slab w)) start + n)
    (sum_below-const (λ j. counted test (slab_holder slab (start + j))) (class_size slab.class) (object_count test (slice_get slab.objects m)) (λ j below_size. at j below_size (inside start (16384 - (m + 1) * class_size slab.class) j (class_size slab.class) is below_size)))
  where
    inside : (start at j size : ℕ) → at ≡ start → j < size → (at ≤ start + j) × (start + j < at + size)
    inside start at j size is below = (omega arith, omega arith)

    at : (j : ℕ) → j < class_size slab.class → (16384 - (m + 1) * class_size slab.class ≤ start + j) × (start + j < 16384 - (m + 1) * class_size slab.class + class_size slab.class) →
        counted test (slab_holder slab (start + j)) ≡ object_count test (slice_get slab.objects m)
    at j below_size bounds = ap (counted test) (slab_holder-object slab m (start + j) exists below bounds.0 bounds.1)

-- where the next object starts
slab_start : (slab : OwnSlab) (m : ℕ) → m < class_objects slab.class → (16384 - suc m * class_size slab.class + class_size slab.class ≡ 16384 - m * class_size slab.class) × (16384 - (m + 1) * class_size slab.class ≡ 16384 - suc m * class_size slab.class)
slab_start slab m below =
    let more : (m + 1) * class_size slab.class ≡ m * class_size slab.class + class_size slab.class = one_more m slab.class in
    let also : suc m * class_size slab.class ≡ m * class_size slab.class + class_size slab.class = grind arith in
    let room : (m + 1) * class_size slab.class ≤ 16256 = some_bytes slab.class (m + 1) (omega arith) in
    (omega arith, omega arith)

-- the bytes of the first objects, from the slab's end
pub slab_top : (test : Option Holder → Bool) (slab : OwnSlab) (m : ℕ) → slab.class < 26 → m ≤ class_objects slab.class →
    sum_below (λ w. counted test (slab_holder slab w)) 16384
    ≡ sum_below (λ w. counted test (slab_holder slab w)) (16384 - m * class_size slab.class) + sum_below (λ k. object_count test (slice_get slab.objects k)) m * class_size slab.class
slab_top test slab zero exists most = start (zero-mul (class_size slab.class)) (sum_below-zero (λ k. object_count test (slice_get slab.objects k)))
  where
    start : 0 * class_size slab.class ≡ 0 → sum_below (λ k. object_count test (slice_get slab.objects k)) 0 ≡ 0 →
        sum_below (λ w. counted test (slab_holder slab w)) 16384
        ≡ sum_below (λ w. counted test (slab_holder slab w)) (16384 - 0 * class_size slab.class) + sum_below (λ k. object_count test (slice_get slab.objects k)) 0 * class_size slab.class
    start none no_sum = ends (ap (sum_below (λ w. counted test (slab_holder slab w))) (sixteen (0 * class_size slab.class) none)) (ap (λ n. n * class_size slab.class) no_sum) none
      where
        sixteen : (z : ℕ) → z ≡ 0 → 16384 ≡ 16384 - z
        sixteen z is = omega (arith, is)

        ends : {a b c d : ℕ} → a ≡ b → c ≡ d → d ≡ 0 → a ≡ b + c
        ends e f g = omega (arith, e, f, g)
slab_top test slab (suc m) exists most =
    let starts = slab_start slab m (omega arith) in
    join (sum_below (λ w. counted test (slab_holder slab w)) (16384 - suc m * class_size slab.class)) (sum_below (λ k. object_count test (slice_get slab.objects k)) m * class_size slab.class)
    (class_size slab.class * object_count test (slice_get slab.objects m)) (slab_top test slab m exists (omega arith)) (slab_part test slab m exists (omega arith) (16384 - suc m * class_size slab.class) starts.0 starts.1)
    (ap (λ n. n * class_size slab.class) (sum_below-suc (λ k. object_count test (slice_get slab.objects k)) m))
    (products (sum_below (λ k. object_count test (slice_get slab.objects k)) m) (object_count test (slice_get slab.objects m)) (class_size slab.class))
  where
    join : {total s0 v w : ℕ} (s2 pz zc : ℕ) → total ≡ s0 + pz → s0 ≡ s2 + zc → v ≡ w → w ≡ pz + zc → total ≡ s2 + v
    join s2 pz zc a b c d = omega (arith, a, b, c, d)

    products : (a b c : ℕ) → (a + b) * c ≡ a * c + c * b
    products a b c = grind arith

-- all bytes of a slab
pub slab_count : (test : Option Holder → Bool) (slab : OwnSlab) → IsGoodSlab slab →
    sum_below (λ w. counted test (slab_holder slab w)) 16384
    ≡ head_bytes slab.class * counted test (Some Head)
    + ((class_objects slab.class - length slab.objects) * counted test (Some Rest) + sum_by (λ held. object_count test (Some held)) slab.objects) * class_size slab.class
slab_count test slab good =
    let top = slab_top test slab (class_objects slab.class) good.class_is (omega arith) in
    let head = sum_below-const (λ w. counted test (slab_holder slab w)) (head_bytes slab.class) (counted test (Some Head)) (λ w below. ap (counted test) (slab_holder-head slab w below)) in
    let gets = sum_below-gets (object_count test) slab.objects (class_objects slab.class) good.few in
    let bytes = ap (λ n. n * class_size slab.class) gets in
    omega (arith, top, head, bytes)

-- the objects of a slab that were handed out
pub objects_count : (test : Option Holder → Bool) → ((one other : Grant) → test (Some (Object one)) ≡ test (Some (Object other))) → (objects : List (Option ℕ)) →
    sum_by (λ held. object_count test (Some held)) objects + nones objects * counted test (Some (Object (grant_of 0)))
    ≡ nones objects * counted test (Some Private) + length objects * counted test (Some (Object (grant_of 0)))
objects_count test same [] = nothing (counted test (Some Private)) (counted test (Some (Object (grant_of 0))))
  where
    nothing : (p o : ℕ) → 0 + 0 * o ≡ 0 * p + 0 * o
    nothing p o = grind arith
objects_count test same (None ∷ objects) =
    let rest = objects_count test same objects in
    let cons = sum_by-cons (λ held. object_count test (Some held)) None objects in
    steps (nones objects) (length objects) (counted test (Some Private)) (counted test (Some (Object (grant_of 0)))) (sum_by (λ held. object_count test (Some held)) objects) (sum_by (λ held. object_count test (Some held)) (None ∷ objects)) rest cons
  where
    steps : (n l p o s t : ℕ) → s + n * o ≡ n * p + l * o → t ≡ p + s → t + (n + 1) * o ≡ (n + 1) * p + suc l * o
    steps n l p o s t rest cons =
        let a : (n + 1) * o ≡ n * o + o = grind arith in
        let b : (n + 1) * p ≡ n * p + p = grind arith in
        let c : suc l * o ≡ l * o + o = grind arith in
        omega (arith, rest, cons, a, b, c)
objects_count test same (Some number ∷ objects) =
    let rest = objects_count test same objects in
    let cons = sum_by-cons (λ held. object_count test (Some held)) (Some number) objects in
    let one : counted test (Some (Object (grant_of number))) ≡ counted test (Some (Object (grant_of 0))) = ap (λ (b : Bool). if b then 1 else 0) (same (grant_of number) (grant_of 0)) in
    steps (nones objects) (length objects) (counted test (Some Private)) (counted test (Some (Object (grant_of 0)))) (sum_by (λ held. object_count test (Some held)) objects) (sum_by (λ held. object_count test (Some held)) (Some number ∷ objects)) rest (omega (arith, cons, one))
  where
    steps : (n l p o s t : ℕ) → s + n * o ≡ n * p + l * o → t ≡ o + s → t + n * o ≡ n * p + suc l * o
    steps n l p o s t rest cons = let c : suc l * o ≡ l * o + o = grind arith in omega (arith, rest, cons, c)

-- what the bytes of a slab count, by what a byte of its head, of its rest, and of its private and held objects counts
abbrev pub slab_weight : ℕ → ℕ → ℕ → ℕ → OwnSlab → ℕ
slab_weight head rest private object slab =
    head_bytes slab.class * head
    + ((class_objects slab.class - length slab.objects) * rest + (length slab.private * private + (length slab.objects - length slab.private) * object)) * class_size slab.class

pub slab_weighs : (test : Option Holder → Bool) → ((one other : Grant) → test (Some (Object one)) ≡ test (Some (Object other))) → (slab : OwnSlab) → IsGoodSlab slab →
    sum_below (λ w. counted test (slab_holder slab w)) 16384
    ≡ slab_weight (counted test (Some Head)) (counted test (Some Rest)) (counted test (Some Private)) (counted test (Some (Object (grant_of 0)))) slab
slab_weighs test same slab good =
    let all = slab_count test slab good in
    let objects = objects_count test same slab.objects in
    let held = good.held in
    let counted_is = good.counted in
    all ∙ ap (λ n. head_bytes slab.class * counted test (Some Head) + ((class_objects slab.class - length slab.objects) * counted test (Some Rest) + n) * class_size slab.class)
    (split (nones slab.objects) (length slab.private) (length slab.objects) (counted test (Some Private)) (counted test (Some (Object (grant_of 0)))) (sum_by (λ held. object_count test (Some held)) slab.objects) (sym counted_is) (omega arith) objects)
  where
    split : (n q l p o s : ℕ) → n ≡ q → q ≤ l → s + n * o ≡ n * p + l * o → s ≡ q * p + (l - q) * o
    split n q l p o s is few sum =
        let a : n * o ≡ q * o = ap (λ k. k * o) is in
        let b : n * p ≡ q * p = ap (λ k. k * p) is in
        let parts : q + (l - q) ≡ l = omega arith in
        let c : (q + (l - q)) * o ≡ l * o = ap (λ k. k * o) parts in
        let d : (q + (l - q)) * o ≡ q * o + (l - q) * o = adds q (l - q) o in
        omega (arith, a, b, c, d, sum)
      where
        adds : (a b o : ℕ) → (a + b) * o ≡ a * o + b * o
        adds a b o = grind arith

-- what a byte counts for the member that has it
abbrev pub slab_share : (Option Holder → Bool) → ℕ → OwnSlab → ℕ
slab_share test o slab = if lies_on slab.index 2 (o / 8192) then counted test (slab_holder slab (o - 8192 * slab.index)) else 0

abbrev pub stored_share : ℕ → ℕ → ℕ → ℕ
stored_share c o index = if lies_on index 2 (o / 8192) then c else 0

abbrev pub block_share : ℕ → ℕ → Block → ℕ
block_share c o block = if lies_on block.first block.granules (o / 8192) then c else 0

-- where no member passes, nothing is counted
pub none_share : {X : Type 0} (p : X → Bool) (f : X → ℕ) (xs : List X) → ((x : X) → Contains xs x → p x ≡ true → ⊥) → sum_by (λ y. if p y then f y else 0) xs ≡ 0
none_share {X} p f xs none = sum_by-none (λ y. if p y then f y else 0) xs (λ x member. go x (p x) refl (none x member))
  where
    go : (x : X) (b : Bool) → p x ≡ b → (none : p x ≡ true → ⊥) → (if p x then f x else 0) ≡ 0
    go x true is none = absurd (none is)
    go x false is none = ap (λ (b : Bool). if b then f x else 0) is

-- a byte of the region counts for the one member that has it
pub byte_count : (test : Option Holder → Bool) (state : State) (lists : Lists) (holds : Holds state lists) → test None ≡ false → (o : ℕ) →
    counted test (state.held (at_offset o))
    ≡ sum_by (slab_share test o) lists.slabs + (sum_by (stored_share (counted test (Some (SlabCache 0))) o) lists.stored + sum_by (block_share (counted test (Some Bin)) o) lists.blocks)
byte_count test state lists holds none o = by_use (use_of lists holds.layout holds.good holds.lays (o / 8192))
  where
    g : ℕ
    g = o / 8192

    cache : ℕ
    cache = counted test (Some (SlabCache 0))

    bin : ℕ
    bin = counted test (Some Bin)

    at : (use' : Use) → holds.layout (o / 8192) ≡ use' → counted test (state.held (at_offset o)) ≡ counted test (holder_in use' o)
    at use' is = ap (counted test) (holds.knows.held_is (at_offset o) ∙ held_by-in holds.layout (at_offset o) use' refl is)

    no_slabs : (use' : Use) → holds.layout (o / 8192) ≡ use' → ((slab : OwnSlab) → use' ≡ OfSlab slab → ⊥) → sum_by (slab_share test o) lists.slabs ≡ 0
    no_slabs use' is other = none_share (λ (slab : OwnSlab). lies_on slab.index 2 (o / 8192)) (λ slab. counted test (slab_holder slab (o - 8192 * slab.index))) lists.slabs
        (λ slab member on. other slab (sym is ∙ holds.lays.slabs_are slab member (o / 8192) on))

    no_stored : (use' : Use) → holds.layout (o / 8192) ≡ use' → (use' ≡ InCache → ⊥) → sum_by (stored_share cache o) lists.stored ≡ 0
    no_stored use' is other = none_share (λ index. lies_on index 2 (o / 8192)) (λ index. cache) lists.stored (λ index member on. other (sym is ∙ holds.lays.stored_are index member (o / 8192) on))

    no_blocks : (use' : Use) → holds.layout (o / 8192) ≡ use' → (use' ≡ InBin → ⊥) → sum_by (block_share bin o) lists.blocks ≡ 0
    no_blocks use' is other = none_share (λ (block : Block). lies_on block.first block.granules (o / 8192)) (λ block. bin) lists.blocks (λ block member on. other (sym is ∙ holds.lays.blocks_are block member (o / 8192) on))

    once : stored_on (o / 8192) [] + (slabs_on (o / 8192) lists.slabs + (stored_on (o / 8192) lists.stored + blocks_on (o / 8192) lists.blocks)) ≤ 1
    once = at_most_once [] lists (beside_none lists holds.good) (o / 8192)

    by_use : UseOf lists holds.layout (o / 8192) → counted test (state.held (at_offset o)) ≡ sum_by (slab_share test o) lists.slabs + (sum_by (stored_share cache o) lists.stored + sum_by (block_share bin o) lists.blocks)
    by_use (none_has is) =
        let slabs = no_slabs Away is (λ slab same. plain_no_slab Away slab refl same) in
        let stored = no_stored Away is (λ same. let e = same in cc) in
        let blocks = no_blocks Away is (λ same. let e = same in cc) in
        let here : counted test (state.held (at_offset o)) ≡ 0 = at Away is ∙ ap (λ (b : Bool). if b then 1 else 0) none in
        omega (arith, slabs, stored, blocks, here)
    by_use (slab_has slab member on is) =
        let slabs = sum_by-only (λ (s : OwnSlab). lies_on s.index 2 (o / 8192)) (λ s. counted test (slab_holder s (o - 8192 * s.index))) lists.slabs slab (omega (arith, once)) member on in
        let stored = no_stored (OfSlab slab) is (λ same. plain_no_slab InCache slab refl (sym same)) in
        let blocks = no_blocks (OfSlab slab) is (λ same. plain_no_slab InBin slab refl (sym same)) in
        let here = at (OfSlab slab) is in
        omega (arith, slabs, stored, blocks, here)
    by_use (stored_has index member on is) =
        let slabs = no_slabs InCache is (λ slab same. plain_no_slab InCache slab refl same) in
        let stored = sum_by-only (λ i. lies_on i 2 (o / 8192)) (λ i. cache) lists.stored index (omega (arith, once)) member on in
        let blocks = no_blocks InCache is (λ same. let e = same in cc) in
        let here = at InCache is in
        omega (arith, slabs, stored, blocks, here)
    by_use (block_has block member on is) =
        let slabs = no_slabs InBin is (λ slab same. plain_no_slab InBin slab refl same) in
        let stored = no_stored InBin is (λ same. let e = same in cc) in
        let blocks = sum_by-only (λ (b : Block). lies_on b.first b.granules (o / 8192)) (λ b. bin) lists.blocks block (omega (arith, once)) member on in
        let here = at InBin is in
        omega (arith, slabs, stored, blocks, here)

-- a count over whole granules, byte by byte
pub granules_sum : (f : ℕ → ℕ) (first granules : ℕ) → first + granules ≤ 128 → sum_below (λ o. if lies_on first granules (o / 8192) then f (o - 8192 * first) else 0) (2 ^ 64) ≡ sum_below f (8192 * granules)
granules_sum f first granules inside =
    sum_below-same (λ o. if lies_on first granules (o / 8192) then f (o - 8192 * first) else 0) (λ o. if nat_le (8192 * first) o && nat_lt o (8192 * first + 8192 * granules) then f (o - 8192 * first) else 0) (2 ^ 64)
    (λ o below. ap (λ (b : Bool). if b then f (o - 8192 * first) else 0) (sym (in_granules first granules o)))
    ∙ sum_below-shifted f (8192 * first) (8192 * granules) (2 ^ 64) (omega arith)

-- what the lists weigh
abbrev pub lists_weight : ℕ → ℕ → ℕ → ℕ → ℕ → ℕ → Lists → ℕ
lists_weight head rest private object cache bin lists =
    sum_by (slab_weight head rest private object) lists.slabs + (sum_by (λ index. 16384 * cache) lists.stored + sum_by (λ block. 8192 * block.granules * bin) lists.blocks)

-- how many bytes of the region pass a test
pub region_weighs : (test : Option Holder → Bool) → test None ≡ false → ((one other : Grant) → test (Some (Object one)) ≡ test (Some (Object other))) → (state : State) (lists : Lists) → Holds state lists →
    region_bytes test state.held 0 0
    ≡ lists_weight (counted test (Some Head)) (counted test (Some Rest)) (counted test (Some Private)) (counted test (Some (Object (grant_of 0)))) (counted test (Some (SlabCache 0))) (counted test (Some Bin)) lists
unfolding region_bytes
region_weighs test none same state lists holds =
    sum_below-same (λ o. counted test (state.held (at_offset o)))
    (λ o. sum_by (slab_share test o) lists.slabs + (sum_by (stored_share (counted test (Some (SlabCache 0))) o) lists.stored + sum_by (block_share (counted test (Some Bin)) o) lists.blocks)) (2 ^ 64)
    (λ o below. byte_count test state lists holds none o)
    ∙ sum_below-add (λ o. sum_by (slab_share test o) lists.slabs) (λ o. sum_by (stored_share (counted test (Some (SlabCache 0))) o) lists.stored + sum_by (block_share (counted test (Some Bin)) o) lists.blocks) (2 ^ 64)
    ∙ three (sum_below (λ o. sum_by (stored_share (counted test (Some (SlabCache 0))) o) lists.stored) (2 ^ 64)) (sum_below (λ o. sum_by (block_share (counted test (Some Bin)) o) lists.blocks) (2 ^ 64))
    slabs (sum_below-add (λ o. sum_by (stored_share (counted test (Some (SlabCache 0))) o) lists.stored) (λ o. sum_by (block_share (counted test (Some Bin)) o) lists.blocks) (2 ^ 64)) stored blocks
  where
    three : {a b x y z : ℕ} (c d : ℕ) → a ≡ x → b ≡ c + d → c ≡ y → d ≡ z → a + b ≡ x + (y + z)
    three c d p q r s = omega (arith, p, q, r, s)

    slabs : sum_below (λ o. sum_by (slab_share test o) lists.slabs) (2 ^ 64) ≡ sum_by (slab_weight (counted test (Some Head)) (counted test (Some Rest)) (counted test (Some Private)) (counted test (Some (Object (grant_of 0))))) lists.slabs
    slabs =
        sum_below-sum_by (λ slab o. slab_share test o slab) lists.slabs (2 ^ 64)
        ∙ sum_by-same (λ slab. sum_below (λ o. slab_share test o slab) (2 ^ 64)) (slab_weight (counted test (Some Head)) (counted test (Some Rest)) (counted test (Some Private)) (counted test (Some (Object (grant_of 0))))) lists.slabs
        (λ slab member.
        granules_sum (λ w. counted test (slab_holder slab w)) slab.index 2 (slab_within [] lists (beside_none lists holds.good) slab member).1
        ∙ slab_weighs test same slab (holds.good.slabs_are slab member))

    stored : sum_below (λ o. sum_by (stored_share (counted test (Some (SlabCache 0))) o) lists.stored) (2 ^ 64) ≡ sum_by (λ index. 16384 * counted test (Some (SlabCache 0))) lists.stored
    stored =
        sum_below-sum_by (λ index o. stored_share (counted test (Some (SlabCache 0))) o index) lists.stored (2 ^ 64)
        ∙ sum_by-same (λ index. sum_below (λ o. stored_share (counted test (Some (SlabCache 0))) o index) (2 ^ 64)) (λ index. 16384 * counted test (Some (SlabCache 0))) lists.stored
        (λ index member.
        granules_sum (λ w. counted test (Some (SlabCache 0))) index 2 (stored_within [] lists (beside_none lists holds.good) index member).1
        ∙ sum_below-const (λ w. counted test (Some (SlabCache 0))) 16384 (counted test (Some (SlabCache 0))) (λ k below. refl))

    blocks : sum_below (λ o. sum_by (block_share (counted test (Some Bin)) o) lists.blocks) (2 ^ 64) ≡ sum_by (λ block. 8192 * block.granules * counted test (Some Bin)) lists.blocks
    blocks =
        sum_below-sum_by (λ block o. block_share (counted test (Some Bin)) o block) lists.blocks (2 ^ 64)
        ∙ sum_by-same (λ block. sum_below (λ o. block_share (counted test (Some Bin)) o block) (2 ^ 64)) (λ block. 8192 * block.granules * counted test (Some Bin)) lists.blocks
        (λ block member.
        granules_sum (λ w. counted test (Some Bin)) block.first block.granules (block_within [] lists (beside_none lists holds.good) block member).1
        ∙ sum_below-const (λ w. counted test (Some Bin)) (8192 * block.granules) (counted test (Some Bin)) (λ k below. refl))

-- no byte of another region has a holder
pub other_region : (test : Option Holder → Bool) → test None ≡ false → (state : State) (lists : Lists) → Holds state lists → (p r : ℕ) → ((p == 0) && (r == 0)) ≡ false → region_bytes test state.held p r ≡ 0
unfolding region_bytes
other_region test none state lists holds p r other =
    sum_below-none (λ o. counted test (state.held (place_at p r o))) (2 ^ 64)
    (λ o below. ap (counted test) (holds.knows.held_is (place_at p r o) ∙ held_by-out holds.layout (place_at p r o) other) ∙ ap (λ (b : Bool). if b then 1 else 0) none)

-- so all bytes that are counted are the region's
pub all_weigh : (test : Option Holder → Bool) → test None ≡ false → (state : State) (lists : Lists) → Holds state lists → sum_regions (region_bytes test state.held) ≡ region_bytes test state.held 0 0
all_weigh test none state lists holds =
    sum_regions-same (region_bytes test state.held) (λ p r. if (p == 0) && (r == 0) then region_bytes test state.held 0 0 else 0) (λ p r in_pool in_region. by_region p r ((p == 0) && (r == 0)) refl)
    ∙ sum_regions-one (region_bytes test state.held 0 0) 0 0 (lit< tt) (lit< tt)
  where
    by_region : (p r : ℕ) (b : Bool) → ((p == 0) && (r == 0)) ≡ b → region_bytes test state.held p r ≡ (if b then region_bytes test state.held 0 0 else 0)
    by_region p r true is =
        let both = and_parts (p == 0) (r == 0) is in
        ap (λ n. region_bytes test state.held n r) (eqb-true p 0 both.0) ∙ ap (λ n. region_bytes test state.held 0 n) (eqb-true r 0 both.1)
    by_region p r false is = other_region test none state lists holds p r is
