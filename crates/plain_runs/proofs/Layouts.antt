-- What each granule of the region is used for, and so where each byte is: between the lists and the partition.
use Rattle.std.proofs.Common.{◌≡◌, ℕ, ◌+◌, ◌-◌, ◌*◌, ◌/◌, ◌%◌, ◌<◌, ◌≤◌, Bool, true, List, [], ◌∷◌, length, Some, None, ◌∙◌, ap, arith, inl, inr, nat_lt}
use Rattle.std.specs.Prelude.{if◌then◌else◌, slice_get, Contains}
use Rattle.std.specs.declared.option.Option.{Option}
use Rattle.std.proofs.lemmas.Bool.{lt-ltb, cases_lt, le-ltb}
use Rattle.std.proofs.Math.Nat.{mul-le-mul_right, div-mul-le_self, lt-div-mul-add}
use Rattle.pool_types.specs.declared.values.Place.{Place}
use Rattle.pool_types.specs.declared.values.Region.{Region}
use Rattle.pool_types.specs.declared.policy.RegionRec.{RegionRec}
use Rattle.part_model.specs.declared.holders.Holder.{Holder}
use Rattle.part_model.specs.declared.holders.Holder.TheVariants.{Head, Rest, Private, Object, SlabCache, Bin, Hand}
use Rattle.part_model.specs.Holding.{Holding, same_region}
use Rattle.size_classes.specs.Classes.{class_size, class_objects}
use Rattle.size_classes.proofs.CallerLemmas.{class_objects-fit, class_size-least}
use Rattle.size_classes.specs.Layout.{head_bytes}
use Rattle.machine.specs.States.{State, Slab}
use Rattle.plain_lists.specs.Lists.{OwnSlab, lies_on}
use Rattle.plain_lists.specs.Whole.{grant_of}
use Rattle.plain_runs.specs.Steps.{at_offset, slab_of, one_region}

-- what a granule is used for: none is live, it is in a bin, in hand, in the slab cache, or in a slab
pub data Use : Type 0 where
  Away : Use
  InBin : Use
  InHand : Use
  InCache : Use
  OfSlab : OwnSlab → Use

-- the use of each granule
abbrev pub Layout : Type 0
Layout = ℕ → Use

-- who holds an object of which this is known: that it was handed out, and under which number it is held
abbrev pub held_as : Option (Option ℕ) → Option Holder
held_as None = Some Rest
held_as (Some None) = Some Private
held_as (Some (Some number)) = Some (Object (grant_of number))

-- the object that has the byte that lies so far into a slab of the class
unfoldable pub object_with : ℕ → ℕ → ℕ
object_with class within = (16383 - within) / class_size class

-- who holds the byte that lies so far into the slab
unfoldable pub slab_holder : OwnSlab → ℕ → Option Holder
slab_holder slab within = if nat_lt within (head_bytes slab.class) then Some Head else held_as (slice_get slab.objects (object_with slab.class within))

-- who holds the byte of a granule of this use
abbrev pub holder_in : Use → ℕ → Option Holder
holder_in Away offset = None
holder_in InBin offset = Some Bin
holder_in InHand offset = Some (Hand 0)
holder_in InCache offset = Some (SlabCache 0)
holder_in (OfSlab slab) offset = slab_holder slab (offset - 8192 * slab.index)

-- who holds each byte
abbrev pub held_by : Layout → Holding
held_by layout byte = if same_region byte (at_offset 0) then holder_in (layout (byte.offset / 8192)) byte.offset else None

-- so many granules from the first on come to be used for this
abbrev pub laid : Layout → ℕ → ℕ → Use → Layout
laid layout first granules use' granule = if lies_on first granules granule then use' else layout granule

-- the slab is one of the region, and each of its granules is used for it
pub record IsLaid (layout : Layout) (slab : OwnSlab) : Type 0 where
  pub class_is : slab.class < 26
  pub few : length slab.objects ≤ class_objects slab.class
  pub even : slab.index % 2 ≡ 0
  pub inside : slab.index + 2 ≤ 128
  pub whole : (granule : ℕ) → lies_on slab.index 2 granule ≡ true → layout granule ≡ OfSlab slab

-- the live regions, and the next number
abbrev pub regions_of : Option Region → List RegionRec
regions_of None = []
regions_of (Some region) = one_region ∷ []

abbrev pub next_of : Option Region → ℕ
next_of None = 0
next_of (Some region) = 1

-- a slab of the layout stands in the book so
pub record IsBooked (layout : Layout) (slab : Slab) : Type 0 where
  pub own : OwnSlab
  pub laid_is : layout own.index ≡ OfSlab own
  pub is : slab ≡ slab_of own.index own.class

-- what is known of the machine's state: the layout, the region, and how many objects were granted
pub record Knows (state : State) (layout : Layout) (region : Option Region) (granted : ℕ) : Type 0 where
  pub held_is : (byte : Place) → state.held byte ≡ held_by layout byte
  pub regions_are : state.regions ≡ regions_of region
  pub next_is : state.next ≡ next_of region
  pub last_is : state.last 0 ≡ granted
  pub in_book : (slab : Slab) → Contains state.book slab → IsBooked layout slab
  pub booked : (granule : ℕ) (slab : OwnSlab) → layout granule ≡ OfSlab slab → Contains state.book (slab_of slab.index slab.class)
  pub slabs_are : (granule : ℕ) (slab : OwnSlab) → layout granule ≡ OfSlab slab → IsLaid layout slab × (lies_on slab.index 2 granule ≡ true)

-- one object more takes as many bytes more
pub one_more : (object class : ℕ) → (object + 1) * class_size class ≡ object * class_size class + class_size class
one_more object class = grind arith

-- the first objects of a slab have room in it
pub some_bytes : (class count : ℕ) → count ≤ class_objects class → count * class_size class ≤ 16256
some_bytes class count most = omega (arith, mul-le-mul_right (class_size class) most, class_objects-fit class)

-- a quotient by its bounds
pub quotient-is : (n k size : ℕ) → 0 < size → k * size ≤ n → n < k * size + size → n / size ≡ k
quotient-is n k size some least below =
    let low : n / size * size ≤ n = div-mul-le_self n size in
    let high : n < n / size * size + size = lt-div-mul-add some in
    elim (cases_lt (n / size) k) [
      | inl less ↦ absurd (
          let most : (n / size + 1) * size ≤ k * size = mul-le-mul_right size (let step : n / size + 1 ≤ k = omega arith in step) in
          let more : (n / size + 1) * size ≡ n / size * size + size = grind arith in
          omega arith)
      | inr least_k ↦ elim (cases_lt k (n / size)) [
        | inl above ↦ absurd (
            let most : (k + 1) * size ≤ n / size * size = mul-le-mul_right size (let step : k + 1 ≤ n / size = omega arith in step) in
            let more : (k + 1) * size ≡ k * size + size = grind arith in
            omega arith)
        | inr most ↦ omega arith
      ]
    ]

-- the object with a byte, by the object's bounds
pub object_with-is : (class object within : ℕ) → class < 26 → object < class_objects class →
    16384 - (object + 1) * class_size class ≤ within → within < 16384 - (object + 1) * class_size class + class_size class → object_with class within ≡ object
unfolding object_with
object_with-is class object within exists below least most =
    let fits : (object + 1) * class_size class ≤ 16256 = some_bytes class (object + 1) (omega arith) in
    let more : (object + 1) * class_size class ≡ object * class_size class + class_size class = one_more object class in
    let some : 8 ≤ class_size class = class_size-least class exists in
    quotient-is (16383 - within) object (class_size class) (omega arith) (omega arith) (omega arith)

-- where an object with a byte lies
pub record HasByteOf (class within object : ℕ) : Type 0 where
  pub exists : object < class_objects class
  pub least : 16384 - (object + 1) * class_size class ≤ within
  pub most : within < 16384 - (object + 1) * class_size class + class_size class

-- each byte behind the head is in an object
pub object_with-has : (class within : ℕ) → class < 26 → head_bytes class ≤ within → within < 16384 → HasByteOf class within (object_with class within)
unfolding object_with
object_with-has class within exists above below =
    let size : ℕ = class_size class in
    let some : 8 ≤ class_size class = class_size-least class exists in
    let low : (16383 - within) / class_size class * class_size class ≤ 16383 - within = div-mul-le_self (16383 - within) (class_size class) in
    let high : 16383 - within < (16383 - within) / class_size class * class_size class + class_size class = lt-div-mul-add (omega arith) in
    let more : ((16383 - within) / class_size class + 1) * class_size class ≡ (16383 - within) / class_size class * class_size class + class_size class = one_more ((16383 - within) / class_size class) class in
    let fit : class_objects class * class_size class ≤ 16256 = class_objects-fit class in
    let few : (16383 - within) / class_size class < class_objects class = elim (cases_lt ((16383 - within) / class_size class) (class_objects class)) [
      | inl few ↦ few
      | inr many ↦ absurd (let most : class_objects class * class_size class ≤ (16383 - within) / class_size class * class_size class = mul-le-mul_right (class_size class) many in omega arith)
    ] in
    let room : ((16383 - within) / class_size class + 1) * class_size class ≤ 16256 = some_bytes class ((16383 - within) / class_size class + 1) (omega arith) in
    record { exists = few; least = omega arith; most = omega arith }

-- who holds the head, and who holds an object
pub slab_holder-head : (slab : OwnSlab) (within : ℕ) → within < head_bytes slab.class → slab_holder slab within ≡ Some Head
unfolding slab_holder
slab_holder-head slab within below = ap (λ (b : Bool). if b then Some Head else held_as (slice_get slab.objects (object_with slab.class within))) (lt-ltb _ _ below)

pub slab_holder-behind : (slab : OwnSlab) (within : ℕ) → head_bytes slab.class ≤ within → slab_holder slab within ≡ held_as (slice_get slab.objects (object_with slab.class within))
unfolding slab_holder
slab_holder-behind slab within least = ap (λ (b : Bool). if b then Some Head else held_as (slice_get slab.objects (object_with slab.class within))) (le-ltb _ _ least)

pub slab_holder-object : (slab : OwnSlab) (object within : ℕ) → slab.class < 26 → object < class_objects slab.class →
    16384 - (object + 1) * class_size slab.class ≤ within → within < 16384 - (object + 1) * class_size slab.class + class_size slab.class →
    slab_holder slab within ≡ held_as (slice_get slab.objects object)
slab_holder-object slab object within exists below least most =
    let whole : (object + 1) * class_size slab.class ≤ class_objects slab.class * class_size slab.class = mul-le-mul_right (class_size slab.class) (let step : object + 1 ≤ class_objects slab.class = omega arith in step) in
    let fit : class_objects slab.class * class_size slab.class ≤ 16256 = class_objects-fit slab.class in
    slab_holder-behind slab within (omega arith)
    ∙ ap (λ k. held_as (slice_get slab.objects k)) (object_with-is slab.class object within exists below least most)
