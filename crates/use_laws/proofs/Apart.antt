-- Where objects lie: each in a block at rest, and no two in one place.
use Rattle.std.proofs.Common.{◌≡◌, inl, inr, ℕ, ◌+◌, ◌*◌, ◌/◌, ◌^◌, ◌<◌, ◌≤◌, refl, sym, ap, subst, arith}
use Rattle.std.proofs.Common.{◌∙◌}
use Rattle.std.proofs.lemmas.Bool.{cases_order}
use Rattle.std.proofs.Math.Nat.{mul-le-mul_right}
use Rattle.pool_words.specs.declared.words.Key.{Key}
use Rattle.size_classes.specs.Classes.{class_size, class_objects}
use Rattle.word_codes.specs.Places.{granule_of}
use Rattle.heap_slabs.specs.Records.{unit_of}
use Rattle.guard_laws.specs.Blocks.{Use, Place, Piece}
use Rattle.guard_laws.proofs.CallerLemmas.{same_block}
use Rattle.slab_laws.specs.Heaps.{slab_of}
use Rattle.slab_laws.proofs.CallerLemmas.{room, unit-at}
use Rattle.object_laws.specs.Objects.{Held, IsOut}
use Rattle.use_laws.specs.Uses.{Purpose, block_in}
use Rattle.use_laws.specs.Pools.{Pool, PoolGood}
use Rattle.use_laws.specs.Apart.{end_of, small_end, HasUnit, RestsAt}
use Rattle.use_laws.specs.Laws.{ObjectsLieApart, ObjectsLieInBlocks}
use Rattle.use_laws.proofs.Bare.{there_kept, slab_block, object_block}

-- an object is one of a slab, or has a block of its own
data Lies (p : Pool) (u unit : ℕ) : Type 0 where
  in_slab : IsOut (p.objects.held u) → unit < small_end p.locals.book u → Lies p u unit
  in_block : (x n : ℕ) → block_in (p.objects.held u) ≡ Piece.Got x n → unit < 1024 * (x + n) → Lies p u unit

lies : (p : Pool) (u unit : ℕ) → HasUnit p u unit → Lies p u unit
lies p u unit has = by (p.objects.held u) refl has.below
  where
    small : (h : Held) → p.objects.held u ≡ h → IsOut h → unit < small_end p.locals.book u → Lies p u unit
    small h is out below = in_slab (subst IsOut (sym is) out) below

    by : (h : Held) → p.objects.held u ≡ h → unit < end_of p.locals.book u h → Lies p u unit
    by Held.NotOut is below = absurd (let from = has.from in omega arith)
    by Held.Private is below = small Held.Private is tt below
    by Held.Listed is below = small Held.Listed is tt below
    by (Held.Object g) is below = small (Held.Object g) is tt below
    by (Held.InHand t) is below = small (Held.InHand t) is tt below
    by (Held.Ready t x n) is below = in_block x n (ap block_in is) below
    by (Held.Large g x n) is below = in_block x n (ap block_in is) below

-- a slab's object: which of the slab's it is, and where
record IsSmall (k : Key) (p : Pool) (u unit : ℕ) : Type 0 where
  pub number : ℕ
  pub few : slab_of u < 2 ^ 32
  pub below : number < class_objects (p.locals.book.classes (slab_of u))
  pub at : u ≡ unit_of (slab_of u) (p.locals.book.classes (slab_of u)) number
  pub slab : p.blocks.place (slab_of u) ≡ Place.Block (slab_of u) 2 Use.Elsewhere
  pub purpose : p.purpose (slab_of u) ≡ Purpose.Slab
  pub block : p.blocks.place (granule_of unit) ≡ Place.Block (slab_of u) 2 Use.Elsewhere

small_is : (k : Key) (p : Pool) (u unit : ℕ) → PoolGood k p → u ≤ unit → IsOut (p.objects.held u)
    → unit < small_end p.locals.book u → IsSmall k p u unit
small_is k p u unit good from out below =
    let e = slab_of u in
    let class = p.locals.book.classes e in
    let inside = good.objects.out_fits.in_slab u out in
    let number = inside.1.0 in
    let record' = (good.objects.book.there e inside.0).record' in
    let few : e < 2 ^ 32 = record'.few in
    let low : number < class_objects class = (let a = inside.1.1 in let b = record'.handed in omega arith) in
    let at : u ≡ unit_of e class number = inside.1.2 in
    let kept = there_kept (p.locals.book.keeper e) inside.0 in
    let slab = slab_block p.blocks.place p.locals.book.keeper p.objects.held p.purpose e good.uses kept in
    let place = unit-at e class number few low in
    let most = room class number low in
    let more : (number + 1) * (class_size class / 8) ≡ number * (class_size class / 8) + class_size class / 8 =
    grind arith in
    let g0 : e ≤ granule_of unit = omega arith in
    let g1 : granule_of unit < e + 2 = omega arith in
    record {
      number = number;
      few = few;
      below = low;
      at = at;
      slab = slab;
      purpose = (good.uses e).slab kept;
      block = (good.guards.parts.whole e e 2 Use.Elsewhere slab).all (granule_of unit) g0 g1;
    }

record IsLarge (p : Pool) (u unit : ℕ) : Type 0 where
  pub first : ℕ
  pub granules : ℕ
  pub purpose : p.purpose first ≡ Purpose.Object u
  pub block : p.blocks.place (granule_of unit) ≡ Place.Block first granules Use.Elsewhere

large_is : (k : Key) (p : Pool) (u unit x n : ℕ) → PoolGood k p → u ≤ unit
    → block_in (p.objects.held u) ≡ Piece.Got x n → unit < 1024 * (x + n) → IsLarge p u unit
large_is k p u unit x n good from has below =
    let b = object_block p.blocks.place p.locals.book.keeper p.objects.held p.purpose u x n good.uses has in
    let long : b.granules ≡ n = let q : Piece.Got x b.granules ≡ Piece.Got x n = sym b.has ∙ has in cc in
    let low = b.from in
    let g0 : x ≤ granule_of unit = omega arith in
    let g1 : granule_of unit < x + b.granules = omega arith in
    record {
      first = x;
      granules = b.granules;
      purpose = (good.uses x).object u n has;
      block = (good.guards.parts.whole x x b.granules Use.Elsewhere b.rests).all (granule_of unit) g0 g1;
    }

pub objects_lie_in_blocks : ObjectsLieInBlocks
objects_lie_in_blocks k p u unit good has = by (lies p u unit has)
  where
    by : Lies p u unit → RestsAt p u (granule_of unit)
    by (in_slab out below) = let s = small_is k p u unit good has.from out below in
        record { first = slab_of u; granules = 2; block = s.block; purpose = inl s.purpose }
    by (in_block x n is below) = let l = large_is k p u unit x n good has.from is below in
        record { first = l.first; granules = l.granules; block = l.block; purpose = inr l.purpose }

-- the objects of one slab
below_other : (e class i j u v unit : ℕ) → e < 2 ^ 32 → i < j → j < class_objects class → u ≡ unit_of e class i
    → v ≡ unit_of e class j → u ≤ unit → unit < v + class_size class / 8 → ⊥
below_other e class i j u v unit few less below at other from to =
    let one = unit-at e class i few (omega arith) in
    let two = unit-at e class j few below in
    let most = room class j below in
    let next : (i + 1) + 1 ≤ j + 1 = omega arith in
    let m = mul-le-mul_right (class_size class / 8) next in
    let more : ((i + 1) + 1) * (class_size class / 8) ≡ (i + 1) * (class_size class / 8) + class_size class / 8 =
    grind arith in
    omega arith

one_of_slab : (e class i j u v unit : ℕ) → e < 2 ^ 32 → i < class_objects class → j < class_objects class
    → u ≡ unit_of e class i → v ≡ unit_of e class j → u ≤ unit → unit < u + class_size class / 8 → v ≤ unit
    → unit < v + class_size class / 8 → u ≡ v
one_of_slab e class i j u v unit few low below at other from to from' to' = elim (cases_order i j) [
  | inl same ↦ at ∙ ap (unit_of e class) same ∙ sym other
  | inr (inl less) ↦ absurd (below_other e class i j u v unit few less below at other from to')
  | inr (inr more) ↦ absurd (below_other e class j i v u unit few more low other at from' to)
]

pub objects_lie_apart : ObjectsLieApart
objects_lie_apart k p u v unit good has other = by (lies p u unit has) (lies p v unit other)
  where
    first_same : (x n y m : ℕ) → p.blocks.place (granule_of unit) ≡ Place.Block x n Use.Elsewhere
        → p.blocks.place (granule_of unit) ≡ Place.Block y m Use.Elsewhere → x ≡ y
    first_same x n y m a b = (same_block p.blocks.place (granule_of unit) x n y m Use.Elsewhere Use.Elsewhere a b).0

    by : Lies p u unit → Lies p v unit → u ≡ v
    by (in_slab out below) (in_slab out' below') =
        let s = small_is k p u unit good has.from out below in
        let r = small_is k p v unit good other.from out' below' in
        let same : slab_of v ≡ slab_of u = sym (first_same (slab_of u) 2 (slab_of v) 2 s.block r.block) in
        let class = p.locals.book.classes (slab_of u) in
        one_of_slab (slab_of u) class s.number r.number u v unit s.few s.below
        (subst (λ e. r.number < class_objects (p.locals.book.classes e)) same r.below) s.at
        (subst (λ e. v ≡ unit_of e (p.locals.book.classes e) r.number) same r.at) has.from below other.from
        (subst (λ e. unit < v + class_size (p.locals.book.classes e) / 8) same below')
    by (in_slab out below) (in_block x n is below') =
        let s = small_is k p u unit good has.from out below in
        let r = large_is k p v unit x n good other.from is below' in
        let same = first_same (slab_of u) 2 r.first r.granules s.block r.block in
        absurd (let q : Purpose.Slab ≡ Purpose.Object v = sym s.purpose ∙ ap p.purpose same ∙ r.purpose in cc)
    by (in_block x n is below) (in_slab out' below') =
        let s = large_is k p u unit x n good has.from is below in
        let r = small_is k p v unit good other.from out' below' in
        let same = first_same (slab_of v) 2 s.first s.granules r.block s.block in
        absurd (let q : Purpose.Slab ≡ Purpose.Object u = sym r.purpose ∙ ap p.purpose same ∙ s.purpose in cc)
    by (in_block x n is below) (in_block y m is' below') =
        let s = large_is k p u unit x n good has.from is below in
        let r = large_is k p v unit y m good other.from is' below' in
        let same = first_same s.first s.granules r.first r.granules s.block r.block in
        let q : Purpose.Object u ≡ Purpose.Object v = sym s.purpose ∙ ap p.purpose same ∙ r.purpose in cc
