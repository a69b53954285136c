-- What trimming the slab cache makes of a pool's lists, and what a free does.
use Prim.Native.Nat.{suc}
use Rattle.std.proofs.Common.{◌≡◌, ◌≢◌, ℕ, ◌+◌, ◌-◌, ◌/◌, ◌%◌, ◌<◌, ◌≤◌, Bool, true, false, cond, not, ◌==◌, nat_le, ◌⊎◌, inl, inr, List, [], ◌∷◌, ◌++◌, length, take, drop, Some, None, refl, sym, ap, ◌∙◌, subst, arith}
use Rattle.std.specs.Prelude.{Contains, if◌then◌else◌, slice_index_or}
use Rattle.std.specs.declared.option.Option.{Option}
use Rattle.std.proofs.lemmas.Bool.Decides.{nat_tests}
use Rattle.std.proofs.lemmas.Bool.{cases_eq, cases_lt, eq-eqb, ne_eqb, leb-true}
use Rattle.pool_types.specs.declared.values.Place.{Place}
use Rattle.plain_lists.specs.Lists.{OwnSlab, Block, Lists, taken_back, is_unused, changed, without}
use Rattle.plain_lists.specs.Backend.{after_put, after_puts, slab_block}
use Rattle.plain_lists.specs.Whole.{Spot, spot_at, frees, shelved, trimmed}
use Rattle.plain_lists.specs.Good.{AreGood, IsHeld}
use Rattle.list_laws.proofs.Members.{Contains-first, Contains-other}
use Rattle.list_laws.proofs.Counts.{one_if, count-cons, count-some}
use Rattle.plain_lists.proofs.Granules.{lies_on-true}
use Rattle.plain_lists.proofs.Beside.{AreGoodBeside, beside_none, at_most_once}
use Rattle.plain_lists.proofs.Blocks.{AreBlocks as AreGoodBlocks, has}
use Rattle.plain_lists.proofs.Joined.{IsBeside, blocks_on-after_put, after_put_good}
use Rattle.plain_lists.proofs.SlabLists.{Contains-changed}
use Rattle.plain_lists.proofs.Calls.{shelves}
use Rattle.plain_lists.proofs.Spots.{spot_at-Some}
use Rattle.plain_lists.proofs.Within.{stored_within}
use Rattle.plain_lists.proofs.Rooms.{Some-same}
use Rattle.plain_lists.proofs.Gets.{nones-set_none}
use Rattle.plain_pool.specs.declared.arrays.PoolArrays.{PoolArrays}
use Rattle.plain_pool.specs.declared.slabs.Held.{Held}
use Rattle.plain_pool.specs.Bins.{AreBins, IsClear}
use Rattle.plain_pool.specs.Slabs.{AreSlabs, ArePlaced, IsKept, IsIn, IsUnheld, held_of}
use Rattle.plain_pool.specs.Pool.{Has, AreStored}
use Rattle.plain_pool.proofs.SlabCalls.{nones-all}

-- the oldest slab is clear of the blocks
pub clear_of : (index : ℕ) (more : List ℕ) (blocks : List Block) → AreStored (index ∷ more) blocks → IsClear index blocks
clear_of index more blocks stored = record {
  even = stored.even index (Contains-first index more);
  inside = stored.inside index (Contains-first index more);
  apart = λ block within. apart block within (cases_lt index (block.first + block.granules)) (cases_lt block.first (index + 2));
}
  where
    clash : (block : Block) → Contains blocks block → (granule : ℕ) → index ≤ granule → granule < index + 2 → block.first ≤ granule → granule < block.first + block.granules → ⊥
    clash block within granule a b d e =
        let here : one_if (has granule (slab_block index)) ≡ 1 = ap one_if (lies_on-true index 2 granule a b) in
        let first = count-cons (λ other. has granule (slab_block other)) index more in
        let some = count-some (has granule) blocks block within (lies_on-true block.first block.granules granule d e) in
        let once = stored.once granule in omega (arith, here, first, some, once)

    apart : (block : Block) → Contains blocks block → (index < block.first + block.granules) ⊎ (block.first + block.granules ≤ index) → (block.first < index + 2) ⊎ (index + 2 ≤ block.first) → (block.first + block.granules ≤ index) ⊎ (index + 2 ≤ block.first)
    apart block within (inr before) other = inl before
    apart block within (inl a) (inr behind) = inr behind
    apart block within (inl a) (inl b) = absurd (elim (cases_lt block.first index) [
      | inl d ↦ clash block within index (omega arith) (omega arith) (omega (arith, d)) (omega (arith, a))
      | inr d ↦ clash block within block.first (omega (arith, d)) (omega (arith, b)) (omega arith) (let some = (stored.each block within).some in omega (arith, some))
    ])

-- the slabs and the blocks after it was put
pub stored_after : (index : ℕ) (more : List ℕ) (blocks : List Block) → AreStored (index ∷ more) blocks → AreStored more (after_put (slab_block index) blocks)
stored_after index more blocks stored = record {
  even = λ other within. stored.even other (Contains-other index more other within);
  inside = λ other within. stored.inside other (Contains-other index more other within);
  once = λ granule. let on = blocks_on-after_put (slab_block index) blocks beside.good beside.blocks_are granule in let first = count-cons (λ other. has granule (slab_block other)) index more in let once = stored.once granule in omega (arith, on, first, once);
  each = after.good;
  parted = after.parted;
}
  where
    beside : IsBeside (slab_block index) blocks
    beside = record {
      good = record { even = stored.even index (Contains-first index more); pairs = refl; some = omega arith };
      blocks_are = record { good = stored.each; once = λ granule. let once = stored.once granule in omega (arith, once); parted = stored.parted };
      once = λ granule. let first = count-cons (λ other. has granule (slab_block other)) index more in let once = stored.once granule in omega (arith, first, once);
    }

    after : AreGoodBlocks (after_put (slab_block index) blocks)
    after = after_put_good (slab_block index) blocks beside

-- the pool after so many slabs were put
pub record Trimming (pool : PoolArrays) (lists : Lists) (count : ℕ) : Type 0 where
  pub more : List ℕ
  pub blocks : List Block
  pub has : Has pool (record lists { stored = more; blocks = blocks })
  pub stored : AreStored more blocks
  pub long : length more + count ≡ 33
  pub puts : after_puts (take (25 - count) more) blocks ≡ after_puts (take 25 lists.stored) lists.blocks
  pub left : drop (25 - count) more ≡ drop 25 lists.stored

-- the oldest slab, while one is to be put
pub record Oldest (more : List ℕ) : Type 0 where
  pub index : ℕ
  pub rest : List ℕ
  pub is : more ≡ index ∷ rest

pub oldest : (more : List ℕ) → 0 < length more → Oldest more
oldest [] some = absurd (omega (arith, some))
oldest (index ∷ rest) some = record { index = index; rest = rest; is = refl }

pub oldest_is : (more items : List ℕ) (old : Oldest more) (x : ℕ) → items ≡ more → x ≡ slice_index_or items 0 x → x ≡ old.index
oldest_is more items old x same read = read ∙ ap (λ xs. slice_index_or xs 0 x) (same ∙ old.is)

pub trim_goes_on : (pool new : PoolArrays) (lists : Lists) (count : ℕ) (trimming : Trimming pool lists count) (old : Oldest trimming.more) → count < 25 → new.region ≡ pool.region → new.slabs ≡ pool.slabs → new.granted ≡ pool.granted → new.stored.items ≡ old.rest
    → AreBins new.bins (after_put (slab_block old.index) trimming.blocks) → Trimming new lists (count + 1)
trim_goes_on pool new lists count trimming old below region slabs granted items bins = record {
  more = old.rest;
  blocks = after_put (slab_block old.index) trimming.blocks;
  has = record { region = region ∙ trimming.has.region; slabs = subst (λ s. AreSlabs s lists.slabs) (sym slabs) trimming.has.slabs; bins = bins; stored = items; granted = granted ∙ trimming.has.granted };
  stored = stored_after old.index old.rest trimming.blocks (subst (λ xs. AreStored xs trimming.blocks) old.is trimming.stored);
  long = let l = trimming.long in let e = ap length old.is in omega (arith, l, e);
  puts = sym (ap (λ n. after_puts (take n (old.index ∷ old.rest)) trimming.blocks) next) ∙ ap (λ xs. after_puts (take (25 - count) xs) trimming.blocks) (sym old.is) ∙ trimming.puts;
  left = sym (ap (λ n. drop n (old.index ∷ old.rest)) next) ∙ ap (λ xs. drop (25 - count) xs) (sym old.is) ∙ trimming.left;
}
  where
    next : 25 - count ≡ suc (25 - (count + 1))
    next = omega (arith, below)

pub trim_ends : (pool : PoolArrays) (lists : Lists) (count : ℕ) → Trimming pool lists count → 25 ≤ count → length lists.stored ≡ 33 → Has pool (trimmed lists)
trim_ends pool lists count trimming past long =
    subst (Has pool) (sym (ap (λ (b : Bool). if b then record lists { stored = drop 25 lists.stored; blocks = after_puts (take 25 lists.stored) lists.blocks } else lists) full))
    (subst (λ bs. Has pool (record lists { stored = drop 25 lists.stored; blocks = bs })) puts
    (subst (λ xs. Has pool (record lists { stored = xs; blocks = trimming.blocks })) left trimming.has))
  where
    full : nat_le 33 (length lists.stored) ≡ true
    full = grind (arith, nat_tests, long)

    done : 25 - count ≡ 0
    done = omega (arith, past)

    puts : trimming.blocks ≡ after_puts (take 25 lists.stored) lists.blocks
    puts = ap (λ n. after_puts (take n trimming.more) trimming.blocks) (sym done) ∙ trimming.puts

    left : trimming.more ≡ drop 25 lists.stored
    left = ap (λ n. drop n trimming.more) (sym done) ∙ trimming.left

-- what a free begins with
pub record Freeing (lists : Lists) (spot : Spot) (held : Held) : Type 0 where
  pub is : IsIn held.room spot.slab lists.slabs
  pub object_is : held.object ≡ spot.object
  pub holds : IsHeld spot.slab spot.object spot.number

pub freeing : (lists : Lists) (place : Place) (spot : Spot) (held : Held) → AreGood lists → spot_at lists place ≡ Some spot → held_of (Some spot) ≡ Some held → Freeing lists spot held
freeing lists place spot held good found same =
    let at = spot_at-Some lists place spot found in
    let parts : ◌≡◌ {A = Held} (record { room = spot.slab.index / 2; class = spot.slab.class; object = spot.object }) held = Some-same (record { room = spot.slab.index / 2; class = spot.slab.class; object = spot.object }) held same in
    let room : spot.slab.index / 2 ≡ held.room = ap (λ (h : Held). h.room) parts in
    let even = (good.slabs_are spot.slab at.listed).even in
    record { is = record { member = at.listed; at_room = omega (arith, room, even) }; object_is = ap (λ (h : Held). h.object) (sym parts); holds = at.held }

-- no object is held where as many are private as were handed out
pub unheld_back : (slab : OwnSlab) (object number : ℕ) → IsKept slab → IsHeld slab object number → is_unused (taken_back slab object) ≡ true → IsUnheld (taken_back slab object)
unheld_back slab object number kept held unused other other_number is =
    nones-all (taken_back slab object).objects other other_number (let few = leb-true (length (taken_back slab object).objects) (suc (length slab.private)) unused in let all = nones-set_none slab.objects object number held in let counted = kept.counted in omega (arith, few, all, counted)) is

-- the places of the slabs stay where one changes
pub placed_changed : (slabs : List OwnSlab) (room : ℕ) (slab new : OwnSlab) → ArePlaced slabs → IsIn room slab slabs → new.index ≡ slab.index → new.class ≡ slab.class → ArePlaced (changed new slabs)
placed_changed slabs room slab new placed is index_is class_is = record {
  classes = λ one within. elim (Contains-changed new slabs one within) [ inl same ↦ subst (λ (s : OwnSlab). s.class < 26) same (subst (λ n. n < 26) (sym class_is) (placed.classes slab is.member)) | inr (was, differ) ↦ placed.classes one was ];
  even = λ one within. elim (Contains-changed new slabs one within) [ inl same ↦ subst (λ (s : OwnSlab). s.index % 2 ≡ 0) same (subst (λ n. n % 2 ≡ 0) (sym index_is) (placed.even slab is.member)) | inr (was, differ) ↦ placed.even one was ];
  inside = λ one within. elim (Contains-changed new slabs one within) [ inl same ↦ subst (λ (s : OwnSlab). s.index + 2 ≤ 128) same (subst (λ n. n + 2 ≤ 128) (sym index_is) (placed.inside slab is.member)) | inr (was, differ) ↦ placed.inside one was ];
  one = λ one other in_one in_other same. two one other (Contains-changed new slabs one in_one) (Contains-changed new slabs other in_other) same;
}
  where
    two : (one other : OwnSlab) → (new ≡ one) ⊎ (Contains slabs one × (one.index ≢ new.index)) → (new ≡ other) ⊎ (Contains slabs other × (other.index ≢ new.index)) → one.index ≡ other.index → one ≡ other
    two one other (inl a) (inl b) same = sym a ∙ b
    two one other (inl a) (inr b) same = absurd (b.1 (sym same ∙ ap (λ (s : OwnSlab). s.index) (sym a)))
    two one other (inr a) (inl b) same = absurd (a.1 (same ∙ ap (λ (s : OwnSlab). s.index) (sym b)))
    two one other (inr a) (inr b) same = placed.one one other a.0 b.0 same

-- a slab that changed leaves as it was
pub without_changed : (new : OwnSlab) (slabs : List OwnSlab) → without new.index (changed new slabs) ≡ without new.index slabs
without_changed new [] = refl
without_changed new (one ∷ slabs) = go (cases_eq one.index new.index) (without_changed new slabs)
  where
    go : (one.index ≡ new.index) ⊎ (one.index ≡ new.index → ⊥) → without new.index (changed new slabs) ≡ without new.index slabs → without new.index (changed new (one ∷ slabs)) ≡ without new.index (one ∷ slabs)
    go (inl same) rest =
        ap (λ (b : Bool). cond (not ((if b then new else one).index == new.index)) ((if b then new else one) ∷ without new.index (changed new slabs)) (without new.index (changed new slabs))) (eq-eqb one.index new.index same)
        ∙ ap (λ b. cond (not b) (new ∷ without new.index (changed new slabs)) (without new.index (changed new slabs))) (eq-eqb new.index new.index refl)
        ∙ rest ∙ sym (ap (λ b. cond (not b) (one ∷ without new.index slabs) (without new.index slabs)) (eq-eqb one.index new.index same))
    go (inr differ) rest =
        ap (λ (b : Bool). cond (not ((if b then new else one).index == new.index)) ((if b then new else one) ∷ without new.index (changed new slabs)) (without new.index (changed new slabs))) (ne_eqb one.index new.index differ)
        ∙ ap (λ xs. cond (not (one.index == new.index)) (one ∷ xs) xs) rest

-- the slab cache with the slab that left is apart from the blocks
pub shelved_stored : (lists : Lists) (slab : OwnSlab) → AreGood lists → Contains lists.slabs slab → AreStored (lists.stored ++ slab.index ∷ []) lists.blocks
shelved_stored lists slab good member = record {
  even = λ index within. beside.stored_are index within;
  inside = λ index within. (stored_within [] (record lists { slabs = without slab.index lists.slabs; stored = lists.stored ++ slab.index ∷ [] }) beside index within).1;
  once = λ granule. let once = at_most_once [] (record lists { slabs = without slab.index lists.slabs; stored = lists.stored ++ slab.index ∷ [] }) beside granule in omega (arith, once);
  each = good.blocks_are;
  parted = good.parted;
}
  where
    beside : AreGoodBeside [] (record lists { slabs = without slab.index lists.slabs; stored = lists.stored ++ slab.index ∷ [] })
    beside = shelves [] lists slab (beside_none lists good) member

-- a free of the last object that is held of a slab, and of another one
pub frees_last : (lists : Lists) (spot : Spot) → is_unused (taken_back spot.slab spot.object) ≡ true → shelved lists spot.slab.index ≡ frees lists spot
frees_last lists spot is = sym (ap (λ (b : Bool). if b then shelved lists spot.slab.index else record lists { slabs = changed (taken_back spot.slab spot.object) lists.slabs }) is)

pub frees_one : (lists : Lists) (spot : Spot) → is_unused (taken_back spot.slab spot.object) ≡ false → record lists { slabs = changed (taken_back spot.slab spot.object) lists.slabs } ≡ frees lists spot
frees_one lists spot is = sym (ap (λ (b : Bool). if b then shelved lists spot.slab.index else record lists { slabs = changed (taken_back spot.slab spot.object) lists.slabs }) is)

-- the spot of an object that is held
pub record HeldSpot (o : Option Spot) (held : Held) : Type 0 where
  pub spot : Spot
  pub found : o ≡ Some spot
  pub same : held_of (Some spot) ≡ Some held

pub held_spot : (o : Option Spot) (held : Held) → Some held ≡ held_of o → HeldSpot o held
held_spot None held e = absurd (let none = e in cc)
held_spot (Some spot) held e = record { spot = spot; found = refl; same = sym e }

pub no_held_spot : (o : Option Spot) → None ≡ held_of o → o ≡ None
no_held_spot None e = refl
no_held_spot (Some spot) e = absurd (let none = e in cc)
