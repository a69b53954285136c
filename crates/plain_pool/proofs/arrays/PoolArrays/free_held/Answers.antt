use Rattle.std.proofs.Common.{◌≡◌, ◌*◌, ◌++◌, ◌∷◌, [], ℕ, sym, ap, subst, refl, ◌∙◌, arith}
use Rattle.std.proofs.lemmas.Grind.{common_steps}
use Rattle.plain_lists.specs.Lists.{Lists, taken_back, is_unused, changed, without}
use Rattle.plain_lists.specs.Whole.{Spot, trimmed}
use Rattle.pool_types.specs.declared.values.Place.{Place}
use Rattle.plain_lists.specs.Good.{AreGood, IsHeld}
use Rattle.plain_lists.proofs.SlabLists.{changed-itself}
use Rattle.plain_pool.specs.declared.arrays.PoolArrays.{PoolArrays}
use Rattle.plain_pool.specs.declared.slabs.Slabs.{Slabs}
use Rattle.plain_pool.specs.declared.slabs.Held.{Held}
use Rattle.plain_pool.specs.Slabs.{AreSlabs}
use Rattle.plain_pool.specs.Pool.{Has, Stands, AreStored}
use Rattle.plain_pool.proofs.CallLemmas.{lists_kept}
use Rattle.plain_pool.proofs.TrimLemmas.{Freeing, freeing, placed_changed, unheld_back, without_changed, shelved_stored, frees_last, frees_one}
use Rattle.plain_pool.proofs.arrays.PoolArrays.free_held.Goals as goal

-- the object that is held
holds : (lists : Lists) (spot : Spot) (held : Held) → Freeing lists spot held → IsHeld spot.slab held.object spot.number
holds lists spot held f = subst (λ o. IsHeld spot.slab o spot.number) (sym f.object_is) f.holds

pub take_back-requires : goal.take_back-requires
take_back-requires c = let (lists, place, spot, stands, found, same) = c.requires in
    let f = freeing lists place spot c.args.held stands.good found same in
    (lists.slabs, spot.slab, spot.number, stands.arrays.slabs, lists_kept lists stands.good, f.is, holds lists spot c.args.held f)

pub leave-requires : goal.leave-requires
leave-requires c = let (lists, place, spot, stands, found, same) = c.requires in
    let f = freeing lists place spot c.args.held stands.good found same in
    let kept = lists_kept lists stands.good in
    let h = holds lists spot c.args.held f in (
      changed (taken_back spot.slab c.args.held.object) lists.slabs,
      taken_back spot.slab c.args.held.object,
      c.take_back.ensures.slabs lists.slabs spot.slab spot.number stands.arrays.slabs kept f.is h,
      placed_changed lists.slabs c.args.held.room spot.slab (taken_back spot.slab c.args.held.object) kept.placed f.is refl refl,
      record { member = changed-itself (taken_back spot.slab c.args.held.object) lists.slabs spot.slab f.is.member refl; at_room = f.is.at_room },
      unheld_back spot.slab c.args.held.object spot.number (kept.each spot.slab f.is.member) h (sym (c.take_back.ensures.unused lists.slabs spot.slab spot.number stands.arrays.slabs kept f.is h) ∙ c.if-take_back.true),
    )

pub overflow_mul-held : goal.overflow_mul-held
overflow_mul-held c = let (lists, place, spot, stands, found, same) = c.requires in
    let f = freeing lists place spot c.args.held stands.good found same in
    let inside = (lists_kept lists stands.good).placed.inside spot.slab f.is.member in let at = f.is.at_room in grind (arith, common_steps)

-- the pool once the slab left
left : (pool : PoolArrays) (lists : Lists) (spot : Spot) (held : Held) (slabs : Slabs) → Stands pool lists → AreSlabs slabs (without spot.slab.index (changed (taken_back spot.slab held.object) lists.slabs))
    → Has (record pool { slabs = slabs }) (record lists { slabs = without spot.slab.index lists.slabs })
left pool lists spot held slabs stands fit = record {
  region = stands.arrays.region;
  slabs = subst (AreSlabs slabs) (without_changed (taken_back spot.slab held.object) lists.slabs) fit;
  bins = stands.arrays.bins;
  stored = stands.arrays.stored;
  granted = stands.arrays.granted;
}

-- the slab cache with it
shelf : (lists : Lists) (place : Place) (spot : Spot) (held : Held) → (good : AreGood lists) → Freeing lists spot held → AreStored (lists.stored ++ (2 * held.room) ∷ []) lists.blocks
shelf lists place spot held good f = subst (λ n. AreStored (lists.stored ++ n ∷ []) lists.blocks) f.is.at_room (shelved_stored lists spot.slab good f.is.member)

pub store-requires : goal.store-requires
store-requires c = let (lists, place, spot, stands, found, same) = c.requires in
    let f = freeing lists place spot c.args.held stands.good found same in
    let kept = lists_kept lists stands.good in
    let h = holds lists spot c.args.held f in
    let gone = c.leave.ensures (changed (taken_back spot.slab c.args.held.object) lists.slabs) (taken_back spot.slab c.args.held.object)
    (c.take_back.ensures.slabs lists.slabs spot.slab spot.number stands.arrays.slabs kept f.is h)
    (placed_changed lists.slabs c.args.held.room spot.slab (taken_back spot.slab c.args.held.object) kept.placed f.is refl refl)
    (record { member = changed-itself (taken_back spot.slab c.args.held.object) lists.slabs spot.slab f.is.member refl; at_room = f.is.at_room })
    (unheld_back spot.slab c.args.held.object spot.number (kept.each spot.slab f.is.member) h (sym (c.take_back.ensures.unused lists.slabs spot.slab spot.number stands.arrays.slabs kept f.is h) ∙ c.if-take_back.true)) in
    (record lists { slabs = without spot.slab.index lists.slabs }, left c.args.self.now lists spot c.args.held c.leave.new.self stands gone, shelf lists place spot c.args.held stands.good f, stands.good.few)

pub returns-then-take_back : goal.returns-then-take_back
returns-then-take_back c lists place spot stands found same =
    let f = freeing lists place spot c.args.held stands.good found same in
    let kept = lists_kept lists stands.good in
    let h = holds lists spot c.args.held f in
    let unused = sym (c.take_back.ensures.unused lists.slabs spot.slab spot.number stands.arrays.slabs kept f.is h) ∙ c.if-take_back.true in
    let gone = c.leave.ensures (changed (taken_back spot.slab c.args.held.object) lists.slabs) (taken_back spot.slab c.args.held.object)
    (c.take_back.ensures.slabs lists.slabs spot.slab spot.number stands.arrays.slabs kept f.is h)
    (placed_changed lists.slabs c.args.held.room spot.slab (taken_back spot.slab c.args.held.object) kept.placed f.is refl refl)
    (record { member = changed-itself (taken_back spot.slab c.args.held.object) lists.slabs spot.slab f.is.member refl; at_room = f.is.at_room })
    (unheld_back spot.slab c.args.held.object spot.number (kept.each spot.slab f.is.member) h unused) in
    subst (Has c.store.new.self)
    (ap (λ n. trimmed (record lists { slabs = without spot.slab.index lists.slabs; stored = lists.stored ++ n ∷ [] })) (sym f.is.at_room)
    ∙ frees_last lists spot (ap (λ o. is_unused (taken_back spot.slab o)) (sym f.object_is) ∙ unused))
    (c.store.ensures (record lists { slabs = without spot.slab.index lists.slabs }) (left c.args.self.now lists spot c.args.held c.leave.new.self stands gone) (shelf lists place spot c.args.held stands.good f) stands.good.few)

-- the pool once the object came back
back : (pool : PoolArrays) (lists : Lists) (spot : Spot) (object : ℕ) (slabs : Slabs) → Stands pool lists → object ≡ spot.object → AreSlabs slabs (changed (taken_back spot.slab object) lists.slabs)
    → Has (record pool { slabs = slabs }) (record lists { slabs = changed (taken_back spot.slab spot.object) lists.slabs })
back pool lists spot object slabs stands same fit = record {
  region = stands.arrays.region;
  slabs = subst (λ o. AreSlabs slabs (changed (taken_back spot.slab o) lists.slabs)) same fit;
  bins = stands.arrays.bins;
  stored = stands.arrays.stored;
  granted = stands.arrays.granted;
}

pub returns-else-take_back : goal.returns-else-take_back
returns-else-take_back c lists place spot stands found same =
    let f = freeing lists place spot c.args.held stands.good found same in
    let kept = lists_kept lists stands.good in
    let h = holds lists spot c.args.held f in
    let used = sym (c.take_back.ensures.unused lists.slabs spot.slab spot.number stands.arrays.slabs kept f.is h) ∙ c.if-take_back.false in
    subst (Has (record c.args.self.now { slabs = c.take_back.new.self })) (frees_one lists spot (ap (λ o. is_unused (taken_back spot.slab o)) (sym f.object_is) ∙ used))
    (back c.args.self.now lists spot c.args.held.object c.take_back.new.self stands f.object_is (c.take_back.ensures.slabs lists.slabs spot.slab spot.number stands.arrays.slabs kept f.is h))
