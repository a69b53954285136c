-- A slab that is begun lies in the seat's hand, so it is of the pool, and no heap keeps it.
use Rattle.std.proofs.Common.{◌≡◌, ◌≢◌, ℕ, None, sym, subst, arith, ◌∙◌}
use Rattle.pool_words.specs.declared.words.Key.{Key}
use Rattle.heap_slabs.specs.Slabs.{record_at}
use Rattle.guards.specs.declared.win.Taking.{Taking}
use Rattle.guard_laws.specs.Blocks.{Place, Use}
use Rattle.slab_laws.specs.Books.{Keeper}
use Rattle.use_laws.specs.Uses.{IsKept, PurposeFits}
use Rattle.step_local.specs.declared.frames.At.{At}
use Rattle.step_local.specs.declared.frames.Local.{Local}
use Rattle.step_local.specs.declared.frames.SmallAt.{SmallAt}
use Rattle.step_fits.specs.Positions.{BeginsNewAt, BeginsNewIn, IsNewSlab}
use Rattle.hand_blocks.specs.Hands.{hands_at}
use Rattle.pool_laws.specs.Wholes.{Whole, WholeGood}
use Rattle.seat_ties.specs.Ties.{AreInHand}

-- no slab begins at a block in hand
not_kept : (k : Key) (w : Whole) (slab n seat other : ℕ) (taking : Taking) → WholeGood k w
    → w.pool.blocks.place slab ≡ Place.Block slab n (Use.Held seat taking)
    → w.pool.locals.book.keeper slab ≢ Keeper.By other
not_kept k w slab n seat other taking good lies by =
    let kept : IsKept (w.pool.locals.book.keeper slab) = subst IsKept (sym by) tt in
    let uses = good.free.pool.uses slab in
    let fits = subst (PurposeFits slab (w.pool.blocks.place slab) (w.pool.locals.book.keeper slab) w.pool.objects.held)
    (uses.slab kept) uses.fits in
    let e : Place.Block slab n (Use.Held seat taking) ≡ Place.Block slab 2 Use.Elsewhere = sym lies ∙ fits.0 in cc

new_slab : (k : Key) (w : Whole) (l : Local) (slab : ℕ) → WholeGood k w → w.pool.kept l.seat ≡ l.heap.slabs
    → w.pool.blocks.place slab ≡ Place.Block slab 2 (Use.Held l.seat Taking.ForUse)
    → IsNewSlab k l.heap.slabs slab
new_slab k w l slab good kept lies = record {
  inside = (let end = good.free.pool.guards.parts.within slab 2 (Use.Held l.seat Taking.ForUse) lies in omega arith);
  strange = subst (λ heap. record_at heap.records slab ≡ None) kept
      (good.free.pool.slabs.records.strange slab l.seat
      (not_kept k w slab 2 l.seat l.seat Taking.ForUse good lies));
}

new_in : (k : Key) (w : Whole) (l : Local) (at : SmallAt) → WholeGood k w → w.pool.kept l.seat ≡ l.heap.slabs
    → AreInHand w.pool.blocks.place l.seat (hands_at l (At.Small at)) → BeginsNewIn k l at
new_in k w l (SmallAt.Kind slab) good kept are = new_slab k w l slab good kept are.0
new_in k w l _ good kept are = tt

pub new_at : (k : Key) (w : Whole) (l : Local) (at : At) → WholeGood k w → w.pool.kept l.seat ≡ l.heap.slabs
    → AreInHand w.pool.blocks.place l.seat (hands_at l at) → BeginsNewAt k l at
new_at k w l (At.Small at) good kept are = new_in k w l at good kept are
new_at k w l _ good kept are = tt
