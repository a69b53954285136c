-- What each step leaves as it was.
use Rattle.std.proofs.Common.{◌≡◌, ◌≢◌, ℕ, ◌-◌, length, sym, ap, subst, ◌∙◌}
use Rattle.pool_words.specs.declared.words.Key.{Key}
use Rattle.guards.specs.declared.win.Taking.{Taking}
use Rattle.word_laws.specs.Memory.{put}
use Rattle.word_laws.proofs.CallerLemmas.{put-other, each}
use Rattle.guard_laws.specs.Blocks.{Use, Place, put_range, BlocksWhole}
use Rattle.guard_laws.proofs.CallerLemmas.{same_block, used_moves, others_leave_hands}
use Rattle.slab_laws.specs.Books.{Keeper}
use Rattle.use_laws.specs.Uses.{Purpose, IsKept, UseFits}
use Rattle.use_laws.specs.Pools.{Pool, PoolGood, InHand}
use Rattle.use_laws.specs.Steps.{PoolStep}
use Rattle.use_laws.specs.Stays.{HandStays, ShelfStays}
use Rattle.use_laws.specs.Laws.{OthersLeaveBlocksInHand, OtherStepsLeaveTheShelf}
use Rattle.use_laws.proofs.Bare.{slab_block}
use Rattle.use_laws.proofs.Quiet.{guards_are_quiet}
use Rattle.use_laws.proofs.Large.{not_at_rest, freed_rests}
use Rattle.use_laws.proofs.Slabs.{cached_by}

-- one block has another use, which was in no hand of this seat
hand_put : (place : ℕ → Place) (seat x n : ℕ) (was now : Use) → BlocksWhole place → place x ≡ Place.Block x n was
    → ((taking : Taking) → was ≢ Use.Held seat taking)
    → HandStays place (put_range place x n (Place.Block x n now)) seat
hand_put place t x n was now whole at ne y m taking is = (used_moves place x n was now whole at).to y m
    (Use.Held t taking) (λ same. ne taking (same_block place x x n x m was (Use.Held t taking) at
    (subst (λ z. place z ≡ Place.Block z m (Use.Held t taking)) same is)).2) is

held_else : (seat other : ℕ) (taking : Taking) → other ≢ seat → (taking' : Taking)
    → Use.Held other taking ≢ Use.Held seat taking'
held_else t o taking ne taking' q = ne (cc)

rest_else : (seat : ℕ) (taking : Taking) → Use.Elsewhere ≢ Use.Held seat taking
rest_else t taking q = cc

-- a block that comes to rest was in the stepping seat's hand
from_hand : (k : Key) (p : Pool) (seat other x n : ℕ) (now : Use) → InHand p other x n Taking.ForUse → other ≢ seat
    → PoolGood k p → HandStays p.blocks.place (put_range p.blocks.place x n (Place.Block x n now)) seat
from_hand k p t o x n now has ne good = hand_put p.blocks.place t x n (Use.Held o Taking.ForUse) now
    good.guards.parts.whole has.block (held_else t o Taking.ForUse ne)

from_rest : (k : Key) (p : Pool) (seat x n : ℕ) (now : Use) → p.blocks.place x ≡ Place.Block x n Use.Elsewhere
    → PoolGood k p → HandStays p.blocks.place (put_range p.blocks.place x n (Place.Block x n now)) seat
from_rest k p t x n now at good =
    hand_put p.blocks.place t x n Use.Elsewhere now good.guards.parts.whole at (rest_else t)

pub kept_by : (q : Keeper) (seat : ℕ) → q ≡ Keeper.By seat → IsKept q
kept_by q t is = subst IsKept (sym is) tt

pub kept_cached : (q : Keeper) (seat : ℕ) → q ≡ Keeper.Cached seat → IsKept q
kept_cached q t is = subst IsKept (sym is) tt

pub block_of : (k : Key) (p : Pool) (e : ℕ) → IsKept (p.locals.book.keeper e) → PoolGood k p
    → p.blocks.place e ≡ Place.Block e 2 Use.Elsewhere
block_of k p e kept good = slab_block p.blocks.place p.locals.book.keeper p.objects.held p.purpose e good.uses kept

pub others_leave_blocks_in_hand : OthersLeaveBlocksInHand
others_leave_blocks_in_hand k t o p later good (PoolStep.guards h m' tasks step keeps same) ne x n taking is =
    (others_leave_hands k t o p.blocks p.mem p.tasks h m' tasks x n taking good.guards step ne is).place
others_leave_blocks_in_hand k t o p later good (PoolStep.objects h m' l' step plain) ne x n taking is = is
others_leave_blocks_in_hand k t o p later good (PoolStep.frees call kind at few task own) ne x n taking is = is
others_leave_blocks_in_hand k t o p later good (PoolStep.frees_block c y m at w few j ends away) ne x n taking is =
    from_rest k p t y m (Use.Held o w) (freed_rests k p o c y m at j ends good).1 good x n taking is
others_leave_blocks_in_hand k t o p later good (PoolStep.takes e head below few task) ne x n taking is = is
others_leave_blocks_in_hand k t o p later good (PoolStep.rests e unit few task) ne x n taking is = is
others_leave_blocks_in_hand k t o p later good (PoolStep.joins e first last count task) ne x n taking is = is
others_leave_blocks_in_hand k t o p later good (PoolStep.readies y m unit has away fits low high few) ne x n taking is =
    from_hand k p t o y m Use.Elsewhere has ne good x n taking is
others_leave_blocks_in_hand k t o p later good (PoolStep.slab_begins e class has away even low) ne x n taking is =
    from_hand k p t o e 2 Use.Elsewhere has ne good x n taking is
others_leave_blocks_in_hand k t o p later good (PoolStep.slab_ends e taken free away by none) ne x n taking is =
    from_rest k p t e 2 (Use.Held o taken) (block_of k p e (kept_by (p.locals.book.keeper e) o by) good) good x n taking
    is
others_leave_blocks_in_hand k t o p later good (PoolStep.slab_cached e has even room) ne x n taking is =
    from_hand k p t o e 2 Use.Elsewhere has ne good x n taking is
others_leave_blocks_in_hand k t o p later good (PoolStep.newest_out e taken free at) ne x n taking is =
    let by = cached_by k p o e (length (p.cached o).items - 1) at good in
    let block = block_of k p e (kept_cached (p.locals.book.keeper e) o by) good in
    from_rest k p t e 2 (Use.Held o taken) block good x n taking is
others_leave_blocks_in_hand k t o p later good (PoolStep.oldest_out e taken free at) ne x n taking is =
    let by = cached_by k p o e 0 at good in
    let block = block_of k p e (kept_cached (p.locals.book.keeper e) o by) good in
    from_rest k p t e 2 (Use.Held o taken) block good x n taking is
others_leave_blocks_in_hand k t o p later good (PoolStep.clears e m taken has) ne x n taking is = is
others_leave_blocks_in_hand k t o p later good (PoolStep.stores_header e by) ne x n taking is = is
others_leave_blocks_in_hand k t o p later good (PoolStep.leaves e away by header) ne x n taking is = is
others_leave_blocks_in_hand k t o p later good (PoolStep.comes chain away orphans) ne x n taking is = is
others_leave_blocks_in_hand k t o p later good (PoolStep.goes_back e away has) ne x n taking is = is
others_leave_blocks_in_hand k t o p later good (PoolStep.adopts e away has) ne x n taking is = is
others_leave_blocks_in_hand k t o p later good (PoolStep.shelves y m has) ne x n taking is =
    from_hand k p t o y m Use.Elsewhere has ne good x n taking is
others_leave_blocks_in_hand k t o p later good (PoolStep.unshelves y m taken free shelved rests) ne x n taking is =
    from_rest k p t y m (Use.Held o taken) rests good x n taking is

-- the cache
shelf_same : (place : ℕ → Place) (purpose : ℕ → Purpose) → ShelfStays place place purpose purpose
shelf_same place purpose = record { to = λ x is. is; from = λ x is. is; rests = λ x n s is. is }

shelf_put : (place : ℕ → Place) (purpose : ℕ → Purpose) (x n : ℕ) (was now : Use) (r : Purpose) → BlocksWhole place
    → place x ≡ Place.Block x n was → purpose x ≢ Purpose.Shelved → r ≢ Purpose.Shelved
    → ShelfStays place (put_range place x n (Place.Block x n now)) purpose (put purpose x r)
shelf_put place purpose x n was now r whole at not now_not = record {
  to = λ y is. put-other purpose x r y (other y is) ∙ is;
  from = each (λ y q. q ≡ Purpose.Shelved → purpose y ≡ Purpose.Shelved) purpose x r (λ y _ is. is)
      (λ is. absurd (now_not is));
  rests = λ y m is at'. (used_moves place x n was now whole at).to y m Use.Elsewhere (other y is) at';
}
  where
    other : (y : ℕ) → purpose y ≡ Purpose.Shelved → y ≢ x
    other y is same = not (ap purpose (sym same) ∙ is)

-- a block in hand does not lie in the cache
hand_not_shelved : (k : Key) (p : Pool) (seat x n : ℕ) (taking : Taking) → InHand p seat x n taking → PoolGood k p
    → p.purpose x ≢ Purpose.Shelved
hand_not_shelved k p t x n taking has good is = by (p.purpose x) is (good.uses x)
  where
    by : (q : Purpose) → q ≡ Purpose.Shelved
        → UseFits x (p.blocks.place x) (p.locals.book.keeper x) p.objects.held q → ⊥
    by Purpose.Spare same use' = cc
    by Purpose.Slab same use' = cc
    by (Purpose.Object u) same use' = cc
    by Purpose.Shelved same use' =
        not_at_rest t taking (same_block p.blocks.place x x n x use'.fits.0 (Use.Held t taking) Use.Elsewhere has.block
        use'.fits.1).2

shelf_hand : (k : Key) (p : Pool) (seat x n : ℕ) (r : Purpose) → InHand p seat x n Taking.ForUse
    → r ≢ Purpose.Shelved → PoolGood k p
    → ShelfStays p.blocks.place (put_range p.blocks.place x n (Place.Block x n Use.Elsewhere)) p.purpose
    (put p.purpose x r)
shelf_hand k p t x n r has not good = shelf_put p.blocks.place p.purpose x n (Use.Held t Taking.ForUse) Use.Elsewhere r
    good.guards.parts.whole has.block (hand_not_shelved k p t x n Taking.ForUse has good) not

shelf_slab : (k : Key) (p : Pool) (e : ℕ) (now : Use) → IsKept (p.locals.book.keeper e) → PoolGood k p
    → ShelfStays p.blocks.place (put_range p.blocks.place e 2 (Place.Block e 2 now)) p.purpose
    (put p.purpose e Purpose.Spare)
shelf_slab k p e now kept good = shelf_put p.blocks.place p.purpose e 2 Use.Elsewhere now Purpose.Spare
    good.guards.parts.whole (block_of k p e kept good)
    (λ is. let q : Purpose.Slab ≡ Purpose.Shelved = sym ((good.uses e).slab kept) ∙ is in cc) (λ q. cc)

pub other_steps_leave_the_shelf : OtherStepsLeaveTheShelf
other_steps_leave_the_shelf k t p later good (PoolStep.guards h m' tasks step keeps same) leaves =
    let quiet = guards_are_quiet k t p.blocks p.mem p.tasks h m' tasks step keeps good.guards in record {
      to = λ x is. is;
      from = λ x is. is;
      rests = λ x n is at. quiet.to x n at;
    }
other_steps_leave_the_shelf k t p later good (PoolStep.objects h m' l' step plain) leaves =
    shelf_same p.blocks.place p.purpose
other_steps_leave_the_shelf k t p later good (PoolStep.frees call kind at few is own) leaves =
    shelf_same p.blocks.place p.purpose
other_steps_leave_the_shelf k t p later good (PoolStep.frees_block call x n at taking few is ends away) leaves =
    let freed = freed_rests k p t call x n at is ends good in
    shelf_put p.blocks.place p.purpose x n Use.Elsewhere (Use.Held t taking) Purpose.Spare good.guards.parts.whole
    freed.1 (λ s. let q : Purpose.Object call.unit ≡ Purpose.Shelved = sym freed.2 ∙ s in cc) (λ q. cc)
other_steps_leave_the_shelf k t p later good (PoolStep.takes e head below few is) leaves =
    shelf_same p.blocks.place p.purpose
other_steps_leave_the_shelf k t p later good (PoolStep.rests e unit few is) leaves =
    shelf_same p.blocks.place p.purpose
other_steps_leave_the_shelf k t p later good (PoolStep.joins e first last count is) leaves =
    shelf_same p.blocks.place p.purpose
other_steps_leave_the_shelf k t p later good (PoolStep.readies x n unit has away fits low high few) leaves =
    shelf_hand k p t x n (Purpose.Object unit) has (λ q. cc) good
other_steps_leave_the_shelf k t p later good (PoolStep.slab_begins e class has away even low) leaves =
    shelf_hand k p t e 2 Purpose.Slab has (λ q. cc) good
other_steps_leave_the_shelf k t p later good (PoolStep.slab_ends e taking free away by none) leaves =
    shelf_slab k p e (Use.Held t taking) (kept_by (p.locals.book.keeper e) t by) good
other_steps_leave_the_shelf k t p later good (PoolStep.slab_cached e has even room) leaves =
    shelf_hand k p t e 2 Purpose.Slab has (λ q. cc) good
other_steps_leave_the_shelf k t p later good (PoolStep.newest_out e taking free is) leaves =
    let by = cached_by k p t e (length (p.cached t).items - 1) is good in
    shelf_slab k p e (Use.Held t taking) (kept_cached (p.locals.book.keeper e) t by) good
other_steps_leave_the_shelf k t p later good (PoolStep.oldest_out e taking free is) leaves =
    let by = cached_by k p t e 0 is good in
    shelf_slab k p e (Use.Held t taking) (kept_cached (p.locals.book.keeper e) t by) good
other_steps_leave_the_shelf k t p later good (PoolStep.clears e n taking has) leaves =
    shelf_same p.blocks.place p.purpose
other_steps_leave_the_shelf k t p later good (PoolStep.stores_header e by) leaves =
    shelf_same p.blocks.place p.purpose
other_steps_leave_the_shelf k t p later good (PoolStep.leaves e away by header) leaves =
    shelf_same p.blocks.place p.purpose
other_steps_leave_the_shelf k t p later good (PoolStep.comes chain away orphans) leaves =
    shelf_same p.blocks.place p.purpose
other_steps_leave_the_shelf k t p later good (PoolStep.goes_back e away has) leaves =
    shelf_same p.blocks.place p.purpose
other_steps_leave_the_shelf k t p later good (PoolStep.adopts e away has) leaves =
    shelf_same p.blocks.place p.purpose
other_steps_leave_the_shelf k t p later good (PoolStep.shelves x n has) leaves = absurd leaves
other_steps_leave_the_shelf k t p later good (PoolStep.unshelves x n taking free shelved rests) leaves = absurd leaves
