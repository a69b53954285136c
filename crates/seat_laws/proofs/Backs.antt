-- The steps by which what was given back to an adopted slab is joined, and a slab begins or ends, leave all other
-- seats alone.
use Rattle.std.proofs.Common.{◌≡◌, ◌≢◌, ℕ, Option, refl, sym, subst}
use Rattle.pool_words.specs.declared.words.Key.{Key}
use Rattle.guards.specs.declared.win.Taking.{Taking}
use Rattle.public_list.specs.declared.joining.JoinAt.{JoinAt}
use Rattle.public_list.specs.declared.joining.JoinNext.{JoinNext}
use Rattle.public_list.specs.Joining.{join_course, join_learn}
use Rattle.word_laws.specs.Memory.{found, put}
use Rattle.guard_laws.specs.Blocks.{Place, Use}
use Rattle.mail_laws.specs.Mail as mailing
use Rattle.mail_laws.specs.Mail.{Mail}
use Rattle.object_laws.specs.Steps.{join_of}
use Rattle.orphan_laws.specs.Orphans.{Task}
use Rattle.orphan_laws.specs.Steps.{with_way}
use Rattle.slab_laws.specs.Books.{Keeper}
use Rattle.use_laws.specs.After.{pool_begun, pool_ended, pool_joined}
use Rattle.use_laws.specs.Pools.{InHand}
use Rattle.use_laws.specs.Uses.{IsKept}
use Rattle.pool_laws.specs.Steps.{pool_back}
use Rattle.pool_laws.specs.Wholes.{Whole, WholeGood}
use Rattle.seat_hands.specs.Moved.{HandsStand}
use Rattle.seat_laws.specs.Stays.{PoolStays, SeatStays, TasksStay}
use Rattle.seat_laws.proofs.Alone.{SameGuards, after_spared, blocks_stay, lists_stay, not_put, stand_same, stand_used}
use Rattle.seat_laws.proofs.Alone.{stored_spared}
use Rattle.seat_laws.proofs.Freed.{kept_rests}
use Rattle.seat_laws.proofs.Objects.{join_spares, own_joined}
use Rattle.seat_laws.proofs.Uses.{pool_leaves, pool_stays}

-- a step of the pool, of mail and of orphans at once
pub parts_leave : (w later : Whole) (t : ℕ) → PoolStays w.pool later.pool t → TasksStay w later t
    → SameGuards w.pool.mem later.pool.mem → HandsStand later.pool.blocks.place w.pool.blocks.place t
    → later.settled ≡ w.settled → later.items ≡ w.items → SeatStays w later t
parts_leave w later t pool tasks words stand settled items = record {
  pool = pool;
  tasks = tasks;
  blocks = blocks_stay w.pool later.pool t stand words;
  lists = lists_stay w later t words settled items;
}

back_stays : (k : Key) (seat t e : ℕ) (at : JoinAt) (w : Whole) → seat ≢ t
    → PoolStays w.pool (pool_back k seat e at w.pool) t
back_stays k seat t e at w ne = pool_stays w.pool (pool_back k seat e at w.pool) t refl
    (own_joined seat t e (join_learn at (found w.pool.mem (join_course (join_of w.pool.locals e) at))) w.pool.locals ne)
    refl refl

back_words : (k : Key) (seat e : ℕ) (at : JoinAt) (w : Whole)
    → SameGuards w.pool.mem (pool_back k seat e at w.pool).mem
back_words k seat e at w =
    after_spared k w.pool.mem (join_course (join_of w.pool.locals e) at) (join_spares (join_of w.pool.locals e) at)

pub takes_back_leave : (k : Key) (seat t class e : ℕ) (rest : Option ℕ) (w : Whole) → seat ≢ t
    → SeatStays w (record w {
      pool = pool_back k seat e JoinAt.Take w.pool;
      ways = with_way e Mail.Rest w.ways;
      tasks = put w.tasks seat (Task.Resting class rest);
    }) t
takes_back_leave k seat t class e rest w ne = parts_leave w _ t (back_stays k seat t e JoinAt.Take w ne) (record {
  bins = refl;
  queue = refl;
  drained = refl;
  mails = refl;
  orphans = not_put w.tasks seat t (Task.Resting class rest) ne;
  spares = refl;
  jobs = refl;
  desks = refl;
}) (back_words k seat e JoinAt.Take w) (stand_same w.pool.blocks.place t) refl refl

pub walks_back_leave : (k : Key) (seat t e : ℕ) (at : JoinAt) (w : Whole) → seat ≢ t
    → SeatStays w (record w { pool = pool_back k seat e at w.pool }) t
walks_back_leave k seat t e at w ne = pool_leaves w t (pool_back k seat e at w.pool) (back_stays k seat t e at w ne)
    (back_words k seat e at w) (stand_same w.pool.blocks.place t)

pub ties_back_leave : (k : Key) (seat t e first last count : ℕ) (w : Whole) → seat ≢ t
    → SeatStays w (record w { pool = pool_joined k seat e first last count w.pool }) t
ties_back_leave k seat t e first last count w ne = pool_leaves w t (pool_joined k seat e first last count w.pool)
    (pool_stays w.pool (pool_joined k seat e first last count w.pool) t refl
    (own_joined seat t e (JoinNext.Joined first count) w.pool.locals ne) (not_put w.pool.kept seat t _ ne) refl)
    (back_words k seat e (JoinAt.Tie first last count) w) (stand_same w.pool.blocks.place t)

pub slab_begins_leave : (k : Key) (seat t e class : ℕ) (w : Whole) → WholeGood k w → seat ≢ t
    → InHand w.pool seat e 2 Taking.ForUse
    → SeatStays w (record w {
      pool = pool_begun k seat e class w.pool;
      ways = with_way e Mail.Rest w.ways;
      mails = put w.mails seat mailing.Task.Away;
      tasks = put w.tasks seat Task.Away;
    }) t
slab_begins_leave k seat t e class w good ne has = parts_leave w _ t
    (pool_stays w.pool (pool_begun k seat e class w.pool) t refl
    (record { tasks = refl; notes = refl; lasts = refl }) (not_put w.pool.kept seat t _ ne) refl)
    (record {
      bins = refl;
      queue = refl;
      drained = refl;
      mails = not_put w.mails seat t mailing.Task.Away ne;
      orphans = not_put w.tasks seat t Task.Away ne;
      spares = refl;
      jobs = refl;
      desks = refl;
    })
    (stored_spared k w.pool.mem _ _ refl)
    (stand_used w.pool.blocks.place t e 2 (Use.Held seat Taking.ForUse) (Place.Block e 2 Use.Elsewhere)
    good.free.pool.guards.parts.whole has.block ne)
    refl refl

pub slab_ends_leave : (k : Key) (seat t e : ℕ) (taking : Taking) (w : Whole) → WholeGood k w → seat ≢ t
    → w.pool.locals.book.keeper e ≡ Keeper.By seat
    → SeatStays w (record w { pool = pool_ended k seat e taking w.pool; ways = with_way e Mail.Absent w.ways }) t
slab_ends_leave k seat t e taking w good ne by = parts_leave w _ t
    (pool_stays w.pool (pool_ended k seat e taking w.pool) t refl
    (record { tasks = refl; notes = refl; lasts = refl }) (not_put w.pool.kept seat t _ ne) refl)
    (record {
      bins = refl;
      queue = refl;
      drained = refl;
      mails = refl;
      orphans = refl;
      spares = refl;
      jobs = refl;
      desks = refl;
    })
    (stored_spared k w.pool.mem _ _ refl)
    (stand_used w.pool.blocks.place t e 2 Use.Elsewhere (Place.Block e 2 (Use.Held seat taking))
    good.free.pool.guards.parts.whole (kept_rests k w.pool e good.free.pool (subst IsKept (sym by) tt)) tt)
    refl refl
