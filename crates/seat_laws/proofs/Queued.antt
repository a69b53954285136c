-- A step at the queue leaves all other seats alone.
use Rattle.std.proofs.Common.{◌≡◌, ◌≢◌, ℕ, true, refl, sym, ap, subst, ◌∙◌}
use Rattle.pool_words.specs.declared.words.Key.{Key}
use Rattle.chain_words.specs.declared.pushing.PushAt.{PushAt}
use Rattle.chain_words.specs.declared.pushing.PushNext.{PushNext}
use Rattle.chain_words.specs.Pushing.{push_learn}
use Rattle.guards.specs.declared.win.Taking.{Taking}
use Rattle.word_laws.specs.Memory.{Mem, found}
use Rattle.chain_laws.specs.Pushing.{push_action}
use Rattle.guard_laws.specs.Blocks.{BlocksWhole, Place, Shadow, Use}
use Rattle.guard_laws.specs.Steps.{place_drained}
use Rattle.queue_laws.specs.Queue as queues
use Rattle.queue_laws.specs.Queue.{Task, TaskFits, push_of, queue_words}
use Rattle.queue_laws.specs.Steps.{QueueStep, shadow_queued}
use Rattle.free_laws.specs.Spaces.{queue_of, queue_tasks}
use Rattle.free_laws.specs.Steps.{IsAtQueue, with_queue}
use Rattle.pool_laws.specs.Changes.{with_space}
use Rattle.pool_laws.specs.Wholes.{Whole, WholeGood, space_of}
use Rattle.seat_hands.specs.Moved.{HandsStand}
use Rattle.seat_laws.specs.Stays.{SeatStays}
use Rattle.seat_laws.proofs.Alone.{SameGuards, after_spared, not_put, same_guards, spares, stand_same, stand_used}
use Rattle.seat_laws.proofs.Alone.{stored_spared}
use Rattle.seat_laws.proofs.Backs.{parts_leave}

push_spares : (x n : ℕ) (at : PushAt) → spares (push_action queue_words (push_of x n) at) ≡ true
push_spares x n PushAt.Look = refl
push_spares x n (PushAt.Link found) = refl
push_spares x n (PushAt.Exchange found) = refl

-- the block that is queued was in the seat's own hand, and what is taken of the queue in none
queued_stand : (g : Shadow) (t seat x n : ℕ) (next : PushNext) → BlocksWhole g.place → seat ≢ t
    → g.place x ≡ Place.Block x n (Use.Held seat Taking.ToJoin)
    → HandsStand (shadow_queued x n next g).place g.place t
queued_stand g t seat x n (PushNext.Goes at) whole ne lies = stand_same g.place t
queued_stand g t seat x n (PushNext.Pushed head) whole ne lies =
    stand_used g.place t x n (Use.Held seat Taking.ToJoin) (Place.Block x n Use.Queued) whole lies ne

drained_stand : (place : ℕ → Place) (seat t : ℕ) → HandsStand (λ y. place_drained seat (place y)) place t
drained_stand place seat t y m taking is = ap (place_drained seat) is ∙ sym is

-- what a step at the queue makes of the whole
queue_parts : (w : Whole) (t : ℕ) (h : queues.Shadow) (m' : Mem) (l' : queues.Locals) → l'.guards ≡ w.pool.tasks
    → l'.queue t ≡ w.queue t → h.drained t ≡ w.drained t → SameGuards w.pool.mem m'
    → HandsStand h.guards.place w.pool.blocks.place t
    → SeatStays w (with_space (with_queue h m' l' (space_of w)) w) t
queue_parts w t h m' l' guards queue drained words stand =
    parts_leave w (with_space (with_queue h m' l' (space_of w)) w) t
    (record { guards = ap (λ f. f t) guards; objects = refl; notes = refl; last = refl; kept = refl; cached = refl })
    (record {
      bins = refl;
      queue = queue;
      drained = drained;
      mails = refl;
      orphans = refl;
      spares = refl;
      jobs = refl;
      desks = refl;
    }) words stand refl refl

pub queue_leaves : (k : Key) (seat t : ℕ) (w : Whole) (h : queues.Shadow) (m' : Mem) (l' : queues.Locals)
    → WholeGood k w → seat ≢ t
    → (step : QueueStep k seat (queue_of (space_of w)) w.pool.mem (queue_tasks (space_of w)) h m' l')
    → IsAtQueue k seat (space_of w) h m' l' step → SeatStays w (with_space (with_queue h m' l' (space_of w)) w) t
queue_leaves k seat t w h m' l' good ne (QueueStep.guards g m tasks step idle quiet same) at = absurd at
queue_leaves k seat t w h m' l' good ne (QueueStep.begins x n is away lies marked) at =
    queue_parts w t h m' l' refl (not_put w.queue seat t _ ne) refl (same_guards w.pool.mem)
    (stand_same w.pool.blocks.place t)
queue_leaves k seat t w h m' l' good ne (QueueStep.pushes x n at' is away) at =
    let next = push_learn at' (found w.pool.mem (push_action queue_words (push_of x n) at')) in
    let fits = subst (TaskFits w.pool.blocks w.pool.mem seat) is (good.free.queue.tasks seat) in
    queue_parts w t h m' l' refl (not_put w.queue seat t _ ne) refl
    (after_spared k w.pool.mem (push_action queue_words (push_of x n) at') (push_spares x n at'))
    (queued_stand w.pool.blocks t seat x n next good.free.pool.guards.parts.whole ne fits.hand)
queue_leaves k seat t w h m' l' good ne (QueueStep.takes is) at =
    queue_parts w t h m' l' refl (not_put w.queue seat t _ ne) (not_put w.drained seat t _ ne)
    (stored_spared k w.pool.mem _ _ refl) (drained_stand w.pool.blocks.place seat t)
queue_leaves k seat t w h m' l' good ne (QueueStep.reads x is) at =
    queue_parts w t h m' l' refl (not_put w.queue seat t _ ne) (not_put w.drained seat t _ ne)
    (same_guards w.pool.mem) (stand_same w.pool.blocks.place t)
queue_leaves k seat t w h m' l' good ne (QueueStep.ends is) at =
    queue_parts w t h m' l' refl (not_put w.queue seat t _ ne) refl (same_guards w.pool.mem)
    (stand_same w.pool.blocks.place t)
