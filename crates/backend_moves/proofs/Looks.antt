-- Steps that write nothing.
use Rattle.std.proofs.Common.{◌≡◌, ℕ, List, [], refl, ap, sym, subst}
use Rattle.pool_words.specs.declared.words.Key.{Key}
use Rattle.pool_words.specs.declared.words.Word.{Word}
use Rattle.pool_words.specs.declared.actions.Action.TheVariants.{Load}
use Rattle.queue_laws.specs.Queue as queues
use Rattle.queue_laws.specs.Steps.{IsIdle}
use Rattle.cache_laws.specs.Good as caches
use Rattle.cache_laws.specs.Good.{hand}
use Rattle.guard_laws.specs.Blocks as guards
use Rattle.guard_laws.specs.Blocks.{Place}
use Rattle.bin_laws.specs.Bins as bins
use Rattle.pool_laws.specs.Steps.{IsFree, WholeStep}
use Rattle.pool_laws.specs.Wholes.{Whole}
use Rattle.seat_ties.specs.Ties.{HandsTied}
use Rattle.seat_ties.specs.Turns.{stays, steps_on}
use Rattle.backend_moves.specs.Moved.{HandsMove, Moved, Stays}
use Rattle.backend_moves.proofs.Sides.{beside_same}

-- a seat that does nothing at the cache, and puts no block into the queue
pub is_free : (w : Whole) (seat : ℕ) → w.jobs seat ≡ caches.Task.Away → IsIdle (w.queue seat) → IsFree w seat
is_free w seat away idle = record { shelf = ap (λ t. hand t) away; queue = idle }

pub idle_away : (task : queues.Task) → task ≡ queues.Task.Away → IsIdle task
idle_away task is = subst (λ t. IsIdle t) (sym is) tt

-- no block comes into the hand or leaves it
pub none_move : (place : ℕ → Place) (drained : List ℕ) (seat : ℕ) → HandsMove [] place place drained seat
none_move place drained seat before behind tied leads =
    subst (λ hands. HandsTied place drained seat hands) (sym leads) tied

pub look_stays : (k : Key) (w : Whole) (seat : ℕ) (word : Word) (guard : guards.Task) (bin : bins.Task) → IsFree w seat
    → w.pool.tasks seat ≡ guard → w.bins seat ≡ bin → Stays k w seat (Load word) guard bin []
look_stays k w seat word guard bin free task is = record {
  moved = record {
    later = w;
    run = steps_on stays (WholeStep.others (Load word) tt free);
    words = refl;
    guards' = task;
    bins' = is;
    beside = beside_same w;
    hands = none_move w.pool.blocks.place (w.drained seat) seat;
  };
  items = refl;
}

pub look_moves : (k : Key) (w : Whole) (seat : ℕ) (word : Word) (guard : guards.Task) (bin : bins.Task) → IsFree w seat
    → w.pool.tasks seat ≡ guard → w.bins seat ≡ bin → Moved k w seat (Load word) guard bin []
look_moves k w seat word guard bin free task is = (look_stays k w seat word guard bin free task is).moved
