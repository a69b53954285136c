-- Each step of a job on a bin is a step of the whole: a block in hand is put into its bin, or one that was won is taken
-- out of it, whatever else is in hand.
use Rattle.std.proofs.Common.{◌≡◌, ◌+◌, ◌<◌, ℕ, List, [], ◌∷◌, refl, ap, sym, subst, arith}
use Rattle.std.specs.Prelude.{◌++◌, ⊤}
use Rattle.pool_types.specs.Geometry.{bin_count}
use Rattle.pool_words.specs.declared.words.Key.{Key}
use Rattle.pool_words.specs.declared.words.Word.{Word}
use Rattle.pool_words.specs.declared.actions.Action.TheVariants.{Store}
use Rattle.word_codes.proofs.CallerLemmas.{capped_is}
use Rattle.guards.specs.declared.win.Side.{Side}
use Rattle.guards.specs.declared.win.Taking.{Taking}
use Rattle.locked_chain.specs.declared.insert.InsertAt.{InsertAt}
use Rattle.locked_chain.specs.declared.remove.RemoveAt.{RemoveAt}
use Rattle.locked_chain.specs.Insert.{insert_learn}
use Rattle.locked_chain.specs.Locks.{lock_course, lock_learn, unlock_course}
use Rattle.locked_chain.specs.Remove.{remove_learn}
use Rattle.backend_bins.specs.declared.bin.BinAt.{BinAt}
use Rattle.backend_bins.specs.declared.bin.BinCall.{BinCall}
use Rattle.backend_bins.specs.declared.bin.BinJob.{BinJob}
use Rattle.backend_bins.specs.Bin.{bin_course, bin_lock, free_guard}
use Rattle.backend_bins.specs.Blocks.{bin_of}
use Rattle.word_laws.specs.Memory.{Mem, after, found, put}
use Rattle.word_laws.proofs.CallerLemmas.{put_here}
use Rattle.guard_laws.specs.Blocks as guards
use Rattle.guard_laws.specs.Blocks.{Place, Standing, Use, put_range}
use Rattle.guard_laws.specs.Steps.{GuardStep, with_edge, with_use}
use Rattle.bin_laws.specs.Bins as bins
use Rattle.bin_laws.specs.Bins.{Member, bin_words}
use Rattle.bin_laws.specs.Steps.{BinStep, member_linked, member_unlinked, task_leaves, task_linked, task_locked}
use Rattle.bin_laws.specs.Steps.{task_unlinked, with_bin}
use Rattle.lock_laws.specs.Locks.{lock_by}
use Rattle.lock_laws.specs.Seats.{items_inserted, items_removed}
use Rattle.free_laws.specs.Spaces.{bin_tasks, bins_of}
use Rattle.free_laws.specs.Steps.{with_bins, with_guards}
use Rattle.backend_tasks.specs.Bins.{bin_task, bin_task_left, bin_waits, locked_left}
use Rattle.backend_tasks.specs.Guards.{bin_guard, bin_guard_left}
use Rattle.hand_blocks.specs.Changes.{Change, bin_changes}
use Rattle.hand_blocks.specs.Hands.{Hand, bin_hands, hand}
use Rattle.pool_laws.specs.Changes.{with_space}
use Rattle.pool_laws.specs.Steps.{IsFree, WholeStep}
use Rattle.pool_laws.specs.Wholes.{Whole, WholeGood, space_of}
use Rattle.seat_ties.specs.Ties.{HandsTied}
use Rattle.seat_ties.specs.Turns.{stays, steps_on}
use Rattle.seat_hands.specs.Laws.{IsOfHands}
use Rattle.seat_hands.proofs.CallerLemmas.{each_is_of_hands, hands_leave}
use Rattle.backend_moves.specs.Moved.{HandsMove, Moved, Stays}
use Rattle.backend_moves.proofs.Below.{lies_within, range_out}
use Rattle.backend_moves.proofs.Looks.{none_move}
use Rattle.backend_moves.proofs.Sides.{beside_bins, beside_guards}

-- a block that is offered is in hand until both its guards say so
abbrev pub HasAt : (ℕ → Place) → List ℕ → ℕ → Hand → BinAt → Type 0
HasAt place drained seat one BinAt.Size = IsOfHands place drained seat one
HasAt place drained seat one BinAt.Left = IsOfHands place drained seat one
HasAt place drained seat one _ = ⊤

pub has_at : (place : ℕ → Place) (drained : List ℕ) (seat : ℕ) (one : Hand) (at : BinAt) (above below : List Hand)
    → HandsTied place drained seat (above ++ (bin_hands one at ++ below)) → HasAt place drained seat one at
has_at place drained seat one BinAt.Size above below tied = each_is_of_hands place drained seat above below one tied
has_at place drained seat one BinAt.Left above below tied = each_is_of_hands place drained seat above below one tied
has_at place drained seat one _ above below tied = tt

-- and so where it is the last of what is in hand
pub has_last : (place : ℕ → Place) (drained : List ℕ) (seat : ℕ) (one : Hand) (at : BinAt) (above : List Hand)
    → HandsTied place drained seat (above ++ bin_hands one at) → HasAt place drained seat one at
has_last place drained seat one BinAt.Size above tied = each_is_of_hands place drained seat above [] one tied
has_last place drained seat one BinAt.Left above tied = each_is_of_hands place drained seat above [] one tied
has_last place drained seat one _ above tied = tt

-- what a step of a job on a bin makes of the whole
abbrev pub BinMoved : Key → Whole → BinCall → Taking → BinAt → Type 0
BinMoved k w c taking at = Moved k w c.seat (bin_course c at) (bin_guard_left c.block at)
    (bin_task_left c at (found w.pool.mem (bin_course c at)))
    (bin_changes (hand c.block.first c.block.granules taking) at)

bin_low : (n : ℕ) → bin_of n < bin_count
bin_low n = omega arith

-- the lock of a bin is taken or not, and is freed
pub take_stays : (k : Key) (w : Whole) (seat b : ℕ) → b < bin_count → IsFree w seat
    → w.pool.tasks seat ≡ guards.Task.Away → w.bins seat ≡ bins.Task.Away
    → Stays k w seat (lock_course (lock_by bin_words.lock seat b)) guards.Task.Away
    (task_locked b (lock_learn (lock_by bin_words.lock seat b)
    (found w.pool.mem (lock_course (lock_by bin_words.lock seat b))))) []
take_stays k w seat b low free task is =
    let m : Mem = after k w.pool.mem (lock_course (lock_by bin_words.lock seat b)) in
    let next : bins.Task = task_locked b (lock_learn (lock_by bin_words.lock seat b)
    (found w.pool.mem (lock_course (lock_by bin_words.lock seat b)))) in
    let l : bins.Locals = with_bin seat next (bin_tasks (space_of w)) in
    record {
      moved = record {
        later = with_space (with_bins (bins_of (space_of w)) m l (space_of w)) w;
        run = steps_on stays (WholeStep.bins (bins_of (space_of w)) m l (BinStep.takes b low is) task free);
        words = refl;
        guards' = task;
        bins' = put_here w.bins seat seat next refl;
        beside = beside_bins (bins_of (space_of w)) m l w;
        hands = none_move w.pool.blocks.place (w.drained seat) seat;
      };
      items = refl;
    }

pub free_stays : (k : Key) (w : Whole) (seat b : ℕ) → IsFree w seat → w.pool.tasks seat ≡ guards.Task.Away
    → w.bins seat ≡ bins.Task.Has b
    → Stays k w seat (unlock_course (lock_by bin_words.lock seat b)) guards.Task.Away bins.Task.Away []
free_stays k w seat b free task is =
    let m : Mem = after k w.pool.mem (unlock_course (lock_by bin_words.lock seat b)) in
    let l : bins.Locals = with_bin seat bins.Task.Away (bin_tasks (space_of w)) in
    record {
      moved = record {
        later = with_space (with_bins (bins_of (space_of w)) m l (space_of w)) w;
        run = steps_on stays (WholeStep.bins (bins_of (space_of w)) m l (BinStep.frees b is) task free);
        words = refl;
        guards' = task;
        bins' = put_here w.bins seat seat bins.Task.Away refl;
        beside = beside_bins (bins_of (space_of w)) m l w;
        hands = none_move w.pool.blocks.place (w.drained seat) seat;
      };
      items = refl;
    }

lock_moves : (k : Key) (w : Whole) (c : BinCall) (job : BinJob) → IsFree w c.seat
    → w.pool.tasks c.seat ≡ guards.Task.Away → w.bins c.seat ≡ bin_waits c job
    → Moved k w c.seat (bin_course c BinAt.Lock) guards.Task.Away
    (locked_left c job (lock_learn (bin_lock c) (found w.pool.mem (bin_course c BinAt.Lock)))) []
lock_moves k w c BinJob.Insert free task is =
    (take_stays k w c.seat (bin_of c.block.granules) (bin_low c.block.granules) free task is).moved
lock_moves k w c BinJob.Unlink free task is =
    let m : Mem = after k w.pool.mem (bin_course c BinAt.Lock) in
    let next : bins.Task = task_leaves c.block.first c.block.granules
    (lock_learn (bin_lock c) (found w.pool.mem (bin_course c BinAt.Lock))) in
    let l : bins.Locals = with_bin c.seat next (bin_tasks (space_of w)) in
    record {
      later = with_space (with_bins (bins_of (space_of w)) m l (space_of w)) w;
      run = steps_on stays (WholeStep.bins (bins_of (space_of w)) m l
          (BinStep.leaves c.block.first c.block.granules is) task free);
      words = refl;
      guards' = task;
      bins' = put_here w.bins c.seat c.seat next refl;
      beside = beside_bins (bins_of (space_of w)) m l w;
      hands = none_move w.pool.blocks.place (w.drained c.seat) c.seat;
    }

-- the block is offered at its begin
size_moves : (k : Key) (w : Whole) (c : BinCall) (taking : Taking) → IsFree w c.seat
    → w.pool.tasks c.seat ≡ guards.Task.Away → w.bins c.seat ≡ bins.Task.Has (bin_of c.block.granules)
    → w.pool.blocks.place c.block.first ≡ Place.Block c.block.first c.block.granules (Use.Held c.seat taking)
    → BinMoved k w c taking BinAt.Size
size_moves k w c taking free task is held =
    let h : guards.Shadow = with_edge Side.Begin c.block.first (Standing.Open c.block.granules) w.pool.blocks in
    let m : Mem = after k w.pool.mem (bin_course c BinAt.Size) in
    let tasks : ℕ → guards.Task = put w.pool.tasks c.seat (guards.Task.Offers c.block.first c.block.granules) in
    record {
      later = with_space (with_guards h m tasks (space_of w)) w;
      run = steps_on stays (WholeStep.guards h m tasks
          (GuardStep.offers c.block.first c.block.granules taking task held) is free);
      words = refl;
      guards' = put_here w.pool.tasks c.seat c.seat (guards.Task.Offers c.block.first c.block.granules) refl;
      bins' = is;
      beside = beside_guards h m tasks w;
      hands = none_move w.pool.blocks.place (w.drained c.seat) c.seat;
    }

-- a block leaves the hand for another use
pub left_hands : (k : Key) (w : Whole) (seat x n : ℕ) (taking : Taking) (now : Use) → WholeGood k w
    → w.pool.blocks.place x ≡ Place.Block x n (Use.Held seat taking)
    → HandsMove (Change.Leaves (hand x n taking) ∷ []) w.pool.blocks.place
    (put_range w.pool.blocks.place x n (Place.Block x n now)) (w.drained seat) seat
left_hands k w seat x n taking now good held before behind tied leads =
    let place : ℕ → Place = w.pool.blocks.place in
    let later : ℕ → Place = put_range place x n (Place.Block x n now) in
    subst (λ hands. HandsTied later (w.drained seat) seat hands) (sym leads.2)
    (hands_leave place later (w.drained seat) seat n (hand x n taking) before leads.0 tied
    good.free.bins.guards.parts.whole held (λ z out. range_out place x n (Place.Block x n now) z out) leads.1)

-- and at its end: it is in the bin from now on
left_moves : (k : Key) (w : Whole) (c : BinCall) (taking : Taking) → WholeGood k w → IsFree w c.seat
    → w.pool.tasks c.seat ≡ guards.Task.Offers c.block.first c.block.granules
    → w.bins c.seat ≡ bins.Task.Has (bin_of c.block.granules)
    → IsOfHands w.pool.blocks.place (w.drained c.seat) c.seat (hand c.block.first c.block.granules taking)
    → BinMoved k w c taking BinAt.Left
left_moves k w c taking good free task is has =
    let x : ℕ = c.block.first in
    let n : ℕ = c.block.granules in
    let h : bins.Shadow = record {
      guards = with_use x n Use.Bin (with_edge Side.End (x + n) (Standing.Open n) w.pool.blocks);
      items = w.items;
      member = put w.member x (Member.Comes n c.seat);
    } in
    let m : Mem = after k w.pool.mem (Store (Word.Left (x + n)) (free_guard c)) in
    let l : bins.Locals = record {
      guards = put w.pool.tasks c.seat guards.Task.Away;
      bins = put w.bins c.seat (bins.Task.Links x n InsertAt.Head);
    } in
    let lies = lies_within k w x n (Use.Held c.seat taking) good has.lies in
    record {
      later = with_space (with_bins h m l (space_of w)) w;
      run = steps_on stays (WholeStep.bins h m l (BinStep.comes x n task is) has.apart free);
      words = ap (λ y. after k w.pool.mem (Store (Word.Left y) (free_guard c)))
          (sym (capped_is (x + n) (let a = lies.below in let b = lies.small in omega arith)));
      guards' = put_here w.pool.tasks c.seat c.seat guards.Task.Away refl;
      bins' = put_here w.bins c.seat c.seat (bins.Task.Links x n InsertAt.Head) refl;
      beside = beside_bins h m l w;
      hands = left_hands k w c.seat x n taking Use.Bin good has.lies;
    }

insert_moves : (k : Key) (w : Whole) (c : BinCall) (taking : Taking) (at : InsertAt) → IsFree w c.seat
    → w.pool.tasks c.seat ≡ guards.Task.Away → w.bins c.seat ≡ bins.Task.Links c.block.first c.block.granules at
    → BinMoved k w c taking (BinAt.Insert at)
insert_moves k w c taking at free task is =
    let x : ℕ = c.block.first in
    let n : ℕ = c.block.granules in
    let saw : ℕ = found w.pool.mem (bin_course c (BinAt.Insert at)) in
    let h : bins.Shadow = record {
      guards = w.pool.blocks;
      items = put w.items (bin_of n) (items_inserted x (w.items (bin_of n)) (insert_learn at saw));
      member = member_linked x n (insert_learn at saw) w.member;
    } in
    let m : Mem = after k w.pool.mem (bin_course c (BinAt.Insert at)) in
    let l : bins.Locals = with_bin c.seat (task_linked x n (insert_learn at saw)) (bin_tasks (space_of w)) in
    record {
      later = with_space (with_bins h m l (space_of w)) w;
      run = steps_on stays (WholeStep.bins h m l (BinStep.links x n at is) task free);
      words = refl;
      guards' = task;
      bins' = put_here w.bins c.seat c.seat (task_linked x n (insert_learn at saw)) refl;
      beside = beside_bins h m l w;
      hands = none_move w.pool.blocks.place (w.drained c.seat) c.seat;
    }

out_moves : (k : Key) (w : Whole) (c : BinCall) (taking : Taking) (at : RemoveAt) → IsFree w c.seat
    → w.pool.tasks c.seat ≡ guards.Task.Away → w.bins c.seat ≡ bins.Task.Unlinks c.block.first c.block.granules at
    → BinMoved k w c taking (BinAt.Out at)
out_moves k w c taking at free task is =
    let x : ℕ = c.block.first in
    let n : ℕ = c.block.granules in
    let saw : ℕ = found w.pool.mem (bin_course c (BinAt.Out at)) in
    let h : bins.Shadow = record {
      guards = w.pool.blocks;
      items = put w.items (bin_of n) (items_removed x (w.items (bin_of n)) at);
      member = member_unlinked x at w.member;
    } in
    let m : Mem = after k w.pool.mem (bin_course c (BinAt.Out at)) in
    let l : bins.Locals = with_bin c.seat (task_unlinked x n (remove_learn at saw)) (bin_tasks (space_of w)) in
    record {
      later = with_space (with_bins h m l (space_of w)) w;
      run = steps_on stays (WholeStep.bins h m l (BinStep.unlinks x n at is) task free);
      words = refl;
      guards' = task;
      bins' = put_here w.bins c.seat c.seat (task_unlinked x n (remove_learn at saw)) refl;
      beside = beside_bins h m l w;
      hands = none_move w.pool.blocks.place (w.drained c.seat) c.seat;
    }

pub bin_moves : (k : Key) (w : Whole) (c : BinCall) (taking : Taking) (at : BinAt) → WholeGood k w → IsFree w c.seat
    → w.pool.tasks c.seat ≡ bin_guard c.block at → w.bins c.seat ≡ bin_task c at
    → HasAt w.pool.blocks.place (w.drained c.seat) c.seat (hand c.block.first c.block.granules taking) at
    → BinMoved k w c taking at
bin_moves k w c taking BinAt.Lock good free task is has = lock_moves k w c c.job free task is
bin_moves k w c taking BinAt.Size good free task is has = size_moves k w c taking free task is has.lies
bin_moves k w c taking BinAt.Left good free task is has = left_moves k w c taking good free task is has
bin_moves k w c taking (BinAt.Insert at) good free task is has = insert_moves k w c taking at free task is
bin_moves k w c taking (BinAt.Out at) good free task is has = out_moves k w c taking at free task is
bin_moves k w c taking BinAt.Unlock good free task is has =
    (free_stays k w c.seat (bin_of c.block.granules) free task is).moved
