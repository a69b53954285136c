-- A step of a win is a step of the whole.
use Rattle.std.proofs.Common.{◌≡◌, ℕ, [], ◌∷◌, Bool, true, false, cond, eqb, refl, sym, subst, arith}
use Rattle.pool_words.specs.declared.words.Key.{Key}
use Rattle.guards.specs.declared.win.Taking.{Taking}
use Rattle.guards.specs.declared.win.WinAt.{WinAt}
use Rattle.guards.specs.declared.win.WinCall.{WinCall}
use Rattle.guards.specs.declared.win.WinNext.{WinNext}
use Rattle.guards.specs.Win.{free_word, win_course, win_learn}
use Rattle.backend_bins.specs.Blocks.{block}
use Rattle.word_laws.specs.Memory.{after, found, put}
use Rattle.word_laws.proofs.CallerLemmas.{put_here}
use Rattle.guard_laws.specs.Blocks as guards
use Rattle.guard_laws.specs.Blocks.{Place, Use, put_range}
use Rattle.guard_laws.specs.Steps.{GuardStep, shadow_taken, shadow_won, task_after}
use Rattle.bin_laws.specs.Bins as bins
use Rattle.bin_laws.specs.Steps.{BinStep, IsReady, task_won}
use Rattle.free_laws.specs.Steps.{IsNotWon, with_bins, with_guards}
use Rattle.backend_tasks.specs.Bins.{won_left}
use Rattle.hand_blocks.specs.Changes.{Change, won_changes}
use Rattle.hand_blocks.specs.Hands.{Hand, hand}
use Rattle.pool_laws.specs.Changes.{with_space}
use Rattle.pool_laws.specs.Steps.{IsFree, WholeStep}
use Rattle.pool_laws.specs.Wholes.{Whole, WholeGood, space_of}
use Rattle.seat_ties.specs.Ties.{HandsTied}
use Rattle.seat_ties.specs.Turns.{stays, steps_on}
use Rattle.seat_hands.proofs.CallerLemmas.{hands_come, others_are_none}
use Rattle.backend_moves.specs.Moved.{HandsMove, Moved, Stays}
use Rattle.backend_moves.proofs.Below.{bin_is_not_drained, lies_within, range_in, range_out, won_is_bin}
use Rattle.backend_moves.proofs.Looks.{none_move}
use Rattle.backend_moves.proofs.Sides.{beside_bins, beside_guards}

-- a win that did not win both guards moves no block
place_lost : (seat : ℕ) (c : WinCall) (next : WinNext) (g : guards.Shadow) → IsNotWon next
    → g.place ≡ (shadow_won seat c next g).place
place_lost seat c (WinNext.Goes WinAt.First) g lost = refl
place_lost seat c (WinNext.Goes WinAt.Second) g lost = refl
place_lost seat c (WinNext.Goes WinAt.Back) g lost = refl
place_lost seat c WinNext.Won g lost = absurd lost
place_lost seat c (WinNext.NotWon found) g lost = refl
place_lost seat c WinNext.GivenBack g lost = refl

left_lost : (task : bins.Task) (x n : ℕ) (next : WinNext) → IsNotWon next → task ≡ won_left task (block x n) next
left_lost task x n (WinNext.Goes at) lost = refl
left_lost task x n WinNext.Won lost = absurd lost
left_lost task x n (WinNext.NotWon found) lost = refl
left_lost task x n WinNext.GivenBack lost = refl

changes_lost : (one : Hand) (next : WinNext) → IsNotWon next → [] ≡ won_changes one next
changes_lost one (WinNext.Goes at) lost = refl
changes_lost one WinNext.Won lost = absurd lost
changes_lost one (WinNext.NotWon found) lost = refl
changes_lost one WinNext.GivenBack lost = refl

-- what a step of a win, that finds this, makes of the whole
abbrev pub WinMoved : Key → Whole → ℕ → WinCall → WinAt → WinNext → Type 0
WinMoved k w seat c at next = Moved k w seat (win_course c at) (task_after c next)
    (won_left (w.bins seat) (block c.begin c.granules) next) (won_changes (hand c.begin c.granules c.taking) next)

-- no list is changed by it
abbrev pub WinStays : Key → Whole → ℕ → WinCall → WinAt → WinNext → Type 0
WinStays k w seat c at next = Stays k w seat (win_course c at) (task_after c next)
    (won_left (w.bins seat) (block c.begin c.granules) next) (won_changes (hand c.begin c.granules c.taking) next)

abbrev next_of : Whole → WinCall → WinAt → WinNext
next_of w c at = win_learn c at (found w.pool.mem (win_course c at))

lost_stays : (k : Key) (w : Whole) (seat : ℕ) (c : WinCall) (at : WinAt) → IsFree w seat
    → w.pool.tasks seat ≡ guards.Task.Wins c at → IsNotWon (next_of w c at)
    → WinStays k w seat c at (next_of w c at)
lost_stays k w seat c at free is lost =
    let next : WinNext = next_of w c at in
    let h : guards.Shadow = shadow_won seat c next w.pool.blocks in
    let tasks : ℕ → guards.Task = put w.pool.tasks seat (task_after c next) in
    record {
      moved = record {
        later = with_space (with_guards h (after k w.pool.mem (win_course c at)) tasks (space_of w)) w;
        run = steps_on stays (WholeStep.guards h (after k w.pool.mem (win_course c at)) tasks (GuardStep.wins c at is)
            lost free);
        words = refl;
        guards' = put_here w.pool.tasks seat seat (task_after c next) refl;
        bins' = left_lost (w.bins seat) c.begin c.granules next lost;
        beside = beside_guards h (after k w.pool.mem (win_course c at)) tasks w;
        hands = subst (λ place. HandsMove (won_changes (hand c.begin c.granules c.taking) next)
            w.pool.blocks.place place (w.drained seat) seat) (place_lost seat c next w.pool.blocks lost)
            (subst (λ changes. HandsMove changes w.pool.blocks.place w.pool.blocks.place (w.drained seat) seat)
            (changes_lost (hand c.begin c.granules c.taking) next lost)
            (none_move w.pool.blocks.place (w.drained seat) seat));
      };
      items = refl;
    }

-- a block comes into the hand out of a bin
pub taken_hands : (k : Key) (w : Whole) (seat x n : ℕ) (taking : Taking) → WholeGood k w
    → w.pool.blocks.place x ≡ Place.Block x n Use.Bin
    → HandsMove (Change.Comes (hand x n taking) ∷ []) w.pool.blocks.place
    (put_range w.pool.blocks.place x n (Place.Block x n (Use.Held seat taking))) (w.drained seat) seat
taken_hands k w seat x n taking good bin before behind tied leads =
    let place : ℕ → Place = w.pool.blocks.place in
    let later : ℕ → Place = put_range place x n (Place.Block x n (Use.Held seat taking)) in
    let some = (lies_within k w x n Use.Bin good bin).some in
    subst (λ hands. HandsTied later (w.drained seat) seat hands) (sym leads.2)
    (hands_come place later (w.drained seat) seat x n taking before leads.0 tied
    (others_are_none place seat x n Use.Bin good.free.bins.guards.parts.whole bin tt) some
    (bin_is_not_drained k w seat x n good bin)
    (λ z out. range_out place x n (Place.Block x n (Use.Held seat taking)) z out)
    (range_in place x n (Place.Block x n (Use.Held seat taking)) x (omega arith) (omega arith)) leads.1)

second_stays : (k : Key) (w : Whole) (seat : ℕ) (c : WinCall) → WholeGood k w → IsFree w seat
    → w.pool.tasks seat ≡ guards.Task.Wins c WinAt.Second → IsReady c.granules (w.bins seat)
    → next_of w c WinAt.Second ≡ WinNext.Won → WinStays k w seat c WinAt.Second WinNext.Won
second_stays k w seat c good free is ready won =
    let h : bins.Shadow = record {
      guards = shadow_taken seat c w.pool.blocks;
      items = w.items;
      member = w.member;
    } in
    let l : bins.Locals = record {
      guards = put w.pool.tasks seat guards.Task.Away;
      bins = put w.bins seat (task_won c.begin c.granules (w.bins seat));
    } in
    let m = after k w.pool.mem (win_course c WinAt.Second) in
    record {
      moved = record {
        later = with_space (with_bins h m l (space_of w)) w;
        run = steps_on stays (WholeStep.bins h m l (BinStep.wins c is won ready) tt free);
        words = refl;
        guards' = put_here w.pool.tasks seat seat guards.Task.Away refl;
        bins' = put_here w.bins seat seat (task_won c.begin c.granules (w.bins seat)) refl;
        beside = beside_bins h m l w;
        hands = taken_hands k w seat c.begin c.granules c.taking good
            (won_is_bin k w.pool.blocks w.pool.mem w.pool.tasks seat c good.free.bins.guards is won);
      };
      items = refl;
    }

second_by : (k : Key) (w : Whole) (seat : ℕ) (c : WinCall) (next : WinNext) → WholeGood k w → IsFree w seat
    → w.pool.tasks seat ≡ guards.Task.Wins c WinAt.Second → IsReady c.granules (w.bins seat)
    → next_of w c WinAt.Second ≡ next → WinStays k w seat c WinAt.Second next
second_by k w seat c WinNext.Won good free is ready e = second_stays k w seat c good free is ready e
second_by k w seat c next good free is ready e =
    subst (λ n. WinStays k w seat c WinAt.Second n) e
    (lost_stays k w seat c WinAt.Second free is (subst IsNotWon (sym e) tt))

-- the first guard is won or not, and is not the last one
first_is_not_won : (c : WinCall) (found : ℕ) → IsNotWon (win_learn c WinAt.First found)
first_is_not_won c found = by (eqb found (free_word c))
  where
    by : (b : Bool) → IsNotWon (cond b (WinNext.Goes WinAt.Second) (WinNext.NotWon found))
    by true = tt
    by false = tt

pub win_stays : (k : Key) (w : Whole) (seat : ℕ) (c : WinCall) (at : WinAt) → WholeGood k w → IsFree w seat
    → w.pool.tasks seat ≡ guards.Task.Wins c at → IsReady c.granules (w.bins seat)
    → WinStays k w seat c at (win_learn c at (found w.pool.mem (win_course c at)))
win_stays k w seat c WinAt.First good free is ready =
    lost_stays k w seat c WinAt.First free is (first_is_not_won c (found w.pool.mem (win_course c WinAt.First)))
win_stays k w seat c WinAt.Second good free is ready =
    second_by k w seat c (next_of w c WinAt.Second) good free is ready refl
win_stays k w seat c WinAt.Back good free is ready = lost_stays k w seat c WinAt.Back free is tt

pub win_moves : (k : Key) (w : Whole) (seat : ℕ) (c : WinCall) (at : WinAt) → WholeGood k w → IsFree w seat
    → w.pool.tasks seat ≡ guards.Task.Wins c at → IsReady c.granules (w.bins seat)
    → WinMoved k w seat c at (win_learn c at (found w.pool.mem (win_course c at)))
win_moves k w seat c at good free is ready = (win_stays k w seat c at good free is ready).moved
