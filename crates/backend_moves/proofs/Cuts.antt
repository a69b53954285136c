-- Each turn of a cut is steps of the whole: a block in hand is cut before the piece and behind it, and what lies there
-- goes into its bin.
use Rattle.std.proofs.Common.{◌≡◌, ◌-◌, ℕ, Bool, true, false, cond, [], ◌∷◌, refl, subst, sym}
use Rattle.std.specs.Prelude.{ltb}
use Rattle.pool_words.specs.declared.words.Key.{Key}
use Rattle.pool_words.specs.declared.words.Word.{Word}
use Rattle.pool_words.specs.declared.actions.Action.TheVariants.{Store}
use Rattle.pool_words.specs.Actions.{word_seen}
use Rattle.word_codes.specs.declared.guards.Guard.{Guard}
use Rattle.word_codes.specs.Guards.{guard_word}
use Rattle.guards.specs.declared.win.Side.{Side}
use Rattle.guards.specs.declared.win.Taking.{Taking}
use Rattle.backend_bins.specs.declared.bin.BinAt.{BinAt}
use Rattle.backend_bins.specs.declared.bin.BinNext.{BinNext}
use Rattle.backend_bins.specs.declared.blocks.Block.{Block}
use Rattle.backend_bins.specs.declared.cut.CutAt.{CutAt}
use Rattle.backend_bins.specs.declared.cut.CutCall.{CutCall}
use Rattle.backend_bins.specs.declared.cut.CutNext.{CutNext}
use Rattle.backend_bins.specs.Bin.{bin_learn}
use Rattle.backend_bins.specs.Blocks.{block_end}
use Rattle.backend_bins.specs.Cut.{at_back, at_last, at_rests, back_call, back_goes, back_of, front_call, front_goes}
use Rattle.backend_bins.specs.Cut.{front_of}
use Rattle.guard_laws.specs.Blocks as guards
use Rattle.guard_laws.specs.Blocks.{Place, Use}
use Rattle.guard_laws.specs.Steps.{guard_in}
use Rattle.bin_laws.specs.Bins as bins
use Rattle.step_local.specs.declared.frames.At.{At}
use Rattle.step_local.specs.declared.frames.Local.{Local}
use Rattle.step_local.specs.Backend.{asked, cut_as, cut_call}
use Rattle.step_local.specs.Course.{course}
use Rattle.step_runs.specs.Places.{has_word}
use Rattle.backend_tasks.specs.Bins.{bin_left}
use Rattle.backend_tasks.specs.Guards.{guard_left}
use Rattle.backend_tasks.proofs.CallerLemmas.{bare-asked}
use Rattle.hand_blocks.specs.Changes.{Change, changes_at}
use Rattle.hand_blocks.specs.Hands.{behind_front, has_front, if_any, piece_and_back, using}
use Rattle.pool_laws.specs.Steps.{IsFree}
use Rattle.pool_laws.specs.Wholes.{Whole, WholeGood}
use Rattle.seat_ties.specs.Left.{Suits}
use Rattle.seat_ties.specs.Says.{WordsSay}
use Rattle.seat_ties.specs.Ties.{SeatTied}
use Rattle.seat_ties.specs.Turns.{StepLeaves, found_in, next_in, seen_in}
use Rattle.seat_ties.proofs.CallerLemmas.{bare_says_nothing}
use Rattle.seat_hands.proofs.CallerLemmas.{each_is_of_hands}
use Rattle.backend_moves.specs.Laws.{CutsAreTurned}
use Rattle.backend_moves.specs.Moved.{Moved}
use Rattle.backend_moves.specs.Positions.{IsCutAt}
use Rattle.backend_moves.proofs.BinJobs.{bin_moves, has_at, has_last}
use Rattle.backend_moves.proofs.CutNumbers.{BackLies, FrontLies, PieceLies, back_lies, front_lies, piece_lies}
use Rattle.backend_moves.proofs.CutNumbers.{rest_lies}
use Rattle.backend_moves.proofs.Finish.{leaves_by, others_stay}
use Rattle.backend_moves.proofs.Looks.{idle_away, is_free}
use Rattle.backend_moves.proofs.Splits.{Readied, ready_moves, split_moves}

abbrev here : Local → CutAt → Local
here l at = record l { at = At.Cut at }

-- what a step of a cut makes of the whole, and what the words say then
record CutSteps (k : Key) (w : Whole) (l : Local) : Type 0 where
  moved : Moved k w l.seat (course l) (guard_left l (found_in w l)) (bin_left l (found_in w l))
      (changes_at l l.at (found_in w l))
  says : WordsSay moved.later l.seat (next_in w l)

-- the words say nothing of bins, nor where the piece is there
asked_says : (w : Whole) (seat : ℕ) (l : Local) → WordsSay w seat (asked l).0
asked_says w seat l = (bare_says_nothing w seat (asked l).0 (bare-asked l)).words

last_says : (w : Whole) (seat : ℕ) (l : Local) (at : At) (c : CutCall) → WordsSay w seat (cut_as l at (at_last c)).0
last_says w seat l at c = by (ltb 0 (back_of c).granules)
  where
    by : (b : Bool)
        → WordsSay w seat (cut_as l at (cond b (CutNext.Goes (CutAt.Back BinAt.Lock)) CutNext.Done)).0
    by true = tt
    by false = asked_says w seat l

rests_say : (w : Whole) (seat : ℕ) (l : Local) (at : At) (c : CutCall) → WordsSay w seat (cut_as l at (at_rests c)).0
rests_say w seat l at c = by (ltb 0 (front_of c).granules)
  where
    by : (b : Bool)
        → WordsSay w seat (cut_as l at (cond b (CutNext.Goes (CutAt.Front BinAt.Lock)) (at_last c))).0
    by true = tt
    by false = last_says w seat l at c

back_says : (w : Whole) (seat : ℕ) (l : Local) (at : At) (c : CutCall) → WordsSay w seat (cut_as l at (at_back c)).0
back_says w seat l at c = by (ltb 0 (back_of c).granules)
  where
    by : (b : Bool) → WordsSay w seat (cut_as l at (cond b (CutNext.Goes CutAt.BackLeft) (at_rests c))).0
    by true = tt
    by false = rests_say w seat l at c

front_bin_says : (w : Whole) (seat : ℕ) (l : Local) (at : BinAt) (c : CutCall) (next : BinNext)
    → WordsSay w seat (cut_as l (At.Cut (CutAt.Front at)) (front_goes c next)).0
front_bin_says w seat l at c (BinNext.Goes next) = tt
front_bin_says w seat l at c BinNext.Waits = tt
front_bin_says w seat l at c BinNext.Done = last_says w seat l (At.Cut (CutAt.Front at)) c

back_bin_says : (w : Whole) (seat : ℕ) (l : Local) (at : BinAt) (c : CutCall) (next : BinNext)
    → WordsSay w seat (cut_as l (At.Cut (CutAt.Back at)) (back_goes c next)).0
back_bin_says w seat l at c (BinNext.Goes next) = tt
back_bin_says w seat l at c BinNext.Waits = tt
back_bin_says w seat l at c BinNext.Done = asked_says w seat l

-- the rest behind what lies before the piece
abbrev rest : CutCall → Block
rest c = behind_front c (has_front c)

-- before the piece the guard at which the front ends says that a block is in use, and then that at which the piece
-- begins, where the block is cut
front_readies : (k : Key) (w : Whole) (l : Local) → WholeGood k w → SeatTied k w l.seat (here l CutAt.FrontLeft)
    → IsFree w l.seat → CutSteps k w (here l CutAt.FrontLeft)
front_readies k w l good tied free =
    let c : CutCall = cut_call l in
    let lies : FrontLies c =
    front_lies c (piece_lies (here l CutAt.FrontLeft) CutAt.FrontLeft tied.says.hands) tied.says.hands.here in
    let has = each_is_of_hands w.pool.blocks.place (w.drained l.seat) l.seat [] [] (using c.block) tied.hands in
    let ready : Readied k w l.seat c.piece.first =
    ready_moves k w l.seat c.block.first c.block.granules c.piece.first good free tied.tasks.guards tied.tasks.bins
    has.lies lies.low lies.high in
    record { moved = ready.moved; says = ready.says }

front_splits : (k : Key) (w : Whole) (l : Local) → WholeGood k w → SeatTied k w l.seat (here l CutAt.FrontSize)
    → IsFree w l.seat → CutSteps k w (here l CutAt.FrontSize)
front_splits k w l good tied free =
    let c : CutCall = cut_call l in
    let at : Local = here l CutAt.FrontSize in
    let x : ℕ = c.block.first in
    let a : ℕ = (front_of c).granules in
    let b : ℕ = c.block.granules - (front_of c).granules in
    let lies : FrontLies c =
    front_lies c (piece_lies at CutAt.FrontSize tied.says.hands) tied.says.hands.here in
    let has = each_is_of_hands w.pool.blocks.place (w.drained l.seat) l.seat [] [] (using c.block) tied.hands in
    let moved : Moved k w l.seat (Store (Word.Size c.piece.first) (guard_word Guard.Used)) guards.Task.Away
    bins.Task.Away (Change.Splits x a b ∷ []) =
    subst (λ y. Moved k w l.seat (Store (Word.Size y) (guard_word Guard.Used)) guards.Task.Away bins.Task.Away
    (Change.Splits x a b ∷ [])) lies.at
    (split_moves k w l.seat x a b good free tied.tasks.guards tied.tasks.bins
    (subst (λ n. w.pool.blocks.place x ≡ Place.Block x n (Use.Held l.seat Taking.ForUse)) (sym lies.sum) has.lies)
    has.apart (subst (λ y. guard_in w.pool.mem Side.End y ≡ Guard.Used) (sym lies.at) tied.words) lies.some
    lies.more) in
    record { moved = moved; says = back_says moved.later l.seat at (At.Cut CutAt.FrontSize) c }

-- and so behind it
back_readies : (k : Key) (w : Whole) (l : Local) → WholeGood k w → SeatTied k w l.seat (here l CutAt.BackLeft)
    → IsFree w l.seat → CutSteps k w (here l CutAt.BackLeft)
back_readies k w l good tied free =
    let c : CutCall = cut_call l in
    let piece : PieceLies c = piece_lies (here l CutAt.BackLeft) CutAt.BackLeft tied.says.hands in
    let lies : BackLies c (rest c) = back_lies c (rest c) piece (rest_lies c piece) tied.says.hands.here in
    let has = each_is_of_hands w.pool.blocks.place (w.drained l.seat) l.seat (if_any (has_front c) (front_of c)) []
    (using (rest c)) tied.hands in
    let ready : Readied k w l.seat (block_end c.piece) =
    ready_moves k w l.seat (rest c).first (rest c).granules (block_end c.piece) good free tied.tasks.guards
    tied.tasks.bins has.lies lies.low lies.high in
    record { moved = ready.moved; says = ready.says }

back_splits : (k : Key) (w : Whole) (l : Local) → WholeGood k w → SeatTied k w l.seat (here l CutAt.BackSize)
    → IsFree w l.seat → CutSteps k w (here l CutAt.BackSize)
back_splits k w l good tied free =
    let c : CutCall = cut_call l in
    let at : Local = here l CutAt.BackSize in
    let x : ℕ = (rest c).first in
    let a : ℕ = c.piece.granules in
    let b : ℕ = (rest c).granules - c.piece.granules in
    let piece : PieceLies c = piece_lies at CutAt.BackSize tied.says.hands in
    let lies : BackLies c (rest c) = back_lies c (rest c) piece (rest_lies c piece) tied.says.hands.here in
    let has = each_is_of_hands w.pool.blocks.place (w.drained l.seat) l.seat (if_any (has_front c) (front_of c)) []
    (using (rest c)) tied.hands in
    let moved : Moved k w l.seat (Store (Word.Size (block_end c.piece)) (guard_word Guard.Used)) guards.Task.Away
    bins.Task.Away (Change.Splits x a b ∷ []) =
    subst (λ y. Moved k w l.seat (Store (Word.Size y) (guard_word Guard.Used)) guards.Task.Away bins.Task.Away
    (Change.Splits x a b ∷ [])) lies.at
    (split_moves k w l.seat x a b good free tied.tasks.guards tied.tasks.bins
    (subst (λ n. w.pool.blocks.place x ≡ Place.Block x n (Use.Held l.seat Taking.ForUse)) (sym lies.sum) has.lies)
    has.apart (subst (λ y. guard_in w.pool.mem Side.End y ≡ Guard.Used) (sym lies.at) tied.words) piece.some
    lies.more) in
    record { moved = moved; says = rests_say moved.later l.seat at (At.Cut CutAt.BackSize) c }

cut_moves : (k : Key) (w : Whole) (l : Local) (at : CutAt) → WholeGood k w → SeatTied k w l.seat (here l at)
    → IsFree w l.seat → CutSteps k w (here l at)
cut_moves k w l CutAt.FrontLeft good tied free = front_readies k w l good tied free
cut_moves k w l CutAt.FrontSize good tied free = front_splits k w l good tied free
cut_moves k w l CutAt.BackLeft good tied free = back_readies k w l good tied free
cut_moves k w l CutAt.BackSize good tied free = back_splits k w l good tied free
cut_moves k w l (CutAt.Front at) good tied free =
    let c : CutCall = cut_call l in
    let moved = bin_moves k w (front_call c) Taking.ForUse at good free tied.tasks.guards tied.tasks.bins
    (has_at w.pool.blocks.place (w.drained l.seat) l.seat (using (front_of c)) at [] (piece_and_back c) tied.hands) in
    record {
      moved = moved;
      says = front_bin_says moved.later l.seat (here l (CutAt.Front at)) at c
          (bin_learn (front_call c) at (word_seen (seen_in w (here l (CutAt.Front at)))));
    }
cut_moves k w l (CutAt.Back at) good tied free =
    let c : CutCall = cut_call l in
    let moved = bin_moves k w (back_call c) Taking.ForUse at good free tied.tasks.guards tied.tasks.bins
    (has_last w.pool.blocks.place (w.drained l.seat) l.seat (using (back_of c)) at (using c.piece ∷ []) tied.hands) in
    record {
      moved = moved;
      says = back_bin_says moved.later l.seat (here l (CutAt.Back at)) at c
          (bin_learn (back_call c) at (word_seen (seen_in w (here l (CutAt.Back at)))));
    }

cut_turned : (k : Key) (w : Whole) (l : Local) (at : At) → IsCutAt at → WholeGood k w
    → SeatTied k w l.seat (record l { at = at }) → has_word (course (record l { at = at })) ≡ true
    → Suits k (record l { at = at }) (seen_in w (record l { at = at })) → StepLeaves k w (record l { at = at })
cut_turned k w l (At.Cut at) is good tied word suits =
    let h : Local = here l at in
    let steps : CutSteps k w h = cut_moves k w l at good tied
    (is_free w l.seat tied.tasks.jobs (idle_away (w.queue l.seat) tied.tasks.queue)) in
    leaves_by k w h tied word suits (others_stay l (At.Cut at) (found_in w h) tt) refl steps.moved steps.says
cut_turned k w l _ is good tied word suits = absurd is

pub cuts_are_turned : CutsAreTurned
cuts_are_turned k w l good tied reset word suits is = cut_turned k w l l.at is good tied word suits
