-- Each turn of a scan is a step of the whole.
use Rattle.std.proofs.Common.{◌≡◌, [], true, refl, sym, subst}
use Rattle.std.specs.Prelude.{Option, Some, None}
use Rattle.pool_words.specs.declared.words.Key.{Key}
use Rattle.pool_words.specs.declared.words.Word.{Word}
use Rattle.guards.specs.declared.win.Taking.{Taking}
use Rattle.guards.specs.declared.win.WinAt.{WinAt}
use Rattle.guards.specs.Win.{win_course, win_learn}
use Rattle.locked_chain.specs.declared.remove.RemoveAt.{RemoveAt}
use Rattle.locked_chain.specs.Locks.{unlock_course}
use Rattle.locked_chain.specs.Remove.{remove_course, remove_learn}
use Rattle.backend_bins.specs.declared.bin.BinAt.{BinAt}
use Rattle.backend_bins.specs.declared.bin.BinJob.{BinJob}
use Rattle.backend_bins.specs.declared.blocks.Block.{Block}
use Rattle.backend_bins.specs.declared.scan.ScanAt.{ScanAt}
use Rattle.backend_bins.specs.declared.scan.ScanStep.{ScanStep}
use Rattle.backend_bins.specs.Bin.{bin_call}
use Rattle.backend_bins.specs.Blocks.{bin_of}
use Rattle.backend_bins.specs.Scan.{win_of}
use Rattle.word_laws.specs.Memory.{found}
use Rattle.lock_laws.specs.Locks.{lock_by}
use Rattle.lock_laws.specs.Seats.{list_call}
use Rattle.guard_laws.specs.Blocks as guards
use Rattle.guard_laws.specs.Steps.{task_after}
use Rattle.bin_laws.specs.Bins as bins
use Rattle.bin_laws.specs.Bins.{bin_words}
use Rattle.bin_laws.specs.Steps.{IsReady, task_unlinked}
use Rattle.step_local.specs.declared.frames.At.{At}
use Rattle.step_local.specs.declared.frames.Local.{Local}
use Rattle.step_local.specs.Course.{course}
use Rattle.step_runs.specs.Places.{has_word}
use Rattle.backend_tasks.specs.Bins.{bin_left, won_left}
use Rattle.backend_tasks.specs.Guards.{guard_left}
use Rattle.hand_blocks.specs.Changes.{changes_at, won_changes}
use Rattle.hand_blocks.specs.Hands.{using}
use Rattle.pool_laws.specs.Steps.{IsFree}
use Rattle.pool_laws.specs.Wholes.{Whole, WholeGood}
use Rattle.seat_ties.specs.Left.{Suits}
use Rattle.seat_ties.specs.Ties.{SeatTied}
use Rattle.seat_ties.specs.Turns.{StepLeaves, found_in, seen_in}
use Rattle.seat_ties.specs.Laws.{LooksAt}
use Rattle.seat_ties.proofs.CallerLemmas.{scans_say_on}
use Rattle.backend_moves.specs.Laws.{ScansAreTurned}
use Rattle.backend_moves.specs.Moved.{Moved, Stays}
use Rattle.backend_moves.specs.Positions.{IsScanAt}
use Rattle.backend_moves.proofs.BinJobs.{bin_moves, free_stays, take_stays}
use Rattle.backend_moves.proofs.Finish.{leaves_by, others_stay}
use Rattle.backend_moves.proofs.Looks.{idle_away, is_free, look_stays}
use Rattle.backend_moves.proofs.Wins.{win_stays}

-- what a scan's step is to make of the whole
abbrev here : Local → ScanAt → ScanStep → Local
here l s step = record l { at = At.Scan (record s { step = step }) }

abbrev ScanMoved : Key → Whole → Local → Type 0
ScanMoved k w l = Moved k w l.seat (course l) (guard_left l (found_in w l)) (bin_left l (found_in w l))
    (changes_at l l.at (found_in w l))

-- and all but the one that takes a block out of its list leave the lists
record ScanSteps (k : Key) (w : Whole) (l : Local) (step : ScanStep) : Type 0 where
  moved : ScanMoved k w l
  looks : LooksAt w.items moved.later.items step

abbrev ScanStays : Key → Whole → Local → Type 0
ScanStays k w l = Stays k w l.seat (course l) (guard_left l (found_in w l)) (bin_left l (found_in w l))
    (changes_at l l.at (found_in w l))

-- a win under the lock of the block's bin
win_scans : (k : Key) (w : Whole) (l : Local) (s : ScanAt) (b : Block) (at : WinAt) → WholeGood k w
    → SeatTied k w l.seat (here l s (ScanStep.Win b at)) → IsFree w l.seat
    → ScanStays k w (here l s (ScanStep.Win b at))
win_scans k w l s b at good tied free =
    let next = win_learn (win_of b) at (found w.pool.mem (win_course (win_of b) at)) in
    subst (λ task. Stays k w l.seat (win_course (win_of b) at) (task_after (win_of b) next) (won_left task b next)
    (won_changes (using b) next)) tied.tasks.bins
    (win_stays k w l.seat (win_of b) at good free tied.tasks.guards
    (subst (IsReady b.granules) (sym tied.tasks.bins) tied.says.backend))

-- a block that was won leaves the bin whose lock the scan has, which is its own
out_scans : (k : Key) (w : Whole) (l : Local) (s : ScanAt) (b : Block) (at : RemoveAt) → WholeGood k w
    → SeatTied k w l.seat (here l s (ScanStep.Out b at)) → IsFree w l.seat
    → ScanMoved k w (here l s (ScanStep.Out b at))
out_scans k w l s b at good tied free =
    subst (λ bin. Moved k w l.seat (remove_course (list_call bin_words bin b.first) at) guards.Task.Away
    (task_unlinked b.first b.granules
    (remove_learn at (found w.pool.mem (remove_course (list_call bin_words bin b.first) at)))) [])
    (sym tied.says.backend)
    (bin_moves k w (bin_call l.seat b BinJob.Unlink) Taking.ForUse (BinAt.Out at) good free tied.tasks.guards
    tied.tasks.bins tt)

-- the lock is freed
frees_scans : (k : Key) (w : Whole) (l : Local) (s : ScanAt) (took : Option Block) → WholeGood k w
    → SeatTied k w l.seat (here l s (ScanStep.Unlock took)) → IsFree w l.seat
    → ScanStays k w (here l s (ScanStep.Unlock took))
frees_scans k w l s (Some b) good tied free =
    subst (λ bin. Stays k w l.seat (unlock_course (lock_by bin_words.lock l.seat bin)) guards.Task.Away
    bins.Task.Away []) (sym tied.says.backend)
    (free_stays k w l.seat (bin_of b.granules) free tied.tasks.guards tied.tasks.bins)
frees_scans k w l s None good tied free = free_stays k w l.seat s.bin free tied.tasks.guards tied.tasks.bins

scan_moves : (k : Key) (w : Whole) (l : Local) (s : ScanAt) (step : ScanStep) → WholeGood k w
    → SeatTied k w l.seat (here l s step) → IsFree w l.seat → ScanSteps k w (here l s step) step
scan_moves k w l s ScanStep.Peek good tied free =
    let stay = look_stays k w l.seat (Word.BinHead s.bin) guards.Task.Away bins.Task.Away free tied.tasks.guards
    tied.tasks.bins in
    record { moved = stay.moved; looks = stay.items }
scan_moves k w l s ScanStep.Lock good tied free =
    let stay = take_stays k w l.seat s.bin tied.says.backend free tied.tasks.guards tied.tasks.bins in
    record { moved = stay.moved; looks = stay.items }
scan_moves k w l s ScanStep.Head good tied free =
    let stay = look_stays k w l.seat (Word.BinHead s.bin) guards.Task.Away (bins.Task.Has s.bin) free
    tied.tasks.guards tied.tasks.bins in
    record { moved = stay.moved; looks = stay.items }
scan_moves k w l s (ScanStep.Length first) good tied free =
    let stay = look_stays k w l.seat (Word.Size first) guards.Task.Away (bins.Task.Has s.bin) free tied.tasks.guards
    tied.tasks.bins in
    record { moved = stay.moved; looks = stay.items }
scan_moves k w l s (ScanStep.Win b at) good tied free =
    let stay = win_scans k w l s b at good tied free in record { moved = stay.moved; looks = stay.items }
scan_moves k w l s (ScanStep.Next first) good tied free =
    let stay = look_stays k w l.seat (Word.Forward first) guards.Task.Away (bins.Task.Has s.bin) free
    tied.tasks.guards tied.tasks.bins in
    record { moved = stay.moved; looks = stay.items }
scan_moves k w l s (ScanStep.Out b at) good tied free =
    record { moved = out_scans k w l s b at good tied free; looks = tt }
scan_moves k w l s (ScanStep.Unlock took) good tied free =
    let stay = frees_scans k w l s took good tied free in record { moved = stay.moved; looks = stay.items }

scan_turned : (k : Key) (w : Whole) (l : Local) (at : At) → IsScanAt at → WholeGood k w
    → SeatTied k w l.seat (record l { at = at }) → has_word (course (record l { at = at })) ≡ true
    → Suits k (record l { at = at }) (seen_in w (record l { at = at })) → StepLeaves k w (record l { at = at })
scan_turned k w l (At.Scan at) is good tied word suits =
    let h : Local = here l at at.step in
    let steps : ScanSteps k w h at.step =
    scan_moves k w l at at.step good tied
    (is_free w l.seat tied.tasks.jobs (idle_away (w.queue l.seat) tied.tasks.queue)) in
    leaves_by k w h tied word suits (others_stay l (At.Scan at) (found_in w h) tt) refl steps.moved
    (scans_say_on k w steps.moved.later h at good tied.tasks.bins refl tied.words steps.looks)
scan_turned k w l _ is good tied word suits = absurd is

pub scans_are_turned : ScansAreTurned
scans_are_turned k w l good tied reset word suits is = scan_turned k w l l.at is good tied word suits
