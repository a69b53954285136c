-- What begins rest on, by the position.
use Rattle.std.proofs.Common.{◌≡◌, ◌++◌, ℕ, List, [], ◌∷◌, sym, ap, subst}
use Rattle.backend_bins.specs.declared.bin.BinAt.{BinAt}
use Rattle.backend_bins.specs.declared.blocks.Block.{Block}
use Rattle.backend_bins.specs.declared.cut.CutAt.{CutAt}
use Rattle.backend_bins.specs.declared.cut.CutCall.{CutCall}
use Rattle.backend_bins.specs.declared.scan.ScanAt.{ScanAt}
use Rattle.backend_bins.specs.declared.scan.ScanStep.{ScanStep}
use Rattle.coalescer.specs.declared.put.PutAt.{PutAt}
use Rattle.coalescer.specs.declared.put.PutCall.{PutCall}
use Rattle.coalescer.specs.declared.put.PutStep.{PutStep}
use Rattle.guard_laws.specs.Blocks.{Place}
use Rattle.bin_laws.specs.Steps.{IsReady}
use Rattle.queue_laws.specs.Queue as queues
use Rattle.queue_laws.specs.Steps.{IsIdle}
use Rattle.cache_laws.specs.Good as caches
use Rattle.cache_laws.specs.Good.{hand}
use Rattle.step_local.specs.declared.frames.Local.{Local}
use Rattle.step_local.specs.declared.frames.PutFor.{PutFor}
use Rattle.backend_tasks.specs.Bins.{put_task, scan_task}
use Rattle.backend_tasks.specs.Fits.{ScanFits}
use Rattle.backend_tasks.specs.Guards.{bin_guard, cut_guard, put_guard, scan_guard}
use Rattle.hand_blocks.specs.Hands.{Hand, beside_put, released_hands, swept_hands}
use Rattle.pool_laws.specs.Steps.{IsFree}
use Rattle.pool_laws.specs.Wholes.{Whole}
use Rattle.seat_ties.specs.Ties.{AreInHand}
use Rattle.seat_starts.proofs.Blocks.{WinRests}

-- a seat with no job at the cache and no task at the queue puts nothing there
pub free_with : (w : Whole) (seat : ℕ) (task : queues.Task) → w.jobs seat ≡ caches.Task.Away → w.queue seat ≡ task
    → IsIdle task → IsFree w seat
free_with w seat task jobs queue idle = record {
  shelf = ap (λ t. hand t) jobs;
  queue = subst IsIdle (sym queue) idle;
}

pub bin_rests : (w : Whole) (seat : ℕ) (b : Block) (at : BinAt) → WinRests w seat (bin_guard b at)
bin_rests w seat b BinAt.Lock = tt
bin_rests w seat b BinAt.Size = tt
bin_rests w seat b BinAt.Left = tt
bin_rests w seat b (BinAt.Insert at) = tt
bin_rests w seat b (BinAt.Out at) = tt
bin_rests w seat b BinAt.Unlock = tt

pub cut_rests : (w : Whole) (seat : ℕ) (c : CutCall) (at : CutAt) → WinRests w seat (cut_guard c at)
cut_rests w seat c CutAt.FrontLeft = tt
cut_rests w seat c CutAt.FrontSize = tt
cut_rests w seat c CutAt.BackLeft = tt
cut_rests w seat c CutAt.BackSize = tt
cut_rests w seat c (CutAt.Front at) = bin_rests w seat _ at
cut_rests w seat c (CutAt.Back at) = bin_rests w seat _ at

pub scan_rests : (w : Whole) (seat : ℕ) (s : ScanAt) (step : ScanStep) → IsFree w seat
    → w.bins seat ≡ scan_task s step → ScanFits s step → WinRests w seat (scan_guard step)
scan_rests w seat s (ScanStep.Win b at) free bins fits = (subst (IsReady b.granules) (sym bins) fits, free)
scan_rests w seat s _ free bins fits = tt

-- a put that joins a neighbour is in no bin, and puts nothing into the queue just then
pub put_rests : (w : Whole) (seat : ℕ) (c : PutCall) (p : PutAt) (step : PutStep) → w.jobs seat ≡ caches.Task.Away
    → w.bins seat ≡ put_task c p step → (queue : queues.Task) → w.queue seat ≡ queue → IsIdle queue
    → WinRests w seat (put_guard p step)
put_rests w seat c p (PutStep.WinLeft granules at) jobs bins queue is idle =
    (subst (IsReady granules) (sym bins) tt, free_with w seat queue jobs is idle)
put_rests w seat c p (PutStep.UnlinkLeft neighbour at) jobs bins queue is idle = bin_rests w seat neighbour at
put_rests w seat c p (PutStep.WinRight granules at) jobs bins queue is idle =
    (subst (IsReady granules) (sym bins) tt, free_with w seat queue jobs is idle)
put_rests w seat c p (PutStep.UnlinkRight neighbour at) jobs bins queue is idle = bin_rests w seat neighbour at
put_rests w seat c p (PutStep.Bin at) jobs bins queue is idle = bin_rests w seat p.block at
put_rests w seat c p _ jobs bins queue is idle = tt

-- of blocks in hand the last ones
pub in_rest : (place : ℕ → Place) (seat : ℕ) (xs ys : List Hand) → AreInHand place seat (xs ++ ys)
    → AreInHand place seat ys
in_rest place seat [] ys are = are
in_rest place seat (x ∷ xs) ys are = in_rest place seat xs ys are.1

pub put_in_hand : (place : ℕ → Place) (seat : ℕ) (l : Local) (why : PutFor) (hands : List Hand)
    → AreInHand place seat (beside_put l why hands) → AreInHand place seat hands
put_in_hand place seat l PutFor.Swept hands are =
    in_rest place seat (released_hands l.sweep.granules l.released.items) hands
    (in_rest place seat (swept_hands l) (released_hands l.sweep.granules l.released.items ++ hands) are)
put_in_hand place seat l PutFor.Surplus hands are = are
put_in_hand place seat l PutFor.Released hands are = are
put_in_hand place seat l PutFor.Emptied hands are = are
put_in_hand place seat l PutFor.Left hands are = are
