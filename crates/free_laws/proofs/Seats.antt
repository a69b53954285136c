-- What a seat does with guards, with bins and with the queue stays of one position.
use Rattle.std.proofs.Common.{ℕ, sym, subst}
use Rattle.pool_words.specs.declared.words.Key.{Key}
use Rattle.guards.specs.declared.win.WinAt.{WinAt}
use Rattle.guards.specs.declared.win.WinCall.{WinCall}
use Rattle.guards.specs.declared.win.WinNext.{WinNext}
use Rattle.guards.specs.Win.{win_course, win_learn}
use Rattle.word_laws.specs.Memory.{Mem, put, found}
use Rattle.word_laws.proofs.CallerLemmas.{put-same, put-other, each}
use Rattle.guard_laws.specs.Blocks as blocks
use Rattle.guard_laws.specs.Steps.{GuardStep, task_after}
use Rattle.bin_laws.specs.Bins.{Task}
use Rattle.bin_laws.specs.Steps.{IsReady}
use Rattle.queue_laws.specs.Queue as queues
use Rattle.queue_laws.specs.Steps.{IsIdle}
use Rattle.free_laws.specs.Spaces.{Space, LockFits, QueueFits, SeatFits, SeatsFit}
use Rattle.free_laws.specs.Steps.{KeepsFree}

pub idle_fits : (guard : blocks.Task) (bin : Task) (task : queues.Task) → IsIdle task → QueueFits guard bin task
idle_fits guard bin queues.Task.Away idle = tt
idle_fits guard bin (queues.Task.Queues x n at) idle = absurd idle
idle_fits guard bin (queues.Task.Drains rest) idle = tt

-- a seat goes on at guards and in bins
pub seats_put : (guards : ℕ → blocks.Task) (bins : ℕ → Task) (tasks : ℕ → queues.Task) (t : ℕ) (guard : blocks.Task)
    (bin : Task) → ((o : ℕ) → SeatFits (guards o) (bins o) (tasks o)) → SeatFits guard bin (tasks t) → (o : ℕ)
    → SeatFits (put guards t guard o) (put bins t bin o) (tasks o)
seats_put guards bins tasks t guard bin fits now = each (λ o r. SeatFits r (put bins t bin o) (tasks o)) guards t guard
    (λ o ne. subst (λ b. SeatFits (guards o) b (tasks o)) (sym (put-other bins t bin o ne)) (fits o))
    (subst (λ b. SeatFits guard b (tasks t)) (sym (put-same bins t bin)) now)

after_win : (c : WinCall) (bin : Task) (next : WinNext) → IsReady c.granules bin → LockFits (task_after c next) bin
after_win c bin (WinNext.Goes at) ready = ready
after_win c bin WinNext.Won ready = tt
after_win c bin (WinNext.NotWon f) ready = tt
after_win c bin WinNext.GivenBack ready = tt

-- a step on guards
pub guards_fit : (k : Key) (t : ℕ) (s : Space) (h : blocks.Shadow) (m' : Mem) (tasks : ℕ → blocks.Task)
    → (step : GuardStep k t s.pool.blocks s.pool.mem s.pool.tasks h m' tasks) → KeepsFree k t s h m' tasks step
    → IsIdle (s.queue t) → SeatsFit s → (o : ℕ) → SeatFits (tasks o) (s.bins o) (s.queue o)
guards_fit k t s h m' tasks step keeps idle fits = by step keeps
  where
    goes : (task : blocks.Task) → LockFits task (s.bins t) → (o : ℕ)
        → SeatFits (put s.pool.tasks t task o) (s.bins o) (s.queue o)
    goes task lock = each (λ o r. SeatFits r (s.bins o) (s.queue o)) s.pool.tasks t task (λ o _. fits o)
        (record { lock = lock; queue = idle_fits task (s.bins t) (s.queue t) idle })

    by : {h : blocks.Shadow} {m' : Mem} {tasks : ℕ → blocks.Task}
        → (step : GuardStep k t s.pool.blocks s.pool.mem s.pool.tasks h m' tasks) → KeepsFree k t s h m' tasks step
        → (o : ℕ) → SeatFits (tasks o) (s.bins o) (s.queue o)
    by (GuardStep.begins c is calls) keeps = goes (blocks.Task.Wins c WinAt.First) keeps
    by (GuardStep.wins c at is) keeps =
        let next = win_learn c at (found s.pool.mem (win_course c at)) in
        goes (task_after c next)
        (after_win c (s.bins t) next (subst (λ q. LockFits q (s.bins t)) is (fits t).lock))
    by (GuardStep.offers x n taking is at) keeps = goes (blocks.Task.Offers x n) keeps
    by (GuardStep.offered x n is) keeps = absurd keeps
    by (GuardStep.marks e x n taking guard is at say) keeps = fits
    by (GuardStep.readies e x n y taking at low high) keeps = fits
    by (GuardStep.splits x a b is some more at used) keeps = fits
    by (GuardStep.merges x a b is at behind) keeps = fits
    by (GuardStep.reuses x n was now is own own' at say) keeps = fits
    by GuardStep.drains keeps = fits
    by (GuardStep.walls e y low none) keeps = fits
    by (GuardStep.outlines e y low none) keeps = fits
    by (GuardStep.comes x n some within outside used) keeps = fits
    by (GuardStep.leaves x n taking is at) keeps = fits
    by (GuardStep.others action other) keeps = fits
