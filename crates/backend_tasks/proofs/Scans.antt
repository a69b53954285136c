-- What each step of a scan leaves to do, and keeps of what it says by itself.
use Rattle.std.proofs.Common.{◌≡◌, ◌+◌, ◌<◌, ℕ, Bool, true, false, cond, refl, arith}
use Rattle.std.specs.Bool.{⊤}
use Rattle.std.specs.Prelude.{Option, Some, None, ltb}
use Rattle.std.proofs.lemmas.Bool.{ltb-true}
use Rattle.pool_types.specs.Geometry.{bin_count}
use Rattle.pool_types.specs.Sums.{capped}
use Rattle.word_codes.specs.declared.guards.Guard.{Guard}
use Rattle.word_codes.specs.Guards.{guard_of}
use Rattle.word_codes.specs.Links.{link_of}
use Rattle.guards.specs.declared.win.WinNext.{WinNext}
use Rattle.guards.specs.Win.{win_learn}
use Rattle.locked_chain.specs.declared.lock.LockNext.{LockNext}
use Rattle.locked_chain.specs.declared.remove.RemoveNext.{RemoveNext}
use Rattle.locked_chain.specs.Locks.{lock_learn}
use Rattle.locked_chain.specs.Remove.{remove_learn}
use Rattle.backend_bins.specs.declared.blocks.Block.{Block}
use Rattle.backend_bins.specs.declared.scan.ScanAt.{ScanAt}
use Rattle.backend_bins.specs.declared.scan.ScanCall.{ScanCall}
use Rattle.backend_bins.specs.declared.scan.ScanNext.{ScanNext}
use Rattle.backend_bins.specs.declared.scan.ScanStep.{ScanStep}
use Rattle.backend_bins.specs.Blocks.{bin_of, block, fits, last_bin}
use Rattle.backend_bins.specs.Scan.{goes, lock_tried, looks_on, measure, out_goes, peeked, scan_end, scan_lock}
use Rattle.backend_bins.specs.Scan.{see_block, step_learn, tries, unlocked, visits, win_goes, win_of}
use Rattle.guard_laws.specs.Blocks as guards
use Rattle.guard_laws.specs.Steps.{task_after}
use Rattle.bin_laws.specs.Bins as tasks
use Rattle.bin_laws.specs.Steps.{task_locked, task_unlinked}
use Rattle.backend_tasks.specs.Bins.{scan_task, scan_task_left, won_left}
use Rattle.backend_tasks.specs.Fits.{LengthFits, ScanFinds, ScanFits}
use Rattle.backend_tasks.specs.Guards.{GuardGoesOn, scan_guard, scan_guard_left}
use Rattle.backend_tasks.proofs.Bare.{bin_low}

-- on guards: where a scan goes on, waits for a lock, begins again, or is done
abbrev pub scan_guard_then : ScanStep → ScanNext → guards.Task
scan_guard_then step (ScanNext.Goes next) = scan_guard next.step
scan_guard_then step ScanNext.WaitsLock = scan_guard step
scan_guard_then step (ScanNext.WaitsHalf bin again) = scan_guard again.step
scan_guard_then step (ScanNext.Took b) = guards.Task.Away
scan_guard_then step (ScanNext.Nothing seen) = guards.Task.Away

abbrev Goes : ScanStep → ScanNext → Type 0
Goes step next = GuardGoesOn (scan_guard_then step next) guards.Task.Away

either_goes : (step : ScanStep) (b : Bool) (x y : ScanNext) → Goes step x → Goes step y → Goes step (cond b x y)
either_goes step true x y one other = one
either_goes step false x y one other = other

end_guard : (c : ScanCall) (s : ScanAt) (step : ScanStep) (noted : Option ℕ) → Goes step (scan_end c s noted)
end_guard c s step (Some bin) = tt
end_guard c s step None = tt

on_guard : (c : ScanCall) (s : ScanAt) (step : ScanStep) → Goes step (looks_on c s)
on_guard c s step = either_goes step (ltb s.bin last_bin) _ _ tt (end_guard c s step s.noted)

tries_guard : (c : ScanCall) (s : ScanAt) (step : ScanStep) (b : Block) → Goes step (tries c s b)
tries_guard c s step b = either_goes step (fits c.want b) _ _ tt tt

see_guard : (c : ScanCall) (s : ScanAt) (step : ScanStep) (first : ℕ) → Goes step (see_block c s first)
see_guard c s step first =
    either_goes step (ltb s.bin last_bin) _ _ (tries_guard c s step (block first (s.bin + 1))) tt

visits_guard : (c : ScanCall) (s : ScanAt) (step : ScanStep) (one : Option ℕ) → Goes step (visits c s one)
visits_guard c s step (Some first) = see_guard c (record s { seen = capped (s.seen + 1) }) step first
visits_guard c s step None = tt

peeked_guard : (c : ScanCall) (s : ScanAt) (step : ScanStep) (one : Option ℕ) → Goes step (peeked c s one)
peeked_guard c s step (Some first) = tt
peeked_guard c s step None = on_guard c s step

lock_guard : (s : ScanAt) (next : LockNext) → Goes ScanStep.Lock (lock_tried s next)
lock_guard s LockNext.Won = tt
lock_guard s LockNext.Waits = tt

measure_guard : (c : ScanCall) (s : ScanAt) (step : ScanStep) (first : ℕ) (guard : Guard)
    → Goes step (measure c s first guard)
measure_guard c s step first (Guard.Free granules) = tries_guard c s step (block first granules)
measure_guard c s step first Guard.Used = tt
measure_guard c s step first Guard.Coalescing = tt
measure_guard c s step first Guard.Wall = tt

win_guard : (s : ScanAt) (step : ScanStep) (b : Block) (next : WinNext)
    → GuardGoesOn (scan_guard_then step (win_goes s b next)) (task_after (win_of b) next)
win_guard s step b (WinNext.Goes next) = refl
win_guard s step b WinNext.Won = tt
win_guard s step b (WinNext.NotWon found) = tt
win_guard s step b WinNext.GivenBack = tt

out_guard : (s : ScanAt) (step : ScanStep) (b : Block) (next : RemoveNext) → Goes step (out_goes s b next)
out_guard s step b (RemoveNext.Goes next) = tt
out_guard s step b RemoveNext.Out = tt

unlocked_guard : (c : ScanCall) (s : ScanAt) (step : ScanStep) (took : Option Block) → Goes step (unlocked c s took)
unlocked_guard c s step (Some b) = tt
unlocked_guard c s step None = on_guard c s step

pub scan_guard_moves : (c : ScanCall) (s : ScanAt) (step : ScanStep) (found : ℕ)
    → GuardGoesOn (scan_guard_then step (step_learn c s step found)) (scan_guard_left step found)
scan_guard_moves c s ScanStep.Peek found = peeked_guard c s ScanStep.Peek (link_of found)
scan_guard_moves c s ScanStep.Lock found = lock_guard s (lock_learn (scan_lock c s) found)
scan_guard_moves c s ScanStep.Head found = visits_guard c s ScanStep.Head (link_of found)
scan_guard_moves c s (ScanStep.Length first) found =
    measure_guard c s (ScanStep.Length first) first (guard_of found)
scan_guard_moves c s (ScanStep.Win b at) found = win_guard s (ScanStep.Win b at) b (win_learn (win_of b) at found)
scan_guard_moves c s (ScanStep.Next first) found = visits_guard c s (ScanStep.Next first) (link_of found)
scan_guard_moves c s (ScanStep.Out b at) found = out_guard s (ScanStep.Out b at) b (remove_learn at found)
scan_guard_moves c s (ScanStep.Unlock took) found = unlocked_guard c s (ScanStep.Unlock took) took

-- in bins
abbrev pub scan_task_then : ScanAt → ScanStep → ScanNext → tasks.Task
scan_task_then s step (ScanNext.Goes next) = scan_task next next.step
scan_task_then s step ScanNext.WaitsLock = scan_task s step
scan_task_then s step (ScanNext.WaitsHalf bin again) = scan_task again again.step
scan_task_then s step (ScanNext.Took b) = tasks.Task.Away
scan_task_then s step (ScanNext.Nothing seen) = tasks.Task.Away

abbrev Leaves : ScanAt → ScanStep → ScanNext → tasks.Task → Type 0
Leaves s step next left = scan_task_then s step next ≡ left

either_leaves : (s : ScanAt) (step : ScanStep) (left : tasks.Task) (b : Bool) (x y : ScanNext) → Leaves s step x left
    → Leaves s step y left → Leaves s step (cond b x y) left
either_leaves s step left true x y one other = one
either_leaves s step left false x y one other = other

end_task : (c : ScanCall) (s : ScanAt) (step : ScanStep) (noted : Option ℕ)
    → Leaves s step (scan_end c s noted) tasks.Task.Away
end_task c s step (Some bin) = refl
end_task c s step None = refl

on_task : (c : ScanCall) (s : ScanAt) (step : ScanStep) → Leaves s step (looks_on c s) tasks.Task.Away
on_task c s step =
    either_leaves s step tasks.Task.Away (ltb s.bin last_bin) _ _ refl (end_task c s step s.noted)

-- a scan that looks at a block has the lock of the bin that it is at
tries_task : (c : ScanCall) (s t : ScanAt) (step : ScanStep) (b : Block)
    → Leaves s step (tries c t b) (tasks.Task.Has t.bin)
tries_task c s t step b = either_leaves s step (tasks.Task.Has t.bin) (fits c.want b) _ _ refl refl

see_task : (c : ScanCall) (s t : ScanAt) (step : ScanStep) (first : ℕ)
    → Leaves s step (see_block c t first) (tasks.Task.Has t.bin)
see_task c s t step first = either_leaves s step (tasks.Task.Has t.bin) (ltb t.bin last_bin) _ _
    (tries_task c s t step (block first (t.bin + 1))) refl

visits_task : (c : ScanCall) (s : ScanAt) (step : ScanStep) (one : Option ℕ)
    → Leaves s step (visits c s one) (tasks.Task.Has s.bin)
visits_task c s step (Some first) = see_task c s (record s { seen = capped (s.seen + 1) }) step first
visits_task c s step None = refl

peeked_task : (c : ScanCall) (s : ScanAt) (step : ScanStep) (one : Option ℕ)
    → Leaves s step (peeked c s one) tasks.Task.Away
peeked_task c s step (Some first) = refl
peeked_task c s step None = on_task c s step

lock_task : (s : ScanAt) (next : LockNext) → Leaves s ScanStep.Lock (lock_tried s next) (task_locked s.bin next)
lock_task s LockNext.Won = refl
lock_task s LockNext.Waits = refl

measure_task : (c : ScanCall) (s : ScanAt) (step : ScanStep) (first : ℕ) (guard : Guard)
    → Leaves s step (measure c s first guard) (tasks.Task.Has s.bin)
measure_task c s step first (Guard.Free granules) = tries_task c s s step (block first granules)
measure_task c s step first Guard.Used = refl
measure_task c s step first Guard.Coalescing = refl
measure_task c s step first Guard.Wall = refl

win_task : (s : ScanAt) (step : ScanStep) (b : Block) (next : WinNext)
    → Leaves s step (win_goes s b next) (won_left (tasks.Task.Has s.bin) b next)
win_task s step b (WinNext.Goes next) = refl
win_task s step b WinNext.Won = refl
win_task s step b (WinNext.NotWon found) = refl
win_task s step b WinNext.GivenBack = refl

out_task : (s : ScanAt) (step : ScanStep) (b : Block) (next : RemoveNext)
    → Leaves s step (out_goes s b next) (task_unlinked b.first b.granules next)
out_task s step b (RemoveNext.Goes next) = refl
out_task s step b RemoveNext.Out = refl

unlocked_task : (c : ScanCall) (s : ScanAt) (step : ScanStep) (took : Option Block)
    → Leaves s step (unlocked c s took) tasks.Task.Away
unlocked_task c s step (Some b) = refl
unlocked_task c s step None = on_task c s step

pub scan_task_moves : (c : ScanCall) (s : ScanAt) (step : ScanStep) (found : ℕ)
    → scan_task_then s step (step_learn c s step found) ≡ scan_task_left c s step found
scan_task_moves c s ScanStep.Peek found = peeked_task c s ScanStep.Peek (link_of found)
scan_task_moves c s ScanStep.Lock found = lock_task s (lock_learn (scan_lock c s) found)
scan_task_moves c s ScanStep.Head found = visits_task c s ScanStep.Head (link_of found)
scan_task_moves c s (ScanStep.Length first) found = measure_task c s (ScanStep.Length first) first (guard_of found)
scan_task_moves c s (ScanStep.Win b at) found = win_task s (ScanStep.Win b at) b (win_learn (win_of b) at found)
scan_task_moves c s (ScanStep.Next first) found = visits_task c s (ScanStep.Next first) (link_of found)
scan_task_moves c s (ScanStep.Out b at) found = out_task s (ScanStep.Out b at) b (remove_learn at found)
scan_task_moves c s (ScanStep.Unlock took) found = unlocked_task c s (ScanStep.Unlock took) took

-- by itself
abbrev pub ScanThenFits : ScanNext → Type 0
ScanThenFits (ScanNext.Goes next) = ScanFits next next.step
ScanThenFits ScanNext.WaitsLock = ⊤
ScanThenFits (ScanNext.WaitsHalf bin again) = ScanFits again again.step
ScanThenFits (ScanNext.Took b) = ⊤
ScanThenFits (ScanNext.Nothing seen) = ⊤

either_fits : (b : Bool) (x y : ScanNext) → ScanThenFits x → ScanThenFits y → ScanThenFits (cond b x y)
either_fits true x y one other = one
either_fits false x y one other = other

end_fits : (c : ScanCall) (s : ScanAt) (noted : Option ℕ) → ScanThenFits (scan_end c s noted)
end_fits c s (Some bin) = bin_low c.want.granules
end_fits c s None = tt

on_fits : (c : ScanCall) (s : ScanAt) → ScanThenFits (looks_on c s)
on_fits c s = by (ltb s.bin last_bin) refl
  where
    by : (b : Bool) → ltb s.bin last_bin ≡ b
        → ScanThenFits (cond b (ScanNext.Goes (record s { bin = s.bin + 1; step = ScanStep.Peek }))
        (scan_end c s s.noted))
    by true small = let low = ltb-true s.bin last_bin small in omega arith
    by false large = end_fits c s s.noted

tries_fits : (c : ScanCall) (s : ScanAt) (b : Block) → s.bin ≡ bin_of b.granules → ScanThenFits (tries c s b)
tries_fits c s b is = either_fits (fits c.want b) _ _ is tt

-- before the last bin a block has its bin's length
bin_is : (bin : ℕ) → bin < last_bin → bin ≡ bin_of (bin + 1)
bin_is bin small = omega arith

see_fits : (c : ScanCall) (s : ScanAt) (first : ℕ) → ScanThenFits (see_block c s first)
see_fits c s first = by (ltb s.bin last_bin) refl
  where
    by : (b : Bool) → ltb s.bin last_bin ≡ b
        → ScanThenFits (cond b (tries c s (block first (s.bin + 1))) (goes s (ScanStep.Length first)))
    by true small = tries_fits c s (block first (s.bin + 1)) (bin_is s.bin (ltb-true s.bin last_bin small))
    by false large = tt

visits_fits : (c : ScanCall) (s : ScanAt) (one : Option ℕ) → ScanThenFits (visits c s one)
visits_fits c s (Some first) = see_fits c (record s { seen = capped (s.seen + 1) }) first
visits_fits c s None = tt

peeked_fits : (c : ScanCall) (s : ScanAt) (one : Option ℕ) → s.bin < bin_count → ScanThenFits (peeked c s one)
peeked_fits c s (Some first) low = low
peeked_fits c s None low = on_fits c s

lock_fits : (s : ScanAt) (next : LockNext) → ScanThenFits (lock_tried s next)
lock_fits s LockNext.Won = tt
lock_fits s LockNext.Waits = tt

measure_fits : (c : ScanCall) (s : ScanAt) (first : ℕ) (guard : Guard) → LengthFits s.bin guard
    → ScanThenFits (measure c s first guard)
measure_fits c s first (Guard.Free granules) is = tries_fits c s (block first granules) is
measure_fits c s first Guard.Used is = tt
measure_fits c s first Guard.Coalescing is = tt
measure_fits c s first Guard.Wall is = tt

win_fits : (s : ScanAt) (b : Block) (next : WinNext) → s.bin ≡ bin_of b.granules → ScanThenFits (win_goes s b next)
win_fits s b (WinNext.Goes next) is = is
win_fits s b WinNext.Won is = is
win_fits s b (WinNext.NotWon found) is = tt
win_fits s b WinNext.GivenBack is = tt

out_fits : (s : ScanAt) (b : Block) (next : RemoveNext) → s.bin ≡ bin_of b.granules → ScanThenFits (out_goes s b next)
out_fits s b (RemoveNext.Goes next) is = is
out_fits s b RemoveNext.Out is = is

unlocked_fits : (c : ScanCall) (s : ScanAt) (took : Option Block) → ScanThenFits (unlocked c s took)
unlocked_fits c s (Some b) = tt
unlocked_fits c s None = on_fits c s

pub scan_keeps_fits : (c : ScanCall) (s : ScanAt) (step : ScanStep) (found : ℕ) → ScanFits s step
    → ScanFinds s step found → ScanThenFits (step_learn c s step found)
scan_keeps_fits c s ScanStep.Peek found fits finds = peeked_fits c s (link_of found) fits
scan_keeps_fits c s ScanStep.Lock found fits finds = lock_fits s (lock_learn (scan_lock c s) found)
scan_keeps_fits c s ScanStep.Head found fits finds = visits_fits c s (link_of found)
scan_keeps_fits c s (ScanStep.Length first) found fits finds = measure_fits c s first (guard_of found) finds
scan_keeps_fits c s (ScanStep.Win b at) found fits finds = win_fits s b (win_learn (win_of b) at found) fits
scan_keeps_fits c s (ScanStep.Next first) found fits finds = visits_fits c s (link_of found)
scan_keeps_fits c s (ScanStep.Out b at) found fits finds = out_fits s b (remove_learn at found) fits
scan_keeps_fits c s (ScanStep.Unlock took) found fits finds = unlocked_fits c s took
