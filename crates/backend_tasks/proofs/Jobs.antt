-- What each step of a job on a bin leaves to do.
use Rattle.std.proofs.Common.{◌≡◌, ℕ, refl, subst, sym}
use Rattle.std.specs.Bool.{⊤}
use Rattle.locked_chain.specs.declared.insert.InsertAt.{InsertAt}
use Rattle.locked_chain.specs.declared.insert.InsertNext.{InsertNext}
use Rattle.locked_chain.specs.declared.lock.LockNext.{LockNext}
use Rattle.locked_chain.specs.declared.remove.RemoveAt.{RemoveAt}
use Rattle.locked_chain.specs.declared.remove.RemoveNext.{RemoveNext}
use Rattle.locked_chain.specs.Insert.{insert_learn}
use Rattle.locked_chain.specs.Locks.{lock_learn}
use Rattle.locked_chain.specs.Remove.{remove_learn}
use Rattle.backend_bins.specs.declared.bin.BinAt.{BinAt}
use Rattle.backend_bins.specs.declared.bin.BinCall.{BinCall}
use Rattle.backend_bins.specs.declared.bin.BinJob.{BinJob}
use Rattle.backend_bins.specs.declared.bin.BinNext.{BinNext}
use Rattle.backend_bins.specs.declared.blocks.Block.{Block}
use Rattle.backend_bins.specs.Bin.{bin_learn, bin_lock, insert_goes, job_begins, lock_tried, out_goes}
use Rattle.guard_laws.specs.Blocks as guards
use Rattle.bin_laws.specs.Bins as bins
use Rattle.bin_laws.specs.Steps.{task_linked, task_unlinked}
use Rattle.queue_laws.specs.Puts.{TakesOut}
use Rattle.backend_tasks.specs.Bins.{bin_task, bin_task_left, bin_waits, locked_left}
use Rattle.backend_tasks.specs.Fits.{PutsIn}
use Rattle.backend_tasks.specs.Guards.{bin_guard, bin_guard_left}

-- the task on guards where the job goes on, waits or is done
abbrev pub guard_then : Block → BinAt → BinNext → guards.Task
guard_then b at (BinNext.Goes next) = bin_guard b next
guard_then b at BinNext.Waits = bin_guard b at
guard_then b at BinNext.Done = guards.Task.Away

job_guard : (b : Block) (job : BinJob) → guard_then b BinAt.Lock (job_begins job) ≡ guards.Task.Away
job_guard b BinJob.Insert = refl
job_guard b BinJob.Unlink = refl

lock_guard : (c : BinCall) (next : LockNext)
    → guard_then c.block BinAt.Lock (lock_tried c next) ≡ guards.Task.Away
lock_guard c LockNext.Won = job_guard c.block c.job
lock_guard c LockNext.Waits = refl

insert_guard : (b : Block) (at : InsertAt) (next : InsertNext)
    → guard_then b (BinAt.Insert at) (insert_goes next) ≡ guards.Task.Away
insert_guard b at (InsertNext.Goes next) = refl
insert_guard b at InsertNext.Inserted = refl

out_guard : (b : Block) (at : RemoveAt) (next : RemoveNext)
    → guard_then b (BinAt.Out at) (out_goes next) ≡ guards.Task.Away
out_guard b at (RemoveNext.Goes next) = refl
out_guard b at RemoveNext.Out = refl

pub guard_moves : (c : BinCall) (at : BinAt) (found : ℕ)
    → guard_then c.block at (bin_learn c at found) ≡ bin_guard_left c.block at
guard_moves c BinAt.Lock found = lock_guard c (lock_learn (bin_lock c) found)
guard_moves c BinAt.Size found = refl
guard_moves c BinAt.Left found = refl
guard_moves c (BinAt.Insert at) found = insert_guard c.block at (insert_learn at found)
guard_moves c (BinAt.Out at) found = out_guard c.block at (remove_learn at found)
guard_moves c BinAt.Unlock found = refl

-- and that in bins
abbrev pub task_then : BinCall → bins.Task → BinNext → bins.Task
task_then c waits (BinNext.Goes next) = bin_task c next
task_then c waits BinNext.Waits = waits
task_then c waits BinNext.Done = bins.Task.Away

lock_won : (c : BinCall) (job : BinJob)
    → task_then c (bin_waits c job) (job_begins job) ≡ locked_left c job LockNext.Won
lock_won c BinJob.Insert = refl
lock_won c BinJob.Unlink = refl

lock_waits : (c : BinCall) (job : BinJob) → bin_waits c job ≡ locked_left c job LockNext.Waits
lock_waits c BinJob.Insert = refl
lock_waits c BinJob.Unlink = refl

lock_task : (c : BinCall) (next : LockNext)
    → task_then c (bin_task c BinAt.Lock) (lock_tried c next) ≡ locked_left c c.job next
lock_task c LockNext.Won = lock_won c c.job
lock_task c LockNext.Waits = lock_waits c c.job

insert_task : (c : BinCall) (at : InsertAt) (next : InsertNext)
    → task_then c (bin_task c (BinAt.Insert at)) (insert_goes next) ≡ task_linked c.block.first c.block.granules next
insert_task c at (InsertNext.Goes next) = refl
insert_task c at InsertNext.Inserted = refl

out_task : (c : BinCall) (at : RemoveAt) (next : RemoveNext)
    → task_then c (bin_task c (BinAt.Out at)) (out_goes next) ≡ task_unlinked c.block.first c.block.granules next
out_task c at (RemoveNext.Goes next) = refl
out_task c at RemoveNext.Out = refl

pub task_moves : (c : BinCall) (at : BinAt) (found : ℕ)
    → task_then c (bin_task c at) (bin_learn c at found) ≡ bin_task_left c at found
task_moves c BinAt.Lock found = lock_task c (lock_learn (bin_lock c) found)
task_moves c BinAt.Size found = refl
task_moves c BinAt.Left found = refl
task_moves c (BinAt.Insert at) found = insert_task c at (insert_learn at found)
task_moves c (BinAt.Out at) found = out_task c at (remove_learn at found)
task_moves c BinAt.Unlock found = refl

-- a job that puts a block in does not take one out, and the other way round
abbrev pub ThenPuts : BinNext → Type 0
ThenPuts (BinNext.Goes next) = PutsIn next
ThenPuts BinNext.Waits = ⊤
ThenPuts BinNext.Done = ⊤

lock_puts : (c : BinCall) (next : LockNext) → c.job ≡ BinJob.Insert → ThenPuts (lock_tried c next)
lock_puts c LockNext.Won job = subst (λ (j : BinJob). ThenPuts (job_begins j)) (sym job) tt
lock_puts c LockNext.Waits job = tt

insert_puts : (next : InsertNext) → ThenPuts (insert_goes next)
insert_puts (InsertNext.Goes next) = tt
insert_puts InsertNext.Inserted = tt

pub puts_moves : (c : BinCall) (at : BinAt) (found : ℕ) → c.job ≡ BinJob.Insert → PutsIn at
    → ThenPuts (bin_learn c at found)
puts_moves c BinAt.Lock found job puts = lock_puts c (lock_learn (bin_lock c) found) job
puts_moves c BinAt.Size found job puts = tt
puts_moves c BinAt.Left found job puts = tt
puts_moves c (BinAt.Insert at) found job puts = insert_puts (insert_learn at found)
puts_moves c (BinAt.Out at) found job puts = absurd puts
puts_moves c BinAt.Unlock found job puts = tt

abbrev pub ThenTakes : BinNext → Type 0
ThenTakes (BinNext.Goes next) = TakesOut next
ThenTakes BinNext.Waits = ⊤
ThenTakes BinNext.Done = ⊤

lock_takes : (c : BinCall) (next : LockNext) → c.job ≡ BinJob.Unlink → ThenTakes (lock_tried c next)
lock_takes c LockNext.Won job = subst (λ (j : BinJob). ThenTakes (job_begins j)) (sym job) tt
lock_takes c LockNext.Waits job = tt

out_takes : (next : RemoveNext) → ThenTakes (out_goes next)
out_takes (RemoveNext.Goes next) = tt
out_takes RemoveNext.Out = tt

pub takes_moves : (c : BinCall) (at : BinAt) (found : ℕ) → c.job ≡ BinJob.Unlink → TakesOut at
    → ThenTakes (bin_learn c at found)
takes_moves c BinAt.Lock found job takes = lock_takes c (lock_learn (bin_lock c) found) job
takes_moves c BinAt.Size found job takes = absurd takes
takes_moves c BinAt.Left found job takes = absurd takes
takes_moves c (BinAt.Insert at) found job takes = absurd takes
takes_moves c (BinAt.Out at) found job takes = out_takes (remove_learn at found)
takes_moves c BinAt.Unlock found job takes = tt
