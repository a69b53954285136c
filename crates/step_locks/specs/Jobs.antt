-- The lock that a seat has at each position of a job that takes one, and what the next step makes of that.
use Rattle.std.specs.Prelude.{ℕ}
use Rattle.backend_bins.specs.Blocks.{bin_of}
use Rattle.backend_bins.specs.Cut.{back_call, front_call}
use Rattle.backend_bins.specs.declared.bin.BinAt.{BinAt}
use Rattle.backend_bins.specs.declared.bin.BinCall.{BinCall}
use Rattle.backend_bins.specs.declared.cut.CutAt.{CutAt}
use Rattle.backend_bins.specs.declared.cut.CutCall.{CutCall}
use Rattle.backend_bins.specs.declared.scan.ScanStep.{ScanStep}
use Rattle.coalescer.specs.Drain.{put_call}
use Rattle.coalescer.specs.Put.{insert_call, unlink_call}
use Rattle.coalescer.specs.declared.drain.DrainAt.{DrainAt}
use Rattle.coalescer.specs.declared.drain.DrainCall.{DrainCall}
use Rattle.coalescer.specs.declared.put.PutAt.{PutAt}
use Rattle.coalescer.specs.declared.put.PutCall.{PutCall}
use Rattle.coalescer.specs.declared.put.PutStep.{PutStep}
use Rattle.large_cache.specs.declared.get.GetAt.{GetAt}
use Rattle.large_cache.specs.declared.keep.KeepAt.{KeepAt}
use Rattle.large_cache.specs.declared.sweep.SweepAt.{SweepAt}
use Rattle.large_cache.specs.declared.undo.UndoAt.{UndoAt}
use Rattle.reset_steps.specs.Unite.{unlink_call as unite_unlink}
use Rattle.reset_steps.specs.declared.clear.ClearAt.{ClearAt}
use Rattle.reset_steps.specs.declared.unite.UniteAt.{UniteAt}
use Rattle.reset_steps.specs.declared.unite.UniteCall.{UniteCall}
use Rattle.step_locks.specs.Holdings.{Holding, no_lock, bin_lock, cache_lock, Change, keeps, takes, frees}

-- a block is put into its bin, or taken out of it: the lock is taken first, and freed last
abbrev pub bin_holds : BinCall → BinAt → Holding
bin_holds c BinAt.Lock = no_lock
bin_holds c _ = bin_lock (bin_of c.block.granules)

abbrev pub bin_change : BinCall → BinAt → Change
bin_change c BinAt.Lock = takes (bin_lock (bin_of c.block.granules))
bin_change c BinAt.Unlock = frees
bin_change c _ = keeps

-- a scan has the lock of the bin that it is at, but while it peeks
abbrev pub scan_holds : ℕ → ScanStep → Holding
scan_holds bin ScanStep.Peek = no_lock
scan_holds bin ScanStep.Lock = no_lock
scan_holds bin _ = bin_lock bin

abbrev pub scan_change : ℕ → ScanStep → Change
scan_change bin ScanStep.Lock = takes (bin_lock bin)
scan_change bin (ScanStep.Unlock took) = frees
scan_change bin _ = keeps

abbrev pub cut_holds : CutCall → CutAt → Holding
cut_holds c (CutAt.Front at) = bin_holds (front_call c) at
cut_holds c (CutAt.Back at) = bin_holds (back_call c) at
cut_holds c _ = no_lock

abbrev pub cut_change : CutCall → CutAt → Change
cut_change c (CutAt.Front at) = bin_change (front_call c) at
cut_change c (CutAt.Back at) = bin_change (back_call c) at
cut_change c _ = keeps

-- a put takes its neighbours out of their bins, and then goes into its own
abbrev pub put_holds : PutCall → PutAt → PutStep → Holding
put_holds c p (PutStep.UnlinkLeft neighbour at) = bin_holds (unlink_call c neighbour) at
put_holds c p (PutStep.UnlinkRight neighbour at) = bin_holds (unlink_call c neighbour) at
put_holds c p (PutStep.Bin at) = bin_holds (insert_call c p.block) at
put_holds c p _ = no_lock

abbrev pub put_change : PutCall → PutAt → PutStep → Change
put_change c p (PutStep.UnlinkLeft neighbour at) = bin_change (unlink_call c neighbour) at
put_change c p (PutStep.UnlinkRight neighbour at) = bin_change (unlink_call c neighbour) at
put_change c p (PutStep.Bin at) = bin_change (insert_call c p.block) at
put_change c p _ = keeps

abbrev pub drain_holds : DrainCall → DrainAt → Holding
drain_holds c (DrainAt.Put rest at) = put_holds (put_call c) at at.step
drain_holds c _ = no_lock

abbrev pub drain_change : DrainCall → DrainAt → Change
drain_change c (DrainAt.Put rest at) = put_change (put_call c) at at.step
drain_change c _ = keeps

abbrev pub unite_holds : UniteCall → UniteAt → Holding
unite_holds c (UniteAt.Unlink b at) = bin_holds (unite_unlink c b) at
unite_holds c _ = no_lock

abbrev pub unite_change : UniteCall → UniteAt → Change
unite_change c (UniteAt.Unlink b at) = bin_change (unite_unlink c b) at
unite_change c _ = keeps

-- a job of the cache has the lock of the bin of so many granules from its first step on to its last
abbrev pub get_holds : ℕ → GetAt → Holding
get_holds granules GetAt.Lock = no_lock
get_holds granules _ = cache_lock granules

abbrev pub get_change : ℕ → GetAt → Change
get_change granules GetAt.Lock = takes (cache_lock granules)
get_change granules (GetAt.Unlock block) = frees
get_change granules _ = keeps

abbrev pub undo_holds : ℕ → UndoAt → Holding
undo_holds granules UndoAt.Lock = no_lock
undo_holds granules _ = cache_lock granules

abbrev pub undo_change : ℕ → UndoAt → Change
undo_change granules UndoAt.Lock = takes (cache_lock granules)
undo_change granules UndoAt.Unlock = frees
undo_change granules _ = keeps

abbrev pub keep_holds : ℕ → KeepAt → Holding
keep_holds granules KeepAt.Lock = no_lock
keep_holds granules _ = cache_lock granules

abbrev pub keep_change : ℕ → KeepAt → Change
keep_change granules KeepAt.Lock = takes (cache_lock granules)
keep_change granules (KeepAt.Unlock released) = frees
keep_change granules _ = keeps

-- but a sweep looks at the clock, and peeks into a bin, without a lock
abbrev pub sweep_holds : ℕ → SweepAt → Holding
sweep_holds granules SweepAt.Clock = no_lock
sweep_holds granules SweepAt.Peek = no_lock
sweep_holds granules SweepAt.Lock = no_lock
sweep_holds granules _ = cache_lock granules

abbrev pub sweep_change : ℕ → SweepAt → Change
sweep_change granules SweepAt.Lock = takes (cache_lock granules)
sweep_change granules SweepAt.Unlock = frees
sweep_change granules _ = keeps

abbrev pub clear_holds : ℕ → ClearAt → Holding
clear_holds granules (ClearAt.Peek number) = no_lock
clear_holds granules ClearAt.Lock = no_lock
clear_holds granules _ = cache_lock granules

abbrev pub clear_change : ℕ → ClearAt → Change
clear_change granules ClearAt.Lock = takes (cache_lock granules)
clear_change granules ClearAt.Unlock = frees
clear_change granules _ = keeps
