-- The lock that a seat has, by its position, and what its next step makes of that.
use Rattle.std.specs.Prelude.{ℕ, Option}
use Rattle.step_local.specs.declared.frames.At.{At}
use Rattle.step_local.specs.declared.frames.Local.{Local}
use Rattle.step_local.specs.declared.frames.ResetAt.{ResetAt}
use Rattle.step_local.specs.Backend.{cut_call, whole_call, drain_call}
use Rattle.step_local.specs.Large.{cache_call, keep_call, sweep_call}
use Rattle.step_local.specs.Leaving.{put_call}
use Rattle.step_local.specs.Resetting.{binning_call, unite_call}
use Rattle.step_runs.specs.declared.entry.Entry.{Entry}
use Rattle.step_locks.specs.Holdings.{Holding, no_lock, Change, keeps, bin_held, cache_held}
use Rattle.step_locks.specs.Jobs.{bin_holds, bin_change, scan_holds, scan_change, cut_holds, cut_change, put_holds}
use Rattle.step_locks.specs.Jobs.{put_change, drain_holds, drain_change, unite_holds, unite_change, get_holds}
use Rattle.step_locks.specs.Jobs.{get_change, undo_holds, undo_change, keep_holds, keep_change, sweep_holds}
use Rattle.step_locks.specs.Jobs.{sweep_change, clear_holds, clear_change}

abbrev pub reset_holds : Local → ResetAt → Holding
reset_holds l (ResetAt.Clear granules at) = clear_holds granules at
reset_holds l (ResetAt.Unite region at) = unite_holds (unite_call l region) at
reset_holds l (ResetAt.Bin at) = bin_holds (binning_call l) at
reset_holds l _ = no_lock

abbrev pub reset_change : Local → ResetAt → Change
reset_change l (ResetAt.Clear granules at) = clear_change granules at
reset_change l (ResetAt.Unite region at) = unite_change (unite_call l region) at
reset_change l (ResetAt.Bin at) = bin_change (binning_call l) at
reset_change l _ = keeps

abbrev pub holding_at : Local → At → Holding
holding_at l (At.Get at) = get_holds (cache_call l).granules at
holding_at l (At.Undo cause at) = undo_holds (cache_call l).granules at
holding_at l (At.Keep at) = keep_holds (keep_call l).granules at
holding_at l (At.Sweep at) = sweep_holds (sweep_call l).granules at
holding_at l (At.Scan at) = scan_holds at.bin at.step
holding_at l (At.Cut at) = cut_holds (cut_call l) at
holding_at l (At.Whole at) = bin_holds (whole_call l) at
holding_at l (At.Drain at) = drain_holds (drain_call l) at
holding_at l (At.Put at) = put_holds (put_call l) at at.step
holding_at l (At.Reset at) = reset_holds l at
holding_at l _ = no_lock

abbrev pub change_at : Local → At → Change
change_at l (At.Get at) = get_change (cache_call l).granules at
change_at l (At.Undo cause at) = undo_change (cache_call l).granules at
change_at l (At.Keep at) = keep_change (keep_call l).granules at
change_at l (At.Sweep at) = sweep_change (sweep_call l).granules at
change_at l (At.Scan at) = scan_change at.bin at.step
change_at l (At.Cut at) = cut_change (cut_call l) at
change_at l (At.Whole at) = bin_change (whole_call l) at
change_at l (At.Drain at) = drain_change (drain_call l) at
change_at l (At.Put at) = put_change (put_call l) at at.step
change_at l (At.Reset at) = reset_change l at
change_at l _ = keeps

-- the lock that a seat has
abbrev pub holding_of : Local → Holding
holding_of l = holding_at l l.at

-- what its next step makes of that
abbrev pub change_of : Local → Change
change_of l = change_at l l.at

abbrev pub bin_lock_of : Local → Option ℕ
bin_lock_of l = bin_held (holding_of l)

abbrev pub cache_lock_of : Local → Option ℕ
cache_lock_of l = cache_held (holding_of l)

-- which bin's lock each seat has, and which cache bin's
abbrev pub bin_locks_of : {D : Type 0} → (ℕ → Entry D) → ℕ → Option ℕ
bin_locks_of entries seat = bin_lock_of (entries seat).local

abbrev pub cache_locks_of : {D : Type 0} → (ℕ → Entry D) → ℕ → Option ℕ
cache_locks_of entries seat = cache_lock_of (entries seat).local
