-- What the next step of a seat does to a word, by its position.
use Rattle.pool_words.specs.Words.{marks, kinds, owns, publics, nexts, clocks}
use Rattle.step_local.specs.declared.frames.At.{At}
use Rattle.step_local.specs.declared.frames.LargeAt.{LargeAt}
use Rattle.step_local.specs.declared.frames.ResetAt.{ResetAt}
use Rattle.step_local.specs.declared.frames.SmallAt.{SmallAt}
use Rattle.step_writes.specs.Jobs.{end_writes, post_writes, mail_writes, box_writes, adopt_writes, join_writes}
use Rattle.step_writes.specs.Jobs.{leave_writes, get_writes, undo_writes, keep_writes, sweep_writes, scan_writes}
use Rattle.step_writes.specs.Jobs.{cut_writes, bin_writes, drain_writes, put_writes, office_writes, strip_writes}
use Rattle.step_writes.specs.Jobs.{evict_writes, clear_writes, unqueue_writes, unite_writes}
use Rattle.step_writes.specs.Writings.{Writing, rests, loads, stores, swaps, adds}

abbrev pub small_writes : SmallAt → Writing
small_writes (SmallAt.Uncache slab) = stores kinds
small_writes (SmallAt.Next slab) = stores nexts
small_writes (SmallAt.Public slab) = swaps publics
small_writes (SmallAt.Own slab) = stores owns
small_writes (SmallAt.Kind slab) = stores kinds
small_writes (SmallAt.Behind slab head) = loads
small_writes (SmallAt.Private slab head below) = stores marks
small_writes (SmallAt.Rest slab unit) = stores marks
small_writes (SmallAt.Empty slab) = stores kinds
small_writes (SmallAt.Cache slab) = stores kinds
small_writes (SmallAt.Oldest slab) = stores kinds
small_writes (SmallAt.Newest slab) = stores kinds

abbrev pub large_writes : LargeAt → Writing
large_writes LargeAt.Tick = adds clocks
large_writes (LargeAt.Kind unit) = stores kinds
large_writes (LargeAt.Grant unit) = stores marks

abbrev pub reset_writes : ResetAt → Writing
reset_writes (ResetAt.Strip slab at) = strip_writes at
reset_writes (ResetAt.Seek at) = loads
reset_writes (ResetAt.Evict region at) = evict_writes at
reset_writes (ResetAt.Clear granules at) = clear_writes at
reset_writes (ResetAt.Unqueue at) = unqueue_writes at
reset_writes (ResetAt.Unite region at) = unite_writes at
reset_writes (ResetAt.Bin at) = bin_writes at

abbrev pub writes_at : At → Writing
writes_at At.Idle = rests
writes_at (At.Ready answer) = rests
writes_at (At.Look at) = loads
writes_at (At.End at) = end_writes at
writes_at (At.Post at) = post_writes at
writes_at (At.Mail at) = mail_writes at
writes_at (At.Mailbox at) = box_writes at
writes_at (At.Adopt at) = adopt_writes at
writes_at (At.Join slab rest at) = join_writes at
writes_at (At.Spare at) = leave_writes at
writes_at (At.Leave slab at) = leave_writes at
writes_at (At.Locate at) = loads
writes_at (At.Small at) = small_writes at
writes_at (At.Large at) = large_writes at
writes_at (At.Get at) = get_writes at
writes_at (At.Undo cause at) = undo_writes at
writes_at (At.Keep at) = keep_writes at
writes_at (At.Sweep at) = sweep_writes at
writes_at (At.Scan at) = scan_writes at.step
writes_at (At.Cut at) = cut_writes at
writes_at At.Queue = loads
writes_at (At.Whole at) = bin_writes at
writes_at (At.Drain at) = drain_writes at
writes_at (At.Put at) = put_writes at.step
writes_at (At.Office job at) = office_writes at
writes_at (At.Reset at) = reset_writes at
