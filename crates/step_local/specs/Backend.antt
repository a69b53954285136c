-- Asking the backend for a piece, and putting blocks.
use Rattle.std.specs.Prelude.{ℕ, ◌%◌, ◌^◌, cond, eqb, Option, Some, None}
use Rattle.pool_types.specs.declared.policy.RegionRec.{RegionRec}
use Rattle.pool_types.specs.declared.values.Answer.{Answer}
use Rattle.pool_types.specs.declared.values.Awaited.{Awaited}
use Rattle.pool_types.specs.declared.values.Looks.{Looks}
use Rattle.pool_types.specs.declared.values.NullCause.{NullCause}
use Rattle.pool_types.specs.declared.values.Turn.{Turn}
use Rattle.regions.specs.declared.errors.ObtainError.{ObtainError}
use Rattle.pool_words.specs.declared.actions.OfficeJob.{OfficeJob}
use Rattle.pool_words.specs.declared.actions.Seen.{Seen}
use Rattle.word_codes.specs.Links.{link_of}
use Rattle.backend_bins.specs.declared.bin.BinAt.{BinAt}
use Rattle.backend_bins.specs.declared.bin.BinCall.{BinCall}
use Rattle.backend_bins.specs.declared.bin.BinJob.{BinJob}
use Rattle.backend_bins.specs.declared.bin.BinNext.{BinNext}
use Rattle.backend_bins.specs.declared.blocks.Block.{Block}
use Rattle.backend_bins.specs.declared.blocks.Want.{Want}
use Rattle.backend_bins.specs.declared.cut.CutAt.{CutAt}
use Rattle.backend_bins.specs.declared.cut.CutCall.{CutCall}
use Rattle.backend_bins.specs.declared.cut.CutNext.{CutNext}
use Rattle.backend_bins.specs.declared.scan.ScanAt.{ScanAt}
use Rattle.backend_bins.specs.declared.scan.ScanNext.{ScanNext}
use Rattle.backend_bins.specs.Bin.{bin_learn}
use Rattle.backend_bins.specs.Blocks.{bin_of, last_bin, fits, piece_of}
use Rattle.backend_bins.specs.Cut.{cut_begins, cut_learn}
use Rattle.backend_bins.specs.Scan.{scan_learn}
use Rattle.coalescer.specs.declared.drain.DrainAt.{DrainAt}
use Rattle.coalescer.specs.declared.drain.DrainCall.{DrainCall}
use Rattle.coalescer.specs.declared.drain.DrainNext.{DrainNext}
use Rattle.coalescer.specs.declared.put.PutAt.{PutAt}
use Rattle.coalescer.specs.declared.put.PutNext.{PutNext}
use Rattle.coalescer.specs.Drain.{goes_on, drain_learn}
use Rattle.coalescer.specs.Put.{put_learn}
use Rattle.large_cache.specs.declared.sweep.Cleanup.{Cleanup}
use Rattle.large_cache.specs.declared.sweep.SweepAt.{SweepAt}
use Rattle.large_cache.specs.declared.undo.UndoAt.{UndoAt}
use Rattle.region_steps.specs.declared.office.OfficeAt.{OfficeAt}
use Rattle.region_steps.specs.declared.office.OfficeCall.{OfficeCall}
use Rattle.region_steps.specs.declared.office.OfficeEnd.{OfficeEnd}
use Rattle.region_steps.specs.declared.office.OfficeNext.{OfficeNext}
use Rattle.region_steps.specs.Office.{office_learn}
use Rattle.step_local.specs.declared.frames.At.{At}
use Rattle.step_local.specs.declared.frames.Local.{Local}
use Rattle.step_local.specs.declared.frames.OfficeFor.{OfficeFor}
use Rattle.step_local.specs.declared.frames.PutFor.{PutFor}
use Rattle.step_local.specs.declared.frames.Served.{Served}
use Rattle.step_local.specs.declared.frames.SmallAt.{SmallAt}
use Rattle.step_local.specs.declared.frames.Tries.{Tries}
use Rattle.step_local.specs.Answers.{gone, waiting, bin_waits, answered}
use Rattle.step_local.specs.Leaving.{put_call, scan_call, scanning, gives_back, leaving}
use Rattle.step_local.specs.Slabs.{locating, surplus_left}
use Rattle.step_local.specs.Large.{sweeping, ticked, emptying, releasing}

-- the backend gave the piece
abbrev pub asked_as : Local → Block → Served → Local × Turn
asked_as l piece (Served.Small class) = gone l (At.Small (SmallAt.Next piece.first))
asked_as l piece (Served.Large granules alignment) = locating (record l { call = record l.call { block = piece } })

abbrev pub asked : Local → Local × Turn
asked l = asked_as l (piece_of l.ask.want l.ask.block) l.call.served

-- the backend has no piece: a get of the cache is taken back first
abbrev pub nothing_as : Local → NullCause → Served → Local × Turn
nothing_as l cause (Served.Small class) = answered l (Answer.Null cause)
nothing_as l cause (Served.Large granules alignment) = gone l (At.Undo cause UndoAt.Lock)

-- the bins of the last scan, and how many blocks it saw
abbrev pub looks_of : Want → ℕ → Looks
looks_of want seen = record {
  first = bin_of want.granules % 2 ^ 16;
  last = last_bin % 2 ^ 16;
  seen = seen % 2 ^ 16;
}

-- why there is no piece: what obtaining found, and where a region came, or a fixed pool has its own, that none fits
abbrev pub cause_by : Want → ℕ → ObtainError → NullCause
cause_by want seen ObtainError.HasRegion = NullCause.NoFit (looks_of want seen)
cause_by want seen (ObtainError.RegionsFull out next) = NullCause.RegionsFull out next
cause_by want seen (ObtainError.SpanFull asked greatest) = NullCause.SpanFull asked greatest
cause_by want seen ObtainError.RawFailed = NullCause.RawFailed

abbrev pub cause_of : Want → ℕ → Option ObtainError → NullCause
cause_of want seen (Some refused) = cause_by want seen refused
cause_of want seen None = NullCause.NoFit (looks_of want seen)

-- a scan found nothing: the queue is looked at, then a region is obtained; where none came, blocks of the cache are
-- released,
-- the old ones and then all
abbrev pub in_vain : Local → ℕ → Tries → Local × Turn
in_vain l seen Tries.First = gone l At.Queue
in_vain l seen Tries.Queue = gone l (At.Office OfficeFor.Ask OfficeAt.Lock)
in_vain l seen Tries.Soft =
    sweeping (record l { ask = record l.ask { tries = Tries.Hard } }) Cleanup.Hard SweepAt.Peek
in_vain l seen Tries.Hard = nothing_as l (cause_of l.ask.want seen l.ask.refused) l.call.served

abbrev pub softened : Local → Local × Turn
softened l = sweeping (record l { ask = record l.ask { tries = Tries.Soft } }) Cleanup.Soft SweepAt.Clock

-- the piece is cut from a block in hand
abbrev pub cut_call : Local → CutCall
cut_call l = record { seat = l.seat; block = l.ask.block; piece = piece_of l.ask.want l.ask.block }

abbrev pub cut_as : Local → At → CutNext → Local × Turn
cut_as l at (CutNext.Goes next) = gone l (At.Cut next)
cut_as l at (CutNext.Waits bin) = bin_waits l at bin
cut_as l at CutNext.Done = asked l

abbrev pub cutting : Local → Block → Local × Turn
cutting l block =
    let l' : Local = record l { ask = record l.ask { block = block } } in cut_as l' l'.at (cut_begins (cut_call l'))

abbrev pub cut_learn_of : Local → CutAt → ℕ → Local × Turn
cut_learn_of l at f = cut_as l (At.Cut at) (cut_learn (cut_call l) at f)

abbrev pub scanned_as : Local → ScanAt → ScanNext → Local × Turn
scanned_as l at (ScanNext.Goes next) = gone l (At.Scan next)
scanned_as l at ScanNext.WaitsLock = bin_waits l (At.Scan at) at.bin
scanned_as l at (ScanNext.WaitsHalf bin again) = waiting l (At.Scan again) (Awaited.Half (bin % 2 ^ 16))
scanned_as l at (ScanNext.Took block) = cutting l block
scanned_as l at (ScanNext.Nothing seen) = in_vain l seen l.ask.tries

abbrev pub scan_learn_of : Local → ScanAt → ℕ → Local × Turn
scan_learn_of l at f = scanned_as l at (scan_learn (scan_call l) at f)

-- whether blocks wait in the queue
abbrev pub queue_as : Local → Option ℕ → Local × Turn
queue_as l None = gone l (At.Office OfficeFor.Ask OfficeAt.Lock)
queue_as l (Some block) = gone (record l { ask = record l.ask { tries = Tries.Queue } }) (At.Drain DrainAt.Swap)

-- the granules of a region without a piece that fits go into their bin
abbrev pub whole_call : Local → BinCall
whole_call l = record { seat = l.seat; block = l.ask.block; job = BinJob.Insert }

abbrev pub whole_as : Local → BinAt → BinNext → Local × Turn
whole_as l at (BinNext.Goes next) = gone l (At.Whole next)
whole_as l at BinNext.Waits = bin_waits l (At.Whole at) (bin_of l.ask.block.granules)
whole_as l at BinNext.Done = softened l

abbrev pub whole_learn_of : Local → BinAt → ℕ → Local × Turn
whole_learn_of l at f = whole_as l at (bin_learn (whole_call l) at f)

-- a region came
abbrev pub no_piece : Local → Block → Local × Turn
no_piece l block = cond (eqb block.granules 0)
    (softened l)
    (gone (record l { ask = record l.ask { block = block } }) (At.Whole BinAt.Lock))

abbrev pub obtained : Local → Block → Local × Turn
obtained l block = cond (fits l.ask.want block) (cutting l block) (no_piece l block)

abbrev pub obtained_as : Local → OfficeEnd → Local × Turn
obtained_as l (OfficeEnd.Obtained one) = obtained l (record { first = one.first; granules = one.granules })
obtained_as l (OfficeEnd.Refused error) = softened (record l { ask = record l.ask { refused = Some error } })
obtained_as l OfficeEnd.Given = softened l

-- a block is put, or its region was given back
abbrev pub put_done_as : Local → PutFor → Local × Turn
put_done_as l PutFor.Surplus = surplus_left l
put_done_as l PutFor.Released = ticked l
put_done_as l PutFor.Swept = releasing l
put_done_as l PutFor.Emptied = emptying l
put_done_as l PutFor.Left = leaving l

abbrev pub put_done : Local → Local × Turn
put_done l = put_done_as l l.put

abbrev pub put_as : Local → PutAt → PutNext → Local × Turn
put_as l at (PutNext.Goes next) = gone l (At.Put next)
put_as l at (PutNext.Waits bin) = bin_waits l (At.Put at) bin
put_as l at PutNext.Done = put_done l
put_as l at (PutNext.Gives block) = gone l (At.Office (OfficeFor.Put block.first) OfficeAt.Lock)

abbrev pub put_learn_of : Local → PutAt → ℕ → Local × Turn
put_learn_of l at f = put_as l at (put_learn (put_call l) at f)

-- the queue is emptied; then the bins are scanned again
abbrev pub drain_call : Local → DrainCall
drain_call l = record { seat = l.seat; gives = gives_back l.key }

abbrev pub drained_as : Local → At → DrainNext → Local × Turn
drained_as l at (DrainNext.Goes next) = gone l (At.Drain next)
drained_as l at (DrainNext.Waits bin) = bin_waits l at bin
drained_as l at (DrainNext.Gives block rest) =
    gone l (At.Office (OfficeFor.Drain block.first rest) OfficeAt.Lock)
drained_as l at DrainNext.Drained = scanning l

abbrev pub drain_learn_of : Local → DrainAt → ℕ → Local × Turn
drain_learn_of l at f = drained_as l (At.Drain at) (drain_learn (drain_call l) at f)

abbrev pub drained_on : Local → Option ℕ → Local × Turn
drained_on l rest = drained_as l l.at (goes_on rest)

-- what the office is asked for
abbrev pub office_job : Local → OfficeFor → OfficeJob
office_job l OfficeFor.Ask = OfficeJob.Obtain (l.ask.want.granules % 2 ^ 32)
office_job l (OfficeFor.Put first) = OfficeJob.Give (first % 2 ^ 32)
office_job l (OfficeFor.Drain first rest) = OfficeJob.Give (first % 2 ^ 32)

abbrev pub office_call : Local → OfficeFor → OfficeCall
office_call l job = record { seat = l.seat; job = office_job l job }

abbrev pub office_left : Local → OfficeFor → OfficeEnd → Local × Turn
office_left l OfficeFor.Ask end = obtained_as l end
office_left l (OfficeFor.Put first) end = put_done l
office_left l (OfficeFor.Drain first rest) end = drained_on l rest

abbrev pub office_as : Local → OfficeFor → OfficeAt → OfficeNext → Local × Turn
office_as l job at (OfficeNext.Goes next) = gone l (At.Office job next)
office_as l job at OfficeNext.Waits = waiting l (At.Office job at) Awaited.Office
office_as l job at (OfficeNext.Left end) = office_left l job end

abbrev pub office_learn_of : Local → OfficeFor → OfficeAt → Seen → Local × Turn
office_learn_of l job at s = office_as l job at (office_learn (office_call l job) at s)
