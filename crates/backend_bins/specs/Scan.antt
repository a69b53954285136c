-- The scan for a block that has a wanted piece.
use Rattle.std.specs.Prelude.{ℕ, ◌+◌, min, cond, ltb, Option, Some, None}
use Rattle.pool_words.specs.declared.words.Word.{Word}
use Rattle.pool_words.specs.declared.actions.Action.{Action}
use Rattle.pool_words.specs.declared.actions.Action.TheVariants.{Load}
use Rattle.word_codes.specs.declared.guards.Guard.{Guard}
use Rattle.word_codes.specs.Guards.{guard_of}
use Rattle.word_codes.specs.Links.{link_of}
use Rattle.pool_types.specs.Sums.{capped}
use Rattle.guards.specs.declared.win.Side.{Side}
use Rattle.guards.specs.declared.win.Taking.{Taking}
use Rattle.guards.specs.declared.win.WinCall.{WinCall}
use Rattle.guards.specs.declared.win.WinAt.{WinAt}
use Rattle.guards.specs.declared.win.WinNext.{WinNext}
use Rattle.guards.specs.Win.{win_course, win_learn}
use Rattle.locked_chain.specs.declared.ListCall.{ListCall}
use Rattle.locked_chain.specs.declared.lock.Lock.{Lock}
use Rattle.locked_chain.specs.declared.lock.LockNext.{LockNext}
use Rattle.locked_chain.specs.declared.remove.RemoveAt.{RemoveAt}
use Rattle.locked_chain.specs.declared.remove.RemoveNext.{RemoveNext}
use Rattle.locked_chain.specs.Locks.{lock_course, lock_learn, unlock_course}
use Rattle.locked_chain.specs.Remove.{remove_course, remove_learn}
use Rattle.backend_bins.specs.declared.blocks.Block.{Block}
use Rattle.backend_bins.specs.declared.scan.ScanCall.{ScanCall}
use Rattle.backend_bins.specs.declared.scan.ScanStep.{ScanStep}
use Rattle.backend_bins.specs.declared.scan.ScanStep.TheVariants.{Peek, Lock as TakeLock, Head, Length, Win, Next, Out}
use Rattle.backend_bins.specs.declared.scan.ScanStep.TheVariants.{Unlock}
use Rattle.backend_bins.specs.declared.scan.ScanAt.{ScanAt}
use Rattle.backend_bins.specs.declared.scan.ScanNext.{ScanNext}
use Rattle.backend_bins.specs.declared.scan.ScanNext.TheVariants.{Goes, WaitsLock, WaitsHalf, Took, Nothing}
use Rattle.backend_bins.specs.Blocks.{block, block_end, bin_of, last_bin, fits}

-- a scan begins at the first bin with blocks of the wanted length, with no note and none seen
abbrev pub scan_begins : ScanCall → ScanAt
scan_begins c = record { bin = bin_of c.want.granules; noted = None; seen = 0; step = Peek }

abbrev pub scan_lock : ScanCall → ScanAt → Lock
scan_lock c s = record { word = Word.BinLock s.bin; seat = c.seat }

abbrev pub scan_list : ScanAt → Block → ListCall
scan_list s b = record { head = Word.BinHead s.bin; item = b.first }

-- the guard at the block's begin is won first
abbrev pub win_of : Block → WinCall
win_of b = record {
  begin = b.first;
  end = block_end b;
  granules = b.granules;
  first = Side.Begin;
  taking = Taking.ForUse;
}

abbrev pub step_course : ScanCall → ScanAt → ScanStep → Action
step_course c s Peek = Load (Word.BinHead s.bin)
step_course c s TakeLock = lock_course (scan_lock c s)
step_course c s Head = Load (Word.BinHead s.bin)
step_course c s (Length first) = Load (Word.Size first)
step_course c s (Win b at) = win_course (win_of b) at
step_course c s (Next first) = Load (Word.Forward first)
step_course c s (Out b at) = remove_course (scan_list s b) at
step_course c s (Unlock took) = unlock_course (scan_lock c s)

abbrev pub scan_course : ScanCall → ScanAt → Action
scan_course c s = step_course c s s.step

abbrev pub goes : ScanAt → ScanStep → ScanNext
goes s step = Goes (record s { step = step })

-- a scan that took nothing waits where it noted a block, and then begins again
abbrev pub scan_end : ScanCall → ScanAt → Option ℕ → ScanNext
scan_end c s (Some bin) = WaitsHalf bin (scan_begins c)
scan_end c s None = Nothing s.seen

abbrev pub looks_on : ScanCall → ScanAt → ScanNext
looks_on c s = cond (ltb s.bin last_bin) (Goes (record s { bin = s.bin + 1; step = Peek })) (scan_end c s s.noted)

abbrev pub tries : ScanCall → ScanAt → Block → ScanNext
tries c s b = cond (fits c.want b) (goes s (Win b WinAt.First)) (goes s (Next b.first))

-- blocks of the last bin tell their length, and those of the others have their bin's
abbrev pub see_block : ScanCall → ScanAt → ℕ → ScanNext
see_block c s first = cond (ltb s.bin last_bin) (tries c s (block first (s.bin + 1))) (goes s (Length first))

abbrev pub visits : ScanCall → ScanAt → Option ℕ → ScanNext
visits c s (Some first) = see_block c (record s { seen = capped (s.seen + 1) }) first
visits c s None = goes s (Unlock None)

abbrev pub lower_note : Option ℕ → ℕ → ℕ
lower_note (Some noted) bin = min noted bin
lower_note None bin = bin

abbrev pub notes : ScanAt → ℕ → ScanNext
notes s first = goes (record s { noted = Some (lower_note s.noted s.bin) }) (Next first)

abbrev pub peeked : ScanCall → ScanAt → Option ℕ → ScanNext
peeked c s (Some first) = goes s TakeLock
peeked c s None = looks_on c s

abbrev pub lock_tried : ScanAt → LockNext → ScanNext
lock_tried s LockNext.Won = goes s Head
lock_tried s LockNext.Waits = WaitsLock

-- a block without a length is being taken or joined by another
abbrev pub measure : ScanCall → ScanAt → ℕ → Guard → ScanNext
measure c s first (Guard.Free granules) = tries c s (block first granules)
measure c s first Guard.Used = notes s first
measure c s first Guard.Coalescing = notes s first
measure c s first Guard.Wall = notes s first

abbrev pub win_goes : ScanAt → Block → WinNext → ScanNext
win_goes s b (WinNext.Goes at) = goes s (Win b at)
win_goes s b WinNext.Won = goes s (Out b RemoveAt.Forward)
win_goes s b (WinNext.NotWon found) = notes s b.first
win_goes s b WinNext.GivenBack = notes s b.first

abbrev pub out_goes : ScanAt → Block → RemoveNext → ScanNext
out_goes s b (RemoveNext.Goes at) = goes s (Out b at)
out_goes s b RemoveNext.Out = goes s (Unlock (Some b))

abbrev pub unlocked : ScanCall → ScanAt → Option Block → ScanNext
unlocked c s (Some b) = Took b
unlocked c s None = looks_on c s

abbrev pub step_learn : ScanCall → ScanAt → ScanStep → ℕ → ScanNext
step_learn c s Peek found = peeked c s (link_of found)
step_learn c s TakeLock found = lock_tried s (lock_learn (scan_lock c s) found)
step_learn c s Head found = visits c s (link_of found)
step_learn c s (Length first) found = measure c s first (guard_of found)
step_learn c s (Win b at) found = win_goes s b (win_learn (win_of b) at found)
step_learn c s (Next first) found = visits c s (link_of found)
step_learn c s (Out b at) found = out_goes s b (remove_learn at found)
step_learn c s (Unlock took) found = unlocked c s took

abbrev pub scan_learn : ScanCall → ScanAt → ℕ → ScanNext
scan_learn c s found = step_learn c s s.step found
