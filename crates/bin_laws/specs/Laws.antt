-- The laws of bins.
use Rattle.std.specs.Prelude.{◌≡◌, ◌≢◌, ◌⊎◌, ℕ, ◌^◌, ◌<◌, Some}
use Rattle.pool_words.specs.declared.words.Key.{Key}
use Rattle.guards.specs.declared.win.Taking.{Taking}
use Rattle.guards.specs.declared.win.WinAt.{WinAt}
use Rattle.guards.specs.declared.win.WinNext.{WinNext}
use Rattle.guards.specs.Win.{win_course, win_learn}
use Rattle.backend_bins.specs.declared.blocks.Block.{Block}
use Rattle.backend_bins.specs.declared.blocks.Want.{Want}
use Rattle.backend_bins.specs.declared.scan.ScanAt.{ScanAt}
use Rattle.backend_bins.specs.declared.scan.ScanCall.{ScanCall}
use Rattle.backend_bins.specs.declared.scan.ScanStep.{ScanStep}
use Rattle.backend_bins.specs.Scan.{win_of, scan_course, scan_learn, win_goes}
use Rattle.locked_chain.specs.declared.remove.RemoveAt.{RemoveAt}
use Rattle.backend_bins.specs.Blocks.{bin_of}
use Rattle.word_laws.specs.Memory.{Mem, found, fresh}
use Rattle.chain_laws.specs.Chains.{tally}
use Rattle.chain_laws.specs.Named.{ten_key}
use Rattle.lock_laws.specs.Seats.{lock_in}
use Rattle.guard_laws.specs.Blocks as blocks
use Rattle.guard_laws.specs.Blocks.{Use, Place, Piece}
use Rattle.bin_laws.specs.Bins.{Task, list_task, coming_of, won_of, Shadow, Locals, BinGood}
use Rattle.bin_laws.specs.Steps.{IsReady, BinStep, BinRun}
use Rattle.bin_laws.specs.Scans.{IsLook, Meets, ScanFits, AfterLook}
use Rattle.bin_laws.specs.Counts.{SeenFits, SeenNext}
use Rattle.bin_laws.specs.Takes.{TakeFits, AfterTake, shadow_scanned, IsWinning}
use Rattle.bin_laws.specs.Named.{no_bins, no_tasks, locked_memory, named_bins, named_tasks}

-- each step of each seat keeps what holds of blocks, guards, and bins' locks and lists
abbrev pub StepsKeepBins : Type 0
StepsKeepBins =
    (k : Key) (seat : ℕ) (g : Shadow) (m : Mem) (l : Locals) (h : Shadow) (m' : Mem) (l' : Locals) → BinGood k g m l
    → BinStep k seat g m l h m' l' → BinGood k h m' l'

abbrev pub RunsKeepBins : Type 0
RunsKeepBins =
    (k : Key) (g : Shadow) (m : Mem) (l : Locals) (h : Shadow) (m' : Mem) (l' : Locals) → BinGood k g m l
    → BinRun k g m l h m' l' → BinGood k h m' l'

-- a block is in the list of its bin, once, and in no other
pub record IsListed (g : Shadow) (x n : ℕ) : Type 0 where
  pub once : tally x (g.items (bin_of n)) ≡ 1
  pub else : (b : ℕ) → b ≢ bin_of n → tally x (g.items b) ≡ 0

-- or in none, and the one seat that has its bin's lock is about to link it
pub record IsComing (g : Shadow) (l : Locals) (x n : ℕ) : Type 0 where
  pub none : (b : ℕ) → tally x (g.items b) ≡ 0
  pub seat : ℕ
  pub comes : coming_of (l.bins seat) ≡ Piece.Got x n
  pub lock : lock_in (list_task (l.bins seat)) ≡ Some (bin_of n)
  pub alone : (other : ℕ) → lock_in (list_task (l.bins other)) ≡ Some (bin_of n) → other ≡ seat

abbrev pub BlocksInBinsAreListed : Type 0
BlocksInBinsAreListed =
    (k : Key) (g : Shadow) (m : Mem) (l : Locals) (x n : ℕ) → BinGood k g m l
    → g.guards.place x ≡ Place.Block x n Use.Bin → IsListed g x n ⊎ IsComing g l x n

-- a block that a list has: of that bin, and in a bin, or won by a seat that has not yet taken it out
pub record IsOfBin (g : Shadow) (l : Locals) (b x : ℕ) : Type 0 where
  pub granules : ℕ
  pub bin : bin_of granules ≡ b
  pub use' : (g.guards.place x ≡ Place.Block x granules Use.Bin)
      ⊎ ((t : ℕ) × (taking : Taking) × (g.guards.place x ≡ Place.Block x granules (Use.Held t taking))
      × (won_of (l.bins t) ≡ Piece.Got x granules))

abbrev pub ListsHaveTheirBlocks : Type 0
ListsHaveTheirBlocks =
    (k : Key) (g : Shadow) (m : Mem) (l : Locals) (b x : ℕ) → BinGood k g m l → 0 < tally x (g.items b)
    → IsOfBin g l b x

-- a seat that has won a block, wherever its putter was then, finds it in its bin's list once it has that bin's lock
abbrev pub WonBlocksAreFound : Type 0
WonBlocksAreFound =
    (k : Key) (g : Shadow) (m : Mem) (l : Locals) (seat x n : ℕ) → BinGood k g m l
    → l.bins seat ≡ Task.Unlinks x n RemoveAt.Forward → IsListed g x n

-- while a seat has a bin's lock, no other seat changes the bin's list, nor what blocks it has
pub record ListStays (g h : Shadow) (b : ℕ) : Type 0 where
  pub items : h.items b ≡ g.items b
  pub members : (x : ℕ) → 0 < tally x (g.items b) → h.member x ≡ g.member x

abbrev pub OthersLeaveLockedLists : Type 0
OthersLeaveLockedLists =
    (k : Key) (seat other b : ℕ) (g : Shadow) (m : Mem) (l : Locals) (h : Shadow) (m' : Mem) (l' : Locals)
    → BinGood k g m l → lock_in (list_task (l.bins seat)) ≡ Some b → other ≢ seat → BinStep k other g m l h m' l'
    → ListStays g h b

-- what a scan knows of the bin whose lock it has stays through its own looks, the guards of a block that it did not
-- win,
-- and the steps of others; so where it frees the lock with nothing noted, no block of the bin's list has the piece
abbrev pub LooksKeepScans : Type 0
LooksKeepScans =
    (k : Key) (g : Shadow) (m : Mem) (l : Locals) (seat : ℕ) (c : ScanCall) (s : ScanAt) → BinGood k g m l
    → IsLook s.step → ScanFits g (l.bins seat) c.want s
    → AfterLook g (l.bins seat) c.want (scan_learn c s (found m (scan_course c s)))

abbrev pub LostWinsKeepScans : Type 0
LostWinsKeepScans =
    (g : Shadow) (task : Task) (c : ScanCall) (s : ScanAt) (b : Block) (next : WinNext)
    → (task ≡ Task.Has s.bin) × Meets g c.want s.bin s.noted b.first → (next ≡ WinNext.Won → ⊥)
    → AfterLook g task c.want (win_goes s b next)

abbrev pub OthersKeepScans : Type 0
OthersKeepScans =
    (k : Key) (seat other : ℕ) (g : Shadow) (m : Mem) (l : Locals) (h : Shadow) (m' : Mem) (l' : Locals) (want : Want)
    (s : ScanAt) → BinGood k g m l → other ≢ seat → BinStep k other g m l h m' l'
    → ScanFits g (l.bins seat) want s → ScanFits h (l'.bins seat) want s

-- a scan is to win only what fits; a block that it has won is in its hand, and has the wanted piece at the scan's end
abbrev pub TakenBlockFits : Type 0
TakenBlockFits =
    (k : Key) (g : Shadow) (m : Mem) (l : Locals) (seat : ℕ) (c : ScanCall) (s : ScanAt) → BinGood k g m l
    → ScanFits g (l.bins seat) c.want s → IsWinning (l.guards seat) s.step → TakeFits g.guards seat c.want s.step
    → AfterTake (shadow_scanned seat s.step (found m (scan_course c s)) g.guards) seat c.want
    (scan_learn c s (found m (scan_course c s)))

-- no other seat's step takes it out of there
abbrev pub OthersKeepTakenBlocks : Type 0
OthersKeepTakenBlocks =
    (k : Key) (seat other : ℕ) (g : Shadow) (m : Mem) (l : Locals) (h : Shadow) (m' : Mem) (l' : Locals) (want : Want)
    (step : ScanStep) → BinGood k g m l → other ≢ seat → BinStep k other g m l h m' l'
    → TakeFits g.guards seat want step → TakeFits h.guards seat want step

-- what a scan has won is of the bin whose lock it has, so that it takes the block out under that lock
abbrev pub WonBlocksAreOfTheBin : Type 0
WonBlocksAreOfTheBin =
    (k : Key) (g : Shadow) (m : Mem) (l : Locals) (seat : ℕ) (c : ScanCall) (s : ScanAt) (b : Block) (at : WinAt)
    → BinGood k g m l → ScanFits g (l.bins seat) c.want s → s.step ≡ ScanStep.Win b at
    → l.guards seat ≡ blocks.Task.Wins (win_of b) at
    → win_learn (win_of b) at (found m (win_course (win_of b) at)) ≡ WinNext.Won → IsReady b.granules (l.bins seat)

-- a scan counts each block that it sees once: behind the last block of a bin it saw all of the bin's list and those
-- before, it goes on in the next bin with that count, and at its end it tells it
abbrev pub ScansCountBlocks : Type 0
ScansCountBlocks =
    (k : Key) (g : Shadow) (m : Mem) (l : Locals) (seat : ℕ) (c : ScanCall) (s : ScanAt) (before : ℕ) → BinGood k g m l
    → ScanFits g (l.bins seat) c.want s → SeenFits (g.items s.bin) before s.seen s.step
    → SeenNext (g.items s.bin) before s.seen s.step (scan_learn c s (found m (scan_course c s)))

abbrev pub OthersKeepCounts : Type 0
OthersKeepCounts =
    (k : Key) (seat other : ℕ) (g : Shadow) (m : Mem) (l : Locals) (h : Shadow) (m' : Mem) (l' : Locals) (want : Want)
    (s : ScanAt) (before : ℕ) → BinGood k g m l → other ≢ seat → BinStep k other g m l h m' l'
    → ScanFits g (l.bins seat) want s → SeenFits (g.items s.bin) before s.seen s.step
    → SeenFits (h.items s.bin) before s.seen s.step

-- in a new pool bins are empty
abbrev pub FreshBinsAreEmpty : Type 0
FreshBinsAreEmpty = (k : Key) → k.span < 2 ^ 32 → BinGood k no_bins fresh no_tasks

-- a block that is won before its putter has linked it
abbrev pub NamedBinStands : Type 0
NamedBinStands = BinGood ten_key named_bins locked_memory named_tasks
