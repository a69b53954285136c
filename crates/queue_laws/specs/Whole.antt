-- A put of a call that takes whole regions leaves none in a bin.
use Rattle.std.specs.Prelude.{◌≡◌, ℕ, ◌+◌, true, false, ⊤}
use Rattle.pool_words.specs.declared.words.Key.{Key}
use Rattle.backend_bins.specs.declared.blocks.Block.{Block}
use Rattle.backend_bins.specs.declared.bin.BinAt.{BinAt}
use Rattle.coalescer.specs.declared.put.Beside.{Beside}
use Rattle.coalescer.specs.declared.put.PutAt.{PutAt}
use Rattle.coalescer.specs.declared.put.PutCall.{PutCall}
use Rattle.coalescer.specs.declared.put.PutNext.{PutNext}
use Rattle.coalescer.specs.declared.put.PutStep.{PutStep}
use Rattle.coalescer.specs.Put.{put_course, put_learn}
use Rattle.word_laws.specs.Memory.{Mem, found}
use Rattle.guard_laws.specs.Blocks as blocks
use Rattle.guard_laws.specs.Blocks.{Use, Place, Standing, core_in, GuardGood}
use Rattle.queue_laws.specs.Puts.{PutFits, shadow_put}

-- no block in a bin is a whole region, from wall to wall
abbrev pub NoWhole : blocks.Shadow → Type 0
NoWhole g =
    (x n : ℕ) → g.place x ≡ Place.Block x n Use.Bin → g.standing.ends x ≡ Standing.Walled
    → g.standing.begins (x + n) ≡ Standing.Walled → ⊥

abbrev pub IsPart : blocks.Shadow → Block → Type 0
IsPart g b =
    g.standing.ends b.first ≡ Standing.Walled → g.standing.begins (b.first + b.granules) ≡ Standing.Walled → ⊥

-- where a block in use was seen before the block, no wall is
abbrev pub LeftSeen : blocks.Shadow → ℕ → Beside → Type 0
LeftSeen g first Beside.Unknown = ⊤
LeftSeen g first Beside.InUse = g.standing.ends first ≡ Standing.Walled → ⊥
LeftSeen g first Beside.Wall = ⊤
LeftSeen g first Beside.Joined = ⊤

-- and behind it
abbrev pub RightSeen : blocks.Shadow → Block → Beside → Type 0
RightSeen g b Beside.Unknown = ⊤
RightSeen g b Beside.InUse = g.standing.begins (b.first + b.granules) ≡ Standing.Walled → ⊥
RightSeen g b Beside.Wall = ⊤
RightSeen g b Beside.Joined = ⊤

abbrev pub WholeBin : blocks.Shadow → Block → BinAt → Type 0
WholeBin g b BinAt.Lock = IsPart g b
WholeBin g b BinAt.Size = IsPart g b
WholeBin g b BinAt.Left = IsPart g b
WholeBin g b (BinAt.Insert at) = ⊤
WholeBin g b (BinAt.Out at) = ⊤
WholeBin g b BinAt.Unlock = ⊤

abbrev pub WholeFits : blocks.Shadow → PutAt → PutStep → Type 0
WholeFits g p PutStep.Size = ⊤
WholeFits g p PutStep.Left = ⊤
WholeFits g p PutStep.LeftWord = ⊤
WholeFits g p (PutStep.WinLeft granules at) = ⊤
WholeFits g p (PutStep.UnlinkLeft neighbour at) = p.left ≡ Beside.Joined
WholeFits g p PutStep.RightWord = LeftSeen g p.block.first p.left
WholeFits g p (PutStep.WinRight granules at) = LeftSeen g p.block.first p.left
WholeFits g p (PutStep.UnlinkRight neighbour at) = LeftSeen g p.block.first p.left
WholeFits g p PutStep.FarLeft = ⊤
WholeFits g p PutStep.FarRight = ⊤
WholeFits g p (PutStep.Queue at) = ⊤
WholeFits g p (PutStep.Bin at) = WholeBin g p.block at

abbrev pub WholeAfter : blocks.Shadow → PutNext → Type 0
WholeAfter g (PutNext.Goes q) = WholeFits g q q.step
WholeAfter g (PutNext.Waits bin) = ⊤
WholeAfter g PutNext.Done = ⊤
WholeAfter g (PutNext.Gives b) = ⊤

-- each of its steps leaves no whole region in a bin
abbrev pub PutsLeaveNoWhole : Type 0
PutsLeaveNoWhole =
    (k : Key) (g : blocks.Shadow) (m : Mem) (tasks : ℕ → blocks.Task) (c : PutCall) (p : PutAt)
    → GuardGood k g (core_in m tasks) → c.gives ≡ true → c.drained ≡ false
    → PutFits c g p p.step → NoWhole g → WholeFits g p p.step
    → NoWhole (shadow_put c p p.step (found m (put_course c p)) g)
    × WholeAfter (shadow_put c p p.step (found m (put_course c p)) g) (put_learn c p (found m (put_course c p)))
