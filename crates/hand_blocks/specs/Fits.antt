-- What a local says by itself where it has blocks in hand, and what the words and the machine say at a step.
use Rattle.std.specs.Prelude.{◌≡◌, ℕ, ◌+◌, ◌-◌, ◌^◌, ◌<◌, ◌≤◌, true, Option, Some, None, List, ⊤}
use Rattle.pool_types.specs.Geometry.{slab_granules}
use Rattle.pool_words.specs.declared.actions.Seen.{Seen}
use Rattle.word_codes.specs.declared.region_words.RegionWord.{RegionWord}
use Rattle.backend_bins.specs.declared.blocks.Block.{Block}
use Rattle.backend_bins.specs.declared.blocks.Want.{Want}
use Rattle.backend_bins.specs.declared.cut.CutAt.{CutAt}
use Rattle.backend_bins.specs.declared.cut.CutCall.{CutCall}
use Rattle.backend_bins.specs.declared.scan.ScanStep.{ScanStep}
use Rattle.backend_bins.specs.Blocks.{fits}
use Rattle.coalescer.specs.declared.drain.DrainAt.{DrainAt}
use Rattle.coalescer.specs.declared.put.PutAt.{PutAt}
use Rattle.coalescer.specs.declared.put.PutStep.{PutStep}
use Rattle.coalescer.specs.Put.{left_win, right_win}
use Rattle.guard_laws.specs.Blocks.{CallFits}
use Rattle.large_cache.specs.declared.sweep.Cleanup.{Cleanup}
use Rattle.region_steps.specs.declared.office.OfficeAt.{OfficeAt}
use Rattle.region_steps.specs.declared.office.OfficeEnd.{OfficeEnd}
use Rattle.reset_steps.specs.declared.unite.UniteAt.{UniteAt}
use Rattle.step_local.specs.declared.frames.At.{At}
use Rattle.step_local.specs.declared.frames.LargeAt.{LargeAt}
use Rattle.step_local.specs.declared.frames.Local.{Local}
use Rattle.step_local.specs.declared.frames.OfficeFor.{OfficeFor}
use Rattle.step_local.specs.declared.frames.PutFor.{PutFor}
use Rattle.step_local.specs.declared.frames.ResetAt.{ResetAt}
use Rattle.step_local.specs.declared.frames.ResetStage.{ResetStage}
use Rattle.step_local.specs.declared.frames.Served.{Served}
use Rattle.step_local.specs.declared.frames.SmallAt.{SmallAt}
use Rattle.step_local.specs.declared.frames.Stage.{Stage}
use Rattle.step_local.specs.Backend.{cut_call}
use Rattle.hand_blocks.specs.Hands.{AllHands, Hand, hands_of, has_back, has_front}

abbrev pub IsSmall : Served → Type 0
IsSmall (Served.Small class) = ⊤
IsSmall (Served.Large granules alignment) = ⊥

abbrev pub IsSomeLarge : Served → Type 0
IsSomeLarge (Served.Small class) = ⊥
IsSomeLarge (Served.Large granules alignment) = 0 < granules

-- what is asked of the backend: a slab for a small object, and some granules for a large one
abbrev pub IsAskedFor : Served → Want → Type 0
IsAskedFor (Served.Small class) w = w.granules ≡ slab_granules
IsAskedFor (Served.Large granules alignment) w = 0 < w.granules

-- only a call that gets an object asks
abbrev pub AsksFit : Stage → Served → Want → Type 0
AsksFit Stage.Getting served w = IsAskedFor served w
AsksFit _ served w = ⊥

abbrev pub AskFits : Local → Type 0
AskFits l = AsksFit l.call.stage l.call.served l.ask.want

-- a grant is ended in no call that gets an object
abbrev pub IsEnding : Stage → Type 0
IsEnding Stage.Ending = ⊤
IsEnding Stage.Replacing = ⊤
IsEnding Stage.Undoing = ⊤
IsEnding _ = ⊥

abbrev pub IsNotGetting : Stage → Type 0
IsNotGetting Stage.Getting = ⊥
IsNotGetting _ = ⊤

abbrev pub IsLeaving : Stage → Type 0
IsLeaving Stage.Leaving = ⊤
IsLeaving _ = ⊥

-- the stages of a reset at which slabs are given up
abbrev pub IsOfSlabs : ResetStage → Type 0
IsOfSlabs (ResetStage.Heap class) = ⊤
IsOfSlabs (ResetStage.Orphans rest) = ⊤
IsOfSlabs _ = ⊥

-- slabs are looked for: for a small object, by a heap that leaves, or by a reset
abbrev pub SlabsFit : Served → Stage → Type 0
SlabsFit served Stage.Getting = IsSmall served
SlabsFit served (Stage.Resetting stage) = IsOfSlabs stage
SlabsFit served _ = ⊤

-- a reset gives up slabs
abbrev pub IsStripping : Stage → Type 0
IsStripping (Stage.Resetting stage) = IsOfSlabs stage
IsStripping _ = ⊥

-- a block is got of the cache
abbrev pub GetFits : Served → Stage → Type 0
GetFits served Stage.Getting = IsSomeLarge served
GetFits served _ = ⊥

-- a regular cleanup is made in a call that gets a large object, or that freed one
abbrev pub TickFits : Served → Stage → Type 0
TickFits served Stage.Getting = IsSomeLarge served
TickFits served _ = ⊤

-- the others are made where the backend could not give what was asked
abbrev pub CleanupFits : Local → Cleanup → Type 0
CleanupFits l Cleanup.Regular = TickFits l.call.served l.call.stage
CleanupFits l Cleanup.Soft = AskFits l
CleanupFits l Cleanup.Hard = AskFits l

-- a hard cleanup gives up the heap's slabs
abbrev pub HardFits : Local → Type 0
HardFits l = (l.sweep.cleanup ≡ Cleanup.Hard) × AskFits l

abbrev pub EmptyFits : Local → Stage → Type 0
EmptyFits l Stage.Getting = HardFits l
EmptyFits l (Stage.Resetting stage) = IsOfSlabs stage
EmptyFits l _ = ⊤

abbrev pub NewestFits : Local → Stage → Type 0
NewestFits l Stage.Leaving = ⊤
NewestFits l (Stage.Resetting stage) = IsOfSlabs stage
NewestFits l _ = HardFits l

abbrev pub SmallFits : Local → SmallAt → Type 0
SmallFits l (SmallAt.Uncache slab) = IsSmall l.call.served
SmallFits l (SmallAt.Next slab) = IsSmall l.call.served
SmallFits l (SmallAt.Public slab) = IsSmall l.call.served
SmallFits l (SmallAt.Own slab) = IsSmall l.call.served
SmallFits l (SmallAt.Kind slab) = IsSmall l.call.served
SmallFits l (SmallAt.Empty slab) = EmptyFits l l.call.stage
SmallFits l (SmallAt.Newest slab) = NewestFits l l.call.stage
SmallFits l _ = ⊤

abbrev pub LargeFits : Local → LargeAt → Type 0
LargeFits l LargeAt.Tick = TickFits l.call.served l.call.stage
LargeFits l _ = ⊤

-- a block that is to be taken, or was, has the piece that is wanted
abbrev pub TookFits : Want → Option Block → Type 0
TookFits w (Some b) = fits w b ≡ true
TookFits w None = ⊤

abbrev pub ScanFits : Want → ScanStep → Type 0
ScanFits w (ScanStep.Win b at) = fits w b ≡ true
ScanFits w (ScanStep.Out b at) = fits w b ≡ true
ScanFits w (ScanStep.Unlock took) = TookFits w took
ScanFits w _ = ⊤

-- indices are below this
abbrev pub indices : ℕ
indices = 2 ^ 32

-- a block is cut before a piece or behind it where there is something to cut off
abbrev pub CutAtFits : CutCall → CutAt → Type 0
CutAtFits c CutAt.FrontLeft = has_front c ≡ true
CutAtFits c CutAt.FrontSize = has_front c ≡ true
CutAtFits c CutAt.BackLeft = has_back c ≡ true
CutAtFits c CutAt.BackSize = has_back c ≡ true
CutAtFits c _ = ⊤

pub record CutFits (l : Local) (at : CutAt) : Type 0 where
  pub asked : AskFits l
  pub has : fits l.ask.want l.ask.block ≡ true
  pub lies : l.ask.block.first + l.ask.block.granules < indices
  pub here : CutAtFits (cut_call l) at

-- a neighbour that was won is a part of the block that is put
abbrev pub JoinFits : PutAt → PutStep → Type 0
JoinFits p (PutStep.UnlinkLeft neighbour at) =
    (neighbour.first ≡ p.block.first) × (neighbour.granules ≤ p.block.granules)
JoinFits p (PutStep.UnlinkRight neighbour at) =
    (neighbour.first ≡ p.block.first + (p.block.granules - neighbour.granules))
    × (neighbour.granules ≤ p.block.granules)
JoinFits p _ = ⊤

abbrev pub DrainFits : DrainAt → Type 0
DrainFits DrainAt.Swap = ⊤
DrainFits (DrainAt.Link first) = ⊤
DrainFits (DrainAt.Put rest at) = JoinFits at at.step

-- why a block is put
abbrev pub PutForFits : Local → PutFor → Type 0
PutForFits l PutFor.Surplus = ⊤
PutForFits l PutFor.Released = IsNotGetting l.call.stage
PutForFits l PutFor.Swept = CleanupFits l l.sweep.cleanup
PutForFits l PutFor.Emptied = HardFits l
PutForFits l PutFor.Left = IsLeaving l.call.stage

-- a region that came has granules where its guards are stored; none comes while one is given back
abbrev pub ObtainFits : OfficeAt → Type 0
ObtainFits (OfficeAt.FirstSize one) = 0 < one.granules
ObtainFits (OfficeAt.LastLeft one) = 0 < one.granules
ObtainFits _ = ⊤

abbrev pub IsGiven : OfficeEnd → Type 0
IsGiven (OfficeEnd.Obtained one) = ⊥
IsGiven (OfficeEnd.Refused error) = ⊥
IsGiven OfficeEnd.Given = ⊤

abbrev pub GiveFits : OfficeAt → Type 0
GiveFits OfficeAt.Lock = ⊤
GiveFits (OfficeAt.Region slot given) = ⊤
GiveFits (OfficeAt.Take given) = ⊤
GiveFits (OfficeAt.Remove given) = ⊤
GiveFits (OfficeAt.Back end) = IsGiven end
GiveFits (OfficeAt.Unlock end) = IsGiven end
GiveFits _ = ⊥

abbrev pub OfficeFits : Local → OfficeFor → OfficeAt → Type 0
OfficeFits l OfficeFor.Ask at = AskFits l × ObtainFits at
OfficeFits l (OfficeFor.Put first) at = PutForFits l l.put × GiveFits at
OfficeFits l (OfficeFor.Drain first rest) at = AskFits l × GiveFits at

-- a region is united from its first granule on
abbrev pub UniteFits : RegionWord → UniteAt → Type 0
UniteFits region (UniteAt.Size first) = region.first ≤ first
UniteFits region (UniteAt.Win b at) = region.first ≤ b.first
UniteFits region (UniteAt.Unlink b at) = region.first ≤ b.first

abbrev pub ResetFits : Local → ResetAt → Type 0
ResetFits l (ResetAt.Strip slab at) = IsStripping l.call.stage
ResetFits l (ResetAt.Unite region at) = UniteFits region at
ResetFits l _ = ⊤

abbrev pub FitsAt : Local → At → Type 0
FitsAt l (At.End at) = IsEnding l.call.stage
FitsAt l (At.Mailbox at) = SlabsFit l.call.served l.call.stage
FitsAt l (At.Adopt at) = SlabsFit l.call.served l.call.stage
FitsAt l (At.Join slab rest at) = SlabsFit l.call.served l.call.stage
FitsAt l (At.Spare at) = SlabsFit l.call.served l.call.stage
FitsAt l (At.Leave slab at) = IsLeaving l.call.stage
FitsAt l (At.Small at) = SmallFits l at
FitsAt l (At.Large at) = LargeFits l at
FitsAt l (At.Get at) = GetFits l.call.served l.call.stage
FitsAt l (At.Keep at) = IsNotGetting l.call.stage
FitsAt l (At.Sweep at) = CleanupFits l l.sweep.cleanup
FitsAt l (At.Scan at) = AskFits l × ScanFits l.ask.want at.step
FitsAt l (At.Cut at) = CutFits l at
FitsAt l At.Queue = AskFits l
FitsAt l (At.Whole at) = AskFits l
FitsAt l (At.Drain at) = AskFits l × DrainFits at
FitsAt l (At.Put at) = PutForFits l l.put × JoinFits at at.step
FitsAt l (At.Office job at) = OfficeFits l job at
FitsAt l (At.Reset at) = ResetFits l at
FitsAt l _ = ⊤

-- what a local says by itself of its call, where blocks in hand rest on it
abbrev pub HandsFit : Local → Type 0
HandsFit l = FitsAt l l.at

-- a block in hand has some granules, and lies below the end of all indices
abbrev pub LiesAt : ℕ → Option ℕ → Type 0
LiesAt first (Some granules) = (0 < granules) × (first + granules < indices)
LiesAt first None = ⊤

abbrev pub Lies : Hand → Type 0
Lies one = LiesAt one.first one.granules

abbrev pub AllLie : List Hand → Type 0
AllLie hands = AllHands Lies hands

-- of a win that a put is at, the call is of one block
abbrev pub WinsFit : PutAt → PutStep → Type 0
WinsFit p (PutStep.WinLeft granules at) = CallFits (left_win p granules)
WinsFit p (PutStep.WinRight granules at) = CallFits (right_win p granules)
WinsFit p _ = ⊤

abbrev pub DrainWinsFit : DrainAt → Type 0
DrainWinsFit (DrainAt.Put rest at) = WinsFit at at.step
DrainWinsFit _ = ⊤

-- the office answers as it is asked: where a region is given back, none comes and none is refused
abbrev pub IsNoRegion : Seen → Type 0
IsNoRegion (Seen.Obtained one) = ⊥
IsNoRegion (Seen.Refused error) = ⊥
IsNoRegion _ = ⊤

abbrev pub GiveAnswers : OfficeAt → Seen → Type 0
GiveAnswers (OfficeAt.Take given) s = IsNoRegion s
GiveAnswers _ s = ⊤

abbrev pub OfficeAnswers : OfficeFor → OfficeAt → Seen → Type 0
OfficeAnswers OfficeFor.Ask at s = ⊤
OfficeAnswers (OfficeFor.Put first) at s = GiveAnswers at s
OfficeAnswers (OfficeFor.Drain first rest) at s = GiveAnswers at s

abbrev pub SeenAt : At → Seen → Type 0
SeenAt (At.Drain at) s = DrainWinsFit at
SeenAt (At.Put at) s = WinsFit at at.step
SeenAt (At.Office job at) s = OfficeAnswers job at s
SeenAt _ s = ⊤

-- what laws of blocks and of the office say of a seat just before its step
pub record StepFits (l : Local) (s : Seen) : Type 0 where
  pub lie : AllLie (hands_of l)
  pub seen : SeenAt l.at s
