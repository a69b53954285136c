-- What a seat's local carries is in its range, by itself.
use Rattle.std.specs.Prelude.{All, List, None, Option, Some, [], false, max, true, ℕ, ⊤, ◌*◌, ◌+◌, ◌<◌}
use Rattle.std.specs.Prelude.{◌≡◌, ◌≤◌}
use Rattle.pool_types.specs.Geometry.{class_count, granule_bytes, line_bytes, slab_granules}
use Rattle.pool_types.specs.Limits.{most_regions}
use Rattle.pool_words.specs.Words.{cache_counts}
use Rattle.pool_words.specs.declared.words.Key.{Key}
use Rattle.word_codes.specs.declared.kinds.Kind.{Kind}
use Rattle.heap_slabs.specs.Slabs.{record_at}
use Rattle.heap_slabs.specs.declared.heap.Heap.{Heap}
use Rattle.heap_slabs.specs.declared.records.HeapSlab.{HeapSlab}
use Rattle.public_list.specs.declared.ending.EndAt.{EndAt}
use Rattle.backend_bins.specs.declared.blocks.Want.{Want}
use Rattle.large_cache.specs.declared.sweep.Cleanup.{Cleanup}
use Rattle.large_cache.specs.declared.sweep.SweepAt.{SweepAt}
use Rattle.step_local.specs.Answers.{ended_object, kind_got}
use Rattle.step_local.specs.Backend.{cut_call}
use Rattle.step_local.specs.Large.{granules_of_served}
use Rattle.step_local.specs.declared.frames.At.{At}
use Rattle.step_local.specs.declared.frames.Call.{Call}
use Rattle.step_local.specs.declared.frames.Fetch.{Fetch}
use Rattle.step_local.specs.declared.frames.LargeAt.{LargeAt}
use Rattle.step_local.specs.declared.frames.Local.{Local}
use Rattle.step_local.specs.declared.frames.LocateAt.{LocateAt}
use Rattle.step_local.specs.declared.frames.Object.{Object}
use Rattle.step_local.specs.declared.frames.OfficeFor.{OfficeFor}
use Rattle.step_local.specs.declared.frames.PutFor.{PutFor}
use Rattle.step_local.specs.declared.frames.ResetAt.{ResetAt}
use Rattle.step_local.specs.declared.frames.ResetStage.{ResetStage}
use Rattle.step_local.specs.declared.frames.Served.{Served}
use Rattle.step_local.specs.declared.frames.SmallAt.{SmallAt}
use Rattle.step_local.specs.declared.frames.Stage.{Stage}
use Rattle.step_local.specs.declared.frames.Sweep.{Sweep}
use Rattle.reset_steps.specs.declared.clear.ClearAt.{ClearAt}
use Rattle.step_ranges.specs.Jobs.{AdoptFits, BinFits, BoxFits, ClearFits, ClearLeads, CutFits, DrainFits}
use Rattle.step_ranges.specs.Jobs.{EvictFits, GetFits, GetLeads, HasBlock, HasObject, IsWanted, JoinFits}
use Rattle.step_ranges.specs.Jobs.{KeepFits, KeepLeads, LeaveFits, LookFits, MailFits, OfficeFits, PostFits}
use Rattle.step_ranges.specs.Jobs.{PutFits, RecordFits, ScanFits, SeekFits, SweepFits, SweepLeads, UniteFits}
use Rattle.step_ranges.specs.Jobs.{UnqueueFits}
use Rattle.step_ranges.specs.Ranges.{IsBelow, IsBlock, IsLarge, IsSlab, IsSlabIf, RegionFits, granules_end}
use Rattle.step_ranges.specs.Ranges.{units_end}

abbrev pub KeptFits : Key → Option HeapSlab → Type 0
KeptFits k None = ⊤
KeptFits k (Some kept) = RecordFits k kept

-- what a heap keeps
pub record HeapFits (k : Key) (heap : Heap) : Type 0 where
  pub records : (slab : ℕ) → KeptFits k (record_at heap.slabs.records slab)
  pub cached : All (IsSlab k) heap.cached.items
  pub spares : All (IsSlab k) heap.spares.items

-- a block of so many granules has an object at each multiple of the alignment that is a line or more behind its begin
pub record LargeFits (k : Key) (granules alignment : ℕ) : Type 0 where
  pub few : granules < k.span
  pub room : max alignment 1 + line_bytes ≤ granules * granule_bytes

abbrev pub ServedFits : Key → Served → Type 0
ServedFits k (Served.Small class) = class < class_count
ServedFits k (Served.Large granules alignment) = LargeFits k granules alignment

abbrev pub ResetStageFits : Key → ResetStage → Type 0
ResetStageFits k (ResetStage.Heap class) = ⊤
ResetStageFits k (ResetStage.Orphans rest) = IsSlabIf k rest
ResetStageFits k (ResetStage.Large region granule) = RegionFits k region
ResetStageFits k (ResetStage.Cache granules) = granules < cache_counts
ResetStageFits k (ResetStage.Queue rest) = IsBelow (granules_end k) rest
ResetStageFits k (ResetStage.Regions below) = ⊤

abbrev pub StageFits : Key → Stage → Type 0
StageFits k (Stage.Resetting stage) = ResetStageFits k stage
StageFits k _ = ⊤

abbrev pub ObjectFits : Key → Object → Type 0
ObjectFits k object = HasObject k object.unit object.kind

-- what a call keeps while its jobs step
pub record CallFits (k : Key) (found got : Object) (wanted : Served) (come : Stage) : Type 0 where
  pub old : ObjectFits k found
  pub new : ObjectFits k got
  pub served : ServedFits k wanted
  pub stage : StageFits k come

pub record FetchFits (k : Key) (fetched pushed : ℕ) : Type 0 where
  pub class : fetched < class_count
  pub spare : IsSlab k pushed

-- what a local keeps at all its positions
pub record FramesFit (k known : Key) (own : ℕ) (h : Heap) (c : Call) (f : Fetch) (granules : ℕ) : Type 0 where
  pub key : known ≡ k
  pub seat : own < k.seats
  pub heap : HeapFits k h
  pub call : CallFits k c.old c.new c.served c.stage
  pub fetch : FetchFits k f.class f.spare
  pub bin : granules < cache_counts

abbrev pub Frames : Key → Local → Type 0
Frames k l = FramesFit k l.key l.seat l.heap l.call l.fetch l.sweep.granules

-- no block is released
abbrev pub NoneReleased : Local → Type 0
NoneReleased l = l.released.items ≡ []

-- each block that is released is as long as the bin that it comes from says
abbrev pub AreReleased : Key → ℕ → List ℕ → Type 0
AreReleased k granules released = All (IsBlock k granules) released

-- a small object is got
abbrev pub IsSmall : Served → Type 0
IsSmall (Served.Small class) = ⊤
IsSmall (Served.Large granules alignment) = ⊥

-- a large one is got, and its block is in hand, unless the cache had none
abbrev pub GotBlock : Key → Call → Served → Type 0
GotBlock k c (Served.Small class) = ⊥
GotBlock k c (Served.Large granules alignment) =
    c.missed ≡ false → IsBlock k granules c.block.first × (c.block.granules ≡ granules)

-- what a get goes on with once the cache has been looked at
abbrev pub CachedFits : Key → Call → Stage → Type 0
CachedFits k c Stage.Getting = GotBlock k c c.served
CachedFits k c _ = ⊤

-- what is asked of the backend is what is got
abbrev pub AskFits : Want → Served → Type 0
AskFits want (Served.Small class) = (want.granules ≡ slab_granules) × (want.slab ≡ true)
AskFits want (Served.Large granules alignment) = want.granules ≡ granules

-- what goes on once a cleanup is done
abbrev pub AfterSweep : Key → Call → Want → Cleanup → Type 0
AfterSweep k c want Cleanup.Regular = CachedFits k c c.stage
AfterSweep k c want Cleanup.Soft = AskFits want c.served
AfterSweep k c want Cleanup.Hard = AskFits want c.served

-- the heap gives up all that it keeps
abbrev pub IsLeaving : Stage → Type 0
IsLeaving Stage.Leaving = ⊤
IsLeaving _ = ⊥

-- the seat resets the pool
abbrev pub IsReset : Stage → Type 0
IsReset (Stage.Resetting stage) = ⊤
IsReset _ = ⊥

-- what goes on once a block was put
abbrev pub AfterPut : Key → Call → Want → Sweep → List ℕ → PutFor → Type 0
AfterPut k c want sweep released PutFor.Surplus = released ≡ []
AfterPut k c want sweep released PutFor.Released = (released ≡ []) × CachedFits k c c.stage
AfterPut k c want sweep released PutFor.Swept = AreReleased k sweep.granules released
    × AfterSweep k c want sweep.cleanup
AfterPut k c want sweep released PutFor.Emptied = (released ≡ []) × AfterSweep k c want sweep.cleanup
AfterPut k c want sweep released PutFor.Left = (released ≡ []) × IsLeaving c.stage

abbrev pub AfterOffice : Key → Call → Want → Sweep → List ℕ → PutFor → OfficeFor → Type 0
AfterOffice k c want sweep released why OfficeFor.Ask = (released ≡ []) × AskFits want c.served
AfterOffice k c want sweep released why (OfficeFor.Put first) = AfterPut k c want sweep released why
AfterOffice k c want sweep released why (OfficeFor.Drain first rest) = (released ≡ []) × AskFits want c.served
    × IsBelow (granules_end k) rest

-- what the mailbox and the orphans are asked for: in a get, a slab of small objects
abbrev pub AfterFetch : Call → Stage → Type 0
AfterFetch c Stage.Getting = IsSmall c.served
AfterFetch c _ = ⊤

-- a slab without a held object goes to the backend at once in a hard cleanup, which a get makes
abbrev pub AfterEmpty : Key → Call → Want → Cleanup → Stage → Type 0
AfterEmpty k c want cleanup Stage.Getting = AfterSweep k c want cleanup
AfterEmpty k c want cleanup _ = ⊤

abbrev pub AfterNewest : Key → Call → Want → Cleanup → Stage → Type 0
AfterNewest k c want cleanup Stage.Leaving = ⊤
AfterNewest k c want cleanup (Stage.Resetting stage) = ⊤
AfterNewest k c want cleanup _ = AfterSweep k c want cleanup

-- an end of a grant is no part of a get
abbrev pub IsEnding : Stage → Type 0
IsEnding Stage.Getting = ⊥
IsEnding _ = ⊤

-- the object whose grant is ended lies in a large block
abbrev pub IsInLarge : Kind → Type 0
IsInLarge (Kind.Large first granules) = ⊤
IsInLarge Kind.Nothing = ⊥
IsInLarge (Kind.Slab class) = ⊥
IsInLarge Kind.CachedSlab = ⊥

abbrev pub EndFits : Kind → EndAt → Type 0
EndFits kind EndAt.Own = ⊤
EndFits kind EndAt.Other = ⊤
EndFits kind EndAt.Large = IsInLarge kind
EndFits kind (EndAt.Lost m) = ⊤

-- the slab or the block in which an object is granted
abbrev pub PlaceFits : Key → Call → Served → Type 0
PlaceFits k c (Served.Small class) = IsSlab k c.slab
PlaceFits k c (Served.Large granules alignment) = IsBlock k granules c.block.first × (c.block.granules ≡ granules)

abbrev pub LocateFits : LocateAt → Type 0
LocateFits (LocateAt.Region slot) = slot < most_regions
LocateFits (LocateAt.Base slot region) = slot < most_regions

-- an object is granted at this unit
abbrev pub GrantFits : Key → Call → ℕ → Type 0
GrantFits k c unit = HasObject k unit (kind_got c c.served)

abbrev pub SmallFits : Key → Local → SmallAt → Type 0
SmallFits k l (SmallAt.Uncache slab) = IsSlab k slab × IsSmall l.call.served
SmallFits k l (SmallAt.Next slab) = IsSlab k slab × IsSmall l.call.served
SmallFits k l (SmallAt.Public slab) = IsSlab k slab × IsSmall l.call.served
SmallFits k l (SmallAt.Own slab) = IsSlab k slab × IsSmall l.call.served
SmallFits k l (SmallAt.Kind slab) = IsSlab k slab × IsSmall l.call.served
SmallFits k l (SmallAt.Behind slab head) = GrantFits k l.call head
SmallFits k l (SmallAt.Private slab head below) = GrantFits k l.call head × IsBelow (units_end k) below
SmallFits k l (SmallAt.Rest slab unit) = GrantFits k l.call unit
SmallFits k l (SmallAt.Empty slab) = IsSlab k slab × AfterEmpty k l.call l.ask.want l.sweep.cleanup l.call.stage
SmallFits k l (SmallAt.Cache slab) = IsSlab k slab
SmallFits k l (SmallAt.Oldest slab) = IsSlab k slab
SmallFits k l (SmallAt.Newest slab) = IsSlab k slab × AfterNewest k l.call l.ask.want l.sweep.cleanup l.call.stage

-- a tick is drawn for a get of a large block, or for one in hand that is put into the cache
abbrev pub TickFits : Key → Call → Stage → Type 0
TickFits k c Stage.Getting = IsSmall c.served → ⊥
TickFits k c _ = IsLarge k c.block.granules c.block.first

abbrev pub LargeAtFits : Key → Call → LargeAt → Type 0
LargeAtFits k c LargeAt.Tick = TickFits k c c.stage
LargeAtFits k c (LargeAt.Kind unit) = GrantFits k c unit
LargeAtFits k c (LargeAt.Grant unit) = GrantFits k c unit

-- the blocks that a reset took out of a cache bin
abbrev pub StageReleased : Key → List ℕ → Stage → Type 0
StageReleased k released (Stage.Resetting (ResetStage.Cache granules)) = AreReleased k granules released
StageReleased k released _ = released ≡ []

-- before its lock is taken a cache bin has given nothing
abbrev pub ClearReleased : Key → List ℕ → ℕ → ClearAt → Type 0
ClearReleased k released granules (ClearAt.Peek number) = released ≡ []
ClearReleased k released granules _ = AreReleased k granules released

abbrev pub ResetFits : Key → Local → ResetAt → Type 0
ResetFits k l (ResetAt.Strip slab at) = NoneReleased l × IsReset l.call.stage × IsSlab k slab
ResetFits k l (ResetAt.Seek at) = NoneReleased l × SeekFits k at
ResetFits k l (ResetAt.Evict region at) = NoneReleased l × RegionFits k region × EvictFits k at
ResetFits k l (ResetAt.Clear granules at) = ClearReleased k l.released.items granules at × (granules < cache_counts)
    × ClearFits k granules at
ResetFits k l (ResetAt.Unqueue at) = NoneReleased l × UnqueueFits k at
ResetFits k l (ResetAt.Unite region at) = NoneReleased l × RegionFits k region × UniteFits k at
ResetFits k l (ResetAt.Bin at) = StageReleased k l.released.items l.call.stage × HasBlock k l.call.block × BinFits k at

-- released blocks lie in the local between the walk through a cache bin and their puts alone
abbrev pub SweepReleased : Key → List ℕ → ℕ → SweepAt → Type 0
SweepReleased k released granules SweepAt.Clock = released ≡ []
SweepReleased k released granules SweepAt.Peek = released ≡ []
SweepReleased k released granules _ = AreReleased k granules released

abbrev pub AtFits : Key → Local → At → Type 0
AtFits k l At.Idle = NoneReleased l
AtFits k l (At.Ready answer) = NoneReleased l
AtFits k l (At.Look at) = NoneReleased l × LookFits k at
AtFits k l (At.End at) = NoneReleased l × IsEnding l.call.stage × EndFits (ended_object l).kind at
AtFits k l (At.Post at) = NoneReleased l × PostFits k at
AtFits k l (At.Mail at) = NoneReleased l × MailFits k at
AtFits k l (At.Mailbox at) = NoneReleased l × AfterFetch l.call l.call.stage × BoxFits k at
AtFits k l (At.Adopt at) = NoneReleased l × AfterFetch l.call l.call.stage × AdoptFits k at
AtFits k l (At.Join slab rest at) = NoneReleased l × AfterFetch l.call l.call.stage × IsSlab k slab
    × IsSlabIf k rest × JoinFits k at
AtFits k l (At.Spare at) = NoneReleased l × AfterFetch l.call l.call.stage × LeaveFits k at
AtFits k l (At.Leave slab at) = NoneReleased l × IsLeaving l.call.stage × IsSlab k slab × LeaveFits k at
AtFits k l (At.Locate at) = NoneReleased l × PlaceFits k l.call l.call.served × LocateFits at
AtFits k l (At.Small at) = NoneReleased l × SmallFits k l at
AtFits k l (At.Large at) = NoneReleased l × LargeAtFits k l.call at
AtFits k l (At.Get at) = NoneReleased l × (IsSmall l.call.served → ⊥)
    × GetFits k (granules_of_served l.call.served) at
AtFits k l (At.Undo cause at) = NoneReleased l
AtFits k l (At.Keep at) = NoneReleased l × CachedFits k l.call l.call.stage
    × IsLarge k l.call.block.granules l.call.block.first × KeepFits k l.call.block.granules at
AtFits k l (At.Sweep at) = SweepReleased k l.released.items l.sweep.granules at
    × AfterSweep k l.call l.ask.want l.sweep.cleanup × SweepFits k l.sweep.granules at
AtFits k l (At.Scan at) = NoneReleased l × AskFits l.ask.want l.call.served × ScanFits k l.ask.want at
AtFits k l (At.Cut at) = NoneReleased l × AskFits l.ask.want l.call.served × IsWanted k l.ask.want l.ask.block
    × CutFits k (cut_call l) at
AtFits k l At.Queue = NoneReleased l × AskFits l.ask.want l.call.served
AtFits k l (At.Whole at) = NoneReleased l × AskFits l.ask.want l.call.served × HasBlock k l.ask.block
    × BinFits k at
AtFits k l (At.Drain at) = NoneReleased l × AskFits l.ask.want l.call.served × DrainFits k at
AtFits k l (At.Put at) = AfterPut k l.call l.ask.want l.sweep l.released.items l.put × PutFits k at
AtFits k l (At.Office job at) = AfterOffice k l.call l.ask.want l.sweep l.released.items l.put job
    × OfficeFits k at
AtFits k l (At.Reset at) = ResetFits k l at

pub record LocalFits (k : Key) (l : Local) : Type 0 where
  pub frames : Frames k l
  pub at : AtFits k l l.at

-- What the cache's own chains have to say of what is found: a link that is loaded of a block of a bin leads to a block
-- as long as that bin's.
abbrev pub ResetLeads : Key → ResetAt → ℕ → Type 0
ResetLeads k (ResetAt.Clear granules at) found = ClearLeads k granules at found
ResetLeads k _ found = ⊤

abbrev pub LeadsAt : Key → Local → At → ℕ → Type 0
LeadsAt k l (At.Get at) found = GetLeads k (granules_of_served l.call.served) at found
LeadsAt k l (At.Keep at) found = KeepLeads k l.call.block.granules at found
LeadsAt k l (At.Sweep at) found = SweepLeads k l.sweep.granules at found
LeadsAt k l (At.Reset at) found = ResetLeads k at found
LeadsAt k l _ found = ⊤
