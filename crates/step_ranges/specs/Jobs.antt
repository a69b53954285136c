-- What the positions of jobs carry is in its range, by itself.
use Rattle.std.specs.Prelude.{None, Option, Some, true, ℕ, ⊤, ◌+◌, ◌<◌, ◌^◌, ◌≡◌, ◌≤◌}
use Rattle.pool_types.specs.Geometry.{bin_count, class_count}
use Rattle.pool_types.specs.Limits.{most_regions}
use Rattle.pool_types.specs.declared.policy.RegionRec.{RegionRec}
use Rattle.pool_words.specs.declared.actions.Seen.{Seen}
use Rattle.pool_words.specs.declared.words.Key.{Key}
use Rattle.pool_words.specs.declared.words.Word.{Word}
use Rattle.word_codes.specs.Links.{link_of}
use Rattle.word_codes.specs.Nexts.{mailbox_word}
use Rattle.word_codes.specs.declared.kinds.Kind.{Kind}
use Rattle.word_codes.specs.declared.region_words.RegionWord.{RegionWord}
use Rattle.heap_slabs.specs.declared.records.HeapSlab.{HeapSlab}
use Rattle.chain_words.specs.declared.pushing.PushAt.{PushAt}
use Rattle.locked_chain.specs.declared.insert.InsertAt.{InsertAt}
use Rattle.locked_chain.specs.declared.remove.RemoveAt.{RemoveAt}
use Rattle.guards.specs.declared.win.WinAt.{WinAt}
use Rattle.guards.specs.declared.win.WinCall.{WinCall}
use Rattle.public_list.specs.declared.joining.JoinAt.{JoinAt}
use Rattle.public_list.specs.declared.looking.LookAt.{LookAt}
use Rattle.public_list.specs.declared.posting.PostAt.{PostAt}
use Rattle.mailbox.specs.declared.boxes.BoxAt.{BoxAt}
use Rattle.mailbox.specs.declared.mailing.MailAt.{MailAt}
use Rattle.orphans.specs.declared.adopting.AdoptAt.{AdoptAt}
use Rattle.orphans.specs.declared.leaving.LeaveAt.{LeaveAt}
use Rattle.backend_bins.specs.Blocks.{fits}
use Rattle.backend_bins.specs.Cut.{back_of, front_of}
use Rattle.backend_bins.specs.declared.bin.BinAt.{BinAt}
use Rattle.backend_bins.specs.declared.blocks.Block.{Block}
use Rattle.backend_bins.specs.declared.blocks.Want.{Want}
use Rattle.backend_bins.specs.declared.cut.CutAt.{CutAt}
use Rattle.backend_bins.specs.declared.cut.CutCall.{CutCall}
use Rattle.backend_bins.specs.declared.scan.ScanAt.{ScanAt}
use Rattle.backend_bins.specs.declared.scan.ScanStep.{ScanStep}
use Rattle.coalescer.specs.declared.drain.DrainAt.{DrainAt}
use Rattle.coalescer.specs.declared.put.PutAt.{PutAt}
use Rattle.coalescer.specs.declared.put.PutStep.{PutStep}
use Rattle.region_steps.specs.declared.office.OfficeAt.{OfficeAt}
use Rattle.region_steps.specs.declared.office.OfficeEnd.{OfficeEnd}
use Rattle.large_cache.specs.declared.get.GetAt.{GetAt}
use Rattle.large_cache.specs.declared.get.HitAt.{HitAt}
use Rattle.large_cache.specs.declared.keep.KeepAt.{KeepAt}
use Rattle.large_cache.specs.declared.keep.Tail.{Tail}
use Rattle.large_cache.specs.declared.sweep.SweepAt.{SweepAt}
use Rattle.large_cache.specs.declared.sweep.Walk.{Walk}
use Rattle.reset_steps.specs.Evict.{last_line}
use Rattle.reset_steps.specs.declared.clear.ClearAt.{ClearAt}
use Rattle.reset_steps.specs.declared.evict.EvictAt.{EvictAt}
use Rattle.reset_steps.specs.declared.seek.SeekAt.{SeekAt}
use Rattle.reset_steps.specs.declared.unite.UniteAt.{UniteAt}
use Rattle.reset_steps.specs.declared.unqueue.UnqueueAt.{UnqueueAt}
use Rattle.step_ranges.specs.Ranges.{EndsBlock, IsBelow, IsBlock, IsBlockIf, IsMailbox, IsSlab, IsSlabIf}
use Rattle.step_ranges.specs.Ranges.{KindFits, RegionFits, ValueFits, granules_end, units_end}

-- a head that was loaded is one that the head's word may hold
abbrev pub PushFits : (ℕ → Type 0) → PushAt → Type 0
PushFits fits PushAt.Look = ⊤
PushFits fits (PushAt.Link found) = fits found
PushFits fits (PushAt.Exchange found) = fits found

-- a link of a bin's list, as it was loaded
abbrev pub LinkFits : Key → ℕ → Type 0
LinkFits k word = IsBelow (granules_end k) (link_of word)

abbrev pub InsertFits : Key → InsertAt → Type 0
InsertFits k InsertAt.Head = ⊤
InsertFits k (InsertAt.Forward head) = LinkFits k head
InsertFits k (InsertAt.Backward head) = LinkFits k head
InsertFits k (InsertAt.OldBackward old) = old < granules_end k
InsertFits k InsertAt.NewHead = ⊤

abbrev pub RemoveFits : Key → RemoveAt → Type 0
RemoveFits k RemoveAt.Forward = ⊤
RemoveFits k (RemoveAt.Backward forward) = LinkFits k forward
RemoveFits k (RemoveAt.Skip forward backward) = LinkFits k forward × LinkFits k backward
RemoveFits k (RemoveAt.SkipBack behind backward) = (behind < granules_end k) × LinkFits k backward

-- the block that is won is one of the pool's
pub record WinFits (k : Key) (c : WinCall) : Type 0 where
  pub block : IsBlock k c.granules c.begin
  pub ends : c.end ≡ c.begin + c.granules

abbrev pub HasBlock : Key → Block → Type 0
HasBlock k b = IsBlock k b.granules b.first

abbrev pub BinFits : Key → BinAt → Type 0
BinFits k BinAt.Lock = ⊤
BinFits k BinAt.Size = ⊤
BinFits k BinAt.Left = ⊤
BinFits k (BinAt.Insert at) = InsertFits k at
BinFits k (BinAt.Out at) = RemoveFits k at
BinFits k BinAt.Unlock = ⊤

-- the piece is one of the block's
pub record IsCut (k : Key) (c : CutCall) : Type 0 where
  pub block : HasBlock k c.block
  pub front : c.block.first ≤ c.piece.first
  pub back : c.piece.first + c.piece.granules ≤ c.block.first + c.block.granules

-- a rest is put into its bin where there is one
abbrev pub CutFits : Key → CutCall → CutAt → Type 0
CutFits k c CutAt.FrontLeft = ⊤
CutFits k c CutAt.FrontSize = ⊤
CutFits k c CutAt.BackLeft = ⊤
CutFits k c CutAt.BackSize = ⊤
CutFits k c (CutAt.Front at) = BinFits k at × HasBlock k (front_of c)
CutFits k c (CutAt.Back at) = BinFits k at × HasBlock k (back_of c)

-- a block that has the wanted piece
pub record IsWanted (k : Key) (want : Want) (b : Block) : Type 0 where
  pub block : HasBlock k b
  pub room : fits want b ≡ true

-- Before its first guard is won a block of a bin is known by its begin alone, and is as long as its bin says.
pub record MayBeWon (k : Key) (want : Want) (b : Block) : Type 0 where
  pub begins : b.first < granules_end k
  pub few : b.granules < 2 ^ 32
  pub room : fits want b ≡ true

abbrev pub ScanWinFits : Key → Want → Block → WinAt → Type 0
ScanWinFits k want b WinAt.First = MayBeWon k want b
ScanWinFits k want b WinAt.Second = IsWanted k want b
ScanWinFits k want b WinAt.Back = IsWanted k want b

abbrev pub TookFits : Key → Want → Option Block → Type 0
TookFits k want None = ⊤
TookFits k want (Some b) = IsWanted k want b

abbrev pub ScanStepFits : Key → Want → ScanStep → Type 0
ScanStepFits k want ScanStep.Peek = ⊤
ScanStepFits k want ScanStep.Lock = ⊤
ScanStepFits k want ScanStep.Head = ⊤
ScanStepFits k want (ScanStep.Length first) = first < granules_end k
ScanStepFits k want (ScanStep.Win b at) = ScanWinFits k want b at
ScanStepFits k want (ScanStep.Next first) = first < granules_end k
ScanStepFits k want (ScanStep.Out b at) = IsWanted k want b × RemoveFits k at
ScanStepFits k want (ScanStep.Unlock took) = TookFits k want took

pub record ScanFits (k : Key) (want : Want) (s : ScanAt) : Type 0 where
  pub bin : s.bin < bin_count
  pub step : ScanStepFits k want s.step

abbrev pub PutStepFits : Key → Block → PutStep → Type 0
PutStepFits k b PutStep.Size = ⊤
PutStepFits k b PutStep.Left = ⊤
PutStepFits k b PutStep.LeftWord = ⊤
PutStepFits k b (PutStep.WinLeft granules at) = EndsBlock k granules b.first
PutStepFits k b (PutStep.UnlinkLeft neighbour at) = HasBlock k neighbour × BinFits k at
PutStepFits k b PutStep.RightWord = ⊤
PutStepFits k b (PutStep.WinRight granules at) = IsBlock k granules (b.first + b.granules)
PutStepFits k b (PutStep.UnlinkRight neighbour at) = HasBlock k neighbour × BinFits k at
PutStepFits k b PutStep.FarLeft = ⊤
PutStepFits k b PutStep.FarRight = ⊤
PutStepFits k b (PutStep.Queue at) = PushFits (ValueFits k Word.Queue) at
PutStepFits k b (PutStep.Bin at) = BinFits k at

pub record PutFits (k : Key) (p : PutAt) : Type 0 where
  pub block : HasBlock k p.block
  pub step : PutStepFits k p.block p.step

abbrev pub DrainFits : Key → DrainAt → Type 0
DrainFits k DrainAt.Swap = ⊤
DrainFits k (DrainAt.Link first) = first < granules_end k
DrainFits k (DrainAt.Put rest at) = IsBelow (granules_end k) rest × PutFits k at

-- the region that came, and its wall behind it
abbrev pub HasRegion : Key → RegionRec → Type 0
HasRegion k one = one.first + one.granules < k.span

abbrev pub OfficeEndFits : Key → OfficeEnd → Type 0
OfficeEndFits k (OfficeEnd.Obtained one) = HasRegion k one
OfficeEndFits k (OfficeEnd.Refused error) = ⊤
OfficeEndFits k OfficeEnd.Given = ⊤

abbrev pub OfficeFits : Key → OfficeAt → Type 0
OfficeFits k OfficeAt.Lock = ⊤
OfficeFits k (OfficeAt.Region slot given) = (slot < most_regions) × IsBelow most_regions given
OfficeFits k (OfficeAt.Take given) = IsBelow most_regions given
OfficeFits k (OfficeAt.Base one) = HasRegion k one
OfficeFits k (OfficeAt.Enter one) = HasRegion k one
OfficeFits k (OfficeAt.WallSize one) = HasRegion k one
OfficeFits k (OfficeAt.WallLeft one) = HasRegion k one
OfficeFits k (OfficeAt.FirstSize one) = HasRegion k one
OfficeFits k (OfficeAt.LastLeft one) = HasRegion k one
OfficeFits k (OfficeAt.Remove given) = IsBelow most_regions given
OfficeFits k (OfficeAt.Back end) = OfficeEndFits k end
OfficeFits k (OfficeAt.Unlock end) = OfficeEndFits k end

-- a unit, and what an object that begins there lies in
pub record HasObject (k : Key) (begin : ℕ) (lies_in : Kind) : Type 0 where
  pub unit : begin < units_end k
  pub kind : KindFits k lies_in

abbrev pub LookFits : Key → LookAt → Type 0
LookFits k LookAt.Region = ⊤
LookFits k (LookAt.Mark u) = u < units_end k
LookFits k (LookAt.Again u m) = u < units_end k
LookFits k (LookAt.Kind u m) = u < units_end k
LookFits k (LookAt.Odd u m) = u < units_end k
LookFits k (LookAt.Base u m kind) = HasObject k u kind
LookFits k (LookAt.Second u m kind base) = HasObject k u kind
LookFits k (LookAt.Gone m) = ⊤

-- a slab's public word and a head of orphans may hold the same, whichever it is
abbrev pub PostFits : Key → PostAt → Type 0
PostFits k (PostAt.Push p) = PushFits (ValueFits k (Word.Public 0)) p

abbrev pub MailFits : Key → MailAt → Type 0
MailFits k MailAt.Next = ⊤
MailFits k (MailAt.Push key p) = IsMailbox k key × PushFits (ValueFits k (mailbox_word key)) p

abbrev pub JoinFits : Key → JoinAt → Type 0
JoinFits k JoinAt.Take = ⊤
JoinFits k (JoinAt.Walk first at count) = (first < units_end k) × (at < units_end k)
JoinFits k (JoinAt.Tie first last count) = (first < units_end k) × (last < units_end k)

abbrev pub BoxFits : Key → BoxAt → Type 0
BoxFits k BoxAt.Take = ⊤
BoxFits k (BoxAt.Next slab) = IsSlab k slab
BoxFits k (BoxAt.Settle slab rest) = IsSlab k slab × IsSlabIf k rest
BoxFits k (BoxAt.Join slab rest at) = IsSlab k slab × IsSlabIf k rest × JoinFits k at

abbrev pub AdoptFits : Key → AdoptAt → Type 0
AdoptFits k AdoptAt.Take = ⊤
AdoptFits k (AdoptAt.Header slab) = IsSlab k slab
AdoptFits k (AdoptAt.Next slab header) = IsSlab k slab
AdoptFits k (AdoptAt.Settle slab header rest) = IsSlab k slab × IsSlabIf k rest
AdoptFits k (AdoptAt.Own slab header rest) = IsSlab k slab × IsSlabIf k rest
AdoptFits k (AdoptAt.Spare slab) = IsSlab k slab

abbrev pub LeaveFits : Key → LeaveAt → Type 0
LeaveFits k LeaveAt.Close = ⊤
LeaveFits k LeaveAt.Header = ⊤
LeaveFits k LeaveAt.Disown = ⊤
LeaveFits k (LeaveAt.Push p) = PushFits (ValueFits k (Word.Orphans 0)) p

abbrev pub HitFits : Key → ℕ → HitAt → Type 0
HitFits k granules (HitAt.Link items block) = IsBlock k granules block
HitFits k granules (HitAt.Age items block link) = IsBlock k granules block × IsBlockIf k granules (link_of link)
HitFits k granules (HitAt.Mean items block link age) = IsBlock k granules block × IsBlockIf k granules (link_of link)
HitFits k granules (HitAt.Pop newest) = IsBlock k granules newest.block × IsBlockIf k granules (link_of newest.link)
HitFits k granules (HitAt.SetItems newest) = IsBlock k granules newest.block
HitFits k granules (HitAt.SetMean newest) = IsBlock k granules newest.block

abbrev pub GetFits : Key → ℕ → GetAt → Type 0
GetFits k granules GetAt.Lock = ⊤
GetFits k granules GetAt.Items = ⊤
GetFits k granules (GetAt.Head items) = ⊤
GetFits k granules (GetAt.Hit at) = HitFits k granules at
GetFits k granules GetAt.Cleaned = ⊤
GetFits k granules (GetAt.SetThreshold cleaned) = ⊤
GetFits k granules GetAt.ClearCleaned = ⊤
GetFits k granules (GetAt.SetTime block) = IsBlockIf k granules block
GetFits k granules (GetAt.Used block) = IsBlockIf k granules block
GetFits k granules (GetAt.SetUsed block used) = IsBlockIf k granules block
GetFits k granules (GetAt.Unlock block) = IsBlockIf k granules block

-- the walk to the oldest block of a full cache bin
pub record TailFits (k : Key) (granules : ℕ) (tail : Tail) : Type 0 where
  pub head : LinkFits k tail.head
  pub before : IsBelow (granules_end k) tail.before
  pub block : IsBlock k granules tail.block

abbrev pub KeepFits : Key → ℕ → KeepAt → Type 0
KeepFits k granules KeepAt.Lock = ⊤
KeepFits k granules KeepAt.Items = ⊤
KeepFits k granules (KeepAt.Head items) = ⊤
KeepFits k granules (KeepAt.Walk tail) = TailFits k granules tail
KeepFits k granules (KeepAt.OldAge tail) = TailFits k granules tail
KeepFits k granules (KeepAt.Cut tail age) = TailFits k granules tail
KeepFits k granules (KeepAt.SetCleaned tail age) = TailFits k granules tail
KeepFits k granules (KeepAt.SetLink items head released) = LinkFits k head × IsBlockIf k granules released
KeepFits k granules (KeepAt.SetAge items released) = IsBlockIf k granules released
KeepFits k granules (KeepAt.SetHead items released) = IsBlockIf k granules released
KeepFits k granules (KeepAt.SetItems items released) = IsBlockIf k granules released
KeepFits k granules (KeepAt.Used released) = IsBlockIf k granules released
KeepFits k granules (KeepAt.SetUsed released used) = IsBlockIf k granules released
KeepFits k granules (KeepAt.Unlock released) = IsBlockIf k granules released

pub record WalkFits (k : Key) (granules : ℕ) (walk : Walk) : Type 0 where
  pub block : IsBlock k granules walk.block
  pub kept : IsBelow (granules_end k) walk.kept

abbrev pub SweepFits : Key → ℕ → SweepAt → Type 0
SweepFits k granules SweepAt.Clock = ⊤
SweepFits k granules SweepAt.Peek = ⊤
SweepFits k granules SweepAt.Lock = ⊤
SweepFits k granules SweepAt.Items = ⊤
SweepFits k granules (SweepAt.Judge at) = ⊤
SweepFits k granules (SweepAt.SetThreshold count threshold) = ⊤
SweepFits k granules (SweepAt.Head count threshold) = ⊤
SweepFits k granules (SweepAt.Age walk) = WalkFits k granules walk
SweepFits k granules (SweepAt.Link walk) = WalkFits k granules walk
SweepFits k granules (SweepAt.Cut walk) = WalkFits k granules walk
SweepFits k granules (SweepAt.SetItems walk) = WalkFits k granules walk
SweepFits k granules (SweepAt.SetCleaned walk) = WalkFits k granules walk
SweepFits k granules SweepAt.Unlock = ⊤

abbrev pub ClearFits : Key → ℕ → ClearAt → Type 0
ClearFits k granules (ClearAt.Peek number) = ⊤
ClearFits k granules ClearAt.Lock = ⊤
ClearFits k granules ClearAt.Head = ⊤
ClearFits k granules (ClearAt.Link block) = IsBlock k granules block
ClearFits k granules ClearAt.Cut = ⊤
ClearFits k granules (ClearAt.Zero number) = ⊤
ClearFits k granules ClearAt.Unlock = ⊤

abbrev pub BestFits : Key → Option RegionWord → Type 0
BestFits k None = ⊤
BestFits k (Some region) = RegionFits k region

pub record SeekFits (k : Key) (at : SeekAt) : Type 0 where
  pub slot : at.slot < most_regions
  pub best : BestFits k at.best

-- a line of a granule, and the large block of which an object may begin there
pub record LineFits (k : Key) (granule : ℕ) (b : Block) (number : ℕ) : Type 0 where
  pub below : granule < granules_end k
  pub block : HasBlock k b
  pub line : number ≤ last_line

abbrev pub EvictFits : Key → EvictAt → Type 0
EvictFits k (EvictAt.Kind granule) = granule < granules_end k
EvictFits k (EvictAt.Mark granule b line) = LineFits k granule b line
EvictFits k (EvictAt.End granule b line mark) = LineFits k granule b line

abbrev pub UnqueueFits : Key → UnqueueAt → Type 0
UnqueueFits k UnqueueAt.Take = ⊤
UnqueueFits k (UnqueueAt.Link first) = first < granules_end k

abbrev pub UniteFits : Key → UniteAt → Type 0
UniteFits k (UniteAt.Size first) = first ≤ granules_end k
UniteFits k (UniteAt.Win b at) = HasBlock k b
UniteFits k (UniteAt.Unlink b at) = HasBlock k b × BinFits k at

-- What the cache's own chains have to say: the link that is loaded leads to a block as long as those of its bin.
abbrev pub HitLeads : Key → ℕ → HitAt → ℕ → Type 0
HitLeads k granules (HitAt.Link items block) found = IsBlockIf k granules (link_of found)
HitLeads k granules _ found = ⊤

abbrev pub GetLeads : Key → ℕ → GetAt → ℕ → Type 0
GetLeads k granules (GetAt.Hit at) found = HitLeads k granules at found
GetLeads k granules _ found = ⊤

abbrev pub KeepLeads : Key → ℕ → KeepAt → ℕ → Type 0
KeepLeads k granules (KeepAt.Walk tail) found = IsBlockIf k granules (link_of found)
KeepLeads k granules _ found = ⊤

abbrev pub SweepLeads : Key → ℕ → SweepAt → ℕ → Type 0
SweepLeads k granules (SweepAt.Link walk) found = IsBlockIf k granules (link_of found)
SweepLeads k granules _ found = ⊤

abbrev pub ClearLeads : Key → ℕ → ClearAt → ℕ → Type 0
ClearLeads k granules (ClearAt.Link block) found = IsBlockIf k granules (link_of found)
ClearLeads k granules _ found = ⊤

-- what a taking of the office tells
abbrev pub SeenFits : Key → Seen → Type 0
SeenFits k (Seen.Obtained one) = HasRegion k one
SeenFits k _ = ⊤

-- a record that a heap keeps of a slab
pub record RecordFits (k : Key) (kept : HeapSlab) : Type 0 where
  pub slab : IsSlab k kept.slab
  pub class : kept.class < class_count
  pub head : IsBelow (units_end k) kept.head
