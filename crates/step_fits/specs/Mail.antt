-- What a local says where an object is looked at or its grant is ended, and at mailboxes and orphans.
use Rattle.std.specs.Prelude.{◌≡◌, ℕ, ⊤, Some, None}
use Rattle.heap_slabs.specs.declared.records.HeapSlab.{HeapSlab}
use Rattle.heap_slabs.specs.Slabs.{Kept, record_at}
use Rattle.orphans.specs.declared.adopting.AdoptAt.{AdoptAt}
use Rattle.orphans.specs.declared.leaving.LeaveAt.{LeaveAt}
use Rattle.public_list.specs.declared.ending.EndAt.{EndAt}
use Rattle.step_local.specs.declared.frames.Local.{Local}
use Rattle.step_local.specs.declared.frames.ResetStage.{ResetStage}
use Rattle.step_local.specs.declared.frames.Served.{Served}
use Rattle.step_local.specs.declared.frames.Stage.{Stage}
use Rattle.step_local.specs.declared.frames.Tried.{Tried}
use Rattle.step_local.specs.Answers.{end_by, ended_object}
use Rattle.step_fits.specs.Small.{IsEnding, Keeps}

-- a grant is ended by where its object lies; one that could not be ended is looked at again
abbrev pub EndsBy : Local → EndAt → Type 0
EndsBy l (EndAt.Lost mark) = ⊤
EndsBy l at = at ≡ end_by l (ended_object l).unit (ended_object l).kind

abbrev pub EndFits : Local → EndAt → Type 0
EndFits l at = IsEnding l.call.stage × EndsBy l at

-- an object of a slab that the heap does not keep is given back to it
abbrev pub GivesBack : Local → Type 0
GivesBack l = IsEnding l.call.stage × (EndAt.Other ≡ end_by l (ended_object l).unit (ended_object l).kind)

-- the slab that a leaving heap awaits is one that it keeps, of the class that is fetched
pub record IsAwaited (s : Kept) (awaited class : ℕ) (kept : HeapSlab) : Type 0 where
  pub there : record_at s.records awaited ≡ Some kept
  pub class' : kept.class ≡ class

abbrev pub Awaits : Local → Type 0
Awaits l = (kept : HeapSlab) × IsAwaited l.heap.slabs l.fetch.awaited l.fetch.class kept

-- what is fetched is of the class that is served; a mailbox is taken before orphans are adopted
abbrev pub Fetches : Local → Tried → Type 0
Fetches l tried = (l.call.served ≡ Served.Small l.fetch.class) × (l.call.tried ≡ tried)

abbrev pub ResetTakes : Local → ResetStage → Type 0
ResetTakes l (ResetStage.Heap (Some class)) = class ≡ l.fetch.class
ResetTakes l (ResetStage.Heap None) = ⊥
ResetTakes l (ResetStage.Orphans rest) = ⊥
ResetTakes l (ResetStage.Large region granule) = ⊥
ResetTakes l (ResetStage.Cache granules) = ⊥
ResetTakes l (ResetStage.Queue rest) = ⊥
ResetTakes l (ResetStage.Regions below) = ⊥

-- the mailbox of the class that is served, awaited or reset
abbrev pub TakesMail : Local → Stage → Type 0
TakesMail l Stage.Getting = Fetches l Tried.Mailbox
TakesMail l Stage.Leaving = Awaits l
TakesMail l Stage.Idle = ⊥
TakesMail l Stage.Looking = ⊥
TakesMail l Stage.Ending = ⊥
TakesMail l Stage.Replacing = ⊥
TakesMail l Stage.Undoing = ⊥
TakesMail l (Stage.Resetting stage) = ResetTakes l stage

abbrev pub IsOrphanReset : ResetStage → Type 0
IsOrphanReset (ResetStage.Orphans rest) = ⊤
IsOrphanReset (ResetStage.Heap class) = ⊥
IsOrphanReset (ResetStage.Large region granule) = ⊥
IsOrphanReset (ResetStage.Cache granules) = ⊥
IsOrphanReset (ResetStage.Queue rest) = ⊥
IsOrphanReset (ResetStage.Regions below) = ⊥

-- orphans of the class that is served, or, in a reset, of each class
abbrev pub Adopts : Local → Stage → Type 0
Adopts l Stage.Getting = Fetches l Tried.Orphans
Adopts l Stage.Idle = ⊥
Adopts l Stage.Looking = ⊥
Adopts l Stage.Ending = ⊥
Adopts l Stage.Replacing = ⊥
Adopts l Stage.Undoing = ⊥
Adopts l Stage.Leaving = ⊥
Adopts l (Stage.Resetting stage) = IsOrphanReset stage

-- a reset puts none of them aside
abbrev pub SparesIn : Stage → AdoptAt → Type 0
SparesIn stage (AdoptAt.Spare slab) = stage ≡ Stage.Getting
SparesIn stage _ = ⊤

abbrev pub AdoptFits : Local → AdoptAt → Type 0
AdoptFits l at = Adopts l l.call.stage × SparesIn l.call.stage at

-- an orphan that is pushed back is pushed, and nothing else
abbrev pub IsPush : LeaveAt → Type 0
IsPush LeaveAt.Close = ⊥
IsPush LeaveAt.Header = ⊥
IsPush LeaveAt.Disown = ⊥
IsPush (LeaveAt.Push at) = ⊤

abbrev pub SpareFits : Local → LeaveAt → Type 0
SpareFits l at = (l.call.stage ≡ Stage.Getting) × Fetches l Tried.Orphans × IsPush at

-- a heap that leaves keeps the slab until it is left
abbrev pub LeaveFits : Local → ℕ → Type 0
LeaveFits l slab = (l.call.stage ≡ Stage.Leaving) × Keeps l slab
