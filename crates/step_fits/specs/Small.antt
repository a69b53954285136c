-- What a local says where a small object is got, and where slabs begin and end.
use Rattle.std.specs.Prelude.{◌≡◌, ℕ, ◌<◌, ◌≤◌, ◌+◌, ⊤, Bool, true, Some, None, length}
use Rattle.heap_slabs.specs.declared.records.HeapSlab.{HeapSlab}
use Rattle.heap_slabs.specs.Cached.{low_mark}
use Rattle.heap_slabs.specs.Records.{has_object, is_unused}
use Rattle.heap_slabs.specs.Rolls.{newest_of, oldest_of}
use Rattle.heap_slabs.specs.Slabs.{Kept, record_at}
use Rattle.large_cache.specs.declared.sweep.Cleanup.{Cleanup}
use Rattle.step_local.specs.declared.frames.Local.{Local}
use Rattle.step_local.specs.declared.frames.ResetStage.{ResetStage}
use Rattle.step_local.specs.declared.frames.Served.{Served}
use Rattle.step_local.specs.declared.frames.SmallAt.{SmallAt}
use Rattle.step_local.specs.declared.frames.Stage.{Stage}
use Rattle.step_local.specs.Answers.{head_at}
use Rattle.step_local.specs.Slabs.{class_of_served}
use Rattle.step_tasks.specs.Objects.{rest_at}
use Rattle.step_fits.specs.Asked.{Asks}

abbrev pub IsSmall : Served → Type 0
IsSmall (Served.Small class) = ⊤
IsSmall (Served.Large granules alignment) = ⊥

-- a grant is ended, and then what follows from that
abbrev pub IsEnding : Stage → Type 0
IsEnding Stage.Ending = ⊤
IsEnding Stage.Replacing = ⊤
IsEnding Stage.Undoing = ⊤
IsEnding Stage.Idle = ⊥
IsEnding Stage.Looking = ⊥
IsEnding Stage.Getting = ⊥
IsEnding Stage.Leaving = ⊥
IsEnding (Stage.Resetting stage) = ⊥

abbrev pub GetsSmall : Local → Type 0
GetsSmall l = (l.call.stage ≡ Stage.Getting) × IsSmall l.call.served

-- the heap keeps the slab, with this record
pub record IsKept (s : Kept) (slab : ℕ) (kept : HeapSlab) : Type 0 where
  pub there : record_at s.records slab ≡ Some kept

abbrev pub Keeps : Local → ℕ → Type 0
Keeps l slab = (kept : HeapSlab) × IsKept l.heap.slabs slab kept

-- of this class
pub record IsKeptOf (s : Kept) (slab class : ℕ) (kept : HeapSlab) : Type 0 where
  pub there : record_at s.records slab ≡ Some kept
  pub class' : kept.class ≡ class

abbrev pub KeepsOf : Local → ℕ → ℕ → Type 0
KeepsOf l slab class = (kept : HeapSlab) × IsKeptOf l.heap.slabs slab class kept

-- and no object of it is held
pub record IsUnused (s : Kept) (slab : ℕ) (kept : HeapSlab) : Type 0 where
  pub there : record_at s.records slab ≡ Some kept
  pub unused : is_unused kept ≡ true

abbrev pub KeepsUnused : Local → ℕ → Type 0
KeepsUnused l slab = (kept : HeapSlab) × IsUnused l.heap.slabs slab kept

-- it has an object of the class that is served
pub record IsGiving (s : Kept) (slab class : ℕ) (kept : HeapSlab) : Type 0 where
  pub there : record_at s.records slab ≡ Some kept
  pub class' : kept.class ≡ class
  pub object : has_object kept ≡ true

-- so it is where it is sure of each slab that was begun that it was new
abbrev pub Gives : Bool → Local → ℕ → Type 0
Gives sure l slab = sure ≡ true
    → (kept : HeapSlab) × IsGiving l.heap.slabs slab (class_of_served l.call.served) kept

-- the slab that gives the object is the call's
abbrev pub GivesFrom : Bool → Local → ℕ → Type 0
GivesFrom sure l slab = GetsSmall l × (slab ≡ l.call.slab) × Gives sure l slab

-- a hard cleanup gives up what the heap has to spare
abbrev pub CleansHard : Local → Type 0
CleansHard l = (l.sweep.cleanup ≡ Cleanup.Hard) × Asks l

-- a reset gives up the slabs of the heap, class by class, and those that it adopted, which the heap may have had no
-- place for
abbrev pub ResetEnds : Local → ℕ → ResetStage → Type 0
ResetEnds l slab (ResetStage.Heap (Some class)) = KeepsOf l slab class
ResetEnds l slab (ResetStage.Heap None) = ⊥
ResetEnds l slab (ResetStage.Orphans rest) = ⊤
ResetEnds l slab (ResetStage.Large region granule) = ⊥
ResetEnds l slab (ResetStage.Cache granules) = ⊥
ResetEnds l slab (ResetStage.Queue rest) = ⊥
ResetEnds l slab (ResetStage.Regions below) = ⊥

-- a slab ends without a held object; in a reset its objects were freed before
abbrev pub EndsSlab : Local → ℕ → Stage → Type 0
EndsSlab l slab Stage.Getting = CleansHard l × KeepsUnused l slab
EndsSlab l slab Stage.Ending = KeepsUnused l slab
EndsSlab l slab Stage.Replacing = KeepsUnused l slab
EndsSlab l slab Stage.Undoing = KeepsUnused l slab
EndsSlab l slab Stage.Leaving = KeepsUnused l slab
EndsSlab l slab Stage.Idle = ⊥
EndsSlab l slab Stage.Looking = ⊥
EndsSlab l slab (Stage.Resetting stage) = ResetEnds l slab stage

abbrev pub IsHeapReset : ResetStage → Type 0
IsHeapReset (ResetStage.Heap class) = ⊤
IsHeapReset (ResetStage.Orphans rest) = ⊥
IsHeapReset (ResetStage.Large region granule) = ⊥
IsHeapReset (ResetStage.Cache granules) = ⊥
IsHeapReset (ResetStage.Queue rest) = ⊥
IsHeapReset (ResetStage.Regions below) = ⊥

-- the newest cached slab goes in a hard cleanup, where the heap leaves, and in its reset
abbrev pub GivesUp : Local → Stage → Type 0
GivesUp l Stage.Getting = CleansHard l
GivesUp l Stage.Leaving = ⊤
GivesUp l Stage.Idle = ⊥
GivesUp l Stage.Looking = ⊥
GivesUp l Stage.Ending = ⊥
GivesUp l Stage.Replacing = ⊥
GivesUp l Stage.Undoing = ⊥
GivesUp l (Stage.Resetting stage) = IsHeapReset stage

-- as many of the oldest cached slabs as have to go leave as many as the low mark says
abbrev pub LeavesLow : Local → Type 0
LeavesLow l = l.call.surplus + low_mark ≤ length l.heap.cached.items

abbrev pub GoesOldest : Local → ℕ → Type 0
GoesOldest l slab = IsEnding l.call.stage × (oldest_of l.heap.cached ≡ Some slab) × (0 < l.call.surplus) × LeavesLow l

abbrev pub SmallFits : Bool → Local → SmallAt → Type 0
SmallFits sure l (SmallAt.Uncache slab) = GetsSmall l × (newest_of l.heap.cached ≡ Some slab)
SmallFits sure l (SmallAt.Next slab) = GetsSmall l
SmallFits sure l (SmallAt.Public slab) = GetsSmall l
SmallFits sure l (SmallAt.Own slab) = GetsSmall l
SmallFits sure l (SmallAt.Kind slab) = GetsSmall l
SmallFits sure l (SmallAt.Behind slab head) = GivesFrom sure l slab × (head_at l slab ≡ Some head)
SmallFits sure l (SmallAt.Private slab head below) = GivesFrom sure l slab × (head_at l slab ≡ Some head)
SmallFits sure l (SmallAt.Rest slab unit) = GivesFrom sure l slab × (head_at l slab ≡ None) × (unit ≡ rest_at l slab)
SmallFits sure l (SmallAt.Empty slab) = EndsSlab l slab l.call.stage
SmallFits sure l (SmallAt.Cache slab) = IsEnding l.call.stage × (record_at l.heap.slabs.records slab ≡ None)
SmallFits sure l (SmallAt.Oldest slab) = GoesOldest l slab
SmallFits sure l (SmallAt.Newest slab) = (newest_of l.heap.cached ≡ Some slab) × GivesUp l l.call.stage
