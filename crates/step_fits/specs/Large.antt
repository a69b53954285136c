-- What a local says where a large object is got, or its block is put into the cache, and in cleanups.
use Rattle.std.specs.Prelude.{◌≡◌, ◌≤◌, ⊤, Bool, false}
use Rattle.large_cache.specs.declared.sweep.Cleanup.{Cleanup}
use Rattle.word_codes.specs.declared.kinds.Kind.{Kind}
use Rattle.step_local.specs.declared.frames.LargeAt.{LargeAt}
use Rattle.step_local.specs.declared.frames.Local.{Local}
use Rattle.step_local.specs.declared.frames.LocateAt.{LocateAt}
use Rattle.step_local.specs.declared.frames.Served.{Served}
use Rattle.step_local.specs.declared.frames.Stage.{Stage}
use Rattle.step_local.specs.Answers.{ended_object}
use Rattle.step_local.specs.Large.{granules_of_served, last_slot}
use Rattle.step_local.specs.Objects.{block_in}
use Rattle.step_fits.specs.Asked.{Asks}
use Rattle.step_fits.specs.Small.{Gives}

abbrev pub IsLarge : Served → Type 0
IsLarge (Served.Small class) = ⊥
IsLarge (Served.Large granules alignment) = ⊤

abbrev pub IsInBlock : Kind → Type 0
IsInBlock (Kind.Large first granules) = ⊤
IsInBlock Kind.Nothing = ⊥
IsInBlock (Kind.Slab class) = ⊥
IsInBlock Kind.CachedSlab = ⊥

abbrev pub GetsLarge : Local → Type 0
GetsLarge l = (l.call.stage ≡ Stage.Getting) × IsLarge l.call.served

-- the block in hand is as long as what is served asks
abbrev pub HasBlock : Local → Type 0
HasBlock l = l.call.block.granules ≡ granules_of_served l.call.served

-- the block in hand is that of the large object whose grant was ended
abbrev pub FreesBlock : Local → Type 0
FreesBlock l = IsInBlock (ended_object l).kind × (l.call.block ≡ block_in (ended_object l).kind)

-- a tick is drawn for a get of a large block, or for the block of a large object that was freed
abbrev pub TickFits : Local → Stage → Type 0
TickFits l Stage.Getting = IsLarge l.call.served
TickFits l Stage.Ending = FreesBlock l
TickFits l Stage.Replacing = FreesBlock l
TickFits l Stage.Undoing = FreesBlock l
TickFits l Stage.Idle = ⊥
TickFits l Stage.Looking = ⊥
TickFits l Stage.Leaving = ⊥
TickFits l (Stage.Resetting stage) = ⊥

-- which is then put into the cache
abbrev pub KeepFits : Local → Stage → Type 0
KeepFits l Stage.Getting = ⊥
KeepFits l stage = TickFits l stage

abbrev pub LargeFits : Local → LargeAt → Type 0
LargeFits l LargeAt.Tick = TickFits l l.call.stage
LargeFits l (LargeAt.Kind unit) = GetsLarge l × HasBlock l
LargeFits l (LargeAt.Grant unit) = GetsLarge l × HasBlock l

-- the slot is one of a region
abbrev pub SlotFits : LocateAt → Type 0
SlotFits (LocateAt.Region slot) = slot ≤ last_slot
SlotFits (LocateAt.Base slot region) = slot ≤ last_slot

-- the region is looked up of a slab that has an object, or of a block that was got
abbrev pub PlaceFits : Bool → Local → Served → Type 0
PlaceFits sure l (Served.Small class) = Gives sure l l.call.slab
PlaceFits sure l (Served.Large granules alignment) = HasBlock l

abbrev pub LocateFits : Bool → Local → LocateAt → Type 0
LocateFits sure l at = (l.call.stage ≡ Stage.Getting) × SlotFits at × PlaceFits sure l l.call.served

-- the cache was looked at: it missed, or its block is in hand; a block that was freed is kept
abbrev pub CachedFits : Local → Stage → Type 0
CachedFits l Stage.Getting = IsLarge l.call.served × (l.call.missed ≡ false → HasBlock l)
CachedFits l Stage.Ending = ⊤
CachedFits l Stage.Replacing = ⊤
CachedFits l Stage.Undoing = ⊤
CachedFits l Stage.Idle = ⊥
CachedFits l Stage.Looking = ⊥
CachedFits l Stage.Leaving = ⊥
CachedFits l (Stage.Resetting stage) = ⊥

-- what goes on once a cleanup is done: the call at the cache, or the asking of the backend
abbrev pub AfterSweep : Local → Cleanup → Type 0
AfterSweep l Cleanup.Regular = CachedFits l l.call.stage
AfterSweep l Cleanup.Soft = Asks l
AfterSweep l Cleanup.Hard = Asks l

abbrev pub SweepFits : Local → Type 0
SweepFits l = (1 ≤ l.sweep.granules) × AfterSweep l l.sweep.cleanup
