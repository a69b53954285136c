-- The laws of what a local says by itself, and what follows from it.
use Rattle.std.specs.Prelude.{◌≡◌, ◌⊎◌, ℕ, ◌<◌, ⊤, Bool, true, false, [], Some, length}
use Rattle.pool_types.specs.Geometry.{class_count}
use Rattle.pool_types.specs.Policies.{IsAllowed}
use Rattle.pool_types.specs.declared.policy.Limits.{Limits}
use Rattle.pool_types.specs.declared.policy.Policy.{Policy}
use Rattle.pool_types.specs.declared.values.Request.{Request}
use Rattle.pool_words.specs.declared.actions.Seen.{Seen}
use Rattle.pool_words.specs.declared.words.Key.{Key}
use Rattle.heap_slabs.specs.declared.records.HeapSlab.{HeapSlab}
use Rattle.heap_slabs.specs.Records.{next_unit}
use Rattle.heap_slabs.specs.Slabs.{Kept, record_at}
use Rattle.large_cache.specs.declared.sweep.SweepAt.{SweepAt}
use Rattle.mailbox.specs.declared.boxes.BoxAt.{BoxAt}
use Rattle.step_depot.specs.Steps.{key_of}
use Rattle.step_local.specs.declared.frames.At.{At}
use Rattle.step_local.specs.declared.frames.Local.{Local}
use Rattle.step_local.specs.declared.frames.Reset.{Reset}
use Rattle.step_local.specs.declared.frames.ResetStage.{ResetStage}
use Rattle.step_local.specs.declared.frames.SmallAt.{SmallAt}
use Rattle.step_local.specs.declared.frames.Stage.{Stage}
use Rattle.step_local.specs.Frames.{made}
use Rattle.step_local.specs.Getting.{begun, last_grant, reset_begun}
use Rattle.step_local.specs.Large.{granules_of_served}
use Rattle.step_local.specs.Learn.{learn}
use Rattle.step_local.specs.Slabs.{class_of_served}
use Rattle.step_numbers.specs.Positions.{granting, granting_small}
use Rattle.step_fits.specs.Frames.{SeatFits, rooms_at}
use Rattle.step_fits.specs.Positions.{BeginsNew, LocalFits}
use Rattle.step_fits.specs.Resets.{IsCacheBin}
use Rattle.step_fits.specs.Small.{KeepsUnused}

-- each turn keeps it, whatever it found; and to be sure of a slab, that has to be new where it is begun
abbrev pub TurnsKeepFits : Type 0
TurnsKeepFits = (k : Key) (seat : ℕ) (sure : Bool) (l : Local) (s : Seen) → LocalFits k seat sure l
    → (sure ≡ true → BeginsNew k l) → LocalFits k seat sure (learn l s).0

abbrev pub BeginsKeepFits : Type 0
BeginsKeepFits = (k : Key) (seat : ℕ) (sure : Bool) (l : Local) (request : Request) → LocalFits k seat sure l
    → LocalFits k seat sure (begun l request).0

abbrev pub ResetsKeepFits : Type 0
ResetsKeepFits = (k : Key) (seat : ℕ) (sure : Bool) (l : Local) (reset : Reset) → LocalFits k seat sure l
    → LocalFits k seat sure (reset_begun l reset).0

abbrev pub FreshLocalsFit : Type 0
FreshLocalsFit = (k : Key) (seat : ℕ) (sure : Bool) → SeatFits k seat → LocalFits k seat sure (made k seat)

-- a small object is granted in the call's slab, of which it is the next object, and which is of the class served
pub record IsNext (s : Kept) (slab class unit : ℕ) (kept : HeapSlab) : Type 0 where
  pub there : record_at s.records slab ≡ Some kept
  pub class' : kept.class ≡ class
  pub next : next_unit kept ≡ Some unit

abbrev pub GrantsAreInKeptSlabs : Type 0
GrantsAreInKeptSlabs = (k : Key) (seat : ℕ) (l : Local) (at : SmallAt) (unit : ℕ) → LocalFits k seat true l
    → l.at ≡ At.Small at → granting_small at ≡ Some unit
    → (kept : HeapSlab) × IsNext l.heap.slabs l.call.slab (class_of_served l.call.served) unit kept

-- a number is left for it
abbrev pub GrantsHaveNumbers : Type 0
GrantsHaveNumbers = (k : Key) (seat : ℕ) (sure : Bool) (l : Local) (unit : ℕ) → LocalFits k seat sure l
    → granting l.at ≡ Some unit
    → l.last < last_grant

-- what a heap keeps are slabs of the pool, each of one of its classes
pub record IsOfPool (k : Key) (slab : ℕ) (kept : HeapSlab) : Type 0 where
  pub slab' : kept.slab ≡ slab
  pub inside : slab < k.span
  pub class : kept.class < class_count

abbrev pub KeptSlabsAreOfThePool : Type 0
KeptSlabsAreOfThePool = (k : Key) (seat : ℕ) (sure : Bool) (l : Local) (slab : ℕ) (kept : HeapSlab)
    → LocalFits k seat sure l
    → record_at l.heap.slabs.records slab ≡ Some kept → IsOfPool k slab kept

-- a mailbox is taken by a get, by a heap that leaves, and by one that is reset
abbrev pub TakesMailAt : Stage → Type 0
TakesMailAt stage = (stage ≡ Stage.Getting) ⊎ ((stage ≡ Stage.Leaving)
    ⊎ ((class : ℕ) × (stage ≡ Stage.Resetting (ResetStage.Heap (Some class)))))

abbrev pub StagesOfMailboxes : Type 0
StagesOfMailboxes = (k : Key) (seat : ℕ) (sure : Bool) (l : Local) (at : BoxAt) → LocalFits k seat sure l
    → l.at ≡ At.Mailbox at
    → TakesMailAt l.call.stage

-- a slab that ends has no held object, but in a reset
abbrev pub EndedSlabsHoldNothing : Type 0
EndedSlabsHoldNothing = (k : Key) (seat : ℕ) (sure : Bool) (l : Local) (slab : ℕ) → LocalFits k seat sure l
    → l.at ≡ At.Small (SmallAt.Empty slab)
    → KeepsUnused l slab ⊎ ((stage : ResetStage) × (l.call.stage ≡ Stage.Resetting stage))

-- the slab cache has room for a slab that is cached
abbrev pub CachedSlabsHaveRoom : Type 0
CachedSlabsHaveRoom = (k : Key) (seat : ℕ) (sure : Bool) (l : Local) (slab : ℕ) → LocalFits k seat sure l
    → l.at ≡ At.Small (SmallAt.Cache slab) → length l.heap.cached.items < l.heap.cached.room

-- a get of a large block, and its undoing, are at a bin of the cache
abbrev pub IsGetAt : At → Type 0
IsGetAt (At.Get at) = ⊤
IsGetAt (At.Undo cause at) = ⊤
IsGetAt _ = ⊥

abbrev pub GetsAreOfBins : Type 0
GetsAreOfBins = (k : Key) (seat : ℕ) (sure : Bool) (l : Local) → SeatFits k seat → LocalFits k seat sure l
    → IsGetAt l.at
    → IsCacheBin (granules_of_served l.call.served)

-- and so is a cleanup
abbrev pub SweepsAreOfBins : Type 0
SweepsAreOfBins = (k : Key) (seat : ℕ) (sure : Bool) (l : Local) (at : SweepAt) → LocalFits k seat sure l
    → l.at ≡ At.Sweep at
    → IsCacheBin l.sweep.granules

-- orphans lie aside only while some are adopted or pushed back
abbrev pub NothingLiesAsideElsewhere : Type 0
NothingLiesAsideElsewhere = (k : Key) (seat : ℕ) (sure : Bool) (l : Local) → LocalFits k seat sure l
    → (rooms_at l.at).aside ≡ false
    → l.heap.spares.items ≡ []

-- the seats of a pool that can be made fit
abbrev pub SeatsOfPoolsFit : Type 0
SeatsOfPoolsFit = (policy : Policy) (limits : Limits) (seat : ℕ) → IsAllowed policy limits → seat < limits.seats
    → SeatFits (key_of policy limits) seat
