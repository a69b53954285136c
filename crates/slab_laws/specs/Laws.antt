-- The laws of slabs.
use Rattle.std.specs.Prelude.{◌≡◌, ℕ, ◌^◌, ◌<◌, List, [], ◌∷◌}
use Rattle.pool_words.specs.declared.words.Key.{Key}
use Rattle.pool_words.specs.Words.{headers}
use Rattle.heap_slabs.specs.declared.records.HeapSlab.{HeapSlab}
use Rattle.size_classes.specs.Classes.{class_objects}
use Rattle.word_codes.specs.Places.{slab_granule}
use Rattle.heap_slabs.specs.Records.{begun, unit_of, of_header}
use Rattle.slab_laws.specs.Books.{IsLeft, record_of}
use Rattle.slab_laws.specs.OneSlab.{IsSlabOf, OneSlab}
use Rattle.slab_laws.specs.Heaps.{Slabs, slab_of, SlabsGood}
use Rattle.slab_laws.specs.Steps.{SlabStep, SlabRun}
use Rattle.chain_laws.specs.Named.{ten_key}
use Rattle.slab_laws.specs.Named.{fresh_slabs, second_slab, named_slabs}

-- a slab's record and its private objects say what taking, freeing and joining give and leave
abbrev pub OneSlabByItsLists : Type 0
OneSlabByItsLists = (r : HeapSlab) (privates : List ℕ) → IsSlabOf r privates → OneSlab r privates

-- each step keeps what holds of slabs
abbrev pub StepsKeepSlabs : Type 0
StepsKeepSlabs = (k : Key) (s later : Slabs) → SlabsGood k s → SlabStep k s later → SlabsGood k later

abbrev pub RunsKeepSlabs : Type 0
RunsKeepSlabs = (k : Key) (s later : Slabs) → SlabsGood k s → SlabRun k s later → SlabsGood k later

-- the header of a slab that nobody keeps gives its record
abbrev pub HeadersGiveRecords : Type 0
HeadersGiveRecords =
    (k : Key) (s : Slabs) (e : ℕ) → SlabsGood k s → IsLeft (s.book.keeper e)
    → of_header e (s.book.classes e) (s.mem headers e) ≡ record_of s.book e

-- a slab of which nothing was handed out has no private object
abbrev pub BegunSlabsHaveNoObjects : Type 0
BegunSlabsHaveNoObjects = (e class : ℕ) → e < 2 ^ 32 → IsSlabOf (begun e class) []

-- the objects of a slab begin in it, each at another unit
pub record UnitsFit (e class i : ℕ) : Type 0 where
  pub inside : slab_of (unit_of e class i) ≡ e
  pub once : (j : ℕ) → j < class_objects class → unit_of e class i ≡ unit_of e class j → i ≡ j

abbrev pub ObjectsBeginInTheirSlab : Type 0
ObjectsBeginInTheirSlab =
    (e class i : ℕ) → e < 2 ^ 32 → slab_granule e ≡ e → i < class_objects class → UnitsFit e class i

-- in a new pool no slab is
abbrev pub FreshPoolsHaveNoSlabs : Type 0
FreshPoolsHaveNoSlabs = (k : Key) → k.span < 2 ^ 32 → SlabsGood k (fresh_slabs k)

-- a slab in use, an orphan, a cached slab and a large block
pub record IsNamed : Type 0 where
  pub good : SlabsGood ten_key named_slabs
  pub slab : IsSlabOf second_slab (unit_of 2 4 0 ∷ [])

abbrev pub NamedSlabsStand : Type 0
NamedSlabsStand = IsNamed
