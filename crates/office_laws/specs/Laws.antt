-- The laws of the office.
use Rattle.std.specs.Prelude.{slice_index_or, List, [], ◌∷◌, ◌++◌, length, ◌≡◌, ℕ, ◌+◌, ◌<◌, ◌≤◌, ◌⊎◌, true, false}
use Rattle.std.specs.Prelude.{Some}
use Rattle.std.specs.List.{AllPairs}
use Rattle.pool_types.specs.Limits.{region_numbers, most_span}
use Rattle.pool_types.specs.declared.policy.RegionRec.{RegionRec}
use Rattle.regions.specs.Offices as offices
use Rattle.regions.specs.Offices.{IsWellPlaced}
use Rattle.pool_words.specs.declared.words.Key.{Key}
use Rattle.pool_words.specs.declared.actions.OfficeJob.{OfficeJob}
use Rattle.pool_words.specs.Words.{office_locks, regions, bases}
use Rattle.word_codes.specs.Locks.{holder_of}
use Rattle.word_codes.specs.RegionWords.{region_of, has_granule}
use Rattle.region_steps.specs.declared.office.OfficeAt.{OfficeAt}
use Rattle.region_steps.specs.Office.{region_word_of}
use Rattle.word_laws.specs.Memory.{Mem, fresh}
use Rattle.office_laws.specs.Regions.{Task, Shadow, core_in, Holds, WordFits, OutFits, OfficeGood}
use Rattle.office_laws.specs.Steps.{IsFresh, OfficeStep, OfficeRun}
use Rattle.office_laws.specs.Named.{no_regions, named_regions, named_office}

-- each step of each seat keeps what holds of the office
abbrev pub StepsKeepOffice : Type 0
StepsKeepOffice =
    (k : Key) (g : Shadow) (m : Mem) (tasks : ℕ → Task) (h : Shadow) (m' : Mem) (tasks' : ℕ → Task)
    → OfficeGood g (core_in m tasks) → OfficeStep k g m tasks h m' tasks' → OfficeGood h (core_in m' tasks')

abbrev pub RunsKeepOffice : Type 0
RunsKeepOffice =
    (k : Key) (g : Shadow) (m : Mem) (tasks : ℕ → Task) (h : Shadow) (m' : Mem) (tasks' : ℕ → Task)
    → OfficeGood g (core_in m tasks) → OfficeRun k g m tasks h m' tasks' → OfficeGood h (core_in m' tasks')

-- the office is one seat's
pub record IsAtOffice (m : Mem) (tasks : ℕ → Task) (seat : ℕ) : Type 0 where
  pub named : holder_of (m office_locks 0) ≡ Some seat
  pub alone : (other : ℕ) → Holds (tasks other) → other ≡ seat

pub record SameRegions (m m' : Mem) : Type 0 where
  pub words : m' regions ≡ m regions
  pub bases' : m' bases ≡ m bases

-- a step leaves each region's words, or is one of the seat that is at the office, alone
abbrev pub OnlyTheOfficeChangesRegions : Type 0
OnlyTheOfficeChangesRegions =
    (k : Key) (g : Shadow) (m : Mem) (tasks : ℕ → Task) (h : Shadow) (m' : Mem) (tasks' : ℕ → Task)
    → OfficeGood g (core_in m tasks) → OfficeStep k g m tasks h m' tasks'
    → SameRegions m m' ⊎ ((seat : ℕ) × IsAtOffice m tasks seat)

-- no index is in two regions, their walls with them
abbrev pub HasIndex : RegionRec → ℕ → Type 0
HasIndex one e = (one.first ≤ e) × (e ≤ one.first + one.granules)

abbrev pub GranulesHaveOneRegion : Type 0
GranulesHaveOneRegion =
    (g : Shadow) (m : Mem) (tasks : ℕ → Task) (s other e : ℕ) (a b : RegionRec) → OfficeGood g (core_in m tasks)
    → g.live s ≡ Some a → g.live other ≡ Some b → HasIndex a e → HasIndex b e → s ≡ other

-- a number that a region had is no later region's
abbrev pub NumbersNeverReturn : Type 0
NumbersNeverReturn =
    (k : Key) (g : Shadow) (m : Mem) (tasks : ℕ → Task) (h : Shadow) (m' : Mem) (tasks' : ℕ → Task) (s : ℕ)
    (one : RegionRec) → OfficeRun k g m tasks h m' tasks' → h.out s ≡ Some one → one.number < g.counter
    → g.out s ≡ Some one

-- the region that a seat is to give back is in the slot that it found, with the block's granule
pub record FindsGiven (g : Shadow) (s first : ℕ) : Type 0 where
  pub one : RegionRec
  pub live : g.live s ≡ Some one
  pub has : has_granule (region_word_of one) first ≡ true

abbrev pub GivenRegionsAreFound : Type 0
GivenRegionsAreFound =
    (g : Shadow) (m : Mem) (tasks : ℕ → Task) (seat first s : ℕ) → OfficeGood g (core_in m tasks)
    → tasks seat ≡ Task.At (OfficeJob.Give first) (OfficeAt.Remove (Some s)) → FindsGiven g s first

-- where nobody is at the office, it has a record of just the regions that the words say
pub record IsAtHome (g : Shadow) (m : Mem) (s : ℕ) : Type 0 where
  pub same : g.out s ≡ g.live s
  pub words : WordFits (g.out s) (region_of (m regions s)) (m bases s)

abbrev pub RecordsAtHomeAreThoseOfTheWords : Type 0
RecordsAtHomeAreThoseOfTheWords =
    (g : Shadow) (m : Mem) (tasks : ℕ → Task) (s : ℕ) → OfficeGood g (core_in m tasks) → m office_locks 0 ≡ 0
    → IsAtHome g m s

-- a granule is outside where no region of the words has it
abbrev pub HasGranule : RegionRec → ℕ → Type 0
HasGranule one e = (one.first ≤ e) × (e < one.first + one.granules)

abbrev pub IsOutside : Shadow → ℕ → Type 0
IsOutside g e = (s : ℕ) (one : RegionRec) → g.live s ≡ Some one → HasGranule one e → ⊥

abbrev pub NoWordHas : Mem → ℕ → Type 0
NoWordHas m e = (s : ℕ) → has_granule (region_of (m regions s)) e ≡ false

-- and that is so exactly where no slot's word says that its region has it
pub record IsSeenOutside (g : Shadow) (m : Mem) (e : ℕ) : Type 0 where
  pub outside : NoWordHas m e → IsOutside g e
  pub seen : IsOutside g e → NoWordHas m e

abbrev pub GranulesAreOutsideWhereNoWordHasThem : Type 0
GranulesAreOutsideWhereNoWordHasThem =
    (g : Shadow) (m : Mem) (tasks : ℕ → Task) (e : ℕ) → OfficeGood g (core_in m tasks) → IsSeenOutside g m e

-- what a seat at the office has loaded of regions stays: a step that is not its own leaves them
abbrev pub LoadedRegionsStay : Type 0
LoadedRegionsStay =
    (k : Key) (g : Shadow) (m : Mem) (tasks : ℕ → Task) (h : Shadow) (m' : Mem) (tasks' : ℕ → Task) (seat : ℕ)
    → OfficeGood g (core_in m tasks) → OfficeStep k g m tasks h m' tasks' → Holds (tasks seat)
    → tasks' seat ≡ tasks seat → SameRegions m m'

-- in a new pool no region is
abbrev pub FreshOfficesHaveNoRegions : Type 0
FreshOfficesHaveNoRegions = OfficeGood no_regions (core_in fresh (λ seat. Task.Away))

-- a region in its slot, and a seat at the office
abbrev pub NamedOfficeStands : Type 0
NamedOfficeStands = OfficeGood named_regions named_office

-- what the office's contract says of a region that it obtained, where it had the records of the regions out: the number
-- is from the counter on, the region is well placed, and no two of the records, that of the region with them, touch
pub record IsObtained (g : Shadow) (records : List RegionRec) (span counter : ℕ) (one : RegionRec) : Type 0 where
  pub known : (s : ℕ) (other : RegionRec) → g.out s ≡ Some other
      → (i : ℕ) × (i < length records) × (slice_index_or records i other ≡ other)
  pub from : g.counter ≤ one.number
  pub numbers : counter ≤ region_numbers
  pub small : span ≤ most_span
  pub placed : IsWellPlaced span counter one
  pub pairs : AllPairs offices.AreApart (records ++ one ∷ [])

-- such a region may come
abbrev pub ObtainedRegionsAreFresh : Type 0
ObtainedRegionsAreFresh =
    (g : Shadow) (records : List RegionRec) (span counter : ℕ) (one : RegionRec) → OutFits g.out g.counter
    → IsObtained g records span counter one → IsFresh g one
