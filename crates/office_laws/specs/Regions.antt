-- Which regions the words say, which the office has a record of, and what the seat at the office has read.
use Rattle.std.specs.Prelude.{◌≡◌, ◌≢◌, ◌⊎◌, ℕ, ◌+◌, ◌<◌, Bool, true, false, Option, Some, None, ⊤}
use Rattle.pool_types.specs.Limits.{most_regions}
use Rattle.pool_types.specs.declared.policy.RegionRec.{RegionRec}
use Rattle.pool_words.specs.declared.actions.OfficeJob.{OfficeJob}
use Rattle.pool_words.specs.Words.{office_locks, regions, bases}
use Rattle.word_codes.specs.declared.region_words.RegionWord.{RegionWord}
use Rattle.word_codes.specs.Locks.{holder_of}
use Rattle.word_codes.specs.Places.{slot_of}
use Rattle.word_codes.specs.RegionWords.{region_of, has_granule, FitsRegion}
use Rattle.region_steps.specs.declared.office.OfficeAt.{OfficeAt}
use Rattle.region_steps.specs.declared.office.OfficeEnd.{OfficeEnd}
use Rattle.region_steps.specs.Office.{region_word_of}
use Rattle.word_laws.specs.Memory.{Mem}

-- what a seat has to do at the office
pub data Task : Type 0 where
  Away : Task
  At : (job : OfficeJob) (at : OfficeAt) → Task

pub record Shadow : Type 0 where
  -- of a slot: the region that its words say, and the one that the office has a record of
  pub live : ℕ → Option RegionRec
  pub out : ℕ → Option RegionRec
  -- from here on are the numbers that no region had
  pub counter : ℕ

pub record Core : Type 0 where
  pub lock : Option ℕ
  pub words : ℕ → RegionWord
  pub bases : ℕ → ℕ
  pub tasks : ℕ → Task

abbrev pub core_in : Mem → (ℕ → Task) → Core
core_in m tasks = record {
  lock = holder_of (m office_locks 0);
  words = λ s. region_of (m regions s);
  bases = m bases;
  tasks = tasks;
}

-- a seat has the office from its winning the lock to its freeing it
abbrev pub HoldsAt : OfficeAt → Type 0
HoldsAt OfficeAt.Lock = ⊥
HoldsAt (OfficeAt.Region slot given) = ⊤
HoldsAt (OfficeAt.Take given) = ⊤
HoldsAt (OfficeAt.Base one) = ⊤
HoldsAt (OfficeAt.Enter one) = ⊤
HoldsAt (OfficeAt.WallSize one) = ⊤
HoldsAt (OfficeAt.WallLeft one) = ⊤
HoldsAt (OfficeAt.FirstSize one) = ⊤
HoldsAt (OfficeAt.LastLeft one) = ⊤
HoldsAt (OfficeAt.Remove given) = ⊤
HoldsAt (OfficeAt.Back end) = ⊤
HoldsAt (OfficeAt.Unlock end) = ⊤

abbrev pub Holds : Task → Type 0
Holds Task.Away = ⊥
Holds (Task.At job at) = HoldsAt at

-- the office's word names a seat exactly where the seat's local says that it is there
pub record LockFits (lock : Option ℕ) (tasks : ℕ → Task) : Type 0 where
  pub held : (seat : ℕ) → Holds (tasks seat) → lock ≡ Some seat
  pub named : (seat : ℕ) → lock ≡ Some seat → Holds (tasks seat)

-- a slot's words say its region
abbrev pub WordFits : Option RegionRec → RegionWord → ℕ → Type 0
WordFits None word base = word.live ≡ false
WordFits (Some one) word base = (word ≡ region_word_of one) × (base ≡ one.region.base)

-- a region that has come, and is not in its slot's words yet
abbrev pub coming_at : OfficeAt → Option RegionRec
coming_at OfficeAt.Lock = None
coming_at (OfficeAt.Region slot given) = None
coming_at (OfficeAt.Take given) = None
coming_at (OfficeAt.Base one) = Some one
coming_at (OfficeAt.Enter one) = Some one
coming_at (OfficeAt.WallSize one) = None
coming_at (OfficeAt.WallLeft one) = None
coming_at (OfficeAt.FirstSize one) = None
coming_at (OfficeAt.LastLeft one) = None
coming_at (OfficeAt.Remove given) = None
coming_at (OfficeAt.Back end) = None
coming_at (OfficeAt.Unlock end) = None

abbrev pub coming : Task → Option RegionRec
coming Task.Away = None
coming (Task.At job at) = coming_at at

abbrev pub IsEntered : Shadow → (ℕ → Task) → ℕ → RegionRec → Type 0
IsEntered g tasks s one = (g.live s ≡ Some one) ⊎ ((seat : ℕ) × (coming (tasks seat) ≡ Some one))

-- the regions of the words are those of the office's records, but for the one that comes
pub record RecordsFit (g : Shadow) (tasks : ℕ → Task) : Type 0 where
  pub known : (s : ℕ) (one : RegionRec) → g.live s ≡ Some one → g.out s ≡ Some one
  pub entered : (s : ℕ) (one : RegionRec) → g.out s ≡ Some one → IsEntered g tasks s one

-- no granule and no wall of one is the other's
abbrev pub AreApart : RegionRec → RegionRec → Type 0
AreApart a b = (a.first + a.granules < b.first) ⊎ (b.first + b.granules < a.first)

pub record RegionFits (counter s : ℕ) (one : RegionRec) : Type 0 where
  pub slot : slot_of one.number ≡ s
  pub number : one.number < counter
  pub fits : FitsRegion (region_word_of one)

pub record OutFits (out : ℕ → Option RegionRec) (counter : ℕ) : Type 0 where
  pub each : (s : ℕ) (one : RegionRec) → out s ≡ Some one → RegionFits counter s one
  pub apart : (s other : ℕ) (a b : RegionRec) → s ≢ other → out s ≡ Some a → out other ≡ Some b → AreApart a b

-- whether a slot's word is that of the region that a seat gives back
abbrev pub gives : OfficeJob → RegionWord → Bool
gives (OfficeJob.Obtain granules) word = false
gives (OfficeJob.Give first) word = has_granule word first

-- what a seat found in the slots below this one stays so while it has the office
pub record IsFound (job : OfficeJob) (words : ℕ → RegionWord) (bound : ℕ) (given : Option ℕ) : Type 0 where
  pub some : (s : ℕ) → given ≡ Some s → (s < bound) × (gives job (words s) ≡ true)
  pub none : given ≡ None → (s : ℕ) → s < bound → gives job (words s) ≡ false

pub record IsComing (g : Shadow) (one : RegionRec) : Type 0 where
  pub out : g.out (slot_of one.number) ≡ Some one
  pub none : g.live (slot_of one.number) ≡ None

abbrev pub IsIn : Shadow → RegionRec → Type 0
IsIn g one = g.live (slot_of one.number) ≡ Some one

abbrev pub EndFits : Shadow → OfficeEnd → Type 0
EndFits g (OfficeEnd.Obtained one) = IsIn g one
EndFits g (OfficeEnd.Refused error) = ⊤
EndFits g OfficeEnd.Given = ⊤

-- what a seat relies on at its next step
abbrev pub OfficeFits : Shadow → Core → OfficeJob → OfficeAt → Type 0
OfficeFits g s job OfficeAt.Lock = ⊤
OfficeFits g s job (OfficeAt.Region slot given) = (slot < most_regions) × IsFound job s.words slot given
OfficeFits g s job (OfficeAt.Take given) = IsFound job s.words most_regions given
OfficeFits g s job (OfficeAt.Base one) = IsComing g one
OfficeFits g s job (OfficeAt.Enter one) = IsComing g one × (s.bases (slot_of one.number) ≡ one.region.base)
OfficeFits g s job (OfficeAt.WallSize one) = IsIn g one
OfficeFits g s job (OfficeAt.WallLeft one) = IsIn g one
OfficeFits g s job (OfficeAt.FirstSize one) = IsIn g one
OfficeFits g s job (OfficeAt.LastLeft one) = IsIn g one
OfficeFits g s job (OfficeAt.Remove given) = IsFound job s.words most_regions given
OfficeFits g s job (OfficeAt.Back end) = EndFits g end
OfficeFits g s job (OfficeAt.Unlock end) = EndFits g end

abbrev pub TaskFits : Shadow → Core → Task → Type 0
TaskFits g s Task.Away = ⊤
TaskFits g s (Task.At job at) = OfficeFits g s job at

pub record OfficeGood (g : Shadow) (s : Core) : Type 0 where
  pub lock_fits : LockFits s.lock s.tasks
  pub words_fit : (n : ℕ) → WordFits (g.live n) (s.words n) (s.bases n)
  pub records_fit : RecordsFit g s.tasks
  pub out_fits : OutFits g.out g.counter
  pub tasks_fit : (seat : ℕ) → TaskFits g s (s.tasks seat)
