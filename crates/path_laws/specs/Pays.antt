-- What a call that was answered has granted and freed, by what it asked and what it answered.
use Rattle.std.specs.Prelude.{◌≡◌, ◌⊎◌, ℕ, Bool, true, false, List, [], ◌∷◌, ◌++◌, Option, Some, None}
use Rattle.pool_types.specs.declared.values.Answer.{Answer}
use Rattle.pool_types.specs.declared.values.NullCause.{NullCause}
use Rattle.pool_types.specs.declared.values.Place.{Place}
use Rattle.pool_types.specs.declared.values.Request.{Request}
use Rattle.pool_words.specs.declared.words.Key.{Key}
use Rattle.word_codes.specs.declared.kinds.Kind.{Kind}
use Rattle.step_local.specs.declared.frames.Object.{Object}
use Rattle.step_local.specs.Answers.{got_of, replaces}
use Rattle.step_local.specs.Frames.{made}
use Rattle.step_runs.specs.declared.entry.Told.{Told}
use Rattle.step_runs.specs.Entries.{reset_object}

-- the place that a request names; none where it names none, or null
abbrev pub named_by : Request → Option Place
named_by (Request.Malloc size) = None
named_by (Request.Aligned size alignment) = None
named_by (Request.Realloc place size) = place
named_by (Request.AlignedRealloc place size alignment) = place
named_by (Request.Free place) = place
named_by (Request.Msize place) = place
named_by (Request.Identify place) = place
named_by Request.Exit = None

-- whether the request is to free an object
abbrev pub is_free : Request → Bool
is_free (Request.Free (Some place)) = true
is_free _ = false

-- what begins at this offset of the region of this number begins at the place, if one is named
abbrev pub BeginsBy : Key → Option Place → ℕ → ℕ → Type 0
BeginsBy k (Some place) number offset =
    (place.pool ≡ k.pool) × (number ≡ place.region) × (offset ≡ place.offset)
BeginsBy k None number offset = Unit {0}

abbrev pub BeginsAt : Key → Option Place → Object → Type 0
BeginsAt k place object = BeginsBy k place object.number object.offset

-- the answer that has the object
abbrev pub shown : Key → Object → Answer
shown k object = got_of (made k 0) object

-- nothing was granted and nothing freed
abbrev pub PaysNothing : List Object → List Object → Type 0
PaysNothing grants frees = (grants ≡ []) × (frees ≡ [])

-- an object was granted, and it is the answer
pub record PaysNew (k : Key) (answer : Answer) (grants frees : List Object) : Type 0 where
  pub new : Object
  pub shows : answer ≡ shown k new
  pub grants_are : grants ≡ new ∷ []
  pub frees_are : frees ≡ []

-- the object at the place that is named stays there, and is the answer
pub record PaysKept (k : Key) (request : Request) (answer : Answer) (grants frees : List Object) : Type 0 where
  pub old : Object
  pub begins : BeginsAt k (named_by request) old
  pub shows : answer ≡ shown k old
  pub nothing : PaysNothing grants frees

-- the object at the place that is named was freed, after another was granted, which is the answer
pub record PaysMoved (k : Key) (request : Request) (answer : Answer) (grants frees : List Object) : Type 0 where
  pub old : Object
  pub new : Object
  pub begins : BeginsAt k (named_by request) old
  pub shows : answer ≡ shown k new
  pub grants_are : grants ≡ new ∷ []
  pub frees_are : frees ≡ old ∷ []

-- the object at the place that is named was freed, by a request that asks for that
pub record PaysFreed (k : Key) (asked : Bool) (request : Request) (grants frees : List Object) : Type 0 where
  pub asks : asked ≡ true
  pub old : Object
  pub begins : BeginsAt k (named_by request) old
  pub grants_are : grants ≡ []
  pub frees_are : frees ≡ old ∷ []

-- An object was granted in vain, since the one that it was to replace was no longer held. It was freed again, but
-- where another call had freed it meanwhile.
pub record PaysLost (grants frees : List Object) : Type 0 where
  pub new : Object
  pub grants_are : grants ≡ new ∷ []
  pub frees_are : (frees ≡ []) ⊎ (frees ≡ new ∷ [])

-- an object is the answer
abbrev pub PaysGot : Bool → Key → Request → Answer → List Object → List Object → Type 0
PaysGot false k request answer grants frees = PaysNew k answer grants frees
PaysGot true k request answer grants frees =
    PaysKept k request answer grants frees ⊎ PaysMoved k request answer grants frees

-- null is the answer
abbrev pub PaysNull : NullCause → Key → Request → List Object → List Object → Type 0
PaysNull NullCause.FreedByRealloc k request grants frees = PaysFreed k (replaces request) request grants frees
PaysNull NullCause.BadRequest k request grants frees = PaysNothing grants frees
PaysNull NullCause.NumbersSpent k request grants frees = PaysNothing grants frees
PaysNull (NullCause.TooLarge granules) k request grants frees = PaysNothing grants frees
PaysNull NullCause.RawFailed k request grants frees = PaysNothing grants frees
PaysNull (NullCause.SpanFull asked greatest) k request grants frees = PaysNothing grants frees
PaysNull (NullCause.RegionsFull out next) k request grants frees = PaysNothing grants frees
PaysNull (NullCause.NoFit looks) k request grants frees = PaysNothing grants frees

-- nothing was held at the place
abbrev pub PaysNotHeld : Bool → List Object → List Object → Type 0
PaysNotHeld false grants frees = PaysNothing grants frees
PaysNotHeld true grants frees = PaysNothing grants frees ⊎ PaysLost grants frees

-- what a call has granted and freed that asked this and answered this
abbrev pub Pays : Key → Request → Answer → List Object → List Object → Type 0
Pays k request (Answer.Got place usable grant) grants frees =
    PaysGot (replaces request) k request (Answer.Got place usable grant) grants frees
Pays k request (Answer.Null cause) grants frees = PaysNull cause k request grants frees
Pays k request Answer.Freed grants frees = PaysFreed k (is_free request) request grants frees
Pays k request Answer.False grants frees = PaysNothing grants frees
Pays k request (Answer.Size bytes) grants frees = PaysNothing grants frees
Pays k request (Answer.Pool pool) grants frees = PaysNothing grants frees
Pays k request Answer.NoPool grants frees = PaysNothing grants frees
Pays k request (Answer.NotHeld found) grants frees = PaysNotHeld (replaces request) grants frees
Pays k request Answer.Exited grants frees = PaysNothing grants frees

-- a reset knows an object that it ends by its unit and its mark
pub record IsEndedByReset (object : Object) : Type 0 where
  pub unit : ℕ
  pub mark : ℕ
  pub kind : Kind
  pub object_is : object ≡ reset_object unit mark kind

-- What a seat has granted and freed whose calls were told so: what each of them has, one after another, and what
-- resets have ended beside them.
pub data Paid (k : Key) : List Told → List Object → List Object → Type 0 where
  nothing_yet : Paid k [] [] []
  pays : {tolds : List Told} {grants frees : List Object} → Paid k tolds grants frees
      → (told : Told) (more fewer : List Object) → Pays k told.request told.answer more fewer
      → Paid k (tolds ++ told ∷ []) (grants ++ more) (frees ++ fewer)
  resets : {tolds : List Told} {grants frees : List Object} → Paid k tolds grants frees
      → (object : Object) → IsEndedByReset object → Paid k tolds grants (frees ++ object ∷ [])
