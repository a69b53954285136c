-- Calls of a seat by name, with what each of them granted and freed.
use Rattle.std.specs.Prelude.{ℕ, ◌*◌, List, [], ◌∷◌, Some}
use Rattle.pool_types.specs.declared.values.Answer.{Answer}
use Rattle.pool_types.specs.declared.values.Found.{Found}
use Rattle.pool_types.specs.declared.values.NullCause.{NullCause}
use Rattle.pool_types.specs.declared.values.Place.{Place}
use Rattle.pool_types.specs.declared.values.Request.{Request}
use Rattle.pool_words.specs.declared.words.Key.{Key}
use Rattle.word_codes.specs.declared.kinds.Kind.{Kind}
use Rattle.step_local.specs.declared.frames.Object.{Object}
use Rattle.step_runs.specs.declared.entry.Told.{Told}
use Rattle.path_laws.specs.Pays.{Paid, shown}

-- an object of the class for 64 bytes, by its unit and its mark
abbrev pub named_object : ℕ → ℕ → Object
named_object unit mark =
    record { number = 0; offset = unit * 8; unit = unit; mark = mark; kind = Kind.Slab 7 }

abbrev pub place_named : Key → Object → Place
place_named k object = record { pool = k.pool; region = object.number; offset = object.offset }

abbrev pub first_object : Object
first_object = named_object 32 1

abbrev pub moved_object : Object
moved_object = named_object 40 2

abbrev pub lost_object : Object
lost_object = named_object 48 3

abbrev pub told_of : Request → Answer → Told
told_of request answer = record { request = request; answer = answer }

-- one is got, kept, moved, lost to another thread while it is to be moved again, and one that is held is freed
abbrev pub named_tolds : Key → List Told
named_tolds k = told_of (Request.Malloc 64) (shown k first_object)
    ∷ told_of (Request.Realloc (Some (place_named k first_object)) 60) (shown k first_object)
    ∷ told_of (Request.Realloc (Some (place_named k first_object)) 64) (shown k moved_object)
    ∷ told_of (Request.Realloc (Some (place_named k moved_object)) 64) (Answer.NotHeld Found.NoGrant)
    ∷ told_of (Request.Free (Some (place_named k moved_object))) Answer.Freed
    ∷ told_of (Request.Malloc 64) (Answer.Null NullCause.RawFailed)
    ∷ []

-- what these calls granted and freed
abbrev pub NamedCallsPay : Type 0
NamedCallsPay =
    (k : Key) → Paid k (named_tolds k) (first_object ∷ moved_object ∷ lost_object ∷ [])
    (first_object ∷ lost_object ∷ moved_object ∷ [])
