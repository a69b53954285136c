-- What a seat has noted of objects, by the stage of its call, and what its next step leaves of that.
use Rattle.std.specs.Prelude.{◌≡◌, ◌⊎◌, ◌++◌, ℕ, List, [], ◌∷◌, Bool, true, false, cond, ⊤}
use Rattle.pool_types.specs.declared.values.Request.{Request}
use Rattle.public_list.specs.declared.looking.LookNext.{LookNext}
use Rattle.public_list.specs.Looking.{look_learn}
use Rattle.object_laws.specs.Objects.{Note}
use Rattle.object_laws.specs.Parts.{note_of}
use Rattle.step_local.specs.declared.frames.At.{At}
use Rattle.step_local.specs.declared.frames.LargeAt.{LargeAt}
use Rattle.step_local.specs.declared.frames.Local.{Local}
use Rattle.step_local.specs.declared.frames.Object.{Object}
use Rattle.step_local.specs.declared.frames.SmallAt.{SmallAt}
use Rattle.step_local.specs.declared.frames.Stage.{Stage}
use Rattle.step_local.specs.Answers.{kind_got, next_mark, replaces}
use Rattle.step_local.specs.Objects.{look_call}

abbrev pub noted : Object → Note
noted object = note_of object.unit object.mark object.kind

abbrev pub all_noted : List Object → List Note
all_noted [] = []
all_noted (object ∷ objects) = noted object ∷ all_noted objects

-- while an object is got in another's place the other is noted, and from its grant on the new one before it
abbrev pub notes_by : Request → Object → Object → Stage → List Note
notes_by request old new Stage.Idle = []
notes_by request old new Stage.Looking = []
notes_by request old new Stage.Getting = cond (replaces request) (noted old ∷ []) []
notes_by request old new Stage.Ending = noted old ∷ []
notes_by request old new Stage.Replacing = noted new ∷ noted old ∷ []
notes_by request old new Stage.Undoing = noted new ∷ noted old ∷ []
notes_by request old new Stage.Leaving = []
notes_by request old new (Stage.Resetting stage) = []

abbrev pub notes_of : Local → List Note
notes_of l = notes_by l.call.request l.call.old l.call.new l.call.stage

-- a look that ends at a held object notes it, and so does each grant
abbrev pub looked_notes : LookNext → List Note
looked_notes (LookNext.Goes at) = []
looked_notes (LookNext.Held unit mark kind base) = note_of unit mark kind ∷ []
looked_notes LookNext.Differs = []
looked_notes (LookNext.NotHeld found) = []

abbrev pub granted_note : Local → ℕ → Note
granted_note l unit = note_of unit (next_mark l) (kind_got l.call l.call.served)

abbrev pub small_notes : Local → SmallAt → List Note
small_notes l (SmallAt.Private slab head below) = granted_note l head ∷ []
small_notes l (SmallAt.Rest slab unit) = granted_note l unit ∷ []
small_notes l _ = []

abbrev pub large_notes : Local → LargeAt → List Note
large_notes l (LargeAt.Grant unit) = granted_note l unit ∷ []
large_notes l _ = []

abbrev pub look_notes_at : Local → At → ℕ → List Note
look_notes_at l (At.Look at) found = looked_notes (look_learn (look_call l) at found)
look_notes_at l _ found = []

-- what the next step, a look, notes, if it finds this
abbrev pub look_notes : Local → ℕ → List Note
look_notes l found = look_notes_at l l.at found

abbrev pub notes_added_at : Local → At → ℕ → List Note
notes_added_at l (At.Look at) found = looked_notes (look_learn (look_call l) at found)
notes_added_at l (At.Small at) found = small_notes l at
notes_added_at l (At.Large at) found = large_notes l at
notes_added_at l _ found = []

-- the notes that the next step leaves, if it finds this, before any is forgotten: the newest is the first
abbrev pub notes_left : Local → ℕ → List Note
notes_left l found = notes_added_at l l.at found ++ notes_of l

-- notes that are left once the newest ones are forgotten
pub data IsTail (ms : List Note) : List Note → Type 0 where
  all : IsTail ms ms
  behind : {n : Note} {ns : List Note} → IsTail ms ns → IsTail ms (n ∷ ns)

abbrev pub IsAmong : Note → List Note → Type 0
IsAmong n [] = ⊥
IsAmong n (m ∷ ms) = (n ≡ m) ⊎ IsAmong n ms

-- a reset ends grants without a note
abbrev pub is_reset_at : At → Bool
is_reset_at (At.Reset at) = true
is_reset_at _ = false

abbrev pub AllAmong : List Object → List Note → Type 0
AllAmong [] ns = ⊤
AllAmong (object ∷ objects) ns = IsAmong (noted object) ns × AllAmong objects ns
