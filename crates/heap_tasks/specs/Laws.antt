-- The laws of what each turn makes of a heap, of the last grant's number, and of what was noted of objects.
use Rattle.std.specs.Prelude.{◌≡◌, ℕ, ◌+◌, ◌++◌, ◌^◌, ◌<◌, false, List, ◌∷◌}
use Rattle.pool_types.specs.Sums.{capped}
use Rattle.pool_types.specs.declared.values.Request.{Request}
use Rattle.pool_words.specs.declared.actions.Seen.{Seen}
use Rattle.pool_words.specs.declared.words.Key.{Key}
use Rattle.pool_words.specs.Actions.{word_seen}
use Rattle.public_list.specs.declared.ending.EndCall.{EndCall}
use Rattle.public_list.specs.declared.ending.EndNext.{EndNext}
use Rattle.public_list.specs.declared.joining.JoinNext.{JoinNext}
use Rattle.public_list.specs.declared.looking.LookCall.{LookCall}
use Rattle.public_list.specs.declared.looking.LookNext.{LookNext}
use Rattle.public_list.specs.declared.posting.PostCall.{PostCall}
use Rattle.public_list.specs.declared.posting.PostNext.{PostNext}
use Rattle.word_codes.specs.declared.kinds.Kind.{Kind}
use Rattle.word_laws.specs.Memory.{Mem, put}
use Rattle.slab_laws.specs.Books.{Book}
use Rattle.object_laws.specs.Objects.{Core, Locals, Note, Shadow}
use Rattle.object_laws.specs.Parts.{NoteFits, NotesFit, note_of}
use Rattle.object_laws.specs.Rows.{ended, grant_word, granted, joined_as, looked, posted_as}
use Rattle.object_laws.specs.Steps.{ObjectRun}
use Rattle.step_local.specs.declared.frames.Local.{Local}
use Rattle.step_local.specs.declared.frames.Reset.{Reset}
use Rattle.step_local.specs.Answers.{end_call, ended_object, next_mark}
use Rattle.step_local.specs.Frames.{made}
use Rattle.step_local.specs.Getting.{begun, reset_begun}
use Rattle.step_local.specs.Learn.{learn}
use Rattle.step_runs.specs.Entries.{gain_of, loss_of}
use Rattle.heap_tasks.specs.Heaps.{HeapIs, cached_left, cached_of, kept_left, kept_of, last_left, last_of}
use Rattle.heap_tasks.specs.Notes.{AllAmong, IsAmong, IsTail, all_noted, is_reset_at, look_notes, looked_notes, noted}
use Rattle.heap_tasks.specs.Notes.{notes_left, notes_of}
use Rattle.heap_tasks.specs.Stages.{IsEnding, StageFits}

abbrev pub TurnsChangeHeaps : Type 0
TurnsChangeHeaps =
    (l : Local) (s : Seen) → HeapIs (learn l s).0 (kept_left l (word_seen s)) (cached_left l) (last_left l)

-- a call or a reset that begins changes nothing of them
abbrev pub SameHeap : Local → Local → Type 0
SameHeap l next = HeapIs next (kept_of l) (cached_of l) (last_of l)

pub record BeginLeavesHeap (l : Local) : Type 0 where
  pub begins : (request : Request) → SameHeap l (begun l request).0
  pub resets : (reset : Reset) → SameHeap l (reset_begun l reset).0

abbrev pub BeginsLeaveHeaps : Type 0
BeginsLeaveHeaps = (l : Local) → BeginLeavesHeap l

-- stages
abbrev pub TurnsKeepStages : Type 0
TurnsKeepStages = (l : Local) (s : Seen) → StageFits l → StageFits (learn l s).0

pub record BeginKeepsStage (l : Local) : Type 0 where
  pub begins : (request : Request) → StageFits (begun l request).0
  pub resets : (reset : Reset) → StageFits (reset_begun l reset).0

abbrev pub BeginsKeepStages : Type 0
BeginsKeepStages = (l : Local) → StageFits l → BeginKeepsStage l

abbrev pub FreshStagesFit : Type 0
FreshStagesFit = (k : Key) (seat : ℕ) → StageFits (made k seat)

-- a turn leaves the notes that the rows leave, but for the newest of them that are forgotten
abbrev pub TurnsMoveNotes : Type 0
TurnsMoveNotes = (l : Local) (s : Seen) → StageFits l → IsTail (notes_of (learn l s).0) (notes_left l (word_seen s))

pub record BeginNotesNothing (l : Local) : Type 0 where
  pub begins : (request : Request) → notes_of (begun l request).0 ≡ notes_of l
  pub resets : (reset : Reset) → notes_of (reset_begun l reset).0 ≡ notes_of l

abbrev pub BeginsNoteNothing : Type 0
BeginsNoteNothing = (l : Local) → StageFits l → BeginNotesNothing l

-- what is granted is noted, and else what a look finds held
abbrev pub GrantsAreNoted : Type 0
GrantsAreNoted =
    (l : Local) (found : ℕ) → notes_left l found ≡ all_noted (gain_of l) ++ (look_notes l found ++ notes_of l)

-- the object whose grant is ended was noted, and is noted until all that follows is done
pub record EndIsOfNote (l : Local) : Type 0 where
  pub ended : IsEnding l.call.stage → IsAmong (noted (ended_object l)) (notes_of l)
  pub losses : (found : ℕ) → StageFits l → is_reset_at l.at ≡ false → AllAmong (loss_of l found) (notes_of l)

abbrev pub EndsAreOfNotes : Type 0
EndsAreOfNotes = (l : Local) → EndIsOfNote l

-- so it fits, as the start of the end of a grant wants it, where all notes fit
abbrev pub EndedNotesFit : Type 0
EndedNotesFit = (l : Local) (g : Shadow) (s : Core) → IsEnding l.call.stage → NotesFit g s (notes_of l)
    → NoteFits g s (note_of (end_call l).unit (end_call l).mark (ended_object l).kind)

-- the rows of looks and grants note these, and no other row notes anything
pub record RowsLeaveNotesOf (seat : ℕ) (locals : Locals) : Type 0 where
  pub looks : (call : LookCall) (next : LookNext) (other : ℕ)
      → (looked seat call next locals).notes other
      ≡ put locals.notes seat (looked_notes next ++ locals.notes seat) other
  pub grants : (unit : ℕ) (kind : Kind) (book : Book)
      → (granted seat unit kind book locals).notes
      ≡ put locals.notes seat (note_of unit (grant_word locals seat) kind ∷ locals.notes seat)
  pub ends : (call : EndCall) (kind : Kind) (next : EndNext)
      → (ended seat call kind next locals).notes ≡ locals.notes
  pub posts : (call : PostCall) (next : PostNext) → (posted_as seat call next locals).notes ≡ locals.notes
  pub joins : (slab : ℕ) (next : JoinNext) → (joined_as seat slab next locals).notes ≡ locals.notes

abbrev pub RowsLeaveNotes : Type 0
RowsLeaveNotes = (seat : ℕ) (locals : Locals) → RowsLeaveNotesOf seat locals

-- while numbers of grants are left, the mark that is written and the number that is counted are those of the rows
pub record IsNextGrant (l : Local) (locals : Locals) : Type 0 where
  pub word : next_mark l ≡ grant_word locals l.seat
  pub number : capped (last_of l + 1) ≡ locals.lasts l.seat + 1

abbrev pub GrantsAreNumbered : Type 0
GrantsAreNumbered = (l : Local) (locals : Locals) → locals.lasts l.seat ≡ last_of l → last_of l + 1 < 2 ^ 55
    → IsNextGrant l locals

-- to a tail of a seat's notes steps of objects lead, which forget the others
abbrev pub with_notes : ℕ → List Note → Locals → Locals
with_notes seat ns locals = record locals { notes = put locals.notes seat ns }

abbrev pub TailsAreForgotten : Type 0
TailsAreForgotten = (k : Key) (g : Shadow) (m : Mem) (locals : Locals) (seat : ℕ) (ns : List Note)
    → IsTail ns (locals.notes seat) → ObjectRun k g m locals g m (with_notes seat ns locals)
