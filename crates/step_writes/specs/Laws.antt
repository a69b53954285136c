-- The laws of what steps write.
use Rattle.std.specs.Prelude.{◌≡◌, ℕ, true, false, List}
use Rattle.pool_words.specs.declared.words.Key.{Key}
use Rattle.pool_words.specs.declared.actions.Action.{Action}
use Rattle.pool_words.specs.Words.{WordKind}
use Rattle.word_laws.specs.Memory.{Mem, after}
use Rattle.step_local.specs.declared.frames.At.{At}
use Rattle.step_local.specs.declared.frames.Local.{Local}
use Rattle.step_local.specs.Course.{course_at}
use Rattle.step_writes.specs.Kinds.{kinds_at}
use Rattle.step_writes.specs.Positions.{writes_at}
use Rattle.step_writes.specs.Writings.{writing_of, has_kind, share_kind, writes_only, writes_one_of}
use Rattle.step_writes.specs.Writings.{WritesOther}

-- at every position the next step loads, takes or gives the office, rests, or writes a word of the position's kind, and
-- as the position says
abbrev pub EachStepWritesItsKind : Type 0
EachStepWritesItsKind = (l : Local) (at : At) → writing_of (course_at l at) ≡ writes_at at

-- what a position writes is of a kind that its job writes
abbrev pub JobsWriteTheirKinds : Type 0
JobsWriteTheirKinds = (at : At) → writes_only (kinds_at at) (writes_at at) ≡ true

-- an action leaves each word but the one that it writes
abbrev pub OtherWordsStand : Type 0
OtherWordsStand = (k : Key) (m : Mem) (which : WordKind) (i : ℕ) (action : Action) → WritesOther which i action
    → after k m action which i ≡ m which i

-- and so the words of the kinds that it does not write, at every index
abbrev pub OtherKindsStand : Type 0
OtherKindsStand = (k : Key) (m : Mem) (action : Action) (ours : List WordKind) (which : WordKind)
    → writes_one_of ours (writing_of action) ≡ false → has_kind which ours ≡ true → after k m action which ≡ m which

-- a step writes no word of the kinds that its job does not write
abbrev pub OtherJobsLeaveKinds : Type 0
OtherJobsLeaveKinds = (l : Local) (at : At) (ours : List WordKind) → share_kind ours (kinds_at at) ≡ false
    → writes_one_of ours (writing_of (course_at l at)) ≡ false
