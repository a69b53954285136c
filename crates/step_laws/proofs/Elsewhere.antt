-- No step but those at the office writes the office's lock, a region's word or a base.
use Rattle.std.proofs.Common.{◌≡◌, Bool, true, false, List, [], ◌∷◌, refl}
use Rattle.pool_words.specs.declared.actions.Action.{Action}
use Rattle.pool_words.specs.declared.actions.Action.TheVariants.{Add, Exchange, GiveOffice, Load, Nothing, Store}
use Rattle.pool_words.specs.declared.actions.Action.TheVariants.{Swap, TakeOffice}
use Rattle.pool_words.specs.declared.words.Word.{Word}
use Rattle.pool_words.specs.Words.{WordKind, kind_of_word, office_locks, regions, bases}
use Rattle.step_local.specs.Course.{course, course_at}
use Rattle.step_local.specs.declared.frames.At.{At}
use Rattle.step_local.specs.declared.frames.LargeAt.{LargeAt}
use Rattle.step_local.specs.declared.frames.Local.{Local}
use Rattle.step_local.specs.declared.frames.ResetAt.{ResetAt}
use Rattle.step_local.specs.declared.frames.SmallAt.{SmallAt}
use Rattle.office_laws.specs.Regions.{Task}
use Rattle.office_laws.specs.Steps.{IsOtherWord, IsOtherAction}
use Rattle.step_writes.specs.Kinds.{kinds_at, large_kinds, reset_kinds, small_kinds}
use Rattle.step_writes.specs.Writings.{has_kind, share_kind, writes_one_of, writing_of}
use Rattle.step_writes.proofs.CallerLemmas.{other_jobs_leave_kinds, other_kind}
use Rattle.step_laws.specs.Laws.{TurnsElsewhereLeaveTheOffice}
use Rattle.step_laws.specs.Tasks.{task_at}

-- the kinds of word that are the office's
abbrev pub office_kinds : List WordKind
office_kinds = office_locks ∷ regions ∷ bases ∷ []

-- the position is none of the office's
abbrev pub is_away : At → Bool
is_away (At.Office job at) = false
is_away _ = true

small_apart : (at : SmallAt) → share_kind office_kinds (small_kinds at) ≡ false
small_apart (SmallAt.Uncache slab) = refl
small_apart _ = refl

large_apart : (at : LargeAt) → share_kind office_kinds (large_kinds at) ≡ false
large_apart LargeAt.Tick = refl
large_apart _ = refl

reset_apart : (at : ResetAt) → share_kind office_kinds (reset_kinds at) ≡ false
reset_apart (ResetAt.Strip slab at) = refl
reset_apart _ = refl

apart : (at : At) → is_away at ≡ true → share_kind office_kinds (kinds_at at) ≡ false
apart (At.Office job at) e = absurd (cc)
apart (At.Small at) e = small_apart at
apart (At.Large at) e = large_apart at
apart (At.Reset at) e = reset_apart at
apart _ e = refl

-- at no other position but the office's does a step write a word of the office
pub else_at : (l : Local) (at : At) → is_away at ≡ true
    → writes_one_of office_kinds (writing_of (course_at l at)) ≡ false
else_at l at e = other_jobs_leave_kinds l at office_kinds (apart at e)

other_word : (w : Word) → has_kind (kind_of_word w) office_kinds ≡ false → IsOtherWord w
other_word w e = record {
  no_lock = other_kind (kind_of_word w) office_locks office_kinds e refl;
  no_region = other_kind (kind_of_word w) regions office_kinds e refl;
  no_base = other_kind (kind_of_word w) bases office_kinds e refl;
}

pub other_action : (action : Action) → writes_one_of office_kinds (writing_of action) ≡ false → IsOtherAction action
other_action (Load w) e = tt
other_action (Store w value) e = other_word w e
other_action (Swap w value) e = other_word w e
other_action (Exchange w from to) e = other_word w e
other_action (Add w value) e = other_word w e
other_action (TakeOffice job) e = tt
other_action GiveOffice e = tt
other_action Nothing e = tt

away_at : (l : Local) (at : At) → task_at l at ≡ Task.Away → is_away at ≡ true
away_at l (At.Office job at) e = absurd (cc)
away_at l _ e = refl

pub turns_elsewhere_leave_the_office : TurnsElsewhereLeaveTheOffice
turns_elsewhere_leave_the_office l e = other_action (course l) (else_at l l.at (away_at l l.at e))
