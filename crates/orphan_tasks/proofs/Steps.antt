-- The next step of a seat is a row of orphans, or on none of their words.
use Rattle.std.proofs.Common.{◌≡◌, ◌≢◌, ℕ, Bool, true, false, eqb, List, [], ◌∷◌, refl, sym, ap, ⊎_elim}
use Rattle.std.proofs.lemmas.Bool.Decides.{eqb_tells}
use Rattle.std.specs.Prelude.{Option, ◌||◌}
use Rattle.pool_words.specs.declared.actions.Action.{Action}
use Rattle.pool_words.specs.declared.actions.Action.TheVariants.{Load, Store, Swap, Exchange, Add, TakeOffice}
use Rattle.pool_words.specs.declared.actions.Action.TheVariants.{GiveOffice, Nothing}
use Rattle.pool_words.specs.Words.{WordKind, kind_of_word, number, owns, headers, orphans}
use Rattle.heap_slabs.specs.declared.records.HeapSlab.{HeapSlab}
use Rattle.public_list.specs.declared.joining.JoinAt.{JoinAt}
use Rattle.orphans.specs.Leaving.{leave_course}
use Rattle.orphan_laws.specs.Steps.{IsApart}
use Rattle.step_local.specs.declared.frames.At.{At}
use Rattle.step_local.specs.declared.frames.LargeAt.{LargeAt}
use Rattle.step_local.specs.declared.frames.Local.{Local}
use Rattle.step_local.specs.declared.frames.ResetAt.{ResetAt}
use Rattle.step_local.specs.declared.frames.SmallAt.{SmallAt}
use Rattle.step_local.specs.Course.{course_at}
use Rattle.step_local.specs.Leaving.{leave_call_of}
use Rattle.step_writes.specs.Kinds.{kinds_at}
use Rattle.step_writes.specs.Writings.{has_kind, share_kind, writes_one_of, writing_of}
use Rattle.step_writes.proofs.CallerLemmas.{other_jobs_leave_kinds}
use Rattle.orphan_tasks.specs.Laws.{OrphanStepsAreTheRows}
use Rattle.orphan_tasks.specs.Steps.{OrphanStepAt}

-- the words that only slabs without a keeper need
abbrev ours : List WordKind
ours = owns ∷ headers ∷ orphans ∷ []

none_first : (b c : Bool) → (b || c) ≡ false → b ≡ false
none_first true c none = none
none_first false c none = refl

none_second : (b c : Bool) → (b || c) ≡ false → c ≡ false
none_second true c none = absurd (cc)
none_second false c none = none

differ : (i j : ℕ) → eqb i j ≡ false → j ≢ i
differ i j none = ⊎_elim
    (λ (z : (eqb i j ≡ true) × (i ≡ j)). absurd (cc))
    (λ (z : (eqb i j ≡ false) × (i ≢ j)). λ same. z.1 (sym same))
    (eqb_tells i j)

-- a kind that is none of them
record IsElse (kind : WordKind) : Type 0 where
  own : number kind ≢ number owns
  header : number kind ≢ number headers
  orphan : number kind ≢ number orphans

is_else : (kind : WordKind) → has_kind kind ours ≡ false → IsElse kind
is_else kind none =
    let behind : has_kind kind (headers ∷ orphans ∷ []) ≡ false = none_second _ _ none in
    let last : has_kind kind (orphans ∷ []) ≡ false = none_second _ _ behind in record {
      own = differ (number owns) (number kind) (none_first _ _ none);
      header = differ (number headers) (number kind) (none_first _ _ behind);
      orphan = differ (number orphans) (number kind) (none_first _ _ last);
    }

apart_of : (action : Action) → writes_one_of ours (writing_of action) ≡ false → IsApart action
apart_of (Load w) none = record { no_own = tt; no_header = tt; no_orphans = tt }
apart_of (Store w value) none =
    let other : IsElse (kind_of_word w) = is_else (kind_of_word w) none in
    record { no_own = other.own; no_header = other.header; no_orphans = other.orphan }
apart_of (Swap w value) none =
    let other : IsElse (kind_of_word w) = is_else (kind_of_word w) none in
    record { no_own = other.own; no_header = other.header; no_orphans = other.orphan }
apart_of (Exchange w from to) none =
    let other : IsElse (kind_of_word w) = is_else (kind_of_word w) none in
    record { no_own = other.own; no_header = other.header; no_orphans = other.orphan }
apart_of (Add w value) none =
    let other : IsElse (kind_of_word w) = is_else (kind_of_word w) none in
    record { no_own = other.own; no_header = other.header; no_orphans = other.orphan }
apart_of (TakeOffice job) none = record { no_own = tt; no_header = tt; no_orphans = tt }
apart_of GiveOffice none = record { no_own = tt; no_header = tt; no_orphans = tt }
apart_of Nothing none = record { no_own = tt; no_header = tt; no_orphans = tt }

apart : (l : Local) (at : At) → share_kind ours (kinds_at at) ≡ false → IsApart (course_at l at)
apart l at none = apart_of (course_at l at) (other_jobs_leave_kinds l at ours none)

join_step : (l : Local) (slab : ℕ) (rest : Option ℕ) (at : JoinAt)
    → OrphanStepAt l (At.Join slab rest at) (course_at l (At.Join slab rest at))
join_step l slab rest JoinAt.Take = refl
join_step l slab rest (JoinAt.Walk first at count) = apart l (At.Join slab rest (JoinAt.Walk first at count)) refl
join_step l slab rest (JoinAt.Tie first last count) = apart l (At.Join slab rest (JoinAt.Tie first last count)) refl

small_step : (l : Local) (at : SmallAt) → OrphanStepAt l (At.Small at) (course_at l (At.Small at))
small_step l (SmallAt.Own slab) = refl
small_step l at = apart l (At.Small at) refl

large_step : (l : Local) (at : LargeAt) → IsApart (course_at l (At.Large at))
large_step l LargeAt.Tick = apart l (At.Large LargeAt.Tick) refl
large_step l (LargeAt.Kind unit) = apart l (At.Large (LargeAt.Kind unit)) refl
large_step l (LargeAt.Grant unit) = apart l (At.Large (LargeAt.Grant unit)) refl

reset_step : (l : Local) (at : ResetAt) → IsApart (course_at l (At.Reset at))
reset_step l (ResetAt.Strip slab at) = apart l (At.Reset (ResetAt.Strip slab at)) refl
reset_step l (ResetAt.Seek at) = apart l (At.Reset (ResetAt.Seek at)) refl
reset_step l (ResetAt.Evict region at) = apart l (At.Reset (ResetAt.Evict region at)) refl
reset_step l (ResetAt.Clear granules at) = apart l (At.Reset (ResetAt.Clear granules at)) refl
reset_step l (ResetAt.Unqueue at) = apart l (At.Reset (ResetAt.Unqueue at)) refl
reset_step l (ResetAt.Unite region at) = apart l (At.Reset (ResetAt.Unite region at)) refl
reset_step l (ResetAt.Bin at) = apart l (At.Reset (ResetAt.Bin at)) refl

step_at : (l : Local) (at : At) → OrphanStepAt l at (course_at l at)
step_at l (At.Leave slab at) = λ kept is. ap (λ (one : Option HeapSlab). leave_course (leave_call_of slab one) at) is
step_at l (At.Adopt at) = refl
step_at l (At.Join slab rest at) = join_step l slab rest at
step_at l (At.Spare at) = refl
step_at l (At.Small at) = small_step l at
step_at l (At.Large at) = large_step l at
step_at l (At.Reset at) = reset_step l at
step_at l at = apart l at refl

pub orphan_steps_are_the_rows : OrphanStepsAreTheRows
orphan_steps_are_the_rows l = step_at l l.at
