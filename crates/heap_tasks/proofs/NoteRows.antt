-- What is noted of grants and by looks, what grants are ended, and what the rows of objects say of both.
use Rattle.std.proofs.Common.{◌≡◌, ◌≢◌, ◌∙◌, inl, inr, ⊎_elim, ℕ, ◌+◌, ◌^◌}
use Rattle.std.proofs.Common.{◌<◌, Bool, true, false, cond, eqb, refl, ap, sym}
use Rattle.std.proofs.Common.{arith, subst}
use Rattle.std.specs.Prelude.{List, [], ◌∷◌, ◌++◌}
use Rattle.std.proofs.Math.Path.{fun_ext}
use Rattle.std.proofs.lemmas.Bool.Decides.{eqb_tells}
use Rattle.pool_types.specs.Sums.{capped}
use Rattle.pool_words.specs.declared.words.Key.{Key}
use Rattle.public_list.specs.Ending.{end_learn}
use Rattle.public_list.specs.declared.ending.EndCall.{EndCall}
use Rattle.public_list.specs.declared.ending.EndNext.{EndNext}
use Rattle.public_list.specs.declared.joining.JoinNext.{JoinNext}
use Rattle.public_list.specs.declared.looking.LookCall.{LookCall}
use Rattle.public_list.specs.declared.looking.LookNext.{LookNext}
use Rattle.public_list.specs.declared.posting.PostCall.{PostCall}
use Rattle.public_list.specs.declared.posting.PostNext.{PostNext}
use Rattle.word_codes.specs.declared.kinds.Kind.{Kind}
use Rattle.word_codes.specs.declared.marks.Mark.{Mark}
use Rattle.word_codes.specs.Marks.{mark_word}
use Rattle.word_laws.specs.Memory.{Mem, put}
use Rattle.object_laws.specs.Objects.{Core, Locals, Note, Shadow, grant_by}
use Rattle.object_laws.specs.Parts.{NoteFits, NotesFit}
use Rattle.object_laws.specs.Rows.{ended, joined_as, looked, posted_as}
use Rattle.object_laws.specs.Steps.{ObjectRun, ObjectStep}
use Rattle.step_local.specs.declared.frames.At.{At}
use Rattle.step_local.specs.declared.frames.Call.{Call}
use Rattle.step_local.specs.declared.frames.LargeAt.{LargeAt}
use Rattle.step_local.specs.declared.frames.Local.{Local}
use Rattle.step_local.specs.declared.frames.SmallAt.{SmallAt}
use Rattle.step_local.specs.declared.frames.Stage.{Stage}
use Rattle.step_local.specs.Answers.{end_call, ended_at, ended_object}
use Rattle.step_runs.specs.Entries.{gain_at, gain_large, gain_small, loss_at, loss_by}
use Rattle.heap_tasks.specs.Heaps.{last_of}
use Rattle.heap_tasks.specs.Laws.{EndedNotesFit, EndsAreOfNotes, GrantsAreNoted, GrantsAreNumbered, RowsLeaveNotes}
use Rattle.heap_tasks.specs.Laws.{TailsAreForgotten, with_notes}
use Rattle.heap_tasks.specs.Notes.{AllAmong, IsAmong, IsTail, all_noted, is_reset_at, large_notes, look_notes_at}
use Rattle.heap_tasks.specs.Notes.{looked_notes, noted, notes_added_at, notes_by, notes_of, small_notes}
use Rattle.heap_tasks.specs.Stages.{IsEnding, StageFitsAt}

-- each grant is noted
small_noted : (l : Local) (at : SmallAt) → small_notes l at ++ notes_of l ≡ all_noted (gain_small l at) ++ notes_of l
small_noted l (SmallAt.Private slab head below) = refl
small_noted l (SmallAt.Rest slab unit) = refl
small_noted l _ = refl

large_noted : (l : Local) (at : LargeAt) → large_notes l at ++ notes_of l ≡ all_noted (gain_large l at) ++ notes_of l
large_noted l (LargeAt.Grant unit) = refl
large_noted l _ = refl

noted_at : (l : Local) (at : At) (found : ℕ) → notes_added_at l at found ++ notes_of l
    ≡ all_noted (gain_at l at) ++ (look_notes_at l at found ++ notes_of l)
noted_at l (At.Small at) found = small_noted l at
noted_at l (At.Large at) found = large_noted l at
noted_at l _ found = refl

pub grants_are_noted : GrantsAreNoted
grants_are_noted l found = noted_at l l.at found

-- the grant that is ended
ended_among : (c : Call) (stage : Stage) → IsEnding stage
    → IsAmong (noted (ended_at c stage)) (notes_by c.request c.old c.new stage)
ended_among c Stage.Ending is = inl refl
ended_among c Stage.Replacing is = inr (inl refl)
ended_among c Stage.Undoing is = inl refl
ended_among c _ is = absurd is

loss_among : (l : Local) (next : EndNext) → IsEnding l.call.stage → AllAmong (loss_by l next) (notes_of l)
loss_among l EndNext.Own is = (ended_among l.call l.call.stage is, tt)
loss_among l EndNext.Other is = (ended_among l.call l.call.stage is, tt)
loss_among l EndNext.Large is = (ended_among l.call l.call.stage is, tt)
loss_among l (EndNext.Goes at) is = tt
loss_among l (EndNext.NotHeld found) is = tt

losses_among : (l : Local) (at : At) (found : ℕ) → StageFitsAt at l.put l.sweep.cleanup l.call.stage
    → is_reset_at at ≡ false → AllAmong (loss_at l found at) (notes_of l)
losses_among l (At.End at) found fits calls = loss_among l (end_learn (end_call l) at found) fits
losses_among l (At.Reset at) found fits calls = absurd (cc)
losses_among l _ found fits calls = tt

pub ends_are_of_notes : EndsAreOfNotes
ends_are_of_notes l = record {
  ended = ended_among l.call l.call.stage;
  losses = λ found fits calls. losses_among l l.at found fits calls;
}

-- what fits of all notes fits of the one of the object whose grant is ended
among_fits : (g : Shadow) (s : Core) (n : Note) (ns : List Note) → IsAmong n ns → NotesFit g s ns → NoteFits g s n
among_fits g s n [] among fits = absurd among
among_fits g s n (m ∷ ms) (inl same) fits = subst (NoteFits g s) (sym same) fits.0
among_fits g s n (m ∷ ms) (inr among) fits = among_fits g s n ms among fits.1

pub ended_notes_fit : EndedNotesFit
ended_notes_fit l g s is fits =
    among_fits g s (noted (ended_object l)) (notes_of l) (ended_among l.call l.call.stage is) fits

-- what the rows note
put_same : {A : Type 0} (f : ℕ → A) (i j : ℕ) → f j ≡ put f i (f i) j
put_same f i j = ⊎_elim
    (λ (z : (eqb i j ≡ true) × (i ≡ j)). ap f (sym z.1) ∙ sym (ap (λ (b : Bool). cond b (f i) (f j)) z.0))
    (λ (z : (eqb i j ≡ false) × (i ≢ j)). sym (ap (λ (b : Bool). cond b (f i) (f j)) z.0))
    (eqb_tells i j)

looks : (seat : ℕ) (locals : Locals) (call : LookCall) (next : LookNext) (other : ℕ)
    → (looked seat call next locals).notes other ≡ put locals.notes seat (looked_notes next ++ locals.notes seat) other
looks seat locals call (LookNext.Goes at) other = put_same locals.notes seat other
looks seat locals call (LookNext.Held unit mark kind base) other = refl
looks seat locals call LookNext.Differs other = put_same locals.notes seat other
looks seat locals call (LookNext.NotHeld found) other = put_same locals.notes seat other

ends : (seat : ℕ) (locals : Locals) (call : EndCall) (kind : Kind) (next : EndNext)
    → (ended seat call kind next locals).notes ≡ locals.notes
ends seat locals call kind (EndNext.Goes at) = refl
ends seat locals call kind EndNext.Own = refl
ends seat locals call kind EndNext.Other = refl
ends seat locals call kind EndNext.Large = refl
ends seat locals call kind (EndNext.NotHeld found) = refl

posts : (seat : ℕ) (locals : Locals) (call : PostCall) (next : PostNext)
    → (posted_as seat call next locals).notes ≡ locals.notes
posts seat locals call (PostNext.Goes at) = refl
posts seat locals call PostNext.Listed = refl
posts seat locals call PostNext.Owed = refl

joins : (seat : ℕ) (locals : Locals) (slab : ℕ) (next : JoinNext)
    → (joined_as seat slab next locals).notes ≡ locals.notes
joins seat locals slab (JoinNext.Goes at) = refl
joins seat locals slab JoinNext.Nothing = refl
joins seat locals slab (JoinNext.Joined first count) = refl

pub rows_leave_notes : RowsLeaveNotes
rows_leave_notes seat locals = record {
  looks = looks seat locals;
  grants = λ unit kind book. refl;
  ends = ends seat locals;
  posts = posts seat locals;
  joins = joins seat locals;
}

-- numbers of grants are far below where they would be capped
few_are_kept : (n : ℕ) → n < 2 ^ 55 → capped n ≡ n
few_are_kept n few = omega arith

pub grants_are_numbered : GrantsAreNumbered
grants_are_numbered l locals same few =
    let number : capped (last_of l + 1) ≡ locals.lasts l.seat + 1 =
    few_are_kept (last_of l + 1) few ∙ sym (ap (λ (n : ℕ). n + 1) same) in
    record {
      word = ap (λ (n : ℕ). mark_word (Mark.Granted (grant_by l.seat n))) number;
      number = number;
    }

-- the newest notes are forgotten one by one
pub along_tail : {ms ns : List Note} (P : List Note → Type 0) → ((n : Note) (os : List Note) → P (n ∷ os) → P os)
    → IsTail ms ns → P ns → P ms
along_tail P step IsTail.all start = start
along_tail P step (IsTail.behind {n = n} {ns = rest} tail) start = along_tail P step tail (step n rest start)

put_there : {A : Type 0} (f : ℕ → A) (i : ℕ) (a : A) → put f i a i ≡ a
put_there f i a = ⊎_elim
    (λ (z : (eqb i i ≡ true) × (i ≡ i)). ap (λ (b : Bool). cond b a (f i)) z.0)
    (λ (z : (eqb i i ≡ false) × (i ≢ i)). absurd (z.1 refl))
    (eqb_tells i i)

put_twice : {A : Type 0} (f : ℕ → A) (i : ℕ) (a b : A) (j : ℕ) → put (put f i a) i b j ≡ put f i b j
put_twice f i a b j =
    elim (eqb i j) as (λ c. cond c b (cond c a (f j)) ≡ cond c b (f j)) [ true ↦ refl | false ↦ refl ]

same_notes : (seat : ℕ) (locals : Locals) → locals ≡ with_notes seat (locals.notes seat) locals
same_notes seat locals =
    ap (λ (notes : ℕ → List Note). record locals { notes = notes }) (fun_ext (put_same locals.notes seat))

notes_twice : (seat : ℕ) (ns ms : List Note) (locals : Locals)
    → with_notes seat ms (with_notes seat ns locals) ≡ with_notes seat ms locals
notes_twice seat ns ms locals =
    ap (λ (notes : ℕ → List Note). record locals { notes = notes }) (fun_ext (put_twice locals.notes seat ns ms))

abbrev Forgetting : (k : Key) (g : Shadow) (m : Mem) (locals : Locals) (seat : ℕ) → List Note → Type 0
Forgetting k g m locals seat ns = ObjectRun k g m locals g m (with_notes seat ns locals)

forgets_one : (k : Key) (g : Shadow) (m : Mem) (locals : Locals) (seat : ℕ) (n : Note) (ns : List Note)
    → Forgetting k g m locals seat (n ∷ ns) → Forgetting k g m locals seat ns
forgets_one k g m locals seat n ns run =
    subst (λ (l : Locals). ObjectRun k g m locals g m l) (notes_twice seat (n ∷ ns) ns locals)
    (ObjectRun.steps run (ObjectStep.forgets seat n ns (put_there locals.notes seat (n ∷ ns))))

pub tails_are_forgotten : TailsAreForgotten
tails_are_forgotten k g m locals seat ns tail =
    along_tail (Forgetting k g m locals seat) (forgets_one k g m locals seat) tail
    (subst (λ (l : Locals). ObjectRun k g m locals g m l) (same_notes seat locals) ObjectRun.starts)
