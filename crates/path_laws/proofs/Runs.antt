-- A seat's grants and frees are those of its answers, in each state of a run.
use Rattle.std.proofs.Common.{◌≡◌, ◌⊎◌, inl, inr, ℕ, Bool, true, false, cond, eqb, List, [], ◌∷◌, ◌++◌, refl, sym}
use Rattle.std.proofs.Common.{ap, subst, ◌∙◌}
use Rattle.std.specs.Prelude.{Option}
use Rattle.std.proofs.lemmas.List.{append-nil, append_assoc}
use Rattle.call_laws.specs.Calls.{is_ready, is_reset_at, is_resetting}
use Rattle.quiet_laws.specs.Resets.{is_given_up, is_of_reset}
use Rattle.heap_slabs.specs.declared.records.HeapSlab.{HeapSlab}
use Rattle.pool_types.specs.declared.values.Answer.{Answer}
use Rattle.pool_types.specs.declared.values.Region.{Region}
use Rattle.pool_types.specs.declared.values.Request.{Request}
use Rattle.pool_types.specs.declared.values.Turn.{Turn}
use Rattle.pool_words.specs.declared.words.Key.{Key}
use Rattle.pool_words.specs.Actions.{finds, word_seen}
use Rattle.public_list.specs.declared.ending.EndAt.{EndAt}
use Rattle.reset_steps.specs.Evict.{unit_at}
use Rattle.reset_steps.specs.Strip.{object_unit}
use Rattle.reset_steps.specs.declared.evict.EvictAt.{EvictAt}
use Rattle.reset_steps.specs.declared.strip.StripAt.{StripAt}
use Rattle.step_local.specs.Course.{course, course_at}
use Rattle.step_local.specs.Getting.{is_idle}
use Rattle.step_local.specs.Learn.{learn}
use Rattle.step_local.specs.Resetting.{strip_call}
use Rattle.step_local.specs.declared.frames.At.{At}
use Rattle.step_local.specs.declared.frames.Local.{Local}
use Rattle.step_local.specs.declared.frames.Object.{Object}
use Rattle.step_local.specs.declared.frames.ResetAt.{ResetAt}
use Rattle.step_local.specs.declared.frames.SmallAt.{SmallAt}
use Rattle.step_local.specs.declared.frames.Stage.{Stage}
use Rattle.step_runs.specs.declared.entry.Entry.{Entry}
use Rattle.step_runs.specs.declared.entry.Told.{Told}
use Rattle.step_runs.specs.Entries.{first_entry, gain_at, gain_of, gain_small, learnt, loss_at, loss_evict}
use Rattle.step_runs.specs.Entries.{loss_of, loss_reset, loss_strip, reset_object, seen_by, told_at, told_by}
use Rattle.step_runs.specs.Places.{has_word}
use Rattle.step_runs.specs.Runs.{Callback, Run}
use Rattle.step_runs.specs.Runs.Run.{opened, stepped}
use Rattle.word_codes.specs.declared.kinds.Kind.{Kind}
use Rattle.word_laws.proofs.CallerLemmas.{each}
use Rattle.path_laws.specs.Laws.{IsPaid, RunsPay}
use Rattle.path_laws.specs.Owing.{owed_frees, owed_grants}
use Rattle.path_laws.specs.Pays.{IsEndedByReset, Paid, Pays}
use Rattle.path_laws.specs.Pays.Paid.{nothing_yet, pays, resets}
use Rattle.path_laws.proofs.Parts.{Follows, InReset, IsFree, IsResting, IsUnderway, Part}
use Rattle.path_laws.proofs.Parts.{TurnsTo, in_reset_owes, rest_owes, resting_first, reset_turn, silence_follows}
use Rattle.path_laws.proofs.Parts.{turn_of_call}
use Rattle.path_laws.proofs.Parts.Part.{resting, underway, decided, resetting}

-- the seat's last step left it at a part, and its grants and frees are those of its answers
pub record Stands {D : Type 0} (k : Key) (e : Entry D) : Type 0 where
  pub part : Part k e.local
  pub is_paid : IsPaid k e

-- a call's step ends the grant by the value that it found
pub seen_loss : (l : Local) (at : At) (n : ℕ) → is_reset_at at ≡ false
    → loss_at l (word_seen (seen_by (course_at l at) n)) at ≡ loss_at l n at
seen_loss l (At.End EndAt.Own) n e = refl
seen_loss l (At.End EndAt.Other) n e = refl
seen_loss l (At.End EndAt.Large) n e = refl
seen_loss l (At.End (EndAt.Lost mark)) n e = refl
seen_loss l (At.Reset at) n e = absurd (cc)
seen_loss l _ n e = refl

call_told : (s : Stage) (r : Request) (turn : Turn) → is_resetting s ≡ false → told_at s r turn ≡ told_by r turn
call_told (Stage.Resetting stage) r turn e = absurd (cc)
call_told _ r turn e = refl

reset_told : (s : Stage) (r : Request) (turn : Turn) → is_resetting s ≡ true → told_at s r turn ≡ []
reset_told (Stage.Resetting stage) r turn e = refl
reset_told _ r turn e = absurd (cc)

-- a reset grants nothing, and ends a grant or none with a step
small_gain : (l : Local) (at : SmallAt) → is_given_up at ≡ true → gain_small l at ≡ []
small_gain l (SmallAt.Empty slab) e = refl
small_gain l (SmallAt.Newest slab) e = refl
small_gain l _ e = absurd (cc)

reset_gain : (l : Local) (at : At) → is_of_reset at ≡ true → gain_at l at ≡ []
reset_gain l (At.Small at) e = small_gain l at e
reset_gain l (At.Large at) e = absurd (cc)
reset_gain l _ e = refl

abbrev pub EndsOne : List Object → Type 0
EndsOne losses = (losses ≡ []) ⊎ ((object : Object) × (losses ≡ object ∷ []) × IsEndedByReset object)

ends_where : (b : Bool) (unit mark : ℕ) (kind : Kind) → EndsOne (cond b (reset_object unit mark kind ∷ []) [])
ends_where true unit mark kind = inr (
  reset_object unit mark kind,
  refl,
  record { unit = unit; mark = mark; kind = kind; object_is = refl },
)
ends_where false unit mark kind = inl refl

strip_ends : (s : HeapSlab) (n : ℕ) (at : StripAt) → EndsOne (loss_strip s n at)
strip_ends s n (StripAt.Mark object) = inl refl
strip_ends s n (StripAt.End object mark) = ends_where (eqb n mark) (object_unit s object) mark (Kind.Slab s.class)

evict_ends : (n : ℕ) (at : EvictAt) → EndsOne (loss_evict n at)
evict_ends n (EvictAt.End granule b line mark) =
    ends_where (eqb n mark) (unit_at granule line) mark (Kind.Large b.first b.granules)
evict_ends n _ = inl refl

reset_ends : (l : Local) (n : ℕ) (at : ResetAt) → EndsOne (loss_reset l n at)
reset_ends l n (ResetAt.Strip slab at) = strip_ends (strip_call l slab) n at
reset_ends l n (ResetAt.Evict region at) = evict_ends n at
reset_ends l n _ = inl refl

reset_loss : (l : Local) (n : ℕ) (at : At) → is_of_reset at ≡ true → EndsOne (loss_at l n at)
reset_loss l n (At.Reset at) e = reset_ends l n at
reset_loss l n (At.End at) e = absurd (cc)
reset_loss l n _ e = inl refl

-- no step on a word comes where no call goes on
idle_word : (l : Local) (at : At) → is_idle at ≡ true → has_word (course_at l at) ≡ true → ⊥
idle_word l At.Idle e word = cc
idle_word l _ e word = cc

pub ready_word : (l : Local) (at : At) → is_ready at ≡ true → has_word (course_at l at) ≡ true → ⊥
ready_word l (At.Ready answer) e word = cc
ready_word l _ e word = cc

-- lists one behind another
pub joined : (all paid owed more : List Object) → all ≡ paid ++ owed → all ++ more ≡ paid ++ (owed ++ more)
joined all paid owed more e = ap (λ (x : List Object). x ++ more) e ∙ append_assoc paid owed more

module _ {D : Type 0} (k : Key) where
  made_paid : (e : Entry D) (tolds : List Told) (grants frees : List Object) → Paid k tolds grants frees
      → e.answers ≡ tolds → e.grants ≡ grants ++ owed_grants e.local → e.frees ≡ frees ++ owed_frees e.local
      → IsPaid k e
  made_paid e tolds grants frees paid told granted freed = record {
    grants = grants;
    frees = frees;
    paid = subst (λ (t : List Told). Paid k t grants frees) (sym told) paid;
    grants_are = granted;
    frees_are = freed;
  }

  -- a step of a seat whose local silence led to
  module _ (e : Entry D) (l : Local) (home desk : Option D) (n : ℕ) (was : IsPaid k e)
      (granted : e.grants ≡ was.grants ++ owed_grants l) (freed : e.frees ≡ was.frees ++ owed_frees l) where
    abbrev now : Local
    now = (learn l (seen_by (course l) n)).0

    abbrev turn : Turn
    turn = (learn l (seen_by (course l) n)).1

    abbrev after : Entry D
    after = learnt e l home desk n

    abbrev grants' : List Object
    grants' = owed_grants l ++ gain_of l

    abbrev frees' : List Object
    frees' = owed_frees l ++ loss_of l n

    granted_now : after.grants ≡ was.grants ++ grants'
    granted_now = joined e.grants was.grants (owed_grants l) (gain_of l) granted

    freed_now : after.frees ≡ was.frees ++ frees'
    freed_now = joined e.frees was.frees (owed_frees l) (loss_of l n) freed

    -- the call goes on
    on_paid : (r : Request) → told_at l.call.stage l.call.request turn ≡ []
        → IsUnderway k r now × (owed_grants now ≡ grants') × (owed_frees now ≡ frees') → Stands k after
    on_paid r told on = record {
      part = underway r on.0;
      is_paid = made_paid after e.answers was.grants was.frees was.paid
          (ap (λ (t : List Told). e.answers ++ t) told ∙ append-nil e.answers)
          (granted_now ∙ ap (λ (g : List Object). was.grants ++ g) (sym on.1))
          (freed_now ∙ ap (λ (f : List Object). was.frees ++ f) (sym on.2));
    }

    -- the call is answered
    end_paid : (r : Request) (answer : Answer)
        → told_at l.call.stage l.call.request turn ≡ record { request = r; answer = answer } ∷ []
        → Pays k r answer grants' frees' × IsResting k now → Stands k after
    end_paid r answer told (paid, rests) =
        let none = rest_owes k now rests in record {
          part = resting rests;
          is_paid = made_paid after (e.answers ++ record { request = r; answer = answer } ∷ [])
              (was.grants ++ grants') (was.frees ++ frees')
              (pays was.paid (record { request = r; answer = answer }) grants' frees' paid)
              (ap (λ (t : List Told). e.answers ++ t) told)
              (granted_now ∙ sym (append-nil (was.grants ++ grants'))
              ∙ ap (λ (g : List Object). was.grants ++ grants' ++ g) (sym none.0))
              (freed_now ∙ sym (append-nil (was.frees ++ frees'))
              ∙ ap (λ (f : List Object). was.frees ++ frees' ++ f) (sym none.1));
        }

    call_paid : (r : Request) (t : Turn) → told_at l.call.stage l.call.request turn ≡ told_by r t
        → TurnsTo k r grants' frees' now t → Stands k after
    call_paid r (Turn.Done answer) told to = end_paid r answer told to
    call_paid r Turn.Stepped told to = on_paid r told to
    call_paid r (Turn.Waits awaited) told to = on_paid r told to
    call_paid r Turn.Idle told to = elim to [ ]

    underway_paid : (r : Request) → IsUnderway k r l → Stands k after
    underway_paid r is = call_paid r turn
        (call_told l.call.stage l.call.request turn is.calling
        ∙ ap (λ (x : Request). told_by x turn) is.request)
        (subst (λ (x : List Object). TurnsTo k r grants' (owed_frees l ++ x) now turn)
        (seen_loss l l.at n is.elsewhere) (turn_of_call k r l (seen_by (course l) n) is))

    -- a reset goes on
    reset_paid : InReset k l → IsFree k now → EndsOne (loss_of l n) → Stands k after
    reset_paid is free ends =
        let told = ap (λ (t : List Told). e.answers ++ t)
        (reset_told l.call.stage l.call.request turn is.reset.stage) ∙ append-nil e.answers in
        let owes = in_reset_owes k l is in
        let gain = ap (λ (g : List Object). was.grants ++ g)
        (ap (λ (g : List Object). g ++ gain_of l) owes.0 ∙ reset_gain l l.at is.reset.at ∙ sym free.1.0) in
        record { part = free.0; is_paid = by told (granted_now ∙ gain) owes.1 ends }
      where
        by : after.answers ≡ e.answers → after.grants ≡ was.grants ++ owed_grants now → owed_frees l ≡ []
            → EndsOne (loss_of l n) → IsPaid k after
        by told gain none (inl nothing) = made_paid after e.answers was.grants was.frees was.paid told gain
            (freed_now ∙ ap (λ (f : List Object). was.frees ++ f)
            (ap (λ (f : List Object). f ++ loss_of l n) none ∙ nothing ∙ sym free.1.1))
        by told gain none (inr (object, one, ended)) = made_paid after e.answers was.grants
            (was.frees ++ object ∷ []) (resets was.paid object ended) told gain
            (freed_now ∙ ap (λ (f : List Object). was.frees ++ f)
            (ap (λ (f : List Object). f ++ loss_of l n) none ∙ one)
            ∙ sym (append-nil (was.frees ++ object ∷ []))
            ∙ ap (λ (f : List Object). was.frees ++ object ∷ [] ++ f) (sym free.1.1))

    part_paid : Part k l → has_word (course l) ≡ true → Stands k after
    part_paid (resting is) word = absurd (idle_word l l.at is.idle word)
    part_paid (underway r is) word = underway_paid r is
    part_paid (decided is) word = absurd (ready_word l l.at is.at word)
    part_paid (resetting is) word = reset_paid is (reset_turn k l (seen_by (course l) n) is)
        (reset_loss l n l.at is.reset.at)

  pub step_stands : (e : Entry D) (l : Local) (home desk : Option D) (n : ℕ) → Stands k e → Follows k e.local l
      → has_word (course l) ≡ true → Stands k (learnt e l home desk n)
  step_stands e l home desk n was on word = part_paid e l home desk n was.is_paid
      (was.is_paid.grants_are ∙ ap (λ (g : List Object). was.is_paid.grants ++ g) (sym on.grants))
      (was.is_paid.frees_are ∙ ap (λ (f : List Object). was.is_paid.frees ++ f) (sym on.frees)) on.part word

  first_stands : (seat : ℕ) → Stands k (first_entry {D = D} k seat)
  first_stands seat = record {
    part = resting (resting_first k seat);
    is_paid = record { grants = []; frees = []; paid = nothing_yet; grants_are = refl; frees_are = refl };
  }

-- in each state of a run each seat stands so
pub run_stands : {D : Type 0} {c : Callback D} {k : Key} {first : D} {words : List ℕ} {home : Option D}
    {entries : ℕ → Entry D} → Run c k first words home entries → (seat : ℕ) → Stands k (entries seat)
run_stands {k = k} opened = λ seat. first_stands k seat
run_stands {k = k} (stepped {words = words} {home = home} {entries = entries} run seat l desk silent word) =
    each (λ o e. Stands k e) entries seat (learnt (entries seat) l home desk (finds k words (course l)))
    (λ o _. run_stands run o)
    (step_stands k (entries seat) l home desk (finds k words (course l)) (run_stands run seat)
    (silence_follows silent k (run_stands run seat).part) word)

module _ {R : Type 0} (out : R → List Region) (faults : R → ℕ) (got : R → ℕ → Option Region → R → Type 0)
    (passed : R → Region → Bool → R → Type 0) where
  pub runs_pay : RunsPay out faults got passed
  runs_pay policy limits raw words home entries run seat = (run_stands run seat).is_paid
