-- What a turn makes of where the office is, position by position.
use Rattle.std.proofs.Common.{◌≡◌, ℕ, Bool, true, false, cond, eqb, refl, ap}
use Rattle.std.specs.Prelude.{◌-◌, ltb, None, Result, Ok, Err}
use Rattle.pool_types.specs.Limits.{most_regions}
use Rattle.pool_types.specs.declared.policy.RegionRec.{RegionRec}
use Rattle.pool_types.specs.declared.values.Turn.{Turn}
use Rattle.regions.specs.declared.errors.ObtainError.{ObtainError}
use Rattle.pool_words.specs.declared.actions.Action.{Action}
use Rattle.pool_words.specs.declared.actions.Action.TheVariants.{TakeOffice, GiveOffice, Nothing}
use Rattle.pool_words.specs.declared.actions.OfficeJob.{OfficeJob}
use Rattle.pool_words.specs.declared.actions.Seen.{Seen}
use Rattle.pool_words.specs.Actions.{word_seen}
use Rattle.region_steps.specs.declared.office.OfficeAt.{OfficeAt}
use Rattle.region_steps.specs.declared.office.OfficeEnd.{OfficeEnd}
use Rattle.region_steps.specs.declared.office.OfficeNext.{OfficeNext}
use Rattle.step_local.specs.declared.frames.At.{At}
use Rattle.step_local.specs.declared.frames.Local.{Local}
use Rattle.step_local.specs.declared.frames.OfficeFor.{OfficeFor}
use Rattle.step_local.specs.Backend.{office_job, office_as, office_left}
use Rattle.step_local.specs.Course.{course_at}
use Rattle.step_local.specs.Learn.{learn_at}
use Rattle.word_codes.specs.Links.{link_of}
use Rattle.step_runs.specs.Places.{has_word, Carry, away, in_slot, in_hand, carry_at, carry_of}
use Rattle.step_runs.specs.Places.{stays, takes, move_of, move_at, gives_in, gives_at}
use Rattle.step_runs.specs.Places.{passed_in, passed_at, passed_of}
use Rattle.step_runs.specs.Entries.{seen_by}
use Rattle.step_runs.specs.Runs.{seen_answer}
use Rattle.step_runs.specs.Laws.{Onward, StepsGoOnward, Leads, OtherTurnsLead}
use Rattle.step_runs.proofs.Resets.{carry-reset_learn_of}
use Rattle.step_runs.proofs.Small.{IsAway, carry-box_learn_of, carry-adopt_learn_of, carry-join_learn_of}
use Rattle.step_runs.proofs.Small.{carry-spare_learn_of, carry-leave_learn_of, carry-small_learn}
use Rattle.step_runs.proofs.Large.{carry-look_learn_of, carry-end_learn_of, carry-post_learn_of, carry-mail_learn_of}
use Rattle.step_runs.proofs.Large.{carry-locate_learn, carry-large_learn, carry-get_learn_of, carry-undo_learn_of}
use Rattle.step_runs.proofs.Large.{carry-keep_learn_of, carry-sweep_learn_of}
use Rattle.step_runs.proofs.Backend.{carry-scan_learn_of, carry-cut_learn_of, carry-queue_as, carry-whole_learn_of}
use Rattle.step_runs.proofs.Backend.{carry-drain_learn_of, carry-put_learn_of, carry-office_left}
use Rattle.step_runs.proofs.Begun.{carry_begun, carry_reset_begun}
use Rattle.step_runs.proofs.Elsewhere.{is_calling, else_at}

-- at no other position but the office's does a turn lead to where the office is taken
pub carry_learn : (l : Local) (at : At) (s : Seen) → is_calling at ≡ true → IsAway (learn_at l at s)
carry_learn l At.Idle s e = absurd (cc)
carry_learn l (At.Ready answer) s e = absurd (cc)
carry_learn l (At.Office job at) s e = absurd (cc)
carry_learn l (At.Look at) s e = carry-look_learn_of l at (word_seen s)
carry_learn l (At.End at) s e = carry-end_learn_of l at (word_seen s)
carry_learn l (At.Post at) s e = carry-post_learn_of l at (word_seen s)
carry_learn l (At.Mail at) s e = carry-mail_learn_of l at (word_seen s)
carry_learn l (At.Mailbox at) s e = carry-box_learn_of l at (word_seen s)
carry_learn l (At.Adopt at) s e = carry-adopt_learn_of l at (word_seen s)
carry_learn l (At.Join slab rest at) s e = carry-join_learn_of l slab rest at (word_seen s)
carry_learn l (At.Spare at) s e = carry-spare_learn_of l at (word_seen s)
carry_learn l (At.Leave slab at) s e = carry-leave_learn_of l slab at (word_seen s)
carry_learn l (At.Locate at) s e = carry-locate_learn l at (word_seen s)
carry_learn l (At.Small at) s e = carry-small_learn l at (word_seen s)
carry_learn l (At.Large at) s e = carry-large_learn l at (word_seen s)
carry_learn l (At.Get at) s e = carry-get_learn_of l at (word_seen s)
carry_learn l (At.Undo cause at) s e = carry-undo_learn_of l cause at (word_seen s)
carry_learn l (At.Keep at) s e = carry-keep_learn_of l at (word_seen s)
carry_learn l (At.Sweep at) s e = carry-sweep_learn_of l at (word_seen s)
carry_learn l (At.Scan at) s e = carry-scan_learn_of l at (word_seen s)
carry_learn l (At.Cut at) s e = carry-cut_learn_of l at (word_seen s)
carry_learn l At.Queue s e = carry-queue_as l (link_of (word_seen s))
carry_learn l (At.Whole at) s e = carry-whole_learn_of l at (word_seen s)
carry_learn l (At.Drain at) s e = carry-drain_learn_of l at (word_seen s)
carry_learn l (At.Put at) s e = carry-put_learn_of l at (word_seen s)
carry_learn l (At.Reset at) s e = carry-reset_learn_of l at (word_seen s)

-- where the office is not taken, no region was passed
none_passed : (l : Local) (at : At) → carry_of at ≡ away → passed_at l at ≡ None
none_passed l (At.Office job (OfficeAt.Back end)) e = absurd (cc)
none_passed l _ e = refl

pub none_passed_by : (turn : Local × Turn) → IsAway turn → passed_of turn.0 ≡ None
none_passed_by turn e = none_passed turn.0 turn.0.at e

-- the slot that comes next, or the office, and what is behind the walls
slot_next : (b : Bool) (x y : OfficeAt) → carry_at x ≡ in_slot → carry_at y ≡ in_slot → carry_at (cond b x y) ≡ in_slot
slot_next true x y one other = one
slot_next false x y one other = other

none_next : (job : OfficeJob) (b : Bool) (x y : OfficeAt) → passed_in job x ≡ None → passed_in job y ≡ None
    → passed_in job (cond b x y) ≡ None
none_next job true x y one other = one
none_next job false x y one other = other

onward_office : (l : Local) (job : OfficeFor) (at : OfficeAt) (f : ℕ) → has_word (course_at l (At.Office job at)) ≡ true
    → Onward (carry_at at) (move_at at f)
    (carry_of (learn_at l (At.Office job at) (seen_by (course_at l (At.Office job at)) f)).0.at)
onward_office l job OfficeAt.Lock f e = by (eqb f 0)
  where
    by : (b : Bool) → Onward away (cond b takes stays)
        (carry_of
        (office_as l job OfficeAt.Lock (cond b (OfficeNext.Goes (OfficeAt.Region 0 None)) OfficeNext.Waits)).0.at)
    by true = (refl, refl)
    by false = refl
onward_office l job (OfficeAt.Region slot given) f e = slot_next (ltb slot (most_regions - 1)) _ _ refl refl
onward_office l job (OfficeAt.Take given) f e = absurd (cc)
onward_office l job (OfficeAt.WallLeft one) f e = by (eqb one.granules 0)
  where
    by : (b : Bool) → carry_at (cond b (OfficeAt.Back (OfficeEnd.Obtained one)) (OfficeAt.FirstSize one)) ≡ in_hand
    by true = refl
    by false = refl
onward_office l job (OfficeAt.Back end) f e = absurd (cc)
onward_office l job (OfficeAt.Unlock end) f e = (refl, carry-office_left l job end)
onward_office l job _ f e = refl

onward_at : (l : Local) (at : At) (f : ℕ) → has_word (course_at l at) ≡ true
    → Onward (carry_of at) (move_of at f) (carry_of (learn_at l at (seen_by (course_at l at) f)).0.at)
onward_at l (At.Office job at) f e = onward_office l job at f e
onward_at l At.Idle f e = absurd (cc)
onward_at l (At.Ready answer) f e = absurd (cc)
onward_at l at f e = carry_learn l at (seen_by (course_at l at) f) refl

passed_office : (l : Local) (job : OfficeFor) (at : OfficeAt) (f : ℕ) → has_word (course_at l (At.Office job at)) ≡ true
    → passed_of (learn_at l (At.Office job at) (seen_by (course_at l (At.Office job at)) f)).0
    ≡ gives_in (office_job l job) at
passed_office l job OfficeAt.Lock f e = by (eqb f 0)
  where
    by : (b : Bool)
        → passed_of
        (office_as l job OfficeAt.Lock (cond b (OfficeNext.Goes (OfficeAt.Region 0 None)) OfficeNext.Waits)).0
        ≡ None
    by true = refl
    by false = refl
passed_office l job (OfficeAt.Region slot given) f e = none_next _ (ltb slot (most_regions - 1)) _ _ refl refl
passed_office l job (OfficeAt.Take given) f e = absurd (cc)
passed_office l job (OfficeAt.WallLeft one) f e = none_next _ (eqb one.granules 0) _ _ refl refl
passed_office l OfficeFor.Ask (OfficeAt.Remove given) f e = refl
passed_office l (OfficeFor.Put first) (OfficeAt.Remove given) f e = refl
passed_office l (OfficeFor.Drain first rest) (OfficeAt.Remove given) f e = refl
passed_office l job (OfficeAt.Back end) f e = absurd (cc)
passed_office l job (OfficeAt.Unlock end) f e = none_passed_by (office_left l job end) (carry-office_left l job end)
passed_office l job _ f e = refl

passed_by : (l : Local) (at : At) (f : ℕ) → has_word (course_at l at) ≡ true
    → passed_of (learn_at l at (seen_by (course_at l at) f)).0 ≡ gives_at l at
passed_by l (At.Office job at) f e = passed_office l job at f e
passed_by l At.Idle f e = absurd (cc)
passed_by l (At.Ready answer) f e = absurd (cc)
passed_by l at f e =
    none_passed_by (learn_at l at (seen_by (course_at l at) f)) (carry_learn l at (seen_by (course_at l at) f) refl)

pub steps_go_onward : StepsGoOnward
steps_go_onward l f e = record { carry = onward_at l l.at f e; passed = passed_by l l.at f e }

-- a position that makes a step on a word makes none of another kind
no_word : (l : Local) (at : At) (action : Action) → is_calling at ≡ true → has_word action ≡ false
    → course_at l at ≡ action → ⊥
no_word l at action calling none e =
    let word = (else_at l at calling).1 in
    let same = ap has_word e in
    cc

pub answers_at : (l : Local) (at : At) → l.at ≡ at → course_at l at ≡ Nothing
    → (carry_of at ≡ away) × (carry_of (learn_at l at Seen.Done).0.at ≡ away)
answers_at l At.Idle here e = (refl, ap carry_of here)
answers_at l (At.Ready answer) here e = (refl, refl)
answers_at l (At.Office job OfficeAt.Lock) here e = absurd (cc)
answers_at l (At.Office job _) here e = absurd (cc)
answers_at l at here e = absurd (no_word l at Nothing refl refl e)

pub obtains_at : (l : Local) (at : At) (granules : ℕ) (answer : Result RegionRec ObtainError)
    → course_at l at ≡ TakeOffice (OfficeJob.Obtain granules)
    → (carry_of at ≡ in_slot) × (carry_of (learn_at l at (seen_answer answer)).0.at ≡ in_hand)
obtains_at l (At.Office job (OfficeAt.Take given)) granules (Ok came) e = (refl, refl)
obtains_at l (At.Office job (OfficeAt.Take given)) granules (Err error) e = (refl, refl)
obtains_at l (At.Office job _) granules answer e = absurd (cc)
obtains_at l At.Idle granules answer e = absurd (cc)
obtains_at l (At.Ready ready) granules answer e = absurd (cc)
obtains_at l at granules answer e = absurd (no_word l at (TakeOffice (OfficeJob.Obtain granules)) refl refl e)

pub takes_out_at : (l : Local) (at : At) (first : ℕ) → course_at l at ≡ TakeOffice (OfficeJob.Give first)
    → (carry_of at ≡ in_slot) × (carry_of (learn_at l at Seen.Given).0.at ≡ in_hand)
takes_out_at l (At.Office job (OfficeAt.Take given)) first e = (refl, refl)
takes_out_at l (At.Office job _) first e = absurd (cc)
takes_out_at l At.Idle first e = absurd (cc)
takes_out_at l (At.Ready ready) first e = absurd (cc)
takes_out_at l at first e = absurd (no_word l at (TakeOffice (OfficeJob.Give first)) refl refl e)

pub puts_back_at : (l : Local) (at : At) → course_at l at ≡ GiveOffice
    → (carry_of at ≡ in_hand) × (carry_of (learn_at l at Seen.Done).0.at ≡ in_slot)
puts_back_at l (At.Office job (OfficeAt.Back end)) e = (refl, refl)
puts_back_at l (At.Office job _) e = absurd (cc)
puts_back_at l At.Idle e = absurd (cc)
puts_back_at l (At.Ready ready) e = absurd (cc)
puts_back_at l at e = absurd (no_word l at GiveOffice refl refl e)

led : (l now : Local) (before after : Carry) → (carry_of l.at ≡ before) × (carry_of now.at ≡ after)
    → Leads l before now after
led l now before after places = record { from = places.0; to = places.1 }

pub other_turns_lead : OtherTurnsLead
other_turns_lead l = record {
  begins = carry_begun l;
  resets = carry_reset_begun l;
  answers = λ e. led l _ _ _ (answers_at l l.at refl e);
  obtains = λ granules answer e. led l _ _ _ (obtains_at l l.at granules answer e);
  takes_out = λ first e. led l _ _ _ (takes_out_at l l.at first e);
  puts_back = λ e. led l _ _ _ (puts_back_at l l.at e);
}
