-- What a turn makes of a machine is one.
use Rattle.std.proofs.Common.{◌≡◌, ℕ, Bool, true, false, ap, ◌∙◌, sym, refl, List, [], ◌∷◌, subst, Some, None, Ok, arith}
use Rattle.std.specs.Prelude.{Option, slice_get}
use Rattle.pool_types.specs.declared.endings.Destroyed.{Destroyed}
use Rattle.pool_types.specs.declared.policy.Limits.{Limits}
use Rattle.pool_types.specs.declared.policy.Policy.{Policy}
use Rattle.pool_types.specs.declared.policy.RegionRec.{RegionRec}
use Rattle.pool_types.specs.declared.values.Request.{Request}
use Rattle.pool_types.specs.declared.values.Turn.{Turn}
use Rattle.pool_types.specs.Script.{Script, Gets, Puts}
use Rattle.pool_words.specs.declared.actions.Seen.{Seen}
use Rattle.regions.specs.Offices.{desk_of, IsSound}
use Rattle.regions.proofs.Shrinking.{shrunk}
use Rattle.step_depot.specs.Steps.{Stock}
use Rattle.step_local.specs.Course.{course}
use Rattle.step_local.specs.Learn.{learn}
use Rattle.step_local.specs.declared.frames.Local.{Local}
use Rattle.step_parts.specs.declared.journal.StepName.{StepName}
use Rattle.step_core.specs.Endings.{PassesAll, EndsBy, DestroysBy, Destroys, no_regions, with_passed}
use Rattle.step_core.specs.Machines.{Machine, held_back, lowest_in_call}
use Rattle.step_core.specs.Resets.{PartTurns, ResetTurnsBy, ResetTurns, begun_part, part_turned, part_after, reset_begun_by, reset_begun, seat_of}
use Rattle.step_core.specs.Steps.{gives_at, name_at}
use Rattle.step_core.specs.Turns.{begun_by, begun_in, stepped, answered, StepsOf, StepsBy, StepsAt, Answers, TurnsBy, Turns}
use Rattle.step_core.specs.declared.resets.Resetting.{Resetting}
use Rattle.line_runs.specs.Turning.{out_of, faults_of}
use Rattle.run_laws.proofs.Scripted.{puts_once}
use Rattle.run_laws.proofs.Depots.{IsSoundStock, steps_once}

-- the office of the machine is sound
abbrev pub IsSoundMachine : Machine Script → Type 0
IsSoundMachine m = IsSoundStock m.stock

-- a machine with the same stock
pub same_stock : (old new : Machine Script) → new.stock ≡ old.stock → IsSoundMachine old → IsSoundMachine new
same_stock old new same sound = subst (λ (s : Stock Script). IsSoundStock s) (sym same) sound

-- a turn came to the same
abbrev pub TurnIsOne : Turn → Turn → Machine Script → Machine Script → Type 0
TurnIsOne turn turn' new new' = (turn ≡ turn') × (new ≡ new') × IsSoundMachine new

module _ (old : Machine Script) (sound : IsSoundMachine old) where
  steps_of_once : (l : Local) (seat : ℕ) (turn turn' : Turn) (new new' : Machine Script) →
      StepsOf out_of faults_of Gets Puts l old seat turn new → StepsOf out_of faults_of Gets Puts l old seat turn' new' →
      TurnIsOne turn turn' new new'
  steps_of_once l seat turn turn' new new' h h' =
      let same = steps_once old.stock sound (course l) (gives_at l.at) h.seen h'.seen new.stock new'.stock h.step h'.step in (
        h.turn_is ∙ ap (λ (seen : Seen). (learn l seen).1) same.0 ∙ sym h'.turn_is,
        h.after ∙ ap (λ (seen : Seen). stepped old seat l seen new.stock) same.0 ∙
            ap (λ (stock : Stock Script). stepped old seat l h'.seen stock) same.1 ∙ sym h'.after,
        same.2,
      )

  steps_by_once : (local : Option Local) (seat : ℕ) (turn turn' : Turn) (new new' : Machine Script) →
      StepsBy out_of faults_of Gets Puts local old seat turn new →
      StepsBy out_of faults_of Gets Puts local old seat turn' new' → TurnIsOne turn turn' new new'
  steps_by_once None seat turn turn' new new' h h' = (
    h.0 ∙ sym h'.0,
    h.1 ∙ sym h'.1,
    same_stock old new (ap (λ (m : Machine Script). m.stock) h.1) sound,
  )
  steps_by_once (Some l) seat turn turn' new new' h h' = steps_of_once l seat turn turn' new new' h h'

  steps_at_once : (seat : ℕ) (turn turn' : Turn) (new new' : Machine Script) →
      StepsAt out_of faults_of Gets Puts old seat turn new → StepsAt out_of faults_of Gets Puts old seat turn' new' →
      TurnIsOne turn turn' new new'
  steps_at_once seat turn turn' new new' h h' = steps_by_once (slice_get old.locals seat) seat turn turn' new new' h h'

answered_stock : (name : StepName) (turn : Turn) (m : Machine Script) → (answered name turn m).stock ≡ m.stock
answered_stock name (Turn.Done answer) m = refl
answered_stock name Turn.Stepped m = refl
answered_stock name (Turn.Waits awaited) m = refl
answered_stock name Turn.Idle m = refl

module _ (old : Machine Script) (sound : IsSoundMachine old) where
  answers_once : (seat : ℕ) (turn turn' : Turn) (new new' : Machine Script) →
      Answers out_of faults_of Gets Puts old seat turn new → Answers out_of faults_of Gets Puts old seat turn' new' →
      TurnIsOne turn turn' new new'
  answers_once seat turn turn' new new' h h' =
      let same = steps_at_once old sound seat turn turn' h.middle h'.middle h.steps h'.steps in (
        same.0,
        h.after ∙ ap (λ (t : Turn). answered (name_at old.locals seat old.steps) t h.middle) same.0 ∙
            ap (λ (m : Machine Script). answered (name_at old.locals seat old.steps) turn' m) same.1 ∙ sym h'.after,
        same_stock h.middle new (ap (λ (m : Machine Script). m.stock) h.after ∙
            answered_stock (name_at old.locals seat old.steps) turn h.middle) same.2,
      )

  turns_by_once : (part : Option Resetting) (seat : ℕ) (turn turn' : Turn) (new new' : Machine Script) →
      TurnsBy out_of faults_of Gets Puts part old seat turn new →
      TurnsBy out_of faults_of Gets Puts part old seat turn' new' → TurnIsOne turn turn' new new'
  turns_by_once (Some part) seat turn turn' new new' h h' = (
    h.0 ∙ sym h'.0,
    h.1 ∙ sym h'.1,
    same_stock old new (ap (λ (m : Machine Script). m.stock) h.1) sound,
  )
  turns_by_once None seat turn turn' new new' h h' = answers_once seat turn turn' new new' h h'

  -- a turn of a seat
  pub turns_once : (seat : ℕ) (turn turn' : Turn) (new new' : Machine Script) →
      Turns out_of faults_of Gets Puts old seat turn new → Turns out_of faults_of Gets Puts old seat turn' new' →
      TurnIsOne turn turn' new new'
  turns_once seat turn turn' new new' h h' = turns_by_once old.resetting seat turn turn' new new' h h'

begun_part_stock : (m : Machine Script) (part : Option Resetting) → (begun_part m part).stock ≡ m.stock
begun_part_stock m None = refl
begun_part_stock m (Some part) = refl

part_stock : (part : Resetting) (turn : Turn) (m : Machine Script) → (part_turned part turn m).0.stock ≡ m.stock
part_stock part (Turn.Done answer) m = begun_part_stock m (part_after m.stock.key.seats part)
part_stock part Turn.Stepped m = refl
part_stock part (Turn.Waits awaited) m = refl
part_stock part Turn.Idle m = refl

-- a turn of a reset came to the same
abbrev pub ResetIsOne : Bool → Bool → Machine Script → Machine Script → Type 0
ResetIsOne done done' new new' = (done ≡ done') × (new ≡ new') × IsSoundMachine new

module _ (old : Machine Script) (sound : IsSoundMachine old) where
  part_once : (part : Resetting) (done done' : Bool) (new new' : Machine Script) →
      PartTurns out_of faults_of Gets Puts old part done new → PartTurns out_of faults_of Gets Puts old part done' new' →
      ResetIsOne done done' new new'
  part_once part done done' new new' h h' =
      let same = steps_at_once old sound (seat_of part) h.turn h'.turn h.middle h'.middle h.steps h'.steps in
      let both : (new, done) ≡ (new', done') =
      h.after ∙ ap (λ (t : Turn). part_turned part t h.middle) same.0 ∙
      ap (λ (m : Machine Script). part_turned part h'.turn m) same.1 ∙ sym h'.after in (
        ap (λ (p : Machine Script × Bool). p.1) both,
        ap (λ (p : Machine Script × Bool). p.0) both,
        same_stock h.middle new (ap (λ (p : Machine Script × Bool). p.0.stock) h.after ∙ part_stock part h.turn h.middle)
            same.2,
      )

  reset_by_once : (part : Option Resetting) (done done' : Bool) (new new' : Machine Script) →
      ResetTurnsBy out_of faults_of Gets Puts part old done new →
      ResetTurnsBy out_of faults_of Gets Puts part old done' new' → ResetIsOne done done' new new'
  reset_by_once None done done' new new' h h' = (
    h.0 ∙ sym h'.0,
    h.1 ∙ sym h'.1,
    same_stock old new (ap (λ (m : Machine Script). m.stock) h.1) sound,
  )
  reset_by_once (Some part) done done' new new' h h' = part_once part done done' new new' h h'

  -- a turn of a reset
  pub reset_turns_once : (done done' : Bool) (new new' : Machine Script) →
      ResetTurns out_of faults_of Gets Puts old done new → ResetTurns out_of faults_of Gets Puts old done' new' →
      ResetIsOne done done' new new'
  reset_turns_once done done' new new' h h' = reset_by_once old.resetting done done' new new' h h'

begun_by_stock : (part : Option Resetting) (m : Machine Script) (seat : ℕ) (request : Request) →
    (begun_by part m seat request).0.stock ≡ m.stock
begun_by_stock (Some part) m seat request = refl
begun_by_stock None m seat request = refl

-- a call that begins leaves the stock
pub begun_stock : (m : Machine Script) (seat : ℕ) (request : Request) → (begun_in m seat request).0.stock ≡ m.stock
begun_stock m seat request = begun_by_stock m.resetting m seat request

reset_by_stock : (seat : Option ℕ) (m : Machine Script) → (reset_begun_by seat m).0.stock ≡ m.stock
reset_by_stock (Some seat) m = refl
reset_by_stock None m = refl

-- and so does a reset
pub reset_stock : (m : Machine Script) → (reset_begun m).0.stock ≡ m.stock
reset_stock m = reset_by_stock (lowest_in_call m.locals) m

-- regions that are passed one after another
passes_once : (policy : Policy) (limits : Limits) (counter : ℕ) (has_got : Bool) (records : List RegionRec)
    (so_far : Destroyed) (raw : Script) → IsSound out_of (desk_of policy limits records counter has_got raw) →
    (last last' : Destroyed) (new new' : Script) → PassesAll out_of faults_of Puts records so_far raw last new →
    PassesAll out_of faults_of Puts records so_far raw last' new' → last ≡ last'
passes_once policy limits counter has_got [] so_far raw sound last last' new new' h h' = h.0 ∙ sym h'.0
passes_once policy limits counter has_got (one ∷ rest) so_far raw sound last last' new new' (answer, next, passed, later)
    (answer', next', passed', later') =
    passes_once policy limits counter has_got rest (with_passed so_far one answer) next left last last' new new' later moved
  where
    left : IsSound out_of (desk_of policy limits rest counter has_got next)
    left = shrunk out_of (desk_of policy limits (one ∷ rest) counter has_got raw) next 0 one sound (omega arith) refl
        passed.shrinks

    left' : IsSound out_of (desk_of policy limits rest counter has_got next')
    left' = shrunk out_of (desk_of policy limits (one ∷ rest) counter has_got raw) next' 0 one sound (omega arith) refl
        passed'.shrinks

    same : (answer ≡ answer') × (next ≡ next')
    same = puts_once raw one.region answer answer' next next' (left.regions ∙ sym left'.regions) passed.answered
        passed'.answered

    moved : PassesAll out_of faults_of Puts rest (with_passed so_far one answer) next last' new'
    moved = subst (λ (r : Script). PassesAll out_of faults_of Puts rest (with_passed so_far one answer) r last' new')
        (sym same.1)
        (subst (λ (b : Bool). PassesAll out_of faults_of Puts rest (with_passed so_far one b) next' last' new')
        (sym same.0) later')

module _ (old : Machine Script) (sound : IsSoundMachine old) where
  ends_by_once : (frees : Bool) (ended ended' : Destroyed) (raw raw' : Script) →
      EndsBy out_of faults_of Puts frees old.stock.desk ended raw →
      EndsBy out_of faults_of Puts frees old.stock.desk ended' raw' → ended ≡ ended'
  ends_by_once true ended ended' raw raw' h h' =
      passes_once old.stock.desk.policy old.stock.desk.limits old.stock.desk.counter old.stock.desk.has_got
      old.stock.desk.records no_regions old.stock.desk.raw sound ended ended' raw raw' h h'
  ends_by_once false ended ended' raw raw' h h' = h.0 ∙ sym h'.0

  destroys_by_once : (seat : Option ℕ) (ended ended' : Destroyed) (raw raw' : Script) →
      DestroysBy out_of faults_of Puts seat old (Ok (ended, raw)) →
      DestroysBy out_of faults_of Puts seat old (Ok (ended', raw')) → ended ≡ ended'
  destroys_by_once None ended ended' raw raw' h h' = ends_by_once old.stock.key.frees ended ended' raw raw' h h'
  destroys_by_once (Some seat) ended ended' raw raw' h h' = absurd h

  -- the end of a machine
  pub destroys_once : (ended ended' : Destroyed) (raw raw' : Script) →
      Destroys out_of faults_of Puts old (Ok (ended, raw)) → Destroys out_of faults_of Puts old (Ok (ended', raw')) →
      ended ≡ ended'
  destroys_once ended ended' raw raw' h h' = destroys_by_once (held_back old) ended ended' raw raw' h h'
