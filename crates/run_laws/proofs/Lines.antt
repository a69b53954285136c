-- What a line on a pool comes to is one.
use Rattle.std.proofs.Common.{◌≡◌, ℕ, zero, suc, Bool, true, false, ap, ◌∙◌, sym, refl, length, subst, Some, None, Ok, Err}
use Rattle.std.specs.Prelude.{Option, Result}
use Rattle.pool_types.specs.declared.endings.Destroyed.{Destroyed}
use Rattle.pool_types.specs.declared.values.InCall.{InCall}
use Rattle.pool_types.specs.declared.values.Turn.{Turn}
use Rattle.pool_types.specs.Script.{Script}
use Rattle.report_text.specs.declared.entry.ReportEntry.TheVariants as entry
use Rattle.run_report.specs.declared.book.Book.{Book}
use Rattle.run_report.specs.Books.{noted}
use Rattle.run_report.specs.Left.{left_noted}
use Rattle.run_report.specs.Moves.{entered}
use Rattle.step_core.specs.Counts.{still_of}
use Rattle.step_core.specs.Machines.{Machine, held_back}
use Rattle.step_core.specs.Resets.{reset_begun}
use Rattle.step_core.specs.Turns.{begun_in}
use Rattle.trace_calls.specs.Names.{Names, request_of}
use Rattle.trace_reader.specs.declared.acts.TraceCall.{TraceCall}
use Rattle.word_totals.specs.Leaking.{leaks_of}
use Rattle.line_runs.specs.Ending.{DestroysBy, Destroys}
use Rattle.line_runs.specs.Lines.{Spends, Stops, Finishes, CallsBy, begun_at}
use Rattle.line_runs.specs.PoolLines.{PoolRuns}
use Rattle.line_runs.specs.Pools.{Pool, call_of, with_machine, with_call}
use Rattle.line_runs.specs.Resetting.{ResetOnward, ResetsOn, ResetsBy, Resets, most_reset_turns}
use Rattle.line_runs.specs.Turning.{stop_of, turns_of, Onward, TurnsOn}
use Rattle.line_runs.specs.declared.lines.Came.{Came}
use Rattle.line_runs.specs.declared.lines.LineAt.{LineAt}
use Rattle.line_runs.specs.declared.pool_lines.PoolLine.{PoolLine}
use Rattle.line_runs.specs.declared.turns.Stop.{Stop}
use Rattle.line_runs.specs.declared.turns.Until.{Until}
use Rattle.run_laws.proofs.Machines.{IsSoundMachine, same_stock, turns_once, reset_turns_once, begun_stock, reset_stock, destroys_once}

-- names that agree on each name
pub same_names : (one other : Names) → ((name : ℕ) → one name ≡ other name) → one ≡ other
same_names one other same = λ i name. same name i

kept_sound : (old new : Machine Script) → new ≡ old → IsSoundMachine old → IsSoundMachine new
kept_sound old new same sound = same_stock old new (ap (λ (m : Machine Script). m.stock) same) sound

-- turns came to the same
abbrev TurnsAreOne : Stop → Stop → Machine Script → Machine Script → Book → Book → Type 0
TurnsAreOne stop stop' new new' last last' = (stop ≡ stop') × (new ≡ new') × (last ≡ last') × IsSoundMachine new

onward_once : (why : Option Stop) (Later : Machine Script → Book → Stop → Machine Script → Book → Type 0)
    (old : Machine Script) (book : Book) (stop stop' : Stop) (new new' : Machine Script) (last last' : Book) →
    IsSoundMachine old →
    (Later old book stop new last → Later old book stop' new' last' → TurnsAreOne stop stop' new new' last last') →
    Onward why Later old book stop new last → Onward why Later old book stop' new' last' →
    TurnsAreOne stop stop' new new' last last'
onward_once (Some why) Later old book stop stop' new new' last last' sound later h h' =
    (h.0 ∙ sym h'.0, h.1 ∙ sym h'.1, h.2 ∙ sym h'.2, kept_sound old new h.1 sound)
onward_once None Later old book stop stop' new new' last last' sound later h h' = later h h'

-- turns of a seat
turns_on_once : (turns : ℕ) (until : Until) (seat : ℕ) (old : Machine Script) (book : Book) (stop stop' : Stop)
    (new new' : Machine Script) (last last' : Book) → IsSoundMachine old → TurnsOn turns until seat old book stop new last →
    TurnsOn turns until seat old book stop' new' last' → TurnsAreOne stop stop' new new' last last'
unfolding TurnsOn
turns_on_once zero until seat old book stop stop' new new' last last' sound h h' =
    (h.0 ∙ sym h'.0, h.1 ∙ sym h'.1, h.2 ∙ sym h'.2, kept_sound old new h.1 sound)
turns_on_once (suc turns) until seat old book stop stop' new new' last last' sound h h' =
    let same = turns_once old sound seat h.turn h'.turn h.middle h'.middle h.turns h'.turns in
    let moved : Onward (stop_of until h.turn h.middle.made) (TurnsOn turns until seat) h.middle
    (entered book h.middle.entries) stop' new' last' =
    subst
    (λ (m : Machine Script). Onward (stop_of until h.turn m.made) (TurnsOn turns until seat) m (entered book m.entries)
    stop' new' last')
    (sym same.1)
    (subst
    (λ (t : Turn). Onward (stop_of until t h'.middle.made) (TurnsOn turns until seat) h'.middle
    (entered book h'.middle.entries) stop' new' last')
    (sym same.0) h'.onward) in
    onward_once (stop_of until h.turn h.middle.made) (TurnsOn turns until seat) h.middle (entered book h.middle.entries)
    stop stop' new new' last last' same.2
    (λ later later'. turns_on_once turns until seat h.middle (entered book h.middle.entries) stop stop' new new' last last'
    same.2 later later')
    h.onward moved

-- turns of a reset came to the same
abbrev ResetsAreOne : Machine Script → Machine Script → Book → Book → Type 0
ResetsAreOne new new' last last' = (new ≡ new') × (last ≡ last') × IsSoundMachine new

reset_onward_once : (done : Bool) (Later : Machine Script → Book → Machine Script → Book → Type 0)
    (old : Machine Script) (book : Book) (new new' : Machine Script) (last last' : Book) → IsSoundMachine old →
    (Later old book new last → Later old book new' last' → ResetsAreOne new new' last last') →
    ResetOnward done Later old book new last → ResetOnward done Later old book new' last' →
    ResetsAreOne new new' last last'
reset_onward_once true Later old book new new' last last' sound later h h' =
    (h.0 ∙ sym h'.0, h.1 ∙ sym h'.1, kept_sound old new h.0 sound)
reset_onward_once false Later old book new new' last last' sound later h h' = later h h'

-- turns of a reset
resets_on_once : (turns : ℕ) (old : Machine Script) (book : Book) (new new' : Machine Script) (last last' : Book) →
    IsSoundMachine old → ResetsOn turns old book new last → ResetsOn turns old book new' last' →
    ResetsAreOne new new' last last'
unfolding ResetsOn
resets_on_once zero old book new new' last last' sound h h' = absurd h
resets_on_once (suc turns) old book new new' last last' sound h h' =
    let same = reset_turns_once old sound h.done h'.done h.middle h'.middle h.turns h'.turns in
    let moved : ResetOnward h.done (ResetsOn turns) h.middle (entered book h.middle.entries) new' last' =
    subst (λ (m : Machine Script). ResetOnward h.done (ResetsOn turns) m (entered book m.entries) new' last') (sym same.1)
    (subst (λ (b : Bool). ResetOnward b (ResetsOn turns) h'.middle (entered book h'.middle.entries) new' last')
    (sym same.0) h'.onward) in
    reset_onward_once h.done (ResetsOn turns) h.middle (entered book h.middle.entries) new new' last last' same.2
    (λ later later'. resets_on_once turns h.middle (entered book h.middle.entries) new new' last last' same.2 later later')
    h.onward moved

-- what is written came to the same
abbrev pub WritesAreOne : Came → Came → Names → Names → Book → Book → Type 0
WritesAreOne came came' after after' last last' = (came ≡ came') × (after ≡ after') × (last ≡ last')

spends_once : (until : Until) (line : ℕ) (names : Names) (book : Book) (came came' : Came) (after after' : Names)
    (last last' : Book) → Spends until line names book came after last → Spends until line names book came' after' last' →
    WritesAreOne came came' after after' last last'
spends_once (Until.Turns turns) line names book came came' after after' last last' h h' =
    (h.0 ∙ sym h'.0, h.1 ∙ sym h'.1, h.2 ∙ sym h'.2)
spends_once (Until.Made row) line names book came came' after after' last last' h h' =
    (h.0 ∙ sym h'.0, h.1 ∙ sym h'.1, h.2 ∙ sym h'.2)
spends_once Until.Answer line names book came came' after after' last last' h h' =
    (h.0 ∙ sym h'.0, h.1 ∙ sym h'.1, h.2 ∙ sym h'.2)

stops_once : (until : Until) (line : ℕ) (call : TraceCall) (stop : Stop) (names : Names) (book : Book) (came came' : Came)
    (after after' : Names) (last last' : Book) → Stops until line call stop names book came after last →
    Stops until line call stop names book came' after' last' → WritesAreOne came came' after after' last last'
stops_once until line call (Stop.Answered answer) names book came came' after after' last last' h h' = (
  h.0 ∙ sym h'.0,
  same_names after after' (λ name. h.1 name ∙ sym (h'.1 name)),
  h.2 ∙ sym h'.2,
)
stops_once until line call (Stop.Waits awaited) names book came came' after after' last last' h h' =
    (h.0 ∙ sym h'.0, h.1 ∙ sym h'.1, h.2 ∙ sym h'.2)
stops_once until line call Stop.Idle names book came came' after after' last last' h h' =
    (h.0 ∙ sym h'.0, h.1 ∙ sym h'.1, h.2 ∙ sym h'.2)
stops_once until line call Stop.Reached names book came came' after after' last last' h h' =
    (h.0 ∙ sym h'.0, h.1 ∙ sym h'.1, h.2 ∙ sym h'.2)
stops_once until line call Stop.Spent names book came came' after after' last last' h h' =
    spends_once until line names book came came' after after' last last' h h'

-- the office of the pool is sound
abbrev pub IsSoundPool : Pool → Type 0
IsSoundPool pool = IsSoundMachine pool.machine

-- a line came to the same
abbrev pub LineIsOne : Came → Came → Pool → Pool → Names → Names → Book → Book → Type 0
LineIsOne came came' new new' after after' last last' =
    (came ≡ came') × (new ≡ new') × (after ≡ after') × (last ≡ last') × IsSoundPool new

same_machine : (old new : Pool) → new.machine ≡ old.machine → IsSoundPool old → IsSoundPool new
same_machine old new same sound = subst (λ (m : Machine Script). IsSoundMachine m) (sym same) sound

finishes_once : (until : Until) (at : LineAt) (old : Pool) (names : Names) (book : Book) (came came' : Came)
    (new new' : Pool) (after after' : Names) (last last' : Book) → IsSoundPool old →
    Finishes until at old names book came new after last → Finishes until at old names book came' new' after' last' →
    LineIsOne came came' new new' after after' last last'
finishes_once until at old names book came came' new new' after after' last last' sound h h' = (
  wrote.0,
  h.pool ∙ ap (λ (m : Machine Script). with_machine old m) same.1 ∙ sym h'.pool,
  wrote.1,
  wrote.2,
  subst (λ (p : Pool). IsSoundPool p) (sym h.pool) same.3,
)
  where
    same : TurnsAreOne h.stop h'.stop h.middle h'.middle h.written h'.written
    same = turns_on_once (turns_of until old.machine.stock.key) until at.seat old.machine book h.stop h'.stop h.middle
        h'.middle h.written h'.written sound h.turns h'.turns

    moved : Stops until at.line (call_of old.calls at.seat) h.stop names h.written came' after' last'
    moved = subst
        (λ (b : Book). Stops until at.line (call_of old.calls at.seat) h.stop names b came' after' last') (sym same.2)
        (subst (λ (s : Stop). Stops until at.line (call_of old.calls at.seat) s names h'.written came' after' last')
        (sym same.0) h'.stops)

    wrote : WritesAreOne came came' after after' last last'
    wrote = stops_once until at.line (call_of old.calls at.seat) h.stop names h.written came came' after after' last last'
        h.stops moved

calls_by_once : (begun : Result Unit InCall) (at : LineAt) (old : Pool) (names : Names) (book : Book) (came came' : Came)
    (new new' : Pool) (after after' : Names) (last last' : Book) → IsSoundPool old →
    CallsBy begun at old names book came new after last → CallsBy begun at old names book came' new' after' last' →
    LineIsOne came came' new new' after after' last last'
calls_by_once (Ok done) at old names book came came' new new' after after' last last' sound h h' =
    finishes_once Until.Answer at old names book came came' new new' after after' last last' sound h h'
calls_by_once (Err refused) at old names book came came' new new' after after' last last' sound h h' = (
  h.0.0 ∙ sym h'.0.0,
  h.1 ∙ sym h'.1,
  h.0.1 ∙ sym h'.0.1,
  h.0.2 ∙ sym h'.0.2,
  subst (λ (p : Pool). IsSoundPool p) (sym h.1) sound,
)

with_call_machine : (pool : Pool) (seat : ℕ) (call : TraceCall) (begun : Result Unit InCall) →
    (with_call pool seat call begun).machine ≡ pool.machine
with_call_machine pool seat call (Ok done) = refl
with_call_machine pool seat call (Err refused) = refl

-- a call that begins leaves the pool's office
begun_sound : (at : LineAt) (call : TraceCall) (pool : Pool) (names : Names) → IsSoundPool pool →
    IsSoundPool (begun_at at call pool names).0
begun_sound at call pool names sound =
    same_machine (with_machine pool (begun_in pool.machine at.seat (request_of names call)).0)
    (begun_at at call pool names).0
    (with_call_machine (with_machine pool (begun_in pool.machine at.seat (request_of names call)).0) at.seat call
    (begun_in pool.machine at.seat (request_of names call)).1)
    (same_stock pool.machine (begun_in pool.machine at.seat (request_of names call)).0
    (begun_stock pool.machine at.seat (request_of names call)) sound)

-- a line that resets a pool came to the same
abbrev PoolIsOne : Pool → Pool → Book → Book → Type 0
PoolIsOne new new' last last' = (new ≡ new') × (last ≡ last') × IsSoundPool new

resets_by_once : (begun : Machine Script) (result : Result Unit InCall) (line : ℕ) (old : Pool) (book : Book)
    (new new' : Pool) (last last' : Book) → IsSoundMachine begun → ResetsBy (begun, result) line old book new last →
    ResetsBy (begun, result) line old book new' last' → PoolIsOne new new' last last'
resets_by_once begun (Ok done) line old book new new' last last' sound h h' =
    let same = resets_on_once most_reset_turns begun book h.middle h'.middle h.written h'.written sound h.turns h'.turns in (
      h.pool ∙ ap (λ (m : Machine Script). with_machine old m) same.0 ∙ sym h'.pool,
      h.noted_is ∙ ap (λ (b : Book). noted b (entry.Reset line)) same.1 ∙ sym h'.noted_is,
      subst (λ (p : Pool). IsSoundPool p) (sym h.pool) same.2,
    )
resets_by_once begun (Err refused) line old book new new' last last' sound h h' =
    (h.0 ∙ sym h'.0, h.1 ∙ sym h'.1, subst (λ (p : Pool). IsSoundPool p) (sym h.0) sound)

resets_once : (line : ℕ) (old : Pool) (book : Book) (new new' : Pool) (last last' : Book) → IsSoundPool old →
    Resets line old book new last → Resets line old book new' last' → PoolIsOne new new' last last'
resets_once line old book new new' last last' sound h h' =
    resets_by_once (reset_begun old.machine).0 (reset_begun old.machine).1 line old book new new' last last'
    (same_stock old.machine (reset_begun old.machine).0 (reset_stock old.machine) sound) h h'

-- a line that leaves its pool standing
pub pool_runs_once : (deed : PoolLine) (at : LineAt) (old : Pool) (names : Names) (book : Book) (came came' : Came)
    (new new' : Pool) (after after' : Names) (last last' : Book) → IsSoundPool old →
    PoolRuns deed at old names book came new after last → PoolRuns deed at old names book came' new' after' last' →
    LineIsOne came came' new new' after after' last last'
pool_runs_once (PoolLine.Call call) at old names book came came' new new' after after' last last' sound h h' =
    calls_by_once (begun_at at call old names).1 at (begun_at at call old names).0 names book came came' new new' after after'
    last last' (begun_sound at call old names sound) h h'
pool_runs_once (PoolLine.Begin call) at old names book came came' new new' after after' last last' sound h h' = (
  h.0 ∙ sym h'.0,
  h.2 ∙ sym h'.2,
  h.1 ∙ sym h'.1,
  h.3 ∙ sym h'.3,
  subst (λ (p : Pool). IsSoundPool p) (sym h.2) (begun_sound at call old names sound),
)
pool_runs_once (PoolLine.Go until) at old names book came came' new new' after after' last last' sound h h' =
    finishes_once until at old names book came came' new new' after after' last last' sound h h'
pool_runs_once PoolLine.Reset at old names book came came' new new' after after' last last' sound h h' =
    let same = resets_once at.line old book new new' last last' sound h.2 h'.2 in
    (h.0 ∙ sym h'.0, same.0, h.1 ∙ sym h'.1, same.1, same.2)

-- what stands where a pool stood
abbrev pub IsSoundSlot : Option Pool → Type 0
IsSoundSlot None = Unit {0}
IsSoundSlot (Some pool) = IsSoundPool pool

destroys_by_once : (seat : Option ℕ) (line number : ℕ) (old : Pool) (book : Book) (left left' : Option Pool)
    (last last' : Book) → IsSoundPool old → DestroysBy seat line number old book left last →
    DestroysBy seat line number old book left' last' → (left ≡ left') × (last ≡ last') × IsSoundSlot left
destroys_by_once (Some seat) line number old book left left' last last' sound h h' =
    (h.0 ∙ sym h'.0, h.1 ∙ sym h'.1, subst (λ (s : Option Pool). IsSoundSlot s) (sym h.0) sound)
destroys_by_once None line number old book left left' last last' sound h h' = (
  h.0 ∙ sym h'.0,
  h.1.after ∙
      ap (λ (ended : Destroyed). left_noted book line number ended (length (leaks_of (still_of old.machine)))
      old.machine.stock.desk.records)
      (destroys_once old.machine sound h.1.ended h'.1.ended h.1.raw h'.1.raw h.1.destroys h'.1.destroys) ∙
      sym h'.1.after,
  subst (λ (s : Option Pool). IsSoundSlot s) (sym h.0) tt,
)

-- a line that destroys a pool
pub destroys_line_once : (line number : ℕ) (old : Pool) (book : Book) (left left' : Option Pool) (last last' : Book) →
    IsSoundPool old → Destroys line number old book left last → Destroys line number old book left' last' →
    (left ≡ left') × (last ≡ last') × IsSoundSlot left
destroys_line_once line number old book left left' last last' sound h h' =
    destroys_by_once (held_back old.machine) line number old book left left' last last' sound h h'
