-- What a trace comes to is one.
use Rattle.std.proofs.Common.{◌≡◌, ℕ, zero, suc, Bool, false, ap, ◌∙◌, sym, refl, List, [], ◌∷◌, ◌++◌, subst, Some, None, Ok, Err}
use Rattle.std.specs.Prelude.{Option, Result, slice_get, slice_set, length}
use Rattle.std.proofs.lemmas.Option.{same_Some}
use Rattle.pool_types.specs.declared.values.Place.{Place}
use Rattle.report_text.specs.Reports.{ReportView}
use Rattle.run_report.specs.declared.book.Book.{Book}
use Rattle.run_report.specs.Books.{noted_some, called}
use Rattle.trace_calls.specs.Names.{Names}
use Rattle.trace_calls.specs.Pools.{Judged, pool_policy, pool_limits, made_entry}
use Rattle.trace_reader.specs.declared.acts.TraceLine.{TraceLine}
use Rattle.trace_reader.specs.declared.trace.Trace.{Trace}
use Rattle.line_runs.specs.Pools.{Pool}
use Rattle.line_runs.specs.declared.lines.Came.{Came}
use Rattle.line_runs.specs.declared.lines.LineAt.{LineAt}
use Rattle.line_runs.specs.declared.pool_lines.PoolLine.{PoolLine}
use Rattle.trace_runs.specs.Ending.{reported, reported_by, summary_of, with_slots, counts_summary}
use Rattle.trace_runs.specs.Lines.{deed_of, call_counted, OnPool, DeedRuns}
use Rattle.trace_runs.specs.Making.{Makes, options_of, slot_of}
use Rattle.trace_runs.specs.Runs.{Onward, RunsOn, RunsAll, empty_report}
use Rattle.trace_runs.specs.Slots.{SlotRuns, SlotsRunBy, SlotsRun, SlotDestroys, SlotsDestroyBy, SlotsDestroy}
use Rattle.trace_runs.specs.States.{State, names_in}
use Rattle.trace_runs.specs.declared.ends.Summary.{Summary}
use Rattle.trace_runs.specs.declared.lines.Deed.{Deed}
use Rattle.trace_runs.specs.declared.runs.RunError.{RunError}
use Rattle.run_laws.specs.Laws.{RunsAreOne, SumsAreOne}
use Rattle.run_laws.proofs.Lines.{IsSoundSlot, same_names, pool_runs_once, destroys_line_once}
use Rattle.run_laws.proofs.Makings.{checks_once, made_sound}

-- the office of each pool that stands is sound
abbrev AreSound : List (Option Pool) → Type 0
AreSound [] = Unit {0}
AreSound (slot ∷ pools) = IsSoundSlot slot × AreSound pools

sound_at : (pools : List (Option Pool)) (number : ℕ) (slot : Option Pool) → AreSound pools →
    slice_get pools number ≡ Some slot → IsSoundSlot slot
sound_at [] number slot sound there = absurd (cc)
sound_at (x ∷ pools) zero slot sound there =
    subst (λ (s : Option Pool). IsSoundSlot s) (same_Some x slot there) sound.0
sound_at (x ∷ pools) (suc number) slot sound there = sound_at pools number slot sound.1 there

sound_set : (pools : List (Option Pool)) (number : ℕ) (slot : Option Pool) → AreSound pools → IsSoundSlot slot →
    AreSound (slice_set pools number slot)
sound_set [] number slot sound one = tt
sound_set (x ∷ pools) zero slot sound one = (one, sound.1)
sound_set (x ∷ pools) (suc number) slot sound one = (sound.0, sound_set pools number slot sound.1 one)

sound_more : (pools : List (Option Pool)) (slot : Option Pool) → AreSound pools → IsSoundSlot slot →
    AreSound (pools ++ slot ∷ [])
sound_more [] slot sound one = (one, tt)
sound_more (x ∷ pools) slot sound one = (sound.0, sound_more pools slot sound.1 one)

same_sound : (old new : List (Option Pool)) → new ≡ old → AreSound old → AreSound new
same_sound old new same sound = subst (λ (p : List (Option Pool)). AreSound p) (sym same) sound

-- a line on a slot
slot_once : (slot : Option Pool) (deed : PoolLine) (at : LineAt) (names : Names) (book : Book) (came came' : Came)
    (new new' : Option Pool) (after after' : Names) (last last' : Book) → IsSoundSlot slot →
    SlotRuns slot deed at names book came new after last → SlotRuns slot deed at names book came' new' after' last' →
    (came ≡ came') × (new ≡ new') × (after ≡ after') × (last ≡ last') × IsSoundSlot new
slot_once None deed at names book came came' new new' after after' last last' sound h h' = (
  h.0.0 ∙ sym h'.0.0,
  h.1 ∙ sym h'.1,
  h.0.1 ∙ sym h'.0.1,
  h.0.2 ∙ sym h'.0.2,
  subst (λ (s : Option Pool). IsSoundSlot s) (sym h.1) tt,
)
slot_once (Some pool) deed at names book came came' new new' after after' last last' sound h h' =
    let same = pool_runs_once deed at pool names book came came' h.0 h'.0 after after' last last' sound h.1 h'.1 in (
      same.0,
      h.2 ∙ ap (λ (p : Pool). Some p) same.1 ∙ sym h'.2,
      same.2,
      same.3,
      subst (λ (s : Option Pool). IsSoundSlot s) (sym h.2) same.4,
    )

-- a line on pools came to the same
abbrev PoolsAreOne : Came → Came → List (Option Pool) → List (Option Pool) → Names → Names → Book → Book → Type 0
PoolsAreOne came came' new new' after after' last last' =
    (came ≡ came') × (new ≡ new') × (after ≡ after') × (last ≡ last') × AreSound new

slots_once : (slot : Option (Option Pool)) (number : ℕ) (deed : PoolLine) (at : LineAt) (pools : List (Option Pool))
    (names : Names) (book : Book) (came came' : Came) (new new' : List (Option Pool)) (after after' : Names)
    (last last' : Book) → slice_get pools number ≡ slot → AreSound pools →
    SlotsRunBy slot number deed at pools names book came new after last →
    SlotsRunBy slot number deed at pools names book came' new' after' last' →
    PoolsAreOne came came' new new' after after' last last'
slots_once None number deed at pools names book came came' new new' after after' last last' there sound h h' =
    (h.0.0 ∙ sym h'.0.0, h.1 ∙ sym h'.1, h.0.1 ∙ sym h'.0.1, h.0.2 ∙ sym h'.0.2, same_sound pools new h.1 sound)
slots_once (Some slot) number deed at pools names book came came' new new' after after' last last' there sound h h' =
    let same = slot_once slot deed at names book came came' h.0 h'.0 after after' last last'
    (sound_at pools number slot sound there) h.1 h'.1 in (
      same.0,
      h.2 ∙ ap (λ (s : Option Pool). slice_set pools number s) same.1 ∙ sym h'.2,
      same.2,
      same.3,
      same_sound (slice_set pools number h.0) new h.2 (sound_set pools number h.0 sound same.4),
    )

slot_ends_once : (slot : Option Pool) (line number : ℕ) (book : Book) (new new' : Option Pool) (last last' : Book) →
    IsSoundSlot slot → SlotDestroys slot line number book new last → SlotDestroys slot line number book new' last' →
    (new ≡ new') × (last ≡ last') × IsSoundSlot new
slot_ends_once None line number book new new' last last' sound h h' =
    (h.0 ∙ sym h'.0, h.1 ∙ sym h'.1, subst (λ (s : Option Pool). IsSoundSlot s) (sym h.0) tt)
slot_ends_once (Some pool) line number book new new' last last' sound h h' =
    destroys_line_once line number pool book new new' last last' sound h h'

slots_end_once : (slot : Option (Option Pool)) (line number : ℕ) (pools : List (Option Pool)) (book : Book)
    (new new' : List (Option Pool)) (last last' : Book) → slice_get pools number ≡ slot → AreSound pools →
    SlotsDestroyBy slot line number pools book new last → SlotsDestroyBy slot line number pools book new' last' →
    (new ≡ new') × (last ≡ last') × AreSound new
slots_end_once None line number pools book new new' last last' there sound h h' =
    (h.0 ∙ sym h'.0, h.1 ∙ sym h'.1, same_sound pools new h.0 sound)
slots_end_once (Some slot) line number pools book new new' last last' there sound h h' =
    let same = slot_ends_once slot line number book h.0 h'.0 last last' (sound_at pools number slot sound there) h.1 h'.1 in (
      h.2 ∙ ap (λ (s : Option Pool). slice_set pools number s) same.0 ∙ sym h'.2,
      same.1,
      same_sound (slice_set pools number h.0) new h.2 (sound_set pools number h.0 sound same.2),
    )

-- two states of the same pools and the same book, of which each name stands for the same
abbrev Alike : State → State → Type 0
Alike one other = (one.pools ≡ other.pools) × (names_in one.places ≡ names_in other.places) × (one.book ≡ other.book)

-- a line came to the same
abbrev CameToOne : Came → Came → State → State → Type 0
CameToOne came came' next next' = (came ≡ came') × Alike next next' × AreSound next.pools

same_names_in : (one other : List (Option Place)) → one ≡ other → names_in one ≡ names_in other
same_names_in one other same = ap (λ (p : List (Option Place)). names_in p) same

makes_once : (trace : Trace) (line pool : ℕ) (old old' new new' : State) → Alike old old' → AreSound old.pools →
    Makes trace line pool old new → Makes trace line pool old' new' → Alike new new' × AreSound new.pools
makes_once trace line pool old old' new new' alike sound h h' = (
  (
    h.pools ∙ ap (λ (p : List (Option Pool)). p ++ slot_of trace pool h.judged ∷ []) alike.0 ∙
        ap (λ (j : Judged). old'.pools ++ slot_of trace pool j ∷ []) same ∙ sym h'.pools,
    same_names_in new.places old.places h.places ∙ alike.1 ∙ sym (same_names_in new'.places old'.places h'.places),
    h.book ∙ ap (λ (b : Book). noted_some b (made_entry line h.judged)) alike.2 ∙
        ap (λ (j : Judged). noted_some old'.book (made_entry line j)) same ∙ sym h'.book,
  ),
  same_sound (old.pools ++ slot_of trace pool h.judged ∷ []) new.pools h.pools
      (sound_more old.pools (slot_of trace pool h.judged) sound (made_sound trace pool h.judged h.checks)),
)
  where
    same : h.judged ≡ h'.judged
    same = checks_once (pool_policy (options_of trace pool)) (pool_limits pool (length trace.names.items)
        (options_of trace pool)) h.judged h'.judged h.checks h'.checks

counted_sound : (deed : PoolLine) (s : State) → AreSound s.pools → AreSound (call_counted deed s).pools
counted_sound (PoolLine.Call call) s sound = sound
counted_sound (PoolLine.Begin call) s sound = sound
counted_sound (PoolLine.Go until) s sound = sound
counted_sound PoolLine.Reset s sound = sound

counted_alike : (deed : PoolLine) (s s' : State) → Alike s s' → Alike (call_counted deed s) (call_counted deed s')
counted_alike (PoolLine.Call call) s s' alike = (alike.0, alike.1, ap (λ (b : Book). called b) alike.2)
counted_alike (PoolLine.Begin call) s s' alike = alike
counted_alike (PoolLine.Go until) s s' alike = alike
counted_alike PoolLine.Reset s s' alike = alike

on_pool_once : (number : ℕ) (deed : PoolLine) (at : LineAt) (s s' : State) (came came' : Came) (next next' : State) →
    Alike s s' → AreSound s.pools → OnPool number deed at s came next → OnPool number deed at s' came' next' →
    CameToOne came came' next next'
on_pool_once number deed at s s' came came' next next' alike sound h h' = (same.0, (same.1, same.2, same.3), same.4)
  where
    moved : SlotsRun number deed at s.pools (names_in s.places) s.book came' next'.pools (names_in next'.places) next'.book
    moved = subst
        (λ (p : List (Option Pool)). SlotsRun number deed at p (names_in s.places) s.book came' next'.pools
        (names_in next'.places) next'.book)
        (sym alike.0)
        (subst
        (λ (n : Names). SlotsRun number deed at s'.pools n s.book came' next'.pools (names_in next'.places) next'.book)
        (sym alike.1)
        (subst
        (λ (b : Book). SlotsRun number deed at s'.pools (names_in s'.places) b came' next'.pools
        (names_in next'.places) next'.book)
        (sym alike.2) h'))

    same : PoolsAreOne came came' next.pools next'.pools (names_in next.places) (names_in next'.places) next.book next'.book
    same = slots_once (slice_get s.pools number) number deed at s.pools (names_in s.places) s.book came came' next.pools
        next'.pools (names_in next.places) (names_in next'.places) next.book next'.book refl sound h moved

ends_once : (line number : ℕ) (s s' : State) (next next' : State) → Alike s s' → AreSound s.pools →
    SlotsDestroy line number s.pools s.book next.pools next.book →
    SlotsDestroy line number s'.pools s'.book next'.pools next'.book →
    (next.pools ≡ next'.pools) × (next.book ≡ next'.book) × AreSound next.pools
ends_once line number s s' next next' alike sound h h' =
    slots_end_once (slice_get s.pools number) line number s.pools s.book next.pools next'.pools next.book next'.book refl
    sound h
    (subst (λ (p : List (Option Pool)). SlotsDestroy line number p s.book next'.pools next'.book) (sym alike.0)
    (subst (λ (b : Book). SlotsDestroy line number s'.pools b next'.pools next'.book) (sym alike.2) h'))

-- a line
deed_once : (trace : Trace) (line : ℕ) (deed : Deed) (old old' : State) (came came' : Came) (next next' : State) →
    Alike old old' → AreSound old.pools → DeedRuns trace line deed old came next →
    DeedRuns trace line deed old' came' next' → CameToOne came came' next next'
deed_once trace line Deed.Nothing old old' came came' next next' alike sound h h' = (
  h.0 ∙ sym h'.0,
  (
    ap (λ (s : State). s.pools) h.1 ∙ alike.0 ∙ sym (ap (λ (s : State). s.pools) h'.1),
    ap (λ (s : State). names_in s.places) h.1 ∙ alike.1 ∙ sym (ap (λ (s : State). names_in s.places) h'.1),
    ap (λ (s : State). s.book) h.1 ∙ alike.2 ∙ sym (ap (λ (s : State). s.book) h'.1),
  ),
  same_sound old.pools next.pools (ap (λ (s : State). s.pools) h.1) sound,
)
deed_once trace line (Deed.Make pool) old old' came came' next next' alike sound h h' =
    let same = makes_once trace line pool old old' next next' alike sound h.1 h'.1 in (h.0 ∙ sym h'.0, same.0, same.1)
deed_once trace line (Deed.On pool seat deed) old old' came came' next next' alike sound h h' =
    on_pool_once pool deed (record { line = line; seat = seat }) (call_counted deed old) (call_counted deed old') came came'
    next next' (counted_alike deed old old' alike) (counted_sound deed old sound) h h'
deed_once trace line (Deed.Destroy pool) old old' came came' next next' alike sound h h' =
    let same = ends_once line pool old old' next next' alike sound h.2 h'.2 in (
      h.0 ∙ sym h'.0,
      (
        same.0,
        same_names_in next.places old.places h.1 ∙ alike.1 ∙ sym (same_names_in next'.places old'.places h'.1),
        same.1,
      ),
      same.2,
    )

-- two ends of a run: states that are alike, or one line
abbrev EndAlike : Result State ℕ → Result State ℕ → Type 0
EndAlike (Ok last) (Ok last') = Alike last last'
EndAlike (Ok last) (Err line') = ⊥
EndAlike (Err line) (Ok last') = ⊥
EndAlike (Err line) (Err line') = line ≡ line'

lines_alike : (line : ℕ) (end end' : Result State ℕ) → end ≡ Err line → end' ≡ Err line → EndAlike end end'
lines_alike line end end' is is' =
    subst (λ (e : Result State ℕ). EndAlike e end') (sym is)
    (subst (λ (e : Result State ℕ). EndAlike (Err line) e) (sym is') refl)

lasts_alike : (old old' : State) (end end' : Result State ℕ) → Alike old old' → end ≡ Ok old → end' ≡ Ok old' →
    EndAlike end end'
lasts_alike old old' end end' alike is is' =
    subst (λ (e : Result State ℕ). EndAlike e end') (sym is)
    (subst (λ (e : Result State ℕ). EndAlike (Ok old) e) (sym is') alike)

onward_once : (came : Came) (line : ℕ) (Later Later' : Type 0) (end end' : Result State ℕ) →
    (Later → Later' → EndAlike end end') → Onward came line Later end → Onward came line Later' end' → EndAlike end end'
onward_once Came.InTime line Later Later' end end' later h h' = later h h'
onward_once Came.OutOfTurns line Later Later' end end' later h h' = lines_alike line end end' h h'

-- lines one after another
runs_on_once : (trace : Trace) (lines : List TraceLine) (old old' : State) (end end' : Result State ℕ) → Alike old old' →
    AreSound old.pools → RunsOn trace lines old end → RunsOn trace lines old' end' → EndAlike end end'
runs_on_once trace [] old old' end end' alike sound h h' = lasts_alike old old' end end' alike h h'
runs_on_once trace (line ∷ lines) old old' end end' alike sound h h' =
    let same = deed_once trace line.line (deed_of line.act) old old' h.came h'.came h.next h'.next alike sound h.runs
    h'.runs in
    let moved : Onward h.came line.line (RunsOn trace lines h'.next end') end' =
    subst (λ (c : Came). Onward c line.line (RunsOn trace lines h'.next end') end') (sym same.0) h'.onward in
    onward_once h.came line.line (RunsOn trace lines h.next end) (RunsOn trace lines h'.next end') end end'
    (λ later later'. runs_on_once trace lines h.next h'.next end end' same.1 same.2 later later') h.onward moved

-- all lines
runs_all_once : (trace : Trace) (report : Option ReportView) (moves : Bool) (end end' : Result State ℕ) →
    RunsAll trace report moves end → RunsAll trace report moves end' → EndAlike end end'
runs_all_once trace report moves end end' h h' =
    runs_on_once trace trace.lines.items h.first h'.first end end' first
    (same_sound [] h.first.pools h.is_first.pools tt) h.runs h'.runs
  where
    first : Alike h.first h'.first
    first = (
      h.is_first.pools ∙ sym h'.is_first.pools,
      same_names (names_in h.first.places) (names_in h'.first.places)
          (λ name. h.is_first.names name ∙ sym (h'.is_first.names name)),
      h.is_first.book ∙ sym h'.is_first.book,
    )

-- what is said at the end depends on the pools and on the book alone
said_once : (last last' : State) → Alike last last' → reported last ≡ reported last'
said_once last last' alike =
    ap (λ (b : Book). reported_by b.report last.pools) alike.2 ∙
    ap (λ (p : List (Option Pool)). reported_by last'.book.report p) alike.0

summed_once : (last last' : State) → Alike last last' → summary_of last ≡ summary_of last'
summed_once last last' alike =
    ap (λ (b : Book). with_slots (counts_summary b.counts) last.pools) alike.2 ∙
    ap (λ (p : List (Option Pool)). with_slots (counts_summary last'.book.counts) p) alike.0

-- a trace has one run
pub runs_are_one : RunsAreOne
runs_are_one moves trace (Ok report) (Ok report') h h' some some' =
    let alike : Alike h.last h'.last =
    runs_all_once trace (Some (empty_report trace)) moves (Ok h.last) (Ok h'.last) h.runs h'.runs in
    ap (λ (r : ReportView). Ok r)
    (same_Some report report' (sym h.ended ∙ said_once h.last h'.last alike ∙ h'.ended))
runs_are_one moves trace (Ok report) (Err (RunError.StepsOut line)) h h' some some' =
    absurd (runs_all_once trace (Some (empty_report trace)) moves (Ok h.last) (Err line) h.runs h')
runs_are_one moves trace (Err (RunError.StepsOut line)) (Ok report) h h' some some' =
    absurd (runs_all_once trace (Some (empty_report trace)) moves (Err line) (Ok h'.last) h h'.runs)
runs_are_one moves trace (Err (RunError.StepsOut line)) (Err (RunError.StepsOut line')) h h' some some' =
    ap (λ (n : ℕ). Err (RunError.StepsOut n))
    (runs_all_once trace (Some (empty_report trace)) moves (Err line) (Err line') h h')
runs_are_one moves trace (Err RunError.NoMemory) other h h' some some' = absurd (some refl)
runs_are_one moves trace (Ok report) (Err RunError.NoMemory) h h' some some' = absurd (some' refl)
runs_are_one moves trace (Err (RunError.StepsOut line)) (Err RunError.NoMemory) h h' some some' = absurd (some' refl)

-- and one summary
pub sums_are_one : SumsAreOne
sums_are_one trace (Ok summary) (Ok summary') h h' some some' =
    let alike : Alike h.last h'.last = runs_all_once trace None false (Ok h.last) (Ok h'.last) h.runs h'.runs in
    ap (λ (s : Summary). Ok s) (sym h.summed ∙ summed_once h.last h'.last alike ∙ h'.summed)
sums_are_one trace (Ok summary) (Err (RunError.StepsOut line)) h h' some some' =
    absurd (runs_all_once trace None false (Ok h.last) (Err line) h.runs h')
sums_are_one trace (Err (RunError.StepsOut line)) (Ok summary) h h' some some' =
    absurd (runs_all_once trace None false (Err line) (Ok h'.last) h h'.runs)
sums_are_one trace (Err (RunError.StepsOut line)) (Err (RunError.StepsOut line')) h h' some some' =
    ap (λ (n : ℕ). Err (RunError.StepsOut n)) (runs_all_once trace None false (Err line) (Err line') h h')
sums_are_one trace (Err RunError.NoMemory) other h h' some some' = absurd (some refl)
sums_are_one trace (Ok summary) (Err RunError.NoMemory) h h' some some' = absurd (some' refl)
sums_are_one trace (Err (RunError.StepsOut line)) (Err RunError.NoMemory) h h' some some' = absurd (some' refl)
