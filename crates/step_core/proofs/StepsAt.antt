-- A seat's step, put together from what its parts ensure.
use Rattle.std.proofs.Common.{◌≡◌, ℕ, ◌<◌, ◌≤◌, Bool, true, false, List, refl, sym, ap, subst, ◌∙◌, ◌++◌, length, get_or, take, drop}
use Rattle.std.specs.Prelude.{Option, Some, None, slice_get, slice_set}
use Rattle.std.proofs.lemmas.List.{take_at}
use Rattle.std.proofs.lemmas.Option.{slice_get_read, slice_get_past}
use Rattle.pool_types.specs.declared.policy.RegionRec.{RegionRec}
use Rattle.pool_types.specs.declared.rows.Row.{Row}
use Rattle.pool_types.specs.declared.values.Region.{Region}
use Rattle.pool_types.specs.declared.values.Turn.{Turn}
use Rattle.pool_words.specs.Actions.{finds}
use Rattle.pool_words.specs.declared.words.Key.{Key}
use Rattle.pool_words.specs.declared.actions.Action.{Action}
use Rattle.pool_words.specs.declared.actions.Seen.{Seen}
use Rattle.part_model.specs.declared.journal.Journaled.{Journaled}
use Rattle.part_model.specs.declared.totals.Totals.{Totals}
use Rattle.step_depot.specs.Steps.{Stock, Steps}
use Rattle.step_local.specs.Learn.{learn}
use Rattle.step_local.specs.declared.frames.Local.{Local}
use Rattle.step_parts.specs.Journal.{entries_of, looks_at_bin}
use Rattle.step_parts.specs.Moves.{Moving, moves_of}
use Rattle.step_parts.specs.Tallies.{totals_after}
use Rattle.step_parts.specs.declared.journal.StepName.{StepName}
use Rattle.step_core.specs.Machines.{Machine}
use Rattle.step_core.specs.Steps.{step_of, name_of, name_of_seat, name_at, told_of_seat, told_at, made_by}
use Rattle.step_core.specs.Turns.{moves_in, found_in, stepped, rested, entered, answered, StepsBy, StepsAt, StepsIn}
use Rattle.step_core.specs.declared.resets.Resetting.{Resetting}
use Rattle.step_core.specs.declared.steps.Step.{Step}

-- a step by its parts
abbrev pub step_by : Action → Option ℕ → Row → Step
step_by action gives row = record { action = action; gives = gives; row = row }

-- the element at an index below the end
pub there_is : {X : Type 0} (xs ys : List X) (i j : ℕ) (x : X) → ys ≡ xs → i ≡ j → i < length ys → x ≡ get_or ys i x →
    slice_get xs j ≡ Some x
there_is xs ys i j x same is below there =
    subst (λ l. slice_get l j ≡ Some x) same (subst (λ k. slice_get ys k ≡ Some x) is
    (slice_get_read ys (length ys) i x refl below there))

-- no element at an index behind the end
pub there_is_none : {X : Type 0} (xs ys : List X) (i j : ℕ) → ys ≡ xs → i ≡ j → length ys ≤ i → slice_get xs j ≡ None
there_is_none xs ys i j same is past =
    subst (λ l. slice_get l j ≡ None) same (subst (λ k. slice_get ys k ≡ None) is (slice_get_past ys i past))

pub name_there : (locals : List Local) (seat steps : ℕ) (l : Local) (step : Step) (name : StepName) →
    slice_get locals seat ≡ Some l → step ≡ step_of l → name ≡ name_of step seat steps → name ≡ name_at locals seat steps
name_there locals seat steps l step name there step_is name_is =
    name_is ∙ ap (λ s. name_of s seat steps) step_is ∙ sym (ap (λ o. name_of_seat o seat steps) there)

-- a seat was told in place
pub told_in_place : (items slice now : List Local) (len index seat : ℕ) (seen : Seen) → len ≡ length items →
    slice ≡ items → index ≡ seat → length now ≡ length slice → now ≡ (told_at slice index seen).0 →
    take len (now ++ drop (length now) items) ≡ (told_at items seat seen).0
told_in_place items slice now len index seat seen all same is long told =
    take_at now (drop (length now) items) len (long ∙ ap length same ∙ sym all) ∙ told
    ∙ ap (λ ls. (told_at ls index seen).0) same ∙ ap (λ i. (told_at items i seen).0) is

pub turn_in_place : (items slice : List Local) (index seat : ℕ) (seen : Seen) (turn : Turn) → slice ≡ items →
    index ≡ seat → turn ≡ (told_at slice index seen).1 → turn ≡ (told_at items seat seen).1
turn_in_place items slice index seat seen turn same is told =
    told ∙ ap (λ ls. (told_at ls index seen).1) same ∙ ap (λ i. (told_at items i seen).1) is

pub moves_there : (k k' : Key) (words words' : List ℕ) (records records' : List RegionRec) (l : Local) (found : ℕ)
    (moves : Moving) → k' ≡ k → words' ≡ words → records' ≡ records → moves ≡ moves_of k' words' records' l found →
    moves ≡ moves_of k words records l found
moves_there k k' words words' records records' l found moves key same out are =
    are ∙ ap (λ x. moves_of x words' records' l found) key ∙ ap (λ x. moves_of k x records' l found) same
    ∙ ap (λ x. moves_of k words x l found) out

-- where no answer is asked, none is entered
not_entered : (name : StepName) (turn : Turn) (entries : List Journaled) → entered false name turn entries ≡ entries
not_entered name (Turn.Done answer) entries = refl
not_entered name Turn.Stepped entries = refl
not_entered name (Turn.Waits awaited) entries = refl
not_entered name Turn.Idle entries = refl

-- a step by its parts
pub same_step : (action action' : Action) (gives gives' : Option ℕ) (row row' : Row) → action ≡ action' →
    gives ≡ gives' → row ≡ row' → step_by action gives row ≡ step_by action' gives' row'
same_step action action' gives gives' row row' actions all rows =
    ap (λ a. step_by a gives row) actions ∙ ap (λ g. step_by action' g row) all ∙ ap (step_by action' gives') rows

module _ {R : Type 0} where
  -- a machine by its parts
  abbrev pub whole : Stock R → List Local → List Journaled → Totals → Option Row → ℕ → Option Resetting → Machine R
  whole stock locals entries totals made steps resetting = record {
    stock = stock;
    locals = locals;
    entries = entries;
    totals = totals;
    made = made;
    steps = steps;
    resetting = resetting;
  }

  -- a machine of equal parts is the same
  pub same_whole : (stock : Stock R) (resetting : Option Resetting) (ls ls' : List Local) (es es' : List Journaled)
      (ts ts' : Totals) (m m' : Option Row) (n n' : ℕ) → ls ≡ ls' → es ≡ es' → ts ≡ ts' → m ≡ m' → n ≡ n' →
      whole stock ls es ts m n resetting ≡ whole stock ls' es' ts' m' n' resetting
  same_whole stock resetting ls ls' es es' ts ts' m m' n n' locals entries totals made steps =
      ap (λ x. whole stock x es ts m n resetting) locals ∙ ap (λ x. whole stock ls' x ts m n resetting) entries
      ∙ ap (λ x. whole stock ls' es' x m n resetting) totals ∙ ap (λ x. whole stock ls' es' ts' x n resetting) made
      ∙ ap (λ x. whole stock ls' es' ts' m' x resetting) steps

  -- a machine with an answer, by its parts
  pub answers_whole : (name : StepName) (turn : Turn) (stock : Stock R) (resetting : Option Resetting)
      (ls : List Local) (es : List Journaled) (ts : Totals) (m : Option Row) (n : ℕ) →
      whole stock ls (entered true name turn es) ts m n resetting ≡ answered name turn (whole stock ls es ts m n resetting)
  answers_whole name (Turn.Done answer) stock resetting ls es ts m n = refl
  answers_whole name Turn.Stepped stock resetting ls es ts m n = refl
  answers_whole name (Turn.Waits awaited) stock resetting ls es ts m n = refl
  answers_whole name Turn.Idle stock resetting ls es ts m n = refl

module _ {R : Type 0} (out : R → List Region) (faults : R → ℕ) (got : R → ℕ → Option Region → R → Type 0)
    (passed : R → Region → Bool → R → Type 0) where
  pub steps_there : (old : Machine R) (seat : ℕ) (l : Local) (step : Step) (seen : Seen) (stock : Stock R)
      (locals : List Local) (turn : Turn) (name : StepName) (looks : Bool) (moves : Moving) (found : ℕ)
      (entries : List Journaled) (totals : Totals) (made : Option Row) →
      slice_get old.locals seat ≡ Some l → step ≡ step_of l →
      Steps out faults got passed old.stock step.action step.gives seen stock →
      locals ≡ (told_at old.locals seat seen).0 → turn ≡ (told_at old.locals seat seen).1 →
      name ≡ name_of step seat old.steps → found ≡ finds old.stock.key old.stock.words step.action →
      looks ≡ looks_at_bin l found → moves ≡ moves_of old.stock.key old.stock.words old.stock.desk.records l found →
      entries ≡ entries_of name looks moves → totals ≡ totals_after old.totals moves.parts → made ≡ made_by step seen →
      StepsAt out faults got passed old seat turn (whole stock locals entries totals made name.step old.resetting)
  steps_there old seat l step seen stock locals turn name looks moves found entries totals made there step_is steps locals_are
      turn_is name_is found_is looks_is moves_are entries_are totals_are made_is =
      let e_name : name ≡ name_of (step_of l) seat old.steps = name_is ∙ ap (λ s. name_of s seat old.steps) step_is in
      let e_found : found ≡ found_in old l =
      found_is ∙ ap (λ (s : Step). finds old.stock.key old.stock.words s.action) step_is in
      let e_looks : looks ≡ looks_at_bin l (found_in old l) = looks_is ∙ ap (looks_at_bin l) e_found in
      let e_moves : moves ≡ moves_in old l (found_in old l) = moves_are ∙ ap (moves_in old l) e_found in
      let e_entries : entries ≡ (stepped old seat l seen stock).entries =
      entries_are ∙ ap (λ n. entries_of n looks moves) e_name
      ∙ ap (λ b. entries_of (name_of (step_of l) seat old.steps) b moves) e_looks
      ∙ ap (entries_of (name_of (step_of l) seat old.steps) (looks_at_bin l (found_in old l))) e_moves in
      let e_totals : totals ≡ (stepped old seat l seen stock).totals =
      totals_are ∙ ap (λ (m : Moving). totals_after old.totals m.parts) e_moves in
      let e_locals : locals ≡ slice_set old.locals seat (learn l seen).0 =
      locals_are ∙ ap (λ o. (told_of_seat o old.locals seat seen).0) there in
      let e_made : made ≡ made_by (step_of l) seen = made_is ∙ ap (λ s. made_by s seen) step_is in
      let e_steps : name.step ≡ (stepped old seat l seen stock).steps = ap (λ (n : StepName). n.step) e_name in
      subst (λ o. StepsBy out faults got passed o old seat turn (whole stock locals entries totals made name.step old.resetting)) (sym there)
      (record {
        seen = seen;
        step = subst (λ (s : Step). Steps out faults got passed old.stock s.action s.gives seen stock) step_is steps;
        turn_is = turn_is ∙ ap (λ o. (told_of_seat o old.locals seat seen).1) there;
        after = same_whole stock old.resetting locals _ entries _ totals _ made _ name.step _ e_locals e_entries e_totals e_made e_steps;
      })

  -- and its answer is entered, where that is asked
  pub enters_there : (enters : Bool) (old : Machine R) (seat : ℕ) (turn : Turn) (name : StepName) (stock : Stock R)
      (locals : List Local) (entries now : List Journaled) (totals : Totals) (made : Option Row) (steps : ℕ) →
      StepsAt out faults got passed old seat turn (whole stock locals entries totals made steps old.resetting) →
      name ≡ name_at old.locals seat old.steps → now ≡ entered enters name turn entries →
      StepsIn out faults got passed enters old seat turn (whole stock locals now totals made steps old.resetting)
  enters_there true old seat turn name stock locals entries now totals made steps at name_is now_is = record {
    middle = whole stock locals entries totals made steps old.resetting;
    steps = at;
    after = same_whole stock old.resetting locals locals now _ totals totals made made steps steps refl
        (now_is ∙ ap (λ n. entered true n turn entries) name_is) refl refl refl
        ∙ answers_whole (name_at old.locals seat old.steps) turn stock old.resetting locals entries totals made steps;
  }
  enters_there false old seat turn name stock locals entries now totals made steps at name_is now_is =
      subst (λ es. StepsAt out faults got passed old seat turn (whole stock locals es totals made steps old.resetting))
      (sym (now_is ∙ not_entered name turn entries)) at

  -- a seat that the pool has not makes no step, and has no answer
  pub rests_there : (enters : Bool) (old : Machine R) (seat : ℕ) (turn : Turn) (new : Machine R) →
      slice_get old.locals seat ≡ None → turn ≡ Turn.Idle → new ≡ rested old →
      StepsIn out faults got passed enters old seat turn new
  rests_there true old seat turn new none turn_is new_is = record {
    middle = new;
    steps = subst (λ o. StepsBy out faults got passed o old seat turn new) (sym none) (turn_is, new_is);
    after = ap (λ t. answered (name_at old.locals seat old.steps) t new) (sym turn_is);
  }
  rests_there false old seat turn new none turn_is new_is =
      subst (λ o. StepsBy out faults got passed o old seat turn new) (sym none) (turn_is, new_is)
