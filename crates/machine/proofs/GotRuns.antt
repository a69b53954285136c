-- Where no call is open, the objects that are held are those that new answers got, less those that were freed.
use Rattle.std.proofs.Common.{◌≡◌, ◌≢◌, ◌⊎◌, ℕ, inl, inr, List, [], ◌∷◌, ◌++◌, Some, None, Bool, true, false, not, refl, sym, ◌∙◌, ap, subst, append_assoc, append-nil, map, filter}
use Rattle.std.specs.Prelude.{Contains, ◌↔◌, is_some, if◌then◌else◌, ◌==◌}
use Rattle.std.specs.List.{flat_map}
use Rattle.std.specs.declared.option.Option.{Option}
use Rattle.std.proofs.lemmas.Bool.{cases_Bool, eqb-true, eq-eqb}
use Rattle.std.proofs.lemmas.Grind.{flat_map-append}
use Rattle.std.proofs.lemmas.List.Elements.{Contains-append_cases, Contains-append_left, Contains-append_right, Contains-push_cases}
use Rattle.list_laws.proofs.Finds.{find-Some, find-None}
use Rattle.list_laws.proofs.Members.{Contains-none, Contains-filter, Contains-filter_from, Contains-map, Contains-map_from}
use Rattle.pool_types.specs.declared.values.Answer.{Answer}
use Rattle.pool_types.specs.declared.values.Leak.{Leak}
use Rattle.pool_types.specs.declared.values.Request.{Request}
use Rattle.part_model.specs.declared.holders.Holder.TheVariants.{Object}
use Rattle.part_model.specs.declared.moves.Part.{Part}
use Rattle.machine.specs.States.{Terms, State}
use Rattle.machine.specs.Journal.{Turn, is_object, after_turn}
use Rattle.machine.specs.Answers.{Moment, Call, granted, moved_parts, IsObject, IsAnswerTo}
use Rattle.machine.specs.Events.{Event, Begins, Makes, Reset_begins, Reset_ends, Ends, Serving, Resetting, Ended, Progress, no_progress, call_of, with_step, calls_after, after_other_begins, new_call, after_event, after_events}
use Rattle.machine.specs.Turns.{IsAnsweredSo, IsTurnIn}
use Rattle.machine.specs.Runs.{IsRunFrom, end_of}
use Rattle.machine.specs.Ledger.{granted_by, freed_by, granted_in, freed_in, got_by, got_at, got_in, HeldAreGotLessFreed}
use Rattle.machine.proofs.ObjectMoves.{object_move}
use Rattle.machine.proofs.Ledger.{IsLedger, first_inside}
use Rattle.machine.proofs.LedgerRuns.{ledger_moved, ledger_nothing, held_are_granted_less_freed}
use Rattle.machine.proofs.AnswerGrants.{freeing_in, is_granting, told_got, got_granted}

-- the objects that a call granted and freed so far
abbrev pub granted_of : Call → List Leak
granted_of call = flat_map granted_by (moved_parts call.moments)

abbrev pub freed_of : Call → List Leak
freed_of call = flat_map freed_by (moved_parts call.moments)

-- What was granted was got by an answer, or by a call that is open still; what was got was granted; and the open calls are of seats of their own.
pub record IsTold (calls : List Call) (granted freed got : List Leak) : Type 0 where
  pub was_granted : (leak : Leak) → Contains got leak → Contains granted leak
  pub told : (leak : Leak) → Contains granted leak → (Contains freed leak → ⊥) → Contains got leak ⊎ ((call : Call) × Contains calls call × Contains (granted_of call) leak)
  pub grants : (call : Call) → Contains calls call → (leak : Leak) → Contains (granted_of call) leak → Contains granted leak
  pub frees : (call : Call) → Contains calls call → (leak : Leak) → Contains (freed_of call) leak → Contains freed leak
  pub seats : (one other : Call) → Contains calls one → Contains calls other → one.seat ≡ other.seat → one ≡ other

-- a call's objects with one turn more
granted_more : (state : State) (turn : Turn) (call : Call) → granted_of (with_step state turn call) ≡ granted_of call ++ flat_map granted_by turn.parts
granted_more state turn call =
    ap (flat_map granted_by) (flat_map-append (λ (m : Moment). m.turn.parts) call.moments (record { state = state; turn = turn } ∷ []))
    ∙ flat_map-append granted_by (moved_parts call.moments) (turn.parts ++ [])
    ∙ ap (λ (ps : List Part). granted_of call ++ flat_map granted_by ps) (append-nil turn.parts)

freed_more : (state : State) (turn : Turn) (call : Call) → freed_of (with_step state turn call) ≡ freed_of call ++ flat_map freed_by turn.parts
freed_more state turn call =
    ap (flat_map freed_by) (flat_map-append (λ (m : Moment). m.turn.parts) call.moments (record { state = state; turn = turn } ∷ []))
    ∙ flat_map-append freed_by (moved_parts call.moments) (turn.parts ++ [])
    ∙ ap (λ (ps : List Part). freed_of call ++ flat_map freed_by ps) (append-nil turn.parts)

-- a call begins
told_begin : (progress : Progress) (seat : ℕ) (granted freed got : List Leak) (request : Request) → call_of progress seat ≡ None → IsTold progress.calls granted freed got →
    IsTold (map after_other_begins progress.calls ++ new_call progress seat request ∷ []) granted freed got
told_begin progress seat granted freed got request free told = record {
  was_granted = told.was_granted;
  told = λ leak member still. elim (told.told leak member still) [
    | inl answered ↦ inl answered
    | inr in_call ↦ inr (
      after_other_begins in_call.0,
      Contains-append_left (map after_other_begins progress.calls) (new_call progress seat request ∷ []) (after_other_begins in_call.0) (Contains-map_from after_other_begins progress.calls in_call.0 in_call.1),
      in_call.2,
    )
  ];
  grants = λ call member leak inside. elim (Contains-push_cases (map after_other_begins progress.calls) (new_call progress seat request) call member) [
    | inl old ↦ (let was = Contains-map after_other_begins progress.calls call old in told.grants was.0 was.1 leak (subst (λ c. Contains (granted_of c) leak) (sym was.2) inside))
    | inr is ↦ absurd (Contains-none leak (subst (λ c. Contains (granted_of c) leak) (sym is) inside))
  ];
  frees = λ call member leak inside. elim (Contains-push_cases (map after_other_begins progress.calls) (new_call progress seat request) call member) [
    | inl old ↦ (let was = Contains-map after_other_begins progress.calls call old in told.frees was.0 was.1 leak (subst (λ c. Contains (freed_of c) leak) (sym was.2) inside))
    | inr is ↦ absurd (Contains-none leak (subst (λ c. Contains (freed_of c) leak) (sym is) inside))
  ];
  seats = λ one other member member_other same. elim (Contains-push_cases (map after_other_begins progress.calls) (new_call progress seat request) one member) [
    | inl old ↦ (let was = Contains-map after_other_begins progress.calls one old in elim (Contains-push_cases (map after_other_begins progress.calls) (new_call progress seat request) other member_other) [
      | inl old' ↦ (let was' = Contains-map after_other_begins progress.calls other old' in
          sym was.2 ∙ ap after_other_begins (told.seats was.0 was'.0 was.1 was'.1 (ap (λ (c : Call). c.seat) was.2 ∙ same ∙ ap (λ (c : Call). c.seat) (sym was'.2))) ∙ was'.2)
      | inr is ↦ absurd (not_open was.0 was.1 (ap (λ (c : Call). c.seat) was.2 ∙ same ∙ ap (λ (c : Call). c.seat) (sym is)))
    ])
    | inr is ↦ elim (Contains-push_cases (map after_other_begins progress.calls) (new_call progress seat request) other member_other) [
      | inl old' ↦ (let was' = Contains-map after_other_begins progress.calls other old' in absurd (not_open was'.0 was'.1 (ap (λ (c : Call). c.seat) was'.2 ∙ sym same ∙ ap (λ (c : Call). c.seat) (sym is))))
      | inr is' ↦ sym is ∙ is'
    ]
  ];
}
  where
    not_open : (call : Call) → Contains progress.calls call → call.seat ≡ seat → ⊥
    not_open call member is =
        let clash : true ≡ false = sym (eq-eqb call.seat seat is) ∙ find-None (λ (call : Call). call.seat == seat) progress.calls free call member in cc

-- the call after a turn, if it is that of the turn's seat
abbrev pub step_of : Progress → Turn → Call → Call
step_of progress turn call = if call.seat == turn.seat then with_step progress.state turn call else call

step_seat : (progress : Progress) (turn : Turn) (call : Call) → (step_of progress turn call).seat ≡ call.seat
step_seat progress turn call = by_test (call.seat == turn.seat)
  where
    by_test : (b : Bool) → (if b then with_step progress.state turn call else call).seat ≡ call.seat
    by_test true = refl
    by_test false = refl

-- its objects are those that it had and those of the turn
step_grants : (progress : Progress) (turn : Turn) (call : Call) (leak : Leak) → Contains (granted_of (step_of progress turn call)) leak → Contains (granted_of call) leak ⊎ Contains (flat_map granted_by turn.parts) leak
step_grants progress turn call leak = by_test (call.seat == turn.seat)
  where
    by_test : (b : Bool) → Contains (granted_of (if b then with_step progress.state turn call else call)) leak → Contains (granted_of call) leak ⊎ Contains (flat_map granted_by turn.parts) leak
    by_test true m = Contains-append_cases (granted_of call) (flat_map granted_by turn.parts) leak (subst (λ ls. Contains ls leak) (granted_more progress.state turn call) m)
    by_test false m = inl m

step_frees : (progress : Progress) (turn : Turn) (call : Call) (leak : Leak) → Contains (freed_of (step_of progress turn call)) leak → Contains (freed_of call) leak ⊎ Contains (flat_map freed_by turn.parts) leak
step_frees progress turn call leak = by_test (call.seat == turn.seat)
  where
    by_test : (b : Bool) → Contains (freed_of (if b then with_step progress.state turn call else call)) leak → Contains (freed_of call) leak ⊎ Contains (flat_map freed_by turn.parts) leak
    by_test true m = Contains-append_cases (freed_of call) (flat_map freed_by turn.parts) leak (subst (λ ls. Contains ls leak) (freed_more progress.state turn call) m)
    by_test false m = inl m

step_keeps : (progress : Progress) (turn : Turn) (call : Call) (leak : Leak) → Contains (granted_of call) leak → Contains (granted_of (step_of progress turn call)) leak
step_keeps progress turn call leak inside = by_test (call.seat == turn.seat)
  where
    by_test : (b : Bool) → Contains (granted_of (if b then with_step progress.state turn call else call)) leak
    by_test true = subst (λ ls. Contains ls leak) (sym (granted_more progress.state turn call)) (Contains-append_left (granted_of call) (flat_map granted_by turn.parts) leak inside)
    by_test false = inside

step_adds : (progress : Progress) (turn : Turn) (call : Call) (leak : Leak) → call.seat ≡ turn.seat → Contains (flat_map granted_by turn.parts) leak → Contains (granted_of (step_of progress turn call)) leak
step_adds progress turn call leak same inside =
    subst (λ (b : Bool). Contains (granted_of (if b then with_step progress.state turn call else call)) leak) (sym (eq-eqb call.seat turn.seat same))
    (subst (λ ls. Contains ls leak) (sym (granted_more progress.state turn call)) (Contains-append_right (granted_of call) (flat_map granted_by turn.parts) leak inside))

-- a turn without an answer
told_step : (progress : Progress) (turn : Turn) (granted freed got : List Leak) → IsTold progress.calls granted freed got →
    ((leak : Leak) → Contains (flat_map granted_by turn.parts) leak → (call : Call) × Contains progress.calls call × (call.seat ≡ turn.seat)) →
    IsTold (map (λ call. step_of progress turn call) progress.calls) (granted ++ flat_map granted_by turn.parts) (freed ++ flat_map freed_by turn.parts) got
told_step progress turn granted freed got told by_call = record {
  was_granted = λ leak member. Contains-append_left granted (flat_map granted_by turn.parts) leak (told.was_granted leak member);
  told = λ leak member still. elim (Contains-append_cases granted (flat_map granted_by turn.parts) leak member) [
    | inl old ↦ elim (told.told leak old (λ gone. still (Contains-append_left freed (flat_map freed_by turn.parts) leak gone))) [
      | inl answered ↦ inl answered
      | inr in_call ↦ inr (
        step_of progress turn in_call.0,
        Contains-map_from (λ call. step_of progress turn call) progress.calls in_call.0 in_call.1,
        step_keeps progress turn in_call.0 leak in_call.2,
      )
    ]
    | inr new ↦ (let maker = by_call leak new in inr (
      step_of progress turn maker.0,
      Contains-map_from (λ call. step_of progress turn call) progress.calls maker.0 maker.1,
      step_adds progress turn maker.0 leak maker.2 new,
    ))
  ];
  grants = λ call member leak inside.
      let was = Contains-map (λ call. step_of progress turn call) progress.calls call member in
      elim (step_grants progress turn was.0 leak (subst (λ c. Contains (granted_of c) leak) (sym was.2) inside)) [
        | inl old ↦ Contains-append_left granted (flat_map granted_by turn.parts) leak (told.grants was.0 was.1 leak old)
        | inr new ↦ Contains-append_right granted (flat_map granted_by turn.parts) leak new
      ];
  frees = λ call member leak inside.
      let was = Contains-map (λ call. step_of progress turn call) progress.calls call member in
      elim (step_frees progress turn was.0 leak (subst (λ c. Contains (freed_of c) leak) (sym was.2) inside)) [
        | inl old ↦ Contains-append_left freed (flat_map freed_by turn.parts) leak (told.frees was.0 was.1 leak old)
        | inr new ↦ Contains-append_right freed (flat_map freed_by turn.parts) leak new
      ];
  seats = λ one other member member_other same.
      let was = Contains-map (λ call. step_of progress turn call) progress.calls one member in
      let was' = Contains-map (λ call. step_of progress turn call) progress.calls other member_other in
      let seat : was.0.seat ≡ was'.0.seat =
      sym (step_seat progress turn was.0) ∙ ap (λ (c : Call). c.seat) was.2 ∙ same ∙ sym (ap (λ (c : Call). c.seat) was'.2) ∙ step_seat progress turn was'.0 in
      sym was.2 ∙ ap (λ c. step_of progress turn c) (told.seats was.0 was'.0 was.1 was'.1 seat) ∙ was'.2;
}

-- a turn with an answer
told_answer : (terms : Terms) (progress : Progress) (turn : Turn) (granted freed got : List Leak) (call : Call) (answer : Answer) → IsTold progress.calls granted freed got →
    IsLedger (after_turn progress.state turn).held (after_turn progress.state turn).book (after_turn progress.state turn).last (granted ++ flat_map granted_by turn.parts) (freed ++ flat_map freed_by turn.parts) →
    Contains progress.calls call → call.seat ≡ turn.seat → IsAnswerTo terms (with_step progress.state turn call) (after_turn progress.state turn) call.request answer →
    IsTold (filter (λ call. not (call.seat == turn.seat)) progress.calls) (granted ++ flat_map granted_by turn.parts) (freed ++ flat_map freed_by turn.parts)
    (got ++ got_by (with_step progress.state turn call) (Some answer))
told_answer terms progress turn granted freed got call answer told ledger among same legal = record {
  was_granted = λ leak member. elim (Contains-append_cases got (got_by (with_step progress.state turn call) (Some answer)) leak member) [
    | inl old ↦ Contains-append_left granted (flat_map granted_by turn.parts) leak (told.was_granted leak old)
    | inr new ↦ in_granted leak (got_granted terms (with_step progress.state turn call) (after_turn progress.state turn) answer leak legal new)
  ];
  told = λ leak member still. elim (Contains-append_cases granted (flat_map granted_by turn.parts) leak member) [
    | inl old ↦ elim (told.told leak old (λ gone. still (Contains-append_left freed (flat_map freed_by turn.parts) leak gone))) [
      | inl answered ↦ inl (Contains-append_left got (got_by (with_step progress.state turn call) (Some answer)) leak answered)
      | inr in_call ↦ elim (cases_Bool (in_call.0.seat == turn.seat)) [
        | inl here ↦ inl (now leak member still (of_call leak (inl (subst (λ c. Contains (granted_of c) leak)
            (told.seats in_call.0 call in_call.1 among (eqb-true in_call.0.seat turn.seat here ∙ sym same)) in_call.2))))
        | inr other ↦ inr (
          in_call.0,
          Contains-filter_from (λ (c : Call). not (c.seat == turn.seat)) progress.calls in_call.0 in_call.1 (ap not other),
          in_call.2,
        )
      ]
    ]
    | inr new ↦ inl (now leak member still (of_call leak (inr new)))
  ];
  grants = λ other member leak inside. Contains-append_left granted (flat_map granted_by turn.parts) leak (told.grants other (kept other member) leak inside);
  frees = λ other member leak inside. Contains-append_left freed (flat_map freed_by turn.parts) leak (told.frees other (kept other member) leak inside);
  seats = λ one other member member_other is. told.seats one other (kept one member) (kept other member_other) is;
}
  where
    kept : (other : Call) → Contains (filter (λ call. not (call.seat == turn.seat)) progress.calls) other → Contains progress.calls other
    kept other member = (Contains-filter (λ (c : Call). not (c.seat == turn.seat)) progress.calls other member).0

    of_call : (leak : Leak) → Contains (granted_of call) leak ⊎ Contains (flat_map granted_by turn.parts) leak → Contains (granted_of (with_step progress.state turn call)) leak
    of_call leak (inl old) = subst (λ ls. Contains ls leak) (sym (granted_more progress.state turn call)) (Contains-append_left (granted_of call) (flat_map granted_by turn.parts) leak old)
    of_call leak (inr new) = subst (λ ls. Contains ls leak) (sym (granted_more progress.state turn call)) (Contains-append_right (granted_of call) (flat_map granted_by turn.parts) leak new)

    in_granted : (leak : Leak) → Contains (granted_of (with_step progress.state turn call)) leak → Contains (granted ++ flat_map granted_by turn.parts) leak
    in_granted leak inside = elim (Contains-append_cases (granted_of call) (flat_map granted_by turn.parts) leak (subst (λ ls. Contains ls leak) (granted_more progress.state turn call) inside)) [
      | inl old ↦ Contains-append_left granted (flat_map granted_by turn.parts) leak (told.grants call among leak old)
      | inr new ↦ Contains-append_right granted (flat_map granted_by turn.parts) leak new
    ]

    in_freed : (leak : Leak) → Contains (freed_of (with_step progress.state turn call)) leak → Contains (freed ++ flat_map freed_by turn.parts) leak
    in_freed leak inside = elim (Contains-append_cases (freed_of call) (flat_map freed_by turn.parts) leak (subst (λ ls. Contains ls leak) (freed_more progress.state turn call) inside)) [
      | inl old ↦ Contains-append_left freed (flat_map freed_by turn.parts) leak (told.frees call among leak old)
      | inr new ↦ Contains-append_right freed (flat_map freed_by turn.parts) leak new
    ]

    -- what the call granted and is not freed, its answer says
    now : (leak : Leak) → Contains (granted ++ flat_map granted_by turn.parts) leak → (Contains (freed ++ flat_map freed_by turn.parts) leak → ⊥) → Contains (granted_of (with_step progress.state turn call)) leak →
        Contains (got ++ got_by (with_step progress.state turn call) (Some answer)) leak
    now leak member still inside =
        let held : (after_turn progress.state turn).held leak.place ≡ Some (Object leak.grant) = ledger.kept leak member still leak.place (first_inside leak (ledger.below leak member).1) in
        Contains-append_right got (got_by (with_step progress.state turn call) (Some answer)) leak
        (told_got terms (with_step progress.state turn call) (after_turn progress.state turn) answer leak legal inside
        (λ part part_in from.
        (ledger.gone (record { place = part.range.place; usable = part.range.bytes; grant = leak.grant })
        (in_freed (record { place = part.range.place; usable = part.range.bytes; grant = leak.grant }) (freeing_in (moved_parts (with_step progress.state turn call).moments) part leak.grant part_in from))).1 leak.place held)
        held)

-- what a turn grants, an open call of its seat grants
granted_in_call : (terms : Terms) (progress : Progress) (turn : Turn) → IsTurnIn terms progress turn (call_of progress turn.seat) →
    (leak : Leak) → Contains (flat_map granted_by turn.parts) leak → (call : Call) × Contains progress.calls call × (call.seat ≡ turn.seat)
granted_in_call terms progress turn fits leak member = by_call (call_of progress turn.seat) refl fits
  where
    by_call : (begun : Option Call) → call_of progress turn.seat ≡ begun → IsTurnIn terms progress turn begun → (call : Call) × Contains progress.calls call × (call.seat ≡ turn.seat)
    by_call (Some call) is of_call =
        let found = find-Some (λ (call : Call). call.seat == turn.seat) progress.calls call is in
        (call, found.0, eqb-true call.seat turn.seat found.1)
    by_call None is of_reset =
        let granting = is_granting turn.parts leak member in
        absurd (Contains-none granting.part (subst (λ ps. Contains ps granting.part) of_reset.grants
        (Contains-filter_from (λ (part : Part). is_object part.to) turn.parts granting.part granting.member (ap is_object granting.to))))

-- any turn that may be made
told_turn : (terms : Terms) (progress : Progress) (turn : Turn) (granted freed got : List Leak) → IsTold progress.calls granted freed got →
    IsLedger (after_turn progress.state turn).held (after_turn progress.state turn).book (after_turn progress.state turn).last (granted ++ flat_map granted_by turn.parts) (freed ++ flat_map freed_by turn.parts) →
    IsTurnIn terms progress turn (call_of progress turn.seat) →
    IsTold (calls_after progress turn) (granted ++ flat_map granted_by turn.parts) (freed ++ flat_map freed_by turn.parts) (got ++ got_at progress turn (call_of progress turn.seat))
told_turn terms progress turn granted freed got told ledger fits = by_call (call_of progress turn.seat) refl fits
  where
    unanswered : turn.answer ≡ None → IsTold (calls_after progress turn) (granted ++ flat_map granted_by turn.parts) (freed ++ flat_map freed_by turn.parts) got
    unanswered is =
        subst (λ (b : Bool). IsTold (if b then filter (λ call. not (call.seat == turn.seat)) progress.calls
        else map (λ call. if call.seat == turn.seat then with_step progress.state turn call else call) progress.calls)
        (granted ++ flat_map granted_by turn.parts) (freed ++ flat_map freed_by turn.parts) got) (sym (ap is_some is))
        (told_step progress turn granted freed got told (granted_in_call terms progress turn fits))

    by_answer : (call : Call) (answer : Option Answer) → turn.answer ≡ answer → call_of progress turn.seat ≡ Some call → IsAnsweredSo terms progress (with_step progress.state turn call) turn answer →
        IsTold (calls_after progress turn) (granted ++ flat_map granted_by turn.parts) (freed ++ flat_map freed_by turn.parts) (got ++ got_by (with_step progress.state turn call) turn.answer)
    by_answer call None said is answered =
        subst (λ ls. IsTold (calls_after progress turn) (granted ++ flat_map granted_by turn.parts) (freed ++ flat_map freed_by turn.parts) ls)
        (sym (ap (λ a. got ++ got_by (with_step progress.state turn call) a) said ∙ append-nil got)) (unanswered said)
    by_answer call (Some answer) said is answered =
        let found = find-Some (λ (call : Call). call.seat == turn.seat) progress.calls call is in
        subst (λ a. IsTold (if is_some a then filter (λ call. not (call.seat == turn.seat)) progress.calls
        else map (λ call. if call.seat == turn.seat then with_step progress.state turn call else call) progress.calls)
        (granted ++ flat_map granted_by turn.parts) (freed ++ flat_map freed_by turn.parts) (got ++ got_by (with_step progress.state turn call) a)) (sym said)
        (told_answer terms progress turn granted freed got call answer told ledger found.0 (eqb-true call.seat turn.seat found.1) answered.legal.answers)

    by_call : (begun : Option Call) → call_of progress turn.seat ≡ begun → IsTurnIn terms progress turn begun →
        IsTold (calls_after progress turn) (granted ++ flat_map granted_by turn.parts) (freed ++ flat_map freed_by turn.parts) (got ++ got_at progress turn begun)
    by_call (Some call) is of_call = by_answer call turn.answer refl is of_call.answered
    by_call None is of_reset =
        subst (λ ls. IsTold (calls_after progress turn) (granted ++ flat_map granted_by turn.parts) (freed ++ flat_map freed_by turn.parts) ls)
        (sym (append-nil got)) (unanswered of_reset.answer)

-- the ledger, and what the answers told of it
pub record IsToldLedger (progress : Progress) (granted freed got : List Leak) : Type 0 where
  pub ledger : IsLedger progress.state.held progress.state.book progress.state.last granted freed
  pub told : IsTold progress.calls granted freed got

told_run : (terms : Terms) (progress : Progress) (events : List Event) (granted freed got : List Leak) → IsRunFrom terms progress events →
    (progress.phase ≢ Ended → IsToldLedger progress granted freed got) → (after_events progress events).phase ≢ Ended →
    IsTold (after_events progress events).calls (granted ++ granted_in events) (freed ++ freed_in events) (got ++ got_in progress events)
told_run terms progress [] granted freed got run both going =
    subst (λ ls. IsTold progress.calls ls (freed ++ []) (got ++ [])) (sym (append-nil granted))
    (subst (λ ls. IsTold progress.calls granted ls (got ++ [])) (sym (append-nil freed))
    (subst (λ ls. IsTold progress.calls granted freed ls) (sym (append-nil got)) (both going).told))
told_run terms progress (Begins seat request ∷ events) granted freed got (may, run) both going =
    told_run terms (after_event progress (Begins seat request)) events granted freed got run
    (λ open_yet. record { ledger = (both open_yet).ledger; told = told_begin progress seat granted freed got request may.free (both open_yet).told }) going
told_run terms progress (Makes turn ∷ events) granted freed got (may, run) both going =
    subst (λ ls. IsTold (after_events progress (Makes turn ∷ events)).calls ls (freed ++ freed_in (Makes turn ∷ events)) (got ++ got_in progress (Makes turn ∷ events)))
    (append_assoc granted (flat_map granted_by turn.parts) (granted_in events))
    (subst (λ ls. IsTold (after_events progress (Makes turn ∷ events)).calls ((granted ++ flat_map granted_by turn.parts) ++ granted_in events) ls (got ++ got_in progress (Makes turn ∷ events)))
    (append_assoc freed (flat_map freed_by turn.parts) (freed_in events))
    (subst (λ ls. IsTold (after_events progress (Makes turn ∷ events)).calls ((granted ++ flat_map granted_by turn.parts) ++ granted_in events) ((freed ++ flat_map freed_by turn.parts) ++ freed_in events) ls)
    (append_assoc got (got_at progress turn (call_of progress turn.seat)) (got_in (after_event progress (Makes turn)) events))
    (told_run terms (after_event progress (Makes turn)) events (granted ++ flat_map granted_by turn.parts) (freed ++ flat_map freed_by turn.parts) (got ++ got_at progress turn (call_of progress turn.seat)) run
    (λ open_yet. by_both (both open_yet)) going)))
  where
    by_both : IsToldLedger progress granted freed got → IsToldLedger (after_event progress (Makes turn)) (granted ++ flat_map granted_by turn.parts) (freed ++ flat_map freed_by turn.parts) (got ++ got_at progress turn (call_of progress turn.seat))
    by_both was =
        let next : IsLedger (after_turn progress.state turn).held (after_turn progress.state turn).book (after_turn progress.state turn).last (granted ++ flat_map granted_by turn.parts) (freed ++ flat_map freed_by turn.parts) =
        ledger_moved terms progress.state turn.seat turn.parts turn.book granted freed
        (object_move terms progress.state turn.seat turn.parts turn.book turn.region may.lawful) may.apart may.there was.ledger in
        record { ledger = next; told = told_turn terms progress turn granted freed got was.told next may.fits }
told_run terms progress (Reset_begins ∷ events) granted freed got (may, run) both going =
    told_run terms (after_event progress Reset_begins) events granted freed got run
    (λ open_yet. (let was = both (λ ended. let clash : Serving ≡ Ended = sym may.1 ∙ ended in cc) in record { ledger = was.ledger; told = was.told })) going
told_run terms progress (Reset_ends ∷ events) granted freed got (may, run) both going =
    told_run terms (after_event progress Reset_ends) events granted freed got run
    (λ open_yet. (let was = both (λ ended. let clash : Resetting ≡ Ended = sym may.0 ∙ ended in cc) in record { ledger = was.ledger; told = was.told })) going
told_run terms progress (Ends farewells ∷ events) granted freed got (may, run) both going =
    told_run terms (after_event progress (Ends farewells)) events granted freed got run (λ open_yet. absurd (open_yet refl)) going

-- nothing was told
told_nothing : IsToldLedger no_progress [] [] []
told_nothing = record {
  ledger = ledger_nothing;
  told = record {
    was_granted = λ leak member. absurd (Contains-none leak member);
    told = λ leak member still. absurd (Contains-none leak member);
    grants = λ call member. absurd (Contains-none call member);
    frees = λ call member. absurd (Contains-none call member);
    seats = λ one other member. absurd (Contains-none one member);
  };
}

-- where no call is open, the objects that are held are those that answers got, less those that were freed
pub held_are_got_less_freed : HeldAreGotLessFreed
held_are_got_less_freed terms events run rest going leak = (to, from)
  where
    told : IsTold (after_events no_progress events).calls (granted_in events) (freed_in events) (got_in no_progress events)
    told = told_run terms no_progress events [] [] [] run.1 (λ open_yet. told_nothing) going

    held : IsObject (end_of events) leak.place leak.usable leak.grant ↔ (Contains (granted_in events) leak × (Contains (freed_in events) leak → ⊥))
    held = held_are_granted_less_freed terms events run going leak

    to : IsObject (end_of events) leak.place leak.usable leak.grant → Contains (got_in no_progress events) leak × (Contains (freed_in events) leak → ⊥)
    to object =
        let both = held.0 object in
        elim (told.told leak both.0 both.1) [
          | inl got ↦ (got, both.1)
          | inr in_call ↦ absurd (Contains-none in_call.0 (subst (λ cs. Contains cs in_call.0) rest in_call.1))
        ]

    from : Contains (got_in no_progress events) leak × (Contains (freed_in events) leak → ⊥) → IsObject (end_of events) leak.place leak.usable leak.grant
    from both = held.1 (told.was_granted leak both.0, both.1)
