-- A pool that is made quiet, and its turns.
use Rattle.std.proofs.Common.{◌≡◌, ℕ, zero, suc, ◌+◌, ◌%◌, ◌^◌, ◌≤◌, Bool, true, false, cond, List, []}
use Rattle.std.proofs.Common.{◌∷◌, length}
use Rattle.std.proofs.Common.{refl, sym, ap, ◌∙◌, subst, inl, arith}
use Rattle.std.proofs.lemmas.List.{length-map}
use Rattle.std.specs.Prelude.{Option, Some, None, slice_get, slice_set, slice_index, not}
use Rattle.std.proofs.lemmas.List.{get_or_past}
use mathlib.Core.Option.{some, some-injective, some-ne-none}
use lib.ListN.{get_elem?}
use Rattle.atomic_table.specs.Seated.{TableId}
use Rattle.atomic_table.specs.Table.{Me}
use Rattle.atomic_table.proofs.Lists.{at_map}
use Rattle.pool_types.specs.declared.raw.Raw.{Ghosts}
use Rattle.pool_types.specs.declared.values.Region.{Region}
use Rattle.pool_types.specs.declared.values.Turn.{Turn}
use Rattle.pool_words.specs.declared.actions.Seen.{Seen}
use Rattle.pool_words.specs.declared.words.Key.{Key}
use Rattle.pool_words.specs.Words.{words_of}
use Rattle.pool_words.specs.Actions.{finds, after_action}
use Rattle.regions.specs.Offices.{Desk}
use Rattle.region_steps.specs.declared.office.OfficeAt.{OfficeAt}
use Rattle.step_local.specs.declared.frames.At.{At}
use Rattle.step_local.specs.declared.frames.Local.{Local}
use Rattle.step_local.specs.Course.{course}
use Rattle.step_local.specs.Getting.{is_idle}
use Rattle.step_local.specs.Learn.{learn}
use Rattle.step_core.specs.Machines.{lowest_from, lowest_in_call}
use Rattle.step_core.specs.Steps.{told_at, told_of_seat}
use Rattle.step_runs.specs.declared.entry.Entry.{Entry}
use Rattle.step_runs.specs.Callbacks.{office_of}
use Rattle.step_runs.specs.Entries.{learnt, seen_by}
use Rattle.step_runs.specs.Places.{has_word, Carry, HasDesk, away, carry_of, passed_at}
use Rattle.step_runs.specs.Runs.{Callback, Passes, Silent, Run}
use Rattle.step_runs.specs.Runs.Silent.{rests, begins, resets, answers, obtains, takes_out, puts_back}
use Rattle.step_runs.proofs.CallerLemmas.{has_none, office_keeps, other_turns_lead, run_stands}
use Rattle.atomic_driver.specs.declared.rule.Note.{Note}
use Rattle.atomic_driver.specs.declared.rule.Plan.{Plan}
use Rattle.atomic_driver.specs.declared.rule.View.{View}
use Rattle.atomic_driver.specs.declared.seat.DriverSeat.{DriverSeat}
use Rattle.atomic_driver.specs.Rule.{key_by, plain, IsMade}
use Rattle.atomic_driver.specs.Seating.{IsFrom, IsPool}
use Rattle.atomic_driver.specs.Steps.{desk_at, own_of, PoolDriven, SlotOut}
use Rattle.atomic_driver.specs.declared.pool.Shared.{Shared}
use Rattle.step_runs.specs.Laws.{IsOf}
use Rattle.atomic_driver.proofs.CallerLemmas.{at_low, at_some, driven_by}
use Rattle.pool_api.specs.Heaps.{entry_of}
use Rattle.quiet_pool.specs.Calls.{AreHeapsAt, HavePlaces, IsHeapAt, IsResumed, entries_of}
use Rattle.quiet_pool.specs.Held.{ArePlans, IsHeld, IsNoted, locals_of, plans_of, quiet_of}
use Rattle.quiet_pool.specs.Noting.{IsAll, IsWhole, noted}
use Rattle.quiet_pool.specs.Quiet.{AreIdle, IsBehind, IsState, Quiet, words_noted}
use Rattle.quiet_pool.specs.Reading.{CanRead}
use Rattle.quiet_pool.specs.Stepping.{value_noted, CanStep, entry_at, me_stepped, me_turned, turned, turned_of}
use Rattle.quiet_pool.specs.Stepping.{view_stepped}
use Rattle.quiet_pool.proofs.Lists.{at_image, at_of, same_list}
use Rattle.quiet_pool.proofs.States.{behind_here, entry_there, leaves_words, turned_state}

-- where the office is not taken, no region was passed
none_passed : (l : Local) (at : At) → carry_of at ≡ away → passed_at l at ≡ None
none_passed l (At.Office job (OfficeAt.Back end)) e = absurd (cc)
none_passed l _ e = refl

module _ {D : Type 0} (c : Callback D) where
  -- a seat that has not taken the office had as much of it at its last step
  pub away_desk : {l : Local} {desk : Option D} {now : Local} {after : Option D} → Silent c l desk now after
      → carry_of now.at ≡ away → after ≡ desk
  away_desk {l} {desk} (rests {after = after} passes) e =
      subst (λ (first : Option ℕ). Passes c first desk after) (none_passed l l.at e) passes
  away_desk (begins {now = now} silent request) e = away_desk silent (sym ((other_turns_lead now).begins request) ∙ e)
  away_desk (resets {now = now} silent reset) e = away_desk silent (sym ((other_turns_lead now).resets reset) ∙ e)
  away_desk (answers {now = now} silent is) e = away_desk silent ((other_turns_lead now).answers is).from
  away_desk (obtains {now = now} silent granules answer after is asks) e =
      let to = ((other_turns_lead now).obtains granules answer is).to in absurd (cc)
  away_desk (takes_out {now = now} silent first is) e =
      let to = ((other_turns_lead now).takes_out first is).to in absurd (cc)
  away_desk (puts_back {now = now} silent is) e = let to = ((other_turns_lead now).puts_back is).to in absurd (cc)

pub idle_away : (at : At) → is_idle at ≡ true → carry_of at ≡ away
idle_away (At.Office job at) e = absurd (cc)
idle_away _ e = refl

-- where no seat is in a call, each is idle
idle_from : (seat : ℕ) (locals : List Local) → lowest_from seat locals ≡ None → AreIdle locals
idle_from seat [] none i l at = absurd (some-ne-none l (sym at))
idle_from seat (x ∷ xs) none i l at = by (is_idle x.at) refl (λ e. idle_from (seat + 1) xs e) i at
  where
    by : (b : Bool) → is_idle x.at ≡ b → (lowest_from (seat + 1) xs ≡ None → AreIdle xs) → (i : ℕ)
        → get_elem? (x ∷ xs) i ≡ some l → is_idle l.at ≡ true
    by true idle later zero at = subst (λ (y : Local). is_idle y.at ≡ true) (some-injective x l at) idle
    by true idle later (suc i) at =
        later (subst (λ (b : Bool). cond (not b) (Some (seat % 2 ^ 8)) (lowest_from
        (seat + 1) xs) ≡ None) idle none) i l at
    by false idle later i at = absurd (let e : Some (seat % 2 ^ 8) ≡ None =
        subst (λ (b : Bool). cond (not b) (Some (seat % 2 ^ 8)) (lowest_from (seat + 1) xs) ≡ None) idle none in cc)

pub all_idle : (locals : List Local) → lowest_in_call locals ≡ None → AreIdle locals
all_idle locals none = idle_from 0 locals none

module _ {R : Type 0} (out : R → List Region) (faults : R → ℕ) (got : R → ℕ → Option Region → R → Type 0)
    (passed : R → Region → Bool → R → Type 0) where
  abbrev callback : Plan → Callback (Desk R)
  callback plan = office_of out faults got passed (key_by plan)

  -- what a heap in no call has
  pub behind_heap : {raw : Ghosts R} (table : TableId) (plan : Plan) (seat : ℕ) (x : DriverSeat R raw)
      → IsHeapAt out faults got passed table plan seat x → is_idle x.local.at ≡ true
      → Silent (callback plan) (entry_of x).local (entry_of x).desk x.local None × ((entry_of x).desk ≡ None)
  behind_heap table plan seat x is idle =
      let no_carry = idle_away x.local.at idle in
      let d = is.driven in
      let none : desk_at (carry_of x.local.at) x.office x.place.me.1 ≡ None =
      ap (λ (z : Carry). desk_at z x.office x.place.me.1) no_carry in
      let keyed : own_of (key_by x.plan) x.place.me.0.entries ≡ entry_of x = ap (λ
      (k : Key). own_of k x.place.me.0.entries) (sym x.keyed) in
      let since = subst (λ (z : Option (Desk R) × Entry (Desk R) × Plan). Silent
      (callback z.2) z.1.local z.1.desk x.local z.0)
      (λ i. (none i, keyed i, is.same_plan i)) d.since in
      (since, sym (away_desk (callback plan) since no_carry))

  -- the entries of all heaps
  pub all_entries : {raw : Ghosts R} (table : TableId) (plan : Plan) (heaps : List (DriverSeat R raw))
      → AreHeapsAt out faults got passed table plan heaps → AreIdle (locals_of heaps)
      → length heaps ≡ (key_by plan).seats → IsAll (key_by plan) (entries_of heaps)
  all_entries {raw} table plan heaps are idle count = record {
    many = length-map heaps entry_of ∙ count;
    each = λ seat e at. let x = at_image entry_of heaps seat e at in
        ap (λ (y : Entry (Desk R)). y.seat) (sym x.is) ∙ (are seat x.one x.at).number;
    none = λ seat e at. let x = at_image entry_of heaps seat e at in
        ap (λ (y : Entry (Desk R)). y.desk) (sym x.is)
        ∙ (behind_heap table plan seat x.one (are seat x.one x.at) (idle seat x.one.local
        (at_local heaps seat x.one x.at))).1;
  }
    where
      at_local : (xs : List (DriverSeat R raw)) (i : ℕ) (x : DriverSeat R raw) → get_elem? xs i ≡ some x
          → get_elem? (locals_of xs) i ≡ some x.local
      at_local [] i x at = absurd (some-ne-none x (sym at))
      at_local (y ∷ ys) zero x at = ap (λ (z : DriverSeat R raw). some z.local) (some-injective y x at)
      at_local (y ∷ ys) (suc i) x at = at_local ys i x at

  -- the entries with these words and this office, and locals of the same seats, are a quiet pool
  pub made_state : (plan : Plan) (words : List ℕ) (desk : Desk R) (locals : List Local) (entries : List (Entry
      (Desk R)))
      → IsWhole (callback plan) (key_by plan) (IsMade out plan) words desk entries
      → length entries ≡ (key_by plan).seats → length locals ≡ (key_by plan).seats
      → ((seat : ℕ) (l : Local) (e : Entry (Desk R)) → get_elem? locals seat ≡ some l → get_elem? entries seat ≡ some e
      → IsBehind (callback plan) e l)
      → IsState out faults got passed (record {
        plan = plan;
        words = words;
        desk = desk;
        locals = locals;
        entries =
            entries;
      })
  made_state plan words desk locals entries whole many count behind = record {
    raw = whole.is_first.raw;
    none_out = whole.is_first.none_out;
    all = whole.all;
    run = subst (λ (first : Desk R). Run (callback plan) (key_by plan) first words (Some desk) whole.all)
        whole.is_first.desk_is whole.run;
    many = many;
    each = whole.each;
    others = whole.others;
    count = count;
    behind = behind;
  }

  -- what holds of a pool that is made quiet with these heaps
  pub record IsReady {raw : Ghosts R} (plan : Plan) (desk : Desk R) (me : Me (Option (Desk R)) (View (Desk R)))
      (now : List (DriverSeat R raw)) : Type 0 where
    pub is_noted : IsNoted desk me
    pub plans : ArePlans plan (plans_of now)
    pub state : IsState out faults got passed (quiet_of plan desk (locals_of now) me)
    pub idle : AreIdle (locals_of now)

  pub is_ready : {raw : Ghosts R} (table : TableId) (plan : Plan) (heaps now : List (DriverSeat R raw)) (desk : Desk R)
      (words : List ℕ) (me : Me (Option (Desk R)) (View (Desk R))) → AreHeapsAt out faults got passed table plan heaps
      → AreIdle (locals_of heaps) → length heaps ≡ (key_by plan).seats → locals_of now ≡ locals_of heaps
      → plans_of now ≡ plans_of heaps → me ≡ (noted (entries_of heaps) words desk, (0, None) ∷ [])
      → IsWhole (callback plan) (key_by plan) (IsMade out plan) words desk (entries_of heaps)
      → IsReady plan desk me now
  is_ready {raw} table plan heaps now desk words me are idle count locals plans is_noted whole = record {
    is_noted = subst (λ (z : Me (Option (Desk R)) (View (Desk R))). IsNoted desk z) (sym is_noted) refl;
    plans = λ i one at.
        let x = at_image (λ (y : DriverSeat R raw). y.plan) heaps i one (ap (λ ps. get_elem? ps i) (sym plans) ∙ at) in
        sym x.is ∙ (are i x.one x.at).same_plan;
    state = subst (λ (z : List Local × Me (Option (Desk R)) (View (Desk R))). IsState out faults got passed
        (quiet_of plan desk z.0 z.1)) (λ j. (sym locals j, sym is_noted j)) here;
    idle = subst AreIdle (sym locals) idle;
  }
    where
      all : IsAll (key_by plan) (entries_of heaps)
      all = all_entries table plan heaps are idle count

      one_heap : (i : ℕ) (x y : DriverSeat R raw) → get_elem? heaps i ≡ some x → get_elem? heaps i ≡ some y → x ≡ y
      one_heap i x y at at_y = some-injective x y (sym at ∙ at_y)

      here : IsState out faults got passed (quiet_of plan desk (locals_of heaps) (
        noted
            (entries_of heaps) words desk,
        (0, None) ∷ [],
      ))
      here = made_state plan words desk (locals_of heaps) (entries_of heaps) whole all.many
          (length-map heaps (λ (y : DriverSeat R raw). y.local) ∙ count) (λ seat l e at at_e.
          let x = at_image (λ (y : DriverSeat R raw). y.local) heaps seat l at in
          let y = at_image entry_of heaps seat e at_e in
          let same = one_heap seat y.one x.one y.at x.at in
          let rests = idle seat l at in
          let b = behind_heap table plan seat x.one (are seat x.one x.at) (subst (λ
          (z : Local). is_idle z.at ≡ true) (sym x.is) rests) in
          let entry_is : entry_of x.one ≡ e = ap entry_of (sym same) ∙ y.is in
          record {
            since = subst (λ (z : Entry (Desk R) × Local). Silent (callback plan) z.0.local z.0.desk z.1 None)
                (λ j. (entry_is j, x.is j)) b.0;
            may = inl rests;
          })

  -- a turn
  module _ (plan : Plan) (desk : Desk R) (locals : List Local) (me : Me (Option (Desk R)) (View (Desk R))) (seat : ℕ)
      (is_noted : IsNoted desk me) (st : IsState out faults got passed (quiet_of plan desk locals me)) where
    abbrev q : Quiet R
    q = quiet_of plan desk locals me

    abbrev k : Key
    k = key_by plan

    abbrev note : Note (Desk R)
    note = record { words = words_noted me.0.note; office = desk }

    pub note_is : me.0.note ≡ Some note
    note_is = ap (λ (z : Me (Option (Desk R)) (View (Desk R))). z.0.note) is_noted

    pub note_sized : length (words_noted me.0.note) ≡ words_of k
    note_sized = (run_stands st.run).sized

    module _ (l : Local) (at : slice_get locals seat ≡ Some l) where
      pub can_step : CanStep (callback plan) k seat l me
      can_step =
          let behind = behind_here out faults got passed q st seat l at in
          record {
            note = note;
            is_noted = note_is;
            sized = note_sized;
            row = λ i e at_e. ap (λ (x : Entry (Desk R)). x.seat) (sym (st.each i e at_e)) ∙
                (run_stands st.run).seats i;
            there = entry_there k me.0.entries seat (let low = at_low locals seat l (at_of locals seat l at) in
                let many = st.many in let count = st.count in omega arith);
            behind = behind;
          }

      -- what a turn leaves
      pub record Turns (turn : Turn) (locals_now : List Local) (me_now : Me (Option (Desk R)) (View (Desk R)))
          : Type 0 where
        pub noted_now : IsNoted desk me_now
        pub turned_now : (quiet_of plan desk locals_now me_now, turn) ≡ turned q seat
        pub state_now : IsState out faults got passed (quiet_of plan desk locals_now me_now)

      abbrev f : ℕ
      f = finds k (words_noted me.0.note) (course l)

      abbrev now : Me (Option (Desk R)) (View (Desk R))
      now = (
        noted (slice_set me.0.entries seat (learnt (entry_at k me.0.entries seat) l (Some desk) None f))
            (after_action k (words_noted me.0.note) (course l)) desk,
        (0, None) ∷ [],
      )

      abbrev locals_next : List Local
      locals_next = slice_set locals seat (learn l (seen_by (course l) f)).0

      stepped_is : me_stepped k seat l me ≡ now
      stepped_is =
          subst (λ (z : Option (Note (Desk R))). (view_stepped k seat l me.0 z, me.1) ≡ now) (sym note_is)
          (ap (λ (slots : List (ℕ × Option (Desk R))). (now.0, slots))
          (ap (λ (z : Me (Option (Desk R)) (View (Desk R))). z.1) is_noted))

      abbrev Leads : Me (Option (Desk R)) (View (Desk R)) → Type 0
      Leads after = IsNoted desk after × ((
        quiet_of plan desk locals_next after,
        (learn l (seen_by
            (course l) f)).1,
      ) ≡ turned_of (Some l) q seat)

      leads : Leads (me_turned k seat l me)
      leads = by (has_word (course l)) refl
        where
          by : (b : Bool) → has_word (course l) ≡ b → Leads (cond b (me_stepped k seat l me) me)
          by true word = subst Leads (sym stepped_is) (
            refl,
            ap (λ (b : Bool). (
              record {
                plan = plan;
                words = after_action k (words_noted me.0.note) (course l);
                desk = desk;
                locals = locals_next;
                entries = cond b (slice_set me.0.entries seat (learnt (entry_at k me.0.entries seat) l
                    (Some desk) None f)) me.0.entries;
              },
              (learn l (seen_by (course l) f)).1,
            )) (sym word),
          )
          by false none = (
            is_noted,
            λ j. (
              record {
                plan = plan;
                words = sym (leaves_words k (words_noted me.0.note) (course l) none) j;
                desk = desk;
                locals = locals_next;
                entries = cond (sym none j) (slice_set me.0.entries seat (learnt (entry_at k me.0.entries seat) l
                    (Some desk) None f)) me.0.entries;
              },
              (learn l (seen_by (course l) f)).1,
            ),
          )

      pub turns : (seen : Seen) (turn : Turn) (locals_now : List Local) (me_now : Me (Option (Desk R)) (View (Desk R)))
          → seen ≡ seen_by (course l) f → me_now ≡ me_turned k seat l me → locals_now ≡ (told_at locals seat seen).0
          → turn ≡ (told_at locals seat seen).1 → Turns turn locals_now me_now
      turns seen turn locals_now me_now seen_is me_is locals_is turn_is =
          let told : told_at locals seat seen ≡ (locals_next, (learn l (seen_by (course l) f)).1) =
          ap (λ (one : Option Local). told_of_seat one locals seat seen) at
          ∙ ap (λ (s : Seen). (slice_set locals seat (learn l s).0, (learn l s).1)) seen_is in
          let ends = subst Leads (sym me_is) leads in
          let same : (quiet_of plan desk locals_now me_now, turn) ≡ turned q seat =
          (λ j. (quiet_of plan desk ((locals_is ∙ ap (λ z. z.0) told) j) me_now, (turn_is ∙ ap (λ z. z.1) told) j))
          ∙ ends.1 ∙ ap (λ (one : Option Local). turned_of one q seat) (sym at) in
          record {
            noted_now = ends.0;
            turned_now = same;
            state_now = subst (λ (z : Quiet R × Turn). IsState out faults got passed z.0) (sym same)
                (turned_state out faults got passed q seat st);
          }

-- a word that is none is noted as 0
pub void_noted : {D : Type 0} (k : Key) (one : Option (Note D)) (note : Note D) → one ≡ Some note
    → length note.words ≡ words_of k → (i : ℕ) → words_of k ≤ i → slice_index (words_noted one) i ≡ 0
void_noted {D} k one note is sized i past =
    ap (λ (n : Option (Note D)). slice_index (words_noted n) i) is ∙ get_or_past note.words i 0 (omega arith)

pub found_noted : {D : Type 0} (one : Option (Note D)) (i : ℕ) → value_noted one i ≡ slice_index (words_noted one) i
found_noted None zero = refl
found_noted None (suc i) = refl
found_noted (Some one) i = refl

module _ {R : Type 0} (out : R → List Region) (faults : R → ℕ) (got : R → ℕ → Option Region → R → Type 0)
    (passed : R → Region → Bool → R → Type 0) where
  -- a heap in no call has its one entry, and no slot
  pub idle_place : {raw : Ghosts R} (table : TableId) (plan : Plan) (seat : ℕ) (x : DriverSeat R raw)
      → IsHeapAt out faults got passed table plan seat x → is_idle x.local.at ≡ true
      → x.place.me ≡ (plain (entry_of x ∷ []), [])
  idle_place {raw} table plan seat x is idle =
      let d = is.driven in
      let keyed : own_of (key_by x.plan) x.place.me.0.entries ≡ entry_of x =
      ap (λ (k : Key). own_of k x.place.me.0.entries) (sym x.keyed) in
      let slots : x.place.me.1 ≡ [] =
      subst (λ (z : Carry). SlotOut z (desk_at (carry_of x.local.at) x.office x.place.me.1) x.place.me.1)
      (idle_away x.local.at idle) d.slots in
      let entries : x.place.me.0.entries ≡ entry_of x ∷ [] = d.one ∙ ap (λ (e : Entry (Desk R)). e ∷ []) keyed in
      λ j. (record { entries = entries j; note = d.unnoted j }, slots j)

  -- the place of a quiet pool may be read
  pub can_read : {raw : Ghosts R} (table place : TableId) (about plan : Plan) (key : Key)
      (me : Me (Option (Desk R)) (View (Desk R))) (heaps : List (DriverSeat R raw)) (desk : Desk R)
      → IsHeld out faults got passed table place about plan key me heaps desk → (other : TableId)
      (now : Me (Option (Desk R)) (View (Desk R))) → other ≡ place → now ≡ me → CanRead table other about plan key now
  can_read table place about plan key me heaps desk held other later same me_is =
      subst (λ (z : TableId × Me (Option (Desk R)) (View (Desk R)) × Key). CanRead table z.0 about plan z.2 z.1)
      (λ j. (sym (same ∙ held.same_table) j, sym me_is j, sym held.key_is j)) (record {
        same_table = refl;
        sizes = held.sizes;
        same_plan = held.same_plan;
        key_is = refl;
        note = record { words = words_noted me.0.note; office = desk };
        is_noted = ap (λ (z : Me (Option (Desk R)) (View (Desk R))). z.0.note) held.is_noted;
        sized = (run_stands held.state.run).sized;
      })

-- the place of a pool that is handed on, and its heaps
module _ {R : Type 0} (out : R → List Region) (faults : R → ℕ) (got : R → ℕ → Option Region → R → Type 0)
    (passed : R → Region → Bool → R → Type 0) where
  -- the entries of a quiet pool are those of its seats, by number
  pub state_row : (quiet : Quiet R) → IsState out faults got passed quiet → IsFrom 0 quiet.entries
  state_row quiet st i e at =
      let here : e.seat ≡ i = ap (λ (x : Entry (Desk R)). x.seat) (sym (st.each i e at)) ∙
      (run_stands st.run).seats i in
      omega arith

  module _ {raw : Ghosts R} (table place : TableId) (about plan : Plan) (key : Key)
      (me : Me (Option (Desk R)) (View (Desk R))) (heaps : List (DriverSeat R raw)) (desk : Desk R)
      (held : IsHeld out faults got passed table place about plan key me heaps desk) (now : List (DriverSeat R raw))
      (locals : locals_of now ≡ locals_of heaps) (plans : plans_of now ≡ plans_of heaps)
      (places : HavePlaces table (key_by plan) me.0.entries now) where
    abbrev Local_of : DriverSeat R raw → Local
    Local_of x = x.local

    count_now : length now ≡ (key_by plan).seats
    count_now = sym (length-map now Local_of) ∙ ap length locals ∙ held.state.count

    -- the entry of a heap
    record HasEntry (i : ℕ) (x : DriverSeat R raw) : Type 0 where
      e : Entry (Desk R)
      at : get_elem? me.0.entries i ≡ some e

    entry_of_heap : (i : ℕ) (x : DriverSeat R raw) → get_elem? now i ≡ some x → HasEntry i x
    entry_of_heap i x at =
        let low = at_low now i x at in
        let many = held.state.many in
        let count = count_now in
        let p = at_some me.0.entries i (omega arith) in
        record { e = p.0; at = p.1 }

    entry_is : (i : ℕ) (x : DriverSeat R raw) (at : get_elem? now i ≡ some x) → entry_of x ≡ (entry_of_heap i x at).e
    entry_is i x at =
        let h = entry_of_heap i x at in
        ap (λ (z : Me (Option (Desk R)) (View (Desk R))). own_of x.key z.0.entries) (places i x h.e at h.at).1

    pub heap_at : AreHeapsAt out faults got passed table plan now
    heap_at i x at =
        let h = entry_of_heap i x at in
        let p = places i x h.e at h.at in
        let plan_is : x.plan ≡ plan = held.plans i x.plan (ap (λ ps. get_elem? ps i) (sym plans) ∙ at_map (λ
        (y : DriverSeat R raw). y.plan) now i x at) in
        let local_at : get_elem? (locals_of heaps) i ≡ some x.local = ap (λ ls. get_elem? ls i) (sym locals)
        ∙ at_map Local_of now i x at in
        let rests = held.idle i x.local local_at in
        let carry = idle_away x.local.at rests in
        let since = (held.state.behind i x.local h.e local_at h.at).since in
        record {
          same_table = p.0;
          same_plan = plan_is;
          number = ap (λ (y : Entry (Desk R)). y.seat) (entry_is i x at ∙ sym (held.state.each i h.e h.at))
              ∙ (run_stands held.state.run).seats i;
          driven = subst (λ (z : Plan). PoolDriven out faults got passed z x.local x.office x.place.me) (sym plan_is)
              (driven_by (office_of out faults got passed (key_by plan)) (key_by plan) (IsOf plan.policy plan.limits)
              (office_keeps out faults got passed plan.policy plan.limits
              (key_by plan)) x.local None x.office h.e x.place.me
              (ap (λ (z : Me (Option (Desk R)) (View (Desk R))). z.0.entries) p.1)
              (ap (λ (z : Me (Option (Desk R)) (View (Desk R))). z.0.note) p.1) since
              (subst (λ (z : Carry). HasDesk {D = Desk R} z None) (sym carry) refl)
              (subst (λ (z : Carry). SlotOut {D = Desk R} z None x.place.me.1) (sym carry)
              (ap (λ (z : Me (Option (Desk R)) (View (Desk R))). z.1) p.1))
              (ap (λ (z : Carry). desk_at z x.office x.place.me.1) carry) (has_none (IsOf plan.policy plan.limits)));
        }

    pub entries_are : entries_of now ≡ me.0.entries
    entries_are = same_list (entries_of now) me.0.entries (length-map now entry_of ∙ count_now ∙ sym held.state.many)
        (λ i e y at at_y.
        let x = at_image entry_of now i e at in
        let h = entry_of_heap i x.one x.at in
        sym x.is ∙ entry_is i x.one x.at ∙ some-injective h.e y (sym h.at ∙ at_y))

    pub resumed : (s : Shared R) → IsPool out faults got passed s → s.plan ≡ plan
        → s.board.shared.table_id ≡ table → IsResumed out faults got passed (quiet_of plan desk
        (locals_of heaps) me) s now
    resumed s pool plan_is table_is = record {
      pool = pool;
      plan = plan_is;
      count = count_now;
      each = subst (λ (z : TableId × Plan). AreHeapsAt out faults got passed z.0 z.1 now)
          (λ j. (sym table_is j, sym plan_is j)) heap_at;
      locals = locals;
      entries = entries_are;
      idle = subst AreIdle (sym locals) held.idle;
    }
