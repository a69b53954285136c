-- What each turn of a machine makes of a state of a run.
use Rattle.std.proofs.Common.{◌≡◌, ◌⊎◌, inl, inr, ℕ, Bool, true, false, cond, List, refl, sym, ap, subst, ◌∙◌}
use Rattle.std.specs.Prelude.{Option, Some, None, Result, Ok, Err, slice_get, slice_set}
use Rattle.pool_types.specs.declared.policy.Limits.{Limits}
use Rattle.pool_types.specs.declared.policy.Policy.{Policy}
use Rattle.pool_types.specs.declared.policy.RegionRec.{RegionRec}
use Rattle.pool_types.specs.declared.values.Region.{Region}
use Rattle.pool_types.specs.declared.values.Request.{Request}
use Rattle.pool_types.specs.declared.values.Turn.{Turn}
use Rattle.pool_words.specs.declared.words.Key.{Key}
use Rattle.pool_words.specs.declared.words.Word.{Word}
use Rattle.pool_words.specs.declared.actions.Action.{Action}
use Rattle.pool_words.specs.declared.actions.Action.TheVariants.{Load, Store, Swap, Exchange, Add, TakeOffice, GiveOffice, Nothing}
use Rattle.pool_words.specs.declared.actions.OfficeJob.{OfficeJob}
use Rattle.pool_words.specs.declared.actions.Seen.{Seen}
use Rattle.pool_words.specs.Actions.{finds, after_action}
use Rattle.regions.specs.Offices.{Desk}
use Rattle.regions.specs.declared.errors.ObtainError.{ObtainError}
use Rattle.region_steps.specs.declared.office.OfficeAt.{OfficeAt}
use Rattle.step_depot.specs.Steps.{Stock, Steps, Performs, PutsIf, Puts, TakesBy, Answers, key_of}
use Rattle.step_local.specs.declared.frames.At.{At}
use Rattle.step_local.specs.declared.frames.Local.{Local}
use Rattle.step_local.specs.declared.frames.OfficeFor.{OfficeFor}
use Rattle.step_local.specs.Course.{course}
use Rattle.step_local.specs.Frames.{made}
use Rattle.step_local.specs.Getting.{begun}
use Rattle.step_local.specs.Getting.{reset_begun as seat_begun}
use Rattle.step_local.specs.Learn.{learn}
use Rattle.word_laws.proofs.CallerLemmas.{put_here, put_else, actions_act_by_kind}
use Rattle.word_laws.specs.Memory.{put, memory}
use Rattle.step_runs.specs.declared.entry.Entry.{Entry}
use Rattle.step_runs.specs.Callbacks.{office_of, PoolRun}
use Rattle.step_runs.specs.Entries.{seen_by, desk_after, learnt, first_entry}
use Rattle.step_runs.specs.Laws.{Onward, GoesOnward, Leads}
use Rattle.step_runs.specs.Places.{has_word, Carry, away, in_slot, in_hand, carry_of, HasDesk}
use Rattle.step_runs.specs.Places.{Move, stays, takes, gives, move_of, gives_of, passed_of}
use Rattle.step_runs.specs.Places.{gives_at as region_at}
use Rattle.step_runs.specs.Runs.{Silent, Passes, home_after, Run, Callback, seen_answer}
use Rattle.step_runs.specs.Runs.Silent.{rests, begins, resets, answers, obtains, takes_out, puts_back}
use Rattle.step_runs.specs.Runs.Run.{opened, stepped}
use Rattle.step_runs.proofs.CallerLemmas.{steps_go_onward, other_turns_lead, silence_keeps_desk, takes_free, Stands, run_stands}
use Rattle.step_core.specs.Machines.{Machine, first_machine, made_locals, lowest_in_call}
use Rattle.step_core.specs.Resets.{seat_of, kind_of, part_after, begun_part, reset_begun_by, part_turned, PartTurns, ResetTurnsBy}
use Rattle.step_core.specs.Resets.{begun_of_seat as part_begun}
use Rattle.step_core.specs.Steps.{gives_at, gives_for, begun_of_seat, name_at}
use Rattle.step_parts.specs.declared.journal.StepName.{StepName}
use Rattle.step_core.specs.Turns.{StepsOf, StepsBy, StepsAt, TurnsBy, Turns, begun_by, begun_in, answered, rested}
use Rattle.step_core.specs.declared.resets.Resetting.{Resetting}
use Rattle.machine_laws.specs.Laws.{home_at, desk_at, is_in_hand, is_out_by, IsStateOfRun}
use Rattle.machine_laws.specs.Reached.{IsReached}
use Rattle.machine_laws.specs.Reached.IsReached.{made as opens, begun as calls, turned, reset, reset_turned}
use Rattle.machine_laws.proofs.Seats.{got_here, got_there, some_same, same_or, owner_has, others_have_none, owns, at_home, out_own, out_of, out_kept}
use Rattle.machine_laws.proofs.First.{made_there}

-- the region that is passed with a step is the one that runs pass
same_job : (l : Local) (job : OfficeFor) (given : Option ℕ) → gives_at (At.Office job (OfficeAt.Remove given)) ≡ region_at l (At.Office job (OfficeAt.Remove given))
same_job l OfficeFor.Ask given = refl
same_job l (OfficeFor.Put first) given = refl
same_job l (OfficeFor.Drain first rest) given = refl

same_region : (l : Local) (at : At) → gives_at at ≡ region_at l at
same_region l (At.Office job (OfficeAt.Remove given)) = same_job l job given
same_region l (At.Office job _) = refl
same_region l _ = refl

-- a region is passed while the office is in hand, with a step that leaves the office there
record IsPassing (at : At) : Type 0 where
  carry : carry_of at ≡ in_hand
  move : (found : ℕ) → move_of at found ≡ stays

passing : (l : Local) (at : At) (first : ℕ) → region_at l at ≡ Some first → IsPassing at
passing l (At.Office job (OfficeAt.Remove given)) first is = record { carry = refl; move = λ found. refl }
passing l (At.Office job _) first is = absurd (cc)
passing l _ first is = absurd (cc)

module _ {R : Type 0} (out : R → List Region) (faults : R → ℕ) (got : R → ℕ → Option Region → R → Type 0)
    (passed : R → Region → Bool → R → Type 0) (policy : Policy) (limits : Limits) (raw : R) where
  abbrev State : Stock R → List Local → Type 0
  State stock locals = IsStateOfRun out faults got passed policy limits raw stock locals

  abbrev office : Callback (Desk R)
  office = office_of out faults got passed (key_of policy limits)

  module _ {stock : Stock R} {locals : List Local} (s : State stock locals) (seat : ℕ) (l : Local)
      (there : slice_get locals seat ≡ Some l) where
    has_desk : HasDesk (carry_of l.at) (desk_at s.owner stock.desk seat)
    has_desk = silence_keeps_desk (s.seats seat l there) ((run_stands s.run).desks seat)

    -- what has the office has it alone
    mine_by : (c : Carry) → carry_of l.at ≡ c → HasDesk c (desk_at s.owner stock.desk seat) → (c ≡ away → ⊥) → s.owner ≡ Some seat
    mine_by away is has some = absurd (some refl)
    mine_by in_slot is has some = owns s.owner stock.desk has.0 seat has.1
    mine_by in_hand is has some = owns s.owner stock.desk has.0 seat has.1

    mine : (carry_of l.at ≡ away → ⊥) → s.owner ≡ Some seat
    mine some = mine_by (carry_of l.at) refl has_desk some

    in_slot_mine : carry_of l.at ≡ in_slot → s.owner ≡ Some seat
    in_slot_mine is = mine (λ e. let no : in_slot ≡ away = sym is ∙ e in cc)

    in_hand_mine : carry_of l.at ≡ in_hand → s.owner ≡ Some seat
    in_hand_mine is = mine (λ e. let no : in_hand ≡ away = sym is ∙ e in cc)

    -- one seat changed, with its entry: the others are as before
    seats_with : (now : Local) (owner : Option ℕ) (entries : ℕ → Entry (Desk R)) (desk : Desk R)
        → Silent office (entries seat).local (entries seat).desk now (desk_at owner desk seat)
        → ((u : ℕ) → (seat ≡ u → ⊥) → entries u ≡ s.entries u)
        → ((u : ℕ) → (seat ≡ u → ⊥) → desk_at owner desk u ≡ desk_at s.owner stock.desk u)
        → (u : ℕ) (lu : Local) → slice_get (slice_set locals seat now) u ≡ Some lu
        → Silent office (entries u).local (entries u).desk lu (desk_at owner desk u)
    seats_with now owner entries desk here same_entries same_desks u lu is = by (same_or seat u)
      where
        by : (seat ≡ u) ⊎ (seat ≡ u → ⊥) → Silent office (entries u).local (entries u).desk lu (desk_at owner desk u)
        by (inl same) =
            let is_here : slice_get (slice_set locals seat now) seat ≡ Some lu = subst (λ t. slice_get (slice_set locals seat now) t ≡ Some lu) (sym same) is in
            let now_is : now ≡ lu = some_same now lu (sym (got_here locals seat l now there) ∙ is_here) in
            subst (λ t. Silent office (entries t).local (entries t).desk lu (desk_at owner desk t)) same
            (subst (λ n. Silent office (entries seat).local (entries seat).desk n (desk_at owner desk seat)) now_is here)
        by (inr other) =
            let was : slice_get locals u ≡ Some lu = sym (got_there locals seat u now other) ∙ is in
            subst (λ (e : Entry (Desk R)). Silent office e.local e.desk lu (desk_at owner desk u)) (sym (same_entries u other))
            (subst (λ d. Silent office (s.entries u).local (s.entries u).desk lu d) (sym (same_desks u other)) (s.seats u lu was))

    -- a turn without a step on a word
    quiet : (now : Local) (new : Stock R) → new.words ≡ stock.words → new.key ≡ stock.key
        → (s.owner ≡ Some seat) ⊎ (new.desk ≡ stock.desk)
        → Silent office (s.entries seat).local (s.entries seat).desk now (desk_at s.owner new.desk seat)
        → new.out ≡ is_out_by s.owner (slice_set locals seat now) → State new (slice_set locals seat now)
    quiet now new words key where_ silent is_out = record {
      owner = s.owner;
      entries = s.entries;
      key_is = key ∙ s.key_is;
      run = subst (λ w. PoolRun out faults got passed policy limits raw w (home_at s.owner new.desk) s.entries) (sym words)
          (subst (λ h. PoolRun out faults got passed policy limits raw stock.words h s.entries) (sym (home where_)) s.run);
      seats = seats_with now s.owner s.entries new.desk silent (λ u other. refl) (λ u other. others where_ u other);
      out_is = is_out;
    }
      where
        home : (s.owner ≡ Some seat) ⊎ (new.desk ≡ stock.desk) → home_at s.owner new.desk ≡ home_at s.owner stock.desk
        home (inl own) = ap (λ o. home_at o new.desk) own ∙ sym (ap (λ o. home_at o stock.desk) own)
        home (inr same) = ap (home_at s.owner) same

        others : (s.owner ≡ Some seat) ⊎ (new.desk ≡ stock.desk) → (u : ℕ) → (seat ≡ u → ⊥) → desk_at s.owner new.desk u ≡ desk_at s.owner stock.desk u
        others (inl own) u other = ap (λ o. desk_at o new.desk u) own ∙ others_have_none seat u new.desk other
            ∙ sym (others_have_none seat u stock.desk other) ∙ sym (ap (λ o. desk_at o stock.desk u) own)
        others (inr same) u other = ap (λ d. desk_at s.owner d u) same

    -- what a step on a word finds, and the local after it
    abbrev found_here : ℕ
    found_here = finds (key_of policy limits) stock.words (course l)

    abbrev local_after : Local
    local_after = (learn l (seen_by (course l) found_here)).0

    abbrev move_here : Move
    move_here = move_of l.at found_here

    -- what the seat has of the office right after it
    abbrev desk_here : Option (Desk R)
    desk_here = desk_after move_here (home_at s.owner stock.desk) (desk_at s.owner stock.desk seat)

    -- what the owner after a step on a word has to be
    record IsOwner (owner : Option ℕ) (desk : Desk R) : Type 0 where
      home : home_after move_here (home_at s.owner stock.desk) (desk_at s.owner stock.desk seat) ≡ home_at owner desk
      passes : Passes office (gives_of l) desk_here (desk_at owner desk seat)
      others : (u : ℕ) → (seat ≡ u → ⊥) → desk_at owner desk u ≡ desk_at s.owner stock.desk u
      out_is : stock.out ≡ is_out_by owner (slice_set locals seat local_after)

    record HasOwner (desk : Desk R) : Type 0 where
      owner : Option ℕ
      is : IsOwner owner desk

    on_word : has_word (course l) ≡ true → GoesOnward l found_here
    on_word word = steps_go_onward l found_here word

    stays_out : carry_of local_after.at ≡ carry_of l.at → stock.out ≡ is_out_by s.owner (slice_set locals seat local_after)
    stays_out same = s.out_is ∙ sym (out_kept locals seat l local_after there s.owner same)

    -- no region is passed
    keeps_by : (move : Move) → move_here ≡ move → Onward (carry_of l.at) move (carry_of local_after.at)
        → gives_of l ≡ None → HasOwner stock.desk
    keeps_by stays is on none = record {
      owner = s.owner;
      is = record {
        home = ap (λ m. home_after m (home_at s.owner stock.desk) (desk_at s.owner stock.desk seat)) is;
        passes = subst (λ g. Passes office g desk_here (desk_at s.owner stock.desk seat)) (sym none)
            (sym (ap (λ m. desk_after m (home_at s.owner stock.desk) (desk_at s.owner stock.desk seat)) is));
        others = λ u other. refl;
        out_is = stays_out on;
      };
    }
    keeps_by takes is on none =
        let acts = actions_act_by_kind (key_of policy limits) stock.words (course l) (run_stands s.run).sized in
        let free : (desk : Desk R) × (home_at s.owner stock.desk ≡ Some desk) = (run_stands s.run).free
        (takes_free (memory (key_of policy limits) stock.words) l l.at (ap (move_of l.at) (sym acts.sees) ∙ is)) in
        let nobody : s.owner ≡ None = at_home s.owner stock.desk free.0 free.1 in
        record {
          owner = Some seat;
          is = record {
            home = ap (λ m. home_after m (home_at s.owner stock.desk) (desk_at s.owner stock.desk seat)) is;
            passes = subst (λ g. Passes office g desk_here (desk_at (Some seat) stock.desk seat)) (sym none)
                (owner_has seat stock.desk ∙ sym (ap (λ o. home_at o stock.desk) nobody)
                ∙ sym (ap (λ m. desk_after m (home_at s.owner stock.desk) (desk_at s.owner stock.desk seat)) is));
            others = λ u other. others_have_none seat u stock.desk other ∙ sym (ap (λ o. desk_at o stock.desk u) nobody);
            out_is = s.out_is ∙ ap (λ o. is_out_by o locals) nobody ∙ sym (ap is_in_hand on.1)
                ∙ sym (out_own locals seat l local_after there);
          };
        }
    keeps_by gives is on none =
        let mine_is : s.owner ≡ Some seat = in_slot_mine on.0 in
        record {
          owner = None;
          is = record {
            home = ap (λ m. home_after m (home_at s.owner stock.desk) (desk_at s.owner stock.desk seat)) is
                ∙ ap (λ o. desk_at o stock.desk seat) mine_is ∙ owner_has seat stock.desk;
            passes = subst (λ g. Passes office g desk_here None) (sym none)
                (sym (ap (λ m. desk_after m (home_at s.owner stock.desk) (desk_at s.owner stock.desk seat)) is));
            others = λ u other. sym (others_have_none seat u stock.desk other) ∙ sym (ap (λ o. desk_at o stock.desk u) mine_is);
            out_is = s.out_is ∙ ap (λ o. is_out_by o locals) mine_is ∙ out_of locals seat l local_after there ∙ ap is_in_hand on.0;
          };
        }

    -- a region is passed
    gives_one : (first : ℕ) → gives_of l ≡ Some first → has_word (course l) ≡ true → (desk : Desk R)
        → Puts out faults passed stock.desk first desk → HasOwner desk
    gives_one first is word desk puts =
        let p = passing l l.at first is in
        let mine_is : s.owner ≡ Some seat = in_hand_mine p.carry in
        let on : carry_of local_after.at ≡ carry_of l.at =
        subst (λ m. Onward (carry_of l.at) m (carry_of local_after.at)) (p.move found_here) (on_word word).carry in
        let same_desk : desk_after move_here (home_at s.owner stock.desk) (desk_at s.owner stock.desk seat) ≡ Some stock.desk =
        ap (λ m. desk_after m (home_at s.owner stock.desk) (desk_at s.owner stock.desk seat)) (p.move found_here)
        ∙ ap (λ o. desk_at o stock.desk seat) mine_is ∙ owner_has seat stock.desk in
        record {
          owner = Some seat;
          is = record {
            home = ap (λ m. home_after m (home_at s.owner stock.desk) (desk_at s.owner stock.desk seat)) (p.move found_here)
                ∙ ap (λ o. home_at o stock.desk) mine_is;
            passes = subst (λ g. Passes office g desk_here (desk_at (Some seat) desk seat)) (sym is)
                (subst (λ d. Passes office (Some first) d (desk_at (Some seat) desk seat)) (sym same_desk)
                (desk, owner_has seat desk, puts));
            others = λ u other. others_have_none seat u desk other ∙ sym (others_have_none seat u stock.desk other)
                ∙ sym (ap (λ o. desk_at o stock.desk u) mine_is);
            out_is = stays_out on ∙ ap (λ o. is_out_by o (slice_set locals seat local_after)) mine_is;
          };
        }

    owner_by : (g : Option ℕ) → gives_of l ≡ g → has_word (course l) ≡ true → (desk : Desk R)
        → PutsIf out faults passed stock.desk g desk → HasOwner desk
    owner_by (Some first) is word desk puts = gives_one first is word desk puts
    owner_by None is word desk same =
        subst HasOwner (sym same) (keeps_by move_here refl (on_word word).carry is)

    -- a step on a word
    word_step : has_word (course l) ≡ true → (new : Stock R) → Performs out faults got passed stock (course l) (gives_of l) new
        → State new (slice_set locals seat local_after)
    word_step word new performs =
        let has : HasOwner new.desk = owner_by (gives_of l) refl word new.desk performs.desk in
        let entry : Entry (Desk R) = learnt (s.entries seat) l (home_at s.owner stock.desk) (desk_at s.owner stock.desk seat) found_here in
        let entries : ℕ → Entry (Desk R) = put s.entries seat entry in
        let words : new.words ≡ after_action (key_of policy limits) stock.words (course l) =
        ap (λ (n : Stock R). n.words) performs.rest ∙ ap (λ k. after_action k stock.words (course l)) s.key_is in
        let here : entries seat ≡ entry = put_here s.entries seat seat entry refl in
        let silent : Silent office entry.local entry.desk local_after (desk_at has.owner new.desk seat) =
        rests (subst (λ g. Passes office g entry.desk (desk_at has.owner new.desk seat)) (sym (on_word word).passed) has.is.passes) in
        record {
          owner = has.owner;
          entries = entries;
          key_is = ap (λ (n : Stock R). n.key) performs.rest ∙ s.key_is;
          run = subst (λ w. PoolRun out faults got passed policy limits raw w (home_at has.owner new.desk) entries) (sym words)
              (subst (λ h. PoolRun out faults got passed policy limits raw (after_action (key_of policy limits) stock.words (course l)) h entries)
              has.is.home (stepped s.run seat l (desk_at s.owner stock.desk seat) (s.seats seat l there) word));
          seats = seats_with local_after has.owner entries new.desk
              (subst (λ (e : Entry (Desk R)). Silent office e.local e.desk local_after (desk_at has.owner new.desk seat)) (sym here) silent)
              (λ u other. put_else s.entries seat u entry other) has.is.others;
          out_is = ap (λ (n : Stock R). n.out) performs.rest ∙ has.is.out_is;
        }

    word_case : (seen : Seen) → has_word (course l) ≡ true → seen ≡ seen_by (course l) (finds stock.key stock.words (course l))
        → (new : Stock R) → Performs out faults got passed stock (course l) (gives_of l) new
        → State new (slice_set locals seat (learn l seen).0)
    word_case seen word is new performs =
        subst (λ n. State new (slice_set locals seat (learn l n).0))
        (sym (is ∙ ap (λ k. seen_by (course l) (finds k stock.words (course l))) s.key_is))
        (word_step word new performs)

    -- the office is taken out of its slot, in which it is
    taken_out : (desk now_desk : Desk R) (now : Local) (new : Stock R) → carry_of l.at ≡ in_slot → carry_of now.at ≡ in_hand
        → new ≡ record stock { desk = now_desk; out = true }
        → (s.owner ≡ Some seat → Silent office (s.entries seat).local (s.entries seat).desk now (Some now_desk))
        → State new (slice_set locals seat now)
    taken_out desk now_desk now new from to is silent =
        let mine_is : s.owner ≡ Some seat = in_slot_mine from in
        let has : desk_at s.owner new.desk seat ≡ Some now_desk = ap (λ o. desk_at o new.desk seat) mine_is
        ∙ owner_has seat new.desk ∙ ap (λ (n : Stock R). Some n.desk) is in
        quiet now new (ap (λ (n : Stock R). n.words) is) (ap (λ (n : Stock R). n.key) is) (inl mine_is)
        (subst (λ d. Silent office (s.entries seat).local (s.entries seat).desk now d) (sym has) (silent mine_is))
        (ap (λ (n : Stock R). n.out) is ∙ sym (ap is_in_hand to) ∙ sym (out_own locals seat l now there)
        ∙ sym (ap (λ o. is_out_by o (slice_set locals seat now)) mine_is))

    silent_here : s.owner ≡ Some seat → Silent office (s.entries seat).local (s.entries seat).desk l (Some stock.desk)
    silent_here mine_is = subst (λ d. Silent office (s.entries seat).local (s.entries seat).desk l d)
        (ap (λ o. desk_at o stock.desk seat) mine_is ∙ owner_has seat stock.desk) (s.seats seat l there)

    asked : (granules : ℕ) (answer : Result RegionRec ObtainError) (new : Stock R)
        → course l ≡ TakeOffice (OfficeJob.Obtain granules) → office.asks stock.desk granules answer new.desk
        → new ≡ record stock { desk = new.desk; out = true }
        → State new (slice_set locals seat (learn l (seen_answer answer)).0)
    asked granules answer new is asks rest =
        let leads = (other_turns_lead l).obtains granules answer is in
        taken_out stock.desk new.desk (learn l (seen_answer answer)).0 new leads.from leads.to rest
        (λ mine_is. obtains (silent_here mine_is) granules answer new.desk is asks)

    answered_by : (granules : ℕ) (seen : Seen) (new : Stock R) → course l ≡ TakeOffice (OfficeJob.Obtain granules)
        → Answers out faults got stock granules seen new → new ≡ record stock { desk = new.desk; out = true }
        → State new (slice_set locals seat (learn l seen).0)
    answered_by granules (Seen.Obtained one) new is came rest = asked granules (Ok one) new is
        (subst (λ k. (office_of out faults got passed k).asks stock.desk granules (Ok one) new.desk) s.key_is came) rest
    answered_by granules (Seen.Refused error) new is came rest = asked granules (Err error) new is
        (subst (λ k. (office_of out faults got passed k).asks stock.desk granules (Err error) new.desk) s.key_is came) rest
    answered_by granules (Seen.Word value) new is came rest = absurd came
    answered_by granules Seen.Done new is came rest = absurd came
    answered_by granules Seen.OfficeOut new is came rest = absurd came
    answered_by granules Seen.Given new is came rest = absurd came

    -- a seat that takes the office has it, in its slot
    takes_in_slot : (job : OfficeJob) → course l ≡ TakeOffice job → carry_of l.at ≡ in_slot
    takes_in_slot (OfficeJob.Obtain granules) is = ((other_turns_lead l).obtains granules (Err ObtainError.RawFailed) is).from
    takes_in_slot (OfficeJob.Give first) is = ((other_turns_lead l).takes_out first is).from

    not_out : carry_of l.at ≡ in_slot → stock.out ≡ false
    not_out from = s.out_is ∙ ap (λ o. is_out_by o locals) (in_slot_mine from) ∙ out_of locals seat l l there ∙ ap is_in_hand from

    takes_by : (b : Bool) (job : OfficeJob) → stock.out ≡ b → course l ≡ TakeOffice job → (seen : Seen) (new : Stock R)
        → TakesBy out faults got b stock job seen new → State new (slice_set locals seat (learn l seen).0)
    takes_by true job is_out is seen new taken =
        let no : true ≡ false = sym is_out ∙ not_out (takes_in_slot job is) in absurd (cc)
    takes_by false (OfficeJob.Give first) is_out is seen new taken =
        let leads = (other_turns_lead l).takes_out first is in
        subst (λ n. State new (slice_set locals seat (learn l n).0)) (sym taken.0)
        (taken_out stock.desk stock.desk (learn l Seen.Given).0 new leads.from leads.to taken.1
        (λ mine_is. takes_out (silent_here mine_is) first is))
    takes_by false (OfficeJob.Obtain granules) is_out is seen new taken =
        answered_by granules seen new is taken.0 taken.1

    gives_back : course l ≡ GiveOffice → (seen : Seen) (new : Stock R) → seen ≡ Seen.Done → new ≡ record stock { out = false }
        → State new (slice_set locals seat (learn l seen).0)
    gives_back is seen new done rest =
        let leads = (other_turns_lead l).puts_back is in
        let mine_is : s.owner ≡ Some seat = in_hand_mine leads.from in
        let desk : new.desk ≡ stock.desk = ap (λ (n : Stock R). n.desk) rest in
        subst (λ n. State new (slice_set locals seat (learn l n).0)) (sym done)
        (quiet (learn l Seen.Done).0 new (ap (λ (n : Stock R). n.words) rest) (ap (λ (n : Stock R). n.key) rest) (inr desk)
        (subst (λ d. Silent office (s.entries seat).local (s.entries seat).desk (learn l Seen.Done).0 (desk_at s.owner d seat)) (sym desk)
        (puts_back (s.seats seat l there) is))
        (ap (λ (n : Stock R). n.out) rest ∙ sym (ap is_in_hand leads.to) ∙ sym (out_own locals seat l (learn l Seen.Done).0 there)
        ∙ sym (ap (λ o. is_out_by o (slice_set locals seat (learn l Seen.Done).0)) mine_is)))

    -- a change of a local that leaves the office where it is
    unmoved : (now : Local) → carry_of now.at ≡ carry_of l.at
        → Silent office (s.entries seat).local (s.entries seat).desk now (desk_at s.owner stock.desk seat)
        → State stock (slice_set locals seat now)
    unmoved now same silent = quiet now stock refl refl (inr refl) silent
        (s.out_is ∙ sym (out_kept locals seat l now there s.owner same))

    answered_only : course l ≡ Nothing → (seen : Seen) (new : Stock R) → seen ≡ Seen.Done → new ≡ stock
        → State new (slice_set locals seat (learn l seen).0)
    answered_only is seen new done same =
        let leads = (other_turns_lead l).answers is in
        subst (λ n. State new (slice_set locals seat (learn l n).0)) (sym done)
        (subst (λ n. State n (slice_set locals seat (learn l Seen.Done).0)) (sym same)
        (unmoved (learn l Seen.Done).0 (leads.to ∙ sym leads.from) (answers (s.seats seat l there) is)))

    on_a_word : (a : Action) → course l ≡ a → has_word a ≡ true → (seen : Seen) (new : Stock R)
        → seen ≡ seen_by a (finds stock.key stock.words a) → Performs out faults got passed stock a (gives_of l) new
        → State new (slice_set locals seat (learn l seen).0)
    on_a_word a is word seen new seen_is performs = word_case seen (ap has_word is ∙ word)
        (subst (λ b. seen ≡ seen_by b (finds stock.key stock.words b)) (sym is) seen_is) new
        (subst (λ b. Performs out faults got passed stock b (gives_of l) new) (sym is) performs)

    -- any step
    step_by : (a : Action) → course l ≡ a → (seen : Seen) (new : Stock R) → Steps out faults got passed stock a (gives_of l) seen new
        → State new (slice_set locals seat (learn l seen).0)
    step_by (TakeOffice job) is seen new steps = takes_by stock.out job refl is seen new steps
    step_by GiveOffice is seen new steps = gives_back is seen new steps.0 steps.1
    step_by Nothing is seen new steps = answered_only is seen new steps.0 steps.1
    step_by (Load w) is seen new steps = on_a_word (Load w) is refl seen new steps.0 steps.1
    step_by (Store w v) is seen new steps = on_a_word (Store w v) is refl seen new steps.0 steps.1
    step_by (Swap w v) is seen new steps = on_a_word (Swap w v) is refl seen new steps.0 steps.1
    step_by (Exchange w from to) is seen new steps = on_a_word (Exchange w from to) is refl seen new steps.0 steps.1
    step_by (Add w v) is seen new steps = on_a_word (Add w v) is refl seen new steps.0 steps.1

  -- a turn, and a call that begins
  step_of_local : (m new : Machine R) → State m.stock m.locals → (seat : ℕ) (l : Local) → slice_get m.locals seat ≡ Some l
      → (turn : Turn) → StepsOf out faults got passed l m seat turn new → State new.stock new.locals
  step_of_local m new s seat l there turn steps =
      subst (λ ls. State new.stock ls) (sym (ap (λ (n : Machine R). n.locals) steps.after))
      (step_by s seat l there (course l) refl steps.seen new.stock
      (subst (λ g. Steps out faults got passed m.stock (course l) g steps.seen new.stock) (same_region l l.at) steps.step))

  same_as : (m new : Machine R) → State m.stock m.locals → new.stock ≡ m.stock → new.locals ≡ m.locals → State new.stock new.locals
  same_as m new s stock locals = subst (λ ls. State new.stock ls) (sym locals) (subst (λ n. State n m.locals) (sym stock) s)

  step_at_seat : (m new : Machine R) → State m.stock m.locals → (seat : ℕ) (local : Option Local) → slice_get m.locals seat ≡ local
      → (turn : Turn) → StepsBy out faults got passed local m seat turn new → State new.stock new.locals
  step_at_seat m new s seat (Some l) there turn steps = step_of_local m new s seat l there turn steps
  step_at_seat m new s seat None there turn steps = same_as m new s (ap (λ (n : Machine R). n.stock) steps.1) (ap (λ (n : Machine R). n.locals) steps.1)

  entered : (name : StepName) (turn : Turn) (m : Machine R) → ((answered name turn m).stock ≡ m.stock) × ((answered name turn m).locals ≡ m.locals)
  entered name (Turn.Done answer) m = (refl, refl)
  entered name Turn.Stepped m = (refl, refl)
  entered name (Turn.Waits awaited) m = (refl, refl)
  entered name Turn.Idle m = (refl, refl)

  turn_by : (m new : Machine R) → State m.stock m.locals → (seat : ℕ) (part : Option Resetting) (turn : Turn)
      → TurnsBy out faults got passed part m seat turn new → State new.stock new.locals
  turn_by m new s seat (Some part) turn turns = same_as m new s (ap (λ (n : Machine R). n.stock) turns.1) (ap (λ (n : Machine R). n.locals) turns.1)
  turn_by m new s seat None turn turns =
      same_as turns.middle new (step_at_seat m turns.middle s seat (slice_get m.locals seat) refl turn turns.steps)
      (ap (λ (n : Machine R). n.stock) turns.after ∙ (entered (name_at m.locals seat m.steps) turn turns.middle).0)
      (ap (λ (n : Machine R). n.locals) turns.after ∙ (entered (name_at m.locals seat m.steps) turn turns.middle).1)

  begun_at_seat : (m : Machine R) → State m.stock m.locals → (seat : ℕ) (request : Request) (local : Option Local)
      → slice_get m.locals seat ≡ local → State m.stock (begun_of_seat local m.locals seat request).0
  begun_at_seat m s seat request None there = s
  begun_at_seat m s seat request (Some l) there =
      unmoved s seat l there (begun l request).0 ((other_turns_lead l).begins request)
      (begins (s.seats seat l there) request)

  begun_here : (m : Machine R) → State m.stock m.locals → (seat : ℕ) (request : Request) (part : Option Resetting)
      → State (begun_by part m seat request).0.stock (begun_by part m seat request).0.locals
  begun_here m s seat request (Some part) = s
  begun_here m s seat request None = begun_at_seat m s seat request (slice_get m.locals seat) refl

  -- a reset that begins, and its turns
  part_begun_at_seat : (m : Machine R) → State m.stock m.locals → (part : Resetting) (local : Option Local)
      → slice_get m.locals (seat_of part) ≡ local → State m.stock (part_begun local m.locals part)
  part_begun_at_seat m s part None there = s
  part_begun_at_seat m s part (Some l) there =
      unmoved s (seat_of part) l there (seat_begun l (kind_of part)).0 ((other_turns_lead l).resets (kind_of part))
      (resets (s.seats (seat_of part) l there) (kind_of part))

  begins_part : (m : Machine R) → State m.stock m.locals → (part : Option Resetting)
      → State (begun_part m part).stock (begun_part m part).locals
  begins_part m s None = s
  begins_part m s (Some part) = part_begun_at_seat m s part (slice_get m.locals (seat_of part)) refl

  begins_reset : (m : Machine R) → State m.stock m.locals → (lowest : Option ℕ)
      → State (reset_begun_by lowest m).0.stock (reset_begun_by lowest m).0.locals
  begins_reset m s (Some seat) = s
  begins_reset m s None = begins_part m s (Some (Resetting.Heap 0))

  follows : (part : Resetting) (turn : Turn) (m : Machine R) → State m.stock m.locals
      → State (part_turned part turn m).0.stock (part_turned part turn m).0.locals
  follows part (Turn.Done answer) m s = begins_part m s (part_after m.stock.key.seats part)
  follows part Turn.Stepped m s = s
  follows part (Turn.Waits awaited) m s = s
  follows part Turn.Idle m s = s

  part_turn : (m new : Machine R) → State m.stock m.locals → (part : Resetting) (done : Bool)
      → PartTurns out faults got passed m part done new → State new.stock new.locals
  part_turn m new s part done turns =
      let there = follows part turns.turn turns.middle (step_at_seat m turns.middle s (seat_of part)
      (slice_get m.locals (seat_of part)) refl turns.turn turns.steps) in
      let is : new ≡ (part_turned part turns.turn turns.middle).0 = ap (λ (p : Machine R × Bool). p.0) turns.after in
      subst (λ (n : Machine R). State n.stock n.locals) (sym is) there

  reset_turn_by : (m new : Machine R) → State m.stock m.locals → (part : Option Resetting) (done : Bool)
      → ResetTurnsBy out faults got passed part m done new → State new.stock new.locals
  reset_turn_by m new s (Some part) done turns = part_turn m new s part done turns
  reset_turn_by m new s None done turns =
      same_as m new s (ap (λ (n : Machine R). n.stock) turns.1) (ap (λ (n : Machine R). n.locals) turns.1)

  first_seats : (u : ℕ) (l : Local) → slice_get (made_locals (key_of policy limits) limits.seats) u ≡ Some l
      → Silent office (made (key_of policy limits) u) None l None
  first_seats u l there = subst (λ n. Silent office (made (key_of policy limits) u) None n None)
      (sym (made_there (key_of policy limits) limits.seats u l there)) (rests refl)

  first_state : State (first_machine policy limits raw).stock (first_machine policy limits raw).locals
  first_state = record {
    owner = None;
    entries = first_entry (key_of policy limits);
    key_is = refl;
    run = opened;
    seats = first_seats;
    out_is = refl;
  }

  pub machine_runs : {m : Machine R} → IsReached out faults got passed policy limits raw m → State m.stock m.locals
  machine_runs opens = first_state
  machine_runs (calls {m = m} reached seat request) = begun_here m (machine_runs reached) seat request m.resetting
  machine_runs (turned {m = m} {new = new} reached seat turn turns) = turn_by m new (machine_runs reached) seat m.resetting turn turns
  machine_runs (reset {m = m} reached) = begins_reset m (machine_runs reached) (lowest_in_call m.locals)
  machine_runs (reset_turned {m = m} {new = new} reached done turns) =
      reset_turn_by m new (machine_runs reached) m.resetting done turns
