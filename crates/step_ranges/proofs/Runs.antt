-- Runs keep words and locals in their ranges.
use Rattle.std.proofs.Common.{Bool, List, None, Option, [], ap, arith, eqb, inl, inr, length, refl}
use Rattle.std.proofs.Common.{subst, sym, ℕ, ◌%◌, ◌+◌, ◌<◌, ◌^◌, ◌∙◌, ◌∷◌, ◌≡◌, ◌≤◌}
use Rattle.std.specs.Prelude.{Err, Ok, Result, replicate, slice_index_or}
use Rattle.pool_types.specs.Policies.{IsAllowed}
use Rattle.pool_types.specs.declared.policy.Limits.{Limits}
use Rattle.pool_types.specs.declared.policy.Policy.{Policy}
use Rattle.pool_types.specs.declared.policy.RegionRec.{RegionRec}
use Rattle.pool_types.specs.declared.values.Region.{Region}
use Rattle.regions.specs.Obtaining.{Obtains}
use Rattle.regions.specs.Offices.{Desk}
use Rattle.regions.specs.Placing.{IsPlaced, parity_of, whole_granules}
use Rattle.regions.specs.declared.errors.ObtainError.{ObtainError}
use Rattle.pool_words.specs.Words.{backwards, bases, bin_heads, bin_locks, cache_ages, cache_cleaned}
use Rattle.pool_words.specs.Words.{cache_gets, cache_heads, cache_items, cache_links, cache_locks, cache_means}
use Rattle.pool_words.specs.Words.{cache_thresholds, cache_used, clocks, forwards, headers, kinds, lefts}
use Rattle.pool_words.specs.Words.{marks, nexts, office_locks, owns, publics, queue_links, sizes}
use Rattle.pool_words.specs.declared.actions.OfficeJob.{OfficeJob}
use Rattle.pool_words.specs.declared.actions.Seen.{Seen}
use Rattle.pool_words.specs.declared.words.Key.{Key}
use Rattle.pool_words.specs.declared.words.Word.{Word}
use Rattle.heap_slabs.specs.Slabs.{record_at}
use Rattle.heap_slabs.specs.declared.records.HeapSlab.{HeapSlab}
use Rattle.backend_bins.specs.Blocks.{fits}
use Rattle.large_cache.specs.declared.get.GetAt.{GetAt}
use Rattle.large_cache.specs.declared.get.HitAt.{HitAt}
use Rattle.large_cache.specs.declared.keep.KeepAt.{KeepAt}
use Rattle.large_cache.specs.declared.sweep.SweepAt.{SweepAt}
use Rattle.step_depot.specs.Steps.{asked_granules, key_of}
use Rattle.step_local.specs.Course.{course}
use Rattle.step_local.specs.Frames.{made, no_object}
use Rattle.step_local.specs.Large.{granules_of_served}
use Rattle.step_local.specs.Learn.{learn}
use Rattle.step_local.specs.declared.frames.At.{At}
use Rattle.step_local.specs.declared.frames.Local.{Local}
use Rattle.step_local.specs.declared.frames.ResetAt.{ResetAt}
use Rattle.reset_steps.specs.declared.clear.ClearAt.{ClearAt}
use Rattle.step_runs.specs.Callbacks.{PoolRun, office_of}
use Rattle.step_runs.specs.Laws.{IsOf}
use Rattle.step_runs.specs.declared.entry.Entry.{Entry}
use Rattle.step_laws.specs.Laws.{OnlySeatsStep}
use Rattle.step_ranges.proofs.Begun.{call_begins_in_range, reset_begins_in_range}
use Rattle.step_ranges.proofs.Codes.{no_block_fits, zero_fits}
use Rattle.step_ranges.proofs.Numbers.{choose, end_some}
use Rattle.step_ranges.proofs.Steps.{names_fit, step_fits, stores_fit}
use Rattle.step_ranges.specs.Jobs.{ClearLeads, GetLeads, HitLeads, KeepLeads, SeenFits, SweepLeads}
use Rattle.step_ranges.specs.Laws.{AreRanged, CourseIsValid, LinksLead, WordsHoldIndicesInRange}
use Rattle.step_ranges.specs.Locals.{KeptFits, LeadsAt, LocalFits, ObjectFits, ResetLeads}
use Rattle.step_ranges.specs.Ranges.{Finds, IsKey, IsSlab, Ranged, Stores, ValueFits, WordFits}
use Rattle.std.proofs.lemmas.Bool.Decides.{nat_tests}
use Rattle.pool_words.specs.declared.actions.Action.{Action}
use Rattle.pool_words.specs.declared.actions.Action.TheVariants.{Load, Store, Swap, Exchange, Add, TakeOffice}
use Rattle.pool_words.specs.declared.actions.Action.TheVariants.{GiveOffice, Nothing}
use Rattle.word_laws.specs.Memory.{Mem, after, found, memory, stored, word_at, write}
use Rattle.word_laws.proofs.CallerLemmas.{actions_act_by_kind, each, equal_or, less_or, stored-valid, stored-void}
use Rattle.word_laws.proofs.CallerLemmas.{write_else, write_here}
use Rattle.word_laws.proofs.Placing.{new_rows_are_fresh}
use Rattle.step_runs.specs.Runs.{Silent, Callback, seen_answer}
use Rattle.step_runs.proofs.CallerLemmas.{Has, silence_keeps, run_keeps, office_keeps, run_stands}
use Rattle.step_laws.proofs.CallerLemmas.{this_seat, before_seats}
use Rattle.std.proofs.lemmas.List.{get_or-replicate, get_or_past, length-replicate}
use Rattle.std.proofs.lemmas.List.Elements.{All-nil}
use Rattle.pool_words.specs.Words.{WordKind, number, kind_of_word, at_of, length_of, queues, mailboxes, orphans}
use Rattle.pool_words.specs.Words.{regions}
use Rattle.pool_words.specs.Actions.{finds, after_action, word_seen}
use Rattle.step_runs.specs.Entries.{learnt, seen_by}
use Rattle.word_laws.specs.Memory.{put}
use Rattle.step_runs.specs.Runs.Silent.{rests, begins, resets, answers, obtains, takes_out, puts_back}
use Rattle.step_runs.specs.Runs.Run.{opened, stepped}

-- the wall of a region that came is in the span
placed_within : (span : ℕ) (records : List RegionRec) (parity whole first granules : ℕ)
    → IsPlaced span records parity whole first granules → first + granules < span
placed_within span records parity whole first granules (inl is) =
    let all = is.all in let within = is.fits.gap.within in omega arith
placed_within span records parity whole first granules (inr is) =
    let ends = is.ends in let within = is.longest.gap.within in omega arith

pub is_key : (policy : Policy) (limits : Limits) → IsAllowed policy limits → IsKey (key_of policy limits)
is_key policy limits allowed = record {
  seated = let is_in = allowed.limits_in.0.0 in grind (arith, nat_tests);
  seats = let is_in = allowed.limits_in.0.0 in grind (arith, nat_tests);
  spans = let is_in = allowed.limits_in.1 in grind (arith, nat_tests);
  span = let is_in = allowed.limits_in.1 in grind (arith, nat_tests);
}

kind_list : List WordKind
kind_list = marks ∷ kinds ∷ owns ∷ publics ∷ nexts ∷ headers ∷ sizes ∷ lefts ∷ bin_locks ∷ bin_heads ∷ forwards
    ∷ backwards ∷ queues ∷ queue_links ∷ mailboxes ∷ orphans ∷ cache_locks ∷ cache_heads ∷ cache_items ∷ cache_used
    ∷ cache_means ∷ cache_thresholds ∷ cache_gets ∷ cache_cleaned ∷ cache_links ∷ cache_ages ∷ clocks ∷ office_locks
    ∷ regions ∷ bases ∷ []

kind_back : (kind : WordKind) → slice_index_or kind_list (number kind) marks ≡ kind
unfolding kind_list
kind_back marks = refl
kind_back _ = refl

-- a kind is known by its number
kinds_same : (one other : WordKind) → number one ≡ number other → one ≡ other
kinds_same one other e =
    sym (kind_back one) ∙ ap (λ n. slice_index_or kind_list n marks) e ∙ kind_back other

module _ (k : Key) (key : IsKey k) where
  -- words in their ranges stay so where what is stored is
  write_fits : (m : Mem) (w : Word) (value : ℕ) → Ranged k m → ValueFits k w value
      → Ranged k (write m (kind_of_word w) (at_of w) value)
  write_fits m w value ranged fits kind index = equal_or (number (kind_of_word w)) (number kind)
      (λ same. equal_or (at_of w) index
      (λ here. subst (WordFits k kind index) (sym (write_here m (kind_of_word w) kind (at_of w) value index same here))
      (subst (λ c. WordFits k c index value) (kinds_same (kind_of_word w) kind same)
      (subst (λ i. WordFits k (kind_of_word w) i value) here fits)))
      (λ there. subst (WordFits k kind index)
      (sym (write_else m (kind_of_word w) kind (at_of w) value index (λ _. there))) (ranged kind index)))
      (λ other. subst (WordFits k kind index)
      (sym (write_else m (kind_of_word w) kind (at_of w) value index (λ same. absurd (other same))))
      (ranged kind index))

  stored_fits : (m : Mem) (w : Word) (value : ℕ) → Ranged k m → ValueFits k w value → Ranged k (stored k m w value)
  stored_fits m w value ranged fits = less_or (at_of w) (length_of k (kind_of_word w))
      (λ valid. subst (Ranged k) (sym (stored-valid k m w value valid)) (write_fits m w value ranged fits))
      (λ void. subst (Ranged k) (sym (stored-void k m w value void)) ranged)

  after_fits : (m : Mem) (action : Action) → Ranged k m → Stores k action → Ranged k (after k m action)
  after_fits m (Load w) ranged fits = ranged
  after_fits m (Store w value) ranged fits = stored_fits m w value ranged fits
  after_fits m (Swap w value) ranged fits = stored_fits m w value ranged fits
  after_fits m (Exchange w from to) ranged fits =
      choose (Ranged k) (eqb (word_at m w) from) _ _ (stored_fits m w to ranged fits) ranged
  after_fits m (Add w value) ranged fits =
      stored_fits m w ((word_at m w + value) % 2 ^ 64) ranged (fits ((word_at m w + value) % 2 ^ 64))
  after_fits m (TakeOffice job) ranged fits = ranged
  after_fits m GiveOffice ranged fits = ranged
  after_fits m Nothing ranged fits = ranged

  found_fits : (m : Mem) (action : Action) → Ranged k m → Finds k action (found m action)
  found_fits m (Load w) ranged = ranged (kind_of_word w) (at_of w)
  found_fits m (Store w value) ranged = tt
  found_fits m (Swap w value) ranged = ranged (kind_of_word w) (at_of w)
  found_fits m (Exchange w from to) ranged = ranged (kind_of_word w) (at_of w)
  found_fits m (Add w value) ranged = tt
  found_fits m (TakeOffice job) ranged = tt
  found_fits m GiveOffice ranged = tt
  found_fits m Nothing ranged = tt

  -- what a seat is told of a step on a word
  told_fits : (action : Action) (value : ℕ) → Finds k action value → Finds k action (word_seen (seen_by action value))
  told_fits (Load w) value fits = fits
  told_fits (Store w stored) value fits = tt
  told_fits (Swap w stored) value fits = fits
  told_fits (Exchange w from to) value fits = fits
  told_fits (Add w added) value fits = tt
  told_fits (TakeOffice job) value fits = tt
  told_fits GiveOffice value fits = tt
  told_fits Nothing value fits = tt

  told_no_region : (action : Action) (value : ℕ) → SeenFits k (seen_by action value)
  told_no_region (Load w) value = tt
  told_no_region (Store w stored) value = tt
  told_no_region (Swap w stored) value = tt
  told_no_region (Exchange w from to) value = tt
  told_no_region (Add w added) value = tt
  told_no_region (TakeOffice job) value = tt
  told_no_region GiveOffice value = tt
  told_no_region Nothing value = tt

  -- an action tells its seat the value that it found, or nothing
  told_is : (P : ℕ → Type 0) (action : Action) (value : ℕ) → P value → P 0 → P (word_seen (seen_by action value))
  told_is P (Load w) value is none = is
  told_is P (Store w stored) value is none = none
  told_is P (Swap w stored) value is none = is
  told_is P (Exchange w from to) value is none = is
  told_is P (Add w added) value is none = is
  told_is P (TakeOffice job) value is none = none
  told_is P GiveOffice value is none = none
  told_is P Nothing value is none = none

  -- a link that is none leads nowhere
  hit_zero : (granules : ℕ) (at : HitAt) → HitLeads k granules at 0
  hit_zero granules (HitAt.Link items block) = no_block_fits k key granules
  hit_zero granules _ = tt

  get_zero : (granules : ℕ) (at : GetAt) → GetLeads k granules at 0
  get_zero granules (GetAt.Hit at) = hit_zero granules at
  get_zero granules _ = tt

  keep_zero : (granules : ℕ) (at : KeepAt) → KeepLeads k granules at 0
  keep_zero granules (KeepAt.Walk tail) = no_block_fits k key granules
  keep_zero granules _ = tt

  sweep_zero : (granules : ℕ) (at : SweepAt) → SweepLeads k granules at 0
  sweep_zero granules (SweepAt.Link walk) = no_block_fits k key granules
  sweep_zero granules _ = tt

  clear_zero : (granules : ℕ) (at : ClearAt) → ClearLeads k granules at 0
  clear_zero granules (ClearAt.Link block) = no_block_fits k key granules
  clear_zero granules _ = tt

  reset_zero : (at : ResetAt) → ResetLeads k at 0
  reset_zero (ResetAt.Clear granules at) = clear_zero granules at
  reset_zero _ = tt

  leads_zero : (l : Local) (at : At) → LeadsAt k l at 0
  leads_zero l (At.Get at) = get_zero (granules_of_served l.call.served) at
  leads_zero l (At.Keep at) = keep_zero l.call.block.granules at
  leads_zero l (At.Sweep at) = sweep_zero l.sweep.granules at
  leads_zero l (At.Reset at) = reset_zero at
  leads_zero l _ = tt

  -- what a step on a word leaves
  word_step_fits : (l : Local) (value : ℕ) → LocalFits k l → Finds k (course l) value → LeadsAt k l l.at value
      → LocalFits k (learn l (seen_by (course l) value)).0
  word_step_fits l value fits finds leads = step_fits k key l (seen_by (course l) value) fits
      (told_fits (course l) value finds) (told_no_region (course l) value)
      (told_is (LeadsAt k l l.at) (course l) value leads (leads_zero l l.at))

  -- and one of the office, or none
  other_step_fits : (l : Local) (action : Action) (s : Seen) → course l ≡ action → word_seen s ≡ 0
      → Finds k action (word_seen s) → SeenFits k s → LocalFits k l → LocalFits k (learn l s).0
  other_step_fits l action s e nothing finds seen fits = step_fits k key l s fits
      (subst (λ a. Finds k a (word_seen s)) (sym e) finds) seen
      (subst (LeadsAt k l l.at) (sym nothing) (leads_zero l l.at))

  no_records : (granules slab : ℕ) → KeptFits k (record_at (replicate granules None) slab)
  no_records granules slab = less_or slab granules
      (λ low. subst (KeptFits k) (sym (get_or-replicate granules slab None None low)) tt)
      (λ high. subst (KeptFits k) (sym (get_or_past (replicate granules None) slab None (past high))) tt)
    where
      past : granules ≤ slab → length (replicate {A = Option HeapSlab} granules None) ≤ slab
      past high = let long = length-replicate {A = Option HeapSlab} granules None in omega arith

  no_object_fits : ObjectFits k no_object
  no_object_fits = record { unit = let some = end_some k key in omega arith; kind = tt }

  pub made_fits : (seat : ℕ) → seat < k.seats → LocalFits k (made k seat)
  made_fits seat low = record {
    frames = record {
      key = refl;
      seat = low;
      heap = record {
        records = no_records k.span;
        cached = All-nil (IsSlab k);
        spares = All-nil (IsSlab k);
      };
      call = record { old = no_object_fits; new = no_object_fits; served = omega arith; stage = tt };
      fetch = record {
        class = omega arith;
        spare = record { even = omega arith; below = let some = end_some k key in omega arith };
      };
      bin = omega arith;
    };
    at = refl;
  }

module _ {R : Type 0} (out : R → List Region) (faults : R → ℕ) (got : R → ℕ → Option Region → R → Type 0)
    (passed : R → Region → Bool → R → Type 0) (policy : Policy) (limits : Limits) (raw : R)
    (allowed : IsAllowed policy limits) where
  abbrev Office : Callback (Desk R)
  Office = office_of out faults got passed (key_of policy limits)

  obtained_step : (l : Local) (granules : ℕ) (answer : Result RegionRec ObtainError) (old new : Desk R)
      → LocalFits (key_of policy limits) l → course l ≡ TakeOffice (OfficeJob.Obtain granules)
      → Obtains out faults got old (asked_granules (key_of policy limits) granules) answer new
      → IsOf policy limits old → LocalFits (key_of policy limits) (learn l (seen_answer answer)).0
  obtained_step l granules (Ok one) old new fits e comes is =
      other_step_fits (key_of policy limits) (is_key policy limits allowed) l (TakeOffice (OfficeJob.Obtain granules))
      (Seen.Obtained one) e refl tt
      (subst (λ (known : Limits). one.first + one.granules < known.span) is.limits_are
      (placed_within old.limits.span old.records (parity_of one) (whole_granules one) one.first one.granules
      comes.is_record.placed)) fits
  obtained_step l granules (Err error) old new fits e comes is =
      other_step_fits (key_of policy limits) (is_key policy limits allowed) l (TakeOffice (OfficeJob.Obtain granules))
      (Seen.Refused error) e refl tt tt fits

  pub silence_fits : {l : Local} {d : Option (Desk R)} {now : Local} {later : Option (Desk R)}
      → Silent Office l d now later → Has (IsOf policy limits) d → LocalFits (key_of policy limits) l
      → LocalFits (key_of policy limits) now
  silence_fits (rests passes) has fits = fits
  silence_fits (begins {now = now} silent request) has fits = call_begins_in_range (key_of policy limits)
      (is_key policy limits allowed) now request (silence_fits silent has fits)
  silence_fits (resets {now = now} silent reset) has fits = reset_begins_in_range (key_of policy limits)
      (is_key policy limits allowed) now reset (silence_fits silent has fits)
  silence_fits (answers {now = now} silent e) has fits = other_step_fits (key_of policy limits)
      (is_key policy limits allowed) now Nothing Seen.Done e refl tt tt (silence_fits silent has fits)
  silence_fits (obtains {now = now} {desk = desk} silent granules answer new e asks) has fits =
      obtained_step now granules answer desk new (silence_fits silent has fits) e asks
      (silence_keeps (IsOf policy limits) Office
      (office_keeps out faults got passed policy limits (key_of policy limits)) silent has desk refl)
  silence_fits (takes_out {now = now} silent first e) has fits = other_step_fits (key_of policy limits)
      (is_key policy limits allowed) now (TakeOffice (OfficeJob.Give first)) Seen.Given e refl tt tt
      (silence_fits silent has fits)
  silence_fits (puts_back {now = now} silent e) has fits = other_step_fits (key_of policy limits)
      (is_key policy limits allowed) now GiveOffice Seen.Done e refl tt tt (silence_fits silent has fits)

  abbrev pub PoolRuns : List ℕ → Option (Desk R) → (ℕ → Entry (Desk R)) → Type 0
  PoolRuns words home entries = PoolRun out faults got passed policy limits raw words home entries

  desks_have : {words : List ℕ} {home : Option (Desk R)} {entries : ℕ → Entry (Desk R)}
      → PoolRuns words home entries → (seat : ℕ) → Has (IsOf policy limits) (entries seat).desk
  desks_have run = (run_keeps (IsOf policy limits) Office
      (office_keeps out faults got passed policy limits (key_of policy limits))
      (record { policy_is = refl; limits_are = refl }) run).seats_have

  module _ (words : List ℕ) (home : Option (Desk R)) (entries : ℕ → Entry (Desk R))
      (run : PoolRuns words home entries) (are : AreRanged (key_of policy limits) words entries) (seat : ℕ)
      (low : seat < limits.seats) (l : Local) (desk : Option (Desk R)) where
    pub come_to_fits : Silent Office (entries seat).local (entries seat).desk l desk
        → LocalFits (key_of policy limits) l
    come_to_fits silent = silence_fits silent (desks_have run seat) (are.locals seat low)

    stepped_fits : Silent Office (entries seat).local (entries seat).desk l desk
        → LeadsAt (key_of policy limits) l l.at (finds (key_of policy limits) words (course l))
        → AreRanged (key_of policy limits) (after_action (key_of policy limits) words (course l))
        (put entries seat (learnt (entries seat) l home desk (finds (key_of policy limits) words (course l))))
    stepped_fits silent leads =
        let key = is_key policy limits allowed in
        let fits = come_to_fits silent in
        let acts = actions_act_by_kind (key_of policy limits) words (course l) (run_stands run).sized in
        let value = finds (key_of policy limits) words (course l) in
        record {
          words = subst (Ranged (key_of policy limits)) (sym acts.leaves)
              (after_fits (key_of policy limits) key (memory (key_of policy limits) words) (course l) are.words
              (stores_fit (key_of policy limits) key l fits));
          locals = each (λ other e. other < limits.seats → LocalFits (key_of policy limits) e.local) entries seat
              (learnt (entries seat) l home desk value) (λ other _. are.locals other)
              (λ _. word_step_fits (key_of policy limits) key l value fits
              (subst (Finds (key_of policy limits) (course l)) (sym acts.sees)
              (found_fits (key_of policy limits) key (memory (key_of policy limits) words) (course l) are.words))
              leads);
        }

  pub run_ranged : {words : List ℕ} {home : Option (Desk R)} {entries : ℕ → Entry (Desk R)}
      → (run : PoolRuns words home entries) → LinksLead run → OnlySeatsStep limits.seats entries
      → AreRanged (key_of policy limits) words entries
  run_ranged opened leads only = record {
    words = subst (Ranged (key_of policy limits)) (sym (new_rows_are_fresh (key_of policy limits)))
        (zero_fits (key_of policy limits) (is_key policy limits allowed));
    locals = made_fits (key_of policy limits) (is_key policy limits allowed);
  }
  run_ranged (stepped {words = words} {home = home} {entries = entries} run seat l desk silent word) leads only =
      let value = finds (key_of policy limits) words (course l) in
      stepped_fits words home entries run
      (run_ranged run leads.0 (before_seats limits.seats entries seat l home desk value only)) seat
      (this_seat limits.seats entries seat l home desk value only) l desk silent leads.1

module _ {R : Type 0} (out : R → List Region) (faults : R → ℕ) (got : R → ℕ → Option Region → R → Type 0)
    (passed : R → Region → Bool → R → Type 0) where
  pub words_hold_indices_in_range : WordsHoldIndicesInRange out faults got passed
  words_hold_indices_in_range policy limits raw words home entries allowed run leads only =
      run_ranged out faults got passed policy limits raw allowed run leads only

  pub course_is_valid : CourseIsValid out faults got passed
  course_is_valid policy limits raw words home entries allowed run leads only seat low l desk silent =
      names_fit (key_of policy limits) (is_key policy limits allowed) l
      (come_to_fits out faults got passed policy limits raw allowed words home entries run
      (run_ranged out faults got passed policy limits raw allowed run leads only) seat low l desk silent)
