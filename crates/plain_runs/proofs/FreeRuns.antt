-- Each whole free is a run of the partition machine's events.
use Prim.Native.Nat.{zero, suc}
use Rattle.std.proofs.Common.{◌≡◌, ℕ, ◌<◌, ◌≤◌, Bool, true, false, List, [], ◌∷◌, ◌++◌, length, take, drop, Some, None, refl, sym, ◌∙◌, ap, arith, inl, inr, subst, take-append-drop}
use Rattle.std.specs.Prelude.{Contains, slice_get, slice_set, if◌then◌else◌, nat_le}
use Rattle.std.specs.declared.option.Option.{Option}
use Rattle.std.proofs.lemmas.Bool.{leb-true, false_from_ne_true}
use Rattle.pool_types.specs.declared.values.Place.{Place}
use Rattle.pool_types.specs.declared.values.Region.{Region}
use Rattle.pool_types.specs.declared.values.Request.TheVariants.{Free}
use Rattle.pool_types.specs.declared.values.Answer.TheVariants.{Freed as FreedAnswer}
use Rattle.part_model.specs.declared.holders.Holder.TheVariants.{Private, Object, Hand, Head, Rest}
use Rattle.part_model.specs.declared.moves.Part.{Part}
use Rattle.size_classes.specs.Classes.{class_size}
use Rattle.machine.specs.States.{State, fixed_terms}
use Rattle.machine.specs.Ranges.{Each, head_range}
use Rattle.machine.specs.Journal.{Turn, Nothing_seen, after_turn, after_turns}
use Rattle.machine.specs.Lawful.{nothing_moves}
use Rattle.machine.specs.Answers.{Moment, moved_parts}
use Rattle.machine.proofs.CallerLemmas.{each-append, nothing_moved, none_whole, none_apart}
use Rattle.plain_lists.specs.Lists.{OwnSlab, Lists, lies_on, taken_back, is_unused, changed, without}
use Rattle.plain_lists.specs.Backend.{after_puts}
use Rattle.plain_lists.specs.Whole.{Spot, grant_of, place_at, whole, spot_at, frees, free_of, shelved, trimmed}
use Rattle.plain_lists.specs.Good.{AreGood, IsGoodSlab, IsHeld, nones}
use Rattle.std.proofs.lemmas.List.Elements.{Contains-append_cases}
use Rattle.list_laws.proofs.Members.{Contains-single}
use Rattle.plain_lists.proofs.SlabLists.{Contains-without}
use Rattle.plain_lists.proofs.Gets.{nones-set_none}
use Rattle.plain_lists.proofs.Beside.{AreGoodBeside, beside_none}
use Rattle.plain_lists.proofs.Calls.{shelves}
use Rattle.plain_lists.proofs.Spots.{IsSpotAt, spot_at-Some}
use Rattle.plain_lists.proofs.ObjectPlaces.{spot_place}
use Rattle.plain_runs.specs.Steps.{still_step, free_step, frees_steps, free_steps, shelf_steps, end_step, store_step, trim_steps, puts_steps, steps_of, granule_place, rest_range, handed_range}
use Rattle.plain_runs.proofs.Layouts.{Use, Away, InBin, InHand, InCache, OfSlab, Layout, laid, IsLaid, Knows}
use Rattle.plain_runs.proofs.Moves.{laid-inside, laid-outside, plain_no_slab, IsQuiet, IsMade}
use Rattle.plain_runs.proofs.GranuleSteps.{shelf_step}
use Rattle.plain_runs.proofs.ObjectSteps.{on_slab, same_slab}
use Rattle.plain_runs.proofs.EndSteps.{AllPrivate, slab_ended}
use Rattle.plain_runs.proofs.Courses.{call_with, moment, moments_of, AreQuiet, IsStep, one_leads, lead_on, quiet_leads, quiet_parts, quiet_from, quiet_none, granted_none, ended_none, moved_parts-append, call_runs, due_after-append, quiet_due, cleaned_from, quiet_small, quiet_ticks, NoTick}
use Rattle.plain_runs.proofs.LaidOut.{Lays, Holds, lays_changed}
use Rattle.plain_runs.proofs.GrantSteps.{object_part, object_back}
use Rattle.plain_runs.proofs.Legal.{never, none_in_hand, calm_pool}
use Rattle.plain_runs.proofs.RoomSteps.{used_region, knows_region}
use Rattle.plain_runs.proofs.MallocRuns.{WholeRuns}
use Rattle.plain_runs.proofs.Objects.{listed_laid}
use Rattle.plain_runs.proofs.LookRuns.{free_none_runs, free_missing_runs}
use Rattle.plain_runs.proofs.PutSteps.{IsPut, slabs_put}
use Rattle.plain_runs.proofs.Bins.{BlocksIn, IsOffBins, blocks_stay}
use Rattle.plain_runs.proofs.SlabSteps.{end_parts, each_three}
use Rattle.machine.specs.Turns.{Nothing_due}

-- an object comes back, then quiet steps, and then the answer
pub run_freed : (state : State) (lists' : Lists) (slab : OwnSlab) (object number : ℕ) (turns : List Turn) → IsMade state (free_step slab object number).parts [] None →
    AreQuiet (after_turn state (free_step slab object number)) turns → Holds (after_turns (after_turn state (free_step slab object number)) turns) lists' →
    WholeRuns state (Free (Some (place_at slab.index slab.class object))) (free_step slab object number ∷ (turns ++ still_step (Some FreedAnswer) ∷ [])) lists'
run_freed state lists' slab object number turns made quiet holds = record {
  next = next;
  runs = call_runs state (Free (Some (place_at slab.index slab.class object))) (free_step slab object number ∷ turns) next moments [] Nothing_seen FreedAnswer refl
      (lead_on (Free (Some (place_at slab.index slab.class object))) state state [] (free_step slab object number) turns freed (first ∷ []) moments next
      (one_leads (Free (Some (place_at slab.index slab.class object))) state state [] (free_step slab object number) step)
      (quiet_leads (Free (Some (place_at slab.index slab.class object))) state freed (first ∷ []) turns quiet))
      (record {
        whole = none_whole;
        apart = none_apart;
        there = tt;
        lawful = nothing_moves;
        fits = record {
          sight = tt;
          moves = nothing_moved fixed_terms (call_with state (Free (Some (place_at slab.index slab.class object))) moments);
          large = tt;
          slabs = tt;
          comes = tt;
          leaves = tt;
          answered = record {
            legal = record {
              answers = (
                granted_none (part ∷ others) (refl, quiet_none others others_quiet),
                (class_size slab.class, grant_of number, record { to = Some Private; one = ap (λ (ps : List Part). part ∷ ps) (ended_none (part ∷ []) others (quiet_from others others_quiet)) }),
              );
              no_hand = never next lists' holds (Some (Hand 0)) refl;
              no_slab = none_in_hand next lists' holds;
            };
            due = due_after-append Nothing_due (moments_of freed turns) (moment next (still_step (Some FreedAnswer)) ∷ []) ∙ quiet_due Nothing_due freed turns quiet;
            cleaned = cleaned_from (moments ++ moment next (still_step (Some FreedAnswer)) ∷ []) (refl, quiet_small others others_quiet)
                (refl, each-append NoTick (moments_of freed turns) (moment next (still_step (Some FreedAnswer)) ∷ []) (quiet_ticks freed turns quiet) (refl, tt));
            calm = λ once. calm_pool next lists' [] holds;
          };
        };
      });
  holds = holds;
}
  where
    part : Part
    part = object_part slab object (Some (Object (grant_of number))) (Some Private)

    freed : State
    freed = after_turn state (free_step slab object number)

    next : State
    next = after_turns (after_turn state (free_step slab object number)) turns

    first : Moment
    first = moment state (free_step slab object number)

    moments : List Moment
    moments = moment state (free_step slab object number) ∷ moments_of (after_turn state (free_step slab object number)) turns

    others : List Part
    others = moved_parts (moments_of (after_turn state (free_step slab object number)) turns ++ moment (after_turns (after_turn state (free_step slab object number)) turns) (still_step (Some FreedAnswer)) ∷ [])

    others_quiet : Each IsQuiet others
    others_quiet = subst (Each IsQuiet) (sym (moved_parts-append (moments_of freed turns) (moment next (still_step (Some FreedAnswer)) ∷ [])))
        (each-append IsQuiet (moved_parts (moments_of freed turns)) [] (quiet_parts freed turns quiet) tt)

    step : IsStep (Free (Some (place_at slab.index slab.class object))) state state [] (free_step slab object number)
    step = record {
      parts = part ∷ [];
      book = [];
      region = None;
      seen = Nothing_seen;
      is = refl;
      clock = refl;
      made = made;
      fits = record {
        sight = tt;
        moves = record { grants = refl; ends = (inl refl, tt); keeps = refl };
        large = tt;
        slabs = tt;
        comes = tt;
        leaves = tt;
        answered = tt;
      };
    }

-- as many are none as there are: all are
pub all_none : (xs : List (Option ℕ)) → length xs ≤ nones xs → (i : ℕ) → i < length xs → slice_get xs i ≡ Some None
all_none [] most i below = absurd (omega arith)
all_none (None ∷ xs) most zero below = refl
all_none (None ∷ xs) most (suc i) below = all_none xs (omega arith) i (omega arith)
all_none (Some number ∷ xs) most i below = absurd (let few = nones_most xs in omega (arith, few, most))
  where
    nones_most : (ys : List (Option ℕ)) → nones ys ≤ length ys
    nones_most [] = omega arith
    nones_most (None ∷ ys) = let rest = nones_most ys in omega (arith, rest)
    nones_most (Some number ∷ ys) = let rest = nones_most ys in omega (arith, rest)

-- a slab that came to have no object held
pub back_private : (slab : OwnSlab) (object number : ℕ) → IsGoodSlab slab → IsHeld slab object number → is_unused (taken_back slab object) ≡ true → AllPrivate (taken_back slab object)
back_private slab object number good held unused =
    let most = leb-true (length (slice_set slab.objects object None)) (length (object ∷ slab.private)) unused in
    let more = nones-set_none slab.objects object number held in
    let counted = good.counted in
    all_none (slice_set slab.objects object None) (omega (arith, most, more, counted))

-- an object comes back to a slab that has others held
pub run_back : (state : State) (lists : Lists) (slab : OwnSlab) (object number : ℕ) → Holds state lists → Contains lists.slabs slab → IsHeld slab object number →
    AreGood (record lists { slabs = changed (taken_back slab object) lists.slabs }) →
    WholeRuns state (Free (Some (place_at slab.index slab.class object))) (free_step slab object number ∷ still_step (Some FreedAnswer) ∷ []) (record lists { slabs = changed (taken_back slab object) lists.slabs })
run_back state lists slab object number holds member held good =
    let laid_slab = listed_laid state lists holds slab member in
    let back = object_back state holds.layout lists.region lists.granted slab object number laid_slab held holds.knows in
    run_freed state (record lists { slabs = changed (taken_back slab object) lists.slabs }) slab object number [] back.made tt (record {
      layout = laid holds.layout slab.index 2 (OfSlab (taken_back slab object));
      knows = back.knows;
      lays = lays_changed lists holds.layout slab (slice_set slab.objects object None) (object ∷ slab.private) lists.granted holds.lays laid_slab.whole;
      good = good;
      blocks = blocks_stay state (free_step slab object number) lists.blocks (record { from = refl; to = refl }, tt) holds.blocks;
    })

-- the lists with a slab in the slab cache
abbrev pub with_stored : Lists → ℕ → Lists
with_stored lists index = record lists { slabs = without index lists.slabs; stored = lists.stored ++ index ∷ [] }

-- a slab that ended is in the slab cache
pub lays_shelved : (lists : Lists) (layout : Layout) (slab : OwnSlab) (one other : Use) → Lays lists layout → Contains lists.slabs slab →
    Lays (with_stored lists slab.index) (laid (laid (laid layout slab.index 2 one) slab.index 2 other) slab.index 2 InCache)
lays_shelved lists layout slab one other lays member = record {
  slabs_are = λ s listed g on.
      let both = Contains-without slab.index lists.slabs s listed in
      same g (OfSlab s) (lays.slabs_are s both.0 g on) (λ is. both.1 (ap (λ (o : OwnSlab). o.index) (sym (same_slab slab s is))));
  stored_are = λ i listed g on. elim (Contains-append_cases lists.stored (slab.index ∷ []) i listed) [
    | inl old ↦ same g InCache (lays.stored_are i old g on) (λ is. plain_no_slab InCache slab refl (sym is))
    | inr new ↦ laid-inside (laid (laid layout slab.index 2 one) slab.index 2 other) slab.index 2 InCache g (ap (λ k. lies_on k 2 g) (Contains-single slab.index i new) ∙ on)
  ];
  blocks_are = λ block listed g on. same g InBin (lays.blocks_are block listed g on) (λ is. plain_no_slab InBin slab refl (sym is));
  away = λ g off. same g Away (lays.away g off) (λ is. plain_no_slab Away slab refl (sym is));
}
  where
    same : (g : ℕ) (use' : Use) → layout g ≡ use' → (OfSlab slab ≡ use' → ⊥) → laid (laid (laid layout slab.index 2 one) slab.index 2 other) slab.index 2 InCache g ≡ use'
    same g use' is no_slab =
        let off : lies_on slab.index 2 g ≡ false = false_from_ne_true (lies_on slab.index 2 g) (λ on. no_slab (sym (lays.slabs_are slab member g on) ∙ is)) in
        laid-outside (laid (laid layout slab.index 2 one) slab.index 2 other) slab.index 2 InCache g off ∙ laid-outside (laid layout slab.index 2 one) slab.index 2 other g off ∙ laid-outside layout slab.index 2 one g off ∙ is

-- the slab cache is trimmed, where it has too many
pub trim_run : (state : State) (lists : Lists) (layout : Layout) (region : Region) → AreGoodBeside [] lists → Lays lists layout → Knows state layout (Some region) lists.granted → BlocksIn state lists.blocks →
    IsPut state (trimmed lists) region (trim_steps lists.stored lists.blocks)
trim_run state lists layout region good lays knows bins = go (nat_le 33 (length lists.stored))
  where
    cut : take 25 lists.stored ++ drop 25 lists.stored ≡ lists.stored
    cut = take-append-drop 25 lists.stored

    go : (b : Bool) → IsPut state (if b then record lists { stored = drop 25 lists.stored; blocks = after_puts (take 25 lists.stored) lists.blocks } else lists) region
        (if b then puts_steps (take 25 lists.stored) lists.blocks else [])
    go true = slabs_put (take 25 lists.stored) (drop 25 lists.stored) state lists lists.blocks layout region
        (subst (λ stored. AreGoodBeside [] (record lists { stored = stored })) (sym cut) good) (subst (λ stored. Lays (record lists { stored = stored }) layout) (sym cut) lays) knows bins
    go false = record { layout = layout; quiet = tt; knows = knows; lays = lays; blocks = bins }

-- trimming leaves the region
trimmed_region : (lists : Lists) → (trimmed lists).region ≡ lists.region
trimmed_region lists = go (nat_le 33 (length lists.stored))
  where
    go : (b : Bool) → (if b then record lists { stored = drop 25 lists.stored; blocks = after_puts (take 25 lists.stored) lists.blocks } else lists).region ≡ lists.region
    go true = refl
    go false = refl

-- a slab that ends leaves the bins
end_off : (slab : OwnSlab) → Each IsOffBins (end_parts slab)
end_off slab = each_three IsOffBins (head_range (granule_place slab.index) slab.class) (rest_range slab) (handed_range slab) (Some Head) (Some Rest) (Some Private) (Some (Hand 0))
    (record { from = refl; to = refl }) (record { from = refl; to = refl }) (record { from = refl; to = refl })

-- the last object of a slab comes back: the slab ends and goes into the slab cache
pub run_shelf : (state : State) (lists : Lists) (slab : OwnSlab) (object number : ℕ) → Holds state lists → Contains lists.slabs slab → IsHeld slab object number → is_unused (taken_back slab object) ≡ true →
    AreGood (shelved lists slab.index) →
    WholeRuns state (Free (Some (place_at slab.index slab.class object))) (free_step slab object number ∷ (shelf_steps lists (taken_back slab object) ++ still_step (Some FreedAnswer) ∷ [])) (shelved lists slab.index)
run_shelf state lists slab object number holds member held unused good =
    let laid_slab = listed_laid state lists holds slab member in
    let there = used_region lists holds.layout slab.index (OfSlab slab) holds.lays (laid_slab.whole slab.index (on_slab slab.index slab.index (omega arith) (omega arith))) (plain_no_slab Away slab refl) in
    let back = object_back state holds.layout lists.region lists.granted slab object number laid_slab held holds.knows in
    let knows_back = knows_region freed (laid holds.layout slab.index 2 (OfSlab (taken_back slab object))) lists.region there.0 lists.granted there.1 back.knows in
    let laid_back : IsLaid (laid holds.layout slab.index 2 (OfSlab (taken_back slab object))) (taken_back slab object) =
    (back.knows.slabs_are slab.index (taken_back slab object) (laid-inside holds.layout slab.index 2 (OfSlab (taken_back slab object)) slab.index (on_slab slab.index slab.index (omega arith) (omega arith)))).0 in
    let end' = slab_ended freed (laid holds.layout slab.index 2 (OfSlab (taken_back slab object))) there.0 lists.granted (taken_back slab object) laid_back
    (back_private slab object number (holds.good.slabs_are slab member) held unused) knows_back in
    let shelf = shelf_step (after_turn freed (end_step (taken_back slab object))) (laid (laid holds.layout slab.index 2 (OfSlab (taken_back slab object))) slab.index 2 InHand) there.0 lists.granted slab.index laid_slab.even laid_slab.inside
    (λ g on. laid-inside (laid holds.layout slab.index 2 (OfSlab (taken_back slab object))) slab.index 2 InHand g on) end'.knows in
    let beside = shelves [] lists slab (beside_none lists holds.good) member in
    let trim = trim_run (after_turn (after_turn freed (end_step (taken_back slab object))) (store_step slab.index)) (with_stored lists slab.index)
    (laid (laid (laid holds.layout slab.index 2 (OfSlab (taken_back slab object))) slab.index 2 InHand) slab.index 2 InCache) there.0 beside
    (lays_shelved lists holds.layout slab (OfSlab (taken_back slab object)) InHand holds.lays member) shelf.knows
    (blocks_stay (after_turn freed (end_step (taken_back slab object))) (store_step slab.index) lists.blocks (record { from = refl; to = refl }, tt)
    (blocks_stay freed (end_step (taken_back slab object)) lists.blocks (end_off (taken_back slab object))
    (blocks_stay state (free_step slab object number) lists.blocks (record { from = refl; to = refl }, tt) holds.blocks))) in
    run_freed state (shelved lists slab.index) slab object number (shelf_steps lists (taken_back slab object)) back.made (end'.step, (shelf.step, trim.quiet)) (record {
      layout = trim.layout;
      knows = subst (λ reg. Knows (after_turns (after_turn state (free_step slab object number)) (shelf_steps lists (taken_back slab object))) trim.layout reg (shelved lists slab.index).granted)
          (sym (trimmed_region (with_stored lists slab.index) ∙ there.1)) trim.knows;
      lays = trim.lays;
      good = good;
      blocks = trim.blocks;
    })
  where
    freed : State
    freed = after_turn state (free_step slab object number)

-- a free of the object at a spot
pub run_spot : (state : State) (lists : Lists) (place : Place) (spot : Spot) → Holds state lists → spot_at lists place ≡ Some spot → AreGood (frees lists spot) →
    WholeRuns state (Free (Some place)) (frees_steps lists spot) (frees lists spot)
run_spot state lists place spot holds is good =
    let at = spot_at-Some lists place spot is in
    subst (λ p. WholeRuns state (Free (Some p)) (frees_steps lists spot) (frees lists spot)) (sym (spot_place lists place spot at)) (go at (is_unused (taken_back spot.slab spot.object)) refl good)
  where
    go : IsSpotAt lists place spot → (b : Bool) → is_unused (taken_back spot.slab spot.object) ≡ b →
        AreGood (if b then shelved lists spot.slab.index else record lists { slabs = changed (taken_back spot.slab spot.object) lists.slabs }) →
        WholeRuns state (Free (Some (place_at spot.slab.index spot.slab.class spot.object)))
        (free_step spot.slab spot.object spot.number ∷ ((if b then shelf_steps lists (taken_back spot.slab spot.object) else []) ++ still_step (Some FreedAnswer) ∷ []))
        (if b then shelved lists spot.slab.index else record lists { slabs = changed (taken_back spot.slab spot.object) lists.slabs })
    go at true unused good = run_shelf state lists spot.slab spot.object spot.number holds at.listed at.held unused good
    go at false used good = run_back state lists spot.slab spot.object spot.number holds at.listed at.held good

-- a whole free
pub free_runs : (state : State) (lists : Lists) (place : Option Place) → Holds state lists → AreGood (whole lists (Free place)).lists → WholeRuns state (Free place) (steps_of lists (Free place)) (whole lists (Free place)).lists
free_runs state lists None holds good = free_none_runs state lists holds
free_runs state lists (Some place) holds good = go (spot_at lists place) refl good
  where
    go : (spot : Option Spot) → spot_at lists place ≡ spot → AreGood (free_of lists place spot).lists →
        WholeRuns state (Free (Some place)) (free_steps lists spot (free_of lists place spot).answer) (free_of lists place spot).lists
    go (Some spot) is good = run_spot state lists place spot holds is good
    go None is good = free_missing_runs state lists place holds is
