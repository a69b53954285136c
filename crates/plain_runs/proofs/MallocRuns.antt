-- Each whole malloc is a run of the partition machine's events.
use Rattle.std.proofs.Common.{◌≡◌, ℕ, ◌+◌, ◌-◌, ◌^◌, ◌<◌, ◌≤◌, true, false, List, [], ◌∷◌, ◌++◌, length, take, Some, None, refl, sym, ◌∙◌, ap, arith, inr, subst, lit≤, append_assoc}
use Rattle.std.specs.Prelude.{find, unwrap_or}
use Rattle.std.specs.declared.option.Option.{Option}
use Rattle.pool_types.specs.declared.values.Region.{Region}
use Rattle.pool_types.specs.declared.values.Request.{Request}
use Rattle.pool_types.specs.declared.values.Request.TheVariants.{Malloc}
use Rattle.part_model.specs.declared.holders.Holder.TheVariants.{Hand, Object}
use Rattle.size_classes.specs.declared.Served.TheVariants.{Small}
use Rattle.size_classes.specs.Classes.{class_objects, class_of}
use Rattle.size_classes.proofs.CallerLemmas.{class_objects-least, class_of-found, class_of-some, served_plain-small}
use Rattle.machine.specs.States.{State, fixed_terms}
use Rattle.machine.specs.Ranges.{Each}
use Rattle.machine.specs.Journal.{Turn, Bins_seen, after_turn, after_turns, Nothing_seen}
use Rattle.machine.specs.Lawful.{nothing_moves}
use Rattle.machine.proofs.CallerLemmas.{none_whole, none_apart, nothing_moved}
use Rattle.plain_lists.specs.Lists.{OwnSlab, Block, Lists, first_region, whole_block, lies_on, given, begun, changed, has_free, next_object}
use Rattle.plain_lists.specs.Backend.{first_fit, even_from, rests, after_cut}
use Rattle.plain_lists.specs.Whole.{Room, whole, gives, begins, begins_in, malloc_from, malloc_of, class_at, newest, room_in, stored_room, block_room, region_room, no_fit, grant_of}
use Rattle.plain_lists.specs.Good.{AreGood}
use Rattle.list_laws.proofs.Finds.{find-Some}
use Rattle.plain_lists.proofs.Slabs.{given_good}
use Rattle.plain_lists.proofs.Calls.{given-class, has_free-parts}
use Rattle.plain_lists.proofs.Fits.{first_fit-None}
use Rattle.plain_runs.specs.Steps.{one_region, grant_step, begin_step, look_step, room_steps, block_steps, region_steps, room_index, block_index, region_index, malloc_steps, malloc_steps_of, steps_of, fetch_step, giver, no_blocks}
use Rattle.plain_runs.proofs.Layouts.{Away, OfSlab, Layout, regions_of, laid, IsLaid, next_of, Knows}
use Rattle.plain_runs.proofs.Moves.{laid-inside, plain_no_slab, IsMade, IsQuiet}
use Rattle.plain_runs.proofs.ObjectSteps.{on_slab}
use Rattle.plain_runs.proofs.SlabSteps.{slab_begun}
use Rattle.plain_runs.proofs.Courses.{moment, after_turns-append, CallRuns, call_runs, quiet_leads, call_with, moments_of, IsStep, Opens, quiet_opens, opens_on, quiet_moves, quiet_none, granted_none}
use Rattle.plain_runs.proofs.LaidOut.{Lays, Holds, lays_changed, lays_begun}
use Rattle.plain_runs.proofs.GrantSteps.{given_form, GivesNext, good_gives, object_granted, object_part}
use Rattle.plain_runs.proofs.Legal.{never, none_kept, none_waits, none_in_hand, calm_pool}
use Rattle.plain_runs.proofs.GotRuns.{IsAsked, accepted, got_runs}
use Rattle.plain_runs.proofs.RoomSteps.{IsReady, used_region, fetched_room, cut_room, region_room_ready, no_block_seen}
use Rattle.plain_runs.proofs.Bins.{IsOffBins, blocks_stay}
use Rattle.machine.specs.Turns.{MayBeginSlab}
use Rattle.machine.specs.Answers.{moved_parts}
use Rattle.plain_runs.proofs.Lacks.{none_newest, is_idle, idle_own, none_spare}

-- a whole call with these steps is a run, after which these lists hold
pub record WholeRuns (state : State) (request : Request) (steps : List Turn) (lists : Lists) : Type 0 where
  pub next : State
  pub runs : CallRuns state request steps next
  pub holds : Holds next lists

-- the lists after a slab gave, laid out
pub lays_given : (lists : Lists) (layout : Layout) (slab : OwnSlab) (number : ℕ) → Lays lists layout → ((g : ℕ) → lies_on slab.index 2 g ≡ true → layout g ≡ OfSlab slab) →
    Lays (record lists { slabs = changed (given slab number) lists.slabs; granted = number }) (laid layout slab.index 2 (OfSlab (given slab number)))
lays_given lists layout slab number lays whole =
    subst (λ (next : OwnSlab). Lays (record lists { slabs = changed next lists.slabs; granted = number }) (laid layout slab.index 2 (OfSlab next))) (sym (given_form slab number))
    (lays_changed lists layout slab (given slab number).objects (given slab number).private number lays whole)

-- a grant leaves the bins
pub grant_off : (slab : OwnSlab) (object : ℕ) (private : List ℕ) (number : ℕ) → IsOffBins (object_part slab object (Some (giver private)) (Some (Object (grant_of number))))
grant_off slab object [] number = record { from = refl; to = refl }
grant_off slab object (first ∷ private) number = record { from = refl; to = refl }

-- a slab of the lists gives an object
pub run_gives : (state : State) (lists : Lists) (size class : ℕ) (slab : OwnSlab) → IsAsked state lists size class → find (has_free class) lists.slabs ≡ Some slab → AreGood (gives lists slab).lists →
    WholeRuns state (Malloc size) (grant_step slab (lists.granted + 1) ∷ []) (gives lists slab).lists
run_gives state lists size class slab asked is good =
    let found = find-Some (has_free class) lists.slabs slab is in
    let parts = has_free-parts class slab found.1 in
    let good_slab = asked.holds.good.slabs_are slab found.0 in
    let layout : Layout = asked.holds.layout in
    let whole : (g : ℕ) → lies_on slab.index 2 g ≡ true → asked.holds.layout g ≡ OfSlab slab = asked.holds.lays.slabs_are slab found.0 in
    let laid_slab : IsLaid asked.holds.layout slab = (asked.holds.knows.slabs_are slab.index slab (whole slab.index (on_slab slab.index slab.index (omega arith) (omega arith)))).0 in
    let next_good = given_good slab (lists.granted + 1) good_slab parts.1 in
    let few : length (given slab (lists.granted + 1)).objects ≤ class_objects slab.class =
    subst (λ c. length (given slab (lists.granted + 1)).objects ≤ class_objects c) (given-class slab (lists.granted + 1)) next_good.few in
    let granted = object_granted state asked.holds.layout lists.region lists.granted slab laid_slab (good_gives slab (lists.granted + 1) good_slab parts.1) few asked.holds.knows in
    let there = used_region lists asked.holds.layout slab.index (OfSlab slab) asked.holds.lays (whole slab.index (on_slab slab.index slab.index (omega arith) (omega arith))) (plain_no_slab Away slab refl) in
    let regions : state.regions ≡ one_region ∷ [] = asked.holds.knows.regions_are ∙ ap regions_of there.1 in
    let holds : Holds (after_turn state (grant_step slab (lists.granted + 1))) (gives lists slab).lists = record {
      layout = laid asked.holds.layout slab.index 2 (OfSlab (given slab (lists.granted + 1)));
      knows = granted.knows;
      lays = lays_given lists asked.holds.layout slab (lists.granted + 1) asked.holds.lays whole;
      good = good;
      blocks = blocks_stay state (grant_step slab (lists.granted + 1)) lists.blocks (grant_off slab (next_object slab) slab.private (lists.granted + 1), tt) asked.holds.blocks;
    } in
    record {
      next = after_turn state (grant_step slab (lists.granted + 1));
      runs = got_runs state lists (gives lists slab).lists size slab [] (lists.granted + 1)
          (record { small = asked.small; found = asked.found ∙ ap Some (sym parts.0); room = asked.room; holds = asked.holds })
          (quiet_opens (Malloc size) state [] tt) granted.made granted.exists laid_slab.inside regions holds;
      holds = holds;
    }

-- a slab that begins gives its first object
pub begun_gives : (index class number : ℕ) → class < 26 → GivesNext (begun index class) number
begun_gives index class number exists = record {
  can = inr (let two : 2 ≤ class_objects class = class_objects-least class exists in omega arith);
  first = λ object private is. absurd (let clash = is in cc);
  next = refl;
}

-- a slab of the class may begin
pub begins_slab : (state : State) (lists : Lists) (size class : ℕ) (turns : List Turn) (room : Room) (asked : IsAsked state lists size class) → find (has_free class) lists.slabs ≡ None →
    IsReady (Malloc size) state asked.holds.layout turns room → MayBeginSlab (after_turns state turns) (call_with state (Malloc size) (moments_of state turns)) class
begins_slab state lists size class turns room asked none ready =
    let idle = idle_own state lists asked.holds class none (after_turns state turns) ready.layout (Some ready.region) room.lists.granted ready.knows ready.was in
    record {
      served = served_plain-small size class asked.found;
      none_yet = granted_none (moved_parts (moments_of state turns)) (quiet_none (moved_parts (moments_of state turns)) ready.opens.quiet);
      own = record {
        rest = λ byte own is. let clash : false ≡ true = sym (idle byte own) ∙ ap is_idle is in cc;
        private = λ byte own is. let clash : false ≡ true = sym (idle byte own) ∙ ap is_idle is in cc;
      };
      orphans = ready.took class;
      waits = λ alone. none_waits (after_turns state turns) ready.layout (Some ready.region) room.lists.granted class ready.knows;
    }

-- a slab begins in room that is in hand, and gives its first object
pub run_begins : (state : State) (lists : Lists) (size class : ℕ) (turns : List Turn) (room : Room) (asked : IsAsked state lists size class) → find (has_free class) lists.slabs ≡ None → class < 26 →
    IsReady (Malloc size) state asked.holds.layout turns room → AreGood (begins room.lists class room.index).lists →
    WholeRuns state (Malloc size) (turns ++ begin_step room.index class ∷ grant_step (begun room.index class) (room.lists.granted + 1) ∷ []) (begins room.lists class room.index).lists
run_begins state lists size class turns room asked none exists ready good =
    let begin = slab_begun (after_turns state turns) ready.layout ready.region room.lists.granted room.index class exists ready.even ready.inside ready.hand ready.knows in
    let two : 2 ≤ class_objects class = class_objects-least class exists in
    let on : lies_on room.index 2 room.index ≡ true = on_slab room.index room.index (omega arith) (omega arith) in
    let whole : (g : ℕ) → lies_on room.index 2 g ≡ true → layout g ≡ OfSlab slab = λ g on. laid-inside ready.layout room.index 2 (OfSlab (begun room.index class)) g on in
    let laid_slab : IsLaid layout slab = (begin.knows.slabs_are room.index slab (whole room.index on)).0 in
    let granted = object_granted begun_state layout (Some ready.region) room.lists.granted slab laid_slab (begun_gives room.index class (room.lists.granted + 1) exists) (omega arith) begin.knows in
    let after_is : after_turns state (turns ++ begin_step room.index class ∷ []) ≡ begun_state = after_turns-append state turns (begin_step room.index class ∷ []) in
    let opens : Opens (Malloc size) state (turns ++ begin_step room.index class ∷ []) = opens_on (Malloc size) state turns (begin_step room.index class) ready.opens (starts begin.made begin.quiet) begin.quiet refl refl in
    let holds : Holds (after_turn begun_state (grant_step slab (room.lists.granted + 1))) (begins room.lists class room.index).lists = record {
      layout = laid layout room.index 2 (OfSlab (given slab (room.lists.granted + 1)));
      knows = subst (λ region. Knows (after_turn begun_state (grant_step slab (room.lists.granted + 1))) (laid layout room.index 2 (OfSlab (given slab (room.lists.granted + 1)))) region (room.lists.granted + 1)) (sym ready.region_is) granted.knows;
      lays = lays_given (record room.lists { slabs = slab ∷ room.lists.slabs }) layout slab (room.lists.granted + 1) (lays_begun room.lists ready.layout room.index class ready.lays ready.hand) whole;
      good = good;
      blocks = blocks_stay begun_state (grant_step slab (room.lists.granted + 1)) room.lists.blocks (record { from = refl; to = refl }, tt)
          (blocks_stay (after_turns state turns) (begin_step room.index class) room.lists.blocks (record { from = refl; to = refl }, (record { from = refl; to = refl }, tt)) ready.blocks);
    } in
    let Q : State → Type 0 = λ s. CallRuns state (Malloc size) ((turns ++ begin_step room.index class ∷ []) ++ grant_step slab (room.lists.granted + 1) ∷ []) (after_turn s (grant_step slab (room.lists.granted + 1))) in
    let runs = got_runs state lists (begins room.lists class room.index).lists size slab (turns ++ begin_step room.index class ∷ []) (room.lists.granted + 1) asked opens
    (subst (λ s. IsMade s (grant_step slab (room.lists.granted + 1)).parts [] None) (sym after_is) granted.made) granted.exists ready.inside
    (subst (λ (s : State). s.regions ≡ one_region ∷ []) (sym after_is) begin.knows.regions_are)
    (subst (λ s. Holds (after_turn s (grant_step slab (room.lists.granted + 1))) (begins room.lists class room.index).lists) (sym after_is) holds) in
    record {
      next = after_turn begun_state (grant_step slab (room.lists.granted + 1));
      runs = subst (λ es. CallRuns state (Malloc size) es (after_turn begun_state (grant_step slab (room.lists.granted + 1))))
          (append_assoc turns (begin_step room.index class ∷ []) (grant_step slab (room.lists.granted + 1) ∷ [])) (subst Q after_is runs);
      holds = holds;
    }
  where
    slab : OwnSlab
    slab = begun room.index class

    layout : Layout
    layout = laid ready.layout room.index 2 (OfSlab (begun room.index class))

    begun_state : State
    begun_state = after_turn (after_turns state turns) (begin_step room.index class)

    starts : IsMade (after_turns state turns) (begin_step room.index class).parts (begin_step room.index class).book None → Each IsQuiet (begin_step room.index class).parts →
        IsStep (Malloc size) state (after_turns state turns) (moments_of state turns) (begin_step room.index class)
    starts made quiet = record {
      parts = (begin_step room.index class).parts;
      book = (begin_step room.index class).book;
      region = None;
      seen = Nothing_seen;
      is = refl;
      clock = refl;
      made = made;
      fits = record {
        sight = tt;
        moves = quiet_moves (call_with state (Malloc size) (moments_of state turns)) (begin_step room.index class).parts quiet;
        large = tt;
        slabs = (begins_slab state lists size class turns room asked none ready, tt);
        comes = tt;
        leaves = tt;
        answered = tt;
      };
    }

-- nothing of the class is free, and there is no room for a slab
pub run_refused : (state : State) (lists : Lists) (size class : ℕ) (region : Region) → IsAsked state lists size class → find (has_free class) lists.slabs ≡ None → newest lists.stored ≡ None →
    first_fit lists.blocks ≡ None → lists.region ≡ Some region → WholeRuns state (Malloc size) (look_step ∷ []) lists
run_refused state lists size class region asked none no_stored no_block there =
    let stored : lists.stored ≡ [] = none_newest lists.stored no_stored in
    let blocks : lists.blocks ≡ [] = first_fit-None lists.blocks asked.holds.good.blocks_are no_block in
    let next : state.next ≡ 1 = asked.holds.knows.next_is ∙ ap next_of there in
    record {
      next = state;
      runs = call_runs state (Malloc size) [] state [] [] (Bins_seen no_blocks) no_fit refl (quiet_leads (Malloc size) state state [] [] tt)
          (record {
            whole = none_whole;
            apart = none_apart;
            there = tt;
            lawful = nothing_moves;
            fits = record {
              sight = no_block_seen state lists size class asked none stored blocks;
              moves = nothing_moved fixed_terms (call_with state (Malloc size) []);
              large = tt;
              slabs = tt;
              comes = tt;
              leaves = tt;
              answered = record {
                legal = record {
                  answers = (
                    refl,
                    record {
                      accepted = accepted state lists size class (moment state look_step ∷ []) asked;
                      earlier = [];
                      served = Small class;
                      seen = 0;
                      vain = record {
                        later = moment state look_step ∷ [];
                        steps = refl;
                        still = refl;
                        is = served_plain-small size class asked.found;
                        vain = (refl, lit≤ tt, (λ block member fits. omega (arith, member.1)), (0, (refl, refl), refl));
                      };
                      found = (refl, (omega (arith, next), tt), refl, refl, refl);
                      spare = none_spare state lists asked.holds stored;
                      drained = λ alone. none_kept state lists asked.holds;
                    },
                    (refl, refl),
                  );
                  no_hand = never state lists asked.holds (Some (Hand 0)) refl;
                  no_slab = none_in_hand state lists asked.holds;
                };
                due = refl;
                cleaned = record { drawn = lit≤ tt; asked = (tt, tt) };
                calm = λ once. calm_pool state lists [] asked.holds;
              };
            };
          });
      holds = asked.holds;
    }

-- the steps of a malloc that no slab of its class serves, where these steps get the room at this index
abbrev pub steps_with : Lists → ℕ → List Turn → Option ℕ → List Turn
steps_with lists class steps (Some index) = steps ++ begin_step index class ∷ grant_step (begun index class) (lists.granted + 1) ∷ []
steps_with lists class steps None = look_step ∷ []

pub steps_are : (lists : Lists) (class : ℕ) (index : Option ℕ) → malloc_steps_of lists class None index ≡ steps_with lists class (room_steps lists (newest lists.stored)) index
steps_are lists class (Some index) = refl
steps_are lists class None = refl

-- a malloc where no slab of its class has an object to give
pub run_room : (state : State) (lists : Lists) (size class : ℕ) → IsAsked state lists size class → class < 26 → find (has_free class) lists.slabs ≡ None →
    AreGood (begins_in lists class (room_in lists)).lists → WholeRuns state (Malloc size) (malloc_steps_of lists class None (room_index lists (newest lists.stored))) (begins_in lists class (room_in lists)).lists
run_room state lists size class asked exists none good =
    subst (λ steps. WholeRuns state (Malloc size) steps (begins_in lists class (room_in lists)).lists) (sym (steps_are lists class (room_index lists (newest lists.stored))))
    (by_stored (newest lists.stored) refl good)
  where
    by_region : newest lists.stored ≡ None → first_fit lists.blocks ≡ None → (region : Option Region) → lists.region ≡ region → AreGood (begins_in lists class (region_room lists region)).lists →
        WholeRuns state (Malloc size) (steps_with lists class (region_steps region) (region_index region)) (begins_in lists class (region_room lists region)).lists
    by_region no_stored no_block None is good = run_begins state lists size class _ (record { lists = record lists { region = Some first_region; blocks = rests whole_block ++ lists.blocks }; index = even_from whole_block.first }) asked none exists (region_room_ready state lists size class asked none (none_newest lists.stored no_stored) is) good
    by_region no_stored no_block (Some region) is good = run_refused state lists size class region asked none no_stored no_block is

    by_block : newest lists.stored ≡ None → (block : Option Block) → first_fit lists.blocks ≡ block → AreGood (begins_in lists class (block_room lists block)).lists →
        WholeRuns state (Malloc size) (steps_with lists class (block_steps lists block) (block_index lists block)) (begins_in lists class (block_room lists block)).lists
    by_block no_stored (Some block) is good = run_begins state lists size class _ (record { lists = record lists { blocks = after_cut block lists.blocks }; index = even_from block.first }) asked none exists (cut_room (Malloc size) state lists block asked.holds is) good
    by_block no_stored None is good = by_region no_stored is lists.region refl good

    by_stored : (index : Option ℕ) → newest lists.stored ≡ index → AreGood (begins_in lists class (stored_room lists index)).lists →
        WholeRuns state (Malloc size) (steps_with lists class (room_steps lists index) (room_index lists index)) (begins_in lists class (stored_room lists index)).lists
    by_stored (Some index) is good = run_begins state lists size class (fetch_step index ∷ []) (record { lists = record lists { stored = take (length lists.stored - 1) lists.stored }; index = index }) asked none exists (fetched_room (Malloc size) state lists index asked.holds is) good
    by_stored None is good = by_block is (first_fit lists.blocks) refl good

-- a malloc of a size that has a class
pub run_malloc : (state : State) (lists : Lists) (size class : ℕ) → IsAsked state lists size class → AreGood (malloc_of lists class).lists → WholeRuns state (Malloc size) (malloc_steps lists class) (malloc_of lists class).lists
run_malloc state lists size class asked good = go (find (has_free class) lists.slabs) refl good
  where
    go : (slab : Option OwnSlab) → find (has_free class) lists.slabs ≡ slab → AreGood (malloc_from lists class slab).lists →
        WholeRuns state (Malloc size) (malloc_steps_of lists class slab (room_index lists (newest lists.stored))) (malloc_from lists class slab).lists
    go (Some slab) is good = run_gives state lists size class slab asked is good
    go None is good = run_room state lists size class asked (class_of-found size class asked.found).exists is good

-- a whole malloc
pub malloc_runs : (state : State) (lists : Lists) (size : ℕ) → size ≤ 8128 → lists.granted < 2 ^ 55 - 1 → Holds state lists → AreGood (whole lists (Malloc size)).lists →
    WholeRuns state (Malloc size) (steps_of lists (Malloc size)) (whole lists (Malloc size)).lists
malloc_runs state lists size small room holds good =
    let found = class_of-some size small in
    let is : class_of size ≡ Some (class_at size) = found.1 ∙ ap Some (sym (ap (λ (o : Option ℕ). unwrap_or o 0) found.1)) in
    run_malloc state lists size (class_at size) (record { small = small; found = is; room = room; holds = holds }) good
