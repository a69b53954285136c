-- What is in hand where a call goes on with large objects, with looks and with ends of grants.
use Rattle.std.proofs.Common.{◌≡◌, ◌∙◌, ℕ, Bool, true, false, cond, List, [], ◌∷◌, ◌++◌, eqb, ltb, refl, sym, ap}
use Rattle.std.proofs.Common.{subst}
use Rattle.std.specs.Prelude.{None, Option, Some, ◌%◌}
use Rattle.std.proofs.lemmas.List.{append-nil}
use Rattle.heap_slabs.specs.Records.{after_free, is_unused, unit_of}
use Rattle.heap_slabs.specs.Rolls.{newest_of}
use Rattle.heap_slabs.specs.Slabs.{after_replace, first_from, record_at}
use Rattle.heap_slabs.specs.declared.records.HeapSlab.{HeapSlab}
use Rattle.heap_slabs.specs.declared.slabs.Wanted.{Wanted}
use Rattle.large_cache.specs.declared.sweep.Cleanup.{Cleanup}
use Rattle.pool_types.specs.declared.values.NullCause.{NullCause}
use Rattle.pool_types.specs.declared.values.Request.{Request}
use Rattle.backend_bins.specs.Blocks.{block}
use Rattle.backend_bins.specs.declared.blocks.Block.{Block}
use Rattle.step_local.specs.Answers.{ended_object, slab_of}
use Rattle.step_local.specs.Frames.{last_cache_bin}
use Rattle.step_local.specs.Getting.{decided, get_or, getting, getting_as, getting_or_null, refusal_of, served_as}
use Rattle.step_local.specs.Getting.{stays}
use Rattle.step_local.specs.Large.{bins_swept, cached, cached_at, cleanup_ticks, emptying, emptying_by}
use Rattle.step_local.specs.Large.{got_block, granules_of_served, kept_as, last_slot, locate_learn, located_as}
use Rattle.step_local.specs.Large.{located_index}
use Rattle.step_local.specs.Large.{next_bin, object_at, object_in, releasing, releasing_by, slot_looked}
use Rattle.step_local.specs.Large.{swept, tick_at, ticked, unused_next}
use Rattle.step_local.specs.Leaving.{asking}
use Rattle.step_local.specs.Objects.{freed_at, freed_in, freed_own, freed_slab, held, held_as}
use Rattle.step_local.specs.Slabs.{locating}
use Rattle.step_local.specs.declared.frames.Local.{Local}
use Rattle.step_local.specs.declared.frames.LocateAt.{LocateAt}
use Rattle.step_local.specs.declared.frames.Served.{Served}
use Rattle.step_local.specs.declared.frames.Stage.{Stage}
use Rattle.word_codes.specs.RegionWords.{has_granule, region_of}
use Rattle.hand_blocks.specs.Fits.{AsksFit, CleanupFits, EmptyFits, GetFits, HardFits, IsAskedFor, IsEnding}
use Rattle.hand_blocks.specs.Fits.{IsNotGetting}
use Rattle.hand_blocks.specs.Fits.{IsSomeLarge, NewestFits, TickFits}
use Rattle.hand_blocks.specs.Hands.{Hand, got_hands_at, got_hands_by, joining, located_hands, released_hands}
use Rattle.hand_blocks.specs.Hands.{swept_hands}
use Rattle.hand_blocks.specs.Hands.{swept_hands_by, tick_hands}
use Rattle.hand_blocks.proofs.Lands.{LandsOn, either, lands-ended, lands-ending, lands_as}
use Rattle.hand_blocks.proofs.Lists.{newest_hand, none_in_hand}
use Rattle.hand_blocks.proofs.Served.{IsGood, good_served}
use Rattle.hand_blocks.proofs.Small.{lands-asking, lands-getting_small}

pub lands-getting : (l : Local) (served : Served) → IsGood (Some served) → LandsOn (getting l served) []
lands-getting l (Served.Small class) good = lands-getting_small (getting_as l (Served.Small class)) class
    (record { stage = refl; small = tt })
lands-getting l (Served.Large granules alignment) good = record { has = refl; fits = good }

lands-get_or : (l : Local) (wanted : Option Served) (cause : Option NullCause) → IsGood wanted
    → LandsOn (get_or l wanted cause) []
lands-get_or l wanted (Some cause) good = record { has = refl; fits = tt }
lands-get_or l (Some served) None good = lands-getting l served good
lands-get_or l None None good = record { has = refl; fits = tt }

lands-getting_or_null : (l : Local) (wanted : Option Served) → IsGood wanted → LandsOn (getting_or_null l wanted) []
lands-getting_or_null l wanted good = lands-get_or l wanted (refusal_of l wanted) good

lands-decided : (l : Local) (size : ℕ) (alignment : Option ℕ) (base : ℕ) → LandsOn (decided l size alignment base) []
lands-decided l size alignment base = either (eqb size 0) _ _ [] (lands-ending l Stage.Ending tt)
    (either (stays l size alignment base) _ _ [] (record { has = refl; fits = tt })
    (lands-getting_or_null l (served_as size alignment) (good_served size alignment)))

lands-held_as : (l : Local) (base : ℕ) (request : Request) → LandsOn (held_as l base request) []
lands-held_as l base (Request.Msize place) = record { has = refl; fits = tt }
lands-held_as l base (Request.Identify place) = record { has = refl; fits = tt }
lands-held_as l base (Request.Realloc place size) = lands-decided l size None base
lands-held_as l base (Request.AlignedRealloc place size alignment) = lands-decided l size (Some alignment) base
lands-held_as l base (Request.Malloc size) = lands-ending l Stage.Ending tt
lands-held_as l base (Request.Aligned size alignment) = lands-ending l Stage.Ending tt
lands-held_as l base (Request.Free place) = lands-ending l Stage.Ending tt
lands-held_as l base Request.Exit = lands-ending l Stage.Ending tt

pub lands-held : (l : Local) (base : ℕ) → LandsOn (held l base) []
lands-held l base = lands-held_as l base l.call.request

-- a grant is ended in no call that gets an object
empty_ending : (l : Local) (stage : Stage) → IsEnding stage → EmptyFits l stage
empty_ending l Stage.Ending is = tt
empty_ending l Stage.Replacing is = tt
empty_ending l Stage.Undoing is = tt
empty_ending l _ is = absurd is

lands-freed_slab : (l : Local) (slab : ℕ) (kept : HeapSlab) → IsEnding l.call.stage
    → LandsOn (freed_slab l slab kept) []
lands-freed_slab l slab kept is =
    let l' : Local = record l { heap = record l.heap { slabs = after_replace l.heap.slabs kept } } in
    either (is_unused kept) _ _ [] (record { has = refl; fits = empty_ending l' l.call.stage is }) (lands-ended l')

lands-freed_in : (l : Local) (unit slab : ℕ) (found : Option HeapSlab) → IsEnding l.call.stage
    → LandsOn (freed_in l unit slab found) []
lands-freed_in l unit slab (Some kept) is = lands-freed_slab l slab (after_free kept unit) is
lands-freed_in l unit slab None is = lands-ended l

lands-freed_at : (l : Local) (unit slab : ℕ) → IsEnding l.call.stage → LandsOn (freed_at l unit slab) []
lands-freed_at l unit slab is = lands-freed_in l unit slab (record_at l.heap.slabs.records slab) is

pub lands-freed_own : (l : Local) → IsEnding l.call.stage → LandsOn (freed_own l) []
lands-freed_own l is = lands-freed_at l (ended_object l).unit (slab_of (ended_object l).unit) is

pub lands-locating : (l : Local) → LandsOn (locating l) (located_hands l.call.block l.call.served)
lands-locating l = record { has = refl; fits = tt }

-- the cache was asked: what it had not is asked of the backend
asks_got : (served : Served) → IsSomeLarge served
    → IsAskedFor served (record { granules = granules_of_served served; slab = false })
asks_got (Served.Small class) is = absurd is
asks_got (Served.Large granules alignment) is = is

located_got : (b : Block) (served : Served) → IsSomeLarge served
    → located_hands b served ≡ got_hands_by b served false
located_got b (Served.Small class) is = absurd is
located_got b (Served.Large granules alignment) is = refl

missed_got : (b : Block) (served : Served) → IsSomeLarge served → [] ≡ got_hands_by b served true
missed_got b (Served.Small class) is = absurd is
missed_got b (Served.Large granules alignment) is = refl

lands-got_block : (l : Local) → l.call.stage ≡ Stage.Getting → IsSomeLarge l.call.served
    → LandsOn (got_block l) (got_hands_by l.call.block l.call.served l.call.missed)
lands-got_block l is some = by l.call.missed
  where
    by : (b : Bool)
        → LandsOn (cond b (asking l (record { granules = granules_of_served l.call.served; slab = false }))
        (locating l)) (got_hands_by l.call.block l.call.served b)
    by true = lands_as (asking l (record { granules = granules_of_served l.call.served; slab = false })).0 []
        (got_hands_by l.call.block l.call.served true) (missed_got l.call.block l.call.served some)
        (lands-asking l (record { granules = granules_of_served l.call.served; slab = false })
        (subst (λ stage. AsksFit stage l.call.served
        (record { granules = granules_of_served l.call.served; slab = false })) (sym is)
        (asks_got l.call.served some)))
    by false = lands_as (locating l).0 (located_hands l.call.block l.call.served)
        (got_hands_by l.call.block l.call.served false) (located_got l.call.block l.call.served some)
        (lands-locating l)

lands-cached_at : (l : Local) (stage : Stage) → l.call.stage ≡ stage → TickFits l.call.served stage
    → LandsOn (cached_at l stage) (got_hands_at l.call stage)
lands-cached_at l Stage.Getting is fits = lands-got_block l is fits
lands-cached_at l Stage.Idle is fits = lands-ended l
lands-cached_at l Stage.Looking is fits = lands-ended l
lands-cached_at l Stage.Ending is fits = lands-ended l
lands-cached_at l Stage.Replacing is fits = lands-ended l
lands-cached_at l Stage.Undoing is fits = lands-ended l
lands-cached_at l Stage.Leaving is fits = lands-ended l
lands-cached_at l (Stage.Resetting stage) is fits = lands-ended l

lands-cached : (l : Local) → TickFits l.call.served l.call.stage
    → LandsOn (cached l) (got_hands_at l.call l.call.stage)
lands-cached l fits = lands-cached_at l l.call.stage refl fits

pub lands-ticked : (l : Local) → TickFits l.call.served l.call.stage
    → LandsOn (ticked l) (got_hands_at l.call l.call.stage)
lands-ticked l fits = either (eqb (l.call.time % cleanup_ticks) 0) _ _ (got_hands_at l.call l.call.stage)
    (record { has = refl; fits = fits }) (lands-cached l fits)

lands-swept : (l : Local) (cleanup : Cleanup) → CleanupFits l cleanup
    → LandsOn (swept l cleanup) (swept_hands_by l.call cleanup)
lands-swept l Cleanup.Regular fits = lands-cached l fits
lands-swept l Cleanup.Soft fits = record { has = refl; fits = (fits, tt) }
lands-swept l Cleanup.Hard fits = record { has = refl; fits = (fits, tt) }

-- a hard cleanup is made in a call that gets an object
empty_hard : (l : Local) (stage : Stage) → l.sweep.cleanup ≡ Cleanup.Hard → AsksFit stage l.call.served l.ask.want
    → l.call.stage ≡ stage → EmptyFits l stage
empty_hard l Stage.Getting hard asks is =
    (hard, subst (λ stage. AsksFit stage l.call.served l.ask.want) (sym is) asks)
empty_hard l _ hard asks is = absurd asks

newest_hard : (l : Local) (stage : Stage) → l.sweep.cleanup ≡ Cleanup.Hard → AsksFit stage l.call.served l.ask.want
    → l.call.stage ≡ stage → NewestFits l stage
newest_hard l Stage.Getting hard asks is =
    (hard, subst (λ stage. AsksFit stage l.call.served l.ask.want) (sym is) asks)
newest_hard l _ hard asks is = absurd asks

lands-unused_next : (l : Local) (found : Option HeapSlab) → HardFits l → LandsOn (unused_next l found) []
lands-unused_next l (Some kept) fits = record { has = refl; fits = empty_hard l l.call.stage fits.0 fits.1 refl }
lands-unused_next l None fits =
    subst (λ cleanup. LandsOn (swept l cleanup) []) (sym fits.0) (lands-swept l Cleanup.Hard fits.1)

lands-emptying_by : (l : Local) (one : Option ℕ) → HardFits l → LandsOn (emptying_by l one) []
lands-emptying_by l (Some slab) fits = record { has = refl; fits = newest_hard l l.call.stage fits.0 fits.1 refl }
lands-emptying_by l None fits = lands-unused_next l (first_from Wanted.Unused l.heap.slabs 0) fits

pub lands-emptying : (l : Local) → HardFits l → LandsOn (emptying l) []
lands-emptying l fits = lands-emptying_by l (newest_of l.heap.cached) fits

lands-bins_swept : (l : Local) (cleanup : Cleanup) → l.sweep.cleanup ≡ cleanup → CleanupFits l cleanup
    → LandsOn (bins_swept l cleanup) (swept_hands_by l.call cleanup)
lands-bins_swept l Cleanup.Regular is fits = lands-swept l Cleanup.Regular fits
lands-bins_swept l Cleanup.Soft is fits = lands-swept l Cleanup.Soft fits
lands-bins_swept l Cleanup.Hard is fits = lands-emptying l (is, fits)

pub lands-next_bin : (l : Local) → CleanupFits l l.sweep.cleanup → LandsOn (next_bin l) (swept_hands l)
lands-next_bin l fits = either (ltb l.sweep.granules last_cache_bin) _ _ (swept_hands l)
    (record { has = refl; fits = fits }) (lands-bins_swept l l.sweep.cleanup refl fits)

-- what was released is in hand beside a block that was got
lands-releasing_by : (l : Local) (one : Option ℕ) → newest_of l.released ≡ one → CleanupFits l l.sweep.cleanup
    → LandsOn (releasing_by l one) (swept_hands l ++ released_hands l.sweep.granules l.released.items)
lands-releasing_by l (Some first) is fits = record {
  has = ap (λ hands. swept_hands l ++ hands) (sym (newest_hand l.sweep.granules l.released.items first is));
  fits = (fits, tt);
}
lands-releasing_by l None is fits = lands_as (next_bin l).0 (swept_hands l)
    (swept_hands l ++ released_hands l.sweep.granules l.released.items)
    (sym (append-nil (swept_hands l))
    ∙ ap (λ hands. swept_hands l ++ hands) (sym (none_in_hand l.sweep.granules l.released.items is)))
    (lands-next_bin l fits)

pub lands-releasing : (l : Local) → CleanupFits l l.sweep.cleanup
    → LandsOn (releasing l) (swept_hands l ++ released_hands l.sweep.granules l.released.items)
lands-releasing l fits = lands-releasing_by l (newest_of l.released) refl fits

tick_not_getting : (served : Served) (stage : Stage) → IsNotGetting stage → TickFits served stage
tick_not_getting served Stage.Getting is = absurd is
tick_not_getting served _ is = tt

none_not_getting : (l : Local) (stage : Stage) → IsNotGetting stage → got_hands_at l.call stage ≡ []
none_not_getting l Stage.Getting is = absurd is
none_not_getting l _ is = refl

pub lands-ticked_on : (l : Local) → IsNotGetting l.call.stage → LandsOn (ticked l) []
lands-ticked_on l is = lands_as (ticked l).0 (got_hands_at l.call l.call.stage) []
    (none_not_getting l l.call.stage is) (lands-ticked l (tick_not_getting l.call.served l.call.stage is))

-- the oldest block of a full bin comes out of it
abbrev pub kept_hands : Local → Option ℕ → List Hand
kept_hands l (Some first) = joining (block first l.call.block.granules) ∷ []
kept_hands l None = []

pub lands-kept_as : (l : Local) (one : Option ℕ) → IsNotGetting l.call.stage
    → LandsOn (kept_as l one) (kept_hands l one)
lands-kept_as l (Some first) is = record { has = refl; fits = (is, tt) }
lands-kept_as l None is = lands-ticked_on l is

pub lands-tick_at : (l : Local) (stage : Stage) → l.call.stage ≡ stage → TickFits l.call.served stage
    → LandsOn (tick_at l stage) (tick_hands l.call.block stage)
lands-tick_at l Stage.Getting is fits = record { has = refl; fits = subst (GetFits l.call.served) (sym is) fits }
lands-tick_at l Stage.Idle is fits = record { has = refl; fits = subst IsNotGetting (sym is) tt }
lands-tick_at l Stage.Looking is fits = record { has = refl; fits = subst IsNotGetting (sym is) tt }
lands-tick_at l Stage.Ending is fits = record { has = refl; fits = subst IsNotGetting (sym is) tt }
lands-tick_at l Stage.Replacing is fits = record { has = refl; fits = subst IsNotGetting (sym is) tt }
lands-tick_at l Stage.Undoing is fits = record { has = refl; fits = subst IsNotGetting (sym is) tt }
lands-tick_at l Stage.Leaving is fits = record { has = refl; fits = subst IsNotGetting (sym is) tt }
lands-tick_at l (Stage.Resetting stage) is fits = record { has = refl; fits = subst IsNotGetting (sym is) tt }

lands-object_at : (l : Local) (slab : ℕ) (one : Option ℕ) (unit : ℕ) → LandsOn (object_at l slab one unit) []
lands-object_at l slab (Some head) unit = record { has = refl; fits = tt }
lands-object_at l slab None unit = record { has = refl; fits = tt }

lands-object_in : (l : Local) (slab : ℕ) (found : Option HeapSlab) → LandsOn (object_in l slab found) []
lands-object_in l slab (Some kept) = lands-object_at l slab kept.head (unit_of slab kept.class kept.handed)
lands-object_in l slab None = lands-object_at l slab None 0

lands-located_as : (l : Local) (region base : ℕ) (served : Served)
    → LandsOn (located_as l region base served) (located_hands l.call.block served)
lands-located_as l region base (Served.Small class) =
    lands-object_in l l.call.slab (record_at l.heap.slabs.records l.call.slab)
lands-located_as l region base (Served.Large granules alignment) = record { has = refl; fits = tt }

lands-slot_looked : (l : Local) (slot region : ℕ)
    → LandsOn (slot_looked l slot region) (located_hands l.call.block l.call.served)
lands-slot_looked l slot region =
    either (has_granule (region_of region) (located_index l l.call.served)) _ _
    (located_hands l.call.block l.call.served)
    (record { has = refl; fits = tt }) (either (ltb slot last_slot) _ _ (located_hands l.call.block l.call.served)
    (record { has = refl; fits = tt }) (record { has = refl; fits = tt }))

pub lands-locate_learn : (l : Local) (at : LocateAt) (f : ℕ)
    → LandsOn (locate_learn l at f) (located_hands l.call.block l.call.served)
lands-locate_learn l (LocateAt.Region slot) f = lands-slot_looked l slot f
lands-locate_learn l (LocateAt.Base slot region) f = lands-located_as
    (record l { call = record l.call { region = region } }) region f l.call.served
