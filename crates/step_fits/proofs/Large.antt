-- What a local says where a call goes on with large objects, and in cleanups.
use Rattle.std.proofs.Common.{◌≡◌, ℕ, ◌+◌, Bool, true, false, eqb, ltb, Option, Some, None, refl, sym}
use Rattle.std.proofs.Common.{ap, subst, arith}
use Rattle.std.specs.Prelude.{◌%◌, ◌^◌}
use Rattle.std.proofs.lemmas.Bool.Decides.{nat_tests}
use Rattle.pool_types.specs.declared.values.Answer.{Answer}
use Rattle.pool_types.specs.declared.values.NullCause.{NullCause}
use Rattle.pool_words.specs.declared.words.Key.{Key}
use Rattle.heap_slabs.specs.declared.records.HeapSlab.{HeapSlab}
use Rattle.heap_slabs.specs.declared.slabs.Wanted.{Wanted}
use Rattle.heap_slabs.specs.Records.{unit_of}
use Rattle.heap_slabs.specs.Rolls.{after_push, newest_of, without_newest}
use Rattle.heap_slabs.specs.Slabs.{first_from, record_at}
use Rattle.large_cache.specs.declared.get.GetAt.{GetAt}
use Rattle.large_cache.specs.declared.get.GetNext.{GetNext}
use Rattle.large_cache.specs.declared.keep.KeepAt.{KeepAt}
use Rattle.large_cache.specs.declared.keep.KeepNext.{KeepNext}
use Rattle.large_cache.specs.declared.sweep.Cleanup.{Cleanup}
use Rattle.large_cache.specs.declared.sweep.SweepAt.{SweepAt}
use Rattle.large_cache.specs.declared.sweep.SweepNext.{SweepNext}
use Rattle.large_cache.specs.declared.undo.UndoAt.{UndoAt}
use Rattle.large_cache.specs.declared.undo.UndoNext.{UndoNext}
use Rattle.word_codes.specs.RegionWords.{has_granule, region_of}
use Rattle.step_local.specs.declared.frames.Call.{Call}
use Rattle.step_local.specs.declared.frames.LargeAt.{LargeAt}
use Rattle.step_local.specs.declared.frames.Local.{Local}
use Rattle.step_local.specs.declared.frames.LocateAt.{LocateAt}
use Rattle.step_local.specs.declared.frames.Served.{Served}
use Rattle.step_local.specs.declared.frames.Stage.{Stage}
use Rattle.step_local.specs.Answers.{head_at, head_of}
use Rattle.step_local.specs.Frames.{last_cache_bin, most_released}
use Rattle.step_local.specs.Large.{bins_swept, cached, cached_at, cleanup_ticks, emptying, emptying_by, get_as}
use Rattle.step_local.specs.Large.{got_block}
use Rattle.step_local.specs.Large.{granules_of_served, keep_as, kept_as, large_learn, last_slot, locate_learn}
use Rattle.step_local.specs.Large.{located_as, located_index, next_bin, none_released, object_at, object_in, releasing}
use Rattle.step_local.specs.Large.{releasing_by, slot_looked, swept, swept_as, tick_at, ticked, undo_as, unused_next}
use Rattle.step_tasks.specs.Objects.{rest_at, rest_in}
use Rattle.step_fits.specs.Asked.{HasMissed, want_of}
use Rattle.step_fits.specs.Frames.{Frames, plain_rooms}
use Rattle.step_fits.specs.Large.{AfterSweep, CachedFits, GetsLarge, HasBlock, IsLarge, KeepFits, LargeFits, LocateFits}
use Rattle.step_fits.specs.Large.{PlaceFits, SweepFits, TickFits}
use Rattle.step_fits.specs.Small.{CleansHard, EndsSlab, Gives, GivesUp, IsEnding, IsSmall}
use Rattle.step_fits.proofs.Framed.{Fits, either, fits-answered, fits-ended, other_bin, other_released}
use Rattle.step_fits.proofs.Heaps.{from-found}
use Rattle.step_fits.proofs.Rolls.{newest-room, none-room, push-room}
use Rattle.step_fits.proofs.Slabs.{fits-got}
use Rattle.step_fits.proofs.Small.{fits-asking}

want_large : (served : Served) → IsLarge served → record { granules = granules_of_served served; slab = false }
    ≡ want_of served
want_large (Served.Large granules alignment) large = refl
want_large (Served.Small class) large = absurd large

missed_large : (c : Call) (served : Served) → c.missed ≡ true → HasMissed c served
missed_large c (Served.Small class) is = tt
missed_large c (Served.Large granules alignment) is = is

place_large : (sure : Bool) (l : Local) (served : Served) → IsLarge served → HasBlock l → PlaceFits sure l served
place_large sure l (Served.Small class) large has = absurd large
place_large sure l (Served.Large granules alignment) large has = has

never : {A : Type 0} → true ≡ false → A
never is = absurd (cc)

pub ending_cached : (l : Local) (stage : Stage) → IsEnding stage → CachedFits l stage
ending_cached l Stage.Ending is = tt
ending_cached l Stage.Replacing is = tt
ending_cached l Stage.Undoing is = tt
ending_cached l _ is = absurd is

keep_ending : (l : Local) (stage : Stage) → KeepFits l stage → IsEnding stage
keep_ending l Stage.Ending is = tt
keep_ending l Stage.Replacing is = tt
keep_ending l Stage.Undoing is = tt
keep_ending l _ is = absurd is

got_cached : (l : Local) (stage : Stage) → stage ≡ Stage.Getting → CachedFits l Stage.Getting → CachedFits l stage
got_cached l stage is fits = subst (CachedFits l) (sym is) fits

module _ (sure : Bool) {k : Key} {seat : ℕ} where
  fits-got_block : (l : Local) → Frames k seat plain_rooms l → l.call.stage ≡ Stage.Getting
      → CachedFits l Stage.Getting → Fits k seat sure (got_block l)
  fits-got_block l frames is fits = either sure l.call.missed _ _
      (λ (missed : l.call.missed ≡ true).
      fits-asking sure l (record { granules = granules_of_served l.call.served; slab = false }) frames is
      (want_large l.call.served fits.0) (missed_large l.call l.call.served missed))
      (λ (taken : l.call.missed ≡ false).
      (frames, (is, omega arith, place_large sure l l.call.served fits.0 (fits.1 taken))))

  fits-cached_at : (l : Local) (stage : Stage) → Frames k seat plain_rooms l → l.call.stage ≡ stage
      → CachedFits l stage → Fits k seat sure (cached_at l stage)
  fits-cached_at l Stage.Getting frames is fits = fits-got_block l frames is fits
  fits-cached_at l Stage.Ending frames is fits = fits-ended sure l frames
  fits-cached_at l Stage.Replacing frames is fits = fits-ended sure l frames
  fits-cached_at l Stage.Undoing frames is fits = fits-ended sure l frames
  fits-cached_at l _ frames is fits = absurd fits

  fits-cached : (l : Local) → Frames k seat plain_rooms l → CachedFits l l.call.stage → Fits k seat sure (cached l)
  fits-cached l frames fits = fits-cached_at l l.call.stage frames refl fits

  pub fits-ticked : (l : Local) → Frames k seat plain_rooms l → CachedFits l l.call.stage → Fits k seat sure (ticked l)
  fits-ticked l frames fits = either sure (eqb (l.call.time % cleanup_ticks) 0) _ _
      (λ _. (other_bin frames 1 (omega arith), (omega arith, fits)))
      (λ _. fits-cached l frames fits)

  -- cleanups
  fits-swept : (l : Local) (cleanup : Cleanup) → Frames k seat plain_rooms l → AfterSweep l cleanup
      → Fits k seat sure (swept l cleanup)
  fits-swept l Cleanup.Regular frames after = fits-cached l frames after
  fits-swept l Cleanup.Soft frames after = (frames, after)
  fits-swept l Cleanup.Hard frames after = (frames, after)

  fits-unused_next : (l : Local) (found : Option HeapSlab) → Frames k seat plain_rooms l → CleansHard l
      → first_from Wanted.Unused l.heap.slabs 0 ≡ found → Fits k seat sure (unused_next l found)
  fits-unused_next l (Some kept) frames hard is =
      let found = from-found k Wanted.Unused l.heap.slabs 0 kept frames.slabs is in (
        frames,
        subst (EndsSlab l kept.slab) (sym hard.1.0)
            (hard, (kept, record { there = found.there; unused = found.wanted' })),
      )
  fits-unused_next l None frames hard is =
      fits-swept l l.sweep.cleanup frames (subst (AfterSweep l) (sym hard.0) hard.1)

  fits-emptying_by : (l : Local) (one : Option ℕ) → Frames k seat plain_rooms l → CleansHard l
      → newest_of l.heap.cached ≡ one → Fits k seat sure (emptying_by l one)
  fits-emptying_by l (Some slab) frames hard is = (frames, (is, subst (GivesUp l) (sym hard.1.0) hard))
  fits-emptying_by l None frames hard is =
      fits-unused_next l (first_from Wanted.Unused l.heap.slabs 0) frames hard refl

  pub fits-emptying : (l : Local) → Frames k seat plain_rooms l → CleansHard l → Fits k seat sure (emptying l)
  fits-emptying l frames hard = fits-emptying_by l (newest_of l.heap.cached) frames hard refl

  fits-bins_swept : (l : Local) (cleanup : Cleanup) → Frames k seat plain_rooms l → l.sweep.cleanup ≡ cleanup
      → AfterSweep l cleanup → Fits k seat sure (bins_swept l cleanup)
  fits-bins_swept l Cleanup.Regular frames is after = fits-swept l Cleanup.Regular frames after
  fits-bins_swept l Cleanup.Soft frames is after = fits-swept l Cleanup.Soft frames after
  fits-bins_swept l Cleanup.Hard frames is after = fits-emptying l frames (is, after)

  pub fits-next_bin : (l : Local) → Frames k seat plain_rooms l → AfterSweep l l.sweep.cleanup
      → Fits k seat sure (next_bin l)
  fits-next_bin l frames after = either sure (ltb l.sweep.granules last_cache_bin) _ _
      (λ (more : ltb l.sweep.granules last_cache_bin ≡ true). (
        other_bin frames (l.sweep.granules + 1) (grind (arith, nat_tests)),
        (omega arith, after),
      ))
      (λ _. fits-bins_swept l l.sweep.cleanup frames refl after)

  fits-releasing_by : (l : Local) (one : Option ℕ) → Frames k seat plain_rooms l → SweepFits l
      → Fits k seat sure (releasing_by l one)
  fits-releasing_by l (Some block) frames fits = (
    other_released frames (without_newest l.released) (newest-room most_released l.released frames.released),
    fits,
  )
  fits-releasing_by l None frames fits = fits-next_bin l frames fits.1

  pub fits-releasing : (l : Local) → Frames k seat plain_rooms l → SweepFits l → Fits k seat sure (releasing l)
  fits-releasing l frames fits = fits-releasing_by l (newest_of l.released) frames fits

  pub fits-swept_as : (l : Local) (at : SweepAt) (next : SweepNext) → Frames k seat plain_rooms l → SweepFits l
      → Fits k seat sure (swept_as l at next)
  fits-swept_as l at (SweepNext.Goes next) frames fits = (frames, fits)
  fits-swept_as l at (SweepNext.Stays next) frames fits = (
    other_released frames (none_released l.released) (none-room most_released l.released frames.released),
    fits,
  )
  fits-swept_as l at (SweepNext.Stale block next) frames fits = (
    other_released frames (after_push l.released block) (push-room most_released l.released block frames.released),
    fits,
  )
  fits-swept_as l at SweepNext.Waits frames fits = (frames, fits)
  fits-swept_as l at (SweepNext.Began time) frames fits = (frames, fits)
  fits-swept_as l at SweepNext.Passed frames fits = fits-next_bin l frames fits.1
  fits-swept_as l at SweepNext.Swept frames fits = fits-releasing l frames fits

  -- the cache
  fits-tick_at : (l : Local) (stage : Stage) → Frames k seat plain_rooms l → l.call.stage ≡ stage
      → TickFits l stage → Fits k seat sure (tick_at l stage)
  fits-tick_at l Stage.Getting frames is fits = (frames, (is, fits))
  fits-tick_at l Stage.Ending frames is fits = (frames, subst (KeepFits l) (sym is) fits)
  fits-tick_at l Stage.Replacing frames is fits = (frames, subst (KeepFits l) (sym is) fits)
  fits-tick_at l Stage.Undoing frames is fits = (frames, subst (KeepFits l) (sym is) fits)
  fits-tick_at l _ frames is fits = absurd fits

  pub fits-large_learn : (l : Local) (at : LargeAt) (f : ℕ) → Frames k seat plain_rooms l → LargeFits l at
      → Fits k seat sure (large_learn l at f)
  fits-large_learn l LargeAt.Tick f frames fits =
      fits-tick_at (record l { call = record l.call { time = (f + 1) % 2 ^ 64 } }) l.call.stage frames refl fits
  fits-large_learn l (LargeAt.Kind unit) f frames fits = (frames, fits)
  fits-large_learn l (LargeAt.Grant unit) f frames fits = fits-got sure l unit frames fits.0.0

  pub fits-get_as : (l : Local) (at : GetAt) (next : GetNext) → Frames k seat plain_rooms l → GetsLarge l
      → Fits k seat sure (get_as l at next)
  fits-get_as l at (GetNext.Goes next) frames gets = (frames, gets)
  fits-get_as l at GetNext.Waits frames gets = (frames, gets)
  fits-get_as l at (GetNext.Took block) frames gets =
      let next : Local = record l {
        call = record l.call {
          missed = false;
          block = record { first = block; granules = granules_of_served l.call.served };
        };
      } in fits-ticked next frames (got_cached next l.call.stage gets.0 (gets.1, λ _. refl))
  fits-get_as l at GetNext.Missed frames gets =
      let next : Local = record l { call = record l.call { missed = true } } in
      fits-ticked next frames (got_cached next l.call.stage gets.0 (gets.1, never))

  pub fits-undo_as : (l : Local) (cause : NullCause) (at : UndoAt) (next : UndoNext) → Frames k seat plain_rooms l
      → GetsLarge l × (l.call.missed ≡ true) → Fits k seat sure (undo_as l cause at next)
  fits-undo_as l cause at (UndoNext.Goes next) frames gets = (frames, gets)
  fits-undo_as l cause at UndoNext.Waits frames gets = (frames, gets)
  fits-undo_as l cause at UndoNext.Undone frames gets = fits-answered sure l (Answer.Null cause) frames

  fits-kept_as : (l : Local) (one : Option ℕ) → Frames k seat plain_rooms l → IsEnding l.call.stage
      → Fits k seat sure (kept_as l one)
  fits-kept_as l (Some block) frames ends = (frames, ends)
  fits-kept_as l None frames ends = fits-ticked l frames (ending_cached l l.call.stage ends)

  pub fits-keep_as : (l : Local) (at : KeepAt) (next : KeepNext) → Frames k seat plain_rooms l
      → KeepFits l l.call.stage → Fits k seat sure (keep_as l at next)
  fits-keep_as l at (KeepNext.Goes next) frames keeps = (frames, keeps)
  fits-keep_as l at KeepNext.Waits frames keeps = (frames, keeps)
  fits-keep_as l at (KeepNext.Kept released) frames keeps =
      fits-kept_as l released frames (keep_ending l l.call.stage keeps)

  -- where an object lies
  fits-object_at : (l : Local) (slab : ℕ) (one : Option ℕ) (unit : ℕ) → Frames k seat plain_rooms l
      → l.call.stage ≡ Stage.Getting → IsSmall l.call.served → slab ≡ l.call.slab → Gives sure l slab
      → head_at l slab ≡ one → unit ≡ rest_at l slab → Fits k seat sure (object_at l slab one unit)
  fits-object_at l slab (Some head) unit frames gets small same gives is rest =
      (frames, (((gets, small), same, gives), is))
  fits-object_at l slab None unit frames gets small same gives is rest =
      (frames, (((gets, small), same, gives), is, rest))

  fits-object_in : (l : Local) (found : Option HeapSlab) → Frames k seat plain_rooms l
      → l.call.stage ≡ Stage.Getting → IsSmall l.call.served → Gives sure l l.call.slab
      → record_at l.heap.slabs.records l.call.slab ≡ found → Fits k seat sure (object_in l l.call.slab found)
  fits-object_in l (Some kept) frames gets small gives is =
      fits-object_at l l.call.slab kept.head (unit_of l.call.slab kept.class kept.handed) frames gets small refl gives
      (ap head_of is) (sym (ap (rest_in l.call.slab) is))
  fits-object_in l None frames gets small gives is =
      fits-object_at l l.call.slab None 0 frames gets small refl gives (ap head_of is)
      (sym (ap (rest_in l.call.slab) is))

  fits-located_as : (l : Local) (region base : ℕ) (served : Served) → Frames k seat plain_rooms l
      → l.call.stage ≡ Stage.Getting → l.call.served ≡ served → PlaceFits sure l served
      → Fits k seat sure (located_as l region base served)
  fits-located_as l region base (Served.Small class) frames gets is place =
      fits-object_in l (record_at l.heap.slabs.records l.call.slab) frames gets (subst IsSmall (sym is) tt) place refl
  fits-located_as l region base (Served.Large granules alignment) frames gets is place =
      (frames, ((gets, subst IsLarge (sym is) tt), place))

  fits-slot_looked : (l : Local) (slot region : ℕ) → Frames k seat plain_rooms l
      → LocateFits sure l (LocateAt.Region slot) → Fits k seat sure (slot_looked l slot region)
  fits-slot_looked l slot region frames fits =
      either sure (has_granule (region_of region) (located_index l l.call.served)) _ _
      (λ _. (frames, fits))
      (λ _. either sure (ltb slot last_slot) _ _
      (λ (more : ltb slot last_slot ≡ true). (frames, (fits.0, grind (arith, nat_tests), fits.2)))
      (λ _. (frames, fits)))

  pub fits-locate_learn : (l : Local) (at : LocateAt) (f : ℕ) → Frames k seat plain_rooms l → LocateFits sure l at
      → Fits k seat sure (locate_learn l at f)
  fits-locate_learn l (LocateAt.Region slot) f frames fits = fits-slot_looked l slot f frames fits
  fits-locate_learn l (LocateAt.Base slot region) f frames fits = fits-located_as
      (record l { call = record l.call { region = region } }) region f l.call.served frames fits.0 refl fits.2
