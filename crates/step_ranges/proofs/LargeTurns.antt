-- Where turns at the cache and at large objects go on.
use Rattle.std.proofs.Common.{None, Option, Some, ap, arith, eqb, false, ltb, refl, subst, sym, true}
use Rattle.std.proofs.Common.{ℕ, ◌%◌, ◌*◌, ◌+◌, ◌-◌, ◌<◌, ◌^◌, ◌∙◌, ◌≡◌, ◌≤◌}
use Rattle.std.specs.Prelude.{max}
use Rattle.pool_types.specs.Geometry.{class_count, granule_bytes, line_bytes}
use Rattle.pool_types.specs.Limits.{most_regions}
use Rattle.pool_types.specs.Sums.{capped}
use Rattle.pool_types.specs.declared.values.Answer.{Answer}
use Rattle.pool_types.specs.declared.values.NullCause.{NullCause}
use Rattle.pool_words.specs.declared.words.Key.{Key}
use Rattle.word_codes.specs.Places.{granule_of}
use Rattle.word_codes.specs.RegionWords.{address_of, first_unit, has_granule, large_begin, large_unit}
use Rattle.word_codes.specs.RegionWords.{region_of}
use Rattle.word_codes.specs.declared.kinds.Kind.{Kind}
use Rattle.word_codes.specs.declared.region_words.RegionWord.{RegionWord}
use Rattle.heap_slabs.specs.Records.{unit_of}
use Rattle.heap_slabs.specs.Rolls.{after_push, newest_of, without_newest}
use Rattle.heap_slabs.specs.Slabs.{record_at}
use Rattle.heap_slabs.specs.declared.records.HeapSlab.{HeapSlab}
use Rattle.heap_slabs.specs.declared.slabs.Wanted.{Wanted}
use Rattle.backend_bins.specs.Blocks.{fits}
use Rattle.backend_bins.specs.declared.blocks.Block.{Block}
use Rattle.large_cache.specs.declared.get.GetAt.{GetAt}
use Rattle.large_cache.specs.declared.get.GetNext.{GetNext}
use Rattle.large_cache.specs.declared.keep.KeepAt.{KeepAt}
use Rattle.large_cache.specs.declared.keep.KeepNext.{KeepNext}
use Rattle.large_cache.specs.declared.sweep.Cleanup.{Cleanup}
use Rattle.large_cache.specs.declared.sweep.SweepAt.{SweepAt}
use Rattle.large_cache.specs.declared.sweep.SweepNext.{SweepNext}
use Rattle.large_cache.specs.declared.undo.UndoAt.{UndoAt}
use Rattle.large_cache.specs.declared.undo.UndoNext.{UndoNext}
use Rattle.step_local.specs.Answers.{got, kind_got}
use Rattle.step_local.specs.Course.{large_course, locate_course}
use Rattle.step_local.specs.Frames.{last_cache_bin}
use Rattle.step_local.specs.Large.{bins_swept, cached_at, cleanup_ticks, emptying, emptying_by, get_as}
use Rattle.step_local.specs.Large.{got_block, granules_of_served, keep_as, kept_as, large_learn, last_slot}
use Rattle.step_local.specs.Large.{locate_learn, located_as, located_index, next_bin, object_at, object_in}
use Rattle.step_local.specs.Large.{releasing, releasing_by, slot_looked, sweeping, swept, swept_as, tick_at}
use Rattle.step_local.specs.Large.{ticked, undo_as, unused_next}
use Rattle.step_local.specs.declared.frames.Call.{Call}
use Rattle.step_local.specs.declared.frames.LargeAt.{LargeAt}
use Rattle.step_local.specs.declared.frames.Local.{Local}
use Rattle.step_local.specs.declared.frames.LocateAt.{LocateAt}
use Rattle.step_local.specs.declared.frames.PutFor.{PutFor}
use Rattle.step_local.specs.declared.frames.Served.{Served}
use Rattle.step_local.specs.declared.frames.Stage.{Stage}
use Rattle.step_ranges.proofs.Caches.{GetNextFits, KeepNextFits, SweepGoes, SweepHas}
use Rattle.step_ranges.proofs.Codes.{grant_fits, kind_fits, loads, stores_in}
use Rattle.step_ranges.proofs.Heaps.{from_fits}
use Rattle.step_ranges.proofs.Numbers.{below_by, choose, choose_by, end_some, granule_below, is_kind, is_mark}
use Rattle.step_ranges.proofs.Resets.{object_within}
use Rattle.step_ranges.proofs.Rolls.{Holds, newest_holds, none_newest, push_holds, without_newest_holds}
use Rattle.step_ranges.proofs.SlabTurns.{locating_fits}
use Rattle.step_ranges.proofs.Turns.{TurnFits, answered_fits, asking_fits, empty_by_sweep, ended_fits}
use Rattle.step_ranges.proofs.Turns.{got_fits, newest_by_sweep, putting_fits, with_bin, with_call}
use Rattle.step_ranges.specs.Jobs.{GetFits, HasObject, KeepFits}
use Rattle.step_ranges.specs.Locals.{AfterSweep, AreReleased, AskFits, CachedFits, Frames, GotBlock, IsSmall}
use Rattle.step_ranges.specs.Locals.{KeptFits, LargeAtFits, LargeFits, LocateFits, NoneReleased, PlaceFits}
use Rattle.step_ranges.specs.Locals.{ServedFits, TickFits}
use Rattle.step_ranges.specs.Ranges.{ActionFits, IsBelow, IsBlock, IsBlockIf, IsKey, IsLarge, IsSlab}
use Rattle.step_ranges.specs.Ranges.{units_end}
use Rattle.std.proofs.Math.Nat.{div-mul-le_self}
use Rattle.heap_slabs.specs.Slabs.{first_from}

module _ (k : Key) (key : IsKey k) where
  pub sweeping_fits : (l : Local) (cleanup : Cleanup) (at : SweepAt) → Frames k l
      → SweepHas k l.released.items 1 at → AfterSweep k l.call l.ask.want cleanup → TurnFits k (sweeping l cleanup at)
  sweeping_fits l cleanup at frames has after =
      record { frames = with_bin frames 1 (omega arith); at = (has.0, after, has.1) }

  granules_asked : (served : Served) → (IsSmall served → ⊥)
      → AskFits (record { granules = granules_of_served served; slab = false }) served
  granules_asked (Served.Small class) large = absurd (large tt)
  granules_asked (Served.Large granules alignment) large = refl

  got_large : (c : Call) (served : Served) → GotBlock k c served → IsSmall served → ⊥
  got_large c (Served.Small class) got small = got
  got_large c (Served.Large granules alignment) got small = small

  got_place : (c : Call) (served : Served) → GotBlock k c served → c.missed ≡ false → PlaceFits k c served
  got_place c (Served.Small class) got e = absurd got
  got_place c (Served.Large granules alignment) got e = got e

  got_block_fits : (l : Local) → Frames k l → NoneReleased l → GotBlock k l.call l.call.served
      → TurnFits k (got_block l)
  got_block_fits l frames none got = choose_by (TurnFits k) l.call.missed _ _
      (λ missed. asking_fits k l (record { granules = granules_of_served l.call.served; slab = false }) frames none
      (granules_asked l.call.served (got_large l.call l.call.served got)))
      (λ has. locating_fits k key l frames none (got_place l.call l.call.served got has))

  cached_at_fits : (l : Local) (stage : Stage) → Frames k l → NoneReleased l → CachedFits k l.call stage
      → TurnFits k (cached_at l stage)
  cached_at_fits l Stage.Getting frames none got = got_block_fits l frames none got
  cached_at_fits l Stage.Idle frames none got = ended_fits k l frames none
  cached_at_fits l Stage.Looking frames none got = ended_fits k l frames none
  cached_at_fits l Stage.Ending frames none got = ended_fits k l frames none
  cached_at_fits l Stage.Replacing frames none got = ended_fits k l frames none
  cached_at_fits l Stage.Undoing frames none got = ended_fits k l frames none
  cached_at_fits l Stage.Leaving frames none got = ended_fits k l frames none
  cached_at_fits l (Stage.Resetting stage) frames none got = ended_fits k l frames none

  pub ticked_fits : (l : Local) → Frames k l → NoneReleased l → CachedFits k l.call l.call.stage
      → TurnFits k (ticked l)
  ticked_fits l frames none got = choose (TurnFits k) (eqb (l.call.time % cleanup_ticks) 0) _ _
      (sweeping_fits l Cleanup.Regular SweepAt.Peek frames (none, tt) got)
      (cached_at_fits l l.call.stage frames none got)

  swept_fits : (l : Local) (cleanup : Cleanup) → Frames k l → NoneReleased l
      → AfterSweep k l.call l.ask.want cleanup → TurnFits k (swept l cleanup)
  swept_fits l Cleanup.Regular frames none after = cached_at_fits l l.call.stage frames none after
  swept_fits l Cleanup.Soft frames none after = record { frames = frames; at = (none, after, tt) }
  swept_fits l Cleanup.Hard frames none after = record { frames = frames; at = (none, after, tt) }

  unused_next_fits : (l : Local) (one : Option HeapSlab) → Frames k l → NoneReleased l
      → AfterSweep k l.call l.ask.want l.sweep.cleanup → KeptFits k one → TurnFits k (unused_next l one)
  unused_next_fits l (Some kept) frames none after fits = record {
    frames = frames;
    at = (none, (fits.slab, empty_by_sweep k l.call l.ask.want l.sweep.cleanup l.call.stage after));
  }
  unused_next_fits l None frames none after fits = swept_fits l l.sweep.cleanup frames none after

  emptying_by_fits : (l : Local) (one : Option ℕ) → Frames k l → NoneReleased l
      → AfterSweep k l.call l.ask.want l.sweep.cleanup → Holds (IsSlab k) one → TurnFits k (emptying_by l one)
  emptying_by_fits l (Some slab) frames none after is = record {
    frames = frames;
    at = (none, (is, newest_by_sweep k l.call l.ask.want l.sweep.cleanup l.call.stage after));
  }
  emptying_by_fits l None frames none after is =
      unused_next_fits l (first_from Wanted.Unused l.heap.slabs 0) frames none after
      (from_fits k Wanted.Unused l.heap.slabs 0 frames.heap.records)

  pub emptying_fits : (l : Local) → Frames k l → NoneReleased l → AfterSweep k l.call l.ask.want l.sweep.cleanup
      → TurnFits k (emptying l)
  emptying_fits l frames none after = emptying_by_fits l (newest_of l.heap.cached) frames none after
      (newest_holds (IsSlab k) l.heap.cached frames.heap.cached)

  bins_swept_fits : (l : Local) (cleanup : Cleanup) → l.sweep.cleanup ≡ cleanup → Frames k l → NoneReleased l
      → AfterSweep k l.call l.ask.want cleanup → TurnFits k (bins_swept l cleanup)
  bins_swept_fits l Cleanup.Regular e frames none after = swept_fits l Cleanup.Regular frames none after
  bins_swept_fits l Cleanup.Soft e frames none after = swept_fits l Cleanup.Soft frames none after
  bins_swept_fits l Cleanup.Hard e frames none after =
      emptying_fits l frames none (subst (AfterSweep k l.call l.ask.want) (sym e) after)

  pub next_bin_fits : (l : Local) → Frames k l → NoneReleased l → AfterSweep k l.call l.ask.want l.sweep.cleanup
      → TurnFits k (next_bin l)
  next_bin_fits l frames none after = choose_by (TurnFits k) (ltb l.sweep.granules last_cache_bin) _ _
      (λ more. record {
        frames = with_bin frames (l.sweep.granules + 1)
            (let low = below_by l.sweep.granules last_cache_bin more in omega arith);
        at = (none, after, tt);
      })
      (λ last. bins_swept_fits l l.sweep.cleanup refl frames none after)

  releasing_by_fits : (l : Local) (one : Option ℕ) → newest_of l.released ≡ one → Frames k l
      → AreReleased k l.sweep.granules l.released.items → AfterSweep k l.call l.ask.want l.sweep.cleanup
      → TurnFits k (releasing_by l one)
  releasing_by_fits l (Some first) e frames are after =
      putting_fits k (record l { released = without_newest l.released }) PutFor.Swept
      (record { first = first; granules = l.sweep.granules }) frames
      (without_newest_holds (IsBlock k l.sweep.granules) l.released are, after)
      (subst (Holds (IsBlock k l.sweep.granules)) e (newest_holds (IsBlock k l.sweep.granules) l.released are))
  releasing_by_fits l None e frames are after = next_bin_fits l frames (none_newest l.released e) after

  pub releasing_fits : (l : Local) → Frames k l → AreReleased k l.sweep.granules l.released.items
      → AfterSweep k l.call l.ask.want l.sweep.cleanup → TurnFits k (releasing l)
  releasing_fits l frames are after = releasing_by_fits l (newest_of l.released) refl frames are after

  pub swept_as_fits : (l : Local) (at : SweepAt) (next : SweepNext) → Frames k l
      → SweepHas k l.released.items l.sweep.granules at → AfterSweep k l.call l.ask.want l.sweep.cleanup
      → SweepGoes k l.released.items l.sweep.granules next → TurnFits k (swept_as l at next)
  swept_as_fits l at (SweepNext.Goes on) frames has after next =
      record { frames = frames; at = (next.0, after, next.1) }
  swept_as_fits l at (SweepNext.Stays on) frames has after next =
      record { frames = frames; at = (next.0, after, next.1) }
  swept_as_fits l at (SweepNext.Stale block on) frames has after next =
      let more = next.2 (after_push l.released block).items
      (push_holds (IsBlock k l.sweep.granules) l.released block next.0 next.1) in
      record { frames = frames; at = (more.0, after, more.1) }
  swept_as_fits l at SweepNext.Waits frames has after next =
      record { frames = frames; at = (has.0, after, has.1) }
  swept_as_fits l at (SweepNext.Began time) frames has after next =
      record { frames = with_bin frames l.sweep.granules frames.bin; at = (next, after, tt) }
  swept_as_fits l at SweepNext.Passed frames has after next = next_bin_fits l frames next after
  swept_as_fits l at SweepNext.Swept frames has after next = releasing_fits l frames next after

  -- a block that the cache gave is the one that is got
  took_got : (c : Call) (served : Served) (first : ℕ) → (IsSmall served → ⊥)
      → IsBlock k (granules_of_served served) first
      → c.block ≡ record { first = first; granules = granules_of_served served }
      → GotBlock k c served
  took_got c (Served.Small class) first large is e = absurd (large tt)
  took_got c (Served.Large granules alignment) first large is e = λ has.
      (subst (λ (b : Block). IsBlock k granules b.first) (sym e) is, ap (λ (b : Block). b.granules) e)

  missed_got : (c : Call) (served : Served) → (IsSmall served → ⊥) → c.missed ≡ true → GotBlock k c served
  missed_got c (Served.Small class) large e = absurd (large tt)
  missed_got c (Served.Large granules alignment) large e = λ has. absurd (let bad = sym e ∙ has in cc)

  cached_if : (c : Call) (stage : Stage) → GotBlock k c c.served → CachedFits k c stage
  cached_if c Stage.Getting got = got
  cached_if c _ got = tt

  pub get_as_fits : (l : Local) (at : GetAt) (next : GetNext) → Frames k l → NoneReleased l
      → (IsSmall l.call.served → ⊥) → GetFits k (granules_of_served l.call.served) at
      → GetNextFits k (granules_of_served l.call.served) next → TurnFits k (get_as l at next)
  get_as_fits l at (GetNext.Goes on) frames none large fits next =
      record { frames = frames; at = (none, large, next) }
  get_as_fits l at GetNext.Waits frames none large fits next =
      record { frames = frames; at = (none, large, fits) }
  get_as_fits l at (GetNext.Took block) frames none large fits next =
      let c : Call = record l.call {
        missed = false;
        block = record { first = block; granules = granules_of_served l.call.served };
      } in
      ticked_fits (record l { call = c }) (with_call frames c frames.call) none
      (cached_if c l.call.stage (took_got c l.call.served block large next refl))
  get_as_fits l at GetNext.Missed frames none large fits next =
      let c : Call = record l.call { missed = true } in
      ticked_fits (record l { call = c }) (with_call frames c frames.call) none
      (cached_if c l.call.stage (missed_got c l.call.served large refl))

  pub undo_as_fits : (l : Local) (cause : NullCause) (at : UndoAt) (next : UndoNext) → Frames k l → NoneReleased l
      → TurnFits k (undo_as l cause at next)
  undo_as_fits l cause at (UndoNext.Goes on) frames none = record { frames = frames; at = none }
  undo_as_fits l cause at UndoNext.Waits frames none = record { frames = frames; at = none }
  undo_as_fits l cause at UndoNext.Undone frames none = answered_fits k l (Answer.Null cause) frames none

  kept_as_fits : (l : Local) (one : Option ℕ) → Frames k l → NoneReleased l → CachedFits k l.call l.call.stage
      → IsBlockIf k l.call.block.granules one → TurnFits k (kept_as l one)
  kept_as_fits l None frames none got is = ticked_fits l frames none got
  kept_as_fits l (Some block) frames none got is =
      putting_fits k l PutFor.Released (record { first = block; granules = l.call.block.granules }) frames
      (none, got) is

  pub keep_as_fits : (l : Local) (at : KeepAt) (next : KeepNext) → Frames k l → NoneReleased l
      → CachedFits k l.call l.call.stage → IsLarge k l.call.block.granules l.call.block.first
      → KeepFits k l.call.block.granules at → KeepNextFits k l.call.block.granules next
      → TurnFits k (keep_as l at next)
  keep_as_fits l at (KeepNext.Goes on) frames none got is fits next =
      record { frames = frames; at = (none, got, is, next) }
  keep_as_fits l at KeepNext.Waits frames none got is fits next =
      record { frames = frames; at = (none, got, is, fits) }
  keep_as_fits l at (KeepNext.Kept released) frames none got is fits next =
      kept_as_fits l released frames none got next

  -- a tick
  tick_at_fits : (l : Local) (stage : Stage) → l.call.stage ≡ stage → Frames k l → NoneReleased l
      → TickFits k l.call stage → TurnFits k (tick_at l stage)
  tick_at_fits l Stage.Getting e frames none fits = record { frames = frames; at = (none, fits, tt) }
  tick_at_fits l Stage.Idle e frames none fits =
      record { frames = frames; at = (none, subst (CachedFits k l.call) (sym e) tt, fits, tt) }
  tick_at_fits l Stage.Looking e frames none fits =
      record { frames = frames; at = (none, subst (CachedFits k l.call) (sym e) tt, fits, tt) }
  tick_at_fits l Stage.Ending e frames none fits =
      record { frames = frames; at = (none, subst (CachedFits k l.call) (sym e) tt, fits, tt) }
  tick_at_fits l Stage.Replacing e frames none fits =
      record { frames = frames; at = (none, subst (CachedFits k l.call) (sym e) tt, fits, tt) }
  tick_at_fits l Stage.Undoing e frames none fits =
      record { frames = frames; at = (none, subst (CachedFits k l.call) (sym e) tt, fits, tt) }
  tick_at_fits l Stage.Leaving e frames none fits =
      record { frames = frames; at = (none, subst (CachedFits k l.call) (sym e) tt, fits, tt) }
  tick_at_fits l (Stage.Resetting stage) e frames none fits =
      record { frames = frames; at = (none, subst (CachedFits k l.call) (sym e) tt, fits, tt) }

  tick_same : (c : Call) (time : ℕ) (stage : Stage) → TickFits k c stage
      → TickFits k (record c { time = time }) stage
  tick_same c time Stage.Getting fits = fits
  tick_same c time _ fits = fits

  pub large_on : (l : Local) (at : LargeAt) (found : ℕ) → Frames k l → NoneReleased l → LargeAtFits k l.call at
      → TurnFits k (large_learn l at found)
  large_on l LargeAt.Tick found frames none fits =
      let c : Call = record l.call { time = (found + 1) % 2 ^ 64 } in
      tick_at_fits (record l { call = c }) l.call.stage refl (with_call frames c frames.call) none
      (tick_same l.call ((found + 1) % 2 ^ 64) l.call.stage fits)
  large_on l (LargeAt.Kind unit) found frames none fits = record { frames = frames; at = (none, fits) }
  large_on l (LargeAt.Grant unit) found frames none fits = got_fits k l unit frames none fits

  pub large_fits : (l : Local) (at : LargeAt) → Frames k l → LargeAtFits k l.call at
      → ActionFits k (large_course l at)
  large_fits l LargeAt.Tick frames fits = record { names = omega arith; stores = λ sum. tt }
  large_fits l (LargeAt.Kind unit) frames fits =
      stores_in (is_kind k (granule_of unit) (granule_below k unit fits.unit))
      (kind_fits k key (kind_got l.call l.call.served) fits.kind)
  large_fits l (LargeAt.Grant unit) frames fits =
      stores_in (is_mark k unit fits.unit) (grant_fits k key l.seat (capped (l.last + 1)) frames.seat)

  -- where an object is granted
  begin_within : (start multiple : ℕ) → large_begin start multiple ≤ start + line_bytes + (multiple - 1)
  begin_within start multiple =
      let least = div-mul-le_self (capped (capped (start + line_bytes) + (multiple - 1))) multiple in omega arith

  pub large_unit_below : (r : RegionWord) (base first granules alignment : ℕ) → IsBlock k granules first
      → max alignment 1 + line_bytes ≤ granules * granule_bytes → large_unit r base first alignment < units_end k
  unfolding large_unit
  large_unit_below r base first granules alignment is room =
      let start = address_of r base (first_unit first) in
      let most = begin_within start (max alignment 1) in
      let ends = is.ends in
      let begins = is.begins in
      omega arith

  rest_grant : (l : Local) (unit class : ℕ) → unit < units_end k → class < class_count
      → HasObject k unit (Kind.Slab class)
  rest_grant l unit class is low = record { unit = is; kind = low }

  object_at_fits : (l : Local) (slab class unit : ℕ) (head : Option ℕ) → l.call.served ≡ Served.Small class
      → Frames k l → NoneReleased l → class < class_count → unit < units_end k → IsBelow (units_end k) head
      → TurnFits k (object_at l slab head unit)
  object_at_fits l slab class unit (Some head) e frames none low is below = record {
    frames = frames;
    at = (
      none,
      subst (λ served. HasObject k head (kind_got l.call served)) (sym e)
          (rest_grant l head class below low),
    );
  }
  object_at_fits l slab class unit None e frames none low is below = record {
    frames = frames;
    at = (none, subst (λ served. HasObject k unit (kind_got l.call served)) (sym e) (rest_grant l unit class is low));
  }

  object_in_fits : (l : Local) (slab class : ℕ) (one : Option HeapSlab) → l.call.served ≡ Served.Small class
      → Frames k l → NoneReleased l → class < class_count → IsSlab k slab → KeptFits k one
      → TurnFits k (object_in l slab one)
  object_in_fits l slab class (Some kept) e frames none low is fits =
      object_at_fits l slab class (unit_of slab kept.class kept.handed) kept.head e frames none low
      (object_within k slab kept.class kept.handed is fits.class) fits.head
  object_in_fits l slab class None e frames none low is fits =
      object_at_fits l slab class 0 None e frames none low (let some = end_some k key in omega arith) tt

  located_fits : (l : Local) (region base : ℕ) (served : Served) → l.call.served ≡ served → Frames k l
      → NoneReleased l → PlaceFits k l.call served → TurnFits k (located_as l region base served)
  located_fits l region base (Served.Small class) e frames none place =
      object_in_fits l l.call.slab class (record_at l.heap.slabs.records l.call.slab) e frames none
      (subst (ServedFits k) e frames.call.served) place (frames.heap.records l.call.slab)
  located_fits l region base (Served.Large granules alignment) e frames none place =
      let fits : LargeFits k granules alignment = subst (ServedFits k) e frames.call.served in
      record {
        frames = frames;
        at = (
          none,
          subst (λ served. HasObject k
              (large_unit (region_of region) base l.call.block.first alignment) (kind_got l.call served)) (sym e)
              (record {
                unit =
                    large_unit_below (region_of region) base l.call.block.first granules alignment place.0 fits.room;
                kind = subst (λ length. IsLarge k length l.call.block.first) (sym place.1)
                    (record { block = place.0; few = fits.few });
              }),
        );
      }

  place_same : (c : Call) (region : ℕ) (served : Served) → PlaceFits k c served
      → PlaceFits k (record c { region = region }) served
  place_same c region (Served.Small class) fits = fits
  place_same c region (Served.Large granules alignment) fits = fits

  slot_looked_fits : (l : Local) (slot region : ℕ) → Frames k l → NoneReleased l → PlaceFits k l.call l.call.served
      → slot < most_regions → TurnFits k (slot_looked l slot region)
  slot_looked_fits l slot region frames none place low =
      choose (TurnFits k) (has_granule (region_of region) (located_index l l.call.served)) _ _
      (record { frames = frames; at = (none, place, low) })
      (choose_by (TurnFits k) (ltb slot last_slot) _ _
      (λ more. record {
        frames = frames;
        at = (none, place, let few = below_by slot last_slot more in omega arith);
      })
      (λ last. record { frames = frames; at = (none, place, low) }))

  pub locate_on : (l : Local) (at : LocateAt) (found : ℕ) → Frames k l → NoneReleased l
      → PlaceFits k l.call l.call.served → LocateFits at → TurnFits k (locate_learn l at found)
  locate_on l (LocateAt.Region slot) found frames none place low = slot_looked_fits l slot found frames none place low
  locate_on l (LocateAt.Base slot region) found frames none place low =
      let c : Call = record l.call { region = region } in
      located_fits (record l { call = c }) region found l.call.served refl (with_call frames c frames.call) none
      (place_same l.call region l.call.served place)

  pub locate_fits : (at : LocateAt) → LocateFits at → ActionFits k (locate_course at)
  locate_fits (LocateAt.Region slot) low = loads low
  locate_fits (LocateAt.Base slot region) low = loads low
