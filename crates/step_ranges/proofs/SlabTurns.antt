-- Where turns at slabs go on.
use Rattle.std.proofs.Common.{All, Bool, None, Option, Some, arith, cond, eqb, false, refl, subst, sym, true}
use Rattle.std.proofs.Common.{ℕ, ◌+◌, ◌-◌, ◌<◌, ◌||◌, ◌≡◌}
use Rattle.pool_types.specs.Geometry.{class_count, slab_granules}
use Rattle.pool_types.specs.Sums.{capped}
use Rattle.pool_types.specs.declared.values.Answer.{Answer}
use Rattle.pool_words.specs.Actions.{finds}
use Rattle.pool_words.specs.declared.words.Key.{Key}
use Rattle.pool_words.specs.declared.words.Word.{Word}
use Rattle.word_codes.specs.Kinds.{kind_word}
use Rattle.word_codes.specs.Marks.{mark_of}
use Rattle.word_codes.specs.declared.kinds.Kind.{Kind}
use Rattle.word_codes.specs.declared.marks.Mark.{Mark}
use Rattle.word_codes.specs.declared.owns.Own.{Own}
use Rattle.word_codes.specs.declared.publics.Public.{Public}
use Rattle.heap_slabs.specs.Cached.{surplus_of}
use Rattle.heap_slabs.specs.Records.{of_header}
use Rattle.heap_slabs.specs.Rolls.{Rolled, after_push, newest_of, oldest_of, without_newest, without_oldest}
use Rattle.heap_slabs.specs.Slabs.{after_add, after_join_of, after_remove, after_take_of, first_of_class}
use Rattle.heap_slabs.specs.declared.records.HeapSlab.{HeapSlab}
use Rattle.heap_slabs.specs.declared.slabs.Wanted.{Wanted}
use Rattle.public_list.specs.declared.joining.JoinNext.{JoinNext}
use Rattle.mailbox.specs.declared.boxes.BoxNext.{BoxNext}
use Rattle.orphans.specs.declared.adopting.AdoptAt.{AdoptAt}
use Rattle.orphans.specs.declared.adopting.AdoptNext.{AdoptNext}
use Rattle.orphans.specs.declared.leaving.LeaveNext.{LeaveNext}
use Rattle.backend_bins.specs.Blocks.{fits}
use Rattle.step_local.specs.Answers.{got}
use Rattle.step_local.specs.Course.{small_course}
use Rattle.step_local.specs.Leaving.{slab_block, with_slabs}
use Rattle.step_local.specs.Slabs.{adopted_as, adopted_at, adopting_on, adopts_enough, below_in, boxed_as}
use Rattle.step_local.specs.Slabs.{cached_or_asked, class_of_served, emptied_at, fetched, fetched_at}
use Rattle.step_local.specs.Slabs.{found_slab, getting_small, joined_as, left_or_waits, locating, looking_on}
use Rattle.step_local.specs.Slabs.{mailed_on, newest_given, slab_begun, slab_cached, slab_came, slab_emptied}
use Rattle.step_local.specs.Slabs.{small_learn, spared_as, spared_on, spares_back, sparing, surplus_left}
use Rattle.step_local.specs.Slabs.{surplus_next, with_joined, with_taken}
use Rattle.step_local.specs.declared.frames.Call.{Call}
use Rattle.step_local.specs.declared.frames.Fetch.{Fetch}
use Rattle.step_local.specs.declared.frames.Local.{Local}
use Rattle.step_local.specs.declared.frames.PutFor.{PutFor}
use Rattle.step_local.specs.declared.frames.Served.{Served}
use Rattle.step_local.specs.declared.frames.SmallAt.{SmallAt}
use Rattle.step_local.specs.declared.frames.Stage.{Stage}
use Rattle.step_local.specs.declared.frames.Tried.{Tried}
use Rattle.step_ranges.proofs.Codes.{grant_fits, kind_fits, loads, mailbox_fits, own_fits, public_fits}
use Rattle.step_ranges.proofs.Codes.{stores_in, swaps}
use Rattle.step_ranges.proofs.Heaps.{add_fits, begun_fits, header_fits, join_kept, of_class_fits, remove_kept}
use Rattle.step_ranges.proofs.Heaps.{take_fits}
use Rattle.step_ranges.proofs.Numbers.{choose, is_granule, is_kind, is_mark, slab_at}
use Rattle.step_ranges.proofs.ResetTurns.{binning_fits, none_at_stage, orphan_adopted_fits, reset_on_fits}
use Rattle.step_ranges.proofs.Rolls.{Holds, newest_holds, oldest_holds, push_holds, without_newest_holds}
use Rattle.step_ranges.proofs.Rolls.{without_oldest_holds}
use Rattle.step_ranges.proofs.Slabs.{AdoptNextFits, BoxNextFits, JoinNextFits, LeaveNextFits}
use Rattle.step_ranges.proofs.Turns.{TurnFits, after_leaving, answered_fits, asking_fits, ended_fits, got_fits}
use Rattle.step_ranges.proofs.Turns.{leaving_fits, other_cached, other_slabs, other_spares, putting_fits}
use Rattle.step_ranges.proofs.Turns.{with_call, with_fetch, with_heap}
use Rattle.step_ranges.specs.Jobs.{AdoptFits}
use Rattle.step_ranges.specs.Locals.{AfterEmpty, AfterFetch, AfterNewest, AskFits, Frames, FramesFit}
use Rattle.step_ranges.specs.Locals.{GrantFits, IsLeaving, IsReset, IsSmall, KeptFits, NoneReleased, PlaceFits}
use Rattle.step_ranges.specs.Locals.{ServedFits, SmallFits, StageFits}
use Rattle.step_ranges.specs.Ranges.{ActionFits, Finds, IsBelow, IsKey, IsSlab, IsSlabIf, KindFits, MarkFits}
use Rattle.step_ranges.specs.Ranges.{units_end}
use Rattle.pool_words.specs.declared.actions.Action.TheVariants.{Store}
use Rattle.heap_slabs.specs.Records.{begun}

module _ (k : Key) (key : IsKey k) where
  place_small : (c : Call) (served : Served) → IsSmall served → IsSlab k c.slab → PlaceFits k c served
  place_small c (Served.Small class) small is = is
  place_small c (Served.Large granules alignment) small is = absurd small

  ask_small : (served : Served) → IsSmall served → AskFits (record { granules = slab_granules; slab = true }) served
  ask_small (Served.Small class) small = (refl, refl)
  ask_small (Served.Large granules alignment) small = absurd small

  fetch_small : (c : Call) (stage : Stage) → IsSmall c.served → AfterFetch c stage
  fetch_small c Stage.Getting small = small
  fetch_small c _ small = tt

  pub class_low : (served : Served) → ServedFits k served → class_of_served served < class_count
  class_low (Served.Small class) fits = fits
  class_low (Served.Large granules alignment) fits = omega arith

  pub locating_fits : (l : Local) → Frames k l → NoneReleased l → PlaceFits k l.call l.call.served
      → TurnFits k (locating l)
  locating_fits l frames none place = record { frames = frames; at = (none, place, omega arith) }

  cached_or_asked_fits : (l : Local) (one : Option ℕ) → Frames k l → NoneReleased l → IsSmall l.call.served
      → Holds (IsSlab k) one → TurnFits k (cached_or_asked l one)
  cached_or_asked_fits l (Some slab) frames none small is =
      record { frames = frames; at = (none, (is, small)) }
  cached_or_asked_fits l None frames none small is =
      asking_fits k l (record { granules = slab_granules; slab = true }) frames none (ask_small l.call.served small)

  looking_on_fits : (l : Local) (class : ℕ) (tried : Tried) → Frames k l → NoneReleased l → IsSmall l.call.served
      → class < class_count → TurnFits k (looking_on l class tried)
  looking_on_fits l class Tried.Nothing frames none small low = record {
    frames = with_fetch (with_call frames (record l.call { tried = Tried.Mailbox }) frames.call)
        (record l.fetch { class = class; came = false }) (record { class = low; spare = frames.fetch.spare });
    at = (none, fetch_small (record l.call { tried = Tried.Mailbox }) l.call.stage small, tt);
  }
  looking_on_fits l class Tried.Mailbox frames none small low = record {
    frames = with_call frames (record l.call { tried = Tried.Orphans }) frames.call;
    at = (none, fetch_small (record l.call { tried = Tried.Orphans }) l.call.stage small, tt);
  }
  looking_on_fits l class Tried.Orphans frames none small low =
      cached_or_asked_fits l (newest_of l.heap.cached) frames none small
      (newest_holds (IsSlab k) l.heap.cached frames.heap.cached)

  found_slab_fits : (l : Local) (class : ℕ) (one : Option HeapSlab) → Frames k l → NoneReleased l
      → IsSmall l.call.served → class < class_count → KeptFits k one → TurnFits k (found_slab l class one)
  found_slab_fits l class (Some kept) frames none small low fits =
      let c : Call = record l.call { slab = kept.slab } in
      locating_fits (record l { call = c }) (with_call frames c frames.call) none
      (place_small c l.call.served small fits.slab)
  found_slab_fits l class None frames none small low fits =
      looking_on_fits l class l.call.tried frames none small low

  pub getting_small_fits : (l : Local) (class : ℕ) → Frames k l → NoneReleased l → IsSmall l.call.served
      → class < class_count → TurnFits k (getting_small l class)
  getting_small_fits l class frames none small low =
      found_slab_fits l class (first_of_class Wanted.WithObject l.heap.slabs class) frames none small low
      (of_class_fits k Wanted.WithObject l.heap.slabs class frames.heap.records)

  left_or_waits_fits : (l : Local) (came : Bool) → Frames k l → NoneReleased l → IsLeaving l.call.stage
      → TurnFits k (left_or_waits l came)
  left_or_waits_fits l true frames none leaves = leaving_fits k l frames none leaves
  left_or_waits_fits l false frames none leaves =
      record { frames = frames; at = (none, after_leaving k l.call l.call.stage leaves, tt) }

  fetched_at_fits : (l : Local) (stage : Stage) → l.call.stage ≡ stage → Frames k l → NoneReleased l
      → AfterFetch l.call stage → TurnFits k (fetched_at l stage)
  fetched_at_fits l Stage.Getting e frames none small =
      getting_small_fits l (class_of_served l.call.served) frames none
      small (class_low l.call.served frames.call.served)
  fetched_at_fits l Stage.Leaving e frames none small =
      left_or_waits_fits l l.fetch.came frames none (subst IsLeaving (sym e) tt)
  fetched_at_fits l Stage.Idle e frames none small = answered_fits k l Answer.Exited frames none
  fetched_at_fits l Stage.Looking e frames none small = answered_fits k l Answer.Exited frames none
  fetched_at_fits l Stage.Ending e frames none small = answered_fits k l Answer.Exited frames none
  fetched_at_fits l Stage.Replacing e frames none small = answered_fits k l Answer.Exited frames none
  fetched_at_fits l Stage.Undoing e frames none small = answered_fits k l Answer.Exited frames none
  fetched_at_fits l (Stage.Resetting stage) e frames none small =
      reset_on_fits k key l stage frames (none_at_stage k key l.released.items stage none)
      (subst IsReset (sym e) tt) (subst (StageFits k) e frames.call.stage)

  pub fetched_fits : (l : Local) → Frames k l → NoneReleased l → AfterFetch l.call l.call.stage
      → TurnFits k (fetched l)
  fetched_fits l frames none small = fetched_at_fits l l.call.stage refl frames none small

  mailed_on_fits : (l : Local) (one : Option ℕ) → Frames k l → NoneReleased l → AfterFetch l.call l.call.stage
      → IsSlabIf k one → TurnFits k (mailed_on l one)
  mailed_on_fits l (Some slab) frames none after is = record { frames = frames; at = (none, after, is) }
  mailed_on_fits l None frames none after is = fetched_fits l frames none after

  slab_came_fits : (l : Local) (slab : ℕ) (rest : Option ℕ) → Frames k l → NoneReleased l
      → AfterFetch l.call l.call.stage → IsSlabIf k rest → TurnFits k (slab_came l slab rest)
  slab_came_fits l slab rest frames none after is =
      let fetch : Fetch = record l.fetch { came = l.fetch.came || eqb slab l.fetch.awaited } in
      mailed_on_fits (record l { fetch = fetch }) rest (with_fetch frames fetch frames.fetch) none after is

  joined_frames : (l : Local) (slab first count : ℕ) → Frames k l → first < units_end k
      → Frames k (with_joined l slab first count)
  joined_frames l slab first count frames is =
      let slabs = after_join_of l.heap.slabs slab first count in
      with_heap frames (record l.heap { slabs = slabs })
      (other_slabs frames slabs (join_kept k l.heap.slabs slab first count frames.heap.records is))

  pub boxed_fits : (l : Local) (next : BoxNext) → Frames k l → NoneReleased l → AfterFetch l.call l.call.stage
      → BoxNextFits k next → TurnFits k (boxed_as l next)
  boxed_fits l (BoxNext.Goes at) frames none after fits = record { frames = frames; at = (none, after, fits) }
  boxed_fits l BoxNext.Empty frames none after fits = fetched_fits l frames none after
  boxed_fits l (BoxNext.Unchanged slab rest) frames none after fits = slab_came_fits l slab rest frames none after fits
  boxed_fits l (BoxNext.Joined slab first count rest) frames none after fits =
      slab_came_fits (with_joined l slab first count) slab rest (joined_frames l slab first count frames fits.0) none
      after fits.1

  sparing_fits : (l : Local) (one : Option ℕ) → Frames k l → NoneReleased l → AfterFetch l.call l.call.stage
      → Holds (IsSlab k) one → TurnFits k (sparing l one)
  sparing_fits l (Some slab) frames none after is =
      let spares = without_newest l.heap.spares in
      record {
        frames = with_fetch (with_heap frames (record l.heap { spares = spares })
            (other_spares frames spares (without_newest_holds (IsSlab k) l.heap.spares frames.heap.spares)))
            (record l.fetch { spare = slab }) (record { class = frames.fetch.class; spare = is });
        at = (none, after, tt);
      }
  sparing_fits l None frames none after is = fetched_fits l frames none after

  spares_back_fits : (l : Local) → Frames k l → NoneReleased l → AfterFetch l.call l.call.stage
      → TurnFits k (spares_back l)
  spares_back_fits l frames none after = sparing_fits l (newest_of l.heap.spares) frames none after
      (newest_holds (IsSlab k) l.heap.spares frames.heap.spares)

  spared_on_fits : (l : Local) (one : Option ℕ) → Frames k l → NoneReleased l → AfterFetch l.call l.call.stage
      → IsSlabIf k one → TurnFits k (spared_on l one)
  spared_on_fits l (Some slab) frames none after is = record { frames = frames; at = (none, after, is) }
  spared_on_fits l None frames none after is = spares_back_fits l frames none after

  pub adopted_fits : (l : Local) (next : AdoptNext) → Frames k l → NoneReleased l → AfterFetch l.call l.call.stage
      → AdoptNextFits k next → TurnFits k (adopted_as l next)
  adopted_fits l (AdoptNext.Goes at) frames none after fits = record { frames = frames; at = (none, after, fits) }
  adopted_fits l AdoptNext.Empty frames none after fits = fetched_fits l frames none after
  adopted_fits l (AdoptNext.Adopted slab header rest) frames none after fits =
      let slabs = after_add l.heap.slabs (of_header slab l.fetch.class header) in
      record {
        frames = with_heap frames (record l.heap { slabs = slabs }) (other_slabs frames slabs
            (add_fits k l.heap.slabs (of_header slab l.fetch.class header) frames.heap.records
            (header_fits k slab l.fetch.class header fits.0 frames.fetch.class)));
        at = (none, after, fits.0, fits.1, tt);
      }
  adopted_fits l (AdoptNext.Spared slab rest) frames none after fits =
      let spares = after_push l.heap.spares slab in
      spared_on_fits (record l { heap = record l.heap { spares = spares } }) rest
      (with_heap frames (record l.heap { spares = spares })
      (other_spares frames spares (push_holds (IsSlab k) l.heap.spares slab frames.heap.spares fits.0)))
      none after fits.1

  adopt_or_spare : (enough : Bool) (slab : ℕ) → IsSlab k slab
      → AdoptFits k (cond enough (AdoptAt.Spare slab) (AdoptAt.Header slab))
  adopt_or_spare true slab is = is
  adopt_or_spare false slab is = is

  adopting_on_fits : (l : Local) (enough : Bool) (rest : Option ℕ) → Frames k l → NoneReleased l
      → AfterFetch l.call l.call.stage → IsSlabIf k rest → TurnFits k (adopting_on l enough rest)
  adopting_on_fits l enough None frames none after is = fetched_fits l frames none after
  adopting_on_fits l enough (Some slab) frames none after is =
      record { frames = frames; at = (none, after, adopt_or_spare enough slab is) }

  adopted_at_fits : (l : Local) (slab : ℕ) (rest : Option ℕ) (stage : Stage) → Frames k l → NoneReleased l
      → AfterFetch l.call l.call.stage → IsSlab k slab → IsSlabIf k rest → TurnFits k (adopted_at l slab rest stage)
  adopted_at_fits l slab rest (Stage.Resetting stage) frames none after is below =
      orphan_adopted_fits k key l slab rest frames none is below
  adopted_at_fits l slab rest Stage.Idle frames none after is below =
      adopting_on_fits l (adopts_enough l slab) rest frames none after below
  adopted_at_fits l slab rest Stage.Looking frames none after is below =
      adopting_on_fits l (adopts_enough l slab) rest frames none after below
  adopted_at_fits l slab rest Stage.Getting frames none after is below =
      adopting_on_fits l (adopts_enough l slab) rest frames none after below
  adopted_at_fits l slab rest Stage.Ending frames none after is below =
      adopting_on_fits l (adopts_enough l slab) rest frames none after below
  adopted_at_fits l slab rest Stage.Replacing frames none after is below =
      adopting_on_fits l (adopts_enough l slab) rest frames none after below
  adopted_at_fits l slab rest Stage.Undoing frames none after is below =
      adopting_on_fits l (adopts_enough l slab) rest frames none after below
  adopted_at_fits l slab rest Stage.Leaving frames none after is below =
      adopting_on_fits l (adopts_enough l slab) rest frames none after below

  pub joined_fits : (l : Local) (slab : ℕ) (rest : Option ℕ) (next : JoinNext) → Frames k l → NoneReleased l
      → AfterFetch l.call l.call.stage → IsSlab k slab → IsSlabIf k rest → JoinNextFits k next
      → TurnFits k (joined_as l slab rest next)
  joined_fits l slab rest (JoinNext.Goes at) frames none after is below fits =
      record { frames = frames; at = (none, after, is, below, fits) }
  joined_fits l slab rest JoinNext.Nothing frames none after is below fits =
      adopted_at_fits l slab rest l.call.stage frames none after is below
  joined_fits l slab rest (JoinNext.Joined first count) frames none after is below fits =
      adopted_at_fits (with_joined l slab first count) slab rest l.call.stage
      (joined_frames l slab first count frames fits) none after is below

  pub spared_fits : (l : Local) (next : LeaveNext) → Frames k l → NoneReleased l → AfterFetch l.call l.call.stage
      → LeaveNextFits k next → TurnFits k (spared_as l next)
  spared_fits l (LeaveNext.Goes at) frames none after fits = record { frames = frames; at = (none, after, fits) }
  spared_fits l LeaveNext.Filled frames none after fits = spares_back_fits l frames none after
  spared_fits l LeaveNext.Left frames none after fits = spares_back_fits l frames none after

  surplus_next_fits : (l : Local) (one : Option ℕ) → Frames k l → NoneReleased l → Holds (IsSlab k) one
      → TurnFits k (surplus_next l one)
  surplus_next_fits l (Some slab) frames none is = record { frames = frames; at = (none, is) }
  surplus_next_fits l None frames none is = ended_fits k l frames none

  pub surplus_left_fits : (l : Local) → Frames k l → NoneReleased l → TurnFits k (surplus_left l)
  surplus_left_fits l frames none = choose (TurnFits k) (eqb l.call.surplus 0) _ _ (ended_fits k l frames none)
      (surplus_next_fits l (oldest_of l.heap.cached) frames none
      (oldest_holds (IsSlab k) l.heap.cached frames.heap.cached))

  slab_cached_fits : (l : Local) (slab : ℕ) → Frames k l → NoneReleased l → IsSlab k slab
      → TurnFits k (slab_cached l slab)
  slab_cached_fits l slab frames none is =
      let cached = after_push l.heap.cached slab in
      let c : Call = record l.call { surplus = surplus_of cached } in
      surplus_left_fits (record l { heap = record l.heap { cached = cached }; call = c })
      (with_call (with_heap frames (record l.heap { cached = cached })
      (other_cached frames cached (push_holds (IsSlab k) l.heap.cached slab frames.heap.cached is))) c frames.call)
      none

  emptied_at_fits : (l : Local) (slab : ℕ) (stage : Stage) → l.call.stage ≡ stage → Frames k l → NoneReleased l
      → IsSlab k slab → AfterEmpty k l.call l.ask.want l.sweep.cleanup stage → TurnFits k (emptied_at l slab stage)
  emptied_at_fits l slab Stage.Getting e frames none is after =
      putting_fits k l PutFor.Emptied (slab_block slab) frames (none, after) (slab_at k slab is)
  emptied_at_fits l slab Stage.Leaving e frames none is after =
      putting_fits k l PutFor.Left (slab_block slab) frames (none, subst IsLeaving (sym e) tt) (slab_at k slab is)
  emptied_at_fits l slab Stage.Idle e frames none is after = record { frames = frames; at = (none, is) }
  emptied_at_fits l slab Stage.Looking e frames none is after = record { frames = frames; at = (none, is) }
  emptied_at_fits l slab Stage.Ending e frames none is after = record { frames = frames; at = (none, is) }
  emptied_at_fits l slab Stage.Replacing e frames none is after = record { frames = frames; at = (none, is) }
  emptied_at_fits l slab Stage.Undoing e frames none is after = record { frames = frames; at = (none, is) }
  emptied_at_fits l slab (Stage.Resetting stage) e frames none is after =
      binning_fits k key l stage (slab_block slab) frames (none_at_stage k key l.released.items stage none)
      (subst (StageFits k) e frames.call.stage) (slab_at k slab is)

  slab_emptied_fits : (l : Local) (slab : ℕ) → Frames k l → NoneReleased l → IsSlab k slab
      → AfterEmpty k l.call l.ask.want l.sweep.cleanup l.call.stage → TurnFits k (slab_emptied l slab)
  slab_emptied_fits l slab frames none is after =
      let slabs = after_remove l.heap.slabs slab in
      emptied_at_fits (with_slabs l slabs) slab l.call.stage refl
      (with_heap frames (record l.heap { slabs = slabs })
      (other_slabs frames slabs (remove_kept k l.heap.slabs slab frames.heap.records))) none is after

  newest_given_fits : (l : Local) (slab : ℕ) (stage : Stage) → l.call.stage ≡ stage → Frames k l → NoneReleased l
      → IsSlab k slab → AfterNewest k l.call l.ask.want l.sweep.cleanup stage → TurnFits k (newest_given l slab stage)
  newest_given_fits l slab Stage.Leaving e frames none is after =
      putting_fits k l PutFor.Left (slab_block slab) frames (none, subst IsLeaving (sym e) tt) (slab_at k slab is)
  newest_given_fits l slab Stage.Getting e frames none is after =
      putting_fits k l PutFor.Emptied (slab_block slab) frames (none, after) (slab_at k slab is)
  newest_given_fits l slab Stage.Idle e frames none is after =
      putting_fits k l PutFor.Emptied (slab_block slab) frames (none, after) (slab_at k slab is)
  newest_given_fits l slab Stage.Looking e frames none is after =
      putting_fits k l PutFor.Emptied (slab_block slab) frames (none, after) (slab_at k slab is)
  newest_given_fits l slab Stage.Ending e frames none is after =
      putting_fits k l PutFor.Emptied (slab_block slab) frames (none, after) (slab_at k slab is)
  newest_given_fits l slab Stage.Replacing e frames none is after =
      putting_fits k l PutFor.Emptied (slab_block slab) frames (none, after) (slab_at k slab is)
  newest_given_fits l slab Stage.Undoing e frames none is after =
      putting_fits k l PutFor.Emptied (slab_block slab) frames (none, after) (slab_at k slab is)
  newest_given_fits l slab (Stage.Resetting stage) e frames none is after =
      binning_fits k key l stage (slab_block slab) frames (none_at_stage k key l.released.items stage none)
      (subst (StageFits k) e frames.call.stage) (slab_at k slab is)

  slab_begun_fits : (l : Local) (slab : ℕ) → Frames k l → NoneReleased l → IsSlab k slab → IsSmall l.call.served
      → TurnFits k (slab_begun l slab)
  slab_begun_fits l slab frames none is small =
      let slabs = after_add l.heap.slabs (begun slab (class_of_served l.call.served)) in
      let c : Call = record l.call { slab = slab } in
      locating_fits (record l { heap = record l.heap { slabs = slabs }; call = c })
      (with_call (with_heap frames (record l.heap { slabs = slabs })
      (other_slabs frames slabs (add_fits k l.heap.slabs (begun slab (class_of_served l.call.served))
      frames.heap.records (begun_fits k slab (class_of_served l.call.served) is
      (class_low l.call.served frames.call.served))))) c frames.call) none
      (place_small c l.call.served small is)

  below_fits : (mark : Mark) → MarkFits k mark → IsBelow (units_end k) (below_in mark)
  below_fits Mark.Unmarked fits = tt
  below_fits (Mark.Granted grant) fits = tt
  below_fits (Mark.Hand seat) fits = tt
  below_fits (Mark.Link unit) fits = fits
  below_fits Mark.End fits = tt
  below_fits Mark.EndUnusable fits = tt

  taken_got_fits : (l : Local) (slab unit : ℕ) (below : Option ℕ) → Frames k l → NoneReleased l
      → GrantFits k l.call unit → IsBelow (units_end k) below → TurnFits k (got (with_taken l slab below) unit)
  taken_got_fits l slab unit below frames none grant is =
      let slabs = after_take_of l.heap.slabs slab below in
      got_fits k (with_taken l slab below) unit
      (with_heap frames (record l.heap { slabs = slabs })
      (other_slabs frames slabs (take_fits k l.heap.slabs slab below frames.heap.records is))) none grant

  fewer_cached : (l : Local) (cached : Rolled ℕ) → Frames k l → All (IsSlab k) cached.items
      → FramesFit k l.key l.seat (record l.heap { cached = cached }) l.call l.fetch l.sweep.granules
  fewer_cached l cached frames is =
      with_heap frames (record l.heap { cached = cached }) (other_cached frames cached is)

  pub small_on : (l : Local) (at : SmallAt) (found : ℕ) → Frames k l → NoneReleased l → SmallFits k l at
      → Finds k (small_course l at) found → TurnFits k (small_learn l at found)
  small_on l (SmallAt.Uncache slab) found frames none fits finds = record {
    frames = fewer_cached l (without_newest l.heap.cached) frames
        (without_newest_holds (IsSlab k) l.heap.cached frames.heap.cached);
    at = (none, fits);
  }
  small_on l (SmallAt.Next slab) found frames none fits finds = record { frames = frames; at = (none, fits) }
  small_on l (SmallAt.Public slab) found frames none fits finds = record { frames = frames; at = (none, fits) }
  small_on l (SmallAt.Own slab) found frames none fits finds = record { frames = frames; at = (none, fits) }
  small_on l (SmallAt.Kind slab) found frames none fits finds = slab_begun_fits l slab frames none fits.0 fits.1
  small_on l (SmallAt.Behind slab head) found frames none fits finds =
      record { frames = frames; at = (none, (fits, below_fits (mark_of found) finds)) }
  small_on l (SmallAt.Private slab head below) found frames none fits finds =
      taken_got_fits l slab head below frames none fits.0 fits.1
  small_on l (SmallAt.Rest slab unit) found frames none fits finds =
      taken_got_fits l slab unit None frames none fits tt
  small_on l (SmallAt.Empty slab) found frames none fits finds =
      slab_emptied_fits l slab frames none fits.0 fits.1
  small_on l (SmallAt.Cache slab) found frames none fits finds = slab_cached_fits l slab frames none fits
  small_on l (SmallAt.Oldest slab) found frames none fits finds =
      let cached = without_oldest l.heap.cached in
      let c : Call = record l.call { surplus = l.call.surplus - 1 } in
      putting_fits k (record l { heap = record l.heap { cached = cached }; call = c }) PutFor.Surplus (slab_block slab)
      (with_call (fewer_cached l cached frames
      (without_oldest_holds (IsSlab k) l.heap.cached frames.heap.cached)) c frames.call) none (slab_at k slab fits)
  small_on l (SmallAt.Newest slab) found frames none fits finds =
      let cached = without_newest l.heap.cached in
      newest_given_fits (record l { heap = record l.heap { cached = cached } }) slab l.call.stage refl
      (fewer_cached l cached frames (without_newest_holds (IsSlab k) l.heap.cached frames.heap.cached))
      none fits.0 fits.1

  kind_stores : (slab : ℕ) (kind : Kind) → IsSlab k slab → KindFits k kind
      → ActionFits k (Store (Word.Kind slab) (kind_word kind))
  kind_stores slab kind is fits = stores_in (is_kind k slab is.below) (kind_fits k key kind fits)

  -- what a step at a slab stores
  pub small_fits : (l : Local) (at : SmallAt) → Frames k l → SmallFits k l at → ActionFits k (small_course l at)
  small_fits l (SmallAt.Uncache slab) frames fits = kind_stores slab Kind.Nothing fits.0 tt
  small_fits l (SmallAt.Next slab) frames fits = stores_in (is_granule k slab fits.0.below)
      (mailbox_fits k key (record { seat = l.seat; class = class_of_served l.call.served })
      (record { seat = frames.seat; class = class_low l.call.served frames.call.served }))
  small_fits l (SmallAt.Public slab) frames fits =
      swaps (is_granule k slab fits.0.below) (public_fits k key Public.Null tt)
  small_fits l (SmallAt.Own slab) frames fits =
      stores_in (is_granule k slab fits.0.below) (own_fits k key (Own.Kept l.seat) frames.seat)
  small_fits l (SmallAt.Kind slab) frames fits =
      kind_stores slab (Kind.Slab (class_of_served l.call.served)) fits.0 (class_low l.call.served frames.call.served)
  small_fits l (SmallAt.Behind slab head) frames fits = loads (is_mark k head fits.unit)
  small_fits l (SmallAt.Private slab head below) frames fits =
      stores_in (is_mark k head fits.0.unit) (grant_fits k key l.seat (capped (l.last + 1)) frames.seat)
  small_fits l (SmallAt.Rest slab unit) frames fits =
      stores_in (is_mark k unit fits.unit) (grant_fits k key l.seat (capped (l.last + 1)) frames.seat)
  small_fits l (SmallAt.Empty slab) frames fits = kind_stores slab Kind.Nothing fits.0 tt
  small_fits l (SmallAt.Cache slab) frames fits = kind_stores slab Kind.CachedSlab fits tt
  small_fits l (SmallAt.Oldest slab) frames fits = kind_stores slab Kind.Nothing fits tt
  small_fits l (SmallAt.Newest slab) frames fits = kind_stores slab Kind.Nothing fits.0 tt
