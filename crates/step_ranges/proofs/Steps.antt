-- Each step of a local in its range names a word of the pool, stores what that word may hold, and leaves a local in
-- its range.
use Rattle.std.proofs.Common.{Bool, None, Option, Some, arith, false, refl, subst, sym, true, ℕ, ◌<◌, ◌≡◌}
use Rattle.pool_types.specs.Geometry.{class_count}
use Rattle.pool_words.specs.Actions.{finds, word_seen}
use Rattle.pool_words.specs.Words.{cache_counts}
use Rattle.pool_words.specs.declared.actions.Seen.{Seen}
use Rattle.pool_words.specs.declared.words.Key.{Key}
use Rattle.pool_words.specs.declared.words.Word.{Word}
use Rattle.word_codes.specs.Links.{link_of}
use Rattle.heap_slabs.specs.Slabs.{record_at}
use Rattle.heap_slabs.specs.declared.records.HeapSlab.{HeapSlab}
use Rattle.public_list.specs.Joining.{join_learn}
use Rattle.public_list.specs.Looking.{look_learn}
use Rattle.public_list.specs.Posting.{post_learn}
use Rattle.mailbox.specs.Boxes.{box_learn}
use Rattle.mailbox.specs.Mailing.{mail_learn}
use Rattle.mailbox.specs.declared.boxes.BoxAt.{BoxAt}
use Rattle.orphans.specs.Adopting.{adopt_learn}
use Rattle.orphans.specs.Leaving.{leave_learn}
use Rattle.backend_bins.specs.Bin.{bin_learn}
use Rattle.backend_bins.specs.Blocks.{fits}
use Rattle.backend_bins.specs.Cut.{cut_learn}
use Rattle.backend_bins.specs.Scan.{scan_learn}
use Rattle.coalescer.specs.Drain.{drain_learn}
use Rattle.coalescer.specs.Put.{put_learn}
use Rattle.region_steps.specs.Office.{office_learn}
use Rattle.large_cache.specs.Get.{get_learn}
use Rattle.large_cache.specs.Keep.{keep_learn}
use Rattle.large_cache.specs.Sweep.{sweep_learn}
use Rattle.large_cache.specs.Undo.{undo_learn}
use Rattle.word_laws.specs.Memory.{Valid}
use Rattle.step_local.specs.Answers.{ended_object, head_at}
use Rattle.step_local.specs.Backend.{cut_call, drain_call, office_call, whole_call}
use Rattle.step_local.specs.Course.{course, course_at}
use Rattle.step_local.specs.Large.{cache_call, granules_of_served, keep_call, sweep_call}
use Rattle.step_local.specs.Learn.{learn, learn_at}
use Rattle.step_local.specs.Leaving.{leave_call, leave_call_of, scan_call}
use Rattle.step_local.specs.Objects.{look_call, mail_call, post_call}
use Rattle.step_local.specs.Resetting.{binning_call, clear_call, evict_call, reset_course, reset_learn_of}
use Rattle.step_local.specs.Resetting.{strip_call, unite_call}
use Rattle.step_local.specs.Slabs.{adopt_call, box_call, box_head, join_call, spare_call}
use Rattle.step_local.specs.declared.frames.At.{At}
use Rattle.step_local.specs.declared.frames.Call.{Call}
use Rattle.step_local.specs.declared.frames.Local.{Local}
use Rattle.step_local.specs.declared.frames.ResetAt.{ResetAt}
use Rattle.step_local.specs.declared.frames.Served.{Served}
use Rattle.reset_steps.specs.Clear.{clear_learn}
use Rattle.reset_steps.specs.Evict.{evict_learn}
use Rattle.reset_steps.specs.Seek.{seek_learn}
use Rattle.reset_steps.specs.Strip.{strip_learn}
use Rattle.reset_steps.specs.Unite.{unite_learn}
use Rattle.reset_steps.specs.Unqueue.{unqueue_learn}
use Rattle.step_ranges.proofs.Backend.{cut_fits, cut_on, drain_fits, drain_on, put_fits, put_on, scan_fits}
use Rattle.step_ranges.proofs.Backend.{scan_on}
use Rattle.step_ranges.proofs.BackendTurns.{cut_as_fits, drained_fits, is_cut, office_as_fits, put_as_fits}
use Rattle.step_ranges.proofs.BackendTurns.{queue_as_fits, scanned_fits, whole_as_fits}
use Rattle.step_ranges.proofs.Caches.{get_fits, get_on, keep_fits, keep_on, sweep_fits, sweep_on, undo_fits}
use Rattle.step_ranges.proofs.Codes.{loads}
use Rattle.step_ranges.proofs.Heaps.{head_fits}
use Rattle.step_ranges.proofs.LargeTurns.{get_as_fits, keep_as_fits, large_fits, large_on, locate_fits}
use Rattle.step_ranges.proofs.LargeTurns.{locate_on, swept_as_fits, undo_as_fits}
use Rattle.step_ranges.proofs.Lists.{bin_fits, bin_on}
use Rattle.step_ranges.proofs.Numbers.{slab_there}
use Rattle.step_ranges.proofs.ObjectTurns.{end_course_fits, end_on, ended_object_fits, looked_fits}
use Rattle.step_ranges.proofs.ObjectTurns.{mail_as_fits, post_as_fits}
use Rattle.step_ranges.proofs.ResetTurns.{binned_fits, cleared_fits, evicting_fits, sought_fits}
use Rattle.step_ranges.proofs.ResetTurns.{strip_call_fits, stripped_fits, uniting_fits, unqueuing_fits}
use Rattle.step_ranges.proofs.Resets.{clear_fits, clear_on, evict_fits, evict_on, office_names, office_on}
use Rattle.step_ranges.proofs.Resets.{office_stores, seek_fits, seek_next, strip_fits, strip_on, unite_fits}
use Rattle.step_ranges.proofs.Resets.{unite_on, unqueue_fits, unqueue_on}
use Rattle.step_ranges.proofs.SlabTurns.{adopted_fits, boxed_fits, joined_fits, small_fits, small_on}
use Rattle.step_ranges.proofs.SlabTurns.{spared_fits}
use Rattle.step_ranges.proofs.Slabs.{adopt_fits, adopt_on, box_fits, box_on, join_fits, join_on, leave_fits}
use Rattle.step_ranges.proofs.Slabs.{leave_on, look_fits, look_on, mail_fits, mail_on, post_fits, post_on}
use Rattle.step_ranges.proofs.Turns.{TurnFits, answered_fits, left_as_fits}
use Rattle.step_ranges.specs.Jobs.{SeenFits}
use Rattle.step_ranges.specs.Locals.{AtFits, Frames, KeptFits, LeadsAt, LocalFits, ResetFits, ResetLeads}
use Rattle.step_ranges.specs.Locals.{ServedFits}
use Rattle.step_ranges.specs.Ranges.{ActionFits, Finds, IsBelow, IsKey, IsLarge, IsSlab, Stores}
use Rattle.step_ranges.specs.Ranges.{units_end}
use Rattle.pool_words.specs.declared.actions.Action.TheVariants.{Load, Nothing}
use Rattle.step_local.specs.Leaving.{put_call}
use Rattle.step_ranges.specs.Ranges.{NamesOrNone}
use Rattle.std.proofs.Common.{inl}

module _ (k : Key) (key : IsKey k) where
  head_at_fits : (l : Local) (slab : ℕ) → Frames k l → IsBelow (units_end k) (head_at l slab)
  head_at_fits l slab frames = head_fits k (record_at l.heap.slabs.records slab) (frames.heap.records slab)

  box_head_fits : (l : Local) (at : BoxAt) → Frames k l → IsBelow (units_end k) (box_head l at)
  box_head_fits l BoxAt.Take frames = tt
  box_head_fits l (BoxAt.Next slab) frames = tt
  box_head_fits l (BoxAt.Settle slab rest) frames = tt
  box_head_fits l (BoxAt.Join slab rest at) frames = head_at_fits l slab frames

  leave_class : (slab : ℕ) (one : Option HeapSlab) → KeptFits k one → (leave_call_of slab one).class < class_count
  leave_class slab None fits = omega arith
  leave_class slab (Some kept) fits = fits.class

  leave_slab : (slab : ℕ) (one : Option HeapSlab) → IsSlab k slab → IsSlab k (leave_call_of slab one).slab
  leave_slab slab None is = is
  leave_slab slab (Some kept) is = is

  -- so many granules have a bin of the cache
  served_low : (served : Served) → ServedFits k served → granules_of_served served < cache_counts
  served_low (Served.Small class) fits = omega arith
  served_low (Served.Large granules alignment) fits = let few = fits.few in omega (arith, key.span)

  large_low : (c : Call) → IsLarge k c.block.granules c.block.first → c.block.granules < cache_counts
  large_low c is = let few = is.few in omega (arith, key.span)

  reset_fits : (l : Local) (at : ResetAt) → Frames k l → ResetFits k l at → ActionFits k (reset_course l at)
  reset_fits l (ResetAt.Strip slab at) frames fits =
      strip_fits k key (strip_call l slab) at (strip_call_fits k key l slab frames fits.2)
  reset_fits l (ResetAt.Seek at) frames fits = seek_fits k key at fits.1
  reset_fits l (ResetAt.Evict region at) frames fits =
      evict_fits k key (evict_call l region) at frames.seat fits.2
  reset_fits l (ResetAt.Clear granules at) frames fits =
      clear_fits k key (clear_call l granules) at frames.seat fits.1 fits.2
  reset_fits l (ResetAt.Unqueue at) frames fits = unqueue_fits k key at fits.1
  reset_fits l (ResetAt.Unite region at) frames fits = unite_fits k key (unite_call l region) at frames.seat fits.2
  reset_fits l (ResetAt.Bin at) frames fits = bin_fits k key (binning_call l) at frames.seat fits.1 fits.2

  none_fits_here : ActionFits k Nothing
  none_fits_here = record { names = tt; stores = tt }

  load_queue : ActionFits k (Load Word.Queue)
  load_queue = loads one
    where
      one : Valid k Word.Queue
      one = omega arith

  -- the position is none of the office's
  abbrev is_elsewhere : At → Bool
  is_elsewhere (At.Office job at) = false
  is_elsewhere _ = true

  -- all positions but the office's
  action_at : (l : Local) (at : At) → is_elsewhere at ≡ true → Frames k l → AtFits k l at
      → ActionFits k (course_at l at)
  action_at l At.Idle e frames fits = none_fits_here
  action_at l (At.Ready answer) e frames fits = none_fits_here
  action_at l (At.Look at) e frames fits = look_fits k key (look_call l) at fits.1
  action_at l (At.End at) e frames fits = end_course_fits k key l at frames
  action_at l (At.Post at) e frames fits =
      let below = (ended_object_fits k key l frames).unit in
      post_fits k key (post_call l) at below (slab_there k (ended_object l).unit below) fits.1
  action_at l (At.Mail at) e frames fits =
      mail_fits k key (mail_call l) at
      (slab_there k (ended_object l).unit (ended_object_fits k key l frames).unit) fits.1
  action_at l (At.Mailbox at) e frames fits =
      box_fits k key (box_call l at) at (record { seat = frames.seat; class = frames.fetch.class })
      (box_head_fits l at frames) fits.2
  action_at l (At.Adopt at) e frames fits =
      adopt_fits k key (adopt_call l) at frames.seat frames.fetch.class fits.2
  action_at l (At.Join slab rest at) e frames fits =
      join_fits k key (join_call l slab) at fits.2 (head_at_fits l slab frames) fits.4
  action_at l (At.Spare at) e frames fits =
      leave_fits k key (spare_call l) at frames.fetch.spare frames.fetch.class fits.2
  action_at l (At.Leave slab at) e frames fits =
      leave_fits k key (leave_call l slab) at (leave_slab slab (record_at l.heap.slabs.records slab) fits.2)
      (leave_class slab (record_at l.heap.slabs.records slab) (frames.heap.records slab)) fits.3
  action_at l (At.Locate at) e frames fits = locate_fits k key at fits.2
  action_at l (At.Small at) e frames fits = small_fits k key l at frames fits.1
  action_at l (At.Large at) e frames fits = large_fits k key l at frames fits.1
  action_at l (At.Get at) e frames fits =
      get_fits k key (cache_call l) at frames.seat (served_low l.call.served frames.call.served) fits.2
  action_at l (At.Undo cause at) e frames fits =
      undo_fits k key (cache_call l) at frames.seat (served_low l.call.served frames.call.served)
  action_at l (At.Keep at) e frames fits =
      keep_fits k key (keep_call l) at frames.seat (large_low l.call fits.2) fits.2.block fits.3
  action_at l (At.Sweep at) e frames fits = sweep_fits k key (sweep_call l) at frames.seat frames.bin fits.2
  action_at l (At.Scan at) e frames fits = scan_fits k key (scan_call l) at frames.seat fits.2
  action_at l (At.Cut at) e frames fits = cut_fits k key (cut_call l) at frames.seat (is_cut k key l fits.2) fits.3
  action_at l At.Queue e frames fits = load_queue
  action_at l (At.Whole at) e frames fits = bin_fits k key (whole_call l) at frames.seat fits.2 fits.3
  action_at l (At.Drain at) e frames fits = drain_fits k key (drain_call l) at frames.seat fits.2
  action_at l (At.Put at) e frames fits = put_fits k key (put_call l) at frames.seat fits.1
  action_at l (At.Office job at) e frames fits = absurd (cc)
  action_at l (At.Reset at) e frames fits = reset_fits l at frames fits

  stores_at : (l : Local) (at : At) → Frames k l → AtFits k l at → Stores k (course_at l at)
  stores_at l (At.Office job at) frames fits = office_stores k key (office_call l job) at frames.seat fits.1
  stores_at l at frames fits = (action_at l at refl frames fits).stores

  pub stores_fit : (l : Local) → LocalFits k l → Stores k (course l)
  stores_fit l fits = stores_at l l.at fits.frames fits.at

  names_at : (l : Local) (at : At) → Frames k l → AtFits k l at → NamesOrNone k (course_at l at)
  names_at l (At.Office job at) frames fits = office_names k key (office_call l job) at fits.1
  names_at l at frames fits = inl (action_at l at refl frames fits).names

  pub names_fit : (l : Local) → LocalFits k l → NamesOrNone k (course l)
  names_fit l fits = names_at l l.at fits.frames fits.at

  reset_step : (l : Local) (at : ResetAt) (found : ℕ) → Frames k l → ResetFits k l at
      → Finds k (reset_course l at) found → ResetLeads k at found → TurnFits k (reset_learn_of l at found)
  reset_step l (ResetAt.Strip slab at) found frames fits finds leads =
      stripped_fits k key l slab (strip_learn (strip_call l slab) at found) frames fits.0 fits.1 fits.2
      (strip_on k key (strip_call l slab) at found (strip_call_fits k key l slab frames fits.2))
  reset_step l (ResetAt.Seek at) found frames fits finds leads =
      sought_fits k key l at.seek (seek_learn at found) frames fits.0 (seek_next k key at found fits.1 finds)
  reset_step l (ResetAt.Evict region at) found frames fits finds leads =
      evicting_fits k key l region (evict_learn (evict_call l region) at found) frames fits.0 fits.1
      (evict_on k key (evict_call l region) at found fits.1 fits.2 finds)
  reset_step l (ResetAt.Clear granules at) found frames fits finds leads =
      cleared_fits k key l granules at (clear_learn at found) frames fits.0 fits.1 fits.2
      (clear_on k key l.released.items (clear_call l granules) at found fits.0 finds leads)
  reset_step l (ResetAt.Unqueue at) found frames fits finds leads =
      unqueuing_fits k key l (unqueue_learn at found) frames fits.0 (unqueue_on k key at found fits.1 finds)
  reset_step l (ResetAt.Unite region at) found frames fits finds leads =
      uniting_fits k key l region at (unite_learn (unite_call l region) at found) frames fits.0 fits.1 fits.2
      (unite_on k key (unite_call l region) at found fits.1 fits.2 finds)
  reset_step l (ResetAt.Bin at) found frames fits finds leads =
      binned_fits k key l at (bin_learn (binning_call l) at found) frames fits.0 fits.1 fits.2
      (bin_on k key (binning_call l) at found fits.2 finds)

  step_at : (l : Local) (at : At) (s : Seen) → l.at ≡ at → Frames k l → AtFits k l at
      → Finds k (course_at l at) (word_seen s)
      → SeenFits k s → LeadsAt k l at (word_seen s) → TurnFits k (learn_at l at s)
  step_at l At.Idle s e frames fits finds seen leads =
      record { frames = frames; at = subst (AtFits k l) (sym e) fits }
  step_at l (At.Ready answer) s e frames fits finds seen leads = answered_fits k l answer frames fits
  step_at l (At.Look at) s e frames fits finds seen leads =
      looked_fits k key l (look_learn (look_call l) at (word_seen s)) frames fits.0
      (look_on k key (look_call l) at (word_seen s) fits.1 finds)
  step_at l (At.End at) s e frames fits finds seen leads =
      end_on k key l at (word_seen s) frames fits.0 fits.1 fits.2
  step_at l (At.Post at) s e frames fits finds seen leads =
      post_as_fits k key l (post_learn at (word_seen s)) frames fits.0
      (post_on k key (post_call l) at (word_seen s) fits.1 finds)
  step_at l (At.Mail at) s e frames fits finds seen leads =
      mail_as_fits k key l (mail_learn at (word_seen s)) frames fits.0
      (mail_on k key (mail_call l) at (word_seen s) fits.1 finds)
  step_at l (At.Mailbox at) s e frames fits finds seen leads =
      boxed_fits k key l (box_learn at (word_seen s)) frames fits.0 fits.1
      (box_on k key (box_call l at) at (word_seen s) fits.2 finds)
  step_at l (At.Adopt at) s e frames fits finds seen leads =
      adopted_fits k key l (adopt_learn at (word_seen s)) frames fits.0 fits.1
      (adopt_on k key (adopt_call l) at (word_seen s) fits.2 finds)
  step_at l (At.Join slab rest at) s e frames fits finds seen leads =
      joined_fits k key l slab rest (join_learn at (word_seen s)) frames fits.0 fits.1 fits.2 fits.3
      (join_on k key (join_call l slab) at (word_seen s) fits.4 finds)
  step_at l (At.Spare at) s e frames fits finds seen leads =
      spared_fits k key l (leave_learn at (word_seen s)) frames fits.0 fits.1
      (leave_on k key (spare_call l) at (word_seen s) fits.2 finds)
  step_at l (At.Leave slab at) s e frames fits finds seen leads =
      left_as_fits k l slab (leave_learn at (word_seen s)) frames fits.0 fits.1 fits.2
      (leave_on k key (leave_call l slab) at (word_seen s) fits.3 finds)
  step_at l (At.Locate at) s e frames fits finds seen leads =
      locate_on k key l at (word_seen s) frames fits.0 fits.1 fits.2
  step_at l (At.Small at) s e frames fits finds seen leads =
      small_on k key l at (word_seen s) frames fits.0 fits.1 finds
  step_at l (At.Large at) s e frames fits finds seen leads = large_on k key l at (word_seen s) frames fits.0 fits.1
  step_at l (At.Get at) s e frames fits finds seen leads =
      get_as_fits k key l at (get_learn at (word_seen s)) frames fits.0 fits.1 fits.2
      (get_on k key (cache_call l) at (word_seen s) fits.2 finds leads)
  step_at l (At.Undo cause at) s e frames fits finds seen leads =
      undo_as_fits k key l cause at (undo_learn at (word_seen s)) frames fits
  step_at l (At.Keep at) s e frames fits finds seen leads =
      keep_as_fits k key l at (keep_learn at (word_seen s)) frames fits.0 fits.1 fits.2 fits.3
      (keep_on k key (keep_call l) at (word_seen s) fits.3 finds leads)
  step_at l (At.Sweep at) s e frames fits finds seen leads =
      swept_as_fits k key l at (sweep_learn (sweep_call l) at (word_seen s)) frames (fits.0, fits.2) fits.1
      (sweep_on k key (sweep_call l) l.released.items at (word_seen s) fits.0 fits.2 finds leads)
  step_at l (At.Scan at) s e frames fits finds seen leads =
      scanned_fits k key l at (scan_learn (scan_call l) at (word_seen s)) frames fits.0 fits.1 fits.2
      (scan_on k key (scan_call l) at (word_seen s) fits.2 finds)
  step_at l (At.Cut at) s e frames fits finds seen leads =
      cut_as_fits k key l at (cut_learn (cut_call l) at (word_seen s)) frames fits.0 fits.1 fits.2 fits.3
      (cut_on k key (cut_call l) at (word_seen s) (is_cut k key l fits.2) fits.3 finds)
  step_at l At.Queue s e frames fits finds seen leads =
      queue_as_fits k key l (link_of (word_seen s)) frames fits.0 fits.1
  step_at l (At.Whole at) s e frames fits finds seen leads =
      whole_as_fits k key l at (bin_learn (whole_call l) at (word_seen s)) frames fits.0 fits.1 fits.2 fits.3
      (bin_on k key (whole_call l) at (word_seen s) fits.3 finds)
  step_at l (At.Drain at) s e frames fits finds seen leads =
      drained_fits k key l at (drain_learn (drain_call l) at (word_seen s)) frames fits.0 fits.1 fits.2
      (drain_on k key (drain_call l) at (word_seen s) fits.2 finds)
  step_at l (At.Put at) s e frames fits finds seen leads =
      put_as_fits k key l at (put_learn (put_call l) at (word_seen s)) frames fits.0 fits.1
      (put_on k key (put_call l) at (word_seen s) fits.1 finds)
  step_at l (At.Office job at) s e frames fits finds seen leads =
      office_as_fits k key l job at (office_learn (office_call l job) at s) frames fits.0 fits.1
      (office_on k key (office_call l job) at s fits.1 seen)
  step_at l (At.Reset at) s e frames fits finds seen leads =
      reset_step l at (word_seen s) frames fits finds leads

  -- a local in its range comes to one in its range
  pub step_fits : (l : Local) (s : Seen) → LocalFits k l → Finds k (course l) (word_seen s) → SeenFits k s
      → LeadsAt k l l.at (word_seen s) → LocalFits k (learn l s).0
  step_fits l s fits finds seen leads = step_at l l.at s refl fits.frames fits.at finds seen leads
