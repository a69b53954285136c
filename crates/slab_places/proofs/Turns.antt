-- Every turn leads to where slabs and large objects lie as is asked.
use Rattle.std.proofs.Common.{◌≡◌, ◌∙◌, ℕ, ◌+◌, ◌^◌, true, false, Option, Some, None, sym, ap, subst}
use Rattle.std.specs.Prelude.{◌%◌, ◌||◌, eqb}
use Rattle.pool_words.specs.declared.actions.Seen.{Seen}
use Rattle.pool_words.specs.declared.words.Key.{Key}
use Rattle.pool_words.specs.Actions.{word_seen}
use Rattle.backend_bins.specs.Bin.{bin_learn}
use Rattle.backend_bins.specs.Cut.{cut_learn}
use Rattle.backend_bins.specs.Scan.{scan_learn}
use Rattle.coalescer.specs.Drain.{drain_learn}
use Rattle.coalescer.specs.Put.{put_learn}
use Rattle.large_cache.specs.Get.{get_learn}
use Rattle.large_cache.specs.Keep.{keep_learn}
use Rattle.large_cache.specs.Sweep.{sweep_learn}
use Rattle.large_cache.specs.Undo.{undo_learn}
use Rattle.mailbox.specs.Boxes.{box_learn}
use Rattle.mailbox.specs.Mailing.{mail_learn}
use Rattle.mailbox.specs.declared.boxes.BoxNext.{BoxNext}
use Rattle.mailbox.specs.declared.mailing.MailNext.{MailNext}
use Rattle.orphans.specs.Adopting.{adopt_learn}
use Rattle.orphans.specs.Leaving.{leave_learn}
use Rattle.public_list.specs.Ending.{end_learn}
use Rattle.public_list.specs.Joining.{join_learn}
use Rattle.public_list.specs.Looking.{look_learn}
use Rattle.public_list.specs.Posting.{post_learn}
use Rattle.public_list.specs.declared.ending.EndNext.{EndNext}
use Rattle.public_list.specs.declared.joining.JoinNext.{JoinNext}
use Rattle.public_list.specs.declared.looking.LookNext.{LookNext}
use Rattle.public_list.specs.declared.posting.PostNext.{PostNext}
use Rattle.region_steps.specs.Office.{office_learn}
use Rattle.heap_slabs.specs.Rolls.{without_newest}
use Rattle.word_codes.specs.Links.{link_of}
use Rattle.heap_slabs.specs.declared.records.HeapSlab.{HeapSlab}
use Rattle.heap_slabs.specs.Slabs.{record_at}
use Rattle.step_local.specs.declared.frames.At.{At}
use Rattle.step_local.specs.declared.frames.LargeAt.{LargeAt}
use Rattle.step_local.specs.declared.frames.Local.{Local}
use Rattle.step_local.specs.declared.frames.LocateAt.{LocateAt}
use Rattle.step_local.specs.declared.frames.OfficeFor.{OfficeFor}
use Rattle.step_local.specs.declared.frames.Served.{Served}
use Rattle.step_local.specs.declared.frames.SmallAt.{SmallAt}
use Rattle.step_local.specs.declared.frames.Stage.{Stage}
use Rattle.step_local.specs.Answers.{end_call}
use Rattle.step_local.specs.Backend.{cut_call, drain_call, office_call, whole_call}
use Rattle.step_local.specs.Course.{course_at}
use Rattle.step_local.specs.Large.{granules_of_served, sweep_call}
use Rattle.step_local.specs.Learn.{learn_at}
use Rattle.step_local.specs.Leaving.{put_call, scan_call}
use Rattle.step_local.specs.Objects.{end_as, look_call, looked_as, mail_as, post_as}
use Rattle.step_local.specs.Slabs.{boxed_as, joined_as, mailed_on, slab_came, small_learn, with_joined, with_taken}
use Rattle.step_runs.specs.Places.{has_word}
use Rattle.call_laws.specs.Calls.{is_reset_at}
use Rattle.step_fits.specs.Asked.{Asks, want_of}
use Rattle.step_fits.specs.Frames.{CallFits}
use Rattle.step_fits.specs.Large.{PlaceFits}
use Rattle.step_fits.specs.Positions.{AtFits}
use Rattle.step_fits.specs.Backend.{OfficeFits}
use Rattle.step_fits.specs.Small.{EndsSlab, SmallFits}
use Rattle.seat_ties.specs.Turns.{NoReset}
use Rattle.slab_moves.specs.Says.{IsEven, PlaceSays}
use Rattle.slab_places.proofs.Cached.{AreEven, newest_even}
use Rattle.slab_places.proofs.Placed.{IsPlaced}
use Rattle.slab_places.proofs.PlacedBackend.{AsksSlab, WantsSlab, placed-cut_as, placed-drained_as, placed-office_as}
use Rattle.slab_places.proofs.PlacedBackend.{placed-put_as, placed-queue_as, placed-scanned_as, placed-whole_as}
use Rattle.slab_places.proofs.PlacedLarge.{placed-freed_own, placed-get_as, placed-held, placed-keep_as}
use Rattle.slab_places.proofs.PlacedLarge.{placed-located_as, placed-slot_looked, placed-swept_as, placed-tick_at}
use Rattle.slab_places.proofs.PlacedLarge.{placed-undo_as}
use Rattle.slab_places.proofs.PlacedSmall.{placed-adopted_as, placed-fetched, placed-got, placed-left_as}
use Rattle.slab_places.proofs.PlacedSmall.{placed-lost_end, placed-newest_given, placed-slab_adopted}
use Rattle.slab_places.proofs.PlacedSmall.{placed-slab_cached, placed-slab_emptied, placed-spared_as}
use Rattle.slab_places.proofs.Served.{wanted_has_room}
use Rattle.slab_places.proofs.Units.{HasRoom}

looked : (l : Local) (next : LookNext) → IsPlaced (looked_as l next)
looked l (LookNext.Goes at) = λ low. tt
looked l (LookNext.Held unit mark kind base) = placed-held (record l {
  call = record l.call { old = record l.call.old { unit = unit; mark = mark; kind = kind } };
}) base
looked l LookNext.Differs = λ low. tt
looked l (LookNext.NotHeld found) = λ low. tt

ended : (l : Local) (next : EndNext) → IsPlaced (end_as l next)
ended l (EndNext.Goes at) = λ low. tt
ended l EndNext.Own = placed-freed_own l
ended l EndNext.Other = λ low. tt
ended l EndNext.Large = λ low. tt
ended l (EndNext.NotHeld found) = placed-lost_end l found

posted : (l : Local) (next : PostNext) → IsPlaced (post_as l next)
posted l (PostNext.Goes at) = λ low. tt
posted l PostNext.Listed = λ low. tt
posted l PostNext.Owed = λ low. tt

mailed : (l : Local) (next : MailNext) → IsPlaced (mail_as l next)
mailed l (MailNext.Goes at) = λ low. tt
mailed l MailNext.Mailed = λ low. tt

on : (l : Local) (rest : Option ℕ) → NoReset l.call.stage → IsPlaced (mailed_on l rest)
on l (Some slab) quiet = λ low. tt
on l None quiet = placed-fetched l quiet

came : (l : Local) (slab : ℕ) (rest : Option ℕ) → NoReset l.call.stage → IsPlaced (slab_came l slab rest)
came l slab rest quiet =
    on (record l { fetch = record l.fetch { came = l.fetch.came || eqb slab l.fetch.awaited } }) rest quiet

boxed : (l : Local) (next : BoxNext) → NoReset l.call.stage → IsPlaced (boxed_as l next)
boxed l (BoxNext.Goes at) quiet = λ low. tt
boxed l BoxNext.Empty quiet = placed-fetched l quiet
boxed l (BoxNext.Unchanged slab rest) quiet = came l slab rest quiet
boxed l (BoxNext.Joined slab first count rest) quiet = came (with_joined l slab first count) slab rest quiet

joined : (l : Local) (slab : ℕ) (rest : Option ℕ) (next : JoinNext) → NoReset l.call.stage
    → IsPlaced (joined_as l slab rest next)
joined l slab rest (JoinNext.Goes at) quiet = λ low. tt
joined l slab rest JoinNext.Nothing quiet = placed-slab_adopted l slab rest quiet
joined l slab rest (JoinNext.Joined first count) quiet =
    placed-slab_adopted (with_joined l slab first count) slab rest quiet

-- a slab is asked for where one is served
wants : (l : Local) → Asks l → WantsSlab l
wants l asks class served = ap (λ w. w.slab) (asks.1 ∙ ap want_of served)

asks_slab : (l : Local) (job : OfficeFor) → OfficeFits l job → AsksSlab l job
asks_slab l OfficeFor.Ask fits = wants l fits
asks_slab l (OfficeFor.Put first) fits = tt
asks_slab l (OfficeFor.Drain first rest) fits = tt

module _ (k : Key) (l : Local) (even : AreEven l.heap.cached.items)
    (kept : (slab : ℕ) (one : HeapSlab) → record_at l.heap.slabs.records slab ≡ Some one → IsEven slab)
    (quiet : NoReset l.call.stage) (calls : CallFits k l.call.request l.call.old l.call.served l.call.stage) where
  -- a slab that ends was kept
  ends_even : (slab : ℕ) (stage : Stage) → NoReset stage → EndsSlab l slab stage → IsEven slab
  ends_even slab Stage.Getting none ends = kept slab ends.1.0 ends.1.1.there
  ends_even slab Stage.Ending none ends = kept slab ends.0 ends.1.there
  ends_even slab Stage.Replacing none ends = kept slab ends.0 ends.1.there
  ends_even slab Stage.Undoing none ends = kept slab ends.0 ends.1.there
  ends_even slab Stage.Leaving none ends = kept slab ends.0 ends.1.there
  ends_even slab Stage.Idle none ends = absurd ends
  ends_even slab Stage.Looking none ends = absurd ends
  ends_even slab (Stage.Resetting stage) none ends = absurd none

  small : (at : SmallAt) (f : ℕ) → SmallFits true l at → PlaceSays l.call.block (At.Small at)
      → IsPlaced (small_learn l at f)
  small (SmallAt.Uncache slab) f fits says = λ low. newest_even l.heap.cached slab even fits.1
  small (SmallAt.Next slab) f fits says = λ low. says
  small (SmallAt.Public slab) f fits says = λ low. says
  small (SmallAt.Own slab) f fits says = λ low. says
  small (SmallAt.Kind slab) f fits says = λ low. tt
  small (SmallAt.Behind slab head) f fits says = λ low. tt
  small (SmallAt.Private slab head below) f fits says = placed-got (with_taken l slab below) head
  small (SmallAt.Rest slab unit) f fits says = placed-got (with_taken l slab None) unit
  small (SmallAt.Empty slab) f fits says = placed-slab_emptied l slab (ends_even slab l.call.stage quiet fits)
  small (SmallAt.Cache slab) f fits says = placed-slab_cached l slab
  small (SmallAt.Oldest slab) f fits says = λ low. tt
  small (SmallAt.Newest slab) f fits says = placed-newest_given
      (record l { heap = record l.heap { cached = without_newest l.heap.cached } }) slab l.call.stage

  large : (at : LargeAt) (f : ℕ) → IsPlaced (learn_at l (At.Large at) (Seen.Word f))
  large LargeAt.Tick f = placed-tick_at (record l { call = record l.call { time = (f + 1) % 2 ^ 64 } }) l.call.stage
  large (LargeAt.Kind unit) f = λ low. tt
  large (LargeAt.Grant unit) f = placed-got l unit

  room : (stage : Stage) → stage ≡ Stage.Getting → CallFits k l.call.request l.call.old l.call.served stage
      → PlaceFits true l l.call.served → (granules alignment : ℕ) → l.call.served ≡ Served.Large granules alignment
      → HasRoom l.call.block.granules alignment
  room Stage.Getting is gets place granules alignment served =
      let block : l.call.block.granules ≡ granules
      = subst (PlaceFits true l) served place ∙ ap granules_of_served served in
      subst (λ n. HasRoom n alignment) (sym block)
      (wanted_has_room l.call.request granules alignment (gets.wanted ∙ ap Some served))
  room _ is gets place granules alignment served = absurd (cc)

  locate : (at : LocateAt) (f : ℕ) → AtFits true l (At.Locate at) → IsPlaced (learn_at l (At.Locate at) (Seen.Word f))
  locate (LocateAt.Region slot) f fits = placed-slot_looked l slot f
  locate (LocateAt.Base slot region) f fits =
      placed-located_as (record l { call = record l.call { region = region } }) region f l.call.served
      (room l.call.stage fits.0 calls fits.2)

  pub placed_at : (at : At) (s : Seen) → has_word (course_at l at) ≡ true → is_reset_at at ≡ false → AtFits true l at
      → PlaceSays l.call.block at → IsPlaced (learn_at l at s)
  placed_at At.Idle s word calm fits says = absurd (cc)
  placed_at (At.Ready answer) s word calm fits says = absurd (cc)
  placed_at (At.Look at) s word calm fits says = looked l (look_learn (look_call l) at (word_seen s))
  placed_at (At.End at) s word calm fits says = ended l (end_learn (end_call l) at (word_seen s))
  placed_at (At.Post at) s word calm fits says = posted l (post_learn at (word_seen s))
  placed_at (At.Mail at) s word calm fits says = mailed l (mail_learn at (word_seen s))
  placed_at (At.Mailbox at) s word calm fits says = boxed l (box_learn at (word_seen s)) quiet
  placed_at (At.Adopt at) s word calm fits says = placed-adopted_as l (adopt_learn at (word_seen s)) quiet
  placed_at (At.Join slab rest at) s word calm fits says = joined l slab rest (join_learn at (word_seen s)) quiet
  placed_at (At.Spare at) s word calm fits says = placed-spared_as l (leave_learn at (word_seen s)) quiet
  placed_at (At.Leave slab at) s word calm fits says = placed-left_as l slab (leave_learn at (word_seen s))
  placed_at (At.Locate at) s word calm fits says = locate at (word_seen s) fits
  placed_at (At.Small at) s word calm fits says = small at (word_seen s) fits says
  placed_at (At.Large at) s word calm fits says = large at (word_seen s)
  placed_at (At.Get at) s word calm fits says = placed-get_as l at (get_learn at (word_seen s))
  placed_at (At.Undo cause at) s word calm fits says = placed-undo_as l cause at (undo_learn at (word_seen s))
  placed_at (At.Keep at) s word calm fits says = placed-keep_as l at (keep_learn at (word_seen s))
  placed_at (At.Sweep at) s word calm fits says = placed-swept_as l at (sweep_learn (sweep_call l) at (word_seen s))
  placed_at (At.Scan at) s word calm fits says =
      placed-scanned_as l at (scan_learn (scan_call l) at (word_seen s)) (wants l fits.0)
  placed_at (At.Cut at) s word calm fits says =
      placed-cut_as l at (cut_learn (cut_call l) at (word_seen s)) (wants l fits.0)
  placed_at At.Queue s word calm fits says = placed-queue_as l (link_of (word_seen s))
  placed_at (At.Whole at) s word calm fits says = placed-whole_as l at (bin_learn (whole_call l) at (word_seen s))
  placed_at (At.Drain at) s word calm fits says = placed-drained_as l at (drain_learn (drain_call l) at (word_seen s))
  placed_at (At.Put at) s word calm fits says = placed-put_as l at (put_learn (put_call l) at (word_seen s))
  placed_at (At.Office job at) s word calm fits says =
      placed-office_as l job at (office_learn (office_call l job) at s) (asks_slab l job fits)
  placed_at (At.Reset at) s word calm fits says = absurd (cc)
