-- Where turns of looks, of ends of grants, of posts and of mail go on.
use Rattle.std.proofs.Common.{Bool, None, Option, Some, cond, eqb, false, leb, refl, subst, true, ℕ, ◌<◌, ◌≡◌}
use Rattle.pool_types.specs.declared.values.Answer.{Answer}
use Rattle.pool_types.specs.declared.values.NullCause.{NullCause}
use Rattle.pool_types.specs.declared.values.Request.{Request}
use Rattle.pool_words.specs.declared.words.Key.{Key}
use Rattle.word_codes.specs.declared.kinds.Kind.{Kind}
use Rattle.heap_slabs.specs.Records.{after_free, is_unused}
use Rattle.heap_slabs.specs.Slabs.{after_replace, record_at}
use Rattle.heap_slabs.specs.declared.records.HeapSlab.{HeapSlab}
use Rattle.public_list.specs.Ending.{end_course}
use Rattle.public_list.specs.Looking.{found_at}
use Rattle.public_list.specs.declared.ending.EndAt.{EndAt}
use Rattle.public_list.specs.declared.ending.EndNext.{EndNext}
use Rattle.public_list.specs.declared.looking.LookNext.{LookNext}
use Rattle.public_list.specs.declared.posting.PostNext.{PostNext}
use Rattle.mailbox.specs.declared.mailing.MailNext.{MailNext}
use Rattle.backend_bins.specs.Blocks.{fits}
use Rattle.backend_bins.specs.declared.blocks.Want.{Want}
use Rattle.large_cache.specs.declared.sweep.Cleanup.{Cleanup}
use Rattle.step_local.specs.Answers.{end_call, ended_object, gone, got_of, not_held_as, slab_of, usable_of}
use Rattle.step_local.specs.Getting.{decided, getting, getting_as, last_grant, refusal_of, served_as}
use Rattle.step_local.specs.Objects.{block_in, end_as, end_learn_of, freed_in, freed_own, freed_slab, held_as}
use Rattle.step_local.specs.Objects.{looked_as, mail_as, post_as}
use Rattle.step_local.specs.declared.frames.At.{At}
use Rattle.step_local.specs.declared.frames.Call.{Call}
use Rattle.step_local.specs.declared.frames.LargeAt.{LargeAt}
use Rattle.step_local.specs.declared.frames.Local.{Local}
use Rattle.step_local.specs.declared.frames.Object.{Object}
use Rattle.step_local.specs.declared.frames.Served.{Served}
use Rattle.step_local.specs.declared.frames.Stage.{Stage}
use Rattle.step_ranges.proofs.Heaps.{free_fits_of, head_fits, replace_fits}
use Rattle.step_ranges.proofs.Numbers.{above_by, choose, slab_there}
use Rattle.step_ranges.proofs.SlabTurns.{getting_small_fits}
use Rattle.step_ranges.proofs.Slabs.{LookNextFits, MailNextFits, PostNextFits, end_fits_at}
use Rattle.step_ranges.proofs.Turns.{TurnFits, answered_fits, ended_at_fits, ended_fits, ending_fits}
use Rattle.step_ranges.proofs.Turns.{lost_at_fits, other_slabs, with_call, with_heap}
use Rattle.step_ranges.proofs.Wanted.{WantedFits, served_as_fits}
use Rattle.step_ranges.specs.Jobs.{RecordFits}
use Rattle.step_ranges.specs.Locals.{AfterEmpty, EndFits, Frames, IsEnding, IsInLarge, KeptFits, NoneReleased}
use Rattle.step_ranges.specs.Locals.{ObjectFits, ServedFits, TickFits}
use Rattle.step_ranges.specs.Ranges.{ActionFits, IsKey, IsLarge, IsSlab, KindFits, units_end}
use Rattle.step_local.specs.Getting.{get_or}
use Rattle.step_local.specs.Getting.{stays}

-- a get whose number is left is of fewer granules than the pool has
few_by : (spent large : Bool) (one other : NullCause)
    → ◌≡◌ {A = Option NullCause} (cond spent (Some one) (cond large (Some other) None)) None → large ≡ false
few_by true large one other e = absurd (cc)
few_by false true one other e = absurd (cc)
few_by false false one other e = refl

module _ (k : Key) (key : IsKey k) where
  getting_frames : (l : Local) (served : Served) → Frames k l → ServedFits k served → Frames k (getting_as l served)
  getting_frames l served frames is =
      with_call frames (getting_as l served).call
      (record { old = frames.call.old; new = frames.call.new; served = is; stage = tt })

  -- an object is got
  pub getting_fits : (l : Local) (served : Served) → Frames k l → NoneReleased l → ServedFits k served
      → TurnFits k (getting l served)
  getting_fits l (Served.Small class) frames none fits =
      getting_small_fits k key (getting_as l (Served.Small class)) class
      (getting_frames l (Served.Small class) frames fits) none tt fits
  getting_fits l (Served.Large granules alignment) frames none fits = record {
    frames = getting_frames l (Served.Large granules alignment) frames fits;
    at = (none, λ small. small);
  }

  pub wanted_served : (l : Local) (served : Served) → Frames k l → WantedFits (Some served)
      → refusal_of l (Some served) ≡ None → ServedFits k served
  wanted_served l (Served.Small class) frames fits e = fits
  wanted_served l (Served.Large granules alignment) frames fits e = record {
    few = subst (λ (known : Key). granules < known.span) frames.key (above_by l.key.span granules
        (few_by (leb last_grant l.last) (leb l.key.span granules) NullCause.NumbersSpent (NullCause.TooLarge granules)
        e));
    room = fits;
  }

  get_or_fits : (l : Local) (wanted : Option Served) (refusal : Option NullCause) → refusal_of l wanted ≡ refusal
      → Frames k l → NoneReleased l → WantedFits wanted → TurnFits k (get_or l wanted refusal)
  get_or_fits l wanted (Some cause) e frames none fits = answered_fits k l (Answer.Null cause) frames none
  get_or_fits l (Some served) None e frames none fits =
      getting_fits l served frames none (wanted_served l served frames fits e)
  get_or_fits l None None e frames none fits = answered_fits k l (Answer.Null NullCause.BadRequest) frames none

  decided_fits : (l : Local) (size : ℕ) (alignment : Option ℕ) (base : ℕ) → Frames k l → NoneReleased l
      → TurnFits k (decided l size alignment base)
  decided_fits l size alignment base frames none = choose (TurnFits k) (eqb size 0) _ _
      (ending_fits k l Stage.Ending frames none tt tt)
      (choose (TurnFits k) (stays l size alignment base) _ _
      (answered_fits k l (got_of l l.call.old) frames none)
      (get_or_fits l (served_as size alignment) (refusal_of l (served_as size alignment)) refl frames none
      (served_as_fits size alignment)))

  held_as_fits : (l : Local) (base : ℕ) (request : Request) → Frames k l → NoneReleased l
      → TurnFits k (held_as l base request)
  held_as_fits l base (Request.Msize place) frames none =
      answered_fits k l (Answer.Size (usable_of l.call.old.kind l.call.old.unit)) frames none
  held_as_fits l base (Request.Identify place) frames none =
      answered_fits k l (Answer.Pool l.key.pool) frames none
  held_as_fits l base (Request.Realloc place size) frames none = decided_fits l size None base frames none
  held_as_fits l base (Request.AlignedRealloc place size alignment) frames none =
      decided_fits l size (Some alignment) base frames none
  held_as_fits l base (Request.Malloc size) frames none = ending_fits k l Stage.Ending frames none tt tt
  held_as_fits l base (Request.Aligned size alignment) frames none = ending_fits k l Stage.Ending frames none tt tt
  held_as_fits l base (Request.Free place) frames none = ending_fits k l Stage.Ending frames none tt tt
  held_as_fits l base Request.Exit frames none = ending_fits k l Stage.Ending frames none tt tt

  pub looked_fits : (l : Local) (next : LookNext) → Frames k l → NoneReleased l → LookNextFits k next
      → TurnFits k (looked_as l next)
  looked_fits l (LookNext.Goes at) frames none fits = record { frames = frames; at = (none, fits) }
  looked_fits l (LookNext.Held unit mark kind base) frames none fits =
      let old : Object = record l.call.old { unit = unit; mark = mark; kind = kind } in
      let c : Call = record l.call { old = old } in
      held_as_fits (record l { call = c }) base l.call.request
      (with_call frames c (record {
        old = fits;
        new = frames.call.new;
        served = frames.call.served;
        stage = frames.call.stage;
      })) none
  looked_fits l LookNext.Differs frames none fits = answered_fits k l Answer.NoPool frames none
  looked_fits l (LookNext.NotHeld found) frames none fits =
      answered_fits k l (not_held_as l.call.request found) frames none

  -- a grant is ended
  empty_by_ending : (c : Call) (want : Want) (cleanup : Cleanup) (stage : Stage) → IsEnding stage
      → AfterEmpty k c want cleanup stage
  empty_by_ending c want cleanup Stage.Getting ends = absurd ends
  empty_by_ending c want cleanup _ ends = tt

  tick_by_ending : (c : Call) (stage : Stage) → IsEnding stage → IsLarge k c.block.granules c.block.first
      → TickFits k c stage
  tick_by_ending c Stage.Getting ends is = absurd ends
  tick_by_ending c _ ends is = is

  block_in_fits : (kind : Kind) → IsInLarge kind → KindFits k kind
      → IsLarge k (block_in kind).granules (block_in kind).first
  block_in_fits (Kind.Large first granules) large fits = fits
  block_in_fits Kind.Nothing large fits = absurd large
  block_in_fits (Kind.Slab class) large fits = absurd large
  block_in_fits Kind.CachedSlab large fits = absurd large

  freed_slab_fits : (l : Local) (slab : ℕ) (kept : HeapSlab) → Frames k l → NoneReleased l → IsEnding l.call.stage
      → IsSlab k slab → RecordFits k kept → TurnFits k (freed_slab l slab kept)
  freed_slab_fits l slab kept frames none ends is fits =
      let slabs = after_replace l.heap.slabs kept in
      let l' : Local = record l { heap = record l.heap { slabs = slabs } } in
      let frames' = with_heap frames (record l.heap { slabs = slabs })
      (other_slabs frames slabs (replace_fits k l.heap.slabs kept frames.heap.records fits)) in
      choose (TurnFits k) (is_unused kept) _ _
      (record {
        frames = frames';
        at = (none, (is, empty_by_ending l.call l.ask.want l.sweep.cleanup l.call.stage ends));
      })
      (ended_fits k l' frames' none)

  freed_in_fits : (l : Local) (unit slab : ℕ) (one : Option HeapSlab) → Frames k l → NoneReleased l
      → IsEnding l.call.stage → unit < units_end k → IsSlab k slab → KeptFits k one
      → TurnFits k (freed_in l unit slab one)
  freed_in_fits l unit slab None frames none ends below is fits = ended_fits k l frames none
  freed_in_fits l unit slab (Some kept) frames none ends below is fits =
      freed_slab_fits l slab (after_free kept unit) frames none ends is (free_fits_of k kept unit fits below)

  pub ended_object_fits : (l : Local) → Frames k l → ObjectFits k (ended_object l)
  ended_object_fits l frames = ended_at_fits k l.call l.call.stage frames.call.old frames.call.new

  freed_own_fits : (l : Local) → Frames k l → NoneReleased l → IsEnding l.call.stage → TurnFits k (freed_own l)
  freed_own_fits l frames none ends =
      let unit = (ended_object l).unit in
      let below = (ended_object_fits l frames).unit in
      freed_in_fits l unit (slab_of unit) (record_at l.heap.slabs.records (slab_of unit)) frames none ends below
      (slab_there k unit below) (frames.heap.records (slab_of unit))

  -- the block of a large object that was ended is in the call's hand
  freed_block_fits : (l : Local) → Frames k l → NoneReleased l → IsEnding l.call.stage
      → EndFits (ended_object l).kind EndAt.Large
      → TurnFits k (gone (record l { call = record l.call { block = block_in (ended_object l).kind } })
      (At.Large LargeAt.Tick))
  freed_block_fits l frames none ends fits =
      let c : Call = record l.call { block = block_in (ended_object l).kind } in
      let kept : Frames k (record l { call = c }) = with_call frames c frames.call in
      record {
        frames = kept;
        at = (
          none,
          tick_by_ending c l.call.stage ends
              (block_in_fits (ended_object l).kind fits (ended_object_fits l frames).kind),
        );
      }

  pub end_on : (l : Local) (at : EndAt) (found : ℕ) → Frames k l → NoneReleased l → IsEnding l.call.stage
      → EndFits (ended_object l).kind at → TurnFits k (end_learn_of l at found)
  end_on l EndAt.Own found frames none ends fits =
      choose (λ next. TurnFits k (end_as l next)) (eqb found (end_call l).mark) _ _
      (freed_own_fits l frames none ends) (record { frames = frames; at = (none, ends, tt) })
  end_on l EndAt.Other found frames none ends fits =
      choose (λ next. TurnFits k (end_as l next)) (eqb found (end_call l).mark) _ _
      (record { frames = frames; at = (none, tt) }) (record { frames = frames; at = (none, ends, tt) })
  end_on l EndAt.Large found frames none ends fits =
      choose (λ next. TurnFits k (end_as l next)) (eqb found (end_call l).mark)
      EndNext.Large (EndNext.Goes (EndAt.Lost found))
      (freed_block_fits l frames none ends fits) (record { frames = frames; at = (none, ends, tt) })
  end_on l (EndAt.Lost m) found frames none ends fits =
      lost_at_fits k l (found_at found (end_call l).number m) l.call.stage frames none

  pub end_course_fits : (l : Local) (at : EndAt) → Frames k l → ActionFits k (end_course (end_call l) at)
  end_course_fits l at frames =
      end_fits_at k key (end_call l) at frames.seat (ended_object_fits l frames).unit
      (head_fits k (record_at l.heap.slabs.records (slab_of (ended_object l).unit))
      (frames.heap.records (slab_of (ended_object l).unit)))

  -- posts and mail
  pub post_as_fits : (l : Local) (next : PostNext) → Frames k l → NoneReleased l → PostNextFits k next
      → TurnFits k (post_as l next)
  post_as_fits l (PostNext.Goes at) frames none fits = record { frames = frames; at = (none, fits) }
  post_as_fits l PostNext.Listed frames none fits = ended_fits k l frames none
  post_as_fits l PostNext.Owed frames none fits = record { frames = frames; at = (none, tt) }

  pub mail_as_fits : (l : Local) (next : MailNext) → Frames k l → NoneReleased l → MailNextFits k next
      → TurnFits k (mail_as l next)
  mail_as_fits l (MailNext.Goes at) frames none fits = record { frames = frames; at = (none, fits) }
  mail_as_fits l MailNext.Mailed frames none fits = ended_fits k l frames none
