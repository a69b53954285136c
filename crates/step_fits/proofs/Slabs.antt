-- What a local says where slabs begin and end, and where an object is granted.
use Rattle.std.proofs.Common.{◌≡◌, ℕ, ◌+◌, ◌-◌, ◌<◌, ◌≤◌, Bool, true, false, cond, eqb, ltb, Option, Some, None, length}
use Rattle.std.proofs.Common.{refl, sym, subst, arith}
use Rattle.std.proofs.lemmas.Bool.Decides.{nat_tests}
use Rattle.pool_types.specs.Geometry.{class_count}
use Rattle.pool_types.specs.Sums.{capped}
use Rattle.pool_types.specs.declared.values.Answer.{Answer}
use Rattle.pool_types.specs.declared.values.Found.{Found}
use Rattle.pool_types.specs.declared.values.Request.{Request}
use Rattle.pool_words.specs.declared.words.Key.{Key}
use Rattle.heap_slabs.specs.Cached.{high_mark, low_mark, surplus_of}
use Rattle.heap_slabs.specs.Records.{begun}
use Rattle.heap_slabs.specs.Rolls.{Rolled, after_push, oldest_of, without_newest, without_oldest}
use Rattle.heap_slabs.specs.Slabs.{record_at, after_add, after_remove, after_take_of}
use Rattle.public_list.specs.declared.ending.EndAt.{EndAt}
use Rattle.size_classes.specs.Classes.{class_objects}
use Rattle.size_classes.proofs.CallerLemmas.{class_objects-least}
use Rattle.step_local.specs.declared.frames.Local.{Local}
use Rattle.step_local.specs.declared.frames.Object.{Object}
use Rattle.step_local.specs.declared.frames.ResetStage.{ResetStage}
use Rattle.step_local.specs.declared.frames.Served.{Served}
use Rattle.step_local.specs.declared.frames.SmallAt.{SmallAt}
use Rattle.step_local.specs.declared.frames.Stage.{Stage}
use Rattle.step_local.specs.Answers.{end_by, ended_object, ending, got, got_after, got_of, lost_at, lost_end}
use Rattle.step_local.specs.Answers.{object_got, replaces}
use Rattle.step_local.specs.Leaving.{slab_block, with_slabs}
use Rattle.step_local.specs.Slabs.{class_of_served, emptied_at, newest_given, slab_begun, slab_cached}
use Rattle.step_local.specs.Slabs.{slab_emptied, small_learn, surplus_left, surplus_next, with_taken}
use Rattle.step_fits.specs.Frames.{CallFits, Frames, Gets, HasRoom}
use Rattle.step_fits.specs.Frames.{ServedFits, oldest_rooms, plain_rooms, rooms_small}
use Rattle.step_fits.specs.Large.{PlaceFits}
use Rattle.step_fits.specs.Mail.{EndsBy}
use Rattle.step_fits.specs.Positions.{BeginsNewIn, IsNewSlab}
use Rattle.step_fits.specs.Small.{CleansHard, EndsSlab, GetsSmall, Gives, GivesUp, IsEnding, IsSmall}
use Rattle.step_fits.specs.Small.{SmallFits}
use Rattle.step_fits.proofs.Framed.{Fits, either, fits-answered, fits-ended, other_cached, other_call, other_rooms}
use Rattle.step_fits.proofs.Framed.{other_slabs}
use Rattle.step_fits.proofs.Heaps.{add-fits, added, remove-fits, removed-here, take-fits}
use Rattle.step_fits.proofs.Resets.{fits-binning}
use Rattle.step_fits.proofs.Rolls.{newest-length, newest-room, oldest-length, oldest-none, oldest-room, push-length}
use Rattle.step_fits.proofs.Rolls.{push-room}

pub ends_by : (l : Local) (at : EndAt) → at ≡ end_by l (ended_object l).unit (ended_object l).kind → EndsBy l at
ends_by l (EndAt.Lost mark) is = tt
ends_by l EndAt.Own is = is
ends_by l EndAt.Other is = is
ends_by l EndAt.Large is = is

-- as many slabs go as are too many
pub record Leaves (surplus count : ℕ) : Type 0 where
  pub few : surplus ≡ 0 → count ≤ high_mark
  pub low : 0 < surplus → surplus + low_mark ≤ count

pub leaves_low : (surplus count : ℕ) → count ≤ high_mark → surplus + low_mark ≤ count → Leaves surplus count
leaves_low surplus count few low = record { few = λ _. few; low = λ _. low }

leaves_pushed : (cached : Rolled ℕ) (slab : ℕ) → HasRoom (high_mark + 1) cached → length cached.items ≤ high_mark
    → Leaves (surplus_of (after_push cached slab)) (length (after_push cached slab).items)
leaves_pushed cached slab has few =
    let count : length (after_push cached slab).items ≡ length cached.items + 1 =
    push-length cached slab (let room = has.room' in omega arith) in
    by (length (after_push cached slab).items) (omega arith)
  where
    by : (n : ℕ) → n ≤ high_mark + 1 → Leaves (cond (ltb high_mark n) (n - low_mark) 0) n
    by n most = over (ltb high_mark n) refl
      where
        over : (b : Bool) → ltb high_mark n ≡ b → Leaves (cond b (n - low_mark) 0) n
        over true more = let past : high_mark < n = grind (arith, nat_tests) in record {
          few = λ (none : n - low_mark ≡ 0). absurd (omega arith);
          low = λ _. omega arith;
        }
        over false less = let within : n ≤ high_mark = grind (arith, nat_tests) in record {
          few = λ _. within;
          low = λ (some : 0 < 0). absurd (omega arith);
        }

-- a class that is served is one of the pool
pub gets_of : {k : Key} {request : Request} {old : Object} {served : Served} (stage : Stage)
    → CallFits k request old served stage → stage ≡ Stage.Getting → Gets k request old served
gets_of {k} {request} {old} {served} stage fits is = subst (CallFits k request old served) is fits

served_low : (k : Key) (served : Served) → IsSmall served → ServedFits k served → class_of_served served < class_count
served_low k (Served.Small class) small fits = fits
served_low k (Served.Large granules alignment) small fits = absurd small

place_small : (sure : Bool) (l : Local) (served : Served) → IsSmall served → Gives sure l l.call.slab
    → PlaceFits sure l served
place_small sure l (Served.Small class) small gives = gives
place_small sure l (Served.Large granules alignment) small gives = absurd small

first_object : (class : ℕ) → class < class_count → ltb 0 (class_objects class) ≡ true
first_object class low = let least = class_objects-least class low in grind (arith, nat_tests)

module _ (sure : Bool) {k : Key} {seat : ℕ} where
  -- a grant is to be ended
  pub fits-ending : (l : Local) (stage : Stage) → Frames k seat plain_rooms l → IsEnding stage
      → CallFits k l.call.request l.call.old l.call.served stage → Fits k seat sure (ending l stage)
  fits-ending l stage frames is call =
      let next : Local = record l { call = record l.call { stage = stage } } in (
        other_call frames l.call.request l.call.old l.call.served stage call,
        (is, ends_by next (end_by next (ended_object next).unit (ended_object next).kind) refl),
      )

  fits-lost_at : (l : Local) (found : Found) (stage : Stage) → Frames k seat plain_rooms l → l.call.stage ≡ stage
      → Fits k seat sure (lost_at l found stage)
  fits-lost_at l found Stage.Replacing frames is =
      fits-ending (record l { call = record l.call { lost = found } }) Stage.Undoing frames tt
      (subst (CallFits k l.call.request l.call.old l.call.served) is frames.call)
  fits-lost_at l found Stage.Undoing frames is = fits-answered sure l (Answer.NotHeld l.call.lost) frames
  fits-lost_at l found Stage.Ending frames is = fits-answered sure l (Answer.NotHeld found) frames
  fits-lost_at l found Stage.Idle frames is = fits-answered sure l (Answer.NotHeld found) frames
  fits-lost_at l found Stage.Looking frames is = fits-answered sure l (Answer.NotHeld found) frames
  fits-lost_at l found Stage.Getting frames is = fits-answered sure l (Answer.NotHeld found) frames
  fits-lost_at l found Stage.Leaving frames is = fits-answered sure l (Answer.NotHeld found) frames
  fits-lost_at l found (Stage.Resetting stage) frames is = fits-answered sure l (Answer.NotHeld found) frames

  pub fits-lost_end : (l : Local) (found : Found) → Frames k seat plain_rooms l → Fits k seat sure (lost_end l found)
  fits-lost_end l found frames = fits-lost_at l found l.call.stage frames refl

  -- an object is granted
  fits-got_after : (l : Local) (object : Object) → Frames k seat plain_rooms l → l.call.stage ≡ Stage.Getting
      → Fits k seat sure (got_after l object)
  fits-got_after l object frames is = either sure (replaces l.call.request) _ _
      (λ (is_realloc : replaces l.call.request ≡ true).
      fits-ending (record l { call = record l.call { new = object } }) Stage.Replacing frames tt
      (gets_of l.call.stage frames.call is, is_realloc))
      (λ _. fits-answered sure l (got_of l object) frames)

  pub fits-got : (l : Local) (unit : ℕ) → Frames k seat plain_rooms l → l.call.stage ≡ Stage.Getting
      → Fits k seat sure (got l unit)
  fits-got l unit frames is =
      fits-got_after (record l { last = capped (l.last + 1) }) (object_got l unit) frames is

  -- the oldest cached slabs go
  fits-surplus_next : (l : Local) (one : Option ℕ) → Frames k seat oldest_rooms l → IsEnding l.call.stage
      → Leaves l.call.surplus (length l.heap.cached.items) → 0 < l.call.surplus → oldest_of l.heap.cached ≡ one
      → Fits k seat sure (surplus_next l one)
  fits-surplus_next l (Some slab) frames ends leaves some is = (frames, (ends, is, some, leaves.low some))
  fits-surplus_next l None frames ends leaves some is =
      let none = oldest-none l.heap.cached is in
      let low = leaves.low some in
      absurd (omega arith)

  pub fits-surplus_left : (l : Local) → Frames k seat oldest_rooms l → IsEnding l.call.stage
      → Leaves l.call.surplus (length l.heap.cached.items) → Fits k seat sure (surplus_left l)
  fits-surplus_left l frames ends leaves = either sure (eqb l.call.surplus 0) _ _
      (λ (none : eqb l.call.surplus 0 ≡ true).
      fits-ended sure l (other_rooms frames plain_rooms (leaves.few (grind (arith, nat_tests))) frames.none))
      (λ (some : eqb l.call.surplus 0 ≡ false).
      fits-surplus_next l (oldest_of l.heap.cached) frames ends leaves (grind (arith, nat_tests)) refl)

  fits-slab_cached : (l : Local) (slab : ℕ) → Frames k seat plain_rooms l → IsEnding l.call.stage
      → Fits k seat sure (slab_cached l slab)
  fits-slab_cached l slab frames ends =
      let pushed = push-length l.heap.cached slab
      (let room = frames.cached.room' in let few = frames.few in omega arith) in
      let few = frames.few in
      fits-surplus_left (record l {
        heap = record l.heap { cached = after_push l.heap.cached slab };
        call = record l.call { surplus = surplus_of (after_push l.heap.cached slab) };
      })
      (other_cached frames (high_mark + 1) (after_push l.heap.cached slab)
      (push-room (high_mark + 1) l.heap.cached slab frames.cached) (omega arith)) ends
      (leaves_pushed l.heap.cached slab frames.cached frames.few)

  -- a slab ends
  fits-emptied_at : (l next : Local) (slab : ℕ) (stage : Stage) → Frames k seat plain_rooms next
      → next.call.stage ≡ stage → (CleansHard l → CleansHard next) → EndsSlab l slab stage
      → record_at next.heap.slabs.records slab ≡ None
      → Fits k seat sure (emptied_at next slab stage)
  fits-emptied_at l next slab Stage.Getting frames is hard ends gone = (frames, hard ends.0)
  fits-emptied_at l next slab Stage.Leaving frames is hard ends gone = (frames, is)
  fits-emptied_at l next slab Stage.Ending frames is hard ends gone = (frames, (subst IsEnding (sym is) tt, gone))
  fits-emptied_at l next slab Stage.Replacing frames is hard ends gone = (frames, (subst IsEnding (sym is) tt, gone))
  fits-emptied_at l next slab Stage.Undoing frames is hard ends gone = (frames, (subst IsEnding (sym is) tt, gone))
  fits-emptied_at l next slab (Stage.Resetting (ResetStage.Heap class)) frames is hard ends gone =
      fits-binning sure next (ResetStage.Heap class) (slab_block slab) frames refl
  fits-emptied_at l next slab (Stage.Resetting (ResetStage.Orphans rest)) frames is hard ends gone =
      fits-binning sure next (ResetStage.Orphans rest) (slab_block slab) frames refl
  fits-emptied_at l next slab _ frames is hard ends gone = absurd ends

  fits-slab_emptied : (l : Local) (slab : ℕ) → Frames k seat plain_rooms l → EndsSlab l slab l.call.stage
      → Fits k seat sure (slab_emptied l slab)
  fits-slab_emptied l slab frames ends =
      let slabs = after_remove l.heap.slabs slab in
      fits-emptied_at l (with_slabs l slabs) slab l.call.stage
      (other_slabs frames slabs (remove-fits k l.heap.slabs slab frames.slabs)) refl
      (λ (hard : CleansHard l). hard) ends (removed-here k l.heap.slabs slab)

  fits-newest_given : (l : Local) (slab : ℕ) (stage : Stage) → Frames k seat plain_rooms l → l.call.stage ≡ stage
      → GivesUp l stage → Fits k seat sure (newest_given l slab stage)
  fits-newest_given l slab Stage.Leaving frames is gives = (frames, is)
  fits-newest_given l slab Stage.Getting frames is gives = (frames, gives)
  fits-newest_given l slab (Stage.Resetting (ResetStage.Heap class)) frames is gives =
      fits-binning sure l (ResetStage.Heap class) (slab_block slab) frames refl
  fits-newest_given l slab _ frames is gives = absurd gives

  -- a slab begins
  fits-slab_begun : (l : Local) (slab : ℕ) → Frames k seat plain_rooms l → GetsSmall l
      → (sure ≡ true → IsNewSlab k l.heap.slabs slab) → Fits k seat sure (slab_begun l slab)
  fits-slab_begun l slab frames gets new =
      let low : class_of_served l.call.served < class_count =
      served_low k l.call.served gets.1 (gets_of l.call.stage frames.call gets.0).fits in
      let slabs = after_add l.heap.slabs (begun slab (class_of_served l.call.served)) in
      let next : Local =
      record l { heap = record l.heap { slabs = slabs }; call = record l.call { slab = slab } } in (
        other_slabs frames slabs (add-fits k l.heap.slabs (begun slab (class_of_served l.call.served)) frames.slabs),
        (
          gets.0,
          omega arith,
          place_small sure next l.call.served gets.1 (λ (known : sure ≡ true).
              let there = new known in
              let now = added k l.heap.slabs (begun slab (class_of_served l.call.served)) frames.slabs there.strange low
              there.inside in (
                begun slab (class_of_served l.call.served),
                record {
                  there = now.here;
                  class' = refl;
                  object = first_object (class_of_served l.call.served) low;
                },
              )),
        ),
      )

  taken_frames : (l : Local) (slab : ℕ) (below : Option ℕ) → Frames k seat plain_rooms l
      → Frames k seat plain_rooms (with_taken l slab below)
  taken_frames l slab below frames = other_slabs frames (after_take_of l.heap.slabs slab below)
      (take-fits k l.heap.slabs slab below frames.slabs)

  newest_frames : (l : Local) → Frames k seat plain_rooms l
      → Frames k seat plain_rooms (record l { heap = record l.heap { cached = without_newest l.heap.cached } })
  newest_frames l frames = other_cached frames high_mark (without_newest l.heap.cached)
      (newest-room (high_mark + 1) l.heap.cached frames.cached)
      (let fewer = newest-length l.heap.cached in let few = frames.few in omega arith)

  pub fits-small_learn : (l : Local) (at : SmallAt) (f : ℕ) → Frames k seat (rooms_small at) l → SmallFits sure l at
      → (sure ≡ true → BeginsNewIn k l at) → Fits k seat sure (small_learn l at f)
  fits-small_learn l (SmallAt.Uncache slab) f frames is new = (newest_frames l frames, is.0)
  fits-small_learn l (SmallAt.Next slab) f frames is new = (frames, is)
  fits-small_learn l (SmallAt.Public slab) f frames is new = (frames, is)
  fits-small_learn l (SmallAt.Own slab) f frames is new = (frames, is)
  fits-small_learn l (SmallAt.Kind slab) f frames is new = fits-slab_begun l slab frames is new
  fits-small_learn l (SmallAt.Behind slab head) f frames is new = (frames, is)
  fits-small_learn l (SmallAt.Private slab head below) f frames is new =
      fits-got (with_taken l slab below) head (taken_frames l slab below frames) is.0.0.0
  fits-small_learn l (SmallAt.Rest slab unit) f frames is new =
      fits-got (with_taken l slab None) unit (taken_frames l slab None frames) is.0.0.0
  fits-small_learn l (SmallAt.Empty slab) f frames is new = fits-slab_emptied l slab frames is
  fits-small_learn l (SmallAt.Cache slab) f frames is new = fits-slab_cached l slab frames is.0
  fits-small_learn l (SmallAt.Oldest slab) f frames is new =
      let fewer = oldest-length l.heap.cached in
      let few = frames.few in
      let low = is.3 in
      let some = is.2 in (
        other_cached frames high_mark (without_oldest l.heap.cached)
            (oldest-room (high_mark + 1) l.heap.cached frames.cached) (omega arith),
        (is.0, omega arith),
      )
  fits-small_learn l (SmallAt.Newest slab) f frames is new =
      fits-newest_given (record l { heap = record l.heap { cached = without_newest l.heap.cached } }) slab
      l.call.stage (newest_frames l frames) refl is.1
