-- Every turn keeps where slabs lie, and so does a call that begins.
use Rattle.std.proofs.Common.{◌≡◌, ℕ, ◌+◌, ◌<◌, ◌≤◌, ◌^◌, Bool, true, false, cond, Option, Some, None, refl, sym}
use Rattle.std.proofs.Common.{subst, arith}
use Rattle.std.specs.Int.{is_power_of_two}
use Rattle.std.specs.Prelude.{Result, Ok, Err}
use Rattle.pool_types.specs.declared.values.InCall.{InCall}
use Rattle.pool_types.specs.declared.values.Request.{Request}
use Rattle.pool_types.specs.declared.values.Place.{Place}
use Rattle.pool_types.specs.declared.values.Answer.{Answer}
use Rattle.pool_types.specs.declared.values.NullCause.{NullCause}
use Rattle.pool_words.specs.declared.actions.Seen.{Seen}
use Rattle.heap_slabs.specs.Heaps.{next_to_leave}
use Rattle.heap_slabs.specs.Slabs.{record_at}
use Rattle.heap_slabs.specs.declared.heap.Leaving.{Leaving}
use Rattle.heap_slabs.specs.declared.records.HeapSlab.{HeapSlab}
use Rattle.region_steps.specs.Office.{office_taken}
use Rattle.region_steps.specs.declared.office.OfficeAt.{OfficeAt}
use Rattle.slab_laws.specs.Books.{IsThere}
use Rattle.guard_laws.specs.Blocks as guards
use Rattle.step_local.specs.declared.frames.At.{At}
use Rattle.step_local.specs.declared.frames.LargeAt.{LargeAt}
use Rattle.step_local.specs.declared.frames.Local.{Local}
use Rattle.step_local.specs.declared.frames.Served.{Served}
use Rattle.step_local.specs.declared.frames.SmallAt.{SmallAt}
use Rattle.step_local.specs.declared.frames.OfficeFor.{OfficeFor}
use Rattle.step_local.specs.declared.frames.Stage.{Stage}
use Rattle.step_local.specs.Backend.{office_as}
use Rattle.step_local.specs.Course.{course_at}
use Rattle.step_local.specs.Getting.{asked_for, begun, begun_aligned, begun_as, begun_at, begun_get_as, begun_leave_as}
use Rattle.step_local.specs.Getting.{begun_look, begun_realloc, is_idle, is_looked_at, refusal_of, served_as}
use Rattle.step_local.specs.Learn.{learn_at}
use Rattle.step_runs.specs.Places.{has_word}
use Rattle.step_runs.proofs.CallerLemmas.{else_at}
use Rattle.heap_tasks.proofs.CallerLemmas.{begins_leave_heaps, turns_change_heaps}
use Rattle.hand_blocks.specs.Hands.{hands_at, large_hands, small_hands}
use Rattle.seat_ties.specs.Ties.{AreInHand}
use Rattle.seat_ties.specs.Turns.{next_in, seen_in}
use Rattle.seat_starts.proofs.CallerLemmas.{kept_by}
use Rattle.slab_moves.specs.Says.{IsEven, PlaceSays}
use Rattle.slab_places.specs.Laws.{BeginsKeepSlabs, FreshSlabsLie, SilenceKeepsSlabs, TurnsKeepSlabs}
use Rattle.slab_places.proofs.Cached.{AreEven, left_even}
use Rattle.slab_places.proofs.Placed.{IsLow}
use Rattle.slab_places.proofs.PlacedLarge.{placed-getting}
use Rattle.slab_places.proofs.Turns.{placed_at}

pub fresh_slabs_lie : FreshSlabsLie
fresh_slabs_lie k seat = record { cached = λ x some. absurd (omega arith); place = tt }

-- a block in hand lies low, as all blocks do
module _ (place : ℕ → guards.Place) (span seat : ℕ) (short : span < 2 ^ 32)
    (within : (x n : ℕ) (u : guards.Use) → place x ≡ guards.Place.Block x n u → x + n ≤ span) where
  small_low : (l : Local) (at : SmallAt) → AreInHand place seat (small_hands at) → IsLow l.call.block (At.Small at)
  small_low l (SmallAt.Next slab) lie = let low = within slab 2 _ lie.0 in omega arith
  small_low l _ lie = tt

  large_low : (l : Local) (at : LargeAt) → AreInHand place seat (large_hands l at) → IsLow l.call.block (At.Large at)
  large_low l (LargeAt.Kind unit) lie =
      let low = within l.call.block.first l.call.block.granules _ lie.0 in omega arith
  large_low l _ lie = tt

  low_at : (l : Local) (at : At) → AreInHand place seat (hands_at l at) → IsLow l.call.block at
  low_at l (At.Small at) lie = small_low l at lie
  low_at l (At.Large at) lie = large_low l at lie
  low_at l _ lie = tt

pub turns_keep_slabs : TurnsKeepSlabs
turns_keep_slabs k w later l good tied quiet calm word good' here says = record {
  cached = subst (λ r. AreEven r.items)
      (sym (turns_change_heaps l (seen_in w l)).1) (left_even l l.at says.cached says.place);
  place = placed_at k l says.cached kept quiet tied.says.fits.frames.call l.at (seen_in w l) word calm
      tied.says.fits.place says.place
      (low_at later.pool.blocks.place k.span l.seat good'.regions.pool.guards.small
      good'.regions.pool.guards.parts.within (next_in w l) (next_in w l).at here.hands.lie);
}
  where
    kept : (slab : ℕ) (one : HeapSlab) → record_at l.heap.slabs.records slab ≡ Some one → IsEven slab
    kept slab one is =
        let by = kept_by k w l.seat slab one good
        (subst (λ s. record_at s.records slab ≡ Some one) (sym tied.heap.kept) is) in
        good.post.orphans.even slab (subst IsThere (sym by) tt)

-- a call that begins
abbrev IsWellPlaced : Local → Type 0
IsWellPlaced l = IsLow l.call.block l.at → PlaceSays l.call.block l.at

either_local : (b : Bool) (one other : Local) → IsWellPlaced one → IsWellPlaced other → IsWellPlaced (cond b one other)
either_local true one other a b = a
either_local false one other a b = b

get_begins : (l : Local) (wanted : Option Served) (cause : Option NullCause)
    → IsWellPlaced (begun_get_as l wanted cause)
get_begins l wanted (Some cause) = λ low. tt
get_begins l (Some served) None = placed-getting l served
get_begins l None None = λ low. tt

look_begins : (l : Local) (request : Request) (place : Place) → IsWellPlaced (begun_look l request place)
look_begins l request place = either_local (is_looked_at l place) _ _ (λ low. tt) (λ low. tt)

realloc_begins : (l : Local) (request : Request) (place : Option Place) (wanted : Option Served)
    → IsWellPlaced (begun_realloc l request place wanted)
realloc_begins l request (Some place) wanted = look_begins l request place
realloc_begins l request None wanted = get_begins l wanted (refusal_of l wanted)

aligned_begins : (l : Local) (request : Request) (place : Option Place) (size alignment : ℕ)
    → IsWellPlaced (begun_aligned l request place size alignment)
aligned_begins l request place size alignment = either_local (is_power_of_two alignment) _ _
    (realloc_begins l request place (served_as size (Some alignment))) (λ low. tt)

question_begins : (l : Local) (request : Request) (place : Option Place) (of_null : Answer)
    → IsWellPlaced (begun_at l request place of_null)
question_begins l request (Some place) of_null = look_begins l request place
question_begins l request None of_null = λ low. tt

leave_begins : (l : Local) (what : Leaving) → IsWellPlaced (begun_leave_as l what)
leave_begins l Leaving.Nothing = λ low. tt
leave_begins l (Leaving.Cached slab) = λ low. tt
leave_begins l (Leaving.Unused kept) = λ low. tt
leave_begins l (Leaving.Held kept) = λ low. tt

call_begins : (l : Local) (request : Request) → IsWellPlaced (begun_as l request)
call_begins l (Request.Malloc size) = get_begins l (served_as size None) (refusal_of l (served_as size None))
call_begins l (Request.Aligned size alignment) =
    get_begins l (served_as size (Some alignment)) (refusal_of l (served_as size (Some alignment)))
call_begins l (Request.Realloc place size) =
    realloc_begins l (Request.Realloc place size) place (served_as size None)
call_begins l (Request.AlignedRealloc place size alignment) =
    aligned_begins l (Request.AlignedRealloc place size alignment) place size alignment
call_begins l (Request.Free place) = question_begins l (Request.Free place) place Answer.False
call_begins l (Request.Msize place) = question_begins l (Request.Msize place) place (Answer.Size 0)
call_begins l (Request.Identify place) = question_begins l (Request.Identify place) place Answer.NoPool
call_begins l Request.Exit =
    leave_begins (record l { call = record l.call { stage = Stage.Leaving } }) (next_to_leave l.heap)

begun_placed : (l : Local) (request : Request) (b : Bool) → PlaceSays l.call.block l.at
    → IsWellPlaced (cond {A = Local × Result Unit InCall} b
    (begun_as (asked_for l request) request, Ok tt) (l, Err (record { seat = l.seat }))).0
begun_placed l request true says = call_begins (asked_for l request) request
begun_placed l request false says = λ low. says

pub begins_keep_slabs : BeginsKeepSlabs
begins_keep_slabs k w l request good here says = record {
  cached = subst (λ r. AreEven r.items) (sym ((begins_leave_heaps l).begins request).1) says.cached;
  place = begun_placed l request (is_idle l.at) says.place
      (low_at w.pool.blocks.place k.span l.seat good.regions.pool.guards.small good.regions.pool.guards.parts.within
      (begun l request).0 (begun l request).0.at here.hands.lie);
}

-- a turn without a step on a word
module _ (l : Local) (s : Seen) where
  told : (job : OfficeFor) (at : OfficeAt) → has_word (course_at l (At.Office job at)) ≡ false
      → PlaceSays (learn_at l (At.Office job at) s).0.call.block (learn_at l (At.Office job at) s).0.at
  told job (OfficeAt.Take given) none = taken_by job given s
    where
      taken_by : (job : OfficeFor) (given : Option ℕ) (seen : Seen)
          → PlaceSays (office_as l job (OfficeAt.Take given) (office_taken given seen)).0.call.block
          (office_as l job (OfficeAt.Take given) (office_taken given seen)).0.at
      taken_by job given (Seen.Word value) = tt
      taken_by job given Seen.Done = tt
      taken_by job given Seen.OfficeOut = tt
      taken_by job given (Seen.Obtained one) = tt
      taken_by job given (Seen.Refused error) = tt
      taken_by job given Seen.Given = tt
  told job (OfficeAt.Back end) none = tt
  told job _ none = absurd (cc)

  silent : (at : At) → has_word (course_at l at) ≡ false → PlaceSays l.call.block l.at
      → PlaceSays (learn_at l at s).0.call.block (learn_at l at s).0.at
  silent At.Idle none says = says
  silent (At.Ready answer) none says = tt
  silent (At.Office job at) none says = told job at none
  silent at none says = absurd (let word = (else_at l at refl).1 in cc)

pub silence_keeps_slabs : SilenceKeepsSlabs
silence_keeps_slabs l s none says = record {
  cached = subst (λ r. AreEven r.items) (sym (turns_change_heaps l s).1) (left_even l l.at says.cached says.place);
  place = silent l s l.at none says.place;
}
