-- A call or a reset begins in its range.
use Rattle.std.proofs.Common.{None, Option, Some, arith, refl, true, ◌≡◌}
use Rattle.std.specs.Prelude.{Result}
use Rattle.pool_types.specs.declared.values.Answer.{Answer}
use Rattle.pool_types.specs.declared.values.Found.{Found}
use Rattle.pool_types.specs.declared.values.InCall.{InCall}
use Rattle.pool_types.specs.declared.values.NullCause.{NullCause}
use Rattle.pool_types.specs.declared.values.Place.{Place}
use Rattle.pool_types.specs.declared.values.Request.{Request}
use Rattle.pool_words.specs.declared.words.Key.{Key}
use Rattle.heap_slabs.specs.Heaps.{next_to_leave}
use Rattle.heap_slabs.specs.declared.heap.Leaving.{Leaving}
use Rattle.backend_bins.specs.Blocks.{fits}
use Rattle.step_local.specs.Answers.{not_held_as}
use Rattle.step_local.specs.Getting.{asked_for, begun_as, begun_at, begun_get, begun_get_as, begun_leave}
use Rattle.step_local.specs.Getting.{begun_leave_as, begun_look, begun_realloc, heap_begun, is_idle}
use Rattle.step_local.specs.Getting.{is_looked_at, looking_at, ready, refusal_of, reset_begun, reset_begun_as}
use Rattle.step_local.specs.Getting.{served_as}
use Rattle.step_local.specs.Resetting.{resetting}
use Rattle.step_local.specs.declared.frames.At.{At}
use Rattle.step_local.specs.declared.frames.Call.{Call}
use Rattle.step_local.specs.declared.frames.Local.{Local}
use Rattle.step_local.specs.declared.frames.Reset.{Reset}
use Rattle.step_local.specs.declared.frames.ResetStage.{ResetStage}
use Rattle.step_local.specs.declared.frames.Served.{Served}
use Rattle.step_local.specs.declared.frames.Stage.{Stage}
use Rattle.step_ranges.proofs.Numbers.{choose, choose_by, end_some}
use Rattle.step_ranges.proofs.ObjectTurns.{getting_fits, wanted_served}
use Rattle.step_ranges.proofs.ResetTurns.{heap_on_fits}
use Rattle.step_ranges.proofs.Turns.{LeavingFits, at_stage, leaving_as_fits, next_to_leave_fits, with_call}
use Rattle.step_ranges.proofs.Turns.{with_fetch}
use Rattle.step_ranges.proofs.Wanted.{WantedFits, served_as_fits}
use Rattle.step_ranges.specs.Locals.{AtFits, Frames, IsLeaving, IsReset, LocalFits, NoneReleased}
use Rattle.step_ranges.specs.Ranges.{IsKey}
use Rattle.step_local.specs.Getting.{begun}
use Rattle.std.specs.Int.{is_power_of_two}

module _ (k : Key) (key : IsKey k) where
  ready_fits : (l : Local) (answer : Answer) → Frames k l → NoneReleased l → LocalFits k (ready l answer)
  ready_fits l answer frames none = record { frames = frames; at = none }

  begun_get_as_fits : (l : Local) (wanted : Option Served) (refusal : Option NullCause)
      → refusal_of l wanted ≡ refusal → Frames k l → NoneReleased l → WantedFits wanted
      → LocalFits k (begun_get_as l wanted refusal)
  begun_get_as_fits l wanted (Some cause) e frames none fits = ready_fits l (Answer.Null cause) frames none
  begun_get_as_fits l (Some served) None e frames none fits =
      getting_fits k key l served frames none (wanted_served k key l served frames fits e)
  begun_get_as_fits l None None e frames none fits = ready_fits l (Answer.Null NullCause.BadRequest) frames none

  begun_get_fits : (l : Local) (wanted : Option Served) → Frames k l → NoneReleased l → WantedFits wanted
      → LocalFits k (begun_get l wanted)
  begun_get_fits l wanted frames none fits = begun_get_as_fits l wanted (refusal_of l wanted) refl frames none fits

  looking_at_fits : (l : Local) (place : Place) → Frames k l → NoneReleased l → LocalFits k (looking_at l place)
  looking_at_fits l place frames none = record {
    frames = with_call frames (looking_at l place).call (record {
      old = record { unit = let some = end_some k key in omega arith; kind = tt };
      new = frames.call.new;
      served = frames.call.served;
      stage = tt;
    });
    at = (none, tt);
  }

  begun_look_fits : (l : Local) (request : Request) (place : Place) → Frames k l → NoneReleased l
      → LocalFits k (begun_look l request place)
  begun_look_fits l request place frames none = choose (LocalFits k) (is_looked_at l place) _ _
      (looking_at_fits l place frames none) (ready_fits l (not_held_as request Found.NoPlace) frames none)

  leave_as_fits : (l : Local) (what : Leaving) → Frames k l → NoneReleased l → IsLeaving l.call.stage
      → LeavingFits k what → LocalFits k (begun_leave_as l what)
  leave_as_fits l Leaving.Nothing frames none leaves is = ready_fits l Answer.Exited frames none
  leave_as_fits l (Leaving.Cached slab) frames none leaves is =
      leaving_as_fits k l (Leaving.Cached slab) frames none leaves is
  leave_as_fits l (Leaving.Unused kept) frames none leaves is =
      leaving_as_fits k l (Leaving.Unused kept) frames none leaves is
  leave_as_fits l (Leaving.Held kept) frames none leaves is =
      leaving_as_fits k l (Leaving.Held kept) frames none leaves is

  begun_leave_fits : (l : Local) → Frames k l → NoneReleased l → LocalFits k (begun_leave l)
  begun_leave_fits l frames none =
      let c : Call = record l.call { stage = Stage.Leaving } in
      leave_as_fits (record l { call = c }) (next_to_leave l.heap)
      (with_call frames c (at_stage frames Stage.Leaving tt)) none tt (next_to_leave_fits k l.heap frames.heap)

  begun_realloc_fits : (l : Local) (request : Request) (place : Option Place) (wanted : Option Served) → Frames k l
      → NoneReleased l → WantedFits wanted → LocalFits k (begun_realloc l request place wanted)
  begun_realloc_fits l request (Some place) wanted frames none fits = begun_look_fits l request place frames none
  begun_realloc_fits l request None wanted frames none fits = begun_get_fits l wanted frames none fits

  begun_at_fits : (l : Local) (request : Request) (place : Option Place) (answer : Answer) → Frames k l
      → NoneReleased l → LocalFits k (begun_at l request place answer)
  begun_at_fits l request (Some place) answer frames none = begun_look_fits l request place frames none
  begun_at_fits l request None answer frames none = ready_fits l answer frames none

  begun_as_fits : (l : Local) (request : Request) → Frames k l → NoneReleased l → LocalFits k (begun_as l request)
  begun_as_fits l (Request.Malloc size) frames none =
      begun_get_fits l (served_as size None) frames none (served_as_fits size None)
  begun_as_fits l (Request.Aligned size alignment) frames none =
      begun_get_fits l (served_as size (Some alignment)) frames none (served_as_fits size (Some alignment))
  begun_as_fits l (Request.Realloc place size) frames none =
      begun_realloc_fits l (Request.Realloc place size) place (served_as size None) frames none
      (served_as_fits size None)
  begun_as_fits l (Request.AlignedRealloc place size alignment) frames none =
      choose (LocalFits k) (is_power_of_two alignment) _ _
      (begun_realloc_fits l (Request.AlignedRealloc place size alignment) place (served_as size (Some alignment))
      frames
      none (served_as_fits size (Some alignment)))
      (ready_fits l (Answer.Null NullCause.BadRequest) frames none)
  begun_as_fits l (Request.Free place) frames none =
      begun_at_fits l (Request.Free place) place Answer.False frames none
  begun_as_fits l (Request.Msize place) frames none =
      begun_at_fits l (Request.Msize place) place (Answer.Size 0) frames none
  begun_as_fits l (Request.Identify place) frames none =
      begun_at_fits l (Request.Identify place) place Answer.NoPool frames none
  begun_as_fits l Request.Exit frames none = begun_leave_fits l frames none

  idle_none : (l : Local) (at : At) → is_idle at ≡ true → AtFits k l at → NoneReleased l
  idle_none l At.Idle e fits = fits
  idle_none l _ e fits = absurd (cc)

  pub call_begins_in_range : (l : Local) (request : Request) → LocalFits k l → LocalFits k (begun l request).0
  call_begins_in_range l request fits =
      choose_by (λ (p : Local × Result Unit InCall). LocalFits k p.0) (is_idle l.at) _ _
      (λ idle. begun_as_fits (asked_for l request) request
      (with_call fits.frames (asked_for l request).call fits.frames.call) (idle_none l l.at idle fits.at))
      (λ other. fits)

  heap_begun_fits : (l : Local) (what : Leaving) → Frames k l → NoneReleased l → IsReset l.call.stage
      → LocalFits k (heap_begun l what)
  heap_begun_fits l Leaving.Nothing frames none resets = ready_fits l Answer.Exited frames none
  heap_begun_fits l (Leaving.Cached slab) frames none resets = heap_on_fits k key l None frames none resets
  heap_begun_fits l (Leaving.Unused kept) frames none resets = heap_on_fits k key l None frames none resets
  heap_begun_fits l (Leaving.Held kept) frames none resets = heap_on_fits k key l None frames none resets

  reset_as_fits : (l : Local) (reset : Reset) → Frames k l → NoneReleased l → LocalFits k (reset_begun_as l reset)
  reset_as_fits l Reset.Heap frames none =
      let stage = Stage.Resetting (ResetStage.Heap None) in
      heap_begun_fits (resetting l (ResetStage.Heap None)) (next_to_leave l.heap)
      (with_call frames (record l.call { stage = stage }) (at_stage frames stage tt)) none tt
  reset_as_fits l Reset.Pool frames none =
      let stage = Stage.Resetting (ResetStage.Orphans None) in
      record {
        frames = with_fetch (with_call frames (record l.call { stage = stage }) (at_stage frames stage tt))
            (record l.fetch { class = 0 }) (record { class = omega arith; spare = frames.fetch.spare });
        at = (none, tt, tt);
      }

  pub reset_begins_in_range : (l : Local) (reset : Reset) → LocalFits k l → LocalFits k (reset_begun l reset).0
  reset_begins_in_range l reset fits =
      choose_by (λ (p : Local × Result Unit InCall). LocalFits k p.0) (is_idle l.at) _ _
      (λ idle. reset_as_fits l reset fits.frames (idle_none l l.at idle fits.at)) (λ other. fits)
