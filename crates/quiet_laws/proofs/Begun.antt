-- A reset begins.
use Rattle.std.proofs.Common.{◌≡◌, ◌≢◌, ℕ, Bool, true, false, cond, refl}
use Rattle.std.specs.Prelude.{Option, Some, None, Result, Ok, Err}
use Rattle.heap_slabs.specs.declared.heap.Leaving.{Leaving}
use Rattle.heap_slabs.specs.declared.records.HeapSlab.{HeapSlab}
use Rattle.heap_slabs.specs.declared.slabs.Wanted.{Wanted}
use Rattle.heap_slabs.specs.Heaps.{next_to_leave, leaving_by, leaving_slab}
use Rattle.heap_slabs.specs.Rolls.{newest_of}
use Rattle.heap_slabs.specs.Slabs.{first_from}
use Rattle.pool_types.specs.declared.values.InCall.{InCall}
use Rattle.step_local.specs.Getting.{is_idle, heap_begun, reset_begun_as}
use Rattle.step_local.specs.Resetting.{resetting, class_begun, heap_given, heap_on}
use Rattle.step_local.specs.declared.frames.Local.{Local}
use Rattle.step_local.specs.declared.frames.Reset.{Reset}
use Rattle.step_local.specs.declared.frames.ResetStage.{ResetStage}
use Rattle.quiet_laws.specs.Resets.{ResetsBegin, reset_of}
use Rattle.quiet_laws.proofs.Given.{IsOn}

-- the other local is of the same seat and key, and in a reset
abbrev IsBegun : Local → Local → Type 0
IsBegun l other = reset_of other ≡ (l.seat, l.key, true, true)

begun_class : (l : Local) (e : IsOn l) (found : Option HeapSlab) → leaving_slab found ≢ Leaving.Nothing
    → IsBegun l (class_begun l found).0
begun_class l e (Some kept) some_ = cc
begun_class l e None some_ = absurd (some_ refl)

begun_given : (l : Local) (e : IsOn l) (one : Option ℕ) → leaving_by l.heap one ≢ Leaving.Nothing
    → IsBegun l (heap_given l None one).0
begun_given l e (Some slab) some_ = cc
begun_given l e None some_ = begun_class l e (first_from Wanted.Any l.heap.slabs 0) some_

begun_heap_on : (l : Local) (e : IsOn l) (what : Leaving) → next_to_leave l.heap ≡ what → what ≢ Leaving.Nothing
    → IsBegun l (heap_on l None).0
begun_heap_on l e what is some_ =
    begun_given l e (newest_of l.heap.cached) (λ (none : leaving_by l.heap (newest_of l.heap.cached) ≡ Leaving.Nothing).
    let same : next_to_leave l.heap ≡ Leaving.Nothing = none in some_ (cc))

begun_heap : (l : Local) (e : IsOn l) (what : Leaving) → next_to_leave l.heap ≡ what → IsBegun l (heap_begun l what)
begun_heap l e Leaving.Nothing is = cc
begun_heap l e (Leaving.Cached slab) is = begun_heap_on l e (Leaving.Cached slab) is (λ z. cc)
begun_heap l e (Leaving.Unused kept) is = begun_heap_on l e (Leaving.Unused kept) is (λ z. cc)
begun_heap l e (Leaving.Held kept) is = begun_heap_on l e (Leaving.Held kept) is (λ z. cc)

begun_as : (l : Local) (reset : Reset) → IsBegun l (reset_begun_as l reset)
begun_as l Reset.Heap = begun_heap (resetting l (ResetStage.Heap None)) refl (next_to_leave l.heap) refl
begun_as l Reset.Pool = refl

pub resets_begin : ResetsBegin
resets_begin l reset idle = by (is_idle l.at) idle
  where
    by : (b : Bool) → b ≡ true
        → ((cond {A = Local × Result Unit InCall} b (reset_begun_as l reset, Ok tt) (
          l,
          Err
              (record { seat = l.seat }),
        )).1 ≡ Ok tt)
        × (reset_of (cond {A = Local × Result Unit InCall} b (reset_begun_as l reset, Ok tt) (
          l,
          Err
              (record { seat = l.seat }),
        )).0 ≡ (l.seat, l.key, true, true))
    by true e = (refl, begun_as l reset)
    by false e = absurd (cc)
