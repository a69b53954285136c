-- Each group's task at a position, where it is still to be begun, begins.
use Rattle.std.proofs.Common.{◌≡◌, ◌∙◌, ℕ, refl}
use Rattle.std.specs.Prelude.{Option, ⊤}
use Rattle.pool_words.specs.declared.words.Key.{Key}
use Rattle.mailbox.specs.declared.boxes.BoxAt.{BoxAt}
use Rattle.public_list.specs.declared.joining.JoinAt.{JoinAt}
use Rattle.object_laws.specs.Objects as objects
use Rattle.mail_laws.specs.Mail as mailing
use Rattle.mail_laws.specs.Mail.{Mail}
use Rattle.orphan_laws.specs.Orphans as orphaning
use Rattle.queue_laws.specs.Queue as queues
use Rattle.cache_laws.specs.Good as caches
use Rattle.cache_laws.specs.Good.{hand}
use Rattle.step_local.specs.declared.frames.At.{At}
use Rattle.step_local.specs.declared.frames.LargeAt.{LargeAt}
use Rattle.step_local.specs.declared.frames.Local.{Local}
use Rattle.step_local.specs.declared.frames.SmallAt.{SmallAt}
use Rattle.step_local.specs.declared.frames.Stage.{Stage}
use Rattle.step_tasks.specs.Mail.{mail_task_of}
use Rattle.step_tasks.specs.Objects.{object_task_at, object_task_of, Starts}
use Rattle.cache_tasks.specs.Cache.{cache_task_of}
use Rattle.orphan_tasks.specs.Orphans.{orphan_task_of}
use Rattle.public_list.specs.declared.ending.EndAt.{EndAt}
use Rattle.public_list.specs.declared.looking.LookAt.{LookAt}
use Rattle.backend_tasks.specs.Queue.{queue_task_of}
use Rattle.heap_tasks.specs.Stages.{IsEnding}
use Rattle.step_fits.specs.Small as small
use Rattle.pool_laws.specs.Steps.{HasNoPost, IsFree}
use Rattle.pool_laws.specs.Wholes.{Whole, WholeGood}
use Rattle.seat_ties.specs.Turns.{Here, goes_on, may_start, IsNoReset, StateHere, TasksHere}
use Rattle.seat_starts.specs.Says.{StartSaysAt}
use Rattle.seat_starts.proofs.Desks.{calm, going}
use Rattle.seat_starts.proofs.Objects.{ObjectBegun, box_stands, ends_fit, join_stands, looks_fit, object_starts}
use Rattle.seat_starts.proofs.Objects.{reads_fit, rests_fit, same_object}
use Rattle.seat_starts.proofs.Rests.{free_with}

-- the local at a position
abbrev pub here_at : Local → At → Local
here_at l at = record l { at = at }

-- a seat that is at no job of mail, of orphans, of the cache or of the queue
quiet_free : (w : Whole) (l : Local) → TasksHere w l.seat l → mail_task_of l ≡ mailing.Task.Away
    → cache_task_of l ≡ caches.Task.Away → queue_task_of l ≡ queues.Task.Away → IsFree w l.seat
quiet_free w l here mail jobs queue =
    free_with w l.seat queues.Task.Away (calm here.jobs jobs ∙ jobs) (calm here.queue queue ∙ queue) tt

quiet_post : (w : Whole) (l : Local) → TasksHere w l.seat l → mail_task_of l ≡ mailing.Task.Away
    → orphan_task_of l ≡ orphaning.Task.Away → HasNoPost w l.seat
quiet_post w l here mail orphan = record {
  mail = calm here.mails mail ∙ mail;
  orphan = calm here.orphans orphan ∙ orphan;
}

-- a reset of a pool is spoken of by itself
abbrev pub IsApart : At → Type 0
IsApart (At.Reset at) = ⊥
IsApart _ = ⊤

ending_stage : (stage : Stage) → small.IsEnding stage → IsEnding stage
ending_stage Stage.Ending is = tt
ending_stage Stage.Replacing is = tt
ending_stage Stage.Undoing is = tt
ending_stage _ is = absurd is

module _ (k : Key) (w : Whole) (l0 : Local) (good : WholeGood k w) where
  abbrev pub ObjectsAt : At → Type 0
  ObjectsAt at = StateHere k w l0.seat (here_at l0 at) → IsNoReset l0 → StartSaysAt (here_at l0 at) at
      → ObjectBegun k w l0.seat (object_task_at (here_at l0 at) at)

  kept_object : (at : At) → StateHere k w l0.seat (here_at l0 at)
      → w.pool.locals.tasks l0.seat ≡ object_task_at (here_at l0 at) at
      → ObjectBegun k w l0.seat (object_task_at (here_at l0 at) at)
  kept_object at state e = same_object k w l0.seat (object_task_at (here_at l0 at) at) e

  look_begun : (at : LookAt) (state : StateHere k w l0.seat (here_at l0 (At.Look at)))
      → Here (w.pool.locals.tasks l0.seat) (object_task_of (here_at l0 (At.Look at))) objects.Task.Away
      (at ≡ LookAt.Region) → ObjectBegun k w l0.seat (object_task_of (here_at l0 (At.Look at)))
  look_begun at state (goes_on e) = same_object k w l0.seat (object_task_of (here_at l0 (At.Look at))) e
  look_begun at state (may_start away start) =
      object_starts k w l0.seat (object_task_of (here_at l0 (At.Look at)))
      (quiet_free w (here_at l0 (At.Look at)) state.tasks refl refl refl)
      (quiet_post w (here_at l0 (At.Look at)) state.tasks refl refl) away tt tt
      (looks_fit k w (here_at l0 (At.Look at)) good state.says state.heap state.notes at start)

  end_begun : (at : EndAt) (state : StateHere k w l0.seat (here_at l0 (At.End at)))
      → Here (w.pool.locals.tasks l0.seat) (object_task_of (here_at l0 (At.End at))) objects.Task.Away
      (Starts (here_at l0 (At.End at))) → ObjectBegun k w l0.seat (object_task_of (here_at l0 (At.End at)))
  end_begun at state (goes_on e) = same_object k w l0.seat (object_task_of (here_at l0 (At.End at))) e
  end_begun at state (may_start away start) =
      object_starts k w l0.seat (object_task_of (here_at l0 (At.End at)))
      (quiet_free w (here_at l0 (At.End at)) state.tasks refl refl refl)
      (quiet_post w (here_at l0 (At.End at)) state.tasks refl refl) away tt tt
      (ends_fit k w (here_at l0 (At.End at)) good state.says state.heap state.notes
      (ending_stage l0.call.stage state.says.fits.place.0) at start)

  reading_begun : (slab head : ℕ) (state : StateHere k w l0.seat (here_at l0 (At.Small (SmallAt.Behind slab head))))
      → Here (w.pool.locals.tasks l0.seat) (objects.Task.Reading slab head) objects.Task.Away
      (Starts (here_at l0 (At.Small (SmallAt.Behind slab head))))
      → ObjectBegun k w l0.seat (objects.Task.Reading slab head)
  reading_begun slab head state (goes_on e) = same_object k w l0.seat (objects.Task.Reading slab head) e
  reading_begun slab head state (may_start away start) =
      let l : Local = here_at l0 (At.Small (SmallAt.Behind slab head)) in
      object_starts k w l0.seat (objects.Task.Reading slab head) (quiet_free w l state.tasks refl refl refl)
      (quiet_post w l state.tasks refl refl) away tt tt
      (reads_fit k w l good state.says state.heap state.notes slab head state.says.fits.place.0.2 start
      (state.says.fits.numbers.place refl).left)

  resting_begun : (slab unit : ℕ) (state : StateHere k w l0.seat (here_at l0 (At.Small (SmallAt.Rest slab unit))))
      → Here (w.pool.locals.tasks l0.seat) (objects.Task.Resting slab unit) objects.Task.Away
      (Starts (here_at l0 (At.Small (SmallAt.Rest slab unit))))
      → ObjectBegun k w l0.seat (objects.Task.Resting slab unit)
  resting_begun slab unit state (goes_on e) = same_object k w l0.seat (objects.Task.Resting slab unit) e
  resting_begun slab unit state (may_start away start) =
      let l : Local = here_at l0 (At.Small (SmallAt.Rest slab unit)) in
      object_starts k w l0.seat (objects.Task.Resting slab unit) (quiet_free w l state.tasks refl refl refl)
      (quiet_post w l state.tasks refl refl) away tt tt
      (rests_fit k w l good state.says state.heap state.notes slab unit state.says.fits.place.0.2 start.0 start.1
      (state.says.fits.numbers.place refl).left)

  box_begun : (slab : ℕ) (rest : Option ℕ) (at : JoinAt)
      (state : StateHere k w l0.seat (here_at l0 (At.Mailbox (BoxAt.Join slab rest at))))
      → Here (w.pool.locals.tasks l0.seat) (objects.Task.Joining slab at) objects.Task.Away (at ≡ JoinAt.Take)
      → ObjectBegun k w l0.seat (objects.Task.Joining slab at)
  box_begun slab rest at state (goes_on e) = same_object k w l0.seat (objects.Task.Joining slab at) e
  box_begun slab rest at state (may_start away start) =
      let l : Local = here_at l0 (At.Mailbox (BoxAt.Join slab rest at)) in
      absurd (box_stands k w l good state.says state.heap state.notes slab rest at (calm state.tasks.orphans refl)
      state.tasks.mails away)

  join_begun : (slab : ℕ) (rest : Option ℕ) (at : JoinAt)
      (state : StateHere k w l0.seat (here_at l0 (At.Join slab rest at)))
      → Here (w.pool.locals.tasks l0.seat) (objects.Task.Joining slab at) objects.Task.Away (at ≡ JoinAt.Take)
      → ObjectBegun k w l0.seat (objects.Task.Joining slab at)
  join_begun slab rest at state (goes_on e) = same_object k w l0.seat (objects.Task.Joining slab at) e
  join_begun slab rest JoinAt.Take state (may_start away start) =
      let l : Local = here_at l0 (At.Join slab rest JoinAt.Take) in
      absurd (join_stands k w l good state.says state.heap state.notes slab rest state.tasks.orphans
      (calm state.tasks.mails refl) away)
  join_begun slab rest _ state (may_start away start) = absurd (cc)

  box_objects : (at : BoxAt) → ObjectsAt (At.Mailbox at)
  box_objects (BoxAt.Join slab rest at) state quiet says = box_begun slab rest at state state.tasks.objects
  box_objects BoxAt.Take state quiet says = kept_object (At.Mailbox BoxAt.Take) state (calm state.tasks.objects refl)
  box_objects (BoxAt.Next e) state quiet says =
      kept_object (At.Mailbox (BoxAt.Next e)) state (calm state.tasks.objects refl)
  box_objects (BoxAt.Settle e rest) state quiet says =
      kept_object (At.Mailbox (BoxAt.Settle e rest)) state (calm state.tasks.objects refl)

  small_objects : (at : SmallAt) → ObjectsAt (At.Small at)
  small_objects (SmallAt.Behind slab head) state quiet says = reading_begun slab head state state.tasks.objects
  small_objects (SmallAt.Private slab head below) state quiet says =
      kept_object (At.Small (SmallAt.Private slab head below)) state (going state.tasks.objects (λ never. never))
  small_objects (SmallAt.Rest slab unit) state quiet says = resting_begun slab unit state state.tasks.objects
  small_objects at state quiet says = kept_object (At.Small at) state (calm state.tasks.objects refl)

  large_objects : (at : LargeAt) → ObjectsAt (At.Large at)
  large_objects LargeAt.Tick state quiet says = kept_object (At.Large LargeAt.Tick) state (calm state.tasks.objects refl)
  large_objects (LargeAt.Kind unit) state quiet says =
      kept_object (At.Large (LargeAt.Kind unit)) state (calm state.tasks.objects refl)
  large_objects (LargeAt.Grant unit) state quiet says =
      kept_object (At.Large (LargeAt.Grant unit)) state (going state.tasks.objects (λ never. never))

  pub objects_begun : (at : At) → IsApart at → ObjectsAt at
  objects_begun (At.Look at) apart state quiet says = look_begun at state state.tasks.objects
  objects_begun (At.End at) apart state quiet says = end_begun at state state.tasks.objects
  objects_begun (At.Post at) apart state quiet says =
      kept_object (At.Post at) state (going state.tasks.objects (λ never. never))
  objects_begun (At.Mailbox at) apart state quiet says = box_objects at state quiet says
  objects_begun (At.Join slab rest at) apart state quiet says = join_begun slab rest at state state.tasks.objects
  objects_begun (At.Small at) apart state quiet says = small_objects at state quiet says
  objects_begun (At.Large at) apart state quiet says = large_objects at state quiet says
  objects_begun (At.Reset at) apart state quiet says = absurd apart
  objects_begun at apart state quiet says = kept_object at state (calm state.tasks.objects refl)
