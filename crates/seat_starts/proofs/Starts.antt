-- All groups begin what a position starts, one after the other.
use Rattle.std.proofs.Common.{◌≡◌, ◌∙◌, ◌<◌, ◌≤◌, ◌+◌, ℕ, true, [], ◌∷◌, refl, sym, ap, subst, arith}
use Rattle.std.specs.Prelude.{Some, ⊤}
use Rattle.pool_words.specs.declared.words.Key.{Key}
use Rattle.pool_words.specs.Words.{cache_counts}
use Rattle.chain_words.specs.declared.pushing.PushAt.{PushAt}
use Rattle.coalescer.specs.declared.drain.DrainAt.{DrainAt}
use Rattle.coalescer.specs.declared.put.PutAt.{PutAt}
use Rattle.coalescer.specs.declared.put.PutStep.{PutStep}
use Rattle.coalescer.specs.Drain.{put_call as drained_put}
use Rattle.heap_slabs.specs.Slabs.{record_at}
use Rattle.public_list.specs.declared.joining.JoinAt.{JoinAt}
use Rattle.mailbox.specs.declared.boxes.BoxAt.{BoxAt}
use Rattle.mail_laws.specs.Mail as mailing
use Rattle.orphan_laws.specs.Orphans as orphaning
use Rattle.queue_laws.specs.Queue as queues
use Rattle.cache_laws.specs.Good as caches
use Rattle.cache_laws.specs.Good.{hand}
use Rattle.queue_laws.specs.Steps.{IsIdle}
use Rattle.mail_laws.specs.Mail.{Mail}
use Rattle.guard_laws.specs.Blocks.{Place, Use}
use Rattle.guards.specs.declared.win.Taking.{Taking}
use Rattle.pool_types.specs.Geometry.{class_count}
use Rattle.pool_types.specs.declared.values.Request.{Request}
use Rattle.coalescer.specs.declared.put.PutCall.{PutCall}
use Rattle.region_steps.specs.declared.office.OfficeAt.{OfficeAt}
use Rattle.step_local.specs.declared.frames.Object.{Object}
use Rattle.step_local.specs.declared.frames.Served.{Served}
use Rattle.step_local.specs.Frames.{last_cache_bin}
use Rattle.step_fits.specs.Frames.{CallFits}
use Rattle.step_fits.specs.Positions.{AtFits}
use Rattle.step_fits.specs.Resets.{Bins, ResetFits, ResetsPool, Strips}
use Rattle.step_local.specs.declared.frames.ResetAt.{ResetAt}
use Rattle.step_fits.specs.Small.{IsSmall}
use Rattle.step_local.specs.declared.frames.At.{At}
use Rattle.step_local.specs.declared.frames.Local.{Local}
use Rattle.step_local.specs.declared.frames.OfficeFor.{OfficeFor}
use Rattle.slab_laws.specs.Books.{Keeper}
use Rattle.step_local.specs.declared.frames.ResetStage.{ResetStage}
use Rattle.step_local.specs.declared.frames.SmallAt.{SmallAt}
use Rattle.step_local.specs.declared.frames.Stage.{Stage}
use Rattle.step_local.specs.Backend.{cut_call, drain_call}
use Rattle.step_local.specs.Leaving.{put_call}
use Rattle.step_local.specs.Slabs.{class_of_served}
use Rattle.step_laws.specs.Tasks.{task_of}
use Rattle.step_tasks.specs.Mail.{mail_task_of}
use Rattle.step_tasks.specs.Objects.{object_task_of}
use Rattle.backend_tasks.specs.Bins.{put_task}
use Rattle.backend_tasks.specs.Guards.{guard_task_of, put_guard}
use Rattle.backend_tasks.specs.Queue.{QueueStarts, drain_queue, office_queue, put_queue, queue_task_of}
use Rattle.cache_tasks.specs.Cache.{cache_task_of}
use Rattle.orphan_tasks.specs.Orphans.{orphan_task_of, stage_task}
use Rattle.heap_tasks.specs.Notes.{IsTail, notes_of}
use Rattle.hand_blocks.specs.Hands.{joining}
use Rattle.step_fits.proofs.CallerLemmas.{gets_are_of_bins, sweeps_are_of_bins}
use Rattle.pool_laws.specs.Steps.{IsFree}
use Rattle.pool_laws.specs.Wholes.{Whole, WholeGood}
use Rattle.seat_ties.specs.Ties.{SeatTied}
use Rattle.seat_ties.specs.Turns.{Here, goes_on, may_start, NoReset, NotesHere, TasksHere, are, forgets, SeatRun, StateHere, stays}
use Rattle.seat_ties.proofs.CallerLemmas.{runs_go_on}
use Rattle.seat_starts.specs.Laws.{StartsTie}
use Rattle.seat_starts.specs.Says.{SlabSaysAt, StartSaysAt}
use Rattle.seat_starts.specs.Started.{Started}
use Rattle.seat_starts.proofs.Blocks.{PushBegun, QueueRests, WinBegun, WinRests, push_begun, win_begun}
use Rattle.seat_starts.proofs.Desks.{DeskBegun, calm, desk_begun, going, same_desk}
use Rattle.seat_starts.proofs.Forgets.{Forgotten, forget, with_notes}
use Rattle.seat_starts.proofs.Jobs.{JobBegun, job_begun, same_job}
use Rattle.seat_starts.proofs.Mails.{with_mail_at, MailBegun, OrphanBegun, OrphanRests, mail_begun, orphan_begun, same_mail, same_orphan}
use Rattle.seat_starts.proofs.Objects.{ObjectBegun, kept_by, with_objects}
use Rattle.seat_starts.proofs.Rests.{bin_rests, cut_rests, free_with, put_in_hand, put_rests, scan_rests}
use Rattle.seat_starts.proofs.Says.{Doing, doing, doing_of, says_same}
use Rattle.seat_starts.proofs.Stages.{IsApart, here_at, objects_begun}

-- a bin of the cache
below_counts : (n : ℕ) → n ≤ last_cache_bin → n < cache_counts
below_counts n low = omega arith

small_class : (k : Key) (request : Request) (old : Object) (served : Served) (stage : Stage)
    → CallFits k request old served stage → stage ≡ Stage.Getting → IsSmall served → class_of_served served < class_count
small_class k request old (Served.Small class) Stage.Getting fits is small = fits.fits
small_class k request old (Served.Large granules alignment) stage fits is small = absurd small
small_class k request old served _ fits is small = absurd (cc)

no_reset_stage : (class : ℕ) (stage : Stage) → NoReset stage → stage_task class stage ≡ orphaning.Task.Away
no_reset_stage class (Stage.Resetting stage) quiet = absurd quiet
no_reset_stage class _ quiet = refl

job_rests : (v : Whole) (seat : ℕ) (job : OfficeFor) → QueueRests v seat (office_queue job)
job_rests v seat OfficeFor.Ask = tt
job_rests v seat (OfficeFor.Put first) = tt
job_rests v seat (OfficeFor.Drain first rest) = tt

drain_rests : (v : Whole) (seat : ℕ) (at : DrainAt) → QueueRests v seat (drain_queue at)
drain_rests v seat DrainAt.Swap = tt
drain_rests v seat (DrainAt.Link first) = tt
drain_rests v seat (DrainAt.Put rest at) = tt

put_wins : (v : Whole) (seat : ℕ) (c : PutCall) (p : PutAt) (step : PutStep) → v.jobs seat ≡ caches.Task.Away
    → v.bins seat ≡ put_task c p step
    → Here (v.queue seat) (put_queue p step) queues.Task.Away (QueueStarts (put_queue p step))
    → WinRests v seat (put_guard p step)
put_wins v seat c p (PutStep.WinLeft granules at) jobs bins queue =
    put_rests v seat c p (PutStep.WinLeft granules at) jobs bins queues.Task.Away (calm queue refl) tt
put_wins v seat c p (PutStep.WinRight granules at) jobs bins queue =
    put_rests v seat c p (PutStep.WinRight granules at) jobs bins queues.Task.Away (calm queue refl) tt
put_wins v seat c p (PutStep.UnlinkLeft neighbour at) jobs bins queue = bin_rests v seat neighbour at
put_wins v seat c p (PutStep.UnlinkRight neighbour at) jobs bins queue = bin_rests v seat neighbour at
put_wins v seat c p (PutStep.Bin at) jobs bins queue = bin_rests v seat p.block at
put_wins v seat c p _ jobs bins queue = tt

module _ (k : Key) (l0 : Local) where
  -- the state at a position, in a whole where the seat has begun so far
  abbrev pub StateAt : Whole → At → Type 0
  StateAt v at = StateHere k v l0.seat (here_at l0 at)

  free_at : (v : Whole) (at : At) → StateAt v at → cache_task_of (here_at l0 at) ≡ caches.Task.Away
      → queue_task_of (here_at l0 at) ≡ queues.Task.Away → IsFree v l0.seat
  free_at v at state jobs queue = free_with v l0.seat queues.Task.Away (calm state.tasks.jobs jobs ∙ jobs)
      (calm state.tasks.queue queue ∙ queue) tt

  stage_rests : (keeper : ℕ → Keeper) (class : ℕ) (stage : Stage)
      → OrphanRests k keeper l0.seat (stage_task class stage)
  stage_rests keeper class (Stage.Resetting (ResetStage.Orphans rest)) = tt
  stage_rests keeper class _ = tt

  -- where blocks lie
  abbrev pub Within : Whole → Type 0
  Within v = (x n : ℕ) (u : Use) → v.pool.blocks.place x ≡ Place.Block x n u → x + n ≤ k.span

  slab_mail : (slab : ℕ) (v : Whole) → StateAt v (At.Small (SmallAt.Next slab)) → Within v
      → (v.mails l0.seat ≡ mailing.Task.Away → v.ways.mail.mail slab ≡ Mail.Absent)
      → Here (v.mails l0.seat) (mail_task_of (here_at l0 (At.Small (SmallAt.Next slab)))) mailing.Task.Away ⊤
      → MailBegun k v l0.seat (mail_task_of (here_at l0 (At.Small (SmallAt.Next slab))))
  slab_mail slab v state within none (goes_on e) = same_mail k v l0.seat _ e
  slab_mail slab v state within none (may_start away start) =
      let at : At = At.Small (SmallAt.Next slab) in
      let l : Local = here_at l0 at in
      let served = state.says.fits.place in
      let high = within slab 2 (Use.Held l0.seat Taking.ForUse) state.hands.lie.0 in
      mail_begun k v l at (free_at v at state refl refl) (calm state.tasks.objects refl) (calm state.tasks.orphans refl)
      (record {
        absent = none away;
        class' = small_class k l0.call.request l0.call.old l0.call.served l0.call.stage state.says.fits.frames.call
            served.0 served.1;
        few = state.says.number.seats;
        inside = omega arith;
      }) (may_start away start)

  -- a push of the block that is put
  push_of_put : (p : PutAt) (step : PutStep) (v : Whole) → StateAt v (At.Put (record p { step = step }))
      → QueueRests v l0.seat (put_queue p step)
  push_of_put p (PutStep.Queue PushAt.Look) v state = record {
    guards = calm state.tasks.guards refl;
    bins = state.tasks.bins;
    jobs = ap (λ t. hand t) (calm state.tasks.jobs refl);
    block = (put_in_hand v.pool.blocks.place l0.seat l0 l0.put
        (joining p.block ∷ []) state.hands.lie).0;
    marked = state.words.marked;
  }
  push_of_put p (PutStep.Queue (PushAt.Link found)) v state = tt
  push_of_put p (PutStep.Queue (PushAt.Exchange found)) v state = tt
  push_of_put p _ v state = tt

  office_free : (job : OfficeFor) (at : OfficeAt) (v : Whole) → StateAt v (At.Office job at) → IsFree v l0.seat
  office_free OfficeFor.Ask at v state = free_at v (At.Office OfficeFor.Ask at) state refl refl
  office_free (OfficeFor.Put first) at v state = free_at v (At.Office (OfficeFor.Put first) at) state refl refl
  office_free (OfficeFor.Drain first rest) at v state = free_with v l0.seat (queues.Task.Drains rest)
      (calm state.tasks.jobs refl) (going state.tasks.queue (λ never. never)) tt

  -- mail
  mails_at : (at : At) (v : Whole) → IsApart at → StateAt v at → Within v
      → SlabSaysAt v.mails v.ways.mail.mail l0.seat at
      → MailBegun k v l0.seat (mail_task_of (here_at l0 at))
  mails_at (At.Mail at) v apart state within none =
      same_mail k v l0.seat (mail_task_of (here_at l0 (At.Mail at))) (going state.tasks.mails (λ never. never))
  mails_at (At.Mailbox BoxAt.Take) v apart state within none =
      mail_begun k v (here_at l0 (At.Mailbox BoxAt.Take)) (At.Mailbox BoxAt.Take)
      (free_at v (At.Mailbox BoxAt.Take) state refl refl) (calm state.tasks.objects refl) (calm state.tasks.orphans refl)
      (record { class' = state.says.fits.frames.class; few = state.says.number.seats }) state.tasks.mails
  mails_at (At.Mailbox at) v apart state within none =
      same_mail k v l0.seat (mail_task_of (here_at l0 (At.Mailbox at))) (going state.tasks.mails (λ is. cc))
  mails_at (At.Small (SmallAt.Next slab)) v apart state within none = slab_mail slab v state within none state.tasks.mails
  mails_at (At.Small (SmallAt.Public slab)) v apart state within none =
      same_mail k v l0.seat _ (going state.tasks.mails (λ never. never))
  mails_at (At.Small (SmallAt.Own slab)) v apart state within none =
      same_mail k v l0.seat _ (going state.tasks.mails (λ never. never))
  mails_at (At.Small (SmallAt.Kind slab)) v apart state within none =
      same_mail k v l0.seat _ (going state.tasks.mails (λ never. never))
  mails_at (At.Small at) v apart state within none = same_mail k v l0.seat _ (calm state.tasks.mails refl)
  mails_at (At.Reset at) v apart state within none = absurd apart
  mails_at at v apart state within none = same_mail k v l0.seat _ (calm state.tasks.mails refl)

  -- orphans
  orphans_at : (at : At) (v : Whole) → IsApart at → NoReset l0.call.stage → StateAt v at
      → OrphanRests k v.pool.locals.book.keeper l0.seat (orphan_task_of (here_at l0 at))
      → OrphanBegun k v l0.seat (orphan_task_of (here_at l0 at))
  orphans_at (At.Adopt at) v apart quiet state rests = orphan_begun k v (here_at l0 (At.Adopt at)) (At.Adopt at)
      (free_at v (At.Adopt at) state refl refl) (calm state.tasks.objects refl) (calm state.tasks.mails refl) rests
      state.tasks.orphans
  orphans_at (At.Leave slab at) v apart quiet state rests =
      orphan_begun k v (here_at l0 (At.Leave slab at)) (At.Leave slab at)
      (free_at v (At.Leave slab at) state refl refl) (calm state.tasks.objects refl) (calm state.tasks.mails refl) rests
      state.tasks.orphans
  orphans_at (At.Join slab rest at) v apart quiet state rests =
      same_orphan k v l0.seat _ (going state.tasks.orphans (λ never. never))
  orphans_at (At.Spare at) v apart quiet state rests =
      same_orphan k v l0.seat _ (going state.tasks.orphans (λ never. never))
  orphans_at (At.Small (SmallAt.Kind slab)) v apart quiet state rests =
      same_orphan k v l0.seat _ (going state.tasks.orphans (λ never. never))
  orphans_at (At.Small (SmallAt.Empty slab)) v apart quiet state rests =
      same_orphan k v l0.seat _ (calm state.tasks.orphans (no_reset_stage l0.fetch.class l0.call.stage quiet))
  orphans_at (At.Small at) v apart quiet state rests = same_orphan k v l0.seat _ (calm state.tasks.orphans refl)
  orphans_at (At.Reset at) v apart quiet state rests = absurd apart
  orphans_at at v apart quiet state rests = same_orphan k v l0.seat _ (calm state.tasks.orphans refl)

  -- wins
  wins_rest : (at : At) (v : Whole) → IsApart at → StateAt v at → WinRests v l0.seat (guard_task_of (here_at l0 at))
  wins_rest (At.Scan at) v apart state = scan_rests v l0.seat at at.step (free_at v (At.Scan at) state refl refl)
      state.tasks.bins state.says.backend
  wins_rest (At.Cut at) v apart state = cut_rests v l0.seat (cut_call (here_at l0 (At.Cut at))) at
  wins_rest (At.Whole at) v apart state = bin_rests v l0.seat l0.ask.block at
  wins_rest (At.Drain DrainAt.Swap) v apart state = tt
  wins_rest (At.Drain (DrainAt.Link first)) v apart state = tt
  wins_rest (At.Drain (DrainAt.Put rest at)) v apart state =
      put_rests v l0.seat (drained_put (drain_call (here_at l0 (At.Drain (DrainAt.Put rest at))))) at at.step
      (calm state.tasks.jobs refl) state.tasks.bins (queues.Task.Drains rest)
      (going state.tasks.queue (λ never. never)) tt
  wins_rest (At.Put at) v apart state = put_wins v l0.seat (put_call (here_at l0 (At.Put at))) at at.step
      (calm state.tasks.jobs refl) state.tasks.bins state.tasks.queue
  wins_rest (At.Reset at) v apart state = absurd apart
  wins_rest at v apart state = tt

  -- the queue
  queue_rests : (at : At) (v : Whole) → IsApart at → StateAt v at → QueueRests v l0.seat (queue_task_of (here_at l0 at))
  queue_rests (At.Drain at) v apart state = drain_rests v l0.seat at
  queue_rests (At.Put at) v apart state = push_of_put at at.step v state
  queue_rests (At.Office job at) v apart state = job_rests v l0.seat job
  queue_rests (At.Reset at) v apart state = absurd apart
  queue_rests at v apart state = tt

  -- jobs at the cache
  jobs_at : (at : At) (v : Whole) → IsApart at → StateAt v at → StartSaysAt (here_at l0 at) at
      → JobBegun k v l0.seat (cache_task_of (here_at l0 at))
  jobs_at (At.Get at) v apart state says = job_begun k v (here_at l0 (At.Get at)) (At.Get at)
      (below_counts _ (gets_are_of_bins k l0.seat true (here_at l0 (At.Get at)) state.says.number state.says.fits tt).most)
      (subst IsIdle (sym (calm state.tasks.queue refl)) tt) state.tasks.jobs
  jobs_at (At.Undo cause at) v apart state says = job_begun k v (here_at l0 (At.Undo cause at)) (At.Undo cause at)
      (below_counts _ (gets_are_of_bins k l0.seat true (here_at l0 (At.Undo cause at)) state.says.number state.says.fits
      tt).most) (subst IsIdle (sym (calm state.tasks.queue refl)) tt) state.tasks.jobs
  jobs_at (At.Keep at) v apart state says = job_begun k v (here_at l0 (At.Keep at)) (At.Keep at)
      (below_counts _ says, record { away = calm state.tasks.guards refl; block = state.hands.lie.0 })
      (subst IsIdle (sym (calm state.tasks.queue refl)) tt) state.tasks.jobs
  jobs_at (At.Sweep at) v apart state says = job_begun k v (here_at l0 (At.Sweep at)) (At.Sweep at)
      (below_counts _ (sweeps_are_of_bins k l0.seat true (here_at l0 (At.Sweep at)) at state.says.fits refl).most)
      (subst IsIdle (sym (calm state.tasks.queue refl)) tt) state.tasks.jobs
  jobs_at (At.Reset at) v apart state says = absurd apart
  jobs_at at v apart state says = same_job k v l0.seat _ (calm state.tasks.jobs refl)

  -- the office
  desks_at : (at : At) (v : Whole) → IsApart at → StateAt v at → DeskBegun k v l0.seat (task_of (here_at l0 at))
  desks_at (At.Office job at) v apart state =
      desk_begun k v (here_at l0 (At.Office job at)) (At.Office job at) (office_free job at v state) state.tasks.desks
  desks_at at v apart state = same_desk k v l0.seat _ (calm state.tasks.desks refl)

  small_rests : (at : SmallAt) (keeper : ℕ → Keeper)
      → OrphanRests k keeper l0.seat (orphan_task_of (here_at l0 (At.Small at)))
  small_rests (SmallAt.Empty slab) keeper = stage_rests keeper l0.fetch.class l0.call.stage
  small_rests (SmallAt.Kind slab) keeper = tt
  small_rests _ keeper = tt

  -- what orphans rest on, as they are told by the heap
  orphan_rests : (at : At) (w : Whole) → WholeGood k w → IsApart at → StateAt w at
      → OrphanRests k w.pool.locals.book.keeper l0.seat (orphan_task_of (here_at l0 at))
  orphan_rests (At.Adopt at) w good apart state =
      record { class' = state.says.fits.frames.class; few = state.says.number.seats }
  orphan_rests (At.Leave slab at) w good apart state =
      let keeps = state.says.fits.place.1 in
      kept_by k w l0.seat slab keeps.0 good
      (subst (λ s. record_at s.records slab ≡ Some keeps.0) (sym state.heap.kept) keeps.1.there)
  orphan_rests (At.Join slab rest JoinAt.Take) w good apart state = tt
  orphan_rests (At.Join slab rest (JoinAt.Walk first at count)) w good apart state = tt
  orphan_rests (At.Join slab rest (JoinAt.Tie first last count)) w good apart state = tt
  orphan_rests (At.Spare at) w good apart state = tt
  orphan_rests (At.Small at) w good apart state = small_rests at w.pool.locals.book.keeper
  orphan_rests (At.Reset at) w good apart state = absurd apart
  orphan_rests at w good apart state = tt

  -- the notes
  notes_at : (v : Whole) (at : At) → NotesHere v l0.seat (notes_of (here_at l0 at))
      → Forgotten k v l0.seat (notes_of (here_at l0 at))
  notes_at v at (are e) = record { notes = v.pool.locals.notes; run = stays; are = e }
  notes_at v at (forgets tail free) =
      forget k l0.seat (notes_of (here_at l0 at)) v (v.pool.locals.notes l0.seat) tail refl free

  -- in a whole where the seat has begun more, the position is there as before but for that
  state_on : (d : Doing) (w : Whole) (at : At) → StateAt w at → TasksHere (doing d w) l0.seat (here_at l0 at)
      → d.locals.lasts l0.seat ≡ w.pool.locals.lasts l0.seat
      → NotesHere (doing d w) l0.seat (notes_of (here_at l0 at)) → StateAt (doing d w) at
  state_on d w at state tasks last notes = record {
    says = state.says;
    tasks = tasks;
    heap = record {
      kept = state.heap.kept;
      cached = state.heap.cached;
      spares = state.heap.spares;
      last = last ∙ state.heap.last;
    };
    notes = notes;
    hands = state.hands;
    words = says_same d w l0.seat (here_at l0 at) at state.words;
  }

  -- notes that are to be forgotten are so while nothing is put into the cache or the queue
  notes_on : (w : Whole) (d : Doing) (at : At) → NotesHere w l0.seat (notes_of (here_at l0 at))
      → d.locals.notes ≡ w.pool.locals.notes → d.jobs ≡ w.jobs → d.queue ≡ w.queue
      → NotesHere (doing d w) l0.seat (notes_of (here_at l0 at))
  notes_on w d at (are e) notes jobs queue = are (ap (λ n. n l0.seat) notes ∙ e)
  notes_on w d at (forgets tail free) notes jobs queue = forgets
      (subst (λ n. IsTail (notes_of (here_at l0 at)) (n l0.seat)) (sym notes) tail)
      (record {
        shelf = ap (λ j. hand (j l0.seat)) jobs ∙ free.shelf;
        queue = subst (λ q. IsIdle (q l0.seat)) (sym queue) free.queue;
      })

module _ (k : Key) (l0 : Local) (at : At) (apart : IsApart at) (quiet : NoReset l0.call.stage) where
  abbrev l : Local
  l = here_at l0 at

  -- objects
  objects_first : (w : Whole) → WholeGood k w → StateAt k l0 w at → StartSaysAt l at
      → (o : ObjectBegun k w l0.seat (object_task_of l)) × StateAt k l0 (with_objects o.tasks w) at
  objects_first w good state says =
      let o = objects_begun k w l0 good at apart state quiet says in
      let d : Doing = record (doing_of w) { locals = record w.pool.locals { tasks = o.tasks } } in (
        o,
        state_on k l0 d w at state (record {
          guards = state.tasks.guards;
          bins = state.tasks.bins;
          queue = state.tasks.queue;
          objects = goes_on o.are;
          mails = state.tasks.mails;
          orphans = state.tasks.orphans;
          jobs = state.tasks.jobs;
          desks = state.tasks.desks;
        }) refl (notes_on k l0 w d at state.notes refl refl refl),
      )

  mails_next : (v : Whole) → Within k l0 v → StateAt k l0 v at → SlabSaysAt v.mails v.ways.mail.mail l0.seat at
      → (m : MailBegun k v l0.seat (mail_task_of l)) × StateAt k l0 (with_mail_at m.ways m.mails v) at
  mails_next v within state none =
      let m = mails_at k l0 at v apart state within none in
      let d : Doing = record (doing_of v) { ways = m.ways; mails = m.mails } in (
        m,
        state_on k l0 d v at state (record {
          guards = state.tasks.guards;
          bins = state.tasks.bins;
          queue = state.tasks.queue;
          objects = state.tasks.objects;
          mails = goes_on m.are;
          orphans = state.tasks.orphans;
          jobs = state.tasks.jobs;
          desks = state.tasks.desks;
        }) refl (notes_on k l0 v d at state.notes refl refl refl),
      )

  orphans_next : (v : Whole) → StateAt k l0 v at
      → OrphanRests k v.pool.locals.book.keeper l0.seat (orphan_task_of l)
      → (a : OrphanBegun k v l0.seat (orphan_task_of l)) × StateAt k l0 (record v { tasks = a.tasks }) at
  orphans_next v state rests =
      let a = orphans_at k l0 at v apart quiet state rests in
      let d : Doing = record (doing_of v) { orphans = a.tasks } in (
        a,
        state_on k l0 d v at state (record {
          guards = state.tasks.guards;
          bins = state.tasks.bins;
          queue = state.tasks.queue;
          objects = state.tasks.objects;
          mails = state.tasks.mails;
          orphans = goes_on a.are;
          jobs = state.tasks.jobs;
          desks = state.tasks.desks;
        }) refl (notes_on k l0 v d at state.notes refl refl refl),
      )

  notes_next : (v : Whole) → StateAt k l0 v at
      → (n : Forgotten k v l0.seat (notes_of l)) × StateAt k l0 (with_notes n.notes v) at
  notes_next v state =
      let n = notes_at k l0 v at state.notes in
      let d : Doing = record (doing_of v) { locals = record v.pool.locals { notes = n.notes } } in (
        n,
        state_on k l0 d v at state (record {
          guards = state.tasks.guards;
          bins = state.tasks.bins;
          queue = state.tasks.queue;
          objects = state.tasks.objects;
          mails = state.tasks.mails;
          orphans = state.tasks.orphans;
          jobs = state.tasks.jobs;
          desks = state.tasks.desks;
        }) refl (are n.are),
      )

  wins_next : (v : Whole) → StateAt k l0 v at → v.pool.locals.notes l0.seat ≡ notes_of l
      → (g : WinBegun k v l0.seat (guard_task_of l))
      × StateAt k l0 (record v { pool = record v.pool { tasks = g.tasks } }) at
  wins_next v state noted =
      let g = win_begun k v l0.seat (guard_task_of l) (wins_rest k l0 at v apart state) state.tasks.guards in
      let d : Doing = record (doing_of v) { guards = g.tasks } in (
        g,
        state_on k l0 d v at state (record {
          guards = goes_on g.are;
          bins = state.tasks.bins;
          queue = state.tasks.queue;
          objects = state.tasks.objects;
          mails = state.tasks.mails;
          orphans = state.tasks.orphans;
          jobs = state.tasks.jobs;
          desks = state.tasks.desks;
        }) refl (are noted),
      )

  desks_next : (v : Whole) → StateAt k l0 v at → v.pool.locals.notes l0.seat ≡ notes_of l
      → (t : DeskBegun k v l0.seat (task_of l)) × StateAt k l0 (record v { desks = t.desks }) at
  desks_next v state noted =
      let t = desks_at k l0 at v apart state in
      let d : Doing = record (doing_of v) { desks = t.desks } in (
        t,
        state_on k l0 d v at state (record {
          guards = state.tasks.guards;
          bins = state.tasks.bins;
          queue = state.tasks.queue;
          objects = state.tasks.objects;
          mails = state.tasks.mails;
          orphans = state.tasks.orphans;
          jobs = state.tasks.jobs;
          desks = goes_on t.are;
        }) refl (are noted),
      )

  queue_next : (v : Whole) → StateAt k l0 v at → v.pool.locals.notes l0.seat ≡ notes_of l
      → (q : PushBegun k v l0.seat (queue_task_of l)) × StateAt k l0 (record v { queue = q.queue }) at
  queue_next v state noted =
      let q = push_begun k v l0.seat (queue_task_of l) (queue_rests k l0 at v apart state) state.tasks.queue in
      let d : Doing = record (doing_of v) { queue = q.queue } in (
        q,
        state_on k l0 d v at state (record {
          guards = state.tasks.guards;
          bins = state.tasks.bins;
          queue = goes_on q.are;
          objects = state.tasks.objects;
          mails = state.tasks.mails;
          orphans = state.tasks.orphans;
          jobs = state.tasks.jobs;
          desks = state.tasks.desks;
        }) refl (are noted),
      )

  -- the job at the cache begins last: with it the seat is tied
  tied_last : (v : Whole) → StateAt k l0 v at → v.pool.locals.notes l0.seat ≡ notes_of l
      → v.pool.locals.tasks l0.seat ≡ object_task_of l → v.mails l0.seat ≡ mail_task_of l
      → v.tasks l0.seat ≡ orphan_task_of l → v.pool.tasks l0.seat ≡ guard_task_of l → v.desks l0.seat ≡ task_of l
      → v.queue l0.seat ≡ queue_task_of l → (j : JobBegun k v l0.seat (cache_task_of l))
      → SeatTied k (record v { jobs = j.jobs }) l0.seat l
  tied_last v state noted object mail orphan guard desk queue j = record {
    says = state.says;
    tasks = record {
      guards = guard;
      bins = state.tasks.bins;
      queue = queue;
      objects = object;
      mails = mail;
      orphans = orphan;
      jobs = j.are;
      desks = desk;
    };
    heap = record {
      kept = state.heap.kept;
      cached = state.heap.cached;
      spares = state.heap.spares;
      last = state.heap.last;
    };
    notes = noted;
    hands = state.hands;
    words = says_same (record (doing_of v) { jobs = j.jobs }) v l0.seat l at state.words;
  }

  pub starts_at : (w : Whole) → WholeGood k w → StateAt k l0 w at → StartSaysAt l at
      → SlabSaysAt w.mails w.ways.mail.mail l0.seat at → Started k w l
  starts_at w good state says none =
      let first = objects_first w good state says in
      let o = first.0 in
      let w1 : Whole = with_objects o.tasks w in
      let second = mails_next w1 good.regions.pool.guards.parts.within first.1 none in
      let m = second.0 in
      let w2 : Whole = with_mail_at m.ways m.mails w1 in
      let third = orphans_next w2 second.1 (orphan_rests k l0 at w good apart state) in
      let a = third.0 in
      let w3 : Whole = record w2 { tasks = a.tasks } in
      let fourth = notes_next w3 third.1 in
      let n = fourth.0 in
      let w4 : Whole = with_notes n.notes w3 in
      let fifth = wins_next w4 fourth.1 n.are in
      let g = fifth.0 in
      let w5 : Whole = record w4 { pool = record w4.pool { tasks = g.tasks } } in
      let sixth = desks_next w5 fifth.1 n.are in
      let t = sixth.0 in
      let w6 : Whole = record w5 { desks = t.desks } in
      let seventh = queue_next w6 sixth.1 n.are in
      let q = seventh.0 in
      let w7 : Whole = record w6 { queue = q.queue } in
      let j = jobs_at k l0 at w7 apart seventh.1 says in
      let w8 : Whole = record w7 { jobs = j.jobs } in
      let on = λ (one two : Whole) (run : SeatRun k l0.seat w one) (more : SeatRun k l0.seat one two).
      runs_go_on k l0.seat w one two run more in
      record {
        later = w8;
        run = on w7 w8 (on w6 w7 (on w5 w6 (on w4 w5 (on w3 w4 (on w2 w3 (on w1 w2 o.run m.run) a.run) n.run) g.run)
            t.run) q.run) j.run;
        words = refl;
        office = refl;
        tied = tied_last w7 seventh.1 n.are o.are m.are a.are g.are t.are q.are j;
      }

-- a reset of a pool is at no stage but its own
resets_here : (stage : Stage) → ResetsPool stage → NoReset stage → ⊥
resets_here (Stage.Resetting stage) resets quiet = quiet
resets_here Stage.Idle resets quiet = resets
resets_here Stage.Looking resets quiet = resets
resets_here Stage.Getting resets quiet = resets
resets_here Stage.Ending resets quiet = resets
resets_here Stage.Replacing resets quiet = resets
resets_here Stage.Undoing resets quiet = resets
resets_here Stage.Leaving resets quiet = resets

strips_here : (l : Local) (slab : ℕ) (stage : Stage) → Strips l slab stage → NoReset stage → ⊥
strips_here l slab (Stage.Resetting stage) strips quiet = quiet
strips_here l slab Stage.Idle strips quiet = strips
strips_here l slab Stage.Looking strips quiet = strips
strips_here l slab Stage.Getting strips quiet = strips
strips_here l slab Stage.Ending strips quiet = strips
strips_here l slab Stage.Replacing strips quiet = strips
strips_here l slab Stage.Undoing strips quiet = strips
strips_here l slab Stage.Leaving strips quiet = strips

bins_here : (l : Local) (stage : Stage) → Bins l stage → NoReset stage → ⊥
bins_here l (Stage.Resetting stage) bins quiet = quiet
bins_here l Stage.Idle bins quiet = bins
bins_here l Stage.Looking bins quiet = bins
bins_here l Stage.Getting bins quiet = bins
bins_here l Stage.Ending bins quiet = bins
bins_here l Stage.Replacing bins quiet = bins
bins_here l Stage.Undoing bins quiet = bins
bins_here l Stage.Leaving bins quiet = bins

no_reset : (l : Local) (at : ResetAt) → ResetFits l at → NoReset l.call.stage → ⊥
no_reset l (ResetAt.Strip slab at) fits quiet = strips_here l slab l.call.stage fits quiet
no_reset l (ResetAt.Seek at) fits quiet = resets_here l.call.stage fits quiet
no_reset l (ResetAt.Evict region at) fits quiet = resets_here l.call.stage fits quiet
no_reset l (ResetAt.Clear granules at) fits quiet = resets_here l.call.stage fits.0 quiet
no_reset l (ResetAt.Unqueue at) fits quiet = resets_here l.call.stage fits quiet
no_reset l (ResetAt.Unite region at) fits quiet = resets_here l.call.stage fits quiet
no_reset l (ResetAt.Bin at) fits quiet = bins_here l l.call.stage fits quiet

apart_of : (l : Local) (at : At) → AtFits true l at → NoReset l.call.stage → IsApart at
apart_of l (At.Reset at) fits quiet = no_reset l at fits quiet
apart_of l _ fits quiet = tt

pub starts_tie : StartsTie
starts_tie k w l good state quiet says none =
    starts_at k l l.at (apart_of l l.at state.says.fits.place quiet) quiet w good state says none
