-- A call begins, and is answered.
use Rattle.std.proofs.Common.{◌≡◌, ◌⊎◌, ◌∙◌, ◌++◌, inl, inr, ℕ, true, false, Bool, List, [], ◌∷◌, refl, sym, ap, subst}
use Rattle.std.specs.Prelude.{cond, Result, Ok, Err}
use Rattle.pool_types.specs.declared.values.InCall.{InCall}
use Rattle.pool_types.specs.declared.values.Answer.{Answer}
use Rattle.pool_types.specs.declared.values.Request.{Request}
use Rattle.pool_words.specs.declared.actions.Seen.{Seen}
use Rattle.pool_words.specs.declared.words.Key.{Key}
use Rattle.backend_bins.specs.declared.cut.CutAt.{CutAt}
use Rattle.backend_bins.specs.declared.scan.ScanAt.{ScanAt}
use Rattle.backend_bins.specs.declared.scan.ScanStep.{ScanStep}
use Rattle.coalescer.specs.declared.drain.DrainAt.{DrainAt}
use Rattle.coalescer.specs.declared.put.PutAt.{PutAt}
use Rattle.coalescer.specs.declared.put.PutStep.{PutStep}
use Rattle.region_steps.specs.declared.office.OfficeAt.{OfficeAt}
use Rattle.bin_laws.specs.Bins as bins
use Rattle.queue_laws.specs.Queue as queues
use Rattle.object_laws.specs.Objects as objects
use Rattle.mail_laws.specs.Mail as mailing
use Rattle.orphan_laws.specs.Orphans as orphaning
use Rattle.office_laws.specs.Regions as offices
use Rattle.cache_laws.specs.Good as caches
use Rattle.step_local.specs.declared.frames.At.{At}
use Rattle.step_local.specs.declared.frames.Local.{Local}
use Rattle.step_local.specs.declared.frames.OfficeFor.{OfficeFor}
use Rattle.step_local.specs.declared.frames.PutFor.{PutFor}
use Rattle.step_local.specs.Backend.{cut_call}
use Rattle.step_local.specs.Learn.{learn}
use Rattle.step_local.specs.Getting.{asked_for, begun, begun_as, is_idle}
use Rattle.step_runs.specs.Places.{away, carry_of}
use Rattle.step_runs.proofs.CallerLemmas.{other_turns_lead}
use Rattle.step_laws.specs.Tasks.{task_at, task_of}
use Rattle.step_tasks.specs.Laws.{StartsOrStays, StartsOrStaysWithMail}
use Rattle.step_tasks.specs.Mail.{mail_task_of, MailStarts}
use Rattle.step_tasks.specs.Objects.{object_task_of, Starts}
use Rattle.step_tasks.proofs.CallerLemmas.{begins_start_mail_tasks, begins_start_object_tasks}
use Rattle.backend_tasks.specs.Bins.{bin_task_of, bin_task_at, scan_task}
use Rattle.backend_tasks.specs.Guards.{guard_task_of}
use Rattle.backend_tasks.specs.Laws.{HasNoTask}
use Rattle.backend_tasks.specs.Laws as backend
use Rattle.backend_tasks.specs.Queue.{queue_task_of, queue_task_at}
use Rattle.backend_tasks.proofs.CallerLemmas.{begins_keep_backend_fits, begins_start_backend_tasks}
use Rattle.cache_tasks.specs.Cache.{cache_task_of, CacheStarts}
use Rattle.cache_tasks.specs.Laws.{StartsOrStaysAtCache}
use Rattle.cache_tasks.proofs.CallerLemmas.{begins_start_cache_tasks, turns_keep_released}
use Rattle.orphan_tasks.specs.Laws.{OrphanBegins}
use Rattle.orphan_tasks.specs.Orphans.{orphan_task_of, spares_of}
use Rattle.orphan_tasks.specs.Starts.{OrphanFits, OrphanStarts}
use Rattle.orphan_tasks.proofs.CallerLemmas.{begins_start_orphan_tasks}
use Rattle.heap_tasks.proofs.CallerLemmas.{begins_keep_stages, begins_leave_heaps, begins_note_nothing}
use Rattle.hand_blocks.specs.Fits.{HandsFit}
use Rattle.hand_blocks.specs.Hands.{Hand, beside_put, hands_at, hands_of, put_hands_at, released_hands, swept_hands}
use Rattle.hand_blocks.specs.Laws as hands
use Rattle.hand_blocks.proofs.CallerLemmas.{begins_leave_hands, turns_change_hands}
use Rattle.heap_tasks.specs.Laws.{SameHeap}
use Rattle.heap_tasks.specs.Notes.{notes_of}
use Rattle.heap_tasks.specs.Stages.{StageFits}
use Rattle.backend_tasks.specs.Fits.{BackendFits}
use Rattle.cache_tasks.specs.Released.{ReleasedFits}
use Rattle.step_fits.specs.Positions.{LocalFits}
use Rattle.step_fits.proofs.CallerLemmas.{begins_keep_fits}
use Rattle.pool_laws.specs.Wholes.{Whole}
use Rattle.seat_ties.specs.Says.{CutSays, DrainSays, OfficeSays, PutSays, SaysAt, ScanSays, WordsSay}
use Rattle.seat_ties.specs.Ties.{HandsTied, SaysItself, SeatTied}
use Rattle.seat_ties.specs.Turns.{DeskStarts, DeskStartsAt, Here, goes_on, may_start, are, StateHere}
use Rattle.seat_ties.specs.Left.{Suits}
use Rattle.seat_ties.proofs.CallerLemmas.{desk_starts, nothing_is_said_elsewhere, seats_left_are_here}
use Rattle.seat_starts.specs.Laws.{AnswersAreHere, BeginsAreHere, IsHereOrSame}

-- a list that ends in something is not empty
none_behind : (xs ys : List Hand) → xs ++ ys ≡ [] → ys ≡ []
none_behind [] ys e = e
none_behind (x ∷ xs) ys e = absurd (cc)

none_beside : (l : Local) (why : PutFor) (hands : List Hand) → beside_put l why hands ≡ [] → hands ≡ []
none_beside l PutFor.Swept hands e =
    none_behind (released_hands l.sweep.granules l.released.items) hands (none_behind (swept_hands l) _ e)
none_beside l PutFor.Surplus hands e = e
none_beside l PutFor.Released hands e = e
none_beside l PutFor.Emptied hands e = e
none_beside l PutFor.Left hands e = e

some_left : {A : Type 0} (x : Hand) (xs : List Hand) → x ∷ xs ≡ [] → A
some_left x xs e = absurd (cc)

-- with nothing in hand and nothing under way the words have nothing to say
module _ (w : Whole) (seat : ℕ) (l : Local) where
  cut_nothing : (at : CutAt) → hands_at l (At.Cut at) ≡ [] → CutSays w (cut_call l) at
  cut_nothing CutAt.FrontLeft e = tt
  cut_nothing CutAt.FrontSize e = some_left _ _ e
  cut_nothing CutAt.BackLeft e = tt
  cut_nothing CutAt.BackSize e = some_left _ [] (none_behind _ _ e)
  cut_nothing (CutAt.Front at) e = tt
  cut_nothing (CutAt.Back at) e = tt

  drain_nothing : (at : DrainAt) → queue_task_at l (At.Drain at) ≡ queues.Task.Away → DrainSays w at
  drain_nothing DrainAt.Swap e = tt
  drain_nothing (DrainAt.Link first) e = tt
  drain_nothing (DrainAt.Put rest at) e = absurd (cc)

  put_nothing : (p : PutAt) (step : PutStep) → put_hands_at p step ≡ [] → PutSays w p step
  put_nothing p PutStep.Size e = tt
  put_nothing p (PutStep.Bin at) e = tt
  put_nothing p (PutStep.UnlinkLeft neighbour at) e = some_left _ _ e
  put_nothing p (PutStep.UnlinkRight neighbour at) e = some_left _ _ e
  put_nothing p PutStep.Left e = some_left _ _ e
  put_nothing p PutStep.LeftWord e = some_left _ _ e
  put_nothing p (PutStep.WinLeft granules at) e = some_left _ _ e
  put_nothing p PutStep.RightWord e = some_left _ _ e
  put_nothing p (PutStep.WinRight granules at) e = some_left _ _ e
  put_nothing p PutStep.FarLeft e = some_left _ _ e
  put_nothing p PutStep.FarRight e = some_left _ _ e
  put_nothing p (PutStep.Queue at) e = some_left _ _ e

  scan_nothing : (s : ScanAt) (step : ScanStep) → scan_task s step ≡ bins.Task.Away → ScanSays w.items s.bin step
  scan_nothing s (ScanStep.Length first) e = absurd (cc)
  scan_nothing s (ScanStep.Win b at) e = absurd (cc)
  scan_nothing s (ScanStep.Next first) e = absurd (cc)
  scan_nothing s _ e = tt

  office_nothing : (job : OfficeFor) (at : OfficeAt) → at ≡ OfficeAt.Lock → hands_at l (At.Office job OfficeAt.Lock) ≡ []
      → OfficeSays w seat job OfficeAt.Lock
  office_nothing OfficeFor.Ask at is e = tt
  office_nothing (OfficeFor.Put first) at is e = some_left _ [] (none_beside l l.put _ e)
  office_nothing (OfficeFor.Drain first rest) at is e = some_left _ [] e

  desk_nothing : (job : OfficeFor) (at : OfficeAt) → at ≡ OfficeAt.Lock → hands_at l (At.Office job at) ≡ []
      → OfficeSays w seat job at
  desk_nothing job OfficeAt.Lock is e = office_nothing job OfficeAt.Lock is e
  desk_nothing job _ is e = absurd (cc)

  nothing_said : (at : At) → hands_at l at ≡ [] → bin_task_at l at ≡ bins.Task.Away
      → queue_task_at l at ≡ queues.Task.Away → DeskStartsAt at → SaysAt w seat l at
  nothing_said (At.Scan at) none bin queue desk = scan_nothing at at.step bin
  nothing_said (At.Cut at) none bin queue desk = cut_nothing at none
  nothing_said (At.Drain at) none bin queue desk = drain_nothing at queue
  nothing_said (At.Put at) none bin queue desk = put_nothing at at.step (none_beside l l.put _ none)
  nothing_said (At.Office job at) none bin queue desk = desk_nothing job at desk none
  nothing_said _ none bin queue desk = tt

-- no call is begun but where none was
idle_at : (at : At) → is_idle at ≡ true → at ≡ At.Idle
idle_at At.Idle e = refl
idle_at _ e = absurd (cc)

same_where_busy : (l : Local) (request : Request) → is_idle l.at ≡ false → (begun l request).0 ≡ l
same_where_busy l request e = ap (λ (b : Bool). (cond {A = Local × Result Unit InCall} b
    (begun_as (asked_for l request) request, Ok tt) (l, Err (record { seat = l.seat }))).0) e

idle_desk : (l : Local) (at : At) → at ≡ At.Idle → (task_at l at ≡ offices.Task.Away) × (carry_of at ≡ away)
idle_desk l At.Idle e = (refl, refl)
idle_desk l _ e = absurd (cc)

module _ (k : Key) (w : Whole) (l next : Local) (tied : SeatTied k w l.seat l) where
  objects_or : StartsOrStays l next
      → Here (w.pool.locals.tasks l.seat) (object_task_of next) objects.Task.Away (Starts next)
  objects_or (inl starts) = may_start (tied.tasks.objects ∙ starts.0) starts.1
  objects_or (inr same) = goes_on (tied.tasks.objects ∙ sym (ap object_task_of same))

  mails_or : StartsOrStaysWithMail l next
      → Here (w.mails l.seat) (mail_task_of next) mailing.Task.Away (MailStarts next)
  mails_or (inl starts) = may_start (tied.tasks.mails ∙ starts.0) starts.1
  mails_or (inr same) = goes_on (tied.tasks.mails ∙ sym (ap mail_task_of same))

  jobs_or : StartsOrStaysAtCache l next
      → Here (w.jobs l.seat) (cache_task_of next) caches.Task.Away (CacheStarts next)
  jobs_or (inl starts) = may_start (tied.tasks.jobs ∙ starts.0) starts.1
  jobs_or (inr same) = goes_on (tied.tasks.jobs ∙ sym (ap cache_task_of same))

  orphans_or : OrphanBegins l next ⊎ (next ≡ l)
      → Here (w.tasks l.seat) (orphan_task_of next) orphaning.Task.Away (OrphanStarts next)
  orphans_or (inl starts) = may_start (tied.tasks.orphans ∙ starts.away) starts.moves.goes_on
  orphans_or (inr same) = goes_on (tied.tasks.orphans ∙ sym (ap orphan_task_of same))

  orphans_fit : OrphanBegins l next ⊎ (next ≡ l) → OrphanFits next × (spares_of next ≡ spares_of l)
  orphans_fit (inl starts) = (starts.moves.fits, starts.moves.spares')
  orphans_fit (inr same) = (subst OrphanFits (sym same) tied.says.orphans, ap spares_of same)

  backend_or : backend.BeginsOrStays l next
      → (w.pool.tasks l.seat ≡ guard_task_of next) × (w.bins l.seat ≡ bin_task_of next)
      × (w.queue l.seat ≡ queue_task_of next)
  backend_or (inl none) = (
    tied.tasks.guards ∙ none.0.guard ∙ sym none.1.guard,
    tied.tasks.bins ∙ none.0.bin ∙ sym none.1.bin,
    tied.tasks.queue ∙ none.0.queue ∙ sym none.1.queue,
  )
  backend_or (inr same) = (
    tied.tasks.guards ∙ sym (ap guard_task_of same),
    tied.tasks.bins ∙ sym (ap bin_task_of same),
    tied.tasks.queue ∙ sym (ap queue_task_of same),
  )

  hands_or : hands.BeginsOrStays l next
      → HandsFit next × HandsTied w.pool.blocks.place (w.drained l.seat) l.seat (hands_of next)
  hands_or (inl empty) = (
    empty.fits,
    subst (HandsTied w.pool.blocks.place (w.drained l.seat) l.seat) (sym empty.after)
        (record { lie = tt; once = tt; apart = tt }),
  )
  hands_or (inr same) = (
    subst HandsFit (sym same) tied.says.hands,
    subst (λ m. HandsTied w.pool.blocks.place (w.drained l.seat) l.seat (hands_of m)) (sym same) tied.hands,
  )

  words_or : hands.BeginsOrStays l next → backend.BeginsOrStays l next → DeskStarts next → WordsSay w l.seat next
  words_or (inr same) backend desk = subst (WordsSay w l.seat) (sym same) tied.words
  words_or (inl empty) (inr same) desk = subst (WordsSay w l.seat) (sym same) tied.words
  words_or (inl empty) (inl none) desk =
      nothing_said w l.seat next next.at empty.after none.1.bin none.1.queue desk

  says_or : (request : Request) → next ≡ (begun l request).0 → SaysItself k l.seat next
  says_or request is =
      let orphan = orphans_fit (subst (λ m. OrphanBegins l m ⊎ (m ≡ l)) (sym is)
      ((begins_start_orphan_tasks l tied.says.orphans).begins request)) in
      let in-hand = hands_or (subst (hands.BeginsOrStays l) (sym is) ((begins_leave_hands l).begins request)) in
      record {
        number = tied.says.number;
        fits = subst (LocalFits k l.seat true) (sym is) (begins_keep_fits k l.seat true l request tied.says.fits);
        stage = subst StageFits (sym is) ((begins_keep_stages l tied.says.stage).begins request);
        hands = in-hand.0;
        backend = subst BackendFits (sym is) ((begins_keep_backend_fits l tied.says.backend).begins request);
        released = subst ReleasedFits (sym is) ((turns_keep_released l tied.says.released).begins request);
        orphans = orphan.0;
      }

  -- where the desk is when a call began of an idle local
  desk_or : carry_of next.at ≡ carry_of l.at → l.at ≡ At.Idle
      → Here (w.desks l.seat) (task_of next) offices.Task.Away (DeskStarts next)
  desk_or carry idle =
      let was = idle_desk l l.at idle in
      may_start (tied.tasks.desks ∙ was.0) (desk_starts next.at (carry ∙ was.1))

  begun_here : (request : Request) → next ≡ (begun l request).0 → l.at ≡ At.Idle → StateHere k w l.seat next
  begun_here request is idle =
      let backend = subst (backend.BeginsOrStays l) (sym is) ((begins_start_backend_tasks l).begins request) in
      let in-hand = subst (hands.BeginsOrStays l) (sym is) ((begins_leave_hands l).begins request) in
      let orphan = subst (λ m. OrphanBegins l m ⊎ (m ≡ l)) (sym is)
      ((begins_start_orphan_tasks l tied.says.orphans).begins request) in
      let parts = backend_or backend in
      let heap = subst (SameHeap l) (sym is) ((begins_leave_heaps l).begins request) in
      let carry = subst (λ m. carry_of m.at ≡ carry_of l.at) (sym is) ((other_turns_lead l).begins request) in
      let desk = desk_starts next.at (carry ∙ (idle_desk l l.at idle).1) in
      record {
        says = says_or request is;
        tasks = record {
          guards = goes_on parts.0;
          bins = parts.1;
          queue = goes_on parts.2;
          objects = objects_or (subst (StartsOrStays l) (sym is) ((begins_start_object_tasks l).begins request));
          mails = mails_or (subst (StartsOrStaysWithMail l) (sym is) ((begins_start_mail_tasks l).begins request));
          orphans = orphans_or orphan;
          jobs = jobs_or (subst (StartsOrStaysAtCache l) (sym is) ((begins_start_cache_tasks l).begins request));
          desks = desk_or carry idle;
        };
        heap = record {
          kept = tied.heap.kept ∙ sym heap.0;
          cached = tied.heap.cached ∙ sym heap.1;
          spares = tied.heap.spares ∙ sym (orphans_fit orphan).1;
          last = tied.heap.last ∙ sym heap.2;
        };
        notes = are (tied.notes ∙ sym (subst (λ m. notes_of m ≡ notes_of l) (sym is)
            ((begins_note_nothing l tied.says.stage).begins request)));
        hands = (hands_or in-hand).1;
        words = words_or in-hand backend desk;
      }

begins_by : (k : Key) (w : Whole) (l : Local) (request : Request) → SeatTied k w l.seat l → (b : Bool)
    → is_idle l.at ≡ b → IsHereOrSame k w l (begun l request).0
begins_by k w l request tied true e = inl (begun_here k w l (begun l request).0 tied request refl (idle_at l.at e))
begins_by k w l request tied false e = inr (same_where_busy l request e)

pub begins_are_here : BeginsAreHere
begins_are_here k w l request tied = begins_by k w l request tied (is_idle l.at) refl

-- a call that is answered leaves its seat with nothing to do
answered_here : (k : Key) (w : Whole) (l0 : Local) (answer : Answer)
    → SeatTied k w l0.seat (record l0 { at = At.Ready answer })
    → StateHere k w l0.seat (learn (record l0 { at = At.Ready answer }) Seen.Done).0
answered_here k w l0 answer tied =
    let l : Local = record l0 { at = At.Ready answer } in
    let none = nothing_is_said_elsewhere w l0.seat l Seen.Done tt in
    let suits : Suits k l Seen.Done = record {
      new = tt;
      step = record { lie = tt; seen = tt };
      finds = tt;
      room = tt;
      wins = none.wins;
    } in
    let led = turns_change_hands l Seen.Done tied.says.hands suits.step in
    seats_left_are_here k w l0.seat l Seen.Done tied.says suits
    (record {
      tasks = record {
        guards = tied.tasks.guards;
        bins = tied.tasks.bins;
        queue = tied.tasks.queue;
        objects = tied.tasks.objects;
        mails = tied.tasks.mails;
        orphans = tied.tasks.orphans;
        jobs = tied.tasks.jobs;
        desks = may_start tied.tasks.desks
            (desk_starts (learn l Seen.Done).0.at ((other_turns_lead l).answers refl).to);
      };
      heap = record {
        kept = tied.heap.kept;
        cached = tied.heap.cached;
        spares = tied.heap.spares;
        last = tied.heap.last;
      };
      notes = tied.notes;
    })
    (subst (HandsTied w.pool.blocks.place (w.drained l0.seat) l0.seat) (sym led) tied.hands) none.words

pub answers_are_here : AnswersAreHere
answers_are_here k w l answer tied is =
    subst (λ m. SeatTied k w l.seat m → StateHere k w l.seat (learn m Seen.Done).0)
    (ap (λ (a : At). record l { at = a }) (sym is)) (answered_here k w l answer) tied
