-- Where a turn at guards or at bins is steps of the whole, all of the seat's next position is there.
use Rattle.std.proofs.Common.{◌≡◌, ◌∙◌, ℕ, true, refl, ap, sym, subst}
use Rattle.std.specs.Prelude.{⊤}
use Rattle.pool_words.specs.declared.words.Key.{Key}
use Rattle.pool_words.specs.declared.actions.Action.{Action}
use Rattle.pool_words.specs.declared.actions.Action.TheVariants.{Load, Store, Swap, Exchange, Add, TakeOffice}
use Rattle.pool_words.specs.declared.actions.Action.TheVariants.{GiveOffice, Nothing}
use Rattle.pool_words.specs.Actions.{word_seen}
use Rattle.word_laws.specs.Memory.{Mem, found}
use Rattle.office_laws.specs.Regions as offices
use Rattle.step_local.specs.declared.frames.At.{At}
use Rattle.step_local.specs.declared.frames.Local.{Local}
use Rattle.step_local.specs.Course.{course}
use Rattle.step_runs.specs.Entries.{seen_by}
use Rattle.step_runs.specs.Places.{has_word}
use Rattle.step_laws.specs.Tasks.{task_of}
use Rattle.step_tasks.specs.Mail.{mail_left, mail_task_of}
use Rattle.step_tasks.specs.Objects.{object_task_of, task_left}
use Rattle.backend_tasks.specs.Bins.{bin_left}
use Rattle.backend_tasks.specs.Guards.{guard_left}
use Rattle.backend_tasks.specs.Queue.{queue_left, queue_task_of}
use Rattle.cache_tasks.specs.Cache.{cache_left, cache_task_of}
use Rattle.orphan_tasks.specs.Orphans.{orphan_left, orphan_task_of, spares_left, spares_of}
use Rattle.heap_tasks.specs.Heaps.{cached_left, cached_of, kept_left, kept_of, last_left, last_of}
use Rattle.heap_tasks.specs.Notes.{notes_left, notes_of}
use Rattle.hand_blocks.specs.Changes.{HandsLead, changes_at}
use Rattle.hand_blocks.specs.Hands.{hands_of}
use Rattle.hand_blocks.proofs.CallerLemmas.{turns_change_hands}
use Rattle.pool_laws.specs.Wholes.{Whole}
use Rattle.seat_ties.specs.Left.{Suits}
use Rattle.seat_ties.specs.Says.{WordsSay}
use Rattle.seat_ties.specs.Ties.{HandsTied, SeatTied}
use Rattle.seat_ties.specs.Turns.{StepLeaves, found_in, may_start, next_in, seen_in}
use Rattle.seat_ties.proofs.CallerLemmas.{elsewhere_leaves_office, seats_left_are_here, turns_start_desks}
use Rattle.backend_moves.specs.Moved.{Moved}

-- a seat is told what its action finds
pub told_is : (m : Mem) (action : Action) → word_seen (seen_by action (found m action)) ≡ found m action
told_is m (Load w) = refl
told_is m (Store w value) = refl
told_is m (Swap w value) = refl
told_is m (Exchange w from to) = refl
told_is m (Add w value) = refl
told_is m (TakeOffice job) = refl
told_is m GiveOffice = refl
told_is m Nothing = refl

-- what a step leaves of a local where it is at none of these groups
pub record OthersStay (l : Local) (found : ℕ) : Type 0 where
  pub objects : task_left l found ≡ object_task_of l
  pub mails : mail_left l found ≡ mail_task_of l
  pub orphans : orphan_left l found ≡ orphan_task_of l
  pub jobs : cache_left l found ≡ cache_task_of l
  pub desks : task_of l ≡ offices.Task.Away
  pub kept : kept_left l found ≡ kept_of l
  pub cached : cached_left l ≡ cached_of l
  pub spares : spares_left l found ≡ spares_of l
  pub last : last_left l ≡ last_of l
  pub notes : notes_left l found ≡ notes_of l

abbrev pub IsBackendAt : At → Type 0
IsBackendAt (At.Scan at) = ⊤
IsBackendAt (At.Cut at) = ⊤
IsBackendAt At.Queue = ⊤
IsBackendAt (At.Whole at) = ⊤
IsBackendAt (At.Drain at) = ⊤
IsBackendAt (At.Put at) = ⊤
IsBackendAt _ = ⊥

pub others_stay : (l : Local) (at : At) (found : ℕ) → IsBackendAt at → OthersStay (record l { at = at }) found
others_stay l (At.Scan at) found is = record {
  objects = refl;
  mails = refl;
  orphans = refl;
  jobs = refl;
  desks = refl;
  kept = refl;
  cached = refl;
  spares = refl;
  last = refl;
  notes = refl;
}
others_stay l (At.Cut at) found is = record {
  objects = refl;
  mails = refl;
  orphans = refl;
  jobs = refl;
  desks = refl;
  kept = refl;
  cached = refl;
  spares = refl;
  last = refl;
  notes = refl;
}
others_stay l At.Queue found is = record {
  objects = refl;
  mails = refl;
  orphans = refl;
  jobs = refl;
  desks = refl;
  kept = refl;
  cached = refl;
  spares = refl;
  last = refl;
  notes = refl;
}
others_stay l (At.Whole at) found is = record {
  objects = refl;
  mails = refl;
  orphans = refl;
  jobs = refl;
  desks = refl;
  kept = refl;
  cached = refl;
  spares = refl;
  last = refl;
  notes = refl;
}
others_stay l (At.Drain at) found is = record {
  objects = refl;
  mails = refl;
  orphans = refl;
  jobs = refl;
  desks = refl;
  kept = refl;
  cached = refl;
  spares = refl;
  last = refl;
  notes = refl;
}
others_stay l (At.Put at) found is = record {
  objects = refl;
  mails = refl;
  orphans = refl;
  jobs = refl;
  desks = refl;
  kept = refl;
  cached = refl;
  spares = refl;
  last = refl;
  notes = refl;
}
others_stay l _ found is = absurd is

-- a turn that leaves of guards, of bins and of hands what the local's rows say, and of the queue what it had
pub leaves_by : (k : Key) (w : Whole) (l : Local) → SeatTied k w l.seat l → has_word (course l) ≡ true
    → Suits k l (seen_in w l) → OthersStay l (found_in w l) → queue_task_of l ≡ queue_left l (seen_in w l)
    → (moved : Moved k w l.seat (course l) (guard_left l (found_in w l)) (bin_left l (found_in w l))
    (changes_at l l.at (found_in w l))) → WordsSay moved.later l.seat (next_in w l) → StepLeaves k w l
leaves_by k w l tied word suits stay queue moved say =
    let later : Whole = moved.later in
    let beside = moved.beside in
    let told : word_seen (seen_in w l) ≡ found_in w l = told_is w.pool.mem (course l) in
    record {
      later = later;
      run = moved.run;
      words = moved.words;
      office = beside.office ∙ sym (elsewhere_leaves_office l l.at w.office stay.desks);
      here = seats_left_are_here k later l.seat l (seen_in w l) tied.says suits (record {
        tasks = record {
          guards = moved.guards' ∙ ap (guard_left l) (sym told);
          bins = moved.bins' ∙ ap (bin_left l) (sym told);
          queue = ap (λ f. f l.seat) beside.queue ∙ tied.tasks.queue ∙ queue;
          objects = ap (λ x. x.tasks l.seat) beside.locals ∙ tied.tasks.objects ∙ sym stay.objects
              ∙ ap (task_left l) (sym told);
          mails = ap (λ f. f l.seat) beside.mails ∙ tied.tasks.mails ∙ sym stay.mails ∙ ap (mail_left l) (sym told);
          orphans = ap (λ f. f l.seat) beside.tasks ∙ tied.tasks.orphans ∙ sym stay.orphans
              ∙ ap (orphan_left l) (sym told);
          jobs = ap (λ f. f l.seat) beside.jobs ∙ tied.tasks.jobs ∙ sym stay.jobs ∙ ap (cache_left l) (sym told);
          desks = may_start (ap (λ f. f l.seat) beside.desks ∙ tied.tasks.desks ∙ stay.desks)
              (turns_start_desks l (found_in w l) word stay.desks);
        };
        heap = record {
          kept = ap (λ f. f l.seat) beside.kept ∙ tied.heap.kept ∙ sym stay.kept ∙ ap (kept_left l) (sym told);
          cached = ap (λ f. f l.seat) beside.cached ∙ tied.heap.cached ∙ sym stay.cached;
          spares = ap (λ f. f l.seat) beside.spares ∙ tied.heap.spares ∙ sym stay.spares
              ∙ ap (spares_left l) (sym told);
          last = ap (λ x. x.lasts l.seat) beside.locals ∙ tied.heap.last ∙ sym stay.last;
        };
        notes = ap (λ x. x.notes l.seat) beside.locals ∙ tied.notes ∙ sym stay.notes ∙ ap (notes_left l) (sym told);
      }) (subst (λ xs. HandsTied later.pool.blocks.place (xs l.seat) l.seat (hands_of (next_in w l)))
          (sym beside.drained)
          (moved.hands (hands_of l) (hands_of (next_in w l)) tied.hands
          (subst (λ f. HandsLead (changes_at l l.at f) (hands_of l) (hands_of (next_in w l))) told
          (turns_change_hands l (seen_in w l) tied.says.hands suits.step)))) say;
    }
