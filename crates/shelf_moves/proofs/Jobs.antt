-- A turn of a job at a bin of the cache leaves all else of its seat as it was.
use Rattle.std.proofs.Common.{◌≡◌, ◌∙◌, ℕ, List, [], ◌∷◌, true, ap, refl, sym, subst}
use Rattle.guards.specs.declared.win.Taking.{Taking}
use Rattle.pool_words.specs.declared.words.Key.{Key}
use Rattle.pool_words.specs.declared.actions.Action.{Action}
use Rattle.pool_words.specs.declared.actions.Action.TheVariants.{Load, Store, Swap, Exchange, Add}
use Rattle.pool_words.specs.declared.actions.Action.TheVariants.{TakeOffice, GiveOffice, Nothing}
use Rattle.pool_words.specs.declared.actions.Seen.{Seen}
use Rattle.pool_words.specs.Actions.{word_seen}
use Rattle.word_laws.specs.Memory.{Mem, after, found}
use Rattle.word_laws.proofs.CallerLemmas.{put_here}
use Rattle.guard_laws.specs.Blocks as guards
use Rattle.object_laws.specs.Objects as objects
use Rattle.office_laws.specs.Regions as offices
use Rattle.bin_laws.specs.Bins as bins
use Rattle.queue_laws.specs.Queue as queues
use Rattle.use_laws.specs.After.{pool_unshelved, with_mem}
use Rattle.use_laws.specs.Pools.{Pool}
use Rattle.shelf_laws.specs.Steps.{left_by_get, left_by_keep, left_by_sweep, shelved_by, taken_out}
use Rattle.large_cache.specs.declared.keep.KeepAt.{KeepAt}
use Rattle.large_cache.specs.Get.{get_course}
use Rattle.large_cache.specs.Keep.{keep_course}
use Rattle.large_cache.specs.Sweep.{sweep_course}
use Rattle.step_local.specs.declared.frames.At.{At}
use Rattle.step_local.specs.declared.frames.Local.{Local}
use Rattle.step_local.specs.Course.{course}
use Rattle.step_local.specs.Large.{cache_call, granules_of_served, keep_call, sweep_call}
use Rattle.step_runs.specs.Entries.{seen_by}
use Rattle.step_runs.specs.Places.{has_word}
use Rattle.step_laws.specs.Tasks.{shadow_by, task_of}
use Rattle.step_tasks.specs.Mail.{mail_left}
use Rattle.step_tasks.specs.Objects.{task_left}
use Rattle.backend_tasks.specs.Bins.{bin_left, bin_task_of}
use Rattle.backend_tasks.specs.Guards.{guard_left, guard_task_of}
use Rattle.backend_tasks.specs.Queue.{queue_left, queue_task_of}
use Rattle.cache_tasks.specs.Cache.{cache_left, gone_at}
use Rattle.cache_tasks.specs.Shelves.{HasJob, HasJobAt, shelf_left_at}
use Rattle.cache_moves.specs.Moved.{IsOffBackend, whole_turned}
use Rattle.cache_moves.proofs.CallerLemmas.{turns_are_whole_steps, turns_leave_other_tasks}
use Rattle.orphan_tasks.specs.Orphans.{orphan_left, orphan_task_of, spares_left, spares_of}
use Rattle.step_tasks.specs.Mail.{mail_task_of}
use Rattle.step_tasks.specs.Objects.{object_task_of}
use Rattle.heap_tasks.specs.Heaps.{cached_left, cached_of, kept_left, kept_of, last_left, last_of}
use Rattle.heap_tasks.specs.Notes.{notes_left, notes_of}
use Rattle.hand_blocks.specs.Hands.{hands_of}
use Rattle.pool_laws.specs.Wholes.{Whole, WholeGood, shelf_of}
use Rattle.seat_ties.specs.Left.{Suits}
use Rattle.seat_ties.specs.Says.{IsElsewhere}
use Rattle.seat_ties.specs.Ties.{HandsTied, SeatTied}
use Rattle.seat_ties.specs.Turns.{StepLeaves, found_in, may_start, next_in, seen_in, stays, steps_on}
use Rattle.seat_ties.proofs.CallerLemmas.{nothing_is_said_elsewhere, seats_left_are_here, turns_start_desks}
use Rattle.slab_moves.proofs.CallerLemmas.{nothing_drained}

-- what the local has to do elsewhere, and what is left of that: nothing
pub record IsAlone (l : Local) (s : Seen) : Type 0 where
  pub guards : guard_task_of l ≡ guards.Task.Away
  pub bins : bin_task_of l ≡ bins.Task.Away
  pub queue : queue_task_of l ≡ queues.Task.Away
  pub desks : task_of l ≡ offices.Task.Away
  pub guards' : guard_left l (word_seen s) ≡ guard_task_of l
  pub bins' : bin_left l (word_seen s) ≡ bin_task_of l
  pub queue' : queue_left l s ≡ queue_task_of l
  pub objects' : task_left l (word_seen s) ≡ object_task_of l
  pub mails' : mail_left l (word_seen s) ≡ mail_task_of l
  pub orphans' : orphan_left l (word_seen s) ≡ orphan_task_of l
  pub kept' : kept_left l (word_seen s) ≡ kept_of l
  pub cached' : cached_left l ≡ cached_of l
  pub spares' : spares_left l (word_seen s) ≡ spares_of l
  pub last' : last_left l ≡ last_of l
  pub notes' : notes_left l (word_seen s) ≡ notes_of l
  pub elsewhere : IsElsewhere l.at
  pub office' : (g : offices.Shadow) → shadow_by l.at g ≡ g

alone_at : (l : Local) (at : At) (s : Seen) → HasJobAt at → IsAlone (record l { at = at }) s
alone_at l (At.Get at) s job = record {
  guards = refl;
  bins = refl;
  queue = refl;
  desks = refl;
  guards' = refl;
  bins' = refl;
  queue' = refl;
  objects' = refl;
  mails' = refl;
  orphans' = refl;
  kept' = refl;
  cached' = refl;
  spares' = refl;
  last' = refl;
  notes' = refl;
  elsewhere = tt;
  office' = λ g. refl;
}
alone_at l (At.Undo cause at) s job = record {
  guards = refl;
  bins = refl;
  queue = refl;
  desks = refl;
  guards' = refl;
  bins' = refl;
  queue' = refl;
  objects' = refl;
  mails' = refl;
  orphans' = refl;
  kept' = refl;
  cached' = refl;
  spares' = refl;
  last' = refl;
  notes' = refl;
  elsewhere = tt;
  office' = λ g. refl;
}
alone_at l (At.Keep at) s job = record {
  guards = refl;
  bins = refl;
  queue = refl;
  desks = refl;
  guards' = refl;
  bins' = refl;
  queue' = refl;
  objects' = refl;
  mails' = refl;
  orphans' = refl;
  kept' = refl;
  cached' = refl;
  spares' = refl;
  last' = refl;
  notes' = refl;
  elsewhere = tt;
  office' = λ g. refl;
}
alone_at l (At.Sweep at) s job = record {
  guards = refl;
  bins = refl;
  queue = refl;
  desks = refl;
  guards' = refl;
  bins' = refl;
  queue' = refl;
  objects' = refl;
  mails' = refl;
  orphans' = refl;
  kept' = refl;
  cached' = refl;
  spares' = refl;
  last' = refl;
  notes' = refl;
  elsewhere = tt;
  office' = λ g. refl;
}
alone_at l _ s job = absurd job

-- what a step finds is what its seat is told
told : (m : Mem) (action : Action) → word_seen (seen_by action (found m action)) ≡ found m action
told m (Load word) = refl
told m (Store word value) = refl
told m (Swap word value) = refl
told m (Exchange word from to) = refl
told m (Add word value) = refl
told m (TakeOffice job) = refl
told m GiveOffice = refl
told m Nothing = refl

-- blocks that move change no heap
kept_out : (seat : ℕ) (taking : Taking) (b : ℕ) (xs : List ℕ) (p : Pool)
    → (taken_out seat taking b xs p).kept ≡ p.kept
kept_out seat taking b [] p = refl
kept_out seat taking b (x ∷ xs) p = kept_out seat taking b xs (pool_unshelved seat x b taking p)

cached_out : (seat : ℕ) (taking : Taking) (b : ℕ) (xs : List ℕ) (p : Pool)
    → (taken_out seat taking b xs p).cached ≡ p.cached
cached_out seat taking b [] p = refl
cached_out seat taking b (x ∷ xs) p = cached_out seat taking b xs (pool_unshelved seat x b taking p)

-- nor does the block that is put
pub record SameHeaps (p later : Pool) : Type 0 where
  pub kept : later.kept ≡ p.kept
  pub cached : later.cached ≡ p.cached

heaps_shelved : (at : KeepAt) (x b : ℕ) (p : Pool) → SameHeaps p (shelved_by at x b p)
heaps_shelved KeepAt.Lock x b p = record { kept = refl; cached = refl }
heaps_shelved KeepAt.Items x b p = record { kept = refl; cached = refl }
heaps_shelved (KeepAt.Head items) x b p = record { kept = refl; cached = refl }
heaps_shelved (KeepAt.Walk tail) x b p = record { kept = refl; cached = refl }
heaps_shelved (KeepAt.OldAge tail) x b p = record { kept = refl; cached = refl }
heaps_shelved (KeepAt.Cut tail age) x b p = record { kept = refl; cached = refl }
heaps_shelved (KeepAt.SetCleaned tail age) x b p = record { kept = refl; cached = refl }
heaps_shelved (KeepAt.SetLink items head released) x b p = record { kept = refl; cached = refl }
heaps_shelved (KeepAt.SetAge items released) x b p = record { kept = refl; cached = refl }
heaps_shelved (KeepAt.SetHead items released) x b p = record { kept = refl; cached = refl }
heaps_shelved (KeepAt.SetItems items released) x b p = record { kept = refl; cached = refl }
heaps_shelved (KeepAt.Used released) x b p = record { kept = refl; cached = refl }
heaps_shelved (KeepAt.SetUsed released used) x b p = record { kept = refl; cached = refl }
heaps_shelved (KeepAt.Unlock released) x b p = record { kept = refl; cached = refl }

heaps_at : (k : Key) (taking : Taking) (l : Local) (w : Whole) (at : At)
    → SameHeaps w.pool (shelf_left_at k taking l at (shelf_of w)).pool
heaps_at k taking l w (At.Get at) =
    let b : ℕ = granules_of_served l.call.served in
    let p : Pool = with_mem (after k w.pool.mem (get_course (cache_call l) at)) w.pool in
    record { kept = kept_out l.seat taking b (left_by_get at) p; cached = cached_out l.seat taking b (left_by_get at) p }
heaps_at k taking l w (At.Undo cause at) = record { kept = refl; cached = refl }
heaps_at k taking l w (At.Keep at) =
    let b : ℕ = l.call.block.granules in
    let p : Pool = with_mem (after k w.pool.mem (keep_course (keep_call l) at)) w.pool in
    let put = heaps_shelved at l.call.block.first b p in
    let q : Pool = shelved_by at l.call.block.first b p in
    record {
      kept = kept_out l.seat taking b (left_by_keep at) q ∙ put.kept;
      cached = cached_out l.seat taking b (left_by_keep at) q ∙ put.cached;
    }
heaps_at k taking l w (At.Sweep at) =
    let b : ℕ = l.sweep.granules in
    let gone : List ℕ = left_by_sweep (gone_at l.released.items at) at in
    let p : Pool = with_mem (after k w.pool.mem (sweep_course (sweep_call l) at)) w.pool in
    record { kept = kept_out l.seat taking b gone p; cached = cached_out l.seat taking b gone p }
heaps_at k taking l w _ = record { kept = refl; cached = refl }

-- what is given at a turn
pub record Turn (k : Key) (w : Whole) (l : Local) : Type 0 where
  pub good : WholeGood k w
  pub tied : SeatTied k w l.seat l
  pub word : has_word (course l) ≡ true
  pub suits : Suits k l (seen_in w l)
  pub job : HasJob l

pub alone : (k : Key) (w : Whole) (l : Local) → Turn k w l → IsAlone l (seen_in w l)
alone k w l t = alone_at l l.at (seen_in w l) t.job

pub off : (k : Key) (w : Whole) (l : Local) → Turn k w l → IsOffBackend w l.seat
off k w l t =
    let is = alone k w l t in
    let queue : w.queue l.seat ≡ queues.Task.Away = t.tied.tasks.queue ∙ is.queue in
    record {
      guards = t.tied.tasks.guards ∙ is.guards;
      bins = t.tied.tasks.bins ∙ is.bins;
      queue = queue;
      drained = nothing_drained k w l.seat t.good queue;
    }

pub job_leaves : (k : Key) (taking : Taking) (w : Whole) (l : Local) → Turn k w l
    → HandsTied (whole_turned k taking l w).pool.blocks.place (w.drained l.seat) l.seat (hands_of (next_in w l))
    → StepLeaves k w l
job_leaves k taking w l t hands =
    let is = alone k w l t in
    let later : Whole = whole_turned k taking l w in
    let seat : ℕ = l.seat in
    let turn = turns_are_whole_steps k taking l w
    (record { job = t.job; task = t.tied.tasks.jobs; off = off k w l t }) in
    let keeps = turns_leave_other_tasks k taking l w in
    let heaps = heaps_at k taking l w l.at in
    record {
      later = later;
      run = steps_on stays turn.step;
      words = turn.mem';
      office = sym (is.office' w.office);
      here = seats_left_are_here k later seat l (seen_in w l) t.tied.says t.suits (record {
        tasks = record {
          guards = ap (λ f. f seat) keeps.guards' ∙ t.tied.tasks.guards ∙ sym is.guards';
          bins = ap (λ f. f seat) keeps.bins' ∙ t.tied.tasks.bins ∙ sym is.bins';
          queue = ap (λ f. f seat) keeps.queue' ∙ t.tied.tasks.queue ∙ sym is.queue';
          objects = ap (λ locals. objects.Locals.tasks locals seat) keeps.objects' ∙ t.tied.tasks.objects ∙ sym is.objects';
          mails = ap (λ f. f seat) keeps.mails' ∙ t.tied.tasks.mails ∙ sym is.mails';
          orphans = ap (λ f. f seat) keeps.orphans' ∙ t.tied.tasks.orphans ∙ sym is.orphans';
          jobs = ap (λ f. f seat) turn.jobs'
              ∙ put_here w.jobs seat seat (cache_left l (found w.pool.mem (course l))) refl
              ∙ ap (λ f. cache_left l f) (sym (told w.pool.mem (course l)));
          desks = may_start (ap (λ f. f seat) keeps.desks' ∙ t.tied.tasks.desks ∙ is.desks)
              (turns_start_desks l (found_in w l) t.word is.desks);
        };
        heap = record {
          kept = ap (λ f. f seat) heaps.kept ∙ t.tied.heap.kept ∙ sym is.kept';
          cached = ap (λ f. f seat) heaps.cached ∙ t.tied.heap.cached ∙ sym is.cached';
          spares = ap (λ f. f seat) keeps.spares' ∙ t.tied.heap.spares ∙ sym is.spares';
          last = ap (λ locals. objects.Locals.lasts locals seat) keeps.objects' ∙ t.tied.heap.last ∙ sym is.last';
        };
        notes = ap (λ locals. objects.Locals.notes locals seat) keeps.objects' ∙ t.tied.notes ∙ sym is.notes';
      }) (subst (λ drained. HandsTied later.pool.blocks.place (drained seat) seat (hands_of (next_in w l)))
          (sym keeps.drained') hands)
          (nothing_is_said_elsewhere later seat l (seen_in w l) is.elsewhere).words;
    }
