-- What a turn leaves is what the next position says.
use Rattle.std.proofs.Common.{ℕ, true, sym, ap, subst, ◌∙◌}
use Rattle.pool_words.specs.declared.words.Key.{Key}
use Rattle.pool_words.specs.declared.actions.Seen.{Seen}
use Rattle.step_local.specs.declared.frames.Local.{Local}
use Rattle.step_local.specs.Learn.{learn}
use Rattle.step_tasks.proofs.CallerLemmas.{turns_move_object_tasks, turns_move_mail_tasks}
use Rattle.backend_tasks.specs.Guards.{guard_task_of}
use Rattle.backend_tasks.specs.Queue.{queue_task_of}
use Rattle.backend_tasks.proofs.CallerLemmas.{turns_move_bin_tasks, turns_move_guard_tasks, turns_move_queue_tasks}
use Rattle.backend_tasks.proofs.CallerLemmas.{turns_keep_backend_fits}
use Rattle.cache_tasks.proofs.CallerLemmas.{turns_move_cache_tasks, turns_keep_released}
use Rattle.orphan_tasks.proofs.CallerLemmas.{turns_move_orphan_tasks}
use Rattle.heap_tasks.specs.Notes.{IsTail, notes_of}
use Rattle.heap_tasks.proofs.CallerLemmas.{turns_change_heaps, turns_keep_stages, turns_move_notes}
use Rattle.hand_blocks.proofs.CallerLemmas.{turns_keep_hand_fits}
use Rattle.step_fits.proofs.CallerLemmas.{turns_keep_fits}
use Rattle.pool_laws.specs.Wholes.{Whole}
use Rattle.seat_ties.specs.Laws.{TurnsKeepWhatIsSaid, SeatsLeftAreHere}
use Rattle.seat_ties.specs.Left.{HeapLeft, SeatLeft, TasksLeft, Suits}
use Rattle.seat_ties.specs.Ties.{HeapTied, SaysItself}
use Rattle.seat_ties.specs.Turns.{TasksHere, NotesHere, are, forgets}
use Rattle.cache_laws.specs.Good.{hand}
use Rattle.queue_laws.specs.Steps.{IsIdle}
use Rattle.seat_ties.proofs.Notes.{NotesOrFree, notes_or_free, same, free}
use Rattle.seat_ties.proofs.Here.{guard_here, queue_here, object_here, mail_here, orphan_here, job_here}

pub turns_keep_what_is_said : TurnsKeepWhatIsSaid
turns_keep_what_is_said k seat l s says suits = record {
  number = says.number;
  fits = turns_keep_fits k seat true l s says.fits (λ sure. suits.new);
  stage = turns_keep_stages l s says.stage;
  hands = turns_keep_hand_fits l s says.hands suits.step;
  backend = turns_keep_backend_fits l s says.backend suits.finds;
  released = (turns_keep_released l says.released).turns s;
  orphans = (turns_move_orphan_tasks l s says.orphans).fits;
}

tasks_here : (k : Key) (later : Whole) (seat : ℕ) (l : Local) (s : Seen) → SaysItself k seat l → Suits k l s
    → TasksLeft later seat l s → TasksHere later seat (learn l s).0
tasks_here k later seat l s says suits left =
    let next = (learn l s).0 in
    record {
      guards = guard_here (guard_task_of next) (later.pool.tasks seat) _ left.guards (turns_move_guard_tasks l s)
          suits.wins;
      bins = left.bins ∙ sym (turns_move_bin_tasks l s);
      queue = queue_here (queue_task_of next) (later.queue seat) _ left.queue (turns_move_queue_tasks l s);
      objects = object_here next (later.pool.locals.tasks seat) _ left.objects (turns_move_object_tasks l s);
      mails = mail_here next (later.mails seat) _ left.mails (turns_move_mail_tasks l s);
      orphans = orphan_here next (later.tasks seat) _ left.orphans (turns_move_orphan_tasks l s says.orphans).goes_on;
      jobs = job_here next (later.jobs seat) _ left.jobs (turns_move_cache_tasks l s suits.room);
      desks = left.desks;
    }

heap_here : (k : Key) (later : Whole) (seat : ℕ) (l : Local) (s : Seen) → SaysItself k seat l
    → HeapLeft later seat l s → HeapTied later seat (learn l s).0
heap_here k later seat l s says left =
    let changed = turns_change_heaps l s in
    record {
      kept = left.kept ∙ sym changed.0;
      cached = left.cached ∙ sym changed.1;
      spares = left.spares ∙ sym (turns_move_orphan_tasks l s says.orphans).spares';
      last = left.last ∙ sym changed.2;
    }

-- while a seat is at a put into the cache or the queue its notes are those that were left
notes_here : {k : Key} (later : Whole) (seat : ℕ) (l : Local) (s : Seen) → SaysItself k seat l
    → SeatLeft later seat l s → NotesHere later seat (notes_of (learn l s).0)
notes_here later seat l s says left = by (notes_or_free l s)
  where
    by : NotesOrFree l s → NotesHere later seat (notes_of (learn l s).0)
    by (same e) = are (left.notes ∙ sym e)
    by (free hand' idle) = forgets
        (subst (IsTail (notes_of (learn l s).0)) (sym left.notes) (turns_move_notes l s says.stage))
        (record {
          shelf = ap (λ t. hand t) left.tasks.jobs ∙ hand';
          queue = subst IsIdle (sym left.tasks.queue) idle;
        })

pub seats_left_are_here : SeatsLeftAreHere
seats_left_are_here k later seat l s says suits left hands words = record {
  says = turns_keep_what_is_said k seat l s says suits;
  tasks = tasks_here k later seat l s says suits left.tasks;
  heap = heap_here k later seat l s says left.heap;
  notes = notes_here later seat l s says left;
  hands = hands;
  words = words;
}
