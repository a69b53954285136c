-- What all turns at an object need: a seat that is free, hands that stay as they are, and what the pool is to have.
use Rattle.std.proofs.Common.{◌≡◌, ◌∷◌, ◌<◌, arith, ℕ, List, [], true, refl, sym, subst, ap, ◌∙◌}
use Rattle.pool_words.specs.declared.actions.Action.{Action}
use Rattle.pool_words.specs.declared.actions.Action.TheVariants.{Load, Store, Swap, Exchange, Add, TakeOffice}
use Rattle.pool_words.specs.declared.actions.Action.TheVariants.{GiveOffice, Nothing}
use Rattle.pool_words.specs.declared.actions.Seen.{Seen}
use Rattle.pool_words.specs.declared.words.Key.{Key}
use Rattle.pool_words.specs.Actions.{word_seen}
use Rattle.word_codes.specs.declared.kinds.Kind.{Kind}
use Rattle.word_laws.specs.Memory.{Mem, found, put}
use Rattle.word_laws.proofs.CallerLemmas.{put_here}
use Rattle.object_laws.specs.Objects.{Locals}
use Rattle.object_laws.specs.Parts.{note_of}
use Rattle.object_laws.specs.Rows.{grant_word}
use Rattle.guard_laws.specs.Blocks.{Place}
use Rattle.office_laws.specs.Regions as offices
use Rattle.queue_laws.specs.Queue as queues
use Rattle.queue_laws.specs.Steps.{IsIdle}
use Rattle.cache_laws.specs.Good as caches
use Rattle.use_laws.specs.Pools.{Pool}
use Rattle.step_local.specs.declared.frames.At.{At}
use Rattle.step_local.specs.declared.frames.Local.{Local}
use Rattle.step_local.specs.Answers.{kind_got, next_mark}
use Rattle.step_local.specs.Course.{course}
use Rattle.step_local.specs.Learn.{learn}
use Rattle.step_runs.specs.Entries.{seen_by}
use Rattle.step_runs.specs.Places.{has_word}
use Rattle.step_laws.specs.Tasks.{task_of}
use Rattle.step_tasks.specs.Mail.{mail_left, mail_task_of}
use Rattle.step_tasks.specs.Objects.{task_left}
use Rattle.backend_tasks.specs.Bins.{bin_left, bin_task_of}
use Rattle.backend_tasks.specs.Guards.{guard_left, guard_task_of}
use Rattle.backend_tasks.specs.Queue.{queue_left, queue_task_of}
use Rattle.cache_tasks.specs.Cache.{cache_left, cache_task_of}
use Rattle.orphan_tasks.specs.Orphans.{orphan_left, orphan_task_of, spares_left, spares_of}
use Rattle.heap_tasks.specs.Heaps.{cached_left, kept_left, last_left}
use Rattle.heap_tasks.specs.Notes.{granted_note, notes_left, notes_of}
use Rattle.step_fits.specs.Frames.{SeatFits}
use Rattle.hand_blocks.specs.Changes.{HandsLead, changes_of}
use Rattle.hand_blocks.specs.Fits.{HandsFit, StepFits}
use Rattle.hand_blocks.specs.Hands.{hands_of}
use Rattle.hand_blocks.proofs.CallerLemmas.{turns_change_hands}
use Rattle.pool_laws.specs.Changes.{with_pool}
use Rattle.pool_laws.specs.Steps.{IsFree}
use Rattle.pool_laws.specs.Wholes.{Whole, WholeGood}
use Rattle.seat_ties.specs.Left.{Suits}
use Rattle.seat_ties.specs.Says.{IsElsewhere}
use Rattle.seat_ties.specs.Ties.{HandsTied, SeatTied}
use Rattle.seat_ties.specs.Turns.{IsNoReset, StateHere, StepLeaves, found_in, may_start, next_in, seen_in}
use Rattle.seat_ties.proofs.CallerLemmas.{nothing_is_said_elsewhere, seats_left_are_here, turns_start_desks}

-- the turn of each local at this position is steps of the whole
abbrev pub TurnedAt : At → Type 0
TurnedAt at = (k : Key) (w : Whole) (l : Local) → WholeGood k w → SeatTied k w l.seat (record l { at = at })
    → IsNoReset l → has_word (course (record l { at = at })) ≡ true
    → Suits k (record l { at = at }) (seen_in w (record l { at = at })) → StepLeaves k w (record l { at = at })

-- a grant names its seat, and so does the mark of an object in its hand: they can where the seat's number is small
pub seat_named : (k : Key) (seat : ℕ) → SeatFits k seat → seat < 64
seat_named k seat fits = let few = fits.few in let seats = fits.seats in omega arith

pub free_of : (w : Whole) (seat : ℕ) → w.jobs seat ≡ caches.Task.Away → w.queue seat ≡ queues.Task.Away
    → IsFree w seat
free_of w seat jobs queue = record {
  shelf = ap (λ t. caches.hand t) jobs;
  queue = subst (λ t. IsIdle t) (sym queue) tt;
}

-- where a turn changes nothing in hand, what was in hand is
pub hands_stay : (place : ℕ → Place) (drained : List ℕ) (seat : ℕ) (l : Local) (s : Seen) → HandsFit l → StepFits l s
    → changes_of l s ≡ [] → HandsTied place drained seat (hands_of l)
    → HandsTied place drained seat (hands_of (learn l s).0)
hands_stay place drained seat l s fits step none tied =
    let same : hands_of (learn l s).0 ≡ hands_of l =
    subst (λ changes. HandsLead changes (hands_of l) (hands_of (learn l s).0)) none (turns_change_hands l s fits step)
    in subst (λ hands. HandsTied place drained seat hands) (sym same) tied

-- a grant is noted as the local has it, where its number and its kind are the local's
pub grant_noted : (l : Local) (locals : Locals) (unit : ℕ) (kind : Kind)
    → next_mark l ≡ grant_word locals l.seat → kind ≡ kind_got l.call l.call.served
    → locals.notes l.seat ≡ notes_of l
    → put locals.notes l.seat (note_of unit (grant_word locals l.seat) kind ∷ locals.notes l.seat) l.seat
    ≡ granted_note l unit ∷ notes_of l
grant_noted l locals unit kind word is notes =
    put_here locals.notes l.seat l.seat (note_of unit (grant_word locals l.seat) kind ∷ locals.notes l.seat) refl
    ∙ ap (λ mark. note_of unit mark kind ∷ locals.notes l.seat) (sym word)
    ∙ ap (λ x. note_of unit (next_mark l) x ∷ locals.notes l.seat) is
    ∙ ap (λ ns. granted_note l unit ∷ ns) notes

-- what a seat is told of a step is what the step finds
pub word_found : (m : Mem) (action : Action) → word_seen (seen_by action (found m action)) ≡ found m action
word_found m (Load w) = refl
word_found m (Store w value) = refl
word_found m (Swap w value) = refl
word_found m (Exchange w from to) = refl
word_found m (Add w value) = refl
word_found m (TakeOffice job) = refl
word_found m GiveOffice = refl
word_found m Nothing = refl

-- a seat that has nothing to do with guards, bins, the queue, the cache, mail, orphans and the office, and whose next
-- step leaves that so
pub record IsQuiet (l : Local) (s : Seen) : Type 0 where
  pub guards : guard_task_of l ≡ guard_left l (word_seen s)
  pub bins : bin_task_of l ≡ bin_left l (word_seen s)
  pub queue : queue_task_of l ≡ queue_left l s
  pub mails : mail_task_of l ≡ mail_left l (word_seen s)
  pub orphans : orphan_task_of l ≡ orphan_left l (word_seen s)
  pub jobs : cache_task_of l ≡ cache_left l (word_seen s)
  pub spares : spares_of l ≡ spares_left l (word_seen s)
  pub desk : task_of l ≡ offices.Task.Away
  pub else : IsElsewhere l.at

-- what the rows of objects leave of the pool
pub record PoolLeft (p : Pool) (l : Local) (s : Seen) : Type 0 where
  pub objects : p.locals.tasks l.seat ≡ task_left l (word_seen s)
  pub kept : p.kept l.seat ≡ kept_left l (word_seen s)
  pub cached : p.cached l.seat ≡ cached_left l
  pub last : p.locals.lasts l.seat ≡ last_left l
  pub notes : p.locals.notes l.seat ≡ notes_left l (word_seen s)

-- a turn that changes the pool alone, and there no task with guards
pub uses_leave : (k : Key) (w : Whole) (p : Pool) (l : Local) → SeatTied k w l.seat l → has_word (course l) ≡ true
    → Suits k l (seen_in w l) → IsQuiet l (seen_in w l) → p.tasks l.seat ≡ w.pool.tasks l.seat
    → PoolLeft p l (seen_in w l)
    → HandsTied p.blocks.place (w.drained l.seat) l.seat (hands_of (learn l (seen_in w l)).0)
    → StateHere k (with_pool p w) l.seat (next_in w l)
uses_leave k w p l tied word suits quiet guards left hands =
    let s = seen_in w l in
    let tasks = tied.tasks in
    let later = with_pool p w in
    seats_left_are_here k later l.seat l s tied.says suits (record {
      tasks = record {
        guards = guards ∙ tasks.guards ∙ quiet.guards;
        bins = tasks.bins ∙ quiet.bins;
        queue = tasks.queue ∙ quiet.queue;
        objects = left.objects;
        mails = tasks.mails ∙ quiet.mails;
        orphans = tasks.orphans ∙ quiet.orphans;
        jobs = tasks.jobs ∙ quiet.jobs;
        desks = may_start (tasks.desks ∙ quiet.desk) (turns_start_desks l (found_in w l) word quiet.desk);
      };
      heap = record {
        kept = left.kept;
        cached = left.cached;
        spares = tied.heap.spares ∙ quiet.spares;
        last = left.last;
      };
      notes = left.notes;
    }) hands (nothing_is_said_elsewhere later l.seat l s quiet.else).words
