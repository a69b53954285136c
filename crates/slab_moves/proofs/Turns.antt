-- What is given at a turn, and what it leaves of tasks that it does not touch.
use Rattle.std.proofs.Common.{◌≡◌, ◌∙◌, ℕ, true, List, [], ◌∷◌, refl, subst, sym}
use Rattle.pool_words.specs.declared.words.Key.{Key}
use Rattle.pool_words.specs.Actions.{word_seen}
use Rattle.step_local.specs.declared.frames.At.{At}
use Rattle.step_local.specs.declared.frames.LargeAt.{LargeAt}
use Rattle.step_local.specs.declared.frames.Local.{Local}
use Rattle.step_local.specs.declared.frames.SmallAt.{SmallAt}
use Rattle.step_local.specs.Course.{course}
use Rattle.step_runs.specs.Places.{has_word}
use Rattle.step_tasks.specs.Mail.{mail_left}
use Rattle.step_tasks.specs.Objects.{task_left}
use Rattle.orphan_tasks.specs.Orphans.{orphan_left}
use Rattle.hand_blocks.specs.Changes.{Alters, Change, HandsLead, changes_of}
use Rattle.hand_blocks.specs.Hands.{Hand, hands_of}
use Rattle.hand_blocks.proofs.CallerLemmas.{turns_change_hands}
use Rattle.pool_laws.specs.Wholes.{Whole, WholeGood}
use Rattle.seat_ties.specs.Left.{Suits, TasksLeft}
use Rattle.seat_ties.specs.Ties.{SeatTied}
use Rattle.seat_ties.specs.Turns.{IsNoReset, found_in, may_start, next_in, seen_in}
use Rattle.seat_ties.proofs.CallerLemmas.{turns_start_desks}
use Rattle.slab_moves.specs.Says.{SlabSays}
use Rattle.slab_moves.proofs.Around.{IsOff}

abbrev pub small : Local → SmallAt → Local
small l at = record l { at = At.Small at }

abbrev pub large : Local → LargeAt → Local
large l at = record l { at = At.Large at }

pub record Turn (k : Key) (w : Whole) (l : Local) : Type 0 where
  pub good : WholeGood k w
  pub tied : SeatTied k w l.seat l
  pub no : IsNoReset l
  pub word : has_word (course l) ≡ true
  pub suits : Suits k l (seen_in w l)
  pub says : SlabSays l

-- the seat's tasks at guards, bins, the queue, the cache and the office are as they were
pub record Keeps (w later : Whole) (seat : ℕ) : Type 0 where
  pub guards : later.pool.tasks seat ≡ w.pool.tasks seat
  pub bins : later.bins seat ≡ w.bins seat
  pub queue : later.queue seat ≡ w.queue seat
  pub jobs : later.jobs seat ≡ w.jobs seat
  pub desks : later.desks seat ≡ w.desks seat

pub small_off : (k : Key) (w : Whole) (l : Local) (at : SmallAt) → Turn k w (small l at) → IsOff w l.seat
small_off k w l at t = record { bins = t.tied.tasks.bins; queue = t.tied.tasks.queue; jobs = t.tied.tasks.jobs }

pub large_off : (k : Key) (w : Whole) (l : Local) (at : LargeAt) → Turn k w (large l at) → IsOff w l.seat
large_off k w l at t = record { bins = t.tied.tasks.bins; queue = t.tied.tasks.queue; jobs = t.tied.tasks.jobs }

pub small_tasks : (k : Key) (w later : Whole) (l : Local) (at : SmallAt) → Turn k w (small l at)
    → Keeps w later l.seat
    → later.pool.locals.tasks l.seat ≡ task_left (small l at) (word_seen (seen_in w (small l at)))
    → later.mails l.seat ≡ mail_left (small l at) (word_seen (seen_in w (small l at)))
    → later.tasks l.seat ≡ orphan_left (small l at) (word_seen (seen_in w (small l at)))
    → TasksLeft later l.seat (small l at) (seen_in w (small l at))
small_tasks k w later l at t keeps objects mails orphans = record {
  guards = keeps.guards ∙ t.tied.tasks.guards;
  bins = keeps.bins ∙ t.tied.tasks.bins;
  queue = keeps.queue ∙ t.tied.tasks.queue;
  objects = objects;
  mails = mails;
  orphans = orphans;
  jobs = keeps.jobs ∙ t.tied.tasks.jobs;
  desks = may_start (keeps.desks ∙ t.tied.tasks.desks)
      (turns_start_desks (small l at) (found_in w (small l at)) t.word refl);
}

pub large_tasks : (k : Key) (w later : Whole) (l : Local) (at : LargeAt) → Turn k w (large l at)
    → Keeps w later l.seat
    → later.pool.locals.tasks l.seat ≡ task_left (large l at) (word_seen (seen_in w (large l at)))
    → later.mails l.seat ≡ mail_left (large l at) (word_seen (seen_in w (large l at)))
    → later.tasks l.seat ≡ orphan_left (large l at) (word_seen (seen_in w (large l at)))
    → TasksLeft later l.seat (large l at) (seen_in w (large l at))
large_tasks k w later l at t keeps objects mails orphans = record {
  guards = keeps.guards ∙ t.tied.tasks.guards;
  bins = keeps.bins ∙ t.tied.tasks.bins;
  queue = keeps.queue ∙ t.tied.tasks.queue;
  objects = objects;
  mails = mails;
  orphans = orphans;
  jobs = keeps.jobs ∙ t.tied.tasks.jobs;
  desks = may_start (keeps.desks ∙ t.tied.tasks.desks)
      (turns_start_desks (large l at) (found_in w (large l at)) t.word refl);
}

-- what is in hand after one change
pub leads : (k : Key) (w : Whole) (l : Local) → Turn k w l
    → HandsLead (changes_of l (seen_in w l)) (hands_of l) (hands_of (next_in w l))
leads k w l t = turns_change_hands l (seen_in w l) t.tied.says.hands t.suits.step

pub one_change : (change : Change) (before after : List Hand) → HandsLead (change ∷ []) before after
    → Alters change before after
one_change change before after led = subst (λ hands. Alters change before hands) (sym led.2) led.1
