-- Steps of the whole by which a guard is read, marked or won.
use Rattle.std.proofs.Common.{◌≡◌, ◌∙◌, ◌+◌, ℕ, refl, ap, subst, sym}
use Rattle.pool_words.specs.declared.words.Key.{Key}
use Rattle.pool_words.specs.declared.words.Word.{Word}
use Rattle.pool_words.specs.declared.actions.Action.{Action}
use Rattle.pool_words.specs.declared.actions.Action.TheVariants.{Load, Store}
use Rattle.word_codes.specs.declared.guards.Guard.{Guard}
use Rattle.word_codes.specs.Guards.{guard_word}
use Rattle.guards.specs.declared.win.Side.{Side}
use Rattle.guards.specs.declared.win.Taking.{Taking}
use Rattle.guards.specs.declared.win.WinAt.{WinAt}
use Rattle.guards.specs.declared.win.WinCall.{WinCall}
use Rattle.guards.specs.declared.win.WinNext.{WinNext}
use Rattle.guards.specs.Win.{win_course, win_learn}
use Rattle.word_laws.specs.Memory.{Mem, after, found, put}
use Rattle.word_laws.proofs.CallerLemmas.{put_here}
use Rattle.guard_laws.specs.Blocks as blocks
use Rattle.guard_laws.specs.Blocks.{Place, Shadow, Use, edge_of, edge_word}
use Rattle.guard_laws.specs.Steps.{GuardStep, shadow_merged, shadow_taken, shadow_won, task_after}
use Rattle.bin_laws.specs.Bins as binning
use Rattle.bin_laws.specs.Steps.{BinStep, IsReady, task_won}
use Rattle.queue_laws.specs.Queue as queues
use Rattle.queue_laws.specs.Steps.{IsIdle}
use Rattle.use_laws.specs.After.{with_mem}
use Rattle.free_laws.specs.Steps.{IsNotWon, IsLoose, with_bins, with_guards}
use Rattle.pool_laws.specs.Changes.{with_pool, with_space}
use Rattle.pool_laws.specs.Steps.{IsFree, WholeStep}
use Rattle.pool_laws.specs.Wholes.{Whole, space_of}
use Rattle.seat_ties.specs.Turns.{stays, steps_on}
use Rattle.put_moves.proofs.Frame.{Now, SameElse, Steps, Tasks, tasks}

pub same_guards : (h : Shadow) (m : Mem) (t : ℕ → blocks.Task) (w : Whole)
    → SameElse w (with_space (with_guards h m t (space_of w)) w)
same_guards h m t w = record {
  locals = refl;
  kept = refl;
  cached = refl;
  jobs = refl;
  desks = refl;
  office = refl;
  settled = refl;
  mails = refl;
  tasks = refl;
  spares = refl;
}

pub free : (w : Whole) (seat : ℕ) (t : Tasks) → Now w seat t → IsIdle t.line → IsFree w seat
free w seat t now idle = record { shelf = now.jobs; queue = subst IsIdle (sym now.queue) idle }

-- a word is read
pub reads : (k : Key) (w : Whole) (seat : ℕ) (word : Word) (t : Tasks) → Now w seat t → IsIdle t.line
    → Steps k w seat (Load word) t w.pool.blocks.place (w.drained seat)
reads k w seat word t now idle = record {
  later = with_pool (with_mem (after k w.pool.mem (Load word)) w.pool) w;
  run = steps_on stays (WholeStep.others (Load word) tt (free w seat t now idle));
  words = refl;
  guards = now.guards;
  bins = now.bins;
  queue = now.queue;
  same = record {
    locals = refl;
    kept = refl;
    cached = refl;
    jobs = refl;
    desks = refl;
    office = refl;
    settled = refl;
    mails = refl;
    tasks = refl;
    spares = refl;
  };
  place = refl;
  drained = refl;
}

abbrev pub mark : Side → ℕ → Action
mark e y = Store (edge_word e y) (guard_word Guard.Coalescing)

-- a guard of a block in hand says that it is being joined
pub marks : (k : Key) (w : Whole) (seat : ℕ) (e : Side) (first n : ℕ) (bin : binning.Task) (line : queues.Task)
    → Now w seat (tasks blocks.Task.Away bin line) → IsIdle line
    → w.pool.blocks.place first ≡ Place.Block first n (Use.Held seat Taking.ToJoin)
    → Steps k w seat (mark e (edge_of e first n)) (tasks blocks.Task.Away bin line) w.pool.blocks.place
    (w.drained seat)
marks k w seat e first n bin line now idle at =
    let m' : Mem = after k w.pool.mem (mark e (edge_of e first n)) in
    record {
      later = with_space (with_guards w.pool.blocks m' w.pool.tasks (space_of w)) w;
      run = steps_on stays (WholeStep.guards w.pool.blocks m' w.pool.tasks
          (GuardStep.marks e first n Taking.ToJoin Guard.Coalescing now.guards at tt) tt
          (free w seat (tasks blocks.Task.Away bin line) now idle));
      words = refl;
      guards = now.guards;
      bins = now.bins;
      queue = now.queue;
      same = same_guards w.pool.blocks m' w.pool.tasks w;
      place = refl;
      drained = refl;
    }

-- a step of a win by which no block comes into the hand moves no block
place_kept : (seat : ℕ) (c : WinCall) (next : WinNext) (g : Shadow) → IsNotWon next
    → (shadow_won seat c next g).place ≡ g.place
place_kept seat c (WinNext.Goes WinAt.First) g not = refl
place_kept seat c (WinNext.Goes WinAt.Second) g not = refl
place_kept seat c (WinNext.Goes WinAt.Back) g not = refl
place_kept seat c WinNext.Won g not = absurd not
place_kept seat c (WinNext.NotWon found) g not = refl
place_kept seat c WinNext.GivenBack g not = refl

pub loses : (k : Key) (w : Whole) (seat : ℕ) (c : WinCall) (at : WinAt) (bin : binning.Task) (line : queues.Task)
    → Now w seat (tasks (blocks.Task.Wins c at) bin line) → IsIdle line
    → IsNotWon (win_learn c at (found w.pool.mem (win_course c at)))
    → Steps k w seat (win_course c at)
    (tasks (task_after c (win_learn c at (found w.pool.mem (win_course c at)))) bin line) w.pool.blocks.place
    (w.drained seat)
loses k w seat c at bin line now idle not =
    let next : WinNext = win_learn c at (found w.pool.mem (win_course c at)) in
    let h : Shadow = shadow_won seat c next w.pool.blocks in
    let m' : Mem = after k w.pool.mem (win_course c at) in
    let t : ℕ → blocks.Task = put w.pool.tasks seat (task_after c next) in
    record {
      later = with_space (with_guards h m' t (space_of w)) w;
      run = steps_on stays (WholeStep.guards h m' t (GuardStep.wins c at now.guards) not
          (free w seat (tasks (blocks.Task.Wins c at) bin line) now idle));
      words = refl;
      guards = put_here w.pool.tasks seat seat (task_after c next) refl;
      bins = now.bins;
      queue = now.queue;
      same = same_guards h m' t w;
      place = place_kept seat c next w.pool.blocks not;
      drained = refl;
    }

-- both guards of a block are won: it is in hand, and is to leave its bin
pub wins : (k : Key) (w : Whole) (seat : ℕ) (c : WinCall) (bin : binning.Task) (line : queues.Task)
    → Now w seat (tasks (blocks.Task.Wins c WinAt.Second) bin line) → IsIdle line
    → win_learn c WinAt.Second (found w.pool.mem (win_course c WinAt.Second)) ≡ WinNext.Won → IsReady c.granules bin
    → Steps k w seat (win_course c WinAt.Second) (tasks blocks.Task.Away (task_won c.begin c.granules bin) line)
    (shadow_taken seat c w.pool.blocks).place (w.drained seat)
wins k w seat c bin line now idle won ready =
    let h : binning.Shadow =
    record { guards = shadow_taken seat c w.pool.blocks; items = w.items; member = w.member } in
    let m' : Mem = after k w.pool.mem (win_course c WinAt.Second) in
    let l' : binning.Locals = record {
      guards = put w.pool.tasks seat blocks.Task.Away;
      bins = put w.bins seat (task_won c.begin c.granules (w.bins seat));
    } in
    record {
      later = with_space (with_bins h m' l' (space_of w)) w;
      run = steps_on stays (WholeStep.bins h m' l'
          (BinStep.wins c now.guards won (subst (IsReady c.granules) (sym now.bins) ready)) tt
          (free w seat (tasks (blocks.Task.Wins c WinAt.Second) bin line) now idle));
      words = refl;
      guards = put_here w.pool.tasks seat seat blocks.Task.Away refl;
      bins = put_here w.bins seat seat (task_won c.begin c.granules (w.bins seat)) refl
          ∙ ap (λ task. task_won c.begin c.granules task) now.bins;
      queue = now.queue;
      same = record {
        locals = refl;
        kept = refl;
        cached = refl;
        jobs = refl;
        desks = refl;
        office = refl;
        settled = refl;
        mails = refl;
        tasks = refl;
        spares = refl;
      };
      place = refl;
      drained = refl;
    }

-- two blocks in hand are one, behind a step of the seat that left them there
pub merges : (k : Key) (w : Whole) (seat : ℕ) (action : Action) (x a b : ℕ) (bin : binning.Task) (line : queues.Task)
    (place : ℕ → Place) → (before : Steps k w seat action (tasks blocks.Task.Away bin line) place (w.drained seat))
    → IsFree before.later seat
    → place x ≡ Place.Block x a (Use.Held seat Taking.ToJoin)
    → place (x + a) ≡ Place.Block (x + a) b (Use.Held seat Taking.ToJoin)
    → IsLoose (space_of before.later) seat x → IsLoose (space_of before.later) seat (x + a)
    → Steps k w seat action (tasks blocks.Task.Away bin line)
    (shadow_merged seat x a b (record { place = place; standing = before.later.pool.blocks.standing })).place
    (w.drained seat)
merges k w seat action x a b bin line place before is_free first second loose loose' =
    let h : Shadow = shadow_merged seat x a b before.later.pool.blocks in
    let mid : Whole = before.later in
    let last : Whole = with_space (with_guards h mid.pool.mem mid.pool.tasks (space_of mid)) mid in
    record {
      later = last;
      run = steps_on before.run (WholeStep.guards h mid.pool.mem mid.pool.tasks
          (GuardStep.merges x a b before.guards (ap (λ f. f x) before.place ∙ first)
          (ap (λ f. f (x + a)) before.place ∙ second)) (loose, loose') is_free);
      words = before.words;
      guards = before.guards;
      bins = before.bins;
      queue = before.queue;
      same = record {
        locals = before.same.locals;
        kept = before.same.kept;
        cached = before.same.cached;
        jobs = before.same.jobs;
        desks = before.same.desks;
        office = before.same.office;
        settled = before.same.settled;
        mails = before.same.mails;
        tasks = before.same.tasks;
        spares = before.same.spares;
      };
      place = ap (λ f. (shadow_merged seat x a b
          (record { place = f; standing = before.later.pool.blocks.standing })).place) before.place;
      drained = before.drained;
    }
