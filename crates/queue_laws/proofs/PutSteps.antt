-- A put's steps at guards are steps of the laws of guards.
use Rattle.std.proofs.Common.{ℕ, sym, subst}
use Rattle.pool_words.specs.declared.words.Key.{Key}
use Rattle.pool_words.specs.declared.words.Word.{Word}
use Rattle.pool_words.specs.declared.actions.Action.TheVariants.{Load, Store}
use Rattle.word_codes.specs.declared.guards.Guard.{Guard}
use Rattle.word_codes.specs.Guards.{guard_word}
use Rattle.guards.specs.declared.win.Side.{Side}
use Rattle.guards.specs.declared.win.Taking.{Taking}
use Rattle.backend_bins.specs.declared.bin.BinAt.{BinAt}
use Rattle.backend_bins.specs.Blocks.{block_end}
use Rattle.coalescer.specs.declared.put.PutAt.{PutAt}
use Rattle.coalescer.specs.declared.put.PutCall.{PutCall}
use Rattle.coalescer.specs.declared.put.PutStep.{PutStep}
use Rattle.coalescer.specs.Put.{left_win, right_win, step_course}
use Rattle.word_laws.specs.Memory.{Mem, put, after, found}
use Rattle.guard_laws.specs.Blocks as blocks
use Rattle.guard_laws.specs.Blocks.{GuardGood, core_in}
use Rattle.guard_laws.specs.Steps.{GuardStep}
use Rattle.queue_laws.specs.Puts.{PutFits, AtGuards, shadow_put}
use Rattle.queue_laws.specs.Laws.{PutsStepAtGuards}
use Rattle.queue_laws.proofs.Alone.{end_is}

step_at : (k : Key) (g : blocks.Shadow) (m : Mem) (tasks : ℕ → blocks.Task) (c : PutCall) (p : PutAt) (step : PutStep)
    → GuardGood k g (core_in m tasks) → AtGuards (tasks c.seat) p step → PutFits c g p step
    → (tasks' : ℕ → blocks.Task) × GuardStep k c.seat g m tasks
    (shadow_put c p step (found m (step_course c p step)) g) (after k m (step_course c p step)) tasks'
step_at k g m tasks c p PutStep.Size good is hand = (
  tasks,
  GuardStep.marks Side.Begin p.block.first p.block.granules Taking.ToJoin Guard.Coalescing is hand tt,
)
step_at k g m tasks c p PutStep.Left good is hand = (
  tasks,
  subst (λ y. GuardStep k c.seat g m tasks g (after k m (Store (Word.Left y) (guard_word Guard.Coalescing))) tasks)
      (sym (end_is k g m tasks c.seat p.block good hand))
      (GuardStep.marks Side.End p.block.first p.block.granules Taking.ToJoin Guard.Coalescing is hand tt),
)
step_at k g m tasks c p PutStep.LeftWord good is hand = (tasks, GuardStep.others (Load (Word.Left p.block.first)) tt)
step_at k g m tasks c p (PutStep.WinLeft n at) good is fits = (_, GuardStep.wins (left_win p n) at is)
step_at k g m tasks c p (PutStep.UnlinkLeft b at) good is fits = absurd is
step_at k g m tasks c p PutStep.RightWord good is hand =
    (tasks, GuardStep.others (Load (Word.Size (block_end p.block))) tt)
step_at k g m tasks c p (PutStep.WinRight n at) good is fits = (_, GuardStep.wins (right_win p n) at is)
step_at k g m tasks c p (PutStep.UnlinkRight b at) good is fits = absurd is
step_at k g m tasks c p PutStep.FarLeft good is fits = (tasks, GuardStep.others (Load (Word.Left p.block.first)) tt)
step_at k g m tasks c p PutStep.FarRight good is fits =
    (tasks, GuardStep.others (Load (Word.Size (block_end p.block))) tt)
step_at k g m tasks c p (PutStep.Queue at) good is fits = absurd is
step_at k g m tasks c p (PutStep.Bin BinAt.Lock) good is fits = absurd is
step_at k g m tasks c p (PutStep.Bin BinAt.Size) good is hand =
    (_, GuardStep.offers p.block.first p.block.granules Taking.ToJoin is hand)
step_at k g m tasks c p (PutStep.Bin BinAt.Left) good is hand = (
  _,
  subst (λ y. GuardStep k c.seat g m tasks (shadow_put c p (PutStep.Bin BinAt.Left) 0 g)
      (after k m (Store (Word.Left y) (guard_word (Guard.Free p.block.granules))))
      (put tasks c.seat blocks.Task.Away))
      (sym (end_is k g m tasks c.seat p.block good hand))
      (GuardStep.offered p.block.first p.block.granules is),
)
step_at k g m tasks c p (PutStep.Bin (BinAt.Insert at)) good is fits = absurd is
step_at k g m tasks c p (PutStep.Bin (BinAt.Out at)) good is fits = absurd is
step_at k g m tasks c p (PutStep.Bin BinAt.Unlock) good is fits = absurd is

pub puts_step_at_guards : PutsStepAtGuards
puts_step_at_guards k g m tasks c p good is fits = step_at k g m tasks c p p.step good is fits
