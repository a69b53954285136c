-- Wrong definitions. Each breaks a law at the blocks that are named.
use Rattle.std.specs.Prelude.{◌≡◌, ℕ}
use Rattle.pool_words.specs.declared.words.Key.{Key}
use Rattle.word_codes.specs.declared.guards.Guard.{Guard}
use Rattle.word_codes.specs.Guards.{guard_word}
use Rattle.guards.specs.declared.win.WinAt.{WinAt}
use Rattle.guards.specs.declared.win.WinCall.{WinCall}
use Rattle.guards.specs.declared.win.WinNext.{WinNext}
use Rattle.word_laws.specs.Memory.{put}
use Rattle.guard_laws.specs.Blocks.{set_edge, edge_of, Task, Shadow, Core, GuardGood}
use Rattle.guard_laws.specs.Steps.{shadow_won, shadow_taken}

-- whoever has won one guard takes the block
abbrev pub TakesByOneGuard : Type 0
TakesByOneGuard =
    (k : Key) (seat : ℕ) (g : Shadow) (s : Core) (c : WinCall) → s.tasks seat ≡ Task.Wins c WinAt.Second
    → GuardGood k g s → GuardGood k (shadow_taken seat c g) (record s { tasks = put s.tasks seat Task.Away })

abbrev pub OneGuardIsTooFew : Type 0
OneGuardIsTooFew = TakesByOneGuard → ⊥

-- a guard that is given back says that its block is in use
abbrev pub GivesBackUsed : Type 0
GivesBackUsed =
    (k : Key) (seat : ℕ) (g : Shadow) (s : Core) (c : WinCall) → s.tasks seat ≡ Task.Wins c WinAt.Back
    → GuardGood k g s → GuardGood k (shadow_won seat c WinNext.GivenBack g) (record {
      words = set_edge c.first (edge_of c.first c.begin c.granules) (guard_word Guard.Used) s.words;
      tasks = put s.tasks seat Task.Away;
    })

abbrev pub UsedIsNotGivenBack : Type 0
UsedIsNotGivenBack = GivesBackUsed → ⊥
