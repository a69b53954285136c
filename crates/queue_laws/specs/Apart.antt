-- Steps at guards that leave blocks in bins apart from each other, as those of a scan, a cut and the put of its rests
-- do; and where calm begins and ends.
use Rattle.std.specs.Prelude.{◌≡◌, ◌≢◌, ℕ, ◌+◌, ◌<◌, ⊤}
use Rattle.pool_words.specs.declared.words.Key.{Key}
use Rattle.guards.specs.declared.win.Taking.{Taking}
use Rattle.guards.specs.declared.win.WinAt.{WinAt}
use Rattle.guards.specs.declared.win.WinCall.{WinCall}
use Rattle.guards.specs.declared.win.WinNext.{WinNext}
use Rattle.guards.specs.Win.{win_course, win_learn}
use Rattle.backend_bins.specs.declared.blocks.Block.{Block}
use Rattle.backend_bins.specs.Blocks.{block}
use Rattle.word_laws.specs.Memory.{Mem, found}
use Rattle.guard_laws.specs.Blocks.{Use, Place, Task, Shadow, core_in, GuardGood}
use Rattle.guard_laws.specs.Steps.{GuardStep, with_use, shadow_won, shadow_split}
use Rattle.queue_laws.specs.Puts.{HasBlock}
use Rattle.queue_laws.specs.Alone.{NoTwo, NoBeside, IsCalm, IsAtRest}
use Rattle.queue_laws.specs.Rests.{IsSettled}

-- where a block comes into a bin, no block beside it is in one
abbrev pub ComesApart : (k : Key) (seat : ℕ) (g : Shadow) (m : Mem) (tasks : ℕ → Task) (h : Shadow) (m' : Mem)
    (tasks' : ℕ → Task) → GuardStep k seat g m tasks h m' tasks' → Type 0
ComesApart k seat g m tasks h m' tasks' (GuardStep.begins c is fits) = ⊤
ComesApart k seat g m tasks h m' tasks' (GuardStep.wins c at is) = ⊤
ComesApart k seat g m tasks h m' tasks' (GuardStep.offers x n taking is at) = ⊤
ComesApart k seat g m tasks h m' tasks' (GuardStep.offered x n is) = NoBeside g.place (block x n)
ComesApart k seat g m tasks h m' tasks' (GuardStep.marks e x n taking guard is at fits) = ⊤
ComesApart k seat g m tasks h m' tasks' (GuardStep.readies e x n y taking at low high) = ⊤
ComesApart k seat g m tasks h m' tasks' (GuardStep.splits x a b is some more at used) = ⊤
ComesApart k seat g m tasks h m' tasks' (GuardStep.merges x a b is one two) = ⊤
ComesApart k seat g m tasks h m' tasks' (GuardStep.reuses x n was now is own own' at fits) = ⊤
ComesApart k seat g m tasks h m' tasks' GuardStep.drains = ⊤
ComesApart k seat g m tasks h m' tasks' (GuardStep.walls e y low none) = ⊤
ComesApart k seat g m tasks h m' tasks' (GuardStep.outlines e y low none) = ⊤
ComesApart k seat g m tasks h m' tasks' (GuardStep.comes x n some fits outside used) = ⊤
ComesApart k seat g m tasks h m' tasks' (GuardStep.leaves x n taking is at) = ⊤
ComesApart k seat g m tasks h m' tasks' (GuardStep.others action other) = ⊤

-- each of these steps of each seat leaves no two blocks in bins beside each other
abbrev pub StepsKeepApart : Type 0
StepsKeepApart =
    (k : Key) (seat : ℕ) (g : Shadow) (m : Mem) (tasks : ℕ → Task) (h : Shadow) (m' : Mem) (tasks' : ℕ → Task)
    → GuardGood k g (core_in m tasks) → NoTwo g.place → (step : GuardStep k seat g m tasks h m' tasks')
    → ComesApart k seat g m tasks h m' tasks' step → NoTwo h.place

-- so a block that is won, which was in a bin, has none of a bin beside it
abbrev pub WonBlocksStandApart : Type 0
WonBlocksStandApart =
    (k : Key) (seat : ℕ) (g : Shadow) (m : Mem) (tasks : ℕ → Task) (c : WinCall) (at : WinAt)
    → GuardGood k g (core_in m tasks) → NoTwo g.place → tasks seat ≡ Task.Wins c at
    → win_learn c at (found m (win_course c at)) ≡ WinNext.Won
    → NoBeside (shadow_won seat c WinNext.Won g).place (block c.begin c.granules)

-- nor has either part of a block that is cut then
abbrev pub CutsStandApart : Type 0
CutsStandApart =
    (k : Key) (seat : ℕ) (g : Shadow) (m : Mem) (tasks : ℕ → Task) (first a b : ℕ) → GuardGood k g (core_in m tasks)
    → 0 < a → 0 < b → g.place first ≡ Place.Block first (a + b) (Use.Held seat Taking.ForUse)
    → NoBeside g.place (block first (a + b))
    → NoBeside (shadow_split seat first a b g).place (block first a)
    × NoBeside (shadow_split seat first a b g).place (block (first + a) b)

-- nor where a block comes into a bin that is not beside it
abbrev pub RestsStayApart : Type 0
RestsStayApart =
    (g : Shadow) (x n : ℕ) (b : Block) → x + n ≢ b.first → x ≢ b.first + b.granules → NoBeside g.place b
    → NoBeside (with_use x n Use.Bin g).place b

-- a pool at rest is calm when a block is to be joined, and at rest when the one block of a calm pool is not any more
abbrev pub CalmBeginsAndEnds : Type 0
CalmBeginsAndEnds =
    (k : Key) (seat : ℕ) (g : Shadow) (m : Mem) (tasks : ℕ → Task) (x n : ℕ) → GuardGood k g (core_in m tasks)
    → (IsAtRest g.place → IsCalm (with_use x n (Use.Held seat Taking.ToJoin) g).place x)
    × ((now : Use) → IsSettled now → HasBlock g seat x n → IsCalm g.place x → IsAtRest (with_use x n now g).place)
