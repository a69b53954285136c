-- Steps at guards that leave a pool at rest.
use Rattle.std.specs.Prelude.{◌≡◌, ℕ, ⊤}
use Rattle.pool_words.specs.declared.words.Key.{Key}
use Rattle.guards.specs.declared.win.Taking.{Taking}
use Rattle.backend_bins.specs.declared.scan.ScanStep.{ScanStep}
use Rattle.word_laws.specs.Memory.{Mem}
use Rattle.guard_laws.specs.Blocks.{Use, Task, Shadow}
use Rattle.guard_laws.specs.Steps.{GuardStep}
use Rattle.bin_laws.specs.Takes.{shadow_scanned}
use Rattle.queue_laws.specs.Alone.{IsAtRest}

-- a block that is neither queued nor to be joined
abbrev pub IsSettled : Use → Type 0
IsSettled Use.Bin = ⊤
IsSettled (Use.Held seat taking) = taking ≡ Taking.ForUse
IsSettled Use.Queued = ⊥
IsSettled Use.Elsewhere = ⊤

-- a block is won for use, and none is to be joined or queued from then on: a scan's win, a cut, both stores by which a
-- rest of it comes into its bin, a region that comes or leaves
abbrev pub Settles : (k : Key) (seat : ℕ) (g : Shadow) (m : Mem) (tasks : ℕ → Task) (h : Shadow) (m' : Mem)
    (tasks' : ℕ → Task) → GuardStep k seat g m tasks h m' tasks' → Type 0
Settles k seat g m tasks h m' tasks' (GuardStep.begins c is fits) = ⊤
Settles k seat g m tasks h m' tasks' (GuardStep.wins c at is) = c.taking ≡ Taking.ForUse
Settles k seat g m tasks h m' tasks' (GuardStep.offers x n taking is at) = ⊤
Settles k seat g m tasks h m' tasks' (GuardStep.offered x n is) = ⊤
Settles k seat g m tasks h m' tasks' (GuardStep.marks e x n taking guard is at fits) = ⊤
Settles k seat g m tasks h m' tasks' (GuardStep.readies e x n y taking at low high) = ⊤
Settles k seat g m tasks h m' tasks' (GuardStep.splits x a b is some more at used) = ⊤
Settles k seat g m tasks h m' tasks' (GuardStep.merges x a b is one two) = ⊤
Settles k seat g m tasks h m' tasks' (GuardStep.reuses x n was now is own own' at fits) = IsSettled now
Settles k seat g m tasks h m' tasks' GuardStep.drains = ⊤
Settles k seat g m tasks h m' tasks' (GuardStep.walls e y low none) = ⊤
Settles k seat g m tasks h m' tasks' (GuardStep.outlines e y low none) = ⊤
Settles k seat g m tasks h m' tasks' (GuardStep.comes x n some fits outside used) = ⊤
Settles k seat g m tasks h m' tasks' (GuardStep.leaves x n taking is at) = ⊤
Settles k seat g m tasks h m' tasks' (GuardStep.others action other) = ⊤

-- any number of such steps of any number of seats
pub data SettledRun (k : Key) (g0 : Shadow) (m0 : Mem) (tasks0 : ℕ → Task) : Shadow → Mem → (ℕ → Task) → Type 0 where
  starts : SettledRun k g0 m0 tasks0 g0 m0 tasks0
  steps : {g1 : Shadow} {m1 : Mem} {t1 : ℕ → Task} {h : Shadow} {m' : Mem} {t' : ℕ → Task}
      → SettledRun k g0 m0 tasks0 g1 m1 t1 → (seat : ℕ) → (step : GuardStep k seat g1 m1 t1 h m' t')
      → Settles k seat g1 m1 t1 h m' t' step → SettledRun k g0 m0 tasks0 h m' t'

-- each of these steps leaves a pool at rest
abbrev pub StepsKeepRest : Type 0
StepsKeepRest =
    (k : Key) (seat : ℕ) (g : Shadow) (m : Mem) (tasks : ℕ → Task) (h : Shadow) (m' : Mem) (tasks' : ℕ → Task)
    → IsAtRest g.place → (step : GuardStep k seat g m tasks h m' tasks') → Settles k seat g m tasks h m' tasks' step
    → IsAtRest h.place

abbrev pub RunsKeepRest : Type 0
RunsKeepRest =
    (k : Key) (g : Shadow) (m : Mem) (tasks : ℕ → Task) (h : Shadow) (m' : Mem) (tasks' : ℕ → Task)
    → IsAtRest g.place → SettledRun k g m tasks h m' tasks' → IsAtRest h.place

-- so does each step of a scan
abbrev pub ScansKeepRest : Type 0
ScansKeepRest =
    (seat : ℕ) (step : ScanStep) (found : ℕ) (g : Shadow) → IsAtRest g.place
    → IsAtRest (shadow_scanned seat step found g).place
