-- What lies beside a block: at each of its edges a wall, or another block.
use Rattle.std.specs.Prelude.{◌≡◌, ◌⊎◌, ℕ, ⊤}
use Rattle.pool_words.specs.declared.words.Key.{Key}
use Rattle.guards.specs.declared.win.Side.{Side}
use Rattle.guards.specs.Win.{other_side}
use Rattle.word_laws.specs.Memory.{Mem}
use Rattle.guard_laws.specs.Blocks.{Use, Place, Standing, Task, Shadow, at_edge, edge_of}
use Rattle.guard_laws.specs.Steps.{GuardStep, IsNoEdge}

-- a block begins there, or ends there
abbrev pub IsEdge : Shadow → Side → ℕ → Type 0
IsEdge g e i = (y : ℕ) × (n : ℕ) × (u : Use) × (edge_of e y n ≡ i) × (g.place y ≡ Place.Block y n u)

-- on the other side of that edge is a wall, or another block
abbrev pub IsCovered : Shadow → Side → ℕ → Type 0
IsCovered g e i = (at_edge g.standing (other_side e) i ≡ Standing.Walled) ⊎ IsEdge g (other_side e) i

abbrev pub Covered : Shadow → Type 0
Covered g = (e : Side) (i : ℕ) → IsEdge g e i → IsCovered g e i

-- a wall beside a block is not written over; a region comes between walls or blocks, and leaves from between walls
abbrev pub KeepsWalls : (k : Key) (seat : ℕ) (g : Shadow) (m : Mem) (tasks : ℕ → Task) (h : Shadow) (m' : Mem)
    (tasks' : ℕ → Task) → GuardStep k seat g m tasks h m' tasks' → Type 0
KeepsWalls k seat g m tasks h m' tasks' (GuardStep.begins c is fits) = ⊤
KeepsWalls k seat g m tasks h m' tasks' (GuardStep.wins c at is) = ⊤
KeepsWalls k seat g m tasks h m' tasks' (GuardStep.offers x n taking is at) = ⊤
KeepsWalls k seat g m tasks h m' tasks' (GuardStep.offered x n is) = ⊤
KeepsWalls k seat g m tasks h m' tasks' (GuardStep.marks e x n taking guard is at fits) = ⊤
KeepsWalls k seat g m tasks h m' tasks' (GuardStep.readies e x n y taking at low high) = ⊤
KeepsWalls k seat g m tasks h m' tasks' (GuardStep.splits x a b is some more at used) = ⊤
KeepsWalls k seat g m tasks h m' tasks' (GuardStep.merges x a b is one two) = ⊤
KeepsWalls k seat g m tasks h m' tasks' (GuardStep.reuses x n was now is own own' at fits) = ⊤
KeepsWalls k seat g m tasks h m' tasks' GuardStep.drains = ⊤
KeepsWalls k seat g m tasks h m' tasks' (GuardStep.walls e y low none) = ⊤
KeepsWalls k seat g m tasks h m' tasks' (GuardStep.outlines e y low none) = IsNoEdge g.place (other_side e) y
KeepsWalls k seat g m tasks h m' tasks' (GuardStep.comes x n some fits outside used) =
    (e : Side) → IsCovered g e (edge_of e x n)
KeepsWalls k seat g m tasks h m' tasks' (GuardStep.leaves x n taking is at) =
    (e : Side) → at_edge g.standing (other_side e) (edge_of e x n) ≡ Standing.Walled
KeepsWalls k seat g m tasks h m' tasks' (GuardStep.others action other) = ⊤

-- any number of such steps of any number of seats
pub data WalledRun (k : Key) (g0 : Shadow) (m0 : Mem) (tasks0 : ℕ → Task) : Shadow → Mem → (ℕ → Task) → Type 0 where
  starts : WalledRun k g0 m0 tasks0 g0 m0 tasks0
  steps : {g1 : Shadow} {m1 : Mem} {t1 : ℕ → Task} {h : Shadow} {m' : Mem} {t' : ℕ → Task}
      → WalledRun k g0 m0 tasks0 g1 m1 t1 → (seat : ℕ) → (step : GuardStep k seat g1 m1 t1 h m' t')
      → KeepsWalls k seat g1 m1 t1 h m' t' step → WalledRun k g0 m0 tasks0 h m' t'
