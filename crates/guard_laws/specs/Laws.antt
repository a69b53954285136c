-- The laws of guards.
use Rattle.std.specs.Prelude.{◌≡◌, ◌≢◌, ℕ, ◌+◌, ◌^◌, ◌<◌, ◌≤◌}
use Rattle.pool_words.specs.declared.words.Key.{Key}
use Rattle.word_codes.specs.declared.guards.Guard.{Guard}
use Rattle.guards.specs.declared.win.Side.{Side}
use Rattle.guards.specs.declared.win.Taking.{Taking}
use Rattle.guards.specs.declared.win.WinAt.{WinAt}
use Rattle.guards.specs.declared.win.WinCall.{WinCall}
use Rattle.guards.specs.declared.win.WinNext.{WinNext}
use Rattle.guards.specs.Win.{win_course, win_learn}
use Rattle.word_laws.specs.Memory.{Mem, after, found, fresh}
use Rattle.chain_laws.specs.Named.{ten_key}
use Rattle.guard_laws.specs.Blocks.{Use, Place, Half, Task, half_of, Shadow, at_edge, edge_of, core_in, taken_guard}
use Rattle.guard_laws.specs.Blocks.{rest_of, IsOffered, piece_of, GuardGood}
use Rattle.guard_laws.specs.Steps.{guard_in, shadow_won, GuardStep, GuardRun}
use Rattle.guard_laws.specs.Neighbours.{Covered, KeepsWalls, WalledRun}
use Rattle.guard_laws.specs.Named.{no_blocks, named_blocks, named_guards}

-- each step of each seat keeps what holds of blocks and their guards
abbrev pub StepsKeepGuards : Type 0
StepsKeepGuards =
    (k : Key) (seat : ℕ) (g : Shadow) (m : Mem) (tasks : ℕ → Task) (h : Shadow) (m' : Mem) (tasks' : ℕ → Task)
    → GuardGood k g (core_in m tasks) → GuardStep k seat g m tasks h m' tasks' → GuardGood k h (core_in m' tasks')

abbrev pub RunsKeepGuards : Type 0
RunsKeepGuards =
    (k : Key) (g : Shadow) (m : Mem) (tasks : ℕ → Task) (h : Shadow) (m' : Mem) (tasks' : ℕ → Task)
    → GuardGood k g (core_in m tasks) → GuardRun k g m tasks h m' tasks' → GuardGood k h (core_in m' tasks')

-- what a winning seat has at its end: the block, which was in a bin until then, whole and in its hand; or nothing
pub record IsTaken (g h : Shadow) (m' : Mem) (seat : ℕ) (c : WinCall) : Type 0 where
  pub bin : g.place c.begin ≡ Place.Block c.begin c.granules Use.Bin
  pub hand : (z : ℕ) → c.begin ≤ z → z < c.end
      → h.place z ≡ Place.Block c.begin c.granules (Use.Held seat c.taking)
  pub guards : (e : Side) → guard_in m' e (edge_of e c.begin c.granules) ≡ taken_guard c.taking

-- the blocks are as before
pub record IsGivenBack (g h : Shadow) (m' : Mem) (c : WinCall) : Type 0 where
  pub place : h.place ≡ g.place
  pub guard : guard_in m' c.first (edge_of c.first c.begin c.granules) ≡ Guard.Free c.granules

abbrev pub WinEnds : Shadow → Shadow → Mem → Mem → ℕ → WinCall → WinNext → Type 0
WinEnds g h m m' seat c (WinNext.Goes at) = h.place ≡ g.place
WinEnds g h m m' seat c WinNext.Won = IsTaken g h m' seat c
WinEnds g h m m' seat c (WinNext.NotWon found) = (h ≡ g) × (m' ≡ m)
WinEnds g h m m' seat c WinNext.GivenBack = IsGivenBack g h m' c

-- a block is won whole, by both of its guards, or given back
abbrev pub BothWordsOrNone : Type 0
BothWordsOrNone =
    (k : Key) (seat : ℕ) (g : Shadow) (m : Mem) (tasks : ℕ → Task) (c : WinCall) (at : WinAt)
    → GuardGood k g (core_in m tasks) → tasks seat ≡ Task.Wins c at
    → WinEnds g (shadow_won seat c (win_learn c at (found m (win_course c at))) g) m (after k m (win_course c at)) seat
    c (win_learn c at (found m (win_course c at)))

-- a guard that is won alone is one seat's
abbrev pub GuardsAreWonByOne : Type 0
GuardsAreWonByOne =
    (k : Key) (g : Shadow) (m : Mem) (tasks : ℕ → Task) (seat other : ℕ) (e : Side) (x n y o : ℕ) (j i : Taking)
    → GuardGood k g (core_in m tasks) → half_of (tasks seat) ≡ Half.HalfOf e x n j
    → half_of (tasks other) ≡ Half.HalfOf e y o i → edge_of e x n ≡ edge_of e y o → seat ≡ other

-- a free guard tells a block: one that is in a bin, or that a seat has in hand and offers
abbrev pub FreeGuardsTellBlocks : Type 0
FreeGuardsTellBlocks =
    (k : Key) (g : Shadow) (m : Mem) (tasks : ℕ → Task) (e : Side) (y n : ℕ) → GuardGood k g (core_in m tasks)
    → guard_in m e y ≡ Guard.Free n
    → (x : ℕ) × (edge_of e x n ≡ y) × IsOffered g.place (λ t. piece_of (tasks t)) e x n × (x + n ≤ k.span)

-- the guards of a block say what its use wants, while its seat does not offer it
pub record HandStays (g h : Shadow) (m m' : Mem) (seat x n : ℕ) (taking : Taking) : Type 0 where
  pub place : h.place x ≡ Place.Block x n (Use.Held seat taking)
  pub standing : (e : Side) → at_edge g.standing e (edge_of e x n) ≡ rest_of taking
      → at_edge h.standing e (edge_of e x n) ≡ rest_of taking
  pub guards : (e : Side) → at_edge g.standing e (edge_of e x n) ≡ rest_of taking
      → guard_in m' e (edge_of e x n) ≡ guard_in m e (edge_of e x n)

-- no other seat takes a block from a seat's hand, nor changes its guards there
abbrev pub OthersLeaveHands : Type 0
OthersLeaveHands =
    (k : Key) (seat other : ℕ) (g : Shadow) (m : Mem) (tasks : ℕ → Task) (h : Shadow) (m' : Mem) (tasks' : ℕ → Task)
    (x n : ℕ) (taking : Taking) → GuardGood k g (core_in m tasks) → GuardStep k other g m tasks h m' tasks'
    → other ≢ seat → g.place x ≡ Place.Block x n (Use.Held seat taking) → HandStays g h m m' seat x n taking

-- at each edge of a block a wall or another block stays, where steps keep the walls that are beside blocks
abbrev pub StepsKeepNeighbours : Type 0
StepsKeepNeighbours =
    (k : Key) (seat : ℕ) (g : Shadow) (m : Mem) (tasks : ℕ → Task) (h : Shadow) (m' : Mem) (tasks' : ℕ → Task)
    → GuardGood k g (core_in m tasks) → Covered g → (step : GuardStep k seat g m tasks h m' tasks')
    → KeepsWalls k seat g m tasks h m' tasks' step → Covered h

abbrev pub RunsKeepNeighbours : Type 0
RunsKeepNeighbours =
    (k : Key) (g : Shadow) (m : Mem) (tasks : ℕ → Task) (h : Shadow) (m' : Mem) (tasks' : ℕ → Task)
    → GuardGood k g (core_in m tasks) → Covered g → WalledRun k g m tasks h m' tasks' → Covered h

-- in a new pool no block is
abbrev pub FreshPoolsHaveNoBlocks : Type 0
FreshPoolsHaveNoBlocks =
    (k : Key) → k.span < 2 ^ 32 → GuardGood k no_blocks (core_in fresh (λ seat. Task.Away))

-- a block in a bin, one of which a guard is won, one in hand, one that is queued, and one that is offered
abbrev pub NamedGuardsStand : Type 0
NamedGuardsStand = GuardGood ten_key named_blocks (named_guards WinAt.Second)

-- and at each of their edges is a wall or another of them
abbrev pub NamedBlocksAreCovered : Type 0
NamedBlocksAreCovered = Covered named_blocks
