-- The steps of a seat on guards and blocks, what each rests on, and what it leaves. A step that leaves the words alone
-- tells what has become of blocks by a step on other words, or by nothing but the seat's own reckoning.
use Rattle.std.specs.Prelude.{◌≡◌, ◌≢◌, ℕ, ◌+◌, ◌<◌, ◌≤◌, ⊤}
use Rattle.pool_words.specs.declared.words.Key.{Key}
use Rattle.pool_words.specs.declared.words.Word.{Word}
use Rattle.pool_words.specs.declared.actions.Action.{Action}
use Rattle.pool_words.specs.declared.actions.Action.TheVariants.{Load, Store, Swap, Exchange, Add}
use Rattle.pool_words.specs.declared.actions.Action.TheVariants.{TakeOffice, GiveOffice, Nothing}
use Rattle.pool_words.specs.Words.{kind_of_word, number, sizes, lefts}
use Rattle.word_codes.specs.declared.guards.Guard.{Guard}
use Rattle.word_codes.specs.Guards.{guard_of, guard_word}
use Rattle.guards.specs.declared.win.Side.{Side}
use Rattle.guards.specs.declared.win.Taking.{Taking}
use Rattle.guards.specs.declared.win.WinAt.{WinAt}
use Rattle.guards.specs.declared.win.WinCall.{WinCall}
use Rattle.guards.specs.declared.win.WinNext.{WinNext}
use Rattle.guards.specs.Win.{other_side, win_course, win_learn}
use Rattle.word_laws.specs.Memory.{Mem, put, after, found}
use Rattle.guard_laws.specs.Blocks.{Use, Place, Standing, at_edge, set_edge, edge_of, edge_word, put_range}
use Rattle.guard_laws.specs.Blocks.{Task, Shadow, core_in, GuardFits, rest_of, CallFits}

-- the guards at an index, as words
abbrev pub guard_in : Mem → Side → ℕ → Guard
guard_in m e y = guard_of (at_edge (core_in m (λ seat. Task.Away)).words e y)

abbrev pub task_after : WinCall → WinNext → Task
task_after c (WinNext.Goes at) = Task.Wins c at
task_after c WinNext.Won = Task.Away
task_after c (WinNext.NotWon found) = Task.Away
task_after c WinNext.GivenBack = Task.Away

abbrev pub with_use : ℕ → ℕ → Use → Shadow → Shadow
with_use first granules use' g =
    record g { place = put_range g.place first granules (Place.Block first granules use') }

abbrev pub with_edge : Side → ℕ → Standing → Shadow → Shadow
with_edge e y s g = record g { standing = set_edge e y s g.standing }

abbrev pub with_edges : ℕ → ℕ → Standing → Shadow → Shadow
with_edges first granules s g =
    with_edge Side.End (first + granules) s (with_edge Side.Begin first s g)

-- both guards are won: the block is in the seat's hand
abbrev pub shadow_taken : ℕ → WinCall → Shadow → Shadow
shadow_taken seat c g = with_use c.begin c.granules (Use.Held seat c.taking) (record g {
  standing = set_edge (other_side c.first) (edge_of (other_side c.first) c.begin c.granules) (rest_of c.taking)
      (set_edge c.first (edge_of c.first c.begin c.granules) (rest_of c.taking) g.standing);
})

abbrev pub shadow_won : ℕ → WinCall → WinNext → Shadow → Shadow
shadow_won seat c (WinNext.Goes WinAt.First) g = g
shadow_won seat c (WinNext.Goes WinAt.Second) g =
    with_edge c.first (edge_of c.first c.begin c.granules) (Standing.Won c.granules seat c.taking) g
shadow_won seat c (WinNext.Goes WinAt.Back) g = g
shadow_won seat c WinNext.Won g = shadow_taken seat c g
shadow_won seat c (WinNext.NotWon found) g = g
shadow_won seat c WinNext.GivenBack g =
    with_edge c.first (edge_of c.first c.begin c.granules) (Standing.Open c.granules) g

-- of a block that is in no bin, what stands behind both guards
abbrev pub standing_of : Use → Standing
standing_of Use.Bin = Standing.Inner
standing_of (Use.Held seat taking) = rest_of taking
standing_of Use.Queued = Standing.Waiting
standing_of Use.Elsewhere = Standing.Resting

-- a seat changes the use of blocks in its own hand, or of one that is in no hand and in no bin
abbrev pub IsOwn : ℕ → Use → Type 0
IsOwn seat Use.Bin = ⊥
IsOwn seat (Use.Held other taking) = other ≡ seat
IsOwn seat Use.Queued = ⊤
IsOwn seat Use.Elsewhere = ⊤

abbrev pub IsNoEdge : (ℕ → Place) → Side → ℕ → Type 0
IsNoEdge place e y = (x n : ℕ) (u : Use) → place x ≡ Place.Block x n u → edge_of e x n ≢ y

-- the granules of a block that is cut in two
abbrev pub place_split : ℕ → ℕ → ℕ → Use → (ℕ → Place) → ℕ → Place
place_split first a b u place =
    put_range (put_range place first a (Place.Block first a u)) (first + a) b (Place.Block (first + a) b u)

abbrev pub shadow_split : ℕ → ℕ → ℕ → ℕ → Shadow → Shadow
shadow_split seat first a b g = record {
  place = place_split first a b (Use.Held seat Taking.ForUse) g.place;
  standing = set_edge Side.Begin (first + a) Standing.Resting
      (set_edge Side.End (first + a) Standing.Resting g.standing);
}

abbrev pub shadow_merged : ℕ → ℕ → ℕ → ℕ → Shadow → Shadow
shadow_merged seat first a b g = record {
  place = put_range g.place first (a + b) (Place.Block first (a + b) (Use.Held seat Taking.ToJoin));
  standing = set_edge Side.Begin (first + a) Standing.Inner
      (set_edge Side.End (first + a) Standing.Inner g.standing);
}

-- all queued blocks are in one seat's hand
abbrev pub use_drained : ℕ → Use → Use
use_drained seat Use.Bin = Use.Bin
use_drained seat (Use.Held other taking) = Use.Held other taking
use_drained seat Use.Queued = Use.Held seat Taking.ToJoin
use_drained seat Use.Elsewhere = Use.Elsewhere

abbrev pub place_drained : ℕ → Place → Place
place_drained seat Place.Outside = Place.Outside
place_drained seat (Place.Block first granules use') = Place.Block first granules (use_drained seat use')

abbrev pub standing_drained : Standing → Standing
standing_drained Standing.Inner = Standing.Inner
standing_drained Standing.Resting = Standing.Resting
standing_drained Standing.Walled = Standing.Walled
standing_drained Standing.Joining = Standing.Joining
standing_drained Standing.Waiting = Standing.Joining
standing_drained (Standing.Open n) = Standing.Open n
standing_drained (Standing.Won n t taking) = Standing.Won n t taking

abbrev pub shadow_drained : ℕ → Shadow → Shadow
shadow_drained seat g = record {
  place = λ y. place_drained seat (g.place y);
  standing = record {
    begins = λ y. standing_drained (g.standing.begins y);
    ends = λ y. standing_drained (g.standing.ends y);
  };
}

-- a word that is no guard
pub record IsOtherWord (w : Word) : Type 0 where
  pub no_size : number (kind_of_word w) ≢ number sizes
  pub no_left : number (kind_of_word w) ≢ number lefts

abbrev pub IsOtherAction : Action → Type 0
IsOtherAction (Load w) = ⊤
IsOtherAction (Store w value) = IsOtherWord w
IsOtherAction (Swap w value) = IsOtherWord w
IsOtherAction (Exchange w from to) = IsOtherWord w
IsOtherAction (Add w value) = IsOtherWord w
IsOtherAction (TakeOffice job) = ⊤
IsOtherAction GiveOffice = ⊤
IsOtherAction Nothing = ⊤

pub data GuardStep (k : Key) (seat : ℕ) (g : Shadow) (m : Mem) (tasks : ℕ → Task)
    : Shadow → Mem → (ℕ → Task) → Type 0 where
  -- a block is to be won
  begins : (c : WinCall) → tasks seat ≡ Task.Away → CallFits c
      → GuardStep k seat g m tasks g m (put tasks seat (Task.Wins c WinAt.First))
  -- G1, G2: a guard is won or not, and the first one is given back where the other is lost
  wins : (c : WinCall) (at : WinAt) → tasks seat ≡ Task.Wins c at
      → GuardStep k seat g m tasks (shadow_won seat c (win_learn c at (found m (win_course c at))) g)
      (after k m (win_course c at)) (put tasks seat (task_after c (win_learn c at (found m (win_course c at)))))
  -- G3 of a put, and of a rest of a cut: the block is offered at its begin
  offers : (first granules : ℕ) (taking : Taking) → tasks seat ≡ Task.Away
      → g.place first ≡ Place.Block first granules (Use.Held seat taking)
      → GuardStep k seat g m tasks (with_edge Side.Begin first (Standing.Open granules) g)
      (after k m (Store (Word.Size first) (guard_word (Guard.Free granules))))
      (put tasks seat (Task.Offers first granules))
  -- G4: and at its end, and is in a bin from now on
  offered : (first granules : ℕ) → tasks seat ≡ Task.Offers first granules
      → GuardStep k seat g m tasks (with_use first granules Use.Bin
      (with_edge Side.End (first + granules) (Standing.Open granules) g))
      (after k m (Store (Word.Left (first + granules)) (guard_word (Guard.Free granules))))
      (put tasks seat Task.Away)
  -- G5, G6: a guard of a block in hand is marked
  marks : (e : Side) (first granules : ℕ) (taking : Taking) (guard : Guard) → tasks seat ≡ Task.Away
      → g.place first ≡ Place.Block first granules (Use.Held seat taking) → GuardFits (rest_of taking) guard
      → GuardStep k seat g m tasks g
      (after k m (Store (edge_word e (edge_of e first granules)) (guard_word guard))) tasks
  -- a guard within a block in hand says that a block is in use
  readies : (e : Side) (first granules at : ℕ) (taking : Taking)
      → g.place first ≡ Place.Block first granules (Use.Held seat taking) → first < at → at < first + granules
      → GuardStep k seat g m tasks (with_edge e at Standing.Inner g)
      (after k m (Store (edge_word e at) (guard_word Guard.Used))) tasks
  -- a block in hand is cut in two, once both guards at that place say that a block is in use
  splits : (first a b : ℕ) → tasks seat ≡ Task.Away → 0 < a → 0 < b
      → g.place first ≡ Place.Block first (a + b) (Use.Held seat Taking.ForUse)
      → ((e : Side) → guard_in m e (first + a) ≡ Guard.Used)
      → GuardStep k seat g m tasks (shadow_split seat first a b g) m tasks
  -- two blocks in hand, beside each other, are one
  merges : (first a b : ℕ) → tasks seat ≡ Task.Away
      → g.place first ≡ Place.Block first a (Use.Held seat Taking.ToJoin)
      → g.place (first + a) ≡ Place.Block (first + a) b (Use.Held seat Taking.ToJoin)
      → GuardStep k seat g m tasks (shadow_merged seat first a b g) m tasks
  -- a block that is in no bin has another use
  reuses : (first granules : ℕ) (was now : Use) → tasks seat ≡ Task.Away → IsOwn seat was → IsOwn seat now
      → g.place first ≡ Place.Block first granules was
      → ((e : Side) → GuardFits (standing_of now) (guard_in m e (edge_of e first granules)))
      → GuardStep k seat g m tasks (with_use first granules now (with_edges first granules (standing_of now) g)) m
      tasks
  -- Q4: the queue is taken
  drains : GuardStep k seat g m tasks (shadow_drained seat g) m tasks
  -- a wall, or a guard that is to be a region's first or last, where no block begins or ends
  walls : (e : Side) (y : ℕ) → y ≤ k.span → IsNoEdge g.place e y
      → GuardStep k seat g m tasks (with_edge e y Standing.Walled g)
      (after k m (Store (edge_word e y) (guard_word Guard.Wall))) tasks
  outlines : (e : Side) (y : ℕ) → y ≤ k.span → IsNoEdge g.place e y
      → GuardStep k seat g m tasks (with_edge e y Standing.Inner g)
      (after k m (Store (edge_word e y) (guard_word Guard.Used))) tasks
  -- a region comes, as a block in hand, and leaves
  comes : (first granules : ℕ) → 0 < granules → first + granules ≤ k.span
      → ((z : ℕ) → first ≤ z → z < first + granules → g.place z ≡ Place.Outside)
      → ((e : Side) → guard_in m e (edge_of e first granules) ≡ Guard.Used)
      → GuardStep k seat g m tasks (with_use first granules (Use.Held seat Taking.ForUse)
      (with_edges first granules Standing.Resting g)) m tasks
  leaves : (first granules : ℕ) (taking : Taking) → tasks seat ≡ Task.Away
      → g.place first ≡ Place.Block first granules (Use.Held seat taking)
      → GuardStep k seat g m tasks (record {
        place = put_range g.place first granules Place.Outside;
        standing = set_edge Side.End (first + granules) Standing.Inner
            (set_edge Side.Begin first Standing.Inner g.standing);
      }) m tasks
  -- each step on another word
  others : (action : Action) → IsOtherAction action → GuardStep k seat g m tasks g (after k m action) tasks

-- any number of steps of any number of seats
pub data GuardRun (k : Key) (g0 : Shadow) (m0 : Mem) (tasks0 : ℕ → Task) : Shadow → Mem → (ℕ → Task) → Type 0 where
  starts : GuardRun k g0 m0 tasks0 g0 m0 tasks0
  steps : {g1 : Shadow} {m1 : Mem} {t1 : ℕ → Task} {h : Shadow} {m' : Mem} {t' : ℕ → Task}
      → GuardRun k g0 m0 tasks0 g1 m1 t1 → (seat : ℕ) → GuardStep k seat g1 m1 t1 h m' t'
      → GuardRun k g0 m0 tasks0 h m' t'
