-- The steps of a seat on the pool and its regions.
use Rattle.std.specs.Prelude.{◌≡◌, ℕ, ◌+◌, ◌<◌, ◌≤◌, Option, Some, None, ⊤}
use Rattle.pool_types.specs.declared.policy.RegionRec.{RegionRec}
use Rattle.pool_words.specs.declared.words.Key.{Key}
use Rattle.pool_words.specs.declared.actions.OfficeJob.{OfficeJob}
use Rattle.pool_words.specs.declared.actions.Seen.{Seen}
use Rattle.pool_words.specs.Words.{office_locks, regions, bases}
use Rattle.word_codes.specs.declared.guards.Guard.{Guard}
use Rattle.word_codes.specs.Places.{slot_of}
use Rattle.guards.specs.declared.win.Side.{Side}
use Rattle.guards.specs.declared.win.Taking.{Taking}
use Rattle.regions.specs.declared.errors.ObtainError.{ObtainError}
use Rattle.region_steps.specs.declared.office.OfficeAt.{OfficeAt}
use Rattle.region_steps.specs.declared.office.OfficeEnd.{OfficeEnd}
use Rattle.region_steps.specs.Office.{office_course, office_learn, wall_of}
use Rattle.word_laws.specs.Memory.{Mem, put, after, found}
use Rattle.guard_laws.specs.Blocks as guards
use Rattle.guard_laws.specs.Blocks.{Use, Place, Standing, set_edge, put_range}
use Rattle.guard_laws.specs.Steps.{GuardStep, guard_in, with_use, with_edge, with_edges}
use Rattle.office_laws.specs.Regions.{Task}
use Rattle.office_laws.specs.Steps.{call_of, task_after, IsFresh, shadow_came, shadow_entered, shadow_removed}
use Rattle.use_laws.specs.Pools.{Pool, InHand}
use Rattle.use_laws.specs.After.{with_mem}
use Rattle.use_laws.specs.Steps.{PoolStep}
use Rattle.region_laws.specs.Granules.{State}

-- the words of the office are the same
pub record SameOffice (m m' : Mem) : Type 0 where
  pub lock : m' office_locks ≡ m office_locks
  pub words : m' regions ≡ m regions
  pub bases' : m' bases ≡ m bases

-- a step on guards by which no region comes, none leaves, and none gets its edges
abbrev pub KeepsRegions : (k : Key) (seat : ℕ) (g : guards.Shadow) (m : Mem) (tasks : ℕ → guards.Task)
    (h : guards.Shadow) (m' : Mem) (tasks' : ℕ → guards.Task) → GuardStep k seat g m tasks h m' tasks' → Type 0
KeepsRegions k seat g m tasks h m' tasks' (GuardStep.begins c is fits) = ⊤
KeepsRegions k seat g m tasks h m' tasks' (GuardStep.wins c at is) = ⊤
KeepsRegions k seat g m tasks h m' tasks' (GuardStep.offers first granules taking is at) = ⊤
KeepsRegions k seat g m tasks h m' tasks' (GuardStep.offered first granules is) = ⊤
KeepsRegions k seat g m tasks h m' tasks' (GuardStep.marks e first granules taking guard is at fits) = ⊤
KeepsRegions k seat g m tasks h m' tasks' (GuardStep.readies e first granules at taking block low high) = ⊤
KeepsRegions k seat g m tasks h m' tasks' (GuardStep.splits first a b is some more at used) = ⊤
KeepsRegions k seat g m tasks h m' tasks' (GuardStep.merges first a b is at behind) = ⊤
KeepsRegions k seat g m tasks h m' tasks' (GuardStep.reuses first granules was now is own own' at fits) = ⊤
KeepsRegions k seat g m tasks h m' tasks' GuardStep.drains = ⊤
KeepsRegions k seat g m tasks h m' tasks' (GuardStep.walls e y low none) = ⊥
KeepsRegions k seat g m tasks h m' tasks' (GuardStep.outlines e y low none) = ⊥
KeepsRegions k seat g m tasks h m' tasks' (GuardStep.comes first granules some within outside used) = ⊥
KeepsRegions k seat g m tasks h m' tasks' (GuardStep.leaves first granules taking is at) = ⊥
KeepsRegions k seat g m tasks h m' tasks' (GuardStep.others action other) = ⊤

-- and so for the whole pool
abbrev pub LeavesRegions : (k : Key) (seat : ℕ) (p later : Pool) → PoolStep k seat p later → Type 0
LeavesRegions k seat p later (PoolStep.guards h m' tasks step keeps same) =
    KeepsRegions k seat p.blocks p.mem p.tasks h m' tasks step
LeavesRegions k seat p later (PoolStep.objects h m' l' step plain) = ⊤
LeavesRegions k seat p later (PoolStep.frees call kind at few is own) = ⊤
LeavesRegions k seat p later (PoolStep.frees_block call x n at taking few is ends away) = ⊤
LeavesRegions k seat p later (PoolStep.takes e head below few is) = ⊤
LeavesRegions k seat p later (PoolStep.rests e unit few is) = ⊤
LeavesRegions k seat p later (PoolStep.joins e first last count is) = ⊤
LeavesRegions k seat p later (PoolStep.readies x n unit has away fits low high few) = ⊤
LeavesRegions k seat p later (PoolStep.slab_begins e class has away even low) = ⊤
LeavesRegions k seat p later (PoolStep.slab_ends e taking free away by none) = ⊤
LeavesRegions k seat p later (PoolStep.slab_cached e has even room) = ⊤
LeavesRegions k seat p later (PoolStep.newest_out e taking free is) = ⊤
LeavesRegions k seat p later (PoolStep.oldest_out e taking free is) = ⊤
LeavesRegions k seat p later (PoolStep.clears e n taking has) = ⊤
LeavesRegions k seat p later (PoolStep.stores_header e by) = ⊤
LeavesRegions k seat p later (PoolStep.leaves e away by header) = ⊤
LeavesRegions k seat p later (PoolStep.comes chain away orphans) = ⊤
LeavesRegions k seat p later (PoolStep.goes_back e away has) = ⊤
LeavesRegions k seat p later (PoolStep.adopts e away has) = ⊤
LeavesRegions k seat p later (PoolStep.shelves x n has) = ⊤
LeavesRegions k seat p later (PoolStep.unshelves x n taking free shelved rests) = ⊤

abbrev pub with_desk : ℕ → Task → State → State
with_desk seat task s = record s { desks = put s.desks seat task }

-- the words, and what the seats do at the office, after a step there
abbrev pub mem_at : Key → ℕ → OfficeJob → OfficeAt → State → Mem
mem_at k seat job at s = after k s.pool.mem (office_course (call_of seat job) at)

abbrev pub desks_at : ℕ → OfficeJob → OfficeAt → State → ℕ → Task
desks_at seat job at s = put s.desks seat (task_after job at (office_learn (call_of seat job) at
    (Seen.Word (found s.pool.mem (office_course (call_of seat job) at)))))

-- a step on the office's own words; one at an edge of a region that comes
abbrev pub stepped : Key → ℕ → OfficeJob → OfficeAt → State → State
stepped k seat job at s = record s {
  pool = with_mem (mem_at k seat job at s) s.pool;
  desks = desks_at seat job at s;
}

abbrev pub edged : Key → ℕ → OfficeJob → OfficeAt → Side → ℕ → Standing → State → State
edged k seat job at e y standing s = record s {
  pool = record s.pool { mem = mem_at k seat job at s; blocks = with_edge e y standing s.pool.blocks };
  desks = desks_at seat job at s;
}

-- the region is one block in the seat's hand
abbrev pub blocks_settled : ℕ → RegionRec → guards.Shadow → guards.Shadow
blocks_settled seat one g = with_use one.first one.granules (Use.Held seat Taking.ForUse)
    (with_edges one.first one.granules Standing.Resting (with_edge Side.End (wall_of one) Standing.Inner g))

abbrev pub state_settled : Key → ℕ → OfficeJob → RegionRec → State → State
state_settled k seat job one s = record s {
  pool = record s.pool {
    mem = mem_at k seat job (OfficeAt.LastLeft one) s;
    blocks = blocks_settled seat one s.pool.blocks;
  };
  desks = desks_at seat job (OfficeAt.LastLeft one) s;
  settled = put s.settled (slot_of one.number) (Some one);
}

-- the region goes, with the block that it is
abbrev pub blocks_removed : RegionRec → guards.Shadow → guards.Shadow
blocks_removed one g = record {
  place = put_range g.place one.first one.granules Place.Outside;
  standing = set_edge Side.End (one.first + one.granules) Standing.Inner
      (set_edge Side.Begin one.first Standing.Inner g.standing);
}

abbrev pub state_removed : Key → ℕ → OfficeJob → ℕ → RegionRec → State → State
state_removed k seat job slot one s = record {
  pool = record s.pool {
    mem = mem_at k seat job (OfficeAt.Remove (Some slot)) s;
    blocks = blocks_removed one s.pool.blocks;
  };
  desks = put s.desks seat (Task.At job (OfficeAt.Back OfficeEnd.Given));
  settled = put s.settled slot None;
  office = shadow_removed (Some slot) s.office;
}

pub data RegionStep (k : Key) (seat : ℕ) (s : State) : State → Type 0 where
  -- a step of the pool on other words, by which no region comes or leaves
  pool : (later : Pool) → (step : PoolStep k seat s.pool later) → LeavesRegions k seat s.pool later step
      → SameOffice s.pool.mem later.mem → RegionStep k seat s (record s { pool = later })
  begins : (job : OfficeJob) → s.desks seat ≡ Task.Away
      → RegionStep k seat s (with_desk seat (Task.At job OfficeAt.Lock) s)
  -- F1, F5, F10, F2
  locks : (job : OfficeJob) → seat < 64 → s.desks seat ≡ Task.At job OfficeAt.Lock
      → RegionStep k seat s (stepped k seat job OfficeAt.Lock s)
  looks : (job : OfficeJob) (slot : ℕ) (given : Option ℕ) → s.desks seat ≡ Task.At job (OfficeAt.Region slot given)
      → RegionStep k seat s (stepped k seat job (OfficeAt.Region slot given) s)
  backs : (job : OfficeJob) (end : OfficeEnd) → s.desks seat ≡ Task.At job (OfficeAt.Back end)
      → RegionStep k seat s (stepped k seat job (OfficeAt.Back end) s)
  unlocks : (job : OfficeJob) (end : OfficeEnd) → s.desks seat ≡ Task.At job (OfficeAt.Unlock end)
      → RegionStep k seat s (record s {
        pool = with_mem (mem_at k seat job (OfficeAt.Unlock end) s) s.pool;
        desks = put s.desks seat Task.Away;
      })
  -- F9: a region comes, none does, or one is to be given back
  comes : (granules : ℕ) (given : Option ℕ) (one : RegionRec)
      → s.desks seat ≡ Task.At (OfficeJob.Obtain granules) (OfficeAt.Take given) → IsFresh s.office one
      → one.first + one.granules ≤ k.span
      → RegionStep k seat s (record s {
        office = shadow_came one s.office;
        desks = put s.desks seat (Task.At (OfficeJob.Obtain granules) (OfficeAt.Base one));
      })
  refused : (granules : ℕ) (given : Option ℕ) (error : ObtainError)
      → s.desks seat ≡ Task.At (OfficeJob.Obtain granules) (OfficeAt.Take given)
      → RegionStep k seat s
      (with_desk seat (Task.At (OfficeJob.Obtain granules) (OfficeAt.Back (OfficeEnd.Refused error))) s)
  gives_back : (first : ℕ) (given : Option ℕ) → s.desks seat ≡ Task.At (OfficeJob.Give first) (OfficeAt.Take given)
      → RegionStep k seat s (with_desk seat (Task.At (OfficeJob.Give first) (OfficeAt.Remove given)) s)
  -- F3: the base, and the region's word
  bases' : (job : OfficeJob) (one : RegionRec) → s.desks seat ≡ Task.At job (OfficeAt.Base one)
      → RegionStep k seat s (record s {
        pool = with_mem (mem_at k seat job (OfficeAt.Base one) s) s.pool;
        desks = put s.desks seat (Task.At job (OfficeAt.Enter one));
      })
  enters : (job : OfficeJob) (one : RegionRec) → s.desks seat ≡ Task.At job (OfficeAt.Enter one)
      → RegionStep k seat s (record s {
        pool = with_mem (mem_at k seat job (OfficeAt.Enter one) s) s.pool;
        office = shadow_entered one s.office;
        desks = put s.desks seat (Task.At job (OfficeAt.WallSize one));
      })
  -- the region's wall, and its first guard
  walls_off : (job : OfficeJob) (one : RegionRec) → s.desks seat ≡ Task.At job (OfficeAt.WallSize one)
      → RegionStep k seat s
      (edged k seat job (OfficeAt.WallSize one) Side.Begin (wall_of one) Standing.Walled s)
  walls_in : (job : OfficeJob) (one : RegionRec) → s.desks seat ≡ Task.At job (OfficeAt.WallLeft one)
      → RegionStep k seat s (edged k seat job (OfficeAt.WallLeft one) Side.End one.first Standing.Walled s)
  outlines : (job : OfficeJob) (one : RegionRec) → s.desks seat ≡ Task.At job (OfficeAt.FirstSize one)
      → RegionStep k seat s (edged k seat job (OfficeAt.FirstSize one) Side.Begin one.first Standing.Inner s)
  -- its last guard: the region is a block in hand, where the first guard says still what the seat stored
  settles : (job : OfficeJob) (one : RegionRec) → s.desks seat ≡ Task.At job (OfficeAt.LastLeft one)
      → 0 < one.granules → guard_in s.pool.mem Side.Begin one.first ≡ Guard.Used
      → RegionStep k seat s (state_settled k seat job one s)
  -- F4: the region of a block in hand, which is the whole of it, goes
  removes : (slot : ℕ) (one : RegionRec) (taking : Taking)
      → s.desks seat ≡ Task.At (OfficeJob.Give one.first) (OfficeAt.Remove (Some slot))
      → s.office.live slot ≡ Some one → InHand s.pool seat one.first one.granules taking
      → RegionStep k seat s (state_removed k seat (OfficeJob.Give one.first) slot one s)
  removes_none : (job : OfficeJob) → s.desks seat ≡ Task.At job (OfficeAt.Remove None)
      → RegionStep k seat s (record s {
        pool = with_mem (mem_at k seat job (OfficeAt.Remove None) s) s.pool;
        desks = put s.desks seat (Task.At job (OfficeAt.Back OfficeEnd.Given));
      })

-- any number of steps of any number of seats
pub data RegionRun (k : Key) (s : State) : State → Type 0 where
  starts : RegionRun k s s
  steps : {before later : State} → RegionRun k s before → (seat : ℕ) → RegionStep k seat before later
      → RegionRun k s later
