-- Each step, and so each run, keeps what holds of the pool and its regions.
use Rattle.std.proofs.Common.{◌≡◌, ◌≢◌, ℕ, ◌+◌, ◌-◌, ◌≤◌, Bool, true, false, cond, Option, Some, None}
use Rattle.std.proofs.Common.{refl, sym, ap, subst, arith, ◌∙◌}
use Rattle.std.specs.Prelude.{nat_lt}
use Rattle.pool_types.specs.declared.policy.RegionRec.{RegionRec}
use Rattle.pool_words.specs.declared.words.Key.{Key}
use Rattle.pool_words.specs.declared.actions.OfficeJob.{OfficeJob}
use Rattle.word_codes.specs.Places.{granule_of, slot_of}
use Rattle.guards.specs.declared.win.Side.{Side}
use Rattle.guards.specs.declared.win.Taking.{Taking}
use Rattle.region_steps.specs.declared.office.OfficeAt.{OfficeAt}
use Rattle.region_steps.specs.declared.office.OfficeNext.{OfficeNext}
use Rattle.pool_types.specs.Limits.{most_regions}
use Rattle.region_steps.specs.Office.{office_course, office_after, office_entered, wall_of}
use Rattle.word_laws.specs.Memory.{put}
use Rattle.word_laws.proofs.CallerLemmas.{put-other, each}
use Rattle.guard_laws.specs.Blocks.{Use, Standing}
use Rattle.guard_laws.specs.Steps.{with_edge}
use Rattle.office_laws.specs.Regions as office
use Rattle.office_laws.specs.Regions.{Task, Holds, HoldsAt, TaskFits, IsIn, OfficeGood}
use Rattle.office_laws.specs.Steps.{OfficeStep, call_of, task_after, shadow_came, shadow_entered, shadow_removed}
use Rattle.office_laws.proofs.CallerLemmas.{same_keeps, one_holder, fits_at, steps_keep_office}
use Rattle.use_laws.specs.After.{with_mem}
use Rattle.use_laws.specs.Pools.{PoolGood}
use Rattle.use_laws.proofs.CallerLemmas.{steps_keep_pool, IsFar, mem_so, objects_lie_in_blocks}
use Rattle.region_laws.specs.Granules.{State, IsInside, settling, settling_at, RegionGood}
use Rattle.region_laws.specs.Steps.{RegionStep, with_desk, mem_at, desks_at, edged}
use Rattle.region_laws.specs.Steps.RegionRun.{starts, steps}
use Rattle.region_laws.specs.Laws.{StepsKeepRegions, RunsKeepRegions, BlocksLieInOneRegion, ObjectsLieInRegions}
use Rattle.region_laws.proofs.Status.{pools_same_status}
use Rattle.region_laws.proofs.Granules.{block_region, IsUnsettled, no_edge, all_outside, granules_stay}
use Rattle.region_laws.proofs.Granules.{granules_settled}
use Rattle.region_laws.proofs.Granules.{granules_removed}
use Rattle.region_laws.proofs.Pools.{walled_so, outlined_so, settled_so, removed_so}

-- who settles a region has the office
settling_holds : (at : OfficeAt) (one : RegionRec) → settling_at at ≡ Some one → HoldsAt at
settling_holds OfficeAt.Lock one is = absurd (let q : None ≡ Some one = is in cc)
settling_holds (OfficeAt.Region slot given) one is = tt
settling_holds (OfficeAt.Take given) one is = tt
settling_holds (OfficeAt.Base other) one is = tt
settling_holds (OfficeAt.Enter other) one is = tt
settling_holds (OfficeAt.WallSize other) one is = tt
settling_holds (OfficeAt.WallLeft other) one is = tt
settling_holds (OfficeAt.FirstSize other) one is = tt
settling_holds (OfficeAt.LastLeft other) one is = tt
settling_holds (OfficeAt.Remove given) one is = tt
settling_holds (OfficeAt.Back end) one is = tt
settling_holds (OfficeAt.Unlock end) one is = tt

desk_holds : (task : Task) (one : RegionRec) → settling task ≡ Some one → Holds task
desk_holds Task.Away one is = absurd (let q : None ≡ Some one = is in cc)
desk_holds (Task.At job at) one is = settling_holds at one is

-- another seat settles none while this one has the office
other_none : (k : Key) (s : State) (seat other : ℕ) (job : OfficeJob) (at : OfficeAt) (one : RegionRec)
    → RegionGood k s → s.desks seat ≡ Task.At job at → HoldsAt at → other ≢ seat
    → settling (s.desks other) ≡ Some one → ⊥
other_none k s t o job at one good is holds ne settles =
    ne (one_holder (office.core_in s.pool.mem s.desks).lock s.desks t o good.office.lock_fits
    (subst Holds (sym is) holds) (desk_holds (s.desks o) one settles))

-- a step at the office that settles none
unsettled_so : (k : Key) (s : State) (seat : ℕ) (task : Task) → RegionGood k s
    → ((one : RegionRec) → settling task ≡ Some one → s.settled (slot_of one.number) ≡ None) → (o : ℕ) (one : RegionRec)
    → settling (put s.desks seat task o) ≡ Some one → s.settled (slot_of one.number) ≡ None
unsettled_so k s t task good here = each (λ o q. (one : RegionRec) → settling q ≡ Some one
    → s.settled (slot_of one.number) ≡ None) s.desks t task (λ o _. good.unsettled o) here

known_in : (k : Key) (s : State) → RegionGood k s → (n : ℕ) (one : RegionRec) → s.office.live n ≡ Some one
    → s.office.out n ≡ Some one
known_in k s good n one is = good.office.records_fit.known n one is

-- a step on the office's own words
far_so : (k : Key) (seat : ℕ) (s : State) (job : OfficeJob) (at : OfficeAt) (desks : ℕ → Task) → RegionGood k s
    → IsFar (office_course (call_of seat job) at)
    → OfficeGood s.office (office.core_in (mem_at k seat job at s) desks)
    → ((o : ℕ) (one : RegionRec) → settling (desks o) ≡ Some one → s.settled (slot_of one.number) ≡ None)
    → RegionGood k (record s { pool = with_mem (mem_at k seat job at s) s.pool; desks = desks })
far_so k t s job at desks good far office' unsettled = record {
  pool = mem_so k t s.pool (office_course (call_of t job) at) far good.pool;
  office = office';
  placed = good.placed;
  unsettled = unsettled;
}

-- a job at the office goes on, and no word is written
desk_so : (k : Key) (seat : ℕ) (s : State) (task : Task) → RegionGood k s
    → OfficeGood s.office (office.core_in s.pool.mem (put s.desks seat task))
    → ((one : RegionRec) → settling task ≢ Some one) → RegionGood k (with_desk seat task s)
desk_so k t s task good office' none = record {
  pool = good.pool;
  office = office';
  placed = good.placed;
  unsettled = unsettled_so k s t task good (λ one is. absurd (none one is));
}

-- the region of a seat that is about to settle it
unsettled_at : (k : Key) (s : State) (seat : ℕ) (job : OfficeJob) (at : OfficeAt) (one : RegionRec) → RegionGood k s
    → s.desks seat ≡ Task.At job at → settling_at at ≡ Some one → IsIn s.office one
    → IsUnsettled s.office s.settled one
unsettled_at k s t job at one good is settles in' = record {
  out = known_in k s good (slot_of one.number) one in';
  none = good.unsettled t one (ap settling is ∙ settles);
}

-- a guard at its edge is stored
edged_so : (k : Key) (seat : ℕ) (s : State) (job : OfficeJob) (at : OfficeAt) (e : Side) (y : ℕ) (standing : Standing)
    → RegionGood k s
    → PoolGood k (record s.pool { mem = mem_at k seat job at s; blocks = with_edge e y standing s.pool.blocks })
    → OfficeGood s.office (office.core_in (mem_at k seat job at s) (desks_at seat job at s))
    → ((o : ℕ) (one : RegionRec) → settling (desks_at seat job at s o) ≡ Some one
    → s.settled (slot_of one.number) ≡ None)
    → RegionGood k (edged k seat job at e y standing s)
edged_so k t s job at e y standing good pool office' unsettled = record {
  pool = pool;
  office = office';
  placed = good.placed;
  unsettled = unsettled;
}

abbrev SettlesNone : (ℕ → Option RegionRec) → Task → Type 0
SettlesNone settled task = (one : RegionRec) → settling task ≡ Some one → settled (slot_of one.number) ≡ None

-- where the seat goes on with the same region
goes_on : (settled : ℕ → Option RegionRec) (job : OfficeJob) (next : OfficeAt) (one : RegionRec)
    → settled (slot_of one.number) ≡ None → ((other : RegionRec) → settling_at next ≡ Some other → other ≡ one)
    → SettlesNone settled (Task.At job next)
goes_on settled job next one none same other is =
    subst (λ (r : RegionRec). settled (slot_of r.number) ≡ None) (sym (same other is)) none

some_one : (one other : RegionRec) → Some one ≡ Some other → other ≡ one
some_one one other is = cc

none_not : (other : RegionRec) → None ≡ Some other → ⊥
none_not other is = cc

looked_none : (settled : ℕ → Option RegionRec) (job : OfficeJob) (slot : ℕ) (given : Option ℕ) (at : OfficeAt)
    → SettlesNone settled (Task.At job (office_after slot given))
looked_none settled job slot given at = by (nat_lt slot (most_regions - 1))
  where
    by : (b : Bool)
        → SettlesNone settled (Task.At job (cond b (OfficeAt.Region (slot + 1) given) (OfficeAt.Take given)))
    by true one is = absurd (none_not one is)
    by false one is = absurd (none_not one is)

locked_none : (settled : ℕ → Option RegionRec) (job : OfficeJob) (b : Bool)
    → SettlesNone settled
    (task_after job OfficeAt.Lock (cond b (OfficeNext.Goes (OfficeAt.Region 0 None)) OfficeNext.Waits))
locked_none settled job true one is = absurd (none_not one is)
locked_none settled job false one is = absurd (none_not one is)

walled_none : (settled : ℕ → Option RegionRec) (job : OfficeJob) (one : RegionRec) (b : Bool)
    → settled (slot_of one.number) ≡ None
    → SettlesNone settled (Task.At job (cond b (office_entered one) (OfficeAt.FirstSize one)))
walled_none settled job one true none other is = absurd (none_not other is)
walled_none settled job one false none other is =
    subst (λ (r : RegionRec). settled (slot_of r.number) ≡ None) (sym (some_one one other is)) none

-- of a region that is settled, where none is
no_some : (q : Option RegionRec) → ((b : RegionRec) → q ≡ Some b → ⊥) → q ≡ None
no_some None not = refl
no_some (Some b) not = absurd (not b refl)

pub steps_keep_regions : StepsKeepRegions
steps_keep_regions k t s later good (RegionStep.pool q step leaves same) = record {
  pool = steps_keep_pool k t s.pool q good.pool step;
  office = same_keeps s.office s.pool.mem q.mem s.desks
      (record { lock = same.lock; words = same.words; bases' = same.bases' }) good.office;
  placed = granules_stay k s.office s.settled s.pool.blocks.place q.blocks.place
      (pools_same_status k t s.pool q step leaves good.pool) good.placed;
  unsettled = good.unsettled;
}
steps_keep_regions k t s later good (RegionStep.begins job is) =
    desk_so k t s (Task.At job OfficeAt.Lock) good
    (steps_keep_office k s.office s.pool.mem s.desks s.office s.pool.mem _ good.office (OfficeStep.begins t job is))
    (λ one q. none_not one q)
steps_keep_regions k t s later good (RegionStep.locks job few is) =
    far_so k t s job OfficeAt.Lock (desks_at t job OfficeAt.Lock s) good (omega arith)
    (steps_keep_office k s.office s.pool.mem s.desks s.office (mem_at k t job OfficeAt.Lock s) _ good.office
    (OfficeStep.locks t job few is))
    (unsettled_so k s t _ good (locked_none s.settled job _))
steps_keep_regions k t s later good (RegionStep.looks job slot given is) =
    far_so k t s job (OfficeAt.Region slot given) (desks_at t job (OfficeAt.Region slot given) s) good tt
    (steps_keep_office k s.office s.pool.mem s.desks s.office (mem_at k t job (OfficeAt.Region slot given) s) _
    good.office (OfficeStep.plain t job (OfficeAt.Region slot given) is tt))
    (unsettled_so k s t _ good (looked_none s.settled job slot _ OfficeAt.Lock))
steps_keep_regions k t s later good (RegionStep.backs job end is) =
    far_so k t s job (OfficeAt.Back end) (desks_at t job (OfficeAt.Back end) s) good tt
    (steps_keep_office k s.office s.pool.mem s.desks s.office (mem_at k t job (OfficeAt.Back end) s) _ good.office
    (OfficeStep.plain t job (OfficeAt.Back end) is tt))
    (unsettled_so k s t _ good (λ one q. absurd (none_not one q)))
steps_keep_regions k t s later good (RegionStep.unlocks job end is) =
    far_so k t s job (OfficeAt.Unlock end) (put s.desks t Task.Away) good (omega arith)
    (steps_keep_office k s.office s.pool.mem s.desks s.office (mem_at k t job (OfficeAt.Unlock end) s) _ good.office
    (OfficeStep.unlocks t job end is))
    (unsettled_so k s t Task.Away good (λ one q. absurd (none_not one q)))
steps_keep_regions k t s later good (RegionStep.comes granules given one is fresh within) = record {
  pool = good.pool;
  office = steps_keep_office k s.office s.pool.mem s.desks (shadow_came one s.office) s.pool.mem _ good.office
      (OfficeStep.comes t granules given one is fresh);
  placed = record {
    known = good.placed.known;
    within = λ n b. each (λ n q. q ≡ Some b → b.first + b.granules ≤ k.span) s.office.out (slot_of one.number)
        (Some one) (λ n _ q. good.placed.within n b q)
        (λ q. subst (λ (r : RegionRec). r.first + r.granules ≤ k.span) (sym (some_one one b q)) within) n;
    inside = good.placed.inside;
    outside = good.placed.outside;
  };
  unsettled = unsettled_so k s t (Task.At (OfficeJob.Obtain granules) (OfficeAt.Base one)) good
      (λ other q. absurd (none_not other q));
}
steps_keep_regions k t s later good (RegionStep.refused granules given error is) =
    desk_so k t s _ good
    (steps_keep_office k s.office s.pool.mem s.desks s.office s.pool.mem _ good.office
    (OfficeStep.refused t granules given error is)) (λ one q. none_not one q)
steps_keep_regions k t s later good (RegionStep.gives_back first given is) =
    desk_so k t s _ good
    (steps_keep_office k s.office s.pool.mem s.desks s.office s.pool.mem _ good.office
    (OfficeStep.gives_back t first given is)) (λ one q. none_not one q)
steps_keep_regions k t s later good (RegionStep.bases' job one is) =
    far_so k t s job (OfficeAt.Base one) (put s.desks t (Task.At job (OfficeAt.Enter one))) good (omega arith)
    (steps_keep_office k s.office s.pool.mem s.desks s.office (mem_at k t job (OfficeAt.Base one) s) _ good.office
    (OfficeStep.bases' t job one is))
    (unsettled_so k s t (Task.At job (OfficeAt.Enter one)) good (λ other q. absurd (none_not other q)))
steps_keep_regions k t s later good (RegionStep.enters job one is) =
    let fits = fits_at s.office (office.core_in s.pool.mem s.desks) t (Task.At job (OfficeAt.Enter one)) is
    good.office in
    let none = fits.0.none in
    let slot = slot_of one.number in
    let not : (b : RegionRec) → s.settled slot ≡ Some b → ⊥ =
    (λ b q. none_not b (sym none ∙ good.placed.known slot b q)) in
    record {
      pool = mem_so k t s.pool (office_course (call_of t job) (OfficeAt.Enter one)) (omega arith) good.pool;
      office = steps_keep_office k s.office s.pool.mem s.desks (shadow_entered one s.office)
          (mem_at k t job (OfficeAt.Enter one) s) _ good.office (OfficeStep.enters t job one is);
      placed = record {
        known = λ n b q. put-other s.office.live slot (Some one) n
            (λ e. not b (subst (λ z. s.settled z ≡ Some b) e q)) ∙ good.placed.known n b q;
        within = good.placed.within;
        inside = good.placed.inside;
        outside = good.placed.outside;
      };
      unsettled = unsettled_so k s t (Task.At job (OfficeAt.WallSize one)) good
          (λ other q. subst (λ (r : RegionRec). s.settled (slot_of r.number) ≡ None) (sym (some_one one other q))
          (no_some (s.settled slot) not));
    }
steps_keep_regions k t s later good (RegionStep.walls_off job one is) =
    let in' = fits_at s.office (office.core_in s.pool.mem s.desks) t (Task.At job (OfficeAt.WallSize one)) is
    good.office in
    let un = unsettled_at k s t job (OfficeAt.WallSize one) one good is refl in' in
    let within = good.placed.within (slot_of one.number) one un.out in
    edged_so k t s job (OfficeAt.WallSize one) Side.Begin (wall_of one) Standing.Walled good
    (walled_so k t s.pool Side.Begin (wall_of one) within
    (no_edge k s.office s.settled s.pool.blocks.place one Side.Begin (wall_of one) good.placed good.office.out_fits
    (known_in k s good) good.pool.guards.parts.whole un (omega arith) (omega arith)) good.pool)
    (steps_keep_office k s.office s.pool.mem s.desks s.office (mem_at k t job (OfficeAt.WallSize one) s) _ good.office
    (OfficeStep.plain t job (OfficeAt.WallSize one) is tt))
    (unsettled_so k s t (Task.At job (OfficeAt.WallLeft one)) good
    (goes_on s.settled job (OfficeAt.WallLeft one) one un.none (λ other q. some_one one other q)))
steps_keep_regions k t s later good (RegionStep.walls_in job one is) =
    let in' = fits_at s.office (office.core_in s.pool.mem s.desks) t (Task.At job (OfficeAt.WallLeft one)) is
    good.office in
    let un = unsettled_at k s t job (OfficeAt.WallLeft one) one good is refl in' in
    let within = good.placed.within (slot_of one.number) one un.out in
    edged_so k t s job (OfficeAt.WallLeft one) Side.End one.first Standing.Walled good
    (walled_so k t s.pool Side.End one.first (omega arith)
    (no_edge k s.office s.settled s.pool.blocks.place one Side.End one.first good.placed good.office.out_fits
    (known_in k s good) good.pool.guards.parts.whole un (omega arith) (omega arith)) good.pool)
    (steps_keep_office k s.office s.pool.mem s.desks s.office (mem_at k t job (OfficeAt.WallLeft one) s) _ good.office
    (OfficeStep.plain t job (OfficeAt.WallLeft one) is tt))
    (unsettled_so k s t _ good (walled_none s.settled job one _ un.none))
steps_keep_regions k t s later good (RegionStep.outlines job one is) =
    let in' = fits_at s.office (office.core_in s.pool.mem s.desks) t (Task.At job (OfficeAt.FirstSize one)) is
    good.office in
    let un = unsettled_at k s t job (OfficeAt.FirstSize one) one good is refl in' in
    let within = good.placed.within (slot_of one.number) one un.out in
    edged_so k t s job (OfficeAt.FirstSize one) Side.Begin one.first Standing.Inner good
    (outlined_so k t s.pool Side.Begin one.first (omega arith)
    (no_edge k s.office s.settled s.pool.blocks.place one Side.Begin one.first good.placed good.office.out_fits
    (known_in k s good) good.pool.guards.parts.whole un (omega arith) (omega arith)) good.pool)
    (steps_keep_office k s.office s.pool.mem s.desks s.office (mem_at k t job (OfficeAt.FirstSize one) s) _ good.office
    (OfficeStep.plain t job (OfficeAt.FirstSize one) is tt))
    (unsettled_so k s t (Task.At job (OfficeAt.LastLeft one)) good
    (goes_on s.settled job (OfficeAt.LastLeft one) one un.none (λ other q. some_one one other q)))
steps_keep_regions k t s later good (RegionStep.settles job one is some first) =
    let in' = fits_at s.office (office.core_in s.pool.mem s.desks) t (Task.At job (OfficeAt.LastLeft one)) is
    good.office in
    let un = unsettled_at k s t job (OfficeAt.LastLeft one) one good is refl in' in
    let within = good.placed.within (slot_of one.number) one un.out in
    let known = known_in k s good in
    record {
      pool = settled_so k t s.pool one some within
          (no_edge k s.office s.settled s.pool.blocks.place one Side.End (wall_of one) good.placed good.office.out_fits
          known good.pool.guards.parts.whole un (omega arith) (omega arith))
          (all_outside k s.office s.settled s.pool.blocks.place one good.placed good.office.out_fits known un) first
          good.pool;
      office = steps_keep_office k s.office s.pool.mem s.desks s.office (mem_at k t job (OfficeAt.LastLeft one) s) _
          good.office (OfficeStep.plain t job (OfficeAt.LastLeft one) is tt);
      placed = granules_settled k s.office s.settled s.pool.blocks.place one (Use.Held t Taking.ForUse) in' un.none
          good.placed;
      unsettled = each (λ o q. (other : RegionRec) → settling q ≡ Some other
          → put s.settled (slot_of one.number) (Some one) (slot_of other.number) ≡ None) s.desks t _
          (λ o ne other q. absurd (other_none k s t o job (OfficeAt.LastLeft one) other good is tt ne q))
          (λ other q. absurd (none_not other q));
    }
steps_keep_regions k t s later good (RegionStep.removes slot one taking is live has) =
    let job = OfficeJob.Give one.first in
    let at = OfficeAt.Remove (Some slot) in
    let far = mem_so k t s.pool (office_course (call_of t job) at) (omega arith) good.pool in
    record {
      pool = removed_so k t (with_mem (mem_at k t job at s) s.pool) one taking
          (record { away = has.away; block = has.block }) far;
      office = steps_keep_office k s.office s.pool.mem s.desks (shadow_removed (Some slot) s.office)
          (mem_at k t job at s) _ good.office (OfficeStep.removes t job (Some slot) is);
      placed = granules_removed k s.office s.settled s.pool.blocks.place slot one live good.office.out_fits
          (known_in k s good) good.placed;
      unsettled = each (λ o q. (other : RegionRec) → settling q ≡ Some other
          → put s.settled slot None (slot_of other.number) ≡ None) s.desks t _
          (λ o ne other q. absurd (other_none k s t o job at other good is tt ne q))
          (λ other q. absurd (none_not other q));
    }
steps_keep_regions k t s later good (RegionStep.removes_none job is) =
    far_so k t s job (OfficeAt.Remove None) (put s.desks t _) good (omega arith)
    (steps_keep_office k s.office s.pool.mem s.desks s.office (mem_at k t job (OfficeAt.Remove None) s) _ good.office
    (OfficeStep.removes t job None is)) (unsettled_so k s t _ good (λ one q. absurd (none_not one q)))

pub runs_keep_regions : RunsKeepRegions
runs_keep_regions k s later good starts = good
runs_keep_regions k s later good (steps {before} run seat step) =
    steps_keep_regions k seat before later (runs_keep_regions k s before good run) step

pub blocks_lie_in_one_region : BlocksLieInOneRegion
blocks_lie_in_one_region k s x n u good at =
    let r = block_region k s.office s.settled s.pool.blocks.place x n u good.placed good.office.out_fits
    (known_in k s good) good.pool.guards.parts.whole at in
    record { slot = r.slot; one = r.one; live = good.placed.known r.slot r.one r.is; from = r.from; to = r.to }

pub objects_lie_in_regions : ObjectsLieInRegions
objects_lie_in_regions k s u unit good has =
    let r = objects_lie_in_blocks k s.pool u unit good.pool has in
    let o = good.placed.outside (granule_of unit) (subst IsInside (sym r.block) tt) in
    record { slot = o.0; one = o.1; live = good.placed.known o.0 o.1 o.2; has = o.3 }
