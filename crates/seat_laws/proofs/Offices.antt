-- A step at the office leaves all that other seats say.
use Rattle.std.proofs.Common.{◌≡◌, ◌≢◌, ◌⊎◌, inl, inr, ℕ, ◌≤◌, Some, None, refl, sym, ap, subst, arith, ◌∙◌, ◌-◌}
use Rattle.pool_types.specs.declared.policy.RegionRec.{RegionRec}
use Rattle.pool_words.specs.declared.words.Key.{Key}
use Rattle.pool_words.specs.declared.actions.OfficeJob.{OfficeJob}
use Rattle.word_codes.specs.declared.guards.Guard.{Guard}
use Rattle.word_codes.specs.Guards.{guard_word}
use Rattle.word_codes.specs.Places.{slot_of}
use Rattle.guards.specs.declared.win.Side.{Side}
use Rattle.guards.specs.declared.win.Taking.{Taking}
use Rattle.region_steps.specs.declared.office.OfficeAt.{OfficeAt}
use Rattle.region_steps.specs.Office.{office_course, wall_of}
use Rattle.word_laws.specs.Memory.{put, stored}
use Rattle.word_laws.proofs.CallerLemmas.{equal_or, put_else, put_here}
use Rattle.guard_laws.specs.Blocks as guards
use Rattle.guard_laws.specs.Blocks.{BlocksWhole, Place, Use, edge_word, put_range}
use Rattle.office_laws.specs.Laws.{HasGranule}
use Rattle.office_laws.specs.Regions as offices
use Rattle.office_laws.specs.Regions.{Holds, IsIn, TaskFits, core_in}
use Rattle.region_laws.specs.Granules as regions
use Rattle.region_laws.specs.Granules.{IsInside, settling}
use Rattle.office_laws.specs.Steps.{call_of}
use Rattle.region_laws.specs.Steps.{RegionStep, blocks_settled, state_removed, state_settled}
use Rattle.use_laws.specs.Pools.{InHand}
use Rattle.pool_laws.specs.Changes.{with_regions}
use Rattle.pool_laws.specs.Steps.{IsAtOffice}
use Rattle.pool_laws.specs.Wholes.{Whole, WholeGood, regions_of}
use Rattle.seat_hands.specs.Moved.{HandsStand}
use Rattle.seat_hands.proofs.CallerLemmas.{hands_stand_elsewhere, outside_is_none}
use Rattle.seat_laws.specs.Stays.{BlocksStay, IsGuardOf, ListsStay, SeatStays}
use Rattle.seat_laws.proofs.Alone.{SameGuards, after_spared, blocks_stay, guard_stays, lists_stay, same_guards}
use Rattle.seat_laws.proofs.Alone.{range_out, stand_same, stand_used}
use Rattle.seat_laws.proofs.Outside.{settling_outside}
use Rattle.seat_laws.proofs.Stores.{guard_else}

-- what a step at the office leaves of all but blocks and regions
desk_leaves : (w : Whole) (later : regions.State) (t : ℕ) → later.pool.tasks ≡ w.pool.tasks
    → later.pool.locals ≡ w.pool.locals → later.pool.kept ≡ w.pool.kept → later.pool.cached ≡ w.pool.cached
    → later.desks t ≡ w.desks t → BlocksStay w.pool later.pool t → ListsStay w (with_regions later w) t
    → SeatStays w (with_regions later w) t
desk_leaves w later t tasks locals kept cached desks blocks lists = record {
  pool = record {
    guards = ap (λ f. f t) tasks;
    objects = ap (λ l. l.tasks t) locals;
    notes = ap (λ l. l.notes t) locals;
    last = ap (λ l. l.lasts t) locals;
    kept = ap (λ f. f t) kept;
    cached = ap (λ f. f t) cached;
  };
  tasks = record {
    bins = refl;
    queue = refl;
    drained = refl;
    mails = refl;
    orphans = refl;
    spares = refl;
    jobs = refl;
    desks = desks;
  };
  blocks = blocks;
  lists = lists;
}

-- where no guard is stored, no block moves, and the settled regions are the same
plain_leaves : (w : Whole) (later : regions.State) (t : ℕ) → later.pool.tasks ≡ w.pool.tasks
    → later.pool.locals ≡ w.pool.locals → later.pool.kept ≡ w.pool.kept → later.pool.cached ≡ w.pool.cached
    → later.pool.blocks ≡ w.pool.blocks → later.desks t ≡ w.desks t → later.settled ≡ w.settled
    → SameGuards w.pool.mem later.pool.mem → SeatStays w (with_regions later w) t
plain_leaves w later t tasks locals kept cached blocks desks settled same =
    desk_leaves w later t tasks locals kept cached desks
    (blocks_stay w.pool later.pool t (λ y m taking is. ap (λ g. g.place y) blocks) same)
    (lists_stay w (with_regions later w) t same settled refl)

-- one seat has the office
two_hold : (k : Key) (w : Whole) (o t : ℕ) → WholeGood k w → o ≢ t → Holds (w.desks o) → Holds (w.desks t) → ⊥
two_hold k w o t good differ one two =
    let e : Some o ≡ Some t = sym (good.regions.office.lock_fits.held o one)
    ∙ good.regions.office.lock_fits.held t two in differ (cc)

-- so no other is about to settle a region
no_first : (k : Key) (w : Whole) (o t : ℕ) (job : OfficeJob) (one : RegionRec) → WholeGood k w → o ≢ t
    → Holds (w.desks o) → w.desks t ≡ offices.Task.At job (OfficeAt.LastLeft one) → ⊥
no_first k w o t job one good differ holds at =
    two_hold k w o t good differ holds (subst Holds (sym at) tt)

-- a guard right beside a region that is about to be settled is of no block
beside_none : (k : Key) (w : Whole) (o : ℕ) (one : RegionRec) (e : Side) (y x n : ℕ) (u : Use) → WholeGood k w
    → settling (w.desks o) ≡ Some one → IsIn w.office one → one.first ≤ y → y ≤ wall_of one
    → w.pool.blocks.place x ≡ Place.Block x n u → IsGuardOf e y x n → ⊥
beside_none k w o one Side.Begin y x n u good settles live low high is at =
    settling_outside k w o one y good settles live (omega arith, omega arith)
    (subst IsInside (sym ((good.free.bins.guards.parts.whole x x n u is).all y at.0 at.1)) tt)
beside_none k w o one Side.End y x n u good settles live low high is at =
    let a = at.0 in let b = at.1 in
    settling_outside k w o one (y - 1) good settles live (omega arith, omega arith)
    (subst IsInside (sym ((good.free.bins.guards.parts.whole x x n u is).all (y - 1) (omega arith) (omega arith))) tt)

-- what is stored there leaves the guards of blocks
edge_blocks : (k : Key) (w : Whole) (o t : ℕ) (one : RegionRec) (i : Side) (z v : ℕ) (h : guards.Shadow)
    → WholeGood k w → settling (w.desks o) ≡ Some one → IsIn w.office one → one.first ≤ z → z ≤ wall_of one
    → HandsStand h.place w.pool.blocks.place t
    → BlocksStay w.pool (record w.pool { mem = stored k w.pool.mem (edge_word i z) v; blocks = h }) t
edge_blocks k w o t one i z v h good settles live low high stand = record {
  stand = stand;
  shut = λ e y x n taking g is none at shut says. guard_else k w.pool.mem i e z y v (λ same here.
      beside_none k w o one i z x n (Use.Held t taking) good settles live low high is
      (subst (λ j. IsGuardOf j z x n) (sym same) (subst (λ j. IsGuardOf e j x n) (sym here) at))) ∙ says;
}

in_office : (k : Key) (w : Whole) (o : ℕ) (task : offices.Task) → WholeGood k w → w.desks o ≡ task
    → TaskFits w.office (core_in w.pool.mem w.desks) task
in_office k w o task good is =
    subst (TaskFits w.office (core_in w.pool.mem w.desks)) is (good.regions.office.tasks_fit o)

-- a store on an edge of a region that is to be settled
edge_leaves : (k : Key) (w : Whole) (o t : ℕ) (one : RegionRec) (i : Side) (z v : ℕ) (h : guards.Shadow)
    (desks : ℕ → offices.Task) → WholeGood k w → o ≢ t → Holds (w.desks o) → settling (w.desks o) ≡ Some one
    → IsIn w.office one → one.first ≤ z → z ≤ wall_of one → HandsStand h.place w.pool.blocks.place t
    → desks t ≡ w.desks t
    → SeatStays w (with_regions (record (regions_of w) {
      pool = record w.pool { mem = stored k w.pool.mem (edge_word i z) v; blocks = h };
      desks = desks;
    }) w) t
edge_leaves k w o t one i z v h desks good differ holds settles live low high stand same =
    desk_leaves w (record (regions_of w) {
      pool = record w.pool { mem = stored k w.pool.mem (edge_word i z) v; blocks = h };
      desks = desks;
    }) t refl refl refl refl same
    (edge_blocks k w o t one i z v h good settles live low high stand)
    (record {
      first = λ job other at says. absurd (no_first k w o t job other good differ holds at);
      settled = λ s y other inside is has. is;
      items = λ b is. refl;
    })

outside_of : (p : Place) → (IsInside p → ⊥) → p ≡ Place.Outside
outside_of Place.Outside out = refl
outside_of (Place.Block x n u) out = absurd (out tt)

-- a region that is settled is where no block was
settled_stands : (k : Key) (w : Whole) (o t : ℕ) (one : RegionRec) (v : Place) → WholeGood k w
    → settling (w.desks o) ≡ Some one → IsIn w.office one
    → HandsStand (put_range w.pool.blocks.place one.first one.granules v) w.pool.blocks.place t
settled_stands k w o t one v good settles live =
    hands_stand_elsewhere w.pool.blocks.place (put_range w.pool.blocks.place one.first one.granules v) t one.first
    one.granules
    (outside_is_none w.pool.blocks.place t one.first one.granules (λ z low high. outside_of (w.pool.blocks.place z)
    (settling_outside k w o one z good settles live (omega arith, omega arith))))
    (λ z out. range_out w.pool.blocks.place one.first one.granules v z out)

some_one : (a b : RegionRec) → Some a ≡ Some b → a ≡ b
some_one a b e = cc

settles_leaves : (k : Key) (w : Whole) (o t : ℕ) (job : OfficeJob) (one : RegionRec) → WholeGood k w → o ≢ t
    → w.desks o ≡ offices.Task.At job (OfficeAt.LastLeft one)
    → SeatStays w (with_regions (state_settled k o job one (regions_of w)) w) t
settles_leaves k w o t job one good differ is =
    desk_leaves w (state_settled k o job one (regions_of w)) t refl refl refl refl (put_else w.desks o t _ differ)
    (edge_blocks k w o t one Side.End (wall_of one) (guard_word Guard.Used) (blocks_settled o one w.pool.blocks) good
    settles live (omega arith) (omega arith)
    (settled_stands k w o t one (Place.Block one.first one.granules (Use.Held o Taking.ForUse)) good settles live))
    (record {
      first = λ job' other at says. absurd (no_first k w o t job' other good differ (subst Holds (sym is) tt) at);
      settled = λ s y other inside some has. by s y other inside some has (less_same s);
      items = λ b is. refl;
    })
  where
    settles : settling (w.desks o) ≡ Some one
    settles = ap settling is

    live : IsIn w.office one
    live = in_office k w o (offices.Task.At job (OfficeAt.LastLeft one)) good is

    less_same : (s : ℕ) → (slot_of one.number ≡ s) ⊎ (slot_of one.number ≢ s)
    less_same s = equal_or (slot_of one.number) s (λ same. inl same) (λ other. inr other)

    by : (s y : ℕ) (other : RegionRec) → IsInside (w.pool.blocks.place y)
        → put w.settled (slot_of one.number) (Some one) s ≡ Some other → HasGranule other y
        → (slot_of one.number ≡ s) ⊎ (slot_of one.number ≢ s) → w.settled s ≡ Some other
    by s y other inside some has (inl same) =
        let this : one ≡ other =
        some_one one other (sym (put_here w.settled (slot_of one.number) s (Some one) same) ∙ some) in
        let granule : HasGranule one y = subst (λ r. HasGranule r y) (sym this) has in
        let a = granule.0 in let b = granule.1 in
        absurd (settling_outside k w o one y good settles live (omega arith, omega arith) inside)
    by s y other inside some has (inr away) = sym (put_else w.settled (slot_of one.number) s (Some one) away) ∙ some

-- a region that goes takes the block with it that it is
removes_leaves : (k : Key) (w : Whole) (o t slot : ℕ) (one : RegionRec) (taking : Taking) → WholeGood k w → o ≢ t
    → InHand w.pool o one.first one.granules taking
    → SeatStays w (with_regions (state_removed k o (OfficeJob.Give one.first) slot one (regions_of w)) w) t
removes_leaves k w o t slot one taking good differ has =
    desk_leaves w later t refl refl refl refl (put_else w.desks o t _ differ)
    (blocks_stay w.pool later.pool t
    (stand_used w.pool.blocks.place t one.first one.granules (Use.Held o taking) Place.Outside
    good.free.bins.guards.parts.whole has.block differ) same)
    (record {
      first = λ job other at says. guard_stays w.pool.mem later.pool.mem Side.Begin other.first same ∙ says;
      settled = λ s y other inside some is. by s other some (equal_or slot s (λ e. inl e) (λ e. inr e));
      items = λ b is. refl;
    })
  where
    later : regions.State
    later = state_removed k o (OfficeJob.Give one.first) slot one (regions_of w)

    same : SameGuards w.pool.mem later.pool.mem
    same = after_spared k w.pool.mem
        (office_course (call_of o (OfficeJob.Give one.first)) (OfficeAt.Remove (Some slot))) refl

    by : (s : ℕ) (other : RegionRec) → put w.settled slot None s ≡ Some other → (slot ≡ s) ⊎ (slot ≢ s)
        → w.settled s ≡ Some other
    by s other some (inl e) =
        let no : None ≡ Some other = sym (put_here w.settled slot s None e) ∙ some in absurd (cc)
    by s other some (inr e) = sym (put_else w.settled slot s None e) ∙ some

pub office_leaves : (k : Key) (o t : ℕ) (w : Whole) (later : regions.State) → WholeGood k w → o ≢ t
    → (step : RegionStep k o (regions_of w) later) → IsAtOffice k o w later step → SeatStays w (with_regions later w) t
office_leaves k o t w later good differ (RegionStep.pool p step leaves same) at = absurd at
office_leaves k o t w later good differ (RegionStep.begins job is) at =
    plain_leaves w later t refl refl refl refl refl (put_else w.desks o t _ differ) refl (same_guards w.pool.mem)
office_leaves k o t w later good differ (RegionStep.locks job few is) at =
    plain_leaves w later t refl refl refl refl refl (put_else w.desks o t _ differ) refl
    (after_spared k w.pool.mem (office_course (call_of o job) OfficeAt.Lock) refl)
office_leaves k o t w later good differ (RegionStep.looks job slot given is) at =
    plain_leaves w later t refl refl refl refl refl (put_else w.desks o t _ differ) refl (same_guards w.pool.mem)
office_leaves k o t w later good differ (RegionStep.backs job end is) at =
    plain_leaves w later t refl refl refl refl refl (put_else w.desks o t _ differ) refl (same_guards w.pool.mem)
office_leaves k o t w later good differ (RegionStep.unlocks job end is) at =
    plain_leaves w later t refl refl refl refl refl (put_else w.desks o t _ differ) refl
    (after_spared k w.pool.mem (office_course (call_of o job) (OfficeAt.Unlock end)) refl)
office_leaves k o t w later good differ (RegionStep.comes granules given one is fresh within) at =
    plain_leaves w later t refl refl refl refl refl (put_else w.desks o t _ differ) refl (same_guards w.pool.mem)
office_leaves k o t w later good differ (RegionStep.refused granules given error is) at =
    plain_leaves w later t refl refl refl refl refl (put_else w.desks o t _ differ) refl (same_guards w.pool.mem)
office_leaves k o t w later good differ (RegionStep.gives_back first given is) at =
    plain_leaves w later t refl refl refl refl refl (put_else w.desks o t _ differ) refl (same_guards w.pool.mem)
office_leaves k o t w later good differ (RegionStep.bases' job one is) at =
    plain_leaves w later t refl refl refl refl refl (put_else w.desks o t _ differ) refl
    (after_spared k w.pool.mem (office_course (call_of o job) (OfficeAt.Base one)) refl)
office_leaves k o t w later good differ (RegionStep.enters job one is) at =
    plain_leaves w later t refl refl refl refl refl (put_else w.desks o t _ differ) refl
    (after_spared k w.pool.mem (office_course (call_of o job) (OfficeAt.Enter one)) refl)
office_leaves k o t w later good differ (RegionStep.walls_off job one is) at =
    edge_leaves k w o t one Side.Begin (wall_of one) (guard_word Guard.Wall) later.pool.blocks later.desks good differ
    (subst Holds (sym is) tt) (ap settling is)
    (in_office k w o (offices.Task.At job (OfficeAt.WallSize one)) good is) (omega arith) (omega arith)
    (stand_same w.pool.blocks.place t) (put_else w.desks o t _ differ)
office_leaves k o t w later good differ (RegionStep.walls_in job one is) at =
    edge_leaves k w o t one Side.End one.first (guard_word Guard.Wall) later.pool.blocks later.desks good differ
    (subst Holds (sym is) tt) (ap settling is)
    (in_office k w o (offices.Task.At job (OfficeAt.WallLeft one)) good is) (omega arith) (omega arith)
    (stand_same w.pool.blocks.place t) (put_else w.desks o t _ differ)
office_leaves k o t w later good differ (RegionStep.outlines job one is) at =
    edge_leaves k w o t one Side.Begin one.first (guard_word Guard.Used) later.pool.blocks later.desks good differ
    (subst Holds (sym is) tt) (ap settling is)
    (in_office k w o (offices.Task.At job (OfficeAt.FirstSize one)) good is) (omega arith) (omega arith)
    (stand_same w.pool.blocks.place t) (put_else w.desks o t _ differ)
office_leaves k o t w later good differ (RegionStep.settles job one is some first) at =
    settles_leaves k w o t job one good differ is
office_leaves k o t w later good differ (RegionStep.removes slot one taking is live has) at =
    removes_leaves k w o t slot one taking good differ has
office_leaves k o t w later good differ (RegionStep.removes_none job is) at =
    plain_leaves w later t refl refl refl refl refl (put_else w.desks o t _ differ) refl
    (after_spared k w.pool.mem (office_course (call_of o job) (OfficeAt.Remove None)) refl)
