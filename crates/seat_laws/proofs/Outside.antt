-- The granules of a region that its seat is about to settle are in no block.
use Rattle.std.proofs.Common.{◌≡◌, inl, inr, ℕ, ◌+◌, ◌≤◌, Option, Some, None, sym, subst, arith, ◌∙◌}
use Rattle.pool_types.specs.declared.policy.RegionRec.{RegionRec}
use Rattle.pool_words.specs.declared.words.Key.{Key}
use Rattle.pool_words.specs.declared.actions.OfficeJob.{OfficeJob}
use Rattle.word_codes.specs.Places.{slot_of}
use Rattle.guards.specs.declared.win.Side.{Side}
use Rattle.region_steps.specs.declared.office.OfficeAt.{OfficeAt}
use Rattle.word_laws.proofs.CallerLemmas.{equal_or}
use Rattle.guard_laws.specs.Blocks.{Place, Use}
use Rattle.office_laws.specs.Laws.{HasGranule}
use Rattle.office_laws.specs.Regions as offices
use Rattle.office_laws.specs.Regions.{AreApart, IsIn, TaskFits, core_in}
use Rattle.region_laws.specs.Granules.{IsInside, settling}
use Rattle.pool_laws.specs.Wholes.{Whole, WholeGood}
use Rattle.seat_laws.specs.Stays.{IsGuardOf}

-- a granule of the region, or right beside it
abbrev pub IsNear : RegionRec → ℕ → Type 0
IsNear one y = (one.first ≤ y + 1) × (y ≤ one.first + one.granules)

apart_granule : (a b : RegionRec) (y : ℕ) → AreApart a b → HasGranule a y → IsNear b y → ⊥
apart_granule a b y (inl low) one two = let c = one.1 in let d = two.0 in omega arith
apart_granule a b y (inr low) one two = let c = one.0 in let d = two.1 in omega arith

some_is_none : {A : Type 0} (o : Option A) (a : A) → o ≡ None → o ≡ Some a → ⊥
some_is_none o a none some = let e = sym none ∙ some in cc

-- a live region of which nothing is settled has no granule in a block, and lies beside none
pub settling_outside : (k : Key) (w : Whole) (t : ℕ) (one : RegionRec) (y : ℕ) → WholeGood k w
    → settling (w.desks t) ≡ Some one → IsIn w.office one → IsNear one y → IsInside (w.pool.blocks.place y) → ⊥
settling_outside k w t one y good settles live near inside =
    equal_or is.0 (slot_of one.number)
    (λ same. some_is_none (w.settled (slot_of one.number)) is.1 (good.regions.unsettled t one settles)
    (subst (λ s. w.settled s ≡ Some is.1) same is.2))
    (λ differ. apart_granule is.1 one y
    (good.regions.office.out_fits.apart is.0 (slot_of one.number) is.1 one differ
    (good.regions.office.records_fit.known is.0 is.1 (good.regions.placed.known is.0 is.1 is.2))
    (good.regions.office.records_fit.known (slot_of one.number) one live)) is.3 near)
  where
    is : (s : ℕ) × (other : RegionRec) × (w.settled s ≡ Some other) × HasGranule other y
    is = good.regions.placed.outside y inside

pub last_is_in : (k : Key) (w : Whole) (t : ℕ) (job : OfficeJob) (one : RegionRec) → WholeGood k w
    → w.desks t ≡ offices.Task.At job (OfficeAt.LastLeft one) → IsIn w.office one
last_is_in k w t job one good at =
    subst (TaskFits w.office (core_in w.pool.mem w.desks)) at (good.regions.office.tasks_fit t)

pub has_first : (k : Key) (w : Whole) (one : RegionRec) (y : ℕ) (a b : ℕ) (u : Use) → WholeGood k w
    → w.pool.blocks.place a ≡ Place.Block a b u → IsGuardOf Side.Begin y a b → IsInside (w.pool.blocks.place y)
has_first k w one y a b u good is at =
    subst IsInside (sym ((good.free.bins.guards.parts.whole a a b u is).all y at.0 at.1)) tt
