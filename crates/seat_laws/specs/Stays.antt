-- What steps of other seats leave of a seat.
use Rattle.std.specs.Prelude.{◌≡◌, ℕ, ◌+◌, ◌<◌, ◌≤◌, Some}
use Rattle.pool_types.specs.declared.policy.RegionRec.{RegionRec}
use Rattle.pool_words.specs.declared.actions.OfficeJob.{OfficeJob}
use Rattle.word_codes.specs.declared.guards.Guard.{Guard}
use Rattle.guards.specs.declared.win.Side.{Side}
use Rattle.guards.specs.declared.win.Taking.{Taking}
use Rattle.region_steps.specs.declared.office.OfficeAt.{OfficeAt}
use Rattle.guard_laws.specs.Blocks.{Piece, Place, Use, IsShut, piece_of}
use Rattle.guard_laws.specs.Steps.{guard_in}
use Rattle.office_laws.specs.Laws.{HasGranule}
use Rattle.office_laws.specs.Regions as offices
use Rattle.bin_laws.specs.Bins.{list_task}
use Rattle.lock_laws.specs.Seats.{lock_in}
use Rattle.region_laws.specs.Granules.{IsInside}
use Rattle.use_laws.specs.Pools.{Pool}
use Rattle.pool_laws.specs.Wholes.{Whole}
use Rattle.seat_hands.specs.Moved.{HandsStand}

-- what the pool has of the seat alone is the same
pub record PoolStays (p later : Pool) (t : ℕ) : Type 0 where
  pub guards : later.tasks t ≡ p.tasks t
  pub objects : later.locals.tasks t ≡ p.locals.tasks t
  pub notes : later.locals.notes t ≡ p.locals.notes t
  pub last : later.locals.lasts t ≡ p.locals.lasts t
  pub kept : later.kept t ≡ p.kept t
  pub cached : later.cached t ≡ p.cached t

-- and so for what it does in the other groups
pub record TasksStay (w later : Whole) (t : ℕ) : Type 0 where
  pub bins : later.bins t ≡ w.bins t
  pub queue : later.queue t ≡ w.queue t
  pub drained : later.drained t ≡ w.drained t
  pub mails : later.mails t ≡ w.mails t
  pub orphans : later.tasks t ≡ w.tasks t
  pub spares : later.spares t ≡ w.spares t
  pub jobs : later.jobs t ≡ w.jobs t
  pub desks : later.desks t ≡ w.desks t

-- a guard of a block, or within it
abbrev pub IsGuardOf : Side → ℕ → ℕ → ℕ → Type 0
IsGuardOf Side.Begin y x n = (x ≤ y) × (y < x + n)
IsGuardOf Side.End y x n = (x < y) × (y ≤ x + n)

-- blocks in the seat's hand stay where they are, and what their guards say, unless the seat is just offering the block
pub record BlocksStay (p later : Pool) (t : ℕ) : Type 0 where
  pub stand : HandsStand later.blocks.place p.blocks.place t
  pub shut : (e : Side) (y x n : ℕ) (taking : Taking) (g : Guard)
      → p.blocks.place x ≡ Place.Block x n (Use.Held t taking) → piece_of (p.tasks t) ≡ Piece.NoPiece
      → IsGuardOf e y x n → IsShut g → guard_in p.mem e y ≡ g → guard_in later.mem e y ≡ g

-- a region of which the seat is about to store the last guard keeps its first one; no region comes where blocks are;
-- and the list of a bin whose lock the seat has is the same
pub record ListsStay (w later : Whole) (t : ℕ) : Type 0 where
  pub first : (job : OfficeJob) (one : RegionRec) → w.desks t ≡ offices.Task.At job (OfficeAt.LastLeft one)
      → guard_in w.pool.mem Side.Begin one.first ≡ Guard.Used
      → guard_in later.pool.mem Side.Begin one.first ≡ Guard.Used
  pub settled : (s y : ℕ) (one : RegionRec) → IsInside (w.pool.blocks.place y) → later.settled s ≡ Some one
      → HasGranule one y → w.settled s ≡ Some one
  pub items : (b : ℕ) → lock_in (list_task (w.bins t)) ≡ Some b → later.items b ≡ w.items b

pub record SeatStays (w later : Whole) (t : ℕ) : Type 0 where
  pub pool : PoolStays w.pool later.pool t
  pub tasks : TasksStay w later t
  pub blocks : BlocksStay w.pool later.pool t
  pub lists : ListsStay w later t
