-- Regions that come and leave.
use Rattle.std.specs.Prelude.{ℕ, Option, Some, None}
use Rattle.region_steps.specs.declared.office.OfficeAt.{OfficeAt}
use Rattle.step_local.specs.declared.frames.OfficeFor.{OfficeFor}
use Rattle.word_parts.specs.declared.shifts.Moved.{Moved}

-- the region that begins with the block that is given back leaves
abbrev pub leaves_for : OfficeFor → Moved
leaves_for OfficeFor.Ask = Moved.Nothing
leaves_for (OfficeFor.Put first) = Moved.Leaves first
leaves_for (OfficeFor.Drain first rest) = Moved.Leaves first

-- where a slot has it
abbrev pub leaves_from : OfficeFor → Option ℕ → Moved
leaves_from job (Some slot) = leaves_for job
leaves_from job None = Moved.Nothing

-- a region comes with its word, and leaves with it
abbrev pub office_moved : OfficeFor → OfficeAt → Moved
office_moved job OfficeAt.Lock = Moved.Nothing
office_moved job (OfficeAt.Region slot given) = Moved.Nothing
office_moved job (OfficeAt.Take given) = Moved.Nothing
office_moved job (OfficeAt.Base one) = Moved.Nothing
office_moved job (OfficeAt.Enter one) = Moved.Comes one
office_moved job (OfficeAt.WallSize one) = Moved.Nothing
office_moved job (OfficeAt.WallLeft one) = Moved.Nothing
office_moved job (OfficeAt.FirstSize one) = Moved.Nothing
office_moved job (OfficeAt.LastLeft one) = Moved.Nothing
office_moved job (OfficeAt.Remove given) = leaves_from job given
office_moved job (OfficeAt.Back end) = Moved.Nothing
office_moved job (OfficeAt.Unlock end) = Moved.Nothing
