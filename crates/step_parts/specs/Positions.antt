-- What the step of a local moves.
use Rattle.std.specs.Prelude.{ℕ, cond}
use Rattle.pool_types.specs.declared.rows.Keeper.{Keeper}
use Rattle.pool_words.specs.declared.actions.Seen.{Seen}
use Rattle.step_local.specs.declared.frames.At.{At}
use Rattle.step_local.specs.declared.frames.Local.{Local}
use Rattle.step_local.specs.Course.{course}
use Rattle.step_local.specs.Rows.{is_made}
use Rattle.word_parts.specs.declared.shifts.Moved.{Moved}
use Rattle.step_parts.specs.Backend.{bin_moved, scan_moved, cut_moved, put_moved, drain_moved}
use Rattle.step_parts.specs.Large.{large_moved, get_moved, keep_moved, sweep_moved}
use Rattle.step_parts.specs.Objects.{end_moved, post_moved}
use Rattle.step_parts.specs.Office.{office_moved}
use Rattle.step_parts.specs.Resets.{reset_moved}
use Rattle.step_parts.specs.Slabs.{small_moved, join_moved, box_moved, adopt_moved, leave_moved}

-- what a step moves where it is made, by what it finds
abbrev pub moved_at : Local → ℕ → At → Moved
moved_at l f At.Idle = Moved.Nothing
moved_at l f (At.Ready answer) = Moved.Nothing
moved_at l f (At.Look at) = Moved.Nothing
moved_at l f (At.End at) = end_moved l at
moved_at l f (At.Post at) = post_moved l at
moved_at l f (At.Mail at) = Moved.Nothing
moved_at l f (At.Mailbox at) = box_moved l at f
moved_at l f (At.Adopt at) = adopt_moved l at f
moved_at l f (At.Join slab rest at) = join_moved l at f
moved_at l f (At.Spare at) = leave_moved l.fetch.spare (Keeper.Hand l.seat) at
moved_at l f (At.Leave slab at) = leave_moved slab (Keeper.Seat l.seat) at
moved_at l f (At.Locate at) = Moved.Nothing
moved_at l f (At.Small at) = small_moved l at
moved_at l f (At.Large at) = large_moved l at
moved_at l f (At.Get at) = get_moved l at
moved_at l f (At.Undo cause at) = Moved.Nothing
moved_at l f (At.Keep at) = keep_moved l at
moved_at l f (At.Sweep at) = sweep_moved l at
moved_at l f (At.Scan at) = scan_moved l at.step
moved_at l f (At.Cut at) = cut_moved l at
moved_at l f At.Queue = Moved.Nothing
moved_at l f (At.Whole at) = bin_moved l.ask.block l.seat at
moved_at l f (At.Drain at) = drain_moved l at f
moved_at l f (At.Put at) = put_moved l at at.step
moved_at l f (At.Office job at) = office_moved job at
moved_at l f (At.Reset at) = reset_moved l at f

-- what the next step moves, where it finds this number: an exchange that is lost moves nothing
abbrev pub moved_of : Local → ℕ → Moved
moved_of l f = cond (is_made (course l) (Seen.Word f)) (moved_at l f l.at) Moved.Nothing
