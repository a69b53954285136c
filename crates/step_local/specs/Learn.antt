-- What follows from what a step found.
use Rattle.std.specs.Prelude.{ℕ}
use Rattle.pool_types.specs.declared.values.Turn.{Turn}
use Rattle.pool_words.specs.declared.actions.Seen.{Seen}
use Rattle.pool_words.specs.Actions.{word_seen}
use Rattle.word_codes.specs.Links.{link_of}
use Rattle.step_local.specs.declared.frames.At.{At}
use Rattle.step_local.specs.declared.frames.Local.{Local}
use Rattle.step_local.specs.Answers.{answered}
use Rattle.step_local.specs.Backend.{scan_learn_of, cut_learn_of, queue_as, whole_learn_of, drain_learn_of}
use Rattle.step_local.specs.Backend.{put_learn_of, office_learn_of}
use Rattle.step_local.specs.Large.{get_learn_of, undo_learn_of, keep_learn_of, sweep_learn_of, large_learn}
use Rattle.step_local.specs.Large.{locate_learn}
use Rattle.step_local.specs.Leaving.{leave_learn_of}
use Rattle.step_local.specs.Objects.{look_learn_of, end_learn_of, post_learn_of, mail_learn_of}
use Rattle.step_local.specs.Resetting.{reset_learn_of}
use Rattle.step_local.specs.Slabs.{box_learn_of, adopt_learn_of, join_learn_of, spare_learn_of, small_learn}

abbrev pub learn_at : Local → At → Seen → Local × Turn
learn_at l At.Idle s = (l, Turn.Idle)
learn_at l (At.Ready answer) s = answered l answer
learn_at l (At.Look at) s = look_learn_of l at (word_seen s)
learn_at l (At.End at) s = end_learn_of l at (word_seen s)
learn_at l (At.Post at) s = post_learn_of l at (word_seen s)
learn_at l (At.Mail at) s = mail_learn_of l at (word_seen s)
learn_at l (At.Mailbox at) s = box_learn_of l at (word_seen s)
learn_at l (At.Adopt at) s = adopt_learn_of l at (word_seen s)
learn_at l (At.Join slab rest at) s = join_learn_of l slab rest at (word_seen s)
learn_at l (At.Spare at) s = spare_learn_of l at (word_seen s)
learn_at l (At.Leave slab at) s = leave_learn_of l slab at (word_seen s)
learn_at l (At.Locate at) s = locate_learn l at (word_seen s)
learn_at l (At.Small at) s = small_learn l at (word_seen s)
learn_at l (At.Large at) s = large_learn l at (word_seen s)
learn_at l (At.Get at) s = get_learn_of l at (word_seen s)
learn_at l (At.Undo cause at) s = undo_learn_of l cause at (word_seen s)
learn_at l (At.Keep at) s = keep_learn_of l at (word_seen s)
learn_at l (At.Sweep at) s = sweep_learn_of l at (word_seen s)
learn_at l (At.Scan at) s = scan_learn_of l at (word_seen s)
learn_at l (At.Cut at) s = cut_learn_of l at (word_seen s)
learn_at l At.Queue s = queue_as l (link_of (word_seen s))
learn_at l (At.Whole at) s = whole_learn_of l at (word_seen s)
learn_at l (At.Drain at) s = drain_learn_of l at (word_seen s)
learn_at l (At.Put at) s = put_learn_of l at (word_seen s)
learn_at l (At.Office job at) s = office_learn_of l job at s
learn_at l (At.Reset at) s = reset_learn_of l at (word_seen s)

-- the local transition of a seat, by what its next step found, and what the turn came to
abbrev pub learn : Local → Seen → Local × Turn
learn l s = learn_at l l.at s
