-- A reset goes on, position by position.
use Rattle.std.proofs.Common.{◌≡◌, true}
use Rattle.pool_words.specs.declared.actions.Seen.{Seen}
use Rattle.pool_words.specs.Actions.{word_seen}
use Rattle.step_local.specs.Learn.{learn_at}
use Rattle.step_local.specs.declared.frames.At.{At}
use Rattle.step_local.specs.declared.frames.Local.{Local}
use Rattle.quiet_laws.specs.Resets.{GoesOn, ResetsGoOn, is_of_reset}
use Rattle.quiet_laws.proofs.Given.{IsOn, on-reset_learn_of}
use Rattle.quiet_laws.proofs.Slabs.{on-box_learn_of, on-adopt_learn_of, on-join_learn_of, on-spare_learn_of}
use Rattle.quiet_laws.proofs.Slabs.{on-small_learn}

on_at : (l : Local) (e : IsOn l) (at : At) (s : Seen) → is_of_reset at ≡ true → GoesOn l (learn_at l at s)
on_at l e (At.Ready answer) s r = cc
on_at l e (At.Mailbox at) s r = on-box_learn_of l e at (word_seen s)
on_at l e (At.Adopt at) s r = on-adopt_learn_of l e at (word_seen s)
on_at l e (At.Join slab rest at) s r = on-join_learn_of l e slab rest at (word_seen s)
on_at l e (At.Spare at) s r = on-spare_learn_of l e at (word_seen s)
on_at l e (At.Small at) s r = on-small_learn l e at (word_seen s) r
on_at l e (At.Reset at) s r = on-reset_learn_of l e at (word_seen s)
on_at l e _ s r = absurd (cc)

pub resets_go_on : ResetsGoOn
resets_go_on l s is = on_at l is.stage l.at s is.at
