-- Leaving a slab, and pushing one back.
use Rattle.std.specs.Prelude.{ℕ}
use Rattle.pool_words.specs.declared.words.Word.{Word}
use Rattle.pool_words.specs.declared.actions.Action.{Action}
use Rattle.pool_words.specs.declared.actions.Action.TheVariants.{Store, Exchange}
use Rattle.chain_words.specs.declared.pushing.PushAt.{PushAt}
use Rattle.chain_words.specs.declared.pushing.PushNext.{PushNext}
use Rattle.chain_words.specs.Pushing.{push_course, push_learn, found_of}
use Rattle.mailbox.specs.Mailing.{slab_push}
use Rattle.word_codes.specs.declared.owns.Own.{Own}
use Rattle.word_codes.specs.declared.publics.Public.{Public}
use Rattle.word_codes.specs.Owns.{own_word}
use Rattle.word_codes.specs.Publics.{public_of, public_word}
use Rattle.orphans.specs.declared.leaving.LeaveAt.{LeaveAt}
use Rattle.orphans.specs.declared.leaving.LeaveCall.{LeaveCall}
use Rattle.orphans.specs.declared.leaving.LeaveNext.{LeaveNext}
use Rattle.orphans.specs.declared.leaving.LeaveNext.TheVariants.{Goes, Filled, Left}

abbrev pub leave_course : LeaveCall → LeaveAt → Action
leave_course c LeaveAt.Close = Exchange (Word.Public c.slab) (public_word Public.Null) (public_word Public.Unusable)
leave_course c LeaveAt.Header = Store (Word.Header c.slab) c.header
leave_course c LeaveAt.Disown = Store (Word.Own c.slab) (own_word Own.Orphan)
leave_course c (LeaveAt.Push p) = push_course (slab_push (Word.Orphans c.class) c.slab (found_of p)) p

-- the exchange is won where it found Null
abbrev pub leave_closed : Public → LeaveNext
leave_closed Public.Null = Goes LeaveAt.Header
leave_closed Public.Unusable = Filled
leave_closed (Public.Filled unit) = Filled

abbrev pub leave_pushed : PushNext → LeaveNext
leave_pushed (PushNext.Goes p) = Goes (LeaveAt.Push p)
leave_pushed (PushNext.Pushed found) = Left

abbrev pub leave_learn : LeaveAt → ℕ → LeaveNext
leave_learn LeaveAt.Close f = leave_closed (public_of f)
leave_learn LeaveAt.Header f = Goes LeaveAt.Disown
leave_learn LeaveAt.Disown f = Goes (LeaveAt.Push PushAt.Look)
leave_learn (LeaveAt.Push p) f = leave_pushed (push_learn p f)
