-- A turn of a call keeps the seat, the key and what the call asks, position by position.
use Rattle.std.proofs.Common.{◌≡◌, ℕ, Bool, true, false, refl}
use Rattle.pool_types.specs.declared.values.Answer.{Answer}
use Rattle.pool_types.specs.declared.values.Turn.{Turn}
use Rattle.pool_words.specs.declared.actions.Seen.{Seen}
use Rattle.pool_words.specs.Actions.{word_seen}
use Rattle.region_steps.specs.Office.{office_learn}
use Rattle.region_steps.specs.declared.office.OfficeAt.{OfficeAt}
use Rattle.region_steps.specs.declared.office.OfficeNext.{OfficeNext}
use Rattle.step_local.specs.Backend.{office_as, office_call}
use Rattle.step_local.specs.Course.{course_at}
use Rattle.step_local.specs.Learn.{learn_at}
use Rattle.step_local.specs.declared.frames.At.{At}
use Rattle.step_local.specs.declared.frames.Local.{Local}
use Rattle.step_local.specs.declared.frames.OfficeFor.{OfficeFor}
use Rattle.word_codes.specs.Links.{link_of}
use Rattle.call_laws.specs.Calls.{IsCalling, IsKept, TurnsKeepCalls, CallsBegin, AnswersAlone}
use Rattle.call_laws.specs.Calls.{is_reset_at, is_ready}
use Rattle.step_runs.specs.Places.{has_word}
use Rattle.step_runs.proofs.CallerLemmas.{else_at}
use Rattle.call_laws.proofs.Begun.{kept_begun}
use Rattle.call_laws.proofs.Small.{kept-box_learn_of, kept-adopt_learn_of, kept-join_learn_of}
use Rattle.call_laws.proofs.Small.{kept-spare_learn_of, kept-leave_learn_of, kept-small_learn}
use Rattle.call_laws.proofs.Large.{kept-look_learn_of, kept-end_learn_of, kept-post_learn_of, kept-mail_learn_of}
use Rattle.call_laws.proofs.Large.{kept-locate_learn, kept-large_learn, kept-get_learn_of, kept-undo_learn_of}
use Rattle.call_laws.proofs.Large.{kept-keep_learn_of, kept-sweep_learn_of}
use Rattle.call_laws.proofs.Backend.{kept-scan_learn_of, kept-cut_learn_of, kept-queue_as, kept-whole_learn_of}
use Rattle.call_laws.proofs.Backend.{kept-drain_learn_of, kept-put_learn_of, kept-office_left}

kept-office_as : (l : Local) (e : IsCalling l) (job : OfficeFor) (at : OfficeAt) (next : OfficeNext)
    → IsKept l (office_as l job at next)
kept-office_as l e job at (OfficeNext.Goes next) = cc
kept-office_as l e job at OfficeNext.Waits = cc
kept-office_as l e job at (OfficeNext.Left end) = kept-office_left l e job end

kept_at : (l : Local) (e : IsCalling l) (at : At) (s : Seen) → l.at ≡ at → is_reset_at at ≡ false
    → IsKept l (learn_at l at s)
kept_at l e At.Idle s here r = cc
kept_at l e (At.Ready answer) s here r = cc
kept_at l e (At.Office job at) s here r = kept-office_as l e job at (office_learn (office_call l job) at s)
kept_at l e (At.Look at) s here r = kept-look_learn_of l e at (word_seen s)
kept_at l e (At.End at) s here r = kept-end_learn_of l e at (word_seen s)
kept_at l e (At.Post at) s here r = kept-post_learn_of l e at (word_seen s)
kept_at l e (At.Mail at) s here r = kept-mail_learn_of l e at (word_seen s)
kept_at l e (At.Mailbox at) s here r = kept-box_learn_of l e at (word_seen s)
kept_at l e (At.Adopt at) s here r = kept-adopt_learn_of l e at (word_seen s)
kept_at l e (At.Join slab rest at) s here r = kept-join_learn_of l e slab rest at (word_seen s)
kept_at l e (At.Spare at) s here r = kept-spare_learn_of l e at (word_seen s)
kept_at l e (At.Leave slab at) s here r = kept-leave_learn_of l e slab at (word_seen s)
kept_at l e (At.Locate at) s here r = kept-locate_learn l e at (word_seen s)
kept_at l e (At.Small at) s here r = kept-small_learn l e at (word_seen s)
kept_at l e (At.Large at) s here r = kept-large_learn l e at (word_seen s)
kept_at l e (At.Get at) s here r = kept-get_learn_of l e at (word_seen s)
kept_at l e (At.Undo cause at) s here r = kept-undo_learn_of l e cause at (word_seen s)
kept_at l e (At.Keep at) s here r = kept-keep_learn_of l e at (word_seen s)
kept_at l e (At.Sweep at) s here r = kept-sweep_learn_of l e at (word_seen s)
kept_at l e (At.Scan at) s here r = kept-scan_learn_of l e at (word_seen s)
kept_at l e (At.Cut at) s here r = kept-cut_learn_of l e at (word_seen s)
kept_at l e At.Queue s here r = kept-queue_as l e (link_of (word_seen s))
kept_at l e (At.Whole at) s here r = kept-whole_learn_of l e at (word_seen s)
kept_at l e (At.Drain at) s here r = kept-drain_learn_of l e at (word_seen s)
kept_at l e (At.Put at) s here r = kept-put_learn_of l e at (word_seen s)
kept_at l e (At.Reset at) s here r = absurd (cc)

-- a turn with no step on a word
alone_office : (l : Local) (job : OfficeFor) (at : OfficeAt) (s : Seen) (answer : Answer)
    → has_word (course_at l (At.Office job at)) ≡ false
    → (office_as l job at (office_learn (office_call l job) at s)).1 ≡ Turn.Done answer → ⊥
alone_office l job (OfficeAt.Take given) (Seen.Obtained came) answer e is = cc
alone_office l job (OfficeAt.Take given) (Seen.Refused error) answer e is = cc
alone_office l job (OfficeAt.Take given) _ answer e is = cc
alone_office l job (OfficeAt.Back end) s answer e is = cc
alone_office l job _ s answer e is = cc

alone_at : (l : Local) (at : At) (s : Seen) (answer : Answer) → has_word (course_at l at) ≡ false
    → (learn_at l at s).1 ≡ Turn.Done answer → is_ready at ≡ true
alone_at l At.Idle s answer e is = absurd (cc)
alone_at l (At.Ready ready) s answer e is = refl
alone_at l (At.Office job at) s answer e is = absurd (alone_office l job at s answer e is)
alone_at l at s answer e is = let word = (else_at l at refl).1 in absurd (cc)

pub answers_alone : AnswersAlone
answers_alone l s answer e is = alone_at l l.at s answer e is

pub turns_keep_calls : TurnsKeepCalls
turns_keep_calls l s e r = kept_at l e l.at s refl r

pub calls_begin : CallsBegin
calls_begin l request idle e = kept_begun l request idle e
