-- What a turn leaves a seat to do with mail, position by position.
use Rattle.std.proofs.Common.{◌≡◌, ◌+◌, ℕ, eqb, refl, sym, subst}
use Rattle.std.specs.Prelude.{None, Option, Some, ◌%◌, ◌^◌, ◌||◌}
use Rattle.pool_words.specs.declared.actions.Seen.{Seen}
use Rattle.pool_words.specs.Actions.{word_seen}
use Rattle.heap_slabs.specs.Rolls.{without_newest}
use Rattle.mailbox.specs.declared.boxes.BoxNext.{BoxNext}
use Rattle.mailbox.specs.declared.mailing.MailNext.{MailNext}
use Rattle.mailbox.specs.Boxes.{box_learn}
use Rattle.mailbox.specs.Mailing.{mail_learn}
use Rattle.public_list.specs.declared.ending.EndNext.{EndNext}
use Rattle.public_list.specs.declared.joining.JoinNext.{JoinNext}
use Rattle.public_list.specs.declared.looking.LookNext.{LookNext}
use Rattle.public_list.specs.declared.posting.PostCall.{PostCall}
use Rattle.public_list.specs.declared.posting.PostNext.{PostNext}
use Rattle.public_list.specs.Ending.{end_learn}
use Rattle.public_list.specs.Joining.{join_learn}
use Rattle.public_list.specs.Looking.{look_learn}
use Rattle.public_list.specs.Posting.{post_learn}
use Rattle.word_laws.specs.Memory.{put}
use Rattle.mail_laws.specs.Mail as mail
use Rattle.mail_laws.specs.Steps.{fetch_on, mailed_as, task_fetched}
use Rattle.step_local.specs.declared.frames.At.{At}
use Rattle.step_local.specs.declared.frames.LargeAt.{LargeAt}
use Rattle.step_local.specs.declared.frames.Local.{Local}
use Rattle.step_local.specs.declared.frames.SmallAt.{SmallAt}
use Rattle.step_local.specs.Answers.{end_call, got, lost_end}
use Rattle.step_local.specs.Large.{large_learn, tick_at}
use Rattle.step_local.specs.Learn.{learn_at}
use Rattle.step_local.specs.Objects.{end_as, freed_own, held, look_call, looked_as, mail_as, mail_call, post_as}
use Rattle.step_local.specs.Objects.{post_call}
use Rattle.step_local.specs.Slabs.{boxed_as, fetched, joined_as, newest_given, slab_adopted, slab_cached, slab_came}
use Rattle.step_local.specs.Slabs.{slab_emptied, small_learn, with_joined, with_taken}
use Rattle.step_tasks.specs.Laws.{MailGoesOn, PostLeaves, RowsLeaveMailTasks, TurnsMoveMailTasks}
use Rattle.step_tasks.specs.Mail.{MailStarts, MailStartsAt, begun_left, mail_left_at, mailed_task, owed_task}
use Rattle.step_tasks.proofs.Lands.{lands_mail}
use Rattle.step_tasks.proofs.StartedLarge.{starts-freed_own, starts-held, starts-tick_at}
use Rattle.step_tasks.proofs.StartedSmall.{starts-fetched, starts-got, starts-lost_end, starts-newest_given}
use Rattle.step_tasks.proofs.StartedSmall.{starts-slab_adopted, starts-slab_cached, starts-slab_emptied}
use Rattle.step_tasks.proofs.Turns.{job_turn}

look_turn : (l : Local) (next : LookNext) → MailStarts (looked_as l next).0
look_turn l (LookNext.Goes at) = tt
look_turn l (LookNext.Held unit mark kind base) =
    let l' : Local = record l {
      call = record l.call { old = record l.call.old { unit = unit; mark = mark; kind = kind } };
    } in
    lands_mail (held l' base).0 (starts-held l' base)
look_turn l LookNext.Differs = tt
look_turn l (LookNext.NotHeld found) = tt

end_turn : (l : Local) (next : EndNext) → MailStarts (end_as l next).0
end_turn l (EndNext.Goes at) = tt
end_turn l EndNext.Own = lands_mail (freed_own l).0 (starts-freed_own l)
end_turn l EndNext.Other = tt
end_turn l EndNext.Large = tt
end_turn l (EndNext.NotHeld found) = lands_mail (lost_end l found).0 (starts-lost_end l found)

post_turn : (l : Local) (next : PostNext) → MailGoesOn (post_as l next).0 (owed_task (post_call l).slab next)
post_turn l (PostNext.Goes at) = tt
post_turn l PostNext.Listed = tt
post_turn l PostNext.Owed = refl

mail_turn : (l : Local) (next : MailNext) → MailGoesOn (mail_as l next).0 (mailed_task (mail_call l).slab next)
mail_turn l (MailNext.Goes at) = refl
mail_turn l MailNext.Mailed = tt

-- a mailbox goes on to the slab behind
box_came : (l : Local) (slab : ℕ) (rest : Option ℕ)
    → MailGoesOn (slab_came l slab rest).0 (fetch_on l.fetch.class rest)
box_came l slab (Some next) = refl
box_came l slab None =
    let l' : Local = record l { fetch = record l.fetch { came = l.fetch.came || eqb slab l.fetch.awaited } } in
    lands_mail (fetched l').0 (starts-fetched l')

box_turn : (l : Local) (next : BoxNext) → MailGoesOn (boxed_as l next).0 (task_fetched l.fetch.class next)
box_turn l (BoxNext.Goes at) = refl
box_turn l BoxNext.Empty = lands_mail (fetched l).0 (starts-fetched l)
box_turn l (BoxNext.Unchanged slab rest) = box_came l slab rest
box_turn l (BoxNext.Joined slab first count rest) = box_came (with_joined l slab first count) slab rest

join_turn : (l : Local) (slab : ℕ) (rest : Option ℕ) (next : JoinNext) → MailStarts (joined_as l slab rest next).0
join_turn l slab rest (JoinNext.Goes at) = tt
join_turn l slab rest JoinNext.Nothing = lands_mail (slab_adopted l slab rest).0 (starts-slab_adopted l slab rest)
join_turn l slab rest (JoinNext.Joined first count) =
    let l' : Local = with_joined l slab first count in
    lands_mail (slab_adopted l' slab rest).0 (starts-slab_adopted l' slab rest)

small_turn : (l : Local) (at : SmallAt) (f : ℕ) → MailGoesOn (small_learn l at f).0 (begun_left l at)
small_turn l (SmallAt.Uncache slab) f = tt
small_turn l (SmallAt.Next slab) f = refl
small_turn l (SmallAt.Public slab) f = refl
small_turn l (SmallAt.Own slab) f = refl
small_turn l (SmallAt.Kind slab) f = tt
small_turn l (SmallAt.Behind slab head) f = tt
small_turn l (SmallAt.Private slab head below) f =
    lands_mail (got (with_taken l slab below) head).0 (starts-got (with_taken l slab below) head)
small_turn l (SmallAt.Rest slab unit) f =
    lands_mail (got (with_taken l slab None) unit).0 (starts-got (with_taken l slab None) unit)
small_turn l (SmallAt.Empty slab) f = lands_mail (slab_emptied l slab).0 (starts-slab_emptied l slab)
small_turn l (SmallAt.Cache slab) f = lands_mail (slab_cached l slab).0 (starts-slab_cached l slab)
small_turn l (SmallAt.Oldest slab) f = tt
small_turn l (SmallAt.Newest slab) f =
    let l' : Local = record l { heap = record l.heap { cached = without_newest l.heap.cached } } in
    lands_mail (newest_given l' slab l.call.stage).0 (starts-newest_given l' slab l.call.stage)

large_turn : (l : Local) (at : LargeAt) (f : ℕ) → MailStarts (large_learn l at f).0
large_turn l LargeAt.Tick f =
    let l' : Local = record l { call = record l.call { time = (f + 1) % 2 ^ 64 } } in
    lands_mail (tick_at l' l.call.stage).0 (starts-tick_at l' l.call.stage)
large_turn l (LargeAt.Kind unit) f = tt
large_turn l (LargeAt.Grant unit) f = lands_mail (got l unit).0 (starts-got l unit)

turn_at : (l : Local) (at : At) (s : Seen) → l.at ≡ at
    → MailGoesOn (learn_at l at s).0 (mail_left_at l at (word_seen s))
turn_at l At.Idle s here = subst MailStartsAt (sym here) tt
turn_at l (At.Look at) s here = look_turn l (look_learn (look_call l) at (word_seen s))
turn_at l (At.End at) s here = end_turn l (end_learn (end_call l) at (word_seen s))
turn_at l (At.Post at) s here = post_turn l (post_learn at (word_seen s))
turn_at l (At.Mail at) s here = mail_turn l (mail_learn at (word_seen s))
turn_at l (At.Mailbox at) s here = box_turn l (box_learn at (word_seen s))
turn_at l (At.Join slab rest at) s here = join_turn l slab rest (join_learn at (word_seen s))
turn_at l (At.Small at) s here = small_turn l at (word_seen s)
turn_at l (At.Large at) s here = large_turn l at (word_seen s)
turn_at l at s here = lands_mail (learn_at l at s).0 (job_turn l at s refl)

pub turns_move_mail_tasks : TurnsMoveMailTasks
turns_move_mail_tasks l s = turn_at l l.at s refl

posts : (seat : ℕ) (locals : mail.Locals) (call : PostCall) (next : PostNext) → PostLeaves seat call next locals
posts seat locals call (PostNext.Goes at) = refl
posts seat locals call PostNext.Listed = refl
posts seat locals call PostNext.Owed = refl

mails : (seat : ℕ) (locals : mail.Locals) (slab : ℕ) (next : MailNext)
    → (mailed_as seat slab next locals).tasks ≡ put locals.tasks seat (mailed_task slab next)
mails seat locals slab (MailNext.Goes at) = refl
mails seat locals slab MailNext.Mailed = refl

pub rows_leave_mail_tasks : RowsLeaveMailTasks
rows_leave_mail_tasks seat locals = record { posts = posts seat locals; mails = mails seat locals }
