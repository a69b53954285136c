-- What a turn leaves a seat to do with objects, position by position.
use Rattle.std.proofs.Common.{◌≡◌, ◌+◌, ℕ, eqb, refl, ap, sym, subst}
use Rattle.pool_words.specs.declared.actions.Seen.{Seen}
use Rattle.pool_words.specs.Actions.{word_seen}
use Rattle.mailbox.specs.declared.boxes.BoxAt.{BoxAt}
use Rattle.public_list.specs.declared.ending.EndCall.{EndCall}
use Rattle.public_list.specs.declared.looking.LookCall.{LookCall}
use Rattle.public_list.specs.declared.posting.PostCall.{PostCall}
use Rattle.public_list.specs.declared.ending.EndNext.{EndNext}
use Rattle.public_list.specs.declared.joining.JoinNext.{JoinNext}
use Rattle.public_list.specs.declared.looking.LookNext.{LookNext}
use Rattle.public_list.specs.declared.posting.PostNext.{PostNext}
use Rattle.public_list.specs.Ending.{end_learn}
use Rattle.public_list.specs.Joining.{join_learn}
use Rattle.public_list.specs.Looking.{look_learn}
use Rattle.public_list.specs.Posting.{post_learn}
use Rattle.reset_steps.specs.declared.evict.EvictAt.{EvictAt}
use Rattle.reset_steps.specs.declared.strip.StripAt.{StripAt}
use Rattle.word_codes.specs.declared.kinds.Kind.{Kind}
use Rattle.word_laws.specs.Memory.{put}
use Rattle.object_laws.specs.Objects.{Locals, Task, behind}
use Rattle.object_laws.specs.Rows.{looked, ended, posted_as, joined_as}
use Rattle.object_laws.specs.Steps.{IsStart}
use Rattle.step_local.specs.declared.frames.At.{At}
use Rattle.step_local.specs.declared.frames.LargeAt.{LargeAt}
use Rattle.step_local.specs.declared.frames.Local.{Local}
use Rattle.step_local.specs.declared.frames.ResetAt.{ResetAt}
use Rattle.step_local.specs.declared.frames.SmallAt.{SmallAt}
use Rattle.step_local.specs.Answers.{end_call, ended_object, got, lost_end}
use Rattle.step_local.specs.Learn.{learn_at}
use Rattle.step_local.specs.Objects.{end_as, freed_own, held, look_call, looked_as, mail_as, post_as, post_call}
use Rattle.step_tasks.specs.Laws.{GoesOn, TurnsMoveObjectTasks, StartedTasksAreStarts, RowsLeaveObjectTasks}
use Rattle.step_tasks.specs.Objects.{Starts, StartsAt, ended_task, joined_task, looked_task, object_task_at}
use Rattle.step_tasks.specs.Objects.{posted_task}
use Rattle.step_tasks.specs.Objects.{box_left, large_left, small_left, task_left_at}
use Rattle.std.specs.Prelude.{None, Option, Some, ◌%◌, ◌^◌, ◌||◌}
use Rattle.heap_slabs.specs.Rolls.{without_newest}
use Rattle.mailbox.specs.Boxes.{box_taken, box_joined}
use Rattle.mailbox.specs.Mailing.{mail_learn}
use Rattle.mailbox.specs.declared.mailing.MailNext.{MailNext}
use Rattle.word_codes.specs.Links.{link_of}
use Rattle.word_codes.specs.Marks.{mark_of}
use Rattle.word_codes.specs.declared.marks.Mark.{Mark}
use Rattle.step_local.specs.Large.{large_learn, tick_at}
use Rattle.step_local.specs.Slabs.{below_in, box_learn_of, boxed_as, fetched, joined_as as slab_joined, newest_given}
use Rattle.step_local.specs.Slabs.{slab_adopted, slab_cached, slab_came, slab_emptied, small_learn, with_joined}
use Rattle.step_local.specs.Slabs.{with_taken}
use Rattle.step_tasks.proofs.Lands.{lands_object}
use Rattle.step_tasks.proofs.StartedLarge.{starts-freed_own, starts-held, starts-tick_at}
use Rattle.step_tasks.proofs.StartedSmall.{starts-fetched, starts-got, starts-lost_end, starts-newest_given}
use Rattle.step_tasks.proofs.StartedSmall.{starts-slab_adopted, starts-slab_cached, starts-slab_emptied}
use Rattle.step_tasks.proofs.Turns.{job_turn}

-- the two readings of what is behind a private object
below_behind : (mark : Mark) → below_in mark ≡ behind mark
below_behind (Mark.Link unit) = refl
below_behind Mark.End = refl
below_behind Mark.EndUnusable = refl
below_behind Mark.Unmarked = refl
below_behind (Mark.Granted grant) = refl
below_behind (Mark.Hand seat) = refl

small_turn : (l : Local) (at : SmallAt) (f : ℕ) → GoesOn (small_learn l at f).0 (small_left at f)
small_turn l (SmallAt.Uncache slab) f = tt
small_turn l (SmallAt.Next slab) f = tt
small_turn l (SmallAt.Public slab) f = tt
small_turn l (SmallAt.Own slab) f = tt
small_turn l (SmallAt.Kind slab) f = tt
small_turn l (SmallAt.Behind slab head) f = ap (Task.Taking slab head) (below_behind (mark_of f))
small_turn l (SmallAt.Private slab head below) f =
    lands_object (got (with_taken l slab below) head).0 (starts-got (with_taken l slab below) head)
small_turn l (SmallAt.Rest slab unit) f =
    lands_object (got (with_taken l slab None) unit).0 (starts-got (with_taken l slab None) unit)
small_turn l (SmallAt.Empty slab) f = lands_object (slab_emptied l slab).0 (starts-slab_emptied l slab)
small_turn l (SmallAt.Cache slab) f = lands_object (slab_cached l slab).0 (starts-slab_cached l slab)
small_turn l (SmallAt.Oldest slab) f = tt
small_turn l (SmallAt.Newest slab) f =
    let l' : Local = record l { heap = record l.heap { cached = without_newest l.heap.cached } } in
    lands_object (newest_given l' slab l.call.stage).0 (starts-newest_given l' slab l.call.stage)

-- a mailbox goes on to the slabs in it, and joins each
box_came : (l : Local) (slab : ℕ) (rest : Option ℕ) → Starts (slab_came l slab rest).0
box_came l slab (Some next) = tt
box_came l slab None =
    let l' : Local = record l { fetch = record l.fetch { came = l.fetch.came || eqb slab l.fetch.awaited } } in
    lands_object (fetched l').0 (starts-fetched l')

box_taken_on : (l : Local) (one : Option ℕ) → Starts (boxed_as l (box_taken one)).0
box_taken_on l (Some slab) = tt
box_taken_on l None = lands_object (fetched l).0 (starts-fetched l)

box_joins : (l : Local) (slab : ℕ) (rest : Option ℕ) (next : JoinNext)
    → GoesOn (boxed_as l (box_joined slab rest next)).0 (joined_task slab next)
box_joins l slab rest (JoinNext.Goes at) = refl
box_joins l slab rest JoinNext.Nothing = box_came l slab rest
box_joins l slab rest (JoinNext.Joined first count) = box_came (with_joined l slab first count) slab rest

box_turn : (l : Local) (at : BoxAt) (f : ℕ) → GoesOn (box_learn_of l at f).0 (box_left at f)
box_turn l BoxAt.Take f = box_taken_on l (link_of f)
box_turn l (BoxAt.Next slab) f = tt
box_turn l (BoxAt.Settle slab rest) f = refl
box_turn l (BoxAt.Join slab rest at) f = box_joins l slab rest (join_learn at f)

join_turn : (l : Local) (slab : ℕ) (rest : Option ℕ) (next : JoinNext)
    → GoesOn (slab_joined l slab rest next).0 (joined_task slab next)
join_turn l slab rest (JoinNext.Goes at) = refl
join_turn l slab rest JoinNext.Nothing = lands_object (slab_adopted l slab rest).0 (starts-slab_adopted l slab rest)
join_turn l slab rest (JoinNext.Joined first count) =
    let l' : Local = with_joined l slab first count in
    lands_object (slab_adopted l' slab rest).0 (starts-slab_adopted l' slab rest)

large_turn : (l : Local) (at : LargeAt) (f : ℕ) → GoesOn (large_learn l at f).0 (large_left l at)
large_turn l LargeAt.Tick f =
    let l' : Local = record l { call = record l.call { time = (f + 1) % 2 ^ 64 } } in
    lands_object (tick_at l' l.call.stage).0 (starts-tick_at l' l.call.stage)
large_turn l (LargeAt.Kind unit) f = refl
large_turn l (LargeAt.Grant unit) f = lands_object (got l unit).0 (starts-got l unit)

look_turn : (l : Local) (next : LookNext) → GoesOn (looked_as l next).0 (looked_task (look_call l) next)
look_turn l (LookNext.Goes at) = refl
look_turn l (LookNext.Held unit mark kind base) =
    let l' : Local = record l {
      call = record l.call { old = record l.call.old { unit = unit; mark = mark; kind = kind } };
    } in
    lands_object (held l' base).0 (starts-held l' base)
look_turn l LookNext.Differs = tt
look_turn l (LookNext.NotHeld found) = tt

end_turn : (l : Local) (next : EndNext)
    → GoesOn (end_as l next).0 (ended_task (end_call l) (ended_object l).kind next)
end_turn l (EndNext.Goes at) = refl
end_turn l EndNext.Own = lands_object (freed_own l).0 (starts-freed_own l)
end_turn l EndNext.Other = refl
end_turn l EndNext.Large = tt
end_turn l (EndNext.NotHeld found) = lands_object (lost_end l found).0 (starts-lost_end l found)

post_turn : (l : Local) (next : PostNext) → GoesOn (post_as l next).0 (posted_task (post_call l) next)
post_turn l (PostNext.Goes at) = refl
post_turn l PostNext.Listed = tt
post_turn l PostNext.Owed = tt

mail_turn : (l : Local) (next : MailNext) → Starts (mail_as l next).0
mail_turn l (MailNext.Goes at) = tt
mail_turn l MailNext.Mailed = tt

turn_at : (l : Local) (at : At) (s : Seen) → l.at ≡ at
    → GoesOn (learn_at l at s).0 (task_left_at l at (word_seen s))
turn_at l At.Idle s here = subst (StartsAt l) (sym here) tt
turn_at l (At.Look at) s here = look_turn l (look_learn (look_call l) at (word_seen s))
turn_at l (At.End at) s here = end_turn l (end_learn (end_call l) at (word_seen s))
turn_at l (At.Post at) s here = post_turn l (post_learn at (word_seen s))
turn_at l (At.Mail at) s here = mail_turn l (mail_learn at (word_seen s))
turn_at l (At.Mailbox at) s here = box_turn l at (word_seen s)
turn_at l (At.Join slab rest at) s here = join_turn l slab rest (join_learn at (word_seen s))
turn_at l (At.Small at) s here = small_turn l at (word_seen s)
turn_at l (At.Large at) s here = large_turn l at (word_seen s)
turn_at l at s here = lands_object (learn_at l at s).0 (job_turn l at s refl)

pub turns_move_object_tasks : TurnsMoveObjectTasks
turns_move_object_tasks l s = turn_at l l.at s refl

starts_is : (l : Local) (at : At) → StartsAt l at → IsStart (object_task_at l at)
starts_is l (At.Look at) starts = tt
starts_is l (At.End at) starts = tt
starts_is l (At.Post at) starts = starts
starts_is l (At.Mailbox (BoxAt.Join slab rest at)) starts =
    subst (λ a. IsStart (Task.Joining slab a)) (sym starts) tt
starts_is l (At.Mailbox _) starts = tt
starts_is l (At.Join slab rest at) starts = subst (λ a. IsStart (Task.Joining slab a)) (sym starts) tt
starts_is l (At.Small (SmallAt.Private slab head below)) starts = starts
starts_is l (At.Small _) starts = tt
starts_is l (At.Large (LargeAt.Grant unit)) starts = starts
starts_is l (At.Large _) starts = tt
starts_is l (At.Reset (ResetAt.Strip slab (StripAt.End object mark))) starts = tt
starts_is l (At.Reset (ResetAt.Strip slab _)) starts = tt
starts_is l (At.Reset (ResetAt.Evict region (EvictAt.End granule b line mark))) starts = tt
starts_is l (At.Reset (ResetAt.Evict region _)) starts = tt
starts_is l (At.Reset _) starts = tt
starts_is l _ starts = tt

pub started_tasks_are_starts : StartedTasksAreStarts
started_tasks_are_starts l starts = starts_is l l.at starts

looks : (seat : ℕ) (locals : Locals) (call : LookCall) (next : LookNext)
    → (looked seat call next locals).tasks ≡ put locals.tasks seat (looked_task call next)
looks seat locals call (LookNext.Goes at) = refl
looks seat locals call (LookNext.Held unit mark kind base) = refl
looks seat locals call LookNext.Differs = refl
looks seat locals call (LookNext.NotHeld found) = refl

ends : (seat : ℕ) (locals : Locals) (call : EndCall) (kind : Kind) (next : EndNext)
    → (ended seat call kind next locals).tasks ≡ put locals.tasks seat (ended_task call kind next)
ends seat locals call kind (EndNext.Goes at) = refl
ends seat locals call kind EndNext.Own = refl
ends seat locals call kind EndNext.Other = refl
ends seat locals call kind EndNext.Large = refl
ends seat locals call kind (EndNext.NotHeld found) = refl

posts : (seat : ℕ) (locals : Locals) (call : PostCall) (next : PostNext)
    → (posted_as seat call next locals).tasks ≡ put locals.tasks seat (posted_task call next)
posts seat locals call (PostNext.Goes at) = refl
posts seat locals call PostNext.Listed = refl
posts seat locals call PostNext.Owed = refl

joins : (seat : ℕ) (locals : Locals) (slab : ℕ) (next : JoinNext)
    → (joined_as seat slab next locals).tasks ≡ put locals.tasks seat (joined_task slab next)
joins seat locals slab (JoinNext.Goes at) = refl
joins seat locals slab JoinNext.Nothing = refl
joins seat locals slab (JoinNext.Joined first count) = refl

pub rows_leave_object_tasks : RowsLeaveObjectTasks
rows_leave_object_tasks seat locals = record {
  looks = looks seat locals;
  ends = ends seat locals;
  posts = posts seat locals;
  joins = joins seat locals;
}
