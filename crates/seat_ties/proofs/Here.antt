-- What is left to do goes on, or something starts.
use Rattle.std.proofs.Common.{◌≡◌, ℕ, refl, sym, ◌∙◌, subst}
use Rattle.guard_laws.specs.Blocks as guards
use Rattle.object_laws.specs.Objects as objects
use Rattle.mail_laws.specs.Mail as mailing
use Rattle.orphan_laws.specs.Orphans as orphaning
use Rattle.office_laws.specs.Regions as offices
use Rattle.queue_laws.specs.Queue as queues
use Rattle.cache_laws.specs.Good as caches
use Rattle.region_steps.specs.declared.office.OfficeAt.{OfficeAt}
use Rattle.step_local.specs.declared.frames.At.{At}
use Rattle.step_local.specs.declared.frames.Local.{Local}
use Rattle.step_local.specs.Course.{course}
use Rattle.step_local.specs.Learn.{learn}
use Rattle.step_runs.specs.Entries.{seen_by}
use Rattle.step_runs.specs.Laws.{Onward}
use Rattle.step_runs.specs.Places.{away, stays, carry_of, move_of}
use Rattle.step_runs.proofs.CallerLemmas.{steps_go_onward}
use Rattle.step_laws.specs.Tasks.{shadow_by, task_at}
use Rattle.step_tasks.specs.Laws.{GoesOn, MailGoesOn}
use Rattle.step_tasks.specs.Mail.{mail_task_of, MailStarts}
use Rattle.step_tasks.specs.Objects.{object_task_of, Starts}
use Rattle.backend_tasks.specs.Guards.{GuardGoesOn}
use Rattle.backend_tasks.specs.Queue.{QueueGoesOn, QueueStarts}
use Rattle.cache_tasks.specs.Cache.{cache_task_of, CacheStarts}
use Rattle.cache_tasks.specs.Laws.{CacheGoesOn}
use Rattle.orphan_tasks.specs.Laws.{OrphanGoesOn}
use Rattle.orphan_tasks.specs.Orphans.{orphan_task_of}
use Rattle.orphan_tasks.specs.Starts.{OrphanStarts}
use Rattle.seat_ties.specs.Laws.{TurnsStartDesks}
use Rattle.seat_ties.specs.Turns.{Here, goes_on, may_start, DeskStartsAt, WinStarts}

pub guard_here : (now have left : guards.Task) → have ≡ left → GuardGoesOn now left → guards.TaskFits now
    → Here have now guards.Task.Away (WinStarts now)
guard_here now have guards.Task.Away e goes fits = may_start e (record { starts = goes; fits = fits })
guard_here now have (guards.Task.Wins call at) e goes fits = goes_on (e ∙ sym goes)
guard_here now have (guards.Task.Offers first granules) e goes fits = goes_on (e ∙ sym goes)

pub queue_here : (now have left : queues.Task) → have ≡ left → QueueGoesOn now left
    → Here have now queues.Task.Away (QueueStarts now)
queue_here now have queues.Task.Away e goes = may_start e goes
queue_here now have (queues.Task.Queues first granules at) e goes = goes_on (e ∙ sym goes)
queue_here now have (queues.Task.Drains rest) e goes = goes_on (e ∙ sym goes)

pub object_here : (next : Local) (have left : objects.Task) → have ≡ left → GoesOn next left
    → Here have (object_task_of next) objects.Task.Away (Starts next)
object_here next have objects.Task.Away e goes = may_start e goes
object_here next have _ e goes = goes_on (e ∙ sym goes)

pub mail_here : (next : Local) (have left : mailing.Task) → have ≡ left → MailGoesOn next left
    → Here have (mail_task_of next) mailing.Task.Away (MailStarts next)
mail_here next have mailing.Task.Away e goes = may_start e goes
mail_here next have _ e goes = goes_on (e ∙ sym goes)

pub orphan_here : (next : Local) (have left : orphaning.Task) → have ≡ left → OrphanGoesOn next left
    → Here have (orphan_task_of next) orphaning.Task.Away (OrphanStarts next)
orphan_here next have orphaning.Task.Away e goes = may_start e goes
orphan_here next have _ e goes = goes_on (e ∙ sym goes)

pub job_here : (next : Local) (have left : caches.Task) → have ≡ left → CacheGoesOn next left
    → Here have (cache_task_of next) caches.Task.Away (CacheStarts next)
job_here next have caches.Task.Away e goes = may_start e goes
job_here next have _ e goes = goes_on (e ∙ sym goes)

-- where the office is not taken it is not asked, or its lock is to be won
pub desk_starts : (at : At) → carry_of at ≡ away → DeskStartsAt at
desk_starts (At.Office job OfficeAt.Lock) e = refl
desk_starts (At.Office job _) e = absurd (cc)
desk_starts _ e = tt

desk_away : (l : Local) (at : At) → task_at l at ≡ offices.Task.Away → carry_of at ≡ away
desk_away l (At.Office job at) e = absurd (cc)
desk_away l _ e = refl

desk_stays : (l : Local) (at : At) (found : ℕ) → task_at l at ≡ offices.Task.Away → move_of at found ≡ stays
desk_stays l (At.Office job at) found e = absurd (cc)
desk_stays l _ found e = refl

pub turns_start_desks : TurnsStartDesks
turns_start_desks l found word is =
    let next = (learn l (seen_by (course l) found)).0 in
    let onward = (steps_go_onward l found word).carry in
    let stayed = subst (λ move. Onward (carry_of l.at) move (carry_of next.at)) (desk_stays l l.at found is) onward in
    desk_starts next.at (stayed ∙ desk_away l l.at is)

-- and it leaves the office's records
pub elsewhere_leaves_office : (l : Local) (at : At) (g : offices.Shadow) → task_at l at ≡ offices.Task.Away
    → shadow_by at g ≡ g
elsewhere_leaves_office l (At.Office job at) g e = absurd (cc)
elsewhere_leaves_office l _ g e = refl
