-- A mailbox is to be taken, or a slab is to begin; a slab is to be left, or orphans are to be taken.
use Rattle.std.proofs.Common.{◌≡◌, ◌∙◌, ◌<◌, ℕ, refl, sym}
use Rattle.std.specs.Prelude.{⊤}
use Rattle.pool_types.specs.Geometry.{class_count}
use Rattle.pool_words.specs.declared.words.Key.{Key}
use Rattle.mailbox.specs.declared.boxes.BoxAt.{BoxAt}
use Rattle.orphans.specs.declared.adopting.AdoptAt.{AdoptAt}
use Rattle.orphans.specs.declared.leaving.LeaveAt.{LeaveAt}
use Rattle.word_laws.specs.Memory.{put}
use Rattle.word_laws.proofs.CallerLemmas.{put_here}
use Rattle.slab_laws.specs.Books.{Keeper}
use Rattle.object_laws.specs.Objects as objects
use Rattle.mail_laws.specs.Mail as mailing
use Rattle.mail_laws.specs.Mail.{Mail}
use Rattle.mail_laws.specs.Steps as mails
use Rattle.mail_laws.specs.Steps.{MailStep}
use Rattle.orphan_laws.specs.Orphans as orphaning
use Rattle.orphan_laws.specs.Orphans.{mail_locals}
use Rattle.orphan_laws.specs.Steps as orphan_steps
use Rattle.orphan_laws.specs.Steps.{OrphanStep, with_mails}
use Rattle.post_laws.specs.Posts.{locals_of}
use Rattle.step_local.specs.declared.frames.At.{At}
use Rattle.step_local.specs.declared.frames.Local.{Local}
use Rattle.step_local.specs.declared.frames.ResetAt.{ResetAt}
use Rattle.step_local.specs.declared.frames.ResetStage.{ResetStage}
use Rattle.step_local.specs.declared.frames.SmallAt.{SmallAt}
use Rattle.step_local.specs.declared.frames.Stage.{Stage}
use Rattle.step_local.specs.Slabs.{class_of_served}
use Rattle.step_tasks.specs.Mail.{MailStartsAt, mail_task_at}
use Rattle.orphan_tasks.specs.Orphans.{orphan_task_at, stage_task}
use Rattle.orphan_tasks.specs.Starts.{NoOrphans, OrphanStartsAt}
use Rattle.pool_laws.specs.Steps.{IsFree, WholeStep}
use Rattle.pool_laws.specs.Wholes.{Whole, post_of}
use Rattle.seat_ties.specs.Turns.{Here, goes_on, may_start, SeatRun, stays, steps_on}

-- the whole with these tasks of mail, and slabs on these ways
abbrev pub with_mail_at : orphaning.Shadow → (ℕ → mailing.Task) → Whole → Whole
with_mail_at ways tasks w = record w { ways = ways; mails = tasks }

pub record MailBegun (k : Key) (w : Whole) (seat : ℕ) (task : mailing.Task) : Type 0 where
  pub ways : orphaning.Shadow
  pub mails : ℕ → mailing.Task
  pub run : SeatRun k seat w (with_mail_at ways mails w)
  pub are : mails seat ≡ task

pub same_mail : (k : Key) (w : Whole) (seat : ℕ) (task : mailing.Task) → w.mails seat ≡ task → MailBegun k w seat task
same_mail k w seat task is = record { ways = w.ways; mails = w.mails; run = stays; are = is }

-- what a begin with mail rests on
pub record BoxRests (k : Key) (seat class : ℕ) : Type 0 where
  pub class' : class < class_count
  pub few : seat < k.seats

pub record SlabRests (k : Key) (w : Whole) (seat e class : ℕ) : Type 0 where
  pub absent : w.ways.mail.mail e ≡ Mail.Absent
  pub class' : class < class_count
  pub few : seat < k.seats
  pub inside : e < k.span

abbrev pub MailRests : Key → Whole → ℕ → mailing.Task → Type 0
MailRests k w seat (mailing.Task.Fetching class at) = BoxRests k seat class
MailRests k w seat (mailing.Task.Beginning e class) = SlabRests k w seat e class
MailRests k w seat _ = ⊤

box_begun : (k : Key) (w : Whole) (seat class : ℕ) → IsFree w seat → w.pool.locals.tasks seat ≡ objects.Task.Away
    → w.tasks seat ≡ orphaning.Task.Away → BoxRests k seat class → w.mails seat ≡ mailing.Task.Away
    → MailBegun k w seat (mailing.Task.Fetching class BoxAt.Take)
box_begun k w seat class free object orphan rests away =
    let task : mailing.Task = mailing.Task.Fetching class BoxAt.Take in
    let locals = locals_of (post_of w) in
    record {
      ways = w.ways;
      mails = put w.mails seat task;
      run = steps_on stays (WholeStep.orphans w.ways w.pool.mem (with_mails (mails.with_task seat task (mail_locals locals)) locals)
          (OrphanStep.asides (MailStep.fetch_begins seat class away rests.class' rests.few) tt) (refl, object, orphan) free);
      are = put_here w.mails seat seat task refl;
    }

slab_begun : (k : Key) (w : Whole) (seat e class : ℕ) → IsFree w seat → w.pool.locals.tasks seat ≡ objects.Task.Away
    → w.tasks seat ≡ orphaning.Task.Away → SlabRests k w seat e class → w.mails seat ≡ mailing.Task.Away
    → MailBegun k w seat (mailing.Task.Beginning e class)
slab_begun k w seat e class free object orphan rests away =
    let task : mailing.Task = mailing.Task.Beginning e class in
    let locals = locals_of (post_of w) in
    let ways : orphaning.Shadow = record w.ways { mail = mails.with_mail e (Mail.Begun seat) w.ways.mail } in
    record {
      ways = ways;
      mails = put w.mails seat task;
      run = steps_on stays (WholeStep.orphans ways w.pool.mem (with_mails (mails.with_task seat task (mail_locals locals)) locals)
          (OrphanStep.asides (MailStep.begins seat e class away rests.absent rests.class' rests.few rests.inside) tt)
          (refl, object, orphan) free);
      are = put_here w.mails seat seat task refl;
    }

pub mail_begun : (k : Key) (w : Whole) (l : Local) (at : At) → IsFree w l.seat
    → w.pool.locals.tasks l.seat ≡ objects.Task.Away → w.tasks l.seat ≡ orphaning.Task.Away
    → MailRests k w l.seat (mail_task_at l at)
    → Here (w.mails l.seat) (mail_task_at l at) mailing.Task.Away (MailStartsAt at)
    → MailBegun k w l.seat (mail_task_at l at)
mail_begun k w l at free object orphan rests (goes_on e) = same_mail k w l.seat (mail_task_at l at) e
mail_begun k w l (At.Mail at) free object orphan rests (may_start away starts) = absurd starts
mail_begun k w l (At.Mailbox BoxAt.Take) free object orphan rests (may_start away starts) =
    box_begun k w l.seat l.fetch.class free object orphan rests away
mail_begun k w l (At.Mailbox _) free object orphan rests (may_start away starts) = absurd (cc)
mail_begun k w l (At.Small (SmallAt.Next slab)) free object orphan rests (may_start away starts) =
    slab_begun k w l.seat slab (class_of_served l.call.served) free object orphan rests away
mail_begun k w l (At.Small (SmallAt.Public slab)) free object orphan rests (may_start away starts) = absurd starts
mail_begun k w l (At.Small (SmallAt.Own slab)) free object orphan rests (may_start away starts) = absurd starts
mail_begun k w l (At.Small (SmallAt.Kind slab)) free object orphan rests (may_start away starts) = absurd starts
mail_begun k w l (At.Small at) free object orphan rests (may_start away starts) =
    same_mail k w l.seat (mail_task_at l (At.Small at)) away
mail_begun k w l at free object orphan rests (may_start away starts) = same_mail k w l.seat (mail_task_at l at) away

pub record OrphanBegun (k : Key) (w : Whole) (seat : ℕ) (task : orphaning.Task) : Type 0 where
  pub tasks : ℕ → orphaning.Task
  pub run : SeatRun k seat w (record w { tasks = tasks })
  pub are : tasks seat ≡ task

pub same_orphan : (k : Key) (w : Whole) (seat : ℕ) (task : orphaning.Task) → w.tasks seat ≡ task → OrphanBegun k w seat task
same_orphan k w seat task is = record { tasks = w.tasks; run = stays; are = is }

abbrev pub OrphanRests : Key → (ℕ → Keeper) → ℕ → orphaning.Task → Type 0
OrphanRests k keeper seat (orphaning.Task.Leaving e at) = keeper e ≡ Keeper.By seat
OrphanRests k keeper seat (orphaning.Task.Adopting class at) = BoxRests k seat class
OrphanRests k keeper seat _ = ⊤

leave_begun : (k : Key) (w : Whole) (seat e : ℕ) → IsFree w seat → w.pool.locals.tasks seat ≡ objects.Task.Away
    → w.mails seat ≡ mailing.Task.Away → w.pool.locals.book.keeper e ≡ Keeper.By seat
    → w.tasks seat ≡ orphaning.Task.Away → OrphanBegun k w seat (orphaning.Task.Leaving e LeaveAt.Close)
leave_begun k w seat e free object mail by away =
    let task : orphaning.Task = orphaning.Task.Leaving e LeaveAt.Close in
    record {
      tasks = put w.tasks seat task;
      run = steps_on stays (WholeStep.orphans w.ways w.pool.mem (orphan_steps.with_task seat task (locals_of (post_of w)))
          (OrphanStep.leave_begins seat e away by) (refl, object, mail) free);
      are = put_here w.tasks seat seat task refl;
    }

take_begun : (k : Key) (w : Whole) (seat class : ℕ) → IsFree w seat → w.pool.locals.tasks seat ≡ objects.Task.Away
    → w.mails seat ≡ mailing.Task.Away → BoxRests k seat class → w.tasks seat ≡ orphaning.Task.Away
    → OrphanBegun k w seat (orphaning.Task.Adopting class AdoptAt.Take)
take_begun k w seat class free object mail rests away =
    let task : orphaning.Task = orphaning.Task.Adopting class AdoptAt.Take in
    record {
      tasks = put w.tasks seat task;
      run = steps_on stays (WholeStep.orphans w.ways w.pool.mem (orphan_steps.with_task seat task (locals_of (post_of w)))
          (OrphanStep.take_begins seat class away rests.class' rests.few) (refl, object, mail) free);
      are = put_here w.tasks seat seat task refl;
    }

-- a seat that is at no orphans of a reset has nothing to do with orphans
no_stage : (class : ℕ) (stage : Stage) → NoOrphans stage → stage_task class stage ≡ orphaning.Task.Away
no_stage class (Stage.Resetting (ResetStage.Orphans rest)) none = absurd none
no_stage class _ none = refl

pub orphan_begun : (k : Key) (w : Whole) (l : Local) (at : At) → IsFree w l.seat
    → w.pool.locals.tasks l.seat ≡ objects.Task.Away → w.mails l.seat ≡ mailing.Task.Away
    → OrphanRests k w.pool.locals.book.keeper l.seat (orphan_task_at l at)
    → Here (w.tasks l.seat) (orphan_task_at l at) orphaning.Task.Away (OrphanStartsAt at l.call.stage)
    → OrphanBegun k w l.seat (orphan_task_at l at)
orphan_begun k w l at free object mail rests (goes_on e) = same_orphan k w l.seat (orphan_task_at l at) e
orphan_begun k w l (At.Adopt AdoptAt.Take) free object mail rests (may_start away starts) =
    take_begun k w l.seat l.fetch.class free object mail rests away
orphan_begun k w l (At.Adopt _) free object mail rests (may_start away starts) = absurd (let e = starts.0 in cc)
orphan_begun k w l (At.Leave slab LeaveAt.Close) free object mail rests (may_start away starts) =
    leave_begun k w l.seat slab free object mail rests away
orphan_begun k w l (At.Leave slab _) free object mail rests (may_start away starts) = absurd (let e = starts.0 in cc)
orphan_begun k w l (At.Join slab rest at) free object mail rests (may_start away starts) = absurd starts
orphan_begun k w l (At.Spare at) free object mail rests (may_start away starts) = absurd starts
orphan_begun k w l (At.Small (SmallAt.Kind slab)) free object mail rests (may_start away starts) = absurd starts
orphan_begun k w l (At.Small (SmallAt.Empty slab)) free object mail rests (may_start away starts) =
    same_orphan k w l.seat (stage_task l.fetch.class l.call.stage) (away ∙ sym (no_stage l.fetch.class l.call.stage starts))
orphan_begun k w l (At.Small at) free object mail rests (may_start away starts) =
    same_orphan k w l.seat (orphan_task_at l (At.Small at)) away
orphan_begun k w l (At.Reset (ResetAt.Strip slab at)) free object mail rests (may_start away starts) =
    same_orphan k w l.seat (stage_task l.fetch.class l.call.stage) (away ∙ sym (no_stage l.fetch.class l.call.stage starts))
orphan_begun k w l (At.Reset (ResetAt.Bin at)) free object mail rests (may_start away starts) =
    same_orphan k w l.seat (stage_task l.fetch.class l.call.stage) (away ∙ sym (no_stage l.fetch.class l.call.stage starts))
orphan_begun k w l (At.Reset at) free object mail rests (may_start away starts) =
    same_orphan k w l.seat (orphan_task_at l (At.Reset at)) away
orphan_begun k w l at free object mail rests (may_start away starts) =
    same_orphan k w l.seat (orphan_task_at l at) away
