-- What each step of giving back and of mail makes of the pool, its mail and its orphans.
use Rattle.std.specs.Prelude.{ℕ, Option, Some, None}
use Rattle.public_list.specs.declared.joining.JoinAt.{JoinAt}
use Rattle.public_list.specs.declared.joining.JoinNext.{JoinNext}
use Rattle.public_list.specs.declared.posting.PostCall.{PostCall}
use Rattle.public_list.specs.declared.posting.PostNext.{PostNext}
use Rattle.mailbox.specs.declared.boxes.BoxAt.{BoxAt}
use Rattle.mailbox.specs.declared.boxes.BoxNext.{BoxNext}
use Rattle.mailbox.specs.declared.mailing.MailNext.{MailNext}
use Rattle.orphans.specs.declared.adopting.AdoptAt.{AdoptAt}
use Rattle.word_laws.specs.Memory.{Mem, put}
use Rattle.object_laws.specs.Objects.Task.{Joining}
use Rattle.object_laws.specs.Rows as objects
use Rattle.mail_laws.specs.Mail as mailing
use Rattle.mail_laws.specs.Steps as mailing_steps
use Rattle.orphan_laws.specs.Orphans.{Task, mail_locals}
use Rattle.orphan_laws.specs.Steps.{shadow_taken, shadow_dealt, shadow_pushed, spares_back}
use Rattle.use_laws.specs.Pools.{Pool}
use Rattle.use_laws.specs.After.{pool_come, pool_adopted, pool_left, pool_gone_back}
use Rattle.post_laws.specs.Posts.{Post, locals_of}

abbrev pub mails_of : Post → mailing.Locals
mails_of p = mail_locals (locals_of p)

-- a push of an object in hand, over these words
abbrev pub post_pushed : ℕ → PostCall → PostNext → Mem → Post → Post
post_pushed seat call next m p = record p {
  pool = record p.pool {
    mem = m;
    objects = objects.shadow_posted call next p.pool.objects;
    locals = objects.posted_as seat call next p.pool.locals;
  };
  ways = record p.ways { mail = mailing_steps.shadow_posted seat call next p.ways.mail };
  mails = (mailing_steps.posted_as seat call next (mails_of p)).tasks;
}

-- a slab is mailed
abbrev pub post_mailed : ℕ → ℕ → MailNext → Mem → Post → Post
post_mailed seat e next m p = record p {
  pool = record p.pool { mem = m };
  ways = record p.ways { mail = mailing_steps.shadow_mailed (mails_of p) e next p.ways.mail };
  mails = (mailing_steps.mailed_as seat e next (mails_of p)).tasks;
}

-- a mailbox is taken and its slabs are dealt with: what the pool is then, and what comes next
abbrev pub post_fetched : ℕ → ℕ → BoxAt → BoxNext → Pool → Post → Post
post_fetched seat class at next later p = record p {
  pool = later;
  ways = record p.ways { mail = mailing_steps.shadow_fetched (mails_of p) seat class at p.ways.mail };
  mails = put p.mails seat (mailing_steps.task_fetched class next);
}

-- the next word of a fetched slab names the mailbox again, and its public list is to be taken
abbrev pub pool_settled : ℕ → ℕ → Mem → Pool → Pool
pool_settled seat e m p = record p {
  mem = m;
  locals = objects.with_task seat (Joining e JoinAt.Take) p.locals;
}

-- its public list is taken, or walked
abbrev pub pool_listed : ℕ → ℕ → JoinAt → JoinNext → Mem → Pool → Pool
pool_listed seat e at next m p = record p {
  mem = m;
  objects = objects.shadow_joined e at p.objects;
  locals = objects.joined_as seat e next p.locals;
}

-- the orphans of a class are taken; one of them is adopted, and its public list is to be taken
abbrev pub task_taken : ℕ → Option ℕ → Task
task_taken class (Some e) = Task.Adopting class (AdoptAt.Header e)
task_taken class None = Task.Away

abbrev pub post_taken : ℕ → ℕ → Option ℕ → Mem → Post → Post
post_taken seat class first m p = record p {
  pool = record (pool_come seat (p.ways.left class) p.pool) { mem = m };
  ways = shadow_taken seat class p.ways;
  tasks = put p.tasks seat (task_taken class first);
}

abbrev pub post_adopted : ℕ → ℕ → ℕ → Option ℕ → Mem → Post → Post
post_adopted seat class e rest m p = record p {
  pool = record (pool_adopted seat e p.pool) {
    mem = m;
    locals = objects.with_task seat (Joining e JoinAt.Take) (pool_adopted seat e p.pool).locals;
  };
  ways = shadow_dealt seat p.ways;
  tasks = put p.tasks seat (Task.Joining class e rest);
}

-- a slab is left: the exchange that pushes it is won
abbrev pub post_left : ℕ → ℕ → Mem → Post → Post
post_left seat e m p = record p {
  pool = record (pool_left seat e p.pool) { mem = m };
  ways = shadow_pushed (p.pool.locals.book.classes e) e p.ways;
  tasks = put p.tasks seat Task.Away;
}

-- an orphan is pushed back, and the next of those that were put aside comes next
abbrev pub post_returned : ℕ → ℕ → ℕ → Mem → Post → Post
post_returned seat class e m p = record p {
  pool = record (pool_gone_back e p.pool) { mem = m };
  ways = shadow_pushed class e p.ways;
  tasks = (spares_back seat class (locals_of p)).tasks;
  spares = (spares_back seat class (locals_of p)).spares;
}
