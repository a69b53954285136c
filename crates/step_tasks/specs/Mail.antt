-- What a seat is about to do with mail, by its position, and what its next step leaves of that.
use Rattle.std.specs.Prelude.{◌≡◌, ℕ, ⊤}
use Rattle.mailbox.specs.declared.boxes.BoxAt.{BoxAt}
use Rattle.mailbox.specs.declared.mailing.MailAt.{MailAt}
use Rattle.mailbox.specs.declared.mailing.MailNext.{MailNext}
use Rattle.mailbox.specs.Boxes.{box_learn}
use Rattle.mailbox.specs.Mailing.{mail_learn}
use Rattle.public_list.specs.declared.posting.PostNext.{PostNext}
use Rattle.public_list.specs.Posting.{post_learn}
use Rattle.mail_laws.specs.Mail.{Task}
use Rattle.mail_laws.specs.Mail.Task.{Away, Mailing, Fetching, Beginning, Settled}
use Rattle.mail_laws.specs.Steps.{task_fetched}
use Rattle.step_local.specs.declared.frames.At.{At}
use Rattle.step_local.specs.declared.frames.Local.{Local}
use Rattle.step_local.specs.declared.frames.SmallAt.{SmallAt}
use Rattle.step_local.specs.Objects.{mail_call, post_call}
use Rattle.step_local.specs.Slabs.{class_of_served}

-- a slab that is to begin has its next word written first, and its kind last
abbrev pub begun_task : Local → SmallAt → Task
begun_task l (SmallAt.Next slab) = Beginning slab (class_of_served l.call.served)
begun_task l (SmallAt.Public slab) = Settled slab (class_of_served l.call.served)
begun_task l (SmallAt.Own slab) = Settled slab (class_of_served l.call.served)
begun_task l (SmallAt.Kind slab) = Settled slab (class_of_served l.call.served)
begun_task l _ = Away

abbrev pub mail_task_at : Local → At → Task
mail_task_at l (At.Mail at) = Mailing (mail_call l).slab at
mail_task_at l (At.Mailbox at) = Fetching l.fetch.class at
mail_task_at l (At.Small at) = begun_task l at
mail_task_at l _ = Away

-- what the seat is about to do with mail
abbrev pub mail_task_of : Local → Task
mail_task_of l = mail_task_at l l.at

-- the push that replaced Null is to be followed by the mailing of the slab
abbrev pub owed_task : ℕ → PostNext → Task
owed_task slab (PostNext.Goes at) = Away
owed_task slab PostNext.Listed = Away
owed_task slab PostNext.Owed = Mailing slab MailAt.Next

abbrev pub mailed_task : ℕ → MailNext → Task
mailed_task slab (MailNext.Goes at) = Mailing slab at
mailed_task slab MailNext.Mailed = Away

abbrev pub begun_left : Local → SmallAt → Task
begun_left l (SmallAt.Next slab) = Settled slab (class_of_served l.call.served)
begun_left l (SmallAt.Public slab) = Settled slab (class_of_served l.call.served)
begun_left l (SmallAt.Own slab) = Settled slab (class_of_served l.call.served)
begun_left l _ = Away

-- what the next step leaves to do, if it finds this
abbrev pub mail_left_at : Local → At → ℕ → Task
mail_left_at l (At.Post at) found = owed_task (post_call l).slab (post_learn at found)
mail_left_at l (At.Mail at) found = mailed_task (mail_call l).slab (mail_learn at found)
mail_left_at l (At.Mailbox at) found = task_fetched l.fetch.class (box_learn at found)
mail_left_at l (At.Small at) found = begun_left l at
mail_left_at l _ found = Away

abbrev pub mail_left : Local → ℕ → Task
mail_left l found = mail_left_at l l.at found

-- where a task starts: a mailbox is taken, or a slab is to begin
abbrev pub BeginStarts : SmallAt → Type 0
BeginStarts (SmallAt.Public slab) = ⊥
BeginStarts (SmallAt.Own slab) = ⊥
BeginStarts (SmallAt.Kind slab) = ⊥
BeginStarts _ = ⊤

abbrev pub MailStartsAt : At → Type 0
MailStartsAt (At.Mail at) = ⊥
MailStartsAt (At.Mailbox at) = at ≡ BoxAt.Take
MailStartsAt (At.Small at) = BeginStarts at
MailStartsAt _ = ⊤

abbrev pub MailStarts : Local → Type 0
MailStarts l = MailStartsAt l.at
