-- A pool with its mail and its orphans: one memory and one book, told of by the laws of all groups at once.
use Rattle.std.specs.Prelude.{◌≡◌, ℕ, ⊤}
use Rattle.pool_words.specs.declared.words.Key.{Key}
use Rattle.heap_slabs.specs.Rolls.{Rolled}
use Rattle.public_list.specs.declared.joining.JoinAt.{JoinAt}
use Rattle.mailbox.specs.declared.boxes.BoxAt.{BoxAt}
use Rattle.object_laws.specs.Objects as objects
use Rattle.object_laws.specs.Objects.Task.{Away, Looking, Ending, Posting, Joining, Reading, Taking, Resting, Blocking}
use Rattle.mail_laws.specs.Mail as mailing
use Rattle.orphan_laws.specs.Orphans as orphaning
use Rattle.orphan_laws.specs.Orphans.{core_in, OrphansGood}
use Rattle.use_laws.specs.Pools.{Pool, PoolGood}

pub record Post : Type 0 where
  pub pool : Pool
  -- where each slab is on its way to its keeper, and the orphans
  pub ways : orphaning.Shadow
  -- of each seat: what it does with mail, and with orphans, and the orphans that it is to push back
  pub mails : ℕ → mailing.Task
  pub tasks : ℕ → orphaning.Task
  pub spares : ℕ → Rolled ℕ

-- what the laws of orphans have of it: the book is the pool's
abbrev pub locals_of : Post → orphaning.Locals
locals_of p = record { book = p.pool.locals.book; mails = p.mails; tasks = p.tasks; spares = p.spares }

-- the same with the words
abbrev pub words_of : Post → orphaning.Core
words_of p = core_in p.pool.mem (locals_of p)

-- a seat takes and joins what was given back only where its mail or its orphans say so
abbrev pub IsNoJoin : objects.Task → Type 0
IsNoJoin Away = ⊤
IsNoJoin (Looking call at) = ⊤
IsNoJoin (Ending call kind at) = ⊤
IsNoJoin (Posting call at) = ⊤
IsNoJoin (Joining slab at) = ⊥
IsNoJoin (Reading slab head) = ⊤
IsNoJoin (Taking slab head below) = ⊤
IsNoJoin (Resting slab unit) = ⊤
IsNoJoin (Blocking unit first granules) = ⊤

abbrev pub FetchTies : BoxAt → objects.Task → Type 0
FetchTies BoxAt.Take task = task ≡ Away
FetchTies (BoxAt.Next e) task = task ≡ Away
FetchTies (BoxAt.Settle e rest) task = task ≡ Away
FetchTies (BoxAt.Join e rest at) task = task ≡ Joining e at

-- what a seat does with objects, by what it has to do with mail
abbrev pub MailTies : mailing.Task → objects.Task → Type 0
MailTies mailing.Task.Away task = IsNoJoin task
MailTies (mailing.Task.Mailing e at) task = task ≡ Away
MailTies (mailing.Task.Fetching class at) task = FetchTies at task
MailTies (mailing.Task.Beginning e class) task = task ≡ Away
MailTies (mailing.Task.Settled e class) task = task ≡ Away

-- what was taken from an adopted slab is walked and joined, or that is done
abbrev pub IsWalk : objects.Task → Type 0
IsWalk Away = ⊤
IsWalk (Looking call at) = ⊥
IsWalk (Ending call kind at) = ⊥
IsWalk (Posting call at) = ⊥
IsWalk (Joining slab JoinAt.Take) = ⊥
IsWalk (Joining slab (JoinAt.Walk first at count)) = ⊤
IsWalk (Joining slab (JoinAt.Tie first last count)) = ⊤
IsWalk (Reading slab head) = ⊥
IsWalk (Taking slab head below) = ⊥
IsWalk (Resting slab unit) = ⊥
IsWalk (Blocking unit first granules) = ⊥

abbrev pub IsSettled : ℕ → mailing.Task → Type 0
IsSettled e mailing.Task.Away = ⊥
IsSettled e (mailing.Task.Mailing slab at) = ⊥
IsSettled e (mailing.Task.Fetching class at) = ⊥
IsSettled e (mailing.Task.Beginning slab class) = ⊥
IsSettled e (mailing.Task.Settled slab class) = slab ≡ e

-- a seat's tasks with orphans, with mail and with objects are those of one position
abbrev pub TiesFit : orphaning.Task → mailing.Task → objects.Task → Type 0
TiesFit orphaning.Task.Away mail task = MailTies mail task
TiesFit (orphaning.Task.Leaving e at) mail task = (mail ≡ mailing.Task.Away) × (task ≡ Away)
TiesFit (orphaning.Task.Adopting class at) mail task = (mail ≡ mailing.Task.Away) × (task ≡ Away)
TiesFit (orphaning.Task.Joining class e rest) mail task = (mail ≡ mailing.Task.Away) × (task ≡ Joining e JoinAt.Take)
TiesFit (orphaning.Task.Resting class rest) mail task = (mail ≡ mailing.Task.Away) × IsWalk task
TiesFit (orphaning.Task.Returning class e at) mail task = (mail ≡ mailing.Task.Away) × (task ≡ Away)
TiesFit (orphaning.Task.Owning e) mail task = IsSettled e mail × (task ≡ Away)

pub record PostGood (k : Key) (p : Post) : Type 0 where
  pub pool' : PoolGood k p.pool
  pub orphans : OrphansGood k p.ways (words_of p)
  pub ties : (seat : ℕ) → TiesFit (p.tasks seat) (p.mails seat) (p.pool.locals.tasks seat)
