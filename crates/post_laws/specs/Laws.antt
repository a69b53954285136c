-- The laws of mail and orphans over the memory of a whole pool.
use Rattle.std.specs.Prelude.{◌≡◌, ◌≢◌, ℕ, ◌+◌, ◌^◌, ◌<◌, ◌≤◌, Option, ⊤}
use Rattle.pool_words.specs.declared.words.Key.{Key}
use Rattle.pool_words.specs.Words.{mailbox_at, headers, nexts}
use Rattle.word_codes.specs.declared.nexts.Next.{Next}
use Rattle.word_codes.specs.Nexts.{next_of}
use Rattle.heap_slabs.specs.Records.{to_header}
use Rattle.chain_words.specs.declared.pushing.PushAt.{PushAt}
use Rattle.public_list.specs.declared.joining.JoinAt.{JoinAt}
use Rattle.public_list.specs.declared.posting.PostCall.{PostCall}
use Rattle.public_list.specs.declared.posting.PostAt.{PostAt}
use Rattle.public_list.specs.declared.posting.PostNext.{PostNext}
use Rattle.public_list.specs.Posting.{post_course, post_learn}
use Rattle.orphans.specs.declared.adopting.AdoptAt.{AdoptAt}
use Rattle.orphans.specs.declared.leaving.LeaveAt.{LeaveAt}
use Rattle.word_laws.specs.Memory.{found}
use Rattle.chain_laws.specs.Chains.{tally}
use Rattle.slab_laws.specs.Books.{Keeper, IsThere, record_of}
use Rattle.slab_laws.specs.Heaps.{slab_of}
use Rattle.object_laws.specs.Objects as objects
use Rattle.object_laws.specs.Objects.{Held}
use Rattle.object_laws.specs.Objects.Task.{Away, Posting, Joining}
use Rattle.mail_laws.specs.Mail as mailing
use Rattle.mail_laws.specs.Mail.{Mail, IsMailing, key_by}
use Rattle.orphan_laws.specs.Orphans.{Task, IsLeaving, IsJoining, in_hand}
use Rattle.post_laws.specs.Posts.{Post, PostGood}
use Rattle.post_laws.specs.Steps.{PostStep, PostRun}
use Rattle.post_laws.specs.Named.{fresh_post}

-- an object came back to its slab: it is private, or on the slab's public list
abbrev pub IsBack : Held → Type 0
IsBack Held.NotOut = ⊥
IsBack Held.Private = ⊤
IsBack Held.Listed = ⊤
IsBack (Held.Object grant) = ⊥
IsBack (Held.InHand seat) = ⊥
IsBack (Held.Ready seat first granules) = ⊥
IsBack (Held.Large grant first granules) = ⊥

-- how often an object stands in the lists of a slab: private, given back, and taken but not yet joined
abbrev pub times_in : objects.Shadow → ℕ → ℕ → ℕ
times_in g e u = tally u (g.privates e) + tally u (g.listed e) + tally u (g.taken e)

pub record StandsOnce (p : Post) (u : ℕ) : Type 0 where
  pub slab : IsThere (p.pool.locals.book.keeper (slab_of u))
  pub here : times_in p.pool.objects (slab_of u) u ≡ 1
  pub else : (e : ℕ) → e ≢ slab_of u → times_in p.pool.objects e u ≡ 0

-- a seat is about to deal with the slabs of a mailbox that it took
abbrev pub IsFetching : mailing.Task → Type 0
IsFetching mailing.Task.Away = ⊥
IsFetching (mailing.Task.Mailing slab at) = ⊥
IsFetching (mailing.Task.Fetching class at) = ⊤
IsFetching (mailing.Task.Beginning slab class) = ⊥
IsFetching (mailing.Task.Settled slab class) = ⊥

-- where a slab is on its way to a keeper that will take its public list
pub data IsUnderWay (p : Post) (e : ℕ) : Type 0 where
  -- one seat is about to mail it, and no other
  owed : (seat : ℕ) → IsMailing (p.mails seat) e → ((other : ℕ) → IsMailing (p.mails other) e → other ≡ seat)
      → IsUnderWay p e
  -- it stands once in the mailbox of its keeper for its class
  boxed : (seat : ℕ) → p.pool.locals.book.keeper e ≡ Keeper.By seat
      → tally e (p.ways.mail.boxed (mailbox_at seat (p.pool.locals.book.classes e))) ≡ 1 → IsUnderWay p e
  -- its keeper took it with that mailbox, and is about to deal with it
  fetched : (seat : ℕ) → p.pool.locals.book.keeper e ≡ Keeper.By seat → tally e (p.ways.mail.fetched seat) ≡ 1
      → IsFetching (p.mails seat) → IsUnderWay p e
  -- its keeper is about to leave it; or it is an orphan: once in the chain of its class, or in the hand of the seat
  -- that took it; or that seat has adopted it, and takes its public list next
  leaving : (seat : ℕ) → p.pool.locals.book.keeper e ≡ Keeper.By seat → IsLeaving (p.tasks seat) e → IsUnderWay p e
  left : p.pool.locals.book.keeper e ≡ Keeper.Orphan → tally e (p.ways.left (p.pool.locals.book.classes e)) ≡ 1
      → IsUnderWay p e
  taken : (seat : ℕ) → p.pool.locals.book.keeper e ≡ Keeper.Adopting seat
      → in_hand p.ways.taken p.spares p.tasks seat e ≡ 1 → IsUnderWay p e
  adopted : (seat : ℕ) → p.pool.locals.book.keeper e ≡ Keeper.By seat → IsJoining (p.tasks seat) e
      → p.pool.locals.tasks seat ≡ Joining e JoinAt.Take → IsUnderWay p e

-- no object that was given back is lost: it stands once in the lists of its slab and in no other slab's, and a slab
-- with something on its public list is on its way to a keeper that takes that list
abbrev pub GivenBackIsNotLost : Type 0
GivenBackIsNotLost =
    (k : Key) (p : Post) (u : ℕ) → PostGood k p → IsBack (p.pool.objects.held u)
    → StandsOnce p u × (p.pool.objects.held u ≡ Held.Listed → IsUnderWay p (slab_of u))

-- a push of an object in hand is of a slab that is there, and its seat has no other duty
pub record MayPush (p : Post) (seat : ℕ) (call : PostCall) : Type 0 where
  pub away : p.mails seat ≡ mailing.Task.Away
  pub there : IsThere (p.pool.locals.book.keeper call.slab)
  pub low : call.unit < 2 ^ 61

abbrev pub PushesFindTheirSlab : Type 0
PushesFindTheirSlab =
    (k : Key) (p : Post) (seat : ℕ) (call : PostCall) (at : PostAt) → PostGood k p
    → p.pool.locals.tasks seat ≡ Posting call at → MayPush p seat call

-- a push that found Null gives its seat a duty that nobody has: the slab is in no mailbox and in no hand
pub record IsUnowed (p : Post) (e : ℕ) : Type 0 where
  pub rest : p.ways.mail.mail e ≡ Mail.Rest
  pub duties : (seat : ℕ) → IsMailing (p.mails seat) e → ⊥
  pub boxes : (b : ℕ) → tally e (p.ways.mail.boxed b) ≡ 0
  pub hands : (seat : ℕ) → tally e (p.ways.mail.fetched seat) ≡ 0

abbrev pub FindingNullGivesOneDuty : Type 0
FindingNullGivesOneDuty =
    (k : Key) (p : Post) (seat : ℕ) (call : PostCall) (at : PostAt) → PostGood k p
    → p.pool.locals.tasks seat ≡ Posting call at
    → post_learn at (found p.pool.mem (post_course call at)) ≡ PostNext.Owed → IsUnowed p call.slab

-- a seat that is about to push a slab which it leaves keeps it, and the header is the slab's record
pub record MayLeave (p : Post) (seat e : ℕ) : Type 0 where
  pub away : p.pool.locals.tasks seat ≡ Away
  pub kept : p.pool.locals.book.keeper e ≡ Keeper.By seat
  pub header : p.pool.mem headers e ≡ to_header (record_of p.pool.locals.book e)

abbrev pub LeftSlabsHaveTheirRecord : Type 0
LeftSlabsHaveTheirRecord =
    (k : Key) (p : Post) (seat e : ℕ) (at : PushAt) → PostGood k p → p.tasks seat ≡ Task.Leaving e (LeaveAt.Push at)
    → MayLeave p seat e

-- what a swap of orphans gives are orphans
pub record MayTake (p : Post) (seat class : ℕ) : Type 0 where
  pub away : p.pool.locals.tasks seat ≡ Away
  pub orphans : (e : ℕ) → 0 < tally e (p.ways.left class) → p.pool.locals.book.keeper e ≡ Keeper.Orphan

abbrev pub SwapsGiveOrphans : Type 0
SwapsGiveOrphans =
    (k : Key) (p : Post) (seat class : ℕ) → PostGood k p → p.tasks seat ≡ Task.Adopting class AdoptAt.Take
    → MayTake p seat class

-- an orphan that a seat is about to adopt, or to push back, is in that seat's hand
pub record HasOrphan (p : Post) (seat e : ℕ) : Type 0 where
  pub away : p.pool.locals.tasks seat ≡ Away
  pub has : p.pool.locals.book.keeper e ≡ Keeper.Adopting seat

abbrev pub AdoptersHaveTheOrphan : Type 0
AdoptersHaveTheOrphan =
    (k : Key) (p : Post) (seat class e header : ℕ) (rest : Option ℕ) → PostGood k p
    → p.tasks seat ≡ Task.Adopting class (AdoptAt.Own e header rest) → HasOrphan p seat e

abbrev pub ReturnersHaveTheOrphan : Type 0
ReturnersHaveTheOrphan =
    (k : Key) (p : Post) (seat class e : ℕ) (at : LeaveAt) → PostGood k p
    → p.tasks seat ≡ Task.Returning class e at → HasOrphan p seat e

-- an adopted slab's public list is taken once its next word names the adopter's mailbox, and not before
pub record MayJoin (p : Post) (seat class e : ℕ) : Type 0 where
  pub joins : p.pool.locals.tasks seat ≡ Joining e JoinAt.Take
  pub kept : p.pool.locals.book.keeper e ≡ Keeper.By seat
  pub home : next_of (p.pool.mem nexts e) ≡ Next.Mailbox (key_by seat class)

abbrev pub AdoptedListsAreTakenLater : Type 0
AdoptedListsAreTakenLater =
    (k : Key) (p : Post) (seat class e : ℕ) (rest : Option ℕ) → PostGood k p
    → p.tasks seat ≡ Task.Joining class e rest → MayJoin p seat class e

-- in a new pool nothing was given back
abbrev pub FreshPostsAreGood : Type 0
FreshPostsAreGood = (k : Key) → k.seats ≤ 64 → k.span < 2 ^ 32 → PostGood k (fresh_post k)

-- each step of each seat keeps what holds of the pool, its mail and its orphans
abbrev pub StepsKeepPost : Type 0
StepsKeepPost = (k : Key) (seat : ℕ) (p later : Post) → PostGood k p → PostStep k seat p later → PostGood k later

abbrev pub RunsKeepPost : Type 0
RunsKeepPost = (k : Key) (p later : Post) → PostGood k p → PostRun k p later → PostGood k later
