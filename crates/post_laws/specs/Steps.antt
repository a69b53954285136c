-- The steps of a seat on a pool with its mail: each is a step of the pool and one of the mail over the same words. What
-- it rests on is what its own seat is about to do.
use Rattle.std.specs.Prelude.{◌≡◌, ◌≢◌, ℕ, Option}
use Rattle.pool_words.specs.declared.words.Key.{Key}
use Rattle.pool_words.specs.declared.actions.Action.{Action}
use Rattle.public_list.specs.declared.joining.JoinAt.{JoinAt}
use Rattle.public_list.specs.declared.posting.PostAt.{PostAt}
use Rattle.public_list.specs.declared.posting.PostCall.{PostCall}
use Rattle.public_list.specs.Joining.{join_learn}
use Rattle.public_list.specs.Posting.{post_course, post_learn}
use Rattle.mailbox.specs.declared.boxes.BoxAt.{BoxAt}
use Rattle.mailbox.specs.declared.mailing.MailAt.{MailAt}
use Rattle.mailbox.specs.Boxes.{box_course, box_learn}
use Rattle.mailbox.specs.Mailing.{mail_course, mail_learn}
use Rattle.word_codes.specs.Links.{link_of}
use Rattle.chain_words.specs.declared.pushing.PushAt.{PushAt}
use Rattle.orphans.specs.declared.adopting.AdoptAt.{AdoptAt}
use Rattle.orphans.specs.declared.leaving.LeaveAt.{LeaveAt}
use Rattle.orphans.specs.declared.leaving.LeaveNext.{LeaveNext}
use Rattle.orphans.specs.Adopting.{adopt_course}
use Rattle.orphans.specs.Leaving.{leave_course, leave_learn}
use Rattle.word_laws.specs.Memory.{after, found}
use Rattle.object_laws.specs.Objects.Task.{Posting}
use Rattle.mail_laws.specs.Mail.{Task}
use Rattle.mail_laws.specs.Steps.{mail_of, box_by}
use Rattle.orphan_laws.specs.Orphans as orphaning
use Rattle.orphan_laws.specs.Steps.{adopt_of, leave_of, return_of, OrphanRun}
use Rattle.use_laws.specs.Steps.{PoolRun}
use Rattle.use_laws.specs.After.{pool_joined}
use Rattle.post_laws.specs.Posts.{Post, locals_of, TiesFit}
use Rattle.post_laws.specs.After.{post_pushed, post_mailed, post_fetched, pool_settled, pool_listed, post_taken}
use Rattle.post_laws.specs.After.{post_adopted, post_left, post_returned}

-- the step of a seat at a mailbox, with what its book says of the slab at hand
abbrev pub fetch_action : ℕ → ℕ → BoxAt → Option ℕ → Action
fetch_action seat class at head = box_course (box_by seat class head) at

-- what the other seats have to do is the same
pub record OthersStay (seat : ℕ) (p later : Post) : Type 0 where
  pub objects : (other : ℕ) → other ≢ seat → later.pool.locals.tasks other ≡ p.pool.locals.tasks other
  pub mails : (other : ℕ) → other ≢ seat → later.mails other ≡ p.mails other
  pub orphans : (other : ℕ) → other ≢ seat → later.tasks other ≡ p.tasks other

pub data PostStep (k : Key) (seat : ℕ) (p : Post) : Post → Type 0 where
  -- P1 to P4: the object in hand is listed
  pushes : (call : PostCall) (at : PostAt) → p.pool.locals.tasks seat ≡ Posting call at
      → PostStep k seat p (post_pushed seat call (post_learn at (found p.pool.mem (post_course call at)))
      (after k p.pool.mem (post_course call at)) p)
  -- N1 to N4: the slab is mailed
  mails : (e : ℕ) (at : MailAt) → p.mails seat ≡ Task.Mailing e at
      → PostStep k seat p (post_mailed seat e (mail_learn at (found p.pool.mem (mail_course (mail_of e) at)))
      (after k p.pool.mem (mail_course (mail_of e) at)) p)
  -- N5 to N7, P5, M1, M8: a mailbox is taken; of each slab there the next word is read and written again, and its
  -- public list is taken, walked and joined
  takes_box : (class : ℕ) (head : Option ℕ) → p.mails seat ≡ Task.Fetching class BoxAt.Take
      → PostStep k seat p (post_fetched seat class BoxAt.Take
      (box_learn BoxAt.Take (found p.pool.mem (fetch_action seat class BoxAt.Take head)))
      (record p.pool { mem = after k p.pool.mem (fetch_action seat class BoxAt.Take head) }) p)
  reads_next : (class e : ℕ) (head : Option ℕ) → p.mails seat ≡ Task.Fetching class (BoxAt.Next e)
      → PostStep k seat p (post_fetched seat class (BoxAt.Next e)
      (box_learn (BoxAt.Next e) (found p.pool.mem (fetch_action seat class (BoxAt.Next e) head))) p.pool p)
  settles : (class e : ℕ) (rest head : Option ℕ) → p.mails seat ≡ Task.Fetching class (BoxAt.Settle e rest)
      → PostStep k seat p (post_fetched seat class (BoxAt.Settle e rest)
      (box_learn (BoxAt.Settle e rest) (found p.pool.mem (fetch_action seat class (BoxAt.Settle e rest) head)))
      (pool_settled seat e (after k p.pool.mem (fetch_action seat class (BoxAt.Settle e rest) head)) p.pool) p)
  takes_list : (class e : ℕ) (rest : Option ℕ) → p.mails seat ≡ Task.Fetching class (BoxAt.Join e rest JoinAt.Take)
      → PostStep k seat p (post_fetched seat class (BoxAt.Join e rest JoinAt.Take)
      (box_learn (BoxAt.Join e rest JoinAt.Take) (found p.pool.mem
      (fetch_action seat class (BoxAt.Join e rest JoinAt.Take) (p.pool.locals.book.heads e))))
      (pool_listed seat e JoinAt.Take (join_learn JoinAt.Take (found p.pool.mem
      (fetch_action seat class (BoxAt.Join e rest JoinAt.Take) (p.pool.locals.book.heads e))))
      (after k p.pool.mem (fetch_action seat class (BoxAt.Join e rest JoinAt.Take) (p.pool.locals.book.heads e)))
      p.pool) p)
  walks : (class e : ℕ) (rest : Option ℕ) (first at count : ℕ)
      → p.mails seat ≡ Task.Fetching class (BoxAt.Join e rest (JoinAt.Walk first at count))
      → PostStep k seat p (post_fetched seat class (BoxAt.Join e rest (JoinAt.Walk first at count))
      (box_learn (BoxAt.Join e rest (JoinAt.Walk first at count)) (found p.pool.mem
      (fetch_action seat class (BoxAt.Join e rest (JoinAt.Walk first at count)) (p.pool.locals.book.heads e))))
      (pool_listed seat e (JoinAt.Walk first at count) (join_learn (JoinAt.Walk first at count) (found p.pool.mem
      (fetch_action seat class (BoxAt.Join e rest (JoinAt.Walk first at count)) (p.pool.locals.book.heads e))))
      p.pool.mem p.pool) p)
  ties : (class e : ℕ) (rest : Option ℕ) (first last count : ℕ)
      → p.mails seat ≡ Task.Fetching class (BoxAt.Join e rest (JoinAt.Tie first last count))
      → PostStep k seat p (post_fetched seat class (BoxAt.Join e rest (JoinAt.Tie first last count))
      (box_learn (BoxAt.Join e rest (JoinAt.Tie first last count)) (found p.pool.mem
      (fetch_action seat class (BoxAt.Join e rest (JoinAt.Tie first last count)) (p.pool.locals.book.heads e))))
      (pool_joined k seat e first last count p.pool) p)
  -- O6: the orphans of a class are taken; O8: one of them is adopted; O5: a slab is left, or an orphan pushed back
  takes_orphans : (class : ℕ) → p.tasks seat ≡ orphaning.Task.Adopting class AdoptAt.Take
      → PostStep k seat p (post_taken seat class
      (link_of (found p.pool.mem (adopt_course (adopt_of seat class) AdoptAt.Take)))
      (after k p.pool.mem (adopt_course (adopt_of seat class) AdoptAt.Take)) p)
  adopts : (class e header : ℕ) (rest : Option ℕ)
      → p.tasks seat ≡ orphaning.Task.Adopting class (AdoptAt.Own e header rest)
      → PostStep k seat p (post_adopted seat class e rest
      (after k p.pool.mem (adopt_course (adopt_of seat class) (AdoptAt.Own e header rest))) p)
  leaves : (e : ℕ) (at : PushAt) → p.tasks seat ≡ orphaning.Task.Leaving e (LeaveAt.Push at)
      → leave_learn (LeaveAt.Push at) (found p.pool.mem (leave_course (leave_of (locals_of p) e) (LeaveAt.Push at)))
      ≡ LeaveNext.Left
      → PostStep k seat p (post_left seat e
      (after k p.pool.mem (leave_course (leave_of (locals_of p) e) (LeaveAt.Push at))) p)
  returns : (class e : ℕ) (at : PushAt) → p.tasks seat ≡ orphaning.Task.Returning class e (LeaveAt.Push at)
      → leave_learn (LeaveAt.Push at) (found p.pool.mem (leave_course (return_of class e) (LeaveAt.Push at)))
      ≡ LeaveNext.Left
      → PostStep k seat p (post_returned seat class e
      (after k p.pool.mem (leave_course (return_of class e) (LeaveAt.Push at))) p)
  -- each other step: steps of the pool, and steps of its mail and orphans over the same words and the same book
  together : (later : Post) → PoolRun k p.pool later.pool
      → OrphanRun k p.ways p.pool.mem (locals_of p) later.ways later.pool.mem (locals_of later)
      → OthersStay seat p later
      → TiesFit (later.tasks seat) (later.mails seat) (later.pool.locals.tasks seat)
      → PostStep k seat p later

-- any number of steps of any number of seats
pub data PostRun (k : Key) (p : Post) : Post → Type 0 where
  starts : PostRun k p p
  steps : {before later : Post} → PostRun k p before → (seat : ℕ) → PostStep k seat before later → PostRun k p later
