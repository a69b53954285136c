-- A step of giving back, of mail or of orphans leaves all other seats alone.
use Rattle.std.proofs.Common.{◌≡◌, ◌≢◌, ℕ, Bool, true, Option, Some, None, refl, ap, ◌∙◌}
use Rattle.pool_words.specs.declared.words.Key.{Key}
use Rattle.chain_words.specs.declared.pushing.PushAt.{PushAt}
use Rattle.chain_words.specs.declared.pushing.PushCall.{PushCall}
use Rattle.chain_words.specs.Pushing.{push_course}
use Rattle.heap_slabs.specs.Rolls.{after_push, newest_of}
use Rattle.mailbox.specs.declared.boxes.BoxAt.{BoxAt}
use Rattle.mailbox.specs.declared.boxes.BoxCall.{BoxCall}
use Rattle.mailbox.specs.declared.boxes.BoxNext.{BoxNext}
use Rattle.mailbox.specs.Boxes.{box_course, box_learn}
use Rattle.mailbox.specs.declared.mailing.MailAt.{MailAt}
use Rattle.mailbox.specs.declared.mailing.MailCall.{MailCall}
use Rattle.mailbox.specs.declared.mailing.MailNext.{MailNext}
use Rattle.mailbox.specs.Mailing.{mail_course, mail_learn}
use Rattle.orphans.specs.declared.adopting.AdoptAt.{AdoptAt}
use Rattle.orphans.specs.declared.adopting.AdoptCall.{AdoptCall}
use Rattle.orphans.specs.declared.adopting.AdoptNext.{AdoptNext}
use Rattle.orphans.specs.declared.leaving.LeaveAt.{LeaveAt}
use Rattle.orphans.specs.declared.leaving.LeaveCall.{LeaveCall}
use Rattle.orphans.specs.declared.leaving.LeaveNext.{LeaveNext}
use Rattle.orphans.specs.Adopting.{adopt_course}
use Rattle.orphans.specs.Leaving.{leave_course}
use Rattle.public_list.specs.declared.joining.JoinAt.{JoinAt}
use Rattle.public_list.specs.declared.joining.JoinNext.{JoinNext}
use Rattle.public_list.specs.Joining.{join_course, join_learn}
use Rattle.word_codes.specs.Links.{link_of}
use Rattle.public_list.specs.declared.posting.PostAt.{PostAt}
use Rattle.public_list.specs.declared.posting.PostCall.{PostCall}
use Rattle.public_list.specs.declared.posting.PostNext.{PostNext}
use Rattle.public_list.specs.Posting.{post_course, post_learn}
use Rattle.slab_laws.specs.Books.{Keeper, with_keeper}
use Rattle.word_laws.specs.Memory.{Mem, after, found, put}
use Rattle.mail_laws.specs.Mail as mailing
use Rattle.mail_laws.specs.Steps as mailing_steps
use Rattle.orphan_laws.specs.Orphans.{Locals, Task}
use Rattle.orphan_laws.specs.Steps.{adopt_of, adopted_as, leave_of, left_as, rested_on, return_of, returned_as}
use Rattle.orphan_laws.specs.Steps.{spared_on, spares_back, sparing, with_task}
use Rattle.object_laws.specs.Steps.{join_of}
use Rattle.use_laws.specs.After.{pool_joined}
use Rattle.use_laws.specs.Pools.{Pool}
use Rattle.post_laws.specs.After.{mails_of, pool_listed, pool_settled, post_adopted, post_fetched, post_left}
use Rattle.post_laws.specs.After.{post_mailed, post_pushed, post_returned, post_taken}
use Rattle.post_laws.specs.Posts.{Post, locals_of}
use Rattle.post_laws.specs.Steps.{PostStep, fetch_action}
use Rattle.pool_laws.specs.Changes.{with_post}
use Rattle.pool_laws.specs.Steps.{IsAtPost}
use Rattle.pool_laws.specs.Wholes.{Whole, WholeGood, post_of}
use Rattle.seat_hands.specs.Moved.{HandsStand}
use Rattle.seat_laws.specs.Stays.{PoolStays, SeatStays}
use Rattle.seat_laws.proofs.Alone.{SameGuards, after_spared, blocks_stay, lists_stay, not_put, same_guards, spares}
use Rattle.seat_laws.proofs.Alone.{stand_same}
use Rattle.seat_laws.proofs.Objects.{OwnStays, join_spares, own_joined, own_posted, own_same, own_task}
use Rattle.seat_laws.proofs.Uses.{pool_stays}

-- the words of these steps are no guards
push_spares : (c : PushCall) (at : PushAt) → spares (push_course c (PushAt.Link 0)) ≡ true
    → spares (push_course c (PushAt.Exchange 0)) ≡ true → spares (push_course c at) ≡ true
push_spares c PushAt.Look link head = refl
push_spares c (PushAt.Link found) link head = link
push_spares c (PushAt.Exchange found) link head = head

pub post_spares : (c : PostCall) (at : PostAt) → spares (post_course c at) ≡ true
post_spares c (PostAt.Push at) = push_spares _ at refl refl

pub mail_spares : (c : MailCall) (at : MailAt) → spares (mail_course c at) ≡ true
mail_spares c MailAt.Next = refl
mail_spares c (MailAt.Push key at) = push_spares _ at refl refl

pub adopt_spares : (c : AdoptCall) (at : AdoptAt) → spares (adopt_course c at) ≡ true
adopt_spares c AdoptAt.Take = refl
adopt_spares c _ = refl

pub leave_spares : (c : LeaveCall) (at : LeaveAt) → spares (leave_course c at) ≡ true
leave_spares c (LeaveAt.Push at) = push_spares _ at refl refl
leave_spares c _ = refl

-- what is a seat's own of mail and orphans stays
pub record MailStays (l later : Locals) (t : ℕ) : Type 0 where
  pub mails : later.mails t ≡ l.mails t
  pub tasks : later.tasks t ≡ l.tasks t
  pub spares' : later.spares t ≡ l.spares t

pub mail_same : (l : Locals) (t : ℕ) → MailStays l l t
mail_same l t = record { mails = refl; tasks = refl; spares' = refl }

-- where another goes on
pub mail_task : (seat t : ℕ) (task : Task) (l : Locals) → seat ≢ t → MailStays l (with_task seat task l) t
mail_task seat t task l ne = record { mails = refl; tasks = not_put l.tasks seat t task ne; spares' = refl }

sparing_stays : (seat t class : ℕ) (next : Option ℕ) (l : Locals) → seat ≢ t → MailStays l (sparing seat class next l) t
sparing_stays seat t class (Some e) l ne = record {
  mails = refl;
  tasks = not_put l.tasks seat t _ ne;
  spares' = not_put l.spares seat t _ ne;
}
sparing_stays seat t class None l ne = mail_task seat t _ l ne

pub back_stays : (seat t class : ℕ) (l : Locals) → seat ≢ t → MailStays l (spares_back seat class l) t
back_stays seat t class l ne = sparing_stays seat t class (newest_of (l.spares seat)) l ne

on_stays : (seat t class : ℕ) (rest : Option ℕ) (l : Locals) → seat ≢ t → MailStays l (spared_on seat class rest l) t
on_stays seat t class (Some e) l ne = mail_task seat t _ l ne
on_stays seat t class None l ne = back_stays seat t class l ne

pub left_stays : (seat t e : ℕ) (next : LeaveNext) (l : Locals) → seat ≢ t → MailStays l (left_as seat e next l) t
left_stays seat t e (LeaveNext.Goes at) l ne = mail_task seat t _ l ne
left_stays seat t e LeaveNext.Filled l ne = mail_task seat t _ l ne
left_stays seat t e LeaveNext.Left l ne =
    record { mails = refl; tasks = not_put l.tasks seat t _ ne; spares' = refl }

pub adopted_stays : (seat t class : ℕ) (next : AdoptNext) (l : Locals) → seat ≢ t
    → MailStays l (adopted_as seat class next l) t
adopted_stays seat t class (AdoptNext.Goes at) l ne = mail_task seat t _ l ne
adopted_stays seat t class AdoptNext.Empty l ne = mail_task seat t _ l ne
adopted_stays seat t class (AdoptNext.Adopted e header rest) l ne = mail_task seat t _ l ne
adopted_stays seat t class (AdoptNext.Spared e rest) l ne =
    let pushed : Locals = record l { spares = put l.spares seat (after_push (l.spares seat) e) } in
    let on = on_stays seat t class rest pushed ne in
    record {
      mails = on.mails;
      tasks = on.tasks;
      spares' = on.spares' ∙ not_put l.spares seat t (after_push (l.spares seat) e) ne;
    }

pub rested_stays : (seat t class : ℕ) (enough : Bool) (rest : Option ℕ) (l : Locals) → seat ≢ t
    → MailStays l (rested_on seat class enough rest l) t
rested_stays seat t class enough (Some e) l ne = mail_task seat t _ l ne
rested_stays seat t class enough None l ne = mail_task seat t _ l ne

pub returned_stays : (seat t class e : ℕ) (next : LeaveNext) (l : Locals) → seat ≢ t
    → MailStays l (returned_as seat class e next l) t
returned_stays seat t class e (LeaveNext.Goes at) l ne = mail_task seat t _ l ne
returned_stays seat t class e LeaveNext.Filled l ne = back_stays seat t class l ne
returned_stays seat t class e LeaveNext.Left l ne =
    let b : Locals = record l { book = with_keeper e Keeper.Orphan l.book } in
    let back = back_stays seat t class b ne in
    record { mails = back.mails; tasks = back.tasks; spares' = back.spares' }

-- a step of a post makes this of the whole
pub post_leaves : (w : Whole) (t : ℕ) (later : Post) → PoolStays w.pool later.pool t
    → MailStays (locals_of (post_of w)) (locals_of later) t → SameGuards w.pool.mem later.pool.mem
    → HandsStand later.pool.blocks.place w.pool.blocks.place t → SeatStays w (with_post later w) t
post_leaves w t later pool mail words stand = record {
  pool = pool;
  tasks = record {
    bins = refl;
    queue = refl;
    drained = refl;
    mails = mail.mails;
    orphans = mail.tasks;
    spares = mail.spares';
    jobs = refl;
    desks = refl;
  };
  blocks = blocks_stay w.pool later.pool t stand words;
  lists = lists_stay w (with_post later w) t words refl refl;
}

-- the push of an object brings a duty to mail
pushed_mails : (seat t : ℕ) (call : PostCall) (next : PostNext) (l : mailing.Locals) → seat ≢ t
    → (mailing_steps.posted_as seat call next l).tasks t ≡ l.tasks t
pushed_mails seat t call (PostNext.Goes at) l ne = refl
pushed_mails seat t call PostNext.Listed l ne = refl
pushed_mails seat t call PostNext.Owed l ne = not_put l.tasks seat t _ ne

mailed_mails : (seat t e : ℕ) (next : MailNext) (l : mailing.Locals) → seat ≢ t
    → (mailing_steps.mailed_as seat e next l).tasks t ≡ l.tasks t
mailed_mails seat t e (MailNext.Goes at) l ne = not_put l.tasks seat t _ ne
mailed_mails seat t e MailNext.Mailed l ne = not_put l.tasks seat t _ ne

-- the seat's own of objects, and its heap, are as before
pool_own : (p later : Pool) (t : ℕ) → later.tasks ≡ p.tasks → OwnStays p.locals later.locals t
    → later.kept t ≡ p.kept t → later.cached ≡ p.cached → PoolStays p later t
pool_own p later t tasks own kept cached = pool_stays p later t tasks own kept (ap (λ f. f t) cached)

-- another book, and other words
record LikePool (w : Whole) (later : Pool) : Type 0 where
  pub tasks : later.tasks ≡ w.pool.tasks
  pub own : later.locals.tasks ≡ w.pool.locals.tasks
  pub notes : later.locals.notes ≡ w.pool.locals.notes
  pub lasts : later.locals.lasts ≡ w.pool.locals.lasts
  pub cached : later.cached ≡ w.pool.cached

like_stays : (w : Whole) (later : Pool) (t : ℕ) → LikePool w later → later.kept t ≡ w.pool.kept t
    → PoolStays w.pool later t
like_stays w later t like kept = record {
  guards = ap (λ f. f t) like.tasks;
  objects = ap (λ f. f t) like.own;
  notes = ap (λ f. f t) like.notes;
  last = ap (λ f. f t) like.lasts;
  kept = kept;
  cached = ap (λ f. f t) like.cached;
}

box_spares : (c : BoxCall) (at : BoxAt) → spares (box_course c at) ≡ true
box_spares c (BoxAt.Join e rest at) = join_spares (record { slab = e; head = c.head }) at
box_spares c _ = refl

-- a fetch goes on
fetched_leaves : (w : Whole) (seat t class : ℕ) (at : BoxAt) (next : BoxNext) (later : Pool) → seat ≢ t
    → PoolStays w.pool later t → SameGuards w.pool.mem later.mem → HandsStand later.blocks.place w.pool.blocks.place t
    → SeatStays w (with_post (post_fetched seat class at next later (post_of w)) w) t
fetched_leaves w seat t class at next later ne pool words stand =
    post_leaves w t (post_fetched seat class at next later (post_of w)) pool
    (record { mails = not_put w.mails seat t _ ne; tasks = refl; spares' = refl }) words stand

listed_leaves : (k : Key) (w : Whole) (seat t class e : ℕ) (rest : Option ℕ) (at : JoinAt) (next : BoxNext)
    (joined : JoinNext) (m : Mem) → seat ≢ t → SameGuards w.pool.mem m
    → SeatStays w (with_post (post_fetched seat class (BoxAt.Join e rest at) next
    (pool_listed seat e at joined m w.pool) (post_of w)) w) t
listed_leaves k w seat t class e rest at next joined m ne words =
    fetched_leaves w seat t class (BoxAt.Join e rest at) next (pool_listed seat e at joined m w.pool) ne
    (pool_own w.pool (pool_listed seat e at joined m w.pool) t refl (own_joined seat t e joined w.pool.locals ne)
    refl refl) words (stand_same w.pool.blocks.place t)

pub posts_leave : (k : Key) (seat t : ℕ) (w : Whole) (later : Post) → WholeGood k w → seat ≢ t
    → (step : PostStep k seat (post_of w) later) → IsAtPost k seat (post_of w) later step
    → SeatStays w (with_post later w) t
posts_leave k seat t w later good ne (PostStep.pushes call at is) here =
    let next = post_learn at (found w.pool.mem (post_course call at)) in
    let then = post_pushed seat call next (after k w.pool.mem (post_course call at)) (post_of w) in
    post_leaves w t then (pool_own w.pool then.pool t refl (own_posted seat t call next w.pool.locals ne) refl refl)
    (record { mails = pushed_mails seat t call next (mails_of (post_of w)) ne; tasks = refl; spares' = refl })
    (after_spared k w.pool.mem (post_course call at) (post_spares call at)) (stand_same w.pool.blocks.place t)
posts_leave k seat t w later good ne (PostStep.mails e at is) here =
    let next = mail_learn at (found w.pool.mem (mail_course (mailing_steps.mail_of e) at)) in
    let then = post_mailed seat e next (after k w.pool.mem (mail_course (mailing_steps.mail_of e) at)) (post_of w) in
    post_leaves w t then (pool_own w.pool then.pool t refl (own_same w.pool.locals t) refl refl)
    (record { mails = mailed_mails seat t e next (mails_of (post_of w)) ne; tasks = refl; spares' = refl })
    (after_spared k w.pool.mem (mail_course (mailing_steps.mail_of e) at) (mail_spares (mailing_steps.mail_of e) at))
    (stand_same w.pool.blocks.place t)
posts_leave k seat t w later good ne (PostStep.takes_box class head is) here =
    fetched_leaves w seat t class BoxAt.Take _ _ ne (record {
      guards = refl;
      objects = refl;
      notes = refl;
      last = refl;
      kept = refl;
      cached = refl;
    }) (after_spared k w.pool.mem (fetch_action seat class BoxAt.Take head)
    (box_spares (mailing_steps.box_by seat class head) BoxAt.Take)) (stand_same w.pool.blocks.place t)
posts_leave k seat t w later good ne (PostStep.reads_next class e head is) here =
    fetched_leaves w seat t class (BoxAt.Next e)
    (box_learn (BoxAt.Next e) (found w.pool.mem (fetch_action seat class (BoxAt.Next e) head))) w.pool ne (pool_own
    w.pool w.pool t refl (own_same w.pool.locals t)
    refl refl) (same_guards w.pool.mem) (stand_same w.pool.blocks.place t)
posts_leave k seat t w later good ne (PostStep.settles class e rest head is) here =
    let action = fetch_action seat class (BoxAt.Settle e rest) head in
    let then = pool_settled seat e (after k w.pool.mem action) w.pool in
    fetched_leaves w seat t class (BoxAt.Settle e rest) (box_learn (BoxAt.Settle e rest) (found w.pool.mem action)) then
    ne
    (pool_own w.pool then t refl (own_task seat t _ w.pool.locals ne) refl refl)
    (after_spared k w.pool.mem action (box_spares (mailing_steps.box_by seat class head) (BoxAt.Settle e rest)))
    (stand_same w.pool.blocks.place t)
posts_leave k seat t w later good ne (PostStep.takes_list class e rest is) here =
    let heads = w.pool.locals.book.heads e in
    let action = fetch_action seat class (BoxAt.Join e rest JoinAt.Take) heads in
    listed_leaves k w seat t class e rest JoinAt.Take _ (join_learn JoinAt.Take (found w.pool.mem action))
    (after k w.pool.mem action) ne
    (after_spared k w.pool.mem action
    (box_spares (mailing_steps.box_by seat class heads) (BoxAt.Join e rest JoinAt.Take)))
posts_leave k seat t w later good ne (PostStep.walks class e rest first at count is) here =
    let action = fetch_action seat class (BoxAt.Join e rest (JoinAt.Walk first at count))
    (w.pool.locals.book.heads e) in
    listed_leaves k w seat t class e rest (JoinAt.Walk first at count) _
    (join_learn (JoinAt.Walk first at count) (found w.pool.mem action)) w.pool.mem ne (same_guards w.pool.mem)
posts_leave k seat t w later good ne (PostStep.ties class e rest first last count is) here =
    let then = pool_joined k seat e first last count w.pool in
    let at = BoxAt.Join e rest (JoinAt.Tie first last count) in
    fetched_leaves w seat t class at
    (box_learn at (found w.pool.mem (fetch_action seat class at (w.pool.locals.book.heads e)))) then ne
    (pool_own w.pool then t refl (own_joined seat t e (JoinNext.Joined first count) w.pool.locals ne)
    (not_put w.pool.kept seat t _ ne) refl)
    (after_spared k w.pool.mem (join_course (join_of w.pool.locals e) (JoinAt.Tie first last count))
    (join_spares (join_of w.pool.locals e) (JoinAt.Tie first last count))) (stand_same w.pool.blocks.place t)
posts_leave k seat t w later good ne (PostStep.takes_orphans class is) here =
    let action = adopt_course (adopt_of seat class) AdoptAt.Take in
    let then = post_taken seat class (link_of (found w.pool.mem action)) (after k w.pool.mem action) (post_of w) in
    post_leaves w t then (like_stays w then.pool t (record {
      tasks = refl;
      own = refl;
      notes = refl;
      lasts = refl;
      cached = refl;
    }) refl)
    (record { mails = refl; tasks = not_put w.tasks seat t _ ne; spares' = refl })
    (after_spared k w.pool.mem action (adopt_spares (adopt_of seat class) AdoptAt.Take))
    (stand_same w.pool.blocks.place t)
posts_leave k seat t w later good ne (PostStep.adopts class e header rest is) here =
    let action = adopt_course (adopt_of seat class) (AdoptAt.Own e header rest) in
    let then = post_adopted seat class e rest (after k w.pool.mem action) (post_of w) in
    post_leaves w t then
    (pool_own w.pool then.pool t refl (record {
      tasks = not_put w.pool.locals.tasks seat t _ ne;
      notes = refl;
      lasts = refl;
    }) (not_put w.pool.kept seat t _ ne) refl)
    (record { mails = refl; tasks = not_put w.tasks seat t _ ne; spares' = refl })
    (after_spared k w.pool.mem action (adopt_spares (adopt_of seat class) (AdoptAt.Own e header rest)))
    (stand_same w.pool.blocks.place t)
posts_leave k seat t w later good ne (PostStep.leaves e at is won) here =
    let call = leave_of (locals_of (post_of w)) e in
    let action = leave_course call (LeaveAt.Push at) in
    let then = post_left seat e (after k w.pool.mem action) (post_of w) in
    post_leaves w t then (like_stays w then.pool t
    (record { tasks = refl; own = refl; notes = refl; lasts = refl; cached = refl }) (not_put w.pool.kept seat t _ ne))
    (record { mails = refl; tasks = not_put w.tasks seat t _ ne; spares' = refl })
    (after_spared k w.pool.mem action (leave_spares call (LeaveAt.Push at))) (stand_same w.pool.blocks.place t)
posts_leave k seat t w later good ne (PostStep.returns class e at is won) here =
    let call = return_of class e in
    let action = leave_course call (LeaveAt.Push at) in
    let then = post_returned seat class e (after k w.pool.mem action) (post_of w) in
    let back = back_stays seat t class (locals_of (post_of w)) ne in
    post_leaves w t then (like_stays w then.pool t (record {
      tasks = refl;
      own = refl;
      notes = refl;
      lasts = refl;
      cached = refl;
    }) refl)
    (record { mails = refl; tasks = back.tasks; spares' = back.spares' })
    (after_spared k w.pool.mem action (leave_spares call (LeaveAt.Push at))) (stand_same w.pool.blocks.place t)
posts_leave k seat t w later good ne (PostStep.together now pool' orphans stay fit) here = absurd here
