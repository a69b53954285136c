-- Steps of giving back, of mail and of orphans.
use Rattle.std.proofs.Common.{◌≡◌, ℕ, Option, subst}
use Rattle.std.specs.Prelude.{eqb, ltb}
use Rattle.pool_words.specs.declared.words.Key.{Key}
use Rattle.pool_words.specs.Words.{mailbox_at}
use Rattle.public_list.specs.declared.joining.JoinAt.{JoinAt}
use Rattle.public_list.specs.declared.posting.PostCall.{PostCall}
use Rattle.public_list.specs.declared.posting.PostNext.{PostNext}
use Rattle.public_list.specs.Posting.{post_course, post_learn}
use Rattle.mailbox.specs.declared.boxes.BoxAt.{BoxAt}
use Rattle.mailbox.specs.declared.boxes.BoxNext.{BoxNext}
use Rattle.public_list.specs.declared.posting.PostAt.{PostAt}
use Rattle.mailbox.specs.declared.mailing.MailAt.{MailAt}
use Rattle.mailbox.specs.declared.mailing.MailNext.{MailNext}
use Rattle.mailbox.specs.Boxes.{box_learn}
use Rattle.mailbox.specs.Mailing.{mail_course, mail_learn}
use Rattle.word_laws.specs.Memory.{found, put}
use Rattle.chain_laws.specs.Chains.{tally}
use Rattle.object_laws.specs.Objects as objects
use Rattle.object_laws.specs.Objects.Task.{Posting}
use Rattle.mail_laws.specs.Mail.{Mail, Task}
use Rattle.mail_laws.specs.Steps.{home_of, mail_of, mailed_as, posted_as, shadow_fetched, shadow_mailed, shadow_posted}
use Rattle.mail_laws.specs.Steps.{task_fetched, took}
use Rattle.orphan_laws.specs.Orphans as orphaning
use Rattle.orphan_laws.specs.Orphans.{mail_locals}
use Rattle.post_laws.specs.Posts.{FetchTies, MailTies, Post, PostGood, TiesFit, locals_of}
use Rattle.post_laws.specs.Steps.{PostStep, fetch_action}
use Rattle.pool_laws.specs.Steps.{IsAtPost}
use Rattle.begun_laws.proofs.Kept.{Kept, NamesNone, changes, changes_mail, changes_task, cond_less, none_by}
use Rattle.begun_laws.proofs.Kept.{same, put_names, took_less}

abbrev pub PostKept : Post → Post → Type 0
PostKept p later = Kept p.ways.mail.mail later.ways.mail.mail p.mails later.mails

-- a seat with an object to list has nothing to do with mail
fetch_none : (at : BoxAt) (call : PostCall) (look : PostAt) → FetchTies at (Posting call look) → ⊥
fetch_none BoxAt.Take call look is = cc
fetch_none (BoxAt.Next e) call look is = cc
fetch_none (BoxAt.Settle e rest) call look is = cc
fetch_none (BoxAt.Join e rest at) call look is = cc

mail_none : (task : Task) (call : PostCall) (at : PostAt) → MailTies task (Posting call at) → NamesNone task
mail_none Task.Away call at ties = λ e names. names
mail_none (Task.Mailing slab step) call at ties = absurd (cc)
mail_none (Task.Fetching class step) call at ties = absurd (fetch_none step call at ties)
mail_none (Task.Beginning slab class) call at ties = absurd (cc)
mail_none (Task.Settled slab class) call at ties = absurd (cc)

post_none : (task : orphaning.Task) (mail : Task) (call : PostCall) (at : PostAt)
    → TiesFit task mail (Posting call at) → NamesNone mail
post_none orphaning.Task.Away mail call at ties = mail_none mail call at ties
post_none (orphaning.Task.Leaving e step) mail call at ties = absurd (let is = ties.1 in cc)
post_none (orphaning.Task.Adopting class step) mail call at ties = absurd (let is = ties.1 in cc)
post_none (orphaning.Task.Joining class e rest) mail call at ties = absurd (let is = ties.1 in cc)
post_none (orphaning.Task.Resting class rest) mail call at ties = absurd ties.1
post_none (orphaning.Task.Returning class e step) mail call at ties = absurd (let is = ties.1 in cc)
post_none (orphaning.Task.Owning e) mail call at ties = absurd (let is = ties.1 in cc)

module _ (k : Key) (seat : ℕ) (p : Post) where
  pushed : (call : PostCall) (next : PostNext) → NamesNone (p.mails seat)
      → Kept p.ways.mail.mail (shadow_posted seat call next p.ways.mail).mail p.mails
      (posted_as seat call next (mail_locals (locals_of p))).tasks
  pushed call (PostNext.Goes at) none = same p.ways.mail.mail p.mails
  pushed call PostNext.Listed none = same p.ways.mail.mail p.mails
  pushed call PostNext.Owed none = changes p.ways.mail.mail call.slab (Mail.Owed seat) p.mails seat
      (Task.Mailing call.slab MailAt.Next) tt none

  mailed : (e : ℕ) (next : MailNext) → NamesNone (p.mails seat)
      → Kept p.ways.mail.mail (shadow_mailed (mail_locals (locals_of p)) e next p.ways.mail).mail p.mails
      (mailed_as seat e next (mail_locals (locals_of p))).tasks
  mailed e (MailNext.Goes at) none = changes_task p.ways.mail.mail p.mails seat (Task.Mailing e at) none
  mailed e MailNext.Mailed none = changes p.ways.mail.mail e Mail.Boxed p.mails seat Task.Away tt none

  fetched : (class : ℕ) (at : BoxAt) (next : BoxNext) → NamesNone (p.mails seat)
      → Kept p.ways.mail.mail (shadow_fetched (mail_locals (locals_of p)) seat class at p.ways.mail).mail p.mails
      (put p.mails seat (task_fetched class next))
  fetched class BoxAt.Take next none = record {
    less = λ e t. cond_less (eqb (home_of (mail_locals (locals_of p)) e) (mailbox_at seat class))
        (took seat (p.ways.mail.mail e)) (p.ways.mail.mail e) t (took_less seat (p.ways.mail.mail e) t);
    names = λ e t is. put_names p.mails seat (task_fetched class next) none e t;
  }
  fetched class (BoxAt.Next e) next none = changes_task p.ways.mail.mail p.mails seat (task_fetched class next) none
  fetched class (BoxAt.Settle e rest) next none =
      changes_task p.ways.mail.mail p.mails seat (task_fetched class next) none
  fetched class (BoxAt.Join e rest JoinAt.Take) next none =
      changes p.ways.mail.mail e Mail.Rest p.mails seat (task_fetched class next) tt none
  fetched class (BoxAt.Join e rest (JoinAt.Walk first at count)) next none =
      changes_task p.ways.mail.mail p.mails seat (task_fetched class next) none
  fetched class (BoxAt.Join e rest (JoinAt.Tie first last count)) next none =
      changes_task p.ways.mail.mail p.mails seat (task_fetched class next) none

  -- where the step at a mailbox leads
  abbrev leads : ℕ → BoxAt → Option ℕ → BoxNext
  leads class at head = box_learn at (found p.pool.mem (fetch_action seat class at head))

  fetching : (class : ℕ) (at : BoxAt) → p.mails seat ≡ Task.Fetching class at → NamesNone (p.mails seat)
  fetching class at is = none_by (p.mails seat) (Task.Fetching class at) is (λ e names. names)

  pub posts_keep : (later : Post) → PostGood k p → (step : PostStep k seat p later) → IsAtPost k seat p later step
      → PostKept p later
  posts_keep later good (PostStep.pushes call at is) own =
      pushed call (post_learn at (found p.pool.mem (post_course call at)))
      (post_none (p.tasks seat) (p.mails seat) call at
      (subst (TiesFit (p.tasks seat) (p.mails seat)) is (good.ties seat)))
  posts_keep later good (PostStep.mails e at is) own =
      mailed e (mail_learn at (found p.pool.mem (mail_course (mail_of e) at)))
      (none_by (p.mails seat) (Task.Mailing e at) is (λ e names. names))
  posts_keep later good (PostStep.takes_box class head is) own =
      fetched class BoxAt.Take (leads class BoxAt.Take head) (fetching class BoxAt.Take is)
  posts_keep later good (PostStep.reads_next class e head is) own =
      fetched class (BoxAt.Next e) (leads class (BoxAt.Next e) head) (fetching class (BoxAt.Next e) is)
  posts_keep later good (PostStep.settles class e rest head is) own =
      fetched class (BoxAt.Settle e rest) (leads class (BoxAt.Settle e rest) head)
      (fetching class (BoxAt.Settle e rest) is)
  posts_keep later good (PostStep.takes_list class e rest is) own =
      fetched class (BoxAt.Join e rest JoinAt.Take)
      (leads class (BoxAt.Join e rest JoinAt.Take) (p.pool.locals.book.heads e))
      (fetching class (BoxAt.Join e rest JoinAt.Take) is)
  posts_keep later good (PostStep.walks class e rest first at count is) own =
      fetched class (BoxAt.Join e rest (JoinAt.Walk first at count))
      (leads class (BoxAt.Join e rest (JoinAt.Walk first at count)) (p.pool.locals.book.heads e))
      (fetching class (BoxAt.Join e rest (JoinAt.Walk first at count)) is)
  posts_keep later good (PostStep.ties class e rest first last count is) own =
      fetched class (BoxAt.Join e rest (JoinAt.Tie first last count))
      (leads class (BoxAt.Join e rest (JoinAt.Tie first last count)) (p.pool.locals.book.heads e))
      (fetching class (BoxAt.Join e rest (JoinAt.Tie first last count)) is)
  posts_keep later good (PostStep.takes_orphans class is) own = record {
    less = λ e t. cond_less (ltb 0 (tally e (p.ways.left class))) (Mail.Adopted seat) (p.ways.mail.mail e) t
        (λ is. absurd (cc));
    names = λ e t is names. names;
  }
  posts_keep later good (PostStep.adopts class e header rest is) own = same p.ways.mail.mail p.mails
  posts_keep later good (PostStep.leaves e at is won) own = changes_mail p.ways.mail.mail e Mail.Left p.mails tt
  posts_keep later good (PostStep.returns class e at is won) own =
      changes_mail p.ways.mail.mail e Mail.Left p.mails tt
  posts_keep later good (PostStep.together now pool' orphans stay here) own = absurd own
