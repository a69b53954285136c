-- An object in hand is listed, and its slab is mailed.
use Rattle.std.proofs.Common.{◌≡◌, ℕ, refl, sym, subst}
use Rattle.pool_words.specs.declared.words.Key.{Key}
use Rattle.chain_words.specs.declared.pushing.PushAt.{PushAt}
use Rattle.public_list.specs.declared.posting.PostAt.{PostAt}
use Rattle.public_list.specs.declared.posting.PostCall.{PostCall}
use Rattle.public_list.specs.declared.posting.PostNext.{PostNext}
use Rattle.public_list.specs.Posting.{post_course, post_learn}
use Rattle.mailbox.specs.declared.mailing.MailAt.{MailAt}
use Rattle.mailbox.specs.declared.mailing.MailNext.{MailNext}
use Rattle.mailbox.specs.Mailing.{mail_course, mail_learn}
use Rattle.word_laws.specs.Memory.{Mem, put, after, found}
use Rattle.word_laws.proofs.CallerLemmas.{put-same, put-other}
use Rattle.object_laws.specs.Objects as objects
use Rattle.object_laws.specs.Objects.Task.{Away, Posting}
use Rattle.object_laws.specs.Steps.{ObjectStep}
use Rattle.mail_laws.specs.Mail as mailing
use Rattle.mail_laws.specs.Steps as moves
use Rattle.mail_laws.specs.Steps.{mail_of, MailStep}
use Rattle.orphan_laws.specs.Orphans.{Task, core_in, OrphansGood}
use Rattle.orphan_laws.specs.Steps.{with_mails, OrphanStep}
use Rattle.orphan_laws.proofs.CallerLemmas.{steps_keep_orphans}
use Rattle.use_laws.specs.Steps.{PoolStep}
use Rattle.use_laws.proofs.Keeps.{steps_keep_pool}
use Rattle.post_laws.specs.Posts.{Post, locals_of, TiesFit, PostGood}
use Rattle.post_laws.specs.After.{mails_of, post_pushed, post_mailed}
use Rattle.post_laws.specs.Steps.{OthersStay}
use Rattle.post_laws.specs.Laws.{MayPush}
use Rattle.post_laws.proofs.Elsewhere.{IsElsewhere, next_stored, box_exchanged, loaded, elsewhere_keeps}
use Rattle.post_laws.proofs.Premises.{pushing_alone, pushes_find_their_slab}
use Rattle.post_laws.proofs.Ties.{ties_stay, IsAlone, mail_alone}

-- P1 to P4
push_locals : (t : ℕ) (call : PostCall) (next : PostNext) (m : Mem) (p : Post)
    → with_mails (moves.posted_as t call next (mails_of p)) (locals_of p) ≡ locals_of (post_pushed t call next m p)
push_locals t call (PostNext.Goes at) m p = refl
push_locals t call PostNext.Listed m p = refl
push_locals t call PostNext.Owed m p = refl

push_others : (t : ℕ) (call : PostCall) (next : PostNext) (m : Mem) (p : Post)
    → OthersStay t p (post_pushed t call next m p)
push_others t call (PostNext.Goes at) m p = record {
  objects = λ o ne. put-other p.pool.locals.tasks t (Posting call at) o ne;
  mails = λ o ne. refl;
  orphans = λ o ne. refl;
}
push_others t call PostNext.Listed m p = record {
  objects = λ o ne. put-other p.pool.locals.tasks t Away o ne;
  mails = λ o ne. refl;
  orphans = λ o ne. refl;
}
push_others t call PostNext.Owed m p = record {
  objects = λ o ne. put-other p.pool.locals.tasks t Away o ne;
  mails = λ o ne. put-other p.mails t (mailing.Task.Mailing call.slab MailAt.Next) o ne;
  orphans = λ o ne. refl;
}

-- what the acting seat has to do then
pub tie_as : (a : Task) (m : mailing.Task) (o : objects.Task) (m' : mailing.Task) (o' : objects.Task) → a ≡ Task.Away
    → m' ≡ m → o' ≡ o → TiesFit Task.Away m o → TiesFit a m' o'
tie_as a m o m' o' is same same' fits =
    subst (λ x. TiesFit x m' o') (sym is) (subst (λ x. TiesFit Task.Away x o') (sym same)
    (subst (λ x. TiesFit Task.Away m x) (sym same') fits))

push_ties : (t : ℕ) (call : PostCall) (next : PostNext) (m : Mem) (p : Post) → p.tasks t ≡ Task.Away
    → p.mails t ≡ mailing.Task.Away
    → TiesFit (p.tasks t) ((post_pushed t call next m p).mails t) ((post_pushed t call next m p).pool.locals.tasks t)
push_ties t call (PostNext.Goes at) m p alone away =
    tie_as (p.tasks t) mailing.Task.Away (Posting call at) (p.mails t) (put p.pool.locals.tasks t (Posting call at) t)
    alone away (put-same p.pool.locals.tasks t (Posting call at)) tt
push_ties t call PostNext.Listed m p alone away =
    tie_as (p.tasks t) mailing.Task.Away Away (p.mails t) (put p.pool.locals.tasks t Away t) alone away
    (put-same p.pool.locals.tasks t Away) tt
push_ties t call PostNext.Owed m p alone away =
    tie_as (p.tasks t) owing Away (put p.mails t owing t) (put p.pool.locals.tasks t Away t) alone
    (put-same p.mails t owing) (put-same p.pool.locals.tasks t Away) refl
  where
    owing : mailing.Task
    owing = mailing.Task.Mailing call.slab MailAt.Next

pub pushes_keep : (k : Key) (t : ℕ) (p : Post) (call : PostCall) (at : PostAt)
    → p.pool.locals.tasks t ≡ Posting call at → PostGood k p
    → PostGood k (post_pushed t call (post_learn at (found p.pool.mem (post_course call at)))
    (after k p.pool.mem (post_course call at)) p)
pushes_keep k t p call at is good = record {
  pool' = steps_keep_pool k t p.pool later.pool good.pool' (PoolStep.objects later.pool.objects m' later.pool.locals
      (ObjectStep.posts t call at is) tt);
  orphans = subst (λ l. OrphansGood k later.ways (core_in m' l)) (push_locals t call next m' p)
      (steps_keep_orphans k p.ways p.pool.mem (locals_of p) later.ways m'
      (with_mails (moves.posted_as t call next (mails_of p)) (locals_of p)) good.orphans
      (OrphanStep.asides (MailStep.posts t call at may.away may.there may.low) tt));
  ties = ties_stay k p later t good (push_others t call next m' p) (push_ties t call next m' p alone may.away);
}
  where
    next : PostNext
    next = post_learn at (found p.pool.mem (post_course call at))

    m' : Mem
    m' = after k p.pool.mem (post_course call at)

    later : Post
    later = post_pushed t call next m' p

    may : MayPush p t call
    may = pushes_find_their_slab k p t call at good is

    alone : p.tasks t ≡ Task.Away
    alone = pushing_alone (p.tasks t) (p.mails t) call at
        (subst (TiesFit (p.tasks t) (p.mails t)) is (good.ties t))

-- N1 to N4
mail_locals' : (t e : ℕ) (next : MailNext) (m : Mem) (p : Post)
    → with_mails (moves.mailed_as t e next (mails_of p)) (locals_of p) ≡ locals_of (post_mailed t e next m p)
mail_locals' t e (MailNext.Goes at) m p = refl
mail_locals' t e MailNext.Mailed m p = refl

mail_others : (t e : ℕ) (next : MailNext) (m : Mem) (p : Post) → OthersStay t p (post_mailed t e next m p)
mail_others t e (MailNext.Goes at) m p = record {
  objects = λ o ne. refl;
  mails = λ o ne. put-other p.mails t (mailing.Task.Mailing e at) o ne;
  orphans = λ o ne. refl;
}
mail_others t e MailNext.Mailed m p = record {
  objects = λ o ne. refl;
  mails = λ o ne. put-other p.mails t mailing.Task.Away o ne;
  orphans = λ o ne. refl;
}

mail_ties : (t e : ℕ) (next : MailNext) (m : Mem) (p : Post) → p.tasks t ≡ Task.Away
    → p.pool.locals.tasks t ≡ Away
    → TiesFit (p.tasks t) ((post_mailed t e next m p).mails t) (p.pool.locals.tasks t)
mail_ties t e (MailNext.Goes at) m p alone away =
    tie_as (p.tasks t) (mailing.Task.Mailing e at) Away (put p.mails t (mailing.Task.Mailing e at) t)
    (p.pool.locals.tasks t) alone (put-same p.mails t (mailing.Task.Mailing e at)) away refl
mail_ties t e MailNext.Mailed m p alone away =
    tie_as (p.tasks t) mailing.Task.Away Away (put p.mails t mailing.Task.Away t) (p.pool.locals.tasks t) alone
    (put-same p.mails t mailing.Task.Away) away tt

mail_elsewhere : (e : ℕ) (at : MailAt) → IsElsewhere (mail_course (mail_of e) at)
mail_elsewhere e MailAt.Next = loaded _
mail_elsewhere e (MailAt.Push key PushAt.Look) = loaded _
mail_elsewhere e (MailAt.Push key (PushAt.Link word)) = next_stored e _
mail_elsewhere e (MailAt.Push key (PushAt.Exchange word)) = box_exchanged key.seat key.class word _

pub mails_keep : (k : Key) (t : ℕ) (p : Post) (e : ℕ) (at : MailAt) → p.mails t ≡ mailing.Task.Mailing e at
    → PostGood k p
    → PostGood k (post_mailed t e (mail_learn at (found p.pool.mem (mail_course (mail_of e) at)))
    (after k p.pool.mem (mail_course (mail_of e) at)) p)
mails_keep k t p e at is good = record {
  pool' = elsewhere_keeps k p.pool (mail_course (mail_of e) at) (mail_elsewhere e at) good.pool';
  orphans = subst (λ l. OrphansGood k later.ways (core_in m' l)) (mail_locals' t e next m' p)
      (steps_keep_orphans k p.ways p.pool.mem (locals_of p) later.ways m'
      (with_mails (moves.mailed_as t e next (mails_of p)) (locals_of p)) good.orphans
      (OrphanStep.asides (MailStep.mails t e at is) tt));
  ties = ties_stay k p later t good (mail_others t e next m' p) (mail_ties t e next m' p alone.orphan alone.ties);
}
  where
    next : MailNext
    next = mail_learn at (found p.pool.mem (mail_course (mail_of e) at))

    m' : Mem
    m' = after k p.pool.mem (mail_course (mail_of e) at)

    later : Post
    later = post_mailed t e next m' p

    alone : IsAlone (p.tasks t) (mailing.Task.Mailing e at) (p.pool.locals.tasks t)
    alone = mail_alone (p.tasks t) (mailing.Task.Mailing e at) (p.pool.locals.tasks t) (λ z. cc) (λ x z. z)
        (subst (λ q. TiesFit (p.tasks t) q (p.pool.locals.tasks t)) is (good.ties t))
