-- Steps of mail and orphans after which each slab is kept as before.
use Rattle.std.proofs.Common.{◌≡◌, ◌≢◌, ℕ, Bool, Option, Some, None, refl, sym, subst, arith}
use Rattle.pool_words.specs.declared.words.Key.{Key}
use Rattle.pool_words.specs.declared.words.Word.{Word}
use Rattle.pool_words.specs.declared.actions.Action.TheVariants.{Store, Swap}
use Rattle.word_codes.specs.declared.nexts.Next.{Next}
use Rattle.word_codes.specs.declared.owns.Own.{Own}
use Rattle.word_codes.specs.declared.publics.Public.{Public}
use Rattle.word_codes.specs.Nexts.{next_of, next_word, next_link_of}
use Rattle.word_codes.specs.Owns.{own_word}
use Rattle.word_codes.specs.Publics.{public_word}
use Rattle.heap_slabs.specs.Rolls.{after_push, newest_of}
use Rattle.chain_words.specs.declared.pushing.PushAt.{PushAt}
use Rattle.mailbox.specs.declared.boxes.BoxAt.{BoxAt}
use Rattle.orphans.specs.declared.adopting.AdoptAt.{AdoptAt}
use Rattle.orphans.specs.declared.leaving.LeaveAt.{LeaveAt}
use Rattle.orphans.specs.declared.leaving.LeaveNext.{LeaveNext}
use Rattle.orphans.specs.Adopting.{adopt_course, adopt_learn}
use Rattle.orphans.specs.Leaving.{leave_course, leave_learn}
use Rattle.word_laws.specs.Memory.{Mem, put, after, found}
use Rattle.slab_laws.specs.Books.{Keeper, IsThere, Book}
use Rattle.object_laws.specs.Objects as objects
use Rattle.object_laws.specs.Objects.Task.{Away}
use Rattle.object_laws.specs.Steps.{ObjectStep}
use Rattle.mail_laws.specs.Mail as mailing
use Rattle.mail_laws.specs.Mail.{key_by}
use Rattle.mail_laws.specs.Steps.{MailStep}
use Rattle.orphan_laws.specs.Orphans as orphaning
use Rattle.orphan_laws.specs.Orphans.{Task, Locals}
use Rattle.orphan_laws.specs.Steps.{adopt_of, leave_of, return_of, sparing, spared_on, left_as, rested_on}
use Rattle.orphan_laws.specs.Steps.{returned_as, with_mails, with_book, book_adopted, adopted_as, OrphanStep}
use Rattle.orphan_laws.specs.Steps.{OrphanRun}
use Rattle.use_laws.specs.Pools.{InHand}
use Rattle.use_laws.specs.After.{with_mem}
use Rattle.use_laws.specs.Steps.{PoolStep}
use Rattle.post_laws.specs.Posts.{locals_of, words_of, MailTies, IsSettled, TiesFit}
use Rattle.post_laws.specs.Steps.{PostStep, PostRun}
use Rattle.pool_laws.specs.Wholes.{Whole, WholeGood, post_of}
use Rattle.pool_laws.specs.Changes.{with_ways}
use Rattle.pool_laws.specs.Moves.{Moves}
use Rattle.pool_laws.specs.Steps.{IsFree, IsNotLeft, IsNotDealt, IsOwnMail, IsOwnOrphan}
use Rattle.pool_laws.proofs.Told.{Tells, Mails, tells_none, tells_use, tells_mail}
use Rattle.pool_laws.proofs.Posted.{push_on}
use Rattle.pool_laws.proofs.Below.{put-same, put-other, mail_alone, orphan_fits_at}

-- what a seat has to do with mail and orphans then, beside what it does with objects; and nobody else has anything new
pub record Turned (o : ℕ) (l l' : Locals) (q : objects.Task) : Type 0 where
  pub same : l'.book ≡ l.book
  pub mails : (s : ℕ) → s ≢ o → l'.mails s ≡ l.mails s
  pub tasks : (s : ℕ) → s ≢ o → l'.tasks s ≡ l.tasks s
  pub ties : TiesFit (l'.tasks o) (l'.mails o) q

-- it has nothing to do with mail or objects
record Rests (o : ℕ) (l : Locals) (q : objects.Task) : Type 0 where
  pub mail : l.mails o ≡ mailing.Task.Away
  pub object : q ≡ Away

task_turn : (o : ℕ) (task : Task) (l : Locals) (q : objects.Task) → TiesFit task (l.mails o) q
    → Turned o l (record l { tasks = put l.tasks o task }) q
task_turn o task l q ties = record {
  same = refl;
  mails = λ s ne. refl;
  tasks = λ s ne. put-other l.tasks o task s ne;
  ties = subst (λ z. TiesFit z (l.mails o) q) (sym (put-same l.tasks o task)) ties;
}

away_ties : (o : ℕ) (l : Locals) (q : objects.Task) → Rests o l q → TiesFit Task.Away (l.mails o) q
away_ties o l q rests = subst (λ z. MailTies z q) (sym rests.mail)
    (subst (λ z. MailTies mailing.Task.Away z) (sym rests.object) tt)

spare_turn : (o class : ℕ) (first : Option ℕ) (l : Locals) (q : objects.Task) → Rests o l q
    → Turned o l (sparing o class first l) q
spare_turn o class (Some e) l q rests = record {
  same = refl;
  mails = λ s ne. refl;
  tasks = λ s ne. put-other l.tasks o (Task.Returning class e (LeaveAt.Push PushAt.Look)) s ne;
  ties = subst (λ z. TiesFit z (l.mails o) q)
      (sym (put-same l.tasks o (Task.Returning class e (LeaveAt.Push PushAt.Look)))) (rests.mail, rests.object);
}
spare_turn o class None l q rests = task_turn o Task.Away l q (away_ties o l q rests)

left_turn : (o e : ℕ) (next : LeaveNext) (l : Locals) (q : objects.Task) → IsNotLeft next → Rests o l q
    → Turned o l (left_as o e next l) q
left_turn o e (LeaveNext.Goes at) l q ok rests = task_turn o (Task.Leaving e at) l q (rests.mail, rests.object)
left_turn o e LeaveNext.Filled l q ok rests = task_turn o Task.Away l q (away_ties o l q rests)
left_turn o e LeaveNext.Left l q ok rests = absurd ok

returned_turn : (o class e : ℕ) (next : LeaveNext) (l : Locals) (q : objects.Task) → IsNotLeft next → Rests o l q
    → Turned o l (returned_as o class e next l) q
returned_turn o class e (LeaveNext.Goes at) l q ok rests =
    task_turn o (Task.Returning class e at) l q (rests.mail, rests.object)
returned_turn o class e LeaveNext.Filled l q ok rests = spare_turn o class (newest_of (l.spares o)) l q rests
returned_turn o class e LeaveNext.Left l q ok rests = absurd ok

rested_turn : (o class : ℕ) (enough : Bool) (rest : Option ℕ) (l : Locals) (q : objects.Task) → Rests o l q
    → Turned o l (rested_on o class enough rest l) q
rested_turn o class enough (Some e) l q rests = task_turn o _ l q (rests.mail, rests.object)
rested_turn o class enough None l q rests = task_turn o Task.Away l q (away_ties o l q rests)

spared_turn : (o class e : ℕ) (rest : Option ℕ) (l : Locals) (q : objects.Task) → Rests o l q
    → Turned o l (spared_on o class rest (record l { spares = put l.spares o (after_push (l.spares o) e) })) q
spared_turn o class e (Some x) l q rests =
    let turn = task_turn o (Task.Adopting class (AdoptAt.Spare x))
    (record l { spares = put l.spares o (after_push (l.spares o) e) }) q (rests.mail, rests.object) in
    record { same = turn.same; mails = turn.mails; tasks = turn.tasks; ties = turn.ties }
spared_turn o class e None l q rests =
    let l2 : Locals = record l { spares = put l.spares o (after_push (l.spares o) e) } in
    let turn = spare_turn o class (newest_of (l2.spares o)) l2 q
    (record { mail = rests.mail; object = rests.object }) in
    record { same = turn.same; mails = turn.mails; tasks = turn.tasks; ties = turn.ties }

-- what it has to do with mail
mail_turn : (o : ℕ) (mail : mailing.Task) (l : Locals) (q : objects.Task) → TiesFit (l.tasks o) mail q
    → Turned o l (record l { mails = put l.mails o mail }) q
mail_turn o mail l q ties = record {
  same = refl;
  mails = λ s ne. put-other l.mails o mail s ne;
  tasks = λ s ne. refl;
  ties = subst (λ z. TiesFit (l.tasks o) z q) (sym (put-same l.mails o mail)) ties;
}

-- with this task with orphans the seat does nothing with mail and objects
resting_at : (k : Key) (o : ℕ) (w : Whole) (task : Task) → w.tasks o ≡ task
    → ((m : mailing.Task) → (q : objects.Task) → TiesFit task m q → (m ≡ mailing.Task.Away) × (q ≡ Away))
    → WholeGood k w → Rests o (locals_of (post_of w)) (w.pool.locals.tasks o)
resting_at k o w task is both good =
    let fits = both (w.mails o) (w.pool.locals.tasks o)
    (subst (λ z. TiesFit z (w.mails o) (w.pool.locals.tasks o)) is (good.post.ties o)) in
    record { mail = fits.0; object = fits.1 }

mail_turned : (k : Key) (t : ℕ) (w : Whole) (h : mailing.Shadow) (m' : Mem) (ml : mailing.Locals)
    → (step : MailStep k w.ways.mail w.pool.mem (orphaning.mail_locals (locals_of (post_of w))) h m' ml)
    → IsOwnMail t w step → WholeGood k w
    → (o : ℕ) × Turned o (locals_of (post_of w)) (with_mails ml (locals_of (post_of w))) (w.pool.locals.tasks o)
mail_turned k t w h m' ml (MailStep.posts o call at away there low) own good = absurd own
mail_turned k t w h m' ml (MailStep.mails o e at is) own good = absurd own
mail_turned k t w h m' ml (MailStep.fetches o class head at is) own good = absurd own
mail_turned k t w h m' ml (MailStep.fetch_begins o class is low few) own good = (
  o,
  mail_turn o (mailing.Task.Fetching class BoxAt.Take) (locals_of (post_of w)) (w.pool.locals.tasks o)
      (subst (λ z. TiesFit z (mailing.Task.Fetching class BoxAt.Take) (w.pool.locals.tasks o)) (sym own.2) own.1),
)
mail_turned k t w h m' ml (MailStep.begins o e class is absent low few inside) own good = (
  o,
  mail_turn o (mailing.Task.Beginning e class) (locals_of (post_of w)) (w.pool.locals.tasks o)
      (subst (λ z. TiesFit z (mailing.Task.Beginning e class) (w.pool.locals.tasks o)) (sym own.2) own.1),
)
mail_turned k t w h m' ml (MailStep.settles o e class is) own good =
    let alone = mail_alone (w.tasks o) (mailing.Task.Beginning e class) (w.pool.locals.tasks o) (λ z. cc) (λ x z. z)
    (subst (λ z. TiesFit (w.tasks o) z (w.pool.locals.tasks o)) is (good.post.ties o)) in (
      o,
      mail_turn o (mailing.Task.Settled e class) (locals_of (post_of w)) (w.pool.locals.tasks o)
          (subst (λ z. TiesFit z (mailing.Task.Settled e class) (w.pool.locals.tasks o)) (sym alone.orphan) alone.ties),
    )
mail_turned k t w h m' ml (MailStep.clears o e class is) own good = (
  o,
  record {
    same = refl;
    mails = λ s ne. refl;
    tasks = λ s ne. refl;
    ties = good.post.ties o;
  },
)
mail_turned k t w h m' ml (MailStep.slab_begins o e class is) own good = absurd own
mail_turned k t w h m' ml (MailStep.slab_ends o e by null) own good = absurd own
mail_turned k t w h m' ml (MailStep.cached e keeper none now) own good = absurd own
mail_turned k t w h m' ml (MailStep.closes o e by) own good = absurd own
mail_turned k t w h m' ml (MailStep.links o e value moves) own good = absurd own
mail_turned k t w h m' ml (MailStep.leaves o e is) own good = absurd own
mail_turned k t w h m' ml (MailStep.goes_back o e is by) own good = absurd own
mail_turned k t w h m' ml (MailStep.comes o chain left) own good = absurd own
mail_turned k t w h m' ml (MailStep.adopts o e is by low few) own good = absurd own
mail_turned k t w h m' ml (MailStep.takes_adopted o e is by home) own good = absurd own
mail_turned k t w h m' ml (MailStep.others action other) own good = absurd own

both_first : (m : mailing.Task) (q : objects.Task) → (m ≡ mailing.Task.Away) × (q ≡ Away)
    → (m ≡ mailing.Task.Away) × (q ≡ Away)
both_first m q is = is

adopt_turned : (o class : ℕ) (at : AdoptAt) (f : ℕ) (g : orphaning.Shadow) (l : Locals) (q : objects.Task)
    → IsNotDealt at → Rests o l q
    → Turned o l (adopted_as o class (adopt_learn at f) (with_book (book_adopted o class at g l.book) l)) q
adopt_turned o class AdoptAt.Take f g l q ok rests = absurd ok
adopt_turned o class (AdoptAt.Header e) f g l q ok rests =
    task_turn o (Task.Adopting class (AdoptAt.Next e f)) l q (rests.mail, rests.object)
adopt_turned o class (AdoptAt.Next e header) f g l q ok rests =
    task_turn o (Task.Adopting class (AdoptAt.Settle e header (next_link_of (next_of f)))) l q
    (rests.mail, rests.object)
adopt_turned o class (AdoptAt.Settle e header rest) f g l q ok rests =
    task_turn o (Task.Adopting class (AdoptAt.Own e header rest)) l q (rests.mail, rests.object)
adopt_turned o class (AdoptAt.Own e header rest) f g l q ok rests = absurd ok
adopt_turned o class (AdoptAt.Spare e) f g l q ok rests = spared_turn o class e (next_link_of (next_of f)) l q rests

orphan_turned : (k : Key) (t : ℕ) (w : Whole) (h : orphaning.Shadow) (m' : Mem) (l' : Locals)
    → (step : OrphanStep k w.ways w.pool.mem (locals_of (post_of w)) h m' l') → IsOwnOrphan t w step → WholeGood k w
    → (o : ℕ) × Turned o (locals_of (post_of w)) l' (w.pool.locals.tasks o)
orphan_turned k t w h m' l' (OrphanStep.leave_begins o e is by) own good =
    (o, task_turn o (Task.Leaving e LeaveAt.Close) (locals_of (post_of w)) (w.pool.locals.tasks o) (own.2, own.1))
orphan_turned k t w h m' l' (OrphanStep.leaves o e at is) own good =
    let l = locals_of (post_of w) in (
      o,
      left_turn o e (leave_learn at (found w.pool.mem (leave_course (leave_of l e) at))) l
          (w.pool.locals.tasks o) own.1 (resting_at k o w (Task.Leaving e at) is both_first good),
    )
orphan_turned k t w h m' l' (OrphanStep.take_begins o class is low few) own good = (
  o,
  task_turn o (Task.Adopting class AdoptAt.Take) (locals_of (post_of w)) (w.pool.locals.tasks o)
      (own.2, own.1),
)
orphan_turned k t w h m' l' (OrphanStep.adopts o class at is) own good = (
  o,
  adopt_turned o class at (found w.pool.mem (adopt_course (adopt_of o class) at)) w.ways
      (locals_of (post_of w)) (w.pool.locals.tasks o) own.1
      (resting_at k o w (Task.Adopting class at) is both_first good),
)
orphan_turned k t w h m' l' (OrphanStep.joins o class e rest is) own good = absurd own
orphan_turned k t w h m' l' (OrphanStep.goes_on o class rest enough is) own good = (
  o,
  rested_turn o class enough rest (locals_of (post_of w)) (w.pool.locals.tasks o) (record {
    mail = (subst (λ z. TiesFit z (w.mails o) (w.pool.locals.tasks o)) is (good.post.ties o)).0;
    object = own.1;
  }),
)
orphan_turned k t w h m' l' (OrphanStep.returns o class e at is) own good =
    let l = locals_of (post_of w) in (
      o,
      returned_turn o class e (leave_learn at (found w.pool.mem (leave_course (return_of class e) at))) l
          (w.pool.locals.tasks o) own.1 (resting_at k o w (Task.Returning class e at) is both_first good),
    )
orphan_turned k t w h m' l' (OrphanStep.owns_first o e class is settled) own good =
    let ties = subst (λ z. TiesFit z (w.mails o) (w.pool.locals.tasks o)) is (good.post.ties o) in (
      o,
      task_turn o (Task.Owning e) (locals_of (post_of w)) (w.pool.locals.tasks o) (
        subst (λ z. IsSettled e z) (sym settled) refl,
        subst (λ z. MailTies z (w.pool.locals.tasks o)) settled ties,
      ),
    )
orphan_turned k t w h m' l' (OrphanStep.slab_begins o e class is settled even) own good = absurd own
orphan_turned k t w h m' l' (OrphanStep.slab_ends o e by null stays) own good = absurd own
orphan_turned k t w h m' l' (OrphanStep.records o e later by stays only) own good = absurd own
orphan_turned k t w h m' l' (OrphanStep.asides {h = hm} {ml = ml} step aside) own good =
    mail_turned k t w hm m' ml step own good

-- the pool's words then
leave_tells : (k : Key) (t o : ℕ) (w : Whole) (e : ℕ) (at : LeaveAt) → o ≡ t → w.tasks o ≡ Task.Leaving e at
    → IsFree w t → WholeGood k w
    → Tells k t w (with_mem (after k w.pool.mem (leave_course (leave_of (locals_of (post_of w)) e) at)) w.pool)
leave_tells k t o w e LeaveAt.Close mine is free good =
    let by = (orphan_fits_at k w.ways (words_of (post_of w)) o (Task.Leaving e LeaveAt.Close) is
    good.post.orphans).1 in
    let action = leave_course (leave_of (locals_of (post_of w)) e) LeaveAt.Close in
    tells_use k t w w.pool (with_mem (after k w.pool.mem action) w.pool)
    (PoolStep.objects w.pool.objects (after k w.pool.mem action) w.pool.locals
    (ObjectStep.closes e (good.post.orphans.mail.places.inside e (subst IsThere (sym by) tt))) tt) tt tt tt free action
    (omega arith, omega arith) refl (tells_none k t w)
leave_tells k t o w e LeaveAt.Header mine is free good =
    let by = (orphan_fits_at k w.ways (words_of (post_of w)) o (Task.Leaving e LeaveAt.Header) is
    good.post.orphans).1 in
    let action = leave_course (leave_of (locals_of (post_of w)) e) LeaveAt.Header in
    tells_use k t w w.pool (with_mem (after k w.pool.mem action) w.pool)
    (PoolStep.stores_header e (subst (λ s. w.pool.locals.book.keeper e ≡ Keeper.By s) mine by)) tt tt tt free action
    (omega arith, omega arith) refl (tells_none k t w)
leave_tells k t o w e LeaveAt.Disown mine is free good =
    tells_mail k t w w.pool (leave_course (leave_of (locals_of (post_of w)) e) LeaveAt.Disown) free
    (Mails.own (omega arith, omega arith)) (tells_none k t w)
leave_tells k t o w e (LeaveAt.Push at) mine is free good =
    tells_mail k t w w.pool (leave_course (leave_of (locals_of (post_of w)) e) (LeaveAt.Push at)) free
    (push_on (leave_of (locals_of (post_of w)) e) at) (tells_none k t w)

return_tells : (k : Key) (t o : ℕ) (w : Whole) (class e : ℕ) (at : LeaveAt) → w.tasks o ≡ Task.Returning class e at
    → IsFree w t → WholeGood k w
    → Tells k t w (with_mem (after k w.pool.mem (leave_course (return_of class e) at)) w.pool)
return_tells k t o w class e LeaveAt.Close is free good =
    absurd (orphan_fits_at k w.ways (words_of (post_of w)) o (Task.Returning class e LeaveAt.Close) is
    good.post.orphans).2
return_tells k t o w class e LeaveAt.Header is free good =
    absurd (orphan_fits_at k w.ways (words_of (post_of w)) o (Task.Returning class e LeaveAt.Header) is
    good.post.orphans).2
return_tells k t o w class e LeaveAt.Disown is free good =
    absurd (orphan_fits_at k w.ways (words_of (post_of w)) o (Task.Returning class e LeaveAt.Disown) is
    good.post.orphans).2
return_tells k t o w class e (LeaveAt.Push at) is free good =
    tells_mail k t w w.pool (leave_course (return_of class e) (LeaveAt.Push at)) free (push_on (return_of class e) at)
    (tells_none k t w)

adopt_on : (o class : ℕ) (at : AdoptAt) → Mails (adopt_course (adopt_of o class) at)
adopt_on o class AdoptAt.Take = Mails.box (omega arith, omega arith)
adopt_on o class (AdoptAt.Header e) = Mails.box tt
adopt_on o class (AdoptAt.Next e header) = Mails.box tt
adopt_on o class (AdoptAt.Settle e header rest) = Mails.next (omega arith, omega arith)
adopt_on o class (AdoptAt.Own e header rest) = Mails.own (omega arith, omega arith)
adopt_on o class (AdoptAt.Spare e) = Mails.box tt

mail_tells : (k : Key) (t : ℕ) (w : Whole) (h : mailing.Shadow) (m' : Mem) (ml : mailing.Locals)
    → (step : MailStep k w.ways.mail w.pool.mem (orphaning.mail_locals (locals_of (post_of w))) h m' ml)
    → IsOwnMail t w step → IsFree w t → Tells k t w (with_mem m' w.pool)
mail_tells k t w h m' ml (MailStep.posts o call at away there low) own free = absurd own
mail_tells k t w h m' ml (MailStep.mails o e at is) own free = absurd own
mail_tells k t w h m' ml (MailStep.fetches o class head at is) own free = absurd own
mail_tells k t w h m' ml (MailStep.fetch_begins o class is low few) own free = tells_none k t w
mail_tells k t w h m' ml (MailStep.begins o e class is absent low few inside) own free = tells_none k t w
mail_tells k t w h m' ml (MailStep.settles o e class is) own free =
    tells_mail k t w w.pool (Store (Word.Next e) (next_word (Next.Mailbox (key_by o class)))) free
    (Mails.next (omega arith, omega arith)) (tells_none k t w)
mail_tells k t w h m' ml (MailStep.clears o e class is) own free =
    let action = Swap (Word.Public e) (public_word Public.Null) in
    tells_use k t w w.pool (with_mem (after k w.pool.mem action) w.pool)
    (PoolStep.clears e own.1.0 own.1.1 (subst (λ s. InHand w.pool s e own.1.0 own.1.1) own.0 own.1.2)) tt tt tt free
    action (omega arith, omega arith) refl (tells_none k t w)
mail_tells k t w h m' ml (MailStep.slab_begins o e class is) own free = absurd own
mail_tells k t w h m' ml (MailStep.slab_ends o e by null) own free = absurd own
mail_tells k t w h m' ml (MailStep.cached e keeper none now) own free = absurd own
mail_tells k t w h m' ml (MailStep.closes o e by) own free = absurd own
mail_tells k t w h m' ml (MailStep.links o e value moves) own free = absurd own
mail_tells k t w h m' ml (MailStep.leaves o e is) own free = absurd own
mail_tells k t w h m' ml (MailStep.goes_back o e is by) own free = absurd own
mail_tells k t w h m' ml (MailStep.comes o chain left) own free = absurd own
mail_tells k t w h m' ml (MailStep.adopts o e is by low few) own free = absurd own
mail_tells k t w h m' ml (MailStep.takes_adopted o e is by home) own free = absurd own
mail_tells k t w h m' ml (MailStep.others action other) own free = absurd own

orphan_tells : (k : Key) (t : ℕ) (w : Whole) (h : orphaning.Shadow) (m' : Mem) (l' : Locals)
    → (step : OrphanStep k w.ways w.pool.mem (locals_of (post_of w)) h m' l') → IsOwnOrphan t w step → IsFree w t
    → WholeGood k w → Tells k t w (with_mem m' w.pool)
orphan_tells k t w h m' l' (OrphanStep.leave_begins o e is by) own free good = tells_none k t w
orphan_tells k t w h m' l' (OrphanStep.leaves o e at is) own free good = leave_tells k t o w e at own.0 is free good
orphan_tells k t w h m' l' (OrphanStep.take_begins o class is low few) own free good = tells_none k t w
orphan_tells k t w h m' l' (OrphanStep.adopts o class at is) own free good =
    tells_mail k t w w.pool (adopt_course (adopt_of o class) at) free (adopt_on o class at) (tells_none k t w)
orphan_tells k t w h m' l' (OrphanStep.joins o class e rest is) own free good = absurd own
orphan_tells k t w h m' l' (OrphanStep.goes_on o class rest enough is) own free good = tells_none k t w
orphan_tells k t w h m' l' (OrphanStep.returns o class e at is) own free good =
    return_tells k t o w class e at is free good
orphan_tells k t w h m' l' (OrphanStep.owns_first o e class is settled) own free good =
    tells_mail k t w w.pool (Store (Word.Own e) (own_word (Own.Kept o))) free (Mails.own (omega arith, omega arith))
    (tells_none k t w)
orphan_tells k t w h m' l' (OrphanStep.slab_begins o e class is settled even) own free good = absurd own
orphan_tells k t w h m' l' (OrphanStep.slab_ends o e by null stays) own free good = absurd own
orphan_tells k t w h m' l' (OrphanStep.records o e later by stays only) own free good = absurd own
orphan_tells k t w h m' l' (OrphanStep.asides {h = hm} {ml = ml} step aside) own free good =
    mail_tells k t w hm m' ml step own free

pub orphans_move : (k : Key) (t : ℕ) (w : Whole) (h : orphaning.Shadow) (m' : Mem) (l' : Locals)
    → (step : OrphanStep k w.ways w.pool.mem (locals_of (post_of w)) h m' l') → IsOwnOrphan t w step → IsFree w t
    → WholeGood k w → Moves k w (with_ways h m' l' w)
orphans_move k t w h m' l' step own free good =
    let both = orphan_turned k t w h m' l' step own good in
    let turn = both.1 in
    let tells = orphan_tells k t w h m' l' step own free good in
    record {
      shelf = tells.shelf;
      regions = tells.regions;
      free = tells.free;
      post = PostRun.steps PostRun.starts both.0 (PostStep.together (post_of (with_ways h m' l' w)) tells.run
          (subst (λ (b : Book). OrphanRun k w.ways w.pool.mem (locals_of (post_of w)) h m'
          (record { book = b; mails = l'.mails; tasks = l'.tasks; spares = l'.spares })) turn.same
          (OrphanRun.steps OrphanRun.starts step))
          (record { objects = λ s ne. refl; mails = turn.mails; orphans = turn.tasks }) turn.ties);
    }
