-- Steps of mail and orphans after which each slab is kept as before.
use Rattle.std.proofs.Common.{◌≡◌, ℕ, Bool, Option, Some, None, refl, sym, subst}
use Rattle.pool_words.specs.declared.words.Key.{Key}
use Rattle.heap_slabs.specs.Rolls.{after_push, newest_of}
use Rattle.mailbox.specs.declared.boxes.BoxAt.{BoxAt}
use Rattle.orphans.specs.declared.adopting.AdoptAt.{AdoptAt}
use Rattle.orphans.specs.declared.adopting.AdoptNext.{AdoptNext}
use Rattle.orphans.specs.declared.leaving.LeaveAt.{LeaveAt}
use Rattle.orphans.specs.declared.leaving.LeaveNext.{LeaveNext}
use Rattle.orphans.specs.Adopting.{adopt_course, adopt_learn}
use Rattle.orphans.specs.Leaving.{leave_course, leave_learn}
use Rattle.word_laws.specs.Memory.{Mem, found, put}
use Rattle.word_laws.proofs.CallerLemmas.{each, put-same}
use Rattle.mail_laws.specs.Mail as mailing
use Rattle.mail_laws.specs.Mail.{Mail}
use Rattle.mail_laws.specs.Steps.{MailStep}
use Rattle.orphan_laws.specs.Orphans.{Locals, Shadow}
use Rattle.orphan_laws.specs.Steps.{OrphanStep, adopt_of, adopted_as, book_adopted, leave_of, left_as, rested_on}
use Rattle.orphan_laws.specs.Steps.{return_of, returned_as, shadow_adopted, shadow_left, shadow_returned, spared_on}
use Rattle.orphan_laws.specs.Steps.{spares_back, sparing}
use Rattle.orphan_laws.specs.Steps.{with_book}
use Rattle.slab_laws.specs.Books.{Keeper, with_keeper}
use Rattle.pool_laws.specs.Steps.{IsNotDealt, IsNotLeft, IsOwnMail, IsOwnOrphan}
use Rattle.pool_laws.specs.Wholes.{Whole}
use Rattle.begun_laws.specs.Begun.{AreNamed, Names}
use Rattle.begun_laws.proofs.Kept.{Kept, NamesNone, away_none, changes_mail, changes_task, kept_named, put_names, same}

-- what a seat does with mail is not changed by what it does with orphans
module _ (seat : ℕ) where
  spared_same : (class : ℕ) (next : Option ℕ) (l : Locals) → (sparing seat class next l).mails ≡ l.mails
  spared_same class (Some e) l = refl
  spared_same class None l = refl

  back_same : (class : ℕ) (l : Locals) → (spares_back seat class l).mails ≡ l.mails
  back_same class l = spared_same class (newest_of (l.spares seat)) l

  on_same : (class : ℕ) (rest : Option ℕ) (l : Locals) → (spared_on seat class rest l).mails ≡ l.mails
  on_same class (Some e) l = refl
  on_same class None l = back_same class l

  adopted_same : (class : ℕ) (next : AdoptNext) (l : Locals) → (adopted_as seat class next l).mails ≡ l.mails
  adopted_same class (AdoptNext.Goes at) l = refl
  adopted_same class AdoptNext.Empty l = refl
  adopted_same class (AdoptNext.Adopted e header rest) l = refl
  adopted_same class (AdoptNext.Spared e rest) l =
      on_same class rest (record l { spares = put l.spares seat (after_push (l.spares seat) e) })

  rested_same : (class : ℕ) (enough : Bool) (rest : Option ℕ) (l : Locals)
      → (rested_on seat class enough rest l).mails ≡ l.mails
  rested_same class enough (Some e) l = refl
  rested_same class enough None l = refl

  returned_same : (class e : ℕ) (next : LeaveNext) (l : Locals) → (returned_as seat class e next l).mails ≡ l.mails
  returned_same class e (LeaveNext.Goes at) l = refl
  returned_same class e LeaveNext.Filled l = back_same class l
  returned_same class e LeaveNext.Left l = back_same class (with_book (with_keeper e Keeper.Orphan l.book) l)

  left_same : (e : ℕ) (next : LeaveNext) (l : Locals) → (left_as seat e next l).mails ≡ l.mails
  left_same e (LeaveNext.Goes at) l = refl
  left_same e LeaveNext.Filled l = refl
  left_same e LeaveNext.Left l = refl

  dealt_same : (class : ℕ) (at : AdoptAt) (g : Shadow) → IsNotDealt at
      → (shadow_adopted seat class at g).mail.mail ≡ g.mail.mail
  dealt_same class AdoptAt.Take g not = absurd not
  dealt_same class (AdoptAt.Header e) g not = refl
  dealt_same class (AdoptAt.Next e header) g not = refl
  dealt_same class (AdoptAt.Settle e header rest) g not = refl
  dealt_same class (AdoptAt.Own e header rest) g not = absurd not
  dealt_same class (AdoptAt.Spare e) g not = refl

  returned_mail : (class e : ℕ) (next : LeaveNext) (g : Shadow) → IsNotLeft next
      → (shadow_returned class e next g).mail.mail ≡ g.mail.mail
  returned_mail class e (LeaveNext.Goes at) g not = refl
  returned_mail class e LeaveNext.Filled g not = refl
  returned_mail class e LeaveNext.Left g not = absurd not

  left_mail : (e : ℕ) (next : LeaveNext) (l : Locals) (g : Shadow) → IsNotLeft next
      → Kept g.mail.mail (shadow_left l seat e next g).mail.mail l.mails l.mails
  left_mail e (LeaveNext.Goes LeaveAt.Close) l g not = same g.mail.mail l.mails
  left_mail e (LeaveNext.Goes LeaveAt.Header) l g not = changes_mail g.mail.mail e (Mail.Leaving seat) l.mails tt
  left_mail e (LeaveNext.Goes LeaveAt.Disown) l g not = same g.mail.mail l.mails
  left_mail e (LeaveNext.Goes (LeaveAt.Push at)) l g not = same g.mail.mail l.mails
  left_mail e LeaveNext.Filled l g not = same g.mail.mail l.mails
  left_mail e LeaveNext.Left l g not = absurd not

same_by : (mail mail' : ℕ → Mail) (tasks tasks' : ℕ → mailing.Task) → mail' ≡ mail → tasks' ≡ tasks
    → AreNamed mail tasks → AreNamed mail' tasks'
same_by mail mail' tasks tasks' one two named =
    subst (λ x. AreNamed x tasks') (sym one) (subst (AreNamed mail) (sym two) named)

-- a slab is to begin, and its seat names it
begins : (mail : ℕ → Mail) (tasks : ℕ → mailing.Task) (seat slab class : ℕ) → NamesNone (tasks seat)
    → AreNamed mail tasks
    → AreNamed (put mail slab (Mail.Begun seat)) (put tasks seat (mailing.Task.Beginning slab class))
begins mail tasks seat slab class none named e t = each
    (λ e one. one ≡ Mail.Begun t → Names (put tasks seat (mailing.Task.Beginning slab class) t) e) mail slab
    (Mail.Begun seat) (λ e ne is. put_names tasks seat (mailing.Task.Beginning slab class) none e t (named e t is))
    (λ is. subst (λ o. Names (put tasks seat (mailing.Task.Beginning slab class) o) slab)
    (let same : seat ≡ t = cc in same)
    (subst (λ task. Names task slab) (sym (put-same tasks seat (mailing.Task.Beginning slab class))) refl)) e

-- its next word is written, and it is named on
settles : (mail : ℕ → Mail) (tasks : ℕ → mailing.Task) (seat slab class : ℕ)
    → tasks seat ≡ mailing.Task.Beginning slab class → AreNamed mail tasks
    → AreNamed mail (put tasks seat (mailing.Task.Settled slab class))
settles mail tasks seat slab class was named e t is = each
    (λ t task. Names (tasks t) e → Names task e) tasks seat (mailing.Task.Settled slab class) (λ t ne names. names)
    (λ names. subst (λ x. Names x e) was names) t (named e t is)

module _ (k : Key) (seat : ℕ) (w : Whole) where
  mails_keep : {g : mailing.Shadow} {m : Mem} {l : mailing.Locals} {h : mailing.Shadow} {m' : Mem}
      {l' : mailing.Locals} → (step : MailStep k g m l h m' l') → IsOwnMail seat w step → AreNamed g.mail l.tasks
      → AreNamed h.mail l'.tasks
  mails_keep (MailStep.posts o call at away there low) own named = absurd own
  mails_keep (MailStep.mails o e at is) own named = absurd own
  mails_keep (MailStep.fetches o class head at is) own named = absurd own
  mails_keep {g} {m} {l} (MailStep.fetch_begins o class is low few) own named =
      kept_named g.mail g.mail l.tasks (put l.tasks o (mailing.Task.Fetching class BoxAt.Take))
      (changes_task g.mail l.tasks o (mailing.Task.Fetching class BoxAt.Take) (away_none (l.tasks o) is)) named
  mails_keep {g} {m} {l} (MailStep.begins o e class is absent low few inside) own named =
      begins g.mail l.tasks o e class (away_none (l.tasks o) is) named
  mails_keep {g} {m} {l} (MailStep.settles o e class is) own named = settles g.mail l.tasks o e class is named
  mails_keep (MailStep.clears o e class is) own named = named
  mails_keep (MailStep.slab_begins o e class is) own named = absurd own
  mails_keep (MailStep.slab_ends o e by null) own named = absurd own
  mails_keep (MailStep.cached e keeper none now) own named = absurd own
  mails_keep (MailStep.closes o e by) own named = absurd own
  mails_keep (MailStep.links o e value moves) own named = absurd own
  mails_keep (MailStep.leaves o e is) own named = absurd own
  mails_keep (MailStep.goes_back o e is by) own named = absurd own
  mails_keep (MailStep.comes o chain left) own named = absurd own
  mails_keep (MailStep.adopts o e is by low few) own named = absurd own
  mails_keep (MailStep.takes_adopted o e is by home) own named = absurd own
  mails_keep (MailStep.others action other) own named = absurd own

  pub orphans_keep : {g : Shadow} {m : Mem} {l : Locals} {h : Shadow} {m' : Mem} {l' : Locals}
      → (step : OrphanStep k g m l h m' l') → IsOwnOrphan seat w step → AreNamed g.mail.mail l.mails
      → AreNamed h.mail.mail l'.mails
  orphans_keep (OrphanStep.leave_begins o e is by) own named = named
  orphans_keep {g} {m} {l} (OrphanStep.leaves o e at is) own named =
      let next = leave_learn at (found m (leave_course (leave_of l e) at)) in
      subst (AreNamed (shadow_left l o e next g).mail.mail) (sym (left_same o e next l))
      (kept_named g.mail.mail (shadow_left l o e next g).mail.mail l.mails l.mails (left_mail o e next l g own.1) named)
  orphans_keep (OrphanStep.take_begins o class is low few) own named = named
  orphans_keep {g} {m} {l} (OrphanStep.adopts o class at is) own named =
      let next = adopt_learn at (found m (adopt_course (adopt_of o class) at)) in
      let now = with_book (book_adopted o class at g l.book) l in
      same_by g.mail.mail (shadow_adopted o class at g).mail.mail l.mails (adopted_as o class next now).mails
      (dealt_same o class at g own.1) (adopted_same o class next now) named
  orphans_keep (OrphanStep.joins o class e rest is) own named = absurd own
  orphans_keep {g} {m} {l} (OrphanStep.goes_on o class rest enough is) own named =
      subst (AreNamed g.mail.mail) (sym (rested_same o class enough rest l)) named
  orphans_keep {g} {m} {l} (OrphanStep.returns o class e at is) own named =
      let next = leave_learn at (found m (leave_course (return_of class e) at)) in
      same_by g.mail.mail (shadow_returned class e next g).mail.mail l.mails (returned_as o class e next l).mails
      (returned_mail o class e next g own.1) (returned_same o class e next l) named
  orphans_keep (OrphanStep.owns_first o e class is settled) own named = named
  orphans_keep (OrphanStep.slab_begins o e class is settled even) own named = absurd own
  orphans_keep (OrphanStep.slab_ends o e by null stays) own named = absurd own
  orphans_keep (OrphanStep.records o e later by stays only) own named = absurd own
  orphans_keep {g} {m} {l} (OrphanStep.asides step aside) own named = mails_keep step own named
