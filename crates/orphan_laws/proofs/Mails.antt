-- Each other step of mail, and each step on another word, leaves orphans as they were.
use Rattle.std.proofs.Common.{◌≡◌, ◌≢◌, ℕ, ◌+◌, ◌^◌, ◌<◌, Bool, true, false, cond, eqb, Option, Some}
use Rattle.std.proofs.Common.{refl, sym, ap, subst, arith}
use Rattle.pool_types.specs.Sums.{capped}
use Rattle.pool_words.specs.declared.words.Key.{Key}
use Rattle.pool_words.specs.declared.words.Word.{Word}
use Rattle.pool_words.specs.declared.actions.Action.{Action}
use Rattle.pool_words.specs.declared.actions.Action.TheVariants.{Load, Store, Swap, Exchange, Add}
use Rattle.pool_words.specs.declared.actions.Action.TheVariants.{TakeOffice, GiveOffice, Nothing}
use Rattle.pool_words.specs.Words.{kind_of_word, number, marks, publics, nexts, mailboxes, mailbox_at, owns, headers}
use Rattle.pool_words.specs.Words.{orphans}
use Rattle.word_codes.specs.declared.nexts.Next.{Next}
use Rattle.word_codes.specs.declared.publics.Public.{Public}
use Rattle.word_codes.specs.Links.{link_of, link_word}
use Rattle.word_codes.specs.Marks.{mark_of, private_link, public_link}
use Rattle.word_codes.specs.Nexts.{next_of, next_word, mail_key_of, next_link_of}
use Rattle.word_codes.specs.Publics.{public_of, public_word}
use Rattle.chain_words.specs.declared.pushing.PushAt.{PushAt}
use Rattle.chain_words.specs.declared.pushing.PushNext.{PushNext}
use Rattle.public_list.specs.declared.joining.JoinAt.{JoinAt}
use Rattle.public_list.specs.declared.joining.JoinNext.{JoinNext}
use Rattle.public_list.specs.declared.posting.PostCall.{PostCall}
use Rattle.public_list.specs.declared.posting.PostAt.{PostAt}
use Rattle.public_list.specs.Posting.{post_course, post_learn, post_by, posted}
use Rattle.public_list.specs.Joining.{join_taken, join_walked}
use Rattle.mailbox.specs.declared.mailing.MailAt.{MailAt}
use Rattle.mailbox.specs.declared.mailing.MailNext.{MailNext}
use Rattle.mailbox.specs.declared.boxes.BoxAt.{BoxAt}
use Rattle.mailbox.specs.Mailing.{mail_course, mail_learn, mailed}
use Rattle.mailbox.specs.Boxes.{box_course, box_learn, box_taken, box_joined}
use Rattle.word_laws.specs.Memory.{Mem, put, stored, after, found}
use Rattle.slab_laws.specs.Books.{Keeper, IsThere}
use Rattle.slab_laws.proofs.CallerLemmas.{each}
use Rattle.mail_laws.specs.Mail as mailing
use Rattle.mail_laws.specs.Mail.{Mail, key_by, box_of, TaskFits, FetchFits, MailGood}
use Rattle.mail_laws.specs.Steps as moving
use Rattle.mail_laws.specs.Steps.{with_mail, shadow_posted, posted_as, home_of, shadow_mailed, mailed_as, took}
use Rattle.mail_laws.specs.Steps.{box_taken_by}
use Rattle.mail_laws.specs.Steps.{shadow_fetched, fetch_on, task_fetched, box_by, mail_of, IsOtherAction, MailStep}
use Rattle.mail_laws.proofs.CallerLemmas.{null_is_rest, fetched-his, steps_keep_mail}
use Rattle.orphan_laws.specs.Orphans.{Shadow, Locals, core_in, mail_core, mail_locals, OrphansGood}
use Rattle.orphan_laws.specs.Steps.{with_mails, IsNotOn, IsAside}
use Rattle.orphan_laws.proofs.Words.{stored-apart, after-apart}
use Rattle.orphan_laws.proofs.Asides.{IsMoved, IsHeld, Beside, beside_keeps, stored-else}

-- the ways of slabs that are not moved change
record Ways (g h : ℕ → Mail) : Type 0 where
  way : (e : ℕ) → IsHeld (g e) → h e ≡ g e
  back : (e : ℕ) → IsMoved (h e) → h e ≡ g e

ways_same : (g : ℕ → Mail) → Ways g g
ways_same g = record { way = λ e _. refl; back = λ e _. refl }

ways_put : (g : ℕ → Mail) (e : ℕ) (old now : Mail) → g e ≡ old → (IsHeld old → ⊥) → (IsMoved now → ⊥)
    → Ways g (put g e now)
ways_put g e old now is none new = record {
  way = each (λ x q. IsHeld (g x) → q ≡ g x) g e now (λ x _ _. refl) (λ held. absurd (none (subst IsHeld is held)));
  back = each (λ x q. IsMoved q → q ≡ g x) g e now (λ x _ _. refl) (λ moved. absurd (new moved));
}

took_held : (t : ℕ) (m : Mail) → IsHeld m → took t m ≡ m
took_held t Mail.Absent held = refl
took_held t (Mail.Begun o) held = refl
took_held t Mail.Rest held = refl
took_held t (Mail.Owed o) held = refl
took_held t Mail.Boxed held = absurd held
took_held t (Mail.Taken o) held = refl
took_held t (Mail.Leaving o) held = refl
took_held t Mail.Left held = refl
took_held t (Mail.Adopted o) held = refl

took_moved : (t : ℕ) (m : Mail) → IsMoved (took t m) → took t m ≡ m
took_moved t Mail.Absent moved = refl
took_moved t (Mail.Begun o) moved = refl
took_moved t Mail.Rest moved = refl
took_moved t (Mail.Owed o) moved = refl
took_moved t Mail.Boxed moved = absurd moved
took_moved t (Mail.Taken o) moved = refl
took_moved t (Mail.Leaving o) moved = refl
took_moved t Mail.Left moved = refl
took_moved t (Mail.Adopted o) moved = refl

ways_took : (l : mailing.Locals) (t b : ℕ) (g : ℕ → Mail) → Ways g (box_taken_by l t b g)
ways_took l t b g = record {
  way = λ e. by e (λ q. IsHeld (g e) → q ≡ g e) (took_held t (g e)) (λ _. refl);
  back = λ e. by e (λ q. IsMoved q → q ≡ g e) (took_moved t (g e)) (λ _. refl);
}
  where
    by : (e : ℕ) (P : Mail → Type 0) → P (took t (g e)) → P (g e) → P (box_taken_by l t b g e)
    by e P here there = elim (eqb (home_of l e) b) as (λ c. P (cond c (took t (g e)) (g e)))
        [ true ↦ here | false ↦ there ]

-- what is stored on a word that orphans do not read
beside_none : (g h : mailing.Shadow) (m : Mem) (keeper : ℕ → Keeper) → Ways g.mail h.mail → Beside g m keeper h m keeper
beside_none g h m keeper ways = record {
  own = refl;
  header = refl;
  chain = refl;
  way = ways.way;
  back = ways.back;
  next = λ e _. refl;
  keeps = λ e _. refl;
  kept = λ e _. refl;
}

beside_stored : (k : Key) (g h : mailing.Shadow) (m : Mem) (w : Word) (v : ℕ) (keeper : ℕ → Keeper)
    → number (kind_of_word w) ≢ number owns → number (kind_of_word w) ≢ number headers
    → number (kind_of_word w) ≢ number orphans
    → ((e : ℕ) → IsMoved (g.mail e) → stored k m w v nexts e ≡ m nexts e) → Ways g.mail h.mail
    → Beside g m keeper h (stored k m w v) keeper
beside_stored k g h m w v keeper a b c next ways = record {
  own = stored-apart k m w v owns a;
  header = stored-apart k m w v headers b;
  chain = stored-apart k m w v orphans c;
  way = ways.way;
  back = ways.back;
  next = next;
  keeps = λ e _. refl;
  kept = λ e _. refl;
}

beside_mark : (k : Key) (g h : mailing.Shadow) (m : Mem) (u v : ℕ) (keeper : ℕ → Keeper) → Ways g.mail h.mail
    → Beside g m keeper h (stored k m (Word.Mark u) v) keeper
beside_mark k g h m u v keeper ways = beside_stored k g h m (Word.Mark u) v keeper (λ z. omega arith) (λ z. omega arith)
    (λ z. omega arith) (λ e _. ap (λ (f : ℕ → ℕ). f e) (stored-apart k m (Word.Mark u) v nexts (λ z. omega arith))) ways

beside_public : (k : Key) (g h : mailing.Shadow) (m : Mem) (x v : ℕ) (keeper : ℕ → Keeper) → Ways g.mail h.mail
    → Beside g m keeper h (stored k m (Word.Public x) v) keeper
beside_public k g h m x v keeper ways = beside_stored k g h m (Word.Public x) v keeper (λ z. omega arith)
    (λ z. omega arith) (λ z. omega arith)
    (λ e _. ap (λ (f : ℕ → ℕ). f e) (stored-apart k m (Word.Public x) v nexts (λ z. omega arith))) ways

beside_box : (k : Key) (g h : mailing.Shadow) (m : Mem) (seat class v : ℕ) (keeper : ℕ → Keeper) → Ways g.mail h.mail
    → Beside g m keeper h (stored k m (Word.Mailbox seat class) v) keeper
beside_box k g h m seat class v keeper ways = beside_stored k g h m (Word.Mailbox seat class) v keeper
    (λ z. omega arith) (λ z. omega arith) (λ z. omega arith)
    (λ e _. ap (λ (f : ℕ → ℕ). f e) (stored-apart k m (Word.Mailbox seat class) v nexts (λ z. omega arith))) ways

-- the next word of a slab that is not moved
beside_next : (k : Key) (g h : mailing.Shadow) (m : Mem) (x v : ℕ) (keeper : ℕ → Keeper) (old : Mail) → g.mail x ≡ old
    → (IsMoved old → ⊥) → Ways g.mail h.mail → Beside g m keeper h (stored k m (Word.Next x) v) keeper
beside_next k g h m x v keeper old is none ways = beside_stored k g h m (Word.Next x) v keeper (λ z. omega arith)
    (λ z. omega arith) (λ z. omega arith)
    (λ e moved. stored-else k m (Word.Next x) v nexts e
    (λ same. none (subst IsMoved is (subst (λ y. IsMoved (g.mail y)) (sym same) moved)))) ways

-- P1 to P4
posts-aside : (k : Key) (g : Shadow) (m : Mem) (l : Locals) (t : ℕ) (c : PostCall) (at : PostAt)
    → (l.mails t ≡ mailing.Task.Away) → IsThere (l.book.keeper c.slab) → c.unit < 2 ^ 61
    → OrphansGood k g (core_in m l)
    → OrphansGood k (record g { mail = shadow_posted t c (post_learn at (found m (post_course c at))) g.mail })
    (core_in (after k m (post_course c at))
    (with_mails (posted_as t c (post_learn at (found m (post_course c at))) (mail_locals l)) l))
posts-aside k g m l t c (PostAt.Push PushAt.Look) is there low good = good
posts-aside k g m l t c (PostAt.Push (PushAt.Link word)) is there low good =
    beside_keeps k g m l g.mail (stored k m (Word.Mark c.unit) (public_link
    (public_of word))) l.book.keeper l.mails good
    (steps_keep_mail k g.mail m (mail_locals l) g.mail (stored k m (Word.Mark c.unit) (public_link (public_of word)))
    (mail_locals l) good.mail (MailStep.posts t c (PostAt.Push (PushAt.Link word)) is there low))
    (beside_mark k g.mail g.mail m c.unit (public_link (public_of word)) l.book.keeper (ways_same g.mail.mail))
posts-aside k g m l t c (PostAt.Push (PushAt.Exchange word)) is there low good =
    by (eqb (m publics c.slab) word) (public_of (m publics c.slab)) refl
    (steps_keep_mail k g.mail m (mail_locals l)
    (shadow_posted t c (post_learn (PostAt.Push (PushAt.Exchange word)) (m publics c.slab)) g.mail)
    (after k m (post_course c (PostAt.Push (PushAt.Exchange word))))
    (posted_as t c (post_learn (PostAt.Push (PushAt.Exchange word)) (m publics c.slab)) (mail_locals l)) good.mail
    (MailStep.posts t c (PostAt.Push (PushAt.Exchange word)) is there low))
  where
    v : ℕ
    v = public_word (Public.Filled c.unit)

    by : (b : Bool) (p : Public) → public_of (m publics c.slab) ≡ p
        → MailGood k (shadow_posted t c (post_by (cond b (PushNext.Pushed (m publics c.slab))
        (PushNext.Goes (PushAt.Link (m publics c.slab))))) g.mail)
        (mailing.core_in (cond b (stored k m (Word.Public c.slab) (public_word (Public.Filled c.unit))) m)
        (posted_as t c (post_by (cond b (PushNext.Pushed (m publics c.slab))
        (PushNext.Goes (PushAt.Link (m publics c.slab))))) (mail_locals l)))
        → OrphansGood k (record g {
          mail = shadow_posted t c (post_by (cond b (PushNext.Pushed (m publics c.slab))
              (PushNext.Goes (PushAt.Link (m publics c.slab))))) g.mail;
        })
        (core_in (cond b (stored k m (Word.Public c.slab) (public_word (Public.Filled c.unit))) m)
        (with_mails (posted_as t c (post_by (cond b (PushNext.Pushed (m publics c.slab))
        (PushNext.Goes (PushAt.Link (m publics c.slab))))) (mail_locals l)) l))
    by false p at mail = good
    by true p at mail = filled (public_of (m publics c.slab)) refl mail
      where
        filled : (p : Public) → public_of (m publics c.slab) ≡ p
            → MailGood k (shadow_posted t c (posted p) g.mail)
            (mailing.core_in (stored k m (Word.Public c.slab) (public_word (Public.Filled c.unit)))
            (posted_as t c (posted p) (mail_locals l)))
            → OrphansGood k (record g { mail = shadow_posted t c (posted p) g.mail })
            (core_in (stored k m (Word.Public c.slab) (public_word (Public.Filled c.unit)))
            (with_mails (posted_as t c (posted p) (mail_locals l)) l))
        filled Public.Null at mail =
            beside_keeps k g m l (with_mail c.slab (Mail.Owed t) g.mail)
            (stored k m (Word.Public c.slab) (public_word (Public.Filled c.unit))) l.book.keeper
            (put l.mails t (mailing.Task.Mailing c.slab MailAt.Next)) good mail
            (beside_public k g.mail (with_mail c.slab (Mail.Owed t) g.mail) m c.slab (public_word
            (Public.Filled c.unit))
            l.book.keeper (ways_put g.mail.mail c.slab Mail.Rest (Mail.Owed t)
            (null_is_rest (g.mail.mail c.slab) (l.book.keeper c.slab) (l.book.classes c.slab)
            (public_of (m publics c.slab)) (next_of (m nexts c.slab)) (good.mail.words c.slab) at there)
            (λ z. z) (λ z. z)))
        filled Public.Unusable at mail =
            beside_keeps k g m l g.mail (stored k m (Word.Public c.slab) (public_word (Public.Filled c.unit)))
            l.book.keeper l.mails good mail
            (beside_public k g.mail g.mail m c.slab (public_word (Public.Filled c.unit)) l.book.keeper
            (ways_same g.mail.mail))
        filled (Public.Filled u) at mail =
            beside_keeps k g m l g.mail (stored k m (Word.Public c.slab) (public_word (Public.Filled c.unit)))
            l.book.keeper l.mails good mail
            (beside_public k g.mail g.mail m c.slab (public_word (Public.Filled c.unit)) l.book.keeper
            (ways_same g.mail.mail))

-- N1 to N4
mails-aside : (k : Key) (g : Shadow) (m : Mem) (l : Locals) (t e : ℕ) (at : MailAt) → l.mails t
    ≡ mailing.Task.Mailing e at
    → OrphansGood k g (core_in m l)
    → OrphansGood k (record g {
      mail = shadow_mailed (mail_locals l) e (mail_learn at (found m (mail_course (mail_of e) at))) g.mail;
    })
    (core_in (after k m (mail_course (mail_of e) at))
    (with_mails (mailed_as t e (mail_learn at (found m (mail_course (mail_of e) at))) (mail_locals l)) l))
mails-aside k g m l t e at is good = by at is
    (steps_keep_mail k g.mail m (mail_locals l)
    (shadow_mailed (mail_locals l) e (mail_learn at (found m (mail_course (mail_of e) at))) g.mail)
    (after k m (mail_course (mail_of e) at))
    (mailed_as t e (mail_learn at (found m (mail_course (mail_of e) at))) (mail_locals l)) good.mail
    (MailStep.mails t e at is))
  where
    owed : (at : MailAt) → l.mails t ≡ mailing.Task.Mailing e at → g.mail.mail e ≡ Mail.Owed t
    owed at is = (subst (TaskFits k g.mail (mail_core (core_in m l)) t) is (good.mail.tasks' t)).0

    by : (at : MailAt) → l.mails t ≡ mailing.Task.Mailing e at
        → MailGood k (shadow_mailed (mail_locals l) e (mail_learn at (found m (mail_course (mail_of e) at))) g.mail)
        (mailing.core_in (after k m (mail_course (mail_of e) at))
        (mailed_as t e (mail_learn at (found m (mail_course (mail_of e) at))) (mail_locals l)))
        → OrphansGood k (record g {
          mail = shadow_mailed (mail_locals l) e (mail_learn at (found m (mail_course (mail_of e) at))) g.mail;
        })
        (core_in (after k m (mail_course (mail_of e) at))
        (with_mails (mailed_as t e (mail_learn at (found m (mail_course (mail_of e) at))) (mail_locals l)) l))
    by MailAt.Next is mail = beside_keeps k g m l g.mail m l.book.keeper
        (put l.mails t (mailing.Task.Mailing e (MailAt.Push (mail_key_of (next_of (m nexts e))) PushAt.Look))) good mail
        (beside_none g.mail g.mail m l.book.keeper (ways_same g.mail.mail))
    by (MailAt.Push key PushAt.Look) is mail = beside_keeps k g m l g.mail m l.book.keeper
        (put l.mails t (mailing.Task.Mailing e
        (MailAt.Push key (PushAt.Link (m mailboxes (mailbox_at key.seat key.class)))))) good mail
        (beside_none g.mail g.mail m l.book.keeper (ways_same g.mail.mail))
    by (MailAt.Push key (PushAt.Link word)) is mail =
        beside_keeps k g m l g.mail (stored k m (Word.Next e) (next_word (Next.Link (link_of word)))) l.book.keeper
        (put l.mails t (mailing.Task.Mailing e (MailAt.Push key (PushAt.Exchange word)))) good mail
        (beside_next k g.mail g.mail m e (next_word (Next.Link (link_of word))) l.book.keeper (Mail.Owed t)
        (owed (MailAt.Push key (PushAt.Link word)) is) (λ z. z) (ways_same g.mail.mail))
    by (MailAt.Push key (PushAt.Exchange word)) is mail =
        won (eqb (m mailboxes (mailbox_at key.seat key.class)) word) mail
      where
        won : (b : Bool) → MailGood k (shadow_mailed (mail_locals l) e (mailed key (cond b
            (PushNext.Pushed (m mailboxes (mailbox_at key.seat key.class)))
            (PushNext.Goes (PushAt.Link (m mailboxes (mailbox_at key.seat key.class)))))) g.mail)
            (mailing.core_in (cond b (stored k m (Word.Mailbox key.seat key.class) (link_word (Some e))) m)
            (mailed_as t e (mailed key (cond b (PushNext.Pushed (m mailboxes (mailbox_at key.seat key.class)))
            (PushNext.Goes (PushAt.Link (m mailboxes (mailbox_at key.seat key.class)))))) (mail_locals l)))
            → OrphansGood k (record g {
              mail = shadow_mailed (mail_locals l) e (mailed key (cond b
                  (PushNext.Pushed (m mailboxes (mailbox_at key.seat key.class)))
                  (PushNext.Goes (PushAt.Link (m mailboxes (mailbox_at key.seat key.class)))))) g.mail;
            })
            (core_in (cond b (stored k m (Word.Mailbox key.seat key.class) (link_word (Some e))) m)
            (with_mails (mailed_as t e (mailed key (cond b
            (PushNext.Pushed (m mailboxes (mailbox_at key.seat key.class)))
            (PushNext.Goes (PushAt.Link (m mailboxes (mailbox_at key.seat key.class)))))) (mail_locals l)) l))
        won true mail =
            beside_keeps k g m l (shadow_mailed (mail_locals l) e MailNext.Mailed g.mail)
            (stored k m (Word.Mailbox key.seat key.class) (link_word (Some e))) l.book.keeper
            (put l.mails t mailing.Task.Away) good mail
            (beside_box k g.mail (shadow_mailed (mail_locals l) e MailNext.Mailed g.mail) m key.seat key.class
            (link_word (Some e)) l.book.keeper (ways_put g.mail.mail e (Mail.Owed t) Mail.Boxed
            (owed (MailAt.Push key (PushAt.Exchange word)) is) (λ z. z) (λ z. z)))
        won false mail = beside_keeps k g m l g.mail m l.book.keeper
            (put l.mails t (mailing.Task.Mailing e
            (MailAt.Push key (PushAt.Link (m mailboxes (mailbox_at key.seat key.class)))))) good mail
            (beside_none g.mail g.mail m l.book.keeper (ways_same g.mail.mail))

-- N5 to N7, P5, M1, M8
fetches-aside : (k : Key) (g : Shadow) (m : Mem) (l : Locals) (t class : ℕ) (head : Option ℕ) (at : BoxAt)
    → l.mails t ≡ mailing.Task.Fetching class at → OrphansGood k g (core_in m l)
    → OrphansGood k (record g { mail = shadow_fetched (mail_locals l) t class at g.mail })
    (core_in (after k m (box_course (box_by t class head) at))
    (with_mails (moving.with_task t (task_fetched class (box_learn at (found m (box_course (box_by t class head) at))))
    (mail_locals l)) l))
fetches-aside k g m l t class head at is good = by at is
    (steps_keep_mail k g.mail m (mail_locals l) (shadow_fetched (mail_locals l) t class at g.mail)
    (after k m (box_course (box_by t class head) at))
    (moving.with_task t (task_fetched class (box_learn at (found m (box_course (box_by t class head) at))))
    (mail_locals l))
    good.mail (MailStep.fetches t class head at is))
  where
    fits : (at : BoxAt) → l.mails t ≡ mailing.Task.Fetching class at
        → FetchFits k g.mail (mail_core (core_in m l)) t class at
    fits at is = subst (TaskFits k g.mail (mail_core (core_in m l)) t) is (good.mail.tasks' t)

    by : (at : BoxAt) → l.mails t ≡ mailing.Task.Fetching class at
        → MailGood k (shadow_fetched (mail_locals l) t class at g.mail)
        (mailing.core_in (after k m (box_course (box_by t class head) at))
        (moving.with_task t (task_fetched class (box_learn at (found m (box_course (box_by t class head) at))))
        (mail_locals l)))
        → OrphansGood k (record g { mail = shadow_fetched (mail_locals l) t class at g.mail })
        (core_in (after k m (box_course (box_by t class head) at))
        (with_mails (moving.with_task t (task_fetched class (box_learn at (found m (box_course
        (box_by t class head) at))))
        (mail_locals l)) l))
    by BoxAt.Take is mail =
        beside_keeps k g m l (shadow_fetched (mail_locals l) t class BoxAt.Take g.mail)
        (stored k m (Word.Mailbox t class) 0) l.book.keeper
        (put l.mails t (task_fetched class (box_taken (link_of (m mailboxes (mailbox_at t class)))))) good mail
        (beside_box k g.mail (shadow_fetched (mail_locals l) t class BoxAt.Take g.mail) m t class 0 l.book.keeper
        (ways_took (mail_locals l) t (mailbox_at t class) g.mail.mail))
    by (BoxAt.Next e) is mail = beside_keeps k g m l g.mail m l.book.keeper
        (put l.mails t (mailing.Task.Fetching class (BoxAt.Settle e (next_link_of (next_of (m nexts e)))))) good mail
        (beside_none g.mail g.mail m l.book.keeper (ways_same g.mail.mail))
    by (BoxAt.Settle e rest) is mail =
        let at' = (fits (BoxAt.Settle e rest) is).at' in
        beside_keeps k g m l g.mail (stored k m (Word.Next e) (next_word (Next.Mailbox (key_by t class)))) l.book.keeper
        (put l.mails t (mailing.Task.Fetching class (BoxAt.Join e rest JoinAt.Take))) good mail
        (beside_next k g.mail g.mail m e (next_word (Next.Mailbox (key_by t class))) l.book.keeper (Mail.Taken t)
        (fetched-his k g.mail (mail_core (core_in m l)) t e at'.0 at'.1 good.mail) (λ z. z) (ways_same g.mail.mail))
    by (BoxAt.Join e rest JoinAt.Take) is mail =
        let at' = (fits (BoxAt.Join e rest JoinAt.Take) is).at' in
        beside_keeps k g m l (shadow_fetched (mail_locals l) t class (BoxAt.Join e rest JoinAt.Take) g.mail)
        (stored k m (Word.Public e) (public_word Public.Null)) l.book.keeper
        (put l.mails t (task_fetched class (box_joined e rest (join_taken (public_of (m publics e)))))) good mail
        (beside_public k g.mail (shadow_fetched (mail_locals l) t class (BoxAt.Join e rest JoinAt.Take) g.mail) m e
        (public_word Public.Null) l.book.keeper (ways_put g.mail.mail e (Mail.Taken t) Mail.Rest
        (fetched-his k g.mail (mail_core (core_in m l)) t e at'.0 at'.1 good.mail) (λ z. z) (λ z. z)))
    by (BoxAt.Join e rest (JoinAt.Walk first now count)) is mail = beside_keeps k g m l g.mail m l.book.keeper
        (put l.mails t (task_fetched class (box_joined e rest
        (join_walked first now (capped (count + 1)) (mark_of (m marks now)))))) good mail
        (beside_none g.mail g.mail m l.book.keeper (ways_same g.mail.mail))
    by (BoxAt.Join e rest (JoinAt.Tie first last count)) is mail =
        beside_keeps k g m l g.mail (stored k m (Word.Mark last) (private_link head)) l.book.keeper
        (put l.mails t (task_fetched class (box_joined e rest (JoinNext.Joined first count)))) good mail
        (beside_mark k g.mail g.mail m last (private_link head) l.book.keeper (ways_same g.mail.mail))

not_next : (action : Action) → IsOtherAction action → IsNotOn nexts action
not_next (Load w) other = tt
not_next (Store w v) other = other.no_next
not_next (Swap w v) other = other.no_next
not_next (Exchange w from to) other = other.no_next
not_next (Add w v) other = other.no_next
not_next (TakeOffice job) other = tt
not_next GiveOffice other = tt
not_next Nothing other = tt

-- each of them
pub asides-as : (k : Key) (g : Shadow) (m : Mem) (l : Locals) (h : mailing.Shadow) (m' : Mem) (ml : mailing.Locals)
    → OrphansGood k g (core_in m l) → (step : MailStep k g.mail m (mail_locals l) h m' ml) → IsAside step
    → OrphansGood k (record g { mail = h }) (core_in m' (with_mails ml l))
asides-as k g m l h m' ml good (MailStep.posts t c at is there low) aside = posts-aside k g m l t c at is there low good
asides-as k g m l h m' ml good (MailStep.mails t e at is) aside = mails-aside k g m l t e at is good
asides-as k g m l h m' ml good (MailStep.fetches t class head at is) aside = fetches-aside k g m l t class head at is
    good
asides-as k g m l h m' ml good (MailStep.fetch_begins t class is low few) aside =
    beside_keeps k g m l g.mail m l.book.keeper (put l.mails t (mailing.Task.Fetching class BoxAt.Take)) good
    (steps_keep_mail k g.mail m (mail_locals l) g.mail m
    (moving.with_task t (mailing.Task.Fetching class BoxAt.Take) (mail_locals l)) good.mail
    (MailStep.fetch_begins t class is low few))
    (beside_none g.mail g.mail m l.book.keeper (ways_same g.mail.mail))
asides-as k g m l h m' ml good (MailStep.begins t e class is absent low few inside) aside =
    beside_keeps k g m l (with_mail e (Mail.Begun t) g.mail) m l.book.keeper
    (put l.mails t (mailing.Task.Beginning e class)) good
    (steps_keep_mail k g.mail m (mail_locals l) (with_mail e (Mail.Begun t) g.mail) m
    (moving.with_task t (mailing.Task.Beginning e class) (mail_locals l)) good.mail
    (MailStep.begins t e class is absent low few inside))
    (beside_none g.mail (with_mail e (Mail.Begun t) g.mail) m l.book.keeper
    (ways_put g.mail.mail e Mail.Absent (Mail.Begun t) absent (λ z. z) (λ z. z)))
asides-as k g m l h m' ml good (MailStep.settles t e class is) aside =
    beside_keeps k g m l g.mail (stored k m (Word.Next e) (next_word (Next.Mailbox (key_by t class)))) l.book.keeper
    (put l.mails t (mailing.Task.Settled e class)) good
    (steps_keep_mail k g.mail m (mail_locals l) g.mail
    (stored k m (Word.Next e) (next_word (Next.Mailbox (key_by t class))))
    (moving.with_task t (mailing.Task.Settled e class) (mail_locals l)) good.mail (MailStep.settles t e class is))
    (beside_next k g.mail g.mail m e (next_word (Next.Mailbox (key_by t class))) l.book.keeper (Mail.Begun t)
    (subst (TaskFits k g.mail (mail_core (core_in m l)) t) is (good.mail.tasks' t)).begun (λ z. z)
    (ways_same g.mail.mail))
asides-as k g m l h m' ml good (MailStep.clears t e class is) aside =
    beside_keeps k g m l g.mail (stored k m (Word.Public e) (public_word Public.Null)) l.book.keeper l.mails good
    (steps_keep_mail k g.mail m (mail_locals l) g.mail (stored k m (Word.Public e) (public_word Public.Null))
    (mail_locals l) good.mail (MailStep.clears t e class is))
    (beside_public k g.mail g.mail m e (public_word Public.Null) l.book.keeper (ways_same g.mail.mail))
asides-as k g m l h m' ml good (MailStep.slab_begins t e class is) aside = absurd aside
asides-as k g m l h m' ml good (MailStep.slab_ends t e by null) aside = absurd aside
asides-as k g m l h m' ml good (MailStep.cached e keeper none now) aside =
    beside_keeps k g m l g.mail m (put l.book.keeper e keeper) l.mails good
    (steps_keep_mail k g.mail m (mail_locals l) g.mail m (record (mail_locals l) {
      keeper = put l.book.keeper e keeper;
    })
    good.mail (MailStep.cached e keeper none now))
    (record {
      own = refl;
      header = refl;
      chain = refl;
      way = λ x _. refl;
      back = λ x _. refl;
      next = λ x _. refl;
      keeps = each (λ x q. IsThere (l.book.keeper x) → q ≡ l.book.keeper x) l.book.keeper e keeper (λ x _ _. refl)
          (λ there. absurd (none there));
      kept = each (λ x q. IsThere q → q ≡ l.book.keeper x) l.book.keeper e keeper (λ x _ _. refl)
          (λ there. absurd (now there));
    })
asides-as k g m l h m' ml good (MailStep.closes t e by) aside = absurd aside
asides-as k g m l h m' ml good (MailStep.links t e value moves) aside = absurd aside
asides-as k g m l h m' ml good (MailStep.leaves t e is) aside = absurd aside
asides-as k g m l h m' ml good (MailStep.goes_back t e is by) aside = absurd aside
asides-as k g m l h m' ml good (MailStep.comes t chain left) aside = absurd aside
asides-as k g m l h m' ml good (MailStep.adopts t e is by low few) aside = absurd aside
asides-as k g m l h m' ml good (MailStep.takes_adopted t e is by home) aside = absurd aside
asides-as k g m l h m' ml good (MailStep.others action other) aside =
    beside_keeps k g m l g.mail (after k m action) l.book.keeper l.mails good
    (steps_keep_mail k g.mail m (mail_locals l) g.mail (after k m action) (mail_locals l) good.mail
    (MailStep.others action other))
    (record {
      own = after-apart k m action owns aside.no_own;
      header = after-apart k m action headers aside.no_header;
      chain = after-apart k m action orphans aside.no_orphans;
      way = λ x _. refl;
      back = λ x _. refl;
      next = λ x _. ap (λ (f : ℕ → ℕ). f x) (after-apart k m action nexts (not_next action other));
      keeps = λ x _. refl;
      kept = λ x _. refl;
    })
