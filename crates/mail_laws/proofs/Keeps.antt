-- Each step, and so each run, keeps what holds of mail.
use Rattle.std.proofs.Common.{◌≡◌, ◌≢◌, ◌⊎◌, inl, inr, ℕ, zero, suc, ◌+◌, ◌*◌, ◌/◌, ◌%◌, ◌^◌, ◌<◌, ◌≤◌, Bool, true, false, cond, eqb, Option}
use Rattle.std.proofs.Common.{Some, None, List, [], ◌∷◌, refl, sym, ap, subst, arith, ◌∙◌}
use Rattle.std.proofs.lemmas.Bool.Decides.{nat_tests}
use Rattle.std.proofs.lemmas.Bool.{eqb-true, eqb-false}
use Rattle.pool_types.specs.Geometry.{class_count}
use Rattle.pool_words.specs.declared.words.Key.{Key}
use Rattle.pool_words.specs.declared.words.Word.{Word}
use Rattle.pool_words.specs.declared.actions.Action.TheVariants.{Store}
use Rattle.pool_words.specs.Words.{mailbox_at, marks, publics, nexts, mailboxes}
use Rattle.std.specs.Prelude.{⊤}
use Rattle.pool_types.specs.Sums.{capped}
use Rattle.word_codes.specs.declared.marks.Mark.{Mark}
use Rattle.word_codes.specs.declared.nexts.MailKey.{MailKey}
use Rattle.word_codes.specs.declared.nexts.Next.{Next}
use Rattle.word_codes.specs.declared.publics.Public.{Public}
use Rattle.word_codes.specs.Marks.{mark_of, public_link, private_link}
use Rattle.word_codes.specs.Links.{link_of, link_word}
use Rattle.word_codes.specs.Nexts.{next_of, next_word, mail_key_of, next_link_of, FitsNextLink}
use Rattle.word_codes.specs.Publics.{public_of, public_word}
use Rattle.word_codes.proofs.CallerLemmas.{nexts_read_back}
use Rattle.chain_words.specs.declared.pushing.PushAt.{PushAt}
use Rattle.chain_words.specs.declared.pushing.PushNext.{PushNext}
use Rattle.public_list.specs.declared.joining.JoinAt.{JoinAt}
use Rattle.public_list.specs.declared.joining.JoinNext.{JoinNext}
use Rattle.public_list.specs.declared.posting.PostCall.{PostCall}
use Rattle.public_list.specs.declared.posting.PostAt.{PostAt}
use Rattle.public_list.specs.declared.posting.PostNext.{PostNext}
use Rattle.public_list.specs.Posting.{post_course, post_learn, post_by, posted}
use Rattle.public_list.specs.Joining.{join_learn, join_taken, join_walked}
use Rattle.mailbox.specs.declared.mailing.MailAt.{MailAt}
use Rattle.mailbox.specs.declared.mailing.MailNext.{MailNext}
use Rattle.mailbox.specs.declared.boxes.BoxAt.{BoxAt}
use Rattle.mailbox.specs.declared.boxes.BoxNext.{BoxNext}
use Rattle.mailbox.specs.Mailing.{mail_course, mail_learn, mailed}
use Rattle.mailbox.specs.Boxes.{box_course, box_learn, box_taken, box_joined}
use Rattle.word_laws.specs.Memory.{Mem, put, stored, after, found}
use Rattle.word_laws.proofs.CallerLemmas.{equal_or, less_or}
use Rattle.chain_laws.specs.Chains.{Link, IsChain, tally}
use Rattle.chain_laws.specs.Chains.Link.{To, Ends}
use Rattle.chain_laws.proofs.CallerLemmas.{tally-here}
use Rattle.slab_laws.specs.Books.{Keeper, IsThere}
use Rattle.slab_laws.proofs.CallerLemmas.{put-same, put-other, each, both}
use Rattle.mail_laws.specs.Mail.{Mail, Task, Shadow, Locals, Core, core_in, item_link, next_link, links_in, key_by, box_of}
use Rattle.mail_laws.specs.Mail.{IsHome, IsKey, IsKept, IsAdopter, IsFilled, IsNotNull, MailFits, is_boxed, is_taken}
use Rattle.mail_laws.specs.Mail.{AreOf, MailsAt, FetchesAt, FetchFits, BeginFits, TaskFits, IsMailing, MailGood, FetchedOnce}
use Rattle.mail_laws.specs.Steps.{with_task, with_mail, shadow_posted, posted_as, home_of, shadow_mailed, mailed_as, took}
use Rattle.mail_laws.specs.Steps.{tail_of, shadow_fetched, fetch_on, task_fetched, box_by, mail_of, IsMoving, close_action}
use Rattle.mail_laws.specs.Steps.{shadow_closed, IsOtherWord, MailStep, MailRun}
use Rattle.mail_laws.specs.Steps.IsMoving.{leaving, adopting}
use Rattle.mail_laws.specs.Steps.MailStep.{posts, mails, fetches, fetch_begins, begins, settles, clears, slab_begins}
use Rattle.mail_laws.specs.Steps.MailStep.{slab_ends, cached, closes, links, leaves, goes_back, comes, adopts}
use Rattle.mail_laws.specs.Steps.MailStep.{takes_adopted, others}
use Rattle.mail_laws.specs.Steps.MailRun.{starts, steps}
use Rattle.mail_laws.specs.Laws.{StepsKeepMail, RunsKeepMail}
use Rattle.mail_laws.proofs.Seats.{Apart, OnlyAt, all_stay, fits_at, duty_at, chain-stays, first-among, rest-among}
use Rattle.mail_laws.proofs.Rows.{in_no_box, null_is_rest, filled_stays, there-kept, home-kept, apart_of, taken-other}
use Rattle.mail_laws.proofs.Rows.{owed_keeps, public_keeps, stand_keeps, next_keeps, link_keeps, keeper_keeps, begun_keeps}
use Rattle.mail_laws.proofs.Rows.{began_keeps, places_at, row_keeps}
use Rattle.mail_laws.proofs.Boxing.{mailed_keeps, took_keeps, rested_keeps, fetched-his, on_fits, come_keeps}
use Rattle.mail_laws.proofs.Words.{public_stored, next_stored, box_stored, null-reads, unusable-reads, filled-reads}
use Rattle.mail_laws.proofs.Words.{home-reads, link-reads, end-reads, others_keep}

kept_there : (m : Mail) (q : Keeper) (c : ℕ) (p : Public) (n : Next) (o : ℕ) → MailFits m q c p n → m ≡ Mail.Owed o
    → IsKept q
kept_there m q c p n o fits is = (subst (λ x. MailFits x q c p n) is fits).0

-- P1 to P4
mark-other : (u : ℕ) → IsOtherWord (Word.Mark u)
mark-other u = record { no_public = λ e. omega arith; no_next = λ e. omega arith; no_mailbox = λ e. omega arith }

not_null : (p : Public) → (p ≡ Public.Null) ⊎ IsNotNull p
not_null Public.Null = inl refl
not_null Public.Unusable = inr tt
not_null (Public.Filled u) = inr tt

posts-as : (k : Key) (g : Shadow) (m : Mem) (l : Locals) (t : ℕ) (c : PostCall) (at : PostAt) → l.tasks t ≡ Task.Away
    → IsThere (l.keeper c.slab) → c.unit < 2 ^ 61 → MailGood k g (core_in m l)
    → MailGood k (shadow_posted t c (post_learn at (found m (post_course c at))) g)
    (core_in (after k m (post_course c at)) (posted_as t c (post_learn at (found m (post_course c at))) l))
posts-as k g m l t c (PostAt.Push PushAt.Look) is there low good = good
posts-as k g m l t c (PostAt.Push (PushAt.Link word)) is there low good =
    others_keep k g m l (Store (Word.Mark c.unit) (public_link (public_of word))) (mark-other c.unit) good
posts-as k g m l t c (PostAt.Push (PushAt.Exchange word)) is there low good = by (eqb (m publics c.slab) word)
  where
    inside : c.slab < k.span
    inside = good.places.inside c.slab there

    filled : (p : Public) → public_of (m publics c.slab) ≡ p
        → MailGood k (shadow_posted t c (posted p) g)
        (core_in (stored k m (Word.Public c.slab) (public_word (Public.Filled c.unit))) (posted_as t c (posted p) l))
    filled Public.Null e = public_stored k (with_mail c.slab (Mail.Owed t) g) m
        (with_task t (Task.Mailing c.slab MailAt.Next) l) c.slab (public_word (Public.Filled c.unit))
        (Public.Filled c.unit) inside (filled-reads c.unit low)
        (owed_keeps k t c.slab (Public.Filled c.unit) g (core_in m l) is e there tt good)
    filled Public.Unusable e = public_stored k g m l c.slab (public_word (Public.Filled c.unit)) (Public.Filled c.unit)
        inside (filled-reads c.unit low)
        (public_keeps k c.slab (Public.Filled c.unit) g (core_in m l)
        (filled_stays (g.mail c.slab) (l.keeper c.slab) (l.classes c.slab) (public_of (m publics c.slab))
        (Public.Filled c.unit) (next_of (m nexts c.slab)) (good.words c.slab) (subst IsNotNull (sym e) tt) tt) good)
    filled (Public.Filled u) e = public_stored k g m l c.slab (public_word (Public.Filled c.unit))
        (Public.Filled c.unit) inside (filled-reads c.unit low)
        (public_keeps k c.slab (Public.Filled c.unit) g (core_in m l)
        (filled_stays (g.mail c.slab) (l.keeper c.slab) (l.classes c.slab) (public_of (m publics c.slab))
        (Public.Filled c.unit) (next_of (m nexts c.slab)) (good.words c.slab) (subst IsNotNull (sym e) tt) tt) good)

    by : (b : Bool) → MailGood k (shadow_posted t c (post_by (cond b (PushNext.Pushed (m publics c.slab))
        (PushNext.Goes (PushAt.Link (m publics c.slab))))) g)
        (core_in (cond b (stored k m (Word.Public c.slab) (public_word (Public.Filled c.unit))) m)
        (posted_as t c (post_by (cond b (PushNext.Pushed (m publics c.slab))
        (PushNext.Goes (PushAt.Link (m publics c.slab))))) l))
    by true = filled (public_of (m publics c.slab)) refl
    by false = good

-- N1 to N4
key-home : (q : Keeper) (c : ℕ) (n : Next) → IsHome q c n → IsKey (mail_key_of n) q c
key-home Keeper.Nobody c n home = home
key-home (Keeper.By o) c n home = ap mail_key_of home
key-home Keeper.Orphan c n home = home
key-home (Keeper.Adopting o) c n home = home
key-home (Keeper.Cached o) c n home = home

-- where a mailbox is, of a key that is the slab's
record Placed (k : Key) (key : MailKey) (q : Keeper) (c : ℕ) : Type 0 where
  pub class' : key.class < class_count
  pub seat' : key.seat < k.seats
  pub at : mailbox_at key.seat key.class ≡ box_of q c

placed : (k : Key) (key : MailKey) (q : Keeper) (c : ℕ)
    → ((o : ℕ) → q ≡ Keeper.By o → (c < class_count) × (o < k.seats)) → IsKey key q c → Placed k key q c
placed k key Keeper.Nobody c kept is = absurd is
placed k key (Keeper.By o) c kept is =
    let p = kept o refl in
    subst (λ (x : MailKey). Placed k x (Keeper.By o) c) (sym is) (record { class' = p.0; seat' = p.1; at = refl })
placed k key Keeper.Orphan c kept is = absurd is
placed k key (Keeper.Adopting o) c kept is = absurd is
placed k key (Keeper.Cached o) c kept is = absurd is

-- what is found in a mailbox is a slab's
box-item : (k : Key) (g : Shadow) (m : Mem) (l : Locals) (b : ℕ) (o : Option ℕ) → link_of (m mailboxes b) ≡ o
    → MailGood k g (core_in m l) → FitsNextLink o
box-item k g m l b None is good = tt
box-item k g m l b (Some x) is good =
    low (g.boxed b) (subst (λ q. IsChain (links_in (core_in m l).nexts) (item_link q) (g.boxed b) 0) is
    (good.box_chains b)) refl
  where
    boxed_low : (y : ℕ) → 0 < tally y (g.boxed b) → y < k.span
    boxed_low y some = inside (g.mail y) refl
      where
        inside : (q : Mail) → g.mail y ≡ q → y < k.span
        inside Mail.Boxed is = good.places.inside y (there-kept (l.keeper y)
            (subst (λ z. MailFits z (l.keeper y) (l.classes y) (public_of (m publics y)) (next_of (m nexts y))) is
            (good.words y)).0)
        inside Mail.Absent is = absurd (let n = good.boxed_once b y in let z = ap is_boxed is in grind (arith, nat_tests))
        inside (Mail.Begun o) is = absurd (let n = good.boxed_once b y in let z = ap is_boxed is in grind (arith, nat_tests))
        inside Mail.Rest is = absurd (let n = good.boxed_once b y in let z = ap is_boxed is in grind (arith, nat_tests))
        inside (Mail.Owed o) is = absurd (let n = good.boxed_once b y in let z = ap is_boxed is in grind (arith, nat_tests))
        inside (Mail.Taken o) is = absurd (let n = good.boxed_once b y in let z = ap is_boxed is in grind (arith, nat_tests))
        inside (Mail.Leaving o) is = absurd (let n = good.boxed_once b y in let z = ap is_boxed is in grind (arith, nat_tests))
        inside Mail.Left is = absurd (let n = good.boxed_once b y in let z = ap is_boxed is in grind (arith, nat_tests))
        inside (Mail.Adopted o) is = absurd (let n = good.boxed_once b y in let z = ap is_boxed is in grind (arith, nat_tests))

    low : (xs : List ℕ) → IsChain (links_in (core_in m l).nexts) (To x) xs 0 → g.boxed b ≡ xs → x + 1 < 2 ^ 63
    low [] chain e = absurd (cc)
    low (y ∷ ys) (first, chain) e =
        let same : x ≡ y = cc in
        let few = boxed_low y (first-among y ys (g.boxed b) e) in
        let span = good.places.span in omega arith

mails-as : (k : Key) (g : Shadow) (m : Mem) (l : Locals) (t e : ℕ) (at : MailAt) → l.tasks t ≡ Task.Mailing e at
    → MailGood k g (core_in m l)
    → MailGood k (shadow_mailed l e (mail_learn at (found m (mail_course (mail_of e) at))) g)
    (core_in (after k m (mail_course (mail_of e) at))
    (mailed_as t e (mail_learn at (found m (mail_course (mail_of e) at))) l))
mails-as k g m l t e MailAt.Next is good =
    let task = fits_at k g (core_in m l) t (Task.Mailing e MailAt.Next) is good in
    let key = mail_key_of (next_of (m nexts e)) in
    stand_keeps k t (Task.Mailing e (MailAt.Push key PushAt.Look)) g (core_in m l) good
    (task.0, task.1, key-home (l.keeper e) (l.classes e) (next_of (m nexts e)) task.2)
    (λ x owed. duty_at k g (core_in m l) t (Task.Mailing e MailAt.Next) is good x owed)
mails-as k g m l t e (MailAt.Push key PushAt.Look) is good =
    let task = fits_at k g (core_in m l) t (Task.Mailing e (MailAt.Push key PushAt.Look)) is good in
    stand_keeps k t (Task.Mailing e (MailAt.Push key (PushAt.Link (m mailboxes (mailbox_at key.seat key.class))))) g
    (core_in m l) good (
      task.0,
      task.1,
      (
        task.2,
        box-item k g m l (mailbox_at key.seat key.class)
            (link_of (m mailboxes (mailbox_at key.seat key.class))) refl good,
      ),
    )
    (λ x owed. duty_at k g (core_in m l) t (Task.Mailing e (MailAt.Push key PushAt.Look)) is good x owed)
mails-as k g m l t e (MailAt.Push key (PushAt.Link word)) is good =
    let task = fits_at k g (core_in m l) t (Task.Mailing e (MailAt.Push key (PushAt.Link word))) is good in
    let next = Next.Link (link_of word) in
    let fits = subst (λ q. MailFits q (l.keeper e) (l.classes e) (public_of (m publics e)) (next_of (m nexts e))) task.0
    (good.words e) in
    next_stored k g m (with_task t (Task.Mailing e (MailAt.Push key (PushAt.Exchange word))) l) e (next_word next) next
    (good.places.inside e (there-kept (l.keeper e) fits.0)) (nexts_read_back next task.2.1)
    (next_keeps k t e next (Task.Mailing e (MailAt.Push key (PushAt.Exchange word))) g (core_in m l)
    (ap is_boxed task.0)
    (subst (λ q. MailFits q (l.keeper e) (l.classes e) (public_of (m publics e)) next) (sym task.0) fits)
    (λ o ne. apart_of g g o e (Mail.Owed t) good.fetched_once task.0
    (λ z. ne (let same : t ≡ o = cc in sym same)) (λ z. cc) refl
    (λ z. ne (let q : Mail.Owed t ≡ Mail.Owed o = sym task.0 ∙ z in let same : t ≡ o = cc in sym same)))
    (task.0, task.1, (task.2.0, put-same (core_in m l).nexts e next))
    (λ x owed. duty_at k g (core_in m l) t (Task.Mailing e (MailAt.Push key (PushAt.Link word))) is good x owed) good)
mails-as k g m l t e (MailAt.Push key (PushAt.Exchange word)) is good =
    by (eqb (m mailboxes (mailbox_at key.seat key.class)) word) refl
  where
    task : TaskFits k g (core_in m l) t (Task.Mailing e (MailAt.Push key (PushAt.Exchange word)))
    task = fits_at k g (core_in m l) t (Task.Mailing e (MailAt.Push key (PushAt.Exchange word))) is good

    place : Placed k key (l.keeper e) (l.classes e)
    place = placed k key (l.keeper e) (l.classes e) (good.places.kept e) task.2.0

    few : e < 2 ^ 32
    few =
        let fits = subst (λ q. MailFits q (l.keeper e) (l.classes e) (public_of (m publics e)) (next_of (m nexts e)))
        task.0 (good.words e) in
        let i = good.places.inside e (there-kept (l.keeper e) fits.0) in let span = good.places.span in omega arith

    by : (b : Bool) → eqb (m mailboxes (mailbox_at key.seat key.class)) word ≡ b
        → MailGood k (shadow_mailed l e (mailed key (cond b
        (PushNext.Pushed (m mailboxes (mailbox_at key.seat key.class)))
        (PushNext.Goes (PushAt.Link (m mailboxes (mailbox_at key.seat key.class)))))) g)
        (core_in (cond b (stored k m (Word.Mailbox key.seat key.class) (link_word (Some e))) m)
        (mailed_as t e (mailed key (cond b (PushNext.Pushed (m mailboxes (mailbox_at key.seat key.class)))
        (PushNext.Goes (PushAt.Link (m mailboxes (mailbox_at key.seat key.class)))))) l))
    by true won =
        box_stored k (shadow_mailed l e MailNext.Mailed g) m (with_task t Task.Away l) key.seat key.class
        (link_word (Some e)) (Some e) place.class' place.seat' (link-reads e few)
        (subst (λ b. MailGood k (record g {
          mail = put g.mail e Mail.Boxed;
          boxed = put g.boxed b (e ∷ g.boxed b);
        }) (record (core_in m l) {
          boxes = put (core_in m l).boxes (mailbox_at key.seat key.class) (Some e);
          tasks = put l.tasks t Task.Away;
        })) place.at
        (mailed_keeps k t e key word (mailbox_at key.seat key.class) g (core_in m l) is place.at
        (ap link_of (eqb-true (m mailboxes (mailbox_at key.seat key.class)) word won)) good))
    by false lost =
        stand_keeps k t (Task.Mailing e (MailAt.Push key (PushAt.Link (m mailboxes (mailbox_at key.seat key.class))))) g
        (core_in m l) good (
          task.0,
          task.1,
          (
            task.2.0,
            box-item k g m l (mailbox_at key.seat key.class)
                (link_of (m mailboxes (mailbox_at key.seat key.class))) refl good,
          ),
        )
        (λ x owed. duty_at k g (core_in m l) t (Task.Mailing e (MailAt.Push key (PushAt.Exchange word))) is good x owed)

-- N5 to N7, P5
taken-task : (class : ℕ) (o : Option ℕ) → task_fetched class (box_taken o) ≡ fetch_on class o
taken-task class (Some e) = refl
taken-task class None = refl

-- the link of a slab that was fetched
pub next-item : (words : ℕ → Next) (n : Next) (ys : List ℕ) → IsChain (links_in words) (next_link n) ys 0
    → IsChain (links_in words) (item_link (next_link_of n)) ys 0
next-item words (Next.Mailbox key) [] chain = absurd (cc)
next-item words (Next.Mailbox key) (y ∷ ys) (first, chain) = absurd (cc)
next-item words (Next.Link item) ys chain = chain

-- a join that has taken the list goes on
abbrev IsGoing : JoinNext → Type 0
IsGoing (JoinNext.Goes JoinAt.Take) = ⊥
IsGoing (JoinNext.Goes (JoinAt.Walk first at count)) = ⊤
IsGoing (JoinNext.Goes (JoinAt.Tie first last count)) = ⊤
IsGoing JoinNext.Nothing = ⊤
IsGoing (JoinNext.Joined first count) = ⊤

-- a fetch goes on with the slabs that it has
abbrev OnFits : Key → Shadow → Core → ℕ → ℕ → Option ℕ → Type 0
OnFits k g s t class rest = (class < class_count) × (t < k.seats) × AreOf class s.classes (g.fetched t)
    × IsChain (links_in s.nexts) (item_link rest) (g.fetched t) 0

joined-fits : (k : Key) (g : Shadow) (s : Core) (t class e : ℕ) (rest : Option ℕ) (j : JoinNext)
    → (IsGoing j) → OnFits k g s t class rest → TaskFits k g s t (task_fetched class (box_joined e rest j))
joined-fits k g s t class e rest (JoinNext.Goes JoinAt.Take) going fits = absurd going
joined-fits k g s t class e rest (JoinNext.Goes (JoinAt.Walk first at count)) going (low, few, of, chain) =
    record { class' = low; seat' = few; of = of; at' = chain }
joined-fits k g s t class e rest (JoinNext.Goes (JoinAt.Tie first last count)) going (low, few, of, chain) =
    record { class' = low; seat' = few; of = of; at' = chain }
joined-fits k g s t class e rest JoinNext.Nothing going (low, few, of, chain) =
    on_fits k g s t class rest low few of chain
joined-fits k g s t class e rest (JoinNext.Joined first count) going (low, few, of, chain) =
    on_fits k g s t class rest low few of chain

no-duty : (class e : ℕ) (rest : Option ℕ) (j : JoinNext) (x : ℕ) → IsMailing (task_fetched class (box_joined e rest j)) x
    → ⊥
no-duty class e rest (JoinNext.Goes at) x is = is
no-duty class e (Some y) JoinNext.Nothing x is = is
no-duty class e None JoinNext.Nothing x is = is
no-duty class e (Some y) (JoinNext.Joined first count) x is = is
no-duty class e None (JoinNext.Joined first count) x is = is

taken-going : (p : Public) → IsGoing (join_taken p)
taken-going Public.Null = tt
taken-going Public.Unusable = tt
taken-going (Public.Filled u) = tt

walked-going : (first at count : ℕ) (mark : Mark) → IsGoing (join_walked first at count mark)
walked-going first at count Mark.Unmarked = tt
walked-going first at count (Mark.Granted gr) = tt
walked-going first at count (Mark.Hand seat) = tt
walked-going first at count (Mark.Link next) = tt
walked-going first at count Mark.End = tt
walked-going first at count Mark.EndUnusable = tt

-- a step of a fetch that changes no mail
goes-on : (k : Key) (g : Shadow) (m : Mem) (l : Locals) (t class e : ℕ) (rest : Option ℕ) (before : Task) (j : JoinNext)
    → l.tasks t ≡ before → ((x : ℕ) → IsMailing before x → ⊥) → IsGoing j → OnFits k g (core_in m l) t class rest
    → MailGood k g (core_in m l) → MailGood k g (core_in m (with_task t (task_fetched class (box_joined e rest j)) l))
goes-on k g m l t class e rest before j is none going fits good =
    stand_keeps k t (task_fetched class (box_joined e rest j)) g (core_in m l) good
    (joined-fits k g (core_in m (with_task t (task_fetched class (box_joined e rest j)) l)) t class e rest j going fits)
    (λ x owed. absurd (none x (duty_at k g (core_in m l) t before is good x owed)))

fetches-as : (k : Key) (g : Shadow) (m : Mem) (l : Locals) (t class : ℕ) (head : Option ℕ) (at : BoxAt)
    → l.tasks t ≡ Task.Fetching class at → MailGood k g (core_in m l)
    → MailGood k (shadow_fetched l t class at g) (core_in (after k m (box_course (box_by t class head) at))
    (with_task t (task_fetched class (box_learn at (found m (box_course (box_by t class head) at)))) l))
fetches-as k g m l t class head BoxAt.Take is good =
    let task = fits_at k g (core_in m l) t (Task.Fetching class BoxAt.Take) is good in
    subst (λ q. MailGood k (shadow_fetched l t class BoxAt.Take g)
    (core_in (stored k m (Word.Mailbox t class) 0) (with_task t q l)))
    (sym (taken-task class (link_of (m mailboxes (mailbox_at t class)))))
    (box_stored k (shadow_fetched l t class BoxAt.Take g) m
    (with_task t (fetch_on class (link_of (m mailboxes (mailbox_at t class)))) l) t class 0 None task.class' task.seat'
    end-reads (took_keeps k t class g (core_in m l) is good))
fetches-as k g m l t class head (BoxAt.Next e) is good =
    let task = fits_at k g (core_in m l) t (Task.Fetching class (BoxAt.Next e)) is good in
    stand_keeps k t (Task.Fetching class (BoxAt.Settle e (next_link_of (next_of (m nexts e))))) g (core_in m l) good
    (record {
      class' = task.class';
      seat' = task.seat';
      of = task.of;
      at' = split (g.fetched t) refl task.at';
    })
    (λ x owed. absurd (duty_at k g (core_in m l) t (Task.Fetching class (BoxAt.Next e)) is good x owed))
  where
    split : (xs : List ℕ) → g.fetched t ≡ xs → IsChain (links_in (core_in m l).nexts) (To e) (g.fetched t) 0
        → FetchesAt (core_in m (with_task t (Task.Fetching class (BoxAt.Settle e (next_link_of (next_of (m nexts e))))) l))
        t class (g.fetched t) (BoxAt.Settle e (next_link_of (next_of (m nexts e))))
    split [] q chain = absurd (let c : To e ≡ Ends 0 =
        subst (λ xs. IsChain (links_in (core_in m l).nexts) (To e) xs 0) q chain in cc)
    split (y ∷ ys) q chain =
        let c = subst (λ xs. IsChain (links_in (core_in m l).nexts) (To e) xs 0) q chain in
        let same : e ≡ y = (let f : To e ≡ To y = c.0 in cc) in (
          ys,
          q ∙ ap (λ z. z ∷ ys) (sym same),
          next-item (core_in m l).nexts (next_of (m nexts e)) ys
              (subst (λ z. IsChain (links_in (core_in m l).nexts) (links_in (core_in m l).nexts z) ys 0) (sym same) c.1),
        )
fetches-as k g m l t class head (BoxAt.Settle e rest) is good =
    let task = fits_at k g (core_in m l) t (Task.Fetching class (BoxAt.Settle e rest)) is good in
    settled task.at'.0 task.at'.1 task.at'.2
  where
    task : FetchFits k g (core_in m l) t class (BoxAt.Settle e rest)
    task = fits_at k g (core_in m l) t (Task.Fetching class (BoxAt.Settle e rest)) is good

    few : t < 64
    few = let f = task.seat' in let most = good.places.seats in omega arith

    settled : (ys : List ℕ) → g.fetched t ≡ e ∷ ys → IsChain (links_in (core_in m l).nexts) (item_link rest) ys 0
        → MailGood k g (core_in (stored k m (Word.Next e) (next_word (Next.Mailbox (key_by t class))))
        (with_task t (Task.Fetching class (BoxAt.Join e rest JoinAt.Take)) l))
    settled ys list chain =
        let taken = fetched-his k g (core_in m l) t e ys list good in
        let fits = subst (λ q. MailFits q (l.keeper e) (l.classes e) (public_of (m publics e)) (next_of (m nexts e))) taken
        (good.words e) in
        let home = Next.Mailbox (key_by t class) in
        let once = good.fetched_once t e in
        let none : tally e ys ≡ 0 = (let n = ap (tally e) list in let h = tally-here e ys in
        let z = ap (is_taken t) taken in grind (arith, nat_tests)) in
        next_stored k g m (with_task t (Task.Fetching class (BoxAt.Join e rest JoinAt.Take)) l) e (next_word home) home
        (good.places.inside e (subst IsThere (sym fits.0) tt)) (home-reads t class few task.class')
        (next_keeps k t e home (Task.Fetching class (BoxAt.Join e rest JoinAt.Take)) g (core_in m l)
        (ap is_boxed taken)
        (subst (λ q. MailFits q (l.keeper e) (l.classes e) (public_of (m publics e)) home) (sym taken) fits)
        (λ o ne. apart_of g g o e (Mail.Taken t) good.fetched_once taken (λ z. cc) (λ z. cc) (taken-other t o ne)
        (λ z. let q : Mail.Taken t ≡ Mail.Owed o = sym taken ∙ z in cc))
        (record {
          class' = task.class';
          seat' = task.seat';
          of = task.of;
          at' = (
            ys,
            list,
            chain-stays (core_in m l) (record (core_in m l) {
              nexts = put (core_in m l).nexts e home;
              tasks = put l.tasks t (Task.Fetching class (BoxAt.Join e rest JoinAt.Take));
            }) (item_link rest) ys ys
                (λ x some. put-other (core_in m l).nexts e home x (λ same. let q = ap (λ z. tally z ys) same in omega arith))
                (λ x some. some) chain,
            put-same (core_in m l).nexts e home,
          );
        })
        (λ x owed. absurd (duty_at k g (core_in m l) t (Task.Fetching class (BoxAt.Settle e rest)) is good x owed)) good)
fetches-as k g m l t class head (BoxAt.Join e rest JoinAt.Take) is good =
    let task = fits_at k g (core_in m l) t (Task.Fetching class (BoxAt.Join e rest JoinAt.Take)) is good in
    rested task.at'.0 task.at'.1 task.at'.2 task.class' task.seat' task.of
  where
    next : Task
    next = task_fetched class (box_joined e rest (join_taken (public_of (m publics e))))

    rested : (ys : List ℕ) → g.fetched t ≡ e ∷ ys → IsChain (links_in (core_in m l).nexts) (item_link rest) ys 0
        → class < class_count → t < k.seats → AreOf class l.classes (g.fetched t)
        → MailGood k (shadow_fetched l t class (BoxAt.Join e rest JoinAt.Take) g)
        (core_in (stored k m (Word.Public e) (public_word Public.Null))
        (with_task t (task_fetched class (box_joined e rest (join_taken (public_of (m publics e))))) l))
    rested ys list chain low few of =
        let taken = fetched-his k g (core_in m l) t e ys list good in
        let fits = subst (λ q. MailFits q (l.keeper e) (l.classes e) (public_of (m publics e)) (next_of (m nexts e))) taken
        (good.words e) in
        let h = shadow_fetched l t class (BoxAt.Join e rest JoinAt.Take) g in
        let tails : put g.fetched t (tail_of (g.fetched t)) t ≡ ys =
        put-same g.fetched t (tail_of (g.fetched t)) ∙ ap tail_of list in
        public_stored k h m
        (with_task t (task_fetched class (box_joined e rest (join_taken (public_of (m publics e))))) l) e
        (public_word Public.Null) Public.Null (good.places.inside e (subst IsThere (sym fits.0) tt)) null-reads
        (rested_keeps k t e class rest
        (task_fetched class (box_joined e rest (join_taken (public_of (m publics e))))) ys g (core_in m l) is list
        (joined-fits k h (record (core_in m l) {
          publics = put (core_in m l).publics e Public.Null;
          tasks = put l.tasks t (task_fetched class (box_joined e rest (join_taken (public_of (m publics e)))));
        }) t class e rest (join_taken (public_of (m publics e))) (taken-going (public_of (m publics e))) (
          low,
          few,
          subst (AreOf class l.classes) (sym tails) (λ x some. of x (rest-among e ys (g.fetched t) list x some)),
          subst (λ xs. IsChain (links_in (core_in m l).nexts) (item_link rest) xs 0) (sym tails) chain,
        ))
        (no-duty class e rest (join_taken (public_of (m publics e)))) good)
fetches-as k g m l t class head (BoxAt.Join e rest (JoinAt.Walk first at count)) is good =
    let task = fits_at k g (core_in m l) t (Task.Fetching class (BoxAt.Join e rest (JoinAt.Walk first at count))) is good in
    goes-on k g m l t class e rest (Task.Fetching class (BoxAt.Join e rest (JoinAt.Walk first at count)))
    (join_learn (JoinAt.Walk first at count) (m marks at)) is (λ x z. z)
    (walked-going first at (capped (count + 1)) (mark_of (m marks at)))
    (task.class', task.seat', task.of, task.at') good
fetches-as k g m l t class head (BoxAt.Join e rest (JoinAt.Tie first last count)) is good =
    let task = fits_at k g (core_in m l) t (Task.Fetching class (BoxAt.Join e rest (JoinAt.Tie first last count))) is good in
    others_keep k g m (with_task t (task_fetched class (box_joined e rest (JoinNext.Joined first count))) l)
    (Store (Word.Mark last) (private_link head)) (mark-other last)
    (goes-on k g m l t class e rest (Task.Fetching class (BoxAt.Join e rest (JoinAt.Tie first last count)))
    (JoinNext.Joined first count) is (λ x z. z) tt (task.class', task.seat', task.of, task.at') good)

-- slabs with which no seat has to do as mail
pub adopter_there : (t : ℕ) (q : Keeper) → IsAdopter t q → IsThere q
adopter_there t Keeper.Nobody a = a
adopter_there t (Keeper.By o) a = tt
adopter_there t Keeper.Orphan a = absurd a
adopter_there t (Keeper.Adopting o) a = tt
adopter_there t (Keeper.Cached o) a = absurd a

moving-apart : (g : Shadow) (t e o : ℕ) → FetchedOnce g.mail g.fetched → IsMoving g t e → Apart o e g g
moving-apart g t e o once (leaving is) = apart_of g g o e (Mail.Leaving t) once is (λ z. cc) (λ z. cc) refl
    (λ z. let q : Mail.Leaving t ≡ Mail.Owed o = sym is ∙ z in cc)
moving-apart g t e o once (adopting is) = apart_of g g o e (Mail.Adopted t) once is (λ z. cc) (λ z. cc) refl
    (λ z. let q : Mail.Adopted t ≡ Mail.Owed o = sym is ∙ z in cc)

moving-unboxed : (g : Shadow) (t e : ℕ) → IsMoving g t e → is_boxed (g.mail e) ≡ 0
moving-unboxed g t e (leaving is) = ap is_boxed is
moving-unboxed g t e (adopting is) = ap is_boxed is

moving-there : (g : Shadow) (t e : ℕ) (q : Keeper) (c : ℕ) (p : Public) (n : Next) → IsMoving g t e
    → MailFits (g.mail e) q c p n → IsThere q
moving-there g t e q c p n (leaving is) fits =
    subst IsThere (sym (subst (λ x. MailFits x q c p n) is fits).0) tt
moving-there g t e q c p n (adopting is) fits = adopter_there t q (subst (λ x. MailFits x q c p n) is fits).0

moving-fits : (g : Shadow) (t e : ℕ) (q : Keeper) (c : ℕ) (p : Public) (n now : Next) → IsMoving g t e
    → MailFits (g.mail e) q c p n → MailFits (g.mail e) q c p now
moving-fits g t e q c p n now (leaving is) fits =
    subst (λ x. MailFits x q c p now) (sym is) (subst (λ x. MailFits x q c p n) is fits)
moving-fits g t e q c p n now (adopting is) fits =
    subst (λ x. MailFits x q c p now) (sym is) (subst (λ x. MailFits x q c p n) is fits)

-- the keeper alone, where the public word stays
same_public : (k : Key) (g : Shadow) (m : Mem) (l : Locals) (e : ℕ) (keeper : Keeper) (h : Shadow)
    → MailGood k h (record (core_in m l) {
      keeper = put l.keeper e keeper;
      publics = put (core_in m l).publics e (public_of (m publics e));
    })
    → MailGood k h (core_in m (record l { keeper = put l.keeper e keeper }))
same_public k g m l e keeper h good = subst (λ (f : ℕ → Public). MailGood k h (record (core_in m l) {
  keeper = put l.keeper e keeper;
  publics = f;
})) (λ n x. self x n) good
  where
    self : (x : ℕ) → put (core_in m l).publics e (public_of (m publics e)) x ≡ public_of (m publics x)
    self x = equal_or x e
        (λ same. ap (put (core_in m l).publics e (public_of (m publics e))) same
        ∙ put-same (core_in m l).publics e (public_of (m publics e)) ∙ ap (λ z. public_of (m publics z)) (sym same))
        (λ ne. put-other (core_in m l).publics e (public_of (m publics e)) x ne)

same_mail : (k : Key) (g : Shadow) (s : Core) (e : ℕ) (m : Mail) → g.mail e ≡ m
    → MailGood k (with_mail e m g) s → MailGood k g s
same_mail k g s e m is good = subst (λ (f : ℕ → Mail). MailGood k (record g { mail = f }) s) (λ n x. self x n) good
  where
    self : (x : ℕ) → put g.mail e m x ≡ g.mail x
    self x = equal_or x e (λ same. ap (put g.mail e m) same ∙ put-same g.mail e m ∙ sym is ∙ ap g.mail (sym same))
        (λ ne. put-other g.mail e m x ne)

-- the mail and the public word, where the keeper stays
same_keeper : (k : Key) (m : Mem) (l : Locals) (e : ℕ) (keeper : Keeper) (public : Public) (h : Shadow)
    → l.keeper e ≡ keeper
    → MailGood k h (record (core_in m l) {
      keeper = put l.keeper e keeper;
      publics = put (core_in m l).publics e public;
    })
    → MailGood k h (record (core_in m l) { publics = put (core_in m l).publics e public })
same_keeper k m l e keeper public h is good = subst (λ (f : ℕ → Keeper). MailGood k h (record (core_in m l) {
  keeper = f;
  publics = put (core_in m l).publics e public;
})) (λ n x. self x n) good
  where
    self : (x : ℕ) → put l.keeper e keeper x ≡ l.keeper x
    self x = equal_or x e
        (λ same. ap (put l.keeper e keeper) same ∙ put-same l.keeper e keeper ∙ sym is ∙ ap l.keeper (sym same))
        (λ ne. put-other l.keeper e keeper x ne)

-- a slab that no seat has to do with gets another mail and keeper
moved : (k : Key) (g : Shadow) (m : Mem) (l : Locals) (e : ℕ) (before mail : Mail) (keeper : Keeper)
    → g.mail e ≡ before → is_boxed before ≡ 0 → ((o : ℕ) → is_taken o before ≡ 0) → ((o : ℕ) → before ≢ Mail.Owed o)
    → ((o : ℕ) → before ≢ Mail.Begun o) → is_boxed mail ≡ 0 → ((o : ℕ) → is_taken o mail ≡ 0)
    → ((o : ℕ) → mail ≢ Mail.Owed o)
    → MailFits mail keeper (l.classes e) (public_of (m publics e)) (next_of (m nexts e))
    → (IsThere keeper → e < k.span)
    → ((seat : ℕ) → keeper ≡ Keeper.By seat → (l.classes e < class_count) × (seat < k.seats))
    → MailGood k g (core_in m l)
    → MailGood k (with_mail e mail g) (core_in m (record l { keeper = put l.keeper e keeper }))
moved k g m l e before mail keeper is a b c d f h i fits inside kept good =
    same_public k g m l e keeper (with_mail e mail g)
    (keeper_keeps k e mail keeper (public_of (m publics e)) g (core_in m l) (ap is_boxed is ∙ a) f h
    (λ o. apart_of g g o e before good.fetched_once is (c o) (d o) (b o) (λ z. c o (sym is ∙ z))) i fits inside kept good)

pub word_null : (w : ℕ) → public_of w ≡ Public.Null → w ≡ public_word Public.Null
unfolding public_of public_word
word_null zero is = refl
word_null (suc zero) is = absurd (cc)
word_null (suc (suc u)) is = absurd (cc)

-- P6
closes-as : (k : Key) (g : Shadow) (m : Mem) (l : Locals) (t e : ℕ) → l.keeper e ≡ Keeper.By t
    → MailGood k g (core_in m l)
    → MailGood k (shadow_closed t e (public_of (m publics e)) g) (core_in (after k m (close_action e)) l)
closes-as k g m l t e by good = cases (eqb (m publics e) (public_word Public.Null)) refl
  where
    there : IsThere (l.keeper e)
    there = subst IsThere (sym by) tt

    lost : (p : Public) → public_of (m publics e) ≡ p → m publics e ≢ public_word Public.Null
        → MailGood k (shadow_closed t e p g) (core_in m l)
    lost Public.Null is ne = absurd (ne (word_null (m publics e) is))
    lost Public.Unusable is ne = good
    lost (Public.Filled u) is ne = good

    cases : (b : Bool) → eqb (m publics e) (public_word Public.Null) ≡ b
        → MailGood k (shadow_closed t e (public_of (m publics e)) g)
        (core_in (cond b (stored k m (Word.Public e) (public_word Public.Unusable)) m) l)
    cases false is = lost (public_of (m publics e)) refl (eqb-false (m publics e) (public_word Public.Null) is)
    cases true is =
        let null = ap public_of (eqb-true (m publics e) (public_word Public.Null) is) ∙ null-reads in
        let rest = null_is_rest (g.mail e) (l.keeper e) (l.classes e) (public_of (m publics e)) (next_of (m nexts e))
        (good.words e) null there in
        subst (λ p. MailGood k (shadow_closed t e p g)
        (core_in (stored k m (Word.Public e) (public_word Public.Unusable)) l)) (sym null)
        (public_stored k (with_mail e (Mail.Leaving t) g) m l e (public_word Public.Unusable) Public.Unusable
        (good.places.inside e there) unusable-reads
        (same_keeper k m l e (Keeper.By t) Public.Unusable (with_mail e (Mail.Leaving t) g) by
        (keeper_keeps k e (Mail.Leaving t) (Keeper.By t) Public.Unusable g (core_in m l) (ap is_boxed rest) refl
        (λ o. refl)
        (λ o. apart_of g g o e Mail.Rest good.fetched_once rest (λ z. cc) (λ z. cc) refl
        (λ z. let q : Mail.Rest ≡ Mail.Owed o = sym rest ∙ z in cc)) (λ o z. cc) (refl, tt)
        (λ _. good.places.inside e there)
        (λ o z. good.places.kept e o (by ∙ z)) good)))

-- an empty slab is cached, or is so no more
hidden : (k : Key) (g : Shadow) (m : Mem) (l : Locals) (e : ℕ) (keeper : Keeper) → (IsThere (l.keeper e) → ⊥)
    → (IsThere keeper → ⊥) → MailGood k g (core_in m l)
    → MailGood k g (core_in m (record l { keeper = put l.keeper e keeper }))
hidden k g m l e keeper none now good = row_keeps k e g s g r good (record {
  only = only;
  publics = λ x _. refl;
  boxed = λ b. refl;
  boxes = λ b. refl;
  unboxed = (fits (g.mail e) (good.words e)).0;
  unboxed' = (fits (g.mail e) (good.words e)).0;
  fetched = good.fetched_once;
  fits = (fits (g.mail e) (good.words e)).1;
  inside = λ z. absurd (now (subst IsThere (put-same l.keeper e keeper) z));
  kept = λ o z. absurd (now (subst IsThere (sym (sym (put-same l.keeper e keeper) ∙ z)) tt));
}) (all_stay k g s g r good (λ o. record {
  owed = λ x z. let far = owed_far x o z in (z, refl, put-other l.keeper e keeper x far, refl);
  begun = λ x z. (z, refl);
  fetched = refl;
  mine = λ x some. (refl, refl);
  task = refl;
  no_more = λ x z. z;
}))
  where
    s : Core
    s = core_in m l

    r : Core
    r = core_in m (record l { keeper = put l.keeper e keeper })

    only : OnlyAt e g s g r
    only = record {
      mail = λ x _. refl;
      nexts = λ x _. refl;
      keeper = put-other l.keeper e keeper;
      classes = λ x _. refl;
    }

    owed_far : (x o : ℕ) → g.mail x ≡ Mail.Owed o → x ≢ e
    owed_far x o z same = none (subst (λ y. IsThere (l.keeper y)) same (there-kept (l.keeper x)
        (subst (λ q. MailFits q (l.keeper x) (l.classes x) (public_of (m publics x)) (next_of (m nexts x))) z
        (good.words x)).0))

    fits : (q : Mail) → MailFits q (l.keeper e) (l.classes e) (public_of (m publics e)) (next_of (m nexts e))
        → (is_boxed q ≡ 0)
        × MailFits q (put l.keeper e keeper e) (l.classes e) (public_of (m publics e)) (next_of (m nexts e))
    fits Mail.Absent f = (refl, ((λ z. now (subst IsThere (put-same l.keeper e keeper) z)), f.1))
    fits (Mail.Begun o) f = (refl, ((λ z. now (subst IsThere (put-same l.keeper e keeper) z)), f.1))
    fits Mail.Rest f = absurd (none (there-kept (l.keeper e)
        (home-kept (l.keeper e) (l.classes e) (next_of (m nexts e)) f.0)))
    fits (Mail.Owed o) f = absurd (none (there-kept (l.keeper e) f.0))
    fits Mail.Boxed f = absurd (none (there-kept (l.keeper e) f.0))
    fits (Mail.Taken o) f = absurd (none (subst IsThere (sym f.0) tt))
    fits (Mail.Leaving o) f = absurd (none (subst IsThere (sym f.0) tt))
    fits Mail.Left f = absurd (none (subst IsThere (sym f.0) tt))
    fits (Mail.Adopted o) f = absurd (none (adopter_there o (l.keeper e) f.0))

pub steps_keep_mail : StepsKeepMail
steps_keep_mail k g m l h m' l' good (posts t c at is there low) = posts-as k g m l t c at is there low good
steps_keep_mail k g m l h m' l' good (mails t e at is) = mails-as k g m l t e at is good
steps_keep_mail k g m l h m' l' good (fetches t class head at is) = fetches-as k g m l t class head at is good
steps_keep_mail k g m l h m' l' good (fetch_begins t class is low few) =
    let none = fits_at k g (core_in m l) t Task.Away is good in
    stand_keeps k t (Task.Fetching class BoxAt.Take) g (core_in m l) good
    (record {
      class' = low;
      seat' = few;
      of = λ x some. absurd (let z = ap (tally x) none in omega arith);
      at' = none;
    })
    (λ x owed. absurd (duty_at k g (core_in m l) t Task.Away is good x owed))
steps_keep_mail k g m l h m' l' good (begins t e class is absent low few inside) =
    begun_keeps k t e class g (core_in m l) is absent low few inside good
steps_keep_mail k g m l h m' l' good (settles t e class is) =
    let task = fits_at k g (core_in m l) t (Task.Beginning e class) is good in
    let home = Next.Mailbox (key_by t class) in
    let fits = subst (λ q. MailFits q (l.keeper e) (l.classes e) (public_of (m publics e)) (next_of (m nexts e)))
    task.begun (good.words e) in
    let few : t < 64 = (let f = task.seat' in let most = good.places.seats in omega arith) in
    next_stored k g m (with_task t (Task.Settled e class) l) e (next_word home) home task.inside
    (home-reads t class few task.class')
    (next_keeps k t e home (Task.Settled e class) g (core_in m l) (ap is_boxed task.begun)
    (subst (λ q. MailFits q (l.keeper e) (l.classes e) (public_of (m publics e)) home) (sym task.begun) fits)
    (λ o ne. apart_of g g o e (Mail.Begun t) good.fetched_once task.begun (λ z. cc)
    (λ z. ne (let same : t ≡ o = cc in sym same)) refl
    (λ z. let q : Mail.Begun t ≡ Mail.Owed o = sym task.begun ∙ z in cc)) (
      record {
        begun = task.begun;
        class' = task.class';
        seat' = task.seat';
        inside = task.inside;
        none = task.none;
      },
      put-same (core_in m l).nexts e home,
    )
    (λ x owed. absurd (duty_at k g (core_in m l) t (Task.Beginning e class) is good x owed)) good)
steps_keep_mail k g m l h m' l' good (clears t e class is) =
    let task = (fits_at k g (core_in m l) t (Task.Settled e class) is good).0 in
    let fits = subst (λ q. MailFits q (l.keeper e) (l.classes e) (public_of (m publics e)) (next_of (m nexts e)))
    task.begun (good.words e) in
    public_stored k g m l e (public_word Public.Null) Public.Null task.inside null-reads
    (public_keeps k e Public.Null g (core_in m l)
    (subst (λ q. MailFits q (l.keeper e) (l.classes e) Public.Null (next_of (m nexts e))) (sym task.begun)
    (fits.0, refl)) good)
steps_keep_mail k g m l h m' l' good (slab_begins t e class is) = began_keeps k t e class g (core_in m l) is good
steps_keep_mail k g m l h m' l' good (slab_ends t e by null) =
    let rest = null_is_rest (g.mail e) (l.keeper e) (l.classes e) (public_of (m publics e)) (next_of (m nexts e))
    (good.words e) null (subst IsThere (sym by) tt) in
    moved k g m l e Mail.Rest Mail.Absent Keeper.Nobody rest refl (λ o. refl) (λ o z. cc) (λ o z. cc) refl (λ o. refl)
    (λ o z. cc) ((λ z. z), null) (λ z. absurd z) (λ o z. absurd (cc)) good
steps_keep_mail k g m l h m' l' good (cached e keeper none now) = hidden k g m l e keeper none now good
steps_keep_mail k g m l h m' l' good (closes t e by) = closes-as k g m l t e by good
steps_keep_mail k g m l h m' l' good (links t e value moves) =
    let there = moving-there g t e (l.keeper e) (l.classes e) (public_of (m publics e)) (next_of (m nexts e)) moves
    (good.words e) in
    next_stored k g m l e value (next_of value) (good.places.inside e there) refl
    (link_keeps k e (next_of value) g (core_in m l) (moving-unboxed g t e moves)
    (moving-fits g t e (l.keeper e) (l.classes e) (public_of (m publics e)) (next_of (m nexts e)) (next_of value) moves
    (good.words e))
    (λ o. moving-apart g t e o good.fetched_once moves) good)
steps_keep_mail k g m l h m' l' good (leaves t e is) =
    let fits = subst (λ q. MailFits q (l.keeper e) (l.classes e) (public_of (m publics e)) (next_of (m nexts e))) is
    (good.words e) in
    moved k g m l e (Mail.Leaving t) Mail.Left Keeper.Orphan is refl (λ o. refl) (λ o z. cc) (λ o z. cc) refl (λ o. refl)
    (λ o z. cc) (refl, fits.1) (λ _. good.places.inside e (subst IsThere (sym fits.0) tt)) (λ o z. absurd (cc)) good
steps_keep_mail k g m l h m' l' good (goes_back t e is by) =
    let fits = subst (λ q. MailFits q (l.keeper e) (l.classes e) (public_of (m publics e)) (next_of (m nexts e))) is
    (good.words e) in
    moved k g m l e (Mail.Adopted t) Mail.Left Keeper.Orphan is refl (λ o. refl) (λ o z. cc) (λ o z. cc) refl (λ o. refl)
    (λ o z. cc) (refl, fits.1) (λ _. good.places.inside e (subst IsThere (sym by) tt)) (λ o z. absurd (cc)) good
steps_keep_mail k g m l h m' l' good (comes t chain left) = come_keeps k t chain g (core_in m l) left good
steps_keep_mail k g m l h m' l' good (adopts t e is by low few) =
    let fits = subst (λ q. MailFits q (l.keeper e) (l.classes e) (public_of (m publics e)) (next_of (m nexts e))) is
    (good.words e) in
    same_mail k g (core_in m (record l { keeper = put l.keeper e (Keeper.By t) })) e (Mail.Adopted t) is
    (moved k g m l e (Mail.Adopted t) (Mail.Adopted t) (Keeper.By t) is refl (λ o. refl) (λ o z. cc) (λ o z. cc) refl
    (λ o. refl) (λ o z. cc) (refl, fits.1) (λ _. good.places.inside e (subst IsThere (sym by) tt))
    (λ o z. (low, (let same : t ≡ o = cc in subst (λ x. x < k.seats) same few))) good)
steps_keep_mail k g m l h m' l' good (takes_adopted t e is by home) =
    let there = good.places.inside e (subst IsThere (sym by) tt) in
    public_stored k h m l e (public_word Public.Null) Public.Null there null-reads
    (same_keeper k m l e (Keeper.By t) Public.Null (with_mail e Mail.Rest g) by
    (keeper_keeps k e Mail.Rest (Keeper.By t) Public.Null g (core_in m l) (ap is_boxed is) refl (λ o. refl)
    (λ o. moving-apart g t e o good.fetched_once (adopting is)) (λ o z. cc) (home, refl) (λ _. there)
    (λ o z. good.places.kept e o (by ∙ z)) good))
steps_keep_mail k g m l h m' l' good (others action other) = others_keep k g m l action other good

pub runs_keep_mail : RunsKeepMail
runs_keep_mail k g m l h m' l' good starts = good
runs_keep_mail k g m l h m' l' good (steps {g1} {m1} {l1} run step) =
    steps_keep_mail k g1 m1 l1 h m' l' (runs_keep_mail k g m l g1 m1 l1 good run) step
