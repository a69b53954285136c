-- A mailbox is taken, and what was given back to each slab there is taken, walked and joined.
use Rattle.std.proofs.Common.{◌≡◌, ◌≢◌, ℕ, Option, Some, None, refl, sym, ap, subst, ◌∙◌}
use Rattle.pool_words.specs.declared.words.Key.{Key}
use Rattle.word_codes.specs.declared.marks.Mark.{Mark}
use Rattle.word_codes.specs.declared.publics.Public.{Public}
use Rattle.word_codes.specs.Marks.{mark_of}
use Rattle.word_codes.specs.Publics.{public_of}
use Rattle.word_codes.specs.Links.{link_of}
use Rattle.heap_slabs.specs.declared.records.HeapSlab.{HeapSlab}
use Rattle.public_list.specs.declared.joining.JoinAt.{JoinAt}
use Rattle.public_list.specs.declared.joining.JoinNext.{JoinNext}
use Rattle.public_list.specs.Joining.{join_learn, join_taken, join_walked}
use Rattle.mailbox.specs.declared.boxes.BoxAt.{BoxAt}
use Rattle.mailbox.specs.declared.boxes.BoxNext.{BoxNext}
use Rattle.mailbox.specs.Boxes.{box_learn, box_taken, box_joined}
use Rattle.word_laws.specs.Memory.{put, after, found}
use Rattle.word_laws.proofs.CallerLemmas.{put-same, put-other}
use Rattle.slab_laws.specs.Books.{Keeper, Book, with_joined}
use Rattle.object_laws.specs.Objects as objects
use Rattle.object_laws.specs.Objects.{Locals}
use Rattle.object_laws.specs.Objects.Task.{Away, Joining}
use Rattle.object_laws.specs.Rows.{with_task, joined_as}
use Rattle.object_laws.specs.Steps.{ObjectStep}
use Rattle.object_laws.proofs.CallerLemmas as small
use Rattle.mail_laws.specs.Mail as mailing
use Rattle.mail_laws.specs.Mail.{Mail, MailFits}
use Rattle.mail_laws.specs.Steps as moves
use Rattle.mail_laws.specs.Steps.{task_fetched, MailStep}
use Rattle.mail_laws.proofs.CallerLemmas.{fetched-his}
use Rattle.mail_laws.proofs.Seats as mailed
use Rattle.orphan_laws.specs.Orphans as orphaning
use Rattle.orphan_laws.specs.Orphans.{Task, core_in, mail_core, IsLeaving, OrphansGood}
use Rattle.orphan_laws.specs.Steps.{with_mails, with_book, RecordOnly, OrphanStep}
use Rattle.orphan_laws.proofs.CallerLemmas.{steps_keep_orphans}
use Rattle.use_laws.specs.Pools.{Pool}
use Rattle.use_laws.specs.Steps.{IsPlainJoin, PoolStep}
use Rattle.use_laws.specs.After.{pool_joined}
use Rattle.use_laws.proofs.Keeps.{steps_keep_pool}
use Rattle.post_laws.specs.Posts.{Post, locals_of, words_of, MailTies, IsNoJoin, TiesFit, PostGood}
use Rattle.post_laws.specs.After.{mails_of, post_fetched, pool_settled, pool_listed}
use Rattle.post_laws.specs.Steps.{fetch_action}
use Rattle.post_laws.proofs.Elsewhere.{next_stored, box_swapped, elsewhere_keeps}
use Rattle.post_laws.proofs.Ties.{ties_stay, IsAlone, mail_alone}
use Rattle.post_laws.proofs.Pushing.{tie_as}

alone_at : (k : Key) (p : Post) (t class : ℕ) (at : BoxAt) → p.mails t ≡ mailing.Task.Fetching class at → PostGood k p
    → IsAlone (p.tasks t) (mailing.Task.Fetching class at) (p.pool.locals.tasks t)
alone_at k p t class at is good =
    mail_alone (p.tasks t) (mailing.Task.Fetching class at) (p.pool.locals.tasks t) (λ z. cc) (λ x z. z)
    (subst (λ q. TiesFit (p.tasks t) q (p.pool.locals.tasks t)) is (good.ties t))

-- what mail and orphans are after the step, over the book as it was
ways_keep : (k : Key) (t class : ℕ) (head : Option ℕ) (at : BoxAt) (p : Post)
    → p.mails t ≡ mailing.Task.Fetching class at → PostGood k p
    → OrphansGood k (record p.ways { mail = moves.shadow_fetched (mails_of p) t class at p.ways.mail })
    (core_in (after k p.pool.mem (fetch_action t class at head)) (record (locals_of p) {
      mails = put p.mails t (task_fetched class (box_learn at (found p.pool.mem (fetch_action t class at head))));
    }))
ways_keep k t class head at p is good =
    steps_keep_orphans k p.ways p.pool.mem (locals_of p)
    (record p.ways { mail = moves.shadow_fetched (mails_of p) t class at p.ways.mail })
    (after k p.pool.mem (fetch_action t class at head))
    (with_mails (moves.with_task t (task_fetched class (box_learn at (found p.pool.mem (fetch_action t class at head))))
    (mails_of p)) (locals_of p)) good.orphans (OrphanStep.asides (MailStep.fetches t class head at is) tt)

-- what the seat has to do then
fetch_stays : (k : Key) (t class : ℕ) (at : BoxAt) (next : BoxNext) (later : Pool) (p : Post)
    → p.mails t ≡ mailing.Task.Fetching class at → PostGood k p
    → ((o : ℕ) → o ≢ t → later.locals.tasks o ≡ p.pool.locals.tasks o)
    → MailTies (task_fetched class next) (later.locals.tasks t) → (s : ℕ)
    → TiesFit (p.tasks s) (put p.mails t (task_fetched class next) s) (later.locals.tasks s)
fetch_stays k t class at next later p is good others here =
    ties_stay k p (post_fetched t class at next later p) t good (record {
      objects = others;
      mails = λ o ne. put-other p.mails t (task_fetched class next) o ne;
      orphans = λ o ne. refl;
    })
    (tie_as (p.tasks t) (task_fetched class next) (later.locals.tasks t) (put p.mails t (task_fetched class next) t)
    (later.locals.tasks t) (alone_at k p t class at is good).orphan (put-same p.mails t (task_fetched class next)) refl
    here)

-- N5, N6
took_ties : (class : ℕ) (o : Option ℕ) (q : objects.Task) → q ≡ Away → MailTies (task_fetched class (box_taken o)) q
took_ties class (Some e) q is = is
took_ties class None q is = subst IsNoJoin (sym is) tt

pub takes_box_keeps : (k : Key) (t : ℕ) (p : Post) (class : ℕ) (head : Option ℕ)
    → p.mails t ≡ mailing.Task.Fetching class BoxAt.Take → PostGood k p
    → PostGood k (post_fetched t class BoxAt.Take
    (box_learn BoxAt.Take (found p.pool.mem (fetch_action t class BoxAt.Take head)))
    (record p.pool { mem = after k p.pool.mem (fetch_action t class BoxAt.Take head) }) p)
takes_box_keeps k t p class head is good = record {
  pool' = elsewhere_keeps k p.pool (fetch_action t class BoxAt.Take head) (box_swapped t class 0) good.pool';
  orphans = ways_keep k t class head BoxAt.Take p is good;
  ties = fetch_stays k t class BoxAt.Take
      (box_learn BoxAt.Take (found p.pool.mem (fetch_action t class BoxAt.Take head)))
      (record p.pool { mem = after k p.pool.mem (fetch_action t class BoxAt.Take head) }) p is good (λ o ne. refl)
      (took_ties class (link_of (found p.pool.mem (fetch_action t class BoxAt.Take head))) (p.pool.locals.tasks t)
      (alone_at k p t class BoxAt.Take is good).ties);
}

pub reads_next_keeps : (k : Key) (t : ℕ) (p : Post) (class e : ℕ) (head : Option ℕ)
    → p.mails t ≡ mailing.Task.Fetching class (BoxAt.Next e) → PostGood k p
    → PostGood k (post_fetched t class (BoxAt.Next e)
    (box_learn (BoxAt.Next e) (found p.pool.mem (fetch_action t class (BoxAt.Next e) head))) p.pool p)
reads_next_keeps k t p class e head is good = record {
  pool' = good.pool';
  orphans = ways_keep k t class head (BoxAt.Next e) p is good;
  ties = fetch_stays k t class (BoxAt.Next e)
      (box_learn (BoxAt.Next e) (found p.pool.mem (fetch_action t class (BoxAt.Next e) head))) p.pool p is good
      (λ o ne. refl) (alone_at k p t class (BoxAt.Next e) is good).ties;
}

-- N7
settled_kept : (k : Key) (t : ℕ) (p : Post) (class e : ℕ) (rest : Option ℕ)
    → p.mails t ≡ mailing.Task.Fetching class (BoxAt.Settle e rest) → PostGood k p
    → p.pool.locals.book.keeper e ≡ Keeper.By t
settled_kept k t p class e rest is good =
    let s = mail_core (words_of p) in
    let fits = mailed.fits_at k p.ways.mail s t (mailing.Task.Fetching class (BoxAt.Settle e rest)) is
    good.orphans.mail in
    let his = fetched-his k p.ways.mail s t e fits.at'.0 fits.at'.1 good.orphans.mail in
    (subst (λ m. MailFits m (s.keeper e) (s.classes e) (s.publics e) (s.nexts e)) his (good.orphans.mail.words e)).0

pub settles_keep : (k : Key) (t : ℕ) (p : Post) (class e : ℕ) (rest head : Option ℕ)
    → p.mails t ≡ mailing.Task.Fetching class (BoxAt.Settle e rest) → PostGood k p
    → PostGood k (post_fetched t class (BoxAt.Settle e rest)
    (box_learn (BoxAt.Settle e rest) (found p.pool.mem (fetch_action t class (BoxAt.Settle e rest) head)))
    (pool_settled t e (after k p.pool.mem (fetch_action t class (BoxAt.Settle e rest) head)) p.pool) p)
settles_keep k t p class e rest head is good = record {
  pool' = elsewhere_keeps k begun (fetch_action t class (BoxAt.Settle e rest) head) (next_stored e _)
      (steps_keep_pool k t p.pool begun good.pool' (PoolStep.objects p.pool.objects p.pool.mem begun.locals
      (ObjectStep.begins t (Joining e JoinAt.Take) (alone_at k p t class (BoxAt.Settle e rest) is good).ties tt
      (settled_kept k t p class e rest is good)) tt));
  orphans = ways_keep k t class head (BoxAt.Settle e rest) p is good;
  ties = fetch_stays k t class (BoxAt.Settle e rest)
      (box_learn (BoxAt.Settle e rest) (found p.pool.mem (fetch_action t class (BoxAt.Settle e rest) head)))
      (pool_settled t e (after k p.pool.mem (fetch_action t class (BoxAt.Settle e rest) head)) p.pool) p is good
      (λ o ne. put-other p.pool.locals.tasks t (Joining e JoinAt.Take) o ne)
      (put-same p.pool.locals.tasks t (Joining e JoinAt.Take));
}
  where
    begun : Pool
    begun = record p.pool { locals = with_task t (Joining e JoinAt.Take) p.pool.locals }

-- P5, M1
took_book : (t e : ℕ) (q : Public) (l : Locals) → (joined_as t e (join_taken q) l).book ≡ l.book
took_book t e Public.Null l = refl
took_book t e Public.Unusable l = refl
took_book t e (Public.Filled u) l = refl

walked_book : (t e first at count : ℕ) (q : Mark) (l : Locals)
    → (joined_as t e (join_walked first at count q) l).book ≡ l.book
walked_book t e first at count Mark.Unmarked l = refl
walked_book t e first at count (Mark.Granted g) l = refl
walked_book t e first at count (Mark.Hand o) l = refl
walked_book t e first at count (Mark.Link u) l = refl
walked_book t e first at count Mark.End l = refl
walked_book t e first at count Mark.EndUnusable l = refl

listed_book : (t e : ℕ) (at : JoinAt) (f : ℕ) (l : Locals) → IsPlainJoin at
    → (joined_as t e (join_learn at f) l).book ≡ l.book
listed_book t e JoinAt.Take f l plain = took_book t e (public_of f) l
listed_book t e (JoinAt.Walk first at count) f l plain = walked_book t e first at _ (mark_of f) l
listed_book t e (JoinAt.Tie first last count) f l plain = absurd plain

on_ties : (class : ℕ) (rest : Option ℕ) (q : objects.Task) → q ≡ Away → MailTies (moves.fetch_on class rest) q
on_ties class (Some e) q is = is
on_ties class None q is = subst IsNoJoin (sym is) tt

joined_ties : (t class e : ℕ) (rest : Option ℕ) (next : JoinNext) (l : Locals)
    → MailTies (task_fetched class (box_joined e rest next)) ((joined_as t e next l).tasks t)
joined_ties t class e rest (JoinNext.Goes at) l = put-same l.tasks t (Joining e at)
joined_ties t class e rest JoinNext.Nothing l =
    on_ties class rest (put l.tasks t Away t) (put-same l.tasks t Away)
joined_ties t class e rest (JoinNext.Joined first count) l =
    on_ties class rest (put l.tasks t Away t) (put-same l.tasks t Away)

joined_others : (t e : ℕ) (next : JoinNext) (l : Locals) (o : ℕ) → o ≢ t
    → (joined_as t e next l).tasks o ≡ l.tasks o
joined_others t e (JoinNext.Goes at) l o ne = put-other l.tasks t (Joining e at) o ne
joined_others t e JoinNext.Nothing l o ne = put-other l.tasks t Away o ne
joined_others t e (JoinNext.Joined first count) l o ne = put-other l.tasks t Away o ne

pub lists_keep : (k : Key) (t : ℕ) (p : Post) (class e : ℕ) (rest : Option ℕ) (at : JoinAt) → IsPlainJoin at
    → p.mails t ≡ mailing.Task.Fetching class (BoxAt.Join e rest at) → PostGood k p
    → PostGood k (post_fetched t class (BoxAt.Join e rest at) (box_learn (BoxAt.Join e rest at)
    (found p.pool.mem (fetch_action t class (BoxAt.Join e rest at) (p.pool.locals.book.heads e))))
    (pool_listed t e at (join_learn at
    (found p.pool.mem (fetch_action t class (BoxAt.Join e rest at) (p.pool.locals.book.heads e))))
    (after k p.pool.mem (fetch_action t class (BoxAt.Join e rest at) (p.pool.locals.book.heads e))) p.pool) p)
lists_keep k t p class e rest at plain is good = record {
  pool' = steps_keep_pool k t p.pool later good.pool' (PoolStep.objects later.objects later.mem later.locals
      (ObjectStep.joins t e at (alone_at k p t class (BoxAt.Join e rest at) is good).ties) plain);
  orphans = subst (λ (b : Book). OrphansGood k
      (record p.ways { mail = moves.shadow_fetched (mails_of p) t class (BoxAt.Join e rest at) p.ways.mail })
      (core_in later.mem (record {
        book = b;
        mails = put p.mails t (task_fetched class (box_joined e rest next));
        tasks = p.tasks;
        spares = p.spares;
      })))
      (sym (listed_book t e at f p.pool.locals plain))
      (ways_keep k t class (p.pool.locals.book.heads e) (BoxAt.Join e rest at) p is good);
  ties = fetch_stays k t class (BoxAt.Join e rest at) (box_joined e rest next) later p is good
      (joined_others t e next p.pool.locals) (joined_ties t class e rest next p.pool.locals);
}
  where
    f : ℕ
    f = found p.pool.mem (fetch_action t class (BoxAt.Join e rest at) (p.pool.locals.book.heads e))

    next : JoinNext
    next = join_learn at f

    later : Pool
    later = pool_listed t e at next
        (after k p.pool.mem (fetch_action t class (BoxAt.Join e rest at) (p.pool.locals.book.heads e))) p.pool

-- M8
joined_only : (e first count : ℕ) (b : Book) → RecordOnly e b (with_joined e first count b)
joined_only e first count b = record {
  keeper = refl;
  classes = refl;
  else = λ x ne. ap (λ n. record_with x n (put b.heads e (Some first) x))
      (put-other b.counts e _ x ne)
      ∙ ap (λ h. record_with x (b.counts x) h) (put-other b.heads e (Some first) x ne);
}
  where
    record_with : ℕ → ℕ → Option ℕ → HeapSlab
    record_with x n head = record { slab = x; class = b.classes x; handed = b.handed x; count = n; head = head }

pub ties_keep : (k : Key) (t : ℕ) (p : Post) (class e : ℕ) (rest : Option ℕ) (first last count : ℕ)
    → p.mails t ≡ mailing.Task.Fetching class (BoxAt.Join e rest (JoinAt.Tie first last count)) → PostGood k p
    → PostGood k (post_fetched t class (BoxAt.Join e rest (JoinAt.Tie first last count))
    (box_learn (BoxAt.Join e rest (JoinAt.Tie first last count)) (found p.pool.mem
    (fetch_action t class (BoxAt.Join e rest (JoinAt.Tie first last count)) (p.pool.locals.book.heads e))))
    (pool_joined k t e first last count p.pool) p)
ties_keep k t p class e rest first last count is good = record {
  pool' = steps_keep_pool k t p.pool later good.pool' (PoolStep.joins e first last count joins);
  orphans = steps_keep_orphans k ways later.mem between ways later.mem
      (with_book (with_joined e first count p.pool.locals.book) between)
      (ways_keep k t class (p.pool.locals.book.heads e) at p is good)
      (OrphanStep.records t e (with_joined e first count p.pool.locals.book) kept
      (λ leaving. subst (λ q. IsLeaving q e) alone.orphan leaving) (joined_only e first count p.pool.locals.book));
  ties = fetch_stays k t class at (BoxNext.Joined e first count rest) later p is good
      (joined_others t e (JoinNext.Joined first count) p.pool.locals)
      (joined_ties t class e rest (JoinNext.Joined first count) p.pool.locals);
}
  where
    at : BoxAt
    at = BoxAt.Join e rest (JoinAt.Tie first last count)

    later : Pool
    later = pool_joined k t e first last count p.pool

    ways : orphaning.Shadow
    ways = record p.ways { mail = moves.shadow_fetched (mails_of p) t class at p.ways.mail }

    between : orphaning.Locals
    between = record (locals_of p) { mails = put p.mails t (task_fetched class (BoxNext.Joined e first count rest)) }

    alone : IsAlone (p.tasks t) (mailing.Task.Fetching class at) (p.pool.locals.tasks t)
    alone = alone_at k p t class at is good

    joins : p.pool.locals.tasks t ≡ Joining e (JoinAt.Tie first last count)
    joins = alone.ties

    kept : p.pool.locals.book.keeper e ≡ Keeper.By t
    kept = small.fits_at k p.pool.objects (objects.core_in p.pool.mem p.pool.locals) t
        (Joining e (JoinAt.Tie first last count)) joins good.pool'.objects
