-- A keeper leaves a slab.
use Rattle.std.proofs.Common.{◌≡◌, ◌≢◌, ℕ, ◌+◌, ◌^◌, ◌<◌, Bool, true, false, cond, eqb, Option, Some, None, List, []}
use Rattle.std.proofs.Common.{◌∷◌}
use Rattle.std.proofs.Common.{refl, sym, ap, subst, arith, ◌∙◌}
use Rattle.std.proofs.lemmas.Bool.Decides.{nat_tests}
use Rattle.std.proofs.lemmas.Bool.{eqb-true, eqb-false}
use Rattle.pool_words.specs.declared.words.Key.{Key}
use Rattle.pool_words.specs.declared.words.Word.{Word}
use Rattle.pool_words.specs.Words.{publics, nexts, owns, headers, orphans}
use Rattle.word_codes.specs.declared.nexts.Next.{Next}
use Rattle.word_codes.specs.declared.owns.Own.{Own}
use Rattle.word_codes.specs.declared.publics.Public.{Public}
use Rattle.word_codes.specs.Links.{link_of}
use Rattle.word_codes.specs.Nexts.{next_of, next_word, FitsNextLink}
use Rattle.word_codes.specs.Owns.{own_of, own_word}
use Rattle.word_codes.specs.Publics.{public_of, public_word}
use Rattle.word_codes.proofs.CallerLemmas.{nexts_read_back}
use Rattle.heap_slabs.specs.Records.{to_header}
use Rattle.chain_words.specs.declared.pushing.PushAt.{PushAt}
use Rattle.orphans.specs.declared.leaving.LeaveAt.{LeaveAt}
use Rattle.orphans.specs.Leaving.{leave_course, leave_learn, leave_closed}
use Rattle.word_laws.specs.Memory.{Mem, put, write, stored, after, found}
use Rattle.chain_laws.specs.Chains.{IsChain, tally}
use Rattle.chain_laws.specs.Chains.Link.{To}
use Rattle.slab_laws.specs.Books.{Keeper, IsThere, IsLeft, record_of}
use Rattle.slab_laws.proofs.CallerLemmas.{put-same, put-other, each}
use Rattle.mail_laws.specs.Mail as mailing
use Rattle.mail_laws.specs.Mail.{Mail, item_link, links_in, MailFits, MailGood}
use Rattle.mail_laws.specs.Steps.{with_mail, IsMoving, close_action, shadow_closed, MailStep}
use Rattle.mail_laws.proofs.CallerLemmas.{first-among, null-reads, word_null}
use Rattle.mail_laws.proofs.CallerLemmas.{steps_keep_mail}
use Rattle.orphan_laws.specs.Orphans.{Task, Shadow, Locals, Core, core_in, mail_locals}
use Rattle.orphan_laws.specs.Orphans.{own_kept, OwnFits, is_orphan, is_returned}
use Rattle.orphan_laws.specs.Orphans.{PushesAt, OrphansGood}
use Rattle.orphan_laws.specs.Steps.{with_task, with_way, leave_of, shadow_left, left_as}
use Rattle.orphan_laws.proofs.Seats.{fits_at, leaving_at, joining_at, Apart}
use Rattle.orphan_laws.proofs.Rows.{way_fits, IsAbout, words_core, word_keeps}
use Rattle.orphan_laws.proofs.Rows.{stand_keeps}
use Rattle.orphan_laws.proofs.Words.{to_stored, to_written, orphan-reads}

-- a slab that another seat is leaving, has adopted or is about to begin is not this seat's
pub apart_kept : (k : Key) (g : Shadow) (s : Core) (h : Shadow) (r : Core) (t e o : ℕ) → OrphansGood k g s
    → s.book.keeper e ≡ Keeper.By t → r.book.keeper e ≡ Keeper.By t → o ≢ t → h.mail.mail e ≡ g.mail.mail e
    → Apart o e g s h r
apart_kept k g s h r t e o good by now ne same = record {
  kept = λ z _. ne (let q : Keeper.By o ≡ Keeper.By t = sym z ∙ by in cc);
  leaving = λ z. ne (let q : Keeper.By t ≡ Keeper.By o = sym by ∙ (way_fits k g s e (Mail.Leaving o) good z).0 in
      let e : t ≡ o = cc in sym e);
  adopted = λ z. ne (let q = subst (mailing.IsAdopter o) by (way_fits k g s e (Mail.Adopted o) good z).0 in sym q);
  hand = λ z. let q : Keeper.Adopting o ≡ Keeper.By t = sym z ∙ by in cc;
  begun = λ z. (way_fits k g s e (Mail.Begun o) good z).0 (subst IsThere (sym by) tt);
  hand' = λ z. let q : Keeper.Adopting o ≡ Keeper.By t = sym z ∙ now in cc;
  leaving' = λ z. ne (let q : Keeper.By t ≡ Keeper.By o = sym by
      ∙ (way_fits k g s e (Mail.Leaving o) good (sym same ∙ z)).0 in let e : t ≡ o = cc in sym e);
  adopted' = λ z w. ne (let q : Keeper.By o ≡ Keeper.By t = sym w ∙ now in cc);
}

-- a slab of a seat
pub inside_by : (k : Key) (g : Shadow) (s : Core) (t e : ℕ) → OrphansGood k g s → s.book.keeper e ≡ Keeper.By t
    → e < k.span
inside_by k g s t e good by = good.mail.places.inside e (subst IsThere (sym by) tt)

-- P6
pub close_other : (k : Key) (g : Shadow) (m : Mem) (l : Locals) (t e : ℕ) → OrphansGood k g (core_in m l)
    → l.tasks t ≡ Task.Leaving e LeaveAt.Close → OrphansGood k g (core_in m (with_task t Task.Away l))
close_other k g m l t e good is =
    let fits = fits_at k g (core_in m l) t (Task.Leaving e LeaveAt.Close) is good in
    stand_keeps k t Task.Away g (core_in m l) good (λ x. sym (ap (is_returned x) is))
    (λ x. sym (ap (λ q. own_kept t q x) is ∙ same x)) fits.0
    (λ x z. let at = leaving_at k g (core_in m l) t (Task.Leaving e LeaveAt.Close) is good x z in
    absurd (fits.2 (ap g.mail.mail (sym at) ∙ z)))
    (λ x z by. joining_at k g (core_in m l) t (Task.Leaving e LeaveAt.Close) is good x z by)
  where
    same : (x : ℕ) → own_kept t (Task.Leaving e LeaveAt.Close) x ≡ Own.Kept t
    same x = grind (arith, nat_tests)

-- the own word of a slab that its keeper leaves
pub own_at : (k : Key) (g : Shadow) (s : Core) (t e : ℕ) (task : Task) → OrphansGood k g s → s.book.keeper e
    ≡ Keeper.By t
    → own_kept t task e ≡ s.owns e → OwnFits (put s.tasks t task) e (s.book.keeper e) (s.owns e)
own_at k g s t e task good by same = subst (λ q. OwnFits (put s.tasks t task) e q (s.owns e)) (sym by)
    (sym same ∙ ap (λ q. own_kept t q e) (sym (put-same s.tasks t task)))

pub own_was : (k : Key) (g : Shadow) (s : Core) (t e : ℕ) (task : Task) → OrphansGood k g s → s.book.keeper e
    ≡ Keeper.By t
    → s.tasks t ≡ task → own_kept t task e ≡ s.owns e
own_was k g s t e task good by is = ap (λ q. own_kept t q e) (sym is)
    ∙ sym (subst (λ q. OwnFits s.tasks e q (s.owns e)) by (good.owns_fit e))

-- one of the keeper's words is not a header of an orphan
pub not_left : (q : Keeper) (t : ℕ) → q ≡ Keeper.By t → IsLeft q → ⊥
not_left q t by left = subst IsLeft by left

pub close_won : (k : Key) (g : Shadow) (m : Mem) (l : Locals) (t e : ℕ) → OrphansGood k g (core_in m l)
    → l.tasks t ≡ Task.Leaving e LeaveAt.Close
    → MailGood k (with_mail e (Mail.Leaving t) g.mail)
    (mailing.core_in (stored k m (Word.Public e) (public_word Public.Unusable)) (mail_locals l))
    → OrphansGood k (with_way e (Mail.Leaving t) g)
    (core_in (stored k m (Word.Public e) (public_word Public.Unusable))
    (with_task t (Task.Leaving e LeaveAt.Header) l))
close_won k g m l t e good is mail =
    let s = core_in m l in
    let fits = fits_at k g s t (Task.Leaving e LeaveAt.Close) is good in
    let by = fits.1 in
    let valid = inside_by k g s t e good by in
    let task = Task.Leaving e LeaveAt.Header in
    let l' = with_task t task l in
    let way = put-same g.mail.mail e (Mail.Leaving t) in
    to_stored (λ x. OrphansGood k (with_way e (Mail.Leaving t) g) (core_in x l')) k m (Word.Public e)
    (public_word Public.Unusable) valid
    (word_keeps k t e task (with_mail e (Mail.Leaving t) g.mail)
    (λ x. public_of (write m publics e (public_word Public.Unusable) publics x)) s.nexts s.owns s.headers g s good
    (record {
      only = record {
        way = put-other g.mail.mail e (Mail.Leaving t);
        next = λ x _. refl;
        keeper = λ x _. refl;
        record' = λ x _. refl;
        header = λ x _. refl;
        own = λ x _. refl;
      };
      mail = to_written (λ x. MailGood k (with_mail e (Mail.Leaving t) g.mail) (mailing.core_in x (mail_locals l))) k m
          (Word.Public e) (public_word Public.Unusable) valid mail;
      others = λ o ne. record {
        kept = λ z _. ne (let q : Keeper.By o ≡ Keeper.By t = sym z ∙ by in cc);
        leaving = λ z. ne (let q : Keeper.By t ≡ Keeper.By o = sym by
            ∙ (way_fits k g s e (Mail.Leaving o) good z).0 in let e : t ≡ o = cc in sym e);
        adopted = λ z. ne (let q = subst (mailing.IsAdopter o) by (way_fits k g s e
            (Mail.Adopted o) good z).0 in sym q);
        hand = λ z. let q : Keeper.Adopting o ≡ Keeper.By t = sym z ∙ by in cc;
        begun = λ z. (way_fits k g s e (Mail.Begun o) good z).0 (subst IsThere (sym by) tt);
        hand' = λ z. let q : Keeper.Adopting o ≡ Keeper.By t = sym z ∙ by in cc;
        leaving' = λ z. ne (let q : Mail.Leaving t ≡ Mail.Leaving o = sym way ∙ z in let e : t ≡ o = cc in sym e);
        adopted' = λ z _. let q : Mail.Leaving t ≡ Mail.Adopted o = sym way ∙ z in cc;
      };
      orphan = ap is_orphan by;
      returned = λ x. sym (ap (is_returned x) is);
      about = refl;
      about' = subst (IsAbout e) (sym is) refl;
      own = own_at k g s t e task good by (close-same ∙ own_was k g s t e (Task.Leaving e LeaveAt.Close) good by is);
      header = good.headers_fit e;
      fits = (fits.0, by, way);
      leaving = each (λ x q. q ≡ Mail.Leaving t → x ≡ e) g.mail.mail e (Mail.Leaving t)
          (λ x ne z. leaving_at k g s t (Task.Leaving e LeaveAt.Close) is good x z) (λ _. refl);
      joining = each (λ x q. q ≡ Mail.Adopted t → l.book.keeper x ≡ Keeper.By t → ⊥) g.mail.mail e (Mail.Leaving t)
          (λ x ne z by. joining_at k g s t (Task.Leaving e LeaveAt.Close) is good x z by) (λ z _. cc);
    }))
  where
    close-same : own_kept t (Task.Leaving e LeaveAt.Header) e ≡ own_kept t (Task.Leaving e LeaveAt.Close) e
    close-same = refl

pub closes-as : (k : Key) (g : Shadow) (m : Mem) (l : Locals) (t e : ℕ) → OrphansGood k g (core_in m l)
    → l.tasks t ≡ Task.Leaving e LeaveAt.Close
    → OrphansGood k (shadow_left l t e (leave_learn LeaveAt.Close (found m (leave_course
    (leave_of l e) LeaveAt.Close))) g)
    (core_in (after k m (leave_course (leave_of l e) LeaveAt.Close))
    (left_as t e (leave_learn LeaveAt.Close (found m (leave_course (leave_of l e) LeaveAt.Close))) l))
closes-as k g m l t e good is =
    cases (eqb (m publics e) (public_word Public.Null)) refl (public_of (m publics e)) refl
    (steps_keep_mail k g.mail m (mail_locals l) (shadow_closed t e (public_of (m publics e)) g.mail)
    (after k m (close_action e)) (mail_locals l) good.mail (MailStep.closes t e by))
  where
    by : l.book.keeper e ≡ Keeper.By t
    by = (fits_at k g (core_in m l) t (Task.Leaving e LeaveAt.Close) is good).1

    cases : (b : Bool) → eqb (m publics e) (public_word Public.Null) ≡ b → (p : Public) → public_of (m publics e) ≡ p
        → MailGood k (shadow_closed t e p g.mail)
        (mailing.core_in (cond b (stored k m (Word.Public e) (public_word Public.Unusable)) m) (mail_locals l))
        → OrphansGood k (shadow_left l t e (leave_closed p) g)
        (core_in (cond b (stored k m (Word.Public e) (public_word Public.Unusable)) m) (left_as t e (leave_closed p) l))
    cases true won Public.Null at mail = close_won k g m l t e good is mail
    cases true won Public.Unusable at mail = absurd (let null =
        ap public_of (eqb-true (m publics e) (public_word Public.Null) won) ∙ null-reads in
        let q : Public.Null ≡ Public.Unusable = sym null ∙ at in cc)
    cases true won (Public.Filled u) at mail = absurd (let null =
        ap public_of (eqb-true (m publics e) (public_word Public.Null) won) ∙ null-reads in
        let q : Public.Null ≡ Public.Filled u = sym null ∙ at in cc)
    cases false lost Public.Null at mail =
        absurd (eqb-false (m publics e) (public_word Public.Null) lost (word_null (m publics e) at))
    cases false lost Public.Unusable at mail = close_other k g m l t e good is
    cases false lost (Public.Filled u) at mail = close_other k g m l t e good is

-- O1, O2
pub header_stored : (k : Key) (g : Shadow) (m : Mem) (l : Locals) (t e : ℕ) → OrphansGood k g (core_in m l)
    → l.tasks t ≡ Task.Leaving e LeaveAt.Header
    → OrphansGood k g (core_in (stored k m (Word.Header e) (to_header (record_of l.book e)))
    (with_task t (Task.Leaving e LeaveAt.Disown) l))
header_stored k g m l t e good is =
    let s = core_in m l in
    let v = to_header (record_of l.book e) in
    let fits = fits_at k g s t (Task.Leaving e LeaveAt.Header) is good in
    let by = fits.1 in
    let valid = inside_by k g s t e good by in
    let task = Task.Leaving e LeaveAt.Disown in
    let r = words_core t task s.publics s.nexts s.owns (put (m headers) e v) s in
    to_stored (λ x. OrphansGood k g (core_in x (with_task t task l))) k m (Word.Header e) v valid
    (word_keeps k t e task g.mail s.publics s.nexts s.owns (put (m headers) e v) g s good (record {
      only = record {
        way = λ x _. refl;
        next = λ x _. refl;
        keeper = λ x _. refl;
        record' = λ x _. refl;
        header = put-other (m headers) e v;
        own = λ x _. refl;
      };
      mail = good.mail;
      others = λ o ne. apart_kept k g s g r t e o good by by ne refl;
      orphan = ap is_orphan by;
      returned = λ x. sym (ap (is_returned x) is);
      about = refl;
      about' = subst (IsAbout e) (sym is) refl;
      own = own_at k g s t e task good by (own_was k g s t e (Task.Leaving e LeaveAt.Header) good by is);
      header = λ left. absurd (not_left (l.book.keeper e) t by left);
      fits = (fits.0, by, (fits.2, put-same (m headers) e v));
      leaving = leaving_at k g s t (Task.Leaving e LeaveAt.Header) is good;
      joining = joining_at k g s t (Task.Leaving e LeaveAt.Header) is good;
    }))

pub disowned : (k : Key) (g : Shadow) (m : Mem) (l : Locals) (t e : ℕ) → OrphansGood k g (core_in m l)
    → l.tasks t ≡ Task.Leaving e LeaveAt.Disown
    → OrphansGood k g (core_in (stored k m (Word.Own e) (own_word Own.Orphan))
    (with_task t (Task.Leaving e (LeaveAt.Push PushAt.Look)) l))
disowned k g m l t e good is =
    let s = core_in m l in
    let v = own_word Own.Orphan in
    let fits = fits_at k g s t (Task.Leaving e LeaveAt.Disown) is good in
    let by = fits.1 in
    let valid = inside_by k g s t e good by in
    let task = Task.Leaving e (LeaveAt.Push PushAt.Look) in
    let w = λ (x : ℕ). own_of (put (m owns) e v x) in
    let r = words_core t task s.publics s.nexts w s.headers s in
    let now : own_of (put (m owns) e v e) ≡ Own.Orphan = ap own_of (put-same (m owns) e v) ∙ orphan-reads in
    to_stored (λ x. OrphansGood k g (core_in x (with_task t task l))) k m (Word.Own e) v valid
    (word_keeps k t e task g.mail s.publics s.nexts w s.headers g s good (record {
      only = record {
        way = λ x _. refl;
        next = λ x _. refl;
        keeper = λ x _. refl;
        record' = λ x _. refl;
        header = λ x _. refl;
        own = λ x ne. ap own_of (put-other (m owns) e v x ne);
      };
      mail = good.mail;
      others = λ o ne. apart_kept k g s g r t e o good by by ne refl;
      orphan = ap is_orphan by;
      returned = λ x. sym (ap (is_returned x) is);
      about = refl;
      about' = subst (IsAbout e) (sym is) refl;
      own = subst (λ q. OwnFits (put l.tasks t task) e q (own_of (put (m owns) e v e))) (sym by)
          (now ∙ sym here ∙ ap (λ q. own_kept t q e) (sym (put-same l.tasks t task)));
      header = λ left. absurd (not_left (l.book.keeper e) t by left);
      fits = (fits.0, by, (fits.2.0, fits.2.1, tt));
      leaving = leaving_at k g s t (Task.Leaving e LeaveAt.Disown) is good;
      joining = joining_at k g s t (Task.Leaving e LeaveAt.Disown) is good;
    }))
  where
    here : own_kept t (Task.Leaving e (LeaveAt.Push PushAt.Look)) e ≡ Own.Orphan
    here = grind (arith, nat_tests)

-- what is found at the head of a chain of orphans is a slab's
pub orphan-item : (k : Key) (g : Shadow) (m : Mem) (l : Locals) (c : ℕ) (o : Option ℕ) → link_of (m orphans c) ≡ o
    → OrphansGood k g (core_in m l) → FitsNextLink o
orphan-item k g m l c None is good = tt
orphan-item k g m l c (Some x) is good =
    low (g.left c) (subst (λ q. IsChain (links_in (core_in m l).nexts) (item_link q) (g.left c) 0) is
    (good.left_chains c)) refl
  where
    orphan_is : (q : Keeper) → 0 < is_orphan q → IsThere q
    orphan_is Keeper.Nobody some = absurd (omega arith)
    orphan_is (Keeper.By t) some = tt
    orphan_is Keeper.Orphan some = tt
    orphan_is (Keeper.Adopting t) some = tt
    orphan_is (Keeper.Cached t) some = absurd (omega arith)

    there : (y : ℕ) → 0 < tally y (g.left c) → 0 < is_orphan (l.book.keeper y)
    there y some = let n = good.left_once c y in grind (arith, nat_tests)

    low : (xs : List ℕ) → IsChain (links_in (core_in m l).nexts) (To x) xs 0 → g.left c ≡ xs → x + 1 < 2 ^ 63
    low [] chain e = absurd (cc)
    low (y ∷ ys) (first, chain) e =
        let same : x ≡ y = cc in
        let few = good.mail.places.inside y (orphan_is (l.book.keeper y) (there y (first-among y ys (g.left c) e))) in
        let span = good.mail.places.span in omega arith

-- O3, and a lost O5
pub push_goes : (k : Key) (g : Shadow) (m : Mem) (l : Locals) (t e : ℕ) (at next : PushAt) → OrphansGood k g
    (core_in m l)
    → l.tasks t ≡ Task.Leaving e (LeaveAt.Push at) → PushesAt (core_in m l) e next
    → OrphansGood k g (core_in m (with_task t (Task.Leaving e (LeaveAt.Push next)) l))
push_goes k g m l t e at next good is pushes =
    let s = core_in m l in
    let fits = fits_at k g s t (Task.Leaving e (LeaveAt.Push at)) is good in
    stand_keeps k t (Task.Leaving e (LeaveAt.Push next)) g s good (λ x. sym (ap (is_returned x) is))
    (λ x. sym (ap (λ q. own_kept t q x) is)) (fits.0, fits.1, (fits.2.0, fits.2.1, pushes))
    (leaving_at k g s t (Task.Leaving e (LeaveAt.Push at)) is good)
    (joining_at k g s t (Task.Leaving e (LeaveAt.Push at)) is good)

-- O4
pub push_links : (k : Key) (g : Shadow) (m : Mem) (l : Locals) (t e word : ℕ) → OrphansGood k g (core_in m l)
    → l.tasks t ≡ Task.Leaving e (LeaveAt.Push (PushAt.Link word))
    → OrphansGood k g (core_in (stored k m (Word.Next e) (next_word (Next.Link (link_of word))))
    (with_task t (Task.Leaving e (LeaveAt.Push (PushAt.Exchange word))) l))
push_links k g m l t e word good is =
    let s = core_in m l in
    let v = next_word (Next.Link (link_of word)) in
    let at = LeaveAt.Push (PushAt.Link word) in
    let fits = fits_at k g s t (Task.Leaving e at) is good in
    let by = fits.1 in
    let valid = inside_by k g s t e good by in
    let task = Task.Leaving e (LeaveAt.Push (PushAt.Exchange word)) in
    let n = λ (x : ℕ). next_of (put (m nexts) e v x) in
    let r = words_core t task s.publics n s.owns s.headers s in
    to_stored (λ x. OrphansGood k g (core_in x (with_task t task l))) k m (Word.Next e) v valid
    (word_keeps k t e task g.mail s.publics n s.owns s.headers g s good (record {
      only = record {
        way = λ x _. refl;
        next = λ x ne. ap next_of (put-other (m nexts) e v x ne);
        keeper = λ x _. refl;
        record' = λ x _. refl;
        header = λ x _. refl;
        own = λ x _. refl;
      };
      mail = to_written (λ x. MailGood k g.mail (mailing.core_in x (mail_locals l))) k m (Word.Next e) v valid
          (steps_keep_mail k g.mail m (mail_locals l) g.mail (stored k m (Word.Next e) v) (mail_locals l) good.mail
          (MailStep.links t e v (IsMoving.leaving fits.2.0)));
      others = λ o ne. apart_kept k g s g r t e o good by by ne refl;
      orphan = ap is_orphan by;
      returned = λ x. sym (ap (is_returned x) is);
      about = refl;
      about' = subst (IsAbout e) (sym is) refl;
      own = own_at k g s t e task good by (own_was k g s t e (Task.Leaving e at) good by is);
      header = λ left. absurd (not_left (l.book.keeper e) t by left);
      fits = (
        fits.0,
        by,
        (
          fits.2.0,
          fits.2.1,
          ap next_of (put-same (m nexts) e v) ∙ nexts_read_back (Next.Link (link_of word)) fits.2.2,
        ),
      );
      leaving = leaving_at k g s t (Task.Leaving e at) is good;
      joining = joining_at k g s t (Task.Leaving e at) is good;
    }))
