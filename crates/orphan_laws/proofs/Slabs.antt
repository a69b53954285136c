-- A slab begins, ends, has another record, and is joined by its adopter.
use Rattle.std.proofs.Common.{◌≡◌, ◌≢◌, ℕ, ◌<◌, Bool, true, false, Option, Some, None, List, [], ◌∷◌}
use Rattle.std.proofs.Common.{refl, sym, ap, subst, arith, ◌∙◌}
use Rattle.pool_words.specs.declared.words.Key.{Key}
use Rattle.pool_words.specs.declared.words.Word.{Word}
use Rattle.pool_words.specs.Words.{publics, nexts, owns}
use Rattle.word_codes.specs.declared.nexts.Next.{Next}
use Rattle.word_codes.specs.declared.owns.Own.{Own}
use Rattle.word_codes.specs.declared.publics.Public.{Public}
use Rattle.word_codes.specs.Nexts.{next_of}
use Rattle.word_codes.specs.Owns.{own_of, own_word}
use Rattle.word_codes.specs.Places.{slab_granule}
use Rattle.word_codes.specs.Publics.{public_of, public_word}
use Rattle.orphans.specs.declared.adopting.AdoptAt.{AdoptAt}
use Rattle.word_laws.specs.Memory.{Mem, put, stored}
use Rattle.chain_laws.specs.Chains.{IsChain}
use Rattle.chain_laws.specs.Chains.Link.{Ends}
use Rattle.slab_laws.specs.Books.{Keeper, Book, IsThere, IsLeft, record_of, with_begun, with_ended}
use Rattle.slab_laws.proofs.CallerLemmas.{put-same, put-other, each}
use Rattle.mail_laws.specs.Mail as mailing
use Rattle.mail_laws.specs.Mail.{Mail, key_by, links_in, MailGood}
use Rattle.mail_laws.specs.Steps.{with_mail, MailStep}
use Rattle.mail_laws.proofs.CallerLemmas.{null_is_rest, steps_keep_mail}
use Rattle.orphan_laws.specs.Orphans.{Task, Shadow, Locals, Core, core_in, mail_core, mail_locals, IsLeaving}
use Rattle.orphan_laws.specs.Orphans.{own_kept, OwnFits, is_orphan, is_adopting, is_returned, TaskFits, OrphansGood}
use Rattle.orphan_laws.specs.Steps.{with_task, with_book, with_way, rested_on, RecordOnly}
use Rattle.orphan_laws.proofs.Seats.{seats_keep, all_stay, fits_at, leaving_at, joining_at, OnlyAt, Apart}
use Rattle.orphan_laws.proofs.Seats.{rely_only}
use Rattle.orphan_laws.proofs.Rows.{way_fits, IsAbout, own-else, row_keeps, left_same, chains_same, hands_same}
use Rattle.orphan_laws.proofs.Rows.{stand_keeps, words_core, word_keeps}
use Rattle.orphan_laws.proofs.Leaving.{inside_by, own_at}
use Rattle.orphan_laws.proofs.Words.{to_stored, to_written, kept-reads}

-- a granule where no slab is has no way of a moved slab, and one that is to begin is this seat's
begun_apart : (k : Key) (g : Shadow) (s : Core) (h : Shadow) (r : Core) (t e o : ℕ) → OrphansGood k g s → o ≢ t
    → g.mail.mail e ≡ Mail.Begun t → (r.book.keeper e ≡ s.book.keeper e) → h.mail.mail e ≡ g.mail.mail e
    → Apart o e g s h r
begun_apart k g s h r t e o good ne is keeper way = record {
  kept = λ z _. (way_fits k g s e (Mail.Begun t) good is).0 (subst IsThere (sym z) tt);
  leaving = λ z. let q : Mail.Begun t ≡ Mail.Leaving o = sym is ∙ z in cc;
  adopted = λ z. let q : Mail.Begun t ≡ Mail.Adopted o = sym is ∙ z in cc;
  hand = λ z. (way_fits k g s e (Mail.Begun t) good is).0 (subst IsThere (sym z) tt);
  begun = λ z. ne (let q : Mail.Begun t ≡ Mail.Begun o = sym is ∙ z in let e : t ≡ o = cc in sym e);
  hand' = λ z. (way_fits k g s e (Mail.Begun t) good is).0 (subst IsThere (sym (sym keeper ∙ z)) tt);
  leaving' = λ z. let q : Mail.Begun t ≡ Mail.Leaving o = sym is ∙ sym way ∙ z in cc;
  adopted' = λ z _. let q : Mail.Begun t ≡ Mail.Adopted o = sym is ∙ sym way ∙ z in cc;
}

-- what is so of a granule where no slab is
absent_orphan : (q : Keeper) → (IsThere q → ⊥) → is_orphan q ≡ 0
absent_orphan Keeper.Nobody none = refl
absent_orphan (Keeper.By t) none = refl
absent_orphan Keeper.Orphan none = absurd (none tt)
absent_orphan (Keeper.Adopting t) none = refl
absent_orphan (Keeper.Cached t) none = refl

absent_adopting : (o : ℕ) (q : Keeper) → (IsThere q → ⊥) → is_adopting o q ≡ 0
absent_adopting o Keeper.Nobody none = refl
absent_adopting o (Keeper.By t) none = refl
absent_adopting o Keeper.Orphan none = refl
absent_adopting o (Keeper.Adopting t) none = absurd (none tt)
absent_adopting o (Keeper.Cached t) none = refl

absent_own : (tasks : ℕ → Task) (e : ℕ) (q : Keeper) (own : Own) → (IsThere q → ⊥) → OwnFits tasks e q own
absent_own tasks e Keeper.Nobody own none = tt
absent_own tasks e (Keeper.By t) own none = absurd (none tt)
absent_own tasks e Keeper.Orphan own none = absurd (none tt)
absent_own tasks e (Keeper.Adopting t) own none = absurd (none tt)
absent_own tasks e (Keeper.Cached t) own none = tt

absent_left : (q : Keeper) → (IsThere q → ⊥) → IsLeft q → ⊥
absent_left Keeper.Nobody none left = left
absent_left (Keeper.By t) none left = left
absent_left Keeper.Orphan none left = none tt
absent_left (Keeper.Adopting t) none left = none tt
absent_left (Keeper.Cached t) none left = left

-- O8 of a new slab
pub owned_first : (k : Key) (g : Shadow) (m : Mem) (l : Locals) (t e class : ℕ) → OrphansGood k g (core_in m l)
    → l.tasks t ≡ Task.Away → l.mails t ≡ mailing.Task.Settled e class
    → OrphansGood k g (core_in (stored k m (Word.Own e) (own_word (Own.Kept t))) (with_task t (Task.Owning e) l))
owned_first k g m l t e class good is settled =
    let s = core_in m l in
    let v = own_word (Own.Kept t) in
    let mail = (subst (mailing.TaskFits k g.mail (mail_core s) t) settled (good.mail.tasks' t)).0 in
    let none = (way_fits k g s e (Mail.Begun t) good mail.begun).0 in
    let fits = fits_at k g s t Task.Away is good in
    let few : t < 256 = (let f = mail.seat' in let most = good.mail.places.seats in omega arith) in
    let task = Task.Owning e in
    let w = λ (x : ℕ). own_of (put (m owns) e v x) in
    let r = words_core t task s.publics s.nexts w s.headers s in
    to_stored (λ x. OrphansGood k g (core_in x (with_task t task l))) k m (Word.Own e) v mail.inside
    (word_keeps k t e task g.mail s.publics s.nexts w s.headers g s good (record {
      only = record {
        way = λ x _. refl;
        next = λ x _. refl;
        keeper = λ x _. refl;
        record' = λ x _. refl;
        header = λ x _. refl;
        own = λ x ne. ap own_of (put-other (m owns) e v x ne);
      };
      mail = good.mail;
      others = λ o ne. begun_apart k g s g r t e o good ne mail.begun refl refl;
      orphan = absent_orphan (l.book.keeper e) none;
      returned = λ x. sym (ap (is_returned x) is);
      about = tt;
      about' = subst (IsAbout e) (sym is) tt;
      own = absent_own (put l.tasks t task) e (l.book.keeper e) (own_of (put (m owns) e v e)) none;
      header = λ left. absurd (absent_left (l.book.keeper e) none left);
      fits = (fits, record { begun = mail.begun; own = ap own_of (put-same (m owns) e v) ∙ kept-reads t few });
      leaving = leaving_at k g s t Task.Away is good;
      joining = joining_at k g s t Task.Away is good;
    }))

-- P5 of an adopted slab
pub joined : (k : Key) (g : Shadow) (m : Mem) (l : Locals) (t class e : ℕ) (rest : Option ℕ)
    → OrphansGood k g (core_in m l) → l.tasks t ≡ Task.Joining class e rest
    → OrphansGood k (with_way e Mail.Rest g) (core_in (stored k m (Word.Public e) (public_word Public.Null))
    (with_task t (Task.Resting class rest) l))
joined k g m l t class e rest good is =
    let s = core_in m l in
    let v = public_word Public.Null in
    let fits = fits_at k g s t (Task.Joining class e rest) is good in
    let join = fits.1 in
    let by = join.kept in
    let valid = inside_by k g s t e good by in
    let task = Task.Resting class rest in
    let p = λ (x : ℕ). public_of (put (m publics) e v x) in
    let h = with_way e Mail.Rest g in
    let way = put-same g.mail.mail e Mail.Rest in
    to_stored (λ x. OrphansGood k h (core_in x (with_task t task l))) k m (Word.Public e) v valid
    (word_keeps k t e task (with_mail e Mail.Rest g.mail) p s.nexts s.owns s.headers g s good (record {
      only = record {
        way = put-other g.mail.mail e Mail.Rest;
        next = λ x _. refl;
        keeper = λ x _. refl;
        record' = λ x _. refl;
        header = λ x _. refl;
        own = λ x _. refl;
      };
      mail = to_written (λ x. MailGood k (with_mail e Mail.Rest g.mail) (mailing.core_in x (mail_locals l))) k m
          (Word.Public e) v valid
          (steps_keep_mail k g.mail m (mail_locals l) (with_mail e Mail.Rest g.mail) (stored k m (Word.Public e) v)
          (mail_locals l) good.mail (MailStep.takes_adopted t e join.adopted by
          (join.home ∙ ap (λ c. Next.Mailbox (key_by t c)) (sym join.class'))));
      others = λ o ne. record {
        kept = λ z _. ne (let q : Keeper.By o ≡ Keeper.By t = sym z ∙ by in cc);
        leaving = λ z. let q : Mail.Adopted t ≡ Mail.Leaving o = sym join.adopted ∙ z in cc;
        adopted = λ z. ne (let q : Mail.Adopted o ≡ Mail.Adopted t = sym z ∙ join.adopted in cc);
        hand = λ z. let q : Keeper.Adopting o ≡ Keeper.By t = sym z ∙ by in cc;
        begun = λ z. let q : Mail.Adopted t ≡ Mail.Begun o = sym join.adopted ∙ z in cc;
        hand' = λ z. let q : Keeper.Adopting o ≡ Keeper.By t = sym z ∙ by in cc;
        leaving' = λ z. let q : Mail.Rest ≡ Mail.Leaving o = sym way ∙ z in cc;
        adopted' = λ z _. let q : Mail.Rest ≡ Mail.Adopted o = sym way ∙ z in cc;
      };
      orphan = ap is_orphan by;
      returned = λ x. sym (ap (is_returned x) is);
      about = tt;
      about' = subst (IsAbout e) (sym is) tt;
      own = own_at k g s t e task good by (ap (λ q. own_kept t q e) (sym is)
          ∙ sym (subst (λ q. OwnFits l.tasks e q (s.owns e)) by (good.owns_fit e)));
      header = good.headers_fit e;
      fits = (
        record { class' = fits.0.class'; seat' = fits.0.seat'; of = fits.0.of },
        join.spares,
        join.behind,
      );
      leaving = each (λ x q. q ≡ Mail.Leaving t → ⊥) g.mail.mail e Mail.Rest
          (λ x _ z. leaving_at k g s t (Task.Joining class e rest) is good x z) (λ z. cc);
      joining = each (λ x q. q ≡ Mail.Adopted t → l.book.keeper x ≡ Keeper.By t → ⊥) g.mail.mail e Mail.Rest
          (λ x ne z w. ne (joining_at k g s t (Task.Joining class e rest) is good x z w)) (λ z _. cc);
    }))

-- on to the next of the orphans in hand
pub rested : (k : Key) (g : Shadow) (m : Mem) (l : Locals) (t class : ℕ) (rest : Option ℕ) (enough : Bool)
    → OrphansGood k g (core_in m l) → l.tasks t ≡ Task.Resting class rest
    → OrphansGood k g (core_in m (rested_on t class enough rest l))
rested k g m l t class None enough good is =
    let s = core_in m l in
    let fits = fits_at k g s t (Task.Resting class None) is good in
    stand_keeps k t Task.Away g s good (λ x. sym (ap (is_returned x) is)) (λ x. sym (ap (λ q. own_kept t q x) is))
    (fits.1, ends (g.taken t) fits.2)
    (leaving_at k g s t (Task.Resting class None) is good) (joining_at k g s t (Task.Resting class None) is good)
  where
    ends : (xs : List ℕ) → IsChain (links_in (core_in m l).nexts) (Ends 0) xs 0 → xs ≡ []
    ends [] chain = refl
    ends (x ∷ xs) (first, chain) = absurd (cc)
rested k g m l t class (Some e) true good is =
    let s = core_in m l in
    let fits = fits_at k g s t (Task.Resting class (Some e)) is good in
    stand_keeps k t (Task.Adopting class (AdoptAt.Spare e)) g s good (λ x. sym (ap (is_returned x) is))
    (λ x. sym (ap (λ q. own_kept t q x) is))
    (record { class' = fits.0.class'; seat' = fits.0.seat'; of = fits.0.of }, fits.2)
    (leaving_at k g s t (Task.Resting class (Some e)) is good)
    (joining_at k g s t (Task.Resting class (Some e)) is good)
rested k g m l t class (Some e) false good is =
    let s = core_in m l in
    let fits = fits_at k g s t (Task.Resting class (Some e)) is good in
    stand_keeps k t (Task.Adopting class (AdoptAt.Header e)) g s good (λ x. sym (ap (is_returned x) is))
    (λ x. sym (ap (λ q. own_kept t q x) is))
    (record { class' = fits.0.class'; seat' = fits.0.seat'; of = fits.0.of }, (fits.1, fits.2))
    (leaving_at k g s t (Task.Resting class (Some e)) is good)
    (joining_at k g s t (Task.Resting class (Some e)) is good)

-- F8: a slab begins
pub begun-as : (k : Key) (g : Shadow) (m : Mem) (l : Locals) (t e class : ℕ) → OrphansGood k g (core_in m l)
    → l.tasks t ≡ Task.Owning e → l.mails t ≡ mailing.Task.Settled e class → slab_granule e ≡ e
    → OrphansGood k (with_way e Mail.Rest g) (core_in m (record l {
      book = with_begun t e class l.book;
      mails = put l.mails t mailing.Task.Away;
      tasks = put l.tasks t Task.Away;
    }))
begun-as k g m l t e class good is settled even =
    row_keeps k t e g s h r good (record {
      only = only;
      mail = steps_keep_mail k g.mail m (mail_locals l) (with_mail e Mail.Rest g.mail) m (record {
        keeper = put l.book.keeper e (Keeper.By t);
        classes = put l.book.classes e class;
        tasks = put l.mails t mailing.Task.Away;
      }) good.mail (MailStep.slab_begins t e class settled);
      even = λ _. even;
      tasks_else = put-other l.tasks t Task.Away;
      own_else = λ x ne. own-else t e x (put l.tasks t Task.Away t)
          (subst (IsAbout e) (sym (put-same l.tasks t Task.Away)) tt) ne
          ∙ sym (own-else t e x (l.tasks t) (subst (IsAbout e) (sym is) tt) ne);
      own = subst (λ q. OwnFits (put l.tasks t Task.Away) e q (own_of (m owns e))) (sym now)
          (fits.1.own ∙ ap (λ q. own_kept t q e) (sym (put-same l.tasks t Task.Away)));
      header = λ left. absurd (subst IsLeft now left);
      left_once = left_same e g s h r only (absent_orphan (l.book.keeper e) none) (ap is_orphan now) good.left_once;
      hands_once = hands_same t g.taken l.spares l.book.keeper (put l.book.keeper e (Keeper.By t)) l.tasks
          (put l.tasks t Task.Away) (put-other l.tasks t Task.Away)
          (λ x. ap (is_returned x) (put-same l.tasks t Task.Away) ∙ sym (ap (is_returned x) is))
          (λ o. each (λ x q. is_adopting o q ≡ is_adopting o (l.book.keeper x)) l.book.keeper e (Keeper.By t)
          (λ x _. refl) (sym (absent_adopting o (l.book.keeper e) none))) good.hands_once;
      left_chains = chains_same e g s h r only (absent_orphan (l.book.keeper e) none) good.left_once good.left_chains;
      rooms = good.rooms;
    })
    (seats_keep k t Task.Away g s h r good (record {
      others = λ o ne. rely_only o e g s h r only (record {
        kept = λ z _. none (subst IsThere (sym z) tt);
        leaving = λ z. let q : Mail.Begun t ≡ Mail.Leaving o = sym begun ∙ z in cc;
        adopted = λ z. let q : Mail.Begun t ≡ Mail.Adopted o = sym begun ∙ z in cc;
        hand = λ z. none (subst IsThere (sym z) tt);
        begun = λ z. ne (let q : Mail.Begun t ≡ Mail.Begun o = sym begun ∙ z in let e : t ≡ o = cc in sym e);
        hand' = λ z. let q : Keeper.By t ≡ Keeper.Adopting o = sym now ∙ z in cc;
        leaving' = λ z. let q : Mail.Rest ≡ Mail.Leaving o = sym way ∙ z in cc;
        adopted' = λ z _. let q : Mail.Rest ≡ Mail.Adopted o = sym way ∙ z in cc;
      }) (put-other l.tasks t Task.Away o ne) refl refl;
      stands = put-same l.tasks t Task.Away;
      task' = fits.0;
      leaving = each (λ x q. q ≡ Mail.Leaving t → ⊥) g.mail.mail e Mail.Rest
          (λ x _ z. leaving_at k g s t (Task.Owning e) is good x z) (λ z. cc);
      joining = each (λ x q. q ≡ Mail.Adopted t → put l.book.keeper e (Keeper.By t) x ≡ Keeper.By t → ⊥) g.mail.mail e
          Mail.Rest (λ x ne z w. joining_at k g s t (Task.Owning e) is good x z
          (sym (put-other l.book.keeper e (Keeper.By t) x ne) ∙ w)) (λ z _. cc);
    }))
  where
    s : Core
    s = core_in m l

    h : Shadow
    h = with_way e Mail.Rest g

    r : Core
    r = core_in m (record l {
      book = with_begun t e class l.book;
      mails = put l.mails t mailing.Task.Away;
      tasks = put l.tasks t Task.Away;
    })

    fits : TaskFits k g (core_in m l) t (Task.Owning e)
    fits = fits_at k g (core_in m l) t (Task.Owning e) is good

    begun : g.mail.mail e ≡ Mail.Begun t
    begun = fits.1.begun

    none : IsThere (l.book.keeper e) → ⊥
    none = (way_fits k g (core_in m l) e (Mail.Begun t) good fits.1.begun).0

    now : put l.book.keeper e (Keeper.By t) e ≡ Keeper.By t
    now = put-same l.book.keeper e (Keeper.By t)

    way : put g.mail.mail e Mail.Rest e ≡ Mail.Rest
    way = put-same g.mail.mail e Mail.Rest

    only : OnlyAt e g (core_in m l) (with_way e Mail.Rest g) (core_in m (record l {
      book = with_begun t e class l.book;
      mails = put l.mails t mailing.Task.Away;
      tasks = put l.tasks t Task.Away;
    }))
    only = record {
      way = put-other g.mail.mail e Mail.Rest;
      next = λ x _. refl;
      keeper = put-other l.book.keeper e (Keeper.By t);
      record' = λ x ne i. record {
        slab = x;
        class = put-other l.book.classes e class x ne i;
        handed = put-other l.book.handed e 0 x ne i;
        count = put-other l.book.counts e 0 x ne i;
        head = put-other l.book.heads e None x ne i;
      };
      header = λ x _. refl;
      own = λ x _. refl;
    }

-- F8: a slab ends
pub ended-as : (k : Key) (g : Shadow) (m : Mem) (l : Locals) (t e : ℕ) → OrphansGood k g (core_in m l)
    → l.book.keeper e ≡ Keeper.By t → public_of (m publics e) ≡ Public.Null → (IsLeaving (l.tasks t) e → ⊥)
    → OrphansGood k (with_way e Mail.Absent g) (core_in m (with_book (with_ended e l.book) l))
ended-as k g m l t e good by null away =
    row_keeps k t e g s h r good (record {
      only = only;
      mail = steps_keep_mail k g.mail m (mail_locals l) (with_mail e Mail.Absent g.mail) m
          (record (mail_locals l) { keeper = put l.book.keeper e Keeper.Nobody }) good.mail
          (MailStep.slab_ends t e by null);
      even = λ there. absurd (subst IsThere now there);
      tasks_else = λ o _. refl;
      own_else = λ x _. refl;
      own = subst (λ q. OwnFits l.tasks e q (own_of (m owns e))) (sym now) tt;
      header = λ left. absurd (subst IsLeft now left);
      left_once = left_same e g s h r only (ap is_orphan by) (ap is_orphan now) good.left_once;
      hands_once = hands_same t g.taken l.spares l.book.keeper (put l.book.keeper e Keeper.Nobody) l.tasks l.tasks
          (λ o _. refl) (λ x. refl)
          (λ o. each (λ x q. is_adopting o q ≡ is_adopting o (l.book.keeper x)) l.book.keeper e Keeper.Nobody
          (λ x _. refl) (sym (ap (is_adopting o) by))) good.hands_once;
      left_chains = chains_same e g s h r only (ap is_orphan by) good.left_once good.left_chains;
      rooms = good.rooms;
    })
    (all_stay k g s h r good (λ o. rely_only o e g s h r only (record {
      kept = λ z leaving. away (subst (λ x. IsLeaving (l.tasks x) e)
          (let q : Keeper.By o ≡ Keeper.By t = sym z ∙ by in let same : o ≡ t = cc in same) leaving);
      leaving = λ z. let q : Mail.Rest ≡ Mail.Leaving o = sym rest ∙ z in cc;
      adopted = λ z. let q : Mail.Rest ≡ Mail.Adopted o = sym rest ∙ z in cc;
      hand = λ z. let q : Keeper.Adopting o ≡ Keeper.By t = sym z ∙ by in cc;
      begun = λ z. let q : Mail.Rest ≡ Mail.Begun o = sym rest ∙ z in cc;
      hand' = λ z. let q : Keeper.Nobody ≡ Keeper.Adopting o = sym now ∙ z in cc;
      leaving' = λ z. let q : Mail.Absent ≡ Mail.Leaving o = sym way ∙ z in cc;
      adopted' = λ z _. let q : Mail.Absent ≡ Mail.Adopted o = sym way ∙ z in cc;
    }) refl refl refl))
  where
    s : Core
    s = core_in m l

    h : Shadow
    h = with_way e Mail.Absent g

    r : Core
    r = core_in m (with_book (with_ended e l.book) l)

    rest : g.mail.mail e ≡ Mail.Rest
    rest = null_is_rest (g.mail.mail e) (l.book.keeper e) (l.book.classes e) (public_of (m publics e))
        (next_of (m nexts e)) (good.mail.words e) null (subst IsThere (sym by) tt)

    now : put l.book.keeper e Keeper.Nobody e ≡ Keeper.Nobody
    now = put-same l.book.keeper e Keeper.Nobody

    way : put g.mail.mail e Mail.Absent e ≡ Mail.Absent
    way = put-same g.mail.mail e Mail.Absent

    only : OnlyAt e g (core_in m l) (with_way e Mail.Absent g) (core_in m (with_book (with_ended e l.book) l))
    only = record {
      way = put-other g.mail.mail e Mail.Absent;
      next = λ x _. refl;
      keeper = put-other l.book.keeper e Keeper.Nobody;
      record' = λ x ne i. record {
        slab = x;
        class = l.book.classes x;
        handed = put-other l.book.handed e 0 x ne i;
        count = put-other l.book.counts e 0 x ne i;
        head = put-other l.book.heads e None x ne i;
      };
      header = λ x _. refl;
      own = λ x _. refl;
    }

-- M2, M3, M4, M8: the record of a slab that is not being left
abbrev record_shape : (ℕ → ℕ) → (ℕ → ℕ) → (ℕ → Option ℕ) → Book → Book
record_shape handed counts heads b = record b { handed = handed; counts = counts; heads = heads }

recorded : (k : Key) (g : Shadow) (m : Mem) (l : Locals) (t e : ℕ) (handed counts : ℕ → ℕ) (heads : ℕ → Option ℕ)
    → OrphansGood k g (core_in m l) → l.book.keeper e ≡ Keeper.By t → (IsLeaving (l.tasks t) e → ⊥)
    → ((x : ℕ) → x ≢ e → record_of (record_shape handed counts heads l.book) x ≡ record_of l.book x)
    → OrphansGood k g (core_in m (with_book (record_shape handed counts heads l.book) l))
recorded k g m l t e handed counts heads good by away else =
    row_keeps k t e g s g r good (record {
      only = only;
      mail = good.mail;
      even = good.even e;
      tasks_else = λ o _. refl;
      own_else = λ x _. refl;
      own = good.owns_fit e;
      header = λ left. absurd (subst IsLeft by left);
      left_once = good.left_once;
      hands_once = good.hands_once;
      left_chains = good.left_chains;
      rooms = good.rooms;
    })
    (all_stay k g s g r good (λ o. record {
      task = refl;
      taken = refl;
      spares = refl;
      kept = λ x z leaving. let far : x ≢ e = (λ same. away (subst (λ y. IsLeaving (l.tasks y) e)
          (let q : Keeper.By o ≡ Keeper.By t = sym z ∙ ap l.book.keeper same ∙ by in let w : o ≡ t = cc in w)
          (subst (IsLeaving (l.tasks o)) same leaving))) in
          record { keeper = refl; record' = else x far; header = refl };
      leaving = λ x is. record { way = refl; next = refl };
      adopted = λ x is w. record { way = refl; next = refl; keeper = refl; class' = refl };
      hand = λ x z. (
        refl,
        else x (λ same. let q : Keeper.Adopting o ≡ Keeper.By t = sym z ∙ ap l.book.keeper same ∙ by in
            cc),
      );
      begun = λ x is. (is, refl);
      no_hand = λ x is. (is, refl);
      no_leaving = λ x is. is;
      no_adopted = λ x is w. (is, w);
    }))
  where
    s : Core
    s = core_in m l

    r : Core
    r = core_in m (with_book (record_shape handed counts heads l.book) l)

    only : OnlyAt e g (core_in m l) g (core_in m (with_book (record_shape handed counts heads l.book) l))
    only = record {
      way = λ x _. refl;
      next = λ x _. refl;
      keeper = λ x _. refl;
      record' = else;
      header = λ x _. refl;
      own = λ x _. refl;
    }

pub records-as : (k : Key) (g : Shadow) (m : Mem) (l : Locals) (t e : ℕ) (later : Book) → OrphansGood k g (core_in m l)
    → l.book.keeper e ≡ Keeper.By t → (IsLeaving (l.tasks t) e → ⊥) → RecordOnly e l.book later
    → OrphansGood k g (core_in m (with_book later l))
records-as k g m l t e later good by away only =
    subst (λ (f : ℕ → Keeper). OrphansGood k g (core_in m (with_book (record later { keeper = f }) l)))
    (sym only.keeper)
    (subst (λ (f : ℕ → ℕ). OrphansGood k g
    (core_in m (with_book (record later { keeper = l.book.keeper; classes = f }) l))) (sym only.classes)
    (recorded k g m l t e later.handed later.counts later.heads good by away
    (λ x ne. (λ i. record {
      slab = x;
      class = l.book.classes x;
      handed = (only.else x ne i).handed;
      count = (only.else x ne i).count;
      head = (only.else x ne i).head;
    }))))
