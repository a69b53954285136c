-- A slab is left at last, and orphans that were put aside are pushed back.
use Rattle.std.proofs.Common.{◌≡◌, ◌≢◌, ℕ, zero, suc, ◌+◌, ◌-◌, ◌^◌, ◌<◌, Bool, true, false, cond, eqb, Option, Some}
use Rattle.std.proofs.Common.{None, List, []}
use Rattle.std.proofs.Common.{◌∷◌, length, take, refl, sym, ap, subst, arith, ◌∙◌}
use Rattle.std.specs.Prelude.{slice_get}
use Rattle.std.proofs.lemmas.Bool.Decides.{nat_tests}
use Rattle.std.proofs.lemmas.Bool.{eqb-true}
use Rattle.std.proofs.lemmas.Option.{slice_get_within, slice_get-get_or}
use Rattle.pool_words.specs.declared.words.Key.{Key}
use Rattle.pool_words.specs.declared.words.Word.{Word}
use Rattle.pool_words.specs.Words.{nexts, orphans}
use Rattle.word_codes.specs.declared.nexts.Next.{Next}
use Rattle.word_codes.specs.declared.owns.Own.{Own}
use Rattle.word_codes.specs.Links.{link_of, link_word}
use Rattle.word_codes.specs.Nexts.{next_of, next_word}
use Rattle.word_codes.proofs.CallerLemmas.{nexts_read_back}
use Rattle.heap_slabs.specs.Rolls.{Rolled, newest_of, without_newest}
use Rattle.chain_words.specs.declared.pushing.PushAt.{PushAt}
use Rattle.chain_words.specs.declared.pushing.PushNext.{PushNext}
use Rattle.orphans.specs.declared.leaving.LeaveAt.{LeaveAt}
use Rattle.orphans.specs.Leaving.{leave_course, leave_learn, leave_pushed}
use Rattle.word_laws.specs.Memory.{Mem, put, write, stored, after, found}
use Rattle.word_laws.proofs.CallerLemmas.{equal_or}
use Rattle.chain_laws.specs.Chains.{tally}
use Rattle.slab_laws.specs.Books.{Keeper, IsThere, IsLeft, with_keeper}
use Rattle.slab_laws.proofs.CallerLemmas.{put-same, put-other, each}
use Rattle.mail_laws.specs.Mail as mailing
use Rattle.mail_laws.specs.Mail.{Mail, next_link, links_in, MailGood}
use Rattle.mail_laws.specs.Steps.{with_mail, IsMoving, MailStep}
use Rattle.mail_laws.proofs.CallerLemmas.{link-reads, steps_keep_mail}
use Rattle.orphan_laws.specs.Orphans.{Task, Shadow, Locals, Core, core_in, mail_locals, IsLeaving, IsJoining}
use Rattle.orphan_laws.specs.Orphans.{own_kept, OwnFits, is_orphan, is_adopting, is_returned, in_hand, PushesAt}
use Rattle.orphan_laws.specs.Orphans.{HandFits, TaskFits}
use Rattle.orphan_laws.specs.Orphans.{OrphansGood}
use Rattle.orphan_laws.specs.Steps.{with_task, with_book, leave_of, shadow_pushed, shadow_left, left_as, sparing}
use Rattle.orphan_laws.specs.Steps.{spares_back}
use Rattle.orphan_laws.specs.Steps.{return_of, shadow_returned, returned_as}
use Rattle.orphan_laws.proofs.Seats.{returned-is, fits_at, leaving_at, joining_at, Apart}
use Rattle.orphan_laws.proofs.Rows.{way_taken, IsAbout, own-else, stand_keeps, words_core, word_keeps}
use Rattle.orphan_laws.proofs.Rows.{hand_shadow, hand_core, hand_keeps}
use Rattle.orphan_laws.proofs.Leaving.{inside_by, own_was, orphan-item, closes-as, header_stored, disowned, push_goes}
use Rattle.orphan_laws.proofs.Leaving.{push_links}
use Rattle.orphan_laws.proofs.Pushing.{pushed_core, pushed_keeps}
use Rattle.orphan_laws.proofs.Words.{to_stored, to_written}

-- O5: the slab is an orphan
link_at : (s : Core) (e word : ℕ) (class : ℕ) → s.nexts e ≡ Next.Link (link_of word) → s.heads class ≡ link_of word
    → links_in s.nexts e ≡ mailing.item_link (s.heads class)
link_at s e word class next head = ap next_link next ∙ ap mailing.item_link (sym head)

head_of_class : (m : Mem) (class e : ℕ) → e < 2 ^ 32
    → link_of (put (m orphans) class (link_word (Some e)) class) ≡ Some e
head_of_class m class e few = ap link_of (put-same (m orphans) class (link_word (Some e))) ∙ link-reads e few

left_won : (k : Key) (g : Shadow) (m : Mem) (l : Locals) (t e word : ℕ) → OrphansGood k g (core_in m l)
    → l.tasks t ≡ Task.Leaving e (LeaveAt.Push (PushAt.Exchange word)) → m orphans (l.book.classes e) ≡ word
    → OrphansGood k (shadow_pushed (l.book.classes e) e g)
    (core_in (stored k m (Word.Orphans (l.book.classes e)) (link_word (Some e)))
    (with_task t Task.Away (with_book (with_keeper e Keeper.Orphan l.book) l)))
left_won k g m l t e word good is won =
    let s = core_in m l in
    let class = l.book.classes e in
    let at = LeaveAt.Push (PushAt.Exchange word) in
    let fits = fits_at k g s t (Task.Leaving e at) is good in
    let by = fits.1 in
    let valid = (good.mail.places.kept e t by).0 in
    let few : e < 2 ^ 32 = (let i = inside_by k g s t e good by in let span = good.mail.places.span in omega arith) in
    let v = link_word (Some e) in
    let heads' = λ (c : ℕ). link_of (put (m orphans) (l.book.classes e) (link_word (Some e)) c) in
    let way = put-same g.mail.mail e Mail.Left in
    let keeper = put-same l.book.keeper e Keeper.Orphan in
    to_stored (λ x. OrphansGood k (shadow_pushed class e g)
    (core_in x (with_task t Task.Away (with_book (with_keeper e Keeper.Orphan l.book) l)))) k m
    (Word.Orphans class) v valid
    (pushed_keeps k t e class Task.Away l.spares heads' g s good (record {
      before = ap is_orphan by;
      class' = refl;
      there = subst IsThere (sym by) tt;
      mail = steps_keep_mail k g.mail m (mail_locals l) (with_mail e Mail.Left g.mail) m
          (record (mail_locals l) { keeper = put l.book.keeper e Keeper.Orphan }) good.mail
          (MailStep.leaves t e fits.2.0);
      others = λ o ne. record {
        kept = λ z _. ne (let q : Keeper.By o ≡ Keeper.By t = sym z ∙ by in cc);
        leaving = λ z. ne (let q : Mail.Leaving t ≡ Mail.Leaving o = sym fits.2.0 ∙ z in let e : t ≡ o = cc in sym e);
        adopted = λ z. let q : Mail.Leaving t ≡ Mail.Adopted o = sym fits.2.0 ∙ z in cc;
        hand = λ z. let q : Keeper.Adopting o ≡ Keeper.By t = sym z ∙ by in cc;
        begun = λ z. let q : Mail.Leaving t ≡ Mail.Begun o = sym fits.2.0 ∙ z in cc;
        hand' = λ z. let q : Keeper.Orphan ≡ Keeper.Adopting o = sym keeper ∙ z in cc;
        leaving' = λ z. let q : Mail.Left ≡ Mail.Leaving o = sym way ∙ z in cc;
        adopted' = λ z _. let q : Mail.Left ≡ Mail.Adopted o = sym way ∙ z in cc;
      };
      own = sym (own_was k g s t e (Task.Leaving e at) good by is) ∙ here;
      own_else = λ x ne. sym (own-else t e x (l.tasks t) (subst (IsAbout e) (sym is) refl) ne);
      header = fits.2.1;
      count = λ x. count x (good.hands_once t x) (ap (is_returned x) is) (ap (is_adopting t) by)
          (ap (is_adopting t) keeper);
      spares_else = λ o _. refl;
      room = refl;
      head = head_of_class m class e few;
      head_else = λ c ne. ap link_of (put-other (m orphans) class v c ne);
      linked = link_at s e word class fits.2.2 (ap link_of won);
      fits = fits.0;
      leaving = each (λ x q. q ≡ Mail.Leaving t → ⊥) g.mail.mail e Mail.Left
          (λ x ne z. ne (leaving_at k g s t (Task.Leaving e at) is good x z)) (λ z. cc);
      joining = each (λ x q. q ≡ Mail.Adopted t → put l.book.keeper e Keeper.Orphan x ≡ Keeper.By t → ⊥) g.mail.mail e
          Mail.Left (λ x ne z by. joining_at k g s t (Task.Leaving e at) is good x z
          (sym (put-other l.book.keeper e Keeper.Orphan x ne) ∙ by)) (λ z _. cc);
    }))
  where
    here : own_kept t (Task.Leaving e (LeaveAt.Push (PushAt.Exchange word))) e ≡ Own.Orphan
    here = grind (arith, nat_tests)

    count : (x : ℕ) → in_hand g.taken l.spares l.tasks t x ≡ is_adopting t (l.book.keeper x)
        → is_returned x (l.tasks t) ≡ 0 → is_adopting t (l.book.keeper e) ≡ 0
        → is_adopting t (put l.book.keeper e Keeper.Orphan e) ≡ 0
        → tally x (g.taken t) + tally x (l.spares t).items + is_returned x Task.Away
        ≡ is_adopting t (put l.book.keeper e Keeper.Orphan x)
    count x n r a b = equal_or x e
        (λ same. let p = ap (λ y. is_adopting t (l.book.keeper y)) same in
        let q = ap (λ y. is_adopting t (put l.book.keeper e Keeper.Orphan y)) same in omega arith)
        (λ away. let q = ap (is_adopting t) (put-other l.book.keeper e Keeper.Orphan x away) in omega arith)

-- a step of the leaving of a slab
pub leaves-as : (k : Key) (g : Shadow) (m : Mem) (l : Locals) (t e : ℕ) (at : LeaveAt) → OrphansGood k g (core_in m l)
    → l.tasks t ≡ Task.Leaving e at
    → OrphansGood k (shadow_left l t e (leave_learn at (found m (leave_course (leave_of l e) at))) g)
    (core_in (after k m (leave_course (leave_of l e) at))
    (left_as t e (leave_learn at (found m (leave_course (leave_of l e) at))) l))
leaves-as k g m l t e LeaveAt.Close good is = closes-as k g m l t e good is
leaves-as k g m l t e LeaveAt.Header good is = header_stored k g m l t e good is
leaves-as k g m l t e LeaveAt.Disown good is = disowned k g m l t e good is
leaves-as k g m l t e (LeaveAt.Push PushAt.Look) good is =
    push_goes k g m l t e PushAt.Look (PushAt.Link (m orphans (l.book.classes e))) good is
    (orphan-item k g m l (l.book.classes e) (link_of (m orphans (l.book.classes e))) refl good)
leaves-as k g m l t e (LeaveAt.Push (PushAt.Link word)) good is = push_links k g m l t e word good is
leaves-as k g m l t e (LeaveAt.Push (PushAt.Exchange word)) good is =
    by (eqb (m orphans (l.book.classes e)) word) refl
  where
    by : (b : Bool) → eqb (m orphans (l.book.classes e)) word ≡ b
        → OrphansGood k (shadow_left l t e (leave_pushed (cond b (PushNext.Pushed (m orphans (l.book.classes e)))
        (PushNext.Goes (PushAt.Link (m orphans (l.book.classes e)))))) g)
        (core_in (cond b (stored k m (Word.Orphans (l.book.classes e)) (link_word (Some e))) m)
        (left_as t e (leave_pushed (cond b (PushNext.Pushed (m orphans (l.book.classes e)))
        (PushNext.Goes (PushAt.Link (m orphans (l.book.classes e)))))) l))
    by true won = left_won k g m l t e word good is (eqb-true (m orphans (l.book.classes e)) word won)
    by false lost = push_goes k g m l t e (PushAt.Exchange word) (PushAt.Link (m orphans (l.book.classes e))) good is
        (orphan-item k g m l (l.book.classes e) (link_of (m orphans (l.book.classes e))) refl good)

-- the newest of those that were put aside
newest_at : (xs : List ℕ) (i e : ℕ) → suc i ≡ length xs → slice_get xs i ≡ Some e → (o : ℕ)
    → tally o (take i xs) + tally o (e ∷ []) ≡ tally o xs
newest_at [] i e len is o = absurd (cc)
newest_at (x ∷ []) zero e len is o = let same : x ≡ e = cc in let q = ap (λ y. tally o (y ∷ [])) same in omega arith
newest_at (x ∷ (y ∷ ys)) zero e len is o = absurd (omega arith)
newest_at (x ∷ xs) (suc i) e len is o = let rest = newest_at xs i e (omega arith) is o in omega arith

none_newest : (xs : List ℕ) → slice_get xs (length xs - 1) ≡ None → xs ≡ []
none_newest [] is = refl
none_newest (x ∷ xs) is =
    let some = slice_get-get_or (x ∷ xs) (length (x ∷ xs) - 1) 0 (omega arith) in absurd (cc)

abbrev spare_task : ℕ → Option ℕ → Task
spare_task class (Some e) = Task.Returning class e (LeaveAt.Push PushAt.Look)
spare_task class None = Task.Away

abbrev spare_rolls : (ℕ → Rolled ℕ) → ℕ → Option ℕ → ℕ → Rolled ℕ
spare_rolls f t (Some e) = put f t (without_newest (f t))
spare_rolls f t None = f

spare-count : (f : ℕ → Rolled ℕ) (t class : ℕ) (o : Option ℕ) → newest_of (f t) ≡ o → (x : ℕ)
    → tally x (spare_rolls f t o t).items + is_returned x (spare_task class o) ≡ tally x (f t).items
spare-count f t class (Some e) is x =
    ap (λ (q : Rolled ℕ). tally x q.items + cond (eqb x e) 1 0) (put-same f t (without_newest (f t)))
    ∙ ap (λ n. tally x (take (length (f t).items - 1) (f t).items) + n) one
    ∙ newest_at (f t).items (length (f t).items - 1) e
    (let low = slice_get_within (f t).items (length (f t).items - 1) e is in omega arith) is x
  where
    one : ◌≡◌ {A = ℕ} (cond (eqb x e) 1 0) (tally x (e ∷ []))
    one = omega arith
spare-count f t class None is x = omega arith

spare-room : (f : ℕ → Rolled ℕ) (t : ℕ) (o : Option ℕ) → (spare_rolls f t o t).room ≡ (f t).room
spare-room f t (Some e) = ap (λ (q : Rolled ℕ). q.room) (put-same f t (without_newest (f t)))
spare-room f t None = refl

spare-else : (f : ℕ → Rolled ℕ) (t : ℕ) (o : Option ℕ) (x : ℕ) → x ≢ t → spare_rolls f t o x ≡ f x
spare-else f t (Some e) x ne = put-other f t (without_newest (f t)) x ne
spare-else f t None x ne = refl

spare-own : (t class : ℕ) (o : Option ℕ) (x : ℕ) → own_kept t (spare_task class o) x ≡ Own.Kept t
spare-own t class (Some e) x = refl
spare-own t class None x = refl

spare-fits : (k : Key) (h : Shadow) (r : Core) (f : ℕ → Rolled ℕ) (t class : ℕ) (o : Option ℕ) → newest_of (f t) ≡ o
    → r.spares t ≡ spare_rolls f t o t → h.taken t ≡ [] → HandFits k r t class → TaskFits k h r t (spare_task class o)
spare-fits k h r f t class (Some e) is spares empty fits = (fits, empty, tt)
spare-fits k h r f t class None is spares empty fits =
    (ap (λ (q : Rolled ℕ). q.items) spares ∙ none_newest (f t).items is, empty)

spare-leaving : (class : ℕ) (o : Option ℕ) (x : ℕ) → IsLeaving (spare_task class o) x → ⊥
spare-leaving class (Some e) x is = is
spare-leaving class None x is = is

-- the local after it, in one form
spare-core : (m : Mem) (l : Locals) (t class : ℕ) (o : Option ℕ)
    → core_in m (sparing t class o l)
    ≡ record (core_in m l) { tasks = put l.tasks t (spare_task class o); spares = spare_rolls l.spares t o }
spare-core m l t class (Some e) = refl
spare-core m l t class None = refl

-- with all that were taken put aside, the last one is pushed back
pub spares_keep : (k : Key) (t class : ℕ) (f : ℕ → Rolled ℕ) (taken' : ℕ → List ℕ) (g : Shadow) (m : Mem) (l : Locals)
    → OrphansGood k g (core_in m l) → ((o : ℕ) → o ≢ t → taken' o ≡ g.taken o) → taken' t ≡ []
    → ((o : ℕ) → o ≢ t → f o ≡ l.spares o)
    → ((x : ℕ) → tally x (f t).items ≡ in_hand g.taken l.spares l.tasks t x) → (f t).room ≡ (l.spares t).room
    → ((x : ℕ) → own_kept t (l.tasks t) x ≡ Own.Kept t) → HandFits k (core_in m l) t class
    → ((x : ℕ) → g.mail.mail x ≡ Mail.Leaving t → ⊥)
    → ((x : ℕ) → g.mail.mail x ≡ Mail.Adopted t → l.book.keeper x ≡ Keeper.By t → ⊥)
    → OrphansGood k (hand_shadow taken' g) (core_in m (spares_back t class (record l { spares = f })))
spares_keep k t class f taken' g m l good else empty spares count room own fits leaving joining =
    by (newest_of (f t)) refl
  where
    by : (o : Option ℕ) → newest_of (f t) ≡ o
        → OrphansGood k (hand_shadow taken' g) (core_in m (sparing t class o (record l { spares = f })))
    by o is = subst (λ c. OrphansGood k (hand_shadow taken' g) c) (sym (spare-core m
        (record l { spares = f }) t class o))
        (hand_keeps k t (spare_task class o) taken' (spare_rolls f t o) g (core_in m l) good (record {
          taken_else = else;
          spares_else = λ x ne. spare-else f t o x ne ∙ spares x ne;
          count = λ x. let a = ap (tally x) empty in let b = spare-count f t class o is x in let c = count x in
              omega arith;
          room = spare-room f t o ∙ room;
          own = λ x. spare-own t class o x ∙ sym (own x);
        })
        (spare-fits k (hand_shadow taken' g) (hand_core t (spare_task class o) (spare_rolls f t o)
        (core_in m l)) f t class
        o is refl empty (record { class' = fits.class'; seat' = fits.seat'; of = fits.of }))
        (λ x z. absurd (leaving x z)) (λ x z w. absurd (joining x z w)))

-- orphans in a seat's hand
pub apart_taken : (k : Key) (g : Shadow) (s : Core) (h : Shadow) (r : Core) (t e o : ℕ) → OrphansGood k g s
    → s.book.keeper e ≡ Keeper.Adopting t → r.book.keeper e ≡ Keeper.Adopting t → o ≢ t
    → h.mail.mail e ≡ g.mail.mail e → Apart o e g s h r
apart_taken k g s h r t e o good by now ne same =
    let way = way_taken k g s e t good by in record {
      kept = λ z _. let q : Keeper.By o ≡ Keeper.Adopting t = sym z ∙ by in cc;
      leaving = λ z. let q : Mail.Leaving o ≡ Mail.Adopted t = sym z ∙ way in cc;
      adopted = λ z. ne (let q : Mail.Adopted o ≡ Mail.Adopted t = sym z ∙ way in cc);
      hand = λ z. ne (let q : Keeper.Adopting o ≡ Keeper.Adopting t = sym z ∙ by in cc);
      begun = λ z. let q : Mail.Begun o ≡ Mail.Adopted t = sym z ∙ way in cc;
      hand' = λ z. ne (let q : Keeper.Adopting o ≡ Keeper.Adopting t = sym z ∙ now in cc);
      leaving' = λ z. let q : Mail.Leaving o ≡ Mail.Adopted t = sym z ∙ same ∙ way in cc;
      adopted' = λ z w. let q : Keeper.By o ≡ Keeper.Adopting t = sym w ∙ now in cc;
    }

pub own_orphan : (k : Key) (g : Shadow) (s : Core) (t e : ℕ) → OrphansGood k g s → s.book.keeper e ≡ Keeper.Adopting t
    → s.owns e ≡ Own.Orphan
own_orphan k g s t e good by = subst (λ q. OwnFits s.tasks e q (s.owns e)) by (good.owns_fit e)

pub inside_taken : (k : Key) (g : Shadow) (s : Core) (t e : ℕ) → OrphansGood k g s
    → s.book.keeper e ≡ Keeper.Adopting t → e < k.span
inside_taken k g s t e good by = good.mail.places.inside e (subst IsThere (sym by) tt)

-- O3, and a lost O5
return_goes : (k : Key) (g : Shadow) (m : Mem) (l : Locals) (t class e : ℕ) (at next : PushAt)
    → OrphansGood k g (core_in m l) → l.tasks t ≡ Task.Returning class e (LeaveAt.Push at)
    → PushesAt (core_in m l) e next
    → OrphansGood k g (core_in m (with_task t (Task.Returning class e (LeaveAt.Push next)) l))
return_goes k g m l t class e at next good is pushes =
    let s = core_in m l in
    let fits = fits_at k g s t (Task.Returning class e (LeaveAt.Push at)) is good in
    stand_keeps k t (Task.Returning class e (LeaveAt.Push next)) g s good (λ x. sym (ap (is_returned x) is))
    (λ x. sym (ap (λ q. own_kept t q x) is))
    (record { class' = fits.0.class'; seat' = fits.0.seat'; of = fits.0.of }, fits.1, pushes)
    (leaving_at k g s t (Task.Returning class e (LeaveAt.Push at)) is good)
    (joining_at k g s t (Task.Returning class e (LeaveAt.Push at)) is good)

-- O4
return_links : (k : Key) (g : Shadow) (m : Mem) (l : Locals) (t class e word : ℕ) → OrphansGood k g (core_in m l)
    → l.tasks t ≡ Task.Returning class e (LeaveAt.Push (PushAt.Link word))
    → OrphansGood k g (core_in (stored k m (Word.Next e) (next_word (Next.Link (link_of word))))
    (with_task t (Task.Returning class e (LeaveAt.Push (PushAt.Exchange word))) l))
return_links k g m l t class e word good is =
    let s = core_in m l in
    let v = next_word (Next.Link (link_of word)) in
    let at = LeaveAt.Push (PushAt.Link word) in
    let fits = fits_at k g s t (Task.Returning class e at) is good in
    let by = returned-is g s t class e at good.hands_once is in
    let valid = inside_taken k g s t e good by in
    let task = Task.Returning class e (LeaveAt.Push (PushAt.Exchange word)) in
    let n = λ (x : ℕ). next_of (put (m nexts) e v x) in
    let r = words_core t task s.publics n s.owns s.headers s in
    to_stored (λ x. OrphansGood k g (core_in x (with_task t task l))) k m (Word.Next e) v valid
    (word_keeps k t e task g.mail s.publics n s.owns s.headers g s good (record {
      only = record {
        way = λ x _. refl;
        next = λ x ne. ap next_of (put-other (m nexts) e v x ne);
        keeper = λ x _. refl;
        record' = λ x _. refl;
        header = λ x _. refl;
        own = λ x _. refl;
      };
      mail = to_written (λ x. MailGood k g.mail (mailing.core_in x (mail_locals l))) k m (Word.Next e) v valid
          (steps_keep_mail k g.mail m (mail_locals l) g.mail (stored k m (Word.Next e) v) (mail_locals l) good.mail
          (MailStep.links t e v (IsMoving.adopting (way_taken k g s e t good by))));
      others = λ o ne. apart_taken k g s g r t e o good by by ne refl;
      orphan = ap is_orphan by;
      returned = λ x. sym (ap (is_returned x) is);
      about = tt;
      about' = subst (IsAbout e) (sym is) tt;
      own = subst (λ q. OwnFits (put l.tasks t task) e q (s.owns e)) (sym by) (own_orphan k g s t e good by);
      header = good.headers_fit e;
      fits = (
        record { class' = fits.0.class'; seat' = fits.0.seat'; of = fits.0.of },
        fits.1,
        ap next_of (put-same (m nexts) e v) ∙ nexts_read_back (Next.Link (link_of word)) fits.2,
      );
      leaving = leaving_at k g s t (Task.Returning class e at) is good;
      joining = joining_at k g s t (Task.Returning class e at) is good;
    }))

-- O5
return_won : (k : Key) (g : Shadow) (m : Mem) (l : Locals) (t class e word : ℕ) → OrphansGood k g (core_in m l)
    → l.tasks t ≡ Task.Returning class e (LeaveAt.Push (PushAt.Exchange word)) → m orphans class ≡ word
    → OrphansGood k (shadow_pushed class e g)
    (core_in (stored k m (Word.Orphans class) (link_word (Some e)))
    (spares_back t class (with_book (with_keeper e Keeper.Orphan l.book) l)))
return_won k g m l t class e word good is won = pushed (newest_of (l.spares t)) refl
  where
    s : Core
    s = core_in m l

    fits : TaskFits k g (core_in m l) t (Task.Returning class e (LeaveAt.Push (PushAt.Exchange word)))
    fits = fits_at k g (core_in m l) t (Task.Returning class e (LeaveAt.Push (PushAt.Exchange word))) is good

    by : l.book.keeper e ≡ Keeper.Adopting t
    by = returned-is g (core_in m l) t class e (LeaveAt.Push (PushAt.Exchange word)) good.hands_once is

    way : g.mail.mail e ≡ Mail.Adopted t
    way = way_taken k g (core_in m l) e t good by

    few : e < 2 ^ 32
    few = let i = inside_taken k g (core_in m l) t e good by in let span = good.mail.places.span in omega arith

    now : put l.book.keeper e Keeper.Orphan e ≡ Keeper.Orphan
    now = put-same l.book.keeper e Keeper.Orphan

    count : (o : Option ℕ) → newest_of (l.spares t) ≡ o → (x : ℕ)
        → in_hand g.taken l.spares l.tasks t x ≡ is_adopting t (l.book.keeper x)
        → is_returned x (l.tasks t) ≡ cond (eqb x e) 1 0 → is_adopting t (l.book.keeper e) ≡ 1
        → is_adopting t (put l.book.keeper e Keeper.Orphan e) ≡ 0
        → tally x (spare_rolls l.spares t o t).items + is_returned x (spare_task class o) ≡ tally x (l.spares t).items
        → tally x (g.taken t) + tally x (spare_rolls l.spares t o t).items + is_returned x (spare_task class o)
        ≡ is_adopting t (put l.book.keeper e Keeper.Orphan x)
    count o at x n r a b c = equal_or x e
        (λ same. let p = ap (λ y. is_adopting t (l.book.keeper y)) same in
        let q = ap (λ y. is_adopting t (put l.book.keeper e Keeper.Orphan y)) same in
        let one : ◌≡◌ {A = ℕ} (cond (eqb x e) 1 0) 1 = grind (arith, nat_tests) in omega arith)
        (λ away. let q = ap (is_adopting t) (put-other l.book.keeper e Keeper.Orphan x away) in
        let one : ◌≡◌ {A = ℕ} (cond (eqb x e) 1 0) 0 = grind (arith, nat_tests) in omega arith)

    here : ◌≡◌ {A = ℕ} (is_adopting t (Keeper.Adopting t)) 1
    here = grind (arith, nat_tests)

    pushed : (o : Option ℕ) → newest_of (l.spares t) ≡ o
        → OrphansGood k (shadow_pushed class e g)
        (core_in (stored k m (Word.Orphans class) (link_word (Some e)))
        (sparing t class o (with_book (with_keeper e Keeper.Orphan l.book) l)))
    pushed o at =
        let v = link_word (Some e) in
        let heads' = λ (c : ℕ). link_of (put (m orphans) class (link_word (Some e)) c) in
        let there = put-same g.mail.mail e Mail.Left in
        to_stored (λ x. OrphansGood k (shadow_pushed class e g)
        (core_in x (sparing t class o (with_book (with_keeper e Keeper.Orphan l.book) l)))) k m (Word.Orphans class) v
        fits.0.class'
        (subst (λ c. OrphansGood k (shadow_pushed class e g) c)
        (sym (spare-core (write m orphans class v) (with_book (with_keeper e Keeper.Orphan l.book) l) t class o))
        (pushed_keeps k t e class (spare_task class o) (spare_rolls l.spares t o) heads' g s good (record {
          before = ap is_orphan by;
          class' = fits.0.of e by;
          there = subst IsThere (sym by) tt;
          mail = steps_keep_mail k g.mail m (mail_locals l) (with_mail e Mail.Left g.mail) m
              (record (mail_locals l) { keeper = put l.book.keeper e Keeper.Orphan }) good.mail
              (MailStep.goes_back t e way by);
          others = λ o ne. record {
            kept = λ z _. let q : Keeper.By o ≡ Keeper.Adopting t = sym z ∙ by in cc;
            leaving = λ z. let q : Mail.Leaving o ≡ Mail.Adopted t = sym z ∙ way in cc;
            adopted = λ z. ne (let q : Mail.Adopted o ≡ Mail.Adopted t = sym z ∙ way in cc);
            hand = λ z. ne (let q : Keeper.Adopting o ≡ Keeper.Adopting t = sym z ∙ by in cc);
            begun = λ z. let q : Mail.Begun o ≡ Mail.Adopted t = sym z ∙ way in cc;
            hand' = λ z. let q : Keeper.Orphan ≡ Keeper.Adopting o = sym now ∙ z in cc;
            leaving' = λ z. let q : Mail.Left ≡ Mail.Leaving o = sym there ∙ z in cc;
            adopted' = λ z _. let q : Mail.Left ≡ Mail.Adopted o = sym there ∙ z in cc;
          };
          own = own_orphan k g s t e good by;
          own_else = λ x ne. spare-own t class o x ∙ sym (own-else t e x (l.tasks t) (subst (IsAbout e)
              (sym is) tt) ne);
          header = good.headers_fit e (subst IsLeft (sym by) tt);
          count = λ x. count o at x (good.hands_once t x) (ap (is_returned x) is) (ap (is_adopting t) by ∙ here)
              (ap (is_adopting t) now) (spare-count l.spares t class o at x);
          spares_else = λ x ne. spare-else l.spares t o x ne;
          room = spare-room l.spares t o;
          head = head_of_class m class e few;
          head_else = λ c ne. ap link_of (put-other (m orphans) class v c ne);
          linked = link_at s e word class fits.2 (ap link_of won);
          fits = spare-fits k (shadow_pushed class e g) (pushed_core t e (spare_task class o) (spare_rolls l.spares t o)
              heads' s) l.spares t class o at refl fits.1 (record {
                class' = fits.0.class';
                seat' = fits.0.seat';
                of = each (λ x q. q ≡ Keeper.Adopting t → l.book.classes x ≡ class) l.book.keeper e Keeper.Orphan
                    (λ x _ z. fits.0.of x z) (λ z. absurd (cc));
              });
          leaving = each (λ x q. q ≡ Mail.Leaving t → IsLeaving (spare_task class o) x) g.mail.mail e Mail.Left
              (λ x _ z. absurd (leaving_at k g s t (Task.Returning class e (LeaveAt.Push
              (PushAt.Exchange word))) is good x
              z)) (λ z. absurd (cc));
          joining = each (λ x q. q ≡ Mail.Adopted t → put l.book.keeper e Keeper.Orphan x ≡ Keeper.By t
              → IsJoining (spare_task class o) x) g.mail.mail e Mail.Left
              (λ x ne z w. absurd (joining_at k g s t (Task.Returning class e (LeaveAt.Push (PushAt.Exchange word))) is
              good x z (sym (put-other l.book.keeper e Keeper.Orphan x ne) ∙ w))) (λ z _. absurd (cc));
        })))

-- a step of an orphan's return
pub returns-as : (k : Key) (g : Shadow) (m : Mem) (l : Locals) (t class e : ℕ) (at : LeaveAt)
    → OrphansGood k g (core_in m l) → l.tasks t ≡ Task.Returning class e at
    → OrphansGood k (shadow_returned class e (leave_learn at (found m (leave_course (return_of class e) at))) g)
    (core_in (after k m (leave_course (return_of class e) at))
    (returned_as t class e (leave_learn at (found m (leave_course (return_of class e) at))) l))
returns-as k g m l t class e LeaveAt.Close good is =
    absurd (fits_at k g (core_in m l) t (Task.Returning class e LeaveAt.Close) is good).2
returns-as k g m l t class e LeaveAt.Header good is =
    absurd (fits_at k g (core_in m l) t (Task.Returning class e LeaveAt.Header) is good).2
returns-as k g m l t class e LeaveAt.Disown good is =
    absurd (fits_at k g (core_in m l) t (Task.Returning class e LeaveAt.Disown) is good).2
returns-as k g m l t class e (LeaveAt.Push PushAt.Look) good is =
    return_goes k g m l t class e PushAt.Look (PushAt.Link (m orphans class)) good is
    (orphan-item k g m l class (link_of (m orphans class)) refl good)
returns-as k g m l t class e (LeaveAt.Push (PushAt.Link word)) good is = return_links k g m l t class e word good is
returns-as k g m l t class e (LeaveAt.Push (PushAt.Exchange word)) good is = by (eqb (m orphans class) word) refl
  where
    by : (b : Bool) → eqb (m orphans class) word ≡ b
        → OrphansGood k (shadow_returned class e (leave_pushed (cond b (PushNext.Pushed (m orphans class))
        (PushNext.Goes (PushAt.Link (m orphans class))))) g)
        (core_in (cond b (stored k m (Word.Orphans class) (link_word (Some e))) m)
        (returned_as t class e (leave_pushed (cond b (PushNext.Pushed (m orphans class))
        (PushNext.Goes (PushAt.Link (m orphans class))))) l))
    by true won = return_won k g m l t class e word good is (eqb-true (m orphans class) word won)
    by false lost = return_goes k g m l t class e (PushAt.Exchange word) (PushAt.Link (m orphans class)) good is
        (orphan-item k g m l class (link_of (m orphans class)) refl good)
