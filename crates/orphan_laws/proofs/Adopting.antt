-- The orphans of a class are taken, adopted and put aside.
use Rattle.std.proofs.Common.{◌≡◌, ◌≢◌, ℕ, ◌*◌, ◌/◌, ◌<◌, ◌≤◌, cond, eqb, Option}
use Rattle.std.proofs.Common.{List, [], ◌∷◌, ◌++◌, length, refl, sym, ap, subst, arith, ◌∙◌}
use Rattle.std.proofs.lemmas.Bool.Decides.{nat_tests}
use Rattle.pool_types.specs.Geometry.{class_count}
use Rattle.pool_words.specs.declared.words.Key.{Key}
use Rattle.pool_words.specs.declared.words.Word.{Word}
use Rattle.pool_words.specs.Words.{nexts, owns}
use Rattle.word_codes.specs.declared.nexts.Next.{Next}
use Rattle.word_codes.specs.declared.owns.Own.{Own}
use Rattle.word_codes.specs.Nexts.{next_of, next_word, next_link_of}
use Rattle.word_codes.specs.Owns.{own_of, own_word}
use Rattle.heap_slabs.specs.Heaps.{most_slabs}
use Rattle.heap_slabs.specs.Rolls.{Rolled, after_push}
use Rattle.orphans.specs.declared.adopting.AdoptAt.{AdoptAt}
use Rattle.word_laws.specs.Memory.{Mem, put, write, stored}
use Rattle.word_laws.proofs.CallerLemmas.{equal_or}
use Rattle.chain_laws.specs.Chains.{IsChain, tally, IsOnce}
use Rattle.chain_laws.specs.Chains.Link.{To}
use Rattle.chain_laws.proofs.CallerLemmas.{tally-here, lists_among_are_short}
use Rattle.slab_laws.specs.Books.{Keeper, IsThere, IsLeft, with_keeper}
use Rattle.slab_laws.proofs.CallerLemmas.{put-same, put-other, each}
use Rattle.mail_laws.specs.Mail as mailing
use Rattle.mail_laws.specs.Mail.{Mail, item_link, next_link, links_in, key_by, IsAdopter, MailGood}
use Rattle.mail_laws.specs.Steps.{tail_of, IsMoving, MailStep}
use Rattle.mail_laws.proofs.CallerLemmas.{first-among, home-reads, next-item, steps_keep_mail}
use Rattle.orphan_laws.specs.Orphans.{Task, Shadow, Locals, Core, core_in, mail_locals}
use Rattle.orphan_laws.specs.Orphans.{own_kept, OwnFits, is_orphan, is_adopting, is_returned, in_hand}
use Rattle.orphan_laws.specs.Orphans.{IsInFront, IsBehind, AdoptsAt, TaskFits, OrphansGood}
use Rattle.orphan_laws.specs.Steps.{with_task, with_book, shadow_dealt}
use Rattle.orphan_laws.proofs.Seats.{seats_keep, fits_at, leaving_at, joining_at, OnlyAt}
use Rattle.orphan_laws.proofs.Seats.{rely_only, taken-is, front-in, chain-same}
use Rattle.orphan_laws.proofs.Rows.{way_taken, IsAbout, own-else, row_keeps, left_same}
use Rattle.orphan_laws.proofs.Rows.{chains_same, stand_keeps, words_core, word_keeps}
use Rattle.orphan_laws.proofs.Pushing.{not_adopting}
use Rattle.orphan_laws.proofs.Returning.{apart_taken, own_orphan, inside_taken}
use Rattle.orphan_laws.proofs.Words.{to_stored, to_written, kept-reads}

-- a step of an adopter that changes its task alone
pub adopt_stand : (k : Key) (g : Shadow) (m : Mem) (l : Locals) (t class : ℕ) (at next : AdoptAt)
    → OrphansGood k g (core_in m l) → l.tasks t ≡ Task.Adopting class at → AdoptsAt g (core_in m l) t class next
    → OrphansGood k g (core_in m (with_task t (Task.Adopting class next) l))
adopt_stand k g m l t class at next good is now =
    let s = core_in m l in
    let fits = fits_at k g s t (Task.Adopting class at) is good in
    stand_keeps k t (Task.Adopting class next) g s good (λ x. sym (ap (is_returned x) is))
    (λ x. sym (ap (λ q. own_kept t q x) is))
    (record { class' = fits.0.class'; seat' = fits.0.seat'; of = fits.0.of }, same next now)
    (leaving_at k g s t (Task.Adopting class at) is good) (joining_at k g s t (Task.Adopting class at) is good)
  where
    same : (next : AdoptAt) → AdoptsAt g (core_in m l) t class next
        → AdoptsAt g (core_in m (with_task t (Task.Adopting class next) l)) t class next
    same AdoptAt.Take fits = fits
    same (AdoptAt.Header e) fits = fits
    same (AdoptAt.Next e header) fits = fits
    same (AdoptAt.Settle e header rest) fits = fits
    same (AdoptAt.Own e header rest) fits = fits
    same (AdoptAt.Spare e) fits = fits

-- the slab at hand, and those behind it
pub split : (g : Shadow) (s : Core) (t e : ℕ) → IsInFront g s t e
    → IsBehind g s t e (next_link_of (s.nexts e))
split g s t e front = by (g.taken t) refl front
  where
    by : (xs : List ℕ) → g.taken t ≡ xs → IsChain (links_in s.nexts) (To e) xs 0
        → IsBehind g s t e (next_link_of (s.nexts e))
    by [] is chain = absurd (cc)
    by (y ∷ ys) is (first, chain) =
        let same : e ≡ y = cc in (
          ys,
          is ∙ ap (λ z. z ∷ ys) (sym same),
          next-item s.nexts (s.nexts e) ys
              (subst (λ z. IsChain (links_in s.nexts) (links_in s.nexts z) ys 0) (sym same) chain),
        )

-- N7
pub settled : (k : Key) (g : Shadow) (m : Mem) (l : Locals) (t class e header : ℕ) (rest : Option ℕ)
    → OrphansGood k g (core_in m l) → l.tasks t ≡ Task.Adopting class (AdoptAt.Settle e header rest)
    → OrphansGood k g (core_in (stored k m (Word.Next e) (next_word (Next.Mailbox (key_by t class))))
    (with_task t (Task.Adopting class (AdoptAt.Own e header rest)) l))
settled k g m l t class e header rest good is =
    let s = core_in m l in
    let v = next_word (Next.Mailbox (key_by t class)) in
    let at = AdoptAt.Settle e header rest in
    let fits = fits_at k g s t (Task.Adopting class at) is good in
    let ys = fits.1.1.0 in
    let list = fits.1.1.1 in
    let by = taken-is g s t e good.hands_once (first-among e ys (g.taken t) list) in
    let valid = inside_taken k g s t e good by in
    let few : t < 64 = (let f = fits.0.seat' in let most = good.mail.places.seats in omega arith) in
    let task = Task.Adopting class (AdoptAt.Own e header rest) in
    let n = λ (x : ℕ). next_of (put (m nexts) e v x) in
    let r = words_core t task s.publics n s.owns s.headers s in
    to_stored (λ x. OrphansGood k g (core_in x (with_task t task l))) k m (Word.Next e) v valid
    (word_keeps k t e task g.mail s.publics n s.owns s.headers g s good (record {
      only = record {
        way = λ x _. refl;
        next = λ x ne. ap next_of (put-other (m nexts) e v x ne);
        keeper = λ x _. refl;
        record' = λ x _. refl;
        header = λ x _. refl;
        own = λ x _. refl;
      };
      mail = to_written (λ x. MailGood k g.mail (mailing.core_in x (mail_locals l))) k m (Word.Next e) v valid
          (steps_keep_mail k g.mail m (mail_locals l) g.mail (stored k m (Word.Next e) v) (mail_locals l) good.mail
          (MailStep.links t e v (IsMoving.adopting (way_taken k g s e t good by))));
      others = λ o ne. apart_taken k g s g r t e o good by by ne refl;
      orphan = ap is_orphan by;
      returned = λ x. sym (ap (is_returned x) is);
      about = tt;
      about' = subst (IsAbout e) (sym is) tt;
      own = subst (λ q. OwnFits (put l.tasks t task) e q (s.owns e)) (sym by) (own_orphan k g s t e good by);
      header = good.headers_fit e;
      fits = (
        record { class' = fits.0.class'; seat' = fits.0.seat'; of = fits.0.of },
        (
          fits.1.0,
          (
            ys,
            list,
            chain-same s r (item_link rest) ys (λ x some. ap next_of (put-other (m nexts) e v x
                (λ same. absent ys list same some))) fits.1.1.2,
          ),
          fits.1.2,
          ap next_of (put-same (m nexts) e v) ∙ home-reads t class few fits.0.class',
        ),
      );
      leaving = leaving_at k g s t (Task.Adopting class at) is good;
      joining = joining_at k g s t (Task.Adopting class at) is good;
    }))
  where
    one : (q : Keeper) → is_adopting t q ≤ 1
    one Keeper.Nobody = omega arith
    one (Keeper.By o) = omega arith
    one Keeper.Orphan = omega arith
    one (Keeper.Adopting o) = grind (arith, nat_tests)
    one (Keeper.Cached o) = omega arith

    absent : (ys : List ℕ) → g.taken t ≡ e ∷ ys → {x : ℕ} → x ≡ e → 0 < tally x ys → ⊥
    absent ys list {x} same some =
        let n = good.hands_once t e in
        let l1 = ap (tally e) list in
        let h = tally-here e ys in
        let o = one (l.book.keeper e) in
        let q = ap (λ y. tally y ys) same in omega arith

-- O8: the adopter is the slab's keeper
pub adopted : (k : Key) (g : Shadow) (m : Mem) (l : Locals) (t class e header : ℕ) (rest : Option ℕ)
    → OrphansGood k g (core_in m l) → l.tasks t ≡ Task.Adopting class (AdoptAt.Own e header rest)
    → OrphansGood k (shadow_dealt t g) (core_in (stored k m (Word.Own e) (own_word (Own.Kept t)))
    (with_task t (Task.Joining class e rest) (with_book (with_keeper e (Keeper.By t) l.book) l)))
adopted k g m l t class e header rest good is =
    let v = own_word (Own.Kept t) in
    let l' = with_task t task (with_book (with_keeper e (Keeper.By t) l.book) l) in
    to_stored (λ x. OrphansGood k (shadow_dealt t g) (core_in x l')) k m (Word.Own e) v (inside_taken k g s t e good by)
    (row_keeps k t e g s (shadow_dealt t g) (core_in (write m owns e v) l') good (record {
      only = only;
      mail = steps_keep_mail k g.mail m (mail_locals l) g.mail m
          (record (mail_locals l) { keeper = put l.book.keeper e (Keeper.By t) }) good.mail
          (MailStep.adopts t e way by (subst (λ c. c < class_count) (sym (fits.0.of e by)) fits.0.class') fits.0.seat');
      even = λ _. good.even e (subst IsThere (sym by) tt);
      tasks_else = put-other l.tasks t task;
      own_else = λ x ne. own-else t e x (put l.tasks t task t) (subst (IsAbout e) (sym (put-same l.tasks t task)) tt) ne
          ∙ sym (own-else t e x (l.tasks t) (subst (IsAbout e) (sym is) tt) ne);
      own = subst (λ q. OwnFits (put l.tasks t task) e q (own_of (put (m owns) e v e))) (sym now)
          (ap own_of (put-same (m owns) e v) ∙ kept-reads t few ∙ ap (λ q. own_kept t q e) (sym
          (put-same l.tasks t task)));
      header = λ left. absurd (subst IsLeft now left);
      left_once = left_same e g s (shadow_dealt t g) (core_in (write m owns e v) l') only (ap is_orphan by)
          (ap is_orphan now) good.left_once;
      hands_once = λ o x. equal_or o t
          (λ same. subst (λ y. in_hand (put g.taken t (tail_of (g.taken t))) l.spares (put l.tasks t task) y x
          ≡ is_adopting y (put l.book.keeper e (Keeper.By t) x)) (sym same)
          (mine x (good.hands_once t x) (ap (is_returned x) is) (ap (tally x) list)
          (ap (tally x) (put-same g.taken t (tail_of (g.taken t)) ∙ ap tail_of list))
          (ap (is_returned x) (put-same l.tasks t task)) (ap (is_adopting t) by ∙ here)))
          (λ ne. others o x ne);
      left_chains = chains_same e g s (shadow_dealt t g) (core_in (write m owns e v) l') only
          (ap is_orphan by) good.left_once
          good.left_chains;
      rooms = good.rooms;
    })
    (seats_keep k t task g s (shadow_dealt t g) (core_in (write m owns e v) l') good (record {
      others = λ o ne. rely_only o e g s (shadow_dealt t g) (core_in (write m owns e v) l') only (record {
        kept = λ z _. let q : Keeper.By o ≡ Keeper.Adopting t = sym z ∙ by in cc;
        leaving = λ z. let q : Mail.Leaving o ≡ Mail.Adopted t = sym z ∙ way in cc;
        adopted = λ z. ne (let q : Mail.Adopted o ≡ Mail.Adopted t = sym z ∙ way in cc);
        hand = λ z. ne (let q : Keeper.Adopting o ≡ Keeper.Adopting t = sym z ∙ by in cc);
        begun = λ z. let q : Mail.Begun o ≡ Mail.Adopted t = sym z ∙ way in cc;
        hand' = λ z. let q : Keeper.By t ≡ Keeper.Adopting o = sym now ∙ z in cc;
        leaving' = λ z. let q : Mail.Leaving o ≡ Mail.Adopted t = sym z ∙ way in cc;
        adopted' = λ z w. ne (let q : Mail.Adopted o ≡ Mail.Adopted t = sym z ∙ way in cc);
      }) (put-other l.tasks t task o ne) (put-other g.taken t (tail_of (g.taken t)) o ne) refl;
      stands = put-same l.tasks t task;
      task' = (
        record {
          class' = fits.0.class';
          seat' = fits.0.seat';
          of = each (λ x q. q ≡ Keeper.Adopting t → l.book.classes x ≡ class) l.book.keeper e (Keeper.By t)
              (λ x _ z. fits.0.of x z) (λ z. absurd (cc));
        },
        record {
          spares = fits.1.0;
          kept = now;
          class' = fits.0.of e by;
          adopted = way;
          home = fits.1.3;
          behind = subst (λ xs. IsChain (links_in s.nexts) (item_link rest) xs 0)
              (sym (put-same g.taken t (tail_of (g.taken t)) ∙ ap tail_of list)) fits.1.1.2;
        },
      );
      leaving = λ x z. absurd (leaving_at k g s t (Task.Adopting class (AdoptAt.Own e header rest)) is good x z);
      joining = λ x z. each (λ x q. g.mail.mail x ≡ Mail.Adopted t → q ≡ Keeper.By t → x ≡ e) l.book.keeper e
          (Keeper.By t)
          (λ x _ z w. absurd (joining_at k g s t (Task.Adopting class (AdoptAt.Own e header rest)) is good x z w))
          (λ _ _. refl) x z;
    })))
  where
    s : Core
    s = core_in m l

    task : Task
    task = Task.Joining class e rest

    fits : TaskFits k g (core_in m l) t (Task.Adopting class (AdoptAt.Own e header rest))
    fits = fits_at k g (core_in m l) t (Task.Adopting class (AdoptAt.Own e header rest)) is good

    list : g.taken t ≡ e ∷ fits.1.1.0
    list = fits.1.1.1

    by : l.book.keeper e ≡ Keeper.Adopting t
    by = taken-is g (core_in m l) t e good.hands_once (first-among e fits.1.1.0 (g.taken t) fits.1.1.1)

    way : g.mail.mail e ≡ Mail.Adopted t
    way = way_taken k g (core_in m l) e t good by

    now : put l.book.keeper e (Keeper.By t) e ≡ Keeper.By t
    now = put-same l.book.keeper e (Keeper.By t)

    few : t < 256
    few = let f = fits.0.seat' in let most = good.mail.places.seats in omega arith

    here : ◌≡◌ {A = ℕ} (is_adopting t (Keeper.Adopting t)) 1
    here = grind (arith, nat_tests)

    only : OnlyAt e g (core_in m l) (shadow_dealt t g) (core_in (write m owns e (own_word (Own.Kept t)))
        (with_task t (Task.Joining class e rest) (with_book (with_keeper e (Keeper.By t) l.book) l)))
    only = record {
      way = λ x _. refl;
      next = λ x _. refl;
      keeper = put-other l.book.keeper e (Keeper.By t);
      record' = λ x _. refl;
      header = λ x _. refl;
      own = λ x ne. ap own_of (put-other (m owns) e (own_word (Own.Kept t)) x ne);
    }

    mine : (x : ℕ) → in_hand g.taken l.spares l.tasks t x ≡ is_adopting t (l.book.keeper x)
        → is_returned x (l.tasks t) ≡ 0 → tally x (g.taken t) ≡ tally x (e ∷ fits.1.1.0)
        → tally x (put g.taken t (tail_of (g.taken t)) t) ≡ tally x fits.1.1.0
        → is_returned x (put l.tasks t (Task.Joining class e rest) t) ≡ 0 → is_adopting t (l.book.keeper e) ≡ 1
        → in_hand (put g.taken t (tail_of (g.taken t))) l.spares (put l.tasks t (Task.Joining class e rest)) t x
        ≡ is_adopting t (put l.book.keeper e (Keeper.By t) x)
    mine x n r a b c one = equal_or x e
        (λ same. let p = ap (λ y. is_adopting t (l.book.keeper y)) same in
        let q = ap (λ y. is_adopting t (put l.book.keeper e (Keeper.By t) y)) same ∙ ap (is_adopting t) now in
        let h : ◌≡◌ {A = ℕ} (cond (eqb x e) 1 0) 1 = grind (arith, nat_tests) in omega arith)
        (λ away. let q = ap (is_adopting t) (put-other l.book.keeper e (Keeper.By t) x away) in
        let h : ◌≡◌ {A = ℕ} (cond (eqb x e) 1 0) 0 = grind (arith, nat_tests) in omega arith)

    others : (o x : ℕ) → o ≢ t
        → in_hand (put g.taken t (tail_of (g.taken t))) l.spares (put l.tasks t (Task.Joining class e rest)) o x
        ≡ is_adopting o (put l.book.keeper e (Keeper.By t) x)
    others o x ne =
        let n = good.hands_once o x in
        let a = ap (tally x) (put-other g.taken t (tail_of (g.taken t)) o ne) in
        let b = ap (is_returned x) (put-other l.tasks t (Task.Joining class e rest) o ne) in
        let c : is_adopting o (put l.book.keeper e (Keeper.By t) x) ≡ is_adopting o (l.book.keeper x) = equal_or x e
        (λ same. ap (λ y. is_adopting o (put l.book.keeper e (Keeper.By t) y)) same ∙ ap (is_adopting o) now
        ∙ sym (not_adopting o (l.book.keeper e) (λ z. ne (let q : Keeper.Adopting o ≡ Keeper.Adopting t = sym z
        ∙ by in cc)))
        ∙ ap (λ y. is_adopting o (l.book.keeper y)) (sym same))
        (λ away. ap (is_adopting o) (put-other l.book.keeper e (Keeper.By t) x away)) in
        omega arith

-- O7 of a slab that is put aside: there is room for it
pub pushed_items : (r : Rolled ℕ) (e : ℕ) → length r.items < r.room → (after_push r e).items ≡ r.items ++ (e ∷ [])
pushed_items r e low = grind (arith, nat_tests)

pub pushed_room : (r : Rolled ℕ) (e : ℕ) → (after_push r e).room ≡ r.room
pushed_room r e = grind (arith, nat_tests)

pub spare_has_room : (k : Key) (g : Shadow) (m : Mem) (l : Locals) (t class e : ℕ) → OrphansGood k g (core_in m l)
    → l.tasks t ≡ Task.Adopting class (AdoptAt.Spare e) → length (l.spares t).items < (l.spares t).room
spare_has_room k g m l t class e good is =
    let room = good.rooms t in
    let short = lists_among_are_short (λ i. i * 2) (most_slabs k.span) (e ∷ (l.spares t).items) once among in
    omega arith
  where
    s : Core
    s = core_in m l

    front : 0 < tally e (g.taken t)
    front = front-in (links_in s.nexts) e (g.taken t)
        (fits_at k g (core_in m l) t (Task.Adopting class (AdoptAt.Spare e)) is good).1

    one : (q : Keeper) → is_adopting t q ≤ 1
    one Keeper.Nobody = omega arith
    one (Keeper.By o) = omega arith
    one Keeper.Orphan = omega arith
    one (Keeper.Adopting o) = grind (arith, nat_tests)
    one (Keeper.Cached o) = omega arith

    once : IsOnce (e ∷ (l.spares t).items)
    once x = let n = good.hands_once t x in let o = one (l.book.keeper x) in equal_or x e
        (λ same. let f = ap (λ y. tally y (g.taken t)) same in
        let h : ◌≡◌ {A = ℕ} (cond (eqb x e) 1 0) 1 = grind (arith, nat_tests) in let z = front in omega arith)
        (λ away. let h : ◌≡◌ {A = ℕ} (cond (eqb x e) 1 0) 0 = grind (arith, nat_tests) in omega arith)

    is_there : (q : Keeper) → 0 < is_adopting t q → IsThere q
    is_there Keeper.Nobody some = absurd (omega arith)
    is_there (Keeper.By o) some = absurd (omega arith)
    is_there Keeper.Orphan some = absurd (omega arith)
    is_there (Keeper.Adopting o) some = tt
    is_there (Keeper.Cached o) some = absurd (omega arith)

    some_in : (x : ℕ) → 0 < tally x (e ∷ (l.spares t).items) → 0 < is_adopting t (l.book.keeper x)
    some_in x some = let n = good.hands_once t x in equal_or x e
        (λ same. let f = ap (λ y. tally y (g.taken t)) same in let z = front in omega arith)
        (λ away. let h : ◌≡◌ {A = ℕ} (cond (eqb x e) 1 0) 0 = grind (arith, nat_tests) in omega arith)

    among : (x : ℕ) → 0 < tally x (e ∷ (l.spares t).items) → (i : ℕ) × (i < most_slabs k.span) × (x ≡ i * 2)
    among x some =
        let there = is_there (l.book.keeper x) (some_in x some) in
        let even = good.even x there in
        let low = good.mail.places.inside x there in
        (x / 2, omega arith, omega arith)
