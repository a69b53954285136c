-- The chain of a class is taken whole, and a slab is put aside.
use Rattle.std.proofs.Common.{◌≡◌, ◌≢◌, ℕ, ◌+◌, ◌<◌, ◌≤◌, cond, eqb, ltb, Option, Some, None}
use Rattle.std.proofs.Common.{List, [], ◌∷◌, refl, sym, ap, subst, arith, ◌∙◌}
use Rattle.std.proofs.lemmas.Bool.Decides.{nat_tests}
use Rattle.pool_words.specs.declared.words.Key.{Key}
use Rattle.pool_words.specs.declared.words.Word.{Word}
use Rattle.pool_words.specs.Words.{orphans, nexts}
use Rattle.word_codes.specs.declared.owns.Own.{Own}
use Rattle.word_codes.specs.Links.{link_of}
use Rattle.word_codes.specs.Nexts.{next_of, next_link_of}
use Rattle.word_codes.specs.Places.{slab_granule}
use Rattle.heap_slabs.specs.Records.{to_header}
use Rattle.heap_slabs.specs.Rolls.{Rolled, after_push}
use Rattle.orphans.specs.declared.adopting.AdoptAt.{AdoptAt}
use Rattle.orphans.specs.declared.adopting.AdoptNext.{AdoptNext}
use Rattle.orphans.specs.Adopting.{adopt_taken}
use Rattle.word_laws.specs.Memory.{Mem, put, write, stored}
use Rattle.word_laws.proofs.CallerLemmas.{equal_or, less_or}
use Rattle.chain_laws.specs.Chains.{IsChain, tally}
use Rattle.chain_laws.specs.Chains.Link.{To, Ends}
use Rattle.chain_laws.proofs.CallerLemmas.{tally-append}
use Rattle.slab_laws.specs.Books.{Keeper, IsThere, IsLeft, record_of, chain_taken, with_chain_taken}
use Rattle.slab_laws.proofs.CallerLemmas.{put-same, put-other, both}
use Rattle.mail_laws.specs.Mail.{Mail, item_link, links_in}
use Rattle.mail_laws.specs.Steps.{tail_of, shadow_come, MailStep}
use Rattle.mail_laws.proofs.CallerLemmas.{end-reads, steps_keep_mail}
use Rattle.orphan_laws.specs.Orphans.{Task, Shadow, Locals, Core, core_in, mail_locals, IsLeaving, own_kept}
use Rattle.orphan_laws.specs.Orphans.{OwnFits, is_orphan, is_adopting, is_returned, in_hand, IsBehind, HandFits}
use Rattle.orphan_laws.specs.Orphans.{TaskFits}
use Rattle.orphan_laws.specs.Orphans.{OrphansGood}
use Rattle.orphan_laws.specs.Steps.{with_task, with_book, shadow_taken, shadow_dealt, adopted_as}
use Rattle.orphan_laws.proofs.Seats.{SeatsFit, seats_keep, fits_at, leaving_at, joining_at}
use Rattle.orphan_laws.proofs.Rows.{way_orphan, own-moves, hand_keeps}
use Rattle.orphan_laws.proofs.Returning.{spares_keep}
use Rattle.orphan_laws.proofs.Adopting.{split, spare_has_room, pushed_items, pushed_room}
use Rattle.orphan_laws.proofs.Words.{to_stored}

-- the slabs of a chain of orphans
pub orphan_is : (q : Keeper) → 0 < is_orphan q → q ≡ Keeper.Orphan
orphan_is Keeper.Nobody some = absurd (omega arith)
orphan_is (Keeper.By t) some = absurd (omega arith)
orphan_is Keeper.Orphan some = refl
orphan_is (Keeper.Adopting t) some = absurd (omega arith)
orphan_is (Keeper.Cached t) some = absurd (omega arith)

pub left-is : (k : Key) (g : Shadow) (s : Core) (c e : ℕ) → OrphansGood k g s → 0 < tally e (g.left c)
    → (s.book.keeper e ≡ Keeper.Orphan) × (s.book.classes e ≡ c)
left-is k g s c e good some = (
  orphan_is (s.book.keeper e) (let n = good.left_once c e in grind (arith, nat_tests)),
  equal_or (s.book.classes e) c (λ same. same)
      (λ away. absurd (let n = good.left_once c e in
      let z : cond (eqb (s.book.classes e) c) (is_orphan (s.book.keeper e)) 0 ≡ 0 = grind (arith, nat_tests) in
      omega arith)),
)

taken-each : {A : Type 0} (P : ℕ → A → Type 0) (chain : List ℕ) (now : A) (f : ℕ → A)
    → ((x : ℕ) → 0 < tally x chain → P x now) → ((x : ℕ) → tally x chain ≤ 0 → P x (f x)) → (x : ℕ)
    → P x (cond (ltb 0 (tally x chain)) now (f x))
taken-each P chain now f here there x = less_or 0 (tally x chain)
    (λ some. subst (P x) (sym (inside some)) (here x some))
    (λ none. subst (P x) (sym (outside none)) (there x none))
  where
    inside : 0 < tally x chain → cond (ltb 0 (tally x chain)) now (f x) ≡ now
    inside some = grind (arith, nat_tests)

    outside : tally x chain ≤ 0 → cond (ltb 0 (tally x chain)) now (f x) ≡ f x
    outside none = grind (arith, nat_tests)

-- what the adopter has to do then
abbrev taken_task : ℕ → Option ℕ → Task
taken_task class (Some e) = Task.Adopting class (AdoptAt.Header e)
taken_task class None = Task.Away

taken_as : (t class : ℕ) (o : Option ℕ) (l : Locals)
    → adopted_as t class (adopt_taken o) l ≡ with_task t (taken_task class o) l
taken_as t class (Some e) l = refl
taken_as t class None l = refl

-- O6
pub takes-as : (k : Key) (g : Shadow) (m : Mem) (l : Locals) (t class : ℕ) → OrphansGood k g (core_in m l)
    → l.tasks t ≡ Task.Adopting class AdoptAt.Take
    → OrphansGood k (shadow_taken t class g) (core_in (stored k m (Word.Orphans class) 0)
    (adopted_as t class (adopt_taken (link_of (m orphans class))) (with_book (with_chain_taken t
    (g.left class) l.book) l)))
takes-as k g m l t class good is =
    subst (λ (q : Locals). OrphansGood k (shadow_taken t class g) (core_in (stored k m (Word.Orphans class) 0) q))
    (sym (taken_as t class (link_of (m orphans class)) (with_book (with_chain_taken t (g.left class) l.book) l)))
    (to_stored (λ x. OrphansGood k (shadow_taken t class g)
    (core_in x (with_task t (taken_task class (link_of (m orphans class)))
    (with_book (with_chain_taken t (g.left class) l.book) l)))) k m (Word.Orphans class) 0 fits.0.class'
    (by (link_of (m orphans class)) refl))
  where
    s : Core
    s = core_in m l

    chain : List ℕ
    chain = g.left class

    fits : TaskFits k g (core_in m l) t (Task.Adopting class AdoptAt.Take)
    fits = fits_at k g (core_in m l) t (Task.Adopting class AdoptAt.Take) is good

    was : (x : ℕ) → 0 < tally x (g.left class) → (l.book.keeper x ≡ Keeper.Orphan) × (l.book.classes x ≡ class)
    was x some = left-is k g (core_in m l) class x good some

    keep : ℕ → Keeper
    keep = chain_taken t (g.left class) l.book.keeper

    same : (x : ℕ) → tally x (g.left class) ≤ 0 → chain_taken t (g.left class) l.book.keeper x ≡ l.book.keeper x
    same x none = grind (arith, nat_tests)

    now : (x : ℕ) → 0 < tally x (g.left class) → chain_taken t (g.left class) l.book.keeper x ≡ Keeper.Adopting t
    now x some = grind (arith, nat_tests)

    way_same : (x : ℕ) → tally x (g.left class) ≤ 0
        → (shadow_come t (g.left class) g.mail).mail x ≡ g.mail.mail x
    way_same x none = grind (arith, nat_tests)

    -- a slab that is not in the chain, by what it is
    out_keeper : (x : ℕ) (q : Keeper) → l.book.keeper x ≡ q → q ≢ Keeper.Orphan → tally x (g.left class) ≤ 0
    out_keeper x q at ne = less_or 0 (tally x (g.left class)) (λ some. absurd (ne (sym at ∙ (was x some).0)))
        (λ none. none)

    out_way : (x : ℕ) (q : Mail) → g.mail.mail x ≡ q → q ≢ Mail.Left → tally x (g.left class) ≤ 0
    out_way x q at ne = less_or 0 (tally x (g.left class))
        (λ some. absurd (ne (sym at ∙ way_orphan k g (core_in m l) x good (was x some).0))) (λ none. none)

    once : (c x : ℕ) → tally x (put g.left class [] c)
        ≡ cond (eqb (l.book.classes x) c) (is_orphan (chain_taken t (g.left class) l.book.keeper x)) 0
    once c x = less_or 0 (tally x (g.left class))
        (λ some. gone c some (good.left_once c x) (was x some).1 ∙ sym (zero c (ap is_orphan (now x some))))
        (λ none. equal_or c class
        (λ here. ap (tally x) (ap (put g.left class []) here ∙ put-same g.left class []) ∙ sym
        (let n = good.left_once c x in
        let q = ap (λ y. tally x (g.left y)) here in let z = ap is_orphan (same x none) in
        let w : cond (eqb (l.book.classes x) c) (is_orphan (chain_taken t (g.left class) l.book.keeper x)) 0
        ≡ cond (eqb (l.book.classes x) c) (is_orphan (l.book.keeper x)) 0 =
        ap (λ n. cond (eqb (l.book.classes x) c) n 0) z in omega arith))
        (λ ne. ap (tally x) (put-other g.left class [] c ne) ∙ good.left_once c x
        ∙ ap (λ n. cond (eqb (l.book.classes x) c) n 0) (sym (ap is_orphan (same x none)))))
      where
        zero : (c : ℕ) → is_orphan (chain_taken t (g.left class) l.book.keeper x) ≡ 0
            → cond (eqb (l.book.classes x) c) (is_orphan (chain_taken t (g.left class) l.book.keeper x)) 0 ≡ 0
        zero c z = grind (arith, nat_tests)

        gone : (c : ℕ) → 0 < tally x (g.left class)
            → tally x (g.left c) ≡ cond (eqb (l.book.classes x) c) (is_orphan (l.book.keeper x)) 0
            → l.book.classes x ≡ class → tally x (put g.left class [] c) ≡ 0
        gone c some n of = equal_or c class
            (λ here. ap (tally x) (ap (put g.left class []) here ∙ put-same g.left class []))
            (λ ne. ap (tally x) (put-other g.left class [] c ne) ∙ n
            ∙ (let w : cond (eqb (l.book.classes x) c) (is_orphan (l.book.keeper x)) 0 ≡ 0 = grind
            (arith, nat_tests) in w))

    here_one : ◌≡◌ {A = ℕ} (is_adopting t (Keeper.Adopting t)) 1
    here_one = grind (arith, nat_tests)

    mine : (task : Task) → ((x : ℕ) → is_returned x task ≡ 0) → (x : ℕ)
        → tally x (g.left class) + tally x (l.spares t).items + is_returned x task
        ≡ is_adopting t (chain_taken t (g.left class) l.book.keeper x)
    mine task none x =
        let r = none x in
        let a = ap (tally x) fits.1.0 in
        let b = ap (tally x) fits.1.1 in
        let n = good.hands_once t x in
        let q = ap (is_returned x) is in
        let o = good.left_once class x in
        less_or 0 (tally x (g.left class))
        (λ some. let z = ap is_orphan (was x some).0 in let y = ap (is_adopting t) (now x some) in
        let w : cond (eqb (l.book.classes x) class) (is_orphan (l.book.keeper x)) 0 ≡ is_orphan (l.book.keeper x) =
        chosen x (was x some).1 in let h = here_one in omega arith)
        (λ no. let y = ap (is_adopting t) (same x no) in omega arith)
      where
        chosen : (x : ℕ) → l.book.classes x ≡ class
            → cond (eqb (l.book.classes x) class) (is_orphan (l.book.keeper x)) 0 ≡ is_orphan (l.book.keeper x)
        chosen x of = grind (arith, nat_tests)

    strange : (o x : ℕ) → o ≢ t → is_adopting o (chain_taken t (g.left class) l.book.keeper x)
        ≡ is_adopting o (l.book.keeper x)
    strange o x ne = less_or 0 (tally x (g.left class))
        (λ some. ap (is_adopting o) (now x some) ∙ other ∙ sym (ap (is_adopting o) (was x some).0))
        (λ none. ap (is_adopting o) (same x none))
      where
        other : ◌≡◌ {A = ℕ} (is_adopting o (Keeper.Adopting t)) 0
        other = grind (arith, nat_tests)

    not_returned : (o : Option ℕ) (x : ℕ) → is_returned x (taken_task class o) ≡ 0
    not_returned (Some e) x = refl
    not_returned None x = refl

    own_same : (o : Option ℕ) (x : ℕ) → own_kept t (taken_task class o) x ≡ Own.Kept t
    own_same (Some e) x = refl
    own_same None x = refl

    own_before : (x : ℕ) → own_kept t (l.tasks t) x ≡ Own.Kept t
    own_before x = ap (λ q. own_kept t q x) is

    by : (o : Option ℕ) → link_of (m orphans class) ≡ o
        → OrphansGood k (shadow_taken t class g)
        (core_in (write m orphans class 0) (with_task t (taken_task class o)
        (with_book (with_chain_taken t (g.left class) l.book) l)))
    by o head = record {
      mail = steps_keep_mail k g.mail m (mail_locals l) (shadow_come t (g.left class) g.mail) m
          (record (mail_locals l) { keeper = chain_taken t (g.left class) l.book.keeper }) good.mail
          (MailStep.comes t (g.left class) (λ x some. way_orphan k g s x good (was x some).0));
      even = λ x. taken-each (λ x q. IsThere q → slab_granule x ≡ x) (g.left class) (Keeper.Adopting t) l.book.keeper
          (λ x some _. good.even x (subst IsThere (sym (was x some).0) tt)) (λ x none there. good.even x there) x;
      owns_fit = λ x. own-moves l.tasks (put l.tasks t task) t x (keep x) (s.owns x) (put-other l.tasks t task)
          (ap (λ q. own_kept t q x) (put-same l.tasks t task) ∙ own_same o x ∙ sym (own_before x))
          (taken-each (λ x q. OwnFits l.tasks x q (s.owns x)) (g.left class) (Keeper.Adopting t) l.book.keeper
          (λ x some. subst (λ q. OwnFits l.tasks x q (s.owns x)) (was x some).0 (good.owns_fit x))
          (λ x none. good.owns_fit x) x);
      headers_fit = λ x. taken-each (λ x q. IsLeft q → s.headers x ≡ to_header (record_of l.book x)) (g.left class)
          (Keeper.Adopting t) l.book.keeper
          (λ x some _. good.headers_fit x (subst IsLeft (sym (was x some).0) tt))
          (λ x none left. good.headers_fit x left) x;
      left_once = once;
      hands_once = λ a x. equal_or a t
          (λ at. subst (λ y. in_hand (put g.taken t (g.left class)) l.spares (put l.tasks t task) y x
          ≡ is_adopting y (keep x)) (sym at)
          (ap (λ xs. tally x xs + tally x (l.spares t).items + is_returned x (put l.tasks t task t))
          (put-same g.taken t (g.left class))
          ∙ ap (λ q. tally x (g.left class) + tally x (l.spares t).items + is_returned x q) (put-same l.tasks t task)
          ∙ mine task (not_returned o) x))
          (λ ne. ap (λ xs. tally x xs + tally x (l.spares a).items + is_returned x (put l.tasks t task a))
          (put-other g.taken t (g.left class) a ne)
          ∙ ap (λ q. tally x (g.taken a) + tally x (l.spares a).items + is_returned x q) (put-other l.tasks t task a ne)
          ∙ good.hands_once a x ∙ sym (strange a x ne));
      left_chains = heads;
      rooms = good.rooms;
      tasks' = seats.tasks';
      duties = seats.duties;
    }
      where
        task : Task
        task = taken_task class o

        r : Core
        r = core_in (write m orphans class 0) (with_task t (taken_task class o)
            (with_book (with_chain_taken t (g.left class) l.book) l))

        heads : (c : ℕ) → IsChain (links_in (core_in m l).nexts) (item_link (link_of (put (m orphans) class 0 c)))
            (put g.left class [] c) 0
        heads = both (λ c w xs. IsChain (links_in (core_in m l).nexts) (item_link (link_of w)) xs 0)
            (m orphans) g.left class
            0 [] (λ c _. good.left_chains c) (ap item_link end-reads)

        ends : (xs : List ℕ) → IsChain (links_in (core_in m l).nexts) (Ends 0) xs 0 → xs ≡ []
        ends [] chain = refl
        ends (x ∷ xs) (first, chain) = absurd (cc)

        hand : HandFits k (core_in (write m orphans class 0) (with_task t (taken_task class o)
            (with_book (with_chain_taken t (g.left class) l.book) l))) t class
        hand = record {
          class' = fits.0.class';
          seat' = fits.0.seat';
          of = λ x. taken-each (λ x q. q ≡ Keeper.Adopting t → l.book.classes x ≡ class) (g.left class)
              (Keeper.Adopting t) l.book.keeper (λ x some _. (was x some).1) (λ x none z. fits.0.of x z) x;
        }

        fits_now : (o' : Option ℕ) → link_of (m orphans class) ≡ o'
            → HandFits k (core_in (write m orphans class 0) (with_task t (taken_task class o)
            (with_book (with_chain_taken t (g.left class) l.book) l))) t class
            → TaskFits k (shadow_taken t class g) (core_in (write m orphans class 0) (with_task t (taken_task class o)
            (with_book (with_chain_taken t (g.left class) l.book) l))) t (taken_task class o')
        fits_now (Some e) at hand = (
          hand,
          (
            fits.1.0,
            subst (λ xs. IsChain (links_in (core_in m l).nexts) (To e) xs 0) (sym (put-same g.taken t (g.left class)))
                (subst (λ q. IsChain (links_in (core_in m l).nexts) (item_link q) (g.left class) 0) at
                (good.left_chains class)),
          ),
        )
        fits_now None at hand = (
          fits.1.0,
          put-same g.taken t (g.left class)
              ∙ ends (g.left class) (subst (λ q. IsChain (links_in (core_in m l).nexts) (item_link q)
              (g.left class) 0) at
              (good.left_chains class)),
        )

        seats : SeatsFit k (shadow_taken t class g) (core_in (write m orphans class 0) (with_task t (taken_task class o)
            (with_book (with_chain_taken t (g.left class) l.book) l)))
        seats = seats_keep k t (taken_task class o) g (core_in m l) (shadow_taken t class g)
            (core_in (write m orphans class 0) (with_task t (taken_task class o)
            (with_book (with_chain_taken t (g.left class) l.book) l))) good (record {
              others = λ a ne. record {
                task = put-other l.tasks t (taken_task class o) a ne;
                taken = put-other g.taken t (g.left class) a ne;
                spares = refl;
                kept = λ x at _. record {
                  keeper = same x (out_keeper x (Keeper.By a) at (λ z. cc));
                  record' = refl;
                  header = refl;
                };
                leaving = λ x at. record {
                  way = way_same x (out_way x (Mail.Leaving a) at (λ z. cc));
                  next = refl;
                };
                adopted = λ x at by. record {
                  way = way_same x (out_way x (Mail.Adopted a) at (λ z. cc));
                  next = refl;
                  keeper = same x (out_way x (Mail.Adopted a) at (λ z. cc));
                  class' = refl;
                };
                hand = λ x at. (refl, refl);
                begun = λ x at. (way_same x (out_way x (Mail.Begun a) at (λ z. cc)) ∙ at, refl);
                no_hand = λ x. taken-each (λ x q. q ≡ Keeper.Adopting a
                    → (l.book.keeper x ≡ Keeper.Adopting a) × (l.book.classes x ≡ l.book.classes x)) (g.left class)
                    (Keeper.Adopting t) l.book.keeper
                    (λ x some z. absurd (ne (let q : Keeper.Adopting t ≡ Keeper.Adopting a = z in
                    let e : t ≡ a = cc in sym e))) (λ x none z. (z, refl)) x;
                no_leaving = λ x. taken-each (λ x q. q ≡ Mail.Leaving a → g.mail.mail x ≡ Mail.Leaving a) (g.left class)
                    (Mail.Adopted t) g.mail.mail (λ x some z. absurd (cc)) (λ x none z. z) x;
                no_adopted = λ x. less_or 0 (tally x (g.left class))
                    (λ some z by. absurd (let q : Keeper.Adopting t ≡ Keeper.By a = sym (now x some) ∙ by in cc))
                    (λ none z by. (sym (way_same x none) ∙ z, sym (same x none) ∙ by));
              };
              stands = put-same l.tasks t (taken_task class o);
              task' = fits_now o head hand;
              leaving = λ x. taken-each (λ x q. q ≡ Mail.Leaving t → IsLeaving (taken_task class o) x) (g.left class)
                  (Mail.Adopted t) g.mail.mail (λ x some z. absurd (cc))
                  (λ x none z. absurd (leaving_at k g s t (Task.Adopting class AdoptAt.Take) is good x z)) x;
              joining = λ x. less_or 0 (tally x (g.left class))
                  (λ some z by. absurd (let q : Keeper.Adopting t ≡ Keeper.By t = sym (now x some) ∙ by in cc))
                  (λ none z by. absurd (joining_at k g s t (Task.Adopting class AdoptAt.Take) is good x
                  (sym (way_same x none) ∙ z) (sym (same x none) ∙ by)));
            })

-- O7 of a slab that is put aside
pub spared-as : (k : Key) (g : Shadow) (m : Mem) (l : Locals) (t class e : ℕ) → OrphansGood k g (core_in m l)
    → l.tasks t ≡ Task.Adopting class (AdoptAt.Spare e)
    → OrphansGood k (shadow_dealt t g)
    (core_in m (adopted_as t class (AdoptNext.Spared e (next_link_of (next_of (m nexts e)))) l))
spared-as k g m l t class e good is = by (next_link_of (next_of (m nexts e))) behind.2
  where
    s : Core
    s = core_in m l

    fits : TaskFits k g (core_in m l) t (Task.Adopting class (AdoptAt.Spare e))
    fits = fits_at k g (core_in m l) t (Task.Adopting class (AdoptAt.Spare e)) is good

    behind : IsBehind g (core_in m l) t e (next_link_of (next_of (m nexts e)))
    behind = split g (core_in m l) t e fits.1

    f : ℕ → Rolled ℕ
    f = put l.spares t (after_push (l.spares t) e)

    rest : put g.taken t (tail_of (g.taken t)) t ≡ behind.0
    rest = put-same g.taken t (tail_of (g.taken t)) ∙ ap tail_of behind.1

    counts : (x : ℕ) → tally x (put l.spares t (after_push (l.spares t) e) t).items
        ≡ tally x (l.spares t).items + tally x (e ∷ [])
    counts x = ap (λ (q : Rolled ℕ). tally x q.items) (put-same l.spares t (after_push (l.spares t) e))
        ∙ ap (tally x) (pushed_items (l.spares t) e (spare_has_room k g m l t class e good is))
        ∙ tally-append x (l.spares t).items (e ∷ [])

    rooms : (put l.spares t (after_push (l.spares t) e) t).room ≡ (l.spares t).room
    rooms = ap (λ (q : Rolled ℕ). q.room) (put-same l.spares t (after_push (l.spares t) e))
        ∙ pushed_room (l.spares t) e

    by : (o : Option ℕ) → IsChain (links_in (core_in m l).nexts) (item_link o) behind.0 0
        → OrphansGood k (shadow_dealt t g) (core_in m (adopted_as t class (AdoptNext.Spared e o) l))
    by (Some y) chain =
        hand_keeps k t (Task.Adopting class (AdoptAt.Spare y)) (put g.taken t (tail_of (g.taken t))) f g s good
        (record {
          taken_else = put-other g.taken t (tail_of (g.taken t));
          spares_else = put-other l.spares t (after_push (l.spares t) e);
          count = λ x. let a = ap (tally x) rest in let b = counts x in let c = ap (tally x) behind.1 in
              let d = ap (is_returned x) is in omega arith;
          room = rooms;
          own = λ x. sym (ap (λ q. own_kept t q x) is);
        }) (
          record { class' = fits.0.class'; seat' = fits.0.seat'; of = fits.0.of },
          subst (λ xs. IsChain (links_in s.nexts) (To y) xs 0) (sym rest) chain,
        )
        (leaving_at k g s t (Task.Adopting class (AdoptAt.Spare e)) is good)
        (joining_at k g s t (Task.Adopting class (AdoptAt.Spare e)) is good)
    by None chain =
        spares_keep k t class f (put g.taken t (tail_of (g.taken t))) g m l good
        (put-other g.taken t (tail_of (g.taken t))) (rest ∙ none behind.0 chain)
        (put-other l.spares t (after_push (l.spares t) e))
        (λ x. let b = counts x in let c = ap (tally x) behind.1 in let n = ap (tally x) (none behind.0 chain) in
        let d = ap (is_returned x) is in omega arith)
        rooms (λ x. ap (λ q. own_kept t q x) is) fits.0
        (leaving_at k g s t (Task.Adopting class (AdoptAt.Spare e)) is good)
        (joining_at k g s t (Task.Adopting class (AdoptAt.Spare e)) is good)
      where
        none : (xs : List ℕ) → IsChain (links_in (core_in m l).nexts) (Ends 0) xs 0 → xs ≡ []
        none [] chain = refl
        none (x ∷ xs) (first, chain) = absurd (cc)
