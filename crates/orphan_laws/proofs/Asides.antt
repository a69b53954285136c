-- Steps of mail that leave orphans as they were.
use Rattle.std.proofs.Common.{◌≡◌, ◌≢◌, ℕ, cond, eqb}
use Rattle.std.proofs.Common.{refl, sym, ap, subst, ◌∙◌}
use Rattle.std.specs.Prelude.{⊤}
use Rattle.pool_words.specs.declared.words.Key.{Key}
use Rattle.pool_words.specs.declared.words.Word.{Word}
use Rattle.pool_words.specs.Words.{WordKind, kind_of_word, at_of, length_of, nexts}
use Rattle.pool_words.specs.Words.{owns, headers, orphans}
use Rattle.word_codes.specs.declared.owns.Own.{Own}
use Rattle.word_codes.specs.Links.{link_of}
use Rattle.word_codes.specs.Nexts.{next_of}
use Rattle.word_codes.specs.Owns.{own_of}
use Rattle.word_laws.specs.Memory.{Mem, stored}
use Rattle.word_laws.proofs.CallerLemmas.{less_or, write_else, stored-valid, stored-void}
use Rattle.chain_laws.specs.Chains.Link.{Ends}
use Rattle.chain_laws.proofs.CallerLemmas.{leads-same}
use Rattle.slab_laws.specs.Books.{Keeper, IsThere, IsLeft}
use Rattle.mail_laws.specs.Mail as mailing
use Rattle.mail_laws.specs.Mail.{Mail, item_link, next_link, links_in, MailGood}
use Rattle.orphan_laws.specs.Orphans.{Task, Shadow, Locals, Core, core_in, mail_core, OwnFits, is_orphan}
use Rattle.orphan_laws.specs.Orphans.{is_adopting, OrphansGood}
use Rattle.orphan_laws.proofs.Seats.{SeatsFit, all_stay}
use Rattle.orphan_laws.proofs.Rows.{way_orphan, way_taken}
use Rattle.orphan_laws.proofs.Taking.{left-is}

-- a slab that a seat begins, leaves or adopts, or that nobody keeps
abbrev pub IsMoved : Mail → Type 0
IsMoved Mail.Absent = ⊥
IsMoved (Mail.Begun seat) = ⊥
IsMoved Mail.Rest = ⊥
IsMoved (Mail.Owed seat) = ⊥
IsMoved Mail.Boxed = ⊥
IsMoved (Mail.Taken seat) = ⊥
IsMoved (Mail.Leaving seat) = ⊤
IsMoved Mail.Left = ⊤
IsMoved (Mail.Adopted seat) = ⊤

abbrev pub IsHeld : Mail → Type 0
IsHeld Mail.Absent = ⊥
IsHeld (Mail.Begun seat) = ⊤
IsHeld Mail.Rest = ⊥
IsHeld (Mail.Owed seat) = ⊥
IsHeld Mail.Boxed = ⊥
IsHeld (Mail.Taken seat) = ⊥
IsHeld (Mail.Leaving seat) = ⊤
IsHeld Mail.Left = ⊤
IsHeld (Mail.Adopted seat) = ⊤

-- what such a step leaves
pub record Beside (g : mailing.Shadow) (m : Mem) (keeper : ℕ → Keeper) (h : mailing.Shadow) (m' : Mem)
    (keeper' : ℕ → Keeper) : Type 0 where
  pub own : m' owns ≡ m owns
  pub header : m' headers ≡ m headers
  pub chain : m' orphans ≡ m orphans
  pub way : (e : ℕ) → IsHeld (g.mail e) → h.mail e ≡ g.mail e
  pub back : (e : ℕ) → IsMoved (h.mail e) → h.mail e ≡ g.mail e
  pub next : (e : ℕ) → IsMoved (g.mail e) → m' nexts e ≡ m nexts e
  pub keeps : (e : ℕ) → IsThere (keeper e) → keeper' e ≡ keeper e
  pub kept : (e : ℕ) → IsThere (keeper' e) → keeper' e ≡ keeper e

own-beside : (tasks : ℕ → Task) (x : ℕ) (q was : Keeper) (own : Own) → (IsThere q → q ≡ was) → OwnFits tasks x was own
    → OwnFits tasks x q own
own-beside tasks x Keeper.Nobody was own same fits = tt
own-beside tasks x (Keeper.By t) was own same fits = subst (λ q. OwnFits tasks x q own) (sym (same tt)) fits
own-beside tasks x Keeper.Orphan was own same fits = subst (λ q. OwnFits tasks x q own) (sym (same tt)) fits
own-beside tasks x (Keeper.Adopting t) was own same fits = subst (λ q. OwnFits tasks x q own) (sym (same tt)) fits
own-beside tasks x (Keeper.Cached t) was own same fits = tt

left_there : (q : Keeper) → IsLeft q → IsThere q
left_there Keeper.Nobody left = left
left_there (Keeper.By t) left = tt
left_there Keeper.Orphan left = tt
left_there (Keeper.Adopting t) left = tt
left_there (Keeper.Cached t) left = left

-- two keepers that are one where either is there
count-beside : (count : Keeper → ℕ) → count Keeper.Nobody ≡ 0 → ((t : ℕ) → count (Keeper.Cached t) ≡ 0)
    → (q was : Keeper) → (IsThere q → q ≡ was) → (IsThere was → q ≡ was) → count q ≡ count was
count-beside count none hidden Keeper.Nobody Keeper.Nobody a b = refl
count-beside count none hidden Keeper.Nobody (Keeper.By t) a b = ap count (b tt)
count-beside count none hidden Keeper.Nobody Keeper.Orphan a b = ap count (b tt)
count-beside count none hidden Keeper.Nobody (Keeper.Adopting t) a b = ap count (b tt)
count-beside count none hidden Keeper.Nobody (Keeper.Cached t) a b = none ∙ sym (hidden t)
count-beside count none hidden (Keeper.By t) was a b = ap count (a tt)
count-beside count none hidden Keeper.Orphan was a b = ap count (a tt)
count-beside count none hidden (Keeper.Adopting t) was a b = ap count (a tt)
count-beside count none hidden (Keeper.Cached t) Keeper.Nobody a b = hidden t ∙ sym none
count-beside count none hidden (Keeper.Cached t) (Keeper.By o) a b = ap count (b tt)
count-beside count none hidden (Keeper.Cached t) Keeper.Orphan a b = ap count (b tt)
count-beside count none hidden (Keeper.Cached t) (Keeper.Adopting o) a b = ap count (b tt)
count-beside count none hidden (Keeper.Cached t) (Keeper.Cached o) a b = hidden t ∙ sym (hidden o)

abbrev beside_locals : (ℕ → Keeper) → (ℕ → mailing.Task) → Locals → Locals
beside_locals keeper' mails' l = record l { book = record l.book { keeper = keeper' }; mails = mails' }

-- the words that are read of orphans are the same
abbrev beside_core : Mem → Mem → Locals → Core
beside_core m m' l = record (core_in m' l) {
  owns = λ e. own_of (m owns e);
  headers = m headers;
  heads = λ c. link_of (m orphans c);
}

same_words : (k : Key) (g : Shadow) (m m' : Mem) (l : Locals) → m' owns ≡ m owns → m' headers ≡ m headers
    → m' orphans ≡ m orphans → OrphansGood k g (beside_core m m' l) → OrphansGood k g (core_in m' l)
same_words k g m m' l own header chain good =
    subst (λ (f : ℕ → ℕ). OrphansGood k g (record (core_in m' l) {
      owns = λ e. own_of (f e);
    })) (sym own)
    (subst (λ (f : ℕ → ℕ). OrphansGood k g (record (core_in m' l) {
      owns = λ e. own_of (m owns e);
      headers = f;
    })) (sym header)
    (subst (λ (f : ℕ → ℕ). OrphansGood k g (record (core_in m' l) {
      owns = λ e. own_of (m owns e);
      headers = m headers;
      heads = λ c. link_of (f c);
    })) (sym chain) good))

pub beside_keeps : (k : Key) (g : Shadow) (m : Mem) (l : Locals) (h : mailing.Shadow) (m' : Mem) (keeper' : ℕ → Keeper)
    (mails' : ℕ → mailing.Task) → OrphansGood k g (core_in m l)
    → MailGood k h (mail_core (core_in m' (beside_locals keeper' mails' l)))
    → Beside g.mail m l.book.keeper h m' keeper'
    → OrphansGood k (record g { mail = h }) (core_in m' (beside_locals keeper' mails' l))
beside_keeps k g m l h m' keeper' mails' good mail beside =
    same_words k (record g { mail = h }) m m' (beside_locals keeper' mails' l) beside.own beside.header beside.chain
    (record {
      mail = mail;
      even = λ x there. good.even x (subst IsThere (beside.kept x there) there);
      owns_fit = λ x. own-beside l.tasks x (keeper' x) (l.book.keeper x) (own_of (m owns x)) (beside.kept x)
          (good.owns_fit x);
      headers_fit = λ x left. good.headers_fit x
          (subst IsLeft (beside.kept x (left_there (keeper' x) left)) left);
      left_once = λ c x. good.left_once c x ∙ ap (λ n. cond (eqb (l.book.classes x) c) n 0)
          (sym (count-beside is_orphan refl (λ t. refl) (keeper' x) (l.book.keeper x) (beside.kept x)
          (beside.keeps x)));
      hands_once = λ o x. good.hands_once o x ∙ sym (count-beside (is_adopting o) refl (λ t. refl) (keeper' x)
          (l.book.keeper x) (beside.kept x) (beside.keeps x));
      left_chains = λ c. leads-same (links_in s.nexts) (links_in r.nexts) (item_link (s.heads c)) (g.left c) (Ends 0)
          (λ x some. ap next_link (ap next_of (beside.next x (subst IsMoved
          (sym (way_orphan k g s x good (left-is k g s c x good some).0)) tt)))) (good.left_chains c);
      rooms = good.rooms;
      tasks' = seats.tasks';
      duties = seats.duties;
    })
  where
    s : Core
    s = core_in m l

    r : Core
    r = beside_core m m' (beside_locals keeper' mails' l)

    there_by : (q : Keeper) (t : ℕ) → q ≡ Keeper.By t → IsThere q
    there_by q t by = subst IsThere (sym by) tt

    seats : SeatsFit k (record g { mail = h }) (beside_core m m' (beside_locals keeper' mails' l))
    seats = all_stay k g (core_in m l) (record g { mail = h }) (beside_core m m' (beside_locals keeper' mails' l)) good
        (λ o. record {
          task = refl;
          taken = refl;
          spares = refl;
          kept = λ e by _. record {
            keeper = beside.keeps e (there_by (l.book.keeper e) o by);
            record' = refl;
            header = refl;
          };
          leaving = λ e at. record {
            way = beside.way e (subst IsHeld (sym at) tt);
            next = ap next_of (beside.next e (subst IsMoved (sym at) tt));
          };
          adopted = λ e at by. record {
            way = beside.way e (subst IsHeld (sym at) tt);
            next = ap next_of (beside.next e (subst IsMoved (sym at) tt));
            keeper = beside.keeps e (there_by (l.book.keeper e) o by);
            class' = refl;
          };
          hand = λ e by.
              (ap next_of (beside.next e (subst IsMoved (sym (way_taken k g (core_in m l) e o good by)) tt)), refl);
          begun = λ e at. (beside.way e (subst IsHeld (sym at) tt) ∙ at, refl);
          no_hand = λ e by. (sym (beside.kept e (subst IsThere (sym by) tt)) ∙ by, refl);
          no_leaving = λ e at. sym (beside.back e (subst IsMoved (sym at) tt)) ∙ at;
          no_adopted = λ e at by. (
            sym (beside.back e (subst IsMoved (sym at) tt)) ∙ at,
            sym (beside.kept e (there_by (keeper' e) o by)) ∙ by,
          );
        })

-- one word of another kind is stored
pub stored-else : (k : Key) (m : Mem) (w : Word) (v : ℕ) (kind : WordKind) (j : ℕ) → at_of w ≢ j
    → stored k m w v kind j ≡ m kind j
stored-else k m w v kind j ne = less_or (at_of w) (length_of k (kind_of_word w))
    (λ valid. subst (λ (x : Mem). x kind j ≡ m kind j) (sym (stored-valid k m w v valid))
    (write_else m (kind_of_word w) kind (at_of w) v j (λ _. ne)))
    (λ void. subst (λ (x : Mem). x kind j ≡ m kind j) (sym (stored-void k m w v void)) refl)
