-- A slab is pushed on the orphans of its class.
use Rattle.std.proofs.Common.{◌≡◌, ◌≢◌, ℕ, ◌+◌, ◌≤◌, cond, eqb, Option, Some, ◌∷◌}
use Rattle.std.proofs.Common.{refl, sym, ap, subst, arith, ◌∙◌}
use Rattle.std.proofs.lemmas.Bool.Decides.{nat_tests}
use Rattle.pool_words.specs.declared.words.Key.{Key}
use Rattle.word_codes.specs.declared.owns.Own.{Own}
use Rattle.heap_slabs.specs.Heaps.{most_slabs}
use Rattle.heap_slabs.specs.Records.{to_header}
use Rattle.heap_slabs.specs.Rolls.{Rolled}
use Rattle.word_laws.specs.Memory.{put}
use Rattle.word_laws.proofs.CallerLemmas.{equal_or}
use Rattle.chain_laws.specs.Chains.{IsChain, tally}
use Rattle.slab_laws.specs.Books.{Keeper, IsThere, record_of, with_keeper}
use Rattle.slab_laws.proofs.CallerLemmas.{put-same, put-other}
use Rattle.mail_laws.specs.Mail.{Mail, item_link, links_in, MailGood}
use Rattle.mail_laws.specs.Steps.{with_mail}
use Rattle.orphan_laws.specs.Orphans.{Task, Shadow, Core, mail_core, IsLeaving, IsJoining, own_kept, OwnFits, is_orphan}
use Rattle.orphan_laws.specs.Orphans.{is_adopting, is_returned, in_hand, TaskFits, OrphansGood}
use Rattle.orphan_laws.specs.Steps.{shadow_pushed}
use Rattle.orphan_laws.proofs.Seats.{seats_keep, OnlyAt, Apart, rely_only}
use Rattle.orphan_laws.proofs.Rows.{row_keeps}

pub not_adopting : (o : ℕ) (q : Keeper) → q ≢ Keeper.Adopting o → is_adopting o q ≡ 0
not_adopting o Keeper.Nobody ne = refl
not_adopting o (Keeper.By t) ne = refl
not_adopting o Keeper.Orphan ne = refl
not_adopting o (Keeper.Adopting t) ne = equal_or t o (λ same. absurd (ne (ap Keeper.Adopting same)))
    (λ away. grind (arith, nat_tests))
not_adopting o (Keeper.Cached t) ne = refl

abbrev pub pushed_core : ℕ → ℕ → Task → (ℕ → Rolled ℕ) → (ℕ → Option ℕ) → Core → Core
pushed_core t e task spares' heads' s = record s {
  heads = heads';
  book = with_keeper e Keeper.Orphan s.book;
  tasks = put s.tasks t task;
  spares = spares';
}

pub record PushRow (k : Key) (t e class : ℕ) (task : Task) (spares' : ℕ → Rolled ℕ) (heads' : ℕ → Option ℕ) (g : Shadow)
    (s : Core) (h : Shadow) (r : Core) : Type 0 where
  pub before : is_orphan (s.book.keeper e) ≡ 0
  pub class' : s.book.classes e ≡ class
  pub there : IsThere (s.book.keeper e)
  pub mail : MailGood k (with_mail e Mail.Left g.mail) (mail_core r)
  pub others : (o : ℕ) → o ≢ t → Apart o e g s h r
  pub own : s.owns e ≡ Own.Orphan
  pub own_else : (x : ℕ) → x ≢ e → own_kept t task x ≡ own_kept t (s.tasks t) x
  pub header : s.headers e ≡ to_header (record_of s.book e)
  pub count : (x : ℕ) → tally x (g.taken t) + tally x (spares' t).items + is_returned x task
      ≡ is_adopting t (put s.book.keeper e Keeper.Orphan x)
  pub spares_else : (o : ℕ) → o ≢ t → spares' o ≡ s.spares o
  pub room : (spares' t).room ≡ (s.spares t).room
  pub head : heads' class ≡ Some e
  pub head_else : (c : ℕ) → c ≢ class → heads' c ≡ s.heads c
  pub linked : links_in s.nexts e ≡ item_link (s.heads class)
  pub fits : TaskFits k h r t task
  pub leaving : (x : ℕ) → h.mail.mail x ≡ Mail.Leaving t → IsLeaving task x
  pub joining : (x : ℕ) → h.mail.mail x ≡ Mail.Adopted t → r.book.keeper x ≡ Keeper.By t → IsJoining task x

pub pushed_keeps : (k : Key) (t e class : ℕ) (task : Task) (spares' : ℕ → Rolled ℕ) (heads' : ℕ → Option ℕ) (g : Shadow)
    (s : Core) → OrphansGood k g s
    → PushRow k t e class task spares' heads' g s (shadow_pushed class e g) (pushed_core t e task spares' heads' s)
    → OrphansGood k (shadow_pushed class e g) (pushed_core t e task spares' heads' s)
pushed_keeps k t e class task spares' heads' g s good row =
    row_keeps k t e g s (shadow_pushed class e g) (pushed_core t e task spares' heads' s) good (record {
      only = only;
      mail = row.mail;
      even = λ _. good.even e row.there;
      tasks_else = put-other s.tasks t task;
      own_else = λ x ne. ap (λ q. own_kept t q x) (put-same s.tasks t task) ∙ row.own_else x ne;
      own = subst OwnIs (sym (put-same s.book.keeper e Keeper.Orphan)) row.own;
      header = λ _. row.header;
      left_once = λ c x. once c x (good.left_once c x) (good.left_once c e)
          (good.left_once class e) row.before row.class';
      hands_once = λ o x. equal_or o t
          (λ same. subst (λ y. in_hand g.taken spares' (put s.tasks t task) y x
          ≡ is_adopting y (put s.book.keeper e Keeper.Orphan x)) (sym same)
          (ap (λ q. tally x (g.taken t) + tally x (spares' t).items + is_returned x q) (put-same s.tasks t task)
          ∙ row.count x))
          (λ ne. others_hand o x ne);
      left_chains = λ c. equal_or c class
          (λ same. subst (λ y. IsChain (links_in s.nexts) (item_link (heads' y)) (put g.left class
          (e ∷ g.left class) y) 0)
          (sym same)
          (subst (λ xs. IsChain (links_in s.nexts) (item_link (heads' class)) xs 0)
          (sym (put-same g.left class (e ∷ g.left class)))
          (subst (λ q. IsChain (links_in s.nexts) (item_link q) (e ∷ g.left class) 0) (sym row.head) (
            refl,
            subst (λ q. IsChain (links_in s.nexts) q (g.left class) 0) (sym row.linked) (good.left_chains class),
          ))))
          (λ ne. subst (λ xs. IsChain (links_in s.nexts) (item_link (heads' c)) xs 0)
          (sym (put-other g.left class (e ∷ g.left class) c ne))
          (subst (λ q. IsChain (links_in s.nexts) (item_link q) (g.left c) 0) (sym (row.head_else c ne))
          (good.left_chains c)));
      rooms = λ o. equal_or o t
          (λ same. subst (λ y. most_slabs k.span ≤ (spares' y).room) (sym same)
          (subst (λ n. most_slabs k.span ≤ n) (sym row.room) (good.rooms t)))
          (λ ne. subst (λ (q : Rolled ℕ). most_slabs k.span ≤ q.room) (sym (row.spares_else o ne)) (good.rooms o));
    })
    (seats_keep k t task g s (shadow_pushed class e g) (pushed_core t e task spares' heads' s) good (record {
      others = λ o ne. rely_only o e g s (shadow_pushed class e g) (pushed_core t e task spares' heads' s) only
          (row.others o ne) (put-other s.tasks t task o ne) refl (row.spares_else o ne);
      stands = put-same s.tasks t task;
      task' = row.fits;
      leaving = row.leaving;
      joining = row.joining;
    }))
  where
    OwnIs : Keeper → Type 0
    OwnIs q = OwnFits (put s.tasks t task) e q (s.owns e)

    only : OnlyAt e g s (shadow_pushed class e g) (pushed_core t e task spares' heads' s)
    only = record {
      way = put-other g.mail.mail e Mail.Left;
      next = λ x _. refl;
      keeper = put-other s.book.keeper e Keeper.Orphan;
      record' = λ x _. refl;
      header = λ x _. refl;
      own = λ x _. refl;
    }

    once : (c x : ℕ) → tally x (g.left c) ≡ cond (eqb (s.book.classes x) c) (is_orphan (s.book.keeper x)) 0
        → tally e (g.left c) ≡ cond (eqb (s.book.classes e) c) (is_orphan (s.book.keeper e)) 0
        → tally e (g.left class) ≡ cond (eqb (s.book.classes e) class) (is_orphan (s.book.keeper e)) 0
        → is_orphan (s.book.keeper e) ≡ 0 → s.book.classes e ≡ class
        → tally x (put g.left class (e ∷ g.left class) c)
        ≡ cond (eqb (s.book.classes x) c) (is_orphan (put s.book.keeper e Keeper.Orphan x)) 0
    once c x a d q z class' = grind (arith, nat_tests)

    others_hand : (o x : ℕ) → o ≢ t → in_hand g.taken spares' (put s.tasks t task) o x
        ≡ is_adopting o (put s.book.keeper e Keeper.Orphan x)
    others_hand o x ne =
        ap (λ (q : Rolled ℕ). tally x (g.taken o) + tally x q.items + is_returned x (put s.tasks t task o))
        (row.spares_else o ne)
        ∙ ap (λ q. tally x (g.taken o) + tally x (s.spares o).items + is_returned x q) (put-other s.tasks t task o ne)
        ∙ good.hands_once o x
        ∙ equal_or x e
        (λ same. ap (λ y. is_adopting o (s.book.keeper y)) same ∙ not_adopting o (s.book.keeper e)
        (row.others o ne).hand
        ∙ sym (ap (is_adopting o) (put-same s.book.keeper e Keeper.Orphan))
        ∙ ap (λ y. is_adopting o (put s.book.keeper e Keeper.Orphan y)) (sym same))
        (λ away. ap (is_adopting o) (sym (put-other s.book.keeper e Keeper.Orphan x away)))
