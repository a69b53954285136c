-- What stores of public words, next words and mailboxes leave, and what is read back.
use Rattle.std.proofs.Common.{◌≡◌, ◌≢◌, ℕ, ◌+◌, ◌*◌, ◌%◌, ◌^◌, ◌<◌, ◌≤◌, Bool, true, false, cond, eqb, Option, Some, None, refl, sym}
use Rattle.std.proofs.Common.{ap, subst, arith, ◌∙◌}
use Rattle.std.proofs.lemmas.Bool.Decides.{nat_tests}
use Rattle.pool_types.specs.Geometry.{class_count}
use Rattle.pool_words.specs.declared.words.Key.{Key}
use Rattle.pool_words.specs.declared.words.Word.{Word}
use Rattle.pool_words.specs.declared.actions.Action.{Action}
use Rattle.pool_words.specs.declared.actions.Action.TheVariants.{Load, Store, Swap, Exchange, Add}
use Rattle.pool_words.specs.declared.actions.Action.TheVariants.{TakeOffice, GiveOffice, Nothing}
use Rattle.pool_words.specs.Words.{kind_of_word, at_of, length_of, mailbox_at, publics, nexts, mailboxes}
use Rattle.word_codes.specs.declared.nexts.Next.{Next}
use Rattle.word_codes.specs.declared.publics.Public.{Public}
use Rattle.word_codes.specs.Links.{link_of, link_word}
use Rattle.word_codes.specs.Nexts.{next_of, next_word}
use Rattle.word_codes.specs.Publics.{public_of, public_word}
use Rattle.word_codes.proofs.CallerLemmas.{publics_read_back, nexts_read_back, links_read_back}
use Rattle.word_laws.specs.Memory.{Mem, Valid, put, write, stored, after, word_at}
use Rattle.word_laws.proofs.CallerLemmas.{read_put, less_or, write_else, stored-valid, stored-void}
use Rattle.mail_laws.specs.Mail.{Locals, Core, core_in, Shadow, MailGood, key_by}
use Rattle.mail_laws.specs.Steps.{IsOtherWord, IsOtherAction}

abbrev pub with_public : ℕ → Public → Core → Core
with_public e public s = record s { publics = put s.publics e public }

abbrev pub with_next : ℕ → Next → Core → Core
with_next e next s = record s { nexts = put s.nexts e next }

abbrev pub with_box : ℕ → Option ℕ → Core → Core
with_box b head s = record s { boxes = put s.boxes b head }

pub public_stored : (k : Key) (g : Shadow) (m : Mem) (l : Locals) (e value : ℕ) (public : Public) → e < k.span
    → public_of value ≡ public → MailGood k g (with_public e public (core_in m l))
    → MailGood k g (core_in (stored k m (Word.Public e) value) l)
public_stored k g m l e value public valid is good =
    subst (λ (x : Mem). MailGood k g (core_in x l)) (sym (stored-valid k m (Word.Public e) value valid))
    (subst (λ (c : Core). MailGood k g c) (sym written)
    (subst (λ q. MailGood k g (with_public e q (core_in m l))) (sym is) good))
  where
    written : core_in (write m publics e value) l ≡ with_public e (public_of value) (core_in m l)
    written = λ n. record (core_in m l) { publics = λ x. read_put public_of (m publics) e value x n }

pub next_stored : (k : Key) (g : Shadow) (m : Mem) (l : Locals) (e value : ℕ) (next : Next) → e < k.span
    → next_of value ≡ next → MailGood k g (with_next e next (core_in m l))
    → MailGood k g (core_in (stored k m (Word.Next e) value) l)
next_stored k g m l e value next valid is good =
    subst (λ (x : Mem). MailGood k g (core_in x l)) (sym (stored-valid k m (Word.Next e) value valid))
    (subst (λ (c : Core). MailGood k g c) (sym written)
    (subst (λ q. MailGood k g (with_next e q (core_in m l))) (sym is) good))
  where
    written : core_in (write m nexts e value) l ≡ with_next e (next_of value) (core_in m l)
    written = λ n. record (core_in m l) { nexts = λ x. read_put next_of (m nexts) e value x n }

pub box_stored : (k : Key) (g : Shadow) (m : Mem) (l : Locals) (seat class value : ℕ) (head : Option ℕ)
    → class < class_count → seat < k.seats → link_of value ≡ head
    → MailGood k g (with_box (mailbox_at seat class) head (core_in m l))
    → MailGood k g (core_in (stored k m (Word.Mailbox seat class) value) l)
box_stored k g m l seat class value head low few is good =
    let at : mailbox_at seat class ≡ 26 * seat + class = grind (arith, nat_tests) in
    subst (λ (x : Mem). MailGood k g (core_in x l))
    (sym (stored-valid k m (Word.Mailbox seat class) value (omega arith)))
    (subst (λ (c : Core). MailGood k g c) (sym written)
    (subst (λ q. MailGood k g (with_box (mailbox_at seat class) q (core_in m l))) (sym is) good))
  where
    written : core_in (write m mailboxes (mailbox_at seat class) value) l
        ≡ with_box (mailbox_at seat class) (link_of value) (core_in m l)
    written = λ n. record (core_in m l) {
      boxes = λ x. read_put link_of (m mailboxes) (mailbox_at seat class) value x n;
    }

pub null-reads : public_of (public_word Public.Null) ≡ Public.Null
null-reads = publics_read_back Public.Null tt

pub unusable-reads : public_of (public_word Public.Unusable) ≡ Public.Unusable
unusable-reads = publics_read_back Public.Unusable tt

pub filled-reads : (u : ℕ) → u < 2 ^ 61 → public_of (public_word (Public.Filled u)) ≡ Public.Filled u
filled-reads u low = publics_read_back (Public.Filled u) (omega arith)

pub home-reads : (seat class : ℕ) → seat < 64 → class < class_count
    → next_of (next_word (Next.Mailbox (key_by seat class))) ≡ Next.Mailbox (key_by seat class)
home-reads seat class few low = nexts_read_back (Next.Mailbox (key_by seat class)) (omega arith, omega arith)

pub link-reads : (item : ℕ) → item < 2 ^ 32 → link_of (link_word (Some item)) ≡ Some item
link-reads item low = links_read_back (Some item) (omega arith)

pub end-reads : link_of 0 ≡ None
unfolding link_of
end-reads = refl

-- other words
abbrev IsSameThere : Mem → Mem → Type 0
IsSameThere m new = (new publics ≡ m publics) × (new nexts ≡ m nexts) × (new mailboxes ≡ m mailboxes)

stored_same : (k : Key) (m : Mem) (w : Word) (value : ℕ) → IsOtherWord w → IsSameThere m (stored k m w value)
stored_same k m w value other = less_or (at_of w) (length_of k (kind_of_word w))
    (λ valid. subst (IsSameThere m) (sym (stored-valid k m w value valid)) (
      (λ n j. write_else m (kind_of_word w) publics (at_of w) value j (λ e _. other.no_public e) n),
      (λ n j. write_else m (kind_of_word w) nexts (at_of w) value j (λ e _. other.no_next e) n),
      (λ n j. write_else m (kind_of_word w) mailboxes (at_of w) value j (λ e _. other.no_mailbox e) n),
    ))
    (λ void. subst (IsSameThere m) (sym (stored-void k m w value void)) (refl, refl, refl))

same_after : (k : Key) (m : Mem) (action : Action) → IsOtherAction action → IsSameThere m (after k m action)
same_after k m (Load w) other = (refl, refl, refl)
same_after k m (Store w value) other = stored_same k m w value other
same_after k m (Swap w value) other = stored_same k m w value other
same_after k m (Exchange w from to) other = by (eqb (word_at m w) from)
  where
    by : (b : Bool) → IsSameThere m (cond b (stored k m w to) m)
    by true = stored_same k m w to other
    by false = (refl, refl, refl)
same_after k m (Add w value) other = stored_same k m w ((word_at m w + value) % 2 ^ 64) other
same_after k m (TakeOffice job) other = (refl, refl, refl)
same_after k m GiveOffice other = (refl, refl, refl)
same_after k m Nothing other = (refl, refl, refl)

pub others_keep : (k : Key) (g : Shadow) (m : Mem) (l : Locals) (action : Action) → IsOtherAction action
    → MailGood k g (core_in m l) → MailGood k g (core_in (after k m action) l)
others_keep k g m l action other good =
    let same = same_after k m action other in
    subst (λ (f : ℕ → ℕ). MailGood k g (record (core_in m l) {
      publics = λ x. public_of (f x);
      nexts = λ x. next_of (after k m action nexts x);
      boxes = λ x. link_of (after k m action mailboxes x);
    })) (sym same.0)
    (subst (λ (f : ℕ → ℕ). MailGood k g (record (core_in m l) {
      nexts = λ x. next_of (f x);
      boxes = λ x. link_of (after k m action mailboxes x);
    })) (sym same.1)
    (subst (λ (f : ℕ → ℕ). MailGood k g (record (core_in m l) { boxes = λ x. link_of (f x) })) (sym same.2) good))
