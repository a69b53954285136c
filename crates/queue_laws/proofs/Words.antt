-- What stores make of the queue's words, and which of them guards are.
use Rattle.std.proofs.Common.{◌≡◌, ◌≢◌, ℕ, ◌+◌, ◌^◌, ◌<◌, true, Option, Some}
use Rattle.std.proofs.Common.{zero, suc, List, refl, sym, ap, subst, arith}
use Rattle.std.proofs.lemmas.Bool.Decides.{nat_tests}
use Rattle.pool_words.specs.declared.words.Key.{Key}
use Rattle.pool_words.specs.declared.words.Word.{Word}
use Rattle.pool_words.specs.declared.actions.Action.TheVariants.{Swap}
use Rattle.pool_words.specs.Words.{number, kind_of_word, queue_links, sizes, lefts}
use Rattle.word_codes.specs.Links.{link_of, link_word}
use Rattle.word_codes.specs.QueueLinks.{queue_link_of, queue_link_word, FitsQueueNext}
use Rattle.word_codes.proofs.CallerLemmas.{queue_links_read_back, links_read_back}
use Rattle.chain_words.specs.declared.pushing.PushAt.{PushAt}
use Rattle.word_laws.specs.Memory.{Mem, stored}
use Rattle.word_laws.proofs.CallerLemmas.{stored-valid, put_here, put_else}
use Rattle.chain_laws.specs.Pushing.{AreApart, push_action}
use Rattle.chain_laws.specs.Seats.{MayPush}
use Rattle.chain_laws.specs.Chains.{tally}
use Rattle.lock_laws.specs.Steps.{link_to}
use Rattle.guard_laws.specs.Steps.{IsOtherWord, IsOtherAction}
use Rattle.queue_laws.specs.Queue.{queue_words, can_tell, push_of}

pub told_back : (next : Option ℕ) (n : ℕ) → n < 2 ^ 32
    → (queue_link_of (queue_link_word (record { next = next; granules = n }))).granules ≡ n
unfolding queue_link_of queue_link_word
told_back next n low = omega arith

next_fits : (number : ℕ) → number < 2 ^ 32 → FitsQueueNext (link_of number)
unfolding link_of
next_fits zero low = tt
next_fits (suc item) low = omega arith

tells : (number : ℕ) → can_tell number ≡ true → number < 2 ^ 32
tells number is = grind (arith, nat_tests)

pub told_low : (number : ℕ) → number < 2 ^ 32 → can_tell number ≡ true
told_low number low = grind (arith, nat_tests)

pub filled_low : (x : ℕ) → x + 1 < 2 ^ 32 → link_word (Some x) < 2 ^ 32
unfolding link_word
filled_low x low = omega arith

pub queue_apart : AreApart queue_words
queue_apart = record {
  items = λ x y same. same.1;
  heads = λ x same. let e = same.0 in absurd (omega arith);
}

pub may_push : (k : Key) (items : List ℕ) (x n : ℕ) → k.span < 2 ^ 32 → x < k.span → n < 2 ^ 32 → tally x items ≡ 0
    → MayPush k queue_words can_tell items (push_of x n)
may_push k items x n small low short outside = record {
  can = record {
    head = omega arith;
    link = omega arith;
    names = ap link_to (links_read_back (Some x) (omega arith));
  };
  outside = outside;
  filled = told_low (link_word (Some x)) (filled_low x (omega arith));
  links = λ number is. ap (λ q. link_to q.next)
      (queue_links_read_back (record { next = link_of number; granules = n }) (
        next_fits number
            (tells number is),
        short,
      ));
}

-- another block's link
pub link_else : (k : Key) (m : Mem) (x y v : ℕ) → x < k.span → x ≢ y
    → stored k m (Word.QueueLink x) v queue_links y ≡ m queue_links y
link_else k m x y v low ne =
    subst (λ (f : Mem). f queue_links y ≡ m queue_links y) (sym (stored-valid k m (Word.QueueLink x) v (omega arith)))
    (put_else (m queue_links) x y v ne)

pub link_here : (k : Key) (m : Mem) (x v : ℕ) → x < k.span → stored k m (Word.QueueLink x) v queue_links x ≡ v
link_here k m x v low =
    subst (λ (f : Mem). f queue_links x ≡ v) (sym (stored-valid k m (Word.QueueLink x) v (omega arith)))
    (put_here (m queue_links) x x v refl)

-- the queue's head leaves the links
pub head_leaves_links : (k : Key) (m : Mem) (v : ℕ) → stored k m Word.Queue v queue_links ≡ m queue_links
head_leaves_links k m v =
    subst (λ (f : Mem). f queue_links ≡ m queue_links) (sym (stored-valid k m Word.Queue v (omega arith))) refl

other_word : (w : Word) → number (kind_of_word w) ≢ number sizes → number (kind_of_word w) ≢ number lefts
    → IsOtherWord w
other_word w a b = record { no_size = a; no_left = b }

pub push_is_other : (x n : ℕ) (at : PushAt) → IsOtherAction (push_action queue_words (push_of x n) at)
push_is_other x n PushAt.Look = tt
push_is_other x n (PushAt.Link found) = other_word (Word.QueueLink x) (λ z. omega arith) (λ z. omega arith)
push_is_other x n (PushAt.Exchange found) = other_word Word.Queue (λ z. omega arith) (λ z. omega arith)

pub swap_is_other : IsOtherAction (Swap Word.Queue 0)
swap_is_other = other_word Word.Queue (λ z. omega arith) (λ z. omega arith)
