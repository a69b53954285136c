-- What stores leave of the words.
use Rattle.std.proofs.Common.{◌≡◌, ◌≢◌, ℕ, ◌+◌, ◌%◌, ◌^◌, ◌<◌, Bool, true, false, cond, eqb, refl, sym}
use Rattle.std.proofs.Common.{subst}
use Rattle.pool_words.specs.declared.words.Key.{Key}
use Rattle.pool_words.specs.declared.words.Word.{Word}
use Rattle.pool_words.specs.declared.actions.Action.{Action}
use Rattle.pool_words.specs.declared.actions.Action.TheVariants.{Load, Store, Swap, Exchange, Add}
use Rattle.pool_words.specs.declared.actions.Action.TheVariants.{TakeOffice, GiveOffice, Nothing}
use Rattle.pool_words.specs.Words.{WordKind, kind_of_word, at_of, length_of, number}
use Rattle.word_codes.specs.declared.owns.Own.{Own}
use Rattle.word_codes.specs.Owns.{own_of, own_word}
use Rattle.word_codes.proofs.CallerLemmas.{owns_read_back}
use Rattle.word_laws.specs.Memory.{Mem, Valid, write, stored, after, word_at}
use Rattle.word_laws.proofs.CallerLemmas.{less_or, write_else, stored-valid, stored-void}
use Rattle.orphan_laws.specs.Steps.{IsNotOn}

-- a word of the pool is written
pub to_stored : (P : Mem → Type 0) (k : Key) (m : Mem) (w : Word) (v : ℕ) → Valid k w
    → P (write m (kind_of_word w) (at_of w) v) → P (stored k m w v)
to_stored P k m w v valid p = subst P (sym (stored-valid k m w v valid)) p

pub to_written : (P : Mem → Type 0) (k : Key) (m : Mem) (w : Word) (v : ℕ) → Valid k w → P (stored k m w v)
    → P (write m (kind_of_word w) (at_of w) v)
to_written P k m w v valid p = subst P (stored-valid k m w v valid) p

pub orphan-reads : own_of (own_word Own.Orphan) ≡ Own.Orphan
orphan-reads = owns_read_back Own.Orphan tt

pub kept-reads : (seat : ℕ) → seat < 256 → own_of (own_word (Own.Kept seat)) ≡ Own.Kept seat
kept-reads seat few = owns_read_back (Own.Kept seat) few

-- a kind of word that an action writes none of
pub stored-apart : (k : Key) (m : Mem) (w : Word) (v : ℕ) (one : WordKind) → number (kind_of_word w) ≢ number one
    → stored k m w v one ≡ m one
stored-apart k m w v one apart = less_or (at_of w) (length_of k (kind_of_word w))
    (λ valid. subst (λ (x : Mem). x one ≡ m one) (sym (stored-valid k m w v valid))
    (λ n j. write_else m (kind_of_word w) one (at_of w) v j (λ e _. apart e) n))
    (λ void. subst (λ (x : Mem). x one ≡ m one) (sym (stored-void k m w v void)) refl)

pub after-apart : (k : Key) (m : Mem) (action : Action) (one : WordKind) → IsNotOn one action
    → after k m action one ≡ m one
after-apart k m (Load w) one apart = refl
after-apart k m (Store w v) one apart = stored-apart k m w v one apart
after-apart k m (Swap w v) one apart = stored-apart k m w v one apart
after-apart k m (Exchange w from to) one apart = by (eqb (word_at m w) from)
  where
    by : (b : Bool) → cond b (stored k m w to) m one ≡ m one
    by true = stored-apart k m w to one apart
    by false = refl
after-apart k m (Add w v) one apart = stored-apart k m w ((word_at m w + v) % 2 ^ 64) one apart
after-apart k m (TakeOffice job) one apart = refl
after-apart k m GiveOffice one apart = refl
after-apart k m Nothing one apart = refl
