-- Locks in words: which seat has which.
use Rattle.std.specs.Prelude.{◌≡◌, ℕ, Option, Some}
use Rattle.pool_words.specs.declared.words.Word.{Word}
use Rattle.word_codes.specs.Locks.{lock_word}
use Rattle.locked_chain.specs.declared.lock.Lock.{Lock}
use Rattle.word_laws.specs.Memory.{Mem, word_at}
use Rattle.chain_laws.specs.Pushing.{IsOneWord}

-- what the words of some locks hold
abbrev pub locks_of : (ℕ → Word) → Mem → ℕ → ℕ
locks_of words m b = word_at m (words b)

-- different locks have different words
abbrev pub AreLocks : (ℕ → Word) → Type 0
AreLocks words = (a b : ℕ) → IsOneWord (words a) (words b) → a ≡ b

-- a lock's word names a seat exactly where the seat's local says that it has the lock
pub record LocksFit (locks : ℕ → ℕ) (mine : ℕ → Option ℕ) : Type 0 where
  pub held : (seat b : ℕ) → mine seat ≡ Some b → locks b ≡ lock_word seat
  pub named : (seat b : ℕ) → locks b ≡ lock_word seat → mine seat ≡ Some b

-- the lock as a seat takes it
abbrev pub lock_by : (ℕ → Word) → ℕ → ℕ → Lock
lock_by words seat b = record { word = words b; seat = seat }
