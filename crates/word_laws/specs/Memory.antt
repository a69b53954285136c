-- The words of a pool by kind and index, and what an action makes of them there. In laws a word is always named so; where
-- it lies in the row counts for nothing any more.
use Rattle.std.specs.Prelude.{ℕ, ◌+◌, ◌%◌, ◌^◌, ◌<◌, cond, eqb, ltb, List, slice_index}
use Rattle.pool_words.specs.declared.words.Key.{Key}
use Rattle.pool_words.specs.declared.words.Word.{Word}
use Rattle.pool_words.specs.declared.actions.Action.{Action}
use Rattle.pool_words.specs.declared.actions.Action.TheVariants.{Load, Store, Swap, Exchange, Add, TakeOffice, GiveOffice, Nothing}
use Rattle.pool_words.specs.Words.{WordKind, number, kind_of_word, at_of, length_of, base_of}

-- each kind's words, by index
abbrev pub Mem : Type 0
Mem = WordKind → ℕ → ℕ

-- a function with one value changed
abbrev pub put : {A : Type 0} → (ℕ → A) → ℕ → A → ℕ → A
put f i a j = cond (eqb i j) a (f j)

-- the memory with one word changed
abbrev pub write : Mem → WordKind → ℕ → ℕ → Mem
write m kind i value other = cond (eqb (number kind) (number other)) (put (m other) i value) (m other)

-- what the row holds of a kind; a kind has no words behind its last, which read as 0
abbrev pub memory : Key → List ℕ → Mem
memory k words kind i = cond (ltb i (length_of k kind)) (slice_index words (base_of k kind + i)) 0

-- the word is one of the pool's
abbrev pub Valid : Key → Word → Type 0
Valid k w = at_of w < length_of k (kind_of_word w)

-- the value stored, where there is such a word
unfoldable pub stored : Key → Mem → Word → ℕ → Mem
stored k m w value = cond (ltb (at_of w) (length_of k (kind_of_word w))) (write m (kind_of_word w) (at_of w) value) m

abbrev pub word_at : Mem → Word → ℕ
word_at m w = m (kind_of_word w) (at_of w)

-- the memory after an action
abbrev pub after : Key → Mem → Action → Mem
after k m (Load w) = m
after k m (Store w value) = stored k m w value
after k m (Swap w value) = stored k m w value
after k m (Exchange w from to) = cond (eqb (word_at m w) from) (stored k m w to) m
after k m (Add w value) = stored k m w ((word_at m w + value) % 2 ^ 64)
after k m (TakeOffice job) = m
after k m GiveOffice = m
after k m Nothing = m

-- what an action finds
abbrev pub found : Mem → Action → ℕ
found m (Load w) = word_at m w
found m (Store w value) = 0
found m (Swap w value) = word_at m w
found m (Exchange w from to) = word_at m w
found m (Add w value) = word_at m w
found m (TakeOffice job) = 0
found m GiveOffice = 0
found m Nothing = 0

-- a new pool's words
abbrev pub fresh : Mem
fresh _ i = 0
