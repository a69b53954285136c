-- What an action finds, and what it makes of the words.
use Rattle.std.specs.Prelude.{ℕ, ◌+◌, ◌%◌, ◌^◌, cond, eqb, List, slice_index, slice_set}
use Rattle.pool_words.specs.declared.words.Key.{Key}
use Rattle.pool_words.specs.declared.words.Word.{Word}
use Rattle.pool_words.specs.declared.actions.Action.{Action}
use Rattle.pool_words.specs.declared.actions.Action.TheVariants.{Load, Store, Swap, Exchange, Add, TakeOffice, GiveOffice, Nothing}
use Rattle.pool_words.specs.declared.actions.Seen.{Seen}
use Rattle.pool_words.specs.Words.{index_of}

-- the word's value, and 0 where there is no such word
abbrev pub value : Key → List ℕ → Word → ℕ
value k words w = slice_index words (index_of k w)

-- the words with another value in this place; the same words where there is no such word
abbrev pub with_word : Key → List ℕ → Word → ℕ → List ℕ
with_word k words w stored = slice_set words (index_of k w) stored

-- what an action finds
abbrev pub finds : Key → List ℕ → Action → ℕ
finds k words (Load w) = value k words w
finds k words (Store w stored) = 0
finds k words (Swap w stored) = value k words w
finds k words (Exchange w from to) = value k words w
finds k words (Add w added) = value k words w
finds k words (TakeOffice job) = 0
finds k words GiveOffice = 0
finds k words Nothing = 0

-- the words after an action
abbrev pub after_action : Key → List ℕ → Action → List ℕ
after_action k words (Load w) = words
after_action k words (Store w stored) = with_word k words w stored
after_action k words (Swap w stored) = with_word k words w stored
after_action k words (Exchange w from to) = cond (eqb (value k words w) from) (with_word k words w to) words
after_action k words (Add w added) = with_word k words w ((value k words w + added) % 2 ^ 64)
after_action k words (TakeOffice job) = words
after_action k words GiveOffice = words
after_action k words Nothing = words

-- the value that was found, and 0 where none was
abbrev pub word_seen : Seen → ℕ
word_seen (Seen.Word value) = value
word_seen Seen.Done = 0
word_seen Seen.OfficeOut = 0
word_seen (Seen.Obtained one) = 0
word_seen (Seen.Refused error) = 0
word_seen Seen.Given = 0
