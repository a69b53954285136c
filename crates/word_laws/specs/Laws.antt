-- The laws of words.
use Rattle.std.specs.Prelude.{◌≡◌, ℕ, ◌+◌, ◌≤◌, List, length, replicate}
use Rattle.pool_words.specs.declared.words.Key.{Key}
use Rattle.pool_words.specs.declared.words.Word.{Word}
use Rattle.pool_words.specs.declared.actions.Action.{Action}
use Rattle.pool_words.specs.Words.{kind_of_word, number, at_of, words_of, index_of}
use Rattle.pool_words.specs.Actions.{after_action, finds}
use Rattle.word_laws.specs.Memory.{memory, after, found, fresh, Valid}

-- an action makes of the row what it makes of the words by kind, and finds there what it finds here
pub record ActsByKind (k : Key) (words : List ℕ) (action : Action) : Type 0 where
  pub leaves : memory k (after_action k words action) ≡ after k (memory k words) action
  pub sees : finds k words action ≡ found (memory k words) action

-- so does every action, on a word that is one of the pool's or on one that is none
abbrev pub ActionsActByKind : Type 0
ActionsActByKind =
    (k : Key) (words : List ℕ) (action : Action) → length words ≡ words_of k → ActsByKind k words action

-- two words that lie at one place of the row are one word
abbrev pub KindsAreApart : Type 0
KindsAreApart =
    (k : Key) (one other : Word) → Valid k one → Valid k other → index_of k one ≡ index_of k other
    → (number (kind_of_word one) ≡ number (kind_of_word other)) × (at_of one ≡ at_of other)

-- a word of the pool lies in the row, and one that is none lies behind it
pub record LiesInRow (k : Key) (w : Word) : Type 0 where
  pub inside : Valid k w → index_of k w + 1 ≤ words_of k
  pub behind : (Valid k w → ⊥) → index_of k w ≡ words_of k

abbrev pub WordsLieInRow : Type 0
WordsLieInRow = (k : Key) (w : Word) → LiesInRow k w

-- the row of a new pool holds the words of a new pool
abbrev pub NewRowsAreFresh : Type 0
NewRowsAreFresh = (k : Key) → memory k (replicate (words_of k) 0) ≡ fresh
