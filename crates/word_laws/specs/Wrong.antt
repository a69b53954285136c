-- Wrong definitions. Each breaks a law at a named pool.
use Rattle.std.specs.Prelude.{◌≡◌, ℕ, ◌+◌, ◌-◌, true, false, List, length}
use Rattle.pool_words.specs.declared.words.Key.{Key}
use Rattle.pool_words.specs.declared.words.Word.{Word}
use Rattle.pool_words.specs.declared.actions.Action.TheVariants.{Store}
use Rattle.pool_words.specs.Words.{kind_of_word, at_of, base_of, words_of, lefts, sizes}
use Rattle.pool_words.specs.Actions.{after_action}
use Rattle.word_laws.specs.Memory.{Mem, write, memory}

-- a pool of one seat and one granule
abbrev pub least_key : Key
least_key = record {
  pool = 0;
  seats = 1;
  span = 1;
  region = 8192;
  granularity = 8192;
  gets = true;
  frees = true;
  fixed = false;
  keep = false;
}

-- a store that also writes a word that is none
abbrev pub stored_anywhere : Mem → Word → ℕ → Mem
stored_anywhere m w value = write m (kind_of_word w) (at_of w) value

abbrev pub StoresAnywhere : Type 0
StoresAnywhere =
    (words : List ℕ) (w : Word) (value : ℕ) → length words ≡ words_of least_key
    → memory least_key (after_action least_key words (Store w value)) ≡ stored_anywhere (memory least_key words) w value

abbrev pub StoresAnywhereAreWrong : Type 0
StoresAnywhereAreWrong = StoresAnywhere → ⊥

-- guards at a block's end that begin one word too early, on the last guard at a block's begin
abbrev pub early_left : Key → ℕ → ℕ
early_left k granule = base_of k lefts - 1 + granule

abbrev pub LeftsBeginEarly : Type 0
LeftsBeginEarly = (granule other : ℕ) → early_left least_key granule ≡ base_of least_key sizes + other → ⊥

abbrev pub EarlyLeftsAreWrong : Type 0
EarlyLeftsAreWrong = LeftsBeginEarly → ⊥
