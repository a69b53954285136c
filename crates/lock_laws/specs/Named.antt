-- A list and locks by name: the bin of the blocks 3, 5 and 9, from which seat 1 takes block 5.
use Rattle.std.specs.Prelude.{ℕ, Option, Some, None, List, [], ◌∷◌}
use Rattle.pool_words.specs.declared.words.Word.{Word}
use Rattle.pool_words.specs.Words.{bin_locks, bin_heads, forwards, backwards}
use Rattle.lock_laws.specs.Seats.{ListWords, Task}
use Rattle.lock_laws.specs.Seats.Task.{Away}
use Rattle.word_laws.specs.Memory.{Mem, put, write, fresh}

abbrev pub bin_lock_words : ℕ → Word
bin_lock_words bin = Word.BinLock bin

-- bin 7 has the blocks 3, 5 and 9, and seat 1 has its lock
abbrev pub three_listed : Mem
three_listed =
    write (write (write (write
    (write (write (write (write fresh bin_locks 7 2) bin_heads 7 4) forwards 3 6) forwards 5 10) forwards 9 0)
    backwards 3 0) backwards 5 4) backwards 9 6

-- block 5 is out of the links forward, and those back still have it
abbrev pub five_cut : Mem
five_cut = write three_listed forwards 3 10

-- block 4 comes: its own links lead to the first block and to nothing, and the first block leads back to it
abbrev pub four_linked : Mem
four_linked = write (write (write three_listed forwards 4 4) backwards 4 0) backwards 3 5

abbrev pub listed_blocks : List ℕ
listed_blocks = 3 ∷ 5 ∷ 9 ∷ []

abbrev pub holders : ℕ → Option ℕ
holders = put (λ seat. None) 1 (Some 7)

abbrev pub left_blocks : List ℕ
left_blocks = 3 ∷ 9 ∷ []

-- the first eight bins
abbrev pub bins : ListWords
bins = record { count = 8; lock = bin_lock_words; head = λ bin. Word.BinHead bin }

-- one seat is at work, at one bin that has blocks
abbrev pub one_task : Task → ℕ → Task
one_task task = put (λ seat. Away) 1 task

abbrev pub one_list : List ℕ → ℕ → List ℕ
one_list blocks = put (λ bin. []) 7 blocks
