-- Wrong definitions. Each breaks a law at the bin that is named.
use Rattle.std.specs.Prelude.{◌≡◌, ℕ, Option}
use Rattle.pool_words.specs.declared.words.Key.{Key}
use Rattle.locked_chain.specs.declared.insert.InsertAt.{InsertAt}
use Rattle.locked_chain.specs.Locks.{unlock_course}
use Rattle.backend_bins.specs.declared.blocks.Want.{Want}
use Rattle.backend_bins.specs.Blocks.{bin_of}
use Rattle.word_laws.specs.Memory.{Mem, after}
use Rattle.lock_laws.specs.Locks.{lock_by}
use Rattle.bin_laws.specs.Bins.{bin_words, Task, Shadow, Locals, BinGood}
use Rattle.bin_laws.specs.Scans.{Meets, Passes}
use Rattle.bin_laws.specs.Steps.{with_bin}

-- a putter frees its bin's lock before it links the block
abbrev pub FreesBeforeLinking : Type 0
FreesBeforeLinking =
    (k : Key) (seat : ℕ) (g : Shadow) (m : Mem) (l : Locals) (x n : ℕ)
    → l.bins seat ≡ Task.Links x n InsertAt.Head → BinGood k g m l
    → BinGood k g (after k m (unlock_course (lock_by bin_words.lock seat (bin_of n)))) (with_bin seat Task.Away l)

abbrev pub EarlyFreesAreWrong : Type 0
EarlyFreesAreWrong = FreesBeforeLinking → ⊥

-- a join leaves the neighbour that it has won in its list
abbrev pub JoinsWithoutUnlinking : Type 0
JoinsWithoutUnlinking =
    (k : Key) (seat : ℕ) (g : Shadow) (m : Mem) (l : Locals) (x n : ℕ) → l.bins seat ≡ Task.Won x n → BinGood k g m l
    → BinGood k g m (with_bin seat Task.Away l)

abbrev pub ListedJoinsAreWrong : Type 0
ListedJoinsAreWrong = JoinsWithoutUnlinking → ⊥

-- a scan passes a block that another is taking, and does not note it
abbrev pub ForgetsNotes : Type 0
ForgetsNotes =
    (g : Shadow) (want : Want) (bin : ℕ) (noted : Option ℕ) (first : ℕ) → Meets g want bin noted first
    → Passes g want bin noted first

abbrev pub ForgottenNotesAreWrong : Type 0
ForgottenNotesAreWrong = ForgetsNotes → ⊥
