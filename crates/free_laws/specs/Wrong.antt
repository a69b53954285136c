-- A wrong definition. It breaks a law at the pool that is named.
use Rattle.std.specs.Prelude.{◌≡◌, ℕ, ◌+◌}
use Rattle.pool_words.specs.declared.words.Key.{Key}
use Rattle.pool_words.specs.declared.words.Word.{Word}
use Rattle.pool_words.specs.declared.actions.Action.TheVariants.{Store}
use Rattle.word_codes.specs.declared.guards.Guard.{Guard}
use Rattle.word_codes.specs.Guards.{guard_word}
use Rattle.guards.specs.declared.win.Side.{Side}
use Rattle.word_laws.specs.Memory.{put, after}
use Rattle.guard_laws.specs.Blocks as blocks
use Rattle.guard_laws.specs.Blocks.{Use, Standing}
use Rattle.guard_laws.specs.Steps.{with_use, with_edge}
use Rattle.free_laws.specs.Spaces.{Space, FreeGood}
use Rattle.free_laws.specs.Steps.{with_guards}

-- a block comes into a bin, and no seat is to link it
abbrev pub PutsUnlisted : Type 0
PutsUnlisted =
    (k : Key) (seat : ℕ) (s : Space) (x n : ℕ) → s.pool.tasks seat ≡ blocks.Task.Offers x n → FreeGood k s
    → FreeGood k (with_guards (with_use x n Use.Bin (with_edge Side.End (x + n) (Standing.Open n) s.pool.blocks))
    (after k s.pool.mem (Store (Word.Left (x + n)) (guard_word (Guard.Free n))))
    (put s.pool.tasks seat blocks.Task.Away) s)

abbrev pub UnlistedPutsAreWrong : Type 0
UnlistedPutsAreWrong = PutsUnlisted → ⊥
