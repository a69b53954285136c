-- Both guards of a free block are won, or the first one is given back.
use Rattle.std.specs.Prelude.{ℕ, cond, eqb}
use Rattle.pool_words.specs.declared.words.Word.{Word}
use Rattle.pool_words.specs.declared.actions.Action.{Action}
use Rattle.pool_words.specs.declared.actions.Action.TheVariants.{Store, Exchange}
use Rattle.word_codes.specs.declared.guards.Guard.{Guard}
use Rattle.word_codes.specs.Guards.{guard_word}
use Rattle.guards.specs.declared.win.Side.{Side}
use Rattle.guards.specs.declared.win.Taking.{Taking}
use Rattle.guards.specs.declared.win.WinCall.{WinCall}
use Rattle.guards.specs.declared.win.WinAt.{WinAt}
use Rattle.guards.specs.declared.win.WinAt.TheVariants.{First, Second, Back}
use Rattle.guards.specs.declared.win.WinNext.{WinNext}
use Rattle.guards.specs.declared.win.WinNext.TheVariants.{Goes, Won, NotWon, GivenBack}

abbrev pub guard_at : WinCall → Side → Word
guard_at c Side.Begin = Word.Size c.begin
guard_at c Side.End = Word.Left c.end

abbrev pub other_side : Side → Side
other_side Side.Begin = Side.End
other_side Side.End = Side.Begin

abbrev pub taken_word : Taking → ℕ
taken_word Taking.ForUse = guard_word Guard.Used
taken_word Taking.ToJoin = guard_word Guard.Coalescing

-- what both guards say while the block is free
abbrev pub free_word : WinCall → ℕ
free_word c = guard_word (Guard.Free c.granules)

abbrev pub win_course : WinCall → WinAt → Action
win_course c First = Exchange (guard_at c c.first) (free_word c) (taken_word c.taking)
win_course c Second = Exchange (guard_at c (other_side c.first)) (free_word c) (taken_word c.taking)
win_course c Back = Store (guard_at c c.first) (free_word c)

abbrev pub win_learn : WinCall → WinAt → ℕ → WinNext
win_learn c First found = cond (eqb found (free_word c)) (Goes Second) (NotWon found)
win_learn c Second found = cond (eqb found (free_word c)) Won (Goes Back)
win_learn c Back found = GivenBack
