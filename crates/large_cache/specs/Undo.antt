-- The course of an undo, and what it learns.
use Rattle.std.specs.Prelude.{ℕ, ◌-◌, cond, ◌==◌}
use Rattle.pool_words.specs.declared.words.Word.{Word}
use Rattle.pool_words.specs.declared.actions.Action.{Action}
use Rattle.pool_words.specs.declared.actions.Action.TheVariants.{Load, Store, Exchange}
use Rattle.word_codes.specs.Locks.{lock_word}
use Rattle.large_cache.specs.declared.get.CacheCall.{CacheCall}
use Rattle.large_cache.specs.declared.undo.UndoAt.{UndoAt}
use Rattle.large_cache.specs.declared.undo.UndoNext.{UndoNext}
use Rattle.large_cache.specs.declared.undo.UndoNext.TheVariants.{Goes, Waits, Undone}

abbrev pub undo_course : CacheCall → UndoAt → Action
undo_course c UndoAt.Lock = Exchange (Word.CacheLock c.granules) 0 (lock_word c.seat)
undo_course c UndoAt.Used = Load (Word.CacheUsed c.granules)
undo_course c (UndoAt.SetUsed used) = Store (Word.CacheUsed c.granules) (used - 1)
undo_course c UndoAt.Unlock = Store (Word.CacheLock c.granules) 0

abbrev pub undo_learn : UndoAt → ℕ → UndoNext
undo_learn UndoAt.Lock f = cond (f == 0) (Goes UndoAt.Used) Waits
undo_learn UndoAt.Used f = Goes (UndoAt.SetUsed f)
undo_learn (UndoAt.SetUsed used) f = Goes UndoAt.Unlock
undo_learn UndoAt.Unlock f = Undone
