-- A cache bin that is not in its first state loses its blocks, and its numbers are 0 again.
use Rattle.std.specs.Prelude.{ℕ, cond, eqb, Option, Some, None}
use Rattle.pool_words.specs.declared.words.Word.{Word}
use Rattle.pool_words.specs.declared.actions.Action.{Action}
use Rattle.pool_words.specs.declared.actions.Action.TheVariants.{Load, Store}
use Rattle.word_codes.specs.Links.{link_of}
use Rattle.locked_chain.specs.declared.lock.Lock.{Lock}
use Rattle.locked_chain.specs.Insert.{end_link}
use Rattle.locked_chain.specs.Locks.{free_lock, lock_course, unlock_course}
use Rattle.reset_steps.specs.declared.clear.Number.{Number}
use Rattle.reset_steps.specs.declared.clear.ClearAt.{ClearAt}
use Rattle.reset_steps.specs.declared.clear.ClearCall.{ClearCall}
use Rattle.reset_steps.specs.declared.clear.ClearNext.{ClearNext}
use Rattle.reset_steps.specs.declared.clear.ClearNext.TheVariants.{Goes, Taken, Waits, Passed, Cleared}

abbrev pub number_word : Number → ℕ → Word
number_word Number.Items granules = Word.CacheItems granules
number_word Number.Mean granules = Word.CacheMean granules
number_word Number.Threshold granules = Word.CacheThreshold granules
number_word Number.Get granules = Word.CacheGet granules
number_word Number.Cleaned granules = Word.CacheCleaned granules
number_word Number.Used granules = Word.CacheUsed granules

-- the order of the numbers
abbrev pub number_after : Number → Option Number
number_after Number.Items = Some Number.Mean
number_after Number.Mean = Some Number.Threshold
number_after Number.Threshold = Some Number.Get
number_after Number.Get = Some Number.Cleaned
number_after Number.Cleaned = Some Number.Used
number_after Number.Used = None

abbrev pub cache_lock : ClearCall → Lock
cache_lock c = record { word = Word.CacheLock c.granules; seat = c.seat }

abbrev pub clear_course : ClearCall → ClearAt → Action
clear_course c (ClearAt.Peek number) = Load (number_word number c.granules)
clear_course c ClearAt.Lock = lock_course (cache_lock c)
clear_course c ClearAt.Head = Load (Word.CacheHead c.granules)
clear_course c (ClearAt.Link block) = Load (Word.CacheLink block)
clear_course c ClearAt.Cut = Store (Word.CacheHead c.granules) end_link
clear_course c (ClearAt.Zero number) = Store (number_word number c.granules) 0
clear_course c ClearAt.Unlock = unlock_course (cache_lock c)

-- a bin of which each number is 0 is in its first state
abbrev pub peeked : Option Number → ClearNext
peeked (Some number) = Goes (ClearAt.Peek number)
peeked None = Passed

abbrev pub clear_headed : Option ℕ → ClearNext
clear_headed (Some block) = Taken block (ClearAt.Link block)
clear_headed None = Goes (ClearAt.Zero Number.Items)

abbrev pub clear_walked : Option ℕ → ClearNext
clear_walked (Some block) = Taken block (ClearAt.Link block)
clear_walked None = Goes ClearAt.Cut

abbrev pub zeroed : Option Number → ClearNext
zeroed (Some number) = Goes (ClearAt.Zero number)
zeroed None = Goes ClearAt.Unlock

abbrev pub clear_learn : ClearAt → ℕ → ClearNext
clear_learn (ClearAt.Peek number) f = cond (eqb f 0) (peeked (number_after number)) (Goes ClearAt.Lock)
clear_learn ClearAt.Lock f = cond (eqb f free_lock) (Goes ClearAt.Head) Waits
clear_learn ClearAt.Head f = clear_headed (link_of f)
clear_learn (ClearAt.Link block) f = clear_walked (link_of f)
clear_learn ClearAt.Cut f = Goes (ClearAt.Zero Number.Items)
clear_learn (ClearAt.Zero number) f = zeroed (number_after number)
clear_learn ClearAt.Unlock f = Cleared
