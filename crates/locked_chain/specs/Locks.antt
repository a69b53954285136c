-- Taking and freeing a lock.
use Rattle.std.specs.Prelude.{ℕ, cond, eqb}
use Rattle.pool_words.specs.declared.actions.Action.{Action}
use Rattle.pool_words.specs.declared.actions.Action.TheVariants.{Store, Exchange}
use Rattle.word_codes.specs.Locks.{lock_word}
use Rattle.locked_chain.specs.declared.lock.Lock.{Lock}
use Rattle.locked_chain.specs.declared.lock.LockNext.{LockNext}

-- the word of a lock that nobody has
abbrev pub free_lock : ℕ
free_lock = 0

abbrev pub lock_course : Lock → Action
lock_course l = Exchange l.word free_lock (lock_word l.seat)

abbrev pub lock_learn : Lock → ℕ → LockNext
lock_learn l found = cond (eqb found free_lock) LockNext.Won LockNext.Waits

abbrev pub unlock_course : Lock → Action
unlock_course l = Store l.word free_lock
