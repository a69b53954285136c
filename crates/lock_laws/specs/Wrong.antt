-- Wrong definitions. Each breaks a law at the list or the locks that are named.
use Rattle.std.specs.Prelude.{◌≡◌, ◌≢◌, ℕ, Option, Some, None, List, ◌∷◌, ◌++◌}
use Rattle.pool_words.specs.declared.words.Key.{Key}
use Rattle.pool_words.specs.declared.words.Word.{Word}
use Rattle.pool_words.specs.declared.actions.Action.TheVariants.{Store}
use Rattle.word_codes.specs.Links.{link_of}
use Rattle.word_codes.specs.Locks.{lock_word}
use Rattle.locked_chain.specs.declared.ListCall.{ListCall}
use Rattle.locked_chain.specs.declared.insert.InsertAt.{InsertAt}
use Rattle.locked_chain.specs.declared.insert.InsertNext.{InsertNext}
use Rattle.locked_chain.specs.declared.remove.RemoveAt.{RemoveAt}
use Rattle.locked_chain.specs.declared.remove.RemoveNext.{RemoveNext}
use Rattle.locked_chain.specs.Locks.{free_lock, unlock_course}
use Rattle.locked_chain.specs.Insert.{insert_course, before_old}
use Rattle.locked_chain.specs.Remove.{remove_course}
use Rattle.word_laws.specs.Memory.{Mem, put, after, found}
use Rattle.chain_laws.specs.Chains.{tally}
use Rattle.lock_laws.specs.Locks.{locks_of, LocksFit, lock_by}
use Rattle.lock_laws.specs.Steps.{list_of, Inserts, Removes, AfterInsert, AfterRemove, CanChange}
use Rattle.lock_laws.specs.Named.{bin_lock_words}

-- a removal that is out once the links forward go past the item, and forgets the link back of what is behind it
abbrev pub forgetful_learn : RemoveAt → ℕ → RemoveNext
forgetful_learn RemoveAt.Forward f = RemoveNext.Goes (RemoveAt.Backward f)
forgetful_learn (RemoveAt.Backward forward) f = RemoveNext.Goes (RemoveAt.Skip forward f)
forgetful_learn (RemoveAt.Skip forward backward) f = RemoveNext.Out
forgetful_learn (RemoveAt.SkipBack behind backward) f = RemoveNext.Out

abbrev pub ForgetfulRemovals : Type 0
ForgetfulRemovals =
    (k : Key) (c : ListCall) (m : Mem) (front back : List ℕ) (at : RemoveAt) → CanChange k c (front ++ (c.item ∷ back))
    → Removes (list_of c.head m) front c.item back at
    → AfterRemove (list_of c.head (after k m (remove_course c at))) front c.item back
    (forgetful_learn at (found m (remove_course c at)))

abbrev pub ForgetfulRemovalsAreWrong : Type 0
ForgetfulRemovalsAreWrong = ForgetfulRemovals → ⊥

-- an insertion that makes the item the first before it has links
abbrev pub hasty_learn : InsertAt → ℕ → InsertNext
hasty_learn InsertAt.Head f = InsertNext.Goes InsertAt.NewHead
hasty_learn (InsertAt.Forward head) f = InsertNext.Goes (InsertAt.Backward head)
hasty_learn (InsertAt.Backward head) f = before_old (link_of head)
hasty_learn (InsertAt.OldBackward old) f = InsertNext.Goes InsertAt.NewHead
hasty_learn InsertAt.NewHead f = InsertNext.Inserted

abbrev pub HastyInsertions : Type 0
HastyInsertions =
    (k : Key) (c : ListCall) (m : Mem) (items : List ℕ) (at : InsertAt) → CanChange k c items
    → tally c.item items ≡ 0 → Inserts (list_of c.head m) c.item items at
    → AfterInsert (list_of c.head (after k m (insert_course c at))) c.item items
    (hasty_learn at (found m (insert_course c at)))

abbrev pub HastyInsertionsAreWrong : Type 0
HastyInsertionsAreWrong = HastyInsertions → ⊥

-- a lock that is taken by a store, whoever has it
abbrev pub SeizedLocks : Type 0
SeizedLocks =
    (k : Key) (m : Mem) (mine : ℕ → Option ℕ) (seat b : ℕ) → mine seat ≡ None
    → LocksFit (locks_of bin_lock_words m) mine
    → LocksFit (locks_of bin_lock_words (after k m (Store (Word.BinLock b) (lock_word seat)))) (put mine seat (Some b))

abbrev pub SeizedLocksAreWrong : Type 0
SeizedLocksAreWrong = SeizedLocks → ⊥

-- a lock that is freed by a seat that goes on as if it had it
abbrev pub KeptLocks : Type 0
KeptLocks =
    (k : Key) (m : Mem) (mine : ℕ → Option ℕ) (seat b : ℕ) → mine seat ≡ Some b
    → LocksFit (locks_of bin_lock_words m) mine
    → LocksFit (locks_of bin_lock_words (after k m (unlock_course (lock_by bin_lock_words seat b)))) mine

abbrev pub KeptLocksAreWrong : Type 0
KeptLocksAreWrong = KeptLocks → ⊥

-- locks that fit one way alone: each seat's lock names it, and a word may name a seat that has no lock
abbrev pub FitOneWay : (ℕ → ℕ) → (ℕ → Option ℕ) → Type 0
FitOneWay locks mine = (seat b : ℕ) → mine seat ≡ Some b → locks b ≡ lock_word seat

abbrev pub OneWayLocks : Type 0
OneWayLocks =
    (locks : ℕ → ℕ) (mine : ℕ → Option ℕ) (b : ℕ) → FitOneWay locks mine → ((seat : ℕ) → mine seat ≢ Some b)
    → locks b ≡ free_lock

abbrev pub OneWayLocksAreWrong : Type 0
OneWayLocksAreWrong = OneWayLocks → ⊥
