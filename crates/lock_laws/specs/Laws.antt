-- The laws of locks, and of lists that are linked both ways.
use Rattle.std.specs.Prelude.{◌≡◌, ◌≢◌, ℕ, ◌<◌, Option, Some, None, List, [], ◌∷◌, ◌++◌}
use Rattle.pool_words.specs.declared.words.Key.{Key}
use Rattle.pool_words.specs.declared.words.Word.{Word}
use Rattle.word_codes.specs.Locks.{holder_of}
use Rattle.locked_chain.specs.declared.ListCall.{ListCall}
use Rattle.locked_chain.specs.declared.lock.LockNext.{LockNext}
use Rattle.locked_chain.specs.declared.insert.InsertAt.{InsertAt}
use Rattle.locked_chain.specs.declared.insert.InsertNext.{InsertNext}
use Rattle.locked_chain.specs.declared.remove.RemoveAt.{RemoveAt}
use Rattle.locked_chain.specs.declared.remove.RemoveNext.{RemoveNext}
use Rattle.locked_chain.specs.Locks.{free_lock, lock_course, lock_learn, unlock_course}
use Rattle.locked_chain.specs.Insert.{insert_course, insert_learn}
use Rattle.locked_chain.specs.Remove.{remove_course, remove_learn}
use Rattle.word_laws.specs.Memory.{Mem, Valid, put, stored, after, found, fresh}
use Rattle.chain_laws.specs.Chains.{tally}
use Rattle.chain_laws.specs.Pushing.{IsOneWord}
use Rattle.lock_laws.specs.Locks.{locks_of, AreLocks, LocksFit, lock_by}
use Rattle.lock_laws.specs.Lists.{IsList}
use Rattle.lock_laws.specs.Lists.Change.{Still}
use Rattle.lock_laws.specs.Steps.{list_of, Inserts, Removes, AfterInsert, AfterRemove, IsHead, CanChange}
use Rattle.lock_laws.specs.Runs.{LeavesList, InsertRun, RemoveRun}
use Rattle.lock_laws.specs.Seats.{ListWords, AreLists, Task, ListsGood, ListsRun}
use Rattle.lock_laws.specs.Seats.Task.{Away, Has, Inserting, Removing}
use Rattle.chain_laws.specs.Named.{ten_key}
use Rattle.lock_laws.specs.Named.{bins, three_listed, five_cut, four_linked, listed_blocks, left_blocks, one_task}
use Rattle.lock_laws.specs.Named.{one_list}

-- a lock's word says who has it: one seat, which it names, or nobody
pub record NamesSeat (locks : ℕ → ℕ) (mine : ℕ → Option ℕ) (b : ℕ) : Type 0 where
  pub one : (seat other : ℕ) → mine seat ≡ Some b → mine other ≡ Some b → seat ≡ other
  pub holder : (seat : ℕ) → seat < 256 → mine seat ≡ Some b → holder_of (locks b) ≡ Some seat
  pub nobody : locks b ≡ free_lock → (seat : ℕ) → mine seat ≢ Some b
  pub somebody : ((seat : ℕ) → mine seat ≢ Some b) → locks b ≡ free_lock

abbrev pub LockNamesItsSeat : Type 0
LockNamesItsSeat = (locks : ℕ → ℕ) (mine : ℕ → Option ℕ) (b : ℕ) → LocksFit locks mine → NamesSeat locks mine b

-- the exchange that takes a lock: it was free and is the seat's, or nothing is written
abbrev pub AfterLock : (ℕ → Word) → (ℕ → Option ℕ) → ℕ → ℕ → Mem → Mem → LockNext → Type 0
AfterLock words mine seat b m new LockNext.Won =
    (locks_of words m b ≡ free_lock) × LocksFit (locks_of words new) (put mine seat (Some b))
AfterLock words mine seat b m new LockNext.Waits = (locks_of words m b ≢ free_lock) × (new ≡ m)

abbrev pub LockIsWonOrWaits : Type 0
LockIsWonOrWaits =
    (k : Key) (words : ℕ → Word) (m : Mem) (mine : ℕ → Option ℕ) (seat b : ℕ) → AreLocks words → Valid k (words b)
    → mine seat ≡ None → LocksFit (locks_of words m) mine
    → AfterLock words mine seat b m (after k m (lock_course (lock_by words seat b)))
    (lock_learn (lock_by words seat b) (found m (lock_course (lock_by words seat b))))

-- a lock that its seat frees is nobody's
pub record IsFreed (words : ℕ → Word) (mine : ℕ → Option ℕ) (seat b : ℕ) (m : Mem) : Type 0 where
  pub free : locks_of words m b ≡ free_lock
  pub fit : LocksFit (locks_of words m) (put mine seat None)

abbrev pub FreedLockIsNobodys : Type 0
FreedLockIsNobodys =
    (k : Key) (words : ℕ → Word) (m : Mem) (mine : ℕ → Option ℕ) (seat b : ℕ) → AreLocks words → Valid k (words b)
    → mine seat ≡ Some b → LocksFit (locks_of words m) mine
    → IsFreed words mine seat b (after k m (unlock_course (lock_by words seat b)))

-- locks stand where another word is written, and where a seat goes on with the lock that it has, or without one
pub record StandsLocks (k : Key) (words : ℕ → Word) (mine : ℕ → Option ℕ) (m : Mem) : Type 0 where
  pub stores : (w : Word) (value : ℕ) → ((b : ℕ) → IsOneWord w (words b) → ⊥)
      → LocksFit (locks_of words (stored k m w value)) mine
  pub goes : (seat : ℕ) (lock : Option ℕ) → lock ≡ mine seat → LocksFit (locks_of words m) (put mine seat lock)

abbrev pub OtherStepsLeaveLocks : Type 0
OtherStepsLeaveLocks =
    (k : Key) (words : ℕ → Word) (m : Mem) (mine : ℕ → Option ℕ) → LocksFit (locks_of words m) mine
    → StandsLocks k words mine m

-- each store of an insertion, in the order in which they are made, keeps the list with its change
abbrev pub InsertKeepsList : Type 0
InsertKeepsList =
    (k : Key) (c : ListCall) (m : Mem) (items : List ℕ) (at : InsertAt) → CanChange k c items
    → tally c.item items ≡ 0 → Inserts (list_of c.head m) c.item items at
    → AfterInsert (list_of c.head (after k m (insert_course c at))) c.item items
    (insert_learn at (found m (insert_course c at)))

-- each store of a removal, in the order in which they are made, keeps the list with its change
abbrev pub RemoveKeepsList : Type 0
RemoveKeepsList =
    (k : Key) (c : ListCall) (m : Mem) (front back : List ℕ) (at : RemoveAt) → CanChange k c (front ++ (c.item ∷ back))
    → Removes (list_of c.head m) front c.item back at
    → AfterRemove (list_of c.head (after k m (remove_course c at))) front c.item back
    (remove_learn at (found m (remove_course c at)))

-- a change of a list leaves another list's words, where its items are none of the other's
pub record StandsList (k : Key) (c : ListCall) (head : Word) (others : List ℕ) (m : Mem) : Type 0 where
  pub inserts : (items : List ℕ) (at : InsertAt) → CanChange k c items
      → ((x : ℕ) → 0 < tally x (c.item ∷ items) → tally x others ≡ 0) → Inserts (list_of c.head m) c.item items at
      → LeavesList head others m (after k m (insert_course c at))
  pub removes : (front back : List ℕ) (at : RemoveAt) → CanChange k c (front ++ (c.item ∷ back))
      → ((x : ℕ) → 0 < tally x (front ++ (c.item ∷ back)) → tally x others ≡ 0)
      → Removes (list_of c.head m) front c.item back at → LeavesList head others m (after k m (remove_course c at))

abbrev pub OtherListsStand : Type 0
OtherListsStand =
    (k : Key) (c : ListCall) (head : Word) (others : List ℕ) (m : Mem) → IsHead k head → (IsOneWord c.head head → ⊥)
    → StandsList k c head others m

-- between taking a list's lock and freeing it the list gets one item more at its head, or has one less, and else is
-- as it was
pub record OneItem (k : Key) (c : ListCall) (start : Mem) : Type 0 where
  pub more : (items : List ℕ) (m : Mem) → CanChange k c items → tally c.item items ≡ 0
      → IsList (list_of c.head start) Still items → InsertRun k c items start m InsertNext.Inserted
      → IsList (list_of c.head m) Still (c.item ∷ items)
  pub less : (front back : List ℕ) (m : Mem) → CanChange k c (front ++ (c.item ∷ back))
      → IsList (list_of c.head start) Still (front ++ (c.item ∷ back))
      → RemoveRun k c (front ++ (c.item ∷ back)) start m RemoveNext.Out
      → IsList (list_of c.head m) Still (front ++ back)

abbrev pub BetweenLocksOneItem : Type 0
BetweenLocksOneItem = (k : Key) (c : ListCall) (start : Mem) → OneItem k c start

-- in any run of any number of seats at any number of lists each list has the items that were put in and not taken out
abbrev pub SeatsKeepLists : Type 0
SeatsKeepLists =
    (k : Key) (s : ListWords) (m0 : Mem) (tasks0 : ℕ → Task) (items0 : ℕ → List ℕ) (m : Mem) (tasks : ℕ → Task)
    (items : ℕ → List ℕ) → AreLists k s → ListsGood k s m0 tasks0 items0 → ListsRun k s m0 tasks0 items0 m tasks items
    → ListsGood k s m tasks items

-- in a new pool nobody has a lock, and lists are empty
abbrev pub FreshLocksAreFree : Type 0
FreshLocksAreFree = (k : Key) (s : ListWords) → ListsGood k s fresh (λ seat. Away) (λ b. [])

-- a bin of three blocks, whose lock a seat has, while it rests, while a block comes, and while one leaves
pub record IsNamed : Type 0 where
  pub words : AreLists ten_key bins
  pub rests : ListsGood ten_key bins three_listed (one_task (Has 7)) (one_list listed_blocks)
  pub comes : ListsGood ten_key bins four_linked (one_task (Inserting 7 4 InsertAt.NewHead)) (one_list listed_blocks)
  pub leaves : ListsGood ten_key bins five_cut (one_task (Removing 7 5 (RemoveAt.SkipBack 9 4))) (one_list left_blocks)

abbrev pub NamedListStands : Type 0
NamedListStands = IsNamed
