-- Any number of seats at any number of lists, each list under a lock of its own, one step of one seat at a time.
use Rattle.std.specs.Prelude.{◌≡◌, ◌≢◌, ℕ, ◌^◌, ◌<◌, Option, Some, None, List, ◌∷◌, ⊤}
use Rattle.pool_words.specs.declared.words.Key.{Key}
use Rattle.pool_words.specs.declared.words.Word.{Word}
use Rattle.pool_words.specs.Words.{kind_of_word, number, forwards, backwards}
use Rattle.locked_chain.specs.declared.ListCall.{ListCall}
use Rattle.locked_chain.specs.declared.lock.LockNext.{LockNext}
use Rattle.locked_chain.specs.declared.insert.InsertAt.{InsertAt}
use Rattle.locked_chain.specs.declared.insert.InsertNext.{InsertNext}
use Rattle.locked_chain.specs.declared.remove.RemoveAt.{RemoveAt}
use Rattle.locked_chain.specs.declared.remove.RemoveNext.{RemoveNext}
use Rattle.locked_chain.specs.Locks.{lock_course, lock_learn, unlock_course}
use Rattle.locked_chain.specs.Insert.{insert_course, insert_learn}
use Rattle.locked_chain.specs.Remove.{remove_course, remove_learn}
use Rattle.word_laws.specs.Memory.{Mem, Valid, put, after, found}
use Rattle.chain_laws.specs.Chains.{tally, without}
use Rattle.chain_laws.specs.Pushing.{IsOneWord}
use Rattle.lock_laws.specs.Locks.{locks_of, AreLocks, LocksFit, lock_by}
use Rattle.lock_laws.specs.Lists.{IsList}
use Rattle.lock_laws.specs.Lists.Change.{Still}
use Rattle.lock_laws.specs.Steps.{list_of, Inserts, Removes, IsHead, remove_items}

-- the words of some lists: each list's lock, and its head
pub record ListWords : Type 0 where
  pub count : ℕ
  pub lock : ℕ → Word
  pub head : ℕ → Word

-- a word that is no item's link
pub record IsNoLink (w : Word) : Type 0 where
  pub no_forward : number (kind_of_word w) ≢ number forwards
  pub no_backward : number (kind_of_word w) ≢ number backwards

-- they are words of the pool and no links, and each is another word
pub record AreLists (k : Key) (s : ListWords) : Type 0 where
  pub span : k.span < 2 ^ 64
  pub valid : (b : ℕ) → b < s.count → Valid k (s.lock b)
  pub locks : (b : ℕ) → IsNoLink (s.lock b)
  pub heads : (b : ℕ) → b < s.count → IsHead k (s.head b)
  pub locks_apart : AreLocks s.lock
  pub heads_apart : AreLocks s.head
  pub apart : (b c : ℕ) → IsOneWord (s.lock b) (s.head c) → ⊥

-- what a seat has to do with the lists: nothing, it has a list's lock, or it changes the list
pub data Task : Type 0 where
  Away : Task
  Has : (b : ℕ) → Task
  Inserting : (b item : ℕ) (at : InsertAt) → Task
  Removing : (b item : ℕ) (at : RemoveAt) → Task

abbrev pub lock_in : Task → Option ℕ
lock_in Away = None
lock_in (Has b) = Some b
lock_in (Inserting b item at) = Some b
lock_in (Removing b item at) = Some b

abbrev pub list_call : ListWords → ℕ → ℕ → ListCall
list_call s b item = record { head = s.head b; item = item }

-- an insertion: the item is in no list
pub record InsertFits (k : Key) (s : ListWords) (m : Mem) (items : ℕ → List ℕ) (b x : ℕ) (at : InsertAt) : Type 0 where
  pub some : b < s.count
  pub inside : x < k.span
  pub list : Inserts (list_of (s.head b) m) x (items b) at
  pub outside : (c : ℕ) → tally x (items c) ≡ 0

-- a removal: the item is in this list, or was, and in no other
pub record RemoveFits (k : Key) (s : ListWords) (m : Mem) (items : ℕ → List ℕ) (b x : ℕ) (at : RemoveAt) : Type 0 where
  pub some : b < s.count
  pub inside : x < k.span
  pub front : List ℕ
  pub back : List ℕ
  pub items_are : items b ≡ remove_items front x back at
  pub list : Removes (list_of (s.head b) m) front x back at
  pub outside : (c : ℕ) → c ≢ b → tally x (items c) ≡ 0

abbrev pub TaskFits : Key → ListWords → Mem → (ℕ → List ℕ) → Task → Type 0
TaskFits k s m items Away = ⊤
TaskFits k s m items (Has b) = (b < s.count) × IsList (list_of (s.head b) m) Still (items b)
TaskFits k s m items (Inserting b x at) = InsertFits k s m items b x at
TaskFits k s m items (Removing b x at) = RemoveFits k s m items b x at

-- the item that a seat puts in or takes out
abbrev pub HasNot : ℕ → Task → Type 0
HasNot x Away = ⊤
HasNot x (Has b) = ⊤
HasNot x (Inserting b y at) = x ≢ y
HasNot x (Removing b y at) = x ≢ y

abbrev pub AreApart : Task → Task → Type 0
AreApart Away other = ⊤
AreApart (Has b) other = ⊤
AreApart (Inserting b x at) other = HasNot x other
AreApart (Removing b x at) other = HasNot x other

-- each lock is the seat's that says so, each list has its items, and different lists and seats have different ones
pub record ListsGood (k : Key) (s : ListWords) (m : Mem) (tasks : ℕ → Task) (items : ℕ → List ℕ) : Type 0 where
  pub locks : LocksFit (locks_of s.lock m) (λ seat. lock_in (tasks seat))
  pub free : (b : ℕ) → b < s.count → ((seat : ℕ) → lock_in (tasks seat) ≢ Some b)
      → IsList (list_of (s.head b) m) Still (items b)
  pub fit : (seat : ℕ) → TaskFits k s m items (tasks seat)
  pub inside : (b x : ℕ) → 0 < tally x (items b) → x < k.span
  pub once : (b c : ℕ) → b ≢ c → (x : ℕ) → 0 < tally x (items b) → tally x (items c) ≡ 0
  pub apart : (seat other : ℕ) → seat ≢ other → AreApart (tasks seat) (tasks other)

-- where a task goes
abbrev pub task_locked : ℕ → LockNext → Task
task_locked b LockNext.Won = Has b
task_locked b LockNext.Waits = Away

abbrev pub task_inserted : ℕ → ℕ → InsertNext → Task
task_inserted b x (InsertNext.Goes at) = Inserting b x at
task_inserted b x InsertNext.Inserted = Has b

abbrev pub items_inserted : ℕ → List ℕ → InsertNext → List ℕ
items_inserted x items (InsertNext.Goes at) = items
items_inserted x items InsertNext.Inserted = x ∷ items

abbrev pub task_removed : ℕ → ℕ → RemoveNext → Task
task_removed b x (RemoveNext.Goes at) = Removing b x at
task_removed b x RemoveNext.Out = Has b

-- the item leaves the list with the first store
abbrev pub items_removed : ℕ → List ℕ → RemoveAt → List ℕ
items_removed x items RemoveAt.Forward = items
items_removed x items (RemoveAt.Backward forward) = items
items_removed x items (RemoveAt.Skip forward backward) = without x items
items_removed x items (RemoveAt.SkipBack behind backward) = items

-- the runs of the seats, and the items of each list
pub data ListsRun (k : Key) (s : ListWords) (m0 : Mem) (tasks0 : ℕ → Task) (items0 : ℕ → List ℕ) :
    Mem → (ℕ → Task) → (ℕ → List ℕ) → Type 0 where
  starts : ListsRun k s m0 tasks0 items0 m0 tasks0 items0
  takes : {m : Mem} {tasks : ℕ → Task} {items : ℕ → List ℕ} → ListsRun k s m0 tasks0 items0 m tasks items
      → (seat b : ℕ) → b < s.count → tasks seat ≡ Away
      → ListsRun k s m0 tasks0 items0 (after k m (lock_course (lock_by s.lock seat b)))
      (put tasks seat (task_locked b
      (lock_learn (lock_by s.lock seat b) (found m (lock_course (lock_by s.lock seat b)))))) items
  frees : {m : Mem} {tasks : ℕ → Task} {items : ℕ → List ℕ} → ListsRun k s m0 tasks0 items0 m tasks items
      → (seat b : ℕ) → tasks seat ≡ Has b
      → ListsRun k s m0 tasks0 items0 (after k m (unlock_course (lock_by s.lock seat b))) (put tasks seat Away) items
  puts : {m : Mem} {tasks : ℕ → Task} {items : ℕ → List ℕ} → ListsRun k s m0 tasks0 items0 m tasks items
      → (seat b x : ℕ) → tasks seat ≡ Has b → x < k.span → ((c : ℕ) → tally x (items c) ≡ 0)
      → ((other : ℕ) → HasNot x (tasks other))
      → ListsRun k s m0 tasks0 items0 m (put tasks seat (Inserting b x InsertAt.Head)) items
  cuts : {m : Mem} {tasks : ℕ → Task} {items : ℕ → List ℕ} → ListsRun k s m0 tasks0 items0 m tasks items
      → (seat b x : ℕ) → tasks seat ≡ Has b → 0 < tally x (items b)
      → ListsRun k s m0 tasks0 items0 m (put tasks seat (Removing b x RemoveAt.Forward)) items
  inserts : {m : Mem} {tasks : ℕ → Task} {items : ℕ → List ℕ} → ListsRun k s m0 tasks0 items0 m tasks items
      → (seat b x : ℕ) (at : InsertAt) → tasks seat ≡ Inserting b x at
      → ListsRun k s m0 tasks0 items0 (after k m (insert_course (list_call s b x) at))
      (put tasks seat (task_inserted b x (insert_learn at (found m (insert_course (list_call s b x) at)))))
      (put items b (items_inserted x (items b) (insert_learn at (found m (insert_course (list_call s b x) at)))))
  removes : {m : Mem} {tasks : ℕ → Task} {items : ℕ → List ℕ} → ListsRun k s m0 tasks0 items0 m tasks items
      → (seat b x : ℕ) (at : RemoveAt) → tasks seat ≡ Removing b x at
      → ListsRun k s m0 tasks0 items0 (after k m (remove_course (list_call s b x) at))
      (put tasks seat (task_removed b x (remove_learn at (found m (remove_course (list_call s b x) at)))))
      (put items b (items_removed x (items b) at))
