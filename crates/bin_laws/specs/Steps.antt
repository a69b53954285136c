-- The steps of a seat on bins: what each rests on, and what it leaves.
use Rattle.std.specs.Prelude.{◌≡◌, ℕ, ◌+◌, ◌<◌, ⊤}
use Rattle.pool_types.specs.Geometry.{bin_count}
use Rattle.pool_words.specs.declared.words.Key.{Key}
use Rattle.pool_words.specs.declared.words.Word.{Word}
use Rattle.pool_words.specs.declared.actions.Action.TheVariants.{Store}
use Rattle.pool_words.specs.Words.{bin_locks, bin_heads, forwards, backwards}
use Rattle.word_codes.specs.declared.guards.Guard.{Guard}
use Rattle.word_codes.specs.Guards.{guard_word}
use Rattle.guards.specs.declared.win.Side.{Side}
use Rattle.guards.specs.declared.win.Taking.{Taking}
use Rattle.guards.specs.declared.win.WinAt.{WinAt}
use Rattle.guards.specs.declared.win.WinCall.{WinCall}
use Rattle.guards.specs.declared.win.WinNext.{WinNext}
use Rattle.guards.specs.Win.{win_course, win_learn}
use Rattle.locked_chain.specs.declared.lock.LockNext.{LockNext}
use Rattle.locked_chain.specs.declared.insert.InsertAt.{InsertAt}
use Rattle.locked_chain.specs.declared.insert.InsertNext.{InsertNext}
use Rattle.locked_chain.specs.declared.remove.RemoveAt.{RemoveAt}
use Rattle.locked_chain.specs.declared.remove.RemoveNext.{RemoveNext}
use Rattle.locked_chain.specs.Locks.{lock_course, lock_learn, unlock_course}
use Rattle.locked_chain.specs.Insert.{insert_course, insert_learn}
use Rattle.locked_chain.specs.Remove.{remove_course, remove_learn}
use Rattle.backend_bins.specs.Blocks.{bin_of}
use Rattle.word_laws.specs.Memory.{Mem, put, after, found}
use Rattle.lock_laws.specs.Locks.{lock_by}
use Rattle.lock_laws.specs.Seats.{list_call, items_inserted, items_removed}
use Rattle.guard_laws.specs.Blocks as blocks
use Rattle.guard_laws.specs.Blocks.{Use, Place, Standing, Piece}
use Rattle.guard_laws.specs.Steps.{GuardStep, with_use, with_edge, shadow_taken}
use Rattle.bin_laws.specs.Bins.{bin_words, Task, Member, Shadow, Locals}

-- the words of bins are the same
pub record SameLists (m m' : Mem) : Type 0 where
  pub locks : m' bin_locks ≡ m bin_locks
  pub heads : m' bin_heads ≡ m bin_heads
  pub next : m' forwards ≡ m forwards
  pub previous : m' backwards ≡ m backwards

-- the block that a seat has won, until it is out of both lists
abbrev pub kept_of : Task → Piece
kept_of Task.Away = Piece.NoPiece
kept_of (Task.Won first granules) = Piece.Got first granules
kept_of (Task.Has bin) = Piece.NoPiece
kept_of (Task.Links first granules at) = Piece.NoPiece
kept_of (Task.Unlinks first granules at) = Piece.Got first granules

-- no block comes into a bin or leaves one, and a block that the seat has won and not yet taken out stays in its hand
pub record IsQuiet (place place' : ℕ → Place) (seat : ℕ) (kept : Piece) : Type 0 where
  pub to : (x n : ℕ) → place x ≡ Place.Block x n Use.Bin → place' x ≡ Place.Block x n Use.Bin
  pub from : (x n : ℕ) → place' x ≡ Place.Block x n Use.Bin → place x ≡ Place.Block x n Use.Bin
  pub hand : (x n : ℕ) (taking : Taking) → kept ≡ Piece.Got x n
      → place x ≡ Place.Block x n (Use.Held seat taking) → place' x ≡ Place.Block x n (Use.Held seat taking)

-- a scan has the bin's lock when it wins a block; a put that joins a neighbour has none
abbrev pub IsReady : ℕ → Task → Type 0
IsReady granules Task.Away = ⊤
IsReady granules (Task.Won first other) = ⊥
IsReady granules (Task.Has bin) = bin ≡ bin_of granules
IsReady granules (Task.Links first other at) = ⊥
IsReady granules (Task.Unlinks first other at) = ⊥

abbrev pub task_won : ℕ → ℕ → Task → Task
task_won first granules Task.Away = Task.Won first granules
task_won first granules (Task.Won x n) = Task.Won x n
task_won first granules (Task.Has bin) = Task.Unlinks first granules RemoveAt.Forward
task_won first granules (Task.Links x n at) = Task.Links x n at
task_won first granules (Task.Unlinks x n at) = Task.Unlinks x n at

abbrev pub task_locked : ℕ → LockNext → Task
task_locked b LockNext.Won = Task.Has b
task_locked b LockNext.Waits = Task.Away

abbrev pub task_leaves : ℕ → ℕ → LockNext → Task
task_leaves first granules LockNext.Won = Task.Unlinks first granules RemoveAt.Forward
task_leaves first granules LockNext.Waits = Task.Won first granules

abbrev pub task_linked : ℕ → ℕ → InsertNext → Task
task_linked first granules (InsertNext.Goes at) = Task.Links first granules at
task_linked first granules InsertNext.Inserted = Task.Has (bin_of granules)

abbrev pub task_unlinked : ℕ → ℕ → RemoveNext → Task
task_unlinked first granules (RemoveNext.Goes at) = Task.Unlinks first granules at
task_unlinked first granules RemoveNext.Out = Task.Has (bin_of granules)

abbrev pub member_linked : ℕ → ℕ → InsertNext → (ℕ → Member) → ℕ → Member
member_linked first granules (InsertNext.Goes at) member = member
member_linked first granules InsertNext.Inserted member = put member first (Member.In granules)

-- the block leaves the list with the first store
abbrev pub member_unlinked : ℕ → RemoveAt → (ℕ → Member) → ℕ → Member
member_unlinked first RemoveAt.Forward member = member
member_unlinked first (RemoveAt.Backward forward) member = member
member_unlinked first (RemoveAt.Skip forward backward) member = put member first Member.Out
member_unlinked first (RemoveAt.SkipBack behind backward) member = member

abbrev pub with_bin : ℕ → Task → Locals → Locals
with_bin seat task l = record { guards = l.guards; bins = put l.bins seat task }

pub data BinStep (k : Key) (seat : ℕ) (g : Shadow) (m : Mem) (l : Locals) : Shadow → Mem → Locals → Type 0 where
  -- a step on guards, or on other words, by which no block comes into a bin or leaves one
  guards : (h : blocks.Shadow) (m' : Mem) (tasks : ℕ → blocks.Task)
      → GuardStep k seat g.guards m l.guards h m' tasks
      → IsQuiet g.guards.place h.place seat (kept_of (l.bins seat)) → SameLists m m'
      → BinStep k seat g m l (record { guards = h; items = g.items; member = g.member }) m'
      (record { guards = tasks; bins = l.bins })
  -- the second guard of a block is won
  wins : (c : WinCall) → l.guards seat ≡ blocks.Task.Wins c WinAt.Second
      → win_learn c WinAt.Second (found m (win_course c WinAt.Second)) ≡ WinNext.Won
      → IsReady c.granules (l.bins seat)
      → BinStep k seat g m l
      (record { guards = shadow_taken seat c g.guards; items = g.items; member = g.member })
      (after k m (win_course c WinAt.Second))
      (record {
        guards = put l.guards seat blocks.Task.Away;
        bins = put l.bins seat (task_won c.begin c.granules (l.bins seat));
      })
  -- G4: the second guard of a block that is put, under the lock of its bin
  comes : (x n : ℕ) → l.guards seat ≡ blocks.Task.Offers x n → l.bins seat ≡ Task.Has (bin_of n)
      → BinStep k seat g m l
      (record {
        guards = with_use x n Use.Bin (with_edge Side.End (x + n) (Standing.Open n) g.guards);
        items = g.items;
        member = put g.member x (Member.Comes n seat);
      })
      (after k m (Store (Word.Left (x + n)) (guard_word (Guard.Free n))))
      (record {
        guards = put l.guards seat blocks.Task.Away;
        bins = put l.bins seat (Task.Links x n InsertAt.Head);
      })
  -- B1: a bin's lock is taken, or the seat waits
  takes : (b : ℕ) → b < bin_count → l.bins seat ≡ Task.Away
      → BinStep k seat g m l g (after k m (lock_course (lock_by bin_words.lock seat b)))
      (with_bin seat (task_locked b (lock_learn (lock_by bin_words.lock seat b)
      (found m (lock_course (lock_by bin_words.lock seat b))))) l)
  -- and that of a block that was won
  leaves : (x n : ℕ) → l.bins seat ≡ Task.Won x n
      → BinStep k seat g m l g (after k m (lock_course (lock_by bin_words.lock seat (bin_of n))))
      (with_bin seat (task_leaves x n (lock_learn (lock_by bin_words.lock seat (bin_of n))
      (found m (lock_course (lock_by bin_words.lock seat (bin_of n)))))) l)
  -- B2
  frees : (b : ℕ) → l.bins seat ≡ Task.Has b
      → BinStep k seat g m l g (after k m (unlock_course (lock_by bin_words.lock seat b)))
      (with_bin seat Task.Away l)
  -- B3 to B6 of a put
  links : (x n : ℕ) (at : InsertAt) → l.bins seat ≡ Task.Links x n at
      → BinStep k seat g m l
      (record {
        guards = g.guards;
        items = put g.items (bin_of n) (items_inserted x (g.items (bin_of n))
            (insert_learn at (found m (insert_course (list_call bin_words (bin_of n) x) at))));
        member = member_linked x n
            (insert_learn at (found m (insert_course (list_call bin_words (bin_of n) x) at))) g.member;
      })
      (after k m (insert_course (list_call bin_words (bin_of n) x) at))
      (with_bin seat (task_linked x n
      (insert_learn at (found m (insert_course (list_call bin_words (bin_of n) x) at)))) l)
  -- B3 to B6 of a block that was won
  unlinks : (x n : ℕ) (at : RemoveAt) → l.bins seat ≡ Task.Unlinks x n at
      → BinStep k seat g m l
      (record {
        guards = g.guards;
        items = put g.items (bin_of n) (items_removed x (g.items (bin_of n)) at);
        member = member_unlinked x at g.member;
      })
      (after k m (remove_course (list_call bin_words (bin_of n) x) at))
      (with_bin seat (task_unlinked x n
      (remove_learn at (found m (remove_course (list_call bin_words (bin_of n) x) at)))) l)

-- any number of steps of any number of seats
pub data BinRun (k : Key) (g0 : Shadow) (m0 : Mem) (l0 : Locals) : Shadow → Mem → Locals → Type 0 where
  starts : BinRun k g0 m0 l0 g0 m0 l0
  steps : {g1 : Shadow} {m1 : Mem} {l1 : Locals} {h : Shadow} {m' : Mem} {l' : Locals}
      → BinRun k g0 m0 l0 g1 m1 l1 → (seat : ℕ) → BinStep k seat g1 m1 l1 h m' l' → BinRun k g0 m0 l0 h m' l'
