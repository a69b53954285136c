-- What a turn at guards or at bins makes of the whole: steps of its seat, behind which the seat's tasks there are those
-- that are left, what it has in hand is changed as told, and all else of it is as before.
use Rattle.std.specs.Prelude.{◌≡◌, ℕ, List}
use Rattle.pool_words.specs.declared.words.Key.{Key}
use Rattle.pool_words.specs.declared.actions.Action.{Action}
use Rattle.word_laws.specs.Memory.{after}
use Rattle.guard_laws.specs.Blocks as guards
use Rattle.guard_laws.specs.Blocks.{Place}
use Rattle.bin_laws.specs.Bins as bins
use Rattle.hand_blocks.specs.Changes.{Change, HandsLead}
use Rattle.hand_blocks.specs.Hands.{Hand}
use Rattle.pool_laws.specs.Wholes.{Whole}
use Rattle.seat_ties.specs.Ties.{HandsTied}
use Rattle.seat_ties.specs.Turns.{SeatRun}

-- what the seat does elsewhere, its heap and its notes are as before
pub record Beside (w later : Whole) : Type 0 where
  pub locals : later.pool.locals ≡ w.pool.locals
  pub kept : later.pool.kept ≡ w.pool.kept
  pub cached : later.pool.cached ≡ w.pool.cached
  pub queue : later.queue ≡ w.queue
  pub drained : later.drained ≡ w.drained
  pub mails : later.mails ≡ w.mails
  pub tasks : later.tasks ≡ w.tasks
  pub spares : later.spares ≡ w.spares
  pub jobs : later.jobs ≡ w.jobs
  pub desks : later.desks ≡ w.desks
  pub office : later.office ≡ w.office

-- where these changes lead from what is in hand to other blocks, those are in hand then
abbrev pub HandsMove : List Change → (ℕ → Place) → (ℕ → Place) → List ℕ → ℕ → Type 0
HandsMove changes place later drained seat = (before behind : List Hand) → HandsTied place drained seat before
    → HandsLead changes before behind → HandsTied later drained seat behind

pub record Moved (k : Key) (w : Whole) (seat : ℕ) (action : Action) (guard : guards.Task) (bin : bins.Task)
    (changes : List Change) : Type 0 where
  pub later : Whole
  pub run : SeatRun k seat w later
  pub words : later.pool.mem ≡ after k w.pool.mem action
  pub guards' : later.pool.tasks seat ≡ guard
  pub bins' : later.bins seat ≡ bin
  pub beside : Beside w later
  pub hands : HandsMove changes w.pool.blocks.place later.pool.blocks.place (w.drained seat) seat

-- where no block comes into a bin's list or leaves one, the lists are as before
pub record Stays (k : Key) (w : Whole) (seat : ℕ) (action : Action) (guard : guards.Task) (bin : bins.Task)
    (changes : List Change) : Type 0 where
  pub moved : Moved k w seat action guard bin changes
  pub items : moved.later.items ≡ w.items
