-- What ties a whole pool to the locals of its seats: each seat does in every group what its local's position says, its
-- heap is the local's, and what the local has in hand lies in the seat's hand.
use Rattle.std.specs.Prelude.{◌≡◌, ℕ, true, List, [], ◌∷◌, Option, Some, None, ⊤}
use Rattle.pool_words.specs.declared.words.Key.{Key}
use Rattle.guards.specs.declared.win.Taking.{Taking}
use Rattle.chain_laws.specs.Chains.{tally}
use Rattle.guard_laws.specs.Blocks.{Use, Place}
use Rattle.step_local.specs.declared.frames.Local.{Local}
use Rattle.step_laws.specs.Tasks.{task_of}
use Rattle.step_tasks.specs.Mail.{mail_task_of}
use Rattle.step_tasks.specs.Objects.{object_task_of}
use Rattle.backend_tasks.specs.Bins.{bin_task_of}
use Rattle.backend_tasks.specs.Fits.{BackendFits}
use Rattle.backend_tasks.specs.Guards.{guard_task_of}
use Rattle.backend_tasks.specs.Queue.{queue_task_of}
use Rattle.cache_tasks.specs.Released.{ReleasedFits}
use Rattle.cache_tasks.specs.Cache.{cache_task_of}
use Rattle.orphan_tasks.specs.Orphans.{orphan_task_of, spares_of}
use Rattle.orphan_tasks.specs.Starts.{OrphanFits}
use Rattle.heap_tasks.specs.Heaps.{kept_of, cached_of, last_of}
use Rattle.heap_tasks.specs.Notes.{notes_of}
use Rattle.heap_tasks.specs.Stages.{StageFits}
use Rattle.hand_blocks.specs.Fits.{HandsFit}
use Rattle.hand_blocks.specs.Hands.{Hand, firsts, hands_of}
use Rattle.step_fits.specs.Frames.{SeatFits}
use Rattle.step_fits.specs.Positions.{LocalFits}
use Rattle.pool_laws.specs.Wholes.{Whole}
use Rattle.seat_ties.specs.Says.{WordsSay}

-- a block lies whole in the seat's hand; where the local keeps its first granule alone, however long it is
abbrev pub LiesFor : (ℕ → Place) → ℕ → ℕ → Option ℕ → Taking → Type 0
LiesFor place seat first (Some n) taking = place first ≡ Place.Block first n (Use.Held seat taking)
LiesFor place seat first None taking = (n : ℕ) × (place first ≡ Place.Block first n (Use.Held seat taking))

-- so do all that the local has
abbrev pub AreInHand : (ℕ → Place) → ℕ → List Hand → Type 0
AreInHand place seat [] = ⊤
AreInHand place seat (one ∷ rest) =
    LiesFor place seat one.first one.granules one.taking × AreInHand place seat rest

abbrev pub AreOnce : List ℕ → Type 0
AreOnce [] = ⊤
AreOnce (x ∷ xs) = (tally x xs ≡ 0) × AreOnce xs

-- none of these is among those
abbrev pub AreApart : List ℕ → List ℕ → Type 0
AreApart others [] = ⊤
AreApart others (x ∷ xs) = (tally x others ≡ 0) × AreApart others xs

-- each of them once, and none is left of a chain that the seat took
pub record HandsTied (place : ℕ → Place) (drained : List ℕ) (seat : ℕ) (hands : List Hand) : Type 0 where
  pub lie : AreInHand place seat hands
  pub once : AreOnce (firsts hands)
  pub apart : AreApart drained (firsts hands)

-- what a local of one of the pool's seats says by itself
pub record SaysItself (k : Key) (seat : ℕ) (l : Local) : Type 0 where
  pub number : SeatFits k seat
  pub fits : LocalFits k seat true l
  pub stage : StageFits l
  pub hands : HandsFit l
  pub backend : BackendFits l
  pub released : ReleasedFits l
  pub orphans : OrphanFits l

-- what the seat does in each group is what the local's position says
pub record TasksTied (w : Whole) (seat : ℕ) (l : Local) : Type 0 where
  pub guards : w.pool.tasks seat ≡ guard_task_of l
  pub bins : w.bins seat ≡ bin_task_of l
  pub queue : w.queue seat ≡ queue_task_of l
  pub objects : w.pool.locals.tasks seat ≡ object_task_of l
  pub mails : w.mails seat ≡ mail_task_of l
  pub orphans : w.tasks seat ≡ orphan_task_of l
  pub jobs : w.jobs seat ≡ cache_task_of l
  pub desks : w.desks seat ≡ task_of l

-- the heap and the last number are the local's
pub record HeapTied (w : Whole) (seat : ℕ) (l : Local) : Type 0 where
  pub kept : w.pool.kept seat ≡ kept_of l
  pub cached : w.pool.cached seat ≡ cached_of l
  pub spares : w.spares seat ≡ spares_of l
  pub last : w.pool.locals.lasts seat ≡ last_of l

pub record SeatTied (k : Key) (w : Whole) (seat : ℕ) (l : Local) : Type 0 where
  pub says : SaysItself k seat l
  pub tasks : TasksTied w seat l
  pub heap : HeapTied w seat l
  pub notes : w.pool.locals.notes seat ≡ notes_of l
  pub hands : HandsTied w.pool.blocks.place (w.drained seat) seat (hands_of l)
  pub words : WordsSay w seat l
