-- Which blocks the bins' lists have: those in bins, but for one that its putter is about to link, and those that a seat
-- has won and not yet taken out, also where it won one before its putter had linked it.
use Rattle.std.specs.Prelude.{◌≡◌, ◌⊎◌, ℕ, cond, eqb, List}
use Rattle.pool_types.specs.Geometry.{bin_count}
use Rattle.pool_words.specs.declared.words.Key.{Key}
use Rattle.pool_words.specs.declared.words.Word.{Word}
use Rattle.locked_chain.specs.declared.insert.InsertAt.{InsertAt}
use Rattle.locked_chain.specs.declared.remove.RemoveAt.{RemoveAt}
use Rattle.backend_bins.specs.Blocks.{bin_of}
use Rattle.word_laws.specs.Memory.{Mem}
use Rattle.chain_laws.specs.Chains.{tally}
use Rattle.lock_laws.specs.Seats.{ListWords, ListsGood}
use Rattle.lock_laws.specs.Seats as lists
use Rattle.guard_laws.specs.Blocks as guards
use Rattle.guard_laws.specs.Blocks.{Use, Place, Piece, core_in, GuardGood}
use Rattle.guards.specs.declared.win.Taking.{Taking}

-- each bin's lock and list
abbrev pub bin_words : ListWords
bin_words = record { count = bin_count; lock = λ b. Word.BinLock b; head = λ b. Word.BinHead b }

-- what a seat does in bins
pub data Task : Type 0 where
  Away : Task
  -- it has won a block, which is in its bin's list still, and is to take the lock of that bin
  Won : (first granules : ℕ) → Task
  -- it has a bin's lock
  Has : (bin : ℕ) → Task
  -- and a block comes into the list, since both its guards say that it is free
  Links : (first granules : ℕ) (at : InsertAt) → Task
  -- or a block that it has won leaves the list
  Unlinks : (first granules : ℕ) (at : RemoveAt) → Task

abbrev pub list_task : Task → lists.Task
list_task Task.Away = lists.Task.Away
list_task (Task.Won first granules) = lists.Task.Away
list_task (Task.Has bin) = lists.Task.Has bin
list_task (Task.Links first granules at) = lists.Task.Inserting (bin_of granules) first at
list_task (Task.Unlinks first granules at) = lists.Task.Removing (bin_of granules) first at

-- a block that the seat has won, and that its bin's list has still
abbrev pub won_at : ℕ → ℕ → RemoveAt → Piece
won_at first granules RemoveAt.Forward = Piece.Got first granules
won_at first granules (RemoveAt.Backward forward) = Piece.Got first granules
won_at first granules (RemoveAt.Skip forward backward) = Piece.Got first granules
won_at first granules (RemoveAt.SkipBack behind backward) = Piece.NoPiece

abbrev pub won_of : Task → Piece
won_of Task.Away = Piece.NoPiece
won_of (Task.Won first granules) = Piece.Got first granules
won_of (Task.Has bin) = Piece.NoPiece
won_of (Task.Links first granules at) = Piece.NoPiece
won_of (Task.Unlinks first granules at) = won_at first granules at

-- a block in a bin, which its putter is about to link
abbrev pub coming_of : Task → Piece
coming_of Task.Away = Piece.NoPiece
coming_of (Task.Won first granules) = Piece.NoPiece
coming_of (Task.Has bin) = Piece.NoPiece
coming_of (Task.Links first granules at) = Piece.Got first granules
coming_of (Task.Unlinks first granules at) = Piece.NoPiece

-- a block that is out of the links forward, and that those back have still
abbrev pub cut_at : ℕ → ℕ → RemoveAt → Piece
cut_at first granules RemoveAt.Forward = Piece.NoPiece
cut_at first granules (RemoveAt.Backward forward) = Piece.NoPiece
cut_at first granules (RemoveAt.Skip forward backward) = Piece.NoPiece
cut_at first granules (RemoveAt.SkipBack behind backward) = Piece.Got first granules

abbrev pub cut_of : Task → Piece
cut_of Task.Away = Piece.NoPiece
cut_of (Task.Won first granules) = Piece.NoPiece
cut_of (Task.Has bin) = Piece.NoPiece
cut_of (Task.Links first granules at) = Piece.NoPiece
cut_of (Task.Unlinks first granules at) = cut_at first granules at

-- of a block's first granule: it is in no list, in that of its bin, or a seat is about to link it
pub data Member : Type 0 where
  Out : Member
  In : (granules : ℕ) → Member
  Comes : (granules seat : ℕ) → Member

abbrev pub IsMember : ℕ → Member → Type 0
IsMember n Member.Out = ⊥
IsMember n (Member.In m) = m ≡ n
IsMember n (Member.Comes m seat) = m ≡ n

abbrev pub in_bin : ℕ → Member → ℕ
in_bin b Member.Out = 0
in_bin b (Member.In n) = cond (eqb (bin_of n) b) 1 0
in_bin b (Member.Comes n seat) = 0

pub record MembersFit (place : ℕ → Place) (wons comings cuts : ℕ → Piece) (member : ℕ → Member) : Type 0 where
  pub bin_is : (x n : ℕ) → place x ≡ Place.Block x n Use.Bin → IsMember n (member x)
  pub is_bin : (x n : ℕ) → IsMember n (member x)
      → (place x ≡ Place.Block x n Use.Bin)
      ⊎ ((t : ℕ) × (taking : Taking) × (place x ≡ Place.Block x n (Use.Held t taking)) × (wons t ≡ Piece.Got x n))
  pub won_is : (t x n : ℕ) → wons t ≡ Piece.Got x n
      → ((taking : Taking) × (place x ≡ Place.Block x n (Use.Held t taking))) × IsMember n (member x)
  pub coming_is : (t x n : ℕ) → comings t ≡ Piece.Got x n → member x ≡ Member.Comes n t
  pub is_coming : (t x n : ℕ) → member x ≡ Member.Comes n t → comings t ≡ Piece.Got x n
  pub cut_is : (t x n : ℕ) → cuts t ≡ Piece.Got x n
      → ((taking : Taking) × (place x ≡ Place.Block x n (Use.Held t taking))) × (member x ≡ Member.Out)

pub record Shadow : Type 0 where
  pub guards : guards.Shadow
  -- of a bin: the blocks that the links forward list
  pub items : ℕ → List ℕ
  pub member : ℕ → Member

pub record Locals : Type 0 where
  pub guards : ℕ → guards.Task
  pub bins : ℕ → Task

pub record BinGood (k : Key) (g : Shadow) (m : Mem) (l : Locals) : Type 0 where
  pub guards : GuardGood k g.guards (core_in m l.guards)
  pub lists : ListsGood k bin_words m (λ t. list_task (l.bins t)) g.items
  -- each block once, in the list of its bin and in no other
  pub once : (b x : ℕ) → tally x (g.items b) ≡ in_bin b (g.member x)
  pub members : MembersFit g.guards.place (λ t. won_of (l.bins t)) (λ t. coming_of (l.bins t))
      (λ t. cut_of (l.bins t)) g.member
