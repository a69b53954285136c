-- Blocks of granules and their guards: what each granule lies in, what stands behind each guard, and what a seat has
-- won or offered of a block whose other guard says otherwise.
use Rattle.std.specs.Prelude.{◌≡◌, ◌⊎◌, ℕ, ◌+◌, ◌^◌, ◌<◌, ◌≤◌, ◌&&◌, nat_le, nat_lt, cond, ⊤}
use Rattle.pool_words.specs.declared.words.Key.{Key}
use Rattle.pool_words.specs.declared.words.Word.{Word}
use Rattle.pool_words.specs.Words.{sizes, lefts}
use Rattle.word_codes.specs.declared.guards.Guard.{Guard}
use Rattle.word_codes.specs.Guards.{guard_of, FitsGuard}
use Rattle.guards.specs.declared.win.Side.{Side}
use Rattle.guards.specs.declared.win.Taking.{Taking}
use Rattle.guards.specs.declared.win.WinAt.{WinAt}
use Rattle.guards.specs.declared.win.WinCall.{WinCall}
use Rattle.word_laws.specs.Memory.{Mem, put}

pub data Use : Type 0 where
  -- both guards are offered
  Bin : Use
  -- in a seat's hand, for use or to be joined
  Held : (seat : ℕ) (taking : Taking) → Use
  Queued : Use
  -- in a slab, in a large block, or in a cache
  Elsewhere : Use

-- what a granule lies in
pub data Place : Type 0 where
  Outside : Place
  Block : (first granules : ℕ) (use' : Use) → Place

-- what stands behind a guard
pub data Standing : Type 0 where
  -- no block begins or ends there
  Inner : Standing
  -- a block at rest, or in hand for use
  Resting : Standing
  -- a region's end
  Walled : Standing
  -- a block in hand that is to be joined
  Joining : Standing
  -- a queued block
  Waiting : Standing
  -- a block of so many granules, which the guard offers
  Open : (granules : ℕ) → Standing
  -- a block of so many granules, of which the seat has won this guard alone
  Won : (granules seat : ℕ) (taking : Taking) → Standing

pub data Half : Type 0 where
  NoHalf : Half
  HalfOf : (side : Side) (first granules : ℕ) (taking : Taking) → Half

pub data Piece : Type 0 where
  NoPiece : Piece
  Got : (first granules : ℕ) → Piece

-- a value of each index, for the guards at blocks' begins and for those at their ends
pub record Edges (A : Type 0) : Type 0 where
  pub begins : ℕ → A
  pub ends : ℕ → A

abbrev pub at_edge : {A : Type 0} → Edges A → Side → ℕ → A
at_edge f Side.Begin y = f.begins y
at_edge f Side.End y = f.ends y

abbrev pub set_edge : {A : Type 0} → Side → ℕ → A → Edges A → Edges A
set_edge Side.Begin y v f = record { begins = put f.begins y v; ends = f.ends }
set_edge Side.End y v f = record { begins = f.begins; ends = put f.ends y v }

-- where a block's guard is
abbrev pub edge_of : Side → ℕ → ℕ → ℕ
edge_of Side.Begin first granules = first
edge_of Side.End first granules = first + granules

abbrev pub edge_word : Side → ℕ → Word
edge_word Side.Begin y = Word.Size y
edge_word Side.End y = Word.Left y

-- a range of indices has one value
abbrev pub put_range : {A : Type 0} → (ℕ → A) → ℕ → ℕ → A → ℕ → A
put_range f first length v x = cond (nat_le first x && nat_lt x (first + length)) v (f x)

-- what a seat does with guards: it wins those of a block, or it has offered a block at its begin and not yet at its end
pub data Task : Type 0 where
  Away : Task
  Wins : (call : WinCall) (at : WinAt) → Task
  Offers : (first granules : ℕ) → Task

abbrev pub half_at : WinCall → WinAt → Half
half_at c WinAt.First = Half.NoHalf
half_at c WinAt.Second = Half.HalfOf c.first c.begin c.granules c.taking
half_at c WinAt.Back = Half.HalfOf c.first c.begin c.granules c.taking

abbrev pub half_of : Task → Half
half_of Task.Away = Half.NoHalf
half_of (Task.Wins call at) = half_at call at
half_of (Task.Offers first granules) = Half.NoHalf

abbrev pub piece_of : Task → Piece
piece_of Task.Away = Piece.NoPiece
piece_of (Task.Wins call at) = Piece.NoPiece
piece_of (Task.Offers first granules) = Piece.Got first granules

pub record Shadow : Type 0 where
  pub place : ℕ → Place
  pub standing : Edges Standing

pub record Core : Type 0 where
  pub words : Edges ℕ
  pub tasks : ℕ → Task

abbrev pub core_in : Mem → (ℕ → Task) → Core
core_in m tasks = record { words = record { begins = m sizes; ends = m lefts }; tasks = tasks }

-- blocks, guards, and of each seat what it has won or offered of a block
pub record View : Type 0 where
  pub place : ℕ → Place
  pub standing : Edges Standing
  pub words : Edges ℕ
  pub halves : ℕ → Half
  pub pieces : ℕ → Piece

abbrev pub view_of : Shadow → Core → View
view_of g s = record {
  place = g.place;
  standing = g.standing;
  words = s.words;
  halves = λ t. half_of (s.tasks t);
  pieces = λ t. piece_of (s.tasks t);
}

abbrev pub taken_guard : Taking → Guard
taken_guard Taking.ForUse = Guard.Used
taken_guard Taking.ToJoin = Guard.Coalescing

abbrev pub IsShut : Guard → Type 0
IsShut Guard.Used = ⊤
IsShut Guard.Coalescing = ⊤
IsShut Guard.Wall = ⊥
IsShut (Guard.Free granules) = ⊥

abbrev pub IsNotFree : Guard → Type 0
IsNotFree Guard.Used = ⊤
IsNotFree Guard.Coalescing = ⊤
IsNotFree Guard.Wall = ⊤
IsNotFree (Guard.Free granules) = ⊥

abbrev pub GuardFits : Standing → Guard → Type 0
GuardFits Standing.Inner guard = IsNotFree guard
GuardFits Standing.Resting guard = guard ≡ Guard.Used
GuardFits Standing.Walled guard = guard ≡ Guard.Wall
GuardFits Standing.Joining guard = IsShut guard
GuardFits Standing.Waiting guard = guard ≡ Guard.Coalescing
GuardFits (Standing.Open n) guard = guard ≡ Guard.Free n
GuardFits (Standing.Won n t taking) guard = guard ≡ taken_guard taking

-- a block of so many granules is offered there, or its guard there is won
abbrev pub IsOf : ℕ → Standing → Type 0
IsOf n Standing.Inner = ⊥
IsOf n Standing.Resting = ⊥
IsOf n Standing.Walled = ⊥
IsOf n Standing.Joining = ⊥
IsOf n Standing.Waiting = ⊥
IsOf n (Standing.Open m) = m ≡ n
IsOf n (Standing.Won m t taking) = m ≡ n

-- both guards of a block that is in no bin
abbrev pub rest_of : Taking → Standing
rest_of Taking.ForUse = Standing.Resting
rest_of Taking.ToJoin = Standing.Joining

-- the block that its seat offers may be offered at its begin alone
abbrev pub EdgeFits : (ℕ → Piece) → Side → Use → ℕ → ℕ → Standing → Type 0
EdgeFits pieces e Use.Bin x n s = IsOf n s
EdgeFits pieces e (Use.Held t taking) x n s =
    (s ≡ rest_of taking) ⊎ ((e ≡ Side.Begin) × (pieces t ≡ Piece.Got x n) × IsOf n s)
EdgeFits pieces e Use.Queued x n s = s ≡ Standing.Waiting
EdgeFits pieces e Use.Elsewhere x n s = s ≡ Standing.Resting

-- all granules of a block lie in it
pub record IsWhole (place : ℕ → Place) (y first granules : ℕ) (use' : Use) : Type 0 where
  pub from : first ≤ y
  pub below : y < first + granules
  pub all : (z : ℕ) → first ≤ z → z < first + granules → place z ≡ Place.Block first granules use'

abbrev pub BlocksWhole : (ℕ → Place) → Type 0
BlocksWhole place =
    (y first granules : ℕ) (u : Use) → place y ≡ Place.Block first granules u → IsWhole place y first granules u

-- the block is in a bin; or a seat has it in hand and offers it, so far at its begin alone
abbrev pub IsOffered : (ℕ → Place) → (ℕ → Piece) → Side → ℕ → ℕ → Type 0
IsOffered place pieces e x n =
    (place x ≡ Place.Block x n Use.Bin)
    ⊎ ((e ≡ Side.Begin) × ((t : ℕ) × (taking : Taking) × (place x ≡ Place.Block x n (Use.Held t taking))
    × (pieces t ≡ Piece.Got x n)))

pub record Parts (span : ℕ) (v : View) : Type 0 where
  pub whole : BlocksWhole v.place
  pub within : (x n : ℕ) (u : Use) → v.place x ≡ Place.Block x n u → x + n ≤ span
  pub words_fit : (e : Side) (y : ℕ) → GuardFits (at_edge v.standing e y) (guard_of (at_edge v.words e y))
  pub edges_fit : (e : Side) (x n : ℕ) (u : Use) → v.place x ≡ Place.Block x n u
      → EdgeFits v.pieces e u x n (at_edge v.standing e (edge_of e x n))
  pub offers : (e : Side) (y n : ℕ) → IsOf n (at_edge v.standing e y)
      → (x : ℕ) × (edge_of e x n ≡ y) × IsOffered v.place v.pieces e x n
  -- a guard that is won alone is a half of the seat's, and the other way round
  pub won_is : (e : Side) (y n t : ℕ) (taking : Taking) → at_edge v.standing e y ≡ Standing.Won n t taking
      → (x : ℕ) × (edge_of e x n ≡ y) × (v.halves t ≡ Half.HalfOf e x n taking)
  pub half_is : (t : ℕ) (e : Side) (x n : ℕ) (taking : Taking) → v.halves t ≡ Half.HalfOf e x n taking
      → at_edge v.standing e (edge_of e x n) ≡ Standing.Won n t taking
  pub piece_is : (t x n : ℕ) → v.pieces t ≡ Piece.Got x n
      → ((taking : Taking) × (v.place x ≡ Place.Block x n (Use.Held t taking))) × IsOf n (v.standing.begins x)

-- a call is of one block, and the block's granules are told by a guard
pub record CallFits (c : WinCall) : Type 0 where
  pub ends : c.begin + c.granules ≡ c.end
  pub told : FitsGuard (Guard.Free c.granules)

abbrev pub TaskFits : Task → Type 0
TaskFits Task.Away = ⊤
TaskFits (Task.Wins call at) = CallFits call
TaskFits (Task.Offers first granules) = ⊤

pub record GuardGood (k : Key) (g : Shadow) (s : Core) : Type 0 where
  pub small : k.span < 2 ^ 32
  pub parts : Parts k.span (view_of g s)
  pub calls : (seat : ℕ) → TaskFits (s.tasks seat)
