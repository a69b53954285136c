-- The rule of the board: a word is unset, or what the thread that binds its name stored.
use Rattle.std.specs.Prelude.{◌≡◌, ◌≢◌, ℕ, zero, suc, ◌<◌, ◌≤◌, List, [], ◌∷◌, ◌++◌, length, slice_index, cond, eqb}
use mathlib.Core.Option.{some}
use lib.ListN.{get_elem?}
use Rattle.atomic_table.specs.Table.{Me}
use Rattle.atomic_table.specs.declared.shared.Seat.{Seat}
use Rattle.atomic_table.specs.Seated.{TableId}
use Rattle.name_board.specs.declared.rule.Names.{Names}
use Rattle.name_board.specs.declared.rule.Cursor.{Cursor}
use Rattle.name_board.specs.declared.rule.Bound.{Bound}
use Rattle.name_board.specs.declared.rule.BoardView.{BoardView}

abbrev pub owner_of : List ℕ → ℕ → ℕ
owner_of owners b = slice_index owners b

abbrev pub word_of : List ℕ → ℕ → ℕ
word_of ws b = slice_index ws (suc b)

abbrev pub view : List Cursor → List Bound → BoardView
view cs bs = record { cursors = cs; known = bs }

abbrev pub cursor : ℕ → ℕ → Cursor
cursor t n = record { thread = t; from = n }

abbrev pub bound : ℕ → ℕ → Bound
bound b v = record { name = b; value = v }

-- the thread's names from the cursor on are unset
abbrev pub Unset : List ℕ → List ℕ → Cursor → Type 0
Unset owners ws c = (b : ℕ) → c.from ≤ b → owner_of owners b ≡ c.thread → word_of ws b ≡ 0

abbrev pub IsSo : List ℕ → Bound → Type 0
IsSo ws p = (word_of ws p.name ≡ p.value) × (p.value ≢ 0)

pub record Kept (owners ws : List ℕ) (views : List BoardView) : Type 0 where
  pub sized : length ws ≡ suc (length owners)
  pub holder : ℕ → ℕ
  pub tied : (id : ℕ) (v : BoardView) (j : ℕ) (c : Cursor) → get_elem? views id ≡ some v
      → get_elem? v.cursors j ≡ some c → (holder c.thread ≡ id) × Unset owners ws c
  pub so : (id : ℕ) (v : BoardView) (j : ℕ) (p : Bound) → get_elem? views id ≡ some v
      → get_elem? v.known j ≡ some p → IsSo ws p

-- the cursors of the threads below n
abbrev pub cursors_below : ℕ → List Cursor
cursors_below zero = []
cursors_below (suc n) = cursors_below n ++ cursor n 0 ∷ []

module _ {A : Type 0} where
  abbrev pub front_of : List A → List A
  front_of [] = []
  front_of (x ∷ []) = []
  front_of (x ∷ y ∷ ys) = x ∷ front_of (y ∷ ys)

abbrev pub last_of : List Cursor → Cursor
last_of [] = cursor 0 0
last_of (x ∷ []) = x
last_of (x ∷ y ∷ ys) = last_of (y ∷ ys)

abbrev pub IsKnown : List Bound → ℕ → ℕ → Type 0
IsKnown bs b v = (j : ℕ) × (get_elem? bs j ≡ some (bound b v))

abbrev pub first_view : ℕ → BoardView
first_view n = view (cursors_below n) []

-- the thread of the first cursor has bound the names before this one
abbrev pub passed : ℕ → List Cursor → List Cursor
passed n [] = []
passed n (c ∷ cs) = cursor c.thread n ∷ cs

-- what a load of the name's word tells that found f
abbrev pub LooksAt : {S : Type 0} → ℕ → Me S BoardView → ℕ → Me S BoardView → Type 0
LooksAt b me f me' = (me'.1 ≡ me.1) × (me'.0 ≡ cond (eqb f 0) me.0 (view me.0.cursors (me.0.known ++ bound b f ∷ [])))

-- what the store of f in the name's word tells
abbrev pub BindsAt : {S : Type 0} → ℕ → Me S BoardView → ℕ → Me S BoardView → Type 0
BindsAt b me f me' = (me'.1 ≡ me.1) × (me'.0 ≡ view (passed (suc b) me.0.cursors) (me.0.known ++ bound b f ∷ []))

-- the same, by the word's place
abbrev pub Looks : {S : Type 0} → ℕ → Me S BoardView → ℕ → Me S BoardView → Type 0
Looks w me f me' = (b : ℕ) → w ≡ suc b → LooksAt b me f me'

abbrev pub Binds : {S : Type 0} → ℕ → Me S BoardView → ℕ → Me S BoardView → Type 0
Binds w me f me' = (b : ℕ) → w ≡ suc b → BindsAt b me f me'

-- what is known at once of all names that a thread has seen
abbrev pub AllSo : List ℕ → List Bound → Type 0
AllSo ws bs = (j : ℕ) (p : Bound) → get_elem? bs j ≡ some p → IsSo ws p

abbrev pub Settles : {S : Type 0} → Me S BoardView → ℕ → Me S BoardView → Type 0
Settles me f me' = (me' ≡ me) × ((ws : List ℕ) × AllSo ws me.0.known)

-- the one thread of a view may bind the name
abbrev pub MayBind : List ℕ → List Cursor → ℕ → Type 0
MayBind owners cs b = (c : Cursor) × (cs ≡ c ∷ []) × (c.from ≤ b) × (owner_of owners b ≡ c.thread)

-- the pen is one of this table
abbrev pub IsPen : TableId → Seat (Unit {0}) BoardView → Type 0
IsPen table pen = pen.table_id ≡ table

-- there is a name of this number
abbrev pub HasName : Names → ℕ → Type 0
HasName names name = name < length names.owners.items
