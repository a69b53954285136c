-- What a pen knows more of the board after a call.
use Rattle.std.specs.Prelude.{◌≡◌, ℕ, suc, List, [], ◌∷◌, ◌++◌, Option, Some, None}
use Rattle.name_board.specs.declared.rule.Bound.{Bound}
use Rattle.name_board.specs.declared.rule.BoardView.{BoardView}
use Rattle.name_board.specs.Board.{bound, passed, view}

-- more is known
abbrev pub AddsKnown : List Bound → List Bound → Type 0
AddsKnown old new = (more : List Bound) × (new ≡ old ++ more)

-- the name is bound to the word, where one is bound
abbrev pub AddsBound : Option ℕ → ℕ → BoardView → BoardView → Type 0
AddsBound None word old new = new ≡ old
AddsBound (Some name) word old new = new ≡ view (passed (suc name) old.cursors) (old.known ++ bound name word ∷ [])
