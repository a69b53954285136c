-- The law of turns at the cache of large blocks.
use Rattle.seat_ties.specs.Left.{Turned}
use Rattle.shelf_moves.specs.Positions.{IsAtShelf}

abbrev pub ShelfTurnsAreSteps : Type 0
ShelfTurnsAreSteps = Turned IsAtShelf
