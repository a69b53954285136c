-- The law of turns at slabs, and at the begin of large objects.
use Rattle.seat_ties.specs.Left.{Turned}
use Rattle.slab_moves.specs.Says.{IsAtSlab}

abbrev pub SlabTurnsAreSteps : Type 0
SlabTurnsAreSteps = Turned IsAtSlab
