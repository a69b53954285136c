-- The laws of turns at the backend's bins.
use Rattle.seat_ties.specs.Left.{Turned}
use Rattle.backend_moves.specs.Positions.{IsCut, IsQueue, IsScan, IsWhole}

-- whether blocks wait in the queue
abbrev pub QueuesAreTurned : Type 0
QueuesAreTurned = Turned IsQueue

-- a region without a piece that fits goes into its bin
abbrev pub WholesAreTurned : Type 0
WholesAreTurned = Turned IsWhole

-- the bins are looked through for a block, which is won and taken out of its bin
abbrev pub ScansAreTurned : Type 0
ScansAreTurned = Turned IsScan

-- a piece is cut from a block in hand, and what is left of that goes into bins
abbrev pub CutsAreTurned : Type 0
CutsAreTurned = Turned IsCut
