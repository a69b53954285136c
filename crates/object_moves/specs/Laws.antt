-- The laws of turns at an object.
use Rattle.seat_ties.specs.Left.{Turned}
use Rattle.object_moves.specs.Positions.{IsAtEnd, IsAtGrant, IsAtLocate, IsAtLook, IsAtPost, IsAtTake}

abbrev pub LooksTurn : Type 0
LooksTurn = Turned IsAtLook

abbrev pub EndsTurn : Type 0
EndsTurn = Turned IsAtEnd

abbrev pub PostsTurn : Type 0
PostsTurn = Turned IsAtPost

abbrev pub LocatesTurn : Type 0
LocatesTurn = Turned IsAtLocate

-- of a small object
abbrev pub SmallTurns : Type 0
SmallTurns = Turned IsAtTake

-- and of a large one
abbrev pub GrantsTurn : Type 0
GrantsTurn = Turned IsAtGrant
