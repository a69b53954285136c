-- the changes so far, with those of the spots that are left
use Rattle.std.proofs.Common.{◌≡◌, drop}
use Rattle.step_parts.specs.Moves.{chain_book}
use Rattle.step_parts.proofs.moves.add_orphans.Given as goal

abbrev pub invariant-loop-spot : goal.invariant-loop-spot
invariant-loop-spot l =
    chain_book l.key l.words l.seat l.initial.book.items l.spots
    ≡ chain_book l.key l.words l.seat l.book.items (drop l.spot-index l.spots)
