-- the parts so far, with those of the spots that are left
use Rattle.std.proofs.Common.{◌≡◌, drop}
use Rattle.word_parts.specs.Parts.{chain_parts}
use Rattle.word_parts.proofs.parts.add_chain.Given as goal

abbrev pub invariant-loop-spot : goal.invariant-loop-spot
invariant-loop-spot l =
    chain_parts l.key l.words l.seat l.chain l.initial.parts.items l.spots
    ≡ chain_parts l.key l.words l.seat l.chain l.parts.items (drop l.spot-index l.spots)
