-- How many blocks in hand begin at a granule, before a change and after it.
use Rattle.std.proofs.Common.{◌≡◌, ◌∙◌, ◌+◌, ℕ, List, [], ◌∷◌, ◌++◌, ap, arith}
use Rattle.chain_laws.specs.Chains.{tally}
use Rattle.hand_blocks.specs.Changes.{gained, lost}
use Rattle.hand_blocks.specs.Hands.{Hand, firsts}
use Rattle.hand_blocks.specs.Laws.{ChangesCountBlocks}

pub count_of : (x : ℕ) (one other : List Hand)
    → tally x (firsts (one ++ other)) ≡ tally x (firsts one) + tally x (firsts other)
count_of x [] other = omega arith
count_of x (y ∷ ys) other = let more = count_of x ys other in omega arith

-- three parts of a list
count_parts : (x : ℕ) (above middle below : List Hand)
    → tally x (firsts (above ++ (middle ++ below)))
    ≡ tally x (firsts above) + (tally x (firsts middle) + tally x (firsts below))
count_parts x above middle below =
    let one = count_of x above (middle ++ below) in let other = count_of x middle below in omega arith

moved : (before after above below lost' gained' : ℕ) → before ≡ above + (lost' + below)
    → after ≡ above + (gained' + below) → after + lost' ≡ before + gained'
moved before after above below lost' gained' was now = omega arith

pub changes_count_blocks : ChangesCountBlocks
changes_count_blocks change before after is x = moved (tally x (firsts before)) (tally x (firsts after))
    (tally x (firsts is.above)) (tally x (firsts is.below)) (tally x (firsts (lost change)))
    (tally x (firsts (gained change)))
    (ap (λ hands. tally x (firsts hands)) is.was ∙ count_parts x is.above (lost change) is.below)
    (ap (λ hands. tally x (firsts hands)) is.now ∙ count_parts x is.above (gained change) is.below)
