-- Where none of 64 numbers has a free slot, no slot is free.
use Rattle.std.proofs.Common.{arith}
use Rattle.regions.proofs.SlotLemmas.{counter_next}
use Rattle.regions.proofs.numbers.next_number.Goals as goal

pub returns : goal.returns
returns c = counter_next c.args.records.now c.args.counter (λ k from below. c.loop-number.invariant k from (omega arith))
