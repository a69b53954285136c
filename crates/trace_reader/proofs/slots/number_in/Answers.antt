use Rattle.std.proofs.Common.{arith, ◌<◌, ◌⊎◌, inl, inr}
use Rattle.trace_reader.proofs.NumberLemmas.{number_outside}
use Rattle.trace_reader.proofs.slots.number_in.Goals as goal

pub returns-then-number-low : goal.returns-then-number-low
returns-then-number-low c =
    let outside : (c.in-Some.number < c.args.low) ⊎ (c.args.high < c.in-Some.number) = elim c.then-number-low.either [ inl below ↦ inl below | inr above ↦ inr above.1 ] in
    (number_outside c.args.word.now c.in-Some.number c.args.low c.args.high (rw c.in-Some.is at c.read_number.ensures) outside (omega (arith, c.ranges.high.fits)), c.misread-then-number-low.ensures)
