use Rattle.std.proofs.Common.{refl, sym, subst}
use Rattle.std.specs.Prelude.{Some}
use Rattle.thread_lines.specs.Asking.{AsksSlot}
use Rattle.thread_lines.proofs.asking.ask_slot.Goals as goal

pub returns-in-Some-heap-clause-said : goal.returns-in-Some-heap-clause-said
returns-in-Some-heap-clause-said g c =
    subst (λ z. AsksSlot z c.args.request c.answer_of.result (Some c.answer_of.new.heap)) (sym c.in-Some-heap.is)
    (c.answer_of.new.heap, refl, c.answer_of.ensures.said)
