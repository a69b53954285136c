use Rattle.std.proofs.Common.{below_more, arith, ap, ◌∙◌, map, length}
use Rattle.std.proofs.lemmas.Option.{slice_get_within}
use Rattle.std.proofs.lemmas.List.{length-map}
use Rattle.pool_types.specs.Texts.{name_bytes}
use Rattle.trace_reader.proofs.SlotLemmas.{not_at}
use Rattle.trace_reader.proofs.context.Context.position.Goals as goal

pub loop-i-preserved : goal.loop-i-preserved
loop-i-preserved c = below_more _ _ c.loop-i.invariant
    (not_at name_bytes c.args.self.now.names.items c.as_slice-other-items.result.now c.loop-i.i c.other-item.result c.args.name.now c.as_slice-other-items.ensures.value c.loop-i-test.true c.other-item.is
    (λ same. c.is_same.ensures.no c.if-is_same.false (c.as_slice.ensures.value ∙ same)))

pub returns : goal.returns
returns c = λ k is. c.loop-i.invariant k
    (omega (arith, slice_get_within (map name_bytes c.args.self.now.names.items) k c.args.name.now is, length-map c.args.self.now.names.items name_bytes, ap length c.as_slice-other-items.ensures.value)) is
