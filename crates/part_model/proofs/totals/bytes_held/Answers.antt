use Rattle.std.proofs.Common.{refl, sym, ap, ◌∙◌}
use Rattle.std.proofs.lemmas.List.{take_all}
use Rattle.part_model.specs.Stretches.{stretch_bytes}
use Rattle.part_model.specs.Totals.{has_holder}
use Rattle.part_model.proofs.Counts.{bytes-stretches}
use Rattle.part_model.proofs.totals.bytes_held.Goals as goal

pub returns : goal.returns
returns c =
    c.loop-stretch.invariant ∙ ap stretch_bytes (take_all c.loop-stretch.stretch-index c.args.stretches.now c.loop-stretch-test.false)
    ∙ sym (bytes-stretches has_holder refl c.args.stretches.now c.requires.stretches)
