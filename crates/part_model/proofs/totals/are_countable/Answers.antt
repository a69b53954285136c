use Rattle.std.proofs.Common.{refl, ap, ◌∙◌, arith}
use Rattle.std.proofs.lemmas.List.{take_all}
use Rattle.part_model.specs.Stretches.{stretch_bytes}
use Rattle.part_model.specs.Totals.{has_holder}
use Rattle.part_model.proofs.Counts.{bytes-stretches, too_many}
use Rattle.part_model.proofs.totals.are_countable.Goals as goal

pub returns-in-None : goal.returns-in-None
returns-in-None c = (
  λ true_is. absurd (let e = true_is in cc),
  λ few. absurd (too_many c.args.stretches.now c.loop-stretch.stretch-index _ c.loop-stretch.bytes c.requires c.loop-stretch-test.true c.loop-stretch.invariant.sum c.in-None.ensures few),
)

pub returns : goal.returns
returns c =
    let all = bytes-stretches has_holder refl c.args.stretches.now c.requires in
    let whole = c.loop-stretch.invariant.sum ∙ ap stretch_bytes (take_all c.loop-stretch.stretch-index c.args.stretches.now c.loop-stretch-test.false) in
    (λ true_is. omega (arith, all, whole, c.loop-stretch.invariant.fits), λ few. refl)
