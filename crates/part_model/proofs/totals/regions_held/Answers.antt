use Rattle.std.proofs.Common.{Bool, ℕ, sym, ap, ◌∙◌, arith}
use Rattle.std.specs.Prelude.{if◌then◌else◌}
use Rattle.std.proofs.lemmas.List.{take_all}
use Rattle.part_model.proofs.Counts.{regions_of, regions_of-none, regions_more, regions_held-stretches}
use Rattle.part_model.proofs.totals.regions_held.Goals as goal
use Rattle.part_model.proofs.totals.regions_held.Goals.{then-not-has_region, else-not-has_region}

pub loop-index-init : goal.loop-index-init
loop-index-init c = record { fits = omega arith; count = sym regions_of-none }

pub loop-index-preserved : goal.loop-index-preserved
loop-index-preserved c =
    let more = regions_more c.args.stretches.now c.loop-index.index _ c.has_region.result c.has_region.ensures c.loop-index-test.true c.requires.sound in
    elim c.if-not-has_region.branch [
      | then-not-has_region w ↦
          let none = ap {B = ℕ} (λ (b : Bool). if b then 0 else 1) w.if-not-has_region.true in
          record { fits = omega arith; count = omega (arith, more, none) }
      | else-not-has_region w ↦
          let seen = ap {B = ℕ} (λ (b : Bool). if b then 0 else 1) w.if-not-has_region.false in
          record { fits = omega arith; count = omega (arith, more, seen) }
    ]

pub returns : goal.returns
returns c =
    c.loop-index.invariant.count ∙ ap regions_of (take_all c.loop-index.index c.args.stretches.now c.loop-index-test.false)
    ∙ sym (regions_held-stretches c.args.stretches.now c.requires)
