use Rattle.std.proofs.Common.{Some, sym, ap, ◌∙◌, arith}
use Rattle.std.proofs.lemmas.List.{take_all}
use Rattle.std.specs.Prelude.{if◌then◌else◌, sum_by}
use Rattle.part_model.specs.Totals.{is_at}
use Rattle.part_model.proofs.Counts.{bytes-stretches, is_at-none, kind_fits}
use Rattle.part_model.proofs.totals.bytes_at.Goals as goal

pub overflow_add-bytes : goal.overflow_add-bytes
overflow_add-bytes c =
    omega (arith, kind_fits c.args.kind c.args.stretches.now c.loop-stretch.stretch-index _ c.loop-stretch-test.true (sym c.is.ensures ∙ c.if-is.true))

pub returns : goal.returns
returns c =
    c.loop-stretch.invariant
    ∙ ap (λ stretches. sum_by (λ stretch. if is_at c.args.kind (Some stretch.holder) then stretch.range.bytes else 0) stretches) (take_all c.loop-stretch.stretch-index c.args.stretches.now c.loop-stretch-test.false)
    ∙ sym (bytes-stretches (is_at c.args.kind) (is_at-none c.args.kind) c.args.stretches.now c.requires.stretches)
