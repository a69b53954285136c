use Rattle.std.proofs.Common.{below_more, arith, sym, ap, ◌∙◌}
use Rattle.std.proofs.lemmas.List.{get_or_default}
use Rattle.std.proofs.lemmas.List.Elements.{Contains-get_or}
use Rattle.pool_types.specs.declared.rows.Row.TheVariants.{Nothing}
use Rattle.pool_types.specs.Rows.{all_rows, row_name}
use Rattle.pool_types.proofs.CallerLemmas.{each_row_is_listed}
use Rattle.trace_reader.proofs.keywords.read_row.Goals as goal

pub loop-row-preserved : goal.loop-row-preserved
loop-row-preserved c = below_more _ _ c.loop-row.invariant
    (λ same. c.is_same.ensures.no c.if-is_same.false (c.name.ensures ∙ ap row_name (get_or_default all_rows c.loop-row.row-index _ Nothing c.loop-row-test.true) ∙ sym same))

pub returns-then-is_same : goal.returns-then-is_same
returns-then-is_same c = (
  sym (c.is_same.ensures.yes c.if-is_same.true) ∙ c.name.ensures,
  (each_row_is_listed _).1 (Contains-get_or all_rows c.loop-row.row-index _ c.loop-row-test.true),
)

pub returns : goal.returns
returns c = λ row named is.
    let there = (each_row_is_listed row).0 named in
    c.loop-row.invariant there.0 (omega (arith, there.1, c.loop-row-test.false)) (is ∙ ap row_name (sym there.2 ∙ get_or_default all_rows there.0 row Nothing there.1))
