use Rattle.std.proofs.Common.{rules, length, sym, ap, subst, arith}
use Rattle.thread_runs.proofs.QuietLemmas.{AreLeft, all_left, fewer_left, last_left, lengths, none_left, popped}
use Rattle.thread_runs.proofs.QuietLemmas.{rest_lengths}
use Rattle.thread_starts.proofs.CrewLemmas.{length_more}
use Rattle.thread_runs.proofs.SlotLemmas.{no_items}
use Rattle.thread_runs.proofs.gathering.quiet_all.Goals as goal

pub loop-column-init : goal.loop-column-init
loop-column-init g c = all_left g.R.Raw.out g.R.Raw.faults g.R.Raw.got g.R.Raw.passed c.args.tables.items
    c.args.columns.items c.args.rests.items _ (search rules) c.requires.rests c.requires.columns

pub quieted-requires-clause-rest : goal.quieted-requires-clause-rest
quieted-requires-clause-rest g c =
    let v = c.loop-column.invariant in
    let still_is = c.in-Some.ensures.items in
    let longer = ap length still_is in
    let more = length_more c.pop.new.self.items c.in-Some.column in
    let same = lengths g.R.Raw.out g.R.Raw.faults g.R.Raw.got g.R.Raw.passed c.loop-column.tables.items
    c.loop-column.columns.items v.are in
    let rest_same = rest_lengths c.loop-column.tables.items c.loop-column.rests.items v.has in
    let left_is = popped c.loop-column.tables.items c.pop-in-Some.new.self.items c.pop-in-Some.result
    c.flatten-table.result
    c.pop-in-Some.ensures.items (c.pop-in-Some.ensures.variant.1 (omega (arith, c.loop-column.tables.ok.0)))
    c.flatten-table.ensures in
    let rests_is = popped c.loop-column.rests.items c.pop-in-Some-2.new.self.items c.pop-in-Some-2.result
    c.flatten-rest.result c.pop-in-Some-2.ensures.items
    (c.pop-in-Some-2.ensures.variant.1 (omega (arith, c.loop-column.rests.ok.0))) c.flatten-rest.ensures in
    let last = last_left g.R.Raw.out g.R.Raw.faults g.R.Raw.got g.R.Raw.passed c.loop-column.tables.items
    c.pop-in-Some.new.self.items c.loop-column.rests.items c.pop-in-Some-2.new.self.items c.loop-column.columns.items
    c.pop.new.self.items c.flatten-table.result c.flatten-rest.result c.in-Some.column v.has v.are left_is rests_is
    still_is in
    last.rest_is

pub quieted-requires-clause-heaps : goal.quieted-requires-clause-heaps
quieted-requires-clause-heaps g c =
    let v = c.loop-column.invariant in
    let still_is = c.in-Some.ensures.items in
    let longer = ap length still_is in
    let more = length_more c.pop.new.self.items c.in-Some.column in
    let same = lengths g.R.Raw.out g.R.Raw.faults g.R.Raw.got g.R.Raw.passed c.loop-column.tables.items
    c.loop-column.columns.items v.are in
    let rest_same = rest_lengths c.loop-column.tables.items c.loop-column.rests.items v.has in
    let left_is = popped c.loop-column.tables.items c.pop-in-Some.new.self.items c.pop-in-Some.result
    c.flatten-table.result
    c.pop-in-Some.ensures.items (c.pop-in-Some.ensures.variant.1 (omega (arith, c.loop-column.tables.ok.0)))
    c.flatten-table.ensures in
    let rests_is = popped c.loop-column.rests.items c.pop-in-Some-2.new.self.items c.pop-in-Some-2.result
    c.flatten-rest.result c.pop-in-Some-2.ensures.items
    (c.pop-in-Some-2.ensures.variant.1 (omega (arith, c.loop-column.rests.ok.0))) c.flatten-rest.ensures in
    let last = last_left g.R.Raw.out g.R.Raw.faults g.R.Raw.got g.R.Raw.passed c.loop-column.tables.items
    c.pop-in-Some.new.self.items c.loop-column.rests.items c.pop-in-Some-2.new.self.items c.loop-column.columns.items
    c.pop.new.self.items c.flatten-table.result c.flatten-rest.result c.in-Some.column v.has v.are left_is rests_is
    still_is in
    last.column_is

pub loop-column-preserved : goal.loop-column-preserved
loop-column-preserved g c =
    let v = c.loop-column.invariant in
    let still_is = c.in-Some.ensures.items in
    let longer = ap length still_is in
    let more = length_more c.pop.new.self.items c.in-Some.column in
    let same = lengths g.R.Raw.out g.R.Raw.faults g.R.Raw.got g.R.Raw.passed c.loop-column.tables.items
    c.loop-column.columns.items v.are in
    let rest_same = rest_lengths c.loop-column.tables.items c.loop-column.rests.items v.has in
    let left_is = popped c.loop-column.tables.items c.pop-in-Some.new.self.items c.pop-in-Some.result
    c.flatten-table.result
    c.pop-in-Some.ensures.items (c.pop-in-Some.ensures.variant.1 (omega (arith, c.loop-column.tables.ok.0)))
    c.flatten-table.ensures in
    let rests_is = popped c.loop-column.rests.items c.pop-in-Some-2.new.self.items c.pop-in-Some-2.result
    c.flatten-rest.result c.pop-in-Some-2.ensures.items
    (c.pop-in-Some-2.ensures.variant.1 (omega (arith, c.loop-column.rests.ok.0))) c.flatten-rest.ensures in
    let last = last_left g.R.Raw.out g.R.Raw.faults g.R.Raw.got g.R.Raw.passed c.loop-column.tables.items
    c.pop-in-Some.new.self.items c.loop-column.rests.items c.pop-in-Some-2.new.self.items c.loop-column.columns.items
    c.pop.new.self.items c.flatten-table.result c.flatten-rest.result c.in-Some.column v.has v.are left_is rests_is
    still_is in
    subst (λ xs. AreLeft g.R.Raw.out g.R.Raw.faults g.R.Raw.got g.R.Raw.passed c.args.tables.items c.args.columns.items
    c.pop-in-Some.new.self.items c.pop-in-Some-2.new.self.items c.pop.new.self.items xs)
    (sym c.in_ok-insert.ensures.items)
    (fewer_left g.R.Raw.out g.R.Raw.faults g.R.Raw.got g.R.Raw.passed c.args.tables.items c.args.columns.items
    c.loop-column.tables.items c.pop-in-Some.new.self.items c.loop-column.rests.items c.pop-in-Some-2.new.self.items
    c.loop-column.columns.items c.pop.new.self.items c.loop-column.all.items c.flatten-table.result
    c.flatten-rest.result
    c.in-Some.column c.quieted.result v left_is still_is last c.quieted.ensures)

pub returns : goal.returns
returns g c = none_left g.R.Raw.out g.R.Raw.faults g.R.Raw.got g.R.Raw.passed c.args.tables.items c.args.columns.items
    c.loop-column.tables.items c.loop-column.rests.items c.loop-column.columns.items c.loop-column.all.items
    c.loop-column.invariant (no_items c.loop-column.columns.items
    (let n = c.in_default.ensures.cases.0 in omega (arith, c.loop-column.columns.ok.0)))
