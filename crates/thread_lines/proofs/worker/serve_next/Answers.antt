use Rattle.std.proofs.Common.{sym, ◌∙◌}
use Rattle.thread_lines.proofs.WorkLemmas.{asked_has, may_bind, has_room, speaks_line, passes_line}
use Rattle.thread_lines.proofs.worker.serve_next.Goals as goal

pub make_call-requires-clause-asked : goal.make_call-requires-clause-asked
make_call-requires-clause-asked g c = let w = c.args.worker.now in
    asked_has c.args.board.now.table.shared.key c.args.lines.now w.thread w.next _ c.in-Some.own c.requires.script
    c.requires.some (sym c.own_call.ensures ∙ c.in-Some.is)

pub make_call-requires-clause-bound : goal.make_call-requires-clause-bound
make_call-requires-clause-bound g c = let w = c.args.worker.now in
    may_bind c.args.board.now.table.shared.key c.args.lines.now w.thread w.next _ c.in-Some.own c.requires.script
    c.requires.some (sym c.own_call.ensures ∙ c.in-Some.is) c.requires.works.from w.pen.me.0.cursors
    c.requires.works.cursors c.requires.works.low

pub make_call-requires-clause-room : goal.make_call-requires-clause-room
make_call-requires-clause-room g c =
    has_room g.R.Raw.out g.R.Raw.faults g.R.Raw.got g.R.Raw.passed c.args.pools.now c.args.board.now.table.shared.table_id
    c.args.lines.now _ c.args.worker.now c.in-Some.own c.requires.works c.requires.some
    (sym c.own_call.ensures ∙ c.in-Some.is)

pub returns-in-Some-clause-works : goal.returns-in-Some-clause-works
returns-in-Some-clause-works g c = let m = c.make_call.ensures in
    speaks_line g.R.Raw.out g.R.Raw.faults g.R.Raw.got g.R.Raw.passed c.args.pools.now c.args.board.now.table.shared.table_id
    c.args.lines.now _ c.args.board.now.table.shared.key c.args.worker.now c.make_call.new.worker c.in-Some.own
    c.requires.script c.requires.works c.requires.some (sym c.own_call.ensures ∙ c.in-Some.is) m.said m.same.0 m.same.1 m.heaps

pub returns-in-None-clause-works : goal.returns-in-None-clause-works
returns-in-None-clause-works g c =
    passes_line g.R.Raw.out g.R.Raw.faults g.R.Raw.got g.R.Raw.passed c.args.pools.now c.args.board.now.table.shared.table_id
    c.args.lines.now _ c.args.worker.now c.requires.works c.requires.some (sym c.own_call.ensures ∙ c.in-None.is)
