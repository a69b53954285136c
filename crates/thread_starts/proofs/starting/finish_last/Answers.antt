use Rattle.std.proofs.Common.{refl, subst}
use Rattle.thread_lines.specs.Working.{Works}
use Rattle.thread_starts.specs.Crews.{Each}
use Rattle.thread_starts.proofs.CrewLemmas.{each_front, joins_last, ok_map}
use Rattle.thread_starts.proofs.starting.finish_last.Goals as goal

pub finish-requires-clause-works : goal.finish-requires-clause-works
finish-requires-clause-works g c =
    (each_front (Works g.R.Raw.out g.R.Raw.faults g.R.Raw.got g.R.Raw.passed c.args.pools.now c.args.board.now.table.shared.table_id c.args.lines.now) c.pop.new.self.items c.in-Some.worker
    (subst (Each (Works g.R.Raw.out g.R.Raw.faults g.R.Raw.got g.R.Raw.passed c.args.pools.now c.args.board.now.table.shared.table_id c.args.lines.now)) c.in-Some.ensures.items c.requires.crew.stayed)).1

pub finish-requires-clause-crew : goal.finish-requires-clause-crew
finish-requires-clause-crew g c = record {
  done = c.requires.crew.done;
  stayed = (each_front (Works g.R.Raw.out g.R.Raw.faults g.R.Raw.got g.R.Raw.passed c.args.pools.now c.args.board.now.table.shared.table_id c.args.lines.now) c.pop.new.self.items c.in-Some.worker
      (subst (Each (Works g.R.Raw.out g.R.Raw.faults g.R.Raw.got g.R.Raw.passed c.args.pools.now c.args.board.now.table.shared.table_id c.args.lines.now)) c.in-Some.ensures.items c.requires.crew.stayed)).0;
}

pub returns-in-Some : goal.returns-in-Some
returns-in-Some g c = ok_map c.finish.result
    (λ all joins. joins_last g.R.Raw.out g.R.Raw.faults g.R.Raw.got g.R.Raw.passed c.args.pools.now c.args.board.now.table.shared.table_id c.args.lines.now c.args.crew (record { done = c.args.crew.done; stayed = c.pop.new.self }) all
    c.in-Some.worker c.in-Some.ensures.items refl joins) c.finish.ensures
