use Rattle.std.proofs.Common.{ap, ◌∙◌, subst}
use denote.RattleType.{RattleType}
use mir.Syntax.{Sym, named}
use mathlib.Core.List.{List, [], ◌∷◌}
use denote.Struct.Declared.{shape}
use denote.Struct.Field.{shr_ref_field, shr_slice_field}
use Rattle.std.specs.contracts.option.Option as option_row
use Rattle.trace_reader.specs.contracts.acts.TraceLine as line_row
use denote.Struct.Tuple.{TupleAt, type_at}
use denote.Param.{param}
use denote.Param.Send.{AllSend, IsSend, IsSync, sendable, param_send, shr_slice_send, struct_send, recorded_send}
use Rattle.std.specs.contracts.sync.atomic.AtomicBool as flag_row
use Rattle.name_board.specs.contracts.board.Board as board_row
use Rattle.pool_api.specs.contracts.tables.Table as table_row
use Rattle.thread_lines.specs.contracts.worker.Worker as worker_row
use Rattle.thread_starts.proofs.starting.+fn-run_crew-scope+run_crew.Lts-fn-run_crew-scope as lts
use Rattle.std.proofs.option.Option.TheSendSync as option
use Rattle.std.proofs.sync.atomic.AtomicBool.TheSendSync as flag
use Rattle.trace_reader.proofs.acts.TraceLine.TheSendSync as line
use Rattle.name_board.proofs.board.Board.TheSendSync as board
use Rattle.pool_api.proofs.tables.Table.TheSendSync as table
use Rattle.thread_lines.proofs.worker.Worker.TheSendSync as worker
use Rattle.thread_lines.specs.Working.{Works}
use Rattle.thread_starts.specs.Crews.{threads_of}
use Rattle.thread_starts.proofs.CrewLemmas.{ok_map, joins_more, joins_stayed, crew_stays}
use Rattle.thread_starts.proofs.starting.+fn-run_crew-scope+run_crew.Goals as goal

-- what a closure captures may go to another thread where each of it may; the list of rows has to be written, since no search
-- finds it
closure : (ν : Sym) (Ts : List RattleType) → AllSend (shape (type_at ν Ts)).fields → IsSend (TupleAt ν Ts)
closure ν Ts all = recorded_send _ _ _ (type_at ν Ts).to_one (struct_send (shape (type_at ν Ts)) all)

pub scope-spawn_with-requires-send-F : goal.scope-spawn_with-requires-send-F
scope-spawn_with-requires-send-F g t c κs within =
    let rt = c.requires.0 in
    let gate = c.requires.1 in
    let moves = c.requires.2 in
    let shares = c.requires.3 in
    let types : List RattleType =
    (shr_ref_field (record { mir = named 6; lft = κs.1.1.1.1.1.1.0 }) (param 1 g.row.W) tt).row
    ∷ (shr_slice_field (record { mir = named 7; lft = κs.1.1.1.1.1.1.1.0 })
    (option_row.the_row (table_row.the_row (param 0 g.row.R) g.R.Raw)) tt).row
    ∷ (shr_ref_field (record { mir = named 8; lft = κs.1.1.1.1.1.1.1.1.0 }) board_row.the_row tt).row
    ∷ (shr_slice_field (record { mir = named 9; lft = κs.1.1.1.1.1.1.1.1.1.0 }) line_row.the_row tt).row
    ∷ (shr_ref_field (record { mir = named 10; lft = κs.1.1.1.1.1.1.1.1.1.1.0 }) (param 2 g.row.G) tt).row
    ∷ (shr_ref_field (record { mir = named 11; lft = κs.1.1.1.1.1.1.1.1.1.1.1.0 }) flag_row.the_row tt).row
    ∷ worker_row.the_row (param 0 g.row.R) g.R.Raw ∷ [] in
    let shared : IsSync (table_row.the_row (param 0 g.row.R) g.R.Raw) = search (moves, shares, table.the_sync, sendable) in
    let slot : IsSync (option_row.the_row (table_row.the_row (param 0 g.row.R) g.R.Raw)) = option.the_sync _ shared in
    let all : AllSend (shape (type_at [] types)).fields = (
      search (rt, sendable),
      (
        shr_slice_send _ _ _ slot,
        (
          search (board.the_sync, sendable),
          (
            search (line.the_sync, sendable),
            (
              search (gate, sendable),
              (
                search (flag.the_sync, sendable),
                (
                  search (moves, shares, worker.the_send, sendable),
                  tt,
                ),
              ),
            ),
          ),
        ),
      ),
    ) in
    let s = closure [] types all in
    param_send 2 (lts.arg-0-2 g.row.R g.row.W g.row.G g.R.laws g.W.laws g.G.laws g.R.Raw g.R.Raw-dict
    g.W.Threads g.W.Threads-dict g.W.Wait g.W.Wait-dict g.G.Gate g.G.Gate-dict g.R.Destruct-dict κs)
    (record { owned = λ x vs. s.owned x vs; leaving = λ k x w. s.leaving k x w })

pub scope-run_crew-requires-in-Err-clause-crew : goal.scope-run_crew-requires-in-Err-clause-crew
scope-run_crew-requires-in-Err-clause-crew g t c κs within = let s = c.in_ok-crew-in-Err.ensures in
    crew_stays g.R.Raw.out g.R.Raw.faults g.R.Raw.got g.R.Raw.passed c.captures.pools.now c.captures.board.now.table.shared.table_id c.captures.lines.now c.captures.crew c.in_ok-crew-in-Err.crew c.spawn_with-in-Err.result c.requires.7
    (subst (λ v. Works g.R.Raw.out g.R.Raw.faults g.R.Raw.got g.R.Raw.passed v.1.now v.2.now.table.shared.table_id v.3.now c.spawn_with-in-Err.result)
    c.in-Err.ensures.err c.spawn_with-in-Err.ensures.0) s.0 s.1

pub scope-returns-in_ok-crew-in-Ok : goal.scope-returns-in_ok-crew-in-Ok
scope-returns-in_ok-crew-in-Ok g t c = ok_map c.finish.result
    (λ all joins. joins_more g.R.Raw.out g.R.Raw.faults g.R.Raw.got g.R.Raw.passed c.captures.pools.now c.captures.board.now.table.shared.table_id c.captures.lines.now (threads_of c.captures.rest.items) c.captures.crew c.in_ok-crew-in-Ok.crew all
    c.join.result.thread c.captures.worker.thread (c.join.ensures.1 ∙ ap (λ p. p.thread) c.in-Ok.ensures.ok)
    c.in_ok-crew-in-Ok.ensures joins) c.finish.ensures

pub scope-returns-in_ok-crew-in-Err-2 : goal.scope-returns-in_ok-crew-in-Err-2
scope-returns-in_ok-crew-in-Err-2 g t c = let s = c.in_ok-crew-in-Err.ensures in ok_map c.finish_last.result
    (λ all joins. joins_stayed g.R.Raw.out g.R.Raw.faults g.R.Raw.got g.R.Raw.passed c.captures.pools.now c.captures.board.now.table.shared.table_id c.captures.lines.now (threads_of c.captures.rest.items) c.captures.crew c.in_ok-crew-in-Err.crew
    c.in_ok-crew-in-Err-2.crew all c.spawn_with-in-Err.result c.captures.worker.thread
    (c.spawn_with-in-Err.ensures.1 ∙ ap (λ v. v.6.thread) c.in-Err.ensures.err)
    s.0 s.1 c.in_ok-crew-in-Err-2.ensures joins) c.finish_last.ensures
