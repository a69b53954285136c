use Rattle.std.proofs.Common.{◌∙◌, sym, ap, subst, arith}
use Rattle.line_runs.specs.Turning.{out_of, faults_of}
use Rattle.pool_types.specs.Script.{Gets, Puts}
use Rattle.quiet_pool.proofs.Lists.{back_in}
use Rattle.thread_calls.specs.Script.{IsScript, owners_of}
use Rattle.thread_runs.proofs.RangeLemmas.{lines_are_within}
use Rattle.thread_runs.proofs.ServeLemmas.{all_said, columns_by, few_names, is_script, served_by}
use Rattle.thread_runs.proofs.runs.serve_threads.Goals as goal

pub make-requires : goal.make-requires
make-requires g c = few_names c.args.trace.now c.in_ok-names.names c.requires.read
    (c.in_ok-names.ensures.owners ∙ ap owners_of c.lines-lines.ensures)

pub made_pools-requires : goal.made_pools-requires
made_pools-requires g c = (lines_are_within c.args.trace.now c.requires.read).few

pub run_lines-requires-clause-script : goal.run_lines-requires-clause-script
run_lines-requires-clause-script g c κs within =
    let script = is_script c.args.trace.now c.in_ok-names.names c.requires.read
    (c.in_ok-names.ensures.owners ∙ ap owners_of c.lines-lines.ensures) in
    subst (λ ls. IsScript c.in_ok-board.board.table.shared.key ls) (sym c.lines-lines.ensures)
    (subst (λ ns. IsScript ns c.args.trace.now.lines.items) (sym c.in_ok-board.ensures.names) script)

pub quiet_all-requires-clause-columns : goal.quiet_all-requires-clause-columns
quiet_all-requires-clause-columns g c =
    let made = c.in_ok-tables.field-0 in
    let back = back_in made.columns.len made.columns.items c.run_lines.new.columns
    (let n = c.run_lines.auto.columns in let l = c.as_mut_slice.ensures.len in omega arith) in
    columns_by out_of faults_of Gets Puts c.args.trace.now made.tables.items c.as_slice.result.now
    c.run_lines.new.columns _ _
    c.as_slice.ensures.value back c.in_ok-tables.ensures.made c.in_ok-said.ensures.columns c.len-threads.ensures.value

pub returns-clause-served : goal.returns-clause-served
returns-clause-served g c =
    let made = c.in_ok-tables.field-0 in
    let back = back_in made.columns.len made.columns.items c.run_lines.new.columns
    (let n = c.run_lines.auto.columns in let l = c.as_mut_slice.ensures.len in omega arith) in
    let so = c.settle.ensures.so in
    served_by out_of faults_of Gets Puts c.args.trace.now made.tables.items c.as_slice.result.now
    c.lines-lines.result.now
    c.run_lines.new.columns _ c.in_ok-said.said.items c.in_ok-pools.pools.items so.0 c.run_lines.new.pens.me.0.known _
    c.as_slice.ensures.value c.lines-lines.ensures back c.in_ok-tables.ensures.made c.in_ok-said.ensures.columns
    c.in_ok-pools.ensures c.in_ok-said.ensures.rows c.len-threads.ensures.value so.1

pub returns-clause-said : goal.returns-clause-said
returns-clause-said g c = all_said c.args.trace.now c.as_slice.result.now c.lines-lines.result.now
    c.run_lines.new.columns
    c.in_ok-said.said.items c.run_lines.new.pens.me.0.known _ c.lines-lines.ensures c.in_ok-said.ensures.rows
    c.len-threads.ensures.value
