use Rattle.std.proofs.Common.{sym, ◌∙◌, arith, rules}
use Rattle.heap_slabs.proofs.Searches.{found_among, passed_list, past_lists}
use Rattle.heap_slabs.proofs.slabs.first_among.Goals as goal

pub returns-in-Some : goal.returns-in-Some
returns-in-Some c =
    sym (c.loop-list.invariant ∙ found_among c.args.wanted c.args.records.now c.args.classes.now c.loop-list.list
    c.in-Some.kept (omega arith) (sym c.first_in.ensures ∙ c.in-Some.is))

pub loop-list-preserved : goal.loop-list-preserved
loop-list-preserved c =
    c.loop-list.invariant ∙ passed_list c.args.wanted c.args.records.now c.args.classes.now c.loop-list.list (omega
    arith) (sym c.first_in.ensures ∙ search rules)

pub returns : goal.returns
returns c =
    sym (c.loop-list.invariant ∙ past_lists c.args.wanted c.args.records.now c.args.classes.now c.loop-list.list
    (omega arith))
