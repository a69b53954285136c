use Rattle.std.proofs.Common.{rules, ◌∙◌, ap, true, refl, subst, sym}
use Rattle.pool_types.specs.declared.values.Turn.{Turn}
use Rattle.pool_api.specs.Heaps.{is_going}
use Rattle.pool_api.proofs.Calling.{begun_idle, going_begun, heap_on, heap_done}
use Rattle.pool_api.proofs.calls.call.Goals as goal

pub loop-init : goal.loop-init
loop-init g c = let b = c.begin.ensures in let h = c.requires.heap in record {
  can = search rules;
  finite = search rules;
  idle = begun_idle c.args.heap.now.local c.args.request c.in_ok-begin.field-0
      (sym (ap (λ z. z.1) b.begun) ∙ c.in_ok-begin.was);
  heap = record {
    same_table = ap (λ z. z.table_id) b.place ∙ h.same_table;
    same_plan = b.plan ∙ h.same_plan;
    driven = b.driven;
  };
  going = going_begun c.args.heap.now c.begin.new.self c.args.request c.begin.new.self.local b.place b.plan refl
      (ap (λ z. z.0) b.begun);
}

pub act-requires-clause-table : goal.act-requires-clause-table
act-requires-clause-table g c = c.loop.invariant.heap.same_table

pub act-requires-clause-plan : goal.act-requires-clause-plan
act-requires-clause-plan g c = c.loop.invariant.heap.same_plan

pub act-requires-clause-driven : goal.act-requires-clause-driven
act-requires-clause-driven g c = c.loop.invariant.heap.driven

pub returns-in-Done-clause-heap : goal.returns-in-Done-clause-heap
returns-in-Done-clause-heap g c = let a = c.act.ensures in let h = c.loop.invariant.heap in record {
  same_table = a.table ∙ h.same_table;
  same_plan = a.plan ∙ h.same_plan;
  driven = a.driven;
}

pub returns-in-Done-clause-called : goal.returns-in-Done-clause-called
returns-in-Done-clause-called g c = heap_done c.args.heap.now c.loop.heap c.act.new.self c.args.request c.in-Done.answer
    c.act.result c.act.ensures.plan c.act.ensures.row c.in-Done.is c.loop.invariant.idle c.loop.invariant.going

pub loop-preserved-in-Waits : goal.loop-preserved-in-Waits
loop-preserved-in-Waits g c = let a = c.act.ensures in let h = c.loop.invariant.heap in record {
  can = search rules;
  finite = search rules;
  idle = c.loop.invariant.idle;
  heap = record {
    same_table = a.table ∙ h.same_table;
    same_plan = a.plan ∙ h.same_plan;
    driven = a.driven;
  };
  going = heap_on c.loop.heap c.act.new.self _ _ c.act.result a.plan a.row (ap is_going c.in-Waits.is)
      c.loop.invariant.going;
}

pub loop-preserved-in-Stepped : goal.loop-preserved-in-Stepped
loop-preserved-in-Stepped g c = let a = c.act.ensures in let h = c.loop.invariant.heap in record {
  can = search rules;
  finite = search rules;
  idle = c.loop.invariant.idle;
  heap = record {
    same_table = a.table ∙ h.same_table;
    same_plan = a.plan ∙ h.same_plan;
    driven = a.driven;
  };
  going = heap_on c.loop.heap c.act.new.self _ _ c.act.result a.plan a.row (ap is_going c.in-Stepped.is)
      c.loop.invariant.going;
}

pub loop-preserved : goal.loop-preserved
loop-preserved g c = let a = c.act.ensures in let h = c.loop.invariant.heap in record {
  can = search rules;
  finite = search rules;
  idle = c.loop.invariant.idle;
  heap = record {
    same_table = a.table ∙ h.same_table;
    same_plan = a.plan ∙ h.same_plan;
    driven = a.driven;
  };
  going = heap_on c.loop.heap c.act.new.self _ _ c.act.result a.plan a.row (ap is_going c.in-Idle.is)
      c.loop.invariant.going;
}
