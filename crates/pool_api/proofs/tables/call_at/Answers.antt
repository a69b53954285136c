use Rattle.std.proofs.Common.{rules, ◌∙◌, ap, true, refl, subst, sym}
use Rattle.pool_types.specs.declared.values.Turn.{Turn}
use Rattle.atomic_driver.specs.Rule.{key_by, IsTable}
use Rattle.pool_api.specs.Heaps.{is_going}
use Rattle.pool_api.specs.Tables.{Stand}
use Rattle.pool_api.proofs.Calling.{begun_idle, going_begun, heap_on, heap_done}
use Rattle.pool_api.proofs.tables.call_at.Goals as goal

pub loop-init : goal.loop-init
loop-init g c = let b = c.begin.ensures in let h = c.requires.heap in record {
  can = search rules;
  finite = search rules;
  idle = begun_idle c.args.heap.now.local c.args.request c.in_ok-begin.field-0
      (sym (ap (λ z. z.1) b.begun) ∙ c.in_ok-begin.was);
  heap = record {
    same_table = ap (λ z. z.table_id) b.place ∙ h.same_table;
    same_plan = b.plan ∙ h.same_plan;
    sizes = h.sizes;
    driven = b.driven;
  };
  going = going_begun c.args.heap.now c.begin.new.self c.args.request c.begin.new.self.local b.place b.plan refl
      (ap (λ z. z.0) b.begun);
}

pub turn_at-requires-clause-table : goal.turn_at-requires-clause-table
turn_at-requires-clause-table g c = c.loop.invariant.heap.same_table ∙ sym (ap (λ (s : Stand). s.table) c.table.view_is)

pub turn_at-requires-clause-sizes : goal.turn_at-requires-clause-sizes
turn_at-requires-clause-sizes g c = let h = c.loop.invariant.heap in
    subst (λ t. IsTable t c.loop.heap.key) (sym (ap (λ (s : Stand). s.table) c.table.view_is))
    (subst (IsTable c.args.table.now.table) (sym (c.loop.heap.keyed ∙ ap key_by h.same_plan)) h.sizes)

pub turn_at-requires-clause-plan : goal.turn_at-requires-clause-plan
turn_at-requires-clause-plan g c = ap (λ (s : Stand). s.plan) c.table.view_is ∙ sym c.loop.invariant.heap.same_plan

pub turn_at-requires-clause-driven : goal.turn_at-requires-clause-driven
turn_at-requires-clause-driven g c = c.loop.invariant.heap.driven

pub returns-in-Done-clause-heap : goal.returns-in-Done-clause-heap
returns-in-Done-clause-heap g c = let a = c.turn_at.ensures in let h = c.loop.invariant.heap in record {
  same_table = a.table ∙ h.same_table;
  same_plan = a.plan ∙ h.same_plan;
  sizes = h.sizes;
  driven = a.driven;
}

pub returns-in-Done-clause-called : goal.returns-in-Done-clause-called
returns-in-Done-clause-called g c = heap_done c.args.heap.now c.loop.heap c.turn_at.new.self c.args.request c.in-Done.answer
    c.turn_at.result c.turn_at.ensures.plan c.turn_at.ensures.row c.in-Done.is c.loop.invariant.idle c.loop.invariant.going

pub loop-preserved-in-Waits : goal.loop-preserved-in-Waits
loop-preserved-in-Waits g c = let a = c.turn_at.ensures in let h = c.loop.invariant.heap in record {
  can = search rules;
  finite = search rules;
  idle = c.loop.invariant.idle;
  heap = record {
    same_table = a.table ∙ h.same_table;
    same_plan = a.plan ∙ h.same_plan;
    sizes = h.sizes;
    driven = a.driven;
  };
  going = heap_on c.loop.heap c.turn_at.new.self _ _ c.turn_at.result a.plan a.row (ap is_going c.in-Waits.is)
      c.loop.invariant.going;
}

pub loop-preserved-in-Stepped : goal.loop-preserved-in-Stepped
loop-preserved-in-Stepped g c = let a = c.turn_at.ensures in let h = c.loop.invariant.heap in record {
  can = search rules;
  finite = search rules;
  idle = c.loop.invariant.idle;
  heap = record {
    same_table = a.table ∙ h.same_table;
    same_plan = a.plan ∙ h.same_plan;
    sizes = h.sizes;
    driven = a.driven;
  };
  going = heap_on c.loop.heap c.turn_at.new.self _ _ c.turn_at.result a.plan a.row (ap is_going c.in-Stepped.is)
      c.loop.invariant.going;
}

pub loop-preserved : goal.loop-preserved
loop-preserved g c = let a = c.turn_at.ensures in let h = c.loop.invariant.heap in record {
  can = search rules;
  finite = search rules;
  idle = c.loop.invariant.idle;
  heap = record {
    same_table = a.table ∙ h.same_table;
    same_plan = a.plan ∙ h.same_plan;
    sizes = h.sizes;
    driven = a.driven;
  };
  going = heap_on c.loop.heap c.turn_at.new.self _ _ c.turn_at.result a.plan a.row (ap is_going c.in-Idle.is)
      c.loop.invariant.going;
}
