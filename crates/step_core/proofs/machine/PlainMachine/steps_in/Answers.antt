-- The step is the one that the seat's local names.
use Rattle.std.proofs.Common.{rules, ◌≡◌, subst, ap, ◌∙◌, ◌++◌, List, length, take, drop, Some, None}
use Rattle.std.specs.Prelude.{slice_get}
use Rattle.step_local.specs.declared.frames.Local.{Local}
use Rattle.step_parts.specs.Tallies.{totals_after}
use Rattle.step_core.specs.Machines.{Machine}
use Rattle.step_core.specs.Steps.{step_of}
use Rattle.step_core.specs.Turns.{StepsIn}
use Rattle.step_core.specs.declared.steps.Step.{Step}
use Rattle.step_core.proofs.StepsAt.{there_is, there_is_none, name_there, steps_there, enters_there, rests_there, told_in_place, turn_in_place, moves_there, same_step, step_by, whole}
use Rattle.step_core.proofs.machine.PlainMachine.steps_in.Goals as goal

pub returns-in_default-clause-steps : goal.returns-in_default-clause-steps
returns-in_default-clause-steps g c =
    rests_there g.R.Raw.out g.R.Raw.faults g.R.Raw.got g.R.Raw.passed c.args.enters c.args.self.now c.args.seat
    c.rests.result c.rests.new.self
    (subst (λ (o : Machine g.row.R.Denot). slice_get o.locals c.args.seat ≡ None) c.self.view_is
    (there_is_none c.self.inside.locals.items c.deref.result.now c.from-index.result c.args.seat c.deref.ensures.value
    c.from-index.ensures c.in_default.ensures.lookup.3)) c.rests.ensures.turn (search rules)

pub returns-clause-steps : goal.returns-clause-steps
returns-clause-steps g c =
    let there : slice_get c.self.inside.locals.items c.args.seat ≡ Some c.in-Some.local.now =
    there_is c.self.inside.locals.items c.deref.result.now c.from-index.result c.args.seat c.in-Some.local.now
    c.deref.ensures.value c.from-index.ensures c.in-Some.ensures.lookup.3.0 c.in-Some.ensures.lookup.1 in
    let old : Machine g.row.R.Denot = whole c.self.inside.depot c.self.inside.locals.items c.self.inside.journal
    c.self.inside.totals c.self.inside.made c.self.inside.steps c.self.inside.resetting in
    let locals : List Local = take c.self.inside.locals.len
    (c.tell-turn.new.locals ++ drop (length c.tell-turn.new.locals) c.self.inside.locals.items) in
    let step : Step = step_by c.next-action.result c.gives_at-gives.result c.row_of-row.result in
    let step_is : step ≡ step_of c.in-Some.local.now =
    same_step _ _ _ _ _ _ c.next-action.ensures c.gives_at-gives.ensures c.row_of-row.ensures in
    subst (λ (o : Machine g.row.R.Denot). StepsIn g.R.Raw.out g.R.Raw.faults g.R.Raw.got g.R.Raw.passed c.args.enters o
    c.args.seat c.tell-turn.result (whole c.step-seen.new.self locals c.enter.new.journal c.add_parts_to.new.totals
    c.made-self-inside.result c.name_of-name.result.step c.self.inside.resetting)) c.self.view_is
    (enters_there g.R.Raw.out g.R.Raw.faults g.R.Raw.got g.R.Raw.passed c.args.enters old c.args.seat c.tell-turn.result
    c.name_of-name.result c.step-seen.new.self locals c.record.new.self c.enter.new.journal c.add_parts_to.new.totals
    c.made-self-inside.result c.name_of-name.result.step
    (steps_there g.R.Raw.out g.R.Raw.faults g.R.Raw.got g.R.Raw.passed old c.args.seat c.in-Some.local.now
    step c.step-seen.result c.step-seen.new.self locals c.tell-turn.result c.name_of-name.result
    c.looks_at_bin.result c.find_with.new.self c.finds-found.result c.record.new.self c.add_parts_to.new.totals
    c.made-self-inside.result there step_is c.step-seen.ensures
    (told_in_place c.self.inside.locals.items c.as_mut_slice.result.now c.tell-turn.new.locals c.self.inside.locals.len
    c.from-index.result c.args.seat c.step-seen.result c.self.inside.locals.ok.0 c.as_mut_slice.ensures.value
    c.from-index.ensures c.tell-turn.auto.locals c.tell-turn.ensures.locals)
    (turn_in_place c.self.inside.locals.items c.as_mut_slice.result.now c.from-index.result c.args.seat c.step-seen.result
    c.tell-turn.result c.as_mut_slice.ensures.value c.from-index.ensures c.tell-turn.ensures.turn)
    c.name_of-name.ensures c.finds-found.ensures c.looks_at_bin.ensures
    (moves_there c.self.inside.depot.key c.key.result.now c.self.inside.depot.words c.words.result.now
    c.self.inside.depot.desk.records c.regions.result.now c.in-Some.local.now c.finds-found.result c.find_with.new.self
    c.key.ensures c.words.ensures c.regions.ensures c.in_ok-find_with.ensures)
    c.in_ok-record.ensures.ok
    (c.add_parts_to.ensures ∙ ap (totals_after c.self.inside.totals) c.parts.ensures)
    c.made-self-inside.ensures)
    (name_there c.self.inside.locals.items c.args.seat c.self.inside.steps c.in-Some.local.now step c.name_of-name.result
    there step_is c.name_of-name.ensures)
    c.enter.ensures)
