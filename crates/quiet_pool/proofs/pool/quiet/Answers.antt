use Rattle.std.proofs.Common.{◌∷◌, [], length, ap, sym, ◌∙◌, subst, None}
use Rattle.std.proofs.lemmas.List.{length-map}
use Rattle.atomic_driver.specs.declared.seat.DriverSeat.{DriverSeat}
use Rattle.quiet_pool.proofs.Lists.{back_in}
use Rattle.atomic_driver.specs.Rule.{key_by, IsMade}
use Rattle.step_runs.specs.Callbacks.{office_of}
use Rattle.quiet_pool.specs.Calls.{AreHeapsAt, IsAllIdle}
use Rattle.quiet_pool.specs.Held.{IsHeld, locals_of}
use Rattle.quiet_pool.specs.Noting.{IsAll, IsWhole, noted}
use Rattle.quiet_pool.specs.Quiet.{AreIdle}
use Rattle.quiet_pool.proofs.Quiets.{all_entries, all_idle, is_ready}
use Rattle.quiet_pool.proofs.pool.quiet.Goals as goal

pub gather-requires-clause-heaps : goal.gather-requires-clause-heaps
gather-requires-clause-heaps g c =
    subst (λ hs. AreHeapsAt g.R.Raw.out g.R.Raw.faults g.R.Raw.got g.R.Raw.passed c.args.pool.board.shared.table_id
    c.args.pool.plan hs) (sym c.as_mut_slice.ensures.value) c.requires.heaps.each

pub gather-requires-clause-idle : goal.gather-requires-clause-idle
gather-requires-clause-idle g c =
    let none : IsAllIdle c.args.pool c.as_slice.result.now = c.in_default.ensures.none in
    subst (λ hs. AreIdle (locals_of hs)) (c.as_slice.ensures.value ∙ sym c.as_mut_slice.ensures.value)
    (all_idle (locals_of c.as_slice.result.now) none.1)

pub note-office-requires-clause-all : goal.note-office-requires-clause-all
note-office-requires-clause-all g c =
    let none : IsAllIdle c.args.pool c.as_slice.result.now = c.in_default.ensures.none in
    let same = c.as_slice.ensures.value ∙ sym c.as_mut_slice.ensures.value in
    let idle = subst (λ hs. AreIdle (locals_of hs)) same (all_idle (locals_of c.as_slice.result.now) none.1) in
    let heaps = subst (λ hs. AreHeapsAt g.R.Raw.out g.R.Raw.faults g.R.Raw.got g.R.Raw.passed
    c.args.pool.board.shared.table_id c.args.pool.plan hs) (sym c.as_mut_slice.ensures.value) c.requires.heaps.each in
    let all = all_entries g.R.Raw.out g.R.Raw.faults g.R.Raw.got g.R.Raw.passed c.args.pool.board.shared.table_id
    c.args.pool.plan c.as_mut_slice.result.now heaps idle (ap length (sym same) ∙ none.0) in
    subst (λ k. IsAll k c.gather.new.place.me.0.entries) (sym c.requires.pool.key_is)
    (subst (λ es. IsAll (key_by c.args.pool.plan) es) (sym (ap (λ z. z.0.entries) c.gather.ensures.place)) all)

pub invariant_of-result : goal.invariant_of-result
invariant_of-result g c =
    let none : IsAllIdle c.args.pool c.as_slice.result.now = c.in_default.ensures.none in
    let same = c.as_slice.ensures.value ∙ sym c.as_mut_slice.ensures.value in
    let idle = subst (λ hs. AreIdle (locals_of hs)) same (all_idle (locals_of c.as_slice.result.now) none.1) in
    let heaps = subst (λ hs. AreHeapsAt g.R.Raw.out g.R.Raw.faults g.R.Raw.got g.R.Raw.passed
    c.args.pool.board.shared.table_id c.args.pool.plan hs) (sym c.as_mut_slice.ensures.value) c.requires.heaps.each in
    let gathered = c.gather.ensures in
    let items = back_in c.args.heaps.len c.args.heaps.items c.gather.new.heaps
    (sym (length-map c.gather.new.heaps (λ (x : DriverSeat g.row.R.Denot g.R.Raw). x.local)) ∙ ap length gathered.locals
    ∙ length-map c.as_mut_slice.result.now (λ (x : DriverSeat g.row.R.Denot g.R.Raw). x.local)
    ∙ c.as_mut_slice.ensures.len) in
    let p = c.requires.pool in
    let n = c.note-office.ensures.noted in
    let entries = ap (λ z. z.0.entries) c.gather.ensures.place in
    let ready = is_ready g.R.Raw.out g.R.Raw.faults g.R.Raw.got g.R.Raw.passed c.args.pool.board.shared.table_id
    c.args.pool.plan c.as_mut_slice.result.now c.gather.new.heaps c.note-office.result n.0 c.note-office.new.place.me
    heaps
    idle (ap length (sym same) ∙ none.0) c.gather.ensures.locals c.gather.ensures.plans
    (n.1 ∙ ap (λ es. (noted es n.0 c.note-office.result, (0, None) ∷ [])) entries)
    (subst (λ es. IsWhole (office_of g.R.Raw.out g.R.Raw.faults g.R.Raw.got g.R.Raw.passed (key_by c.args.pool.plan))
    (key_by c.args.pool.plan) (IsMade g.R.Raw.out c.args.pool.plan) n.0 c.note-office.result es) entries n.2) in
    subst (λ hs. IsHeld g.R.Raw.out g.R.Raw.faults g.R.Raw.got g.R.Raw.passed c.args.pool.board.shared.table_id
    c.note-office.new.place.table_id c.args.pool.board.shared.key c.args.pool.plan c.args.pool.key
    c.note-office.new.place.me hs c.note-office.result) (sym items) (record {
      same_plan = p.same_plan;
      key_is = p.key_is;
      some_ = p.some;
      sizes = p.sizes;
      same_table = c.note-office.ensures.table ∙ c.gather.ensures.table ∙ p.same_table;
      is_noted = ready.is_noted;
      plans = ready.plans;
      state = ready.state;
      idle = ready.idle;
    })
