use Rattle.std.proofs.Common.{rules, ◌≡◌, ℕ, ◌+◌, ◌<◌, ◌≤◌, ◌∷◌, ◌++◌, [], length, suc, refl, sym, ap, ◌∙◌, subst}
use Rattle.std.proofs.Common.{arith}
use Rattle.step_local.specs.declared.frames.Local.{Local}
use Rattle.step_runs.specs.Entries.{first_entry}
use Rattle.atomic_driver.specs.Rule.{key_by, plain, first_entries}
use Rattle.atomic_driver.specs.Seating.{IsFrom, IsSeat, AreSeats}
use Rattle.atomic_driver.proofs.Seats.{at_left, seats_more}
use Rattle.atomic_driver.proofs.pool.hand_out.Goals as goal

pub split_off-requires-clause-first : goal.split_off-requires-clause-first
split_off-requires-clause-first g c =
    let v = c.loop-seat.invariant in
    let some_ = c.loop-seat-test.true in
    let all = v.all in
    let q = at_left (key_by c.args.plan.now) c.loop-seat.seat v.left c.loop-seat.spare.me v.me (omega arith) in
    let seat_is = ap (λ (x : Local). x.seat) c.in_ok-local.ensures in
    q.first ∙ ap (first_entry (key_by c.args.plan.now)) (sym seat_is)

pub split_off-requires-clause-some : goal.split_off-requires-clause-some
split_off-requires-clause-some g c =
    let v = c.loop-seat.invariant in
    let some_ = c.loop-seat-test.true in
    let all = v.all in
    (at_left (key_by c.args.plan.now) c.loop-seat.seat v.left c.loop-seat.spare.me v.me (omega arith)).some_

pub split_off-requires-clause-row : goal.split_off-requires-clause-row
split_off-requires-clause-row g c =
    let v = c.loop-seat.invariant in
    let some_ = c.loop-seat-test.true in
    let all = v.all in
    let q = at_left (key_by c.args.plan.now) c.loop-seat.seat v.left c.loop-seat.spare.me v.me (omega arith) in
    let seat_is = ap (λ (x : Local). x.seat) c.in_ok-local.ensures in
    subst (λ n. IsFrom n c.loop-seat.spare.me.0.entries) (sym seat_is) q.row

pub split_off-requires-clause-unnoted : goal.split_off-requires-clause-unnoted
split_off-requires-clause-unnoted g c = ap (λ z. z.0.note) c.loop-seat.invariant.me

pub loop-seat-preserved : goal.loop-seat-preserved
loop-seat-preserved g c =
    let v = c.loop-seat.invariant in
    let some_ = c.loop-seat-test.true in
    let all = v.all in
    let k = key_by c.args.plan.now in
    let q = at_left k c.loop-seat.seat v.left c.loop-seat.spare.me v.me (omega arith) in
    let left_is = q.left_is in
    let e = c.split_off.ensures in
    let seat_is = ap (λ (x : Local). x.seat) c.in_ok-local.ensures in
    let items : c.push.new.self.items ≡ c.loop-seat.seats.items ++ (c.split_off.result ∷ []) = c.in_ok-push.ensures.items in
    let length_is : length c.push.new.self.items ≡ suc (length c.loop-seat.seats.items) = search rules in
    let count = v.count in
    let is_seat = subst (λ n. IsSeat g.R.Raw.out g.R.Raw.faults g.R.Raw.got g.R.Raw.passed c.args.spare.now.table_id
    c.args.plan.now n c.split_off.result) seat_is
    (subst (λ z. IsSeat g.R.Raw.out g.R.Raw.faults g.R.Raw.got g.R.Raw.passed z c.args.plan.now c.in_ok-local.local.seat
    c.split_off.result) v.table e.seat) in
    record {
      table = e.spare.0 ∙ v.table;
      left = q.rest;
      all = omega arith;
      me = e.spare.2 ∙ (λ i. (plain (q.others i), (ap (λ z. z.1) v.me) i));
      count = omega arith;
      seats = subst (AreSeats g.R.Raw.out g.R.Raw.faults g.R.Raw.got g.R.Raw.passed c.args.spare.now.table_id
          c.args.plan.now) (sym items)
          (seats_more g.R.Raw.out g.R.Raw.faults g.R.Raw.got g.R.Raw.passed c.args.spare.now.table_id c.args.plan.now
          c.loop-seat.seats.items c.loop-seat.seat c.split_off.result v.seats (sym count) is_seat);
    }

pub returns-clause-spent : goal.returns-clause-spent
returns-clause-spent g c =
    let v = c.loop-seat.invariant in
    let high = c.loop-seat-test.false in
    let all = v.all in
    let none : v.left ≡ 0 = omega arith in
    v.me ∙ ap (λ n. (plain (first_entries (key_by c.args.plan.now) c.loop-seat.seat n), [])) none
