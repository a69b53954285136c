use Rattle.std.proofs.Common.{◌≡◌, ℕ, ◌+◌, length, []}
use Rattle.atomic_driver.specs.Rule.{key_by, plain, first_entries}
use Rattle.atomic_driver.specs.Seating.{AreSeats}
use Rattle.atomic_driver.proofs.pool.hand_out.Given as goal

abbrev pub invariant-loop-seat : goal.invariant-loop-seat
invariant-loop-seat g l = record {
  table : l.spare.table_id ≡ l.fn.spare.table_id;
  left : ℕ;
  all : l.seat + left ≡ l.key.seats;
  me : l.spare.me ≡ (plain (first_entries (key_by l.plan) l.seat left), []);
  count : length l.seats.items ≡ l.seat;
  seats : AreSeats {R = g.row.R.Denot} g.R.Raw.out g.R.Raw.faults g.R.Raw.got g.R.Raw.passed l.fn.spare.table_id l.plan
      l.seats.items;
}
