use Rattle.std.proofs.Common.{◌≡◌}
use Rattle.name_board.proofs.board.Board.sleep_for.Given as goal

abbrev pub invariant-loop : goal.invariant-loop
invariant-loop g l =
    (goal.iterator-loop g).can_next l.iterator' × (goal.iterator-loop g).is_finite l.iterator'
    × (l.pen.table_id ≡ l.initial.pen.table_id) × (l.pen.id ≡ l.initial.pen.id) × (l.pen.me ≡ l.initial.pen.me)
