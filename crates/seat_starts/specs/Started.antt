-- What a seat ties to by beginning what is still to be begun: its own steps, which write nothing.
use Rattle.std.specs.Prelude.{◌≡◌}
use Rattle.pool_words.specs.declared.words.Key.{Key}
use Rattle.step_local.specs.declared.frames.Local.{Local}
use Rattle.pool_laws.specs.Wholes.{Whole}
use Rattle.seat_ties.specs.Ties.{SeatTied}
use Rattle.seat_ties.specs.Turns.{SeatRun}

pub record Started (k : Key) (w : Whole) (l : Local) : Type 0 where
  pub later : Whole
  pub run : SeatRun k l.seat w later
  pub words : later.pool.mem ≡ w.pool.mem
  pub office : later.office ≡ w.office
  pub tied : SeatTied k later l.seat l
