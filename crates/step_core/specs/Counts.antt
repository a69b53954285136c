-- What of a machine is counted.
use Rattle.word_totals.specs.Reading.{Still}
use Rattle.step_core.specs.Machines.{Machine}

-- the words and the seats
abbrev pub still_of : {R : Type 0} → Machine R → Still
still_of m = record { key = m.stock.key; words = m.stock.words; locals = m.locals }
