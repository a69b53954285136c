-- What each turn keeps.
use Rattle.pool_types.specs.declared.values.Request.{Request}
use Rattle.pool_words.specs.declared.actions.Seen.{Seen}
use Rattle.step_local.specs.declared.frames.Local.{Local}
use Rattle.step_local.specs.declared.frames.Reset.{Reset}
use Rattle.step_local.specs.Getting.{begun, reset_begun}
use Rattle.step_local.specs.Learn.{learn}
use Rattle.step_numbers.specs.Positions.{NumbersFit}

-- what a local keeps of numbers is kept by each turn, whatever it finds, and by each call and reset that begins
pub record NumbersKept (l : Local) : Type 0 where
  pub turns : (seen : Seen) → NumbersFit (learn l seen).0
  pub begins : (request : Request) → NumbersFit (begun l request).0
  pub resets : (reset : Reset) → NumbersFit (reset_begun l reset).0

abbrev pub TurnsKeepNumbers : Type 0
TurnsKeepNumbers = (l : Local) → NumbersFit l → NumbersKept l
