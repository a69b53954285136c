-- What a state is that a run comes to: a whole pool that steps of its seats lead to from a new one, with these words,
-- to which each seat's local is tied.
use Rattle.std.specs.Prelude.{◌≡◌, ℕ, ◌+◌, ◌<◌, ◌≤◌, List, [], Some}
use Rattle.pool_words.specs.declared.words.Key.{Key}
use Rattle.pool_types.specs.declared.policy.RegionRec.{RegionRec}
use Rattle.office_laws.specs.Regions.{Shadow}
use Rattle.word_laws.specs.Memory.{memory}
use Rattle.mail_laws.specs.Mail as mailing
use Rattle.step_local.specs.declared.frames.Local.{Local}
use Rattle.pool_laws.specs.Named.{fresh_whole}
use Rattle.pool_laws.specs.Steps.{WholeRun}
use Rattle.pool_laws.specs.Wholes.{Whole}
use Rattle.seat_ties.specs.Ties.{SeatTied}
use Rattle.begun_laws.specs.Begun.{BegunFit}
use Rattle.slab_moves.specs.Says.{SlabSays}
use Rattle.whole_runs.specs.Calls.{IsCall}

-- all that the laws say of a seat, by its local
pub record SeatStands (k : Key) (w : Whole) (seat : ℕ) (l : Local) : Type 0 where
  pub tied : SeatTied k w seat l
  pub call : IsCall l
  pub slabs : SlabSays l

-- each region that is out lies in the pool with its wall
abbrev pub AreShort : Key → Shadow → Type 0
AreShort k g = (s : ℕ) (one : RegionRec) → g.out s ≡ Some one → one.first + one.granules < k.span

-- of all seats, by their locals; a seat that the pool has not does nothing with mail
pub record IsWhole (k : Key) (words : List ℕ) (locals : ℕ → Local) : Type 0 where
  pub whole : Whole
  pub run : WholeRun k (fresh_whole k) whole
  pub words' : whole.pool.mem ≡ memory k words
  pub seats : (seat : ℕ) → seat < k.seats → SeatStands k whole seat (locals seat)
  pub begun : BegunFit whole
  pub none : (seat : ℕ) → k.seats ≤ seat → whole.mails seat ≡ mailing.Task.Away
  pub short : AreShort k whole.office
