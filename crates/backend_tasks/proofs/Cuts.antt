-- What each step of a cut, and of a region that is united, leaves to do, and keeps of what it says by itself.
use Rattle.std.proofs.Common.{◌≡◌, ◌∙◌, ℕ, Bool, true, false, cond, refl, subst}
use Rattle.std.specs.Bool.{⊤}
use Rattle.std.specs.Prelude.{ltb}
use Rattle.word_codes.specs.declared.guards.Guard.{Guard}
use Rattle.word_codes.specs.Guards.{guard_of}
use Rattle.guards.specs.declared.win.WinNext.{WinNext}
use Rattle.guards.specs.Win.{win_learn}
use Rattle.backend_bins.specs.declared.bin.BinAt.{BinAt}
use Rattle.backend_bins.specs.declared.bin.BinNext.{BinNext}
use Rattle.backend_bins.specs.declared.blocks.Block.{Block}
use Rattle.backend_bins.specs.declared.cut.CutAt.{CutAt}
use Rattle.backend_bins.specs.declared.cut.CutCall.{CutCall}
use Rattle.backend_bins.specs.declared.cut.CutNext.{CutNext}
use Rattle.backend_bins.specs.Bin.{bin_learn}
use Rattle.backend_bins.specs.Blocks.{block_end}
use Rattle.backend_bins.specs.Cut.{at_back, at_last, at_rests, back_call, back_goes, back_of, cut_learn, front_call}
use Rattle.backend_bins.specs.Cut.{front_goes, front_of}
use Rattle.reset_steps.specs.declared.unite.UniteAt.{UniteAt}
use Rattle.reset_steps.specs.declared.unite.UniteCall.{UniteCall}
use Rattle.reset_steps.specs.declared.unite.UniteNext.{UniteNext}
use Rattle.reset_steps.specs.Unite.{unite_from, unite_learn, unite_sized, unite_unlinked, unite_win, unite_won}
use Rattle.reset_steps.specs.Unite.{united, unlink_call}
use Rattle.guard_laws.specs.Blocks as guards
use Rattle.guard_laws.specs.Steps.{task_after}
use Rattle.bin_laws.specs.Bins as tasks
use Rattle.backend_tasks.specs.Bins.{bin_task, cut_task, cut_task_left, unite_task, unite_task_left, won_left}
use Rattle.backend_tasks.specs.Fits.{CutFits, UniteFits}
use Rattle.backend_tasks.specs.Guards.{GuardGoesOn, cut_guard, cut_guard_left, unite_guard}
use Rattle.backend_tasks.specs.Guards.{unite_guard_left}
use Rattle.backend_tasks.proofs.GoesOn.{guard_same}
use Rattle.backend_tasks.proofs.Jobs.{ThenPuts, ThenTakes, guard_moves, guard_then, puts_moves, takes_moves}
use Rattle.backend_tasks.proofs.Jobs.{task_moves, task_then}

abbrev pub cut_guard_then : CutCall → CutAt → CutNext → guards.Task
cut_guard_then c at (CutNext.Goes next) = cut_guard c next
cut_guard_then c at (CutNext.Waits bin) = cut_guard c at
cut_guard_then c at CutNext.Done = guards.Task.Away

abbrev pub cut_task_then : CutCall → CutAt → CutNext → tasks.Task
cut_task_then c at (CutNext.Goes next) = cut_task c next
cut_task_then c at (CutNext.Waits bin) = cut_task c at
cut_task_then c at CutNext.Done = tasks.Task.Away

abbrev pub CutThenFits : CutNext → Type 0
CutThenFits (CutNext.Goes next) = CutFits next
CutThenFits (CutNext.Waits bin) = ⊤
CutThenFits CutNext.Done = ⊤

-- where no rest is under way, all three
record IsOpen (c : CutCall) (at : CutAt) (next : CutNext) : Type 0 where
  guard : cut_guard_then c at next ≡ guards.Task.Away
  task : cut_task_then c at next ≡ tasks.Task.Away
  fits : CutThenFits next

open_next : (c : CutCall) (at : CutAt) (next : CutAt) → cut_guard c next ≡ guards.Task.Away
    → cut_task c next ≡ tasks.Task.Away → CutFits next → IsOpen c at (CutNext.Goes next)
open_next c at next guard task fits = record { guard = guard; task = task; fits = fits }

open_done : (c : CutCall) (at : CutAt) → IsOpen c at CutNext.Done
open_done c at = record { guard = refl; task = refl; fits = tt }

either_open : (c : CutCall) (at : CutAt) (b : Bool) (x y : CutNext) → IsOpen c at x → IsOpen c at y
    → IsOpen c at (cond b x y)
either_open c at true x y one other = one
either_open c at false x y one other = other

open-last : (c : CutCall) (at : CutAt) → IsOpen c at (at_last c)
open-last c at = either_open c at (ltb 0 (back_of c).granules) (CutNext.Goes (CutAt.Back BinAt.Lock)) CutNext.Done
    (open_next c at (CutAt.Back BinAt.Lock) refl refl tt) (open_done c at)

open-rests : (c : CutCall) (at : CutAt) → IsOpen c at (at_rests c)
open-rests c at = either_open c at (ltb 0 (front_of c).granules) (CutNext.Goes (CutAt.Front BinAt.Lock)) (at_last c)
    (open_next c at (CutAt.Front BinAt.Lock) refl refl tt) (open-last c at)

open-back : (c : CutCall) (at : CutAt) → IsOpen c at (at_back c)
open-back c at = either_open c at (ltb 0 (back_of c).granules) (CutNext.Goes CutAt.BackLeft) (at_rests c)
    (open_next c at CutAt.BackLeft refl refl tt) (open-rests c at)

-- a rest in front or behind
front_guard : (c : CutCall) (at : BinAt) (next : BinNext)
    → cut_guard_then c (CutAt.Front at) (front_goes c next) ≡ guard_then (front_of c) at next
front_guard c at (BinNext.Goes next) = refl
front_guard c at BinNext.Waits = refl
front_guard c at BinNext.Done = IsOpen.guard (open-last c (CutAt.Front at))

back_guard : (c : CutCall) (at : BinAt) (next : BinNext)
    → cut_guard_then c (CutAt.Back at) (back_goes c next) ≡ guard_then (back_of c) at next
back_guard c at (BinNext.Goes next) = refl
back_guard c at BinNext.Waits = refl
back_guard c at BinNext.Done = refl

pub cut_guard_moves : (c : CutCall) (at : CutAt) (found : ℕ)
    → cut_guard_then c at (cut_learn c at found) ≡ cut_guard_left c at
cut_guard_moves c CutAt.FrontLeft found = refl
cut_guard_moves c CutAt.FrontSize found = IsOpen.guard (open-back c CutAt.FrontSize)
cut_guard_moves c CutAt.BackLeft found = refl
cut_guard_moves c CutAt.BackSize found = IsOpen.guard (open-rests c CutAt.BackSize)
cut_guard_moves c (CutAt.Front at) found =
    front_guard c at (bin_learn (front_call c) at found) ∙ guard_moves (front_call c) at found
cut_guard_moves c (CutAt.Back at) found =
    back_guard c at (bin_learn (back_call c) at found) ∙ guard_moves (back_call c) at found

front_task : (c : CutCall) (at : BinAt) (next : BinNext)
    → cut_task_then c (CutAt.Front at) (front_goes c next) ≡ task_then (front_call c) (bin_task (front_call c) at) next
front_task c at (BinNext.Goes next) = refl
front_task c at BinNext.Waits = refl
front_task c at BinNext.Done = IsOpen.task (open-last c (CutAt.Front at))

back_task : (c : CutCall) (at : BinAt) (next : BinNext)
    → cut_task_then c (CutAt.Back at) (back_goes c next) ≡ task_then (back_call c) (bin_task (back_call c) at) next
back_task c at (BinNext.Goes next) = refl
back_task c at BinNext.Waits = refl
back_task c at BinNext.Done = refl

pub cut_task_moves : (c : CutCall) (at : CutAt) (found : ℕ)
    → cut_task_then c at (cut_learn c at found) ≡ cut_task_left c at found
cut_task_moves c CutAt.FrontLeft found = refl
cut_task_moves c CutAt.FrontSize found = IsOpen.task (open-back c CutAt.FrontSize)
cut_task_moves c CutAt.BackLeft found = refl
cut_task_moves c CutAt.BackSize found = IsOpen.task (open-rests c CutAt.BackSize)
cut_task_moves c (CutAt.Front at) found =
    front_task c at (bin_learn (front_call c) at found) ∙ task_moves (front_call c) at found
cut_task_moves c (CutAt.Back at) found =
    back_task c at (bin_learn (back_call c) at found) ∙ task_moves (back_call c) at found

front_fits : (c : CutCall) (next : BinNext) → ThenPuts next → CutThenFits (front_goes c next)
front_fits c (BinNext.Goes next) puts = puts
front_fits c BinNext.Waits puts = tt
front_fits c BinNext.Done puts = IsOpen.fits (open-last c CutAt.FrontLeft)

back_fits : (c : CutCall) (next : BinNext) → ThenPuts next → CutThenFits (back_goes c next)
back_fits c (BinNext.Goes next) puts = puts
back_fits c BinNext.Waits puts = tt
back_fits c BinNext.Done puts = tt

pub cut_keeps_fits : (c : CutCall) (at : CutAt) (found : ℕ) → CutFits at → CutThenFits (cut_learn c at found)
cut_keeps_fits c CutAt.FrontLeft found fits = tt
cut_keeps_fits c CutAt.FrontSize found fits = IsOpen.fits (open-back c CutAt.FrontSize)
cut_keeps_fits c CutAt.BackLeft found fits = tt
cut_keeps_fits c CutAt.BackSize found fits = IsOpen.fits (open-rests c CutAt.BackSize)
cut_keeps_fits c (CutAt.Front at) found fits =
    front_fits c (bin_learn (front_call c) at found) (puts_moves (front_call c) at found refl fits)
cut_keeps_fits c (CutAt.Back at) found fits =
    back_fits c (bin_learn (back_call c) at found) (puts_moves (back_call c) at found refl fits)

-- a region that is united
abbrev pub unite_guard_then : UniteAt → UniteNext → guards.Task
unite_guard_then at (UniteNext.Goes next) = unite_guard next
unite_guard_then at (UniteNext.Waits bin) = unite_guard at
unite_guard_then at (UniteNext.United b) = guards.Task.Away

from_guard : (c : UniteCall) (at : UniteAt) (first : ℕ)
    → unite_guard_then at (unite_from c first) ≡ guards.Task.Away
from_guard c at first = by (ltb first (block_end c.region))
  where
    by : (b : Bool) → unite_guard_then at (cond b (UniteNext.Goes (UniteAt.Size first)) (united c first))
        ≡ guards.Task.Away
    by true = refl
    by false = refl

sized_guard : (c : UniteCall) (at : UniteAt) (first : ℕ) (guard : Guard)
    → GuardGoesOn (unite_guard_then at (unite_sized c first guard)) guards.Task.Away
sized_guard c at first (Guard.Free granules) = tt
sized_guard c at first Guard.Used = tt
sized_guard c at first Guard.Coalescing = tt
sized_guard c at first Guard.Wall = tt

unite_won_guard : (at : UniteAt) (b : Block) (next : WinNext)
    → GuardGoesOn (unite_guard_then at (unite_won b next)) (task_after (unite_win b) next)
unite_won_guard at b (WinNext.Goes next) = refl
unite_won_guard at b WinNext.Won = tt
unite_won_guard at b (WinNext.NotWon found) = tt
unite_won_guard at b WinNext.GivenBack = tt

unite_out_guard : (c : UniteCall) (b : Block) (at : BinAt) (next : BinNext)
    → unite_guard_then (UniteAt.Unlink b at) (unite_unlinked c b next) ≡ guard_then b at next
unite_out_guard c b at (BinNext.Goes next) = refl
unite_out_guard c b at BinNext.Waits = refl
unite_out_guard c b at BinNext.Done = from_guard c (UniteAt.Unlink b at) (block_end b)

pub unite_guard_moves : (c : UniteCall) (at : UniteAt) (found : ℕ)
    → GuardGoesOn (unite_guard_then at (unite_learn c at found)) (unite_guard_left at found)
unite_guard_moves c (UniteAt.Size first) found = sized_guard c (UniteAt.Size first) first (guard_of found)
unite_guard_moves c (UniteAt.Win b at) found = unite_won_guard (UniteAt.Win b at) b (win_learn (unite_win b) at found)
unite_guard_moves c (UniteAt.Unlink b at) found =
    let next : BinNext = bin_learn (unlink_call c b) at found in
    subst (GuardGoesOn (unite_guard_then (UniteAt.Unlink b at) (unite_unlinked c b next)))
    (unite_out_guard c b at next ∙ guard_moves (unlink_call c b) at found)
    (guard_same (unite_guard_then (UniteAt.Unlink b at) (unite_unlinked c b next)))

abbrev pub unite_task_then : UniteCall → UniteAt → UniteNext → tasks.Task
unite_task_then c at (UniteNext.Goes next) = unite_task c next
unite_task_then c at (UniteNext.Waits bin) = unite_task c at
unite_task_then c at (UniteNext.United b) = tasks.Task.Away

from_task : (c : UniteCall) (at : UniteAt) (first : ℕ)
    → unite_task_then c at (unite_from c first) ≡ tasks.Task.Away
from_task c at first = by (ltb first (block_end c.region))
  where
    by : (b : Bool) → unite_task_then c at (cond b (UniteNext.Goes (UniteAt.Size first)) (united c first))
        ≡ tasks.Task.Away
    by true = refl
    by false = refl

sized_task : (c : UniteCall) (at : UniteAt) (first : ℕ) (guard : Guard)
    → unite_task_then c at (unite_sized c first guard) ≡ tasks.Task.Away
sized_task c at first (Guard.Free granules) = refl
sized_task c at first Guard.Used = refl
sized_task c at first Guard.Coalescing = refl
sized_task c at first Guard.Wall = refl

unite_won_task : (c : UniteCall) (at : UniteAt) (b : Block) (next : WinNext)
    → unite_task_then c at (unite_won b next) ≡ won_left tasks.Task.Away b next
unite_won_task c at b (WinNext.Goes next) = refl
unite_won_task c at b WinNext.Won = refl
unite_won_task c at b (WinNext.NotWon found) = refl
unite_won_task c at b WinNext.GivenBack = refl

unite_out_task : (c : UniteCall) (b : Block) (at : BinAt) (next : BinNext)
    → unite_task_then c (UniteAt.Unlink b at) (unite_unlinked c b next)
    ≡ task_then (unlink_call c b) (bin_task (unlink_call c b) at) next
unite_out_task c b at (BinNext.Goes next) = refl
unite_out_task c b at BinNext.Waits = refl
unite_out_task c b at BinNext.Done = from_task c (UniteAt.Unlink b at) (block_end b)

pub unite_task_moves : (c : UniteCall) (at : UniteAt) (found : ℕ)
    → unite_task_then c at (unite_learn c at found) ≡ unite_task_left c at found
unite_task_moves c (UniteAt.Size first) found = sized_task c (UniteAt.Size first) first (guard_of found)
unite_task_moves c (UniteAt.Win b at) found =
    unite_won_task c (UniteAt.Win b at) b (win_learn (unite_win b) at found)
unite_task_moves c (UniteAt.Unlink b at) found =
    unite_out_task c b at (bin_learn (unlink_call c b) at found) ∙ task_moves (unlink_call c b) at found

abbrev pub UniteThenFits : UniteNext → Type 0
UniteThenFits (UniteNext.Goes next) = UniteFits next
UniteThenFits (UniteNext.Waits bin) = ⊤
UniteThenFits (UniteNext.United b) = ⊤

from_fits : (c : UniteCall) (first : ℕ) → UniteThenFits (unite_from c first)
from_fits c first = by (ltb first (block_end c.region))
  where
    by : (b : Bool) → UniteThenFits (cond b (UniteNext.Goes (UniteAt.Size first)) (united c first))
    by true = tt
    by false = tt

sized_fits : (c : UniteCall) (first : ℕ) (guard : Guard) → UniteThenFits (unite_sized c first guard)
sized_fits c first (Guard.Free granules) = tt
sized_fits c first Guard.Used = tt
sized_fits c first Guard.Coalescing = tt
sized_fits c first Guard.Wall = tt

unite_won_fits : (b : Block) (next : WinNext) → UniteThenFits (unite_won b next)
unite_won_fits b (WinNext.Goes next) = tt
unite_won_fits b WinNext.Won = tt
unite_won_fits b (WinNext.NotWon found) = tt
unite_won_fits b WinNext.GivenBack = tt

unite_out_fits : (c : UniteCall) (b : Block) (next : BinNext) → ThenTakes next
    → UniteThenFits (unite_unlinked c b next)
unite_out_fits c b (BinNext.Goes next) takes = takes
unite_out_fits c b BinNext.Waits takes = tt
unite_out_fits c b BinNext.Done takes = from_fits c (block_end b)

pub unite_keeps_fits : (c : UniteCall) (at : UniteAt) (found : ℕ) → UniteFits at
    → UniteThenFits (unite_learn c at found)
unite_keeps_fits c (UniteAt.Size first) found fits = sized_fits c first (guard_of found)
unite_keeps_fits c (UniteAt.Win b at) found fits = unite_won_fits b (win_learn (unite_win b) at found)
unite_keeps_fits c (UniteAt.Unlink b at) found fits =
    unite_out_fits c b (bin_learn (unlink_call c b) at found) (takes_moves (unlink_call c b) at found refl fits)
