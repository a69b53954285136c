use Rattle.std.proofs.Common.{◌≡◌, ◌-◌, List}
use Rattle.plain_lists.specs.Lists.{Block}
use Rattle.plain_lists.specs.Backend.{first_fit, fit_from}
use Rattle.plain_pool.specs.Bins.{AreBins}
use Rattle.plain_pool.proofs.bins.Bins.first_fit.Given as goal

-- the bins that were looked at are empty
abbrev pub invariant-loop-bin : goal.invariant-loop-bin
invariant-loop-bin l = (blocks : List Block) → AreBins l.self blocks → first_fit blocks ≡ fit_from (512 - l.bin) l.bin blocks
