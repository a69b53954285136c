-- The blocks of a region are won and taken out of their bins, one behind another.
use Rattle.std.specs.Prelude.{ℕ, ◌+◌, ◌-◌, cond, ltb}
use Rattle.pool_types.specs.Sums.{capped}
use Rattle.pool_words.specs.declared.words.Word.{Word}
use Rattle.pool_words.specs.declared.actions.Action.{Action}
use Rattle.pool_words.specs.declared.actions.Action.TheVariants.{Load}
use Rattle.word_codes.specs.declared.guards.Guard.{Guard}
use Rattle.word_codes.specs.Guards.{guard_of}
use Rattle.guards.specs.declared.win.Side.{Side}
use Rattle.guards.specs.declared.win.Taking.{Taking}
use Rattle.guards.specs.declared.win.WinAt.{WinAt}
use Rattle.guards.specs.declared.win.WinCall.{WinCall}
use Rattle.guards.specs.declared.win.WinNext.{WinNext}
use Rattle.guards.specs.Win.{win_course, win_learn}
use Rattle.backend_bins.specs.declared.bin.BinAt.{BinAt}
use Rattle.backend_bins.specs.declared.bin.BinCall.{BinCall}
use Rattle.backend_bins.specs.declared.bin.BinJob.{BinJob}
use Rattle.backend_bins.specs.declared.bin.BinNext.{BinNext}
use Rattle.backend_bins.specs.declared.blocks.Block.{Block}
use Rattle.backend_bins.specs.Bin.{bin_call, bin_course, bin_learn}
use Rattle.backend_bins.specs.Blocks.{block, block_end, bin_of}
use Rattle.reset_steps.specs.declared.unite.UniteAt.{UniteAt}
use Rattle.reset_steps.specs.declared.unite.UniteCall.{UniteCall}
use Rattle.reset_steps.specs.declared.unite.UniteNext.{UniteNext}
use Rattle.reset_steps.specs.declared.unite.UniteNext.TheVariants.{Goes, Waits, United}

-- the granules of the region before this one are in hand
abbrev pub united : UniteCall → ℕ → UniteNext
united c first = United (block c.region.first (first - c.region.first))

-- the region's blocks from this granule on are won
abbrev pub unite_from : UniteCall → ℕ → UniteNext
unite_from c first = cond (ltb first (block_end c.region)) (Goes (UniteAt.Size first)) (united c first)

abbrev pub unite_win : Block → WinCall
unite_win b = record {
  begin = b.first;
  end = block_end b;
  granules = b.granules;
  first = Side.Begin;
  taking = Taking.ToJoin;
}

abbrev pub unlink_call : UniteCall → Block → BinCall
unlink_call c b = bin_call c.seat b BinJob.Unlink

abbrev pub unite_course : UniteCall → UniteAt → Action
unite_course c (UniteAt.Size first) = Load (Word.Size first)
unite_course c (UniteAt.Win b at) = win_course (unite_win b) at
unite_course c (UniteAt.Unlink b at) = bin_course (unlink_call c b) at

-- a block that is not free ends it
abbrev pub unite_sized : UniteCall → ℕ → Guard → UniteNext
unite_sized c first (Guard.Free granules) = Goes (UniteAt.Win (block first granules) WinAt.First)
unite_sized c first Guard.Used = united c first
unite_sized c first Guard.Coalescing = united c first
unite_sized c first Guard.Wall = united c first

abbrev pub unite_won : Block → WinNext → UniteNext
unite_won b (WinNext.Goes at) = Goes (UniteAt.Win b at)
unite_won b WinNext.Won = Goes (UniteAt.Unlink b BinAt.Lock)
unite_won b (WinNext.NotWon found) = Goes (UniteAt.Size b.first)
unite_won b WinNext.GivenBack = Goes (UniteAt.Size b.first)

abbrev pub unite_unlinked : UniteCall → Block → BinNext → UniteNext
unite_unlinked c b (BinNext.Goes at) = Goes (UniteAt.Unlink b at)
unite_unlinked c b BinNext.Waits = Waits (bin_of b.granules)
unite_unlinked c b BinNext.Done = unite_from c (block_end b)

abbrev pub unite_learn : UniteCall → UniteAt → ℕ → UniteNext
unite_learn c (UniteAt.Size first) f = unite_sized c first (guard_of f)
unite_learn c (UniteAt.Win b at) f = unite_won b (win_learn (unite_win b) at f)
unite_learn c (UniteAt.Unlink b at) f = unite_unlinked c b (bin_learn (unlink_call c b) at f)
