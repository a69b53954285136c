-- A piece is cut from a block in hand.
use Rattle.std.specs.Prelude.{ℕ, ◌-◌, cond, ltb}
use Rattle.pool_words.specs.declared.words.Word.{Word}
use Rattle.pool_words.specs.declared.actions.Action.{Action}
use Rattle.pool_words.specs.declared.actions.Action.TheVariants.{Store}
use Rattle.word_codes.specs.declared.guards.Guard.{Guard}
use Rattle.word_codes.specs.Guards.{guard_word}
use Rattle.backend_bins.specs.declared.blocks.Block.{Block}
use Rattle.backend_bins.specs.declared.bin.BinJob.{BinJob}
use Rattle.backend_bins.specs.declared.bin.BinCall.{BinCall}
use Rattle.backend_bins.specs.declared.bin.BinAt.{BinAt}
use Rattle.backend_bins.specs.declared.bin.BinNext.{BinNext}
use Rattle.backend_bins.specs.declared.cut.CutCall.{CutCall}
use Rattle.backend_bins.specs.declared.cut.CutAt.{CutAt}
use Rattle.backend_bins.specs.declared.cut.CutAt.TheVariants.{FrontLeft, FrontSize, BackLeft, BackSize, Front, Back}
use Rattle.backend_bins.specs.declared.cut.CutNext.{CutNext}
use Rattle.backend_bins.specs.declared.cut.CutNext.TheVariants.{Goes, Waits, Done}
use Rattle.backend_bins.specs.Blocks.{block, block_end, bin_of}
use Rattle.backend_bins.specs.Bin.{bin_call, bin_course, bin_learn}

-- what the block has before the piece and behind it
abbrev pub front_of : CutCall → Block
front_of c = block c.block.first (c.piece.first - c.block.first)

abbrev pub back_of : CutCall → Block
back_of c = block (block_end c.piece) (block_end c.block - block_end c.piece)

abbrev pub front_call : CutCall → BinCall
front_call c = bin_call c.seat (front_of c) BinJob.Insert

abbrev pub back_call : CutCall → BinCall
back_call c = bin_call c.seat (back_of c) BinJob.Insert

-- the guards within the block come first, in front and behind, and then the rests, where there are any
abbrev pub at_last : CutCall → CutNext
at_last c = cond (ltb 0 (back_of c).granules) (Goes (Back BinAt.Lock)) Done

abbrev pub at_rests : CutCall → CutNext
at_rests c = cond (ltb 0 (front_of c).granules) (Goes (Front BinAt.Lock)) (at_last c)

abbrev pub at_back : CutCall → CutNext
at_back c = cond (ltb 0 (back_of c).granules) (Goes BackLeft) (at_rests c)

abbrev pub cut_begins : CutCall → CutNext
cut_begins c = cond (ltb 0 (front_of c).granules) (Goes FrontLeft) (at_back c)

abbrev pub cut_course : CutCall → CutAt → Action
cut_course c FrontLeft = Store (Word.Left c.piece.first) (guard_word Guard.Used)
cut_course c FrontSize = Store (Word.Size c.piece.first) (guard_word Guard.Used)
cut_course c BackLeft = Store (Word.Left (block_end c.piece)) (guard_word Guard.Used)
cut_course c BackSize = Store (Word.Size (block_end c.piece)) (guard_word Guard.Used)
cut_course c (Front at) = bin_course (front_call c) at
cut_course c (Back at) = bin_course (back_call c) at

abbrev pub front_goes : CutCall → BinNext → CutNext
front_goes c (BinNext.Goes at) = Goes (Front at)
front_goes c BinNext.Waits = Waits (bin_of (front_of c).granules)
front_goes c BinNext.Done = at_last c

abbrev pub back_goes : CutCall → BinNext → CutNext
back_goes c (BinNext.Goes at) = Goes (Back at)
back_goes c BinNext.Waits = Waits (bin_of (back_of c).granules)
back_goes c BinNext.Done = Done

abbrev pub cut_learn : CutCall → CutAt → ℕ → CutNext
cut_learn c FrontLeft found = Goes FrontSize
cut_learn c FrontSize found = at_back c
cut_learn c BackLeft found = Goes BackSize
cut_learn c BackSize found = at_rests c
cut_learn c (Front at) found = front_goes c (bin_learn (front_call c) at found)
cut_learn c (Back at) found = back_goes c (bin_learn (back_call c) at found)
