-- What a move answers.
use Rattle.std.specs.Prelude.{ℕ, List, Result, Ok, Err}
use Rattle.part_model.specs.declared.moves.Part.{Part}
use Rattle.part_model.specs.declared.partition.ApplyError.{ApplyError}
use Rattle.part_model.specs.declared.partition.ApplyError.TheVariants.{Unlawful, NoMemory}
use Rattle.part_model.specs.Holding.{Holding, CanMoveAll, IsRefusedAt}

-- Unlawful comes exactly where some part can't be made. Where all can, the answer is Ok or want of memory.
abbrev pub Answers : ℕ → List Part → Holding → Result Unit ApplyError → Type 0
Answers seat parts held (Ok done) = CanMoveAll seat held parts
Answers seat parts held (Err NoMemory) = CanMoveAll seat held parts
Answers seat parts held (Err (Unlawful byte there wanted)) = IsRefusedAt seat held parts byte there wanted
