-- What a text is seen as while an entry is added to it.
use Rattle.std.specs.Prelude.{ℕ, List}

-- the texts of whole entries, and what is there of the next one
pub record Draft : Type 0 where
  pub whole : List ℕ
  pub begun : List ℕ
