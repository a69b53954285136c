-- The list of a cache bin's blocks.
use Rattle.std.specs.Prelude.{ℕ, Option, Some, None}
use Rattle.pool_words.specs.declared.words.Word.{Word}
use Rattle.pool_words.specs.declared.actions.Action.{Action}
use Rattle.pool_words.specs.declared.actions.Action.TheVariants.{Store}

-- the list ends behind this block; where none stays, it is empty
abbrev pub cut_behind : ℕ → Option ℕ → Action
cut_behind granules (Some kept) = Store (Word.CacheLink kept) 0
cut_behind granules None = Store (Word.CacheHead granules) 0
