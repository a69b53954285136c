-- The link of a chain: an item's index plus 1, or 0 at the end.
use Rattle.std.specs.Prelude.{ℕ, zero, suc, ◌+◌, ◌^◌, ◌<◌, ⊤, Option, Some, None}
use Rattle.pool_types.specs.Sums.{capped}

unfoldable pub link_of : ℕ → Option ℕ
link_of zero = None
link_of (suc item) = Some item

unfoldable pub link_word : Option ℕ → ℕ
link_word (Some item) = capped (item + 1)
link_word None = 0

abbrev pub FitsLink : Option ℕ → Type 0
FitsLink (Some item) = item + 1 < 2 ^ 64
FitsLink None = ⊤
