-- The objects of a slab that others gave back.
use Rattle.std.specs.Prelude.{ℕ, zero, suc, ◌+◌, ◌^◌, ◌<◌, ⊤}
use Rattle.pool_types.specs.Sums.{capped}
use Rattle.word_codes.specs.declared.publics.Public.{Public}
use Rattle.word_codes.specs.declared.publics.Public.TheVariants.{Null, Unusable, Filled}

unfoldable pub public_of : ℕ → Public
public_of zero = Null
public_of (suc zero) = Unusable
public_of (suc (suc unit)) = Filled unit

unfoldable pub public_word : Public → ℕ
public_word Null = 0
public_word Unusable = 1
public_word (Filled unit) = capped (unit + 2)

abbrev pub FitsPublic : Public → Type 0
FitsPublic Null = ⊤
FitsPublic Unusable = ⊤
FitsPublic (Filled unit) = unit + 2 < 2 ^ 64
