-- A guard of a block.
use Rattle.std.specs.Prelude.{ℕ, zero, suc, ◌+◌, ◌^◌, ◌<◌, ⊤}
use Rattle.pool_types.specs.Sums.{capped}
use Rattle.word_codes.specs.declared.guards.Guard.{Guard}
use Rattle.word_codes.specs.declared.guards.Guard.TheVariants.{Used, Coalescing, Wall, Free}

unfoldable pub guard_of : ℕ → Guard
guard_of zero = Used
guard_of (suc zero) = Coalescing
guard_of (suc (suc zero)) = Wall
guard_of (suc (suc (suc granules))) = Free granules

unfoldable pub guard_word : Guard → ℕ
guard_word Used = 0
guard_word Coalescing = 1
guard_word Wall = 2
guard_word (Free granules) = capped (granules + 3)

abbrev pub FitsGuard : Guard → Type 0
FitsGuard Used = ⊤
FitsGuard Coalescing = ⊤
FitsGuard Wall = ⊤
FitsGuard (Free granules) = granules + 3 < 2 ^ 64
