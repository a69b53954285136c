-- What begins at a granule: a tag of 3 bits, and behind it a class or a block.
use Rattle.std.specs.Prelude.{ℕ, ◌+◌, ◌*◌, ◌/◌, ◌%◌, ◌^◌, ◌<◌, ⊤, cond, eqb}
use Rattle.word_codes.specs.declared.kinds.Kind.{Kind}
use Rattle.word_codes.specs.declared.kinds.Kind.TheVariants.{Nothing, Slab, CachedSlab, Large}

unfoldable pub kind_of : ℕ → Kind
kind_of w =
    cond (eqb (w % 8) 1) (Slab (w / 8 % 256))
    (cond (eqb (w % 8) 2) CachedSlab
    (cond (eqb (w % 8) 3) (Large (w / 8 % 2 ^ 16) (w / 2 ^ 19)) Nothing))

unfoldable pub kind_word : Kind → ℕ
kind_word Nothing = 0
kind_word (Slab class) = 1 + 8 * class
kind_word CachedSlab = 2
kind_word (Large first granules) = 3 + 8 * (first % 2 ^ 16) + 2 ^ 19 * (granules % 2 ^ 45)

-- the kinds that have a word of their own
abbrev pub FitsKind : Kind → Type 0
FitsKind Nothing = ⊤
FitsKind (Slab class) = class < 256
FitsKind CachedSlab = ⊤
FitsKind (Large first granules) = (first < 2 ^ 16) × (granules < 2 ^ 45)
