-- Who keeps a slab.
use Rattle.std.specs.Prelude.{ℕ, zero, suc, ◌+◌, ◌%◌, ◌<◌, ⊤}
use Rattle.word_codes.specs.declared.owns.Own.{Own}
use Rattle.word_codes.specs.declared.owns.Own.TheVariants.{Nobody, Orphan, Kept}

unfoldable pub own_of : ℕ → Own
own_of zero = Nobody
own_of (suc zero) = Orphan
own_of (suc (suc seat)) = Kept (seat % 256)

unfoldable pub own_word : Own → ℕ
own_word Nobody = 0
own_word Orphan = 1
own_word (Kept seat) = 2 + seat

abbrev pub FitsOwn : Own → Type 0
FitsOwn Nobody = ⊤
FitsOwn Orphan = ⊤
FitsOwn (Kept seat) = seat < 256
