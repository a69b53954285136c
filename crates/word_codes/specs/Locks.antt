-- The lock of a bin, of a cache bin or of the office.
use Rattle.std.specs.Prelude.{ℕ, zero, suc, ◌+◌, ◌%◌, Option, Some, None}

unfoldable pub lock_word : ℕ → ℕ
lock_word seat = seat + 1

unfoldable pub holder_of : ℕ → Option ℕ
holder_of zero = None
holder_of (suc seat) = Some (seat % 256)
