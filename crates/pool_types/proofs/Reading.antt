-- What a read that copies the front of what is left takes.
use Rattle.std.proofs.Common.{◌≡◌, ℕ, ◌+◌, ◌<◌, ◌≤◌, min, List, [], ◌++◌, length, take, drop, sym}
use Rattle.std.proofs.lemmas.List.{take-append-drop, drop-drop}
use Rattle.std.proofs.Math.Seq.{take-append_seam}
use Rattle.std.proofs.lemmas.Grind.{common_steps}
use Rattle.std.proofs.Common.{arith}

-- the first `count` bytes of the buffer are those that were copied, and the rest is left
pub copies_front : (xs buf copied : List ℕ) (at count : ℕ) → count ≤ length (drop at xs) → copied ≡ take count (drop at xs) → drop at xs ≡ take count (copied ++ drop count buf) ++ drop (at + count) xs
copies_front xs buf copied at count room same =
    let len : length copied ≡ count = grind (arith, common_steps) in
    let front : take count (copied ++ drop count buf) ≡ copied = rw (← len) (take-append_seam copied (drop (length copied) buf)) in
    rw (front, same, ← drop-drop count at xs) (sym (take-append-drop count (drop at xs)))

-- a read of none that had room for some was at the end
pub none_is_end : (xs buf : List ℕ) (at count most : ℕ) → count ≡ min (min (length (drop at xs)) (length buf)) most → 1 ≤ most → count ≡ 0 → 0 < length buf → drop (at + count) xs ≡ []
none_is_end xs buf at count most least some none room = grind (arith, common_steps)
