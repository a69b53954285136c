-- The words of the command line.
use Rattle.std.proofs.Common.{◌≡◌, ℕ, ◌<◌, ◌≤◌, List, [], ◌∷◌, length, map, String, Global, sym, ◌∙◌, ap, arith}
use Rattle.std.specs.Prelude.{string_bytes}
use lib.ListN.{get_or}

-- words are this one alone
pub one_word : (words : List (String Global)) (word : String Global) (text : List ℕ) → 1 ≤ length words →
    length words < 2 → word ≡ get_or words 0 word → string_bytes word ≡ text → map string_bytes words ≡ text ∷ []
one_word [] word text some few at is = absurd (omega (arith, some))
one_word (x ∷ []) word text some few at is =
    ap (λ (t : List ℕ). t ∷ []) (ap (λ (w : String Global). string_bytes w) (sym at) ∙ is)
one_word (x ∷ y ∷ more) word text some few at is = absurd (omega (arith, few))
