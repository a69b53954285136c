-- The word of a grant's mark names a grant, whatever its seat and number are.
use Rattle.std.proofs.Common.{◌≡◌, ℕ, ◌+◌, ◌*◌, ◌%◌, ◌^◌, ◌<◌, sym, ap, ◌∙◌, arith}
use Rattle.std.proofs.Math.Nat.{mod-mod}
use Rattle.pool_types.specs.declared.values.Grant.{Grant}
use Rattle.word_codes.specs.declared.marks.Mark.{Mark}
use Rattle.word_codes.specs.Marks.{mark_of, mark_word}
use Rattle.word_codes.proofs.CallerLemmas.{marks_read_back}
use Rattle.step_numbers.specs.Positions.{IsGrantWord}

seat_less : (n : ℕ) → n % 64 < 64
seat_less n = omega arith

number_less : (n : ℕ) → n % 2 ^ 55 < 2 ^ 55
number_less n = omega arith

granted_word_is : (grant : Grant) → mark_word (Mark.Granted grant)
    ≡ mark_word (Mark.Granted (record { seat = grant.seat % 64; number = grant.number % 2 ^ 55 }))
unfolding mark_word
granted_word_is grant =
    ap (λ (n : ℕ). 1 + 8 * n + 512 * (grant.number % 2 ^ 55)) (sym (mod-mod grant.seat 64))
    ∙ ap (λ (n : ℕ). 1 + 8 * (grant.seat % 64 % 64) + 512 * n) (sym (mod-mod grant.number (2 ^ 55)))

-- a seat's mark names a grant
pub granted_word : (grant : Grant) → IsGrantWord (mark_word (Mark.Granted grant))
granted_word grant = (
  record { seat = grant.seat % 64; number = grant.number % 2 ^ 55 },
  ap mark_of (granted_word_is grant)
      ∙ marks_read_back (Mark.Granted (record { seat = grant.seat % 64; number = grant.number % 2 ^ 55 }))
      (seat_less grant.seat, number_less grant.number),
)
