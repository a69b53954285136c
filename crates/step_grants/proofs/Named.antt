-- The named grants are apart.
use Rattle.std.proofs.Common.{◌≡◌, ℕ, ◌+◌, ◌*◌, ◌^◌, ◌<◌, ◌≤◌, refl, sym, subst, ◌∙◌, arith}
use Rattle.pool_types.specs.declared.values.Grant.{Grant}
use Rattle.word_codes.specs.declared.marks.Mark.{Mark}
use Rattle.word_codes.specs.Marks.{mark_of, mark_word}
use Rattle.word_codes.proofs.CallerLemmas.{marks_read_back}
use Rattle.word_laws.specs.Memory.{put}
use Rattle.word_laws.proofs.CallerLemmas.{each}
use Rattle.step_grants.specs.Grants.{IsMade}
use Rattle.step_grants.specs.Laws.{NamedGrantsStand}
use Rattle.step_grants.specs.Named.{granted_word, named_lasts, named_marks}
use Rattle.step_grants.proofs.Words.{NoGrant, hand_no_grant, link_no_grant, zero_no_grant}

-- a grant that the word names was made, and its unit is this one by its seat and number
abbrev Goes : ℕ → ℕ → Type 0
Goes u w = (grant : Grant) → mark_of w ≡ Mark.Granted grant
    → IsMade 2 named_lasts grant × (u ≡ 8 * grant.number + 32 * grant.seat)

none_goes : (u w : ℕ) → NoGrant w → Goes u w
none_goes u w none grant names = absurd (none grant names)

some_goes : (u seat number : ℕ) → seat < 64 → number < 2 ^ 55
    → IsMade 2 named_lasts (record { seat = seat; number = number }) → u ≡ 8 * number + 32 * seat
    → Goes u (granted_word seat number)
some_goes u seat number low few made place grant names =
    let reads = marks_read_back (Mark.Granted (record { seat = seat; number = number })) (low, few) in
    let same : record { seat = seat; number = number } ≡ grant = (let e = sym reads ∙ names in cc) in
    subst (λ (g : Grant). IsMade 2 named_lasts g × (u ≡ 8 * g.number + 32 * g.seat)) same (made, place)

made : (seat number : ℕ) → seat < 2 → 1 ≤ number → number ≤ named_lasts seat
    → IsMade 2 named_lasts (record { seat = seat; number = number })
made seat number low first last = record { seat = low; first = first; last = last }

goes_none : (u : ℕ) → Goes u 0
goes_none u = none_goes u 0 zero_no_grant

goes_first : (u : ℕ) → Goes u (put (λ u. 0) 8 (granted_word 0 1) u)
goes_first = each Goes (λ u. 0) 8 (granted_word 0 1) (λ u ne. goes_none u)
    (some_goes 8 0 1 (omega arith) (omega arith) (made 0 1 (omega arith) (omega arith) (omega arith)) refl)

goes_third : (u : ℕ) → Goes u (put (put (λ u. 0) 8 (granted_word 0 1)) 24 (granted_word 0 3) u)
goes_third = each Goes (put (λ u. 0) 8 (granted_word 0 1)) 24 (granted_word 0 3) (λ u ne. goes_first u)
    (some_goes 24 0 3 (omega arith) (omega arith) (made 0 3 (omega arith) (omega arith) (omega arith)) refl)

goes_listed : (u : ℕ) → Goes u (put (put (put (λ u. 0) 8 (granted_word 0 1)) 24 (granted_word 0 3)) 32
    (mark_word (Mark.Link 48)) u)
goes_listed = each Goes (put (put (λ u. 0) 8 (granted_word 0 1)) 24 (granted_word 0 3)) 32 (mark_word (Mark.Link 48))
    (λ u ne. goes_third u) (none_goes 32 (mark_word (Mark.Link 48)) (link_no_grant 48))

goes_hand : (u : ℕ) → Goes u (put (put (put (put (λ u. 0) 8 (granted_word 0 1)) 24 (granted_word 0 3)) 32
    (mark_word (Mark.Link 48))) 16 (mark_word (Mark.Hand 1)) u)
goes_hand = each Goes (put (put (put (λ u. 0) 8 (granted_word 0 1)) 24 (granted_word 0 3)) 32
    (mark_word (Mark.Link 48))) 16 (mark_word (Mark.Hand 1)) (λ u ne. goes_listed u)
    (none_goes 16 (mark_word (Mark.Hand 1)) (hand_no_grant 1))

goes_all : (u : ℕ) → Goes u (named_marks u)
goes_all = each Goes (put (put (put (put (λ u. 0) 8 (granted_word 0 1)) 24 (granted_word 0 3)) 32
    (mark_word (Mark.Link 48))) 16 (mark_word (Mark.Hand 1))) 40 (granted_word 1 1) (λ u ne. goes_hand u)
    (some_goes 40 1 1 (omega arith) (omega arith) (made 1 1 (omega arith) (omega arith) (omega arith)) refl)

pub named_grants_stand : NamedGrantsStand
named_grants_stand = record {
  made = λ u grant is. (goes_all u grant is).0;
  one = λ u v grant is there. (goes_all u grant is).1 ∙ sym (goes_all v grant there).1;
}
