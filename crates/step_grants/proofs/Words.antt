-- Which words of marks name a grant, whatever is put into them.
use Rattle.std.proofs.Common.{◌≡◌, ◌⊎◌, inl, inr, ℕ, ◌+◌, ◌*◌, ◌%◌, ◌^◌, ◌<◌, refl, sym, ap, subst, ◌∙◌, arith}
use Rattle.std.specs.Prelude.{Option, Some, None}
use Rattle.std.proofs.Math.Nat.{mod-mod}
use Rattle.pool_types.specs.declared.values.Grant.{Grant}
use Rattle.pool_words.specs.declared.words.Key.{Key}
use Rattle.pool_words.specs.declared.words.Word.{Word}
use Rattle.pool_words.specs.Words.{marks, length_of}
use Rattle.word_codes.specs.declared.marks.Mark.{Mark}
use Rattle.word_codes.specs.declared.publics.Public.{Public}
use Rattle.word_codes.specs.Marks.{mark_of, mark_word, private_link, public_link}
use Rattle.word_codes.proofs.CallerLemmas.{marks_read_back}
use Rattle.word_laws.specs.Memory.{Mem, stored}
use Rattle.word_laws.proofs.CallerLemmas.{each, less_or, stored-valid, stored-void}
use Rattle.step_grants.specs.Grants.{IsAt}

-- the word names no grant
abbrev pub NoGrant : ℕ → Type 0
NoGrant w = (grant : Grant) → mark_of w ≡ Mark.Granted grant → ⊥

no_grant : (m : Mark) → ((grant : Grant) → m ≡ Mark.Granted grant → ⊥) → (w : ℕ) → mark_of w ≡ m → NoGrant w
no_grant m none w is grant names = none grant (sym is ∙ names)

seat_less : (n : ℕ) → n % 64 < 64
seat_less n = omega arith

unit_less : (n : ℕ) → n % 2 ^ 61 < 2 ^ 61
unit_less n = omega arith

link_word_is : (unit : ℕ) → mark_word (Mark.Link unit) ≡ mark_word (Mark.Link (unit % 2 ^ 61))
unfolding mark_word
link_word_is unit = ap (λ (n : ℕ). 3 + 8 * n) (sym (mod-mod unit (2 ^ 61)))

hand_word_is : (seat : ℕ) → mark_word (Mark.Hand seat) ≡ mark_word (Mark.Hand (seat % 64))
unfolding mark_word
hand_word_is seat = ap (λ (n : ℕ). 2 + 8 * n) (sym (mod-mod seat 64))

pub link_no_grant : (unit : ℕ) → NoGrant (mark_word (Mark.Link unit))
link_no_grant unit = no_grant (Mark.Link (unit % 2 ^ 61)) (λ grant e. cc) (mark_word (Mark.Link unit))
    (ap mark_of (link_word_is unit) ∙ marks_read_back (Mark.Link (unit % 2 ^ 61)) (unit_less unit))

end_no_grant : NoGrant (mark_word Mark.End)
end_no_grant = no_grant Mark.End (λ grant e. cc) (mark_word Mark.End) (marks_read_back Mark.End tt)

unusable_no_grant : NoGrant (mark_word Mark.EndUnusable)
unusable_no_grant =
    no_grant Mark.EndUnusable (λ grant e. cc) (mark_word Mark.EndUnusable) (marks_read_back Mark.EndUnusable tt)

pub hand_no_grant : (seat : ℕ) → NoGrant (mark_word (Mark.Hand seat))
hand_no_grant seat = no_grant (Mark.Hand (seat % 64)) (λ grant e. cc) (mark_word (Mark.Hand seat))
    (ap mark_of (hand_word_is seat) ∙ marks_read_back (Mark.Hand (seat % 64)) (seat_less seat))

pub private_no_grant : (one : Option ℕ) → NoGrant (private_link one)
private_no_grant (Some unit) = link_no_grant unit
private_no_grant None = end_no_grant

pub public_no_grant : (p : Public) → NoGrant (public_link p)
public_no_grant Public.Null = end_no_grant
public_no_grant Public.Unusable = unusable_no_grant
public_no_grant (Public.Filled unit) = link_no_grant unit

unmarked_is : mark_of 0 ≡ Mark.Unmarked
unfolding mark_word
unmarked_is = marks_read_back Mark.Unmarked tt

pub zero_no_grant : NoGrant 0
zero_no_grant = no_grant Mark.Unmarked (λ grant e. cc) 0 unmarked_is

-- where a word is stored at a unit, a grant is at its unit as before, or it is that word's, at that unit
pub stored_mark : (k : Key) (m : Mem) (unit value u : ℕ) (grant : Grant)
    → IsAt (stored k m (Word.Mark unit) value marks) grant u
    → IsAt (m marks) grant u ⊎ ((u ≡ unit) × (mark_of value ≡ Mark.Granted grant))
stored_mark k m unit value u grant = less_or unit (length_of k marks)
    (λ valid. subst (λ (n : Mem). IsAt (n marks) grant u
    → IsAt (m marks) grant u ⊎ ((u ≡ unit) × (mark_of value ≡ Mark.Granted grant)))
    (sym (stored-valid k m (Word.Mark unit) value valid))
    (each (λ v q. mark_of q ≡ Mark.Granted grant
    → IsAt (m marks) grant v ⊎ ((v ≡ unit) × (mark_of value ≡ Mark.Granted grant)))
    (m marks) unit value (λ v ne is. inl is) (λ is. inr (refl, is)) u))
    (λ void. subst (λ (n : Mem). IsAt (n marks) grant u
    → IsAt (m marks) grant u ⊎ ((u ≡ unit) × (mark_of value ≡ Mark.Granted grant)))
    (sym (stored-void k m (Word.Mark unit) value void)) (λ is. inl is))
