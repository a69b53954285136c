-- Grants stay apart where one new grant at most comes to a unit's mark.
use Rattle.std.proofs.Common.{◌≡◌, ◌⊎◌, inl, inr, ℕ, ◌<◌, ◌≤◌, sym, subst, ◌∙◌, arith}
use Rattle.pool_types.specs.declared.values.Grant.{Grant}
use Rattle.word_codes.specs.declared.marks.Mark.{Mark}
use Rattle.word_codes.specs.Marks.{mark_of}
use Rattle.step_grants.specs.Grants.{IsAt, IsMade, AreApart, NeverReturn}
use Rattle.step_grants.proofs.Words.{zero_no_grant}

-- a grant that a mark names was named there, or is the new one at its unit
pub record Comes (seats : ℕ) (marks lasts marks' lasts' : ℕ → ℕ) : Type 0 where
  pub unit : ℕ
  pub grant : Grant
  pub fresh : lasts grant.seat < grant.number
  pub rise : (seat : ℕ) → lasts seat ≤ lasts' seat
  pub came : (u : ℕ) (other : Grant) → IsAt marks' other u
      → IsAt marks other u ⊎ ((u ≡ unit) × (other ≡ grant) × IsMade seats lasts' other)

module _ (seats : ℕ) (marks lasts marks' lasts' : ℕ → ℕ) (comes : Comes seats marks lasts marks' lasts') where
  -- what is named by a mark now was made
  pub made_still : (grant : Grant) → IsMade seats lasts grant → IsMade seats lasts' grant
  made_still grant made = record {
    seat = made.seat;
    first = made.first;
    last = let low = made.last in let up = comes.rise grant.seat in omega arith;
  }

  pub not_new : (grant : Grant) → IsMade seats lasts grant → grant ≡ comes.grant → ⊥
  not_new grant made same =
      let low : comes.grant.number ≤ lasts comes.grant.seat =
      subst (λ (g : Grant). g.number ≤ lasts g.seat) same made.last in
      let new = comes.fresh in
      omega arith

  pub stay_apart : AreApart seats marks lasts → AreApart seats marks' lasts'
  stay_apart apart = record {
    made = λ u grant is. made_by u grant (comes.came u grant is);
    one = λ u v grant is there. one_by u v grant (comes.came u grant is) (comes.came v grant there);
  }
    where
      made_by : (u : ℕ) (grant : Grant)
          → IsAt marks grant u ⊎ ((u ≡ comes.unit) × (grant ≡ comes.grant) × IsMade seats lasts' grant)
          → IsMade seats lasts' grant
      made_by u grant (inl was) = made_still grant (apart.made u grant was)
      made_by u grant (inr new) = new.2

      one_by : (u v : ℕ) (grant : Grant)
          → IsAt marks grant u ⊎ ((u ≡ comes.unit) × (grant ≡ comes.grant) × IsMade seats lasts' grant)
          → IsAt marks grant v ⊎ ((v ≡ comes.unit) × (grant ≡ comes.grant) × IsMade seats lasts' grant) → u ≡ v
      one_by u v grant (inl was) (inl there) = apart.one u v grant was there
      one_by u v grant (inl was) (inr new) = absurd (not_new grant (apart.made u grant was) new.1)
      one_by u v grant (inr new) (inl there) = absurd (not_new grant (apart.made v grant there) new.1)
      one_by u v grant (inr new) (inr other) = new.0 ∙ sym other.0

  -- a grant that was made and is at no mark stays so
  pub stays_gone : (grant : Grant) → IsMade seats lasts grant → ((u : ℕ) → IsAt marks grant u → ⊥)
      → (u : ℕ) → IsAt marks' grant u → ⊥
  stays_gone grant made gone u is = by (comes.came u grant is)
    where
      by : IsAt marks grant u ⊎ ((u ≡ comes.unit) × (grant ≡ comes.grant) × IsMade seats lasts' grant) → ⊥
      by (inl was) = gone u was
      by (inr new) = not_new grant made new.1

-- a record of what came between two states
module _ (marks lasts marks' lasts' : ℕ → ℕ) (rise : (seat : ℕ) → lasts seat ≤ lasts' seat)
    (came : (u : ℕ) (grant : Grant) → IsAt marks' grant u → IsAt marks grant u ⊎ (lasts grant.seat < grant.number))
  where
    never_return : NeverReturn marks lasts marks' lasts'
    never_return = record {
      rise = rise;
      came = came;
      gone = λ grant made gone u is. gone_by grant made gone u (came u grant is);
    }
      where
        gone_by : (grant : Grant) → grant.number ≤ lasts grant.seat → ((u : ℕ) → IsAt marks grant u → ⊥) → (u : ℕ)
            → IsAt marks grant u ⊎ (lasts grant.seat < grant.number) → ⊥
        gone_by grant made gone u (inl was) = gone u was
        gone_by grant made gone u (inr new) = omega arith

pub returns_none : (marks lasts : ℕ → ℕ) → NeverReturn marks lasts marks lasts
returns_none marks lasts = never_return marks lasts marks lasts (λ seat. omega arith) (λ u grant is. inl is)

pub returns_on : (seats : ℕ) (marks0 lasts0 marks lasts marks' lasts' : ℕ → ℕ)
    → NeverReturn marks0 lasts0 marks lasts → Comes seats marks lasts marks' lasts'
    → NeverReturn marks0 lasts0 marks' lasts'
returns_on seats marks0 lasts0 marks lasts marks' lasts' before comes =
    never_return marks0 lasts0 marks' lasts'
    (λ seat. let low = before.rise seat in let up = comes.rise seat in omega arith)
    (λ u grant is. by u grant (comes.came u grant is))
  where
    by : (u : ℕ) (grant : Grant)
        → IsAt marks grant u ⊎ ((u ≡ comes.unit) × (grant ≡ comes.grant) × IsMade seats lasts' grant)
        → IsAt marks0 grant u ⊎ (lasts0 grant.seat < grant.number)
    by u grant (inl was) = before.came u grant was
    by u grant (inr new) =
        let up = before.rise comes.grant.seat in
        let fresh = comes.fresh in
        inr (subst (λ (g : Grant). lasts0 g.seat < g.number) (sym new.1) (omega arith))

-- where no mark names a grant they are apart
pub none_apart : (seats : ℕ) (marks lasts : ℕ → ℕ) → ((u : ℕ) → marks u ≡ 0) → AreApart seats marks lasts
none_apart seats marks lasts zero = record {
  made = λ u grant is. absurd (zero_no_grant grant (subst (λ w. mark_of w ≡ Mark.Granted grant) (zero u) is));
  one = λ u v grant is there. absurd (zero_no_grant grant (subst (λ w. mark_of w ≡ Mark.Granted grant) (zero u) is));
}
