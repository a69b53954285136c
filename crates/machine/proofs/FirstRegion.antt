-- What the first region of a pool needs.
use Rattle.std.proofs.Common.{◌≡◌, ℕ, ◌≤◌, List, [], length, sym, ap, arith}
use Rattle.pool_types.specs.declared.policy.RegionRec.{RegionRec}
use Rattle.regions.specs.Gaps.{IsGap, is_taken}
use Rattle.regions.specs.Numbers.{is_slot_taken, is_full}
use Rattle.machine.specs.States.{State}
use Rattle.machine.specs.Regions.{HasNumber}

-- the next number is the first one
pub first_number : (state : State) → state.regions ≡ [] → state.next ≡ 0 → HasNumber state 0
first_number state none next = record {
  next_is = record {
    from = omega (arith, next);
    least = λ number least below. absurd (omega (arith, below));
    free = λ number free. ap (λ rs. is_slot_taken rs 0) none;
    none = λ all. sym next;
  };
  open_is = ap (λ (rs : List RegionRec). is_full (length rs) 0) none;
}

-- so many granule indices from the first on are free
pub first_gap : (state : State) (span count : ℕ) → state.regions ≡ [] → count ≤ span → IsGap span state.regions 0 count
first_gap state span count none few = record { within = omega (arith, few); free = λ index from below. ap (λ rs. is_taken rs index) none }
