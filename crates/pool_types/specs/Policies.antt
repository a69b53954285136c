-- Which policies and limits a pool can be made with.
use Rattle.std.specs.Prelude.{◌≡◌, ℕ, ◌+◌, ◌-◌, ◌*◌, ◌/◌, ◌==◌, Bool, true, false, not, ◌&&◌, ◌||◌, if◌then◌else◌, nat_lt, Result, Ok, Err}
use Rattle.pool_types.specs.Geometry.{granule_bytes, granules_of}
use Rattle.pool_types.specs.Limits.{most_region_bytes, most_seats, most_span}
use Rattle.pool_types.specs.declared.policy.Policy.{Policy}
use Rattle.pool_types.specs.declared.policy.Limits.{Limits}
use Rattle.pool_types.specs.declared.policy.Which.{Which}
use Rattle.pool_types.specs.declared.policy.Which.TheVariants.{Seats, Region, Granularity, Span}
use Rattle.pool_types.specs.declared.policy.CreateError.{CreateError}
use Rattle.pool_types.specs.declared.policy.CreateError.TheVariants.{InvalidPolicy, UnsupportedPolicy, BadLimits, NoMemory}

-- the next multiple
abbrev pub align_up : ℕ → ℕ → ℕ
align_up bytes multiple = (bytes + (multiple - 1)) / multiple * multiple

-- regions are asked for in multiples of this
abbrev pub granularity_of : Policy → ℕ
granularity_of policy = if policy.granularity == 0 then granule_bytes else policy.granularity

-- the granules that the bytes of the least region may touch, and one index for its wall
abbrev pub least_span : Policy → Limits → ℕ
least_span policy limits = granules_of (align_up limits.region (granularity_of policy)) + 2

-- a callback or the version is missing
abbrev pub is_invalid : Policy → Bool
is_invalid policy = not policy.gets || policy.version == 0 || (not policy.frees && not policy.fixed)

-- a later version
abbrev pub is_unsupported : Policy → Bool
is_unsupported policy = nat_lt 1 policy.version || not (policy.reserved == 0)

-- the limit is out of its range
abbrev pub is_out : Policy → Limits → Which → Bool
is_out policy limits Seats = limits.seats == 0 || nat_lt most_seats limits.seats
is_out policy limits Region = nat_lt limits.region granule_bytes || nat_lt most_region_bytes limits.region
is_out policy limits Granularity = nat_lt most_region_bytes policy.granularity
is_out policy limits Span = nat_lt most_span limits.span || nat_lt limits.span (least_span policy limits)

-- the limits that are judged before this one are in their ranges
abbrev pub AreIn : Policy → Limits → Which → Type 0
AreIn policy limits Seats = Unit {0}
AreIn policy limits Region = is_out policy limits Seats ≡ false
AreIn policy limits Granularity = (is_out policy limits Seats ≡ false) × (is_out policy limits Region ≡ false)
AreIn policy limits Span = (is_out policy limits Seats ≡ false) × (is_out policy limits Region ≡ false)
    × (is_out policy limits Granularity ≡ false)

-- all limits are in their ranges
abbrev pub AreAllIn : Policy → Limits → Type 0
AreAllIn policy limits = AreIn policy limits Span × (is_out policy limits Span ≡ false)

-- a pool can be made so
pub record IsAllowed (policy : Policy) (limits : Limits) : Type 0 where
  pub valid : is_invalid policy ≡ false
  pub supported : is_unsupported policy ≡ false
  pub limits_in : AreAllIn policy limits

-- the first reason why a pool can't be made so
abbrev pub IsRefusal : Policy → Limits → CreateError → Type 0
IsRefusal policy limits InvalidPolicy = is_invalid policy ≡ true
IsRefusal policy limits UnsupportedPolicy = (is_invalid policy ≡ false) × (is_unsupported policy ≡ true)
IsRefusal policy limits (BadLimits which) = (is_invalid policy ≡ false) × (is_unsupported policy ≡ false)
    × AreIn policy limits which × (is_out policy limits which ≡ true)
IsRefusal policy limits NoMemory = ⊥

abbrev pub Checks : {T : Type 0} → Policy → Limits → Result T CreateError → Type 0
Checks policy limits (Ok done) = IsAllowed policy limits
Checks policy limits (Err refusal) = IsRefusal policy limits refusal
