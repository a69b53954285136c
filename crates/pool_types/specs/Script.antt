-- A callback that answers by two scripts, and by a rule where they are spent.
use Rattle.std.specs.Prelude.{◌≡◌, ℕ, ◌+◌, ◌-◌, ◌*◌, ◌^◌, ◌<◌, ◌≤◌, Bool, true, false, if◌then◌else◌, is_some, List, ◌++◌, length, drop, option_to_list, slice_get, unwrap_or, Option, Some, None}
use Rattle.pool_types.specs.declared.values.Region.{Region}
use Rattle.pool_types.specs.Causes.{counted_up}
use Rattle.pool_types.specs.Limits.{most_regions}
use Rattle.pool_types.specs.Regions.{overlaps_any, IsFresh, Loses}

-- what is left of the scripts, the regions out, and how many calls have failed
pub record Script : Type 0 where
  pub gets : List (Option Region)
  pub puts : List Bool
  pub out : List Region
  pub faults : ℕ

-- the least multiple of 1048576, from 1048576 on, at which so many bytes overlap no region that is out
pub record IsLeastFree (out : List Region) (bytes base : ℕ) : Type 0 where
  pub steps : ℕ
  pub multiple : base ≡ 1048576 * (steps + 1)
  pub free : overlaps_any out (record { base = base; bytes = bytes }) ≡ false
  pub least : (k : ℕ) → k < steps → overlaps_any out (record { base = 1048576 * (k + 1); bytes = bytes }) ≡ true

-- past the script: exactly the bytes asked, at the least free base
pub record IsByRule (out : List Region) (bytes : ℕ) (region : Region) : Type 0 where
  pub exact : region.bytes ≡ bytes
  pub least : IsLeastFree out bytes region.base
  pub ends : region.base + bytes ≤ 2 ^ 64 - 1

-- the next entry of the script, or the rule past its end, gives this region
abbrev pub IsGiven : Option (Option Region) → List Region → ℕ → Region → Type 0
IsGiven None out bytes region = IsByRule out bytes region
IsGiven (Some None) out bytes region = ⊥
IsGiven (Some (Some entry)) out bytes region = (region ≡ entry) × IsFresh out bytes entry

-- a get may answer so: a region is given where one can be, and no more than 64 are out at a time
abbrev pub IsAnswer : Option (Option Region) → List Region → ℕ → Option Region → Type 0
IsAnswer entry out bytes (Some region) = (length out < most_regions) × IsGiven entry out bytes region
IsAnswer entry out bytes None = length out < most_regions → (region : Region) → IsGiven entry out bytes region → ⊥

-- a get takes the next entry; a fault is counted
pub record Gets (old : Script) (bytes : ℕ) (answer : Option Region) (new : Script) : Type 0 where
  pub answered : IsAnswer (slice_get old.gets 0) old.out bytes answer
  pub gets : new.gets ≡ drop 1 old.gets
  pub puts : new.puts ≡ old.puts
  pub out : new.out ≡ old.out ++ option_to_list answer
  pub faults : new.faults ≡ (if is_some answer then old.faults else counted_up old.faults)

-- a put takes the next entry, and succeeds where there is none; a fault is counted
pub record Puts (old : Script) (region : Region) (answer : Bool) (new : Script) : Type 0 where
  pub answered : answer ≡ unwrap_or (slice_get old.puts 0) true
  pub gets : new.gets ≡ old.gets
  pub puts : new.puts ≡ drop 1 old.puts
  pub out : Loses old.out region new.out
  pub faults : new.faults ≡ (if answer then old.faults else counted_up old.faults)
