-- What a call of an office does.
use Rattle.std.specs.Prelude.{◌≡◌, ℕ, ◌+◌, ◌<◌, ◌≤◌, ◌==◌, Bool, true, false, ◌&&◌, List, [], ◌∷◌, ◌++◌, length, slice_index_or, remove, Option, Some, None, Result, Ok, Err}
use Rattle.std.specs.List.{list_any}
use Rattle.pool_types.specs.declared.policy.RegionRec.{RegionRec}
use Rattle.pool_types.specs.declared.values.Region.{Region}
use Rattle.pool_types.specs.Causes.{Rose, HasCauseOfFalse}
use Rattle.pool_types.specs.Regions.{IsFresh, Loses}
use Rattle.regions.specs.declared.errors.ObtainError.{ObtainError}
use Rattle.regions.specs.declared.errors.ObtainError.TheVariants.{HasRegion, RegionsFull, SpanFull, RawFailed}
use Rattle.regions.specs.Asking.{asked_bytes, asked_indices}
use Rattle.regions.specs.Gaps.{IsLongestGap}
use Rattle.regions.specs.Numbers.{IsNextNumber, is_full}
use Rattle.regions.specs.Placing.{IsRecord}
use Rattle.regions.specs.Offices.{Desk, desk_of}

module _ {R : Type 0} where
  -- a fixed office that once got a region
  abbrev pub has_region : Desk R → Bool
  has_region desk = desk.policy.fixed && desk.has_got

  -- the bytes that the office asks for so many granules
  abbrev pub bytes_for : Desk R → ℕ → ℕ
  bytes_for desk granules = asked_bytes desk.policy desk.limits granules

  -- a region starts at this index
  abbrev pub starts_at : Desk R → ℕ → Bool
  starts_at desk first = list_any (λ one. one.first == first) desk.records

  -- no number is left for one more region
  pub record IsFull (desk : Desk R) (out next : ℕ) : Type 0 where
    pub may : has_region desk ≡ false
    pub count : out ≡ length desk.records
    pub next_is : IsNextNumber desk.records desk.counter next
    pub full : is_full out next ≡ true

  -- one more region can have this number
  pub record HasNumber (desk : Desk R) (number : ℕ) : Type 0 where
    pub may : has_region desk ≡ false
    pub next_is : IsNextNumber desk.records desk.counter number
    pub open_is : is_full (length desk.records) number ≡ false

  -- the longest gap is shorter than what is asked
  pub record IsSpanFull (desk : Desk R) (granules asked greatest : ℕ) : Type 0 where
    pub number : ℕ
    pub numbered : HasNumber desk number
    pub asked_is : asked ≡ asked_indices (bytes_for desk granules)
    pub start : ℕ
    pub longest : IsLongestGap desk.limits.span desk.records start greatest
    pub short : greatest < asked

  -- one more region can have this number, and the longest gap is no shorter than what is asked
  pub record CanAsk (desk : Desk R) (granules number : ℕ) : Type 0 where
    pub numbered : HasNumber desk number
    pub start : ℕ
    pub greatest : ℕ
    pub longest : IsLongestGap desk.limits.span desk.records start greatest
    pub enough : asked_indices (bytes_for desk granules) ≤ greatest

  -- why the callback is not asked
  abbrev pub IsRefused : Desk R → ℕ → ObtainError → Type 0
  IsRefused desk granules HasRegion = has_region desk ≡ true
  IsRefused desk granules (RegionsFull count next) = IsFull desk count next
  IsRefused desk granules (SpanFull asked greatest) = IsSpanFull desk granules asked greatest
  IsRefused desk granules RawFailed = ⊥

module _ {R : Type 0} (out : R → List Region) (faults : R → ℕ) (got : R → ℕ → Option Region → R → Type 0) where
  -- the callback was asked and gave nothing: all but the callback is as before
  pub record Fails (old : Desk R) (granules : ℕ) (new : Desk R) : Type 0 where
    pub number : ℕ
    pub can : CanAsk old granules number
    pub answered : got old.raw (bytes_for old granules) None new.raw
    pub out_stays : out new.raw ≡ out old.raw
    pub cause : Rose (faults old.raw) (faults new.raw)
    pub after : new ≡ record old { raw = new.raw }

  -- the callback gave the region of this record, which now is the last
  pub record Comes (old : Desk R) (granules : ℕ) (one : RegionRec) (new : Desk R) : Type 0 where
    pub can : CanAsk old granules one.number
    pub answered : got old.raw (bytes_for old granules) (Some one.region) new.raw
    pub fresh : IsFresh (out old.raw) (bytes_for old granules) one.region
    pub out_grows : out new.raw ≡ out old.raw ++ one.region ∷ []
    pub faults_stay : faults new.raw ≡ faults old.raw
    pub is_record : IsRecord old.limits.span old.records one
    pub after : new ≡ desk_of old.policy old.limits (old.records ++ one ∷ []) (one.number + 1) true new.raw

  -- what a call that obtains may answer, and the office after it
  abbrev pub Obtains : Desk R → ℕ → Result RegionRec ObtainError → Desk R → Type 0
  Obtains old granules (Ok one) new = Comes old granules one new
  Obtains old granules (Err RawFailed) new = Fails old granules new
  Obtains old granules (Err HasRegion) new = IsRefused old granules HasRegion × (new ≡ old)
  Obtains old granules (Err (RegionsFull count next)) new = IsRefused old granules (RegionsFull count next)
      × (new ≡ old)
  Obtains old granules (Err (SpanFull asked greatest)) new = IsRefused old granules (SpanFull asked greatest)
      × (new ≡ old)

-- the region at this index is passed to the callback, and its record is gone
pub record Gives {R : Type 0} (out : R → List Region) (faults : R → ℕ) (passed : R → Region → Bool → R → Type 0)
    (old : Desk R) (first : ℕ) (answer : Bool) (new : Desk R) : Type 0 where
  pub one : RegionRec
  pub position : ℕ
  pub below : position < length old.records
  pub there : slice_index_or old.records position one ≡ one
  pub starts : one.first ≡ first
  pub answered : passed old.raw one.region answer new.raw
  pub out_shrinks : Loses (out old.raw) one.region (out new.raw)
  pub cause : HasCauseOfFalse (faults old.raw) (faults new.raw) answer
  pub after : new ≡ record old { records = remove old.records position; raw = new.raw }
