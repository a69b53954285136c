-- How a count of faults tells that a failure came from outside.
use Rattle.std.specs.Prelude.{◌≡◌, ℕ, ◌+◌, ◌-◌, ◌^◌, ◌≤◌, min, Bool, true, false, Option, IfNone, OnSome, Result, OnErr, OnOk}

-- one more, up to the greatest u64
abbrev pub counted_up : ℕ → ℕ
counted_up count = min (count + 1) (2 ^ 64 - 1)

-- the count rose, or stands at its type's end
abbrev pub Rose : ℕ → ℕ → Type 0
Rose before now = counted_up before ≤ now

-- the count has not fallen, an error comes only where it rose, and success only where it stayed
pub record HasCause {T E : Type 0} (before now : ℕ) (result : Result T E) : Type 0 where
  pub later : before ≤ now
  pub failed : OnErr result (Rose before now)
  pub kept : OnOk result (now ≡ before)

-- the same of a call that fails by None
pub record HasCauseOfNone {T : Type 0} (before now : ℕ) (result : Option T) : Type 0 where
  pub later : before ≤ now
  pub failed : IfNone result (Rose before now)
  pub kept : OnSome result (now ≡ before)

-- the same of a call that fails by false
pub record HasCauseOfFalse (before now : ℕ) (result : Bool) : Type 0 where
  pub later : before ≤ now
  pub failed : result ≡ false → Rose before now
  pub kept : result ≡ true → now ≡ before
