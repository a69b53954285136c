-- The policy and the limits of the pool that a pool line makes, by its options, and what the line reports.
use Rattle.std.specs.Prelude.{ℕ, true, false, List, [], ◌∷◌, Some, None, Result, Ok, Err}
use Rattle.std.specs.declared.option.Option.{Option}
use Rattle.pool_types.specs.Limits.{plain_region_bytes, plain_span}
use Rattle.pool_types.specs.declared.policy.Policy.{Policy}
use Rattle.pool_types.specs.declared.policy.Limits.{Limits}
use Rattle.pool_types.specs.declared.policy.CreateError.{CreateError}
use Rattle.pool_types.specs.declared.policy.CreateError.TheVariants as refusal
use Rattle.trace_reader.specs.declared.acts.PoolOption.{PoolOption}
use Rattle.trace_reader.specs.declared.acts.PoolOption.TheVariants as option
use Rattle.report_text.specs.declared.entry.ReportEntry.{ReportEntry}
use Rattle.report_text.specs.declared.entry.ReportEntry.TheVariants.{Made, InvalidPolicy, UnsupportedPolicy, BadLimits}

-- the policy of a line without options: both callbacks, the first version, and nothing else
abbrev pub default_policy : Policy
default_policy = record {
  gets = true;
  frees = true;
  version = 1;
  granularity = 0;
  fixed = false;
  keep = false;
  reserved = 0;
}

-- the policy that an option makes of one
abbrev pub option_policy : Policy → PoolOption → Policy
option_policy policy option.Fixed = record policy { fixed = true }
option_policy policy option.Keep = record policy { keep = true }
option_policy policy option.NoGet = record policy { gets = false }
option_policy policy option.NoFree = record policy { frees = false }
option_policy policy (option.Gran bytes) = record policy { granularity = bytes }
option_policy policy (option.Version version) = record policy { version = version }
option_policy policy (option.Reserved word) = record policy { reserved = word }
option_policy policy (option.Region bytes) = policy
option_policy policy (option.Span granules) = policy

-- and the one that the options make of it
abbrev pub policy_with : Policy → List PoolOption → Policy
policy_with policy [] = policy
policy_with policy (first ∷ options) = policy_with (option_policy policy first) options

-- the policy of the pool of a line with these options
abbrev pub pool_policy : List PoolOption → Policy
pool_policy options = policy_with default_policy options

-- the limits of a pool of this number for so many seats, of a line without options
abbrev pub default_limits : ℕ → ℕ → Limits
default_limits pool seats = record { pool = pool; seats = seats; span = plain_span; region = plain_region_bytes }

-- the limits that an option makes of some
abbrev pub option_limits : Limits → PoolOption → Limits
option_limits limits (option.Region bytes) = record limits { region = bytes }
option_limits limits (option.Span granules) = record limits { span = granules }
option_limits limits option.Fixed = limits
option_limits limits option.Keep = limits
option_limits limits option.NoGet = limits
option_limits limits option.NoFree = limits
option_limits limits (option.Gran bytes) = limits
option_limits limits (option.Version version) = limits
option_limits limits (option.Reserved word) = limits

-- and those that the options make of them
abbrev pub limits_with : Limits → List PoolOption → Limits
limits_with limits [] = limits
limits_with limits (first ∷ options) = limits_with (option_limits limits first) options

-- the limits of the pool of a line with these options
abbrev pub pool_limits : ℕ → ℕ → List PoolOption → Limits
pool_limits pool seats options = limits_with (default_limits pool seats) options

-- those of the pool of the line `pool P0 fixed`, for so many threads
abbrev pub limits_of : ℕ → Limits
limits_of threads = pool_limits 0 threads (option.Fixed ∷ [])

-- how the making of a pool is judged: it is made, or why it is not
abbrev pub Judged : Type 0
Judged = Result (Unit {0}) CreateError

-- what a pool's line reports; want of memory ends a replay without a report
abbrev pub made_entry : ℕ → Judged → Option ReportEntry
made_entry line (Ok done) = Some (Made line)
made_entry line (Err refusal.InvalidPolicy) = Some (InvalidPolicy line)
made_entry line (Err refusal.UnsupportedPolicy) = Some (UnsupportedPolicy line)
made_entry line (Err (refusal.BadLimits which)) = Some (BadLimits line which)
made_entry line (Err refusal.NoMemory) = None
