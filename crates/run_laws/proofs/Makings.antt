-- A pool that a line makes is one, and its office is sound.
use Rattle.std.proofs.Common.{◌≡◌, ℕ, Bool, true, false, arith, ap, ◌∙◌, sym, refl, [], length, Some, Ok, Err}
use Rattle.std.proofs.lemmas.List.Elements.{All-nil}
use Rattle.pool_types.specs.declared.policy.CreateError.{CreateError}
use Rattle.pool_types.specs.declared.policy.CreateError.TheVariants.{InvalidPolicy, UnsupportedPolicy, BadLimits, NoMemory}
use Rattle.pool_types.specs.declared.policy.Limits.{Limits}
use Rattle.pool_types.specs.declared.policy.Policy.{Policy}
use Rattle.pool_types.specs.declared.policy.Which.{Which}
use Rattle.pool_types.specs.declared.policy.Which.TheVariants.{Seats, Region, Granularity, Span}
use Rattle.pool_types.specs.Policies.{Checks, IsAllowed, IsRefusal, AreIn, is_out}
use Rattle.pool_types.specs.Script.{Script}
use Rattle.regions.specs.Offices.{desk_of, IsSound, IsWellPlaced}
use Rattle.trace_calls.specs.Pools.{Judged, pool_policy, pool_limits}
use Rattle.trace_reader.specs.declared.trace.Trace.{Trace}
use Rattle.line_runs.specs.Pools.{first_pool}
use Rattle.line_runs.specs.Turning.{out_of}
use Rattle.trace_runs.specs.Making.{options_of, slot_of}
use Rattle.trace_runs.specs.Scripts.{script_of}
use Rattle.run_laws.proofs.Lines.{IsSoundSlot}

true_false : (b : Bool) → b ≡ true → b ≡ false → ⊥
true_false b is is_not = let wrong : true ≡ false = sym is ∙ is_not in cc

-- the first limit that is out of its range is one
which_once : (policy : Policy) (limits : Limits) (one other : Which) → AreIn policy limits one →
    is_out policy limits one ≡ true → AreIn policy limits other → is_out policy limits other ≡ true → one ≡ other
which_once policy limits Seats Seats before out before' out' = refl
which_once policy limits Seats Region before out before' out' = absurd (true_false (is_out policy limits Seats) out before')
which_once policy limits Seats Granularity before out before' out' =
    absurd (true_false (is_out policy limits Seats) out before'.0)
which_once policy limits Seats Span before out before' out' = absurd (true_false (is_out policy limits Seats) out before'.0)
which_once policy limits Region Seats before out before' out' = absurd (true_false (is_out policy limits Seats) out' before)
which_once policy limits Region Region before out before' out' = refl
which_once policy limits Region Granularity before out before' out' =
    absurd (true_false (is_out policy limits Region) out before'.1)
which_once policy limits Region Span before out before' out' = absurd (true_false (is_out policy limits Region) out before'.1)
which_once policy limits Granularity Seats before out before' out' =
    absurd (true_false (is_out policy limits Seats) out' before.0)
which_once policy limits Granularity Region before out before' out' =
    absurd (true_false (is_out policy limits Region) out' before.1)
which_once policy limits Granularity Granularity before out before' out' = refl
which_once policy limits Granularity Span before out before' out' =
    absurd (true_false (is_out policy limits Granularity) out before'.2)
which_once policy limits Span Seats before out before' out' = absurd (true_false (is_out policy limits Seats) out' before.0)
which_once policy limits Span Region before out before' out' = absurd (true_false (is_out policy limits Region) out' before.1)
which_once policy limits Span Granularity before out before' out' =
    absurd (true_false (is_out policy limits Granularity) out' before.2)
which_once policy limits Span Span before out before' out' = refl

-- the first reason is one
refusal_once : (policy : Policy) (limits : Limits) (one other : CreateError) → IsRefusal policy limits one →
    IsRefusal policy limits other → one ≡ other
refusal_once policy limits InvalidPolicy InvalidPolicy h h' = refl
refusal_once policy limits InvalidPolicy UnsupportedPolicy h h' = let no = h'.0 in cc
refusal_once policy limits InvalidPolicy (BadLimits which) h h' = let no = h'.0 in cc
refusal_once policy limits InvalidPolicy NoMemory h h' = absurd h'
refusal_once policy limits UnsupportedPolicy InvalidPolicy h h' = let no = h.0 in cc
refusal_once policy limits UnsupportedPolicy UnsupportedPolicy h h' = refl
refusal_once policy limits UnsupportedPolicy (BadLimits which) h h' = let is = h.1 in let no = h'.1 in cc
refusal_once policy limits UnsupportedPolicy NoMemory h h' = absurd h'
refusal_once policy limits (BadLimits which) InvalidPolicy h h' = let no = h.0 in cc
refusal_once policy limits (BadLimits which) UnsupportedPolicy h h' = let no = h.1 in let is = h'.1 in cc
refusal_once policy limits (BadLimits which) (BadLimits which') h h' =
    ap (λ (w : Which). BadLimits w) (which_once policy limits which which' h.2 h.3 h'.2 h'.3)
refusal_once policy limits (BadLimits which) NoMemory h h' = absurd h'
refusal_once policy limits NoMemory other h h' = absurd h

not_refused : (policy : Policy) (limits : Limits) (error : CreateError) → IsAllowed policy limits →
    IsRefusal policy limits error → ⊥
not_refused policy limits InvalidPolicy allowed h = let no = allowed.valid in cc
not_refused policy limits UnsupportedPolicy allowed h = let no = allowed.supported in let is = h.1 in cc
not_refused policy limits (BadLimits Seats) allowed h = true_false (is_out policy limits Seats) h.3 allowed.limits_in.0.0
not_refused policy limits (BadLimits Region) allowed h = true_false (is_out policy limits Region) h.3 allowed.limits_in.0.1
not_refused policy limits (BadLimits Granularity) allowed h =
    true_false (is_out policy limits Granularity) h.3 allowed.limits_in.0.2
not_refused policy limits (BadLimits Span) allowed h = true_false (is_out policy limits Span) h.3 allowed.limits_in.1
not_refused policy limits NoMemory allowed h = h

-- the making of a pool is judged once
pub checks_once : (policy : Policy) (limits : Limits) (one other : Judged) → Checks policy limits one →
    Checks policy limits other → one ≡ other
checks_once policy limits (Ok done) (Ok done') h h' = refl
checks_once policy limits (Ok done) (Err error) h h' = absurd (not_refused policy limits error h h')
checks_once policy limits (Err error) (Ok done) h h' = absurd (not_refused policy limits error h' h)
checks_once policy limits (Err error) (Err error') h h' =
    ap (λ (e : CreateError). Err e) (refusal_once policy limits error error' h h')

-- an office without a region is sound
first_sound : (policy : Policy) (limits : Limits) (raw : Script) → raw.out ≡ [] → IsAllowed policy limits →
    IsSound out_of (desk_of policy limits [] 0 false raw)
first_sound policy limits raw none allowed = record {
  allowed = allowed;
  regions = none;
  most = omega arith;
  numbers = omega arith;
  each = All-nil (IsWellPlaced limits.span 0);
  pairs = λ i j d less below. absurd (omega arith);
  before = λ same. refl;
  one = λ same. omega arith;
}

pool_sound : (policy : Policy) (limits : Limits) (raw : Script) → IsSound out_of (desk_of policy limits [] 0 false raw) →
    IsSoundSlot (Some (first_pool policy limits raw))
unfolding first_pool
pool_sound policy limits raw sound = sound

none_out : (pool : ℕ) (trace : Trace) → (script_of pool trace.lines.items).out ≡ []
unfolding script_of
none_out pool trace = refl

-- a pool that was made
pub made_sound : (trace : Trace) (pool : ℕ) (judged : Judged) →
    Checks (pool_policy (options_of trace pool)) (pool_limits pool (length trace.names.items) (options_of trace pool)) judged →
    IsSoundSlot (slot_of trace pool judged)
made_sound trace pool (Ok done) allowed =
    pool_sound (pool_policy (options_of trace pool)) (pool_limits pool (length trace.names.items) (options_of trace pool))
    (script_of pool trace.lines.items)
    (first_sound (pool_policy (options_of trace pool)) (pool_limits pool (length trace.names.items) (options_of trace pool))
    (script_of pool trace.lines.items) (none_out pool trace) allowed)
made_sound trace pool (Err error) refused = tt
