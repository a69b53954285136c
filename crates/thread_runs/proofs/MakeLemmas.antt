-- Pools that are made as their trace says.
use Rattle.std.proofs.Common.{◌≡◌, ℕ, ◌+◌, ◌<◌, ◌≤◌, Bool, List, [], ◌∷◌, ◌++◌, length, refl, sym, ap, ◌∙◌, subst}
use Rattle.std.proofs.Common.{⊎_elim, arith}
use Rattle.std.specs.Prelude.{Option, Some, None, Ok, Err, slice_get}
use Rattle.std.proofs.lemmas.Bool.{cases_lt}
use Rattle.list_laws.proofs.Gets.{slice_get-within, slice_get-end}
use Rattle.atomic_driver.specs.declared.pool.Shared.{Shared}
use Rattle.atomic_driver.specs.declared.rule.Plan.{Plan}
use Rattle.atomic_driver.specs.declared.seat.DriverSeat.{DriverSeat}
use Rattle.atomic_driver.specs.Rule.{key_by}
use Rattle.atomic_driver.specs.Seating.{IsPool}
use Rattle.pool_types.specs.declared.policy.Limits.{Limits}
use Rattle.pool_types.specs.declared.raw.Raw.{Ghosts}
use Rattle.pool_types.specs.declared.values.Region.{Region}
use Rattle.pool_api.specs.declared.tables.Rest.{Rest}
use Rattle.pool_api.specs.Heaps.{AreFresh}
use Rattle.pool_api.specs.Tables.{Stand, stand_of}
use Rattle.thread_pools.specs.declared.columns.Column.{Column}
use Rattle.thread_pools.specs.Pools.{IsFreshAt, ColumnOf, ColumnAt, HasColumns}
use Rattle.thread_pools.proofs.FreshLemmas.{fresh_at}
use Rattle.trace_calls.specs.Pools.{Judged, default_limits, limits_with, option_limits, pool_limits}
use Rattle.trace_reader.specs.declared.acts.PoolOption.{PoolOption}
use Rattle.trace_reader.specs.declared.acts.PoolOption.TheVariants as option
use Rattle.trace_reader.specs.declared.trace.Trace.{Trace}
use Rattle.trace_runs.specs.Making.{options_of}
use Rattle.thread_runs.specs.Making.{HasRests, RestAt, RestIn, stand_plan}
use Rattle.thread_runs.specs.Traces.{AreMadeAs, IsMadeAs, flat, plan_by, plan_of, threads_in}
use Rattle.thread_starts.proofs.CrewLemmas.{length_more}
use Rattle.thread_runs.proofs.SlotLemmas.{each_more}

-- options leave the seats
seats_option : (limits : Limits) (o : PoolOption) → (option_limits limits o).seats ≡ limits.seats
seats_option limits (option.Region bytes) = refl
seats_option limits (option.Span granules) = refl
seats_option limits option.Fixed = refl
seats_option limits option.Keep = refl
seats_option limits option.NoGet = refl
seats_option limits option.NoFree = refl
seats_option limits (option.Gran bytes) = refl
seats_option limits (option.Version version) = refl
seats_option limits (option.Reserved word) = refl

seats_kept : (limits : Limits) (options : List PoolOption) → (limits_with limits options).seats ≡ limits.seats
seats_kept limits [] = refl
seats_kept limits (o ∷ options) = seats_kept (option_limits limits o) options ∙ seats_option limits o

-- a pool has as many seats as are asked
pub limits_seats : (pool seats : ℕ) (options : List PoolOption) → (pool_limits pool seats options).seats ≡ seats
limits_seats pool seats options = seats_kept (default_limits pool seats) options

module _ {R : Type 0} (out : R → List Region) (faults : R → ℕ) (got : R → ℕ → Option Region → R → Type 0)
    (passed : R → Region → Bool → R → Type 0) {raw : Ghosts R} where
  -- the heaps of a new pool
  pub new_column : (s : Shared R) (table : Stand) (xs : List (DriverSeat R raw)) (count : ℕ) → table ≡ stand_of s
      → IsPool out faults got passed s → AreFresh out faults got passed s xs → length xs ≡ count
      → ColumnOf (IsFreshAt out faults got passed) count (Some table) xs
  new_column s table xs count is pool fresh len =
      subst (λ (t : Stand). ColumnOf (IsFreshAt out faults got passed) count (Some t) xs) (sym is)
      (len, λ i x at. fresh_at out faults got passed s i x pool (fresh i x at))

-- so many slots are as the trace says
pub record MadeTo {X : Type 0} (plan : Option X → Option Plan) (trace : Trace) (slots : List (Option X)) (count : ℕ)
    : Type 0 where
  pub len : length slots ≡ count
  pub each : (pool : ℕ) → pool < count → IsMadeAs trace pool (plan (flat (slice_get slots pool)))

module _ {X : Type 0} (plan : Option X → Option Plan) (trace : Trace) where
  pub made_more : (slots : List (Option X)) (count : ℕ) (slot : Option X) → MadeTo plan trace slots count
      → IsMadeAs trace count (plan slot) → MadeTo plan trace (slots ++ slot ∷ []) (count + 1)
  made_more slots count slot to made = record {
    len = let n = length_more slots slot in let m = to.len in omega arith;
    each = λ pool low. ⊎_elim
        (λ (less : pool < count). subst (λ (o : Option (Option X)). IsMadeAs trace pool (plan (flat o)))
        (sym (slice_get-within slots (slot ∷ []) pool (let m = to.len in omega arith))) (to.each pool less))
        (λ (more : count ≤ pool).
        let here : pool ≡ count = omega arith in
        subst (λ (p : ℕ). IsMadeAs trace p (plan (flat (slice_get (slots ++ slot ∷ []) p)))) (sym here)
        (subst (λ (o : Option (Option X)). IsMadeAs trace count (plan (flat o)))
        (sym (ap (slice_get (slots ++ slot ∷ [])) (sym to.len) ∙ slice_get-end slots slot)) made))
        (cases_lt pool count);
  }

-- one pool more, with its rest and its heaps
pub rests_more : {R : Type 0} (tables : List (Option Stand)) (rests : List (Option (Rest R))) (table : Option Stand)
    (rest : Option (Rest R)) → length tables ≡ length rests → HasRests tables rests → RestIn table rest
    → HasRests (tables ++ table ∷ []) (rests ++ rest ∷ [])
rests_more tables rests table rest len has one = each_more RestAt tables rests table rest len tt has one

pub columns_more : {R : Type 0} {raw : Ghosts R} (P : Stand → ℕ → DriverSeat R raw → Type 0) (count : ℕ)
    (tables : List (Option Stand)) (columns : List (Column R raw)) (table : Option Stand) (column : Column R raw)
    → length tables ≡ length columns → HasColumns P count tables columns → ColumnOf P count table column.heaps.items
    → HasColumns P count (tables ++ table ∷ []) (columns ++ column ∷ [])
columns_more P count tables columns table column len has one =
    each_more (ColumnAt P count) tables columns table column len tt has one

-- a pool that was made has a seat for each thread
seats_by : (trace : Trace) (pool : ℕ) (s : Stand) (judged : Judged) → Some s.plan ≡ plan_by trace pool judged
    → (key_by s.plan).seats ≡ threads_in trace
seats_by trace pool s (Ok done) is =
    let same : s.plan ≡ plan_of trace pool = cc in ap (λ (p : Plan). p.limits.seats) same
    ∙ limits_seats pool (threads_in trace) (options_of trace pool)
seats_by trace pool s (Err refusal) is =
    let h : ◌≡◌ {A = Option Plan} (Some s.plan) None = is in absurd (cc)

pub seats_at : (trace : Trace) (tables : List (Option Stand)) (pool : ℕ) (s : Stand)
    → AreMadeAs stand_plan trace tables
    → pool < length tables → slice_get tables pool ≡ Some (Some s) → (key_by s.plan).seats ≡ threads_in trace
seats_at trace tables pool s made low at =
    let one = made.each pool (let n = made.count in omega arith) in
    seats_by trace pool s one.judged (ap (λ (o : Option (Option Stand)). stand_plan (flat o)) (sym at) ∙ one.plan_is)
