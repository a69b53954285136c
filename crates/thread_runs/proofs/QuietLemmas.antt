-- Pools that are made quiet with all their heaps.
use Rattle.std.proofs.Common.{◌≡◌, ℕ, zero, suc, ◌+◌, ◌%◌, ◌^◌, Bool, true, not, cond, List, [], ◌∷◌, ◌++◌, length}
use Rattle.std.proofs.Common.{refl, sym, ap, ◌∙◌, subst, append_assoc, arith}
use Rattle.std.specs.Prelude.{Option, Some, None, slice_get, option_to_list}
use Rattle.std.specs.Option.{IsSome, option_flatten}
use Rattle.std.proofs.lemmas.List.{append-nil}
use Rattle.std.proofs.lemmas.Option.{slice_get_within}
use lib.ListN.{get_elem?}
use mathlib.Core.Option.{some}
use Rattle.atomic_driver.specs.declared.pool.Shared.{Shared}
use Rattle.atomic_driver.specs.declared.rule.Plan.{Plan}
use Rattle.atomic_driver.specs.declared.seat.DriverSeat.{DriverSeat}
use Rattle.atomic_driver.specs.Rule.{key_by}
use Rattle.atomic_driver.specs.Seating.{IsPool}
use Rattle.pool_types.specs.declared.raw.Raw.{Ghosts}
use Rattle.pool_types.specs.declared.values.Region.{Region}
use Rattle.pool_api.specs.declared.tables.Rest.{Rest}
use Rattle.pool_api.specs.Tables.{Stand, stand_of}
use Rattle.quiet_pool.specs.declared.refusals.QuietCause.{QuietCause}
use Rattle.quiet_pool.specs.declared.refusals.QuietCause.TheVariants.{MissingHeaps, CallBegun}
use Rattle.quiet_pool.specs.Calls.{AreHeaps, IsCause}
use Rattle.quiet_pool.specs.Held.{locals_of}
use Rattle.quiet_pool.specs.Quiet.{AreIdle, Quiet}
use Rattle.quiet_pool.proofs.Lists.{at_image}
use Rattle.step_core.specs.Machines.{lowest_from}
use Rattle.step_local.specs.declared.frames.Local.{Local}
use Rattle.step_local.specs.Getting.{is_idle}
use Rattle.thread_lines.specs.Heaps.{IsRested}
use Rattle.thread_pools.specs.declared.columns.Column.{Column}
use Rattle.thread_pools.specs.Pools.{ColumnAt, HasColumns}
use Rattle.trace_reader.specs.declared.trace.Trace.{Trace}
use Rattle.thread_starts.proofs.CrewLemmas.{length_more}
use Rattle.thread_runs.specs.Gathering.{AreColumns, AreQuiet, IsColumn, IsColumnAt, IsQuietOf}
use Rattle.thread_runs.specs.Making.{HasRests, RestAt, RestIn, stand_plan}
use Rattle.thread_runs.specs.Traces.{AreMadeAs, threads_in}
use Rattle.thread_runs.proofs.MakeLemmas.{seats_at}
use Rattle.thread_runs.proofs.SlotLemmas.{each_front, each_last, no_items, same_length}

-- what is taken off a list that has something
pub popped : {X : Type 0} (old new : List (Option X)) (o : Option (Option X)) (x : Option X)
    → old ≡ new ++ option_to_list o → IsSome o → x ≡ option_flatten o → old ≡ new ++ x ∷ []
popped old new None x is some_ flat = absurd cc
popped old new (Some y) x is some_ flat = is ∙ ap (λ (z : Option _). new ++ z ∷ []) (sym flat)

-- where no seat is in a call, none is the lowest
idle_none : (seat : ℕ) (locals : List Local) → AreIdle locals → lowest_from seat locals ≡ None
idle_none seat [] idle = refl
idle_none seat (l ∷ locals) idle =
    ap (λ (b : Bool). cond (not b) (Some (seat % 2 ^ 8)) (lowest_from (seat + 1) locals)) (idle zero l refl)
    ∙ idle_none (seat + 1) locals (λ i x at. idle (suc i) x at)

pub rest_lengths : {R : Type 0} (tables : List (Option Stand)) (rests : List (Option (Rest R))) → HasRests tables rests
    → length tables ≡ length rests
rest_lengths = same_length RestAt (λ x none. none) (λ y none. none)

module _ {R : Type 0} (out : R → List Region) (faults : R → ℕ) (got : R → ℕ → Option Region → R → Type 0)
    (passed : R → Region → Bool → R → Type 0) {raw : Ghosts R} where
  -- heaps that rest are in no call
  rested_idle : (s : Stand) (heaps : List (DriverSeat R raw))
      → ((i : ℕ) (x : DriverSeat R raw) → get_elem? heaps i ≡ some x → IsRested out faults got passed s i x)
      → AreIdle (locals_of heaps)
  rested_idle s heaps all seat l at =
      let from = at_image (λ (x : DriverSeat R raw). x.local) heaps seat l at in
      subst (λ (one : Local). is_idle one.at ≡ true) from.is (all seat from.one from.at).rests.0

  -- the heaps of a whole pool
  pub heaps_are : (s : Stand) (pool : Shared R) (heaps : List (DriverSeat R raw)) → stand_of pool ≡ s
      → IsPool out faults got passed pool → IsColumn out faults got passed (Some s) heaps
      → AreHeaps out faults got passed pool heaps
  heaps_are s pool heaps is whole column =
      let plan : pool.plan ≡ s.plan = sym whole.same_plan ∙ ap (λ (t : Stand). t.plan) is in
      record {
        most = let n = column.0 in let m = ap (λ (p : Plan). (key_by p).seats) plan in omega arith;
        each = λ seat x at. let one = column.1 seat x at in
            record {
              same_table = one.heap.same_table ∙ sym (ap (λ (t : Stand). t.table) is);
              same_plan = one.heap.same_plan ∙ sym plan;
              number = one.entry;
              driven = one.heap.driven;
            };
      }

  -- a whole pool is not refused
  pub not_refused : (s : Stand) (pool : Shared R) (heaps : List (DriverSeat R raw)) (cause : QuietCause)
      → stand_of pool ≡ s
      → IsPool out faults got passed pool → IsColumn out faults got passed (Some s) heaps → IsCause pool heaps cause
      → ⊥
  not_refused s pool heaps (MissingHeaps given made) is whole column (fewer, given_is, made_is) =
      let plan : pool.plan ≡ s.plan = sym whole.same_plan ∙ ap (λ (t : Stand). t.plan) is in
      let n = column.0 in
      let m = ap (λ (p : Plan). (key_by p).seats) plan in
      omega arith
  not_refused s pool heaps (CallBegun seat) is whole column (count, lowest) =
      let none = idle_none 0 (locals_of heaps) (rested_idle s heaps column.1) in cc

  -- tables, rests and columns, of which the last are quiet already
  pub record AreLeft (tables : List (Option Stand)) (columns : List (Column R raw)) (left : List (Option Stand))
      (rests : List (Option (Rest R))) (still : List (Column R raw)) (all : List (Option (Quiet R))) : Type 0 where
    pub has : HasRests left rests
    pub are : AreColumns out faults got passed left still
    pub ts : List (Option Stand)
    pub cs : List (Column R raw)
    pub tables_are : tables ≡ left ++ ts
    pub columns_are : columns ≡ still ++ cs
    pub quiet : AreQuiet ts cs all

  pub all_left : (tables : List (Option Stand)) (columns : List (Column R raw)) (rests : List (Option (Rest R)))
      (all : List (Option (Quiet R))) → all ≡ [] → HasRests tables rests
      → AreColumns out faults got passed tables columns
      → AreLeft tables columns tables rests columns all
  all_left tables columns rests all none has are = record {
    has = has;
    are = are;
    ts = [];
    cs = [];
    tables_are = sym (append-nil tables);
    columns_are = sym (append-nil columns);
    quiet = λ pool. ap (λ (xs : List (Option (Quiet R))). slice_get xs pool) none;
  }

  pub lengths : (tables : List (Option Stand)) (columns : List (Column R raw))
      → AreColumns out faults got passed tables columns
      → length tables ≡ length columns
  lengths = same_length (IsColumnAt out faults got passed) (λ x none. none) (λ y none. none)

  -- the last that are left
  pub record AreLast (left next : List (Option Stand)) (rests fewer : List (Option (Rest R)))
      (still others : List (Column R raw)) (table : Option Stand) (rest : Option (Rest R)) (column : Column R raw)
      : Type 0 where
    pub rest_is : RestIn table rest
    pub column_is : IsColumn out faults got passed table column.heaps.items
    pub has : HasRests next fewer
    pub are : AreColumns out faults got passed next others

  pub last_left : (left next : List (Option Stand)) (rests fewer : List (Option (Rest R)))
      (still others : List (Column R raw)) (table : Option Stand) (rest : Option (Rest R)) (column : Column R raw)
      → HasRests left rests → AreColumns out faults got passed left still → left ≡ next ++ table ∷ []
      → rests ≡ fewer ++ rest ∷ [] → still ≡ others ++ column ∷ []
      → AreLast left next rests fewer still others table rest column
  last_left left next rests fewer still others table rest column has are left_is rests_is still_is =
      let n : length next ≡ length others = let a = lengths left still are in let b = ap length left_is in
      let c = ap length still_is in let d = length_more next table in let e = length_more others column in
      omega arith in
      let m : length next ≡ length fewer = let a = rest_lengths left rests has in let b = ap length left_is in
      let c = ap length rests_is in let d = length_more next table in let e = length_more fewer rest in omega arith in
      let has_all : HasRests (next ++ table ∷ []) (fewer ++ rest ∷ []) =
      subst (λ (z : List (Option Stand) × List (Option (Rest R))). HasRests z.0 z.1) (λ k. (left_is k, rests_is k)) has
      in
      let are_all : AreColumns out faults got passed (next ++ table ∷ []) (others ++ column ∷ []) =
      subst (λ (z : List (Option Stand) × List (Column R raw)). AreColumns out faults got passed z.0 z.1)
      (λ k. (left_is k, still_is k)) are in
      record {
        rest_is = each_last RestAt next fewer table rest m has_all;
        column_is = each_last (IsColumnAt out faults got passed) next others table column n are_all;
        has = each_front RestAt next fewer table rest m tt has_all;
        are = each_front (IsColumnAt out faults got passed) next others table column n tt are_all;
      }

  -- one more is quiet
  pub fewer_left : (tables : List (Option Stand)) (columns : List (Column R raw)) (left next : List (Option Stand))
      (rests fewer : List (Option (Rest R))) (still others : List (Column R raw)) (all : List (Option (Quiet R)))
      (table : Option Stand) (rest : Option (Rest R)) (column : Column R raw) (q : Option (Quiet R))
      → AreLeft tables columns left rests still all → left ≡ next ++ table ∷ [] → still ≡ others ++ column ∷ []
      → AreLast left next rests fewer still others table rest column → IsQuietOf table column.heaps.items q
      → AreLeft tables columns next fewer others (q ∷ all)
  fewer_left tables columns left next rests fewer still others all table rest column q so left_is still_is last quiet =
      record {
        has = last.has;
        are = last.are;
        ts = table ∷ so.ts;
        cs = column ∷ so.cs;
        tables_are = so.tables_are ∙ ap (λ (xs : List (Option Stand)). xs ++ so.ts) left_is
            ∙ append_assoc next (table ∷ []) so.ts;
        columns_are = so.columns_are ∙ ap (λ (xs : List (Column R raw)). xs ++ so.cs) still_is
            ∙ append_assoc others (column ∷ []) so.cs;
        quiet = by so.ts so.cs all so.quiet;
      }
    where
      by : (ts : List (Option Stand)) (cs : List (Column R raw)) (qs : List (Option (Quiet R))) → AreQuiet ts cs qs
          → AreQuiet (table ∷ ts) (column ∷ cs) (q ∷ qs)
      by ts cs qs are zero = (q, refl, quiet)
      by ts cs qs are (suc pool) = are pool

  -- all are quiet
  pub none_left : (tables : List (Option Stand)) (columns : List (Column R raw)) (left : List (Option Stand))
      (rests : List (Option (Rest R))) (still : List (Column R raw)) (all : List (Option (Quiet R)))
      → AreLeft tables columns left rests still all → still ≡ [] → AreQuiet tables columns all
  none_left tables columns left rests still all so none =
      let no_tables : left ≡ [] = no_items left (lengths left still so.are ∙ ap length none) in
      subst (λ (z : List (Option Stand) × List (Column R raw)). AreQuiet z.0 z.1 all)
      (λ k. (
        sym (so.tables_are ∙ ap (λ (xs : List (Option Stand)). xs ++ so.ts) no_tables) k,
        sym (so.columns_are ∙ ap (λ (xs : List (Column R raw)). xs ++ so.cs) none) k,
      )) so.quiet

  -- the columns of all threads' heaps are whole
  pub whole_columns : (trace : Trace) (tables : List (Option Stand)) (columns : List (Column R raw)) (count : ℕ)
      → count ≡ threads_in trace → AreMadeAs stand_plan trace tables
      → HasColumns (IsRested out faults got passed) count tables columns
      → AreColumns out faults got passed tables columns
  whole_columns trace tables columns count is made has pool =
      by (slice_get tables pool) (slice_get columns pool) refl (has pool)
    where
      by : (slot : Option (Option Stand)) (column : Option (Column R raw)) → slice_get tables pool ≡ slot
          → ColumnAt (IsRested out faults got passed) count slot column → IsColumnAt out faults got passed slot column
      by None None at q = tt
      by None (Some column) at q = absurd q
      by (Some slot) None at q = absurd q
      by (Some None) (Some column) at q = q
      by (Some (Some s)) (Some column) at q =
          (q.0 ∙ is ∙ sym (seats_at trace tables pool s made (slice_get_within tables pool (Some s) at) at), q.1)
