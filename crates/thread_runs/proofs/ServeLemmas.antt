-- What the runs of all threads come to together.
use Rattle.std.proofs.Common.{◌≡◌, ℕ, zero, suc, ◌<◌, ◌≤◌, ◌^◌, Bool, List, [], ◌∷◌, length, refl, sym, ap, ◌∙◌, subst}
use Rattle.std.proofs.Common.{arith}
use Rattle.std.specs.Prelude.{Option, Some, None, slice_get, option_map}
use Rattle.std.specs.Global.{Vec}
use Rattle.std.proofs.lemmas.Option.{slice_get-map, slice_get_within}
use Rattle.atomic_driver.specs.declared.rule.Plan.{Plan}
use Rattle.atomic_driver.specs.declared.seat.DriverSeat.{DriverSeat}
use Rattle.atomic_driver.specs.Rule.{key_by}
use Rattle.name_board.specs.declared.rule.Bound.{Bound}
use Rattle.name_board.specs.declared.rule.Names.{Names}
use Rattle.name_board.specs.Board.{AllSo, IsKnown, bound, word_of}
use Rattle.pool_types.specs.declared.raw.Raw.{Ghosts}
use Rattle.pool_types.specs.declared.values.Region.{Region}
use Rattle.pool_api.specs.Heaps.{entry_of}
use Rattle.pool_api.specs.Tables.{Stand}
use Rattle.quiet_pool.specs.Calls.{entries_of}
use Rattle.quiet_pool.specs.Held.{locals_of}
use Rattle.quiet_pool.specs.Quiet.{Quiet}
use Rattle.regions.specs.Offices.{Desk}
use Rattle.step_local.specs.declared.frames.Local.{Local}
use Rattle.step_local.specs.Frames.{made}
use Rattle.step_runs.specs.declared.entry.Entry.{Entry}
use Rattle.step_runs.specs.Entries.{first_entry}
use Rattle.thread_calls.specs.declared.calls.Said.{Said}
use Rattle.thread_calls.specs.Script.{IsScript, binder, count_own, owner_then, owners_of}
use Rattle.thread_lines.specs.Heaps.{Heap, IsRested, first_at, first_heaps, heap_in, heap_of}
use Rattle.thread_lines.proofs.TellLemmas.{tells_so}
use Rattle.thread_pools.specs.declared.columns.Column.{Column}
use Rattle.thread_pools.specs.Pools.{HasColumns}
use Rattle.trace_reader.specs.declared.acts.Forms.TheVariants as forms
use Rattle.trace_reader.specs.declared.acts.TraceLine.{TraceLine}
use Rattle.trace_reader.specs.declared.trace.Trace.{Trace}
use Rattle.trace_reader.proofs.CallerLemmas.{lines_are_numbered, names_are_bound_in_turn}
use Rattle.thread_runs.specs.Gathering.{AreColumns, AreQuiet, HaveRows, IsColumnAt, IsQuietAt, IsSeatOf, first_of}
use Rattle.thread_runs.specs.Gathering.{IsPath, firsts_of, heap_of_column, quiet_plan, row_of, said_by}
use Rattle.thread_runs.specs.Making.{stand_plan}
use Rattle.thread_runs.specs.Runs.{IsServed, IsWord}
use Rattle.thread_runs.specs.Telling.{AreSaid}
use Rattle.thread_runs.specs.Traces.{AreMadeAs, IsRead, flat, threads_in}
use Rattle.thread_runs.proofs.GatherLemmas.{heap_none}
use Rattle.thread_runs.proofs.MakeLemmas.{seats_at}
use Rattle.thread_runs.proofs.PathLemmas.{tells_count, tells_from}
use Rattle.thread_runs.proofs.PayLemmas.{path_earned}
use Rattle.thread_runs.proofs.QuietLemmas.{whole_columns}
use Rattle.thread_runs.proofs.SlotLemmas.{same_length}

-- the names of a trace, and its lines
owner_more : (one : Option ℕ) (owners : List ℕ) → length (owner_then one owners) ≤ suc (length owners)
owner_more None owners = omega arith
owner_more (Some thread) owners = omega arith

few_owners : (lines : List TraceLine) → length (owners_of lines) ≤ length lines
few_owners [] = omega arith
few_owners (line ∷ lines) =
    let rest = few_owners lines in let one = owner_more (binder line.act) (owners_of lines) in omega arith

-- so a board has room for them
pub few_names : (trace : Trace) (names : Names) → IsRead trace → names.owners.items ≡ owners_of trace.lines.items
    → length names.owners.items < 2 ^ 32
few_names trace names (bytes, read) owners =
    let n = (lines_are_numbered forms.Threads bytes trace read).1 in let m = few_owners trace.lines.items in
    let k = ap length owners in omega arith

pub is_script : (trace : Trace) (names : Names) → IsRead trace → names.owners.items ≡ owners_of trace.lines.items
    → IsScript names trace.lines.items
is_script trace names (bytes, read) owners = record {
  owners = owners;
  turns = names_are_bound_in_turn forms.Threads bytes trace read;
  few = let n = (lines_are_numbered forms.Threads bytes trace read).1 in omega arith;
}

-- a name that is known has its word on the board
named_so : (words : List ℕ) (known : List Bound) → AllSo words known → (name word : ℕ) → IsKnown known name word
    → IsWord (word_of words) name word
named_so words known so name word (j, at) = (so j (bound name word) at).0

module _ {R : Type 0} {raw : Ghosts R} where
  -- a quiet pool was made as its table
  plan_same : (slot : Option (Option Stand)) (column : Option (Column R raw)) (quiet : Option (Option (Quiet R)))
      → IsQuietAt slot column quiet → quiet_plan (flat quiet) ≡ stand_plan (flat slot)
  plan_same None column quiet is = ap (λ (o : Option (Option (Quiet R))). quiet_plan (flat o)) is
  plan_same (Some slot) None quiet is = absurd is
  plan_same (Some None) (Some column) quiet (one, is, none) =
      ap (λ (o : Option (Option (Quiet R))). quiet_plan (flat o)) is ∙ ap quiet_plan none
  plan_same (Some (Some s)) (Some column) quiet (None, is, never) = absurd never
  plan_same (Some (Some s)) (Some column) quiet (Some q, is, of) =
      ap (λ (o : Option (Option (Quiet R))). quiet_plan (flat o)) is ∙ ap (λ (p : Plan). Some p) of.0

  -- the first heap of a thread, by the table and by the quiet pool
  first_same : (thread : ℕ) (slot : Option (Option Stand)) (column : Option (Column R raw))
      (quiet : Option (Option (Quiet R))) → IsQuietAt slot column quiet
      → ◌≡◌ {A = Option (Heap (Desk R))} (first_at thread slot) (first_of thread (flat quiet))
  first_same thread None column quiet is = sym (ap (λ (o : Option (Option (Quiet R))). first_of thread (flat o)) is)
  first_same thread (Some slot) None quiet is = absurd is
  first_same thread (Some None) (Some column) quiet (one, is, none) =
      sym (ap (λ (o : Option (Option (Quiet R))). first_of thread (flat o)) is ∙ ap (first_of thread) none)
  first_same thread (Some (Some s)) (Some column) quiet (None, is, never) = absurd never
  first_same thread (Some (Some s)) (Some column) quiet (Some q, is, of) =
      sym (ap (λ (o : Option (Option (Quiet R))). first_of thread (flat o)) is
      ∙ ap (λ (p : Plan). Some (record { local = made (key_by p) thread; entry = first_entry (key_by p) thread }))
      of.0)

  -- a heap of a column is a seat of its quiet pool
  seat_there : (thread : ℕ) (heaps : List (DriverSeat R raw)) (x : DriverSeat R raw) (q : Quiet R)
      → slice_get heaps thread ≡ Some x → q.locals ≡ locals_of heaps → q.entries ≡ entries_of heaps
      → IsSeatOf thread (Some q) (heap_in (slice_get heaps thread))
  seat_there thread heaps x q at locals entries = (
    heap_of x,
    ap heap_in at,
    ap (λ (xs : List Local). slice_get xs thread) locals
        ∙ slice_get-map (λ (y : DriverSeat R raw). y.local) heaps thread
        ∙ ap (option_map (λ (y : DriverSeat R raw). y.local)) at,
    ap (λ (xs : List (Entry (Desk R))). slice_get xs thread) entries ∙ slice_get-map entry_of heaps thread
        ∙ ap (option_map entry_of) at,
  )

module _ {R : Type 0} (out : R → List Region) (faults : R → ℕ) (got : R → ℕ → Option Region → R → Type 0)
    (passed : R → Region → Bool → R → Type 0) {raw : Ghosts R} where
  seat_of : (thread : ℕ) (slot : Option (Option Stand)) (column : Option (Column R raw))
      (quiet : Option (Option (Quiet R))) → ((s : Stand) → slot ≡ Some (Some s) → thread < (key_by s.plan).seats)
      → IsColumnAt out faults got passed slot column → IsQuietAt slot column quiet
      → IsSeatOf thread (flat quiet) (heap_of_column column thread)
  seat_of thread None None quiet low has is =
      subst (λ (o : Option (Option (Quiet R))). IsSeatOf {R = R} thread (flat o) None) (sym is) refl
  seat_of thread None (Some column) quiet low has is = absurd has
  seat_of thread (Some slot) None quiet low has is = absurd has
  seat_of thread (Some None) (Some column) quiet low has (one, is, none) =
      subst (λ (o : Option (Option (Quiet R))). IsSeatOf thread (flat o)
      (heap_in (slice_get column.heaps.items thread)))
      (sym is) (subst (λ (o : Option (Quiet R)). IsSeatOf thread o (heap_in (slice_get column.heaps.items thread)))
      (sym none) (heap_none column.heaps.items thread has))
  seat_of thread (Some (Some s)) (Some column) quiet low has (None, is, never) = absurd never
  seat_of thread (Some (Some s)) (Some column) quiet low has (Some q, is, of) =
      let below = low s refl in
      let there = slice_get_there column.heaps.items thread (let n = has.0 in omega arith) in
      subst (λ (o : Option (Option (Quiet R))). IsSeatOf thread (flat o)
      (heap_in (slice_get column.heaps.items thread)))
      (sym is) (seat_there thread column.heaps.items there.0 q there.1 of.1 of.2)
    where
      slice_get_there : (xs : List (DriverSeat R raw)) (i : ℕ) → i < length xs
          → (x : DriverSeat R raw) × (slice_get xs i ≡ Some x)
      slice_get_there [] i short = absurd (omega arith)
      slice_get_there (x ∷ xs) zero short = (x, refl)
      slice_get_there (x ∷ xs) (suc i) short = slice_get_there xs i (omega arith)

  -- the threads have run their lines, and the pools are quiet
  all_served : (trace : Trace) (tables : List (Option Stand)) (columns : List (Column R raw)) (all : List (Vec Said))
      (quiet : List (Option (Quiet R))) (words : List ℕ) (known : List Bound) (count : ℕ)
      → AreMadeAs stand_plan trace tables → AreColumns out faults got passed tables columns
      → AreQuiet tables columns quiet
      → HaveRows (IsKnown known) tables trace.lines.items columns all count → count ≡ threads_in trace
      → AllSo words known
      → IsServed trace (said_by all) quiet
  all_served trace tables columns all quiet words known count as_made has are rows count_is so =
      let tables_len : length tables ≡ length quiet = same_length IsPair left right tables quiet
      (λ pool. (slice_get columns pool, are pool)) in
      record {
        made = record {
          count = sym tables_len ∙ as_made.count;
          each = λ pool low. let one = as_made.each pool low in record {
            judged = one.judged;
            checks = one.checks;
            plan_is = plan_same (slice_get tables pool) (slice_get columns pool) (slice_get quiet pool) (are pool)
                ∙ one.plan_is;
          };
        };
        words = word_of words;
        paths = path;
        earned = λ thread low. path_earned (IsWord (word_of words)) quiet trace.lines.items thread
            (said_by all thread) (path thread low);
      }
    where
      path : (thread : ℕ) → thread < threads_in trace
          → IsPath (IsWord (word_of words)) quiet trace.lines.items thread (said_by all thread)
      path thread low = record {
        heaps = row_of columns thread;
        tells = tells_from (IsWord (word_of words)) thread (first_heaps tables thread) (firsts_of quiet thread)
            (λ pool. first_same thread (slice_get tables pool) (slice_get columns pool) (slice_get quiet pool)
            (are pool))
            (tells_so (IsKnown known) (IsWord (word_of words)) (named_so words known so) thread
            (first_heaps tables thread) (rows.tells thread (let n = count_is in omega arith)));
        seats = λ pool. seat_of thread (slice_get tables pool) (slice_get columns pool) (slice_get quiet pool)
            (λ s at. let n = seats_at trace tables pool s as_made (slice_get_within tables pool (Some s) at) at in
            omega arith)
            (has pool) (are pool);
      }

      IsPair : Option (Option Stand) → Option (Option (Quiet R)) → Type 0
      IsPair slot one = (column : Option (Column R raw)) × IsQuietAt slot column one

      left : (x : Option Stand) → IsPair (Some x) None → ⊥
      left x (None, never) = never
      left x (Some column, (one, is, of)) = cc

      right : (y : Option (Quiet R)) → IsPair None (Some y) → ⊥
      right y (column, is) = cc

  -- the same, where slices have the tables and the lines, and a vector was written through a slice
  pub served_by : (trace : Trace) (tables slots : List (Option Stand)) (lines : List TraceLine)
      (columns taken : List (Column R raw)) (all : List (Vec Said)) (quiet : List (Option (Quiet R))) (words : List ℕ)
      (known : List Bound) (count : ℕ) → slots ≡ tables → lines ≡ trace.lines.items → taken ≡ columns
      → AreMadeAs stand_plan trace tables → HasColumns (IsRested out faults got passed) count slots columns
      → AreQuiet tables taken quiet → HaveRows (IsKnown known) slots lines columns all count → count ≡ threads_in trace
      → AllSo words known → IsServed trace (said_by all) quiet
  served_by trace tables slots lines columns taken all quiet words known count slots_are lines_are taken_are as_made has
      are
      rows count_is so =
      all_served trace tables columns all quiet words known count as_made
      (whole_columns out faults got passed trace tables columns count count_is as_made
      (subst (λ (ts : List (Option Stand)). HasColumns (IsRested out faults got passed) count ts columns) slots_are
      has))
      (subst (λ (cs : List (Column R raw)). AreQuiet tables cs quiet) taken_are are)
      (subst (λ (z : List (Option Stand) × List TraceLine). HaveRows (IsKnown known) z.0 z.1 columns all count)
      (λ k. (slots_are k, lines_are k)) rows) count_is so

  -- the columns of all threads' heaps are whole
  pub columns_by : (trace : Trace) (tables slots : List (Option Stand)) (columns taken : List (Column R raw))
      (count : ℕ)
      → slots ≡ tables → taken ≡ columns → AreMadeAs stand_plan trace tables
      → HasColumns (IsRested out faults got passed) count slots columns → count ≡ threads_in trace
      → AreColumns out faults got passed tables taken
  columns_by trace tables slots columns taken count slots_are taken_are as_made has count_is =
      subst (AreColumns out faults got passed tables) (sym taken_are)
      (whole_columns out faults got passed trace tables columns count count_is as_made
      (subst (λ (ts : List (Option Stand)). HasColumns (IsRested out faults got passed) count ts columns) slots_are
      has))

-- what their calls came to is there
pub all_said : {R : Type 0} {raw : Ghosts R} (trace : Trace) (slots : List (Option Stand)) (lines : List TraceLine)
    (columns : List (Column R raw)) (all : List (Vec Said)) (known : List Bound) (count : ℕ)
    → lines ≡ trace.lines.items
    → HaveRows (IsKnown known) slots lines columns all count → count ≡ threads_in trace → AreSaid trace all
all_said trace slots lines columns all known count lines_are rows is = record {
  count = rows.count_is ∙ is;
  enough = λ thread low. let n = tells_count (IsKnown known) thread (first_heaps slots thread)
      (rows.tells thread (omega arith)) in
      let m = ap (count_own thread) lines_are in omega arith;
}
