-- The heaps of one thread more in their columns, and what its lines came to.
use Rattle.std.proofs.Common.{◌≡◌, ℕ, zero, suc, ◌+◌, ◌<◌, ◌≤◌, Bool, List, [], ◌∷◌, ◌++◌, length, refl, sym, ap, ◌∙◌}
use Rattle.std.proofs.Common.{subst, ⊎_elim, arith}
use Rattle.std.specs.Prelude.{Option, Some, None, slice_get, option_to_list}
use Rattle.std.specs.Global.{Vec}
use Rattle.std.proofs.lemmas.Bool.{cases_lt}
use Rattle.std.proofs.lemmas.List.{take_all, length-map}
use mathlib.Core.Option.{some, some-ne-none}
use lib.ListN.{get_elem?}
use Rattle.list_laws.proofs.Gets.{slice_get-within, slice_get-end}
use Rattle.atomic_table.specs.Seated.{TableId}
use Rattle.atomic_table.proofs.Lists.{at_last, at_longer}
use Rattle.atomic_driver.specs.declared.seat.DriverSeat.{DriverSeat}
use Rattle.atomic_driver.proofs.CallerLemmas.{at_end}
use Rattle.crossbeam_utils.specs.Padded.{padded_value}
use Rattle.name_board.specs.declared.rule.Bound.{Bound}
use Rattle.name_board.specs.Board.{IsKnown}
use Rattle.pool_types.specs.declared.raw.Raw.{Ghosts}
use Rattle.pool_types.specs.declared.values.Region.{Region}
use Rattle.pool_api.specs.Tables.{Stand}
use Rattle.quiet_pool.proofs.Lists.{at_image}
use Rattle.trace_reader.specs.declared.acts.TraceLine.{TraceLine}
use Rattle.thread_calls.specs.declared.calls.Said.{Said}
use Rattle.thread_lines.specs.declared.worker.Worker.{Worker}
use Rattle.thread_lines.specs.Heaps.{AreHeaps, FitsAt, IsRested, first_heaps, heap_at, heap_in, heaps_in}
use Rattle.thread_lines.specs.Telling.{Tells}
use Rattle.thread_lines.specs.Working.{Works}
use Rattle.thread_lines.proofs.TellLemmas.{known_more, tells_so}
use Rattle.thread_pools.specs.declared.columns.Column.{Column}
use Rattle.thread_pools.specs.Columns.{PutsAt}
use Rattle.thread_pools.specs.Crews.{AreWorkers}
use Rattle.thread_pools.specs.Pools.{ColumnAt, ColumnOf, HasColumns, IsFreshAt}
use Rattle.thread_starts.specs.Crews.{Each, IsDone, threads_of}
use Rattle.thread_starts.proofs.CrewLemmas.{each_front, length_more, map_more}
use Rattle.thread_runs.specs.Gathering.{AreInTurn, HaveRows, heap_of_column, row_of, said_by, said_in}
use Rattle.thread_runs.proofs.PathLemmas.{known_behind, tells_to}
use Rattle.thread_runs.proofs.SlotLemmas.{same_length}

module _ {A : Type 0} where
  pub each_of : (P : A → Type 0) (xs : List A) → ((i : ℕ) (x : A) → get_elem? xs i ≡ some x → P x) → Each P xs
  each_of P [] all = tt
  each_of P (x ∷ xs) all = (all zero x refl, each_of P xs (λ i y at. all (suc i) y at))

-- the threads of workers, whose last comes first
front_in_turn : (count thread : ℕ) (threads : List ℕ) → AreInTurn count (threads ++ thread ∷ [])
    → AreInTurn count threads
front_in_turn count thread threads are i one at = are i one (at_longer threads (thread ∷ []) i one at)

module _ {R : Type 0} {raw : Ghosts R} where
  -- no heap is taken of an empty column
  pub heap_none : (heaps : List (DriverSeat R raw)) (thread : ℕ) → heaps ≡ [] → heap_in (slice_get heaps thread) ≡ None
  heap_none heaps thread none = ap (λ (xs : List (DriverSeat R raw)). heap_in (slice_get xs thread)) none

module _ {R : Type 0} (out : R → List Region) (faults : R → ℕ) (got : R → ℕ → Option Region → R → Type 0)
    (passed : R → Region → Bool → R → Type 0) {raw : Ghosts R} (count : ℕ) where
  abbrev Rested : Stand → ℕ → DriverSeat R raw → Type 0
  Rested = IsRested out faults got passed

  -- the thread's heap stands in the column, behind those of earlier threads
  pub record IsPut (slot : Option (Option Stand)) (old : Option (Column R raw))
      (row : Option (Option (DriverSeat R raw)))
      (new : Option (Column R raw)) : Type 0 where
    pub column : ColumnAt Rested (suc count) slot new
    pub last : heap_of_column new count ≡ heap_at row
    pub before : (thread : ℕ) → thread < count → heap_of_column new thread ≡ heap_of_column old thread

  put_none : (old new : Column R raw) (given : Option (DriverSeat R raw)) → given ≡ None → old.heaps.items ≡ []
      → new.heaps.items ≡ old.heaps.items ++ option_to_list given
      → IsPut (Some None) (Some old) (Some given) (Some new)
  put_none old new given none empty puts =
      let still : new.heaps.items ≡ [] = puts ∙ (λ k. empty k ++ option_to_list (none k)) in
      record {
        column = still;
        last = heap_none new.heaps.items count still ∙ sym (ap heap_in none);
        before = λ thread low. heap_none new.heaps.items thread still ∙ sym (heap_none old.heaps.items thread empty);
      }

  put_some : (s : Stand) (old new : Column R raw) (x : DriverSeat R raw)
      → ColumnOf Rested count (Some s) old.heaps.items
      → Rested s count x → new.heaps.items ≡ old.heaps.items ++ x ∷ []
      → IsPut (Some (Some s)) (Some old) (Some (Some x)) (Some new)
  put_some s old new x column rested puts =
      let at : (thread : ℕ) → heap_in (slice_get new.heaps.items thread)
      ≡ heap_in (slice_get (old.heaps.items ++ x ∷ []) thread) =
      λ thread. ap (λ (xs : List (DriverSeat R raw)). heap_in (slice_get xs thread)) puts in
      record {
        column = (
          ap length puts ∙ length_more old.heaps.items x ∙ ap suc column.0,
          λ i y here. ⊎_elim
              (λ (z : (get_elem? old.heaps.items i ≡ some y) × (i < length old.heaps.items)). column.1 i y z.0)
              (λ (z : (i ≡ length old.heaps.items) × (x ≡ y)).
              subst (λ (v : ℕ × DriverSeat R raw). Rested s v.0 v.1) (λ k. (sym (z.0 ∙ column.0) k, z.1 k)) rested)
              (at_end old.heaps.items x i y (sym (ap (λ (xs : List (DriverSeat R raw)). get_elem? xs i) puts) ∙ here)),
        );
        last = at count ∙ ap (λ (n : ℕ). heap_in (slice_get (old.heaps.items ++ x ∷ []) n)) (sym column.0)
            ∙ ap heap_in (slice_get-end old.heaps.items x);
        before = λ thread low. at thread
            ∙ ap heap_in (slice_get-within old.heaps.items (x ∷ []) thread (let n = column.0 in omega arith));
      }

  puts_at : (slot : Option (Option Stand)) (old : Option (Column R raw)) (row : Option (Option (DriverSeat R raw)))
      (new : Option (Column R raw)) → ColumnAt Rested count slot old → FitsAt out faults got passed count slot row
      → PutsAt old row new → IsPut slot old row new
  puts_at None None None new column fits none = subst (IsPut None None None) (sym none) (record {
    column = tt;
    last = refl;
    before = λ thread low. refl;
  })
  puts_at None None (Some given) new column fits none = absurd fits
  puts_at None (Some old) row new column fits puts = absurd column
  puts_at (Some slot) None row new column fits puts = absurd column
  puts_at (Some slot) (Some old) None new column fits puts = absurd fits
  puts_at (Some None) (Some old) (Some None) new column fits (given, all, is, new_is, puts) =
      let none : given ≡ None = cc in
      subst (IsPut (Some None) (Some old) (Some None)) (sym new_is)
      (put_none old all None refl column
      (puts ∙ ap (λ (g : Option (DriverSeat R raw)). old.heaps.items ++ option_to_list g) none))
  puts_at (Some None) (Some old) (Some (Some x)) new column fits puts = absurd fits
  puts_at (Some (Some s)) (Some old) (Some None) new column fits puts = absurd fits
  puts_at (Some (Some s)) (Some old) (Some (Some x)) new column fits (given, all, is, new_is, puts) =
      let some_x : given ≡ Some x = cc in
      subst (IsPut (Some (Some s)) (Some old) (Some (Some x))) (sym new_is)
      (put_some s old all x column fits
      (puts ∙ ap (λ (g : Option (DriverSeat R raw)). old.heaps.items ++ option_to_list g) some_x))

  -- a row of heaps is put back
  pub put_back : (pools : List (Option Stand)) (old new : List (Column R raw)) (row : List (Option (DriverSeat R raw)))
      → HasColumns Rested count pools old → AreHeaps out faults got passed pools count row
      → ((pool : ℕ) → PutsAt (slice_get old pool) (slice_get row pool) (slice_get new pool)) → (pool : ℕ)
      → IsPut (slice_get pools pool) (slice_get old pool) (slice_get row pool) (slice_get new pool)
  put_back pools old new row has fits puts pool =
      puts_at (slice_get pools pool) (slice_get old pool) (slice_get row pool) (slice_get new pool) (has pool)
      (fits pool)
      (puts pool)

  -- there are as many heaps as columns
  pub row_fits : (pools : List (Option Stand)) (columns : List (Column R raw)) (row : List (Option (DriverSeat R raw)))
      (thread : ℕ) → HasColumns Rested count pools columns → AreHeaps out faults got passed pools thread row
      → length row ≡ length columns
  row_fits pools columns row thread has fits =
      sym (same_length (FitsAt out faults got passed thread) (λ x none. none) (λ y none. none) pools row fits)
      ∙ same_length (ColumnAt Rested count) (λ x none. none) (λ y none. none) pools columns has

module _ {R : Type 0} (out : R → List Region) (faults : R → ℕ) (got : R → ℕ → Option Region → R → Type 0)
    (passed : R → Region → Bool → R → Type 0) {raw : Ghosts R} (pools : List (Option Stand)) (board : TableId)
    (lines : List TraceLine) where
  -- no heap has been put back
  pub no_heaps : (columns : List (Column R raw)) → HasColumns (IsFreshAt out faults got passed) 0 pools columns
      → HasColumns (IsRested out faults got passed) 0 pools columns
  no_heaps columns has pool = by (slice_get pools pool) (slice_get columns pool) (has pool)
    where
      none_there : (heaps : List (DriverSeat R raw)) → length heaps ≡ 0 → (i : ℕ) (x : DriverSeat R raw)
          → get_elem? heaps i ≡ some x → ⊥
      none_there [] none i x at = absurd (some-ne-none x (sym at))
      none_there (y ∷ ys) none i x at = absurd (omega arith)

      by : (slot : Option (Option Stand)) (column : Option (Column R raw))
          → ColumnAt (IsFreshAt out faults got passed) 0 slot column
          → ColumnAt (IsRested out faults got passed) 0 slot column
      by None None q = tt
      by None (Some column) q = absurd q
      by (Some slot) None q = absurd q
      by (Some None) (Some column) q = q
      by (Some (Some s)) (Some column) q = (q.0, λ i x at. absurd (none_there column.heaps.items q.0 i x at))

  pub works_of : (threads : ℕ) (ws : List (Worker R raw))
      → AreWorkers out faults got passed pools board lines threads ws
      → Each (Works out faults got passed pools board lines) ws
  works_of threads ws are = each_of (Works out faults got passed pools board lines) ws (λ i w at. (are i w at).1)

  in_turn : (threads : ℕ) (ws : List (Worker R raw)) → AreWorkers out faults got passed pools board lines threads ws
      → AreInTurn threads (threads_of ws)
  in_turn threads ws are i thread at =
      let from = at_image (λ (w : Worker R raw). w.thread) ws i thread at in
      subst (λ (t : ℕ). t + suc i ≡ threads) from.is (are i from.one from.at).0

  -- the same of what comes of the workers
  pub done_in_turn : (threads : ℕ) (ws done : List (Worker R raw))
      → AreWorkers out faults got passed pools board lines threads ws
      → length ws ≡ threads → threads_of done ≡ threads_of ws
      → AreInTurn (length done) (threads_of done) × (length done ≡ threads)
  done_in_turn threads ws done are len same =
      let many : length done ≡ threads = sym (length-map done (λ (w : Worker R raw). w.thread)) ∙ ap length same
      ∙ length-map ws (λ (w : Worker R raw). w.thread) ∙ len in
      (subst (λ (z : ℕ × List ℕ). AreInTurn z.0 z.1) (λ k. (sym many k, sym same k)) (in_turn threads ws are), many)

  -- the last of the workers
  pub record IsLast (count : ℕ) (ws rest : List (Worker R raw)) (w : Worker R raw) : Type 0 where
    pub done : IsDone out faults got passed pools board lines w
    pub others : Each (IsDone out faults got passed pools board lines) rest
    pub thread : w.thread + suc (length rest) ≡ count
    pub threads : AreInTurn count (threads_of rest)
    pub len : length ws ≡ suc (length rest)

  pub last_of : (count : ℕ) (ws rest : List (Worker R raw)) (w : Worker R raw) → ws ≡ rest ++ w ∷ []
      → Each (IsDone out faults got passed pools board lines) ws → AreInTurn count (threads_of ws)
      → IsLast count ws rest w
  last_of count ws rest w is done are =
      let apart = each_front (IsDone out faults got passed pools board lines) rest w
      (subst (Each (IsDone out faults got passed pools board lines)) is done) in
      let turn : AreInTurn count (threads_of rest ++ w.thread ∷ []) = subst (AreInTurn count)
      (ap threads_of is ∙ map_more (λ (v : Worker R raw). v.thread) rest w) are in
      record {
        done = apart.1;
        others = apart.0;
        thread = turn (length rest) w.thread
            (at_last (threads_of rest) w.thread (length rest) (length-map rest (λ (v : Worker R raw). v.thread)));
        threads = front_in_turn count w.thread (threads_of rest) turn;
        len = ap length is ∙ length_more rest w;
      }

  -- what is gathered of so many workers
  pub record AreGathered (known : List Bound) (columns : List (Column R raw)) (all : List (Vec Said)) : Type 0 where
    pub columns_are : HasColumns (IsRested out faults got passed) (length all) pools columns
    pub rows : HaveRows (IsKnown known) pools lines columns all (length all)

  pub none_gathered : (known : List Bound) (columns : List (Column R raw)) (all : List (Vec Said)) → all ≡ []
      → HasColumns (IsRested out faults got passed) 0 pools columns → AreGathered known columns all
  none_gathered known columns all none has =
      let zero_is : length all ≡ 0 = ap length none in
      record {
        columns_are = subst (λ (n : ℕ). HasColumns (IsRested out faults got passed) n pools columns) (sym zero_is) has;
        rows = record { count_is = refl; tells = λ thread low. absurd (omega arith) };
      }

  -- what a worker that is done tells
  worker_tells : (w : Worker R raw) (n : ℕ) → IsDone out faults got passed pools board lines w → w.thread ≡ n
      → Tells (IsKnown w.pen.me.0.known) n (first_heaps pools n) lines (padded_value w.said).items
      (heaps_in w.heaps.items)
  worker_tells w n done is =
      subst (λ (z : ℕ × List TraceLine). Tells (IsKnown w.pen.me.0.known) z.0 (first_heaps pools z.0) z.1
      (padded_value w.said).items (heaps_in w.heaps.items))
      (λ k. (is k, take_all w.next lines (let n = done.all in omega arith) k)) done.works.tells

  -- one worker more is gathered
  pub gathered_more : (known : List Bound) (old new : List (Column R raw)) (all : List (Vec Said)) (w : Worker R raw)
      (said : Vec Said) → AreGathered known old all → IsDone out faults got passed pools board lines w
      → w.thread ≡ length all → said.items ≡ (padded_value w.said).items
      → ((pool : ℕ) → PutsAt (slice_get old pool) (slice_get w.heaps.items pool) (slice_get new pool))
      → AreGathered (known ++ w.pen.me.0.known) new (all ++ said ∷ [])
  gathered_more known old new all w said so done thread said_is puts =
      let fits = subst (λ (t : ℕ). AreHeaps out faults got passed pools t w.heaps.items) thread done.works.heaps in
      let put = put_back out faults got passed (length all) pools old new w.heaps.items so.columns_are fits puts in
      let more = w.pen.me.0.known in
      let longer = length_more all said in
      record {
        columns_are = λ pool. subst (λ (n : ℕ). ColumnAt (IsRested out faults got passed) n (slice_get pools pool)
            (slice_get new pool)) (sym longer) (put pool).column;
        rows = record {
          count_is = refl;
          tells = λ one low. ⊎_elim
              (λ (less : one < length all).
              let is : said_by all one ≡ said_by (all ++ said ∷ []) one =
              ap said_in (sym (slice_get-within all (said ∷ []) one less)) in
              let told = tells_so (IsKnown known) (IsKnown (known ++ more)) (known_more known more) one
              (first_heaps pools one) (so.rows.tells one less) in
              subst (λ (xs : List Said). Tells (IsKnown (known ++ more)) one (first_heaps pools one) lines xs
              (row_of new one)) is
              (tells_to (IsKnown (known ++ more)) one (first_heaps pools one) (row_of new one) told
              (λ pool. sym ((put pool).before one less))))
              (λ (high : length all ≤ one).
              let here : length all ≡ one = omega arith in
              let is : (padded_value w.said).items ≡ said_by (all ++ said ∷ []) (length all) =
              sym said_is ∙ ap said_in (sym (slice_get-end all said)) in
              let told = tells_so (IsKnown more) (IsKnown (known ++ more)) (known_behind known more) (length all)
              (first_heaps pools (length all)) (worker_tells w (length all) done thread) in
              subst (λ (t : ℕ). Tells (IsKnown (known ++ more)) t (first_heaps pools t) lines
              (said_by (all ++ said ∷ []) t)
              (row_of new t)) here
              (subst (λ (xs : List Said). Tells (IsKnown (known ++ more)) (length all) (first_heaps pools (length all))
              lines
              xs (row_of new (length all))) is
              (tells_to (IsKnown (known ++ more)) (length all) (first_heaps pools (length all))
              (row_of new (length all)) told
              (λ pool. sym (put pool).last))))
              (cases_lt one (length all));
        };
      }
