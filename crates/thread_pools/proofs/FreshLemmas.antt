-- The heaps of a thread, before its first line.
use Rattle.std.proofs.Common.{◌≡◌, ℕ, suc, ◌+◌, ◌<◌, ◌≤◌, List, [], ◌∷◌, ◌++◌, length, take, refl, sym, ap, ◌∙◌, subst, ⊎_elim, arith}
use Rattle.std.specs.Prelude.{Option, Some, None, Bool, slice_get, vec_len, vec_capacity}
use mathlib.Core.Option.{some, some-ne-none}
use lib.ListN.{get_elem?}
use Rattle.atomic_table.specs.Seated.{TableId}
use Rattle.atomic_table.proofs.Lists.{at_last, at_longer}
use Rattle.atomic_driver.proofs.Looks.{at_end}
use Rattle.crossbeam_utils.specs.Padded.{padded_value}
use Rattle.name_board.specs.Board.{IsPen, IsKnown, cursor, view}
use Rattle.pool_types.specs.declared.raw.Raw.{Ghosts}
use Rattle.pool_types.specs.declared.values.Region.{Region}
use Rattle.pool_api.specs.Tables.{Stand, stand_of}
use Rattle.atomic_driver.specs.declared.pool.Shared.{Shared}
use Rattle.atomic_driver.specs.declared.rule.Plan.{Plan}
use Rattle.atomic_driver.specs.declared.seat.DriverSeat.{DriverSeat}
use Rattle.atomic_driver.specs.Rule.{key_by, IsTable}
use Rattle.atomic_driver.specs.Seating.{IsPool}
use Rattle.step_local.specs.Frames.{made}
use Rattle.step_runs.specs.Entries.{first_entry}
use Rattle.pool_api.specs.Heaps.{IsFresh, IsResting}
use Rattle.regions.specs.Offices.{Desk}
use Rattle.step_local.specs.declared.frames.Local.{Local}
use Rattle.step_runs.specs.declared.entry.Entry.{Entry}
use Rattle.thread_calls.specs.declared.calls.Said.{Said}
use Rattle.trace_reader.specs.declared.acts.TraceLine.{TraceLine}
use Rattle.thread_calls.specs.Script.{count_own}
use Rattle.thread_lines.specs.declared.worker.Worker.{Worker}
use Rattle.thread_lines.specs.Heaps.{AreHeaps, IsRested, FitsAt, heap_at, first_at, first_heaps, heaps_in}
use Rattle.thread_lines.specs.Telling.{Tells}
use Rattle.thread_lines.specs.Working.{Works}
use Rattle.thread_pools.specs.declared.columns.Column.{Column}
use Rattle.thread_pools.specs.Columns.{TakesLast, TakesAt}
use Rattle.thread_pools.specs.Crews.{AreWorkers}
use Rattle.thread_pools.specs.Pools.{IsFreshAt, ColumnOf, ColumnAt, HasColumns}
use Rattle.thread_pools.proofs.RowLemmas.{length_more}

module _ {R : Type 0} (out : R → List Region) (faults : R → ℕ) (got : R → ℕ → Option Region → R → Type 0)
    (passed : R → Region → Bool → R → Type 0) {raw : Ghosts R} where
  -- a fresh heap of a pool is one of its table's pool
  pub fresh_at : (s : Shared R) (seat : ℕ) (x : DriverSeat R raw) → IsPool out faults got passed s →
      IsFresh out faults got passed s seat x → IsFreshAt out faults got passed (stand_of s) seat x
  fresh_at s seat x pool f = record {
    heap = record {
      same_table = f.heap.same_table;
      same_plan = f.heap.same_plan ∙ sym pool.same_plan;
      sizes = subst (λ (p : Plan). IsTable s.board.shared.table_id (key_by p)) (sym pool.same_plan) pool.sizes;
      driven = f.heap.driven;
    };
    fresh = f.fresh ∙ ap (λ (p : Plan). made (key_by p) seat) (sym pool.same_plan);
    first = f.first ∙ ap (λ (p : Plan). first_entry (key_by p) seat) (sym pool.same_plan);
  }

module _ {R : Type 0} (out : R → List Region) (faults : R → ℕ) (got : R → ℕ → Option Region → R → Type 0)
    (passed : R → Region → Bool → R → Type 0) {raw : Ghosts R} (left : ℕ) where
  -- the heap is the pool's fresh one of this thread
  rested : (s : Stand) (x : DriverSeat R raw) → IsFreshAt out faults got passed s left x → IsRested out faults got passed s left x
  rested s x f = record {
    heap = f.heap;
    rests = subst IsResting (sym f.fresh) (refl, refl);
    entry = ap (λ (e : Entry (Desk R)). e.seat) f.first;
    seat = ap (λ (l : Local). l.seat) f.fresh;
  }

  pub record IsTaken (slot : Option (Option Stand)) (row : Option (Option (DriverSeat R raw)))
      (new : Option (Column R raw)) : Type 0 where
    pub fits : FitsAt out faults got passed left slot row
    pub column : ColumnAt (IsFreshAt out faults got passed) left slot new
    pub first : heap_at row ≡ first_at left slot

  -- no heap is taken of a pool that was not made
  none_taken : (old new : List (DriverSeat R raw)) (heap : Option (DriverSeat R raw)) → old ≡ [] →
      TakesLast old heap new → (heap ≡ None) × (new ≡ [])
  none_taken old [] None is takes = (refl, refl)
  none_taken old (x ∷ xs) None is takes = absurd (let n = ap length (sym is ∙ takes.split) in omega arith)
  none_taken old new (Some x) is takes = absurd (let n = ap length (sym is ∙ takes.split) in let m = length_more new x in omega arith)

  some_taken : (s : Stand) (old new : List (DriverSeat R raw)) (heap : Option (DriverSeat R raw)) →
      ColumnOf (IsFreshAt out faults got passed) (suc left) (Some s) old → TakesLast old heap new →
      (x : DriverSeat R raw) × (heap ≡ Some x) × IsFreshAt out faults got passed s left x
      × ColumnOf (IsFreshAt out faults got passed) left (Some s) new
  some_taken s old new None column takes = absurd (let n = column.0 in let m = ap length (takes.none refl) in omega arith)
  some_taken s old new (Some x) column takes =
      let len : length new ≡ left = let n = column.0 in let m = ap length takes.split in let k = length_more new x in omega arith in (
        x,
        refl,
        column.1 left x (ap (λ (xs : List (DriverSeat R raw)). get_elem? xs left) takes.split ∙ at_last new x left len),
        (len, λ i y at. column.1 i y (ap (λ (xs : List (DriverSeat R raw)). get_elem? xs i) takes.split ∙ at_longer new (x ∷ []) i y at)),
      )

  taken : (slot : Option (Option Stand)) (old : Option (Column R raw)) (row : Option (Option (DriverSeat R raw)))
      (new : Option (Column R raw)) → ColumnAt (IsFreshAt out faults got passed) (suc left) slot old → TakesAt old row new →
      IsTaken slot row new
  taken None None row new q (row_none, new_none) =
      subst (λ (z : Option (Option (DriverSeat R raw)) × Option (Column R raw)). IsTaken None z.0 z.1)
      (λ k. (sym row_none k, sym new_none k)) (record { fits = tt; column = tt; first = refl })
  taken None (Some column) row new q takes = absurd q
  taken (Some slot) None row new q takes = absurd q
  taken (Some None) (Some old) row new q (heap, col, row_is, new_is, takes) =
      let n = none_taken old.heaps.items col.heaps.items heap q takes in
      subst (λ (z : Option (Option (DriverSeat R raw)) × Option (Column R raw)). IsTaken (Some None) z.0 z.1)
      (λ k. ((sym (row_is ∙ ap Some n.0)) k, sym new_is k)) (record { fits = tt; column = n.1; first = refl })
  taken (Some (Some s)) (Some old) row new q (heap, col, row_is, new_is, takes) =
      let n = some_taken s old.heaps.items col.heaps.items heap q takes in
      subst (λ (z : Option (Option (DriverSeat R raw)) × Option (Column R raw)). IsTaken (Some (Some s)) z.0 z.1)
      (λ k. ((sym (row_is ∙ ap Some n.1)) k, sym new_is k)) (record {
        fits = rested s n.0 n.2;
        column = n.3;
        first = ap Some (λ k. record { local = n.2.fresh k; entry = n.2.first k });
      })

  -- a row of fresh heaps is taken
  pub taken_row : (pools : List (Option Stand)) (old new : List (Column R raw)) (row : List (Option (DriverSeat R raw))) →
      HasColumns (IsFreshAt out faults got passed) (suc left) pools old →
      ((pool : ℕ) → TakesAt (slice_get old pool) (slice_get row pool) (slice_get new pool)) →
      (pool : ℕ) → IsTaken (slice_get pools pool) (slice_get row pool) (slice_get new pool)
  taken_row pools old new row has takes pool =
      taken (slice_get pools pool) (slice_get old pool) (slice_get row pool) (slice_get new pool) (has pool) (takes pool)

  -- a thread before its first line
  pub fresh_works : (pools : List (Option Stand)) (table : TableId) (lines : List TraceLine) (w : Worker R raw) →
      w.thread ≡ left → w.next ≡ 0 → IsPen table w.pen → w.pen.me ≡ (view (cursor left 0 ∷ []) [], []) →
      (padded_value w.said).items ≡ [] → vec_len (padded_value w.said) ≡ 0 →
      count_own left lines ≤ vec_capacity (padded_value w.said) →
      ((pool : ℕ) → FitsAt out faults got passed left (slice_get pools pool) (slice_get w.heaps.items pool)) →
      ((pool : ℕ) → heaps_in w.heaps.items pool ≡ first_heaps pools left pool) → Works out faults got passed pools table lines w
  fresh_works pools table lines w thread next pen me items len room fits first = record {
    heaps = subst (λ (t : ℕ). AreHeaps out faults got passed pools t w.heaps.items) (sym thread) fits;
    pen = pen;
    empty = ap (λ (m : _ × _). m.1) me;
    from = 0;
    cursors = ap (λ (m : _ × _). m.0.cursors) me ∙ ap (λ (t : ℕ). cursor t 0 ∷ []) (sym thread);
    low = omega arith;
    within = omega arith;
    room = subst (λ (t : ℕ). count_own t lines ≤ vec_capacity (padded_value w.said)) (sym thread) room;
    count = len ∙ ap (λ (n : ℕ). count_own w.thread (take n lines)) (sym next);
    tells = subst (λ (z : ℕ × ℕ × List Said). Tells (IsKnown w.pen.me.0.known) z.0 (first_heaps pools z.0) (take z.1 lines)
        z.2 (heaps_in w.heaps.items)) (λ k. (sym thread k, sym next k, sym items k)) (Tells.begins (heaps_in w.heaps.items) first);
  }

  -- one worker more
  pub workers_more : (pools : List (Option Stand)) (table : TableId) (lines : List TraceLine) (threads : ℕ)
      (ws : List (Worker R raw)) (w : Worker R raw) → AreWorkers out faults got passed pools table lines threads ws →
      w.thread + suc (length ws) ≡ threads → Works out faults got passed pools table lines w →
      AreWorkers out faults got passed pools table lines threads (ws ++ w ∷ [])
  workers_more pools table lines threads ws w are number works i x at = ⊎_elim
      (λ (z : (get_elem? ws i ≡ some x) × (i < length ws)). are i x z.0)
      (λ (z : (i ≡ length ws) × (w ≡ x)).
      subst (λ (v : Worker R raw). (v.thread + suc i ≡ threads) × Works out faults got passed pools table lines v) z.1
      (subst (λ (m : ℕ). w.thread + suc m ≡ threads) (sym z.0) number, works))
      (at_end ws w i x at)

  pub no_workers : (pools : List (Option Stand)) (table : TableId) (lines : List TraceLine) (threads : ℕ)
      (ws : List (Worker R raw)) → ws ≡ [] → AreWorkers out faults got passed pools table lines threads ws
  no_workers pools table lines threads ws none i x at =
      absurd (some-ne-none x (sym at ∙ ap (λ (vs : List (Worker R raw)). get_elem? vs i) none))
