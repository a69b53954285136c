-- A request to the heap at a pool's number.
use Rattle.std.proofs.Common.{◌≡◌, ◌≢◌, ℕ, ◌<◌, ◌≤◌, Bool, true, false, cond, eqb, List, length, get_or, refl, sym, ap, ◌∙◌, subst, ⊎_elim}
use Rattle.std.specs.Prelude.{Option, Some, None, slice_get, slice_set}
use Rattle.std.proofs.lemmas.Option.{slice_get_read, slice_get-get_or, slice_get_past}
use Rattle.std.proofs.lemmas.Bool.Decides.{eqb_tells}
use Rattle.list_laws.proofs.Gets.{slice_get-set_same, slice_get-set_other}
use Rattle.pool_types.specs.declared.raw.Raw.{Ghosts}
use Rattle.pool_types.specs.declared.values.Region.{Region}
use Rattle.pool_types.specs.declared.values.Request.{Request}
use Rattle.regions.specs.Offices.{Desk}
use Rattle.pool_api.specs.Tables.{Stand}
use Rattle.atomic_driver.specs.declared.seat.DriverSeat.{DriverSeat}
use Rattle.thread_calls.specs.declared.calls.Said.{Said}
use Rattle.thread_lines.specs.Asking.{AsksSlot}
use Rattle.thread_lines.specs.Heaps.{AreHeaps, FitsIn, FitsAt, Heap, heap_of, heap_in, heap_at, heaps_in}
use Rattle.thread_lines.specs.Telling.{Serves}

module _ {R : Type 0} (out : R → List Region) (faults : R → ℕ) (got : R → ℕ → Option Region → R → Type 0)
    (passed : R → Region → Bool → R → Type 0) {raw : Ghosts R} (thread : ℕ) where
  pub fits_slot : (pools : List (Option Stand)) (heaps : List (Option (DriverSeat R raw))) (i : ℕ)
      (slot : Option Stand) (other : Option (DriverSeat R raw)) → AreHeaps out faults got passed pools thread heaps →
      i < length pools → i < length heaps → slot ≡ get_or pools i slot →
      FitsIn out faults got passed thread slot (get_or heaps i other)
  fits_slot pools heaps i slot other fit low_pool low_heap at =
      let e = slice_get_read pools (length pools) i slot refl low_pool at in
      let f = slice_get-get_or heaps i other low_heap in
      subst (λ (z : Option (Option Stand) × Option (Option (DriverSeat R raw))).
      FitsAt out faults got passed thread z.0 z.1) (λ k. (e k, f k)) (fit i)

  pub fits_set : (pools : List (Option Stand)) (heaps : List (Option (DriverSeat R raw))) (i : ℕ)
      (slot : Option Stand) (new : Option (DriverSeat R raw)) → AreHeaps out faults got passed pools thread heaps →
      i < length pools → i < length heaps → slot ≡ get_or pools i slot → FitsIn out faults got passed thread slot new →
      AreHeaps out faults got passed pools thread (slice_set heaps i new)
  fits_set pools heaps i slot new fit low_pool low_heap at fits pool = ⊎_elim
      (λ (z : (eqb pool i ≡ true) × (pool ≡ i)).
      let e = ap (slice_get pools) z.1 ∙ slice_get_read pools (length pools) i slot refl low_pool at in
      let f = ap (slice_get (slice_set heaps i new)) z.1 ∙ slice_get-set_same heaps i new low_heap in
      subst (λ (y : Option (Option Stand) × Option (Option (DriverSeat R raw))).
      FitsAt out faults got passed thread y.0 y.1) (λ k. (sym e k, sym f k)) fits)
      (λ (z : (eqb pool i ≡ false) × (pool ≢ i)).
      subst (FitsAt out faults got passed thread (slice_get pools pool)) (sym (slice_get-set_other heaps i pool new z.1))
      (fit pool))
      (eqb_tells pool i)

  -- beyond the pools there is no heap
  pub none_past : (pools : List (Option Stand)) (heaps : List (Option (DriverSeat R raw))) (pool : ℕ) →
      AreHeaps out faults got passed pools thread heaps → length pools ≤ pool → heaps_in heaps pool ≡ None
  none_past pools heaps pool fit past = go (slice_get heaps pool)
      (subst (λ (z : Option (Option Stand)). FitsAt out faults got passed thread z (slice_get heaps pool))
      (slice_get_past pools pool past) (fit pool))
    where
      go : (z : Option (Option (DriverSeat R raw))) → FitsAt out faults got passed thread None z → heap_at z ≡ None
      go None q = refl
      go (Some slot) q = absurd q

module _ {R : Type 0} {raw : Ghosts R} (heaps : List (Option (DriverSeat R raw))) (pool : ℕ)
    (new : Option (DriverSeat R raw)) (low : pool < length heaps) where
  -- the heap there is the new one, and each other is as it was
  pub heaps_set : (other : ℕ) → heaps_in (slice_set heaps pool new) other ≡ cond (eqb other pool) (heap_in new) (heaps_in heaps other)
  heaps_set other = ⊎_elim
      (λ (z : (eqb other pool ≡ true) × (other ≡ pool)).
      ap heap_at (ap (slice_get (slice_set heaps pool new)) z.1 ∙ slice_get-set_same heaps pool new low)
      ∙ ap (λ (b : Bool). cond b (heap_in new) (heaps_in heaps other)) (sym z.0))
      (λ (z : (eqb other pool ≡ false) × (other ≢ pool)).
      ap heap_at (slice_get-set_other heaps pool other new z.1)
      ∙ ap (λ (b : Bool). cond b (heap_in new) (heaps_in heaps other)) (sym z.0))
      (eqb_tells other pool)

  same_set : new ≡ None → heaps_in heaps pool ≡ None → (other : ℕ) →
      heaps_in (slice_set heaps pool new) other ≡ heaps_in heaps other
  same_set is none other = heaps_set other ∙ ⊎_elim
      (λ (z : (eqb other pool ≡ true) × (other ≡ pool)).
      ap (λ (b : Bool). cond b (heap_in new) (heaps_in heaps other)) z.0 ∙ ap heap_in is
      ∙ sym (ap (heaps_in heaps) z.1 ∙ none))
      (λ (z : (eqb other pool ≡ false) × (other ≢ pool)).
      ap (λ (b : Bool). cond b (heap_in new) (heaps_in heaps other)) z.0)
      (eqb_tells other pool)

  serves_by : (request : Request) (old : Option (DriverSeat R raw)) (said : Said) → slice_get heaps pool ≡ Some old →
      AsksSlot old request said new → Serves (heaps_in heaps) pool request said (heaps_in (slice_set heaps pool new))
  serves_by request None said at (gone, none) =
      subst (λ (s : Said). Serves (heaps_in heaps) pool request s (heaps_in (slice_set heaps pool new))) (sym gone)
      (ap heap_at at, same_set none (ap heap_at at))
  serves_by request (Some x) Said.Gone at (y, is, never) = absurd never
  serves_by request (Some x) (Said.Answered answer) at (y, is, called) = record {
    heap = heap_of x;
    there = ap heap_at at;
    now = heap_of y;
    called = called;
    heaps_are = λ other. heaps_set other ∙ ap (λ (n : Option (Heap (Desk R))). cond (eqb other pool) n (heaps_in heaps other)) (ap heap_in is);
  }

  pub serves_set : (request : Request) (other : Option (DriverSeat R raw)) (said : Said) →
      AsksSlot (get_or heaps pool other) request said new →
      Serves (heaps_in heaps) pool request said (heaps_in (slice_set heaps pool new))
  serves_set request other said asks = serves_by request (get_or heaps pool other) said (slice_get-get_or heaps pool other low) asks

-- the same of lists that are equal
pub serves_same : {R : Type 0} {raw : Ghosts R} (old lent new items : List (Option (DriverSeat R raw))) (pool : ℕ)
    (request : Request) (said : Said) → lent ≡ old → items ≡ new → Serves (heaps_in lent) pool request said (heaps_in new) →
    Serves (heaps_in old) pool request said (heaps_in items)
serves_same {R} {raw} old lent new items pool request said same is serves =
    subst (λ (hs : List (Option (DriverSeat R raw))). Serves (heaps_in old) pool request said (heaps_in hs)) (sym is)
    (subst (λ (hs : List (Option (DriverSeat R raw))). Serves (heaps_in hs) pool request said (heaps_in new)) same serves)
