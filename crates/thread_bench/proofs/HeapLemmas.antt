-- The heaps of a table's pool.
use Rattle.std.proofs.Common.{◌≡◌, ℕ, Bool, List, [], ◌∷◌, ◌++◌, length, refl, sym, ap, ◌∙◌, subst}
use Rattle.std.specs.Prelude.{Option}
use lib.ListN.{get_elem?}
use Rattle.atomic_table.proofs.Lists.{at_last, at_longer}
use Rattle.pool_types.specs.declared.raw.Raw.{Ghosts}
use Rattle.pool_types.specs.declared.values.Region.{Region}
use Rattle.atomic_driver.specs.declared.pool.Shared.{Shared}
use Rattle.atomic_driver.specs.declared.rule.Plan.{Plan}
use Rattle.atomic_driver.specs.declared.seat.DriverSeat.{DriverSeat}
use Rattle.atomic_driver.specs.Rule.{key_by, IsTable}
use Rattle.atomic_driver.specs.Seating.{IsPool}
use Rattle.pool_api.specs.Heaps.{AreFresh}
use Rattle.pool_api.specs.Tables.{Stand, IsHeapAt, stand_of}
use Rattle.thread_bench.specs.Heaps.{AreHeapsAt}

module _ {R : Type 0} (out : R → List Region) (faults : R → ℕ) (got : R → ℕ → Option Region → R → Type 0)
    (passed : R → Region → Bool → R → Type 0) {raw : Ghosts R} where
  -- the last one and those before it
  pub last_heap : (s : Stand) (heaps left : List (DriverSeat R raw)) (heap : DriverSeat R raw)
      → heaps ≡ left ++ heap ∷ [] → AreHeapsAt out faults got passed s heaps → IsHeapAt out faults got passed s heap
  last_heap s heaps left heap split are = are (length left) heap
      (ap (λ (xs : List (DriverSeat R raw)). get_elem? xs (length left)) split ∙ at_last left heap (length left) refl)

  pub heaps_left : (s : Stand) (heaps left : List (DriverSeat R raw)) (heap : DriverSeat R raw)
      → heaps ≡ left ++ heap ∷ [] → AreHeapsAt out faults got passed s heaps
      → AreHeapsAt out faults got passed s left
  heaps_left s heaps left heap split are i x at = are i x
      (ap (λ (xs : List (DriverSeat R raw)). get_elem? xs i) split ∙ at_longer left (heap ∷ []) i x at)

  -- those of a new pool
  pub new_heaps : (pool : Shared R) (s : Stand) (heaps : List (DriverSeat R raw)) → s ≡ stand_of pool
      → IsPool out faults got passed pool → AreFresh out faults got passed pool heaps
      → AreHeapsAt out faults got passed s heaps
  new_heaps pool s heaps is made fresh i x at = subst (λ (t : Stand). IsHeapAt out faults got passed t x) (sym is)
      (let heap = (fresh i x at).heap in record {
        same_table = heap.same_table;
        same_plan = heap.same_plan ∙ sym made.same_plan;
        sizes = subst (λ (p : Plan). IsTable pool.board.shared.table_id (key_by p)) (sym made.same_plan) made.sizes;
        driven = heap.driven;
      })
