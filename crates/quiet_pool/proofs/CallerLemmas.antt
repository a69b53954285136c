-- What crates above cite: heaps of a pool, each at its number.
use Rattle.std.proofs.Common.{◌≡◌, ◌≢◌, ℕ, List, ◌++◌, length, length-append, length-set}
use Rattle.std.proofs.Common.{sym, ap, ◌∙◌, subst}
use Rattle.std.proofs.Common.{⊎_elim, arith}
use Rattle.std.specs.Prelude.{Bool, Option, Result, Ok, Err, slice_set}
use mathlib.Core.Option.{some}
use lib.ListN.{get_elem?}
use Rattle.atomic_table.proofs.Lists.{at_longer, at_set}
use Rattle.pool_types.specs.declared.raw.Raw.{Ghosts}
use Rattle.pool_types.specs.declared.values.Region.{Region}
use Rattle.atomic_driver.specs.declared.pool.Shared.{Shared}
use Rattle.atomic_driver.specs.declared.seat.DriverSeat.{DriverSeat}
use Rattle.atomic_driver.specs.Rule.{key_by}
use Rattle.atomic_driver.specs.Steps.{own_of, PoolDriven}
use Rattle.pool_api.specs.Heaps.{entry_of, IsHeap, AreFresh, CalledBy}
use Rattle.pool_types.specs.declared.values.Answer.{Answer}
use Rattle.pool_types.specs.declared.values.InCall.{InCall}
use Rattle.pool_types.specs.declared.values.Request.{Request}
pub use Rattle.quiet_pool.proofs.Lists.{elem_at}
use Rattle.quiet_pool.specs.Calls.{AreHeaps, IsHeapAt}

module _ {R : Type 0} (out : R → List Region) (faults : R → ℕ) (got : R → ℕ → Option Region → R → Type 0)
    (passed : R → Region → Bool → R → Type 0) {raw : Ghosts R} (s : Shared R) where
  abbrev HeapAt : ℕ → DriverSeat R raw → Type 0
  HeapAt = IsHeapAt out faults got passed s.board.shared.table_id s.plan

  -- a heap of the pool, whose entry is of this seat
  pub heap_at : (seat : ℕ) (x : DriverSeat R raw) → IsHeap out faults got passed s x → (entry_of x).seat ≡ seat
      → HeapAt seat x
  heap_at seat x is number = record {
    same_table = is.same_table;
    same_plan = is.same_plan;
    number = number;
    driven = is.driven;
  }

  pub is_heap : (seat : ℕ) (x : DriverSeat R raw) → HeapAt seat x → IsHeap out faults got passed s x
  is_heap seat x is = record { same_table = is.same_table; same_plan = is.same_plan; driven = is.driven }

  -- the heap behind a call that begins, which leaves its place
  pub begun_heap : (seat : ℕ) (x now : DriverSeat R raw) → HeapAt seat x → now.place ≡ x.place → now.plan ≡ x.plan
      → PoolDriven out faults got passed now.plan now.local now.office now.place.me → HeapAt seat now
  begun_heap seat x now is place plan driven =
      let keys : now.key ≡ x.key = now.keyed ∙ ap key_by plan ∙ sym x.keyed in
      record {
        same_table = ap (λ z. z.table_id) place ∙ is.same_table;
        same_plan = plan ∙ is.same_plan;
        number = ap (λ k. (own_of k now.place.me.0.entries).seat) keys
            ∙ ap (λ z. (own_of x.key z.me.0.entries).seat) place ∙ is.number;
        driven = driven;
      }

  -- the heap behind a whole call
  pub called_heap : (seat : ℕ) (x now : DriverSeat R raw) (request : Request) (result : Result Answer InCall)
      → HeapAt seat x → IsHeap out faults got passed s now
      → CalledBy x.local (entry_of x) request result now.local (entry_of now) → HeapAt seat now
  called_heap seat x now request (Ok answer) is heap called = heap_at seat now heap (called.2 ∙ is.number)
  called_heap seat x now request (Err refused) is heap called =
      heap_at seat now heap (ap (λ e. e.seat) called.2 ∙ is.number)

  -- the heaps of a new pool
  pub fresh_heaps : (xs : List (DriverSeat R raw)) → AreFresh out faults got passed s xs
      → length xs ≡ (key_by s.plan).seats → AreHeaps out faults got passed s xs
  fresh_heaps xs are count = record {
    most = omega arith;
    each = λ seat x at. let is = are seat x at in heap_at seat x is.heap (ap (λ e. e.seat) is.first);
  }

  -- the heaps, of which one made calls
  pub with_heap : (xs : List (DriverSeat R raw)) (seat : ℕ) (x : DriverSeat R raw) → AreHeaps out faults got passed s xs
      → HeapAt seat x → AreHeaps out faults got passed s (slice_set xs seat x)
  with_heap xs seat x are is = record {
    most = let many = length-set xs seat x in let most = are.most in omega arith;
    each = λ i y at. ⊎_elim
        (λ (z : (i ≡ seat) × (x ≡ y)). subst (HeapAt i) z.1 (subst (λ n. HeapAt n x) (sym z.0) is))
        (λ (z : (i ≢ seat) × (get_elem? xs i ≡ some y)). are.each i y z.1)
        (at_set xs seat i x y at);
  }

  -- the first of the heaps
  pub fewer_heaps : (xs ys : List (DriverSeat R raw)) → AreHeaps out faults got passed s (xs ++ ys)
      → AreHeaps out faults got passed s xs
  fewer_heaps xs ys are = record {
    most = let many = length-append xs ys in let most = are.most in omega arith;
    each = λ i x at. are.each i x (at_longer xs ys i x at);
  }
