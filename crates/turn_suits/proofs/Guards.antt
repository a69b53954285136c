-- What a guard that says free tells of its block.
use Rattle.std.proofs.Common.{◌≡◌, inl, inr, ℕ, ◌+◌, ◌≤◌, sym, ◌∙◌}
use Rattle.pool_words.specs.declared.words.Key.{Key}
use Rattle.word_codes.specs.declared.guards.Guard.{Guard}
use Rattle.word_codes.specs.Guards.{guard_of}
use Rattle.guards.specs.declared.win.Side.{Side}
use Rattle.guards.specs.declared.win.Taking.{Taking}
use Rattle.word_laws.specs.Memory.{Mem}
use Rattle.guard_laws.specs.Blocks.{GuardFits, GuardGood, IsOf, IsOffered, Place, Shadow, Standing, Task, Use}
use Rattle.guard_laws.specs.Blocks.{at_edge, core_in, edge_of, taken_guard, view_of}

taken_not_free : (taking : Taking) (n : ℕ) → taken_guard taking ≡ Guard.Free n → ⊥
taken_not_free Taking.ForUse n q = cc
taken_not_free Taking.ToJoin n q = cc

free_is_of : (s : Standing) (guard : Guard) (n : ℕ) → GuardFits s guard → guard ≡ Guard.Free n → IsOf n s
free_is_of Standing.Inner (Guard.Free m) n f is = absurd f
free_is_of Standing.Inner Guard.Used n f is = cc
free_is_of Standing.Inner Guard.Coalescing n f is = cc
free_is_of Standing.Inner Guard.Wall n f is = cc
free_is_of Standing.Resting guard n f is = cc
free_is_of Standing.Walled guard n f is = cc
free_is_of Standing.Joining (Guard.Free m) n f is = absurd f
free_is_of Standing.Joining Guard.Used n f is = cc
free_is_of Standing.Joining Guard.Coalescing n f is = cc
free_is_of Standing.Joining Guard.Wall n f is = cc
free_is_of Standing.Waiting guard n f is = cc
free_is_of (Standing.Open m) guard n f is = cc
free_is_of (Standing.Won m t taking) guard n f is = absurd (taken_not_free taking n (sym f ∙ is))

-- a block of so many granules has its guard there
pub record IsTold (place : ℕ → Place) (span : ℕ) (e : Side) (y n : ℕ) : Type 0 where
  pub first : ℕ
  pub edge : edge_of e first n ≡ y
  pub use' : Use
  pub block : place first ≡ Place.Block first n use'
  pub within : first + n ≤ span

pub free_tells : (k : Key) (g : Shadow) (m : Mem) (tasks : ℕ → Task) (e : Side) (y n : ℕ)
    → GuardGood k g (core_in m tasks) → guard_of (at_edge (core_in m tasks).words e y) ≡ Guard.Free n
    → IsTold g.place k.span e y n
free_tells k g m tasks e y n good is = by o.2
  where
    o : (x : ℕ) × (edge_of e x n ≡ y)
        × IsOffered g.place (view_of g (core_in m tasks)).pieces e x n
    o = good.parts.offers e y n (free_is_of _ _ n (good.parts.words_fit e y) is)

    by : IsOffered g.place (view_of g (core_in m tasks)).pieces e o.0 n → IsTold g.place k.span e y n
    by (inl bin) = record {
      first = o.0;
      edge = o.1;
      use' = Use.Bin;
      block = bin;
      within = good.parts.within o.0 n Use.Bin bin;
    }
    by (inr (side, (t, taking, held, got))) = record {
      first = o.0;
      edge = o.1;
      use' = Use.Held t taking;
      block = held;
      within = good.parts.within o.0 n (Use.Held t taking) held;
    }
