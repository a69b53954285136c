-- At each edge of the blocks that are named is a wall or another of them.
use Rattle.std.proofs.Common.{◌≡◌, ◌⊎◌, inl, inr, ℕ, ◌+◌, ◌<◌, ◌≤◌, refl, sym, subst, arith, ◌∙◌}
use Rattle.guards.specs.declared.win.Side.{Side}
use Rattle.guards.specs.declared.win.Taking.{Taking}
use Rattle.guard_laws.specs.Blocks.{Use, Place, put_range, edge_of, BlocksWhole}
use Rattle.guard_laws.specs.Named.{no_blocks, one_region, four_blocks, one_in_use, one_to_join, one_queued}
use Rattle.guard_laws.specs.Named.{named_blocks}
use Rattle.guard_laws.specs.Neighbours.{IsCovered}
use Rattle.guard_laws.specs.Laws.{NamedBlocksAreCovered}
use Rattle.guard_laws.proofs.Edges.{IsOut, in_or}
use Rattle.guard_laws.proofs.Blocks.{ranged_was}
use Rattle.guard_laws.proofs.Examples.{named_guards_stand}

abbrev pub IsBlock : ℕ → ℕ → ℕ → ℕ → Type 0
IsBlock x n y j = (y ≡ x) × (j ≡ n)

-- one of the four
abbrev pub IsNamed : ℕ → ℕ → Type 0
IsNamed y j = IsBlock 1 2 y j ⊎ (IsBlock 3 2 y j ⊎ (IsBlock 5 1 y j ⊎ IsBlock 6 3 y j))

-- no block begins in none of their granules
abbrev pub AreNamed : (ℕ → Place) → Type 0
AreNamed place = (y j : ℕ) (u : Use) → IsOut 1 2 y → IsOut 3 2 y → IsOut 5 1 y → IsOut 6 3 y
    → place y ≡ Place.Block y j u → ⊥

-- another range, which begins with one of them
layer : (place : ℕ → Place) (x n : ℕ) (u : Use)
    → ((y : ℕ) → y ≡ x → IsOut 1 2 y → IsOut 3 2 y → IsOut 5 1 y → IsOut 6 3 y → ⊥)
    → AreNamed place → AreNamed (put_range place x n (Place.Block x n u))
layer place x n u begins others y j w a b c d f = by (ranged_was place x n u y j w f)
  where
    by : ((y ≡ x) × (j ≡ n) × (w ≡ u)) ⊎ (IsOut x n y × (place y ≡ Place.Block y j w)) → ⊥
    by (inl (q, p, r)) = begins y q a b c d
    by (inr (out, old)) = others y j w a b c d old

first-in : (y : ℕ) → y ≡ 1 → IsOut 1 2 y → ⊥
first-in y q (inl low) = omega arith
first-in y q (inr high) = omega arith

second-in : (y : ℕ) → y ≡ 3 → IsOut 3 2 y → ⊥
second-in y q (inl low) = omega arith
second-in y q (inr high) = omega arith

third-in : (y : ℕ) → y ≡ 5 → IsOut 5 1 y → ⊥
third-in y q (inl low) = omega arith
third-in y q (inr high) = omega arith

fourth-in : (y : ℕ) → y ≡ 6 → IsOut 6 3 y → ⊥
fourth-in y q (inl low) = omega arith
fourth-in y q (inr high) = omega arith

region_none : AreNamed one_region.place
region_none = layer no_blocks.place 1 8 (Use.Held 1 Taking.ForUse) (λ y q a b c d. first-in y q a)
    (λ y j u a b c d f. absurd (cc))

pieces_none : AreNamed four_blocks.place
pieces_none =
    layer _ 6 3 (Use.Held 1 Taking.ForUse) (λ y q a b c d. fourth-in y q d)
    (layer _ 5 1 (Use.Held 1 Taking.ForUse) (λ y q a b c d. third-in y q c)
    (layer _ 5 4 (Use.Held 1 Taking.ForUse) (λ y q a b c d. third-in y q c)
    (layer _ 3 2 (Use.Held 1 Taking.ForUse) (λ y q a b c d. second-in y q b)
    (layer _ 3 6 (Use.Held 1 Taking.ForUse) (λ y q a b c d. second-in y q b)
    (layer one_region.place 1 2 (Use.Held 1 Taking.ForUse) (λ y q a b c d. first-in y q a) region_none)))))

named_none : AreNamed named_blocks.place
named_none =
    layer one_queued.place 1 2 Use.Bin (λ y q a b c d. first-in y q a)
    (layer one_to_join.place 5 1 Use.Queued (λ y q a b c d. third-in y q c)
    (layer one_in_use.place 5 1 (Use.Held 1 Taking.ToJoin) (λ y q a b c d. third-in y q c)
    (layer four_blocks.place 6 3 Use.Elsewhere (λ y q a b c d. fourth-in y q d) pieces_none)))

-- a granule in a range of one of them
in_range : (x n y j : ℕ) (u w : Use) → ((z : ℕ) → x ≤ z → z < x + n → named_blocks.place z ≡ Place.Block x n u)
    → x ≤ y → y < x + n → named_blocks.place y ≡ Place.Block y j w → IsBlock x n y j
in_range x n y j u w all low high f = by (sym (all y low high) ∙ f)
  where
    by : Place.Block x n u ≡ Place.Block y j w → IsBlock x n y j
    by q = (cc, cc)

is_named : (y j : ℕ) (u : Use) → named_blocks.place y ≡ Place.Block y j u → IsNamed y j
is_named y j u f =
    in_or 1 2 y (λ low high. inl (in_range 1 2 y j Use.Bin u first low high f))
    (λ a. in_or 3 2 y (λ low high. inr (inl (in_range 3 2 y j (Use.Held 1 Taking.ForUse) u second low high f)))
    (λ b. in_or 5 1 y (λ low high. inr (inr (inl (in_range 5 1 y j Use.Queued u third low high f))))
    (λ c. in_or 6 3 y (λ low high. inr (inr (inr (in_range 6 3 y j Use.Elsewhere u fourth low high f))))
    (λ d. absurd (named_none y j u a b c d f)))))
  where
    whole : BlocksWhole named_blocks.place
    whole = named_guards_stand.parts.whole

    first : (z : ℕ) → 1 ≤ z → z < 1 + 2 → named_blocks.place z ≡ Place.Block 1 2 Use.Bin
    first = (whole 1 1 2 Use.Bin refl).all

    second : (z : ℕ) → 3 ≤ z → z < 3 + 2 → named_blocks.place z ≡ Place.Block 3 2 (Use.Held 1 Taking.ForUse)
    second = (whole 3 3 2 (Use.Held 1 Taking.ForUse) refl).all

    third : (z : ℕ) → 5 ≤ z → z < 5 + 1 → named_blocks.place z ≡ Place.Block 5 1 Use.Queued
    third = (whole 5 5 1 Use.Queued refl).all

    fourth : (z : ℕ) → 6 ≤ z → z < 6 + 3 → named_blocks.place z ≡ Place.Block 6 3 Use.Elsewhere
    fourth = (whole 6 6 3 Use.Elsewhere refl).all

there : (e : Side) (at i : ℕ) → at ≡ i → IsCovered named_blocks e at → IsCovered named_blocks e i
there e at i same = subst (IsCovered named_blocks e) same

covered_at : (e : Side) (i y n : ℕ) → edge_of e y n ≡ i → IsNamed y n → IsCovered named_blocks e i
covered_at Side.Begin i y n q (inl (a, b)) = there Side.Begin 1 i (omega arith) (inl refl)
covered_at Side.Begin i y n q (inr (inl (a, b))) =
    there Side.Begin 3 i (omega arith) (inr (1, 2, Use.Bin, refl, refl))
covered_at Side.Begin i y n q (inr (inr (inl (a, b)))) =
    there Side.Begin 5 i (omega arith) (inr (3, 2, Use.Held 1 Taking.ForUse, refl, refl))
covered_at Side.Begin i y n q (inr (inr (inr (a, b)))) =
    there Side.Begin 6 i (omega arith) (inr (5, 1, Use.Queued, refl, refl))
covered_at Side.End i y n q (inl (a, b)) =
    there Side.End 3 i (omega arith) (inr (3, 2, Use.Held 1 Taking.ForUse, refl, refl))
covered_at Side.End i y n q (inr (inl (a, b))) = there Side.End 5 i (omega arith) (inr (5, 1, Use.Queued, refl, refl))
covered_at Side.End i y n q (inr (inr (inl (a, b)))) =
    there Side.End 6 i (omega arith) (inr (6, 3, Use.Elsewhere, refl, refl))
covered_at Side.End i y n q (inr (inr (inr (a, b)))) = there Side.End 9 i (omega arith) (inl refl)

pub named_blocks_are_covered : NamedBlocksAreCovered
named_blocks_are_covered e i (y, n, u, q, at) = covered_at e i y n q (is_named y n u at)
