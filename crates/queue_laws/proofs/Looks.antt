-- What a put that is alone finds at its block's sides.
use Rattle.std.proofs.Common.{◌≡◌, ◌≢◌, ◌⊎◌, inl, inr, ℕ, ◌+◌, refl, sym, ap, subst, arith, ◌∙◌}
use Rattle.pool_words.specs.declared.words.Key.{Key}
use Rattle.word_codes.specs.declared.guards.Guard.{Guard}
use Rattle.guards.specs.declared.win.Side.{Side}
use Rattle.guards.specs.declared.win.Taking.{Taking}
use Rattle.guards.specs.Win.{other_side}
use Rattle.word_laws.specs.Memory.{Mem}
use Rattle.guard_laws.specs.Blocks as blocks
use Rattle.guard_laws.specs.Blocks.{Use, Place, Standing, Piece, half_of, piece_of, at_edge, edge_of, EdgeFits}
use Rattle.guard_laws.specs.Blocks.{GuardFits}
use Rattle.guard_laws.specs.Blocks.{GuardGood, core_in}
use Rattle.guard_laws.specs.Neighbours.{IsEdge, IsCovered, Covered}
use Rattle.guard_laws.specs.Steps.{guard_in}
use Rattle.queue_laws.specs.Puts.{HasBlock}
use Rattle.queue_laws.specs.Alone.{IsCalm}
use Rattle.queue_laws.specs.Laws.{AloneSidesAreUnmarked}
use Rattle.queue_laws.proofs.Alone.{NoHalves, no_bin}

abbrev pub NoPieces : (ℕ → blocks.Task) → Type 0
NoPieces tasks = (o : ℕ) → piece_of (tasks o) ≡ Piece.NoPiece

twice : (e : Side) → other_side (other_side e) ≡ e
twice Side.Begin = refl
twice Side.End = refl

-- a put that is alone finds no mark of a join at its block's sides: what lies there is a wall, a block in a bin, or one
-- in use
no_mark : (k : Key) (g : blocks.Shadow) (m : Mem) (tasks : ℕ → blocks.Task) (e : Side) (i : ℕ)
    → GuardGood k g (core_in m tasks) → NoHalves tasks → NoPieces tasks → IsCovered g (other_side e) i
    → ((x n : ℕ) → g.place x ≡ Place.Block x n Use.Queued → ⊥)
    → ((x n o : ℕ) → g.place x ≡ Place.Block x n (Use.Held o Taking.ToJoin) → edge_of e x n ≢ i)
    → guard_in m e i ≢ Guard.Coalescing
no_mark k g m tasks e i good halves pieces covered none own is = by covered
  where
    fits : (s : Standing) → at_edge g.standing e i ≡ s → GuardFits s Guard.Coalescing
    fits s q = subst (GuardFits s) is (subst (λ r. GuardFits r (guard_in m e i)) q (good.parts.words_fit e i))

    rests : at_edge g.standing e i ≡ Standing.Resting → ⊥
    rests q = let r : Guard.Coalescing ≡ Guard.Used = fits Standing.Resting q in cc

    block : (x n : ℕ) (u : Use) → edge_of e x n ≡ i → g.place x ≡ Place.Block x n u
        → EdgeFits (λ o. piece_of (tasks o)) e u x n (at_edge g.standing e i) → ⊥
    block x n Use.Bin q f s = no_bin k g m tasks e x n i Guard.Coalescing good halves is tt q f
    block x n (Use.Held o Taking.ForUse) q f (inl s) = rests s
    block x n (Use.Held o Taking.ForUse) q f (inr (b, p, s)) =
        let z : Piece.NoPiece ≡ Piece.Got x n = sym (pieces o) ∙ p in cc
    block x n (Use.Held o Taking.ToJoin) q f s = own x n o f q
    block x n Use.Queued q f s = none x n f
    block x n Use.Elsewhere q f s = rests s

    there : (s : Side) → s ≡ e → at_edge g.standing s i ≡ Standing.Walled ⊎ IsEdge g s i → ⊥
    there s same (inl wall) = let r : Guard.Coalescing ≡ Guard.Wall =
        fits Standing.Walled (ap (λ j. at_edge g.standing j i) (sym same) ∙ wall) in cc
    there s same (inr (x, n, u, q, f)) =
        let q' : edge_of e x n ≡ i = ap (λ j. edge_of j x n) (sym same) ∙ q in
        block x n u q' f (subst (λ y. EdgeFits (λ o. piece_of (tasks o)) e u x n (at_edge g.standing e y)) q'
        (good.parts.edges_fit e x n u f))

    by : IsCovered g (other_side e) i → ⊥
    by c = there (other_side (other_side e)) (twice e) c

-- both sides of a put's block
pub unmarked : (k : Key) (g : blocks.Shadow) (m : Mem) (tasks : ℕ → blocks.Task) (seat first n : ℕ)
    → GuardGood k g (core_in m tasks) → Covered g → NoHalves tasks → NoPieces tasks → HasBlock g seat first n
    → IsCalm g.place first
    → (guard_in m Side.End first ≢ Guard.Coalescing) × (guard_in m Side.Begin (first + n) ≢ Guard.Coalescing)
unmarked k g m tasks seat first n good covered halves pieces hand calm = (
  no_mark k g m tasks Side.End first good halves pieces
      (covered Side.Begin first (first, n, Use.Held seat Taking.ToJoin, refl, hand)) calm.queue
      (λ x j o f q. let same = calm.alone x j o f in
      let low = (good.parts.whole x x j (Use.Held o Taking.ToJoin) f).below in omega arith),
  no_mark k g m tasks Side.Begin (first + n) good halves pieces
      (covered Side.End (first + n) (first, n, Use.Held seat Taking.ToJoin, refl, hand)) calm.queue
      (λ x j o f q. let same = calm.alone x j o f in
      let low = (good.parts.whole first first n (Use.Held seat Taking.ToJoin) hand).below in omega arith),
)

pub alone_sides_are_unmarked : AloneSidesAreUnmarked
alone_sides_are_unmarked k g m tasks seat first n good covered away hand calm =
    unmarked k g m tasks seat first n good covered (λ o. ap half_of (away o)) (λ o. ap piece_of (away o)) hand calm
