-- The pool after each step at the office.
use Rattle.std.proofs.Common.{◌≡◌, ℕ, ◌+◌, ◌<◌, ◌≤◌, ap, arith, ◌∙◌}
use Rattle.pool_types.specs.declared.policy.RegionRec.{RegionRec}
use Rattle.pool_words.specs.declared.words.Key.{Key}
use Rattle.pool_words.specs.declared.words.Word.{Word}
use Rattle.pool_words.specs.declared.actions.Action.TheVariants.{Store}
use Rattle.pool_words.specs.Words.{marks, publics, kinds, headers, sizes, lefts}
use Rattle.word_codes.specs.declared.guards.Guard.{Guard}
use Rattle.word_codes.specs.Guards.{guard_of, guard_word}
use Rattle.word_codes.proofs.CallerLemmas.{guards_read_back}
use Rattle.guards.specs.declared.win.Side.{Side}
use Rattle.guards.specs.declared.win.Taking.{Taking}
use Rattle.region_steps.specs.Office.{wall_of}
use Rattle.word_laws.specs.Memory.{Mem, after}
use Rattle.word_laws.proofs.CallerLemmas.{put-same, stored-valid}
use Rattle.guard_laws.specs.Blocks.{Place, Standing, edge_of, edge_word}
use Rattle.guard_laws.specs.Steps.{GuardStep, IsNoEdge, guard_in, with_edge}
use Rattle.guard_laws.proofs.CallerLemmas.{stored-apart}
use Rattle.use_laws.specs.Pools.{Pool, PoolGood, InHand}
use Rattle.use_laws.specs.Steps.{PoolStep, SameThings}
use Rattle.use_laws.proofs.CallerLemmas.{steps_keep_pool, same_self}
use Rattle.region_laws.specs.Steps.{blocks_settled, blocks_removed}

-- a store of a guard leaves the words of slabs and objects
edge_same : (k : Key) (m : Mem) (e : Side) (y v : ℕ) → SameThings m (after k m (Store (edge_word e y) v))
edge_same k m Side.Begin y v = record {
  marks' = stored-apart k m (Word.Size y) v marks (λ e. omega (arith, e));
  publics' = stored-apart k m (Word.Size y) v publics (λ e. omega (arith, e));
  kinds' = stored-apart k m (Word.Size y) v kinds (λ e. omega (arith, e));
  headers' = stored-apart k m (Word.Size y) v headers (λ e. omega (arith, e));
}
edge_same k m Side.End y v = record {
  marks' = stored-apart k m (Word.Left y) v marks (λ e. omega (arith, e));
  publics' = stored-apart k m (Word.Left y) v publics (λ e. omega (arith, e));
  kinds' = stored-apart k m (Word.Left y) v kinds (λ e. omega (arith, e));
  headers' = stored-apart k m (Word.Left y) v headers (λ e. omega (arith, e));
}

-- a wall, or a guard that says that a block is in use, where no block has an edge
pub walled_so : (k : Key) (seat : ℕ) (p : Pool) (e : Side) (y : ℕ) → y ≤ k.span → IsNoEdge p.blocks.place e y
    → PoolGood k p
    → PoolGood k (record p {
      mem = after k p.mem (Store (edge_word e y) (guard_word Guard.Wall));
      blocks = with_edge e y Standing.Walled p.blocks;
    })
walled_so k t p e y low none good =
    let m' = after k p.mem (Store (edge_word e y) (guard_word Guard.Wall)) in
    let h = with_edge e y Standing.Walled p.blocks in
    steps_keep_pool k t p (record p { mem = m'; blocks = h }) good
    (PoolStep.guards h m' p.tasks (GuardStep.walls e y low none) tt (edge_same k p.mem e y (guard_word Guard.Wall)))

pub outlined_so : (k : Key) (seat : ℕ) (p : Pool) (e : Side) (y : ℕ) → y ≤ k.span → IsNoEdge p.blocks.place e y
    → PoolGood k p
    → PoolGood k (record p {
      mem = after k p.mem (Store (edge_word e y) (guard_word Guard.Used));
      blocks = with_edge e y Standing.Inner p.blocks;
    })
outlined_so k t p e y low none good =
    let m' = after k p.mem (Store (edge_word e y) (guard_word Guard.Used)) in
    let h = with_edge e y Standing.Inner p.blocks in
    steps_keep_pool k t p (record p { mem = m'; blocks = h }) good
    (PoolStep.guards h m' p.tasks (GuardStep.outlines e y low none) tt (edge_same k p.mem e y (guard_word Guard.Used)))

-- the last guard of a region, which is a block in hand then
pub settled_so : (k : Key) (seat : ℕ) (p : Pool) (one : RegionRec) → 0 < one.granules
    → one.first + one.granules ≤ k.span → IsNoEdge p.blocks.place Side.End (wall_of one)
    → ((z : ℕ) → one.first ≤ z → z < one.first + one.granules → p.blocks.place z ≡ Place.Outside)
    → guard_in p.mem Side.Begin one.first ≡ Guard.Used → PoolGood k p
    → PoolGood k (record p {
      mem = after k p.mem (Store (Word.Left (wall_of one)) (guard_word Guard.Used));
      blocks = blocks_settled seat one p.blocks;
    })
settled_so k t p one some within none outside first good =
    let m' = after k p.mem (Store (Word.Left (wall_of one)) (guard_word Guard.Used)) in
    let edged = with_edge Side.End (wall_of one) Standing.Inner p.blocks in
    let outlined = outlined_so k t p Side.End (wall_of one) within none good in
    steps_keep_pool k t (record p { mem = m'; blocks = edged })
    (record p { mem = m'; blocks = blocks_settled t one p.blocks }) outlined
    (PoolStep.guards (blocks_settled t one p.blocks) m' p.tasks
    (GuardStep.comes one.first one.granules some within outside used) tt (same_self m'))
  where
    stored : Mem
    stored = after k p.mem (Store (Word.Left (wall_of one)) (guard_word Guard.Used))

    used : (e : Side) → guard_in stored e (edge_of e one.first one.granules) ≡ Guard.Used
    used Side.Begin = ap (λ (f : ℕ → ℕ). guard_of (f one.first))
        (stored-apart k p.mem (Word.Left (wall_of one)) (guard_word Guard.Used) sizes (λ e. omega (arith, e))) ∙ first
    used Side.End =
        ap (λ (m : Mem). guard_of (m lefts (wall_of one)))
        (stored-valid k p.mem (Word.Left (wall_of one)) (guard_word Guard.Used) (omega arith))
        ∙ ap guard_of (put-same (p.mem lefts) (wall_of one) (guard_word Guard.Used))
        ∙ guards_read_back Guard.Used tt

-- the block of a region goes
pub removed_so : (k : Key) (seat : ℕ) (p : Pool) (one : RegionRec) (taking : Taking)
    → InHand p seat one.first one.granules taking → PoolGood k p
    → PoolGood k (record p { blocks = blocks_removed one p.blocks })
removed_so k t p one taking has good = steps_keep_pool k t p (record p { blocks = blocks_removed one p.blocks }) good
    (PoolStep.guards (blocks_removed one p.blocks) p.mem p.tasks
    (GuardStep.leaves one.first one.granules taking has.away has.block) tt (same_self p.mem))
