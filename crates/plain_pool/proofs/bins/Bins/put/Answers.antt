use Rattle.std.proofs.Common.{◌≡◌, ◌≤◌, ◌+◌, ◌-◌, ℕ, List, ◌∷◌, sym, ap, subst, ◌∙◌, arith}
use Rattle.std.proofs.lemmas.Grind.{common_steps}
use Rattle.plain_lists.specs.Lists.{Block}
use Rattle.plain_pool.specs.Bins.{BinsFit, AreBlocks, IsClear, IsNew, block_at, without_to, without_from, granules_to, granules_from}
use Rattle.plain_pool.proofs.BinLemmas.{put_is, put_is_new, put_fits}
use Rattle.plain_pool.proofs.bins.Bins.put.Goals as goal

-- what the joined block is, by what the two calls answered
joined_new : (index before behind : ℕ) (blocks : List Block) → AreBlocks blocks → IsClear index blocks → before ≡ granules_to index blocks → behind ≡ granules_from (index + 2) (without_to index blocks) →
    IsNew (without_from (index + 2) (without_to index blocks)) (block_at (index - before) (before + (2 + behind)))
joined_new index before behind blocks are clear e f =
    subst (λ n. IsNew (without_from (index + 2) (without_to index blocks)) (block_at (index - n) (n + (2 + behind)))) (sym e)
    (subst (λ n. IsNew (without_from (index + 2) (without_to index blocks)) (block_at (index - granules_to index blocks) (granules_to index blocks + (2 + n)))) (sym f)
    (put_is_new index blocks are clear))

sizes : (index before behind : ℕ) (blocks : List Block) → AreBlocks blocks → IsClear index blocks → before ≡ granules_to index blocks → behind ≡ granules_from (index + 2) (without_to index blocks) →
    (before ≤ index) × (index + 2 + behind ≤ 128)
sizes index before behind blocks are clear e f = let s = put_fits index blocks are clear in (omega (arith, s.0, e), omega (arith, s.1, f))

pub overflow_sub-index : goal.overflow_sub-index
overflow_sub-index c = let (blocks, fit, clear) = c.requires in
    (sizes c.args.index c.leave_to-before.result c.leave_from-behind.result blocks fit.blocks_are clear (c.leave_to-before.ensures.granules blocks fit) (c.leave_from-behind.ensures.granules (without_to c.args.index blocks) (c.leave_to-before.ensures.blocks blocks fit))).0

pub overflow_add-behind : goal.overflow_add-behind
overflow_add-behind c = let (blocks, fit, clear) = c.requires in
    let s = (sizes c.args.index c.leave_to-before.result c.leave_from-behind.result blocks fit.blocks_are clear (c.leave_to-before.ensures.granules blocks fit) (c.leave_from-behind.ensures.granules (without_to c.args.index blocks) (c.leave_to-before.ensures.blocks blocks fit))).1 in grind (arith, common_steps)

pub overflow_add-before : goal.overflow_add-before
overflow_add-before c = let (blocks, fit, clear) = c.requires in
    let s = sizes c.args.index c.leave_to-before.result c.leave_from-behind.result blocks fit.blocks_are clear (c.leave_to-before.ensures.granules blocks fit) (c.leave_from-behind.ensures.granules (without_to c.args.index blocks) (c.leave_to-before.ensures.blocks blocks fit)) in
    let a = s.0 in let b = s.1 in grind (arith, common_steps)

pub enter-requires : goal.enter-requires
enter-requires c = let (blocks, fit, clear) = c.requires in
    let fit1 = c.leave_to-before.ensures.blocks blocks fit in (
      without_from (c.args.index + 2) (without_to c.args.index blocks),
      c.leave_from-behind.ensures.blocks (without_to c.args.index blocks) fit1,
      joined_new c.args.index c.leave_to-before.result c.leave_from-behind.result blocks fit.blocks_are clear (c.leave_to-before.ensures.granules blocks fit) (c.leave_from-behind.ensures.granules (without_to c.args.index blocks) fit1),
    )

pub returns : goal.returns
returns c blocks fit clear =
    let fit1 = c.leave_to-before.ensures.blocks blocks fit in
    let before = c.leave_to-before.ensures.granules blocks fit in
    let behind = c.leave_from-behind.ensures.granules (without_to c.args.index blocks) fit1 in
    subst (BinsFit c.enter.new.self.lists c.enter.new.self.begins.items c.enter.new.self.ends.items)
    (ap (λ n. block_at (c.args.index - n) (n + (2 + c.leave_from-behind.result)) ∷ without_from (c.args.index + 2) (without_to c.args.index blocks)) before
    ∙ ap (λ n. block_at (c.args.index - granules_to c.args.index blocks) (granules_to c.args.index blocks + (2 + n)) ∷ without_from (c.args.index + 2) (without_to c.args.index blocks)) behind
    ∙ put_is c.args.index blocks fit.blocks_are)
    (c.enter.ensures (without_from (c.args.index + 2) (without_to c.args.index blocks)) (c.leave_from-behind.ensures.blocks (without_to c.args.index blocks) fit1)
    (joined_new c.args.index c.leave_to-before.result c.leave_from-behind.result blocks fit.blocks_are clear before behind))
