use Rattle.std.proofs.Common.{◌+◌, sym, ap, subst, ◌∙◌, ◌∷◌, set}
use Rattle.index_lists.specs.Lists.{with_first}
use Rattle.plain_pool.specs.Bins.{BinsFit, block_at}
use Rattle.plain_pool.proofs.BinLemmas.{entered_is_free, fit_entered}
use Rattle.plain_pool.proofs.bins.Bins.enter.Goals as goal

pub push_front-requires-clause-free : goal.push_front-requires-clause-free
push_front-requires-clause-free c = let (blocks, fit, fresh) = c.requires in
    entered_is_free c.args.self.now.lists c.args.self.now.begins.items c.args.self.now.ends.items blocks (block_at c.args.first c.args.granules) fit fresh

pub returns : goal.returns
returns c blocks fit fresh =
    subst (λ lists. BinsFit lists (set c.args.self.now.begins.items c.args.first c.args.granules) (set c.args.self.now.ends.items (c.args.first + c.args.granules) c.args.granules) (block_at c.args.first c.args.granules ∷ blocks))
    (sym (c.push_front.ensures.first ∙ ap (λ bin. with_first c.args.self.now.lists bin c.args.first) c.bin_of.ensures))
    (fit_entered c.args.self.now.lists c.args.self.now.begins.items c.args.self.now.ends.items blocks c.args.first c.args.granules fit fresh)
