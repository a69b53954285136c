use Rattle.std.proofs.Common.{◌+◌, sym, ap, subst, ◌∙◌, set, arith}
use Rattle.std.proofs.lemmas.Grind.{common_steps}
use Rattle.index_lists.specs.Lists.{without, IsIn}
use Rattle.plain_pool.specs.Bins.{BinsFit, block_at, without_from}
use Rattle.plain_pool.proofs.BinLemmas.{left_is_in, fit_left}
use Rattle.plain_pool.proofs.bins.Bins.leave.Goals as goal

pub bin_of-requires : goal.bin_of-requires
bin_of-requires c = let (blocks, fit, inside) = c.requires in (fit.blocks_are.each (block_at c.args.first c.args.granules) inside).some

pub remove-requires : goal.remove-requires
remove-requires c = let (blocks, fit, inside) = c.requires in
    subst (λ bin. IsIn c.args.self.now.lists bin c.args.first) (sym c.bin_of.ensures)
    (left_is_in c.args.self.now.lists c.args.self.now.begins.items c.args.self.now.ends.items blocks (block_at c.args.first c.args.granules) fit inside)

pub index_mut-requires : goal.index_mut-requires
index_mut-requires c = let (blocks, fit, inside) = c.requires in
    let is = (fit.blocks_are.each (block_at c.args.first c.args.granules) inside).inside in let long = fit.begins_long in grind (arith, common_steps)

pub overflow_add-first : goal.overflow_add-first
overflow_add-first c = let (blocks, fit, inside) = c.requires in
    let is = (fit.blocks_are.each (block_at c.args.first c.args.granules) inside).inside in grind (arith, common_steps)

pub index_mut-requires-2 : goal.index_mut-requires-2
index_mut-requires-2 c = let (blocks, fit, inside) = c.requires in
    let is = (fit.blocks_are.each (block_at c.args.first c.args.granules) inside).inside in let long = fit.ends_long in grind (arith, common_steps)

pub returns : goal.returns
returns c blocks fit inside =
    subst (λ lists. BinsFit lists (set c.args.self.now.begins.items c.args.first 0) (set c.args.self.now.ends.items (c.args.first + c.args.granules) 0) (without_from c.args.first blocks))
    (sym (c.remove.ensures.gone ∙ ap (λ bin. without c.args.self.now.lists bin c.args.first) c.bin_of.ensures))
    (fit_left c.args.self.now.lists c.args.self.now.begins.items c.args.self.now.ends.items blocks c.args.first c.args.granules fit inside)
