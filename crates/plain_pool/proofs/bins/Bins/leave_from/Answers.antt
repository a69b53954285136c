use Rattle.std.proofs.Common.{sym, subst, arith}
use Rattle.std.proofs.lemmas.Grind.{common_steps}
use Rattle.std.proofs.lemmas.List.{get_or_default}
use Rattle.plain_pool.specs.Bins.{BinsFit}
use Rattle.plain_pool.proofs.BinLemmas.{from_found, none_from}
use Rattle.plain_pool.proofs.bins.Bins.leave_from.Goals as goal

pub leave-requires : goal.leave-requires
leave-requires c = let (blocks, fit) = c.requires.blocks in
    (blocks, fit, from_found c.args.place c.index-granules.result.now blocks (let is = fit.begins_are c.args.place in let long = fit.begins_long in grind (arith, common_steps, get_or_default)) c.if-granules-gt0.true)

pub returns-then-granules-gt0-clause-blocks : goal.returns-then-granules-gt0-clause-blocks
returns-then-granules-gt0-clause-blocks c blocks fit =
    c.leave.ensures blocks fit (from_found c.args.place c.index-granules.result.now blocks (let is = fit.begins_are c.args.place in let long = fit.begins_long in grind (arith, common_steps, get_or_default)) c.if-granules-gt0.true)

pub returns-else-granules-gt0-clause-blocks : goal.returns-else-granules-gt0-clause-blocks
returns-else-granules-gt0-clause-blocks c blocks fit =
    subst (BinsFit c.args.self.now.lists c.args.self.now.begins.items c.args.self.now.ends.items)
    (sym (none_from c.args.place blocks fit.blocks_are (let is = fit.begins_are c.args.place in let long = fit.begins_long in let f = c.if-granules-gt0.false in grind (arith, common_steps, get_or_default)))) fit
