use Rattle.std.proofs.Common.{◌≡◌, ◌+◌, ◌-◌, sym, ap, subst, ◌∙◌, arith}
use Rattle.std.proofs.lemmas.Grind.{common_steps}
use Rattle.std.proofs.lemmas.List.{get_or_default}
use Rattle.plain_pool.specs.Bins.{BinsFit, block_at, without_to}
use Rattle.plain_pool.proofs.BinLemmas.{to_found, none_to, without_one}
use Rattle.plain_pool.proofs.bins.Bins.leave_to.Goals as goal

pub overflow_sub-place : goal.overflow_sub-place
overflow_sub-place c = let (blocks, fit) = c.requires.blocks in
    (to_found c.args.place c.index-granules.result.now blocks (let is = fit.ends_are c.args.place in let long = fit.ends_long in grind (arith, common_steps, get_or_default)) c.if-granules-gt0.true).0

pub leave-requires : goal.leave-requires
leave-requires c = let (blocks, fit) = c.requires.blocks in
    (blocks, fit, (to_found c.args.place c.index-granules.result.now blocks (let is = fit.ends_are c.args.place in let long = fit.ends_long in grind (arith, common_steps, get_or_default)) c.if-granules-gt0.true).1)

pub returns-then-granules-gt0-clause-blocks : goal.returns-then-granules-gt0-clause-blocks
returns-then-granules-gt0-clause-blocks c blocks fit =
    let (below, inside) = to_found c.args.place c.index-granules.result.now blocks (let is = fit.ends_are c.args.place in let long = fit.ends_long in grind (arith, common_steps, get_or_default)) c.if-granules-gt0.true in
    let ends : c.args.place - c.index-granules.result.now + c.index-granules.result.now ≡ c.args.place = omega (arith, below) in
    subst (BinsFit c.leave.new.self.lists c.leave.new.self.begins.items c.leave.new.self.ends.items)
    (without_one blocks (block_at (c.args.place - c.index-granules.result.now) c.index-granules.result.now) fit.blocks_are inside ∙ ap (λ place. without_to place blocks) ends)
    (c.leave.ensures blocks fit inside)

pub returns-else-granules-gt0-clause-blocks : goal.returns-else-granules-gt0-clause-blocks
returns-else-granules-gt0-clause-blocks c blocks fit =
    subst (BinsFit c.args.self.now.lists c.args.self.now.begins.items c.args.self.now.ends.items)
    (sym (none_to c.args.place blocks fit.blocks_are (let is = fit.ends_are c.args.place in let long = fit.ends_long in let f = c.if-granules-gt0.false in grind (arith, common_steps, get_or_default)))) fit
