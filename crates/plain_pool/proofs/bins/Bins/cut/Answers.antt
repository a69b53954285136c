use Rattle.std.proofs.Common.{arith}
use Rattle.std.proofs.lemmas.Grind.{common_steps}
use Rattle.plain_pool.specs.Bins.{without_from}
use Rattle.plain_pool.proofs.BinLemmas.{cut_at, cut_rest, cut_done}
use Rattle.plain_pool.proofs.bins.Bins.cut.Goals as goal

pub leave_from-granules-requires-clause-within : goal.leave_from-granules-requires-clause-within
leave_from-granules-requires-clause-within c = let (blocks, fit) = c.requires in
    let at = cut_at blocks c.in_ok-first.first fit.blocks_are (c.in_ok-first.ensures blocks fit) in let b = at.below in omega arith

pub overflow_add-first : goal.overflow_add-first
overflow_add-first c = let (blocks, fit) = c.requires in
    let at = cut_at blocks c.in_ok-first.first fit.blocks_are (c.in_ok-first.ensures blocks fit) in let b = at.below in grind (arith, common_steps)

pub overflow_sub-granules : goal.overflow_sub-granules
overflow_sub-granules c = let (blocks, fit) = c.requires in
    let at = cut_at blocks c.in_ok-first.first fit.blocks_are (c.in_ok-first.ensures blocks fit) in
    let g = c.leave_from-granules.ensures.granules blocks fit in let m = at.most in omega (arith, g, m)

pub enter_rest-requires : goal.enter_rest-requires
enter_rest-requires c some = let (blocks, fit) = c.requires in (
  without_from c.in_ok-first.first blocks,
  c.leave_from-granules.ensures.blocks blocks fit,
  cut_rest blocks c.in_ok-first.first c.leave_from-granules.result fit.blocks_are (c.in_ok-first.ensures blocks fit) (c.leave_from-granules.ensures.granules blocks fit) some,
)

pub returns : goal.returns
returns c blocks fit =
    cut_done c.enter_rest.new.self blocks c.in_ok-first.first c.leave_from-granules.result fit.blocks_are (c.in_ok-first.ensures blocks fit) (c.leave_from-granules.ensures.granules blocks fit)
    (c.enter_rest.ensures (without_from c.in_ok-first.first blocks) (c.leave_from-granules.ensures.blocks blocks fit)
    (λ some. cut_rest blocks c.in_ok-first.first c.leave_from-granules.result fit.blocks_are (c.in_ok-first.ensures blocks fit) (c.leave_from-granules.ensures.granules blocks fit) some))
