use Rattle.std.proofs.Common.{◌≡◌, ◌-◌, sym, ap, ◌∙◌, arith}
use Rattle.plain_lists.specs.Backend.{fit_from}
use Rattle.index_lists.specs.Lists.{first_of}
use Rattle.plain_pool.specs.Bins.{first_granule}
use Rattle.plain_pool.proofs.BinLemmas.{scan_found, scan_goes_on, scan_ends}
use Rattle.plain_pool.proofs.bins.Bins.first_fit.Goals as goal

pub returns-in-Some : goal.returns-in-Some
returns-in-Some c blocks fit =
    scan_found blocks c.loop-bin.bin c.in-Some.first fit.blocks_are c.loop-bin-test.true (sym c.in-Some.is ∙ c.first.ensures.exact ∙ ap first_of (fit.listed c.loop-bin.bin c.loop-bin-test.true))
    ∙ sym (ap first_granule (c.loop-bin.invariant blocks fit))

pub loop-bin-preserved : goal.loop-bin-preserved
loop-bin-preserved c blocks fit = c.loop-bin.invariant blocks fit
    ∙ scan_goes_on blocks c.loop-bin.bin fit.blocks_are c.loop-bin-test.true (sym c.in_default.is ∙ c.first.ensures.exact ∙ ap first_of (fit.listed c.loop-bin.bin c.loop-bin-test.true))

pub returns : goal.returns
returns c blocks fit = let none : 512 - c.loop-bin.bin ≡ 0 = let f = c.loop-bin-test.false in omega arith in
    sym (ap first_granule (c.loop-bin.invariant blocks fit ∙ ap (λ n. fit_from n c.loop-bin.bin blocks) none ∙ scan_ends c.loop-bin.bin blocks))
