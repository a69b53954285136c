use Rattle.std.proofs.Common.{rules, refl}
use Rattle.plain_pool.proofs.BinLemmas.{fit_empty}
use Rattle.plain_pool.proofs.bins.Bins.new.Goals as goal

pub returns : goal.returns
returns c = fit_empty 512 129 c.in_ok-new.field-0 c.in_ok-vec.field-0.items c.in_ok-vec-2.field-0.items refl refl c.in_ok-new.ensures
    (c.in_ok-vec.ensures.items_if_clones_equal (λ y h. search rules)) (c.in_ok-vec-2.ensures.items_if_clones_equal (λ y h. search rules))
