use Rattle.std.proofs.Common.{arith, subst, ◌<◌, ◌∙◌}
use Rattle.atomic_driver.proofs.CallerLemmas.{some_words}
use Rattle.quiet_pool.proofs.Asked.{asked_forgets, renoted}
use Rattle.quiet_pool.proofs.noting.forget.Goals as goal

pub load-requires : goal.load-requires
load-requires g c =
    let t = c.requires in
    let sized = t.sizes.words in
    let some_ = some_words c.args.key.now in
    let e = c.exchange.ensures in (
      e.0 ∙ t.table.0,
      omega arith,
      asked_forgets g.R.Raw.out g.R.Raw.faults g.R.Raw.got g.R.Raw.passed c.args.plan.now c.args.top.now.key _ _ _ 0
          t.noted.0 c.args.office t.table.1 t.sizes.slots (subst (λ k. 0 < k.seats) t.key t.some)
          (renoted c.args.place.now.me _ t.noted.0 c.args.office e.3 t.noted.1),
    )
