use Rattle.std.proofs.Common.{arith, subst, ap, ◌<◌, ◌∙◌}
use Rattle.atomic_driver.specs.Rule.{key_by}
use Rattle.atomic_driver.proofs.CallerLemmas.{some_words}
use Rattle.quiet_pool.specs.Noting.{IsAll}
use Rattle.quiet_pool.proofs.Asked.{asked_notes}
use Rattle.quiet_pool.proofs.noting.notes_as.Goals as goal

pub load-requires : goal.load-requires
load-requires g c =
    let t = c.requires in
    let sized = t.sizes.words in
    let some_ = some_words c.args.key.now in
    let key_is = t.key.0 ∙ ap key_by t.key.1 in (
      t.table.0,
      omega arith,
      asked_notes g.R.Raw.out g.R.Raw.faults g.R.Raw.got g.R.Raw.passed g.B.Standing.plan c.args.top.now.key _
          c.args.place.now.id c.args.place.now.me 0 (t.table.1 ∙ t.key.1) t.sizes.slots
          (subst (λ k. 0 < k.seats) key_is t.some) (subst
          (λ k. IsAll k c.args.place.now.me.0.entries) key_is t.all) t.place,
    )
