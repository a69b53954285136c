use Rattle.std.proofs.Common.{arith, ap}
use Rattle.atomic_driver.proofs.CallerLemmas.{some_words}
use Rattle.quiet_pool.proofs.Asked.{asked_first}
use Rattle.quiet_pool.proofs.moves.hands_on.Goals as goal

pub split_seat-requires : goal.split_seat-requires
split_seat-requires g c =
    let t = c.requires in
    let sized = t.sizes.words in
    let some_ = some_words c.args.key.now in (
      t.table.0,
      omega arith,
      asked_first g.R.Raw.out g.R.Raw.faults g.R.Raw.got g.R.Raw.passed c.args.plan.now c.args.top.now.key
          c.args.place.now.id _ c.args.place.now.me.0 t.table.1 (ap (λ z. z.0.note) t.unnoted) t.row t.some,
    )
