use Rattle.std.proofs.Common.{arith}
use Rattle.atomic_driver.proofs.CallerLemmas.{some_words}
use Rattle.quiet_pool.proofs.Asked.{asked_nothing}
use Rattle.quiet_pool.proofs.moves.empty_place.Goals as goal

pub split_seat-requires : goal.split_seat-requires
split_seat-requires g c =
    let t = c.requires in
    let sized = t.sizes.words in
    let some_ = some_words c.args.key.now in (
      t.table.0,
      omega arith,
      asked_nothing g.R.Raw.out g.R.Raw.faults g.R.Raw.got g.R.Raw.passed c.args.plan.now c.args.top.now.key
          c.args.place.now.id c.args.place.now.me.0 t.table.1,
    )
