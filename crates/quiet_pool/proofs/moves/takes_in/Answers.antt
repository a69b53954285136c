use Rattle.std.proofs.Common.{ap, sym, ◌∙◌, arith}
use Rattle.pool_api.specs.Heaps.{entry_of}
use Rattle.atomic_driver.specs.Rule.{plain}
use Rattle.atomic_driver.proofs.CallerLemmas.{some_words}
use Rattle.quiet_pool.proofs.Asked.{asked_joined}
use Rattle.quiet_pool.proofs.Quiets.{idle_place}
use Rattle.quiet_pool.proofs.moves.takes_in.Goals as goal

pub join_seat-requires : goal.join_seat-requires
join_seat-requires g c =
    let t = c.requires in
    let sized = t.sizes.words in
    let some_ = some_words c.args.key.now in
    let taken = c.replace-taken.ensures.value in
    let e = c.empty_place-empty.ensures.place in
    let had = idle_place g.R.Raw.out g.R.Raw.faults g.R.Raw.got g.R.Raw.passed c.args.top.now.table_id c.args.plan.now
    c.args.seat c.args.heap.now t.heap t.idle in (
      e.0 ∙ t.table.0,
      ap (λ z. z.table_id) taken ∙ t.heap.same_table,
      ap (λ z. z.me.1) taken ∙ ap (λ z. z.1) had,
      omega arith,
      asked_joined g.R.Raw.out g.R.Raw.faults g.R.Raw.got g.R.Raw.passed c.args.plan.now c.args.top.now.key _ _ _ _
          (entry_of c.args.heap.now) t.table.1
          (ap (λ z. z.0) (e.1 ∙ t.place) ∙ ap (λ z. plain z.0.entries) (sym e.1)) (ap (λ z. z.me.0) taken ∙ ap
          (λ z. z.0) had),
    )
