use Rattle.std.proofs.Common.{sym, ap, ◌∙◌, arith}
use Rattle.pool_words.specs.declared.actions.Action.TheVariants.{Load, Store, Swap, Exchange, Add}
use Rattle.atomic_driver.specs.Rule.{key_by}
use Rattle.atomic_driver.proofs.CallerLemmas.{some_words}
use Rattle.quiet_pool.proofs.Asked.{asked, asked_blind, asked_void}
use Rattle.quiet_pool.proofs.steps.step.Goals as goal

pub load-requires : goal.load-requires
load-requires g c =
    let t = c.requires in
    let high = c.if-index-words.true in
    let all = c.words.ensures in
    let at = c.index-index.ensures in
    let sized = t.sizes.words in
    let some_ = some_words c.args.key.now in (
      t.table,
      omega arith,
      asked_void _ _ _ _ g.B.Standing.plan _ _ _ _ g.B.Standing.seat _ _ _ _ (t.plan.0 ∙ t.plan.1) (t.key
          ∙ ap key_by t.plan.1) t.local t.word t.can 0 (omega arith),
    )

pub load-found-requires : goal.load-found-requires
load-found-requires g c =
    let t = c.requires in
    let low = c.if-index-words.false in
    let all = c.words.ensures in
    let sized = t.sizes.words in (
      t.table,
      omega arith,
      asked _ _ _ _ g.B.Standing.plan _ _ _ _ g.B.Standing.seat _ _ _ _ (t.plan.0 ∙ t.plan.1) (t.key
          ∙ ap key_by t.plan.1) t.local t.word t.can _ (Load c.in-Load.field-0) (sym c.next-action.ensures
          ∙ c.in-Load.is) c.index-index.ensures,
    )

pub store-requires : goal.store-requires
store-requires g c =
    let t = c.requires in
    let low = c.if-index-words.false in
    let all = c.words.ensures in
    let sized = t.sizes.words in (
      t.table,
      omega arith,
      asked_blind _ _ _ _ g.B.Standing.plan _ _ _ _ g.B.Standing.seat _ _ _ _ (t.plan.0 ∙ t.plan.1) (t.key
          ∙ ap key_by t.plan.1) t.local t.word t.can _ (Store c.in-Store.field-0 c.in-Store.value)
          (sym c.next-action.ensures ∙ c.in-Store.is) c.index-index.ensures,
    )

pub swap-found-requires : goal.swap-found-requires
swap-found-requires g c =
    let t = c.requires in
    let low = c.if-index-words.false in
    let all = c.words.ensures in
    let sized = t.sizes.words in (
      t.table,
      omega arith,
      asked _ _ _ _ g.B.Standing.plan _ _ _ _ g.B.Standing.seat _ _ _ _ (t.plan.0 ∙ t.plan.1) (t.key
          ∙ ap key_by t.plan.1) t.local t.word t.can _ (Swap c.in-Swap.field-0 c.in-Swap.value)
          (sym c.next-action.ensures ∙ c.in-Swap.is) c.index-index.ensures,
    )

pub compare_exchange-found-requires : goal.compare_exchange-found-requires
compare_exchange-found-requires g c =
    let t = c.requires in
    let low = c.if-index-words.false in
    let all = c.words.ensures in
    let sized = t.sizes.words in (
      t.table,
      omega arith,
      asked _ _ _ _ g.B.Standing.plan _ _ _ _ g.B.Standing.seat _ _ _ _ (t.plan.0 ∙ t.plan.1) (t.key
          ∙ ap key_by t.plan.1) t.local t.word t.can _
          (Exchange c.in-Exchange.word c.in-Exchange.from c.in-Exchange.to) (sym c.next-action.ensures
          ∙ c.in-Exchange.is) c.index-index.ensures,
    )

pub fetch_add-found-requires : goal.fetch_add-found-requires
fetch_add-found-requires g c =
    let t = c.requires in
    let low = c.if-index-words.false in
    let all = c.words.ensures in
    let sized = t.sizes.words in (
      t.table,
      omega arith,
      asked _ _ _ _ g.B.Standing.plan _ _ _ _ g.B.Standing.seat _ _ _ _ (t.plan.0 ∙ t.plan.1) (t.key
          ∙ ap key_by t.plan.1) t.local t.word t.can _ (Add c.in-Add.field-0 c.in-Add.value)
          (sym c.next-action.ensures ∙ c.in-Add.is) c.index-index.ensures,
    )
