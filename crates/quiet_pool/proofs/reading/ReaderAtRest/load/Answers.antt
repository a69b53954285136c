use Rattle.std.proofs.Common.{ap, sym, ◌∙◌, arith}
use Rattle.std.specs.Prelude.{slice_index}
use Rattle.word_totals.specs.Reading.{load}
use Rattle.quiet_pool.specs.Quiet.{words_noted}
use Rattle.quiet_pool.proofs.Asked.{looks}
use Rattle.quiet_pool.proofs.Quiets.{found_noted, void_noted}
use Rattle.quiet_pool.proofs.reading.ReaderAtRest.load.Goals as goal

pub returns-then-index-words-clause-found : goal.returns-then-index-words-clause-found
unfolding load
returns-then-index-words-clause-found g c =
    let can = c.self.invariant.2 in
    let high = c.if-index-words.true in
    let all = c.words.ensures in
    let at = c.index-index.ensures in
    sym (void_noted c.self.inside.key c.self.inside.place.me.0.note can.note can.is_noted can.sized
    c.index-index.result (omega arith))
    ∙ ap (λ i. slice_index (words_noted c.self.inside.place.me.0.note) i) at
    ∙ ap (λ s. load s c.args.word) c.self.view_is

pub load-requires : goal.load-requires
load-requires g c =
    let can = c.self.invariant.2 in
    let low = c.if-index-words.false in
    let all = c.words.ensures in
    let sized = can.sizes.words in (
      can.same_table,
      omega arith,
      looks g.R.Raw.out g.R.Raw.faults g.R.Raw.got g.R.Raw.passed c.self.inside.top.now.key _ _ c.self.inside.place.me _
          can.note can.is_noted,
    )

pub returns-clause-found : goal.returns-clause-found
unfolding load
returns-clause-found g c =
    let at = c.index-index.ensures in
    c.load.ensures.2.1
    ∙ found_noted c.self.inside.place.me.0.note c.index-index.result
    ∙ ap (λ i. slice_index (words_noted c.self.inside.place.me.0.note) i) at
    ∙ ap (λ s. load s c.args.word) c.self.view_is
