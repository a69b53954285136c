use Rattle.std.proofs.Common.{ap, arith}
use Rattle.part_model.specs.Stretches.{holder_at, count_of}
use Rattle.part_model.proofs.StretchLemmas.{pieces_join, covers_join}
use Rattle.part_model.proofs.stretches.keep_outside.Goals as goal

pub returns-clause-held : goal.returns-clause-held
returns-clause-held c = λ byte.
    let first = c.in_ok-push_piece.ensures.held byte in
    let second = c.in_ok-push_piece-2.ensures.held byte in
    let low = c.before-2.ensures.held byte in
    let high = c.behind.ensures.held byte in
    let whole = pieces_join (holder_at c.args.kept.now.items byte) c.args.stretch.now c.args.range.now byte in
    cc

pub returns-clause-cover : goal.returns-clause-cover
returns-clause-cover c = λ byte.
    let first = c.in_ok-push_piece.ensures.cover byte in
    let second = c.in_ok-push_piece-2.ensures.cover byte in
    let low = ap count_of (c.before-2.ensures.held byte) in
    let high = ap count_of (c.behind.ensures.held byte) in
    let whole = covers_join c.args.stretch.now c.args.range.now byte in
    omega arith
