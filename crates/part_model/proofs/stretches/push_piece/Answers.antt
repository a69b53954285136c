use Rattle.std.proofs.Common.{◌∙◌, ap, sym, ◌+◌, [], ◌∷◌}
use Rattle.part_model.specs.Stretches.{holder_at, at_piece, first_of, cover, count_of}
use Rattle.part_model.proofs.StretchLemmas.{holder_at-append, cover-append, cover-one}
use Rattle.part_model.proofs.stretches.push_piece.Goals as goal

pub returns-in_ok-push-clause-held : goal.returns-in_ok-push-clause-held
returns-in_ok-push-clause-held c = λ byte.
    ap (λ xs. holder_at xs byte) c.in_ok-push.ensures.items ∙ holder_at-append c.args.kept.now.items (c.in-Some.piece ∷ []) byte
    ∙ ap (λ p. first_of (holder_at c.args.kept.now.items byte) (at_piece p byte)) (sym c.in-Some.is)

pub returns-in_ok-push-clause-cover : goal.returns-in_ok-push-clause-cover
returns-in_ok-push-clause-cover c = λ byte.
    ap (λ xs. cover xs byte) c.in_ok-push.ensures.items ∙ cover-append c.args.kept.now.items (c.in-Some.piece ∷ []) byte
    ∙ ap (λ n. cover c.args.kept.now.items byte + n) (cover-one c.in-Some.piece byte)
    ∙ ap (λ p. cover c.args.kept.now.items byte + count_of (at_piece p byte)) (sym c.in-Some.is)
