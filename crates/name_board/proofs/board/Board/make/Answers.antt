use Rattle.std.proofs.Common.{rules, ◌≡◌, ◌+◌, suc, length, replicate, ap, ◌∙◌, arith}
use Rattle.name_board.proofs.Rules.{opens}
use Rattle.name_board.proofs.board.Board.make.Goals as goal

pub of_words-requires : goal.of_words-requires
of_words-requires c = let o = c.args.names.now.owners.items in
    let w : c.as_slice.result.now ≡ replicate (length o + 1) 0 = search rules in
    let one : length o + 1 ≡ suc (length o) = omega arith in
    opens o c.args.names.now.threads c.as_slice.result.now (w ∙ ap (λ n. replicate n 0) one)
