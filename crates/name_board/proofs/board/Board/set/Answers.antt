use Rattle.std.proofs.Common.{rules, ◌+◌, arith}
use Rattle.name_board.proofs.Rules.{binds}
use Rattle.name_board.proofs.board.Board.set.Goals as goal

pub store-requires : goal.store-requires
store-requires c = let n = c.args.name in (
  c.requires.pen.0,
  search rules,
  binds c.args.self.now.table.shared.key.owners.items _ _ _ (n + 1) n c.args.value (omega arith) c.requires.bind.0
      c.requires.bind.1 c.requires.pen.1,
)

pub returns-clause-bound : goal.returns-clause-bound
returns-clause-bound c = c.store.ensures.2 c.args.name (omega arith)
