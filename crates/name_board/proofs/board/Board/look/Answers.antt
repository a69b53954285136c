use Rattle.std.proofs.Common.{rules, ◌+◌, arith}
use Rattle.name_board.proofs.Rules.{looks}
use Rattle.name_board.proofs.board.Board.look.Goals as goal

pub load-requires : goal.load-requires
load-requires c = let n = c.args.name in (
  c.requires.pen.0,
  search rules,
  looks c.args.self.now.table.shared.key.owners.items _ _ _ (n + 1) n (omega arith),
)

pub returns-clause-seen : goal.returns-clause-seen
returns-clause-seen c = c.load.ensures.2 c.args.name (omega arith)
