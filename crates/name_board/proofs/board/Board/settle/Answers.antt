use Rattle.std.proofs.Common.{rules}
use Rattle.name_board.proofs.Rules.{settles}
use Rattle.name_board.proofs.board.Board.settle.Goals as goal

pub load-requires : goal.load-requires
load-requires c = (c.requires, search rules, settles c.args.self.now.table.shared.key.owners.items _ _ _ 0)
