use Rattle.std.proofs.Common.{rules}
use Rattle.name_board.proofs.Rules.{joins}
use Rattle.name_board.proofs.board.Board.join_in.Goals as goal

pub join_seat-requires : goal.join_seat-requires
join_seat-requires c = (
  c.requires.0,
  c.requires.1,
  c.requires.2,
  search rules,
  joins c.args.self.now.table.shared.key.owners.items _ _
      _ _,
)
