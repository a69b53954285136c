use Rattle.std.proofs.Common.{rules, ap, ◌∙◌, ◌∷◌, []}
use Rattle.name_board.specs.declared.rule.Cursor.{Cursor}
use Rattle.name_board.specs.Board.{view, front_of, last_of}
use Rattle.name_board.proofs.Rules.{splits, front_below, last_below}
use Rattle.name_board.proofs.board.Board.split_off.Goals as goal

pub split_seat-requires : goal.split_seat-requires
split_seat-requires c = (
  c.requires.0,
  search rules,
  splits c.args.self.now.table.shared.key.owners.items c.args.spare.now.id
      c.args.threads c.args.spare.now.me.0 (ap (λ z. z.0) c.requires.1),
)

pub returns-clause-spare : goal.returns-clause-spare
returns-clause-spare c = let q =
    c.split_seat.ensures in (
      q.0,
      q.2 ∙ ap (λ z. (view (front_of z.0.cursors) z.0.known, z.1)) c.requires.1 ∙ ap
          (λ cs. (view cs [], [])) (front_below c.args.threads),
    )

pub returns-clause-pen : goal.returns-clause-pen
returns-clause-pen c = let q =
    c.split_seat.ensures in (
      q.3,
      q.4 ∙ ap (λ z. (view (last_of z.0.cursors ∷ []) [], [])) c.requires.1 ∙ ap (λ
          (x : Cursor). (view (x ∷ []) [], [])) (last_below c.args.threads),
    )
