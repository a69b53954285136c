use Rattle.std.proofs.Common.{◌∷◌, Some, sym, ap, ◌∙◌}
use Rattle.atomic_table.specs.Table.{rest}
use Rattle.quiet_pool.proofs.noting.note.Goals as goal

pub exchange-requires : goal.exchange-requires
exchange-requires g c =
    let n = c.notes_as.ensures.notes in (
      c.notes_as.ensures.table ∙ c.requires.table.0,
      (
        Some n.office,
        ap (λ z. z.1) n.me_is ∙ ap (λ z. (0, Some n.office) ∷ z) (sym (ap (λ z. rest z.1) n.me_is)),
      ),
    )
