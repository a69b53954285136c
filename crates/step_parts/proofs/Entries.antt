-- Entries of parts.
use Rattle.std.proofs.Common.{◌≡◌, ◌<◌, ℕ, [], ◌∷◌, ◌++◌, List, length, take, drop, refl, arith}
use Rattle.std.specs.Prelude.{slice_set}
use Rattle.std.proofs.Math.Seq.{set-append_seam}
use Rattle.part_model.specs.declared.journal.Journaled.{Journaled}
use Rattle.part_model.specs.declared.moves.Part.{Part}
use Rattle.step_parts.specs.declared.journal.StepName.{StepName}
use Rattle.step_parts.specs.Journal.{most_parts, part_entry, part_entries}

-- the entries of parts begin with that of the first of them
pub part_entries_first : (name : StepName) (entries : List Journaled) (parts : List Part) → 0 < length parts →
    part_entries name (entries ++ part_entry name (take most_parts parts) ∷ []) (drop most_parts parts)
    ≡ part_entries name entries parts
part_entries_first name entries [] some = absurd (omega (arith, some))
part_entries_first name entries (a ∷ []) some = refl
part_entries_first name entries (a ∷ b ∷ []) some = refl
part_entries_first name entries (a ∷ b ∷ c ∷ []) some = refl
part_entries_first name entries (a ∷ b ∷ c ∷ d ∷ parts) some = refl

-- the last entry is replaced where it lies
pub last_replaced : (entries : List Journaled) (last other : Journaled) →
    slice_set (entries ++ last ∷ []) (length entries) other ≡ entries ++ other ∷ []
last_replaced entries last other = set-append_seam entries last [] other
