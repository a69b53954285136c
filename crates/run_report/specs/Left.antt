-- What became of the regions of a pool that was destroyed.
use Rattle.std.specs.Prelude.{ℕ, Bool, true, false, cond, eqb, List, [], ◌∷◌, length}
use Rattle.pool_types.specs.declared.endings.Destroyed.{Destroyed}
use Rattle.pool_types.specs.declared.policy.RegionRec.{RegionRec}
use Rattle.report_text.specs.declared.entry.Fate.{Fate}
use Rattle.report_text.specs.declared.entry.Fate.TheVariants.{Returned, Refused, Kept}
use Rattle.report_text.specs.declared.entry.ReportEntry.TheVariants as entry
use Rattle.run_report.specs.declared.book.Book.{Book}
use Rattle.run_report.specs.Books.{noted}

-- the region of this number is one of these
abbrev pub has_number : ℕ → List RegionRec → Bool
has_number number [] = false
has_number number (one ∷ records) = cond (eqb one.number number) true (has_number number records)

-- what became of a region: it was kept, or the callback failed to take it back, or took it back
abbrev pub fate_of : Destroyed → ℕ → Fate
fate_of ended number =
    cond (has_number number ended.kept.items) Kept (cond (has_number number ended.refused.items) Refused Returned)

-- each of these regions, one after another
abbrev pub regions_noted : Book → ℕ → Destroyed → List RegionRec → Book
regions_noted book pool ended [] = book
regions_noted book pool ended (one ∷ records) =
    regions_noted (noted book (entry.RegionLeft pool one (fate_of ended one.number))) pool ended records

-- how many regions had each fate, of how many objects that were held before
abbrev pub destroyed_noted : Book → ℕ → Destroyed → ℕ → Book
destroyed_noted book line ended objects = noted book
    (entry.Destroyed line (length ended.returned.items) (length ended.refused.items) (length ended.kept.items) objects)

-- a pool was destroyed that had these regions and so many objects
unfoldable pub left_noted : Book → ℕ → ℕ → Destroyed → ℕ → List RegionRec → Book
left_noted book line pool ended objects records =
    regions_noted (destroyed_noted book line ended objects) pool ended records
