-- The text of each entry of a report, and of them all.
use Rattle.std.specs.Prelude.{ℕ, List, [], ◌∷◌, ◌++◌, codes}
use Rattle.std.specs.Fmt.{decimal}
use Rattle.pool_types.specs.declared.values.Awaited.{Awaited}
use Rattle.pool_types.specs.declared.values.Awaited.TheVariants.{BinLock, CacheLock, Office, Mail, Half}
use Rattle.pool_types.specs.declared.policy.Which.{Which}
use Rattle.pool_types.specs.declared.policy.Which.TheVariants as which
use Rattle.pool_types.specs.declared.policy.RegionRec.{RegionRec}
use Rattle.report_text.specs.declared.entry.Fate.{Fate}
use Rattle.report_text.specs.declared.entry.Fate.TheVariants.{Returned, Refused, Kept}
use Rattle.report_text.specs.declared.entry.ReportEntry.{ReportEntry}
use Rattle.report_text.specs.declared.entry.ReportEntry.TheVariants.{Made, InvalidPolicy, UnsupportedPolicy, BadLimits, Begun, Stepped, Waits, Idle, CallOpen, CallOpenOf, Gone, Reset, Destroyed, Answered, RegionLeft, Moved, KeeperMoved, Total, CacheBin, Leaked}
use Rattle.report_text.specs.Pieces.{name_of}
use Rattle.report_text.specs.Answers.{answer_text}
use Rattle.report_text.specs.Moves.{move_text, keeper_move_text}
use Rattle.report_text.specs.Totals.{total_text, cache_text, leak_text}

-- the limit that is out of its range
abbrev pub limits_text : Which → List ℕ
limits_text which.Seats = codes "bad-limits seats"
limits_text which.Region = codes "bad-limits region"
limits_text which.Granularity = codes "bad-limits granularity"
limits_text which.Span = codes "bad-limits span"

-- what the last turn waits for; both kinds of lock are a lock
abbrev pub waits_text : Awaited → List ℕ
waits_text (BinLock bin) = codes "waits lock"
waits_text (CacheLock granules) = codes "waits lock"
waits_text Office = codes "waits office"
waits_text (Mail slab) = codes "waits mail"
waits_text (Half bin) = codes "waits half"

-- what became of a region
abbrev pub fate_text : Fate → List ℕ
fate_text Returned = codes "returned"
fate_text Refused = codes "refused"
fate_text Kept = codes "kept"

-- what a line of the trace came to, behind its number
abbrev pub line_text : ℕ → List ℕ → List ℕ
line_text line text = decimal line ++ (codes " " ++ (text ++ codes "\n"))

-- how many regions had each fate when a pool was destroyed, and how many objects were held before
unfoldable pub destroyed_text : ℕ → ℕ → ℕ → ℕ → List ℕ
destroyed_text returned refused kept objects =
    codes "destroyed returned "
    ++ (decimal returned
    ++ (codes " refused "
    ++ (decimal refused ++ (codes " kept " ++ (decimal kept ++ (codes " objects " ++ decimal objects))))))

-- a region's number, its base and its bytes
unfoldable pub region_text : ℕ → RegionRec → List ℕ
region_text pool rec = codes "region P"
    ++ (decimal pool
    ++ (codes ".R"
    ++ (decimal rec.number ++ (codes " " ++ (decimal rec.region.base ++ (codes " " ++ decimal rec.region.bytes))))))

-- the line of a region of a pool that was destroyed
unfoldable pub region_left_text : ℕ → RegionRec → Fate → List ℕ
region_left_text pool rec fate = region_text pool rec ++ (codes " " ++ (fate_text fate ++ codes "\n"))

-- the text of an entry, where the threads of the seats have these names
abbrev pub entry_text : List (List ℕ) → ReportEntry → List ℕ
entry_text names (Made line) = line_text line (codes "made")
entry_text names (InvalidPolicy line) = line_text line (codes "invalid-policy")
entry_text names (UnsupportedPolicy line) = line_text line (codes "unsupported-policy")
entry_text names (BadLimits line limit) = line_text line (limits_text limit)
entry_text names (Begun line) = line_text line (codes "begun")
entry_text names (Stepped line) = line_text line (codes "stepped")
entry_text names (Waits line awaited) = line_text line (waits_text awaited)
entry_text names (Idle line) = line_text line (codes "idle")
entry_text names (CallOpen line) = line_text line (codes "call-open")
entry_text names (CallOpenOf line seat) = line_text line (codes "call-open " ++ name_of names seat)
entry_text names (Gone line) = line_text line (codes "gone")
entry_text names (Reset line) = line_text line (codes "reset")
entry_text names (Destroyed line returned refused kept objects) = line_text line (destroyed_text returned refused kept objects)
entry_text names (Answered line answer) = line_text line (answer_text names answer)
entry_text names (RegionLeft pool rec fate) = region_left_text pool rec fate
entry_text names (Moved number seat row part) = move_text names number seat row part
entry_text names (KeeperMoved number seat row change) = keeper_move_text names number seat row change
entry_text names (Total pool totals) = total_text pool totals
entry_text names (CacheBin pool bin) = cache_text pool bin
entry_text names (Leaked leak) = leak_text names leak

-- the texts of entries, one after another
abbrev pub entries_text : List (List ℕ) → List ReportEntry → List ℕ
entries_text names [] = []
entries_text names (entry ∷ entries) = entry_text names entry ++ entries_text names entries

-- a report's last line
abbrev pub end_text : List ℕ
end_text = codes "end\n"

-- the whole report of these entries
abbrev pub report_text : List (List ℕ) → List ReportEntry → List ℕ
report_text names entries = entries_text names entries ++ end_text
