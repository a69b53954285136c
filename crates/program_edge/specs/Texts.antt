-- The texts of one line that are written in place of a report.
use Rattle.std.specs.Prelude.{ℕ, List, ◌++◌, codes}
use Rattle.std.specs.Fmt.{decimal}

-- the text of a refused line
abbrev pub refused_text : ℕ → ℕ → List ℕ
refused_text line kind = codes "bad trace line " ++ (decimal line ++ (codes " kind " ++ (decimal kind ++ codes "\n")))

-- the text of a line that is out of turns
abbrev pub steps_out_text : ℕ → List ℕ
steps_out_text line = codes "steps out line " ++ (decimal line ++ codes "\n")
