-- What a program's bytes are read as, where it serves these forms of lines.
use Rattle.std.specs.Prelude.{ℕ, List, Ok, Err}
use Rattle.trace_reader.specs.declared.acts.Forms.{Forms}
use Rattle.trace_reader.specs.declared.refusal.TraceRefused.TheVariants.{Bad}
use Rattle.trace_reader.specs.declared.trace.Trace.{Trace}
use Rattle.trace_reader.specs.Text.{ReadsTrace}

-- the bytes spell a trace
abbrev pub SpellOne : Forms → List ℕ → Type 0
SpellOne forms bytes = (trace : Trace) × ReadsTrace forms bytes (Ok trace)

-- the bytes spell no trace: this is the first line that is refused, and the first kind of what is wrong with it
abbrev pub IsRefused : Forms → List ℕ → ℕ → ℕ → Type 0
IsRefused forms bytes line kind = ReadsTrace forms bytes (Err (Bad (record { line = line; kind = kind })))
