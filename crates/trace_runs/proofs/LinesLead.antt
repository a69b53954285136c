-- Lines that were run lead on to what the later ones come to.
use Rattle.std.proofs.Common.{ℕ, List, [], ◌∷◌, refl, ap}
use Rattle.std.specs.Prelude.{Result, Ok, Err}
use Rattle.trace_reader.specs.declared.acts.TraceLine.{TraceLine}
use Rattle.trace_reader.specs.declared.trace.Trace.{Trace}
use Rattle.line_runs.specs.declared.lines.Came.{Came}
use Rattle.trace_runs.specs.Lines.{LineRuns}
use Rattle.trace_runs.specs.Runs.{RunsOn, LineComes, LinesCome}
use Rattle.trace_runs.specs.States.{State}
use Rattle.trace_runs.specs.declared.runs.RunError.{RunError}

-- what is left from here is what is left of all
pub record LinesLead (trace : Trace) (lines : List TraceLine) (first : State) (left : List TraceLine) (now : State)
    : Type 0 where
  pub leads : (end : Result State ℕ) → RunsOn trace left now end → RunsOn trace lines first end

pub begins : (trace : Trace) (lines : List TraceLine) (first : State) → LinesLead trace lines first lines first
begins trace lines first = record { leads = λ end h. h }

pub goes_on : (trace : Trace) (lines left : List TraceLine) (line : TraceLine) (first old next : State) →
    LineRuns trace line old Came.InTime next → LinesLead trace lines first (line ∷ left) old →
    LinesLead trace lines first left next
goes_on trace lines left line first old next runs way = record {
  leads = λ end h. way.leads end (record { came = Came.InTime; next = next; runs = runs; onward = h });
}

pub ends : (trace : Trace) (lines : List TraceLine) (first now : State) → LinesLead trace lines first [] now →
    RunsOn trace lines first (Ok now)
ends trace lines first now way = way.leads (Ok now) refl

-- a line at which the run stops
pub stops : (trace : Trace) (lines left : List TraceLine) (line : TraceLine) (first old next : State) (error : RunError) →
    LineComes trace line old (Err error) next → LinesLead trace lines first (line ∷ left) old →
    LinesCome trace lines first (Err error) next
stops trace lines left line first old next (RunError.StepsOut number) (is, runs) way =
    way.leads (Err number)
    (record { came = Came.OutOfTurns; next = next; runs = runs; onward = ap (λ (n : ℕ). Err n) is })
stops trace lines left line first old next RunError.NoMemory comes way = tt
