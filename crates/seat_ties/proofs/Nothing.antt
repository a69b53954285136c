-- Where nothing is under way with blocks, the words have nothing to say.
use Rattle.std.proofs.Common.{◌≡◌, ℕ, true, List, refl}
use Rattle.backend_bins.specs.declared.cut.CutAt.{CutAt}
use Rattle.backend_bins.specs.declared.cut.CutCall.{CutCall}
use Rattle.backend_bins.specs.declared.scan.ScanAt.{ScanAt}
use Rattle.backend_bins.specs.declared.scan.ScanStep.{ScanStep}
use Rattle.coalescer.specs.declared.drain.DrainAt.{DrainAt}
use Rattle.coalescer.specs.declared.put.PutAt.{PutAt}
use Rattle.coalescer.specs.declared.put.PutStep.{PutStep}
use Rattle.region_steps.specs.declared.office.OfficeAt.{OfficeAt}
use Rattle.guard_laws.specs.Blocks.{Task, TaskFits}
use Rattle.step_local.specs.declared.frames.At.{At}
use Rattle.step_local.specs.declared.frames.Local.{Local}
use Rattle.step_local.specs.declared.frames.OfficeFor.{OfficeFor}
use Rattle.step_local.specs.Backend.{cut_call}
use Rattle.step_local.specs.Learn.{learn}
use Rattle.backend_tasks.specs.Guards.{guard_task_of}
use Rattle.backend_tasks.proofs.CallerLemmas.{Bare, BareAt, AskBare, CutBare, DrainBare, OfficeBare, PutBare}
use Rattle.backend_tasks.proofs.CallerLemmas.{is_other, no_guard_task, other_turn}
use Rattle.pool_laws.specs.Wholes.{Whole}
use Rattle.seat_ties.specs.Laws.{NothingIsSaidElsewhere, SaysNothing}
use Rattle.seat_ties.specs.Says.{CutSays, DrainSays, IsElsewhere, ObtainSays, OfficeSays, PutSays}
use Rattle.seat_ties.specs.Says.{SaysAt, ScanSays}

cut_says : (w : Whole) (c : CutCall) (at : CutAt) → CutBare at → CutSays w c at
cut_says w c CutAt.FrontLeft bare = tt
cut_says w c CutAt.FrontSize bare = absurd bare
cut_says w c CutAt.BackLeft bare = tt
cut_says w c CutAt.BackSize bare = absurd bare
cut_says w c (CutAt.Front at) bare = tt
cut_says w c (CutAt.Back at) bare = tt

scan_says : (items : ℕ → List ℕ) (s : ScanAt) (step : ScanStep) → BareAt (At.Scan (record s { step = step }))
    → ScanSays items s.bin step
scan_says items s ScanStep.Peek bare = tt
scan_says items s _ bare = absurd bare

drain_says : (w : Whole) (at : DrainAt) → DrainBare at → DrainSays w at
drain_says w DrainAt.Swap bare = tt
drain_says w _ bare = absurd bare

put_says : (w : Whole) (p : PutAt) (step : PutStep) → PutBare step → PutSays w p step
put_says w p PutStep.Size bare = tt
put_says w p _ bare = absurd bare

ask_says : (w : Whole) (at : OfficeAt) → AskBare at → ObtainSays w at
ask_says w OfficeAt.Lock bare = tt
ask_says w _ bare = absurd bare

office_says : (w : Whole) (seat : ℕ) (job : OfficeFor) (at : OfficeAt) → OfficeBare job at → OfficeSays w seat job at
office_says w seat OfficeFor.Ask at bare = ask_says w at bare
office_says w seat (OfficeFor.Put first) at bare = absurd bare
office_says w seat (OfficeFor.Drain first rest) at bare = absurd bare

says_at : (w : Whole) (seat : ℕ) (l : Local) (at : At) → BareAt at → SaysAt w seat l at
says_at w seat l (At.Scan at) bare = scan_says w.items at at.step bare
says_at w seat l (At.Cut at) bare = cut_says w (cut_call l) at bare
says_at w seat l (At.Drain at) bare = drain_says w at bare
says_at w seat l (At.Put at) bare = put_says w at at.step bare
says_at w seat l (At.Office job at) bare = office_says w seat job at bare
says_at w seat l _ bare = tt

no_win : (now : Task) → now ≡ Task.Away → TaskFits now
no_win Task.Away e = tt
no_win (Task.Wins call at) e = absurd (cc)
no_win (Task.Offers first granules) e = tt

-- so it is wherever nothing is under way
pub bare_says_nothing : (w : Whole) (seat : ℕ) (next : Local) → Bare next → SaysNothing w seat next
bare_says_nothing w seat next bare = record {
  words = says_at w seat next next.at bare;
  wins = no_win (guard_task_of next) (no_guard_task next bare);
}

others : (at : At) → IsElsewhere at → is_other at ≡ true
others At.Idle there = absurd there
others (At.Scan at) there = absurd there
others (At.Cut at) there = absurd there
others (At.Whole at) there = absurd there
others (At.Drain at) there = absurd there
others (At.Put at) there = absurd there
others (At.Office job at) there = absurd there
others (At.Reset at) there = absurd there
others _ there = refl

pub nothing_is_said_elsewhere : NothingIsSaidElsewhere
nothing_is_said_elsewhere w seat l s there =
    bare_says_nothing w seat (learn l s).0 (other_turn l l.at s (others l.at there))
