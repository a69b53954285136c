-- What words and regions say does not rest on what seats are about to do.
use Rattle.std.proofs.Common.{ℕ}
use Rattle.backend_bins.specs.declared.cut.CutAt.{CutAt}
use Rattle.backend_bins.specs.declared.cut.CutCall.{CutCall}
use Rattle.coalescer.specs.declared.drain.DrainAt.{DrainAt}
use Rattle.coalescer.specs.declared.put.Beside.{Beside}
use Rattle.coalescer.specs.declared.put.PutAt.{PutAt}
use Rattle.coalescer.specs.declared.put.PutStep.{PutStep}
use Rattle.region_steps.specs.declared.office.OfficeAt.{OfficeAt}
use Rattle.guard_laws.specs.Blocks as guards
use Rattle.object_laws.specs.Objects as objects
use Rattle.mail_laws.specs.Mail as mailing
use Rattle.orphan_laws.specs.Orphans as orphaning
use Rattle.office_laws.specs.Regions as offices
use Rattle.queue_laws.specs.Queue as queues
use Rattle.cache_laws.specs.Good as caches
use Rattle.step_local.specs.declared.frames.At.{At}
use Rattle.step_local.specs.declared.frames.Local.{Local}
use Rattle.step_local.specs.declared.frames.OfficeFor.{OfficeFor}
use Rattle.step_local.specs.Backend.{cut_call}
use Rattle.pool_laws.specs.Wholes.{Whole}
use Rattle.seat_ties.specs.Says.{CutSays, DrainSays, GiveSays, IsMarked, IsMarkedBehind}
use Rattle.seat_ties.specs.Says.{LeftSays, ObtainSays, OfficeSays, PutSays, RightSays, SaysAt}

-- what seats are about to do
pub record Doing : Type 0 where
  pub guards : ℕ → guards.Task
  pub locals : objects.Locals
  pub ways : orphaning.Shadow
  pub mails : ℕ → mailing.Task
  pub orphans : ℕ → orphaning.Task
  pub queue : ℕ → queues.Task
  pub jobs : ℕ → caches.Task
  pub desks : ℕ → offices.Task

abbrev pub doing : Doing → Whole → Whole
doing d w = record w {
  pool = record w.pool { tasks = d.guards; locals = d.locals };
  ways = d.ways;
  mails = d.mails;
  tasks = d.orphans;
  queue = d.queue;
  jobs = d.jobs;
  desks = d.desks;
}

abbrev pub doing_of : Whole → Doing
doing_of w = record {
  guards = w.pool.tasks;
  locals = w.pool.locals;
  ways = w.ways;
  mails = w.mails;
  orphans = w.tasks;
  queue = w.queue;
  jobs = w.jobs;
  desks = w.desks;
}

module _ (d : Doing) (w : Whole) where
  left_same : (first : ℕ) (b : Beside) → LeftSays w first b → LeftSays (doing d w) first b
  left_same first Beside.Unknown says = says
  left_same first Beside.InUse says = says
  left_same first Beside.Wall says = says
  left_same first Beside.Joined says = says

  right_same : (first n : ℕ) (b : Beside) → RightSays w first n b → RightSays (doing d w) first n b
  right_same first n Beside.Unknown says = says
  right_same first n Beside.InUse says = says
  right_same first n Beside.Wall says = says
  right_same first n Beside.Joined says = says

  marked_same : (p : PutAt) → IsMarked w p → IsMarked (doing d w) p
  marked_same p says = record { marked = says.marked }

  behind_same : (p : PutAt) → IsMarkedBehind w p → IsMarkedBehind (doing d w) p
  behind_same p says = record { marked = says.marked; left = left_same p.block.first p.left says.left }

  put_same : (p : PutAt) (step : PutStep) → PutSays w p step → PutSays (doing d w) p step
  put_same p PutStep.Size says = tt
  put_same p PutStep.Left says = says
  put_same p PutStep.LeftWord says = marked_same p says
  put_same p (PutStep.WinLeft granules at) says = marked_same p says
  put_same p (PutStep.UnlinkLeft neighbour at) says = behind_same p says
  put_same p PutStep.RightWord says = behind_same p says
  put_same p (PutStep.WinRight granules at) says = behind_same p says
  put_same p (PutStep.UnlinkRight neighbour at) says = behind_same p says
  put_same p PutStep.FarLeft says = record {
    marked = says.marked;
    right = right_same p.block.first p.block.granules p.right says.right;
  }
  put_same p PutStep.FarRight says = record { marked = says.marked; left = says.left }
  put_same p (PutStep.Queue at) says = marked_same p says
  put_same p (PutStep.Bin at) says = tt

  drain_same : (at : DrainAt) → DrainSays w at → DrainSays (doing d w) at
  drain_same DrainAt.Swap says = tt
  drain_same (DrainAt.Link first) says = tt
  drain_same (DrainAt.Put rest at) says = put_same at at.step says

  cut_same : (c : CutCall) (at : CutAt) → CutSays w c at → CutSays (doing d w) c at
  cut_same c CutAt.FrontLeft says = tt
  cut_same c CutAt.FrontSize says = says
  cut_same c CutAt.BackLeft says = tt
  cut_same c CutAt.BackSize says = says
  cut_same c (CutAt.Front at) says = tt
  cut_same c (CutAt.Back at) says = tt

  obtain_same : (at : OfficeAt) → ObtainSays w at → ObtainSays (doing d w) at
  obtain_same (OfficeAt.LastLeft one) says = says
  obtain_same _ says = tt

  give_same : (seat first : ℕ) (at : OfficeAt) → GiveSays w seat first at → GiveSays (doing d w) seat first at
  give_same seat first (OfficeAt.Back end) says = tt
  give_same seat first (OfficeAt.Unlock end) says = tt
  give_same seat first _ says = says

  office_same : (seat : ℕ) (job : OfficeFor) (at : OfficeAt) → OfficeSays w seat job at
      → OfficeSays (doing d w) seat job at
  office_same seat OfficeFor.Ask at says = obtain_same at says
  office_same seat (OfficeFor.Put first) at says = give_same seat first at says
  office_same seat (OfficeFor.Drain first rest) at says = give_same seat first at says

  pub says_same : (seat : ℕ) (l : Local) (at : At) → SaysAt w seat l at → SaysAt (doing d w) seat l at
  says_same seat l (At.Scan at) says = says
  says_same seat l (At.Cut at) says = cut_same (cut_call l) at says
  says_same seat l (At.Drain at) says = drain_same at says
  says_same seat l (At.Put at) says = put_same at at.step says
  says_same seat l (At.Office job at) says = office_same seat job at says
  says_same seat l _ says = tt
