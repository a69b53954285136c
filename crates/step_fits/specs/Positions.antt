-- What a local says by itself, whatever its steps found.
use Rattle.std.specs.Prelude.{◌≡◌, ℕ, ◌<◌, ⊤, Bool, true, Some, None}
use Rattle.pool_words.specs.declared.words.Key.{Key}
use Rattle.heap_slabs.specs.Slabs.{Kept, record_at}
use Rattle.step_local.specs.declared.frames.At.{At}
use Rattle.step_local.specs.declared.frames.Local.{Local}
use Rattle.step_local.specs.declared.frames.ResetStage.{ResetStage}
use Rattle.step_local.specs.declared.frames.SmallAt.{SmallAt}
use Rattle.step_local.specs.declared.frames.Stage.{Stage}
use Rattle.step_numbers.specs.Positions.{NumbersFit}
use Rattle.step_fits.specs.Asked.{Asks}
use Rattle.step_fits.specs.Backend.{CutFits, OfficeFits, PutFits, ScanFits}
use Rattle.step_fits.specs.Frames.{Frames, rooms_at}
use Rattle.step_fits.specs.Large.{GetsLarge, KeepFits, LargeFits, LocateFits, SweepFits}
use Rattle.step_fits.specs.Mail.{AdoptFits, Adopts, EndFits, GivesBack, LeaveFits, SpareFits, TakesMail}
use Rattle.step_fits.specs.Resets.{ResetFits}
use Rattle.step_fits.specs.Small.{SmallFits}

-- a heap with nothing to give up is left, or reset, without a step
abbrev pub IsReadyReset : ResetStage → Type 0
IsReadyReset (ResetStage.Heap None) = ⊤
IsReadyReset (ResetStage.Heap (Some class)) = ⊥
IsReadyReset (ResetStage.Orphans rest) = ⊥
IsReadyReset (ResetStage.Large region granule) = ⊥
IsReadyReset (ResetStage.Cache granules) = ⊥
IsReadyReset (ResetStage.Queue rest) = ⊥
IsReadyReset (ResetStage.Regions below) = ⊥

abbrev pub IsReady : Stage → Type 0
IsReady Stage.Idle = ⊤
IsReady Stage.Leaving = ⊤
IsReady (Stage.Resetting stage) = IsReadyReset stage
IsReady Stage.Looking = ⊥
IsReady Stage.Getting = ⊥
IsReady Stage.Ending = ⊥
IsReady Stage.Replacing = ⊥
IsReady Stage.Undoing = ⊥

abbrev pub AtFits : Bool → Local → At → Type 0
AtFits sure l At.Idle = l.call.stage ≡ Stage.Idle
AtFits sure l (At.Ready answer) = IsReady l.call.stage
AtFits sure l (At.Look at) = l.call.stage ≡ Stage.Looking
AtFits sure l (At.End at) = EndFits l at
AtFits sure l (At.Post at) = GivesBack l
AtFits sure l (At.Mail at) = GivesBack l
AtFits sure l (At.Mailbox at) = TakesMail l l.call.stage
AtFits sure l (At.Adopt at) = AdoptFits l at
AtFits sure l (At.Join slab rest at) = Adopts l l.call.stage
AtFits sure l (At.Spare at) = SpareFits l at
AtFits sure l (At.Leave slab at) = LeaveFits l slab
AtFits sure l (At.Locate at) = LocateFits sure l at
AtFits sure l (At.Small at) = SmallFits sure l at
AtFits sure l (At.Large at) = LargeFits l at
AtFits sure l (At.Get at) = GetsLarge l
AtFits sure l (At.Undo cause at) = GetsLarge l × (l.call.missed ≡ true)
AtFits sure l (At.Keep at) = KeepFits l l.call.stage
AtFits sure l (At.Sweep at) = SweepFits l
AtFits sure l (At.Scan at) = Asks l × ScanFits l.ask.want at.step
AtFits sure l (At.Cut at) = CutFits l
AtFits sure l At.Queue = Asks l
AtFits sure l (At.Whole at) = Asks l
AtFits sure l (At.Drain at) = Asks l
AtFits sure l (At.Put at) = PutFits l l.put
AtFits sure l (At.Office job at) = OfficeFits l job
AtFits sure l (At.Reset at) = ResetFits l at

-- `sure` says whether it is sure of each slab that was begun that it was new
pub record LocalFits (k : Key) (seat : ℕ) (sure : Bool) (l : Local) : Type 0 where
  pub frames : Frames k seat (rooms_at l.at) l
  pub place : AtFits sure l l.at
  -- a number is left for each grant that the call comes to
  pub numbers : NumbersFit l

-- The one thing that memory has to say: a slab that is begun is new, a granule of the pool that the heap does not keep.
pub record IsNewSlab (k : Key) (s : Kept) (slab : ℕ) : Type 0 where
  pub inside : slab < k.span
  pub strange : record_at s.records slab ≡ None

abbrev pub BeginsNewIn : Key → Local → SmallAt → Type 0
BeginsNewIn k l (SmallAt.Kind slab) = IsNewSlab k l.heap.slabs slab
BeginsNewIn k l _ = ⊤

abbrev pub BeginsNewAt : Key → Local → At → Type 0
BeginsNewAt k l (At.Small at) = BeginsNewIn k l at
BeginsNewAt k l _ = ⊤

abbrev pub BeginsNew : Key → Local → Type 0
BeginsNew k l = BeginsNewAt k l l.at
