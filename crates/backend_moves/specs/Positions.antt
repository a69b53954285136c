-- The positions at the backend's bins.
use Rattle.std.specs.Prelude.{⊤}
use Rattle.step_local.specs.declared.frames.At.{At}
use Rattle.step_local.specs.declared.frames.Local.{Local}

abbrev pub IsQueueAt : At → Type 0
IsQueueAt At.Queue = ⊤
IsQueueAt _ = ⊥

abbrev pub IsWholeAt : At → Type 0
IsWholeAt (At.Whole at) = ⊤
IsWholeAt _ = ⊥

abbrev pub IsScanAt : At → Type 0
IsScanAt (At.Scan at) = ⊤
IsScanAt _ = ⊥

abbrev pub IsCutAt : At → Type 0
IsCutAt (At.Cut at) = ⊤
IsCutAt _ = ⊥

-- a look at the queue
abbrev pub IsQueue : Local → Type 0
IsQueue l = IsQueueAt l.at

-- a region's granules that go into their bin
abbrev pub IsWhole : Local → Type 0
IsWhole l = IsWholeAt l.at

-- a scan of the bins
abbrev pub IsScan : Local → Type 0
IsScan l = IsScanAt l.at

-- a cut of a block in hand
abbrev pub IsCut : Local → Type 0
IsCut l = IsCutAt l.at
