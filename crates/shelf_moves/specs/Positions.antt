-- The positions of jobs at a bin of the cache of large blocks.
use Rattle.std.specs.Prelude.{⊤}
use Rattle.step_local.specs.declared.frames.At.{At}
use Rattle.step_local.specs.declared.frames.Local.{Local}

abbrev pub IsShelfAt : At → Type 0
IsShelfAt (At.Get at) = ⊤
IsShelfAt (At.Undo cause at) = ⊤
IsShelfAt (At.Keep at) = ⊤
IsShelfAt (At.Sweep at) = ⊤
IsShelfAt _ = ⊥

abbrev pub IsAtShelf : Local → Type 0
IsAtShelf l = IsShelfAt l.at
