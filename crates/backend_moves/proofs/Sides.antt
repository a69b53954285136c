-- What a step at guards or at bins leaves alone.
use Rattle.std.proofs.Common.{ℕ, refl}
use Rattle.word_laws.specs.Memory.{Mem}
use Rattle.guard_laws.specs.Blocks as guards
use Rattle.bin_laws.specs.Bins as bins
use Rattle.free_laws.specs.Steps.{with_bins, with_guards}
use Rattle.pool_laws.specs.Changes.{with_space}
use Rattle.pool_laws.specs.Wholes.{Whole, space_of}
use Rattle.backend_moves.specs.Moved.{Beside}

pub beside_same : (w : Whole) → Beside w w
beside_same w = record {
  locals = refl;
  kept = refl;
  cached = refl;
  queue = refl;
  drained = refl;
  mails = refl;
  tasks = refl;
  spares = refl;
  jobs = refl;
  desks = refl;
  office = refl;
}

pub beside_guards : (h : guards.Shadow) (m : Mem) (tasks : ℕ → guards.Task) (w : Whole)
    → Beside w (with_space (with_guards h m tasks (space_of w)) w)
beside_guards h m tasks w = record {
  locals = refl;
  kept = refl;
  cached = refl;
  queue = refl;
  drained = refl;
  mails = refl;
  tasks = refl;
  spares = refl;
  jobs = refl;
  desks = refl;
  office = refl;
}

pub beside_bins : (h : bins.Shadow) (m : Mem) (l : bins.Locals) (w : Whole)
    → Beside w (with_space (with_bins h m l (space_of w)) w)
beside_bins h m l w = record {
  locals = refl;
  kept = refl;
  cached = refl;
  queue = refl;
  drained = refl;
  mails = refl;
  tasks = refl;
  spares = refl;
  jobs = refl;
  desks = refl;
  office = refl;
}
