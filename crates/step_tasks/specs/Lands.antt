-- Where a call goes on once a job is done: the positions at which the jobs of objects and mail begin.
use Rattle.std.specs.Prelude.{◌≡◌}
use Rattle.mailbox.specs.declared.boxes.BoxAt.{BoxAt}
use Rattle.step_local.specs.declared.frames.At.{At}
use Rattle.step_local.specs.declared.frames.Local.{Local}
use Rattle.step_local.specs.declared.frames.SmallAt.{SmallAt}
use Rattle.step_tasks.specs.Objects.{SmallStarts, StartsAt}

abbrev pub SmallLands : Local → SmallAt → Type 0
SmallLands l (SmallAt.Public slab) = ⊥
SmallLands l (SmallAt.Own slab) = ⊥
SmallLands l (SmallAt.Kind slab) = ⊥
SmallLands l at = SmallStarts l at

abbrev pub LandsAt : Local → At → Type 0
LandsAt l (At.Mail at) = ⊥
LandsAt l (At.Mailbox at) = at ≡ BoxAt.Take
LandsAt l (At.Small at) = SmallLands l at
LandsAt l at = StartsAt l at

abbrev pub Lands : Local → Type 0
Lands l = LandsAt l l.at
