-- Where a job begins, a task of each group may start.
use Rattle.std.proofs.Common.{◌≡◌}
use Rattle.mailbox.specs.declared.boxes.BoxAt.{BoxAt}
use Rattle.step_local.specs.declared.frames.At.{At}
use Rattle.step_local.specs.declared.frames.Local.{Local}
use Rattle.step_local.specs.declared.frames.SmallAt.{SmallAt}
use Rattle.step_tasks.specs.Lands.{LandsAt, Lands, SmallLands}
use Rattle.step_tasks.specs.Mail.{BeginStarts, MailStartsAt, MailStarts}
use Rattle.step_tasks.specs.Objects.{BoxStarts, SmallStarts, StartsAt, Starts}

box_starts : (at : BoxAt) → at ≡ BoxAt.Take → BoxStarts at
box_starts (BoxAt.Join slab rest at) is = absurd (cc)
box_starts _ is = tt

small_starts : (l : Local) (at : SmallAt) → SmallLands l at → SmallStarts l at
small_starts l (SmallAt.Public slab) lands = tt
small_starts l (SmallAt.Own slab) lands = tt
small_starts l (SmallAt.Kind slab) lands = tt
small_starts l _ lands = lands

object_starts : (l : Local) (at : At) → LandsAt l at → StartsAt l at
object_starts l (At.Mail at) lands = tt
object_starts l (At.Mailbox at) lands = box_starts at lands
object_starts l (At.Small at) lands = small_starts l at lands
object_starts l _ lands = lands

pub lands_object : (l : Local) → Lands l → Starts l
lands_object l lands = object_starts l l.at lands

begin_starts : (l : Local) (at : SmallAt) → SmallLands l at → BeginStarts at
begin_starts l (SmallAt.Public slab) lands = lands
begin_starts l (SmallAt.Own slab) lands = lands
begin_starts l (SmallAt.Kind slab) lands = lands
begin_starts l _ lands = tt

mail_starts : (l : Local) (at : At) → LandsAt l at → MailStartsAt at
mail_starts l (At.Mail at) lands = lands
mail_starts l (At.Mailbox at) lands = lands
mail_starts l (At.Small at) lands = begin_starts l at lands
mail_starts l _ lands = tt

pub lands_mail : (l : Local) → Lands l → MailStarts l
lands_mail l lands = mail_starts l l.at lands
