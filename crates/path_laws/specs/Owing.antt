-- What a call has granted and freed that has no answer yet, by the seat's position.
use Rattle.std.specs.Prelude.{List, [], ◌∷◌}
use Rattle.step_local.specs.declared.frames.At.{At}
use Rattle.step_local.specs.declared.frames.Call.{Call}
use Rattle.step_local.specs.declared.frames.Local.{Local}
use Rattle.step_local.specs.declared.frames.Object.{Object}
use Rattle.step_local.specs.declared.frames.Stage.{Stage}

-- an object that was got in another's place has been granted
abbrev pub grants_at : Stage → Object → List Object
grants_at Stage.Replacing new = new ∷ []
grants_at Stage.Undoing new = new ∷ []
grants_at Stage.Idle new = []
grants_at Stage.Looking new = []
grants_at Stage.Getting new = []
grants_at Stage.Ending new = []
grants_at Stage.Leaving new = []
grants_at (Stage.Resetting stage) new = []

-- the object whose grant has been ended
abbrev pub frees_at : Stage → Object → Object → List Object
frees_at Stage.Ending old new = old ∷ []
frees_at Stage.Replacing old new = old ∷ []
frees_at Stage.Undoing old new = new ∷ []
frees_at Stage.Idle old new = []
frees_at Stage.Looking old new = []
frees_at Stage.Getting old new = []
frees_at Stage.Leaving old new = []
frees_at (Stage.Resetting stage) old new = []

abbrev pub granted_at : Call → At → List Object
granted_at c At.Idle = []
granted_at c (At.Ready answer) = []
granted_at c _ = grants_at c.stage c.new

-- while a grant is being ended it stands
abbrev pub freed_at : Call → At → List Object
freed_at c At.Idle = []
freed_at c (At.Ready answer) = []
freed_at c (At.End at) = []
freed_at c _ = frees_at c.stage c.old c.new

-- what the call has granted that has no answer yet
abbrev pub owed_grants : Local → List Object
owed_grants l = granted_at l.call l.at

-- what it has freed
abbrev pub owed_frees : Local → List Object
owed_frees l = freed_at l.call l.at
