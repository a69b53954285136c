-- The positions at which a local looks at an object, ends a grant, lists an object, looks a region up, and grants.
use Rattle.std.specs.Prelude.{⊤}
use Rattle.step_local.specs.declared.frames.At.{At}
use Rattle.step_local.specs.declared.frames.LargeAt.{LargeAt}
use Rattle.step_local.specs.declared.frames.Local.{Local}
use Rattle.step_local.specs.declared.frames.SmallAt.{SmallAt}

abbrev pub IsLookAt : At → Type 0
IsLookAt (At.Look at) = ⊤
IsLookAt _ = ⊥

abbrev pub IsEndAt : At → Type 0
IsEndAt (At.End at) = ⊤
IsEndAt _ = ⊥

abbrev pub IsPostAt : At → Type 0
IsPostAt (At.Post at) = ⊤
IsPostAt _ = ⊥

abbrev pub IsLocateAt : At → Type 0
IsLocateAt (At.Locate at) = ⊤
IsLocateAt _ = ⊥

-- an object of a slab is granted: its mark is read first where it is the newest private one
abbrev pub IsTake : SmallAt → Type 0
IsTake (SmallAt.Behind slab head) = ⊤
IsTake (SmallAt.Private slab head below) = ⊤
IsTake (SmallAt.Rest slab unit) = ⊤
IsTake _ = ⊥

abbrev pub IsTakeAt : At → Type 0
IsTakeAt (At.Small at) = IsTake at
IsTakeAt _ = ⊥

-- and a large one
abbrev pub IsGrant : LargeAt → Type 0
IsGrant (LargeAt.Grant unit) = ⊤
IsGrant _ = ⊥

abbrev pub IsGrantAt : At → Type 0
IsGrantAt (At.Large at) = IsGrant at
IsGrantAt _ = ⊥

abbrev pub IsAtLook : Local → Type 0
IsAtLook l = IsLookAt l.at

abbrev pub IsAtPost : Local → Type 0
IsAtPost l = IsPostAt l.at

abbrev pub IsAtLocate : Local → Type 0
IsAtLocate l = IsLocateAt l.at

abbrev pub IsAtEnd : Local → Type 0
IsAtEnd l = IsEndAt l.at

abbrev pub IsAtTake : Local → Type 0
IsAtTake l = IsTakeAt l.at

abbrev pub IsAtGrant : Local → Type 0
IsAtGrant l = IsGrantAt l.at
