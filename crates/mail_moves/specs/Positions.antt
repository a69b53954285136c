-- The positions at which a seat mails a slab, takes a mailbox, adopts orphans, joins what was given back to one, pushes
-- one back, or leaves a slab.
use Rattle.std.specs.Prelude.{⊤}
use Rattle.step_local.specs.declared.frames.At.{At}
use Rattle.step_local.specs.declared.frames.Local.{Local}

abbrev pub IsMailAt : At → Type 0
IsMailAt (At.Mail at) = ⊤
IsMailAt (At.Mailbox at) = ⊤
IsMailAt (At.Adopt at) = ⊤
IsMailAt (At.Join slab rest at) = ⊤
IsMailAt (At.Spare at) = ⊤
IsMailAt (At.Leave slab at) = ⊤
IsMailAt _ = ⊥

abbrev pub IsAtMail : Local → Type 0
IsAtMail l = IsMailAt l.at
