-- What has to be so where a job starts: a block that is put into the cache is one of its bins, and a slab that is to
-- begin has no mail.
use Rattle.std.specs.Prelude.{◌≡◌, ◌≤◌, ℕ, ⊤}
use Rattle.step_local.specs.declared.frames.At.{At}
use Rattle.step_local.specs.declared.frames.Local.{Local}
use Rattle.step_local.specs.Frames.{last_cache_bin}
use Rattle.step_local.specs.declared.frames.SmallAt.{SmallAt}
use Rattle.mail_laws.specs.Mail.{Mail, Task}
use Rattle.pool_laws.specs.Wholes.{Whole}

abbrev pub StartSaysAt : Local → At → Type 0
StartSaysAt l (At.Keep at) = l.call.block.granules ≤ last_cache_bin
StartSaysAt l _ = ⊤

abbrev pub StartSays : Local → Type 0
StartSays l = StartSaysAt l l.at

-- the mail of a slab that is to begin is that of none
abbrev pub SlabSaysAt : (ℕ → Task) → (ℕ → Mail) → ℕ → At → Type 0
SlabSaysAt tasks mail seat (At.Small (SmallAt.Next slab)) = tasks seat ≡ Task.Away → mail slab ≡ Mail.Absent
SlabSaysAt tasks mail seat _ = ⊤

abbrev pub SlabIsNone : Whole → Local → Type 0
SlabIsNone w l = SlabSaysAt w.mails w.ways.mail.mail l.seat l.at
