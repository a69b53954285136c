-- Runs of calls alone: no seat begins a reset of the whole pool.
use Rattle.std.specs.Prelude.{◌≡◌, ℕ, List, Option, false, ⊤}
use Rattle.pool_words.specs.declared.words.Key.{Key}
use Rattle.call_laws.specs.Calls.{IsCalling, is_reset_at}
use Rattle.step_local.specs.declared.frames.Local.{Local}
use Rattle.step_local.specs.Getting.{reset_begun}
use Rattle.step_runs.specs.declared.entry.Entry.{Entry}
use Rattle.step_runs.specs.Runs.{Callback, Run, Silent}
use Rattle.step_runs.specs.Runs.Run.{opened, stepped}
use Rattle.step_runs.specs.Runs.Silent.{rests, begins, resets, answers, obtains, takes_out, puts_back}

-- a local that is in no reset
pub record IsCall (l : Local) : Type 0 where
  pub calling : IsCalling l
  pub at : is_reset_at l.at ≡ false

-- a reset that is refused changes nothing
abbrev pub IsSilentCall : {D : Type 0} {c : Callback D} {l : Local} {d : Option D} {now : Local} {after : Option D}
    → Silent c l d now after → Type 0
IsSilentCall (rests passes) = ⊤
IsSilentCall (begins silent request) = IsSilentCall silent
IsSilentCall (resets {now = now} silent reset) = IsSilentCall silent × ((reset_begun now reset).0 ≡ now)
IsSilentCall (answers silent e) = IsSilentCall silent
IsSilentCall (obtains silent granules answer after e asks) = IsSilentCall silent
IsSilentCall (takes_out silent first e) = IsSilentCall silent
IsSilentCall (puts_back silent e) = IsSilentCall silent

abbrev pub AreCalls : {D : Type 0} {c : Callback D} {k : Key} {first : D} {words : List ℕ} {home : Option D}
    {entries : ℕ → Entry D} → Run c k first words home entries → Type 0
AreCalls opened = ⊤
AreCalls (stepped run seat l desk silent word) = AreCalls run × IsSilentCall silent
