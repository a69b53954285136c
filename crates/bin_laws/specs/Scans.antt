-- What a scan knows of the bin whose lock it has: where it is in the list, and that none of the blocks that it
-- passed has
-- the wanted piece, unless it noted one.
use Rattle.std.specs.Prelude.{◌≡◌, ℕ, ◌<◌, false, Option, Some, None, List, [], ◌∷◌, ◌++◌, ⊤}
use Rattle.backend_bins.specs.declared.blocks.Want.{Want}
use Rattle.backend_bins.specs.declared.scan.ScanAt.{ScanAt}
use Rattle.backend_bins.specs.declared.scan.ScanNext.{ScanNext}
use Rattle.backend_bins.specs.declared.scan.ScanStep.{ScanStep}
use Rattle.backend_bins.specs.Blocks.{block, fits}
use Rattle.chain_laws.specs.Chains.{tally}
use Rattle.bin_laws.specs.Bins.{Task, Member, Shadow}

-- no block of these has the wanted piece
abbrev pub NoneFits : Want → (ℕ → Member) → List ℕ → Type 0
NoneFits want member items =
    (x n : ℕ) → 0 < tally x items → member x ≡ Member.In n → fits want (block x n) ≡ false

-- the scan is to judge this block
pub record Meets (g : Shadow) (want : Want) (bin : ℕ) (noted : Option ℕ) (first : ℕ) : Type 0 where
  pub front : List ℕ
  pub rest : List ℕ
  pub items : g.items bin ≡ front ++ (first ∷ rest)
  pub none : noted ≡ None → NoneFits want g.member front

-- and has judged it
pub record Passes (g : Shadow) (want : Want) (bin : ℕ) (noted : Option ℕ) (first : ℕ) : Type 0 where
  pub front : List ℕ
  pub rest : List ℕ
  pub items : g.items bin ≡ front ++ (first ∷ rest)
  pub none : noted ≡ None → NoneFits want g.member (front ++ first ∷ [])

abbrev pub StepFits : Shadow → Task → Want → ℕ → Option ℕ → ScanStep → Type 0
StepFits g task want bin noted ScanStep.Peek = ⊤
StepFits g task want bin noted ScanStep.Lock = ⊤
StepFits g task want bin noted ScanStep.Head = task ≡ Task.Has bin
StepFits g task want bin noted (ScanStep.Length first) = (task ≡ Task.Has bin) × Meets g want bin noted first
StepFits g task want bin noted (ScanStep.Win b at) = (task ≡ Task.Has bin) × Meets g want bin noted b.first
StepFits g task want bin noted (ScanStep.Next first) = (task ≡ Task.Has bin) × Passes g want bin noted first
StepFits g task want bin noted (ScanStep.Out b at) = ⊤
StepFits g task want bin noted (ScanStep.Unlock (Some b)) = ⊤
StepFits g task want bin noted (ScanStep.Unlock None) =
    (task ≡ Task.Has bin) × (noted ≡ None → NoneFits want g.member (g.items bin))

abbrev pub ScanFits : Shadow → Task → Want → ScanAt → Type 0
ScanFits g task want s = StepFits g task want s.bin s.noted s.step

abbrev pub AfterLook : Shadow → Task → Want → ScanNext → Type 0
AfterLook g task want (ScanNext.Goes s) = ScanFits g task want s
AfterLook g task want ScanNext.WaitsLock = ⊤
AfterLook g task want (ScanNext.WaitsHalf bin s) = ⊤
AfterLook g task want (ScanNext.Took b) = ⊤
AfterLook g task want (ScanNext.Nothing seen) = ⊤

-- a step that reads a list or a length
abbrev pub IsLook : ScanStep → Type 0
IsLook ScanStep.Peek = ⊥
IsLook ScanStep.Lock = ⊥
IsLook ScanStep.Head = ⊤
IsLook (ScanStep.Length first) = ⊤
IsLook (ScanStep.Win b at) = ⊥
IsLook (ScanStep.Next first) = ⊤
IsLook (ScanStep.Out b at) = ⊥
IsLook (ScanStep.Unlock took) = ⊥
