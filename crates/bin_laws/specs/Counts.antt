-- How many blocks a scan saw: those of the bins before, and of the bin whose lock it has each block up to the present
-- one.
use Rattle.std.specs.Prelude.{◌≡◌, ℕ, ◌+◌, Option, Some, None, List, ◌∷◌, ◌++◌, length, ⊤}
use Rattle.pool_types.specs.Sums.{capped}
use Rattle.backend_bins.specs.declared.scan.ScanAt.{ScanAt}
use Rattle.backend_bins.specs.declared.scan.ScanNext.{ScanNext}
use Rattle.backend_bins.specs.declared.scan.ScanStep.{ScanStep}

-- the list's blocks up to this one are seen
pub record Counts (items : List ℕ) (before seen first : ℕ) : Type 0 where
  pub front : List ℕ
  pub rest : List ℕ
  pub list : items ≡ front ++ (first ∷ rest)
  pub count : seen ≡ capped (before + (length front + 1))

abbrev pub SeenFits : List ℕ → ℕ → ℕ → ScanStep → Type 0
SeenFits items before seen ScanStep.Peek = seen ≡ capped before
SeenFits items before seen ScanStep.Lock = seen ≡ capped before
SeenFits items before seen ScanStep.Head = seen ≡ capped before
SeenFits items before seen (ScanStep.Length first) = Counts items before seen first
SeenFits items before seen (ScanStep.Win b at) = Counts items before seen b.first
SeenFits items before seen (ScanStep.Next first) = Counts items before seen first
SeenFits items before seen (ScanStep.Out b at) = ⊤
SeenFits items before seen (ScanStep.Unlock (Some b)) = ⊤
SeenFits items before seen (ScanStep.Unlock None) = seen ≡ capped (before + length items)

-- where the lock is freed, or the bin's head leads to no block, the bin is done: the scan goes on in the next bin with
-- what it saw, or tells that at its end
abbrev pub SeenStays : ℕ → ScanNext → Type 0
SeenStays seen (ScanNext.Goes q) = q.seen ≡ seen
SeenStays seen ScanNext.WaitsLock = ⊤
SeenStays seen (ScanNext.WaitsHalf bin again) = again.seen ≡ 0
SeenStays seen (ScanNext.Took b) = ⊤
SeenStays seen (ScanNext.Nothing count) = count ≡ seen

abbrev pub SeenAfter : List ℕ → ℕ → ScanNext → Type 0
SeenAfter items before (ScanNext.Goes q) = SeenFits items before q.seen q.step
SeenAfter items before ScanNext.WaitsLock = ⊤
SeenAfter items before (ScanNext.WaitsHalf bin again) = ⊤
SeenAfter items before (ScanNext.Took b) = ⊤
SeenAfter items before (ScanNext.Nothing count) = ⊤

abbrev pub SeenNext : List ℕ → ℕ → ℕ → ScanStep → ScanNext → Type 0
SeenNext items before seen ScanStep.Peek next = SeenStays seen next
SeenNext items before seen ScanStep.Lock next = SeenAfter items before next
SeenNext items before seen ScanStep.Head next = SeenAfter items before next
SeenNext items before seen (ScanStep.Length first) next = SeenAfter items before next
SeenNext items before seen (ScanStep.Win b at) next = SeenAfter items before next
SeenNext items before seen (ScanStep.Next first) next = SeenAfter items before next
SeenNext items before seen (ScanStep.Out b at) next = SeenAfter items before next
SeenNext items before seen (ScanStep.Unlock took) next = SeenStays seen next
