-- Lists that are linked both ways, and what they are while one store of a change is made after the other.
use Rattle.std.specs.Prelude.{◌≡◌, ℕ, List, [], ◌∷◌, ◌++◌, ⊤}
use Rattle.chain_laws.specs.Chains.{Link, IsChain}
use Rattle.chain_laws.specs.Chains.Link.{To, Ends}

-- the link to the first item, and from each item to the one behind it and to the one before it
pub record TwoWay : Type 0 where
  pub head : Link
  pub next : ℕ → Link
  pub previous : ℕ → Link

-- nothing is behind the last item, and nothing before the first
abbrev pub nothing : Link
nothing = Ends 0

-- from each item the link back leads to the one before it, and from the first there
abbrev pub LeadsBack : (ℕ → Link) → Link → List ℕ → Type 0
LeadsBack previous there [] = ⊤
LeadsBack previous there (x ∷ xs) = (previous x ≡ there) × LeadsBack previous (To x) xs

-- the last item of a list, behind this one
abbrev pub last_of : Link → List ℕ → Link
last_of before [] = before
last_of before (x ∷ xs) = last_of (To x) xs

-- what the holder of the list's lock has done of its change
pub data Change : Type 0 where
  -- the links back list what the links forward do
  Still : Change
  -- an item comes, and the links back have it already
  LinkedBack : (item : ℕ) → Change
  -- an item leaves, and the links back still have it, before the one behind it
  CutForward : (item behind : ℕ) (before : Link) → Change

-- how the links back list, where the links forward list these items
abbrev pub BackFits : (ℕ → Link) → Change → List ℕ → Type 0
BackFits previous Change.Still items = LeadsBack previous nothing items
BackFits previous (LinkedBack x) items = LeadsBack previous nothing (x ∷ items)
BackFits previous (CutForward x behind before) items =
    (front rest : List ℕ) × (items ≡ front ++ (behind ∷ rest)) × (last_of nothing front ≡ before)
    × LeadsBack previous nothing (front ++ (x ∷ (behind ∷ rest)))

-- the list has these items, but for what its change has made of the links back
pub record IsList (w : TwoWay) (change : Change) (items : List ℕ) : Type 0 where
  pub forward : IsChain w.next w.head items 0
  pub backward : BackFits w.previous change items
