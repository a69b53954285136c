-- What a step leaves as it was: blocks in other seats' hands, and what lies in the cache of large blocks.
use Rattle.std.specs.Prelude.{◌≡◌, ℕ, ⊤}
use Rattle.pool_words.specs.declared.words.Key.{Key}
use Rattle.guards.specs.declared.win.Taking.{Taking}
use Rattle.guard_laws.specs.Blocks.{Use, Place}
use Rattle.use_laws.specs.Uses.{Purpose}
use Rattle.use_laws.specs.Pools.{Pool}
use Rattle.use_laws.specs.Steps.{PoolStep}

-- a block in this seat's hand stays there
abbrev pub HandStays : (ℕ → Place) → (ℕ → Place) → ℕ → Type 0
HandStays place place' seat =
    (x n : ℕ) (taking : Taking) → place x ≡ Place.Block x n (Use.Held seat taking)
    → place' x ≡ Place.Block x n (Use.Held seat taking)

-- what lies in the cache stays there, and nothing else comes there
pub record ShelfStays (place place' : ℕ → Place) (purpose purpose' : ℕ → Purpose) : Type 0 where
  pub to : (x : ℕ) → purpose x ≡ Purpose.Shelved → purpose' x ≡ Purpose.Shelved
  pub from : (x : ℕ) → purpose' x ≡ Purpose.Shelved → purpose x ≡ Purpose.Shelved
  pub rests : (x n : ℕ) → purpose x ≡ Purpose.Shelved → place x ≡ Place.Block x n Use.Elsewhere
      → place' x ≡ Place.Block x n Use.Elsewhere

-- a step by which no block comes into the cache of large blocks or leaves it
abbrev pub LeavesShelf : (k : Key) (seat : ℕ) (p later : Pool) → PoolStep k seat p later → Type 0
LeavesShelf k seat p later (PoolStep.guards h m' tasks step keeps same) = ⊤
LeavesShelf k seat p later (PoolStep.objects h m' l' step plain) = ⊤
LeavesShelf k seat p later (PoolStep.frees call kind at few is own) = ⊤
LeavesShelf k seat p later (PoolStep.frees_block call x n at taking few is ends away) = ⊤
LeavesShelf k seat p later (PoolStep.takes e head below few is) = ⊤
LeavesShelf k seat p later (PoolStep.rests e unit few is) = ⊤
LeavesShelf k seat p later (PoolStep.joins e first last count is) = ⊤
LeavesShelf k seat p later (PoolStep.readies x n unit has away fits low high few) = ⊤
LeavesShelf k seat p later (PoolStep.slab_begins e class has away even low) = ⊤
LeavesShelf k seat p later (PoolStep.slab_ends e taking free away by none) = ⊤
LeavesShelf k seat p later (PoolStep.slab_cached e has even room) = ⊤
LeavesShelf k seat p later (PoolStep.newest_out e taking free is) = ⊤
LeavesShelf k seat p later (PoolStep.oldest_out e taking free is) = ⊤
LeavesShelf k seat p later (PoolStep.clears e n taking has) = ⊤
LeavesShelf k seat p later (PoolStep.stores_header e by) = ⊤
LeavesShelf k seat p later (PoolStep.leaves e away by header) = ⊤
LeavesShelf k seat p later (PoolStep.comes chain away orphans) = ⊤
LeavesShelf k seat p later (PoolStep.goes_back e away has) = ⊤
LeavesShelf k seat p later (PoolStep.adopts e away has) = ⊤
LeavesShelf k seat p later (PoolStep.shelves x n has) = ⊥
LeavesShelf k seat p later (PoolStep.unshelves x n taking free shelved rests) = ⊥
