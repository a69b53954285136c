-- Wrong definitions. Each breaks a law at a slab or at the slabs that are named.
use Rattle.std.specs.Prelude.{◌≡◌, ℕ, ◌+◌, ◌<◌, Some, None, List, ◌∷◌, ◌++◌}
use Rattle.pool_words.specs.declared.words.Key.{Key}
use Rattle.heap_slabs.specs.declared.records.HeapSlab.{HeapSlab}
use Rattle.heap_slabs.specs.Rolls.{newest_of, without_newest}
use Rattle.heap_slabs.specs.Slabs.{after_remove}
use Rattle.word_laws.specs.Memory.{put}
use Rattle.chain_laws.specs.Chains.{tally, IsOnce}
use Rattle.slab_laws.specs.Books.{Keeper, with_keeper}
use Rattle.slab_laws.specs.OneSlab.{IsHanded, IsSlabOf}
use Rattle.slab_laws.specs.Heaps.{Slabs, SlabsGood}

-- a newest private object is taken, and the one behind it is not made the newest
abbrev pub headless_take : HeapSlab → HeapSlab
headless_take r = record r { head = None; count = r.count + 1 }

abbrev pub HeadlessTakes : Type 0
HeadlessTakes =
    (r : HeapSlab) (u : ℕ) (privates : List ℕ) → IsSlabOf r (u ∷ privates) → IsSlabOf (headless_take r) privates

abbrev pub HeadlessTakesAreWrong : Type 0
HeadlessTakesAreWrong = HeadlessTakes → ⊥

-- objects are joined that still count as held
abbrev pub uncounted_join : HeapSlab → ℕ → HeapSlab
uncounted_join r first = record r { head = Some first }

abbrev pub UncountedJoins : Type 0
UncountedJoins =
    (r : HeapSlab) (privates : List ℕ) (u : ℕ) (us : List ℕ) → IsSlabOf r privates → IsOnce (u ∷ us)
    → ((v : ℕ) → 0 < tally v (u ∷ us) → IsHanded r v) → ((v : ℕ) → 0 < tally v (u ∷ us) → tally v privates ≡ 0)
    → IsSlabOf (uncounted_join r u) ((u ∷ us) ++ privates)

abbrev pub UncountedJoinsAreWrong : Type 0
UncountedJoinsAreWrong = UncountedJoins → ⊥

-- a slab is left whose header was not stored
abbrev pub HeaderlessLeavings : Type 0
HeaderlessLeavings =
    (k : Key) (s : Slabs) (seat e : ℕ) → SlabsGood k s → s.book.keeper e ≡ Keeper.By seat
    → SlabsGood k (record s {
      book = with_keeper e Keeper.Orphan s.book;
      kept = put s.kept seat (after_remove (s.kept seat) e);
    })

abbrev pub HeaderlessLeavingsAreWrong : Type 0
HeaderlessLeavingsAreWrong = HeaderlessLeavings → ⊥

-- a cached slab leaves the cache, and its granule says still that it is cached
abbrev pub SilentUncachings : Type 0
SilentUncachings =
    (k : Key) (s : Slabs) (seat e : ℕ) → SlabsGood k s → newest_of (s.cached seat) ≡ Some e
    → SlabsGood k (record s {
      book = with_keeper e Keeper.Nobody s.book;
      cached = put s.cached seat (without_newest (s.cached seat));
    })

abbrev pub SilentUncachingsAreWrong : Type 0
SilentUncachingsAreWrong = SilentUncachings → ⊥
