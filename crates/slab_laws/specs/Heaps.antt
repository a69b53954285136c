-- What all seats' heaps keep, and the words that say of each granule what it is the first of.
use Rattle.std.specs.Prelude.{◌≡◌, ◌≢◌, ℕ, ◌+◌, ◌^◌, ◌<◌, cond, eqb, Some, None, length, ⊤}
use Rattle.pool_types.specs.Geometry.{class_count}
use Rattle.pool_words.specs.declared.words.Key.{Key}
use Rattle.pool_words.specs.Words.{kinds, headers}
use Rattle.word_codes.specs.declared.kinds.Kind.{Kind}
use Rattle.word_codes.specs.Kinds.{kind_of}
use Rattle.word_codes.specs.Places.{granule_of, slab_granule}
use Rattle.heap_slabs.specs.Records.{to_header}
use Rattle.heap_slabs.specs.Rolls.{Rolled}
use Rattle.heap_slabs.specs.Slabs.{Kept, AreKept, record_at}
use Rattle.word_laws.specs.Memory.{Mem}
use Rattle.chain_laws.specs.Chains.{tally}
use Rattle.slab_laws.specs.Books.{Keeper, Book, IsThere, IsLeft, record_of}
use Rattle.slab_laws.specs.OneSlab.{IsRecord}

-- the book, the words, and of each seat the slabs that its heap keeps and those in its cache
pub record Slabs : Type 0 where
  pub book : Book
  pub mem : Mem
  pub kept : ℕ → Kept
  pub cached : ℕ → Rolled ℕ

-- the slab that a unit is in, if it is in one
abbrev pub slab_of : ℕ → ℕ
slab_of u = slab_granule (granule_of u)

-- two granules of the pool where a slab may begin
pub record IsPlace (k : Key) (e : ℕ) : Type 0 where
  pub even : slab_granule e ≡ e
  pub inside : e + 1 < k.span

pub record SlabFits (k : Key) (b : Book) (e : ℕ) : Type 0 where
  pub place : IsPlace k e
  pub class : b.classes e < class_count
  pub record' : IsRecord (record_of b e)

-- where no slab is, nothing is handed out
pub record NoneFits (b : Book) (e : ℕ) : Type 0 where
  pub handed : b.handed e ≡ 0
  pub count : b.counts e ≡ 0
  pub head : b.heads e ≡ None

pub record BookFits (k : Key) (b : Book) : Type 0 where
  pub span : k.span < 2 ^ 32
  pub there : (e : ℕ) → IsThere (b.keeper e) → SlabFits k b e
  pub absent : (e : ℕ) → (IsThere (b.keeper e) → ⊥) → NoneFits b e

-- a slab's record is its keeper's and nobody else's, or the header's while nobody keeps the slab
pub record RecordsFit (b : Book) (kept : ℕ → Kept) (words : ℕ → ℕ) : Type 0 where
  pub mine : (e seat : ℕ) → b.keeper e ≡ Keeper.By seat → record_at (kept seat).records e ≡ Some (record_of b e)
  pub strange : (e seat : ℕ) → b.keeper e ≢ Keeper.By seat → record_at (kept seat).records e ≡ None
  pub header : (e : ℕ) → IsLeft (b.keeper e) → words e ≡ to_header (record_of b e)

-- a heap has room for each granule, and a list for each class
pub record HeapFits (k : Key) (s : Kept) : Type 0 where
  pub are : AreKept s.classes s.records
  pub room : s.classes.indices ≡ k.span
  pub lists : length s.classes.lists ≡ class_count

abbrev pub IsNoSlabKind : Kind → Type 0
IsNoSlabKind Kind.Nothing = ⊤
IsNoSlabKind (Kind.Slab class) = ⊥
IsNoSlabKind Kind.CachedSlab = ⊥
IsNoSlabKind (Kind.Large first granules) = ⊤

-- the kind word of a granule says whether a slab begins there, of which class, or one that is cached
abbrev pub KindFits : Keeper → ℕ → Kind → Type 0
KindFits Keeper.Nobody class kind = IsNoSlabKind kind
KindFits (Keeper.By seat) class kind = kind ≡ Kind.Slab class
KindFits Keeper.Orphan class kind = kind ≡ Kind.Slab class
KindFits (Keeper.Adopting seat) class kind = kind ≡ Kind.Slab class
KindFits (Keeper.Cached seat) class kind = kind ≡ Kind.CachedSlab

abbrev pub kinds_in : Mem → ℕ → Kind
kinds_in m e = kind_of (m kinds e)

abbrev pub KindsFit : Book → (ℕ → Kind) → Type 0
KindsFit b words = (e : ℕ) → KindFits (b.keeper e) (b.classes e) (words e)

-- a cached slab stands once in its seat's cache
abbrev pub is_cached : ℕ → Keeper → ℕ
is_cached seat Keeper.Nobody = 0
is_cached seat (Keeper.By other) = 0
is_cached seat Keeper.Orphan = 0
is_cached seat (Keeper.Adopting other) = 0
is_cached seat (Keeper.Cached other) = cond (eqb other seat) 1 0

abbrev pub CachesFit : (ℕ → Keeper) → (ℕ → Rolled ℕ) → Type 0
CachesFit keeper cached = (seat e : ℕ) → tally e (cached seat).items ≡ is_cached seat (keeper e)

-- a cached slab is one of the pool's granules
abbrev pub CachedInside : Key → (ℕ → Keeper) → Type 0
CachedInside k keeper = (e seat : ℕ) → keeper e ≡ Keeper.Cached seat → e < k.span

pub record SlabsGood (k : Key) (s : Slabs) : Type 0 where
  pub book : BookFits k s.book
  pub records : RecordsFit s.book s.kept (s.mem headers)
  pub heaps : (seat : ℕ) → HeapFits k (s.kept seat)
  pub kinds' : KindsFit s.book (kinds_in s.mem)
  pub caches : CachesFit s.book.keeper s.cached
  pub inside : CachedInside k s.book.keeper
