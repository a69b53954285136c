-- The kinds of word, and where each word lies in the one row.
use Rattle.std.specs.Prelude.{ℕ, zero, suc, ◌+◌, ◌-◌, ◌*◌, ◌/◌, ◌^◌, cond, ltb, List, [], ◌∷◌, slice_index}
use Rattle.pool_types.specs.Geometry.{unit_bytes, granule_bytes, class_count, bin_count}
use Rattle.pool_types.specs.Limits.{most_regions}
use Rattle.pool_words.specs.declared.words.Key.{Key}
use Rattle.pool_words.specs.declared.words.Word.{Word}

-- how many units a granule has
abbrev pub granule_units : ℕ
granule_units = granule_bytes / unit_bytes

-- how many slots for regions there are: as many as regions may be out
abbrev pub region_slots : ℕ
region_slots = most_regions

-- how many counts of granules a block in the cache may have, 0 with them
abbrev pub cache_counts : ℕ
cache_counts = 1024

-- an index that no kind of word has
abbrev pub no_index : ℕ
no_index = 2 ^ 64 - 1

pub data WordKind : Type 0 where
  marks : WordKind
  kinds : WordKind
  owns : WordKind
  publics : WordKind
  nexts : WordKind
  headers : WordKind
  sizes : WordKind
  lefts : WordKind
  bin_locks : WordKind
  bin_heads : WordKind
  forwards : WordKind
  backwards : WordKind
  queues : WordKind
  queue_links : WordKind
  mailboxes : WordKind
  orphans : WordKind
  cache_locks : WordKind
  cache_heads : WordKind
  cache_items : WordKind
  cache_used : WordKind
  cache_means : WordKind
  cache_thresholds : WordKind
  cache_gets : WordKind
  cache_cleaned : WordKind
  cache_links : WordKind
  cache_ages : WordKind
  clocks : WordKind
  office_locks : WordKind
  regions : WordKind
  bases : WordKind

-- the kinds in the order in which their words lie
abbrev pub number : WordKind → ℕ
number marks = 0
number kinds = 1
number owns = 2
number publics = 3
number nexts = 4
number headers = 5
number sizes = 6
number lefts = 7
number bin_locks = 8
number bin_heads = 9
number forwards = 10
number backwards = 11
number queues = 12
number queue_links = 13
number mailboxes = 14
number orphans = 15
number cache_locks = 16
number cache_heads = 17
number cache_items = 18
number cache_used = 19
number cache_means = 20
number cache_thresholds = 21
number cache_gets = 22
number cache_cleaned = 23
number cache_links = 24
number cache_ages = 25
number clocks = 26
number office_locks = 27
number regions = 28
number bases = 29

abbrev pub kind_of_word : Word → WordKind
kind_of_word (Word.Mark unit) = marks
kind_of_word (Word.Kind granule) = kinds
kind_of_word (Word.Own slab) = owns
kind_of_word (Word.Public slab) = publics
kind_of_word (Word.Next slab) = nexts
kind_of_word (Word.Header slab) = headers
kind_of_word (Word.Size granule) = sizes
kind_of_word (Word.Left granule) = lefts
kind_of_word (Word.BinLock bin) = bin_locks
kind_of_word (Word.BinHead bin) = bin_heads
kind_of_word (Word.Forward block) = forwards
kind_of_word (Word.Backward block) = backwards
kind_of_word Word.Queue = queues
kind_of_word (Word.QueueLink block) = queue_links
kind_of_word (Word.Mailbox seat class) = mailboxes
kind_of_word (Word.Orphans class) = orphans
kind_of_word (Word.CacheLock granules) = cache_locks
kind_of_word (Word.CacheHead granules) = cache_heads
kind_of_word (Word.CacheItems granules) = cache_items
kind_of_word (Word.CacheUsed granules) = cache_used
kind_of_word (Word.CacheMean granules) = cache_means
kind_of_word (Word.CacheThreshold granules) = cache_thresholds
kind_of_word (Word.CacheGet granules) = cache_gets
kind_of_word (Word.CacheCleaned granules) = cache_cleaned
kind_of_word (Word.CacheLink block) = cache_links
kind_of_word (Word.CacheAge block) = cache_ages
kind_of_word Word.Clock = clocks
kind_of_word Word.OfficeLock = office_locks
kind_of_word (Word.Region slot) = regions
kind_of_word (Word.Base slot) = bases

-- which of all mailboxes is that of the seat and the class
abbrev pub mailbox_at : ℕ → ℕ → ℕ
mailbox_at seat class = cond (ltb class class_count) (class_count * seat + class) no_index

-- the index of a word among those of its kind
abbrev pub at_of : Word → ℕ
at_of (Word.Mark unit) = unit
at_of (Word.Kind granule) = granule
at_of (Word.Own slab) = slab
at_of (Word.Public slab) = slab
at_of (Word.Next slab) = slab
at_of (Word.Header slab) = slab
at_of (Word.Size granule) = granule
at_of (Word.Left granule) = granule
at_of (Word.BinLock bin) = bin
at_of (Word.BinHead bin) = bin
at_of (Word.Forward block) = block
at_of (Word.Backward block) = block
at_of Word.Queue = 0
at_of (Word.QueueLink block) = block
at_of (Word.Mailbox seat class) = mailbox_at seat class
at_of (Word.Orphans class) = class
at_of (Word.CacheLock granules) = granules
at_of (Word.CacheHead granules) = granules
at_of (Word.CacheItems granules) = granules
at_of (Word.CacheUsed granules) = granules
at_of (Word.CacheMean granules) = granules
at_of (Word.CacheThreshold granules) = granules
at_of (Word.CacheGet granules) = granules
at_of (Word.CacheCleaned granules) = granules
at_of (Word.CacheLink block) = block
at_of (Word.CacheAge block) = block
at_of Word.Clock = 0
at_of Word.OfficeLock = 0
at_of (Word.Region slot) = slot
at_of (Word.Base slot) = slot

-- how many words there are of each kind, by its number
abbrev pub lengths : Key → List ℕ
lengths k =
    granule_units * k.span ∷
    (k.span + 1) ∷
    k.span ∷
    k.span ∷
    k.span ∷
    k.span ∷
    (k.span + 1) ∷
    (k.span + 1) ∷
    bin_count ∷
    bin_count ∷
    k.span ∷
    k.span ∷
    1 ∷
    k.span ∷
    class_count * k.seats ∷
    class_count ∷
    cache_counts ∷
    cache_counts ∷
    cache_counts ∷
    cache_counts ∷
    cache_counts ∷
    cache_counts ∷
    cache_counts ∷
    cache_counts ∷
    k.span ∷
    k.span ∷
    1 ∷
    1 ∷
    region_slots ∷
    region_slots ∷
    []

-- the sum of the first n
abbrev pub offset : List ℕ → ℕ → ℕ
offset [] n = 0
offset (x ∷ xs) zero = 0
offset (x ∷ xs) (suc n) = x + offset xs n

abbrev pub length_of : Key → WordKind → ℕ
length_of k kind = slice_index (lengths k) (number kind)

abbrev pub base_of : Key → WordKind → ℕ
base_of k kind = offset (lengths k) (number kind)

-- how many words there are
abbrev pub words_of : Key → ℕ
words_of k = offset (lengths k) 30

-- where the word at an index of its kind lies: behind all words where the kind has no such index
unfoldable pub placed : ℕ → ℕ → ℕ → ℕ → ℕ
placed at size base all = cond (ltb at size) (base + at) all

abbrev pub index_of : Key → Word → ℕ
index_of k w = placed (at_of w) (length_of k (kind_of_word w)) (base_of k (kind_of_word w)) (words_of k)
