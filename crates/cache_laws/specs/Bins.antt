-- What a cache bin has, and what its words say of it.
use Rattle.std.specs.Prelude.{◌≡◌, ℕ, Option, Some, List, [], ◌∷◌, ⊤}
use Rattle.cache_ages.specs.CacheSteps.{copied}
use Rattle.cache_ages.specs.declared.CacheNumbers.{CacheNumbers}
use Rattle.pool_words.specs.Words.{cache_heads, cache_items, cache_used, cache_means, cache_thresholds, cache_gets}
use Rattle.pool_words.specs.Words.{cache_cleaned, cache_links, cache_ages}
use Rattle.word_codes.specs.Links.{link_word}
use Rattle.word_laws.specs.Memory.{Mem}

-- a block, and when it came
pub record Item : Type 0 where
  pub block : ℕ
  pub age : ℕ

-- the numbers of a bin, and its blocks, the newest first
pub record Bin : Type 0 where
  pub count : ℕ
  pub used : ℕ
  pub mean : ℕ
  pub threshold : ℕ
  pub get : ℕ
  pub cleaned : ℕ
  pub items : List Item

abbrev pub blocks_of : List Item → List ℕ
blocks_of [] = []
blocks_of (x ∷ xs) = x.block ∷ blocks_of xs

abbrev pub ages_of : List Item → List ℕ
ages_of [] = []
ages_of (x ∷ xs) = x.age ∷ ages_of xs

-- the bin as the rules have it
abbrev pub numbers_of : Bin → CacheNumbers
numbers_of bin = record {
  used = bin.used;
  mean = bin.mean;
  threshold = bin.threshold;
  get = bin.get;
  cleaned = bin.cleaned;
  ages = copied (ages_of bin.items);
}

-- the word that leads to the first of some blocks
abbrev pub word_of : List Item → ℕ
word_of [] = 0
word_of (x ∷ xs) = link_word (Some x.block)

-- the oldest of some blocks behind this one
abbrev pub last_block : Option ℕ → List Item → Option ℕ
last_block before [] = before
last_block before (x ∷ xs) = last_block (Some x.block) xs

-- each block's words say which is behind it, and when it came
abbrev pub Lists : (ℕ → ℕ) → (ℕ → ℕ) → List Item → Type 0
Lists links ages [] = ⊤
Lists links ages (x ∷ xs) = (links x.block ≡ word_of xs) × (ages x.block ≡ x.age) × Lists links ages xs

-- the words of the bin for blocks of so many granules say all that it has
pub record Says (m : Mem) (b : ℕ) (bin : Bin) : Type 0 where
  pub head : m cache_heads b ≡ word_of bin.items
  pub count' : m cache_items b ≡ bin.count
  pub used' : m cache_used b ≡ bin.used
  pub mean' : m cache_means b ≡ bin.mean
  pub threshold' : m cache_thresholds b ≡ bin.threshold
  pub get' : m cache_gets b ≡ bin.get
  pub cleaned' : m cache_cleaned b ≡ bin.cleaned
  pub listed : Lists (m cache_links) (m cache_ages) bin.items
