-- The numbers of a cache bin, and the ages of its blocks.
use Rattle.std.specs.Prelude.{ℕ, []}
use Rattle.cache_ages.specs.declared.CacheNumbers.{CacheNumbers}
use Rattle.cache_ages.specs.Times.{most_items}
use Rattle.pool_words.specs.declared.words.Word.{Word}
use Rattle.word_codes.specs.Links.{link_of}
use Rattle.word_totals.specs.Reading.{Still, load}
use Rattle.word_totals.specs.Chains.{linked_ages}

-- what the words of the cache bin for blocks of so many granules say
unfoldable pub cache_numbers : Still → ℕ → CacheNumbers
cache_numbers s granules = record {
  used = load s (Word.CacheUsed granules);
  mean = load s (Word.CacheMean granules);
  threshold = load s (Word.CacheThreshold granules);
  get = load s (Word.CacheGet granules);
  cleaned = load s (Word.CacheCleaned granules);
  ages = record { items = linked_ages s most_items (link_of (load s (Word.CacheHead granules))) [] };
}

-- how many blocks are in it, as its own word says
abbrev pub cache_items_of : Still → ℕ → ℕ
cache_items_of s granules = load s (Word.CacheItems granules)
