-- Free blocks in bins, blocks in the queue, and blocks in the cache.
use Rattle.std.specs.Prelude.{ℕ, zero, suc, ◌+◌, ◌*◌, cond, eqb, ltb, Option, Some, None}
use Rattle.backend_bins.specs.declared.blocks.Block.{Block}
use Rattle.backend_bins.specs.Blocks.{last_bin}
use Rattle.pool_types.specs.Geometry.{granule_bytes, bin_count}
use Rattle.pool_types.specs.Sums.{capped}
use Rattle.pool_words.specs.declared.words.Word.{Word}
use Rattle.pool_words.specs.Words.{cache_counts}
use Rattle.word_codes.specs.declared.guards.Guard.{Guard}
use Rattle.word_codes.specs.Guards.{guard_of}
use Rattle.word_codes.specs.Links.{link_of}
use Rattle.word_totals.specs.declared.middle.Amid.{Amid}
use Rattle.word_totals.specs.Reading.{Still, load, amid_of}
use Rattle.word_totals.specs.Chains.{linked_cached, linked_queued}

abbrev pub length_if : Block → ℕ → Option ℕ
length_if block first = cond (eqb block.first first) (Some block.granules) None

-- how many granules the free block has that begins here, if this seat has won the guard at its begin
abbrev pub won_length : ℕ → Amid → Option ℕ
won_length first (Amid.Wins block) = length_if block first
won_length first (Amid.Unlinks block) = length_if block first
won_length first other = None

abbrev pub or_sought : Option ℕ → ℕ → ℕ
or_sought (Some length) later = length
or_sought None later = later

-- the same for the first of so many seats from this one on that has won it
unfoldable pub sought_length : Still → ℕ → ℕ → ℕ → ℕ
sought_length s first zero seat = 0
sought_length s first (suc left) seat =
    or_sought (won_length first (amid_of s seat)) (sought_length s first left (capped (seat + 1)))

abbrev pub length_by : Still → ℕ → Guard → ℕ
length_by s first (Guard.Free granules) = granules
length_by s first other = sought_length s first s.key.seats 0

-- how many granules a block of a bin has: in the last bin the guard at its begin says it, or who won that
unfoldable pub length_in : Still → ℕ → ℕ → ℕ
length_in s bin first =
    cond (ltb bin last_bin) (bin + 1) (length_by s first (guard_of (load s (Word.Size first))))

-- what stands behind a block in its bin
unfoldable pub free_next : Still → ℕ → Option ℕ
free_next s block = link_of (load s (Word.Forward block))

-- the granules of the blocks that are linked in a bin, from this one on
unfoldable pub linked_free : Still → ℕ → ℕ → Option ℕ → ℕ → ℕ
linked_free s bin zero first sum = sum
linked_free s bin (suc left) None sum = sum
linked_free s bin (suc left) (Some block) sum =
    linked_free s bin left (free_next s block) (capped (sum + length_in s bin block))

-- the granules of the blocks of a bin, and of a cache bin
unfoldable pub granules_in : Still → ℕ → ℕ
granules_in s bin = linked_free s bin s.key.span (link_of (load s (Word.BinHead bin))) 0

unfoldable pub granules_cached : Still → ℕ → ℕ
granules_cached s granules =
    capped (linked_cached s s.key.span (link_of (load s (Word.CacheHead granules))) 0 * granules)

-- the granules of the blocks of so many bins, from this one on
unfoldable pub free_granules : Still → ℕ → ℕ → ℕ → ℕ
free_granules s zero bin sum = sum
free_granules s (suc left) bin sum =
    free_granules s left (capped (bin + 1)) (capped (sum + granules_in s bin))

-- the granules of the blocks of so many cache bins, from this one on
unfoldable pub cached_granules : Still → ℕ → ℕ → ℕ → ℕ
cached_granules s zero granules sum = sum
cached_granules s (suc left) granules sum =
    cached_granules s left (capped (granules + 1)) (capped (sum + granules_cached s granules))

abbrev pub block_bytes : ℕ → ℕ
block_bytes granules = capped (granules * granule_bytes)

-- the bytes in all bins' lists, in the queue, and in the cache
unfoldable pub bin_bytes : Still → ℕ
bin_bytes s = block_bytes (free_granules s bin_count 0 0)

unfoldable pub queue_bytes : Still → ℕ
queue_bytes s = block_bytes (linked_queued s s.key.span (link_of (load s Word.Queue)) 0)

unfoldable pub cached_bytes : Still → ℕ
cached_bytes s = block_bytes (cached_granules s cache_counts 0 0)
