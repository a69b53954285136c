-- Lists that words link, walked by so many links at most.
use Rattle.std.specs.Prelude.{ℕ, zero, suc, ◌+◌, List, [], ◌∷◌, ◌++◌, Option, Some, None}
use Rattle.pool_types.specs.Sums.{capped}
use Rattle.pool_words.specs.declared.words.Word.{Word}
use Rattle.word_codes.specs.Links.{link_of}
use Rattle.word_codes.specs.Marks.{mark_of}
use Rattle.word_codes.specs.QueueLinks.{queue_link_of}
use Rattle.step_local.specs.Slabs.{below_in}
use Rattle.word_totals.specs.Reading.{Still, load}

-- how many objects are linked, from this one on
unfoldable pub linked_objects : Still → ℕ → Option ℕ → ℕ → ℕ
linked_objects s zero first count = count
linked_objects s (suc left) None count = count
linked_objects s (suc left) (Some unit) count =
    linked_objects s left (below_in (mark_of (load s (Word.Mark unit)))) (capped (count + 1))

-- what stands behind a block in its cache bin
unfoldable pub cached_next : Still → ℕ → Option ℕ
cached_next s block = link_of (load s (Word.CacheLink block))

-- how many blocks of a cache bin are linked, from this one on
unfoldable pub linked_cached : Still → ℕ → Option ℕ → ℕ → ℕ
linked_cached s zero first count = count
linked_cached s (suc left) None count = count
linked_cached s (suc left) (Some block) count =
    linked_cached s left (cached_next s block) (capped (count + 1))

-- what stands behind a block in the queue, and how many granules it has
unfoldable pub queued_next : Still → ℕ → Option ℕ
queued_next s block = (queue_link_of (load s (Word.QueueLink block))).next

unfoldable pub queued_length : Still → ℕ → ℕ
queued_length s block = (queue_link_of (load s (Word.QueueLink block))).granules

-- the granules of the blocks that are linked in the queue, from this one on
unfoldable pub linked_queued : Still → ℕ → Option ℕ → ℕ → ℕ
linked_queued s zero first sum = sum
linked_queued s (suc left) None sum = sum
linked_queued s (suc left) (Some block) sum =
    linked_queued s left (queued_next s block) (capped (sum + queued_length s block))

-- these ages, and those of the blocks of a cache bin that are linked, from this one on
unfoldable pub linked_ages : Still → ℕ → Option ℕ → List ℕ → List ℕ
linked_ages s zero first ages = ages
linked_ages s (suc left) None ages = ages
linked_ages s (suc left) (Some block) ages =
    linked_ages s left (cached_next s block) (ages ++ load s (Word.CacheAge block) ∷ [])
