-- A pool that is read while nobody steps.
use Rattle.std.specs.Prelude.{ℕ, List, slice_get, Option, Some, None}
use Rattle.heap_slabs.specs.declared.records.HeapSlab.{HeapSlab}
use Rattle.heap_slabs.specs.Slabs.{record_at}
use Rattle.pool_words.specs.declared.words.Key.{Key}
use Rattle.pool_words.specs.declared.words.Word.{Word}
use Rattle.pool_words.specs.Actions.{value}
use Rattle.step_local.specs.declared.frames.Local.{Local}
use Rattle.word_totals.specs.declared.middle.Amid.{Amid}
use Rattle.word_totals.specs.Middle.{amid}

-- what the pool was made with, its words, and its seats, each at its number
pub record Still : Type 0 where
  pub key : Key
  pub words : List ℕ
  pub locals : List Local

-- the value of a word, and 0 where there is no such word
unfoldable pub load : Still → Word → ℕ
load s word = value s.key s.words word

abbrev pub record_by : Option Local → ℕ → Option HeapSlab
record_by (Some local) slab = record_at local.heap.slabs.records slab
record_by None slab = None

-- the record of a slab, if this seat keeps it
unfoldable pub record_of : Still → ℕ → ℕ → Option HeapSlab
record_of s seat slab = record_by (slice_get s.locals seat) slab

abbrev pub amid_by : Option Local → Amid
amid_by (Some local) = amid local
amid_by None = Amid.Nothing

-- what this seat has begun and not ended
unfoldable pub amid_of : Still → ℕ → Amid
amid_of s seat = amid_by (slice_get s.locals seat)
