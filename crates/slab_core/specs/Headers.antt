-- The word that holds a slab's record beside its class and index: 11 bits each for how many objects were handed out, how many
-- are held, and the head.
use Rattle.std.specs.Prelude.{◌≡◌, ℕ, suc, zero, ◌+◌, ◌*◌, ◌/◌, ◌%◌, Option, Some, None}
use Rattle.slab_core.specs.declared.SlabRec.{SlabRec}
use Rattle.slab_core.specs.Slabs.{IsValid}

-- what one object that is held counts for in the word, and what one of the head's number does
abbrev pub count_unit : ℕ
count_unit = 2048

abbrev pub head_unit : ℕ
head_unit = count_unit * count_unit

-- the head as a number: the object's plus 1, and 0 where there is none
abbrev pub head_word : Option ℕ → ℕ
head_word (Some object) = object + 1
head_word None = 0

-- the header of a record
unfoldable pub to_header : SlabRec → ℕ
to_header slab = slab.handed + count_unit * slab.count + head_unit * head_word slab.head

-- the word is the header of this record, which is a valid one of this class
pub record IsHeaderOf (class word : ℕ) (slab : SlabRec) : Type 0 where
  pub valid : IsValid slab
  pub of_class : slab.class ≡ class
  pub packed : to_header slab ≡ word

-- a valid record is the only one with its header, of those with its class and index
abbrev pub HeadersTellRecords : Type 0
HeadersTellRecords = (slab other : SlabRec) → IsValid slab → IsValid other → slab.class ≡ other.class
    → slab.index ≡ other.index →
    to_header slab ≡ to_header other → slab ≡ other

-- the object that such a number stands for
abbrev pub object_in : ℕ → Option ℕ
object_in zero = None
object_in (suc object) = Some object

-- the record that a word's three numbers make
unfoldable pub record_in : ℕ → ℕ → ℕ → SlabRec
record_in class index word = record {
  class = class;
  index = index;
  handed = word % count_unit;
  head = object_in (word / head_unit % count_unit);
  count = word / count_unit % count_unit;
}
