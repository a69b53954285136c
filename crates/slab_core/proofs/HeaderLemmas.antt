-- A header's three numbers, and the record that they make.
use Rattle.std.proofs.Common.{◌≡◌, ℕ, ◌+◌, ◌*◌, ◌/◌, ◌%◌, ◌<◌, ◌≤◌, zero, suc, Option, Some, None, arith, refl, sym, ap, subst, ◌∙◌, bit_and, bit_or}
use Rattle.std.proofs.lemmas.Nat.{and_mask}
use Rattle.std.proofs.lemmas.Grind.{or_before_shift}
use Rattle.size_classes.proofs.CallerLemmas.{class_objects-most}
use Rattle.slab_core.specs.declared.SlabRec.{SlabRec}
use Rattle.slab_core.specs.Slabs.{IsValid, IsNewest}
use Rattle.slab_core.specs.Headers.{to_header, head_word, object_in, record_in, IsHeaderOf, HeadersTellRecords}

-- the head's number plus 1 is at most how many objects were handed out
pub head_word-most : (head : Option ℕ) (count handed : ℕ) → IsNewest head count handed → head_word head ≤ handed
head_word-most (Some object) count handed (below, fewer) = omega arith
head_word-most None count handed all = omega arith

-- each of the three numbers has room in 11 bits
pub record HasRoom (handed count head : ℕ) : Type 0 where
  pub handed_below : handed < 2048
  pub count_below : count < 2048
  pub head_below : head < 2048

pub has_room : (slab : SlabRec) → IsValid slab → HasRoom slab.handed slab.count (head_word slab.head)
has_room slab valid = record {
  handed_below = omega (arith, class_objects-most slab.class);
  count_below = omega (arith, class_objects-most slab.class);
  head_below = omega (arith, class_objects-most slab.class, head_word-most slab.head slab.count slab.handed valid.head);
}

-- the three numbers of a word that holds them
first_of_three : (handed count head : ℕ) → HasRoom handed count head → (handed + 2048 * count + 4194304 * head) % 2048 ≡ handed
first_of_three handed count head room = omega arith

second_of_three : (handed count head : ℕ) → HasRoom handed count head → (handed + 2048 * count + 4194304 * head) / 2048 % 2048 ≡ count
second_of_three handed count head room = omega arith

third_of_three : (handed count head : ℕ) → HasRoom handed count head → (handed + 2048 * count + 4194304 * head) / 4194304 % 2048 ≡ head
third_of_three handed count head room = omega arith

nothing_above : (handed count head : ℕ) → HasRoom handed count head → (handed + 2048 * count + 4194304 * head) / 8589934592 ≡ 0
nothing_above handed count head room = omega arith

-- a word without higher bits is made of its three numbers
made_of_three : (word : ℕ) → word / 8589934592 ≡ 0 → word % 2048 + 2048 * (word / 2048 % 2048) + 4194304 * (word / 4194304 % 2048) ≡ word
made_of_three word none = omega arith

-- the object that a number stands for, and its number
object_in-head_word : (head : Option ℕ) → object_in (head_word head) ≡ head
object_in-head_word (Some object) = ap object_in (let next : object + 1 ≡ suc object = omega arith in next)
object_in-head_word None = refl

head_word-object_in : (field : ℕ) → head_word (object_in field) ≡ field
head_word-object_in zero = refl
head_word-object_in (suc object) = omega arith

-- what the shifts of the three numbers into one word make
pub packed_by_shifts : (slab : SlabRec) → IsValid slab →
    bit_or (bit_or slab.handed (slab.count * 2048 % 18446744073709551616)) (head_word slab.head * 4194304 % 18446744073709551616) ≡ to_header slab
unfolding to_header
packed_by_shifts slab valid =
    let room : HasRoom slab.handed slab.count (head_word slab.head) = has_room slab valid in
    rw (or_before_shift slab.handed slab.count 2048 18446744073709551616 refl room.handed_below (omega arith))
    (or_before_shift (slab.count * 2048 + slab.handed) (head_word slab.head) 4194304 18446744073709551616 refl (omega arith) (omega arith) ∙ omega arith)

-- what the shifts and masks of a word make
pub unpacked_by_shifts : (class index word : ℕ) (head : Option ℕ) → head ≡ object_in (bit_and (word / 4194304) 2047) →
    ◌≡◌ {A = SlabRec} (record { class = class; index = index; handed = bit_and word 2047; head = head; count = bit_and (word / 2048) 2047 }) (record_in class index word)
unfolding record_in
unpacked_by_shifts class index word head is =
    let first : bit_and word 2047 ≡ word % 2048 = and_mask word 11 in
    let second : bit_and (word / 2048) 2047 ≡ word / 2048 % 2048 = and_mask (word / 2048) 11 in
    let third : bit_and (word / 4194304) 2047 ≡ word / 4194304 % 2048 = and_mask (word / 4194304) 11 in
    let object : head ≡ object_in (word / 4194304 % 2048) = is ∙ ap object_in third in
    cc

-- the record that a word makes, by its class and index
pub record_in-class : (class index word : ℕ) → (record_in class index word).class ≡ class
unfolding record_in
record_in-class class index word = refl

pub record_in-index : (class index word : ℕ) → (record_in class index word).index ≡ index
unfolding record_in
record_in-index class index word = refl

-- its header is the word again, where that has no higher bits
pub packed_again : (class index word : ℕ) → word / 8589934592 ≡ 0 → to_header (record_in class index word) ≡ word
unfolding to_header record_in
packed_again class index word none = rw (head_word-object_in (word / 4194304 % 2048)) (made_of_three word none)

-- so it is a header where the record is valid
pub is_header : (class index word : ℕ) → word / 8589934592 ≡ 0 → IsValid (record_in class index word) → IsHeaderOf class word (record_in class index word)
is_header class index word none valid = record {
  valid = valid;
  of_class = record_in-class class index word;
  packed = packed_again class index word none;
}

-- the header of a valid record has no higher bits
pub header-above : (class word : ℕ) (slab : SlabRec) → IsHeaderOf class word slab → word / 8589934592 ≡ 0
unfolding to_header
header-above class word slab is = ap (λ w. w / 8589934592) (sym is.packed) ∙ nothing_above slab.handed slab.count (head_word slab.head) (has_room slab is.valid)

-- and makes that record again
pub record_in-header : (class index word : ℕ) (slab : SlabRec) → IsHeaderOf class word slab → record_in class index word ≡ record slab { index = index }
unfolding to_header record_in
record_in-header class index word slab is =
    let room : HasRoom slab.handed slab.count (head_word slab.head) = has_room slab is.valid in
    let of_class : class ≡ slab.class = sym is.of_class in
    let first : word % 2048 ≡ slab.handed = ap (λ w. w % 2048) (sym is.packed) ∙ first_of_three slab.handed slab.count (head_word slab.head) room in
    let second : word / 2048 % 2048 ≡ slab.count = ap (λ w. w / 2048 % 2048) (sym is.packed) ∙ second_of_three slab.handed slab.count (head_word slab.head) room in
    let third : word / 4194304 % 2048 ≡ head_word slab.head = ap (λ w. w / 4194304 % 2048) (sym is.packed) ∙ third_of_three slab.handed slab.count (head_word slab.head) room in
    let object : object_in (word / 4194304 % 2048) ≡ slab.head = ap object_in third ∙ object_in-head_word slab.head in
    cc

-- a record of another index is valid too
valid-index : (slab : SlabRec) (index : ℕ) → IsValid slab → IsValid (record slab { index = index })
valid-index slab index valid = record { count = valid.count; handed = valid.handed; head = valid.head }

-- what a header makes is valid
pub record_in-valid : (class index word : ℕ) (slab : SlabRec) → IsHeaderOf class word slab → IsValid (record_in class index word)
record_in-valid class index word slab is = subst IsValid (sym (record_in-header class index word slab is)) (valid-index slab index is.valid)

pub headers_tell_records : HeadersTellRecords
headers_tell_records slab other valid valid_other class index same =
    let first : record_in slab.class slab.index (to_header slab) ≡ slab = record_in-header slab.class slab.index (to_header slab) slab (record { valid = valid; of_class = refl; packed = refl }) in
    let second : record_in slab.class slab.index (to_header slab) ≡ record other { index = slab.index } =
    record_in-header slab.class slab.index (to_header slab) other (record { valid = valid_other; of_class = sym class; packed = sym same }) in
    let third : record other { index = slab.index } ≡ other = ap (λ i. record other { index = i }) index in
    sym first ∙ (second ∙ third)
