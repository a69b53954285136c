-- A heap's record of a slab agrees with the record of `slab_core`.
use Rattle.std.proofs.Common.{◌≡◌, ℕ, ◌+◌, ◌-◌, ◌*◌, ◌/◌, ◌%◌, ◌^◌, ◌<◌, ◌≤◌, zero, suc, inl, inr, Option, Some, None}
use Rattle.std.proofs.Common.{refl, ap, arith, ◌∙◌}
use Rattle.std.proofs.Math.Nat.{mul-div_cancel}
use Rattle.std.proofs.lemmas.Bool.Decides.{nat_tests}
use Rattle.std.proofs.lemmas.Bool.{cases_lt}
use Rattle.size_classes.specs.Classes.{class_size, class_objects}
use Rattle.size_classes.specs.Layout.{object_offset}
use Rattle.size_classes.proofs.CallerLemmas.{objects-room}
use Rattle.size_classes.proofs.CallerLemmas.{class_size-eights}
use Rattle.slab_core.specs.declared.SlabRec.{SlabRec}
use Rattle.slab_core.specs.Slabs.{IsNewest, IsUsedUp}
use Rattle.slab_core.specs.Headers.{to_header as slab_to_header, head_word, object_in, record_in}
use Rattle.slab_core.proofs.CallerLemmas.{HasRoom, has_room, record_in-header}
use Rattle.heap_slabs.specs.declared.records.HeapSlab.{HeapSlab}
use Rattle.pool_types.specs.Sums.{capped}
use Rattle.heap_slabs.specs.Records.{slab_start, unit_of, objects_from, head_field, head_in, to_header}
use Rattle.heap_slabs.specs.Records.{of_header}
use Rattle.heap_slabs.specs.Laws.{unit_if, heap_slab, IsSlab, UnitsAreOffsets, TakesOne, TakesNone, TakesAsSlab}
use Rattle.heap_slabs.specs.Laws.{TakesAsSlabs, HeadersAreSlabs}

capped-is : (n : ℕ) → n < 2 ^ 64 → capped n ≡ n
capped-is n l = omega arith

pub units_are_offsets : UnitsAreOffsets
unfolding unit_of
units_are_offsets slab class object few =
    let start : slab_start slab ≡ slab * 1024 = capped-is (slab * 1024) (omega arith) in
    let within : object_offset class object / 8 ≤ 2048 = omega arith in
    capped-is (slab_start slab + object_offset class object / 8) (omega arith)
    ∙ ap (λ n. n + object_offset class object / 8) start

-- taking
counted : (s : SlabRec) → IsSlab s → (s.count < 2048) × (s.handed < 2048)
counted s is = let room = has_room s is.valid in (room.count_below, room.handed_below)

takes_private : (index class handed count object : ℕ) (below : Option ℕ) → count < 2048
    → TakesOne (record { class = class; index = index; handed = handed; head = Some object; count = count }) below
takes_private index class handed count object below few = record {
  object = refl;
  left = ap (λ n. let s : HeapSlab = record {
    slab = index;
    class = class;
    handed = handed;
    count = n;
    head = unit_if index class below;
  } in s) (capped-is (count + 1) (omega arith));
}

takes_rest : (index class handed count : ℕ) (below : Option ℕ) → count < 2048 → handed < 2048
    → handed < class_objects class
    → TakesOne (record { class = class; index = index; handed = handed; head = None; count = count }) below
takes_rest index class handed count below few fewer left = record {
  object = grind (arith, nat_tests);
  left =
      let more = capped-is (count + 1) (omega arith) in
      let next = capped-is (handed + 1) (omega arith) in
      grind (arith, nat_tests);
}

takes_none : (index class handed count : ℕ) (below : Option ℕ) → class_objects class ≤ handed
    → TakesNone (record { class = class; index = index; handed = handed; head = None; count = count }) below
takes_none index class handed count below past = record {
  object = grind (arith, nat_tests);
  left = grind (arith, nat_tests);
}

takes_by : (index class handed count : ℕ) (head below : Option ℕ) → count < 2048 → handed < 2048
    → TakesAsSlab (record { class = class; index = index; handed = handed; head = head; count = count }) below
takes_by index class handed count (Some object) below few fewer = record {
  some = λ _. takes_private index class handed count object below few;
  none = λ used. absurd (let none = used.private in cc);
}
takes_by index class handed count None below few fewer = record {
  some = λ unused. takes_rest index class handed count below few fewer (left unused);
  none = λ used. takes_none index class handed count below used.rest;
}
  where
    left : (IsUsedUp (record { class = class; index = index; handed = handed; head = None; count = count }) → ⊥)
        → handed < class_objects class
    left unused = elim (cases_lt handed (class_objects class)) [
      | inl l ↦ l
      | inr past ↦ absurd (unused (record { private = refl; rest = past }))
    ]

pub takes_as_slabs : TakesAsSlabs
takes_as_slabs s below is = let few = counted s is in
    takes_by s.index s.class s.handed s.count s.head below few.0 few.1

-- the object that begins at a unit
eighths : (n k : ℕ) → n * (8 * k) ≡ 8 * (n * k)
eighths n k = grind arith

room_of : (object size : ℕ) → 0 < size → (object + 1) * size ≤ 16256 → object < 16256
room_of object size some room = grind arith

no_objects : (class : ℕ) → class_size class ≡ 0 → class_objects class ≡ 0
unfolding class_objects
no_objects class z = ap (λ n. 16256 / n) z

from_unit : (index class object : ℕ) → index < 2 ^ 32 → object < class_objects class
    → objects_from index class (unit_of index class object) ≡ object + 1
unfolding objects_from
from_unit index class object few below =
    let unit = units_are_offsets index class object few in
    let start : slab_start index ≡ index * 1024 = capped-is (index * 1024) (omega arith) in
    let room = objects-room class object below in
    let eights = class_size-eights class in
    let bytes : (object + 1) * class_size class ≡ 8 * ((object + 1) * (class_size class / 8)) =
    ap (λ n. (object + 1) * n) eights ∙ eighths (object + 1) (class_size class / 8) in
    let within : unit_of index class object - slab_start index ≡ object_offset class object / 8 = omega arith in
    let behind : 2048 - (unit_of index class object - slab_start index) ≡ (object + 1) * (class_size class / 8) =
    omega arith in
    ap (λ n. n / (class_size class / 8)) behind ∙ mul-div_cancel (object + 1) some
  where
    empty : class_size class ≡ 0 → ⊥
    empty z = let none : class_objects class ≡ 0 = no_objects class z in omega arith

    some : 0 < class_size class / 8
    some = elim (cases_lt 0 (class_size class / 8)) [
      | inl l ↦ l
      | inr none ↦ absurd (empty (let e : class_size class / 8 ≡ 0 =
          omega arith in let z : class_size class ≡ 0 = omega (arith, class_size-eights class) in z))
    ]

field_is : (index class : ℕ) (head : Option ℕ) (count handed : ℕ) → index < 2 ^ 32 → handed ≤ class_objects class
    → IsNewest head count handed
    → head_field index class (unit_if index class head) ≡ head_word head
field_is index class (Some object) count handed few most (below, fewer) =
    from_unit index class object few (omega arith)
field_is index class None count handed few most all = refl

head_in-object_in : (index class field : ℕ) → head_in index class field ≡ unit_if index class (object_in field)
head_in-object_in index class zero = refl
head_in-object_in index class (suc object) = refl

packed : (handed count field head : ℕ) → HasRoom handed count head → field ≡ head
    → handed % 2048 + 2048 * (count % 2048) + 4194304 * (field % 2048) ≡ handed + 2048 * count + 4194304 * head
packed handed count field head room is =
    let a = room.handed_below in let b = room.count_below in let d = room.head_below in omega arith

packed_as : (s : SlabRec) → IsSlab s → to_header (heap_slab s) ≡ slab_to_header s
unfolding to_header slab_to_header
packed_as s is =
    packed s.handed s.count (head_field s.index s.class (unit_if s.index s.class s.head)) (head_word s.head) (has_room
    s is.valid)
    (field_is s.index s.class s.head s.count s.handed is.few is.valid.handed is.valid.head)

read_as : (index class word : ℕ) → of_header index class word ≡ heap_slab (record_in class index word)
unfolding of_header record_in
read_as index class word = ap (λ h. let r : HeapSlab = record {
  slab = index;
  class = class;
  handed = word % 2048;
  count = word / 2048 % 2048;
  head = h;
} in r)
    (head_in-object_in index class (word / 4194304 % 2048))

back_as : (s : SlabRec) → IsSlab s → of_header s.index s.class (slab_to_header s) ≡ heap_slab s
back_as s is = read_as s.index s.class (slab_to_header s)
    ∙ ap heap_slab (record_in-header s.class s.index (slab_to_header s) s (record {
      valid = is.valid;
      of_class = refl;
      packed = refl;
    }))

pub headers_are_slabs : HeadersAreSlabs
headers_are_slabs s is = record { header = packed_as s is; back = back_as s is }
