-- The objects that are held, slab by slab.
use Prim.Native.Nat.{zero, suc}
use Rattle.std.proofs.Common.{◌≡◌, ℕ, ◌+◌, ◌-◌, ◌*◌, ◌<◌, ◌≤◌, ◌==◌, List, [], ◌∷◌, ◌++◌, length, drop, Some, None, refl, sym, ap, ◌∙◌, arith, append_assoc, slice_get}
use Rattle.std.specs.Prelude.{find, slice_index_or}
use Rattle.std.specs.declared.option.Option.{Option}
use Rattle.pool_types.specs.declared.values.Leak.{Leak}
use Rattle.size_classes.specs.Classes.{class_size, class_objects}
use Rattle.plain_lists.specs.Lists.{OwnSlab}
use Rattle.plain_lists.specs.Whole.{spot_in, spot_of, object_of, place_at, grant_of}
use Rattle.plain_lists.proofs.Rooms.{Some-same}
use Rattle.std.proofs.lemmas.List.{get_or_default}
use Rattle.plain_pool.proofs.SlabCalls.{read_mark}
use Rattle.plain_lists.specs.Held.{leak_at, leaks_of, slab_leaks, leaks_from}
use Rattle.index_lists.specs.Lists.{Lists as IndexedLists}
use Rattle.slab_core.specs.declared.SlabRec.{SlabRec}
use Rattle.plain_pool.specs.declared.marks.Mark.{Mark}
use Rattle.plain_pool.specs.Held.{number_held}
use Rattle.plain_pool.specs.Marks.{number_in}
use Rattle.plain_pool.specs.Slabs.{SlabsFit, AreKept, IsIn, record_of, record_in, slab_in, mark_at, unit_at, number_of}
use Rattle.plain_pool.proofs.SlabLemmas.{slab_found, unit_room, unit_below, unit_within, object_of-offset, number_at, flat}

-- the mark of an object that was handed out says whether it is held
pub object_mark : (rooms : List (Option SlabRec)) (classes : IndexedLists) (marks : List Mark) (slabs : List OwnSlab) (room : ℕ) (slab : OwnSlab) (object : ℕ) → SlabsFit rooms classes marks slabs → AreKept slabs → IsIn room slab slabs → object < length slab.objects
    → number_in (mark_at marks (unit_at (2 * room) slab.class object)) ≡ flat (slice_get slab.objects object)
object_mark rooms classes marks slabs room slab object fit kept is below =
    let few = (kept.each slab is.member).few in
    let exists : object < class_objects slab.class = omega (arith, below, few) in
    let inside = kept.placed.inside slab is.member in
    let at = is.at_room in
    fit.numbers (unit_at (2 * room) slab.class object) (unit_below room slab.class object (omega (arith, inside, at)) exists)
    ∙ ap (λ r. number_of (spot_in (8 * unit_at (2 * room) slab.class object) (slab_in r slabs))) (unit_room room slab.class object exists)
    ∙ ap (λ o. number_of (spot_in (8 * unit_at (2 * room) slab.class object) o)) (slab_found slabs kept.placed room slab is)
    ∙ ap (λ n. number_of (spot_of slab (object_of slab.class (8 * unit_at (2 * room) slab.class object - 8192 * n)))) at
    ∙ ap (λ n. number_of (spot_of slab (object_of slab.class n))) (unit_within room slab.class object exists)
    ∙ ap (λ o. number_of (spot_of slab o)) (object_of-offset slab.class object exists)
    ∙ number_at slab object (slice_get slab.objects object)

-- what an object adds, where its mark names a number and where it names none
pub adds_some : (slab : OwnSlab) (object number : ℕ) (held : Option (Option ℕ)) (old new : List Leak) → Some number ≡ flat held → new ≡ old ++ leak_at slab object (Some number) → new ≡ old ++ leak_at slab object (number_held held)
adds_some slab object number (Some held) old new e is = is ∙ ap (λ h. old ++ leak_at slab object h) e
adds_some slab object number None old new e is = absurd (let none = e in cc)

pub adds_none : (slab : OwnSlab) (object : ℕ) (held : Option (Option ℕ)) (old : List Leak) → None ≡ flat held → old ≡ old ++ leak_at slab object (number_held held)
adds_none slab object (Some held) old e = sym (append-nil old) ∙ ap (λ h. old ++ leak_at slab object h) e
  where
    append-nil : (xs : List Leak) → xs ++ [] ≡ xs
    append-nil [] = refl
    append-nil (x ∷ xs) = ap (λ ys. x ∷ ys) (append-nil xs)
adds_none slab object None old e = sym (append-nil old)
  where
    append-nil : (xs : List Leak) → xs ++ [] ≡ xs
    append-nil [] = refl
    append-nil (x ∷ xs) = ap (λ ys. x ∷ ys) (append-nil xs)

-- the objects from one on, and those from the one before on
pub leaks_step : (slab : OwnSlab) (objects : List (Option ℕ)) (k : ℕ) → k < length objects → leaks_of slab (k + 1) (drop (k + 1) objects) ++ leak_at slab k (number_held (slice_get objects k)) ≡ leaks_of slab k (drop k objects)
leaks_step slab objects k below = go objects k k below
  where
    go : (xs : List (Option ℕ)) (i n : ℕ) → i < length xs → leaks_of slab (n + 1) (drop (i + 1) xs) ++ leak_at slab n (number_held (slice_get xs i)) ≡ leaks_of slab n (drop i xs)
    go [] i n below = absurd (omega arith)
    go (x ∷ xs) zero n below = refl
    go (x ∷ xs) (suc i) n below =
        let next : suc i + 1 ≡ suc (i + 1) = omega arith in
        ap (λ m. leaks_of slab (n + 1) (drop m (x ∷ xs)) ++ leak_at slab n (number_held (slice_get xs i))) next ∙ go xs i n (omega (arith, below))

-- all were added
pub leaks_goes_on : (slab : OwnSlab) (old before new : List Leak) (done object : ℕ) → done < length slab.objects → object ≡ length slab.objects - 1 - done → before ≡ old ++ leaks_of slab (length slab.objects - done) (drop (length slab.objects - done) slab.objects)
    → new ≡ before ++ leak_at slab object (number_held (slice_get slab.objects object)) → new ≡ old ++ leaks_of slab (length slab.objects - (done + 1)) (drop (length slab.objects - (done + 1)) slab.objects)
leaks_goes_on slab old before new done object below at is adds =
    let k : object ≡ length slab.objects - (done + 1) = omega (arith, at) in
    let next : length slab.objects - done ≡ object + 1 = omega (arith, at, below) in
    adds ∙ ap (λ xs. xs ++ leak_at slab object (number_held (slice_get slab.objects object))) (is ∙ ap (λ n. old ++ leaks_of slab n (drop n slab.objects)) next)
    ∙ append_assoc old (leaks_of slab (object + 1) (drop (object + 1) slab.objects)) (leak_at slab object (number_held (slice_get slab.objects object)))
    ∙ ap (λ xs. old ++ xs) (leaks_step slab slab.objects object (omega (arith, at, below)))
    ∙ ap (λ n. old ++ leaks_of slab n (drop n slab.objects)) k

pub leaks_end : (slab : OwnSlab) (old new : List Leak) (done : ℕ) → length slab.objects ≤ done → new ≡ old ++ leaks_of slab (length slab.objects - done) (drop (length slab.objects - done) slab.objects) → new ≡ old ++ leaks_of slab 0 slab.objects
leaks_end slab old new done past is = let none : length slab.objects - done ≡ 0 = omega (arith, past) in is ∙ ap (λ n. old ++ leaks_of slab n (drop n slab.objects)) none

-- room by room
pub leaks_room : (rooms index : ℕ) (slabs : List OwnSlab) → leaks_from (suc rooms) index slabs ≡ slab_leaks (find (λ slab. slab.index == index) slabs) ++ leaks_from rooms (index + 2) slabs
unfolding leaks_from
leaks_room rooms index slabs = refl

pub leaks_last : (index : ℕ) (slabs : List OwnSlab) → leaks_from 0 index slabs ≡ []
unfolding leaks_from
leaks_last index slabs = refl

pub rooms_goes_on : (slabs : List OwnSlab) (room : ℕ) (old new whole' : List Leak) → room < 64 → old ++ leaks_from (64 - room) (2 * room) slabs ≡ whole' → new ≡ old ++ slab_leaks (slab_in room slabs) → new ++ leaks_from (64 - (room + 1)) (2 * (room + 1)) slabs ≡ whole'
rooms_goes_on slabs room old new whole' below is adds =
    let next : 64 - room ≡ suc (64 - (room + 1)) = omega (arith, below) in
    let index : 2 * (room + 1) ≡ 2 * room + 2 = omega arith in
    ap (λ xs. xs ++ leaks_from (64 - (room + 1)) (2 * (room + 1)) slabs) adds
    ∙ append_assoc old (slab_leaks (slab_in room slabs)) (leaks_from (64 - (room + 1)) (2 * (room + 1)) slabs)
    ∙ ap (λ n. old ++ (slab_leaks (slab_in room slabs) ++ leaks_from (64 - (room + 1)) n slabs)) index
    ∙ sym (ap (λ xs. old ++ xs) (ap (λ n. leaks_from n (2 * room) slabs) next ∙ leaks_room (64 - (room + 1)) (2 * room) slabs))
    ∙ is

pub rooms_end : (slabs : List OwnSlab) (room : ℕ) (old whole' : List Leak) → 64 ≤ room → old ++ leaks_from (64 - room) (2 * room) slabs ≡ whole' → old ≡ whole'
rooms_end slabs room old whole' past is =
    let none : 64 - room ≡ 0 = omega (arith, past) in
    sym (append-nil old) ∙ ap (λ xs. old ++ xs) (sym (ap (λ n. leaks_from n (2 * room) slabs) none ∙ leaks_last (2 * room) slabs)) ∙ is
  where
    append-nil : (xs : List Leak) → xs ++ [] ≡ xs
    append-nil [] = refl
    append-nil (x ∷ xs) = ap (λ ys. x ∷ ys) (append-nil xs)

-- the slab whose record is in a room
pub record RoomSlab (slabs : List OwnSlab) (room : ℕ) (slab : SlabRec) : Type 0 where
  pub own : OwnSlab
  pub found : slab_in room slabs ≡ Some own
  pub same : slab ≡ record_of own

pub room_slab : (rooms : List (Option SlabRec)) (classes : IndexedLists) (marks : List Mark) (slabs : List OwnSlab) (room : ℕ) (x : Option SlabRec) (slab : SlabRec) → SlabsFit rooms classes marks slabs → room < 64 → x ≡ slice_index_or rooms room x → x ≡ Some slab → RoomSlab slabs room slab
room_slab rooms classes marks slabs room x slab fit below read is =
    go (slab_in room slabs) refl (sym is ∙ read ∙ get_or_default rooms room x None (omega (arith, below, fit.rooms_long)) ∙ fit.recorded room)
  where
    go : (o : Option OwnSlab) → slab_in room slabs ≡ o → Some slab ≡ record_in (slab_in room slabs) → RoomSlab slabs room slab
    go None e f = absurd (let none : ◌≡◌ {A = Option SlabRec} (Some slab) None = f ∙ ap record_in e in cc)
    go (Some own) e f = record { own = own; found = e; same = Some-same slab (record_of own) (f ∙ ap record_in e) }

-- what the mark that was read says
pub read_number : (rooms : List (Option SlabRec)) (classes : IndexedLists) (marks : List Mark) (slabs : List OwnSlab) (room : ℕ) (slab : OwnSlab) (object class unit : ℕ) (mark : Mark) → SlabsFit rooms classes marks slabs → AreKept slabs → IsIn room slab slabs → object < length slab.objects
    → class ≡ slab.class → unit < 131072 → unit ≡ unit_at (2 * room) class object → mark ≡ slice_index_or marks unit mark → number_in mark ≡ flat (slice_get slab.objects object)
read_number rooms classes marks slabs room slab object class unit mark fit kept is below same inside at read =
    ap number_in (read_mark marks unit mark fit.marks_long inside read) ∙ ap (λ u. number_in (mark_at marks u)) (at ∙ ap (λ k. unit_at (2 * room) k object) same)
    ∙ object_mark rooms classes marks slabs room slab object fit kept is below

pub leak_same : (room class object number : ℕ) (slab : OwnSlab) → class ≡ slab.class → slab.index ≡ 2 * room
    → ◌≡◌ {A = List Leak} ((let leak : Leak = record { place = place_at (2 * room) class object; usable = class_size class; grant = grant_of number } in leak) ∷ []) (leak_at slab object (Some number))
leak_same room class object number slab same at =
    ap (λ k. (let leak : Leak = record { place = place_at (2 * room) k object; usable = class_size k; grant = grant_of number } in leak) ∷ []) same
    ∙ ap (λ n. (let leak : Leak = record { place = place_at n slab.class object; usable = class_size slab.class; grant = grant_of number } in leak) ∷ []) (sym at)
