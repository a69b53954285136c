-- A list of bounded length keeps its room.
use Rattle.std.proofs.Common.{◌≡◌, ℕ, ◌+◌, ◌-◌, ◌<◌, ◌≤◌, Bool, true, false, cond, ltb, List, [], ◌∷◌, ◌++◌, length}
use Rattle.std.proofs.Common.{None, slice_get, refl, arith}
use Rattle.std.proofs.Common.{length-append, length-drop}
use Rattle.std.proofs.lemmas.Bool.Decides.{nat_tests}
use Rattle.std.proofs.lemmas.List.{length-take}
use Rattle.std.proofs.lemmas.Option.{slice_get-get_or}
use Rattle.heap_slabs.specs.Rolls.{Rolled, after_push, empty_roll, newest_of, oldest_of, without_newest}
use Rattle.heap_slabs.specs.Rolls.{without_oldest}
use Rattle.step_fits.specs.Frames.{HasRoom}

pub empty-room : (room : ℕ) → HasRoom room (empty_roll room)
empty-room room = record { room' = refl; few = omega arith }

pub push-length : (r : Rolled ℕ) (item : ℕ) → length r.items < r.room
    → length (after_push r item).items ≡ length r.items + 1
push-length r item low = by (ltb (length r.items) r.room) refl
  where
    by : (b : Bool) → ltb (length r.items) r.room ≡ b
        → length (cond b (record r { items = r.items ++ item ∷ [] }) r).items ≡ length r.items + 1
    by true is = let more = length-append r.items (item ∷ []) in omega arith
    by false is = absurd (grind (arith, nat_tests))

pub push-room : (room : ℕ) (r : Rolled ℕ) (item : ℕ) → HasRoom room r → HasRoom room (after_push r item)
push-room room r item has = by (ltb (length r.items) r.room) refl
  where
    by : (b : Bool) → ltb (length r.items) r.room ≡ b
        → HasRoom room (cond b (record r { items = r.items ++ item ∷ [] }) r)
    by true is = record {
      room' = has.room';
      few =
          let low : length r.items < r.room = grind (arith, nat_tests) in
          let more = length-append r.items (item ∷ []) in
          let same = has.room' in
          omega arith;
    }
    by false is = has

pub newest-length : (r : Rolled ℕ) → length (without_newest r).items ≤ length r.items
newest-length r = let taken = length-take (length r.items - 1) r.items in omega arith

pub newest-room : (room : ℕ) (r : Rolled ℕ) → HasRoom room r → HasRoom room (without_newest r)
newest-room room r has = record {
  room' = has.room';
  few = let few = has.few in let fewer = newest-length r in omega arith;
}

pub oldest-length : (r : Rolled ℕ) → length (without_oldest r).items ≡ length r.items - 1
oldest-length r = length-drop 1 r.items

pub oldest-room : (room : ℕ) (r : Rolled ℕ) → HasRoom room r → HasRoom room (without_oldest r)
oldest-room room r has = record {
  room' = has.room';
  few = let few = has.few in let fewer = oldest-length r in omega arith;
}

pub none-room : (room : ℕ) (r : Rolled ℕ) → HasRoom room r → HasRoom room (record r { items = [] })
none-room room r has = record { room' = has.room'; few = omega arith }

-- a list without an oldest item is empty
pub oldest-none : (r : Rolled ℕ) → oldest_of r ≡ None → length r.items ≡ 0
oldest-none r is = by r.items is
  where
    by : (items : List ℕ) → slice_get items 0 ≡ None → length items ≡ 0
    by [] is = refl
    by (item ∷ items) is = absurd (cc)

pub newest-none : (r : Rolled ℕ) → newest_of r ≡ None → r.items ≡ []
newest-none r is = by r.items is
  where
    by : (items : List ℕ) → slice_get items (length items - 1) ≡ None → items ≡ []
    by [] is = refl
    by (item ∷ items) is = absurd (let low : length (item ∷ items) - 1 < length (item ∷ items) = omega arith in
        let some = slice_get-get_or (item ∷ items) (length (item ∷ items) - 1) 0 low in cc)
