-- A list of bounded length.
use Rattle.std.specs.Coded.{Coded, code_by, coded_list, coded×, coded_ℕ}
use Rattle.std.specs.Prelude.{refl, ℕ, ◌-◌, cond, ltb, List, [], ◌∷◌, ◌++◌, length, slice_get, take, drop, Option}

-- a list, the oldest item first, and how many items it has room for
pub record Rolled (T : Type 0) : Type 0 where
  pub items : List T
  pub room : ℕ

-- it is stored as the list of its items, beside its room
abbrev pub rolled_code : {T : Type 0} → Coded T → Coded (Rolled T)
rolled_code {T} code =
    code_by (List T × ℕ) (coded× (coded_list code) coded_ℕ) (λ r. (r.items, r.room)) (λ p. record {
      items = p.0;
      room = p.1;
    }) (λ _. refl)

module _ {T : Type 0} where
  abbrev pub empty_roll : ℕ → Rolled T
  empty_roll room = record { items = []; room = room }

  -- a push onto a full one changes nothing
  abbrev pub after_push : Rolled T → T → Rolled T
  after_push r item = cond (ltb (length r.items) r.room) (record r { items = r.items ++ item ∷ [] }) r

  abbrev pub newest_of : Rolled T → Option T
  newest_of r = slice_get r.items (length r.items - 1)

  abbrev pub oldest_of : Rolled T → Option T
  oldest_of r = slice_get r.items 0

  abbrev pub without_newest : Rolled T → Rolled T
  without_newest r = record r { items = take (length r.items - 1) r.items }

  abbrev pub without_oldest : Rolled T → Rolled T
  without_oldest r = record r { items = drop 1 r.items }
