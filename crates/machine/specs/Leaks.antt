-- The objects that are held, as a list.
use Rattle.std.specs.Prelude.{◌≡◌, ℕ, ◌+◌, ◌≤◌, true, List, [], ◌∷◌, Contains, Some}
use Rattle.pool_types.specs.declared.values.Place.{Place}
use Rattle.pool_types.specs.declared.values.Grant.{Grant}
use Rattle.pool_types.specs.declared.values.Leak.{Leak}
use Rattle.part_model.specs.declared.holders.Holder.TheVariants.{Object}
use Rattle.part_model.specs.declared.moves.Range.{Range}
use Rattle.part_model.specs.Holding.{lies_in}
use Rattle.machine.specs.States.{State}
use Rattle.machine.specs.Answers.{IsObject}

-- the bytes of an object that is held
abbrev pub leak_range : Leak → Range
leak_range leak = record { place = leak.place; bytes = leak.usable }

-- an object that has the byte, under the grant
pub record HasByte (leaks : List Leak) (byte : Place) (grant : Grant) : Type 0 where
  pub leak : Leak
  pub listed : Contains leaks leak
  pub granted : leak.grant ≡ grant
  pub inside : lies_in byte (leak_range leak) ≡ true

-- the first object begins at the offset or behind, and each other one where the one before it ends or behind
abbrev pub AreFrom : ℕ → List Leak → Type 0
AreFrom offset [] = Unit {0}
AreFrom offset (leak ∷ leaks) = (offset ≤ leak.place.offset) × AreFrom (leak.place.offset + leak.usable) leaks

-- These are all objects that are held, each once and with all its bytes, by their offsets in the one region.
pub record AreLeaks (state : State) (leaks : List Leak) : Type 0 where
  pub each : (leak : Leak) → Contains leaks leak → IsObject state leak.place leak.usable leak.grant
  pub all : (byte : Place) (grant : Grant) → state.held byte ≡ Some (Object grant) → HasByte leaks byte grant
  pub in_order : AreFrom 0 leaks
