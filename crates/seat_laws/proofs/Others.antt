-- A step that writes nothing, or the clock, leaves all that other seats say.
use Rattle.std.proofs.Common.{◌≡◌, ℕ, true, eqb, refl, ap, arith}
use Rattle.std.specs.Prelude.{◌&&◌, not}
use Rattle.pool_words.specs.declared.actions.Action.{Action}
use Rattle.pool_words.specs.declared.actions.Action.TheVariants.{Add, Exchange, GiveOffice, Load, Nothing, Store, Swap}
use Rattle.pool_words.specs.declared.actions.Action.TheVariants.{TakeOffice}
use Rattle.pool_words.specs.declared.words.Key.{Key}
use Rattle.pool_words.specs.declared.words.Word.{Word}
use Rattle.pool_words.specs.Words.{kind_of_word, number}
use Rattle.word_laws.specs.Memory.{after}
use Rattle.free_laws.specs.Steps.{IsWordIn}
use Rattle.use_laws.specs.After.{with_mem}
use Rattle.pool_laws.specs.Changes.{with_pool}
use Rattle.pool_laws.specs.Steps.{IsOfNone}
use Rattle.pool_laws.specs.Wholes.{Whole}
use Rattle.seat_laws.specs.Stays.{SeatStays}
use Rattle.seat_laws.proofs.Alone.{after_spared, no_guard, spares, stand_same}
use Rattle.seat_laws.proofs.Uses.{pool_leaves}

clock_is_none : (w : Word) → IsWordIn 26 26 w → no_guard (kind_of_word w) ≡ true
clock_is_none w is =
    let low = is.0 in let high = is.1 in
    let here : number (kind_of_word w) ≡ 26 = omega arith in
    ap (λ n. not (eqb n 6) && not (eqb n 7)) here

none_spares : (action : Action) → IsOfNone action → spares action ≡ true
none_spares (Load w) is = refl
none_spares (Store w value) is = clock_is_none w is
none_spares (Swap w value) is = clock_is_none w is
none_spares (Exchange w from to) is = clock_is_none w is
none_spares (Add w value) is = clock_is_none w is
none_spares (TakeOffice job) is = refl
none_spares GiveOffice is = refl
none_spares Nothing is = refl

pub others_leave : (k : Key) (t : ℕ) (w : Whole) (action : Action) → IsOfNone action
    → SeatStays w (with_pool (with_mem (after k w.pool.mem action) w.pool) w) t
others_leave k t w action is =
    pool_leaves w t (with_mem (after k w.pool.mem action) w.pool)
    (record { guards = refl; objects = refl; notes = refl; last = refl; kept = refl; cached = refl })
    (after_spared k w.pool.mem action (none_spares action is)) (stand_same w.pool.blocks.place t)
