-- The slab cache keeps that all its slabs are even.
use Rattle.std.proofs.Common.{◌≡◌, ◌∙◌, ℕ, ◌+◌, ◌-◌, ◌<◌, Bool, true, false, cond, List, [], ◌∷◌, ◌++◌, length, Some}
use Rattle.std.proofs.Common.{zero, suc}
use Rattle.std.proofs.Common.{sym, ap, subst, arith}
use Rattle.std.specs.Prelude.{drop, ltb, slice_get, take}
use Rattle.std.proofs.lemmas.List.{take-append-drop}
use Rattle.heap_slabs.specs.Rolls.{Rolled, after_push, newest_of}
use Rattle.word_laws.proofs.CallerLemmas.{equal_or}
use Rattle.chain_laws.specs.Chains.{tally}
use Rattle.chain_laws.proofs.CallerLemmas.{tally-append, tally-else, tally-here}
use Rattle.step_local.specs.declared.frames.At.{At}
use Rattle.step_local.specs.declared.frames.Local.{Local}
use Rattle.step_local.specs.declared.frames.SmallAt.{SmallAt}
use Rattle.heap_tasks.specs.Heaps.{cached_left_at, cached_small}
use Rattle.slab_moves.specs.Says.{IsEven, SmallSays, PlaceSays}

abbrev pub AreEven : List ℕ → Type 0
AreEven xs = (x : ℕ) → 0 < tally x xs → IsEven x

among : (xs : List ℕ) (i x : ℕ) → slice_get xs i ≡ Some x → 0 < tally x xs
among [] i x is = absurd (cc)
among (y ∷ ys) zero x is = let same : y ≡ x = cc in
    subst (λ z. 0 < tally x (z ∷ ys)) (sym same) (let here = tally-here x ys in omega arith)
among (y ∷ ys) (suc i) x is = let more = among ys i x is in
    let sum = tally-append x (y ∷ []) ys in omega arith

pub newest_even : (r : Rolled ℕ) (slab : ℕ) → AreEven r.items → newest_of r ≡ Some slab → IsEven slab
newest_even r slab even is = even slab (among r.items (length r.items - 1) slab is)

taken : (n : ℕ) (xs : List ℕ) (x : ℕ) → tally x (take n xs) + tally x (drop n xs) ≡ tally x xs
taken n xs x = sym (tally-append x (take n xs) (drop n xs)) ∙ ap (tally x) (take-append-drop n xs)

take_even : (n : ℕ) (xs : List ℕ) → AreEven xs → AreEven (take n xs)
take_even n xs even x some = even x (let sum = taken n xs x in omega arith)

drop_even : (n : ℕ) (xs : List ℕ) → AreEven xs → AreEven (drop n xs)
drop_even n xs even x some = even x (let sum = taken n xs x in omega arith)

push_even : (r : Rolled ℕ) (slab : ℕ) → AreEven r.items → IsEven slab → AreEven (after_push r slab).items
push_even r slab even is = by (ltb (length r.items) r.room)
  where
    more : AreEven (r.items ++ (slab ∷ []))
    more x some = equal_or x slab (λ same. subst IsEven (sym same) is)
        (λ ne. even x (let sum = tally-append x r.items (slab ∷ []) in let none = tally-else x slab [] ne in
        omega arith))

    by : (b : Bool) → AreEven (cond b (record r { items = r.items ++ (slab ∷ []) }) r).items
    by true = more
    by false = even

small_even : (l : Local) (at : SmallAt) → AreEven l.heap.cached.items → SmallSays at → AreEven (cached_small l at).items
small_even l (SmallAt.Uncache slab) even says =
    take_even (length l.heap.cached.items - 1) l.heap.cached.items even
small_even l (SmallAt.Cache slab) even says = push_even l.heap.cached slab even says
small_even l (SmallAt.Oldest slab) even says = drop_even 1 l.heap.cached.items even
small_even l (SmallAt.Newest slab) even says =
    take_even (length l.heap.cached.items - 1) l.heap.cached.items even
small_even l _ even says = even

pub left_even : (l : Local) (at : At) → AreEven l.heap.cached.items → PlaceSays l.call.block at
    → AreEven (cached_left_at l at).items
left_even l (At.Small at) even says = small_even l at even says
left_even l _ even says = even
