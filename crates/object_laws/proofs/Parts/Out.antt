-- What is out of a slab's rest.
use Rattle.std.proofs.Common.{◌≡◌, ◌⊎◌, inl, inr, ℕ, ◌+◌, ◌<◌, ◌≤◌, List, length}
use Rattle.std.proofs.Common.{sym, subst, arith, le_trans}
use Rattle.pool_words.specs.declared.words.Key.{Key}
use Rattle.heap_slabs.specs.Records.{unit_of}
use Rattle.word_laws.specs.Memory.{put}
use Rattle.word_laws.proofs.CallerLemmas.{equal_or}
use Rattle.chain_laws.specs.Chains.{tally, IsOnce}
use Rattle.chain_laws.proofs.CallerLemmas.{lists_among_are_short}
use Rattle.slab_laws.specs.Books.{Book, IsThere, record_of, with_rest_taken}
use Rattle.slab_laws.specs.OneSlab.{IsHanded}
use Rattle.slab_laws.specs.Heaps.{slab_of, BookFits}
use Rattle.slab_laws.proofs.CallerLemmas.{unit-below}
use Rattle.object_laws.specs.Objects.{Held, IsOut, IsUnit}
use Rattle.object_laws.specs.Parts.{OutFits}
use Rattle.object_laws.specs.Rows.{taken_back}
use Rattle.slab_laws.proofs.CallerLemmas.{put-same, each}

pub out-cases : (h : Held) → IsOut h ⊎ (IsOut h → ⊥)
out-cases Held.NotOut = inr (λ e. e)
out-cases Held.Private = inl tt
out-cases Held.Listed = inl tt
out-cases (Held.Object gr) = inl tt
out-cases (Held.InHand t) = inl tt
out-cases (Held.Ready t x n) = inr (λ e. e)
out-cases (Held.Large gr x n) = inr (λ e. e)

pub out-not : (h other : Held) → h ≡ other → (IsOut other → ⊥) → IsOut h → ⊥
out-not h other e none o = none (subst IsOut e o)

pub out-back : (h : Held) → IsOut h → IsOut (taken_back h)
out-back Held.NotOut o = o
out-back Held.Private o = o
out-back Held.Listed o = o
out-back (Held.Object gr) o = o
out-back (Held.InHand t) o = o
out-back (Held.Ready t x n) o = o
out-back (Held.Large gr x n) o = o

pub back-out : (h : Held) → IsOut (taken_back h) → IsOut h
back-out Held.NotOut o = o
back-out Held.Private o = o
back-out Held.Listed o = o
back-out (Held.Object gr) o = o
back-out (Held.InHand t) o = o
back-out (Held.Ready t x n) o = o
back-out (Held.Large gr x n) o = o

-- the same are out, of the same slabs
pub out-same : (held other : ℕ → Held) (b : Book) → ((u : ℕ) → IsOut (other u) → IsOut (held u))
    → ((u : ℕ) → IsOut (held u) → IsOut (other u)) → OutFits held b → OutFits other b
out-same held other b back to good = record {
  in_slab = λ u o. good.in_slab u (back u o);
  out = λ e i low. to (unit_of e (b.classes e) i) (good.out e i low);
}

pub out-set : (held : ℕ → Held) (b : Book) (u : ℕ) (h : Held) → IsOut (held u) → IsOut h → OutFits held b
    → OutFits (put held u h) b
out-set held b u h was is good = out-same held (put held u h) b
    (each (λ x q. IsOut q → IsOut (held x)) held u h (λ x ne o. o) (λ _. was))
    (each (λ x q. IsOut (held x) → IsOut q) held u h (λ x ne o. o) (λ _. is)) good

pub out-none : (held : ℕ → Held) (b : Book) (u : ℕ) (h : Held) → (IsOut (held u) → ⊥) → (IsOut h → ⊥) → OutFits held b
    → OutFits (put held u h) b
out-none held b u h was is good = out-same held (put held u h) b
    (each (λ x q. IsOut q → IsOut (held x)) held u h (λ x ne o. o) (λ o. absurd (is o)))
    (each (λ x q. IsOut (held x) → IsOut q) held u h (λ x ne o. o) (λ o. absurd (was o))) good

-- one more object of a slab's rest is out
pub out-more : (held : ℕ → Held) (b : Book) (e u : ℕ) (h : Held) → IsOut h → u ≡ unit_of e (b.classes e) (b.handed e)
    → slab_of u ≡ e → IsThere (b.keeper e) → OutFits held b → OutFits (put held u h) (with_rest_taken e b)
out-more held b e u h is at inside there good = record {
  in_slab = each (λ x q. IsOut q → IsThere (b.keeper (slab_of x)) × IsHanded (record_of (with_rest_taken e b) (slab_of x)) x)
      held u h
      (λ x ne o. let w = good.in_slab x o in (w.0, (w.1.0, le_trans w.1.1 (more (slab_of x)), w.1.2)))
      (λ _. (
        subst (λ c. IsThere (b.keeper c)) (sym inside) there,
        subst (λ c. IsHanded (record_of (with_rest_taken e b) c) u) (sym inside)
            (b.handed e, subst (λ n. b.handed e < n) (sym (put-same b.handed e (b.handed e + 1))) (omega arith), at),
      ));
  out = each (λ c n. (i : ℕ) → i < n → IsOut (put held u h (unit_of c (b.classes c) i))) b.handed e (b.handed e + 1)
      (λ c ne i low. still (unit_of c (b.classes c) i) (good.out c i low))
      (λ i low. equal_or i (b.handed e)
      (λ same. subst (λ j. IsOut (put held u h (unit_of e (b.classes e) j))) (sym same)
      (subst (λ x. IsOut (put held u h x)) at (subst IsOut (sym (put-same held u h)) is)))
      (λ ne. still (unit_of e (b.classes e) i) (good.out e i (omega arith))));
}
  where
    more : (c : ℕ) → b.handed c ≤ put b.handed e (b.handed e + 1) c
    more = each (λ c n. b.handed c ≤ n) b.handed e (b.handed e + 1) (λ c _. omega arith) (omega arith)

    still : (x : ℕ) → IsOut (held x) → IsOut (put held u h x)
    still = each (λ x q. IsOut (held x) → IsOut q) held u h (λ x _ o. o) (λ _. is)

-- what is out lies in the pool
pub out-inside : (k : Key) (held : ℕ → Held) (b : Book) (u : ℕ) → BookFits k b → OutFits held b → IsOut (held u)
    → IsUnit k u
out-inside k held b u book good o =
    let w = good.in_slab u o in
    let fits = book.there (slab_of u) w.0 in
    let low = unit-below (slab_of u) (b.classes (slab_of u)) w.1.0 fits.record'.few
    (let h = fits.record'.handed in let l = w.1.1 in omega arith) in
    let place = fits.place.inside in
    let at = w.1.2 in
    omega arith

-- different objects of a slab that are out are no more than were handed out
pub room_for : (held : ℕ → Held) (b : Book) (e : ℕ) (us : List ℕ) → OutFits held b → IsOnce us
    → ((u : ℕ) → 0 < tally u us → (slab_of u ≡ e) × IsOut (held u)) → length us ≤ b.handed e
room_for held b e us good once among = lists_among_are_short (unit_of e (b.classes e)) (b.handed e) us once
    (λ u some. let i = among u some in
    subst (λ c. (i : ℕ) × (i < b.handed c) × (u ≡ unit_of c (b.classes c) i)) i.0 (good.in_slab u i.1).1)
