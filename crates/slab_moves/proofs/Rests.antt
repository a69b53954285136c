-- Where the blocks of a seat's slabs are: a slab that its heap keeps, or that its cache has, is a block at rest.
use Rattle.std.proofs.Common.{◌≡◌, ◌≢◌, ◌∙◌, ◌⊎◌, inl, inr, [], ◌∷◌, ℕ, zero, suc, ◌+◌, ◌<◌, List}
use Rattle.std.proofs.Common.{true, Some, None, ap, sym, subst, arith}
use Rattle.std.specs.Prelude.{slice_get}
use Rattle.std.proofs.lemmas.Bool.Decides.{nat_tests}
use Rattle.pool_words.specs.declared.words.Key.{Key}
use Rattle.heap_slabs.specs.declared.records.HeapSlab.{HeapSlab}
use Rattle.heap_slabs.specs.Records.{is_unused}
use Rattle.heap_slabs.specs.Slabs.{record_at}
use Rattle.chain_laws.specs.Chains.{tally}
use Rattle.chain_laws.proofs.CallerLemmas.{tally-here}
use Rattle.guard_laws.specs.Blocks.{Place, Use}
use Rattle.slab_laws.specs.Books.{Keeper, record_of}
use Rattle.slab_laws.specs.Heaps.{is_cached}
use Rattle.use_laws.specs.Uses.{IsKept, PurposeFits}
use Rattle.word_laws.proofs.CallerLemmas.{equal_or}
use Rattle.pool_laws.specs.Wholes.{Whole, WholeGood}

-- what stands at a place of a list is in it
pub is_in : (xs : List ℕ) (i e : ℕ) → slice_get xs i ≡ Some e → 0 < tally e xs
is_in [] i e is = absurd (cc)
is_in (x ∷ xs) zero e is =
    let same : e ≡ x = cc in
    subst (λ y. 0 < tally e (y ∷ xs)) same (let once : tally e (e ∷ xs) ≡ 1 + tally e xs = tally-here e xs in
    omega arith)
is_in (x ∷ xs) (suc i) e is = let rest = is_in xs i e is in omega arith

his : (q : Keeper) (seat : ℕ) → 0 < is_cached seat q → q ≡ Keeper.Cached seat
his Keeper.Nobody seat some = absurd (omega arith)
his (Keeper.By o) seat some = absurd (omega arith)
his Keeper.Orphan seat some = absurd (omega arith)
his (Keeper.Adopting o) seat some = absurd (omega arith)
his (Keeper.Cached o) seat some = ap Keeper.Cached (grind (arith, nat_tests))

pub slab_rests : (k : Key) (w : Whole) (e : ℕ) → WholeGood k w → IsKept (w.pool.locals.book.keeper e)
    → w.pool.blocks.place e ≡ Place.Block e 2 Use.Elsewhere
slab_rests k w e good kept =
    let use' = good.shelf.pool.uses e in
    (subst (PurposeFits e (w.pool.blocks.place e) (w.pool.locals.book.keeper e) w.pool.objects.held)
    (use'.slab kept) use'.fits).0

-- one that the cache of a seat has
pub cached_is : (k : Key) (w : Whole) (seat i e : ℕ) → WholeGood k w
    → slice_get (w.pool.cached seat).items i ≡ Some e → w.pool.locals.book.keeper e ≡ Keeper.Cached seat
cached_is k w seat i e good is =
    his (w.pool.locals.book.keeper e) seat
    (subst (λ n. 0 < n) (good.shelf.pool.slabs.caches seat e) (is_in (w.pool.cached seat).items i e is))

pub cached_rests : (k : Key) (w : Whole) (seat i e : ℕ) → WholeGood k w
    → slice_get (w.pool.cached seat).items i ≡ Some e → w.pool.blocks.place e ≡ Place.Block e 2 Use.Elsewhere
cached_rests k w seat i e good is =
    slab_rests k w e good (subst IsKept (sym (cached_is k w seat i e good is)) tt)

-- one of which the heap of a seat has a record is that seat's
by_or : (q : Keeper) (seat : ℕ) → (q ≡ Keeper.By seat) ⊎ (q ≢ Keeper.By seat)
by_or (Keeper.By o) seat = equal_or o seat (λ same. inl (ap Keeper.By same)) (λ differ. inr (λ e. differ (cc)))
by_or Keeper.Nobody seat = inr (λ e. absurd (cc))
by_or Keeper.Orphan seat = inr (λ e. absurd (cc))
by_or (Keeper.Adopting o) seat = inr (λ e. absurd (cc))
by_or (Keeper.Cached o) seat = inr (λ e. absurd (cc))

pub kept_is_by : (k : Key) (w : Whole) (seat e : ℕ) (kept : HeapSlab) → WholeGood k w
    → record_at (w.pool.kept seat).records e ≡ Some kept → w.pool.locals.book.keeper e ≡ Keeper.By seat
kept_is_by k w seat e kept good there = pick (by_or (w.pool.locals.book.keeper e) seat)
  where
    pick : (w.pool.locals.book.keeper e ≡ Keeper.By seat) ⊎ (w.pool.locals.book.keeper e ≢ Keeper.By seat)
        → w.pool.locals.book.keeper e ≡ Keeper.By seat
    pick (inl by) = by
    pick (inr other) =
        absurd (let none : None ≡ Some kept = sym (good.shelf.pool.slabs.records.strange e seat other) ∙ there in cc)

-- and the record is the book's
pub kept_is_record : (k : Key) (w : Whole) (seat e : ℕ) (kept : HeapSlab) → WholeGood k w
    → record_at (w.pool.kept seat).records e ≡ Some kept → kept ≡ record_of w.pool.locals.book e
kept_is_record k w seat e kept good there =
    let by = kept_is_by k w seat e kept good there in
    let both : Some kept ≡ Some (record_of w.pool.locals.book e)
    = sym there ∙ good.shelf.pool.slabs.records.mine e seat by in cc

pub unused_counts : (k : Key) (w : Whole) (seat e : ℕ) (kept : HeapSlab) → WholeGood k w
    → record_at (w.pool.kept seat).records e ≡ Some kept → is_unused kept ≡ true
    → w.pool.locals.book.counts e ≡ 0
unused_counts k w seat e kept good there unused =
    let count : kept.count ≡ 0 = grind (arith, nat_tests) in
    sym (ap (λ r. HeapSlab.count r) (kept_is_record k w seat e kept good there)) ∙ count
