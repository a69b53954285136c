-- What lies in a block: in one that is not at rest no slab and no object, and in one at rest what it is used for.
use Rattle.std.proofs.Common.{◌≡◌, ◌≢◌, ◌⊎◌, inl, inr, ℕ, ◌+◌, ◌<◌, ◌≤◌, refl, sym, ap, subst, arith, ◌∙◌}
use Rattle.pool_words.specs.declared.words.Key.{Key}
use Rattle.word_codes.specs.Places.{granule_of}
use Rattle.guard_laws.specs.Blocks.{Use, Place, Piece, BlocksWhole}
use Rattle.guard_laws.proofs.CallerLemmas.{same_block}
use Rattle.slab_laws.specs.Books.{Keeper, IsThere}
use Rattle.slab_laws.specs.Heaps.{slab_of}
use Rattle.object_laws.specs.Objects.{Held, IsOut}
use Rattle.use_laws.specs.Uses.{Purpose, IsKept, block_in, HasBlock, UseFits, UsesFit}
use Rattle.use_laws.specs.Pools.{Pool, PoolGood}
use Rattle.use_laws.specs.Laws.{BlocksInHandAreBare, BlocksHaveOnePurpose, IsSlabBlock, IsObjectBlock}
use Rattle.use_laws.specs.Laws.{IsShelvedBlock}

pub nobody_or : (q : Keeper) → (IsKept q → ⊥) → q ≡ Keeper.Nobody
nobody_or Keeper.Nobody none = refl
nobody_or (Keeper.By t) none = absurd (none tt)
nobody_or Keeper.Orphan none = absurd (none tt)
nobody_or (Keeper.Adopting t) none = absurd (none tt)
nobody_or (Keeper.Cached t) none = absurd (none tt)

pub there_kept : (q : Keeper) → IsThere q → IsKept q
there_kept Keeper.Nobody is = is
there_kept (Keeper.By t) is = tt
there_kept Keeper.Orphan is = tt
there_kept (Keeper.Adopting t) is = tt
there_kept (Keeper.Cached t) is = absurd is

-- a slab has its block
pub slab_block : (place : ℕ → Place) (keeper : ℕ → Keeper) (held : ℕ → Held) (purpose : ℕ → Purpose) (e : ℕ)
    → UsesFit place keeper held purpose → IsKept (keeper e) → place e ≡ Place.Block e 2 Use.Elsewhere
slab_block place keeper held purpose e uses kept = (by (purpose e) ((uses e).slab kept) (uses e)).0
  where
    by : (q : Purpose) → q ≡ Purpose.Slab → UseFits e (place e) (keeper e) held q
        → (place e ≡ Place.Block e 2 Use.Elsewhere) × IsKept (keeper e)
    by Purpose.Spare is use' = absurd (cc)
    by Purpose.Slab is use' = use'.fits
    by (Purpose.Object u) is use' = absurd (cc)
    by Purpose.Shelved is use' = absurd (cc)

-- and so has a large object
pub object_block : (place : ℕ → Place) (keeper : ℕ → Keeper) (held : ℕ → Held) (purpose : ℕ → Purpose) (u x n : ℕ)
    → UsesFit place keeper held purpose → block_in (held u) ≡ Piece.Got x n → HasBlock x (place x) u (held u)
object_block place keeper held purpose u x n uses is = by (purpose x) ((uses x).object u n is) (uses x)
  where
    by : (q : Purpose) → q ≡ Purpose.Object u → UseFits x (place x) (keeper x) held q → HasBlock x (place x) u (held u)
    by Purpose.Spare same use' = absurd (cc)
    by Purpose.Slab same use' = absurd (cc)
    by (Purpose.Object v) same use' =
        let e : v ≡ u = cc in subst (λ z. HasBlock x (place x) z (held z)) e use'.fits
    by Purpose.Shelved same use' = absurd (cc)

long_is : (held : Held) (x n m : ℕ) → block_in held ≡ Piece.Got x n → block_in held ≡ Piece.Got x m → n ≡ m
long_is held x n m a b = let q : Piece.Got x n ≡ Piece.Got x m = sym a ∙ b in cc

-- a granule of a block that is not at rest lies in no block at rest
pub apart_rest : (place : ℕ → Place) (x n y m z : ℕ) (u : Use) → BlocksWhole place → place x ≡ Place.Block x n u
    → u ≢ Use.Elsewhere → x ≤ z → z < x + n → place y ≡ Place.Block y m Use.Elsewhere → y ≤ z → z < y + m → ⊥
apart_rest place x n y m z u whole at ne low high f from below =
    ne (same_block place z x n y m u Use.Elsewhere ((whole x x n u at).all z low high)
    ((whole y y m Use.Elsewhere f).all z from below)).2

-- no slab is at a unit's granule in a block that is not at rest
pub no_slab_at : (k : Key) (p : Pool) (x n v : ℕ) (u : Use) → PoolGood k p → p.blocks.place x ≡ Place.Block x n u
    → u ≢ Use.Elsewhere → x ≤ granule_of v → granule_of v < x + n
    → IsKept (p.locals.book.keeper (slab_of v)) → ⊥
no_slab_at k p x n v u good at ne low high kept =
    apart_rest p.blocks.place x n (slab_of v) 2 (granule_of v) u good.guards.parts.whole at ne low high
    (slab_block p.blocks.place p.locals.book.keeper p.objects.held p.purpose (slab_of v) good.uses kept)
    (omega arith) (omega arith)

pub none_held : (k : Key) (p : Pool) (x n v : ℕ) (u : Use) → PoolGood k p → p.blocks.place x ≡ Place.Block x n u
    → u ≢ Use.Elsewhere → x ≤ granule_of v → granule_of v < x + n → p.objects.held v ≡ Held.NotOut
none_held k p x n v u good at ne low high = by (p.objects.held v) refl
  where
    small : (h : Held) → p.objects.held v ≡ h → IsOut h → ⊥
    small h is out = no_slab_at k p x n v u good at ne low high
        (there_kept (p.locals.book.keeper (slab_of v))
        (good.objects.out_fits.in_slab v (subst IsOut (sym is) out)).0)

    large : (y m : ℕ) → block_in (p.objects.held v) ≡ Piece.Got y m → ⊥
    large y m is =
        let has = object_block p.blocks.place p.locals.book.keeper p.objects.held p.purpose v y m good.uses is in
        apart_rest p.blocks.place x n y has.granules (granule_of v) u good.guards.parts.whole at ne low high
        has.rests has.from has.below

    by : (h : Held) → p.objects.held v ≡ h → h ≡ Held.NotOut
    by Held.NotOut is = refl
    by Held.Private is = absurd (small Held.Private is tt)
    by Held.Listed is = absurd (small Held.Listed is tt)
    by (Held.Object g) is = absurd (small (Held.Object g) is tt)
    by (Held.InHand o) is = absurd (small (Held.InHand o) is tt)
    by (Held.Ready o y m) is = absurd (large y m (ap block_in is))
    by (Held.Large g y m) is = absurd (large y m (ap block_in is))

pub blocks_in_hand_are_bare : BlocksInHandAreBare
blocks_in_hand_are_bare k p x n u good at ne = record {
  slabs = λ e low high. nobody_or (p.locals.book.keeper e)
      (λ kept. apart_rest p.blocks.place x n e 2 e u good.guards.parts.whole at ne low high
      (slab_block p.blocks.place p.locals.book.keeper p.objects.held p.purpose e good.uses kept)
      (omega arith) (omega arith));
  objects = λ v low high. none_held k p x n v u good at ne low high;
}

pub blocks_have_one_purpose : BlocksHaveOnePurpose
blocks_have_one_purpose k p x n good at = by (p.purpose x) refl (good.uses x)
  where
    length_is : (m : ℕ) → p.blocks.place x ≡ Place.Block x m Use.Elsewhere → m ≡ n
    length_is m is = (same_block p.blocks.place x x m x n Use.Elsewhere Use.Elsewhere is at).1

    by : (q : Purpose) → p.purpose x ≡ q → UseFits x (p.blocks.place x) (p.locals.book.keeper x) p.objects.held q
        → IsSlabBlock p x n ⊎ IsObjectBlock p x n ⊎ IsShelvedBlock p x n
    by Purpose.Spare is use' = absurd (use'.fits n at)
    by Purpose.Slab is use' = inl (record {
      long = sym (length_is 2 use'.fits.0);
      kept = use'.fits.1;
      none = λ u m has. let r : Purpose.Slab ≡ Purpose.Object u = use'.object u m has in absurd (cc);
    })
    by (Purpose.Object v) is use' = inr (inl (record {
      unit = v;
      has = use'.fits.has ∙ ap (Piece.Got x) (length_is use'.fits.granules use'.fits.rests);
      one = λ u m has. let r : Purpose.Object v ≡ Purpose.Object u = use'.object u m has in cc;
      none = nobody_or (p.locals.book.keeper x)
          (λ kept. let r : Purpose.Object v ≡ Purpose.Slab = use'.slab kept in absurd (cc));
    }))
    by Purpose.Shelved is use' = inr (inr (record {
      shelved = is;
      slab = nobody_or (p.locals.book.keeper x)
          (λ kept. let r : Purpose.Shelved ≡ Purpose.Slab = use'.slab kept in absurd (cc));
      object = λ u m has. let r : Purpose.Shelved ≡ Purpose.Object u = use'.object u m has in absurd (cc);
    }))
