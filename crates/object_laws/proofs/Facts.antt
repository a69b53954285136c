-- What the parts say of one slab and of one object.
use Rattle.std.proofs.Common.{◌≡◌, ℕ, ◌^◌, ◌<◌, Option, Some, None, List, [], ◌∷◌, refl, sym, ap}
use Rattle.std.proofs.Common.{subst, arith, ◌∙◌, inl, inr, ◌⊎◌}
use Rattle.std.proofs.lemmas.Bool.Decides.{nat_tests}
use Rattle.pool_types.specs.declared.values.Grant.{Grant}
use Rattle.pool_words.specs.declared.words.Key.{Key}
use Rattle.index_lists.specs.Lists.{first_of}
use Rattle.word_codes.specs.declared.marks.Mark.{Mark}
use Rattle.word_codes.specs.declared.kinds.Kind.{Kind}
use Rattle.chain_laws.specs.Chains.{Link, IsChain}
use Rattle.slab_laws.specs.Books.{Keeper, Book, IsThere, record_of}
use Rattle.slab_laws.specs.OneSlab.{IsHanded, IsSlabOf}
use Rattle.slab_laws.specs.Heaps.{slab_of, BookFits}
use Rattle.object_laws.specs.Objects.{Held, granted_in, IsOut, Shadow, Core, links_in, head_link, IsUnit}
use Rattle.object_laws.specs.Parts.{IsNoGrant, IsHandMark, IsSlabKind, IsLargeKind, KindIs}
use Rattle.object_laws.specs.Parts.{LargeFits, ObjectsGood}
use Rattle.object_laws.proofs.Parts.Marks.{IsGranted, granted-cases}
use Rattle.object_laws.proofs.Parts.Marks.IsGranted.{small, large}
use Rattle.object_laws.proofs.Parts.Once.{private-cases, private-there}
use Rattle.object_laws.proofs.Parts.Out.{out-inside}

head_is : (links : ℕ → Link) (head : Option ℕ) (us : List ℕ) → IsChain links (head_link head) us 0
    → head ≡ first_of us
head_is links None [] chain = refl
head_is links None (x ∷ us) (first, chain) = absurd (cc)
head_is links (Some u) [] chain = absurd (cc)
head_is links (Some u) (x ∷ us) (first, chain) = ap Some (let e : u ≡ x = cc in e)

-- a slab's record and its private list are those of one slab
pub slab_is : (k : Key) (g : Shadow) (s : Core) (e : ℕ) → ObjectsGood k g s → IsThere (s.book.keeper e)
    → IsSlabOf (record_of s.book e) (g.privates e)
slab_is k g s e good there =
    let fits = good.book.there e there in record {
      few = fits.record'.few;
      handed = fits.record'.handed;
      among = λ u some. handed u (private-there g.held g.privates g.taken e u good.privates_once (omega arith));
      once = λ u. let o = good.privates_once e u in let c = private-cases (g.held u) in grind (arith, nat_tests);
      head = head_is (links_in s.marks) (s.book.heads e) (g.privates e) (good.private_chains e);
      count = good.counts_fit e;
    }
  where
    handed : (u : ℕ) → (g.held u ≡ Held.Private) × (slab_of u ≡ e) → IsHanded (record_of s.book e) u
    handed u (was, at) = subst (λ c. IsHanded (record_of s.book c) u) at
        (good.out_fits.in_slab u (subst IsOut (sym was) tt)).1

pub there_of : (keeper : Keeper) (t : ℕ) → keeper ≡ Keeper.By t → IsThere keeper
there_of keeper t e = subst IsThere (sym e) tt

-- what is out of a slab was handed out of it
pub handed-of : (k : Key) (g : Shadow) (s : Core) (e u : ℕ) → ObjectsGood k g s → slab_of u ≡ e → IsOut (g.held u)
    → IsHanded (record_of s.book e) u
handed-of k g s e u good at out = subst (λ c. IsHanded (record_of s.book c) u) at (good.out_fits.in_slab u out).1

pub hand-no-grant : (t : ℕ) (m : Mark) → IsHandMark t m → IsNoGrant m
hand-no-grant t Mark.Unmarked fit = tt
hand-no-grant t (Mark.Granted gr) fit = fit
hand-no-grant t (Mark.Hand other) fit = tt
hand-no-grant t (Mark.Link unit) fit = tt
hand-no-grant t Mark.End fit = tt
hand-no-grant t Mark.EndUnusable fit = tt

-- an object whose noted kind is a slab's is one of a slab, and one whose kind is a large block's is a large one
pub small_is : (b : Book) (u : ℕ) (kind : Kind) (h : Held) (gr : Grant) → granted_in h ≡ Some gr
    → KindIs b u kind h → (IsLargeKind kind → ⊥) → h ≡ Held.Object gr
small_is b u kind h gr is kinds none = by (granted-cases h gr is)
  where
    by : IsGranted h gr → h ≡ Held.Object gr
    by (small e) = e
    by (large x n e) = absurd (none (let q : kind ≡ Kind.Large x n = subst (KindIs b u kind) e kinds in
        subst IsLargeKind (sym q) tt))

pub slab_not_large : (kind : Kind) → IsSlabKind kind → IsLargeKind kind → ⊥
slab_not_large Kind.Nothing a b = a
slab_not_large (Kind.Slab class) a b = b
slab_not_large Kind.CachedSlab a b = a
slab_not_large (Kind.Large x n) a b = a

-- a large one
pub data IsLargeOf (h : Held) (gr : Grant) : Type 0 where
  large_of : (first granules : ℕ) → h ≡ Held.Large gr first granules → IsLargeOf h gr

pub large_is : (b : Book) (u : ℕ) (kind : Kind) (h : Held) (gr : Grant) → granted_in h ≡ Some gr
    → KindIs b u kind h → IsLargeKind kind → IsLargeOf h gr
large_is b u kind h gr is kinds some = by (granted-cases h gr is)
  where
    by : IsGranted h gr → IsLargeOf h gr
    by (small e) = absurd (let q : kind ≡ Kind.Slab (b.classes (slab_of u)) = subst (KindIs b u kind) e kinds in
        subst IsLargeKind q some)
    by (large x n e) = large_of x n e

-- where no slab is, nothing is out
pub none-out : (k : Key) (g : Shadow) (s : Core) (u : ℕ) → ObjectsGood k g s
    → (IsThere (s.book.keeper (slab_of u)) → ⊥) → IsOut (g.held u) → ⊥
none-out k g s u good none out = none (good.out_fits.in_slab u out).0

-- an out unit is a word's index, and its mark can name it
pub unit-small : (k : Key) (s : Core) (u : ℕ) → BookFits k s.book → IsUnit k u → u < 2 ^ 61
unit-small k s u book is = let span = book.span in omega arith

pub head-small : (k : Key) (g : Shadow) (s : Core) (e u : ℕ) → ObjectsGood k g s → s.book.heads e ≡ Some u
    → (g.held u ≡ Held.Private) × (slab_of u ≡ e) → u < 2 ^ 61
head-small k g s e u good is (was, at) =
    unit-small k s u good.book (out-inside k g.held s.book u good.book good.out_fits (subst IsOut (sym was) tt))

pub there-cases : (q : Keeper) → IsThere q ⊎ (IsThere q → ⊥)
there-cases Keeper.Nobody = inr (λ is. is)
there-cases (Keeper.By t) = inl tt
there-cases Keeper.Orphan = inl tt
there-cases (Keeper.Adopting t) = inl tt
there-cases (Keeper.Cached t) = inr (λ is. is)

-- where a slab is no large object begins, so what is not out is nothing
pub bare : (k : Key) (u : ℕ) (keeper : Keeper) (kind : Kind) (h : Held) → (IsOut h → ⊥)
    → LargeFits k u keeper kind h → IsThere keeper → h ≡ Held.NotOut
bare k u keeper kind Held.NotOut none fits there = refl
bare k u keeper kind Held.Private none fits there = absurd (none tt)
bare k u keeper kind Held.Listed none fits there = absurd (none tt)
bare k u keeper kind (Held.Object gr) none fits there = absurd (none tt)
bare k u keeper kind (Held.InHand o) none fits there = absurd (none tt)
bare k u keeper kind (Held.Ready o x n) none fits there = absurd (fits.0 there)
bare k u keeper kind (Held.Large gr x n) none fits there = absurd (fits.0 there)

-- large objects stand where no slab comes, and the kinds of their granules stay
pub large-kept : (k : Key) (u : ℕ) (keeper now : Keeper) (kind : Kind) (h : Held) → (IsThere now → IsThere keeper)
    → LargeFits k u keeper kind h → LargeFits k u now kind h
large-kept k u keeper now kind Held.NotOut back fits = fits
large-kept k u keeper now kind Held.Private back fits = fits
large-kept k u keeper now kind Held.Listed back fits = fits
large-kept k u keeper now kind (Held.Object gr) back fits = fits
large-kept k u keeper now kind (Held.InHand o) back fits = fits
large-kept k u keeper now kind (Held.Ready o x n) back (none, is, low) = ((λ z. none (back z)), is, low)
large-kept k u keeper now kind (Held.Large gr x n) back (none, is, low) = ((λ z. none (back z)), is, low)

-- a granule that is cached has no large object
pub large-uncached : (k : Key) (u : ℕ) (keeper now : Keeper) (kind other : Kind) (h : Held) → kind ≡ Kind.CachedSlab
    → LargeFits k u keeper kind h → LargeFits k u now other h
large-uncached k u keeper now kind other Held.NotOut is fits = tt
large-uncached k u keeper now kind other Held.Private is fits = tt
large-uncached k u keeper now kind other Held.Listed is fits = tt
large-uncached k u keeper now kind other (Held.Object gr) is fits = tt
large-uncached k u keeper now kind other (Held.InHand o) is fits = tt
large-uncached k u keeper now kind other (Held.Ready o x n) is (none, block, low) =
    absurd (let q : Kind.CachedSlab ≡ Kind.Large x n = sym is ∙ block in cc)
large-uncached k u keeper now kind other (Held.Large gr x n) is (none, block, low) =
    absurd (let q : Kind.CachedSlab ≡ Kind.Large x n = sym is ∙ block in cc)

pub large-none : (k : Key) (u : ℕ) (keeper : Keeper) (kind : Kind) (h : Held) → h ≡ Held.NotOut
    → LargeFits k u keeper kind h
large-none k u keeper kind h is = subst (LargeFits k u keeper kind) (sym is) tt
