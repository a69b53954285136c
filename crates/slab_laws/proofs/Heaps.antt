-- What a change of one heap, of one slab of the book, and of one word leaves.
use Rattle.std.proofs.Common.{◌≡◌, ◌≢◌, ℕ, ◌<◌, Option, Some, None, ◌∷◌, length, set, sym, ap, subst}
use Rattle.std.proofs.Common.{arith, ◌∙◌}
use Rattle.std.proofs.lemmas.Bool.Decides.{nat_tests}
use Rattle.std.proofs.lemmas.List.{get_or-set_same, get_or-set_other, length-set}
use Rattle.pool_types.specs.Geometry.{class_count}
use Rattle.pool_words.specs.declared.words.Key.{Key}
use Rattle.index_lists.specs.Lists.{members, with_first, list_without}
use Rattle.heap_slabs.specs.declared.records.HeapSlab.{HeapSlab}
use Rattle.heap_slabs.specs.Records.{to_header}
use Rattle.heap_slabs.specs.Rolls.{Rolled}
use Rattle.heap_slabs.specs.Slabs.{Kept, record_at, add_by, after_add, replace_by, after_replace, remove_by}
use Rattle.heap_slabs.specs.Slabs.{after_remove}
use Rattle.heap_slabs.proofs.Keeping.{kept_add, kept_replace, kept_remove, within}
use Rattle.word_laws.specs.Memory.{put}
use Rattle.word_laws.proofs.CallerLemmas.{equal_or}
use Rattle.chain_laws.specs.Chains.{tally}
use Rattle.chain_laws.proofs.CallerLemmas.{put-each}
use Rattle.word_codes.specs.declared.kinds.Kind.{Kind}
use Rattle.slab_laws.specs.Books.{Keeper, Book, IsThere, IsLeft, record_of}
use Rattle.slab_laws.specs.OneSlab.{IsRecord}
use Rattle.slab_laws.specs.Heaps.{SlabFits, NoneFits, BookFits, RecordsFit, HeapFits, KindFits, KindsFit, is_cached}
use Rattle.slab_laws.specs.Heaps.{CachesFit, CachedInside}

-- one heap has this record of a slab, and else what it had
pub record Changed (k : Key) (s new : Kept) (e : ℕ) (x : Option HeapSlab) : Type 0 where
  pub fits : HeapFits k new
  pub here : record_at new.records e ≡ x
  pub others : (o : ℕ) → e ≢ o → record_at new.records o ≡ record_at s.records o

pub replaced : (k : Key) (s : Kept) (next there : HeapSlab) → HeapFits k s → record_at s.records next.slab ≡ Some there
    → there.class ≡ next.class → Changed k s (after_replace s next) next.slab (Some next)
replaced k s next there fits is class =
    let by : replace_by s next (Some there) ≡ record s { records = set s.records next.slab (Some next) } =
    grind (arith, nat_tests) in
    let new : after_replace s next ≡ record s { records = set s.records next.slab (Some next) } =
    ap (replace_by s next) is ∙ by in
    subst (λ (x : Kept). Changed k s x next.slab (Some next)) (sym new) (record {
      fits = record {
        are = kept_replace s.classes s.records next there fits.are is class;
        room = fits.room;
        lists = fits.lists;
      };
      here = get_or-set_same s.records next.slab (Some next) None (within s.records next.slab there is);
      others = λ o ne. get_or-set_other s.records next.slab o (Some next) None (λ e. ne (sym e));
    })

pub added : (k : Key) (s : Kept) (new : HeapSlab) → HeapFits k s → record_at s.records new.slab ≡ None
    → new.class < class_count → new.slab < k.span → Changed k s (after_add s new) new.slab (Some new)
added k s new fits is class place =
    let room = fits.room in
    let lists = fits.lists in
    let long = fits.are.long in
    let low : new.class < length s.classes.lists = omega arith in
    let below : new.slab < s.classes.indices = omega arith in
    let by : add_by s new None ≡ record {
      classes = with_first s.classes new.class new.slab;
      records = set s.records new.slab (Some new);
    } = grind (arith, nat_tests) in
    subst (λ (x : Kept). Changed k s x new.slab (Some new)) (sym (ap (add_by s new) is ∙ by)) (record {
      fits = record {
        are = kept_add s.classes s.records new fits.are low below is;
        room = fits.room;
        lists = length-set s.classes.lists new.class (new.slab ∷ members s.classes new.class) ∙ fits.lists;
      };
      here = get_or-set_same s.records new.slab (Some new) None (omega arith);
      others = λ o ne. get_or-set_other s.records new.slab o (Some new) None (λ e. ne (sym e));
    })

pub removed : (k : Key) (s : Kept) (e : ℕ) (there : HeapSlab) → HeapFits k s → record_at s.records e ≡ Some there
    → Changed k s (after_remove s e) e None
removed k s e there fits is =
    subst (λ (x : Kept). Changed k s x e None) (sym (ap (remove_by s e) is)) (record {
      fits = record {
        are = kept_remove s.classes s.records e there fits.are is;
        room = fits.room;
        lists = length-set s.classes.lists there.class (list_without e (members s.classes there.class)) ∙ fits.lists;
      };
      here = get_or-set_same s.records e None None (within s.records e there is);
      others = λ o ne. get_or-set_other s.records e o None None (λ e. ne (sym e));
    })

-- the book is another at one slab alone
pub record Elsewhere (b new : Book) (e : ℕ) : Type 0 where
  pub keeper : (o : ℕ) → e ≢ o → new.keeper o ≡ b.keeper o
  pub same : (o : ℕ) → e ≢ o → record_of new o ≡ record_of b o

slab_same : (k : Key) (b new : Book) (o : ℕ) → record_of new o ≡ record_of b o → SlabFits k b o → SlabFits k new o
slab_same k b new o same fits = record {
  place = fits.place;
  class = subst (λ n. n < class_count) (sym (ap (λ (r : HeapSlab). r.class) same)) fits.class;
  record' = subst IsRecord (sym same) fits.record';
}

none_same : (b new : Book) (o : ℕ) → record_of new o ≡ record_of b o → NoneFits b o → NoneFits new o
none_same b new o same fits = record {
  handed = ap (λ (r : HeapSlab). r.handed) same ∙ fits.handed;
  count = ap (λ (r : HeapSlab). r.count) same ∙ fits.count;
  head = ap (λ (r : HeapSlab). r.head) same ∙ fits.head;
}

pub book-set : (k : Key) (b new : Book) (e : ℕ) → Elsewhere b new e → (IsThere (new.keeper e) → SlabFits k new e)
    → ((IsThere (new.keeper e) → ⊥) → NoneFits new e) → BookFits k b → BookFits k new
book-set k b new e else there absent fits = record {
  span = fits.span;
  there = λ o is. equal_or e o
      (λ same. subst (SlabFits k new) same (there (subst (λ x. IsThere (new.keeper x)) (sym same) is)))
      (λ ne. slab_same k b new o (else.same o ne) (fits.there o (subst IsThere (else.keeper o ne) is)));
  absent = λ o none. equal_or e o
      (λ same. subst (NoneFits new) same (absent (λ is. none (subst (λ x. IsThere (new.keeper x)) same is))))
      (λ ne. none_same b new o (else.same o ne)
      (fits.absent o (λ is. none (subst IsThere (sym (else.keeper o ne)) is))));
}

-- one seat has another record of one slab, and no other seat has one
pub records-set : (k : Key) (b new : Book) (kept : ℕ → Kept) (words now : ℕ → ℕ) (seat e : ℕ) (s : Kept)
    (x : Option HeapSlab) → Elsewhere b new e → RecordsFit b kept words → Changed k (kept seat) s e x
    → ((t : ℕ) → seat ≢ t → record_at (kept t).records e ≡ None)
    → ((t : ℕ) → seat ≢ t → new.keeper e ≢ Keeper.By t)
    → (new.keeper e ≡ Keeper.By seat → x ≡ Some (record_of new e))
    → (new.keeper e ≢ Keeper.By seat → x ≡ None)
    → (IsLeft (new.keeper e) → now e ≡ to_header (record_of new e))
    → ((o : ℕ) → e ≢ o → now o ≡ words o)
    → RecordsFit new (put kept seat s) now
records-set k b new kept words now seat e s x else fits change none others mine strange header rest = record {
  mine = λ o t by. put-each (λ t q. new.keeper o ≡ Keeper.By t → record_at q.records o ≡ Some (record_of new o))
      kept seat s
      (λ t ne by. equal_or e o
      (λ same. absurd (others t ne (subst (λ y. new.keeper y ≡ Keeper.By t) (sym same) by)))
      (λ no. fits.mine o t (sym (else.keeper o no) ∙ by) ∙ ap Some (sym (else.same o no))))
      (λ by. equal_or e o
      (λ same. subst (λ y. record_at s.records y ≡ Some (record_of new y)) same
      (change.here ∙ mine (subst (λ y. new.keeper y ≡ Keeper.By seat) (sym same) by)))
      (λ no. change.others o no ∙ fits.mine o seat (sym (else.keeper o no) ∙ by) ∙ ap Some (sym (else.same o no))))
      t by;
  strange = λ o t not. put-each (λ t q. new.keeper o ≢ Keeper.By t → record_at q.records o ≡ None) kept seat s
      (λ t ne not. equal_or e o
      (λ same. subst (λ y. record_at (kept t).records y ≡ None) same (none t ne))
      (λ no. fits.strange o t (λ is. not (else.keeper o no ∙ is))))
      (λ not. equal_or e o
      (λ same. subst (λ y. record_at s.records y ≡ None) same
      (change.here ∙ strange (λ is. not (subst (λ y. new.keeper y ≡ Keeper.By seat) same is))))
      (λ no. change.others o no ∙ fits.strange o seat (λ is. not (else.keeper o no ∙ is))))
      t not;
  header = λ o left. equal_or e o
      (λ same. subst (λ y. now y ≡ to_header (record_of new y)) same
      (header (subst (λ y. IsLeft (new.keeper y)) (sym same) left)))
      (λ no. rest o no ∙ fits.header o (subst IsLeft (else.keeper o no) left)
      ∙ ap to_header (sym (else.same o no)));
}

-- the heaps stay, and a slab changes between no heaps
pub records-kept : (b new : Book) (kept : ℕ → Kept) (words : ℕ → ℕ)
    → ((o t : ℕ) → new.keeper o ≡ Keeper.By t → b.keeper o ≡ Keeper.By t)
    → ((o t : ℕ) → b.keeper o ≡ Keeper.By t → new.keeper o ≡ Keeper.By t)
    → ((o : ℕ) → record_of new o ≡ record_of b o) → ((o : ℕ) → IsLeft (new.keeper o) → IsLeft (b.keeper o))
    → RecordsFit b kept words → RecordsFit new kept words
records-kept b new kept words back to same left fits = record {
  mine = λ o t by. fits.mine o t (back o t by) ∙ ap Some (sym (same o));
  strange = λ o t not. fits.strange o t (λ is. not (to o t is));
  header = λ o is. fits.header o (left o is) ∙ ap to_header (sym (same o));
}

pub kinds-set : (b new : Book) (words : ℕ → Kind) (e : ℕ) (kind : Kind) → Elsewhere b new e
    → KindFits (new.keeper e) (new.classes e) kind → KindsFit b words → KindsFit new (put words e kind)
kinds-set b new words e kind else here fits = put-each (λ o q. KindFits (new.keeper o) (new.classes o) q) words e kind
    (λ o ne. subst (λ q. KindFits q (new.classes o) (words o)) (sym (else.keeper o ne))
    (subst (λ c. KindFits (b.keeper o) c (words o)) (sym (ap (λ (r : HeapSlab). r.class) (else.same o ne))) (fits o)))
    here

pub caches-set : (keeper new : ℕ → Keeper) (cached : ℕ → Rolled ℕ) → ((t o : ℕ) → is_cached t (new o)
    ≡ is_cached t (keeper o)) → CachesFit keeper cached → CachesFit new cached
caches-set keeper new cached same fits t o = fits t o ∙ sym (same t o)

-- a slab comes into one seat's cache, or leaves it
pub caches-moved : (keeper : ℕ → Keeper) (cached : ℕ → Rolled ℕ) (seat e : ℕ) (now : Keeper) (r : Rolled ℕ)
    → ((t : ℕ) → seat ≢ t → is_cached t now ≡ is_cached t (keeper e))
    → ((o : ℕ) → tally o r.items ≡ is_cached seat (put keeper e now o)) → CachesFit keeper cached
    → CachesFit (put keeper e now) (put cached seat r)
caches-moved keeper cached seat e now r same here fits = put-each
    (λ t q. (o : ℕ) → tally o q.items ≡ is_cached t (put keeper e now o)) cached seat r
    (λ t ne. put-each (λ o q. tally o (cached t).items ≡ is_cached t q) keeper e now (λ o no. fits t o)
    (fits t e ∙ sym (same t ne)))
    here

-- a granule changes that is cached only where it is one of the pool's
pub inside-put : (k : Key) (keeper : ℕ → Keeper) (e : ℕ) (now : Keeper)
    → ((seat : ℕ) → now ≡ Keeper.Cached seat → e < k.span) → CachedInside k keeper
    → CachedInside k (put keeper e now)
inside-put k keeper e now here inside o = put-each (λ o q. (seat : ℕ) → q ≡ Keeper.Cached seat → o < k.span) keeper e
    now (λ o _ seat is. inside o seat is) here o
