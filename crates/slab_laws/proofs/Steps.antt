-- Each step keeps what holds of slabs.
use Rattle.std.proofs.Common.{◌≡◌, ◌≢◌, ℕ, ◌+◌, ◌^◌, ◌<◌, Option, Some, None}
use Rattle.std.proofs.Common.{refl, sym, ap, subst, arith, ◌∙◌, inl, inr, ◌⊎◌}
use Rattle.pool_types.specs.Geometry.{class_count}
use Rattle.pool_words.specs.declared.words.Key.{Key}
use Rattle.pool_words.specs.declared.words.Word.{Word}
use Rattle.pool_words.specs.declared.actions.Action.TheVariants.{Store}
use Rattle.pool_words.specs.Words.{kinds, headers}
use Rattle.size_classes.proofs.CallerLemmas.{class_objects-most}
use Rattle.word_codes.specs.declared.kinds.Kind.{Kind}
use Rattle.word_codes.specs.Kinds.{kind_of, kind_word, FitsKind}
use Rattle.word_codes.proofs.CallerLemmas.{kinds_read_back}
use Rattle.heap_slabs.specs.declared.records.HeapSlab.{HeapSlab}
use Rattle.heap_slabs.specs.Records.{begun, to_header}
use Rattle.heap_slabs.specs.Slabs.{Kept, record_at, after_add, after_replace, after_remove}
use Rattle.word_laws.specs.Memory.{Mem, put, write, after}
use Rattle.word_laws.proofs.CallerLemmas.{put_here, put_else, read_put, stored-valid}
use Rattle.chain_laws.proofs.CallerLemmas.{put-each}
use Rattle.slab_laws.specs.Books.{Keeper, Book, IsThere, IsLeft, record_of, with_private_taken, with_rest_taken}
use Rattle.slab_laws.specs.Books.{with_begun, with_ended, with_keeper}
use Rattle.slab_laws.specs.OneSlab.{IsRecord}
use Rattle.slab_laws.specs.Heaps.{Slabs, IsPlace, HeapFits, KindFits, KindsFit}
use Rattle.slab_laws.specs.Heaps.{kinds_in, is_cached, CachesFit, CachedInside, SlabsGood}
use Rattle.slab_laws.proofs.Heaps.{Changed, replaced, added, removed, Elsewhere, book-set, records-set, records-kept}
use Rattle.slab_laws.proofs.Heaps.{kinds-set, caches-set, inside-put}

pub by_one : (keeper : Keeper) (seat other : ℕ) → keeper ≡ Keeper.By seat → keeper ≡ Keeper.By other → seat ≡ other
by_one keeper seat other e f = cc

pub there_by : (keeper : Keeper) (seat : ℕ) → keeper ≡ Keeper.By seat → IsThere keeper
there_by keeper seat e = subst IsThere (sym e) tt

-- what a seat keeps, another does not
pub others_none : (k : Key) (s : Slabs) (seat e : ℕ) → SlabsGood k s → s.book.keeper e ≡ Keeper.By seat
    → (t : ℕ) → seat ≢ t → record_at (s.kept t).records e ≡ None
others_none k s seat e good by t ne = good.records.strange e t (λ is. ne (by_one (s.book.keeper e) seat t by is))

pub none_of : (k : Key) (s : Slabs) (e : ℕ) → SlabsGood k s → ((t : ℕ) → s.book.keeper e ≢ Keeper.By t) → (t : ℕ)
    → record_at (s.kept t).records e ≡ None
none_of k s e good not t = good.records.strange e t (not t)

pub counted : (k : Key) (s : Slabs) (e : ℕ) → SlabsGood k s → IsThere (s.book.keeper e) → s.book.counts e < 2 ^ 32
counted k s e good is =
    let r = (good.book.there e is).record' in
    let c = r.count in let h = r.handed in let most = class_objects-most (s.book.classes e) in omega arith

-- one seat has another record of a slab that it keeps, of the same class
pub changed : (k : Key) (s : Slabs) (new : Book) (seat e : ℕ) (next : HeapSlab) (after' : Kept) → SlabsGood k s
    → s.book.keeper e ≡ Keeper.By seat → new.keeper ≡ s.book.keeper → Elsewhere s.book new e → next.slab ≡ e
    → s.book.classes e ≡ next.class → record_of new e ≡ next → new.classes ≡ s.book.classes → IsRecord next
    → after' ≡ after_replace (s.kept seat) next
    → SlabsGood k (record s { book = new; kept = put s.kept seat after' })
changed k s new seat e next after' good by keepers else slab class is classes fits now =
    let there = good.records.mine e seat by in
    let here : record_at (s.kept seat).records next.slab ≡ Some (record_of s.book e) =
    ap (record_at (s.kept seat).records) slab ∙ there in
    let change = replaced k (s.kept seat) next (record_of s.book e) (good.heaps seat) here class in
    let at : Changed k (s.kept seat) after' e (Some next) = subst (λ x. Changed k (s.kept seat) x e (Some next))
    (sym now) (subst (λ x. Changed k (s.kept seat) (after_replace (s.kept seat) next) x (Some next)) slab change) in
    let kept : new.keeper e ≡ Keeper.By seat = ap (λ (f : ℕ → Keeper). f e) keepers ∙ by in
    let old = good.book.there e (there_by (s.book.keeper e) seat by) in
    record {
      book = book-set k s.book new e else
          (λ _. record {
            place = old.place;
            class = subst (λ (f : ℕ → ℕ). f e < class_count) (sym classes) old.class;
            record' = subst IsRecord (sym is) fits;
          })
          (λ none. absurd (none (there_by (new.keeper e) seat kept))) good.book;
      records = records-set k s.book new s.kept (s.mem headers) (s.mem headers) seat e after' (Some next) else
          good.records at (others_none k s seat e good by)
          (λ t ne is'. ne (by_one (new.keeper e) seat t kept is'))
          (λ _. ap Some (sym is)) (λ no. absurd (no kept)) (λ left. absurd (subst IsLeft kept left)) (λ o _. refl);
      heaps = put-each (λ t x. HeapFits k x) s.kept seat after' (λ t _. good.heaps t) at.fits;
      kinds' = λ o. subst (λ (f : ℕ → Keeper). KindFits (f o) (new.classes o) (kinds_in s.mem o)) (sym keepers)
          (subst (λ (f : ℕ → ℕ). KindFits (s.book.keeper o) (f o) (kinds_in s.mem o)) (sym classes) (good.kinds' o));
      caches = subst (λ (f : ℕ → Keeper). CachesFit f s.cached) (sym keepers) good.caches;
      inside = subst (λ (f : ℕ → Keeper). CachedInside k f) (sym keepers) good.inside;
    }

abbrev pub with_parts : ℕ → ℕ → ℕ → ℕ → Option ℕ → HeapSlab
with_parts e class handed count head = record {
  slab = e;
  class = class;
  handed = handed;
  count = count;
  head = head;
}

pub private_taken_else : (b : Book) (e : ℕ) (below : Option ℕ) → Elsewhere b (with_private_taken e below b) e
private_taken_else b e below = record {
  keeper = λ o ne. refl;
  same = λ o ne. ap (λ n. with_parts o (b.classes o) (b.handed o) n (put b.heads e below o))
      (put_else b.counts e o (b.counts e + 1) ne)
      ∙ ap (with_parts o (b.classes o) (b.handed o) (b.counts o)) (put_else b.heads e o below ne);
}

pub rest_taken_else : (b : Book) (e : ℕ) → Elsewhere b (with_rest_taken e b) e
rest_taken_else b e = record {
  keeper = λ o ne. refl;
  same = λ o ne. ap (λ n. with_parts o (b.classes o) n (put b.counts e (b.counts e + 1) o) (b.heads o))
      (put_else b.handed e o (b.handed e + 1) ne)
      ∙ ap (λ n. with_parts o (b.classes o) (b.handed o) n (b.heads o)) (put_else b.counts e o (b.counts e + 1) ne);
}

-- another head and another count
pub headed_else : (b : Book) (e count : ℕ) (head : Option ℕ)
    → Elsewhere b (record b { heads = put b.heads e head; counts = put b.counts e count }) e
headed_else b e count head = record {
  keeper = λ o ne. refl;
  same = λ o ne. ap (λ n. with_parts o (b.classes o) (b.handed o) n (put b.heads e head o))
      (put_else b.counts e o count ne)
      ∙ ap (with_parts o (b.classes o) (b.handed o) (b.counts o)) (put_else b.heads e o head ne);
}

pub headed_here : (b : Book) (e count : ℕ) (head : Option ℕ)
    → record_of (record b { heads = put b.heads e head; counts = put b.counts e count }) e
    ≡ with_parts e (b.classes e) (b.handed e) count head
headed_here b e count head = ap (λ n. with_parts e (b.classes e) (b.handed e) n (put b.heads e head e))
    (put_here b.counts e e count refl)
    ∙ ap (with_parts e (b.classes e) (b.handed e) count) (put_here b.heads e e head refl)

pub rest_here : (b : Book) (e : ℕ) → record_of (with_rest_taken e b) e
    ≡ with_parts e (b.classes e) (b.handed e + 1) (b.counts e + 1) (b.heads e)
rest_here b e = ap (λ n. with_parts e (b.classes e) n (put b.counts e (b.counts e + 1) e) (b.heads e))
    (put_here b.handed e e (b.handed e + 1) refl)
    ∙ ap (λ n. with_parts e (b.classes e) (b.handed e + 1) n (b.heads e)) (put_here b.counts e e (b.counts e + 1) refl)

pub keeper_else : (b : Book) (e : ℕ) (keeper : Keeper) → Elsewhere b (with_keeper e keeper b) e
keeper_else b e keeper = record { keeper = λ o ne. put_else b.keeper e o keeper ne; same = λ o ne. refl }

-- a slab begins with this class, or ends
pub begun_else : (b : Book) (seat e class : ℕ) → Elsewhere b (with_begun seat e class b) e
begun_else b seat e class = record {
  keeper = λ o ne. put_else b.keeper e o (Keeper.By seat) ne;
  same = λ o ne. ap (λ n. with_parts o n (put b.handed e 0 o) (put b.counts e 0 o) (put b.heads e None o))
      (put_else b.classes e o class ne)
      ∙ ap (λ n. with_parts o (b.classes o) n (put b.counts e 0 o) (put b.heads e None o)) (put_else b.handed e o 0 ne)
      ∙ ap (λ n. with_parts o (b.classes o) (b.handed o) n (put b.heads e None o)) (put_else b.counts e o 0 ne)
      ∙ ap (with_parts o (b.classes o) (b.handed o) (b.counts o)) (put_else b.heads e o None ne);
}

pub begun_here : (b : Book) (seat e class : ℕ) → record_of (with_begun seat e class b) e ≡ begun e class
begun_here b seat e class =
    ap (λ n. with_parts e n (put b.handed e 0 e) (put b.counts e 0 e) (put b.heads e None e))
    (put_here b.classes e e class refl)
    ∙ ap (λ n. with_parts e class n (put b.counts e 0 e) (put b.heads e None e)) (put_here b.handed e e 0 refl)
    ∙ ap (λ n. with_parts e class 0 n (put b.heads e None e)) (put_here b.counts e e 0 refl)
    ∙ ap (with_parts e class 0 0) (put_here b.heads e e None refl)

pub ended_else : (b : Book) (e : ℕ) → Elsewhere b (with_ended e b) e
ended_else b e = record {
  keeper = λ o ne. put_else b.keeper e o Keeper.Nobody ne;
  same = λ o ne. ap (λ n. with_parts o (b.classes o) n (put b.counts e 0 o) (put b.heads e None o))
      (put_else b.handed e o 0 ne)
      ∙ ap (λ n. with_parts o (b.classes o) (b.handed o) n (put b.heads e None o)) (put_else b.counts e o 0 ne)
      ∙ ap (with_parts o (b.classes o) (b.handed o) (b.counts o)) (put_else b.heads e o None ne);
}

-- a store of a kind word
pub kinds_stored : (m : Mem) (e : ℕ) (kind : Kind) → FitsKind kind
    → kinds_in (write m kinds e (kind_word kind)) ≡ put (kinds_in m) e kind
kinds_stored m e kind fits = λ n j.
    (read_put kind_of (m kinds) e (kind_word kind) j ∙ ap (λ x. put (kinds_in m) e x j) (kinds_read_back kind fits)) n

abbrev pub with_mem : Slabs → Mem → Slabs
with_mem s m = record s { mem = m }

pub kind_store : (k : Key) (s : Slabs) (m : Mem) (e : ℕ) (kind : Kind) → e < k.span + 1
    → SlabsGood k (with_mem s (write m kinds e (kind_word kind)))
    → SlabsGood k (with_mem s (after k m (Store (Word.Kind e) (kind_word kind))))
kind_store k s m e kind low good = subst (λ (x : Mem). SlabsGood k (with_mem s x))
    (sym (stored-valid k m (Word.Kind e) (kind_word kind) low)) good

-- what a slab's granules are
pub span_of : (k : Key) (e : ℕ) → IsPlace k e → e < k.span
span_of k e place = let i = place.inside in omega arith

pub kind_fits : (b : Book) (e : ℕ) (keeper : Keeper) (class : ℕ) (kind : Kind) → b.keeper e ≡ keeper → b.classes e ≡ class
    → KindFits keeper class kind → KindFits (b.keeper e) (b.classes e) kind
kind_fits b e keeper class kind is of fits = subst (λ q. KindFits q (b.classes e) kind) (sym is)
    (subst (λ c. KindFits keeper c kind) (sym of) fits)

pub fits_class : (class : ℕ) → class < class_count → FitsKind (Kind.Slab class)
fits_class class low = omega arith

-- begins, ends
pub begins : (k : Key) (s : Slabs) (seat e class : ℕ) → SlabsGood k s → s.book.keeper e ≡ Keeper.Nobody → IsPlace k e
    → class < class_count
    → SlabsGood k (record {
      book = with_begun seat e class s.book;
      mem = after k s.mem (Store (Word.Kind e) (kind_word (Kind.Slab class)));
      kept = put s.kept seat (after_add (s.kept seat) (begun e class));
      cached = s.cached;
    })
begins k s seat e class good nobody place low =
    let none = none_of k s e good (λ t is. cc (sym nobody ∙ is)) in
    let change = added k (s.kept seat) (begun e class) (good.heaps seat) (none seat) low (span_of k e place) in
    let by : (with_begun seat e class s.book).keeper e ≡ Keeper.By seat =
    put_here s.book.keeper e e (Keeper.By seat) refl in
    let else = begun_else s.book seat e class in
    kind_store k (record {
      book = with_begun seat e class s.book;
      mem = s.mem;
      kept = put s.kept seat (after_add (s.kept seat) (begun e class));
      cached = s.cached;
    }) s.mem e (Kind.Slab class) (let i = place.inside in omega arith) (record {
      book = book-set k s.book (with_begun seat e class s.book) e else
          (λ _. record {
            place = place;
            class = subst (λ c. c < class_count) (sym (put_here s.book.classes e e class refl)) low;
            record' = subst IsRecord (sym (begun_here s.book seat e class)) (record {
              few = let i = place.inside in let span = good.book.span in omega arith;
              handed = omega arith;
              count = omega arith;
              head = omega arith;
            });
          })
          (λ not. absurd (not (there_by ((with_begun seat e class s.book).keeper e) seat by))) good.book;
      records = records-set k s.book (with_begun seat e class s.book) s.kept (s.mem headers) (s.mem headers) seat e
          (after_add (s.kept seat) (begun e class)) (Some (begun e class)) else good.records change (λ t _. none t)
          (λ t ne is. ne (by_one ((with_begun seat e class s.book).keeper e) seat t by is))
          (λ _. ap Some (sym (begun_here s.book seat e class))) (λ no. absurd (no by))
          (λ left. absurd (subst IsLeft by left)) (λ o _. refl);
      heaps = put-each (λ t x. HeapFits k x) s.kept seat (after_add (s.kept seat) (begun e class))
          (λ t _. good.heaps t) change.fits;
      kinds' = subst (λ (f : ℕ → Kind). KindsFit (with_begun seat e class s.book) f)
          (sym (kinds_stored s.mem e (Kind.Slab class) (fits_class class low)))
          (kinds-set s.book (with_begun seat e class s.book) (kinds_in s.mem) e (Kind.Slab class) else
          (kind_fits (with_begun seat e class s.book) e (Keeper.By seat) class (Kind.Slab class) by
          (put_here s.book.classes e e class refl) refl) good.kinds');
      caches = caches-set s.book.keeper (put s.book.keeper e (Keeper.By seat)) s.cached
          (λ t. put-each (λ o q. is_cached t q ≡ is_cached t (s.book.keeper o)) s.book.keeper e (Keeper.By seat)
          (λ o _. refl) (sym (ap (is_cached t) nobody))) good.caches;
      inside = inside-put k s.book.keeper e (Keeper.By seat) (λ t is. cc) good.inside;
    })

pub ends : (k : Key) (s : Slabs) (seat e : ℕ) → SlabsGood k s → s.book.keeper e ≡ Keeper.By seat
    → SlabsGood k (record {
      book = with_ended e s.book;
      mem = after k s.mem (Store (Word.Kind e) (kind_word Kind.Nothing));
      kept = put s.kept seat (after_remove (s.kept seat) e);
      cached = s.cached;
    })
ends k s seat e good by =
    let change = removed k (s.kept seat) e (record_of s.book e) (good.heaps seat) (good.records.mine e seat by) in
    let old = good.book.there e (there_by (s.book.keeper e) seat by) in
    let nobody : (with_ended e s.book).keeper e ≡ Keeper.Nobody = put_here s.book.keeper e e Keeper.Nobody refl in
    let else = ended_else s.book e in
    kind_store k (record {
      book = with_ended e s.book;
      mem = s.mem;
      kept = put s.kept seat (after_remove (s.kept seat) e);
      cached = s.cached;
    }) s.mem e Kind.Nothing (let i = old.place.inside in omega arith) (record {
      book = book-set k s.book (with_ended e s.book) e else (λ is. absurd (subst IsThere nobody is))
          (λ _. record {
            handed = put_here s.book.handed e e 0 refl;
            count = put_here s.book.counts e e 0 refl;
            head = put_here s.book.heads e e None refl;
          }) good.book;
      records = records-set k s.book (with_ended e s.book) s.kept (s.mem headers) (s.mem headers) seat e
          (after_remove (s.kept seat) e) None else good.records change (others_none k s seat e good by)
          (λ t ne is. cc (sym nobody ∙ is)) (λ is. cc (sym nobody ∙ is)) (λ _. refl)
          (λ left. absurd (subst IsLeft nobody left)) (λ o _. refl);
      heaps = put-each (λ t x. HeapFits k x) s.kept seat (after_remove (s.kept seat) e) (λ t _. good.heaps t)
          change.fits;
      kinds' = subst (λ (f : ℕ → Kind). KindsFit (with_ended e s.book) f)
          (sym (kinds_stored s.mem e Kind.Nothing tt))
          (kinds-set s.book (with_ended e s.book) (kinds_in s.mem) e Kind.Nothing else
          (kind_fits (with_ended e s.book) e Keeper.Nobody (s.book.classes e) Kind.Nothing nobody refl tt)
          good.kinds');
      caches = caches-set s.book.keeper (put s.book.keeper e Keeper.Nobody) s.cached
          (λ t. put-each (λ o q. is_cached t q ≡ is_cached t (s.book.keeper o)) s.book.keeper e Keeper.Nobody
          (λ o _. refl) (sym (ap (is_cached t) by))) good.caches;
      inside = inside-put k s.book.keeper e Keeper.Nobody (λ t is. cc) good.inside;
    })

-- headers, orphans
pub stores_header : (k : Key) (s : Slabs) (seat e : ℕ) → SlabsGood k s → s.book.keeper e ≡ Keeper.By seat
    → SlabsGood k (with_mem s (after k s.mem (Store (Word.Header e) (to_header (record_of s.book e)))))
stores_header k s seat e good by =
    let old = good.book.there e (there_by (s.book.keeper e) seat by) in
    subst (λ (x : Mem). SlabsGood k (with_mem s x))
    (sym (stored-valid k s.mem (Word.Header e) (to_header (record_of s.book e)) (span_of k e old.place)))
    (record {
      book = good.book;
      records = record {
        mine = good.records.mine;
        strange = good.records.strange;
        header = put-each (λ o w. IsLeft (s.book.keeper o) → w ≡ to_header (record_of s.book o)) (s.mem headers) e
            (to_header (record_of s.book e)) (λ o _. good.records.header o)
            (λ left. absurd (subst IsLeft by left));
      };
      heaps = good.heaps;
      kinds' = good.kinds';
      caches = good.caches;
      inside = good.inside;
    })

pub leaves : (k : Key) (s : Slabs) (seat e : ℕ) → SlabsGood k s → s.book.keeper e ≡ Keeper.By seat
    → s.mem headers e ≡ to_header (record_of s.book e)
    → SlabsGood k (record s {
      book = with_keeper e Keeper.Orphan s.book;
      kept = put s.kept seat (after_remove (s.kept seat) e);
    })
leaves k s seat e good by header =
    let change = removed k (s.kept seat) e (record_of s.book e) (good.heaps seat) (good.records.mine e seat by) in
    let old = good.book.there e (there_by (s.book.keeper e) seat by) in
    let orphan : put s.book.keeper e Keeper.Orphan e ≡ Keeper.Orphan =
    put_here s.book.keeper e e Keeper.Orphan refl in
    record {
      book = book-set k s.book (with_keeper e Keeper.Orphan s.book) e (keeper_else s.book e Keeper.Orphan)
          (λ _. record { place = old.place; class = old.class; record' = old.record' })
          (λ none. absurd (none (subst IsThere (sym orphan) tt))) good.book;
      records = records-set k s.book (with_keeper e Keeper.Orphan s.book) s.kept (s.mem headers) (s.mem headers) seat
          e (after_remove (s.kept seat) e) None (keeper_else s.book e Keeper.Orphan) good.records change
          (others_none k s seat e good by) (λ t ne is. cc (sym orphan ∙ is)) (λ is. cc (sym orphan ∙ is)) (λ _. refl)
          (λ _. header) (λ o _. refl);
      heaps = put-each (λ t x. HeapFits k x) s.kept seat (after_remove (s.kept seat) e) (λ t _. good.heaps t)
          change.fits;
      kinds' = put-each (λ o q. KindFits q (s.book.classes o) (kinds_in s.mem o)) s.book.keeper e Keeper.Orphan
          (λ o _. good.kinds' o) (subst (λ q. KindFits q (s.book.classes e) (kinds_in s.mem e)) by (good.kinds' e));
      caches = caches-set s.book.keeper (put s.book.keeper e Keeper.Orphan) s.cached
          (λ t. put-each (λ o q. is_cached t q ≡ is_cached t (s.book.keeper o)) s.book.keeper e Keeper.Orphan
          (λ o _. refl) (sym (ap (is_cached t) by))) good.caches;
      inside = inside-put k s.book.keeper e Keeper.Orphan (λ t is. cc) good.inside;
    }

-- slabs that nobody keeps go from one who keeps none to another
pub moves : (k : Key) (s : Slabs) (keeper : ℕ → Keeper) → SlabsGood k s
    → ((o : ℕ) → (keeper o ≡ s.book.keeper o) ⊎ (IsLeft (s.book.keeper o) × IsLeft (keeper o)))
    → SlabsGood k (record s { book = record s.book { keeper = keeper } })
moves k s keeper good same = record {
  book = record {
    span = good.book.span;
    there = λ o is. let old = good.book.there o (there o (same o) is) in
        record { place = old.place; class = old.class; record' = old.record' };
    absent = λ o none. let old = good.book.absent o (absent o (same o) none) in
        record { handed = old.handed; count = old.count; head = old.head };
  };
  records = records-kept s.book (record s.book { keeper = keeper }) s.kept (s.mem headers)
      (λ o t. back o t (same o)) (λ o t. to o t (same o)) (λ o. refl) (λ o. left o (same o)) good.records;
  heaps = good.heaps;
  kinds' = λ o. kind o (same o);
  caches = caches-set s.book.keeper keeper s.cached (λ t o. cached t o (same o)) good.caches;
  inside = λ o t is. inside o t (same o) is;
}
  where
    left_there : (q : Keeper) → IsLeft q → IsThere q
    left_there Keeper.Nobody l = absurd l
    left_there (Keeper.By t) l = absurd l
    left_there Keeper.Orphan l = tt
    left_there (Keeper.Adopting t) l = tt
    left_there (Keeper.Cached t) l = absurd l

    left_not_by : (q : Keeper) (t : ℕ) → IsLeft q → q ≡ Keeper.By t → ⊥
    left_not_by q t l e = subst IsLeft e l

    left_not_cached : (q : Keeper) (t : ℕ) → IsLeft q → is_cached t q ≡ 0
    left_not_cached Keeper.Nobody t l = absurd l
    left_not_cached (Keeper.By o) t l = absurd l
    left_not_cached Keeper.Orphan t l = refl
    left_not_cached (Keeper.Adopting o) t l = refl
    left_not_cached (Keeper.Cached o) t l = absurd l

    left_kind : (q r : Keeper) (class : ℕ) (kind : Kind) → IsLeft q → IsLeft r → KindFits q class kind
        → KindFits r class kind
    left_kind Keeper.Orphan Keeper.Orphan class kind l n fit = fit
    left_kind Keeper.Orphan (Keeper.Adopting t) class kind l n fit = fit
    left_kind (Keeper.Adopting o) Keeper.Orphan class kind l n fit = fit
    left_kind (Keeper.Adopting o) (Keeper.Adopting t) class kind l n fit = fit
    left_kind Keeper.Orphan Keeper.Nobody class kind l n fit = absurd n
    left_kind Keeper.Orphan (Keeper.By t) class kind l n fit = absurd n
    left_kind Keeper.Orphan (Keeper.Cached t) class kind l n fit = absurd n
    left_kind (Keeper.Adopting o) Keeper.Nobody class kind l n fit = absurd n
    left_kind (Keeper.Adopting o) (Keeper.By t) class kind l n fit = absurd n
    left_kind (Keeper.Adopting o) (Keeper.Cached t) class kind l n fit = absurd n
    left_kind Keeper.Nobody r class kind l n fit = absurd l
    left_kind (Keeper.By o) r class kind l n fit = absurd l
    left_kind (Keeper.Cached o) r class kind l n fit = absurd l

    there : (o : ℕ) → (keeper o ≡ s.book.keeper o) ⊎ (IsLeft (s.book.keeper o) × IsLeft (keeper o))
        → IsThere (keeper o) → IsThere (s.book.keeper o)
    there o (inl e) is = subst IsThere e is
    there o (inr b) is = left_there (s.book.keeper o) b.0

    absent : (o : ℕ) → (keeper o ≡ s.book.keeper o) ⊎ (IsLeft (s.book.keeper o) × IsLeft (keeper o))
        → (IsThere (keeper o) → ⊥) → IsThere (s.book.keeper o) → ⊥
    absent o (inl e) none is = none (subst IsThere (sym e) is)
    absent o (inr b) none is = none (left_there (keeper o) b.1)

    back : (o t : ℕ) → (keeper o ≡ s.book.keeper o) ⊎ (IsLeft (s.book.keeper o) × IsLeft (keeper o))
        → keeper o ≡ Keeper.By t → s.book.keeper o ≡ Keeper.By t
    back o t (inl e) by = sym e ∙ by
    back o t (inr b) by = absurd (left_not_by (keeper o) t b.1 by)

    to : (o t : ℕ) → (keeper o ≡ s.book.keeper o) ⊎ (IsLeft (s.book.keeper o) × IsLeft (keeper o))
        → s.book.keeper o ≡ Keeper.By t → keeper o ≡ Keeper.By t
    to o t (inl e) by = e ∙ by
    to o t (inr b) by = absurd (left_not_by (s.book.keeper o) t b.0 by)

    left : (o : ℕ) → (keeper o ≡ s.book.keeper o) ⊎ (IsLeft (s.book.keeper o) × IsLeft (keeper o))
        → IsLeft (keeper o) → IsLeft (s.book.keeper o)
    left o (inl e) is = subst IsLeft e is
    left o (inr b) is = b.0

    kind : (o : ℕ) → (keeper o ≡ s.book.keeper o) ⊎ (IsLeft (s.book.keeper o) × IsLeft (keeper o))
        → KindFits (keeper o) (s.book.classes o) (kinds_in s.mem o)
    kind o (inl e) = subst (λ q. KindFits q (s.book.classes o) (kinds_in s.mem o)) (sym e) (good.kinds' o)
    kind o (inr b) = left_kind (s.book.keeper o) (keeper o) (s.book.classes o) (kinds_in s.mem o) b.0 b.1 (good.kinds' o)

    inside : (o t : ℕ) → (keeper o ≡ s.book.keeper o) ⊎ (IsLeft (s.book.keeper o) × IsLeft (keeper o))
        → keeper o ≡ Keeper.Cached t → o < k.span
    inside o t (inl e) is = good.inside o t (sym e ∙ is)
    inside o t (inr b) is = absurd (subst IsLeft is b.1)

    cached : (t o : ℕ) → (keeper o ≡ s.book.keeper o) ⊎ (IsLeft (s.book.keeper o) × IsLeft (keeper o))
        → is_cached t (keeper o) ≡ is_cached t (s.book.keeper o)
    cached t o (inl e) = ap (is_cached t) e
    cached t o (inr b) = left_not_cached (keeper o) t b.1 ∙ sym (left_not_cached (s.book.keeper o) t b.0)
