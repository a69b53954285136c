-- Objects that are taken, come back and are joined.
use Rattle.std.proofs.Common.{◌≡◌, ℕ, ◌+◌, ◌-◌, ◌<◌, ◌≤◌, Option, Some, None}
use Rattle.std.proofs.Common.{List, refl, sym, ap, subst, arith, ◌∙◌, inl, inr, ◌⊎◌}
use Rattle.std.proofs.lemmas.Bool.Decides.{nat_tests}
use Rattle.pool_words.specs.declared.words.Key.{Key}
use Rattle.pool_words.specs.Words.{headers}
use Rattle.size_classes.specs.Classes.{class_objects}
use Rattle.heap_slabs.specs.declared.records.HeapSlab.{HeapSlab}
use Rattle.heap_slabs.specs.Records.{after_take, after_free, after_join, of_header}
use Rattle.heap_slabs.specs.Slabs.{record_at, after_add, after_replace, take_by, after_take_of}
use Rattle.heap_slabs.specs.Slabs.{free_by, after_free_of, join_by, after_join_of}
use Rattle.word_laws.specs.Memory.{put}
use Rattle.word_laws.proofs.CallerLemmas.{put_here, less_or}
use Rattle.chain_laws.specs.Chains.{tally}
use Rattle.chain_laws.proofs.CallerLemmas.{put-each}
use Rattle.slab_laws.specs.Books.{Keeper, IsThere, IsLeft, record_of, with_private_taken, with_rest_taken, with_freed}
use Rattle.slab_laws.specs.Books.{with_joined, with_keeper, chain_taken, with_chain_taken}
use Rattle.slab_laws.specs.OneSlab.{IsRecord, HeadFits}
use Rattle.slab_laws.specs.Heaps.{Slabs, SlabFits, HeapFits, KindFits}
use Rattle.slab_laws.specs.Heaps.{kinds_in, is_cached, SlabsGood}
use Rattle.slab_laws.specs.Laws.{HeadersGiveRecords}
use Rattle.slab_laws.proofs.Records.{private_taken, rest_taken, after_take-private, after_take-rest, header_tells}
use Rattle.slab_laws.proofs.Heaps.{Changed, added, book-set, records-set}
use Rattle.slab_laws.proofs.Heaps.{caches-set, inside-put}
use Rattle.slab_laws.proofs.Steps.{by_one, there_by, none_of, counted, changed, private_taken_else}
use Rattle.slab_laws.proofs.Steps.{rest_taken_else, headed_else, headed_here, rest_here, keeper_else}
use Rattle.slab_laws.proofs.Steps.{span_of, moves}

-- what is done with a slab that is kept is done with its record
took : (k : Key) (s : Slabs) (seat e : ℕ) (below : Option ℕ) → SlabsGood k s → s.book.keeper e ≡ Keeper.By seat
    → after_take_of (s.kept seat) e below ≡ after_replace (s.kept seat) (after_take (record_of s.book e) below)
took k s seat e below good by = ap (take_by (s.kept seat) below) (good.records.mine e seat by)

pub takes_private : (k : Key) (s : Slabs) (seat e u : ℕ) (below : Option ℕ) → SlabsGood k s
    → s.book.keeper e ≡ Keeper.By seat → s.book.heads e ≡ Some u → IsRecord (after_take (record_of s.book e) below)
    → SlabsGood k (record s {
      book = with_private_taken e below s.book;
      kept = put s.kept seat (after_take_of (s.kept seat) e below);
    })
takes_private k s seat e u below good by head fits =
    let few = counted k s e good (there_by (s.book.keeper e) seat by) in
    let left = after_take-private (record_of s.book e) u below head few in
    changed k s (with_private_taken e below s.book) seat e
    (private_taken (record_of s.book e) below (s.book.counts e + 1))
    (after_take_of (s.kept seat) e below) good by refl (private_taken_else s.book e below) refl refl
    (headed_here s.book e (s.book.counts e + 1) below) refl (subst IsRecord left fits)
    (took k s seat e below good by ∙ ap (after_replace (s.kept seat)) left)

rest_record : (r : HeapSlab) → IsRecord r → r.head ≡ None → r.handed < class_objects r.class
    → IsRecord (rest_taken r (r.handed + 1) (r.count + 1))
rest_record r is none low = record {
  few = is.few;
  handed = omega arith;
  count = let c = is.count in omega arith;
  head = subst (HeadFits (rest_taken r (r.handed + 1) (r.count + 1))) (sym none)
      (let all : r.handed ≤ r.count = subst (HeadFits r) none is.head in omega arith);
}

pub takes_rest : (k : Key) (s : Slabs) (seat e : ℕ) → SlabsGood k s → s.book.keeper e ≡ Keeper.By seat
    → s.book.heads e ≡ None → s.book.handed e < class_objects (s.book.classes e)
    → SlabsGood k (record s {
      book = with_rest_taken e s.book;
      kept = put s.kept seat (after_take_of (s.kept seat) e None);
    })
takes_rest k s seat e good by none low =
    let few = counted k s e good (there_by (s.book.keeper e) seat by) in
    let left = after_take-rest (record_of s.book e) None none few low in
    let old = (good.book.there e (there_by (s.book.keeper e) seat by)).record' in
    changed k s (with_rest_taken e s.book) seat e
    (rest_taken (record_of s.book e) (s.book.handed e + 1) (s.book.counts e + 1))
    (after_take_of (s.kept seat) e None) good by refl (rest_taken_else s.book e) refl refl
    (rest_here s.book e) refl (rest_record (record_of s.book e) old none low)
    (took k s seat e None good by ∙ ap (after_replace (s.kept seat)) left)

pub frees : (k : Key) (s : Slabs) (seat e u : ℕ) → SlabsGood k s → s.book.keeper e ≡ Keeper.By seat
    → IsRecord (after_free (record_of s.book e) u)
    → SlabsGood k (record s {
      book = with_freed e u s.book;
      kept = put s.kept seat (after_free_of (s.kept seat) e u);
    })
frees k s seat e u good by fits =
    changed k s (with_freed e u s.book) seat e (after_free (record_of s.book e) u) (after_free_of (s.kept seat) e u)
    good by refl (headed_else s.book e (s.book.counts e - 1) (Some u)) refl refl
    (headed_here s.book e (s.book.counts e - 1) (Some u)) refl fits
    (ap (free_by (s.kept seat) u) (good.records.mine e seat by))

pub joins : (k : Key) (s : Slabs) (seat e first joined : ℕ) → SlabsGood k s → s.book.keeper e ≡ Keeper.By seat
    → IsRecord (after_join (record_of s.book e) first joined)
    → SlabsGood k (record s {
      book = with_joined e first joined s.book;
      kept = put s.kept seat (after_join_of (s.kept seat) e first joined);
    })
joins k s seat e first joined good by fits =
    changed k s (with_joined e first joined s.book) seat e (after_join (record_of s.book e) first joined)
    (after_join_of (s.kept seat) e first joined) good by refl
    (headed_else s.book e (s.book.counts e - joined) (Some first)) refl refl
    (headed_here s.book e (s.book.counts e - joined) (Some first)) refl fits
    (ap (join_by (s.kept seat) first joined) (good.records.mine e seat by))

-- orphans
pub goes_back : (k : Key) (s : Slabs) (seat e : ℕ) → SlabsGood k s → s.book.keeper e ≡ Keeper.Adopting seat
    → SlabsGood k (record s { book = with_keeper e Keeper.Orphan s.book })
goes_back k s seat e good is = moves k s (put s.book.keeper e Keeper.Orphan) good
    (put-each (λ o q. (q ≡ s.book.keeper o) ⊎ (IsLeft (s.book.keeper o) × IsLeft q)) s.book.keeper e Keeper.Orphan
    (λ o _. inl refl) (inr (subst IsLeft (sym is) tt, tt)))

pub comes : (k : Key) (s : Slabs) (seat : ℕ) (chain : List ℕ) → SlabsGood k s
    → ((e : ℕ) → 0 < tally e chain → s.book.keeper e ≡ Keeper.Orphan)
    → SlabsGood k (record s { book = with_chain_taken seat chain s.book })
comes k s seat chain good orphans = moves k s (chain_taken seat chain s.book.keeper) good
    (λ o. less_or 0 (tally o chain)
    (λ some. inr (
      subst IsLeft (sym (orphans o some)) tt,
      (let now : chain_taken seat chain s.book.keeper o ≡ Keeper.Adopting seat = grind (arith, nat_tests) in
          subst IsLeft (sym now) tt),
    ))
    (λ none. inl (grind (arith, nat_tests))))

pub header_gives : HeadersGiveRecords
header_gives k s e good left =
    ap (of_header e (s.book.classes e)) (good.records.header e left)
    ∙ header_tells (record_of s.book e) (good.book.there e (left_there (s.book.keeper e) left)).record'
  where
    left_there : (q : Keeper) → IsLeft q → IsThere q
    left_there Keeper.Nobody l = absurd l
    left_there (Keeper.By t) l = absurd l
    left_there Keeper.Orphan l = tt
    left_there (Keeper.Adopting t) l = tt
    left_there (Keeper.Cached t) l = absurd l

pub adopts : (k : Key) (s : Slabs) (seat e : ℕ) → SlabsGood k s → s.book.keeper e ≡ Keeper.Adopting seat
    → SlabsGood k (record s {
      book = with_keeper e (Keeper.By seat) s.book;
      kept = put s.kept seat (after_add (s.kept seat) (of_header e (s.book.classes e) (s.mem headers e)));
    })
adopts k s seat e good is =
    let read = header_gives k s e good (subst IsLeft (sym is) tt) in
    subst (λ (r : HeapSlab). SlabsGood k (record s {
      book = with_keeper e (Keeper.By seat) s.book;
      kept = put s.kept seat (after_add (s.kept seat) r);
    })) (sym read) made
  where
    none : (t : ℕ) → record_at (s.kept t).records e ≡ None
    none = none_of k s e good (λ t by. cc (sym is ∙ by))

    old : SlabFits k s.book e
    old = good.book.there e (subst IsThere (sym is) tt)

    change : Changed k (s.kept seat) (after_add (s.kept seat) (record_of s.book e)) e (Some (record_of s.book e))
    change = added k (s.kept seat) (record_of s.book e) (good.heaps seat) (none seat) old.class
        (span_of k e old.place)

    by : put s.book.keeper e (Keeper.By seat) e ≡ Keeper.By seat
    by = put_here s.book.keeper e e (Keeper.By seat) refl

    made : SlabsGood k (record s {
      book = with_keeper e (Keeper.By seat) s.book;
      kept = put s.kept seat (after_add (s.kept seat) (record_of s.book e));
    })
    made = record {
      book = book-set k s.book (with_keeper e (Keeper.By seat) s.book) e (keeper_else s.book e (Keeper.By seat))
          (λ _. record { place = old.place; class = old.class; record' = old.record' })
          (λ not. absurd (not (subst IsThere (sym by) tt))) good.book;
      records = records-set k s.book (with_keeper e (Keeper.By seat) s.book) s.kept (s.mem headers) (s.mem headers)
          seat e (after_add (s.kept seat) (record_of s.book e)) (Some (record_of s.book e))
          (keeper_else s.book e (Keeper.By seat)) good.records change (λ t _. none t)
          (λ t ne now. ne (by_one (put s.book.keeper e (Keeper.By seat) e) seat t by now)) (λ _. refl)
          (λ no. absurd (no by)) (λ left. absurd (subst IsLeft by left)) (λ o _. refl);
      heaps = put-each (λ t x. HeapFits k x) s.kept seat (after_add (s.kept seat) (record_of s.book e))
          (λ t _. good.heaps t) change.fits;
      kinds' = put-each (λ o q. KindFits q (s.book.classes o) (kinds_in s.mem o)) s.book.keeper e (Keeper.By seat)
          (λ o _. good.kinds' o) (subst (λ q. KindFits q (s.book.classes e) (kinds_in s.mem e)) is (good.kinds' e));
      caches = caches-set s.book.keeper (put s.book.keeper e (Keeper.By seat)) s.cached
          (λ t. put-each (λ o q. is_cached t q ≡ is_cached t (s.book.keeper o)) s.book.keeper e (Keeper.By seat)
          (λ o _. refl) (sym (ap (is_cached t) is))) good.caches;
      inside = inside-put k s.book.keeper e (Keeper.By seat) (λ t is'. cc) good.inside;
    }
