-- A new pool's slabs, those that are named, and what the wrong definitions come to.
use Rattle.std.proofs.Common.{◌≡◌, ◌≢◌, ℕ, ◌^◌, ◌<◌, ◌≤◌, Option, Some, None, List, [], ◌∷◌, refl, sym, ap}
use Rattle.std.proofs.Common.{subst, arith, ◌∙◌, inl, inr, replicate}
use Rattle.std.proofs.lemmas.Bool.Decides.{nat_tests}
use Rattle.std.proofs.lemmas.Bool.{cases_lt}
use Rattle.std.proofs.lemmas.List.{get_or-replicate, get_or_past, length-replicate}
use Rattle.pool_types.specs.Geometry.{class_count}
use Rattle.pool_words.specs.declared.words.Key.{Key}
use Rattle.pool_words.specs.Words.{kinds, headers}
use Rattle.size_classes.proofs.CallerLemmas.{class_objects-least}
use Rattle.word_codes.specs.declared.kinds.Kind.{Kind}
use Rattle.word_codes.specs.Kinds.{kind_of, kind_word}
use Rattle.word_codes.proofs.CallerLemmas.{kinds_read_back}
use Rattle.heap_slabs.specs.declared.records.HeapSlab.{HeapSlab}
use Rattle.heap_slabs.specs.Records.{unit_of, to_header, of_header}
use Rattle.heap_slabs.specs.Cached.{empty_cache}
use Rattle.heap_slabs.specs.Rolls.{after_push}
use Rattle.heap_slabs.specs.Slabs.{record_at, no_slabs, after_add, after_remove}
use Rattle.heap_slabs.proofs.Keeping.{kept_none}
use Rattle.word_laws.specs.Memory.{put}
use Rattle.word_laws.proofs.CallerLemmas.{put_else, equal_or}
use Rattle.chain_laws.specs.Named.{ten_key}
use Rattle.chain_laws.specs.Chains.{tally}
use Rattle.chain_laws.proofs.CallerLemmas.{put-each, tally-else}
use Rattle.slab_laws.specs.Books.{Keeper, IsThere, IsLeft, record_of, with_keeper}
use Rattle.slab_laws.specs.OneSlab.{IsSlabOf}
use Rattle.slab_laws.specs.Heaps.{SlabFits, NoneFits, HeapFits, KindFits, kinds_in}
use Rattle.slab_laws.specs.Heaps.{is_cached, SlabsGood}
use Rattle.slab_laws.specs.Named.{second_slab, orphan_slab, named_book, named_mem, named_slabs}
use Rattle.slab_laws.specs.Laws.{FreshPoolsHaveNoSlabs, BegunSlabsHaveNoObjects, ObjectsBeginInTheirSlab}
use Rattle.slab_laws.specs.Laws.{NamedSlabsStand}
use Rattle.slab_laws.specs.Wrong.{HeadlessTakesAreWrong, UncountedJoinsAreWrong}
use Rattle.slab_laws.specs.Wrong.{HeaderlessLeavingsAreWrong, SilentUncachingsAreWrong}
use Rattle.slab_laws.proofs.Units.{unit-inside, units-once}
use Rattle.slab_laws.proofs.Records.{record-of-slab}
use Rattle.slab_laws.proofs.Heaps.{Changed, added}
use Rattle.slab_laws.proofs.Taking.{header_gives}

pub begun_slabs_have_no_objects : BegunSlabsHaveNoObjects
begun_slabs_have_no_objects e class few = record {
  few = few;
  handed = omega arith;
  among = λ u some. absurd (omega arith);
  once = λ u. omega arith;
  head = refl;
  count = refl;
}

pub objects_begin_in_their_slab : ObjectsBeginInTheirSlab
objects_begin_in_their_slab e class i few even low = record {
  inside = unit-inside e class i few even low;
  once = λ j below same. units-once e class i j few low below same;
}

pub none_kept : (n e : ℕ) → record_at (replicate n None) e ≡ None
none_kept n e = elim (cases_lt e n) [
  | inl l ↦ get_or-replicate n e None None l
  | inr h ↦ get_or_past (replicate n None) e None (let long =
      length-replicate {A = Option HeapSlab} n None in omega arith)
]

pub empty_fits : (k : Key) → k.span < 2 ^ 32 → HeapFits k (no_slabs k.span)
empty_fits k few = record {
  are = kept_none k.span few;
  room = refl;
  lists = length-replicate {A = List ℕ} class_count [];
}

pub kind_none : kind_of 0 ≡ Kind.Nothing
unfolding kind_of
kind_none = refl

pub fresh_pools_have_no_slabs : FreshPoolsHaveNoSlabs
fresh_pools_have_no_slabs k few = record {
  book = record {
    span = few;
    there = λ e is. absurd is;
    absent = λ e none. record { handed = refl; count = refl; head = refl };
  };
  records = record {
    mine = λ e seat is. absurd (cc);
    strange = λ e seat not. none_kept k.span e;
    header = λ e is. absurd is;
  };
  heaps = λ seat. empty_fits k few;
  kinds' = λ e. subst (λ q. KindFits Keeper.Nobody 0 q) (sym kind_none) tt;
  caches = λ seat e. refl;
  inside = λ e seat is. absurd (cc);
}

-- what is so at each of the granules that are named, and at each other one
granules : (P : ℕ → Type 0) → P 2 → P 4 → P 6 → P 9
    → ((e : ℕ) → 2 ≢ e → 4 ≢ e → 6 ≢ e → 9 ≢ e → P e) → (e : ℕ) → P e
granules P two four six nine rest e = equal_or 2 e (λ s. subst P s two) (λ a. equal_or 4 e (λ s. subst P s four)
    (λ b. equal_or 6 e (λ s. subst P s six) (λ c. equal_or 9 e (λ s. subst P s nine) (λ d. rest e a b c d))))

keeper_else : (e : ℕ) → 2 ≢ e → 4 ≢ e → 6 ≢ e → named_book.keeper e ≡ Keeper.Nobody
keeper_else e a b c = put_else (put (put (λ e. Keeper.Nobody) 2 (Keeper.By 0)) 4 Keeper.Orphan) 6 e (Keeper.Cached 0) c
    ∙ put_else (put (λ e. Keeper.Nobody) 2 (Keeper.By 0)) 4 e Keeper.Orphan b
    ∙ put_else (λ e. Keeper.Nobody) 2 e (Keeper.By 0) a

named_slab : IsSlabOf second_slab (unit_of 2 4 0 ∷ [])
named_slab = record {
  few = omega arith;
  handed = class_objects-least 4 (omega arith);
  among = λ u some. (
    0,
    omega arith,
    equal_or u (unit_of 2 4 0) (λ e. e)
        (λ ne. absurd (let t = tally-else u (unit_of 2 4 0) [] ne in omega arith)),
  );
  once = λ u. grind (arith, nat_tests);
  head = refl;
  count = refl;
}

change : Changed ten_key (no_slabs 10) (after_add (no_slabs 10) second_slab) 2 (Some second_slab)
change = added ten_key (no_slabs 10) second_slab (empty_fits ten_key (omega arith)) (none_kept 10 2) (omega arith)
    (omega arith)

kinds_else : (e : ℕ) → 2 ≢ e → 4 ≢ e → 6 ≢ e → 9 ≢ e → named_mem kinds e ≡ 0
kinds_else e a b c d =
    put_else (put (put (put (λ i. 0) 2 (kind_word (Kind.Slab 4))) 4 (kind_word (Kind.Slab 7))) 6
    (kind_word Kind.CachedSlab)) 9 e (kind_word (Kind.Large 9 1)) d
    ∙ put_else (put (put (λ i. 0) 2 (kind_word (Kind.Slab 4))) 4 (kind_word (Kind.Slab 7))) 6 e
    (kind_word Kind.CachedSlab) c
    ∙ put_else (put (λ i. 0) 2 (kind_word (Kind.Slab 4))) 4 e (kind_word (Kind.Slab 7)) b
    ∙ put_else (λ i. 0) 2 e (kind_word (Kind.Slab 4)) a

one_cached : (e : ℕ) → 6 ≢ e → tally e (6 ∷ []) ≡ 0
one_cached e ne = tally-else e 6 [] (λ s. ne (sym s))

empty_tally : (e : ℕ) → tally e (empty_cache.items) ≡ 0
empty_tally e = refl

named_good : SlabsGood ten_key named_slabs
named_good = record {
  book = record {
    span = omega arith;
    there = granules (λ e. IsThere (named_book.keeper e) → SlabFits ten_key named_book e)
        (λ _. record {
          place = record { even = refl; inside = omega arith };
          class = omega arith;
          record' = record-of-slab second_slab (unit_of 2 4 0 ∷ []) named_slab;
        })
        (λ _. record {
          place = record { even = refl; inside = omega arith };
          class = omega arith;
          record' = record-of-slab orphan_slab [] (begun_slabs_have_no_objects 4 7 (omega arith));
        })
        (λ is. absurd is) (λ is. absurd is) (λ e a b c d is. absurd (subst IsThere (keeper_else e a b c) is));
    absent = granules (λ e. (IsThere (named_book.keeper e) → ⊥) → NoneFits named_book e)
        (λ no. absurd (no tt)) (λ no. absurd (no tt))
        (λ no. record { handed = refl; count = refl; head = refl })
        (λ no. record { handed = refl; count = refl; head = refl })
        (λ e a b c d no. record {
          handed = put_else (λ e. 0) 2 e 2 a;
          count = put_else (λ e. 0) 2 e 1 a;
          head = put_else (λ e. None) 2 e (Some (unit_of 2 4 0)) a;
        });
  };
  records = record {
    mine = granules (λ e. (t : ℕ) → named_book.keeper e ≡ Keeper.By t
        → record_at (named_slabs.kept t).records e ≡ Some (record_of named_book e))
        (λ t by. subst (λ x. record_at (named_slabs.kept x).records 2 ≡ Some (record_of named_book 2))
        (let q : 0 ≡ t = cc in q) change.here)
        (λ t by. absurd (cc)) (λ t by. absurd (cc)) (λ t by. absurd (cc))
        (λ e a b c d t by. absurd (let k = keeper_else e a b c in cc));
    strange = λ e. put-each (λ t q. named_book.keeper e ≢ Keeper.By t → record_at q.records e ≡ None)
        (λ seat. no_slabs 10) 0 (after_add (no_slabs 10) second_slab) (λ t ne not. none_kept 10 e)
        (λ not. equal_or 2 e
        (λ same. absurd (not (subst (λ x. named_book.keeper x ≡ Keeper.By 0) same refl)))
        (λ ne. change.others e ne ∙ none_kept 10 e));
    header = granules (λ e. IsLeft (named_book.keeper e) → named_mem headers e ≡ to_header (record_of named_book e))
        (λ is. absurd is) (λ is. refl) (λ is. absurd is) (λ is. absurd is)
        (λ e a b c d is. absurd (subst IsLeft (keeper_else e a b c) is));
  };
  heaps = put-each (λ t q. HeapFits ten_key q) (λ seat. no_slabs 10) 0 (after_add (no_slabs 10) second_slab)
      (λ t _. empty_fits ten_key (omega arith)) change.fits;
  kinds' = granules (λ e. KindFits (named_book.keeper e) (named_book.classes e) (kinds_in named_mem e))
      (kinds_read_back (Kind.Slab 4) (omega arith)) (kinds_read_back (Kind.Slab 7) (omega arith))
      (kinds_read_back Kind.CachedSlab tt)
      (subst (λ q. KindFits Keeper.Nobody 0 q) (sym (kinds_read_back (Kind.Large 9 1) (omega arith, omega arith))) tt)
      (λ e a b c d. subst (λ q. KindFits q (named_book.classes e) (kinds_in named_mem e)) (sym (keeper_else e a b c))
      (subst (λ q. KindFits Keeper.Nobody (named_book.classes e) q)
      (sym (ap kind_of (kinds_else e a b c d) ∙ kind_none)) tt));
  caches = put-each (λ t q. (e : ℕ) → tally e q.items ≡ is_cached t (named_book.keeper e)) (λ seat. empty_cache) 0
      (after_push empty_cache 6)
      (λ t ne. granules (λ e. 0 ≡ is_cached t (named_book.keeper e)) refl refl (grind (arith, nat_tests)) refl
      (λ e a b c d. sym (ap (is_cached t) (keeper_else e a b c))))
      (granules (λ e. tally e (6 ∷ []) ≡ is_cached 0 (named_book.keeper e)) refl refl refl refl
      (λ e a b c d. one_cached e c ∙ sym (ap (is_cached 0) (keeper_else e a b c))));
  inside = granules (λ e. (t : ℕ) → named_book.keeper e ≡ Keeper.Cached t → e < 10)
      (λ t is. omega arith) (λ t is. omega arith) (λ t is. omega arith) (λ t is. omega arith)
      (λ e a b c d t is. absurd (let k = keeper_else e a b c in cc));
}

pub named_slabs_stand : NamedSlabsStand
named_slabs_stand = record { good = named_good; slab = named_slab }

-- wrong definitions
both_private : HeapSlab
both_private = record { slab = 2; class = 4; handed = 2; count = 0; head = Some (unit_of 2 4 1) }

both_are : IsSlabOf both_private (unit_of 2 4 1 ∷ unit_of 2 4 0 ∷ [])
unfolding both_private
both_are = record {
  few = omega arith;
  handed = class_objects-least 4 (omega arith);
  among = λ u some. equal_or u (unit_of 2 4 1) (λ e. (1, omega arith, e))
      (λ ne. equal_or u (unit_of 2 4 0) (λ e. (0, omega arith, e)) (λ no. absurd (
      let t = tally-else u (unit_of 2 4 1) (unit_of 2 4 0 ∷ []) ne in
      let r = tally-else u (unit_of 2 4 0) [] no in omega arith)));
  once = λ u. once u;
  head = refl;
  count = refl;
}
  where
    apart : unit_of 2 4 1 ≢ unit_of 2 4 0
    apart same =
        let most = class_objects-least 4 (omega arith) in
        let one : ◌≡◌ {A = ℕ} 1 0 = units-once 2 4 1 0 (omega arith) (omega arith) (omega arith) same in omega arith

    once : (u : ℕ) → tally u (unit_of 2 4 1 ∷ unit_of 2 4 0 ∷ []) ≤ 1
    once u = equal_or u (unit_of 2 4 1)
        (λ e. let t = tally-else u (unit_of 2 4 0) [] (λ z. apart (sym e ∙ z)) in
        let h = ap (λ x. tally x (unit_of 2 4 1 ∷ unit_of 2 4 0 ∷ [])) e in grind (arith, nat_tests))
        (λ ne. let t = tally-else u (unit_of 2 4 1) (unit_of 2 4 0 ∷ []) ne in grind (arith, nat_tests))

pub headless_takes_are_wrong : HeadlessTakesAreWrong
unfolding both_private
headless_takes_are_wrong takes =
    let after = takes both_private (unit_of 2 4 1) (unit_of 2 4 0 ∷ []) both_are in
    let clash : None ≡ Some (unit_of 2 4 0) = after.head in cc

all_held : HeapSlab
all_held = record { slab = 2; class = 4; handed = 1; count = 1; head = None }

pub uncounted_joins_are_wrong : UncountedJoinsAreWrong
unfolding all_held
uncounted_joins_are_wrong joins =
    let most = class_objects-least 4 (omega arith) in
    let after = joins all_held [] (unit_of 2 4 0) [] (record {
      few = omega arith;
      handed = omega arith;
      among = λ u some. absurd (omega arith);
      once = λ u. omega arith;
      head = refl;
      count = refl;
    }) (λ u. grind (arith, nat_tests))
    (λ u some. (
      0,
      omega arith,
      equal_or u (unit_of 2 4 0) (λ e. e)
          (λ ne. absurd (let t = tally-else u (unit_of 2 4 0) [] ne in omega arith)),
    ))
    (λ u some. refl) in
    let clash : ◌≡◌ {A = ℕ} 2 1 = after.count in omega arith

header_of_none : (of_header 2 4 0).handed ≡ 0
unfolding of_header
header_of_none = refl

pub headerless_leavings_are_wrong : HeaderlessLeavingsAreWrong
headerless_leavings_are_wrong leaves =
    let after = leaves ten_key named_slabs 0 2 named_good refl in
    let left = header_gives ten_key (record named_slabs {
      book = with_keeper 2 Keeper.Orphan named_book;
      kept = put named_slabs.kept 0 (after_remove (named_slabs.kept 0) 2);
    }) 2 after tt in
    let clash : ◌≡◌ {A = ℕ} 0 2 = sym header_of_none ∙ ap (λ (r : HeapSlab). r.handed) left in omega arith

pub silent_uncachings_are_wrong : SilentUncachingsAreWrong
silent_uncachings_are_wrong leaves =
    let after = leaves ten_key named_slabs 0 6 named_good refl in
    let kind : KindFits Keeper.Nobody 0 (kinds_in named_mem 6) = after.kinds' 6 in
    subst (λ q. KindFits Keeper.Nobody 0 q) (kinds_read_back Kind.CachedSlab tt) kind
