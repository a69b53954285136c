-- The caches of empty slabs, kind words of large blocks, and other words.
use Rattle.std.proofs.Common.{◌≡◌, ◌≢◌, ℕ, zero, suc, ◌+◌, ◌-◌, ◌%◌, ◌^◌, ◌<◌, Bool, true, false, cond, eqb, Some}
use Rattle.std.proofs.Common.{List, [], ◌∷◌, ◌++◌, length, refl, sym, ap, subst, arith, ◌∙◌}
use Rattle.std.specs.Prelude.{slice_get, take, drop}
use Rattle.std.proofs.lemmas.Bool.Decides.{nat_tests}
use Rattle.std.proofs.lemmas.Option.{slice_get_within}
use Rattle.std.specs.Prelude.{⊤}
use Rattle.pool_words.specs.declared.words.Key.{Key}
use Rattle.pool_words.specs.declared.words.Word.{Word}
use Rattle.pool_words.specs.declared.actions.Action.{Action}
use Rattle.pool_words.specs.declared.actions.Action.TheVariants.{Load, Store, Swap, Exchange, Add}
use Rattle.pool_words.specs.declared.actions.Action.TheVariants.{TakeOffice, GiveOffice, Nothing}
use Rattle.pool_words.specs.Words.{kind_of_word, at_of, length_of, kinds, headers}
use Rattle.word_codes.specs.declared.kinds.Kind.{Kind}
use Rattle.word_codes.specs.Kinds.{kind_of, kind_word, FitsKind}
use Rattle.heap_slabs.specs.Rolls.{Rolled, after_push, newest_of, oldest_of, without_newest, without_oldest}
use Rattle.word_laws.specs.Memory.{Mem, put, stored, after, word_at}
use Rattle.word_laws.proofs.CallerLemmas.{put_here, less_or, write_else, stored-valid}
use Rattle.word_laws.proofs.CallerLemmas.{stored-void}
use Rattle.chain_laws.specs.Chains.{tally}
use Rattle.chain_laws.proofs.CallerLemmas.{put-each, tally-append, tally-here, tally-else}
use Rattle.slab_laws.specs.Books.{Keeper, IsThere, IsLeft}
use Rattle.slab_laws.specs.Books.{with_keeper}
use Rattle.slab_laws.specs.Heaps.{Slabs, RecordsFit, KindFits, KindsFit}
use Rattle.slab_laws.specs.Heaps.{kinds_in, is_cached, SlabsGood}
use Rattle.slab_laws.specs.Steps.{IsOtherWord, IsOtherAction}
use Rattle.slab_laws.proofs.Heaps.{book-set, records-kept}
use Rattle.slab_laws.proofs.Heaps.{kinds-set, caches-moved, inside-put}
use Rattle.slab_laws.proofs.Steps.{keeper_else}
use Rattle.slab_laws.proofs.Steps.{kinds_stored, kind_store, kind_fits, with_mem}

-- a granule that is no slab's goes into a cache or comes out
abbrev IsSlabless : Keeper → Type 0
IsSlabless Keeper.Nobody = ⊤
IsSlabless (Keeper.By seat) = ⊥
IsSlabless Keeper.Orphan = ⊥
IsSlabless (Keeper.Adopting seat) = ⊥
IsSlabless (Keeper.Cached seat) = ⊤

slabless_none : (q : Keeper) → IsSlabless q → IsThere q → ⊥
slabless_none Keeper.Nobody l is = is
slabless_none (Keeper.By t) l is = l
slabless_none Keeper.Orphan l is = l
slabless_none (Keeper.Adopting t) l is = l
slabless_none (Keeper.Cached t) l is = is

slabless_not_left : (q : Keeper) → IsSlabless q → IsLeft q → ⊥
slabless_not_left Keeper.Nobody l is = is
slabless_not_left (Keeper.By t) l is = l
slabless_not_left Keeper.Orphan l is = l
slabless_not_left (Keeper.Adopting t) l is = l
slabless_not_left (Keeper.Cached t) l is = is

slabless_not_by : (q : Keeper) (t : ℕ) → IsSlabless q → q ≡ Keeper.By t → ⊥
slabless_not_by q t l e = subst IsSlabless e l

cached_moves : (k : Key) (s : Slabs) (seat e : ℕ) (now : Keeper) (kind : Kind) (r : Rolled ℕ) → SlabsGood k s
    → IsSlabless (s.book.keeper e) → IsSlabless now → e < k.span → FitsKind kind
    → KindFits now (s.book.classes e) kind
    → ((t : ℕ) → seat ≢ t → is_cached t now ≡ is_cached t (s.book.keeper e))
    → ((o : ℕ) → tally o r.items ≡ is_cached seat (put s.book.keeper e now o))
    → SlabsGood k (record s {
      book = with_keeper e now s.book;
      mem = after k s.mem (Store (Word.Kind e) (kind_word kind));
      cached = put s.cached seat r;
    })
cached_moves k s seat e now kind r good was will low fits kinds_fit same here =
    let at : put s.book.keeper e now e ≡ now = put_here s.book.keeper e e now refl in
    kind_store k (record s { book = with_keeper e now s.book; cached = put s.cached seat r }) s.mem e kind (omega arith)
    (record {
      book = book-set k s.book (with_keeper e now s.book) e (keeper_else s.book e now)
          (λ is. absurd (slabless_none now will (subst IsThere at is)))
          (λ _. let old = good.book.absent e (slabless_none (s.book.keeper e) was) in
          record { handed = old.handed; count = old.count; head = old.head }) good.book;
      records = records-kept s.book (with_keeper e now s.book) s.kept (s.mem headers)
          (λ o t. put-each (λ o q. q ≡ Keeper.By t → s.book.keeper o ≡ Keeper.By t) s.book.keeper e now
          (λ o _ by. by) (λ by. absurd (slabless_not_by now t will by)) o)
          (λ o t by. put-each (λ o q. s.book.keeper o ≡ Keeper.By t → q ≡ Keeper.By t) s.book.keeper e now
          (λ o _ by. by) (λ by. absurd (slabless_not_by (s.book.keeper e) t was by)) o by)
          (λ o. refl)
          (put-each (λ o q. IsLeft q → IsLeft (s.book.keeper o)) s.book.keeper e now (λ o _ is. is)
          (λ is. absurd (slabless_not_left now will is))) good.records;
      heaps = good.heaps;
      kinds' = subst (λ (f : ℕ → Kind). KindsFit (with_keeper e now s.book) f)
          (sym (kinds_stored s.mem e kind fits))
          (kinds-set s.book (with_keeper e now s.book) (kinds_in s.mem) e kind (keeper_else s.book e now)
          (kind_fits (with_keeper e now s.book) e now (s.book.classes e) kind at refl kinds_fit) good.kinds');
      caches = caches-moved s.book.keeper s.cached seat e now r same here good.caches;
      inside = inside-put k s.book.keeper e now (λ _ _. low) good.inside;
    })

pushed : (r : Rolled ℕ) (e : ℕ) → length r.items < r.room → (after_push r e).items ≡ r.items ++ (e ∷ [])
pushed r e low = grind (arith, nat_tests)

cached_one : (seat t : ℕ) → seat ≢ t → is_cached t (Keeper.Cached seat) ≡ 0
cached_one seat t ne = grind (arith, nat_tests)

cached_here : (seat : ℕ) → is_cached seat (Keeper.Cached seat) ≡ 1
cached_here seat = grind (arith, nat_tests)

pub caches : (k : Key) (s : Slabs) (seat e : ℕ) → SlabsGood k s → s.book.keeper e ≡ Keeper.Nobody → e < k.span
    → length (s.cached seat).items < (s.cached seat).room
    → SlabsGood k (record s {
      book = with_keeper e (Keeper.Cached seat) s.book;
      mem = after k s.mem (Store (Word.Kind e) (kind_word Kind.CachedSlab));
      cached = put s.cached seat (after_push (s.cached seat) e);
    })
caches k s seat e good nobody low room =
    cached_moves k s seat e (Keeper.Cached seat) Kind.CachedSlab (after_push (s.cached seat) e) good
    (subst IsSlabless (sym nobody) tt) tt low tt refl
    (λ t ne. cached_one seat t ne ∙ sym (ap (is_cached t) nobody))
    (λ o. ap (tally o) (pushed (s.cached seat) e room) ∙ tally-append o (s.cached seat).items (e ∷ []) ∙ count o)
  where
    count : (o : ℕ) → tally o (s.cached seat).items + tally o (e ∷ [])
        ≡ is_cached seat (put s.book.keeper e (Keeper.Cached seat) o)
    count = put-each (λ o q. tally o (s.cached seat).items + tally o (e ∷ []) ≡ is_cached seat q) s.book.keeper e
        (Keeper.Cached seat)
        (λ o ne. let f = good.caches seat o in
        let z : tally o (e ∷ []) ≡ 0 = tally-else o e [] (λ x. ne (sym x)) in omega arith)
        (let f = good.caches seat e in let n = ap (is_cached seat) nobody in let h = cached_here seat in
        let z = tally-here e [] in omega arith)

is_his : (q : Keeper) (seat : ℕ) → 0 < is_cached seat q → q ≡ Keeper.Cached seat
is_his Keeper.Nobody seat some = absurd (omega arith)
is_his (Keeper.By o) seat some = absurd (omega arith)
is_his Keeper.Orphan seat some = absurd (omega arith)
is_his (Keeper.Adopting o) seat some = absurd (omega arith)
is_his (Keeper.Cached o) seat some = ap Keeper.Cached (grind (arith, nat_tests))

-- a slab leaves the cache, of which the others stay
uncached : (k : Key) (s : Slabs) (seat e : ℕ) (r : Rolled ℕ) → SlabsGood k s
    → ((o : ℕ) → tally o (s.cached seat).items ≡ tally o r.items + tally o (e ∷ []))
    → SlabsGood k (record s {
      book = with_keeper e Keeper.Nobody s.book;
      mem = after k s.mem (Store (Word.Kind e) (kind_word Kind.Nothing));
      cached = put s.cached seat r;
    })
uncached k s seat e r good parts =
    cached_moves k s seat e Keeper.Nobody Kind.Nothing r good (subst IsSlabless (sym his) tt) tt
    (good.inside e seat his) tt tt
    (λ t ne. sym (ap (is_cached t) his ∙ cached_one seat t ne)) count
  where
    his : s.book.keeper e ≡ Keeper.Cached seat
    his = is_his (s.book.keeper e) seat
        (let f = good.caches seat e in let p = parts e in let h = tally-here e [] in omega arith)

    count : (o : ℕ) → tally o r.items ≡ is_cached seat (put s.book.keeper e Keeper.Nobody o)
    count = put-each (λ o q. tally o r.items ≡ is_cached seat q) s.book.keeper e Keeper.Nobody
        (λ o ne. let f = good.caches seat o in let p = parts o in
        let z : tally o (e ∷ []) ≡ 0 = tally-else o e [] (λ x. ne (sym x)) in omega arith)
        (let f = good.caches seat e in let p = parts e in let h = tally-here e [] in
        let c = ap (is_cached seat) his in let one = cached_here seat in omega arith)

-- the parts of a list around one place
parted : (xs : List ℕ) (i e : ℕ) → slice_get xs i ≡ Some e → (o : ℕ)
    → tally o xs ≡ tally o (take i xs) + tally o (drop (suc i) xs) + tally o (e ∷ [])
parted [] i e is o = absurd (cc)
parted (x ∷ xs) zero e is o = let same : x ≡ e = cc in let t = ap (λ y. tally o (y ∷ [])) same in omega arith
parted (x ∷ xs) (suc i) e is o = let rest = parted xs i e is o in omega arith

dropped_all : (xs : List ℕ) → drop (length xs) xs ≡ []
dropped_all [] = refl
dropped_all (x ∷ xs) = dropped_all xs

pub newest_out : (k : Key) (s : Slabs) (seat e : ℕ) → SlabsGood k s → newest_of (s.cached seat) ≡ Some e
    → SlabsGood k (record s {
      book = with_keeper e Keeper.Nobody s.book;
      mem = after k s.mem (Store (Word.Kind e) (kind_word Kind.Nothing));
      cached = put s.cached seat (without_newest (s.cached seat));
    })
newest_out k s seat e good is = uncached k s seat e (without_newest (s.cached seat)) good
    (λ o. let p = parted (s.cached seat).items (length (s.cached seat).items - 1) e is o in
    let within = slice_get_within (s.cached seat).items (length (s.cached seat).items - 1) e is in
    let last : suc (length (s.cached seat).items - 1) ≡ length (s.cached seat).items = omega arith in
    let none = ap (tally o) (ap (λ n. drop n (s.cached seat).items) last ∙ dropped_all (s.cached seat).items) in
    omega arith)

pub oldest_out : (k : Key) (s : Slabs) (seat e : ℕ) → SlabsGood k s → oldest_of (s.cached seat) ≡ Some e
    → SlabsGood k (record s {
      book = with_keeper e Keeper.Nobody s.book;
      mem = after k s.mem (Store (Word.Kind e) (kind_word Kind.Nothing));
      cached = put s.cached seat (without_oldest (s.cached seat));
    })
oldest_out k s seat e good is = uncached k s seat e (without_oldest (s.cached seat)) good
    (λ o. let p = parted (s.cached seat).items 0 e is o in omega arith)

-- a large object's block
pub large : (k : Key) (s : Slabs) (e first granules : ℕ) → SlabsGood k s → s.book.keeper e ≡ Keeper.Nobody
    → FitsKind (Kind.Large first granules)
    → SlabsGood k (with_mem s (after k s.mem (Store (Word.Kind e) (kind_word (Kind.Large first granules)))))
large k s e first granules good nobody fits = less_or e (k.span + 1)
    (λ low. kind_store k s s.mem e (Kind.Large first granules) low (record {
      book = good.book;
      records = good.records;
      heaps = good.heaps;
      kinds' = subst (λ (f : ℕ → Kind). KindsFit s.book f)
          (sym (kinds_stored s.mem e (Kind.Large first granules) fits))
          (put-each (λ o q. KindFits (s.book.keeper o) (s.book.classes o) q) (kinds_in s.mem) e
          (Kind.Large first granules) (λ o _. good.kinds' o)
          (subst (λ q. KindFits q (s.book.classes e) (Kind.Large first granules)) (sym nobody) tt));
      caches = good.caches;
      inside = good.inside;
    }))
    (λ past. subst (λ (x : Mem). SlabsGood k (with_mem s x))
    (sym (stored-void k s.mem (Word.Kind e) (kind_word (Kind.Large first granules)) past)) good)

-- other words
abbrev IsSameThere : Mem → Mem → Type 0
IsSameThere m new = (new kinds ≡ m kinds) × (new headers ≡ m headers)

stored_same : (k : Key) (m : Mem) (w : Word) (value : ℕ) → IsOtherWord w → IsSameThere m (stored k m w value)
stored_same k m w value other = less_or (at_of w) (length_of k (kind_of_word w))
    (λ valid. subst (IsSameThere m) (sym (stored-valid k m w value valid)) (
      (λ n j. write_else m (kind_of_word w) kinds (at_of w) value j (λ e _. other.no_kind e) n),
      (λ n j. write_else m (kind_of_word w) headers (at_of w) value j (λ e _. other.no_header e) n),
    ))
    (λ void. subst (IsSameThere m) (sym (stored-void k m w value void)) (refl, refl))

same_after : (k : Key) (m : Mem) (action : Action) → IsOtherAction action → IsSameThere m (after k m action)
same_after k m (Load w) other = (refl, refl)
same_after k m (Store w value) other = stored_same k m w value other
same_after k m (Swap w value) other = stored_same k m w value other
same_after k m (Exchange w from to) other = by (eqb (word_at m w) from)
  where
    by : (b : Bool) → IsSameThere m (cond b (stored k m w to) m)
    by true = stored_same k m w to other
    by false = (refl, refl)
same_after k m (Add w value) other = stored_same k m w ((word_at m w + value) % 2 ^ 64) other
same_after k m (TakeOffice job) other = (refl, refl)
same_after k m GiveOffice other = (refl, refl)
same_after k m Nothing other = (refl, refl)

pub others : (k : Key) (s : Slabs) (action : Action) → SlabsGood k s → IsOtherAction action
    → SlabsGood k (with_mem s (after k s.mem action))
others k s action good other =
    let same = same_after k s.mem action other in record {
      book = good.book;
      records = subst (λ (f : ℕ → ℕ). RecordsFit s.book s.kept f) (sym same.1) good.records;
      heaps = good.heaps;
      kinds' = subst (λ (f : ℕ → ℕ). KindsFit s.book (λ e. kind_of (f e))) (sym same.0) good.kinds';
      caches = good.caches;
      inside = good.inside;
    }
