-- Slabs begin, end and are cached, and others keep them; and blocks come into the cache of large blocks.
use Rattle.std.proofs.Common.{◌≡◌, ◌≢◌, ℕ, zero, suc, ◌-◌, ◌<◌, Bool, true, false, cond, eqb, ltb, Some, List}
use Rattle.std.proofs.Common.{[], ◌∷◌, length, refl, sym, ap, subst, arith, ◌∙◌}
use Rattle.std.specs.Prelude.{slice_get}
use Rattle.std.proofs.lemmas.Bool.{eqb-true}
use Rattle.std.proofs.lemmas.Bool.Decides.{nat_tests}
use Rattle.pool_types.specs.Geometry.{class_count}
use Rattle.pool_words.specs.declared.words.Key.{Key}
use Rattle.pool_words.specs.declared.words.Word.{Word}
use Rattle.pool_words.specs.declared.actions.Action.TheVariants.{Store, Swap}
use Rattle.pool_words.specs.Words.{headers}
use Rattle.word_codes.specs.declared.publics.Public.{Public}
use Rattle.word_codes.specs.declared.kinds.Kind.{Kind}
use Rattle.word_codes.specs.Kinds.{kind_word}
use Rattle.word_codes.specs.Places.{granule_of, slab_granule}
use Rattle.word_codes.specs.Publics.{public_word}
use Rattle.guards.specs.declared.win.Taking.{Taking}
use Rattle.heap_slabs.specs.Records.{begun, to_header, of_header}
use Rattle.heap_slabs.specs.Rolls.{after_push, newest_of, oldest_of, without_newest, without_oldest}
use Rattle.heap_slabs.specs.Slabs.{after_add, after_remove}
use Rattle.word_laws.specs.Memory.{put, after}
use Rattle.word_laws.proofs.CallerLemmas.{less_or, not_chosen, put-same, put-other, each}
use Rattle.chain_laws.specs.Chains.{tally}
use Rattle.chain_laws.proofs.CallerLemmas.{tally-here}
use Rattle.guard_laws.specs.Blocks as guards
use Rattle.guard_laws.specs.Blocks.{Use, Place, Piece}
use Rattle.slab_laws.specs.Books.{Keeper, IsThere, record_of, with_begun, with_ended, with_keeper, with_chain_taken}
use Rattle.slab_laws.specs.Books.{chain_taken}
use Rattle.slab_laws.specs.Heaps.{slab_of, IsPlace, is_cached}
use Rattle.slab_laws.specs.Steps.{SlabStep}
use Rattle.slab_laws.proofs.CallerLemmas.{steps_keep_slabs, there_by}
use Rattle.object_laws.specs.Objects.{Held, core_in}
use Rattle.object_laws.specs.Objects.Task.{Away}
use Rattle.object_laws.specs.Rows.{shadow_emptied, with_book}
use Rattle.object_laws.specs.Steps.{ObjectStep, IsBare}
use Rattle.object_laws.proofs.CallerLemmas.{steps_keep_objects}
use Rattle.use_laws.specs.Uses.{Purpose, IsKept, block_in, UseFits}
use Rattle.use_laws.specs.Pools.{Pool, slabs_of, PoolGood, InHand}
use Rattle.use_laws.specs.After.{pool_begun, pool_ended, pool_cached, pool_newest_out, pool_oldest_out, pool_cleared}
use Rattle.use_laws.specs.After.{pool_header_stored, pool_left, pool_come, pool_gone_back, pool_adopted, pool_shelved}
use Rattle.use_laws.specs.After.{pool_unshelved}
use Rattle.use_laws.proofs.Blocks.{rests_so, held_so, guards_same}
use Rattle.use_laws.proofs.Uses.{SameBut, uses_set, IsSpare, spare_so, held_not_rest, same_all}
use Rattle.use_laws.proofs.Bare.{slab_block, none_held, blocks_in_hand_are_bare}
use Rattle.use_laws.proofs.Words.{kind_no_guard, public_no_guard, header_no_guard, public_no_slab, header_no_object}
use Rattle.use_laws.proofs.Words.{slabs_same}
use Rattle.use_laws.proofs.Plain.{small_block}
use Rattle.use_laws.proofs.Large.{not_at_rest}

-- a block in hand is bare
hand_bare : (k : Key) (t : ℕ) (p : Pool) (e : ℕ) → InHand p t e 2 Taking.ForUse → PoolGood k p
    → IsBare p.objects.held e
hand_bare k t p e has good u at = none_held k p e 2 u (Use.Held t Taking.ForUse) good has.block
    (not_at_rest t Taking.ForUse) (omega (arith, at)) (omega (arith, at))

hand_nobody : (k : Key) (t : ℕ) (p : Pool) (e n : ℕ) (taking : Taking) → InHand p t e n taking → PoolGood k p
    → p.locals.book.keeper e ≡ Keeper.Nobody
hand_nobody k t p e n taking has good =
    let b = (good.guards.parts.whole e e n (Use.Held t taking) has.block).below in
    (blocks_in_hand_are_bare k p e n (Use.Held t taking) good has.block (not_at_rest t taking)).slabs e
    (omega arith) b

hand_spare : (k : Key) (t : ℕ) (p : Pool) (e n : ℕ) (taking : Taking) → InHand p t e n taking → PoolGood k p
    → IsSpare e (p.locals.book.keeper e) p.objects.held
hand_spare k t p e n taking has good =
    spare_so e (p.blocks.place e) (p.locals.book.keeper e) p.objects.held (p.purpose e)
    (held_not_rest (p.blocks.place e) e n (Use.Held t taking) has.block (not_at_rest t taking)) (good.uses e)

-- the keeper of one granule changes
keeper_but : (keeper : ℕ → Keeper) (held : ℕ → Held) (e : ℕ) (q : Keeper) → SameBut e keeper (put keeper e q) held held
keeper_but keeper held e q = record {
  kept = λ y ne is. subst IsKept (sym (put-other keeper e q y ne)) is;
  was_kept = λ y ne is. subst IsKept (put-other keeper e q y ne) is;
  has = λ y u n ne is. is;
  had = λ y u n ne is. is;
}

-- a block in hand is a slab's
slab_here : (keeper : ℕ → Keeper) (held : ℕ → Held) (e : ℕ) (q : Keeper) → IsKept q → IsSpare e (keeper e) held
    → UseFits e (Place.Block e 2 Use.Elsewhere) (put keeper e q e) held Purpose.Slab
slab_here keeper held e q is spare = record {
  fits = (refl, subst IsKept (sym (put-same keeper e q)) is);
  slab = λ _. refl;
  object = λ u n has. absurd (spare.object u n has);
}

-- and a slab's block is in a hand
hand_here : (keeper : ℕ → Keeper) (held : ℕ → Held) (e n : ℕ) (u : Use) → u ≢ Use.Elsewhere
    → ((v m : ℕ) → block_in (held v) ≡ Piece.Got e m → ⊥)
    → UseFits e (Place.Block e n u) (put keeper e Keeper.Nobody e) held Purpose.Spare
hand_here keeper held e n u ne none = record {
  fits = λ m q. ne (cc);
  slab = λ is. absurd (subst IsKept (put-same keeper e Keeper.Nobody) is);
  object = λ v m has. absurd (none v m has);
}

no_object : (k : Key) (p : Pool) (e : ℕ) → IsKept (p.locals.book.keeper e) → PoolGood k p → (v m : ℕ)
    → block_in (p.objects.held v) ≡ Piece.Got e m → ⊥
no_object k p e kept good v m has =
    let use' = good.uses e in
    let q : Purpose.Slab ≡ Purpose.Object v = sym (use'.slab kept) ∙ use'.object v m has in absurd (cc)

pub slab_begins_keeps : (k : Key) (seat : ℕ) (p : Pool) (e class : ℕ) → InHand p seat e 2 Taking.ForUse
    → p.locals.tasks seat ≡ Away → slab_granule e ≡ e → class < class_count → PoolGood k p
    → PoolGood k (pool_begun k seat e class p)
slab_begins_keeps k t p e class has away even low good =
    let action = Store (Word.Kind e) (kind_word (Kind.Slab class)) in
    let m' = after k p.mem action in
    let b = p.locals.book in
    let hand = Use.Held t Taking.ForUse in
    let nobody = hand_nobody k t p e 2 Taking.ForUse has good in
    let place : IsPlace k e = record {
      even = even;
      inside = let within = good.guards.parts.within e 2 hand has.block in omega arith;
    } in
    record {
      guards = rests_so k t e 2 p.blocks m' p.tasks
          (guards_same k p.blocks p.mem p.tasks action (kind_no_guard e) good.guards) has.away has.block;
      slabs = steps_keep_slabs k (slabs_of p) (record {
        book = with_begun t e class b;
        mem = m';
        kept = put p.kept t (after_add (p.kept t) (begun e class));
        cached = p.cached;
      }) good.slabs (SlabStep.begins t e class nobody place low);
      objects = steps_keep_objects k p.objects p.mem p.locals p.objects m'
          (with_book (with_begun t e class b) p.locals)
          good.objects
          (ObjectStep.slab_begins t e class away nobody place low (hand_bare k t p e has good));
      uses = uses_set p.blocks.place b.keeper (put b.keeper e (Keeper.By t)) p.objects.held p.objects.held p.purpose
          e 2 hand Use.Elsewhere Purpose.Slab good.guards.parts.whole has.block
          (keeper_but b.keeper p.objects.held e (Keeper.By t))
          (slab_here b.keeper p.objects.held e (Keeper.By t) tt (hand_spare k t p e 2 Taking.ForUse has good))
          good.uses;
    }

emptied_block : (k : Key) (p : Pool) (e t : ℕ) → p.locals.book.keeper e ≡ Keeper.By t → PoolGood k p → (u : ℕ)
    → block_in ((shadow_emptied e p.objects).held u) ≡ block_in (p.objects.held u)
emptied_block k p e t kept good u = by (eqb (slab_of u) e) refl
  where
    by : (c : Bool) → eqb (slab_of u) e ≡ c
        → block_in (cond c Held.NotOut (p.objects.held u)) ≡ block_in (p.objects.held u)
    by false q = refl
    by true q = sym (small_block k u (p.locals.book.keeper (slab_of u))
        ((core_in p.mem p.locals).kinds (granule_of u)) (p.objects.held u) (good.objects.larges u)
        (there_by (p.locals.book.keeper (slab_of u)) t
        (ap p.locals.book.keeper (eqb-true (slab_of u) e q) ∙ kept)))

pub slab_ends_keeps : (k : Key) (seat : ℕ) (p : Pool) (e : ℕ) (taking : Taking) → p.tasks seat ≡ guards.Task.Away
    → p.locals.tasks seat ≡ Away → p.locals.book.keeper e ≡ Keeper.By seat → p.locals.book.counts e ≡ 0 → PoolGood k p
    → PoolGood k (pool_ended k seat e taking p)
slab_ends_keeps k t p e taking free away by none good =
    let action = Store (Word.Kind e) (kind_word Kind.Nothing) in
    let m' = after k p.mem action in
    let b = p.locals.book in
    let hand = Use.Held t taking in
    let kept : IsKept (b.keeper e) = subst IsKept (sym by) tt in
    let h = shadow_emptied e p.objects in
    let rests = slab_block p.blocks.place b.keeper p.objects.held p.purpose e good.uses kept in
    let same = emptied_block k p e t by good in
    record {
      guards = held_so k t e 2 taking p.blocks m' p.tasks
          (guards_same k p.blocks p.mem p.tasks action (kind_no_guard e) good.guards) free rests;
      slabs = steps_keep_slabs k (slabs_of p) (record {
        book = with_ended e b;
        mem = m';
        kept = put p.kept t (after_remove (p.kept t) e);
        cached = p.cached;
      }) good.slabs (SlabStep.ends t e by);
      objects = steps_keep_objects k p.objects p.mem p.locals h m' (with_book (with_ended e b) p.locals)
          good.objects (ObjectStep.slab_ends t e away by none);
      uses = uses_set p.blocks.place b.keeper (put b.keeper e Keeper.Nobody) p.objects.held h.held p.purpose
          e 2 Use.Elsewhere hand Purpose.Spare good.guards.parts.whole rests (record {
            kept = λ y ne is. subst IsKept (sym (put-other b.keeper e Keeper.Nobody y ne)) is;
            was_kept = λ y ne is. subst IsKept (put-other b.keeper e Keeper.Nobody y ne) is;
            has = λ y u n ne is. same u ∙ is;
            had = λ y u n ne is. sym (same u) ∙ is;
          })
          (hand_here b.keeper h.held e 2 hand (not_at_rest t taking)
          (λ v m is. no_object k p e kept good v m (sym (same v) ∙ is))) good.uses;
    }

-- the cache of a seat
is_his : (q : Keeper) (seat : ℕ) → 0 < is_cached seat q → q ≡ Keeper.Cached seat
is_his Keeper.Nobody seat some = absurd (omega arith)
is_his (Keeper.By o) seat some = absurd (omega arith)
is_his Keeper.Orphan seat some = absurd (omega arith)
is_his (Keeper.Adopting o) seat some = absurd (omega arith)
is_his (Keeper.Cached o) seat some = ap Keeper.Cached (grind (arith, nat_tests))

in_list : (xs : List ℕ) (i e : ℕ) → slice_get xs i ≡ Some e → 0 < tally e xs
in_list [] i e is = absurd (cc)
in_list (x ∷ xs) zero e is =
    let same : x ≡ e = cc in let h = tally-here e xs in
    subst (λ y. 0 < tally e (y ∷ xs)) (sym same) (omega arith)
in_list (x ∷ xs) (suc i) e is = let rest = in_list xs i e is in omega arith

pub cached_by : (k : Key) (p : Pool) (seat e i : ℕ) → slice_get (p.cached seat).items i ≡ Some e → PoolGood k p
    → p.locals.book.keeper e ≡ Keeper.Cached seat
cached_by k p t e i is good = is_his (p.locals.book.keeper e) t
    (let some = in_list (p.cached t).items i e is in let n = good.slabs.caches t e in omega arith)

pub slab_cached_keeps : (k : Key) (seat : ℕ) (p : Pool) (e : ℕ) → InHand p seat e 2 Taking.ForUse
    → slab_granule e ≡ e → length (p.cached seat).items < (p.cached seat).room → PoolGood k p
    → PoolGood k (pool_cached k seat e p)
slab_cached_keeps k t p e has even room good =
    let action = Store (Word.Kind e) (kind_word Kind.CachedSlab) in
    let m' = after k p.mem action in
    let b = p.locals.book in
    let hand = Use.Held t Taking.ForUse in
    let nobody = hand_nobody k t p e 2 Taking.ForUse has good in
    let low : e < k.span = (let within = good.guards.parts.within e 2 hand has.block in omega arith) in
    record {
      guards = rests_so k t e 2 p.blocks m' p.tasks
          (guards_same k p.blocks p.mem p.tasks action (kind_no_guard e) good.guards) has.away has.block;
      slabs = steps_keep_slabs k (slabs_of p) (record (slabs_of p) {
        book = with_keeper e (Keeper.Cached t) b;
        mem = m';
        cached = put p.cached t (after_push (p.cached t) e);
      }) good.slabs (SlabStep.caches t e nobody low room);
      objects = steps_keep_objects k p.objects p.mem p.locals p.objects m'
          (with_book (with_keeper e (Keeper.Cached t) b) p.locals) good.objects
          (ObjectStep.slab_cached t e nobody even low (hand_bare k t p e has good));
      uses = uses_set p.blocks.place b.keeper (put b.keeper e (Keeper.Cached t)) p.objects.held p.objects.held
          p.purpose e 2 hand Use.Elsewhere Purpose.Slab good.guards.parts.whole has.block
          (keeper_but b.keeper p.objects.held e (Keeper.Cached t))
          (slab_here b.keeper p.objects.held e (Keeper.Cached t) tt (hand_spare k t p e 2 Taking.ForUse has good))
          good.uses;
    }

pub newest_out_keeps : (k : Key) (seat : ℕ) (p : Pool) (e : ℕ) (taking : Taking) → p.tasks seat ≡ guards.Task.Away
    → newest_of (p.cached seat) ≡ Some e → PoolGood k p
    → PoolGood k (pool_newest_out k seat e taking p)
newest_out_keeps k t p e taking free is good =
    let action = Store (Word.Kind e) (kind_word Kind.Nothing) in
    let m' = after k p.mem action in
    let b = p.locals.book in
    let by = cached_by k p t e (length (p.cached t).items - 1) is good in
    let kept : IsKept (b.keeper e) = subst IsKept (sym by) tt in
    let rests = slab_block p.blocks.place b.keeper p.objects.held p.purpose e good.uses kept in
    record {
      guards = held_so k t e 2 taking p.blocks m' p.tasks
          (guards_same k p.blocks p.mem p.tasks action (kind_no_guard e) good.guards) free rests;
      slabs = steps_keep_slabs k (slabs_of p) (record (slabs_of p) {
        book = with_keeper e Keeper.Nobody b;
        mem = m';
        cached = put p.cached t (without_newest (p.cached t));
      }) good.slabs (SlabStep.newest_out t e is);
      objects = steps_keep_objects k p.objects p.mem p.locals p.objects m'
          (with_book (with_keeper e Keeper.Nobody b) p.locals) good.objects
          (ObjectStep.slab_uncached t e by (good.slabs.inside e t by));
      uses = uses_set p.blocks.place b.keeper (put b.keeper e Keeper.Nobody) p.objects.held p.objects.held p.purpose
          e 2 Use.Elsewhere (Use.Held t taking) Purpose.Spare good.guards.parts.whole rests
          (keeper_but b.keeper p.objects.held e Keeper.Nobody)
          (hand_here b.keeper p.objects.held e 2 (Use.Held t taking) (not_at_rest t taking)
          (no_object k p e kept good)) good.uses;
    }

pub oldest_out_keeps : (k : Key) (seat : ℕ) (p : Pool) (e : ℕ) (taking : Taking) → p.tasks seat ≡ guards.Task.Away
    → oldest_of (p.cached seat) ≡ Some e → PoolGood k p
    → PoolGood k (pool_oldest_out k seat e taking p)
oldest_out_keeps k t p e taking free is good =
    let action = Store (Word.Kind e) (kind_word Kind.Nothing) in
    let m' = after k p.mem action in
    let b = p.locals.book in
    let by = cached_by k p t e 0 is good in
    let kept : IsKept (b.keeper e) = subst IsKept (sym by) tt in
    let rests = slab_block p.blocks.place b.keeper p.objects.held p.purpose e good.uses kept in
    record {
      guards = held_so k t e 2 taking p.blocks m' p.tasks
          (guards_same k p.blocks p.mem p.tasks action (kind_no_guard e) good.guards) free rests;
      slabs = steps_keep_slabs k (slabs_of p) (record (slabs_of p) {
        book = with_keeper e Keeper.Nobody b;
        mem = m';
        cached = put p.cached t (without_oldest (p.cached t));
      }) good.slabs (SlabStep.oldest_out t e is);
      objects = steps_keep_objects k p.objects p.mem p.locals p.objects m'
          (with_book (with_keeper e Keeper.Nobody b) p.locals) good.objects
          (ObjectStep.slab_uncached t e by (good.slabs.inside e t by));
      uses = uses_set p.blocks.place b.keeper (put b.keeper e Keeper.Nobody) p.objects.held p.objects.held p.purpose
          e 2 Use.Elsewhere (Use.Held t taking) Purpose.Spare good.guards.parts.whole rests
          (keeper_but b.keeper p.objects.held e Keeper.Nobody)
          (hand_here b.keeper p.objects.held e 2 (Use.Held t taking) (not_at_rest t taking)
          (no_object k p e kept good)) good.uses;
    }

-- the public word of a block in hand, and a slab's header
pub clears_keeps : (k : Key) (seat : ℕ) (p : Pool) (e n : ℕ) (taking : Taking) → InHand p seat e n taking
    → PoolGood k p
    → PoolGood k (pool_cleared k e p)
clears_keeps k t p e n taking has good =
    let action = Swap (Word.Public e) (public_word Public.Null) in
    let m' = after k p.mem action in
    let hand = Use.Held t taking in
    let nobody = hand_nobody k t p e n taking has good in
    let low : e < k.span = (let within = good.guards.parts.within e n hand has.block in
    let b = (good.guards.parts.whole e e n hand has.block).below in omega arith) in
    record {
      guards = guards_same k p.blocks p.mem p.tasks action (public_no_guard e) good.guards;
      slabs = slabs_same k (slabs_of p) action (public_no_slab e) good.slabs;
      objects = steps_keep_objects k p.objects p.mem p.locals p.objects m' p.locals good.objects
          (ObjectStep.clears e (λ there. subst IsThere nobody there) low);
      uses = good.uses;
    }

pub stores_header_keeps : (k : Key) (seat : ℕ) (p : Pool) (e : ℕ) → p.locals.book.keeper e ≡ Keeper.By seat
    → PoolGood k p
    → PoolGood k (pool_header_stored k e p)
stores_header_keeps k t p e by good =
    let action = Store (Word.Header e) (to_header (record_of p.locals.book e)) in
    let m' = after k p.mem action in
    record {
      guards = guards_same k p.blocks p.mem p.tasks action (header_no_guard e) good.guards;
      slabs = steps_keep_slabs k (slabs_of p) (record (slabs_of p) { mem = m' }) good.slabs
          (SlabStep.stores_header t e by);
      objects = steps_keep_objects k p.objects p.mem p.locals p.objects m' p.locals good.objects
          (ObjectStep.others action (header_no_object e));
      uses = good.uses;
    }

-- slabs that are left, taken, pushed back and adopted
kept_put : (keeper : ℕ → Keeper) (e : ℕ) (q : Keeper) → IsKept (keeper e) → IsKept q → (y : ℕ) → IsKept (keeper y)
    → IsKept (put keeper e q y)
kept_put keeper e q was now = each (λ y r. IsKept (keeper y) → IsKept r) keeper e q (λ y _ is. is) (λ _. now)

kept_back : (keeper : ℕ → Keeper) (e : ℕ) (q : Keeper) → IsKept (keeper e) → (y : ℕ) → IsKept (put keeper e q y)
    → IsKept (keeper y)
kept_back keeper e q was = each (λ y r. IsKept r → IsKept (keeper y)) keeper e q (λ y _ is. is) (λ _. was)

pub leaves_keeps : (k : Key) (seat : ℕ) (p : Pool) (e : ℕ) → p.locals.tasks seat ≡ Away
    → p.locals.book.keeper e ≡ Keeper.By seat → p.mem headers e ≡ to_header (record_of p.locals.book e) → PoolGood k p
    → PoolGood k (pool_left seat e p)
leaves_keeps k t p e away by header good =
    let b = p.locals.book in
    let was : IsKept (b.keeper e) = subst IsKept (sym by) tt in
    record {
      guards = good.guards;
      slabs = steps_keep_slabs k (slabs_of p) (record (slabs_of p) {
        book = with_keeper e Keeper.Orphan b;
        kept = put p.kept t (after_remove (p.kept t) e);
      }) good.slabs (SlabStep.leaves t e by header);
      objects = steps_keep_objects k p.objects p.mem p.locals p.objects p.mem
          (with_book (with_keeper e Keeper.Orphan b) p.locals) good.objects (ObjectStep.leaves t e away by);
      uses = same_all b.keeper (put b.keeper e Keeper.Orphan) p.objects.held p.objects.held p.blocks.place p.purpose
          (kept_put b.keeper e Keeper.Orphan was tt) (kept_back b.keeper e Keeper.Orphan was) (λ u. refl) good.uses;
    }

pub comes_keeps : (k : Key) (seat : ℕ) (p : Pool) (chain : List ℕ) → p.locals.tasks seat ≡ Away
    → ((e : ℕ) → 0 < tally e chain → p.locals.book.keeper e ≡ Keeper.Orphan) → PoolGood k p
    → PoolGood k (pool_come seat chain p)
comes_keeps k t p chain away orphans good =
    let b = p.locals.book in
    record {
      guards = good.guards;
      slabs = steps_keep_slabs k (slabs_of p) (record (slabs_of p) { book = with_chain_taken t chain b }) good.slabs
          (SlabStep.comes t chain orphans);
      objects = steps_keep_objects k p.objects p.mem p.locals p.objects p.mem
          (with_book (with_chain_taken t chain b) p.locals) good.objects (ObjectStep.comes t chain away orphans);
      uses = same_all b.keeper (chain_taken t chain b.keeper) p.objects.held p.objects.held p.blocks.place p.purpose
          (λ y. to y) (λ y. from y) (λ u. refl) good.uses;
    }
  where
    keeper : ℕ → Keeper
    keeper = p.locals.book.keeper

    to : (y : ℕ) → IsKept (keeper y) → IsKept (chain_taken t chain keeper y)
    to y is = by (ltb 0 (tally y chain))
      where
        by : (c : Bool) → IsKept (cond c (Keeper.Adopting t) (keeper y))
        by true = tt
        by false = is

    from : (y : ℕ) → IsKept (chain_taken t chain keeper y) → IsKept (keeper y)
    from y is = less_or 0 (tally y chain) (λ some. subst IsKept (sym (orphans y some)) tt)
        (λ none. subst IsKept (not_chosen 0 (tally y chain) (Keeper.Adopting t) (keeper y) none) is)

pub goes_back_keeps : (k : Key) (seat : ℕ) (p : Pool) (e : ℕ) → p.locals.tasks seat ≡ Away
    → p.locals.book.keeper e ≡ Keeper.Adopting seat → PoolGood k p
    → PoolGood k (pool_gone_back e p)
goes_back_keeps k t p e away has good =
    let b = p.locals.book in
    let was : IsKept (b.keeper e) = subst IsKept (sym has) tt in
    record {
      guards = good.guards;
      slabs = steps_keep_slabs k (slabs_of p) (record (slabs_of p) { book = with_keeper e Keeper.Orphan b }) good.slabs
          (SlabStep.goes_back t e has);
      objects = steps_keep_objects k p.objects p.mem p.locals p.objects p.mem
          (with_book (with_keeper e Keeper.Orphan b) p.locals) good.objects (ObjectStep.goes_back t e away has);
      uses = same_all b.keeper (put b.keeper e Keeper.Orphan) p.objects.held p.objects.held p.blocks.place p.purpose
          (kept_put b.keeper e Keeper.Orphan was tt) (kept_back b.keeper e Keeper.Orphan was) (λ u. refl) good.uses;
    }

pub adopts_keeps : (k : Key) (seat : ℕ) (p : Pool) (e : ℕ) → p.locals.tasks seat ≡ Away
    → p.locals.book.keeper e ≡ Keeper.Adopting seat → PoolGood k p
    → PoolGood k (pool_adopted seat e p)
adopts_keeps k t p e away has good =
    let b = p.locals.book in
    let was : IsKept (b.keeper e) = subst IsKept (sym has) tt in
    record {
      guards = good.guards;
      slabs = steps_keep_slabs k (slabs_of p) (record (slabs_of p) {
        book = with_keeper e (Keeper.By t) b;
        kept = put p.kept t (after_add (p.kept t) (of_header e (b.classes e) (p.mem headers e)));
      }) good.slabs (SlabStep.adopts t e has);
      objects = steps_keep_objects k p.objects p.mem p.locals p.objects p.mem
          (with_book (with_keeper e (Keeper.By t) b) p.locals) good.objects (ObjectStep.adopts t e away has);
      uses = same_all b.keeper (put b.keeper e (Keeper.By t)) p.objects.held p.objects.held p.blocks.place p.purpose
          (kept_put b.keeper e (Keeper.By t) was tt) (kept_back b.keeper e (Keeper.By t) was) (λ u. refl) good.uses;
    }

-- the cache of large blocks
all_same : (x : ℕ) (keeper : ℕ → Keeper) (held : ℕ → Held) → SameBut x keeper keeper held held
all_same x keeper held = record {
  kept = λ y ne is. is;
  was_kept = λ y ne is. is;
  has = λ y u n ne is. is;
  had = λ y u n ne is. is;
}

pub shelves_keeps : (k : Key) (seat : ℕ) (p : Pool) (x n : ℕ) → InHand p seat x n Taking.ForUse → PoolGood k p
    → PoolGood k (pool_shelved x n p)
shelves_keeps k t p x n has good =
    let spare = hand_spare k t p x n Taking.ForUse has good in record {
      guards = rests_so k t x n p.blocks p.mem p.tasks good.guards has.away has.block;
      slabs = good.slabs;
      objects = good.objects;
      uses = uses_set p.blocks.place p.locals.book.keeper p.locals.book.keeper p.objects.held p.objects.held p.purpose
          x n (Use.Held t Taking.ForUse) Use.Elsewhere Purpose.Shelved good.guards.parts.whole has.block
          (all_same x p.locals.book.keeper p.objects.held) (record {
            fits = (n, refl);
            slab = λ is. absurd (spare.slab is);
            object = λ u m is. absurd (spare.object u m is);
          }) good.uses;
    }

pub unshelves_keeps : (k : Key) (seat : ℕ) (p : Pool) (x n : ℕ) (taking : Taking) → p.tasks seat ≡ guards.Task.Away
    → p.purpose x ≡ Purpose.Shelved → p.blocks.place x ≡ Place.Block x n Use.Elsewhere → PoolGood k p
    → PoolGood k (pool_unshelved seat x n taking p)
unshelves_keeps k t p x n taking free shelved rests good = record {
  guards = held_so k t x n taking p.blocks p.mem p.tasks good.guards free rests;
  slabs = good.slabs;
  objects = good.objects;
  uses = uses_set p.blocks.place p.locals.book.keeper p.locals.book.keeper p.objects.held p.objects.held p.purpose
      x n Use.Elsewhere (Use.Held t taking) Purpose.Spare good.guards.parts.whole rests
      (all_same x p.locals.book.keeper p.objects.held) (record {
        fits = λ m q. not_at_rest t taking (cc);
        slab = λ kept. absurd (let q : Purpose.Shelved ≡ Purpose.Slab = sym shelved ∙ (good.uses x).slab kept in cc);
        object = λ u m is. absurd (let q : Purpose.Shelved ≡ Purpose.Object u = sym shelved
            ∙ (good.uses x).object u m is in cc);
      }) good.uses;
}
