-- Objects of slabs are granted, come back, and are joined.
use Rattle.std.proofs.Common.{◌≡◌, ℕ, ◌+◌, ◌-◌, ◌^◌, ◌<◌, cond, eqb, Bool, true, false, Option, Some, None, refl}
use Rattle.std.proofs.Common.{sym, subst, arith, ◌∙◌}
use Rattle.pool_words.specs.declared.words.Key.{Key}
use Rattle.pool_words.specs.declared.words.Word.{Word}
use Rattle.pool_words.specs.declared.actions.Action.TheVariants.{Store}
use Rattle.word_codes.specs.declared.kinds.Kind.{Kind}
use Rattle.heap_slabs.specs.Records.{after_take, after_free, after_join}
use Rattle.heap_slabs.specs.Slabs.{after_take_of, after_free_of, after_join_of}
use Rattle.public_list.specs.declared.ending.EndCall.{EndCall}
use Rattle.public_list.specs.declared.ending.EndAt.{EndAt}
use Rattle.public_list.specs.declared.ending.EndNext.{EndNext}
use Rattle.public_list.specs.declared.joining.JoinAt.{JoinAt}
use Rattle.public_list.specs.declared.joining.JoinNext.{JoinNext}
use Rattle.public_list.specs.Ending.{end_course, end_learn}
use Rattle.public_list.specs.Joining.{join_course}
use Rattle.heap_slabs.specs.declared.records.HeapSlab.{HeapSlab}
use Rattle.word_laws.specs.Memory.{Mem, put, after, found}
use Rattle.slab_laws.specs.Books.{Keeper, Book, record_of, with_private_taken, with_rest_taken}
use Rattle.slab_laws.specs.Books.{with_freed, with_joined}
use Rattle.slab_laws.specs.OneSlab.{IsRecord}
use Rattle.slab_laws.specs.Heaps.{slab_of}
use Rattle.slab_laws.specs.Steps.{SlabStep}
use Rattle.slab_laws.proofs.CallerLemmas.{steps_keep_slabs, headed_here, there_by, after_take-private, handed-few}
use Rattle.object_laws.specs.Objects.{Held, Shadow, Locals, core_in}
use Rattle.object_laws.specs.Objects.Task.{Ending, Joining, Taking, Resting}
use Rattle.object_laws.specs.Parts.{EndFits, ObjectsGood}
use Rattle.object_laws.specs.Rows.{shadow_ended, ended, shadow_joined, joined_as, next_grant, grant_word, granted}
use Rattle.object_laws.specs.Rows.{shadow_granted, shadow_private}
use Rattle.object_laws.specs.Steps.{ObjectStep, join_of}
use Rattle.object_laws.proofs.CallerLemmas.{steps_keep_objects, fits_at}
use Rattle.use_laws.specs.Pools.{Pool, slabs_of, PoolGood}
use Rattle.use_laws.specs.After.{pool_freed, pool_taken, pool_rested, pool_joined}
use Rattle.use_laws.proofs.Blocks.{guards_same}
use Rattle.use_laws.proofs.Uses.{same_all}
use Rattle.use_laws.proofs.Words.{mark_no_guard, mark_no_slab, slabs_same}
use Rattle.use_laws.proofs.Plain.{small_put, end_no_guard, end_no_slab}

-- a grant that is ended so is one of an object in a slab that the seat keeps
own_by : (b : Book) (seat f : ℕ) (call : EndCall) (kind : Kind) (at : EndAt) → end_learn call at f ≡ EndNext.Own
    → EndFits b seat call.unit call.head kind at → b.keeper (slab_of call.unit) ≡ Keeper.By seat
own_by b t f call kind EndAt.Own is fits = fits.1
own_by b t f call kind EndAt.Other is fits = by (eqb f call.mark) is
  where
    by : (c : Bool) → cond c EndNext.Other (EndNext.Goes (EndAt.Lost f)) ≡ EndNext.Own
        → b.keeper (slab_of call.unit) ≡ Keeper.By t
    by true q = absurd (cc)
    by false q = absurd (cc)
own_by b t f call kind EndAt.Large is fits = by (eqb f call.mark) is
  where
    by : (c : Bool) → cond c EndNext.Large (EndNext.Goes (EndAt.Lost f)) ≡ EndNext.Own
        → b.keeper (slab_of call.unit) ≡ Keeper.By t
    by true q = absurd (cc)
    by false q = absurd (cc)
own_by b t f call kind (EndAt.Lost m) is fits = absurd (cc)

-- the slab's record is one that a slab can have
record_fits : (k : Key) (g : Shadow) (m : Mem) (l : Locals) (t e : ℕ) (r : HeapSlab) → ObjectsGood k g (core_in m l)
    → l.book.keeper e ≡ Keeper.By t → record_of l.book e ≡ r → IsRecord r
record_fits k g m l t e r good by is =
    subst IsRecord is (good.book.there e (there_by (l.book.keeper e) t by)).record'

pub frees_keeps : (k : Key) (seat : ℕ) (p : Pool) (call : EndCall) (kind : Kind) (at : EndAt) → seat < 64
    → p.locals.tasks seat ≡ Ending call kind at
    → end_learn call at (found p.mem (end_course call at)) ≡ EndNext.Own → PoolGood k p
    → PoolGood k (pool_freed k seat call kind at p)
frees_keeps k t p call kind at few is own good =
    let e = slab_of call.unit in
    let m' = after k p.mem (end_course call at) in
    let h = shadow_ended t call EndNext.Own p.objects in
    let l' = ended t call kind EndNext.Own p.locals in
    let task = fits_at k p.objects (core_in p.mem p.locals) t (Ending call kind at) is good.objects in
    let by = own_by p.locals.book t (found p.mem (end_course call at)) call kind at own task.2 in
    let good' : ObjectsGood k h (core_in m' l') =
    subst (λ (n : EndNext). ObjectsGood k (shadow_ended t call n p.objects)
    (core_in m' (ended t call kind n p.locals)))
    own (steps_keep_objects k p.objects p.mem p.locals
    (shadow_ended t call (end_learn call at (found p.mem (end_course call at))) p.objects) m'
    (ended t call kind (end_learn call at (found p.mem (end_course call at))) p.locals) good.objects
    (ObjectStep.ends t call kind at few is)) in
    record {
      guards = guards_same k p.blocks p.mem p.tasks (end_course call at) (end_no_guard call at) good.guards;
      slabs = steps_keep_slabs k (record (slabs_of p) { mem = m' }) (record (slabs_of p) {
        mem = m';
        book = with_freed e call.unit p.locals.book;
        kept = put p.kept t (after_free_of (p.kept t) e call.unit);
      }) (slabs_same k (slabs_of p) (end_course call at) (end_no_slab call at) good.slabs)
          (SlabStep.frees t e call.unit by (record_fits k h m' l' t e
          (after_free (record_of p.locals.book e) call.unit) good' by
          (headed_here p.locals.book e (p.locals.book.counts e - 1) (Some call.unit))));
      objects = good';
      uses = same_all p.locals.book.keeper p.locals.book.keeper p.objects.held h.held p.blocks.place p.purpose
          (λ y z. z) (λ y z. z)
          (small_put k p.objects h p.mem m' p.locals l' call.unit Held.Private good.objects good' refl tt refl)
          good.uses;
    }

few_held : (k : Key) (p : Pool) (t e : ℕ) → PoolGood k p → p.locals.book.keeper e ≡ Keeper.By t
    → p.locals.book.counts e < 2 ^ 32
few_held k p t e good by =
    let r = (good.objects.book.there e (there_by (p.locals.book.keeper e) t by)).record' in
    let c = r.count in
    let h = handed-few (record_of p.locals.book e) r.handed in
    omega arith

pub takes_keeps : (k : Key) (seat : ℕ) (p : Pool) (e head : ℕ) (below : Option ℕ) → seat < 64
    → p.locals.tasks seat ≡ Taking e head below → PoolGood k p
    → PoolGood k (pool_taken k seat e head below p)
takes_keeps k t p e head below few is good =
    let action = Store (Word.Mark head) (grant_word p.locals t) in
    let m' = after k p.mem action in
    let b = p.locals.book in
    let h = shadow_private (Held.Object (next_grant p.locals t)) e head p.objects in
    let l' = granted t head (Kind.Slab (b.classes e)) (with_private_taken e below b) p.locals in
    let task = fits_at k p.objects (core_in p.mem p.locals) t (Taking e head below) is good.objects in
    let good' = steps_keep_objects k p.objects p.mem p.locals h m' l' good.objects
    (ObjectStep.takes t e head below few is) in
    record {
      guards = guards_same k p.blocks p.mem p.tasks action (mark_no_guard head) good.guards;
      slabs = steps_keep_slabs k (record (slabs_of p) { mem = m' }) (record (slabs_of p) {
        mem = m';
        book = with_private_taken e below b;
        kept = put p.kept t (after_take_of (p.kept t) e below);
      }) (slabs_same k (slabs_of p) action (mark_no_slab head) good.slabs)
          (SlabStep.takes_private t e head below task.0 task.1 (record_fits k h m' l' t e
          (after_take (record_of b e) below) good' task.0
          (headed_here b e (b.counts e + 1) below
          ∙ sym (after_take-private (record_of b e) head below task.1 (few_held k p t e good task.0)))));
      objects = good';
      uses = same_all b.keeper b.keeper p.objects.held h.held p.blocks.place p.purpose (λ y z. z) (λ y z. z)
          (small_put k p.objects h p.mem m' p.locals l' head (Held.Object (next_grant p.locals t)) good.objects good'
          refl tt refl) good.uses;
    }

pub rests_keeps : (k : Key) (seat : ℕ) (p : Pool) (e unit : ℕ) → seat < 64 → p.locals.tasks seat ≡ Resting e unit
    → PoolGood k p
    → PoolGood k (pool_rested k seat e unit p)
rests_keeps k t p e unit few is good =
    let action = Store (Word.Mark unit) (grant_word p.locals t) in
    let m' = after k p.mem action in
    let b = p.locals.book in
    let h = shadow_granted (Held.Object (next_grant p.locals t)) unit p.objects in
    let l' = granted t unit (Kind.Slab (b.classes e)) (with_rest_taken e b) p.locals in
    let task = fits_at k p.objects (core_in p.mem p.locals) t (Resting e unit) is good.objects in
    let good' = steps_keep_objects k p.objects p.mem p.locals h m' l' good.objects
    (ObjectStep.rests t e unit few is) in
    record {
      guards = guards_same k p.blocks p.mem p.tasks action (mark_no_guard unit) good.guards;
      slabs = steps_keep_slabs k (record (slabs_of p) { mem = m' }) (record (slabs_of p) {
        mem = m';
        book = with_rest_taken e b;
        kept = put p.kept t (after_take_of (p.kept t) e None);
      }) (slabs_same k (slabs_of p) action (mark_no_slab unit) good.slabs)
          (SlabStep.takes_rest t e task.0 task.1 task.3);
      objects = good';
      uses = same_all b.keeper b.keeper p.objects.held h.held p.blocks.place p.purpose (λ y z. z) (λ y z. z)
          (small_put k p.objects h p.mem m' p.locals l' unit (Held.Object (next_grant p.locals t)) good.objects good'
          refl tt refl) good.uses;
    }

pub joins_keeps : (k : Key) (seat : ℕ) (p : Pool) (e first last count : ℕ)
    → p.locals.tasks seat ≡ Joining e (JoinAt.Tie first last count) → PoolGood k p
    → PoolGood k (pool_joined k seat e first last count p)
joins_keeps k t p e first last count is good =
    let at = JoinAt.Tie first last count in
    let action = join_course (join_of p.locals e) at in
    let m' = after k p.mem action in
    let b = p.locals.book in
    let h = shadow_joined e at p.objects in
    let l' = joined_as t e (JoinNext.Joined first count) p.locals in
    let by : b.keeper e ≡ Keeper.By t =
    fits_at k p.objects (core_in p.mem p.locals) t (Joining e at) is good.objects in
    let good' = steps_keep_objects k p.objects p.mem p.locals h m' l' good.objects (ObjectStep.joins t e at is) in
    record {
      guards = guards_same k p.blocks p.mem p.tasks action (mark_no_guard last) good.guards;
      slabs = steps_keep_slabs k (record (slabs_of p) { mem = m' }) (record (slabs_of p) {
        mem = m';
        book = with_joined e first count b;
        kept = put p.kept t (after_join_of (p.kept t) e first count);
      }) (slabs_same k (slabs_of p) action (mark_no_slab last) good.slabs)
          (SlabStep.joins t e first count by (record_fits k h m' l' t e
          (after_join (record_of b e) first count) good' by
          (headed_here b e (b.counts e - count) (Some first))));
      objects = good';
      uses = same_all b.keeper b.keeper p.objects.held h.held p.blocks.place p.purpose (λ y z. z) (λ y z. z)
          (λ u. refl) good.uses;
    }
