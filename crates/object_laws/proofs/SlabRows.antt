-- Slabs that begin, end and are cached, blocks that are made ready, and slabs that others keep.
use Rattle.std.proofs.Common.{◌≡◌, ◌≢◌, ◌⊎◌, inl, inr, ℕ, ◌+◌, ◌^◌, ◌<◌, cond, eqb, Some, None, []}
use Rattle.std.proofs.Common.{length, refl, sym, ap, subst, arith, ◌∙◌}
use Rattle.std.proofs.lemmas.Bool.Decides.{nat_tests}
use Rattle.pool_types.specs.declared.values.Grant.{Grant}
use Rattle.pool_types.specs.Geometry.{class_count}
use Rattle.pool_words.specs.declared.words.Key.{Key}
use Rattle.word_codes.specs.declared.kinds.Kind.{Kind}
use Rattle.word_codes.specs.Places.{granule_of, slab_granule}
use Rattle.heap_slabs.specs.declared.records.HeapSlab.{HeapSlab}
use Rattle.heap_slabs.specs.Records.{unit_of}
use Rattle.word_laws.specs.Memory.{put}
use Rattle.word_laws.proofs.CallerLemmas.{equal_or}
use Rattle.chain_laws.specs.Chains.{IsChain, tally}
use Rattle.slab_laws.specs.Books.{Keeper, Book, IsThere, record_of}
use Rattle.slab_laws.specs.Books.{with_begun, with_ended, with_keeper}
use Rattle.slab_laws.specs.OneSlab.{IsHanded, IsRecord}
use Rattle.slab_laws.specs.Heaps.{slab_of, IsPlace, SlabFits, NoneFits, KindFits}
use Rattle.slab_laws.proofs.CallerLemmas.{Elsewhere, book-set}
use Rattle.slab_laws.proofs.CallerLemmas.{begun_else, begun_here}
use Rattle.slab_laws.proofs.CallerLemmas.{ended_else, keeper_else, unit-inside, one_slab_by_its_lists, kinds-set}
use Rattle.object_laws.specs.Objects.{Held, granted_in, IsOut, head_link, links_in}
use Rattle.object_laws.specs.Objects.{Shadow, Core}
use Rattle.object_laws.specs.Objects.Task.{Away, Blocking}
use Rattle.object_laws.specs.Parts.{IsNoGrant, MarkFits, LargeFits}
use Rattle.std.specs.Prelude.{⊤}
use Rattle.object_laws.specs.Parts.{is_private, is_listed, in_slab, TakenFits, TaskFits}
use Rattle.object_laws.specs.Parts.{NotesFit, IsInHand, ObjectsGood}
use Rattle.object_laws.specs.Rely.{IsMine, Rely, NoReturn}
use Rattle.object_laws.specs.Rely.IsMine.{hand, ready, private}
use Rattle.object_laws.specs.Rows.{shadow_granted, shadow_emptied}
use Rattle.slab_laws.proofs.CallerLemmas.{put-same, put-other, each, both}
use Rattle.object_laws.proofs.Parts.Marks.{marks-held}
use Rattle.object_laws.proofs.Parts.Marks.{grants-fewer, grants-put}
use Rattle.object_laws.proofs.Parts.Out.{out-cases, out-not, out-none}
use Rattle.object_laws.proofs.Parts.Once.{listed-set, privates-set}
use Rattle.object_laws.proofs.Parts.Once.{private-there}
use Rattle.object_laws.proofs.Seats.{is_by, by_other, notes-stay, task-stays, seats_keep, taken_at, hand_at}
use Rattle.object_laws.proofs.Turns.{rely_at, none-no_one}
use Rattle.object_laws.proofs.Turns.{again-put, none-new, lasts-same}
use Rattle.object_laws.proofs.Turns.{not_in_hand}
use Rattle.object_laws.proofs.Facts.{slab_is, there_of, handed-of}
use Rattle.object_laws.proofs.Facts.{there-cases, bare, large-kept}
use Rattle.object_laws.proofs.Facts.{large-none}
use Rattle.object_laws.specs.Steps.{IsBare, CanBlock}
use Rattle.object_laws.proofs.Seats.{SeatsFit, taken-stays}

-- no seat's task changes
all_stay : (k : Key) (g : Shadow) (s : Core) (h : Shadow) (r : Core) → ObjectsGood k g s
    → ((o : ℕ) → Rely o g s h r) → NoReturn g s h r → ((o : ℕ) → r.notes o ≡ s.notes o) → SeatsFit k h r
all_stay k g s h r good rely stays notes = record {
  kept = λ e o by. kept e o by (is_by (s.book.keeper e) o);
  tasks_fit = λ o. subst (TaskFits k h r o) (sym (rely o).task)
      (task-stays k g s h r o (s.tasks o) good (rely o) stays (good.tasks_fit o));
  notes_fit = λ o. subst (NotesFit h r) (sym (notes o)) (notes-stay g s h r (s.notes o) stays (good.notes_fit o));
  hands_fit = λ u o held. subst (λ q. IsInHand q u) (sym (rely o).task)
      (good.hands_fit u o ((rely o).no_more u held));
}
  where
    kept : (e o : ℕ) → r.book.keeper e ≡ Keeper.By o
        → (s.book.keeper e ≡ Keeper.By o) ⊎ (s.book.keeper e ≢ Keeper.By o)
        → TakenFits (links_in r.marks) (r.tasks o) e (h.taken e)
    kept e o by (inl was) = subst (λ q. TakenFits (links_in r.marks) q e (h.taken e)) (sym (rely o).task)
        (subst (TakenFits (links_in r.marks) (s.tasks o) e) (sym ((rely o).slabs e was).taken)
        (taken-stays k g s h r o e (s.tasks o) good (rely o) was (good.taken_fit.kept e o was)))
    kept e o by (inr not) = absurd ((rely o).strange e not by)

-- keepers
there-kind : (q : Keeper) (class : ℕ) (kind : Kind) → IsThere q → KindFits q class kind → kind ≡ Kind.Slab class
there-kind Keeper.Nobody class kind is fit = absurd is
there-kind (Keeper.By t) class kind is fit = fit
there-kind Keeper.Orphan class kind is fit = fit
there-kind (Keeper.Adopting t) class kind is fit = fit
there-kind (Keeper.Cached t) class kind is fit = absurd is

kind-there : (q : Keeper) (class : ℕ) (kind : Kind) → IsThere q → kind ≡ Kind.Slab class → KindFits q class kind
kind-there Keeper.Nobody class kind is fit = absurd is
kind-there (Keeper.By t) class kind is fit = fit
kind-there Keeper.Orphan class kind is fit = fit
kind-there (Keeper.Adopting t) class kind is fit = fit
kind-there (Keeper.Cached t) class kind is fit = absurd is

abbrev pub keepers_core : (ℕ → Keeper) → Core → Core
keepers_core keeper s = record s { book = record s.book { keeper = keeper } }

-- slabs stay, and go from one keeper to another: from this seat, or to it
pub keepers_keep : (k : Key) (t : ℕ) (keeper : ℕ → Keeper) (g : Shadow) (s : Core) → s.tasks t ≡ Away
    → ((e : ℕ) → (keeper e ≡ s.book.keeper e) ⊎ (IsThere (s.book.keeper e) × IsThere (keeper e)))
    → ((e o : ℕ) → o ≢ t → s.book.keeper e ≡ Keeper.By o → keeper e ≡ Keeper.By o)
    → ((e o : ℕ) → o ≢ t → keeper e ≡ Keeper.By o → s.book.keeper e ≡ Keeper.By o) → ObjectsGood k g s
    → ObjectsGood k g (keepers_core keeper s)
keepers_keep k t keeper g s is same to from good = record {
  book = record {
    span = good.book.span;
    there = λ e z. let old = good.book.there e (there_back e (same e) z) in
        record { place = old.place; class = old.class; record' = old.record' };
    absent = λ e none. let old = good.book.absent e (λ z. none (there_to e (same e) z)) in
        record { handed = old.handed; count = old.count; head = old.head };
  };
  kinds' = λ e. kind e (same e);
  marks_fit = good.marks_fit;
  grants = good.grants;
  out_fits = record {
    in_slab = λ u o. let w = good.out_fits.in_slab u o in (there_to (slab_of u) (same (slab_of u)) w.0, w.1);
    out = good.out_fits.out;
  };
  larges = λ u. large-kept k u (s.book.keeper (slab_of u)) (keeper (slab_of u)) (s.kinds (granule_of u)) (g.held u)
      (there_back (slab_of u) (same (slab_of u))) (good.larges u);
  privates_once = good.privates_once;
  listed_once = good.listed_once;
  private_chains = good.private_chains;
  public_chains = good.public_chains;
  counts_fit = good.counts_fit;
  taken_fit = record { kept = seats.kept; else = λ e none. else e none (is_by (s.book.keeper e) t) };
  tasks_fit = seats.tasks_fit;
  notes_fit = seats.notes_fit;
  hands_fit = seats.hands_fit;
}
  where
    there_to : (e : ℕ) → (keeper e ≡ s.book.keeper e) ⊎ (IsThere (s.book.keeper e) × IsThere (keeper e))
        → IsThere (s.book.keeper e) → IsThere (keeper e)
    there_to e (inl q) z = subst IsThere (sym q) z
    there_to e (inr b) z = b.1

    there_back : (e : ℕ) → (keeper e ≡ s.book.keeper e) ⊎ (IsThere (s.book.keeper e) × IsThere (keeper e))
        → IsThere (keeper e) → IsThere (s.book.keeper e)
    there_back e (inl q) z = subst IsThere q z
    there_back e (inr b) z = b.0

    kind : (e : ℕ) → (keeper e ≡ s.book.keeper e) ⊎ (IsThere (s.book.keeper e) × IsThere (keeper e))
        → KindFits (keeper e) (s.book.classes e) (s.kinds e)
    kind e (inl q) = subst (λ x. KindFits x (s.book.classes e) (s.kinds e)) (sym q) (good.kinds' e)
    kind e (inr b) = kind-there (keeper e) (s.book.classes e) (s.kinds e) b.1
        (there-kind (s.book.keeper e) (s.book.classes e) (s.kinds e) b.0 (good.kinds' e))

    -- what nobody has joined yet, where the seat that keeps the slab does nothing
    none_taken : (e : ℕ) → (s.book.keeper e ≡ Keeper.By t) ⊎ (s.book.keeper e ≢ Keeper.By t)
        → ((o : ℕ) → o ≢ t → s.book.keeper e ≢ Keeper.By o) → g.taken e ≡ []
    none_taken e (inl by) others = taken_at k g s t Away is good e by
    none_taken e (inr not) others = good.taken_fit.else e
        (λ o z. equal_or o t (λ q. not (z ∙ ap Keeper.By q)) (λ ne. others o ne z))

    else : (e : ℕ) → ((o : ℕ) → keeper e ≢ Keeper.By o)
        → (s.book.keeper e ≡ Keeper.By t) ⊎ (s.book.keeper e ≢ Keeper.By t) → g.taken e ≡ []
    else e none by = none_taken e by (λ o ne z. none o (to e o ne z))

    stays : NoReturn g s g (keepers_core keeper s)
    stays = record { lasts = λ seat. lasts-same s.lasts seat; again = λ x z low e. (refl, refl) }

    seats : SeatsFit k g (keepers_core keeper s)
    seats = seats_keep k t Away g s g (keepers_core keeper s) good (record {
      others = λ o ne. record {
        mine = λ x m. (refl, refl);
        slabs = λ c by. record { keeper = to c o ne by ∙ sym by; same = refl; privates = refl; taken = refl };
        strange = λ c not z. not (from c o ne z);
        no_more = λ x e. e;
        lasts = refl;
        task = refl;
      };
      no_return = stays;
      stands = is;
      task' = tt;
      taken = λ e by. none_taken e (is_by (s.book.keeper e) t)
          (λ o ne z. by_other (keeper e) t o by ne (to e o ne z));
      hand = λ u e. hand_at k g s t Away is good u e;
      notes = notes-stay g s g (keepers_core keeper s) (s.notes t) stays (good.notes_fit t);
      kept_notes = λ o _. refl;
    })

-- a granule that is no slab's is cached, or is so no more
abbrev pub IsSlabless : Keeper → Type 0
IsSlabless Keeper.Nobody = ⊤
IsSlabless (Keeper.By seat) = ⊥
IsSlabless Keeper.Orphan = ⊥
IsSlabless (Keeper.Adopting seat) = ⊥
IsSlabless (Keeper.Cached seat) = ⊤

slabless-none : (q : Keeper) → IsSlabless q → IsThere q → ⊥
slabless-none Keeper.Nobody l is = is
slabless-none (Keeper.By t) l is = l
slabless-none Keeper.Orphan l is = l
slabless-none (Keeper.Adopting t) l is = l
slabless-none (Keeper.Cached t) l is = is

slabless-not : (q : Keeper) (t : ℕ) → IsSlabless q → q ≢ Keeper.By t
slabless-not q t l e = subst IsSlabless e l

abbrev pub cached_core : ℕ → Keeper → Kind → Core → Core
cached_core e keeper kind s = record s { kinds = put s.kinds e kind; book = with_keeper e keeper s.book }

pub cached_keep : (k : Key) (e : ℕ) (keeper : Keeper) (kind : Kind) (g : Shadow) (s : Core)
    → IsSlabless (s.book.keeper e) → IsSlabless keeper → KindFits keeper (s.book.classes e) kind
    → ((u : ℕ) → granule_of u ≡ e → LargeFits k u (put s.book.keeper e keeper (slab_of u)) kind (g.held u))
    → ObjectsGood k g s → ObjectsGood k g (cached_core e keeper kind s)
cached_keep k e keeper kind g s was now fits large good =
    let seats = all_stay k g s g r good rely stays (λ o. refl) in
    record {
      book = book-set k s.book (with_keeper e keeper s.book) e (keeper_else s.book e keeper)
          (λ is. absurd (slabless-none keeper now (subst IsThere (put-same s.book.keeper e keeper) is)))
          (λ _. let old = good.book.absent e (slabless-none (s.book.keeper e) was) in
          record { handed = old.handed; count = old.count; head = old.head }) good.book;
      kinds' = kinds-set s.book (with_keeper e keeper s.book) s.kinds e kind (keeper_else s.book e keeper)
          (subst (λ q. KindFits q (s.book.classes e) kind) (sym (put-same s.book.keeper e keeper)) fits) good.kinds';
      marks_fit = good.marks_fit;
      grants = good.grants;
      out_fits = record {
        in_slab = λ u o. let w = good.out_fits.in_slab u o in (subst IsThere (sym (there_same u w.0)) w.0, w.1);
        out = good.out_fits.out;
      };
      larges = λ u. equal_or (granule_of u) e
          (λ same. subst (λ q. LargeFits k u (put s.book.keeper e keeper (slab_of u)) q (g.held u))
          (sym (ap (put s.kinds e kind) same ∙ put-same s.kinds e kind)) (large u same))
          (λ ne. subst (λ q. LargeFits k u (put s.book.keeper e keeper (slab_of u)) q (g.held u))
          (sym (put-other s.kinds e kind (granule_of u) ne))
          (large-kept k u (s.book.keeper (slab_of u)) (put s.book.keeper e keeper (slab_of u)) (s.kinds (granule_of u))
          (g.held u) (back (slab_of u)) (good.larges u)));
      privates_once = good.privates_once;
      listed_once = good.listed_once;
      private_chains = good.private_chains;
      public_chains = good.public_chains;
      counts_fit = good.counts_fit;
      taken_fit = record {
        kept = seats.kept;
        else = λ c none. good.taken_fit.else c (λ o z. none o (kept c o z));
      };
      tasks_fit = seats.tasks_fit;
      notes_fit = seats.notes_fit;
      hands_fit = seats.hands_fit;
    }
  where
    r : Core
    r = cached_core e keeper kind s

    kept : (c o : ℕ) → s.book.keeper c ≡ Keeper.By o → put s.book.keeper e keeper c ≡ Keeper.By o
    kept c o by = put-other s.book.keeper e keeper c
        (λ same. slabless-not (s.book.keeper e) o was (ap s.book.keeper (sym same) ∙ by)) ∙ by

    back : (c : ℕ) → IsThere (put s.book.keeper e keeper c) → IsThere (s.book.keeper c)
    back = each (λ c q. IsThere q → IsThere (s.book.keeper c)) s.book.keeper e keeper (λ c _ z. z)
        (λ z. absurd (slabless-none keeper now z))

    there_same : (u : ℕ) → IsThere (s.book.keeper (slab_of u))
        → put s.book.keeper e keeper (slab_of u) ≡ s.book.keeper (slab_of u)
    there_same u is = put-other s.book.keeper e keeper (slab_of u)
        (λ same. slabless-none (s.book.keeper e) was (subst (λ c. IsThere (s.book.keeper c)) same is))

    stays : NoReturn g s g r
    stays = record { lasts = λ seat. lasts-same s.lasts seat; again = λ x z low e. (refl, refl) }

    rely : (o : ℕ) → Rely o g s g r
    rely o = record {
      mine = λ x m. (refl, refl);
      slabs = λ c by. record { keeper = kept c o by ∙ sym by; same = refl; privates = refl; taken = refl };
      strange = each (λ c q. s.book.keeper c ≢ Keeper.By o → q ≢ Keeper.By o) s.book.keeper e keeper
          (λ c _ not. not) (λ _. slabless-not keeper o now);
      no_more = λ x e. e;
      lasts = refl;
      task = refl;
    }

-- a block is made ready
abbrev pub ready_core : ℕ → ℕ → ℕ → ℕ → Core → Core
ready_core t u first granules s = record s {
  kinds = put s.kinds (granule_of u) (Kind.Large first granules);
  tasks = put s.tasks t (Blocking u first granules);
}

pub ready_keeps : (k : Key) (t u first granules : ℕ) (g : Shadow) (s : Core) → s.tasks t ≡ Away
    → CanBlock k g.held s.book u first granules → s.lasts t + 1 < 2 ^ 55 → ObjectsGood k g s
    → ObjectsGood k (shadow_granted (Held.Ready t first granules) u g) (ready_core t u first granules s)
ready_keeps k t u first granules g s is can low good =
    let was = can.bare u refl in
    let now = Held.Ready t first granules in
    let h = shadow_granted now u g in
    let r = ready_core t u first granules s in
    let task = Blocking u first granules in
    let stays : NoReturn g s h r = record {
      lasts = λ seat. lasts-same s.lasts seat;
      again = λ x z low' e. (again-put g.held s.lasts u now (none-new s.lasts now refl) x z low' e, refl);
    } in
    let seats = seats_keep k t task g s h r good (record {
      others = rely_at t u g s h r (record {
        marks = λ x _. refl;
        held = put-other g.held u now;
        slab = λ o c ne by. record { keeper = refl; same = refl; privates = refl; taken = refl };
        keeper = λ c. refl;
        lasts = λ o _. refl;
        tasks = put-other s.tasks t task;
      }) (λ o _. none-no_one u g s was o) (λ o _. not_in_hand g.held u now o (λ q. cc));
      no_return = stays;
      stands = put-same s.tasks t task;
      task' = (put-same g.held u now, low);
      taken = λ c by. taken_at k g s t Away is good c by;
      hand = each (λ x q. q ≡ Held.InHand t → ⊥) g.held u now (λ x ne z. hand_at k g s t Away is good x z) (λ z. cc);
      notes = notes-stay g s h r (s.notes t) stays (good.notes_fit t);
      kept_notes = λ o _. refl;
    }) in
    record {
      book = good.book;
      kinds' = each (λ e q. KindFits (s.book.keeper e) (s.book.classes e) q) s.kinds (granule_of u)
          (Kind.Large first granules) (λ e _. good.kinds' e)
          (subst (λ q. KindFits q (s.book.classes (granule_of u)) (Kind.Large first granules)) (sym can.granule) tt);
      marks_fit = marks-held g.held s.marks u now (subst (λ q. MarkFits q (s.marks u)) was (good.marks_fit u))
          good.marks_fit;
      grants = grants-put g.held s.lasts g.ended u now refl good.grants;
      out_fits = out-none g.held s.book u now (out-not (g.held u) Held.NotOut was (λ z. z)) (λ z. z) good.out_fits;
      larges = each
          (λ v q. LargeFits k v (s.book.keeper (slab_of v))
          (put s.kinds (granule_of u) (Kind.Large first granules) (granule_of v)) q) g.held u now
          (λ v ne. equal_or (granule_of v) (granule_of u)
          (λ same. large-none k v (s.book.keeper (slab_of v))
          (put s.kinds (granule_of u) (Kind.Large first granules) (granule_of v)) (g.held v) (can.bare v same))
          (λ far. subst (λ q. LargeFits k v (s.book.keeper (slab_of v)) q (g.held v))
          (sym (put-other s.kinds (granule_of u) (Kind.Large first granules) (granule_of v) far)) (good.larges v)))
          (can.slab, put-same s.kinds (granule_of u) (Kind.Large first granules), can.unit);
      privates_once = privates-set g.held g.privates g.taken u now (ap is_private (sym was)) good.privates_once;
      listed_once = listed-set g.held g.listed u now (ap is_listed (sym was)) good.listed_once;
      private_chains = good.private_chains;
      public_chains = good.public_chains;
      counts_fit = good.counts_fit;
      taken_fit = record { kept = seats.kept; else = good.taken_fit.else };
      tasks_fit = seats.tasks_fit;
      notes_fit = seats.notes_fit;
      hands_fit = seats.hands_fit;
    }

-- a slab begins
abbrev pub begun_core : ℕ → ℕ → ℕ → Core → Core
begun_core t e class s = record s {
  kinds = put s.kinds e (Kind.Slab class);
  book = with_begun t e class s.book;
}

pub begin_keeps : (k : Key) (t e class : ℕ) (g : Shadow) (s : Core) → s.tasks t ≡ Away
    → s.book.keeper e ≡ Keeper.Nobody → IsPlace k e → class < class_count → IsBare g.held e → ObjectsGood k g s
    → ObjectsGood k g (begun_core t e class s)
begin_keeps k t e class g s is nobody place low bare_in good =
    record {
      book = book-set k s.book b e else
          (λ _. record {
            place = place;
            class = subst (λ c. c < class_count) (sym (put-same s.book.classes e class)) low;
            record' = subst IsRecord (sym (begun_here s.book t e class)) (record {
              few = let i = place.inside in let span = good.book.span in omega arith;
              handed = omega arith;
              count = omega arith;
              head = omega arith;
            });
          })
          (λ none. absurd (none (there_of (b.keeper e) t by))) good.book;
      kinds' = kinds-set s.book b s.kinds e (Kind.Slab class) else
          (subst (λ q. KindFits q (b.classes e) (Kind.Slab class)) (sym by)
          (ap Kind.Slab (sym (put-same s.book.classes e class)))) good.kinds';
      marks_fit = good.marks_fit;
      grants = good.grants;
      out_fits = record {
        in_slab = λ u o. let w = good.out_fits.in_slab u o in let far = out_far u o in (
          subst IsThere (sym (put-other s.book.keeper e (Keeper.By t) (slab_of u) far)) w.0,
          subst (λ (x : HeapSlab). IsHanded x u) (sym (else.same (slab_of u) (λ z. far (sym z)))) w.1,
        );
        out = λ c i few. equal_or c e
            (λ same. absurd (let z = put-same s.book.handed e 0 in let y = ap (put s.book.handed e 0) same in
            omega arith))
            (λ ne. let y = put-other s.book.handed e 0 c ne in
            subst (λ n. IsOut (g.held (unit_of c n i))) (sym (put-other s.book.classes e class c ne))
            (good.out_fits.out c i (omega arith)));
      };
      larges = λ u. equal_or (slab_of u) e
          (λ same. large-none k u (b.keeper (slab_of u)) (put s.kinds e (Kind.Slab class) (granule_of u)) (g.held u)
          (bare_in u same))
          (λ ne. subst (λ q. LargeFits k u (b.keeper (slab_of u)) q (g.held u))
          (sym (put-other s.kinds e (Kind.Slab class) (granule_of u)
          (λ same. ne (ap slab_granule same ∙ place.even))))
          (subst (λ q. LargeFits k u q (s.kinds (granule_of u)) (g.held u))
          (sym (put-other s.book.keeper e (Keeper.By t) (slab_of u) ne)) (good.larges u)));
      privates_once = good.privates_once;
      listed_once = good.listed_once;
      private_chains = each (λ c q. IsChain (links_in s.marks) (head_link q) (g.privates c) 0) s.book.heads e None
          (λ c _. good.private_chains c)
          (subst (λ q. IsChain (links_in s.marks) (head_link q) (g.privates e) 0) absent.head (good.private_chains e));
      public_chains = good.public_chains;
      counts_fit = both (λ c q n. q + length (g.privates c) ≡ n) s.book.counts s.book.handed e 0 0
          (λ c _. good.counts_fit c)
          (let n = good.counts_fit e in let x = absent.handed in let y = absent.count in omega arith);
      taken_fit = record {
        kept = seats.kept;
        else = λ c none. good.taken_fit.else c
            (λ o z. none o (put-other s.book.keeper e (Keeper.By t) c
            (λ same. absurd (let q : Keeper.Nobody ≡ Keeper.By o = sym nobody ∙ ap s.book.keeper (sym same) ∙ z in cc))
            ∙ z));
      };
      tasks_fit = seats.tasks_fit;
      notes_fit = seats.notes_fit;
      hands_fit = seats.hands_fit;
    }
  where
    b : Book
    b = with_begun t e class s.book

    r : Core
    r = begun_core t e class s

    by : put s.book.keeper e (Keeper.By t) e ≡ Keeper.By t
    by = put-same s.book.keeper e (Keeper.By t)

    else : Elsewhere s.book (with_begun t e class s.book) e
    else = begun_else s.book t e class

    absent : NoneFits s.book e
    absent = good.book.absent e (λ z. subst IsThere nobody z)

    out_far : (u : ℕ) → IsOut (g.held u) → slab_of u ≢ e
    out_far u o same = subst IsOut (bare_in u same) o

    held_far : (u : ℕ) (gr : Grant) → granted_in (g.held u) ≡ Some gr → slab_of u ≢ e
    held_far u gr held same = let q : None ≡ Some gr = sym (ap granted_in (bare_in u same)) ∙ held in cc

    stays : NoReturn g s g (begun_core t e class s)
    stays = record {
      lasts = λ seat. lasts-same s.lasts seat;
      again = λ x z few held. (refl, put-other s.book.classes e class (slab_of x) (held_far x z held));
    }

    far_of : (c o : ℕ) → s.book.keeper c ≡ Keeper.By o → c ≢ e
    far_of c o is same = let q : Keeper.Nobody ≡ Keeper.By o = sym nobody ∙ ap s.book.keeper (sym same) ∙ is in cc

    none_taken : (c : ℕ) → put s.book.keeper e (Keeper.By t) c ≡ Keeper.By t → g.taken c ≡ []
    none_taken c kept = equal_or c e
        (λ same. good.taken_fit.else c
        (λ o z. let q : Keeper.Nobody ≡ Keeper.By o = sym nobody ∙ ap s.book.keeper (sym same) ∙ z in cc))
        (λ ne. taken_at k g s t Away is good c (sym (put-other s.book.keeper e (Keeper.By t) c ne) ∙ kept))

    seats : SeatsFit k g (begun_core t e class s)
    seats = seats_keep k t Away g s g (begun_core t e class s) good (record {
      others = λ o ne. record {
        mine = λ x m. (refl, refl);
        slabs = λ c kept. let far = far_of c o kept in record {
          keeper = put-other s.book.keeper e (Keeper.By t) c far;
          same = else.same c (λ z. far (sym z));
          privates = refl;
          taken = refl;
        };
        strange = each (λ c q. s.book.keeper c ≢ Keeper.By o → q ≢ Keeper.By o) s.book.keeper e (Keeper.By t)
            (λ c _ not. not) (λ _ z. ne (let q : t ≡ o = cc in sym q));
        no_more = λ x z. z;
        lasts = refl;
        task = refl;
      };
      no_return = stays;
      stands = is;
      task' = tt;
      taken = none_taken;
      hand = λ u z. hand_at k g s t Away is good u z;
      notes = notes-stay g s g (begun_core t e class s) (s.notes t) stays (good.notes_fit t);
      kept_notes = λ o _. refl;
    })

-- a slab ends
abbrev pub ended_core : ℕ → Core → Core
ended_core e s = record s { kinds = put s.kinds e Kind.Nothing; book = with_ended e s.book }

emptied-each : (P : ℕ → Held → Type 0) (e : ℕ) (held : ℕ → Held) → ((u : ℕ) → slab_of u ≡ e → P u Held.NotOut)
    → ((u : ℕ) → slab_of u ≢ e → P u (held u)) → (u : ℕ) → P u (cond (eqb (slab_of u) e) Held.NotOut (held u))
emptied-each P e held here there u = equal_or (slab_of u) e
    (λ same. subst (P u) (sym (inside same)) (here u same))
    (λ ne. subst (P u) (sym (outside ne)) (there u ne))
  where
    inside : slab_of u ≡ e → cond (eqb (slab_of u) e) Held.NotOut (held u) ≡ Held.NotOut
    inside same = grind (arith, nat_tests)

    outside : slab_of u ≢ e → cond (eqb (slab_of u) e) Held.NotOut (held u) ≡ held u
    outside ne = grind (arith, nat_tests)

pub end_keeps : (k : Key) (t e : ℕ) (g : Shadow) (s : Core) → s.tasks t ≡ Away → s.book.keeper e ≡ Keeper.By t
    → s.book.counts e ≡ 0 → ObjectsGood k g s → ObjectsGood k (shadow_emptied e g) (ended_core e s)
end_keeps k t e g s is by zero good =
    record {
      book = book-set k s.book (with_ended e s.book) e else (λ z. absurd (subst IsThere nobody z))
          (λ _. record {
            handed = put-same s.book.handed e 0;
            count = put-same s.book.counts e 0;
            head = put-same s.book.heads e None;
          }) good.book;
      kinds' = kinds-set s.book (with_ended e s.book) s.kinds e Kind.Nothing else
          (subst (λ q. KindFits q (s.book.classes e) Kind.Nothing) (sym nobody) tt) good.kinds';
      marks_fit = emptied-each (λ u q. MarkFits q (s.marks u)) e g.held
          (λ u same. no_grant u (in_it u same)) (λ u _. good.marks_fit u);
      grants = grants-fewer g.held (h.held) s.lasts g.ended
          (λ u gr. emptied-each (λ u q. granted_in q ≡ Some gr → granted_in (g.held u) ≡ Some gr) e g.held
          (λ u _ z. absurd (cc)) (λ u _ z. z) u) good.grants;
      out_fits = record {
        in_slab = emptied-each
            (λ u q. IsOut q → IsThere (put s.book.keeper e Keeper.Nobody (slab_of u))
            × IsHanded (record_of (with_ended e s.book) (slab_of u)) u) e g.held (λ u _ o. absurd o)
            (λ u far o. let w = good.out_fits.in_slab u o in (
              subst IsThere (sym (put-other s.book.keeper e Keeper.Nobody (slab_of u) far)) w.0,
              subst (λ (x : HeapSlab). IsHanded x u) (sym (else.same (slab_of u) (λ z. far (sym z)))) w.1,
            ));
        out = λ c i few. equal_or c e
            (λ same. absurd (let z = put-same s.book.handed e 0 in let y = ap (put s.book.handed e 0) same in
            omega arith))
            (λ ne. out_else c i ne (let y = put-other s.book.handed e 0 c ne in omega arith)
            (there-cases (s.book.keeper c)));
      };
      larges = emptied-each (λ u q. LargeFits k u (put s.book.keeper e Keeper.Nobody (slab_of u))
          (put s.kinds e Kind.Nothing (granule_of u)) q) e g.held (λ u _. tt)
          (λ u far. subst (λ q. LargeFits k u (put s.book.keeper e Keeper.Nobody (slab_of u)) q (g.held u))
          (sym (put-other s.kinds e Kind.Nothing (granule_of u) (λ same. far (ap slab_granule same ∙ old.place.even))))
          (subst (λ q. LargeFits k u q (s.kinds (granule_of u)) (g.held u))
          (sym (put-other s.book.keeper e Keeper.Nobody (slab_of u) far)) (good.larges u)));
      privates_once = λ c u. privates c u;
      listed_once = λ c. emptied-each (λ u q. tally u (g.listed c) ≡ in_slab c u (is_listed q)) e g.held
          (λ u same. good.listed_once c u ∙ ap (in_slab c u) (not_listed u (in_it u same)))
          (λ u _. good.listed_once c u);
      private_chains = both (λ c q xs. IsChain (links_in s.marks) (head_link q) xs 0) s.book.heads g.privates e None []
          (λ c _. good.private_chains c) refl;
      public_chains = good.public_chains;
      counts_fit = λ c. equal_or c e
          (λ same. subst (λ x. put s.book.counts e 0 x + length (put g.privates e [] x) ≡ put s.book.handed e 0 x)
          (sym same)
          (let x = put-same s.book.counts e 0 in let y = put-same s.book.handed e 0 in
          let z = ap (length {A = ℕ}) (put-same g.privates e []) in omega arith))
          (λ ne. let x = put-other s.book.counts e 0 c ne in let y = put-other s.book.handed e 0 c ne in
          let z = ap (length {A = ℕ}) (put-other g.privates e [] c ne) in let n = good.counts_fit c in omega arith);
      taken_fit = record {
        kept = seats.kept;
        else = λ c none. equal_or c e
            (λ same. ap g.taken same ∙ taken_at k g s t Away is good e by)
            (λ ne. good.taken_fit.else c (λ o z. none o (put-other s.book.keeper e Keeper.Nobody c ne ∙ z)));
      };
      tasks_fit = seats.tasks_fit;
      notes_fit = seats.notes_fit;
      hands_fit = seats.hands_fit;
    }
  where
    h : Shadow
    h = shadow_emptied e g

    old : SlabFits k s.book e
    old = good.book.there e (there_of (s.book.keeper e) t by)

    nobody : put s.book.keeper e Keeper.Nobody e ≡ Keeper.Nobody
    nobody = put-same s.book.keeper e Keeper.Nobody

    else : Elsewhere s.book (with_ended e s.book) e
    else = ended_else s.book e

    -- each object of the slab is private
    in_it : (u : ℕ) → slab_of u ≡ e → (g.held u ≡ Held.Private) ⊎ (g.held u ≡ Held.NotOut)
    in_it u same = cases (out-cases (g.held u))
      where
        cases : IsOut (g.held u) ⊎ (IsOut (g.held u) → ⊥) → (g.held u ≡ Held.Private) ⊎ (g.held u ≡ Held.NotOut)
        cases (inl out) = inl (private-there g.held g.privates g.taken e u good.privates_once
            (let some = (one_slab_by_its_lists (record_of s.book e) (g.privates e)
            (slab_is k g s e good (there_of (s.book.keeper e) t by))).unused zero u
            (handed-of k g s e u good same out) in omega arith)).0
        cases (inr not) = inr (bare k u (s.book.keeper (slab_of u)) (s.kinds (granule_of u)) (g.held u) not
            (good.larges u) (subst (λ c. IsThere (s.book.keeper c)) (sym same) (there_of (s.book.keeper e) t by)))

    no_grant : (u : ℕ) → (g.held u ≡ Held.Private) ⊎ (g.held u ≡ Held.NotOut) → IsNoGrant (s.marks u)
    no_grant u (inl p) = subst (λ q. MarkFits q (s.marks u)) p (good.marks_fit u)
    no_grant u (inr n) = subst (λ q. MarkFits q (s.marks u)) n (good.marks_fit u)

    not_listed : (u : ℕ) → (g.held u ≡ Held.Private) ⊎ (g.held u ≡ Held.NotOut) → is_listed (g.held u) ≡ 0
    not_listed u (inl p) = ap is_listed p
    not_listed u (inr n) = ap is_listed n

    out_else : (c i : ℕ) → c ≢ e → i < s.book.handed c → IsThere (s.book.keeper c) ⊎ (IsThere (s.book.keeper c) → ⊥)
        → IsOut (cond (eqb (slab_of (unit_of c (s.book.classes c) i)) e) Held.NotOut
        (g.held (unit_of c (s.book.classes c) i)))
    out_else c i ne low (inl there) =
        let fits = good.book.there c there in
        let at = unit-inside c (s.book.classes c) i fits.record'.few fits.place.even
        (let m = fits.record'.handed in omega arith) in
        emptied-each (λ u q. slab_of u ≡ c → IsOut (g.held u) → IsOut q) e g.held
        (λ u same here o. absurd (ne (sym here ∙ same))) (λ u far here o. o)
        (unit_of c (s.book.classes c) i) at (good.out_fits.out c i low)
    out_else c i ne low (inr none) = absurd (let z = (good.book.absent c none).handed in omega arith)

    privates : (c u : ℕ) → tally u (put g.privates e [] c) + tally u (g.taken c)
        ≡ in_slab c u (is_private (cond (eqb (slab_of u) e) Held.NotOut (g.held u)))
    privates c u = emptied-each
        (λ u q. tally u (put g.privates e [] c) + tally u (g.taken c) ≡ in_slab c u (is_private q)) e g.held
        (λ u same. equal_or c e (λ here. gone c u here) (λ ne. let o = good.privates_once c u in
        let p = ap (tally u) (put-other g.privates e [] c ne) in
        let z : in_slab c u (is_private (g.held u)) ≡ 0 = grind (arith, nat_tests) in
        let w : in_slab c u 0 ≡ 0 = grind (arith, nat_tests) in omega arith))
        (λ u far. equal_or c e
        (λ here. gone c u here ∙ sym (let w : in_slab c u (is_private (g.held u)) ≡ in_slab c u 0 =
        grind (arith, nat_tests) in w))
        (λ ne. let o = good.privates_once c u in
        let p = ap (tally u) (put-other g.privates e [] c ne) in omega arith))
        u
      where
        gone : (c u : ℕ) → c ≡ e → tally u (put g.privates e [] c) + tally u (g.taken c) ≡ in_slab c u 0
        gone c u here =
            let p = ap (tally u) (ap (put g.privates e []) here ∙ put-same g.privates e []) in
            let n = ap (tally u) (ap g.taken here ∙ taken_at k g s t Away is good e by) in
            let w : in_slab c u 0 ≡ 0 = grind (arith, nat_tests) in omega arith

    far_of : (o : ℕ) → o ≢ t → (u : ℕ) → IsMine o g s u → slab_of u ≢ e
    far_of o ne u (hand was) same = clash (in_it u same)
      where
        clash : (g.held u ≡ Held.Private) ⊎ (g.held u ≡ Held.NotOut) → ⊥
        clash (inl p) = let q : Held.Private ≡ Held.InHand o = sym p ∙ was in cc
        clash (inr n) = let q : Held.NotOut ≡ Held.InHand o = sym n ∙ was in cc
    far_of o ne u (ready x m was) same = clash (in_it u same)
      where
        clash : (g.held u ≡ Held.Private) ⊎ (g.held u ≡ Held.NotOut) → ⊥
        clash (inl p) = let q : Held.Private ≡ Held.Ready o x m = sym p ∙ was in cc
        clash (inr n) = let q : Held.NotOut ≡ Held.Ready o x m = sym n ∙ was in cc
    far_of o ne u (private was kept) same = by_other (s.book.keeper e) t o by ne (ap s.book.keeper (sym same) ∙ kept)

    same_far : (u : ℕ) → slab_of u ≢ e → cond (eqb (slab_of u) e) Held.NotOut (g.held u) ≡ g.held u
    same_far u far = grind (arith, nat_tests)

    hands : (o u : ℕ) → cond (eqb (slab_of u) e) Held.NotOut (g.held u) ≡ Held.InHand o → g.held u ≡ Held.InHand o
    hands o = emptied-each (λ u q. q ≡ Held.InHand o → g.held u ≡ Held.InHand o) e g.held (λ u _ z. absurd (cc))
        (λ u _ z. z)

    stays : NoReturn g s (shadow_emptied e g) (ended_core e s)
    stays = record {
      lasts = λ seat. lasts-same s.lasts seat;
      again = λ x z low now. (
        emptied-each (λ u q. granted_in q ≡ Some z → q ≡ g.held u) e g.held
            (λ u _ w. absurd (cc)) (λ u _ w. refl) x now,
        refl,
      );
    }

    far_keeper : (c o : ℕ) → o ≢ t → s.book.keeper c ≡ Keeper.By o → c ≢ e
    far_keeper c o ne kept same = by_other (s.book.keeper e) t o by ne (ap s.book.keeper (sym same) ∙ kept)

    seats : SeatsFit k (shadow_emptied e g) (ended_core e s)
    seats = seats_keep k t Away g s (shadow_emptied e g) (ended_core e s) good (record {
      others = λ o ne. record {
        mine = λ x m. (refl, same_far x (far_of o ne x m));
        slabs = λ c kept. let far = far_keeper c o ne kept in record {
          keeper = put-other s.book.keeper e Keeper.Nobody c far;
          same = else.same c (λ z. far (sym z));
          privates = put-other g.privates e [] c far;
          taken = refl;
        };
        strange = each (λ c q. s.book.keeper c ≢ Keeper.By o → q ≢ Keeper.By o) s.book.keeper e Keeper.Nobody
            (λ c _ not. not) (λ _ z. cc);
        no_more = hands o;
        lasts = refl;
        task = refl;
      };
      no_return = stays;
      stands = is;
      task' = tt;
      taken = λ c kept. equal_or c e
          (λ same. ap g.taken same ∙ taken_at k g s t Away is good e by)
          (λ ne. taken_at k g s t Away is good c (sym (put-other s.book.keeper e Keeper.Nobody c ne) ∙ kept));
      hand = λ u z. hand_at k g s t Away is good u (hands t u z);
      notes = notes-stay g s (shadow_emptied e g) (ended_core e s) (s.notes t) stays (good.notes_fit t);
      kept_notes = λ o _. refl;
    })
