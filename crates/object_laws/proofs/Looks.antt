-- A look at a place: what it has noted at each position.
use Rattle.std.proofs.Common.{◌≡◌, ℕ, ◌∷◌, ◌%◌, Bool, true, false, cond, ◌||◌, eqb, Option, Some, None}
use Rattle.std.proofs.Common.{refl, sym, ap, subst, arith, ◌∙◌}
use Rattle.std.proofs.lemmas.Bool.{eqb-true}
use Rattle.std.specs.Prelude.{⊤}
use Rattle.pool_types.specs.declared.values.Grant.{Grant}
use Rattle.pool_words.specs.declared.words.Key.{Key}
use Rattle.pool_words.specs.Words.{kinds}
use Rattle.word_codes.specs.declared.marks.Mark.{Mark}
use Rattle.word_codes.specs.declared.kinds.Kind.{Kind}
use Rattle.word_codes.specs.declared.region_words.RegionWord.{RegionWord}
use Rattle.word_codes.specs.Marks.{mark_of}
use Rattle.word_codes.specs.Kinds.{kind_of}
use Rattle.word_codes.specs.Places.{granule_of}
use Rattle.word_codes.specs.RegionWords.{region_of, has_number, unit_in}
use Rattle.public_list.specs.declared.looking.LookAt.{LookAt}
use Rattle.public_list.specs.declared.looking.LookCall.{LookCall}
use Rattle.public_list.specs.declared.looking.LookFor.{LookFor}
use Rattle.public_list.specs.declared.looking.LookNext.{LookNext}
use Rattle.public_list.specs.Looking.{look_course, look_learn, look_placed, look_granted, look_marked, look_held, is_slab}
use Rattle.public_list.specs.Looking.{look_again, look_region}
use Rattle.word_laws.specs.Memory.{Mem, put, after, found}
use Rattle.slab_laws.specs.Books.{Keeper, IsThere}
use Rattle.slab_laws.specs.Heaps.{slab_of, KindFits}
use Rattle.pool_types.specs.declared.values.Found.TheVariants.{NoPlace}
use Rattle.object_laws.specs.Objects.{Held, granted_in, IsOut, Task, Shadow, Locals, core_in}
use Rattle.object_laws.specs.Objects.Task.{Away, Looking}
use Rattle.object_laws.specs.Parts.{MarkFits, LargeFits, SeenFits, OldFits, IfHeld, IsLarge, KindIs, NoteFits, note_of}
use Rattle.object_laws.specs.Parts.{LookFits, ObjectsGood}
use Rattle.object_laws.specs.Rows.{looked}
use Rattle.object_laws.proofs.Parts.Marks.{granted_is_held, IsGranted, granted-cases}
use Rattle.object_laws.proofs.Parts.Marks.IsGranted.{small, large}
use Rattle.object_laws.proofs.Seats.{fits_at, taken_at, hand_at}
use Rattle.object_laws.proofs.JoinRows.{stand_keeps, notes_keep}

-- what a look has noted where it goes
abbrev NextFits : Key → Shadow → Mem → Locals → LookNext → Type 0
NextFits k g m l (LookNext.Goes at) = LookFits g (core_in m l) at
NextFits k g m l (LookNext.Held unit mark kind base) = NoteFits g (core_in m l) (note_of unit mark kind)
NextFits k g m l LookNext.Differs = ⊤
NextFits k g m l (LookNext.NotHeld place) = ⊤

-- the kind at a slab's granule, by who keeps it
slab-kind : (q : Keeper) (class : ℕ) (kind : Kind) → IsThere q → KindFits q class kind → kind ≡ Kind.Slab class
slab-kind Keeper.Nobody class kind is fit = absurd is
slab-kind (Keeper.By t) class kind is fit = fit
slab-kind Keeper.Orphan class kind is fit = fit
slab-kind (Keeper.Adopting t) class kind is fit = fit
slab-kind (Keeper.Cached t) class kind is fit = absurd is

no_slab-kind : (q : Keeper) (class : ℕ) (kind : Kind) → (IsThere q → ⊥) → KindFits q class kind → is_slab kind ≡ false
no_slab-kind Keeper.Nobody class Kind.Nothing none fit = refl
no_slab-kind Keeper.Nobody class (Kind.Slab other) none fit = absurd fit
no_slab-kind Keeper.Nobody class Kind.CachedSlab none fit = absurd fit
no_slab-kind Keeper.Nobody class (Kind.Large x n) none fit = refl
no_slab-kind (Keeper.By t) class kind none fit = absurd (none tt)
no_slab-kind Keeper.Orphan class kind none fit = absurd (none tt)
no_slab-kind (Keeper.Adopting t) class kind none fit = absurd (none tt)
no_slab-kind (Keeper.Cached t) class kind none fit = ap is_slab fit

-- an object's slab says that it is one, and a large object's granule says its block
small-kind : (k : Key) (g : Shadow) (m : Mem) (l : Locals) (u : ℕ) (gr : Grant) → ObjectsGood k g (core_in m l)
    → g.held u ≡ Held.Object gr → kind_of (m kinds (slab_of u)) ≡ Kind.Slab (l.book.classes (slab_of u))
small-kind k g m l u gr good was =
    let w = good.out_fits.in_slab u (subst IsOut (sym was) tt) in
    slab-kind (l.book.keeper (slab_of u)) (l.book.classes (slab_of u)) (kind_of (m kinds (slab_of u))) w.0
    (good.kinds' (slab_of u))

large-facts : (k : Key) (g : Shadow) (m : Mem) (l : Locals) (u x n : ℕ) (gr : Grant) → ObjectsGood k g (core_in m l)
    → g.held u ≡ Held.Large gr x n
    → (IsThere (l.book.keeper (slab_of u)) → ⊥) × (kind_of (m kinds (granule_of u)) ≡ Kind.Large x n)
large-facts k g m l u x n gr good was =
    let f = subst (LargeFits k u (l.book.keeper (slab_of u)) (kind_of (m kinds (granule_of u)))) was (good.larges u) in
    (f.0, f.1)

-- what is noted at the kind words
at-slab : (k : Key) (g : Shadow) (m : Mem) (l : Locals) (u word : ℕ) → ObjectsGood k g (core_in m l)
    → SeenFits l.lasts word
    → (is_slab (kind_of (m kinds (slab_of u))) || eqb (granule_of u % 2) 0) ≡ true
    → NoteFits g (core_in m l) (note_of u word (kind_of (m kinds (slab_of u))))
at-slab k g m l u word good seen decides = record {
  seen = seen;
  kind = λ gr names held. by gr (granted-cases (g.held u) gr held);
}
  where
    even : is_slab (kind_of (m kinds (slab_of u))) ≡ false → granule_of u % 2 ≡ 0
    even no_slab = eqb-true (granule_of u % 2) 0
        (sym (ap (λ b. b || eqb (granule_of u % 2) 0) no_slab) ∙ decides)

    by : (gr : Grant) → IsGranted (g.held u) gr → KindIs l.book u (kind_of (m kinds (slab_of u))) (g.held u)
    by gr (small was) = subst (KindIs l.book u (kind_of (m kinds (slab_of u)))) (sym was)
        (small-kind k g m l u gr good was)
    by gr (large x n was) =
        let f = large-facts k g m l u x n gr good was in
        let no_slab = no_slab-kind (l.book.keeper (slab_of u)) (l.book.classes (slab_of u))
        (kind_of (m kinds (slab_of u))) f.0 (good.kinds' (slab_of u)) in
        let half = even no_slab in
        let same : slab_of u ≡ granule_of u = omega arith in
        subst (KindIs l.book u (kind_of (m kinds (slab_of u)))) (sym was)
        (ap (λ e. kind_of (m kinds e)) same ∙ f.1)

not-slab : (k : Key) (g : Shadow) (m : Mem) (l : Locals) (u word : ℕ) → ObjectsGood k g (core_in m l)
    → (is_slab (kind_of (m kinds (slab_of u))) || eqb (granule_of u % 2) 0) ≡ false → IfHeld g.held u word IsLarge
not-slab k g m l u word good decides gr names held = by (granted-cases (g.held u) gr held)
  where
    by : IsGranted (g.held u) gr → IsLarge (g.held u)
    by (small was) = absurd (
        let slab = ap is_slab (small-kind k g m l u gr good was) in
        let q : true ≡ false = sym (ap (λ b. b || eqb (granule_of u % 2) 0) slab) ∙ decides in cc)
    by (large x n was) = subst IsLarge (sym was) tt

at-odd : (k : Key) (g : Shadow) (m : Mem) (l : Locals) (u word : ℕ) → ObjectsGood k g (core_in m l)
    → SeenFits l.lasts word → IfHeld g.held u word IsLarge
    → NoteFits g (core_in m l) (note_of u word (kind_of (m kinds (granule_of u))))
at-odd k g m l u word good seen larges = record {
  seen = seen;
  kind = λ gr names held. by gr names held (granted-cases (g.held u) gr held);
}
  where
    by : (gr : Grant) → mark_of word ≡ Mark.Granted gr → granted_in (g.held u) ≡ Some gr → IsGranted (g.held u) gr
        → KindIs l.book u (kind_of (m kinds (granule_of u))) (g.held u)
    by gr names held (small was) = absurd (subst IsLarge was (larges gr names held))
    by gr names held (large x n was) = subst (KindIs l.book u (kind_of (m kinds (granule_of u)))) (sym was)
        (large-facts k g m l u x n gr good was).1

held-next : (k : Key) (g : Shadow) (m : Mem) (l : Locals) (why : LookFor) (u word : ℕ) (kind : Kind)
    → NoteFits g (core_in m l) (note_of u word kind) → NextFits k g m l (look_held why u word kind)
held-next k g m l LookFor.Free u word kind fits = fits
held-next k g m l LookFor.Size u word kind fits = fits
held-next k g m l LookFor.Pool u word kind fits = fits
held-next k g m l LookFor.Realloc u word kind fits = fits

again-next : (k : Key) (g : Shadow) (m : Mem) (l : Locals) (why : LookFor) (word : ℕ)
    → NextFits k g m l (look_again why word)
again-next k g m l LookFor.Free word = tt
again-next k g m l LookFor.Size word = tt
again-next k g m l LookFor.Pool word = tt
again-next k g m l LookFor.Realloc word = tt

placed-next : (k : Key) (g : Shadow) (m : Mem) (l : Locals) (unit : Option ℕ) → NextFits k g m l (look_placed unit)
placed-next k g m l (Some u) = tt
placed-next k g m l None = tt

marked-next : (k : Key) (g : Shadow) (m : Mem) (l : Locals) (u word : ℕ) (mark : Mark) → mark_of word ≡ mark
    → OldFits l.lasts word → NextFits k g m l (look_granted u word mark)
marked-next k g m l u word Mark.Unmarked is old = tt
marked-next k g m l u word (Mark.Granted gr) is old = record { grant = gr; names = is; made = old gr is }
marked-next k g m l u word (Mark.Hand seat) is old = tt
marked-next k g m l u word (Mark.Link v) is old = tt
marked-next k g m l u word Mark.End is old = tt
marked-next k g m l u word Mark.EndUnusable is old = tt

next-fits : (k : Key) (g : Shadow) (m : Mem) (l : Locals) (c : LookCall) (at : LookAt) → ObjectsGood k g (core_in m l)
    → LookFits g (core_in m l) at → NextFits k g m l (look_learn c at (found m (look_course c at)))
next-fits k g m l c LookAt.Region good fits = by (region_of (found m (look_course c LookAt.Region)))
  where
    by : (r : RegionWord) → NextFits k g m l (look_region c r)
    by r = elim (has_number r c.number) as
        (λ b. NextFits k g m l (cond b (look_placed (unit_in r c.offset)) (LookNext.NotHeld NoPlace)))
        [ true ↦ placed-next k g m l (unit_in r c.offset) | false ↦ tt ]
next-fits k g m l c (LookAt.Mark u) good fits =
    λ gr names. good.grants.least u gr (granted_is_held (g.held u) gr (subst (MarkFits (g.held u)) names
    (good.marks_fit u)))
next-fits k g m l c (LookAt.Again u word) good fits =
    elim (has_number (region_of (found m (look_course c (LookAt.Again u word)))) c.number) as
    (λ b. NextFits k g m l (cond b (look_marked u word) (LookNext.NotHeld NoPlace)))
    [ true ↦ marked-next k g m l u word (mark_of word) refl fits | false ↦ tt ]
next-fits k g m l c (LookAt.Kind u word) good fits = by (is_slab kind || eqb (granule_of u % 2) 0) refl
  where
    kind : Kind
    kind = kind_of (m kinds (slab_of u))

    by : (b : Bool) → (is_slab (kind_of (m kinds (slab_of u))) || eqb (granule_of u % 2) 0) ≡ b
        → NextFits k g m l (cond b (look_held c.reason u word (kind_of (m kinds (slab_of u))))
        (LookNext.Goes (LookAt.Odd u word)))
    by true is = held-next k g m l c.reason u word (kind_of (m kinds (slab_of u))) (at-slab k g m l u word good fits is)
    by false is = (fits, not-slab k g m l u word good is)
next-fits k g m l c (LookAt.Odd u word) good (seen, larges) =
    held-next k g m l c.reason u word (kind_of (m kinds (granule_of u))) (at-odd k g m l u word good seen larges)
next-fits k g m l c (LookAt.Base u word kind) good fits = fits
next-fits k g m l c (LookAt.Second u word kind base) good fits =
    elim (eqb (found m (look_course c (LookAt.Second u word kind base))) word) as
    (λ b. NextFits k g m l (cond b (LookNext.Held u word kind base)
    (look_again c.reason (found m (look_course c (LookAt.Second u word kind base))))))
    [ true ↦ fits | false ↦ again-next k g m l c.reason (found m (look_course c (LookAt.Second u word kind base))) ]
next-fits k g m l c (LookAt.Gone word) good fits = tt

-- a look makes no change
same_after : (k : Key) (m : Mem) (c : LookCall) (at : LookAt) → after k m (look_course c at) ≡ m
same_after k m c LookAt.Region = refl
same_after k m c (LookAt.Mark u) = refl
same_after k m c (LookAt.Again u word) = refl
same_after k m c (LookAt.Kind u word) = refl
same_after k m c (LookAt.Odd u word) = refl
same_after k m c (LookAt.Base u word kind) = refl
same_after k m c (LookAt.Second u word kind base) = refl
same_after k m c (LookAt.Gone word) = refl

look-fits-same : (g : Shadow) (m : Mem) (l : Locals) (t : ℕ) (task : Task) (at : LookAt) → LookFits g (core_in m l) at
    → LookFits g (core_in m (record l { tasks = put l.tasks t task })) at
look-fits-same g m l t task LookAt.Region fits = fits
look-fits-same g m l t task (LookAt.Mark u) fits = fits
look-fits-same g m l t task (LookAt.Again u word) fits = fits
look-fits-same g m l t task (LookAt.Kind u word) fits = fits
look-fits-same g m l t task (LookAt.Odd u word) fits = fits
look-fits-same g m l t task (LookAt.Base u word kind) fits = record { seen = fits.seen; kind = fits.kind }
look-fits-same g m l t task (LookAt.Second u word kind base) fits = record { seen = fits.seen; kind = fits.kind }
look-fits-same g m l t task (LookAt.Gone word) fits = fits

pub looks_keep : (k : Key) (g : Shadow) (m : Mem) (l : Locals) (t : ℕ) (c : LookCall) (at : LookAt)
    → l.tasks t ≡ Looking c at → ObjectsGood k g (core_in m l)
    → ObjectsGood k g (core_in (after k m (look_course c at))
    (looked t c (look_learn c at (found m (look_course c at))) l))
looks_keep k g m l t c at is good =
    let fits = fits_at k g (core_in m l) t (Looking c at) is good in
    subst (λ (x : Mem). ObjectsGood k g (core_in x (looked t c (look_learn c at (found m (look_course c at))) l)))
    (sym (same_after k m c at))
    (by (look_learn c at (found m (look_course c at))) (next-fits k g m l c at good fits))
  where
    away : ObjectsGood k g (core_in m (record l { tasks = put l.tasks t Away }))
    away = stand_keeps k t Away g (core_in m l) good tt
        (λ e kept. taken_at k g (core_in m l) t (Looking c at) is good e kept)
        (λ u held. hand_at k g (core_in m l) t (Looking c at) is good u held)

    by : (next : LookNext) → NextFits k g m l next → ObjectsGood k g (core_in m (looked t c next l))
    by (LookNext.Goes next) fits = stand_keeps k t (Looking c next) g (core_in m l) good
        (look-fits-same g m l t (Looking c next) next fits)
        (λ e kept. taken_at k g (core_in m l) t (Looking c at) is good e kept)
        (λ u held. hand_at k g (core_in m l) t (Looking c at) is good u held)
    by (LookNext.Held u word kind base) fits =
        notes_keep k t (note_of u word kind ∷ l.notes t) g (core_in m (record l { tasks = put l.tasks t Away })) away
        (record { seen = fits.seen; kind = fits.kind }, away.notes_fit t)
    by LookNext.Differs fits = away
    by (LookNext.NotHeld place) fits = away
