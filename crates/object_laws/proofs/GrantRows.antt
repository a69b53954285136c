-- Grants: of the newest private object, of the next object of a rest, and of a large block.
use Rattle.std.proofs.Common.{◌≡◌, ◌≢◌, ◌⊎◌, inl, inr, ℕ, ◌+◌, ◌<◌, ◌≤◌, Option, Some, None, List, []}
use Rattle.std.proofs.Common.{◌∷◌, length, refl, sym, ap, subst, arith, ◌∙◌}
use Rattle.std.proofs.lemmas.Bool.Decides.{nat_tests}
use Rattle.pool_types.specs.declared.values.Grant.{Grant}
use Rattle.pool_words.specs.declared.words.Key.{Key}
use Rattle.size_classes.specs.Classes.{class_objects}
use Rattle.word_codes.specs.declared.marks.Mark.{Mark}
use Rattle.word_codes.specs.declared.kinds.Kind.{Kind}
use Rattle.word_codes.specs.Marks.{mark_of}
use Rattle.word_codes.specs.Places.{granule_of}
use Rattle.heap_slabs.specs.Records.{unit_of}
use Rattle.word_laws.specs.Memory.{put}
use Rattle.chain_laws.specs.Chains.{IsChain, tally}
use Rattle.chain_laws.proofs.CallerLemmas.{tally-here, tally-more}
use Rattle.slab_laws.specs.Books.{Keeper, Book, IsThere, record_of, with_private_taken, with_rest_taken}
use Rattle.slab_laws.specs.OneSlab.{IsHanded, HeadFits, IsRecord, IsSlabOf}
use Rattle.slab_laws.specs.Heaps.{slab_of, SlabFits}
use Rattle.slab_laws.proofs.CallerLemmas.{book-set, headed_here}
use Rattle.slab_laws.proofs.CallerLemmas.{rest_taken_else, private_taken_else, rest_here, with_parts}
use Rattle.slab_laws.proofs.CallerLemmas.{unit-inside, units-once}
use Rattle.object_laws.specs.Objects.{Held, granted_in, IsOut, Task, head_link, links_in}
use Rattle.object_laws.specs.Objects.{Shadow, Core, grant_by}
use Rattle.object_laws.specs.Objects.Task.{Away, Taking, Resting, Blocking}
use Rattle.object_laws.specs.Parts.{LargeFits}
use Rattle.object_laws.specs.Parts.{is_private, is_listed, TakenFits}
use Rattle.object_laws.specs.Parts.{KindIs, NoteFits, NotesFit, note_of, IsInHand, ObjectsGood}
use Rattle.object_laws.specs.Rely.{IsMine, NoReturn, TurnFits}
use Rattle.object_laws.specs.Rows.{tail_of, shadow_private, shadow_granted}
use Rattle.slab_laws.proofs.CallerLemmas.{put-same, put-other, each}
use Rattle.object_laws.proofs.Parts.Marks.{marks-set, grants-granted}
use Rattle.object_laws.proofs.Parts.Marks.{larges-set}
use Rattle.object_laws.proofs.Parts.Out.{out-cases, out-not, out-set, out-none}
use Rattle.object_laws.proofs.Parts.Out.{out-more}
use Rattle.object_laws.proofs.Parts.Once.{privates-none, privates-other, listed-none, listed-set, privates-set}
use Rattle.object_laws.proofs.Parts.Once.{privates-popped}
use Rattle.object_laws.proofs.Parts.Once.{private-cases}
use Rattle.object_laws.proofs.Parts.Chains.{chain-marked, publics-marked, privates-marked}
use Rattle.object_laws.proofs.Parts.Chains.{privates-changed, chain-starts}
use Rattle.object_laws.proofs.Parts.Counts.{counts-set, counts-more}
use Rattle.object_laws.proofs.Seats.{notes-stay, seats_keep, fits_at, taken_at, hand_at, head-mine}
use Rattle.object_laws.proofs.Turns.{rely_at, own_slab, private-no_other, none-no_one}
use Rattle.object_laws.proofs.Turns.{ready-no_other, again-put, next-new, lasts-more}
use Rattle.object_laws.proofs.Turns.{not_in_hand}
use Rattle.object_laws.proofs.Facts.{slab_is, there_of, handed-of}

abbrev pub next_of : ℕ → Core → Grant
next_of t s = grant_by t (s.lasts t + 1)

abbrev pub granted_core : ℕ → ℕ → ℕ → Kind → Book → Core → Core
granted_core t u word kind b s = record s {
  marks = put s.marks u (Mark.Granted (next_of t s));
  book = b;
  lasts = put s.lasts t (s.lasts t + 1);
  tasks = put s.tasks t Away;
  notes = put s.notes t (note_of u word kind ∷ s.notes t);
}

-- a grant with a new number does not return
new_stays : (t u word : ℕ) (kind : Kind) (b : Book) (now : Held) (g : Shadow) (s : Core) (h : Shadow)
    → granted_in now ≡ Some (next_of t s) → h.held ≡ put g.held u now
    → ((c : ℕ) → b.classes c ≡ s.book.classes c) → NoReturn g s h (granted_core t u word kind b s)
new_stays t u word kind b now g s h is held classes = record {
  lasts = λ seat. lasts-more s.lasts t seat;
  again = λ x z low e. (
    ap (λ (f : ℕ → Held). f x) held ∙ again-put g.held s.lasts u now
        (next-new s.lasts now t is) x z low (ap (λ (f : ℕ → Held). granted_in (f x)) (sym held) ∙ e),
    classes (slab_of x),
  );
}

-- the note of the object that is granted
new_note : (t u word : ℕ) (kind : Kind) (b : Book) (now : Held) (g : Shadow) (s : Core) (h : Shadow)
    → mark_of word ≡ Mark.Granted (next_of t s) → h.held ≡ put g.held u now → KindIs b u kind now
    → NoteFits h (granted_core t u word kind b s) (note_of u word kind)
new_note t u word kind b now g s h names held is = record {
  seen = record {
    grant = next_of t s;
    names = names;
    made = let e = put-same s.lasts t (s.lasts t + 1) in omega arith;
  };
  kind = λ gr _ _. subst (KindIs b u kind) (sym (ap (λ (f : ℕ → Held). f u) held ∙ put-same g.held u now)) is;
}

-- what the grants of slabs' objects have in common
granted_small : (k : Key) (t e u word : ℕ) (kind : Kind) (b : Book) (before : Task) (g : Shadow) (s : Core) (h : Shadow)
    → s.tasks t ≡ before → ((c : ℕ) → TakenFits (links_in s.marks) before c (g.taken c) → g.taken c ≡ [])
    → ((x : ℕ) → IsInHand before x → ⊥)
    → mark_of word ≡ Mark.Granted (next_of t s) → s.book.keeper e ≡ Keeper.By t
    → h.held ≡ put g.held u (Held.Object (next_of t s)) → h.taken ≡ g.taken → b.keeper ≡ s.book.keeper
    → b.classes ≡ s.book.classes → slab_of u ≡ e → kind ≡ Kind.Slab (s.book.classes e)
    → ((c : ℕ) → c ≢ e → record_of b c ≡ record_of s.book c) → ((c : ℕ) → c ≢ e → h.privates c ≡ g.privates c)
    → ((o : ℕ) → o ≢ t → IsMine o g s u → ⊥) → ObjectsGood k g s
    → TurnFits k t Away g s h (granted_core t u word kind b s)
granted_small k t e u word kind b before g s h is none empty names by held taken keepers classes at kinds same privates
    mine good =
    let now = Held.Object (next_of t s) in
    let r = granted_core t u word kind b s in
    let stays = new_stays t u word kind b now g s h refl held (λ c. ap (λ (f : ℕ → ℕ). f c) classes) in
    record {
      others = rely_at t u g s h r (record {
        marks = put-other s.marks u (Mark.Granted (next_of t s));
        held = λ x ne. ap (λ (f : ℕ → Held). f x) held ∙ put-other g.held u now x ne;
        slab = own_slab t e g s h r by (λ c ne. record {
          keeper = ap (λ (f : ℕ → Keeper). f c) keepers;
          same = same c ne;
          privates = privates c ne;
          taken = ap (λ (f : ℕ → List ℕ). f c) taken;
        });
        keeper = λ c. ap (λ (f : ℕ → Keeper). f c) keepers;
        lasts = put-other s.lasts t (s.lasts t + 1);
        tasks = put-other s.tasks t Away;
      }) mine (λ o _ z. not_in_hand g.held u now o (λ q. cc) (ap (λ (f : ℕ → Held). f u) (sym held) ∙ z));
      no_return = stays;
      stands = put-same s.tasks t Away;
      task' = tt;
      taken = λ c kept. ap (λ (f : ℕ → List ℕ). f c) taken ∙ none c (taken_at k g s t before is good c
          (ap (λ (f : ℕ → Keeper). f c) (sym keepers) ∙ kept));
      hand = λ x z. each (λ y q. q ≡ Held.InHand t → ⊥) g.held u now
          (λ y ne q. empty y (hand_at k g s t before is good y q)) (λ q. cc) x
          (ap (λ (f : ℕ → Held). f x) (sym held) ∙ z);
      notes = subst (NotesFit h r) (sym (put-same s.notes t (note_of u word kind ∷ s.notes t))) (
        new_note t u word kind b now g s h names held
            (kinds ∙ ap Kind.Slab (ap s.book.classes (sym at) ∙ ap (λ (f : ℕ → ℕ). f (slab_of u)) (sym classes))),
        notes-stay g s h r (s.notes t) stays (good.notes_fit t),
      );
      kept_notes = put-other s.notes t (note_of u word kind ∷ s.notes t);
    }

-- the newest private object, and the list behind it
record Newest (e u : ℕ) (below : Option ℕ) (g : Shadow) (s : Core) : Type 0 where
  pub was : g.held u ≡ Held.Private
  pub at : slab_of u ≡ e
  pub list : g.privates e ≡ u ∷ tail_of (g.privates e)
  pub chain : IsChain (links_in s.marks) (head_link below) (tail_of (g.privates e)) 0
  pub apart : tally u (tail_of (g.privates e)) ≡ 0

newest_facts : (k : Key) (t e u : ℕ) (below : Option ℕ) (g : Shadow) (s : Core) → s.book.keeper e ≡ Keeper.By t
    → s.book.heads e ≡ Some u → links_in s.marks u ≡ head_link below → ObjectsGood k g s → Newest e u below g s
newest_facts k t e u below g s by head leads good =
    let i = head-mine k g s t e u good by head in
    let c = subst (λ o. IsChain (links_in s.marks) (head_link o) (g.privates e) 0) head (good.private_chains e) in
    let starts = chain-starts (links_in s.marks) u (g.privates e) 0 c in
    record {
      was = i.0;
      at = i.1;
      list = starts.0;
      chain = subst (λ l. IsChain (links_in s.marks) l (tail_of (g.privates e)) 0) leads starts.1;
      apart = let o = good.privates_once e u in let l = ap (tally u) starts.0 in
          let n = tally-here u (tail_of (g.privates e)) in let q = private-cases (g.held u) in grind (arith, nat_tests);
    }

pub private_keeps : (k : Key) (t e u word : ℕ) (below : Option ℕ) (g : Shadow) (s : Core)
    → s.tasks t ≡ Taking e u below → mark_of word ≡ Mark.Granted (next_of t s) → ObjectsGood k g s
    → ObjectsGood k (shadow_private (Held.Object (next_of t s)) e u g)
    (granted_core t u word (Kind.Slab (s.book.classes e)) (with_private_taken e below s.book) s)
private_keeps k t e u word below g s is names good =
    let task = fits_at k g s t (Taking e u below) is good in
    made task.0 task.1 (newest_facts k t e u below g s task.0 task.1 task.3 good)
  where
    made : s.book.keeper e ≡ Keeper.By t → s.book.heads e ≡ Some u → Newest e u below g s
        → ObjectsGood k (shadow_private (Held.Object (next_of t s)) e u g)
        (granted_core t u word (Kind.Slab (s.book.classes e)) (with_private_taken e below s.book) s)
    made by head f =
        let now = Held.Object (next_of t s) in
        let h = shadow_private now e u g in
        let b = with_private_taken e below s.book in
        let r = granted_core t u word (Kind.Slab (s.book.classes e)) b s in
        let else = private_taken_else s.book e below in
        let seats = seats_keep k t Away g s h r good (granted_small k t e u word (Kind.Slab (s.book.classes e)) b
        (Taking e u below) g s h is (λ c z. z) (λ x z. z) names by refl refl refl refl f.at refl
        (λ c ne. else.same c (λ z. ne (sym z)))
        (put-other g.privates e (tail_of (g.privates e)))
        (private-no_other t u g s f.was (ap s.book.keeper f.at ∙ by)) good) in
        let out = out-set g.held s.book u now (subst IsOut (sym f.was) tt) tt good.out_fits in
        let old = good.book.there e (there_of (s.book.keeper e) t by) in
        let slab = slab_is k g s e good (there_of (s.book.keeper e) t by) in
        let left = subst (λ xs. IsSlabOf (record_of s.book e) xs) f.list slab in
        record {
          book = book-set k s.book b e else
              (λ _. record {
                place = old.place;
                class = old.class;
                record' = subst IsRecord (sym (headed_here s.book e (s.book.counts e + 1) below)) (record {
                  few = old.record'.few;
                  handed = old.record'.handed;
                  count = let n = left.count in omega arith;
                  head = newest_fits f left;
                });
              })
              (λ none. absurd (none (there_of (s.book.keeper e) t by))) good.book;
          kinds' = good.kinds';
          marks_fit = marks-set g.held s.marks u now (Mark.Granted (next_of t s)) refl good.marks_fit;
          grants = grants-granted g.held s.lasts g.ended u t now refl good.grants;
          out_fits = record { in_slab = out.in_slab; out = out.out };
          larges = larges-set k g.held s.book.keeper s.kinds u now tt good.larges;
          privates_once = privates-popped g.held g.privates g.taken e u (tail_of (g.privates e)) now refl f.list
              good.privates_once;
          listed_once = listed-set g.held g.listed u now (ap is_listed (sym f.was)) good.listed_once;
          private_chains = privates-changed s.marks s.book.heads g.privates e u (Mark.Granted (next_of t s)) below
              (tail_of (g.privates e))
              (λ c ne. (privates-other g.held g.privates g.taken u c (λ z. ne (z ∙ f.at)) good.privates_once).0)
              (chain-marked s.marks u (Mark.Granted (next_of t s)) (head_link below) (tail_of (g.privates e)) 0 f.apart
              f.chain) good.private_chains;
          public_chains = publics-marked s.marks s.publics g.listed u (Mark.Granted (next_of t s))
              (listed-none g.held g.listed u (ap is_listed f.was) good.listed_once) good.public_chains;
          counts_fit = counts-set s.book.handed s.book.counts g.privates e (s.book.counts e + 1)
              (tail_of (g.privates e))
              (let n = good.counts_fit e in let l = ap (length {A = ℕ}) f.list in omega arith) good.counts_fit;
          taken_fit = record { kept = seats.kept; else = good.taken_fit.else };
          tasks_fit = seats.tasks_fit;
          notes_fit = seats.notes_fit;
          hands_fit = seats.hands_fit;
        }
      where
        -- the object behind the newest is private, if there is one
        newest_fits : Newest e u below g s → IsSlabOf (record_of s.book e) (u ∷ tail_of (g.privates e))
            → HeadFits (with_parts e (s.book.classes e) (s.book.handed e) (s.book.counts e + 1) below) below
        newest_fits f left = walk below (tail_of (g.privates e)) f.chain left
          where
            walk : (b : Option ℕ) (us : List ℕ) → IsChain (links_in s.marks) (head_link b) us 0
                → IsSlabOf (record_of s.book e) (u ∷ us)
                → HeadFits (with_parts e (s.book.classes e) (s.book.handed e) (s.book.counts e + 1) below) b
            walk None [] chain is' = let n = is'.count in omega arith
            walk None (x ∷ us) (first, chain) is' = absurd (cc)
            walk (Some v) [] chain is' = absurd (cc)
            walk (Some v) (x ∷ us) (first, chain) is' =
                let same : v ≡ x = cc in
                let n = is'.count in
                let m = tally-more x u (x ∷ us) in
                let here = tally-here x us in
                (subst (IsHanded (record_of s.book e)) (sym same) (is'.among x (omega arith)), omega arith)

-- the next object of a rest
pub rest_keeps : (k : Key) (t e u word : ℕ) (g : Shadow) (s : Core) → s.tasks t ≡ Resting e u
    → mark_of word ≡ Mark.Granted (next_of t s) → ObjectsGood k g s
    → ObjectsGood k (shadow_granted (Held.Object (next_of t s)) u g)
    (granted_core t u word (Kind.Slab (s.book.classes e)) (with_rest_taken e s.book) s)
rest_keeps k t e u word g s is names good =
    let task = fits_at k g s t (Resting e u) is good in
    let old = good.book.there e (there_of (s.book.keeper e) t task.0) in
    let at : slab_of u ≡ e = ap slab_of task.4
    ∙ unit-inside e (s.book.classes e) (s.book.handed e) old.record'.few old.place.even task.3 in
    made task.0 task.1 task.3 task.4 old at (out-cases (g.held u))
  where
    clash : IsHanded (record_of s.book e) u → SlabFits k s.book e → s.book.handed e < class_objects (s.book.classes e)
        → u ≡ unit_of e (s.book.classes e) (s.book.handed e) → ⊥
    clash (i, low, at) old room is =
        let same = units-once e (s.book.classes e) i (s.book.handed e) old.record'.few (omega arith) room
        (sym at ∙ is) in omega arith

    -- no large object begins there either
    bare : (h : Held) → (IsOut h → ⊥) → LargeFits k u (s.book.keeper (slab_of u)) (s.kinds (granule_of u)) h
        → IsThere (s.book.keeper (slab_of u)) → h ≡ Held.NotOut
    bare Held.NotOut none fits there = refl
    bare Held.Private none fits there = absurd (none tt)
    bare Held.Listed none fits there = absurd (none tt)
    bare (Held.Object gr) none fits there = absurd (none tt)
    bare (Held.InHand o) none fits there = absurd (none tt)
    bare (Held.Ready o x n) none fits there = absurd (fits.0 there)
    bare (Held.Large gr x n) none fits there = absurd (fits.0 there)

    made : s.book.keeper e ≡ Keeper.By t → s.book.heads e ≡ None
        → s.book.handed e < class_objects (s.book.classes e)
        → u ≡ unit_of e (s.book.classes e) (s.book.handed e) → SlabFits k s.book e → slab_of u ≡ e
        → IsOut (g.held u) ⊎ (IsOut (g.held u) → ⊥)
        → ObjectsGood k (shadow_granted (Held.Object (next_of t s)) u g)
        (granted_core t u word (Kind.Slab (s.book.classes e)) (with_rest_taken e s.book) s)
    made by none room is_unit old at (inl out) = absurd (clash (handed-of k g s e u good at out) old room is_unit)
    made by none room is_unit old at (inr not) =
        let there = there_of (s.book.keeper e) t by in
        let was = bare (g.held u) not (good.larges u) (subst (λ c. IsThere (s.book.keeper c)) (sym at) there) in
        let now = Held.Object (next_of t s) in
        let h = shadow_granted now u g in
        let b = with_rest_taken e s.book in
        let r = granted_core t u word (Kind.Slab (s.book.classes e)) b s in
        let else = rest_taken_else s.book e in
        let seats = seats_keep k t Away g s h r good (granted_small k t e u word (Kind.Slab (s.book.classes e)) b
        (Resting e u) g s h is (λ c z. z) (λ x z. z) names by refl refl refl refl at refl
        (λ c ne. else.same c (λ z. ne (sym z))) (λ c _. refl) (λ o _. none-no_one u g s was o) good) in
        let alone = privates-none g.held g.privates g.taken u (ap is_private was) good.privates_once in
        record {
          book = book-set k s.book b e else
              (λ _. record {
                place = old.place;
                class = old.class;
                record' = subst IsRecord (sym (rest_here s.book e)) (record {
                  few = old.record'.few;
                  handed = omega arith;
                  count = let c = old.record'.count in omega arith;
                  head = subst (HeadFits (with_parts e (s.book.classes e) (s.book.handed e + 1) (s.book.counts e + 1)
                      (s.book.heads e))) (sym none)
                      (let all : s.book.handed e ≤ s.book.counts e =
                      subst (HeadFits (record_of s.book e)) none old.record'.head in omega arith);
                });
              })
              (λ no_slab. absurd (no_slab there)) good.book;
          kinds' = good.kinds';
          marks_fit = marks-set g.held s.marks u now (Mark.Granted (next_of t s)) refl good.marks_fit;
          grants = grants-granted g.held s.lasts g.ended u t now refl good.grants;
          out_fits = out-more g.held s.book e u now tt is_unit at there good.out_fits;
          larges = larges-set k g.held s.book.keeper s.kinds u now tt good.larges;
          privates_once = privates-set g.held g.privates g.taken u now (ap is_private (sym was)) good.privates_once;
          listed_once = listed-set g.held g.listed u now (ap is_listed (sym was)) good.listed_once;
          private_chains = privates-marked s.marks s.book.heads g.privates u (Mark.Granted (next_of t s))
              (λ c. (alone c).0) good.private_chains;
          public_chains = publics-marked s.marks s.publics g.listed u (Mark.Granted (next_of t s))
              (listed-none g.held g.listed u (ap is_listed was) good.listed_once) good.public_chains;
          counts_fit = counts-more s.book.handed s.book.counts g.privates e good.counts_fit;
          taken_fit = record { kept = seats.kept; else = good.taken_fit.else };
          tasks_fit = seats.tasks_fit;
          notes_fit = seats.notes_fit;
          hands_fit = seats.hands_fit;
        }

-- a large block
pub block_keeps : (k : Key) (t u word first granules : ℕ) (g : Shadow) (s : Core)
    → s.tasks t ≡ Blocking u first granules → mark_of word ≡ Mark.Granted (next_of t s) → ObjectsGood k g s
    → ObjectsGood k (shadow_granted (Held.Large (next_of t s) first granules) u g)
    (granted_core t u word (Kind.Large first granules) s.book s)
block_keeps k t u word first granules g s is names good =
    let task = fits_at k g s t (Blocking u first granules) is good in
    let was = task.0 in
    let now = Held.Large (next_of t s) first granules in
    let h = shadow_granted now u g in
    let r = granted_core t u word (Kind.Large first granules) s.book s in
    let stays = new_stays t u word (Kind.Large first granules) s.book now g s h refl refl (λ c. refl) in
    let alone = privates-none g.held g.privates g.taken u (ap is_private was) good.privates_once in
    let seats = seats_keep k t Away g s h r good (record {
      others = rely_at t u g s h r (record {
        marks = put-other s.marks u (Mark.Granted (next_of t s));
        held = put-other g.held u now;
        slab = λ o c ne by. record { keeper = refl; same = refl; privates = refl; taken = refl };
        keeper = λ c. refl;
        lasts = put-other s.lasts t (s.lasts t + 1);
        tasks = put-other s.tasks t Away;
      }) (ready-no_other t u first granules g s was) (λ o _. not_in_hand g.held u now o (λ q. cc));
      no_return = stays;
      stands = put-same s.tasks t Away;
      task' = tt;
      taken = λ c by. taken_at k g s t (Blocking u first granules) is good c by;
      hand = each (λ x q. q ≡ Held.InHand t → ⊥) g.held u now
          (λ x ne z. hand_at k g s t (Blocking u first granules) is good x z) (λ z. cc);
      notes = subst (NotesFit h r) (sym (put-same s.notes t (note_of u word (Kind.Large first granules) ∷ s.notes t))) (
        new_note t u word (Kind.Large first granules) s.book now g s h names refl refl,
        notes-stay g s h r (s.notes t) stays (good.notes_fit t),
      );
      kept_notes = put-other s.notes t (note_of u word (Kind.Large first granules) ∷ s.notes t);
    }) in
    record {
      book = good.book;
      kinds' = good.kinds';
      marks_fit = marks-set g.held s.marks u now (Mark.Granted (next_of t s)) refl good.marks_fit;
      grants = grants-granted g.held s.lasts g.ended u t now refl good.grants;
      out_fits = out-none g.held s.book u now (out-not (g.held u) (Held.Ready t first granules) was (λ z. z)) (λ z. z)
          good.out_fits;
      larges = larges-set k g.held s.book.keeper s.kinds u now
          (subst (LargeFits k u (s.book.keeper (slab_of u)) (s.kinds (granule_of u))) was (good.larges u)) good.larges;
      privates_once = privates-set g.held g.privates g.taken u now (ap is_private (sym was)) good.privates_once;
      listed_once = listed-set g.held g.listed u now (ap is_listed (sym was)) good.listed_once;
      private_chains = privates-marked s.marks s.book.heads g.privates u (Mark.Granted (next_of t s))
          (λ c. (alone c).0) good.private_chains;
      public_chains = publics-marked s.marks s.publics g.listed u (Mark.Granted (next_of t s))
          (listed-none g.held g.listed u (ap is_listed was) good.listed_once) good.public_chains;
      counts_fit = good.counts_fit;
      taken_fit = record { kept = seats.kept; else = good.taken_fit.else };
      tasks_fit = seats.tasks_fit;
      notes_fit = seats.notes_fit;
      hands_fit = seats.hands_fit;
    }
