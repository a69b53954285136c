-- Each step, and so each run, keeps what holds of objects.
use Rattle.std.proofs.Common.{◌≡◌, ◌⊎◌, inl, inr, ℕ, ◌+◌, ◌^◌, ◌<◌, ◌≤◌, Bool, true, false, cond, eqb, Some}
use Rattle.std.proofs.Common.{List, [], ◌∷◌, refl, sym, ap, subst, arith, ◌∙◌}
use Rattle.std.proofs.lemmas.Bool.Decides.{nat_tests}
use Rattle.std.proofs.lemmas.Bool.{eqb-true}
use Rattle.pool_types.specs.declared.values.Grant.{Grant}
use Rattle.pool_words.specs.declared.words.Key.{Key}
use Rattle.pool_words.specs.declared.words.Word.{Word}
use Rattle.pool_words.specs.Words.{marks, publics, kinds}
use Rattle.word_codes.specs.declared.marks.Mark.{Mark}
use Rattle.word_codes.specs.declared.publics.Public.{Public}
use Rattle.word_codes.specs.declared.kinds.Kind.{Kind}
use Rattle.word_codes.specs.Marks.{mark_of, mark_word, private_link, public_link}
use Rattle.word_codes.specs.Publics.{public_of, public_word}
use Rattle.word_codes.specs.Kinds.{kind_of}
use Rattle.word_codes.specs.Places.{granule_of, slab_granule}
use Rattle.public_list.specs.declared.looking.LookAt.{LookAt}
use Rattle.public_list.specs.declared.ending.EndCall.{EndCall}
use Rattle.public_list.specs.declared.ending.EndAt.{EndAt}
use Rattle.public_list.specs.declared.ending.EndNext.{EndNext}
use Rattle.public_list.specs.declared.posting.PostCall.{PostCall}
use Rattle.public_list.specs.declared.posting.PostAt.{PostAt}
use Rattle.public_list.specs.declared.joining.JoinAt.{JoinAt}
use Rattle.public_list.specs.declared.joining.JoinNext.{JoinNext}
use Rattle.public_list.specs.Ending.{end_course, end_learn}
use Rattle.public_list.specs.Posting.{post_course, post_learn, posted, post_by}
use Rattle.public_list.specs.Joining.{join_course, join_learn, join_taken, join_walked}
use Rattle.chain_words.specs.declared.pushing.PushAt.{PushAt}
use Rattle.chain_words.specs.declared.pushing.PushNext.{PushNext}
use Rattle.word_laws.specs.Memory.{Mem, put, stored, after, found}
use Rattle.word_laws.proofs.CallerLemmas.{less_or}
use Rattle.chain_laws.specs.Chains.{Link, IsChain, tally}
use Rattle.chain_laws.proofs.CallerLemmas.{tally-here, tally-append}
use Rattle.slab_laws.specs.Books.{Keeper, IsThere, chain_taken}
use Rattle.slab_laws.specs.Heaps.{slab_of, KindFits}
use Rattle.slab_laws.proofs.CallerLemmas.{capped-is, unit-below}
use Rattle.object_laws.specs.Objects.{Held, IsOut, Task, behind, mark_link, head_link}
use Rattle.object_laws.specs.Objects.{links_in, Shadow, Locals, Core, core_in, IsUnit}
use Rattle.object_laws.specs.Objects.Task.{Away, Looking, Ending, Posting, Joining, Reading, Taking, Resting, Blocking}
use Rattle.object_laws.specs.Rely.{Rely, NoReturn}
use Rattle.object_laws.specs.Parts.{MarkFits, LargeFits, NotesFit, IsPublicChain, FitsPublicLink}
use Rattle.object_laws.specs.Parts.{TakenFits, TaskFits, ObjectsGood}
use Rattle.object_laws.specs.Rows.{with_task, shadow_ended, ended, shadow_posted, shadow_listed, posted_as, shadow_joined}
use Rattle.object_laws.specs.Rows.{joined_as, grant_word, next_grant, tail_of}
use Rattle.object_laws.specs.Steps.{join_of, IsStart}
use Rattle.object_laws.specs.Steps.ObjectStep.{looks, ends, posts, joins, reads, takes, rests, readies, blocks}
use Rattle.object_laws.specs.Steps.ObjectStep.{slab_begins, slab_ends, slab_cached, slab_uncached, leaves, comes, goes_back}
use Rattle.object_laws.specs.Steps.ObjectStep.{adopts, closes, clears, begins, forgets, others}
use Rattle.object_laws.specs.Steps.ObjectRun.{starts, steps}
use Rattle.object_laws.specs.Laws.{StepsKeepObjects, RunsKeepObjects}
use Rattle.slab_laws.proofs.CallerLemmas.{each}
use Rattle.object_laws.proofs.Parts.Marks.{granted_is_held}
use Rattle.object_laws.proofs.Parts.Out.{out-inside}
use Rattle.object_laws.proofs.Parts.Once.{listed-there, private-there, all_none}
use Rattle.object_laws.proofs.Parts.Chains.{chain-starts}
use Rattle.object_laws.proofs.Turns.{lasts-same}
use Rattle.object_laws.proofs.Seats.{by_other, task-stays, notes-stay, fits_at, taken_at, hand_at, head-mine}
use Rattle.object_laws.proofs.Facts.{there_of, head-small, unit-small, small_is, slab_not_large, large_is, IsLargeOf}
use Rattle.object_laws.proofs.Facts.{large-uncached, large-none}
use Rattle.object_laws.proofs.Facts.IsLargeOf.{large_of}
use Rattle.object_laws.proofs.EndRows.{own_keeps, other_keeps, large_keeps}
use Rattle.object_laws.proofs.PostRows.{link_keeps, list_keeps}
use Rattle.object_laws.proofs.JoinRows.{task_taken, take_keeps, stand_keeps, notes_keep, task_walked, walk_keeps}
use Rattle.object_laws.proofs.JoinRows.{walk-small, tie_keeps}
use Rattle.object_laws.proofs.GrantRows.{private_keeps, rest_keeps, block_keeps}
use Rattle.object_laws.proofs.SlabRows.{IsSlabless, keepers_keep, cached_keep, ready_keeps, begin_keeps, end_keeps}
use Rattle.object_laws.proofs.Words.{mark_stored, public_stored, kind_stored, granted-reads, hand-reads, null-reads}
use Rattle.object_laws.proofs.Words.{unusable-reads, filled-reads, private-leads, private-no_grant, public-leads}
use Rattle.object_laws.proofs.Words.{public-hand, others_keep}
use Rattle.object_laws.proofs.Looks.{looks_keep}

-- what is held lies in the pool
granted-inside : (k : Key) (g : Shadow) (m : Mem) (l : Locals) (u : ℕ) (gr : Grant) → ObjectsGood k g (core_in m l)
    → g.held u ≡ Held.Object gr → IsUnit k u
granted-inside k g m l u gr good was =
    out-inside k g.held l.book u good.book good.out_fits (subst IsOut (sym was) tt)

place-inside : (k : Key) (g : Shadow) (m : Mem) (l : Locals) (e : ℕ) → ObjectsGood k g (core_in m l)
    → IsThere (l.book.keeper e) → e < k.span
place-inside k g m l e good there = let i = (good.book.there e there).place.inside in omega arith

-- the heads that are noted are small
head-low : (k : Key) (g : Shadow) (m : Mem) (l : Locals) (t e : ℕ) → ObjectsGood k g (core_in m l)
    → l.book.keeper e ≡ Keeper.By t → (u : ℕ) → l.book.heads e ≡ Some u → u < 2 ^ 61
head-low k g m l t e good by u is =
    head-small k g (core_in m l) e u good is (head-mine k g (core_in m l) t e u good by is)

-- M4, M5, M6
ends-as : (k : Key) (g : Shadow) (m : Mem) (l : Locals) (t : ℕ) (c : EndCall) (kind : Kind) (at : EndAt) → t < 64
    → l.tasks t ≡ Ending c kind at → ObjectsGood k g (core_in m l)
    → ObjectsGood k (shadow_ended t c (end_learn c at (found m (end_course c at))) g)
    (core_in (after k m (end_course c at)) (ended t c kind (end_learn c at (found m (end_course c at))) l))
ends-as k g m l t c kind (EndAt.Lost word) few is good = stand_keeps k t Away g (core_in m l) good tt
    (λ e by. taken_at k g (core_in m l) t (Ending c kind (EndAt.Lost word)) is good e by)
    (λ u held. hand_at k g (core_in m l) t (Ending c kind (EndAt.Lost word)) is good u held)
ends-as k g m l t c kind EndAt.Own few is good = by (eqb (m marks c.unit) c.mark) refl
  where
    task : TaskFits k g (core_in m l) t (Ending c kind EndAt.Own)
    task = fits_at k g (core_in m l) t (Ending c kind EndAt.Own) is good

    by : (b : Bool) → eqb (m marks c.unit) c.mark ≡ b
        → ObjectsGood k (shadow_ended t c (cond b EndNext.Own (EndNext.Goes (EndAt.Lost (m marks c.unit)))) g)
        (core_in (cond b (stored k m (Word.Mark c.unit) (private_link c.head)) m)
        (ended t c kind (cond b EndNext.Own (EndNext.Goes (EndAt.Lost (m marks c.unit)))) l))
    by false lost = stand_keeps k t (Ending c kind (EndAt.Lost (m marks c.unit))) g (core_in m l) good
        (task.0, record { seen = task.1.seen; kind = task.1.kind }, tt)
        (λ e kept. taken_at k g (core_in m l) t (Ending c kind EndAt.Own) is good e kept)
        (λ u held. hand_at k g (core_in m l) t (Ending c kind EndAt.Own) is good u held)
    by true won =
        let names = task.1.seen.names in
        let gr = task.1.seen.grant in
        let reads = ap mark_of (eqb-true (m marks c.unit) c.mark won) ∙ names in
        let low : (u : ℕ) → c.head ≡ Some u → u < 2 ^ 61 =
        (λ u e. head-low k g m l t (slab_of c.unit) good task.2.1 u (sym task.2.2 ∙ e)) in
        let held = granted_is_held (g.held c.unit) gr (subst (MarkFits (g.held c.unit)) reads (good.marks_fit c.unit)) in
        let was = small_is l.book c.unit kind (g.held c.unit) gr held (task.1.kind gr names held)
        (slab_not_large kind task.2.0) in
        mark_stored k (shadow_ended t c EndNext.Own g) m (ended t c kind EndNext.Own l) c.unit (private_link c.head)
        (mark_of (private_link c.head)) (granted-inside k g m l c.unit gr good was) refl
        (own_keeps k t c kind gr (mark_of (private_link c.head)) g (core_in m l) is names reads
        (private-leads c.head low ∙ ap head_link task.2.2) (private-no_grant c.head low) good)
ends-as k g m l t c kind EndAt.Other few is good = by (eqb (m marks c.unit) c.mark) refl
  where
    task : TaskFits k g (core_in m l) t (Ending c kind EndAt.Other)
    task = fits_at k g (core_in m l) t (Ending c kind EndAt.Other) is good

    by : (b : Bool) → eqb (m marks c.unit) c.mark ≡ b
        → ObjectsGood k (shadow_ended t c (cond b EndNext.Other (EndNext.Goes (EndAt.Lost (m marks c.unit)))) g)
        (core_in (cond b (stored k m (Word.Mark c.unit) (mark_word (Mark.Hand c.seat))) m)
        (ended t c kind (cond b EndNext.Other (EndNext.Goes (EndAt.Lost (m marks c.unit)))) l))
    by false lost = stand_keeps k t (Ending c kind (EndAt.Lost (m marks c.unit))) g (core_in m l) good
        (task.0, record { seen = task.1.seen; kind = task.1.kind }, tt)
        (λ e kept. taken_at k g (core_in m l) t (Ending c kind EndAt.Other) is good e kept)
        (λ u held. hand_at k g (core_in m l) t (Ending c kind EndAt.Other) is good u held)
    by true won =
        let names = task.1.seen.names in
        let gr = task.1.seen.grant in
        let reads = ap mark_of (eqb-true (m marks c.unit) c.mark won) ∙ names in
        let held = granted_is_held (g.held c.unit) gr (subst (MarkFits (g.held c.unit)) reads (good.marks_fit c.unit)) in
        let was = small_is l.book c.unit kind (g.held c.unit) gr held (task.1.kind gr names held) task.2.0 in
        mark_stored k (shadow_ended t c EndNext.Other g) m (ended t c kind EndNext.Other l) c.unit
        (mark_word (Mark.Hand c.seat)) (Mark.Hand t) (granted-inside k g m l c.unit gr good was)
        (ap (λ s. mark_of (mark_word (Mark.Hand s))) task.0 ∙ hand-reads t few)
        (other_keeps k t c kind gr g (core_in m l) is names reads good)
ends-as k g m l t c kind EndAt.Large few is good = by (eqb (m marks c.unit) c.mark) refl
  where
    task : TaskFits k g (core_in m l) t (Ending c kind EndAt.Large)
    task = fits_at k g (core_in m l) t (Ending c kind EndAt.Large) is good

    unit_of_large : (gr : Grant) → IsLargeOf (g.held c.unit) gr → IsUnit k c.unit
    unit_of_large gr (large_of x n was) =
        (subst (LargeFits k c.unit (l.book.keeper (slab_of c.unit)) (kind_of (m kinds (granule_of c.unit)))) was
        (good.larges c.unit)).2

    by : (b : Bool) → eqb (m marks c.unit) c.mark ≡ b
        → ObjectsGood k (shadow_ended t c (cond b EndNext.Large (EndNext.Goes (EndAt.Lost (m marks c.unit)))) g)
        (core_in (cond b (stored k m (Word.Mark c.unit) (mark_word (Mark.Hand c.seat))) m)
        (ended t c kind (cond b EndNext.Large (EndNext.Goes (EndAt.Lost (m marks c.unit)))) l))
    by false lost = stand_keeps k t (Ending c kind (EndAt.Lost (m marks c.unit))) g (core_in m l) good
        (task.0, record { seen = task.1.seen; kind = task.1.kind }, tt)
        (λ e kept. taken_at k g (core_in m l) t (Ending c kind EndAt.Large) is good e kept)
        (λ u held. hand_at k g (core_in m l) t (Ending c kind EndAt.Large) is good u held)
    by true won =
        let names = task.1.seen.names in
        let gr = task.1.seen.grant in
        let reads = ap mark_of (eqb-true (m marks c.unit) c.mark won) ∙ names in
        let held = granted_is_held (g.held c.unit) gr (subst (MarkFits (g.held c.unit)) reads (good.marks_fit c.unit)) in
        mark_stored k (shadow_ended t c EndNext.Large g) m (ended t c kind EndNext.Large l) c.unit
        (mark_word (Mark.Hand c.seat)) (Mark.Hand t)
        (unit_of_large gr (large_is l.book c.unit kind (g.held c.unit) gr held (task.1.kind gr names held) task.2))
        (ap (λ s. mark_of (mark_word (Mark.Hand s))) task.0 ∙ hand-reads t few)
        (large_keeps k t c kind gr g (core_in m l) is names reads good)

-- P1 to P4
found-fits : (k : Key) (g : Shadow) (m : Mem) (l : Locals) (e : ℕ) (p : Public) → public_of (m publics e) ≡ p
    → ObjectsGood k g (core_in m l) → FitsPublicLink p
found-fits k g m l e Public.Null is good = tt
found-fits k g m l e Public.Unusable is good = tt
found-fits k g m l e (Public.Filled u) is good =
    let c = subst (λ p. IsPublicChain (links_in (core_in m l).marks) p (g.listed e)) is (good.public_chains e) in
    let starts = (chain-starts (links_in (core_in m l).marks) u (g.listed e) c.0 c.1).0 in
    let here = tally-here u (tail_of (g.listed e)) in
    let n = ap (tally u) starts in
    let at = listed-there g.held g.listed e u good.listed_once (omega arith) in
    unit-small k (core_in m l) u good.book
    (out-inside k g.held l.book u good.book good.out_fits (subst IsOut (sym at.0) tt))

posted-shadow : (c : PostCall) (p : Public) (g : Shadow) → shadow_posted c (posted p) g ≡ shadow_listed c g
posted-shadow c Public.Null g = refl
posted-shadow c Public.Unusable g = refl
posted-shadow c (Public.Filled u) g = refl

posted-task : (t : ℕ) (c : PostCall) (p : Public) (l : Locals) → posted_as t c (posted p) l ≡ with_task t Away l
posted-task t c Public.Null l = refl
posted-task t c Public.Unusable l = refl
posted-task t c (Public.Filled u) l = refl

posts-as : (k : Key) (g : Shadow) (m : Mem) (l : Locals) (t : ℕ) (c : PostCall) (at : PostAt)
    → l.tasks t ≡ Posting c at → ObjectsGood k g (core_in m l)
    → ObjectsGood k (shadow_posted c (post_learn at (found m (post_course c at))) g)
    (core_in (after k m (post_course c at)) (posted_as t c (post_learn at (found m (post_course c at))) l))
posts-as k g m l t c (PostAt.Push PushAt.Look) is good =
    let task = fits_at k g (core_in m l) t (Posting c (PostAt.Push PushAt.Look)) is good in
    stand_keeps k t (Posting c (PostAt.Push (PushAt.Link (m publics c.slab)))) g (core_in m l) good
    (task.0, task.1, found-fits k g m l c.slab (public_of (m publics c.slab)) refl good)
    (λ e kept. taken_at k g (core_in m l) t (Posting c (PostAt.Push PushAt.Look)) is good e kept)
    (λ u held. hand_at k g (core_in m l) t (Posting c (PostAt.Push PushAt.Look)) is good u held)
posts-as k g m l t c (PostAt.Push (PushAt.Link word)) is good =
    let task = fits_at k g (core_in m l) t (Posting c (PostAt.Push (PushAt.Link word))) is good in
    mark_stored k g m (with_task t (Posting c (PostAt.Push (PushAt.Exchange word))) l) c.unit
    (public_link (public_of word)) (mark_of (public_link (public_of word)))
    (out-inside k g.held l.book c.unit good.book good.out_fits (subst IsOut (sym task.1) tt)) refl
    (link_keeps k t c word (mark_of (public_link (public_of word))) g (core_in m l) is
    (public-leads (public_of word) task.2) (public-hand t (public_of word) task.2) good)
posts-as k g m l t c (PostAt.Push (PushAt.Exchange word)) is good = by (eqb (m publics c.slab) word) refl
  where
    task : TaskFits k g (core_in m l) t (Posting c (PostAt.Push (PushAt.Exchange word)))
    task = fits_at k g (core_in m l) t (Posting c (PostAt.Push (PushAt.Exchange word))) is good

    inside : IsUnit k c.unit
    inside = out-inside k g.held l.book c.unit good.book good.out_fits (subst IsOut (sym task.1) tt)

    there : IsThere (l.book.keeper (slab_of c.unit))
    there = (good.out_fits.in_slab c.unit (subst IsOut (sym task.1) tt)).0

    by : (b : Bool) → eqb (m publics c.slab) word ≡ b
        → ObjectsGood k (shadow_posted c (post_by (cond b (PushNext.Pushed (m publics c.slab))
        (PushNext.Goes (PushAt.Link (m publics c.slab))))) g)
        (core_in (cond b (stored k m (Word.Public c.slab) (public_word (Public.Filled c.unit))) m)
        (posted_as t c (post_by (cond b (PushNext.Pushed (m publics c.slab))
        (PushNext.Goes (PushAt.Link (m publics c.slab))))) l))
    by false lost = stand_keeps k t (Posting c (PostAt.Push (PushAt.Link (m publics c.slab)))) g (core_in m l) good
        (task.0, task.1, found-fits k g m l c.slab (public_of (m publics c.slab)) refl good)
        (λ e kept. taken_at k g (core_in m l) t (Posting c (PostAt.Push (PushAt.Exchange word))) is good e kept)
        (λ u held. hand_at k g (core_in m l) t (Posting c (PostAt.Push (PushAt.Exchange word))) is good u held)
    by true won =
        subst (λ (h : Shadow). ObjectsGood k h (core_in
        (stored k m (Word.Public c.slab) (public_word (Public.Filled c.unit)))
        (posted_as t c (posted (public_of (m publics c.slab))) l)))
        (sym (posted-shadow c (public_of (m publics c.slab)) g))
        (subst (λ (x : Locals). ObjectsGood k (shadow_listed c g) (core_in
        (stored k m (Word.Public c.slab) (public_word (Public.Filled c.unit))) x))
        (sym (posted-task t c (public_of (m publics c.slab)) l))
        (subst (λ e. ObjectsGood k (shadow_listed c g) (core_in
        (stored k m (Word.Public e) (public_word (Public.Filled c.unit))) (with_task t Away l))) (sym task.0)
        (public_stored k (shadow_listed c g) m (with_task t Away l) (slab_of c.unit)
        (public_word (Public.Filled c.unit)) (Public.Filled c.unit)
        (place-inside k g m l (slab_of c.unit) good there)
        (filled-reads c.unit (unit-small k (core_in m l) c.unit good.book inside))
        (list_keeps k t c word g (core_in m l) is
        (ap (λ e. public_of (m publics e)) (sym task.0)
        ∙ ap public_of (eqb-true (m publics c.slab) word won)) good))))

-- P5, M1, M8
took-as : (t e : ℕ) (p : Public) (l : Locals) → joined_as t e (join_taken p) l ≡ with_task t (task_taken e p) l
took-as t e Public.Null l = refl
took-as t e Public.Unusable l = refl
took-as t e (Public.Filled u) l = refl

walked-as : (t e first at count : ℕ) (mark : Mark) (l : Locals)
    → joined_as t e (join_walked first at count mark) l ≡ with_task t (task_walked e first at count mark) l
walked-as t e first at count Mark.Unmarked l = refl
walked-as t e first at count (Mark.Granted gr) l = refl
walked-as t e first at count (Mark.Hand seat) l = refl
walked-as t e first at count (Mark.Link next) l = refl
walked-as t e first at count Mark.End l = refl
walked-as t e first at count Mark.EndUnusable l = refl

joins-as : (k : Key) (g : Shadow) (m : Mem) (l : Locals) (t e : ℕ) (at : JoinAt) → l.tasks t ≡ Joining e at
    → ObjectsGood k g (core_in m l)
    → ObjectsGood k (shadow_joined e at g) (core_in (after k m (join_course (join_of l e) at))
    (joined_as t e (join_learn at (found m (join_course (join_of l e) at))) l))
joins-as k g m l t e JoinAt.Take is good =
    let by = fits_at k g (core_in m l) t (Joining e JoinAt.Take) is good in
    subst (λ (x : Locals). ObjectsGood k (shadow_joined e JoinAt.Take g)
    (core_in (stored k m (Word.Public e) (public_word Public.Null)) x))
    (sym (took-as t e (public_of (m publics e)) l))
    (public_stored k (shadow_joined e JoinAt.Take g) m (with_task t (task_taken e (public_of (m publics e))) l) e
    (public_word Public.Null) Public.Null
    (place-inside k g m l e good (there_of (l.book.keeper e) t by)) null-reads
    (take_keeps k t e g (core_in m l) is good))
joins-as k g m l t e (JoinAt.Walk first at count) is good =
    let low = walk-small k t e first at count g (core_in m l) is good in
    subst (λ n. ObjectsGood k g (core_in m (joined_as t e (join_walked first at n (mark_of (m marks at))) l)))
    (sym (capped-is (count + 1) (omega arith)))
    (subst (λ (x : Locals). ObjectsGood k g (core_in m x))
    (sym (walked-as t e first at (count + 1) (mark_of (m marks at)) l))
    (walk_keeps k t e first at count g (core_in m l) is good))
joins-as k g m l t e (JoinAt.Tie first last count) is good =
    let by = fits_at k g (core_in m l) t (Joining e (JoinAt.Tie first last count)) is good in
    let low = head-low k g m l t e good by in
    let w = (taken_at k g (core_in m l) t (Joining e (JoinAt.Tie first last count)) is good e by).1 refl in
    let a = tally-append last w.1.0 (last ∷ []) in
    let n = ap (tally last) w.1.1 in
    let here = tally-here last [] in
    let at = private-there g.held g.privates g.taken e last good.privates_once (omega arith) in
    mark_stored k (shadow_joined e (JoinAt.Tie first last count) g) m (joined_as t e (JoinNext.Joined first count) l)
    last (private_link (l.book.heads e)) (mark_of (private_link (l.book.heads e)))
    (out-inside k g.held l.book last good.book good.out_fits (subst IsOut (sym at.0) tt)) refl
    (tie_keeps k t e first last count (mark_of (private_link (l.book.heads e))) g (core_in m l) is
    (private-leads (l.book.heads e) low) (private-no_grant (l.book.heads e) low) good)

-- M1, M3, M2, M7
behind-is : (links : ℕ → Link) (mark : Mark) (us : List ℕ) → IsChain links (mark_link mark) us 0
    → mark_link mark ≡ head_link (behind mark)
behind-is links Mark.Unmarked [] chain = absurd (cc)
behind-is links Mark.Unmarked (x ∷ us) (first, chain) = absurd (cc)
behind-is links (Mark.Granted gr) [] chain = absurd (cc)
behind-is links (Mark.Granted gr) (x ∷ us) (first, chain) = absurd (cc)
behind-is links (Mark.Hand seat) [] chain = absurd (cc)
behind-is links (Mark.Hand seat) (x ∷ us) (first, chain) = absurd (cc)
behind-is links (Mark.Link u) us chain = refl
behind-is links Mark.End us chain = refl
behind-is links Mark.EndUnusable [] chain = absurd (let n : ◌≡◌ {A = ℕ} 1 0 = cc in omega arith)
behind-is links Mark.EndUnusable (x ∷ us) (first, chain) = absurd (cc)

reads-as : (k : Key) (g : Shadow) (m : Mem) (l : Locals) (t e head : ℕ) → l.tasks t ≡ Reading e head
    → ObjectsGood k g (core_in m l)
    → ObjectsGood k g (core_in m (with_task t (Taking e head (behind (mark_of (m marks head)))) l))
reads-as k g m l t e head is good =
    let task = fits_at k g (core_in m l) t (Reading e head) is good in
    let c = subst (λ o. IsChain (links_in (core_in m l).marks) (head_link o) (g.privates e) 0) task.1
    (good.private_chains e) in
    let starts = (chain-starts (links_in (core_in m l).marks) head (g.privates e) 0 c).1 in
    stand_keeps k t (Taking e head (behind (mark_of (m marks head)))) g (core_in m l) good (
      task.0,
      task.1,
      task.2,
      behind-is (links_in (core_in m l).marks) (mark_of (m marks head)) (tail_of (g.privates e)) starts,
    )
    (λ e' kept. taken_at k g (core_in m l) t (Reading e head) is good e' kept)
    (λ u held. hand_at k g (core_in m l) t (Reading e head) is good u held)

abbrev with_public : ℕ → Public → Core → Core
with_public e p s = record s { publics = put s.publics e p }

-- one public word changes, and its list is none
pub public_same : (k : Key) (g : Shadow) (s : Core) (e : ℕ) (p : Public)
    → IsPublicChain (links_in s.marks) p (g.listed e) → ObjectsGood k g s → ObjectsGood k g (with_public e p s)
public_same k g s e p chain good = record {
  book = good.book;
  kinds' = good.kinds';
  marks_fit = good.marks_fit;
  grants = good.grants;
  out_fits = good.out_fits;
  larges = good.larges;
  privates_once = good.privates_once;
  listed_once = good.listed_once;
  private_chains = good.private_chains;
  public_chains = each (λ c q. IsPublicChain (links_in s.marks) q (g.listed c)) s.publics e p
      (λ c _. good.public_chains c) chain;
  counts_fit = good.counts_fit;
  taken_fit = good.taken_fit;
  tasks_fit = λ o. task-stays k g s g (with_public e p s) o (s.tasks o) good (rely o) stays (good.tasks_fit o);
  notes_fit = λ o. notes-stay g s g (with_public e p s) (s.notes o) stays (good.notes_fit o);
  hands_fit = good.hands_fit;
}
  where
    stays : NoReturn g s g (with_public e p s)
    stays = record { lasts = λ seat. lasts-same s.lasts seat; again = λ x z low q. (refl, refl) }

    rely : (o : ℕ) → Rely o g s g (with_public e p s)
    rely o = record {
      mine = λ x m. (refl, refl);
      slabs = λ c by. record { keeper = refl; same = refl; privates = refl; taken = refl };
      strange = λ c not. not;
      no_more = λ x q. q;
      lasts = refl;
      task = refl;
    }

-- closes, clears, uncached
exchanged : (k : Key) (g : Shadow) (m : Mem) (l : Locals) (e : ℕ) → e < k.span → ObjectsGood k g (core_in m l)
    → ObjectsGood k g (core_in (cond (eqb (m publics e) (public_word Public.Null))
    (stored k m (Word.Public e) (public_word Public.Unusable)) m) l)
exchanged k g m l e low good = by (eqb (m publics e) (public_word Public.Null)) refl
  where
    by : (b : Bool) → eqb (m publics e) (public_word Public.Null) ≡ b
        → ObjectsGood k g (core_in (cond b (stored k m (Word.Public e) (public_word Public.Unusable)) m) l)
    by false lost = good
    by true won =
        let is = ap public_of (eqb-true (m publics e) (public_word Public.Null) won) ∙ null-reads in
        public_stored k g m l e (public_word Public.Unusable) Public.Unusable low unusable-reads
        (public_same k g (core_in m l) e Public.Unusable
        (subst (λ p. IsPublicChain (links_in (core_in m l).marks) p (g.listed e)) is (good.public_chains e)) good)

listed_nowhere : (k : Key) (g : Shadow) (m : Mem) (l : Locals) (e : ℕ) → ObjectsGood k g (core_in m l)
    → (IsThere (l.book.keeper e) → ⊥) → g.listed e ≡ []
listed_nowhere k g m l e good none = all_none (g.listed e) (λ u. less_or 0 (tally u (g.listed e))
    (λ some. absurd (let at = listed-there g.held g.listed e u good.listed_once some in
    none (subst (λ c. IsThere (l.book.keeper c)) at.1
    (good.out_fits.in_slab u (subst IsOut (sym at.0) tt)).0)))
    (λ zero. omega arith))

start-taken : (k : Key) (g : Shadow) (s : Core) (t e : ℕ) (task : Task) → IsStart task → g.taken e ≡ []
    → TakenFits (links_in s.marks) task e (g.taken e)
start-taken k g s t e Away is none = none
start-taken k g s t e (Looking c at) is none = none
start-taken k g s t e (Ending c kind at) is none = none
start-taken k g s t e (Posting c at) is none = absurd is
start-taken k g s t e (Joining slab JoinAt.Take) is none = ((λ _. none), (λ _. none))
start-taken k g s t e (Joining slab (JoinAt.Walk first at count)) is none = absurd is
start-taken k g s t e (Joining slab (JoinAt.Tie first last count)) is none = absurd is
start-taken k g s t e (Reading slab head) is none = none
start-taken k g s t e (Taking slab head below) is none = none
start-taken k g s t e (Resting slab unit) is none = none
start-taken k g s t e (Blocking unit first granules) is none = none

-- a fact of a task is one of the same task after another task was set
same-task : (k : Key) (g : Shadow) (s : Core) (t : ℕ) (old task : Task) → ObjectsGood k g s → TaskFits k g s t task
    → TaskFits k g (record s { tasks = put s.tasks t old }) t task
same-task k g s t old Away good fits = fits
same-task k g s t old (Looking c LookAt.Region) good fits = fits
same-task k g s t old (Looking c (LookAt.Mark u)) good fits = fits
same-task k g s t old (Looking c (LookAt.Again u word)) good fits = fits
same-task k g s t old (Looking c (LookAt.Kind u word)) good fits = fits
same-task k g s t old (Looking c (LookAt.Odd u word)) good fits = fits
same-task k g s t old (Looking c (LookAt.Base u word kind)) good fits = record { seen = fits.seen; kind = fits.kind }
same-task k g s t old (Looking c (LookAt.Second u word kind base)) good fits =
    record { seen = fits.seen; kind = fits.kind }
same-task k g s t old (Looking c (LookAt.Gone word)) good fits = fits
same-task k g s t old (Ending c kind at) good (seat, note, end) =
    (seat, record { seen = note.seen; kind = note.kind }, end)
same-task k g s t old (Posting c at) good fits = fits
same-task k g s t old (Joining slab at) good fits = fits
same-task k g s t old (Reading slab head) good fits = fits
same-task k g s t old (Taking slab head below) good fits = fits
same-task k g s t old (Resting slab unit) good fits = fits
same-task k g s t old (Blocking unit first granules) good fits = fits

begins-as : (k : Key) (g : Shadow) (m : Mem) (l : Locals) (t : ℕ) (task : Task) → l.tasks t ≡ Away → IsStart task
    → TaskFits k g (core_in m l) t task → ObjectsGood k g (core_in m l)
    → ObjectsGood k g (core_in m (with_task t task l))
begins-as k g m l t task is start fits good = stand_keeps k t task g (core_in m l) good
    (same-task k g (core_in m l) t task task good fits)
    (λ e kept. start-taken k g (core_in m l) t e task start (taken_at k g (core_in m l) t Away is good e kept))
    (λ u held. absurd (hand_at k g (core_in m l) t Away is good u held))

pub steps_keep_objects : StepsKeepObjects
steps_keep_objects k g m l h m' l' good (looks t c at is) = looks_keep k g m l t c at is good
steps_keep_objects k g m l h m' l' good (ends t c kind at few is) = ends-as k g m l t c kind at few is good
steps_keep_objects k g m l h m' l' good (posts t c at is) = posts-as k g m l t c at is good
steps_keep_objects k g m l h m' l' good (joins t e at is) = joins-as k g m l t e at is good
steps_keep_objects k g m l h m' l' good (reads t e head is) = reads-as k g m l t e head is good
steps_keep_objects k g m l h m' l' good (takes t e head below few is) =
    let task = fits_at k g (core_in m l) t (Taking e head below) is good in
    let at = head-mine k g (core_in m l) t e head good task.0 task.1 in
    let names = granted-reads t (l.lasts t + 1) few task.2 in
    mark_stored k h m l' head (grant_word l t) (Mark.Granted (next_grant l t))
    (out-inside k g.held l.book head good.book good.out_fits (subst IsOut (sym at.0) tt)) names
    (private_keeps k t e head (grant_word l t) below g (core_in m l) is names good)
steps_keep_objects k g m l h m' l' good (rests t e unit few is) =
    let task = fits_at k g (core_in m l) t (Resting e unit) is good in
    let names = granted-reads t (l.lasts t + 1) few task.2 in
    let old = good.book.there e (there_of (l.book.keeper e) t task.0) in
    let low = unit-below e (l.book.classes e) (l.book.handed e) old.record'.few task.3 in
    let place = old.place.inside in
    let at = task.4 in
    mark_stored k h m l' unit (grant_word l t) (Mark.Granted (next_grant l t)) (omega arith) names
    (rest_keeps k t e unit (grant_word l t) g (core_in m l) is names good)
steps_keep_objects k g m l h m' l' good (readies t unit first granules is can low) =
    less_or (granule_of unit) (k.span + 1)
    (λ inside. kind_stored k h m l' (granule_of unit) (Kind.Large first granules) inside can.fits
    (ready_keeps k t unit first granules g (core_in m l) is can low good))
    (λ past. absurd (let u = can.unit in omega arith))
steps_keep_objects k g m l h m' l' good (blocks t unit first granules few is) =
    let task = fits_at k g (core_in m l) t (Blocking unit first granules) is good in
    let names = granted-reads t (l.lasts t + 1) few task.1 in
    mark_stored k h m l' unit (grant_word l t) (Mark.Granted (next_grant l t))
    (subst (LargeFits k unit (l.book.keeper (slab_of unit)) (kind_of (m kinds (granule_of unit)))) task.0
    (good.larges unit)).2 names
    (block_keeps k t unit (grant_word l t) first granules g (core_in m l) is names good)
steps_keep_objects k g m l h m' l' good (slab_begins t e class is nobody place low bare) =
    kind_stored k g m l' e (Kind.Slab class) (let i = place.inside in omega arith) (omega arith)
    (begin_keeps k t e class g (core_in m l) is nobody place low bare good)
steps_keep_objects k g m l h m' l' good (slab_ends t e is by zero) =
    let low = place-inside k g m l e good (there_of (l.book.keeper e) t by) in
    kind_stored k h m l' e Kind.Nothing (omega arith) tt (end_keeps k t e g (core_in m l) is by zero good)
steps_keep_objects k g m l h m' l' good (slab_cached t e nobody even low bare) =
    kind_stored k g m l' e Kind.CachedSlab (omega arith) tt
    (cached_keep k e (Keeper.Cached t) Kind.CachedSlab g (core_in m l) (subst IsSlabless (sym nobody) tt) tt refl
    (λ u at. large-none k u (put l.book.keeper e (Keeper.Cached t) (slab_of u)) Kind.CachedSlab (g.held u)
    (bare u (ap slab_granule at ∙ even))) good)
steps_keep_objects k g m l h m' l' good (slab_uncached t e cached low) =
    kind_stored k g m l' e Kind.Nothing (omega arith) tt
    (cached_keep k e Keeper.Nobody Kind.Nothing g (core_in m l) (subst IsSlabless (sym cached) tt) tt tt
    (λ u at. large-uncached k u (l.book.keeper (slab_of u)) (put l.book.keeper e Keeper.Nobody (slab_of u))
    (kind_of (m kinds (granule_of u))) Kind.Nothing (g.held u)
    (ap (λ e'. kind_of (m kinds e')) at
    ∙ subst (λ q. KindFits q (l.book.classes e) (kind_of (m kinds e))) cached (good.kinds' e)) (good.larges u)) good)
steps_keep_objects k g m l h m' l' good (leaves t e is by) =
    keepers_keep k t (put l.book.keeper e Keeper.Orphan) g (core_in m l) is
    (each (λ c q. (q ≡ l.book.keeper c) ⊎ (IsThere (l.book.keeper c) × IsThere q)) l.book.keeper e Keeper.Orphan
    (λ c _. inl refl) (inr (there_of (l.book.keeper e) t by, tt)))
    (λ c o ne kept. each (λ c q. l.book.keeper c ≡ Keeper.By o → q ≡ Keeper.By o) l.book.keeper e Keeper.Orphan
    (λ c _ z. z) (λ z. absurd (by_other (l.book.keeper e) t o by ne z)) c kept)
    (λ c o ne. each (λ c q. q ≡ Keeper.By o → l.book.keeper c ≡ Keeper.By o) l.book.keeper e Keeper.Orphan
    (λ c _ z. z) (λ z. absurd (cc)) c) good
steps_keep_objects k g m l h m' l' good (comes t chain is orphans) =
    keepers_keep k t (chain_taken t chain l.book.keeper) g (core_in m l) is
    (λ e. less_or 0 (tally e chain)
    (λ some. inr (subst IsThere (sym (orphans e some)) tt, subst IsThere (sym (now e some)) tt))
    (λ none. inl (same e none)))
    (λ e o ne kept. less_or 0 (tally e chain)
    (λ some. absurd (let q : Keeper.Orphan ≡ Keeper.By o = sym (orphans e some) ∙ kept in cc))
    (λ none. same e none ∙ kept))
    (λ e o ne kept. less_or 0 (tally e chain)
    (λ some. absurd (let q : Keeper.Adopting t ≡ Keeper.By o = sym (now e some) ∙ kept in cc))
    (λ none. sym (same e none) ∙ kept)) good
  where
    now : (e : ℕ) → 0 < tally e chain → chain_taken t chain l.book.keeper e ≡ Keeper.Adopting t
    now e some = grind (arith, nat_tests)

    same : (e : ℕ) → tally e chain ≤ 0 → chain_taken t chain l.book.keeper e ≡ l.book.keeper e
    same e none = grind (arith, nat_tests)
steps_keep_objects k g m l h m' l' good (goes_back t e is was) =
    keepers_keep k t (put l.book.keeper e Keeper.Orphan) g (core_in m l) is
    (each (λ c q. (q ≡ l.book.keeper c) ⊎ (IsThere (l.book.keeper c) × IsThere q)) l.book.keeper e Keeper.Orphan
    (λ c _. inl refl) (inr (subst IsThere (sym was) tt, tt)))
    (λ c o ne kept. each (λ c q. l.book.keeper c ≡ Keeper.By o → q ≡ Keeper.By o) l.book.keeper e Keeper.Orphan
    (λ c _ z. z) (λ z. absurd (let q : Keeper.Adopting t ≡ Keeper.By o = sym was ∙ z in cc)) c kept)
    (λ c o ne. each (λ c q. q ≡ Keeper.By o → l.book.keeper c ≡ Keeper.By o) l.book.keeper e Keeper.Orphan
    (λ c _ z. z) (λ z. absurd (cc)) c) good
steps_keep_objects k g m l h m' l' good (adopts t e is was) =
    keepers_keep k t (put l.book.keeper e (Keeper.By t)) g (core_in m l) is
    (each (λ c q. (q ≡ l.book.keeper c) ⊎ (IsThere (l.book.keeper c) × IsThere q)) l.book.keeper e (Keeper.By t)
    (λ c _. inl refl) (inr (subst IsThere (sym was) tt, tt)))
    (λ c o ne kept. each (λ c q. l.book.keeper c ≡ Keeper.By o → q ≡ Keeper.By o) l.book.keeper e (Keeper.By t)
    (λ c _ z. z) (λ z. absurd (let q : Keeper.Adopting t ≡ Keeper.By o = sym was ∙ z in cc)) c kept)
    (λ c o ne. each (λ c q. q ≡ Keeper.By o → l.book.keeper c ≡ Keeper.By o) l.book.keeper e (Keeper.By t)
    (λ c _ z. z) (λ z. absurd (ne (let q : t ≡ o = cc in sym q))) c) good
steps_keep_objects k g m l h m' l' good (closes e low) = exchanged k g m l e low good
steps_keep_objects k g m l h m' l' good (clears e none low) =
    public_stored k g m l e (public_word Public.Null) Public.Null low null-reads
    (public_same k g (core_in m l) e Public.Null (listed_nowhere k g m l e good none) good)
steps_keep_objects k g m l h m' l' good (begins t task is start fits) = begins-as k g m l t task is start fits good
steps_keep_objects k g m l h m' l' good (forgets t n ns is) =
    notes_keep k t ns g (core_in m l) good (subst (NotesFit g (core_in m l)) is (good.notes_fit t)).1
steps_keep_objects k g m l h m' l' good (others action other) = others_keep k g m l action other good

pub runs_keep_objects : RunsKeepObjects
runs_keep_objects k g m l h m' l' good starts = good
runs_keep_objects k g m l h m' l' good (steps {g1} {m1} {l1} run step) =
    steps_keep_objects k g1 m1 l1 h m' l' (runs_keep_objects k g m l g1 m1 l1 good run) step
