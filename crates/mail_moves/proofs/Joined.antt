-- What was given back to a slab is joined: where the slab's private objects begin, and what stays.
use Rattle.std.proofs.Common.{◌≡◌, ℕ, Some, refl, sym, ap, subst}
use Rattle.heap_slabs.specs.Slabs.{record_at}
use Rattle.pool_words.specs.declared.words.Key.{Key}
use Rattle.public_list.specs.declared.joining.JoinAt.{JoinAt}
use Rattle.public_list.specs.declared.joining.JoinNext.{JoinNext}
use Rattle.public_list.specs.Joining.{join_taken, join_walked}
use Rattle.word_codes.specs.declared.marks.Mark.{Mark}
use Rattle.word_codes.specs.declared.publics.Public.{Public}
use Rattle.slab_laws.specs.Books.{Keeper, record_of}
use Rattle.object_laws.specs.Objects.{Locals, Task, core_in}
use Rattle.object_laws.specs.Parts.{TaskFits}
use Rattle.object_laws.specs.Rows.{joined_as}
use Rattle.pool_laws.specs.Wholes.{Whole, WholeGood}
use Rattle.step_local.specs.declared.frames.Local.{Local}
use Rattle.step_local.specs.Answers.{head_at, head_of}
use Rattle.heap_tasks.specs.Heaps.{kept_joined, kept_of}

-- the heap's record of a slab that its seat keeps is the book's
pub recorded : (k : Key) (w : Whole) (l : Local) (e : ℕ) → WholeGood k w → w.pool.kept l.seat ≡ kept_of l
    → w.pool.locals.book.keeper e ≡ Keeper.By l.seat
    → record_at l.heap.slabs.records e ≡ Some (record_of w.pool.locals.book e)
recorded k w l e good kept by =
    subst (λ slabs. record_at slabs.records e ≡ Some (record_of w.pool.locals.book e)) kept
    (good.post.pool'.slabs.records.mine e l.seat by)

-- so the private objects of one that the seat joins begin there
pub head_here : (k : Key) (w : Whole) (l : Local) (e : ℕ) (at : JoinAt) → WholeGood k w
    → w.pool.locals.tasks l.seat ≡ Task.Joining e at → w.pool.kept l.seat ≡ kept_of l
    → w.pool.locals.book.heads e ≡ head_at l e
head_here k w l e at good joins kept =
    let by : w.pool.locals.book.keeper e ≡ Keeper.By l.seat =
    subst (λ task. TaskFits k w.pool.objects (core_in w.pool.mem w.pool.locals) l.seat task) joins
    (good.post.pool'.objects.tasks_fit l.seat) in
    sym (ap (λ kept. head_of kept) (recorded k w l e good kept by))

pub kept_taken : (l : Local) (e : ℕ) (public : Public) → kept_joined l e (join_taken public) ≡ kept_of l
kept_taken l e Public.Null = refl
kept_taken l e Public.Unusable = refl
kept_taken l e (Public.Filled unit) = refl

pub kept_walked : (l : Local) (e first on count : ℕ) (mark : Mark)
    → kept_joined l e (join_walked first on count mark) ≡ kept_of l
kept_walked l e first on count Mark.Unmarked = refl
kept_walked l e first on count (Mark.Granted grant) = refl
kept_walked l e first on count (Mark.Hand seat) = refl
kept_walked l e first on count (Mark.Link unit) = refl
kept_walked l e first on count Mark.End = refl
kept_walked l e first on count Mark.EndUnusable = refl

-- no grant is made, and nothing noted
pub lasts_joined : (seat e : ℕ) (next : JoinNext) (l : Locals) → (joined_as seat e next l).lasts seat ≡ l.lasts seat
lasts_joined seat e (JoinNext.Goes at) l = refl
lasts_joined seat e JoinNext.Nothing l = refl
lasts_joined seat e (JoinNext.Joined first count) l = refl

pub notes_joined : (seat e : ℕ) (next : JoinNext) (l : Locals) → (joined_as seat e next l).notes seat ≡ l.notes seat
notes_joined seat e (JoinNext.Goes at) l = refl
notes_joined seat e JoinNext.Nothing l = refl
notes_joined seat e (JoinNext.Joined first count) l = refl
