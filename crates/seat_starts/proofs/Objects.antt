-- A look, the end of a grant, or the grant of a small object begins.
use Rattle.std.proofs.Common.{◌≡◌, ◌≢◌, ◌⊎◌, ◌∙◌, ◌<◌, ◌+◌, ◌^◌, inl, inr, ℕ, true, refl, sym, ap, subst, arith}
use Rattle.std.specs.Prelude.{Option, Some, None, ◌||◌, is_some, ltb}
use Rattle.std.proofs.lemmas.Bool.Decides.{nat_tests}
use Rattle.pool_words.specs.declared.words.Key.{Key}
use Rattle.size_classes.specs.Classes.{class_objects}
use Rattle.heap_slabs.specs.declared.records.HeapSlab.{HeapSlab}
use Rattle.heap_slabs.specs.Records.{has_object}
use Rattle.heap_slabs.specs.Slabs.{record_at}
use Rattle.mailbox.specs.declared.boxes.BoxAt.{BoxAt}
use Rattle.public_list.specs.declared.ending.EndAt.{EndAt}
use Rattle.public_list.specs.declared.joining.JoinAt.{JoinAt}
use Rattle.public_list.specs.declared.looking.LookAt.{LookAt}
use Rattle.word_codes.specs.declared.kinds.Kind.{Kind}
use Rattle.word_laws.specs.Memory.{put}
use Rattle.word_laws.proofs.CallerLemmas.{equal_or, put_here}
use Rattle.slab_laws.specs.Books.{Keeper, record_of}
use Rattle.slab_laws.specs.Heaps.{slab_of}
use Rattle.object_laws.specs.Objects.{Task, core_in}
use Rattle.object_laws.specs.Parts.{EndFits, HasNumber, LookFits, NotesFit, TaskFits}
use Rattle.object_laws.specs.Rows.{with_task}
use Rattle.object_laws.specs.Steps.{IsStart, ObjectStep}
use Rattle.mail_laws.specs.Mail as mailing
use Rattle.orphan_laws.specs.Orphans as orphaning
use Rattle.use_laws.specs.Steps.{PoolStep}
use Rattle.post_laws.specs.Posts.{IsNoJoin, MailTies, TiesFit}
use Rattle.heap_tasks.specs.Stages.{IsEnding}
use Rattle.step_local.specs.Getting.{last_grant}
use Rattle.step_local.specs.declared.frames.Local.{Local}
use Rattle.step_local.specs.Answers.{end_by, end_call, end_in, ended_object, head_at, head_of}
use Rattle.step_tasks.specs.Objects.{rest_at, rest_in}
use Rattle.heap_tasks.specs.Notes.{notes_of}
use Rattle.heap_tasks.proofs.CallerLemmas.{along_tail, ended_notes_fit}
use Rattle.step_fits.specs.Small.{Gives}
use Rattle.pool_laws.specs.Steps.{HasNoPost, IsFree, WholeStep}
use Rattle.pool_laws.specs.Wholes.{Whole, WholeGood}
use Rattle.seat_ties.specs.Ties.{HeapTied, SaysItself}
use Rattle.seat_ties.specs.Turns.{Here, goes_on, may_start, NotesHere, are, forgets, SeatRun, stays, steps_on}

-- the whole with these tasks of objects
abbrev pub with_objects : (ℕ → Task) → Whole → Whole
with_objects tasks w = record w { pool = record w.pool { locals = record w.pool.locals { tasks = tasks } } }

pub record ObjectBegun (k : Key) (w : Whole) (seat : ℕ) (task : Task) : Type 0 where
  pub tasks : ℕ → Task
  pub run : SeatRun k seat w (with_objects tasks w)
  pub are : tasks seat ≡ task

pub same_object : (k : Key) (w : Whole) (seat : ℕ) (task : Task) → w.pool.locals.tasks seat ≡ task
    → ObjectBegun k w seat task
same_object k w seat task is = record { tasks = w.pool.locals.tasks; run = stays; are = is }

pub object_starts : (k : Key) (w : Whole) (seat : ℕ) (task : Task) → IsFree w seat → HasNoPost w seat
    → w.pool.locals.tasks seat ≡ Task.Away → IsStart task → IsNoJoin task
    → TaskFits k w.pool.objects (core_in w.pool.mem w.pool.locals) seat task → ObjectBegun k w seat task
object_starts k w seat task free post away start none fits =
    let locals = with_task seat task w.pool.locals in
    record {
      tasks = put w.pool.locals.tasks seat task;
      run = steps_on stays (WholeStep.uses (record w.pool { locals = locals })
          (PoolStep.objects w.pool.objects w.pool.mem locals (ObjectStep.begins seat task away start fits) tt)
          (refl, none, post) free);
      are = put_here w.pool.locals.tasks seat seat task refl;
    }

-- of which a heap has a record is its seat's, and the record is the book's
by_or : (q : Keeper) (seat : ℕ) → (q ≡ Keeper.By seat) ⊎ (q ≢ Keeper.By seat)
by_or (Keeper.By o) seat = equal_or o seat (λ same. inl (ap Keeper.By same)) (λ differ. inr (λ e. differ (cc)))
by_or Keeper.Nobody seat = inr (λ e. absurd (cc))
by_or Keeper.Orphan seat = inr (λ e. absurd (cc))
by_or (Keeper.Adopting o) seat = inr (λ e. absurd (cc))
by_or (Keeper.Cached o) seat = inr (λ e. absurd (cc))

pub kept_by : (k : Key) (w : Whole) (seat e : ℕ) (kept : HeapSlab) → WholeGood k w
    → record_at (w.pool.kept seat).records e ≡ Some kept → w.pool.locals.book.keeper e ≡ Keeper.By seat
kept_by k w seat e kept good there = pick (by_or (w.pool.locals.book.keeper e) seat)
  where
    pick : (w.pool.locals.book.keeper e ≡ Keeper.By seat) ⊎ (w.pool.locals.book.keeper e ≢ Keeper.By seat)
        → w.pool.locals.book.keeper e ≡ Keeper.By seat
    pick (inl by) = by
    pick (inr other) =
        absurd (let none : None ≡ Some kept = sym (good.shelf.pool.slabs.records.strange e seat other) ∙ there in cc)

-- a note that the local has fits, as all that the seat has noted do
note_fits : (k : Key) (w : Whole) (l : Local) → WholeGood k w → NotesHere w l.seat (notes_of l)
    → NotesFit w.pool.objects (core_in w.pool.mem w.pool.locals) (notes_of l)
note_fits k w l good (are e) = subst (NotesFit w.pool.objects (core_in w.pool.mem w.pool.locals)) e
    (good.shelf.pool.objects.notes_fit l.seat)
note_fits k w l good (forgets tail free) =
    along_tail (NotesFit w.pool.objects (core_in w.pool.mem w.pool.locals)) (λ n os fits. fits.1) tail
    (good.shelf.pool.objects.notes_fit l.seat)

-- a grant is ended by where its object lies
end_small : (k : Key) (w : Whole) (l : Local) (unit class : ℕ) → WholeGood k w → w.pool.kept l.seat ≡ l.heap.slabs
    → (there : Option HeapSlab) → record_at l.heap.slabs.records (slab_of unit) ≡ there
    → EndFits w.pool.locals.book l.seat unit (head_of there) (Kind.Slab class) (end_in there)
end_small k w l unit class good same (Some kept) is =
    let there = subst (λ s. record_at s.records (slab_of unit) ≡ Some kept) (sym same) is in
    let by = kept_by k w l.seat (slab_of unit) kept good there in
    let mine = sym there ∙ good.shelf.pool.slabs.records.mine (slab_of unit) l.seat by in
    (tt, by, ap head_of mine)
end_small k w l unit class good same None is = (
  (λ never. never),
  λ is_slab by. absurd (
      let none = subst (λ s. record_at s.records (slab_of unit) ≡ None) (sym same) is in
      let never : None ≡ Some (record_of w.pool.locals.book (slab_of unit)) =
      sym none ∙ good.shelf.pool.slabs.records.mine (slab_of unit) l.seat by in
      cc),
)

end_fits : (k : Key) (w : Whole) (l : Local) (unit : ℕ) (kind : Kind) → WholeGood k w
    → w.pool.kept l.seat ≡ l.heap.slabs
    → EndFits w.pool.locals.book l.seat unit (head_at l (slab_of unit)) kind (end_by l unit kind)
end_fits k w l unit Kind.Nothing good same = (λ never. never, λ never. absurd never)
end_fits k w l unit (Kind.Slab class) good same =
    end_small k w l unit class good same (record_at l.heap.slabs.records (slab_of unit)) refl
end_fits k w l unit Kind.CachedSlab good same = (λ never. never, λ never. absurd never)
end_fits k w l unit (Kind.Large first granules) good same = tt

-- a slab that gives an object is the seat's, and its record is the book's
pub record GivingSlab (w : Whole) (l : Local) (slab : ℕ) : Type 0 where
  pub by : w.pool.locals.book.keeper slab ≡ Keeper.By l.seat
  pub there : record_at l.heap.slabs.records slab ≡ Some (record_of w.pool.locals.book slab)
  pub object : has_object (record_of w.pool.locals.book slab) ≡ true

some_is : (a b : HeapSlab) → Some a ≡ Some b → a ≡ b
some_is a b e = cc

giving_slab : (k : Key) (w : Whole) (l : Local) (slab : ℕ) → WholeGood k w → w.pool.kept l.seat ≡ l.heap.slabs
    → Gives true l slab → GivingSlab w l slab
giving_slab k w l slab good same gives =
    let kept = (gives refl).0 in
    let is = (gives refl).1 in
    let there = subst (λ s. record_at s.records slab ≡ Some kept) (sym same) is.there in
    let by = kept_by k w l.seat slab kept good there in
    let mine = good.shelf.pool.slabs.records.mine slab l.seat by in
    record {
      by = by;
      there = subst (λ s. record_at s.records slab ≡ Some (record_of w.pool.locals.book slab)) same mine;
      object = subst (λ s. has_object s ≡ true) (some_is kept (record_of w.pool.locals.book slab) (sym there ∙ mine))
          is.object;
    }

number_left : (w : Whole) (l : Local) → w.pool.locals.lasts l.seat ≡ l.last → l.last < last_grant
    → HasNumber (core_in w.pool.mem w.pool.locals) l.seat
number_left w l last few = subst (λ (n : ℕ). n + 1 < 2 ^ 55) (sym last) (omega arith)

rest_left : (handed most : ℕ) (head : Option ℕ) → head ≡ None → (is_some head || ltb handed most) ≡ true
    → handed < most
rest_left handed most None none has = grind (arith, nat_tests)
rest_left handed most (Some unit) none has = absurd (cc)

module _ (k : Key) (w : Whole) (l : Local) (good : WholeGood k w) (says : SaysItself k l.seat l)
    (heap : HeapTied w l.seat l) (notes : NotesHere w l.seat (notes_of l)) where
  -- what an object's task rests on as it starts, by the position
  pub looks_fit : (at : LookAt) → at ≡ LookAt.Region → LookFits w.pool.objects (core_in w.pool.mem w.pool.locals) at
  looks_fit LookAt.Region e = tt
  looks_fit _ e = absurd (cc)

  pub ends_fit : IsEnding l.call.stage → (at : EndAt)
      → at ≡ end_by l (ended_object l).unit (ended_object l).kind
      → TaskFits k w.pool.objects (core_in w.pool.mem w.pool.locals) l.seat
      (Task.Ending (end_call l) (ended_object l).kind at)
  ends_fit ending at is = (
    refl,
    ended_notes_fit l w.pool.objects (core_in w.pool.mem w.pool.locals) ending (note_fits k w l good notes),
    subst (EndFits w.pool.locals.book l.seat (end_call l).unit (end_call l).head (ended_object l).kind) (sym is)
        (end_fits k w l (ended_object l).unit (ended_object l).kind good heap.kept),
  )

  pub reads_fit : (slab head : ℕ) → Gives true l slab → head_at l slab ≡ Some head → l.last < last_grant
      → TaskFits k w.pool.objects (core_in w.pool.mem w.pool.locals) l.seat (Task.Reading slab head)
  reads_fit slab head gives first few =
      let slab' = giving_slab k w l slab good heap.kept gives in
      (slab'.by, sym (ap head_of slab'.there) ∙ first, number_left w l heap.last few)

  pub rests_fit : (slab unit : ℕ) → Gives true l slab → head_at l slab ≡ None → unit ≡ rest_at l slab
      → l.last < last_grant
      → TaskFits k w.pool.objects (core_in w.pool.mem w.pool.locals) l.seat (Task.Resting slab unit)
  rests_fit slab unit gives none is few =
      let slab' = giving_slab k w l slab good heap.kept gives in
      let book = w.pool.locals.book in
      let empty = sym (ap head_of slab'.there) ∙ none in (
        slab'.by,
        empty,
        number_left w l heap.last few,
        rest_left (book.handed slab) (class_objects (book.classes slab)) (book.heads slab) empty slab'.object,
        is ∙ ap (rest_in slab) slab'.there,
      )

  -- a join that is to start stands already
  pub join_stands : (slab : ℕ) (rest : Option ℕ) → Here (w.tasks l.seat) (orphaning.Task.Joining l.fetch.class slab rest)
      orphaning.Task.Away ⊥ → w.mails l.seat ≡ mailing.Task.Away → w.pool.locals.tasks l.seat ≡ Task.Away → ⊥
  join_stands slab rest (may_start e never) mail away = never
  join_stands slab rest (goes_on e) mail away =
      let ties = subst (λ t. TiesFit t (w.mails l.seat) (w.pool.locals.tasks l.seat)) e (good.post.ties l.seat) in
      let is : Task.Joining slab JoinAt.Take ≡ Task.Away = sym ties.1 ∙ away in
      cc

  pub box_stands : (slab : ℕ) (rest : Option ℕ) (at : JoinAt) → w.tasks l.seat ≡ orphaning.Task.Away
      → Here (w.mails l.seat) (mailing.Task.Fetching l.fetch.class (BoxAt.Join slab rest at)) mailing.Task.Away
      (BoxAt.Join slab rest at ≡ BoxAt.Take) → w.pool.locals.tasks l.seat ≡ Task.Away → ⊥
  box_stands slab rest at orphan (may_start e start) away = cc
  box_stands slab rest at orphan (goes_on e) away =
      let ties = subst (λ t. TiesFit t (w.mails l.seat) (w.pool.locals.tasks l.seat)) orphan (good.post.ties l.seat) in
      let mails = subst (λ t. MailTies t (w.pool.locals.tasks l.seat)) e ties in
      let is : Task.Joining slab at ≡ Task.Away = sym mails ∙ away in
      cc
