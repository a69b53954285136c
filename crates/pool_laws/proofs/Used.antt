-- Steps on objects and slabs that have nothing to do with mail and orphans.
use Rattle.std.proofs.Common.{◌≡◌, ◌≢◌, inl, ℕ, ◌+◌, ◌-◌, Bool, true, false, cond, eqb, Option, Some, length}
use Rattle.std.proofs.Common.{refl, sym, ap, subst, arith, ◌∙◌}
use Rattle.std.specs.Prelude.{⊤}
use Rattle.pool_words.specs.declared.words.Key.{Key}
use Rattle.pool_words.specs.declared.words.Word.{Word}
use Rattle.pool_words.specs.declared.actions.Action.{Action}
use Rattle.pool_words.specs.declared.actions.Action.TheVariants.{Load, Store, Swap, Exchange, Add, TakeOffice}
use Rattle.pool_words.specs.declared.actions.Action.TheVariants.{GiveOffice, Nothing}
use Rattle.word_codes.specs.declared.kinds.Kind.{Kind}
use Rattle.word_codes.specs.Kinds.{kind_word}
use Rattle.word_codes.specs.Places.{granule_of}
use Rattle.guards.specs.declared.win.Taking.{Taking}
use Rattle.heap_slabs.specs.declared.records.HeapSlab.{HeapSlab}
use Rattle.public_list.specs.declared.ending.EndAt.{EndAt}
use Rattle.public_list.specs.declared.ending.EndCall.{EndCall}
use Rattle.public_list.specs.declared.ending.EndNext.{EndNext}
use Rattle.public_list.specs.declared.joining.JoinAt.{JoinAt}
use Rattle.public_list.specs.declared.looking.LookAt.{LookAt}
use Rattle.public_list.specs.declared.looking.LookCall.{LookCall}
use Rattle.public_list.specs.declared.looking.LookNext.{LookNext}
use Rattle.public_list.specs.Ending.{end_course, end_learn}
use Rattle.public_list.specs.Looking.{look_course, look_learn}
use Rattle.mailbox.specs.declared.boxes.BoxAt.{BoxAt}
use Rattle.word_laws.specs.Memory.{Mem, put, after, found}
use Rattle.guard_laws.specs.Blocks.{Use}
use Rattle.slab_laws.specs.Books.{Keeper, Book, IsThere, with_freed, with_private_taken, with_rest_taken, with_keeper}
use Rattle.slab_laws.specs.Heaps.{slab_of}
use Rattle.object_laws.specs.Objects as objects
use Rattle.object_laws.specs.Objects.{Locals}
use Rattle.object_laws.specs.Objects.Task.{Away, Looking, Ending, Posting, Joining, Reading, Taking as Granting}
use Rattle.object_laws.specs.Objects.Task.{Resting, Blocking}
use Rattle.object_laws.specs.Parts as parts
use Rattle.object_laws.specs.Parts.{EndFits}
use Rattle.object_laws.specs.Rows.{looked, ended, grant_word}
use Rattle.object_laws.specs.Steps.{ObjectStep}
use Rattle.mail_laws.specs.Mail as mailing
use Rattle.mail_laws.specs.Steps.{MailStep}
use Rattle.orphan_laws.specs.Orphans as orphaning
use Rattle.orphan_laws.specs.Orphans.{Task}
use Rattle.orphan_laws.specs.Steps.{RecordOnly, OrphanStep, OrphanRun}
use Rattle.use_laws.specs.Pools.{Pool}
use Rattle.use_laws.specs.Steps.{IsPlainEnd, IsPlain, PoolStep, PoolRun}
use Rattle.use_laws.specs.Stays.{LeavesShelf}
use Rattle.region_laws.specs.Steps.{LeavesRegions}
use Rattle.free_laws.specs.Steps.{IsOfUses}
use Rattle.post_laws.specs.Posts.{locals_of, IsNoJoin, MailTies, IsWalk, TiesFit}
use Rattle.post_laws.specs.Steps.{PostStep, PostRun}
use Rattle.pool_laws.specs.Wholes.{Whole, WholeGood, space_of, post_of}
use Rattle.pool_laws.specs.Changes.{with_pool}
use Rattle.pool_laws.specs.Moves.{Moves}
use Rattle.pool_laws.specs.Steps.{IsFree, IsOwnObject, IsOwnUse}
use Rattle.pool_laws.proofs.Words.{Writing}
use Rattle.pool_laws.proofs.Lifts.{Between, orphan_word, no_mail}
use Rattle.pool_laws.proofs.Told.{tells_none, tells_use}
use Rattle.pool_laws.proofs.Below.{put-same, put-other, object_fits_at, blocks_in_hand_are_bare, cached_by}

-- what a seat does with an object that is not on its way back
abbrev IsBusy : objects.Task → Type 0
IsBusy Away = ⊥
IsBusy (Looking call at) = ⊤
IsBusy (Ending call kind at) = ⊤
IsBusy (Posting call at) = ⊥
IsBusy (Joining slab at) = ⊥
IsBusy (Reading slab head) = ⊤
IsBusy (Granting slab head below) = ⊤
IsBusy (Resting slab unit) = ⊤
IsBusy (Blocking unit first granules) = ⊤

away_idle : (q : objects.Task) → q ≡ Away → IsBusy q → ⊥
away_idle q is busy = subst IsBusy is busy

join_idle : (e : ℕ) (at : JoinAt) (q : objects.Task) → q ≡ Joining e at → IsBusy q → ⊥
join_idle e at q is busy = subst IsBusy is busy

walk_idle : (q : objects.Task) → IsWalk q → IsBusy q → ⊥
walk_idle Away walk busy = busy
walk_idle (Looking call at) walk busy = walk
walk_idle (Ending call kind at) walk busy = walk
walk_idle (Posting call at) walk busy = walk
walk_idle (Joining slab at) walk busy = busy
walk_idle (Reading slab head) walk busy = walk
walk_idle (Granting slab head below) walk busy = walk
walk_idle (Resting slab unit) walk busy = walk
walk_idle (Blocking unit first granules) walk busy = walk

-- and then it has nothing to do with mail and orphans
pub record NoPost (o : Task) (m : mailing.Task) : Type 0 where
  pub orphan : o ≡ Task.Away
  pub mail : m ≡ mailing.Task.Away

mail_idle : (m : mailing.Task) (q : objects.Task) → IsBusy q → MailTies m q → m ≡ mailing.Task.Away
mail_idle mailing.Task.Away q busy ties = refl
mail_idle (mailing.Task.Mailing e at) q busy ties = absurd (away_idle q ties busy)
mail_idle (mailing.Task.Fetching class BoxAt.Take) q busy ties = absurd (away_idle q ties busy)
mail_idle (mailing.Task.Fetching class (BoxAt.Next e)) q busy ties = absurd (away_idle q ties busy)
mail_idle (mailing.Task.Fetching class (BoxAt.Settle e rest)) q busy ties = absurd (away_idle q ties busy)
mail_idle (mailing.Task.Fetching class (BoxAt.Join e rest at)) q busy ties = absurd (join_idle e at q ties busy)
mail_idle (mailing.Task.Beginning e class) q busy ties = absurd (away_idle q ties busy)
mail_idle (mailing.Task.Settled e class) q busy ties = absurd (away_idle q ties busy)

post_idle : (o : Task) (m : mailing.Task) (q : objects.Task) → IsBusy q → TiesFit o m q → NoPost o m
post_idle Task.Away m q busy ties = record { orphan = refl; mail = mail_idle m q busy ties }
post_idle (Task.Leaving e at) m q busy ties = absurd (away_idle q ties.1 busy)
post_idle (Task.Adopting class at) m q busy ties = absurd (away_idle q ties.1 busy)
post_idle (Task.Joining class e rest) m q busy ties = absurd (join_idle e JoinAt.Take q ties.1 busy)
post_idle (Task.Resting class rest) m q busy ties = absurd (walk_idle q ties.1 busy)
post_idle (Task.Returning class e at) m q busy ties = absurd (away_idle q ties.1 busy)
post_idle (Task.Owning e) m q busy ties = absurd (away_idle q ties.1 busy)

pub busy_at : (k : Key) (t : ℕ) (w : Whole) (q : objects.Task) → w.pool.locals.tasks t ≡ q → IsBusy q → WholeGood k w
    → NoPost (w.tasks t) (w.mails t)
busy_at k t w q is busy good = post_idle (w.tasks t) (w.mails t) q busy
    (subst (λ z. TiesFit (w.tasks t) (w.mails t) z) is (good.post.ties t))

-- whatever it does next, but for joins
pub idle_ties : (o : Task) (m : mailing.Task) (q : objects.Task) → NoPost o m → IsNoJoin q → TiesFit o m q
idle_ties o m q none is = subst (λ x. TiesFit x m q) (sym none.orphan)
    (subst (λ x. TiesFit Task.Away x q) (sym none.mail) is)

-- the step to mail and orphans
pub post_one : (k : Key) (t : ℕ) (w : Whole) (later : Pool) → PoolRun k w.pool later
    → OrphanRun k w.ways w.pool.mem (locals_of (post_of w)) w.ways later.mem
    (record (locals_of (post_of w)) { book = later.locals.book })
    → ((o : ℕ) → o ≢ t → later.locals.tasks o ≡ w.pool.locals.tasks o)
    → TiesFit (w.tasks t) (w.mails t) (later.locals.tasks t) → PostRun k (post_of w) (post_of (with_pool later w))
post_one k t w later run orphans stay ties = PostRun.steps PostRun.starts t
    (PostStep.together (post_of (with_pool later w)) run orphans
    (record { objects = stay; mails = λ o ne. refl; orphans = λ o ne. refl }) ties)

-- what a step on objects or slabs is to mail and orphans, where seat `o` takes it
record Told (k : Key) (o : ℕ) (w : Whole) (later : Pool) : Type 0 where
  pub action : Action
  pub writes : Writing (Between 0 1) action
  pub so : later.mem ≡ after k w.pool.mem action
  pub orphans : OrphanRun k w.ways w.pool.mem (locals_of (post_of w)) w.ways later.mem
      (record (locals_of (post_of w)) { book = later.locals.book })
  pub stay : (s : ℕ) → s ≢ o → later.locals.tasks s ≡ w.pool.locals.tasks s
  pub ties : TiesFit (w.tasks o) (w.mails o) (later.locals.tasks o)

pub word_run : (k : Key) (w : Whole) (action : Action) → Writing (Between 0 1) action
    → OrphanRun k w.ways w.pool.mem (locals_of (post_of w)) w.ways (after k w.pool.mem action) (locals_of (post_of w))
word_run k w action is = OrphanRun.steps OrphanRun.starts (orphan_word k w.ways w.pool.mem (locals_of (post_of w))
    (Between 0 1) action (no_mail 0 1 (inl (omega arith)) (inl (omega arith))) is)

-- the book is the same
pub same_book : (k : Key) (w : Whole) (action : Action) (b : Book) → Writing (Between 0 1) action
    → b ≡ w.pool.locals.book
    → OrphanRun k w.ways w.pool.mem (locals_of (post_of w)) w.ways (after k w.pool.mem action)
    (record (locals_of (post_of w)) { book = b })
same_book k w action b is same = subst (λ (x : Book). OrphanRun k w.ways w.pool.mem (locals_of (post_of w)) w.ways
    (after k w.pool.mem action) (record (locals_of (post_of w)) { book = x })) (sym same) (word_run k w action is)

-- the record of one slab that the seat keeps is another
pub record_so : (k : Key) (t e : ℕ) (w : Whole) (action : Action) (b : Book) → Writing (Between 0 1) action
    → w.pool.locals.book.keeper e ≡ Keeper.By t → NoPost (w.tasks t) (w.mails t)
    → RecordOnly e w.pool.locals.book b
    → OrphanRun k w.ways w.pool.mem (locals_of (post_of w)) w.ways (after k w.pool.mem action)
    (record (locals_of (post_of w)) { book = b })
record_so k t e w action b is kept none only = OrphanRun.steps (word_run k w action is) (OrphanStep.records t e b kept
    (λ leaving. subst (λ q. orphaning.IsLeaving q e) none.orphan leaving) only)

abbrev pub record_with : Book → ℕ → ℕ → ℕ → Option ℕ → HeapSlab
record_with b x handed n head = record { slab = x; class = b.classes x; handed = handed; count = n; head = head }

freed_only : (e unit : ℕ) (b : Book) → RecordOnly e b (with_freed e unit b)
freed_only e unit b = record {
  keeper = refl;
  classes = refl;
  else = λ x ne. ap (λ n. record_with b x (b.handed x) n (put b.heads e (Some unit) x))
      (put-other b.counts e (b.counts e - 1) x ne)
      ∙ ap (λ h. record_with b x (b.handed x) (b.counts x) h) (put-other b.heads e (Some unit) x ne);
}

private_only : (e : ℕ) (below : Option ℕ) (b : Book) → RecordOnly e b (with_private_taken e below b)
private_only e below b = record {
  keeper = refl;
  classes = refl;
  else = λ x ne. ap (λ n. record_with b x (b.handed x) n (put b.heads e below x))
      (put-other b.counts e (b.counts e + 1) x ne)
      ∙ ap (λ h. record_with b x (b.handed x) (b.counts x) h) (put-other b.heads e below x ne);
}

rest_only : (e : ℕ) (b : Book) → RecordOnly e b (with_rest_taken e b)
rest_only e b = record {
  keeper = refl;
  classes = refl;
  else = λ x ne. ap (λ n. record_with b x (put b.handed e (b.handed e + 1) x) n (b.heads x))
      (put-other b.counts e (b.counts e + 1) x ne)
      ∙ ap (λ h. record_with b x h (b.counts x) (b.heads x)) (put-other b.handed e (b.handed e + 1) x ne);
}

-- looks
look_on : (call : LookCall) (at : LookAt) → Writing (Between 0 1) (look_course call at)
look_on call LookAt.Region = tt
look_on call (LookAt.Mark u) = tt
look_on call (LookAt.Again u m) = tt
look_on call (LookAt.Kind u m) = tt
look_on call (LookAt.Odd u m) = tt
look_on call (LookAt.Base u m kind) = tt
look_on call (LookAt.Second u m kind base) = tt
look_on call (LookAt.Gone m) = tt

looked_book : (o : ℕ) (call : LookCall) (next : LookNext) (l : Locals) → (looked o call next l).book ≡ l.book
looked_book o call (LookNext.Goes at) l = refl
looked_book o call (LookNext.Held unit mark kind base) l = refl
looked_book o call LookNext.Differs l = refl
looked_book o call (LookNext.NotHeld f) l = refl

looked_others : (o : ℕ) (call : LookCall) (next : LookNext) (l : Locals) (s : ℕ) → s ≢ o
    → (looked o call next l).tasks s ≡ l.tasks s
looked_others o call (LookNext.Goes at) l s ne = put-other l.tasks o (Looking call at) s ne
looked_others o call (LookNext.Held unit mark kind base) l s ne = put-other l.tasks o Away s ne
looked_others o call LookNext.Differs l s ne = put-other l.tasks o Away s ne
looked_others o call (LookNext.NotHeld f) l s ne = put-other l.tasks o Away s ne

pub no_join : (o : ℕ) (tasks : ℕ → objects.Task) (q : objects.Task) → IsNoJoin q → IsNoJoin (put tasks o q o)
no_join o tasks q is = subst IsNoJoin (sym (put-same tasks o q)) is

looked_next : (o : ℕ) (call : LookCall) (next : LookNext) (l : Locals) → IsNoJoin ((looked o call next l).tasks o)
looked_next o call (LookNext.Goes at) l = no_join o l.tasks (Looking call at) tt
looked_next o call (LookNext.Held unit mark kind base) l = no_join o l.tasks Away tt
looked_next o call LookNext.Differs l = no_join o l.tasks Away tt
looked_next o call (LookNext.NotHeld f) l = no_join o l.tasks Away tt

-- ends of grants
end_on : (call : EndCall) (at : EndAt) → Writing (Between 0 1) (end_course call at)
end_on call EndAt.Own = (omega arith, omega arith)
end_on call EndAt.Other = (omega arith, omega arith)
end_on call EndAt.Large = (omega arith, omega arith)
end_on call (EndAt.Lost m) = tt

ended_book : (o : ℕ) (call : EndCall) (kind : Kind) (next : EndNext) (l : Locals) → IsPlainEnd next
    → (ended o call kind next l).book ≡ l.book
ended_book o call kind (EndNext.Goes at) l plain = refl
ended_book o call kind EndNext.Own l plain = absurd plain
ended_book o call kind EndNext.Other l plain = refl
ended_book o call kind EndNext.Large l plain = refl
ended_book o call kind (EndNext.NotHeld f) l plain = refl

ended_others : (o : ℕ) (call : EndCall) (kind : Kind) (next : EndNext) (l : Locals) (s : ℕ) → s ≢ o
    → (ended o call kind next l).tasks s ≡ l.tasks s
ended_others o call kind (EndNext.Goes at) l s ne = put-other l.tasks o _ s ne
ended_others o call kind EndNext.Own l s ne = put-other l.tasks o Away s ne
ended_others o call kind EndNext.Other l s ne = put-other l.tasks o _ s ne
ended_others o call kind EndNext.Large l s ne = put-other l.tasks o Away s ne
ended_others o call kind (EndNext.NotHeld f) l s ne = put-other l.tasks o Away s ne

ended_next : (o : ℕ) (call : EndCall) (kind : Kind) (next : EndNext) (l : Locals)
    → IsNoJoin ((ended o call kind next l).tasks o)
ended_next o call kind (EndNext.Goes at) l = no_join o l.tasks (Ending call kind at) tt
ended_next o call kind EndNext.Own l = no_join o l.tasks Away tt
ended_next o call kind EndNext.Other l = no_join o l.tasks (Posting _ _) tt
ended_next o call kind EndNext.Large l = no_join o l.tasks Away tt
ended_next o call kind (EndNext.NotHeld f) l = no_join o l.tasks Away tt

-- a grant that is ended so is one of an object in a slab that the seat keeps
own_by : (b : Book) (seat f : ℕ) (call : EndCall) (kind : Kind) (at : EndAt) → end_learn call at f ≡ EndNext.Own
    → EndFits b seat call.unit call.head kind at → b.keeper (slab_of call.unit) ≡ Keeper.By seat
own_by b t f call kind EndAt.Own is fits = fits.1
own_by b t f call kind EndAt.Other is fits = by (eqb f call.mark) is
  where
    by : (c : Bool) → cond c EndNext.Other (EndNext.Goes (EndAt.Lost f)) ≡ EndNext.Own
        → b.keeper (slab_of call.unit) ≡ Keeper.By t
    by true q = absurd (cc)
    by false q = absurd (cc)
own_by b t f call kind EndAt.Large is fits = by (eqb f call.mark) is
  where
    by : (c : Bool) → cond c EndNext.Large (EndNext.Goes (EndAt.Lost f)) ≡ EndNext.Own
        → b.keeper (slab_of call.unit) ≡ Keeper.By t
    by true q = absurd (cc)
    by false q = absurd (cc)
own_by b t f call kind (EndAt.Lost m) is fits = absurd (cc)

pub object_at : (k : Key) (t : ℕ) (w : Whole) (q : objects.Task) → w.pool.locals.tasks t ≡ q → WholeGood k w
    → parts.TaskFits k w.pool.objects (objects.core_in w.pool.mem w.pool.locals) t q
object_at k t w q is good = object_fits_at k w.pool.objects (objects.core_in w.pool.mem w.pool.locals) t q is
    good.shelf.pool.objects

-- a step on one object
object_told : (k : Key) (t : ℕ) (w : Whole) (h : objects.Shadow) (m' : Mem) (l' : Locals)
    → (step : ObjectStep k w.pool.objects w.pool.mem w.pool.locals h m' l')
    → IsPlain k w.pool.objects w.pool.mem w.pool.locals h m' l' step → IsOwnObject t w step → WholeGood k w
    → (o : ℕ) × Told k o w (record w.pool { mem = m'; objects = h; locals = l' })
object_told k t w h m' l' (ObjectStep.looks o call at is) plain own good =
    let action = look_course call at in
    let next = look_learn call at (found w.pool.mem action) in (
      o,
      record {
        action = action;
        writes = look_on call at;
        so = refl;
        orphans = same_book k w action l'.book (look_on call at) (looked_book o call next w.pool.locals);
        stay = looked_others o call next w.pool.locals;
        ties = idle_ties (w.tasks o) (w.mails o) (l'.tasks o) (busy_at k o w (Looking call at) is tt good)
            (looked_next o call next w.pool.locals);
      },
    )
object_told k t w h m' l' (ObjectStep.ends o call kind at few is) plain own good =
    let action = end_course call at in
    let next = end_learn call at (found w.pool.mem action) in (
      o,
      record {
        action = action;
        writes = end_on call at;
        so = refl;
        orphans = same_book k w action l'.book (end_on call at) (ended_book o call kind next w.pool.locals plain);
        stay = ended_others o call kind next w.pool.locals;
        ties = idle_ties (w.tasks o) (w.mails o) (l'.tasks o) (busy_at k o w (Ending call kind at) is tt good)
            (ended_next o call kind next w.pool.locals);
      },
    )
object_told k t w h m' l' (ObjectStep.posts o call at is) plain own good = absurd own
object_told k t w h m' l' (ObjectStep.joins o e at is) plain own good = absurd own
object_told k t w h m' l' (ObjectStep.reads o e head is) plain own good = (
  o,
  record {
    action = Load (Word.Mark head);
    writes = tt;
    so = refl;
    orphans = word_run k w (Load (Word.Mark head)) tt;
    stay = λ s ne. put-other w.pool.locals.tasks o _ s ne;
    ties = idle_ties (w.tasks o) (w.mails o) (l'.tasks o) (busy_at k o w (Reading e head) is tt good)
        (no_join o w.pool.locals.tasks (Granting e head _) tt);
  },
)
object_told k t w h m' l' (ObjectStep.takes o e head below few is) plain own good = absurd own
object_told k t w h m' l' (ObjectStep.rests o e unit few is) plain own good = absurd own
object_told k t w h m' l' (ObjectStep.readies o unit first granules is can low) plain own good = absurd own
object_told k t w h m' l' (ObjectStep.blocks o unit first granules few is) plain own good = (
  o,
  record {
    action = Store (Word.Mark unit) (grant_word w.pool.locals o);
    writes = (omega arith, omega arith);
    so = refl;
    orphans = word_run k w (Store (Word.Mark unit) (grant_word w.pool.locals o)) (omega arith, omega arith);
    stay = λ s ne. put-other w.pool.locals.tasks o Away s ne;
    ties = idle_ties (w.tasks o) (w.mails o) (l'.tasks o) (busy_at k o w (Blocking unit first granules) is tt good)
        (no_join o w.pool.locals.tasks Away tt);
  },
)
object_told k t w h m' l' (ObjectStep.slab_begins o e class is nobody place low bare) plain own good = absurd own
object_told k t w h m' l' (ObjectStep.slab_ends o e is by none) plain own good = absurd own
object_told k t w h m' l' (ObjectStep.slab_cached o e nobody even low bare) plain own good = absurd own
object_told k t w h m' l' (ObjectStep.slab_uncached o e cached low) plain own good = absurd own
object_told k t w h m' l' (ObjectStep.leaves o e is by) plain own good = absurd own
object_told k t w h m' l' (ObjectStep.comes o chain is orphans) plain own good = absurd own
object_told k t w h m' l' (ObjectStep.goes_back o e is has) plain own good = absurd own
object_told k t w h m' l' (ObjectStep.adopts o e is has) plain own good = absurd own
object_told k t w h m' l' (ObjectStep.closes e low) plain own good = absurd own
object_told k t w h m' l' (ObjectStep.clears e none low) plain own good = absurd own
object_told k t w h m' l' (ObjectStep.begins o task is start fits) plain own good = (
  o,
  record {
    action = Nothing;
    writes = tt;
    so = refl;
    orphans = OrphanRun.starts;
    stay = λ s ne. put-other w.pool.locals.tasks o task s ne;
    ties = idle_ties (w.tasks o) (w.mails o) (l'.tasks o) (record { orphan = own.2.orphan; mail = own.2.mail })
        (no_join o w.pool.locals.tasks task own.1);
  },
)
object_told k t w h m' l' (ObjectStep.forgets o n ns is) plain own good = (
  o,
  record {
    action = Nothing;
    writes = tt;
    so = refl;
    orphans = OrphanRun.starts;
    stay = λ s ne. refl;
    ties = good.post.ties o;
  },
)
object_told k t w h m' l' (ObjectStep.others action other) plain own good = absurd own

pub kind_on : (e v : ℕ) → Writing (Between 0 1) (Store (Word.Kind e) v)
kind_on e v = (omega arith, omega arith)

pub mark_on : (u v : ℕ) → Writing (Between 0 1) (Store (Word.Mark u) v)
mark_on u v = (omega arith, omega arith)

-- a granule is another's, that of no slab with objects before or after
kept_so : (k : Key) (e v : ℕ) (keeper : Keeper) (w : Whole) → (IsThere (w.pool.locals.book.keeper e) → ⊥)
    → (IsThere keeper → ⊥)
    → OrphanRun k w.ways w.pool.mem (locals_of (post_of w)) w.ways (after k w.pool.mem (Store (Word.Kind e) v))
    (record (locals_of (post_of w)) { book = with_keeper e keeper w.pool.locals.book })
kept_so k e v keeper w none now = OrphanRun.steps (word_run k w (Store (Word.Kind e) v) (kind_on e v))
    (OrphanStep.asides (MailStep.cached e keeper none now) tt)

not_there : (q keeper : Keeper) → q ≡ keeper → (IsThere keeper → ⊥) → IsThere q → ⊥
not_there q keeper is none there = none (subst IsThere is there)

-- each step
use_told : (k : Key) (t : ℕ) (w : Whole) (later : Pool) → (step : PoolStep k t w.pool later)
    → IsOwnUse k t w later step → WholeGood k w → (o : ℕ) × Told k o w later
use_told k t w later (PoolStep.guards h m' tasks step keeps same) own good = absurd own
use_told k t w later (PoolStep.objects h m' l' step plain) own good = object_told k t w h m' l' step plain own good
use_told k t w later (PoolStep.frees call kind at few is own') own good =
    let none = busy_at k t w (Ending call kind at) is tt good in
    let action = end_course call at in (
      t,
      record {
        action = action;
        writes = end_on call at;
        so = refl;
        orphans = record_so k t (slab_of call.unit) w action later.locals.book (end_on call at)
            (own_by w.pool.locals.book t (found w.pool.mem action) call kind at own'
            (object_at k t w (Ending call kind at) is good).2) none
            (freed_only (slab_of call.unit) call.unit w.pool.locals.book);
        stay = λ s ne. put-other w.pool.locals.tasks t Away s ne;
        ties = idle_ties (w.tasks t) (w.mails t) (later.locals.tasks t) none
            (no_join t w.pool.locals.tasks Away tt);
      },
    )
use_told k t w later (PoolStep.frees_block call x n at taking few is ends away) own good = (
  t,
  record {
    action = end_course call at;
    writes = end_on call at;
    so = refl;
    orphans = word_run k w (end_course call at) (end_on call at);
    stay = λ s ne. put-other w.pool.locals.tasks t Away s ne;
    ties = idle_ties (w.tasks t) (w.mails t) (later.locals.tasks t)
        (busy_at k t w (Ending call (Kind.Large x n) at) is tt good) (no_join t w.pool.locals.tasks Away tt);
  },
)
use_told k t w later (PoolStep.takes e head below few is) own good =
    let none = busy_at k t w (Granting e head below) is tt good in
    let v = grant_word w.pool.locals t in (
      t,
      record {
        action = Store (Word.Mark head) v;
        writes = mark_on head v;
        so = refl;
        orphans = record_so k t e w (Store (Word.Mark head) v) later.locals.book (mark_on head v)
            (object_at k t w (Granting e head below) is good).0 none (private_only e below w.pool.locals.book);
        stay = λ s ne. put-other w.pool.locals.tasks t Away s ne;
        ties = idle_ties (w.tasks t) (w.mails t) (later.locals.tasks t) none
            (no_join t w.pool.locals.tasks Away tt);
      },
    )
use_told k t w later (PoolStep.rests e unit few is) own good =
    let none = busy_at k t w (Resting e unit) is tt good in
    let v = grant_word w.pool.locals t in (
      t,
      record {
        action = Store (Word.Mark unit) v;
        writes = mark_on unit v;
        so = refl;
        orphans = record_so k t e w (Store (Word.Mark unit) v) later.locals.book (mark_on unit v)
            (object_at k t w (Resting e unit) is good).0 none (rest_only e w.pool.locals.book);
        stay = λ s ne. put-other w.pool.locals.tasks t Away s ne;
        ties = idle_ties (w.tasks t) (w.mails t) (later.locals.tasks t) none
            (no_join t w.pool.locals.tasks Away tt);
      },
    )
use_told k t w later (PoolStep.joins e first last count is) own good = absurd own
use_told k t w later (PoolStep.readies x n unit has away fits low high few) own good =
    let v = kind_word (Kind.Large x n) in (
      t,
      record {
        action = Store (Word.Kind (granule_of unit)) v;
        writes = kind_on (granule_of unit) v;
        so = refl;
        orphans = word_run k w (Store (Word.Kind (granule_of unit)) v) (kind_on (granule_of unit) v);
        stay = λ s ne. put-other w.pool.locals.tasks t (Blocking unit x n) s ne;
        ties = idle_ties (w.tasks t) (w.mails t) (later.locals.tasks t)
            (record { orphan = own.1.orphan; mail = own.1.mail })
            (no_join t w.pool.locals.tasks (Blocking unit x n) tt);
      },
    )
use_told k t w later (PoolStep.slab_begins e class has away even low) own good = absurd own
use_told k t w later (PoolStep.slab_ends e taking free away by none) own good = absurd own
use_told k t w later (PoolStep.slab_cached e has even room) own good =
    let bare = blocks_in_hand_are_bare k w.pool e 2 (Use.Held t Taking.ForUse) good.shelf.pool has.block
    (λ q. absurd (let r : Use.Held t Taking.ForUse ≡ Use.Elsewhere = q in cc)) in
    let v = kind_word Kind.CachedSlab in (
      t,
      record {
        action = Store (Word.Kind e) v;
        writes = kind_on e v;
        so = refl;
        orphans = kept_so k e v (Keeper.Cached t) w
            (not_there (w.pool.locals.book.keeper e) Keeper.Nobody (bare.slabs e (omega arith) (omega arith)) (λ z. z))
            (λ z. z);
        stay = λ s ne. refl;
        ties = good.post.ties t;
      },
    )
use_told k t w later (PoolStep.newest_out e taking free is) own good =
    let v = kind_word Kind.Nothing in (
      t,
      record {
        action = Store (Word.Kind e) v;
        writes = kind_on e v;
        so = refl;
        orphans = kept_so k e v Keeper.Nobody w
            (not_there (w.pool.locals.book.keeper e) (Keeper.Cached t)
            (cached_by k w.pool t e (length (w.pool.cached t).items - 1) is good.shelf.pool) (λ z. z)) (λ z. z);
        stay = λ s ne. refl;
        ties = good.post.ties t;
      },
    )
use_told k t w later (PoolStep.oldest_out e taking free is) own good =
    let v = kind_word Kind.Nothing in (
      t,
      record {
        action = Store (Word.Kind e) v;
        writes = kind_on e v;
        so = refl;
        orphans = kept_so k e v Keeper.Nobody w
            (not_there (w.pool.locals.book.keeper e) (Keeper.Cached t) (cached_by k w.pool t e 0 is good.shelf.pool)
            (λ z. z)) (λ z. z);
        stay = λ s ne. refl;
        ties = good.post.ties t;
      },
    )
use_told k t w later (PoolStep.clears e n taking has) own good = absurd own
use_told k t w later (PoolStep.stores_header e by) own good = absurd own
use_told k t w later (PoolStep.leaves e away by header) own good = absurd own
use_told k t w later (PoolStep.comes chain away orphans) own good = absurd own
use_told k t w later (PoolStep.goes_back e away has) own good = absurd own
use_told k t w later (PoolStep.adopts e away has) own good = absurd own
use_told k t w later (PoolStep.shelves x n has) own good = absurd own
use_told k t w later (PoolStep.unshelves x n taking free shelved rests) own good = absurd own

-- no such step moves blocks of the cache or of regions
use_shelf : (k : Key) (t : ℕ) (w : Whole) (later : Pool) → (step : PoolStep k t w.pool later)
    → IsOwnUse k t w later step → LeavesShelf k t w.pool later step
use_shelf k t w later (PoolStep.guards h m' tasks step keeps same) own = tt
use_shelf k t w later (PoolStep.objects h m' l' step plain) own = tt
use_shelf k t w later (PoolStep.frees call kind at few is own') own = tt
use_shelf k t w later (PoolStep.frees_block call x n at taking few is ends away) own = tt
use_shelf k t w later (PoolStep.takes e head below few is) own = tt
use_shelf k t w later (PoolStep.rests e unit few is) own = tt
use_shelf k t w later (PoolStep.joins e first last count is) own = tt
use_shelf k t w later (PoolStep.readies x n unit has away fits low high few) own = tt
use_shelf k t w later (PoolStep.slab_begins e class has away even low) own = tt
use_shelf k t w later (PoolStep.slab_ends e taking free away by none) own = tt
use_shelf k t w later (PoolStep.slab_cached e has even room) own = tt
use_shelf k t w later (PoolStep.newest_out e taking free is) own = tt
use_shelf k t w later (PoolStep.oldest_out e taking free is) own = tt
use_shelf k t w later (PoolStep.clears e n taking has) own = tt
use_shelf k t w later (PoolStep.stores_header e by) own = tt
use_shelf k t w later (PoolStep.leaves e away by header) own = tt
use_shelf k t w later (PoolStep.comes chain away orphans) own = tt
use_shelf k t w later (PoolStep.goes_back e away has) own = tt
use_shelf k t w later (PoolStep.adopts e away has) own = tt
use_shelf k t w later (PoolStep.shelves x n has) own = own
use_shelf k t w later (PoolStep.unshelves x n taking free shelved rests) own = own

use_regions : (k : Key) (t : ℕ) (w : Whole) (later : Pool) → (step : PoolStep k t w.pool later)
    → IsOwnUse k t w later step → LeavesRegions k t w.pool later step
use_regions k t w later (PoolStep.guards h m' tasks step keeps same) own = absurd own
use_regions k t w later (PoolStep.objects h m' l' step plain) own = tt
use_regions k t w later (PoolStep.frees call kind at few is own') own = tt
use_regions k t w later (PoolStep.frees_block call x n at taking few is ends away) own = tt
use_regions k t w later (PoolStep.takes e head below few is) own = tt
use_regions k t w later (PoolStep.rests e unit few is) own = tt
use_regions k t w later (PoolStep.joins e first last count is) own = tt
use_regions k t w later (PoolStep.readies x n unit has away fits low high few) own = tt
use_regions k t w later (PoolStep.slab_begins e class has away even low) own = tt
use_regions k t w later (PoolStep.slab_ends e taking free away by none) own = tt
use_regions k t w later (PoolStep.slab_cached e has even room) own = tt
use_regions k t w later (PoolStep.newest_out e taking free is) own = tt
use_regions k t w later (PoolStep.oldest_out e taking free is) own = tt
use_regions k t w later (PoolStep.clears e n taking has) own = tt
use_regions k t w later (PoolStep.stores_header e by) own = tt
use_regions k t w later (PoolStep.leaves e away by header) own = tt
use_regions k t w later (PoolStep.comes chain away orphans) own = tt
use_regions k t w later (PoolStep.goes_back e away has) own = tt
use_regions k t w later (PoolStep.adopts e away has) own = tt
use_regions k t w later (PoolStep.shelves x n has) own = tt
use_regions k t w later (PoolStep.unshelves x n taking free shelved rests) own = tt

use_loose : (k : Key) (t : ℕ) (w : Whole) (later : Pool) → (step : PoolStep k t w.pool later)
    → IsOwnUse k t w later step → IsOfUses k t (space_of w) later step
use_loose k t w later (PoolStep.guards h m' tasks step keeps same) own = own
use_loose k t w later (PoolStep.objects h m' l' step plain) own = tt
use_loose k t w later (PoolStep.frees call kind at few is own') own = tt
use_loose k t w later (PoolStep.frees_block call x n at taking few is ends away) own = tt
use_loose k t w later (PoolStep.takes e head below few is) own = tt
use_loose k t w later (PoolStep.rests e unit few is) own = tt
use_loose k t w later (PoolStep.joins e first last count is) own = tt
use_loose k t w later (PoolStep.readies x n unit has away fits low high few) own = own.0
use_loose k t w later (PoolStep.slab_begins e class has away even low) own = absurd own
use_loose k t w later (PoolStep.slab_ends e taking free away by none) own = tt
use_loose k t w later (PoolStep.slab_cached e has even room) own = own
use_loose k t w later (PoolStep.newest_out e taking free is) own = tt
use_loose k t w later (PoolStep.oldest_out e taking free is) own = tt
use_loose k t w later (PoolStep.clears e n taking has) own = tt
use_loose k t w later (PoolStep.stores_header e by) own = tt
use_loose k t w later (PoolStep.leaves e away by header) own = tt
use_loose k t w later (PoolStep.comes chain away orphans) own = tt
use_loose k t w later (PoolStep.goes_back e away has) own = tt
use_loose k t w later (PoolStep.adopts e away has) own = tt
use_loose k t w later (PoolStep.shelves x n has) own = absurd own
use_loose k t w later (PoolStep.unshelves x n taking free shelved rests) own = tt

pub widened : (action : Action) → Writing (Between 0 1) action → Writing (Between 0 5) action
widened (Load w) is = tt
widened (Store w v) is = let b = is.1 in (is.0, omega (arith, b))
widened (Swap w v) is = let b = is.1 in (is.0, omega (arith, b))
widened (Exchange w from to) is = let b = is.1 in (is.0, omega (arith, b))
widened (Add w v) is = let b = is.1 in (is.0, omega (arith, b))
widened (TakeOffice job) is = tt
widened GiveOffice is = tt
widened Nothing is = tt

pub uses_move : (k : Key) (t : ℕ) (w : Whole) (later : Pool) → (step : PoolStep k t w.pool later)
    → IsOwnUse k t w later step → IsFree w t → WholeGood k w → Moves k w (with_pool later w)
uses_move k t w later step own free good =
    let both = use_told k t w later step own good in
    let told = both.1 in
    let tells = tells_use k t w w.pool later step (use_shelf k t w later step own) (use_regions k t w later step own)
    (use_loose k t w later step own) free told.action (widened told.action told.writes) told.so (tells_none k t w) in
    record {
      shelf = tells.shelf;
      regions = tells.regions;
      free = tells.free;
      post = post_one k both.0 w later tells.run told.orphans told.stay told.ties;
    }
