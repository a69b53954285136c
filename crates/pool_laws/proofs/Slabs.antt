-- The public list of an adopted slab is taken, walked and joined; and a slab begins, or ends.
use Rattle.std.proofs.Common.{◌≡◌, ◌≢◌, inl, ℕ, ◌+◌, ◌-◌, Option, Some, refl, sym, ap, subst, arith, ◌∙◌}
use Rattle.pool_words.specs.declared.words.Key.{Key}
use Rattle.pool_words.specs.declared.words.Word.{Word}
use Rattle.pool_words.specs.declared.actions.Action.{Action}
use Rattle.pool_words.specs.declared.actions.Action.TheVariants.{Store}
use Rattle.word_codes.specs.declared.kinds.Kind.{Kind}
use Rattle.word_codes.specs.declared.marks.Mark.{Mark}
use Rattle.word_codes.specs.declared.publics.Public.{Public}
use Rattle.word_codes.specs.Kinds.{kind_word}
use Rattle.word_codes.specs.Marks.{mark_of}
use Rattle.word_codes.specs.Places.{slab_granule}
use Rattle.word_codes.specs.Publics.{public_of}
use Rattle.pool_types.specs.Sums.{capped}
use Rattle.guards.specs.declared.win.Taking.{Taking}
use Rattle.public_list.specs.declared.joining.JoinAt.{JoinAt}
use Rattle.public_list.specs.declared.joining.JoinNext.{JoinNext}
use Rattle.public_list.specs.Joining.{join_course, join_learn, join_taken, join_walked}
use Rattle.word_laws.specs.Memory.{put, found}
use Rattle.guard_laws.specs.Blocks as blocks
use Rattle.slab_laws.specs.Books.{Keeper, Book, with_joined}
use Rattle.object_laws.specs.Objects as objects
use Rattle.object_laws.specs.Objects.{Locals}
use Rattle.object_laws.specs.Objects.Task.{Away, Joining}
use Rattle.object_laws.specs.Rows.{joined_as}
use Rattle.object_laws.specs.Steps.{ObjectStep, join_of}
use Rattle.mail_laws.specs.Mail as mailing
use Rattle.mail_laws.specs.Mail.{Mail}
use Rattle.orphan_laws.specs.Orphans as orphaning
use Rattle.orphan_laws.specs.Orphans.{Task, mail_core}
use Rattle.orphan_laws.specs.Steps.{RecordOnly, with_way, OrphanStep, OrphanRun}
use Rattle.use_laws.specs.Pools.{Pool, InHand}
use Rattle.use_laws.specs.After.{pool_joined, pool_begun, pool_ended}
use Rattle.use_laws.specs.Steps.{PoolStep}
use Rattle.free_laws.specs.Steps.{IsLoose}
use Rattle.post_laws.specs.Posts.{Post, locals_of, words_of, IsNoJoin, IsWalk, TiesFit}
use Rattle.post_laws.specs.Steps.{PostStep, PostRun}
use Rattle.pool_laws.specs.Wholes.{Whole, WholeGood, space_of, post_of}
use Rattle.pool_laws.specs.Changes.{with_pool}
use Rattle.pool_laws.specs.Moves.{Moves}
use Rattle.pool_laws.specs.Steps.{IsFree, HasNoObject, pool_back}
use Rattle.pool_laws.proofs.Lifts.{Between, orphan_word, no_mail}
use Rattle.pool_laws.proofs.Told.{Tells, tells_none, tells_use}
use Rattle.pool_laws.proofs.Posted.{join_on}
use Rattle.pool_laws.proofs.Used.{idle_ties, word_run, same_book, object_at, kind_on, record_with}
use Rattle.pool_laws.proofs.Used.{post_one}
use Rattle.pool_laws.proofs.Ended.{ended_null}
use Rattle.pool_laws.proofs.Below.{put-same, put-other, mail_fits_at}

-- what the seat does with the object list next
took_book : (t e : ℕ) (q : Public) (l : Locals) → (joined_as t e (join_taken q) l).book ≡ l.book
took_book t e Public.Null l = refl
took_book t e Public.Unusable l = refl
took_book t e (Public.Filled u) l = refl

walked_book : (t e first at count : ℕ) (q : Mark) (l : Locals)
    → (joined_as t e (join_walked first at count q) l).book ≡ l.book
walked_book t e first at count Mark.Unmarked l = refl
walked_book t e first at count (Mark.Granted g) l = refl
walked_book t e first at count (Mark.Hand o) l = refl
walked_book t e first at count (Mark.Link u) l = refl
walked_book t e first at count Mark.End l = refl
walked_book t e first at count Mark.EndUnusable l = refl

joined_others : (t e : ℕ) (next : JoinNext) (l : Locals) (o : ℕ) → o ≢ t
    → (joined_as t e next l).tasks o ≡ l.tasks o
joined_others t e (JoinNext.Goes at) l o ne = put-other l.tasks t (Joining e at) o ne
joined_others t e JoinNext.Nothing l o ne = put-other l.tasks t Away o ne
joined_others t e (JoinNext.Joined first count) l o ne = put-other l.tasks t Away o ne

walk_put : (t : ℕ) (tasks : ℕ → objects.Task) (q : objects.Task) → IsWalk q → IsWalk (put tasks t q t)
walk_put t tasks q is = subst IsWalk (sym (put-same tasks t q)) is

took_walk : (t e : ℕ) (q : Public) (l : Locals) → IsWalk ((joined_as t e (join_taken q) l).tasks t)
took_walk t e Public.Null l = walk_put t l.tasks Away tt
took_walk t e Public.Unusable l = walk_put t l.tasks Away tt
took_walk t e (Public.Filled u) l = walk_put t l.tasks (Joining e (JoinAt.Walk u u 0)) tt

walked_walk : (t e first at count : ℕ) (q : Mark) (l : Locals)
    → IsWalk ((joined_as t e (join_walked first at count q) l).tasks t)
walked_walk t e first at count Mark.Unmarked l = walk_put t l.tasks (Joining e (JoinAt.Tie first at count)) tt
walked_walk t e first at count (Mark.Granted g) l = walk_put t l.tasks (Joining e (JoinAt.Tie first at count)) tt
walked_walk t e first at count (Mark.Hand o) l = walk_put t l.tasks (Joining e (JoinAt.Tie first at count)) tt
walked_walk t e first at count (Mark.Link u) l = walk_put t l.tasks (Joining e (JoinAt.Walk first u count)) tt
walked_walk t e first at count Mark.End l = walk_put t l.tasks (Joining e (JoinAt.Tie first at count)) tt
walked_walk t e first at count Mark.EndUnusable l = walk_put t l.tasks (Joining e (JoinAt.Tie first at count)) tt

ties_at : (k : Key) (t : ℕ) (w : Whole) (task : Task) → w.tasks t ≡ task → WholeGood k w
    → TiesFit task (w.mails t) (w.pool.locals.tasks t)
ties_at k t w task is good = subst (λ q. TiesFit q (w.mails t) (w.pool.locals.tasks t)) is (good.post.ties t)

-- P5
pub takes_back_move : (k : Key) (t : ℕ) (w : Whole) (class e : ℕ) (rest : Option ℕ)
    → w.tasks t ≡ Task.Joining class e rest → IsFree w t → WholeGood k w
    → Moves k w (record w {
      pool = pool_back k t e JoinAt.Take w.pool;
      ways = with_way e Mail.Rest w.ways;
      tasks = put w.tasks t (Task.Resting class rest);
    })
takes_back_move k t w class e rest is free good = record {
  shelf = tells.shelf;
  regions = tells.regions;
  free = tells.free;
  post = PostRun.steps PostRun.starts t (PostStep.together later tells.run
      (subst (λ (b : Book). OrphanRun k w.ways w.pool.mem (locals_of (post_of w)) (with_way e Mail.Rest w.ways)
      pool.mem (record {
        book = b;
        mails = w.mails;
        tasks = put w.tasks t (Task.Resting class rest);
        spares = w.spares;
      })) (sym (took_book t e public w.pool.locals))
      (OrphanRun.steps OrphanRun.starts (OrphanStep.joins t class e rest is))) (record {
        objects = joined_others t e next w.pool.locals;
        mails = λ o ne. refl;
        orphans = λ o ne. put-other w.tasks t (Task.Resting class rest) o ne;
      })
      (subst (λ q. TiesFit q (w.mails t) (pool.locals.tasks t)) (sym (put-same w.tasks t (Task.Resting class rest)))
      (ties.0, took_walk t e public w.pool.locals)));
}
  where
    action : Action
    action = join_course (join_of w.pool.locals e) JoinAt.Take

    public : Public
    public = public_of (found w.pool.mem action)

    next : JoinNext
    next = join_learn JoinAt.Take (found w.pool.mem action)

    pool : Pool
    pool = pool_back k t e JoinAt.Take w.pool

    later : Post
    later = record (post_of w) {
      pool = pool;
      ways = with_way e Mail.Rest w.ways;
      tasks = put w.tasks t (Task.Resting class rest);
    }

    ties : TiesFit (Task.Joining class e rest) (w.mails t) (w.pool.locals.tasks t)
    ties = ties_at k t w (Task.Joining class e rest) is good

    tells : Tells k t w pool
    tells = tells_use k t w w.pool pool
        (PoolStep.objects pool.objects pool.mem pool.locals (ObjectStep.joins t e JoinAt.Take ties.1) tt) tt tt tt free
        action (join_on (join_of w.pool.locals e) JoinAt.Take) refl (tells_none k t w)

-- M1
pub walks_back_move : (k : Key) (t : ℕ) (w : Whole) (class e first at count : ℕ) (rest : Option ℕ)
    → w.tasks t ≡ Task.Resting class rest → w.pool.locals.tasks t ≡ Joining e (JoinAt.Walk first at count)
    → IsFree w t → WholeGood k w
    → Moves k w (with_pool (pool_back k t e (JoinAt.Walk first at count) w.pool) w)
walks_back_move k t w class e first at count rest is joins free good = record {
  shelf = tells.shelf;
  regions = tells.regions;
  free = tells.free;
  post = post_one k t w pool tells.run
      (same_book k w action pool.locals.book tt (walked_book t e first at (capped (count + 1)) mark w.pool.locals))
      (joined_others t e (join_walked first at (capped (count + 1)) mark) w.pool.locals)
      (subst (λ q. TiesFit q (w.mails t) (pool.locals.tasks t)) (sym is)
      (ties.0, walked_walk t e first at (capped (count + 1)) mark w.pool.locals));
}
  where
    action : Action
    action = join_course (join_of w.pool.locals e) (JoinAt.Walk first at count)

    mark : Mark
    mark = mark_of (found w.pool.mem action)

    pool : Pool
    pool = pool_back k t e (JoinAt.Walk first at count) w.pool

    ties : TiesFit (Task.Resting class rest) (w.mails t) (w.pool.locals.tasks t)
    ties = ties_at k t w (Task.Resting class rest) is good

    tells : Tells k t w pool
    tells = tells_use k t w w.pool pool
        (PoolStep.objects pool.objects pool.mem pool.locals
        (ObjectStep.joins t e (JoinAt.Walk first at count) joins) tt) tt tt tt free action
        (join_on (join_of w.pool.locals e) (JoinAt.Walk first at count)) refl (tells_none k t w)

-- M8
joined_only : (e first count : ℕ) (b : Book) → RecordOnly e b (with_joined e first count b)
joined_only e first count b = record {
  keeper = refl;
  classes = refl;
  else = λ x ne. ap (λ n. record_with b x (b.handed x) n (put b.heads e (Some first) x))
      (put-other b.counts e (b.counts e - count) x ne)
      ∙ ap (λ h. record_with b x (b.handed x) (b.counts x) h) (put-other b.heads e (Some first) x ne);
}

pub ties_back_move : (k : Key) (t : ℕ) (w : Whole) (class e first last count : ℕ) (rest : Option ℕ)
    → w.tasks t ≡ Task.Resting class rest → w.pool.locals.tasks t ≡ Joining e (JoinAt.Tie first last count)
    → IsFree w t → WholeGood k w → Moves k w (with_pool (pool_joined k t e first last count w.pool) w)
ties_back_move k t w class e first last count rest is joins free good = record {
  shelf = tells.shelf;
  regions = tells.regions;
  free = tells.free;
  post = post_one k t w pool tells.run
      (OrphanRun.steps (word_run k w action (omega arith, omega arith)) (OrphanStep.records t e pool.locals.book
      (object_at k t w (Joining e (JoinAt.Tie first last count)) joins good)
      (λ leaving. subst (λ q. orphaning.IsLeaving q e) is leaving)
      (joined_only e first count w.pool.locals.book)))
      (joined_others t e (JoinNext.Joined first count) w.pool.locals)
      (subst (λ q. TiesFit q (w.mails t) (pool.locals.tasks t)) (sym is)
      (ties.0, walk_put t w.pool.locals.tasks Away tt));
}
  where
    action : Action
    action = join_course (join_of w.pool.locals e) (JoinAt.Tie first last count)

    pool : Pool
    pool = pool_joined k t e first last count w.pool

    ties : TiesFit (Task.Resting class rest) (w.mails t) (w.pool.locals.tasks t)
    ties = ties_at k t w (Task.Resting class rest) is good

    tells : Tells k t w pool
    tells = tells_use k t w w.pool pool (PoolStep.joins e first last count joins) tt tt tt free action
        (join_on (join_of w.pool.locals e) (JoinAt.Tie first last count)) refl (tells_none k t w)

-- F8: a new slab
pub slab_begins_move : (k : Key) (t : ℕ) (w : Whole) (e class : ℕ) → w.tasks t ≡ Task.Owning e
    → w.mails t ≡ mailing.Task.Settled e class → InHand w.pool t e 2 Taking.ForUse → IsLoose (space_of w) t e
    → slab_granule e ≡ e → IsFree w t → WholeGood k w
    → Moves k w (record w {
      pool = pool_begun k t e class w.pool;
      ways = with_way e Mail.Rest w.ways;
      mails = put w.mails t mailing.Task.Away;
      tasks = put w.tasks t Task.Away;
    })
slab_begins_move k t w e class is settled has loose even free good = record {
  shelf = tells.shelf;
  regions = tells.regions;
  free = tells.free;
  post = PostRun.steps PostRun.starts t (PostStep.together later tells.run
      (OrphanRun.steps (word_run k w (Store (Word.Kind e) v) (kind_on e v))
      (OrphanStep.slab_begins t e class is settled even)) (record {
        objects = λ o ne. refl;
        mails = λ o ne. put-other w.mails t mailing.Task.Away o ne;
        orphans = λ o ne. put-other w.tasks t Task.Away o ne;
      })
      (idle_ties (put w.tasks t Task.Away t) (put w.mails t mailing.Task.Away t) (w.pool.locals.tasks t) (record {
        orphan = put-same w.tasks t Task.Away;
        mail = put-same w.mails t mailing.Task.Away;
      }) (subst IsNoJoin (sym ties.1) tt)));
}
  where
    v : ℕ
    v = kind_word (Kind.Slab class)

    pool : Pool
    pool = pool_begun k t e class w.pool

    later : Post
    later = record (post_of w) {
      pool = pool;
      ways = with_way e Mail.Rest w.ways;
      mails = put w.mails t mailing.Task.Away;
      tasks = put w.tasks t Task.Away;
    }

    ties : TiesFit (Task.Owning e) (w.mails t) (w.pool.locals.tasks t)
    ties = ties_at k t w (Task.Owning e) is good

    tells : Tells k t w pool
    tells = tells_use k t w w.pool pool
        (PoolStep.slab_begins e class has ties.1 even
        (mail_fits_at k w.ways.mail (mail_core (words_of (post_of w))) t (mailing.Task.Settled e class) settled
        good.post.orphans.mail).0.class') tt tt loose free (Store (Word.Kind e) v) (omega arith, omega arith) refl
        (tells_none k t w)

-- F8: a slab ends
pub slab_ends_move : (k : Key) (t : ℕ) (w : Whole) (e : ℕ) (taking : Taking) → w.pool.tasks t ≡ blocks.Task.Away
    → HasNoObject w t → w.pool.locals.book.keeper e ≡ Keeper.By t → w.pool.locals.book.counts e ≡ 0
    → (orphaning.IsLeaving (w.tasks t) e → ⊥) → IsFree w t → WholeGood k w
    → Moves k w (record w { pool = pool_ended k t e taking w.pool; ways = with_way e Mail.Absent w.ways })
slab_ends_move k t w e taking guard away by none stays free good = record {
  shelf = tells.shelf;
  regions = tells.regions;
  free = tells.free;
  post = PostRun.steps PostRun.starts t (PostStep.together later tells.run
      (OrphanRun.steps (OrphanRun.steps OrphanRun.starts (OrphanStep.slab_ends t e by
      (ended_null k t w e away by none stays good) stays))
      (orphan_word k (with_way e Mail.Absent w.ways) w.pool.mem (locals_of later) (Between 0 1)
      (Store (Word.Kind e) v) (no_mail 0 1 (inl (omega arith)) (inl (omega arith))) (kind_on e v))) (record {
        objects = λ o ne. refl;
        mails = λ o ne. refl;
        orphans = λ o ne. refl;
      }) (good.post.ties t));
}
  where
    v : ℕ
    v = kind_word Kind.Nothing

    pool : Pool
    pool = pool_ended k t e taking w.pool

    later : Post
    later = record (post_of w) { pool = pool; ways = with_way e Mail.Absent w.ways }

    tells : Tells k t w pool
    tells = tells_use k t w w.pool pool (PoolStep.slab_ends e taking guard away by none) tt tt tt free
        (Store (Word.Kind e) v) (omega arith, omega arith) refl (tells_none k t w)
