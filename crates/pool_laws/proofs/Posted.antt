-- Steps of giving back, of mail and of orphans, which are steps of the pool at once.
use Rattle.std.proofs.Common.{◌≡◌, ℕ, Option, refl, subst, arith}
use Rattle.pool_words.specs.declared.words.Key.{Key}
use Rattle.pool_words.specs.declared.actions.Action.TheVariants.{Nothing}
use Rattle.chain_words.specs.declared.pushing.PushAt.{PushAt}
use Rattle.public_list.specs.declared.joining.JoinCall.{JoinCall}
use Rattle.public_list.specs.declared.joining.JoinAt.{JoinAt}
use Rattle.public_list.specs.declared.posting.PostCall.{PostCall}
use Rattle.public_list.specs.declared.posting.PostAt.{PostAt}
use Rattle.public_list.specs.Joining.{join_course, join_learn}
use Rattle.public_list.specs.Posting.{post_course}
use Rattle.mailbox.specs.declared.boxes.BoxAt.{BoxAt}
use Rattle.mailbox.specs.declared.mailing.MailAt.{MailAt}
use Rattle.mailbox.specs.Mailing.{mail_course}
use Rattle.orphans.specs.declared.adopting.AdoptAt.{AdoptAt}
use Rattle.orphans.specs.declared.leaving.LeaveAt.{LeaveAt}
use Rattle.orphans.specs.declared.leaving.LeaveCall.{LeaveCall}
use Rattle.orphans.specs.Adopting.{adopt_course}
use Rattle.orphans.specs.Leaving.{leave_course}
use Rattle.word_laws.specs.Memory.{after, found}
use Rattle.slab_laws.specs.Books.{Keeper}
use Rattle.object_laws.specs.Objects.Task.{Joining}
use Rattle.object_laws.specs.Rows as rows
use Rattle.object_laws.specs.Steps.{ObjectStep, join_of}
use Rattle.mail_laws.specs.Mail as mailing
use Rattle.mail_laws.specs.Mail.{MailFits}
use Rattle.mail_laws.specs.Steps.{mail_of}
use Rattle.orphan_laws.specs.Orphans.{mail_core}
use Rattle.orphan_laws.specs.Steps.{adopt_of, leave_of, return_of}
use Rattle.use_laws.specs.Pools.{Pool}
use Rattle.use_laws.specs.After.{with_mem, pool_joined, pool_come, pool_adopted, pool_left, pool_gone_back}
use Rattle.use_laws.specs.Steps.{IsPlainJoin, PoolStep}
use Rattle.post_laws.specs.Posts.{Post, TiesFit, PostGood, words_of, locals_of}
use Rattle.post_laws.specs.After.{pool_listed}
use Rattle.post_laws.specs.Steps.{fetch_action, PostStep, PostRun}
use Rattle.pool_laws.specs.Wholes.{Whole, WholeGood, post_of}
use Rattle.pool_laws.specs.Changes.{with_post}
use Rattle.pool_laws.specs.Moves.{Moves}
use Rattle.pool_laws.specs.Steps.{IsFree, IsAtPost}
use Rattle.pool_laws.proofs.Words.{Writing}
use Rattle.pool_laws.proofs.Lifts.{Between}
use Rattle.pool_laws.proofs.Told.{Tells, Mails, tells_none, tells_use, tells_mail}
use Rattle.pool_laws.proofs.Below.{put-same, IsAlone, mail_alone, mail_fits_at, fetched-his}
use Rattle.pool_laws.proofs.Below.{swaps_give_orphans}
use Rattle.pool_laws.proofs.Below.{adopters_have_the_orphan, left_slabs_have_their_record, returners_have_the_orphan}

post_on : (call : PostCall) (at : PostAt) → Writing (Between 0 5) (post_course call at)
post_on call (PostAt.Push PushAt.Look) = tt
post_on call (PostAt.Push (PushAt.Link word)) = (omega arith, omega arith)
post_on call (PostAt.Push (PushAt.Exchange word)) = (omega arith, omega arith)

pub join_on : (call : JoinCall) (at : JoinAt) → Writing (Between 0 5) (join_course call at)
join_on call JoinAt.Take = (omega arith, omega arith)
join_on call (JoinAt.Walk first at count) = tt
join_on call (JoinAt.Tie first last count) = (omega arith, omega arith)

mail_on : (e : ℕ) (at : MailAt) → Mails (mail_course (mail_of e) at)
mail_on e MailAt.Next = Mails.next tt
mail_on e (MailAt.Push key PushAt.Look) = Mails.box tt
mail_on e (MailAt.Push key (PushAt.Link word)) = Mails.next (omega arith, omega arith)
mail_on e (MailAt.Push key (PushAt.Exchange word)) = Mails.box (omega arith, omega arith)

pub push_on : (call : LeaveCall) (at : PushAt) → Mails (leave_course call (LeaveAt.Push at))
push_on call PushAt.Look = Mails.box tt
push_on call (PushAt.Link word) = Mails.next (omega arith, omega arith)
push_on call (PushAt.Exchange word) = Mails.box (omega arith, omega arith)

alone_at : (k : Key) (p : Post) (t class : ℕ) (at : BoxAt) → p.mails t ≡ mailing.Task.Fetching class at → PostGood k p
    → IsAlone (p.tasks t) (mailing.Task.Fetching class at) (p.pool.locals.tasks t)
alone_at k p t class at is good =
    mail_alone (p.tasks t) (mailing.Task.Fetching class at) (p.pool.locals.tasks t) (λ z. cc) (λ x z. z)
    (subst (λ q. TiesFit (p.tasks t) q (p.pool.locals.tasks t)) is (good.ties t))

-- a slab of a mailbox that the seat took is the seat's
settled_kept : (k : Key) (t : ℕ) (p : Post) (class e : ℕ) (rest : Option ℕ)
    → p.mails t ≡ mailing.Task.Fetching class (BoxAt.Settle e rest) → PostGood k p
    → p.pool.locals.book.keeper e ≡ Keeper.By t
settled_kept k t p class e rest is good =
    let s = mail_core (words_of p) in
    let fits = mail_fits_at k p.ways.mail s t (mailing.Task.Fetching class (BoxAt.Settle e rest)) is
    good.orphans.mail in
    let his = fetched-his k p.ways.mail s t e fits.at'.0 fits.at'.1 good.orphans.mail in
    (subst (λ m. MailFits m (s.keeper e) (s.classes e) (s.publics e) (s.nexts e)) his (good.orphans.mail.words e)).0

listed_tells : (k : Key) (t : ℕ) (w : Whole) (class e : ℕ) (rest : Option ℕ) (at : JoinAt) → IsPlainJoin at
    → w.mails t ≡ mailing.Task.Fetching class (BoxAt.Join e rest at) → IsFree w t → WholeGood k w
    → Tells k t w (pool_listed t e at (join_learn at (found w.pool.mem (join_course (join_of w.pool.locals e) at)))
    (after k w.pool.mem (join_course (join_of w.pool.locals e) at)) w.pool)
listed_tells k t w class e rest at plain is free good =
    let action = join_course (join_of w.pool.locals e) at in
    let next = join_learn at (found w.pool.mem action) in
    let later = pool_listed t e at next (after k w.pool.mem action) w.pool in
    tells_use k t w w.pool later
    (PoolStep.objects later.objects later.mem later.locals (ObjectStep.joins t e at
    (alone_at k (post_of w) t class (BoxAt.Join e rest at) is good.post).ties) plain) tt tt tt free action
    (join_on (join_of w.pool.locals e) at) refl (tells_none k t w)

-- the pool after each such step
post_tells : (k : Key) (t : ℕ) (w : Whole) (later : Post) → (step : PostStep k t (post_of w) later)
    → IsAtPost k t (post_of w) later step → IsFree w t → WholeGood k w → Tells k t w later.pool
post_tells k t w later (PostStep.pushes call at is) ok free good =
    tells_use k t w w.pool later.pool
    (PoolStep.objects later.pool.objects later.pool.mem later.pool.locals (ObjectStep.posts t call at is) tt) tt tt tt
    free (post_course call at) (post_on call at) refl (tells_none k t w)
post_tells k t w later (PostStep.mails e at is) ok free good =
    tells_mail k t w w.pool (mail_course (mail_of e) at) free (mail_on e at) (tells_none k t w)
post_tells k t w later (PostStep.takes_box class head is) ok free good =
    tells_mail k t w w.pool (fetch_action t class BoxAt.Take head) free (Mails.box (omega arith, omega arith))
    (tells_none k t w)
post_tells k t w later (PostStep.reads_next class e head is) ok free good = tells_none k t w
post_tells k t w later (PostStep.settles class e rest head is) ok free good =
    let action = fetch_action t class (BoxAt.Settle e rest) head in
    let first : Pool = with_mem (after k w.pool.mem action) w.pool in
    tells_use k t w first later.pool
    (PoolStep.objects first.objects first.mem later.pool.locals (ObjectStep.begins t (Joining e JoinAt.Take)
    (alone_at k (post_of w) t class (BoxAt.Settle e rest) is good.post).ties tt
    (settled_kept k t (post_of w) class e rest is good.post)) tt) tt tt tt free Nothing tt refl
    (tells_mail k t w w.pool action free (Mails.next (omega arith, omega arith)) (tells_none k t w))
post_tells k t w later (PostStep.takes_list class e rest is) ok free good =
    listed_tells k t w class e rest JoinAt.Take tt is free good
post_tells k t w later (PostStep.walks class e rest first at count is) ok free good =
    listed_tells k t w class e rest (JoinAt.Walk first at count) tt is free good
post_tells k t w later (PostStep.ties class e rest first last count is) ok free good =
    tells_use k t w w.pool (pool_joined k t e first last count w.pool)
    (PoolStep.joins e first last count
    (alone_at k (post_of w) t class (BoxAt.Join e rest (JoinAt.Tie first last count)) is good.post).ties) tt tt tt free
    (join_course (join_of w.pool.locals e) (JoinAt.Tie first last count))
    (join_on (join_of w.pool.locals e) (JoinAt.Tie first last count)) refl (tells_none k t w)
post_tells k t w later (PostStep.takes_orphans class is) ok free good =
    let may = swaps_give_orphans k (post_of w) t class good.post is in
    let come = pool_come t (w.ways.left class) w.pool in
    tells_mail k t w come (adopt_course (adopt_of t class) AdoptAt.Take) free (Mails.box (omega arith, omega arith))
    (tells_use k t w w.pool come (PoolStep.comes (w.ways.left class) may.away may.orphans) tt tt tt free Nothing tt refl
    (tells_none k t w))
post_tells k t w later (PostStep.adopts class e header rest is) ok free good =
    let may = adopters_have_the_orphan k (post_of w) t class e header rest good.post is in
    let adopted = pool_adopted t e w.pool in
    let begun : Pool = record adopted { locals = rows.with_task t (Joining e JoinAt.Take) adopted.locals } in
    tells_mail k t w begun (adopt_course (adopt_of t class) (AdoptAt.Own e header rest)) free
    (Mails.own (omega arith, omega arith))
    (tells_use k t w adopted begun (PoolStep.objects adopted.objects adopted.mem begun.locals
    (ObjectStep.begins t (Joining e JoinAt.Take) may.away tt
    (put-same w.pool.locals.book.keeper e (Keeper.By t))) tt) tt tt tt
    free Nothing tt refl
    (tells_use k t w w.pool adopted (PoolStep.adopts e may.away may.has) tt tt tt free Nothing tt refl
    (tells_none k t w)))
post_tells k t w later (PostStep.leaves e at is won) ok free good =
    let may = left_slabs_have_their_record k (post_of w) t e at good.post is in
    let left = pool_left t e w.pool in
    tells_mail k t w left (leave_course (leave_of (locals_of (post_of w)) e) (LeaveAt.Push at)) free
    (push_on (leave_of (locals_of (post_of w)) e) at)
    (tells_use k t w w.pool left (PoolStep.leaves e may.away may.kept may.header) tt tt tt free Nothing tt refl
    (tells_none k t w))
post_tells k t w later (PostStep.returns class e at is won) ok free good =
    let may = returners_have_the_orphan k (post_of w) t class e (LeaveAt.Push at) good.post is in
    let back = pool_gone_back e w.pool in
    tells_mail k t w back (leave_course (return_of class e) (LeaveAt.Push at)) free (push_on (return_of class e) at)
    (tells_use k t w w.pool back (PoolStep.goes_back e may.away may.has) tt tt tt free Nothing tt refl
    (tells_none k t w))
post_tells k t w later (PostStep.together now pool' orphans stay here) ok free good = absurd ok

pub posts_move : (k : Key) (t : ℕ) (w : Whole) (later : Post) → (step : PostStep k t (post_of w) later)
    → IsAtPost k t (post_of w) later step → IsFree w t → WholeGood k w → Moves k w (with_post later w)
posts_move k t w later step ok free good =
    let tells = post_tells k t w later step ok free good in record {
      shelf = tells.shelf;
      regions = tells.regions;
      free = tells.free;
      post = PostRun.steps PostRun.starts t step;
    }
