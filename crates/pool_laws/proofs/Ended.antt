-- Nothing was given back to a slab of which nothing is held, and which its keeper is not about to leave.
use Rattle.std.proofs.Common.{◌≡◌, ℕ, ◌<◌, List, [], ◌∷◌, refl, sym, ap, subst, arith, ◌∙◌}
use Rattle.pool_words.specs.declared.words.Key.{Key}
use Rattle.pool_words.specs.Words.{publics}
use Rattle.word_codes.specs.declared.publics.Public.{Public}
use Rattle.word_codes.specs.Publics.{public_of}
use Rattle.public_list.specs.declared.joining.JoinAt.{JoinAt}
use Rattle.chain_laws.specs.Chains.{Link, tally}
use Rattle.slab_laws.specs.Books.{Keeper, IsThere, record_of}
use Rattle.object_laws.specs.Objects as objects
use Rattle.object_laws.specs.Objects.{Held, IsOut}
use Rattle.object_laws.specs.Objects.Task.{Away, Joining}
use Rattle.object_laws.specs.Parts.{IsPublicChain}
use Rattle.mail_laws.specs.Mail as mailing
use Rattle.mail_laws.specs.Mail.{Mail, MailFits, IsAdopter, IsFilled}
use Rattle.orphan_laws.specs.Orphans.{Task, IsLeaving, IsJoining}
use Rattle.post_laws.specs.Posts.{words_of, TiesFit}
use Rattle.pool_laws.specs.Wholes.{Whole, WholeGood, post_of}
use Rattle.pool_laws.specs.Steps.{HasNoObject}
use Rattle.pool_laws.proofs.Below.{tally-here, listed-there, private-there, slab_is, handed-of}
use Rattle.pool_laws.proofs.Below.{one_slab_by_its_lists}

-- a public word that names an object begins a list
filled_some : (links : ℕ → Link) (q : Public) (us : List ℕ) → IsFilled q → IsPublicChain links q us
    → (u : ℕ) × (0 < tally u us)
filled_some links Public.Null us is chain = absurd is
filled_some links Public.Unusable us is chain = absurd is
filled_some links (Public.Filled first) [] is chain =
    absurd (let q : Link.To first ≡ Link.Ends chain.0 = chain.1 in cc)
filled_some links (Public.Filled first) (x ∷ xs) is chain = (x, let h = tally-here x xs in omega arith)

-- who is about to take what was given back to an adopted slab is about to do that with the slab
join_busy : (e : ℕ) (o : Task) (m : mailing.Task) (q : objects.Task) → TiesFit o m q → q ≡ Away → IsJoining o e → ⊥
join_busy e Task.Away m q ties away joins = joins
join_busy e (Task.Leaving x at) m q ties away joins = joins
join_busy e (Task.Adopting class at) m q ties away joins = joins
join_busy e (Task.Joining class x rest) m q ties away joins =
    let r : Away ≡ Joining x JoinAt.Take = sym away ∙ ties.1 in cc
join_busy e (Task.Resting class rest) m q ties away joins = joins
join_busy e (Task.Returning class x at) m q ties away joins = joins
join_busy e (Task.Owning x) m q ties away joins = joins

by_same : (s t : ℕ) → Keeper.By s ≡ Keeper.By t → s ≡ t
by_same s t is = cc

pub ended_null : (k : Key) (t : ℕ) (w : Whole) (e : ℕ) → HasNoObject w t → w.pool.locals.book.keeper e ≡ Keeper.By t
    → w.pool.locals.book.counts e ≡ 0 → (IsLeaving (w.tasks t) e → ⊥) → WholeGood k w
    → public_of (w.pool.mem publics e) ≡ Public.Null
ended_null k t w e away by none stays good = at (w.ways.mail.mail e) refl (good.post.orphans.mail.words e)
  where
    s : objects.Core
    s = objects.core_in w.pool.mem w.pool.locals

    g : objects.Shadow
    g = w.pool.objects

    q : Public
    q = public_of (w.pool.mem publics e)

    there : IsThere (w.pool.locals.book.keeper e)
    there = subst IsThere (sym by) tt

    -- each object of the slab that was handed out is private, so none is listed
    unfilled : IsFilled q → ⊥
    unfilled is = let some = filled_some (objects.links_in s.marks) q (g.listed e) is
        (good.shelf.pool.objects.public_chains e) in by_one some.0 some.1
      where
        by_one : (u : ℕ) → 0 < tally u (g.listed e) → ⊥
        by_one u some =
            let listed = listed-there g.held g.listed e u good.shelf.pool.objects.listed_once some in
            let handed = handed-of k g s e u good.shelf.pool.objects listed.1 (subst IsOut (sym listed.0) tt) in
            let unused = (one_slab_by_its_lists (record_of s.book e) (g.privates e)
            (slab_is k g s e good.shelf.pool.objects there)).unused none u handed in
            let private = private-there g.held g.privates g.taken e u good.shelf.pool.objects.privates_once
            (omega (arith, unused)) in
            let clash : Held.Listed ≡ Held.Private = sym listed.0 ∙ private.0 in cc

    at : (m : Mail) → w.ways.mail.mail e ≡ m
        → MailFits m (w.pool.locals.book.keeper e) (w.pool.locals.book.classes e) q
        ((words_of (post_of w)).nexts e)
        → q ≡ Public.Null
    at Mail.Absent is fits = absurd (fits.0 there)
    at (Mail.Begun o) is fits = absurd (fits.0 there)
    at Mail.Rest is fits = fits.1
    at (Mail.Owed o) is fits = absurd (unfilled fits.1)
    at Mail.Boxed is fits = absurd (unfilled fits.1)
    at (Mail.Taken o) is fits = absurd (unfilled fits.1)
    at (Mail.Leaving o) is fits = absurd (stays (subst (λ x. IsLeaving (w.tasks x) e)
        (by_same o t (sym fits.0 ∙ by)) ((good.post.orphans.duties e o).0 is)))
    at Mail.Left is fits = absurd (let r : Keeper.Orphan ≡ Keeper.By t = sym fits.0 ∙ by in cc)
    at (Mail.Adopted o) is fits =
        let same : t ≡ o = subst (IsAdopter o) by fits.0 in
        absurd (join_busy e (w.tasks t) (w.mails t) (w.pool.locals.tasks t) (good.post.ties t) away
        ((good.post.orphans.duties e t).1 (is ∙ ap Mail.Adopted (sym same)) by))
