-- What was given back stands once in the lists of its slab, and the slab is on its way to its keeper.
use Rattle.std.proofs.Common.{◌≡◌, ◌≢◌, ℕ, ◌+◌, cond, eqb, [], refl, sym, ap, subst, arith, ◌∙◌}
use Rattle.std.proofs.lemmas.Bool.Decides.{nat_tests}
use Rattle.pool_words.specs.declared.words.Key.{Key}
use Rattle.pool_words.specs.Words.{mailbox_at}
use Rattle.word_codes.specs.declared.publics.Public.{Public}
use Rattle.public_list.specs.declared.joining.JoinAt.{JoinAt}
use Rattle.chain_laws.specs.Chains.{tally}
use Rattle.slab_laws.specs.Books.{Keeper}
use Rattle.slab_laws.specs.Heaps.{slab_of}
use Rattle.object_laws.specs.Objects as objects
use Rattle.object_laws.specs.Objects.{Held, IsOut, links_in}
use Rattle.object_laws.specs.Objects.Task.{Joining}
use Rattle.object_laws.specs.Parts.{in_slab, is_private, is_listed, IsPublicChain}
use Rattle.mail_laws.specs.Mail as mailing
use Rattle.mail_laws.specs.Mail.{Mail, IsKept, IsAdopter, IsFilled, MailFits, IsMailing, box_of, is_boxed, is_taken}
use Rattle.mail_laws.proofs.Seats as mailed
use Rattle.orphan_laws.specs.Orphans.{Task, Core, mail_core, is_orphan, is_adopting, IsJoining}
use Rattle.post_laws.specs.Posts.{Post, words_of, PostGood}
use Rattle.post_laws.specs.Laws.{IsBack, StandsOnce, IsFetching, IsUnderWay, GivenBackIsNotLost}
use Rattle.post_laws.proofs.Premises.{ties_at, mailing_owes}

back_out : (h : Held) → IsBack h → IsOut h
back_out Held.NotOut back = absurd back
back_out Held.Private back = tt
back_out Held.Listed back = tt
back_out (Held.Object g) back = absurd back
back_out (Held.InHand t) back = absurd back
back_out (Held.Ready t x n) back = absurd back
back_out (Held.Large g x n) back = absurd back

back_one : (h : Held) → IsBack h → is_private h + is_listed h ≡ 1
back_one Held.NotOut back = absurd back
back_one Held.Private back = refl
back_one Held.Listed back = refl
back_one (Held.Object g) back = absurd back
back_one (Held.InHand t) back = absurd back
back_one (Held.Ready t x n) back = absurd back
back_one (Held.Large g x n) back = absurd back

slab_here : (u n : ℕ) → in_slab (slab_of u) u n ≡ n
slab_here u n = grind (arith, nat_tests)

slab_else : (e u n : ℕ) → e ≢ slab_of u → in_slab e u n ≡ 0
slab_else e u n ne = grind (arith, nat_tests)

pub stands_once : (k : Key) (p : Post) (u : ℕ) → PostGood k p → IsBack (p.pool.objects.held u) → StandsOnce p u
stands_once k p u good back =
    let small = good.pool'.objects in
    let held = p.pool.objects.held u in
    let one = back_one held back in
    record {
      slab = (small.out_fits.in_slab u (back_out held back)).0;
      here = let a = small.privates_once (slab_of u) u ∙ slab_here u (is_private held) in
          let b = small.listed_once (slab_of u) u ∙ slab_here u (is_listed held) in omega arith;
      else = λ e ne. let a = small.privates_once e u ∙ slab_else e u (is_private held) ne in
          let b = small.listed_once e u ∙ slab_else e u (is_listed held) ne in omega arith;
    }

-- the public word of a slab on whose public list an object stands
filled_by : (k : Key) (p : Post) (u : ℕ) → PostGood k p → p.pool.objects.held u ≡ Held.Listed
    → IsFilled ((words_of p).publics (slab_of u))
filled_by k p u good is = by ((words_of p).publics e) (good.pool'.objects.public_chains e)
  where
    e : ℕ
    e = slab_of u

    on : tally u (p.pool.objects.listed e) ≡ 1
    on = good.pool'.objects.listed_once e u ∙ slab_here u (is_listed (p.pool.objects.held u)) ∙ ap is_listed is

    none : p.pool.objects.listed e ≡ [] → ⊥
    none empty = let one = on in let z = ap (tally u) empty in omega arith

    by : (q : Public) → IsPublicChain (links_in (objects.core_in p.pool.mem p.pool.locals).marks) q
        (p.pool.objects.listed e) → IsFilled q
    by Public.Null empty = absurd (none empty)
    by Public.Unusable empty = absurd (none empty)
    by (Public.Filled v) chain = tt

kept_by : (q : Keeper) → IsKept q → (t : ℕ) × (q ≡ Keeper.By t)
kept_by Keeper.Nobody is = absurd is
kept_by (Keeper.By t) is = (t, refl)
kept_by Keeper.Orphan is = absurd is
kept_by (Keeper.Adopting t) is = absurd is
kept_by (Keeper.Cached t) is = absurd is

here_once : (n c : ℕ) → cond (eqb n n) c 0 ≡ c
here_once n c = grind (arith, nat_tests)

-- where the slab is
pub is_under_way : (k : Key) (p : Post) (e : ℕ) → PostGood k p → IsFilled ((words_of p).publics e) → IsUnderWay p e
is_under_way k p e good filled = by (p.ways.mail.mail e) refl (good.orphans.mail.words e)
  where
    s : Core
    s = words_of p

    keeper : Keeper
    keeper = p.pool.locals.book.keeper e

    class : ℕ
    class = p.pool.locals.book.classes e

    owed : (t : ℕ) → p.ways.mail.mail e ≡ Mail.Owed t → IsUnderWay p e
    owed t is = IsUnderWay.owed t (good.orphans.mail.duties e t is)
        (λ o mine. let q : Mail.Owed t ≡ Mail.Owed o = sym is ∙ mailing_owes k p o e good mine in cc)

    boxed : (t : ℕ) → keeper ≡ Keeper.By t → p.ways.mail.mail e ≡ Mail.Boxed → IsUnderWay p e
    boxed t by is = IsUnderWay.boxed t by (good.orphans.mail.boxed_once (mailbox_at t class) e
        ∙ ap (λ q. cond (eqb (box_of q class) (mailbox_at t class)) (is_boxed (p.ways.mail.mail e)) 0) by
        ∙ here_once (mailbox_at t class) (is_boxed (p.ways.mail.mail e)) ∙ ap is_boxed is)

    fetching : (t : ℕ) (q : mailing.Task) → p.mails t ≡ q → tally e (p.ways.mail.fetched t) ≡ 1 → IsFetching q
    fetching t q same one = case_of q same
      where
        some : p.ways.mail.fetched t ≡ [] → ⊥
        some empty = let z = ap (tally e) empty in omega arith

        case_of : (q : mailing.Task) → p.mails t ≡ q → IsFetching q
        case_of mailing.Task.Away same =
            absurd (some (mailed.fits_at k p.ways.mail (mail_core s) t mailing.Task.Away same good.orphans.mail))
        case_of (mailing.Task.Mailing x at) same = absurd (some
            (mailed.fits_at k p.ways.mail (mail_core s) t (mailing.Task.Mailing x at) same good.orphans.mail).1)
        case_of (mailing.Task.Fetching c at) same = tt
        case_of (mailing.Task.Beginning x c) same = absurd (some
            (mailed.fits_at k p.ways.mail (mail_core s) t (mailing.Task.Beginning x c) same good.orphans.mail).none)
        case_of (mailing.Task.Settled x c) same = absurd (some
            (mailed.fits_at k p.ways.mail (mail_core s) t (mailing.Task.Settled x c) same good.orphans.mail).0.none)

    fetched : (t : ℕ) → keeper ≡ Keeper.By t → p.ways.mail.mail e ≡ Mail.Taken t → IsUnderWay p e
    fetched t by is =
        let one = good.orphans.mail.fetched_once t e ∙ ap (is_taken t) is ∙ here_once t 1 in
        IsUnderWay.fetched t by one (fetching t (p.mails t) refl one)

    joins : (t : ℕ) (q : Task) → p.tasks t ≡ q → IsJoining q e → p.pool.locals.tasks t ≡ Joining e JoinAt.Take
    joins t Task.Away same mine = absurd mine
    joins t (Task.Leaving x at) same mine = absurd mine
    joins t (Task.Adopting c at) same mine = absurd mine
    joins t (Task.Joining c x rest) same mine =
        subst (λ y. p.pool.locals.tasks t ≡ Joining y JoinAt.Take) (sym mine)
        (ties_at k p t (Task.Joining c x rest) good same).1
    joins t (Task.Resting c rest) same mine = absurd mine
    joins t (Task.Returning c x at) same mine = absurd mine
    joins t (Task.Owning x) same mine = absurd mine

    adopted : (t : ℕ) → (q : Keeper) → keeper ≡ q → IsAdopter t q → p.ways.mail.mail e ≡ Mail.Adopted t
        → IsUnderWay p e
    adopted t Keeper.Nobody same mine is = absurd mine
    adopted t (Keeper.By o) same mine is =
        let by : keeper ≡ Keeper.By t = same ∙ ap Keeper.By mine in
        let joining = (good.orphans.duties e t).1 is by in
        IsUnderWay.adopted t by joining (joins t (p.tasks t) refl joining)
    adopted t Keeper.Orphan same mine is = absurd mine
    adopted t (Keeper.Adopting o) same mine is =
        let has : keeper ≡ Keeper.Adopting t = same ∙ ap Keeper.Adopting mine in
        IsUnderWay.taken t has (good.orphans.hands_once t e ∙ ap (is_adopting t) has ∙ here_once t 1)
    adopted t (Keeper.Cached o) same mine is = absurd mine

    by : (m : Mail) → p.ways.mail.mail e ≡ m → MailFits (p.ways.mail.mail e) keeper class (s.publics e) (s.nexts e)
        → IsUnderWay p e
    by m is fits = case_of m is (subst (λ q. MailFits q keeper class (s.publics e) (s.nexts e)) is fits)
      where
        null : s.publics e ≡ Public.Null → ⊥
        null z = subst IsFilled z filled

        case_of : (m : Mail) → p.ways.mail.mail e ≡ m → MailFits m keeper class (s.publics e) (s.nexts e)
            → IsUnderWay p e
        case_of Mail.Absent is fits = absurd (null fits.1)
        case_of (Mail.Begun t) is fits = absurd (null fits.1)
        case_of Mail.Rest is fits = absurd (null fits.1)
        case_of (Mail.Owed t) is fits = owed t is
        case_of Mail.Boxed is fits = let kept = kept_by keeper fits.0 in boxed kept.0 kept.1 is
        case_of (Mail.Taken t) is fits = fetched t fits.0 is
        case_of (Mail.Leaving t) is fits = IsUnderWay.leaving t fits.0 ((good.orphans.duties e t).0 is)
        case_of Mail.Left is fits = IsUnderWay.left fits.0 (good.orphans.left_once class e
            ∙ here_once class (is_orphan keeper) ∙ ap is_orphan fits.0)
        case_of (Mail.Adopted t) is fits = adopted t keeper refl fits.0 is

pub given_back_is_not_lost : GivenBackIsNotLost
given_back_is_not_lost k p u good back =
    (stands_once k p u good back, λ is. is_under_way k p (slab_of u) good (filled_by k p u good is))
