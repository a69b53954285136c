-- What was given back to a slab is taken, walked and joined.
use Rattle.std.proofs.Common.{◌≡◌, ◌≢◌, ℕ, ◌+◌, ◌-◌, ◌^◌, ◌<◌, ◌≤◌, cond, eqb, Some, List, []}
use Rattle.std.proofs.Common.{◌∷◌, ◌++◌, length, length-append, append_assoc, refl, sym, ap, subst, arith, ◌∙◌}
use Rattle.std.proofs.Common.{true, false}
use Rattle.std.proofs.lemmas.Bool.Decides.{nat_tests}
use Rattle.pool_types.specs.declared.values.Grant.{Grant}
use Rattle.pool_words.specs.declared.words.Key.{Key}
use Rattle.word_codes.specs.declared.marks.Mark.{Mark}
use Rattle.word_codes.specs.declared.publics.Public.{Public}
use Rattle.word_codes.specs.declared.kinds.Kind.{Kind}
use Rattle.word_codes.specs.Places.{granule_of}
use Rattle.heap_slabs.specs.Records.{after_join}
use Rattle.public_list.specs.declared.joining.JoinAt.{JoinAt}
use Rattle.word_laws.specs.Memory.{put}
use Rattle.word_laws.proofs.CallerLemmas.{equal_or, read_put}
use Rattle.size_classes.proofs.CallerLemmas.{class_objects-most}
use Rattle.chain_laws.specs.Chains.{Link, IsChain, IsOnce, tally}
use Rattle.chain_laws.specs.Chains.Link.{Other, To, Ends}
use Rattle.chain_laws.proofs.CallerLemmas.{tally-here, tally-append, link_joins_chains, leads-same}
use Rattle.slab_laws.specs.Books.{Keeper, record_of}
use Rattle.slab_laws.specs.Books.{with_joined}
use Rattle.slab_laws.specs.OneSlab.{IsHanded, IsRecord, IsSlabOf}
use Rattle.slab_laws.specs.Heaps.{slab_of}
use Rattle.slab_laws.proofs.CallerLemmas.{book-set, headed_else, headed_here, record-of-slab, joins}
use Rattle.object_laws.specs.Objects.{Held, granted_in, IsOut, Task, Note, mark_link, head_link, links_in}
use Rattle.object_laws.specs.Objects.{Shadow, Core}
use Rattle.object_laws.specs.Objects.Task.{Away, Joining}
use Rattle.object_laws.specs.Parts.{IsNoGrant, MarkFits, LargeFits}
use Rattle.object_laws.specs.Parts.{is_listed, IsFilledChain, IsPublicChain, JoinFits, TakenFits, TaskFits}
use Rattle.object_laws.specs.Parts.{NotesFit, IsInHand, ObjectsGood}
use Rattle.object_laws.specs.Rely.{IsMine, NoReturn}
use Rattle.object_laws.specs.Rely.IsMine.{hand, ready, private}
use Rattle.object_laws.specs.Rows.{taken_back, back_in}
use Rattle.object_laws.specs.Rows.{shadow_joined, tail_of}
use Rattle.slab_laws.proofs.CallerLemmas.{put-same, put-other, each}
use Rattle.object_laws.proofs.Parts.Marks.{marks-mark, mark-back}
use Rattle.object_laws.proofs.Parts.Marks.{grants-fewer}
use Rattle.object_laws.proofs.Parts.Out.{out-back, back-out, out-same}
use Rattle.object_laws.proofs.Parts.Out.{room_for}
use Rattle.object_laws.proofs.Parts.Once.{privates-other, listed-none}
use Rattle.object_laws.proofs.Parts.Once.{privates-taken, listed-taken}
use Rattle.object_laws.proofs.Parts.Once.{privates-joined, private-cases, private-there}
use Rattle.object_laws.proofs.Parts.Chains.{publics-marked}
use Rattle.object_laws.proofs.Parts.Chains.{privates-changed, publics-changed, chain-starts, chain_at, Ahead}
use Rattle.object_laws.proofs.Parts.Chains.Ahead.{on, over}
use Rattle.object_laws.proofs.Parts.Counts.{counts-set}
use Rattle.object_laws.proofs.Seats.{by_other, notes-stay, task-stays, seats_keep, fits_at, taken_at, hand_at}
use Rattle.object_laws.proofs.Turns.{rely_at, own_slab, private-no_other}
use Rattle.object_laws.proofs.Turns.{lasts-same}
use Rattle.object_laws.proofs.Facts.{slab_is, there_of, handed-of}

-- where a taking goes
abbrev pub task_taken : ℕ → Public → Task
task_taken e Public.Null = Away
task_taken e Public.Unusable = Away
task_taken e (Public.Filled first) = Joining e (JoinAt.Walk first first 0)

abbrev pub take_core : ℕ → ℕ → Core → Core
take_core t e s = record s {
  publics = put s.publics e Public.Null;
  tasks = put s.tasks t (task_taken e (s.publics e));
}

back-each : (P : ℕ → Held → Type 0) (e : ℕ) (held : ℕ → Held) → ((x : ℕ) → P x (held x))
    → ((x : ℕ) → P x (taken_back (held x))) → (x : ℕ) → P x (back_in e held x)
back-each P e held as_it_is changed x =
    elim (eqb (slab_of x) e) as (λ b. P x (cond b (taken_back (held x)) (held x)))
    [ true ↦ changed x | false ↦ as_it_is x ]

back-else : (e : ℕ) (held : ℕ → Held) (x : ℕ) → slab_of x ≢ e → back_in e held x ≡ held x
back-else e held x ne = grind (arith, nat_tests)

back-same : (e : ℕ) (held : ℕ → Held) (x : ℕ) (h : Held) → held x ≡ h → taken_back h ≡ h → back_in e held x ≡ held x
back-same e held x h was same =
    elim (eqb (slab_of x) e) as (λ b. cond b (taken_back (held x)) (held x) ≡ held x)
    [ true ↦ ap taken_back was ∙ same ∙ sym was | false ↦ refl ]

mine-stays : (t e o : ℕ) (g : Shadow) (s : Core) → s.book.keeper e ≡ Keeper.By t → o ≢ t → (x : ℕ) → IsMine o g s x
    → back_in e g.held x ≡ g.held x
mine-stays t e o g s by ne x (hand was) = back-same e g.held x (Held.InHand o) was refl
mine-stays t e o g s by ne x (ready y n was) = back-same e g.held x (Held.Ready o y n) was refl
mine-stays t e o g s by ne x (private was is) = back-else e g.held x
    (λ same. by_other (s.book.keeper e) t o by ne (ap s.book.keeper (sym same) ∙ is))

hand-back : (h : Held) (t : ℕ) → taken_back h ≡ Held.InHand t → h ≡ Held.InHand t
hand-back Held.NotOut t e = cc
hand-back Held.Private t e = cc
hand-back Held.Listed t e = cc
hand-back (Held.Object gr) t e = cc
hand-back (Held.InHand o) t e = e
hand-back (Held.Ready o x n) t e = cc
hand-back (Held.Large gr x n) t e = cc

granted-back : (h : Held) → granted_in (taken_back h) ≡ granted_in h
granted-back Held.NotOut = refl
granted-back Held.Private = refl
granted-back Held.Listed = refl
granted-back (Held.Object gr) = refl
granted-back (Held.InHand o) = refl
granted-back (Held.Ready o x n) = refl
granted-back (Held.Large gr x n) = refl

same-back : (h : Held) (gr : Grant) → granted_in h ≡ Some gr → taken_back h ≡ h
same-back Held.NotOut gr e = refl
same-back Held.Private gr e = refl
same-back Held.Listed gr e = absurd (cc)
same-back (Held.Object other) gr e = refl
same-back (Held.InHand o) gr e = refl
same-back (Held.Ready o x n) gr e = refl
same-back (Held.Large other x n) gr e = refl

large-back : (k : Key) (u : ℕ) (keeper : Keeper) (kind : Kind) (h : Held) → LargeFits k u keeper kind h
    → LargeFits k u keeper kind (taken_back h)
large-back k u keeper kind Held.NotOut fit = fit
large-back k u keeper kind Held.Private fit = fit
large-back k u keeper kind Held.Listed fit = fit
large-back k u keeper kind (Held.Object gr) fit = fit
large-back k u keeper kind (Held.InHand o) fit = fit
large-back k u keeper kind (Held.Ready o x n) fit = fit
large-back k u keeper kind (Held.Large gr x n) fit = fit

took-fits : (links : ℕ → Link) (e : ℕ) (public : Public) (us : List ℕ) → IsPublicChain links public us
    → TakenFits links (task_taken e public) e us
took-fits links e Public.Null us chain = chain
took-fits links e Public.Unusable us chain = chain
took-fits links e (Public.Filled first) us chain = (
  (λ ne. absurd (ne refl)),
  (λ _. (chain, ([], tail_of us, (chain-starts links first us chain.0 chain.1).0, refl))),
)

took-else : (links : ℕ → Link) (e c : ℕ) (public : Public) (us : List ℕ) → c ≢ e → us ≡ []
    → TakenFits links (task_taken e public) c us
took-else links e c Public.Null us ne none = none
took-else links e c Public.Unusable us ne none = none
took-else links e c (Public.Filled first) us ne none = ((λ _. none), (λ same. absurd (ne same)))

took-task : (k : Key) (g : Shadow) (s : Core) (t e : ℕ) (public : Public) → s.book.keeper e ≡ Keeper.By t
    → TaskFits k g s t (task_taken e public)
took-task k g s t e Public.Null by = tt
took-task k g s t e Public.Unusable by = tt
took-task k g s t e (Public.Filled first) by = by

no-hand : (e u : ℕ) (public : Public) → ⊥ → IsInHand (task_taken e public) u
no-hand e u public none = absurd none

pub take_keeps : (k : Key) (t e : ℕ) (g : Shadow) (s : Core) → s.tasks t ≡ Joining e JoinAt.Take → ObjectsGood k g s
    → ObjectsGood k (shadow_joined e JoinAt.Take g) (take_core t e s)
take_keeps k t e g s is good =
    let by = fits_at k g s t (Joining e JoinAt.Take) is good in
    let before = (taken_at k g s t (Joining e JoinAt.Take) is good e by).1 refl in
    let h = shadow_joined e JoinAt.Take g in
    let r = take_core t e s in
    let next = task_taken e (s.publics e) in
    let stays : NoReturn g s h r = record {
      lasts = λ seat. lasts-same s.lasts seat;
      again = λ x z low now. (
        back-each (λ x q. granted_in q ≡ Some z → q ≡ g.held x) e g.held (λ x _. refl)
            (λ x held. same-back (g.held x) z (sym (granted-back (g.held x)) ∙ held)) x now,
        refl,
      );
    } in
    let seats = seats_keep k t next g s h r good (record {
      others = λ o ne. record {
        mine = λ x m. (refl, mine-stays t e o g s by ne x m);
        slabs = λ c kept. own_slab t e g s h r by (λ c away. record {
          keeper = refl;
          same = refl;
          privates = refl;
          taken = put-other g.taken e (g.listed e) c away;
        }) o c ne kept;
        strange = λ c not. not;
        no_more = back-each (λ x q. q ≡ Held.InHand o → g.held x ≡ Held.InHand o) e g.held (λ x z. z)
            (λ x z. hand-back (g.held x) o z);
        lasts = refl;
        task = put-other s.tasks t next o ne;
      };
      no_return = stays;
      stands = put-same s.tasks t next;
      task' = took-task k h r t e (s.publics e) by;
      taken = each (λ c us. s.book.keeper c ≡ Keeper.By t → TakenFits (links_in s.marks) next c us) g.taken e
          (g.listed e)
          (λ c ne kept. took-else (links_in s.marks) e c (s.publics e) (g.taken c) ne
          ((taken_at k g s t (Joining e JoinAt.Take) is good c kept).0 ne))
          (λ _. took-fits (links_in s.marks) e (s.publics e) (g.listed e) (good.public_chains e));
      hand = λ x z. no-hand e x (s.publics e) (hand_at k g s t (Joining e JoinAt.Take) is good x
          (back-each (λ x q. q ≡ Held.InHand t → g.held x ≡ Held.InHand t) e g.held (λ x z. z)
          (λ x z. hand-back (g.held x) t z) x z));
      notes = notes-stay g s h r (s.notes t) stays (good.notes_fit t);
      kept_notes = λ o _. refl;
    }) in
    record {
      book = good.book;
      kinds' = good.kinds';
      marks_fit = back-each (λ x q. MarkFits q (s.marks x)) e g.held good.marks_fit
          (λ x. mark-back (g.held x) (s.marks x) (good.marks_fit x));
      grants = grants-fewer g.held (back_in e g.held) s.lasts g.ended
          (λ x z. back-each (λ x q. granted_in q ≡ Some z → granted_in (g.held x) ≡ Some z) e g.held (λ x q. q)
          (λ x q. sym (granted-back (g.held x)) ∙ q) x) good.grants;
      out_fits = out-same g.held (back_in e g.held) s.book
          (back-each (λ x q. IsOut q → IsOut (g.held x)) e g.held (λ x o. o) (λ x o. back-out (g.held x) o))
          (back-each (λ x q. IsOut (g.held x) → IsOut q) e g.held (λ x o. o) (λ x o. out-back (g.held x) o))
          good.out_fits;
      larges = back-each (λ x q. LargeFits k x (s.book.keeper (slab_of x)) (s.kinds (granule_of x)) q) e g.held
          good.larges
          (λ x. large-back k x (s.book.keeper (slab_of x)) (s.kinds (granule_of x)) (g.held x) (good.larges x));
      privates_once = privates-taken g.held g.privates g.taken g.listed e before good.privates_once good.listed_once;
      listed_once = listed-taken g.held g.listed e good.listed_once;
      private_chains = good.private_chains;
      public_chains = publics-changed (links_in s.marks) s.publics g.listed e Public.Null [] refl good.public_chains;
      counts_fit = good.counts_fit;
      taken_fit = record {
        kept = seats.kept;
        else = λ c none. put-other g.taken e (g.listed e) c (λ same. none t (ap s.book.keeper same ∙ by))
            ∙ good.taken_fit.else c none;
      };
      tasks_fit = seats.tasks_fit;
      notes_fit = seats.notes_fit;
      hands_fit = seats.hands_fit;
    }

-- a task changes, and no word
pub stand_keeps : (k : Key) (t : ℕ) (task : Task) (g : Shadow) (s : Core) → ObjectsGood k g s
    → TaskFits k g (record s { tasks = put s.tasks t task }) t task
    → ((e : ℕ) → s.book.keeper e ≡ Keeper.By t → TakenFits (links_in s.marks) task e (g.taken e))
    → ((u : ℕ) → g.held u ≡ Held.InHand t → IsInHand task u)
    → ObjectsGood k g (record s { tasks = put s.tasks t task })
stand_keeps k t task g s good fits taken hands =
    let r = record s { tasks = put s.tasks t task } in
    let stays : NoReturn g s g r = record { lasts = λ seat. lasts-same s.lasts seat; again = λ x z low e. (refl, refl) } in
    let seats = seats_keep k t task g s g r good (record {
      others = λ o ne. record {
        mine = λ x m. (refl, refl);
        slabs = λ c by. record { keeper = refl; same = refl; privates = refl; taken = refl };
        strange = λ c not. not;
        no_more = λ x e. e;
        lasts = refl;
        task = put-other s.tasks t task o ne;
      };
      no_return = stays;
      stands = put-same s.tasks t task;
      task' = fits;
      taken = taken;
      hand = hands;
      notes = notes-stay g s g r (s.notes t) stays (good.notes_fit t);
      kept_notes = λ o _. refl;
    }) in
    record {
      book = good.book;
      kinds' = good.kinds';
      marks_fit = good.marks_fit;
      grants = good.grants;
      out_fits = good.out_fits;
      larges = good.larges;
      privates_once = good.privates_once;
      listed_once = good.listed_once;
      private_chains = good.private_chains;
      public_chains = good.public_chains;
      counts_fit = good.counts_fit;
      taken_fit = record { kept = seats.kept; else = good.taken_fit.else };
      tasks_fit = seats.tasks_fit;
      notes_fit = seats.notes_fit;
      hands_fit = seats.hands_fit;
    }

-- notes change, and no task
pub notes_keep : (k : Key) (t : ℕ) (ns : List Note) (g : Shadow) (s : Core) → ObjectsGood k g s → NotesFit g s ns
    → ObjectsGood k g (record s { notes = put s.notes t ns })
notes_keep k t ns g s good fits =
    let r = record s { notes = put s.notes t ns } in
    let stays : NoReturn g s g r = record { lasts = λ seat. lasts-same s.lasts seat; again = λ x z low e. (refl, refl) } in
    record {
      book = good.book;
      kinds' = good.kinds';
      marks_fit = good.marks_fit;
      grants = good.grants;
      out_fits = good.out_fits;
      larges = good.larges;
      privates_once = good.privates_once;
      listed_once = good.listed_once;
      private_chains = good.private_chains;
      public_chains = good.public_chains;
      counts_fit = good.counts_fit;
      taken_fit = good.taken_fit;
      tasks_fit = λ o. task-stays k g s g r o (s.tasks o) good (record {
        mine = λ x m. (refl, refl);
        slabs = λ c by. record { keeper = refl; same = refl; privates = refl; taken = refl };
        strange = λ c not. not;
        no_more = λ x e. e;
        lasts = refl;
        task = refl;
      }) stays (good.tasks_fit o);
      notes_fit = each (λ o q. NotesFit g r q) s.notes t ns
          (λ o _. notes-stay g s g r (s.notes o) stays (good.notes_fit o)) (notes-stay g s g r ns stays fits);
      hands_fit = good.hands_fit;
    }

-- the walker goes on to the next object, or to the last one
abbrev pub task_walked : ℕ → ℕ → ℕ → ℕ → Mark → Task
task_walked e first at count Mark.Unmarked = Joining e (JoinAt.Tie first at count)
task_walked e first at count (Mark.Granted gr) = Joining e (JoinAt.Tie first at count)
task_walked e first at count (Mark.Hand seat) = Joining e (JoinAt.Tie first at count)
task_walked e first at count (Mark.Link next) = Joining e (JoinAt.Walk first next count)
task_walked e first at count Mark.End = Joining e (JoinAt.Tie first at count)
task_walked e first at count Mark.EndUnusable = Joining e (JoinAt.Tie first at count)

walk-task : (k : Key) (g : Shadow) (s : Core) (t e first at count : ℕ) (m : Mark) → s.book.keeper e ≡ Keeper.By t
    → TaskFits k g s t (task_walked e first at count m)
walk-task k g s t e first at count Mark.Unmarked by = by
walk-task k g s t e first at count (Mark.Granted gr) by = by
walk-task k g s t e first at count (Mark.Hand seat) by = by
walk-task k g s t e first at count (Mark.Link next) by = by
walk-task k g s t e first at count Mark.End by = by
walk-task k g s t e first at count Mark.EndUnusable by = by

walk-else : (links : ℕ → Link) (e first at count c : ℕ) (us : List ℕ) (m : Mark) → c ≢ e → us ≡ []
    → TakenFits links (task_walked e first at count m) c us
walk-else links e first at count c us Mark.Unmarked ne none = ((λ _. none), (λ same. absurd (ne same)))
walk-else links e first at count c us (Mark.Granted gr) ne none = ((λ _. none), (λ same. absurd (ne same)))
walk-else links e first at count c us (Mark.Hand seat) ne none = ((λ _. none), (λ same. absurd (ne same)))
walk-else links e first at count c us (Mark.Link next) ne none = ((λ _. none), (λ same. absurd (ne same)))
walk-else links e first at count c us Mark.End ne none = ((λ _. none), (λ same. absurd (ne same)))
walk-else links e first at count c us Mark.EndUnusable ne none = ((λ _. none), (λ same. absurd (ne same)))

tied : (links : ℕ → Link) (first at count : ℕ) (us front back : List ℕ) → IsFilledChain links first us
    → us ≡ front ++ (at ∷ back) → back ≡ [] → count ≡ length front → JoinFits links (JoinAt.Tie first at (count + 1)) us
tied links first at count us front back chain is none long = (
  chain,
  (
    front,
    is ∙ ap (λ xs. front ++ (at ∷ xs)) none,
    (let l = ap (length {A = ℕ}) (is ∙ ap (λ xs. front ++ (at ∷ xs)) none) in
        let parts = length-append front (at ∷ []) in omega arith),
  ),
)

walked : (links : ℕ → Link) (first at count next : ℕ) (us front back rest : List ℕ) → IsFilledChain links first us
    → us ≡ front ++ (at ∷ back) → back ≡ next ∷ rest → count ≡ length front
    → JoinFits links (JoinAt.Walk first next (count + 1)) us
walked links first at count next us front back rest chain is more long = (
  chain,
  (
    front ++ (at ∷ []),
    rest,
    is ∙ ap (λ xs. front ++ (at ∷ xs)) more
        ∙ sym (append_assoc front (at ∷ []) (next ∷ rest)),
    (let parts = length-append front (at ∷ []) in omega arith),
  ),
)

walk-here : (links : ℕ → Link) (e first at count : ℕ) (us front back : List ℕ) (m : Mark) → mark_link m ≡ links at
    → IsFilledChain links first us → us ≡ front ++ (at ∷ back) → count ≡ length front
    → TakenFits links (task_walked e first at (count + 1) m) e us
walk-here links e first at count us front back m leads chain is long =
    by m leads (chain_at links (To first) us front back at chain.0 is chain.1)
  where
    none : Other ≡ links at → Ahead (links at) back → ⊥
    none l (on next rest e _) = let q : Other ≡ To next = l ∙ e in cc
    none l (over which e _) = let q : Other ≡ Ends which = l ∙ e in cc

    tie : (which : ℕ) → Ends which ≡ links at → Ahead (links at) back
        → TakenFits links (Joining e (JoinAt.Tie first at (count + 1))) e us
    tie which l (on next rest e' _) = absurd (let q : Ends which ≡ To next = l ∙ e' in cc)
    tie which l (over other e' end) =
        ((λ ne. absurd (ne refl)), (λ _. tied links first at count us front back chain is end long))

    by : (m : Mark) → mark_link m ≡ links at → Ahead (links at) back
        → TakenFits links (task_walked e first at (count + 1) m) e us
    by Mark.Unmarked l ahead = absurd (none l ahead)
    by (Mark.Granted gr) l ahead = absurd (none l ahead)
    by (Mark.Hand seat) l ahead = absurd (none l ahead)
    by (Mark.Link v) l (on next rest e' more) =
        let q : To v ≡ To next = l ∙ e' in
        let same : v ≡ next = cc in (
          (λ ne. absurd (ne refl)),
          (λ _. subst (λ y. JoinFits links (JoinAt.Walk first y (count + 1)) us) (sym same)
              (walked links first at count next us front back rest chain is more long)),
        )
    by (Mark.Link v) l (over which e' end) = absurd (let q : To v ≡ Ends which = l ∙ e' in cc)
    by Mark.End l ahead = tie 0 l ahead
    by Mark.EndUnusable l ahead = tie 1 l ahead

pub walk_keeps : (k : Key) (t e first at count : ℕ) (g : Shadow) (s : Core)
    → s.tasks t ≡ Joining e (JoinAt.Walk first at count) → ObjectsGood k g s
    → ObjectsGood k g (record s { tasks = put s.tasks t (task_walked e first at (count + 1) (s.marks at)) })
walk_keeps k t e first at count g s is good =
    let by = fits_at k g s t (Joining e (JoinAt.Walk first at count)) is good in
    stand_keeps k t (task_walked e first at (count + 1) (s.marks at)) g s good
    (walk-task k g (record s { tasks = put s.tasks t (task_walked e first at (count + 1) (s.marks at)) }) t e first at
    (count + 1) (s.marks at) by)
    (λ c kept. let fits = taken_at k g s t (Joining e (JoinAt.Walk first at count)) is good c kept in
    equal_or c e
    (λ same. let w = fits.1 same in
    subst (λ y. TakenFits (links_in s.marks) (task_walked e first at (count + 1) (s.marks at)) y (g.taken c))
    (sym same)
    (walk-here (links_in s.marks) e first at count (g.taken c) w.1.0 w.1.1 (s.marks at) refl w.0 w.1.2 w.1.3))
    (λ ne. walk-else (links_in s.marks) e first at (count + 1) c (g.taken c) (s.marks at) ne (fits.0 ne)))
    (λ u z. absurd (hand_at k g s t (Joining e (JoinAt.Walk first at count)) is good u z))

-- the count that a walker has is small
pub walk-small : (k : Key) (t e first at count : ℕ) (g : Shadow) (s : Core)
    → s.tasks t ≡ Joining e (JoinAt.Walk first at count) → ObjectsGood k g s → count < 2 ^ 32
walk-small k t e first at count g s is good =
    let by = fits_at k g s t (Joining e (JoinAt.Walk first at count)) is good in
    let w = (taken_at k g s t (Joining e (JoinAt.Walk first at count)) is good e by).1 refl in
    let room = room_for g.held s.book e (g.taken e) good.out_fits
    (λ x. let o = good.privates_once e x in let c = private-cases (g.held x) in grind (arith, nat_tests))
    (λ x some. let i = private-there g.held g.privates g.taken e x good.privates_once (omega arith) in
    (i.1, subst IsOut (sym i.0) tt)) in
    let most = (good.book.there e (there_of (s.book.keeper e) t by)).record'.handed in
    let all = class_objects-most (s.book.classes e) in
    let l = ap (length {A = ℕ}) w.1.2 in
    let parts = length-append w.1.0 (at ∷ w.1.1) in
    let long = w.1.3 in
    omega arith

abbrev pub tie_core : ℕ → ℕ → ℕ → ℕ → ℕ → Mark → Core → Core
tie_core t e first last count mark s = record s {
  marks = put s.marks last mark;
  book = with_joined e first count s.book;
  tasks = put s.tasks t Away;
}

-- the list that was taken, at its last object
record Tied (e first last count : ℕ) (g : Shadow) (s : Core) : Type 0 where
  pub end : ℕ
  pub chain : IsChain (links_in s.marks) (To first) (g.taken e) end
  pub front : List ℕ
  pub list : g.taken e ≡ front ++ (last ∷ [])
  pub long : count ≡ length (g.taken e)
  pub was : g.held last ≡ Held.Private
  pub at : slab_of last ≡ e
  pub before : tally last front ≡ 0
  pub away : tally last (g.privates e) ≡ 0
  pub starts : g.taken e ≡ first ∷ tail_of (g.taken e)
  pub slab : (count ≤ s.book.counts e)
      × IsSlabOf (after_join (record_of s.book e) first count) (g.taken e ++ g.privates e)

tied_facts : (k : Key) (t e first last count : ℕ) (g : Shadow) (s : Core)
    → s.tasks t ≡ Joining e (JoinAt.Tie first last count) → ObjectsGood k g s → Tied e first last count g s
tied_facts k t e first last count g s is good =
    let by = fits_at k g s t (Joining e (JoinAt.Tie first last count)) is good in
    let w = (taken_at k g s t (Joining e (JoinAt.Tie first last count)) is good e by).1 refl in
    made by w.0.0 w.0.1 w.1.0 w.1.1 w.1.2
  where
    made : s.book.keeper e ≡ Keeper.By t → (end : ℕ) → IsChain (links_in s.marks) (To first) (g.taken e) end
        → (front : List ℕ) → g.taken e ≡ front ++ (last ∷ []) → count ≡ length (g.taken e)
        → Tied e first last count g s
    made by end chain front list long =
        let o = good.privates_once e last in
        let a = tally-append last front (last ∷ []) in
        let l = ap (tally last) list in
        let h = tally-here last [] in
        let i = private-there g.held g.privates g.taken e last good.privates_once (omega arith) in
        let c = private-cases (g.held last) in
        let starts = (chain-starts (links_in s.marks) first (g.taken e) end chain).0 in
        let n = ap (length {A = ℕ}) starts in
        let joined = joins (record_of s.book e) (g.privates e) first (tail_of (g.taken e))
        (slab_is k g s e good (there_of (s.book.keeper e) t by))
        (subst (λ xs. IsOnce xs) starts (λ x. let q = good.privates_once e x in let d = private-cases (g.held x) in
        grind (arith, nat_tests)))
        (subst (λ xs. (v : ℕ) → 0 < tally v xs → IsHanded (record_of s.book e) v) starts
        (λ v some. let j = private-there g.held g.privates g.taken e v good.privates_once (omega arith) in
        handed-of k g s e v good j.1 (subst IsOut (sym j.0) tt)))
        (subst (λ xs. (v : ℕ) → 0 < tally v xs → tally v (g.privates e) ≡ 0) starts
        (λ v some. let q = good.privates_once e v in let d = private-cases (g.held v) in grind (arith, nat_tests))) in
        record {
          end = end;
          chain = chain;
          front = front;
          list = list;
          long = long;
          was = i.0;
          at = i.1;
          before = grind (arith, nat_tests);
          away = grind (arith, nat_tests);
          starts = starts;
          slab = subst (λ n. (n ≤ s.book.counts e)
              × IsSlabOf (after_join (record_of s.book e) first n) (g.taken e ++ g.privates e)) (sym long)
              (subst (λ xs. (length xs ≤ s.book.counts e)
              × IsSlabOf (after_join (record_of s.book e) first (length xs)) (xs ++ g.privates e)) (sym starts)
              joined);
        }

pub tie_keeps : (k : Key) (t e first last count : ℕ) (mark : Mark) (g : Shadow) (s : Core)
    → s.tasks t ≡ Joining e (JoinAt.Tie first last count) → mark_link mark ≡ head_link (s.book.heads e)
    → IsNoGrant mark → ObjectsGood k g s
    → ObjectsGood k (shadow_joined e (JoinAt.Tie first last count) g) (tie_core t e first last count mark s)
tie_keeps k t e first last count mark g s is leads no_grant good =
    made (fits_at k g s t (Joining e (JoinAt.Tie first last count)) is good) (tied_facts k t e first last count g s is good)
  where
    made : s.book.keeper e ≡ Keeper.By t → Tied e first last count g s
        → ObjectsGood k (shadow_joined e (JoinAt.Tie first last count) g) (tie_core t e first last count mark s)
    made by f =
        let h = shadow_joined e (JoinAt.Tie first last count) g in
        let r = tie_core t e first last count mark s in
        let else = headed_else s.book e (s.book.counts e - count) (Some first) in
        let stays : NoReturn g s h r = record {
          lasts = λ seat. lasts-same s.lasts seat;
          again = λ x z low now. (refl, refl);
        } in
        let seats = seats_keep k t Away g s h r good (record {
          others = rely_at t last g s h r (record {
            marks = put-other s.marks last mark;
            held = λ x _. refl;
            slab = own_slab t e g s h r by (λ c ne. record {
              keeper = refl;
              same = else.same c (λ z. ne (sym z));
              privates = put-other g.privates e (g.taken e ++ g.privates e) c ne;
              taken = put-other g.taken e [] c ne;
            });
            keeper = λ c. refl;
            lasts = λ o _. refl;
            tasks = put-other s.tasks t Away;
          })
              (private-no_other t last g s f.was (ap s.book.keeper f.at ∙ by))
              (λ o ne z. let q : Held.Private ≡ Held.InHand o = sym f.was ∙ z in cc);
          no_return = stays;
          stands = put-same s.tasks t Away;
          task' = tt;
          taken = each (λ c us. s.book.keeper c ≡ Keeper.By t → us ≡ []) g.taken e []
              (λ c ne kept. (taken_at k g s t (Joining e (JoinAt.Tie first last count)) is good c kept).0 ne)
              (λ _. refl);
          hand = λ x z. hand_at k g s t (Joining e (JoinAt.Tie first last count)) is good x z;
          notes = notes-stay g s h r (s.notes t) stays (good.notes_fit t);
          kept_notes = λ o _. refl;
        }) in
        let old = good.book.there e (there_of (s.book.keeper e) t by) in
        record {
          book = book-set k s.book (with_joined e first count s.book) e else
              (λ _. record {
                place = old.place;
                class = old.class;
                record' = subst IsRecord (sym (headed_here s.book e (s.book.counts e - count) (Some first)))
                    (record-of-slab (after_join (record_of s.book e) first count) (g.taken e ++ g.privates e) f.slab.1);
              })
              (λ none. absurd (none (there_of (s.book.keeper e) t by))) good.book;
          kinds' = good.kinds';
          marks_fit = marks-mark g.held s.marks last mark (subst (λ q. MarkFits q mark) (sym f.was) no_grant)
              good.marks_fit;
          grants = good.grants;
          out_fits = record { in_slab = good.out_fits.in_slab; out = good.out_fits.out };
          larges = good.larges;
          privates_once = privates-joined g.held g.privates g.taken e good.privates_once;
          listed_once = good.listed_once;
          private_chains = privates-changed s.marks s.book.heads g.privates e last mark (Some first)
              (g.taken e ++ g.privates e)
              (λ c ne. (privates-other g.held g.privates g.taken last c (λ z. ne (z ∙ f.at)) good.privates_once).0)
              (joined_chain f) good.private_chains;
          public_chains = publics-marked s.marks s.publics g.listed last mark
              (listed-none g.held g.listed last (ap is_listed f.was) good.listed_once) good.public_chains;
          counts_fit = counts-set s.book.handed s.book.counts g.privates e (s.book.counts e - count)
              (g.taken e ++ g.privates e) (f.slab.1).count good.counts_fit;
          taken_fit = record {
            kept = seats.kept;
            else = λ c none. put-other g.taken e [] c (λ same. none t (ap s.book.keeper same ∙ by))
                ∙ good.taken_fit.else c none;
          };
          tasks_fit = seats.tasks_fit;
          notes_fit = seats.notes_fit;
          hands_fit = seats.hands_fit;
        }
      where
        joined_chain : Tied e first last count g s
            → IsChain (links_in (put s.marks last mark)) (To first) (g.taken e ++ g.privates e) 0
        joined_chain f =
            let over' : IsChain (put (links_in s.marks) last (mark_link mark)) (To first)
            (f.front ++ (last ∷ g.privates e)) 0 =
            link_joins_chains (links_in s.marks) (To first) (mark_link mark) f.front last [] (g.privates e) f.end 0
            f.before f.away (subst (λ xs. IsChain (links_in s.marks) (To first) xs f.end) f.list f.chain)
            (subst (λ l. IsChain (links_in s.marks) l (g.privates e) 0) (sym leads) (good.private_chains e)) in
            subst (λ xs. IsChain (links_in (put s.marks last mark)) (To first) xs 0)
            (sym (ap (λ xs. xs ++ g.privates e) f.list ∙ append_assoc f.front (last ∷ []) (g.privates e)))
            (leads-same (put (links_in s.marks) last (mark_link mark)) (links_in (put s.marks last mark)) (To first)
            (f.front ++ (last ∷ g.privates e)) (Ends 0) (λ x _. read_put mark_link s.marks last mark x) over')
