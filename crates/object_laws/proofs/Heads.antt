-- What follows of grants, duties and notes.
use Rattle.std.proofs.Common.{◌≡◌, ℕ, ◌+◌, Bool, true, false, cond, eqb, Some}
use Rattle.std.proofs.Common.{[], ◌∷◌, refl, sym, ap, subst, arith, ◌∙◌}
use Rattle.std.proofs.lemmas.Bool.Decides.{nat_tests}
use Rattle.std.proofs.lemmas.Bool.{eqb-true}
use Rattle.pool_types.specs.declared.values.Grant.{Grant}
use Rattle.pool_words.specs.declared.words.Key.{Key}
use Rattle.pool_words.specs.Words.{marks, publics}
use Rattle.word_codes.specs.declared.marks.Mark.{Mark}
use Rattle.word_codes.specs.declared.publics.Public.{Public}
use Rattle.word_codes.specs.Marks.{mark_of}
use Rattle.word_codes.specs.Publics.{public_of}
use Rattle.public_list.specs.declared.ending.EndCall.{EndCall}
use Rattle.public_list.specs.declared.ending.EndAt.{EndAt}
use Rattle.public_list.specs.declared.ending.EndNext.{EndNext}
use Rattle.public_list.specs.declared.posting.PostAt.{PostAt}
use Rattle.public_list.specs.Ending.{end_course, end_learn}
use Rattle.public_list.specs.Posting.{posted, post_by}
use Rattle.chain_words.specs.declared.pushing.PushAt.{PushAt}
use Rattle.chain_words.specs.declared.pushing.PushNext.{PushNext}
use Rattle.word_laws.specs.Memory.{Mem, found, fresh, put}
use Rattle.word_laws.proofs.CallerLemmas.{less_or}
use Rattle.slab_laws.specs.Books.{Keeper}
use Rattle.slab_laws.specs.Heaps.{slab_of, KindFits}
use Rattle.slab_laws.proofs.CallerLemmas.{kind_none}
use Rattle.object_laws.specs.Objects.{granted_in, with_end, Shadow, Locals, core_in, links_in}
use Rattle.object_laws.specs.Objects.Task.{Posting}
use Rattle.object_laws.specs.Parts.{MarkFits, IsNoGrant, IsPublicChain, TaskFits, NotesFit, ObjectsGood}
use Rattle.object_laws.specs.Rows.{granted_by, shadow_ended, shadow_posted, shadow_listed}
use Rattle.object_laws.specs.Named.{fresh_locals}
use Rattle.object_laws.specs.Laws.{SlabsHaveTheirLists, GrantOnce, IsWon, GrantEndsOnce}
use Rattle.object_laws.specs.Laws.{Duty, FindingNullGivesTheDuty}
use Rattle.object_laws.specs.Laws.{NotesTellOfHeldObjects, HandsAreListed, FreshPoolsHaveNoObjects}
use Rattle.slab_laws.proofs.CallerLemmas.{put-same}
use Rattle.object_laws.proofs.Parts.Marks.{granted_is_held}
use Rattle.object_laws.proofs.Seats.{fits_at}
use Rattle.object_laws.proofs.Facts.{slab_is}
use Rattle.object_laws.proofs.Keeps.{runs_keep_objects}

pub slabs_have_their_lists : SlabsHaveTheirLists
slabs_have_their_lists k g s e good there = slab_is k g s e good there

held_by_mark : (k : Key) (g : Shadow) (m : Mem) (l : Locals) (u : ℕ) (gr : Grant) → ObjectsGood k g (core_in m l)
    → mark_of (m marks u) ≡ Mark.Granted gr → granted_in (g.held u) ≡ Some gr
held_by_mark k g m l u gr good names =
    granted_is_held (g.held u) gr (subst (MarkFits (g.held u)) names (good.marks_fit u))

grant_once : (k : Key) (g : Shadow) (m : Mem) (l : Locals) (gr : Grant) → ObjectsGood k g (core_in m l)
    → GrantOnce g m gr
grant_once k g m l gr good = record {
  once = good.grants.once gr.seat gr.number;
  gone = λ some u names. good.grants.gone u gr some (held_by_mark k g m l u gr good names);
  one = λ u v at there. good.grants.apart u v gr (held_by_mark k g m l u gr good at)
      (held_by_mark k g m l v gr good there);
}

-- an exchange that is won found the mark
won-mark : (k : Key) (m : Mem) (call : EndCall) (at : EndAt)
    → IsWon (end_learn call at (found m (end_course call at))) → m marks call.unit ≡ call.mark
won-mark k m call EndAt.Own won = by (eqb (m marks call.unit) call.mark) refl won
  where
    by : (b : Bool) → eqb (m marks call.unit) call.mark ≡ b
        → IsWon (cond b EndNext.Own (EndNext.Goes (EndAt.Lost (m marks call.unit)))) → m marks call.unit ≡ call.mark
    by true is w = eqb-true (m marks call.unit) call.mark is
    by false is w = absurd w
won-mark k m call EndAt.Other won = by (eqb (m marks call.unit) call.mark) refl won
  where
    by : (b : Bool) → eqb (m marks call.unit) call.mark ≡ b
        → IsWon (cond b EndNext.Other (EndNext.Goes (EndAt.Lost (m marks call.unit)))) → m marks call.unit ≡ call.mark
    by true is w = eqb-true (m marks call.unit) call.mark is
    by false is w = absurd w
won-mark k m call EndAt.Large won = by (eqb (m marks call.unit) call.mark) refl won
  where
    by : (b : Bool) → eqb (m marks call.unit) call.mark ≡ b
        → IsWon (cond b EndNext.Large (EndNext.Goes (EndAt.Lost (m marks call.unit)))) → m marks call.unit ≡ call.mark
    by true is w = eqb-true (m marks call.unit) call.mark is
    by false is w = absurd w
won-mark k m call (EndAt.Lost word) won = absurd won

ended-by : (seat : ℕ) (call : EndCall) (next : EndNext) (g : Shadow) (gr : Grant) → IsWon next
    → mark_of call.mark ≡ Mark.Granted gr
    → (shadow_ended seat call next g).ended gr.seat gr.number ≡ with_end gr g.ended gr.seat gr.number
ended-by seat call (EndNext.Goes at) g gr won names = absurd won
ended-by seat call EndNext.Own g gr won names = ap (λ z. with_end (granted_by z) g.ended gr.seat gr.number) names
ended-by seat call EndNext.Other g gr won names = ap (λ z. with_end (granted_by z) g.ended gr.seat gr.number) names
ended-by seat call EndNext.Large g gr won names = ap (λ z. with_end (granted_by z) g.ended gr.seat gr.number) names
ended-by seat call (EndNext.NotHeld place) g gr won names = absurd won

end_more : (gr : Grant) (ended : ℕ → ℕ → ℕ) → with_end gr ended gr.seat gr.number ≡ ended gr.seat gr.number + 1
end_more gr ended = grind (arith, nat_tests)

pub grant_ends_once : GrantEndsOnce
grant_ends_once k g0 m0 l0 g m l good run =
    let now = runs_keep_objects k g0 m0 l0 g m l good run in record {
      each = λ gr. grant_once k g m l gr now;
      won = λ seat call kind at gr is names won.
          let held = held_by_mark k g m l call.unit gr now (ap mark_of (won-mark k m call at won) ∙ names) in
          let zero : g.ended gr.seat gr.number ≡ 0 = less_or 0 (g.ended gr.seat gr.number)
          (λ some. absurd (now.grants.gone call.unit gr some held)) (λ none. omega arith) in
          record {
            held = held;
            before = zero;
            after' = ended-by seat call (end_learn call at (found m (end_course call at))) g gr won names
                ∙ end_more gr g.ended ∙ ap (λ n. n + 1) zero;
          };
    }

pub finding_null_gives_the_duty : FindingNullGivesTheDuty
finding_null_gives_the_duty k g m l seat call (PostAt.Push PushAt.Look) is good = tt
finding_null_gives_the_duty k g m l seat call (PostAt.Push (PushAt.Link word)) is good = tt
finding_null_gives_the_duty k g m l seat call (PostAt.Push (PushAt.Exchange word)) is good =
    by (eqb (m publics call.slab) word)
  where
    task : TaskFits k g (core_in m l) seat (Posting call (PostAt.Push (PushAt.Exchange word)))
    task = fits_at k g (core_in m l) seat (Posting call (PostAt.Push (PushAt.Exchange word))) is good

    first : g.listed call.slab ≡ [] → (shadow_listed call g).listed call.slab ≡ call.unit ∷ []
    first none = ap (put g.listed (slab_of call.unit) (call.unit ∷ g.listed (slab_of call.unit))) task.0
        ∙ put-same g.listed (slab_of call.unit) (call.unit ∷ g.listed (slab_of call.unit))
        ∙ ap (λ xs. call.unit ∷ xs) (ap g.listed (sym task.0) ∙ none)

    duty : (p : Public) → public_of (m publics call.slab) ≡ p
        → Duty g (shadow_posted call (posted p) g) m call (posted p)
    duty Public.Null is =
        let none : g.listed call.slab ≡ [] =
        subst (λ q. IsPublicChain (links_in (core_in m l).marks) q (g.listed call.slab)) is
        (good.public_chains call.slab) in
        record { null = is; none = none; first = first none }
    duty Public.Unusable is = record { some = λ e. let q : Public.Unusable ≡ Public.Null = sym is ∙ e in cc }
    duty (Public.Filled u) is = record { some = λ e. let q : Public.Filled u ≡ Public.Null = sym is ∙ e in cc }

    by : (b : Bool) → Duty g (shadow_posted call (post_by (cond b (PushNext.Pushed (m publics call.slab))
        (PushNext.Goes (PushAt.Link (m publics call.slab))))) g) m call
        (post_by (cond b (PushNext.Pushed (m publics call.slab)) (PushNext.Goes (PushAt.Link (m publics call.slab)))))
    by true = duty (public_of (m publics call.slab)) refl
    by false = tt

pub notes_tell_of_held_objects : NotesTellOfHeldObjects
notes_tell_of_held_objects k g m l seat n ns good is same =
    let fits = (subst (NotesFit g (core_in m l)) is (good.notes_fit seat)).0 in
    let names = fits.seen.names in
    let held = held_by_mark k g m l n.unit fits.seen.grant good (ap mark_of same ∙ names) in
    record {
      grant = fits.seen.grant;
      names = names;
      held = held;
      kind = fits.kind fits.seen.grant names held;
    }

pub hands_are_listed : HandsAreListed
hands_are_listed k g s u seat good held = good.hands_fit u seat held

mark_none : mark_of 0 ≡ Mark.Unmarked
unfolding mark_of
mark_none = refl

public_none : public_of 0 ≡ Public.Null
unfolding public_of
public_none = refl

pub fresh_pools_have_no_objects : FreshPoolsHaveNoObjects
fresh_pools_have_no_objects k few = record {
  book = record {
    span = few;
    there = λ e is. absurd is;
    absent = λ e none. record { handed = refl; count = refl; head = refl };
  };
  kinds' = λ e. subst (λ q. KindFits Keeper.Nobody 0 q) (sym kind_none) tt;
  marks_fit = λ u. subst IsNoGrant (sym mark_none) tt;
  grants = record {
    apart = λ u v gr e f. absurd (cc);
    least = λ u gr e. absurd (cc);
    gone = λ u gr some. absurd (omega arith);
    past = λ seat number some. absurd (omega arith);
    once = λ seat number. omega arith;
  };
  out_fits = record { in_slab = λ u o. absurd o; out = λ e i low. absurd (omega arith) };
  larges = λ u. tt;
  privates_once = λ e u. grind (arith, nat_tests);
  listed_once = λ e u. grind (arith, nat_tests);
  private_chains = λ e. refl;
  public_chains = λ e. subst (λ p. IsPublicChain (links_in (core_in fresh fresh_locals).marks) p []) (sym public_none)
      refl;
  counts_fit = λ e. refl;
  taken_fit = record { kept = λ e seat by. absurd (cc); else = λ e none. refl };
  tasks_fit = λ seat. tt;
  notes_fit = λ seat. tt;
  hands_fit = λ u seat e. absurd (cc);
}
