-- A seat's part of a reset.
use Rattle.std.proofs.Common.{◌≡◌, ◌≢◌, ◌⊎◌, ℕ, suc, ◌<◌, ◌≤◌, true, List, length, refl, sym, ap, ◌∙◌}
use Rattle.std.proofs.Common.{subst, inl, inr, ⊎_elim, arith}
use Rattle.std.proofs.lemmas.Bool.{cases_lt}
use Rattle.std.specs.Prelude.{Option}
use mathlib.Core.Option.{some, some-injective}
use lib.ListN.{get_elem?}
use Rattle.atomic_table.proofs.Lists.{set_here, set_else}
use Rattle.pool_types.specs.declared.values.Answer.{Answer}
use Rattle.pool_types.specs.declared.values.Turn.{Turn}
use Rattle.pool_words.specs.declared.actions.Seen.{Seen}
use Rattle.pool_words.specs.Actions.{finds}
use Rattle.step_local.specs.declared.frames.Local.{Local}
use Rattle.step_local.specs.declared.frames.Reset.{Reset}
use Rattle.step_local.specs.Course.{course}
use Rattle.step_local.specs.Getting.{is_idle, reset_begun}
use Rattle.step_local.specs.Learn.{learn}
use Rattle.step_runs.specs.Entries.{seen_by}
use Rattle.atomic_driver.specs.Rule.{key_by}
use Rattle.atomic_driver.proofs.CallerLemmas.{at_low, at_some}
use Rattle.pool_api.specs.Heaps.{IsResting, is_going}
use Rattle.quiet_laws.specs.Resets.{GoesOn, IsResetting}
use Rattle.quiet_laws.proofs.CallerLemmas.{resets_begin, resets_go_on}
use Rattle.quiet_pool.specs.Quiet.{Quiet, AreIdle}
use Rattle.quiet_pool.specs.Resets.{AreRestingBelow, AreResting, Goes, IsPart, RestsAt, locals_begun, locals_begun_of}
use Rattle.quiet_pool.specs.Resets.{part_begun}
use Rattle.quiet_pool.specs.Resets.Goes.{turns}
use Rattle.quiet_pool.specs.Stepping.{turned, turned_of}
use Rattle.quiet_pool.proofs.Lists.{of_at}
use Rattle.quiet_pool.proofs.Turns.{rests_left, going_left}

-- a seat is in its part of a reset, and the others are as they were
pub record Amid (seat : ℕ) (locals now : List Local) : Type 0 where
  pub one : Local
  pub at : get_elem? now seat ≡ some one
  pub resets : IsResetting one
  pub others : (other : ℕ) → other ≢ seat → get_elem? now other ≡ get_elem? locals other

-- its part begins
pub amid_begun : (seat : ℕ) (locals : List Local) (reset : Reset) → seat < length locals → AreIdle locals
    → Amid seat locals (locals_begun locals seat reset)
amid_begun seat locals reset low idle =
    let p = at_some locals seat low in
    let begun = (resets_begin p.0 reset (idle seat p.0 p.1)).1 in
    let now : Local = (reset_begun p.0 reset).0 in
    subst (λ (one : Option Local). Amid seat locals (locals_begun_of one locals seat reset))
    (sym (of_at locals seat p.0 p.1)) (record {
      one = now;
      at = set_here locals seat now low;
      resets = record { stage = ap (λ z. z.2) begun; at = ap (λ z. z.3) begun };
      others = λ other differs. set_else locals seat other now differs;
    })

module _ {R : Type 0} where
  -- a turn of a seat in its part
  record TurnsAt (seat : ℕ) (locals : List Local) (turn : Quiet R × Turn) : Type 0 where
    l : Local
    seen : Seen
    on : GoesOn l (learn l seen)
    at : get_elem? turn.0.locals seat ≡ some (learn l seen).0
    turn_is : turn.1 ≡ (learn l seen).1
    others : (other : ℕ) → other ≢ seat → get_elem? turn.0.locals other ≡ get_elem? locals other

  turns_at : (q : Quiet R) (seat : ℕ) (locals : List Local) → Amid seat locals q.locals
      → TurnsAt seat locals (turned q seat)
  turns_at q seat locals amid =
      let l = amid.one in
      let f = finds (key_by q.plan) q.words (course l) in
      let next : Local = (learn l (seen_by (course l) f)).0 in
      subst (λ (one : Option Local). TurnsAt seat locals (turned_of one q seat)) (sym
      (of_at q.locals seat l amid.at)) (record {
        l = l;
        seen = seen_by (course l) f;
        on = resets_go_on l (seen_by (course l) f) amid.resets;
        at = set_here q.locals seat next (at_low q.locals seat l amid.at);
        turn_is = refl;
        others = λ other differs. set_else q.locals seat other next differs ∙ amid.others other differs;
      })

  -- a turn that does not answer leaves the seat in its part
  pub amid_turned : (q : Quiet R) (seat : ℕ) (locals : List Local) → Amid seat locals q.locals
      → is_going (turned q seat).1 ≡ true → Amid seat locals (turned q seat).0.locals
  amid_turned q seat locals amid going =
      let t = turns_at q seat locals amid in
      record {
        one = (learn t.l t.seen).0;
        at = t.at;
        resets = going_left t.l (learn t.l t.seen) t.on (ap is_going (sym t.turn_is) ∙ going);
        others = t.others;
      }

  -- behind one that answers the seat rests
  pub rests_turned : (q : Quiet R) (seat : ℕ) (locals : List Local) (answer : Answer) → Amid seat locals q.locals
      → (turned q seat).1 ≡ Turn.Done answer → RestsAt seat locals (turned q seat).0.locals
  rests_turned q seat locals answer amid done =
      let t = turns_at q seat locals amid in
      record {
        here = λ l at_l. subst IsResting (some-injective (learn t.l t.seen).0 l (sym t.at ∙ at_l))
            (rests_left t.l (learn t.l t.seen) answer t.on (sym t.turn_is ∙ done));
        others = t.others;
      }

-- behind one more seat's part one more rests
pub rest_more : (seat : ℕ) (locals now : List Local) → AreRestingBelow seat locals → RestsAt seat locals now
    → AreRestingBelow (suc seat) now
rest_more seat locals now below rests other l at low = ⊎_elim
    (λ (z : other < seat). below other l (sym (rests.others other (λ (e : other ≡ seat). omega arith)) ∙ at) z)
    (λ (z : seat ≤ other). let same : other ≡ seat = omega arith in
    rests.here l (ap (get_elem? now) (sym same) ∙ at))
    (cases_lt other seat)

pub idle_still : (seat : ℕ) (locals now : List Local) → AreIdle locals → RestsAt seat locals now → AreIdle now
idle_still seat locals now idle rests other l at = by (cases_lt other seat)
  where
    elsewhere : other ≢ seat → is_idle l.at ≡ true
    elsewhere differs = idle other l (sym (rests.others other differs) ∙ at)

    by : (other < seat) ⊎ (seat ≤ other) → is_idle l.at ≡ true
    by (inl low) = elsewhere (λ (e : other ≡ seat). omega arith)
    by (inr high) = ⊎_elim
        (λ (low : seat < other). elsewhere (λ (e : other ≡ seat). omega arith))
        (λ (same : other ≤ seat). let e : other ≡ seat = omega arith in (rests.here l (ap (get_elem? now) (sym e)
        ∙ at)).0)
        (cases_lt seat other)

-- behind the last part, which is of a seat that rested, all rest
pub all_rest : (end seat : ℕ) (locals now : List Local) → length now ≡ end → AreRestingBelow end locals
    → RestsAt seat locals now → AreResting now
all_rest end seat locals now count below rests other l at = by (cases_lt other seat)
  where
    elsewhere : other ≢ seat → IsResting l
    elsewhere differs =
        below other l (sym (rests.others other differs) ∙ at) (let low = at_low now other l at in omega arith)

    by : (other < seat) ⊎ (seat ≤ other) → IsResting l
    by (inl low) = elsewhere (λ (e : other ≡ seat). omega arith)
    by (inr high) = ⊎_elim
        (λ (low : seat < other). elsewhere (λ (e : other ≡ seat). omega arith))
        (λ (same : other ≤ seat). let e : other ≡ seat = omega arith in rests.here l (ap (get_elem? now) (sym e) ∙ at))
        (cases_lt seat other)

module _ {R : Type 0} where
  -- the part goes on
  pub record IsOn (begun : Quiet R) (seat : ℕ) (locals : List Local) (now : Quiet R) : Type 0 where
    pub goes : Goes begun seat now
    pub amid : Amid seat locals now.locals

  pub part_on : (begun : Quiet R) (seat : ℕ) (locals : List Local) (q now : Quiet R) (turn : Turn)
      → (now, turn) ≡ turned q seat → is_going turn ≡ true → Goes begun seat q → Amid seat locals q.locals
      → IsOn begun seat locals now
  part_on begun seat locals q now turn is going goes amid =
      let on : is_going (turned q seat).1 ≡ true = ap (λ (z : Quiet R × Turn). is_going z.1) (sym is) ∙ going in
      subst (λ (z : Quiet R × Turn). IsOn begun seat locals z.0) (sym is)
      (record { goes = turns goes on; amid = amid_turned q seat locals amid on })

  -- the part is done
  pub record IsDone (q : Quiet R) (seat : ℕ) (reset : Reset) (locals : List Local) (now : Quiet R) : Type 0 where
    pub part : IsPart q seat reset now
    pub rests : RestsAt seat locals now.locals

  pub part_done : (q : Quiet R) (seat : ℕ) (reset : Reset) (locals : List Local) (mid now : Quiet R) (turn : Turn)
      (answer : Answer) → (now, turn) ≡ turned mid seat → turn ≡ Turn.Done answer → Goes
      (part_begun q seat reset) seat mid
      → Amid seat locals mid.locals → IsDone q seat reset locals now
  part_done q seat reset locals mid now turn answer is done goes amid =
      let last : (turned mid seat).1 ≡ Turn.Done answer = ap (λ (z : Quiet R × Turn). z.1) (sym is) ∙ done in
      subst (λ (z : Quiet R × Turn). IsDone q seat reset locals z.0) (sym is) (record {
        part = record { mid = mid; goes = goes; answer = answer; done = last; after = refl };
        rests = rests_turned mid seat locals answer amid last;
      })
