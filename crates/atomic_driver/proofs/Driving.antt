-- What stays true of a seat over its turns.
use Rattle.std.proofs.Common.{◌≡◌, ℕ, zero, suc, ◌+◌, Bool, true, false, List, [], ◌∷◌, refl, sym, ap, ◌∙◌, subst}
use Rattle.std.specs.Prelude.{Option, Some, None, Result, Ok, Err, slice_set}
use mathlib.Core.Option.{some, some-injective, some-ne-none}
use lib.ListN.{get_elem?}
use Rattle.pool_types.specs.declared.policy.RegionRec.{RegionRec}
use Rattle.pool_types.specs.declared.values.Request.{Request}
use Rattle.pool_types.specs.declared.values.Turn.{Turn}
use Rattle.regions.specs.declared.errors.ObtainError.{ObtainError}
use Rattle.pool_words.specs.declared.words.Key.{Key}
use Rattle.pool_words.specs.declared.words.Word.{Word}
use Rattle.pool_words.specs.declared.actions.Action.{Action}
use Rattle.pool_words.specs.declared.actions.Action.TheVariants.{TakeOffice, GiveOffice, Nothing}
use Rattle.pool_words.specs.declared.actions.OfficeJob.{OfficeJob}
use Rattle.pool_words.specs.declared.actions.Seen.{Seen}
use Rattle.region_steps.specs.declared.office.OfficeAt.{OfficeAt}
use Rattle.step_local.specs.declared.frames.At.{At}
use Rattle.step_local.specs.declared.frames.Local.{Local}
use Rattle.step_local.specs.Course.{course}
use Rattle.step_local.specs.Getting.{begun}
use Rattle.step_local.specs.Learn.{learn}
use Rattle.step_runs.specs.declared.entry.Entry.{Entry}
use Rattle.step_runs.specs.Places.{has_word, Carry, away, in_slot, in_hand, carry_of, HasDesk}
use Rattle.step_runs.specs.Places.{Move, stays, takes, gives, move_of, gives_at, gives_of}
use Rattle.step_runs.specs.Entries.{seen_by, desk_after, learnt}
use Rattle.step_runs.specs.Runs.{Callback, Silent, Passes}
use Rattle.step_runs.specs.Runs.Silent.{rests, begins, answers, obtains, takes_out, puts_back}
use Rattle.step_runs.specs.Laws.{Onward}
use Rattle.step_runs.proofs.CallerLemmas.{steps_go_onward, other_turns_lead, has_step, silence_keeps_desk, IsHome}
use Rattle.step_runs.proofs.CallerLemmas.{Has, Keeps}
use Rattle.step_runs.proofs.CallerLemmas.{silence_keeps, desk_has, has_some}
use Rattle.atomic_table.specs.Table.{Me, rest}
use Rattle.atomic_driver.specs.declared.rule.View.{View}
use Rattle.atomic_driver.specs.Steps.{word_of, Carried, SlotOut, Ready, Steps, own_of}
use Rattle.atomic_driver.specs.Steps.{desk_at}
use Rattle.atomic_driver.specs.Steps.{Driven, ActsOnWord, ActsElse, ActsBy, Acts, Taken}
use Rattle.atomic_driver.proofs.Allowed.{word_is}

-- a region passes with a step where the office is in hand alone
none_given : (l : Local) (at : At) → (carry_of at ≡ in_hand → ⊥) → gives_at l at ≡ None
none_given l (At.Office job (OfficeAt.Remove given)) other = absurd (other refl)
none_given l (At.Office job _) other = refl
none_given l _ other = refl

away_given : (l : Local) → carry_of l.at ≡ away → gives_of l ≡ None
away_given l is = none_given l l.at (λ e. let z : away ≡ in_hand = sym is ∙ e in cc)

slot_given : (l : Local) → carry_of l.at ≡ in_slot → gives_of l ≡ None
slot_given l is = none_given l l.at (λ e. let z : in_slot ≡ in_hand = sym is ∙ e in cc)

module _ {D : Type 0} where
  -- the entries of a view of one seat
  own_entry : (k : Key) (es : List (Entry D)) (e : Entry D) → es ≡ e ∷ [] → own_of k es ≡ e
  own_entry k es e is = ap (own_of k) is

  -- where the office is in no hand, what a seat has in hand counts for nothing
  same_desk : (before : Carry) (hand now : Option D) (slots : List (ℕ × Option D)) → (before ≡ in_hand → now ≡ hand)
      → desk_at before now slots ≡ desk_at before hand slots
  same_desk away hand now slots same = refl
  same_desk in_slot hand now [] same = refl
  same_desk in_slot hand now (slot ∷ slots) same = refl
  same_desk in_hand hand now slots same = same refl

  -- what a step leaves in the slot that the seat has out, and of the office that it has
  pub record Left (c : Callback D) (given : Option ℕ) (after : Carry) (desk : Option D) (now : Option D)
      (slots : List (ℕ × Option D)) : Type 0 where
    pub passes : Passes c given desk (desk_at after now slots)
    pub out : SlotOut after (desk_at after now slots) slots

  out_again : (before : Carry) (hand now : Option D) (slots : List (ℕ × Option D))
      → SlotOut before (desk_at before hand slots) slots → SlotOut before (desk_at before now slots) slots
  out_again away hand now slots out = out
  out_again in_hand hand now slots out = out
  out_again in_slot hand now [] out = out
  out_again in_slot hand now (slot ∷ slots) out = out

  stays_passes : (c : Callback D) (before : Carry) (given : Option ℕ) (hand now : Option D) (slots : List (ℕ × Option D))
      → ((before ≡ in_hand → ⊥) → given ≡ None) → Passes c given hand now
      → Passes c given (desk_at before hand slots) (desk_at before now slots)
  stays_passes c in_hand given hand now slots bar passes = passes
  stays_passes c away given hand now slots bar passes =
      subst (λ g. Passes c g None None) (sym (bar (λ e. cc))) refl
  stays_passes c in_slot given hand now [] bar passes =
      subst (λ g. Passes c g None None) (sym (bar (λ e. cc))) refl
  stays_passes c in_slot given hand now (slot ∷ slots) bar passes =
      subst (λ g. Passes c g slot.1 slot.1) (sym (bar (λ e. cc))) refl

  left_by : (c : Callback D) (before after : Carry) (move : Move) (given : Option ℕ) (home hand now : Option D)
      (slots then_ : List (ℕ × Option D)) → Onward before move after → ((before ≡ in_hand → ⊥) → given ≡ None)
      → SlotOut before (desk_at before hand slots) slots → Carried move home slots then_ → Passes c given hand now
      → Left c given after (desk_after move home (desk_at before hand slots)) now then_
  left_by c before after stays given home hand now slots then_ on bar out carried passes =
      subst (λ z. Left c given z (desk_at before hand slots) now then_) (sym on)
      (subst (λ s. Left c given before (desk_at before hand slots) now s) (sym carried) (record {
        passes = stays_passes c before given hand now slots bar passes;
        out = out_again before hand now slots out;
      }))
  left_by c before after takes given home hand now slots then_ on bar out carried passes =
      let nothing = bar (λ e. let z : away ≡ in_hand = sym on.0 ∙ e in cc) in
      let bare : slots ≡ [] = subst (λ z. SlotOut z (desk_at z hand slots) slots) on.0 out in
      subst (λ z. Left c given z home now then_) (sym on.1)
      (subst (λ s. Left c given in_slot home now s) (sym carried.2) (record {
        passes = subst (λ g. Passes c g home home) (sym nothing) refl;
        out = ap (λ (s : List (ℕ × Option D)). (0, home) ∷ s) bare;
      }))
  left_by c before after gives given home hand now slots then_ on bar out carried passes =
      let nothing = bar (λ e. let z : in_slot ≡ in_hand = sym on.0 ∙ e in cc) in
      subst (λ z. Left c given z None now then_) (sym on.1)
      (subst (λ s. Left c given away None now s) (sym carried) (record {
        passes = subst (λ g. Passes c g None None) (sym nothing) refl;
        out = refl;
      }))

  only : (e : Entry D) (i : ℕ) (x : Entry D) → get_elem? (e ∷ []) i ≡ some x → x.seat + 0 ≡ e.seat + i
  only e zero x at = ap (λ (z : Entry D). z.seat + 0) (sym (some-injective e x at))
  only e (suc i) x at = absurd (some-ne-none x (sym at))

  module _ (c : Callback D) (k : Key) (Is : D → Type 0) (keeps : Keeps Is c) where
    -- a seat is driven where its local and desk come from its entry's
    pub driven_by : (l : Local) (desk hand : Option D) (e : Entry D) (me : Me (Option D) (View D))
        → me.0.entries ≡ e ∷ [] → me.0.note ≡ None → Silent c e.local e.desk l desk → HasDesk (carry_of l.at) desk
        → SlotOut (carry_of l.at) desk me.1 → desk_at (carry_of l.at) hand me.1 ≡ desk → Has Is desk
        → Driven c k Is l hand me
    driven_by l desk hand e me one note since has out same is =
        let own = own_entry k me.0.entries e one in
        record {
          one = one ∙ ap (λ (x : Entry D). x ∷ []) (sym own);
          unnoted = note;
          since = subst (λ (z : Option D). Silent c (own_of k me.0.entries).local (own_of k me.0.entries).desk l z)
              (sym same) (subst (λ (x : Entry D). Silent c x.local x.desk l desk) (sym own) since);
          has = subst (HasDesk (carry_of l.at)) (sym same) has;
          slots = subst (λ z. SlotOut (carry_of l.at) z me.1) (sym same) out;
          is_pools = subst (Has Is) (sym same) is;
        }

    -- what is known before the step of a seat's one entry
    pub ready : (l : Local) (hand : Option D) (me : Me (Option D) (View D)) → Driven c k Is l hand me
        → Ready c 0 (own_of k me.0.entries) l (desk_at (carry_of l.at) hand me.1) me
    ready l hand me d = record {
      unnoted = d.unnoted;
      there = ap (λ (es : List (Entry D)). get_elem? es 0) d.one;
      in_a_row = row;
      since = d.since;
      has = d.has;
      hands = d.slots;
    }
      where
        row : (i : ℕ) (x : Entry D) → get_elem? me.0.entries i ≡ some x → x.seat + 0 ≡ (own_of k me.0.entries).seat + i
        row i x at = only (own_of k me.0.entries) i x
            (subst (λ (es : List (Entry D)). get_elem? es i ≡ some x) d.one at)

    module _ (l : Local) (hand now : Option D) (w : Word) (me next : Me (Option D) (View D))
        (f : ℕ) (d : Driven c k Is l hand me) (word : word_of (course l) ≡ some w)
        (s : Steps Is 0 (own_of k me.0.entries) l (desk_at (carry_of l.at) hand me.1) me f next)
        (passes : Passes c (gives_of l) hand now) where
      abbrev e : Entry D
      e = own_of k me.0.entries

      abbrev desk : Option D
      desk = desk_at (carry_of l.at) hand me.1

      abbrev seen : Seen
      seen = seen_by (course l) f

      onward : Onward (carry_of l.at) (move_of l.at f) (carry_of (learn l (seen_by (course l) f)).0.at)
      onward = (steps_go_onward l f (word_is (course l) w word)).carry

      entries_after : next.0.entries ≡ learnt e l s.home desk f ∷ []
      entries_after = ap (λ (v : View D). v.entries) s.view_is
          ∙ ap (λ (es : List (Entry D)). slice_set es 0 (learnt e l s.home desk f)) d.one

      left : Left c (gives_of l) (carry_of (learn l (seen_by (course l) f)).0.at)
          (desk_after (move_of l.at f) s.home desk) now next.1
      left = left_by c (carry_of l.at) _ (move_of l.at f) (gives_of l) s.home hand now me.1 next.1 onward
          (none_given l l.at) d.slots s.slots passes

      since : Silent c (learn l (seen_by (course l) f)).0 (desk_after (move_of l.at f) s.home desk)
          (learn l (seen_by (course l) f)).0 (desk_at (carry_of (learn l (seen_by (course l) f)).0.at) now next.1)
      since = rests (subst (λ g. Passes c g (desk_after (move_of l.at f) s.home desk)
          (desk_at (carry_of (learn l (seen_by (course l) f)).0.at) now next.1))
          (sym (steps_go_onward l f (word_is (course l) w word)).passed) left.passes)

      from : move_of l.at f ≡ takes → IsHome s.home
      from is = taken (move_of l.at f) s.slots is
        where
          taken : (move : Move) → Carried move s.home me.1 next.1 → move ≡ takes → IsHome s.home
          taken takes carried is = (carried.0, carried.1)
          taken stays carried is = absurd (cc)
          taken gives carried is = absurd (cc)

      pub drives : (l' : Local) (turn : Turn) → (l', turn) ≡ learn l (seen_by (course l) f) → Driven c k Is l' now next
      drives l' turn is = subst (λ (z : Local × Turn). Driven c k Is z.0 now next) (sym is)
          (driven_by (learn l (seen_by (course l) f)).0
          (desk_at (carry_of (learn l (seen_by (course l) f)).0.at) now next.1) now (learnt e l s.home desk f) next
          entries_after
          (ap (λ (v : View D). v.note) s.view_is)
          since
          (silence_keeps_desk since (has_step (carry_of l.at) _ (move_of l.at f) s.home desk onward d.has from))
          left.out refl
          (silence_keeps Is c keeps since (desk_has Is c keeps (move_of l.at f) s.home desk s.is_pools d.is_pools)))

      pub acts : (l' : Local) (turn : Turn) → (l', turn) ≡ learn l (seen_by (course l) f)
          → Acts l e l' (own_of k next.0.entries) turn
      acts l' turn is = subst (λ b. ActsBy b l e l' (own_of k next.0.entries) turn)
          (sym (word_is (course l) w word)) (record {
            found = f;
            desk = desk;
            home = s.home;
            learns = sym is;
            entry = own_entry k next.0.entries (learnt e l s.home desk f) entries_after;
          })

    -- a turn without a step
    pub idles : (l l' : Local) (turn : Turn) (entry : Entry D) (told : Seen) → has_word (course l) ≡ false
        → (course l ≡ Nothing → told ≡ Seen.Done) → (l', turn) ≡ learn l told → Acts l entry l' entry turn
    idles l l' turn entry told wordless done is = subst (λ b. ActsBy b l entry l' entry turn) (sym wordless) (record {
      seen = told;
      learns = sym is;
      entry = refl;
      done = done;
    })

    -- the same desk, where the office stays where it is
    moved : (l l' : Local) (hand : Option D) (me : Me (Option D) (View D)) → Driven c k Is l hand me
        → carry_of l'.at ≡ carry_of l.at
        → Silent c (own_of k me.0.entries).local (own_of k me.0.entries).desk l' (desk_at (carry_of l.at) hand me.1)
        → Driven c k Is l' hand me
    moved l l' hand me d same since = driven_by l' (desk_at (carry_of l.at) hand me.1) hand (own_of k me.0.entries) me
        d.one d.unnoted since
        (subst (λ z. HasDesk z (desk_at (carry_of l.at) hand me.1)) (sym same) d.has)
        (subst (λ z. SlotOut z (desk_at (carry_of l.at) hand me.1) me.1) (sym same) d.slots)
        (ap (λ z. desk_at z hand me.1) same) d.is_pools

    -- a call begins
    pub begins_call : (l : Local) (request : Request) (hand : Option D) (me : Me (Option D) (View D))
        → Driven c k Is l hand me → Driven c k Is (begun l request).0 hand me
    begins_call l request hand me d =
        moved l (begun l request).0 hand me d ((other_turns_lead l).begins request) (begins d.since request)

    -- a turn that answers with no step
    pub answers_at_once : (l l' : Local) (turn : Turn) (hand : Option D) (me : Me (Option D) (View D))
        → Driven c k Is l hand me → course l ≡ Nothing → (l', turn) ≡ learn l Seen.Done → Driven c k Is l' hand me
    answers_at_once l l' turn hand me d e is =
        let places = (other_turns_lead l).answers e in
        subst (λ (z : Local × Turn). Driven c k Is z.0 hand me) (sym is)
        (moved l (learn l Seen.Done).0 hand me d (places.to ∙ sym places.from) (answers d.since e))

    -- where the office's place is, before it is taken out of its slot and before it is put back
    takes_from : (l : Local) (job : OfficeJob) → course l ≡ TakeOffice job → carry_of l.at ≡ in_slot
    takes_from l (OfficeJob.Obtain granules) e =
        ((other_turns_lead l).obtains granules (Err ObtainError.RawFailed) e).from
    takes_from l (OfficeJob.Give first) e = ((other_turns_lead l).takes_out first e).from

    -- the seat has the slot, with the office in it
    pub record InSlot (l : Local) (hand : Option D) (me : Me (Option D) (View D)) : Type 0 where
      pub one : D
      pub desk_is : desk_at (carry_of l.at) hand me.1 ≡ Some one
      pub slots_are : me.1 ≡ (0, Some one) ∷ []
      pub is_pools : Is one

    pub in_the_slot : (l : Local) (job : OfficeJob) (hand : Option D) (me : Me (Option D) (View D))
        → Driven c k Is l hand me → course l ≡ TakeOffice job → InSlot l hand me
    in_the_slot l job hand me d e =
        let at = takes_from l job e in
        let has = subst (λ z. HasDesk z (desk_at (carry_of l.at) hand me.1)) at d.has in
        let out = subst (λ z. SlotOut z (desk_at (carry_of l.at) hand me.1) me.1) at d.slots in
        record {
          one = has.0;
          desk_is = has.1;
          slots_are = out ∙ ap (λ (z : Option D). (0, z) ∷ []) has.1;
          is_pools = d.is_pools has.0 has.1;
        }

    -- the slot's place before it is put back
    pub out_of_slot : (l : Local) (hand : Option D) (me : Me (Option D) (View D)) → Driven c k Is l hand me
        → course l ≡ GiveOffice → (left : Option D) × (me.1 ≡ (0, left) ∷ [])
    out_of_slot l hand me d e =
        subst (λ z. SlotOut z (desk_at (carry_of l.at) hand me.1) me.1) ((other_turns_lead l).puts_back e).from d.slots

    -- the office is taken out of its slot
    takes_up_by : (l : Local) (job : OfficeJob) (one after : D) (told : Seen) (e : Entry D)
        → Silent c e.local e.desk l (Some one) → course l ≡ TakeOffice job → Taken c job one told after
        → Silent c e.local e.desk (learn l told).0 (Some after) × (carry_of (learn l told).0.at ≡ in_hand)
    takes_up_by l (OfficeJob.Obtain granules) one after told e since is (answer, told_is, asked) =
        subst (λ z. Silent c e.local e.desk (learn l z).0 (Some after) × (carry_of (learn l z).0.at ≡ in_hand))
        (sym told_is)
        (obtains since granules answer after is asked, ((other_turns_lead l).obtains granules answer is).to)
    takes_up_by l (OfficeJob.Give first) one after told e since is (told_is, same) =
        subst (λ z. Silent c e.local e.desk (learn l z).0 (Some after) × (carry_of (learn l z).0.at ≡ in_hand))
        (sym told_is)
        (subst (λ z. Silent c e.local e.desk (learn l Seen.Given).0 (Some z)
        × (carry_of (learn l Seen.Given).0.at ≡ in_hand)) (sym same)
        (takes_out since first is, ((other_turns_lead l).takes_out first is).to))

    taken_is : (job : OfficeJob) (one : D) (told : Seen) (after : D) → Taken c job one told after → Is one → Is after
    taken_is (OfficeJob.Obtain granules) one told after (answer, told_is, asked) is =
        keeps.asks one granules answer after asked is
    taken_is (OfficeJob.Give first) one told after (told_is, same) is = subst Is (sym same) is

    some_one : (a b : D) → Some a ≡ Some b → a ≡ b
    some_one a b e = cc

    pub takes_up : (l l' : Local) (turn : Turn) (job : OfficeJob) (hand : Option D) (one after : D) (told : Seen)
        (left : Option D) (me next : Me (Option D) (View D)) → Driven c k Is l hand me → course l ≡ TakeOffice job
        → me.1 ≡ (0, Some one) ∷ rest me.1 → next ≡ (me.0, (0, left) ∷ rest me.1) → Taken c job one told after
        → (l', turn) ≡ learn l told → Driven c k Is l' (Some after) next
    takes_up l l' turn job hand one after told left me next d e first_is next_is taken is =
        let slot = in_the_slot l job hand me d e in
        let bare : rest me.1 ≡ [] = ap rest slot.slots_are in
        let same : Some slot.one ≡ Some one = ap head_or (sym slot.slots_are ∙ first_is) in
        let since = subst (Silent c (own_of k me.0.entries).local (own_of k me.0.entries).desk l) (slot.desk_is ∙ same)
        d.since in
        let up = takes_up_by l job one after told (own_of k me.0.entries) since e taken in
        subst (λ (z : Local × Turn). Driven c k Is z.0 (Some after) next) (sym is)
        (subst (Driven c k Is (learn l told).0 (Some after)) (sym next_is)
        (driven_by (learn l told).0 (Some after) (Some after) (own_of k me.0.entries) (me.0, (0, left) ∷ rest me.1)
        d.one d.unnoted up.0
        (subst (λ z. HasDesk z (Some after)) (sym up.1) (after, refl))
        (subst (λ z. SlotOut z (Some after) ((0, left) ∷ rest me.1)) (sym up.1)
        (left, ap (λ (z : List (ℕ × Option D)). (0, left) ∷ z) bare))
        (ap (λ z. desk_at z (Some after) ((0, left) ∷ rest me.1)) up.1)
        (has_some Is after (taken_is job one told after taken (subst Is (some_one slot.one one same) slot.is_pools)))))
      where
        head_or : List (ℕ × Option D) → Option D
        head_or [] = None
        head_or (entry ∷ entries) = entry.1

    -- the office is put back
    pub gives_back : (l l' : Local) (turn : Turn) (hand now : Option D) (me next : Me (Option D) (View D))
        → Driven c k Is l hand me → course l ≡ GiveOffice → next ≡ (me.0, (0, hand) ∷ rest me.1)
        → (l', turn) ≡ learn l Seen.Done → Driven c k Is l' now next
    gives_back l l' turn hand now me next d e next_is is =
        let places = (other_turns_lead l).puts_back e in
        let bare : rest me.1 ≡ [] = ap rest (out_of_slot l hand me d e).1 in
        let in_it : desk_at (carry_of l.at) hand me.1 ≡ hand = ap (λ z. desk_at z hand me.1) places.from in
        let has = subst (λ z. HasDesk z (desk_at (carry_of l.at) hand me.1)) places.from d.has in
        subst (λ (z : Local × Turn). Driven c k Is z.0 now next) (sym is)
        (subst (Driven c k Is (learn l Seen.Done).0 now) (sym next_is)
        (driven_by (learn l Seen.Done).0 hand now (own_of k me.0.entries) (me.0, (0, hand) ∷ rest me.1) d.one d.unnoted
        (subst (Silent c (own_of k me.0.entries).local (own_of k me.0.entries).desk (learn l Seen.Done).0) in_it
        (puts_back d.since e))
        (subst (λ z. HasDesk z hand) (sym places.to) (subst (HasDesk in_hand) in_it has))
        (subst (λ z. SlotOut z hand ((0, hand) ∷ rest me.1)) (sym places.to)
        (ap (λ (z : List (ℕ × Option D)). (0, hand) ∷ z) bare))
        (ap (λ z. desk_at z now ((0, hand) ∷ rest me.1)) places.to)
        (subst (Has Is) in_it d.is_pools)))
