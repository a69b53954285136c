-- Where the office lies while no seat has taken it.
use Rattle.std.proofs.Common.{◌≡◌, ◌≢◌, ◌⊎◌, ℕ, true, false, List, refl, sym, ap, subst, ◌∙◌, inl, inr, ⊎_elim}
use Rattle.std.specs.Prelude.{Option, Some, None, eqb}
use Rattle.std.proofs.lemmas.Bool.Decides.{eqb_tells}
use Rattle.pool_words.specs.declared.words.Key.{Key}
use Rattle.pool_words.specs.Actions.{finds}
use Rattle.word_laws.specs.Memory.{put, memory}
use Rattle.word_laws.proofs.CallerLemmas.{put_here, put_else, actions_act_by_kind}
use Rattle.step_local.specs.Course.{course}
use Rattle.step_local.specs.declared.frames.Local.{Local}
use Rattle.step_runs.specs.declared.entry.Entry.{Entry}
use Rattle.step_runs.specs.Entries.{desk_after, learnt}
use Rattle.step_runs.specs.Laws.{Onward}
use Rattle.step_runs.specs.Places.{has_word, Carry, away, in_slot, in_hand, carry_of, HasDesk, Move, stays, takes}
use Rattle.step_runs.specs.Places.{gives}
use Rattle.step_runs.specs.Places.{move_of}
use Rattle.step_runs.specs.Runs.{Callback, Silent, home_after, Run}
use Rattle.step_runs.specs.Runs.Silent.{rests, begins, resets, answers, obtains, takes_out, puts_back}
use Rattle.step_runs.specs.Runs.Run.{opened, stepped}
use Rattle.step_runs.proofs.CallerLemmas.{steps_go_onward, other_turns_lead, IsHome, takes_free, silence_keeps_desk}
use Rattle.step_runs.proofs.CallerLemmas.{run_stands}

module _ {D : Type 0} where
  -- a seat that has not taken the office had not taken it at its last step
  pub leaves_away : {c : Callback D} {l : Local} {desk : Option D} {now : Local} {after : Option D}
      → Silent c l desk now after → carry_of now.at ≡ away → carry_of l.at ≡ away
  leaves_away (rests passes) e = e
  leaves_away (begins {now = now} silent request) e =
      leaves_away silent (sym ((other_turns_lead now).begins request) ∙ e)
  leaves_away (resets {now = now} silent reset) e = leaves_away silent (sym ((other_turns_lead now).resets reset) ∙ e)
  leaves_away (answers {now = now} silent is) e = leaves_away silent ((other_turns_lead now).answers is).from
  leaves_away (obtains {now = now} silent granules answer after is asks) e =
      let to = ((other_turns_lead now).obtains granules answer is).to in absurd (cc)
  leaves_away (takes_out {now = now} silent first is) e =
      let to = ((other_turns_lead now).takes_out first is).to in absurd (cc)
  leaves_away (puts_back {now = now} silent is) e = let to = ((other_turns_lead now).puts_back is).to in absurd (cc)

  -- the office lies at home, or a seat has it
  abbrev Lies : Option D → (ℕ → Entry D) → Type 0
  Lies home entries = IsHome home ⊎ ((seat : ℕ) × IsHome (entries seat).desk)

  -- a seat that has the office keeps it between its steps
  keeps_office : {c : Callback D} {l : Local} {desk : Option D} {now : Local} {after : Option D}
      → Silent c l desk now after → HasDesk (carry_of l.at) desk → IsHome desk → IsHome after
  keeps_office {c} {l} {desk} {now} {after} silent has is = by (carry_of now.at) refl (silence_keeps_desk silent has)
    where
      none_here : (carry : Carry) → carry ≡ away → HasDesk carry desk → IsHome desk → ⊥
      none_here away e none some_ = let q : None ≡ Some some_.0 = sym none ∙ some_.1 in cc
      none_here in_slot e none some_ = cc
      none_here in_hand e none some_ = cc

      by : (carry : Carry) → carry_of now.at ≡ carry → HasDesk carry after → IsHome after
      by in_slot e there = there
      by in_hand e there = there
      by away e none = absurd (none_here (carry_of l.at) (leaves_away silent e) has is)

  -- what a step of a seat that had or had not the office leaves of where it lies
  lies_step : (before now : Carry) (move : Move) (home desk : Option D) → Onward before move now
      → HasDesk before desk → (move ≡ takes → IsHome home) → IsHome home ⊎ IsHome desk
      → IsHome (home_after move home desk) ⊎ IsHome (desk_after move home desk)
  lies_step before now stays home desk on has from lies = lies
  lies_step before now takes home desk on has from lies = inr (from refl)
  lies_step before now gives home desk on has from lies = inl (subst (λ c. HasDesk c desk) on.0 has)

  -- a step, where what the office is like before it is known
  module _ {c : Callback D} {k : Key} {first : D} {words : List ℕ} {home : Option D} {entries : ℕ → Entry D}
      (run : Run c k first words home entries) (seat : ℕ) (l : Local) (desk : Option D)
      (silent : Silent c (entries seat).local (entries seat).desk l desk) (word : has_word (course l) ≡ true) where
    abbrev f : ℕ
    f = finds k words (course l)

    abbrev entry : Entry D
    entry = learnt (entries seat) l home desk f

    abbrev LiesNow : Type 0
    LiesNow = Lies (home_after (move_of l.at f) home desk) (put entries seat entry)

    from : move_of l.at f ≡ takes → IsHome home
    from e =
        let stands = run_stands run in
        let acts = actions_act_by_kind k words (course l) stands.sized in
        stands.free (takes_free (memory k words) l l.at (ap (move_of l.at) (sym acts.sees) ∙ e))

    mine : IsHome home ⊎ IsHome desk → LiesNow
    mine lies = ⊎_elim
        (λ (at_home : IsHome (home_after (move_of l.at f) home desk)). inl at_home)
        (λ (with_seat : IsHome (desk_after (move_of l.at f) home desk)).
        inr (seat, subst (λ (e : Entry D). IsHome e.desk) (sym (put_here entries seat seat entry refl)) with_seat))
        (lies_step (carry_of l.at) _ (move_of l.at f) home desk (steps_go_onward l f word).carry
        (silence_keeps_desk silent ((run_stands run).desks seat)) from lies)

    elsewhere : (other : ℕ) → other ≢ seat → IsHome (entries other).desk → LiesNow
    elsewhere other differ is =
        inr (
          other,
          subst (λ (e : Entry D). IsHome e.desk)
              (sym (put_else entries seat other entry (λ (q : seat ≡ other). differ (sym q)))) is,
        )

    there : (other : ℕ) × IsHome (entries other).desk → LiesNow
    there with_other = ⊎_elim
        (λ (z : (eqb with_other.0 seat ≡ true) × (with_other.0 ≡ seat)).
        mine (inr (keeps_office silent ((run_stands run).desks seat)
        (subst (λ (s : ℕ). IsHome (entries s).desk) z.1 with_other.1))))
        (λ (z : (eqb with_other.0 seat ≡ false) × (with_other.0 ≢ seat)). elsewhere with_other.0 z.1 with_other.1)
        (eqb_tells with_other.0 seat)

    lies_now : Lies home entries → LiesNow
    lies_now lies = ⊎_elim (λ (at_home : IsHome home). mine (inl at_home)) there lies

  -- in each state of a run the office lies at home, or a seat has it
  lies_in_run : {c : Callback D} {k : Key} {first : D} {words : List ℕ} {home : Option D} {entries : ℕ → Entry D}
      → Run c k first words home entries → Lies home entries
  lies_in_run {first = first} opened = inl (first, refl)
  lies_in_run (stepped run seat l desk silent word) = lies_now run seat l desk silent word (lies_in_run run)

  -- where no seat has taken the office, it lies at home
  pub lies_at_home : {c : Callback D} {k : Key} {first : D} {words : List ℕ} {home : Option D} {entries : ℕ → Entry D}
      → Run c k first words home entries → ((seat : ℕ) → (entries seat).desk ≡ None) → IsHome home
  lies_at_home {entries = entries} run none = ⊎_elim
      (λ (at_home : IsHome _). at_home)
      (λ (with_seat : (seat : ℕ) × IsHome (entries seat).desk).
      let q : None ≡ Some with_seat.1.0 = sym (none with_seat.0) ∙ with_seat.1.1 in absurd (cc))
      (lies_in_run run)
