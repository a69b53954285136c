-- A load by which a place comes to know all, and one by which it forgets that, keep the rule of the table.
use Rattle.std.proofs.Common.{◌≡◌, ◌≢◌, ℕ, ◌<◌, ◌≤◌, List, [], ◌∷◌, length, refl, sym, ap, ◌∙◌, subst}
use Rattle.std.proofs.Common.{inl, inr, ⊎_elim, arith}
use Rattle.std.specs.Prelude.{Option, Some, None, slice_set}
use Rattle.std.proofs.lemmas.Bool.{cases_lt}
use Rattle.std.proofs.lemmas.List.{set-get_or}
use mathlib.Core.Option as maybe
use mathlib.Core.Option.{some, none, some-injective, some-ne-none}
use lib.ListN.{get_elem?}
use Rattle.atomic_table.specs.Table.{State, Me, Act, homes_after, carried_after, Allows}
use Rattle.atomic_table.proofs.Lists.{at_set, set_here}
use Rattle.pool_words.specs.declared.words.Key.{Key}
use Rattle.step_runs.specs.declared.entry.Entry.{Entry}
use Rattle.step_runs.specs.Runs.{Callback, Run}
use Rattle.step_runs.proofs.CallerLemmas.{IsHome, Keeps, run_keeps}
use Rattle.atomic_driver.specs.declared.rule.Note.{Note}
use Rattle.atomic_driver.specs.declared.rule.View.{View}
use Rattle.atomic_driver.specs.Rule.{Rule, Tied, Noted, IsNoted, home_of, plain}
use Rattle.atomic_driver.proofs.CallerLemmas.{at_low, at_some, in_slot_by, no_note}
use Rattle.quiet_laws.proofs.CallerLemmas.{lies_at_home}
use Rattle.quiet_pool.specs.Noting.{IsAll, IsWhole, Notes, Forgets, noted}
use Rattle.quiet_pool.proofs.Places.{rule_at}

module _ {D : Type 0} where
  -- the one slot, with what lies in it
  lies_in : (homes : List (maybe.Option (Option D))) (office : D) → length homes ≡ 1 → home_of homes ≡ Some office
      → get_elem? homes 0 ≡ some (some (Some office))
  lies_in [] office one e = absurd (omega arith)
  lies_in (none ∷ homes) office one e = absurd (cc)
  lies_in (some x ∷ homes) office one e = ap (λ y. some (some y)) e

  back_in : (homes : List (maybe.Option (Option D))) (office : D) → length homes ≡ 1
      → home_of (slice_set homes 0 (some (Some office))) ≡ Some office
  back_in [] office one = absurd (omega arith)
  back_in (x ∷ homes) office one = refl

  same_note : (a b : Note D) → Some a ≡ Some b → a ≡ b
  same_note a b e = cc

  module _ (c : Callback D) (k : Key) (IsFirst Is : D → Type 0) (keeps : Keeps Is c)
      (first_is : (one : D) → IsFirst one → Is one) (some_ : 0 < k.seats) where
    -- the views, of which one was changed: it has the entries that it had
    tied_same : (all : ℕ → Entry D) (owner : ℕ → ℕ) (views : List (View D)) (id : ℕ) (old now : View D)
        → Tied k all owner views → get_elem? views id ≡ some old → now.entries ≡ old.entries
        → Tied k all owner (slice_set views id now)
    tied_same all owner views id old now tied at same id2 v j e at_v at_e = ⊎_elim
        (λ (here : (id2 ≡ id) × (now ≡ v)).
        let mine = tied id old j e at (subst (λ (es : List (Entry D)). get_elem? es j ≡ some e) same
        (subst (λ (y : View D). get_elem? y.entries j ≡ some e) (sym here.1) at_e)) in
        record { owned = mine.owned ∙ sym here.0; entry = mine.entry; low = mine.low })
        (λ (there : (id2 ≢ id) × (get_elem? views id2 ≡ some v)). tied id2 v j e there.1 at_e)
        (at_set views id id2 now v at_v)

    module _ (id : ℕ) (me : Me (Option D) (View D)) (all : IsAll k me.0.entries)
        (is_plain : me ≡ (plain me.0.entries, [])) (s : State (Option D) (View D))
        (r : Rule c k IsFirst s.words (home_of s.homes) s.views) (one : length s.homes ≡ 1)
        (at : get_elem? s.views id ≡ some me.0) where
      abbrev es : List (Entry D)
      es = me.0.entries

      bare : me.0.note ≡ None
      bare = ap (λ (z : Me (Option D) (View D)). z.0.note) is_plain

      -- the entry of a seat
      record HasEntry (seat : ℕ) : Type 0 where
        e : Entry D
        at_e : get_elem? es seat ≡ some e
        is : r.all seat ≡ e
        owned : r.owner seat ≡ id

      tied_at : (seat : ℕ) (e : Entry D) → get_elem? es seat ≡ some e → (r.all seat ≡ e) × (r.owner seat ≡ id)
      tied_at seat e at_e =
          let old = r.tied id me.0 seat e at at_e in
          let number = all.each seat e at_e in
          (ap r.all (sym number) ∙ old.entry, ap r.owner (sym number) ∙ old.owned)

      entry_at : (seat : ℕ) → seat < k.seats → HasEntry seat
      entry_at seat low =
          let p = at_some es seat (let many = all.many in omega arith) in
          let q = tied_at seat p.0 p.1 in
          record { e = p.0; at_e = p.1; is = q.0; owned = q.1 }

      away_all : (seat : ℕ) → (r.all seat).desk ≡ None
      away_all seat = ⊎_elim
          (λ (low : seat < k.seats). let h = entry_at seat low in
          ap (λ (x : Entry D). x.desk) h.is ∙ all.none seat h.e h.at_e)
          (λ (high : k.seats ≤ seat). ap (λ (x : Entry D). x.desk) (r.others seat high))
          (cases_lt seat k.seats)

      lies : IsHome r.home
      lies = lies_at_home r.run away_all

      abbrev office : D
      office = lies.0

      in_slot : home_of s.homes ≡ Some office
      in_slot = let first = entry_at 0 some_ in
          in_slot_by c k IsFirst s.words (home_of s.homes) s.views r id me.0 0 first.e at first.at_e bare ∙ lies.1

      abbrev now : View D
      now = noted es s.words office

      noted_now : Noted k s.words r.home r.owner (slice_set s.views id now)
      noted_now id2 v note at_v is_note = ⊎_elim
          (λ (here : (id2 ≡ id) × (now ≡ v)).
          let same = same_note (record { words = s.words; office = office }) note
          (ap (λ (y : View D). y.note) here.1 ∙ is_note) in
          record {
            words_are = ap (λ (n : Note D). n.words) same;
            office_is = lies.1 ∙ ap (λ (n : Note D). Some n.office) same;
            owns = λ seat low. (entry_at seat low).owned ∙ sym here.0;
          })
          (λ (there : (id2 ≢ id) × (get_elem? s.views id2 ≡ some v)).
          let old = r.noted id2 v note there.1 is_note in
          absurd (there.0 (sym (old.owns 0 some_) ∙ (entry_at 0 some_).owned)))
          (at_set s.views id id2 now v at_v)

      whole : IsWhole c k IsFirst s.words office es
      whole = record {
        first = r.first;
        is_first = r.is_first;
        all = r.all;
        run = subst (λ (h : Option D). Run c k r.first s.words h r.all) lies.1 r.run;
        each = λ seat e at_e. (tied_at seat e at_e).0;
        others = r.others;
      }

      -- the rule, where the place has noted all and taken the office
      rule_now : (slot : Option D) → Rule c k IsFirst s.words slot (slice_set s.views id now)
      rule_now slot = record {
        first = r.first;
        is_first = r.is_first;
        home = r.home;
        lies = inr (record {
          id = id;
          view = now;
          note = record { words = s.words; office = office };
          at = set_here s.views id now (at_low s.views id me.0 at);
          noted = refl;
        });
        all = r.all;
        owner = r.owner;
        run = r.run;
        others = r.others;
        tied = tied_same r.all r.owner s.views id me.0 now r.tied at refl;
        noted = noted_now;
      }

    -- the place that has all seats notes all words, and takes the office
    pub notes : (slots id : ℕ) (me : Me (Option D) (View D)) (i : ℕ) → slots ≡ 1 → IsAll k me.0.entries
        → me ≡ (plain me.0.entries, []) → Allows (rule_at c k IsFirst) slots id me i (λ n. n)
        (λ n. Notes c k IsFirst Is me)
    notes slots id me i one all is_plain s r len at bounded =
        let single = len ∙ one in
        let home = lies id me all is_plain s r single at in (
          now id me all is_plain s r single at,
          Act.takes 0 (Some home.0),
          lies_in s.homes home.0 single (in_slot id me all is_plain s r single at),
          subst (λ (ws : List ℕ). Rule c k IsFirst ws (home_of (slice_set s.homes 0 none))
              (slice_set s.views id (now id me all is_plain s r single at)))
              (sym (set-get_or s.words i 0)) (rule_now id me all is_plain s r single at (home_of
              (slice_set s.homes 0 none))),
          record {
            words = s.words;
            office = home.0;
            me_is = ap (λ (slots : List (ℕ × Option D)). (
              now id me all is_plain s r single at,
              (0, Some home.0) ∷ slots,
            ))
                (ap (λ (z : Me (Option D) (View D)). z.1) is_plain);
            whole = whole id me all is_plain s r single at;
            is_pools = (run_keeps Is c keeps (first_is r.first r.is_first) r.run).home_has home.0 home.1;
          },
        )

    module _ (id : ℕ) (me : Me (Option D) (View D)) (words : List ℕ) (office : D)
        (is_noted : me ≡ (noted me.0.entries words office, (0, Some office) ∷ [])) (s : State (Option D) (View D))
        (r : Rule c k IsFirst s.words (home_of s.homes) s.views) (one : length s.homes ≡ 1)
        (at : get_elem? s.views id ≡ some me.0) where
      abbrev bare_now : View D
      bare_now = plain me.0.entries

      mine : IsNoted k s.words r.home r.owner id (record { words = words; office = office })
      mine = r.noted id me.0 (record { words = words; office = office }) at
          (ap (λ (z : Me (Option D) (View D)). z.0.note) is_noted)

      rule_back : Rule c k IsFirst s.words (home_of (slice_set s.homes 0 (some (Some office))))
          (slice_set s.views id bare_now)
      rule_back = record {
        first = r.first;
        is_first = r.is_first;
        home = r.home;
        lies = inl (back_in s.homes office one ∙ sym mine.office_is);
        all = r.all;
        owner = r.owner;
        run = r.run;
        others = r.others;
        tied = tied_same r.all r.owner s.views id me.0 bare_now r.tied at refl;
        noted = λ id2 v other at_v is_note. ⊎_elim
            (λ (here : (id2 ≡ id) × (bare_now ≡ v)). absurd (no_note bare_now v other here.1 refl is_note))
            (λ (there : (id2 ≢ id) × (get_elem? s.views id2 ≡ some v)).
            let old = r.noted id2 v other there.1 is_note in
            absurd (there.0 (sym (old.owns 0 some_) ∙ mine.owns 0 some_)))
            (at_set s.views id id2 bare_now v at_v);
      }

    -- the place gives the office back, and knows nothing more of the words
    pub forgets : (slots id : ℕ) (me : Me (Option D) (View D)) (i : ℕ) (words : List ℕ) (office : D) → slots ≡ 1
        → me ≡ (noted me.0.entries words office, (0, Some office) ∷ [])
        → Allows (rule_at c k IsFirst) slots id me i (λ n. n) (λ n. Forgets me)
    forgets slots id me i words office one is_noted s r len at bounded =
        let out : me.1 ≡ (0, Some office) ∷ [] = ap (λ (z : Me (Option D) (View D)). z.1) is_noted in (
          plain me.0.entries,
          Act.gives,
          tt,
          subst (λ (z : List ℕ × List (ℕ × Option D)). Rule c k IsFirst z.0 (home_of
              (homes_after s.homes z.1 Act.gives))
              (slice_set s.views id (plain me.0.entries)))
              (λ x. (sym (set-get_or s.words i 0) x, sym out x))
              (rule_back id me words office is_noted s r (len ∙ one) at),
          ap (λ (slots : List (ℕ × Option D)). (plain me.0.entries, carried_after slots Act.gives)) out,
        )
