-- Mallocs that get an object.
use Rattle.std.proofs.Common.{◌≡◌, ℕ, ◌+◌, ◌-◌, ◌^◌, ◌<◌, ◌≤◌, true, false, List, [], ◌∷◌, ◌++◌, Some, None, refl, sym, ◌∙◌, ap, arith, subst}
use Rattle.std.proofs.lemmas.Bool.{OnTrue_from}
use Rattle.pool_types.specs.declared.values.Request.TheVariants.{Malloc}
use Rattle.part_model.specs.declared.holders.Holder.TheVariants.{Object, Hand}
use Rattle.part_model.specs.declared.moves.Part.{Part}
use Rattle.size_classes.specs.Classes.{class_size, class_objects, class_of}
use Rattle.machine.specs.States.{State, fixed_terms}
use Rattle.machine.specs.Journal.{Turn, Nothing_seen, is_object, after_turn, after_turns}
use Rattle.machine.specs.Suits.{Suits}
use Rattle.machine.specs.Answers.{Moment, IsAccepted, moved_parts, lasting, ended}
use Rattle.machine.proofs.CallerLemmas.{malloc_accepted, each-append}
use Rattle.plain_lists.specs.Lists.{OwnSlab, Lists, next_object}
use Rattle.plain_lists.specs.Whole.{grant_of, got, place_at}
use Rattle.plain_runs.specs.Steps.{one_region, giver, grant_step}
use Rattle.plain_runs.proofs.Moves.{IsMade}
use Rattle.plain_runs.proofs.Courses.{call_with, moment, moments_of, quiet_from, quiet_none, ended_none, lasting_one, moved_parts-append, at_last, CallRuns, call_runs, Opens, NoTick, cleaned_from, due_after-append, quiet_small}
use Rattle.plain_runs.proofs.LaidOut.{Holds}
use Rattle.plain_runs.proofs.GrantSteps.{object_part}
use Rattle.plain_runs.proofs.Legal.{never, none_in_hand, object_suits, calm_pool}
use Rattle.machine.specs.Cleaning.{is_large}
use Rattle.machine.specs.Turns.{Nothing_due}
use Rattle.machine.specs.Ranges.{Each}
use Rattle.size_classes.specs.declared.Served.TheVariants.{Small}
use Rattle.size_classes.proofs.CallerLemmas.{served_plain-small}

-- what a malloc of this size needs to know
pub record IsAsked (state : State) (lists : Lists) (size class : ℕ) : Type 0 where
  pub small : size ≤ 8128
  pub found : class_of size ≡ Some class
  pub room : lists.granted < 2 ^ 55 - 1
  pub holds : Holds state lists

-- the call is accepted
pub accepted : (state : State) (lists : Lists) (size class : ℕ) (moments : List Moment) → IsAsked state lists size class → IsAccepted fixed_terms (call_with state (Malloc size) moments)
accepted state lists size class moments asked =
    let last = asked.holds.knows.last_is in
    malloc_accepted fixed_terms (call_with state (Malloc size) moments) size class refl asked.found (λ same. omega (arith, asked.room, last, same))

-- what a slab gives is no object
pub giver_no_object : (private : List ℕ) → is_object (Some (giver private)) ≡ false
giver_no_object [] = refl
giver_no_object (object ∷ private) = refl

-- and no large object's
pub giver_small : (slab : OwnSlab) (object : ℕ) (private : List ℕ) (number : ℕ) → is_large (object_part slab object (Some (giver private)) (Some (Object (grant_of number)))) ≡ false
giver_small slab object [] number = refl
giver_small slab object (first ∷ private) number = refl

-- quiet steps, and then a grant
pub got_runs : (state : State) (lists lists' : Lists) (size : ℕ) (slab : OwnSlab) (turns : List Turn) (number : ℕ) → IsAsked state lists size slab.class → Opens (Malloc size) state turns →
    IsMade (after_turns state turns) (grant_step slab number).parts [] None → next_object slab < class_objects slab.class → slab.index + 2 ≤ 128 → (after_turns state turns).regions ≡ one_region ∷ [] →
    Holds (after_turn (after_turns state turns) (grant_step slab number)) lists' →
    CallRuns state (Malloc size) (turns ++ grant_step slab number ∷ []) (after_turn (after_turns state turns) (grant_step slab number))
got_runs state lists lists' size slab turns number asked opens made exists inside regions holds =
    call_runs state (Malloc size) turns (after_turns state turns) (moments_of state turns) (part ∷ []) Nothing_seen (got slab.index slab.class (next_object slab) number) refl
    opens.leads
    (record {
      whole = made.whole;
      apart = made.apart;
      there = made.there;
      lawful = made.lawful;
      fits = record {
        sight = tt;
        moves = record { grants = tt; ends = (OnTrue_from (is_object (Some (giver slab.private))) _ (λ is. absurd (let clash : true ≡ false = sym is ∙ giver_no_object slab.private in cc)), tt); keeps = refl };
        large = tt;
        slabs = tt;
        comes = tt;
        leaves = tt;
        answered = record {
          legal = record {
            answers = (
              record {
                accepted = accepted state lists size slab.class (moments_of state turns ++ last ∷ []) asked;
                granted = record {
                  from = Some (giver slab.private);
                  one = ap lasting parts_are ∙ lasting_one (moved_parts (moments_of state turns)) part (quiet_none (moved_parts (moments_of state turns)) opens.quiet) refl;
                  of_seat = refl;
                };
                of_class = λ class served. of_class class (sym (served_plain-small size slab.class asked.found) ∙ served);
                suits = at_last (λ s. Suits fixed_terms.limits s (Malloc size) (place_at slab.index slab.class (next_object slab)) (class_size slab.class)) (moments_of state turns) last
                    (object_suits (after_turns state turns) size slab.class slab.index (next_object slab) regions inside asked.found asked.small exists);
              },
              ap ended parts_are ∙ ended_none [] (moved_parts (moments_of state turns) ++ part ∷ [])
                  (each-append (λ (p : Part). is_object p.from ≡ false) (moved_parts (moments_of state turns)) (part ∷ []) (quiet_from (moved_parts (moments_of state turns)) opens.quiet) (giver_no_object slab.private, tt)),
            );
            no_hand = never (after_turn (after_turns state turns) (grant_step slab number)) lists' holds (Some (Hand 0)) refl;
            no_slab = none_in_hand (after_turn (after_turns state turns) (grant_step slab number)) lists' holds;
          };
          due = due_after-append Nothing_due (moments_of state turns) (last ∷ []) ∙ opens.due;
          cleaned = cleaned_from (moments_of state turns ++ last ∷ [])
              (subst (Each (λ (p : Part). is_large p ≡ false)) (sym parts_are) (each-append (λ (p : Part). is_large p ≡ false) (moved_parts (moments_of state turns)) (part ∷ [])
              (quiet_small (moved_parts (moments_of state turns)) opens.quiet) (giver_small slab (next_object slab) slab.private number, tt)))
              (each-append NoTick (moments_of state turns) (last ∷ []) opens.ticks (refl, tt));
          calm = λ once. calm_pool (after_turn (after_turns state turns) (grant_step slab number)) lists' [] holds;
        };
      };
    })
  where
    part : Part
    part = object_part slab (next_object slab) (Some (giver slab.private)) (Some (Object (grant_of number)))

    last : Moment
    last = moment (after_turns state turns) (grant_step slab number)

    parts_are : moved_parts (moments_of state turns ++ last ∷ []) ≡ moved_parts (moments_of state turns) ++ part ∷ []
    parts_are = moved_parts-append (moments_of state turns) (last ∷ [])

    of_class : (class : ℕ) → Small slab.class ≡ Small class → class_size slab.class ≡ class_size class
    of_class class same = let e : slab.class ≡ class = cc in ap class_size e
