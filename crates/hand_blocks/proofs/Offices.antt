-- What is in hand of a seat that is at the office.
use Rattle.std.proofs.Common.{◌≡◌, ◌<◌, ℕ, Bool, true, false, cond, List, [], ◌∷◌, eqb, refl, ap, arith}
use Rattle.std.specs.Prelude.{None, Option, Some, ⊤, nat_lt, ◌==◌, ◌-◌, ◌+◌}
use Rattle.std.proofs.lemmas.Bool.Decides.{nat_tests}
use Rattle.pool_types.specs.Limits.{most_regions}
use Rattle.pool_types.specs.declared.policy.RegionRec.{RegionRec}
use Rattle.pool_words.specs.declared.actions.Seen.{Seen}
use Rattle.pool_words.specs.Actions.{word_seen}
use Rattle.backend_bins.specs.Blocks.{block}
use Rattle.region_steps.specs.Office.{office_entered, office_gives, office_learn, office_taken}
use Rattle.region_steps.specs.declared.office.OfficeAt.{OfficeAt}
use Rattle.region_steps.specs.declared.office.OfficeCall.{OfficeCall}
use Rattle.region_steps.specs.declared.office.OfficeNext.{OfficeNext}
use Rattle.step_local.specs.Backend.{drained_on, obtained_as, office_as, office_call, office_learn_of, put_done}
use Rattle.step_local.specs.declared.frames.Local.{Local}
use Rattle.step_local.specs.declared.frames.OfficeFor.{OfficeFor}
use Rattle.hand_blocks.specs.Changes.{HandsLead, give_changes, obtain_changes, office_changes}
use Rattle.hand_blocks.specs.Fits.{AllLie, AskFits, GiveAnswers, GiveFits, ObtainFits, OfficeAnswers, OfficeFits}
use Rattle.hand_blocks.specs.Fits.{PutForFits}
use Rattle.hand_blocks.specs.Hands.{Hand, beside_put, end_hands, give_hands, obtain_hands, office_hands}
use Rattle.hand_blocks.specs.Hands.{region_hands, returning, using}
use Rattle.hand_blocks.proofs.Backend.{lands-drained_on, lands-obtained_as, lands-put_done, leads_beside}
use Rattle.hand_blocks.proofs.Lands.{TurnedOn, turns}
use Rattle.hand_blocks.proofs.Lists.{comes, leads_to, leaves}

-- a region is obtained
abbrev obtained_hands : OfficeAt → OfficeNext → List Hand
obtained_hands at (OfficeNext.Goes to) = obtain_hands to
obtained_hands at OfficeNext.Waits = obtain_hands at
obtained_hands at (OfficeNext.Left end) = end_hands end

abbrev ObtainedFits : OfficeNext → Type 0
ObtainedFits (OfficeNext.Goes to) = ObtainFits to
ObtainedFits OfficeNext.Waits = ⊤
ObtainedFits (OfficeNext.Left end) = AllLie (end_hands end)

record Obtains (at : OfficeAt) (next : OfficeNext) : Type 0 where
  fits : ObtainedFits next
  leads : HandsLead (obtain_changes at) (obtain_hands at) (obtained_hands at next)

obtain_taken : (given : Option ℕ) (s : Seen) → Obtains (OfficeAt.Take given) (office_taken given s)
obtain_taken given (Seen.Word word) = record { fits = tt; leads = refl }
obtain_taken given Seen.Done = record { fits = tt; leads = refl }
obtain_taken given Seen.OfficeOut = record { fits = tt; leads = refl }
obtain_taken given (Seen.Obtained one) = record { fits = tt; leads = refl }
obtain_taken given (Seen.Refused error) = record { fits = tt; leads = refl }
obtain_taken given Seen.Given = record { fits = tt; leads = refl }

some_not : (n : ℕ) → eqb n 0 ≡ false → 0 < n
some_not n is = grind (arith, nat_tests)

not_none : (n : ℕ) → 0 < n → eqb n 0 ≡ false
not_none n some = grind (arith, nat_tests)

some_region : (one : RegionRec) → 0 < one.granules
    → region_hands one ≡ using (block one.first one.granules) ∷ []
some_region one some =
    ap (λ none. cond none [] (using (block one.first one.granules) ∷ [])) (not_none one.granules some)

obtain_turn : (c : OfficeCall) (at : OfficeAt) (s : Seen) → ObtainFits at → AllLie (obtain_hands at)
    → Obtains at (office_learn c at s)
obtain_turn c OfficeAt.Lock s fits lie = by (word_seen s == 0)
  where
    by : (b : Bool) → Obtains OfficeAt.Lock (cond b (OfficeNext.Goes (OfficeAt.Region 0 None)) OfficeNext.Waits)
    by true = record { fits = tt; leads = refl }
    by false = record { fits = tt; leads = refl }
obtain_turn c (OfficeAt.Region slot given) s fits lie =
    by (nat_lt slot (most_regions - 1)) (cond (office_gives c.job (word_seen s)) (Some slot) given)
  where
    by : (b : Bool) (now : Option ℕ) → Obtains (OfficeAt.Region slot given)
        (OfficeNext.Goes (cond b (OfficeAt.Region (slot + 1) now) (OfficeAt.Take now)))
    by true now = record { fits = tt; leads = refl }
    by false now = record { fits = tt; leads = refl }
obtain_turn c (OfficeAt.Take given) s fits lie = obtain_taken given s
obtain_turn c (OfficeAt.Base one) s fits lie = record { fits = tt; leads = refl }
obtain_turn c (OfficeAt.Enter one) s fits lie = record { fits = tt; leads = refl }
obtain_turn c (OfficeAt.WallSize one) s fits lie = record { fits = tt; leads = refl }
obtain_turn c (OfficeAt.WallLeft one) s fits lie = by (one.granules == 0) refl
  where
    by : (b : Bool) → eqb one.granules 0 ≡ b → Obtains (OfficeAt.WallLeft one)
        (OfficeNext.Goes (cond b (office_entered one) (OfficeAt.FirstSize one)))
    by true is = record {
      fits = tt;
      leads = ap (λ none. cond none [] (using (block one.first one.granules) ∷ [])) is;
    }
    by false is = record { fits = some_not one.granules is; leads = refl }
obtain_turn c (OfficeAt.FirstSize one) s fits lie = record { fits = fits; leads = refl }
obtain_turn c (OfficeAt.LastLeft one) s fits lie = record {
  fits = tt;
  leads = leads_to (obtain_changes (OfficeAt.LastLeft one)) [] (using (block one.first one.granules) ∷ [])
      (region_hands one) (comes (using (block one.first one.granules))) (some_region one fits);
}
obtain_turn c (OfficeAt.Remove given) s fits lie = record { fits = tt; leads = refl }
obtain_turn c (OfficeAt.Back end) s fits lie = record { fits = tt; leads = refl }
obtain_turn c (OfficeAt.Unlock end) s fits lie = record { fits = lie; leads = refl }

-- a region is given back
abbrev given_hands : ℕ → OfficeAt → OfficeNext → List Hand
given_hands first at (OfficeNext.Goes to) = give_hands first to
given_hands first at OfficeNext.Waits = give_hands first at
given_hands first at (OfficeNext.Left end) = []

abbrev GivenFits : OfficeNext → Type 0
GivenFits (OfficeNext.Goes to) = GiveFits to
GivenFits _ = ⊤

record Gives (first : ℕ) (at : OfficeAt) (next : OfficeNext) : Type 0 where
  fits : GivenFits next
  leads : HandsLead (give_changes first at) (give_hands first at) (given_hands first at next)

give_taken : (first : ℕ) (given : Option ℕ) (s : Seen) → GiveAnswers (OfficeAt.Take given) s
    → Gives first (OfficeAt.Take given) (office_taken given s)
give_taken first given (Seen.Word word) answers = record { fits = tt; leads = refl }
give_taken first given Seen.Done answers = record { fits = tt; leads = refl }
give_taken first given Seen.OfficeOut answers = record { fits = tt; leads = refl }
give_taken first given (Seen.Obtained one) answers = absurd answers
give_taken first given (Seen.Refused error) answers = absurd answers
give_taken first given Seen.Given answers = record { fits = tt; leads = refl }

give_turn : (c : OfficeCall) (first : ℕ) (at : OfficeAt) (s : Seen) → GiveFits at → GiveAnswers at s
    → Gives first at (office_learn c at s)
give_turn c first OfficeAt.Lock s fits answers = by (word_seen s == 0)
  where
    by : (b : Bool) → Gives first OfficeAt.Lock (cond b (OfficeNext.Goes (OfficeAt.Region 0 None)) OfficeNext.Waits)
    by true = record { fits = tt; leads = refl }
    by false = record { fits = tt; leads = refl }
give_turn c first (OfficeAt.Region slot given) s fits answers =
    by (nat_lt slot (most_regions - 1)) (cond (office_gives c.job (word_seen s)) (Some slot) given)
  where
    by : (b : Bool) (now : Option ℕ) → Gives first (OfficeAt.Region slot given)
        (OfficeNext.Goes (cond b (OfficeAt.Region (slot + 1) now) (OfficeAt.Take now)))
    by true now = record { fits = tt; leads = refl }
    by false now = record { fits = tt; leads = refl }
give_turn c first (OfficeAt.Take given) s fits answers = give_taken first given s answers
give_turn c first (OfficeAt.Remove given) s fits answers = record { fits = tt; leads = leaves (returning first) }
give_turn c first (OfficeAt.Back end) s fits answers = record { fits = fits; leads = refl }
give_turn c first (OfficeAt.Unlock end) s fits answers = record { fits = tt; leads = refl }
give_turn c first _ s fits answers = absurd fits

-- a whole local at the office
ask_as : (l : Local) (at : OfficeAt) (next : OfficeNext) → AskFits l → ObtainFits at → Obtains at next
    → TurnedOn (obtain_changes at) (obtain_hands at) (office_as l OfficeFor.Ask at next)
ask_as l at (OfficeNext.Goes to) asks fits is = record { fits = (asks, is.fits); leads = is.leads }
ask_as l at OfficeNext.Waits asks fits is = record { fits = (asks, fits); leads = is.leads }
ask_as l at (OfficeNext.Left end) asks fits is = turns (obtain_changes at) (obtain_hands at) (end_hands end)
    (obtained_as l end).0 is.leads (lands-obtained_as l end asks is.fits)

put_as : (l : Local) (first : ℕ) (at : OfficeAt) (next : OfficeNext) → PutForFits l l.put → GiveFits at
    → Gives first at next
    → TurnedOn (give_changes first at) (beside_put l l.put (give_hands first at))
    (office_as l (OfficeFor.Put first) at next)
put_as l first at (OfficeNext.Goes to) why fits is = record {
  fits = (why, is.fits);
  leads = leads_beside l l.put (give_changes first at) (give_hands first at) (give_hands first to) is.leads;
}
put_as l first at OfficeNext.Waits why fits is = record {
  fits = (why, fits);
  leads = leads_beside l l.put (give_changes first at) (give_hands first at) (give_hands first at) is.leads;
}
put_as l first at (OfficeNext.Left end) why fits is = turns (give_changes first at)
    (beside_put l l.put (give_hands first at)) (beside_put l l.put []) (put_done l).0
    (leads_beside l l.put (give_changes first at) (give_hands first at) [] is.leads) (lands-put_done l why)

drain_as : (l : Local) (first : ℕ) (rest : Option ℕ) (at : OfficeAt) (next : OfficeNext) → AskFits l → GiveFits at
    → Gives first at next
    → TurnedOn (give_changes first at) (give_hands first at) (office_as l (OfficeFor.Drain first rest) at next)
drain_as l first rest at (OfficeNext.Goes to) asks fits is = record { fits = (asks, is.fits); leads = is.leads }
drain_as l first rest at OfficeNext.Waits asks fits is = record { fits = (asks, fits); leads = is.leads }
drain_as l first rest at (OfficeNext.Left end) asks fits is = turns (give_changes first at) (give_hands first at) []
    (drained_on l rest).0 is.leads (lands-drained_on l l.at rest asks)

pub office_turned : (l : Local) (job : OfficeFor) (at : OfficeAt) (s : Seen) → OfficeFits l job at
    → OfficeAnswers job at s → AllLie (office_hands l job at)
    → TurnedOn (office_changes job at) (office_hands l job at) (office_learn_of l job at s)
office_turned l OfficeFor.Ask at s fits answers lie = ask_as l at (office_learn (office_call l OfficeFor.Ask) at s)
    fits.0 fits.1 (obtain_turn (office_call l OfficeFor.Ask) at s fits.1 lie)
office_turned l (OfficeFor.Put first) at s fits answers lie = put_as l first at
    (office_learn (office_call l (OfficeFor.Put first)) at s) fits.0 fits.1
    (give_turn (office_call l (OfficeFor.Put first)) first at s fits.1 answers)
office_turned l (OfficeFor.Drain first rest) at s fits answers lie = drain_as l first rest at
    (office_learn (office_call l (OfficeFor.Drain first rest)) at s) fits.0 fits.1
    (give_turn (office_call l (OfficeFor.Drain first rest)) first at s fits.1 answers)
