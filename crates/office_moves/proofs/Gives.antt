-- The store by which a region goes with the block that is all of it.
use Rattle.std.proofs.Common.{◌≡◌, ◌<◌, ℕ, true, [], ◌∷◌, refl, sym, subst, arith}
use Rattle.std.proofs.Math.Nat.{mod-eq_of_lt}
use Rattle.std.proofs.lemmas.Bool.Decides.{nat_tests}
use Rattle.std.specs.Prelude.{Option, Some, None, ◌%◌, ◌^◌}
use Rattle.pool_types.specs.declared.policy.RegionRec.{RegionRec}
use Rattle.pool_words.specs.declared.words.Key.{Key}
use Rattle.pool_words.specs.declared.actions.OfficeJob.{OfficeJob}
use Rattle.guards.specs.declared.win.Taking.{Taking}
use Rattle.word_codes.specs.declared.region_words.RegionWord.{RegionWord}
use Rattle.word_codes.specs.RegionWords.{has_granule}
use Rattle.region_steps.specs.declared.office.OfficeAt.{OfficeAt}
use Rattle.region_steps.specs.declared.office.OfficeEnd.{OfficeEnd}
use Rattle.region_steps.specs.Office.{region_word_of}
use Rattle.guard_laws.specs.Blocks.{Place, Use, put_range}
use Rattle.office_laws.specs.Laws.{HasGranule}
use Rattle.office_laws.specs.Regions.{WordFits}
use Rattle.step_local.specs.declared.frames.Local.{Local}
use Rattle.step_local.specs.declared.frames.OfficeFor.{OfficeFor}
use Rattle.step_local.specs.Backend.{office_job}
use Rattle.step_local.specs.Learn.{learn}
use Rattle.hand_blocks.specs.Changes.{Change, HandsLead, office_changes}
use Rattle.hand_blocks.specs.Hands.{hands_of, returning}
use Rattle.hand_blocks.proofs.CallerLemmas.{turns_change_hands}
use Rattle.pool_laws.specs.Wholes.{Whole, WholeGood}
use Rattle.seat_ties.specs.Left.{Suits}
use Rattle.seat_ties.specs.Says.{IsAllOfRegion, OfficeSays}
use Rattle.seat_ties.specs.Ties.{HandsTied, SeatTied}
use Rattle.seat_ties.specs.Turns.{seen_in}
use Rattle.seat_hands.specs.Laws.{IsOfHands}
use Rattle.seat_hands.specs.Moved.{SameBut}
use Rattle.seat_hands.proofs.CallerLemmas.{each_is_of_hands, hands_leave}
use Rattle.office_moves.proofs.Settings.{at_office}

pub range_out : (f : ℕ → Place) (first n : ℕ) (v : Place) → SameBut (put_range f first n v) f first n
range_out f first n v z out = grind (arith, nat_tests)

pub mod_below : (n : ℕ) → n < 2 ^ 32 → n % 2 ^ 32 ≡ n
mod_below n low = mod-eq_of_lt low

-- the region's word tells its granules
word_has : (one : RegionRec) (z : ℕ) → has_granule (region_word_of one) z ≡ true → HasGranule one z
word_has one z has = (grind (arith, nat_tests), grind (arith, nat_tests))

pub live_of : (live : Option RegionRec) (word : RegionWord) (base z : ℕ) → WordFits live word base
    → has_granule word z ≡ true → (one : RegionRec) × (live ≡ Some one) × HasGranule one z
live_of None word base z fits has = absurd (let dead = fits in grind (arith, nat_tests))
live_of (Some one) word base z fits has =
    (one, refl, word_has one z (subst (λ (r : RegionWord). has_granule r z ≡ true) fits.0 has))

pub back_says : (w : Whole) (seat : ℕ) (job : OfficeFor) (end : OfficeEnd) → OfficeSays w seat job (OfficeAt.Back end)
back_says w seat OfficeFor.Ask end = tt
back_says w seat (OfficeFor.Put first) end = tt
back_says w seat (OfficeFor.Drain first rest) end = tt

-- a job that gives the region of this block back
pub record GivesFirst (job : OfficeFor) (first : ℕ) : Type 0 where
  pub asks : (l : Local) → office_job l job ≡ OfficeJob.Give (first % 2 ^ 32)
  pub changes : (given : Option ℕ) → office_changes job (OfficeAt.Remove given) ≡ Change.Leaves (returning first) ∷ []
  pub says : (w : Whole) (seat : ℕ) (given : Option ℕ) → OfficeSays w seat job (OfficeAt.Remove given)
      → IsAllOfRegion w seat first

pub puts_give : (first : ℕ) → GivesFirst (OfficeFor.Put first) first
puts_give first = record { asks = λ l. refl; changes = λ given. refl; says = λ w seat given says. says }

pub drains_give : (first : ℕ) (rest : Option ℕ) → GivesFirst (OfficeFor.Drain first rest) first
drains_give first rest = record { asks = λ l. refl; changes = λ given. refl; says = λ w seat given says. says }

module _ (k : Key) (w : Whole) (l : Local) (job : OfficeFor) (first : ℕ) (gives : GivesFirst job first)
    (given : Option ℕ) (good : WholeGood k w) where
  abbrev pub removing : Local
  removing = at_office l job (OfficeAt.Remove given)

  abbrev pub back : OfficeAt
  back = OfficeAt.Back OfficeEnd.Given

  leads : SeatTied k w l.seat removing → Suits k removing (seen_in w removing)
      → HandsLead (Change.Leaves (returning first) ∷ []) (hands_of removing)
      (hands_of (learn removing (seen_in w removing)).0)
  leads tied suits = subst (λ changes. HandsLead changes (hands_of removing)
      (hands_of (learn removing (seen_in w removing)).0)) (gives.changes given)
      (turns_change_hands removing (seen_in w removing) tied.says.hands suits.step)

  -- the block is in hand, however long it is
  pub in_hand : (tied : SeatTied k w l.seat removing) → Suits k removing (seen_in w removing)
      → IsOfHands w.pool.blocks.place (w.drained l.seat) l.seat (returning first)
  in_hand tied suits =
      let alters = (leads tied suits).1 in
      each_is_of_hands w.pool.blocks.place (w.drained l.seat) l.seat alters.above alters.below (returning first)
      (subst (HandsTied w.pool.blocks.place (w.drained l.seat) l.seat) alters.was tied.hands)

  pub below_all : (n : ℕ) (u : Use) → w.pool.blocks.place first ≡ Place.Block first n u → first < 2 ^ 32
  below_all n u is =
      let guards = good.regions.pool.guards in
      let within = guards.parts.within first n u is in
      let some = (guards.parts.whole first first n u is).below in
      let small = guards.small in
      omega arith

  pub leave : (later : ℕ → Place) (n : ℕ) (tied : SeatTied k w l.seat removing)
      → (suits : Suits k removing (seen_in w removing))
      → w.pool.blocks.place first ≡ Place.Block first n (Use.Held l.seat Taking.ToJoin)
      → SameBut later w.pool.blocks.place first n
      → HandsTied later (w.drained l.seat) l.seat (hands_of (learn removing (seen_in w removing)).0)
  leave later n tied suits is same =
      let led = leads tied suits in
      subst (HandsTied later (w.drained l.seat) l.seat) (sym led.2)
      (hands_leave w.pool.blocks.place later (w.drained l.seat) l.seat n (returning first) (hands_of removing) led.0
      tied.hands good.regions.pool.guards.parts.whole is same led.1)
