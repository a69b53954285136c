-- The store by which a region is one block in the seat's hand.
use Rattle.std.proofs.Common.{◌≡◌, ◌∙◌, ◌<◌, ◌+◌, ◌≤◌, ℕ, List, [], ◌∷◌, refl, sym, ap, subst, inl, inr, arith}
use Rattle.std.proofs.lemmas.Bool.Decides.{nat_tests}
use Rattle.std.specs.Prelude.{Some, None}
use Rattle.pool_types.specs.declared.policy.RegionRec.{RegionRec}
use Rattle.pool_words.specs.declared.words.Key.{Key}
use Rattle.word_codes.specs.Places.{slot_of}
use Rattle.guards.specs.declared.win.Taking.{Taking}
use Rattle.region_steps.specs.declared.office.OfficeAt.{OfficeAt}
use Rattle.region_steps.specs.declared.office.OfficeNext.{OfficeNext}
use Rattle.region_steps.specs.Office.{office_entered}
use Rattle.word_laws.proofs.CallerLemmas.{equal_or}
use Rattle.chain_laws.specs.Chains.{Link, Leads, tally}
use Rattle.guard_laws.specs.Blocks.{Place, Use, put_range}
use Rattle.office_laws.specs.Laws.{HasGranule}
use Rattle.office_laws.specs.Regions as offices
use Rattle.office_laws.specs.Regions.{AreApart, IsIn, Task}
use Rattle.queue_laws.specs.Queue as queues
use Rattle.chain_laws.specs.Pushing.{links_of}
use Rattle.queue_laws.specs.Queue.{queue_words, rest_of}
use Rattle.region_laws.specs.Granules.{IsInside, settling}
use Rattle.region_laws.specs.Steps.{RegionStep, state_settled}
use Rattle.step_local.specs.declared.frames.Local.{Local}
use Rattle.step_local.specs.declared.frames.OfficeFor.{OfficeFor}
use Rattle.step_local.specs.Learn.{learn}
use Rattle.hand_blocks.specs.Hands.{hands_of}
use Rattle.hand_blocks.proofs.CallerLemmas.{turns_change_hands}
use Rattle.pool_laws.specs.Changes.{with_regions}
use Rattle.pool_laws.specs.Steps.{WholeStep}
use Rattle.pool_laws.specs.Wholes.{Whole, WholeGood, regions_of}
use Rattle.seat_ties.specs.Left.{Suits}
use Rattle.seat_ties.specs.Ties.{HandsTied, SeatTied}
use Rattle.seat_ties.specs.Turns.{stays, steps_on, StepLeaves, seen_in}
use Rattle.seat_hands.specs.Moved.{SameBut}
use Rattle.seat_hands.proofs.CallerLemmas.{hands_come, outside_is_none}
use Rattle.office_moves.proofs.Settings.{at_office, free_at, goes_to, to_next}
use Rattle.office_moves.proofs.Came.{obtains}

range_out : (f : ℕ → Place) (first n : ℕ) (v : Place) → SameBut (put_range f first n v) f first n
range_out f first n v z out = grind (arith, nat_tests)

range_first : (f : ℕ → Place) (first n : ℕ) (v : Place) → 0 < n → put_range f first n v first ≡ v
range_first f first n v some = grind (arith, nat_tests)

-- a place with a block has some; one without has none
place_or : {A : Type 0} (p : Place) → (p ≡ Place.Outside → A) → (IsInside p → A) → A
place_or Place.Outside outside inside = outside refl
place_or (Place.Block first granules use') outside inside = inside tt

-- a chain that ends at once has nothing
none_left : (links : ℕ → Link) (xs : List ℕ) → Leads links (Link.Ends 0) xs (Link.Ends 0) → xs ≡ []
none_left links [] leads = refl
none_left links (x ∷ xs) leads = absurd (cc)

pub none_drained : (k : Key) (w : Whole) (seat : ℕ) → WholeGood k w → w.queue seat ≡ queues.Task.Away
    → w.drained seat ≡ []
none_drained k w seat good away = none_left (links_of queue_words w.pool.mem) (w.drained seat)
    (subst (λ t. Leads (links_of queue_words w.pool.mem) (rest_of t) (w.drained seat) (Link.Ends 0)) away
    (good.free.queue.drains seat))

-- two regions that lie apart have no granule in common
pub never_both : (a b : RegionRec) (z : ℕ) → AreApart a b → HasGranule a z → HasGranule b z → ⊥
never_both a b z (inl before) ha hb = let x = ha.1 in let y = hb.0 in omega arith
never_both a b z (inr behind) ha hb = let x = ha.0 in let y = hb.1 in omega arith

module _ (k : Key) (w : Whole) (l : Local) (one : RegionRec) (good : WholeGood k w) where
  abbrev pub settling_now : Local
  settling_now = at_office l OfficeFor.Ask (OfficeAt.LastLeft one)

  -- none of the region's granules is in a block yet
  outside : SeatTied k w l.seat settling_now → (z : ℕ) → one.first ≤ z → z < one.first + one.granules
      → w.pool.blocks.place z ≡ Place.Outside
  outside tied z low high = place_or (w.pool.blocks.place z) (λ is. is) (λ inside. absurd (
      let in' : IsIn w.office one = subst (λ t. offices.TaskFits w.office (offices.core_in w.pool.mem w.desks) t)
      tied.tasks.desks (good.regions.office.tasks_fit l.seat) in
      let out = good.regions.office.records_fit.known (slot_of one.number) one in' in
      let unsettled = good.regions.unsettled l.seat one (ap settling tied.tasks.desks) in
      let there = good.regions.placed.outside z inside in
      let s = there.0 in let other = there.1 in
      let known = good.regions.placed.known s other there.2 in
      let other_out = good.regions.office.records_fit.known s other known in
      equal_or s (slot_of one.number)
      (λ same. let none = subst (λ (n : ℕ). w.settled n ≡ Some other) same there.2 in
      let never : None ≡ Some other = sym unsettled ∙ none in cc)
      (λ differ. never_both other one z
      (good.regions.office.out_fits.apart s (slot_of one.number) other one differ other_out out) there.3
      (low, high))))

  comes_into_hand : SeatTied k w l.seat settling_now → Suits k settling_now (seen_in w settling_now) → 0 < one.granules
      → HandsTied
      (put_range w.pool.blocks.place one.first one.granules
      (Place.Block one.first one.granules (Use.Held l.seat Taking.ForUse)))
      (w.drained l.seat) l.seat (hands_of (learn settling_now (seen_in w settling_now)).0)
  comes_into_hand tied suits some =
      let v = Place.Block one.first one.granules (Use.Held l.seat Taking.ForUse) in
      let later = put_range w.pool.blocks.place one.first one.granules v in
      let lo : Local = settling_now in
      let led = turns_change_hands lo (seen_in w lo) tied.says.hands suits.step in
      let came = hands_come w.pool.blocks.place later (w.drained l.seat) l.seat one.first one.granules Taking.ForUse
      (hands_of lo) led.0 tied.hands
      (outside_is_none w.pool.blocks.place l.seat one.first one.granules (outside tied)) some
      (ap (λ xs. tally one.first xs) (none_drained k w l.seat good tied.tasks.queue))
      (range_out w.pool.blocks.place one.first one.granules v)
      (range_first w.pool.blocks.place one.first one.granules v some) led.1 in
      subst (HandsTied later (w.drained l.seat) l.seat) (sym led.2) came

  pub settles_on : SeatTied k w l.seat settling_now → Suits k settling_now (seen_in w settling_now)
      → StepLeaves k w settling_now
  settles_on tied suits =
      let state = state_settled k l.seat (obtains l) one (regions_of w) in
      let some = tied.says.hands.1 in
      record {
        later = with_regions state w;
        run = steps_on stays (WholeStep.office state (RegionStep.settles (obtains l) one tied.tasks.desks some tied.words)
            tt (free_at k w l OfficeFor.Ask (OfficeAt.LastLeft one) tied));
        office = refl;
        words = refl;
        here = goes_to k w l OfficeFor.Ask (OfficeAt.LastLeft one) (seen_in w settling_now) tied suits state.pool.mem
            state.pool.blocks state.settled w.office (office_entered one) (OfficeNext.Goes (office_entered one))
            (Task.At (obtains l) (office_entered one))
            (to_next l OfficeFor.Ask (OfficeAt.LastLeft one) (seen_in w settling_now) (office_entered one) refl) refl
            (comes_into_hand tied suits some) tt;
      }
