-- The region of a block that is given back goes with it, where the words have it.
use Rattle.std.proofs.Common.{◌≡◌, ◌∙◌, ◌<◌, ℕ, refl, sym, ap, subst}
use Rattle.std.specs.Prelude.{Option, Some, None, ◌%◌, ◌^◌}
use Rattle.pool_types.specs.declared.policy.RegionRec.{RegionRec}
use Rattle.pool_words.specs.declared.words.Key.{Key}
use Rattle.pool_words.specs.declared.actions.OfficeJob.{OfficeJob}
use Rattle.guards.specs.declared.win.Taking.{Taking}
use Rattle.region_steps.specs.declared.office.OfficeAt.{OfficeAt}
use Rattle.region_steps.specs.declared.office.OfficeEnd.{OfficeEnd}
use Rattle.region_steps.specs.declared.office.OfficeNext.{OfficeNext}
use Rattle.word_laws.specs.Memory.{put}
use Rattle.word_laws.proofs.CallerLemmas.{equal_or}
use Rattle.bin_laws.specs.Steps.{kept_of}
use Rattle.chain_laws.specs.Chains.{tally}
use Rattle.guard_laws.specs.Blocks.{Place, Piece, Use, put_range}
use Rattle.office_laws.specs.Laws.{HasGranule}
use Rattle.office_laws.specs.Regions as offices
use Rattle.office_laws.specs.Regions.{IsFound, Task}
use Rattle.region_laws.specs.Granules.{IsInside}
use Rattle.region_laws.specs.Steps.{RegionStep, mem_at, state_removed}
use Rattle.use_laws.specs.After.{with_mem}
use Rattle.free_laws.specs.Steps.{IsLoose}
use Rattle.step_local.specs.declared.frames.Local.{Local}
use Rattle.step_local.specs.declared.frames.OfficeFor.{OfficeFor}
use Rattle.step_local.specs.Backend.{office_job}
use Rattle.pool_laws.specs.Changes.{with_regions}
use Rattle.pool_laws.specs.Steps.{WholeStep}
use Rattle.pool_laws.specs.Wholes.{Whole, WholeGood, regions_of, space_of}
use Rattle.seat_ties.specs.Left.{Suits}
use Rattle.seat_ties.specs.Says.{IsAllOfRegion}
use Rattle.seat_ties.specs.Ties.{SeatTied}
use Rattle.seat_ties.specs.Turns.{stays, steps_on, StepLeaves, seen_in}
use Rattle.seat_hands.specs.Moved.{SameBut}
use Rattle.office_moves.proofs.Settings.{at_office, free_at, goes_to, to_next}
use Rattle.office_moves.proofs.Plain.{same_hands}
use Rattle.office_moves.proofs.Settles.{never_both}
use Rattle.office_moves.proofs.Gives.{GivesFirst, back_says, below_all, in_hand, leave, live_of, mod_below, range_out}

inside_block : (p : Place) (first n : ℕ) (u : Use) → p ≡ Place.Block first n u → IsInside p
inside_block p first n u is = subst IsInside (sym is) tt

-- the slot that was found has the region of which the block is all
pub record Found (w : Whole) (seat slot first : ℕ) : Type 0 where
  pub one : RegionRec
  pub live : w.office.live slot ≡ Some one
  pub begins : one.first ≡ first
  pub block : w.pool.blocks.place first ≡ Place.Block first one.granules (Use.Held seat Taking.ToJoin)

found_at : (k : Key) (w : Whole) (seat slot first n : ℕ) → WholeGood k w
    → w.desks seat ≡ Task.At (OfficeJob.Give (first % 2 ^ 32)) (OfficeAt.Remove (Some slot))
    → w.pool.blocks.place first ≡ Place.Block first n (Use.Held seat Taking.ToJoin) → first < 2 ^ 32
    → IsAllOfRegion w seat first → Found w seat slot first
found_at k w seat slot first n good desk block small all =
    let office = good.regions.office in
    let core = offices.core_in w.pool.mem w.desks in
    let looked = subst (λ t. offices.TaskFits w.office core t) desk (office.tasks_fit seat) in
    let has = (looked.some slot refl).1 in
    let mine = live_of (w.office.live slot) (core.words slot) (core.bases slot) (first % 2 ^ 32) (office.words_fit slot)
    has in
    let one : RegionRec = mine.0 in
    let granule : HasGranule one first = subst (HasGranule one) (mod_below first small) mine.2 in
    let there = good.regions.placed.outside first
    (inside_block (w.pool.blocks.place first) first n (Use.Held seat Taking.ToJoin) block) in
    let s = there.0 in let other = there.1 in
    let known = good.regions.placed.known s other there.2 in
    equal_or s slot
    (λ same. let live = ap w.office.live (sym same) ∙ known in
    let is : Some other ≡ Some one = sym live ∙ mine.1 in
    let settled : w.settled slot ≡ Some one = ap w.settled (sym same) ∙ there.2 ∙ is in
    let whole = all slot one settled granule in
    record { one = one; live = mine.1; begins = whole.0; block = whole.1 })
    (λ differ. absurd (never_both other one first (office.out_fits.apart s slot other one differ
    (office.records_fit.known s other known) (office.records_fit.known slot one mine.1)) there.3 granule))

-- the region is given back then
abbrev back : OfficeAt
back = OfficeAt.Back OfficeEnd.Given

none_got : (n x : ℕ) → Piece.NoPiece ≡ Piece.Got x n → ⊥
none_got n x is = cc

module _ (k : Key) (w : Whole) (l : Local) (job : OfficeFor) (first : ℕ) (gives : GivesFirst job first)
    (good : WholeGood k w) where
  abbrev at_none : Local
  at_none = at_office l job (OfficeAt.Remove None)

  -- where the words have no such region nothing goes
  pub removes_none_on : SeatTied k w l.seat at_none → Suits k at_none (seen_in w at_none) → StepLeaves k w at_none
  removes_none_on tied suits =
      let j : OfficeJob = office_job at_none job in
      let hand = in_hand k w l job first gives None good tied suits in
      let state = record (regions_of w) {
        pool = with_mem (mem_at k l.seat j (OfficeAt.Remove None) (regions_of w)) w.pool;
        desks = put w.desks l.seat (Task.At j back);
      } in
      record {
        later = with_regions state w;
        run = steps_on stays (WholeStep.office state (RegionStep.removes_none j tied.tasks.desks) tt
            (free_at k w l job (OfficeAt.Remove None) tied));
        office = refl;
        words = refl;
        here = goes_to k w l job (OfficeAt.Remove None) (seen_in w at_none) tied suits state.pool.mem w.pool.blocks
            w.settled w.office back (OfficeNext.Goes back) (Task.At j back)
            (to_next l job (OfficeAt.Remove None) (seen_in w at_none) back refl) refl
            (leave k w l job first gives None good w.pool.blocks.place hand.lies.0 tied suits hand.lies.1
            (λ z out. refl))
            (back_says (with_regions state w) l.seat job OfficeEnd.Given);
      }

module _ (k : Key) (w : Whole) (l : Local) (job : OfficeFor) (first slot : ℕ) (gives : GivesFirst job first)
    (good : WholeGood k w) where
  abbrev at_some : Local
  at_some = at_office l job (OfficeAt.Remove (Some slot))

  loose : (x : ℕ) → SeatTied k w l.seat at_some → Suits k at_some (seen_in w at_some) → x ≡ first
      → IsLoose (space_of w) l.seat x
  loose x tied suits same = record {
    listed = λ n is. none_got n x (sym (ap kept_of tied.tasks.bins) ∙ is);
    taken = ap (λ y. tally y (w.drained l.seat)) same ∙ (in_hand k w l job first gives (Some slot) good tied suits).apart;
  }

  -- the region goes, and its block with it
  pub removes_on : SeatTied k w l.seat at_some → Suits k at_some (seen_in w at_some) → StepLeaves k w at_some
  removes_on tied suits =
      let hand = in_hand k w l job first gives (Some slot) good tied suits in
      let small = below_all k w l job first gives (Some slot) good hand.lies.0 _ hand.lies.1 in
      let desk = tied.tasks.desks ∙ ap (λ j. Task.At j (OfficeAt.Remove (Some slot))) (gives.asks at_some) in
      let is = found_at k w l.seat slot first hand.lies.0 good desk hand.lies.1 small
      (gives.says w l.seat (Some slot) tied.words) in
      let one : RegionRec = is.one in
      let state = state_removed k l.seat (OfficeJob.Give one.first) slot one (regions_of w) in
      let asked : OfficeJob.Give one.first ≡ office_job at_some job =
      ap OfficeJob.Give (is.begins ∙ sym (mod_below first small)) ∙ sym (gives.asks at_some) in
      let later = put_range w.pool.blocks.place one.first one.granules Place.Outside in
      record {
        later = with_regions state w;
        run = steps_on stays (WholeStep.office state
            (RegionStep.removes slot one Taking.ToJoin
            (tied.tasks.desks ∙ ap (λ j. Task.At j (OfficeAt.Remove (Some slot))) (sym asked)) is.live
            (record {
              away = tied.tasks.guards;
              block = subst (λ (x : ℕ). w.pool.blocks.place x
                  ≡ Place.Block x one.granules (Use.Held l.seat Taking.ToJoin)) (sym is.begins) is.block;
            }))
            (loose one.first tied suits is.begins)
            (free_at k w l job (OfficeAt.Remove (Some slot)) tied));
        office = refl;
        words = refl;
        here = goes_to k w l job (OfficeAt.Remove (Some slot)) (seen_in w at_some) tied suits state.pool.mem
            state.pool.blocks state.settled state.office back (OfficeNext.Goes back)
            (Task.At (OfficeJob.Give one.first) back)
            (to_next l job (OfficeAt.Remove (Some slot)) (seen_in w at_some) back refl) (ap (λ j. Task.At j back) asked)
            (leave k w l job first gives (Some slot) good later one.granules tied suits is.block
            (subst (λ (x : ℕ). SameBut later w.pool.blocks.place x one.granules) is.begins
            (range_out w.pool.blocks.place one.first one.granules Place.Outside)))
            (back_says (with_regions state w) l.seat job OfficeEnd.Given);
      }

-- a seat that asks for a region gives none back
pub asks_none : (k : Key) (w : Whole) (l : Local) → WholeGood k w → (given : Option ℕ)
    → SeatTied k w l.seat (at_office l OfficeFor.Ask (OfficeAt.Remove given))
    → Suits k (at_office l OfficeFor.Ask (OfficeAt.Remove given))
    (seen_in w (at_office l OfficeFor.Ask (OfficeAt.Remove given)))
    → StepLeaves k w (at_office l OfficeFor.Ask (OfficeAt.Remove given))
asks_none k w l good None tied suits =
    let lo : Local = at_office l OfficeFor.Ask (OfficeAt.Remove None) in
    let j : OfficeJob = office_job lo OfficeFor.Ask in
    let state = record (regions_of w) {
      pool = with_mem (mem_at k l.seat j (OfficeAt.Remove None) (regions_of w)) w.pool;
      desks = put w.desks l.seat (Task.At j back);
    } in
    record {
      later = with_regions state w;
      run = steps_on stays (WholeStep.office state (RegionStep.removes_none j tied.tasks.desks) tt
          (free_at k w l OfficeFor.Ask (OfficeAt.Remove None) tied));
      office = refl;
      words = refl;
      here = goes_to k w l OfficeFor.Ask (OfficeAt.Remove None) (seen_in w lo) tied suits state.pool.mem w.pool.blocks
          w.settled w.office back (OfficeNext.Goes back) (Task.At j back)
          (to_next l OfficeFor.Ask (OfficeAt.Remove None) (seen_in w lo) back refl) refl
          (same_hands k w l OfficeFor.Ask (OfficeAt.Remove None) (seen_in w lo) tied suits refl) tt;
    }
asks_none k w l good (Some slot) tied suits =
    let looked = subst (λ t. offices.TaskFits w.office (offices.core_in w.pool.mem w.desks) t) tied.tasks.desks
    (good.regions.office.tasks_fit l.seat) in
    let never = (looked.some slot refl).1 in
    absurd (cc)
