-- The stores by which a region that came is entered and gets its edges.
use Rattle.std.proofs.Common.{◌≡◌, ◌∙◌, ◌<◌, ◌+◌, ◌≤◌, ℕ, true, false, Bool, refl, ap, subst, arith}
use Rattle.std.specs.Prelude.{◌==◌, ◌%◌, ◌^◌, cond}
use Rattle.pool_types.specs.declared.policy.RegionRec.{RegionRec}
use Rattle.pool_words.specs.declared.words.Key.{Key}
use Rattle.pool_words.specs.declared.words.Word.{Word}
use Rattle.pool_words.specs.declared.actions.OfficeJob.{OfficeJob}
use Rattle.pool_words.specs.declared.actions.Seen.{Seen}
use Rattle.pool_words.specs.declared.actions.Action.TheVariants.{Store}
use Rattle.pool_words.specs.Words.{sizes}
use Rattle.word_codes.specs.declared.guards.Guard.{Guard}
use Rattle.word_codes.specs.Guards.{guard_of, guard_word}
use Rattle.word_codes.specs.Places.{slot_of}
use Rattle.word_codes.proofs.CallerLemmas.{guards_read_back}
use Rattle.guards.specs.declared.win.Side.{Side}
use Rattle.region_steps.specs.declared.office.OfficeAt.{OfficeAt}
use Rattle.region_steps.specs.declared.office.OfficeNext.{OfficeNext}
use Rattle.region_steps.specs.Office.{office_entered, office_learn, office_walled, wall_of}
use Rattle.word_laws.specs.Memory.{Mem, after, put}
use Rattle.word_laws.proofs.CallerLemmas.{stored-valid, write_here}
use Rattle.guard_laws.specs.Blocks.{Standing}
use Rattle.guard_laws.specs.Steps.{guard_in, with_edge}
use Rattle.office_laws.specs.Regions as offices
use Rattle.office_laws.specs.Regions.{Task, IsIn}
use Rattle.office_laws.specs.Steps.{shadow_entered, task_after}
use Rattle.region_laws.specs.Granules.{State}
use Rattle.region_laws.specs.Steps.{RegionStep, edged, mem_at}
use Rattle.use_laws.specs.After.{with_mem}
use Rattle.step_local.specs.declared.frames.Local.{Local}
use Rattle.step_local.specs.declared.frames.OfficeFor.{OfficeFor}
use Rattle.step_local.specs.Backend.{office_call}
use Rattle.step_local.specs.Learn.{learn}
use Rattle.pool_laws.specs.Changes.{with_regions}
use Rattle.pool_laws.specs.Steps.{WholeStep}
use Rattle.pool_laws.specs.Wholes.{Whole, WholeGood, regions_of}
use Rattle.seat_ties.specs.Left.{Suits}
use Rattle.seat_ties.specs.Says.{ObtainSays, WordsSay}
use Rattle.seat_ties.specs.Ties.{SeatTied}
use Rattle.seat_ties.specs.Turns.{stays, steps_on, StateHere, StepLeaves, found_in, seen_in}
use Rattle.office_moves.proofs.Settings.{at_office, free_at, goes_to, to_next}
use Rattle.office_moves.proofs.Plain.{IsStill, still_hands}

-- what is asked of the office by a seat that wants a region
abbrev pub obtains : Local → OfficeJob
obtains l = OfficeJob.Obtain (l.ask.want.granules % 2 ^ 32)

module _ (k : Key) (w : Whole) (l : Local) where
  abbrev based : RegionRec → State
  based one = record (regions_of w) {
    pool = with_mem (mem_at k l.seat (obtains l) (OfficeAt.Base one) (regions_of w)) w.pool;
    desks = put w.desks l.seat (Task.At (obtains l) (OfficeAt.Enter one));
  }

  pub bases_on : (one : RegionRec) → SeatTied k w l.seat (at_office l OfficeFor.Ask (OfficeAt.Base one))
      → Suits k (at_office l OfficeFor.Ask (OfficeAt.Base one)) (seen_in w (at_office l OfficeFor.Ask (OfficeAt.Base one)))
      → StepLeaves k w (at_office l OfficeFor.Ask (OfficeAt.Base one))
  bases_on one tied suits =
      let lo : Local = at_office l OfficeFor.Ask (OfficeAt.Base one) in
      let at : OfficeAt = OfficeAt.Enter one in
      record {
        later = with_regions (based one) w;
        run = steps_on stays (WholeStep.office (based one) (RegionStep.bases' (obtains l) one tied.tasks.desks) tt
            (free_at k w l OfficeFor.Ask (OfficeAt.Base one) tied));
        office = refl;
        words = refl;
        here = goes_to k w l OfficeFor.Ask (OfficeAt.Base one) (seen_in w lo) tied suits (based one).pool.mem w.pool.blocks
            w.settled w.office at (OfficeNext.Goes at) (Task.At (obtains l) at)
            (to_next l OfficeFor.Ask (OfficeAt.Base one) (seen_in w lo) at refl) refl
            (still_hands k w l OfficeFor.Ask (OfficeAt.Base one) (seen_in w lo) tied suits tt) tt;
      }

  abbrev entered : RegionRec → State
  entered one = record (regions_of w) {
    pool = with_mem (mem_at k l.seat (obtains l) (OfficeAt.Enter one) (regions_of w)) w.pool;
    office = shadow_entered one w.office;
    desks = put w.desks l.seat (Task.At (obtains l) (OfficeAt.WallSize one));
  }

  pub enters_on : (one : RegionRec) → SeatTied k w l.seat (at_office l OfficeFor.Ask (OfficeAt.Enter one))
      → Suits k (at_office l OfficeFor.Ask (OfficeAt.Enter one))
      (seen_in w (at_office l OfficeFor.Ask (OfficeAt.Enter one)))
      → StepLeaves k w (at_office l OfficeFor.Ask (OfficeAt.Enter one))
  enters_on one tied suits =
      let lo : Local = at_office l OfficeFor.Ask (OfficeAt.Enter one) in
      let at : OfficeAt = OfficeAt.WallSize one in
      record {
        later = with_regions (entered one) w;
        run = steps_on stays (WholeStep.office (entered one) (RegionStep.enters (obtains l) one tied.tasks.desks) tt
            (free_at k w l OfficeFor.Ask (OfficeAt.Enter one) tied));
        office = refl;
        words = refl;
        here = goes_to k w l OfficeFor.Ask (OfficeAt.Enter one) (seen_in w lo) tied suits (entered one).pool.mem
            w.pool.blocks w.settled (shadow_entered one w.office) at (OfficeNext.Goes at) (Task.At (obtains l) at)
            (to_next l OfficeFor.Ask (OfficeAt.Enter one) (seen_in w lo) at refl) refl
            (still_hands k w l OfficeFor.Ask (OfficeAt.Enter one) (seen_in w lo) tied suits tt) tt;
      }

  -- a store at an edge of the region, and where the seat goes on
  edge_on : (at next : OfficeAt) (e : Side) (y : ℕ) (standing : Standing) → IsStill at
      → let lo : Local = at_office l OfficeFor.Ask at in
      let state : State = edged k l.seat (obtains l) at e y standing (regions_of w) in
      SeatTied k w l.seat lo → Suits k lo (seen_in w lo)
      → office_learn (office_call lo OfficeFor.Ask) at (seen_in w lo) ≡ OfficeNext.Goes next
      → office_learn (office_call lo OfficeFor.Ask) at (Seen.Word (found_in w lo)) ≡ OfficeNext.Goes next
      → WordsSay (with_regions state w) l.seat (at_office l OfficeFor.Ask next)
      → StateHere k (with_regions state w) l.seat (learn lo (seen_in w lo)).0
  edge_on at next e y standing still tied suits learns finds words =
      let lo : Local = at_office l OfficeFor.Ask at in
      goes_to k w l OfficeFor.Ask at (seen_in w lo) tied suits
      (mem_at k l.seat (obtains l) at (regions_of w)) (with_edge e y standing w.pool.blocks) w.settled w.office next
      (OfficeNext.Goes next)
      (task_after (obtains l) at (office_learn (office_call lo OfficeFor.Ask) at (Seen.Word (found_in w lo))))
      (to_next l OfficeFor.Ask at (seen_in w lo) next learns) (ap (task_after (obtains l) at) finds)
      (still_hands k w l OfficeFor.Ask at (seen_in w lo) tied suits still) words

  pub walls_off_on : (one : RegionRec) → SeatTied k w l.seat (at_office l OfficeFor.Ask (OfficeAt.WallSize one))
      → Suits k (at_office l OfficeFor.Ask (OfficeAt.WallSize one))
      (seen_in w (at_office l OfficeFor.Ask (OfficeAt.WallSize one)))
      → StepLeaves k w (at_office l OfficeFor.Ask (OfficeAt.WallSize one))
  walls_off_on one tied suits =
      let state : State = edged k l.seat (obtains l) (OfficeAt.WallSize one) Side.Begin (wall_of one) Standing.Walled
      (regions_of w) in
      record {
        later = with_regions state w;
        run = steps_on stays (WholeStep.office state (RegionStep.walls_off (obtains l) one tied.tasks.desks) tt
            (free_at k w l OfficeFor.Ask (OfficeAt.WallSize one) tied));
        office = refl;
        words = refl;
        here = edge_on (OfficeAt.WallSize one) (OfficeAt.WallLeft one) Side.Begin (wall_of one) Standing.Walled tt tied
            suits refl refl tt;
      }

  walled_says : (later : Whole) (one : RegionRec) (b : Bool)
      → ObtainSays later (cond b (office_entered one) (OfficeAt.FirstSize one))
  walled_says later one true = tt
  walled_says later one false = tt

  pub walls_in_on : (one : RegionRec) → SeatTied k w l.seat (at_office l OfficeFor.Ask (OfficeAt.WallLeft one))
      → Suits k (at_office l OfficeFor.Ask (OfficeAt.WallLeft one))
      (seen_in w (at_office l OfficeFor.Ask (OfficeAt.WallLeft one)))
      → StepLeaves k w (at_office l OfficeFor.Ask (OfficeAt.WallLeft one))
  walls_in_on one tied suits =
      let state : State = edged k l.seat (obtains l) (OfficeAt.WallLeft one) Side.End one.first Standing.Walled
      (regions_of w) in
      record {
        later = with_regions state w;
        run = steps_on stays (WholeStep.office state (RegionStep.walls_in (obtains l) one tied.tasks.desks) tt
            (free_at k w l OfficeFor.Ask (OfficeAt.WallLeft one) tied));
        office = refl;
        words = refl;
        here = edge_on (OfficeAt.WallLeft one) (office_walled one) Side.End one.first Standing.Walled tt tied suits refl
            refl (walled_says (with_regions state w) one (one.granules == 0));
      }

  -- the region's granules are the pool's
  region_within : WholeGood k w → (at : OfficeAt) (one : RegionRec)
      → w.desks l.seat ≡ Task.At (obtains l) at → IsIn w.office one → one.first + one.granules ≤ k.span
  region_within good at one desk in' = good.regions.placed.within (slot_of one.number) one
      (good.regions.office.records_fit.known (slot_of one.number) one in')

  used_there : (m : Mem) (first : ℕ) → first < k.span
      → guard_in (after k m (Store (Word.Size first) (guard_word Guard.Used))) Side.Begin first ≡ Guard.Used
  used_there m first low =
      ap guard_of (ap (λ (n : Mem). n sizes first) (stored-valid k m (Word.Size first) (guard_word Guard.Used) (omega arith))
      ∙ write_here m sizes sizes first (guard_word Guard.Used) first refl refl)
      ∙ guards_read_back Guard.Used tt

  pub outlines_on : (one : RegionRec) → WholeGood k w
      → SeatTied k w l.seat (at_office l OfficeFor.Ask (OfficeAt.FirstSize one))
      → Suits k (at_office l OfficeFor.Ask (OfficeAt.FirstSize one))
      (seen_in w (at_office l OfficeFor.Ask (OfficeAt.FirstSize one)))
      → StepLeaves k w (at_office l OfficeFor.Ask (OfficeAt.FirstSize one))
  outlines_on one good tied suits =
      let state : State = edged k l.seat (obtains l) (OfficeAt.FirstSize one) Side.Begin one.first Standing.Inner
      (regions_of w) in
      let in' : IsIn w.office one = subst (λ t. offices.TaskFits w.office (offices.core_in w.pool.mem w.desks) t)
      tied.tasks.desks (good.regions.office.tasks_fit l.seat) in
      let within = region_within good (OfficeAt.FirstSize one) one tied.tasks.desks in' in
      let some = tied.says.hands.1 in
      record {
        later = with_regions state w;
        run = steps_on stays (WholeStep.office state (RegionStep.outlines (obtains l) one tied.tasks.desks) tt
            (free_at k w l OfficeFor.Ask (OfficeAt.FirstSize one) tied));
        office = refl;
        words = refl;
        here = edge_on (OfficeAt.FirstSize one) (OfficeAt.LastLeft one) Side.Begin one.first Standing.Inner tt tied suits
            refl refl (used_there w.pool.mem one.first (omega arith));
      }
