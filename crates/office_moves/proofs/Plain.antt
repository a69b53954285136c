-- Steps at the office by which no block moves and no region comes: the lock is won, a slot is looked at, and where the
-- local keeps what it has in hand.
use Rattle.std.proofs.Common.{◌≡◌, ◌<◌, ◌+◌, ◌-◌, ℕ, true, false, Bool, [], refl, sym, ap, subst, arith}
use Rattle.std.specs.Prelude.{Option, None, cond, eqb, nat_lt, ⊤}
use Rattle.pool_words.specs.declared.words.Key.{Key}
use Rattle.pool_words.specs.declared.actions.Seen.{Seen}
use Rattle.region_steps.specs.declared.office.OfficeAt.{OfficeAt}
use Rattle.region_steps.specs.declared.office.OfficeNext.{OfficeNext}
use Rattle.pool_types.specs.Limits.{most_regions}
use Rattle.region_steps.specs.Office.{office_learn, office_looked}
use Rattle.word_laws.specs.Memory.{Mem}
use Rattle.office_laws.specs.Regions as offices
use Rattle.office_laws.specs.Regions.{Task}
use Rattle.office_laws.specs.Steps.{task_after}
use Rattle.region_laws.specs.Steps.{RegionStep, stepped}
use Rattle.step_local.specs.declared.frames.Local.{Local}
use Rattle.step_local.specs.declared.frames.OfficeFor.{OfficeFor}
use Rattle.step_local.specs.Backend.{office_call, office_job}
use Rattle.step_local.specs.Learn.{learn}
use Rattle.hand_blocks.specs.Changes.{HandsLead, give_changes, obtain_changes, office_changes}
use Rattle.hand_blocks.specs.Hands.{hands_of}
use Rattle.hand_blocks.proofs.CallerLemmas.{turns_change_hands}
use Rattle.pool_laws.specs.Changes.{with_regions}
use Rattle.pool_laws.specs.Steps.{WholeStep}
use Rattle.pool_laws.specs.Wholes.{Whole, regions_of}
use Rattle.seat_ties.specs.Left.{Suits}
use Rattle.seat_ties.specs.Says.{OfficeSays}
use Rattle.seat_ties.specs.Ties.{HandsTied, SeatTied}
use Rattle.seat_ties.specs.Turns.{stays, steps_on, StateHere, StepLeaves, found_in, seen_in}
use Rattle.office_moves.proofs.Settings.{at_office, free_at, goes_to, regions_with, to_next, to_same}

-- positions whose step changes nothing that is in hand: a region settles at one, and is removed at one
abbrev pub IsStill : OfficeAt → Type 0
IsStill (OfficeAt.LastLeft one) = ⊥
IsStill (OfficeAt.Remove given) = ⊥
IsStill _ = ⊤

still_obtain : (at : OfficeAt) → IsStill at → obtain_changes at ≡ []
still_obtain (OfficeAt.LastLeft one) still = absurd still
still_obtain _ still = refl

still_give : (first : ℕ) (at : OfficeAt) → IsStill at → give_changes first at ≡ []
still_give first (OfficeAt.Remove given) still = absurd still
still_give first _ still = refl

still_changes : (job : OfficeFor) (at : OfficeAt) → IsStill at → office_changes job at ≡ []
still_changes OfficeFor.Ask at still = still_obtain at still
still_changes (OfficeFor.Put first) at still = still_give first at still
still_changes (OfficeFor.Drain first rest) at still = still_give first at still

-- hands that no change is of stay
pub same_hands : (k : Key) (w : Whole) (l : Local) (job : OfficeFor) (at : OfficeAt) (s : Seen)
    → SeatTied k w l.seat (at_office l job at) → Suits k (at_office l job at) s → office_changes job at ≡ []
    → HandsTied w.pool.blocks.place (w.drained l.seat) l.seat (hands_of (learn (at_office l job at) s).0)
same_hands k w l job at s tied suits none =
    let lo : Local = at_office l job at in
    let led = subst (λ changes. HandsLead changes (hands_of lo) (hands_of (learn lo s).0)) none
    (turns_change_hands lo s tied.says.hands suits.step) in
    subst (HandsTied w.pool.blocks.place (w.drained l.seat) l.seat) (sym led) tied.hands

pub still_hands : (k : Key) (w : Whole) (l : Local) (job : OfficeFor) (at : OfficeAt) (s : Seen)
    → SeatTied k w l.seat (at_office l job at) → Suits k (at_office l job at) s → IsStill at
    → HandsTied w.pool.blocks.place (w.drained l.seat) l.seat (hands_of (learn (at_office l job at) s).0)
still_hands k w l job at s tied suits still = same_hands k w l job at s tied suits (still_changes job at still)

-- the whole with other words, desks and records at the office
abbrev pub office_with : Mem → (ℕ → Task) → offices.Shadow → Whole → Whole
office_with m desks office w = regions_with m w.pool.blocks desks w.settled office w

-- where a region is given back the block is all of it from the lock on; nothing is said yet of one that is asked for
slot_says : (m : Mem) (desks : ℕ → Task) (office : offices.Shadow) (w : Whole) (seat : ℕ) (job : OfficeFor) (slot : ℕ)
    (given : Option ℕ) (b : Bool) → OfficeSays w seat job OfficeAt.Lock
    → OfficeSays (office_with m desks office w) seat job (cond b (OfficeAt.Region slot given) (OfficeAt.Take given))
slot_says m desks office w seat OfficeFor.Ask slot given true says = tt
slot_says m desks office w seat OfficeFor.Ask slot given false says = tt
slot_says m desks office w seat (OfficeFor.Put first) slot given true says = says
slot_says m desks office w seat (OfficeFor.Put first) slot given false says = says
slot_says m desks office w seat (OfficeFor.Drain first rest) slot given true says = says
slot_says m desks office w seat (OfficeFor.Drain first rest) slot given false says = says

lock_says : (m : Mem) (desks : ℕ → Task) (office : offices.Shadow) (w : Whole) (seat : ℕ) (job : OfficeFor)
    → OfficeSays w seat job OfficeAt.Lock → OfficeSays (office_with m desks office w) seat job OfficeAt.Lock
lock_says m desks office w seat OfficeFor.Ask says = tt
lock_says m desks office w seat (OfficeFor.Put first) says = says
lock_says m desks office w seat (OfficeFor.Drain first rest) says = says

region_says : (w : Whole) (seat : ℕ) (job : OfficeFor) (slot : ℕ) (given : Option ℕ)
    → OfficeSays w seat job (OfficeAt.Region slot given) → OfficeSays w seat job OfficeAt.Lock
region_says w seat OfficeFor.Ask slot given says = tt
region_says w seat (OfficeFor.Put first) slot given says = says
region_says w seat (OfficeFor.Drain first rest) slot given says = says

few_seats : (k : Key) (w : Whole) (seat : ℕ) (l : Local) → SeatTied k w seat l → seat < 64
few_seats k w seat l tied = let below = tied.says.number.seats in let most = tied.says.number.few in omega arith

module _ (k : Key) (w : Whole) (l : Local) (job : OfficeFor) where
  abbrev locking : Local
  locking = at_office l job OfficeAt.Lock

  abbrev after_lock : Whole
  after_lock = with_regions (stepped k l.seat (office_job locking job) OfficeAt.Lock (regions_of w)) w

  -- the lock is won, or the seat waits
  lock_by : (b : Bool) → eqb (found_in w locking) 0 ≡ b → SeatTied k w l.seat locking
      → Suits k locking (seen_in w locking) → StateHere k after_lock l.seat (learn locking (seen_in w locking)).0
  lock_by true e tied suits =
      let learns = ap (λ c. cond {A = OfficeNext} c (OfficeNext.Goes (OfficeAt.Region 0 None)) OfficeNext.Waits) e in
      goes_to k w l job OfficeAt.Lock (seen_in w locking) tied suits after_lock.pool.mem w.pool.blocks w.settled w.office
      (OfficeAt.Region 0 None) (OfficeNext.Goes (OfficeAt.Region 0 None))
      (task_after (office_job locking job) OfficeAt.Lock
      (office_learn (office_call locking job) OfficeAt.Lock (seen_in w locking)))
      (to_next l job OfficeAt.Lock (seen_in w locking) (OfficeAt.Region 0 None) learns)
      (ap (task_after (office_job locking job) OfficeAt.Lock) learns)
      (still_hands k w l job OfficeAt.Lock (seen_in w locking) tied suits tt)
      (slot_says after_lock.pool.mem after_lock.desks w.office w l.seat job 0 None true tied.words)
  lock_by false e tied suits =
      let learns = ap (λ c. cond {A = OfficeNext} c (OfficeNext.Goes (OfficeAt.Region 0 None)) OfficeNext.Waits) e in
      goes_to k w l job OfficeAt.Lock (seen_in w locking) tied suits after_lock.pool.mem w.pool.blocks w.settled w.office
      OfficeAt.Lock OfficeNext.Waits
      (task_after (office_job locking job) OfficeAt.Lock
      (office_learn (office_call locking job) OfficeAt.Lock (seen_in w locking)))
      (to_same l job OfficeAt.Lock (seen_in w locking) learns)
      (ap (task_after (office_job locking job) OfficeAt.Lock) learns)
      (still_hands k w l job OfficeAt.Lock (seen_in w locking) tied suits tt)
      (lock_says after_lock.pool.mem after_lock.desks w.office w l.seat job tied.words)

  pub locks : SeatTied k w l.seat locking → Suits k locking (seen_in w locking) → StepLeaves k w locking
  locks tied suits = record {
    later = after_lock;
    run = steps_on stays (WholeStep.office (stepped k l.seat (office_job locking job) OfficeAt.Lock (regions_of w))
        (RegionStep.locks (office_job locking job) (few_seats k w l.seat locking tied) tied.tasks.desks) tt
        (free_at k w l job OfficeAt.Lock tied));
    office = refl;
    words = refl;
    here = lock_by (eqb (found_in w locking) 0) refl tied suits;
  }

module _ (k : Key) (w : Whole) (l : Local) (job : OfficeFor) (slot : ℕ) (given : Option ℕ) where
  abbrev looking : Local
  looking = at_office l job (OfficeAt.Region slot given)

  abbrev found_next : OfficeAt
  found_next = office_looked (office_job looking job) slot given (found_in w looking)

  abbrev after_look : Whole
  after_look = with_regions (stepped k l.seat (office_job looking job) (OfficeAt.Region slot given) (regions_of w)) w

  pub looks : SeatTied k w l.seat looking → Suits k looking (seen_in w looking) → StepLeaves k w looking
  looks tied suits = record {
    later = after_look;
    run = steps_on stays (WholeStep.office
        (stepped k l.seat (office_job looking job) (OfficeAt.Region slot given) (regions_of w))
        (RegionStep.looks (office_job looking job) slot given tied.tasks.desks) tt
        (free_at k w l job (OfficeAt.Region slot given) tied));
    office = refl;
    words = refl;
    here = goes_to k w l job (OfficeAt.Region slot given) (seen_in w looking) tied suits w.pool.mem w.pool.blocks
        w.settled w.office found_next (OfficeNext.Goes found_next) (Task.At (office_job looking job) found_next)
        (to_next l job (OfficeAt.Region slot given) (seen_in w looking) found_next refl) refl
        (still_hands k w l job (OfficeAt.Region slot given) (seen_in w looking) tied suits tt)
        (slot_says after_look.pool.mem after_look.desks w.office w l.seat job (slot + 1) _
        (nat_lt slot (most_regions - 1)) (region_says w l.seat job slot given tied.words));
  }
