-- A put of a block, wherever it is made: what is so before its step, and what behind it.
use Rattle.std.proofs.Common.{◌≡◌, ◌∙◌, ◌+◌, ℕ, Bool, List, ◌++◌, Some, true, false, cond, refl}
use Rattle.std.proofs.Common.{sym, subst, arith}
use Rattle.std.specs.Prelude.{⊤, ◌&&◌}
use Rattle.pool_types.specs.Sums.{capped}
use Rattle.pool_words.specs.declared.words.Key.{Key}
use Rattle.pool_words.specs.declared.actions.Action.{Action}
use Rattle.guards.specs.declared.win.Side.{Side}
use Rattle.guards.specs.declared.win.Taking.{Taking}
use Rattle.chain_words.specs.declared.pushing.PushAt.{PushAt}
use Rattle.coalescer.specs.declared.put.Beside.{Beside}
use Rattle.coalescer.specs.declared.put.PutAt.{PutAt}
use Rattle.coalescer.specs.declared.put.PutCall.{PutCall}
use Rattle.coalescer.specs.declared.put.PutNext.{PutNext}
use Rattle.coalescer.specs.declared.put.PutStep.{PutStep}
use Rattle.coalescer.specs.Put.{bins, goes, is_free, is_walled, looks_far, left_ends, right_ends, sides_known}
use Rattle.coalescer.specs.Put.{step_course, step_learn}
use Rattle.word_laws.specs.Memory.{Mem, after, found}
use Rattle.guard_laws.specs.Blocks.{Place, Use}
use Rattle.guard_laws.specs.Steps.{guard_in}
use Rattle.queue_laws.specs.Queue as line_laws
use Rattle.backend_tasks.specs.Bins.{put_task, put_task_left}
use Rattle.backend_tasks.specs.Fits.{PutFits}
use Rattle.backend_tasks.specs.Guards.{put_guard, put_guard_left}
use Rattle.hand_blocks.specs.Changes.{Change, HandsLead, given_changes, step_changes}
use Rattle.hand_blocks.specs.Fits.{JoinFits, WinsFit}
use Rattle.hand_blocks.specs.Hands.{AllHands, Hand, put_hands_at}
use Rattle.pool_laws.specs.Wholes.{Whole, WholeGood}
use Rattle.seat_ties.specs.Says.{AreMarked, BeginsRegion, EndsRegion, IsAllOfRegion, LeftSays, PutSays, RightSays}
use Rattle.seat_ties.specs.Ties.{HandsTied}
use Rattle.seat_hands.specs.Laws.{IsOfHands}
use Rattle.seat_hands.proofs.CallerLemmas.{hands_forget}
use Rattle.put_moves.proofs.Blocks.{LiesWithin, lies_within}
use Rattle.put_moves.proofs.Frame.{Now, Steps, tasks}
use Rattle.put_moves.proofs.Regions.{all_of_region}

abbrev pub found_at : Whole → PutCall → PutAt → PutStep → ℕ
found_at w c p step = found w.pool.mem (step_course c p step)

abbrev pub next_at : Whole → PutCall → PutAt → PutStep → PutNext
next_at w c p step = step_learn c p step (found_at w c p step)

abbrev pub all_changes : PutCall → PutAt → PutStep → ℕ → List Change
all_changes c p step f = step_changes c p step f ++ given_changes (step_learn c p step f)

abbrev pub IsHeld : Whole → ℕ → Hand → Type 0
IsHeld w seat one = IsOfHands w.pool.blocks.place (w.drained seat) seat one

pub record Before (k : Key) (w : Whole) (c : PutCall) (p : PutAt) (step : PutStep) (line : line_laws.Task)
    (was now_is : List Hand) : Type 0 where
  pub good : WholeGood k w
  pub now : Now w c.seat (tasks (put_guard p step) (put_task c p step) line)
  pub tied : HandsTied w.pool.blocks.place (w.drained c.seat) c.seat was
  pub each : AllHands (IsHeld w c.seat) (put_hands_at p step)
  pub says : PutSays w p step
  pub fits : PutFits c step
  pub joins : JoinFits p step
  pub wins : WinsFit p step
  pub leads : HandsLead (all_changes c p step (found_at w c p step)) was now_is

-- what the words say to the put's next position
abbrev pub NextSays : Whole → ℕ → PutAt → PutStep → PutNext → Type 0
NextSays later seat p step (PutNext.Goes q) = PutSays later q q.step
NextSays later seat p step (PutNext.Waits bin) = PutSays later p step
NextSays later seat p step PutNext.Done = ⊤
NextSays later seat p step (PutNext.Gives b) = IsAllOfRegion later seat b.first

-- a whole behind the step
pub record Later (k : Key) (w : Whole) (action : Action) (place' : ℕ → Place) (later : Whole) : Type 0 where
  pub words : later.pool.mem ≡ after k w.pool.mem action
  pub settled : later.settled ≡ w.settled
  pub place : later.pool.blocks.place ≡ place'

pub record After (k : Key) (w : Whole) (c : PutCall) (p : PutAt) (step : PutStep) (line : line_laws.Task)
    (now_is : List Hand) : Type 0 where
  pub place' : ℕ → Place
  pub steps : Steps k w c.seat (step_course c p step) (tasks (put_guard_left p step (found_at w c p step))
      (put_task_left c p step (found_at w c p step)) line) place' (w.drained c.seat)
  pub hands : HandsTied place' (w.drained c.seat) c.seat now_is
  pub says : (later : Whole) → Later k w (step_course c p step) place' later
      → NextSays later c.seat p step (next_at w c p step)

-- a block whose region is to be given back is forgotten, and else the hand is as it was
pub given_tied : (place : ℕ → Place) (drained : List ℕ) (seat : ℕ) (next : PutNext) (was now_is : List Hand)
    → HandsTied place drained seat was → HandsLead (given_changes next) was now_is
    → HandsTied place drained seat now_is
given_tied place drained seat (PutNext.Goes q) was now_is tied leads =
    subst (HandsTied place drained seat) (sym leads) tied
given_tied place drained seat (PutNext.Waits bin) was now_is tied leads =
    subst (HandsTied place drained seat) (sym leads) tied
given_tied place drained seat PutNext.Done was now_is tied leads =
    subst (HandsTied place drained seat) (sym leads) tied
given_tied place drained seat (PutNext.Gives b) was now_is tied leads =
    subst (HandsTied place drained seat) (sym leads.2)
    (hands_forget place drained seat b.first b.granules was leads.0 tied leads.1)

-- the end of a block in hand is no index that a sum of bytes cuts off
pub end_is : (k : Key) (w : Whole) (first n : ℕ) (u : Use) → WholeGood k w
    → w.pool.blocks.place first ≡ Place.Block first n u → capped (first + n) ≡ first + n
end_is k w first n u good at =
    let lies : LiesWithin k first n = lies_within k w first n u good at in
    let below = lies.below in
    let small = lies.small in
    omega arith

-- what was said of regions is so while no other ones settle
pub begins_later : (w later : Whole) (first : ℕ) → later.settled ≡ w.settled → BeginsRegion w first
    → BeginsRegion later first
begins_later w later first same is s one settled has =
    is s one (subst (λ f. f s ≡ Some one) same settled) has

pub ends_later : (w later : Whole) (first n : ℕ) → later.settled ≡ w.settled → EndsRegion w first n
    → EndsRegion later first n
ends_later w later first n same is s one settled has =
    is s one (subst (λ f. f s ≡ Some one) same settled) has

pub left_later : (w later : Whole) (first : ℕ) (left : Beside) → later.settled ≡ w.settled → LeftSays w first left
    → LeftSays later first left
left_later w later first Beside.Unknown same is = is
left_later w later first Beside.InUse same is = is
left_later w later first Beside.Wall same is = begins_later w later first same is
left_later w later first Beside.Joined same is = is

pub right_later : (w later : Whole) (first n : ℕ) (right : Beside) → later.settled ≡ w.settled
    → RightSays w first n right → RightSays later first n right
right_later w later first n Beside.Unknown same is = is
right_later w later first n Beside.InUse same is = is
right_later w later first n Beside.Wall same is = ends_later w later first n same is
right_later w later first n Beside.Joined same is = is

-- both marks stay where both guards do
pub marks_stay : (m m' : Mem) (first n : ℕ) → guard_in m' Side.Begin first ≡ guard_in m Side.Begin first
    → guard_in m' Side.End (first + n) ≡ guard_in m Side.End (first + n) → AreMarked m first n
    → AreMarked m' first n
marks_stay m m' first n begin end marked = record { begin = begin ∙ marked.begin; end = end ∙ marked.end }

-- where the put goes on into the queue or a bin
pub queue_says : (c : PutCall) (later : Whole) (seat : ℕ) (p : PutAt) (step : PutStep) (drained : Bool)
    → AreMarked later.pool.mem p.block.first p.block.granules
    → NextSays later seat p step (cond drained (bins p) (goes p (PutStep.Queue PushAt.Look)))
queue_says c later seat p step true marked = tt
queue_says c later seat p step false marked = record { marked = marked }

-- the ends of a block that no block in use was seen beside
pub right_end_says : (later : Whole) (seat : ℕ) (q p : PutAt) (step : PutStep) (right : Beside)
    → AreMarked later.pool.mem p.block.first p.block.granules
    → later.pool.blocks.place p.block.first
    ≡ Place.Block p.block.first p.block.granules (Use.Held seat Taking.ToJoin)
    → BeginsRegion later p.block.first → RightSays later p.block.first p.block.granules right
    → NextSays later seat q step (right_ends p right)
right_end_says later seat q p step Beside.Joined marked at begins ends = record { marked = marked; left = begins }
right_end_says later seat q p step Beside.InUse marked at begins ends = absurd ends
right_end_says later seat q p step Beside.Wall marked at begins ends =
    all_of_region later seat p.block.first p.block.granules at begins ends
right_end_says later seat q p step Beside.Unknown marked at begins ends = absurd ends

left_end_says : (later : Whole) (seat : ℕ) (q p : PutAt) (step : PutStep) (left : Beside)
    → AreMarked later.pool.mem p.block.first p.block.granules
    → later.pool.blocks.place p.block.first
    ≡ Place.Block p.block.first p.block.granules (Use.Held seat Taking.ToJoin)
    → LeftSays later p.block.first left → is_free left ≡ true
    → RightSays later p.block.first p.block.granules p.right → NextSays later seat q step (left_ends p left)
left_end_says later seat q p step Beside.Joined marked at says is right = record { marked = marked; right = right }
left_end_says later seat q p step Beside.InUse marked at says is right = absurd (cc)
left_end_says later seat q p step Beside.Wall marked at says is right =
    right_end_says later seat q p step p.right marked at says right
left_end_says later seat q p step Beside.Unknown marked at says is right = absurd says

-- what was seen behind the block, a block in use too
abbrev pub RightKnown : Whole → ℕ → ℕ → Beside → Type 0
RightKnown w first n Beside.Unknown = ⊥
RightKnown w first n Beside.InUse = ⊤
RightKnown w first n Beside.Wall = EndsRegion w first n
RightKnown w first n Beside.Joined = ⊤

right_of_known : (w : Whole) (first n : ℕ) (right : Beside) → RightKnown w first n right → is_free right ≡ true
    → RightSays w first n right
right_of_known w first n Beside.Unknown known is = known
right_of_known w first n Beside.InUse known is = absurd (cc)
right_of_known w first n Beside.Wall known is = known
right_of_known w first n Beside.Joined known is = tt

both_true : (a b : Bool) → a && b ≡ true → (a ≡ true) × (b ≡ true)
both_true true true is = (refl, refl)
both_true true false is = absurd (cc)
both_true false b is = absurd (cc)

side_says : (later : Whole) (seat : ℕ) (q p : PutAt) (step : PutStep) (test : Bool)
    → (test ≡ true → NextSays later seat q step (looks_far p))
    → NextSays later seat q step (cond test (looks_far p) (bins p))
side_says later seat q p step true says = says refl
side_says later seat q p step false says = tt

pub sides_say : (c : PutCall) (later : Whole) (seat : ℕ) (q p : PutAt) (step : PutStep)
    → AreMarked later.pool.mem p.block.first p.block.granules
    → later.pool.blocks.place p.block.first
    ≡ Place.Block p.block.first p.block.granules (Use.Held seat Taking.ToJoin)
    → LeftSays later p.block.first p.left → RightKnown later p.block.first p.block.granules p.right
    → NextSays later seat q step (sides_known c p)
sides_say c later seat q p step marked at left right =
    side_says later seat q p step (c.gives && is_walled p)
    (λ is.
    let sides = both_true (is_free p.left) (is_free p.right) ((both_true c.gives (is_walled p) is).1) in
    left_end_says later seat q p step p.left marked at left sides.0
    (right_of_known later p.block.first p.block.granules p.right right sides.1))
