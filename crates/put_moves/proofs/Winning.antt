-- The steps of a put that win a neighbour.
use Rattle.std.proofs.Common.{◌≡◌, ◌∙◌, ◌+◌, ◌-◌, ◌≤◌, ◌<◌, ◌^◌, ℕ, Bool, List, [], ◌∷◌, ◌++◌, true, false, cond, eqb}
use Rattle.std.proofs.Common.{refl, ap, sym, subst, arith}
use Rattle.pool_types.specs.Sums.{capped}
use Rattle.pool_words.specs.declared.words.Key.{Key}
use Rattle.pool_words.specs.declared.words.Word.{Word}
use Rattle.pool_words.specs.declared.actions.Action.{Action}
use Rattle.pool_words.specs.declared.actions.Action.TheVariants.{Store}
use Rattle.pool_words.specs.Words.{lefts, sizes}
use Rattle.word_codes.specs.declared.guards.Guard.{Guard}
use Rattle.word_codes.specs.Guards.{guard_of, guard_word}
use Rattle.guards.specs.declared.win.Side.{Side}
use Rattle.guards.specs.declared.win.Taking.{Taking}
use Rattle.guards.specs.declared.win.WinAt.{WinAt}
use Rattle.guards.specs.declared.win.WinCall.{WinCall}
use Rattle.guards.specs.declared.win.WinNext.{WinNext}
use Rattle.guards.specs.Win.{free_word, guard_at, taken_word, win_course, win_learn}
use Rattle.backend_bins.specs.declared.blocks.Block.{Block}
use Rattle.backend_bins.specs.Blocks.{block_end}
use Rattle.coalescer.specs.declared.put.PutAt.{PutAt}
use Rattle.coalescer.specs.declared.put.PutCall.{PutCall}
use Rattle.coalescer.specs.declared.put.PutNext.{PutNext}
use Rattle.coalescer.specs.declared.put.PutStep.{PutStep}
use Rattle.coalescer.specs.Put.{left_neighbour, left_win, right_neighbour, right_win, wins_left}
use Rattle.coalescer.specs.Put.{wins_right}
use Rattle.word_laws.specs.Memory.{Mem, after, found, word_at}
use Rattle.guard_laws.specs.Blocks.{Place, Use, put_range}
use Rattle.guard_laws.specs.Steps.{guard_in, task_after}
use Rattle.bin_laws.specs.Bins as binning
use Rattle.queue_laws.specs.Queue as line_laws
use Rattle.queue_laws.specs.Steps.{IsIdle}
use Rattle.free_laws.specs.Steps.{IsNotWon}
use Rattle.backend_tasks.specs.Bins.{won_left}
use Rattle.hand_blocks.specs.Changes.{Change, HandsLead, given_changes, won_changes}
use Rattle.hand_blocks.specs.Hands.{Hand, hand, joining}
use Rattle.pool_laws.specs.Wholes.{Whole, WholeGood}
use Rattle.seat_ties.specs.Says.{AreMarked, LeftSays}
use Rattle.seat_ties.specs.Ties.{HandsTied}
use Rattle.put_moves.proofs.Blocks.{LiesWithin, comes_in, lies_within, won_is_bin}
use Rattle.put_moves.proofs.Frame.{Steps, tasks}
use Rattle.put_moves.proofs.GuardMoves.{loses, wins}
use Rattle.put_moves.proofs.Job.{After, Before, NextSays, end_is, given_tied, left_later, marks_stay}
use Rattle.put_moves.proofs.Job.{queue_says}
use Rattle.put_moves.proofs.Marking.{LiesThere, judges_left_say, judges_right_say}
use Rattle.put_moves.proofs.Words.{exchange_spares, exchange_won, guard_else, mark_here}

-- a step that does not win both guards leaves bins and hands
bin_lost : (b : Block) (next : WinNext) → IsNotWon next → binning.Task.Away ≡ won_left binning.Task.Away b next
bin_lost b (WinNext.Goes at) not = refl
bin_lost b WinNext.Won not = absurd not
bin_lost b (WinNext.NotWon found) not = refl
bin_lost b WinNext.GivenBack not = refl

leads_lost : (one : Hand) (next : WinNext) (then : PutNext) (was is : List Hand) → IsNotWon next
    → HandsLead (won_changes one next ++ given_changes then) was is → HandsLead (given_changes then) was is
leads_lost one (WinNext.Goes at) then was is not leads = leads
leads_lost one WinNext.Won then was is not leads = absurd not
leads_lost one (WinNext.NotWon found) then was is not leads = leads
leads_lost one WinNext.GivenBack then was is not leads = leads

abbrev pub next_win : Whole → WinCall → WinAt → WinNext
next_win w c at = win_learn c at (found w.pool.mem (win_course c at))

-- the guard that was found is the first one of the call
abbrev found_lost : WinNext → ℕ
found_lost (WinNext.NotWon found) = found
found_lost _ = 0

first_lost : (b : Bool) (f found : ℕ) → cond b (WinNext.Goes WinAt.Second) (WinNext.NotWon f) ≡ WinNext.NotWon found
    → f ≡ found
first_lost true f found is = absurd (cc)
first_lost false f found is = ap found_lost is

second_lost : (b : Bool) (found : ℕ) → cond b WinNext.Won (WinNext.Goes WinAt.Back) ≡ WinNext.NotWon found → ⊥
second_lost true found is = absurd (cc)
second_lost false found is = absurd (cc)

lost_reads : (m : Mem) (c : WinCall) (at : WinAt) (found' : ℕ)
    → win_learn c at (found m (win_course c at)) ≡ WinNext.NotWon found' → word_at m (guard_at c c.first) ≡ found'
lost_reads m c WinAt.First found' is =
    first_lost (eqb (word_at m (guard_at c c.first)) (free_word c)) (word_at m (guard_at c c.first)) found' is
lost_reads m c WinAt.Second found' is =
    absurd (second_lost (eqb (found m (win_course c WinAt.Second)) (free_word c)) found' is)
lost_reads m c WinAt.Back found' is = absurd (cc)

-- a win leaves both marks of the block that is put
pub left_marks : (k : Key) (m : Mem) (p : PutAt) (g : ℕ) (at : WinAt) → g + 3 < 2 ^ 64 → 0 < p.block.granules
    → AreMarked m p.block.first p.block.granules
    → AreMarked (after k m (win_course (left_win p g) at)) p.block.first p.block.granules
left_marks k m p g WinAt.First told some marked =
    let to : ℕ = taken_word Taking.ToJoin in
    let first : ℕ = p.block.first in
    let n : ℕ = p.block.granules in
    marks_stay m (after k m (win_course (left_win p g) WinAt.First)) first n
    (exchange_spares k m Side.End first g to Side.Begin first told marked.begin)
    (exchange_spares k m Side.End first g to Side.End (first + n) told marked.end) marked
left_marks k m p g WinAt.Second told some marked =
    let to : ℕ = taken_word Taking.ToJoin in
    let first : ℕ = p.block.first in
    let n : ℕ = p.block.granules in
    marks_stay m (after k m (win_course (left_win p g) WinAt.Second)) first n
    (exchange_spares k m Side.Begin (first - g) g to Side.Begin first told marked.begin)
    (exchange_spares k m Side.Begin (first - g) g to Side.End (first + n) told marked.end) marked
left_marks k m p g WinAt.Back told some marked =
    let first : ℕ = p.block.first in
    let n : ℕ = p.block.granules in
    let back : Action = Store (Word.Left first) (guard_word (Guard.Free g)) in
    marks_stay m (after k m back) first n
    (guard_else k m back Side.Begin first (λ e. absurd (omega arith)))
    (guard_else k m back Side.End (first + n) (λ e is. absurd (omega arith))) marked

pub right_marks : (k : Key) (m : Mem) (p : PutAt) (g : ℕ) (at : WinAt) → g + 3 < 2 ^ 64 → 0 < p.block.granules
    → block_end p.block ≡ p.block.first + p.block.granules
    → AreMarked m p.block.first p.block.granules
    → AreMarked (after k m (win_course (right_win p g) at)) p.block.first p.block.granules
right_marks k m p g WinAt.First told some end marked =
    let to : ℕ = taken_word Taking.ToJoin in
    let first : ℕ = p.block.first in
    let n : ℕ = p.block.granules in
    marks_stay m (after k m (win_course (right_win p g) WinAt.First)) first n
    (exchange_spares k m Side.Begin (block_end p.block) g to Side.Begin first told marked.begin)
    (exchange_spares k m Side.Begin (block_end p.block) g to Side.End (first + n) told marked.end) marked
right_marks k m p g WinAt.Second told some end marked =
    let to : ℕ = taken_word Taking.ToJoin in
    let first : ℕ = p.block.first in
    let n : ℕ = p.block.granules in
    let far : ℕ = capped (block_end p.block + g) in
    marks_stay m (after k m (win_course (right_win p g) WinAt.Second)) first n
    (exchange_spares k m Side.End far g to Side.Begin first told marked.begin)
    (exchange_spares k m Side.End far g to Side.End (first + n) told marked.end) marked
right_marks k m p g WinAt.Back told some end marked =
    let first : ℕ = p.block.first in
    let n : ℕ = p.block.granules in
    let back : Action = Store (Word.Size (block_end p.block)) (guard_word (Guard.Free g)) in
    marks_stay m (after k m back) first n
    (guard_else k m back Side.Begin first (λ e is. absurd (omega arith)))
    (guard_else k m back Side.End (first + n) (λ e. absurd (omega arith))) marked

-- where the neighbour before the block is not won
left_lost_says : (k : Key) (w later : Whole) (c : PutCall) (p : PutAt) (g : ℕ) (at : WinAt) (next : WinNext)
    → WholeGood k w → LiesThere w c.seat p → next_win w (left_win p g) at ≡ next → IsNotWon next
    → later.settled ≡ w.settled → AreMarked later.pool.mem p.block.first p.block.granules
    → NextSays later c.seat p (PutStep.WinLeft g at) (wins_left c p g next)
left_lost_says k w later c p g at (WinNext.Goes at') good there is not same marked = record { marked = marked }
left_lost_says k w later c p g at WinNext.Won good there is not same marked = absurd not
left_lost_says k w later c p g at (WinNext.NotWon f) good there is not same marked =
    judges_left_say k w later c p (PutStep.WinLeft g at) (guard_of f) good there
    (ap guard_of (lost_reads w.pool.mem (left_win p g) at f is)) same marked
left_lost_says k w later c p g at WinNext.GivenBack good there is not same marked =
    queue_says c later c.seat p (PutStep.WinLeft g at) c.drained marked

left_loses : (k : Key) (w : Whole) (c : PutCall) (p : PutAt) (g : ℕ) (at : WinAt) (line : line_laws.Task)
    (was is : List Hand) → IsIdle line → Before k w c p (PutStep.WinLeft g at) line was is
    → IsNotWon (next_win w (left_win p g) at) → After k w c p (PutStep.WinLeft g at) line is
left_loses k w c p g at line was is idle b not =
    let call : WinCall = left_win p g in
    let next : WinNext = next_win w call at in
    let there : LiesThere w c.seat p = b.each.0.lies in
    let some = (lies_within k w p.block.first p.block.granules (Use.Held c.seat Taking.ToJoin) b.good there).some in
    record {
      place' = w.pool.blocks.place;
      steps = subst (λ bin. Steps k w c.seat (win_course call at) (tasks (task_after call next) bin line)
          w.pool.blocks.place (w.drained c.seat)) (bin_lost (left_neighbour p g) next not)
          (loses k w c.seat call at binning.Task.Away line b.now idle not);
      hands = given_tied w.pool.blocks.place (w.drained c.seat) c.seat (wins_left c p g next) was is b.tied
          (leads_lost (joining (left_neighbour p g)) next (wins_left c p g next) was is not b.leads);
      says = λ later l. left_lost_says k w later c p g at next b.good there refl not l.settled
          (subst (λ m. AreMarked m p.block.first p.block.granules) (sym l.words)
          (left_marks k w.pool.mem p g at b.wins.told some b.says.marked));
    }

-- an exchange that won found the free guard
won_test : (b : Bool) → cond b WinNext.Won (WinNext.Goes WinAt.Back) ≡ WinNext.Won → b ≡ true
won_test true is = refl
won_test false is = absurd (cc)

sum_left : (first n g span : ℕ) → (first - g) + g ≡ first → first + n ≤ span → span < 2 ^ 32
    → (first - g) + capped (n + g) ≡ first + n
sum_left first n g span is low small = omega arith

left_wins : (k : Key) (w : Whole) (c : PutCall) (p : PutAt) (g : ℕ) (line : line_laws.Task)
    (was is : List Hand) → IsIdle line → Before k w c p (PutStep.WinLeft g WinAt.Second) line was is
    → next_win w (left_win p g) WinAt.Second ≡ WinNext.Won → After k w c p (PutStep.WinLeft g WinAt.Second) line is
left_wins k w c p g line was is idle b won =
    let call : WinCall = left_win p g in
    let next : WinNext = next_win w call WinAt.Second in
    let x : ℕ = p.block.first - g in
    let first : ℕ = p.block.first in
    let n : ℕ = p.block.granules in
    let there : LiesThere w c.seat p = b.each.0.lies in
    let lies : LiesWithin k first n = lies_within k w first n (Use.Held c.seat Taking.ToJoin) b.good there in
    let below = lies.below in
    let small = lies.small in
    let some = lies.some in
    let adds = b.wins.ends in
    let bin : w.pool.blocks.place x ≡ Place.Block x g Use.Bin =
    won_is_bin k w.pool.blocks w.pool.mem w.pool.tasks c.seat call b.good.free.bins.guards b.now.guards won in
    let leads : HandsLead (Change.Comes (hand x g Taking.ToJoin) ∷ []) was is =
    subst (λ next'. HandsLead (won_changes (joining (left_neighbour p g)) next' ++ given_changes (wins_left c p g next'))
    was is) won b.leads in
    let place' : ℕ → Place = put_range w.pool.blocks.place x g (Place.Block x g (Use.Held c.seat Taking.ToJoin)) in
    record {
      place' = place';
      steps = subst (λ next'. Steps k w c.seat (win_course call WinAt.Second)
          (tasks (task_after call next') (won_left binning.Task.Away (left_neighbour p g) next') line)
          place' (w.drained c.seat)) (sym won)
          (wins k w c.seat call binning.Task.Away line b.now idle won tt);
      hands = subst (HandsTied place' (w.drained c.seat) c.seat) (sym leads.2)
          (comes_in k w c.seat x g Taking.ToJoin was leads.0 b.good bin b.tied leads.1);
      says = λ later l. subst (λ next'. NextSays later c.seat p (PutStep.WinLeft g WinAt.Second) (wins_left c p g next'))
          (sym won) (record {
            marked = record {
              begin = ap (λ m. guard_in m Side.Begin x) (l.words ∙ exchange_won k w.pool.mem (Word.Size x)
                  (guard_word (Guard.Free g)) (guard_word Guard.Coalescing)
                  (won_test (eqb (w.pool.mem sizes x) (guard_word (Guard.Free g))) won))
                  ∙ mark_here k w.pool.mem Side.Begin x (omega arith);
              end = ap (λ y. guard_in later.pool.mem Side.End y) (sum_left first n g k.span adds below small)
                  ∙ ap (λ m. guard_in m Side.End (first + n)) l.words
                  ∙ (left_marks k w.pool.mem p g WinAt.Second b.wins.told some b.says.marked).end;
            };
            left = tt;
          });
    }

left_second : (k : Key) (w : Whole) (c : PutCall) (p : PutAt) (g : ℕ) (line : line_laws.Task)
    (was is : List Hand) → IsIdle line → Before k w c p (PutStep.WinLeft g WinAt.Second) line was is
    → (next : WinNext) → next_win w (left_win p g) WinAt.Second ≡ next
    → After k w c p (PutStep.WinLeft g WinAt.Second) line is
left_second k w c p g line was is idle b WinNext.Won e = left_wins k w c p g line was is idle b e
left_second k w c p g line was is idle b (WinNext.Goes at) e =
    left_loses k w c p g WinAt.Second line was is idle b (subst IsNotWon (sym e) tt)
left_second k w c p g line was is idle b (WinNext.NotWon f) e =
    left_loses k w c p g WinAt.Second line was is idle b (subst IsNotWon (sym e) tt)
left_second k w c p g line was is idle b WinNext.GivenBack e =
    left_loses k w c p g WinAt.Second line was is idle b (subst IsNotWon (sym e) tt)

first_not_won : (b : Bool) (f : ℕ) → IsNotWon (cond b (WinNext.Goes WinAt.Second) (WinNext.NotWon f))
first_not_won true f = tt
first_not_won false f = tt

pub win_left_turns : (k : Key) (w : Whole) (c : PutCall) (p : PutAt) (g : ℕ) (at : WinAt) (line : line_laws.Task)
    (was is : List Hand) → IsIdle line → Before k w c p (PutStep.WinLeft g at) line was is
    → After k w c p (PutStep.WinLeft g at) line is
win_left_turns k w c p g WinAt.First line was is idle b =
    left_loses k w c p g WinAt.First line was is idle b
    (first_not_won (eqb (found w.pool.mem (win_course (left_win p g) WinAt.First)) (free_word (left_win p g)))
    (found w.pool.mem (win_course (left_win p g) WinAt.First)))
win_left_turns k w c p g WinAt.Second line was is idle b =
    left_second k w c p g line was is idle b (next_win w (left_win p g) WinAt.Second) refl
win_left_turns k w c p g WinAt.Back line was is idle b =
    left_loses k w c p g WinAt.Back line was is idle b tt

-- and the neighbour behind it
right_lost_says : (k : Key) (w later : Whole) (c : PutCall) (p : PutAt) (g : ℕ) (at : WinAt) (next : WinNext)
    → WholeGood k w → LiesThere w c.seat p → next_win w (right_win p g) at ≡ next → IsNotWon next
    → later.settled ≡ w.settled → later.pool.blocks.place ≡ w.pool.blocks.place
    → AreMarked later.pool.mem p.block.first p.block.granules → LeftSays w p.block.first p.left
    → NextSays later c.seat p (PutStep.WinRight g at) (wins_right c p g next)
right_lost_says k w later c p g at (WinNext.Goes at') good there is not same place marked left =
    record { marked = marked; left = left_later w later p.block.first p.left same left }
right_lost_says k w later c p g at WinNext.Won good there is not same place marked left = absurd not
right_lost_says k w later c p g at (WinNext.NotWon f) good there is not same place marked left =
    judges_right_say k w later c p (PutStep.WinRight g at) (guard_of f) good there
    (ap (λ y. guard_in w.pool.mem Side.Begin y) (sym (end_is k w p.block.first p.block.granules
    (Use.Held c.seat Taking.ToJoin) good there)) ∙ ap guard_of (lost_reads w.pool.mem (right_win p g) at f is)) same
    place marked left
right_lost_says k w later c p g at WinNext.GivenBack good there is not same place marked left =
    queue_says c later c.seat p (PutStep.WinRight g at) c.drained marked

right_loses : (k : Key) (w : Whole) (c : PutCall) (p : PutAt) (g : ℕ) (at : WinAt) (line : line_laws.Task)
    (was is : List Hand) → IsIdle line → Before k w c p (PutStep.WinRight g at) line was is
    → IsNotWon (next_win w (right_win p g) at) → After k w c p (PutStep.WinRight g at) line is
right_loses k w c p g at line was is idle b not =
    let call : WinCall = right_win p g in
    let next : WinNext = next_win w call at in
    let there : LiesThere w c.seat p = b.each.0.lies in
    let u : Use = Use.Held c.seat Taking.ToJoin in
    let some = (lies_within k w p.block.first p.block.granules u b.good there).some in
    record {
      place' = w.pool.blocks.place;
      steps = subst (λ bin. Steps k w c.seat (win_course call at) (tasks (task_after call next) bin line)
          w.pool.blocks.place (w.drained c.seat)) (bin_lost (right_neighbour p g) next not)
          (loses k w c.seat call at binning.Task.Away line b.now idle not);
      hands = given_tied w.pool.blocks.place (w.drained c.seat) c.seat (wins_right c p g next) was is b.tied
          (leads_lost (joining (right_neighbour p g)) next (wins_right c p g next) was is not b.leads);
      says = λ later l. right_lost_says k w later c p g at next b.good there refl not l.settled l.place
          (subst (λ m. AreMarked m p.block.first p.block.granules) (sym l.words)
          (right_marks k w.pool.mem p g at b.wins.told some
          (end_is k w p.block.first p.block.granules u b.good there) b.says.marked)) b.says.left;
    }

sum_right : (first n g end far span : ℕ) → end ≡ first + n → end + g ≡ far → end + g ≤ span → span < 2 ^ 32
    → first + capped (n + g) ≡ far
sum_right first n g end far span is adds low small = omega arith

right_wins : (k : Key) (w : Whole) (c : PutCall) (p : PutAt) (g : ℕ) (line : line_laws.Task)
    (was is : List Hand) → IsIdle line → Before k w c p (PutStep.WinRight g WinAt.Second) line was is
    → next_win w (right_win p g) WinAt.Second ≡ WinNext.Won → After k w c p (PutStep.WinRight g WinAt.Second) line is
right_wins k w c p g line was is idle b won =
    let call : WinCall = right_win p g in
    let x : ℕ = block_end p.block in
    let far : ℕ = capped (block_end p.block + g) in
    let first : ℕ = p.block.first in
    let n : ℕ = p.block.granules in
    let there : LiesThere w c.seat p = b.each.0.lies in
    let lies : LiesWithin k first n = lies_within k w first n (Use.Held c.seat Taking.ToJoin) b.good there in
    let small = lies.small in
    let some = lies.some in
    let adds = b.wins.ends in
    let end : x ≡ first + n = end_is k w first n (Use.Held c.seat Taking.ToJoin) b.good there in
    let bin : w.pool.blocks.place x ≡ Place.Block x g Use.Bin =
    won_is_bin k w.pool.blocks w.pool.mem w.pool.tasks c.seat call b.good.free.bins.guards b.now.guards won in
    let within = (lies_within k w x g Use.Bin b.good bin).below in
    let leads : HandsLead (Change.Comes (hand x g Taking.ToJoin) ∷ []) was is =
    subst (λ next'. HandsLead (won_changes (joining (right_neighbour p g)) next'
    ++ given_changes (wins_right c p g next')) was is) won b.leads in
    let place' : ℕ → Place = put_range w.pool.blocks.place x g (Place.Block x g (Use.Held c.seat Taking.ToJoin)) in
    record {
      place' = place';
      steps = subst (λ next'. Steps k w c.seat (win_course call WinAt.Second)
          (tasks (task_after call next') (won_left binning.Task.Away (right_neighbour p g) next') line)
          place' (w.drained c.seat)) (sym won)
          (wins k w c.seat call binning.Task.Away line b.now idle won tt);
      hands = subst (HandsTied place' (w.drained c.seat) c.seat) (sym leads.2)
          (comes_in k w c.seat x g Taking.ToJoin was leads.0 b.good bin b.tied leads.1);
      says = λ later l. subst (λ next'. NextSays later c.seat p (PutStep.WinRight g WinAt.Second)
          (wins_right c p g next')) (sym won) (record {
            marked = record {
              begin = ap (λ m. guard_in m Side.Begin first) l.words
                  ∙ (right_marks k w.pool.mem p g WinAt.Second b.wins.told some end b.says.marked).begin;
              end = ap (λ y. guard_in later.pool.mem Side.End y) (sum_right first n g x far k.span end adds within small)
                  ∙ ap (λ m. guard_in m Side.End far) (l.words ∙ exchange_won k w.pool.mem (Word.Left far)
                  (guard_word (Guard.Free g)) (guard_word Guard.Coalescing)
                  (won_test (eqb (w.pool.mem lefts far) (guard_word (Guard.Free g))) won))
                  ∙ mark_here k w.pool.mem Side.End far (omega arith);
            };
            left = left_later w later first p.left l.settled b.says.left;
          });
    }

right_second : (k : Key) (w : Whole) (c : PutCall) (p : PutAt) (g : ℕ) (line : line_laws.Task)
    (was is : List Hand) → IsIdle line → Before k w c p (PutStep.WinRight g WinAt.Second) line was is
    → (next : WinNext) → next_win w (right_win p g) WinAt.Second ≡ next
    → After k w c p (PutStep.WinRight g WinAt.Second) line is
right_second k w c p g line was is idle b WinNext.Won e = right_wins k w c p g line was is idle b e
right_second k w c p g line was is idle b (WinNext.Goes at) e =
    right_loses k w c p g WinAt.Second line was is idle b (subst IsNotWon (sym e) tt)
right_second k w c p g line was is idle b (WinNext.NotWon f) e =
    right_loses k w c p g WinAt.Second line was is idle b (subst IsNotWon (sym e) tt)
right_second k w c p g line was is idle b WinNext.GivenBack e =
    right_loses k w c p g WinAt.Second line was is idle b (subst IsNotWon (sym e) tt)

pub win_right_turns : (k : Key) (w : Whole) (c : PutCall) (p : PutAt) (g : ℕ) (at : WinAt) (line : line_laws.Task)
    (was is : List Hand) → IsIdle line → Before k w c p (PutStep.WinRight g at) line was is
    → After k w c p (PutStep.WinRight g at) line is
win_right_turns k w c p g WinAt.First line was is idle b =
    right_loses k w c p g WinAt.First line was is idle b
    (first_not_won (eqb (found w.pool.mem (win_course (right_win p g) WinAt.First)) (free_word (right_win p g)))
    (found w.pool.mem (win_course (right_win p g) WinAt.First)))
win_right_turns k w c p g WinAt.Second line was is idle b =
    right_second k w c p g line was is idle b (next_win w (right_win p g) WinAt.Second) refl
win_right_turns k w c p g WinAt.Back line was is idle b =
    right_loses k w c p g WinAt.Back line was is idle b tt
