-- The steps of a put that take a neighbour out of its bin and join it.
use Rattle.std.proofs.Common.{◌≡◌, ◌∙◌, ◌+◌, ◌-◌, ◌≤◌, ℕ, List, ◌++◌, ap, sym, subst, arith}
use Rattle.std.specs.Prelude.{⊤}
use Rattle.pool_words.specs.declared.words.Key.{Key}
use Rattle.pool_words.specs.declared.actions.Action.{Action}
use Rattle.guards.specs.declared.win.Side.{Side}
use Rattle.guards.specs.declared.win.Taking.{Taking}
use Rattle.locked_chain.specs.declared.lock.LockNext.{LockNext}
use Rattle.locked_chain.specs.declared.remove.RemoveNext.{RemoveNext}
use Rattle.locked_chain.specs.Locks.{lock_learn}
use Rattle.locked_chain.specs.Remove.{remove_learn}
use Rattle.backend_bins.specs.declared.bin.BinAt.{BinAt}
use Rattle.backend_bins.specs.declared.bin.BinCall.{BinCall}
use Rattle.backend_bins.specs.declared.bin.BinJob.{BinJob}
use Rattle.backend_bins.specs.declared.bin.BinNext.{BinNext}
use Rattle.backend_bins.specs.declared.blocks.Block.{Block}
use Rattle.backend_bins.specs.Bin.{bin_course, bin_learn, bin_lock, job_begins, lock_tried, out_goes}
use Rattle.backend_bins.specs.Blocks.{bin_of}
use Rattle.coalescer.specs.declared.put.Beside.{Beside}
use Rattle.coalescer.specs.declared.put.PutAt.{PutAt}
use Rattle.coalescer.specs.declared.put.PutCall.{PutCall}
use Rattle.coalescer.specs.declared.put.PutStep.{PutStep}
use Rattle.coalescer.specs.Put.{ends, unlink_call, unlinks_left, unlinks_right}
use Rattle.word_laws.specs.Memory.{after, found}
use Rattle.chain_laws.specs.Chains.{tally}
use Rattle.guard_laws.specs.Blocks.{Piece, Place, Use, put_range}
use Rattle.bin_laws.specs.Bins as binning
use Rattle.bin_laws.specs.Steps.{kept_of}
use Rattle.queue_laws.specs.Puts.{TakesOut}
use Rattle.queue_laws.specs.Queue as line_laws
use Rattle.queue_laws.specs.Steps.{IsIdle}
use Rattle.cache_laws.specs.Good.{hand as hand_of_job}
use Rattle.free_laws.specs.Steps.{IsLoose}
use Rattle.hand_blocks.specs.Changes.{HandsLead, given_changes, merged_changes}
use Rattle.hand_blocks.specs.Hands.{Hand, rest_before, rest_behind}
use Rattle.pool_laws.specs.Wholes.{Whole, WholeGood, space_of}
use Rattle.seat_ties.specs.Says.{AreMarked, IsMarkedBehind}
use Rattle.seat_ties.specs.Ties.{HandsTied}
use Rattle.put_moves.proofs.BinMoves.{frees, in_bins, leaves, unlinks}
use Rattle.put_moves.proofs.Blocks.{are_merged, lies_within, range_in}
use Rattle.put_moves.proofs.Frame.{Now, Steps, Tasks}
use Rattle.put_moves.proofs.GuardMoves.{free, merges}
use Rattle.put_moves.proofs.Job.{After, Before, NextSays, given_tied, left_later, marks_stay, sides_say}
use Rattle.put_moves.proofs.Words.{guard_elsewhere, takes_out_writes}

-- behind a step these are the seat's tasks
pub now_later : (k : Key) (w : Whole) (seat : ℕ) (action : Action) (was t : Tasks) (place : ℕ → Place) (gone : List ℕ)
    → Now w seat was → (steps : Steps k w seat action t place gone) → Now steps.later seat t
now_later k w seat action was t place gone now steps = record {
  guards = steps.guards;
  bins = steps.bins;
  queue = steps.queue;
  jobs = ap (λ f. hand_of_job (f seat)) steps.same.jobs ∙ now.jobs;
}

loose : (w later : Whole) (seat x : ℕ) → later.bins seat ≡ binning.Task.Away → later.drained seat ≡ w.drained seat
    → tally x (w.drained seat) ≡ 0 → IsLoose (space_of later) seat x
loose w later seat x away same apart = record {
  listed = λ n is. absurd (let r : Piece.NoPiece ≡ Piece.Got x n = sym (ap (λ t. kept_of t) away) ∙ is in cc);
  taken = ap (λ xs. tally x xs) same ∙ apart;
}

-- the job at the bin goes on
abbrev pub IsOn : BinNext → Type 0
IsOn (BinNext.Goes at) = ⊤
IsOn BinNext.Waits = ⊤
IsOn BinNext.Done = ⊥

lock_on : (c : BinCall) (next : LockNext) → IsOn (lock_tried c next)
lock_on c LockNext.Won = job_on c.job
  where
    job_on : (job : BinJob) → IsOn (job_begins job)
    job_on BinJob.Insert = tt
    job_on BinJob.Unlink = tt
lock_on c LockNext.Waits = tt

out_on : (next : RemoveNext) → IsOn (out_goes next)
out_on (RemoveNext.Goes at) = tt
out_on RemoveNext.Out = tt

marked_later : (k : Key) (w later : Whole) (c : BinCall) (at : BinAt) (first n : ℕ) → TakesOut at
    → later.pool.mem ≡ after k w.pool.mem (bin_course c at) → AreMarked w.pool.mem first n
    → AreMarked later.pool.mem first n
marked_later k w later c at first n out words marked =
    subst (λ m. AreMarked m first n) (sym words)
    (marks_stay w.pool.mem (after k w.pool.mem (bin_course c at)) first n
    (guard_elsewhere k w.pool.mem (bin_course c at) Side.Begin first (takes_out_writes c at out))
    (guard_elsewhere k w.pool.mem (bin_course c at) Side.End (first + n) (takes_out_writes c at out)) marked)

behind_later : (k : Key) (w later : Whole) (c : BinCall) (at : BinAt) (p : PutAt) → TakesOut at
    → later.pool.mem ≡ after k w.pool.mem (bin_course c at) → later.settled ≡ w.settled → IsMarkedBehind w p
    → IsMarkedBehind later p
behind_later k w later c at p out words settled says = record {
  marked = marked_later k w later c at p.block.first p.block.granules out words says.marked;
  left = left_later w later p.block.first p.left settled says.left;
}

left_on_says : (later : Whole) (seat : ℕ) (p : PutAt) (neighbour : Block) (at : BinAt) (next : BinNext) → IsOn next
    → IsMarkedBehind later p → NextSays later seat p (PutStep.UnlinkLeft neighbour at) (unlinks_left p neighbour next)
left_on_says later seat p neighbour at (BinNext.Goes at') on says = record { marked = says.marked; left = says.left }
left_on_says later seat p neighbour at BinNext.Waits on says = says
left_on_says later seat p neighbour at BinNext.Done on says = absurd on

left_on_leads : (p : PutAt) (neighbour : Block) (x a b : ℕ) (next : BinNext) (was is : List Hand) → IsOn next
    → HandsLead (merged_changes x a b next ++ given_changes (unlinks_left p neighbour next)) was is → is ≡ was
left_on_leads p neighbour x a b (BinNext.Goes at') was is on leads = leads
left_on_leads p neighbour x a b BinNext.Waits was is on leads = leads
left_on_leads p neighbour x a b BinNext.Done was is on leads = absurd on

pub unlink_left_turns : (k : Key) (w : Whole) (c : PutCall) (p : PutAt) (neighbour : Block) (at : BinAt)
    (line : line_laws.Task) (was is : List Hand) → IsIdle line
    → Before k w c p (PutStep.UnlinkLeft neighbour at) line was is
    → After k w c p (PutStep.UnlinkLeft neighbour at) line is
unlink_left_turns k w c p neighbour BinAt.Lock line was is idle b =
    let call : BinCall = unlink_call c neighbour in
    let f : ℕ = found w.pool.mem (bin_course call BinAt.Lock) in
    let next : BinNext = bin_learn call BinAt.Lock f in
    let on : IsOn next = lock_on call (lock_learn (bin_lock call) f) in
    record {
      place' = w.pool.blocks.place;
      steps = leaves k w c.seat neighbour.first neighbour.granules line b.now idle;
      hands = subst (HandsTied w.pool.blocks.place (w.drained c.seat) c.seat)
          (sym (left_on_leads p neighbour _ _ _ next was is on b.leads)) b.tied;
      says = λ later l. left_on_says later c.seat p neighbour BinAt.Lock next on
          (behind_later k w later call BinAt.Lock p tt l.words l.settled b.says);
    }
unlink_left_turns k w c p neighbour (BinAt.Out at) line was is idle b =
    let call : BinCall = unlink_call c neighbour in
    let f : ℕ = found w.pool.mem (bin_course call (BinAt.Out at)) in
    let next : BinNext = bin_learn call (BinAt.Out at) f in
    let on : IsOn next = out_on (remove_learn at f) in
    record {
      place' = w.pool.blocks.place;
      steps = unlinks k w c.seat neighbour.first neighbour.granules at line b.now idle;
      hands = subst (HandsTied w.pool.blocks.place (w.drained c.seat) c.seat)
          (sym (left_on_leads p neighbour _ _ _ next was is on b.leads)) b.tied;
      says = λ later l. left_on_says later c.seat p neighbour (BinAt.Out at) next on
          (behind_later k w later call (BinAt.Out at) p tt l.words l.settled b.says);
    }
unlink_left_turns k w c p neighbour BinAt.Unlock line was is idle b =
    let call : BinCall = unlink_call c neighbour in
    let x : ℕ = neighbour.first in
    let a : ℕ = neighbour.granules in
    let rest : ℕ = (rest_behind p neighbour).granules in
    let freed = frees k w c.seat (bin_of a) line b.now idle in
    let now = now_later k w c.seat (bin_course call BinAt.Unlock) (in_bins (binning.Task.Has (bin_of a)) line)
    (in_bins binning.Task.Away line) w.pool.blocks.place (w.drained c.seat) b.now freed in
    record {
      place' = put_range w.pool.blocks.place x (a + rest)
          (Place.Block x (a + rest) (Use.Held c.seat Taking.ToJoin));
      steps = merges k w c.seat (bin_course call BinAt.Unlock) x a rest binning.Task.Away line w.pool.blocks.place freed
          (free freed.later c.seat (in_bins binning.Task.Away line) now idle) b.each.0.lies b.each.1.0.lies
          (loose w freed.later c.seat x now.bins freed.drained b.each.0.apart)
          (loose w freed.later c.seat (x + a) now.bins freed.drained b.each.1.0.apart);
      hands = subst (HandsTied (put_range w.pool.blocks.place x (a + rest)
          (Place.Block x (a + rest) (Use.Held c.seat Taking.ToJoin))) (w.drained c.seat) c.seat) (sym b.leads.2)
          (are_merged k w c.seat x a rest was b.leads.0 b.good b.each.0.lies b.tied b.leads.1);
      says = λ later l.
          let says = behind_later k w later call BinAt.Unlock p tt l.words l.settled b.says in
          record { marked = says.marked; left = says.left };
    }
unlink_left_turns k w c p neighbour BinAt.Size line was is idle b = absurd b.fits
unlink_left_turns k w c p neighbour BinAt.Left line was is idle b = absurd b.fits
unlink_left_turns k w c p neighbour (BinAt.Insert at) line was is idle b = absurd b.fits

right_on_says : (c : PutCall) (later : Whole) (seat : ℕ) (p : PutAt) (neighbour : Block) (at : BinAt) (next : BinNext)
    → IsOn next → IsMarkedBehind later p
    → NextSays later seat p (PutStep.UnlinkRight neighbour at) (unlinks_right c p neighbour next)
right_on_says c later seat p neighbour at (BinNext.Goes at') on says =
    record { marked = says.marked; left = says.left }
right_on_says c later seat p neighbour at BinNext.Waits on says = says
right_on_says c later seat p neighbour at BinNext.Done on says = absurd on

right_on_leads : (c : PutCall) (p : PutAt) (neighbour : Block) (x a b : ℕ) (next : BinNext) (was is : List Hand)
    → IsOn next
    → HandsLead (merged_changes x a b next ++ given_changes (unlinks_right c p neighbour next)) was is → is ≡ was
right_on_leads c p neighbour x a b (BinNext.Goes at') was is on leads = leads
right_on_leads c p neighbour x a b BinNext.Waits was is on leads = leads
right_on_leads c p neighbour x a b BinNext.Done was is on leads = absurd on

whole_again : (n g : ℕ) → g ≤ n → (n - g) + g ≡ n
whole_again n g within = omega arith

merged_lies : (k : Key) (w : Whole) (seat x a b n : ℕ) → WholeGood k w
    → w.pool.blocks.place x ≡ Place.Block x a (Use.Held seat Taking.ToJoin) → a + b ≡ n
    → put_range w.pool.blocks.place x (a + b) (Place.Block x (a + b) (Use.Held seat Taking.ToJoin)) x
    ≡ Place.Block x n (Use.Held seat Taking.ToJoin)
merged_lies k w seat x a b n good at sum =
    let some = (lies_within k w x a (Use.Held seat Taking.ToJoin) good at).some in
    range_in w.pool.blocks.place x (a + b) (Place.Block x (a + b) (Use.Held seat Taking.ToJoin)) x (omega arith)
    (omega arith) ∙ ap (λ m. Place.Block x m (Use.Held seat Taking.ToJoin)) sum

pub unlink_right_turns : (k : Key) (w : Whole) (c : PutCall) (p : PutAt) (neighbour : Block) (at : BinAt)
    (line : line_laws.Task) (was is : List Hand) → IsIdle line
    → Before k w c p (PutStep.UnlinkRight neighbour at) line was is
    → After k w c p (PutStep.UnlinkRight neighbour at) line is
unlink_right_turns k w c p neighbour BinAt.Lock line was is idle b =
    let call : BinCall = unlink_call c neighbour in
    let f : ℕ = found w.pool.mem (bin_course call BinAt.Lock) in
    let next : BinNext = bin_learn call BinAt.Lock f in
    let on : IsOn next = lock_on call (lock_learn (bin_lock call) f) in
    record {
      place' = w.pool.blocks.place;
      steps = leaves k w c.seat neighbour.first neighbour.granules line b.now idle;
      hands = subst (HandsTied w.pool.blocks.place (w.drained c.seat) c.seat)
          (sym (right_on_leads c p neighbour _ _ _ next was is on b.leads)) b.tied;
      says = λ later l. right_on_says c later c.seat p neighbour BinAt.Lock next on
          (behind_later k w later call BinAt.Lock p tt l.words l.settled b.says);
    }
unlink_right_turns k w c p neighbour (BinAt.Out at) line was is idle b =
    let call : BinCall = unlink_call c neighbour in
    let f : ℕ = found w.pool.mem (bin_course call (BinAt.Out at)) in
    let next : BinNext = bin_learn call (BinAt.Out at) f in
    let on : IsOn next = out_on (remove_learn at f) in
    record {
      place' = w.pool.blocks.place;
      steps = unlinks k w c.seat neighbour.first neighbour.granules at line b.now idle;
      hands = subst (HandsTied w.pool.blocks.place (w.drained c.seat) c.seat)
          (sym (right_on_leads c p neighbour _ _ _ next was is on b.leads)) b.tied;
      says = λ later l. right_on_says c later c.seat p neighbour (BinAt.Out at) next on
          (behind_later k w later call (BinAt.Out at) p tt l.words l.settled b.says);
    }
unlink_right_turns k w c p neighbour BinAt.Unlock line was is idle b =
    let call : BinCall = unlink_call c neighbour in
    let x : ℕ = p.block.first in
    let a : ℕ = (rest_before p neighbour).granules in
    let g : ℕ = neighbour.granules in
    let u : Use = Use.Held c.seat Taking.ToJoin in
    let freed = frees k w c.seat (bin_of g) line b.now idle in
    let now = now_later k w c.seat (bin_course call BinAt.Unlock) (in_bins (binning.Task.Has (bin_of g)) line)
    (in_bins binning.Task.Away line) w.pool.blocks.place (w.drained c.seat) b.now freed in
    let second : w.pool.blocks.place (x + a) ≡ Place.Block (x + a) g u =
    subst (λ y. w.pool.blocks.place y ≡ Place.Block y g u) b.joins.0 b.each.1.0.lies in
    let apart : tally (x + a) (w.drained c.seat) ≡ 0 =
    subst (λ y. tally y (w.drained c.seat) ≡ 0) b.joins.0 b.each.1.0.apart in
    let place' : ℕ → Place = put_range w.pool.blocks.place x (a + g) (Place.Block x (a + g) u) in
    record {
      place' = place';
      steps = merges k w c.seat (bin_course call BinAt.Unlock) x a g binning.Task.Away line w.pool.blocks.place freed
          (free freed.later c.seat (in_bins binning.Task.Away line) now idle) b.each.0.lies second
          (loose w freed.later c.seat x now.bins freed.drained b.each.0.apart)
          (loose w freed.later c.seat (x + a) now.bins freed.drained apart);
      hands = given_tied place' (w.drained c.seat) c.seat (ends c p Beside.Joined) b.leads.0 is
          (are_merged k w c.seat x a g was b.leads.0 b.good b.each.0.lies b.tied b.leads.1) b.leads.2;
      says = λ later l.
          let says = behind_later k w later call BinAt.Unlock p tt l.words l.settled b.says in
          sides_say c later c.seat p (record p { right = Beside.Joined }) (PutStep.UnlinkRight neighbour BinAt.Unlock)
          says.marked (ap (λ f. f x) l.place ∙ merged_lies k w c.seat x a g p.block.granules b.good b.each.0.lies
          (whole_again p.block.granules g b.joins.1)) says.left tt;
    }
unlink_right_turns k w c p neighbour BinAt.Size line was is idle b = absurd b.fits
unlink_right_turns k w c p neighbour BinAt.Left line was is idle b = absurd b.fits
unlink_right_turns k w c p neighbour (BinAt.Insert at) line was is idle b = absurd b.fits
