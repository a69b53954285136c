-- What a put has in hand, step by step.
use Rattle.std.proofs.Common.{◌≡◌, ◌∙◌, ◌+◌, ◌-◌, ◌<◌, ◌≤◌, ◌^◌, ℕ, Bool, true, false, cond, List, [], ◌∷◌, ◌++◌}
use Rattle.std.proofs.Common.{refl, sym, ap, subst, arith}
use Rattle.std.specs.Prelude.{⊤, ◌&&◌}
use Rattle.pool_types.specs.Sums.{capped}
use Rattle.chain_words.specs.declared.pushing.PushNext.{PushNext}
use Rattle.chain_words.specs.Pushing.{push_learn}
use Rattle.guards.specs.declared.win.Taking.{Taking}
use Rattle.guards.specs.declared.win.WinNext.{WinNext}
use Rattle.guards.specs.Win.{win_learn}
use Rattle.guard_laws.specs.Blocks.{CallFits}
use Rattle.word_codes.specs.declared.guards.Guard.{Guard}
use Rattle.word_codes.specs.Guards.{guard_of}
use Rattle.backend_bins.specs.declared.bin.BinAt.{BinAt}
use Rattle.backend_bins.specs.declared.bin.BinCall.{BinCall}
use Rattle.backend_bins.specs.declared.bin.BinNext.{BinNext}
use Rattle.backend_bins.specs.declared.blocks.Block.{Block}
use Rattle.backend_bins.specs.declared.bin.BinJob.{BinJob}
use Rattle.backend_bins.specs.Bin.{bin_learn, bin_lock, insert_goes, job_begins, lock_tried, out_goes}
use Rattle.backend_bins.specs.Blocks.{block, block_end}
use Rattle.locked_chain.specs.declared.lock.LockNext.{LockNext}
use Rattle.locked_chain.specs.declared.insert.InsertNext.{InsertNext}
use Rattle.locked_chain.specs.declared.remove.RemoveNext.{RemoveNext}
use Rattle.locked_chain.specs.Insert.{insert_learn}
use Rattle.locked_chain.specs.Locks.{lock_learn}
use Rattle.locked_chain.specs.Remove.{remove_learn}
use Rattle.coalescer.specs.declared.put.Beside.{Beside}
use Rattle.coalescer.specs.declared.put.PutAt.{PutAt}
use Rattle.coalescer.specs.declared.put.PutCall.{PutCall}
use Rattle.coalescer.specs.declared.put.PutNext.{PutNext}
use Rattle.coalescer.specs.declared.put.PutStep.{PutStep}
use Rattle.coalescer.specs.Put.{bins, bin_goes, ends, insert_call, is_walled, joined_left, joined_right, judges_left}
use Rattle.coalescer.specs.Put.{judges_right, left_ends, left_neighbour, left_win, looks_far}
use Rattle.coalescer.specs.Put.{put_learn, queue_goes, queues, right_ends, right_neighbour, right_win, sees_far_left}
use Rattle.coalescer.specs.Put.{sees_far_right, sides_known, step_learn, unlink_call, unlinks_left, unlinks_right}
use Rattle.coalescer.specs.Put.{wins_left}
use Rattle.coalescer.specs.Put.{wins_right}
use Rattle.hand_blocks.specs.Changes.{Change, HandsLead, bin_changes, given_changes, merged_changes, pushed_changes}
use Rattle.hand_blocks.specs.Changes.{put_changes, step_changes, won_changes}
use Rattle.hand_blocks.specs.Fits.{AllLie, JoinFits, WinsFit}
use Rattle.hand_blocks.specs.Hands.{Hand, bin_hands, hand, joining, put_hands, put_hands_at, rest_before}
use Rattle.hand_blocks.specs.Hands.{rest_behind, returning}
use Rattle.hand_blocks.proofs.Lists.{leads_then, leaves}

-- a put that goes on fits, and one that waits stays where it is
abbrev pub next_hands : PutAt → PutNext → List Hand
next_hands p (PutNext.Goes q) = put_hands q
next_hands p (PutNext.Waits bin) = put_hands p
next_hands p PutNext.Done = []
next_hands p (PutNext.Gives b) = returning b.first ∷ []

abbrev pub NextFits : PutNext → Type 0
NextFits (PutNext.Goes q) = JoinFits q q.step
NextFits _ = ⊤

pub record PutTurned (changes : List Change) (before : List Hand) (p : PutAt) (next : PutNext) : Type 0 where
  pub fits : NextFits next
  pub leads : HandsLead changes before (next_hands p next)

-- one block is in hand, and goes on as it is, or to the office
abbrev IsOne : Block → PutNext → Type 0
IsOne b (PutNext.Goes q) = (put_hands q ≡ joining b ∷ []) × JoinFits q q.step
IsOne b (PutNext.Waits bin) = ⊥
IsOne b PutNext.Done = ⊥
IsOne b (PutNext.Gives one) = one ≡ b

forgets : (b : Block) → HandsLead (Change.Forgets b.first b.granules ∷ []) (joining b ∷ []) (returning b.first ∷ [])
forgets b = (returning b.first ∷ [], record { above = []; below = []; was = refl; now = refl; fair = tt }, refl)

one_turn : (p : PutAt) (b : Block) (next : PutNext) → IsOne b next
    → PutTurned (given_changes next) (joining b ∷ []) p next
one_turn p b (PutNext.Goes q) is = record { fits = is.1; leads = is.0 }
one_turn p b (PutNext.Waits bin) is = absurd is
one_turn p b PutNext.Done is = absurd is
one_turn p b (PutNext.Gives one) is = record {
  fits = tt;
  leads = subst (λ c. HandsLead (Change.Forgets one.first one.granules ∷ []) (joining c ∷ [])
      (returning one.first ∷ []))
      is (forgets one);
}

either_one : (b : Block) (test : Bool) (x y : PutNext) → IsOne b x → IsOne b y → IsOne b (cond test x y)
either_one b true x y one other = one
either_one b false x y one other = other

queues_one : (c : PutCall) (p : PutAt) → IsOne p.block (queues c p)
queues_one c p = either_one p.block c.drained (bins p) _ (refl, tt) (refl, tt)

judges_left_one : (c : PutCall) (p : PutAt) (guard : Guard) → IsOne p.block (judges_left c p guard)
judges_left_one c p Guard.Used = (refl, tt)
judges_left_one c p Guard.Wall = (refl, tt)
judges_left_one c p Guard.Coalescing = queues_one c p
judges_left_one c p (Guard.Free granules) = (refl, tt)

right_ends_one : (p : PutAt) (right : Beside) → IsOne p.block (right_ends p right)
right_ends_one p Beside.Joined = (refl, tt)
right_ends_one p Beside.InUse = refl
right_ends_one p Beside.Wall = refl
right_ends_one p Beside.Unknown = refl

left_ends_one : (p : PutAt) (left : Beside) → IsOne p.block (left_ends p left)
left_ends_one p Beside.Joined = (refl, tt)
left_ends_one p Beside.InUse = right_ends_one p p.right
left_ends_one p Beside.Wall = right_ends_one p p.right
left_ends_one p Beside.Unknown = right_ends_one p p.right

sides_known_one : (c : PutCall) (p : PutAt) → IsOne p.block (sides_known c p)
sides_known_one c p = either_one p.block (c.gives && is_walled p) (looks_far p) (bins p) (left_ends_one p p.left)
    (refl, tt)

ends_one : (c : PutCall) (p : PutAt) (right : Beside) → IsOne p.block (ends c p right)
ends_one c p right = sides_known_one c (record p { right = right })

judges_right_one : (c : PutCall) (p : PutAt) (guard : Guard) → IsOne p.block (judges_right c p guard)
judges_right_one c p Guard.Used = ends_one c p Beside.InUse
judges_right_one c p Guard.Wall = ends_one c p Beside.Wall
judges_right_one c p Guard.Coalescing = queues_one c p
judges_right_one c p (Guard.Free granules) = (refl, tt)

far_left_one : (p : PutAt) (guard : Guard) → IsOne p.block (sees_far_left p guard)
far_left_one p Guard.Wall = right_ends_one p p.right
far_left_one p Guard.Used = (refl, tt)
far_left_one p Guard.Coalescing = (refl, tt)
far_left_one p (Guard.Free granules) = (refl, tt)

far_right_one : (p : PutAt) (guard : Guard) → IsOne p.block (sees_far_right p guard)
far_right_one p Guard.Wall = refl
far_right_one p Guard.Used = (refl, tt)
far_right_one p Guard.Coalescing = (refl, tt)
far_right_one p (Guard.Free granules) = (refl, tt)

-- a step's own changes, and behind them that of a block that goes to the office
behind_step : (own : List Change) (before : List Hand) (p : PutAt) (b : Block) (next : PutNext)
    → HandsLead own before (joining b ∷ []) → IsOne b next → PutTurned (own ++ given_changes next) before p next
behind_step own before p b next leads is = record {
  fits = (one_turn p b next is).fits;
  leads = leads_then own (given_changes next) before (joining b ∷ []) (next_hands p next) leads
      (one_turn p b next is).leads;
}

-- numbers of a neighbour that was won
left_first : (first g : ℕ) → (first - g) + g ≡ first → g ≤ first
left_first first g is = omega arith

won_left_granules : (first n g : ℕ) → (first - g) + g ≡ first → first + n < 2 ^ 32 → capped (n + g) - g ≡ n
won_left_granules first n g is low = omega arith

won_left_within : (first n g : ℕ) → (first - g) + g ≡ first → first + n < 2 ^ 32 → g ≤ capped (n + g)
won_left_within first n g is low = omega arith

won_right_granules : (first n g : ℕ) → capped (first + n) + g ≡ capped (capped (first + n) + g) → first + n < 2 ^ 32
    → capped (n + g) - g ≡ n
won_right_granules first n g is low = omega arith

won_right_within : (first n g : ℕ) → capped (first + n) + g ≡ capped (capped (first + n) + g) → first + n < 2 ^ 32
    → g ≤ capped (n + g)
won_right_within first n g is low = omega arith

won_right_first : (first n g : ℕ) → capped (first + n) + g ≡ capped (capped (first + n) + g) → first + n < 2 ^ 32
    → capped (first + n) ≡ first + (capped (n + g) - g)
won_right_first first n g is low = omega arith

-- a neighbour comes before the block that is put, or behind it
left_comes : (p : PutAt) (g : ℕ) → (p.block.first - g) + g ≡ p.block.first → p.block.first + p.block.granules < 2 ^ 32
    → HandsLead (Change.Comes (joining (left_neighbour p g)) ∷ []) (joining p.block ∷ [])
    (joining (left_neighbour p g) ∷ joining (rest_behind (joined_left p g) (left_neighbour p g)) ∷ [])
left_comes p g is low = (
  joining (left_neighbour p g) ∷ joining p.block ∷ [],
  record { above = []; below = joining p.block ∷ []; was = refl; now = refl; fair = tt },
  ap (λ first. joining (left_neighbour p g)
      ∷ joining (block first (capped (p.block.granules + g) - g)) ∷ []) is
      ∙ ap (λ n. joining (left_neighbour p g) ∷ joining (block p.block.first n) ∷ [])
      (won_left_granules p.block.first p.block.granules g is low),
)

right_comes : (p : PutAt) (g : ℕ) → block_end p.block + g ≡ capped (block_end p.block + g)
    → p.block.first + p.block.granules < 2 ^ 32
    → HandsLead (Change.Comes (joining (right_neighbour p g)) ∷ []) (joining p.block ∷ [])
    (joining (rest_before (joined_right p g) (right_neighbour p g)) ∷ joining (right_neighbour p g) ∷ [])
right_comes p g is low = (
  joining p.block ∷ joining (right_neighbour p g) ∷ [],
  record { above = joining p.block ∷ []; below = []; was = refl; now = refl; fair = tt },
  ap (λ n. joining (block p.block.first n) ∷ joining (right_neighbour p g) ∷ [])
      (won_right_granules p.block.first p.block.granules g is low),
)

-- and is merged with it
merged : (n g : ℕ) → g ≤ n → n ≡ g + (n - g)
merged n g low = omega arith

merged_right : (n g : ℕ) → g ≤ n → n ≡ (n - g) + g
merged_right n g low = omega arith

left_merges : (p : PutAt) (neighbour : Block) → neighbour.first ≡ p.block.first
    → neighbour.granules ≤ p.block.granules
    → HandsLead (Change.Merges neighbour.first neighbour.granules (rest_behind p neighbour).granules ∷ [])
    (joining neighbour ∷ joining (rest_behind p neighbour) ∷ []) (joining p.block ∷ [])
left_merges p neighbour first within = (
  hand neighbour.first (neighbour.granules + (p.block.granules - neighbour.granules)) Taking.ToJoin ∷ [],
  record { above = []; below = []; was = refl; now = refl; fair = tt },
  ap (λ n. hand p.block.first n Taking.ToJoin ∷ []) (merged p.block.granules neighbour.granules within)
      ∙ ap (λ x. hand x (neighbour.granules + (p.block.granules - neighbour.granules)) Taking.ToJoin ∷ [])
      (sym first),
)

right_merges : (p : PutAt) (neighbour : Block)
    → neighbour.first ≡ p.block.first + (p.block.granules - neighbour.granules)
    → neighbour.granules ≤ p.block.granules
    → HandsLead (Change.Merges p.block.first (rest_before p neighbour).granules neighbour.granules ∷ [])
    (joining (rest_before p neighbour) ∷ joining neighbour ∷ []) (joining p.block ∷ [])
right_merges p neighbour first within = (
  hand p.block.first ((p.block.granules - neighbour.granules) + neighbour.granules) Taking.ToJoin ∷ [],
  record {
    above = [];
    below = [];
    was = ap (λ x. joining (rest_before p neighbour) ∷ hand x neighbour.granules Taking.ToJoin ∷ []) first;
    now = refl;
    fair = tt;
  },
  ap (λ n. hand p.block.first n Taking.ToJoin ∷ []) (merged_right p.block.granules neighbour.granules within),
)

-- the steps of a win, of a neighbour that comes out of its bin, of the queue and of the block's own bin
win_left_turn : (c : PutCall) (p : PutAt) (g : ℕ) (next : WinNext) → CallFits (left_win p g)
    → p.block.first + p.block.granules < 2 ^ 32
    → PutTurned (won_changes (joining (left_neighbour p g)) next ++ given_changes (wins_left c p g next))
    (joining p.block ∷ []) p (wins_left c p g next)
win_left_turn c p g (WinNext.Goes at) fits low = record { fits = tt; leads = refl }
win_left_turn c p g WinNext.Won fits low = record {
  fits = (refl, won_left_within p.block.first p.block.granules g fits.ends low);
  leads = left_comes p g fits.ends low;
}
win_left_turn c p g (WinNext.NotWon found) fits low =
    one_turn p p.block (judges_left c p (guard_of found)) (judges_left_one c p (guard_of found))
win_left_turn c p g WinNext.GivenBack fits low = one_turn p p.block (queues c p) (queues_one c p)

win_right_turn : (c : PutCall) (p : PutAt) (g : ℕ) (next : WinNext) → CallFits (right_win p g)
    → p.block.first + p.block.granules < 2 ^ 32
    → PutTurned (won_changes (joining (right_neighbour p g)) next ++ given_changes (wins_right c p g next))
    (joining p.block ∷ []) p (wins_right c p g next)
win_right_turn c p g (WinNext.Goes at) fits low = record { fits = tt; leads = refl }
win_right_turn c p g WinNext.Won fits low = record {
  fits = (
    won_right_first p.block.first p.block.granules g fits.ends low,
    won_right_within p.block.first p.block.granules g fits.ends low,
  );
  leads = right_comes p g fits.ends low;
}
win_right_turn c p g (WinNext.NotWon found) fits low =
    one_turn p p.block (judges_right c p (guard_of found)) (judges_right_one c p (guard_of found))
win_right_turn c p g WinNext.GivenBack fits low = one_turn p p.block (queues c p) (queues_one c p)

unlink_left_turn : (p : PutAt) (neighbour : Block) (at : BinAt) (next : BinNext)
    → p.step ≡ PutStep.UnlinkLeft neighbour at
    → neighbour.first ≡ p.block.first → neighbour.granules ≤ p.block.granules
    → PutTurned (merged_changes neighbour.first neighbour.granules (rest_behind p neighbour).granules next
    ++ given_changes (unlinks_left p neighbour next))
    (joining neighbour ∷ joining (rest_behind p neighbour) ∷ []) p (unlinks_left p neighbour next)
unlink_left_turn p neighbour at (BinNext.Goes to) here first within = record { fits = (first, within); leads = refl }
unlink_left_turn p neighbour at BinNext.Waits here first within =
    record { fits = tt; leads = ap (put_hands_at p) here }
unlink_left_turn p neighbour at BinNext.Done here first within = record {
  fits = tt;
  leads = left_merges p neighbour first within;
}

unlink_right_turn : (c : PutCall) (p : PutAt) (neighbour : Block) (at : BinAt) (next : BinNext)
    → p.step ≡ PutStep.UnlinkRight neighbour at
    → neighbour.first ≡ p.block.first + (p.block.granules - neighbour.granules)
    → neighbour.granules ≤ p.block.granules
    → PutTurned (merged_changes p.block.first (rest_before p neighbour).granules neighbour.granules next
    ++ given_changes (unlinks_right c p neighbour next))
    (joining (rest_before p neighbour) ∷ joining neighbour ∷ []) p (unlinks_right c p neighbour next)
unlink_right_turn c p neighbour at
    (BinNext.Goes to) here first within = record { fits = (first, within); leads = refl }
unlink_right_turn c p neighbour at BinNext.Waits here first within =
    record { fits = tt; leads = ap (put_hands_at p) here }
unlink_right_turn c p neighbour at BinNext.Done here first within = behind_step
    (Change.Merges p.block.first (rest_before p neighbour).granules neighbour.granules ∷ [])
    (joining (rest_before p neighbour) ∷ joining neighbour ∷ []) p p.block (ends c p Beside.Joined)
    (right_merges p neighbour first within) (ends_one c p Beside.Joined)

queue_turn : (p : PutAt) (next : PushNext)
    → PutTurned (pushed_changes (joining p.block) next ++ given_changes (queue_goes p next))
    (joining p.block ∷ []) p (queue_goes p next)
queue_turn p (PushNext.Goes at) = record { fits = tt; leads = refl }
queue_turn p (PushNext.Pushed found) = record { fits = tt; leads = leaves (joining p.block) }

-- a block that is put into its bin leaves the hand with its second guard
abbrev pub bin_next_hands : Hand → BinAt → BinNext → List Hand
bin_next_hands one at (BinNext.Goes to) = bin_hands one to
bin_next_hands one at BinNext.Waits = bin_hands one at
bin_next_hands one at BinNext.Done = []

pub bin_insert : (c : BinCall) (one : Hand) (at : BinAt) (found : ℕ) → c.job ≡ BinJob.Insert
    → HandsLead (bin_changes one at) (bin_hands one at) (bin_next_hands one at (bin_learn c at found))
bin_insert c one BinAt.Lock found is = by (lock_learn (bin_lock c) found)
  where
    began : (job : BinJob) → job ≡ BinJob.Insert → bin_next_hands one BinAt.Lock (job_begins job) ≡ one ∷ []
    began BinJob.Insert is = refl
    began BinJob.Unlink is = absurd (cc)

    by : (next : LockNext) → bin_next_hands one BinAt.Lock (lock_tried c next) ≡ one ∷ []
    by LockNext.Won = began c.job is
    by LockNext.Waits = refl
bin_insert c one BinAt.Size found is = refl
bin_insert c one BinAt.Left found is = leaves one
bin_insert c one (BinAt.Insert at) found is = by (insert_learn at found)
  where
    by : (next : InsertNext) → bin_next_hands one (BinAt.Insert at) (insert_goes next) ≡ []
    by (InsertNext.Goes to) = refl
    by InsertNext.Inserted = refl
bin_insert c one (BinAt.Out at) found is = by (remove_learn at found)
  where
    by : (next : RemoveNext) → bin_next_hands one (BinAt.Out at) (out_goes next) ≡ []
    by (RemoveNext.Goes to) = refl
    by RemoveNext.Out = refl
bin_insert c one BinAt.Unlock found is = refl

bin_turn : (p : PutAt) (at : BinAt) (next : BinNext) → p.step ≡ PutStep.Bin at
    → HandsLead (bin_changes (joining p.block) at) (bin_hands (joining p.block) at)
    (bin_next_hands (joining p.block) at next)
    → PutTurned (bin_changes (joining p.block) at ++ given_changes (bin_goes p next))
    (bin_hands (joining p.block) at) p (bin_goes p next)
bin_turn p at (BinNext.Goes to) here leads = record {
  fits = tt;
  leads = leads_then (bin_changes (joining p.block) at) [] (bin_hands (joining p.block) at)
      (bin_hands (joining p.block) to) (bin_hands (joining p.block) to) leads refl;
}
bin_turn p at BinNext.Waits here leads = record {
  fits = tt;
  leads = leads_then (bin_changes (joining p.block) at) [] (bin_hands (joining p.block) at)
      (bin_hands (joining p.block) at) (put_hands p) leads (ap (put_hands_at p) here);
}
bin_turn p at BinNext.Done here leads = record {
  fits = tt;
  leads = leads_then (bin_changes (joining p.block) at) [] (bin_hands (joining p.block) at) [] [] leads refl;
}

put_turn_at : (c : PutCall) (p : PutAt) (step : PutStep) (found : ℕ) → p.step ≡ step → JoinFits p step
    → WinsFit p step → AllLie (put_hands_at p step)
    → PutTurned (step_changes c p step found ++ given_changes (step_learn c p step found))
    (put_hands_at p step) p (step_learn c p step found)
put_turn_at c p PutStep.Size found here join wins lie = record { fits = tt; leads = refl }
put_turn_at c p PutStep.Left found here join wins lie = record { fits = tt; leads = refl }
put_turn_at c p PutStep.LeftWord found here join wins lie =
    one_turn p p.block (judges_left c p (guard_of found)) (judges_left_one c p (guard_of found))
put_turn_at c p (PutStep.WinLeft granules at) found here join wins lie =
    win_left_turn c p granules (win_learn (left_win p granules) at found) wins lie.0.1
put_turn_at c p (PutStep.UnlinkLeft neighbour at) found here join wins lie =
    unlink_left_turn p neighbour at (bin_learn (unlink_call c neighbour) at found) here join.0 join.1
put_turn_at c p PutStep.RightWord found here join wins lie =
    one_turn p p.block (judges_right c p (guard_of found)) (judges_right_one c p (guard_of found))
put_turn_at c p (PutStep.WinRight granules at) found here join wins lie =
    win_right_turn c p granules (win_learn (right_win p granules) at found) wins lie.0.1
put_turn_at c p (PutStep.UnlinkRight neighbour at) found here join wins lie =
    unlink_right_turn c p neighbour at (bin_learn (unlink_call c neighbour) at found) here join.0 join.1
put_turn_at c p PutStep.FarLeft found here join wins lie =
    one_turn p p.block (sees_far_left p (guard_of found)) (far_left_one p (guard_of found))
put_turn_at c p PutStep.FarRight found here join wins lie =
    one_turn p p.block (sees_far_right p (guard_of found)) (far_right_one p (guard_of found))
put_turn_at c p (PutStep.Queue at) found here join wins lie = queue_turn p (push_learn at found)
put_turn_at c p (PutStep.Bin at) found here join wins lie =
    bin_turn p at (bin_learn (insert_call c p.block) at found) here
    (bin_insert (insert_call c p.block) (joining p.block) at found refl)

pub put_turn : (c : PutCall) (p : PutAt) (found : ℕ) → JoinFits p p.step → WinsFit p p.step → AllLie (put_hands p)
    → PutTurned (put_changes c p found) (put_hands p) p (put_learn c p found)
put_turn c p found join wins lie = put_turn_at c p p.step found refl join wins lie
