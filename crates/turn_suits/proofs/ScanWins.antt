-- What a scan wins next is one block.
use Rattle.std.proofs.Common.{◌≡◌, ℕ, ◌+◌, ◌<◌, Bool, true, false, cond, ltb, Option, Some, None, refl}
use Rattle.std.proofs.Common.{List, arith}
use Rattle.std.proofs.lemmas.Bool.Decides.{nat_tests}
use Rattle.std.specs.Prelude.{⊤}
use Rattle.pool_types.specs.Sums.{capped}
use Rattle.pool_words.specs.Words.{sizes}
use Rattle.pool_words.specs.declared.words.Key.{Key}
use Rattle.word_codes.specs.declared.guards.Guard.{Guard}
use Rattle.word_codes.specs.Guards.{guard_of}
use Rattle.word_codes.specs.Links.{link_of}
use Rattle.guards.specs.declared.win.Side.{Side}
use Rattle.guards.specs.declared.win.WinAt.{WinAt}
use Rattle.guards.specs.declared.win.WinNext.{WinNext}
use Rattle.guards.specs.Win.{win_learn}
use Rattle.locked_chain.specs.declared.lock.LockNext.{LockNext}
use Rattle.locked_chain.specs.declared.remove.RemoveNext.{RemoveNext}
use Rattle.locked_chain.specs.Locks.{lock_learn}
use Rattle.locked_chain.specs.Remove.{remove_learn}
use Rattle.backend_bins.specs.declared.blocks.Block.{Block}
use Rattle.backend_bins.specs.declared.scan.ScanAt.{ScanAt}
use Rattle.backend_bins.specs.declared.scan.ScanCall.{ScanCall}
use Rattle.backend_bins.specs.declared.scan.ScanNext.{ScanNext}
use Rattle.backend_bins.specs.declared.scan.ScanStep.{ScanStep}
use Rattle.backend_bins.specs.Blocks.{block, fits, last_bin}
use Rattle.backend_bins.specs.Scan.{goes, lock_tried, looks_on, measure, out_goes, peeked, scan_end}
use Rattle.backend_bins.specs.Scan.{scan_lock, see_block}
use Rattle.backend_bins.specs.Scan.{step_course, step_learn, tries, unlocked, visits, win_goes, win_of}
use Rattle.chain_laws.specs.Chains.{tally}
use Rattle.guard_laws.specs.Blocks.{CallFits, TaskFits}
use Rattle.backend_tasks.specs.Guards.{scan_guard}
use Rattle.pool_laws.specs.Wholes.{Whole, WholeGood}
use Rattle.seat_ties.specs.Says.{ScanSays}
use Rattle.turn_suits.proofs.Guards.{free_tells}
use Rattle.turn_suits.proofs.PutWins.{told}

-- what the scan says where it goes on, and what it is to win
abbrev pub NextSays : (ℕ → List ℕ) → ScanNext → Type 0
NextSays items (ScanNext.Goes s) = ScanSays items s.bin s.step
NextSays items _ = ⊤

abbrev pub NextFits : Type 0 → ScanNext → Type 0
NextFits Now (ScanNext.Goes s) = TaskFits (scan_guard s.step)
NextFits Now ScanNext.WaitsLock = Now
NextFits Now (ScanNext.WaitsHalf bin s) = TaskFits (scan_guard s.step)
NextFits Now (ScanNext.Took b) = ⊤
NextFits Now (ScanNext.Nothing seen) = ⊤

-- a block is tried that is of the bin's list
tries_fit : (Now : Type 0) (items : ℕ → List ℕ) (c : ScanCall) (s : ScanAt) (b : Block)
    → (0 < tally b.first (items s.bin) → CallFits (win_of b)) → NextSays items (tries c s b)
    → NextFits Now (tries c s b)
tries_fit Now items c s b fit says = by (fits c.want b) says
  where
    by : (is : Bool) → NextSays items (cond is (goes s (ScanStep.Win b WinAt.First)) (goes s (ScanStep.Next b.first)))
        → NextFits Now (cond is (goes s (ScanStep.Win b WinAt.First)) (goes s (ScanStep.Next b.first)))
    by true says = fit says
    by false says = tt

-- a block of a bin but the last is as long as the bin says
short_fits : (k : Key) (w : Whole) (bin first : ℕ) → WholeGood k w → bin < last_bin → 0 < tally first (w.items bin)
    → CallFits (win_of (block first (bin + 1)))
short_fits k w bin first good low some =
    let inside = good.free.bins.lists.inside bin first some in let small = good.free.pool.guards.small in
    record { ends = omega arith; told = omega arith }

is_below : (bin : ℕ) → ltb bin last_bin ≡ true → bin < last_bin
is_below bin is = grind (arith, nat_tests)

see_fits : (Now : Type 0) (k : Key) (w : Whole) (c : ScanCall) (s : ScanAt) (first : ℕ) → WholeGood k w
    → NextSays w.items (see_block c s first) → NextFits Now (see_block c s first)
see_fits Now k w c s first good says = by (ltb s.bin last_bin) refl says
  where
    by : (is : Bool) → ltb s.bin last_bin ≡ is
        → NextSays w.items (cond is (tries c s (block first (s.bin + 1))) (goes s (ScanStep.Length first)))
        → NextFits Now (cond is (tries c s (block first (s.bin + 1))) (goes s (ScanStep.Length first)))
    by true is says = tries_fit Now w.items c s (block first (s.bin + 1))
        (short_fits k w s.bin first good (is_below s.bin is)) says
    by false is says = tt

visits_fit : (Now : Type 0) (k : Key) (w : Whole) (c : ScanCall) (s : ScanAt) (next : Option ℕ) → WholeGood k w
    → NextSays w.items (visits c s next) → NextFits Now (visits c s next)
visits_fit Now k w c s (Some first) good says =
    see_fits Now k w c (record s { seen = capped (s.seen + 1) }) first good says
visits_fit Now k w c s None good says = tt

end_fits : (Now : Type 0) (c : ScanCall) (s : ScanAt) (noted : Option ℕ) → NextFits Now (scan_end c s noted)
end_fits Now c s (Some bin) = tt
end_fits Now c s None = tt

on_fits : (Now : Type 0) (c : ScanCall) (s : ScanAt) → NextFits Now (looks_on c s)
on_fits Now c s = by (ltb s.bin last_bin)
  where
    by : (is : Bool) → NextFits Now (cond is (ScanNext.Goes (record s { bin = s.bin + 1; step = ScanStep.Peek }))
        (scan_end c s s.noted))
    by true = tt
    by false = end_fits Now c s s.noted

peeked_fits : (Now : Type 0) (c : ScanCall) (s : ScanAt) (next : Option ℕ) → NextFits Now (peeked c s next)
peeked_fits Now c s (Some first) = tt
peeked_fits Now c s None = on_fits Now c s

tried_fits : (Now : Type 0) (s : ScanAt) (next : LockNext) → Now → NextFits Now (lock_tried s next)
tried_fits Now s LockNext.Won now = tt
tried_fits Now s LockNext.Waits now = now

measured_fits : (k : Key) (w : Whole) (first n : ℕ) → WholeGood k w
    → guard_of (w.pool.mem sizes first) ≡ Guard.Free n → CallFits (win_of (block first n))
measured_fits k w first n good is =
    let t = free_tells k w.pool.blocks w.pool.mem w.pool.tasks Side.Begin first n good.free.pool.guards is in
    let small = good.free.pool.guards.small in let edge = t.edge in let within = t.within in
    record { ends = omega arith; told = omega arith }

measure_fits : (Now : Type 0) (k : Key) (w : Whole) (c : ScanCall) (s : ScanAt) (first : ℕ) (guard : Guard)
    → WholeGood k w → guard_of (w.pool.mem sizes first) ≡ guard → NextSays w.items (measure c s first guard)
    → NextFits Now (measure c s first guard)
measure_fits Now k w c s first (Guard.Free n) good is says =
    tries_fit Now w.items c s (block first n) (λ some. measured_fits k w first n good is) says
measure_fits Now k w c s first Guard.Used good is says = tt
measure_fits Now k w c s first Guard.Coalescing good is says = tt
measure_fits Now k w c s first Guard.Wall good is says = tt

win_fits : (Now : Type 0) (s : ScanAt) (b : Block) (next : WinNext) → CallFits (win_of b)
    → NextFits Now (win_goes s b next)
win_fits Now s b (WinNext.Goes at) fits = fits
win_fits Now s b WinNext.Won fits = tt
win_fits Now s b (WinNext.NotWon word) fits = tt
win_fits Now s b WinNext.GivenBack fits = tt

out_fits : (Now : Type 0) (s : ScanAt) (b : Block) (next : RemoveNext) → NextFits Now (out_goes s b next)
out_fits Now s b (RemoveNext.Goes at) = tt
out_fits Now s b RemoveNext.Out = tt

unlocked_fits : (Now : Type 0) (c : ScanCall) (s : ScanAt) (took : Option Block) → NextFits Now (unlocked c s took)
unlocked_fits Now c s (Some b) = tt
unlocked_fits Now c s None = on_fits Now c s

pub scan_next_fits : (k : Key) (w : Whole) (c : ScanCall) (s : ScanAt) (step : ScanStep) → WholeGood k w
    → TaskFits (scan_guard step) → NextSays w.items (step_learn c s step (told w (step_course c s step)))
    → NextFits (TaskFits (scan_guard step)) (step_learn c s step (told w (step_course c s step)))
scan_next_fits k w c s ScanStep.Peek good fits says =
    peeked_fits ⊤ c s (link_of (told w (step_course c s ScanStep.Peek)))
scan_next_fits k w c s ScanStep.Lock good fits says =
    tried_fits ⊤ s (lock_learn (scan_lock c s) (told w (step_course c s ScanStep.Lock))) tt
scan_next_fits k w c s ScanStep.Head good fits says =
    visits_fit ⊤ k w c s (link_of (told w (step_course c s ScanStep.Head))) good says
scan_next_fits k w c s (ScanStep.Length first) good fits says =
    measure_fits ⊤ k w c s first (guard_of (w.pool.mem sizes first)) good refl says
scan_next_fits k w c s (ScanStep.Win b at) good fits says =
    win_fits (CallFits (win_of b)) s b (win_learn (win_of b) at (told w (step_course c s (ScanStep.Win b at)))) fits
scan_next_fits k w c s (ScanStep.Next first) good fits says =
    visits_fit ⊤ k w c s (link_of (told w (step_course c s (ScanStep.Next first)))) good says
scan_next_fits k w c s (ScanStep.Out b at) good fits says =
    out_fits ⊤ s b (remove_learn at (told w (step_course c s (ScanStep.Out b at))))
scan_next_fits k w c s (ScanStep.Unlock took) good fits says = unlocked_fits ⊤ c s took
