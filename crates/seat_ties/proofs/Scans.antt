-- A scan looks at blocks of the list of the bin whose lock it has.
use Rattle.std.proofs.Common.{◌≡◌, ℕ, ◌+◌, ◌<◌, Bool, true, false, cond, ltb, Option, Some, None, List, [], ◌∷◌}
use Rattle.std.proofs.Common.{refl, sym, ap, subst, arith}
use Rattle.pool_words.specs.Actions.{word_seen}
use Rattle.pool_words.specs.declared.actions.Action.{Action}
use Rattle.pool_words.specs.declared.words.Key.{Key}
use Rattle.pool_words.specs.declared.words.Word.{Word}
use Rattle.pool_words.specs.Words.{bin_heads, forwards}
use Rattle.word_codes.specs.declared.guards.Guard.{Guard}
use Rattle.word_codes.specs.Guards.{guard_of}
use Rattle.word_codes.specs.Links.{link_of}
use Rattle.pool_types.specs.Sums.{capped}
use Rattle.guards.specs.declared.win.WinAt.{WinAt}
use Rattle.guards.specs.declared.win.WinNext.{WinNext}
use Rattle.guards.specs.Win.{win_learn}
use Rattle.locked_chain.specs.declared.lock.LockNext.{LockNext}
use Rattle.locked_chain.specs.declared.remove.RemoveNext.{RemoveNext}
use Rattle.locked_chain.specs.Locks.{lock_learn}
use Rattle.locked_chain.specs.Remove.{remove_learn}
use Rattle.backend_bins.specs.declared.blocks.Block.{Block}
use Rattle.backend_bins.specs.declared.scan.ScanAt.{ScanAt}
use Rattle.backend_bins.specs.declared.scan.ScanCall.{ScanCall}
use Rattle.backend_bins.specs.declared.scan.ScanNext.{ScanNext}
use Rattle.backend_bins.specs.declared.scan.ScanStep.{ScanStep}
use Rattle.backend_bins.specs.Blocks.{block, fits, last_bin}
use Rattle.backend_bins.specs.Scan.{goes, lock_tried, looks_on, measure, out_goes, peeked, scan_course, scan_end}
use Rattle.backend_bins.specs.Scan.{scan_learn, scan_lock}
use Rattle.backend_bins.specs.Scan.{see_block, step_course, step_learn, tries, unlocked, visits, win_goes, win_of}
use Rattle.std.specs.Prelude.{⊤}
use Rattle.word_laws.specs.Memory.{found}
use Rattle.chain_laws.specs.Chains.{Link, IsChain, tally}
use Rattle.chain_laws.proofs.CallerLemmas.{leads-split, tally-append, tally-here, tally-split}
use Rattle.lock_laws.specs.Lists.{IsList}
use Rattle.lock_laws.specs.Lists.Change.{Still}
use Rattle.lock_laws.specs.Seats as seats
use Rattle.lock_laws.specs.Steps.{link_to, list_of}
use Rattle.bin_laws.specs.Bins.{Task, bin_words, list_task}
use Rattle.backend_tasks.specs.Bins.{bin_task_at, scan_task}
use Rattle.backend_tasks.proofs.CallerLemmas.{bare-cutting, bare-in_vain}
use Rattle.step_local.specs.declared.frames.At.{At}
use Rattle.step_local.specs.declared.frames.Local.{Local}
use Rattle.step_local.specs.Backend.{scanned_as}
use Rattle.step_local.specs.Course.{course_at}
use Rattle.step_local.specs.Leaving.{scan_call}
use Rattle.step_local.specs.Learn.{learn_at}
use Rattle.step_runs.specs.Entries.{seen_by}
use Rattle.pool_laws.specs.Wholes.{Whole, WholeGood}
use Rattle.seat_ties.specs.Laws.{LooksAt, ScansSayOn}
use Rattle.seat_ties.specs.Says.{ScanSays, SaysAt, WordsSay}
use Rattle.seat_ties.proofs.Nothing.{bare_says_nothing}

-- what a scan says where it goes on; where it waits for the lock it says what it did
abbrev NextSays : (ℕ → List ℕ) → Type 0 → ScanNext → Type 0
NextSays items Now (ScanNext.Goes s) = ScanSays items s.bin s.step
NextSays items Now ScanNext.WaitsLock = Now
NextSays items Now (ScanNext.WaitsHalf bin s) = ScanSays items s.bin s.step
NextSays items Now (ScanNext.Took b) = ⊤
NextSays items Now (ScanNext.Nothing seen) = ⊤

-- the first item of a list, and the one behind an item
head_in : (links : ℕ → Link) (items : List ℕ) (first : ℕ) → IsChain links (Link.To first) items 0
    → 0 < tally first items
head_in links [] first chain = let q : Link.To first ≡ Link.Ends 0 = chain in absurd (cc)
head_in links (x ∷ xs) first chain =
    let q : Link.To first ≡ Link.To x = chain.0 in let same : first ≡ x = cc in
    subst (λ y. 0 < tally first (y ∷ xs)) same (let here = tally-here first xs in omega arith)

next_in_list : (links : ℕ → Link) (head : Link) (items : List ℕ) (x first : ℕ) → IsChain links head items 0
    → 0 < tally x items → links x ≡ Link.To first → 0 < tally first items
next_in_list links head items x first chain some leads =
    let parts = tally-split x items some in
    let behind = (leads-split links head parts.0 x parts.1 (Link.Ends 0)
    (subst (λ xs. IsChain links head xs 0) parts.2 chain)).1 in
    let more = head_in links parts.1 first (subst (λ from. IsChain links from parts.1 0) leads behind) in
    let count = ap (tally first) parts.2 in let sum = tally-append first parts.0 (x ∷ parts.1) in omega arith

-- the list of the bin whose lock the seat has
locked : (k : Key) (w : Whole) (seat bin : ℕ) → WholeGood k w → w.bins seat ≡ Task.Has bin
    → IsList (list_of (Word.BinHead bin) w.pool.mem) Still (w.items bin)
locked k w seat bin good has =
    (subst (λ q. seats.TaskFits k bin_words w.pool.mem w.items q) (ap list_task has) (good.free.bins.lists.fit seat)).1

-- what the seat is told of a step
abbrev told : Whole → Action → ℕ
told w action = word_seen (seen_by action (found w.pool.mem action))

-- where a scan goes on
tries_say : (Now : Type 0) (items : ℕ → List ℕ) (c : ScanCall) (s : ScanAt) (b : Block)
    → 0 < tally b.first (items s.bin)
    → NextSays items Now (tries c s b)
tries_say Now items c s b some = by (fits c.want b)
  where
    by : (is : Bool)
        → NextSays items Now (cond is (goes s (ScanStep.Win b WinAt.First)) (goes s (ScanStep.Next b.first)))
    by true = some
    by false = some

see_say : (Now : Type 0) (items : ℕ → List ℕ) (c : ScanCall) (s : ScanAt) (first : ℕ) → 0 < tally first (items s.bin)
    → NextSays items Now (see_block c s first)
see_say Now items c s first some = by (ltb s.bin last_bin)
  where
    by : (is : Bool)
        → NextSays items Now (cond is (tries c s (block first (s.bin + 1))) (goes s (ScanStep.Length first)))
    by true = tries_say Now items c s (block first (s.bin + 1)) some
    by false = some

visits_say : (Now : Type 0) (items : ℕ → List ℕ) (c : ScanCall) (s : ScanAt) (next : Option ℕ)
    → ((first : ℕ) → next ≡ Some first → 0 < tally first (items s.bin)) → NextSays items Now (visits c s next)
visits_say Now items c s (Some first) there =
    see_say Now items c (record s { seen = capped (s.seen + 1) }) first (there first refl)
visits_say Now items c s None there = tt

end_says : (Now : Type 0) (items : ℕ → List ℕ) (c : ScanCall) (s : ScanAt) (noted : Option ℕ)
    → NextSays items Now (scan_end c s noted)
end_says Now items c s (Some bin) = tt
end_says Now items c s None = tt

on_says : (Now : Type 0) (items : ℕ → List ℕ) (c : ScanCall) (s : ScanAt) → NextSays items Now (looks_on c s)
on_says Now items c s = by (ltb s.bin last_bin)
  where
    by : (is : Bool)
        → NextSays items Now (cond is (ScanNext.Goes (record s { bin = s.bin + 1; step = ScanStep.Peek }))
        (scan_end c s s.noted))
    by true = tt
    by false = end_says Now items c s s.noted

peeked_says : (Now : Type 0) (items : ℕ → List ℕ) (c : ScanCall) (s : ScanAt) (next : Option ℕ)
    → NextSays items Now (peeked c s next)
peeked_says Now items c s (Some first) = tt
peeked_says Now items c s None = on_says Now items c s

tried_says : (Now : Type 0) (items : ℕ → List ℕ) (s : ScanAt) (next : LockNext) → Now
    → NextSays items Now (lock_tried s next)
tried_says Now items s LockNext.Won now = tt
tried_says Now items s LockNext.Waits now = now

measure_says : (Now : Type 0) (items : ℕ → List ℕ) (c : ScanCall) (s : ScanAt) (first : ℕ) (guard : Guard)
    → 0 < tally first (items s.bin) → NextSays items Now (measure c s first guard)
measure_says Now items c s first (Guard.Free granules) some = tries_say Now items c s (block first granules) some
measure_says Now items c s first Guard.Used some = some
measure_says Now items c s first Guard.Coalescing some = some
measure_says Now items c s first Guard.Wall some = some

win_says : (Now : Type 0) (items : ℕ → List ℕ) (s : ScanAt) (b : Block) (next : WinNext)
    → 0 < tally b.first (items s.bin)
    → NextSays items Now (win_goes s b next)
win_says Now items s b (WinNext.Goes at) some = some
win_says Now items s b WinNext.Won some = tt
win_says Now items s b (WinNext.NotWon word) some = some
win_says Now items s b WinNext.GivenBack some = some

out_says : (Now : Type 0) (items : ℕ → List ℕ) (s : ScanAt) (b : Block) (next : RemoveNext)
    → NextSays items Now (out_goes s b next)
out_says Now items s b (RemoveNext.Goes at) = tt
out_says Now items s b RemoveNext.Out = tt

unlocked_says : (Now : Type 0) (items : ℕ → List ℕ) (c : ScanCall) (s : ScanAt) (took : Option Block)
    → NextSays items Now (unlocked c s took)
unlocked_says Now items c s (Some b) = tt
unlocked_says Now items c s None = on_says Now items c s

-- what a scan's step leads to, in the lists that it was made in; where it takes a block out it says nothing
step_says : (k : Key) (w : Whole) (seat : ℕ) (c : ScanCall) (s : ScanAt) (step : ScanStep) (items : ℕ → List ℕ)
    → WholeGood k w → w.bins seat ≡ scan_task s step → ScanSays w.items s.bin step → LooksAt w.items items step
    → NextSays items (ScanSays items s.bin step) (step_learn c s step (told w (step_course c s step)))
step_says k w seat c s ScanStep.Peek items good has says same =
    peeked_says (ScanSays items s.bin ScanStep.Peek) items c s (link_of (told w (step_course c s ScanStep.Peek)))
step_says k w seat c s ScanStep.Lock items good has says same =
    tried_says (ScanSays items s.bin ScanStep.Lock) items s
    (lock_learn (scan_lock c s) (told w (step_course c s ScanStep.Lock))) tt
step_says k w seat c s ScanStep.Head items good has says same =
    visits_say (ScanSays items s.bin ScanStep.Head) items c s (link_of (w.pool.mem bin_heads s.bin)) (λ first leads.
    subst (λ lists. 0 < tally first (lists s.bin)) (sym same)
    (head_in (list_of (Word.BinHead s.bin) w.pool.mem).next (w.items s.bin) first
    (subst (λ from. IsChain (list_of (Word.BinHead s.bin) w.pool.mem).next from (w.items s.bin) 0)
    (ap link_to leads) (locked k w seat s.bin good has).forward)))
step_says k w seat c s (ScanStep.Length first) items good has says same =
    measure_says (ScanSays items s.bin (ScanStep.Length first)) items c s first
    (guard_of (told w (step_course c s (ScanStep.Length first))))
    (subst (λ lists. 0 < tally first (lists s.bin)) (sym same) says)
step_says k w seat c s (ScanStep.Win b at) items good has says same =
    win_says (ScanSays items s.bin (ScanStep.Win b at)) items s b
    (win_learn (win_of b) at (told w (step_course c s (ScanStep.Win b at))))
    (subst (λ lists. 0 < tally b.first (lists s.bin)) (sym same) says)
step_says k w seat c s (ScanStep.Next x) items good has says same =
    visits_say (ScanSays items s.bin (ScanStep.Next x)) items c s (link_of (w.pool.mem forwards x)) (λ first leads.
    subst (λ lists. 0 < tally first (lists s.bin)) (sym same)
    (next_in_list (list_of (Word.BinHead s.bin) w.pool.mem).next (list_of (Word.BinHead s.bin) w.pool.mem).head
    (w.items s.bin) x first (locked k w seat s.bin good has).forward says (ap link_to leads)))
step_says k w seat c s (ScanStep.Out b at) items good has says same =
    out_says (ScanSays items s.bin (ScanStep.Out b at)) items s b
    (remove_learn at (told w (step_course c s (ScanStep.Out b at))))
step_says k w seat c s (ScanStep.Unlock took) items good has says same =
    unlocked_says (ScanSays items s.bin (ScanStep.Unlock took)) items c s took

-- and so says the local behind it
next_says : (later : Whole) (seat : ℕ) (l : Local) (s : ScanAt) (next : ScanNext)
    → NextSays later.items (ScanSays later.items s.bin s.step) next
    → WordsSay later seat (scanned_as l s next).0
next_says later seat l s (ScanNext.Goes next) says = says
next_says later seat l s ScanNext.WaitsLock says = says
next_says later seat l s (ScanNext.WaitsHalf bin again) says = says
next_says later seat l s (ScanNext.Took b) says =
    (bare_says_nothing later seat (scanned_as l s (ScanNext.Took b)).0 (bare-cutting l b)).words
next_says later seat l s (ScanNext.Nothing seen) says =
    (bare_says_nothing later seat (scanned_as l s (ScanNext.Nothing seen)).0 (bare-in_vain l seen l.ask.tries)).words

scan_turn : (k : Key) (w later : Whole) (l : Local) (s : ScanAt) (at : At) → WholeGood k w
    → w.bins l.seat ≡ bin_task_at l at → at ≡ At.Scan s → SaysAt w l.seat l at → LooksAt w.items later.items s.step
    → WordsSay later l.seat (learn_at l at (seen_by (course_at l at) (found w.pool.mem (course_at l at)))).0
scan_turn k w later l s (At.Scan at) good has is says same =
    let here : at ≡ s = cc in
    next_says later l.seat l at (scan_learn (scan_call l) at (told w (scan_course (scan_call l) at)))
    (step_says k w l.seat (scan_call l) at at.step later.items good has says
    (subst (λ q. LooksAt w.items later.items q.step) (sym here) same))
scan_turn k w later l s _ good has is says same = absurd (cc)

pub scans_say_on : ScansSayOn
scans_say_on k w later l s good has is says same = scan_turn k w later l s l.at good has is says same
