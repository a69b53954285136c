-- A scan counts the blocks that it sees.
use Rattle.std.proofs.Common.{◌≡◌, ◌≢◌, ℕ, ◌+◌, ◌<◌, Bool, true, false, cond, ltb, Option, Some, None, List}
use Rattle.std.proofs.Common.{[], ◌∷◌, ◌++◌}
use Rattle.std.proofs.Common.{length, refl, sym, ap, subst, arith, ◌∙◌}
use Rattle.pool_types.specs.Sums.{capped}
use Rattle.pool_words.specs.declared.words.Key.{Key}
use Rattle.pool_words.specs.declared.words.Word.{Word}
use Rattle.pool_words.specs.Words.{sizes, bin_heads, forwards}
use Rattle.word_codes.specs.declared.guards.Guard.{Guard}
use Rattle.word_codes.specs.Guards.{guard_of}
use Rattle.word_codes.specs.Links.{link_of}
use Rattle.guards.specs.declared.win.WinAt.{WinAt}
use Rattle.guards.specs.declared.win.WinNext.{WinNext}
use Rattle.guards.specs.Win.{win_learn}
use Rattle.locked_chain.specs.declared.lock.LockNext.{LockNext}
use Rattle.locked_chain.specs.declared.remove.RemoveNext.{RemoveNext}
use Rattle.locked_chain.specs.Locks.{lock_learn}
use Rattle.locked_chain.specs.Remove.{remove_learn}
use Rattle.backend_bins.specs.declared.blocks.Block.{Block}
use Rattle.backend_bins.specs.declared.blocks.Want.{Want}
use Rattle.backend_bins.specs.declared.scan.ScanAt.{ScanAt}
use Rattle.backend_bins.specs.declared.scan.ScanCall.{ScanCall}
use Rattle.backend_bins.specs.declared.scan.ScanNext.{ScanNext}
use Rattle.backend_bins.specs.declared.scan.ScanStep.{ScanStep}
use Rattle.backend_bins.specs.Blocks.{block, last_bin, fits}
use Rattle.backend_bins.specs.Scan.{win_of, goes, looks_on, scan_end, scan_lock, peeked, lock_tried, tries, see_block}
use Rattle.backend_bins.specs.Scan.{visits, measure, win_goes, out_goes, step_course, step_learn}
use Rattle.word_laws.specs.Memory.{Mem, found}
use Rattle.chain_laws.specs.Chains.{Link, IsChain}
use Rattle.chain_laws.proofs.CallerLemmas.{leads-split}
use Rattle.lock_laws.specs.Seats.{lock_in}
use Rattle.lock_laws.specs.Steps.{link_to, list_of}
use Rattle.bin_laws.specs.Bins.{Task, list_task, Shadow, Locals, BinGood}
use Rattle.bin_laws.specs.Steps.{BinStep}
use Rattle.bin_laws.specs.Scans.{StepFits}
use Rattle.bin_laws.specs.Counts.{Counts, SeenFits, SeenStays, SeenAfter, SeenNext}
use Rattle.bin_laws.specs.Laws.{ListStays, ScansCountBlocks, OthersKeepCounts}
use Rattle.bin_laws.proofs.Scans.{heads_to, ends_at, snoc_append, locked_list}
use Rattle.bin_laws.proofs.Stays.{others_leave_locked_lists}

length_snoc : (xs : List ℕ) (x : ℕ) → length (xs ++ x ∷ []) ≡ length xs + 1
length_snoc [] x = refl
length_snoc (y ∷ ys) x = let e = length_snoc ys x in omega arith

append_nil : (xs : List ℕ) → xs ++ [] ≡ xs
append_nil [] = refl
append_nil (x ∷ xs) = ap (λ ys. x ∷ ys) (append_nil xs)

capped_on : (seen n m : ℕ) → seen ≡ capped n → n + 1 ≡ m → capped (seen + 1) ≡ capped m
capped_on seen n m is more = omega arith

tries_count : (c : ScanCall) (s : ScanAt) (first n : ℕ) (items : List ℕ) (before : ℕ) → Counts items before s.seen first
    → SeenAfter items before (tries c s (block first n))
tries_count c s first n items before counts = by (fits c.want (block first n))
  where
    by : (b : Bool) → SeenAfter items before
        (cond b (goes s (ScanStep.Win (block first n) WinAt.First)) (goes s (ScanStep.Next first)))
    by true = counts
    by false = counts

see_count : (c : ScanCall) (s : ScanAt) (first : ℕ) (items : List ℕ) (before : ℕ) → Counts items before s.seen first
    → SeenAfter items before (see_block c s first)
see_count c s first items before counts = by (ltb s.bin last_bin)
  where
    by : (b : Bool) → SeenAfter items before
        (cond b (tries c s (block first (s.bin + 1))) (goes s (ScanStep.Length first)))
    by true = tries_count c s first (s.bin + 1) items before counts
    by false = counts

-- the scan goes on to what is behind the blocks that it saw
visits_count : (c : ScanCall) (s : ScanAt) (links : ℕ → Link) (items front rest : List ℕ) (before : ℕ)
    (next : Option ℕ) → items ≡ front ++ rest → s.seen ≡ capped (before + length front)
    → IsChain links (link_to next) rest 0 → SeenAfter items before (visits c s next)
visits_count c s links items front rest before (Some y) list count chain =
    let at = heads_to links rest y chain in
    see_count c (record s { seen = capped (s.seen + 1) }) y items before (record {
      front = front;
      rest = at.0;
      list = list ∙ ap (λ zs. front ++ zs) at.1;
      count = capped_on s.seen (before + length front) (before + (length front + 1)) count (omega arith);
    })
visits_count c s links items front rest before None list count chain =
    count ∙ ap (λ xs. capped (before + length xs))
    (sym (list ∙ ap (λ zs. front ++ zs) (ends_at links rest chain) ∙ append_nil front))

measure_count : (c : ScanCall) (s : ScanAt) (first : ℕ) (guard : Guard) (items : List ℕ) (before : ℕ)
    → Counts items before s.seen first → SeenAfter items before (measure c s first guard)
measure_count c s first (Guard.Free n) items before counts = tries_count c s first n items before counts
measure_count c s first Guard.Used items before counts = counts
measure_count c s first Guard.Coalescing items before counts = counts
measure_count c s first Guard.Wall items before counts = counts

looks_on_seen : (c : ScanCall) (s : ScanAt) → SeenStays s.seen (looks_on c s)
looks_on_seen c s = by (ltb s.bin last_bin) s.noted
  where
    by : (b : Bool) (noted : Option ℕ) → SeenStays s.seen
        (cond b (ScanNext.Goes (record s { bin = s.bin + 1; step = ScanStep.Peek })) (scan_end c s noted))
    by true noted = refl
    by false (Some bin) = refl
    by false None = refl

count_as : (k : Key) (g : Shadow) (m : Mem) (l : Locals) (t : ℕ) (c : ScanCall) (s : ScanAt) (step : ScanStep)
    (before : ℕ) → BinGood k g m l → StepFits g (l.bins t) c.want s.bin s.noted step
    → SeenFits (g.items s.bin) before s.seen step
    → SeenNext (g.items s.bin) before s.seen step (step_learn c s step (found m (step_course c s step)))
count_as k g m l t c s ScanStep.Peek before good knows is = by (link_of (m bin_heads s.bin))
  where
    by : (next : Option ℕ) → SeenStays s.seen (peeked c s next)
    by (Some first) = refl
    by None = looks_on_seen c s
count_as k g m l t c s ScanStep.Lock before good knows is =
    by (lock_learn (scan_lock c s) (found m (step_course c s ScanStep.Lock)))
  where
    by : (next : LockNext) → SeenAfter (g.items s.bin) before (lock_tried s next)
    by LockNext.Won = is
    by LockNext.Waits = tt
count_as k g m l t c s ScanStep.Head before good knows is =
    visits_count c s (list_of (Word.BinHead s.bin) m).next (g.items s.bin) [] (g.items s.bin) before
    (link_of (m bin_heads s.bin)) refl (is ∙ ap capped none_before) (locked_list k g m l t s.bin good knows).forward
  where
    none_before : before ≡ before + 0
    none_before = omega arith
count_as k g m l t c s (ScanStep.Length first) before good knows is =
    measure_count c s first (guard_of (m sizes first)) (g.items s.bin) before is
count_as k g m l t c s (ScanStep.Win b at) before good knows is =
    by (win_learn (win_of b) at (found m (step_course c s (ScanStep.Win b at))))
  where
    by : (next : WinNext) → SeenAfter (g.items s.bin) before (win_goes s b next)
    by (WinNext.Goes now) = is
    by WinNext.Won = tt
    by (WinNext.NotWon word) = is
    by WinNext.GivenBack = is
count_as k g m l t c s (ScanStep.Next first) before good (has, passes) is =
    visits_count c s links (g.items s.bin) (is.front ++ first ∷ []) is.rest before (link_of (m forwards first))
    (is.list ∙ snoc_append is.front is.rest first)
    (is.count ∙ ap (λ n. capped (before + n)) (sym (length_snoc is.front first)))
    (leads-split links (list_of (Word.BinHead s.bin) m).head is.front first is.rest (Link.Ends 0)
    (subst (λ xs. IsChain links (list_of (Word.BinHead s.bin) m).head xs 0) is.list
    (locked_list k g m l t s.bin good has).forward)).1
  where
    links : ℕ → Link
    links = (list_of (Word.BinHead s.bin) m).next
count_as k g m l t c s (ScanStep.Out b at) before good knows is =
    by (remove_learn at (found m (step_course c s (ScanStep.Out b at))))
  where
    by : (next : RemoveNext) → SeenAfter (g.items s.bin) before (out_goes s b next)
    by (RemoveNext.Goes now) = tt
    by RemoveNext.Out = tt
count_as k g m l t c s (ScanStep.Unlock (Some b)) before good knows is = tt
count_as k g m l t c s (ScanStep.Unlock None) before good knows is = looks_on_seen c s

pub scans_count_blocks : ScansCountBlocks
scans_count_blocks k g m l t c s before good knows is = count_as k g m l t c s s.step before good knows is

seen_stays : (g h : Shadow) (task : Task) (s : ScanAt) (step : ScanStep) (before : ℕ)
    → (task ≡ Task.Has s.bin → h.items s.bin ≡ g.items s.bin)
    → (want : Want) → StepFits g task want s.bin s.noted step → SeenFits (g.items s.bin) before s.seen step
    → SeenFits (h.items s.bin) before s.seen step
seen_stays g h task s ScanStep.Peek before stays want knows is = is
seen_stays g h task s ScanStep.Lock before stays want knows is = is
seen_stays g h task s ScanStep.Head before stays want knows is = is
seen_stays g h task s (ScanStep.Length first) before stays want (has, meets) is =
    subst (λ xs. Counts xs before s.seen first) (sym (stays has)) is
seen_stays g h task s (ScanStep.Win b at) before stays want (has, meets) is =
    subst (λ xs. Counts xs before s.seen b.first) (sym (stays has)) is
seen_stays g h task s (ScanStep.Next first) before stays want (has, passes) is =
    subst (λ xs. Counts xs before s.seen first) (sym (stays has)) is
seen_stays g h task s (ScanStep.Out b at) before stays want knows is = tt
seen_stays g h task s (ScanStep.Unlock (Some b)) before stays want knows is = tt
seen_stays g h task s (ScanStep.Unlock None) before stays want (has, none) is =
    subst (λ xs. s.seen ≡ capped (before + length xs)) (sym (stays has)) is

pub others_keep_counts : OthersKeepCounts
others_keep_counts k t o g m l h m' l' want s before good ne step knows is =
    seen_stays g h (l.bins t) s s.step before
    (λ has. (others_leave_locked_lists k t o s.bin g m l h m' l' good (ap (λ q. lock_in (list_task q)) has) ne
    step).items) want knows is
