-- The block that a scan wins and takes out of its bin fits what is wanted.
use Rattle.std.proofs.Common.{◌≡◌, ◌≢◌, ◌⊎◌, inl, inr, ℕ, ◌+◌, ◌%◌, ◌^◌, ◌<◌, ◌≤◌, Bool, true, false, cond, leb, ltb}
use Rattle.std.proofs.Common.{Option, Some, None, List, [], ◌∷◌, ◌++◌, refl, sym, ap, subst, arith, ◌∙◌}
use Rattle.std.proofs.lemmas.Bool.Decides.{nat_tests}
use Rattle.pool_types.specs.Sums.{capped}
use Rattle.pool_words.specs.declared.words.Key.{Key}
use Rattle.pool_words.specs.declared.words.Word.{Word}
use Rattle.pool_words.specs.Words.{sizes, bin_heads, forwards}
use Rattle.word_codes.specs.declared.guards.Guard.{Guard}
use Rattle.word_codes.specs.Guards.{guard_of}
use Rattle.word_codes.specs.Links.{link_of}
use Rattle.guards.specs.declared.win.Side.{Side}
use Rattle.guards.specs.declared.win.Taking.{Taking}
use Rattle.guards.specs.declared.win.WinAt.{WinAt}
use Rattle.guards.specs.declared.win.WinNext.{WinNext}
use Rattle.guards.specs.Win.{win_course, win_learn}
use Rattle.locked_chain.specs.declared.lock.LockNext.{LockNext}
use Rattle.locked_chain.specs.declared.remove.RemoveNext.{RemoveNext}
use Rattle.locked_chain.specs.Locks.{lock_learn}
use Rattle.locked_chain.specs.Remove.{remove_learn}
use Rattle.backend_bins.specs.declared.blocks.Block.{Block}
use Rattle.backend_bins.specs.declared.blocks.Want.{Want}
use Rattle.backend_bins.specs.declared.scan.ScanAt.{ScanAt}
use Rattle.backend_bins.specs.declared.scan.ScanCall.{ScanCall}
use Rattle.backend_bins.specs.declared.scan.ScanNext.{ScanNext}
use Rattle.backend_bins.specs.declared.scan.ScanStep.{ScanStep}
use Rattle.backend_bins.specs.Blocks.{block, bin_of, last_bin, first_skipped, fits}
use Rattle.backend_bins.specs.Scan.{win_of, goes, looks_on, scan_begins, scan_end, scan_lock, peeked, lock_tried}
use Rattle.backend_bins.specs.Scan.{tries, see_block, visits, measure, win_goes, out_goes, step_course, step_learn}
use Rattle.word_laws.specs.Memory.{Mem, put, after, found}
use Rattle.word_laws.proofs.CallerLemmas.{put-other}
use Rattle.chain_laws.specs.Chains.{Link, tally, IsChain}
use Rattle.chain_laws.proofs.CallerLemmas.{tally-here, tally-append, leads-split}
use Rattle.lock_laws.specs.Steps.{link_to, list_of}
use Rattle.guard_laws.specs.Blocks as blocks
use Rattle.guard_laws.specs.Blocks.{Use, Place, Piece, CallFits, GuardGood, core_in}
use Rattle.guard_laws.specs.Steps.{guard_in, shadow_won, GuardStep}
use Rattle.guard_laws.specs.Laws.{WinEnds}
use Rattle.guard_laws.proofs.CallerLemmas.{both_words_or_none, free_guards_tell_blocks, others_leave_hands}
use Rattle.bin_laws.specs.Bins.{Task, won_of, Shadow, Locals, BinGood}
use Rattle.bin_laws.specs.Steps.{IsReady, BinStep}
use Rattle.bin_laws.specs.Scans.{Meets, StepFits}
use Rattle.bin_laws.specs.Takes.{IsToWin, HasFit, HasPiece, TakeFits, AfterTake, shadow_scanned, IsWinning}
use Rattle.bin_laws.specs.Laws.{IsOfBin, TakenBlockFits, OthersKeepTakenBlocks, WonBlocksAreOfTheBin}
use Rattle.bin_laws.proofs.Keeps.{lists_have_their_blocks}
use Rattle.bin_laws.proofs.Scans.{heads_to, snoc_append, locked_list, met, bin_tells, below_last}

call_fits : (first n span : ℕ) → first + n ≤ span → span < 2 ^ 32 → CallFits (win_of (block first n))
call_fits first n span low small = record { ends = omega arith; told = omega arith }

-- a block that fits is to be won
tries_take : (g : blocks.Shadow) (t : ℕ) (c : ScanCall) (s : ScanAt) (first n : ℕ) → CallFits (win_of (block first n))
    → AfterTake g t c.want (tries c s (block first n))
tries_take g t c s first n call = by (fits c.want (block first n)) refl
  where
    by : (b : Bool) → fits c.want (block first n) ≡ b
        → AfterTake g t c.want
        (cond b (goes s (ScanStep.Win (block first n) WinAt.First)) (goes s (ScanStep.Next first)))
    by true is = record { fit = is; call = call }
    by false is = tt

-- a block that a list has, with its length
listed_place : (k : Key) (g : Shadow) (m : Mem) (l : Locals) (b x : ℕ) → BinGood k g m l → (o : IsOfBin g l b x)
    → (u : Use) × (g.guards.place x ≡ Place.Block x o.granules u)
listed_place k g m l b x good o = go o.use'
  where
    go : (g.guards.place x ≡ Place.Block x o.granules Use.Bin)
        ⊎ ((t : ℕ) × (j : Taking) × (g.guards.place x ≡ Place.Block x o.granules (Use.Held t j))
        × (won_of (l.bins t) ≡ Piece.Got x o.granules)) → (u : Use) × (g.guards.place x ≡ Place.Block x o.granules u)
    go (inl f) = (Use.Bin, f)
    go (inr (t, j, f, w)) = (Use.Held t j, f)

see_take : (k : Key) (g : Shadow) (m : Mem) (l : Locals) (t : ℕ) (c : ScanCall) (s : ScanAt) (first : ℕ)
    → BinGood k g m l → 0 < tally first (g.items s.bin) → AfterTake g.guards t c.want (see_block c s first)
see_take k g m l t c s first good some = by (ltb s.bin last_bin) refl
  where
    of : IsOfBin g l s.bin first
    of = lists_have_their_blocks k g m l s.bin first good some

    at : (u : Use) × (g.guards.place first ≡ Place.Block first of.granules u)
    at = listed_place k g m l s.bin first good of

    by : (b : Bool) → ltb s.bin last_bin ≡ b
        → AfterTake g.guards t c.want
        (cond b (tries c s (block first (s.bin + 1))) (goes s (ScanStep.Length first)))
    by true is = tries_take g.guards t c s first (s.bin + 1) (call_fits first (s.bin + 1) k.span
        (let whole = (good.guards.parts.whole first first of.granules at.0 at.1).below in
        let long = bin_tells of.granules s.bin (omega arith) of.bin (below_last s.bin is) in
        let low = good.guards.parts.within first of.granules at.0 at.1 in omega arith) good.guards.small)
    by false is = tt

-- the scan goes on to what is behind the blocks that it passed
visits_take : (k : Key) (g : Shadow) (m : Mem) (l : Locals) (t : ℕ) (c : ScanCall) (s : ScanAt) (links : ℕ → Link)
    (front rest : List ℕ) (next : Option ℕ) → BinGood k g m l → g.items s.bin ≡ front ++ rest
    → IsChain links (link_to next) rest 0 → AfterTake g.guards t c.want (visits c s next)
visits_take k g m l t c s links front rest (Some y) good items chain =
    let at = heads_to links rest y chain in
    see_take k g m l t c (record s { seen = capped (s.seen + 1) }) y good
    (let a = tally-append y front rest in let b = ap (tally y) at.1 in let q = tally-here y at.0 in
    let e = ap (tally y) items in omega arith)
visits_take k g m l t c s links front rest None good items chain = tt

measure_take : (k : Key) (g : Shadow) (m : Mem) (l : Locals) (t : ℕ) (c : ScanCall) (s : ScanAt) (first : ℕ)
    (guard : Guard) → BinGood k g m l → guard_in m Side.Begin first ≡ guard
    → AfterTake g.guards t c.want (measure c s first guard)
measure_take k g m l t c s first (Guard.Free n) good is =
    let tells = free_guards_tell_blocks k g.guards m l.guards Side.Begin first n good.guards is in
    let same = tells.1 in let low = tells.3 in
    tries_take g.guards t c s first n (call_fits first n k.span (omega arith) good.guards.small)
measure_take k g m l t c s first Guard.Used good is = tt
measure_take k g m l t c s first Guard.Coalescing good is = tt
measure_take k g m l t c s first Guard.Wall good is = tt

looks_on_take : (g : blocks.Shadow) (t : ℕ) (c : ScanCall) (s : ScanAt) → AfterTake g t c.want (looks_on c s)
looks_on_take g t c s = by (ltb s.bin last_bin) s.noted
  where
    by : (b : Bool) (noted : Option ℕ)
        → AfterTake g t c.want
        (cond b (ScanNext.Goes (record s { bin = s.bin + 1; step = ScanStep.Peek })) (scan_end c s noted))
    by true noted = tt
    by false (Some bin) = tt
    by false None = tt

-- the piece of a block that fits
piece_fits : (want : Want) (b : Block) → b.first + b.granules < 2 ^ 32 → fits want b ≡ true → HasPiece want b
piece_fits want b few fit = by want.slab want.granules fit
  where
    by : (slab : Bool) (granules : ℕ) → leb (capped (cond slab (b.first % 2) 0 + granules)) b.granules ≡ true
        → HasPiece (record { granules = granules; slab = slab }) b
    by true granules fit =
        let most : capped (b.first % 2 + granules) ≤ b.granules = grind (arith, nat_tests) in
        record { granules = refl; from = omega arith; to = omega arith; even = λ e. omega arith }
    by false granules fit =
        let most : capped (0 + granules) ≤ b.granules = grind (arith, nat_tests) in
        record { granules = refl; from = omega arith; to = omega arith; even = λ e. absurd (cc) }

wins_take : (k : Key) (g : Shadow) (m m' : Mem) (l : Locals) (t : ℕ) (c : ScanCall) (s : ScanAt) (b : Block)
    (next : WinNext) → BinGood k g m l → IsToWin c.want b
    → WinEnds g.guards (shadow_won t (win_of b) next g.guards) m m' t (win_of b) next
    → AfterTake (shadow_won t (win_of b) next g.guards) t c.want (win_goes s b next)
wins_take k g m m' l t c s b (WinNext.Goes at) good is ends = is
wins_take k g m m' l t c s b WinNext.Won good is ends = record {
  fit = is.fit;
  hand = ends.hand b.first (omega arith)
      (let whole = (good.guards.parts.whole b.first b.first b.granules Use.Bin ends.bin).below in
      let e = is.call.ends in omega arith);
}
wins_take k g m m' l t c s b (WinNext.NotWon word) good is ends = tt
wins_take k g m m' l t c s b WinNext.GivenBack good is ends = tt

takes_as : (k : Key) (g : Shadow) (m : Mem) (l : Locals) (t : ℕ) (c : ScanCall) (s : ScanAt) (step : ScanStep)
    → BinGood k g m l → StepFits g (l.bins t) c.want s.bin s.noted step → IsWinning (l.guards t) step
    → TakeFits g.guards t c.want step
    → AfterTake (shadow_scanned t step (found m (step_course c s step)) g.guards) t c.want
    (step_learn c s step (found m (step_course c s step)))
takes_as k g m l t c s ScanStep.Peek good knows wins is = by (link_of (m bin_heads s.bin))
  where
    by : (next : Option ℕ) → AfterTake g.guards t c.want (peeked c s next)
    by (Some first) = tt
    by None = looks_on_take g.guards t c s
takes_as k g m l t c s ScanStep.Lock good knows wins is =
    by (lock_learn (scan_lock c s) (found m (step_course c s ScanStep.Lock)))
  where
    by : (next : LockNext) → AfterTake g.guards t c.want (lock_tried s next)
    by LockNext.Won = tt
    by LockNext.Waits = tt
takes_as k g m l t c s ScanStep.Head good knows wins is =
    visits_take k g m l t c s (list_of (Word.BinHead s.bin) m).next [] (g.items s.bin) (link_of
    (m bin_heads s.bin)) good
    refl (locked_list k g m l t s.bin good knows).forward
takes_as k g m l t c s (ScanStep.Length first) good knows wins is =
    measure_take k g m l t c s first (guard_of (m sizes first)) good refl
takes_as k g m l t c s (ScanStep.Win b at) good knows wins is =
    wins_take k g m (after k m (win_course (win_of b) at)) l t c s b
    (win_learn (win_of b) at (found m (win_course (win_of b) at))) good is
    (both_words_or_none k t g.guards m l.guards (win_of b) at good.guards wins)
takes_as k g m l t c s (ScanStep.Next first) good (has, passes) wins is =
    visits_take k g m l t c s links (passes.front ++ first ∷ []) passes.rest (link_of (m forwards first)) good
    (passes.items ∙ snoc_append passes.front passes.rest first)
    (leads-split links (list_of (Word.BinHead s.bin) m).head passes.front first passes.rest (Link.Ends 0)
    (subst (λ xs. IsChain links (list_of (Word.BinHead s.bin) m).head xs 0) passes.items
    (locked_list k g m l t s.bin good has).forward)).1
  where
    links : ℕ → Link
    links = (list_of (Word.BinHead s.bin) m).next
takes_as k g m l t c s (ScanStep.Out b at) good knows wins is =
    by (remove_learn at (found m (step_course c s (ScanStep.Out b at))))
  where
    by : (next : RemoveNext) → AfterTake g.guards t c.want (out_goes s b next)
    by (RemoveNext.Goes now) = is
    by RemoveNext.Out = is
takes_as k g m l t c s (ScanStep.Unlock (Some b)) good knows wins is = (
  is,
  piece_fits c.want b
      (let low = good.guards.parts.within b.first b.granules (Use.Held t Taking.ForUse) is.hand in
      let small = good.guards.small in omega arith) is.fit,
)
takes_as k g m l t c s (ScanStep.Unlock None) good knows wins is = looks_on_take g.guards t c s

pub taken_block_fits : TakenBlockFits
taken_block_fits k g m l t c s good knows wins is = takes_as k g m l t c s s.step good knows wins is

-- a block in the seat's hand stays there
hand_stays : (k : Key) (t o : ℕ) (g : Shadow) (m : Mem) (l : Locals) (h : Shadow) (m' : Mem) (l' : Locals) (x n : ℕ)
    → BinGood k g m l → o ≢ t → BinStep k o g m l h m' l'
    → g.guards.place x ≡ Place.Block x n (Use.Held t Taking.ForUse)
    → h.guards.place x ≡ Place.Block x n (Use.Held t Taking.ForUse)
hand_stays k t o g m l h m' l' x n good ne (BinStep.guards guards' words' tasks step quiet same) at =
    (others_leave_hands k t o g.guards m l.guards guards' m' tasks x n Taking.ForUse good.guards step ne at).place
hand_stays k t o g m l h m' l' x n good ne (BinStep.wins c is won ready) at =
    subst (λ next. (shadow_won o c next g.guards).place x ≡ Place.Block x n (Use.Held t Taking.ForUse)) won
    (others_leave_hands k t o g.guards m l.guards _ _ _ x n Taking.ForUse good.guards
    (GuardStep.wins c WinAt.Second is) ne at).place
hand_stays k t o g m l h m' l' x n good ne (BinStep.comes y j is has) at =
    (others_leave_hands k t o g.guards m l.guards _ _ _ x n Taking.ForUse good.guards (GuardStep.offered y j is) ne
    at).place
hand_stays k t o g m l h m' l' x n good ne (BinStep.takes b some is) at = at
hand_stays k t o g m l h m' l' x n good ne (BinStep.leaves y j is) at = at
hand_stays k t o g m l h m' l' x n good ne (BinStep.frees b is) at = at
hand_stays k t o g m l h m' l' x n good ne (BinStep.links y j i is) at = at
hand_stays k t o g m l h m' l' x n good ne (BinStep.unlinks y j i is) at = at

pub others_keep_taken_blocks : OthersKeepTakenBlocks
others_keep_taken_blocks k t o g m l h m' l' want ScanStep.Peek good ne step is = tt
others_keep_taken_blocks k t o g m l h m' l' want ScanStep.Lock good ne step is = tt
others_keep_taken_blocks k t o g m l h m' l' want ScanStep.Head good ne step is = tt
others_keep_taken_blocks k t o g m l h m' l' want (ScanStep.Length first) good ne step is = tt
others_keep_taken_blocks k t o g m l h m' l' want (ScanStep.Win b at) good ne step is = is
others_keep_taken_blocks k t o g m l h m' l' want (ScanStep.Next first) good ne step is = tt
others_keep_taken_blocks k t o g m l h m' l' want (ScanStep.Out b at) good ne step is = record {
  fit = is.fit;
  hand = hand_stays k t o g m l h m' l' b.first b.granules good ne step is.hand;
}
others_keep_taken_blocks k t o g m l h m' l' want (ScanStep.Unlock (Some b)) good ne step is = record {
  fit = is.fit;
  hand = hand_stays k t o g m l h m' l' b.first b.granules good ne step is.hand;
}
others_keep_taken_blocks k t o g m l h m' l' want (ScanStep.Unlock None) good ne step is = tt

pub won_blocks_are_of_the_bin : WonBlocksAreOfTheBin
won_blocks_are_of_the_bin k g m l t c s b at good knows step wins won =
    subst (IsReady b.granules) (sym here.0) (by (lists_have_their_blocks k g m l s.bin b.first good
    (met g c.want s.bin s.noted b.first here.1)))
  where
    here : (l.bins t ≡ Task.Has s.bin) × Meets g c.want s.bin s.noted b.first
    here = subst (StepFits g (l.bins t) c.want s.bin s.noted) step knows

    bin : g.guards.place b.first ≡ Place.Block b.first b.granules Use.Bin
    bin = (subst (λ next. WinEnds g.guards (shadow_won t (win_of b) next g.guards) m
        (after k m (win_course (win_of b) at)) t (win_of b) next) won
        (both_words_or_none k t g.guards m l.guards (win_of b) at good.guards wins)).bin

    by : IsOfBin g l s.bin b.first → s.bin ≡ bin_of b.granules
    by of = let at = listed_place k g m l s.bin b.first good of in
        let q : Place.Block b.first of.granules at.0 ≡ Place.Block b.first b.granules Use.Bin = sym at.1 ∙ bin in
        let e : of.granules ≡ b.granules = cc in sym of.bin ∙ ap bin_of e
