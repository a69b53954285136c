-- Cuts, scans, puts and drains.
use Rattle.std.proofs.Common.{Bool, None, Option, Some, arith, cond, eqb, false, ltb, refl, subst, sym, true}
use Rattle.std.proofs.Common.{ℕ, ◌&&◌, ◌+◌, ◌<◌, ◌^◌, ◌≡◌}
use Rattle.std.specs.Prelude.{⊤}
use Rattle.pool_types.specs.Geometry.{bin_count}
use Rattle.pool_types.specs.Sums.{capped}
use Rattle.pool_words.specs.Actions.{finds}
use Rattle.pool_words.specs.declared.words.Key.{Key}
use Rattle.pool_words.specs.declared.words.Word.{Word}
use Rattle.word_codes.specs.Guards.{guard_of}
use Rattle.word_codes.specs.Links.{link_of}
use Rattle.word_codes.specs.declared.guards.Guard.{Guard}
use Rattle.chain_words.specs.Pushing.{found_of, push_learn}
use Rattle.chain_words.specs.declared.pushing.PushAt.{PushAt}
use Rattle.chain_words.specs.declared.pushing.PushNext.{PushNext}
use Rattle.locked_chain.specs.Locks.{lock_learn}
use Rattle.locked_chain.specs.Remove.{remove_learn}
use Rattle.locked_chain.specs.declared.lock.LockNext.{LockNext}
use Rattle.locked_chain.specs.declared.remove.RemoveNext.{RemoveNext}
use Rattle.guards.specs.Win.{free_word, win_course, win_learn}
use Rattle.guards.specs.declared.win.WinAt.{WinAt}
use Rattle.guards.specs.declared.win.WinNext.{WinNext}
use Rattle.backend_bins.specs.Bin.{bin_learn}
use Rattle.backend_bins.specs.Blocks.{block_end, fits, last_bin}
use Rattle.backend_bins.specs.Cut.{at_back, at_last, at_rests, back_call, back_goes, back_of, cut_begins}
use Rattle.backend_bins.specs.Cut.{cut_course, cut_learn, front_call, front_goes, front_of}
use Rattle.backend_bins.specs.Scan.{scan_begins, scan_course, scan_learn, scan_lock, win_of}
use Rattle.backend_bins.specs.declared.bin.BinAt.{BinAt}
use Rattle.backend_bins.specs.declared.bin.BinNext.{BinNext}
use Rattle.backend_bins.specs.declared.blocks.Block.{Block}
use Rattle.backend_bins.specs.declared.blocks.Want.{Want}
use Rattle.backend_bins.specs.declared.cut.CutAt.{CutAt}
use Rattle.backend_bins.specs.declared.cut.CutCall.{CutCall}
use Rattle.backend_bins.specs.declared.cut.CutNext.{CutNext}
use Rattle.backend_bins.specs.declared.scan.ScanAt.{ScanAt}
use Rattle.backend_bins.specs.declared.scan.ScanCall.{ScanCall}
use Rattle.backend_bins.specs.declared.scan.ScanNext.{ScanNext}
use Rattle.backend_bins.specs.declared.scan.ScanStep.{ScanStep}
use Rattle.coalescer.specs.Drain.{drain_course, drain_learn, goes_on}
use Rattle.coalescer.specs.Put.{bin_goes, insert_call, is_walled, joined_left, joined_right, judges_left}
use Rattle.coalescer.specs.Put.{judges_right, left_ends, left_win, push_call, put_course}
use Rattle.coalescer.specs.Put.{put_learn, queue_goes, right_ends, right_win, sees_far_left, sees_far_right}
use Rattle.coalescer.specs.Put.{sides_known, unlinks_left, unlinks_right, wins_left, wins_right}
use Rattle.coalescer.specs.declared.drain.DrainAt.{DrainAt}
use Rattle.coalescer.specs.declared.drain.DrainCall.{DrainCall}
use Rattle.coalescer.specs.declared.drain.DrainNext.{DrainNext}
use Rattle.coalescer.specs.declared.put.Beside.{Beside}
use Rattle.coalescer.specs.declared.put.PutAt.{PutAt}
use Rattle.coalescer.specs.declared.put.PutCall.{PutCall}
use Rattle.coalescer.specs.declared.put.PutNext.{PutNext}
use Rattle.coalescer.specs.declared.put.PutStep.{PutStep}
use Rattle.word_laws.specs.Memory.{Valid}
use Rattle.step_ranges.proofs.Codes.{end_fits, exchanges, free_fits, joining_left, joining_size, link_fits}
use Rattle.step_ranges.proofs.Codes.{loads, lock_fits, queue_link_fits, size_free, stores_in, swaps, used_left}
use Rattle.step_ranges.proofs.Codes.{used_size}
use Rattle.step_ranges.proofs.Lists.{BinNextFits, PushNextFits, RemoveNextFits, WinNextFits, bin_fits, bin_low}
use Rattle.step_ranges.proofs.Lists.{bin_on, block_end_is, end_there, push_fits, push_on, remove_fits}
use Rattle.step_ranges.proofs.Lists.{remove_on, win_fits, win_on}
use Rattle.step_ranges.proofs.Numbers.{below_by, block_few, choose, choose_by, end_few, end_is, is_granule}
use Rattle.step_ranges.proofs.Numbers.{is_guard}
use Rattle.step_ranges.specs.Jobs.{CutFits, DrainFits, HasBlock, IsCut, IsWanted, MayBeWon, PushFits, PutFits}
use Rattle.step_ranges.specs.Jobs.{PutStepFits, ScanFits, ScanStepFits, ScanWinFits, TookFits, WinFits}
use Rattle.step_ranges.specs.Ranges.{ActionFits, EndsBlock, Finds, IsBelow, IsBlock, IsKey, LeftFits, SizeFits}
use Rattle.step_ranges.specs.Ranges.{ValueFits, granules_end}
use Rattle.std.proofs.lemmas.Bool.{eqb-true}
use Rattle.backend_bins.specs.Scan.{step_course as scan_step, step_learn as scan_told}
use Rattle.backend_bins.specs.Scan.{lock_tried as scan_tried, out_goes as scan_out_goes, visits, tries}
use Rattle.backend_bins.specs.Scan.{unlocked, looks_on, scan_end, see_block, measure, win_goes, peeked}
use Rattle.coalescer.specs.Put.{step_course as put_step, step_learn as put_told, goes as put_goes_to, queues}
use Rattle.coalescer.specs.Put.{bins, ends, unlink_call}
use Rattle.backend_bins.specs.Blocks.{block}
use Rattle.word_codes.proofs.CallerLemmas.{capped_is}
use Rattle.coalescer.specs.Drain.{put_call as drained_put, put_goes}

abbrev pub CutNextFits : Key → CutCall → CutNext → Type 0
CutNextFits k c (CutNext.Goes at) = CutFits k c at
CutNextFits k c (CutNext.Waits bin) = ⊤
CutNextFits k c CutNext.Done = ⊤

-- and without a wait
abbrev pub CutGoes : Key → CutCall → CutNext → Type 0
CutGoes k c (CutNext.Goes at) = CutFits k c at
CutGoes k c (CutNext.Waits bin) = ⊥
CutGoes k c CutNext.Done = ⊤

abbrev pub ScanNextFits : Key → Want → ScanNext → Type 0
ScanNextFits k want (ScanNext.Goes s) = ScanFits k want s
ScanNextFits k want ScanNext.WaitsLock = ⊤
ScanNextFits k want (ScanNext.WaitsHalf bin again) = ScanFits k want again
ScanNextFits k want (ScanNext.Took b) = IsWanted k want b
ScanNextFits k want (ScanNext.Nothing seen) = ⊤

abbrev pub PutNextFits : Key → PutNext → Type 0
PutNextFits k (PutNext.Goes p) = PutFits k p
PutNextFits k (PutNext.Waits bin) = ⊤
PutNextFits k PutNext.Done = ⊤
PutNextFits k (PutNext.Gives b) = ⊤

-- what is left of the queue is gone on with at once
abbrev pub DrainGoes : Key → DrainNext → Type 0
DrainGoes k (DrainNext.Goes at) = DrainFits k at
DrainGoes k (DrainNext.Waits bin) = ⊥
DrainGoes k (DrainNext.Gives b rest) = ⊥
DrainGoes k DrainNext.Drained = ⊤

abbrev pub DrainNextFits : Key → DrainNext → Type 0
DrainNextFits k (DrainNext.Goes at) = DrainFits k at
DrainNextFits k (DrainNext.Waits bin) = ⊤
DrainNextFits k (DrainNext.Gives b rest) = IsBelow (granules_end k) rest
DrainNextFits k DrainNext.Drained = ⊤

module _ (k : Key) (key : IsKey k) where
  -- a cut
  piece_end : (c : CutCall) → IsCut k c → block_end c.piece ≡ c.piece.first + c.piece.granules
  piece_end c is =
      let back = is.back in
      let b = is.block.ends in
      let few = end_few k key in
      capped_is (c.piece.first + c.piece.granules) (omega arith)

  pub cut_fits : (c : CutCall) (at : CutAt) → c.seat < k.seats → IsCut k c → CutFits k c at
      → ActionFits k (cut_course c at)
  cut_fits c CutAt.FrontLeft seat is fits =
      stores_in (is_guard k c.piece.first (let back = is.back in let b = is.block.ends in omega arith))
      (used_left k key c.piece.first)
  cut_fits c CutAt.FrontSize seat is fits =
      stores_in (is_guard k c.piece.first (let back = is.back in let b = is.block.ends in omega arith))
      (used_size k key c.piece.first)
  cut_fits c CutAt.BackLeft seat is fits =
      stores_in (is_guard k (block_end c.piece)
      (let e = piece_end c is in let back = is.back in let b = is.block.ends in omega arith))
      (used_left k key (block_end c.piece))
  cut_fits c CutAt.BackSize seat is fits =
      stores_in (is_guard k (block_end c.piece)
      (let e = piece_end c is in let back = is.back in let b = is.block.ends in omega arith))
      (used_size k key (block_end c.piece))
  cut_fits c (CutAt.Front at) seat is fits = bin_fits k key (front_call c) at seat fits.1 fits.0
  cut_fits c (CutAt.Back at) seat is fits = bin_fits k key (back_call c) at seat fits.1 fits.0

  front_there : (c : CutCall) → IsCut k c → 0 < (front_of c).granules → HasBlock k (front_of c)
  front_there c is some =
      let b = is.block.ends in
      let begins = is.block.begins in
      let back = is.back in
      record { begins = begins; ends = omega arith }

  back_there : (c : CutCall) → IsCut k c → 0 < (back_of c).granules → HasBlock k (back_of c)
  back_there c is some =
      let e = piece_end c is in
      let f = block_end_is k key c.block is.block in
      let b = is.block.ends in
      let back = is.back in
      record { begins = omega arith; ends = omega arith }

  last_fits : (c : CutCall) → IsCut k c → CutGoes k c (at_last c)
  last_fits c is = choose_by (CutGoes k c) (ltb 0 (back_of c).granules) _ _
      (λ some. (tt, back_there c is (below_by 0 (back_of c).granules some))) (λ none. tt)

  rests_fit : (c : CutCall) → IsCut k c → CutGoes k c (at_rests c)
  rests_fit c is = choose_by (CutGoes k c) (ltb 0 (front_of c).granules) _ _
      (λ some. (tt, front_there c is (below_by 0 (front_of c).granules some))) (λ none. last_fits c is)

  back_fits : (c : CutCall) → IsCut k c → CutGoes k c (at_back c)
  back_fits c is = choose (CutGoes k c) (ltb 0 (back_of c).granules) _ _ tt (rests_fit c is)

  pub begins_fit : (c : CutCall) → IsCut k c → CutGoes k c (cut_begins c)
  begins_fit c is = choose (CutGoes k c) (ltb 0 (front_of c).granules) _ _ tt (back_fits c is)

  cut_goes : (c : CutCall) (next : CutNext) → CutGoes k c next → CutNextFits k c next
  cut_goes c (CutNext.Goes at) goes = goes
  cut_goes c (CutNext.Waits bin) goes = tt
  cut_goes c CutNext.Done goes = tt

  front_next : (c : CutCall) (next : BinNext) → IsCut k c → HasBlock k (front_of c) → BinNextFits k next
      → CutNextFits k c (front_goes c next)
  front_next c (BinNext.Goes at) is there fits = (fits, there)
  front_next c BinNext.Waits is there fits = tt
  front_next c BinNext.Done is there fits = cut_goes c (at_last c) (last_fits c is)

  back_next : (c : CutCall) (next : BinNext) → HasBlock k (back_of c) → BinNextFits k next
      → CutNextFits k c (back_goes c next)
  back_next c (BinNext.Goes at) there fits = (fits, there)
  back_next c BinNext.Waits there fits = tt
  back_next c BinNext.Done there fits = tt

  pub cut_on : (c : CutCall) (at : CutAt) (found : ℕ) → IsCut k c → CutFits k c at → Finds k (cut_course c at) found
      → CutNextFits k c (cut_learn c at found)
  cut_on c CutAt.FrontLeft found is fits finds = tt
  cut_on c CutAt.FrontSize found is fits finds = cut_goes c (at_back c) (back_fits c is)
  cut_on c CutAt.BackLeft found is fits finds = tt
  cut_on c CutAt.BackSize found is fits finds = cut_goes c (at_rests c) (rests_fit c is)
  cut_on c (CutAt.Front at) found is fits finds = front_next c (bin_learn (front_call c) at found) is fits.1
      (bin_on k key (front_call c) at found fits.0 finds)
  cut_on c (CutAt.Back at) found is fits finds = back_next c (bin_learn (back_call c) at found) fits.1
      (bin_on k key (back_call c) at found fits.0 finds)

  -- a scan
  pub scan_starts : (c : ScanCall) → ScanFits k c.want (scan_begins c)
  scan_starts c = record { bin = bin_low c.want.granules; step = tt }

  wins : (b : Block) → HasBlock k b → WinFits k (win_of b)
  wins b is = record { block = is; ends = block_end_is k key b is }

  scan_win_fits : (want : Want) (b : Block) (at : WinAt) → ScanWinFits k want b at
      → ActionFits k (win_course (win_of b) at)
  scan_win_fits want b WinAt.First fits =
      exchanges (is_guard k b.first (let begins = fits.begins in omega arith)) (used_size k key b.first)
  scan_win_fits want b WinAt.Second fits = win_fits k key (win_of b) WinAt.Second (wins b fits.block)
  scan_win_fits want b WinAt.Back fits = win_fits k key (win_of b) WinAt.Back (wins b fits.block)

  scan_step_fits : (c : ScanCall) (s : ScanAt) (step : ScanStep) → c.seat < k.seats → s.bin < bin_count
      → ScanStepFits k c.want step → ActionFits k (scan_step c s step)
  scan_step_fits c s ScanStep.Peek seat low fits = loads low
  scan_step_fits c s ScanStep.Lock seat low fits = exchanges low (lock_fits k key c.seat seat)
  scan_step_fits c s ScanStep.Head seat low fits = loads low
  scan_step_fits c s (ScanStep.Length first) seat low fits = loads (is_guard k first (omega arith))
  scan_step_fits c s (ScanStep.Win b at) seat low fits = scan_win_fits c.want b at fits
  scan_step_fits c s (ScanStep.Next first) seat low fits = loads (is_granule k first fits)
  scan_step_fits c s (ScanStep.Out b at) seat low fits =
      remove_fits k key s.bin b.first at low fits.0.block.begins fits.1
  scan_step_fits c s (ScanStep.Unlock took) seat low fits = stores_in low (free_fits k key)

  pub scan_fits : (c : ScanCall) (s : ScanAt) → c.seat < k.seats → ScanFits k c.want s
      → ActionFits k (scan_course c s)
  scan_fits c s seat fits = scan_step_fits c s s.step seat fits.bin fits.step

  module _ (c : ScanCall) where
    abbrev Next : ScanNext → Type 0
    Next next = ScanNextFits k c.want next

    end_next : (s : ScanAt) (noted : Option ℕ) → Next (scan_end c s noted)
    end_next s None = tt
    end_next s (Some bin) = scan_starts c

    looks_next : (s : ScanAt) → Next (looks_on c s)
    looks_next s = choose_by Next (ltb s.bin last_bin) _ _
        (λ more. record { bin = let low = below_by s.bin last_bin more in omega arith; step = tt })
        (λ last. end_next s s.noted)

    tries_next : (s : ScanAt) (b : Block) → s.bin < bin_count → b.first < granules_end k → b.granules < 2 ^ 32
        → Next (tries c s b)
    tries_next s b low begins few = choose_by Next (fits c.want b) _ _
        (λ room. record { bin = low; step = record { begins = begins; few = few; room = room } })
        (λ no. record { bin = low; step = begins })

    sees_next : (s : ScanAt) (first : ℕ) → s.bin < bin_count → first < granules_end k → Next (see_block c s first)
    sees_next s first low begins = choose Next (ltb s.bin last_bin) _ _
        (tries_next s (block first (s.bin + 1)) low begins (omega arith)) (record { bin = low; step = begins })

    visits_next : (s : ScanAt) (one : Option ℕ) → s.bin < bin_count → IsBelow (granules_end k) one
        → Next (visits c s one)
    visits_next s None low below = record { bin = low; step = tt }
    visits_next s (Some first) low below = sees_next (record s { seen = capped (s.seen + 1) }) first low below

    peeked_next : (s : ScanAt) (one : Option ℕ) → s.bin < bin_count → Next (peeked c s one)
    peeked_next s None low = looks_next s
    peeked_next s (Some first) low = record { bin = low; step = tt }

    tried_next : (s : ScanAt) (next : LockNext) → s.bin < bin_count → Next (scan_tried s next)
    tried_next s LockNext.Won low = record { bin = low; step = tt }
    tried_next s LockNext.Waits low = tt

    measure_next : (s : ScanAt) (first : ℕ) (guard : Guard) → s.bin < bin_count → first < granules_end k
        → SizeFits k first guard → Next (measure c s first guard)
    measure_next s first Guard.Used low begins fits = record { bin = low; step = begins }
    measure_next s first Guard.Coalescing low begins fits = record { bin = low; step = begins }
    measure_next s first Guard.Wall low begins fits = record { bin = low; step = begins }
    measure_next s first (Guard.Free granules) low begins fits =
        tries_next s (block first granules) low begins (let few = block_few k key granules first fits in omega arith)

    first_next : (s : ScanAt) (b : Block) (found : ℕ) → s.bin < bin_count → MayBeWon k c.want b
        → SizeFits k b.first (guard_of found) → Next (win_goes s b (win_learn (win_of b) WinAt.First found))
    first_next s b found low may size = elim (eqb found (free_word (win_of b)))
        as (λ won. eqb found (free_word (win_of b)) ≡ won
        → Next (win_goes s b (cond won (WinNext.Goes WinAt.Second) (WinNext.NotWon found)))) [
          | true ↦ λ e. record {
            bin = low;
            step = record {
              block = size_free k key b.granules b.first may.few
                  (subst (λ word. SizeFits k b.first (guard_of word)) (eqb-true found (free_word (win_of b)) e) size);
              room = may.room;
            };
          }
          | false ↦ λ e. record { bin = low; step = may.begins }
        ] refl

    second_next : (s : ScanAt) (b : Block) (won : Bool) → s.bin < bin_count → IsWanted k c.want b
        → Next (win_goes s b (cond won WinNext.Won (WinNext.Goes WinAt.Back)))
    second_next s b true low is = record { bin = low; step = (is, tt) }
    second_next s b false low is = record { bin = low; step = is }

    win_next : (s : ScanAt) (b : Block) (at : WinAt) (found : ℕ) → s.bin < bin_count → ScanWinFits k c.want b at
        → Finds k (win_course (win_of b) at) found → Next (win_goes s b (win_learn (win_of b) at found))
    win_next s b WinAt.First found low fits finds = first_next s b found low fits finds
    win_next s b WinAt.Second found low fits finds = second_next s b (eqb found (free_word (win_of b))) low fits
    win_next s b WinAt.Back found low fits finds = record { bin = low; step = fits.block.begins }

    out_next : (s : ScanAt) (b : Block) (next : RemoveNext) → s.bin < bin_count → IsWanted k c.want b
        → RemoveNextFits k next → Next (scan_out_goes s b next)
    out_next s b (RemoveNext.Goes at) low is fits = record { bin = low; step = (is, fits) }
    out_next s b RemoveNext.Out low is fits = record { bin = low; step = is }

    unlocked_next : (s : ScanAt) (took : Option Block) → TookFits k c.want took → Next (unlocked c s took)
    unlocked_next s None fits = looks_next s
    unlocked_next s (Some b) fits = fits

    scan_step_on : (s : ScanAt) (step : ScanStep) (found : ℕ) → s.bin < bin_count → ScanStepFits k c.want step
        → Finds k (scan_step c s step) found → Next (scan_told c s step found)
    scan_step_on s ScanStep.Peek found low fits finds = peeked_next s (link_of found) low
    scan_step_on s ScanStep.Lock found low fits finds = tried_next s (lock_learn (scan_lock c s) found) low
    scan_step_on s ScanStep.Head found low fits finds = visits_next s (link_of found) low finds
    scan_step_on s (ScanStep.Length first) found low fits finds =
        measure_next s first (guard_of found) low fits finds
    scan_step_on s (ScanStep.Win b at) found low fits finds = win_next s b at found low fits finds
    scan_step_on s (ScanStep.Next first) found low fits finds = visits_next s (link_of found) low finds
    scan_step_on s (ScanStep.Out b at) found low fits finds =
        out_next s b (remove_learn at found) low fits.0 (remove_on k s.bin b.first at found fits.1 finds)
    scan_step_on s (ScanStep.Unlock took) found low fits finds = unlocked_next s took fits

    pub scan_on : (s : ScanAt) (found : ℕ) → ScanFits k c.want s → Finds k (scan_course c s) found
        → ScanNextFits k c.want (scan_learn c s found)
    scan_on s found fits finds = scan_step_on s s.step found fits.bin fits.step finds

  -- a put
  wins_left_of : (p : PutAt) (granules : ℕ) → EndsBlock k granules p.block.first → WinFits k (left_win p granules)
  wins_left_of p granules is =
      record { block = is.block; ends = let long = is.long in omega arith }

  end_of : (p : PutAt) → HasBlock k p.block → p.block.first + p.block.granules ≡ block_end p.block
  end_of p is = sym (block_end_is k key p.block is)

  behind : (p : PutAt) (granules : ℕ) → HasBlock k p.block → IsBlock k granules (p.block.first + p.block.granules)
      → IsBlock k granules (block_end p.block)
  behind p granules is right = subst (IsBlock k granules) (end_of p is) right

  wins_right_of : (p : PutAt) (granules : ℕ) → HasBlock k p.block
      → IsBlock k granules (p.block.first + p.block.granules) → WinFits k (right_win p granules)
  wins_right_of p granules is right = record {
    block = behind p granules is right;
    ends = end_is k key granules (block_end p.block) (behind p granules is right);
  }

  push_put_fits : (p : PutAt) (at : PushAt) → HasBlock k p.block → PushFits (ValueFits k Word.Queue) at
      → IsBelow (granules_end k) (link_of (found_of at))
  push_put_fits p PushAt.Look is fits = end_fits k key
  push_put_fits p (PushAt.Link found) is fits = fits
  push_put_fits p (PushAt.Exchange found) is fits = fits

  put_step_fits : (c : PutCall) (p : PutAt) (step : PutStep) → c.seat < k.seats → HasBlock k p.block
      → PutStepFits k p.block step → ActionFits k (put_step c p step)
  put_step_fits c p PutStep.Size seat is fits =
      stores_in (is_guard k p.block.first (let b = is.begins in omega arith)) (joining_size k key p.block.first)
  put_step_fits c p PutStep.Left seat is fits =
      stores_in (is_guard k (block_end p.block) (end_there k key p.block is)) (joining_left k key (block_end p.block))
  put_step_fits c p PutStep.LeftWord seat is fits =
      loads (is_guard k p.block.first (let b = is.begins in omega arith))
  put_step_fits c p (PutStep.WinLeft granules at) seat is fits =
      win_fits k key (left_win p granules) at (wins_left_of p granules fits)
  put_step_fits c p (PutStep.UnlinkLeft neighbour at) seat is fits =
      bin_fits k key (unlink_call c neighbour) at seat fits.0 fits.1
  put_step_fits c p PutStep.RightWord seat is fits =
      loads (is_guard k (block_end p.block) (end_there k key p.block is))
  put_step_fits c p (PutStep.WinRight granules at) seat is fits =
      win_fits k key (right_win p granules) at (wins_right_of p granules is fits)
  put_step_fits c p (PutStep.UnlinkRight neighbour at) seat is fits =
      bin_fits k key (unlink_call c neighbour) at seat fits.0 fits.1
  put_step_fits c p PutStep.FarLeft seat is fits =
      loads (is_guard k p.block.first (let b = is.begins in omega arith))
  put_step_fits c p PutStep.FarRight seat is fits =
      loads (is_guard k (block_end p.block) (end_there k key p.block is))
  put_step_fits c p (PutStep.Queue at) seat is fits =
      push_fits k (push_call p at) at one (is_granule k p.block.first is.begins)
      (queue_link_fits k key (link_of (found_of at)) p.block.granules p.block.first (push_put_fits p at is fits) is)
      (link_fits k key p.block.first is.begins)
    where
      one : Valid k Word.Queue
      one = omega arith
  put_step_fits c p (PutStep.Bin at) seat is fits = bin_fits k key (insert_call c p.block) at seat is fits

  pub put_fits : (c : PutCall) (p : PutAt) → c.seat < k.seats → PutFits k p → ActionFits k (put_course c p)
  put_fits c p seat fits = put_step_fits c p p.step seat fits.block fits.step

  step_next : (p : PutAt) (step : PutStep) → HasBlock k p.block → PutStepFits k p.block step
      → PutNextFits k (put_goes_to p step)
  step_next p step is fits = record { block = is; step = fits }

  queues_next : (c : PutCall) (p : PutAt) → HasBlock k p.block → PutNextFits k (queues c p)
  queues_next c p is = choose (PutNextFits k) c.drained _ _ (step_next p (PutStep.Bin BinAt.Lock) is tt)
      (step_next p (PutStep.Queue PushAt.Look) is tt)

  judges_left_next : (c : PutCall) (p : PutAt) (guard : Guard) → HasBlock k p.block → LeftFits k p.block.first guard
      → PutNextFits k (judges_left c p guard)
  judges_left_next c p Guard.Used is fits = record { block = is; step = tt }
  judges_left_next c p Guard.Wall is fits = record { block = is; step = tt }
  judges_left_next c p Guard.Coalescing is fits = queues_next c p is
  judges_left_next c p (Guard.Free granules) is fits = record { block = is; step = fits }

  joined_there : (p : PutAt) (granules : ℕ) → HasBlock k p.block → EndsBlock k granules p.block.first
      → HasBlock k (joined_left p granules).block
  joined_there p granules is left =
      let begins = left.block.begins in
      let long = left.long in
      let ends = is.ends in
      let few = end_few k key in
      record { begins = begins; ends = omega arith }

  wins_left_next : (c : PutCall) (p : PutAt) (granules : ℕ) (next : WinNext) → HasBlock k p.block
      → EndsBlock k granules p.block.first → WinNextFits k (left_win p granules) next
      → PutNextFits k (wins_left c p granules next)
  wins_left_next c p granules (WinNext.Goes at) is left fits = record { block = is; step = left }
  wins_left_next c p granules WinNext.Won is left fits =
      record { block = joined_there p granules is left; step = (left.block, tt) }
  wins_left_next c p granules (WinNext.NotWon found) is left fits = judges_left_next c p (guard_of found) is fits
  wins_left_next c p granules WinNext.GivenBack is left fits = queues_next c p is

  unlinks_left_next : (p : PutAt) (neighbour : Block) (next : BinNext) → HasBlock k p.block → HasBlock k neighbour
      → BinNextFits k next → PutNextFits k (unlinks_left p neighbour next)
  unlinks_left_next p neighbour (BinNext.Goes at) is there fits = record { block = is; step = (there, fits) }
  unlinks_left_next p neighbour BinNext.Waits is there fits = tt
  unlinks_left_next p neighbour BinNext.Done is there fits = record { block = is; step = tt }

  right_ends_next : (p : PutAt) (side : Beside) → HasBlock k p.block → PutNextFits k (right_ends p side)
  right_ends_next p Beside.Joined is = record { block = is; step = tt }
  right_ends_next p Beside.InUse is = tt
  right_ends_next p Beside.Wall is = tt
  right_ends_next p Beside.Unknown is = tt

  left_ends_next : (p : PutAt) (side : Beside) → HasBlock k p.block → PutNextFits k (left_ends p side)
  left_ends_next p Beside.Joined is = record { block = is; step = tt }
  left_ends_next p Beside.InUse is = right_ends_next p p.right is
  left_ends_next p Beside.Wall is = right_ends_next p p.right is
  left_ends_next p Beside.Unknown is = right_ends_next p p.right is

  bins_next : (p : PutAt) → HasBlock k p.block → PutNextFits k (bins p)
  bins_next p is = record { block = is; step = tt }

  sides_next : (c : PutCall) (p : PutAt) → HasBlock k p.block → PutNextFits k (sides_known c p)
  sides_next c p is =
      choose (PutNextFits k) (c.gives && is_walled p) _ _ (left_ends_next p p.left is) (bins_next p is)

  ends_next : (c : PutCall) (p : PutAt) (right : Beside) → HasBlock k p.block → PutNextFits k (ends c p right)
  ends_next c p right is = sides_next c (record p { right = right }) is

  judges_right_next : (c : PutCall) (p : PutAt) (guard : Guard) → HasBlock k p.block
      → SizeFits k (p.block.first + p.block.granules) guard → PutNextFits k (judges_right c p guard)
  judges_right_next c p Guard.Used is fits = ends_next c p Beside.InUse is
  judges_right_next c p Guard.Wall is fits = ends_next c p Beside.Wall is
  judges_right_next c p Guard.Coalescing is fits = queues_next c p is
  judges_right_next c p (Guard.Free granules) is fits = record { block = is; step = fits }

  joined_here : (p : PutAt) (granules : ℕ) → HasBlock k p.block
      → IsBlock k granules (p.block.first + p.block.granules) → HasBlock k (joined_right p granules).block
  joined_here p granules is right =
      let begins = is.begins in
      let ends = right.ends in
      let few = end_few k key in
      record { begins = begins; ends = omega arith }

  at_end : (p : PutAt) (guard : Guard) → HasBlock k p.block → SizeFits k (block_end p.block) guard
      → SizeFits k (p.block.first + p.block.granules) guard
  at_end p guard is fits = subst (λ at. SizeFits k at guard) (sym (end_of p is)) fits

  wins_right_next : (c : PutCall) (p : PutAt) (granules : ℕ) (next : WinNext) → HasBlock k p.block
      → IsBlock k granules (p.block.first + p.block.granules) → WinNextFits k (right_win p granules) next
      → PutNextFits k (wins_right c p granules next)
  wins_right_next c p granules (WinNext.Goes at) is right fits = record { block = is; step = right }
  wins_right_next c p granules WinNext.Won is right fits =
      record { block = joined_here p granules is right; step = (behind p granules is right, tt) }
  wins_right_next c p granules (WinNext.NotWon found) is right fits =
      judges_right_next c p (guard_of found) is (at_end p (guard_of found) is fits)
  wins_right_next c p granules WinNext.GivenBack is right fits = queues_next c p is

  unlinks_right_next : (c : PutCall) (p : PutAt) (neighbour : Block) (next : BinNext) → HasBlock k p.block
      → HasBlock k neighbour → BinNextFits k next → PutNextFits k (unlinks_right c p neighbour next)
  unlinks_right_next c p neighbour (BinNext.Goes at) is there fits = record { block = is; step = (there, fits) }
  unlinks_right_next c p neighbour BinNext.Waits is there fits = tt
  unlinks_right_next c p neighbour BinNext.Done is there fits = ends_next c p Beside.Joined is

  far_left_next : (p : PutAt) (guard : Guard) → HasBlock k p.block → PutNextFits k (sees_far_left p guard)
  far_left_next p Guard.Wall is = right_ends_next p p.right is
  far_left_next p Guard.Used is = bins_next p is
  far_left_next p Guard.Coalescing is = bins_next p is
  far_left_next p (Guard.Free granules) is = bins_next p is

  far_right_next : (p : PutAt) (guard : Guard) → HasBlock k p.block → PutNextFits k (sees_far_right p guard)
  far_right_next p Guard.Wall is = tt
  far_right_next p Guard.Used is = bins_next p is
  far_right_next p Guard.Coalescing is = bins_next p is
  far_right_next p (Guard.Free granules) is = bins_next p is

  queue_next : (p : PutAt) (next : PushNext) → HasBlock k p.block → PushNextFits (ValueFits k Word.Queue) next
      → PutNextFits k (queue_goes p next)
  queue_next p (PushNext.Goes at) is fits = record { block = is; step = fits }
  queue_next p (PushNext.Pushed found) is fits = tt

  bin_next : (p : PutAt) (next : BinNext) → HasBlock k p.block → BinNextFits k next → PutNextFits k (bin_goes p next)
  bin_next p (BinNext.Goes at) is fits = record { block = is; step = fits }
  bin_next p BinNext.Waits is fits = tt
  bin_next p BinNext.Done is fits = tt

  put_step_on : (c : PutCall) (p : PutAt) (step : PutStep) (found : ℕ) → HasBlock k p.block
      → PutStepFits k p.block step → Finds k (put_step c p step) found → PutNextFits k (put_told c p step found)
  put_step_on c p PutStep.Size found is fits finds = record { block = is; step = tt }
  put_step_on c p PutStep.Left found is fits finds = record { block = is; step = tt }
  put_step_on c p PutStep.LeftWord found is fits finds = judges_left_next c p (guard_of found) is finds
  put_step_on c p (PutStep.WinLeft granules at) found is fits finds =
      wins_left_next c p granules (win_learn (left_win p granules) at found) is fits
      (win_on k (left_win p granules) at found finds)
  put_step_on c p (PutStep.UnlinkLeft neighbour at) found is fits finds =
      unlinks_left_next p neighbour (bin_learn (unlink_call c neighbour) at found) is fits.0
      (bin_on k key (unlink_call c neighbour) at found fits.1 finds)
  put_step_on c p PutStep.RightWord found is fits finds =
      judges_right_next c p (guard_of found) is (at_end p (guard_of found) is finds)
  put_step_on c p (PutStep.WinRight granules at) found is fits finds =
      wins_right_next c p granules (win_learn (right_win p granules) at found) is fits
      (win_on k (right_win p granules) at found finds)
  put_step_on c p (PutStep.UnlinkRight neighbour at) found is fits finds =
      unlinks_right_next c p neighbour (bin_learn (unlink_call c neighbour) at found) is fits.0
      (bin_on k key (unlink_call c neighbour) at found fits.1 finds)
  put_step_on c p PutStep.FarLeft found is fits finds = far_left_next p (guard_of found) is
  put_step_on c p PutStep.FarRight found is fits finds = far_right_next p (guard_of found) is
  put_step_on c p (PutStep.Queue at) found is fits finds =
      queue_next p (push_learn at found) is (push_on k (push_call p at) at found fits finds)
  put_step_on c p (PutStep.Bin at) found is fits finds =
      bin_next p (bin_learn (insert_call c p.block) at found) is
      (bin_on k key (insert_call c p.block) at found fits finds)

  pub put_on : (c : PutCall) (p : PutAt) (found : ℕ) → PutFits k p → Finds k (put_course c p) found
      → PutNextFits k (put_learn c p found)
  put_on c p found fits finds = put_step_on c p p.step found fits.block fits.step finds

  -- a drain
  pub drain_fits : (c : DrainCall) (at : DrainAt) → c.seat < k.seats → DrainFits k at
      → ActionFits k (drain_course c at)
  drain_fits c DrainAt.Swap seat fits = swaps one (end_fits k key)
    where
      one : Valid k Word.Queue
      one = omega arith
  drain_fits c (DrainAt.Link first) seat fits = loads (is_granule k first fits)
  drain_fits c (DrainAt.Put rest at) seat fits = put_fits (drained_put c) at seat fits.1

  pub goes_on_goes : (rest : Option ℕ) → IsBelow (granules_end k) rest → DrainGoes k (goes_on rest)
  goes_on_goes None below = tt
  goes_on_goes (Some first) below = below

  goes_on_fits : (rest : Option ℕ) → IsBelow (granules_end k) rest → DrainNextFits k (goes_on rest)
  goes_on_fits None below = tt
  goes_on_fits (Some first) below = below

  drained_next : (rest : Option ℕ) (next : PutNext) → IsBelow (granules_end k) rest → PutNextFits k next
      → DrainNextFits k (put_goes rest next)
  drained_next rest (PutNext.Goes at) below fits = (below, fits)
  drained_next rest (PutNext.Waits bin) below fits = tt
  drained_next rest PutNext.Done below fits = goes_on_fits rest below
  drained_next rest (PutNext.Gives b) below fits = below

  pub drain_on : (c : DrainCall) (at : DrainAt) (found : ℕ) → DrainFits k at → Finds k (drain_course c at) found
      → DrainNextFits k (drain_learn c at found)
  drain_on c DrainAt.Swap found fits finds = goes_on_fits (link_of found) finds
  drain_on c (DrainAt.Link first) found fits finds =
      (finds.next, record { block = record { begins = fits; ends = finds.ends fits }; step = tt })
  drain_on c (DrainAt.Put rest at) found fits finds =
      drained_next rest (put_learn (drained_put c) at found) fits.0 (put_on (drained_put c) at found fits.1 finds)
