-- What a turn of a job on bins makes of the seat's lock, whatever the job's end leads to.
use Rattle.std.proofs.Common.{◌≡◌, ℕ, Bool, true, false, cond, eqb, Option, Some, None}
use Rattle.std.specs.Prelude.{◌+◌, ◌-◌, ltb}
use Rattle.word_codes.specs.declared.guards.Guard.{Guard}
use Rattle.word_codes.specs.Guards.{guard_of}
use Rattle.word_codes.specs.Links.{link_of}
use Rattle.pool_types.specs.Sums.{capped}
use Rattle.locked_chain.specs.Insert.{insert_learn}
use Rattle.locked_chain.specs.Remove.{remove_learn}
use Rattle.locked_chain.specs.declared.insert.InsertAt.{InsertAt}
use Rattle.locked_chain.specs.declared.insert.InsertNext.{InsertNext}
use Rattle.locked_chain.specs.declared.lock.LockNext.{LockNext}
use Rattle.locked_chain.specs.declared.remove.RemoveAt.{RemoveAt}
use Rattle.locked_chain.specs.declared.remove.RemoveNext.{RemoveNext}
use Rattle.guards.specs.Win.{win_learn}
use Rattle.guards.specs.declared.win.WinAt.{WinAt}
use Rattle.guards.specs.declared.win.WinNext.{WinNext}
use Rattle.backend_bins.specs.Bin.{bin_learn, job_begins, lock_tried, insert_goes, out_goes}
use Rattle.backend_bins.specs.Blocks.{bin_of, block, block_end, fits, last_bin}
use Rattle.backend_bins.specs.Cut.{at_back, at_last, at_rests, back_call, back_goes, back_of, cut_learn, front_call}
use Rattle.backend_bins.specs.Cut.{front_goes, front_of}
use Rattle.backend_bins.specs.Scan.{looks_on, lock_tried as scan_tried, lower_note, measure, notes}
use Rattle.backend_bins.specs.Scan.{out_goes as scan_out, peeked, scan_begins, scan_end, see_block, step_learn as scan_learn, tries}
use Rattle.backend_bins.specs.Scan.{unlocked}
use Rattle.backend_bins.specs.Scan.{visits, win_goes, win_of}
use Rattle.backend_bins.specs.declared.bin.BinAt.{BinAt}
use Rattle.backend_bins.specs.declared.bin.BinCall.{BinCall}
use Rattle.backend_bins.specs.declared.bin.BinJob.{BinJob}
use Rattle.backend_bins.specs.declared.bin.BinNext.{BinNext}
use Rattle.backend_bins.specs.declared.blocks.Block.{Block}
use Rattle.backend_bins.specs.declared.cut.CutAt.{CutAt}
use Rattle.backend_bins.specs.declared.cut.CutCall.{CutCall}
use Rattle.backend_bins.specs.declared.cut.CutNext.{CutNext}
use Rattle.backend_bins.specs.declared.scan.ScanAt.{ScanAt}
use Rattle.backend_bins.specs.declared.scan.ScanCall.{ScanCall}
use Rattle.backend_bins.specs.declared.scan.ScanNext.{ScanNext}
use Rattle.backend_bins.specs.declared.scan.ScanStep.{ScanStep}
use Rattle.reset_steps.specs.Unite.{unite_from, unite_learn, unite_sized, unite_unlinked, unite_win, unite_won}
use Rattle.reset_steps.specs.Unite.{unlink_call as unite_unlink}
use Rattle.reset_steps.specs.declared.unite.UniteAt.{UniteAt}
use Rattle.reset_steps.specs.declared.unite.UniteCall.{UniteCall}
use Rattle.reset_steps.specs.declared.unite.UniteNext.{UniteNext}
use Rattle.step_local.specs.declared.frames.Local.{Local}
use Rattle.step_locks.specs.Holdings.{Holding, no_lock, bin_lock, after_change}
use Rattle.step_locks.specs.Jobs.{bin_holds, bin_change, scan_holds, scan_change, cut_holds, cut_change, unite_holds}
use Rattle.step_locks.specs.Jobs.{unite_change}
use Rattle.step_locks.specs.Positions.{holding_of}

-- two cases of where a turn leads
pub either_held : {A : Type 0} (to : A → Local) (h : Holding) (b : Bool) (x y : A) → holding_of (to x) ≡ h
    → holding_of (to y) ≡ h → holding_of (to (cond b x y)) ≡ h
either_held to h true x y one other = one
either_held to h false x y one other = other

-- a bin's job, by where it goes on, where it waits, and what its end leads to
module _ (to : BinNext → Local) (c : BinCall)
    (on : (at : BinAt) → holding_of (to (BinNext.Goes at)) ≡ bin_holds c at)
    (done : holding_of (to BinNext.Done) ≡ no_lock) where
  inserting : (next : InsertNext) → holding_of (to (insert_goes next)) ≡ bin_lock (bin_of c.block.granules)
  inserting (InsertNext.Goes at) = on (BinAt.Insert at)
  inserting InsertNext.Inserted = on BinAt.Unlock

  removing : (next : RemoveNext) → holding_of (to (out_goes next)) ≡ bin_lock (bin_of c.block.granules)
  removing (RemoveNext.Goes at) = on (BinAt.Out at)
  removing RemoveNext.Out = on BinAt.Unlock

  beginning : (job : BinJob) → holding_of (to (job_begins job)) ≡ bin_lock (bin_of c.block.granules)
  beginning BinJob.Insert = on BinAt.Size
  beginning BinJob.Unlink = on (BinAt.Out RemoveAt.Forward)

  pub bin_onward : (at : BinAt) (f : ℕ) → holding_of (to BinNext.Waits) ≡ bin_holds c at
      → holding_of (to (bin_learn c at f)) ≡ after_change (bin_change c at) f (bin_holds c at)
  bin_onward BinAt.Lock f waits = by (eqb f 0)
    where
      by : (b : Bool) → holding_of (to (lock_tried c (cond b LockNext.Won LockNext.Waits)))
          ≡ cond b (bin_lock (bin_of c.block.granules)) no_lock
      by true = beginning c.job
      by false = waits
  bin_onward BinAt.Size f waits = on BinAt.Left
  bin_onward BinAt.Left f waits = on (BinAt.Insert InsertAt.Head)
  bin_onward (BinAt.Insert at) f waits = inserting (insert_learn at f)
  bin_onward (BinAt.Out at) f waits = removing (remove_learn at f)
  bin_onward BinAt.Unlock f waits = done

module _ (to : CutNext → Local) (c : CutCall)
    (on : (at : CutAt) → holding_of (to (CutNext.Goes at)) ≡ cut_holds c at)
    (done : holding_of (to CutNext.Done) ≡ no_lock) where
  last_free : holding_of (to (at_last c)) ≡ no_lock
  last_free = either_held to no_lock (ltb 0 (back_of c).granules) _ _ (on (CutAt.Back BinAt.Lock)) done

  rests_free : holding_of (to (at_rests c)) ≡ no_lock
  rests_free =
      either_held to no_lock (ltb 0 (front_of c).granules) _ _ (on (CutAt.Front BinAt.Lock)) last_free

  back_free : holding_of (to (at_back c)) ≡ no_lock
  back_free = either_held to no_lock (ltb 0 (back_of c).granules) _ _ (on CutAt.BackLeft) rests_free

  pub cut_onward : (at : CutAt) (f : ℕ) → ((bin : ℕ) → holding_of (to (CutNext.Waits bin)) ≡ cut_holds c at)
      → holding_of (to (cut_learn c at f)) ≡ after_change (cut_change c at) f (cut_holds c at)
  cut_onward CutAt.FrontLeft f waits = on CutAt.FrontSize
  cut_onward CutAt.FrontSize f waits = back_free
  cut_onward CutAt.BackLeft f waits = on CutAt.BackSize
  cut_onward CutAt.BackSize f waits = rests_free
  cut_onward (CutAt.Front at) f waits =
      bin_onward (λ next. to (front_goes c next)) (front_call c) (λ next. on (CutAt.Front next)) last_free at f
      (waits (bin_of (front_of c).granules))
  cut_onward (CutAt.Back at) f waits =
      bin_onward (λ next. to (back_goes c next)) (back_call c) (λ next. on (CutAt.Back next)) done at f
      (waits (bin_of (back_of c).granules))

module _ (to : ScanNext → Local) (c : ScanCall)
    (on : (s : ScanAt) → holding_of (to (ScanNext.Goes s)) ≡ scan_holds s.bin s.step)
    (again : (bin : ℕ) (s : ScanAt) → holding_of (to (ScanNext.WaitsHalf bin s)) ≡ scan_holds s.bin s.step)
    (took : (b : Block) → holding_of (to (ScanNext.Took b)) ≡ no_lock)
    (none : (seen : ℕ) → holding_of (to (ScanNext.Nothing seen)) ≡ no_lock) where
  module _ (s : ScanAt) where
    trying : (b : Block) → holding_of (to (tries c s b)) ≡ bin_lock s.bin
    trying b = either_held to (bin_lock s.bin) (fits c.want b) _ _ (on (record s { step = ScanStep.Win b WinAt.First }))
        (on (record s { step = ScanStep.Next b.first }))

    noting : (first : ℕ) → holding_of (to (notes s first)) ≡ bin_lock s.bin
    noting first = on (record s { noted = Some (lower_note s.noted s.bin); step = ScanStep.Next first })

    measured : (first : ℕ) (guard : Guard) → holding_of (to (measure c s first guard)) ≡ bin_lock s.bin
    measured first (Guard.Free granules) = trying (block first granules)
    measured first Guard.Used = noting first
    measured first Guard.Coalescing = noting first
    measured first Guard.Wall = noting first

    winning : (b : Block) (next : WinNext) → holding_of (to (win_goes s b next)) ≡ bin_lock s.bin
    winning b (WinNext.Goes at) = on (record s { step = ScanStep.Win b at })
    winning b WinNext.Won = on (record s { step = ScanStep.Out b RemoveAt.Forward })
    winning b (WinNext.NotWon found) = noting b.first
    winning b WinNext.GivenBack = noting b.first

    leaving : (b : Block) (next : RemoveNext) → holding_of (to (scan_out s b next)) ≡ bin_lock s.bin
    leaving b (RemoveNext.Goes at) = on (record s { step = ScanStep.Out b at })
    leaving b RemoveNext.Out = on (record s { step = ScanStep.Unlock (Some b) })

    ending : (noted : Option ℕ) → holding_of (to (scan_end c s noted)) ≡ no_lock
    ending (Some bin) = again bin (scan_begins c)
    ending None = none s.seen

    looking : holding_of (to (looks_on c s)) ≡ no_lock
    looking = either_held to no_lock (ltb s.bin last_bin) _ _
        (on (record s { bin = s.bin + 1; step = ScanStep.Peek })) (ending s.noted)

    peeking : (first : Option ℕ) → holding_of (to (peeked c s first)) ≡ no_lock
    peeking (Some first) = on (record s { step = ScanStep.Lock })
    peeking None = looking

    unlocking : (took : Option Block) → holding_of (to (unlocked c s took)) ≡ no_lock
    unlocking (Some b) = took b
    unlocking None = looking

  seeing : (s : ScanAt) (first : ℕ) → holding_of (to (see_block c s first)) ≡ bin_lock s.bin
  seeing s first = either_held to (bin_lock s.bin) (ltb s.bin last_bin) _ _ (trying s (block first (s.bin + 1)))
      (on (record s { step = ScanStep.Length first }))

  visiting : (s : ScanAt) (first : Option ℕ) → holding_of (to (visits c s first)) ≡ bin_lock s.bin
  visiting s (Some first) = seeing (record s { seen = capped (s.seen + 1) }) first
  visiting s None = on (record s { step = ScanStep.Unlock None })

  pub scan_onward : (s : ScanAt) (step : ScanStep) (f : ℕ)
      → holding_of (to ScanNext.WaitsLock) ≡ scan_holds s.bin step
      → holding_of (to (scan_learn c s step f)) ≡ after_change (scan_change s.bin step) f (scan_holds s.bin step)
  scan_onward s ScanStep.Peek f waits = peeking s (link_of f)
  scan_onward s ScanStep.Lock f waits = by (eqb f 0)
    where
      by : (b : Bool) → holding_of (to (scan_tried s (cond b LockNext.Won LockNext.Waits)))
          ≡ cond b (bin_lock s.bin) no_lock
      by true = on (record s { step = ScanStep.Head })
      by false = waits
  scan_onward s ScanStep.Head f waits = visiting s (link_of f)
  scan_onward s (ScanStep.Length first) f waits = measured s first (guard_of f)
  scan_onward s (ScanStep.Win b at) f waits = winning s b (win_learn (win_of b) at f)
  scan_onward s (ScanStep.Next first) f waits = visiting s (link_of f)
  scan_onward s (ScanStep.Out b at) f waits = leaving s b (remove_learn at f)
  scan_onward s (ScanStep.Unlock found) f waits = unlocking s found

module _ (to : UniteNext → Local) (c : UniteCall)
    (on : (at : UniteAt) → holding_of (to (UniteNext.Goes at)) ≡ unite_holds c at)
    (done : (b : Block) → holding_of (to (UniteNext.United b)) ≡ no_lock) where
  uniting_from : (first : ℕ) → holding_of (to (unite_from c first)) ≡ no_lock
  uniting_from first = either_held to no_lock (ltb first (block_end c.region)) _ _ (on (UniteAt.Size first))
      (done (block c.region.first (first - c.region.first)))

  sized : (first : ℕ) (guard : Guard) → holding_of (to (unite_sized c first guard)) ≡ no_lock
  sized first (Guard.Free granules) = on (UniteAt.Win (block first granules) WinAt.First)
  sized first Guard.Used = done (block c.region.first (first - c.region.first))
  sized first Guard.Coalescing = done (block c.region.first (first - c.region.first))
  sized first Guard.Wall = done (block c.region.first (first - c.region.first))

  won : (b : Block) (next : WinNext) → holding_of (to (unite_won b next)) ≡ no_lock
  won b (WinNext.Goes at) = on (UniteAt.Win b at)
  won b WinNext.Won = on (UniteAt.Unlink b BinAt.Lock)
  won b (WinNext.NotWon found) = on (UniteAt.Size b.first)
  won b WinNext.GivenBack = on (UniteAt.Size b.first)

  pub unite_onward : (at : UniteAt) (f : ℕ) → ((bin : ℕ) → holding_of (to (UniteNext.Waits bin)) ≡ unite_holds c at)
      → holding_of (to (unite_learn c at f)) ≡ after_change (unite_change c at) f (unite_holds c at)
  unite_onward (UniteAt.Size first) f waits = sized first (guard_of f)
  unite_onward (UniteAt.Win b at) f waits = won b (win_learn (unite_win b) at f)
  unite_onward (UniteAt.Unlink b at) f waits =
      bin_onward (λ next. to (unite_unlinked c b next)) (unite_unlink c b) (λ next. on (UniteAt.Unlink b next))
      (uniting_from (block_end b)) at f (waits (bin_of b.granules))
