-- What a local says where a call asks the backend, or puts a block.
use Rattle.std.proofs.Common.{◌≡◌, ℕ, ◌+◌, Bool, true, false, cond, eqb, ltb, Option, Some, None, refl, sym}
use Rattle.std.proofs.Common.{ap, subst, arith, length, ◌∙◌}
use Rattle.pool_types.specs.declared.values.NullCause.{NullCause}
use Rattle.pool_types.specs.Sums.{capped}
use Rattle.pool_words.specs.declared.words.Key.{Key}
use Rattle.backend_bins.specs.Blocks.{block, fits, last_bin, piece_of}
use Rattle.backend_bins.specs.Cut.{at_back, at_last, at_rests, back_of, cut_begins}
use Rattle.backend_bins.specs.Cut.{front_of}
use Rattle.backend_bins.specs.Scan.{looks_on, lock_tried, measure, out_goes, peeked, scan_end}
use Rattle.backend_bins.specs.Scan.{scan_learn, see_block, step_learn, tries, unlocked, visits, win_goes, win_of}
use Rattle.backend_bins.specs.Scan.{scan_lock}
use Rattle.backend_bins.specs.declared.bin.BinAt.{BinAt}
use Rattle.backend_bins.specs.declared.bin.BinNext.{BinNext}
use Rattle.backend_bins.specs.declared.blocks.Block.{Block}
use Rattle.backend_bins.specs.declared.blocks.Want.{Want}
use Rattle.backend_bins.specs.declared.cut.CutAt.{CutAt}
use Rattle.backend_bins.specs.declared.cut.CutCall.{CutCall}
use Rattle.backend_bins.specs.declared.cut.CutNext.{CutNext}
use Rattle.backend_bins.specs.declared.scan.ScanAt.{ScanAt}
use Rattle.backend_bins.specs.declared.scan.ScanCall.{ScanCall}
use Rattle.backend_bins.specs.declared.scan.ScanNext.{ScanNext}
use Rattle.backend_bins.specs.declared.scan.ScanStep.{ScanStep}
use Rattle.coalescer.specs.declared.drain.DrainAt.{DrainAt}
use Rattle.coalescer.specs.declared.drain.DrainNext.{DrainNext}
use Rattle.coalescer.specs.declared.put.PutAt.{PutAt}
use Rattle.coalescer.specs.declared.put.PutNext.{PutNext}
use Rattle.guards.specs.declared.win.WinNext.{WinNext}
use Rattle.guards.specs.Win.{win_learn}
use Rattle.locked_chain.specs.Locks.{lock_learn}
use Rattle.locked_chain.specs.Remove.{remove_learn}
use Rattle.locked_chain.specs.declared.lock.LockNext.{LockNext}
use Rattle.locked_chain.specs.declared.remove.RemoveNext.{RemoveNext}
use Rattle.region_steps.specs.declared.office.OfficeAt.{OfficeAt}
use Rattle.region_steps.specs.declared.office.OfficeEnd.{OfficeEnd}
use Rattle.region_steps.specs.declared.office.OfficeNext.{OfficeNext}
use Rattle.word_codes.specs.Guards.{guard_of}
use Rattle.word_codes.specs.Links.{link_of}
use Rattle.word_codes.specs.declared.guards.Guard.{Guard}
use Rattle.step_local.specs.declared.frames.At.{At}
use Rattle.step_local.specs.declared.frames.Local.{Local}
use Rattle.step_local.specs.declared.frames.OfficeFor.{OfficeFor}
use Rattle.step_local.specs.declared.frames.PutFor.{PutFor}
use Rattle.step_local.specs.declared.frames.Served.{Served}
use Rattle.step_local.specs.declared.frames.Tries.{Tries}
use Rattle.step_local.specs.Backend.{asked, asked_as, cause_of, cut_as, cut_call, cutting, drained_as, drained_on}
use Rattle.step_local.specs.Backend.{in_vain, no_piece, nothing_as, obtained, obtained_as, office_as, office_left}
use Rattle.step_local.specs.Backend.{put_as, put_done, put_done_as, queue_as, scanned_as, softened, whole_as}
use Rattle.step_local.specs.Large.{granules_of_served}
use Rattle.step_local.specs.Leaving.{scan_call}
use Rattle.pool_types.specs.declared.values.Answer.{Answer}
use Rattle.step_fits.specs.Asked.{Asks, HasMissed, want_of}
use Rattle.step_fits.specs.Backend.{CutFits, OfficeFits, PutFits, ScanFits, TookFits}
use Rattle.step_fits.specs.Frames.{Frames, oldest_rooms, plain_rooms}
use Rattle.step_fits.specs.Large.{IsLarge, PlaceFits}
use Rattle.step_fits.specs.Small.{IsSmall}
use Rattle.step_fits.proofs.Framed.{Fits, either, fits-answered, other_bin, other_rooms}
use Rattle.step_fits.proofs.Large.{ending_cached, fits-emptying, fits-releasing, fits-ticked}
use Rattle.step_fits.proofs.Slabs.{fits-surplus_left, leaves_low}
use Rattle.step_fits.proofs.Small.{fits-leaving}

-- a block that a scan takes has the wanted piece
abbrev ScanGoes : Want → ScanNext → Type 0
ScanGoes want (ScanNext.Goes next) = ScanFits want next.step
ScanGoes want (ScanNext.Took b) = fits want b ≡ true
ScanGoes want ScanNext.WaitsLock = Unit {0}
ScanGoes want (ScanNext.WaitsHalf bin again) = ScanFits want again.step
ScanGoes want (ScanNext.Nothing seen) = Unit {0}

either_scan : (want : Want) (b : Bool) (x y : ScanNext) → (b ≡ true → ScanGoes want x) → ScanGoes want y
    → ScanGoes want (cond b x y)
either_scan want true x y one other = one refl
either_scan want false x y one other = other

scan-tries : (c : ScanCall) (s : ScanAt) (b : Block) → ScanGoes c.want (tries c s b)
scan-tries c s b = either_scan c.want (fits c.want b) _ _ (λ (is : fits c.want b ≡ true). is) tt

scan-see : (c : ScanCall) (s : ScanAt) (first : ℕ) → ScanGoes c.want (see_block c s first)
scan-see c s first = either_scan c.want (ltb s.bin last_bin) _ _ (λ _. scan-tries c s (block first (s.bin + 1))) tt

scan-visits : (c : ScanCall) (s : ScanAt) (one : Option ℕ) → ScanGoes c.want (visits c s one)
scan-visits c s (Some first) = scan-see c (record s { seen = capped (s.seen + 1) }) first
scan-visits c s None = tt

scan-end : (c : ScanCall) (s : ScanAt) (noted : Option ℕ) → ScanGoes c.want (scan_end c s noted)
scan-end c s (Some bin) = tt
scan-end c s None = tt

scan-looks : (c : ScanCall) (s : ScanAt) → ScanGoes c.want (looks_on c s)
scan-looks c s = either_scan c.want (ltb s.bin last_bin) _ _ (λ _. tt) (scan-end c s s.noted)

scan-peeked : (c : ScanCall) (s : ScanAt) (one : Option ℕ) → ScanGoes c.want (peeked c s one)
scan-peeked c s (Some first) = tt
scan-peeked c s None = scan-looks c s

scan-lock : (c : ScanCall) (s : ScanAt) (next : LockNext) → ScanGoes c.want (lock_tried s next)
scan-lock c s LockNext.Won = tt
scan-lock c s LockNext.Waits = tt

scan-measure : (c : ScanCall) (s : ScanAt) (first : ℕ) (guard : Guard) → ScanGoes c.want (measure c s first guard)
scan-measure c s first (Guard.Free granules) = scan-tries c s (block first granules)
scan-measure c s first Guard.Used = tt
scan-measure c s first Guard.Coalescing = tt
scan-measure c s first Guard.Wall = tt

scan-win : (c : ScanCall) (s : ScanAt) (b : Block) (next : WinNext) → fits c.want b ≡ true
    → ScanGoes c.want (win_goes s b next)
scan-win c s b (WinNext.Goes at) is = is
scan-win c s b WinNext.Won is = is
scan-win c s b (WinNext.NotWon found) is = tt
scan-win c s b WinNext.GivenBack is = tt

scan-out : (c : ScanCall) (s : ScanAt) (b : Block) (next : RemoveNext) → fits c.want b ≡ true
    → ScanGoes c.want (out_goes s b next)
scan-out c s b (RemoveNext.Goes at) is = is
scan-out c s b RemoveNext.Out is = is

scan-unlocked : (c : ScanCall) (s : ScanAt) (took : Option Block) → TookFits c.want took
    → ScanGoes c.want (unlocked c s took)
scan-unlocked c s (Some b) is = is
scan-unlocked c s None is = scan-looks c s

pub scan-goes : (c : ScanCall) (s : ScanAt) (step : ScanStep) (found : ℕ) → ScanFits c.want step
    → ScanGoes c.want (step_learn c s step found)
scan-goes c s ScanStep.Peek found is = scan-peeked c s (link_of found)
scan-goes c s ScanStep.Lock found is = scan-lock c s (lock_learn (scan_lock c s) found)
scan-goes c s ScanStep.Head found is = scan-visits c s (link_of found)
scan-goes c s (ScanStep.Length first) found is = scan-measure c s first (guard_of found)
scan-goes c s (ScanStep.Win b at) found is = scan-win c s b (win_learn (win_of b) at found) is
scan-goes c s (ScanStep.Next first) found is = scan-visits c s (link_of found)
scan-goes c s (ScanStep.Out b at) found is = scan-out c s b (remove_learn at found) is
scan-goes c s (ScanStep.Unlock took) found is = scan-unlocked c s took is

module _ (sure : Bool) {k : Key} {seat : ℕ} where
  fits-asked_as : (l : Local) (served : Served) → Frames k seat plain_rooms l → Asks l → l.call.served ≡ served
      → Fits k seat sure (asked_as l (piece_of l.ask.want l.ask.block) served)
  fits-asked_as l (Served.Small class) frames asks is = (frames, (asks.0, subst IsSmall (sym is) tt))
  fits-asked_as l (Served.Large granules alignment) frames asks is =
      let next : Local =
      record l { call = record l.call { block = piece_of l.ask.want l.ask.block } } in
      let long : l.ask.want.granules ≡ granules = ap (λ (w : Want). w.granules) (asks.1 ∙ ap want_of is) in
      (frames, (asks.0, omega arith, subst (PlaceFits sure next) (sym is) (long ∙ ap granules_of_served (sym is))))

  fits-asked : (l : Local) → Frames k seat plain_rooms l → Asks l → Fits k seat sure (asked l)
  fits-asked l frames asks = fits-asked_as l l.call.served frames asks refl

  fits-nothing_as : (l : Local) (cause : NullCause) (served : Served) → Frames k seat plain_rooms l → Asks l
      → l.call.served ≡ served → Fits k seat sure (nothing_as l cause served)
  fits-nothing_as l cause (Served.Small class) frames asks is = fits-answered sure l (Answer.Null cause) frames
  fits-nothing_as l cause (Served.Large granules alignment) frames asks is =
      (frames, ((asks.0, subst IsLarge (sym is) tt), subst (HasMissed l.call) is asks.2))

  fits-in_vain : (l : Local) (seen : ℕ) (tries : Tries) → Frames k seat plain_rooms l → Asks l
      → Fits k seat sure (in_vain l seen tries)
  fits-in_vain l seen Tries.First frames asks = (frames, asks)
  fits-in_vain l seen Tries.Queue frames asks = (frames, asks)
  fits-in_vain l seen Tries.Soft frames asks = (other_bin frames 1 (omega arith), (omega arith, asks))
  fits-in_vain l seen Tries.Hard frames asks =
      fits-nothing_as l (cause_of l.ask.want seen l.ask.refused) l.call.served frames asks refl

  fits-softened : (l : Local) → Frames k seat plain_rooms l → Asks l → Fits k seat sure (softened l)
  fits-softened l frames asks = (other_bin frames 1 (omega arith), (omega arith, asks))

  -- a cut that begins waits for nothing
  either_cut : (l : Local) (at : At) (b : Bool) (x y : CutNext) → Fits k seat sure (cut_as l at x)
      → Fits k seat sure (cut_as l at y) → Fits k seat sure (cut_as l at (cond b x y))
  either_cut l at true x y one other = one
  either_cut l at false x y one other = other

  fits-last : (l : Local) (at : At) (c : CutCall) → Frames k seat plain_rooms l → CutFits l
      → Fits k seat sure (cut_as l at (at_last c))
  fits-last l at c frames cut =
      either_cut l at (ltb 0 (back_of c).granules) _ _ (frames, cut) (fits-asked l frames cut.0)

  fits-rests : (l : Local) (at : At) (c : CutCall) → Frames k seat plain_rooms l → CutFits l
      → Fits k seat sure (cut_as l at (at_rests c))
  fits-rests l at c frames cut =
      either_cut l at (ltb 0 (front_of c).granules) _ _ (frames, cut) (fits-last l at c frames cut)

  fits-back : (l : Local) (at : At) (c : CutCall) → Frames k seat plain_rooms l → CutFits l
      → Fits k seat sure (cut_as l at (at_back c))
  fits-back l at c frames cut =
      either_cut l at (ltb 0 (back_of c).granules) _ _ (frames, cut) (fits-rests l at c frames cut)

  fits-begins : (l : Local) (at : At) (c : CutCall) → Frames k seat plain_rooms l → CutFits l
      → Fits k seat sure (cut_as l at (cut_begins c))
  fits-begins l at c frames cut =
      either_cut l at (ltb 0 (front_of c).granules) _ _ (frames, cut) (fits-back l at c frames cut)

  fits-cutting : (l : Local) (b : Block) → Frames k seat plain_rooms l → Asks l → fits l.ask.want b ≡ true
      → Fits k seat sure (cutting l b)
  fits-cutting l b frames asks is =
      let next : Local = record l { ask = record l.ask { block = b } } in
      fits-begins next next.at (cut_call next) frames (asks, is)

  pub fits-cut_as : (l : Local) (at : CutAt) (next : CutNext) → Frames k seat plain_rooms l → CutFits l
      → Fits k seat sure (cut_as l (At.Cut at) next)
  fits-cut_as l at (CutNext.Goes next) frames cut = (frames, cut)
  fits-cut_as l at (CutNext.Waits bin) frames cut = (frames, cut)
  fits-cut_as l at CutNext.Done frames cut = fits-asked l frames cut.0

  fits-scanned : (l : Local) (at : ScanAt) (next : ScanNext) → Frames k seat plain_rooms l → Asks l
      → ScanFits l.ask.want at.step → ScanGoes l.ask.want next → Fits k seat sure (scanned_as l at next)
  fits-scanned l at (ScanNext.Goes next) frames asks here goes = (frames, (asks, goes))
  fits-scanned l at ScanNext.WaitsLock frames asks here goes = (frames, (asks, here))
  fits-scanned l at (ScanNext.WaitsHalf bin again) frames asks here goes = (frames, (asks, goes))
  fits-scanned l at (ScanNext.Took b) frames asks here goes = fits-cutting l b frames asks goes
  fits-scanned l at (ScanNext.Nothing seen) frames asks here goes = fits-in_vain l seen l.ask.tries frames asks

  pub fits-scan : (l : Local) (at : ScanAt) (f : ℕ) → Frames k seat plain_rooms l → Asks l
      → ScanFits l.ask.want at.step → Fits k seat sure (scanned_as l at (scan_learn (scan_call l) at f))
  fits-scan l at f frames asks here = fits-scanned l at (scan_learn (scan_call l) at f) frames asks here
      (scan-goes (scan_call l) at at.step f here)

  pub fits-queue_as : (l : Local) (one : Option ℕ) → Frames k seat plain_rooms l → Asks l
      → Fits k seat sure (queue_as l one)
  fits-queue_as l None frames asks = (frames, asks)
  fits-queue_as l (Some b) frames asks = (frames, asks)

  pub fits-whole_as : (l : Local) (at : BinAt) (next : BinNext) → Frames k seat plain_rooms l → Asks l
      → Fits k seat sure (whole_as l at next)
  fits-whole_as l at (BinNext.Goes next) frames asks = (frames, asks)
  fits-whole_as l at BinNext.Waits frames asks = (frames, asks)
  fits-whole_as l at BinNext.Done frames asks = fits-softened l frames asks

  fits-no_piece : (l : Local) (b : Block) → Frames k seat plain_rooms l → Asks l → Fits k seat sure (no_piece l b)
  fits-no_piece l b frames asks = either sure (eqb b.granules 0) _ _
      (λ _. fits-softened l frames asks)
      (λ _. (frames, asks))

  fits-obtained : (l : Local) (b : Block) → Frames k seat plain_rooms l → Asks l → Fits k seat sure (obtained l b)
  fits-obtained l b frames asks = either sure (fits l.ask.want b) _ _
      (λ (is : fits l.ask.want b ≡ true). fits-cutting l b frames asks is)
      (λ _. fits-no_piece l b frames asks)

  fits-obtained_as : (l : Local) (end : OfficeEnd) → Frames k seat plain_rooms l → Asks l
      → Fits k seat sure (obtained_as l end)
  fits-obtained_as l (OfficeEnd.Obtained one) frames asks =
      fits-obtained l (record { first = one.first; granules = one.granules }) frames asks
  fits-obtained_as l (OfficeEnd.Refused error) frames asks =
      fits-softened (record l { ask = record l.ask { refused = Some error } }) frames asks
  fits-obtained_as l OfficeEnd.Given frames asks = fits-softened l frames asks

  -- a block was put
  fits-put_done_as : (l : Local) (why : PutFor) → Frames k seat plain_rooms l → PutFits l why
      → Fits k seat sure (put_done_as l why)
  fits-put_done_as l PutFor.Surplus frames is =
      fits-surplus_left sure l
      (other_rooms frames oldest_rooms (let few = frames.few in omega arith) frames.none) is.0
      (leaves_low l.call.surplus (length l.heap.cached.items) frames.few is.1)
  fits-put_done_as l PutFor.Released frames is = fits-ticked sure l frames (ending_cached l l.call.stage is)
  fits-put_done_as l PutFor.Swept frames is = fits-releasing sure l frames is
  fits-put_done_as l PutFor.Emptied frames is = fits-emptying sure l frames is
  fits-put_done_as l PutFor.Left frames is = fits-leaving sure l frames is

  fits-put_done : (l : Local) → Frames k seat plain_rooms l → PutFits l l.put → Fits k seat sure (put_done l)
  fits-put_done l frames is = fits-put_done_as l l.put frames is

  pub fits-put_as : (l : Local) (at : PutAt) (next : PutNext) → Frames k seat plain_rooms l → PutFits l l.put
      → Fits k seat sure (put_as l at next)
  fits-put_as l at (PutNext.Goes next) frames is = (frames, is)
  fits-put_as l at (PutNext.Waits bin) frames is = (frames, is)
  fits-put_as l at PutNext.Done frames is = fits-put_done l frames is
  fits-put_as l at (PutNext.Gives b) frames is = (frames, is)

  pub fits-drained_as : (l : Local) (at : DrainAt) (next : DrainNext) → Frames k seat plain_rooms l → Asks l
      → Fits k seat sure (drained_as l (At.Drain at) next)
  fits-drained_as l at (DrainNext.Goes next) frames asks = (frames, asks)
  fits-drained_as l at (DrainNext.Waits bin) frames asks = (frames, asks)
  fits-drained_as l at (DrainNext.Gives b rest) frames asks = (frames, asks)
  fits-drained_as l at DrainNext.Drained frames asks = (frames, (asks, tt))

  fits-drained_on : (l : Local) (rest : Option ℕ) → Frames k seat plain_rooms l → Asks l
      → Fits k seat sure (drained_on l rest)
  fits-drained_on l (Some first) frames asks = (frames, asks)
  fits-drained_on l None frames asks = (frames, (asks, tt))

  fits-office_left : (l : Local) (job : OfficeFor) (end : OfficeEnd) → Frames k seat plain_rooms l
      → OfficeFits l job → Fits k seat sure (office_left l job end)
  fits-office_left l OfficeFor.Ask end frames is = fits-obtained_as l end frames is
  fits-office_left l (OfficeFor.Put first) end frames is = fits-put_done l frames is
  fits-office_left l (OfficeFor.Drain first rest) end frames is = fits-drained_on l rest frames is

  pub fits-office_as : (l : Local) (job : OfficeFor) (at : OfficeAt) (next : OfficeNext)
      → Frames k seat plain_rooms l → OfficeFits l job → Fits k seat sure (office_as l job at next)
  fits-office_as l job at (OfficeNext.Goes next) frames is = (frames, is)
  fits-office_as l job at OfficeNext.Waits frames is = (frames, is)
  fits-office_as l job at (OfficeNext.Left end) frames is = fits-office_left l job end frames is
