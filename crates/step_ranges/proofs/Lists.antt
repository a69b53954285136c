-- Jobs on chains, on guards and on the bins' lists.
use Rattle.std.proofs.Common.{None, Option, Some, arith, eqb, subst, ℕ, ◌+◌, ◌-◌, ◌<◌, ◌≡◌, ◌≤◌}
use Rattle.std.specs.Prelude.{⊤}
use Rattle.pool_types.specs.Geometry.{bin_count}
use Rattle.pool_words.specs.Actions.{finds}
use Rattle.pool_words.specs.declared.words.Key.{Key}
use Rattle.pool_words.specs.declared.words.Word.{Word}
use Rattle.word_codes.specs.Links.{link_of}
use Rattle.chain_words.specs.Pushing.{push_course, push_learn}
use Rattle.chain_words.specs.declared.pushing.PushAt.{PushAt}
use Rattle.chain_words.specs.declared.pushing.PushCall.{PushCall}
use Rattle.chain_words.specs.declared.pushing.PushNext.{PushNext}
use Rattle.locked_chain.specs.Insert.{before_old, insert_course, insert_learn}
use Rattle.locked_chain.specs.Locks.{lock_learn}
use Rattle.locked_chain.specs.Remove.{remove_course, remove_learn, skip_back, skip_course}
use Rattle.locked_chain.specs.declared.ListCall.{ListCall}
use Rattle.locked_chain.specs.declared.insert.InsertAt.{InsertAt}
use Rattle.locked_chain.specs.declared.insert.InsertNext.{InsertNext}
use Rattle.locked_chain.specs.declared.lock.LockNext.{LockNext}
use Rattle.locked_chain.specs.declared.remove.RemoveAt.{RemoveAt}
use Rattle.locked_chain.specs.declared.remove.RemoveNext.{RemoveNext}
use Rattle.guards.specs.Win.{free_word, guard_at, other_side, taken_word, win_course, win_learn}
use Rattle.guards.specs.declared.win.Side.{Side}
use Rattle.guards.specs.declared.win.Taking.{Taking}
use Rattle.guards.specs.declared.win.WinAt.{WinAt}
use Rattle.guards.specs.declared.win.WinCall.{WinCall}
use Rattle.guards.specs.declared.win.WinNext.{WinNext}
use Rattle.backend_bins.specs.Blocks.{bin_of, block_end, fits}
use Rattle.backend_bins.specs.declared.bin.BinAt.{BinAt}
use Rattle.backend_bins.specs.declared.bin.BinCall.{BinCall}
use Rattle.backend_bins.specs.declared.bin.BinJob.{BinJob}
use Rattle.backend_bins.specs.declared.bin.BinNext.{BinNext}
use Rattle.backend_bins.specs.declared.blocks.Block.{Block}
use Rattle.word_laws.specs.Memory.{Valid}
use Rattle.step_ranges.proofs.Codes.{end_fits, exchanges, free_fits, free_left, free_size, joining_left}
use Rattle.step_ranges.proofs.Codes.{joining_size, link_fits, loads, lock_fits, stores_in, used_left}
use Rattle.step_ranges.proofs.Codes.{used_size}
use Rattle.step_ranges.proofs.Numbers.{choose, end_is, is_granule, is_guard}
use Rattle.step_ranges.specs.Jobs.{BinFits, HasBlock, InsertFits, LinkFits, PushFits, RemoveFits, WinFits}
use Rattle.step_ranges.specs.Ranges.{ActionFits, EndsBlock, Finds, IsBelow, IsBlock, IsKey, ValueFits}
use Rattle.step_ranges.specs.Ranges.{granules_end}
use Rattle.backend_bins.specs.Bin.{bin_course, bin_learn, bin_lock, job_begins}
use Rattle.backend_bins.specs.Bin.{insert_goes, lock_tried, out_goes}

abbrev pub PushNextFits : (ℕ → Type 0) → PushNext → Type 0
PushNextFits fits (PushNext.Goes at) = PushFits fits at
PushNextFits fits (PushNext.Pushed found) = fits found

abbrev pub InsertNextFits : Key → InsertNext → Type 0
InsertNextFits k (InsertNext.Goes at) = InsertFits k at
InsertNextFits k InsertNext.Inserted = ⊤

abbrev pub RemoveNextFits : Key → RemoveNext → Type 0
RemoveNextFits k (RemoveNext.Goes at) = RemoveFits k at
RemoveNextFits k RemoveNext.Out = ⊤

-- what is found where the first guard is not won
abbrev pub WinNextFits : Key → WinCall → WinNext → Type 0
WinNextFits k c (WinNext.Goes at) = ⊤
WinNextFits k c WinNext.Won = ⊤
WinNextFits k c (WinNext.NotWon found) = ValueFits k (guard_at c c.first) found
WinNextFits k c WinNext.GivenBack = ⊤

abbrev pub BinNextFits : Key → BinNext → Type 0
BinNextFits k (BinNext.Goes at) = BinFits k at
BinNextFits k BinNext.Waits = ⊤
BinNextFits k BinNext.Done = ⊤

-- an item of the list of a bin
abbrev in_bin : ℕ → ℕ → ListCall
in_bin bin item = record { head = Word.BinHead bin; item = item }

pub bin_low : (granules : ℕ) → bin_of granules < bin_count
bin_low granules = omega arith

module _ (k : Key) where
  pub push_fits : (c : PushCall) (at : PushAt) → Valid k c.head → Valid k c.link → ValueFits k c.link c.linked
      → ValueFits k c.head c.filled → ActionFits k (push_course c at)
  push_fits c PushAt.Look head link linked filled = loads head
  push_fits c (PushAt.Link found) head link linked filled = stores_in link linked
  push_fits c (PushAt.Exchange found) head link linked filled = exchanges head filled

  pub push_on : (c : PushCall) (at : PushAt) (found : ℕ) → PushFits (ValueFits k c.head) at
      → Finds k (push_course c at) found → PushNextFits (ValueFits k c.head) (push_learn at found)
  push_on c PushAt.Look found fits finds = finds
  push_on c (PushAt.Link last) found fits finds = fits
  push_on c (PushAt.Exchange last) found fits finds =
      choose (PushNextFits (ValueFits k c.head)) (eqb found last) _ _ finds finds

  before_fits : (old : Option ℕ) → IsBelow (granules_end k) old → InsertNextFits k (before_old old)
  before_fits None below = tt
  before_fits (Some old) below = below

  pub insert_on : (bin item : ℕ) (at : InsertAt) (found : ℕ) → InsertFits k at
      → Finds k (insert_course (in_bin bin item) at) found → InsertNextFits k (insert_learn at found)
  insert_on bin item InsertAt.Head found fits finds = finds
  insert_on bin item (InsertAt.Forward head) found fits finds = fits
  insert_on bin item (InsertAt.Backward head) found fits finds = before_fits (link_of head) fits
  insert_on bin item (InsertAt.OldBackward old) found fits finds = tt
  insert_on bin item InsertAt.NewHead found fits finds = tt

  skip_back_fits : (backward : ℕ) (behind : Option ℕ) → LinkFits k backward → IsBelow (granules_end k) behind
      → RemoveNextFits k (skip_back backward behind)
  skip_back_fits backward None fits below = tt
  skip_back_fits backward (Some behind) fits below = (below, fits)

  pub remove_on : (bin item : ℕ) (at : RemoveAt) (found : ℕ) → RemoveFits k at
      → Finds k (remove_course (in_bin bin item) at) found → RemoveNextFits k (remove_learn at found)
  remove_on bin item RemoveAt.Forward found fits finds = finds
  remove_on bin item (RemoveAt.Backward forward) found fits finds = (fits, finds)
  remove_on bin item (RemoveAt.Skip forward backward) found fits finds =
      skip_back_fits backward (link_of forward) fits.1 fits.0
  remove_on bin item (RemoveAt.SkipBack behind backward) found fits finds = tt

  pub win_on : (c : WinCall) (at : WinAt) (found : ℕ) → Finds k (win_course c at) found
      → WinNextFits k c (win_learn c at found)
  win_on c WinAt.First found finds = choose (WinNextFits k c) (eqb found (free_word c)) _ _ tt finds
  win_on c WinAt.Second found finds = choose (WinNextFits k c) (eqb found (free_word c)) _ _ tt tt
  win_on c WinAt.Back found finds = tt

module _ (k : Key) (key : IsKey k) where
  pub insert_fits : (bin item : ℕ) (at : InsertAt) → bin < bin_count → item < granules_end k → InsertFits k at
      → ActionFits k (insert_course (in_bin bin item) at)
  insert_fits bin item InsertAt.Head low below fits = loads low
  insert_fits bin item (InsertAt.Forward head) low below fits = stores_in (is_granule k item below) fits
  insert_fits bin item (InsertAt.Backward head) low below fits = stores_in (is_granule k item below) (end_fits k key)
  insert_fits bin item (InsertAt.OldBackward old) low below fits =
      stores_in (is_granule k old fits) (link_fits k key item below)
  insert_fits bin item InsertAt.NewHead low below fits = stores_in low (link_fits k key item below)

  skip_fits : (bin item forward : ℕ) (before : Option ℕ) → bin < bin_count → LinkFits k forward
      → IsBelow (granules_end k) before → ActionFits k (skip_course (in_bin bin item) forward before)
  skip_fits bin item forward None low fits below = stores_in low fits
  skip_fits bin item forward (Some before) low fits below = stores_in (is_granule k before below) fits

  pub remove_fits : (bin item : ℕ) (at : RemoveAt) → bin < bin_count → item < granules_end k → RemoveFits k at
      → ActionFits k (remove_course (in_bin bin item) at)
  remove_fits bin item RemoveAt.Forward low below fits = loads (is_granule k item below)
  remove_fits bin item (RemoveAt.Backward forward) low below fits = loads (is_granule k item below)
  remove_fits bin item (RemoveAt.Skip forward backward) low below fits =
      skip_fits bin item forward (link_of backward) low fits.0 fits.1
  remove_fits bin item (RemoveAt.SkipBack behind backward) low below fits =
      stores_in (is_granule k behind fits.0) fits.1

  side_valid : (c : WinCall) (side : Side) → WinFits k c → Valid k (guard_at c side)
  side_valid c Side.Begin fits = is_guard k c.begin (let b = fits.block.begins in omega arith)
  side_valid c Side.End fits = is_guard k c.end (let b = fits.block.ends in let e = fits.ends in omega arith)

  side_free : (c : WinCall) (side : Side) → WinFits k c → ValueFits k (guard_at c side) (free_word c)
  side_free c Side.Begin fits = free_size k key c.granules c.begin fits.block
  side_free c Side.End fits =
      let b = fits.block in
      let e = fits.ends in
      free_left k key c.granules c.end (record {
        long = omega arith;
        block = subst (IsBlock k c.granules) (let same : c.begin ≡ c.end - c.granules = omega arith in same) b;
      })

  pub side_taken : (c : WinCall) (side : Side) (taking : Taking)
      → ValueFits k (guard_at c side) (taken_word taking)
  side_taken c Side.Begin Taking.ForUse = used_size k key c.begin
  side_taken c Side.Begin Taking.ToJoin = joining_size k key c.begin
  side_taken c Side.End Taking.ForUse = used_left k key c.end
  side_taken c Side.End Taking.ToJoin = joining_left k key c.end

  pub win_fits : (c : WinCall) (at : WinAt) → WinFits k c → ActionFits k (win_course c at)
  win_fits c WinAt.First fits = exchanges (side_valid c c.first fits) (side_taken c c.first c.taking)
  win_fits c WinAt.Second fits =
      exchanges (side_valid c (other_side c.first) fits) (side_taken c (other_side c.first) c.taking)
  win_fits c WinAt.Back fits = stores_in (side_valid c c.first fits) (side_free c c.first fits)

  pub block_end_is : (b : Block) → HasBlock k b → block_end b ≡ b.first + b.granules
  block_end_is b is = end_is k key b.granules b.first is

  pub end_there : (b : Block) → HasBlock k b → block_end b ≤ granules_end k
  end_there b is = let e = block_end_is b is in let ends = is.ends in omega arith

  pub ends_block : (b : Block) → HasBlock k b → EndsBlock k b.granules (block_end b)
  ends_block b is =
      let e = block_end_is b is in
      record {
        long = omega arith;
        block = subst (IsBlock k b.granules) (let same : b.first ≡ block_end b - b.granules = omega arith in same) is;
      }

  pub bin_fits : (c : BinCall) (at : BinAt) → c.seat < k.seats → HasBlock k c.block → BinFits k at
      → ActionFits k (bin_course c at)
  bin_fits c BinAt.Lock seat is fits = exchanges (bin_low c.block.granules) (lock_fits k key c.seat seat)
  bin_fits c BinAt.Size seat is fits =
      stores_in (is_guard k c.block.first (let b = is.begins in omega arith))
      (free_size k key c.block.granules c.block.first is)
  bin_fits c BinAt.Left seat is fits = stores_in (is_guard k (block_end c.block) (end_there c.block is))
      (free_left k key c.block.granules (block_end c.block) (ends_block c.block is))
  bin_fits c (BinAt.Insert at) seat is fits =
      insert_fits (bin_of c.block.granules) c.block.first at (bin_low c.block.granules) is.begins fits
  bin_fits c (BinAt.Out at) seat is fits =
      remove_fits (bin_of c.block.granules) c.block.first at (bin_low c.block.granules) is.begins fits
  bin_fits c BinAt.Unlock seat is fits = stores_in (bin_low c.block.granules) (free_fits k key)

  job_fits : (job : BinJob) → BinNextFits k (job_begins job)
  job_fits BinJob.Insert = tt
  job_fits BinJob.Unlink = tt

  tried_fits : (c : BinCall) (next : LockNext) → BinNextFits k (lock_tried c next)
  tried_fits c LockNext.Won = job_fits c.job
  tried_fits c LockNext.Waits = tt

  insert_next : (next : InsertNext) → InsertNextFits k next → BinNextFits k (insert_goes next)
  insert_next (InsertNext.Goes at) fits = fits
  insert_next InsertNext.Inserted fits = tt

  remove_next : (next : RemoveNext) → RemoveNextFits k next → BinNextFits k (out_goes next)
  remove_next (RemoveNext.Goes at) fits = fits
  remove_next RemoveNext.Out fits = tt

  pub bin_on : (c : BinCall) (at : BinAt) (found : ℕ) → BinFits k at → Finds k (bin_course c at) found
      → BinNextFits k (bin_learn c at found)
  bin_on c BinAt.Lock found fits finds = tried_fits c (lock_learn (bin_lock c) found)
  bin_on c BinAt.Size found fits finds = tt
  bin_on c BinAt.Left found fits finds = tt
  bin_on c (BinAt.Insert at) found fits finds =
      insert_next (insert_learn at found) (insert_on k (bin_of c.block.granules) c.block.first at found fits finds)
  bin_on c (BinAt.Out at) found fits finds =
      remove_next (remove_learn at found) (remove_on k (bin_of c.block.granules) c.block.first at found fits finds)
  bin_on c BinAt.Unlock found fits finds = tt
