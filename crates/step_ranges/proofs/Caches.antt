-- Gets, undos, puts and sweeps of the cache.
use Rattle.std.proofs.Common.{List, None, Option, Some, [], arith, ℕ, ◌<◌, ◌≡◌}
use Rattle.std.specs.Prelude.{nat_le, ⊤, ◌==◌}
use Rattle.pool_words.specs.Actions.{finds}
use Rattle.pool_words.specs.Words.{cache_counts}
use Rattle.pool_words.specs.declared.words.Key.{Key}
use Rattle.pool_words.specs.declared.words.Word.{Word}
use Rattle.word_codes.specs.Links.{link_of}
use Rattle.backend_bins.specs.Blocks.{fits}
use Rattle.large_cache.specs.Get.{get_course, get_headed, get_learn, get_unlocked, hit_course, hit_learn}
use Rattle.large_cache.specs.Keep.{keep_course, keep_headed, keep_learn, keep_released, keep_walked}
use Rattle.large_cache.specs.List.{cut_behind}
use Rattle.large_cache.specs.Sweep.{judge_course, judge_learn, sweep_aged, sweep_begun, sweep_counted}
use Rattle.large_cache.specs.Sweep.{sweep_course, sweep_headed, sweep_is_stale, sweep_learn, sweep_meant}
use Rattle.large_cache.specs.Sweep.{sweep_set, sweep_walked}
use Rattle.large_cache.specs.Undo.{undo_course}
use Rattle.large_cache.specs.declared.get.CacheCall.{CacheCall}
use Rattle.large_cache.specs.declared.get.GetAt.{GetAt}
use Rattle.large_cache.specs.declared.get.GetNext.{GetNext}
use Rattle.large_cache.specs.declared.get.HitAt.{HitAt}
use Rattle.large_cache.specs.declared.keep.KeepAt.{KeepAt}
use Rattle.large_cache.specs.declared.keep.KeepCall.{KeepCall}
use Rattle.large_cache.specs.declared.keep.KeepNext.{KeepNext}
use Rattle.large_cache.specs.declared.keep.Tail.{Tail}
use Rattle.large_cache.specs.declared.sweep.Cleanup.{Cleanup}
use Rattle.large_cache.specs.declared.sweep.JudgeAt.{JudgeAt}
use Rattle.large_cache.specs.declared.sweep.SweepAt.{SweepAt}
use Rattle.large_cache.specs.declared.sweep.SweepCall.{SweepCall}
use Rattle.large_cache.specs.declared.sweep.SweepNext.{SweepNext}
use Rattle.large_cache.specs.declared.sweep.Walk.{Walk}
use Rattle.large_cache.specs.declared.undo.UndoAt.{UndoAt}
use Rattle.word_laws.specs.Memory.{Valid}
use Rattle.step_ranges.proofs.Codes.{block_fits, end_fits, exchanges, free_fits, loads, lock_fits}
use Rattle.step_ranges.proofs.Codes.{no_block_fits, stores_in}
use Rattle.step_ranges.proofs.Numbers.{choose, is_granule}
use Rattle.step_ranges.proofs.Rolls.{none_holds}
use Rattle.step_ranges.specs.Jobs.{GetFits, GetLeads, HitFits, HitLeads, KeepFits, KeepLeads, LinkFits}
use Rattle.step_ranges.specs.Jobs.{SweepFits, SweepLeads, TailFits, WalkFits}
use Rattle.step_ranges.specs.Locals.{AreReleased, SweepReleased}
use Rattle.step_ranges.specs.Ranges.{ActionFits, Finds, IsBelow, IsBlock, IsBlockIf, IsKey, granules_end}
use Rattle.std.proofs.lemmas.List.Elements.{All-nil}
use Rattle.cache_ages.specs.Times.{most_items, soft_threshold}

abbrev pub GetNextFits : Key → ℕ → GetNext → Type 0
GetNextFits k granules (GetNext.Goes at) = GetFits k granules at
GetNextFits k granules GetNext.Waits = ⊤
GetNextFits k granules (GetNext.Took block) = IsBlock k granules block
GetNextFits k granules GetNext.Missed = ⊤

abbrev pub KeepNextFits : Key → ℕ → KeepNext → Type 0
KeepNextFits k granules (KeepNext.Goes at) = KeepFits k granules at
KeepNextFits k granules KeepNext.Waits = ⊤
KeepNextFits k granules (KeepNext.Kept released) = IsBlockIf k granules released

-- a position of a sweep, by the blocks that the bin gave
abbrev pub SweepHas : Key → List ℕ → ℕ → SweepAt → Type 0
SweepHas k released granules at = SweepReleased k released granules at × SweepFits k granules at

abbrev pub SweepGoes : Key → List ℕ → ℕ → SweepNext → Type 0
SweepGoes k released granules (SweepNext.Goes at) = SweepHas k released granules at
SweepGoes k released granules (SweepNext.Stays at) = SweepHas k [] granules at
SweepGoes k released granules (SweepNext.Stale block at) = AreReleased k granules released × IsBlock k granules block
    × ((more : List ℕ) → AreReleased k granules more → SweepHas k more granules at)
SweepGoes k released granules SweepNext.Waits = ⊤
SweepGoes k released granules (SweepNext.Began time) = released ≡ []
SweepGoes k released granules SweepNext.Passed = released ≡ []
SweepGoes k released granules SweepNext.Swept = AreReleased k granules released

module _ (k : Key) (key : IsKey k) where
  below_of : (granules : ℕ) (one : Option ℕ) → IsBlockIf k granules one → IsBelow (granules_end k) one
  below_of granules None fits = tt
  below_of granules (Some block) fits = fits.begins

  cut_behind_fits : (granules : ℕ) (kept : Option ℕ) → granules < cache_counts → IsBelow (granules_end k) kept
      → ActionFits k (cut_behind granules kept)
  cut_behind_fits granules None low below = stores_in low (no_block_fits k key granules)
  cut_behind_fits granules (Some kept) low below = stores_in (is_granule k kept below) (end_fits k key)

  -- a get
  hit_fits : (c : CacheCall) (at : HitAt) → c.granules < cache_counts → HitFits k c.granules at
      → ActionFits k (hit_course c at)
  hit_fits c (HitAt.Link items block) low fits = loads (is_granule k block fits.begins)
  hit_fits c (HitAt.Age items block link) low fits = loads (is_granule k block fits.0.begins)
  hit_fits c (HitAt.Mean items block link age) low fits = loads low
  hit_fits c (HitAt.Pop newest) low fits = stores_in low fits.1
  hit_fits c (HitAt.SetItems newest) low fits = stores_in low tt
  hit_fits c (HitAt.SetMean newest) low fits = stores_in low tt

  pub get_fits : (c : CacheCall) (at : GetAt) → c.seat < k.seats → c.granules < cache_counts
      → GetFits k c.granules at → ActionFits k (get_course c at)
  get_fits c GetAt.Lock seat low fits = exchanges low (lock_fits k key c.seat seat)
  get_fits c GetAt.Items seat low fits = loads low
  get_fits c (GetAt.Head items) seat low fits = loads low
  get_fits c (GetAt.Hit at) seat low fits = hit_fits c at low fits
  get_fits c GetAt.Cleaned seat low fits = loads low
  get_fits c (GetAt.SetThreshold cleaned) seat low fits = stores_in low tt
  get_fits c GetAt.ClearCleaned seat low fits = stores_in low tt
  get_fits c (GetAt.SetTime block) seat low fits = stores_in low tt
  get_fits c (GetAt.Used block) seat low fits = loads low
  get_fits c (GetAt.SetUsed block used) seat low fits = stores_in low tt
  get_fits c (GetAt.Unlock block) seat low fits = stores_in low (free_fits k key)

  -- the link that is loaded leads to a block as long as the bin's
  hit_on : (c : CacheCall) (at : HitAt) (found : ℕ) → HitFits k c.granules at → HitLeads k c.granules at found
      → GetFits k c.granules (hit_learn at found)
  hit_on c (HitAt.Link items block) found fits leads = (fits, leads)
  hit_on c (HitAt.Age items block link) found fits leads = fits
  hit_on c (HitAt.Mean items block link age) found fits leads = fits
  hit_on c (HitAt.Pop newest) found fits leads = fits.0
  hit_on c (HitAt.SetItems newest) found fits leads = fits
  hit_on c (HitAt.SetMean newest) found fits leads = fits

  headed_next : (granules items : ℕ) (one : Option ℕ) → IsBlockIf k granules one
      → GetFits k granules (get_headed items one)
  headed_next granules items None fits = tt
  headed_next granules items (Some block) fits = fits

  get_unlocked_next : (granules : ℕ) (one : Option ℕ) → IsBlockIf k granules one
      → GetNextFits k granules (get_unlocked one)
  get_unlocked_next granules None fits = tt
  get_unlocked_next granules (Some block) fits = fits

  pub get_on : (c : CacheCall) (at : GetAt) (found : ℕ) → GetFits k c.granules at → Finds k (get_course c at) found
      → GetLeads k c.granules at found → GetNextFits k c.granules (get_learn at found)
  get_on c GetAt.Lock found fits finds leads = choose (GetNextFits k c.granules) (found == 0) _ _ tt tt
  get_on c GetAt.Items found fits finds leads = choose (GetFits k c.granules) (found == 0) _ _ tt tt
  get_on c (GetAt.Head items) found fits finds leads = headed_next c.granules items (link_of found) finds
  get_on c (GetAt.Hit at) found fits finds leads = hit_on c at found fits leads
  get_on c GetAt.Cleaned found fits finds leads = choose (GetFits k c.granules) (found == 0) _ _ tt tt
  get_on c (GetAt.SetThreshold cleaned) found fits finds leads = tt
  get_on c GetAt.ClearCleaned found fits finds leads = tt
  get_on c (GetAt.SetTime block) found fits finds leads = fits
  get_on c (GetAt.Used block) found fits finds leads = fits
  get_on c (GetAt.SetUsed block used) found fits finds leads = fits
  get_on c (GetAt.Unlock block) found fits finds leads = get_unlocked_next c.granules block fits

  -- an undo
  pub undo_fits : (c : CacheCall) (at : UndoAt) → c.seat < k.seats → c.granules < cache_counts
      → ActionFits k (undo_course c at)
  undo_fits c UndoAt.Lock seat low = exchanges low (lock_fits k key c.seat seat)
  undo_fits c UndoAt.Used seat low = loads low
  undo_fits c (UndoAt.SetUsed used) seat low = stores_in low tt
  undo_fits c UndoAt.Unlock seat low = stores_in low (free_fits k key)

  -- a put
  pub keep_fits : (c : KeepCall) (at : KeepAt) → c.seat < k.seats → c.granules < cache_counts
      → IsBlock k c.granules c.block → KeepFits k c.granules at → ActionFits k (keep_course c at)
  keep_fits c KeepAt.Lock seat low b fits = exchanges low (lock_fits k key c.seat seat)
  keep_fits c KeepAt.Items seat low b fits = loads low
  keep_fits c (KeepAt.Head items) seat low b fits = loads low
  keep_fits c (KeepAt.Walk tail) seat low b fits = loads (is_granule k tail.block fits.block.begins)
  keep_fits c (KeepAt.OldAge tail) seat low b fits = loads (is_granule k tail.block fits.block.begins)
  keep_fits c (KeepAt.Cut tail age) seat low b fits = cut_behind_fits c.granules tail.before low fits.before
  keep_fits c (KeepAt.SetCleaned tail age) seat low b fits = stores_in low tt
  keep_fits c (KeepAt.SetLink items head released) seat low b fits =
      stores_in (is_granule k c.block b.begins) fits.0
  keep_fits c (KeepAt.SetAge items released) seat low b fits = stores_in (is_granule k c.block b.begins) tt
  keep_fits c (KeepAt.SetHead items released) seat low b fits =
      stores_in low (block_fits k key c.granules c.block b)
  keep_fits c (KeepAt.SetItems items released) seat low b fits = stores_in low tt
  keep_fits c (KeepAt.Used released) seat low b fits = loads low
  keep_fits c (KeepAt.SetUsed released used) seat low b fits = stores_in low tt
  keep_fits c (KeepAt.Unlock released) seat low b fits = stores_in low (free_fits k key)

  keep_headed_next : (granules items head : ℕ) (one : Option ℕ) → LinkFits k head → IsBlockIf k granules one
      → KeepFits k granules (keep_headed items head one)
  keep_headed_next granules items head None fits is = (fits, tt)
  keep_headed_next granules items head (Some block) fits is =
      choose (KeepFits k granules) (nat_le most_items items) _ _
      (record { head = fits; before = tt; block = is }) (fits, tt)

  keep_walked_next : (granules : ℕ) (tail : Tail) (one : Option ℕ) → TailFits k granules tail
      → IsBlockIf k granules one → KeepFits k granules (keep_walked tail one)
  keep_walked_next granules tail None fits is = fits
  keep_walked_next granules tail (Some block) fits is =
      record { head = fits.head; before = fits.block.begins; block = is }

  keep_released_next : (granules : ℕ) (tail : Tail) (before : Option ℕ) → TailFits k granules tail
      → KeepFits k granules (keep_released tail before)
  keep_released_next granules tail None fits = (end_fits k key, fits.block)
  keep_released_next granules tail (Some before) fits = (fits.head, fits.block)

  pub keep_on : (c : KeepCall) (at : KeepAt) (found : ℕ) → KeepFits k c.granules at → Finds k (keep_course c at) found
      → KeepLeads k c.granules at found → KeepNextFits k c.granules (keep_learn at found)
  keep_on c KeepAt.Lock found fits finds leads = choose (KeepNextFits k c.granules) (found == 0) _ _ tt tt
  keep_on c KeepAt.Items found fits finds leads = tt
  keep_on c (KeepAt.Head items) found fits finds leads =
      keep_headed_next c.granules items found (link_of found) (below_of c.granules (link_of found) finds) finds
  keep_on c (KeepAt.Walk tail) found fits finds leads = keep_walked_next c.granules tail (link_of found) fits leads
  keep_on c (KeepAt.OldAge tail) found fits finds leads = fits
  keep_on c (KeepAt.Cut tail age) found fits finds leads = fits
  keep_on c (KeepAt.SetCleaned tail age) found fits finds leads =
      keep_released_next c.granules tail tail.before fits
  keep_on c (KeepAt.SetLink items head released) found fits finds leads = fits.1
  keep_on c (KeepAt.SetAge items released) found fits finds leads = fits
  keep_on c (KeepAt.SetHead items released) found fits finds leads = fits
  keep_on c (KeepAt.SetItems items released) found fits finds leads = fits
  keep_on c (KeepAt.Used released) found fits finds leads = fits
  keep_on c (KeepAt.SetUsed released used) found fits finds leads = fits
  keep_on c (KeepAt.Unlock released) found fits finds leads = fits

  -- a sweep
  judge_fits : (granules : ℕ) (at : JudgeAt) → granules < cache_counts → ActionFits k (judge_course granules at)
  judge_fits granules (JudgeAt.Threshold count) low = loads low
  judge_fits granules (JudgeAt.Mean count threshold) low = loads low
  judge_fits granules (JudgeAt.Get count threshold mean) low = loads low
  judge_fits granules (JudgeAt.Used count threshold mean get) low = loads low

  pub sweep_fits : (c : SweepCall) (at : SweepAt) → c.seat < k.seats → c.granules < cache_counts
      → SweepFits k c.granules at → ActionFits k (sweep_course c at)
  sweep_fits c SweepAt.Clock seat low fits = loads one
    where
      one : Valid k Word.Clock
      one = omega arith
  sweep_fits c SweepAt.Peek seat low fits = loads low
  sweep_fits c SweepAt.Lock seat low fits = exchanges low (lock_fits k key c.seat seat)
  sweep_fits c SweepAt.Items seat low fits = loads low
  sweep_fits c (SweepAt.Judge at) seat low fits = judge_fits c.granules at low
  sweep_fits c (SweepAt.SetThreshold count threshold) seat low fits = stores_in low tt
  sweep_fits c (SweepAt.Head count threshold) seat low fits = loads low
  sweep_fits c (SweepAt.Age walk) seat low fits = loads (is_granule k walk.block fits.block.begins)
  sweep_fits c (SweepAt.Link walk) seat low fits = loads (is_granule k walk.block fits.block.begins)
  sweep_fits c (SweepAt.Cut walk) seat low fits = cut_behind_fits c.granules walk.kept low fits.kept
  sweep_fits c (SweepAt.SetItems walk) seat low fits = stores_in low tt
  sweep_fits c (SweepAt.SetCleaned walk) seat low fits = stores_in low tt
  sweep_fits c SweepAt.Unlock seat low fits = stores_in low (free_fits k key)

  module _ (released : List ℕ) (granules : ℕ) (are : AreReleased k granules released) where
    abbrev Has : SweepAt → Type 0
    Has at = SweepHas k released granules at

    begun_next : (cleanup : Cleanup) (count : ℕ) → Has (sweep_begun cleanup count)
    begun_next Cleanup.Regular count = (are, tt)
    begun_next Cleanup.Soft count = (are, tt)
    begun_next Cleanup.Hard count = (are, tt)

    counted_next : (cleanup : Cleanup) (count : ℕ) → Has (sweep_counted cleanup count)
    counted_next cleanup count = choose Has (count == 0) _ _ (are, tt) (begun_next cleanup count)

    set_next : (count old threshold : ℕ) → Has (sweep_set count old threshold)
    set_next count old threshold = choose Has (threshold == old) _ _ (are, tt) (are, tt)

    meant_next : (cleanup : Cleanup) (count threshold mean : ℕ) → Has (sweep_meant cleanup count threshold mean)
    meant_next Cleanup.Regular count threshold mean = (are, tt)
    meant_next Cleanup.Soft count threshold mean = set_next count threshold (soft_threshold threshold mean)
    meant_next Cleanup.Hard count threshold mean = (are, tt)

    judge_next : (c : SweepCall) (at : JudgeAt) (found : ℕ) → Has (judge_learn c at found)
    judge_next c (JudgeAt.Threshold count) found = (are, tt)
    judge_next c (JudgeAt.Mean count threshold) found = meant_next c.cleanup count threshold found
    judge_next c (JudgeAt.Get count threshold mean) found = (are, tt)
    judge_next c (JudgeAt.Used count threshold mean get) found = set_next count threshold _

    sweep_headed_next : (count threshold : ℕ) (one : Option ℕ) → IsBlockIf k granules one
        → Has (sweep_headed count threshold one)
    sweep_headed_next count threshold None is = (are, tt)
    sweep_headed_next count threshold (Some block) is = (are, record { block = is; kept = tt })

    sweep_walked_next : (walk : Walk) (one : Option ℕ) → WalkFits k granules walk → IsBlockIf k granules one
        → Has (sweep_walked walk one)
    sweep_walked_next walk None fits is = choose Has (walk.stale == 0) _ _ (are, tt) (are, fits)
    sweep_walked_next walk (Some block) fits is = (are, record { block = is; kept = fits.kept })

  aged_next : (c : SweepCall) (released : List ℕ) (walk : Walk) (age : ℕ) → AreReleased k c.granules released
      → WalkFits k c.granules walk → SweepGoes k released c.granules (sweep_aged c walk age)
  aged_next c released walk age are fits =
      choose (SweepGoes k released c.granules) (sweep_is_stale c.cleanup c.time walk.threshold age) _ _
      (are, fits.block, λ more all. (all, record { block = fits.block; kept = fits.kept }))
      (All-nil (IsBlock k c.granules), record { block = fits.block; kept = fits.block.begins })

  pub sweep_on : (c : SweepCall) (released : List ℕ) (at : SweepAt) (found : ℕ)
      → SweepReleased k released c.granules at → SweepFits k c.granules at → Finds k (sweep_course c at) found
      → SweepLeads k c.granules at found → SweepGoes k released c.granules (sweep_learn c at found)
  sweep_on c released SweepAt.Clock found none fits finds leads = none
  sweep_on c released SweepAt.Peek found none fits finds leads =
      choose (SweepGoes k released c.granules) (found == 0) _ _ none
      (none_holds (IsBlock k c.granules) released none, tt)
  sweep_on c released SweepAt.Lock found are fits finds leads =
      choose (SweepGoes k released c.granules) (found == 0) _ _ (are, tt) tt
  sweep_on c released SweepAt.Items found are fits finds leads = counted_next released c.granules are c.cleanup found
  sweep_on c released (SweepAt.Judge at) found are fits finds leads = judge_next released c.granules are c at found
  sweep_on c released (SweepAt.SetThreshold count threshold) found are fits finds leads = (are, tt)
  sweep_on c released (SweepAt.Head count threshold) found are fits finds leads =
      sweep_headed_next released c.granules are count threshold (link_of found) finds
  sweep_on c released (SweepAt.Age walk) found are fits finds leads = aged_next c released walk found are fits
  sweep_on c released (SweepAt.Link walk) found are fits finds leads =
      sweep_walked_next released c.granules are walk (link_of found) fits leads
  sweep_on c released (SweepAt.Cut walk) found are fits finds leads = (are, fits)
  sweep_on c released (SweepAt.SetItems walk) found are fits finds leads = (are, fits)
  sweep_on c released (SweepAt.SetCleaned walk) found are fits finds leads = (are, tt)
  sweep_on c released SweepAt.Unlock found are fits finds leads = are
