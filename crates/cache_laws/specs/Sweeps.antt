-- What a sweep makes of its bin, and what it has noted of it.
use Rattle.std.specs.Prelude.{◌≡◌, ◌⊎◌, ℕ, ◌-◌, Bool, true, false, cond, ◌==◌, None, List, [], ◌∷◌, ◌++◌}
use Rattle.std.specs.Prelude.{length, take, drop, slice_index, ⊤}
use Rattle.std.specs.List.{suffix_len}
use Rattle.cache_ages.specs.declared.times.Usage.{Usage}
use Rattle.cache_ages.specs.Times.{regular_threshold, soft_threshold}
use Rattle.large_cache.specs.declared.sweep.Cleanup.{Cleanup}
use Rattle.large_cache.specs.declared.sweep.Walk.{Walk}
use Rattle.large_cache.specs.declared.sweep.JudgeAt.{JudgeAt}
use Rattle.large_cache.specs.declared.sweep.SweepAt.{SweepAt}
use Rattle.large_cache.specs.Sweep.{sweep_is_stale}
use Rattle.cache_laws.specs.Gets.{HasItems}
use Rattle.cache_laws.specs.Bins.{Item, Bin, blocks_of, ages_of, last_block}

abbrev pub usage_in : Bin → Usage
usage_in bin = record {
  count = bin.count;
  used = bin.used;
  mean = bin.mean;
  threshold = bin.threshold;
  get = bin.get;
}

-- the threshold by which a cleanup judges the bin
abbrev pub threshold_at : Cleanup → ℕ → Bin → ℕ
threshold_at Cleanup.Regular time bin = regular_threshold (usage_in bin) time
threshold_at Cleanup.Soft time bin = soft_threshold bin.threshold bin.mean
threshold_at Cleanup.Hard time bin = bin.threshold

abbrev pub judged : Cleanup → ℕ → Bin → Bin
judged cleanup time bin = record bin { threshold = threshold_at cleanup time bin }

abbrev pub goes_at : Cleanup → ℕ → Bin → ℕ → Bool
goes_at cleanup time bin age = sweep_is_stale cleanup time (threshold_at cleanup time bin) age

-- how many of the oldest go
abbrev pub count_gone : Cleanup → ℕ → Bin → ℕ
count_gone cleanup time bin = suffix_len (goes_at cleanup time bin) (ages_of bin.items)

-- the bin without so many of its oldest blocks
abbrev pub without_oldest : ℕ → Bin → Bin
without_oldest n bin = record bin {
  count = bin.count - n;
  cleaned = cond (n == 0) bin.cleaned (slice_index (ages_of bin.items) (length bin.items - n));
  items = take (length bin.items - n) bin.items;
}

abbrev pub cut_bin : Cleanup → ℕ → Bin → Bin
cut_bin cleanup time bin = without_oldest (count_gone cleanup time bin) (judged cleanup time bin)

-- the bin after a sweep; one without a block stays as it is
abbrev pub swept : Cleanup → ℕ → Bin → List Item → Bin
swept cleanup time bin [] = bin
swept cleanup time bin (x ∷ xs) = cut_bin cleanup time bin

abbrev pub sweep_done : Cleanup → ℕ → Bin → Bin
sweep_done cleanup time bin = swept cleanup time bin bin.items

-- the blocks that a sweep releases, the newest first
abbrev pub gone_of : Cleanup → ℕ → Bin → List ℕ
gone_of cleanup time bin = blocks_of (drop (length bin.items - count_gone cleanup time bin) bin.items)

-- what the bin's words say at each position of a sweep
abbrev pub sweep_stage : Cleanup → ℕ → Bin → SweepAt → Bin
sweep_stage cleanup time bin SweepAt.Clock = bin
sweep_stage cleanup time bin SweepAt.Peek = bin
sweep_stage cleanup time bin SweepAt.Lock = bin
sweep_stage cleanup time bin SweepAt.Items = bin
sweep_stage cleanup time bin (SweepAt.Judge at) = bin
sweep_stage cleanup time bin (SweepAt.SetThreshold count threshold) = bin
sweep_stage cleanup time bin (SweepAt.Head count threshold) = judged cleanup time bin
sweep_stage cleanup time bin (SweepAt.Age walk) = judged cleanup time bin
sweep_stage cleanup time bin (SweepAt.Link walk) = judged cleanup time bin
sweep_stage cleanup time bin (SweepAt.Cut walk) = judged cleanup time bin
sweep_stage cleanup time bin (SweepAt.SetItems walk) =
    record (judged cleanup time bin) { items = (cut_bin cleanup time bin).items }
sweep_stage cleanup time bin (SweepAt.SetCleaned walk) = record (judged cleanup time bin) {
  count = (cut_bin cleanup time bin).count;
  items = (cut_bin cleanup time bin).items;
}
sweep_stage cleanup time bin SweepAt.Unlock = sweep_done cleanup time bin

-- a hard cleanup judges by no number
abbrev pub IsJudging : Cleanup → Type 0
IsJudging Cleanup.Regular = ⊤
IsJudging Cleanup.Soft = ⊤
IsJudging Cleanup.Hard = ⊥

abbrev pub IsRegular : Cleanup → Type 0
IsRegular Cleanup.Regular = ⊤
IsRegular Cleanup.Soft = ⊥
IsRegular Cleanup.Hard = ⊥

abbrev pub JudgeNoted : Cleanup → Bin → JudgeAt → Type 0
JudgeNoted cleanup bin (JudgeAt.Threshold count) = IsJudging cleanup × (count ≡ bin.count)
JudgeNoted cleanup bin (JudgeAt.Mean count threshold) =
    IsJudging cleanup × (count ≡ bin.count) × (threshold ≡ bin.threshold)
JudgeNoted cleanup bin (JudgeAt.Get count threshold mean) =
    IsRegular cleanup × (count ≡ bin.count) × (threshold ≡ bin.threshold) × (mean ≡ bin.mean)
JudgeNoted cleanup bin (JudgeAt.Used count threshold mean get) =
    IsRegular cleanup × (count ≡ bin.count) × (threshold ≡ bin.threshold) × (mean ≡ bin.mean) × (get ≡ bin.get)

-- blocks that are all to go, and blocks of which the oldest stays
abbrev pub AllGo : (ℕ → Bool) → List Item → Type 0
AllGo goes [] = ⊤
AllGo goes (x ∷ xs) = (goes x.age ≡ true) × AllGo goes xs

pub record LastStays (goes : ℕ → Bool) (items : List Item) : Type 0 where
  pub front : List Item
  pub last : Item
  pub is : items ≡ front ++ (last ∷ [])
  pub stays : goes last.age ≡ false

abbrev pub AgeFits : ℕ → List Item → Type 0
AgeFits newest [] = ⊤
AgeFits newest (x ∷ xs) = newest ≡ x.age

-- a sweep has judged all blocks but these last ones: the first of the others stay, and those behind do not
pub record WalkFits (cleanup : Cleanup) (time : ℕ) (bin : Bin) (gone : List ℕ) (walk : Walk) (rest : List Item) :
    Type 0 where
  pub some : HasItems bin.items
  pub counted : walk.count ≡ bin.count
  pub judges : (age : ℕ) → sweep_is_stale cleanup time walk.threshold age ≡ goes_at cleanup time bin age
  pub front : List Item
  pub stale' : List Item
  pub is : bin.items ≡ front ++ (stale' ++ rest)
  pub kept' : walk.kept ≡ last_block None front
  pub many : walk.stale ≡ length stale'
  pub newest' : AgeFits walk.newest stale'
  pub gone' : gone ≡ blocks_of stale'
  pub all : AllGo (goes_at cleanup time bin) stale'
  pub ends : (front ≡ []) ⊎ LastStays (goes_at cleanup time bin) front

-- the block at hand is the next to be judged
pub record AgeNoted (cleanup : Cleanup) (time : ℕ) (bin : Bin) (gone : List ℕ) (walk : Walk) : Type 0 where
  pub item : Item
  pub rest : List Item
  pub here : walk.block ≡ item.block
  pub fits : WalkFits cleanup time bin gone walk (item ∷ rest)

-- the block at hand was judged, and these are behind it
pub record LinkNoted (cleanup : Cleanup) (time : ℕ) (bin : Bin) (gone : List ℕ) (walk : Walk) : Type 0 where
  pub before : List Item
  pub item : Item
  pub rest : List Item
  pub here : walk.block ≡ item.block
  pub fits : WalkFits cleanup time bin gone walk rest
  pub is : bin.items ≡ before ++ (item ∷ rest)

-- all were judged, and some go
pub record CutNoted (cleanup : Cleanup) (time : ℕ) (bin : Bin) (gone : List ℕ) (walk : Walk) : Type 0 where
  pub fits : WalkFits cleanup time bin gone walk []
  pub stale : HasItems fits.stale'

abbrev pub SweepNoted : Cleanup → ℕ → Bin → List ℕ → SweepAt → Type 0
SweepNoted cleanup time bin gone SweepAt.Clock = ⊤
SweepNoted cleanup time bin gone SweepAt.Peek = ⊤
SweepNoted cleanup time bin gone SweepAt.Lock = ⊤
SweepNoted cleanup time bin gone SweepAt.Items = gone ≡ []
SweepNoted cleanup time bin gone (SweepAt.Judge at) = (gone ≡ []) × HasItems bin.items × JudgeNoted cleanup bin at
SweepNoted cleanup time bin gone (SweepAt.SetThreshold count threshold) =
    (gone ≡ []) × HasItems bin.items × (count ≡ bin.count) × (threshold ≡ threshold_at cleanup time bin)
SweepNoted cleanup time bin gone (SweepAt.Head count threshold) =
    (gone ≡ []) × HasItems bin.items × (count ≡ bin.count)
    × ((age : ℕ) → sweep_is_stale cleanup time threshold age ≡ goes_at cleanup time bin age)
SweepNoted cleanup time bin gone (SweepAt.Age walk) = AgeNoted cleanup time bin gone walk
SweepNoted cleanup time bin gone (SweepAt.Link walk) = LinkNoted cleanup time bin gone walk
SweepNoted cleanup time bin gone (SweepAt.Cut walk) = CutNoted cleanup time bin gone walk
SweepNoted cleanup time bin gone (SweepAt.SetItems walk) = CutNoted cleanup time bin gone walk
SweepNoted cleanup time bin gone (SweepAt.SetCleaned walk) = CutNoted cleanup time bin gone walk
SweepNoted cleanup time bin gone SweepAt.Unlock = gone ≡ gone_of cleanup time bin
