-- What a get and an undo make of their bin, and what they have noted of it.
use Rattle.std.specs.Prelude.{◌≡◌, ◌≢◌, ℕ, ◌+◌, ◌-◌, Option, Some, None, List, [], ◌∷◌, ⊤}
use Rattle.cache_ages.specs.Times.{span_between, mean_after_hit, threshold_after_miss}
use Rattle.pool_types.specs.Sums.{capped}
use Rattle.large_cache.specs.declared.get.Newest.{Newest}
use Rattle.large_cache.specs.declared.get.HitAt.{HitAt}
use Rattle.large_cache.specs.declared.get.GetAt.{GetAt}
use Rattle.large_cache.specs.declared.undo.UndoAt.{UndoAt}
use Rattle.cache_laws.specs.Bins.{Item, Bin, word_of}

-- the bin after a get that has found these blocks
abbrev pub got : ℕ → Bin → List Item → Bin
got time bin [] = record bin {
  used = capped (bin.used + 1);
  threshold = threshold_after_miss bin.threshold bin.cleaned time;
  get = time;
  cleaned = 0;
}
got time bin (x ∷ xs) = record bin {
  count = bin.count - 1;
  used = capped (bin.used + 1);
  mean = mean_after_hit bin.mean (span_between x.age time);
  get = time;
  items = xs;
}

abbrev pub get_done : ℕ → Bin → Bin
get_done time bin = got time bin bin.items

-- the block that a get takes
abbrev pub taken_of : List Item → Option ℕ
taken_of [] = None
taken_of (x ∷ xs) = Some x.block

-- what the bin's words say at each position of a get: some are those after it already
abbrev pub hit_stage : ℕ → Bin → HitAt → Bin
hit_stage time bin (HitAt.Link items block) = bin
hit_stage time bin (HitAt.Age items block link) = bin
hit_stage time bin (HitAt.Mean items block link age) = bin
hit_stage time bin (HitAt.Pop newest) = bin
hit_stage time bin (HitAt.SetItems newest) = record bin { items = (get_done time bin).items }
hit_stage time bin (HitAt.SetMean newest) =
    record bin { count = (get_done time bin).count; items = (get_done time bin).items }

abbrev pub get_stage : ℕ → Bin → GetAt → Bin
get_stage time bin GetAt.Lock = bin
get_stage time bin GetAt.Items = bin
get_stage time bin (GetAt.Head items) = bin
get_stage time bin (GetAt.Hit at) = hit_stage time bin at
get_stage time bin GetAt.Cleaned = bin
get_stage time bin (GetAt.SetThreshold cleaned) = bin
get_stage time bin GetAt.ClearCleaned = record bin { threshold = (get_done time bin).threshold }
get_stage time bin (GetAt.SetTime block) = record (get_done time bin) { used = bin.used; get = bin.get }
get_stage time bin (GetAt.Used block) = record (get_done time bin) { used = bin.used }
get_stage time bin (GetAt.SetUsed block used) = record (get_done time bin) { used = bin.used }
get_stage time bin (GetAt.Unlock block) = get_done time bin

abbrev pub IsEmpty : List Item → Type 0
IsEmpty [] = ⊤
IsEmpty (x ∷ xs) = ⊥

abbrev pub HasItems : List Item → Type 0
HasItems [] = ⊥
HasItems (x ∷ xs) = ⊤

abbrev pub newest_of : Bin → Item → List Item → Newest
newest_of bin x xs = record {
  items = bin.count;
  block = x.block;
  link = word_of xs;
  age = x.age;
  mean = bin.mean;
}

-- what a get that takes a block has noted, at a bin with these blocks
abbrev pub HitNoted : Bin → List Item → HitAt → Type 0
HitNoted bin [] at = ⊥
HitNoted bin (x ∷ xs) (HitAt.Link items block) = (items ≡ bin.count) × (block ≡ x.block)
HitNoted bin (x ∷ xs) (HitAt.Age items block link) =
    (items ≡ bin.count) × (block ≡ x.block) × (link ≡ word_of xs)
HitNoted bin (x ∷ xs) (HitAt.Mean items block link age) =
    (items ≡ bin.count) × (block ≡ x.block) × (link ≡ word_of xs) × (age ≡ x.age)
HitNoted bin (x ∷ xs) (HitAt.Pop newest) = newest ≡ newest_of bin x xs
HitNoted bin (x ∷ xs) (HitAt.SetItems newest) = newest ≡ newest_of bin x xs
HitNoted bin (x ∷ xs) (HitAt.SetMean newest) = newest ≡ newest_of bin x xs

-- what a get has noted: numbers of the bin as they were when it took the lock
abbrev pub GetNoted : Bin → GetAt → Type 0
GetNoted bin GetAt.Lock = ⊤
GetNoted bin GetAt.Items = ⊤
GetNoted bin (GetAt.Head items) = (items ≡ bin.count) × HasItems bin.items
GetNoted bin (GetAt.Hit at) = HitNoted bin bin.items at
GetNoted bin GetAt.Cleaned = IsEmpty bin.items
GetNoted bin (GetAt.SetThreshold cleaned) = IsEmpty bin.items × (cleaned ≡ bin.cleaned) × (cleaned ≢ 0)
GetNoted bin GetAt.ClearCleaned = IsEmpty bin.items
GetNoted bin (GetAt.SetTime block) = block ≡ taken_of bin.items
GetNoted bin (GetAt.Used block) = block ≡ taken_of bin.items
GetNoted bin (GetAt.SetUsed block used) = (block ≡ taken_of bin.items) × (used ≡ bin.used)
GetNoted bin (GetAt.Unlock block) = block ≡ taken_of bin.items

-- the bin after an undo
abbrev pub undo_done : Bin → Bin
undo_done bin = record bin { used = bin.used - 1 }

abbrev pub undo_stage : Bin → UndoAt → Bin
undo_stage bin UndoAt.Lock = bin
undo_stage bin UndoAt.Used = bin
undo_stage bin (UndoAt.SetUsed used) = bin
undo_stage bin UndoAt.Unlock = undo_done bin

abbrev pub UndoNoted : Bin → UndoAt → Type 0
UndoNoted bin UndoAt.Lock = ⊤
UndoNoted bin UndoAt.Used = ⊤
UndoNoted bin (UndoAt.SetUsed used) = used ≡ bin.used
UndoNoted bin UndoAt.Unlock = ⊤
