-- What a put makes of its bin, and what it has noted of it.
use Rattle.std.specs.Prelude.{◌≡◌, ℕ, ◌+◌, ◌-◌, nat_le, Bool, true, false, Option, None, List, [], ◌∷◌, ◌++◌, take, ⊤}
use Rattle.std.specs.Prelude.{slice_index}
use Rattle.cache_ages.specs.Times.{most_items}
use Rattle.pool_types.specs.Sums.{capped}
use Rattle.large_cache.specs.declared.keep.Tail.{Tail}
use Rattle.large_cache.specs.declared.keep.KeepAt.{KeepAt}
use Rattle.cache_laws.specs.Bins.{Item, Bin, ages_of, word_of, last_block}

-- the bin before a put: one that is full has room, as its oldest block is released
abbrev pub cut_at : Bool → Bin → Bin
cut_at true bin = record bin {
  count = most_items - 1;
  cleaned = slice_index (ages_of bin.items) (most_items - 1);
  items = take (most_items - 1) bin.items;
}
cut_at false bin = bin

abbrev pub is_full : Bin → Bool
is_full bin = nat_le most_items bin.count

abbrev pub cut_of : Bin → Bin
cut_of bin = cut_at (is_full bin) bin

abbrev pub released_at : Bool → List Item → Option ℕ
released_at true items = last_block None items
released_at false items = None

-- the block that a put releases
abbrev pub released_of : Bin → Option ℕ
released_of bin = released_at (is_full bin) bin.items

abbrev pub item_of : ℕ → ℕ → Item
item_of time block = record { block = block; age = time }

abbrev pub keep_done : ℕ → ℕ → Bin → Bin
keep_done time block bin = record (cut_of bin) {
  count = capped ((cut_of bin).count + 1);
  used = bin.used - 1;
  items = item_of time block ∷ (cut_of bin).items;
}

-- what the bin's words say at each position of a put
abbrev pub keep_stage : ℕ → ℕ → Bin → KeepAt → Bin
keep_stage time block bin KeepAt.Lock = bin
keep_stage time block bin KeepAt.Items = bin
keep_stage time block bin (KeepAt.Head items) = bin
keep_stage time block bin (KeepAt.Walk tail) = bin
keep_stage time block bin (KeepAt.OldAge tail) = bin
keep_stage time block bin (KeepAt.Cut tail age) = bin
keep_stage time block bin (KeepAt.SetCleaned tail age) = record bin { items = take (most_items - 1) bin.items }
keep_stage time block bin (KeepAt.SetLink items head released) = record (cut_of bin) { count = bin.count }
keep_stage time block bin (KeepAt.SetAge items released) = record (cut_of bin) { count = bin.count }
keep_stage time block bin (KeepAt.SetHead items released) = record (cut_of bin) { count = bin.count }
keep_stage time block bin (KeepAt.SetItems items released) =
    record (cut_of bin) { count = bin.count; items = (keep_done time block bin).items }
keep_stage time block bin (KeepAt.Used released) = record (keep_done time block bin) { used = (cut_of bin).used }
keep_stage time block bin (KeepAt.SetUsed released used) =
    record (keep_done time block bin) { used = (cut_of bin).used }
keep_stage time block bin (KeepAt.Unlock released) = keep_done time block bin

-- a put into a full bin has come to the block before these
pub record TailFits (bin : Bin) (tail : Tail) (back : List Item) : Type 0 where
  pub full : is_full bin ≡ true
  pub head' : tail.head ≡ word_of bin.items
  pub front : List Item
  pub item : Item
  pub is : bin.items ≡ front ++ (item ∷ back)
  pub block' : tail.block ≡ item.block
  pub before' : tail.before ≡ last_block None front

-- it has come to the oldest, and knows when that came
pub record OldFits (bin : Bin) (tail : Tail) (age : ℕ) : Type 0 where
  pub tail' : TailFits bin tail []
  pub age' : age ≡ tail'.item.age

abbrev pub KeepNoted : Bin → KeepAt → Type 0
KeepNoted bin KeepAt.Lock = ⊤
KeepNoted bin KeepAt.Items = ⊤
KeepNoted bin (KeepAt.Head items) = items ≡ bin.count
KeepNoted bin (KeepAt.Walk tail) = (back : List Item) × TailFits bin tail back
KeepNoted bin (KeepAt.OldAge tail) = TailFits bin tail []
KeepNoted bin (KeepAt.Cut tail age) = OldFits bin tail age
KeepNoted bin (KeepAt.SetCleaned tail age) = OldFits bin tail age
KeepNoted bin (KeepAt.SetLink items head released) =
    (items ≡ (cut_of bin).count) × (head ≡ word_of (cut_of bin).items) × (released ≡ released_of bin)
KeepNoted bin (KeepAt.SetAge items released) = (items ≡ (cut_of bin).count) × (released ≡ released_of bin)
KeepNoted bin (KeepAt.SetHead items released) = (items ≡ (cut_of bin).count) × (released ≡ released_of bin)
KeepNoted bin (KeepAt.SetItems items released) = (items ≡ (cut_of bin).count) × (released ≡ released_of bin)
KeepNoted bin (KeepAt.Used released) = released ≡ released_of bin
KeepNoted bin (KeepAt.SetUsed released used) = (released ≡ released_of bin) × (used ≡ bin.used)
KeepNoted bin (KeepAt.Unlock released) = released ≡ released_of bin

-- what the words of the block that is put say before it is the newest
abbrev pub HandFits : (ℕ → ℕ) → (ℕ → ℕ) → ℕ → ℕ → Bin → KeepAt → Type 0
HandFits links ages time block bin KeepAt.Lock = ⊤
HandFits links ages time block bin KeepAt.Items = ⊤
HandFits links ages time block bin (KeepAt.Head items) = ⊤
HandFits links ages time block bin (KeepAt.Walk tail) = ⊤
HandFits links ages time block bin (KeepAt.OldAge tail) = ⊤
HandFits links ages time block bin (KeepAt.Cut tail age) = ⊤
HandFits links ages time block bin (KeepAt.SetCleaned tail age) = ⊤
HandFits links ages time block bin (KeepAt.SetLink items head released) = ⊤
HandFits links ages time block bin (KeepAt.SetAge items released) = links block ≡ word_of (cut_of bin).items
HandFits links ages time block bin (KeepAt.SetHead items released) =
    (links block ≡ word_of (cut_of bin).items) × (ages block ≡ time)
HandFits links ages time block bin (KeepAt.SetItems items released) = ⊤
HandFits links ages time block bin (KeepAt.Used released) = ⊤
HandFits links ages time block bin (KeepAt.SetUsed released used) = ⊤
HandFits links ages time block bin (KeepAt.Unlock released) = ⊤
