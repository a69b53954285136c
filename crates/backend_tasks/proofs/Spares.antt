-- Which kinds of words the steps of jobs on blocks leave alone.
use Rattle.std.proofs.Common.{◌≡◌, ℕ, false, refl, List}
use Rattle.std.specs.Prelude.{Option, Some, None}
use Rattle.pool_words.specs.Words.{WordKind, backwards, bin_heads, bin_locks, forwards, lefts, sizes}
use Rattle.word_codes.specs.Links.{link_of}
use Rattle.guards.specs.declared.win.Side.{Side}
use Rattle.guards.specs.declared.win.WinAt.{WinAt}
use Rattle.guards.specs.declared.win.WinCall.{WinCall}
use Rattle.guards.specs.Win.{win_course}
use Rattle.locked_chain.specs.declared.insert.InsertAt.{InsertAt}
use Rattle.locked_chain.specs.declared.remove.RemoveAt.{RemoveAt}
use Rattle.locked_chain.specs.Insert.{insert_course}
use Rattle.locked_chain.specs.Remove.{remove_course, skip_course}
use Rattle.backend_bins.specs.declared.bin.BinAt.{BinAt}
use Rattle.backend_bins.specs.declared.bin.BinCall.{BinCall}
use Rattle.backend_bins.specs.Bin.{bin_course}
use Rattle.backend_bins.specs.Blocks.{bin_of}
use Rattle.lock_laws.specs.Seats.{list_call}
use Rattle.bin_laws.specs.Bins.{bin_words}
use Rattle.step_local.specs.declared.frames.LargeAt.{LargeAt}
use Rattle.step_local.specs.declared.frames.SmallAt.{SmallAt}
use Rattle.step_writes.specs.Kinds.{guard_kinds, large_kinds, small_kinds}
use Rattle.step_writes.specs.Writings.{has_kind, share_kind}
use Rattle.backend_tasks.specs.Rows.{Spares, list_kinds, queue_kinds}

-- these kinds have none of lists' words
pub record NoLists (kinds : List WordKind) : Type 0 where
  pub locks : has_kind bin_locks kinds ≡ false
  pub heads : has_kind bin_heads kinds ≡ false
  pub next : has_kind forwards kinds ≡ false
  pub previous : has_kind backwards kinds ≡ false

pub insert_spares : (kinds : List WordKind) (b x : ℕ) (at : InsertAt) → NoLists kinds
    → Spares kinds (insert_course (list_call bin_words b x) at)
insert_spares kinds b x InsertAt.Head none = refl
insert_spares kinds b x (InsertAt.Forward head) none = none.next
insert_spares kinds b x (InsertAt.Backward head) none = none.previous
insert_spares kinds b x (InsertAt.OldBackward old) none = none.previous
insert_spares kinds b x InsertAt.NewHead none = none.heads

skip_spares : (kinds : List WordKind) (b x forward : ℕ) (before : Option ℕ) → NoLists kinds
    → Spares kinds (skip_course (list_call bin_words b x) forward before)
skip_spares kinds b x forward (Some before) none = none.next
skip_spares kinds b x forward None none = none.heads

pub remove_spares : (kinds : List WordKind) (b x : ℕ) (at : RemoveAt) → NoLists kinds
    → Spares kinds (remove_course (list_call bin_words b x) at)
remove_spares kinds b x RemoveAt.Forward none = refl
remove_spares kinds b x (RemoveAt.Backward forward) none = refl
remove_spares kinds b x (RemoveAt.Skip forward backward) none =
    skip_spares kinds b x forward (link_of backward) none
remove_spares kinds b x (RemoveAt.SkipBack behind backward) none = none.previous

pub guards_no_lists : NoLists guard_kinds
guards_no_lists = record { locks = refl; heads = refl; next = refl; previous = refl }

pub queue_no_lists : NoLists queue_kinds
queue_no_lists = record { locks = refl; heads = refl; next = refl; previous = refl }

-- and these have no guards
pub record NoGuards (kinds : List WordKind) : Type 0 where
  pub begins : has_kind sizes kinds ≡ false
  pub ends : has_kind lefts kinds ≡ false

pub lists_no_guards : NoGuards list_kinds
lists_no_guards = record { begins = refl; ends = refl }

pub queue_no_guards : NoGuards queue_kinds
queue_no_guards = record { begins = refl; ends = refl }

win_spares_by : (kinds : List WordKind) (c : WinCall) (side : Side) (at : WinAt) → NoGuards kinds
    → Spares kinds (win_course (record c { first = side }) at)
win_spares_by kinds c Side.Begin WinAt.First none = none.begins
win_spares_by kinds c Side.Begin WinAt.Second none = none.ends
win_spares_by kinds c Side.Begin WinAt.Back none = none.begins
win_spares_by kinds c Side.End WinAt.First none = none.ends
win_spares_by kinds c Side.End WinAt.Second none = none.begins
win_spares_by kinds c Side.End WinAt.Back none = none.ends

pub win_spares : (kinds : List WordKind) (c : WinCall) (at : WinAt) → NoGuards kinds
    → Spares kinds (win_course c at)
win_spares kinds c at none = win_spares_by kinds c c.first at none

-- a job on a bin leaves the queue alone
pub bin_spares : (c : BinCall) (at : BinAt) → Spares queue_kinds (bin_course c at)
bin_spares c BinAt.Lock = refl
bin_spares c BinAt.Size = refl
bin_spares c BinAt.Left = refl
bin_spares c (BinAt.Insert at) =
    insert_spares queue_kinds (bin_of c.block.granules) c.block.first at queue_no_lists
bin_spares c (BinAt.Out at) =
    remove_spares queue_kinds (bin_of c.block.granules) c.block.first at queue_no_lists
bin_spares c BinAt.Unlock = refl

-- small and large objects are kept in none of these words
pub small_no_guards : (at : SmallAt) → share_kind guard_kinds (small_kinds at) ≡ false
small_no_guards (SmallAt.Uncache slab) = refl
small_no_guards _ = refl

pub small_no_lists : (at : SmallAt) → share_kind list_kinds (small_kinds at) ≡ false
small_no_lists (SmallAt.Uncache slab) = refl
small_no_lists _ = refl

pub small_no_queue : (at : SmallAt) → share_kind queue_kinds (small_kinds at) ≡ false
small_no_queue (SmallAt.Uncache slab) = refl
small_no_queue _ = refl

pub large_no_guards : (at : LargeAt) → share_kind guard_kinds (large_kinds at) ≡ false
large_no_guards LargeAt.Tick = refl
large_no_guards _ = refl

pub large_no_lists : (at : LargeAt) → share_kind list_kinds (large_kinds at) ≡ false
large_no_lists LargeAt.Tick = refl
large_no_lists _ = refl

pub large_no_queue : (at : LargeAt) → share_kind queue_kinds (large_kinds at) ≡ false
large_no_queue LargeAt.Tick = refl
large_no_queue _ = refl
