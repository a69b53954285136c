-- What the next step of each job does to a word, by its position.
use Rattle.std.specs.Prelude.{ℕ, Option, Some, None}
use Rattle.pool_words.specs.Words.{WordKind, marks, owns, publics, nexts, headers, sizes, lefts, bin_locks, bin_heads}
use Rattle.pool_words.specs.Words.{forwards, backwards, queues, queue_links, mailboxes, orphans, cache_locks}
use Rattle.pool_words.specs.Words.{cache_heads, cache_items, cache_used, cache_means, cache_thresholds, cache_gets}
use Rattle.pool_words.specs.Words.{cache_cleaned, cache_links, cache_ages, office_locks, regions, bases}
use Rattle.word_codes.specs.Links.{link_of}
use Rattle.chain_words.specs.declared.pushing.PushAt.{PushAt}
use Rattle.locked_chain.specs.declared.insert.InsertAt.{InsertAt}
use Rattle.locked_chain.specs.declared.remove.RemoveAt.{RemoveAt}
use Rattle.guards.specs.Win.{other_side}
use Rattle.guards.specs.declared.win.Side.{Side}
use Rattle.guards.specs.declared.win.WinAt.{WinAt}
use Rattle.public_list.specs.declared.ending.EndAt.{EndAt}
use Rattle.public_list.specs.declared.joining.JoinAt.{JoinAt}
use Rattle.public_list.specs.declared.posting.PostAt.{PostAt}
use Rattle.mailbox.specs.declared.boxes.BoxAt.{BoxAt}
use Rattle.mailbox.specs.declared.mailing.MailAt.{MailAt}
use Rattle.orphans.specs.declared.adopting.AdoptAt.{AdoptAt}
use Rattle.orphans.specs.declared.leaving.LeaveAt.{LeaveAt}
use Rattle.backend_bins.specs.declared.bin.BinAt.{BinAt}
use Rattle.backend_bins.specs.declared.cut.CutAt.{CutAt}
use Rattle.backend_bins.specs.declared.scan.ScanStep.{ScanStep}
use Rattle.coalescer.specs.declared.drain.DrainAt.{DrainAt}
use Rattle.coalescer.specs.declared.put.PutStep.{PutStep}
use Rattle.region_steps.specs.declared.office.OfficeAt.{OfficeAt}
use Rattle.large_cache.specs.declared.get.GetAt.{GetAt}
use Rattle.large_cache.specs.declared.get.HitAt.{HitAt}
use Rattle.large_cache.specs.declared.keep.KeepAt.{KeepAt}
use Rattle.large_cache.specs.declared.sweep.SweepAt.{SweepAt}
use Rattle.large_cache.specs.declared.undo.UndoAt.{UndoAt}
use Rattle.reset_steps.specs.declared.clear.ClearAt.{ClearAt}
use Rattle.reset_steps.specs.declared.clear.Number.{Number}
use Rattle.reset_steps.specs.declared.evict.EvictAt.{EvictAt}
use Rattle.reset_steps.specs.declared.strip.StripAt.{StripAt}
use Rattle.reset_steps.specs.declared.unite.UniteAt.{UniteAt}
use Rattle.reset_steps.specs.declared.unqueue.UnqueueAt.{UnqueueAt}
use Rattle.step_writes.specs.Writings.{Writing, takes_office, gives_office, loads, stores, swaps, exchanges}

-- a push, by the kinds of its list's head and of its item's link
abbrev pub push_writes : WordKind → WordKind → PushAt → Writing
push_writes head link PushAt.Look = loads
push_writes head link (PushAt.Link found) = stores link
push_writes head link (PushAt.Exchange found) = exchanges head

abbrev pub insert_writes : InsertAt → Writing
insert_writes InsertAt.Head = loads
insert_writes (InsertAt.Forward head) = stores forwards
insert_writes (InsertAt.Backward head) = stores backwards
insert_writes (InsertAt.OldBackward old) = stores backwards
insert_writes InsertAt.NewHead = stores bin_heads

abbrev pub skip_writes : Option ℕ → Writing
skip_writes (Some before) = stores forwards
skip_writes None = stores bin_heads

abbrev pub remove_writes : RemoveAt → Writing
remove_writes RemoveAt.Forward = loads
remove_writes (RemoveAt.Backward forward) = loads
remove_writes (RemoveAt.Skip forward backward) = skip_writes (link_of backward)
remove_writes (RemoveAt.SkipBack behind backward) = stores backwards

abbrev pub guard_kind : Side → WordKind
guard_kind Side.Begin = sizes
guard_kind Side.End = lefts

-- a win, by the side whose guard is won first
abbrev pub win_writes : Side → WinAt → Writing
win_writes first WinAt.First = exchanges (guard_kind first)
win_writes first WinAt.Second = exchanges (guard_kind (other_side first))
win_writes first WinAt.Back = stores (guard_kind first)

abbrev pub end_writes : EndAt → Writing
end_writes EndAt.Own = exchanges marks
end_writes EndAt.Other = exchanges marks
end_writes EndAt.Large = exchanges marks
end_writes (EndAt.Lost mark) = loads

abbrev pub post_writes : PostAt → Writing
post_writes (PostAt.Push at) = push_writes publics marks at

abbrev pub join_writes : JoinAt → Writing
join_writes JoinAt.Take = swaps publics
join_writes (JoinAt.Walk first at count) = loads
join_writes (JoinAt.Tie first last count) = stores marks

abbrev pub box_writes : BoxAt → Writing
box_writes BoxAt.Take = swaps mailboxes
box_writes (BoxAt.Next slab) = loads
box_writes (BoxAt.Settle slab rest) = stores nexts
box_writes (BoxAt.Join slab rest at) = join_writes at

abbrev pub mail_writes : MailAt → Writing
mail_writes MailAt.Next = loads
mail_writes (MailAt.Push key at) = push_writes mailboxes nexts at

abbrev pub adopt_writes : AdoptAt → Writing
adopt_writes AdoptAt.Take = swaps orphans
adopt_writes (AdoptAt.Header slab) = loads
adopt_writes (AdoptAt.Next slab header) = loads
adopt_writes (AdoptAt.Settle slab header rest) = stores nexts
adopt_writes (AdoptAt.Own slab header rest) = stores owns
adopt_writes (AdoptAt.Spare slab) = loads

abbrev pub leave_writes : LeaveAt → Writing
leave_writes LeaveAt.Close = exchanges publics
leave_writes LeaveAt.Header = stores headers
leave_writes LeaveAt.Disown = stores owns
leave_writes (LeaveAt.Push at) = push_writes orphans nexts at

abbrev pub bin_writes : BinAt → Writing
bin_writes BinAt.Lock = exchanges bin_locks
bin_writes BinAt.Size = stores sizes
bin_writes BinAt.Left = stores lefts
bin_writes (BinAt.Insert at) = insert_writes at
bin_writes (BinAt.Out at) = remove_writes at
bin_writes BinAt.Unlock = stores bin_locks

abbrev pub cut_writes : CutAt → Writing
cut_writes CutAt.FrontLeft = stores lefts
cut_writes CutAt.FrontSize = stores sizes
cut_writes CutAt.BackLeft = stores lefts
cut_writes CutAt.BackSize = stores sizes
cut_writes (CutAt.Front at) = bin_writes at
cut_writes (CutAt.Back at) = bin_writes at

abbrev pub scan_writes : ScanStep → Writing
scan_writes ScanStep.Peek = loads
scan_writes ScanStep.Lock = exchanges bin_locks
scan_writes ScanStep.Head = loads
scan_writes (ScanStep.Length first) = loads
scan_writes (ScanStep.Win b at) = win_writes Side.Begin at
scan_writes (ScanStep.Next first) = loads
scan_writes (ScanStep.Out b at) = remove_writes at
scan_writes (ScanStep.Unlock took) = stores bin_locks

abbrev pub put_writes : PutStep → Writing
put_writes PutStep.Size = stores sizes
put_writes PutStep.Left = stores lefts
put_writes PutStep.LeftWord = loads
put_writes (PutStep.WinLeft granules at) = win_writes Side.End at
put_writes (PutStep.UnlinkLeft neighbour at) = bin_writes at
put_writes PutStep.RightWord = loads
put_writes (PutStep.WinRight granules at) = win_writes Side.Begin at
put_writes (PutStep.UnlinkRight neighbour at) = bin_writes at
put_writes PutStep.FarLeft = loads
put_writes PutStep.FarRight = loads
put_writes (PutStep.Queue at) = push_writes queues queue_links at
put_writes (PutStep.Bin at) = bin_writes at

abbrev pub drain_writes : DrainAt → Writing
drain_writes DrainAt.Swap = swaps queues
drain_writes (DrainAt.Link first) = loads
drain_writes (DrainAt.Put rest at) = put_writes at.step

abbrev pub office_writes : OfficeAt → Writing
office_writes OfficeAt.Lock = exchanges office_locks
office_writes (OfficeAt.Region slot given) = loads
office_writes (OfficeAt.Take given) = takes_office
office_writes (OfficeAt.Base one) = stores bases
office_writes (OfficeAt.Enter one) = stores regions
office_writes (OfficeAt.WallSize one) = stores sizes
office_writes (OfficeAt.WallLeft one) = stores lefts
office_writes (OfficeAt.FirstSize one) = stores sizes
office_writes (OfficeAt.LastLeft one) = stores lefts
office_writes (OfficeAt.Remove given) = stores regions
office_writes (OfficeAt.Back end) = gives_office
office_writes (OfficeAt.Unlock end) = stores office_locks

abbrev pub hit_writes : HitAt → Writing
hit_writes (HitAt.Link items block) = loads
hit_writes (HitAt.Age items block link) = loads
hit_writes (HitAt.Mean items block link age) = loads
hit_writes (HitAt.Pop newest) = stores cache_heads
hit_writes (HitAt.SetItems newest) = stores cache_items
hit_writes (HitAt.SetMean newest) = stores cache_means

abbrev pub get_writes : GetAt → Writing
get_writes GetAt.Lock = exchanges cache_locks
get_writes GetAt.Items = loads
get_writes (GetAt.Head items) = loads
get_writes (GetAt.Hit at) = hit_writes at
get_writes GetAt.Cleaned = loads
get_writes (GetAt.SetThreshold cleaned) = stores cache_thresholds
get_writes GetAt.ClearCleaned = stores cache_cleaned
get_writes (GetAt.SetTime block) = stores cache_gets
get_writes (GetAt.Used block) = loads
get_writes (GetAt.SetUsed block used) = stores cache_used
get_writes (GetAt.Unlock block) = stores cache_locks

abbrev pub undo_writes : UndoAt → Writing
undo_writes UndoAt.Lock = exchanges cache_locks
undo_writes UndoAt.Used = loads
undo_writes (UndoAt.SetUsed used) = stores cache_used
undo_writes UndoAt.Unlock = stores cache_locks

-- a list is cut off behind the last block that stays, where one does
abbrev pub cut_behind_writes : Option ℕ → Writing
cut_behind_writes (Some kept) = stores cache_links
cut_behind_writes None = stores cache_heads

abbrev pub keep_writes : KeepAt → Writing
keep_writes KeepAt.Lock = exchanges cache_locks
keep_writes KeepAt.Items = loads
keep_writes (KeepAt.Head items) = loads
keep_writes (KeepAt.Walk tail) = loads
keep_writes (KeepAt.OldAge tail) = loads
keep_writes (KeepAt.Cut tail age) = cut_behind_writes tail.before
keep_writes (KeepAt.SetCleaned tail age) = stores cache_cleaned
keep_writes (KeepAt.SetLink items head released) = stores cache_links
keep_writes (KeepAt.SetAge items released) = stores cache_ages
keep_writes (KeepAt.SetHead items released) = stores cache_heads
keep_writes (KeepAt.SetItems items released) = stores cache_items
keep_writes (KeepAt.Used released) = loads
keep_writes (KeepAt.SetUsed released used) = stores cache_used
keep_writes (KeepAt.Unlock released) = stores cache_locks

abbrev pub sweep_writes : SweepAt → Writing
sweep_writes SweepAt.Clock = loads
sweep_writes SweepAt.Peek = loads
sweep_writes SweepAt.Lock = exchanges cache_locks
sweep_writes SweepAt.Items = loads
sweep_writes (SweepAt.Judge at) = loads
sweep_writes (SweepAt.SetThreshold count threshold) = stores cache_thresholds
sweep_writes (SweepAt.Head count threshold) = loads
sweep_writes (SweepAt.Age walk) = loads
sweep_writes (SweepAt.Link walk) = loads
sweep_writes (SweepAt.Cut walk) = cut_behind_writes walk.kept
sweep_writes (SweepAt.SetItems walk) = stores cache_items
sweep_writes (SweepAt.SetCleaned walk) = stores cache_cleaned
sweep_writes SweepAt.Unlock = stores cache_locks

abbrev pub strip_writes : StripAt → Writing
strip_writes (StripAt.Mark object) = loads
strip_writes (StripAt.End object mark) = exchanges marks

abbrev pub evict_writes : EvictAt → Writing
evict_writes (EvictAt.Kind granule) = loads
evict_writes (EvictAt.Mark granule b line) = loads
evict_writes (EvictAt.End granule b line mark) = exchanges marks

abbrev pub number_kind : Number → WordKind
number_kind Number.Items = cache_items
number_kind Number.Mean = cache_means
number_kind Number.Threshold = cache_thresholds
number_kind Number.Get = cache_gets
number_kind Number.Cleaned = cache_cleaned
number_kind Number.Used = cache_used

abbrev pub clear_writes : ClearAt → Writing
clear_writes (ClearAt.Peek number) = loads
clear_writes ClearAt.Lock = exchanges cache_locks
clear_writes ClearAt.Head = loads
clear_writes (ClearAt.Link block) = loads
clear_writes ClearAt.Cut = stores cache_heads
clear_writes (ClearAt.Zero number) = stores (number_kind number)
clear_writes ClearAt.Unlock = stores cache_locks

abbrev pub unqueue_writes : UnqueueAt → Writing
unqueue_writes UnqueueAt.Take = swaps queues
unqueue_writes (UnqueueAt.Link first) = loads

abbrev pub unite_writes : UniteAt → Writing
unite_writes (UniteAt.Size first) = loads
unite_writes (UniteAt.Win b at) = win_writes Side.Begin at
unite_writes (UniteAt.Unlink b at) = bin_writes at
