-- Which kind of step each position is, and whether one counts as made.
use Rattle.std.specs.Prelude.{ℕ, Bool, true, false, cond, eqb, Option, Some, None}
use Rattle.pool_types.specs.declared.rows.Row.{Row}
use Rattle.pool_words.specs.declared.actions.Action.{Action}
use Rattle.pool_words.specs.declared.actions.Seen.{Seen}
use Rattle.pool_words.specs.Actions.{word_seen}
use Rattle.word_codes.specs.Links.{link_of}
use Rattle.word_codes.specs.Publics.{public_of}
use Rattle.word_codes.specs.declared.publics.Public.{Public}
use Rattle.backend_bins.specs.declared.bin.BinAt.{BinAt}
use Rattle.backend_bins.specs.declared.cut.CutAt.{CutAt}
use Rattle.backend_bins.specs.declared.scan.ScanStep.{ScanStep}
use Rattle.chain_words.specs.declared.pushing.PushAt.{PushAt}
use Rattle.coalescer.specs.declared.drain.DrainAt.{DrainAt}
use Rattle.coalescer.specs.declared.put.PutStep.{PutStep}
use Rattle.guards.specs.declared.win.Side.{Side}
use Rattle.guards.specs.declared.win.WinAt.{WinAt}
use Rattle.large_cache.specs.declared.get.GetAt.{GetAt}
use Rattle.large_cache.specs.declared.get.HitAt.{HitAt}
use Rattle.large_cache.specs.declared.keep.KeepAt.{KeepAt}
use Rattle.large_cache.specs.declared.sweep.SweepAt.{SweepAt}
use Rattle.large_cache.specs.declared.undo.UndoAt.{UndoAt}
use Rattle.locked_chain.specs.declared.insert.InsertAt.{InsertAt}
use Rattle.locked_chain.specs.declared.remove.RemoveAt.{RemoveAt}
use Rattle.mailbox.specs.declared.boxes.BoxAt.{BoxAt}
use Rattle.mailbox.specs.declared.mailing.MailAt.{MailAt}
use Rattle.orphans.specs.declared.adopting.AdoptAt.{AdoptAt}
use Rattle.orphans.specs.declared.leaving.LeaveAt.{LeaveAt}
use Rattle.public_list.specs.declared.ending.EndAt.{EndAt}
use Rattle.public_list.specs.declared.joining.JoinAt.{JoinAt}
use Rattle.public_list.specs.declared.looking.LookAt.{LookAt}
use Rattle.public_list.specs.declared.posting.PostAt.{PostAt}
use Rattle.region_steps.specs.declared.office.OfficeAt.{OfficeAt}
use Rattle.reset_steps.specs.declared.clear.ClearAt.{ClearAt}
use Rattle.reset_steps.specs.declared.evict.EvictAt.{EvictAt}
use Rattle.reset_steps.specs.declared.strip.StripAt.{StripAt}
use Rattle.reset_steps.specs.declared.unite.UniteAt.{UniteAt}
use Rattle.reset_steps.specs.declared.unqueue.UnqueueAt.{UnqueueAt}
use Rattle.step_local.specs.declared.frames.At.{At}
use Rattle.step_local.specs.declared.frames.LargeAt.{LargeAt}
use Rattle.step_local.specs.declared.frames.LocateAt.{LocateAt}
use Rattle.step_local.specs.declared.frames.ResetAt.{ResetAt}
use Rattle.step_local.specs.declared.frames.SmallAt.{SmallAt}

abbrev pub look_row : LookAt → Row
look_row LookAt.Region = Row.F5
look_row (LookAt.Mark unit) = Row.M1
look_row (LookAt.Again unit mark) = Row.F5
look_row (LookAt.Kind unit mark) = Row.F7
look_row (LookAt.Odd unit mark) = Row.F7
look_row (LookAt.Base unit mark kind) = Row.F5
look_row (LookAt.Second unit mark kind base) = Row.M1
look_row (LookAt.Gone mark) = Row.F5

abbrev pub end_row : EndAt → Row
end_row EndAt.Own = Row.M4
end_row EndAt.Other = Row.M5
end_row EndAt.Large = Row.M6
end_row (EndAt.Lost mark) = Row.F5

-- a push on a list on which nothing was pushed since its keeper took it is a step of its own
abbrev pub post_exchange_row : Public → Row
post_exchange_row Public.Null = Row.P3
post_exchange_row Public.Unusable = Row.P4
post_exchange_row (Public.Filled unit) = Row.P4

abbrev pub post_push_row : PushAt → Row
post_push_row PushAt.Look = Row.P1
post_push_row (PushAt.Link found) = Row.P2
post_push_row (PushAt.Exchange found) = post_exchange_row (public_of found)

abbrev pub post_row : PostAt → Row
post_row (PostAt.Push at) = post_push_row at

abbrev pub mail_push_row : PushAt → Row
mail_push_row PushAt.Look = Row.N2
mail_push_row (PushAt.Link found) = Row.N3
mail_push_row (PushAt.Exchange found) = Row.N4

abbrev pub mail_row : MailAt → Row
mail_row MailAt.Next = Row.N1
mail_row (MailAt.Push key at) = mail_push_row at

abbrev pub join_row : JoinAt → Row
join_row JoinAt.Take = Row.P5
join_row (JoinAt.Walk first at count) = Row.M1
join_row (JoinAt.Tie first last count) = Row.M8

abbrev pub box_row : BoxAt → Row
box_row BoxAt.Take = Row.N5
box_row (BoxAt.Next slab) = Row.N6
box_row (BoxAt.Settle slab rest) = Row.N7
box_row (BoxAt.Join slab rest at) = join_row at

abbrev pub adopt_row : AdoptAt → Row
adopt_row AdoptAt.Take = Row.O6
adopt_row (AdoptAt.Header slab) = Row.O7
adopt_row (AdoptAt.Next slab header) = Row.O7
adopt_row (AdoptAt.Settle slab header rest) = Row.N7
adopt_row (AdoptAt.Own slab header rest) = Row.O8
adopt_row (AdoptAt.Spare slab) = Row.O7

abbrev pub orphan_push_row : PushAt → Row
orphan_push_row PushAt.Look = Row.O3
orphan_push_row (PushAt.Link found) = Row.O4
orphan_push_row (PushAt.Exchange found) = Row.O5

abbrev pub leave_row : LeaveAt → Row
leave_row LeaveAt.Close = Row.P6
leave_row LeaveAt.Header = Row.O1
leave_row LeaveAt.Disown = Row.O2
leave_row (LeaveAt.Push at) = orphan_push_row at

abbrev pub small_row : SmallAt → Row
small_row (SmallAt.Uncache slab) = Row.F8
small_row (SmallAt.Next slab) = Row.N7
small_row (SmallAt.Public slab) = Row.P5
small_row (SmallAt.Own slab) = Row.O8
small_row (SmallAt.Kind slab) = Row.F8
small_row (SmallAt.Behind slab head) = Row.M1
small_row (SmallAt.Private slab head below) = Row.M3
small_row (SmallAt.Rest slab unit) = Row.M2
small_row (SmallAt.Empty slab) = Row.F8
small_row (SmallAt.Cache slab) = Row.F8
small_row (SmallAt.Oldest slab) = Row.F8
small_row (SmallAt.Newest slab) = Row.F8

abbrev pub large_row : LargeAt → Row
large_row LargeAt.Tick = Row.F6
large_row (LargeAt.Kind unit) = Row.F8
large_row (LargeAt.Grant unit) = Row.M7

abbrev pub hit_row : HitAt → Row
hit_row (HitAt.Link items block) = Row.C3
hit_row (HitAt.Age items block link) = Row.C3
hit_row (HitAt.Mean items block link age) = Row.C3
hit_row (HitAt.Pop newest) = Row.C6
hit_row (HitAt.SetItems newest) = Row.C4
hit_row (HitAt.SetMean newest) = Row.C4

abbrev pub get_row : GetAt → Row
get_row GetAt.Lock = Row.C1
get_row GetAt.Items = Row.C3
get_row (GetAt.Head items) = Row.C3
get_row (GetAt.Hit at) = hit_row at
get_row GetAt.Cleaned = Row.C3
get_row (GetAt.SetThreshold cleaned) = Row.C4
get_row GetAt.ClearCleaned = Row.C4
get_row (GetAt.SetTime block) = Row.C4
get_row (GetAt.Used block) = Row.C3
get_row (GetAt.SetUsed block used) = Row.C4
get_row (GetAt.Unlock block) = Row.C2

abbrev pub undo_row : UndoAt → Row
undo_row UndoAt.Lock = Row.C1
undo_row UndoAt.Used = Row.C3
undo_row (UndoAt.SetUsed used) = Row.C4
undo_row UndoAt.Unlock = Row.C2

abbrev pub keep_row : KeepAt → Row
keep_row KeepAt.Lock = Row.C1
keep_row KeepAt.Items = Row.C3
keep_row (KeepAt.Head items) = Row.C3
keep_row (KeepAt.Walk tail) = Row.C3
keep_row (KeepAt.OldAge tail) = Row.C3
keep_row (KeepAt.Cut tail age) = Row.C7
keep_row (KeepAt.SetCleaned tail age) = Row.C4
keep_row (KeepAt.SetLink items head released) = Row.C4
keep_row (KeepAt.SetAge items released) = Row.C4
keep_row (KeepAt.SetHead items released) = Row.C5
keep_row (KeepAt.SetItems items released) = Row.C4
keep_row (KeepAt.Used released) = Row.C3
keep_row (KeepAt.SetUsed released used) = Row.C4
keep_row (KeepAt.Unlock released) = Row.C2

abbrev pub sweep_row : SweepAt → Row
sweep_row SweepAt.Clock = Row.F7
sweep_row SweepAt.Peek = Row.C3
sweep_row SweepAt.Lock = Row.C1
sweep_row SweepAt.Items = Row.C3
sweep_row (SweepAt.Judge at) = Row.C3
sweep_row (SweepAt.SetThreshold count threshold) = Row.C4
sweep_row (SweepAt.Head count threshold) = Row.C3
sweep_row (SweepAt.Age walk) = Row.C3
sweep_row (SweepAt.Link walk) = Row.C3
sweep_row (SweepAt.Cut walk) = Row.C7
sweep_row (SweepAt.SetItems walk) = Row.C4
sweep_row (SweepAt.SetCleaned walk) = Row.C4
sweep_row SweepAt.Unlock = Row.C2

abbrev pub insert_row : InsertAt → Row
insert_row InsertAt.Head = Row.B3
insert_row (InsertAt.Forward head) = Row.B5
insert_row (InsertAt.Backward head) = Row.B6
insert_row (InsertAt.OldBackward old) = Row.B6
insert_row InsertAt.NewHead = Row.B4

-- the list's first item leaves by the list's head
abbrev pub skip_row : Option ℕ → Row
skip_row (Some before) = Row.B5
skip_row None = Row.B4

abbrev pub remove_row : RemoveAt → Row
remove_row RemoveAt.Forward = Row.B3
remove_row (RemoveAt.Backward forward) = Row.B3
remove_row (RemoveAt.Skip forward backward) = skip_row (link_of backward)
remove_row (RemoveAt.SkipBack behind backward) = Row.B6

abbrev pub bin_row : BinAt → Row
bin_row BinAt.Lock = Row.B1
bin_row BinAt.Size = Row.G3
bin_row BinAt.Left = Row.G4
bin_row (BinAt.Insert at) = insert_row at
bin_row (BinAt.Out at) = remove_row at
bin_row BinAt.Unlock = Row.B2

-- by which guard is won first
abbrev pub win_row : Side → WinAt → Row
win_row Side.Begin WinAt.First = Row.G1
win_row Side.Begin WinAt.Second = Row.G2
win_row Side.Begin WinAt.Back = Row.G3
win_row Side.End WinAt.First = Row.G2
win_row Side.End WinAt.Second = Row.G1
win_row Side.End WinAt.Back = Row.G4

abbrev pub scan_row : ScanStep → Row
scan_row ScanStep.Peek = Row.B3
scan_row ScanStep.Lock = Row.B1
scan_row ScanStep.Head = Row.B3
scan_row (ScanStep.Length first) = Row.G7
scan_row (ScanStep.Win block at) = win_row Side.Begin at
scan_row (ScanStep.Next first) = Row.B3
scan_row (ScanStep.Out block at) = remove_row at
scan_row (ScanStep.Unlock took) = Row.B2

abbrev pub cut_row : CutAt → Row
cut_row CutAt.FrontLeft = Row.G6
cut_row CutAt.FrontSize = Row.G5
cut_row CutAt.BackLeft = Row.G6
cut_row CutAt.BackSize = Row.G5
cut_row (CutAt.Front at) = bin_row at
cut_row (CutAt.Back at) = bin_row at

abbrev pub queue_push_row : PushAt → Row
queue_push_row PushAt.Look = Row.Q1
queue_push_row (PushAt.Link found) = Row.Q2
queue_push_row (PushAt.Exchange found) = Row.Q3

abbrev pub put_row : PutStep → Row
put_row PutStep.Size = Row.G5
put_row PutStep.Left = Row.G6
put_row PutStep.LeftWord = Row.G8
put_row (PutStep.WinLeft granules at) = win_row Side.End at
put_row (PutStep.UnlinkLeft neighbour at) = bin_row at
put_row PutStep.RightWord = Row.G7
put_row (PutStep.WinRight granules at) = win_row Side.Begin at
put_row (PutStep.UnlinkRight neighbour at) = bin_row at
put_row PutStep.FarLeft = Row.G8
put_row PutStep.FarRight = Row.G7
put_row (PutStep.Queue at) = queue_push_row at
put_row (PutStep.Bin at) = bin_row at

abbrev pub drain_row : DrainAt → Row
drain_row DrainAt.Swap = Row.Q4
drain_row (DrainAt.Link first) = Row.Q5
drain_row (DrainAt.Put rest at) = put_row at.step

abbrev pub office_row : OfficeAt → Row
office_row OfficeAt.Lock = Row.F1
office_row (OfficeAt.Region slot given) = Row.F5
office_row (OfficeAt.Take given) = Row.F9
office_row (OfficeAt.Base came) = Row.F3
office_row (OfficeAt.Enter came) = Row.F3
office_row (OfficeAt.WallSize came) = Row.G5
office_row (OfficeAt.WallLeft came) = Row.G6
office_row (OfficeAt.FirstSize came) = Row.G5
office_row (OfficeAt.LastLeft came) = Row.G6
office_row (OfficeAt.Remove given) = Row.F4
office_row (OfficeAt.Back end) = Row.F10
office_row (OfficeAt.Unlock end) = Row.F2

abbrev pub strip_row : StripAt → Row
strip_row (StripAt.Mark object) = Row.M1
strip_row (StripAt.End object mark) = Row.M4

abbrev pub evict_row : EvictAt → Row
evict_row (EvictAt.Kind granule) = Row.F7
evict_row (EvictAt.Mark granule b line) = Row.M1
evict_row (EvictAt.End granule b line mark) = Row.M6

abbrev pub clear_row : ClearAt → Row
clear_row (ClearAt.Peek number) = Row.C3
clear_row ClearAt.Lock = Row.C1
clear_row ClearAt.Head = Row.C3
clear_row (ClearAt.Link block) = Row.C3
clear_row ClearAt.Cut = Row.C7
clear_row (ClearAt.Zero number) = Row.C4
clear_row ClearAt.Unlock = Row.C2

abbrev pub unqueue_row : UnqueueAt → Row
unqueue_row UnqueueAt.Take = Row.Q4
unqueue_row (UnqueueAt.Link first) = Row.Q5

abbrev pub unite_row : UniteAt → Row
unite_row (UniteAt.Size first) = Row.G7
unite_row (UniteAt.Win b at) = win_row Side.Begin at
unite_row (UniteAt.Unlink b at) = bin_row at

abbrev pub reset_row : ResetAt → Row
reset_row (ResetAt.Strip slab at) = strip_row at
reset_row (ResetAt.Seek at) = Row.F5
reset_row (ResetAt.Evict region at) = evict_row at
reset_row (ResetAt.Clear granules at) = clear_row at
reset_row (ResetAt.Unqueue at) = unqueue_row at
reset_row (ResetAt.Unite region at) = unite_row at
reset_row (ResetAt.Bin at) = bin_row at

abbrev pub row_of : At → Row
row_of At.Idle = Row.Nothing
row_of (At.Ready answer) = Row.Nothing
row_of (At.Look at) = look_row at
row_of (At.End at) = end_row at
row_of (At.Post at) = post_row at
row_of (At.Mail at) = mail_row at
row_of (At.Mailbox at) = box_row at
row_of (At.Adopt at) = adopt_row at
row_of (At.Join slab rest at) = join_row at
row_of (At.Spare at) = leave_row at
row_of (At.Leave slab at) = leave_row at
row_of (At.Locate at) = Row.F5
row_of (At.Small at) = small_row at
row_of (At.Large at) = large_row at
row_of (At.Get at) = get_row at
row_of (At.Undo cause at) = undo_row at
row_of (At.Keep at) = keep_row at
row_of (At.Sweep at) = sweep_row at
row_of (At.Scan at) = scan_row at.step
row_of (At.Cut at) = cut_row at
row_of At.Queue = Row.Q1
row_of (At.Whole at) = bin_row at
row_of (At.Drain at) = drain_row at
row_of (At.Put at) = put_row at.step
row_of (At.Office job at) = office_row at
row_of (At.Reset at) = reset_row at

-- whether the office was in its slot
abbrev pub took_office : Seen → Bool
took_office Seen.OfficeOut = false
took_office (Seen.Word value) = true
took_office Seen.Done = true
took_office (Seen.Obtained one) = true
took_office (Seen.Refused error) = true
took_office Seen.Given = true

-- an exchange that found another value makes no step, nor does a taking of an office that is out
abbrev pub is_made : Action → Seen → Bool
is_made (Action.Load word) s = true
is_made (Action.Store word value) s = true
is_made (Action.Swap word value) s = true
is_made (Action.Exchange word from to) s = eqb (word_seen s) from
is_made (Action.Add word value) s = true
is_made (Action.TakeOffice job) s = took_office s
is_made Action.GiveOffice s = true
is_made Action.Nothing s = false
