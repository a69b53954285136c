-- What the next step of each job writes is what its position says.
use Rattle.std.proofs.Common.{◌≡◌, ℕ, refl, ap}
use Rattle.std.specs.Prelude.{Option, Some, None}
use Rattle.pool_words.specs.declared.words.Word.{Word}
use Rattle.pool_words.specs.Words.{kind_of_word, bin_heads}
use Rattle.word_codes.specs.Links.{link_of}
use Rattle.word_codes.specs.Nexts.{mailbox_word}
use Rattle.chain_words.specs.Pushing.{found_of, push_course}
use Rattle.chain_words.specs.declared.pushing.PushAt.{PushAt}
use Rattle.chain_words.specs.declared.pushing.PushCall.{PushCall}
use Rattle.locked_chain.specs.Insert.{insert_course}
use Rattle.locked_chain.specs.Remove.{remove_course, skip_course}
use Rattle.locked_chain.specs.declared.ListCall.{ListCall}
use Rattle.locked_chain.specs.declared.insert.InsertAt.{InsertAt}
use Rattle.locked_chain.specs.declared.remove.RemoveAt.{RemoveAt}
use Rattle.guards.specs.Win.{guard_at, other_side, win_course}
use Rattle.guards.specs.declared.win.Side.{Side}
use Rattle.guards.specs.declared.win.WinAt.{WinAt}
use Rattle.guards.specs.declared.win.WinCall.{WinCall}
use Rattle.public_list.specs.Ending.{end_course}
use Rattle.public_list.specs.Joining.{join_course}
use Rattle.public_list.specs.Looking.{look_course}
use Rattle.public_list.specs.Posting.{post_course, post_push}
use Rattle.public_list.specs.declared.ending.EndAt.{EndAt}
use Rattle.public_list.specs.declared.ending.EndCall.{EndCall}
use Rattle.public_list.specs.declared.joining.JoinAt.{JoinAt}
use Rattle.public_list.specs.declared.joining.JoinCall.{JoinCall}
use Rattle.public_list.specs.declared.looking.LookAt.{LookAt}
use Rattle.public_list.specs.declared.looking.LookCall.{LookCall}
use Rattle.public_list.specs.declared.posting.PostAt.{PostAt}
use Rattle.public_list.specs.declared.posting.PostCall.{PostCall}
use Rattle.mailbox.specs.Boxes.{box_course}
use Rattle.mailbox.specs.Mailing.{mail_course, slab_push}
use Rattle.mailbox.specs.declared.boxes.BoxAt.{BoxAt}
use Rattle.mailbox.specs.declared.boxes.BoxCall.{BoxCall}
use Rattle.mailbox.specs.declared.mailing.MailAt.{MailAt}
use Rattle.mailbox.specs.declared.mailing.MailCall.{MailCall}
use Rattle.orphans.specs.Adopting.{adopt_course}
use Rattle.orphans.specs.Leaving.{leave_course}
use Rattle.orphans.specs.declared.adopting.AdoptAt.{AdoptAt}
use Rattle.orphans.specs.declared.adopting.AdoptCall.{AdoptCall}
use Rattle.orphans.specs.declared.leaving.LeaveAt.{LeaveAt}
use Rattle.orphans.specs.declared.leaving.LeaveCall.{LeaveCall}
use Rattle.backend_bins.specs.Bin.{bin_course, bin_list}
use Rattle.backend_bins.specs.Cut.{back_call, cut_course, front_call}
use Rattle.backend_bins.specs.Scan.{scan_list, step_course as scan_step, win_of}
use Rattle.backend_bins.specs.declared.bin.BinAt.{BinAt}
use Rattle.backend_bins.specs.declared.bin.BinCall.{BinCall}
use Rattle.backend_bins.specs.declared.cut.CutAt.{CutAt}
use Rattle.backend_bins.specs.declared.cut.CutCall.{CutCall}
use Rattle.backend_bins.specs.declared.scan.ScanAt.{ScanAt}
use Rattle.backend_bins.specs.declared.scan.ScanCall.{ScanCall}
use Rattle.backend_bins.specs.declared.scan.ScanStep.{ScanStep}
use Rattle.coalescer.specs.Drain.{drain_course, put_call as drained_put}
use Rattle.coalescer.specs.Put.{insert_call, left_win, push_call as queue_push, right_win}
use Rattle.coalescer.specs.Put.{step_course as put_step, unlink_call}
use Rattle.coalescer.specs.declared.drain.DrainAt.{DrainAt}
use Rattle.coalescer.specs.declared.drain.DrainCall.{DrainCall}
use Rattle.coalescer.specs.declared.put.PutAt.{PutAt}
use Rattle.coalescer.specs.declared.put.PutCall.{PutCall}
use Rattle.coalescer.specs.declared.put.PutStep.{PutStep}
use Rattle.region_steps.specs.Office.{office_course}
use Rattle.region_steps.specs.declared.office.OfficeAt.{OfficeAt}
use Rattle.region_steps.specs.declared.office.OfficeCall.{OfficeCall}
use Rattle.large_cache.specs.Get.{get_course, hit_course}
use Rattle.large_cache.specs.Keep.{keep_course}
use Rattle.large_cache.specs.List.{cut_behind}
use Rattle.large_cache.specs.Sweep.{judge_course, sweep_course}
use Rattle.large_cache.specs.Undo.{undo_course}
use Rattle.large_cache.specs.declared.get.CacheCall.{CacheCall}
use Rattle.large_cache.specs.declared.get.GetAt.{GetAt}
use Rattle.large_cache.specs.declared.get.HitAt.{HitAt}
use Rattle.large_cache.specs.declared.keep.KeepAt.{KeepAt}
use Rattle.large_cache.specs.declared.keep.KeepCall.{KeepCall}
use Rattle.large_cache.specs.declared.sweep.JudgeAt.{JudgeAt}
use Rattle.large_cache.specs.declared.sweep.SweepAt.{SweepAt}
use Rattle.large_cache.specs.declared.sweep.SweepCall.{SweepCall}
use Rattle.large_cache.specs.declared.undo.UndoAt.{UndoAt}
use Rattle.heap_slabs.specs.declared.records.HeapSlab.{HeapSlab}
use Rattle.reset_steps.specs.Clear.{clear_course, number_word}
use Rattle.reset_steps.specs.Evict.{evict_course}
use Rattle.reset_steps.specs.Strip.{strip_course}
use Rattle.reset_steps.specs.Unite.{unite_course, unite_win, unlink_call as reset_unlink}
use Rattle.reset_steps.specs.Unqueue.{unqueue_course}
use Rattle.reset_steps.specs.declared.clear.ClearAt.{ClearAt}
use Rattle.reset_steps.specs.declared.clear.ClearCall.{ClearCall}
use Rattle.reset_steps.specs.declared.clear.Number.{Number}
use Rattle.reset_steps.specs.declared.evict.EvictAt.{EvictAt}
use Rattle.reset_steps.specs.declared.evict.EvictCall.{EvictCall}
use Rattle.reset_steps.specs.declared.strip.StripAt.{StripAt}
use Rattle.reset_steps.specs.declared.unite.UniteAt.{UniteAt}
use Rattle.reset_steps.specs.declared.unite.UniteCall.{UniteCall}
use Rattle.reset_steps.specs.declared.unqueue.UnqueueAt.{UnqueueAt}
use Rattle.step_writes.specs.Jobs.{push_writes, insert_writes, skip_writes, remove_writes, guard_kind, win_writes}
use Rattle.step_writes.specs.Jobs.{end_writes, post_writes, join_writes, box_writes, mail_writes, adopt_writes}
use Rattle.step_writes.specs.Jobs.{leave_writes, bin_writes, cut_writes, scan_writes, put_writes, drain_writes}
use Rattle.step_writes.specs.Jobs.{office_writes, hit_writes, get_writes, undo_writes, cut_behind_writes, keep_writes}
use Rattle.step_writes.specs.Jobs.{sweep_writes, strip_writes, evict_writes, number_kind, clear_writes}
use Rattle.step_writes.specs.Jobs.{unqueue_writes, unite_writes}
use Rattle.step_writes.specs.Writings.{writing_of, loads, stores, exchanges}

pub push_job : (c : PushCall) (at : PushAt)
    → writing_of (push_course c at) ≡ push_writes (kind_of_word c.head) (kind_of_word c.link) at
push_job c PushAt.Look = refl
push_job c _ = refl

insert_job : (c : ListCall) (at : InsertAt) → kind_of_word c.head ≡ bin_heads
    → writing_of (insert_course c at) ≡ insert_writes at
insert_job c InsertAt.NewHead head = ap (λ which. stores which) head
insert_job c _ head = refl

skip_job : (c : ListCall) (forward : ℕ) (before : Option ℕ) → kind_of_word c.head ≡ bin_heads
    → writing_of (skip_course c forward before) ≡ skip_writes before
skip_job c forward (Some before) head = refl
skip_job c forward None head = ap (λ which. stores which) head

remove_job : (c : ListCall) (at : RemoveAt) → kind_of_word c.head ≡ bin_heads
    → writing_of (remove_course c at) ≡ remove_writes at
remove_job c (RemoveAt.Skip forward backward) head = skip_job c forward (link_of backward) head
remove_job c _ head = refl

guard_job : (c : WinCall) (side : Side) → kind_of_word (guard_at c side) ≡ guard_kind side
guard_job c Side.Begin = refl
guard_job c Side.End = refl

win_job : (c : WinCall) (at : WinAt) → writing_of (win_course c at) ≡ win_writes c.first at
win_job c WinAt.First = ap (λ which. exchanges which) (guard_job c c.first)
win_job c WinAt.Second = ap (λ which. exchanges which) (guard_job c (other_side c.first))
win_job c WinAt.Back = ap (λ which. stores which) (guard_job c c.first)

pub look_job : (c : LookCall) (at : LookAt) → writing_of (look_course c at) ≡ loads
look_job c LookAt.Region = refl
look_job c _ = refl

pub end_job : (c : EndCall) (at : EndAt) → writing_of (end_course c at) ≡ end_writes at
end_job c EndAt.Own = refl
end_job c _ = refl

pub post_job : (c : PostCall) (at : PostAt) → writing_of (post_course c at) ≡ post_writes at
post_job c (PostAt.Push at) = push_job (post_push c (found_of at)) at

pub join_job : (c : JoinCall) (at : JoinAt) → writing_of (join_course c at) ≡ join_writes at
join_job c JoinAt.Take = refl
join_job c _ = refl

pub box_job : (c : BoxCall) (at : BoxAt) → writing_of (box_course c at) ≡ box_writes at
box_job c (BoxAt.Join slab rest at) = join_job (record { slab = slab; head = c.head }) at
box_job c _ = refl

pub mail_job : (c : MailCall) (at : MailAt) → writing_of (mail_course c at) ≡ mail_writes at
mail_job c MailAt.Next = refl
mail_job c (MailAt.Push key at) = push_job (slab_push (mailbox_word key) c.slab (found_of at)) at

pub adopt_job : (c : AdoptCall) (at : AdoptAt) → writing_of (adopt_course c at) ≡ adopt_writes at
adopt_job c AdoptAt.Take = refl
adopt_job c _ = refl

pub leave_job : (c : LeaveCall) (at : LeaveAt) → writing_of (leave_course c at) ≡ leave_writes at
leave_job c (LeaveAt.Push at) = push_job (slab_push (Word.Orphans c.class) c.slab (found_of at)) at
leave_job c _ = refl

pub bin_job : (c : BinCall) (at : BinAt) → writing_of (bin_course c at) ≡ bin_writes at
bin_job c (BinAt.Insert at) = insert_job (bin_list c) at refl
bin_job c (BinAt.Out at) = remove_job (bin_list c) at refl
bin_job c _ = refl

pub cut_job : (c : CutCall) (at : CutAt) → writing_of (cut_course c at) ≡ cut_writes at
cut_job c (CutAt.Front at) = bin_job (front_call c) at
cut_job c (CutAt.Back at) = bin_job (back_call c) at
cut_job c _ = refl

pub scan_job : (c : ScanCall) (s : ScanAt) (step : ScanStep) → writing_of (scan_step c s step) ≡ scan_writes step
scan_job c s (ScanStep.Win b at) = win_job (win_of b) at
scan_job c s (ScanStep.Out b at) = remove_job (scan_list s b) at refl
scan_job c s _ = refl

pub put_job : (c : PutCall) (p : PutAt) (step : PutStep) → writing_of (put_step c p step) ≡ put_writes step
put_job c p (PutStep.WinLeft granules at) = win_job (left_win p granules) at
put_job c p (PutStep.WinRight granules at) = win_job (right_win p granules) at
put_job c p (PutStep.UnlinkLeft neighbour at) = bin_job (unlink_call c neighbour) at
put_job c p (PutStep.UnlinkRight neighbour at) = bin_job (unlink_call c neighbour) at
put_job c p (PutStep.Queue at) = push_job (queue_push p at) at
put_job c p (PutStep.Bin at) = bin_job (insert_call c p.block) at
put_job c p _ = refl

pub drain_job : (c : DrainCall) (at : DrainAt) → writing_of (drain_course c at) ≡ drain_writes at
drain_job c (DrainAt.Put rest at) = put_job (drained_put c) at at.step
drain_job c _ = refl

pub office_job : (c : OfficeCall) (at : OfficeAt) → writing_of (office_course c at) ≡ office_writes at
office_job c OfficeAt.Lock = refl
office_job c _ = refl

hit_job : (c : CacheCall) (at : HitAt) → writing_of (hit_course c at) ≡ hit_writes at
hit_job c (HitAt.Link items block) = refl
hit_job c _ = refl

pub get_job : (c : CacheCall) (at : GetAt) → writing_of (get_course c at) ≡ get_writes at
get_job c (GetAt.Hit at) = hit_job c at
get_job c _ = refl

pub undo_job : (c : CacheCall) (at : UndoAt) → writing_of (undo_course c at) ≡ undo_writes at
undo_job c UndoAt.Lock = refl
undo_job c _ = refl

cut_behind_job : (granules : ℕ) (kept : Option ℕ) → writing_of (cut_behind granules kept) ≡ cut_behind_writes kept
cut_behind_job granules (Some kept) = refl
cut_behind_job granules None = refl

pub keep_job : (c : KeepCall) (at : KeepAt) → writing_of (keep_course c at) ≡ keep_writes at
keep_job c (KeepAt.Cut tail age) = cut_behind_job c.granules tail.before
keep_job c _ = refl

judge_job : (granules : ℕ) (at : JudgeAt) → writing_of (judge_course granules at) ≡ loads
judge_job granules (JudgeAt.Threshold count) = refl
judge_job granules _ = refl

pub sweep_job : (c : SweepCall) (at : SweepAt) → writing_of (sweep_course c at) ≡ sweep_writes at
sweep_job c (SweepAt.Judge at) = judge_job c.granules at
sweep_job c (SweepAt.Cut walk) = cut_behind_job c.granules walk.kept
sweep_job c _ = refl

pub strip_job : (s : HeapSlab) (at : StripAt) → writing_of (strip_course s at) ≡ strip_writes at
strip_job s (StripAt.Mark object) = refl
strip_job s (StripAt.End object mark) = refl

pub evict_job : (c : EvictCall) (at : EvictAt) → writing_of (evict_course c at) ≡ evict_writes at
evict_job c (EvictAt.Kind granule) = refl
evict_job c _ = refl

number_job : (number : Number) (granules : ℕ) → kind_of_word (number_word number granules) ≡ number_kind number
number_job Number.Items granules = refl
number_job _ granules = refl

pub clear_job : (c : ClearCall) (at : ClearAt) → writing_of (clear_course c at) ≡ clear_writes at
clear_job c (ClearAt.Zero number) = ap (λ which. stores which) (number_job number c.granules)
clear_job c _ = refl

pub unqueue_job : (at : UnqueueAt) → writing_of (unqueue_course at) ≡ unqueue_writes at
unqueue_job UnqueueAt.Take = refl
unqueue_job (UnqueueAt.Link first) = refl

pub unite_job : (c : UniteCall) (at : UniteAt) → writing_of (unite_course c at) ≡ unite_writes at
unite_job c (UniteAt.Size first) = refl
unite_job c (UniteAt.Win b at) = win_job (unite_win b) at
unite_job c (UniteAt.Unlink b at) = bin_job (reset_unlink c b) at
