-- What a position writes is of one of the kinds that its job writes.
use Rattle.std.proofs.Common.{◌≡◌, ℕ, true, false, List, [], ◌∷◌, refl, ap, ◌∙◌}
use Rattle.std.specs.Prelude.{Option, Some, None}
use Rattle.pool_words.specs.declared.words.Key.{Key}
use Rattle.pool_words.specs.Words.{WordKind, mailboxes, nexts, orphans, publics, marks, owns, queues, cache_heads}
use Rattle.pool_words.specs.Words.{cache_links}
use Rattle.word_codes.specs.Links.{link_of}
use Rattle.word_laws.specs.Memory.{Mem, after}
use Rattle.chain_words.specs.declared.pushing.PushAt.{PushAt}
use Rattle.locked_chain.specs.declared.insert.InsertAt.{InsertAt}
use Rattle.locked_chain.specs.declared.remove.RemoveAt.{RemoveAt}
use Rattle.guards.specs.declared.win.Side.{Side}
use Rattle.guards.specs.declared.win.WinAt.{WinAt}
use Rattle.public_list.specs.declared.ending.EndAt.{EndAt}
use Rattle.public_list.specs.declared.joining.JoinAt.{JoinAt}
use Rattle.public_list.specs.declared.posting.PostAt.{PostAt}
use Rattle.mailbox.specs.declared.boxes.BoxAt.{BoxAt}
use Rattle.mailbox.specs.declared.mailing.MailAt.{MailAt}
use Rattle.orphans.specs.declared.adopting.AdoptAt.{AdoptAt}
use Rattle.orphans.specs.declared.leaving.LeaveAt.{LeaveAt}
use Rattle.backend_bins.specs.declared.bin.BinAt.{BinAt}
use Rattle.backend_bins.specs.declared.cut.CutAt.{CutAt}
use Rattle.backend_bins.specs.declared.scan.ScanStep.{ScanStep}
use Rattle.coalescer.specs.declared.drain.DrainAt.{DrainAt}
use Rattle.coalescer.specs.declared.put.PutStep.{PutStep}
use Rattle.region_steps.specs.declared.office.OfficeAt.{OfficeAt}
use Rattle.large_cache.specs.declared.get.GetAt.{GetAt}
use Rattle.large_cache.specs.declared.get.HitAt.{HitAt}
use Rattle.large_cache.specs.declared.keep.KeepAt.{KeepAt}
use Rattle.large_cache.specs.declared.sweep.SweepAt.{SweepAt}
use Rattle.large_cache.specs.declared.undo.UndoAt.{UndoAt}
use Rattle.reset_steps.specs.declared.clear.ClearAt.{ClearAt}
use Rattle.reset_steps.specs.declared.clear.Number.{Number}
use Rattle.reset_steps.specs.declared.evict.EvictAt.{EvictAt}
use Rattle.reset_steps.specs.declared.strip.StripAt.{StripAt}
use Rattle.reset_steps.specs.declared.unite.UniteAt.{UniteAt}
use Rattle.reset_steps.specs.declared.unqueue.UnqueueAt.{UnqueueAt}
use Rattle.step_local.specs.declared.frames.At.{At}
use Rattle.step_local.specs.declared.frames.LargeAt.{LargeAt}
use Rattle.step_local.specs.declared.frames.Local.{Local}
use Rattle.step_local.specs.declared.frames.ResetAt.{ResetAt}
use Rattle.step_local.specs.declared.frames.SmallAt.{SmallAt}
use Rattle.step_local.specs.Course.{course_at}
use Rattle.step_writes.specs.Jobs.{push_writes, insert_writes, skip_writes, remove_writes, win_writes}
use Rattle.step_writes.specs.Jobs.{end_writes, post_writes, join_writes, box_writes, mail_writes, adopt_writes}
use Rattle.step_writes.specs.Jobs.{leave_writes, bin_writes, cut_writes, scan_writes, put_writes, drain_writes}
use Rattle.step_writes.specs.Jobs.{office_writes, hit_writes, get_writes, undo_writes, cut_behind_writes, keep_writes}
use Rattle.step_writes.specs.Jobs.{sweep_writes, strip_writes, evict_writes, number_kind, clear_writes}
use Rattle.step_writes.specs.Jobs.{unqueue_writes, unite_writes}
use Rattle.step_writes.specs.Kinds.{join_kinds, leave_kinds, guard_kinds, remove_kinds, bin_kinds, put_kinds}
use Rattle.step_writes.specs.Kinds.{undo_kinds, get_kinds, keep_kinds, sweep_kinds, office_kinds, small_kinds}
use Rattle.step_writes.specs.Kinds.{large_kinds, reset_kinds, kinds_at}
use Rattle.step_writes.specs.Laws.{JobsWriteTheirKinds, OtherJobsLeaveKinds}
use Rattle.step_writes.specs.Positions.{small_writes, large_writes, reset_writes, writes_at}
use Rattle.step_writes.specs.Writings.{Writing, writing_of, has_kind, share_kind, writes_one_of, writes_only}
use Rattle.step_writes.proofs.Actions.{other_kinds_stand}
use Rattle.step_writes.proofs.Lists.{only_more, writes_none}
use Rattle.step_writes.proofs.Positions.{each_step_writes_its_kind}

push_only : (head link : WordKind) (kinds : List WordKind) (at : PushAt) → has_kind head kinds ≡ true
    → has_kind link kinds ≡ true → writes_only kinds (push_writes head link at) ≡ true
push_only head link kinds PushAt.Look has_head has_link = refl
push_only head link kinds (PushAt.Link found) has_head has_link = has_link
push_only head link kinds (PushAt.Exchange found) has_head has_link = has_head

insert_only : (at : InsertAt) → writes_only remove_kinds (insert_writes at) ≡ true
insert_only InsertAt.Head = refl
insert_only _ = refl

skip_only : (before : Option ℕ) → writes_only remove_kinds (skip_writes before) ≡ true
skip_only (Some before) = refl
skip_only None = refl

remove_only : (at : RemoveAt) → writes_only remove_kinds (remove_writes at) ≡ true
remove_only (RemoveAt.Skip forward backward) = skip_only (link_of backward)
remove_only _ = refl

win_only : (side : Side) (at : WinAt) → writes_only guard_kinds (win_writes side at) ≡ true
win_only Side.Begin WinAt.First = refl
win_only Side.Begin WinAt.Second = refl
win_only Side.Begin WinAt.Back = refl
win_only Side.End WinAt.First = refl
win_only Side.End WinAt.Second = refl
win_only Side.End WinAt.Back = refl

end_only : (at : EndAt) → writes_only (marks ∷ []) (end_writes at) ≡ true
end_only EndAt.Own = refl
end_only _ = refl

post_only : (at : PostAt) → writes_only join_kinds (post_writes at) ≡ true
post_only (PostAt.Push at) = push_only publics marks join_kinds at refl refl

join_only : (at : JoinAt) → writes_only join_kinds (join_writes at) ≡ true
join_only JoinAt.Take = refl
join_only _ = refl

box_only : (at : BoxAt) → writes_only (mailboxes ∷ nexts ∷ join_kinds) (box_writes at) ≡ true
box_only (BoxAt.Join slab rest at) =
    only_more join_kinds (mailboxes ∷ nexts ∷ join_kinds) (join_writes at) refl (join_only at)
box_only _ = refl

mail_only : (at : MailAt) → writes_only (mailboxes ∷ nexts ∷ []) (mail_writes at) ≡ true
mail_only MailAt.Next = refl
mail_only (MailAt.Push key at) = push_only mailboxes nexts (mailboxes ∷ nexts ∷ []) at refl refl

adopt_only : (at : AdoptAt) → writes_only (orphans ∷ nexts ∷ owns ∷ []) (adopt_writes at) ≡ true
adopt_only AdoptAt.Take = refl
adopt_only _ = refl

leave_only : (at : LeaveAt) → writes_only leave_kinds (leave_writes at) ≡ true
leave_only (LeaveAt.Push at) = push_only orphans nexts leave_kinds at refl refl
leave_only _ = refl

bin_only : (at : BinAt) → writes_only bin_kinds (bin_writes at) ≡ true
bin_only (BinAt.Insert at) = only_more remove_kinds bin_kinds (insert_writes at) refl (insert_only at)
bin_only (BinAt.Out at) = only_more remove_kinds bin_kinds (remove_writes at) refl (remove_only at)
bin_only _ = refl

cut_only : (at : CutAt) → writes_only bin_kinds (cut_writes at) ≡ true
cut_only (CutAt.Front at) = bin_only at
cut_only (CutAt.Back at) = bin_only at
cut_only _ = refl

scan_only : (step : ScanStep) → writes_only bin_kinds (scan_writes step) ≡ true
scan_only (ScanStep.Win b at) =
    only_more guard_kinds bin_kinds (win_writes Side.Begin at) refl (win_only Side.Begin at)
scan_only (ScanStep.Out b at) = only_more remove_kinds bin_kinds (remove_writes at) refl (remove_only at)
scan_only _ = refl

put_only : (step : PutStep) → writes_only put_kinds (put_writes step) ≡ true
put_only (PutStep.WinLeft granules at) =
    only_more guard_kinds put_kinds (win_writes Side.End at) refl (win_only Side.End at)
put_only (PutStep.WinRight granules at) =
    only_more guard_kinds put_kinds (win_writes Side.Begin at) refl (win_only Side.Begin at)
put_only (PutStep.UnlinkLeft neighbour at) = only_more bin_kinds put_kinds (bin_writes at) refl (bin_only at)
put_only (PutStep.UnlinkRight neighbour at) = only_more bin_kinds put_kinds (bin_writes at) refl (bin_only at)
put_only (PutStep.Queue at) = push_only _ _ put_kinds at refl refl
put_only (PutStep.Bin at) = only_more bin_kinds put_kinds (bin_writes at) refl (bin_only at)
put_only _ = refl

drain_only : (at : DrainAt) → writes_only put_kinds (drain_writes at) ≡ true
drain_only (DrainAt.Put rest at) = put_only at.step
drain_only _ = refl

office_only : (at : OfficeAt) → writes_only office_kinds (office_writes at) ≡ true
office_only OfficeAt.Lock = refl
office_only _ = refl

hit_only : (at : HitAt) → writes_only get_kinds (hit_writes at) ≡ true
hit_only (HitAt.Link items block) = refl
hit_only _ = refl

get_only : (at : GetAt) → writes_only get_kinds (get_writes at) ≡ true
get_only (GetAt.Hit at) = hit_only at
get_only _ = refl

undo_only : (at : UndoAt) → writes_only undo_kinds (undo_writes at) ≡ true
undo_only UndoAt.Lock = refl
undo_only _ = refl

cut_behind_only : (kept : Option ℕ) → writes_only (cache_heads ∷ cache_links ∷ []) (cut_behind_writes kept) ≡ true
cut_behind_only (Some kept) = refl
cut_behind_only None = refl

keep_only : (at : KeepAt) → writes_only keep_kinds (keep_writes at) ≡ true
keep_only (KeepAt.Cut tail age) =
    only_more (cache_heads ∷ cache_links ∷ []) keep_kinds (cut_behind_writes tail.before) refl
    (cut_behind_only tail.before)
keep_only _ = refl

sweep_only : (at : SweepAt) → writes_only sweep_kinds (sweep_writes at) ≡ true
sweep_only (SweepAt.Cut walk) =
    only_more (cache_heads ∷ cache_links ∷ []) sweep_kinds (cut_behind_writes walk.kept) refl
    (cut_behind_only walk.kept)
sweep_only _ = refl

number_has : (number : Number) → has_kind (number_kind number) get_kinds ≡ true
number_has Number.Items = refl
number_has _ = refl

clear_only : (at : ClearAt) → writes_only get_kinds (clear_writes at) ≡ true
clear_only (ClearAt.Zero number) = number_has number
clear_only _ = refl

strip_only : (at : StripAt) → writes_only (marks ∷ []) (strip_writes at) ≡ true
strip_only (StripAt.Mark object) = refl
strip_only (StripAt.End object mark) = refl

evict_only : (at : EvictAt) → writes_only (marks ∷ []) (evict_writes at) ≡ true
evict_only (EvictAt.Kind granule) = refl
evict_only _ = refl

unqueue_only : (at : UnqueueAt) → writes_only (queues ∷ []) (unqueue_writes at) ≡ true
unqueue_only UnqueueAt.Take = refl
unqueue_only (UnqueueAt.Link first) = refl

unite_only : (at : UniteAt) → writes_only bin_kinds (unite_writes at) ≡ true
unite_only (UniteAt.Size first) = refl
unite_only (UniteAt.Win b at) =
    only_more guard_kinds bin_kinds (win_writes Side.Begin at) refl (win_only Side.Begin at)
unite_only (UniteAt.Unlink b at) = bin_only at

small_only : (at : SmallAt) → writes_only (small_kinds at) (small_writes at) ≡ true
small_only (SmallAt.Uncache slab) = refl
small_only _ = refl

large_only : (at : LargeAt) → writes_only (large_kinds at) (large_writes at) ≡ true
large_only LargeAt.Tick = refl
large_only _ = refl

reset_only : (at : ResetAt) → writes_only (reset_kinds at) (reset_writes at) ≡ true
reset_only (ResetAt.Strip slab at) = strip_only at
reset_only (ResetAt.Seek at) = refl
reset_only (ResetAt.Evict region at) = evict_only at
reset_only (ResetAt.Clear granules at) = clear_only at
reset_only (ResetAt.Unqueue at) = unqueue_only at
reset_only (ResetAt.Unite region at) = unite_only at
reset_only (ResetAt.Bin at) = bin_only at

pub jobs_write_their_kinds : JobsWriteTheirKinds
jobs_write_their_kinds At.Idle = refl
jobs_write_their_kinds (At.Ready answer) = refl
jobs_write_their_kinds (At.Look at) = refl
jobs_write_their_kinds (At.End at) = end_only at
jobs_write_their_kinds (At.Post at) = post_only at
jobs_write_their_kinds (At.Mail at) = mail_only at
jobs_write_their_kinds (At.Mailbox at) = box_only at
jobs_write_their_kinds (At.Adopt at) = adopt_only at
jobs_write_their_kinds (At.Join slab rest at) = join_only at
jobs_write_their_kinds (At.Spare at) = leave_only at
jobs_write_their_kinds (At.Leave slab at) = leave_only at
jobs_write_their_kinds (At.Locate at) = refl
jobs_write_their_kinds (At.Small at) = small_only at
jobs_write_their_kinds (At.Large at) = large_only at
jobs_write_their_kinds (At.Get at) = get_only at
jobs_write_their_kinds (At.Undo cause at) = undo_only at
jobs_write_their_kinds (At.Keep at) = keep_only at
jobs_write_their_kinds (At.Sweep at) = sweep_only at
jobs_write_their_kinds (At.Scan at) = scan_only at.step
jobs_write_their_kinds (At.Cut at) = cut_only at
jobs_write_their_kinds At.Queue = refl
jobs_write_their_kinds (At.Whole at) = bin_only at
jobs_write_their_kinds (At.Drain at) = drain_only at
jobs_write_their_kinds (At.Put at) = put_only at.step
jobs_write_their_kinds (At.Office job at) = office_only at
jobs_write_their_kinds (At.Reset at) = reset_only at

-- the same by what a position writes, where the job alone does not tell
pub other_step : (l : Local) (at : At) (ours : List WordKind) → writes_one_of ours (writes_at at) ≡ false
    → writes_one_of ours (writing_of (course_at l at)) ≡ false
other_step l at ours none = ap (λ (w : Writing). writes_one_of ours w) (each_step_writes_its_kind l at) ∙ none

pub other_jobs_leave_kinds : OtherJobsLeaveKinds
other_jobs_leave_kinds l at ours none =
    other_step l at ours (writes_none ours (kinds_at at) (writes_at at) none (jobs_write_their_kinds at))

-- the words of one kind, as a function of their indices, after a step of a job that writes none of them
pub other_kind_stands : (k : Key) (m : Mem) (l : Local) (at : At) (ours : List WordKind) (which : WordKind)
    → share_kind ours (kinds_at at) ≡ false → has_kind which ours ≡ true → after k m (course_at l at) which ≡ m which
other_kind_stands k m l at ours which none has =
    other_kinds_stand k m (course_at l at) ours which (other_jobs_leave_kinds l at ours none) has
