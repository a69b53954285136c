-- What looks and ends of grants come to.
use Rattle.std.specs.Prelude.{ℕ, cond, Option, Some, None}
use Rattle.pool_types.specs.declared.values.Answer.{Answer}
use Rattle.pool_types.specs.declared.values.Request.{Request}
use Rattle.pool_types.specs.declared.values.Turn.{Turn}
use Rattle.backend_bins.specs.declared.blocks.Block.{Block}
use Rattle.chain_words.specs.declared.pushing.PushAt.{PushAt}
use Rattle.heap_slabs.specs.declared.records.HeapSlab.{HeapSlab}
use Rattle.heap_slabs.specs.Records.{after_free, is_unused}
use Rattle.heap_slabs.specs.Slabs.{record_at, after_replace}
use Rattle.mailbox.specs.declared.mailing.MailAt.{MailAt}
use Rattle.mailbox.specs.declared.mailing.MailCall.{MailCall}
use Rattle.mailbox.specs.declared.mailing.MailNext.{MailNext}
use Rattle.mailbox.specs.Mailing.{mail_learn}
use Rattle.public_list.specs.declared.ending.EndAt.{EndAt}
use Rattle.public_list.specs.declared.ending.EndNext.{EndNext}
use Rattle.public_list.specs.declared.looking.LookAt.{LookAt}
use Rattle.public_list.specs.declared.looking.LookCall.{LookCall}
use Rattle.public_list.specs.declared.looking.LookFor.{LookFor}
use Rattle.public_list.specs.declared.looking.LookNext.{LookNext}
use Rattle.public_list.specs.declared.posting.PostAt.{PostAt}
use Rattle.public_list.specs.declared.posting.PostCall.{PostCall}
use Rattle.public_list.specs.declared.posting.PostNext.{PostNext}
use Rattle.public_list.specs.Ending.{end_learn}
use Rattle.public_list.specs.Looking.{look_learn}
use Rattle.public_list.specs.Posting.{post_learn}
use Rattle.word_codes.specs.declared.kinds.Kind.{Kind}
use Rattle.step_local.specs.declared.frames.At.{At}
use Rattle.step_local.specs.declared.frames.LargeAt.{LargeAt}
use Rattle.step_local.specs.declared.frames.Local.{Local}
use Rattle.step_local.specs.declared.frames.SmallAt.{SmallAt}
use Rattle.step_local.specs.declared.frames.Stage.{Stage}
use Rattle.step_local.specs.Frames.{no_block}
use Rattle.step_local.specs.Answers.{gone, answered, usable_of, not_held_as, slab_of, ended_object, end_call, ending}
use Rattle.step_local.specs.Answers.{ended, lost_end}
use Rattle.step_local.specs.Getting.{decided}

-- what a look is for
abbrev pub look_reason : Request → LookFor
look_reason (Request.Msize place) = LookFor.Size
look_reason (Request.Identify place) = LookFor.Pool
look_reason (Request.Realloc place size) = LookFor.Realloc
look_reason (Request.AlignedRealloc place size alignment) = LookFor.Realloc
look_reason (Request.Malloc size) = LookFor.Free
look_reason (Request.Aligned size alignment) = LookFor.Free
look_reason (Request.Free place) = LookFor.Free
look_reason Request.Exit = LookFor.Free

abbrev pub look_call : Local → LookCall
look_call l = record {
  number = l.call.old.number;
  offset = l.call.old.offset;
  reason = look_reason l.call.request;
}

-- an object is held at the place
abbrev pub held_as : Local → ℕ → Request → Local × Turn
held_as l base (Request.Msize place) = answered l (Answer.Size (usable_of l.call.old.kind l.call.old.unit))
held_as l base (Request.Identify place) = answered l (Answer.Pool l.key.pool)
held_as l base (Request.Realloc place size) = decided l size None base
held_as l base (Request.AlignedRealloc place size alignment) = decided l size (Some alignment) base
held_as l base (Request.Malloc size) = ending l Stage.Ending
held_as l base (Request.Aligned size alignment) = ending l Stage.Ending
held_as l base (Request.Free place) = ending l Stage.Ending
held_as l base Request.Exit = ending l Stage.Ending

abbrev pub held : Local → ℕ → Local × Turn
held l base = held_as l base l.call.request

abbrev pub looked_as : Local → LookNext → Local × Turn
looked_as l (LookNext.Goes at) = gone l (At.Look at)
looked_as l (LookNext.Held unit mark kind base) = held (record l {
  call = record l.call { old = record l.call.old { unit = unit; mark = mark; kind = kind } };
}) base
looked_as l LookNext.Differs = answered l Answer.NoPool
looked_as l (LookNext.NotHeld found) = answered l (not_held_as l.call.request found)

abbrev pub look_learn_of : Local → LookAt → ℕ → Local × Turn
look_learn_of l at f = looked_as l (look_learn (look_call l) at f)

-- the block of a large object
abbrev pub block_in : Kind → Block
block_in (Kind.Large first granules) = record { first = first; granules = granules }
block_in Kind.Nothing = no_block
block_in (Kind.Slab class) = no_block
block_in Kind.CachedSlab = no_block

-- the object is the newest private one of its slab; a slab without a held object ends
abbrev pub freed_slab : Local → ℕ → HeapSlab → Local × Turn
freed_slab l slab kept =
    let l' : Local = record l { heap = record l.heap { slabs = after_replace l.heap.slabs kept } } in
    cond (is_unused kept) (gone l' (At.Small (SmallAt.Empty slab))) (ended l')

abbrev pub freed_in : Local → ℕ → ℕ → Option HeapSlab → Local × Turn
freed_in l unit slab (Some kept) = freed_slab l slab (after_free kept unit)
freed_in l unit slab None = ended l

abbrev pub freed_at : Local → ℕ → ℕ → Local × Turn
freed_at l unit slab = freed_in l unit slab (record_at l.heap.slabs.records slab)

abbrev pub freed_own : Local → Local × Turn
freed_own l = freed_at l (ended_object l).unit (slab_of (ended_object l).unit)

abbrev pub end_as : Local → EndNext → Local × Turn
end_as l (EndNext.Goes at) = gone l (At.End at)
end_as l EndNext.Own = freed_own l
end_as l EndNext.Other = gone l (At.Post (PostAt.Push PushAt.Look))
end_as l EndNext.Large =
    gone (record l { call = record l.call { block = block_in (ended_object l).kind } }) (At.Large LargeAt.Tick)
end_as l (EndNext.NotHeld found) = lost_end l found

abbrev pub end_learn_of : Local → EndAt → ℕ → Local × Turn
end_learn_of l at f = end_as l (end_learn (end_call l) at f)

abbrev pub post_call : Local → PostCall
post_call l = record { unit = (ended_object l).unit; slab = slab_of (ended_object l).unit }

abbrev pub post_as : Local → PostNext → Local × Turn
post_as l (PostNext.Goes at) = gone l (At.Post at)
post_as l PostNext.Listed = ended l
post_as l PostNext.Owed = gone l (At.Mail MailAt.Next)

abbrev pub post_learn_of : Local → PostAt → ℕ → Local × Turn
post_learn_of l at f = post_as l (post_learn at f)

abbrev pub mail_call : Local → MailCall
mail_call l = record { slab = slab_of (ended_object l).unit }

abbrev pub mail_as : Local → MailNext → Local × Turn
mail_as l (MailNext.Goes at) = gone l (At.Mail at)
mail_as l MailNext.Mailed = ended l

abbrev pub mail_learn_of : Local → MailAt → ℕ → Local × Turn
mail_learn_of l at f = mail_as l (mail_learn at f)
