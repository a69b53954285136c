-- The put of a block in hand.
use Rattle.std.specs.Prelude.{ℕ, ◌+◌, ◌-◌, Bool, true, false, cond, ◌&&◌, Some}
use Rattle.pool_words.specs.declared.words.Word.{Word}
use Rattle.pool_words.specs.declared.actions.Action.{Action}
use Rattle.pool_words.specs.declared.actions.Action.TheVariants.{Load, Store}
use Rattle.word_codes.specs.declared.guards.Guard.{Guard}
use Rattle.word_codes.specs.Guards.{guard_of, guard_word}
use Rattle.word_codes.specs.Links.{link_of, link_word}
use Rattle.word_codes.specs.QueueLinks.{queue_link_word}
use Rattle.pool_types.specs.Sums.{capped}
use Rattle.chain_words.specs.declared.pushing.PushAt.{PushAt}
use Rattle.chain_words.specs.declared.pushing.PushCall.{PushCall}
use Rattle.chain_words.specs.declared.pushing.PushNext.{PushNext}
use Rattle.chain_words.specs.Pushing.{push_course, push_learn, found_of}
use Rattle.guards.specs.declared.win.Side.{Side}
use Rattle.guards.specs.declared.win.Taking.{Taking}
use Rattle.guards.specs.declared.win.WinCall.{WinCall}
use Rattle.guards.specs.declared.win.WinAt.{WinAt}
use Rattle.guards.specs.declared.win.WinNext.{WinNext}
use Rattle.guards.specs.Win.{win_course, win_learn}
use Rattle.backend_bins.specs.declared.blocks.Block.{Block}
use Rattle.backend_bins.specs.declared.bin.BinJob.{BinJob}
use Rattle.backend_bins.specs.declared.bin.BinCall.{BinCall}
use Rattle.backend_bins.specs.declared.bin.BinAt.{BinAt}
use Rattle.backend_bins.specs.declared.bin.BinNext.{BinNext}
use Rattle.backend_bins.specs.Blocks.{block, block_end, bin_of}
use Rattle.backend_bins.specs.Bin.{bin_call, bin_course, bin_learn}
use Rattle.coalescer.specs.declared.put.Beside.{Beside}
use Rattle.coalescer.specs.declared.put.PutCall.{PutCall}
use Rattle.coalescer.specs.declared.put.PutStep.{PutStep}
use Rattle.coalescer.specs.declared.put.PutStep.TheVariants.{Size, Left, LeftWord, WinLeft, UnlinkLeft, RightWord}
use Rattle.coalescer.specs.declared.put.PutStep.TheVariants.{WinRight, UnlinkRight, FarLeft, FarRight, Queue, Bin}
use Rattle.coalescer.specs.declared.put.PutAt.{PutAt}
use Rattle.coalescer.specs.declared.put.PutNext.{PutNext}
use Rattle.coalescer.specs.declared.put.PutNext.TheVariants.{Goes, Waits, Done, Gives}

abbrev pub put_begins : Block → PutAt
put_begins b = record { block = b; left = Beside.Unknown; right = Beside.Unknown; step = Size }

-- the blocks beside this one, by their granules
abbrev pub left_neighbour : PutAt → ℕ → Block
left_neighbour p granules = block (p.block.first - granules) granules

abbrev pub right_neighbour : PutAt → ℕ → Block
right_neighbour p granules = block (block_end p.block) granules

-- of a neighbour, the guard on this block's side is won first
abbrev pub left_win : PutAt → ℕ → WinCall
left_win p granules = record {
  begin = p.block.first - granules;
  end = p.block.first;
  granules = granules;
  first = Side.End;
  taking = Taking.ToJoin;
}

abbrev pub right_win : PutAt → ℕ → WinCall
right_win p granules = record {
  begin = block_end p.block;
  end = capped (block_end p.block + granules);
  granules = granules;
  first = Side.Begin;
  taking = Taking.ToJoin;
}

abbrev pub joined_left : PutAt → ℕ → PutAt
joined_left p granules = record p {
  block = block (p.block.first - granules) (capped (p.block.granules + granules));
  left = Beside.Joined;
}

abbrev pub joined_right : PutAt → ℕ → PutAt
joined_right p granules = record p {
  block = block p.block.first (capped (p.block.granules + granules));
  right = Beside.Joined;
}

abbrev pub unlink_call : PutCall → Block → BinCall
unlink_call c neighbour = bin_call c.seat neighbour BinJob.Unlink

abbrev pub insert_call : PutCall → Block → BinCall
insert_call c b = bin_call c.seat b BinJob.Insert

-- the link of a queued block tells its granules too
abbrev pub queue_link : PutAt → ℕ → ℕ
queue_link p found = queue_link_word (record { next = link_of found; granules = p.block.granules })

abbrev pub push_call : PutAt → PushAt → PushCall
push_call p at = record {
  head = Word.Queue;
  link = Word.QueueLink p.block.first;
  linked = queue_link p (found_of at);
  filled = link_word (Some p.block.first);
}

abbrev pub step_course : PutCall → PutAt → PutStep → Action
step_course c p Size = Store (Word.Size p.block.first) (guard_word Guard.Coalescing)
step_course c p Left = Store (Word.Left (block_end p.block)) (guard_word Guard.Coalescing)
step_course c p LeftWord = Load (Word.Left p.block.first)
step_course c p (WinLeft granules at) = win_course (left_win p granules) at
step_course c p (UnlinkLeft neighbour at) = bin_course (unlink_call c neighbour) at
step_course c p RightWord = Load (Word.Size (block_end p.block))
step_course c p (WinRight granules at) = win_course (right_win p granules) at
step_course c p (UnlinkRight neighbour at) = bin_course (unlink_call c neighbour) at
step_course c p FarLeft = Load (Word.Left p.block.first)
step_course c p FarRight = Load (Word.Size (block_end p.block))
step_course c p (Queue at) = push_course (push_call p at) at
step_course c p (Bin at) = bin_course (insert_call c p.block) at

abbrev pub put_course : PutCall → PutAt → Action
put_course c p = step_course c p p.step

abbrev pub goes : PutAt → PutStep → PutNext
goes p step = Goes (record p { step = step })

abbrev pub bins : PutAt → PutNext
bins p = goes p (Bin BinAt.Lock)

-- a block that comes from the queue goes into its bin in place of the queue
abbrev pub queues : PutCall → PutAt → PutNext
queues c p = cond c.drained (bins p) (goes p (Queue PushAt.Look))

abbrev pub looks_right : PutAt → Beside → PutNext
looks_right p left = goes (record p { left = left }) RightWord

abbrev pub judges_left : PutCall → PutAt → Guard → PutNext
judges_left c p Guard.Used = looks_right p Beside.InUse
judges_left c p Guard.Wall = looks_right p Beside.Wall
judges_left c p Guard.Coalescing = queues c p
judges_left c p (Guard.Free granules) = goes p (WinLeft granules WinAt.First)

abbrev pub wins_left : PutCall → PutAt → ℕ → WinNext → PutNext
wins_left c p granules (WinNext.Goes at) = goes p (WinLeft granules at)
wins_left c p granules WinNext.Won =
    goes (joined_left p granules) (UnlinkLeft (left_neighbour p granules) BinAt.Lock)
wins_left c p granules (WinNext.NotWon found) = judges_left c p (guard_of found)
wins_left c p granules WinNext.GivenBack = queues c p

abbrev pub unlinks_left : PutAt → Block → BinNext → PutNext
unlinks_left p neighbour (BinNext.Goes at) = goes p (UnlinkLeft neighbour at)
unlinks_left p neighbour BinNext.Waits = Waits (bin_of neighbour.granules)
unlinks_left p neighbour BinNext.Done = goes p RightWord

abbrev pub is_free : Beside → Bool
is_free Beside.InUse = false
is_free Beside.Wall = true
is_free Beside.Joined = true
is_free Beside.Unknown = true

-- no block in use was found beside the block
abbrev pub is_walled : PutAt → Bool
is_walled p = is_free p.left && is_free p.right

-- behind a joined block the region's end is looked for; at a wall that was seen nothing is looked at again
abbrev pub right_ends : PutAt → Beside → PutNext
right_ends p Beside.Joined = goes p FarRight
right_ends p Beside.InUse = Gives p.block
right_ends p Beside.Wall = Gives p.block
right_ends p Beside.Unknown = Gives p.block

abbrev pub looks_far_right : PutAt → PutNext
looks_far_right p = right_ends p p.right

abbrev pub left_ends : PutAt → Beside → PutNext
left_ends p Beside.Joined = goes p FarLeft
left_ends p Beside.InUse = looks_far_right p
left_ends p Beside.Wall = looks_far_right p
left_ends p Beside.Unknown = looks_far_right p

abbrev pub looks_far : PutAt → PutNext
looks_far p = left_ends p p.left

abbrev pub sides_known : PutCall → PutAt → PutNext
sides_known c p = cond (c.gives && is_walled p) (looks_far p) (bins p)

-- both ends are known, and the right one is this
abbrev pub ends : PutCall → PutAt → Beside → PutNext
ends c p right = sides_known c (record p { right = right })

abbrev pub sees_far_left : PutAt → Guard → PutNext
sees_far_left p Guard.Wall = looks_far_right p
sees_far_left p Guard.Used = bins p
sees_far_left p Guard.Coalescing = bins p
sees_far_left p (Guard.Free granules) = bins p

abbrev pub sees_far_right : PutAt → Guard → PutNext
sees_far_right p Guard.Wall = Gives p.block
sees_far_right p Guard.Used = bins p
sees_far_right p Guard.Coalescing = bins p
sees_far_right p (Guard.Free granules) = bins p

abbrev pub judges_right : PutCall → PutAt → Guard → PutNext
judges_right c p Guard.Used = ends c p Beside.InUse
judges_right c p Guard.Wall = ends c p Beside.Wall
judges_right c p Guard.Coalescing = queues c p
judges_right c p (Guard.Free granules) = goes p (WinRight granules WinAt.First)

abbrev pub wins_right : PutCall → PutAt → ℕ → WinNext → PutNext
wins_right c p granules (WinNext.Goes at) = goes p (WinRight granules at)
wins_right c p granules WinNext.Won =
    goes (joined_right p granules) (UnlinkRight (right_neighbour p granules) BinAt.Lock)
wins_right c p granules (WinNext.NotWon found) = judges_right c p (guard_of found)
wins_right c p granules WinNext.GivenBack = queues c p

abbrev pub unlinks_right : PutCall → PutAt → Block → BinNext → PutNext
unlinks_right c p neighbour (BinNext.Goes at) = goes p (UnlinkRight neighbour at)
unlinks_right c p neighbour BinNext.Waits = Waits (bin_of neighbour.granules)
unlinks_right c p neighbour BinNext.Done = ends c p Beside.Joined

abbrev pub queue_goes : PutAt → PushNext → PutNext
queue_goes p (PushNext.Goes at) = goes p (Queue at)
queue_goes p (PushNext.Pushed found) = Done

abbrev pub bin_goes : PutAt → BinNext → PutNext
bin_goes p (BinNext.Goes at) = goes p (Bin at)
bin_goes p BinNext.Waits = Waits (bin_of p.block.granules)
bin_goes p BinNext.Done = Done

abbrev pub step_learn : PutCall → PutAt → PutStep → ℕ → PutNext
step_learn c p Size found = goes p Left
step_learn c p Left found = goes p LeftWord
step_learn c p LeftWord found = judges_left c p (guard_of found)
step_learn c p (WinLeft granules at) found = wins_left c p granules (win_learn (left_win p granules) at found)
step_learn c p (UnlinkLeft neighbour at) found =
    unlinks_left p neighbour (bin_learn (unlink_call c neighbour) at found)
step_learn c p RightWord found = judges_right c p (guard_of found)
step_learn c p (WinRight granules at) found = wins_right c p granules (win_learn (right_win p granules) at found)
step_learn c p (UnlinkRight neighbour at) found =
    unlinks_right c p neighbour (bin_learn (unlink_call c neighbour) at found)
step_learn c p FarLeft found = sees_far_left p (guard_of found)
step_learn c p FarRight found = sees_far_right p (guard_of found)
step_learn c p (Queue at) found = queue_goes p (push_learn at found)
step_learn c p (Bin at) found = bin_goes p (bin_learn (insert_call c p.block) at found)

abbrev pub put_learn : PutCall → PutAt → ℕ → PutNext
put_learn c p found = step_learn c p p.step found
