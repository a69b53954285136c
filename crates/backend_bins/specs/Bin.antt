-- A block in hand is put into its bin, and a block that was won is taken out of it.
use Rattle.std.specs.Prelude.{ℕ}
use Rattle.pool_words.specs.declared.words.Word.{Word}
use Rattle.pool_words.specs.declared.actions.Action.{Action}
use Rattle.pool_words.specs.declared.actions.Action.TheVariants.{Store}
use Rattle.word_codes.specs.declared.guards.Guard.{Guard}
use Rattle.word_codes.specs.Guards.{guard_word}
use Rattle.locked_chain.specs.declared.ListCall.{ListCall}
use Rattle.locked_chain.specs.declared.lock.Lock.{Lock}
use Rattle.locked_chain.specs.declared.lock.LockNext.{LockNext}
use Rattle.locked_chain.specs.declared.insert.InsertAt.{InsertAt}
use Rattle.locked_chain.specs.declared.insert.InsertNext.{InsertNext}
use Rattle.locked_chain.specs.declared.remove.RemoveAt.{RemoveAt}
use Rattle.locked_chain.specs.declared.remove.RemoveNext.{RemoveNext}
use Rattle.locked_chain.specs.Locks.{lock_course, lock_learn, unlock_course}
use Rattle.locked_chain.specs.Insert.{insert_course, insert_learn}
use Rattle.locked_chain.specs.Remove.{remove_course, remove_learn}
use Rattle.backend_bins.specs.declared.blocks.Block.{Block}
use Rattle.backend_bins.specs.declared.bin.BinJob.{BinJob}
use Rattle.backend_bins.specs.declared.bin.BinCall.{BinCall}
use Rattle.backend_bins.specs.declared.bin.BinAt.{BinAt}
use Rattle.backend_bins.specs.declared.bin.BinAt.TheVariants.{Lock as TakeLock, Size, Left, Insert, Out, Unlock}
use Rattle.backend_bins.specs.declared.bin.BinNext.{BinNext}
use Rattle.backend_bins.specs.declared.bin.BinNext.TheVariants.{Goes, Waits, Done}
use Rattle.backend_bins.specs.Blocks.{block_end, bin_of}

abbrev pub bin_call : ℕ → Block → BinJob → BinCall
bin_call seat b job = record { seat = seat; block = b; job = job }

abbrev pub bin_lock : BinCall → Lock
bin_lock c = record { word = Word.BinLock (bin_of c.block.granules); seat = c.seat }

abbrev pub bin_list : BinCall → ListCall
bin_list c = record { head = Word.BinHead (bin_of c.block.granules); item = c.block.first }

abbrev pub free_guard : BinCall → ℕ
free_guard c = guard_word (Guard.Free c.block.granules)

abbrev pub bin_course : BinCall → BinAt → Action
bin_course c TakeLock = lock_course (bin_lock c)
bin_course c Size = Store (Word.Size c.block.first) (free_guard c)
bin_course c Left = Store (Word.Left (block_end c.block)) (free_guard c)
bin_course c (Insert at) = insert_course (bin_list c) at
bin_course c (Out at) = remove_course (bin_list c) at
bin_course c Unlock = unlock_course (bin_lock c)

-- the guards say free before the block is put into the list
abbrev pub job_begins : BinJob → BinNext
job_begins BinJob.Insert = Goes Size
job_begins BinJob.Unlink = Goes (Out RemoveAt.Forward)

abbrev pub lock_tried : BinCall → LockNext → BinNext
lock_tried c LockNext.Won = job_begins c.job
lock_tried c LockNext.Waits = Waits

abbrev pub insert_goes : InsertNext → BinNext
insert_goes (InsertNext.Goes at) = Goes (Insert at)
insert_goes InsertNext.Inserted = Goes Unlock

abbrev pub out_goes : RemoveNext → BinNext
out_goes (RemoveNext.Goes at) = Goes (Out at)
out_goes RemoveNext.Out = Goes Unlock

abbrev pub bin_learn : BinCall → BinAt → ℕ → BinNext
bin_learn c TakeLock found = lock_tried c (lock_learn (bin_lock c) found)
bin_learn c Size found = Goes Left
bin_learn c Left found = Goes (Insert InsertAt.Head)
bin_learn c (Insert at) found = insert_goes (insert_learn at found)
bin_learn c (Out at) found = out_goes (remove_learn at found)
bin_learn c Unlock found = Done
