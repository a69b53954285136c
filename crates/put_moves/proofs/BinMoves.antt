-- Steps of the whole in bins, of a seat that has blocks in hand.
use Rattle.std.proofs.Common.{◌≡◌, ◌+◌, ◌<◌, ℕ, refl}
use Rattle.pool_types.specs.Geometry.{bin_count}
use Rattle.pool_words.specs.declared.words.Key.{Key}
use Rattle.pool_words.specs.declared.words.Word.{Word}
use Rattle.pool_words.specs.declared.actions.Action.{Action}
use Rattle.pool_words.specs.declared.actions.Action.TheVariants.{Store}
use Rattle.word_codes.specs.declared.guards.Guard.{Guard}
use Rattle.word_codes.specs.Guards.{guard_word}
use Rattle.guards.specs.declared.win.Side.{Side}
use Rattle.guards.specs.declared.win.Taking.{Taking}
use Rattle.locked_chain.specs.declared.insert.InsertAt.{InsertAt}
use Rattle.locked_chain.specs.declared.insert.InsertNext.{InsertNext}
use Rattle.locked_chain.specs.declared.remove.RemoveAt.{RemoveAt}
use Rattle.locked_chain.specs.declared.remove.RemoveNext.{RemoveNext}
use Rattle.locked_chain.specs.Insert.{insert_course, insert_learn}
use Rattle.locked_chain.specs.Locks.{lock_course, lock_learn, unlock_course}
use Rattle.locked_chain.specs.Remove.{remove_course, remove_learn}
use Rattle.backend_bins.specs.Blocks.{bin_of}
use Rattle.word_laws.specs.Memory.{Mem, after, found, put}
use Rattle.word_laws.proofs.CallerLemmas.{put_here}
use Rattle.chain_laws.specs.Chains.{tally}
use Rattle.lock_laws.specs.Locks.{lock_by}
use Rattle.lock_laws.specs.Seats.{items_inserted, items_removed, list_call}
use Rattle.guard_laws.specs.Blocks as blocks
use Rattle.guard_laws.specs.Blocks.{Place, Shadow, Standing, Use}
use Rattle.guard_laws.specs.Steps.{GuardStep, with_edge, with_use}
use Rattle.bin_laws.specs.Bins as binning
use Rattle.bin_laws.specs.Bins.{Member, bin_words}
use Rattle.bin_laws.specs.Steps.{BinStep, member_linked, member_unlinked, task_leaves, task_linked, task_locked}
use Rattle.bin_laws.specs.Steps.{task_unlinked, with_bin}
use Rattle.queue_laws.specs.Queue as queues
use Rattle.queue_laws.specs.Steps.{IsIdle}
use Rattle.free_laws.specs.Spaces.{bin_tasks, bins_of}
use Rattle.free_laws.specs.Steps.{IsAtBins, with_bins, with_guards}
use Rattle.pool_laws.specs.Changes.{with_space}
use Rattle.pool_laws.specs.Steps.{WholeStep}
use Rattle.pool_laws.specs.Wholes.{Whole, space_of}
use Rattle.seat_ties.specs.Turns.{stays, steps_on}
use Rattle.put_moves.proofs.Frame.{Now, SameElse, Steps, Tasks, tasks}
use Rattle.put_moves.proofs.GuardMoves.{free, same_guards}

same_bins : (h : binning.Shadow) (m : Mem) (l : binning.Locals) (w : Whole)
    → SameElse w (with_space (with_bins h m l (space_of w)) w)
same_bins h m l w = record {
  locals = refl;
  kept = refl;
  cached = refl;
  jobs = refl;
  desks = refl;
  office = refl;
  settled = refl;
  mails = refl;
  tasks = refl;
  spares = refl;
}

abbrev pub in_bins : binning.Task → queues.Task → Tasks
in_bins bin line = tasks blocks.Task.Away bin line

-- one step in bins, by which the seat has this to do there, and nothing at guards
one_step : (k : Key) (w : Whole) (seat : ℕ) (t : Tasks) (bin : binning.Task) (action : Action) (h : binning.Shadow)
    (l' : binning.Locals) → Now w seat t → IsIdle t.line
    → (step : BinStep k seat (bins_of (space_of w)) w.pool.mem (bin_tasks (space_of w)) h
    (after k w.pool.mem action) l')
    → IsAtBins k seat (space_of w) h (after k w.pool.mem action) l' step → l'.guards seat ≡ blocks.Task.Away
    → l'.bins seat ≡ bin → Steps k w seat action (in_bins bin t.line) h.guards.place (w.drained seat)
one_step k w seat t bin action h l' now idle step at away is =
    let m' : Mem = after k w.pool.mem action in
    record {
      later = with_space (with_bins h m' l' (space_of w)) w;
      run = steps_on stays (WholeStep.bins h m' l' step at (free w seat t now idle));
      words = refl;
      guards = away;
      bins = is;
      queue = now.queue;
      same = same_bins h m' l' w;
      place = refl;
      drained = refl;
    }

-- the lock of a bin is taken, or the seat waits
pub takes : (k : Key) (w : Whole) (seat b : ℕ) (line : queues.Task) → Now w seat (in_bins binning.Task.Away line)
    → IsIdle line → b < bin_count
    → Steps k w seat (lock_course (lock_by bin_words.lock seat b))
    (in_bins (task_locked b (lock_learn (lock_by bin_words.lock seat b)
    (found w.pool.mem (lock_course (lock_by bin_words.lock seat b))))) line) w.pool.blocks.place (w.drained seat)
takes k w seat b line now idle some =
    let task : binning.Task = task_locked b (lock_learn (lock_by bin_words.lock seat b)
    (found w.pool.mem (lock_course (lock_by bin_words.lock seat b)))) in
    one_step k w seat (in_bins binning.Task.Away line) task (lock_course (lock_by bin_words.lock seat b))
    (bins_of (space_of w)) (with_bin seat task (bin_tasks (space_of w))) now idle
    (BinStep.takes b some now.bins) now.guards now.guards (put_here w.bins seat seat task refl)

-- and that of a block that was won
pub leaves : (k : Key) (w : Whole) (seat x n : ℕ) (line : queues.Task)
    → Now w seat (in_bins (binning.Task.Won x n) line) → IsIdle line
    → Steps k w seat (lock_course (lock_by bin_words.lock seat (bin_of n)))
    (in_bins (task_leaves x n (lock_learn (lock_by bin_words.lock seat (bin_of n))
    (found w.pool.mem (lock_course (lock_by bin_words.lock seat (bin_of n)))))) line) w.pool.blocks.place
    (w.drained seat)
leaves k w seat x n line now idle =
    let task : binning.Task = task_leaves x n (lock_learn (lock_by bin_words.lock seat (bin_of n))
    (found w.pool.mem (lock_course (lock_by bin_words.lock seat (bin_of n))))) in
    one_step k w seat (in_bins (binning.Task.Won x n) line) task
    (lock_course (lock_by bin_words.lock seat (bin_of n))) (bins_of (space_of w))
    (with_bin seat task (bin_tasks (space_of w))) now idle (BinStep.leaves x n now.bins) now.guards now.guards
    (put_here w.bins seat seat task refl)

pub frees : (k : Key) (w : Whole) (seat b : ℕ) (line : queues.Task) → Now w seat (in_bins (binning.Task.Has b) line)
    → IsIdle line
    → Steps k w seat (unlock_course (lock_by bin_words.lock seat b)) (in_bins binning.Task.Away line)
    w.pool.blocks.place (w.drained seat)
frees k w seat b line now idle =
    one_step k w seat (in_bins (binning.Task.Has b) line) binning.Task.Away
    (unlock_course (lock_by bin_words.lock seat b)) (bins_of (space_of w))
    (with_bin seat binning.Task.Away (bin_tasks (space_of w))) now idle (BinStep.frees b now.bins) now.guards
    now.guards (put_here w.bins seat seat binning.Task.Away refl)

-- a block that is put is linked, and one that was won is taken out
pub links : (k : Key) (w : Whole) (seat x n : ℕ) (at : InsertAt) (line : queues.Task)
    → Now w seat (in_bins (binning.Task.Links x n at) line) → IsIdle line
    → Steps k w seat (insert_course (list_call bin_words (bin_of n) x) at)
    (in_bins (task_linked x n
    (insert_learn at (found w.pool.mem (insert_course (list_call bin_words (bin_of n) x) at)))) line)
    w.pool.blocks.place (w.drained seat)
links k w seat x n at line now idle =
    let next : InsertNext = insert_learn at (found w.pool.mem (insert_course (list_call bin_words (bin_of n) x) at)) in
    one_step k w seat (in_bins (binning.Task.Links x n at) line) (task_linked x n next)
    (insert_course (list_call bin_words (bin_of n) x) at)
    (record {
      guards = w.pool.blocks;
      items = put w.items (bin_of n) (items_inserted x (w.items (bin_of n)) next);
      member = member_linked x n next w.member;
    }) (with_bin seat (task_linked x n next) (bin_tasks (space_of w))) now idle (BinStep.links x n at now.bins)
    now.guards now.guards (put_here w.bins seat seat (task_linked x n next) refl)

pub unlinks : (k : Key) (w : Whole) (seat x n : ℕ) (at : RemoveAt) (line : queues.Task)
    → Now w seat (in_bins (binning.Task.Unlinks x n at) line) → IsIdle line
    → Steps k w seat (remove_course (list_call bin_words (bin_of n) x) at)
    (in_bins (task_unlinked x n
    (remove_learn at (found w.pool.mem (remove_course (list_call bin_words (bin_of n) x) at)))) line)
    w.pool.blocks.place (w.drained seat)
unlinks k w seat x n at line now idle =
    let next : RemoveNext = remove_learn at (found w.pool.mem (remove_course (list_call bin_words (bin_of n) x) at)) in
    one_step k w seat (in_bins (binning.Task.Unlinks x n at) line) (task_unlinked x n next)
    (remove_course (list_call bin_words (bin_of n) x) at)
    (record {
      guards = w.pool.blocks;
      items = put w.items (bin_of n) (items_removed x (w.items (bin_of n)) at);
      member = member_unlinked x at w.member;
    }) (with_bin seat (task_unlinked x n next) (bin_tasks (space_of w))) now idle (BinStep.unlinks x n at now.bins)
    now.guards now.guards (put_here w.bins seat seat (task_unlinked x n next) refl)

-- a block in hand is offered at its begin
pub offers : (k : Key) (w : Whole) (seat x n : ℕ) (taking : Taking) (line : queues.Task)
    → Now w seat (in_bins (binning.Task.Has (bin_of n)) line) → IsIdle line
    → w.pool.blocks.place x ≡ Place.Block x n (Use.Held seat taking)
    → Steps k w seat (Store (Word.Size x) (guard_word (Guard.Free n)))
    (tasks (blocks.Task.Offers x n) (binning.Task.Has (bin_of n)) line) w.pool.blocks.place (w.drained seat)
offers k w seat x n taking line now idle at =
    let h : Shadow = with_edge Side.Begin x (Standing.Open n) w.pool.blocks in
    let m' : Mem = after k w.pool.mem (Store (Word.Size x) (guard_word (Guard.Free n))) in
    let t : ℕ → blocks.Task = put w.pool.tasks seat (blocks.Task.Offers x n) in
    record {
      later = with_space (with_guards h m' t (space_of w)) w;
      run = steps_on stays (WholeStep.guards h m' t (GuardStep.offers x n taking now.guards at) now.bins
          (free w seat (in_bins (binning.Task.Has (bin_of n)) line) now idle));
      words = refl;
      guards = put_here w.pool.tasks seat seat (blocks.Task.Offers x n) refl;
      bins = now.bins;
      queue = now.queue;
      same = same_guards h m' t w;
      place = refl;
      drained = refl;
    }

-- and at its end: it is in its bin
pub comes : (k : Key) (w : Whole) (seat x n : ℕ) (line : queues.Task)
    → Now w seat (tasks (blocks.Task.Offers x n) (binning.Task.Has (bin_of n)) line) → IsIdle line
    → tally x (w.drained seat) ≡ 0
    → Steps k w seat (Store (Word.Left (x + n)) (guard_word (Guard.Free n)))
    (in_bins (binning.Task.Links x n InsertAt.Head) line) (with_use x n Use.Bin w.pool.blocks).place (w.drained seat)
comes k w seat x n line now idle apart =
    one_step k w seat (tasks (blocks.Task.Offers x n) (binning.Task.Has (bin_of n)) line)
    (binning.Task.Links x n InsertAt.Head) (Store (Word.Left (x + n)) (guard_word (Guard.Free n)))
    (record {
      guards = with_use x n Use.Bin (with_edge Side.End (x + n) (Standing.Open n) w.pool.blocks);
      items = w.items;
      member = put w.member x (Member.Comes n seat);
    })
    (record {
      guards = put w.pool.tasks seat blocks.Task.Away;
      bins = put w.bins seat (binning.Task.Links x n InsertAt.Head);
    }) now idle (BinStep.comes x n now.guards now.bins) apart
    (put_here w.pool.tasks seat seat blocks.Task.Away refl)
    (put_here w.bins seat seat (binning.Task.Links x n InsertAt.Head) refl)
