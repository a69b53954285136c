-- Steps on guards leave the words of bins, and steps on bins those of guards.
use Rattle.std.proofs.Common.{◌≡◌, ◌≢◌, ℕ, ◌<◌, Option, Some, None, List, sym}
use Rattle.std.proofs.Common.{subst, arith, ◌^◌}
use Rattle.pool_words.specs.declared.words.Key.{Key}
use Rattle.pool_words.specs.declared.words.Word.{Word}
use Rattle.pool_words.specs.Words.{kind_of_word, number, sizes, lefts, bin_locks, bin_heads, forwards, backwards}
use Rattle.word_codes.specs.Links.{link_of}
use Rattle.guards.specs.declared.win.Side.{Side}
use Rattle.guards.specs.declared.win.WinCall.{WinCall}
use Rattle.guards.specs.Win.{guard_at}
use Rattle.locked_chain.specs.declared.insert.InsertAt.{InsertAt}
use Rattle.locked_chain.specs.declared.remove.RemoveAt.{RemoveAt}
use Rattle.locked_chain.specs.Locks.{lock_course, unlock_course}
use Rattle.locked_chain.specs.Insert.{insert_course}
use Rattle.locked_chain.specs.Remove.{skip_course, remove_course}
use Rattle.word_laws.specs.Memory.{Mem, stored}
use Rattle.lock_laws.specs.Locks.{locks_of, LocksFit, lock_by}
use Rattle.lock_laws.specs.Lists.{TwoWay, IsList}
use Rattle.lock_laws.specs.Lists.Change.{Still}
use Rattle.lock_laws.specs.Steps.{link_at, list_of, Inserts, Removes}
use Rattle.lock_laws.specs.Seats.{Task, lock_in, list_call, TaskFits, AreLists, ListsGood}
use Rattle.guard_laws.specs.Steps.{IsOtherWord, IsOtherAction}
use Rattle.guard_laws.proofs.CallerLemmas.{stored-apart}
use Rattle.bin_laws.specs.Bins.{bin_words}
use Rattle.bin_laws.specs.Steps.{SameLists}

pub lists_stored : (k : Key) (m : Mem) (w : Word) (v : ℕ) → number (kind_of_word w) ≢ number bin_locks
    → number (kind_of_word w) ≢ number bin_heads → number (kind_of_word w) ≢ number forwards
    → number (kind_of_word w) ≢ number backwards → SameLists m (stored k m w v)
lists_stored k m w v a b c d = record {
  locks = stored-apart k m w v bin_locks a;
  heads = stored-apart k m w v bin_heads b;
  next = stored-apart k m w v forwards c;
  previous = stored-apart k m w v backwards d;
}

pub guard_stored : (k : Key) (m : Mem) (c : WinCall) (e : Side) (v : ℕ) → SameLists m (stored k m (guard_at c e) v)
guard_stored k m c Side.Begin v = lists_stored k m (Word.Size c.begin) v (λ z. omega arith) (λ z. omega arith)
    (λ z. omega arith) (λ z. omega arith)
guard_stored k m c Side.End v = lists_stored k m (Word.Left c.end) v (λ z. omega arith) (λ z. omega arith)
    (λ z. omega arith) (λ z. omega arith)

pub left_stored : (k : Key) (m : Mem) (y v : ℕ) → SameLists m (stored k m (Word.Left y) v)
left_stored k m y v = lists_stored k m (Word.Left y) v (λ z. omega arith) (λ z. omega arith) (λ z. omega arith)
    (λ z. omega arith)

-- the same lists
list_is : (m m' : Mem) (b : ℕ) → SameLists m m' → list_of (Word.BinHead b) m' ≡ list_of (Word.BinHead b) m
list_is m m' b same i = record {
  head = link_at (same.heads i b);
  next = λ x. link_at (same.next i x);
  previous = λ x. link_at (same.previous i x);
}

locks_are : (m m' : Mem) → SameLists m m' → ◌≡◌ {A = ℕ → ℕ} (locks_of bin_words.lock m') (locks_of bin_words.lock m)
locks_are m m' same i b = same.locks i b

task_same : (k : Key) (m m' : Mem) (items : ℕ → List ℕ) (task : Task) → SameLists m m'
    → TaskFits k bin_words m items task → TaskFits k bin_words m' items task
task_same k m m' items Task.Away same fits = tt
task_same k m m' items (Task.Has b) same fits =
    (fits.0, subst (λ (w : TwoWay). IsList w Still (items b)) (sym (list_is m m' b same)) fits.1)
task_same k m m' items (Task.Inserting b x at) same fits = record {
  some = fits.some;
  inside = fits.inside;
  list = subst (λ (w : TwoWay). Inserts w x (items b) at) (sym (list_is m m' b same)) fits.list;
  outside = fits.outside;
}
task_same k m m' items (Task.Removing b x at) same fits = record {
  some = fits.some;
  inside = fits.inside;
  front = fits.front;
  back = fits.back;
  items_are = fits.items_are;
  list = subst (λ (w : TwoWay). Removes w fits.front x fits.back at) (sym (list_is m m' b same)) fits.list;
  outside = fits.outside;
}

pub lists_same : (k : Key) (m m' : Mem) (tasks : ℕ → Task) (items : ℕ → List ℕ) → SameLists m m'
    → ListsGood k bin_words m tasks items → ListsGood k bin_words m' tasks items
lists_same k m m' tasks items same good = record {
  locks = subst (λ (f : ℕ → ℕ). LocksFit f (λ seat. lock_in (tasks seat))) (sym (locks_are m m' same)) good.locks;
  free = λ b low nobody. subst (λ (w : TwoWay). IsList w Still (items b)) (sym (list_is m m' b same))
      (good.free b low nobody);
  fit = λ seat. task_same k m m' items (tasks seat) same (good.fit seat);
  inside = good.inside;
  once = good.once;
  apart = good.apart;
}

other_word : (w : Word) → number (kind_of_word w) ≢ number sizes → number (kind_of_word w) ≢ number lefts
    → IsOtherWord w
other_word w a b = record { no_size = a; no_left = b }

pub lock_is_other : (seat b : ℕ) → IsOtherAction (lock_course (lock_by bin_words.lock seat b))
lock_is_other seat b = other_word (Word.BinLock b) (λ z. omega arith) (λ z. omega arith)

pub unlock_is_other : (seat b : ℕ) → IsOtherAction (unlock_course (lock_by bin_words.lock seat b))
unlock_is_other seat b = other_word (Word.BinLock b) (λ z. omega arith) (λ z. omega arith)

pub insert_is_other : (b x : ℕ) (at : InsertAt) → IsOtherAction (insert_course (list_call bin_words b x) at)
insert_is_other b x InsertAt.Head = tt
insert_is_other b x (InsertAt.Forward head) = other_word (Word.Forward x) (λ z. omega arith) (λ z. omega arith)
insert_is_other b x (InsertAt.Backward head) = other_word (Word.Backward x) (λ z. omega arith) (λ z. omega arith)
insert_is_other b x (InsertAt.OldBackward old) = other_word (Word.Backward old) (λ z. omega arith) (λ z. omega arith)
insert_is_other b x InsertAt.NewHead = other_word (Word.BinHead b) (λ z. omega arith) (λ z. omega arith)

skip_is_other : (b x forward : ℕ) (before : Option ℕ)
    → IsOtherAction (skip_course (list_call bin_words b x) forward before)
skip_is_other b x forward (Some before) = other_word (Word.Forward before) (λ z. omega arith) (λ z. omega arith)
skip_is_other b x forward None = other_word (Word.BinHead b) (λ z. omega arith) (λ z. omega arith)

pub remove_is_other : (b x : ℕ) (at : RemoveAt) → IsOtherAction (remove_course (list_call bin_words b x) at)
remove_is_other b x RemoveAt.Forward = tt
remove_is_other b x (RemoveAt.Backward forward) = tt
remove_is_other b x (RemoveAt.Skip forward backward) = skip_is_other b x forward (link_of backward)
remove_is_other b x (RemoveAt.SkipBack behind backward) =
    other_word (Word.Backward behind) (λ z. omega arith) (λ z. omega arith)

pub bins_are : (k : Key) → k.span < 2 ^ 32 → AreLists k bin_words
bins_are k small = record {
  span = omega arith;
  valid = λ b low. omega arith;
  locks = λ b. record { no_forward = λ e. omega arith; no_backward = λ e. omega arith };
  heads = λ b low. record { valid = omega arith; no_forward = λ e. omega arith; no_backward = λ e. omega arith };
  locks_apart = λ a b same. same.1;
  heads_apart = λ a b same. same.1;
  apart = λ b c same. let e = same.0 in absurd (omega arith);
}
