-- Steps on words of one group leave those of the others.
use Rattle.std.proofs.Common.{◌≡◌, ◌≢◌, ◌⊎◌, inl, inr, ℕ, ◌+◌, ◌%◌, ◌^◌, ◌<◌, Bool, true, false, cond, eqb}
use Rattle.std.proofs.Common.{Option, Some, None, refl, arith}
use Rattle.pool_words.specs.declared.words.Key.{Key}
use Rattle.pool_words.specs.declared.words.Word.{Word}
use Rattle.pool_words.specs.declared.actions.Action.{Action}
use Rattle.pool_words.specs.declared.actions.Action.TheVariants.{Load, Store, Swap, Exchange, Add}
use Rattle.pool_words.specs.declared.actions.Action.TheVariants.{TakeOffice, GiveOffice, Nothing}
use Rattle.pool_words.specs.Words.{WordKind, number, kind_of_word, marks, publics, kinds, headers, bin_locks, bin_heads}
use Rattle.pool_words.specs.Words.{forwards, backwards, queues, queue_links}
use Rattle.word_codes.specs.Links.{link_of}
use Rattle.guards.specs.declared.win.Side.{Side}
use Rattle.guards.specs.declared.win.WinAt.{WinAt}
use Rattle.guards.specs.declared.win.WinCall.{WinCall}
use Rattle.guards.specs.Win.{guard_at, other_side, win_course}
use Rattle.chain_words.specs.declared.pushing.PushAt.{PushAt}
use Rattle.locked_chain.specs.declared.insert.InsertAt.{InsertAt}
use Rattle.locked_chain.specs.declared.remove.RemoveAt.{RemoveAt}
use Rattle.locked_chain.specs.Insert.{insert_course}
use Rattle.locked_chain.specs.Remove.{skip_course, remove_course}
use Rattle.word_laws.specs.Memory.{Mem, stored, after, word_at}
use Rattle.chain_laws.specs.Pushing.{push_action}
use Rattle.lock_laws.specs.Seats.{list_call}
use Rattle.guard_laws.specs.Steps.{IsOtherWord, IsOtherAction}
use Rattle.guard_laws.proofs.CallerLemmas.{stored-apart}
use Rattle.bin_laws.specs.Bins.{bin_words}
use Rattle.bin_laws.specs.Steps.{SameLists}
use Rattle.queue_laws.specs.Queue.{queue_words, push_of}
use Rattle.queue_laws.specs.Steps.{SameQueue}
use Rattle.use_laws.specs.Steps.{SameThings}
use Rattle.free_laws.specs.Steps.{Writes, IsWordIn}

missed : (k : Key) (m : Mem) (IsSuch : Word → Type 0) (which : WordKind) (action : Action)
    → ((w : Word) → IsSuch w → number (kind_of_word w) ≢ number which) → Writes IsSuch action
    → after k m action which ≡ m which
missed k m IsSuch which (Load w) far is = refl
missed k m IsSuch which (Store w v) far is = stored-apart k m w v which (far w is)
missed k m IsSuch which (Swap w v) far is = stored-apart k m w v which (far w is)
missed k m IsSuch which (Exchange w from to) far is = by (eqb (word_at m w) from)
  where
    by : (b : Bool) → (cond b (stored k m w to) m) which ≡ m which
    by true = stored-apart k m w to which (far w is)
    by false = refl
missed k m IsSuch which (Add w v) far is = stored-apart k m w ((word_at m w + v) % 2 ^ 64) which (far w is)
missed k m IsSuch which (TakeOffice job) far is = refl
missed k m IsSuch which GiveOffice far is = refl
missed k m IsSuch which Nothing far is = refl

-- kinds outside of a range of them
kind_missed : (k : Key) (m : Mem) (low high : ℕ) (which : WordKind) (action : Action)
    → (number which < low) ⊎ (high < number which) → Writes (IsWordIn low high) action
    → after k m action which ≡ m which
kind_missed k m low high which action out = missed k m (IsWordIn low high) which action
    (λ w is e. let a = is.0 in let b = is.1 in elim out [
      | inl before ↦ omega (arith, e)
      | inr behind ↦ omega (arith, e)
    ])

pub leaves_guards : (low high : ℕ) (action : Action) → (high < 6) ⊎ (7 < low) → Writes (IsWordIn low high) action
    → IsOtherAction action
leaves_guards low high action out = by action
  where
    other : (w : Word) → IsWordIn low high w → IsOtherWord w
    other w is = let a = is.0 in let b = is.1 in elim out [
      | inl before ↦ record { no_size = λ e. omega (arith, e); no_left = λ e. omega (arith, e) }
      | inr behind ↦ record { no_size = λ e. omega (arith, e); no_left = λ e. omega (arith, e) }
    ]

    by : (action : Action) → Writes (IsWordIn low high) action → IsOtherAction action
    by (Load w) is = tt
    by (Store w v) is = other w is
    by (Swap w v) is = other w is
    by (Exchange w from to) is = other w is
    by (Add w v) is = other w is
    by (TakeOffice job) is = tt
    by GiveOffice is = tt
    by Nothing is = tt

pub leaves_things : (k : Key) (m : Mem) (low high : ℕ) (action : Action) → 5 < low
    → Writes (IsWordIn low high) action → SameThings m (after k m action)
leaves_things k m low high action far is = record {
  marks' = kind_missed k m low high marks action (inl (omega arith)) is;
  publics' = kind_missed k m low high publics action (inl (omega arith)) is;
  kinds' = kind_missed k m low high kinds action (inl (omega arith)) is;
  headers' = kind_missed k m low high headers action (inl (omega arith)) is;
}

pub leaves_lists : (k : Key) (m : Mem) (low high : ℕ) (action : Action) → (high < 8) ⊎ (11 < low)
    → Writes (IsWordIn low high) action → SameLists m (after k m action)
leaves_lists k m low high action out is = elim out [
  | inl before ↦ record {
    locks = kind_missed k m low high bin_locks action (inr (omega arith)) is;
    heads = kind_missed k m low high bin_heads action (inr (omega arith)) is;
    next = kind_missed k m low high forwards action (inr (omega arith)) is;
    previous = kind_missed k m low high backwards action (inr (omega arith)) is;
  }
  | inr behind ↦ record {
    locks = kind_missed k m low high bin_locks action (inl (omega arith)) is;
    heads = kind_missed k m low high bin_heads action (inl (omega arith)) is;
    next = kind_missed k m low high forwards action (inl (omega arith)) is;
    previous = kind_missed k m low high backwards action (inl (omega arith)) is;
  }
]

pub leaves_queue : (k : Key) (m : Mem) (low high : ℕ) (action : Action) → high < 12
    → Writes (IsWordIn low high) action → SameQueue m (after k m action)
leaves_queue k m low high action far is = record {
  head = kind_missed k m low high queues action (inr (omega arith)) is;
  links = kind_missed k m low high queue_links action (inr (omega arith)) is;
}

pub same_things : (m : Mem) → SameThings m m
same_things m = record { marks' = refl; publics' = refl; kinds' = refl; headers' = refl }

pub same_lists : (m : Mem) → SameLists m m
same_lists m = record { locks = refl; heads = refl; next = refl; previous = refl }

pub same_queue : (m : Mem) → SameQueue m m
same_queue m = record { head = refl; links = refl }

-- which words the steps write
pub win_writes : (c : WinCall) → Writes (IsWordIn 6 7) (win_course c WinAt.Second)
win_writes c = at (other_side c.first)
  where
    at : (e : Side) → IsWordIn 6 7 (guard_at c e)
    at Side.Begin = (omega arith, omega arith)
    at Side.End = (omega arith, omega arith)

pub insert_writes : (b x : ℕ) (at : InsertAt) → Writes (IsWordIn 8 11) (insert_course (list_call bin_words b x) at)
insert_writes b x InsertAt.Head = tt
insert_writes b x (InsertAt.Forward head) = (omega arith, omega arith)
insert_writes b x (InsertAt.Backward head) = (omega arith, omega arith)
insert_writes b x (InsertAt.OldBackward old) = (omega arith, omega arith)
insert_writes b x InsertAt.NewHead = (omega arith, omega arith)

skip_writes : (b x forward : ℕ) (before : Option ℕ)
    → Writes (IsWordIn 8 11) (skip_course (list_call bin_words b x) forward before)
skip_writes b x forward (Some before) = (omega arith, omega arith)
skip_writes b x forward None = (omega arith, omega arith)

pub remove_writes : (b x : ℕ) (at : RemoveAt) → Writes (IsWordIn 8 11) (remove_course (list_call bin_words b x) at)
remove_writes b x RemoveAt.Forward = tt
remove_writes b x (RemoveAt.Backward forward) = tt
remove_writes b x (RemoveAt.Skip forward backward) = skip_writes b x forward (link_of backward)
remove_writes b x (RemoveAt.SkipBack behind backward) = (omega arith, omega arith)

pub push_writes : (x n : ℕ) (at : PushAt) → Writes (IsWordIn 12 13) (push_action queue_words (push_of x n) at)
push_writes x n PushAt.Look = tt
push_writes x n (PushAt.Link found) = (omega arith, omega arith)
push_writes x n (PushAt.Exchange found) = (omega arith, omega arith)
