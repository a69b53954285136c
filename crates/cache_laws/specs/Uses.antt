-- What the number of blocks in use counts.
use Rattle.std.specs.Prelude.{◌≡◌, ℕ, ◌+◌, ◌<◌, ◌≤◌, cond, eqb, Option, Some, None, ⊤}
use Rattle.list_laws.specs.Sums.{sum_below}
use Rattle.pool_words.specs.declared.words.Key.{Key}
use Rattle.large_cache.specs.declared.get.GetAt.{GetAt}
use Rattle.large_cache.specs.declared.keep.KeepAt.{KeepAt}
use Rattle.large_cache.specs.declared.undo.UndoAt.{UndoAt}
use Rattle.word_laws.specs.Memory.{Mem, put}
use Rattle.chain_laws.specs.Chains.{tally}
use Rattle.cache_laws.specs.Bins.{Bin, blocks_of}
use Rattle.cache_laws.specs.Good.{Task}
use Rattle.cache_laws.specs.Steps.{IsFree, BinStep}

pub record Uses : Type 0 where
  -- of a block: the bin for its size, where it is an object, or was freed and is not put yet
  pub users : ℕ → Option ℕ
  -- of a seat: the bin at which its get has counted a block, where that get was neither granted one nor undone
  pub asked : ℕ → Option ℕ

abbrev pub is_at : ℕ → Option ℕ → ℕ
is_at b None = 0
is_at b (Some c) = cond (eqb c b) 1 0

-- the objects of a size, with the blocks that were freed and are not put yet, and the gets that are not answered
abbrev pub uses_of : Key → Uses → ℕ → ℕ
uses_of k u b =
    sum_below (λ x. is_at b (u.users x)) k.span + sum_below (λ seat. is_at b (u.asked seat)) k.seats

-- what a job rests on: a get was not made before, an undo is that of a get, and a put that of a block in use
abbrev pub UseFits : Key → Uses → ℕ → Task → Type 0
UseFits k u seat Task.Away = ⊤
UseFits k u seat (Task.Getting b time at) = (seat < k.seats) × (u.asked seat ≡ None)
UseFits k u seat (Task.Undoing b at) = (seat < k.seats) × (u.asked seat ≡ Some b)
UseFits k u seat (Task.Keeping b time block at) = (seat < k.seats) × (u.users block ≡ Some b)
UseFits k u seat (Task.Sweeping b time cleanup gone at) = ⊤

pub record UsesGood (k : Key) (g : ℕ → Bin) (tasks : ℕ → Task) (u : Uses) : Type 0 where
  pub seats : k.seats ≤ 256
  pub counted : (b : ℕ) → (g b).used ≡ uses_of k u b
  pub fits : (seat : ℕ) → UseFits k u seat (tasks seat)
  -- no block of a bin is in use
  pub unused : (b x : ℕ) → 0 < tally x (blocks_of (g b).items) → u.users x ≡ None

-- uses change where a job's lock is freed
abbrev pub uses_got : ℕ → ℕ → GetAt → Uses → Uses
uses_got seat b GetAt.Lock u = u
uses_got seat b GetAt.Items u = u
uses_got seat b (GetAt.Head items) u = u
uses_got seat b (GetAt.Hit at) u = u
uses_got seat b GetAt.Cleaned u = u
uses_got seat b (GetAt.SetThreshold cleaned) u = u
uses_got seat b GetAt.ClearCleaned u = u
uses_got seat b (GetAt.SetTime block) u = u
uses_got seat b (GetAt.Used block) u = u
uses_got seat b (GetAt.SetUsed block used) u = u
uses_got seat b (GetAt.Unlock block) u = record u { asked = put u.asked seat (Some b) }

abbrev pub uses_undone : ℕ → UndoAt → Uses → Uses
uses_undone seat UndoAt.Lock u = u
uses_undone seat UndoAt.Used u = u
uses_undone seat (UndoAt.SetUsed used) u = u
uses_undone seat UndoAt.Unlock u = record u { asked = put u.asked seat None }

abbrev pub uses_kept : ℕ → KeepAt → Uses → Uses
uses_kept block KeepAt.Lock u = u
uses_kept block KeepAt.Items u = u
uses_kept block (KeepAt.Head items) u = u
uses_kept block (KeepAt.Walk tail) u = u
uses_kept block (KeepAt.OldAge tail) u = u
uses_kept block (KeepAt.Cut tail age) u = u
uses_kept block (KeepAt.SetCleaned tail age) u = u
uses_kept block (KeepAt.SetLink items head released) u = u
uses_kept block (KeepAt.SetAge items released) u = u
uses_kept block (KeepAt.SetHead items released) u = u
uses_kept block (KeepAt.SetItems items released) u = u
uses_kept block (KeepAt.Used released) u = u
uses_kept block (KeepAt.SetUsed released used) u = u
uses_kept block (KeepAt.Unlock released) u = record u { users = put u.users block None }

-- what a step at a bin makes of the uses
abbrev pub uses_after : (k : Key) (g : ℕ → Bin) (m : Mem) (tasks : ℕ → Task) (u : Uses) (h : ℕ → Bin) (m' : Mem)
    (tasks' : ℕ → Task) → BinStep k g m tasks h m' tasks' → Uses
uses_after k g m tasks u h m' tasks' (BinStep.asks seat b time low is) = u
uses_after k g m tasks u h m' tasks' (BinStep.regrets seat b low is) = u
uses_after k g m tasks u h m' tasks' (BinStep.gives seat b time block low inside free is) = u
uses_after k g m tasks u h m' tasks' (BinStep.cleans seat b time cleanup at low none is) = u
uses_after k g m tasks u h m' tasks' (BinStep.gets seat b time at is) = uses_got seat b at u
uses_after k g m tasks u h m' tasks' (BinStep.undoes seat b at is) = uses_undone seat at u
uses_after k g m tasks u h m' tasks' (BinStep.keeps seat b time block at is) = uses_kept block at u
uses_after k g m tasks u h m' tasks' (BinStep.sweeps seat b time cleanup gone at is) = u
uses_after k g m tasks u h m' tasks' (BinStep.others action other) = u

-- what a job needs to begin
abbrev pub MayBegin : (k : Key) (g : ℕ → Bin) (m : Mem) (tasks : ℕ → Task) (u : Uses) (h : ℕ → Bin) (m' : Mem)
    (tasks' : ℕ → Task) → BinStep k g m tasks h m' tasks' → Type 0
MayBegin k g m tasks u h m' tasks' (BinStep.asks seat b time low is) = (seat < k.seats) × (u.asked seat ≡ None)
MayBegin k g m tasks u h m' tasks' (BinStep.regrets seat b low is) = (seat < k.seats) × (u.asked seat ≡ Some b)
MayBegin k g m tasks u h m' tasks' (BinStep.gives seat b time block low inside free is) =
    (seat < k.seats) × (u.users block ≡ Some b)
MayBegin k g m tasks u h m' tasks' (BinStep.cleans seat b time cleanup at low none is) = ⊤
MayBegin k g m tasks u h m' tasks' (BinStep.gets seat b time at is) = ⊤
MayBegin k g m tasks u h m' tasks' (BinStep.undoes seat b at is) = ⊤
MayBegin k g m tasks u h m' tasks' (BinStep.keeps seat b time block at is) = ⊤
MayBegin k g m tasks u h m' tasks' (BinStep.sweeps seat b time cleanup gone at is) = ⊤
MayBegin k g m tasks u h m' tasks' (BinStep.others action other) = ⊤

pub data UseStep (k : Key) (g : ℕ → Bin) (m : Mem) (tasks : ℕ → Task) (u : Uses) :
    (ℕ → Bin) → Mem → (ℕ → Task) → Uses → Type 0 where
  acts : (h : ℕ → Bin) (m' : Mem) (tasks' : ℕ → Task) (step : BinStep k g m tasks h m' tasks')
      → MayBegin k g m tasks u h m' tasks' step
      → UseStep k g m tasks u h m' tasks' (uses_after k g m tasks u h m' tasks' step)
  -- a get is granted a block, of its bin or from elsewhere
  grants : (seat b x : ℕ) → seat < k.seats → tasks seat ≡ Task.Away → u.asked seat ≡ Some b → x < k.span
      → IsFree g tasks x → u.users x ≡ None
      → UseStep k g m tasks u g m tasks (record { users = put u.users x (Some b); asked = put u.asked seat None })

-- any number of steps of any number of seats
pub data UseRun (k : Key) (g0 : ℕ → Bin) (m0 : Mem) (tasks0 : ℕ → Task) (u0 : Uses) :
    (ℕ → Bin) → Mem → (ℕ → Task) → Uses → Type 0 where
  starts : UseRun k g0 m0 tasks0 u0 g0 m0 tasks0 u0
  steps : {g1 : ℕ → Bin} {m1 : Mem} {t1 : ℕ → Task} {u1 : Uses} {h : ℕ → Bin} {m' : Mem} {t' : ℕ → Task} {u' : Uses}
      → UseRun k g0 m0 tasks0 u0 g1 m1 t1 u1 → UseStep k g1 m1 t1 u1 h m' t' u'
      → UseRun k g0 m0 tasks0 u0 h m' t' u'
