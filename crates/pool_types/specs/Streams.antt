-- What a source and a sink in memory are seen as, and what each of their calls does.
use Rattle.std.specs.Prelude.{◌≡◌, ℕ, ◌==◌, Bool, true, false, min, List, ◌++◌, length, take, drop, Result, Ok, Err}
use Rattle.std.specs.List.{list_any}
use Rattle.pool_types.specs.Causes.{counted_up}

-- a source in memory: the bytes that are left, the most that one call moves, the numbers of the calls that fail, and
-- how many calls were made and how many failed
pub record Feed : Type 0 where
  pub left : List ℕ
  pub most : ℕ
  pub failing : List ℕ
  pub calls : ℕ
  pub faults : ℕ

-- a sink in memory: the bytes that were taken, and the rest as for a source
pub record Store : Type 0 where
  pub taken : List ℕ
  pub most : ℕ
  pub failing : List ℕ
  pub calls : ℕ
  pub faults : ℕ

-- the call after so many is one of those that fail
abbrev pub fails_next : List ℕ → ℕ → Bool
fails_next failing calls = list_any (λ number. number == counted_up calls) failing

-- a read into a buffer with this room
pub record FeedGives (old : Feed) (room count : ℕ) (new : Feed) : Type 0 where
  pub spared : fails_next old.failing old.calls ≡ false
  pub counted : count ≡ min (min (length old.left) room) old.most
  pub after : new ≡ record old { left = drop count old.left; calls = counted_up old.calls }

-- a read that failed
pub record FeedFails (old new : Feed) : Type 0 where
  pub listed : fails_next old.failing old.calls ≡ true
  pub after : new ≡ record old { calls = counted_up old.calls; faults = counted_up old.faults }

abbrev pub Feeds : {E : Type 0} → Feed → ℕ → Result ℕ E → Feed → Type 0
Feeds old room (Ok count) new = FeedGives old room count new
Feeds old room (Err error) new = FeedFails old new

-- a write of the piece
pub record StoreTakes (old : Store) (piece : List ℕ) (count : ℕ) (new : Store) : Type 0 where
  pub spared : fails_next old.failing old.calls ≡ false
  pub counted : count ≡ min (length piece) old.most
  pub after : new ≡ record old { taken = old.taken ++ take count piece; calls = counted_up old.calls }

-- a write that failed, at a listed call or for want of memory
pub record StoreFails (old new : Store) : Type 0 where
  pub after : new ≡ record old { calls = counted_up old.calls; faults = counted_up old.faults }

abbrev pub Stores : {E : Type 0} → Store → List ℕ → Result ℕ E → Store → Type 0
Stores old piece (Ok count) new = StoreTakes old piece count new
Stores old piece (Err error) new = StoreFails old new
