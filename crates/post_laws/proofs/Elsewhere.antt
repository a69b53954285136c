-- Steps on words of mail, which are steps on other words to blocks, slabs and objects.
use Rattle.std.proofs.Common.{ℕ, arith}
use Rattle.pool_words.specs.declared.words.Key.{Key}
use Rattle.pool_words.specs.declared.words.Word.{Word}
use Rattle.pool_words.specs.declared.actions.Action.{Action}
use Rattle.pool_words.specs.declared.actions.Action.TheVariants.{Load, Store, Swap, Exchange}
use Rattle.pool_words.specs.Words.{marks, publics, kinds, headers}
use Rattle.word_laws.specs.Memory.{after}
use Rattle.guard_laws.specs.Steps as guards
use Rattle.orphan_laws.specs.Steps.{IsNotOn}
use Rattle.orphan_laws.proofs.Words.{after-apart}
use Rattle.use_laws.specs.Pools.{Pool, PoolGood}
use Rattle.use_laws.specs.Steps.{PoolStep}
use Rattle.use_laws.proofs.Keeps.{steps_keep_pool}

-- an action that writes no word of blocks, slabs or objects
pub record IsElsewhere (action : Action) : Type 0 where
  pub no_mark : IsNotOn marks action
  pub no_public : IsNotOn publics action
  pub no_kind : IsNotOn kinds action
  pub no_header : IsNotOn headers action
  pub no_guard : guards.IsOtherAction action

pub next_stored : (e value : ℕ) → IsElsewhere (Store (Word.Next e) value)
next_stored e value = record {
  no_mark = λ q. omega (arith, q);
  no_public = λ q. omega (arith, q);
  no_kind = λ q. omega (arith, q);
  no_header = λ q. omega (arith, q);
  no_guard = record { no_size = λ q. omega (arith, q); no_left = λ q. omega (arith, q) };
}

pub box_swapped : (seat class value : ℕ) → IsElsewhere (Swap (Word.Mailbox seat class) value)
box_swapped seat class value = record {
  no_mark = λ q. omega (arith, q);
  no_public = λ q. omega (arith, q);
  no_kind = λ q. omega (arith, q);
  no_header = λ q. omega (arith, q);
  no_guard = record { no_size = λ q. omega (arith, q); no_left = λ q. omega (arith, q) };
}

pub box_exchanged : (seat class from to : ℕ) → IsElsewhere (Exchange (Word.Mailbox seat class) from to)
box_exchanged seat class from to = record {
  no_mark = λ q. omega (arith, q);
  no_public = λ q. omega (arith, q);
  no_kind = λ q. omega (arith, q);
  no_header = λ q. omega (arith, q);
  no_guard = record { no_size = λ q. omega (arith, q); no_left = λ q. omega (arith, q) };
}

pub own_stored : (e value : ℕ) → IsElsewhere (Store (Word.Own e) value)
own_stored e value = record {
  no_mark = λ q. omega (arith, q);
  no_public = λ q. omega (arith, q);
  no_kind = λ q. omega (arith, q);
  no_header = λ q. omega (arith, q);
  no_guard = record { no_size = λ q. omega (arith, q); no_left = λ q. omega (arith, q) };
}

pub orphans_swapped : (class value : ℕ) → IsElsewhere (Swap (Word.Orphans class) value)
orphans_swapped class value = record {
  no_mark = λ q. omega (arith, q);
  no_public = λ q. omega (arith, q);
  no_kind = λ q. omega (arith, q);
  no_header = λ q. omega (arith, q);
  no_guard = record { no_size = λ q. omega (arith, q); no_left = λ q. omega (arith, q) };
}

pub orphans_exchanged : (class from to : ℕ) → IsElsewhere (Exchange (Word.Orphans class) from to)
orphans_exchanged class from to = record {
  no_mark = λ q. omega (arith, q);
  no_public = λ q. omega (arith, q);
  no_kind = λ q. omega (arith, q);
  no_header = λ q. omega (arith, q);
  no_guard = record { no_size = λ q. omega (arith, q); no_left = λ q. omega (arith, q) };
}

pub loaded : (w : Word) → IsElsewhere (Load w)
loaded w = record { no_mark = tt; no_public = tt; no_kind = tt; no_header = tt; no_guard = tt }

pub elsewhere_keeps : (k : Key) (p : Pool) (action : Action) → IsElsewhere action → PoolGood k p
    → PoolGood k (record p { mem = after k p.mem action })
elsewhere_keeps k p action far good =
    steps_keep_pool k 0 p (record p { mem = after k p.mem action }) good (PoolStep.guards p.blocks
    (after k p.mem action) p.tasks (guards.GuardStep.others action far.no_guard) tt (record {
      marks' = after-apart k p.mem action marks far.no_mark;
      publics' = after-apart k p.mem action publics far.no_public;
      kinds' = after-apart k p.mem action kinds far.no_kind;
      headers' = after-apart k p.mem action headers far.no_header;
    }))
