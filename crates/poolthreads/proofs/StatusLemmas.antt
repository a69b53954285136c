-- Which status comes.
use Rattle.std.proofs.Common.{◌≡◌, ℕ, inl, inr, List, subst}
use Rattle.std.specs.Prelude.{Option}
use Rattle.pool_types.specs.Causes.{Rose}
use Rattle.quiet_pool.specs.Quiet.{Quiet}
use Rattle.program_edge.specs.declared.outcome.Status.{Status}
use Rattle.program_edge.specs.declared.outcome.Status.TheVariants.{ReadFault}
use Rattle.program_edge.specs.Outcome.{ComesBut}
use Rattle.program_edge.proofs.CallerLemmas.{MayCome}
use Rattle.poolthreads.specs.Threads.{IsComplete, IsDue, IsWanted}
use Rattle.poolthreads.proofs.WantedLemmas.{due_wanted, statuses_are_one}

-- the status that is due comes where another one is wanted only if it is that one
comes_but : (words : List (List ℕ)) (bytes : List ℕ) (wanted status : Status) (source source' sink sink' : ℕ) →
    (status ≡ ReadFault → Rose source source') → MayCome (IsWanted words bytes status) status →
    IsWanted words bytes wanted → ComesBut wanted status source source' sink sink'
comes_but words bytes wanted status source source' sink sink' rose (inl is) wants =
    inl (statuses_are_one words bytes status wanted is wants)
comes_but words bytes wanted status source source' sink sink' rose (inr (inl none)) wants = inr (inl none)
comes_but words bytes wanted status source source' sink sink' rose (inr (inr fault)) wants =
    inr (inr (inl (fault, rose fault)))

pub comes : {R : Type 0} (words : List (List ℕ)) (old new : Option (List ℕ)) (text : List ℕ)
    (pools : List (Option (Quiet R))) (status : Status) (source source' sink sink' : ℕ) →
    IsDue words old new status text pools → (status ≡ ReadFault → Rose source source') →
    IsComplete words old status source source' sink sink'
comes words old new text pools status source source' sink sink' due rose bytes wanted told wants =
    comes_but words bytes wanted status source source' sink sink' rose
    (due_wanted words bytes new status text pools
    (subst (λ (o : Option (List ℕ)). IsDue words o new status text pools) told due))
    wants
