-- Which status comes.
use Rattle.std.proofs.Common.{◌≡◌, ℕ, inl, inr, Bool, List, subst, arith}
use Rattle.std.specs.declared.option.Option.{Option}
use Rattle.pool_types.specs.Causes.{Rose}
use Rattle.replay_words.specs.Commands.{IsCommand}
use Rattle.replay_words.specs.declared.command.Command.{Command}
use Rattle.replay_words.specs.declared.command.Command.TheVariants as command
use Rattle.replay_words.proofs.CallerLemmas.{words_are_clear}
use Rattle.trace_gen.specs.Generated.{generated}
use Rattle.program_edge.specs.declared.outcome.Status.{Status}
use Rattle.program_edge.specs.declared.outcome.Status.TheVariants.{Done, BadTrace, ReadFault}
use Rattle.program_edge.specs.declared.outcome.Status.TheVariants.{StepsOut}
use Rattle.program_edge.specs.Outcome.{ComesBut}
use Rattle.program_edge.specs.Readings.{SpellOne}
use Rattle.trace_reader.specs.declared.acts.Forms.TheVariants as forms
use Rattle.poolreplay.specs.Replay.{HasTrace, IsAnswered, IsComplete, IsDue, IsReadWanted, IsRunEnd}
use Rattle.poolreplay.specs.Replay.{IsRunWhereSpelled, IsSummed, IsWanted, IsWantedBy, RunsBut}
use Rattle.program_edge.proofs.CallerLemmas.{MayCome, not_both}
use Rattle.poolreplay.proofs.WantedLemmas.{due_wanted, statuses_are_one}

-- the status that is due comes where another one is wanted only if it is that one
comes_but : (words : List (List ℕ)) (bytes : List ℕ) (wanted status : Status) (source source' sink sink' : ℕ) →
    (status ≡ ReadFault → Rose source source') → MayCome (IsWanted words bytes status) status →
    IsWanted words bytes wanted → ComesBut wanted status source source' sink sink'
comes_but words bytes wanted status source source' sink sink' rose (inl is) wants =
    inl (statuses_are_one words bytes status wanted is wants)
comes_but words bytes wanted status source source' sink sink' rose (inr (inl none)) wants = inr (inl none)
comes_but words bytes wanted status source source' sink sink' rose (inr (inr fault)) wants =
    inr (inr (inl (fault, rose fault)))

pub comes : (words : List (List ℕ)) (old new : Option (List ℕ)) (text : List ℕ) (status : Status)
    (source source' sink sink' : ℕ) → IsDue words old new status text → (status ≡ ReadFault → Rose source source') →
    IsComplete words old status source source' sink sink'
comes words old new text status source source' sink sink' due rose bytes wanted told wants =
    comes_but words bytes wanted status source source' sink sink' rose
    (due_wanted words bytes new status text (subst (λ (o : Option (List ℕ)). IsDue words o new status text) told due))
    wants

-- bytes that spell a trace are refused nowhere
answered_end : (moves : Bool) (bytes : List ℕ) (status : Status) → SpellOne forms.All bytes →
    IsAnswered moves bytes status → IsRunEnd status
answered_end moves bytes Done spelled is = tt
answered_end moves bytes (StepsOut line) spelled is = tt
answered_end moves bytes (BadTrace line kind) spelled is = absurd (not_both forms.All bytes line kind spelled is)
answered_end moves bytes other spelled is = absurd is

summed_end : (bytes : List ℕ) (status : Status) → SpellOne forms.All bytes → IsSummed bytes status → IsRunEnd status
summed_end bytes Done spelled is = tt
summed_end bytes (StepsOut line) spelled is = tt
summed_end bytes (BadTrace line kind) spelled is = absurd (not_both forms.All bytes line kind spelled is)
summed_end bytes other spelled is = absurd is

read_end : (moves : Bool) (bytes : List ℕ) (status : Status) → HasTrace (command.Replay moves) bytes →
    IsReadWanted moves bytes status → IsRunEnd status
read_end moves bytes status has (inl many) = absurd (omega (arith, many.0, has.0))
read_end moves bytes status has (inr is) = answered_end moves bytes status has.1 is.1

command_end : (command : Command) (bytes : List ℕ) (status : Status) → HasTrace command bytes →
    IsWantedBy command bytes status → IsRunEnd status
command_end (command.Replay moves) bytes status has is = read_end moves bytes status has is
command_end (command.Gen seed threads calls) bytes status has is =
    summed_end (generated seed threads calls) status has is

wanted_end : (words : List (List ℕ)) (bytes : List ℕ) (command : Command) (status : Status) → IsCommand words command →
    HasTrace command bytes → IsWanted words bytes status → IsRunEnd status
wanted_end words bytes command status asked has (inl none) = absurd (none.0 command asked)
wanted_end words bytes command status asked has (inr is) =
    command_end command bytes status has
    (subst (λ (c : Command). IsWantedBy c bytes status) (words_are_clear words is.0 command is.1 asked) is.2)

runs_but : (words : List (List ℕ)) (bytes : List ℕ) (command : Command) (status : Status)
    (source source' sink sink' : ℕ) → (status ≡ ReadFault → Rose source source') → IsCommand words command →
    HasTrace command bytes → MayCome (IsWanted words bytes status) status → RunsBut status source source' sink sink'
runs_but words bytes command status source source' sink sink' rose asked has (inl is) =
    inl (wanted_end words bytes command status asked has is)
runs_but words bytes command status source source' sink sink' rose asked has (inr (inl none)) = inr (inl none)
runs_but words bytes command status source source' sink sink' rose asked has (inr (inr fault)) =
    inr (inr (inl (fault, rose fault)))

-- a trace that is spelled is run
pub spelled_runs : (words : List (List ℕ)) (old new : Option (List ℕ)) (text : List ℕ) (status : Status)
    (source source' sink sink' : ℕ) → IsDue words old new status text → (status ≡ ReadFault → Rose source source') →
    IsRunWhereSpelled words old status source source' sink sink'
spelled_runs words old new text status source source' sink sink' due rose bytes command told asked has =
    runs_but words bytes command status source source' sink sink' rose asked has
    (due_wanted words bytes new status text (subst (λ (o : Option (List ℕ)). IsDue words o new status text) told due))
