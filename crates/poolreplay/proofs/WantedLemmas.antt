-- Words and bytes want one status, and what is due is wanted.
use Rattle.std.proofs.Common.{◌≡◌, ℕ, ◌≤◌, inl, inr, Bool, List, length, refl, sym, ◌∙◌, subst}
use Rattle.std.proofs.Common.{Some, arith}
use Rattle.std.specs.declared.option.Option.{Option}
use Rattle.pool_types.specs.Limits.{most_trace_bytes}
use Rattle.replay_words.specs.declared.command.Command.{Command}
use Rattle.replay_words.specs.declared.command.Command.TheVariants as command
use Rattle.replay_words.proofs.CallerLemmas.{words_are_clear}
use Rattle.trace_gen.specs.Generated.{generated}
use Rattle.program_edge.specs.declared.outcome.Status.{Status}
use Rattle.program_edge.specs.declared.outcome.Status.TheVariants.{Done, BadWords, BadTrace, TooLong, ReadFault}
use Rattle.program_edge.specs.declared.outcome.Status.TheVariants.{StepsOut, WriteFault, NoMemory}
use Rattle.program_edge.proofs.CallerLemmas.{MayCome, all_taken, may_come, taken_few}
use Rattle.poolreplay.specs.Laws.{StatusesAreOne}
use Rattle.poolreplay.specs.Replay.{IsAnswered, IsCommanded, IsDue, IsDueFor, IsReadReply, IsReadWanted, IsReplayReply}
use Rattle.poolreplay.specs.Replay.{IsReply, IsSumReply, IsSummed, IsWanted, IsWantedBy}
use Rattle.poolreplay.proofs.OneReply.{answered_once, summed_once}

-- one status is wanted
read_wanted_once : (moves : Bool) (bytes : List ℕ) (one other : Status) → IsReadWanted moves bytes one →
    IsReadWanted moves bytes other → one ≡ other
read_wanted_once moves bytes one other (inl many) (inl many') = many.1 ∙ sym many'.1
read_wanted_once moves bytes one other (inl many) (inr wants) = absurd (omega (arith, many.0, wants.0))
read_wanted_once moves bytes one other (inr wants) (inl many) = absurd (omega (arith, many.0, wants.0))
read_wanted_once moves bytes one other (inr wants) (inr wants') = answered_once moves bytes one other wants.1 wants'.1

wanted_by_once : (command : Command) (bytes : List ℕ) (one other : Status) → IsWantedBy command bytes one →
    IsWantedBy command bytes other → one ≡ other
wanted_by_once (command.Replay moves) bytes one other wants wants' = read_wanted_once moves bytes one other wants wants'
wanted_by_once (command.Gen seed threads calls) bytes one other wants wants' =
    summed_once (generated seed threads calls) one other wants wants'

pub statuses_are_one : StatusesAreOne
statuses_are_one words bytes one other (inl none) (inl none') = none.1 ∙ sym none'.1
statuses_are_one words bytes one other (inl none) (inr asked) = absurd (none.0 asked.0 asked.1)
statuses_are_one words bytes one other (inr asked) (inl none) = absurd (none.0 asked.0 asked.1)
statuses_are_one words bytes one other (inr asked) (inr asked') =
    wanted_by_once asked.0 bytes one other asked.2
    (subst (λ (c : Command). IsWantedBy c bytes other) (words_are_clear words asked'.0 asked.0 asked'.1 asked.1)
    asked'.2)

-- what is due for bytes that were read whole
pub read_reply : (moves : Bool) (bytes : List ℕ) (new : Option (List ℕ)) (status : Status) (text : List ℕ) →
    IsReadReply moves (Some bytes) new status text →
    (length bytes ≤ most_trace_bytes) × IsReply moves bytes status text
read_reply moves bytes new status text due =
    let all : due.bytes ≡ bytes = all_taken bytes new due.bytes due.read.consumed due.read.ended in (
      subst (λ (b : List ℕ). length b ≤ most_trace_bytes) all due.read.few,
      subst (λ (b : List ℕ). IsReply moves b status text) all due.reply,
    )

reply_answered : (moves : Bool) (bytes : List ℕ) (status : Status) (text : List ℕ) → IsReply moves bytes status text →
    MayCome (IsAnswered moves bytes status) status
reply_answered moves bytes Done text due = inl (text, due)
reply_answered moves bytes (BadTrace line kind) text due = inl due.0
reply_answered moves bytes (StepsOut line) text due = inl due.0
reply_answered moves bytes NoMemory text due = inr (inl refl)
reply_answered moves bytes BadWords text due = absurd due
reply_answered moves bytes TooLong text due = absurd due
reply_answered moves bytes ReadFault text due = absurd due
reply_answered moves bytes WriteFault text due = absurd due

sum_answered : (bytes : List ℕ) (status : Status) (text : List ℕ) → IsSumReply bytes status text →
    MayCome (IsSummed bytes status) status
sum_answered bytes Done text due = inl (text, due)
sum_answered bytes (BadTrace line kind) text due = inl due.0
sum_answered bytes (StepsOut line) text due = inl due.0
sum_answered bytes NoMemory text due = inr (inl refl)
sum_answered bytes BadWords text due = absurd due
sum_answered bytes TooLong text due = absurd due
sum_answered bytes ReadFault text due = absurd due
sum_answered bytes WriteFault text due = absurd due

read_answered : (moves : Bool) (bytes : List ℕ) (new : Option (List ℕ)) (status : Status) (text : List ℕ) →
    IsReadReply moves (Some bytes) new status text → MayCome (IsReadWanted moves bytes status) status
read_answered moves bytes new status text due =
    let whole = read_reply moves bytes new status text due in
    may_come status (λ answered. inr (whole.0, answered)) (reply_answered moves bytes status text whole.1)

replay_answered : (moves : Bool) (bytes : List ℕ) (new : Option (List ℕ)) (status : Status) (text : List ℕ) →
    IsReplayReply moves (Some bytes) new status text → MayCome (IsReadWanted moves bytes status) status
replay_answered moves bytes new TooLong text due =
    inl (inl (omega (arith, due.0.2, taken_few bytes new due.0.0 due.0.1), refl))
replay_answered moves bytes new ReadFault text due = inr (inr refl)
replay_answered moves bytes new NoMemory text due = inr (inl refl)
replay_answered moves bytes new Done text due = read_answered moves bytes new Done text due
replay_answered moves bytes new (BadTrace line kind) text due =
    read_answered moves bytes new (BadTrace line kind) text due
replay_answered moves bytes new (StepsOut line) text due = read_answered moves bytes new (StepsOut line) text due
replay_answered moves bytes new BadWords text due = absurd due
replay_answered moves bytes new WriteFault text due = absurd due

command_answered : (command : Command) (bytes : List ℕ) (new : Option (List ℕ)) (status : Status) (text : List ℕ) →
    IsDueFor command (Some bytes) new status text → MayCome (IsWantedBy command bytes status) status
command_answered (command.Replay moves) bytes new status text due = replay_answered moves bytes new status text due
command_answered (command.Gen seed threads calls) bytes new status text due =
    sum_answered (generated seed threads calls) status text due.1

commanded : (words : List (List ℕ)) (bytes : List ℕ) (new : Option (List ℕ)) (status : Status) (text : List ℕ) →
    IsCommanded words (Some bytes) new status text → MayCome (IsWanted words bytes status) status
commanded words bytes new status text due =
    may_come status (λ wants. inr (due.command, due.asked, wants))
    (command_answered due.command bytes new status text due.due)

-- what is due is wanted
pub due_wanted : (words : List (List ℕ)) (bytes : List ℕ) (new : Option (List ℕ)) (status : Status) (text : List ℕ) →
    IsDue words (Some bytes) new status text → MayCome (IsWanted words bytes status) status
due_wanted words bytes new BadWords text due = inl (inl (due.0, refl))
due_wanted words bytes new NoMemory text due = inr (inl refl)
due_wanted words bytes new WriteFault text due = absurd due
due_wanted words bytes new Done text due = commanded words bytes new Done text due
due_wanted words bytes new (BadTrace line kind) text due = commanded words bytes new (BadTrace line kind) text due
due_wanted words bytes new (StepsOut line) text due = commanded words bytes new (StepsOut line) text due
due_wanted words bytes new TooLong text due = commanded words bytes new TooLong text due
due_wanted words bytes new ReadFault text due = commanded words bytes new ReadFault text due
