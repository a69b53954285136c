-- One text is due for words and bytes.
use Rattle.std.proofs.Common.{◌≡◌, ◌≢◌, ℕ, inl, inr, Bool, List, Some, sym, ◌∙◌, subst}
use Rattle.std.specs.declared.option.Option.{Option}
use Rattle.replay_words.specs.declared.command.Command.{Command}
use Rattle.replay_words.specs.declared.command.Command.TheVariants as command
use Rattle.replay_words.proofs.CallerLemmas.{words_are_clear}
use Rattle.trace_gen.specs.Generated.{generated}
use Rattle.program_edge.specs.declared.outcome.Status.{Status}
use Rattle.program_edge.specs.declared.outcome.Status.TheVariants.{Done, BadWords, BadTrace, TooLong, ReadFault}
use Rattle.program_edge.specs.declared.outcome.Status.TheVariants.{StepsOut, WriteFault, NoMemory}
use Rattle.poolreplay.specs.Laws.{TextsAreOne}
use Rattle.poolreplay.specs.Replay.{IsCommanded, IsDue, IsDueFor, IsReadReply, IsReplayReply, IsWanted}
use Rattle.poolreplay.proofs.OneReply.{reply_text, sum_text}
use Rattle.program_edge.proofs.CallerLemmas.{MayCome}
use Rattle.poolreplay.proofs.WantedLemmas.{due_wanted, read_reply, statuses_are_one}

-- a status that tells of the words and bytes is wanted
wanted : (words : List (List ℕ)) (bytes : List ℕ) (status : Status) → MayCome (IsWanted words bytes status) status →
    status ≢ NoMemory → status ≢ ReadFault → IsWanted words bytes status
wanted words bytes status (inl is) some read = is
wanted words bytes status (inr (inl none)) some read = absurd (some none)
wanted words bytes status (inr (inr fault)) some read = absurd (read fault)

-- with one status one text is due
read_text : (moves : Bool) (bytes : List ℕ) (left left' : Option (List ℕ)) (status : Status) (text text' : List ℕ) →
    IsReadReply moves (Some bytes) left status text → IsReadReply moves (Some bytes) left' status text' → text ≡ text'
read_text moves bytes left left' status text text' due due' =
    reply_text moves bytes status text text' (read_reply moves bytes left status text due).1
    (read_reply moves bytes left' status text' due').1

replay_text : (moves : Bool) (bytes : List ℕ) (left left' : Option (List ℕ)) (status : Status) (text text' : List ℕ) →
    IsReplayReply moves (Some bytes) left status text → IsReplayReply moves (Some bytes) left' status text' →
    text ≡ text'
replay_text moves bytes left left' TooLong text text' due due' = due.1 ∙ sym due'.1
replay_text moves bytes left left' ReadFault text text' due due' = due ∙ sym due'
replay_text moves bytes left left' NoMemory text text' due due' = due ∙ sym due'
replay_text moves bytes left left' Done text text' due due' = read_text moves bytes left left' Done text text' due due'
replay_text moves bytes left left' (BadTrace line kind) text text' due due' =
    read_text moves bytes left left' (BadTrace line kind) text text' due due'
replay_text moves bytes left left' (StepsOut line) text text' due due' =
    read_text moves bytes left left' (StepsOut line) text text' due due'
replay_text moves bytes left left' BadWords text text' due due' = absurd due
replay_text moves bytes left left' WriteFault text text' due due' = absurd due

command_text : (command : Command) (bytes : List ℕ) (left left' : Option (List ℕ)) (status : Status)
    (text text' : List ℕ) → IsDueFor command (Some bytes) left status text →
    IsDueFor command (Some bytes) left' status text' → text ≡ text'
command_text (command.Replay moves) bytes left left' status text text' due due' =
    replay_text moves bytes left left' status text text' due due'
command_text (command.Gen seed threads calls) bytes left left' status text text' due due' =
    sum_text (generated seed threads calls) status text text' due.1 due'.1

commanded_text : (words : List (List ℕ)) (bytes : List ℕ) (left left' : Option (List ℕ)) (status : Status)
    (text text' : List ℕ) → IsCommanded words (Some bytes) left status text →
    IsCommanded words (Some bytes) left' status text' → text ≡ text'
commanded_text words bytes left left' status text text' due due' =
    command_text due.command bytes left left' status text text' due.due
    (subst (λ (c : Command). IsDueFor c (Some bytes) left' status text')
    (words_are_clear words due'.command due.command due'.asked due.asked) due'.due)

due_text : (words : List (List ℕ)) (bytes : List ℕ) (left left' : Option (List ℕ)) (status : Status)
    (text text' : List ℕ) → IsDue words (Some bytes) left status text → IsDue words (Some bytes) left' status text' →
    text ≡ text'
due_text words bytes left left' BadWords text text' due due' = due.2 ∙ sym due'.2
due_text words bytes left left' NoMemory text text' due due' = due ∙ sym due'
due_text words bytes left left' WriteFault text text' due due' = absurd due
due_text words bytes left left' Done text text' due due' =
    commanded_text words bytes left left' Done text text' due due'
due_text words bytes left left' (BadTrace line kind) text text' due due' =
    commanded_text words bytes left left' (BadTrace line kind) text text' due due'
due_text words bytes left left' (StepsOut line) text text' due due' =
    commanded_text words bytes left left' (StepsOut line) text text' due due'
due_text words bytes left left' TooLong text text' due due' =
    commanded_text words bytes left left' TooLong text text' due due'
due_text words bytes left left' ReadFault text text' due due' =
    commanded_text words bytes left left' ReadFault text text' due due'

pub texts_are_one : TextsAreOne
texts_are_one words bytes left left' one other text text' due due' some read some' read' =
    let same : one ≡ other = statuses_are_one words bytes one other
    (wanted words bytes one (due_wanted words bytes left one text due) some read)
    (wanted words bytes other (due_wanted words bytes left' other text' due') some' read') in (
      same,
      due_text words bytes left left' one text text' due
          (subst (λ (s : Status). IsDue words (Some bytes) left' s text') (sym same) due'),
    )
