-- Words and bytes want one status, and what is due is wanted.
use Rattle.std.proofs.Common.{◌≡◌, ℕ, ◌≤◌, inl, inr, List, length, refl, sym, ◌∙◌, subst, Some, arith}
use Rattle.std.specs.Prelude.{Option}
use Rattle.pool_types.specs.Limits.{most_trace_bytes}
use Rattle.trace_reader.specs.declared.acts.Forms.TheVariants as forms
use Rattle.quiet_pool.specs.Quiet.{Quiet}
use Rattle.program_edge.specs.declared.outcome.Status.{Status}
use Rattle.program_edge.specs.declared.outcome.Status.TheVariants.{Done, BadWords, BadTrace, TooLong, ReadFault}
use Rattle.program_edge.specs.declared.outcome.Status.TheVariants.{StepsOut, WriteFault, NoMemory}
use Rattle.program_edge.proofs.CallerLemmas.{MayCome, all_taken, may_come, not_both, one_refusal, taken_few}
use Rattle.poolthreads.specs.Laws.{StatusesAreOne}
use Rattle.poolthreads.specs.Threads.{IsAnswered, IsDue, IsReadReply, IsReadWanted, IsReply, IsSourceReply, IsWanted}

-- one status is wanted
answered_once : (bytes : List ℕ) (one other : Status) → IsAnswered bytes one → IsAnswered bytes other → one ≡ other
answered_once bytes Done Done h h' = refl
answered_once bytes Done (BadTrace line kind) h h' = absurd (not_both forms.Threads bytes line kind h h')
answered_once bytes (BadTrace line kind) Done h h' = absurd (not_both forms.Threads bytes line kind h' h)
answered_once bytes (BadTrace line kind) (BadTrace other kind') h h' =
    one_refusal forms.Threads bytes line kind other kind' h h'
answered_once bytes Done other h h' = absurd h'
answered_once bytes (BadTrace line kind) other h h' = absurd h'
answered_once bytes one other h h' = absurd h

read_wanted_once : (bytes : List ℕ) (one other : Status) → IsReadWanted bytes one → IsReadWanted bytes other →
    one ≡ other
read_wanted_once bytes one other (inl many) (inl many') = many.1 ∙ sym many'.1
read_wanted_once bytes one other (inl many) (inr wants) = absurd (omega (arith, many.0, wants.0))
read_wanted_once bytes one other (inr wants) (inl many) = absurd (omega (arith, many.0, wants.0))
read_wanted_once bytes one other (inr wants) (inr wants') = answered_once bytes one other wants.1 wants'.1

pub statuses_are_one : StatusesAreOne
statuses_are_one words bytes one other (inl none) (inl none') = none.1 ∙ sym none'.1
statuses_are_one words bytes one other (inl none) (inr asked) = absurd (none.0 asked.0)
statuses_are_one words bytes one other (inr asked) (inl none) = absurd (none.0 asked.0)
statuses_are_one words bytes one other (inr asked) (inr asked') = read_wanted_once bytes one other asked.1 asked'.1

-- what is due for bytes that were read whole
read_reply : {R : Type 0} (bytes : List ℕ) (new : Option (List ℕ)) (status : Status) (text : List ℕ)
    (pools : List (Option (Quiet R))) → IsReadReply (Some bytes) new status text pools →
    (length bytes ≤ most_trace_bytes) × IsReply bytes status text pools
read_reply bytes new status text pools due =
    let all : due.bytes ≡ bytes = all_taken bytes new due.bytes due.read.consumed due.read.ended in (
      subst (λ (b : List ℕ). length b ≤ most_trace_bytes) all due.read.few,
      subst (λ (b : List ℕ). IsReply b status text pools) all due.reply,
    )

reply_answered : {R : Type 0} (bytes : List ℕ) (status : Status) (text : List ℕ) (pools : List (Option (Quiet R))) →
    IsReply bytes status text pools → MayCome (IsAnswered bytes status) status
reply_answered bytes Done text pools due = inl (due.trace, due.spelled)
reply_answered bytes (BadTrace line kind) text pools due = inl due.0
reply_answered bytes NoMemory text pools due = inr (inl refl)
reply_answered bytes BadWords text pools due = absurd due
reply_answered bytes TooLong text pools due = absurd due
reply_answered bytes ReadFault text pools due = absurd due
reply_answered bytes WriteFault text pools due = absurd due
reply_answered bytes (StepsOut line) text pools due = absurd due

read_answered : {R : Type 0} (bytes : List ℕ) (new : Option (List ℕ)) (status : Status) (text : List ℕ)
    (pools : List (Option (Quiet R))) → IsReadReply (Some bytes) new status text pools →
    MayCome (IsReadWanted bytes status) status
read_answered bytes new status text pools due =
    let whole = read_reply bytes new status text pools due in
    may_come status (λ answered. inr (whole.0, answered)) (reply_answered bytes status text pools whole.1)

source_answered : {R : Type 0} (bytes : List ℕ) (new : Option (List ℕ)) (status : Status) (text : List ℕ)
    (pools : List (Option (Quiet R))) → IsSourceReply (Some bytes) new status text pools →
    MayCome (IsReadWanted bytes status) status
source_answered bytes new TooLong text pools due =
    inl (inl (omega (arith, due.0.2, taken_few bytes new due.0.0 due.0.1), refl))
source_answered bytes new ReadFault text pools due = inr (inr refl)
source_answered bytes new NoMemory text pools due = inr (inl refl)
source_answered bytes new Done text pools due = read_answered bytes new Done text pools due
source_answered bytes new (BadTrace line kind) text pools due =
    read_answered bytes new (BadTrace line kind) text pools due
source_answered bytes new BadWords text pools due = absurd due
source_answered bytes new WriteFault text pools due = absurd due
source_answered bytes new (StepsOut line) text pools due = absurd due

-- what is due is wanted
pub due_wanted : {R : Type 0} (words : List (List ℕ)) (bytes : List ℕ) (new : Option (List ℕ)) (status : Status)
    (text : List ℕ) (pools : List (Option (Quiet R))) → IsDue words (Some bytes) new status text pools →
    MayCome (IsWanted words bytes status) status
due_wanted words bytes new BadWords text pools due = inl (inl (due.0, refl))
due_wanted words bytes new NoMemory text pools due = inr (inl refl)
due_wanted words bytes new WriteFault text pools due = absurd due
due_wanted words bytes new (StepsOut line) text pools due = absurd due
due_wanted words bytes new Done text pools due =
    may_come Done (λ wants. inr (due.0, wants)) (source_answered bytes new Done text pools due.1)
due_wanted words bytes new (BadTrace line kind) text pools due =
    may_come (BadTrace line kind) (λ wants. inr (due.0, wants))
    (source_answered bytes new (BadTrace line kind) text pools due.1)
due_wanted words bytes new TooLong text pools due =
    may_come TooLong (λ wants. inr (due.0, wants)) (source_answered bytes new TooLong text pools due.1)
due_wanted words bytes new ReadFault text pools due =
    may_come ReadFault (λ wants. inr (due.0, wants)) (source_answered bytes new ReadFault text pools due.1)
