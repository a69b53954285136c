-- Which statuses come, what was read, and what was refused.
use Rattle.std.proofs.Common.{◌≡◌, ℕ, ◌≤◌, ◌⊎◌, inl, inr, List, [], ◌++◌, length, sym, ◌∙◌, ap, subst, Some, None}
use Rattle.std.proofs.Common.{arith}
use Rattle.std.proofs.lemmas.List.{append-nil, length-append}
use Rattle.std.specs.Global.{Global}
use Rattle.std.specs.Io.KnownBytes.{Consumes, IsAtEnd}
use Rattle.std.specs.Prelude.{Vec, Result, Ok, Err, IfOk, OnErr}
use Rattle.std.specs.declared.option.Option.{Option}
use Rattle.trace_reader.proofs.CallerLemmas.{traces_are_clear}
use Rattle.trace_reader.specs.Refusals.{refusal_kind}
use Rattle.trace_reader.specs.Text.{AllRead, FirstRefused}
use Rattle.trace_reader.specs.declared.acts.Forms.{Forms}
use Rattle.trace_reader.specs.declared.refusal.Refusal.{Refusal}
use Rattle.program_edge.specs.Outcome.{Says}
use Rattle.program_edge.specs.Readings.{IsRefused, SpellOne}
use Rattle.program_edge.specs.declared.outcome.Status.{Status}
use Rattle.program_edge.specs.declared.outcome.Status.TheVariants.{BadTrace, NoMemory, ReadFault}

-- a status is wanted, but for want of memory and for a read that failed
abbrev pub MayCome : Type 0 → Status → Type 0
MayCome Wanted status = Wanted ⊎ (status ≡ NoMemory) ⊎ (status ≡ ReadFault)

-- by what it wants, it may come
pub may_come : {Wanted Wanted' : Type 0} (status : Status) → (Wanted → Wanted') → MayCome Wanted status →
    MayCome Wanted' status
may_come status leads (inl wants) = inl (leads wants)
may_come status leads (inr but) = inr but

-- a text that was made is said, or memory ran out
pub said_is : {E : Type 0} (said : Result (Vec ℕ Global) E) (want : List ℕ) (wanted status : Status) (text : List ℕ) →
    IfOk said (λ words. words.items ≡ want) → IfOk said (λ words. Says wanted words.items status text) →
    OnErr said ((status ≡ NoMemory) × (text ≡ [])) → Says wanted want status text
said_is (Ok words) want wanted status text is ok err = subst (λ (w : List ℕ). Says wanted w status text) is ok
said_is (Err failed) want wanted status text is ok err = inr err

-- what was taken is no more than the source had
pub taken_few : (bytes : List ℕ) (new : Option (List ℕ)) (taken : List ℕ) → Consumes (Some bytes) new taken →
    length taken ≤ length bytes
taken_few bytes None taken consumed = absurd consumed
taken_few bytes (Some left) taken consumed =
    omega (arith, ap (λ (t : List ℕ). length t) consumed, length-append taken left)

-- what was read whole is all that the source had
pub all_taken : (bytes : List ℕ) (new : Option (List ℕ)) (taken : List ℕ) → Consumes (Some bytes) new taken →
    IsAtEnd new → taken ≡ bytes
all_taken bytes None taken consumed ended = absurd consumed
all_taken bytes (Some left) taken consumed ended =
    sym (consumed ∙ ap (λ (t : List ℕ). taken ++ t) ended ∙ append-nil taken)

-- no text both spells a trace and is refused
pub not_both : (forms : Forms) (bytes : List ℕ) (line kind : ℕ) → SpellOne forms bytes →
    IsRefused forms bytes line kind → ⊥
not_both forms bytes line kind spelled refused =
    let same : AllRead spelled.0.lines.items _ _ ≡ FirstRefused line refused.0 =
    traces_are_clear forms bytes _ _ spelled.1 refused.1 in
    cc

-- and one line is refused, with one kind
refused_line : {line other : ℕ} {refusal same : Refusal} → FirstRefused line refusal ≡ FirstRefused other same →
    line ≡ other
refused_line is = cc

refused_for : {line other : ℕ} {refusal same : Refusal} → FirstRefused line refusal ≡ FirstRefused other same →
    refusal ≡ same
refused_for is = cc

pub one_refusal : (forms : Forms) (bytes : List ℕ) (line kind other kind' : ℕ) → IsRefused forms bytes line kind →
    IsRefused forms bytes other kind' → BadTrace line kind ≡ BadTrace other kind'
one_refusal forms bytes line kind other kind' one two =
    let same : FirstRefused line one.0 ≡ FirstRefused other two.0 = traces_are_clear forms bytes _ _ one.1 two.1 in
    let kinds : kind ≡ kind' = one.2 ∙ ap (λ (r : Refusal). refusal_kind r) (refused_for same) ∙ sym two.2 in
    ap (λ (l : ℕ). BadTrace l kind) (refused_line same) ∙ ap (λ (k : ℕ). BadTrace other k) kinds
