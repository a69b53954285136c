-- Lines read one after another.
use Rattle.std.proofs.Common.{◌≡◌, ◌≢◌, ◌==◌, ℕ, ◌+◌, ◌<◌, ◌≤◌, inl, inr, true, false, List, [], ◌∷◌, ◌++◌, length, refl, sym, ◌∙◌, ap, subst, append_assoc, append-nil, arith}
use Rattle.std.proofs.lemmas.Bool.Decides.{Decides-eqb}
use Rattle.std.specs.Prelude.{Result, Ok, Err, Some, None}
use Rattle.std.specs.declared.option.Option.{Option}
use Rattle.arrayvec.specs.ArrayVec.{ArrayVec}
use Rattle.pool_types.specs.Limits.{most_lines}
use Rattle.trace_reader.specs.declared.refusal.Refusal.{Refusal}
use Rattle.trace_reader.specs.declared.refusal.Refusal.TheVariants.{NoNewline}
use Rattle.trace_reader.specs.declared.acts.Forms.{Forms}
use Rattle.trace_reader.specs.declared.acts.PoolOption.{PoolOption}
use Rattle.trace_reader.specs.declared.acts.Act.{Act}
use Rattle.trace_reader.specs.declared.acts.TraceLine.{TraceLine}
use Rattle.trace_reader.specs.Words.{HasNo, split_on, words_of}
use Rattle.trace_reader.specs.Contexts.{Context}
use Rattle.trace_reader.specs.Acts.{Enters}
use Rattle.trace_reader.specs.Text.{Outcome, AllRead, FirstRefused, IsReadAs, IsReadFrom, ReadsLine, ReadsLines, behind}
use Rattle.trace_reader.specs.Steps.{AddsLine, StepsTo}
use Rattle.trace_reader.proofs.WordLemmas.{split_first, split_last, split_none}
use Rattle.trace_reader.proofs.EnterLemmas.{enters_few}

-- a line that was read is one of the lines that there may be
pub line_fits : (forms : Forms) (before : Context) (number : ℕ) (text : List ℕ) (result : Option Act) → ReadsLine forms before number text (Ok result) → number ≤ most_lines
line_fits forms before number text result read = elim read [
  | inl long ↦ let h : ◌≡◌ {A = Result (Option Act) Refusal} (Ok result) (Err _) = long.1 in absurd (cc)
  | inr rest ↦ elim rest [
    | inl many ↦ let h : ◌≡◌ {A = Result (Option Act) Refusal} (Ok result) (Err _) = many.2 in absurd (cc)
    | inr rest ↦ elim rest [
      | inl skipped ↦ skipped.1
      | inr rest ↦ elim rest [ inl refused ↦ refused.1 | inr read ↦ read.1 ]
    ]
  ]
]

-- nothing in front
behind-nil : (outcome : Outcome) → behind [] outcome ≡ outcome
behind-nil (AllRead lines names pools) = refl
behind-nil (FirstRefused line refusal) = refl

behind-append : (lines more : List TraceLine) (outcome : Outcome) → behind (lines ++ more) outcome ≡ behind lines (behind more outcome)
behind-append lines more (AllRead rest names pools) = ap (λ (all : List TraceLine). AllRead all names pools) (append_assoc lines more rest)
behind-append lines more (FirstRefused line refusal) = refl

-- a text whose first line is this one, and what stands behind that
pub record BeginsLine (bytes text rest : List ℕ) : Type 0 where
  pub is : bytes ≡ text ++ 10 ∷ rest
  pub whole : HasNo 10 text

-- its parts
parts_of : (bytes text rest : List ℕ) → BeginsLine bytes text rest → split_on 10 bytes ≡ text ∷ split_on 10 rest
parts_of bytes text rest begins = ap (λ (b : List ℕ). split_on 10 b) begins.is ∙ split_first 10 text rest begins.whole

-- its first line is refused
line_refused : (forms : Forms) (before : Context) (number : ℕ) (bytes text rest : List ℕ) (refusal : Refusal) → BeginsLine bytes text rest → ReadsLine forms before number text (Err refusal) →
    IsReadFrom forms before number bytes (FirstRefused number refusal)
line_refused forms before number bytes text rest refusal begins read =
    let parts = split_last 10 rest in
    record {
      texts = text ∷ parts.texts;
      last = parts.last;
      parts = parts_of bytes text rest begins ∙ ap (λ (ps : List (List ℕ)). text ∷ ps) parts.are;
      reads = inl (refusal, read, refl);
    }

-- its first line is skipped, or read
line_skipped : (forms : Forms) (before : Context) (number : ℕ) (bytes text rest : List ℕ) (outcome : Outcome) → BeginsLine bytes text rest → ReadsLine forms before number text (Ok None) →
    IsReadFrom forms before (number + 1) rest outcome → IsReadFrom forms before number bytes outcome
line_skipped forms before number bytes text rest outcome begins read more = record {
  texts = text ∷ more.texts;
  last = more.last;
  parts = parts_of bytes text rest begins ∙ ap (λ (ps : List (List ℕ)). text ∷ ps) more.parts;
  reads = inr (inl (read, more.reads));
}

line_read : (forms : Forms) (before next : Context) (number : ℕ) (bytes text rest : List ℕ) (act : Act) (outcome : Outcome) → BeginsLine bytes text rest → ReadsLine forms before number text (Ok (Some act)) →
    Enters before (words_of text) act next → IsReadFrom forms next (number + 1) rest outcome → IsReadFrom forms before number bytes (behind (record { line = number; act = act } ∷ []) outcome)
line_read forms before next number bytes text rest act outcome begins read enters more = record {
  texts = text ∷ more.texts;
  last = more.last;
  parts = parts_of bytes text rest begins ∙ ap (λ (ps : List (List ℕ)). text ∷ ps) more.parts;
  reads = inr (inr (act, next, outcome, read, enters, more.reads, refl));
}

-- What was read of the first lines, up to the line of this number: whatever the rest is read as, the whole is read as the lines so far
-- and then that.
pub record ReadSoFar (forms : Forms) (bytes rest : List ℕ) (number : ℕ) (now : Context) (lines : List TraceLine) : Type 0 where
  pub some : 1 ≤ number
  pub few : number ≤ most_lines + 1
  pub counted : now.count < number
  pub makes : (outcome : Outcome) → IsReadFrom forms now number rest outcome → IsReadAs forms bytes (behind lines outcome)

-- one line is refused
pub one_refused : (forms : Forms) (bytes rest text more : List ℕ) (number : ℕ) (now next : Context) (lines after : List TraceLine) (refusal : Refusal) → BeginsLine rest text more →
    ReadSoFar forms bytes rest number now lines → AddsLine forms number text now lines (Some refusal) next after → IsReadAs forms bytes (FirstRefused number refusal)
one_refused forms bytes rest text more number now next lines after refusal begins so_far adds =
    so_far.makes (FirstRefused number refusal) (line_refused forms now number rest text more refusal begins adds)

-- one line more is read
goes_on : (forms : Forms) (bytes rest text more : List ℕ) (number : ℕ) (now next : Context) (lines after : List TraceLine) (result : Option Act) (outcome : Outcome) → BeginsLine rest text more →
    ReadSoFar forms bytes rest number now lines → ReadsLine forms now number text (Ok result) → StepsTo number text now lines result next after → IsReadFrom forms next (number + 1) more outcome →
    IsReadAs forms bytes (behind after outcome)
goes_on forms bytes rest text more number now next lines after None outcome begins so_far read steps reads =
    subst (λ (ls : List TraceLine). IsReadAs forms bytes (behind ls outcome)) (sym steps.1)
    (so_far.makes outcome (line_skipped forms now number rest text more outcome begins read (subst (λ (b : Context). IsReadFrom forms b (number + 1) more outcome) steps.0 reads)))
goes_on forms bytes rest text more number now next lines after (Some act) outcome begins so_far read steps reads =
    let line : TraceLine = record { line = number; act = act } in
    subst (λ (o : Outcome). IsReadAs forms bytes o) (sym (behind-append lines (line ∷ []) outcome) ∙ ap (λ (ls : List TraceLine). behind ls outcome) (sym steps.1))
    (so_far.makes (behind (line ∷ []) outcome) (line_read forms now next number rest text more act outcome begins read steps.0 reads))

-- and binds one name at most
still_counted : (number : ℕ) (text : List ℕ) (now next : Context) (lines after : List TraceLine) (result : Option Act) → StepsTo number text now lines result next after → next.count ≤ now.count + 1
still_counted number text now next lines after None steps = omega (arith, ap (λ (c : Context). c.count) steps.0)
still_counted number text now next lines after (Some act) steps = enters_few now (words_of text) act next steps.0

pub one_read : (forms : Forms) (bytes rest text more : List ℕ) (number : ℕ) (now next : Context) (lines after : List TraceLine) → BeginsLine rest text more →
    ReadSoFar forms bytes rest number now lines → AddsLine forms number text now lines None next after → ReadSoFar forms bytes more (number + 1) next after
one_read forms bytes rest text more number now next lines after begins so_far adds = record {
  some = omega arith;
  few = omega (arith, line_fits forms now number text adds.0 adds.1);
  counted = omega (arith, so_far.counted, still_counted number text now next lines after adds.0 adds.2);
  makes = λ outcome reads. goes_on forms bytes rest text more number now next lines after adds.0 outcome begins so_far adds.1 adds.2 reads;
}

-- behind the last newline
last_parts : (rest : List ℕ) → HasNo 10 rest → split_on 10 rest ≡ [] ++ rest ∷ []
last_parts rest none = split_none 10 rest none

pub all_read : (forms : Forms) (bytes rest : List ℕ) (number : ℕ) (now : Context) (lines : List TraceLine) → HasNo 10 rest → rest ≡ [] → ReadSoFar forms bytes rest number now lines →
    IsReadAs forms bytes (AllRead lines now.names now.pools)
all_read forms bytes rest number now lines whole none so_far =
    subst (λ (o : Outcome). IsReadAs forms bytes o) (ap (λ (ls : List TraceLine). AllRead ls now.names now.pools) (append-nil lines))
    (so_far.makes (AllRead [] now.names now.pools) (record { texts = []; last = rest; parts = last_parts rest whole; reads = inl (none, refl) }))

pub last_refused : (forms : Forms) (bytes rest : List ℕ) (number : ℕ) (now : Context) (lines : List TraceLine) → HasNo 10 rest → rest ≢ [] → ReadSoFar forms bytes rest number now lines →
    IsReadAs forms bytes (FirstRefused number NoNewline)
last_refused forms bytes rest number now lines whole some so_far =
    so_far.makes (FirstRefused number NoNewline) (record { texts = []; last = rest; parts = last_parts rest whole; reads = inr (some, refl) })

-- a text of no length, and one of some
pub empty_text : (text : List ℕ) → true ≡ (length text == 0) → text ≡ []
empty_text [] is = refl
empty_text (byte ∷ bytes) is = absurd (omega (arith, (Decides-eqb (length (byte ∷ bytes)) 0).0 (sym is)))

pub some_text : (text : List ℕ) → false ≡ (length text == 0) → text ≢ []
some_text text is none = let h : false ≡ true = subst (λ (t : List ℕ). false ≡ (length t == 0)) none is in cc
