-- Each name that a trace asks for was bound by an earlier line, and the names are numbered as they are bound.
use Rattle.std.proofs.Common.{◌≡◌, ℕ, ◌+◌, ◌<◌, ◌⊎◌, inl, inr, Bool, true, false, List, [], ◌∷◌, drop, map, refl, sym, ◌∙◌, ap, subst, arith}
use Rattle.std.specs.Prelude.{Ok, Some, None, if◌then◌else◌}
use Rattle.std.specs.declared.option.Option.{Option}
use Rattle.std.specs.Str.{bytes_eq}
use Rattle.pool_types.specs.Limits.{most_turns}
use Rattle.std.proofs.lemmas.Slice.Eq.{bytes_eq-Decides}
use Rattle.trace_reader.specs.Laws.{NamesAreBoundInTurn, NumbersAreNames}
use Rattle.trace_reader.specs.declared.acts.Forms.{Forms}
use Rattle.trace_reader.specs.declared.acts.Act.{Act}
use Rattle.trace_reader.specs.declared.acts.Act.TheVariants as act
use Rattle.trace_reader.specs.declared.acts.TraceLine.{TraceLine}
use Rattle.trace_reader.specs.declared.keywords.Keyword.{Keyword}
use Rattle.trace_reader.specs.declared.keywords.Keyword.TheVariants.{ThreadsWord, PoolWord, RawWord, BeginWord, StepWord, UpToWord, FinishWord, ResetWord, DestroyWord}
use Rattle.trace_reader.specs.declared.keywords.ScriptWord.{ScriptWord}
use Rattle.trace_reader.specs.declared.keywords.ScriptWord.TheVariants.{GetWord, GetFailWord, PutOkWord, PutFailWord}
use Rattle.trace_reader.specs.Combinators.{Then, Ends, Wraps}
use Rattle.trace_reader.specs.Contexts.{Context}
use Rattle.trace_reader.specs.Slots.{ReadsNextPool, ReadsNumber, ReadsPool, ReadsThread}
use Rattle.trace_reader.specs.Acts.{AnyNumber, CallLine, KeywordLine, PoolOptions, RawEntry, ReadsCall, ReadsRow, ReadsScriptWord, ReadsWords, ThreadsLine, Enters, MayBind, MayEnter, bound_by, serves_more, with_bound, with_pool, word_in}
use Rattle.trace_reader.specs.Text.{nothing_yet}
use Rattle.trace_reader.specs.Served.{AreBoundInTurn, AreNumberedNames, IsBoundInTurn, act_of, after_call, call_in}
use Rattle.trace_reader.proofs.ContextLemmas.{names_give}
use Rattle.trace_reader.proofs.OneSlot.{ok_same, not_both}
use Rattle.trace_reader.proofs.ServedLaws.{Follow, lines_follow}
use Rattle.trace_reader.proofs.EnterLemmas.{enters_count, line_known}
use Rattle.trace_reader.proofs.CallForms.{AreCounted, Holds, IsInTurn, call_turn, ends_holds, then_holds, wraps_holds}

-- what a line does suits the names that were bound
abbrev Suits : ℕ → Act → Type 0
Suits count deed = IsBoundInTurn count (call_in deed)

threads_suit : (more : Bool) (count : ℕ) (before : Context) (words : List (List ℕ)) (deed : Act) → ThreadsLine more before words (Ok deed) → Suits count deed
threads_suit more count before words deed read = elim read [
  | inl named ↦ subst (λ (d : Act). Suits count d) (sym (names_give more [] (drop 1 words) deed named.2)) tt
  | inr refused ↦ absurd (not_both refused.1)
]

pool_suits : (more : Bool) (count : ℕ) (pool : ℕ) → Holds (Suits count) (PoolOptions more pool)
pool_suits more count pool words at deed read = elim read [
  | inl refused ↦ absurd (not_both refused.2)
  | inr rest ↦ elim rest [
    | inl made ↦ subst (λ (d : Act). Suits count d) (sym (ok_same made.3)) tt
    | inr unserved ↦ absurd (not_both unserved.4)
  ]
]

raw_suits : (count : ℕ) (pool : ℕ) (script : ScriptWord) → Holds (Suits count) (RawEntry pool script)
raw_suits count pool GetWord = then_holds (Suits count) AnyNumber (λ base. Then AnyNumber (λ bytes. Ends (act.RawGet pool base bytes)))
    (λ base text read. then_holds (Suits count) AnyNumber (λ bytes. Ends (act.RawGet pool base bytes)) (λ bytes text read. ends_holds (Suits count) (act.RawGet pool base bytes) tt))
raw_suits count pool GetFailWord = ends_holds (Suits count) (act.RawGetFail pool) tt
raw_suits count pool PutOkWord = ends_holds (Suits count) (act.RawPutOk pool) tt
raw_suits count pool PutFailWord = ends_holds (Suits count) (act.RawPutFail pool) tt

keyword_suits : (more : Bool) (before : Context) → AreCounted before → (key : Keyword) (words : List (List ℕ)) (deed : Act) → KeywordLine more before key words (Ok deed) → Suits before.count deed
keyword_suits more before counted ThreadsWord words deed read = threads_suit more before.count before words deed read
keyword_suits more before counted PoolWord words deed read = then_holds (Suits before.count) (ReadsNextPool before) (PoolOptions more) (λ pool text next. pool_suits more before.count pool) words 1 deed read
keyword_suits more before counted RawWord words deed read =
    then_holds (Suits before.count) (ReadsPool before) (λ pool. Then ReadsScriptWord (RawEntry pool)) (λ pool text made. then_holds (Suits before.count) ReadsScriptWord (RawEntry pool) (λ script text is. raw_suits before.count pool script)) words 1 deed read
keyword_suits more before counted BeginWord words deed read =
    then_holds (Suits before.count) (ReadsThread before) (λ thread. Then (ReadsPool before) (λ pool. Wraps (act.Begin thread pool) (ReadsCall more before)))
    (λ thread text known. then_holds (Suits before.count) (ReadsPool before) (λ pool. Wraps (act.Begin thread pool) (ReadsCall more before))
    (λ pool text made. wraps_holds (IsInTurn before.count) (Suits before.count) (act.Begin thread pool) (ReadsCall more before) (λ call turn. turn) (call_turn more before counted))) words 1 deed read
keyword_suits more before counted StepWord words deed read =
    then_holds (Suits before.count) (ReadsThread before) (λ thread. Then (ReadsPool before) (λ pool. Then (ReadsNumber 1 most_turns) (λ turns. Ends (act.Step thread pool turns))))
    (λ thread text known. then_holds (Suits before.count) (ReadsPool before) (λ pool. Then (ReadsNumber 1 most_turns) (λ turns. Ends (act.Step thread pool turns)))
    (λ pool text made. then_holds (Suits before.count) (ReadsNumber 1 most_turns) (λ turns. Ends (act.Step thread pool turns)) (λ turns text some. ends_holds (Suits before.count) (act.Step thread pool turns) tt))) words 1 deed read
keyword_suits more before counted UpToWord words deed read =
    then_holds (Suits before.count) (ReadsThread before) (λ thread. Then (ReadsPool before) (λ pool. Then ReadsRow (λ row. Ends (act.UpTo thread pool row))))
    (λ thread text known. then_holds (Suits before.count) (ReadsPool before) (λ pool. Then ReadsRow (λ row. Ends (act.UpTo thread pool row)))
    (λ pool text made. then_holds (Suits before.count) ReadsRow (λ row. Ends (act.UpTo thread pool row)) (λ row text is. ends_holds (Suits before.count) (act.UpTo thread pool row) tt))) words 1 deed read
keyword_suits more before counted FinishWord words deed read =
    then_holds (Suits before.count) (ReadsThread before) (λ thread. Then (ReadsPool before) (λ pool. Ends (act.Finish thread pool)))
    (λ thread text known. then_holds (Suits before.count) (ReadsPool before) (λ pool. Ends (act.Finish thread pool)) (λ pool text made. ends_holds (Suits before.count) (act.Finish thread pool) tt)) words 1 deed read
keyword_suits more before counted ResetWord words deed read =
    then_holds (Suits before.count) (ReadsPool before) (λ pool. Ends (act.Reset pool)) (λ pool text made. ends_holds (Suits before.count) (act.Reset pool) tt) words 1 deed read
keyword_suits more before counted DestroyWord words deed read =
    then_holds (Suits before.count) (ReadsPool before) (λ pool. Ends (act.Destroy pool)) (λ pool text made. ends_holds (Suits before.count) (act.Destroy pool) tt) words 1 deed read

call_suits : (more : Bool) (before : Context) → AreCounted before → (words : List (List ℕ)) (deed : Act) → CallLine more before words (Ok deed) → Suits before.count deed
call_suits more before counted words deed read =
    then_holds (Suits before.count) (ReadsThread before) (λ thread. Then (ReadsPool before) (λ pool. Wraps (act.Call thread pool) (ReadsCall more before)))
    (λ thread text known. then_holds (Suits before.count) (ReadsPool before) (λ pool. Wraps (act.Call thread pool) (ReadsCall more before))
    (λ pool text made. wraps_holds (IsInTurn before.count) (Suits before.count) (act.Call thread pool) (ReadsCall more before) (λ call turn. turn) (call_turn more before counted))) words 0 deed read

line_suits : (forms : Forms) (before : Context) → AreCounted before → (words : List (List ℕ)) (deed : Act) → ReadsWords forms before words (Ok deed) → Suits before.count deed
line_suits forms before counted words deed read = elim read [
  | inl keyed ↦ keyword_suits (serves_more forms) before counted keyed.0 words deed keyed.3
  | inr rest ↦ elim rest [
    | inl unserved ↦ absurd (not_both unserved.3)
    | inr rest ↦ elim rest [
      | inl unserved ↦ absurd (not_both unserved.4)
      | inr called ↦ call_suits (serves_more forms) before counted words deed called.2
    ]
  ]
]

-- the numbers of the names that are bound after a line lie below their count, and no two names have one number

none_number : {number : ℕ} → ◌≡◌ {A = Option ℕ} None (Some number) → ⊥
none_number same = cc

some_number : {one other : ℕ} → ◌≡◌ {A = Option ℕ} (Some one) (Some other) → one ≡ other
some_number same = cc

-- what a name's number may be, once one more was bound: its own, or an earlier one
either_number : (b : Bool) (number asked : ℕ) (other : Option ℕ) → (if b then Some number else other) ≡ Some asked → ((b ≡ true) × (asked ≡ number)) ⊎ ((b ≡ false) × (other ≡ Some asked))
either_number true number asked other is = inl (refl, sym (some_number is))
either_number false number asked other is = inr (refl, is)

same_word : (one other : List ℕ) → bytes_eq one other ≡ true → one ≡ other
same_word one other is = (bytes_eq-Decides one other).0 is

one_numbered : (before : Context) (number : Option ℕ) (bound : List ℕ) → MayBind before number bound → AreNumberedNames before → AreNumberedNames (with_bound before number bound)
one_numbered before None bound known are = are
one_numbered before (Some number) bound known are = record {
  counted = λ word asked is. elim (either_number (bytes_eq bound word) number asked (before.bound word) is) [
    | inl new ↦ omega (arith, new.1, known.0)
    | inr old ↦ omega (arith, are.counted word asked old.1)
  ];
  apart = λ one other asked is also. elim (either_number (bytes_eq bound one) number asked (before.bound one) is) [
    | inl new ↦ elim (either_number (bytes_eq bound other) number asked (before.bound other) also) [
      | inl newer ↦ sym (same_word bound one new.0) ∙ same_word bound other newer.0
      | inr old ↦ absurd (omega (arith, new.1, known.0, are.counted other asked old.1))
    ]
    | inr old ↦ elim (either_number (bytes_eq bound other) number asked (before.bound other) also) [
      | inl new ↦ absurd (omega (arith, new.1, known.0, are.counted one asked old.1))
      | inr older ↦ are.apart one other asked old.1 older.1
    ]
  ];
}

bound_same : (before next : Context) → next.bound ≡ before.bound → next.count ≡ before.count → AreNumberedNames before → AreNumberedNames next
bound_same before next bound count are = record {
  counted = λ word number is. omega (arith, count, are.counted word number (sym (ap (λ (f : List ℕ → Option ℕ). f word) bound) ∙ is));
  apart = λ one other number is also. are.apart one other number (sym (ap (λ (f : List ℕ → Option ℕ). f one) bound) ∙ is) (sym (ap (λ (f : List ℕ → Option ℕ). f other) bound) ∙ also);
}

unbound_same : (before between next : Context) → next ≡ between → between.bound ≡ before.bound → between.count ≡ before.count → AreNumberedNames before → AreNumberedNames next
unbound_same before between next same bound count are =
    bound_same before next (ap (λ (c : Context). c.bound) same ∙ bound) (ap (λ (c : Context). c.count) same ∙ count) are

numbered_after : (before : Context) (words : List (List ℕ)) (deed : Act) (next : Context) → MayEnter before words deed → Enters before words deed next → AreNumberedNames before → AreNumberedNames next
numbered_after before words act.Threads next known enters are = unbound_same before (record before { names = drop 1 words }) next enters refl refl are
numbered_after before words (act.Pool pool) next known enters are = unbound_same before (with_pool before enters.0) next enters.2 refl refl are
numbered_after before words (act.Call thread pool call) next known enters are = subst AreNumberedNames (sym enters) (one_numbered before (bound_by call) (word_in words 2) known are)
numbered_after before words (act.Begin thread pool call) next known enters are = subst AreNumberedNames (sym enters) (one_numbered before (bound_by call) (word_in words 3) known are)
numbered_after before words (act.RawGet pool base bytes) next known enters are = subst AreNumberedNames (sym enters) are
numbered_after before words (act.RawGetFail pool) next known enters are = subst AreNumberedNames (sym enters) are
numbered_after before words (act.RawPutOk pool) next known enters are = subst AreNumberedNames (sym enters) are
numbered_after before words (act.RawPutFail pool) next known enters are = subst AreNumberedNames (sym enters) are
numbered_after before words (act.Step thread pool turns) next known enters are = subst AreNumberedNames (sym enters) are
numbered_after before words (act.UpTo thread pool row) next known enters are = subst AreNumberedNames (sym enters) are
numbered_after before words (act.Finish thread pool) next known enters are = subst AreNumberedNames (sym enters) are
numbered_after before words (act.Reset pool) next known enters are = subst AreNumberedNames (sym enters) are
numbered_after before words (act.Destroy pool) next known enters are = subst AreNumberedNames (sym enters) are

none_numbered : AreNumberedNames nothing_yet
none_numbered = record { counted = λ word number is. absurd (none_number is); apart = λ one other number is also. absurd (none_number is) }

pub numbers_are_names : NumbersAreNames
numbers_are_names = (none_numbered, λ forms before next words deed read enters are. numbered_after before words deed next (line_known forms before words deed read) enters are)

turns_follow : (forms : Forms) (before : Context) (least : ℕ) (lines : List TraceLine) (last : Context) → AreNumberedNames before → Follow forms before least lines last → AreBoundInTurn before.count (map act_of lines)
unfolding Follow
turns_follow forms before least [] last are follow = tt
turns_follow forms before least (line ∷ lines) last are follow = (
  line_suits forms before are.counted follow.0 line.act follow.2.read,
  subst (λ (count : ℕ). AreBoundInTurn count (map act_of lines)) (enters_count before follow.0 line.act follow.1 follow.3)
      (turns_follow forms follow.1 (line.line + 1) lines last
      (numbered_after before follow.0 line.act follow.1 (line_known forms before follow.0 line.act follow.2.read) follow.3 are) follow.4),
)

pub names_are_bound_in_turn : NamesAreBoundInTurn
names_are_bound_in_turn forms bytes trace read =
    let to = lines_follow forms nothing_yet 1 read.texts read.last trace.lines.items _ _ read.reads in
    turns_follow forms nothing_yet 1 trace.lines.items to.last none_numbered to.follow
