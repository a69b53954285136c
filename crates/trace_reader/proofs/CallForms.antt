-- What holds of the values that words of a form are read as.
use Rattle.std.proofs.Common.{◌≡◌, ℕ, ◌+◌, ◌<◌, ◌≤◌, inl, inr, Bool, true, false, List, refl, sym, ◌∙◌, ap, subst}
use Rattle.std.specs.Prelude.{Result, Ok, Some, None, slice_get}
use Rattle.std.specs.declared.option.Option.{Option}
use Rattle.trace_reader.specs.declared.refusal.Refusal.{Refusal}
use Rattle.trace_reader.specs.declared.acts.What.{What}
use Rattle.trace_reader.specs.declared.acts.What.TheVariants as what
use Rattle.trace_reader.specs.declared.acts.TraceCall.{TraceCall}
use Rattle.trace_reader.specs.declared.acts.TraceCall.TheVariants as call
use Rattle.trace_reader.specs.declared.keywords.CallWord.{CallWord}
use Rattle.trace_reader.specs.declared.keywords.CallWord.TheVariants.{MallocWord, AlignedWord, ReallocWord, AlignedReallocWord, FreeWord, MsizeWord, IdentifyWord, ExitWord}
use Rattle.trace_reader.specs.Combinators.{Then, Ends, Wraps}
use Rattle.trace_reader.specs.Contexts.{Context}
use Rattle.trace_reader.specs.Slots.{ReadsSize, ReadsNewName, ReadsWhat}
use Rattle.trace_reader.specs.Acts.{AnyNumber, BindingCall, PlainCall, ReadsCall, ReadsCallWord, bound_by}
use Rattle.trace_reader.specs.Served.{HasSmallSize, IsAskedOfBound, IsNextName, asked_of, word_of_call}
use Rattle.trace_reader.proofs.ContextLemmas.{word_read}
use Rattle.trace_reader.proofs.OneSlot.{ok_same, not_both}

-- whatever words of the form are read as, this holds of it
abbrev pub Holds : {A : Type 0} → (A → Type 0) → (List (List ℕ) → ℕ → Result A Refusal → Type 0) → Type 0
Holds {A} P form = (words : List (List ℕ)) (at : ℕ) (value : A) → form words at (Ok value) → P value

pub then_holds : {A B : Type 0} (P : B → Type 0) (slot : List ℕ → Result A Refusal → Type 0) (next : A → List (List ℕ) → ℕ → Result B Refusal → Type 0) →
    ((a : A) (word : List ℕ) → slot word (Ok a) → Holds P (next a)) → Holds P (Then slot next)
then_holds {A} {B} P slot next holds words at value read = elim read [
  | inl refused ↦ absurd (not_both refused.2)
  | inr went ↦ let text = word_read slot (slice_get words at) went.0 went.1 in holds went.0 text.0 text.2 words (at + 1) value went.2
]

pub ends_holds : {A : Type 0} (P : A → Type 0) (value : A) → P value → Holds P (Ends value)
ends_holds {A} P value is words at other read = elim read [
  | inl ended ↦ subst P (sym (ok_same ended.1)) is
  | inr more ↦ absurd (not_both more.1)
]

pub wraps_holds : {A B : Type 0} (Q : A → Type 0) (P : B → Type 0) (wrap : A → B) (form : List (List ℕ) → ℕ → Result A Refusal → Type 0) → ((a : A) → Q a → P (wrap a)) → Holds Q form → Holds P (Wraps wrap form)
wraps_holds {A} {B} Q P wrap form gives holds words at value read = elim read [
  | inl refused ↦ absurd (not_both refused.2)
  | inr went ↦ subst P (sym (ok_same went.2)) (gives went.0 (holds words at went.0 went.1))
]

-- the call is named by this word, and asks for no great size
abbrev pub IsSmallCall : CallWord → TraceCall → Type 0
IsSmallCall word call = (word_of_call call ≡ word) × HasSmallSize call

small_size : (size : ℕ) (word : List ℕ) → ReadsSize false word (Ok size) → size ≤ 8128
small_size size word read = elim read.1 [ inl is ↦ let h : false ≡ true = is in absurd (cc) | inr small ↦ small ]

pub binding_small : (before : Context) (name : ℕ) (word : CallWord) → Holds (IsSmallCall word) (BindingCall false before name word)
binding_small before name MallocWord = then_holds (IsSmallCall MallocWord) (ReadsSize false) (λ size. Ends (call.Malloc name size))
    (λ size text read. ends_holds (IsSmallCall MallocWord) (call.Malloc name size) (refl, small_size size text read))
binding_small before name AlignedWord = then_holds (IsSmallCall AlignedWord) AnyNumber (λ size. Then AnyNumber (λ alignment. Ends (call.Aligned name size alignment)))
    (λ size text read. then_holds (IsSmallCall AlignedWord) AnyNumber (λ alignment. Ends (call.Aligned name size alignment)) (λ alignment text read. ends_holds (IsSmallCall AlignedWord) (call.Aligned name size alignment) (refl, tt)))
binding_small before name ReallocWord = then_holds (IsSmallCall ReallocWord) (ReadsWhat before) (λ what. Then AnyNumber (λ size. Ends (call.Realloc name what size)))
    (λ what text read. then_holds (IsSmallCall ReallocWord) AnyNumber (λ size. Ends (call.Realloc name what size)) (λ size text read. ends_holds (IsSmallCall ReallocWord) (call.Realloc name what size) (refl, tt)))
binding_small before name AlignedReallocWord =
    then_holds (IsSmallCall AlignedReallocWord) (ReadsWhat before) (λ what. Then AnyNumber (λ size. Then AnyNumber (λ alignment. Ends (call.AlignedRealloc name what size alignment))))
    (λ what text read. then_holds (IsSmallCall AlignedReallocWord) AnyNumber (λ size. Then AnyNumber (λ alignment. Ends (call.AlignedRealloc name what size alignment)))
    (λ size text read. then_holds (IsSmallCall AlignedReallocWord) AnyNumber (λ alignment. Ends (call.AlignedRealloc name what size alignment))
    (λ alignment text read. ends_holds (IsSmallCall AlignedReallocWord) (call.AlignedRealloc name what size alignment) (refl, tt))))
binding_small before name FreeWord = λ words at value read. absurd read
binding_small before name MsizeWord = λ words at value read. absurd read
binding_small before name IdentifyWord = λ words at value read. absurd read
binding_small before name ExitWord = λ words at value read. absurd read

pub plain_small : (before : Context) (word : CallWord) → Holds (IsSmallCall word) (PlainCall before word)
plain_small before FreeWord = then_holds (IsSmallCall FreeWord) (ReadsWhat before) (λ what. Ends (call.Free what)) (λ what text read. ends_holds (IsSmallCall FreeWord) (call.Free what) (refl, tt))
plain_small before MsizeWord = then_holds (IsSmallCall MsizeWord) (ReadsWhat before) (λ what. Ends (call.Msize what)) (λ what text read. ends_holds (IsSmallCall MsizeWord) (call.Msize what) (refl, tt))
plain_small before IdentifyWord = then_holds (IsSmallCall IdentifyWord) (ReadsWhat before) (λ what. Ends (call.Identify what)) (λ what text read. ends_holds (IsSmallCall IdentifyWord) (call.Identify what) (refl, tt))
plain_small before ExitWord = ends_holds (IsSmallCall ExitWord) call.Exit (refl, tt)
plain_small before MallocWord = λ words at value read. absurd read
plain_small before AlignedWord = λ words at value read. absurd read
plain_small before ReallocWord = λ words at value read. absurd read
plain_small before AlignedReallocWord = λ words at value read. absurd read

-- the number of the name that a call binds

-- the call binds this name, or none
abbrev pub BindsAs : Option ℕ → TraceCall → Type 0
BindsAs number call = bound_by call ≡ number

pub binding_binds : (more : Bool) (before : Context) (name : ℕ) (word : CallWord) → Holds (BindsAs (Some name)) (BindingCall more before name word)
binding_binds more before name MallocWord = then_holds (BindsAs (Some name)) (ReadsSize more) (λ size. Ends (call.Malloc name size))
    (λ size text read. ends_holds (BindsAs (Some name)) (call.Malloc name size) refl)
binding_binds more before name AlignedWord = then_holds (BindsAs (Some name)) AnyNumber (λ size. Then AnyNumber (λ alignment. Ends (call.Aligned name size alignment)))
    (λ size text read. then_holds (BindsAs (Some name)) AnyNumber (λ alignment. Ends (call.Aligned name size alignment)) (λ alignment text read. ends_holds (BindsAs (Some name)) (call.Aligned name size alignment) refl))
binding_binds more before name ReallocWord = then_holds (BindsAs (Some name)) (ReadsWhat before) (λ what. Then AnyNumber (λ size. Ends (call.Realloc name what size)))
    (λ what text read. then_holds (BindsAs (Some name)) AnyNumber (λ size. Ends (call.Realloc name what size)) (λ size text read. ends_holds (BindsAs (Some name)) (call.Realloc name what size) refl))
binding_binds more before name AlignedReallocWord =
    then_holds (BindsAs (Some name)) (ReadsWhat before) (λ what. Then AnyNumber (λ size. Then AnyNumber (λ alignment. Ends (call.AlignedRealloc name what size alignment))))
    (λ what text read. then_holds (BindsAs (Some name)) AnyNumber (λ size. Then AnyNumber (λ alignment. Ends (call.AlignedRealloc name what size alignment)))
    (λ size text read. then_holds (BindsAs (Some name)) AnyNumber (λ alignment. Ends (call.AlignedRealloc name what size alignment))
    (λ alignment text read. ends_holds (BindsAs (Some name)) (call.AlignedRealloc name what size alignment) refl)))
binding_binds more before name FreeWord = λ words at value read. absurd read
binding_binds more before name MsizeWord = λ words at value read. absurd read
binding_binds more before name IdentifyWord = λ words at value read. absurd read
binding_binds more before name ExitWord = λ words at value read. absurd read

pub plain_binds : (before : Context) (word : CallWord) → Holds (BindsAs None) (PlainCall before word)
plain_binds before FreeWord = then_holds (BindsAs None) (ReadsWhat before) (λ what. Ends (call.Free what)) (λ what text read. ends_holds (BindsAs None) (call.Free what) refl)
plain_binds before MsizeWord = then_holds (BindsAs None) (ReadsWhat before) (λ what. Ends (call.Msize what)) (λ what text read. ends_holds (BindsAs None) (call.Msize what) refl)
plain_binds before IdentifyWord = then_holds (BindsAs None) (ReadsWhat before) (λ what. Ends (call.Identify what)) (λ what text read. ends_holds (BindsAs None) (call.Identify what) refl)
plain_binds before ExitWord = ends_holds (BindsAs None) call.Exit refl
plain_binds before MallocWord = λ words at value read. absurd read
plain_binds before AlignedWord = λ words at value read. absurd read
plain_binds before ReallocWord = λ words at value read. absurd read
plain_binds before AlignedReallocWord = λ words at value read. absurd read

-- names that calls bind and ask for

-- the numbers of the names that were bound lie below their count
abbrev pub AreCounted : Context → Type 0
AreCounted before = (word : List ℕ) (number : ℕ) → before.bound word ≡ Some number → number < before.count

-- the call is asked of one of so many names at most, and binds the next at most
abbrev pub IsInTurn : ℕ → TraceCall → Type 0
IsInTurn count call = IsAskedOfBound count (asked_of call) × IsNextName count (bound_by call)

asked_bound : (before : Context) → AreCounted before → (word : List ℕ) (what : What) → ReadsWhat before word (Ok what) → IsAskedOfBound before.count (Some what)
asked_bound before counted word what.Null read = tt
asked_bound before counted word (what.Name number) read = counted word number read.1
asked_bound before counted word (what.Place place) read = tt

binding_turn : (more : Bool) (before : Context) → AreCounted before → (name : ℕ) → name ≡ before.count → (word : CallWord) → Holds (IsInTurn before.count) (BindingCall more before name word)
binding_turn more before counted name next MallocWord = then_holds (IsInTurn before.count) (ReadsSize more) (λ size. Ends (call.Malloc name size))
    (λ size text read. ends_holds (IsInTurn before.count) (call.Malloc name size) (tt, next))
binding_turn more before counted name next AlignedWord = then_holds (IsInTurn before.count) AnyNumber (λ size. Then AnyNumber (λ alignment. Ends (call.Aligned name size alignment)))
    (λ size text read. then_holds (IsInTurn before.count) AnyNumber (λ alignment. Ends (call.Aligned name size alignment)) (λ alignment text read. ends_holds (IsInTurn before.count) (call.Aligned name size alignment) (tt, next)))
binding_turn more before counted name next ReallocWord = then_holds (IsInTurn before.count) (ReadsWhat before) (λ what. Then AnyNumber (λ size. Ends (call.Realloc name what size)))
    (λ what text asked. then_holds (IsInTurn before.count) AnyNumber (λ size. Ends (call.Realloc name what size))
    (λ size word read. ends_holds (IsInTurn before.count) (call.Realloc name what size) (asked_bound before counted text what asked, next)))
binding_turn more before counted name next AlignedReallocWord =
    then_holds (IsInTurn before.count) (ReadsWhat before) (λ what. Then AnyNumber (λ size. Then AnyNumber (λ alignment. Ends (call.AlignedRealloc name what size alignment))))
    (λ what text asked. then_holds (IsInTurn before.count) AnyNumber (λ size. Then AnyNumber (λ alignment. Ends (call.AlignedRealloc name what size alignment)))
    (λ size word read. then_holds (IsInTurn before.count) AnyNumber (λ alignment. Ends (call.AlignedRealloc name what size alignment))
    (λ alignment word read. ends_holds (IsInTurn before.count) (call.AlignedRealloc name what size alignment) (asked_bound before counted text what asked, next))))
binding_turn more before counted name next FreeWord = λ words at value read. absurd read
binding_turn more before counted name next MsizeWord = λ words at value read. absurd read
binding_turn more before counted name next IdentifyWord = λ words at value read. absurd read
binding_turn more before counted name next ExitWord = λ words at value read. absurd read

plain_turn : (before : Context) → AreCounted before → (word : CallWord) → Holds (IsInTurn before.count) (PlainCall before word)
plain_turn before counted FreeWord = then_holds (IsInTurn before.count) (ReadsWhat before) (λ what. Ends (call.Free what)) (λ what text read. ends_holds (IsInTurn before.count) (call.Free what) (asked_bound before counted text what read, tt))
plain_turn before counted MsizeWord = then_holds (IsInTurn before.count) (ReadsWhat before) (λ what. Ends (call.Msize what)) (λ what text read. ends_holds (IsInTurn before.count) (call.Msize what) (asked_bound before counted text what read, tt))
plain_turn before counted IdentifyWord = then_holds (IsInTurn before.count) (ReadsWhat before) (λ what. Ends (call.Identify what)) (λ what text read. ends_holds (IsInTurn before.count) (call.Identify what) (asked_bound before counted text what read, tt))
plain_turn before counted ExitWord = ends_holds (IsInTurn before.count) call.Exit (tt, tt)
plain_turn before counted MallocWord = λ words at value read. absurd read
plain_turn before counted AlignedWord = λ words at value read. absurd read
plain_turn before counted ReallocWord = λ words at value read. absurd read
plain_turn before counted AlignedReallocWord = λ words at value read. absurd read

pub call_turn : (more : Bool) (before : Context) → AreCounted before → Holds (IsInTurn before.count) (ReadsCall more before)
call_turn more before counted words at value read = elim read [
  | inl named ↦ then_holds (IsInTurn before.count) (ReadsNewName before) (λ name words at. Then (ReadsCallWord true) (BindingCall more before name) words (at + 1))
      (λ name text new words at. then_holds (IsInTurn before.count) (ReadsCallWord true) (BindingCall more before name) (λ word other read. binding_turn more before counted name new.0 word) words (at + 1))
      words at value named.1
  | inr plain ↦ then_holds (IsInTurn before.count) (ReadsCallWord false) (PlainCall before) (λ word text read. plain_turn before counted word) words at value plain.1
]
