-- Each fixed word has a text of its own.
use Rattle.std.proofs.Common.{◌≡◌, ℕ, List, [], ◌∷◌, refl, sym, ◌∙◌, ap}
use Rattle.std.specs.Prelude.{Some}
use Rattle.std.specs.declared.option.Option.{Option}
use Rattle.std.specs.List.{find}
use Rattle.std.specs.Str.{bytes_eq}
use Rattle.std.proofs.lemmas.Option.{same_Some}
use Rattle.trace_reader.specs.declared.keywords.Keyword.{Keyword}
use Rattle.trace_reader.specs.declared.keywords.Keyword.TheVariants.{ThreadsWord, PoolWord, RawWord, BeginWord, StepWord, UpToWord, FinishWord, ResetWord, DestroyWord}
use Rattle.trace_reader.specs.declared.keywords.CallWord.{CallWord}
use Rattle.trace_reader.specs.declared.keywords.CallWord.TheVariants.{MallocWord, AlignedWord, ReallocWord, AlignedReallocWord, FreeWord, MsizeWord, IdentifyWord, ExitWord}
use Rattle.trace_reader.specs.declared.keywords.ScriptWord.{ScriptWord}
use Rattle.trace_reader.specs.declared.keywords.ScriptWord.TheVariants.{GetWord, GetFailWord, PutOkWord, PutFailWord}
use Rattle.trace_reader.specs.Keywords.{keyword_text, call_text, script_text}

-- the first of the keywords that has this text
keyword_back : List ℕ → Option Keyword
keyword_back word = find (λ one. bytes_eq (keyword_text one) word) (ThreadsWord ∷ PoolWord ∷ RawWord ∷ BeginWord ∷ StepWord ∷ UpToWord ∷ FinishWord ∷ ResetWord ∷ DestroyWord ∷ [])

keyword_found : (one : Keyword) → keyword_back (keyword_text one) ≡ Some one
unfolding keyword_back
keyword_found ThreadsWord = refl
keyword_found one = refl

pub keyword_same : (one other : Keyword) → keyword_text one ≡ keyword_text other → one ≡ other
keyword_same one other same = same_Some _ _ (sym (keyword_found one) ∙ ap keyword_back same ∙ keyword_found other)

-- the first of the calls that has this text
call_back : List ℕ → Option CallWord
call_back word = find (λ one. bytes_eq (call_text one) word) (MallocWord ∷ AlignedWord ∷ ReallocWord ∷ AlignedReallocWord ∷ FreeWord ∷ MsizeWord ∷ IdentifyWord ∷ ExitWord ∷ [])

call_found : (one : CallWord) → call_back (call_text one) ≡ Some one
unfolding call_back
call_found MallocWord = refl
call_found one = refl

pub call_same : (one other : CallWord) → call_text one ≡ call_text other → one ≡ other
call_same one other same = same_Some _ _ (sym (call_found one) ∙ ap call_back same ∙ call_found other)

-- the first of the scripts' entries that has this text
script_back : List ℕ → Option ScriptWord
script_back word = find (λ one. bytes_eq (script_text one) word) (GetWord ∷ GetFailWord ∷ PutOkWord ∷ PutFailWord ∷ [])

script_found : (one : ScriptWord) → script_back (script_text one) ≡ Some one
unfolding script_back
script_found GetWord = refl
script_found one = refl

pub script_same : (one other : ScriptWord) → script_text one ≡ script_text other → one ≡ other
script_same one other same = same_Some _ _ (sym (script_found one) ∙ ap script_back same ∙ script_found other)
