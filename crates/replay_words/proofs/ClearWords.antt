-- Words are those of one command at most.
use Rattle.std.proofs.Common.{◌≡◌, ℕ, ◌<◌, ◌^◌, List, Some, Bool, true, false, refl, sym, ◌∙◌, ap, codes, arith, subst}
use Rattle.std.specs.Prelude.{slice_get}
use Rattle.clap.specs.Walk.{Row}
use Rattle.replay_words.specs.Apps.{gen_app, replay_app}
use Rattle.replay_words.specs.Commands.{AreInRange, AreNumbers, GivesNumber, HasMoves, IsGen, IsReplay, rows_given}
use Rattle.replay_words.specs.Laws.{WordsAreClear}
use Rattle.replay_words.specs.declared.command.Command.{Command}
use Rattle.replay_words.specs.declared.command.Command.TheVariants.{Gen, Replay}
use Rattle.replay_words.proofs.WordLemmas.{gives_one}

-- the flag is given, or it is not
one_flag : (rows : List Row) (one other : Bool) → HasMoves rows one → HasMoves rows other → one ≡ other
unfolding HasMoves
one_flag rows true true is is' = refl
one_flag rows false false is is' = refl
one_flag rows true false is is' = absurd (is' is)
one_flag rows false true is is' = absurd (is is')

-- no word is both names
no_name : (words : List (List ℕ)) → slice_get words 0 ≡ Some (codes "replay") → slice_get words 0 ≡ Some (codes "gen") → ⊥
no_name words is is' = let clash : Some (codes "replay") ≡ Some (codes "gen") = sym is ∙ is' in absurd cc

-- the numbers are settled
one_gen : (rows : List Row) (s t c s' t' c' : ℕ) → AreNumbers rows s t c → AreNumbers rows s' t' c' → Gen s t c ≡ Gen s' t' c'
one_gen rows s t c s' t' c' is is' =
    ap (λ (n : ℕ). Gen n t c) (gives_one (codes "seed") rows s s' is.seed_in is'.seed_in is.seed_given is'.seed_given)
    ∙ ap (λ (n : ℕ). Gen s' n c) (gives_one (codes "threads") rows t t' (omega (arith, is.in_range.threads_in)) (omega (arith, is'.in_range.threads_in)) is.threads_given is'.threads_given)
    ∙ ap (λ (n : ℕ). Gen s' t' n) (gives_one (codes "calls") rows c c' (omega (arith, is.in_range.calls_in)) (omega (arith, is'.in_range.calls_in)) is.calls_given is'.calls_given)

-- texts that spell numbers out of their ranges spell none in them
pub none_in_range : (rows : List Row) (threads calls : ℕ) → GivesNumber (codes "threads") rows (Some threads)
    → GivesNumber (codes "calls") rows (Some calls) → (AreInRange threads calls → ⊥)
    → (s t c : ℕ) → AreNumbers rows s t c → ⊥
none_in_range rows threads calls gives counts out s t c are =
    let same : t ≡ threads = gives_one (codes "threads") rows t threads (omega (arith, are.in_range.threads_in)) gives.1 are.threads_given gives.0 in
    let same' : c ≡ calls = gives_one (codes "calls") rows c calls (omega (arith, are.in_range.calls_in)) counts.1 are.calls_given counts.0 in
    out (subst (λ (n : ℕ). AreInRange n calls) same (subst (λ (n : ℕ). AreInRange t n) same' are.in_range))

pub words_are_clear : WordsAreClear
words_are_clear words (Replay one) (Replay other) is is' =
    ap (λ (b : Bool). Replay b) (one_flag (rows_given replay_app words) one other is.has is'.has)
words_are_clear words (Replay one) (Gen s t c) is is' = absurd (no_name words is.first is'.first)
words_are_clear words (Gen s t c) (Replay other) is is' = absurd (no_name words is'.first is.first)
words_are_clear words (Gen s t c) (Gen s' t' c') is is' = one_gen (rows_given gen_app words) s t c s' t' c' is.numbers is'.numbers
