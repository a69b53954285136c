-- Which words a command accepts.
use Rattle.std.proofs.Common.{◌≡◌, ◌≢◌, ℕ, Bool, true, false, ◌&&◌, inl, inr, List, [], ◌∷◌, refl, sym, ◌∙◌, ap, subst, Some, None}
use Rattle.std.specs.Prelude.{Ok, Err, Result}
use Rattle.clap.specs.Faults.{fault_of, is_free_app, is_simple_and_free}
use Rattle.clap.specs.Kinds.{FailsBy, HasKind, Kinds}
use Rattle.clap.specs.Simple.{App, HasMatchesOf, built, is_simple}
use Rattle.clap.specs.Values.{kind_of}
use Rattle.clap.specs.declared.error.Error.{Error}
use Rattle.clap.specs.declared.error.kind.ErrorKind.TheVariants.{OutOfMemory}
use Rattle.clap.specs.declared.parser.matches.ArgMatches.{ArgMatches}
use Rattle.replay_words.specs.Commands.{Accepts, IsAccepted, rows_given}

first_holds : (one other : Bool) → one && other ≡ true → one ≡ true
first_holds true other is = refl
first_holds false other is = absurd (let clash : false ≡ true = is in cc)

-- words that a simple command gives matches for are accepted, and the matches are those of the words
pub accepts_matches : (app : App) (words : List (List ℕ)) (matches : ArgMatches) → is_simple_and_free app ≡ true
    → fault_of app words ≡ [] → HasMatchesOf app words matches → Accepts app words (Some matches)
unfolding IsAccepted rows_given
accepts_matches app words matches simple none has =
    (none, (has (first_holds (is_simple app) (is_free_app (built app)) simple)).0)

no_kind : (kinds : Kinds) (error : Error) → kind_of error ≢ OutOfMemory → HasKind kinds error → kinds ≡ [] → ⊥
no_kind [] error other (inl memory) is = other memory
no_kind [] error other (inr among) is = among
no_kind (kind ∷ kinds) error other has is = let clash = is in absurd cc

-- words that it refuses are not
pub refuses : (app : App) (words : List (List ℕ)) (error : Error) → kind_of error ≢ OutOfMemory
    → HasKind (fault_of app words) error → Accepts app words None
unfolding IsAccepted
refuses app words error other has = no_kind (fault_of app words) error other has
