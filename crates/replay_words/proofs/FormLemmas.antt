-- Which forms are commands.
use Rattle.std.proofs.Common.{◌≡◌, ℕ, ◌≢◌, List, [], ◌∷◌, Some, true, false, refl, sym, ap, ◌∙◌, ◌+◌, ◌<◌, codes, lit<, lit≤}
use Rattle.std.proofs.lemmas.Fmt.{decimal_digit}
use Rattle.clap.specs.Walk.{first_of}
use Rattle.clap.specs.Faults.{fault_of}
use Rattle.clap.proofs.OnLiterals.{clap_on_literals}
use Rattle.replay_words.specs.Apps.{gen_app, replay_app}
use Rattle.replay_words.specs.Commands.{Gives, HasMoves, IsAccepted, IsCommand, rows_given}
use Rattle.replay_words.specs.Laws.{FormsAreCommands}
use Rattle.replay_words.specs.declared.command.Command.{Command}
use Rattle.replay_words.specs.declared.command.Command.TheVariants.{Gen, Replay}

-- what names no generated trace, and is refused by `replay`, is no command
no_command : (words : List (List ℕ)) → (IsAccepted replay_app (codes "replay" ∷ words) → ⊥)
    → (command : Command) → IsCommand (codes "replay" ∷ words) command → ⊥
no_command words refused (Replay moves) is = refused is.accepted
no_command words refused (Gen seed threads calls) is =
    let clash : Some (codes "replay") ≡ Some (codes "gen") = is.first in absurd cc

now_refused : IsAccepted replay_app (codes "replay" ∷ codes "now" ∷ []) → ⊥
unfolding clap_on_literals IsAccepted
now_refused is = let clash = is in absurd cc

help_refused : IsAccepted replay_app (codes "replay" ∷ codes "--help" ∷ []) → ⊥
unfolding clap_on_literals IsAccepted
help_refused is = let clash = is in absurd cc

-- the words of a generated trace whose numbers have one digit
abbrev gen_words : List (List ℕ)
gen_words = codes "gen" ∷ codes "7" ∷ codes "4" ∷ codes "9" ∷ []

digit : (id : List ℕ) (n : ℕ) → n < 10 → first_of id (rows_given gen_app gen_words) ≡ Some ((48 + n) ∷ [])
    → Gives id (rows_given gen_app gen_words) n
unfolding Gives
digit id n small is = is ∙ ap (λ (text : List ℕ). Some text) (sym (decimal_digit n small))

pub forms_are_commands : FormsAreCommands
unfolding clap_on_literals IsAccepted HasMoves Gives rows_given
forms_are_commands = record {
  replay = record { first = refl; accepted = refl; has = λ is. let clash : Some (codes "false") ≡ Some (codes "true") = is in absurd cc };
  moves = record { first = refl; accepted = refl; has = refl };
  gen = record {
    first = refl;
    accepted = refl;
    numbers = record {
      seed_given = digit (codes "seed") 7 (lit< tt) refl;
      seed_in = lit< tt;
      threads_given = digit (codes "threads") 4 (lit< tt) refl;
      calls_given = digit (codes "calls") 9 (lit< tt) refl;
      in_range = record { some = lit≤ tt; threads_in = lit≤ tt; calls_in = lit≤ tt };
    };
  };
  other = no_command (codes "now" ∷ []) now_refused;
  help = no_command (codes "--help" ∷ []) help_refused;
}
